-- Printed boards, and the layouts that they are.
use Rattle.std.proofs.Common.{◌≡◌, ◌≢◌, ◌⊎◌, ℕ, ◌<◌, ◌≤◌, List, [], ◌∷◌, ◌++◌, length, None, codes, decimal, ◌+◌, IsTrue, Ok, ◌∙◌, sym, ap, subst, refl, append_assoc, append-nil}
use Rattle.std.specs.List.{flat_map, AllByRecursion}
use Rattle.std.proofs.lemmas.List.Concat.{flat_map-append}
use Rattle.jup_board.specs.Prelude.{most_entries, IsU32, Name, Widget, Windows, IsId, Line}
use Rattle.jup_window.specs.Boards as board
use Rattle.jup_window.specs.Entries.{AreOver}
use Rattle.jup_text.specs.Boards.{board_text, Draft, IsTaken, IsHeld}
use Rattle.jup_wire.specs.declared.line.Line.TheVariants.{Char, Item}
use Rattle.jup_wire.specs.Lines.{HasSpelling, is_spelled, line_bytes}
use Rattle.jup_layout.specs.Drafts.{board_lines, AreLines, Describes}
use Rattle.jup_board.specs.declared.ending.BoardEnd.{BoardEnd}
use Rattle.jup_board.specs.declared.ending.BoardEnd.TheVariants.{Line as BadLine, Layout, LongBoard, LongInput, LongLayout, Unread, Unprinted, NoMemory}

-- Texts that spell a board as it is printed.

-- the byte is not among these
abbrev pub Lacks : ℕ → List ℕ → Type 0
Lacks byte bytes = AllByRecursion (λ other. other ≢ byte) bytes

-- what a server prints before its board: where it listens, and how many edits it accepted
pub record IsListening (text : List ℕ) : Type 0 where
  pub address : List ℕ
  pub one_line : Lacks 10 address
  pub spelled : text ≡ codes "listening " ++ address ++ 10 ∷ []

pub record IsOrder (text : List ℕ) : Type 0 where
  pub edits : ℕ
  pub small : IsU32 edits
  pub spelled : text ≡ codes "order " ++ decimal edits ++ 10 ∷ []

-- either line may be missing
pub record IsHeading (text : List ℕ) : Type 0 where
  pub listening : List ℕ
  pub order : List ℕ
  pub first : (listening ≡ []) ⊎ IsListening listening
  pub second : (order ≡ []) ⊎ IsOrder order
  pub whole : text ≡ listening ++ order

-- ---- which texts are printed boards

-- each id is from 1 to 65,535, and no other entry has it
abbrev pub HaveOwnIds : {A : Type 0} → List (ℕ × A) → Type 0
HaveOwnIds [] = Unit {0}
HaveOwnIds (entry ∷ entries) = (0 < entry.0) × (IsId entry.0 × (AllByRecursion (λ other. other.0 ≢ entry.0) entries × HaveOwnIds entries))

-- the windows of a board, or the widgets of a window, in any order
abbrev pub AreEntries : {A : Type 0} → List (ℕ × A) → Type 0
AreEntries entries = HaveOwnIds entries × (length entries ≤ most_entries)

-- each widget is one that a board may have
abbrev pub IsPrintableWindow : ℕ × List (ℕ × Widget) → Type 0
IsPrintableWindow window = AreEntries window.1 × AllByRecursion (λ widget. IsHeld 0 widget.1) window.1

abbrev pub ArePrintable : Windows → Type 0
ArePrintable windows = AreEntries windows × AllByRecursion IsPrintableWindow windows

-- a heading, if any, and then a line for each of these windows, and after it one for each of its widgets
pub record IsPrinted (text : List ℕ) : Type 0 where
  pub heading : List ℕ
  pub windows : Windows
  pub is_heading : IsHeading heading
  pub printable : ArePrintable windows
  pub whole : text ≡ heading ++ board_text windows

-- ids ascend, up to 65,535
abbrev pub Ascends : {A : Type 0} → List (ℕ × A) → Type 0
Ascends entries = AreOver 0 entries × AllByRecursion (λ entry. IsId entry.0) entries

-- so do those of the windows, and of the widgets of each, as on a board
abbrev pub AreAscending : Windows → Type 0
AreAscending windows = Ascends windows × AllByRecursion (λ window. Ascends window.1) windows

-- ---- the board that a text prints

-- lines as bytes, each with its line feed
abbrev pub lines_text : List (List ℕ) → List ℕ
lines_text lines = flat_map (λ line. line ++ 10 ∷ []) lines

-- each line is taken in its turn
abbrev pub AreTaken : Draft → List (List ℕ) → Draft → Type 0
AreTaken old [] new = old ≡ new
AreTaken old (line ∷ lines) new = (next : Draft) × IsTaken old line next × AreTaken next lines new

-- no line was read yet
abbrev pub blank : Draft
blank = ([], None, 0)

-- lines that are taken, and what is left of the text
pub record IsReadTo (text rest : List ℕ) (draft : Draft) : Type 0 where
  pub lines : List (List ℕ)
  pub spelled : text ≡ lines_text lines ++ rest
  pub taken : AreTaken blank lines draft

-- a heading, if any, and then the lines of this board, with its items named 0.1, 0.2 and so on in the order of the lines
pub record IsPrintOf (windows : Windows) (text : List ℕ) : Type 0 where
  pub heading : List ℕ
  pub lines : List ℕ
  pub draft : Draft
  pub is_heading : IsHeading heading
  pub whole : text ≡ heading ++ lines
  pub read : IsReadTo lines [] draft
  pub board : draft.0 ≡ windows

-- The lines of a board with its items named 0.1, 0.2 and so on in their order, as a layout has them.

abbrev pub item_name : ℕ → Name
item_name number = record { site = 0; number = number }

-- a line after an item with this number
abbrev pub numbered_line : ℕ → Line → Line
numbered_line last (Char name value) = Char (item_name (last + 1)) value
numbered_line last (Item name label) = Item (item_name (last + 1)) label
numbered_line last line = line

-- the number of the last item then
abbrev pub number_after : ℕ → Line → ℕ
number_after last (Char name value) = last + 1
number_after last (Item name label) = last + 1
number_after last line = last

-- the same of lines
abbrev pub numbered_lines : ℕ → List Line → List Line
numbered_lines last [] = []
numbered_lines last (line ∷ lines) = numbered_line last line ∷ numbered_lines (number_after last line) lines

abbrev pub last_number : ℕ → List Line → ℕ
last_number last [] = last
last_number last (line ∷ lines) = last_number (number_after last line) lines

-- the bytes of a layout so far, the number of its last item, and how many bytes were dropped
abbrev pub Gathered : Type 0
Gathered = List ℕ × ℕ × ℕ

-- a line that is written has a spelling
abbrev pub IsWritable : Line → Type 0
IsWritable line = IsTrue (is_spelled line) → HasSpelling line

-- these lines were put, numbered; no byte of them is missing unless some were dropped
pub record PutsNumbered (old : Gathered) (lines : List Line) (new : Gathered) : Type 0 where
  pub number : new.1 ≡ last_number old.1 lines
  pub writable : AllByRecursion IsWritable (numbered_lines old.1 lines)
  pub kept : new.2 ≡ 0 → old.2 ≡ 0
  pub bytes : new.2 ≡ 0 → new.0 ≡ old.0 ++ flat_map line_bytes (numbered_lines old.1 lines)

-- Printed boards as layouts, and layouts as printed boards.

-- the lines of a board's layout: those of the board, with the items numbered
abbrev pub layout_lines : board.Windows → List Line
layout_lines windows = numbered_lines 0 (board_lines windows)

-- these bytes are just these lines
abbrev pub IsLayoutOf : board.Windows → List ℕ → Type 0
IsLayoutOf windows bytes = AreLines bytes (layout_lines windows)

-- the text spells a board, and these bytes are its layout
pub record IsLayoutOfPrinted (text made : List ℕ) : Type 0 where
  pub windows : board.Windows
  pub printed : IsPrintOf windows text
  pub layout : IsLayoutOf windows made

-- the text is a layout, and these bytes are its board as it is printed
pub record IsPrintOfLayout (text made : List ℕ) : Type 0 where
  pub windows : board.Windows
  pub described : Describes text (Ok (board.bare windows))
  pub printed : made ≡ board_text windows

-- Lines that are put one after another, numbered.

pub puts_none : (put : Gathered) → PutsNumbered put [] put
puts_none put = record {
  number = refl;
  writable = tt;
  kept = λ none. none;
  bytes = λ none. sym (append-nil put.0);
}

last_more : (last : ℕ) (xs ys : List Line) → last_number last (xs ++ ys) ≡ last_number (last_number last xs) ys
last_more last [] ys = refl
last_more last (x ∷ xs) ys = last_more (number_after last x) xs ys

numbered_more : (last : ℕ) (xs ys : List Line) → numbered_lines last (xs ++ ys) ≡ numbered_lines last xs ++ numbered_lines (last_number last xs) ys
numbered_more last [] ys = refl
numbered_more last (x ∷ xs) ys = ap (λ lines. numbered_line last x ∷ lines) (numbered_more (number_after last x) xs ys)

all_append : (P : Line → Type 0) (xs ys : List Line) → AllByRecursion P xs → AllByRecursion P ys → AllByRecursion P (xs ++ ys)
all_append P [] ys none more = more
all_append P (x ∷ xs) ys all more = (all.0, all_append P xs ys all.1 more)

pub puts_more : (a b c : Gathered) (xs ys : List Line) → PutsNumbered a xs b → PutsNumbered b ys c → PutsNumbered a (xs ++ ys) c
puts_more a b c xs ys one two = record {
  number = two.number ∙ ap (λ n. last_number n ys) one.number ∙ sym (last_more a.1 xs ys);
  writable = subst (λ (lines : List Line). AllByRecursion IsWritable lines) (sym (numbered_more a.1 xs ys))
      (all_append IsWritable (numbered_lines a.1 xs) (numbered_lines (last_number a.1 xs) ys) one.writable
      (subst (λ (n : ℕ). AllByRecursion IsWritable (numbered_lines n ys)) one.number two.writable));
  kept = λ none. one.kept (two.kept none);
  bytes = λ none.
      two.bytes none
      ∙ ap (λ (t : List ℕ). t ++ flat_map line_bytes (numbered_lines b.1 ys)) (one.bytes (two.kept none))
      ∙ append_assoc a.0 (flat_map line_bytes (numbered_lines a.1 xs)) (flat_map line_bytes (numbered_lines b.1 ys))
      ∙ ap (λ n. a.0 ++ (flat_map line_bytes (numbered_lines a.1 xs) ++ flat_map line_bytes (numbered_lines n ys))) one.number
      ∙ ap (λ (t : List ℕ). a.0 ++ t) (sym (flat_map-append line_bytes (numbered_lines a.1 xs) (numbered_lines (last_number a.1 xs) ys)))
      ∙ ap (λ (lines : List Line). a.0 ++ flat_map line_bytes lines) (sym (numbered_more a.1 xs ys));
}

-- Lines that are passed over.

-- the text does not begin with such a line
abbrev pub BeginsOtherwise : (List ℕ → Type 0) → List ℕ → Type 0
BeginsOtherwise IsLine text = (line more : List ℕ) → IsLine line → text ≢ line ++ more

-- what follows such a line
abbrev pub Follows : (List ℕ → Type 0) → List ℕ → List ℕ → Type 0
Follows IsLine text rest = (line : List ℕ) × IsLine line × (text ≡ line ++ rest)

-- what follows it, or all of a text that does not begin with one
abbrev pub PassesOver : (List ℕ → Type 0) → List ℕ → List ℕ → Type 0
PassesOver IsLine text rest = Follows IsLine text rest ⊎ (BeginsOtherwise IsLine text × (rest ≡ text))

-- The exit statuses of the program.

abbrev pub board_end_status : BoardEnd → ℕ
board_end_status (BadLine line fault) = 5
board_end_status (Layout fault) = 5
board_end_status LongBoard = 5
board_end_status LongInput = 5
board_end_status (LongLayout bytes) = 5
board_end_status Unread = 1
board_end_status Unprinted = 1
board_end_status NoMemory = 3

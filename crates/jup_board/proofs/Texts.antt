-- The bytes of printed boards, with their headings.
use Rattle.std.proofs.Common.{◌≡◌, ℕ, ◌+◌, ◌/◌, ◌%◌, ◌^◌, ◌<◌, ◌≤◌, zero, suc, true, false, Option, None, Some, List, [], ◌∷◌, map, length, refl, sym, ap, ◌∙◌, arith, inl, inr, codes, decimal, ◌≢◌, ◌⊎◌, subst, ◌++◌, get_or, append_assoc, if◌then◌else◌, Result, Ok, Err, IfOk, length-append}
use Rattle.std.specs.Fmt.{digit_glyph, digits_onto, digits}
use Rattle.std.specs.List.{flat_map, AllByRecursion, join_with_byte}
use Rattle.std.specs.Str.{IsUtf8}
use Rattle.std.specs.Str.Parse.{digits_value}
use Rattle.std.proofs.lemmas.Bool.{cases_eq, ne_eqb}
use Rattle.std.proofs.lemmas.Fmt.{decimal_is_IsNumeral_wide, length-decimal-le}
use Rattle.std.proofs.lemmas.List.Elements.{All-from_recursion}
use Rattle.std.proofs.lemmas.Str.{IsUtf8-from_ascii}
use Rattle.std.proofs.lemmas.Str.Ascii.{IsAscii-from_all}
use Rattle.std.specs.Global.{Vec}
use Rattle.jup_board.specs.Prelude.{IsU32, Item, Name, Widget, Text, Labels, Windows, Line}
use Rattle.jup_text.specs.Boards.{widget_words, value_words, board_text}
use Rattle.jup_text.specs.Words.{hexadecimal, quoted_char, quoted, IsWord}
use Rattle.jup_text.proofs.Quotes.{by_kind, same_parts}
use Rattle.jup_wire.specs.declared.kinds.WidgetValue.{WidgetValue}
use Rattle.jup_wire.specs.Kinds.{value_of}
use Rattle.jup_wire.proofs.ByKind.{value_plain}
use Rattle.jup_wire.proofs.Plain.{IsPlain, ArePlain, AreMarks, digits_marks, decimal_marks, marks_plain, decimal_plain, are_plain}
use Rattle.jup_wire.specs.declared.line.Line.TheVariants as line
use Rattle.jup_wire.specs.Lines.{HasSpelling, is_spelled, line_bytes, spelling}
use Rattle.jup_wire.proofs.Streams.{all-append}
use Rattle.jup_layout.specs.Drafts.{item_lines, widget_lines, window_lines, board_lines}
use Rattle.jup_board.specs.Boards.{BeginsOtherwise, Follows, PassesOver, Lacks, IsHeading, IsListening, IsOrder, IsLayoutOf, numbered_line, number_after, numbered_lines, Gathered, IsWritable, PutsNumbered}

-- ---- words

marks_word : (bytes : List ℕ) → AreMarks bytes → IsWord bytes
marks_word [] all = tt
marks_word (b ∷ bytes) all = let high = all.0.0 in ((λ e. absurd (omega (arith, e, high))), marks_word bytes all.1)

pub decimal_word : (n : ℕ) → IsWord (decimal n)
decimal_word n = marks_word (decimal n) (decimal_marks n)

-- ---- a number with few digits

power_some : (k : ℕ) → 1 ≤ 10 ^ k
power_some zero = omega arith
power_some (suc k) = let some = power_some k in omega (arith, some)

-- fewer digits than there may be are those of a number that is small enough
onto_short : (k n : ℕ) (behind : List ℕ) → length (digits_onto k 10 false n behind) < k + length behind → n < 10 ^ k
onto_short zero n behind short = absurd (omega (arith, short))
onto_short (suc k) n behind short =
    elim (cases_eq (n / 10) 0) [
      | inl last ↦ let some = power_some k in omega (arith, last, some)
      | inr next ↦
          let shorter : length (digits_onto k 10 false (n / 10) (digit_glyph false (n % 10) ∷ behind)) < suc k + length behind = rw (ne_eqb (n / 10) 0 next) at short in
          let fits = onto_short k (n / 10) (digit_glyph false (n % 10) ∷ behind) (omega (arith, shorter)) in
          omega (arith, fits)
    ]

digits_short : (n : ℕ) → length (digits 10 false n) < 64 → n < 10 ^ 64
unfolding digits
digits_short n short = onto_short 64 n [] (omega (arith, short))

-- no other number, however large, is written as a small one
pub small_decimal : (n id : ℕ) → id < 2 ^ 16 → decimal n ≡ decimal id → n ≡ id
small_decimal n id small same =
    let five = length-decimal-le 5 id (omega arith) (omega (arith, small)) (omega (arith, small)) in
    let fits : n < 10 ^ 64 = digits_short n (omega (arith, five, ap (λ (t : List ℕ). length t) same)) in
    sym (decimal_is_IsNumeral_wide n fits).1 ∙ ap (digits_value 10) same ∙ (decimal_is_IsNumeral_wide id (omega (arith, small))).1

-- ---- words, quotes, lines

char_plain : (c : ℕ) → ArePlain (quoted_char c)
char_plain c =
    by_kind c (λ (d : ℕ) (t : List ℕ). ArePlain t)
    (λ mark. ((omega arith, omega arith), (elim mark [ inl quote ↦ (omega (arith, quote), omega (arith, quote)) | inr backslash ↦ (omega (arith, backslash), omega (arith, backslash)) ], tt)))
    (λ no_quote no_backslash low high. ((low, high), tt))
    (λ number.
    let inside : ArePlain (hexadecimal c) = marks_plain (hexadecimal c) (digits_marks 16 c (λ m. omega arith)) in
    ((omega arith, omega arith), ((omega arith, omega arith), ((omega arith, omega arith), all-append IsPlain (hexadecimal c) (125 ∷ []) inside ((omega arith, omega arith), tt)))))

pub flat_plain : {A : Type 0} (text : A → List ℕ) → ((a : A) → ArePlain (text a)) → (xs : List A) → ArePlain (flat_map text xs)
flat_plain text plain [] = tt
flat_plain text plain (x ∷ xs) = all-append IsPlain (text x) (flat_map text xs) (plain x) (flat_plain text plain xs)

quoted_plain : (chars : List ℕ) → ArePlain (quoted chars)
quoted_plain chars = ((omega arith, omega arith), all-append IsPlain (flat_map quoted_char chars) (34 ∷ []) (flat_plain quoted_char char_plain chars) ((omega arith, omega arith), tt))

joined_plain : (words : List (List ℕ)) → AllByRecursion ArePlain words → ArePlain (join_with_byte 32 words)
joined_plain [] all = tt
joined_plain (x ∷ []) all = all.0
joined_plain (x ∷ y ∷ xs) all = all-append IsPlain x (32 ∷ join_with_byte 32 (y ∷ xs)) all.0 ((omega arith, omega arith), joined_plain (y ∷ xs) all.1)

labels_plain : (items : List (Item (List ℕ))) → AllByRecursion ArePlain (map (λ item. quoted item.value) items)
labels_plain [] = tt
labels_plain (x ∷ xs) = (quoted_plain x.value, labels_plain xs)

value_words_plain : (wid : ℕ) (said : Option WidgetValue) → AllByRecursion ArePlain (value_words wid said)
value_words_plain wid None = tt
value_words_plain wid (Some value) = let words = value_plain value in (words.0, (decimal_plain wid, words.1))

words_plain : (wid : ℕ) (widget : Widget) → AllByRecursion ArePlain (widget_words wid widget)
words_plain wid (Text x) = (are_plain (codes "text") refl, (decimal_plain wid, (quoted_plain (map (λ item. item.value) x.items), tt)))
words_plain wid (Labels x) = (are_plain (codes "list") refl, (decimal_plain wid, labels_plain x.items))
words_plain wid other = value_words_plain wid (value_of other)

pub widget_plain : (wid : ℕ) (widget : Widget) → ArePlain (join_with_byte 32 (widget_words wid widget))
widget_plain wid widget = joined_plain (widget_words wid widget) (words_plain wid widget)

pub window_plain : (win : ℕ) → ArePlain (join_with_byte 32 (codes "window" ∷ decimal win ∷ []))
window_plain win = joined_plain (codes "window" ∷ decimal win ∷ []) (are_plain (codes "window") refl, (decimal_plain win, tt))

-- ---- what such bytes are

pub plain_text : (bytes : List ℕ) → ArePlain bytes → IsUtf8 bytes
plain_text bytes all = IsUtf8-from_ascii bytes (IsAscii-from_all bytes (All-from_recursion (λ byte. byte < 128) bytes (below bytes all)))
  where
    below : (bytes : List ℕ) → ArePlain bytes → AllByRecursion (λ byte. byte < 128) bytes
    below [] all = tt
    below (b ∷ bytes) all = let high = all.0.1 in (omega (arith, high), below bytes all.1)

pub plain_line : (bytes : List ℕ) → ArePlain bytes → AllByRecursion (λ byte. byte ≡ 10 → ⊥) bytes
plain_line [] all = tt
plain_line (b ∷ bytes) all = let low = all.0.0 in ((λ e. absurd (omega (arith, e, low))), plain_line bytes all.1)

-- ---- a line has a byte for each item

pub flat_long : {A : Type 0} (text : A → List ℕ) → ((a : A) → 1 ≤ length (text a)) → (xs : List A) → length xs ≤ length (flat_map text xs)
flat_long text some [] = omega arith
flat_long text some (x ∷ xs) = let here = some x in let behind = flat_long text some xs in omega (arith, here, behind, length-append (text x) (flat_map text xs))

pub char_long : (c : ℕ) → 1 ≤ length (quoted_char c)
char_long c = by_kind c (λ (d : ℕ) (t : List ℕ). 1 ≤ length t) (λ mark. omega arith) (λ no_quote no_backslash low high. omega arith) (λ number. omega arith)

-- The lines that a server prints before its board.

-- ---- a line by its parts

-- a line that is cut at a space
cut_line : (text line word tail rest : List ℕ) → text ≡ line ++ 10 ∷ rest → line ≡ word ++ 32 ∷ tail → text ≡ ((word ++ 32 ∷ tail) ++ 10 ∷ []) ++ rest
cut_line text line word tail rest text_is line_is =
    text_is ∙ ap (λ (t : List ℕ). t ++ 10 ∷ rest) line_is ∙ sym (append_assoc (word ++ 32 ∷ tail) (10 ∷ []) rest)

pub lacks_behind : (byte : ℕ) (xs ys : List ℕ) → Lacks byte (xs ++ ys) → Lacks byte ys
lacks_behind byte [] ys lacks = lacks
lacks_behind byte (x ∷ xs) ys lacks = lacks_behind byte xs ys lacks.1

pub listening : (text line word address rest : List ℕ) → text ≡ line ++ 10 ∷ rest → Lacks 10 line → line ≡ word ++ 32 ∷ address → word ≡ codes "listening" → Follows IsListening text rest
listening text line word address rest text_is lacks line_is word_is =
    let named : line ≡ codes "listening" ++ 32 ∷ address = line_is ∙ ap (λ (t : List ℕ). t ++ 32 ∷ address) word_is in
    let one : Lacks 10 address = lacks_behind 10 (codes "listening ") address (subst (λ (t : List ℕ). Lacks 10 t) named lacks) in
    (codes "listening " ++ address ++ 10 ∷ [], record { address = address; one_line = one; spelled = refl }, cut_line text line (codes "listening") address rest text_is named)

pub order : (text line word number rest : List ℕ) (edits : ℕ) → text ≡ line ++ 10 ∷ rest → line ≡ word ++ 32 ∷ number → word ≡ codes "order" → IsU32 edits → number ≡ decimal edits → Follows IsOrder text rest
order text line word number rest edits text_is line_is word_is small number_is =
    let named : line ≡ codes "order" ++ 32 ∷ decimal edits = line_is ∙ ap (λ (t : List ℕ). t ++ 32 ∷ number) word_is ∙ ap (λ (t : List ℕ). codes "order" ++ 32 ∷ t) number_is in
    (codes "order " ++ decimal edits ++ 10 ∷ [], record { edits = edits; small = small; spelled = refl }, cut_line text line (codes "order") (decimal edits) rest text_is named)

-- ---- a text has one first line

-- a line that begins so
record IsLineAs (front line : List ℕ) : Type 0 where
  pub behind : List ℕ
  pub lacks : Lacks 10 (front ++ behind)
  pub spelled : line ≡ (front ++ behind) ++ 10 ∷ []

listening_line : (line : List ℕ) → IsListening line → IsLineAs (codes "listening ") line
listening_line line is = record {
  behind = is.address;
  lacks = all-append (λ byte. byte ≢ 10) (codes "listening ") is.address (plain_line (codes "listening ") (are_plain (codes "listening ") refl)) is.one_line;
  spelled = is.spelled;
}

order_line : (line : List ℕ) → IsOrder line → IsLineAs (codes "order ") line
order_line line is = record {
  behind = decimal is.edits;
  lacks = all-append (λ byte. byte ≢ 10) (codes "order ") (decimal is.edits) (plain_line (codes "order ") (are_plain (codes "order ") refl)) (plain_line (decimal is.edits) (decimal_plain is.edits));
  spelled = is.spelled;
}

whole_line : (front line more : List ℕ) (form : IsLineAs front line) → line ++ more ≡ (front ++ form.behind) ++ 10 ∷ more
whole_line front line more form = ap (λ (t : List ℕ). t ++ more) form.spelled ∙ append_assoc (front ++ form.behind) (10 ∷ []) more

one_end : (front x y r s : List ℕ) → IsLineAs front x → IsLineAs front y → x ++ r ≡ y ++ s → r ≡ s
one_end front x y r s x_form y_form same = (same_parts 10 (front ++ x_form.behind) (front ++ y_form.behind) r s x_form.lacks y_form.lacks (sym (whole_line front x r x_form) ∙ same ∙ whole_line front y s y_form)).1

-- the line that a text is cut at
cut_as : (front text line rest x more : List ℕ) → text ≡ line ++ 10 ∷ rest → Lacks 10 line → (form : IsLineAs front x) → text ≡ x ++ more → line ≡ front ++ form.behind
cut_as front text line rest x more text_is lacks form same = (same_parts 10 line (front ++ form.behind) rest more lacks form.lacks (sym text_is ∙ same ∙ whole_line front x more form)).0

uncut : (front text x more : List ℕ) → Lacks 10 text → IsLineAs front x → text ≢ x ++ more
uncut front text x more lacks form same = (lacks_behind 10 (front ++ form.behind) (10 ∷ more) (subst (λ (t : List ℕ). Lacks 10 t) (same ∙ whole_line front x more form) lacks)).0 refl

-- ---- texts that begin otherwise

pub uncut_listening : (text : List ℕ) → Lacks 10 text → BeginsOtherwise IsListening text
uncut_listening text lacks x more is = uncut (codes "listening ") text x more lacks (listening_line x is)

pub uncut_order : (text : List ℕ) → Lacks 10 text → BeginsOtherwise IsOrder text
uncut_order text lacks x more is = uncut (codes "order ") text x more lacks (order_line x is)

pub unspaced_listening : (text line rest : List ℕ) → text ≡ line ++ 10 ∷ rest → Lacks 10 line → Lacks 32 line → BeginsOtherwise IsListening text
unspaced_listening text line rest text_is lacks no_space x more is same =
    let form = listening_line x is in
    (lacks_behind 32 (codes "listening") (32 ∷ form.behind) (subst (λ (t : List ℕ). Lacks 32 t) (cut_as (codes "listening ") text line rest x more text_is lacks form same) no_space)).0 refl

pub unspaced_order : (text line rest : List ℕ) → text ≡ line ++ 10 ∷ rest → Lacks 10 line → Lacks 32 line → BeginsOtherwise IsOrder text
unspaced_order text line rest text_is lacks no_space x more is same =
    let form = order_line x is in
    (lacks_behind 32 (codes "order") (32 ∷ form.behind) (subst (λ (t : List ℕ). Lacks 32 t) (cut_as (codes "order ") text line rest x more text_is lacks form same) no_space)).0 refl

listening_word : Lacks 32 (codes "listening")
listening_word = (λ e. absurd (omega (arith, e)), (λ e. absurd (omega (arith, e)), (λ e. absurd (omega (arith, e)), (λ e. absurd (omega (arith, e)), (λ e. absurd (omega (arith, e)), (λ e. absurd (omega (arith, e)), (λ e. absurd (omega (arith, e)), (λ e. absurd (omega (arith, e)), (λ e. absurd (omega (arith, e)), tt)))))))))

order_word : Lacks 32 (codes "order")
order_word = (λ e. absurd (omega (arith, e)), (λ e. absurd (omega (arith, e)), (λ e. absurd (omega (arith, e)), (λ e. absurd (omega (arith, e)), (λ e. absurd (omega (arith, e)), tt)))))

pub other_word : (text line rest word address : List ℕ) → text ≡ line ++ 10 ∷ rest → Lacks 10 line → line ≡ word ++ 32 ∷ address → Lacks 32 word → word ≢ codes "listening" → BeginsOtherwise IsListening text
other_word text line rest word address text_is lacks line_is one other x more is same =
    let form = listening_line x is in
    other (same_parts 32 word (codes "listening") address form.behind one listening_word (sym line_is ∙ cut_as (codes "listening ") text line rest x more text_is lacks form same)).0

order_parts : (text line rest word number x more : List ℕ) → text ≡ line ++ 10 ∷ rest → Lacks 10 line → line ≡ word ++ 32 ∷ number → Lacks 32 word → (is : IsOrder x) → text ≡ x ++ more
    → (word ≡ codes "order") × (number ≡ decimal is.edits)
unfolding order_line
order_parts text line rest word number x more text_is lacks line_is one is same =
    let form = order_line x is in
    same_parts 32 word (codes "order") number (decimal is.edits) one order_word (sym line_is ∙ cut_as (codes "order ") text line rest x more text_is lacks form same)

pub other_order : (text line rest word number : List ℕ) → text ≡ line ++ 10 ∷ rest → Lacks 10 line → line ≡ word ++ 32 ∷ number → Lacks 32 word → word ≢ codes "order" → BeginsOtherwise IsOrder text
other_order text line rest word number text_is lacks line_is one other x more is same = other (order_parts text line rest word number x more text_is lacks line_is one is same).0

pub no_number : (text line rest word number : List ℕ) → text ≡ line ++ 10 ∷ rest → Lacks 10 line → line ≡ word ++ 32 ∷ number → Lacks 32 word → ((edits : ℕ) → IsU32 edits → number ≢ decimal edits) → BeginsOtherwise IsOrder text
no_number text line rest word number text_is lacks line_is one none x more is same = none is.edits is.small (order_parts text line rest word number x more text_is lacks line_is one is same).1

-- ---- what a heading leaves

-- a board begins with `w`, unless it is empty
board_first : (windows : Windows) (byte : ℕ) → get_or (board_text windows) 0 0 ≡ byte → (byte ≡ 0) ⊎ (byte ≡ 119)
board_first [] byte e = inl (sym e)
board_first (w ∷ ws) byte e = inr (sym e)

listening_first : (line more : List ℕ) → IsListening line → get_or (line ++ more) 0 0 ≡ 108
listening_first line more is = ap (λ (t : List ℕ). get_or (t ++ more) 0 0) is.spelled

order_first : (line more : List ℕ) → IsOrder line → get_or (line ++ more) 0 0 ≡ 111
order_first line more is = ap (λ (t : List ℕ). get_or (t ++ more) 0 0) is.spelled

no_board : (windows : Windows) (byte : ℕ) → get_or (board_text windows) 0 0 ≡ byte → 0 < byte → byte < 119 → ⊥
no_board windows byte e some low = elim (board_first windows byte e) [ inl none ↦ absurd (omega (arith, none, some)) | inr window ↦ absurd (omega (arith, window, low)) ]

pub order_otherwise : (windows : Windows) → BeginsOtherwise IsOrder (board_text windows)
order_otherwise windows line more is same = no_board windows 111 (ap (λ (t : List ℕ). get_or t 0 0) same ∙ order_first line more is) (omega arith) (omega arith)

pub listening_otherwise : (order : List ℕ) (windows : Windows) → (order ≡ []) ⊎ IsOrder order → BeginsOtherwise IsListening (order ++ board_text windows)
listening_otherwise order windows (inl none) line more is same =
    no_board windows 108 (ap (λ (t : List ℕ). get_or (t ++ board_text windows) 0 0) (sym none) ∙ ap (λ (t : List ℕ). get_or t 0 0) same ∙ listening_first line more is) (omega arith) (omega arith)
listening_otherwise order windows (inr one) line more is same =
    let e : 111 ≡ 108 = sym (order_first order (board_text windows) one) ∙ ap (λ (t : List ℕ). get_or t 0 0) same ∙ listening_first line more is in
    absurd (omega (arith, e))

passed : (IsLine : List ℕ → Type 0) (front text line behind rest : List ℕ) → ((x : List ℕ) → IsLine x → IsLineAs front x) → BeginsOtherwise IsLine behind → PassesOver IsLine text rest
    → (line ≡ []) ⊎ IsLine line → text ≡ line ++ behind → rest ≡ behind
passed IsLine front text line behind rest form other (inl (x, x_is, here)) (inl none) is = absurd (other x rest x_is (ap (λ (t : List ℕ). t ++ behind) (sym none) ∙ sym is ∙ here))
passed IsLine front text line behind rest form other (inl (x, x_is, here)) (inr one) is = one_end front x line rest behind (form x x_is) (form line one) (sym here ∙ is)
passed IsLine front text line behind rest form other (inr (none_here, all)) (inl none) is = all ∙ is ∙ ap (λ (t : List ℕ). t ++ behind) none
passed IsLine front text line behind rest form other (inr (none_here, all)) (inr one) is = absurd (none_here line behind one is)

pub heading_passed : (text middle rest : List ℕ) → PassesOver IsListening text middle → PassesOver IsOrder middle rest
    → (heading : List ℕ) (windows : Windows) → IsHeading heading → text ≡ heading ++ board_text windows → rest ≡ board_text windows
heading_passed text middle rest first second heading windows is whole =
    let behind = is.order ++ board_text windows in
    let parts : text ≡ is.listening ++ behind = whole ∙ ap (λ (t : List ℕ). t ++ board_text windows) is.whole ∙ append_assoc is.listening is.order (board_text windows) in
    let left : middle ≡ behind = passed IsListening (codes "listening ") text is.listening behind middle listening_line (listening_otherwise is.order windows is.second) first is.first parts in
    passed IsOrder (codes "order ") middle is.order (board_text windows) rest order_line (order_otherwise windows) second is.second left

-- what was passed over
over : (IsLine : List ℕ → Type 0) (text rest : List ℕ) → PassesOver IsLine text rest → (line : List ℕ) × ((line ≡ []) ⊎ IsLine line) × (text ≡ line ++ rest)
over IsLine text rest (inl (line, is, here)) = (line, inr is, here)
over IsLine text rest (inr (none, all)) = ([], inl refl, sym all)

pub heading : (text middle rest : List ℕ) → PassesOver IsListening text middle → PassesOver IsOrder middle rest → (x : List ℕ) × IsHeading x × (text ≡ x ++ rest)
heading text middle rest one two =
    let first = over IsListening text middle one in
    let second = over IsOrder middle rest two in (
      first.0 ++ second.0,
      record { listening = first.0; order = second.0; first = first.1; second = second.1; whole = refl },
      first.2 ∙ ap (λ (t : List ℕ). first.0 ++ t) second.2 ∙ sym (append_assoc first.0 second.0 rest),
    )

-- The lines of a board that were put are its layout.

-- a line of a board has a spelling, whatever number its item gets
abbrev IsOfBoard : Line → Type 0
IsOfBoard it = (n : ℕ) → is_spelled (numbered_line n it) ≡ true

of_items : {V : Type 0} (line_of : Name → V → Line) → ((name : Name) (value : V) → IsOfBoard (line_of name value)) → (items : List (Item V)) → AllByRecursion IsOfBoard (item_lines line_of items)
of_items line_of are [] = tt
of_items line_of are (x ∷ xs) = (are x.name x.value, of_items line_of are xs)

of_widget : (entry : ℕ × Widget) → AllByRecursion IsOfBoard (widget_lines entry)
of_widget (wid, Text x) = (λ n. refl, of_items line.Char (λ name value n. refl) x.items)
of_widget (wid, Labels x) = (λ n. refl, of_items line.Item (λ name value n. refl) x.items)
of_widget (wid, other) = (λ n. refl, tt)

of_all : {A : Type 0} (lines_of : A → List Line) → ((a : A) → AllByRecursion IsOfBoard (lines_of a)) → (entries : List A) → AllByRecursion IsOfBoard (flat_map lines_of entries)
of_all lines_of are [] = tt
of_all lines_of are (x ∷ xs) = all-append IsOfBoard (lines_of x) (flat_map lines_of xs) (are x) (of_all lines_of are xs)

of_window : (window : ℕ × List (ℕ × Widget)) → AllByRecursion IsOfBoard (window_lines window)
of_window window = (λ n. refl, of_all widget_lines of_widget window.1)

of_board : (windows : Windows) → AllByRecursion IsOfBoard (board_lines windows)
of_board windows = of_all window_lines of_window windows

spelled : (n : ℕ) (lines : List Line) → AllByRecursion IsOfBoard lines → AllByRecursion IsWritable (numbered_lines n lines) → AllByRecursion HasSpelling (numbered_lines n lines)
spelled n [] are writable = tt
spelled n (x ∷ xs) are writable = (writable.0 (are.0 n), spelled (number_after n x) xs are.1 writable.1)

bytes : (n : ℕ) (lines : List Line) → AllByRecursion IsOfBoard lines → flat_map line_bytes (numbered_lines n lines) ≡ flat_map spelling (numbered_lines n lines)
bytes n [] are = refl
bytes n (x ∷ xs) are =
    let first : line_bytes (numbered_line n x) ≡ spelling (numbered_line n x) = ap (λ b. if b then spelling (numbered_line n x) else []) (are.0 n) in
    ap (λ (t : List ℕ). t ++ flat_map line_bytes (numbered_lines (number_after n x) xs)) first
    ∙ ap (λ (t : List ℕ). spelling (numbered_line n x) ++ t) (bytes (number_after n x) xs are.1)

laid : (windows : Windows) (put : Gathered) → PutsNumbered ([], 0, 0) (board_lines windows) put → put.2 ≡ 0 → IsLayoutOf windows put.0
laid windows put puts none =
    let are = of_board windows in
    record {
      spelled = spelled 0 (board_lines windows) are puts.writable;
      whole = puts.bytes none ∙ bytes 0 (board_lines windows) are;
    }

-- if none of their bytes was dropped
pub laid_whole : {E : Type 0} (windows : Windows) (put : Gathered) (r : Result (Vec ℕ) E) → PutsNumbered ([], 0, 0) (board_lines windows) put
    → IfOk r (λ made. made.items ≡ put.0) → IfOk r (λ made. put.2 ≡ 0) → IfOk r (λ made. IsLayoutOf windows made.items)
laid_whole windows put (Ok made) puts is none = subst (λ (t : List ℕ). IsLayoutOf windows t) (sym is) (laid windows put puts none)
laid_whole windows put (Err end) puts is none = tt

-- Boards as text, line by line.
use Rattle.std.proofs.Common.{◌≡◌, ℕ, List, [], ◌∷◌, ◌++◌, map, sym, ap, ◌∙◌, append-nil, append_assoc, codes, decimal, ◌+◌, Option, Some, None, Ok, refl, subst, ◌≢◌, ◌<◌, ◌==◌, not, true, length, arith, lit<, get_or, drop, ◌⊎◌, inl, inr, false, insert}
use Rattle.std.proofs.lemmas.List.{map-append, append_cancel_left, append_cancel_right, length-append}
use Rattle.std.proofs.lemmas.List.Concat.{flat_map-append}
use Rattle.std.proofs.lemmas.Fmt.{decimal_injective}
use Rattle.std.proofs.lemmas.Bool.{ne_eqb, and_parts, not-true, eqb-false}
use Rattle.jup_text.specs.Prelude.{Item, IsLabelText, Labels, Text, Widget, WidgetValue, flat_map, join_with_byte, AllByRecursion, IsScalar}
use Rattle.jup_value.proofs.Items.{has_name-insert}
use Rattle.jup_window.specs.Entries.{RefusesBy}
use Rattle.jup_window.specs.Kinds.{HasNoItems}
use Rattle.jup_wire.specs.Fields.{dispatch}
use Rattle.jup_wire.specs.Kinds.{value_of, said_widget, said_none, said_value, value_there, value_word, value_fields, IsValueLine, value_table}
use Rattle.jup_wire.proofs.Spellings.{lacks, dispatch_takes}
use Rattle.jup_wire.proofs.ByKind.{value_text, values_take, value_read, value_joined, word_lacks_space, other_word}
use Rattle.jup_text.specs.Boards.{line_of, widget_words, value_words, AreNumbered, IsNumbered, IsWidgetLine, Draft, AreValues, IsHeld, IsValueText, IsNextWindow, IsNextWidget, IsNext, IsLineOf, IsNumberedTo}
use Rattle.jup_text.specs.Words.{quoted, quoted_char, IsWord}
use Rattle.jup_text.specs.Commands.{IsId}
use Rattle.jup_text.proofs.CommandWords.{id_word}
use Rattle.jup_text.proofs.Quotes.{label_scalars, HasRead, behind_read, all_are_read, no_quote_first, quoted_parts, same_parts}
use Rattle.jup_window.specs.Prelude.{Items, name_eq}
use Rattle.jup_window.specs.declared.faults.BoardFault.{BoardFault}

-- Lines of several words, as they are written piece by piece.

-- words after the first, each after a space
pub join_spaced : {A : Type 0} (text : A → List ℕ) (word : List ℕ) (xs : List A) → join_with_byte 32 (word ∷ map text xs) ≡ word ++ flat_map (λ x. 32 ∷ text x) xs
join_spaced text word [] = sym (append-nil word)
join_spaced text word (x ∷ xs) = ap (λ (t : List ℕ). word ++ 32 ∷ t) (join_spaced text (text x) xs)

pub labels_line : {A : Type 0} (text : A → List ℕ) (wid : ℕ) (xs : List A) → (codes "list " ++ decimal wid) ++ (flat_map (λ x. 32 ∷ text x) xs ++ 10 ∷ []) ≡ line_of (codes "list" ∷ decimal wid ∷ map text xs)
labels_line text wid xs =
    sym (append_assoc (codes "list " ++ decimal wid) (flat_map (λ x. 32 ∷ text x) xs) (10 ∷ []))
    ∙ ap (λ (t : List ℕ). (codes "list " ++ t) ++ 10 ∷ []) (sym (join_spaced text (decimal wid) xs))

-- Items that are read one by one, each named after the last.

-- the item after a number
abbrev pub next_item : {V : Type 0} → ℕ → V → Item V
next_item last value = record { name = record { site = 0; number = last + 1 }; value = value }

-- one more item
pub one_more : {V : Type 0} (before last : ℕ) (xs : List (Item V)) (value : V) → AreNumbered before xs last → AreNumbered before (xs ++ next_item last value ∷ []) (last + 1)
one_more before last [] value are = (ap (λ n. record { site = 0; number = n + 1 }) are, ap (λ (n : ℕ). n + 1) are)
one_more before last (x ∷ xs) value are = (are.0, one_more (before + 1) last xs value are.1)

pub numbered_next : {V : Type 0} (before last next : ℕ) (xs ys : List (Item V)) (value : V) → AreNumbered before xs last → ys ≡ xs ++ next_item last value ∷ [] → next ≡ last + 1 → AreNumbered before ys next
numbered_next before last next xs ys value are more later =
    subst (λ (n : ℕ). AreNumbered before ys n) (sym later) (subst (λ (zs : List (Item _)). AreNumbered before zs (last + 1)) (sym more) (one_more before last xs value are))

-- the characters of items, and of one more
pub values_next : (last : ℕ) (xs ys : List (Item ℕ)) (value : ℕ) → ys ≡ xs ++ next_item last value ∷ [] → map (λ item. item.value) ys ≡ map (λ item. item.value) xs ++ value ∷ []
values_next last xs ys value more = ap (map (λ item. item.value)) more ∙ map-append (λ item. item.value) xs (next_item last value ∷ [])

-- labels that were read after spaces, and one more
pub labels_next : (labels rest label later : List ℕ) (last : ℕ) (xs ys : List (Item (List ℕ))) (value : List ℕ)
    → labels ≡ flat_map (λ item. 32 ∷ quoted item.value) xs ++ rest → rest ≡ 32 ∷ label → label ≡ quoted value ++ later → ys ≡ xs ++ next_item last value ∷ []
    → labels ≡ flat_map (λ item. 32 ∷ quoted item.value) ys ++ later
labels_next labels rest label later last xs ys value so_far space read more =
    let text : Item (List ℕ) → List ℕ = λ item. 32 ∷ quoted item.value in
    let one : flat_map text ys ≡ flat_map text xs ++ (32 ∷ quoted value) = ap (flat_map text) more ∙ flat_map-append text xs (next_item last value ∷ []) ∙ ap (λ (t : List ℕ). flat_map text xs ++ t) (append-nil (32 ∷ quoted value)) in
    so_far ∙ ap (λ (t : List ℕ). flat_map text xs ++ t) (space ∙ ap (λ (t : List ℕ). 32 ∷ t) read) ∙ sym (append_assoc (flat_map text xs) (32 ∷ quoted value) later)
    ∙ ap (λ (t : List ℕ). t ++ later) (sym one)

-- an addition that was made was not refused
pub allowed : (fault : Option BoardFault) → RefusesBy fault (Ok tt) → fault ≡ None
allowed None by = refl
allowed (Some fault) by = absurd cc

-- the line of a list, by its parts
pub list_line : (rest id labels : List ℕ) (wid before last : ℕ) (list : Items (List ℕ)) → rest ≡ id ++ labels → id ≡ decimal wid → labels ≡ flat_map (λ item. 32 ∷ quoted item.value) list.items
    → AreNumbered before list.items last → IsWidgetLine before (codes "list " ++ rest) wid (Labels list) last
list_line rest id labels wid before last list parts named read are =
    let text : Item (List ℕ) → List ℕ = λ item. quoted item.value in
    let whole : rest ≡ decimal wid ++ flat_map (λ item. 32 ∷ quoted item.value) list.items = parts ∙ ap (λ (t : List ℕ). t ++ labels) named ∙ ap (λ (t : List ℕ). decimal wid ++ t) read in
    let line : (codes "list " ++ rest) ++ 10 ∷ [] ≡ line_of (codes "list" ∷ decimal wid ∷ map text list.items) =
    ap (λ (t : List ℕ). (codes "list " ++ t) ++ 10 ∷ []) whole
    ∙ ap (λ (t : List ℕ). t ++ 10 ∷ []) (sym (append_assoc (codes "list ") (decimal wid) (flat_map (λ item. 32 ∷ quoted item.value) list.items)))
    ∙ append_assoc (codes "list " ++ decimal wid) (flat_map (λ item. 32 ∷ quoted item.value) list.items) (10 ∷ [])
    ∙ labels_line text wid list.items in
    (line, are)

-- Lines that a board may have next, by what they spell.

-- ---- words

four : (a b c d : ℕ) → 32 < a → 32 < b → 32 < c → 32 < d → IsWord (a ∷ b ∷ c ∷ d ∷ [])
four a b c d first second third fourth =
    (λ e. absurd (omega (arith, e, first)), (λ e. absurd (omega (arith, e, second)), (λ e. absurd (omega (arith, e, third)), (λ e. absurd (omega (arith, e, fourth)), tt))))

six : (a b c d e f : ℕ) → 32 < a → 32 < b → 32 < c → 32 < d → 32 < e → 32 < f → IsWord (a ∷ b ∷ c ∷ d ∷ e ∷ f ∷ [])
six a b c d e f first second third fourth fifth sixth = (λ s. absurd (omega (arith, s, first)), (λ s. absurd (omega (arith, s, second)), four c d e f third fourth fifth sixth))

text_word : IsWord (codes "text")
text_word = four 116 101 120 116 (lit< tt) (lit< tt) (lit< tt) (lit< tt)

list_word : IsWord (codes "list")
list_word = four 108 105 115 116 (lit< tt) (lit< tt) (lit< tt) (lit< tt)

-- bytes without a space
without_space : (bytes : List ℕ) → lacks 32 bytes ≡ true → IsWord bytes
without_space [] none = tt
without_space (b ∷ bs) none = let parts = and_parts (not (b == 32)) (lacks 32 bs) none in (eqb-false b 32 (not-true (b == 32) parts.0), without_space bs parts.1)

value_is_word : (value : WidgetValue) → IsWord (value_word value)
value_is_word value = without_space (value_word value) (word_lacks_space value)

pub window_word : IsWord (codes "window")
window_word = six 119 105 110 100 111 119 (lit< tt) (lit< tt) (lit< tt) (lit< tt) (lit< tt) (lit< tt)

-- what follows an id in front of a space
pub behind_id : (text rest other : List ℕ) (id wid : ℕ) → IsId id → IsId wid → text ≡ decimal id ++ 32 ∷ rest → text ≡ decimal wid ++ 32 ∷ other → rest ≡ other
behind_id text rest other id wid id_is wid_is read same = (same_parts 32 (decimal id) (decimal wid) rest other (id_word id id_is) (id_word wid wid_is) (sym read ∙ same)).1

-- ---- the first words of lines

-- nothing follows a word, or a space does
abbrev pub EndsWord : List ℕ → Type 0
EndsWord rest = (rest ≡ []) ⊎ ((behind : List ℕ) × (rest ≡ 32 ∷ behind))

spaced : (rest : List ℕ) → EndsWord rest → (behind : List ℕ) × (rest ++ 32 ∷ [] ≡ 32 ∷ behind)
spaced rest (inl none) = ([], ap (λ (t : List ℕ). t ++ 32 ∷ []) none)
spaced rest (inr (behind, is)) = (behind ++ 32 ∷ [], ap (λ (t : List ℕ). t ++ 32 ∷ []) is)

pub same_fronts : (ds es r s : List ℕ) → IsWord ds → IsWord es → EndsWord r → EndsWord s → ds ++ r ≡ es ++ s → (ds ≡ es) × (r ≡ s)
same_fronts ds es r s d_word e_word r_ends s_ends same =
    let more_r = spaced r r_ends in
    let more_s = spaced s s_ends in
    let whole : ds ++ 32 ∷ more_r.0 ≡ es ++ 32 ∷ more_s.0 =
    ap (λ (t : List ℕ). ds ++ t) (sym more_r.1) ∙ sym (append_assoc ds r (32 ∷ [])) ∙ ap (λ (t : List ℕ). t ++ 32 ∷ []) same ∙ append_assoc es s (32 ∷ []) ∙ ap (λ (t : List ℕ). es ++ t) more_s.1 in
    let front = (same_parts 32 ds es more_r.0 more_s.0 d_word e_word whole).0 in
    (front, append_cancel_left es r s (ap (λ (t : List ℕ). t ++ r) (sym front) ∙ same))

-- labels, each after a space
abbrev pub spaced_labels : List (List ℕ) → List ℕ
spaced_labels labels = flat_map (λ label. 32 ∷ quoted label) labels

pub labels_end : (labels : List (List ℕ)) → EndsWord (spaced_labels labels)
labels_end [] = inl refl
labels_end (x ∷ xs) = inr (quoted x ++ spaced_labels xs, refl)

spaced_values : (items : List (Item (List ℕ))) → flat_map (λ item. 32 ∷ quoted item.value) items ≡ spaced_labels (map (λ item. item.value) items)
spaced_values [] = refl
spaced_values (x ∷ xs) = ap (λ (t : List ℕ). 32 ∷ quoted x.value ++ t) (spaced_values xs)

-- the line of a widget: its kind, its id, and what follows
pub record HasFirst (line : List ℕ) (wid : ℕ) : Type 0 where
  pub kind : List ℕ
  pub behind : List ℕ
  pub word : IsWord kind
  pub other : kind ≢ codes "window"
  pub ends : EndsWord behind
  pub spelled : line ≡ kind ++ 32 ∷ (decimal wid ++ behind)

list_first : (line : List ℕ) (wid : ℕ) (items : List (Item (List ℕ))) → line ++ 10 ∷ [] ≡ line_of (codes "list" ∷ decimal wid ∷ map (λ item. quoted item.value) items)
    → line ≡ codes "list" ++ 32 ∷ (decimal wid ++ spaced_labels (map (λ item. item.value) items))
list_first line wid items is =
    append_cancel_right line _ (10 ∷ []) is
    ∙ ap (λ (t : List ℕ). codes "list" ++ 32 ∷ t) (join_spaced (λ (item : Item (List ℕ)). quoted item.value) (decimal wid) items ∙ ap (λ (t : List ℕ). decimal wid ++ t) (spaced_values items))

-- the line of a widget without items
words_none : (wid : ℕ) (w : Widget) → HasNoItems w → widget_words wid w ≡ value_words wid (value_of w)
words_none wid (Text x) none = absurd none
words_none wid (Labels x) none = absurd none
words_none wid w none = refl

value_line : (line : List ℕ) (wid : ℕ) (w : Widget) (value : WidgetValue) → HasNoItems w → value_of w ≡ Some value → IsLineOf line wid w
    → line ≡ value_word value ++ 32 ∷ (decimal wid ++ 32 ∷ join_with_byte 32 (value_fields value))
value_line line wid w value none there is =
    append_cancel_right line _ (10 ∷ []) (is ∙ ap line_of (words_none wid w none ∙ ap (value_words wid) there)) ∙ value_joined wid value

value_first : (line : List ℕ) (wid : ℕ) (w : Widget) → HasNoItems w → IsLineOf line wid w → HasFirst line wid
value_first line wid w none is =
    let value = value_there w none in
    record {
      kind = value_word value.0;
      behind = 32 ∷ join_with_byte 32 (value_fields value.0);
      word = value_is_word value.0;
      other = (other_word value.0).0;
      ends = inr (join_with_byte 32 (value_fields value.0), refl);
      spelled = value_line line wid w value.0 none value.1 is;
    }

-- what was read of such a line, by its word and what follows that
pub value_was_read : (kind rest : List ℕ) (wid : ℕ) (value : WidgetValue) (w : Widget) → dispatch value_table kind rest ≡ Some (wid, value) → said_widget value ≡ Some w → IsLineOf (kind ++ 32 ∷ rest) wid w × IsId wid
value_was_read kind rest wid value w read said =
    let took = dispatch_takes value_text IsValueLine value_table values_take kind rest (wid, value) read in
    (ap (λ t. t ++ 10 ∷ []) took.1 ∙ ap line_of (sym (words_none wid w (said_none value w said) ∙ ap (value_words wid) (said_value value w said))), took.0.0)

pub value_numbered : (value : WidgetValue) (w : Widget) → said_widget value ≡ Some w → (last : ℕ) → IsNumbered last w last
value_numbered value w said last = numbered_none last w (said_none value w said)
  where
    numbered_none : (last : ℕ) (w : Widget) → HasNoItems w → IsNumbered last w last
    numbered_none last (Text x) none = absurd none
    numbered_none last (Labels x) none = absurd none
    numbered_none last w none = refl

-- and each such line is read
pub value_is_read : (kind rest : List ℕ) (wid : ℕ) (value : WidgetValue) (w : Widget) → kind ≡ value_word value → IsValueText rest wid value w → dispatch value_table kind rest ≡ Some (wid, value)
value_is_read kind rest wid value w kind_is text =
    ap (λ k. dispatch value_table k rest) kind_is ∙ ap (dispatch value_table (value_word value)) text.spelled ∙ value_read (wid, value) (text.id, text.ranges)

pub first_of : (line : List ℕ) (wid : ℕ) (widget : Widget) → IsLineOf line wid widget → HasFirst line wid
first_of line wid (Text x) is = record {
  kind = codes "text";
  behind = 32 ∷ quoted (map (λ item. item.value) x.items);
  word = text_word;
  other = λ e. absurd (omega (arith, ap (λ (bs : List ℕ). get_or bs 0 0) e));
  ends = inr (quoted (map (λ item. item.value) x.items), refl);
  spelled = append_cancel_right line _ (10 ∷ []) is;
}
first_of line wid (Labels x) is = record {
  kind = codes "list";
  behind = spaced_labels (map (λ item. item.value) x.items);
  word = list_word;
  other = λ e. absurd (omega (arith, ap (λ (bs : List ℕ). get_or bs 0 0) e));
  ends = labels_end (map (λ item. item.value) x.items);
  spelled = list_first line wid x.items is;
}
first_of line wid other is = value_first line wid other tt is

-- a line is that of widgets with one id
pub same_id : (line : List ℕ) (id wid : ℕ) (x y : Widget) → IsId id → IsId wid → IsLineOf line id x → IsLineOf line wid y → id ≡ wid
same_id line id wid x y id_is wid_is x_line y_line =
    let one = first_of line id x x_line in
    let two = first_of line wid y y_line in
    let behind = (same_parts 32 one.kind two.kind (decimal id ++ one.behind) (decimal wid ++ two.behind) one.word two.word (sym one.spelled ∙ two.spelled)).1 in
    let ids = (same_fronts (decimal id) (decimal wid) one.behind two.behind (id_word id id_is) (id_word wid wid_is) one.ends two.ends behind).0 in
    decimal_injective id wid (omega (arith, id_is)) (omega (arith, wid_is)) ids

-- the line of a window
pub window_first : (line : List ℕ) (win : ℕ) → line ++ 10 ∷ [] ≡ line_of (codes "window" ∷ decimal win ∷ []) → line ≡ codes "window" ++ 32 ∷ decimal win
window_first line win is = append_cancel_right line _ (10 ∷ []) is

-- a line of a widget by its first word
pub by_kind : {P : Type 0} (before : ℕ) (kind rest : List ℕ) (wid : ℕ) (widget : Widget) → IsWord kind → IsId wid → IsHeld before widget → IsLineOf (kind ++ 32 ∷ rest) wid widget
    → ((chars : List ℕ) → kind ≡ codes "text" → AreValues IsScalar before chars → rest ≡ decimal wid ++ 32 ∷ quoted chars → P)
    → ((labels : List (List ℕ)) → kind ≡ codes "list" → AreValues IsLabelText before labels → rest ≡ decimal wid ++ spaced_labels labels → P)
    → ((value : WidgetValue) → kind ≡ value_word value → IsValueText rest wid value widget → P)
    → P
by_kind before kind rest wid (Text x) word id held line text list values =
    let parts = same_parts 32 kind (codes "text") rest _ word text_word (append_cancel_right (kind ++ 32 ∷ rest) _ (10 ∷ []) line) in
    text (map (λ item. item.value) x.items) parts.0 held parts.1
by_kind before kind rest wid (Labels x) word id held line text list values =
    let parts = same_parts 32 kind (codes "list") rest _ word list_word (list_first (kind ++ 32 ∷ rest) wid x.items line) in
    list (map (λ item. item.value) x.items) parts.0 held parts.1
by_kind before kind rest wid other word id held line text list values =
    let value = value_there other tt in
    let is = held value.0 value.1 in
    let parts = same_parts 32 kind (value_word value.0) rest _ word (value_is_word value.0) (value_line (kind ++ 32 ∷ rest) wid other value.0 tt value.1 line) in
    values value.0 parts.0 (record { id = id; ranges = is.0; said = is.1; spelled = parts.1 })

-- ---- lines that may come next

pub next_has_word : (draft : Draft) (bytes line : List ℕ) → bytes ≡ line → IsNext draft line → ((word rest : List ℕ) → IsWord word → bytes ≢ word ++ 32 ∷ rest) → ⊥
next_has_word draft bytes line is (inl next) none = none (codes "window") (decimal next.win) window_word (is ∙ window_first line next.win next.spelled)
next_has_word draft bytes line is (inr next) none = let first = first_of line next.wid next.widget next.spelled in none first.kind (decimal next.wid ++ first.behind) first.word (is ∙ first.spelled)

pub next_window : (draft : Draft) (bytes line kind rest : List ℕ) → bytes ≡ line → IsWord kind → bytes ≡ kind ++ 32 ∷ rest → kind ≡ codes "window" → IsNext draft line → IsNextWindow draft (codes "window " ++ rest)
next_window draft bytes line kind rest is word parts kind_is (inl next) = subst (λ (t : List ℕ). IsNextWindow draft t) (sym is ∙ parts ∙ ap (λ (t : List ℕ). t ++ 32 ∷ rest) kind_is) next
next_window draft bytes line kind rest is word parts kind_is (inr next) =
    let first = first_of line next.wid next.widget next.spelled in
    absurd (first.other ((same_parts 32 first.kind kind (decimal next.wid ++ first.behind) rest first.word word (sym first.spelled ∙ sym is ∙ parts)).0 ∙ kind_is))

pub next_widget : (draft : Draft) (bytes line kind rest : List ℕ) → bytes ≡ line → IsWord kind → bytes ≡ kind ++ 32 ∷ rest → kind ≢ codes "window" → IsNext draft line → IsNextWidget draft (kind ++ 32 ∷ rest)
next_widget draft bytes line kind rest is word parts other (inl next) =
    absurd (other (same_parts 32 kind (codes "window") rest (decimal next.win) word window_word (sym parts ∙ is ∙ window_first line next.win next.spelled)).0)
next_widget draft bytes line kind rest is word parts other (inr next) = subst (λ (t : List ℕ). IsNextWidget draft t) (sym is ∙ parts) next

-- ---- values that are read one by one

pub number_of : {V : Type 0} (before last : ℕ) (items : List (Item V)) → AreNumbered before items last → last ≡ before + length items
number_of before last [] are = omega (arith, are)
number_of before last (x ∷ xs) are = let behind = number_of (before + 1) last xs are.1 in omega (arith, behind)

-- a text goes on after the characters that were read, if one more follows
pub more_chars : (text cs rest later : List ℕ) (c : ℕ) → HasRead text cs rest → rest ≡ quoted_char c ++ later → (chars : List ℕ) → AllByRecursion IsScalar chars → text ≡ quoted chars → length cs < length chars
more_chars text cs rest later c read next chars all same = go (behind_read text cs rest chars [] read all same)
  where
    go : (es : List ℕ) × (chars ≡ cs ++ es) × (rest ≡ flat_map quoted_char es ++ 34 ∷ []) × AllByRecursion IsScalar es → length cs < length chars
    go ([], parts, after, scalars) = absurd (no_quote_first c later [] (sym next ∙ after))
    go (e ∷ es, parts, after, scalars) = omega (arith, ap length parts, length-append cs (e ∷ es))

-- of two labels at the front of a text each is the other
same_label : (a b r s : List ℕ) → IsLabelText a → IsLabelText b → quoted a ++ r ≡ quoted b ++ s → r ≡ s
same_label a b r s a_is b_is same =
    let here : HasRead (quoted a ++ r) a (34 ∷ r) = record { spelled = quoted_parts a r; scalars = label_scalars a a_is } in
    let whole = all_are_read (quoted a ++ r) a (34 ∷ r) b s here (λ c later c_is e. no_quote_first c later r (sym e)) (label_scalars b b_is) (same ∙ quoted_parts b s) in
    ap (λ (t : List ℕ). drop 1 t) whole.1

-- labels that go on after those that were read
pub record GoesOn (count : ℕ) (rest : List ℕ) (texts : List (List ℕ)) : Type 0 where
  pub more : List (List ℕ)
  pub length_is : length texts ≡ count + length more
  pub spelled : rest ≡ spaced_labels more
  pub each : AllByRecursion IsLabelText more

pub labels_go_on : (items : List (Item (List ℕ))) (texts : List (List ℕ)) (rest : List ℕ) → AllByRecursion (λ item. IsLabelText item.value) items → AllByRecursion IsLabelText texts
    → flat_map (λ item. 32 ∷ quoted item.value) items ++ rest ≡ spaced_labels texts → GoesOn (length items) rest texts
labels_go_on [] texts rest read all same = record { more = texts; length_is = omega arith; spelled = same; each = all }
labels_go_on (x ∷ xs) [] rest read all same = absurd (omega (arith, ap length same))
labels_go_on (x ∷ xs) (t ∷ ts) rest read all same =
    let behind = same_label x.value t (flat_map (λ item. 32 ∷ quoted item.value) xs ++ rest) (spaced_labels ts) read.0 all.0
    (sym (append_assoc (quoted x.value) (flat_map (λ (item : Item (List ℕ)). 32 ∷ quoted item.value) xs) rest) ∙ ap (drop 1) same) in
    let later = labels_go_on xs ts rest read.1 all.1 behind in
    let many = later.length_is in
    record { more = later.more; length_is = omega (arith, many); spelled = later.spelled; each = later.each }

-- after a space a label has to follow
pub no_label_next : (count : ℕ) (rest label : List ℕ) (texts : List (List ℕ)) → GoesOn count rest texts → rest ≡ 32 ∷ label
    → ((text behind : List ℕ) → IsLabelText text → label ≢ quoted text ++ behind) → ⊥
no_label_next count rest label texts on space none = go on.more on.spelled on.each
  where
    go : (more : List (List ℕ)) → rest ≡ spaced_labels more → AllByRecursion IsLabelText more → ⊥
    go [] spelled each = absurd (omega (arith, ap length (sym space ∙ spelled)))
    go (x ∷ xs) spelled each = none x (spaced_labels xs) each.0 (ap (drop 1) (sym space ∙ spelled))

pub labels_left : (count : ℕ) (rest label : List ℕ) (texts : List (List ℕ)) → GoesOn count rest texts → rest ≡ 32 ∷ label → count < length texts
labels_left count rest label texts on space = go on.more on.spelled on.length_is
  where
    go : (more : List (List ℕ)) → rest ≡ spaced_labels more → length texts ≡ count + length more → count < length texts
    go [] spelled long = absurd (omega (arith, ap length (sym space ∙ spelled)))
    go (x ∷ xs) spelled long = omega (arith, long)

pub no_more_labels : (count : ℕ) (rest : List ℕ) (texts : List (List ℕ)) → GoesOn count rest texts → rest ≢ [] → ((behind : List ℕ) → rest ≢ 32 ∷ behind) → ⊥
no_more_labels count rest texts on some none = go on.more on.spelled
  where
    go : (more : List (List ℕ)) → rest ≡ spaced_labels more → ⊥
    go [] spelled = some spelled
    go (x ∷ xs) spelled = none (quoted x ++ spaced_labels xs) spelled

-- one more label was read
pub texts_next : (items after : List (Item (List ℕ))) (item : Item (List ℕ)) → AllByRecursion (λ item. IsLabelText item.value) items → IsLabelText item.value → after ≡ items ++ item ∷ []
    → AllByRecursion (λ item. IsLabelText item.value) after
texts_next items after item all is more = subst (λ (xs : List (Item (List ℕ))). AllByRecursion (λ item. IsLabelText item.value) xs) (sym more) (go items all)
  where
    go : (xs : List (Item (List ℕ))) → AllByRecursion (λ item. IsLabelText item.value) xs → AllByRecursion (λ item. IsLabelText item.value) (xs ++ item ∷ [])
    go [] none = (is, tt)
    go (x ∷ xs) some = (some.0, go xs some.1)

-- The numbers of the items of a printed board.

-- one more item under a later number
pub IsNumberedTo-insert : {V : Type 0} → (last number : ℕ) (items : List (Item V)) (at : ℕ) (value : V) → IsNumberedTo last items → last < number
    → IsNumberedTo number (insert items at (record { name = record { site = 0; number = number }; value = value }))
IsNumberedTo-insert last number items at value numbered later n past =
    let other : name_eq (record { site = 0; number = number }) (record { site = 0; number = n }) ≡ false = ne_eqb number n (λ e. omega (arith, past, e)) in
    rw (has_name-insert (record { site = 0; number = n }) items at (record { name = record { site = 0; number = number }; value = value }), other) (numbered n (omega (arith, later, past)))

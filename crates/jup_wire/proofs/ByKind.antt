-- What differs on lines by the kind of a widget: what is read is spelled so, and what is spelled so is read.
use Rattle.std.proofs.Common.{◌≡◌, ◌≢◌, ℕ, ℤ, pos, negsuc, ◌<◌, ◌^◌, Bool, List, [], ◌∷◌, ◌++◌, Option, None, Some, ◌∙◌, refl, sym, ap, arith, IsTrue, decimal, codes, ◌≤◌, true, false, length, get_or}
use Rattle.std.specs.Int.Signed.{mag}
use Rattle.std.proofs.lemmas.Fmt.{decimal_is_IsNumeral, signed_decimal_injective}
use Rattle.jup_window.specs.declared.kinds.Setting.{Setting}
use Rattle.jup_window.specs.declared.kinds.Setting.TheVariants.{Toggle as ToToggle, Slider as ToSlider}
use Rattle.jup_limits.specs.Limits.{longest_label}
use Rattle.jup_wire.specs.Prelude.{SetOp, IsLabelText, SeqOp, is_no_relabel, WidgetOp, WidgetValue, join_with_byte, AllByRecursion, digit_value, IsScalar, signed_decimal, AllDigits}
use Rattle.jup_setting.specs.declared.operation.SetOp.TheVariants as set
use Rattle.jup_seq.specs.declared.operations.SeqOp.TheVariants as seq
use Rattle.jup_window.specs.declared.kinds.WidgetOp.TheVariants as widget
use Rattle.jup_wire.specs.declared.line.Line.TheVariants.{Value}
use Rattle.jup_wire.specs.Fields.{switch_text, seq_fields, set_fields, IsInt, IsSeqOp, IsSetOp, split_of, pair_of, scalar_of, int_of, switch_of, label_of, seq_of, set_of, IsId, id_of, dispatch}
use Rattle.jup_wire.specs.Kinds.{body_fields, IsBody, text_of, body_table, body_of, toggle_of, slider_of, value_word, value_fields, IsValueLine, value_table, setting_text, IsSetting}
use Rattle.jup_wire.specs.Lines.{headed_of, line_of}
use Rattle.jup_wire.proofs.Spellings.{IsReader, pair_reader, behind, headed_takes, tested, scalar_reader, switch_reader, label_reader, int_reader, lacks, TakesBehind, id_reader, int_field, id_field, seq_text, set_text, seq_reader, set_reader}
use Rattle.jup_number.specs.Numbers.{IsReadingOf}
use Rattle.jup_wire.proofs.Plain.{ArePlain, are_plain, switch_plain, signed_plain}
use Rattle.jup_wire.specs.declared.kinds.WidgetValue.TheVariants.{Toggle, Slider}

-- ---- operations on a widget

abbrev pub body_text : WidgetOp → List ℕ
body_text op = join_with_byte 32 (body_fields op)

pub joined_seq : {V : Type 0} (word : List ℕ) (text : V → List ℕ) (op : SeqOp V) → join_with_byte 32 (word ∷ seq_fields text op) ≡ word ++ 32 ∷ seq_text text op
joined_seq word text (seq.Insert place item) = refl
joined_seq word text (seq.Delete place name) = refl
joined_seq word text (seq.Relabel place name value) = refl
joined_seq word text seq.Nothing = refl

pub joined_set : {V : Type 0} (word : List ℕ) (text : V → List ℕ) (op : SetOp V) → join_with_byte 32 (word ∷ set_fields text op) ≡ word ++ 32 ∷ set_text text op
joined_set word text (set.Set x) = refl
joined_set word text set.Nothing = refl

text_op_reader : IsReader text_of (seq_text decimal) (λ op. IsTrue (is_no_relabel op) × IsSeqOp IsScalar op) 44
unfolding text_of
text_op_reader = tested (seq_of scalar_of) (seq_text decimal) (IsSeqOp IsScalar) 44 (seq_reader scalar_of decimal IsScalar 7 scalar_reader) is_no_relabel

list_op_reader : IsReader (seq_of label_of) (seq_text (λ label. label)) (IsSeqOp IsLabelText) 85
list_op_reader = seq_reader label_of (λ label. label) IsLabelText longest_label label_reader

toggle_op_reader : IsReader (set_of switch_of) (set_text switch_text) (IsSetOp (λ on. Unit {0})) 7
toggle_op_reader = set_reader switch_of switch_text (λ on. Unit {0}) 3 switch_reader

slider_op_reader : IsReader (set_of int_of) (set_text signed_decimal) (IsSetOp IsInt) 15
slider_op_reader = set_reader int_of signed_decimal IsInt 11 int_reader

body_takes : (bytes : List ℕ) (op : WidgetOp) → body_of bytes ≡ Some op → IsBody op × (bytes ≡ body_text op)
unfolding body_of
body_takes = headed_takes body_text IsBody body_table (
  behind (codes "text") text_of _ _ _ text_op_reader widget.Text body_text IsBody (λ op is. (is, sym (joined_seq (codes "text") decimal op))),
  (
    behind (codes "list") (seq_of label_of) _ _ _ list_op_reader widget.List body_text IsBody (λ op is. (is, sym (joined_seq (codes "list") (λ label. label) op))),
    (
      behind (codes "toggle") (set_of switch_of) _ _ _ toggle_op_reader widget.Toggle body_text IsBody (λ op is. (is, sym (joined_set (codes "toggle") switch_text op))),
      (behind (codes "slider") (set_of int_of) _ _ _ slider_op_reader widget.Slider body_text IsBody (λ op is. (is, sym (joined_set (codes "slider") signed_decimal op))), tt),
    ),
  ),
)

pub body_reader : IsReader body_of body_text IsBody 90
unfolding body_of split_of
body_reader = record {
  takes = body_takes;
  again = elim [
    | widget.Text op ↦ λ is. rw (joined_seq (codes "text") decimal op, text_op_reader.again op is) refl
    | widget.List op ↦ λ is. rw (joined_seq (codes "list") (λ label. label) op, list_op_reader.again op is) refl
    | widget.Toggle op ↦ λ is. rw (joined_set (codes "toggle") switch_text op, toggle_op_reader.again op is) refl
    | widget.Slider op ↦ λ is. rw (joined_set (codes "slider") signed_decimal op, slider_op_reader.again op is) refl
  ];
  one_line = elim [
    | widget.Text op ↦ λ is. rw (joined_seq (codes "text") decimal op) (text_op_reader.one_line op is)
    | widget.List op ↦ λ is. rw (joined_seq (codes "list") (λ label. label) op) (list_op_reader.one_line op is)
    | widget.Toggle op ↦ λ is. rw (joined_set (codes "toggle") switch_text op) (toggle_op_reader.one_line op is)
    | widget.Slider op ↦ λ is. rw (joined_set (codes "slider") signed_decimal op) (slider_op_reader.one_line op is)
  ];
  short = elim [
    | widget.Text op ↦ λ is. rw (joined_seq (codes "text") decimal op) (omega (arith, text_op_reader.short op is))
    | widget.List op ↦ λ is. rw (joined_seq (codes "list") (λ label. label) op) (omega (arith, list_op_reader.short op is))
    | widget.Toggle op ↦ λ is. rw (joined_set (codes "toggle") switch_text op) (omega (arith, toggle_op_reader.short op is))
    | widget.Slider op ↦ λ is. rw (joined_set (codes "slider") signed_decimal op) (omega (arith, slider_op_reader.short op is))
  ];
}

-- the body's fields follow the others
pub joined_do : (win wid : ℕ) (op : WidgetOp) → join_with_byte 32 (codes "do" ∷ decimal win ∷ decimal wid ∷ body_fields op) ≡ codes "do" ++ 32 ∷ (decimal win ++ 32 ∷ (decimal wid ++ 32 ∷ body_text op))
joined_do win wid (widget.Text op) = refl
joined_do win wid (widget.List op) = refl
joined_do win wid other = refl

-- The lines of widgets without items.

toggle_rest : IsReader (pair_of 32 id_of switch_of) (λ x. decimal x.0 ++ 32 ∷ switch_text x.1) (λ x. IsId x.0 × Unit {0}) 9
toggle_rest = pair_reader 32 id_of decimal IsId 5 id_reader switch_of switch_text (λ on. Unit {0}) 3 switch_reader id_field refl

slider_rest : IsReader (pair_of 32 id_of (pair_of 32 int_of (pair_of 32 int_of int_of))) (λ x. decimal x.0 ++ 32 ∷ (signed_decimal x.1.0 ++ 32 ∷ (signed_decimal x.1.1.0 ++ 32 ∷ signed_decimal x.1.1.1)))
    (λ x. IsId x.0 × (IsInt x.1.0 × (IsInt x.1.1.0 × IsInt x.1.1.1))) 41
slider_rest =
    let bounds = pair_reader 32 int_of signed_decimal IsInt 11 int_reader int_of signed_decimal IsInt 11 int_reader int_field refl in
    let ints = pair_reader 32 int_of signed_decimal IsInt 11 int_reader (pair_of 32 int_of int_of) _ _ _ bounds int_field refl in
    pair_reader 32 id_of decimal IsId 5 id_reader (pair_of 32 int_of (pair_of 32 int_of int_of)) _ _ _ ints id_field refl

abbrev pub value_text : ℕ × WidgetValue → List ℕ
value_text x = join_with_byte 32 (value_word x.1 ∷ decimal x.0 ∷ value_fields x.1)

pub values_take : AllByRecursion (TakesBehind value_text IsValueLine) value_table
unfolding toggle_of slider_of
values_take = (
  behind (codes "toggle") (pair_of 32 id_of switch_of) _ _ _ toggle_rest (λ x. (x.0, Toggle x.1)) value_text IsValueLine (λ x is. (is, refl)),
  (
    behind (codes "slider") (pair_of 32 id_of (pair_of 32 int_of (pair_of 32 int_of int_of))) _ _ _ slider_rest (λ x. (x.0, Slider x.1.0 x.1.1.0 x.1.1.1)) value_text IsValueLine (λ x is. (is, refl)),
    tt,
  ),
)

pub value_again : (x : ℕ × WidgetValue) → IsValueLine x → line_of (value_text x) ≡ Some (Value x.0 x.1)
unfolding line_of headed_of split_of toggle_of slider_of
value_again (wid, Toggle on) is = rw (toggle_rest.again (wid, on) is) refl
value_again (wid, Slider lo hi value) is = rw (slider_rest.again (wid, (lo, (hi, value))) is) refl

pub value_one_line : (x : ℕ × WidgetValue) → IsValueLine x → lacks 10 (value_text x) ≡ true
value_one_line (wid, Toggle on) is = toggle_rest.one_line (wid, on) is
value_one_line (wid, Slider lo hi value) is = slider_rest.one_line (wid, (lo, (hi, value))) is

pub value_short : (x : ℕ × WidgetValue) → IsValueLine x → length (value_text x) ≤ 48
value_short (wid, Toggle on) is = omega (arith, toggle_rest.short (wid, on) is)
value_short (wid, Slider lo hi value) is = omega (arith, slider_rest.short (wid, (lo, (hi, value))) is)

-- what follows the word of such a line is read as it was written
pub value_read : (x : ℕ × WidgetValue) → IsValueLine x → dispatch value_table (value_word x.1) (decimal x.0 ++ 32 ∷ join_with_byte 32 (value_fields x.1)) ≡ Some x
unfolding toggle_of slider_of
value_read (wid, Toggle on) is = rw (toggle_rest.again (wid, on) is) refl
value_read (wid, Slider lo hi value) is = rw (slider_rest.again (wid, (lo, (hi, value))) is) refl

pub value_joined : (wid : ℕ) (value : WidgetValue) → value_text (wid, value) ≡ value_word value ++ 32 ∷ (decimal wid ++ 32 ∷ join_with_byte 32 (value_fields value))
value_joined wid (Toggle on) = refl
value_joined wid (Slider lo hi value) = refl

-- the word has no space, and is no other that a line of a board begins with
pub word_lacks_space : (value : WidgetValue) → lacks 32 (value_word value) ≡ true
word_lacks_space (Toggle on) = refl
word_lacks_space (Slider lo hi value) = refl

pub other_word : (value : WidgetValue) → (value_word value ≢ codes "window") × (value_word value ≢ codes "text") × (value_word value ≢ codes "list")
other_word (Toggle on) = (
  (λ e. absurd (omega (arith, ap (λ (bs : List ℕ). get_or bs 0 0) e))),
  (λ e. absurd (omega (arith, ap (λ (bs : List ℕ). length bs) e))),
  (λ e. absurd (omega (arith, ap (λ (bs : List ℕ). length bs) e))),
)
other_word (Slider lo hi value) = (
  (λ e. absurd (omega (arith, ap (λ (bs : List ℕ). get_or bs 0 0) e))),
  (λ e. absurd (omega (arith, ap (λ (bs : List ℕ). length bs) e))),
  (λ e. absurd (omega (arith, ap (λ (bs : List ℕ). length bs) e))),
)

-- each word of it is printed in bytes from a space to `~`
pub value_plain : (value : WidgetValue) → AllByRecursion ArePlain (value_word value ∷ value_fields value)
value_plain (Toggle on) = (are_plain (codes "toggle") refl, (switch_plain on, tt))
value_plain (Slider lo hi value) = (are_plain (codes "slider") refl, (signed_plain lo, (signed_plain hi, (signed_plain value, tt))))

-- What is set.

pub switch_reading : (bytes : List ℕ) (r : Option Bool) → r ≡ switch_of bytes → IsReadingOf switch_text (λ on. Unit {0}) bytes r
switch_reading bytes None e = λ on is same. absurd (let no : None ≡ Some on = e ∙ ap switch_of same ∙ switch_reader.again on tt in cc)
switch_reading bytes (Some on) e = switch_reader.takes bytes on (sym e)

-- No two settings have one text.

-- no number is a switch
digit_first : (n : ℕ) → n < 2 ^ 64 → get_or (decimal n) 0 0 ≢ 111
digit_first n small e = go (decimal n) (decimal_is_IsNumeral n small).0.0 (decimal_is_IsNumeral n small).0.1 e
  where
    go : (ds : List ℕ) → 0 < length ds → AllDigits 10 ds → get_or ds 0 0 ≢ 111
    go [] some all first = absurd (omega (arith, some))
    go (d ∷ ds) some all first = absurd (omega (arith, ap digit_value first, all.0))

int_mag : (z : ℤ) → IsInt z → mag z < 2 ^ 63
int_mag (pos n) is = let small = is.sfits in omega (arith, small)
int_mag (negsuc n) is = let small = is.sfits in omega (arith, small)

no_switch : (on : Bool) (z : ℤ) → IsInt z → switch_text on ≢ signed_decimal z
no_switch true (pos n) is same = let small = is.sfits in digit_first n (omega (arith, small)) (sym (ap (λ (bs : List ℕ). get_or bs 0 0) same))
no_switch false (pos n) is same = let small = is.sfits in digit_first n (omega (arith, small)) (sym (ap (λ (bs : List ℕ). get_or bs 0 0) same))
no_switch true (negsuc n) is same = absurd (omega (arith, ap (λ (bs : List ℕ). get_or bs 0 0) same))
no_switch false (negsuc n) is same = absurd (omega (arith, ap (λ (bs : List ℕ). get_or bs 0 0) same))

pub one_setting : (s t : Setting) → IsSetting s → IsSetting t → setting_text s ≡ setting_text t → s ≡ t
one_setting (ToToggle true) (ToToggle true) s_is t_is same = refl
one_setting (ToToggle true) (ToToggle false) s_is t_is same = absurd (omega (arith, ap (λ (bs : List ℕ). length bs) same))
one_setting (ToToggle false) (ToToggle true) s_is t_is same = absurd (omega (arith, ap (λ (bs : List ℕ). length bs) same))
one_setting (ToToggle false) (ToToggle false) s_is t_is same = refl
one_setting (ToToggle on) (ToSlider z) s_is t_is same = absurd (no_switch on z t_is same)
one_setting (ToSlider z) (ToToggle on) s_is t_is same = absurd (no_switch on z s_is (sym same))
one_setting (ToSlider y) (ToSlider z) s_is t_is same = ap ToSlider (signed_decimal_injective y z (int_mag y s_is) (int_mag z t_is) same)

-- What differs on lines by the kind of a widget: operations, and the lines of widgets without items.
use Rattle.std.proofs.Common.{◌≡◌, ℕ, ℤ, pos, IsTrue, refl, sym, ap, subst, inl, inr, List, [], ◌∷◌, codes, decimal, Option, Some, None, if◌then◌else◌, int_le, ◌&&◌}
use Rattle.std.proofs.lemmas.Bool.{cases_Bool}
use Rattle.jup_window.specs.Kinds.{HasNoItems}
use Rattle.jup_window.specs.declared.kinds.Setting.{Setting}
use Rattle.jup_window.specs.declared.kinds.Setting.TheVariants.{Toggle as ToToggle, Slider as ToSlider}
use Rattle.jup_wire.specs.Prelude.{IsLabelText, SeqOp, is_no_relabel, WidgetOp, Widget, WidgetValue, IsScalar, signed_decimal, same_Some}
use Rattle.jup_window.specs.declared.kinds.Widget.TheVariants as shown
use Rattle.jup_window.specs.declared.kinds.WidgetOp.TheVariants as widget
use Rattle.jup_wire.specs.declared.kinds.WidgetValue.TheVariants.{Toggle, Slider}
use Rattle.jup_wire.specs.Fields.{switch_text, seq_fields, set_fields, IsSeqOp, IsSetOp, IsInt, ◌>>=◌, scalar_of, label_of, switch_of, int_of, id_of, pair_of, seq_of, set_of, headed_by, IsId}

-- Operations.

-- the fields of an operation on a widget
abbrev pub body_fields : WidgetOp → List (List ℕ)
body_fields (widget.Text op) = codes "text" ∷ seq_fields decimal op
body_fields (widget.List op) = codes "list" ∷ seq_fields (λ label. label) op
body_fields (widget.Toggle op) = codes "toggle" ∷ set_fields switch_text op
body_fields (widget.Slider op) = codes "slider" ∷ set_fields signed_decimal op

-- a text is not relabelled
abbrev pub IsBody : WidgetOp → Type 0
IsBody (widget.Text op) = IsTrue (is_no_relabel op) × IsSeqOp IsScalar op
IsBody (widget.List op) = IsSeqOp IsLabelText op
IsBody (widget.Toggle op) = IsSetOp (λ on. Unit {0}) op
IsBody (widget.Slider op) = IsSetOp IsInt op

-- an operation on a text, which has no relabels
abbrev pub if_no_relabel : {V : Type 0} → SeqOp V → Option (SeqOp V)
if_no_relabel op = if is_no_relabel op then Some op else None

unfoldable pub text_of : List ℕ → Option (SeqOp ℕ)
text_of bytes = seq_of scalar_of bytes >>= if_no_relabel

abbrev pub body_table : List (List ℕ × (List ℕ → Option WidgetOp))
body_table =
    (codes "text", λ rest. text_of rest >>= λ op. Some (widget.Text op))
    ∷ (codes "list", λ rest. seq_of label_of rest >>= λ op. Some (widget.List op))
    ∷ (codes "toggle", λ rest. set_of switch_of rest >>= λ op. Some (widget.Toggle op))
    ∷ (codes "slider", λ rest. set_of int_of rest >>= λ op. Some (widget.Slider op))
    ∷ []

unfoldable pub body_of : List ℕ → Option WidgetOp
body_of bytes = headed_by body_table bytes

-- Widgets without items.

-- what the line of such a widget says
abbrev pub value_of : Widget → Option WidgetValue
value_of (shown.Toggle x) = Some (Toggle x.on)
value_of (shown.Slider x) = Some (Slider x.lo x.hi x.value)
value_of other = None

-- the widget that such a line says, if its value is within its bounds
abbrev pub said_widget : WidgetValue → Option Widget
said_widget (Toggle on) = Some (shown.Toggle (record { on = on }))
said_widget (Slider lo hi value) = if int_le lo value && int_le value hi then Some (shown.Slider (record { lo = lo; hi = hi; value = value })) else None

-- the word of its kind, and what follows the id
abbrev pub value_word : WidgetValue → List ℕ
value_word (Toggle on) = codes "toggle"
value_word (Slider lo hi value) = codes "slider"

abbrev pub value_fields : WidgetValue → List (List ℕ)
value_fields (Toggle on) = switch_text on ∷ []
value_fields (Slider lo hi value) = signed_decimal lo ∷ signed_decimal hi ∷ signed_decimal value ∷ []

-- the ranges of its numbers
abbrev pub HasRanges : WidgetValue → Type 0
HasRanges (Toggle on) = Unit {0}
HasRanges (Slider lo hi value) = IsInt lo × (IsInt hi × IsInt value)

abbrev pub IsValueLine : ℕ × WidgetValue → Type 0
IsValueLine line = IsId line.0 × HasRanges line.1

-- its kind, its bounds and what it shows, as callers in other languages know them
abbrev pub kind_number : WidgetValue → ℕ
kind_number (Toggle on) = 3
kind_number (Slider lo hi value) = 4

abbrev pub value_numbers : WidgetValue → ℤ × ℤ × ℤ
value_numbers (Toggle on) = (pos 0, pos 0, pos (if on then 1 else 0))
value_numbers (Slider lo hi value) = (lo, hi, value)

-- how what follows the word is read, by the word
unfoldable pub toggle_of : List ℕ → Option (ℕ × WidgetValue)
toggle_of rest = pair_of 32 id_of switch_of rest >>= λ x. Some (x.0, Toggle x.1)

unfoldable pub slider_of : List ℕ → Option (ℕ × WidgetValue)
slider_of rest = pair_of 32 id_of (pair_of 32 int_of (pair_of 32 int_of int_of)) rest >>= λ x. Some (x.0, Slider x.1.0 x.1.1.0 x.1.1.1)

abbrev pub value_table : List (List ℕ × (List ℕ → Option (ℕ × WidgetValue)))
value_table = (codes "toggle", toggle_of) ∷ (codes "slider", slider_of) ∷ []

-- such a widget has a line
pub value_there : (w : Widget) → HasNoItems w → (value : WidgetValue) × (value_of w ≡ Some value)
value_there (shown.Toggle x) none = (Toggle x.on, refl)
value_there (shown.Slider x) none = (Slider x.lo x.hi x.value, refl)
value_there w none = absurd none

-- and what a line says has no items
pub said_none : (value : WidgetValue) (w : Widget) → said_widget value ≡ Some w → HasNoItems w
said_none (Toggle on) w e = subst HasNoItems (same_Some _ w e) tt
said_none (Slider lo hi value) w e =
    elim (cases_Bool (int_le lo value && int_le value hi)) [
      | inl within ↦ subst HasNoItems (same_Some _ w (rw within at e)) tt
      | inr outside ↦ absurd (let no : None ≡ Some w = rw outside at e in cc)
    ]

-- the widget that a line says has that line
pub said_value : (value : WidgetValue) (w : Widget) → said_widget value ≡ Some w → value_of w ≡ Some value
said_value (Toggle on) w e = ap value_of (sym (same_Some _ w e))
said_value (Slider lo hi value) w e =
    elim (cases_Bool (int_le lo value && int_le value hi)) [
      | inl within ↦ ap value_of (sym (same_Some _ w (rw within at e)))
      | inr outside ↦ absurd (let no : None ≡ Some w = rw outside at e in cc)
    ]

-- What a command sets, as texts have it.

-- a value, and its range
abbrev pub setting_text : Setting → List ℕ
setting_text (ToToggle on) = switch_text on
setting_text (ToSlider value) = signed_decimal value

abbrev pub IsSetting : Setting → Type 0
IsSetting (ToToggle on) = Unit {0}
IsSetting (ToSlider value) = IsInt value

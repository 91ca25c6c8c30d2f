-- The kinds of widgets, and what their edits mean.
use Rattle.std.proofs.Common.{arith, ◌≡◌, ◌≢◌, ℕ, ℤ, pos, Bool, List, refl, Option, None, suc, true, false, ◌&&◌, ◌||◌, ◌==◌, Some, Result, Ok, Err, if◌then◌else◌, int_lt, not, ◌≤ℤ◌, IsTrue, ◌↔◌, cond, subst, ap}
use Rattle.std.proofs.lemmas.Bool.{false≢true, or_parts, or_from, not-true, not_from_false}
use Rattle.std.proofs.lemmas.Int.{ints}
use Rattle.jup_window.specs.Prelude.{Ghosts, OneOf, First, Second, IsLawful, KeepsMeaning, ToggleState, SetOp, SetTo, NoSetOp, SettingEdit, SliderState, IsValidSlide, Name, Items, SeqOp, SeqEdit, Put, Deleted as SeqDeleted, Relabelled as SeqRelabelled, Widget, Text, Labels, Toggle, Slider, WidgetOp, OnText, OnList, OnToggle, OnSlider, BoardEdit, BoardOp, EditFault, ToToggle, ToSlider}
use Rattle.jup_xform.specs.Grids.{KeepsRest}
use Rattle.std.specs.Option.{option_and_then}
use Rattle.jup_xform.specs.Either.{either, of_each, Alike, firsts, seconds}
use Rattle.jup_window.specs.Parts.{IsKind, IsAny, first_of, second_of, first_kind, second_kind, within}
use Rattle.jup_xform.specs.Laws.Either.{either_is_lawful, either_keeps_meaning, either_keeps_rest}
use Rattle.jup_setting.specs.declared.operation.SettingEdit.TheVariants.{Set}
use Rattle.jup_setting.specs.Settings.{toggles, sliders}
use Rattle.jup_setting.specs.Laws.Settings.{toggles_are_lawful, toggles_keep_meaning, toggles_keep_rest, sliders_are_lawful, sliders_keep_meaning, sliders_keep_rest}
use Rattle.jup_seq.specs.Kinds.{sequences, texts}
use Rattle.jup_seq.specs.Laws.Kinds.{sequences_are_lawful, sequences_keep_meaning, sequences_keep_rest, texts_are_lawful, texts_keep_meaning, texts_keep_rest}
use Rattle.jup_seq.specs.Operations as seq_edits
use Rattle.jup_seq.specs.Names as seq_names
use Rattle.jup_window.specs.declared.kinds.Effect.{Effect}
use Rattle.jup_window.specs.declared.kinds.Effect.TheVariants.{PutChar, PutLabel, Deleted, Relabelled, Toggled, Slid, Nothing}
use Rattle.jup_window.specs.declared.edits.Edit.{Edit}
use Rattle.jup_window.specs.declared.kinds.Setting.{Setting}
use Rattle.jup_window.specs.declared.faults.EditFault.TheVariants.{WrongKind, BadValue}
use Rattle.jup_window.specs.Entries.{Place}

-- The kinds of widgets as one kind of operations: what holds of each kind holds of all.

-- an operation on a widget without items, such a widget, and an edit of it
abbrev pub ValueOp : Type 0
ValueOp = OneOf (SetOp Bool) (SetOp ℤ)

abbrev pub ValueState : Type 0
ValueState = OneOf ToggleState SliderState

abbrev pub ValueEdit : Type 0
ValueEdit = OneOf (SettingEdit Bool) (SettingEdit ℤ)

-- the kinds of widgets without items as one
abbrev pub values : Ghosts ValueOp ValueState ValueEdit
values = either toggles sliders

-- they have the laws of each, and no names
values_are_lawful : IsLawful values
values_are_lawful = either_is_lawful _ _ toggles_are_lawful sliders_are_lawful

values_keep_meaning : KeepsMeaning values
values_keep_meaning = either_keeps_meaning _ _ toggles_keep_meaning sliders_keep_meaning

values_keep_rest : KeepsRest values
values_keep_rest = either_keeps_rest _ _ toggles_keep_rest sliders_keep_rest

pub nameless : values.Name → ⊥
nameless (First n) = n
nameless (Second n) = n

-- an operation on a widget, a widget, and an edit of it
abbrev pub KindOp : Type 0
KindOp = OneOf (SeqOp ℕ) (OneOf (SeqOp (List ℕ)) ValueOp)

abbrev pub KindState : Type 0
KindState = OneOf (Items ℕ) (OneOf (Items (List ℕ)) ValueState)

abbrev pub WidgetEdit : Type 0
WidgetEdit = OneOf (SeqEdit ℕ) (OneOf (SeqEdit (List ℕ)) ValueEdit)

-- all kinds as one
abbrev pub kinds : Ghosts KindOp KindState WidgetEdit
kinds = either texts (either sequences values)

-- they have the laws of each
pub kinds_are_lawful : IsLawful kinds
kinds_are_lawful = either_is_lawful _ _ texts_are_lawful (either_is_lawful _ _ sequences_are_lawful values_are_lawful)

pub kinds_keep_meaning : KeepsMeaning kinds
kinds_keep_meaning = either_keeps_meaning _ _ texts_keep_meaning (either_keeps_meaning _ _ sequences_keep_meaning values_keep_meaning)

pub kinds_keep_rest : KeepsRest kinds
kinds_keep_rest = either_keeps_rest _ _ texts_keep_rest (either_keeps_rest _ _ sequences_keep_rest values_keep_rest)

-- an operation on a widget as one of its kind
abbrev pub op_kind : WidgetOp → KindOp
op_kind (OnText o) = First o
op_kind (OnList o) = Second (First o)
op_kind (OnToggle o) = Second (Second (First o))
op_kind (OnSlider o) = Second (Second (Second o))

-- and back
abbrev pub op_of : KindOp → WidgetOp
op_of (First o) = OnText o
op_of (Second (First o)) = OnList o
op_of (Second (Second (First o))) = OnToggle o
op_of (Second (Second (Second o))) = OnSlider o

pub op_kind-of : (k : KindOp) → op_kind (op_of k) ≡ k
op_kind-of (First o) = refl
op_kind-of (Second (First o)) = refl
op_kind-of (Second (Second (First o))) = refl
op_kind-of (Second (Second (Second o))) = refl

-- a widget as a state of its kind
abbrev pub kind_of : Widget → KindState
kind_of (Text x) = First x
kind_of (Labels x) = Second (First x)
kind_of (Toggle x) = Second (Second (First x))
kind_of (Slider x) = Second (Second (Second x))

-- and back
abbrev pub widget_of : KindState → Widget
widget_of (First x) = Text x
widget_of (Second (First x)) = Labels x
widget_of (Second (Second (First x))) = Toggle x
widget_of (Second (Second (Second x))) = Slider x

pub kind_of-widget : (k : KindState) → kind_of (widget_of k) ≡ k
kind_of-widget (First x) = refl
kind_of-widget (Second (First x)) = refl
kind_of-widget (Second (Second (First x))) = refl
kind_of-widget (Second (Second (Second x))) = refl

-- an operation and a widget are of one kind
abbrev pub AreOfOneKind : WidgetOp → Widget → Type 0
AreOfOneKind o w = Alike (λ o x. Unit {0}) (Alike (λ o x. Unit {0}) (Alike (λ o x. Unit {0}) (λ o x. Unit {0}))) (op_kind o) (kind_of w)

-- two operations are of one kind
abbrev pub AreOperationsOfOneKind : WidgetOp → WidgetOp → Type 0
AreOperationsOfOneKind o p = Alike (λ o p. Unit {0}) (Alike (λ o p. Unit {0}) (Alike (λ o p. Unit {0}) (λ o p. Unit {0}))) (op_kind o) (op_kind p)

-- P of a text and Q of a list; any setting passes
abbrev pub InSequences : (Items ℕ → Type 0) → (Items (List ℕ) → Type 0) → Widget → Type 0
InSequences P Q w = of_each P (of_each Q (of_each (λ x. Unit {0}) (λ x. Unit {0}))) (kind_of w)

-- the content of a widget: the values of a text or a list by name, without their order, or the value of a setting
abbrev pub Content : Type 0
Content = kinds.Content

-- the content of a widget
abbrev pub content : Widget → Content
content w = kinds.content (kind_of w)

-- the edit that an operation makes
abbrev pub edit_of : WidgetOp → WidgetEdit
edit_of o = kinds.edit_of (op_kind o)

-- the content after a list of edits
abbrev pub meaning : Content → List WidgetEdit → Content
meaning = kinds.meaning

-- What edits of widgets insert, delete and change, and how they are shown.

-- an edit without its kind, as it is shown
abbrev pub effect : WidgetEdit → Effect
effect (First (Put n v)) = PutChar n v
effect (First (SeqDeleted n)) = Deleted n
effect (Second (First (Put n v))) = PutLabel n v
effect (Second (First (SeqDeleted n))) = Deleted n
effect (Second (First (SeqRelabelled n v))) = Relabelled n v
effect (Second (Second (First (Set v)))) = Toggled v
effect (Second (Second (Second (Set v)))) = Slid v
effect e = Nothing

-- the name that an edit inserts
abbrev pub inserted_name : WidgetEdit → Option Name
inserted_name (First e) = seq_edits.put_name e
inserted_name (Second (First e)) = seq_edits.put_name e
inserted_name (Second (Second e)) = None

-- the name that an edit deletes
abbrev pub deleted_name : WidgetEdit → Option Name
deleted_name (First e) = seq_edits.deleted_name e
deleted_name (Second (First e)) = seq_edits.deleted_name e
deleted_name (Second (Second e)) = None

-- an edit inserts a name
abbrev pub InsertsName : WidgetEdit → Name → Type 0
InsertsName (First e) n = seq_names.InsertsName e n
InsertsName (Second (First e)) n = seq_names.InsertsName e n
InsertsName (Second (Second e)) n = ⊥

-- an edit deletes a name
abbrev pub DeletesName : WidgetEdit → Name → Type 0
DeletesName (First e) n = seq_names.DeletesName e n
DeletesName (Second (First e)) n = seq_names.DeletesName e n
DeletesName (Second (Second e)) n = ⊥

-- an edit deletes a name, or gives it another value
abbrev pub ChangesName : WidgetEdit → Name → Type 0
ChangesName (First e) n = seq_names.DeletesName e n
ChangesName (Second (First e)) n = seq_names.ChangesName e n
ChangesName (Second (Second e)) n = ⊥

-- The items that edits insert, and the names that they bear.

-- an edit as it is shown
abbrev pub shown_edit : BoardEdit → Edit
shown_edit e = record { win = e.win; wid = e.wid; what = effect e.what }

-- how many items an edit inserts
abbrev pub count_of : Option Name → ℕ
count_of None = 0
count_of (Some n) = 1

-- how many items an edit inserts
abbrev pub insertions : BoardEdit → ℕ
insertions e = count_of (inserted_name e.what)

-- a site's name for its next insertion after some
abbrev pub is_next : ℕ → ℕ → Name → Bool
is_next site count n = (n.site == site) && (n.number == suc count)

-- the same of a name, if there is one
abbrev pub is_next_if_there : ℕ → ℕ → Option Name → Bool
is_next_if_there site count None = true
is_next_if_there site count (Some n) = is_next site count n

-- whether what an edit inserts, if anything, bears the site's next name
abbrev pub bears_next : ℕ → ℕ → BoardEdit → Bool
bears_next site count e = is_next_if_there site count (inserted_name e.what)

-- whether there is a name and it is of the site
abbrev pub is_of_site : ℕ → Option Name → Bool
is_of_site site None = false
is_of_site site (Some n) = n.site == site

-- whether an edit inserts an item that is named by the site
abbrev pub bears_site : ℕ → BoardEdit → Bool
bears_site site e = is_of_site site (inserted_name e.what)

-- whether an effect changes nothing
abbrev pub is_no_effect : Effect → Bool
is_no_effect (PutChar n v) = false
is_no_effect (PutLabel n v) = false
is_no_effect (Deleted n) = false
is_no_effect (Relabelled n v) = false
is_no_effect (Toggled v) = false
is_no_effect (Slid v) = false
is_no_effect Nothing = true

-- whether an edit changes nothing
abbrev pub is_nothing : BoardEdit → Bool
is_nothing e = is_no_effect (effect e.what)

-- What the operations of each kind of widget mean for the content of a board.

-- the content of a text
abbrev pub Chars : seq_edits.Content ℕ → Content
Chars had = First had

-- the content of a list
abbrev pub Labelled : seq_edits.Content (List ℕ) → Content
Labelled had = Second (First had)

-- the content of a toggle
abbrev pub On : Bool → Content
On v = Second (Second (First v))

-- the content of a slider
abbrev pub At : ℤ → Content
At v = Second (Second (Second v))

-- an edit of a text
abbrev pub of_text : SeqEdit ℕ → WidgetEdit
of_text e = First e

-- an edit of a list
abbrev pub of_list : SeqEdit (List ℕ) → WidgetEdit
of_list e = Second (First e)

-- an edit of a toggle
abbrev pub of_toggle : SettingEdit Bool → WidgetEdit
of_toggle e = Second (Second (First e))

-- an edit of a slider
abbrev pub of_slider : SettingEdit ℤ → WidgetEdit
of_slider e = Second (Second (Second e))

-- the edits of toggles among those of widgets, and those of sliders
abbrev pub toggle_of : WidgetEdit → Option (SettingEdit Bool)
toggle_of e = option_and_then (λ v. option_and_then first_of (second_of v)) (second_of e)

abbrev pub toggle_edits : List WidgetEdit → List (SettingEdit Bool)
toggle_edits es = firsts (seconds (seconds es))

pub toggle_part : IsKind toggle_edits toggle_of of_toggle IsAny
toggle_part = within second_kind (within second_kind first_kind)

abbrev pub slider_of : WidgetEdit → Option (SettingEdit ℤ)
slider_of e = option_and_then (λ v. option_and_then second_of (second_of v)) (second_of e)

abbrev pub slider_edits : List WidgetEdit → List (SettingEdit ℤ)
slider_edits es = seconds (seconds (seconds es))

pub slider_part : IsKind slider_edits slider_of of_slider IsAny
slider_part = within second_kind (within second_kind second_kind)

-- an operation on the widget at a place
abbrev pub op_at : Place → WidgetOp → BoardOp
op_at p o = record { win = p.0; wid = p.1; op = o }

-- an edit of the widget at a place
abbrev pub edit_at : Place → WidgetEdit → BoardEdit
edit_at p e = record { win = p.0; wid = p.1; what = e }

-- an edit of it as it is shown
abbrev pub shown_at : Place → Effect → Edit
shown_at p e = record { win = p.0; wid = p.1; what = e }

-- the character that a content has under a name, if it is that of a text
abbrev pub character : Name → Option Content → Option ℕ
character n None = None
character n (Some (First had)) = had n
character n (Some (Second had)) = None

-- the label that a content has under a name, if it is that of a list
abbrev pub label : Name → Option Content → Option (List ℕ)
label n None = None
label n (Some (First had)) = None
label n (Some (Second (First had))) = had n
label n (Some (Second (Second had))) = None

-- what an effect sets, if it is that of a command that sets a value
abbrev pub effect_setting : Effect → Option Setting
effect_setting (Toggled v) = Some (ToToggle v)
effect_setting (Slid v) = Some (ToSlider v)
effect_setting other = None

-- Widgets without items: their operations, and what a command sets.

-- a widget has no items
abbrev pub HasNoItems : Widget → Type 0
HasNoItems (Text x) = ⊥
HasNoItems (Labels x) = ⊥
HasNoItems other = Unit {0}

-- whether a value is outside a slider's bounds
abbrev pub is_outside : ℤ → SliderState → Bool
is_outside v x = int_lt v x.lo || int_lt x.hi v

-- whether a slider takes an operation
abbrev pub slider_accepts : SetOp ℤ → SliderState → Bool
slider_accepts (SetTo v) x = not (is_outside v x)
slider_accepts NoSetOp x = true

-- whether an operation may be applied to a widget without items
abbrev pub value_accepts : WidgetOp → Widget → Bool
value_accepts (OnToggle o) (Toggle x) = true
value_accepts (OnSlider o) (Slider x) = slider_accepts o x
value_accepts o w = false

-- what an operation sets
abbrev pub op_setting : WidgetOp → Option Setting
op_setting (OnToggle (SetTo v)) = Some (ToToggle v)
op_setting (OnSlider (SetTo v)) = Some (ToSlider v)
op_setting other = None

-- a setting as callers in other languages know it: the number of its kind, and its value as a number
abbrev pub setting_kind : Setting → ℕ
setting_kind (ToToggle on) = 5
setting_kind (ToSlider value) = 6

abbrev pub setting_number : Setting → ℤ
setting_number (ToToggle on) = pos (if on then 1 else 0)
setting_number (ToSlider value) = value

-- and how they tell its value: any number but 0 is on
abbrev pub IsToldBy : Setting → ℤ → Type 0
IsToldBy (ToToggle on) value = IsTrue on ↔ (value ≢ pos 0)
IsToldBy (ToSlider at) value = value ≡ at

-- the operation on a widget of a setting
abbrev pub setting_on : Setting → Widget → Result WidgetOp EditFault
setting_on (ToToggle v) (Toggle x) = Ok (OnToggle (SetTo v))
setting_on (ToSlider v) (Slider x) = if is_outside v x then Err BadValue else Ok (OnSlider (SetTo v))
setting_on s w = Err WrongKind

-- the widget as it is shown after a setting
abbrev pub setting_shown : Setting → Widget → Widget
setting_shown (ToToggle v) (Toggle x) = Toggle (record x { on = v })
setting_shown (ToSlider v) (Slider x) = Slider (record x { value = v })
setting_shown s w = w

-- What holds of each kind without items.

-- not less is at least
int_le-false : (a b : ℤ) → int_lt a b ≡ false → b ≤ℤ a
int_le-false a b h = grind (arith, ints)

-- at least is not less
int_lt-false : (a b : ℤ) → b ≤ℤ a → int_lt a b ≡ false
int_lt-false a b h = grind (arith, ints)

-- what a slider accepts is allowed
slider-valid : (o : SetOp ℤ) (x : SliderState) → slider_accepts o x ≡ true → IsValidSlide o x
slider-valid (SetTo v) x h =
    let parts = or_parts (int_lt v x.lo) (int_lt x.hi v) (not-true (is_outside v x) h) in (int_le-false v x.lo parts.0, int_le-false x.hi v parts.1)
slider-valid NoSetOp x h = tt

-- and what is allowed it accepts
slider-accepts : (o : SetOp ℤ) (x : SliderState) → IsValidSlide o x → slider_accepts o x ≡ true
slider-accepts (SetTo v) x h =
    not_from_false (is_outside v x) (or_from (int_lt v x.lo) (int_lt x.hi v) (int_lt-false v x.lo h.0) (int_lt-false x.hi v h.1))
slider-accepts NoSetOp x h = refl

-- a toggle takes each operation
toggle-valid : (o : SetOp Bool) (x : ToggleState) → toggles.is_valid o x
toggle-valid (SetTo v) x = tt
toggle-valid NoSetOp x = tt

-- what a widget accepts is valid
pub value_valid : (o : WidgetOp) (w : Widget) → value_accepts o w ≡ true → kinds.is_valid (op_kind o) (kind_of w)
value_valid (OnToggle o) (Toggle x) h = toggle-valid o x
value_valid (OnSlider o) (Slider x) h = slider-valid o x h
value_valid o w h = absurd (false≢true h)

-- and what is valid it accepts
pub valid_value : (o : WidgetOp) (w : Widget) → HasNoItems w → kinds.is_valid (op_kind o) (kind_of w) → value_accepts o w ≡ true
valid_value o (Text x) none h = absurd none
valid_value o (Labels x) none h = absurd none
valid_value (OnToggle o) (Toggle x) none h = refl
valid_value (OnSlider o) (Slider x) none h = slider-accepts o x h
valid_value o w none h = absurd h

-- a valid operation leaves what is valid as it was
slider_still : (e o : SetOp ℤ) (x : SliderState) → IsValidSlide o x ↔ IsValidSlide o (sliders.after e x)
slider_still (SetTo v) (SetTo u) x = ((λ h. h), (λ h. h))
slider_still (SetTo v) NoSetOp x = ((λ h. tt), (λ h. tt))
slider_still NoSetOp o x = ((λ h. h), (λ h. h))

pub still_valid : (e o : WidgetOp) (w : Widget) → HasNoItems w → kinds.is_valid (op_kind e) (kind_of w) → kinds.is_valid (op_kind o) (kind_of w) ↔ kinds.is_valid (op_kind o) (kinds.after (op_kind e) (kind_of w))
still_valid e o (Text x) none h = absurd none
still_valid e o (Labels x) none h = absurd none
still_valid (OnToggle e) (OnToggle o) (Toggle x) none h = ((λ h. toggle-valid o _), (λ h. toggle-valid o x))
still_valid (OnToggle e) o (Toggle x) none h = ((λ h. h), (λ h. h))
still_valid (OnSlider e) (OnSlider o) (Slider x) none h = slider_still e o x
still_valid (OnSlider e) o (Slider x) none h = ((λ h. h), (λ h. h))
still_valid e o w none h = absurd h

-- an operation leaves no items
pub value_after : (o : WidgetOp) (w : Widget) → HasNoItems w → HasNoItems (widget_of (kinds.after (op_kind o) (kind_of w)))
value_after o (Text x) none = absurd none
value_after o (Labels x) none = absurd none
value_after (OnToggle o) (Toggle x) none = tt
value_after (OnSlider o) (Slider x) none = tt
value_after (OnText o) w none = tt
value_after o w none = tt

-- it inserts and changes no name
pub value_names : (o : WidgetOp) (w : Widget) → HasNoItems w → kinds.is_valid (op_kind o) (kind_of w) → (n : Name) → (InsertsName (edit_of o) n → ⊥) × (ChangesName (edit_of o) n → ⊥)
value_names o (Text x) none h n = absurd none
value_names o (Labels x) none h n = absurd none
value_names (OnText o) w none h n = absurd h
value_names (OnList o) w none h n = absurd h
value_names o w none h n = ((λ i. i), (λ c. c))

-- the operation of a setting is valid, inserts nothing, changes something, and leaves what the setting shows
pub record IsSetting (s : Setting) (w : Widget) (o : WidgetOp) : Type 0 where
  pub valid : kinds.is_valid (op_kind o) (kind_of w)
  pub inserts : inserted_name (edit_of o) ≡ None
  pub changes : is_no_effect (effect (edit_of o)) ≡ false
  pub shows : widget_of (kinds.after (op_kind o) (kind_of w)) ≡ setting_shown s w

slides : (v : ℤ) (x : SliderState) (out : Bool) → is_outside v x ≡ out → (o : WidgetOp) → ◌≡◌ {A = Result WidgetOp EditFault} (cond out (Err BadValue) (Ok (OnSlider (SetTo v)))) (Ok o) → IsSetting (ToSlider v) (Slider x) o
slides v x true is o e = absurd cc
slides v x false is o e =
    let same : OnSlider (SetTo v) ≡ o = cc in
    subst (λ p. IsSetting (ToSlider v) (Slider x) p) same (record { valid = slider-valid (SetTo v) x (ap not is); inserts = refl; changes = refl; shows = refl })

pub setting_is : (s : Setting) (w : Widget) (o : WidgetOp) → setting_on s w ≡ Ok o → IsSetting s w o
setting_is (ToToggle v) (Toggle x) o e =
    let same : OnToggle (SetTo v) ≡ o = cc in subst (λ p. IsSetting (ToToggle v) (Toggle x) p) same (record { valid = tt; inserts = refl; changes = refl; shows = refl })
setting_is (ToSlider v) (Slider x) o e = slides v x (is_outside v x) refl o e
setting_is s w o e = absurd cc

-- a setting becomes the same operation after others, whatever the room of the widget
pub setting_later : (s : Setting) (e : WidgetOp) (w : Widget) → HasNoItems w → kinds.is_valid (op_kind e) (kind_of w) → setting_on s (widget_of (kinds.after (op_kind e) (kind_of w))) ≡ setting_on s w
setting_later s e (Text x) none h = absurd none
setting_later s e (Labels x) none h = absurd none
setting_later (ToToggle v) (OnToggle e) (Toggle x) none h = refl
setting_later (ToSlider v) (OnToggle e) (Toggle x) none h = refl
setting_later (ToToggle v) (OnSlider e) (Slider x) none h = refl
setting_later (ToSlider v) (OnSlider (SetTo u)) (Slider x) none h = refl
setting_later (ToSlider v) (OnSlider NoSetOp) (Slider x) none h = refl
setting_later s e w none h = absurd h

pub setting_bare : (s : Setting) (w : Widget) → setting_on s (widget_of (kinds.bare (kind_of w))) ≡ setting_on s w
setting_bare (ToToggle v) (Toggle x) = refl
setting_bare (ToSlider v) (Slider x) = refl
setting_bare s (Text x) = refl
setting_bare s (Labels x) = refl
setting_bare s w = refl

-- no setting is of a text or a list
pub setting_of_items : (s : Setting) (w : Widget) → (HasNoItems w → ⊥) → setting_on s w ≡ Err WrongKind
setting_of_items (ToToggle v) (Toggle x) some = absurd (some tt)
setting_of_items (ToSlider v) (Slider x) some = absurd (some tt)
setting_of_items s w some = refl

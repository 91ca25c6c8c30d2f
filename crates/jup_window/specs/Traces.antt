-- What determines whether an operation on a board may be applied after others
use Rattle.std.proofs.Common.{◌≡◌, ℕ, List, Bool, true, false, Option, Some, None, refl, sym, subst, ◌↔◌, IsTrue, if◌then◌else◌}
use Rattle.std.proofs.lemmas.Bool.{false≢true}
use Rattle.std.specs.Option.{option_map, IsSomeAnd}
use Rattle.jup_window.specs.Prelude.{Items, SeqOp, Widget, Text, Labels, WidgetOp, OnText, OnList, BoardOp, is_no_relabel}
use Rattle.jup_seq.specs.Operations as seq
use Rattle.jup_seq.specs.Traces as seq_traces
use Rattle.jup_window.specs.declared.singles.WidgetTrace.{WidgetTrace}
use Rattle.jup_window.specs.declared.singles.WidgetTrace.TheVariants.{Sequence, Decided}
use Rattle.jup_window.specs.Entries.{same_place, widget_at}
use Rattle.jup_window.specs.Laws.Entries.{same_place-true, widget_at-change}
use Rattle.jup_window.specs.Kinds.{HasNoItems, still_valid, value_after}
use Rattle.jup_window.specs.Laws.Widgets.{of_valid, after-kinds}
use Rattle.jup_window.specs.Widgets as widget
use Rattle.jup_window.specs.Boards as board

-- a trace of an operation on a widget: of one that may not be of a sequence's kind, whether it is valid
abbrev pub IsTraceOn : WidgetTrace → WidgetOp → Widget → Type 0
IsTraceOn (Sequence r) (OnText o) (Text x) = seq_traces.IsTrace o x r
IsTraceOn (Sequence r) (OnList o) (Labels x) = seq_traces.IsTrace o x r
IsTraceOn (Sequence r) o w = ⊥
IsTraceOn (Decided taken) (OnText o) (Text x) = ⊥
IsTraceOn (Decided taken) (OnList o) (Labels x) = ⊥
IsTraceOn (Decided taken) o w = IsTrue taken ↔ widget.IsValid o w

-- the trace of the first operation past the second
abbrev pub widget_trace_past : WidgetTrace → WidgetOp → WidgetOp → WidgetTrace
widget_trace_past (Sequence r) (OnText o) (OnText e) = Sequence (seq_traces.trace_past o r e)
widget_trace_past (Sequence r) (OnList o) (OnList e) = Sequence (seq_traces.trace_past o r e)
widget_trace_past r o e = r

-- whether it allows its operation; no relabel of a text is allowed
abbrev pub AllowsOn : WidgetTrace → WidgetOp → Type 0
AllowsOn (Sequence r) (OnText o) = IsTrue (is_no_relabel o) × seq_traces.Allows o r
AllowsOn (Sequence r) (OnList o) = seq_traces.Allows o r
AllowsOn (Sequence r) o = ⊥
AllowsOn (Decided taken) o = IsTrue taken

-- the same on a board, if the widget may be absent
abbrev pub IsTraceIn : Option Widget → WidgetTrace → WidgetOp → Type 0
IsTraceIn None r o = r ≡ Decided false
IsTraceIn (Some w) r o = IsTraceOn r o w

abbrev pub IsTrace : BoardOp → board.Windows → WidgetTrace → Type 0
IsTrace o b r = IsTraceIn (widget_at (board.place o) b) r o.op

abbrev pub trace_past : BoardOp → WidgetTrace → BoardOp → WidgetTrace
trace_past o r e = if same_place (board.place e) (board.place o) then widget_trace_past r o.op e.op else r

abbrev pub Allows : BoardOp → WidgetTrace → Type 0
Allows o r = AllowsOn r o.op

-- a trace stays one past an operation on its widget

text_traced : (c : SeqOp ℕ) (x : Items ℕ) → seq.IsValid c x → (r : WidgetTrace) (o : WidgetOp) → IsTraceOn r o (Text x)
    → IsTraceOn (widget_trace_past r o (OnText c)) o (Text (seq.after c x))
text_traced c x vc (Sequence r) (OnText o) is = seq_traces.traced o c x r vc is
text_traced c x vc (Sequence r) o is = absurd is
text_traced c x vc (Decided taken) (OnText o) is = absurd is
text_traced c x vc (Decided taken) o is = is

list_traced : (c : SeqOp (List ℕ)) (x : Items (List ℕ)) → seq.IsValid c x → (r : WidgetTrace) (o : WidgetOp) → IsTraceOn r o (Labels x)
    → IsTraceOn (widget_trace_past r o (OnList c)) o (Labels (seq.after c x))
list_traced c x vc (Sequence r) (OnList o) is = seq_traces.traced o c x r vc is
list_traced c x vc (Sequence r) o is = absurd is
list_traced c x vc (Decided taken) (OnList o) is = absurd is
list_traced c x vc (Decided taken) o is = is

-- on a widget without items a trace is whether its operation is valid, and that stays
decided : (r : WidgetTrace) (o : WidgetOp) (w : Widget) → HasNoItems w → IsTraceOn r o w → (taken : Bool) × (r ≡ Decided taken) × (IsTrue taken ↔ widget.IsValid o w)
decided r o (Text x) none is = absurd none
decided r o (Labels x) none is = absurd none
decided (Sequence r) (OnText o) w none is = absurd is
decided (Sequence r) o w none is = absurd is
decided (Decided taken) (OnText o) w none is = (taken, refl, is)
decided (Decided taken) o w none is = (taken, refl, is)

is_decided : (taken : Bool) (o : WidgetOp) (w : Widget) → HasNoItems w → (IsTrue taken ↔ widget.IsValid o w) → IsTraceOn (Decided taken) o w
is_decided taken o (Text x) none is = absurd none
is_decided taken o (Labels x) none is = absurd none
is_decided taken (OnText o) w none is = is
is_decided taken o w none is = is

other_traced : (e : WidgetOp) (w : Widget) → HasNoItems w → widget.IsValid e w → (r : WidgetTrace) (o : WidgetOp) → IsTraceOn r o w → IsTraceOn (widget_trace_past r o e) o (widget.after e w)
other_traced e w none valid r o is =
    let (taken, same, told) = decided r o w none is in
    let still = still_valid e o w none valid in
    subst (λ t. IsTraceOn (widget_trace_past t o e) o (widget.after e w)) (sym same)
    (is_decided taken o (widget.after e w) (value_after e w none)
    ((λ yes. rw (after-kinds e w) (still.0 (told.0 yes))), (λ later. told.1 (still.1 (rw (after-kinds e w) at later)))))

widget_traced : (e : WidgetOp) (w : Widget) → widget.IsValid e w → (r : WidgetTrace) (o : WidgetOp) → IsTraceOn r o w
    → IsTraceOn (widget_trace_past r o e) o (widget.after e w)
widget_traced e w valid =
    of_valid (λ e w. (r : WidgetTrace) (o : WidgetOp) → IsTraceOn r o w → IsTraceOn (widget_trace_past r o e) o (widget.after e w))
    (λ c x vc. text_traced c x vc.1) list_traced other_traced e w valid

-- or on another, if the widget may be absent
in_traced : (here : Bool) (o e : WidgetOp) (w : Option Widget) (r : WidgetTrace) → (here ≡ true → IsSomeAnd w (widget.IsValid e)) → IsTraceIn w r o
    → IsTraceIn (option_map (λ v. if here then widget.after e v else v) w) (if here then widget_trace_past r o e else r) o
in_traced false o e None r valid is = is
in_traced false o e (Some w) r valid is = is
in_traced true o e None r valid is = absurd (valid refl)
in_traced true o e (Some w) r valid is = widget_traced e w (valid refl) r o is

pub traced : (o e : BoardOp) (b : board.Windows) (r : WidgetTrace) → board.IsValid e b → IsTrace o b r → IsTrace o (board.after e b) (trace_past o r e)
traced o e b r valid is =
    rw (widget_at-change (board.place e) (board.place o) (widget.after e.op) b)
    (in_traced (same_place (board.place e) (board.place o)) o.op e.op (widget_at (board.place o) b) r
    (λ same. subst (λ p. IsSomeAnd (widget_at p b) (widget.IsValid e.op)) (same_place-true (board.place e) (board.place o) same) valid) is)

-- a trace determines whether its operation is valid

widget_told : (r : WidgetTrace) (o : WidgetOp) (w : Widget) → IsTraceOn r o w → (AllowsOn r o ↔ widget.IsValid o w)
widget_told (Sequence r) (OnText o) (Text x) is =
    let told = seq_traces.told o x r is in
    ((λ allowed. (allowed.0, told.0 allowed.1)), (λ valid. (valid.0, told.1 valid.1)))
widget_told (Sequence r) (OnList o) (Labels x) is = seq_traces.told o x r is
widget_told (Sequence r) o w is = absurd is
widget_told (Decided taken) (OnText o) (Text x) is = absurd is
widget_told (Decided taken) (OnList o) (Labels x) is = absurd is
widget_told (Decided taken) o w is = is

misfit_told : (r : WidgetTrace) (o : WidgetOp) → r ≡ Decided false → (AllowsOn r o ↔ ⊥)
misfit_told r o is = ((λ allowed. absurd (false≢true (subst (λ q. AllowsOn q o) is allowed))), (λ never. absurd never))

in_told : (o : WidgetOp) (w : Option Widget) (r : WidgetTrace) → IsTraceIn w r o → (AllowsOn r o ↔ IsSomeAnd w (widget.IsValid o))
in_told o None r is = misfit_told r o is
in_told o (Some w) r is = widget_told r o w is

pub told : (o : BoardOp) (b : board.Windows) (r : WidgetTrace) → IsTrace o b r → (Allows o r ↔ board.IsValid o b)
told o b r is = in_told o.op (widget_at (board.place o) b) r is

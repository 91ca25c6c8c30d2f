-- A client's link and its two ways are one link, through any steps.
use Rattle.std.proofs.Common.{◌≡◌, ℕ, true, List, [], ◌∷◌, length, drop, Option, None, Some, refl, sym, ap, ◌∙◌, subst, arith, true≢false, inl, inr}
use Rattle.jup_resume.specs.Keepers.{Keeping, unsent, IsAllWritten}
use Rattle.jup_resume.specs.Ways.{BeginWith, TakesNext, TakesPlace}
use Rattle.jup_lasting.specs.declared.carriage.Carriage.TheVariants.{Carried}
use Rattle.jup_lasting.specs.Runs.{Moment, Step, Ask, Cut as Breaks_off, GiveUp, Put, MoveOut, Hear, NoteBytes, Elapse, Serve, Restart, Carry, CarryLate, start, Happens, Leads, IsOneLink}
use Rattle.jup_resume.specs.Texts.{spelled}
use Rattle.jup_resume.specs.Notes.{note_text, begins_note}
use Rattle.jup_lasting.specs.Links.{after_asking, asks as asks_by}
use Rattle.jup_resume.proofs.WayRuns.{keeps}
use Rattle.jup_lasting.proofs.InStep.{Stands, InStep, at_start, same_ends, waits, breaks, gives_up, serves, carries, carries_late, restarts, says, asks}
use Rattle.jup_lasting.proofs.Handing.{hands}
use Rattle.jup_lasting.proofs.Hearings.{hears_carrier, hears_other, hears_nothing}

stays : (step : Step) (m n : Moment) → Happens step m n → InStep m → InStep n
stays Ask m n does h = subst InStep (sym does.1) (asks m does.0 h)
stays Breaks_off m n does h = subst InStep (sym does) (breaks m h)
stays GiveUp m n does h = subst InStep (sym does) (gives_up m h)
stays (Put text) m n does h = subst InStep (sym does.1) (says m text does.0 h)
stays (MoveOut bytes) m n does h = subst InStep (sym does.1) (hands m bytes n.link does.0 h)
stays (Hear piece) m n does h = elim does.2 [
  | inl carrier ↦ hears_carrier piece does.1 does.0 m n carrier h
  | inr (inl other) ↦ hears_other piece does.1 does.0 m n other h
  | inr (inr nothing) ↦ hears_nothing piece does.1 does.0 m n nothing h
]
stays NoteBytes m n does h = subst InStep (sym does) (same_ends m (record m.link { silence = 0 }) refl refl refl refl h)
stays (Elapse seconds) m n does h = subst InStep (sym does) (waits m seconds m.link.carriage h)
stays (Serve ups downs) m n does h = subst InStep (sym does.2) (serves m ups downs does.0 does.1 h)
stays (Restart n) m k does h = subst InStep (sym does.1) (restarts m n does.0 h)
stays Carry m n does h = subst InStep (sym does.2) (carries m does.0 does.1 h)
stays CarryLate m n does h = subst InStep (sym does.1) (carries_late m does.0 h)

through : (steps : List Step) (m n : Moment) → Leads steps m n → InStep m → InStep n
through [] m n leads h = subst InStep (sym leads) h
through (step ∷ steps) m n leads h = through steps leads.0 n leads.2 (stays step m leads.0 leads.1 h)

kept_place : (m : Moment) → InStep m → (place : Option ℕ) → TakesPlace m.ways.up.keeper place → TakesPlace m.link.up place
kept_place m h None takes = tt
kept_place m h (Some n) takes = record { low = omega (arith, takes.low, h.dropped); high = omega (arith, takes.high, h.dropped, ap length h.kept) }

all_written : (k : Keeping) → k.is_open ≡ true → IsAllWritten k → unsent k ≡ []
all_written k is_open (inl shut) = absurd (true≢false (sym is_open ∙ shut))
all_written k is_open (inr none) = none

promised : (m : Moment) → InStep m → IsOneLink m
promised m h =
    let up = keeps begins_note m.ways.up h.up in
    let down = keeps begins_note m.ways.down h.down in
    let carried : m.link.carriage ≡ Carried → Stands Carried m.connection m.link m.ways = λ e. subst (λ c. Stands c m.connection m.link m.ways) e h.stands in
    record {
      told = subst (BeginWith m.ways.down.put) h.told down.in_order;
      said = subst (λ put. BeginWith put m.ways.up.handed) h.said up.in_order;
      kept = h.kept ∙ up.kept ∙ ap (λ put. drop m.ways.up.keeper.dropped put) h.said ∙ ap (λ n. drop n m.said) (sym h.dropped);
      safe = omega (arith, up.safe, h.dropped);
      counts = h.taken;
      confirms = h.confirming ∙ h.taken;
      all_said = λ e written wire.
          let at = carried e in
          let is_open : m.ways.up.keeper.is_open ≡ true = ap (λ (k : Keeping). k.is_open) (sym at.2) ∙ at.3 in
          up.whole is_open (all_written m.ways.up.keeper is_open (subst IsAllWritten at.2 written)) wire ∙ h.said;
      all_told = λ is_open none wire. sym h.told ∙ down.whole is_open none wire;
      place = λ e. kept_place m h m.ways.up.place up.place;
      next = λ e.
          let at = carried e in
          subst (λ k. TakesNext k m.ways.up.counts) (sym at.2) (up.counts (ap (λ (k : Keeping). k.is_open) (sym at.2) ∙ at.3));
      up = h.up;
      down = h.down;
    }

-- whatever happens
pub one_link : (steps : List Step) (m : Moment) → Leads steps start m → IsOneLink m
one_link steps m leads = promised m (through steps start m leads at_start)

-- and it asks for the lines after those that came
pub asks_on : (steps : List Step) (m : Moment) → Leads steps start m → (after_asking m.link).waiting ≡ spelled (note_text (asks_by m.link.terms (length m.ways.down.handed)))
asks_on steps m leads =
    let h = through steps start m leads at_start in
    ap (λ n. spelled (note_text (asks_by m.link.terms n))) (h.taken ∙ ap length (sym h.told))

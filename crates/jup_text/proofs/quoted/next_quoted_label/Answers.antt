use Rattle.std.proofs.Common.{◌≡◌, ◌+◌, ◌≤◌, ℕ, List, length, take, inl, inr, refl, sym, ap, ◌∙◌, subst, arith, rules}
use Rattle.std.proofs.lemmas.Grind.{take-set_at}
use Rattle.std.proofs.lemmas.List.{length-take-le, length-set}
use Rattle.jup_limits.specs.Limits.{longest_label}
use Rattle.jup_text.proofs.Quotes.{HasRead, none_read, more_read, no_more_label, no_label_read}
use Rattle.jup_text.proofs.quoted.next_quoted_label.Goals as goal

pub loop-value-init : goal.loop-value-init
loop-value-init c = let len = ap length c.in_ok-rest.ensures in record {
  held = refl;
  room = omega arith;
  read = none_read c.args.text.now c.in_ok-rest.rest.now c.in_ok-rest.ensures;
  shorter = omega (arith, len);
}

pub loop-value-preserved : goal.loop-value-preserved
loop-value-preserved c =
    let next = c.in-Some.ensures in
    let full = c.if-len-eq-LONGEST_LABEL.false in
    let shorter = next.shorter in
    let before = c.loop-value.invariant.shorter in
    let room : c.loop-value.len + 1 ≤ longest_label = omega (arith, c.loop-value.invariant.room, full) in
    let held = c.loop-value.invariant.held in
    let taken = take-set_at c.loop-value.bytes c.loop-value.len (c.loop-value.len + 1) c.in-Some.value refl (omega (arith, held, room)) in
    record {
      held = length-set c.loop-value.bytes c.loop-value.len c.in-Some.value ∙ held;
      room = room;
      read = subst (λ (cs : List ℕ). HasRead c.args.text.now cs c.in-Some.later.now) (sym taken)
          (more_read c.args.text.now (take c.loop-value.len c.loop-value.bytes) c.loop-value.rest.now c.in-Some.later.now c.in-Some.value c.loop-value.invariant.read next.read.0 next.read.1);
      shorter = omega (arith, shorter, before);
    }

pub returns-then-len-eq-LONGEST_LABEL-clause-none : goal.returns-then-len-eq-LONGEST_LABEL-clause-none
returns-then-len-eq-LONGEST_LABEL-clause-none c =
    let next = c.in-Some.ensures.read in
    let whole : length (take c.loop-value.len c.loop-value.bytes) ≡ longest_label = length-take-le c.loop-value.len c.loop-value.bytes (let held = c.loop-value.invariant.held in let room = c.loop-value.invariant.room in omega (arith, held, room)) ∙ c.if-len-eq-LONGEST_LABEL.true in
    no_more_label c.args.text.now (take c.loop-value.len c.loop-value.bytes) c.loop-value.rest.now c.in-Some.later.now c.in-Some.value c.loop-value.invariant.read next.0 next.1 (inl whole)

pub returns-then-value-gt126-clause-none : goal.returns-then-value-gt126-clause-none
returns-then-value-gt126-clause-none c =
    let next = c.in-Some.ensures.read in
    no_more_label c.args.text.now (take c.loop-value.len c.loop-value.bytes) c.loop-value.rest.now c.in-Some.later.now c.in-Some.value c.loop-value.invariant.read next.0 next.1 (inr c.if-value-gt126.true)

pub returns-in_err-behind_quote-clause-none : goal.returns-in_err-behind_quote-clause-none
returns-in_err-behind_quote-clause-none c = rw c.from_residual-in_err-behind_quote.ensures
    (no_label_read c.args.text.now (take c.loop-value.len c.loop-value.bytes) c.loop-value.rest.now c.loop-value.invariant.read c.in_default.ensures.none (λ is. c.in_err-behind_quote.ensures))

pub returns-in_default-read-clause-none : goal.returns-in_default-read-clause-none
returns-in_default-read-clause-none c =
    no_label_read c.args.text.now (take c.loop-value.len c.loop-value.bytes) c.loop-value.rest.now c.loop-value.invariant.read c.in_default.ensures.none
    (λ is behind same. let accepted = c.read.ensures.accepts.1 is in absurd (search rules))

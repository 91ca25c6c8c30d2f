use Rattle.std.proofs.Common.{◌++◌, ◌∷◌, [], inr, Err, sym, subst, ap, ◌∙◌, arith, length-append}
use Rattle.jup_layout.specs.Prelude.{Distinct}
use Rattle.jup_layout.specs.Drafts.{Built, HasTaken}
use Rattle.jup_layout.proofs.Drafting.{taken_grows}
use Rattle.jup_layout.proofs.Texts.{line_taken, refused_line, too_many, made_every}
use Rattle.jup_layout.proofs.builder.BoardBuilder.take.Goals as goal

pub returns-then-number-clause-fault : goal.returns-then-number-clause-fault
returns-then-number-clause-fault c = λ naming lines held.
    let b : Built = record { drafted = c.self.inside.draft; next = c.self.inside.number } in
    inr (too_many naming lines c.args.line.now b (subst (λ (x : Built). HasTaken naming lines x) (sym c.self.view_is) held) c.if-number.true ∙ ap Err (sym (c.new.ensures.at (λ e. cc))))

pub invariant_of-result : goal.invariant_of-result
invariant_of-result c =
    let grows = taken_grows c.self.inside.draft c.in-Ok.draft c.args.line.now c.in-Ok.ensures in
    let short = c.self.invariant in
    omega (arith, grows, short)

pub returns-in-Ok-clause-taken : goal.returns-in-Ok-clause-taken
returns-in-Ok-clause-taken c = λ naming lines held.
    let b : Built = record { drafted = c.self.inside.draft; next = c.self.inside.number } in
    line_taken naming lines c.args.line.now b c.in-Ok.draft (subst (λ (x : Built). HasTaken naming lines x) (sym c.self.view_is) held) c.if-number.false c.in-Ok.ensures

pub returns-in-Err-clause-fault : goal.returns-in-Err-clause-fault
returns-in-Err-clause-fault c = λ naming lines held.
    let b : Built = record { drafted = c.self.inside.draft; next = c.self.inside.number } in
    refused_line naming lines c.args.line.now b c.in-Err.refusal c.new-in-Err.result (subst (λ (x : Built). HasTaken naming lines x) (sym c.self.view_is) held) c.if-number.false
    c.in-Err.ensures c.new-in-Err.ensures.none c.new-in-Err.ensures.at

pub returns-in-Err-clause-every : goal.returns-in-Err-clause-every
returns-in-Err-clause-every c = λ lines held may few.
    made_every Distinct (lines ++ c.args.line.now ∷ []) (Err c.new-in-Err.result) (returns-in-Err-clause-fault c Distinct lines held) may (omega (arith, length-append lines (c.args.line.now ∷ []), few))

use Rattle.std.proofs.Common.{◌≡◌, ◌∙◌, ◌+◌, ◌<◌, ◌⊎◌, ℕ, List, Option, Some, None, [], ◌∷◌, ◌++◌, length, take, subst, sym, ap, inl, inr, replicate}
use Rattle.std.proofs.lemmas.List.{take_more, take_all}
use Rattle.jup_wire.specs.Fields.{IsCount}
use Rattle.jup_gather.specs.Gathering.{message_lines, GathersAll}
use Rattle.callers.proofs.Calls.{HasSent, one_more_sent, message_of, sent_whole}
use Rattle.callers.proofs.edits_sent.send_edit.Goals as goal
use Rattle.callers.proofs.edits_sent.send_edit.Goals.{in-Whole, in-Plain}
use Rattle.jup_gather.specs.Prelude.{Msg, BoardOp, Line}
use Rattle.jup_gather.specs.declared.gathered.Gathered.{Gathered}
use Rattle.jup_gather.specs.declared.gathered.Gathered.TheVariants.{Plain, Held, Misplaced}

-- a line that ends no message
ends_none : (g : Gathered) → ((line : Line) × (g ≡ Plain line)) ⊎ ((g ≡ Held) ⊎ (g ≡ Misplaced)) → message_of g ≡ None
ends_none g (inl plain) = ap message_of plain.1
ends_none g (inr (inl held)) = ap message_of held
ends_none g (inr (inr misplaced)) = ap message_of misplaced

pub loop-line-preserved : goal.loop-line-preserved
loop-line-preserved c =
    let items : List Line = c.as_slice-line-items.result.now in
    let at : ℕ = c.loop-line.line-index in
    let here : at < length items = c.loop-line-test.true in
    let more : take (at + 1) items ≡ take at items ++ c.line-item.result ∷ [] =
    take_more items at c.line-item.result here ∙ ap (λ (line : Line). take at items ++ line ∷ []) (sym c.line-item.is) in
    let told : c.match-branch-3.sent ≡ message_of c.in_ok-msg.field-0 = elim c.match-branch-3.branch [
      | in-Whole w ↦ w.sent-is ∙ sym (ap message_of w.in-Whole.is)
      | in-Plain w ↦ w.sent-is ∙ sym (ends_none c.in_ok-msg.field-0 w.in-Plain.is)
    ] in
    subst (λ (sent : Option (Msg (List BoardOp))). HasSent (take (at + 1) items) sent c.push.new.self) (sym told)
    (one_more_sent (take at items) (take (at + 1) items) c.loop-line.sent c.loop-line.gather c.push.new.self c.line-item.result c.in_ok-msg.field-0
    more c.loop-line.invariant c.in_ok-msg.ensures.step)

pub returns : goal.returns
returns c =
    let m : Msg (List BoardOp) = c.args.msg.now in
    let answers : List Gathered = c.loop-line.invariant.answers in
    let all : take c.loop-line.line-index c.as_slice-line-items.result.now ≡ message_lines m =
    take_all c.loop-line.line-index c.as_slice-line-items.result.now c.loop-line-test.false ∙ c.as_slice-line-items.ensures ∙ c.in_ok-lines_of_op.ensures in
    let piece : IsCount (length m.op) = subst (λ (ops : List BoardOp). IsCount (length ops)) c.as_slice-ops.ensures.ops (c.as_slice-ops.ensures.some, c.as_slice-ops.ensures.few) in
    let gathered : GathersAll (Some []) (message_lines m) answers c.loop-line.gather =
    subst (λ (lines : List Line). GathersAll (Some []) lines answers c.loop-line.gather) all c.loop-line.invariant.gathers in
    let whole = c.message_comes_whole.ensures m answers c.loop-line.gather piece gathered in
    sent_whole m (replicate (length m.op) Held) answers c.loop-line.sent whole.0 c.loop-line.invariant.last

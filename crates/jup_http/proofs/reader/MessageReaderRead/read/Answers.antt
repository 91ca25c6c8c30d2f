use Rattle.std.proofs.Common.{rules, arith}
use Rattle.std.proofs.lemmas.Grind.{common_steps}
use Rattle.jup_http.specs.Readers.{told_left, IsDealtWith}
use Rattle.jup_http.proofs.Frames.{hears_both, hears_then_fails, hears_whole, hears_nothing, gave_none, reader_gave, reader_kept, read_ended, if_none, if_failed, ends_both, ends_as_before}
use Rattle.jup_http.proofs.Ends.{end_gives_none, end_is_unbroken, if_at_end}
use Rattle.jup_http.proofs.reader.MessageReaderRead.read.Goals as goal

pub returns-in_err-answer-clause-bytes : goal.returns-in_err-answer-clause-bytes
returns-in_err-answer-clause-bytes g c =
    let keeps = reader_kept g.I.Read.remaining c.args.self.now c.answer.new.self _ _ (hears_then_fails _ _ _ _ _ _ c.loop.invariant.0 c.in_err-answer.ensures.err) in
    search (rules, keeps)

pub returns-in_err-answer-clause-failed : goal.returns-in_err-answer-clause-failed
returns-in_err-answer-clause-failed g c =
    if_failed _ _ (hears_then_fails _ _ _ _ _ _ c.loop.invariant.0 c.in_err-answer.ensures.err)

pub returns-then-given-gt0-clause-bytes : goal.returns-then-given-gt0-clause-bytes
returns-then-given-gt0-clause-bytes g c =
    (reader_gave g.I.Read.remaining c.args.self.now c.give-given.new.self _ _ _ (hears_both _ _ _ _ _ _ _ c.loop.invariant.0 (hears_both _ _ _ _ _ _ _ c.in_ok-answer.ensures.ok c.give-given.ensures.heard)), λ zero _. absurd (omega (arith, zero, c.if-given-gt0.true)))

pub returns-then-given-gt0-clause-pongs : goal.returns-then-given-gt0-clause-pongs
returns-then-given-gt0-clause-pongs g c =
    hears_both _ _ _ _ _ _ _ c.loop.invariant.0 (hears_both _ _ _ _ _ _ _ c.in_ok-answer.ensures.ok c.give-given.ensures.heard)

pub returns-then-is_over-clause-bytes : goal.returns-then-is_over-clause-bytes
returns-then-is_over-clause-bytes g c =
    let heard = hears_both _ _ _ _ _ _ _ c.loop.invariant.0 (hears_both _ _ _ _ _ _ _ c.in_ok-answer.ensures.ok (gave_none _ _ _ _ _ _ c.give-given.ensures.heard c.if-given-gt0.false)) in
    read_ended g.I.Read.remaining c.args.self.now c.give-given.new.self _ _ _ _ heard (c.is_over.ensures.left c.if-is_over.true) (end_gives_none _ _ c.end.ensures)

pub returns-then-is_over-clause-pongs : goal.returns-then-is_over-clause-pongs
returns-then-is_over-clause-pongs g c =
    if_none _ _ (end_gives_none _ _ c.end.ensures) (hears_both _ _ _ _ _ _ _ c.loop.invariant.0 (hears_both _ _ _ _ _ _ _ c.in_ok-answer.ensures.ok (gave_none _ _ _ _ _ _ c.give-given.ensures.heard c.if-given-gt0.false)))

pub returns-then-is_over-clause-failed : goal.returns-then-is_over-clause-failed
returns-then-is_over-clause-failed g c =
    if_failed _ _ (hears_whole _ _ _ _ (hears_both _ _ _ _ _ _ _ c.loop.invariant.0 (hears_both _ _ _ _ _ _ _ c.in_ok-answer.ensures.ok (gave_none _ _ _ _ _ _ c.give-given.ensures.heard c.if-given-gt0.false))))

pub returns-in_err-renew-clause-bytes : goal.returns-in_err-renew-clause-bytes
returns-in_err-renew-clause-bytes g c =
    let heard = hears_both _ _ _ _ _ _ _ c.loop.invariant.0
    (hears_both _ _ _ _ _ _ _ c.in_ok-answer.ensures.ok
    (hears_both _ _ _ _ _ _ _ (gave_none _ _ _ _ _ _ c.give-given.ensures.heard c.if-given-gt0.false) (hears_nothing _ _ _ _ c.renew.ensures.keeps c.renew.ensures.written))) in
    let keeps = reader_kept g.I.Read.remaining c.args.self.now c.renew.new.self _ _ (hears_whole _ _ _ _ heard) in
    search (rules, keeps)

pub returns-in_err-renew-clause-failed : goal.returns-in_err-renew-clause-failed
returns-in_err-renew-clause-failed g c =
    let heard = hears_both _ _ _ _ _ _ _ c.loop.invariant.0
    (hears_both _ _ _ _ _ _ _ c.in_ok-answer.ensures.ok
    (hears_both _ _ _ _ _ _ _ (gave_none _ _ _ _ _ _ c.give-given.ensures.heard c.if-given-gt0.false) (hears_nothing _ _ _ _ c.renew.ensures.keeps c.renew.ensures.written))) in
    if_failed _ _ (hears_whole _ _ _ _ heard)

pub returns-then-not-branch-clause-bytes : goal.returns-then-not-branch-clause-bytes
returns-then-not-branch-clause-bytes g c =
    let heard = hears_both _ _ _ _ _ _ _ c.loop.invariant.0
    (hears_both _ _ _ _ _ _ _ c.in_ok-answer.ensures.ok
    (hears_both _ _ _ _ _ _ _ (gave_none _ _ _ _ _ _ c.give-given.ensures.heard c.if-given-gt0.false) (hears_nothing _ _ _ _ c.renew.ensures.keeps c.renew.ensures.written))) in
    let left : IsDealtWith (told_left g.I.Read.remaining c.renew.new.self) = first_of (search rules, grind (arith, common_steps)) in
    read_ended g.I.Read.remaining c.args.self.now c.renew.new.self _ _ _ _ heard left (end_gives_none _ _ c.end-then-not-branch.ensures)

pub returns-then-not-branch-clause-pongs : goal.returns-then-not-branch-clause-pongs
returns-then-not-branch-clause-pongs g c =
    if_none _ _ (end_gives_none _ _ c.end-then-not-branch.ensures)
    (hears_both _ _ _ _ _ _ _ c.loop.invariant.0
    (hears_both _ _ _ _ _ _ _ c.in_ok-answer.ensures.ok
    (hears_both _ _ _ _ _ _ _ (gave_none _ _ _ _ _ _ c.give-given.ensures.heard c.if-given-gt0.false) (hears_nothing _ _ _ _ c.renew.ensures.keeps c.renew.ensures.written))))

pub returns-then-not-branch-clause-failed : goal.returns-then-not-branch-clause-failed
returns-then-not-branch-clause-failed g c =
    if_failed _ _ (hears_whole _ _ _ _ (hears_both _ _ _ _ _ _ _ c.loop.invariant.0
    (hears_both _ _ _ _ _ _ _ c.in_ok-answer.ensures.ok
    (hears_both _ _ _ _ _ _ _ (gave_none _ _ _ _ _ _ c.give-given.ensures.heard c.if-given-gt0.false) (hears_nothing _ _ _ _ c.renew.ensures.keeps c.renew.ensures.written)))))

pub returns-then-not-branch-clause-last : goal.returns-then-not-branch-clause-last
returns-then-not-branch-clause-last g c =
    let left : IsDealtWith (told_left g.I.Read.remaining c.renew.new.self) = first_of (search rules, grind (arith, common_steps)) in
    if_at_end _ _ _ left

pub returns-then-not-branch-clause-unbroken : goal.returns-then-not-branch-clause-unbroken
returns-then-not-branch-clause-unbroken g c = end_is_unbroken _ _ _ c.end-then-not-branch.ensures

pub returns-then-is_over-clause-unbroken : goal.returns-then-is_over-clause-unbroken
returns-then-is_over-clause-unbroken g c = end_is_unbroken _ _ _ c.end.ensures

pub loop-preserved : goal.loop-preserved
loop-preserved g c =
    let heard = hears_both _ _ _ _ _ _ _ c.loop.invariant.0
    (hears_both _ _ _ _ _ _ _ c.in_ok-answer.ensures.ok
    (hears_both _ _ _ _ _ _ _ (gave_none _ _ _ _ _ _ c.give-given.ensures.heard c.if-given-gt0.false) (hears_nothing _ _ _ _ c.renew.ensures.keeps c.renew.ensures.written))) in (
      heard,
      ends_both _ _ _ _ _ _ c.loop.invariant.1
          (ends_both _ _ _ _ _ _ c.answer.ensures.ended
          (ends_both _ _ _ _ _ _ c.give-given.ensures.ended (ends_as_before _ _ _ _ c.renew.ensures.keeps c.renew.ensures.ending))),
    )

pub returns-clause-bytes : goal.returns-clause-bytes
returns-clause-bytes g c =
    reader_kept g.I.Read.remaining c.args.self.now c.loop.self _ _ (hears_whole _ _ _ _ c.loop.invariant.0)

pub returns-in_err-answer-clause-ended : goal.returns-in_err-answer-clause-ended
returns-in_err-answer-clause-ended g c =
    ends_both _ _ _ _ _ _ c.loop.invariant.1 c.answer.ensures.ended

pub returns-then-given-gt0-clause-ended : goal.returns-then-given-gt0-clause-ended
returns-then-given-gt0-clause-ended g c =
    ends_both _ _ _ _ _ _ c.loop.invariant.1 (ends_both _ _ _ _ _ _ c.answer.ensures.ended c.give-given.ensures.ended)

pub returns-then-is_over-clause-ended : goal.returns-then-is_over-clause-ended
returns-then-is_over-clause-ended g c =
    ends_both _ _ _ _ _ _ c.loop.invariant.1 (ends_both _ _ _ _ _ _ c.answer.ensures.ended c.give-given.ensures.ended)

pub returns-in_err-renew-clause-ended : goal.returns-in_err-renew-clause-ended
returns-in_err-renew-clause-ended g c =
    ends_both _ _ _ _ _ _ c.loop.invariant.1
    (ends_both _ _ _ _ _ _ c.answer.ensures.ended
    (ends_both _ _ _ _ _ _ c.give-given.ensures.ended (ends_as_before _ _ _ _ c.renew.ensures.keeps c.renew.ensures.ending)))

pub returns-then-not-branch-clause-ended : goal.returns-then-not-branch-clause-ended
returns-then-not-branch-clause-ended g c =
    ends_both _ _ _ _ _ _ c.loop.invariant.1
    (ends_both _ _ _ _ _ _ c.answer.ensures.ended
    (ends_both _ _ _ _ _ _ c.give-given.ensures.ended (ends_as_before _ _ _ _ c.renew.ensures.keeps c.renew.ensures.ending)))

use Rattle.std.proofs.Common.{◌+◌, arith}
use Rattle.jup_value.proofs.Layouts.{sum_between, sum_front}
use Rattle.jup_value.proofs.table.skip_from_front.Goals as goal

pub group_sum-count-requires : goal.group_sum-count-requires
group_sum-count-requires c = omega (arith, c.requires.few, sum_between c.args.lengths.now c.loop-at.at (c.loop-at.at + 32) (omega arith), sum_front c.args.lengths.now (c.loop-at.at + 32))

pub loop-at-preserved : goal.loop-at-preserved
loop-at-preserved c =
    let parts = sum_between c.args.lengths.now c.loop-at.at (c.loop-at.at + 32) (omega arith) in
    let beyond = c.if-left-count.false in
    let place = c.loop-at.invariant.place in
    let count = c.group_sum-count.ensures in
    record { within = omega arith; place = omega arith; more = λ _. omega arith }

use Rattle.std.proofs.Common.{◌-◌, sum, length, sym, ◌∙◌, ap, arith, take_all}
use Rattle.jup_value.proofs.Layouts.{sum_between}
use Rattle.jup_value.proofs.table.skip_from_back.Goals as goal

pub loop-at-init : goal.loop-at-init
loop-at-init c = record { within = omega arith; before = c.requires.total ∙ ap sum (sym (take_all (length c.args.lengths.now) c.args.lengths.now (omega arith))); beyond = omega (arith, c.requires.total, c.requires.place) }

pub group_sum-count-requires : goal.group_sum-count-requires
group_sum-count-requires c =
    let parts = sum_between c.args.lengths.now (c.loop-at.at - 32) c.loop-at.at (omega arith) in
    let before = c.loop-at.invariant.before in
    omega arith

pub overflow_sub-before : goal.overflow_sub-before
overflow_sub-before c =
    let parts = sum_between c.args.lengths.now (c.loop-at.at - 32) c.loop-at.at (omega arith) in
    let before = c.loop-at.invariant.before in
    let count = c.group_sum-count.ensures in
    omega arith

pub overflow_sub-before-in-loop-at : goal.overflow_sub-before-in-loop-at
overflow_sub-before-in-loop-at c =
    let parts = sum_between c.args.lengths.now (c.loop-at.at - 32) c.loop-at.at (omega arith) in
    let before = c.loop-at.invariant.before in
    let count = c.group_sum-count.ensures in
    omega arith

pub loop-at-preserved : goal.loop-at-preserved
loop-at-preserved c =
    let parts = sum_between c.args.lengths.now (c.loop-at.at - 32) c.loop-at.at (omega arith) in
    let before = c.loop-at.invariant.before in
    let within = c.loop-at.invariant.within in
    let count = c.group_sum-count.ensures in
    let over = c.if-before-count.false in
    record { within = omega arith; before = omega arith; beyond = omega arith }

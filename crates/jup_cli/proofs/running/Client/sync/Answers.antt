use Rattle.std.proofs.Common.{Bool, subst}
use Rattle.jup_cli.specs.Running.{HearsNext, NoneYet, OneMore}
use Rattle.jup_cli.proofs.running.Client.sync.Goals as goal

pub loop-init : goal.loop-init
loop-init g c = NoneYet

pub loop-preserved : goal.loop-preserved
loop-preserved g c =
    let before = c.loop.self in
    let after = c.hear_next.new.self in
    OneMore before.source after.source before.state after.state before.output after.output c.loop.invariant
    (subst (λ (synced : Bool). HearsNext before.source before.state before.output synced after.source after.state after.output) c.if-branch.false c.in_ok-hear_next.ensures)

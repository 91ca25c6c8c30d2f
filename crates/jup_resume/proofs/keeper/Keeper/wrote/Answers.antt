use Rattle.std.proofs.Common.{◌<◌, ◌∙◌, refl, ap, arith, length, length-drop}
use Rattle.jup_resume.proofs.KeptLines.{are_written, within_bytes}
use Rattle.jup_resume.proofs.keeper.Keeper.wrote.Goals as goal

pub behind-requires : goal.behind-requires
behind-requires c = let k = c.self.inside in within_bytes k.bytes k.lines k.sent k.written c.self.invariant.0

pub overflow_add-self : goal.overflow_add-self
overflow_add-self c =
    let k = c.self.inside in
    let before = within_bytes k.bytes k.lines k.sent k.written c.self.invariant.0 in
    let left = ap length c.behind.ensures.bytes in
    let within = c.first_line.ensures.within in
    let fits = c.behind.ensures.fits in
    omega (arith, before, left, within, fits, length-drop k.written k.bytes)

pub invariant_of-self : goal.invariant_of-self
invariant_of-self c =
    let k = c.self.inside in
    let some = rw (← c.self.view_is) at c.requires in
    let count = c.self.invariant.0.count in
    let below : k.sent < k.lines = omega (arith, some, count) in (
      are_written k.bytes k.lines k.sent k.written (length c.first_line.result.now) c.self.invariant.0 below
          c.first_line.result.now (λ text rest free is. c.first_line.ensures.line text rest free (c.behind.ensures.bytes ∙ is)) refl,
      c.self.invariant.1,
    )

use Rattle.std.proofs.Common.{◌-◌, refl, arith}
use Rattle.jup_resume.proofs.KeptLines.{size_of_first, are_dropped, size_within, texts_dropped}
use Rattle.jup_resume.proofs.keeper.Keeper.got.Goals as goal

pub overflow_sub-self-3 : goal.overflow_sub-self-3
overflow_sub-self-3 c =
    let k = c.self.inside in
    let more = c.args.taken - k.dropped in
    let size = size_of_first k.bytes k.lines k.sent k.written c.self.invariant.0 more c.size_of_lines-size.result (omega arith) c.behind.result.now c.behind.ensures.bytes c.size_of_lines-size.ensures.size in
    size_within k.bytes k.lines k.sent k.written c.self.invariant.0 more c.size_of_lines-size.result (omega arith) size

pub invariant_of-self : goal.invariant_of-self
invariant_of-self c =
    let k = c.self.inside in
    let more = c.args.taken - k.dropped in
    let below = c.self.invariant.0.within in
    let size = size_of_first k.bytes k.lines k.sent k.written c.self.invariant.0 more c.size_of_lines-size.result (omega arith) c.behind.result.now c.behind.ensures.bytes c.size_of_lines-size.ensures.size in
    rw c.drop_front.ensures (are_dropped k.bytes k.lines k.sent k.written c.self.invariant.0 more c.size_of_lines-size.result (omega arith) size, omega (arith, below))

pub returns-clause-dropped : goal.returns-clause-dropped
returns-clause-dropped c =
    let k = c.self.inside in
    let more = c.args.taken - k.dropped in
    let size = size_of_first k.bytes k.lines k.sent k.written c.self.invariant.0 more c.size_of_lines-size.result (omega arith) c.behind.result.now c.behind.ensures.bytes c.size_of_lines-size.ensures.size in
    rw (← c.self.view_is, c.drop_front.ensures, texts_dropped k.bytes k.lines k.sent k.written c.self.invariant.0 more c.size_of_lines-size.result size) refl

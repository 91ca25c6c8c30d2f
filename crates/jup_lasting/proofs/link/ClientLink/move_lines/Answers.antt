use Rattle.std.proofs.Common.{refl, arith, length, ◌≤◌}
use Rattle.jup_lasting.specs.contracts.link.ClientLink.{the_view}
use Rattle.jup_lasting.proofs.Moving.{mid_long, lines_moved}
use Rattle.jup_lasting.proofs.link.ClientLink.move_lines.Goals as goal

pub loop-count-preserved : goal.loop-count-preserved
loop-count-preserved c =
    let within = c.loop-count.invariant.within in
    let fits : c.move_out-count.result ≤ length c.move_out-count.new.to = omega (arith, c.move_out-count.ensures.count, c.move_out-count.ensures.long) in
    record {
      within = mid_long c.loop-count.count _ c.move_out-count.result c.loop-count.to c.move_out-count.new.to within fits;
      moved = lines_moved c.loop-count.to c.move_out-count.new.to c.loop-count.count _ c.move_out-count.result c.args.self.now c.loop-count.self c.has_begun.new.self (the_view c.self.inside) _
          c.loop-count.invariant.moved (c.has_begun.ensures.begun c.if-has_begun.true) c.self.view_is c.move_out-count.ensures.left c.move_out-count.ensures.moved refl within fits;
    }

use Rattle.std.proofs.Common.{◌≡◌, ◌<◌, ◌∙◌, true, arith, rules, flat_map}
use Rattle.jup_resume.specs.Texts.{spelled}
use Rattle.jup_resume.proofs.KeptLines.{next_of, within_bytes}
use Rattle.jup_resume.proofs.keeper.Keeper.next.Goals as goal

pub behind-requires : goal.behind-requires
behind-requires c = let k = c.self.inside in within_bytes k.bytes k.lines k.sent k.written c.self.invariant.0

pub returns : goal.returns
returns c =
    let k = c.self.inside in
    let within = c.self.invariant.0.within in
    let below : k.sent < k.lines = omega (arith, within) in
    let is_open : k.is_open ≡ true = search rules in
    let at = next_of k.bytes k.lines k.sent k.written c.self.invariant.0 below in
    rw (← c.self.view_is) (record { is_open = is_open; text = at.text; rest = at.rest; left = at.left; whole = c.first_line.ensures.line at.text (flat_map spelled at.rest) at.free (c.behind.ensures.bytes ∙ at.bytes_left) })

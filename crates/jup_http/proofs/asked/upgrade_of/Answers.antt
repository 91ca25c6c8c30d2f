use Rattle.std.proofs.Common.{refl}
use Rattle.jup_http.proofs.Heads.{no_upgrade}
use Rattle.jup_http.proofs.asked.upgrade_of.Goals as goal

pub returns-in-Err : goal.returns-in-Err
returns-in-Err c = rw c.upgrade_refusal.ensures (no_upgrade _ _ c.in-Err.ensures)

use Rattle.std.proofs.Common.{rules}
use Rattle.jup_hub.proofs.TurnsKept.{sees}
use Rattle.jup_hub.proofs.turns.see_all.Goals as goal

pub load-requires : goal.load-requires
load-requires c = (search rules, search rules, sees _ _ _ _ c.requires.turn.2)

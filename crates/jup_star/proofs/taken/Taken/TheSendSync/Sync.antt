-- Any thread may share them.
use denote.Param.Send.{IsSync, part_keyless}
use Rattle.jup_star.specs.contracts.taken.Taken.{the_row}
use Rattle.jup_star.proofs.taken.Taken.TheSendSync.Send.{send}

pub sync : IsSync the_row
sync = record { shared = λ d b o κ q. part_keyless the_row send q d b o }

use Rattle.jup_reconnect.proofs.Calls.{is_call}
use Rattle.jup_reconnect.proofs.Unbroken.{unbroken}
use Rattle.jup_reconnect.proofs.laws.cuts_are_unseen.Goals as goal

pub returns-clause-calls : goal.returns-clause-calls
returns-clause-calls c call s t does = is_call call s t does

pub returns-clause-unbroken : goal.returns-clause-unbroken
returns-clause-unbroken c watched calls s t first done = unbroken s t calls first.first done

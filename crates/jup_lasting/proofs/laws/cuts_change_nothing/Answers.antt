use Rattle.jup_lasting.proofs.OneLink.{one_link, asks_on}
use Rattle.jup_lasting.proofs.laws.cuts_change_nothing.Goals as goal

pub returns-clause-one_link : goal.returns-clause-one_link
returns-clause-one_link c steps m leads = one_link steps m leads

pub returns-clause-asks : goal.returns-clause-asks
returns-clause-asks c steps m leads = asks_on steps m leads

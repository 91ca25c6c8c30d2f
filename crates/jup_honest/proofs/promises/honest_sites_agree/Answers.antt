use Rattle.jup_honest.proofs.Backlogs as backlogs
use Rattle.jup_honest.proofs.Relies as relies
use Rattle.jup_honest.proofs.Orders as orders
use Rattle.jup_honest.proofs.Agree.{runs-order, runs-copies}
use Rattle.jup_honest.proofs.promises.honest_sites_agree.Goals as goal

pub returns-clause-history : goal.returns-clause-history
returns-clause-history c y = relies.run-history y

pub returns-clause-causal : goal.returns-clause-causal
returns-clause-causal c ms a causal reliable = backlogs.causal_through ms a causal reliable

pub returns-clause-opens : goal.returns-clause-opens
returns-clause-opens c y is low = backlogs.run-opens y is low

pub returns-clause-shows : goal.returns-clause-shows
returns-clause-shows c y is = relies.run-shows y is

pub returns-clause-well : goal.returns-clause-well
returns-clause-well c y is = relies.run-well y is

pub returns-clause-site : goal.returns-clause-site
returns-clause-site c y is = relies.run-site y is

pub returns-clause-link : goal.returns-clause-link
returns-clause-link c y is l fl = relies.run-link y is l fl

pub returns-clause-backlog : goal.returns-clause-backlog
returns-clause-backlog c y is l fl = relies.run-backlog y is l fl

pub returns-clause-remains : goal.returns-clause-remains
returns-clause-remains c y e is l fl = orders.run-remains y e is l fl

pub returns-clause-order : goal.returns-clause-order
returns-clause-order c y later is = orders.run-order y later is

pub returns-clause-agree : goal.returns-clause-agree
returns-clause-agree c y z one two both = relies.runs-agree y z one two both

pub returns-clause-orders : goal.returns-clause-orders
returns-clause-orders c y z one two both = runs-order y z one two both

pub returns-clause-copies : goal.returns-clause-copies
returns-clause-copies c y z later one two both = runs-copies y z later one two both

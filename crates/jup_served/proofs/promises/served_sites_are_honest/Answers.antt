use Rattle.jup_honest.proofs.Relies.{runs-agree}
use Rattle.jup_served.proofs.Hubs.{owned, closed}
use Rattle.jup_served.proofs.Runs.{served_honest, hub_honest}
use Rattle.jup_served.proofs.promises.served_sites_are_honest.Goals as goal

pub returns-clause-honest : goal.returns-clause-honest
returns-clause-honest c run log s is own = served_honest run log s is.serving is.up is.down own is.causal

pub returns-clause-owned : goal.returns-clause-owned
returns-clause-owned c keeps board limit sessions log hub s one serves = owned keeps board limit sessions log hub s one serves

pub returns-clause-hub : goal.returns-clause-hub
returns-clause-hub c run sessions log hub s one is = hub_honest run.keeps run.board run.limit sessions log hub run s one is

pub returns-clause-agree : goal.returns-clause-agree
returns-clause-agree c run other sessions log hub s t one is two so both =
    runs-agree run other (hub_honest run.keeps run.board run.limit sessions log hub run s one is) (hub_honest run.keeps run.board run.limit sessions log hub other t two so) both

pub returns-clause-closed : goal.returns-clause-closed
returns-clause-closed c keeps board limit sessions v log opens limited opening none kept new meets long = closed keeps board limit sessions v log opens limited opening kept new meets long

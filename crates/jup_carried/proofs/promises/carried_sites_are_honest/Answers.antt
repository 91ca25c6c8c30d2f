use Rattle.jup_honest.proofs.Relies.{runs-agree}
use Rattle.jup_carried.proofs.Sites.{carried_served, hub_carried}
use Rattle.jup_carried.proofs.promises.carried_sites_are_honest.Goals as goal

pub returns-clause-served : goal.returns-clause-served
returns-clause-served c run log s is own = carried_served run log s is own

pub returns-clause-hub : goal.returns-clause-hub
returns-clause-hub c run sessions log hub s one is = hub_carried run.keeps run.board run.limit sessions log hub run s one is

pub returns-clause-agree : goal.returns-clause-agree
returns-clause-agree c run other sessions log hub s t one is two so both =
    runs-agree run other (hub_carried run.keeps run.board run.limit sessions log hub run s one is) (hub_carried run.keeps run.board run.limit sessions log hub other t two so) both

use Rattle.jup_honest.proofs.Backlogs.{causal_through}
use Rattle.jup_carried.proofs.Links.{reliable, at_socket, each_reliable}
use Rattle.jup_honest.specs.Sites.{start, now}
use Rattle.jup_carried.proofs.promises.carried_links_are_reliable.Goals as goal

pub returns-clause-reliable : goal.returns-clause-reliable
returns-clause-reliable z answer c ways are carries = reliable answer c ways are carries

pub returns-clause-socket : goal.returns-clause-socket
returns-clause-socket z answer c ways are carries hears = at_socket answer c ways are carries hears

pub returns-clause-run : goal.returns-clause-run
returns-clause-run z run opens limited legal ways last are at =
    record { opens = opens; limited = limited; legal = legal; reliable = each_reliable run.answer run.steps (start run) ways last are at }

pub returns-clause-end : goal.returns-clause-end
returns-clause-end z run opens limited legal causal ways are carries =
    record { opens = opens; limited = limited; legal = legal; reliable = causal_through run.steps (start run) causal (reliable run.answer (now run) ways are carries) }

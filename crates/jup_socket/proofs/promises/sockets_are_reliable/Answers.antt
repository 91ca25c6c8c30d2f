use Rattle.jup_socket.proofs.Sockets as sockets
use Rattle.jup_socket.proofs.promises.sockets_are_reliable.Goals as goal

pub returns-clause-reliable : goal.returns-clause-reliable
returns-clause-reliable c answer a s = sockets.at_reliable answer a s

pub returns-clause-run : goal.returns-clause-run
returns-clause-run c y opens limited legal s = sockets.socket_run y opens limited legal s

pub returns-clause-causal : goal.returns-clause-causal
returns-clause-causal c y opens limited legal causal s = sockets.causal_run y opens limited legal causal s

pub returns-clause-greeted : goal.returns-clause-greeted
returns-clause-greeted c answer a s = sockets.greeted answer a s

pub returns-clause-opened : goal.returns-clause-opened
returns-clause-opened c answer a s is short = sockets.opened answer a s is short

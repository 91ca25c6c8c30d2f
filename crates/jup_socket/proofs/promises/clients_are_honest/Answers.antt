use Rattle.jup_socket.proofs.Sockets as sockets
use Rattle.jup_socket.proofs.promises.clients_are_honest.Goals as goal

pub returns-clause-edit : goal.returns-clause-edit
returns-clause-edit z commands c d r h = sockets.edit_step commands c d r h

pub returns-clause-deliver : goal.returns-clause-deliver
returns-clause-deliver z down c d r h = sockets.deliver_step down c d r h

pub returns-clause-opened : goal.returns-clause-opened
returns-clause-opened z y c is short bared h = sockets.opened_client y c is short bared h

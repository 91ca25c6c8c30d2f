use Rattle.jup_served.proofs.Runs.{client_shows}
use Rattle.jup_served.proofs.promises.clients_show_their_sites.Goals as goal

pub returns : goal.returns
returns c = record { client = client_shows }

use Rattle.std.proofs.Common.{inl, inr, false, refl, ◌∷◌, []}
use Rattle.jup_served.proofs.Runs.{hub_honest}
use Rattle.jup_served.proofs.Witness as witness
use Rattle.jup_served.proofs.promises.served_runs_exist.Goals as goal

pub returns : goal.returns
returns c = record {
  exists = (witness.run_one, witness.run_two, witness.session_one ∷ witness.session_two ∷ [], witness.log, witness.session_one, witness.session_two, witness.hub, inl refl, witness.served_one, inr (inl refl), witness.served_two, witness.drained, (λ e. cc), witness.two_entries);
  client = (
    witness.run_two,
    witness.client_first,
    witness.client_last,
    witness.said_two,
    hub_honest false witness.board 9 (witness.session_one ∷ witness.session_two ∷ []) witness.log witness.hub witness.run_two witness.session_two (inr (inl refl)) witness.served_two,
    refl,
    witness.walk_two,
    refl,
  );
}

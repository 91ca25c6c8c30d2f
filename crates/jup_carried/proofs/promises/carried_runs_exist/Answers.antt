use Rattle.std.proofs.Common.{inl, inr, refl, ◌∷◌, [], false}
use Rattle.jup_served.proofs.Witness as played
use Rattle.jup_served.proofs.Runs.{hub_honest}
use Rattle.jup_carried.proofs.Witness as carried
use Rattle.jup_carried.proofs.promises.carried_runs_exist.Goals as goal

pub returns-clause-exists : goal.returns-clause-exists
returns-clause-exists c = (
  played.run_one,
  played.run_two,
  played.session_one ∷ played.session_two ∷ [],
  played.log,
  played.session_one,
  played.session_two,
  played.hub,
  inl refl,
  carried.carried_one,
  inr (inl refl),
  carried.carried_two,
  played.drained,
  (λ e. cc),
  carried.up_breaks,
  carried.down_breaks,
  carried.up_breaks_two,
  carried.down_breaks_two,
)

pub returns-clause-moments : goal.returns-clause-moments
returns-clause-moments c =
    let honest = hub_honest false played.board 9 (played.session_one ∷ played.session_two ∷ []) played.log played.hub played.run_one played.session_one (inl refl) played.served_one in
    (played.run_one, carried.last, honest.opens, honest.limited, honest.legal, carried.moments, refl, refl)

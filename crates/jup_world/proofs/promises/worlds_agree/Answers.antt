use Rattle.std.proofs.Common.{◌≡◌, ℕ, false, refl, sym, subst}
use Rattle.jup_world.specs.Boards.{BoardWorld}
use Rattle.jup_world.specs.Worlds.{opened_world}
use Rattle.jup_world.specs.Traces.{is_stray}
use Rattle.jup_world.specs.Prelude.{board_batches, batch_laws, most_batches}
use Rattle.jup_world.proofs.Sound.Runs as sound_runs
use Rattle.jup_world.proofs.Sound.Tallies.{tallies}
use Rattle.jup_world.proofs.Worlds as worlds
use Rattle.jup_world.proofs.Orders as orders
use Rattle.jup_world.proofs.promises.worlds_agree.Goals as goal

pub returns-clause-kept : goal.returns-clause-kept
returns-clause-kept c w reached = let is = worlds.reached_sound w reached in sound_runs.sound-promises board_batches batch_laws most_batches w is.sound (worlds.are_linked board_batches batch_laws w is.strays)

pub returns-clause-replies : goal.returns-clause-replies
returns-clause-replies c w reached event = sound_runs.replies board_batches batch_laws most_batches w (worlds.reached_sound w reached).sound event

pub returns-clause-tallies : goal.returns-clause-tallies
returns-clause-tallies c w reached = tallies board_batches w (worlds.reached_sound w reached).tallied

pub returns-clause-backlog : goal.returns-clause-backlog
returns-clause-backlog c w reached = sound_runs.sound-backlog board_batches batch_laws most_batches w (worlds.reached_sound w reached).sound

pub returns-clause-order : goal.returns-clause-order
returns-clause-order c w reached events =
    let sound = (worlds.reached_sound w reached).sound in
    record {
      star = (orders.run-follows board_batches batch_laws events most_batches w sound).order;
      sites = λ i a b before after. (orders.run_follows board_batches batch_laws events most_batches w sound i a b before after).order;
    }

pub returns-clause-sites : goal.returns-clause-sites
returns-clause-sites c w reached = sound_runs.sites-hold board_batches batch_laws most_batches w (worlds.reached_sound w reached).sound

pub returns-clause-detached : goal.returns-clause-detached
returns-clause-detached c w reached = sound_runs.only-full board_batches batch_laws most_batches w (worlds.reached_sound w reached).sound

pub returns-clause-strangers : goal.returns-clause-strangers
returns-clause-strangers c w reached event = sound_runs.stray-replies board_batches batch_laws most_batches w (worlds.reached_sound w reached).sound event

pub returns-clause-plain : goal.returns-clause-plain
returns-clause-plain c w reached plain =
    worlds.plain_linked board_batches batch_laws w (worlds.reached_sound w reached).strays
    (subst (λ (v : BoardWorld). (i : ℕ) → is_stray i v.trace ≡ false) (sym reached.is) (worlds.plain_run board_batches batch_laws reached.events (opened_world board_batches reached.board reached.limit) plain (λ i. refl)))

use Rattle.std.proofs.Common.{◌≡◌, ◌∙◌, ◌≤◌, refl, inl, inr, ℕ, false, List, None, arith}
use Rattle.jup_world.specs.declared.events.Reply.TheVariants.{Detached}
use Rattle.jup_world.specs.Events.{Stray}
use Rattle.jup_world.specs.Boards.{BoardEvent, IsReached}
use Rattle.jup_world.specs.Worlds.{outcome}
use Rattle.callers.specs.Crowd.{board, after, pair, crowd, turns_on, told, edited}
use Rattle.callers.proofs.strangers.meet_a_stranger.Goals as goal
use Rattle.jup_world.specs.Prelude.{highest_limit, board_batches, opened_link, up_fault, UpOp, UpAck, LogFull}
use Rattle.jup_star.specs.declared.faults.StarFault.TheVariants.{BadAck}

-- each of these worlds is one that events made
abbrev reached : (limit : ℕ) (events : List BoardEvent) → limit ≤ highest_limit → IsReached (after limit events)
reached limit events low = record {
  board = board false;
  limit = limit;
  events = events;
  opening = record { distinct = ((tt, tt), tt); unsigned = refl; short = ((tt, tt), tt) };
  limited = low;
  is = refl;
}

pub returns-clause-entry : goal.returns-clause-entry
returns-clause-entry c =
    let replies = c.worlds_agree.ensures.strangers (after 2 crowd) (reached 2 crowd (omega arith)) (Stray 3 (UpOp turns_on)) in (
      opened_link 3,
      refl,
      elim (replies.present (opened_link 3) refl refl) [
        | inl refused ↦ absurd (let fits : up_fault board_batches (after 2 crowd).star (opened_link 3) (UpOp turns_on) ≡ None = refl in let fault = refused.cause in cc)
        | inr taken ↦ taken
      ],
    )

pub returns-clause-rejected : goal.returns-clause-rejected
returns-clause-rejected c =
    let replies = c.worlds_agree.ensures.strangers (after 2 crowd) (reached 2 crowd (omega arith)) (Stray 3 (UpAck 1)) in
    elim (replies.present (opened_link 3) refl refl) [
      | inl refused ↦ refused.star
      | inr heard ↦ absurd (let gone : (outcome board_batches (after 2 crowd) (Stray 3 (UpAck 1))).reply ≡ Detached BadAck = refl in let answer = heard.reply in cc)
    ]

pub returns-clause-first : goal.returns-clause-first
returns-clause-first c =
    let holds = c.worlds_agree.ensures.sites (after 2 told) (reached 2 told (omega arith)) 1 _ _ refl refl in
    (_, _, refl, holds, holds.equal (refl, refl, refl) ∙ refl)

pub returns-clause-second : goal.returns-clause-second
returns-clause-second c =
    let holds = c.worlds_agree.ensures.sites (after 2 told) (reached 2 told (omega arith)) 2 _ _ refl refl in
    (_, _, refl, holds, holds.equal (refl, refl, refl) ∙ refl)

pub returns-clause-full : goal.returns-clause-full
returns-clause-full c = refl

pub returns-clause-limit : goal.returns-clause-limit
returns-clause-limit c = (c.worlds_agree.ensures.detached (after 1 edited) (reached 1 edited (omega arith)) 1 _ LogFull refl refl).1

pub returns-clause-plain : goal.returns-clause-plain
returns-clause-plain c = c.worlds_agree.ensures.plain (after 2 pair) (reached 2 pair (omega arith)) (tt, (tt, tt))

-- When a client tries to carry its link again. Times are milliseconds.
use Rattle.std.specs.Prelude.{ℕ, ◌+◌, ◌-◌, ◌*◌, min, max, nat_le, nat_lt, if◌then◌else◌, Option, Some, None, ◌==◌}
use Rattle.jup_lasting.specs.declared.terms.Terms.{Terms}
use Rattle.jup_redial.specs.declared.trials.Trial.{Trial}
use Rattle.jup_redial.specs.declared.trials.Trial.TheVariants.{After, Never}

pub record Trying : Type 0 where
  pub limit : Option ℕ  -- for how many seconds it tries after a loss, if its user said so
  pub patience : Option ℕ  -- for how many milliseconds it tries after a loss, once it has had a link
  pub attempts : ℕ  -- how many attempts came to nothing before it had one
  pub wait : ℕ  -- the next wait
  pub since : Option ℕ  -- from when the present connection carries the link
  pub lost : ℕ  -- when the last one broke that carried it

abbrev pub never_linked : Option ℕ → Trying
never_linked limit = record { limit = limit; patience = None; attempts = 0; wait = 200; since = None; lost = 0 }

-- the seconds of the link and three minutes, and an hour at least if the link is kept
abbrev pub seconds_by : Terms → ℕ
seconds_by terms = if terms.kept then max (terms.seconds + 180) 3600 else terms.seconds + 180

abbrev pub patience_by : Option ℕ → Terms → ℕ
patience_by None terms = seconds_by terms * 1000
patience_by (Some seconds) terms = seconds * 1000

-- the server has answered that a connection carries the link
abbrev pub after_answer : Terms → ℕ → Trying → Trying
after_answer terms now t = record t { patience = Some (patience_by t.limit terms); since = Some now }

-- a wait after a connection that carried the link for ten seconds is short again
abbrev pub wait_since : Option ℕ → ℕ → ℕ → ℕ
wait_since None wait now = wait
wait_since (Some since) wait now = if nat_le 10000 (now - since) then 200 else wait

abbrev pub wait_after : ℕ → Trying → ℕ
wait_after now t = wait_since t.since t.wait now

-- when the link was lost last
abbrev pub lost_by : Option ℕ → ℕ → ℕ → ℕ
lost_by None lost now = lost
lost_by (Some since) lost now = now

abbrev pub attempts_by : Option ℕ → ℕ → ℕ
attempts_by None attempts = min (attempts + 1) 4294967295
attempts_by (Some patience) attempts = attempts

-- an attempt came to nothing, or the connection broke
abbrev pub after_failing : ℕ → Trying → Trying
after_failing now t = record t {
  attempts = attempts_by t.patience t.attempts;
  wait = min (wait_after now t * 2) 5000;
  since = None;
  lost = lost_by t.since t.lost now;
}

-- how much is left of the time after a loss
abbrev pub left_of : ℕ → ℕ → ℕ → ℕ
left_of lost patience now = min (lost + patience) 18446744073709551615 - now

-- the next wait, but no longer than what is left
abbrev pub within_left : ℕ → ℕ → Trial
within_left wait left = if left == 0 then Never else After (min wait left)

-- before the first link there are three attempts
abbrev pub trial_by : Option ℕ → ℕ → ℕ → ℕ → ℕ → Trial
trial_by None attempts wait lost now = if nat_lt attempts 3 then After wait else Never
trial_by (Some patience) attempts wait lost now = within_left wait (left_of lost patience now)

abbrev pub trial_after : ℕ → Trying → Trial
trial_after now t = trial_by t.patience (attempts_by t.patience t.attempts) (wait_after now t) (lost_by t.since t.lost now) now

-- for how long the server may leave a connection without an answer: 90 seconds, or what is left, but a second at least
abbrev pub attempt_by : Option ℕ → ℕ → ℕ → ℕ
attempt_by None lost now = 90000
attempt_by (Some patience) lost now = min (max (left_of lost patience now) 1000) 90000

abbrev pub longest_attempt : ℕ → Trying → ℕ
longest_attempt now t = attempt_by t.patience t.lost now

-- The sessions that may still come to a daemon.
use Rattle.std.specs.Prelude.{ℕ, zero, suc, ◌+◌, ◌-◌, Bool, true, false, if◌then◌else◌}
use Rattle.jup_daemon.specs.declared.door.Admission.{Admission}
use Rattle.jup_daemon.specs.declared.door.Admission.TheVariants.{Counted, Late}
use Rattle.jup_daemon.specs.declared.door.Turn.{Turn}
use Rattle.jup_daemon.specs.declared.door.Turn.TheVariants.{Session, Link, Resume, Nothing}

pub record Doors : Type 0 where
  pub left : ℕ  -- how many sessions may still come
  pub unread : ℕ  -- how many that came have not said what they are
  pub has_given : Bool  -- whether a token was given

-- so many sessions may come, and none has come yet
abbrev pub open_to : ℕ → Doors
open_to sessions = record { left = sessions; unread = 0; has_given = false }

-- one more connection is one of the sessions, unless all have come
abbrev pub admission_by : ℕ → Admission
admission_by zero = Late
admission_by (suc left) = Counted

-- it has not said what it is
abbrev pub after_counting : Doors → Doors
after_counting d = record d { left = d.left - 1; unread = d.unread + 1 }

-- A connection that was counted has said what it is. One that carries a link on gives its number back, and so does one that never said it, once a token was given
abbrev pub after_saying : Turn → Doors → Doors
after_saying Session d = record d { unread = d.unread - 1 }
after_saying Link d = record d { unread = d.unread - 1; has_given = true }
after_saying Resume d = record d { left = d.left + 1; unread = d.unread - 1 }
after_saying Nothing d = record d { left = if d.has_given then d.left + 1 else d.left; unread = d.unread - 1 }

-- Why a program has no arguments to work by, as an exit status.
use Rattle.std.specs.Prelude.{ℕ}
use Rattle.jup_options.specs.declared.unread.Unread.{Unread}
use Rattle.jup_options.specs.declared.unread.Unread.TheVariants.{Help, Refused, NotText, NoMemory}

abbrev pub unread_status : Unread → ℕ
unread_status (Help text) = 0
unread_status (Refused text) = 2
unread_status NotText = 2
unread_status NoMemory = 3

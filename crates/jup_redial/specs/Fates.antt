-- What has become of a link.
use Rattle.std.specs.Prelude.{Bool, true, false}
use Rattle.jup_redial.specs.declared.fate.Fate.{Fate}
use Rattle.jup_redial.specs.declared.fate.Fate.TheVariants.{Goes, Finished, Refused, Forgotten, Ended, Faulty, Late, Unanswered, Unconnected, NoMemory, Abandoned}

-- it tells people more than how their client ends
abbrev pub is_told : Fate → Bool
is_told Goes = false
is_told Finished = false
is_told (Refused number) = false
is_told (Forgotten number) = true
is_told (Ended lost) = true
is_told (Faulty number) = true
is_told Late = true
is_told Unanswered = true
is_told Unconnected = false
is_told NoMemory = false
is_told Abandoned = false

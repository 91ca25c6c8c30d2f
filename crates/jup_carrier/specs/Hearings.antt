-- How long a carrier is read.
use Rattle.std.specs.Prelude.{ℕ}

-- seconds for which a carrier may be silent while it is read
abbrev pub longest_silence : ℕ
longest_silence = 180

-- bytes that a carrier may bring that have no effect: 4 MiB
abbrev pub most_dropped : ℕ
most_dropped = 4194304

pub record Heard : Type 0 where
  pub silent : ℕ  -- for how many seconds nothing came
  pub dropped : ℕ  -- how many bytes came that had no effect

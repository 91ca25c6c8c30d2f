-- What the first bytes of a connection say.
use Rattle.std.specs.Prelude.{◌≡◌, ℕ, ◌<◌, ◌≤◌, List, ◌++◌, length, take}
use Rattle.jup_resume.specs.Texts.{HasNoFeed, IsCut}
use Rattle.jup_resume.specs.FirstLines.{IsOfCarrier}
use Rattle.jup_links.specs.declared.first_bytes.FirstBytes.{FirstBytes}
use Rattle.jup_links.specs.declared.first_bytes.FirstBytes.TheVariants.{Undecided, Session, Part, Line, TooLong}

-- how many bytes a first line of protocol 4 has at most, with its line feed
abbrev pub longest_first : ℕ
longest_first = 64

-- with more bytes behind them, these can begin a first line of protocol 4
abbrev pub MayBeOfCarrier : List ℕ → Type 0
MayBeOfCarrier bytes = (more : List ℕ) × IsOfCarrier (bytes ++ more)

-- the first line has so many bytes before its line feed
pub record IsFirstLine (bytes : List ℕ) (len : ℕ) : Type 0 where
  pub text : List ℕ
  pub rest : List ℕ
  pub cut : IsCut 10 bytes text rest
  pub long : length text ≡ len

-- no line feed is among as many bytes as a first line may have
pub record IsTooLong (bytes : List ℕ) : Type 0 where
  pub long : longest_first ≤ length bytes
  pub open_ended : HasNoFeed (take longest_first bytes)

-- what bytes say that came so far, the first of the connection among them
abbrev pub Says : List ℕ → FirstBytes → Type 0
Says bytes Undecided = MayBeOfCarrier bytes × (IsOfCarrier bytes → ⊥)
Says bytes Session = MayBeOfCarrier bytes → ⊥
Says bytes Part = IsOfCarrier bytes × HasNoFeed bytes × (length bytes < longest_first)
Says bytes (Line len) = IsOfCarrier bytes × IsFirstLine bytes len × (len < longest_first)
Says bytes TooLong = IsOfCarrier bytes × IsTooLong bytes

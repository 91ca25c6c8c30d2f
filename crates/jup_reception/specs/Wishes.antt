-- What a connection asks for by a note, after its first line.
use Rattle.std.specs.Prelude.{◌≢◌, ◌⊎◌, ℕ, List}
use Rattle.std.specs.Io.{StartsWith}
use Rattle.jup_resume.specs.Texts.{spelled}
use Rattle.jup_keys.specs.declared.request.Request.TheVariants.{Keys, News}
use Rattle.jup_keys.specs.Notes.{request_text}
use Rattle.jup_reception.specs.declared.wishes.GuestWish.{GuestWish}
use Rattle.jup_reception.specs.declared.wishes.GuestWish.TheVariants as guest

abbrev pub keys_line : List ℕ
keys_line = spelled (request_text Keys)

abbrev pub news_line : List ℕ
news_line = spelled (request_text News)

-- what the next bytes ask for: they begin with one of two lines, may still become one, or neither
abbrev pub IsGuestWish : List ℕ → GuestWish → Type 0
IsGuestWish bytes guest.Keys = StartsWith bytes keys_line
IsGuestWish bytes guest.News = StartsWith bytes news_line
IsGuestWish bytes guest.Link = (StartsWith keys_line bytes → ⊥) × (StartsWith news_line bytes → ⊥) × (StartsWith bytes keys_line → ⊥) × (StartsWith bytes news_line → ⊥)
IsGuestWish bytes guest.Unknown = (StartsWith keys_line bytes ⊎ StartsWith news_line bytes) × (bytes ≢ keys_line) × (bytes ≢ news_line)

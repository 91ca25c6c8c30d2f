-- What the head of a request says to a server of pages and links.
use Rattle.std.specs.Prelude.{◌≡◌, ℕ, ◌≤◌, List, length, map, bytes_eq, codes}
use denote.Ref.{Bor}
use Rattle.websocket.specs.Headers.{Fields}
use Rattle.websocket.specs.Handshake.{requested_key}
use Rattle.httparse.specs.Grammar.{RequestHead, ReadsRequest}
use Rattle.httparse.specs.Spans.{name_and_value}
use Rattle.jup_http.specs.Frames.{most_fields}
use Rattle.jup_http.specs.Heads.{is_own, Upgrades}
use Rattle.jup_http.specs.declared.asked.Asked.{Asked}

-- what a head of this method, target, minor version and these header lines says to a server with these origins
pub record Tells (origins : List (Bor (List ℕ))) (method target : List ℕ) (minor : ℕ) (fields : Fields) (asked : Asked) : Type 0 where
  pub path : asked.target.now ≡ target
  pub own : asked.is_own ≡ is_own origins fields
  pub get : asked.is_get ≡ bytes_eq method (codes "GET")
  pub upgrade : Upgrades (requested_key method minor fields) asked.upgrade

abbrev pub Says : List (Bor (List ℕ)) → RequestHead → Asked → Type 0
Says origins head asked = Tells origins head.method head.target head.minor (map name_and_value head.fields) asked

-- a head of at most 64 header lines is in front of these bytes, and says this
pub record IsSaid (bytes : List ℕ) (origins : List (Bor (List ℕ))) (asked : Asked) : Type 0 where
  pub head : RequestHead
  pub rest : List ℕ
  pub reads : ReadsRequest bytes head rest
  pub few : length head.fields ≤ most_fields
  pub says : Says origins head asked

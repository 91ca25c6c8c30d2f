-- Bytes are heard line by line.
use Rattle.std.proofs.Common.{◌≡◌, ◌≢◌, ℕ, ◌++◌, List, [], ◌∷◌, refl, sym, ap, ◌∙◌, subst, inl, inr, Option, Some, Result, Ok, Err}
use Rattle.jup_resume.specs.Texts.{Text}
use Rattle.jup_lasting.specs.Links.{Link, HearsPiece}
use Rattle.jup_lasting.specs.declared.link.Heard.{Heard}
use Rattle.jup_embed.specs.Prelude.{ClientEnd, Request, Told}
use Rattle.jup_embed.specs.Sessions.{Session, TakesLine}
use Rattle.jup_reconnect.specs.declared.faults.LastingFault.{LastingFault}
use Rattle.jup_reconnect.specs.Lasting.{Lasting, OverBy, HearsOne, Handles, NotesPong, FeedsLine, EndsLine, TakesText, left_by, answered_after, Through, StopsAt, with_bytes, DoesLasting, CommandsLasting, IsWaiting}
use Rattle.jup_reconnect.specs.declared.any.AnyClient.{AnyClient}
use Rattle.jup_reconnect.specs.declared.any.AnyClient.TheVariants.{Lasting as OfLink}
use Rattle.jup_reconnect.specs.AnyClients.{Waits}

through_behind : (lefts : List (List ℕ)) (bytes left rest : List ℕ) (a b c : Lasting) → Through lefts bytes left a b → HearsOne left b (Ok tt) rest c → Through (lefts ++ rest ∷ []) bytes rest a c
through_behind [] bytes left rest a b c none one =
    (c, subst (λ (from : Lasting). HearsOne bytes from (Ok tt) rest c) none.1 (subst (λ (xs : List ℕ). HearsOne xs b (Ok tt) rest c) none.0 one), (refl, refl))
through_behind (first ∷ lefts) bytes left rest a b c some one = (some.0, some.1, through_behind lefts first left rest some.0 b c some.2 one)

-- one line more
pub through_more : (bytes left rest : List ℕ) (a b c : Lasting) → (lefts : List (List ℕ)) × Through lefts bytes left a b → HearsOne left b (Ok tt) rest c
    → (lefts : List (List ℕ)) × Through lefts bytes rest a c
through_more bytes left rest a b c some one = (some.0 ++ rest ∷ [], through_behind some.0 bytes left rest a b c some.1 one)

-- no line yet
pub through_none : (bytes : List ℕ) (a : Lasting) → (lefts : List (List ℕ)) × Through lefts bytes bytes a a
through_none bytes a = ([], (refl, refl))

-- all lines
pub through_all : (bytes left : List ℕ) (a b : Lasting) → left ≡ [] → (lefts : List (List ℕ)) × Through lefts bytes left a b → (lefts : List (List ℕ)) × Through lefts bytes [] a b
through_all bytes left a b none some = subst (λ (xs : List ℕ). (lefts : List (List ℕ)) × Through lefts bytes xs a b) none some

-- up to the one that is refused
pub stops_at : (bytes left : List ℕ) (a b d : Lasting) (fault : LastingFault) → (lefts : List (List ℕ)) × Through lefts bytes left a b → (rest : List ℕ) × HearsOne left b (Err fault) rest d → StopsAt bytes a fault d
stops_at bytes left a b d fault some one = (some.0, left, one.0, b, some.1, one.1)

-- with a byte or without
pub with_some : (bytes : List ℕ) (c : Lasting) → bytes ≢ [] → with_bytes bytes c ≡ record c { link = record c.link { silence = 0 } }
with_some [] c some = absurd (some refl)
with_some (byte ∷ bytes) c some = refl

pub with_none : (bytes : List ℕ) (c : Lasting) → bytes ≡ [] → with_bytes bytes c ≡ c
with_none bytes c none = ap (λ (xs : List ℕ). with_bytes xs c) none

-- one piece is heard in a client that is another by an equation
pub hears_one : (piece rest : List ℕ) (a b d : Lasting) (h : Heard) (link : Link) (r : Result (Unit {0}) LastingFault) → b ≡ a → HearsPiece piece b.link h rest link
    → Handles h (record b { link = link }) r d → HearsOne piece a r rest d
hears_one piece rest a b d h link r same hears handles = subst (λ (from : Lasting). HearsOne piece from r rest d) same (h, link, hears, handles)

-- a line that the session took
pub text_taken : (text : Text) (a b d : Lasting) → NotesPong text a b → FeedsLine text b.session d.session → d ≡ record b { session = d.session } → TakesText text a (Ok tt) d
text_taken text a b d notes feeds rest = (
  notes.0,
  notes.1,
  subst (λ (s : Session). FeedsLine text s d.session) (ap (λ (c : Lasting). c.session) notes.2) feeds,
  rest ∙ ap (λ (c : Lasting). record c { session = d.session }) notes.2,
)

-- one that it refused
pub text_ends : (text : Text) (a b m d : Lasting) (end : ClientEnd) (fault : LastingFault) → fault ≡ OverBy end → NotesPong text a b → EndsLine text b.session end m.session
    → m ≡ record b { session = m.session } → d ≡ record m { link = left_by m.link.carriage m.link } → TakesText text a (Err fault) d
text_ends text a b m d end fault is notes ends rest left = (
  end,
  is,
  notes.0,
  notes.1,
  subst (λ (s : Session). EndsLine text s end d.session) (ap (λ (c : Lasting). c.session) notes.2)
      (subst (λ (s : Session). EndsLine text b.session end s) (sym (ap (λ (c : Lasting). c.session) left)) ends),
  λ i. record { session = d.session; link = links i; answered = answers i },
)
  where
    links : d.link ≡ left_by a.link.carriage a.link
    links = ap (λ (c : Lasting). c.link) left ∙ ap (λ (l : Link). left_by l.carriage l) (ap (λ (c : Lasting). c.link) rest ∙ ap (λ (c : Lasting). c.link) notes.2)

    answers : d.answered ≡ answered_after notes.0 a.answered
    answers = ap (λ (c : Lasting). c.answered) left ∙ ap (λ (c : Lasting). c.answered) rest ∙ ap (λ (c : Lasting). c.answered) notes.2

-- a line of a user completed a request, which was done
pub commands_so : (line : List ℕ) (asked : Option Request) (request : Request) (told : Told) (a b d : Lasting) (m : Session) → b ≡ a → asked ≡ Some request
    → TakesLine line asked b.session m → DoesLasting request told (record b { session = m }) d → CommandsLasting (Ok (Some told)) line a d
commands_so line asked request told a b d m same is takes does =
    subst (λ (c : Lasting). CommandsLasting (Ok (Some told)) line c d) same
    (request, m, subst (λ (o : Option Request). TakesLine line o b.session m) is takes, does)

-- something waits for the connection of a link, or nothing does
pub waits_some : (any : AnyClient) (c : Lasting) → any ≡ OfLink c → IsWaiting c → Waits 1 any
waits_some any c is waits = subst (λ (a : AnyClient). Waits 1 a) (sym is) (inl (refl, waits))

pub waits_none : (any : AnyClient) (c : Lasting) → any ≡ OfLink c → (IsWaiting c → ⊥) → Waits 0 any
waits_none any c is none = subst (λ (a : AnyClient). Waits 0 a) (sym is) (inr (refl, none))

-- A session that opens: the server's greeting comes, then its empty board, and then its client pings.
use Rattle.std.proofs.Common.{◌≡◌, ◌≢◌, ℕ, suc, ◌<◌, nat_eq, Bool, true, false, ◌&&◌, not, List, [], ◌∷◌, ◌++◌, length, None, Some, Ok, refl, sym, ap, ◌∙◌, subst, arith, true≢false, append_assoc, append-nil, codes, flat_map, lit<}
use Rattle.std.specs.Fmt.{digits}
use Rattle.std.specs.List.{AllByRecursion}
use Rattle.std.proofs.lemmas.Bool.Decides.{nat_tests}
use Rattle.std.proofs.lemmas.List.Concat.{flat_map-append}
use Rattle.std.proofs.lemmas.List.Elements.{All-from_recursion}
use Rattle.jup_wire.specs.Lines.{spelling, HasSpelling}
use Rattle.jup_wire.specs.Streams.{Progress, IsPart}
use Rattle.jup_wire.specs.declared.line.Line.{Line}
use Rattle.jup_wire.specs.declared.line.Line.TheVariants.{Welcome, Ready}
use Rattle.jup_star.specs.Sites.{opened_site}
use Rattle.jup_client.specs.declared.opening.Opening.{Opening}
use Rattle.jup_client.specs.declared.client.ClientState.{ClientState}
use Rattle.jup_client.specs.declared.client.Told.TheVariants.{Synced}
use Rattle.jup_client.specs.declared.asking.Request.TheVariants.{Sync}
use Rattle.jup_client.specs.Prelude.{Distinct, UpPing, SaysUp}
use Rattle.jup_client.specs.Clients.{saying, HearsWelcome, Opens}
use Rattle.jup_embed.specs.declared.phase.Phase.{Phase}
use Rattle.jup_embed.specs.declared.phase.Phase.TheVariants as phase
use Rattle.jup_embed.specs.Sessions.{Session, IsUngreeted, Feeds, HearsLine, ReadsOn, IsDone, nothing_heard}

-- A line that comes.

abbrev pub reading : List ℕ → Progress
reading part = record { part = part; fault = None }

all_both : (xs ys : List Line) → AllByRecursion HasSpelling xs → AllByRecursion HasSpelling ys → AllByRecursion HasSpelling (xs ++ ys)
all_both [] ys one two = two
all_both (x ∷ xs) ys one two = (one.0, all_both xs ys one.1 two)

reads_part : (text : List ℕ) → IsPart text → ReadsOn text [] (reading []) (reading text)
reads_part text part before heard h = record {
  spelled = subst (AllByRecursion HasSpelling) (sym (append-nil heard)) h.spelled;
  rest = (
    ap (λ b. b ++ text) (h.rest.0 ∙ append-nil (flat_map spelling heard)) ∙ ap (λ lines. flat_map spelling lines ++ text) (sym (append-nil heard)),
    part,
  );
}

lacks_feed : List ℕ → Bool
lacks_feed [] = true
lacks_feed (b ∷ bytes) = not (nat_eq b 10) && lacks_feed bytes

other_byte : (b : ℕ) (more : Bool) → (not (nat_eq b 10) && more) ≡ true → (b ≢ 10) × (more ≡ true)
other_byte b true is = ((λ e. grind (arith, nat_tests)), refl)
other_byte b false is = grind (arith, nat_tests)

no_feed : (bytes : List ℕ) → lacks_feed bytes ≡ true → AllByRecursion (λ b. b ≢ 10) bytes
unfolding lacks_feed
no_feed [] is = tt
no_feed (b ∷ bytes) is = let both = other_byte b (lacks_feed bytes) is in (both.0, no_feed bytes both.1)

is_part : (text : List ℕ) → lacks_feed text ≡ true → length text < 256 → IsPart text
is_part text free short = record { short = short; open_ended = All-from_recursion (λ b. b ≢ 10) text (no_feed text free) }

no_part : IsPart []
no_part = record { short = lit< tt; open_ended = λ k d below. absurd (omega (arith, below)) }

reads_line : (text : List ℕ) (line : Line) → spelling line ≡ text ++ 10 ∷ [] → HasSpelling line → ReadsOn (10 ∷ []) (line ∷ []) (reading text) (reading [])
reads_line text line spells is before heard h = record {
  spelled = all_both heard (line ∷ []) h.spelled (is, tt);
  rest = (
    ap (λ b. b ++ 10 ∷ []) h.rest.0
        ∙ append_assoc (flat_map spelling heard) text (10 ∷ [])
        ∙ ap (λ b. flat_map spelling heard ++ b) (sym spells ∙ sym (append-nil (spelling line)))
        ∙ sym (flat_map-append spelling heard (line ∷ []))
        ∙ sym (append-nil (flat_map spelling (heard ++ line ∷ []))),
    no_part,
  );
}

abbrev pub TakesWhole : List ℕ → Session → Session → Type 0
TakesWhole text c d = (middle : Session) × Feeds text c middle × Feeds (10 ∷ []) middle d

takes_whole : (text : List ℕ) (line : Line) (c d : Session) → IsPart text → spelling line ≡ text ++ 10 ∷ [] → HasSpelling line → c.progress ≡ reading [] → d.progress ≡ reading []
    → HearsLine line (record c { progress = d.progress }) d → TakesWhole text c d
takes_whole text line c d part spells is from to hears = (
  record c { progress = reading text },
  ([], refl, subst (λ p. ReadsOn text [] p (reading text)) (sym from) (reads_part text part)),
  (line ∷ [], (d, hears, refl), subst (λ p. ReadsOn (10 ∷ []) (line ∷ []) (reading text) p) (sym to) (reads_line text line spells is)),
)

-- The sessions.

abbrev pub state : ℕ → ClientState
state pings = record { site = opened_site 1 1000 []; gather = Some []; pings = pings }

abbrev pub opening : Opening
opening = record { site = 1; limit = 1000; board = Ok (record { drafted = record { board = []; window = None; home = None; last = None; naming = Distinct }; next = 1 }) }

abbrev pub session : Phase → List ℕ → Session
session p waiting = record { progress = reading []; phase = p; waiting = waiting; changes = []; watched = false; asked = None; synced = false }

pub is_ungreeted : IsUngreeted false (session phase.Greeting [])
is_ungreeted = (record { spelled = tt; rest = (refl, no_part) }, refl, refl, refl, refl)

greets : HearsLine (Welcome 1 1000) (session phase.Greeting []) (session (phase.Opening opening) [])
greets = record {
  heard = nothing_heard;
  left = phase.Opening opening;
  hears = (Ok opening, (refl, refl, (refl, refl)), (refl, refl));
  after = refl;
}

none_came : (lines : List Line) → 1 ≡ suc (length lines) → lines ≡ []
none_came [] e = refl
none_came (line ∷ lines) e = absurd (omega (arith, e))

is_opened : (lines : List Line) → lines ≡ [] → Opens lines opening (Ok (Some (state 0)))
is_opened lines none = subst (λ l. Opens l opening (Ok (Some (state 0)))) (sym none) ([], refl, refl, refl)

welcomes : HearsWelcome Ready opening (Ok (Some (state 0))) opening
welcomes = record {
  ready = λ e lines told. is_opened lines (none_came lines told.1);
  part = λ is lines told. absurd (true≢false (sym is));
  other = λ other is. absurd (other refl);
}

opens : HearsLine Ready (session (phase.Opening opening) []) (session (phase.Open (state 0)) [])
opens = record {
  heard = nothing_heard;
  left = phase.Open (state 0);
  hears = (Ok (Some (state 0)), opening, welcomes, (refl, refl));
  after = refl;
}

pub pings : IsDone Sync (session (phase.Open (state 0)) []) Synced (session (phase.Open (state 1)) (codes "ping 1" ++ 10 ∷ []))
unfolding digits
pings = record {
  answer = saying (SaysUp (UpPing 1)) Synced;
  left = phase.Open (state 1);
  answered = (refl, refl);
  tells = refl;
  after = refl;
}

pub takes_welcome : TakesWhole (codes "welcome 1 1000") (session phase.Greeting []) (session (phase.Opening opening) [])
unfolding digits lacks_feed
takes_welcome = takes_whole (codes "welcome 1 1000") (Welcome 1 1000) (session phase.Greeting []) (session (phase.Opening opening) [])
    (is_part (codes "welcome 1 1000") refl (lit< tt)) refl (lit< tt, lit< tt) refl refl greets

pub takes_ready : TakesWhole (codes "ready") (session (phase.Opening opening) []) (session (phase.Open (state 0)) [])
unfolding lacks_feed
takes_ready = takes_whole (codes "ready") Ready (session (phase.Opening opening) []) (session (phase.Open (state 0)) [])
    (is_part (codes "ready") refl (lit< tt)) refl tt refl refl opens

-- The heads of requests and answers.
use Rattle.std.proofs.Common.{ℕ, Bool, true, false, List, map, Result, Ok, Err, ap, subst, inl, inr, ◌≡◌, ◌++◌, ◌∙◌, refl, append_assoc, IfOk, String, string_bytes, codes, bytes_eq, MatchBool, MatchResult}
use denote.Ref.{Bor}
use Rattle.httparse.specs.Grammar.{RequestHead}
use Rattle.httparse.specs.Spans.{name_and_value}
use Rattle.websocket.specs.declared.handshake.failure.HandshakeError.{HandshakeError}
use Rattle.websocket.specs.Handshake.{Answers}
use Rattle.websocket.specs.Headers.{crlf}
use Rattle.jup_http.specs.declared.asked.Asked.{Asked}
use Rattle.jup_http.specs.declared.refusal.Refusal.{Refusal}
use Rattle.jup_http.specs.declared.refusal.Refusal.TheVariants.{Foreign, BadMethod}
use Rattle.jup_http.specs.declared.request.Request.{Request}
use Rattle.jup_http.specs.declared.request.Request.TheVariants.{Link, Refused}
use Rattle.jup_http.specs.Asked.{Says}
use Rattle.jup_http.specs.Heads.{Asks, AsksAt, AsksLink, AsksTarget, upgrade_refusal, Upgrades}

-- Upgrades that are refused.

pub no_upgrade : (r : Result (List ℕ) HandshakeError) (e : HandshakeError) → Answers (Err e) r → Upgrades r (Err (upgrade_refusal e))
no_upgrade (Ok key) e h = inr (h.0, ap (λ x. Err (upgrade_refusal x)) h.1)
no_upgrade (Err f) e h = ap (λ x. Err (upgrade_refusal x)) (cc h)

-- What a request asks for, by what its head says.

-- an upgrade asks for a link
abbrev ByUpgrade : Result (List ℕ) Refusal → Request → Type 0
ByUpgrade accepted request = MatchResult accepted (λ key. request ≡ Link key) (λ refusal. request ≡ Refused refusal)

asks_link : (key : Result (List ℕ) HandshakeError) (accepted : Result (List ℕ) Refusal) (request : Request) → Upgrades key accepted → ByUpgrade accepted request → AsksLink key request
asks_link (Ok key) accepted request (inl u) at = inl (u.0, subst (λ a. ByUpgrade a request) u.1 at)
asks_link (Ok key) accepted request (inr u) at = inr (u.0, subst (λ a. ByUpgrade a request) u.1 at)
asks_link (Err e) accepted request u at = subst (λ a. ByUpgrade a request) u at

first_of : (b : Bool) (A B C : Type 0) → (A → B) → MatchBool b A C → MatchBool b B C
first_of true A B C f x = f x
first_of false A B C f x = x

second_of : (b : Bool) (A B C : Type 0) → (B → C) → MatchBool b A B → MatchBool b A C
second_of true A B C f x = x
second_of false A B C f x = f x

asks_target : (target : List ℕ) (key : Result (List ℕ) HandshakeError) (accepted : Result (List ℕ) Refusal) (request : Request) → Upgrades key accepted
    → AsksAt target accepted request → AsksTarget target key request
asks_target target key accepted request u =
    second_of (bytes_eq target (codes "/")) _ _ _
    (second_of (bytes_eq target (codes "/captions")) _ _ _
    (second_of (bytes_eq target (codes "/who")) _ _ _
    (first_of (bytes_eq target (codes "/ws")) _ _ _ (asks_link key accepted request u))))

-- what is judged by what a head says is what it asks for
judged_by : (own get : Bool) (target : List ℕ) (key : Result (List ℕ) HandshakeError) (asked : Asked) (request : Request) → asked.is_own ≡ own → asked.is_get ≡ get
    → asked.target.now ≡ target → Upgrades key asked.upgrade
    → MatchBool asked.is_own (MatchBool asked.is_get (AsksAt asked.target.now asked.upgrade request) (request ≡ Refused BadMethod)) (request ≡ Refused Foreign)
    → MatchBool own (MatchBool get (AsksTarget target key request) (request ≡ Refused BadMethod)) (request ≡ Refused Foreign)
judged_by own get target key asked request o g t u judged =
    subst (λ b. MatchBool b (MatchBool get (AsksTarget target key request) (request ≡ Refused BadMethod)) (request ≡ Refused Foreign)) o
    (subst (λ b. MatchBool asked.is_own (MatchBool b (AsksTarget target key request) (request ≡ Refused BadMethod)) (request ≡ Refused Foreign)) g
    (first_of asked.is_own _ _ _ (first_of asked.is_get _ _ _ (λ at.
    subst (λ it. AsksTarget it key request) t (asks_target asked.target.now key asked.upgrade request u at))) judged))

pub asks : (origins : List (Bor (List ℕ))) (h : RequestHead) (asked : Asked) (request : Request) → Says origins h asked
    → MatchBool asked.is_own (MatchBool asked.is_get (AsksAt asked.target.now asked.upgrade request) (request ≡ Refused BadMethod)) (request ≡ Refused Foreign)
    → Asks origins h.method h.target h.minor (map name_and_value h.fields) request
asks origins h asked request says judged = judged_by _ _ h.target _ asked request says.own says.get says.path says.upgrade judged

-- The heads of answers.

-- a text that has these bytes has any that are equal to them
pub same_text : {A E : Type 0} (r : Result (String A) E) (bytes other : List ℕ) → IfOk r (λ s. string_bytes s ≡ bytes) → bytes ≡ other → IfOk r (λ s. string_bytes s ≡ other)
same_text (Ok s) bytes other has same = has ∙ same
same_text (Err e) bytes other has same = tt

-- the type, the length and the other lines, each with its end
pub lines_in_order : (type size others : List ℕ)
    → codes "HTTP/1.1 200 OK\r\ncontent-type: " ++ (type ++ (codes "\r\ncontent-length: " ++ (size ++ (codes "\r\n" ++ (others ++ crlf)))))
    ≡ codes "HTTP/1.1 200 OK\r\ncontent-type: " ++ (((type ++ crlf) ++ ((codes "content-length: " ++ (size ++ crlf)) ++ others)) ++ crlf)
lines_in_order type size others = ap (λ t. codes "HTTP/1.1 200 OK\r\ncontent-type: " ++ t) (simp append_assoc refl)

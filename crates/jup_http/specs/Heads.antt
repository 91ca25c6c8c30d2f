-- The heads of requests and answers.
use Rattle.std.specs.Prelude.{◌≡◌, ℕ, ◌≤◌, ◌⊎◌, Bool, true, false, cond, not, ◌&&◌, ◌||◌, ◌==◌, List, [], ◌∷◌, take, drop, length, map, codes, bytes_eq, count_by, Result, Ok, Err, MatchBool, MatchResult, ◌++◌, decimal}
use Rattle.std.specs.Char.{is_ascii_alphanumeric}
use Rattle.std.specs.List.{list_all, list_any, flat_map}
use denote.Ref.{Bor}
use Rattle.websocket.specs.declared.handshake.failure.HandshakeError.{HandshakeError}
use Rattle.websocket.specs.declared.handshake.failure.HandshakeError.TheVariants.{WrongHttpMethod, WrongHttpVersion, MissingConnectionUpgradeHeader, MissingUpgradeWebSocketHeader, MissingSecWebSocketVersionHeader, MissingSecWebSocketKey, InvalidSecWebSocketKey, SecWebSocketAcceptKeyMismatch, SecWebSocketSubProtocolError, UnexpectedExtension, Http, InvalidHeader, OutOfMemory}
use Rattle.websocket.specs.Headers.{Fields, eq_ignore_case, crlf, field_line}
use Rattle.websocket.specs.Handshake.{requested_key, IsValidKey, accept_key_of}
use Rattle.httparse.specs.Grammar.{RequestHead, ReadsRequest}
use Rattle.httparse.specs.Spans.{name_and_value}
use Rattle.jup_http.specs.Frames.{most_fields}
use Rattle.jup_http.specs.declared.request.Request.{Request}
use Rattle.jup_http.specs.declared.request.Request.TheVariants.{Page, Captions, Who, Link, Refused}
use Rattle.jup_http.specs.declared.refusal.Refusal.{Refusal}
use Rattle.jup_http.specs.declared.refusal.Refusal.TheVariants.{BadHead, Foreign, NoPage, BadMethod, NoUpgrade, OtherVersion, Busy}
use Rattle.jup_http.specs.declared.responses.Media.{Media}
use Rattle.jup_http.specs.declared.responses.Media.TheVariants.{Html, Plain}

-- What the head of a request asks for.

-- ---- origins (RFC 6454): a scheme, a host, and the port if it is not the scheme's own

-- an origin with this scheme, after which the host and the port have this property
abbrev pub has_scheme : List ℕ → (List ℕ → Bool) → List ℕ → Bool
has_scheme scheme property origin = bytes_eq (take (length scheme) origin) scheme && property (drop (length scheme) origin)

abbrev pub has_host : (List ℕ → Bool) → List ℕ → Bool
has_host property origin = has_scheme (codes "http://") property origin || has_scheme (codes "https://") property origin

-- letters, digits, and what else is in names, addresses and ports
abbrev pub is_host_byte : ℕ → Bool
is_host_byte b = is_ascii_alphanumeric b || b == 45 || b == 46 || b == 58 || b == 91 || b == 93 || b == 95

abbrev pub is_host : List ℕ → Bool
is_host host = not (length host == 0) && list_all is_host_byte host

abbrev pub is_origin : List ℕ → Bool
is_origin text = has_host is_host text

-- ---- whose pages ask

-- the host of one of these origins
abbrev pub is_own_host : List (Bor (List ℕ)) → List ℕ → Bool
is_own_host origins host = list_any (λ o. has_host (λ own. eq_ignore_case own host) o.now) origins

-- one of these origins
abbrev pub is_own_origin : List (Bor (List ℕ)) → List ℕ → Bool
is_own_origin origins origin = list_any (λ o. eq_ignore_case o.now origin) origins

-- each line of this name has a value with this property
abbrev pub each_value : List ℕ → (List ℕ → Bool) → Fields → Bool
each_value name property [] = true
each_value name property (f ∷ fs) = cond (eq_ignore_case f.0 name && not (property f.1)) false (each_value name property fs)

abbrev pub is_named : List ℕ → List ℕ × List ℕ → Bool
is_named name f = eq_ignore_case f.0 name

-- one line Host names this server, and no line Origin names a page of another one
abbrev pub is_own : List (Bor (List ℕ)) → Fields → Bool
is_own origins fields =
    count_by (is_named (codes "Host")) fields == 1 && each_value (codes "Host") (is_own_host origins) fields
    && each_value (codes "Origin") (is_own_origin origins) fields

-- ---- what is asked for

abbrev pub status_of : Refusal → ℕ
status_of BadHead = 400
status_of Foreign = 403
status_of NoPage = 404
status_of BadMethod = 405
status_of NoUpgrade = 400
status_of OtherVersion = 426
status_of Busy = 503

-- why an upgrade is refused: for its version, or since it is none
abbrev pub upgrade_refusal : HandshakeError → Refusal
upgrade_refusal WrongHttpMethod = NoUpgrade
upgrade_refusal WrongHttpVersion = NoUpgrade
upgrade_refusal MissingConnectionUpgradeHeader = NoUpgrade
upgrade_refusal MissingUpgradeWebSocketHeader = NoUpgrade
upgrade_refusal MissingSecWebSocketVersionHeader = OtherVersion
upgrade_refusal MissingSecWebSocketKey = NoUpgrade
upgrade_refusal InvalidSecWebSocketKey = NoUpgrade
upgrade_refusal SecWebSocketAcceptKeyMismatch = NoUpgrade
upgrade_refusal (SecWebSocketSubProtocolError _) = NoUpgrade
upgrade_refusal UnexpectedExtension = NoUpgrade
upgrade_refusal (Http _) = NoUpgrade
upgrade_refusal InvalidHeader = NoUpgrade
upgrade_refusal OutOfMemory = NoUpgrade

-- an upgrade to a WebSocket of version 13 with a valid key is accepted by the key's value
abbrev pub Upgrades : Result (List ℕ) HandshakeError → Result (List ℕ) Refusal → Type 0
Upgrades (Ok key) accepted = (IsValidKey key × (accepted ≡ Ok (accept_key_of key))) ⊎ ((¬ (IsValidKey key)) × (accepted ≡ Err NoUpgrade))
Upgrades (Err e) accepted = accepted ≡ Err (upgrade_refusal e)

-- a link is given for a valid key of an upgrade to a WebSocket of version 13
abbrev pub AsksLink : Result (List ℕ) HandshakeError → Request → Type 0
AsksLink (Ok key) request =
    (IsValidKey key × (request ≡ Link (accept_key_of key))) ⊎ ((¬ (IsValidKey key)) × (request ≡ Refused NoUpgrade))
AsksLink (Err e) request = request ≡ Refused (upgrade_refusal e)

abbrev pub AsksTarget : List ℕ → Result (List ℕ) HandshakeError → Request → Type 0
AsksTarget target key request =
    MatchBool (bytes_eq target (codes "/")) (request ≡ Page)
    (MatchBool (bytes_eq target (codes "/captions")) (request ≡ Captions)
    (MatchBool (bytes_eq target (codes "/who")) (request ≡ Who)
    (MatchBool (bytes_eq target (codes "/ws")) (AsksLink key request)
    (request ≡ Refused NoPage))))

-- the same by what accepts the upgrade, or by why it is refused
abbrev pub AsksAt : List ℕ → Result (List ℕ) Refusal → Request → Type 0
AsksAt target accepted request =
    MatchBool (bytes_eq target (codes "/")) (request ≡ Page)
    (MatchBool (bytes_eq target (codes "/captions")) (request ≡ Captions)
    (MatchBool (bytes_eq target (codes "/who")) (request ≡ Who)
    (MatchBool (bytes_eq target (codes "/ws")) (MatchResult accepted (λ key. request ≡ Link key) (λ refusal. request ≡ Refused refusal))
    (request ≡ Refused NoPage))))

-- what a request with this method, target, minor version and header lines asks of a server with these origins
abbrev pub Asks : List (Bor (List ℕ)) → List ℕ → List ℕ → ℕ → Fields → Request → Type 0
Asks origins method target minor fields request =
    MatchBool (is_own origins fields)
    (MatchBool (bytes_eq method (codes "GET")) (AsksTarget target (requested_key method minor fields) request)
    (request ≡ Refused BadMethod))
    (request ≡ Refused Foreign)

-- a head of at most 64 header lines is in front of these bytes, and asks for this
pub record IsAsked (bytes : List ℕ) (origins : List (Bor (List ℕ))) (request : Request) : Type 0 where
  pub head : RequestHead
  pub rest : List ℕ
  pub reads : ReadsRequest bytes head rest
  pub few : length head.fields ≤ most_fields
  pub asks : Asks origins head.method head.target head.minor (map name_and_value head.fields) request

-- The head of an answer (RFC 9112, sections 4 and 5): a status line, header lines, an empty line.

abbrev pub head_of : List ℕ → Fields → List ℕ
head_of status fields = codes "HTTP/1.1 " ++ status ++ crlf ++ flat_map (λ f. field_line f.0 f.1) fields ++ crlf

-- the status code, and its reason in words
abbrev pub reason_of : Refusal → List ℕ
reason_of BadHead = codes "400 Bad Request"
reason_of Foreign = codes "403 Forbidden"
reason_of NoPage = codes "404 Not Found"
reason_of BadMethod = codes "405 Method Not Allowed"
reason_of NoUpgrade = codes "400 Bad Request"
reason_of OtherVersion = codes "426 Upgrade Required"
reason_of Busy = codes "503 Service Unavailable"

-- the methods that there are (RFC 9110, section 15.5.6), the version (RFC 6455, section 4.2.2), and the seconds after which a browser may try again (RFC 9110, section 10.2.3)
abbrev pub more_fields : Refusal → Fields
more_fields BadHead = []
more_fields Foreign = []
more_fields NoPage = []
more_fields BadMethod = (codes "allow", codes "GET") ∷ []
more_fields NoUpgrade = []
more_fields OtherVersion = (codes "upgrade", codes "websocket") ∷ (codes "sec-websocket-version", codes "13") ∷ []
more_fields Busy = (codes "retry-after", codes "5") ∷ []

-- the connection ends; an answer with a line `upgrade` names it here too (RFC 9110, section 7.8)
abbrev pub connection_of : Refusal → List ℕ
connection_of BadHead = codes "close"
connection_of Foreign = codes "close"
connection_of NoPage = codes "close"
connection_of BadMethod = codes "close"
connection_of NoUpgrade = codes "close"
connection_of OtherVersion = codes "upgrade, close"
connection_of Busy = codes "close"

-- the type of a body
abbrev pub media_type : Media → List ℕ
media_type Html = codes "text/html; charset=utf-8"
media_type Plain = codes "text/plain; charset=utf-8"

-- ---- a refusal

-- a sentence for the person at the browser
abbrev pub refusal_body : Refusal → List ℕ
refusal_body BadHead = codes "The server can't read this request.\n"
refusal_body Foreign = codes "The server does not know this address as its own: start the server with --origin ORIGIN, the address that people type, as https://board.example.\n"
refusal_body NoPage = codes "There is nothing at this address: the board is at /.\n"
refusal_body BadMethod = codes "The server answers GET alone.\n"
refusal_body NoUpgrade = codes "This address is for WebSockets alone: the board is at /.\n"
refusal_body OtherVersion = codes "The server speaks version 13 of WebSockets alone.\n"
refusal_body Busy = codes "The server has as many connections as it can serve: try again in a few seconds.\n"

-- nobody keeps the sentence, or takes it for another type
abbrev pub refusal_fields : Refusal → Fields
refusal_fields refusal =
    more_fields refusal ++ (codes "content-type", media_type Plain) ∷ (codes "content-length", decimal (length (refusal_body refusal)))
    ∷ (codes "cache-control", codes "no-store") ∷ (codes "x-content-type-options", codes "nosniff") ∷ (codes "connection", connection_of refusal) ∷ []

abbrev pub refusal_head : Refusal → List ℕ
refusal_head refusal = head_of (reason_of refusal) (refusal_fields refusal)

-- ---- a body

-- what a page may do (Content Security Policy): its own code and colours, images in it, a link to its own server, and no page may frame it
abbrev pub policy : List ℕ
policy = codes "default-src 'none'; script-src 'unsafe-inline'; style-src 'unsafe-inline'; img-src data:; connect-src 'self'; base-uri 'none'; form-action 'none'; frame-ancestors 'none'"

-- nobody keeps the body, takes it for another type, or learns from it where it was read
abbrev pub guard_fields : Fields
guard_fields =
    (codes "cache-control", codes "no-store") ∷ (codes "connection", codes "close") ∷ (codes "x-content-type-options", codes "nosniff")
    ∷ (codes "referrer-policy", codes "no-referrer") ∷ (codes "content-security-policy", policy) ∷ []

abbrev pub guard_lines : List ℕ
guard_lines = flat_map (λ f. field_line f.0 f.1) guard_fields

-- the header lines of a body of this type, with so many bytes
abbrev pub body_fields : Media → ℕ → Fields
body_fields media len = (codes "content-type", media_type media) ∷ (codes "content-length", decimal len) ∷ guard_fields

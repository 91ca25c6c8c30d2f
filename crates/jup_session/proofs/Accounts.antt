-- The account of a whole session.
use Rattle.std.proofs.Common.{◌≡◌, ◌∙◌, sym, ap, subst, ℕ, inl, inr, Bool, List, [], ◌∷◌, ◌++◌, length, map, Option, Some, None, refl, append_assoc, append-nil, count_by, arith, IsTrue, not, flat_map}
use Rattle.std.specs.Io.KnownBytes.{Consumes, Appends, Keeps}
use Rattle.std.proofs.KnownBytes.{Consumes-nil, Consumes-trans}
use Rattle.std.proofs.lemmas.Fmt.{decimal_digit}
use Rattle.jup_session.specs.Prelude.{BoardBatch, Up, Line, Hello, Error, line_bytes, View, HubEvent, Tally, Ending, Said, SaysUp, SaysBye as Bye, Hub, Stream, NoMemory, WriteFailed, HasHeard, Keeper, ending_of, last_line, standing, Sourced, HandsOn, Put, PutsLines, IsFlushed, WritesFront, fresh_put, puts_more, Untaken, Undone, HasRead, Progress, counted, says_edit, FarBehind, GateShut, SessionFault}
use Rattle.jup_wire.proofs.Streams.{one_read}
use Rattle.jup_gather.specs.Gathering.{Piece, up_in, up_way}
use Rattle.jup_gather.proofs.Gathering.{one_gathering}
use Rattle.jup_hub.specs.Histories.{after_split, tally, split_from, joined_with}
use Rattle.jup_stream.specs.Saying.{said_piece}
use Rattle.jup_io.specs.Appends.{appends_kept}
use Rattle.jup_stream.proofs.Streams.{written_of}
use Rattle.jup_session.specs.ExactSessions.{IsFresh, IsTurnedAway, NoLine, NoGreeting, NoJoin, EndsEarly, TurnedAway, Unwelcome, IsServed, HasLines, NoRoom, Early, Served, IsExact, bytes_away, lines_away, bytes_early, lines_early, bytes_over, lines_over, bytes_heard, lines_heard, bytes_of, lines_of, bytes_read, lines_read, bytes_written, BeginWith, IsWelcomed, BothHalves, all_done}
use Rattle.jup_session.specs.Sessions.{Over, Stopped, ByLine, AtMessage, Spent, Heard, FetchesAll, lines_brought, told_line, untold_line, Wrote}

-- What the account of a session says of its bytes.

-- so far these bytes of a reader were read, and these lines of them handed on
abbrev At : Option (List ℕ) → List ℕ → List Line → Sourced → Type 0
At from bytes lines s = Consumes from s.known bytes × HasRead bytes (lines ++ s.waiting) s.progress

at_first : (from : Option (List ℕ)) (start : Sourced) → IsFresh from start → At from [] [] start
at_first from start fresh =
    (subst (λ o. Consumes o start.known []) fresh.known (Consumes-nil start.known), subst (λ l. HasRead [] l start.progress) (sym fresh.waiting) fresh.read)

-- further lines are handed on
at_more : (from : Option (List ℕ)) (bytes : List ℕ) (lines more : List Line) (a b : Sourced) → At from bytes lines a → (h : HandsOn a more b) → At from (bytes ++ h.bytes) (lines ++ more) b
at_more from bytes lines more a b at h =
    (Consumes-trans from a.known b.known bytes h.bytes at.0 h.consumed, subst (λ l. HasRead (bytes ++ h.bytes) l b.progress) (sym (append_assoc lines more b.waiting)) (h.goes_on bytes lines at.1))

-- bytes have just one list of lines, which begins with those handed on so far
at_lines : (from : Option (List ℕ)) (bytes : List ℕ) (lines others : List Line) (s : Sourced) (progress : Progress) → At from bytes lines s → HasRead bytes others progress → BeginWith others lines
at_lines from bytes lines others s progress at other = (s.waiting, sym (one_read bytes (lines ++ s.waiting) others s.progress progress at.1 other).0)

known_begins : (from known : Option (List ℕ)) (bytes given : List ℕ) → Consumes from known bytes → from ≡ Some given → BeginWith given bytes
known_begins None known bytes given h e = absurd cc
known_begins (Some xs) None bytes given h e = absurd h
known_begins (Some xs) (Some ys) bytes given h e = let same : xs ≡ given = cc in (ys, sym same ∙ h)

at_away : (from : Option (List ℕ)) (a b : Sourced) (v w : View) (ending : Ending) → IsFresh from a → (away : IsTurnedAway a v b w ending) → (s : Sourced) × At from (bytes_away away) (lines_away away) s
at_away from a b v w ending fresh (NoLine stop stops same is) = (record b { known = stops.middle }, at_more from [] [] [] a (record b { known = stops.middle }) (at_first from a fresh) stops.reads)
at_away from a b v w ending fresh (NoGreeting line handed other same is) = (b, at_more from [] [] (line ∷ []) a b (at_first from a fresh) handed)
at_away from a b v w ending fresh (NoJoin fault handed made is) = (b, at_more from [] [] (Hello ∷ []) a b (at_first from a fresh) handed)

at_early : (from : Option (List ℕ)) (a b : Sourced) (v w : View) (ending : Ending) (failed : Bool) (lines : List Line) → IsFresh from a → (early : EndsEarly a v b w ending failed lines)
    → (s : Sourced) × At from (bytes_early early) (lines_early early) s
at_early from a b v w ending failed lines fresh (TurnedAway away is) = at_away from a b v w ending fresh away
at_early from a b v w ending failed lines fresh (Unwelcome un) = (b, at_more from [] [] (Hello ∷ []) a b (at_first from a fresh) un.welcomed.hello)

at_over : (from : Option (List ℕ)) (bytes : List ℕ) (lines : List Line) (site count : ℕ) (b c : Sourced) (w x : View) (keeper : Keeper) (ending : Ending) (withheld : Option Untaken) → At from bytes lines b
    → (over : Over site count b c w x keeper ending withheld) → (s : Sourced) × At from (bytes ++ bytes_over over) (lines ++ lines_over over) s
at_over from bytes lines site count b c w x keeper ending withheld at (Stopped stop stops same ends none) = (record c { known = stops.middle }, at_more from bytes lines [] b (record c { known = stops.middle }) at stops.reads)
at_over from bytes lines site count b c w x keeper ending withheld at (ByLine line later handed same leads none) = (c, at_more from bytes lines (line ∷ []) b c at handed)
at_over from bytes lines site count b c w x keeper ending withheld at (AtMessage line later incoming handed leads ends) = (c, at_more from bytes lines (line ∷ []) b c at handed)
at_over from bytes lines site count b c w x keeper ending withheld at (Spent same pass all is none) = (b, subst (λ l. At from l (lines ++ []) b) (sym (append-nil bytes)) (subst (λ l. At from bytes l b) (sym (append-nil lines)) at))

at_heard : (from : Option (List ℕ)) (bytes : List ℕ) (lines : List Line) (site : ℕ) (a c : Sourced) (v x : View) (ending : Ending) (withheld : Option Untaken) → At from bytes lines a
    → (heard : Heard site a v c x ending withheld) → (s : Sourced) × At from (bytes ++ bytes_heard heard) (lines ++ lines_heard heard) s
at_heard from bytes lines site a c v x ending withheld at (inl h) =
    let first = at_more from bytes lines h.hears.lines a h.before at h.hears.handed in
    let all = at_over from (bytes ++ h.hears.handed.bytes) (lines ++ h.hears.lines) site (length h.hears.lines) h.before c h.pass x h.keeper ending withheld first h.over in (
      all.0,
      subst (λ l. At from l (lines ++ (h.hears.lines ++ lines_over h.over)) all.0) (append_assoc bytes h.hears.handed.bytes (bytes_over h.over))
          (subst (λ l. At from ((bytes ++ h.hears.handed.bytes) ++ bytes_over h.over) l all.0) (append_assoc lines h.hears.lines (lines_over h.over)) all.1),
    )
at_heard from bytes lines site a c v x ending withheld at (inr h) = (a, subst (λ l. At from l (lines ++ []) a) (sym (append-nil bytes)) (subst (λ l. At from bytes l a) (sym (append-nil lines)) at))

module _ (from : Option (List ℕ)) (v x : View) (ending : Ending) (failed : Bool) (undone : Undone) where
  at_served : (start : Sourced) (lines : List Line) (fresh : IsFresh from start) (served : IsServed start v x ending failed undone lines)
      → (s : Sourced) × At from (served.welcomed.hello.bytes ++ bytes_heard served.halves.hears) (Hello ∷ lines_heard served.halves.hears) s
  at_served start lines fresh served =
      at_heard from served.welcomed.hello.bytes (Hello ∷ []) served.site served.greeted served.halves.last (after_split served.behind) served.halves.read served.halves.heard undone.untaken
      (at_more from [] [] (Hello ∷ []) start served.greeted (at_first from start fresh) served.welcomed.hello) served.halves.hears

  begins_read : (lines : List Line) (l : HasLines from v x ending failed undone lines) (given : List ℕ) → from ≡ Some given → BeginWith given (bytes_of l)
  begins_read lines (NoRoom same is done are) given e = (given, refl)
  begins_read lines (Early start last fresh ends done) given e = let at = at_early from start last v x ending failed lines fresh ends in known_begins from at.0.known (bytes_early ends) given at.1.0 e
  begins_read lines (Served start fresh served) given e =
      let at = at_served start lines fresh served in known_begins from at.0.known (served.welcomed.hello.bytes ++ bytes_heard served.halves.hears) given at.1.0 e

  begin_lines : (lines : List Line) (l : HasLines from v x ending failed undone lines) (others : List Line) (progress : Progress) → HasRead (bytes_of l) others progress → BeginWith others (lines_of l)
  begin_lines lines (NoRoom same is done are) others progress h = (others, refl)
  begin_lines lines (Early start last fresh ends done) others progress h =
      let at = at_early from start last v x ending failed lines fresh ends in at_lines from (bytes_early ends) (lines_early ends) others at.0 progress at.1 h
  begin_lines lines (Served start fresh served) others progress h =
      let at = at_served start lines fresh served in
      at_lines from (served.welcomed.hello.bytes ++ bytes_heard served.halves.hears) (Hello ∷ lines_heard served.halves.hears) others at.0 progress at.1 h

pub account_read : (from old new : Option (List ℕ)) (v x : View) (ending : Ending) (failed : Bool) (undone : Undone) (e : IsExact from old new v x ending failed undone) (given : List ℕ) → from ≡ Some given
    → BeginWith given (bytes_read e)
account_read from old new v x ending failed undone e given is = begins_read from v x ending failed undone e.lines e.has_lines given is

pub account_lines : (from old new : Option (List ℕ)) (v x : View) (ending : Ending) (failed : Bool) (undone : Undone) (e : IsExact from old new v x ending failed undone) (lines : List Line) (progress : Progress)
    → HasRead (bytes_read e) lines progress → BeginWith lines (lines_read e)
account_lines from old new v x ending failed undone e lines progress h = begin_lines from v x ending failed undone e.lines e.has_lines lines progress h

appended : (old new : Option (List ℕ)) (bytes held wrote : List ℕ) → Appends old new bytes → old ≡ Some held → new ≡ Some wrote → wrote ≡ held ++ bytes
appended None new bytes held wrote h e f = absurd cc
appended (Some xs) None bytes held wrote h e f = absurd h
appended (Some xs) (Some ys) bytes held wrote h e f = let same : xs ≡ held = cc in let so : ys ≡ wrote = cc in sym so ∙ h ∙ ap (λ l. l ++ bytes) same

pub account_written : (from old new : Option (List ℕ)) (v x : View) (ending : Ending) (failed : Bool) (undone : Undone) (e : IsExact from old new v x ending failed undone) (held wrote : List ℕ) → old ≡ Some held → new ≡ Some wrote
    → wrote ≡ held ++ bytes_written e
account_written from old new v x ending failed undone e held wrote is so = appended old new (bytes_written e) held wrote e.wrote.3 is so

-- ---- what a site says by lines

abbrev said_up : Option (Up BoardBatch) → Said
said_up (Some up) = SaysUp up
said_up None = Bye

abbrev said_by : Piece → Said
said_by piece = said_up (up_in piece)

said_back : (said : Said) → said_by (said_piece said) ≡ said
said_back (SaysUp up) = ap said_up (up_way up).again
said_back Bye = refl

all_back : (saids : List Said) → map said_by (map said_piece saids) ≡ saids
all_back [] = refl
all_back (s ∷ saids) = ap (λ l. said_by (said_piece s) ∷ l) (all_back saids) ∙ ap (λ x. x ∷ saids) (said_back s)

pub one_hearing : (lines : List Line) (saids others : List Said) (keeper other : Keeper) → HasHeard lines saids keeper → HasHeard lines others other → (saids ≡ others) × (keeper ≡ other)
one_hearing lines saids others keeper other h o =
    let same = one_gathering lines (map said_piece saids) (map said_piece others) keeper.0 other.0 h.0 o.0 in
    let is : saids ≡ others = sym (all_back saids) ∙ ap (λ l. map said_by l) same.0 ∙ all_back others in
    let edits : keeper.1 ≡ other.1 = h.1 ∙ ap (λ l. counted (count_by says_edit l)) is ∙ sym o.1 in
    (is, ap (λ p. (p, keeper.1)) same.1 ∙ ap (λ n. (other.0, n)) edits)

-- How the parts of a session make up the whole.

-- the last line is written once, by the writing half or after it
last_told : (told : Option Ending) (heard : Ending) → told_line told ++ untold_line told heard ≡ last_line (standing told heard) ∷ []
last_told None heard = refl
last_told (Some ending) heard = refl

-- a write that has failed stays so
pub stays_unsent : (site : ℕ) (b q r : Put) (calls : List HubEvent) (unsent : Option SessionFault) (xs ys : List Line) → FetchesAll b.failed calls unsent → PutsLines b xs q → PutsLines q ys r
    → FetchesAll r.failed calls unsent
stays_unsent site b q r calls None xs ys h one two = h
stays_unsent site b q r calls (Some (Hub fault)) xs ys h one two = h
stays_unsent site b q r calls (Some (Stream WriteFailed)) xs ys h one two = (two.stays (one.stays h).0).0
stays_unsent site b q r calls (Some (Stream fault)) xs ys h one two = h
stays_unsent site b q r calls (Some GateShut) xs ys h one two = h
stays_unsent site b q r calls (Some (FarBehind far)) xs ys h one two = h

-- both halves: the pass v is split into v' and t, and the pass u of the writing half is joined again
pub both_halves_so : (site : ℕ) (a b : Sourced) (v v' t u w x : View) (p q r : Put) (heard : Ending) (withheld : Option Untaken) (told : Option Ending) (unsent : Option SessionFault) (ending : Ending)
    → v' ≡ after_split v → t ≡ split_from v → Heard site a v' b w heard withheld → Wrote site t p u q told unsent → x ≡ joined_with w u → ending ≡ standing told heard
    → PutsLines q (untold_line told heard) r → (lines : List Line) × BothHalves site a v x ending r.failed (record { untaken = withheld; unsent = unsent }) lines × PutsLines p lines r
both_halves_so site a b v v' t u w x p q r heard withheld told unsent ending split new hears wrote joined is put =
    let f = wrote.forwards.forwards in let d = wrote.departs in
    let made : u.made ≡ f.calls ++ (d.back.calls ++ d.leaves.calls) =
    d.leaves.made ∙ ap (λ (l : List HubEvent). l ++ d.leaves.calls) (d.back.made ∙ ap (λ (l : List HubEvent). l ++ d.back.calls) (f.made ∙ ap (λ (y : View). y.made ++ f.calls) new))
    ∙ append_assoc f.calls d.back.calls d.leaves.calls in
    let number : u.number ≡ v.splits ∷ v.number = d.leaves.number ∙ d.back.number ∙ f.number ∙ ap (λ (y : View). y.number) new in
    let kept : u.kept ≡ [] = d.leaves.kept ∙ d.back.kept ∙ f.kept ∙ ap (λ (y : View). y.kept) new in
    let last : told_line told ++ untold_line told heard ≡ last_line ending ∷ [] = last_told told heard ∙ ap (λ e. last_line e ∷ []) (sym is) in (
      lines_brought f.calls ++ last_line ending ∷ [],
      record {
        last = b;
        heard = heard;
        read = w;
        hears = subst (λ (y : View). Heard site a y b w heard withheld) split hears;
        told = told;
        fault = wrote.fault;
        ending_is = is;
        fetches = f.calls;
        back = d.back.calls;
        leaves = d.leaves.calls;
        made = ap (λ (y : View). y.made) joined;
        kept = ap (λ (y : View). y.kept) joined
            ∙ ap (λ (n : List ℕ). w.kept ++ tally n u.made ∷ u.kept) number
            ∙ ap (λ (l : List HubEvent). w.kept ++ tally (v.splits ∷ v.number) l ∷ u.kept) made
            ∙ ap (λ (l : List Tally). w.kept ++ tally (v.splits ∷ v.number) (f.calls ++ (d.back.calls ++ d.leaves.calls)) ∷ l) kept;
        alone = f.alone;
        all = stays_unsent site wrote.middle q r f.calls unsent (told_line told) (untold_line told heard) wrote.forwards.all wrote.put put;
        gives_back = d.back.gives;
        departs = d.leaves.alone;
        lines_are = refl;
      },
      subst (λ lines. PutsLines p (lines_brought f.calls ++ lines) r) last
          (puts_more p wrote.middle r (lines_brought f.calls) (told_line told ++ untold_line told heard) f.put
          (puts_more wrote.middle q r (told_line told) (untold_line told heard) wrote.put put)),
    )

-- a session whose site was welcomed
pub served_so : (from : Option (List ℕ)) (site : ℕ) (start greeted : Sourced) (v u x : View) (p q r : Put) (ending : Ending) (undone : Undone) → IsFresh from start
    → ((lines : List Line) × IsWelcomed site start v greeted u lines × PutsLines p lines q)
    → ((lines : List Line) × BothHalves site greeted u x ending r.failed undone lines × PutsLines q lines r)
    → (lines : List Line) × HasLines from v x ending r.failed undone lines × PutsLines p lines r
served_so from site start greeted v u x p q r ending undone fresh one two = (
  one.0 ++ two.0,
  Served start fresh (record {
    site = site;
    greeted = greeted;
    behind = u;
    first = one.0;
    later = two.0;
    welcomed = one.1;
    halves = two.1;
    lines_are = refl;
  }),
  puts_more p q r one.0 two.0 one.2 two.2,
)

-- a session that ended early
pub early_so : (from : Option (List ℕ)) (start last : Sourced) (v x : View) (p r : Put) (ending : Ending) (failed : Bool) (undone : Undone) → undone ≡ all_done → IsFresh from start
    → ((lines : List Line) × EndsEarly start v last x ending failed lines × PutsLines p lines r) → (lines : List Line) × HasLines from v x ending failed undone lines × PutsLines p lines r
early_so from start last v x p r ending failed undone done fresh ends = (ends.0, Early start last fresh ends.1 done, ends.2)

-- what a session wrote
pub exact_so : (from old new : Option (List ℕ)) (well lost : Bool) (v x : View) (p r : Put) (ending : Ending) (failed : Bool) (undone : Undone) → p ≡ fresh_put old well lost → new ≡ r.written → failed ≡ r.failed → IsFlushed r
    → ((lines : List Line) × HasLines from v x ending r.failed undone lines × PutsLines p lines r) → IsExact from old new v x ending failed undone
exact_so from old new well lost v x p r ending failed undone fresh at is flushed has = subst (λ f. IsExact from old new v x ending f undone) (sym is) (record {
  lines = has.0;
  has_lines = has.1;
  wrote = subst (λ o. WritesFront old o (flat_map line_bytes has.0) (not r.failed)) (sym at)
      (written_of old well lost r (flat_map line_bytes has.0) (subst (λ (y : Put). PutsLines y has.0 r) fresh has.2) flushed);
})

-- if there is no room for lines, and the writer passes on what it took
pub passed_on : (old mid new : Option (List ℕ)) (bytes : List ℕ) (whole failed : Bool) → WritesFront old mid bytes whole → Keeps mid new → (IsTrue (not failed) → IsTrue whole)
    → WritesFront old new bytes (not failed)
passed_on old mid new bytes whole failed h kept well = (h.0, h.1, h.2, appends_kept old mid new h.0 h.3 kept, λ e. h.4 (well e))

-- the line of a session that is out of memory
pub error_8 : line_bytes (Error 8) ≡ 101 ∷ 114 ∷ 114 ∷ 111 ∷ 114 ∷ 32 ∷ 56 ∷ 10 ∷ []
error_8 = ap (λ (l : List ℕ). 101 ∷ 114 ∷ 114 ∷ 111 ∷ 114 ∷ 32 ∷ (l ++ 10 ∷ [])) (decimal_digit 8 (omega arith))

pub no_room_so : (from old new : Option (List ℕ)) (v : View) (ending : Ending) (failed : Bool) (undone : Undone) → undone ≡ all_done → ending ≡ ending_of (Stream NoMemory)
    → WritesFront old new (line_bytes (Error 8)) (not failed) → IsExact from old new v v ending failed undone
no_room_so from old new v ending failed undone done is wrote = record {
  lines = last_line ending ∷ [];
  has_lines = NoRoom refl is done refl;
  wrote = subst (λ e. WritesFront old new (flat_map line_bytes (last_line e ∷ [])) (not failed)) (sym is) (subst (λ l. WritesFront old new l (not failed)) (sym (append-nil (line_bytes (Error 8)))) wrote);
}

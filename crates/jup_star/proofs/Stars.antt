-- What each call of a star keeps.
use Rattle.std.proofs.Common.{◌≡◌, sym, subst, ℕ, zero, suc, ◌+◌, ◌<◌, ◌↔◌, Bool, ◌&&◌, List, [], ◌∷◌, length, take, get_or, IsTrue, arith, refl, ◌-◌, ◌≤◌, false, cond, ◌++◌, map, nat_eq, ne_eqb, ◌∙◌, ap, true, Option, Some, None, MatchOption, IfSome, nat_le, Ok, Err, is_none}
use Rattle.std.proofs.lemmas.Bool.{and_from, and_parts, le-leb}
use Rattle.std.proofs.Math.ListN.{set}
use Rattle.std.proofs.lemmas.List.{length-append, length-map, length-set, map-set, length-drop}
use Rattle.jup_star.specs.Prelude.{highest_limit, last_site, most_attached, most_operations, most_ordered, Side, Client, Server, row_operation, past, opposite, Msg, IsCount, EndLink, generated, owes, unheard, Widget, Text, Labels, BoardBatch, boards, board_batches, batch_laws, BoardEdits, accepts, Up, StarFault, NoMemory, NoLink, BadOp, Take, Fetch, Leave, Op}
use Rattle.jup_xform.specs.Batches.{before_last}
use Rattle.jup_link.specs.Laws.Steps.{small_next}
use Rattle.jup_window.specs.Entries.{Each, EachWidget}
use Rattle.jup_window.specs.Widgets as widget
use Rattle.jup_window.specs.Boards as one
use Rattle.jup_batch.specs.Boards as board
use Rattle.jup_star.specs.declared.link.Link.{Link}
use Rattle.jup_star.specs.declared.calls.StarReply.TheVariants.{Taken, Fetched, Left}
use Rattle.jup_star.specs.Orders.{OrderState, with_entry}
use Rattle.jup_star.specs.Stars.{IsShort, most_batches, is_of, opened_link, link_sent, link_heard, IsNew, AreApart, IsBounded, AreBounded, entry, links_after, new_star, taken_edit, left, with_links, joined, BoardLink, BoardStar, IsStar, IsPlace, link_acked, link_ponged, link_fetched, link_of, without, at_link, CanHear, IsHeardBy, bare_link, up_fault, taken, place_taken, fetched, Answers, reply_of, star_after, asks_memory, is_no_memory, take_asks, fetch_asks, end_after, operation_at, AllCount, early_fault}
use Rattle.jup_star.proofs.LinkChanges.{below_at, of_at, bounded_at, bounded_set, bounded_without, apart_without, apart_set, apart_map, length_without, set_place, heard_bounded, send_bounded, cond_site, set_at_link, without_set, found_at, paid_generated, received_generated, found_some}
use Rattle.jup_star.proofs.FaultTests as tests

-- Boards of which each sequence is short, and what is known of an opening.

module _ {A : Type 0} (P : A → Type 0) where
  -- one more entry
  each_more : (es : List (ℕ × A)) (n : ℕ) (d : ℕ × A) → n < length es → Each P (take n es) → P (get_or es n d).1 → Each P (take (suc n) es)
  each_more [] n d below all one = absurd (omega arith)
  each_more (e ∷ es) zero d below all one = (one, tt)
  each_more (e ∷ es) (suc n) d below all one = (all.0, each_more es n d (omega arith) all.1 one)

  each_fewer : (es : List (ℕ × A)) (n : ℕ) (d : ℕ × A) → n < length es → Each P (take (suc n) es) → Each P (take n es) × P (get_or es n d).1
  each_fewer [] n d below all = absurd (omega arith)
  each_fewer (e ∷ es) zero d below all = (tt, all.0)
  each_fewer (e ∷ es) (suc n) d below all = let rest = each_fewer es n d (omega arith) all.1 in ((all.0, rest.0), rest.1)

-- a test of the entries so far, and what is so of each, with one more entry
pub one_more : {A : Type 0} (P Q : A → Type 0) (es : List (ℕ × A)) (n : ℕ) (e : ℕ × A) (old fits : Bool) → n < length es → e ≡ get_or es n e
    → (IsTrue old ↔ Each P (take n es)) × Each Q (take n es) → (IsTrue fits ↔ P e.1) → Q e.1
    → (IsTrue (old && fits) ↔ Each P (take (n + 1) es)) × Each Q (take (n + 1) es)
one_more {A = A} P Q es n e old fits below is known test holds =
    let next : suc n ≡ n + 1 = omega arith in
    subst (λ k. (IsTrue (old && fits) ↔ Each P (take k es)) × Each Q (take k es)) next (
      (
        λ both. let two = and_parts old fits both in each_more P es n e below (known.0.0 two.0) (subst (λ (x : ℕ × A). P x.1) is (test.0 two.1)),
        λ all. let two = each_fewer P es n e below all in and_from old fits (known.0.1 two.0) (test.1 (subst (λ (x : ℕ × A). P x.1) (sym is) two.1)),
      ),
      each_more Q es n e below known.1 (subst (λ (x : ℕ × A). Q x.1) is holds),
    )

-- # Without the room

bare_short : (w : Widget) → IsShort w → IsShort (widget.bare w)
bare_short (Text x) short = short
bare_short (Labels x) short = short
bare_short other short = tt

bare_distinct : (w : Widget) → widget.HasDistinctNames w → widget.HasDistinctNames (widget.bare w)
bare_distinct (Text x) distinct = distinct
bare_distinct (Labels x) distinct = distinct
bare_distinct other distinct = tt

bare_each : (P : Widget → Type 0) → ((w : Widget) → P w → P (widget.bare w)) → (ws : List (ℕ × Widget)) → Each P ws → Each P (one.bare_widgets ws)
bare_each P keeps [] all = tt
bare_each P keeps (e ∷ es) all = (keeps e.1 all.0, bare_each P keeps es all.1)

bare_every : (P : Widget → Type 0) → ((w : Widget) → P w → P (widget.bare w)) → (b : one.Windows) → EachWidget P b → EachWidget P (one.bare b)
bare_every P keeps [] all = tt
bare_every P keeps (e ∷ es) all = (bare_each P keeps e.1 all.0, bare_every P keeps es all.1)

pub short_bare : (b : one.Windows) → EachWidget IsShort b → EachWidget IsShort (one.bare b)
short_bare b short = bare_every IsShort bare_short b short

pub distinct_bare : (b : one.Windows) → one.HasDistinctNames b → one.HasDistinctNames (one.bare b)
distinct_bare b distinct = bare_every widget.HasDistinctNames bare_distinct b distinct

-- # Room

-- what is so of each entry, and gives another thing, gives it of each
each_map : {A : Type 0} (P Q : A → Type 0) → ((x : A) → P x → Q x) → (es : List (ℕ × A)) → Each P es → Each Q es
each_map P Q f [] h = tt
each_map P Q f (e ∷ es) h = (f e.1 h.0, each_map P Q f es h.1)

-- a widget of at most 65,536 items has room for all that a star adds
short_small : (w : Widget) → IsShort w → widget.IsSmall (before_last most_batches) w
short_small (Text x) short = omega arith
short_small (Labels x) short = omega arith
short_small other short = tt

-- and so has a board of such widgets
pub board_small : (b : one.Windows) → EachWidget IsShort b → one.IsSmall (before_last most_batches) b
board_small b short = each_map _ _ (λ ws. each_map IsShort (widget.IsSmall (before_last most_batches)) short_small ws) b short

-- What of every star each call keeps.

-- a star that is opened
pub opened : (keeps : Bool) (b : board.Windows) (limit : ℕ) → limit ≤ highest_limit → EachWidget IsShort b → IsStar (new_star keeps (board.bare b) limit)
opened keeps b limit low short = record {
  limited = low;
  counted = omega arith;
  given = omega arith;
  few = omega arith;
  bounded = tt;
  apart = tt;
  short = board_small (board.bare b) (short_bare b short);
}

-- every star keeps what holds of it
pub left_star : (i : ℕ) (s : BoardStar) → IsStar s → IsStar (left i s)
left_star i s star = record {
  limited = star.limited;
  counted = star.counted;
  given = star.given;
  few = let h = star.few in omega (arith, length_without i s.links);
  bounded = bounded_without i _ _ s.links star.bounded;
  apart = apart_without i s.links star.apart;
  short = star.short;
}

-- a link is changed, and its site and bounds stay
pub set_star : (s : BoardStar) (at : ℕ) (d new : BoardLink) → at < length s.links → new.site ≡ (get_or s.links at d).site
    → IsBounded s.given (length s.order) new → IsStar s → IsStar (with_links s (set s.links at new))
set_star s at d new below same bounded star = record {
  limited = star.limited;
  counted = star.counted;
  given = star.given;
  few = let h = star.few in simp length-set (omega arith);
  bounded = bounded_set _ _ s.links at new bounded star.bounded;
  apart = apart_set s.links at d new below same star.apart;
  short = star.short;
}

pub taken_star : (i at : ℕ) (m : Msg BoardBatch) (op : BoardBatch) (s : BoardStar) (d : BoardLink) → IsPlace i s.links at
    → length s.order < s.limit → IsCount (get_or s.links at d).end m.heard → length m.op ≤ most_operations → board.IsValid op s.board → IsStar s → IsStar (taken_edit board_batches i m op s)
taken_star i at m op s d place room count few valid star =
    let below = below_at i s.links at place in
    let new : BoardLink = link_heard board_batches m (get_or s.links at d) in
    let bounded = heard_bounded s.given (length s.order) m (get_or s.links at d) count few (bounded_at _ _ s.links at d below star.bounded) in
    let send : BoardLink → BoardLink = λ k. cond (is_of i k) k (link_sent op k) in
    let same : map send (set s.links at new) ≡ links_after board_batches i m op s.links = set_place (link_heard board_batches m) (link_sent op) i s.links at d new star.apart place refl (of_at i s.links at d place) in
    let P : List BoardLink → Type 0 = λ ls. (length ls ≤ most_attached) × (AreBounded s.given (length s.order + 1) ls) × AreApart ls in
    let all : P (links_after board_batches i m op s.links) = subst P same (
      (let h = star.few in simp (length-map, length-set) (omega arith)),
      send_bounded i _ _ op s.links at new place (of_at i s.links at d place) bounded star.bounded,
      apart_map send (λ k. cond_site k (link_sent op k) (is_of i k) refl) (set s.links at new) (apart_set s.links at d new below refl star.apart),
    ) in
    record {
      limited = star.limited;
      counted = simp length-append (omega arith);
      given = star.given;
      few = all.0;
      bounded = simp length-append all.1;
      apart = all.2;
      short = small_next boards batch_laws.lawful (most_batches - length s.order) _ s.board op
          (let limited = star.limited in omega (arith, length-append s.order (entry board_batches i m ∷ []))) star.short valid;
    }

new_end : (j i : ℕ) (ls : List BoardLink) (new : BoardLink) → is_of j new ≡ false → IsNew j ls → IsNew j (ls ++ new ∷ [])
new_end j i [] new other fresh = (other, tt)
new_end j i (l ∷ ls) new other fresh = (fresh.0, new_end j i ls new other fresh.1)

differs : (i j : ℕ) → j < i → nat_eq i j ≡ false
differs i j less = ne_eqb i j (λ (same : i ≡ j). omega arith)

apart_end : (a n : ℕ) (ls : List BoardLink) (new : BoardLink) → a < new.site → AreBounded a n ls → AreApart ls → AreApart (ls ++ new ∷ [])
apart_end a n [] new above all apart = (tt, tt)
apart_end a n (l ∷ ls) new above all apart =
    let given = all.0.given in
    (new_end l.site 0 ls new (differs new.site l.site (omega arith)) apart.0, apart_end a n ls new above all.1 apart.1)

bounded_end : (a n : ℕ) (ls : List BoardLink) (new : BoardLink) → IsBounded (a + 1) n new → AreBounded a n ls → AreBounded (a + 1) n (ls ++ new ∷ [])
bounded_end a n [] new one all = (one, tt)
bounded_end a n (l ∷ ls) new one all =
    (record { given = (let given = all.0.given in omega arith); sent = all.0.sent; insertions = all.0.insertions }, bounded_end a n ls new one all.1)

pub joined_star : (s : BoardStar) → length s.links < most_attached → s.given < last_site → IsStar s → IsStar (joined s)
joined_star s few given star = record {
  limited = star.limited;
  counted = star.counted;
  given = omega arith;
  few = simp length-append (omega arith);
  bounded = bounded_end s.given (length s.order) s.links (opened_link (s.given + 1)) (record { given = omega arith; sent = omega arith; insertions = omega arith }) star.bounded;
  apart = apart_end s.given (length s.order) s.links (opened_link (s.given + 1)) (omega arith) star.bounded star.apart;
  short = star.short;
}

-- A change of one link, at its place in the list that the star holds.

pub get_plain : (ls : List Link) (at : ℕ) (d : Link) → get_or (map bare_link ls) at (bare_link d) ≡ bare_link (get_or ls at d)
get_plain [] at d = refl
get_plain (l ∷ ls) zero d = refl
get_plain (l ∷ ls) (suc at) d = get_plain ls at d

pub place_found : (i : ℕ) (ls : List Link) (at : ℕ) (d : Link) → IsPlace i (map bare_link ls) at → link_of i (map bare_link ls) ≡ Some (bare_link (get_or ls at d))
place_found i ls at d place = found_at i (map bare_link ls) at (bare_link d) place ∙ ap (λ (l : BoardLink). Some l) (get_plain ls at d)

pub place_below : (i : ℕ) (ls : List Link) (at : ℕ) → IsPlace i (map bare_link ls) at → at < length ls
place_below i ls at place = let below = below_at i (map bare_link ls) at place in rw length-map at below

pub changed : (f : BoardLink → BoardLink) (i : ℕ) (ls : List Link) (at : ℕ) (d new : Link) → AreApart (map bare_link ls) → IsPlace i (map bare_link ls) at
    → bare_link new ≡ f (bare_link (get_or ls at d)) → map bare_link (set ls at new) ≡ at_link i f (map bare_link ls)
changed f i ls at d new apart place made = map-set bare_link ls at new ∙ set_at_link f i (map bare_link ls) at (bare_link d) (bare_link new) apart place (made ∙ ap f (sym (get_plain ls at d)))

pub changed_star : (f : BoardLink → BoardLink) (s : BoardStar) (i : ℕ) (ls : List Link) (at : ℕ) (d new : Link) → IsPlace i (map bare_link ls) at
    → bare_link new ≡ f (bare_link (get_or ls at d)) → ((l : BoardLink) → (f l).site ≡ l.site)
    → (IsBounded s.given (length s.order) (bare_link (get_or ls at d)) → IsBounded s.given (length s.order) (f (bare_link (get_or ls at d))))
    → IsStar (with_links s (map bare_link ls)) → IsStar (with_links s (map bare_link (set ls at new)))
changed_star f s i ls at d new place made site bounds star =
    let below = below_at i (map bare_link ls) at place in
    let held : IsBounded s.given (length s.order) (get_or (map bare_link ls) at (bare_link d)) = bounded_at _ _ (map bare_link ls) at (bare_link d) below star.bounded in
    let P : BoardLink → Type 0 = λ l. IsBounded s.given (length s.order) l in
    let Q : List BoardLink → Type 0 = λ xs. IsStar (with_links s xs) in
    let bounded : IsBounded s.given (length s.order) (bare_link new) = subst P (sym made) (bounds (subst P (get_plain ls at d) held)) in
    let same : (bare_link new).site ≡ (get_or (map bare_link ls) at (bare_link d)).site = ap (λ (l : BoardLink). l.site) made ∙ site (bare_link (get_or ls at d)) ∙ ap (λ (l : BoardLink). l.site) (sym (get_plain ls at d)) in
    subst Q (sym (map-set bare_link ls at new)) (set_star (with_links s (map bare_link ls)) at (bare_link d) (bare_link new) below same bounded star)

pub ponged_bounded : (k a n : ℕ) (l : BoardLink) → IsBounded a n l → IsBounded a n (link_ponged k l)
ponged_bounded k a n l b = record { given = b.given; sent = b.sent; insertions = b.insertions }

pub fetched_bounded : (k a n : ℕ) (l : BoardLink) → IsBounded a n l → IsBounded a n (link_fetched k l)
fetched_bounded k a n l b = record { given = b.given; sent = b.sent; insertions = b.insertions }

pub acked_bounded : (k a n : ℕ) (l : BoardLink) → IsCount l.end k → IsBounded a n l → IsBounded a n (link_acked k l)
acked_bounded k a n l count b = record {
  given = b.given;
  sent = let low = count.low in let high = count.high in let sent = b.sent in omega (arith, length-drop (k - l.end.acknowledged) l.end.outgoing);
  insertions = b.insertions;
}

-- the link was changed, and is then dropped
pub dropped : (i : ℕ) (ls : List Link) (at : ℕ) (d new : Link) → IsPlace i (map bare_link ls) at → new.site ≡ (get_or ls at d).site
    → without i (map bare_link (set ls at new)) ≡ without i (map bare_link ls)
dropped i ls at d new place same =
    let of : is_of i (get_or (map bare_link ls) at (bare_link d)) ≡ true = of_at i (map bare_link ls) at (bare_link d) place in
    let site : (bare_link new).site ≡ (get_or (map bare_link ls) at (bare_link d)).site = same ∙ ap (λ (l : BoardLink). l.site) (sym (get_plain ls at d)) in
    let P : ℕ → Type 0 = λ n. nat_eq n i ≡ true in
    ap (without i) (map-set bare_link ls at new) ∙ without_set i (map bare_link ls) at (bare_link new) place (subst P (sym site) of)

pub all_below : (i : ℕ) (ls : List Link) (r : Option ℕ) → MatchOption r (IsNew i (map bare_link ls)) (λ at. IsPlace i (map bare_link ls) at) → IfSome r (λ at. at < length ls)
all_below i ls None place = tt
all_below i ls (Some at) place = place_below i ls at place

pub place_of_site : (i : ℕ) (ls : List Link) (at : ℕ) (d : Link) → IsPlace i (map bare_link ls) at → is_of i (bare_link (get_or ls at d)) ≡ true
place_of_site i ls at d place = let P : BoardLink → Type 0 = λ l. is_of i l ≡ true in subst P (get_plain ls at d) (of_at i (map bare_link ls) at (bare_link d) place)

some_is : (x y : BoardLink) → Some x ≡ Some y → x ≡ y
some_is x y e = cc

pub found_is : (i : ℕ) (ls : List Link) (at : ℕ) (d : Link) (l : BoardLink) → IsPlace i (map bare_link ls) at → link_of i (map bare_link ls) ≡ Some l → bare_link (get_or ls at d) ≡ l
found_is i ls at d l place found = some_is _ _ (sym (place_found i ls at d place) ∙ found)

-- the link at the place of a site can hear what that site's link can
pub can_hear : (i at : ℕ) (m : Msg BoardBatch) (ls : List Link) (d l : Link) → l ≡ get_or ls at d → IsPlace i (map bare_link ls) at → IsHeardBy i m (map bare_link ls)
    → CanHear m (bare_link l)
can_hear i at m ls d l is place heard =
    let P : Link → Type 0 = λ k. CanHear m (bare_link k) in subst P (sym is) (heard (bare_link (get_or ls at d)) (place_found i ls at d place))

-- What each call answers and leaves, by cases over the link of its site and the first fault.

pub take_no_link : (i : ℕ) (up : Up BoardBatch) (s : BoardStar) → link_of i s.links ≡ None → Answers (Take i up) s s (Taken (Err NoLink))
unfolding reply_of star_after
take_no_link i up s none = rw none (refl, refl)

pub take_taken : (i : ℕ) (up : Up BoardBatch) (s t : BoardStar) (l : BoardLink) → link_of i s.links ≡ Some l → up_fault board_batches s l up ≡ None
    → t ≡ taken board_batches i up l s → Answers (Take i up) s t (Taken (Ok (place_taken board_batches s up)))
unfolding reply_of star_after
take_taken i up s t l found fault is = rw (found, fault) (refl, is)

pub take_detached : (i : ℕ) (up : Up BoardBatch) (s t : BoardStar) (l : BoardLink) (e : StarFault) → link_of i s.links ≡ Some l → up_fault board_batches s l up ≡ Some e
    → is_no_memory e ≡ false → t ≡ left i s → Answers (Take i up) s t (Taken (Err e))
unfolding reply_of star_after
take_detached i up s t l e found fault other is = rw (found, fault, other) (refl, is)

pub take_asks_memory : (i : ℕ) (up : Up BoardBatch) (s t : BoardStar) (l : BoardLink) → link_of i s.links ≡ Some l → take_asks s up (Some l) ≡ true → t ≡ s
    → Answers (Take i up) s t (Taken (Err NoMemory))
unfolding asks_memory
take_asks_memory i up s t l found asks is = (is, ap (take_asks s up) found ∙ asks)

pub fetch_no_link : (i max : ℕ) (s : BoardStar) → link_of i s.links ≡ None → Answers (Fetch i max) s s (Fetched (Err NoLink))
unfolding reply_of star_after
fetch_no_link i max s none = rw none (refl, refl)

pub fetch_fetched : (i max : ℕ) (s t : BoardStar) (l : BoardLink) → link_of i s.links ≡ Some l → t ≡ fetched i max s
    → Answers (Fetch i max) s t (Fetched (Ok (take max l.outbox)))
unfolding reply_of star_after
fetch_fetched i max s t l found is = rw found (refl, is)

-- a fetch that takes a message out may be refused for memory
pub fetch_asks_memory : (i max : ℕ) (s t : BoardStar) (l : BoardLink) → link_of i s.links ≡ Some l → (1 ≤ max) × (1 ≤ length l.outbox) → t ≡ s
    → Answers (Fetch i max) s t (Fetched (Err NoMemory))
unfolding asks_memory
fetch_asks_memory i max s t l found some is =
    (is, ap (fetch_asks max) found ∙ and_from (nat_le 1 max) (nat_le 1 (length l.outbox)) (le-leb 1 max some.0) (le-leb 1 (length l.outbox) some.1))

pub leave_no_link : (i : ℕ) (s : BoardStar) → link_of i s.links ≡ None → Answers (Leave i) s s (Left (Err NoLink))
unfolding reply_of star_after
leave_no_link i s none = rw none (refl, refl)

pub leave_left : (i : ℕ) (s t : BoardStar) (l : BoardLink) → link_of i s.links ≡ Some l → t ≡ left i s → Answers (Leave i) s t (Left (Ok tt))
unfolding reply_of star_after
leave_left i s t l found is = rw found (refl, is)

-- What taking an edit rests on, over plain lists.

-- an operation that was given room has it past any others
room_past : (side : Side) (x : board.Windows) (o e : BoardBatch) → board.HasRoom o 0 x → board.HasRoom (past boards side o e) 0 x
room_past Client x o e room = board.room_client 0 x o e room
room_past Server x o e room = board.room_server 0 x o e room

room_row : (side : Side) (x : board.Windows) (o : BoardBatch) (es : List BoardBatch) → board.HasRoom o 0 x → board.HasRoom (row_operation (past boards side) o es) 0 x
room_row side x o [] room = room
room_row side x o (e ∷ es) room = room_row side x (past boards side o e) es (room_past side x o e room)

pub room_operation : (x : board.Windows) (e : EndLink BoardBatch) (m : Msg BoardBatch) → board.HasRoom m.op 0 x → board.HasRoom (operation_at board_batches e m) 0 x
room_operation x e m room = room_row (opposite e.side) x m.op (unheard e m.heard) room

-- and its shape and its length
shape_past : (side : Side) (o e : BoardBatch) → board.shape (past boards side o e) ≡ board.shape o
shape_past Client o e = board.shape_client o e
shape_past Server o e = board.shape_server o e

shape_row : (side : Side) (o : BoardBatch) (es : List BoardBatch) → board.shape (row_operation (past boards side) o es) ≡ board.shape o
shape_row side o [] = refl
shape_row side o (e ∷ es) = shape_row side (past boards side o e) es ∙ shape_past side o e

pub shape_operation : (e : EndLink BoardBatch) (m : Msg BoardBatch) → board.shape (operation_at board_batches e m) ≡ board.shape m.op
shape_operation e m = shape_row (opposite e.side) m.op (unheard e m.heard)

length_past : (side : Side) (o e : BoardBatch) → length (past boards side o e) ≡ length o
length_past Client o e = board.length_client o e
length_past Server o e = board.length_server o e

length_row : (side : Side) (o : BoardBatch) (es : List BoardBatch) → length (row_operation (past boards side) o es) ≡ length o
length_row side o [] = refl
length_row side o (e ∷ es) = length_row side (past boards side o e) es ∙ length_past side o e

pub length_operation : (e : EndLink BoardBatch) (m : Msg BoardBatch) → length (operation_at board_batches e m) ≡ length m.op
length_operation e m = length_row (opposite e.side) m.op (unheard e m.heard)

some_same : (x y : BoardLink) → Some x ≡ Some y → x ≡ y
some_same x y e = cc

pub found_get : (i : ℕ) (ls : List BoardLink) (at : ℕ) (l : BoardLink) → IsPlace i ls at → link_of i ls ≡ Some l → get_or ls at l ≡ l
found_get i ls at l place found = some_same _ _ (sym (found_at i ls at l place) ∙ found)

pub found_of : (i : ℕ) (ls : List BoardLink) (at : ℕ) (l : BoardLink) → IsPlace i ls at → link_of i ls ≡ Some l → is_of i l ≡ true
found_of i ls at l place found = let P : BoardLink → Type 0 = λ x. is_of i x ≡ true in subst P (found_get i ls at l place found) (of_at i ls at l place)

counted_get : (ls : List BoardLink) (at : ℕ) (d : BoardLink) → generated d.end < 4294967295 → AllCount ls → generated (get_or ls at d).end < 4294967295
counted_get [] at d own all = own
counted_get (l ∷ ls) zero d own all = all.0
counted_get (l ∷ ls) (suc at) d own all = counted_get ls at d own all.1

counted_set : (ls : List BoardLink) (at : ℕ) (new : BoardLink) → generated new.end < 4294967295 → AllCount ls → AllCount (set ls at new)
counted_set [] at new own all = tt
counted_set (l ∷ ls) zero new own all = (own, all.1)
counted_set (l ∷ ls) (suc at) new own all = (all.0, counted_set ls at new own all.1)

counted_place : (i : ℕ) (ls : List BoardLink) (at : ℕ) (d : BoardLink) → IsPlace i ls at → AllCount ls → generated (get_or ls at d).end < 4294967295
counted_place i [] at d place all = absurd place
counted_place i (l ∷ ls) zero d place all = all.0
counted_place i (l ∷ ls) (suc at) d place all = counted_place i ls at d place.1 all.1

pub counted_heard : (i : ℕ) (ls : List BoardLink) (at : ℕ) (l : BoardLink) (m : Msg BoardBatch) → IsPlace i ls at → link_of i ls ≡ Some l → IsCount l.end m.heard
    → AllCount ls → AllCount (set ls at (link_heard board_batches m l))
counted_heard i ls at l m place found count all =
    let P : BoardLink → Type 0 = λ x. generated x.end < 4294967295 in
    let own : generated l.end < 4294967295 = subst P (found_get i ls at l place found) (counted_place i ls at l place all) in
    let answered = paid_generated (end_after board_batches l.end m) (owes (end_after board_batches l.end m).unanswered) in
    let less = received_generated l.end m count in
    counted_set ls at (link_heard board_batches m l) (omega arith) all

pub all_after : (i : ℕ) (ls : List BoardLink) (at : ℕ) (l : BoardLink) (m : Msg BoardBatch) (op : BoardBatch) → AreApart ls → IsPlace i ls at → link_of i ls ≡ Some l
    → map (λ k. cond (is_of i k) k (link_sent op k)) (set ls at (link_heard board_batches m l)) ≡ links_after board_batches i m op ls
all_after i ls at l m op apart place found = set_place (link_heard board_batches m) (link_sent op) i ls at l (link_heard board_batches m l) apart place (ap (link_heard board_batches m) (sym (found_get i ls at l place found))) (found_of i ls at l place found)

pub counted_all : (a n : ℕ) (ls : List BoardLink) → n < 4294967295 → AreBounded a n ls → AllCount ls
counted_all a n [] few all = tt
counted_all a n (l ∷ ls) few all = ((let sent = all.0.sent in omega arith), counted_all a n ls few all.1)

-- How a star takes an edit: each way that the call ends.

-- a star with another board, links and order
abbrev pub star_with : BoardStar → board.Windows → List BoardLink → OrderState BoardEdits → BoardStar
star_with s b ls o = record s { board = b; links = ls; order = o.entries; keeps = o.keeps }

-- the order of a star
abbrev pub state : BoardStar → OrderState BoardEdits
state s = record { entries = s.order; keeps = s.keeps }

-- what was checked at the place of a link holds of that link
pub checked : (i at limit count n : ℕ) (ls : List Link) (here : Link) (l : BoardLink) (m : Msg BoardBatch) (r : Option StarFault) → IsPlace i (map bare_link ls) at
    → here ≡ get_or ls at here → count ≡ n → link_of i (map bare_link ls) ≡ Some l
    → r ≡ early_fault board_batches limit count (bare_link here) m → r ≡ early_fault board_batches limit n l m
checked i at limit count n ls here l m r place is same found check =
    check ∙ ap (λ (k : ℕ). early_fault board_batches limit k (bare_link here) m) same
    ∙ ap (λ (k : Link). early_fault board_batches limit n (bare_link k) m) is
    ∙ ap (λ (k : BoardLink). early_fault board_batches limit n k m) (found_is i ls at here l place found)

-- an edit has a fault before memory is asked for
pub edit_detached : (s : BoardStar) (i : ℕ) (m : Msg BoardBatch) (l : BoardLink) (e : StarFault) (ls : List BoardLink) → link_of i s.links ≡ Some l
    → Some e ≡ early_fault board_batches s.limit (length s.order) l m → ls ≡ without i s.links
    → Answers (Take i (Op m)) s (with_links s ls) (Taken (Err e))
edit_detached s i m l e ls found early links =
    take_detached i (Op m) s _ l e found (tests.up_early s l m e (sym early)) (tests.early_not_memory s.limit (length s.order) l m e early) (ap (with_links s) links)

-- an allocation failed
pub edit_waits : (s : BoardStar) (i : ℕ) (m : Msg BoardBatch) (l : BoardLink) (b : board.Windows) (ls : List BoardLink) (o : OrderState BoardEdits) → link_of i s.links ≡ Some l
    → None ≡ early_fault board_batches s.limit (length s.order) l m → b ≡ s.board → ls ≡ s.links → o ≡ state s
    → Answers (Take i (Op m)) s (star_with s b ls o) (Taken (Err NoMemory))
edit_waits s i m l b ls o found early board links order =
    take_asks_memory i (Op m) s _ l found (ap (λ (f : Option StarFault). is_none f) (sym early)) (rw (board, links, order) refl)

pub waits_star : (s : BoardStar) (b : board.Windows) (ls : List BoardLink) (o : OrderState BoardEdits) → IsStar s → b ≡ s.board → ls ≡ s.links → o ≡ state s
    → IsStar (star_with s b ls o)
waits_star s b ls o star board links order = rw (board, links, order) star

-- its operation does not fit the board
left_with : (s : BoardStar) (i : ℕ) (b : board.Windows) (ls : List BoardLink) (o : OrderState BoardEdits) → b ≡ s.board → ls ≡ without i s.links → o ≡ state s
    → star_with s b ls o ≡ left i s
left_with s i b ls o board links order = rw (board, links, order) refl

pub edit_misfits : (s : BoardStar) (i : ℕ) (m n : Msg BoardBatch) → m ≡ n → (l : BoardLink) (b : board.Windows) (ls : List BoardLink) (o : OrderState BoardEdits) → link_of i s.links ≡ Some l
    → None ≡ early_fault board_batches s.limit (length s.order) l m → accepts (operation_at board_batches l.end m) s.board ≡ false
    → b ≡ s.board → ls ≡ without i s.links → o ≡ state s
    → Answers (Take i (Op n)) s (star_with s b ls o) (Taken (Err BadOp))
edit_misfits s i m n told l b ls o found early misfits board links order =
    subst (λ x. Answers (Take i (Op x)) s (star_with s b ls o) (Taken (Err BadOp))) told (take_detached i (Op m) s _ l BadOp found (tests.up_late s l m false (sym early) misfits) refl (left_with s i b ls o board links order))

pub misfits_star : (s : BoardStar) (i : ℕ) (b : board.Windows) (ls : List BoardLink) (o : OrderState BoardEdits) → IsStar s → b ≡ s.board → ls ≡ without i s.links → o ≡ state s
    → IsStar (star_with s b ls o)
misfits_star s i b ls o star board links order = subst IsStar (sym (left_with s i b ls o board links order)) (left_star i s star)

-- it is taken
taken_with : (s : BoardStar) (i : ℕ) (m : Msg BoardBatch) (op : BoardBatch) (b : board.Windows) (ls : List BoardLink) (o : OrderState BoardEdits)
    → b ≡ board.after op s.board → ls ≡ links_after board_batches i m op s.links → o ≡ with_entry (entry board_batches i m) (state s)
    → star_with s b ls o ≡ taken_edit board_batches i m op s
taken_with s i m op b ls o board links order = rw (board, links, order) refl

pub edit_taken : (s : BoardStar) (i : ℕ) (m n : Msg BoardBatch) → m ≡ n → (l : BoardLink) (b : board.Windows) (ls : List BoardLink) (o : OrderState BoardEdits) → link_of i s.links ≡ Some l
    → None ≡ early_fault board_batches s.limit (length s.order) l m → accepts (operation_at board_batches l.end m) s.board ≡ true
    → b ≡ board.after (operation_at board_batches l.end m) s.board → ls ≡ links_after board_batches i m (operation_at board_batches l.end m) s.links
    → o ≡ with_entry (entry board_batches i m) (state s)
    → Answers (Take i (Op n)) s (star_with s b ls o) (Taken (Ok (Some (length s.order))))
edit_taken s i m n told l b ls o found early fits board links order =
    subst (λ x. Answers (Take i (Op x)) s (star_with s b ls o) (Taken (Ok (Some (length s.order))))) told (take_taken i (Op m) s _ l found (tests.up_late s l m true (sym early) fits) (taken_with s i m (operation_at board_batches l.end m) b ls o board links order))

pub edit_star : (s : BoardStar) (i at : ℕ) (m : Msg BoardBatch) (l : BoardLink) (b : board.Windows) (ls : List BoardLink) (o : OrderState BoardEdits) → IsStar s → IsPlace i s.links at
    → link_of i s.links ≡ Some l → None ≡ early_fault board_batches s.limit (length s.order) l m → accepts (operation_at board_batches l.end m) s.board ≡ true
    → b ≡ board.after (operation_at board_batches l.end m) s.board → ls ≡ links_after board_batches i m (operation_at board_batches l.end m) s.links
    → o ≡ with_entry (entry board_batches i m) (state s)
    → IsStar (star_with s b ls o)
edit_star s i at m l b ls o star place found early fits board links order =
    let P : BoardLink → Type 0 = λ k. IsCount k.end m.heard in
    let count = subst P (sym (found_get i s.links at l place found)) (tests.early_count s.limit (length s.order) l m (sym early)) in
    let valid = (batch_laws.decides (operation_at board_batches l.end m) s.board).0 fits in
    let few : length m.op ≤ most_operations = rw length_operation at valid.few in
    subst IsStar (sym (taken_with s i m (operation_at board_batches l.end m) b ls o board links order))
    (taken_star i at m (operation_at board_batches l.end m) s l place (tests.early_room s.limit (length s.order) l m (sym early)) count few valid star)

-- the link of the site can hear an edit without an early fault
pub heard_by : (s : BoardStar) (i at : ℕ) (m : Msg BoardBatch) (l : BoardLink) → IsStar s → IsPlace i s.links at → link_of i s.links ≡ Some l
    → None ≡ early_fault board_batches s.limit (length s.order) l m → CanHear m l
heard_by s i at m l star place found early =
    let P : BoardLink → Type 0 = λ k. IsBounded s.given (length s.order) k in
    let bounded = subst P (found_get i s.links at l place found) (bounded_at _ _ s.links at l (below_at i s.links at place) star.bounded) in
    let named = bounded.insertions in let counted = star.counted in let limited = star.limited in
    record { number = tests.early_number _ _ l m (sym early); count = tests.early_count _ _ l m (sym early); named = omega arith }

-- no link has sent too much
pub all_count : (s : BoardStar) → IsStar s → AllCount s.links
all_count s star = let counted = star.counted in let limited = star.limited in counted_all s.given (length s.order) s.links (omega arith) star.bounded

-- a link of a star has named no more items than can be counted
pub named_few : (a n i at : ℕ) (ls : List Link) (here : Link) → n ≤ highest_limit → AreBounded a n (map bare_link ls) → IsPlace i (map bare_link ls) at → here ≡ get_or ls at here
    → here.named ≤ most_ordered
named_few a n i at ls here low all place is =
    let found = found_some i (map bare_link ls) at place in
    let P : BoardLink → Type 0 = λ k. IsBounded a n k in
    let bounded : P found.0 = subst P (found_get i (map bare_link ls) at found.0 place found.1) (bounded_at a n (map bare_link ls) at found.0 (below_at i (map bare_link ls) at place) all) in
    let same : bare_link here ≡ found.0 = ap bare_link is ∙ found_is i ls at here found.0 place found.1 in
    let Q : BoardLink → Type 0 = λ k. k.named ≤ most_ordered in
    let few : Q found.0 = (let named = bounded.insertions in omega (arith, named, low)) in
    subst Q (sym same) few

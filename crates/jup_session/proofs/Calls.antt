-- The calls of a session, part by part.
use Rattle.std.proofs.Common.{◌≡◌, ℕ, ◌⊎◌, inl, inr, Bool, true, false, List, [], ◌∷◌, ◌++◌, length, length-append, ◌+◌, ◌<◌, ◌≤◌, max, take, get_or, arith, slice_get, zero, suc, Option, Some, None, Result, Ok, Err, MatchBool, refl, sym, ap, ◌∙◌, subst, append_assoc, append-nil, flat_map, true≢false, IsTrue, ◌≢◌, IsOk, is_ok}
use Rattle.std.proofs.lemmas.List.Concat.{flat_map-append}
use Rattle.jup_wire.proofs.Streams.{take_one_more}
use Rattle.jup_session.specs.Prelude.{BoardBatch, Up, Joined as JoinedSite, NoLink, Call, Join, Take, Fetch, Leave, StarReply, JoinedReply, Taken, Fetched, Down, BoardStar, bare_joined, Line, Hello, HubFault, HubEvent, Tally, View, Made, Ending, Incoming, Ring, Stream, StreamFault, WriteFailed, Misplaced, NoMemory, Stop, Said, SaysUp, SaysBye, down_lines, HasHeard, Leads, outcome, Keeper, ending_of, ended_by, last_line, Put, PutsLines, puts_more, Sourced, HandsOn, Stops, Untaken, AllByRecursion, most_fetched, puts_none, Left, SessionFault}
use Rattle.jup_hub.specs.Histories.{is_out_of_memory, entry, tally, tallies, after_split, split_from, joined_with, having_seen, Called, ComesToAsk, IsSpent}
use Rattle.jup_rules.specs.Prelude.{DownOp, DownAck, DownPong}
use Rattle.jup_star.specs.Prelude.{Msg}
use Rattle.jup_rules.specs.declared.session.Next.TheVariants.{Line as NextLine, Take as NextTake}
use Rattle.jup_stream.proofs.Streams.{hands_none, hands_more}
use Rattle.jup_session.specs.Sessions.{HasAnswered, HasTaken, IsShutFor, EndsAt, Refused, Withheld, IsCallFor, AreCallsFor, AreTalliesFor, HasLeft, IsFull, SomeLeft, FollowsJoin, IsSession, Makes, Serves, Leaves, HasMadeNone, HasServed, IsJoinOf, Joins, BothServe, received_with, said_received, GivesBackBy, GivesBack, Returns, GivesAll, IsLeaveOf, Departs, brought, lines_brought, IsFetchFor, LastLeavesNothing, FetchesAll, Forwards, ForwardsAll, Brings, Answers, StopsFetching, TellsFault, told_line, Wrote, welcome_lines, IsTaken, AreTakesOf, Hears, Over, Stopped, ByLine, AtMessage, Spent, HearsAll, Heard}
use Rattle.jup_session.specs.ExactSessions.{Enters, IsTurnedAway, NoLine, NoGreeting, NoJoin, IsWelcomed, EndsEarly, TurnedAway, Unwelcome}
use Rattle.jup_hub.specs.Prelude.{StarFault, is_no_memory}
use Rattle.jup_hub.specs.declared.fault.HubFault.TheVariants.{Star, Spent as HubSpent}
use Rattle.jup_star.specs.declared.messages.Up.TheVariants.{Op, Ack, Ping}

-- What the calls of a session make up.

-- calls of one kind, and more of them
pub more_calls : (IsOne : Call → Type 0) (xs ys : List HubEvent) → AllByRecursion (λ e. IsOne e.call) xs → AllByRecursion (λ e. IsOne e.call) ys → AllByRecursion (λ e. IsOne e.call) (xs ++ ys)
more_calls IsOne [] ys one two = two
more_calls IsOne (x ∷ xs) ys one two = (one.0, more_calls IsOne xs ys one.1 two)

-- that are of another kind too
pub calls_too : (IsOne Is : Call → Type 0) (xs : List HubEvent) → ((call : Call) → IsOne call → Is call) → AllByRecursion (λ e. IsOne e.call) xs → AllByRecursion (λ e. Is e.call) xs
calls_too IsOne Is [] too all = tt
calls_too IsOne Is (x ∷ xs) too all = (too x.call all.0, calls_too IsOne Is xs too all.1)

left_later : (xs ys : List HubEvent) → HasLeft ys → HasLeft (xs ++ ys)
left_later [] ys h = h
left_later (x ∷ xs) ys h = inr (left_later xs ys h)

-- a pass that is as it was
pub makes_none : (IsOne : Call → Type 0) (v : View) → Makes IsOne v v
makes_none IsOne v = record { calls = []; number = refl; made = sym (append-nil v.made); kept = refl; alone = tt }

pub makes_same : (IsOne : Call → Type 0) (v w : View) → w ≡ v → Makes IsOne v w
makes_same IsOne v w e = subst (λ (x : View). Makes IsOne v x) (sym e) (makes_none IsOne v)

-- one that has seen more
pub makes_news : (IsOne : Call → Type 0) (v w : View) (log : List HubEvent) → w ≡ having_seen log v → Makes IsOne v w
makes_news IsOne v w log e = subst (λ (x : View). Makes IsOne v x) (sym e) (record { calls = []; number = refl; made = sym (append-nil v.made); kept = refl; alone = tt })

-- one that another was split from
pub makes_split : (IsOne : Call → Type 0) (v w : View) → w ≡ after_split v → Makes IsOne v w
makes_split IsOne v w e = subst (λ (x : View). Makes IsOne v x) (sym e) (record { calls = []; number = refl; made = sym (append-nil v.made); kept = refl; alone = tt })

-- and the one that was split off
pub split_makes_none : (v w : View) → w ≡ split_from v → HasMadeNone w
split_makes_none v w e = subst HasMadeNone (sym e) (refl, refl)

-- first some calls, then others
pub makes_both : (IsOne : Call → Type 0) (u v w : View) → Makes IsOne u v → Makes IsOne v w → Makes IsOne u w
makes_both IsOne u v w one two = record {
  calls = one.calls ++ two.calls;
  number = two.number ∙ one.number;
  made = two.made ∙ ap (λ (l : List HubEvent). l ++ two.calls) one.made ∙ append_assoc u.made one.calls two.calls;
  kept = two.kept ∙ one.kept;
  alone = more_calls IsOne one.calls two.calls one.alone two.alone;
}

-- calls that are of another kind too
pub makes_too : (IsOne Is : Call → Type 0) (v w : View) → ((call : Call) → IsOne call → Is call) → Makes IsOne v w → Makes Is v w
makes_too IsOne Is v w too m = record { calls = m.calls; number = m.number; made = m.made; kept = m.kept; alone = calls_too IsOne Is m.calls too m.alone }

pub leaves_after : (site : ℕ) (u v w : View) → Serves site u v → Leaves site v w → Leaves site u w
leaves_after site u v w one two = record {
  calls = one.calls ++ two.calls;
  number = two.number ∙ one.number;
  made = two.made ∙ ap (λ (l : List HubEvent). l ++ two.calls) one.made ∙ append_assoc u.made one.calls two.calls;
  kept = two.kept ∙ one.kept;
  alone = more_calls (IsCallFor site) one.calls two.calls one.alone two.alone;
  left = elim two.left [ inl h ↦ inl (left_later one.calls two.calls h) | inr h ↦ inr h ];
}

-- one call
makes_one : (IsOne : Call → Type 0) (call : Call) (reply : StarReply) (v w : View) → IsOne call → Called call reply v w → Makes IsOne v w
makes_one IsOne call reply v w is c = record {
  calls = entry v.number call reply ∷ [];
  number = ap (λ (x : View). x.number) c.view;
  made = ap (λ (x : View). x.made) c.view;
  kept = ap (λ (x : View). x.kept) c.view;
  alone = (is, tt);
}

called : (site : ℕ) (call : Call) (reply : StarReply) (v w : View) → IsCallFor site call → Called call reply v w → Serves site v w
called site call reply v w is c = makes_one (IsCallFor site) call reply v w is c

-- whatever the hub answers
pub makes_call : {A : Type 0} (IsOne : Call → Type 0) (reply : Result A StarFault → StarReply) (call : Call) (v w : View) (r : Result A HubFault) → IsOne call → Made reply call v w r → Makes IsOne v w
makes_call IsOne reply call v w (Ok x) is m = makes_one IsOne call (reply (Ok x)) v w is m
makes_call IsOne reply call v w (Err HubSpent) is m = makes_same IsOne v w m.0
makes_call IsOne reply call v w (Err (Star e)) is m = go (is_no_memory e) m
  where
    go : (b : Bool) → MatchBool b ((w ≡ v) × ComesToAsk call v) (Called call (reply (Err e)) v w) → Makes IsOne v w
    go true h = makes_same IsOne v w h.0
    go false h = makes_one IsOne call (reply (Err e)) v w is h

-- a message that the hub was called for, or not
pub serves_answered : (site : ℕ) (up : Up BoardBatch) (v w : View) (answer : Option (Result (Option ℕ) HubFault)) → HasAnswered site up v w answer → Serves site v w
serves_answered site up v w (Some answer) made = makes_call (IsCallFor site) (λ r. Taken r) (Take site up) v w answer refl made
serves_answered site up v w None same = makes_same (IsCallFor site) v w same

-- a message that was not taken
pub serves_ends : (site : ℕ) (incoming : Incoming) (v w : View) (ending : Ending) (withheld : Option Untaken) → EndsAt site incoming v w ending withheld → Serves site v w
serves_ends site incoming v w ending withheld (Refused answer made is none) = serves_answered site incoming.up v w (Some answer) made
serves_ends site incoming v w ending withheld (Withheld why holds same is so) = makes_same (IsCallFor site) v w same

refuses : (up : Up BoardBatch) (fault : HubFault) → (ending : Ending) × (outcome up (Err fault) ≡ Err ending)
refuses up HubSpent = (_, refl)
refuses up (Star NoLink) = (_, refl)
refuses up (Star e) = (_, refl)

-- what came of a message that the hub was called for: after one that was refused the session ends
pub taken_so : (site : ℕ) (incoming : Incoming) (v w : View) (answer : Result (Option ℕ) HubFault) (r : Result Ring Ending) (ring : Ring) → HasAnswered site incoming.up v w (Some answer)
    → r ≡ outcome incoming.up answer → r ≡ Ok ring → HasTaken site incoming v w
taken_so site incoming v w (Ok place) r ring made is so = (place, made)
taken_so site incoming v w (Err fault) r ring made is so = let e = refuses incoming.up fault in let no : Err e.0 ≡ Ok ring = sym e.1 ∙ sym is ∙ so in absurd cc

pub refused_so : (site : ℕ) (incoming : Incoming) (v w : View) (answer : Result (Option ℕ) HubFault) (r : Result Ring Ending) (ending last : Ending) (withheld : Option Untaken)
    → HasAnswered site incoming.up v w (Some answer) → r ≡ outcome incoming.up answer → r ≡ Err ending → last ≡ ending → withheld ≡ None → EndsAt site incoming v w last withheld
refused_so site incoming v w answer r ending last withheld made is so at none = Refused answer made (sym is ∙ so ∙ ap (λ e. Err e) (sym at)) none

-- no gate withheld a message that was taken, or that was withheld for another reason
pub shut_for_none : (shut : ℕ → ℕ → Type 0) (site : ℕ) (withheld : Option Untaken) → withheld ≡ None → IsShutFor shut site withheld
shut_for_none shut site withheld is = subst (λ (u : Option Untaken). IsShutFor shut site u) (sym is) tt

pub shut_for : (shut : ℕ → ℕ → Type 0) (site : ℕ) (why : Untaken) (withheld : Option Untaken) → IsShutFor shut site (Some why) → withheld ≡ Some why → IsShutFor shut site withheld
shut_for shut site why withheld holds is = subst (λ (u : Option Untaken). IsShutFor shut site u) (sym is) holds

full : (v w : View) → w ≡ v → IsSpent v → IsFull w.opening (tally w.number w.made)
full v w e h = subst (λ (x : View). IsFull x.opening (tally x.number x.made)) (sym e) (h.0, h.1.legal, h.1.tallied.0, h.2)

-- a departure
pub leaves_by_leaving : (site : ℕ) (v w : View) (r : Result (Unit {0}) HubFault) → Made (λ a. Left a) (Leave site) v w r → is_out_of_memory r ≡ false → Leaves site v w
leaves_by_leaving site v w (Ok x) m never = gone m
  where
    gone : Called (Leave site) (Left (Ok x)) v w → Leaves site v w
    gone c = let s : Serves site v w = called site (Leave site) (Left (Ok x)) v w refl c in record {
      calls = entry v.number (Leave site) (Left (Ok x)) ∷ [];
      number = s.number;
      made = ap (λ (y : View). y.made) c.view;
      kept = s.kept;
      alone = (refl, tt);
      left = inl (inl tt);
    }
leaves_by_leaving site v w (Err HubSpent) m never = let s : Serves site v w = makes_same (IsCallFor site) v w m.0 in record {
  calls = s.calls;
  number = s.number;
  made = s.made;
  kept = s.kept;
  alone = s.alone;
  left = inr (full v w m.0 m.1);
}
leaves_by_leaving site v w (Err (Star e)) m never = gone (subst (λ b. MatchBool b ((w ≡ v) × ComesToAsk (Leave site) v) (Called (Leave site) (Left (Err e)) v w)) never m)
  where
    gone : Called (Leave site) (Left (Err e)) v w → Leaves site v w
    gone c = let s : Serves site v w = called site (Leave site) (Left (Err e)) v w refl c in record {
      calls = entry v.number (Leave site) (Left (Err e)) ∷ [];
      number = s.number;
      made = ap (λ (y : View). y.made) c.view;
      kept = s.kept;
      alone = (refl, tt);
      left = inl (inl tt);
    }

-- a fetch that finds no link
pub leaves_by_fetching : (site max : ℕ) (v w : View) (fault : HubFault) → fault ≡ Star NoLink → Made (λ a. Fetched a) (Fetch site max) v w (Err fault) → Leaves site v w
leaves_by_fetching site max v w fault is made = let c : Called (Fetch site max) (Fetched (Err NoLink)) v w = subst (λ (e : HubFault). Made (λ a. Fetched a) (Fetch site max) v w (Err e)) is made in let s : Serves site v w = called site (Fetch site max) (Fetched (Err NoLink)) v w refl c in record {
  calls = entry v.number (Fetch site max) (Fetched (Err NoLink)) ∷ [];
  number = s.number;
  made = ap (λ (y : View). y.made) c.view;
  kept = s.kept;
  alone = (refl, tt);
  left = inl (inl tt);
}

-- a pass that had made nothing
pub served_alone : (site : ℕ) (v w : View) → HasMadeNone v → Leaves site v w → HasServed site w
served_alone site v w none l =
    let made : w.made ≡ l.calls = l.made ∙ ap (λ (x : List HubEvent). x ++ l.calls) none.0 in record {
      alone = subst (λ (x : List HubEvent). AreCallsFor site x) (sym made) l.alone;
      kept = l.kept ∙ none.1;
      left = elim l.left [ inl h ↦ inl (subst HasLeft (sym made) h) | inr h ↦ inr h ];
    }

-- the other is taken in
pub both_serve : (site : ℕ) (v u h w : View) → Serves site v u → HasServed site h → h.opening ≡ u.opening → w ≡ joined_with u h → BothServe site v w
both_serve site v u h w one two same e = subst (λ (x : View). BothServe site v x) (sym e) (record {
  calls = one.calls;
  other = tally h.number h.made;
  number = one.number;
  made = one.made;
  kept = ap (λ (l : List Tally). l ++ tallies h) one.kept ∙ ap (λ (l : List Tally). v.kept ++ (tally h.number h.made) ∷ l) two.kept;
  alone = one.alone;
  other_alone = two.alone;
  left = elim two.left [ inl q ↦ inl q | inr q ↦ inr (subst (λ (o : BoardStar). IsFull o (tally h.number h.made)) same q) ];
})

-- a session that made no call
pub session_none : (v : View) → IsSession v v
session_none v = record { calls = []; others = []; number = refl; made = sym (append-nil v.made); kept = sym (append-nil v.kept); one_site = refl }

pub session_same : (v w : View) → w ≡ v → IsSession v w
session_same v w e = subst (λ (x : View). IsSession v x) (sym e) (session_none v)

-- the join of a site
pub joins : (v w : View) (j : JoinedSite) → Called Join (JoinedReply (bare_joined (Ok j))) v w → Joins j.site v w
joins v w j c = record {
  join = entry v.number Join (JoinedReply (bare_joined (Ok j)));
  number = ap (λ (x : View). x.number) c.view;
  made = ap (λ (x : View). x.made) c.view;
  kept = ap (λ (x : View). x.kept) c.view;
  is_join = refl;
}

-- one that is refused is all of the session
pub session_refused : (v w : View) (fault : HubFault) → Made (λ r. JoinedReply (bare_joined r)) Join v w (Err fault) → IsSession v w
session_refused v w HubSpent m = session_same v w m.0
session_refused v w (Star e) m = go (is_no_memory e) m
  where
    go : (b : Bool) → MatchBool b ((w ≡ v) × ComesToAsk Join v) (Called Join (JoinedReply (Err e)) v w) → IsSession v w
    go true h = session_same v w h.0
    go false c = record {
      calls = entry v.number Join (JoinedReply (Err e)) ∷ [];
      others = [];
      number = ap (λ (x : View). x.number) c.view;
      made = ap (λ (x : View). x.made) c.view;
      kept = ap (λ (x : View). x.kept) c.view ∙ sym (append-nil v.kept);
      one_site = (refl, refl);
    }

follows : (site : ℕ) (w : View) (call : Call) (reply : StarReply) (later : List HubEvent) (others : List Tally) → IsJoinOf site call reply → AreCallsFor site later → AreTalliesFor site others
    → HasLeft later ⊎ IsFull w.opening (tally w.number w.made) ⊎ SomeLeft w.opening others → FollowsJoin w call reply later others
follows site w Join (JoinedReply (Ok j)) later others is one two left =
    (subst (λ (s : ℕ). AreCallsFor s later) (sym is) one, subst (λ (s : ℕ). AreTalliesFor s others) (sym is) two, left)
follows site w call reply later others is one two left = absurd is

-- a site that joined and left with no call between
pub session_left : (site : ℕ) (v u w : View) → Joins site v u → Leaves site u w → IsSession v w
session_left site v u w j l = record {
  calls = j.join ∷ l.calls;
  others = [];
  number = l.number ∙ j.number;
  made = l.made ∙ ap (λ (x : List HubEvent). x ++ l.calls) j.made ∙ append_assoc v.made (j.join ∷ []) l.calls;
  kept = l.kept ∙ j.kept ∙ sym (append-nil v.kept);
  one_site = follows site w j.join.call j.join.reply l.calls [] j.is_join l.alone tt (elim l.left [ inl h ↦ inl h | inr h ↦ inr (inl h) ]);
}

-- and one that both halves served
pub session_served : (site : ℕ) (v u w : View) → Joins site v u → BothServe site u w → IsSession v w
session_served site v u w j b = record {
  calls = j.join ∷ b.calls;
  others = b.other ∷ [];
  number = b.number ∙ j.number;
  made = b.made ∙ ap (λ (x : List HubEvent). x ++ b.calls) j.made ∙ append_assoc v.made (j.join ∷ []) b.calls;
  kept = b.kept ∙ ap (λ (x : List Tally). x ++ b.other ∷ []) j.kept;
  one_site = follows site w j.join.call j.join.reply b.calls (b.other ∷ []) j.is_join b.alone (b.other_alone, tt)
      (inr (inr (elim b.left [ inl h ↦ inl h | inr h ↦ inr (inl h) ])));
}

-- How a site leaves.

gives_for : (site received : ℕ) (call : Call) → GivesBackBy site received call → IsCallFor site call
gives_for site received Join is = absurd is
gives_for site received (Take i (Op msg)) is = absurd is
gives_for site received (Take i (Ack count)) is = is.0
gives_for site received (Take i (Ping number)) is = absurd is
gives_for site received (Fetch i max) is = is.0
gives_for site received (Leave i) is = absurd is

all_given : (site received : ℕ) (es : List HubEvent) → GivesBack site received es → AllByRecursion (λ e. IsCallFor site e.call) es
all_given site received [] g = tt
all_given site received (e ∷ es) g = (gives_for site received e.call g.0, all_given site (max received (received_with (brought e.reply))) es g.1)

-- more may have been received before
given_after : (site received more : ℕ) (call : Call) → received ≤ more → GivesBackBy site received call → GivesBackBy site more call
given_after site received more Join le is = absurd is
given_after site received more (Take i (Op msg)) le is = absurd is
given_after site received more (Take i (Ack count)) le is = (is.0, omega (arith, is.1, le))
given_after site received more (Take i (Ping number)) le is = absurd is
given_after site received more (Fetch i max) le is = is
given_after site received more (Leave i) le is = absurd is

gives_after : (site received more : ℕ) (es : List HubEvent) → received ≤ more → GivesBack site received es → GivesBack site more es
gives_after site received more [] le g = tt
gives_after site received more (e ∷ es) le g =
    (given_after site received more e.call le g.0, gives_after site (max received (received_with (brought e.reply))) (max more (received_with (brought e.reply))) es (omega (arith, le)) g.1)

-- first some are given back, then others
gives_both : (site received other : ℕ) (xs ys : List HubEvent) → other ≤ received → GivesBack site received xs → GivesBack site other ys → GivesBack site received (xs ++ ys)
gives_both site received other [] ys le one two = gives_after site other received ys le two
gives_both site received other (x ∷ xs) ys le one two = (one.0, gives_both site (max received (received_with (brought x.reply))) other xs ys (omega (arith, le)) one.1 two)

pub returns_none : (site received : ℕ) (v : View) → Returns site received v v
returns_none site received v = record { calls = []; number = refl; made = sym (append-nil v.made); kept = refl; gives = tt }

returns_same : (site received : ℕ) (v w : View) → w ≡ v → Returns site received v w
returns_same site received v w e = subst (λ (x : View). Returns site received v x) (sym e) (returns_none site received v)

pub returns_both : (site : ℕ) (u v w : View) → Returns site 0 u v → Returns site 0 v w → Returns site 0 u w
returns_both site u v w one two = record {
  calls = one.calls ++ two.calls;
  number = two.number ∙ one.number;
  made = two.made ∙ ap (λ (l : List HubEvent). l ++ two.calls) one.made ∙ append_assoc u.made one.calls two.calls;
  kept = two.kept ∙ one.kept;
  gives = gives_both site 0 0 one.calls two.calls (omega arith) one.gives two.gives;
}

-- one call, and more after it
returns_one : (site received : ℕ) (call : Call) (reply : StarReply) (u v w : View) → GivesBackBy site received call → Called call reply u v → Returns site (max received (received_with (brought reply))) v w
    → Returns site received u w
returns_one site received call reply u v w is c later = record {
  calls = entry u.number call reply ∷ later.calls;
  number = later.number ∙ ap (λ (x : View). x.number) c.view;
  made = later.made ∙ ap (λ (x : View). x.made ++ later.calls) c.view ∙ append_assoc u.made (entry u.number call reply ∷ []) later.calls;
  kept = later.kept ∙ ap (λ (x : View). x.kept) c.view;
  gives = (is, later.gives);
}

-- the session fetches messages and drops them, and acknowledges what it fetched
pub returns_round : (site max' : ℕ) (u v w : View) (downs : List (Down BoardBatch)) → max' ≡ most_fetched → Made (λ a. Fetched a) (Fetch site max') u v (Ok downs)
    → Returns site (received_with downs) v w → Returns site 0 u w
returns_round site max' u v w downs at c later = returns_one site 0 (Fetch site max') (Fetched (Ok downs)) u v w (refl, at) c (later_from later)
  where
    later_from : Returns site (received_with downs) v w → Returns site (max 0 (received_with downs)) v w
    later_from r = record { calls = r.calls; number = r.number; made = r.made; kept = r.kept; gives = gives_after site (received_with downs) (max 0 (received_with downs)) r.calls (omega arith) r.gives }

-- a fetch that is refused
pub returns_refused : (site max' : ℕ) (v w : View) (fault : HubFault) → max' ≡ most_fetched → Made (λ a. Fetched a) (Fetch site max') v w (Err fault) → Returns site 0 v w
returns_refused site max' v w HubSpent at m = returns_same site 0 v w m.0
returns_refused site max' v w (Star e) at m = go (is_no_memory e) m
  where
    go : (b : Bool) → MatchBool b ((w ≡ v) × ComesToAsk (Fetch site max') v) (Called (Fetch site max') (Fetched (Err e)) v w) → Returns site 0 v w
    go true h = returns_same site 0 v w h.0
    go false h = returns_one site 0 (Fetch site max') (Fetched (Err e)) v w w (refl, at) h (returns_none site _ w)

-- an acknowledgement, whatever the hub answers
pub returns_acknowledged : (site received count : ℕ) (v w : View) (r : Result (Option ℕ) HubFault) → count ≤ received → Made (λ a. Taken a) (Take site (Ack count)) v w r → Returns site received v w
returns_acknowledged site received count v w (Ok x) le m = returns_one site received (Take site (Ack count)) (Taken (Ok x)) v w w (refl, le) m (returns_none site _ w)
returns_acknowledged site received count v w (Err HubSpent) le m = returns_same site received v w m.0
returns_acknowledged site received count v w (Err (Star e)) le m = go (is_no_memory e) m
  where
    go : (b : Bool) → MatchBool b ((w ≡ v) × ComesToAsk (Take site (Ack count)) v) (Called (Take site (Ack count)) (Taken (Err e)) v w) → Returns site received v w
    go true h = returns_same site received v w h.0
    go false h = returns_one site received (Take site (Ack count)) (Taken (Err e)) v w w (refl, le) h (returns_none site _ w)

-- an edit among messages is received with them
received_later : (down : Down BoardBatch) (downs : List (Down BoardBatch)) → received_with downs ≤ received_with (down ∷ downs)
received_later (DownOp msg) downs = omega arith
received_later (DownAck count) downs = omega arith
received_later (DownPong number) downs = omega arith

pub received_at : (downs : List (Down BoardBatch)) (n : ℕ) (msg : Msg BoardBatch) → slice_get downs n ≡ Some (DownOp msg) → msg.mine + 1 ≤ received_with downs
received_at [] n msg e = absurd cc
received_at (DownOp m ∷ downs) zero msg e = let same : m ≡ msg = cc in let mine : m.mine ≡ msg.mine = ap (λ (x : Msg BoardBatch). x.mine) same in omega (arith, mine)
received_at (DownAck count ∷ downs) zero msg e = absurd cc
received_at (DownPong number ∷ downs) zero msg e = absurd cc
received_at (down ∷ downs) (suc n) msg e = let later = received_at downs n msg e in let more = received_later down downs in omega (arith, later, more)

-- one more message that is received
received_more : (downs : List (Down BoardBatch)) (down : Down BoardBatch) → received_with (downs ++ down ∷ []) ≡ max (received_with (down ∷ [])) (received_with downs)
received_more [] down = omega arith
received_more (DownOp msg ∷ downs) down = let later = received_more downs down in omega (arith, later)
received_more (DownAck count ∷ downs) down = received_more downs down
received_more (DownPong number ∷ downs) down = received_more downs down

pub said_more : (downs : List (Down BoardBatch)) (n : ℕ) (down : Down BoardBatch) → n < length downs → down ≡ get_or downs n down
    → said_received (take (n + 1) downs) ≡ max (said_received (down ∷ [])) (said_received (take n downs))
said_more downs n down below is =
    let all = ap received_with (take_one_more downs n down below is) ∙ received_more (take n downs) down in omega (arith, all)

-- the site leaves after that
pub departs_so : (site : ℕ) (u v w : View) (r : Result (Unit {0}) HubFault) → Returns site 0 u v → GivesAll site u v → Made (λ a. Left a) (Leave site) v w r → Departs site u w
departs_so site u v w r back all m = record {
  between = v;
  back = back;
  leaves = makes_call (IsLeaveOf site) (λ a. Left a) (Leave site) v w r refl m;
  all = inr (record { between = v; gives = all; answer = r; left = m });
}

pub leaves_so : (site : ℕ) (u v w : View) → Returns site 0 u v → Leaves site v w → Leaves site u w
leaves_so site u v w back l = leaves_after site u v w (record { calls = back.calls; number = back.number; made = back.made; kept = back.kept; alone = all_given site 0 back.calls back.gives }) l

-- a site that had left already
pub departs_none : (site : ℕ) (v : View) → Departs site v v
departs_none site v = record { between = v; back = returns_none site 0 v; leaves = makes_none (IsLeaveOf site) v; all = inl refl }

-- What fetches bring, and what is put for that.

-- nothing was called, and nothing put
pub forwards_none : (site : ℕ) (v : View) (a : Put) → Forwards site v a v a
forwards_none site v a = record { calls = []; number = refl; made = sym (append-nil v.made); kept = refl; alone = tt; put = puts_none a }

-- the pass has seen more
pub forwards_news : (site : ℕ) (u v w : View) (a b : Put) (log : List HubEvent) → Forwards site u a v b → w ≡ having_seen log v → Forwards site u a w b
forwards_news site u v w a b log f e = subst (λ (x : View). Forwards site u a x b) (sym e)
    (record { calls = f.calls; number = f.number; made = f.made; kept = f.kept; alone = f.alone; put = f.put })

-- first this, then that
pub forwards_both : (site : ℕ) (u v w : View) (a b c : Put) → Forwards site u a v b → Forwards site v b w c → Forwards site u a w c
forwards_both site u v w a b c one two = record {
  calls = one.calls ++ two.calls;
  number = two.number ∙ one.number;
  made = two.made ∙ ap (λ (l : List HubEvent). l ++ two.calls) one.made ∙ append_assoc u.made one.calls two.calls;
  kept = two.kept ∙ one.kept;
  alone = more_calls (IsFetchFor site) one.calls two.calls one.alone two.alone;
  put = subst (λ lines. PutsLines a lines c) (sym (flat_map-append (λ (e : HubEvent). flat_map down_lines (brought e.reply)) one.calls two.calls))
      (puts_more a b c (lines_brought one.calls) (lines_brought two.calls) one.put two.put);
}

-- a fetch, and what it brought is put
pub forwards_more : (site : ℕ) (u v w : View) (a b c : Put) (downs : List (Down BoardBatch)) → Forwards site u a v b → Brings site v w downs → PutsLines b (flat_map down_lines downs) c
    → Forwards site u a w c
forwards_more site u v w a b c downs before brings put = forwards_both site u v w a b c before (record {
  calls = brings.calls;
  number = brings.number;
  made = brings.made;
  kept = brings.kept;
  alone = brings.alone;
  put = subst (λ lines. PutsLines b lines c) (sym brings.lines) put;
})

-- one that brought nothing
pub forwards_in_vain : (site : ℕ) (u v w : View) (a b : Put) → Forwards site u a v b → Brings site v w [] → Forwards site u a w b
forwards_in_vain site u v w a b before brings = forwards_more site u v w a b b [] before brings (puts_none b)

fetched : (site : ℕ) (reply : StarReply) (v w : View) → Called (Fetch site most_fetched) reply v w → Brings site v w (brought reply)
fetched site reply v w c = record {
  calls = entry v.number (Fetch site most_fetched) reply ∷ [];
  number = ap (λ (x : View). x.number) c.view;
  made = ap (λ (x : View). x.made) c.view;
  kept = ap (λ (x : View). x.kept) c.view;
  alone = ((refl, refl), tt);
  lines = append-nil (flat_map down_lines (brought reply));
}

-- no fetch was made
pub brings_none : (site : ℕ) (v w : View) → w ≡ v → Brings site v w []
brings_none site v w e = subst (λ (x : View). Brings site v x []) (sym e) (record { calls = []; number = refl; made = sym (append-nil v.made); kept = refl; alone = tt; lines = refl })

-- a fetch that was answered
pub answers_downs : (site max : ℕ) (v w : View) (downs : List (Down BoardBatch)) → max ≡ most_fetched → Made (λ r. Fetched r) (Fetch site max) v w (Ok downs) → Answers site v w downs
unfolding fetched
answers_downs site max v w downs is m =
    let c : Called (Fetch site most_fetched) (Fetched (Ok downs)) v w = subst (λ k. Called (Fetch site k) (Fetched (Ok downs)) v w) is m in
    record { brings = fetched site (Fetched (Ok downs)) v w c; few = λ less. less }

-- one that found no link
pub answers_unlinked : (site max : ℕ) (v w : View) (fault : HubFault) → max ≡ most_fetched → fault ≡ Star NoLink → Made (λ r. Fetched r) (Fetch site max) v w (Err fault) → Answers site v w []
unfolding fetched
answers_unlinked site max v w fault at is m =
    let c : Called (Fetch site most_fetched) (Fetched (Err NoLink)) v w =
    subst (λ k. Called (Fetch site k) (Fetched (Err NoLink)) v w) at (subst (λ (e : HubFault). Made (λ a. Fetched a) (Fetch site max) v w (Err e)) is m) in
    record { brings = fetched site (Fetched (Err NoLink)) v w c; few = λ less. tt }

-- one that was refused
pub brings_nothing : (site max : ℕ) (v w : View) (fault : HubFault) → max ≡ most_fetched → Made (λ r. Fetched r) (Fetch site max) v w (Err fault) → Brings site v w []
brings_nothing site max v w HubSpent at m = brings_none site v w m.0
brings_nothing site max v w (Star e) at m = go (is_no_memory e) m
  where
    go : (b : Bool) → MatchBool b ((w ≡ v) × ComesToAsk (Fetch site max) v) (Called (Fetch site max) (Fetched (Err e)) v w) → Brings site v w []
    go true h = brings_none site v w h.0
    go false h = fetched site (Fetched (Err e)) v w (subst (λ k. Called (Fetch site k) (Fetched (Err e)) v w) at h)

fetches_for : (site : ℕ) (call : Call) → IsFetchFor site call → IsCallFor site call
fetches_for site Join is = absurd is
fetches_for site (Take i up) is = absurd is
fetches_for site (Fetch i max) is = is.0
fetches_for site (Leave i) is = absurd is

last_behind : (x : HubEvent) (es : List HubEvent) → LastLeavesNothing es → LastLeavesNothing (x ∷ es)
last_behind x [] h = absurd h
last_behind x (e ∷ es) h = h

last_later : (xs ys : List HubEvent) → LastLeavesNothing ys → LastLeavesNothing (xs ++ ys)
last_later [] ys h = h
last_later (x ∷ xs) ys h = last_behind x (xs ++ ys) (last_later xs ys h)

-- what is fetched after other fetches
later_all : (failed : Bool) (xs ys : List HubEvent) (unsent : Option SessionFault) → FetchesAll failed ys unsent → FetchesAll failed (xs ++ ys) unsent
later_all failed xs ys None h = last_later xs ys h
later_all failed xs ys (Some fault) h = h

-- the fetches before those that bring all
pub forwards_all : (site : ℕ) (u v w : View) (a b c : Put) (unsent : Option SessionFault) → Forwards site u a v b → ForwardsAll site v b w c unsent → ForwardsAll site u a w c unsent
unfolding forwards_both
forwards_all site u v w a b c unsent before f = record {
  forwards = forwards_both site u v w a b c before f.forwards;
  all = later_all c.failed before.calls f.forwards.calls unsent f.all;
}

-- the half stops for a fault
pub forwards_until : (site : ℕ) (v w : View) (a b : Put) (fault : SessionFault) → Forwards site v a w b → StopsFetching b.failed fault → ForwardsAll site v a w b (Some fault)
forwards_until site v w a b fault f stops = record { forwards = f; all = stops }

-- the last fetch, and what it brought is put
pub forwards_last : (site : ℕ) (u v w : View) (a b c : Put) (downs : List (Down BoardBatch)) → Forwards site u a v b → Answers site v w downs → length downs < most_fetched
    → PutsLines b (flat_map down_lines downs) c → ForwardsAll site u a w c None
unfolding forwards_more forwards_both
forwards_last site u v w a b c downs before answers less put = record {
  forwards = forwards_more site u v w a b c downs before answers.brings put;
  all = last_later before.calls answers.brings.calls (answers.few less);
}

-- all that was called for a site
pub forwards_serves : (site : ℕ) (v w : View) (a b : Put) → Forwards site v a w b → Serves site v w
forwards_serves site v w a b f = makes_too (IsFetchFor site) (IsCallFor site) v w (fetches_for site) (record { calls = f.calls; number = f.number; made = f.made; kept = f.kept; alone = f.alone })

-- the whole half
pub wrote_so : (site : ℕ) (u v w : View) (a b c : Put) (told : Option Ending) (unsent : Option SessionFault) → ForwardsAll site u a v b unsent → Departs site v w → TellsFault told unsent
    → PutsLines b (told_line told) c → Wrote site u a w c told unsent
wrote_so site u v w a b c told unsent forwards departs fault put = record { between = v; middle = b; forwards = forwards; departs = departs; fault = fault; put = put }

-- How a session begins, and how it may end there.

-- there is no first line
pub away_line : (a b : Sourced) (v : View) (stop : Stop) (ending : Ending) → Stops a stop b → ending ≡ ended_by stop → IsTurnedAway a v b v ending
away_line a b v stop ending stops is = NoLine stop stops refl is

-- the first line is no greeting
pub away_greeting : (a b : Sourced) (v : View) (line : Line) (fault : StreamFault) (r : Result (Unit {0}) StreamFault) (ending : Ending) → HandsOn a (line ∷ []) b → r ≡ Err fault
    → (line ≡ Hello → IsOk r) → (line ≢ Hello → r ≡ Err Misplaced) → ending ≡ ending_of (Stream fault) → IsTurnedAway a v b v ending
away_greeting a b v line fault r ending handed err hello other is =
    let not_hello : line ≢ Hello = λ e. absurd (true≢false (sym (hello e) ∙ ap (λ x. is_ok x) err)) in
    let at : fault ≡ Misplaced = (let same : Err fault ≡ Err Misplaced = sym err ∙ other not_hello in cc) in
    NoGreeting line handed not_hello refl (is ∙ ap (λ f. ending_of (Stream f)) at)

pub away_session : (a b : Sourced) (v w : View) (ending : Ending) → IsTurnedAway a v b w ending → IsSession v w
away_session a b v w ending (NoLine stop stops same is) = session_same v w same
away_session a b v w ending (NoGreeting line handed other same is) = session_same v w same
away_session a b v w ending (NoJoin fault handed made is) = session_refused v w fault made

-- if the site does not join, the session writes the last line
pub away_early : (a b : Sourced) (v w : View) (p q : Put) (ending : Ending) → IsTurnedAway a v b w ending → PutsLines p (last_line ending ∷ []) q
    → (lines : List Line) × EndsEarly a v b w ending q.failed lines × PutsLines p lines q
away_early a b v w p q ending away put = (last_line ending ∷ [], TurnedAway away refl, put)

pub joins_so : (v w : View) (joined : JoinedSite) → Enters joined v w → Joins joined.site v w
joins_so v w joined enters = joins v w joined enters

pub welcomed_so : (a b : Sourced) (v w : View) (p q : Put) (joined : JoinedSite) → HandsOn a (Hello ∷ []) b → Enters joined v w → PutsLines p (welcome_lines joined) q
    → (lines : List Line) × IsWelcomed joined.site a v b w lines × PutsLines p lines q
welcomed_so a b v w p q joined hello enters put = (welcome_lines joined, record { hello = hello; joined = joined; site_is = refl; enters = enters; lines_are = refl }, put)

-- if the welcome is cut off, the site leaves
pub unwelcome_early : (a b : Sourced) (v u w : View) (p q : Put) (joined : JoinedSite) (fault : StreamFault) (ending : Ending) → HandsOn a (Hello ∷ []) b → Enters joined v u → Departs joined.site u w
    → IsTrue q.failed → fault ≡ WriteFailed → ending ≡ ending_of (Stream fault) → PutsLines p (welcome_lines joined) q → (lines : List Line) × EndsEarly a v b w ending q.failed lines × PutsLines p lines q
unwelcome_early a b v u w p q joined fault ending hello enters departs failed at is put = (
  welcome_lines joined,
  Unwelcome (record {
    site = joined.site;
    behind = u;
    welcomed = record { hello = hello; joined = joined; site_is = refl; enters = enters; lines_are = refl };
    departs = departs;
    failed_is = failed;
    ending_is = is ∙ ap (λ f. ending_of (Stream f)) at;
  }),
  put,
)

-- How messages are heard and taken.

takes_more : (site : ℕ) (saids : List Said) (calls : List HubEvent) (up : Up BoardBatch) (e : HubEvent) → AreTakesOf site saids calls → e.call ≡ Take site up → IsTaken e.reply
    → AreTakesOf site (saids ++ SaysUp up ∷ []) (calls ++ e ∷ [])
takes_more site [] [] up e h is taken = (is, taken, tt)
takes_more site [] (x ∷ es) up e h is taken = absurd h
takes_more site (SaysUp u ∷ saids) [] up e h is taken = absurd h
takes_more site (SaysUp u ∷ saids) (x ∷ es) up e h is taken = (h.0, h.1, takes_more site saids es up e h.2 is taken)
takes_more site (SaysBye ∷ saids) calls up e h is taken = absurd h

-- so many lines were handed on
abbrev pub HearsLines : ℕ → ℕ → Sourced → View → Sourced → View → Keeper → Type 0
HearsLines count site a v b w keeper = (h : Hears site a v b w keeper) × (length h.lines ≡ count)

one_more : (lines : List Line) (line : Line) (count : ℕ) → length lines ≡ count → length (lines ++ line ∷ []) ≡ count + 1
one_more lines line count is = length-append lines (line ∷ []) ∙ ap (λ n. n + 1) is

-- no line was handed on yet
pub hears_none : (site : ℕ) (a : Sourced) (v : View) (keeper : Keeper) → HasHeard [] [] keeper → HearsLines 0 site a v a v keeper
hears_none site a v keeper heard = (
  record {
    lines = [];
    saids = [];
    calls = [];
    handed = hands_none a;
    heard = heard;
    number = refl;
    made = sym (append-nil v.made);
    kept = refl;
    takes = tt;
  },
  refl,
)

-- one line more, by which the site says nothing yet
pub hears_line : (site count : ℕ) (a b c : Sourced) (v w : View) (before after : Keeper) (line : Line) → HearsLines count site a v b w before → HandsOn b (line ∷ []) c
    → ((lines : List Line) (saids : List Said) → HasHeard lines saids before → Leads lines saids before line NextLine after) → HearsLines (count + 1) site a v c w after
hears_line site count a b c v w before after line (h, is) handed leads = (
  record {
    lines = h.lines ++ line ∷ [];
    saids = h.saids;
    calls = h.calls;
    handed = hands_more a b c h.lines line h.handed handed;
    heard = leads h.lines h.saids h.heard;
    number = h.number;
    made = h.made;
    kept = h.kept;
    takes = h.takes;
  },
  one_more h.lines line count is,
)

-- and one by which it says a message, which was taken
pub hears_take : (site count : ℕ) (a b c : Sourced) (v w x : View) (before after : Keeper) (line : Line) (incoming : Incoming) → HearsLines count site a v b w before → HandsOn b (line ∷ []) c
    → ((lines : List Line) (saids : List Said) → HasHeard lines saids before → Leads lines saids before line (NextTake incoming) after)
    → HasTaken site incoming w x → HearsLines (count + 1) site a v c x after
hears_take site count a b c v w x before after line incoming (h, counted) handed leads taken =
    let e : HubEvent = entry w.number (Take site incoming.up) (Taken (Ok taken.0)) in
    let view = taken.1.view in (
      record {
        lines = h.lines ++ line ∷ [];
        saids = h.saids ++ SaysUp incoming.up ∷ [];
        calls = h.calls ++ e ∷ [];
        handed = hands_more a b c h.lines line h.handed handed;
        heard = (leads h.lines h.saids h.heard).0;
        number = ap (λ (y : View). y.number) view ∙ h.number;
        made = ap (λ (y : View). y.made) view ∙ ap (λ (l : List HubEvent). l ++ e ∷ []) h.made ∙ append_assoc v.made h.calls (e ∷ []);
        kept = ap (λ (y : View). y.kept) view ∙ h.kept;
        takes = takes_more site h.saids h.calls incoming.up e h.takes refl tt;
      },
      one_more h.lines line count counted,
    )

-- ---- all that was called for a site

takes_for : (site : ℕ) (saids : List Said) (calls : List HubEvent) → AreTakesOf site saids calls → AllByRecursion (λ e. IsCallFor site e.call) calls
takes_for site [] [] h = tt
takes_for site [] (x ∷ es) h = absurd h
takes_for site (SaysUp up ∷ saids) [] h = absurd h
takes_for site (SaysUp up ∷ saids) (x ∷ es) h = (subst (IsCallFor site) (sym h.0) refl, takes_for site saids es h.2)
takes_for site (SaysBye ∷ saids) calls h = absurd h

over_serves : (site count : ℕ) (b c : Sourced) (w x : View) (keeper : Keeper) (ending : Ending) (withheld : Option Untaken) → Over site count b c w x keeper ending withheld → Serves site w x
over_serves site count b c w x keeper ending withheld (Stopped stop stops same ends none) = makes_same (IsCallFor site) w x same
over_serves site count b c w x keeper ending withheld (ByLine line later handed same leads none) = makes_same (IsCallFor site) w x same
over_serves site count b c w x keeper ending withheld (AtMessage line later incoming handed leads ends) = serves_ends site incoming w x ending withheld ends
over_serves site count b c w x keeper ending withheld (Spent at same all is none) = makes_same (IsCallFor site) w x same

pub heard_serves : (site : ℕ) (a c : Sourced) (v x : View) (ending : Ending) (withheld : Option Untaken) → Heard site a v c x ending withheld → Serves site v x
heard_serves site a c v x ending withheld (inl h) =
    makes_both (IsCallFor site) v h.pass x
    (record { calls = h.hears.calls; number = h.hears.number; made = h.hears.made; kept = h.hears.kept; alone = takes_for site h.hears.saids h.hears.calls h.hears.takes })
    (over_serves site (length h.hears.lines) h.before c h.pass x h.keeper ending withheld h.over)
heard_serves site a c v x ending withheld (inr h) = makes_same (IsCallFor site) v x h.pass

-- ---- both ways in which the reading half ends

pub heard_all : (site : ℕ) (a c : Sourced) (v x : View) (ending : Ending) (withheld : Option Untaken) → HearsAll site a v c x ending withheld → Heard site a v c x ending withheld
heard_all site a c v x ending withheld h = inl h

pub heard_nothing : (site : ℕ) (a : Sourced) (v : View) (ending : Ending) (withheld : Option Untaken) → ending ≡ ending_of (Stream NoMemory) → withheld ≡ None → Heard site a v a v ending withheld
heard_nothing site a v ending withheld is none = inr (record { source = refl; pass = refl; memory = is; taken = none })

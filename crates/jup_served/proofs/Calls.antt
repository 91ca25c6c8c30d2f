-- The calls of a session.
use Rattle.std.proofs.Common.{◌≡◌, ◌⊎◌, inl, inr, ℕ, Bool, true, false, cond, List, [], ◌∷◌, ◌++◌, refl, sym, subst, ◌∙◌, bytes_eq, true≢false, not, ◌||◌, map, nat_eq, Ok, Err, ap, append_assoc, eq-eqb, eqb-true, Option, Some, Result, MatchBool, append-nil, length}
use Rattle.std.proofs.lemmas.Slice.Eq.{bytes_eq-Decides}
use Rattle.jup_served.specs.Prelude.{Join, HubEvent, View}
use Rattle.jup_served.specs.Prelude as served
use Rattle.jup_hub.specs.Histories.{calls_by, AllTallied, IsNew, AllApart, is_among, calls_of_others, entry, Called, ComesToAsk, tally, after_split}
use Rattle.jup_honest.specs.Sites.{taken_with, takes_of, fetched_in, fetched_with, fetches_of}
use Rattle.jup_rules.specs.Sessions.{HasSaid}
use Rattle.jup_socket.specs.Sockets.{messages_down}
use Rattle.jup_session.specs.Sessions as sessions
use Rattle.jup_rules.specs.declared.ends.Untaken.{Untaken}
use Rattle.jup_session.proofs.Calls.{heard_serves}
use Rattle.jup_served.specs.Sessions as served_sessions
use Rattle.jup_session.specs.Prelude.{HubFault, Made, SaysBye, Incoming, down_lines, Keeper}
use Rattle.jup_hub.specs.Prelude.{is_no_memory}
use Rattle.jup_hub.specs.declared.fault.HubFault.TheVariants.{Star, Spent as HubSpent}

-- Which entries are among some, and which numbers among those of some sessions.

-- an entry is one of these
abbrev pub IsIn : HubEvent → List HubEvent → Type 0
IsIn e [] = ⊥
IsIn e (x ∷ xs) = (x ≡ e) ⊎ IsIn e xs

-- what holds of each of some entries holds of all
pub all_in : (P : HubEvent → Type 0) (es : List HubEvent) → ((e : HubEvent) → IsIn e es → P e) → served.AllByRecursion P es
all_in P [] each = tt
all_in P (x ∷ xs) each = (each x (inl refl), all_in P xs (λ e is. each e (inr is)))

pub in_all : (P : HubEvent → Type 0) (es : List HubEvent) → served.AllByRecursion P es → (e : HubEvent) → IsIn e es → P e
in_all P [] all e is = absurd is
in_all P (x ∷ xs) all e (inl same) = subst P same all.0
in_all P (x ∷ xs) all e (inr is) = in_all P xs all.1 e is

pub in_first : (xs ys : List HubEvent) (e : HubEvent) → IsIn e xs → IsIn e (xs ++ ys)
in_first [] ys e is = absurd is
in_first (x ∷ xs) ys e (inl same) = inl same
in_first (x ∷ xs) ys e (inr is) = inr (in_first xs ys e is)

-- numbers that are equal, and such that differ
pub same_number : (n m : List ℕ) → bytes_eq n m ≡ true → n ≡ m
same_number n m e = (bytes_eq-Decides n m).0 e

pub other_number : (n m : List ℕ) → bytes_eq n m ≡ false → n ≡ m → ⊥
other_number n m e is = true≢false (sym ((bytes_eq-Decides n m).1 is) ∙ e)

-- the entries under a number
pub by_in : (n : List ℕ) (es : List HubEvent) (e : HubEvent) → IsIn e (calls_by n es) → IsIn e es × (e.by ≡ n)
by_in n [] e is = absurd is
by_in n (x ∷ xs) e is = cases (bytes_eq x.by n) refl (λ later. by_in n xs e later) is
  where
    cases : (b : Bool) → bytes_eq x.by n ≡ b → (IsIn e (calls_by n xs) → IsIn e xs × (e.by ≡ n)) → IsIn e (cond b (x ∷ calls_by n xs) (calls_by n xs)) → IsIn e (x ∷ xs) × (e.by ≡ n)
    cases true f rest (inl same) = (inl same, subst (λ (k : HubEvent). k.by ≡ n) same (same_number x.by n f))
    cases true f rest (inr later) = (inr (rest later).0, (rest later).1)
    cases false f rest later = (inr (rest later).0, (rest later).1)

pub in_by : (n : List ℕ) (es : List HubEvent) (e : HubEvent) → IsIn e es → e.by ≡ n → IsIn e (calls_by n es)
in_by n [] e is by = absurd is
in_by n (x ∷ xs) e is by = cases (bytes_eq x.by n) refl (λ later. in_by n xs e later by) is
  where
    cases : (b : Bool) → bytes_eq x.by n ≡ b → (IsIn e xs → IsIn e (calls_by n xs)) → IsIn e (x ∷ xs) → IsIn e (cond b (x ∷ calls_by n xs) (calls_by n xs))
    cases true f rest (inl same) = inl same
    cases true f rest (inr later) = inr (rest later)
    cases false f rest (inl same) = absurd (other_number x.by n f (subst (λ (k : HubEvent). k.by ≡ n) (sym same) by))
    cases false f rest (inr later) = rest later

-- if no call is under another number, each is under one of these
pub none_other : (ts : List served.Tally) (log : List HubEvent) → calls_of_others ts log ≡ [] → (e : HubEvent) → IsIn e log → is_among e.by ts ≡ true
none_other ts [] none e is = absurd is
none_other ts (x ∷ xs) none e is = cases (is_among x.by ts) refl none (λ others later. none_other ts xs others e later) is
  where
    cases : (b : Bool) → is_among x.by ts ≡ b → cond (not b) (x ∷ calls_of_others ts xs) (calls_of_others ts xs) ≡ []
        → (calls_of_others ts xs ≡ [] → IsIn e xs → is_among e.by ts ≡ true) → IsIn e (x ∷ xs) → is_among e.by ts ≡ true
    cases true f others rest (inl same) = subst (λ (k : HubEvent). is_among k.by ts ≡ true) same f
    cases true f others rest (inr later) = rest others later
    cases false f others rest here = absurd (cc)

pub among_is : (n : List ℕ) (t : served.Tally) (ts : List served.Tally) → is_among n (t ∷ ts) ≡ true → (n ≡ t.number) ⊎ (is_among n ts ≡ true)
among_is n t ts is = cases (bytes_eq n t.number) refl is
  where
    cases : (b : Bool) → bytes_eq n t.number ≡ b → (b || is_among n ts) ≡ true → (n ≡ t.number) ⊎ (is_among n ts ≡ true)
    cases true f e = inl (same_number n t.number f)
    cases false f e = inr e

pub among_first : (n : List ℕ) (ts us : List served.Tally) → is_among n (ts ++ us) ≡ true → (is_among n ts ≡ true) ⊎ (is_among n us ≡ true)
among_first n [] us is = inr is
among_first n (t ∷ ts) us is = cases (bytes_eq n t.number) (λ e. among_first n ts us e) is
  where
    cases : (b : Bool) → (is_among n (ts ++ us) ≡ true → (is_among n ts ≡ true) ⊎ (is_among n us ≡ true))
        → (b || is_among n (ts ++ us)) ≡ true → ((b || is_among n ts) ≡ true) ⊎ (is_among n us ≡ true)
    cases true rest e = inl refl
    cases false rest e = rest e

-- numbers that differ
pub new_later : (n : List ℕ) (ts us : List served.Tally) → IsNew n (ts ++ us) → IsNew n us
new_later n [] us new = new
new_later n (t ∷ ts) us new = new_later n ts us new.1

pub apart_later : (ts us : List served.Tally) → AllApart (ts ++ us) → AllApart us
apart_later [] us apart = apart
apart_later (t ∷ ts) us apart = apart_later ts us apart.1

-- what is tallied of some is of the first, and of the later ones
pub tallied_first : (log : List HubEvent) (ts us : List served.Tally) → AllTallied log (ts ++ us) → AllTallied log ts
tallied_first log [] us all = tt
tallied_first log (t ∷ ts) us all = (all.0, tallied_first log ts us all.1)

pub tallied_later : (log : List HubEvent) (ts us : List served.Tally) → AllTallied log (ts ++ us) → AllTallied log us
tallied_later log [] us all = all
tallied_later log (t ∷ ts) us all = tallied_later log ts us all.1

-- The messages of the calls that each half of a session makes for its site.

-- a take for this site
abbrev pub IsTakeFor : ℕ → served.Call → Type 0
IsTakeFor i Join = ⊥
IsTakeFor i (served.Take j up) = j ≡ i
IsTakeFor i (served.Fetch j max) = ⊥
IsTakeFor i (served.Leave j) = ⊥

-- # The messages of calls in a row

pub takes_both : (site : ℕ) (es fs : List HubEvent) → takes_of site (es ++ fs) ≡ takes_of site es ++ takes_of site fs
takes_both site [] fs = refl
takes_both site (e ∷ es) fs = ap (λ us. taken_with site e.call [] ++ us) (takes_both site es fs) ∙ sym (append_assoc (taken_with site e.call []) (takes_of site es) (takes_of site fs))

pub fetches_both : (site : ℕ) (es fs : List HubEvent) → fetches_of site (es ++ fs) ≡ fetches_of site es ++ fetches_of site fs
fetches_both site [] fs = refl
fetches_both site (e ∷ es) fs =
    ap (λ us. fetched_with site e.call e.reply [] ++ us) (fetches_both site es fs) ∙ sym (append_assoc (fetched_with site e.call e.reply []) (fetches_of site es) (fetches_of site fs))

-- # Calls of the reading half

-- a take for a site brings its message
pub own_take : (site : ℕ) (up : served.Up served.BoardBatch) (c : served.Call) → c ≡ served.Take site up → taken_with site c [] ≡ up ∷ []
own_take site up c is = ap (λ k. taken_with site k []) is ∙ here (nat_eq site site) (eq-eqb site site refl)
  where
    here : (b : Bool) → b ≡ true → cond b (up ∷ []) [] ≡ up ∷ []
    here true e = refl
    here false e = absurd (cc)

-- the session took just the messages that the site said
pub takes_are : (site : ℕ) (saids : List served.Said) (calls : List HubEvent) → sessions.AreTakesOf site saids calls → saids ≡ map (λ up. served.SaysUp up) (takes_of site calls)
takes_are site [] [] h = refl
takes_are site [] (e ∷ es) h = absurd h
takes_are site (served.SaysUp up ∷ saids) [] h = absurd h
takes_are site (served.SaysUp up ∷ saids) (e ∷ es) h =
    ap (λ ss. served.SaysUp up ∷ ss) (takes_are site saids es h.2)
    ∙ ap (λ us. map (λ u. served.SaysUp u) (us ++ takes_of site es)) (sym (own_take site up e.call h.0))
takes_are site (SaysBye ∷ saids) calls h = absurd h

pub takes_alone : (site : ℕ) (saids : List served.Said) (calls : List HubEvent) → sessions.AreTakesOf site saids calls → served.AllByRecursion (λ e. IsTakeFor site e.call) calls
takes_alone site [] [] h = tt
takes_alone site [] (e ∷ es) h = absurd h
takes_alone site (served.SaysUp up ∷ saids) [] h = absurd h
takes_alone site (served.SaysUp up ∷ saids) (e ∷ es) h = (subst (IsTakeFor site) (sym h.0) refl, takes_alone site saids es h.2)
takes_alone site (SaysBye ∷ saids) calls h = absurd h

-- # Calls of the writing half

-- what a fetch for a site brings
own_fetch : (site : ℕ) (c : served.Call) (r : served.StarReply) → sessions.IsFetchFor site c → fetched_with site c r [] ≡ sessions.brought r
own_fetch site Join r h = absurd h
own_fetch site (served.Take i up) r h = absurd h
own_fetch site (served.Fetch i max) r h = here (nat_eq i site) (eq-eqb i site h.0) ∙ same r
  where
    here : (b : Bool) → b ≡ true → cond b (fetched_in r) [] ≡ fetched_in r
    here true e = refl
    here false e = absurd (cc)

    same : (r : served.StarReply) → fetched_in r ≡ sessions.brought r
    same (served.Fetched (Ok downs)) = refl
    same (served.Fetched (Err fault)) = refl
    same (served.JoinedReply x) = refl
    same (served.Taken x) = refl
    same (served.Left x) = refl
own_fetch site (served.Leave i) r h = absurd h

-- the lines that fetches brought are those of their messages
pub fetches_are : (site : ℕ) (calls : List HubEvent) → sessions.AreFetchesFor site calls → sessions.lines_brought calls ≡ messages_down (fetches_of site calls)
fetches_are site [] h = refl
fetches_are site (e ∷ es) h =
    served.flat_map-cons (λ (x : HubEvent). served.flat_map down_lines (sessions.brought x.reply)) e es
    ∙ ap (λ ls. served.flat_map down_lines (sessions.brought e.reply) ++ ls) (fetches_are site es h.1)
    ∙ ap (λ ds. served.flat_map down_lines ds ++ messages_down (fetches_of site es)) (sym (own_fetch site e.call e.reply h.0))
    ∙ sym (served.flat_map-append down_lines (fetched_with site e.call e.reply []) (fetches_of site es))

-- # Under which number

-- a call that is no take for the site brings none of its messages
no_take : (i : ℕ) (c : served.Call) → (IsTakeFor i c → ⊥) → taken_with i c [] ≡ []
no_take i Join none = refl
no_take i (served.Take j u) none = cases (nat_eq j i) refl
  where
    cases : (b : Bool) → nat_eq j i ≡ b → cond b (u ∷ []) [] ≡ []
    cases true e = absurd (none (eqb-true j i e))
    cases false e = refl
no_take i (served.Fetch j max) none = refl
no_take i (served.Leave j) none = refl

-- a fetch for this site, of however many messages
abbrev pub IsFetchOf : ℕ → served.Call → Type 0
IsFetchOf site (served.Fetch i max) = i ≡ site
IsFetchOf site call = ⊥

pub fetch_of : (site : ℕ) (c : served.Call) → sessions.IsFetchFor site c → IsFetchOf site c
fetch_of site Join h = absurd h
fetch_of site (served.Take i up) h = absurd h
fetch_of site (served.Fetch i max) h = h.0
fetch_of site (served.Leave i) h = absurd h

no_fetch : (i : ℕ) (c : served.Call) (r : served.StarReply) → (IsFetchOf i c → ⊥) → fetched_with i c r [] ≡ []
no_fetch i Join r none = refl
no_fetch i (served.Take j u) r none = refl
no_fetch i (served.Fetch j max) r none = cases (nat_eq j i) refl
  where
    cases : (b : Bool) → nat_eq j i ≡ b → cond b (fetched_in r) [] ≡ []
    cases true e = absurd (none (eqb-true j i e))
    cases false e = refl
no_fetch i (served.Leave j) r none = refl

-- calls of a kind that are under one of two numbers, and not under the second, are under the first
pub under_one : (Is : served.Call → Type 0) (n m : List ℕ) (es : List HubEvent) → served.AllByRecursion (λ e. Is e.call → (e.by ≡ n) ⊎ (e.by ≡ m)) es → served.AllByRecursion (λ e. Is e.call → ⊥) (calls_by m es)
    → served.AllByRecursion (λ e. Is e.call → e.by ≡ n) es
under_one Is n m [] both none = tt
under_one Is n m (x ∷ xs) both none = cases (bytes_eq x.by m) refl none (λ later. under_one Is n m xs both.1 later)
  where
    cases : (b : Bool) → bytes_eq x.by m ≡ b → served.AllByRecursion (λ e. Is e.call → ⊥) (cond b (x ∷ calls_by m xs) (calls_by m xs))
        → (served.AllByRecursion (λ e. Is e.call → ⊥) (calls_by m xs) → served.AllByRecursion (λ e. Is e.call → e.by ≡ n) xs) → served.AllByRecursion (λ e. Is e.call → e.by ≡ n) (x ∷ xs)
    cases true f others rest = ((λ is. absurd (others.0 is)), rest others.1)
    cases false f others rest = ((λ is. elim (both.0 is) [ inl one ↦ one | inr two ↦ absurd (other_number x.by m f two) ]), rest others)

-- so if all takes for a site are under one number, its messages are those taken under it
pub takes_under : (n : List ℕ) (i : ℕ) (log : List HubEvent) → served.AllByRecursion (λ e. IsTakeFor i e.call → e.by ≡ n) log → takes_of i log ≡ takes_of i (calls_by n log)
takes_under n i [] all = refl
takes_under n i (e ∷ es) all = cases (bytes_eq e.by n) refl (takes_under n i es all.1)
  where
    cases : (b : Bool) → bytes_eq e.by n ≡ b → takes_of i es ≡ takes_of i (calls_by n es) → taken_with i e.call [] ++ takes_of i es ≡ takes_of i (cond b (e ∷ calls_by n es) (calls_by n es))
    cases true is later = ap (λ us. taken_with i e.call [] ++ us) later
    cases false is later = ap (λ us. us ++ takes_of i es) (no_take i e.call (λ take. other_number e.by n is (all.0 take))) ∙ later

pub fetches_under : (n : List ℕ) (i : ℕ) (log : List HubEvent) → served.AllByRecursion (λ e. IsFetchOf i e.call → e.by ≡ n) log → fetches_of i log ≡ fetches_of i (calls_by n log)
fetches_under n i [] all = refl
fetches_under n i (e ∷ es) all = cases (bytes_eq e.by n) refl (fetches_under n i es all.1)
  where
    cases : (b : Bool) → bytes_eq e.by n ≡ b → fetches_of i es ≡ fetches_of i (calls_by n es) → fetched_with i e.call e.reply [] ++ fetches_of i es ≡ fetches_of i (cond b (e ∷ calls_by n es) (calls_by n es))
    cases true is later = ap (λ us. fetched_with i e.call e.reply [] ++ us) later
    cases false is later = ap (λ us. us ++ fetches_of i es) (no_fetch i e.call e.reply (λ fetch. other_number e.by n is (all.0 fetch))) ∙ later

-- What the reading half of a session took is the first of what its site said by the bytes that were read.

-- These lines were handed on. By them the site said all that, and the first of it was taken, by these calls and no other. They are the lines of the first
-- of the bytes
pub record Took (site : ℕ) (a : served.Sourced) (v x : View) (bytes : List ℕ) : Type 0 where
  pub lines : List served.Line
  pub waiting : List served.Line
  pub progress : served.Progress
  pub saids : List served.Said
  pub held : Option (List served.Line)
  pub first : List ℕ
  pub goes_on : (before : List ℕ) (ls : List served.Line) → served.HasRead before (ls ++ a.waiting) a.progress → served.HasRead (before ++ first) (ls ++ (lines ++ waiting)) progress
  pub said : HasSaid lines saids held
  pub calls : List HubEvent
  pub made : x.made ≡ v.made ++ calls
  pub alone : served.AllByRecursion (λ e. IsTakeFor site e.call) calls
  pub later : List served.Said
  pub takes : saids ≡ map (λ up. served.SaysUp up) (takes_of site calls) ++ later
  pub rest : List ℕ
  pub bytes_are : bytes ≡ first ++ rest

-- the call that a message led to: its take, or none
record MayTake (site : ℕ) (up : served.Up served.BoardBatch) (w x : View) : Type 0 where
  more : List HubEvent
  made : x.made ≡ w.made ++ more
  alone : served.AllByRecursion (λ e. IsTakeFor site e.call) more
  later : List served.Said
  takes : served.SaysUp up ∷ [] ≡ map (λ u. served.SaysUp u) (takes_of site more) ++ later

not_taken : (site : ℕ) (up : served.Up served.BoardBatch) (w x : View) → x ≡ w → MayTake site up w x
not_taken site up w x same = record { more = []; made = ap (λ (z : View). z.made) same ∙ sym (append-nil w.made); alone = tt; later = served.SaysUp up ∷ []; takes = refl }

one_taken : (site : ℕ) (up : served.Up served.BoardBatch) (reply : served.StarReply) (w x : View) → Called (served.Take site up) reply w x → MayTake site up w x
one_taken site up reply w x c = record {
  more = entry w.number (served.Take site up) reply ∷ [];
  made = ap (λ (z : View). z.made) c.view;
  alone = (refl, tt);
  later = [];
  takes = sym (append-nil (map (λ u. served.SaysUp u) (takes_of site (entry w.number (served.Take site up) reply ∷ [])))
      ∙ ap (λ us. map (λ u. served.SaysUp u) us) (append-nil (taken_with site (served.Take site up) []) ∙ own_take site up (served.Take site up) refl));
}

may_take : (site : ℕ) (incoming : Incoming) (w x : View) (answer : Result (Option ℕ) HubFault) → Made (λ r. served.Taken r) (served.Take site incoming.up) w x answer → MayTake site incoming.up w x
may_take site incoming w x (Ok place) h = one_taken site incoming.up (served.Taken (Ok place)) w x h
may_take site incoming w x (Err HubSpent) h = not_taken site incoming.up w x h.0
may_take site incoming w x (Err (Star e)) h = go (is_no_memory e) h
  where
    go : (b : Bool) → MatchBool b ((x ≡ w) × ComesToAsk (served.Take site incoming.up) w) (Called (served.Take site incoming.up) (served.Taken (Err e)) w x) → MayTake site incoming.up w x
    go true k = not_taken site incoming.up w x k.0
    go false k = one_taken site incoming.up (served.Taken (Err e)) w x k

at_message : (site : ℕ) (incoming : Incoming) (w x : View) (ending : served.Ending) (withheld : Option Untaken) → sessions.EndsAt site incoming w x ending withheld → MayTake site incoming.up w x
at_message site incoming w x ending withheld (sessions.Refused answer made is none) = may_take site incoming w x answer made
at_message site incoming w x ending withheld (sessions.Withheld why holds same is so) = not_taken site incoming.up w x same

-- no further call was made
took_all : (site : ℕ) (a b : served.Sourced) (v w x : View) (keeper : Keeper) (h : sessions.Hears site a v b w keeper) (rest : List ℕ) → x ≡ w → Took site a v x (h.handed.bytes ++ rest)
took_all site a b v w x keeper h rest same = record {
  lines = h.lines;
  waiting = b.waiting;
  progress = b.progress;
  saids = h.saids;
  held = keeper.0;
  first = h.handed.bytes;
  goes_on = h.handed.goes_on;
  said = h.heard.0;
  calls = h.calls;
  made = ap (λ (z : View). z.made) same ∙ h.made;
  alone = takes_alone site h.saids h.calls h.takes;
  later = [];
  takes = takes_are site h.saids h.calls h.takes ∙ sym (append-nil (map (λ u. served.SaysUp u) (takes_of site h.calls)));
  rest = rest;
  bytes_are = refl;
}

took_over : (site : ℕ) (a b c : served.Sourced) (v w x : View) (keeper : Keeper) (ending : served.Ending) (withheld : Option Untaken) (h : sessions.Hears site a v b w keeper)
    (over : sessions.Over site (length h.lines) b c w x keeper ending withheld) → Took site a v x (h.handed.bytes ++ served.bytes_over over)
took_over site a b c v w x keeper ending withheld h (sessions.Stopped stop stops same ends none) = took_all site a b v w x keeper h stops.reads.bytes same
took_over site a b c v w x keeper ending withheld h (sessions.ByLine line later handed same leads none) = took_all site a b v w x keeper h handed.bytes same
took_over site a b c v w x keeper ending withheld h (sessions.Spent at same all is none) = took_all site a b v w x keeper h [] same
took_over site a b c v w x keeper ending withheld h (sessions.AtMessage line later incoming handed leads ends) =
    let led = leads h.lines h.saids h.heard in
    let may = at_message site incoming w x ending withheld ends in
    record {
      lines = h.lines ++ line ∷ [];
      waiting = c.waiting;
      progress = c.progress;
      saids = h.saids ++ served.SaysUp incoming.up ∷ [];
      held = later.0;
      first = h.handed.bytes ++ handed.bytes;
      goes_on = λ before ls read.
          subst (λ bs. served.HasRead bs (ls ++ ((h.lines ++ line ∷ []) ++ c.waiting)) c.progress) (append_assoc before h.handed.bytes handed.bytes)
          (subst (λ l. served.HasRead ((before ++ h.handed.bytes) ++ handed.bytes) l c.progress)
          (append_assoc ls h.lines (line ∷ c.waiting) ∙ ap (λ l. ls ++ l) (sym (append_assoc h.lines (line ∷ []) c.waiting)))
          (handed.goes_on (before ++ h.handed.bytes) (ls ++ h.lines)
          (subst (λ l. served.HasRead (before ++ h.handed.bytes) l b.progress) (sym (append_assoc ls h.lines b.waiting)) (h.handed.goes_on before ls read))));
      said = led.0.0;
      calls = h.calls ++ may.more;
      made = may.made ∙ ap (λ es. es ++ may.more) h.made ∙ append_assoc v.made h.calls may.more;
      alone = served.all-append (λ (e : HubEvent). IsTakeFor site e.call) h.calls may.more (takes_alone site h.saids h.calls h.takes) may.alone;
      later = may.later;
      takes = ap (λ ss. ss ++ served.SaysUp incoming.up ∷ []) (takes_are site h.saids h.calls h.takes)
          ∙ ap (λ ss. map (λ u. served.SaysUp u) (takes_of site h.calls) ++ ss) may.takes
          ∙ sym (append_assoc (map (λ u. served.SaysUp u) (takes_of site h.calls)) (map (λ u. served.SaysUp u) (takes_of site may.more)) may.later)
          ∙ ap (λ ss. ss ++ may.later)
          (sym (ap (λ us. map (λ u. served.SaysUp u) us) (takes_both site h.calls may.more) ∙ served.map-append (λ u. served.SaysUp u) (takes_of site h.calls) (takes_of site may.more)));
      rest = [];
      bytes_are = sym (append-nil (h.handed.bytes ++ handed.bytes));
    }

-- the reading half, or a session that could not begin to read
pub took : (site : ℕ) (a c : served.Sourced) (v x : View) (ending : served.Ending) (withheld : Option Untaken) (heard : sessions.Heard site a v c x ending withheld) → Took site a v x (served.bytes_heard heard)
took site a c v x ending withheld (inl h) = took_over site a h.before c v h.pass x h.keeper ending withheld h.hears h.over
took site a c v x ending withheld (inr h) = record {
  lines = [];
  waiting = a.waiting;
  progress = a.progress;
  saids = [];
  held = Some [];
  first = [];
  goes_on = λ before ls read. subst (λ bs. served.HasRead bs (ls ++ a.waiting) a.progress) (sym (append-nil before)) read;
  said = served.at_first;
  calls = [];
  made = ap (λ (z : View). z.made) h.pass ∙ sym (append-nil v.made);
  alone = tt;
  later = [];
  takes = refl;
  rest = [];
  bytes_are = refl;
}

-- The calls of a session that served a site: the join and the takes under one number, the fetches and the departure under another.

module _ (s : served_sessions.Ended) (serves : served_sessions.ServesSite s) where
  -- its join
  abbrev pub join : HubEvent
  join = entry s.given.number Join (served.JoinedReply (Ok (served_sessions.answer_of serves)))

  -- what its reading half took
  pub half : Took serves.served.site serves.served.greeted (after_split serves.served.behind) serves.served.halves.read (served.bytes_heard serves.served.halves.hears)
  half = took serves.served.site serves.served.greeted serves.served.halves.last (after_split serves.served.behind) serves.served.halves.read serves.served.halves.heard s.undone.untaken serves.served.halves.hears

  -- the calls by which its site left
  abbrev pub departing : List HubEvent
  departing = serves.served.halves.back ++ serves.served.halves.leaves

  module _ (new : sessions.HasMadeNone s.given) where
    behind_made : serves.served.behind.made ≡ join ∷ []
    behind_made = ap (λ (v : View). v.made) serves.served.welcomed.enters.view ∙ ap (λ es. es ++ join ∷ []) new.0

    pub made_is : s.back.made ≡ join ∷ half.calls
    made_is = serves.served.halves.made ∙ half.made ∙ ap (λ es. es ++ half.calls) behind_made

    read_kept : serves.served.halves.read.kept ≡ []
    read_kept =
        (heard_serves serves.served.site serves.served.greeted serves.served.halves.last (after_split serves.served.behind) serves.served.halves.read serves.served.halves.heard s.undone.untaken serves.served.halves.hears).kept
        ∙ ap (λ (v : View). v.kept) serves.served.welcomed.enters.view ∙ new.1

    pub kept_is : s.back.kept ≡ tally (served_sessions.writer_of serves) (served_sessions.fetches_for serves ++ departing) ∷ []
    kept_is = serves.served.halves.kept ∙ ap (λ ts. ts ++ tally (served_sessions.writer_of serves) (served_sessions.fetches_for serves ++ departing) ∷ []) read_kept

-- The calls of sites and of a star.
use Rattle.std.proofs.Common.{◌≡◌, false, ℕ, ◌<◌, List, [], ◌∷◌, ◌++◌, drop, Option, Some, None, option_to_list, Result, Ok, Err, refl, sym, ap, ◌∙◌, subst, zero, suc, ◌+◌, ◌≤◌, Bool, true, cond, not, take, map, nat_eq, arith}
use Rattle.jup_app.specs.Prelude.{EditFault, BoardBatch, Commands, board_batches, MadeEdit as Made, SiteFault, StarFault, Joined, Call, Join, Take, Fetch, Leave, JoinedReply, Fetched, edit_answer, deliver_fault, BoardSite, EditAnswers, is_edit_memory, made_by, BoardAttached, one_taken, HubEvent, AllByRecursion, eqb-true, star_through}
use Rattle.jup_star.specs.declared.calls.StarReply.TheVariants.{Taken}
use Rattle.jup_star.specs.declared.messages.Down.TheVariants as down
use Rattle.jup_star.specs.declared.messages.Up.TheVariants as up
use Rattle.jup_star.specs.Stars.{is_of, link_fetched, opened_link, link_heard, link_sent, link_acked, link_ponged, operation_at, link_of, without, at_link, join_fault, joined, up_fault, take_fault, taken, left, fetched, IsNew, AreApart, BoardStar, BoardLink, joining, join_result, after_join, take_result, after_take, fetch_result, after_fetch, after_leave, reply_of, star_after}
use Rattle.jup_star.specs.Sites as star_sites
use Rattle.jup_star.proofs.LinkChanges.{apart_map, apart_without}
use Rattle.jup_app.specs.Runs.{BoardUp, BoardDown, Step, Edited, Took, Got, edit_by, edited, delivered, all_delivered, IsAccepted, IsPlayed, link_with}

-- What the calls on a site do to it and to what it has still to send.

-- a message that was not refused
pub record Hands (d : BoardDown) (s t : BoardSite) (owed : Option BoardUp) : Type 0 where
  pub fine : deliver_fault board_batches d s ≡ None
  pub site : t ≡ star_sites.received board_batches d s
  pub back : owed ≡ star_sites.sent_back board_batches d s

pub deliver_gives : (d : BoardDown) (s t : BoardSite) (owed : Option BoardUp) → star_sites.DeliverAnswers d s t (Ok owed) → Hands d s t owed
deliver_gives d s t owed a = go (deliver_fault board_batches d s) refl a.0 a.1
  where
    go : (o : Option SiteFault) → deliver_fault board_batches d s ≡ o → Ok owed ≡ star_sites.deliver_result d s o → t ≡ star_sites.after_fault board_batches d s o → Hands d s t owed
    go None e f g = record { fine = e; site = g; back = cc }
    go (Some x) e f g = absurd cc

pub handed_accepted : (d : BoardDown) (s t : BoardSite) (owed : Option BoardUp) (r : Result (Option BoardUp) SiteFault) (up : List BoardUp) → star_sites.DeliverAnswers d s t r → r ≡ Ok owed → IsAccepted d (link_with s up)
handed_accepted d s t owed r up a is = (deliver_gives d s t owed (subst (λ r. star_sites.DeliverAnswers d s t r) is a)).fine

pub handed_link : (d : BoardDown) (s t : BoardSite) (owed : Option BoardUp) (r : Result (Option BoardUp) SiteFault) (up : List BoardUp) → star_sites.DeliverAnswers d s t r → r ≡ Ok owed
    → delivered d (link_with s up) ≡ link_with t (up ++ option_to_list owed)
handed_link d s t owed r up a is =
    let h = deliver_gives d s t owed (subst (λ r. star_sites.DeliverAnswers d s t r) is a) in
    ap (λ (x : BoardSite). link_with x (up ++ option_to_list (star_sites.sent_back board_batches d s))) (sym h.site) ∙ ap (λ (o : Option BoardUp). link_with t (up ++ option_to_list o)) (sym h.back)

-- an edit that was made
pub record Makes (c : Commands) (s t : BoardSite) (m : Made) : Type 0 where
  pub op : BoardBatch
  pub is : edit_answer board_batches c s ≡ Ok op
  pub made : m ≡ made_by op s
  pub site : t ≡ star_sites.edited board_batches op s

pub edit_gives : (c : Commands) (s t : BoardSite) (m : Made) → EditAnswers c s t (Ok m) → Makes c s t m
edit_gives c s t m a = go (edit_answer board_batches c s) refl a.0 a.1
  where
    go : (r : Result BoardBatch EditFault) → edit_answer board_batches c s ≡ r → Ok m ≡ star_sites.made_result s r → t ≡ star_sites.after_edit s r → Makes c s t m
    go (Ok op) e f g = record { op = op; is = e; made = cc; site = g }
    go (Err n) e f g = absurd cc

-- a command that was refused, unless an allocation failed
pub edit_refused : (c : Commands) (s t : BoardSite) (f : EditFault) → is_edit_memory f ≡ false → EditAnswers c s t (Err f) → (edit_answer board_batches c s ≡ Err f) × (t ≡ s)
edit_refused c s t f not a =
    let both = rw not at a in
    go (edit_answer board_batches c s) refl both.0 both.1
  where
    go : (r : Result BoardBatch EditFault) → edit_answer board_batches c s ≡ r → Err f ≡ star_sites.made_result s r → t ≡ star_sites.after_edit s r → (edit_answer board_batches c s ≡ Err f) × (t ≡ s)
    go (Ok op) e h g = absurd cc
    go (Err n) e h g = (e ∙ (let same : n ≡ f = cc in ap (λ k. Err k) same), g)

-- no step changes a site's number
edited_number : (c : Commands) (a : BoardAttached) → (edited c a).site.number ≡ a.site.number
edited_number c a = go (edit_answer board_batches c a.site)
  where
    go : (r : Result BoardBatch EditFault) → (edit_by r a).site.number ≡ a.site.number
    go (Ok op) = refl
    go (Err n) = refl

pub delivered_number : (d : BoardDown) (a : BoardAttached) → (delivered d a).site.number ≡ a.site.number
delivered_number (down.Op m) a = refl
delivered_number (down.Ack n) a = refl
delivered_number (down.Pong k) a = refl

all_delivered_number : (ds : List BoardDown) (a : BoardAttached) → (all_delivered ds a).site.number ≡ a.site.number
all_delivered_number [] a = refl
all_delivered_number (d ∷ ds) a = all_delivered_number ds (delivered d a) ∙ delivered_number d a

pub played_number : (log : List Step) (a b : BoardAttached) → IsPlayed a log b → b.site.number ≡ a.site.number
played_number [] a b is = ap (λ (x : BoardAttached). x.site.number) (sym is)
played_number (Edited c r ∷ log) a b is = played_number log (edited c a) b is.1 ∙ edited_number c a
played_number (Took u p ∷ log) a b is = played_number log (one_taken board_batches a) b is.1
played_number (Got n ds ∷ log) a b is = played_number log (all_delivered ds a) b is.2 ∙ all_delivered_number ds a

-- Joins, takes and fetches on a star.

-- a join that was not refused
pub join_gives : (s : BoardStar) (j : Joined) → reply_of Join s ≡ JoinedReply (Ok j) → (join_fault s ≡ None) × (j ≡ joining s) × (star_after Join s ≡ joined s)
unfolding reply_of star_after
join_gives s j is = go (join_fault s) refl is
  where
    go : (o : Option StarFault) → join_fault s ≡ o → JoinedReply (join_result s o) ≡ JoinedReply (Ok j) → (join_fault s ≡ None) × (j ≡ joining s) × (after_join s (join_fault s) ≡ joined s)
    go None e f = (e, cc, ap (λ o. after_join s o) e)
    go (Some x) e f = absurd cc

-- a take that was not refused
pub record Takes (s : BoardStar) (i : ℕ) (u : BoardUp) (p : Option ℕ) : Type 0 where
  pub link : BoardLink
  pub is : link_of i s.links ≡ Some link
  pub fine : up_fault board_batches s link u ≡ None
  pub after : star_after (Take i u) s ≡ taken board_batches i u link s

pub take_gives : (s : BoardStar) (i : ℕ) (u : BoardUp) (p : Option ℕ) → reply_of (Take i u) s ≡ Taken (Ok p) → Takes s i u p
unfolding reply_of star_after
take_gives s i u p is = go (link_of i s.links) refl is
  where
    at : (l : BoardLink) → link_of i s.links ≡ Some l → (o : Option StarFault) → up_fault board_batches s l u ≡ o → Taken (take_result s u o) ≡ Taken (Ok p) → Takes s i u p
    at l e None f g = record {
      link = l;
      is = e;
      fine = f;
      after = ap (λ o. after_take i u s o (take_fault board_batches s u o)) e ∙ ap (λ o. after_take i u s (Some l) o) f;
    }
    at l e (Some x) f g = absurd cc

    go : (o : Option BoardLink) → link_of i s.links ≡ o → Taken (take_result s u (take_fault board_batches s u o)) ≡ Taken (Ok p) → Takes s i u p
    go None e f = absurd cc
    go (Some l) e f = at l e (up_fault board_batches s l u) refl f

-- a fetch that was not refused
pub record Fetches (s : BoardStar) (i m : ℕ) (ds : List BoardDown) : Type 0 where
  pub link : BoardLink
  pub is : link_of i s.links ≡ Some link
  pub gave : take m link.outbox ≡ ds
  pub after : star_after (Fetch i m) s ≡ fetched i m s

pub fetch_gives : (s : BoardStar) (i m : ℕ) (ds : List BoardDown) → reply_of (Fetch i m) s ≡ Fetched (Ok ds) → Fetches s i m ds
unfolding reply_of star_after
fetch_gives s i m ds is = go (link_of i s.links) refl is
  where
    go : (o : Option BoardLink) → link_of i s.links ≡ o → Fetched (fetch_result m o) ≡ Fetched (Ok ds) → Fetches s i m ds
    go None e f = absurd cc
    go (Some l) e f = record { link = l; is = e; gave = cc; after = ap (λ o. after_fetch i m s o) e }

-- what a link gives is what its star answers
pub fetch_from : (s : BoardStar) (i m : ℕ) (l : BoardLink) → link_of i s.links ≡ Some l → reply_of (Fetch i m) s ≡ Fetched (Ok (take m l.outbox))
unfolding reply_of
fetch_from s i m l is = ap (λ o. Fetched (fetch_result m o)) is

-- the sites of the links differ, and were given
pub record IsTidy (s : BoardStar) : Type 0 where
  pub apart : AreApart s.links
  pub within : AllByRecursion (λ (l : BoardLink). l.site ≤ s.given) s.links

within_map : (f : BoardLink → BoardLink) → ((l : BoardLink) → (f l).site ≡ l.site) → (n : ℕ) (ls : List BoardLink) → AllByRecursion (λ (l : BoardLink). l.site ≤ n) ls → AllByRecursion (λ (l : BoardLink). l.site ≤ n) (map f ls)
within_map f same n [] all = tt
within_map f same n (l ∷ ls) all = (omega (arith, same l, all.0), within_map f same n ls all.1)

within_without : (i n : ℕ) (ls : List BoardLink) → AllByRecursion (λ (l : BoardLink). l.site ≤ n) ls → AllByRecursion (λ (l : BoardLink). l.site ≤ n) (without i ls)
within_without i n [] all = tt
within_without i n (l ∷ ls) all = go (is_of i l) all.0 (within_without i n ls all.1)
  where
    go : (b : Bool) → l.site ≤ n → AllByRecursion (λ (l : BoardLink). l.site ≤ n) (without i ls) → AllByRecursion (λ (l : BoardLink). l.site ≤ n) (cond (not b) (l ∷ without i ls) (without i ls))
    go true low rest = rest
    go false low rest = (low, rest)

within_more : (n : ℕ) (l : BoardLink) (ls : List BoardLink) → l.site ≡ n + 1 → AllByRecursion (λ (l : BoardLink). l.site ≤ n) ls → AllByRecursion (λ (l : BoardLink). l.site ≤ n + 1) (ls ++ l ∷ [])
within_more n l [] is all = (omega (arith, is), tt)
within_more n l (k ∷ ls) is all = (omega (arith, all.0), within_more n l ls is all.1)

differs : (i j : ℕ) → (i ≡ j → ⊥) → nat_eq i j ≡ false
differs i j ne = go (nat_eq i j) refl
  where
    go : (b : Bool) → nat_eq i j ≡ b → b ≡ false
    go true e = absurd (ne (eqb-true i j e))
    go false e = refl

new_end : (i n : ℕ) (l : BoardLink) (ls : List BoardLink) → i ≤ n → l.site ≡ n + 1 → IsNew i ls → IsNew i (ls ++ l ∷ [])
new_end i n l [] low is new = (differs l.site i (λ e. omega (arith, e, is)), tt)
new_end i n l (k ∷ ls) low is new = (new.0, new_end i n l ls low is new.1)

apart_end : (n : ℕ) (l : BoardLink) (ls : List BoardLink) → l.site ≡ n + 1 → AllByRecursion (λ (l : BoardLink). l.site ≤ n) ls → AreApart ls → AreApart (ls ++ l ∷ [])
apart_end n l [] is all apart = (tt, tt)
apart_end n l (k ∷ ls) is all apart = (new_end k.site n l ls all.0 is apart.0, apart_end n l ls is all.1 apart.1)

tidy_map : (s t : BoardStar) (f : BoardLink → BoardLink) → ((l : BoardLink) → (f l).site ≡ l.site) → t.given ≡ s.given → t.links ≡ map f s.links → IsTidy s → IsTidy t
tidy_map s t f same given links tidy = record {
  apart = subst (λ ls. AreApart ls) (sym links) (apart_map f same s.links tidy.apart);
  within = subst (λ ls. AllByRecursion (λ (l : BoardLink). l.site ≤ t.given) ls) (sym links) (subst (λ n. AllByRecursion (λ (l : BoardLink). l.site ≤ n) (map f s.links)) (sym given) (within_map f same s.given s.links tidy.within));
}

tidy_left : (i : ℕ) (s : BoardStar) → IsTidy s → IsTidy (left i s)
tidy_left i s tidy = record { apart = apart_without i s.links tidy.apart; within = within_without i s.given s.links tidy.within }

tidy_joined : (s : BoardStar) → IsTidy s → IsTidy (joined s)
tidy_joined s tidy = record {
  apart = apart_end s.given (opened_link (s.given + 1)) s.links refl tidy.within tidy.apart;
  within = within_more s.given (opened_link (s.given + 1)) s.links refl tidy.within;
}

either_site : (b : Bool) (k m l : BoardLink) → k.site ≡ l.site → m.site ≡ l.site → (cond b k m).site ≡ l.site
either_site true k m l a c = a
either_site false k m l a c = c

changed_site : (i : ℕ) (f : BoardLink → BoardLink) → ((l : BoardLink) → (f l).site ≡ l.site) → (l : BoardLink) → (cond (is_of i l) (f l) l).site ≡ l.site
changed_site i f same l = either_site (is_of i l) (f l) l l (same l) refl

tidy_taken : (i : ℕ) (u : BoardUp) (l : BoardLink) (s : BoardStar) → IsTidy s → IsTidy (taken board_batches i u l s)
tidy_taken i (up.Op m) l s tidy =
    let op = operation_at board_batches l.end m in
    tidy_map s (taken board_batches i (up.Op m) l s) (λ k. cond (is_of i k) (link_heard board_batches m k) (link_sent op k))
    (λ k. either_site (is_of i k) (link_heard board_batches m k) (link_sent op k) k refl refl) refl refl tidy
tidy_taken i (up.Ack n) l s tidy = tidy_map s (taken board_batches i (up.Ack n) l s) (λ k. cond (is_of i k) (link_acked n k) k) (changed_site i (link_acked n) (λ k. refl)) refl refl tidy
tidy_taken i (up.Ping n) l s tidy = tidy_map s (taken board_batches i (up.Ping n) l s) (λ k. cond (is_of i k) (link_ponged n k) k) (changed_site i (link_ponged n) (λ k. refl)) refl refl tidy

tidy_fetched : (i m : ℕ) (s : BoardStar) → IsTidy s → IsTidy (fetched i m s)
tidy_fetched i m s tidy = tidy_map s (fetched i m s) (λ k. cond (is_of i k) (link_fetched m k) k) (changed_site i (link_fetched m) (λ k. refl)) refl refl tidy

-- a call keeps a star tidy
pub tidy_after : (c : Call) (s : BoardStar) → IsTidy s → IsTidy (star_after c s)
unfolding star_after
tidy_after Join s tidy = go (join_fault s)
  where
    go : (o : Option StarFault) → IsTidy (after_join s o)
    go None = tidy_joined s tidy
    go (Some e) = tidy
tidy_after (Take i u) s tidy = go (link_of i s.links) (take_fault board_batches s u (link_of i s.links))
  where
    go : (o : Option BoardLink) (f : Option StarFault) → IsTidy (after_take i u s o f)
    go None f = tidy
    go (Some l) None = tidy_taken i u l s tidy
    go (Some l) (Some e) = tidy_left i s tidy
tidy_after (Fetch i m) s tidy = go (link_of i s.links)
  where
    go : (o : Option BoardLink) → IsTidy (after_fetch i m s o)
    go None = tidy
    go (Some l) = tidy_fetched i m s tidy
tidy_after (Leave i) s tidy = go (link_of i s.links)
  where
    go : (o : Option BoardLink) → IsTidy (after_leave i s o)
    go None = tidy
    go (Some l) = tidy_left i s tidy

-- and so does a history
pub tidy_through : (h : List HubEvent) (s : BoardStar) → IsTidy s → IsTidy (star_through s h)
tidy_through [] s tidy = tidy
tidy_through (e ∷ h) s tidy = tidy_through h (star_after e.call s) (tidy_after e.call s tidy)

drop_none : {A : Type 0} (m : ℕ) → drop {A = A} m [] ≡ []
drop_none zero = refl
drop_none (suc m) = refl

-- nothing is changed if no link is of the site
unchanged_new : (i : ℕ) (f : BoardLink → BoardLink) (ls : List BoardLink) → IsNew i ls → at_link i f ls ≡ ls
unchanged_new i f [] new = refl
unchanged_new i f (l ∷ ls) new = ap (λ b. cond b (f l) l ∷ at_link i f ls) new.0 ∙ ap (λ ks. l ∷ ks) (unchanged_new i f ls new.1)

-- a fetch that takes nothing out leaves the links
fetched_none : (i m : ℕ) (ls : List BoardLink) (l : BoardLink) → AreApart ls → link_of i ls ≡ Some l → drop m l.outbox ≡ l.outbox → at_link i (link_fetched m) ls ≡ ls
fetched_none i m [] l apart is none = absurd cc
fetched_none i m (k ∷ ls) l apart is none = go (λ f. fetched_none i m ls l apart.1 f none) (is_of i k) refl is
  where
    go : (link_of i ls ≡ Some l → at_link i (link_fetched m) ls ≡ ls) → (b : Bool) → is_of i k ≡ b → cond b (Some k) (link_of i ls) ≡ Some l → cond (is_of i k) (link_fetched m k) k ∷ at_link i (link_fetched m) ls ≡ k ∷ ls
    go later true e f =
        let same : k ≡ l = cc in
        let kept : drop m k.outbox ≡ k.outbox = ap (λ (x : BoardLink). drop m x.outbox) same ∙ none ∙ ap (λ (x : BoardLink). x.outbox) (sym same) in
        let here : link_fetched m k ≡ k = ap (λ (box : List BoardDown). record k { outbox = box }) kept in
        let of : k.site ≡ i = eqb-true k.site i e in
        ap (λ b. cond b (link_fetched m k) k ∷ at_link i (link_fetched m) ls) e ∙ ap (λ x. x ∷ at_link i (link_fetched m) ls) here ∙ ap (λ ks. k ∷ ks) (unchanged_new i (link_fetched m) ls (subst (λ j. IsNew j ls) of apart.0))
    go later false e f = ap (λ b. cond b (link_fetched m k) k ∷ at_link i (link_fetched m) ls) e ∙ ap (λ ks. k ∷ ks) (later f)

nothing_taken : (m : ℕ) (box : List BoardDown) → 0 < m → take m box ≡ [] → box ≡ []
nothing_taken zero box some e = absurd (omega arith)
nothing_taken (suc m) [] some e = refl
nothing_taken (suc m) (d ∷ box) some e = absurd cc

nothing_dropped : (m : ℕ) (box : List BoardDown) → take m box ≡ [] → drop m box ≡ box
nothing_dropped zero box e = refl
nothing_dropped (suc m) [] e = refl
nothing_dropped (suc m) (d ∷ box) e = absurd cc

-- nothing waits for a site
abbrev pub IsIdle : BoardStar → ℕ → Type 0
IsIdle s i = (l : BoardLink) → link_of i s.links ≡ Some l → l.outbox ≡ []

-- a fetch that finds nothing leaves the star, and nothing waits
pub fetch_nothing : (s : BoardStar) (i m : ℕ) → IsTidy s → reply_of (Fetch i m) s ≡ Fetched (Ok []) → star_after (Fetch i m) s ≡ s
fetch_nothing s i m tidy is =
    let f = fetch_gives s i m [] is in
    f.after ∙ ap (λ ls. record s { links = ls }) (fetched_none i m s.links f.link tidy.apart f.is (nothing_dropped m f.link.outbox f.gave))

pub fetch_empty : (s : BoardStar) (i m : ℕ) → 0 < m → reply_of (Fetch i m) s ≡ Fetched (Ok []) → IsIdle s i
fetch_empty s i m some is l at =
    let f = fetch_gives s i m [] is in
    let same : f.link ≡ l = (let both : Some f.link ≡ Some l = sym f.is ∙ at in cc) in
    ap (λ (x : BoardLink). x.outbox) (sym same) ∙ nothing_taken m f.link.outbox some f.gave

-- a fetch of several messages is a fetch of the first and one of the others
pub record InParts (s : BoardStar) (i m : ℕ) (d : BoardDown) (ds : List BoardDown) : Type 0 where
  pub link : BoardLink
  pub is : link_of i s.links ≡ Some link
  pub rest : List BoardDown
  pub waits : link.outbox ≡ d ∷ rest
  pub others : ℕ
  pub first : star_after (Fetch i 1) s ≡ fetched i 1 s
  pub next : reply_of (Fetch i others) (fetched i 1 s) ≡ Fetched (Ok ds)
  pub same : star_after (Fetch i others) (fetched i 1 s) ≡ star_after (Fetch i m) s

drop_more : {A : Type 0} (m : ℕ) (xs : List A) → drop m (drop 1 xs) ≡ drop (suc m) xs
drop_more m [] = drop_none m
drop_more m (x ∷ xs) = refl

twice_one : (i m : ℕ) (l : BoardLink) → cond (is_of i (cond (is_of i l) (link_fetched 1 l) l)) (link_fetched m (cond (is_of i l) (link_fetched 1 l) l)) (cond (is_of i l) (link_fetched 1 l) l) ≡ cond (is_of i l) (link_fetched (suc m) l) l
twice_one i m l = go (is_of i l) refl
  where
    go : (b : Bool) → is_of i l ≡ b → cond (is_of i (cond b (link_fetched 1 l) l)) (link_fetched m (cond b (link_fetched 1 l) l)) (cond b (link_fetched 1 l) l) ≡ cond b (link_fetched (suc m) l) l
    go true e = ap (λ b. cond b (link_fetched m (link_fetched 1 l)) (link_fetched 1 l)) e ∙ ap (λ (box : List BoardDown). record l { outbox = box }) (drop_more m l.outbox)
    go false e = ap (λ b. cond b (link_fetched m l) l) e

twice : (i m : ℕ) (ls : List BoardLink) → at_link i (link_fetched m) (at_link i (link_fetched 1) ls) ≡ at_link i (link_fetched (suc m)) ls
twice i m [] = refl
twice i m (l ∷ ls) = ap (λ k. k ∷ at_link i (link_fetched m) (at_link i (link_fetched 1) ls)) (twice_one i m l) ∙ ap (λ ks. cond (is_of i l) (link_fetched (suc m) l) l ∷ ks) (twice i m ls)

-- the link of a site after a fetch
link_after : (i m : ℕ) (ls : List BoardLink) (l : BoardLink) → link_of i ls ≡ Some l → link_of i (at_link i (link_fetched m) ls) ≡ Some (link_fetched m l)
link_after i m [] l is = absurd cc
link_after i m (k ∷ ls) l is = go (λ f. link_after i m ls l f) (is_of i k) refl is
  where
    go : (link_of i ls ≡ Some l → link_of i (at_link i (link_fetched m) ls) ≡ Some (link_fetched m l)) → (b : Bool) → is_of i k ≡ b → cond b (Some k) (link_of i ls) ≡ Some l
        → cond (is_of i (cond b (link_fetched m k) k)) (Some (cond b (link_fetched m k) k)) (link_of i (at_link i (link_fetched m) ls)) ≡ Some (link_fetched m l)
    go later true e f = ap (λ b. cond b (Some (link_fetched m k)) (link_of i (at_link i (link_fetched m) ls))) e ∙ (let same : k ≡ l = cc in ap (λ x. Some (link_fetched m x)) same)
    go later false e f = ap (λ b. cond b (Some k) (link_of i (at_link i (link_fetched m) ls))) e ∙ later f

pub fetch_in_parts : (s : BoardStar) (i m : ℕ) (d : BoardDown) (ds : List BoardDown) → reply_of (Fetch i m) s ≡ Fetched (Ok (d ∷ ds)) → InParts s i m d ds
fetch_in_parts s i m d ds is = go m (fetch_gives s i m (d ∷ ds) is)
  where
    at : (n : ℕ) (f : Fetches s i (suc n) (d ∷ ds)) (box : List BoardDown) → f.link.outbox ≡ box → take (suc n) box ≡ d ∷ ds → InParts s i (suc n) d ds
    at n f [] e g = absurd cc
    at n f (x ∷ rest) e g =
        let one : star_after (Fetch i 1) s ≡ fetched i 1 s = (fetch_gives s i 1 (take 1 f.link.outbox) (fetch_from s i 1 f.link f.is)).after in
        let now : link_of i (fetched i 1 s).links ≡ Some (link_fetched 1 f.link) = link_after i 1 s.links f.link f.is in
        let left : drop 1 f.link.outbox ≡ rest = ap (λ (b : List BoardDown). drop 1 b) e in
        let told : take n rest ≡ ds = cc in
        let next : reply_of (Fetch i n) (fetched i 1 s) ≡ Fetched (Ok ds) = fetch_from (fetched i 1 s) i n (link_fetched 1 f.link) now ∙ ap (λ (b : List BoardDown). Fetched (Ok (take n b))) left ∙ ap (λ (b : List BoardDown). Fetched (Ok b)) told in
        let head : x ≡ d = cc in
        record {
          link = f.link;
          is = f.is;
          rest = rest;
          waits = e ∙ ap (λ (y : BoardDown). y ∷ rest) head;
          others = n;
          first = one;
          next = next;
          same = (fetch_gives (fetched i 1 s) i n ds next).after ∙ ap (λ (ls : List BoardLink). record s { links = ls }) (twice i n s.links) ∙ sym f.after;
        }

    go : (m : ℕ) → Fetches s i m (d ∷ ds) → InParts s i m d ds
    go zero f = (let none : [] ≡ d ∷ ds = f.gave in absurd cc)
    go (suc n) f = at n f f.link.outbox refl f.gave

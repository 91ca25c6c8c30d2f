-- The assembled run of the core follows the history.
use Rattle.std.proofs.Common.{◌≡◌, ℕ, zero, suc, ◌+◌, ◌<◌, ◌≤◌, true, false, cond, List, [], ◌∷◌, ◌++◌, drop, Option, Some, None, option_map, Result, Ok, Err, refl, sym, ap, ◌∙◌, subst, arith, append-nil, append_assoc, inl, inr}
use Rattle.jup_app.specs.Prelude.{BoardBatch, BoardEdits, Commands, board_batches, batch_laws, StarFault, Call, Take, Fetch, edit_answer, HubEvent, Happened, BoardWorld, BoardAttached, BoardEvent, IsReached, attached, opened_world, Outcome, outcome, happens, run, one_taken, one_handed, with_edit, EditFault, AllByRecursion, eq-eqb, eqb-true, eqb-false, eqb, eqb_tells, IsLegal, star_through}
use Rattle.jup_star.specs.declared.messages.Down.TheVariants as down
use Rattle.jup_star.specs.declared.calls.StarReply.TheVariants as reply
use Rattle.jup_star.specs.Stars.{BoardLink, reply_of, star_after}
use Rattle.jup_world.specs.Events as event
use Rattle.jup_world.specs.Worlds as worlds
use Rattle.jup_world.proofs.Sound.Traces.{standing_of}
use Rattle.jup_world.proofs.Worlds.{reached_sound}
use Rattle.jup_app.specs.Runs.{BoardUp, BoardDown, EditAnswer, Made, made, Step, Edited, Took, Got, calls_of, edits_of, IsPlayed, IsAccepted, edited, answer_to, edit_by, answer_by, delivered, all_delivered, AcceptsAll, site_of, made_at, deliveries, through_call, past_call, with_log, left_over, assembled, IsSite, edit_at, edits_at}
use Rattle.jup_app.proofs.Stars as stars
use Rattle.jup_world.specs.Prelude.{link_of, fetched, most_batches, BoardStar, found-map, found-map_other}

eqb_self : (i : ℕ) → eqb i i ≡ true
eqb_self i = eq-eqb i i refl

-- the world after some events
abbrev pub after : BoardWorld → List BoardEvent → BoardWorld
after w es = run board_batches w es

pub run_append : (es fs : List BoardEvent) (w : BoardWorld) → after w (es ++ fs) ≡ after (after w es) fs
run_append [] fs w = refl
run_append (e ∷ es) fs w = run_append es fs (happens board_batches w e)

pub reached_more : (w : BoardWorld) (es : List BoardEvent) → IsReached w → IsReached (after w es)
reached_more w es r = record {
  board = r.board;
  limit = r.limit;
  events = r.events ++ es;
  opening = r.opening;
  limited = r.limited;
  is = ap (λ x. after x es) r.is ∙ sym (run_append r.events es (opened_world board_batches r.board r.limit));
}

-- an attached site has a link
linked : (w : BoardWorld) (i : ℕ) (l : BoardAttached) → IsReached w → attached i w.sites ≡ Some l → (k : BoardLink) × (link_of i w.star.links ≡ Some k)
linked w i l r is = let st = standing_of board_batches batch_laws most_batches w (reached_sound w r).sound i l is in (st.0, st.2)

-- a list of events brings the world to this star, with this site at one number and all others as they were; and what was
-- answered to each site's commands
pub record Leads (w : BoardWorld) (es : List BoardEvent) (i : ℕ) (s : BoardStar) (l : BoardAttached) (replies : List (Commands × EditAnswer)) : Type 0 where
  pub star : (after w es).star ≡ s
  pub here : attached i (after w es).sites ≡ Some l
  pub others : (j : ℕ) → eqb j i ≡ false → attached j (after w es).sites ≡ attached j w.sites
  pub replied : edits_at i (after w es).trace ≡ edits_at i w.trace ++ replies
  pub silent : (j : ℕ) → eqb j i ≡ false → edits_at j (after w es).trace ≡ edits_at j w.trace

leads_none : (w : BoardWorld) (i : ℕ) (l : BoardAttached) → attached i w.sites ≡ Some l → Leads w [] i w.star l []
leads_none w i l is = record { star = refl; here = is; others = λ j ne. refl; replied = sym (append-nil (edits_at i w.trace)); silent = λ j ne. refl }

pub leads_append : {w : BoardWorld} {es fs : List BoardEvent} {i : ℕ} {s t : BoardStar} {l m : BoardAttached} {rs qs : List (Commands × EditAnswer)} → Leads w es i s l rs → Leads (after w es) fs i t m qs → Leads w (es ++ fs) i t m (rs ++ qs)
leads_append {w} {es} {fs} {i} {s} {t} {l} {m} {rs} {qs} a b =
    let same = run_append es fs w in record {
      star = ap (λ (x : BoardWorld). x.star) same ∙ b.star;
      here = ap (λ (x : BoardWorld). attached i x.sites) same ∙ b.here;
      others = λ j ne. ap (λ (x : BoardWorld). attached j x.sites) same ∙ b.others j ne ∙ a.others j ne;
      replied = ap (λ (x : BoardWorld). edits_at i x.trace) same ∙ b.replied ∙ ap (λ es. es ++ qs) a.replied ∙ append_assoc (edits_at i w.trace) rs qs;
      silent = λ j ne. ap (λ (x : BoardWorld). edits_at j x.trace) same ∙ b.silent j ne ∙ a.silent j ne;
    }

pub edits_at_last : (i : ℕ) (hs : List (Happened Commands BoardBatch BoardEdits EditFault)) (h : Happened Commands BoardBatch BoardEdits EditFault) → edits_at i (hs ++ h ∷ []) ≡ edits_at i hs ++ edit_at i h.event h.reply
edits_at_last i [] h = append-nil (edit_at i h.event h.reply)
edits_at_last i (k ∷ hs) h = ap (λ es. edit_at i k.event k.reply ++ es) (edits_at_last i hs h) ∙ sym (append_assoc (edit_at i k.event k.reply) (edits_at i hs) (edit_at i h.event h.reply))

-- what an outcome of one event does
record Does (w : BoardWorld) (e : BoardEvent) (o : Outcome board_batches) (i : ℕ) (s : BoardStar) (l : BoardAttached) (replies : List (Commands × EditAnswer)) : Type 0 where
  star : o.star ≡ s
  here : attached i o.sites ≡ Some l
  others : (j : ℕ) → eqb j i ≡ false → attached j o.sites ≡ attached j w.sites
  replied : edit_at i e o.reply ≡ replies
  silent : (j : ℕ) → eqb j i ≡ false → edit_at j e o.reply ≡ []

leads_one : {w : BoardWorld} {e : BoardEvent} {o : Outcome board_batches} {i : ℕ} {s : BoardStar} {l : BoardAttached} {rs : List (Commands × EditAnswer)} → outcome board_batches w e ≡ o → Does w e o i s l rs → Leads w (e ∷ []) i s l rs
leads_one {w} {e} {o} {i} {s} {l} {rs} is d =
    let at : Does w e (outcome board_batches w e) i s l rs = subst (λ (x : Outcome board_batches). Does w e x i s l rs) (sym is) d in
    record {
      star = at.star;
      here = at.here;
      others = at.others;
      replied = edits_at_last i w.trace (record { event = e; reply = (outcome board_batches w e).reply }) ∙ ap (λ es. edits_at i w.trace ++ es) at.replied;
      silent = λ j ne. edits_at_last j w.trace (record { event = e; reply = (outcome board_batches w e).reply }) ∙ ap (λ es. edits_at j w.trace ++ es) (at.silent j ne) ∙ append-nil (edits_at j w.trace);
    }

eqb_flip : (i j : ℕ) → eqb j i ≡ false → eqb i j ≡ false
eqb_flip i j ne = elim (eqb i j) as (λ b. eqb i j ≡ b → b ≡ false) [ true ↦ λ e. absurd (eqb-false j i ne (sym (eqb-true i j e))) | false ↦ λ e. refl ] refl

-- the site that is changed, and another
number_of : BoardAttached → ℕ
number_of a = a.site.number

changed_here : (i : ℕ) (f : BoardAttached → BoardAttached) → ((a : BoardAttached) → (f a).site.number ≡ a.site.number) → (sites : List BoardAttached) (l : BoardAttached) → attached i sites ≡ Some l → attached i (worlds.at_site i f sites) ≡ Some (f l)
changed_here i f same sites l is = found-map (λ (a : BoardAttached). a.site.number) i f (λ a. a) same (λ a. refl) sites ∙ ap (λ o. option_map f o) is

map_same : (o : Option BoardAttached) → option_map (λ a. a) o ≡ o
map_same None = refl
map_same (Some a) = refl

changed_other : (i j : ℕ) (f : BoardAttached → BoardAttached) → ((a : BoardAttached) → (f a).site.number ≡ a.site.number) → (sites : List BoardAttached) → eqb j i ≡ false → attached j (worlds.at_site i f sites) ≡ attached j sites
changed_other i j f same sites ne = found-map_other (λ (a : BoardAttached). a.site.number) i j f (λ a. a) same (λ a. refl) sites (eqb_flip i j ne) ∙ map_same (attached j sites)

-- one edit
pub edit_leads : (w : BoardWorld) (i : ℕ) (c : Commands) (l : BoardAttached) (k : BoardLink) → attached i w.sites ≡ Some l → link_of i w.star.links ≡ Some k → Leads w (event.Edit i c ∷ []) i w.star (edited c l) ((c, answer_to c l) ∷ [])
edit_leads w i c l k is link = leads_one {o = worlds.edit_outcome board_batches w i (edit_answer board_batches c l.site)}
    (ap (λ (o : Option BoardLink). worlds.at_linked board_batches w i (λ l a. worlds.edit_outcome board_batches w i (edit_answer board_batches c a.site)) o) link
    ∙ ap (λ (o : Option BoardAttached). worlds.at_attached board_batches w k (λ l a. worlds.edit_outcome board_batches w i (edit_answer board_batches c a.site)) o) is)
    (go (edit_answer board_batches c l.site))
  where
    go : (r : Result BoardBatch EditFault) → Does w (event.Edit i c) (worlds.edit_outcome board_batches w i r) i w.star (edit_by r l) ((c, answer_by r) ∷ [])
    go (Ok op) = record {
      star = refl;
      here = changed_here i (with_edit board_batches op) (λ a. refl) w.sites l is;
      others = λ j ne. changed_other i j (with_edit board_batches op) (λ a. refl) w.sites ne;
      replied = rw eqb_self refl;
      silent = λ j ne. rw (eqb_flip i j ne) refl;
    }
    go (Err n) = record {
      star = refl;
      here = is;
      others = λ j ne. refl;
      replied = rw eqb_self refl;
      silent = λ j ne. rw (eqb_flip i j ne) refl;
    }

-- one message that is taken
pub up_leads : (w : BoardWorld) (i : ℕ) (u : BoardUp) (p : Option ℕ) (l : BoardAttached) → attached i w.sites ≡ Some l → l.up ≡ u ∷ drop 1 l.up → reply_of (Take i u) w.star ≡ reply.Taken (Ok p)
    → Leads w (event.Up i ∷ []) i (star_after (Take i u) w.star) (one_taken board_batches l) []
up_leads w i u p l is oldest replied =
    let t = stars.take_gives w.star i u p replied in
    leads_one {o = worlds.up_outcome board_batches w i t.link u None}
    (ap (λ (o : Option BoardLink). worlds.at_linked board_batches w i (λ k a. worlds.first_up board_batches w i k a.up) o) t.is
    ∙ ap (λ (o : Option BoardAttached). worlds.at_attached board_batches w t.link (λ k a. worlds.first_up board_batches w i k a.up) o) is
    ∙ ap (λ (us : List BoardUp). worlds.first_up board_batches w i t.link us) oldest
    ∙ ap (λ (f : Option StarFault). worlds.up_outcome board_batches w i t.link u f) t.fine)
    (record {
      star = sym t.after;
      here = changed_here i (one_taken board_batches) (λ a. refl) w.sites l is;
      others = λ j ne. changed_other i j (one_taken board_batches) (λ a. refl) w.sites ne;
      replied = refl;
      silent = λ j ne. refl;
    })

handed_number : (d : BoardDown) (ds : List BoardDown) (a : BoardAttached) → (one_handed board_batches d ds a).site.number ≡ a.site.number
handed_number (down.Op m) ds a = refl
handed_number (down.Ack n) ds a = refl
handed_number (down.Pong k) ds a = refl

-- one message that is fetched and delivered
pub down_leads : (w : BoardWorld) (i : ℕ) (d : BoardDown) (rest : List BoardDown) (l : BoardAttached) (k : BoardLink) → attached i w.sites ≡ Some l → link_of i w.star.links ≡ Some k → l.down ≡ [] → k.outbox ≡ d ∷ rest → IsAccepted d l
    → Leads w (event.Down i ∷ []) i (fetched i 1 w.star) (delivered d l) []
down_leads w i d rest l k is link idle waits fine =
    leads_one {o = worlds.down_outcome board_batches w i 1 d [] None}
    (ap (λ (o : Option BoardLink). worlds.at_linked board_batches w i (λ k a. worlds.first_down board_batches w i a a.down k.outbox) o) link
    ∙ ap (λ (o : Option BoardAttached). worlds.at_attached board_batches w k (λ k a. worlds.first_down board_batches w i a a.down k.outbox) o) is
    ∙ ap (λ (ds : List BoardDown). worlds.first_down board_batches w i l ds k.outbox) idle
    ∙ ap (λ (ds : List BoardDown). worlds.first_down board_batches w i l [] ds) waits
    ∙ ap (λ f. worlds.down_outcome board_batches w i 1 d [] f) fine)
    (record {
      star = refl;
      here = changed_here i (one_handed board_batches d []) (handed_number d []) w.sites l is ∙ ap (λ (ds : List BoardDown). Some (one_handed board_batches d ds l)) (sym idle);
      others = λ j ne. changed_other i j (one_handed board_batches d []) (handed_number d []) w.sites ne;
      replied = refl;
      silent = λ j ne. refl;
    })

delivered_down : (d : BoardDown) (l : BoardAttached) → (delivered d l).down ≡ l.down
delivered_down d l = refl

all_delivered_down : (ds : List BoardDown) (l : BoardAttached) → (all_delivered ds l).down ≡ l.down
all_delivered_down [] l = refl
all_delivered_down (d ∷ ds) l = all_delivered_down ds (delivered d l) ∙ delivered_down d l

-- a fetch that gave several messages is as many deliveries
pub downs_lead : (ds : List BoardDown) (w : BoardWorld) (i m : ℕ) (l : BoardAttached) → stars.IsTidy w.star → attached i w.sites ≡ Some l → l.down ≡ [] → AcceptsAll ds l → reply_of (Fetch i m) w.star ≡ reply.Fetched (Ok ds)
    → Leads w (deliveries i ds) i (star_after (Fetch i m) w.star) (all_delivered ds l) []
downs_lead [] w i m l tidy is idle fine replied = subst (λ (s : BoardStar). Leads w [] i s l []) (sym (stars.fetch_nothing w.star i m tidy replied)) (leads_none w i l is)
downs_lead (d ∷ ds) w i m l tidy is idle fine replied =
    let p = stars.fetch_in_parts w.star i m d ds replied in
    let one = down_leads w i d p.rest l p.link is p.is idle p.waits fine.0 in
    let w' = after w (event.Down i ∷ []) in
    let next : reply_of (Fetch i p.others) w'.star ≡ reply.Fetched (Ok ds) = ap (λ (s : BoardStar). reply_of (Fetch i p.others) s) one.star ∙ p.next in
    let tidy' : stars.IsTidy w'.star = subst stars.IsTidy (p.first ∙ sym one.star) (stars.tidy_after (Fetch i 1) w.star tidy) in
    let same : star_after (Fetch i p.others) w'.star ≡ star_after (Fetch i m) w.star = ap (λ (s : BoardStar). star_after (Fetch i p.others) s) one.star ∙ p.same in
    subst (λ (s : BoardStar). Leads w (deliveries i (d ∷ ds)) i s (all_delivered (d ∷ ds) l) []) same
    (leads_append one (downs_lead ds w' i p.others (delivered d l) tidy' one.here (delivered_down d l ∙ idle) fine.1 next))

edited_down : (c : Commands) (l : BoardAttached) → (edited c l).down ≡ l.down
edited_down c l = go (edit_answer board_batches c l.site)
  where
    go : (r : Result BoardBatch EditFault) → (edit_by r l).down ≡ l.down
    go (Ok op) = refl
    go (Err n) = refl

-- what a log does through its first hub call, which is m
record Called (w : BoardWorld) (i : ℕ) (log : List Step) (end : BoardAttached) (m : Made) (later : List Made) : Type 0 where
  link : BoardAttached
  replies : List (Commands × EditAnswer)
  leads : Leads w (through_call i log) i (star_after m.call w.star) link replies
  replied : edits_of log ≡ replies ++ edits_of (past_call log)
  idle : link.down ≡ []
  played : IsPlayed link (past_call log) end
  calls : calls_of i (past_call log) ≡ later

called : (log : List Step) (w : BoardWorld) (i : ℕ) (l end : BoardAttached) (m : Made) (later : List Made) → IsReached w → stars.IsTidy w.star
    → attached i w.sites ≡ Some l → l.down ≡ [] → IsPlayed l log end → calls_of i log ≡ m ∷ later → m.reply ≡ reply_of m.call w.star → Called w i log end m later
called [] w i l end m later reached tidy is idle played calls legal = absurd cc
called (Edited c r ∷ log) w i l end m later reached tidy is idle played calls legal =
    let k = linked w i l reached is in
    let one = edit_leads w i c l k.0 is k.1 in
    let w' = after w (event.Edit i c ∷ []) in
    let more = called log w' i (edited c l) end m later (reached_more w (event.Edit i c ∷ []) reached) (subst stars.IsTidy (sym one.star) tidy) one.here (edited_down c l ∙ idle) played.1 calls
    (legal ∙ ap (λ (s : BoardStar). reply_of m.call s) (sym one.star)) in
    record {
      link = more.link;
      replies = (c, answer_to c l) ∷ more.replies;
      leads = subst (λ (s : BoardStar). Leads w (event.Edit i c ∷ through_call i log) i (star_after m.call s) more.link ((c, answer_to c l) ∷ more.replies)) one.star (leads_append one more.leads);
      replied = ap (λ es. (c, r) ∷ es) more.replied ∙ ap (λ (q : EditAnswer). (c, q) ∷ (more.replies ++ edits_of (past_call log))) played.0;
      idle = more.idle;
      played = more.played;
      calls = more.calls;
    }
called (Took u p ∷ log) w i l end m later reached tidy is idle played calls legal =
    let this : ◌≡◌ {A = Made} m (record { call = Take i u; reply = reply.Taken (Ok p) }) = cc in
    let call : m.call ≡ Take i u = ap (λ (x : Made). x.call) this in
    let replied : reply_of (Take i u) w.star ≡ reply.Taken (Ok p) = ap (λ c. reply_of c w.star) (sym call) ∙ sym legal ∙ ap (λ (x : Made). x.reply) this in
    record {
      link = one_taken board_batches l;
      replies = [];
      leads = subst (λ (c : Call). Leads w (event.Up i ∷ []) i (star_after c w.star) (one_taken board_batches l) []) (sym call) (up_leads w i u p l is played.0 replied);
      replied = refl;
      idle = idle;
      played = played.1;
      calls = cc;
    }
called (Got n ds ∷ log) w i l end m later reached tidy is idle played calls legal =
    let this : ◌≡◌ {A = Made} m (record { call = Fetch i n; reply = reply.Fetched (Ok ds) }) = cc in
    let call : m.call ≡ Fetch i n = ap (λ (x : Made). x.call) this in
    let replied : reply_of (Fetch i n) w.star ≡ reply.Fetched (Ok ds) = ap (λ c. reply_of c w.star) (sym call) ∙ sym legal ∙ ap (λ (x : Made). x.reply) this in
    record {
      link = all_delivered ds l;
      replies = [];
      leads = subst (λ (c : Call). Leads w (deliveries i ds) i (star_after c w.star) (all_delivered ds l) []) (sym call) (downs_lead ds w i n l tidy is idle played.1 replied);
      replied = refl;
      idle = all_delivered_down ds l ∙ idle;
      played = played.2;
      calls = cc;
    }

-- the edits that are left over
record Left (w : BoardWorld) (i : ℕ) (log : List Step) (end : BoardAttached) : Type 0 where
  leads : Leads w (through_call i log) i w.star end (edits_of log)

left : (log : List Step) (w : BoardWorld) (i : ℕ) (l end : BoardAttached) → IsReached w → attached i w.sites ≡ Some l → IsPlayed l log end → calls_of i log ≡ [] → Left w i log end
left [] w i l end reached is played calls = record { leads = subst (λ (x : BoardAttached). Leads w [] i w.star x []) played (leads_none w i l is) }
left (Edited c r ∷ log) w i l end reached is played calls =
    let k = linked w i l reached is in
    let one = edit_leads w i c l k.0 is k.1 in
    let w' = after w (event.Edit i c ∷ []) in
    let more = left log w' i (edited c l) end (reached_more w (event.Edit i c ∷ []) reached) one.here played.1 calls in
    let both = leads_append one more.leads in
    record {
      leads = subst (λ (q : EditAnswer). Leads w (event.Edit i c ∷ through_call i log) i w.star end ((c, q) ∷ edits_of log)) (sym played.0)
          (subst (λ (s : BoardStar). Leads w (event.Edit i c ∷ through_call i log) i s end ((c, answer_to c l) ∷ edits_of log)) one.star both);
    }
left (Took u p ∷ log) w i l end reached is played calls = absurd cc
left (Got n ds ∷ log) w i l end reached is played calls = absurd cc

-- sites that have joined, with the logs that are still to be played, and the history that is still to come
pub record Tracks (n : ℕ) (w : BoardWorld) (h : List HubEvent) (here : ℕ → BoardAttached) (logs : ℕ → List Step) (ends : ℕ → BoardAttached) : Type 0 where
  pub reached : IsReached w
  pub tidy : stars.IsTidy w.star
  pub legal : IsLegal w.star h
  pub is : (i : ℕ) → IsSite n i → attached i w.sites ≡ Some (here i)
  pub idle : (i : ℕ) → IsSite n i → (here i).down ≡ []
  pub played : (i : ℕ) → IsSite n i → IsPlayed (here i) (logs i) (ends i)
  pub calls : (i : ℕ) → IsSite n i → calls_of i (logs i) ≡ made_at i h
  pub sited : AllByRecursion (λ (e : HubEvent). IsSite n (site_of e.call)) h

-- a list of events brings the world to this star, with these sites and these replies
pub record Ends (n : ℕ) (w : BoardWorld) (es : List BoardEvent) (s : BoardStar) (logs : ℕ → List Step) (ends : ℕ → BoardAttached) : Type 0 where
  pub star : (after w es).star ≡ s
  pub sites : (i : ℕ) → IsSite n i → attached i (after w es).sites ≡ Some (ends i)
  pub replied : (i : ℕ) → IsSite n i → edits_at i (after w es).trace ≡ edits_at i w.trace ++ edits_of (logs i)

-- the first k sites have played to their end, and the others are as they were
record Half (n k : ℕ) (w : BoardWorld) (here : ℕ → BoardAttached) (logs : ℕ → List Step) (ends : ℕ → BoardAttached) : Type 0 where
  star : (after w (left_over k logs)).star ≡ w.star
  done : (i : ℕ) → IsSite k i → (attached i (after w (left_over k logs)).sites ≡ Some (ends i)) × (edits_at i (after w (left_over k logs)).trace ≡ edits_at i w.trace ++ edits_of (logs i))
  stand : (i : ℕ) → k < i → (attached i (after w (left_over k logs)).sites ≡ attached i w.sites) × (edits_at i (after w (left_over k logs)).trace ≡ edits_at i w.trace)

apart : (i j : ℕ) → (i ≡ j → ⊥) → eqb i j ≡ false
apart i j ne = elim (eqb_tells i j) [ inl same ↦ absurd (ne same.1) | inr other ↦ other.0 ]

-- what site i shows after events of the others and of site j, which one of them may be
half_done : (i : ℕ) (es fs : List BoardEvent) (w : BoardWorld) (j : ℕ) {s : BoardStar} {l : BoardAttached} {rs : List (Commands × EditAnswer)} (end : BoardAttached) (replies : List (Commands × EditAnswer))
    → (i ≡ j → (end ≡ l) × (replies ≡ rs))
    → (i ≡ j → edits_at i (after w es).trace ≡ edits_at i w.trace)
    → ((i ≡ j → ⊥) → (attached i (after w es).sites ≡ Some end) × (edits_at i (after w es).trace ≡ edits_at i w.trace ++ replies))
    → Leads (after w es) fs j s l rs
    → (attached i (after w (es ++ fs)).sites ≡ Some end) × (edits_at i (after w (es ++ fs)).trace ≡ edits_at i w.trace ++ replies)
half_done i es fs w j {s} {l} {rs} end replies same silent other one =
    let P : Type 0 = (attached i (after w (es ++ fs)).sites ≡ Some end) × (edits_at i (after w (es ++ fs)).trace ≡ edits_at i w.trace ++ replies) in
    let both = run_append es fs w in
    elim (eqb_tells i j) as (λ _. P) [
      | inl e ↦ (
        ap (λ (x : BoardWorld). attached i x.sites) both ∙ ap (λ k. attached k (after (after w es) fs).sites) e.1 ∙ one.here ∙ ap (λ m. Some m) (sym ((same e.1).0)),
        ap (λ (x : BoardWorld). edits_at i x.trace) both ∙ ap (λ k. edits_at k (after (after w es) fs).trace) e.1 ∙ one.replied ∙ ap (λ k. edits_at k (after w es).trace ++ rs) (sym e.1)
            ∙ ap (λ qs. qs ++ rs) (silent e.1) ∙ ap (λ qs. edits_at i w.trace ++ qs) (sym ((same e.1).1)),
      )
      | inr ne ↦ (
        ap (λ (x : BoardWorld). attached i x.sites) both ∙ one.others i ne.0 ∙ (other ne.1).0,
        ap (λ (x : BoardWorld). edits_at i x.trace) both ∙ one.silent i ne.0 ∙ (other ne.1).1,
      )
    ]

half : (n k : ℕ) (w : BoardWorld) (here : ℕ → BoardAttached) (logs : ℕ → List Step) (ends : ℕ → BoardAttached) → k ≤ n → Tracks n w [] here logs ends → Half n k w here logs ends
half n zero w here logs ends within t = record { star = refl; done = λ i site. absurd (omega arith); stand = λ i past. (refl, refl) }
half n (suc k) w here logs ends within t =
    let some : Half n k w here logs ends = half n k w here logs ends (omega arith) t in
    let site : IsSite n (suc k) = (omega arith, within) in
    let es = left_over k logs in
    let fs = through_call (suc k) (logs (suc k)) in
    let one : Left (after w es) (suc k) (logs (suc k)) (ends (suc k)) =
    left (logs (suc k)) (after w es) (suc k) (here (suc k)) (ends (suc k)) (reached_more w es t.reached) ((some.stand (suc k) (omega arith)).0 ∙ t.is (suc k) site) (t.played (suc k) site) (t.calls (suc k) site) in
    let one = one.leads in
    let both = run_append es fs w in
    record {
      star = ap (λ (x : BoardWorld). x.star) both ∙ one.star ∙ some.star;
      done = λ i in_range. half_done i es fs w (suc k) (ends i) (edits_of (logs i))
          (λ e. (ap ends e, ap (λ j. edits_of (logs j)) e))
          (λ e. (some.stand i (omega arith)).1)
          (λ ne. some.done i (in_range.0, omega arith))
          one;
      stand = λ i past.
          let ne : eqb i (suc k) ≡ false = apart i (suc k) (omega arith) in
          let before = some.stand i (omega arith) in (
            ap (λ (x : BoardWorld). attached i x.sites) both ∙ one.others i ne ∙ before.0,
            ap (λ (x : BoardWorld). edits_at i x.trace) both ∙ one.silent i ne ∙ before.1,
          );
    }

-- what holds of the new values at i, and of the old ones elsewhere, holds of both lists of values
pub at_each : {A B : Type 0} (P : A → B → Type 0) (i j : ℕ) (x : A) (y : B) (f : ℕ → A) (g : ℕ → B) → (j ≡ i → P x y) → (eqb j i ≡ false → P (f j) (g j)) → P (with_log i x f j) (with_log i y g j)
at_each P i j x y f g same other =
    elim (eqb j i) as (λ b. eqb j i ≡ b → P (cond b x (f j)) (cond b y (g j))) [ true ↦ λ e. same (eqb-true j i e) | false ↦ λ e. other e ] refl

next_tracks : (n : ℕ) (w : BoardWorld) (e : HubEvent) (h : List HubEvent) (here : ℕ → BoardAttached) (logs : ℕ → List Step) (ends : ℕ → BoardAttached) → Tracks n w (e ∷ h) here logs ends
    → (c : Called w (site_of e.call) (logs (site_of e.call)) (ends (site_of e.call)) (made e) (made_at (site_of e.call) h))
    → Tracks n (after w (through_call (site_of e.call) (logs (site_of e.call)))) h
    (with_log (site_of e.call) c.link here) (with_log (site_of e.call) (past_call (logs (site_of e.call))) logs) ends
next_tracks n w e h here logs ends t c =
    let i = site_of e.call in
    let w' = after w (through_call i (logs i)) in record {
      reached = reached_more w (through_call i (logs i)) t.reached;
      tidy = subst stars.IsTidy (sym c.leads.star) (stars.tidy_after e.call w.star t.tidy);
      legal = subst (λ (s : BoardStar). IsLegal s h) (sym c.leads.star) t.legal.1;
      is = λ j site. at_each (λ l (q : ℕ). attached j w'.sites ≡ Some l) i j c.link 0 here (λ k. 0) (λ e. ap (λ k. attached k w'.sites) e ∙ c.leads.here) (λ ne. c.leads.others j ne ∙ t.is j site);
      idle = λ j site. at_each (λ l (q : ℕ). l.down ≡ []) i j c.link 0 here (λ k. 0) (λ e. c.idle) (λ ne. t.idle j site);
      played = λ j site. at_each (λ l log. IsPlayed l log (ends j)) i j c.link (past_call (logs i)) here logs (λ e. subst (λ k. IsPlayed c.link (past_call (logs i)) (ends k)) (sym e) c.played) (λ ne. t.played j site);
      calls = λ j site. at_each (λ log (q : ℕ). calls_of j log ≡ made_at j h) i j (past_call (logs i)) 0 logs (λ k. 0)
          (λ e. subst (λ k. calls_of k (past_call (logs i)) ≡ made_at k h) (sym e) c.calls)
          (λ ne. t.calls j site ∙ ap (λ b. cond b ((made e) ∷ made_at j h) (made_at j h)) (eqb_flip i j ne));
      sited = t.sited.1;
    }

this_call : (n : ℕ) (w : BoardWorld) (e : HubEvent) (h : List HubEvent) (here : ℕ → BoardAttached) (logs : ℕ → List Step) (ends : ℕ → BoardAttached) → Tracks n w (e ∷ h) here logs ends
    → Called w (site_of e.call) (logs (site_of e.call)) (ends (site_of e.call)) (made e) (made_at (site_of e.call) h)
this_call n w e h here logs ends t =
    let i = site_of e.call in let site : IsSite n i = t.sited.0 in
    called (logs i) w i (here i) (ends i) (made e) (made_at i h) t.reached t.tidy (t.is i site) (t.idle i site) (t.played i site)
    (t.calls i site ∙ ap (λ b. cond b ((made e) ∷ made_at i h) (made_at i h)) (eqb_self i)) t.legal.0

-- the assembled events bring the world to the star after the history, with each site at the end of its log
pub assembled_ends : (h : List HubEvent) (n : ℕ) (w : BoardWorld) (here : ℕ → BoardAttached) (logs : ℕ → List Step) (ends : ℕ → BoardAttached) → Tracks n w h here logs ends
    → Ends n w (assembled n logs h) (star_through w.star h) logs ends
assembled_ends [] n w here logs ends t =
    let all = half n n w here logs ends (omega arith) t in
    record { star = all.star; sites = λ i site. (all.done i site).0; replied = λ i site. (all.done i site).1 }
assembled_ends (e ∷ h) n w here logs ends t =
    let i = site_of e.call in
    let c = this_call n w e h here logs ends t in
    let es = through_call i (logs i) in
    let w' = after w es in
    let rest = assembled_ends h n w' (with_log i c.link here) (with_log i (past_call (logs i)) logs) ends (next_tracks n w e h here logs ends t c) in
    let fs = assembled n (with_log i (past_call (logs i)) logs) h in
    let both = run_append es fs w in
    record {
      star = ap (λ (x : BoardWorld). x.star) both ∙ rest.star ∙ ap (λ (s : BoardStar). star_through s h) c.leads.star;
      sites = λ j site. ap (λ (x : BoardWorld). attached j x.sites) both ∙ rest.sites j site;
      replied = λ j site. ap (λ (x : BoardWorld). edits_at j x.trace) both ∙ rest.replied j site
          ∙ at_each (λ log (q : ℕ). edits_at j w'.trace ++ edits_of log ≡ edits_at j w.trace ++ edits_of (logs j)) i j (past_call (logs i)) 0 logs (λ k. 0)
          (λ e. ap (λ k. edits_at k w'.trace ++ edits_of (past_call (logs i))) e ∙ ap (λ qs. qs ++ edits_of (past_call (logs i))) c.leads.replied
          ∙ append_assoc (edits_at i w.trace) c.replies (edits_of (past_call (logs i))) ∙ ap (λ qs. edits_at i w.trace ++ qs) (sym c.replied) ∙ ap (λ k. edits_at k w.trace ++ edits_of (logs k)) (sym e))
          (λ ne. ap (λ qs. qs ++ edits_of (logs j)) (c.leads.silent j ne));
    }

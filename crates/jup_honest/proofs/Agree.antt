-- Two honest sites of one hub show one order, at one moment or at two.
use Rattle.std.proofs.Common.{◌≡◌, ℕ, ◌+◌, ◌≤◌, ◌<◌, inl, inr, Bool, true, false, cond, List, [], ◌∷◌, ◌++◌, length, nat_eq, nat_le, refl, ap, sym, ◌∙◌, subst, Ok, arith, append-nil, leb-false, length-append, leb-true}
use Rattle.jup_honest.specs.Prelude.{entry as called}
use Rattle.jup_honest.specs.Prelude as honest
use Rattle.jup_star.specs.Stars.{opened_link, new_star, joining, most_batches, BoardStar, star_after}
use Rattle.jup_site.specs.Moments as moments
use Rattle.jup_site.proofs.Courses as courses
use Rattle.jup_site.proofs.PastBoards.{order_symmetric}
use Rattle.jup_site.proofs.Copies as copies
use Rattle.jup_honest.specs.Sites as sites
use Rattle.jup_honest.proofs.Steps as steps
use Rattle.jup_honest.proofs.Runs as runs
use Rattle.jup_honest.proofs.Relies.{run-star}
use Rattle.jup_honest.proofs.Orders as orders
use Rattle.jup_site.proofs.Beside.{beside-new}
use Rattle.jup_site.proofs.Past as past

-- # Past stars of a history

-- the first star of a history, from this one on, whose order has so many entries
abbrev pub star_when : ℕ → BoardStar → List honest.HubEvent → BoardStar
star_when k s [] = s
star_when k s (e ∷ es) = cond (nat_le k (length s.order)) s (star_when k (star_after e.call s) es)

when-here : (k : ℕ) (s : BoardStar) (es : List honest.HubEvent) → k ≤ length s.order → star_when k s es ≡ s
when-here k s [] low = refl
when-here k s (e ∷ es) low = cases (nat_le k (length s.order)) refl
  where
    cases : (b : Bool) → nat_le k (length s.order) ≡ b → cond b s (star_when k (star_after e.call s) es) ≡ s
    cases true q = refl
    cases false q = let above = leb-false k (length s.order) q in absurd (omega (arith, low, above))

when-later : (k : ℕ) (s : BoardStar) (e : honest.HubEvent) (es : List honest.HubEvent) → length s.order < k → star_when k s (e ∷ es) ≡ star_when k (star_after e.call s) es
when-later k s e es high = cases (nat_le k (length s.order)) refl
  where
    cases : (b : Bool) → nat_le k (length s.order) ≡ b → cond b s (star_when k (star_after e.call s) es) ≡ star_when k (star_after e.call s) es
    cases true q = let low = leb-true k (length s.order) q in absurd (omega (arith, low, high))
    cases false q = refl

module _ (board : honest.Windows) (stars : ℕ → BoardStar) where
  abbrev first : honest.board_batches.t.Content
  first = honest.content board

  -- a call adds one entry at the most, at the end
  call-adds : (c : honest.Call) (s : BoardStar) → courses.Adds honest.board_batches honest.batch_laws most_batches first s (star_after c s)
  call-adds c s = courses.becomes-adds honest.board_batches honest.batch_laws most_batches first s (star_after c s) (steps.call-becomes c s)

  -- `stars` gives what the rest of a history will bring
  abbrev Ahead : BoardStar → List honest.HubEvent → Type 0
  Ahead s es = (k : ℕ) → length s.order < k → stars k ≡ star_when k s es

  ahead-next : (s : BoardStar) (e : honest.HubEvent) (es : List honest.HubEvent) → Ahead s (e ∷ es) → Ahead (star_after e.call s) es
  ahead-next s e es ahead k high =
      let adds = call-adds e.call s in
      let grown = ap length adds.grows ∙ length-append s.order adds.more in
      ahead k (omega (arith, high, grown)) ∙ when-later k s e es (omega (arith, high, grown))

  ahead-one : (s : BoardStar) (e : honest.HubEvent) (es : List honest.HubEvent) → Ahead s (e ∷ es) → (k : ℕ) → length s.order < k → k ≤ length (star_after e.call s).order → stars k ≡ star_after e.call s
  ahead-one s e es ahead k high low = ahead k high ∙ when-later k s e es high ∙ when-here k (star_after e.call s) es low

  -- # Before a site joins

  abbrev WasBefore : BoardStar → BoardStar → Type 0
  WasBefore s z = courses.Was honest.board_batches honest.batch_laws most_batches first z s

  record Before (s : BoardStar) : Type 0 where
    long : (k : ℕ) → k ≤ length s.order → length (stars k).order ≡ k
    was : (k : ℕ) → k ≤ length s.order → WasBefore s (stars k)

  before-call : (s : BoardStar) (h : steps.CalledStar board s) (e : honest.HubEvent) (es : List honest.HubEvent) → Ahead s (e ∷ es) → Before s → Before (star_after e.call s)
  before-call s h e es ahead b = record { long = λ k low. (each k low).0; was = λ k low. (each k low).1 }
    where
      each : (k : ℕ) → k ≤ length (star_after e.call s).order → (length (stars k).order ≡ k) × WasBefore (star_after e.call s) (stars k)
      each k low = cases (nat_le k (length s.order)) refl
        where
          cases : (t : Bool) → nat_le k (length s.order) ≡ t → (length (stars k).order ≡ k) × WasBefore (star_after e.call s) (stars k)
          cases true q =
              let within = leb-true k (length s.order) q in
              (b.long k within, courses.was-on honest.board_batches honest.batch_laws most_batches first (stars k) s (star_after e.call s) (steps.call-becomes e.call s) h (b.was k within))
          cases false q =
              let above = leb-false k (length s.order) q in
              let adds = call-adds e.call s in
              let is = ahead-one s e es ahead k above low in
              let whole : length (star_after e.call s).order ≡ k = omega (arith, above, low, adds.one, ap length adds.grows, length-append s.order adds.more) in
              let self = courses.was-self honest.board_batches honest.batch_laws most_batches first (star_after e.call s) (steps.call-grows board e.call s h).called in
              (ap (λ (t : BoardStar). length t.order) is ∙ whole, subst (WasBefore (star_after e.call s)) (sym is) self)

  before-through : (es rest : List honest.HubEvent) (s : BoardStar) → steps.CalledStar board s → Ahead s (es ++ rest) → Before s → Before (honest.star_through s es) × Ahead (honest.star_through s es) rest
  before-through [] rest s h ahead b = (b, ahead)
  before-through (e ∷ es) rest s h ahead b =
      before-through es rest (star_after e.call s) (steps.call-grows board e.call s h).called (ahead-next s e (es ++ rest) ahead) (before-call s h e (es ++ rest) ahead b)

  -- # Once it joined

  abbrev pub Remembers : (a : sites.Connection) → runs.Stands board a → Type 0
  Remembers a h = past.Recalls honest.board_batches honest.batch_laws order_symmetric most_batches first a.since a.number stars (runs.moment a h.link h.up)

  -- what a step brings
  step-ahead : (s : sites.Step) (ms : List sites.Step) (a : sites.Connection) → Ahead a.star (sites.history (s ∷ ms))
      → ((k : ℕ) → length a.star.order < k → k ≤ length (sites.after s a).star.order → stars k ≡ (sites.after s a).star) × Ahead (sites.after s a).star (sites.history ms)
  step-ahead (sites.Edit commands) ms a ahead = ((λ k high low. absurd (omega (arith, high, low))), ahead)
  step-ahead (sites.Deliver d) ms a ahead = ((λ k high low. absurd (omega (arith, high, low))), ahead)
  step-ahead (sites.Ping k) ms a ahead = ((λ k high low. absurd (omega (arith, high, low))), ahead)
  step-ahead (sites.Called e) ms a ahead = (ahead-one a.star e (sites.history ms) ahead, ahead-next a.star e (sites.history ms) ahead)

  -- what moves keep is kept through steps
  module _ (Q : ℕ → ℕ → moments.Moment honest.board_batches → Type 0)
      (keeps : (since i : ℕ) (m n : moments.Moment honest.board_batches) → moments.IsBeside honest.board_batches most_batches first since i m → moments.Moves honest.board_batches i m n
      → past.Adds honest.board_batches honest.batch_laws order_symmetric most_batches first since i stars m.star n.star → Q since i m → Q since i n) where
    through-keeps : (ms rest : List sites.Step) (a : sites.Connection) (h : runs.Stands board a) (legal : honest.IsLegal a.star (sites.history ms)) (f : sites.IsReliableThrough ms a)
        → Ahead a.star (sites.history (ms ++ rest)) → Q a.since a.number (runs.moment a h.link h.up)
        → (let w = runs.walk board ms a h legal f in Q (sites.through ms a).since (sites.through ms a).number (runs.moment (sites.through ms a) w.stands.link w.stands.up)) × Ahead (sites.through ms a).star (sites.history rest)
    unfolding runs.walk runs.reach-self runs.reach-step runs.goes-stands
    through-keeps [] rest a h legal f ahead q = (q, ahead)
    through-keeps (s ∷ ms) rest a h legal f ahead q =
        let g = runs.step-goes board a h f.0 s ms legal (runs.reliable-first board ms (sites.after s a) f.1) in
        let next = step-ahead s (ms ++ rest) a ahead in
        through-keeps ms rest (sites.after s a) (runs.goes-stands board a (sites.after s a) h (runs.same_number board s a) (runs.same_since board s a) g) (runs.legal_rest board s ms a legal) f.1 next.1
        (rw (runs.same_number board s a, runs.same_since board s a) (subst (Q a.since a.number) g.is (elim g.move [
          | inl move ↦ keeps a.since a.number (runs.moment a h.link h.up) g.next h.beside move
              (subst (λ t. (k : ℕ) → length a.star.order < k → k ≤ length t.order → stars k ≡ t) (sym (ap (λ n. n.star) g.is)) next.0) q
          | inr same ↦ subst (Q a.since a.number) same q
        ])))

-- # A run

-- the past stars of a hub
abbrev pub past_stars : BoardStar → List honest.HubEvent → ℕ → BoardStar
past_stars s es k = star_when k s es

-- A run that is part of a longer one
module _ (y : sites.SiteRun) (later : List sites.Step) (is : sites.IsHonest (sites.longer y later)) where
  abbrev stars : ℕ → BoardStar
  stars = past_stars (sites.opening y) (sites.calls (sites.longer y later))

  abbrev content : honest.board_batches.t.Content
  content = honest.content y.board

  abbrev s : BoardStar
  s = honest.star_through (sites.opening y) y.before

  short : sites.IsHonest y
  short = orders.shorter y later is

  called_at : steps.CalledStar y.board s
  called_at = runs.before-called y short

  opened : Before y.board stars (sites.opening y)
  opened = record {
    long = λ k low. (ap (λ (t : BoardStar). length t.order) (here k low) ∙ omega (arith, low));
    was = λ k low. subst (WasBefore y.board stars (sites.opening y)) (sym (here k low))
        (courses.was-self honest.board_batches honest.batch_laws most_batches content (sites.opening y) (steps.called-opened y.keeps y.board y.limit is.opens is.limited));
  }
    where
      here : (k : ℕ) → k ≤ 0 → stars k ≡ sites.opening y
      here k low = when-here k (sites.opening y) (sites.calls (sites.longer y later)) low

  joins : Before y.board stars s × Ahead y.board stars s (called y.by honest.Join (honest.JoinedReply (Ok y.answer)) ∷ sites.history (y.steps ++ later))
  joins = before-through y.board stars y.before (called y.by honest.Join (honest.JoinedReply (Ok y.answer)) ∷ sites.history (y.steps ++ later)) (sites.opening y)
      (steps.called-opened y.keeps y.board y.limit is.opens is.limited) (λ k high. refl) opened

  -- as the site joins
  start-remembers : (h : runs.Stands y.board (sites.start y)) × Remembers y.board stars (sites.start y) h
  start-remembers =
      let parts = steps.legal-parts (sites.opening y) y.before _ is.legal in
      let gives = runs.join_gives s y.answer parts.1.0 in
      subst (λ j. (h : runs.Stands y.board (sites.new_connection s j)) × Remembers y.board stars (sites.new_connection s j) h) (sym gives.0)
      (subst (λ t. (h : runs.Stands y.board (record (sites.new_connection s (joining s)) { star = t })) × Remembers y.board stars (record (sites.new_connection s (joining s)) { star = t }) h) (sym gives.1) (
        record { link = opened_link (s.given + 1); up = []; beside = beside-new honest.board_batches honest.batch_laws most_batches content s called_at; rises = λ l fl. refl },
        record {
          long = joins.0.long;
          was = λ k low. (let w = joins.0.was k low in past.was-new honest.board_batches honest.batch_laws order_symmetric most_batches content s called_at (stars k) w.sound w.follows w.more w.grows);
        },
      ))

  -- as the run ends, and what the longer one brings
  now-remembers : (h : runs.Stands y.board (sites.now y)) × Remembers y.board stars (sites.now y) h × Ahead y.board stars (sites.now y).star (sites.history later)
  now-remembers =
      let st = start-remembers in
      let kept = through-keeps y.board stars (λ since i m. past.Recalls honest.board_batches honest.batch_laws order_symmetric most_batches content since i stars m)
      (λ since i m n h move adds r. past.moves-recall honest.board_batches honest.batch_laws order_symmetric most_batches content since i stars m n h move adds r)
      y.steps later (sites.start y) st.0 (runs.run-legal y short) short.reliable (ahead-next y.board stars s (called y.by honest.Join (honest.JoinedReply (Ok y.answer))) (sites.history (y.steps ++ later)) joins.1) st.1 in
      ((runs.walk y.board y.steps (sites.start y) st.0 (runs.run-legal y short) short.reliable).stands, kept.0, kept.1)

  abbrev now_moment : moments.Moment honest.board_batches
  now_moment = runs.moment (sites.now y) now-remembers.0.link now-remembers.0.up

  -- how many entries had reached the site by then
  abbrev count : ℕ
  count = moments.told_count honest.board_batches (sites.now y).since (sites.now y).number now_moment

  -- what the site showed as the run ended, as the longer one ends
  abbrev Copied : (a : sites.Connection) → runs.Stands y.board a → Type 0
  Copied a h = copies.IsCopy honest.board_batches honest.batch_laws order_symmetric most_batches content stars a.since a.number count (sites.now y).site.board (runs.moment a h.link h.up)

  later-copied : (h : runs.Stands y.board (sites.through later (sites.now y))) × Remembers y.board stars (sites.through later (sites.now y)) h × Copied (sites.through later (sites.now y)) h
  later-copied =
      let now = now-remembers in
      let legal = orders.since-legal y later is in
      let f = (orders.reliable-parts y.steps later (sites.start y) is.reliable).1 in
      let kept = through-keeps y.board stars
      (λ since i m. past.Recalls honest.board_batches honest.batch_laws order_symmetric most_batches content since i stars m
      × copies.IsCopy honest.board_batches honest.batch_laws order_symmetric most_batches content stars since i count (sites.now y).site.board m)
      (λ since i m n h move adds q. (
        past.moves-recall honest.board_batches honest.batch_laws order_symmetric most_batches content since i stars m n h move adds q.0,
        copies.moves-copy honest.board_batches honest.batch_laws order_symmetric most_batches content stars since i count (sites.now y).site.board m n h move adds q.0 q.1,
      ))
      later [] (sites.now y) now.0 legal f (subst (λ ms. Ahead y.board stars (sites.now y).star (sites.history ms)) (sym (append-nil later)) now.2)
      (now.1, copies.copy-now honest.board_batches honest.batch_laws order_symmetric most_batches content stars (sites.now y).since (sites.now y).number now_moment now.0.beside now.1) in
      ((runs.walk y.board later (sites.now y) now.0 legal f).stands, kept.0.0, kept.0.1)

  pub later-number : (sites.through later (sites.now y)).number ≡ y.answer.site
  later-number = (runs.walk y.board later (sites.now y) now-remembers.0 (orders.since-legal y later is) (orders.reliable-parts y.steps later (sites.start y) is.reliable).1).number ∙ (runs.run-reaches y short).number

-- a run is longer by nothing
whole_run : (z : sites.SiteRun) → sites.longer z [] ≡ z
whole_run z = ap (λ (ms : List sites.Step). record z { steps = ms }) (append-nil z.steps)

-- a run beside all past stars of its hub
run-recalled : (z : sites.SiteRun) → sites.IsHonest z → (h : runs.Stands z.board (sites.now z)) × Remembers z.board (past_stars (sites.opening z) (sites.calls z)) (sites.now z) h
run-recalled z is =
    let now = now-remembers z [] (subst sites.IsHonest (sym (whole_run z)) is) in
    subst (λ es. (h : runs.Stands z.board (sites.now z)) × Remembers z.board (past_stars (sites.opening z) es) (sites.now z) h) (ap sites.calls (whole_run z)) (now.0, now.1)

-- What a site of a hub shows, and what another shows then or later, are in one order: whatever is on its way, and also if a link is gone
pub runs-copies : (y z : sites.SiteRun) (later : List sites.Step) → sites.IsHonest (sites.longer y later) → sites.IsHonest z → sites.AreOfOneHub (sites.longer y later) z → sites.ShowOneOrder y z
runs-copies y z later one two both =
    let a = later-copied y later one in
    let b = subst (λ w. (h : runs.Stands w (sites.now z)) × Remembers w (past_stars (sites.opening y) (sites.calls (sites.longer y later))) (sites.now z) h) (sym both.board)
    (subst (λ o. (h : runs.Stands z.board (sites.now z)) × Remembers z.board (past_stars o (sites.calls (sites.longer y later))) (sites.now z) h) (sym opens)
    (subst (λ es. (h : runs.Stands z.board (sites.now z)) × Remembers z.board (past_stars (sites.opening z) es) (sites.now z) h) (sym both.calls) (run-recalled z two))) in
    copies.copy-agrees honest.board_batches honest.batch_laws order_symmetric most_batches (honest.content y.board) (sites.through later (sites.now y)).since (sites.now z).since (sites.through later (sites.now y)).number (sites.now z).number differ
    (stars y later one) (count y later one) (sites.now y).site.board (runs.moment (sites.through later (sites.now y)) a.0.link a.0.up) (runs.moment (sites.now z) b.0.link b.0.up) star a.2 a.1 b.0.beside b.1
  where
    opens : sites.opening y ≡ sites.opening z
    opens = ap (λ b. new_star y.keeps b y.limit) both.board ∙ ap (λ n. new_star y.keeps z.board n) both.limit ∙ ap (λ k. new_star k z.board z.limit) both.keeps

    star : (sites.now z).star ≡ (sites.through later (sites.now y)).star
    star = run-star z ∙ ap (λ es. honest.star_through (sites.opening z) es) (sym both.calls) ∙ ap (λ o. honest.star_through o (sites.calls (sites.longer y later))) (sym opens)
        ∙ sym (run-star (sites.longer y later)) ∙ ap (λ (c : sites.Connection). c.star) (orders.through-append y.steps later (sites.start y))

    differ : nat_eq (sites.through later (sites.now y)).number (sites.now z).number ≡ false
    differ = rw (later-number y later one, (runs.run-reaches z two).number) both.apart

-- so do two at one moment
pub runs-order : (y z : sites.SiteRun) → sites.IsHonest y → sites.IsHonest z → sites.AreOfOneHub y z → sites.ShowOneOrder y z
runs-order y z one two both = runs-copies y z [] (subst sites.IsHonest (sym (whole_run y)) one) two (subst (λ w. sites.AreOfOneHub w z) (sym (whole_run y)) both)

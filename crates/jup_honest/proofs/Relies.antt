-- What an honest site of a hub relies on.
use Rattle.std.proofs.Common.{◌≡◌, ℕ, ◌+◌, Bool, true, false, cond, List, [], ◌∷◌, ◌++◌, nat_eq, refl, ap, sym, ◌∙◌, subst, Some, arith, append-nil, append_assoc, inl, inr, eq-eqb}
use Rattle.jup_honest.specs.Prelude as honest
use Rattle.jup_star.specs.Stars.{take_fault, BoardLink, reply_of, take_result}
use Rattle.jup_star.specs.Sites.{deliver_result}
use Rattle.jup_site.proofs.PastBoards.{order_symmetric}
use Rattle.jup_honest.specs.Sites as sites
use Rattle.jup_honest.proofs.Steps.{through-parts}
use Rattle.jup_honest.proofs.Runs as runs
use Rattle.jup_site.proofs.Views as views
use Rattle.jup_site.specs.Prelude.{new_star, link_of, up_fault, most_batches, BoardStar, content}

-- # At one moment

module _ (board : honest.Windows) (a : sites.Connection) (h : runs.Stands board a) where
  -- the next message of it is taken, or the order is full
  pub next-taken : (l : BoardLink) → sites.IsAttached a l → (u : honest.Up honest.BoardBatch) (us : List (honest.Up honest.BoardBatch)) → a.sent ≡ a.taken ++ u ∷ us → sites.IsTakenUnlessFull a.star u (reply_of (honest.Take a.number u) a.star)
  unfolding reply_of
  next-taken l fl u us e =
      let has : link_of a.number a.star.links ≡ Some h.link = (let is = h.beside.is l fl in cc) in
      subst (λ o. sites.IsTakenUnlessFull a.star u (honest.Taken (take_result a.star u (take_fault honest.board_batches a.star u o)))) (sym has) (answer u (sym (h.rises l fl) ∙ runs.left_of a.sent a.taken (u ∷ us) e))
    where
      answer : (u : honest.Up honest.BoardBatch) → h.up ≡ u ∷ us → sites.IsTakenUnlessFull a.star u (honest.Taken (take_result a.star u (up_fault honest.board_batches a.star h.link u)))
      answer (honest.UpOp m) w = elim (views.beside-answers honest.board_batches honest.batch_laws most_batches (content board) a.since a.number (runs.moment a h.link h.up) h.beside m us w) [
        | inl c ↦ subst (λ o. sites.IsTakenUnlessFull a.star (honest.UpOp m) (honest.Taken (take_result a.star (honest.UpOp m) o))) (sym c.0) ((λ room. refl), (λ full. absurd (omega (arith, c.1, full))))
        | inr c ↦ subst (λ o. sites.IsTakenUnlessFull a.star (honest.UpOp m) (honest.Taken (take_result a.star (honest.UpOp m) o))) (sym c.0) ((λ room. absurd (omega (arith, c.1, room))), (λ full. refl))
      ]
      answer (honest.UpAck n) w = subst (λ o. sites.IsTakenUnlessFull a.star (honest.UpAck n) (honest.Taken (take_result a.star (honest.UpAck n) o)))
          (sym (views.beside-heard honest.board_batches honest.batch_laws most_batches (content board) a.since a.number (runs.moment a h.link h.up) h.beside n us w)) refl
      answer (honest.UpPing k) w = refl

  -- the next message to it is accepted
  pub next-handed : sites.IsReliable a → (d : honest.Down honest.BoardBatch) (rest : List (honest.Down honest.BoardBatch)) → a.fetched ≡ a.handed ++ d ∷ rest → sites.IsAccepted a d
  next-handed f d rest e = ap (λ o. deliver_result d a.site o) (runs.next-accepted board a h f d rest e)

  -- all that it relies on
  pub site-promises : sites.IsReliable a → sites.SitePromises board a
  site-promises f = record {
    running = h.beside.stands.pair.goes_on;
    accepts = λ d rest e. next-handed f d rest e;
    content = views.beside-view honest.board_batches honest.batch_laws most_batches (content board) a.since a.number (runs.moment a h.link h.up) h.beside;
  }

  module _ (l : BoardLink) (fl : sites.IsAttached a l) where
    up_left : a.taken ≡ a.sent → h.up ≡ []
    up_left e = sym (h.rises l fl) ∙ runs.none_left a.sent a.taken e

    outbox_left : l.outbox ≡ [] → h.link.outbox ≡ []
    outbox_left e = ap (λ (k : BoardLink). k.outbox) (sym (h.beside.is l fl)) ∙ e

    pub link-promises : sites.LinkPromises a l
    link-promises = record {
      taken = λ u us e. next-taken l fl u us e;
      equal = λ q. views.beside-equal honest.board_batches honest.batch_laws most_batches (content board) a.since a.number (runs.moment a h.link h.up) h.beside (up_left q.up) (runs.none_left a.fetched a.handed q.down) (outbox_left q.outbox);
      one_order = views.beside-order honest.board_batches honest.batch_laws most_batches (content board) a.since a.number (runs.moment a h.link h.up) h.beside order_symmetric;
      whole = λ q. views.beside-whole honest.board_batches honest.batch_laws most_batches (content board) a.since a.number (runs.moment a h.link h.up) h.beside (up_left q.up);
    }

    pub backlog-short : sites.IsBacklogShort a l
    backlog-short = record {
      backlog = h.beside.counts.sent;
      bounded = views.beside-bounded honest.board_batches honest.batch_laws most_batches (content board) a.since a.number (runs.moment a h.link h.up) h.beside;
      drained = λ q. views.beside-backlog honest.board_batches honest.batch_laws most_batches (content board) a.since a.number (runs.moment a h.link h.up) h.beside (up_left q.up) (runs.none_left a.fetched a.handed q.down) (outbox_left q.outbox);
    }

  -- a step goes well
  pub goes-well : (m : sites.Step) (ms : List sites.Step) → sites.IsReliable a → honest.IsLegal a.star (sites.history (m ∷ ms)) → sites.IsReliable (sites.after m a) → sites.GoesWell m a
  goes-well (sites.Edit commands) ms f legal g = tt
  goes-well (sites.Deliver d) ms f legal g = next-handed f d g.down.0 (runs.next_left a.fetched a.handed d g.down)
  goes-well (sites.Ping k) ms f legal g = tt
  goes-well (sites.Called e) ms f legal g = λ l fl. subst (λ r. sites.IsAnsweredWell a e.call r) (sym legal.0) (answered l fl e.call g.up)
    where
      own : (j : ℕ) (u : honest.Up honest.BoardBatch) → j ≡ a.number → sites.Begins a.sent (cond (nat_eq j a.number) (a.taken ++ u ∷ []) a.taken) → sites.Begins a.sent (a.taken ++ u ∷ [])
      own j u is b = cases (nat_eq j a.number) (eq-eqb j a.number is) b
        where
          cases : (t : Bool) → t ≡ true → sites.Begins a.sent (cond t (a.taken ++ u ∷ []) a.taken) → sites.Begins a.sent (a.taken ++ u ∷ [])
          cases true e b = b
          cases false e b = absurd (cc)

      answered : (l : BoardLink) → sites.IsAttached a l → (c : honest.Call) → sites.Begins a.sent (sites.taken_with a.number c a.taken) → sites.IsAnsweredWell a c (reply_of c a.star)
      answered l fl honest.Join b = tt
      answered l fl (honest.Take j u) b = λ is. subst (λ k. sites.IsTakenUnlessFull a.star u (reply_of (honest.Take k u) a.star)) (sym is)
          (next-taken l fl u (own j u is b).0 (runs.next_left a.sent a.taken u (own j u is b)))
      answered l fl (honest.Fetch j max) b = tt
      answered l fl (honest.Leave j) b = tt

-- # A whole run

all-well : (board : honest.Windows) (ms : List sites.Step) (a : sites.Connection) → runs.Stands board a → honest.IsLegal a.star (sites.history ms) → sites.IsReliableThrough ms a → sites.AllGoesWell ms a
all-well board [] a h legal f = tt
all-well board (m ∷ ms) a h legal f =
    let g = runs.reliable-first board ms (sites.after m a) f.1 in (
      goes-well board a h m ms f.0 legal g,
      all-well board ms (sites.after m a) (runs.goes-stands board a (sites.after m a) h (runs.same_number board m a) (runs.same_since board m a) (runs.step-goes board a h f.0 m ms legal g)) (runs.legal_rest board m ms a legal) f.1,
    )

pub run-well : (y : sites.SiteRun) → sites.IsHonest y → sites.AllGoesWell y.steps (sites.start y)
run-well y is = all-well y.board y.steps (sites.start y) (runs.start-stands y is) (runs.run-legal y is) is.reliable

-- the link is reliable at the end
pub reliable-last : (ms : List sites.Step) (a : sites.Connection) → sites.IsReliableThrough ms a → sites.IsReliable (sites.through ms a)
reliable-last [] a f = f
reliable-last (m ∷ ms) a f = reliable-last ms (sites.after m a) f.1

pub run-site : (y : sites.SiteRun) → sites.IsHonest y → sites.SitePromises y.board (sites.now y)
run-site y is = site-promises y.board (sites.now y) (runs.run-stands y is) (reliable-last y.steps (sites.start y) is.reliable)

pub run-link : (y : sites.SiteRun) → sites.IsHonest y → (l : BoardLink) → sites.IsAttached (sites.now y) l → sites.LinkPromises (sites.now y) l
run-link y is l fl = link-promises y.board (sites.now y) (runs.run-stands y is) l fl

pub run-backlog : (y : sites.SiteRun) → sites.IsHonest y → (l : BoardLink) → sites.IsAttached (sites.now y) l → sites.IsBacklogShort (sites.now y) l
run-backlog y is l fl = backlog-short y.board (sites.now y) (runs.run-stands y is) l fl

pub run-shows : (y : sites.SiteRun) → sites.IsHonest y → sites.StarShows y.board (sites.now y)
run-shows y is = (runs.run-stands y is).beside.star.star.content_is

-- the connection's star is that of the history
pub star-through : (ms : List sites.Step) (a : sites.Connection) → (sites.through ms a).star ≡ honest.star_through a.star (sites.history ms)
star-through [] a = refl
star-through (sites.Edit commands ∷ ms) a = star-through ms (sites.after (sites.Edit commands) a)
star-through (sites.Deliver d ∷ ms) a = star-through ms (sites.after (sites.Deliver d) a)
star-through (sites.Ping k ∷ ms) a = star-through ms (sites.after (sites.Ping k) a)
star-through (sites.Called e ∷ ms) a = star-through ms (sites.after (sites.Called e) a)

pub run-star : (y : sites.SiteRun) → (sites.now y).star ≡ honest.star_through (sites.opening y) (sites.calls y)
run-star y = star-through y.steps (sites.start y) ∙ sym (through-parts (sites.opening y) y.before _)

-- what was brought to it and fetched from it too
more_taken : (i : ℕ) (c : honest.Call) (us : List (honest.Up honest.BoardBatch)) → sites.taken_with i c us ≡ us ++ sites.taken_with i c []
more_taken i honest.Join us = sym (append-nil us)
more_taken i (honest.Take j u) us = cases (nat_eq j i)
  where
    cases : (b : Bool) → cond b (us ++ u ∷ []) us ≡ us ++ cond b (u ∷ []) []
    cases true = refl
    cases false = sym (append-nil us)
more_taken i (honest.Fetch j max) us = sym (append-nil us)
more_taken i (honest.Leave j) us = sym (append-nil us)

more_fetched : (i : ℕ) (c : honest.Call) (r : honest.StarReply) (ds : List (honest.Down honest.BoardBatch)) → sites.fetched_with i c r ds ≡ ds ++ sites.fetched_with i c r []
more_fetched i honest.Join r ds = sym (append-nil ds)
more_fetched i (honest.Take j u) r ds = sym (append-nil ds)
more_fetched i (honest.Fetch j max) r ds = cases (nat_eq j i)
  where
    cases : (b : Bool) → cond b (ds ++ sites.fetched_in r) ds ≡ ds ++ cond b (sites.fetched_in r) []
    cases true = refl
    cases false = sym (append-nil ds)
more_fetched i (honest.Leave j) r ds = sym (append-nil ds)

taken-through : (ms : List sites.Step) (a : sites.Connection) → (sites.through ms a).taken ≡ a.taken ++ sites.takes_of a.number (sites.history ms)
taken-through [] a = sym (append-nil a.taken)
taken-through (sites.Edit commands ∷ ms) a = taken-through ms (sites.after (sites.Edit commands) a)
taken-through (sites.Deliver d ∷ ms) a = taken-through ms (sites.after (sites.Deliver d) a)
taken-through (sites.Ping k ∷ ms) a = taken-through ms (sites.after (sites.Ping k) a)
taken-through (sites.Called e ∷ ms) a =
    taken-through ms (sites.after (sites.Called e) a) ∙ ap (λ us. us ++ sites.takes_of a.number (sites.history ms)) (more_taken a.number e.call a.taken)
    ∙ append_assoc a.taken (sites.taken_with a.number e.call []) (sites.takes_of a.number (sites.history ms))

fetched-through : (ms : List sites.Step) (a : sites.Connection) → (sites.through ms a).fetched ≡ a.fetched ++ sites.fetches_of a.number (sites.history ms)
fetched-through [] a = sym (append-nil a.fetched)
fetched-through (sites.Edit commands ∷ ms) a = fetched-through ms (sites.after (sites.Edit commands) a)
fetched-through (sites.Deliver d ∷ ms) a = fetched-through ms (sites.after (sites.Deliver d) a)
fetched-through (sites.Ping k ∷ ms) a = fetched-through ms (sites.after (sites.Ping k) a)
fetched-through (sites.Called e ∷ ms) a =
    fetched-through ms (sites.after (sites.Called e) a) ∙ ap (λ ds. ds ++ sites.fetches_of a.number (sites.history ms)) (more_fetched a.number e.call e.reply a.fetched)
    ∙ append_assoc a.fetched (sites.fetched_with a.number e.call e.reply []) (sites.fetches_of a.number (sites.history ms))

pub run-history : (y : sites.SiteRun) → sites.IsOfHistory y
run-history y = record { star = run-star y; taken = taken-through y.steps (sites.start y); fetched = fetched-through y.steps (sites.start y) }

-- two sites of one hub
pub runs-agree : (y z : sites.SiteRun) → sites.IsHonest y → sites.IsHonest z → sites.AreDrained y z → (sites.now y).site.board ≡ (sites.now z).site.board
runs-agree y z one two both =
    (run-link y one both.one both.one_attached).equal both.one_drained
    ∙ ap (λ (s : BoardStar). s.board) (run-star y ∙ same ∙ sym (run-star z))
    ∙ sym ((run-link z two both.two both.two_attached).equal both.two_drained)
  where
    same : honest.star_through (sites.opening y) (sites.calls y) ≡ honest.star_through (sites.opening z) (sites.calls z)
    same = ap (λ b. honest.star_through (new_star y.keeps b y.limit) (sites.calls y)) both.board
        ∙ ap (λ n. honest.star_through (new_star y.keeps z.board n) (sites.calls y)) both.limit
        ∙ ap (λ k. honest.star_through (new_star k z.board z.limit) (sites.calls y)) both.keeps
        ∙ ap (λ es. honest.star_through (sites.opening z) es) both.calls

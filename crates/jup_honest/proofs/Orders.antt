-- What a run keeps from one moment to a later one.
use Rattle.std.proofs.Common.{◌≡◌, ◌+◌, ◌⊎◌, inl, inr, Bool, true, false, cond, List, [], ◌∷◌, ◌++◌, length, nat_eq, refl, ap, sym, ◌∙◌, subst, Option, Some, None, Ok, Err, append_assoc, eqb-true, eq-eqb, nat_lt, ltb-true, ltb-false}
use Rattle.jup_honest.specs.Prelude.{entry as called}
use Rattle.jup_honest.specs.Prelude as honest
use Rattle.jup_star.specs.Stars.{link_of, join_fault, take_fault, up_fault, most_batches, BoardStar, BoardLink, after_join, after_take, after_fetch, after_leave, star_after, take_result, reply_of}
use Rattle.jup_honest.specs.Sites as sites
use Rattle.jup_honest.proofs.Steps.{legal-parts}
use Rattle.jup_honest.proofs.Runs as runs
use Rattle.jup_honest.proofs.Relies as relies
use Rattle.jup_site.specs.Moments as moments
use Rattle.jup_site.proofs.Beside.{IsLeave, moves-remain}
use Rattle.jup_site.proofs.Later.{runs-later}

-- # Longer runs

history-append : (ms ns : List sites.Step) → sites.history (ms ++ ns) ≡ sites.history ms ++ sites.history ns
history-append [] ns = refl
history-append (sites.Edit commands ∷ ms) ns = history-append ms ns
history-append (sites.Deliver d ∷ ms) ns = history-append ms ns
history-append (sites.Ping k ∷ ms) ns = history-append ms ns
history-append (sites.Called e ∷ ms) ns = ap (λ es. e ∷ es) (history-append ms ns)

pub through-append : (ms ns : List sites.Step) (a : sites.Connection) → sites.through (ms ++ ns) a ≡ sites.through ns (sites.through ms a)
through-append [] ns a = refl
through-append (m ∷ ms) ns a = through-append ms ns (sites.after m a)

pub reliable-parts : (ms ns : List sites.Step) (a : sites.Connection) → sites.IsReliableThrough (ms ++ ns) a → sites.IsReliableThrough ms a × sites.IsReliableThrough ns (sites.through ms a)
reliable-parts [] [] a f = (f, f)
reliable-parts [] (n ∷ ns) a f = (f.0, f)
reliable-parts (m ∷ ms) ns a f = let rest = reliable-parts ms ns (sites.after m a) f.1 in ((f.0, rest.0), rest.1)

-- the history of a longer run
calls-longer : (y : sites.SiteRun) (ms : List sites.Step) → sites.calls (sites.longer y ms) ≡ sites.calls y ++ sites.history ms
calls-longer y ms = ap (λ es. y.before ++ called y.by honest.Join (honest.JoinedReply (Ok y.answer)) ∷ es) (history-append y.steps ms) ∙ sym (append_assoc y.before _ (sites.history ms))

-- the run was honest before its last steps
pub shorter : (y : sites.SiteRun) (ms : List sites.Step) → sites.IsHonest (sites.longer y ms) → sites.IsHonest y
shorter y ms is = record {
  opens = is.opens;
  limited = is.limited;
  legal = (legal-parts (sites.opening y) (sites.calls y) (sites.history ms) (subst (λ es. honest.IsLegal (sites.opening y) es) (calls-longer y ms) is.legal)).0;
  reliable = (reliable-parts y.steps ms (sites.start y) is.reliable).0;
}

-- the calls since
pub since-legal : (y : sites.SiteRun) (ms : List sites.Step) → sites.IsHonest (sites.longer y ms) → honest.IsLegal (sites.now y).star (sites.history ms)
since-legal y ms is =
    let parts = legal-parts (sites.start y).star (sites.history y.steps) (sites.history ms) (subst (λ es. honest.IsLegal (sites.start y).star es) (history-append y.steps ms) (runs.run-legal (sites.longer y ms) is)) in
    subst (λ s. honest.IsLegal s (sites.history ms)) (sym (relies.star-through y.steps (sites.start y))) parts.1

-- from one moment of a run to a later one
pub run-order : (y : sites.SiteRun) (ms : List sites.Step) → sites.IsHonest (sites.longer y ms) → sites.KeepsOrder (sites.now y) (sites.now (sites.longer y ms))
run-order y ms is =
    let h = runs.run-stands y (shorter y ms is) in
    let r = runs.walk y.board ms (sites.now y) h (since-legal y ms is) (reliable-parts y.steps ms (sites.start y) is.reliable).1 in
    let later = runs-later honest.board_batches honest.batch_laws most_batches (honest.content y.board) (sites.now y).since (sites.now y).number (runs.moment (sites.now y) h.link h.up) _ r.run h.beside in
    subst (sites.KeepsOrder (sites.now y)) (sym (through-append y.steps ms (sites.start y))) (record { star = later.star.order; site = later.order })

-- A site's link goes by a call to leave for it, or by a full order, and by nothing else.

module _ (board : honest.Windows) (a : sites.Connection) (h : runs.Stands board a) (l : BoardLink) (fl : sites.IsAttached a l) where
  abbrev m : moments.Moment honest.board_batches
  m = runs.moment a h.link h.up

  -- the site has a link in a star
  abbrev Has : BoardStar → Type 0
  Has t = (k : BoardLink) × (link_of a.number t.links ≡ Some k)

  -- after a move that is no leave of it
  remains : (n : moments.Moment honest.board_batches) (move : moments.Moves honest.board_batches a.number m n) → (IsLeave honest.board_batches honest.batch_laws most_batches (honest.content board) a.since a.number move → ⊥) → Has n.star
  remains n move stays = elim (moves-remain honest.board_batches honest.batch_laws most_batches (honest.content board) a.since a.number m n move h.beside (runs.linked board a h l fl)) [
    | inl leave ↦ absurd (stays leave)
    | inr has ↦ (n.link, has)
  ]

  -- its own message is taken, or the order is full
  own : (u : honest.Up honest.BoardBatch) (us : List (honest.Up honest.BoardBatch)) → a.sent ≡ a.taken ++ u ∷ us → (reply_of (honest.Take a.number u) a.star ≡ honest.Taken (Err honest.LogFull)) ⊎ Has (star_after (honest.Take a.number u) a.star)
  unfolding reply_of star_after
  own u us e =
      subst (λ o. (honest.Taken (take_result a.star u (take_fault honest.board_batches a.star u o)) ≡ honest.Taken (Err honest.LogFull)) ⊎ Has (after_take a.number u a.star o (take_fault honest.board_batches a.star u o))) (sym has)
      (at u (up_fault honest.board_batches a.star h.link u) refl waits (subst (λ o. sites.IsTakenUnlessFull a.star u (honest.Taken (take_result a.star u (take_fault honest.board_batches a.star u o)))) has (relies.next-taken board a h l fl u us e)))
    where
      has : link_of a.number a.star.links ≡ Some h.link
      has = runs.linked board a h l fl

      waits : h.up ≡ u ∷ us
      waits = sym (h.rises l fl) ∙ runs.left_of a.sent a.taken (u ∷ us) e

      refused : (u : honest.Up honest.BoardBatch) (fault : honest.StarFault) → sites.IsTakenUnlessFull a.star u (honest.Taken (Err fault)) → honest.Taken (Err fault) ≡ honest.Taken (Err honest.LogFull)
      refused (honest.UpOp m) fault well = go (nat_lt (length a.star.order) a.star.limit) refl
        where
          go : (b : Bool) → nat_lt (length a.star.order) a.star.limit ≡ b → honest.Taken (Err fault) ≡ honest.Taken (Err honest.LogFull)
          go true e = (let ok = well.0 (ltb-true _ _ e) in absurd (cc))
          go false e = well.1 (ltb-false _ _ e)
      refused (honest.UpAck n) fault well = absurd (cc)
      refused (honest.UpPing k) fault well = absurd (cc)

      at : (u : honest.Up honest.BoardBatch) (o : Option honest.StarFault) → up_fault honest.board_batches a.star h.link u ≡ o → h.up ≡ u ∷ us → sites.IsTakenUnlessFull a.star u (honest.Taken (take_result a.star u o))
          → (honest.Taken (take_result a.star u o) ≡ honest.Taken (Err honest.LogFull)) ⊎ Has (after_take a.number u a.star (Some h.link) o)
      at u None none waits well = inr (remains _ (moments.TakesOwn u us waits has none) (λ x. x))
      at u (Some fault) is waits well = inl (refused u fault well)

  -- any call
  call-remains : (c : honest.Call) → sites.Begins a.sent (sites.taken_with a.number c a.taken) → sites.IsDetachedBy a c (reply_of c a.star) ⊎ Has (star_after c a.star)
  unfolding star_after
  call-remains honest.Join b = inr (go (join_fault a.star))
    where
      go : (o : Option honest.StarFault) → Has (after_join a.star o)
      go None = remains _ moments.Joins (λ x. x)
      go (Some e) = (l, fl)
  call-remains (honest.Take j u) b = cases (nat_eq j a.number) refl b
    where
      other : nat_eq j a.number ≡ false → Has (after_take j u a.star (link_of j a.star.links) (take_fault honest.board_batches a.star u (link_of j a.star.links)))
      other apart = go (link_of j a.star.links) refl
        where
          at : (k : BoardLink) → link_of j a.star.links ≡ Some k → (o : Option honest.StarFault) → up_fault honest.board_batches a.star k u ≡ o → Has (after_take j u a.star (Some k) o)
          at k fk None none = remains _ (moments.Takes j apart k fk u none) (λ x. x)
          at k fk (Some e) is = remains _ (moments.Leaves j) (λ x. let same = eq-eqb j a.number x in absurd (cc))

          go : (o : Option BoardLink) → link_of j a.star.links ≡ o → Has (after_take j u a.star o (take_fault honest.board_batches a.star u o))
          go None e = (l, fl)
          go (Some k) e = at k e (up_fault honest.board_batches a.star k u) refl

      cases : (t : Bool) → nat_eq j a.number ≡ t → sites.Begins a.sent (cond t (a.taken ++ u ∷ []) a.taken) → sites.IsDetachedBy a (honest.Take j u) (reply_of (honest.Take j u) a.star) ⊎ Has (star_after (honest.Take j u) a.star)
      cases true e b = subst (λ k. sites.IsDetachedBy a (honest.Take k u) (reply_of (honest.Take k u) a.star) ⊎ Has (star_after (honest.Take k u) a.star)) (sym (eqb-true j a.number e))
          (elim (own u b.0 (runs.next_left a.sent a.taken u b)) [ inl full ↦ inl (refl, full) | inr has ↦ inr has ])
      cases false e b = inr (other e)
  call-remains (honest.Fetch j max) b = inr (cases (nat_eq j a.number) refl)
    where
      at : (t : Bool) → nat_eq j a.number ≡ t → (k : BoardLink) → link_of j a.star.links ≡ Some k → Has (after_fetch j max a.star (Some k))
      at true e k fk = rw (eqb-true j a.number e) (remains _ (moments.FetchesOwn max (runs.linked board a h l fl)) (λ x. x))
      at false e k fk = remains _ (moments.Fetches j max e) (λ x. x)

      cases : (t : Bool) → nat_eq j a.number ≡ t → Has (after_fetch j max a.star (link_of j a.star.links))
      cases t e = go (link_of j a.star.links) refl
        where
          go : (o : Option BoardLink) → link_of j a.star.links ≡ o → Has (after_fetch j max a.star o)
          go None q = (l, fl)
          go (Some k) q = at t e k q
  call-remains (honest.Leave j) b = cases (nat_eq j a.number) refl
    where
      cases : (t : Bool) → nat_eq j a.number ≡ t → sites.IsDetachedBy a (honest.Leave j) (reply_of (honest.Leave j) a.star) ⊎ Has (star_after (honest.Leave j) a.star)
      cases true e = inl (eqb-true j a.number e)
      cases false e = inr (go (link_of j a.star.links))
        where
          go : (o : Option BoardLink) → Has (after_leave j a.star o)
          go None = (l, fl)
          go (Some k) = remains _ (moments.Leaves j) (λ x. let same = eq-eqb j a.number x in absurd (cc))

-- so over a run
pub run-remains : (y : sites.SiteRun) (e : honest.HubEvent) → sites.IsHonest (sites.longer y (sites.Called e ∷ [])) → (l : BoardLink) → sites.IsAttached (sites.now y) l → sites.Remains (sites.now y) e
run-remains y e is l fl =
    let was = shorter y (sites.Called e ∷ []) is in
    let both = (reliable-parts y.steps (sites.Called e ∷ []) (sites.start y) is.reliable).1 in
    let legal = since-legal y (sites.Called e ∷ []) is in
    subst (λ r. sites.IsDetachedBy (sites.now y) e.call r ⊎ ((k : BoardLink) × sites.IsAttached (sites.after (sites.Called e) (sites.now y)) k)) (sym legal.0)
    (call-remains y.board (sites.now y) (runs.run-stands y was) l fl e.call both.1.up)

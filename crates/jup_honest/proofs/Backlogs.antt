-- The causes and the names of a run.
use Rattle.std.proofs.Common.{◌≡◌, ℕ, ◌+◌, ◌<◌, ◌≤◌, Bool, true, false, List, [], ◌∷◌, ◌++◌, length, nat_eq, refl, ap, sym, ◌∙◌, subst, Option, Some, None, arith, append_assoc, cond, append-nil, ◌&&◌, nat_le, Ok}
use Rattle.std.proofs.lemmas.Bool.{and_from, le-leb, ltb-true}
use Rattle.jup_honest.specs.Prelude.{Joined}
use Rattle.jup_honest.specs.Prelude as honest
use Rattle.jup_batch.specs.Boards as batch
use Rattle.jup_star.specs.Stars.{take_fault, BoardLink, after_join, after_take, after_fetch, after_leave, reply_of, star_after, join_result, fetched, taken, BoardStar}
use Rattle.jup_star.specs.Sites.{site_open_fault}
use Rattle.jup_site.proofs.Stars.{inserts, next}
use Rattle.jup_site.proofs.Items as items
use Rattle.jup_honest.specs.Sites as sites
use Rattle.jup_site.specs.Prelude as beside
use Rattle.jup_honest.proofs.Steps as steps
use Rattle.jup_honest.proofs.Runs.{join_gives}

-- If nothing comes before it was sent, a link that is reliable at the end was reliable at each moment.

-- a list begins with itself
begins_self : {A : Type 0} → (xs : List A) → sites.Begins xs xs
begins_self xs = ([], sym (append-nil xs))

-- and with what its beginning begins with
pub begins_chain : {A : Type 0} → (xs ys zs : List A) → sites.Begins xs ys → sites.Begins ys zs → sites.Begins xs zs
begins_chain xs ys zs b c = (c.0 ++ b.0, b.1 ∙ ap (λ ls. ls ++ b.0) c.1 ∙ append_assoc zs c.0 b.0)

-- of two beginnings of one list the longer begins with the other
two_begin : {A : Type 0} → (ys xs s t : List A) → length xs ≤ length ys → ys ++ s ≡ xs ++ t → sites.Begins ys xs
two_begin ys [] s t short e = (ys, refl)
two_begin [] (x ∷ xs) s t short e = absurd (omega (arith, short))
two_begin (y ∷ ys) (x ∷ xs) s t short e =
    let later = two_begin ys xs s t (omega (arith, short)) (cc) in
    (later.0, (let first : y ≡ x = cc in ap (λ z. z ∷ ys) first ∙ ap (λ zs. x ∷ zs) later.1))

pub both_begin : {A : Type 0} → (all ys xs : List A) → sites.Begins all ys → sites.Begins all xs → length xs ≤ length ys → sites.Begins ys xs
both_begin all ys xs b c short = two_begin ys xs b.0 c.0 short (sym b.1 ∙ c.1)

-- each list of a connection only grows
pub record Grows (a b : sites.Connection) : Type 0 where
  pub sent : sites.Begins b.sent a.sent
  pub taken : sites.Begins b.taken a.taken
  pub fetched : sites.Begins b.fetched a.fetched
  pub handed : sites.Begins b.handed a.handed

taken_grows : (i : ℕ) (c : honest.Call) (us : List (honest.Up honest.BoardBatch)) → sites.Begins (sites.taken_with i c us) us
taken_grows i honest.Join us = begins_self us
taken_grows i (honest.Take j u) us = cases (nat_eq j i)
  where
    cases : (b : Bool) → sites.Begins (cond b (us ++ u ∷ []) us) us
    cases true = (u ∷ [], refl)
    cases false = begins_self us
taken_grows i (honest.Fetch j max) us = begins_self us
taken_grows i (honest.Leave j) us = begins_self us

fetched_grows : (i : ℕ) (c : honest.Call) (r : honest.StarReply) (ds : List (honest.Down honest.BoardBatch)) → sites.Begins (sites.fetched_with i c r ds) ds
fetched_grows i honest.Join r ds = begins_self ds
fetched_grows i (honest.Take j u) r ds = begins_self ds
fetched_grows i (honest.Fetch j max) r ds = cases (nat_eq j i)
  where
    cases : (b : Bool) → sites.Begins (cond b (ds ++ sites.fetched_in r) ds) ds
    cases true = (sites.fetched_in r, refl)
    cases false = begins_self ds
fetched_grows i (honest.Leave j) r ds = begins_self ds

grows_after : (m : sites.Step) (a : sites.Connection) → Grows a (sites.after m a)
grows_after (sites.Edit commands) a = record { sent = (_, refl); taken = begins_self a.taken; fetched = begins_self a.fetched; handed = begins_self a.handed }
grows_after (sites.Deliver d) a = record { sent = (_, refl); taken = begins_self a.taken; fetched = begins_self a.fetched; handed = (d ∷ [], refl) }
grows_after (sites.Ping k) a = record { sent = (_, refl); taken = begins_self a.taken; fetched = begins_self a.fetched; handed = begins_self a.handed }
grows_after (sites.Called e) a = record {
  sent = begins_self a.sent;
  taken = taken_grows a.number e.call a.taken;
  fetched = fetched_grows a.number e.call e.reply a.fetched;
  handed = begins_self a.handed;
}

pub grows_through : (ms : List sites.Step) (a : sites.Connection) → Grows a (sites.through ms a)
grows_through [] a = record { sent = begins_self a.sent; taken = begins_self a.taken; fetched = begins_self a.fetched; handed = begins_self a.handed }
grows_through (m ∷ ms) a =
    let one = grows_after m a in
    let later = grows_through ms (sites.after m a) in
    record {
      sent = begins_chain _ _ _ later.sent one.sent;
      taken = begins_chain _ _ _ later.taken one.taken;
      fetched = begins_chain _ _ _ later.fetched one.fetched;
      handed = begins_chain _ _ _ later.handed one.handed;
    }

-- at one moment
causal_one : (a b : sites.Connection) → Grows a b → sites.IsReliable b → sites.IsCausal a → sites.IsReliable a
causal_one a b g f c = record {
  up = both_begin b.sent a.sent a.taken g.sent (begins_chain b.sent b.taken a.taken f.up g.taken) c.up;
  down = both_begin b.fetched a.fetched a.handed g.fetched (begins_chain b.fetched b.handed a.handed f.down g.handed) c.down;
}

pub causal_through : (ms : List sites.Step) (a : sites.Connection) → sites.IsCausalThrough ms a → sites.IsReliable (sites.through ms a) → sites.IsReliableThrough ms a
causal_through [] a c f = f
causal_through (m ∷ ms) a c f = (causal_one a (sites.through ms (sites.after m a)) (grows_through (m ∷ ms) a) f c.0, causal_through ms (sites.after m a) c.1 f)

-- A site opens with the answer to its join: no item of the star's board bears a name of a number that was not given.

-- no item bears a name of a number that was not given, and the limit stays
pub record IsNamed (limit : ℕ) (s : BoardStar) : Type 0 where
  pub named : (i : ℕ) → s.given < i → beside.has_site i s.board ≡ false
  pub limit_is : s.limit ≡ limit

module _ (board : honest.Windows) (limit : ℕ) (s : BoardStar) (h : steps.CalledStar board s) (n : IsNamed limit s) where
  -- an edit of a link
  taken-named : (j : ℕ) (l : BoardLink) → beside.link_of j s.links ≡ Some l → (u : honest.Up honest.BoardBatch) → beside.up_fault honest.board_batches s l u ≡ None → IsNamed limit (taken honest.board_batches j u l s)
  taken-named j l fl (honest.UpOp m) none = record {
    named = λ i above. items.batch_none i (beside.operation_at honest.board_batches l.end m) s.board (λ name put is. other i above (sym is ∙ own name put)) (n.named i above);
    limit_is = n.limit_is;
  }
    where
      own : (name : batch.Placed) → batch.Inserts (batch.edit_of (beside.operation_at honest.board_batches l.end m)) name → name.name.site ≡ j
      own name put = honest.batch_laws.next_site j _ (batch.edit_of m.op) name (next honest.board_batches honest.batch_laws beside.most_batches (honest.content board) s h.star j l fl m none)
          (inserts honest.board_batches honest.batch_laws beside.most_batches (honest.content board) s h.star j l fl m none name put)

      other : (i : ℕ) → s.given < i → i ≡ j → ⊥
      other i above is = (let gone : beside.link_of j s.links ≡ None = h.star.no_link j (omega (arith, above, is)) in absurd (cc))
  taken-named j l fl (honest.UpAck k) none = record { named = n.named; limit_is = n.limit_is }
  taken-named j l fl (honest.UpPing k) none = record { named = n.named; limit_is = n.limit_is }

-- any call
call-named : (board : honest.Windows) (limit : ℕ) (c : honest.Call) (s : BoardStar) → steps.CalledStar board s → IsNamed limit s → IsNamed limit (star_after c s)
unfolding star_after
call-named board limit honest.Join s h n = go (beside.join_fault s)
  where
    go : (o : Option honest.StarFault) → IsNamed limit (after_join s o)
    go None = record { named = λ i above. n.named i (omega (arith, above)); limit_is = n.limit_is }
    go (Some e) = n
call-named board limit (honest.Take j u) s h n = go (beside.link_of j s.links) refl
  where
    at : (l : BoardLink) → beside.link_of j s.links ≡ Some l → (f : Option honest.StarFault) → beside.up_fault honest.board_batches s l u ≡ f → IsNamed limit (after_take j u s (Some l) f)
    at l fl None none = taken-named board limit s h n j l fl u none
    at l fl (Some e) is = record { named = n.named; limit_is = n.limit_is }

    go : (o : Option BoardLink) → beside.link_of j s.links ≡ o → IsNamed limit (after_take j u s o (take_fault honest.board_batches s u o))
    go None e = n
    go (Some l) e = at l e (beside.up_fault honest.board_batches s l u) refl
call-named board limit (honest.Fetch j max) s h n = go (beside.link_of j s.links)
  where
    go : (o : Option BoardLink) → IsNamed limit (after_fetch j max s o)
    go None = n
    go (Some l) = record { named = n.named; limit_is = n.limit_is }
call-named board limit (honest.Leave j) s h n = go (beside.link_of j s.links)
  where
    go : (o : Option BoardLink) → IsNamed limit (after_leave j s o)
    go None = n
    go (Some l) = record { named = n.named; limit_is = n.limit_is }

through-named : (board : honest.Windows) (limit : ℕ) (es : List honest.HubEvent) (s : BoardStar) → steps.CalledStar board s → IsNamed limit s → IsNamed limit (honest.star_through s es)
through-named board limit [] s h n = n
through-named board limit (e ∷ es) s h n = through-named board limit es (star_after e.call s) (steps.call-grows board e.call s h).called (call-named board limit e.call s h n)

-- a join that was not refused
not_refused : (s : BoardStar) (j : Joined) → honest.JoinedReply (Ok j) ≡ reply_of honest.Join s → beside.join_fault s ≡ None
unfolding reply_of
not_refused s j is = go (beside.join_fault s) is
  where
    go : (o : Option honest.StarFault) → honest.JoinedReply (Ok j) ≡ honest.JoinedReply (join_result s o) → o ≡ None
    go None e = refl
    go (Some x) e = absurd (cc)

opens_with : (s : BoardStar) → beside.join_fault s ≡ None → 1 ≤ s.limit → s.limit ≤ beside.highest_limit → beside.has_site (s.given + 1) s.board ≡ false → site_open_fault (s.given + 1) s.limit s.board ≡ None
opens_with s fault low high named = rw (within 1 beside.highest_limit s.limit low high, within 1 beside.last_site (s.given + 1) (omega arith) few, named) refl
  where
    spent : (b c : Bool) → beside.first_fault (beside.test b beside.Full ∷ beside.test c beside.SitesSpent ∷ []) ≡ None → c ≡ true
    spent true true e = refl
    spent true false e = absurd (cc)
    spent false c e = absurd (cc)

    few : s.given + 1 ≤ beside.last_site
    few = let below = ltb-true s.given beside.last_site (spent _ _ fault) in omega (arith, below)

    within : (first last n : ℕ) → first ≤ n → n ≤ last → (nat_le first n && nat_le n last) ≡ true
    within first last n above below = and_from (nat_le first n) (nat_le n last) (le-leb first n above) (le-leb n last below)

-- so the site of a run opens
pub run-opens : (y : sites.SiteRun) → sites.IsHonest y → 1 ≤ y.limit → site_open_fault y.answer.site y.answer.limit y.answer.board ≡ None
run-opens y is low =
    let s : BoardStar = honest.star_through (sites.opening y) y.before in
    let parts = steps.legal-parts (sites.opening y) y.before _ is.legal in
    let gives = join_gives s y.answer parts.1.0 in
    let n : IsNamed y.limit s = through-named y.board y.limit y.before (sites.opening y) (steps.called-opened y.keeps y.board y.limit is.opens is.limited)
    (record { named = λ i above. items.layout_none i y.board (omega (arith, above)) is.opens.unsigned; limit_is = refl }) in
    subst (λ (j : Joined). site_open_fault j.site j.limit j.board ≡ None) (sym gives.0)
    (opens_with s (not_refused s y.answer parts.1.0) (omega (arith, low, n.limit_is)) (let high = is.limited in omega (arith, high, n.limit_is)) (n.named (s.given + 1) (omega arith)))

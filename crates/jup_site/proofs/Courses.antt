-- The laws of a star and its sites over time.
use Rattle.std.proofs.Common.{◌≡◌, inl, inr, ℕ, zero, suc, ◌+◌, ◌≤◌, ◌<◌, Bool, true, false, cond, List, [], ◌∷◌, ◌++◌, length, nat_eq, nat_le, refl, ap, sym, ◌∙◌, subst, None, arith, append-nil, append_assoc, leb-false, length-append, add-zero, leb-true}
use Rattle.jup_site.specs.Prelude.{Operations, AreLawful, Entry, Up, UpOp, UpAck, UpPing, StarOf, link_of, taken, entry, board_batches, BoardBatch, content, most_batches}
use Rattle.jup_site.specs.Sound.{IsSoundStar}
use Rattle.jup_site.specs.Moments.{Moment, newcomer, told_count, IsCalled, IsBeside}
use Rattle.jup_site.specs.Courses.{Becomes, Rests, Admits, Drops, Gives, Accepts, Course, Member, number, since, BoardCourse, BoardMember, IsOpened, StarShows, IsTakenUnlessFull, SiteHolds, HasLink, Remains, KeepsOrder, AreAtOnce, ShowOneOrder}
use Rattle.jup_site.proofs.Follows as following
use Rattle.jup_site.proofs.Stars as stars
use Rattle.jup_site.proofs.Beside as beside_star
use Rattle.jup_site.proofs.Later as site_later
use Rattle.jup_site.proofs.Past as past
use Rattle.jup_window.specs.Laws.Entries.{only_site-held}
use Rattle.jup_batch.specs.Boards.{batch_laws}
use Rattle.jup_star.proofs.Stars.{board_small}
use Rattle.jup_site.proofs.Views as views
use Rattle.jup_site.proofs.PastBoards.{order_symmetric}
use Rattle.jup_site.proofs.Copies as copies

-- one step further
plus : (n k : ℕ) → n + suc k ≡ suc (n + k)
plus n k = omega arith

-- # One star after another

module _ (O : Operations) (L : AreLawful O) (most : ℕ) (first : O.t.Content) where
  pub becomes-grows : (s t : StarOf O) → Becomes O s t → IsCalled O most first s → stars.Grows O L most first s t
  becomes-grows s t Rests h = stars.called-still O L most first s h
  becomes-grows s t Admits h = stars.called-joined O L most first s h
  becomes-grows s t (Drops j) h = stars.called-left O L most first s h j
  becomes-grows s t (Gives j n) h = stars.called-fetched O L most first s h j n
  becomes-grows s t (Accepts j l fl up none) h = stars.called-taken O L most first s h j l fl up none

  -- its order grows by one entry at the most, at the end
  pub record Adds (s t : StarOf O) : Type 0 where
    pub more : List (Entry O.Edit)
    pub one : length more ≤ 1
    pub grows : t.order ≡ s.order ++ more

  nothing : (s t : StarOf O) → t.order ≡ s.order → Adds s t
  nothing s t e = record { more = []; one = omega arith; grows = e ∙ sym (append-nil s.order) }

  pub becomes-adds : (s t : StarOf O) → Becomes O s t → Adds s t
  becomes-adds s t (Accepts j l fl (UpOp m) none) = record { more = entry O j m ∷ []; one = omega arith; grows = refl }
  becomes-adds s t (Accepts j l fl (UpAck k) none) = nothing s t refl
  becomes-adds s t (Accepts j l fl (UpPing k) none) = nothing s t refl
  becomes-adds s t b = nothing s t refl

  -- a star that was, from which the present one went on
  pub record Was (z s : StarOf O) : Type 0 where
    pub sound : IsSoundStar O most first z
    pub follows : following.Follows O L z s
    pub more : List (Entry O.Edit)
    pub grows : s.order ≡ z.order ++ more

  pub was-self : (s : StarOf O) → IsCalled O most first s → Was s s
  was-self s h = record { sound = h.star; follows = following.follows-same O L s s (omega arith) refl refl; more = []; grows = sym (append-nil s.order) }

  -- and goes on
  pub was-on : (z s t : StarOf O) → Becomes O s t → IsCalled O most first s → Was z s → Was z t
  was-on z s t b h was =
      let adds = becomes-adds s t b in record {
        sound = was.sound;
        follows = following.follows-chain O L z s t was.sound.board_known was.follows (becomes-grows s t b h).follows;
        more = was.more ++ adds.more;
        grows = adds.grows ∙ ap (λ es. es ++ adds.more) was.grows ∙ append_assoc z.order was.more adds.more;
      }

-- # A course

module _ (O : Operations) (L : AreLawful O) (symmetric : (x y : O.State) → O.t.keeps_order x y → O.t.keeps_order y x) (most : ℕ) (c : Course O) (opens : IsCalled O most (O.t.content c.board) (c.star 0)) where
  abbrev first : O.t.Content
  first = O.t.content c.board

  pub star-called : (t : ℕ) → IsCalled O most first (c.star t)
  star-called zero = opens
  star-called (suc t) = (becomes-grows O L most first (c.star t) (c.star (suc t)) (c.becomes t) (star-called t)).called

  -- # Past stars

  -- the first star up to a time whose order has so many entries
  abbrev pub star_when : ℕ → ℕ → StarOf O
  star_when k zero = c.star 0
  star_when k (suc t) = cond (nat_le k (length (c.star t).order)) (star_when k t) (c.star (suc t))

  -- it stays
  when-stays : (k t : ℕ) → k ≤ length (c.star t).order → star_when k (suc t) ≡ star_when k t
  when-stays k t low = cases (nat_le k (length (c.star t).order)) refl
    where
      cases : (b : Bool) → nat_le k (length (c.star t).order) ≡ b → cond b (star_when k t) (c.star (suc t)) ≡ star_when k t
      cases true e = refl
      cases false e = let above = leb-false k (length (c.star t).order) e in absurd (omega (arith, low, above))

  when-new : (k t : ℕ) → length (c.star t).order < k → star_when k (suc t) ≡ c.star (suc t)
  when-new k t high = cases (nat_le k (length (c.star t).order)) refl
    where
      cases : (b : Bool) → nat_le k (length (c.star t).order) ≡ b → cond b (star_when k t) (c.star (suc t)) ≡ c.star (suc t)
      cases true e = let low = leb-true k (length (c.star t).order) e in absurd (omega (arith, low, high))
      cases false e = refl

  adds_at : (t : ℕ) → Adds O L most first (c.star t) (c.star (suc t))
  adds_at t = becomes-adds O L most first (c.star t) (c.star (suc t)) (c.becomes t)

  -- the length of the first star with a new entry
  length_new : (k t : ℕ) → length (c.star t).order < k → k ≤ length (c.star (suc t)).order → length (c.star (suc t)).order ≡ k
  length_new k t high low = let adds = adds_at t in omega (arith, high, low, adds.one, ap length adds.grows, length-append (c.star t).order adds.more)

  -- each is a past star
  pub before : (t k : ℕ) → k ≤ length (c.star t).order → (length (star_when k t).order ≡ k) × Was O L most first (star_when k t) (c.star t)
  before zero k low = (omega (arith, low, ap (λ (s : StarOf O). length s.order) c.opened), was-self O L most first (c.star 0) opens)
  before (suc t) k low = cases (before t k) (nat_le k (length (c.star t).order)) refl
    where
      cases : (k ≤ length (c.star t).order → (length (star_when k t).order ≡ k) × Was O L most first (star_when k t) (c.star t))
          → (b : Bool) → nat_le k (length (c.star t).order) ≡ b → (length (star_when k (suc t)).order ≡ k) × Was O L most first (star_when k (suc t)) (c.star (suc t))
      cases earlier true e =
          let within = leb-true k (length (c.star t).order) e in
          let was = earlier within in
          subst (λ z. (length z.order ≡ k) × Was O L most first z (c.star (suc t))) (sym (when-stays k t within))
          (was.0, was-on O L most first (star_when k t) (c.star t) (c.star (suc t)) (c.becomes t) (star-called t) was.1)
      cases earlier false e =
          let above = leb-false k (length (c.star t).order) e in
          subst (λ z. (length z.order ≡ k) × Was O L most first z (c.star (suc t))) (sym (when-new k t above))
          (length_new k t above low, was-self O L most first (c.star (suc t)) (star-called (suc t)))

  -- # A site

  module _ (s : Member O c) where
    abbrev i : ℕ
    i = number O s

    abbrev at : ℕ
    at = since O s

    pub member-beside : (n : ℕ) → IsBeside O most first at i (s.moment n)
    member-beside zero = subst (IsBeside O most first at i) (sym s.starts) (beside_star.beside-new O L most first (c.star s.joins) (star-called s.joins))
    member-beside (suc n) = elim (s.goes n) [
      | inl move ↦ beside_star.moves-beside O L most first at i (s.moment n) (s.moment (suc n)) move (member-beside n)
      | inr same ↦ subst (IsBeside O most first at i) (sym same) (member-beside n)
    ]

    member-next : (n : ℕ) → site_later.Later O L most first at i (s.moment n) (s.moment (suc n))
    member-next n = elim (s.goes n) [
      | inl move ↦ site_later.moves-later O L most first at i (s.moment n) (s.moment (suc n)) (member-beside n) move
      | inr same ↦ subst (site_later.Later O L most first at i (s.moment n)) (sym same) (site_later.later-self O L most first at i (s.moment n))
    ]

    pub member-later : (k n : ℕ) → site_later.Later O L most first at i (s.moment n) (s.moment (n + k))
    member-later zero n = subst (λ t. site_later.Later O L most first at i (s.moment n) (s.moment t)) (sym (add-zero n)) (site_later.later-self O L most first at i (s.moment n))
    member-later (suc k) n = subst (λ t. site_later.Later O L most first at i (s.moment n) (s.moment t)) (sym (plus n k))
        (site_later.later-chain O L most first at i (s.moment n) (s.moment (n + k)) (s.moment (suc (n + k))) (member-beside n) (member-later k n) (member-next (n + k)))

    pub member-gone : (k n : ℕ) → link_of i (s.moment n).star.links ≡ None → link_of i (s.moment (n + k)).star.links ≡ None
    member-gone zero n none = subst (λ t. link_of i (s.moment t).star.links ≡ None) (sym (add-zero n)) none
    member-gone (suc k) n none = subst (λ t. link_of i (s.moment t).star.links ≡ None) (sym (plus n k)) (elim (s.goes (n + k)) [
      | inl move ↦ beside_star.none-stays O L most first at i (s.moment (n + k)) (s.moment (suc (n + k))) move (member-beside (n + k)) (member-gone k n none)
      | inr same ↦ ap (λ (m : Moment O). link_of i m.star.links) same ∙ member-gone k n none
    ])

    -- it recalls all past stars
    abbrev Remembers : ℕ → Moment O → Type 0
    Remembers t m = past.Recalls O L symmetric most first at i (λ k. star_when k t) m

    -- while the order stays they do
    remembers-on : (t : ℕ) (m : Moment O) → m.star ≡ c.star t → Remembers t m → Remembers (suc t) m
    remembers-on t m is r = record { long = λ k low. (each k low).0; was = λ k low. (each k low).1 }
      where
        each : (k : ℕ) → k ≤ length m.star.order → (length (star_when k (suc t)).order ≡ k) × past.WasStar O L symmetric most first at i (star_when k (suc t)) m
        each k low = subst (λ z. (length z.order ≡ k) × past.WasStar O L symmetric most first at i z m)
            (sym (when-stays k t (omega (arith, low, ap (λ (s : StarOf O). length s.order) is)))) (r.long k low, r.was k low)

    -- as it joins
    joins-remembering : Remembers (suc s.joins) (newcomer O (c.star s.joins))
    joins-remembering = record { long = λ k low. (each k low).0; was = λ k low. (each k low).1 }
      where
        each : (k : ℕ) → k ≤ length (c.star s.joins).order
            → (length (star_when k (suc s.joins)).order ≡ k) × past.WasStar O L symmetric most first at i (star_when k (suc s.joins)) (newcomer O (c.star s.joins))
        each k low = subst (λ z. (length z.order ≡ k) × past.WasStar O L symmetric most first at i z (newcomer O (c.star s.joins))) (sym (when-stays k s.joins low))
            (let was = before s.joins k low in
            (was.0, past.was-new O L symmetric most first (c.star s.joins) (star-called s.joins) (star_when k s.joins) was.1.sound was.1.follows was.1.more was.1.grows))

    -- what the next moment brings
    adds_next : (n : ℕ) → past.Adds O L symmetric most first at i (λ k. star_when k (suc (suc (s.joins + n)))) (s.moment n).star (s.moment (suc n)).star
    adds_next n k high low = when-new k (suc (s.joins + n)) (omega (arith, high, ap (λ (s : StarOf O). length s.order) (s.at_star n))) ∙ sym (s.at_star (suc n) ∙ ap (λ t. c.star (suc t)) (plus s.joins n))

    pub member-remembers : (n : ℕ) → Remembers (suc (s.joins + n)) (s.moment n)
    member-remembers zero = subst (λ t. Remembers (suc t) (s.moment 0)) (sym (add-zero s.joins)) (subst (Remembers (suc s.joins)) (sym s.starts) joins-remembering)
    member-remembers (suc n) = subst (λ t. Remembers (suc t) (s.moment (suc n))) (sym (plus s.joins n)) (next (remembers-on (suc (s.joins + n)) (s.moment n) (s.at_star n) (member-remembers n)))
      where
        next : Remembers (suc (suc (s.joins + n))) (s.moment n) → Remembers (suc (suc (s.joins + n))) (s.moment (suc n))
        next now = elim (s.goes n) [
          | inl move ↦ past.moves-recall O L symmetric most first at i (λ k. star_when k (suc (suc (s.joins + n)))) (s.moment n) (s.moment (suc n)) (member-beside n) move (adds_next n) now
          | inr same ↦ subst (Remembers (suc (suc (s.joins + n)))) (sym same) now
        ]

    -- # What it once showed

    -- a past board, by the stars up to a time
    abbrev Copied : ℕ → ℕ → Moment O → Type 0
    Copied n t m = copies.IsCopy O L symmetric most first (λ k. star_when k t) at i (told_count O at i (s.moment n)) (s.moment n).at.site.board m

    copied-on : (n t : ℕ) (m : Moment O) → m.star ≡ c.star t → Copied n t m → Copied n (suc t) m
    copied-on n t m is r = record {
      shown = r.shown;
      within = r.within;
      meets = λ k low. subst (copies.Meets O L symmetric most first i (told_count O at i (s.moment n)) (s.moment n).at.site.board)
          (sym (when-stays k t (omega (arith, low, ap (λ (s : StarOf O). length s.order) is)))) (r.meets k low);
    }

    pub member-copied : (n later : ℕ) → Copied n (suc (s.joins + (n + later))) (s.moment (n + later))
    member-copied n zero = subst (λ t. Copied n (suc (s.joins + t)) (s.moment t)) (sym (add-zero n))
        (copies.copy-now O L symmetric most first (λ k. star_when k (suc (s.joins + n))) at i (s.moment n) (member-beside n) (member-remembers n))
    member-copied n (suc d) = subst (λ t. Copied n (suc (s.joins + t)) (s.moment t)) (sym (plus n d)) (subst (λ t. Copied n (suc t) (s.moment (suc (n + d)))) (sym (plus s.joins (n + d))) (next (n + d) (member-copied n d)))
      where
        next : (t : ℕ) → Copied n (suc (s.joins + t)) (s.moment t) → Copied n (suc (suc (s.joins + t))) (s.moment (suc t))
        next t was =
            let now = copied-on n (suc (s.joins + t)) (s.moment t) (s.at_star t) was in
            elim (s.goes t) [
              | inl move ↦ copies.moves-copy O L symmetric most first (λ k. star_when k (suc (suc (s.joins + t)))) at i (told_count O at i (s.moment n)) (s.moment n).at.site.board (s.moment t) (s.moment (suc t)) (member-beside t) move
                  (adds_next t) (remembers-on (suc (s.joins + t)) (s.moment t) (s.at_star t) (member-remembers t)) now
              | inr same ↦ subst (Copied n (suc (suc (s.joins + t)))) (sym same) now
            ]

  -- # Two sites

  module _ (a b : Member O c) (n later k : ℕ) (time : a.joins + (n + later) ≡ b.joins + k) (apart : nat_eq (number O a) (number O b) ≡ false) where
    -- what one shows, and what the other shows at that time or later
    pub members-copied : O.t.keeps_order (a.moment n).at.site.board (b.moment k).at.site.board
    members-copied =
        copies.copy-agrees O L symmetric most first (since O a) (since O b) (number O a) (number O b) apart (λ x. star_when x (suc (a.joins + (n + later)))) (told_count O (since O a) (number O a) (a.moment n))
        (a.moment n).at.site.board (a.moment (n + later)) (b.moment k) (b.at_star k ∙ ap (λ t. c.star (suc t)) (sym time) ∙ sym (a.at_star (n + later))) (member-copied a n later) (member-remembers a (n + later)) (member-beside b k)
        (subst (λ t. past.Recalls O L symmetric most first (since O b) (number O b) (λ x. star_when x (suc t)) (b.moment k)) (sym time) (member-remembers b k))

module _ (c : BoardCourse) (is : IsOpened c) where
  -- the star as it is opened
  opened : IsCalled board_batches most_batches (content c.board) (c.star 0)
  opened = subst (IsCalled board_batches most_batches (content c.board)) (sym c.opened) (record {
    star = stars.star-opened board_batches batch_laws most_batches c.limit c.board is.opens.distinct (board_small c.board is.opens.short) (let low = is.limited in omega arith) (omega arith)
        (λ n held. only_site-held 0 c.board n is.opens.unsigned held);
    no_entry = λ j above. refl;
  })

  pub course-shows : (t : ℕ) → StarShows c.board (c.star t)
  course-shows t = (star-called board_batches batch_laws order_symmetric most_batches c opened t).star.content_is

  module _ (s : BoardMember c) where
    -- it is beside the star
    beside : (n : ℕ) → IsBeside board_batches most_batches (content c.board) (since board_batches s) (number board_batches s) (s.moment n)
    beside n = member-beside board_batches batch_laws order_symmetric most_batches c opened s n

    pub member-holds : (n : ℕ) → SiteHolds c.board (since board_batches s) (number board_batches s) (s.moment n)
    member-holds n = record {
      running = h.stands.pair.goes_on;
      accepts = λ d falling e. beside_star.beside-accepts board_batches batch_laws most_batches (content c.board) (since board_batches s) (number board_batches s) (s.moment n) h d falling e;
      taken = taken;
      content = views.beside-view board_batches batch_laws most_batches (content c.board) (since board_batches s) (number board_batches s) (s.moment n) h;
      one_order = views.beside-order board_batches batch_laws most_batches (content c.board) (since board_batches s) (number board_batches s) (s.moment n) h order_symmetric;
      equal = λ q. views.beside-equal board_batches batch_laws most_batches (content c.board) (since board_batches s) (number board_batches s) (s.moment n) h q.up q.down q.outbox;
      whole = λ q. views.beside-whole board_batches batch_laws most_batches (content c.board) (since board_batches s) (number board_batches s) (s.moment n) h q.up;
      bounded = views.beside-bounded board_batches batch_laws most_batches (content c.board) (since board_batches s) (number board_batches s) (s.moment n) h;
      backlog = λ q. views.beside-backlog board_batches batch_laws most_batches (content c.board) (since board_batches s) (number board_batches s) (s.moment n) h q.up q.down q.outbox;
      link = h.is;
    }
      where
        h : IsBeside board_batches most_batches (content c.board) (since board_batches s) (number board_batches s) (s.moment n)
        h = beside n

        taken : (u : Up BoardBatch) (rising : List (Up BoardBatch)) → (s.moment n).at.up ≡ u ∷ rising → IsTakenUnlessFull (s.moment n).star (s.moment n).link u
        taken (UpOp m) rising e = elim (views.beside-answers board_batches batch_laws most_batches (content c.board) (since board_batches s) (number board_batches s) (s.moment n) h m rising e) [
          | inl a ↦ ((λ room. a.0), (λ full. absurd (omega (arith, a.1, full))))
          | inr a ↦ ((λ room. absurd (omega (arith, a.1, room))), (λ full. a.0))
        ]
        taken (UpAck k) rising e = views.beside-heard board_batches batch_laws most_batches (content c.board) (since board_batches s) (number board_batches s) (s.moment n) h k rising e
        taken (UpPing k) rising e = refl

    pub member-remains : (n : ℕ) → HasLink (number board_batches s) (s.moment n) → Remains (number board_batches s) (s.moment n) (s.moment (suc n))
    member-remains n fl = elim (s.goes n) [
      | inl move ↦ elim (beside_star.moves-remain board_batches batch_laws most_batches (content c.board) (since board_batches s) (number board_batches s) (s.moment n) (s.moment (suc n)) move (beside n) fl) [
        | inl leave ↦ inr (beside_star.leave-left board_batches batch_laws most_batches (content c.board) (since board_batches s) (number board_batches s) (s.moment n) (s.moment (suc n)) move leave)
        | inr has ↦ inl has
      ]
      | inr same ↦ inl (subst (HasLink (number board_batches s)) (sym same) fl)
    ]

    pub member-order : (n k : ℕ) → KeepsOrder (number board_batches s) (s.moment n) (s.moment (n + k))
    member-order n k =
        let later = member-later board_batches batch_laws order_symmetric most_batches c opened s k n in
        record { star = later.star.order; site = later.order; gone = member-gone board_batches batch_laws order_symmetric most_batches c opened s k n }

  pub members-later : (one other : BoardMember c) (n later k : ℕ) → AreAtOnce one other (n + later) k → ShowOneOrder (one.moment n) (other.moment k)
  members-later one other n later k at = members-copied board_batches batch_laws order_symmetric most_batches c opened one other n later k at.time at.apart

  pub members-orders : (one other : BoardMember c) (n k : ℕ) → AreAtOnce one other n k → ShowOneOrder (one.moment n) (other.moment k)
  members-orders one other n k at = members-later one other n 0 k (record { time = (let same = at.time in omega arith); apart = at.apart })

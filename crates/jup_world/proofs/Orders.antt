-- The star and each site keep the order of their items.
use Rattle.std.proofs.Common.{◌≡◌, ℕ, ◌<◌, List, [], ◌∷◌, refl, arith, inl, inr, Some, None, take}
use Rattle.jup_world.specs.Prelude.{Operations, AreLawful}
use Rattle.jup_world.specs.Traces as traces
use Rattle.jup_world.specs.Worlds.{WorldOf, EventOf, outcome, happens, run, attached, AttachedOf}
use Rattle.jup_world.specs.Sound as soundness
use Rattle.jup_site.proofs.Numbers.{either}
use Rattle.jup_site.proofs.Follows as following
use Rattle.jup_site.proofs.Later.{runs-later}
use Rattle.jup_world.proofs.Sound.Runs.{sound-happens}
use Rattle.jup_world.proofs.Sound.Comes.{comes-to}
use Rattle.jup_world.proofs.Sound.Steps.{star-grows, arrives}

-- Over any run the star keeps the order of its items.

module _ (O : Operations) (L : AreLawful O) where
  -- any event
  pub event-follows : (most : ℕ) (w : WorldOf O) → soundness.IsSound O most w → (e : EventOf O) → following.Follows O L w.star (outcome O w e).star
  event-follows most w s e = (star-grows O L most w s e).follows

  -- over any run the star keeps the order of its items, and no name comes back
  pub run-follows : (es : List (EventOf O)) (most : ℕ) (w : WorldOf O) → soundness.IsSound O most w → following.Follows O L w.star (run O w es).star
  run-follows [] most w s = following.follows-same O L w.star w.star (omega arith) refl refl
  run-follows (e ∷ es) most w s =
      following.follows-chain O L w.star (happens O w e).star (run O (happens O w e) es).star s.star.star.board_known (event-follows most w s e) (run-follows es most (happens O w e) (sound-happens O L most w e s))

-- From before an event to after it each attached site keeps the order of its items, and no name that it knew comes back. Over any run so does each site that is attached at both ends.

module _ (O : Operations) (L : AreLawful O) where
  -- the entries that have reached a site
  abbrev pub told_turns : WorldOf O → ℕ → List (traces.Turn O.Edit)
  told_turns w j = take (soundness.told_of O (traces.joined_at O j w.trace) (traces.shown_count j w.trace) (traces.turns j w.star.order)) (traces.turns j w.star.order)

  -- a name that a site knows: of the layout, of its own insertions, or of an entry that has reached it
  abbrev pub SiteKnows : WorldOf O → ℕ → AttachedOf O → O.t.Name → Type 0
  SiteKnows w j a n = soundness.IsKnown O (soundness.own_counts O j a.site.named (λ k. soundness.named_by O j k (told_turns w j))) n

  -- one site of a world, and that site in a later world
  pub record SiteFollows (w v : WorldOf O) (j : ℕ) (a b : AttachedOf O) : Type 0 where
    pub order : O.t.keeps_order a.site.board b.site.board
    pub knows : (n : O.t.Name) → SiteKnows w j a n → SiteKnows v j b n
    pub none_back : (n : O.t.Name) → SiteKnows w j a n → O.t.holds b.site.board n → O.t.holds a.site.board n

  -- a site's number was given
  pub given_before : (most : ℕ) (w : WorldOf O) → soundness.IsSound O most w → (j : ℕ) (a : AttachedOf O) → attached j w.sites ≡ Some a → w.star.given < j → ⊥
  given_before most w s j a fa above = let low = (s.sites j a fa).beside.given in omega arith

  -- what a site holds it knows
  pub holds_known : (most : ℕ) (w : WorldOf O) → soundness.IsSound O most w → (j : ℕ) (a : AttachedOf O) → attached j w.sites ≡ Some a → (n : O.t.Name) → O.t.holds a.site.board n → SiteKnows w j a n
  holds_known most w s j a fa = (s.sites j a fa).beside.stands.pair.board_known

  -- one world after another
  pub follows_chain : (u v w : WorldOf O) (j : ℕ) (a b c : AttachedOf O) → ((n : O.t.Name) → O.t.holds a.site.board n → SiteKnows u j a n) → SiteFollows u v j a b → SiteFollows v w j b c → SiteFollows u w j a c
  follows_chain u v w j a b c known f g = record {
    order = L.keeps.order_chain a.site.board b.site.board c.site.board f.order g.order (λ n held later. g.none_back n (f.knows n (known n held)) later);
    knows = λ n k. g.knows n (f.knows n k);
    none_back = λ n k later. f.none_back n k (g.none_back n (f.knows n k) later);
  }

  module _ (most : ℕ) (w : WorldOf O) (s : soundness.IsSound O most w) (e : EventOf O) (j : ℕ) where
    -- one event, at a site that stays
    event_follows : (a b : AttachedOf O) → attached j w.sites ≡ Some a → attached j (happens O w e).sites ≡ Some b → SiteFollows w (happens O w e) j a b
    event_follows a b fa fb =
        let was = s.sites j a fa in
        let comes = comes-to O w j was.beside.given was.link a was.linked fa e b fb in
        let later = runs-later O L most (O.t.content w.opening) (traces.joined_at O j w.trace) j (soundness.moment_of O w j was.link a) (soundness.moment_of O (happens O w e) j comes.link b) comes.run was.beside in
        record { order = later.order; knows = rw comes.since later.knows; none_back = later.none_back }

    -- a site that is gone stays gone
    pub gone_on : attached j w.sites ≡ None → (w.star.given < j → ⊥) → attached j (happens O w e).sites ≡ None
    gone_on none old = elim (arrives O w j e none) [
      | inl nobody ↦ nobody
      | inr next ↦ absurd (old (let is = next.0 in omega arith))
    ]

  -- over any run
  pub stays_gone : (es : List (EventOf O)) (most : ℕ) (w : WorldOf O) → soundness.IsSound O most w → (j : ℕ) → attached j w.sites ≡ None → (w.star.given < j → ⊥) → attached j (run O w es).sites ≡ None
  stays_gone [] most w s j none old = none
  stays_gone (e ∷ es) most w s j none old =
      stays_gone es most (happens O w e) (sound-happens O L most w e s) j (gone_on most w s e j none old)
      (λ above. let given = (event-follows O L most w s e).given in old (omega arith))

  -- over any run a site that is attached at both ends keeps the order of its items
  pub run_follows : (es : List (EventOf O)) (most : ℕ) (w : WorldOf O) → soundness.IsSound O most w → (j : ℕ) (a c : AttachedOf O) → attached j w.sites ≡ Some a → attached j (run O w es).sites ≡ Some c → SiteFollows w (run O w es) j a c
  run_follows [] most w s j a c fa fc =
      let same : c ≡ a = cc in
      rw same (record { order = L.keeps.order_self a.site.board; knows = λ n k. k; none_back = λ n k held. held })
  run_follows (e ∷ es) most w s j a c fa fc =
      let next = sound-happens O L most w e s in
      either (attached j (happens O w e).sites) (λ o. SiteFollows w (run O (happens O w e) es) j a c)
      (λ none.
      let given = (event-follows O L most w s e).given in
      let gone = stays_gone es most (happens O w e) next j none (λ above. given_before most w s j a fa (omega arith)) in
      absurd (cc))
      (λ b fb. follows_chain w (happens O w e) (run O (happens O w e) es) j a b c (holds_known most w s j a fa) (event_follows most w s e j a b fa fb) (run_follows es most (happens O w e) next j b c fb fc))

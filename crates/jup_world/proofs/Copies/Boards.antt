-- A board that a site once showed, in a world as it goes on.
use Rattle.std.proofs.Common.{◌≡◌, ◌⊎◌, ℕ, ◌≤◌, inl, inr, refl, ap, ◌∙◌, subst, Some, None, arith}
use Rattle.jup_world.specs.Prelude.{Operations, AreLawful, LinkState, StarOf, link_of}
use Rattle.jup_world.specs.Traces.{joined_at}
use Rattle.jup_world.specs.Worlds.{AttachedOf, attached, WorldOf, EventOf, only_fetched, happens, outcome}
use Rattle.jup_world.specs.Sound.{moment_of, IsSound}
use Rattle.jup_site.specs.Moments as moments
use Rattle.jup_site.proofs.Numbers.{either}
use Rattle.jup_site.proofs.Beside.{runs-beside}
use Rattle.jup_site.proofs.PastBoards as boards
use Rattle.jup_world.proofs.Sound.Comes as comes
use Rattle.jup_world.proofs.Sound.Runs.{fetched-from, fetched-none}
use Rattle.jup_world.proofs.Orders.{gone_on}

module _ (O : Operations) (L : AreLawful O) (symmetric : (x y : O.State) → O.t.keeps_order x y → O.t.keeps_order y x) (most : ℕ) where
  -- a moment of a site that is attached, or that left and has no link
  abbrev IsHere : WorldOf O → ℕ → moments.Moment O → Type 0
  IsHere w i m = ((a : AttachedOf O) × (attached i w.sites ≡ Some a) × (l : LinkState O.Op) × (link_of i w.star.links ≡ Some l) × (m ≡ moment_of O w i l a)) ⊎ ((attached i w.sites ≡ None) × (link_of i w.star.links ≡ None))

  -- The site of a number once showed this board. Once it left, it goes on as if nobody had read its link since
  pub record WasShown (w : WorldOf O) (i : ℕ) (x : O.State) : Type 0 where
    pub since : ℕ
    pub at : moments.Moment O
    pub star : at.star ≡ w.star
    pub beside : moments.IsBeside O most (O.t.content w.opening) since i at
    pub shown : boards.WasShown O L symmetric most (O.t.content w.opening) since i x at
    pub is : IsHere w i at

  -- the site of the moment
  pub was_here : (w : WorldOf O) (s : IsSound O most w) (i : ℕ) (a : AttachedOf O) → attached i w.sites ≡ Some a → WasShown w i a.site.board
  was_here w s i a fa =
      let here = s.sites i a fa in
      record {
        since = joined_at O i w.trace;
        at = moment_of O w i here.link a;
        star = refl;
        beside = here.beside;
        shown = boards.shown-now O L symmetric most (O.t.content w.opening) (joined_at O i w.trace) i (moment_of O w i here.link a) here.beside;
        is = inl (a, fa, here.link, here.linked, refl);
      }

  -- so what it showed and what the star shows are in one order
  pub was_order : (w : WorldOf O) (i : ℕ) (x : O.State) → WasShown w i x → O.t.keeps_order x w.star.board
  was_order w i x was = subst (λ (s : StarOf O). O.t.keeps_order x s.board) was.star (boards.shown-order O L symmetric most (O.t.content w.opening) was.since i x was.at was.beside was.shown)

  module _ (w : WorldOf O) (s : IsSound O most w) (i : ℕ) (x : O.State) (was : WasShown w i x) where
    low : i ≤ w.star.given
    low = subst (λ (s : StarOf O). i ≤ s.given) was.star was.beside.given

    -- moves keep it
    goes : (v : WorldOf O) → v.opening ≡ w.opening → (m n : moments.Moment O) → was.at ≡ m → moments.Runs O i m n → n.star ≡ v.star → IsHere v i n → WasShown v i x
    goes v same m n is run star here =
        let go : moments.Runs O i was.at n = rw is run in
        record {
          since = was.since;
          at = n;
          star = star;
          beside = rw same (runs-beside O L most (O.t.content w.opening) was.since i was.at n go was.beside);
          shown = rw same (boards.runs-shown O L symmetric most (O.t.content w.opening) was.since i x was.at n go was.beside was.shown);
          is = here;
        }

    -- a site that left
    abbrev at_star : StarOf O → moments.Moment O
    at_star s = record { star = s; link = was.at.link; mine = was.at.mine; shown = was.at.shown; at = was.at.at }

    abbrev left_at : moments.Moment O
    left_at = at_star w.star

    left_is : was.at ≡ left_at
    left_is = ap at_star was.star

    left_beside : moments.IsBeside O most (O.t.content w.opening) was.since i left_at
    left_beside = subst (moments.IsBeside O most (O.t.content w.opening) was.since i) left_is was.beside

    elsewhere : (v : WorldOf O) → v.opening ≡ w.opening → attached i v.sites ≡ None → comes.IsElsewhere O i left_at v.star → WasShown v i x
    elsewhere v same none to = goes v same left_at to.at left_is to.run to.star (inr (none, to.no_link))

    -- each event
    pub was_happens : (e : EventOf O) → WasShown (happens O w e) i x
    was_happens e = elim was.is [
      | inl here ↦ either (attached i (outcome O w e).sites) (λ o. WasShown (happens O w e) i x)
          (λ none. let to = comes.gone-to O w i low here.2 here.0 here.3 here.1 e none in
          goes (happens O w e) refl (moment_of O w i here.2 here.0) to.at here.4 to.run to.star (inr (none, to.no_link)))
          (λ c fc. let to = comes.comes-to O w i low here.2 here.0 here.3 here.1 e c fc in
          goes (happens O w e) refl (moment_of O w i here.2 here.0) (moment_of O (happens O w e) i to.link c) here.4 to.run refl (inl (c, fc, to.link, to.linked, refl)))
      | inr gone ↦ elsewhere (happens O w e) refl (gone_on O L most w s e i gone.0 (λ above. (let given = low in omega (arith, given, above))))
          (comes.goes-elsewhere O L most w was.since i was.at.link was.at.mine was.at.shown was.at.at gone.1 left_beside e)
    ]

    -- and a fetch
    pub was_fetched : (j n : ℕ) (l : LinkState O.Op) (a : AttachedOf O) → link_of j w.star.links ≡ Some l → attached j w.sites ≡ Some a → WasShown (only_fetched O w j n l) i x
    was_fetched j n l a fl fa = elim was.is [
      | inl here ↦ either (attached i (only_fetched O w j n l).sites) (λ o. WasShown (only_fetched O w j n l) i x)
          (λ none. absurd (let gone = (fetched-none O L most w s j n l a fl fa i).0 none in let there = here.1 in cc))
          (λ c fc.
          let from = fetched-from O L most w s j n l a fl fa i c fc in
          let there = s.sites i from.0 from.1 in
          let site : from.0 ≡ here.0 = (let one = from.1 in let other = here.1 in cc) in
          let link : there.link ≡ here.2 = (let one = there.linked in let other = here.3 in cc) in
          let same : moment_of O w i here.2 here.0 ≡ moment_of O w i there.link from.0 = cc in
          goes (only_fetched O w j n l) refl (moment_of O w i there.link from.0) (moment_of O (only_fetched O w j n l) i from.2.link c) (here.4 ∙ same) from.2.run refl
          (inl (c, fc, from.2.link, from.2.linked, refl)))
      | inr gone ↦ elsewhere (only_fetched O w j n l) refl ((fetched-none O L most w s j n l a fl fa i).1 gone.0)
          (comes.fetched-elsewhere O L most w was.since i was.at.link was.at.mine was.at.shown was.at.at gone.1 left_beside j n l fl)
    ]

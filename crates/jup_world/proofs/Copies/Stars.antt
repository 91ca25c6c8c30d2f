-- A star as it once was, beside the sites.
use Rattle.std.proofs.Common.{◌≡◌, ℕ, refl, sym, subst, Some}
use Rattle.jup_world.specs.Prelude.{Operations, AreLawful, LinkState, StarOf, link_of, fetched, opened_link}
use Rattle.jup_world.specs.Traces.{joined_at}
use Rattle.jup_world.specs.Worlds.{AttachedOf, attached, WorldOf, EventOf, outcome, only_fetched, happens}
use Rattle.jup_world.specs.Sound.{moment_of, IsSound}
use Rattle.jup_site.specs.Courses.{Gives}
use Rattle.jup_site.proofs.Courses as courses
use Rattle.jup_site.proofs.Numbers.{either}
use Rattle.jup_site.proofs.Past as recalling
use Rattle.jup_world.proofs.Sound.Traces.{beside}
use Rattle.jup_world.proofs.Sound.Comes.{ComesTo, comes-to}
use Rattle.jup_world.proofs.Sound.Steps as sound_steps
use Rattle.jup_world.proofs.Sound.Runs.{fetched-from}

-- Over any run a star that the world once had stays a past star: of each site that is attached.

module _ (O : Operations) (L : AreLawful O) (symmetric : (x y : O.State) → O.t.keeps_order x y → O.t.keeps_order y x) (most : ℕ) where
  -- beside a site and its link
  abbrev pub WasBeside : WorldOf O → StarOf O → ℕ → LinkState O.Op → AttachedOf O → Type 0
  WasBeside w z j l b = recalling.WasStar O L symmetric most (O.t.content w.opening) (joined_at O j w.trace) j z (moment_of O w j l b)

  -- A star that the world once had, from which the present one went on. Each site has received all that it had sent, or still has some of it to receive.
  pub record WasStar (w : WorldOf O) (z : StarOf O) : Type 0 where
    pub was : courses.Was O L most (O.t.content w.opening) z w.star
    pub sites : (j : ℕ) (l : LinkState O.Op) (b : AttachedOf O) → link_of j w.star.links ≡ Some l → attached j w.sites ≡ Some b → WasBeside w z j l b

  -- the star of the moment is one
  pub was_now : (w : WorldOf O) → IsSound O most w → WasStar w w.star
  was_now w s = record {
    was = courses.was-self O L most (O.t.content w.opening) w.star s.star;
    sites = λ j l b fl fb. recalling.was-now O L symmetric most (O.t.content w.opening) (joined_at O j w.trace) j (moment_of O w j l b) (beside O L most w s j l b fl fb);
  }

  -- what it showed and what a site shows are in one order
  pub past_order : (w : WorldOf O) (z : StarOf O) → WasStar w z → (j : ℕ) (l : LinkState O.Op) (b : AttachedOf O) → link_of j w.star.links ≡ Some l → attached j w.sites ≡ Some b → O.t.keeps_order z.board b.site.board
  past_order w z was j l b fl fb = recalling.was-order O L symmetric most (O.t.content w.opening) (joined_at O j w.trace) j z (moment_of O w j l b) (was.sites j l b fl fb)

  module _ (w : WorldOf O) (s : IsSound O most w) (z : StarOf O) (was : WasStar w z) where
    -- a site that comes from one of the world
    goes : (v : WorldOf O) → v.opening ≡ w.opening → (j : ℕ) (b c : AttachedOf O) (fb : attached j w.sites ≡ Some b) → ComesTo O w v j (s.sites j b fb).link b c
        → (l : LinkState O.Op) → link_of j v.star.links ≡ Some l → WasBeside v z j l c
    goes v same j b c fb to l fl =
        let at = s.sites j b fb in
        let link : l ≡ to.link = (let there = to.linked in cc) in
        let first = was.sites j at.link b at.linked fb in
        let kept = recalling.runs-was O L symmetric most (O.t.content w.opening) (joined_at O j w.trace) j z (moment_of O w j at.link b) (moment_of O v j to.link c) to.run at.beside first in
        rw (link, to.since, same) kept

    -- # Each event, and a fetch

    pub was_star_happens : (e : EventOf O) → WasStar (happens O w e) z
    was_star_happens e = record {
      was = courses.was-on O L most (O.t.content w.opening) z w.star (outcome O w e).star (sound_steps.star-becomes O w e) s.star was.was;
      sites = λ j l c fl fc. either (attached j w.sites) (λ o. WasBeside (happens O w e) z j l c)
          (λ none. joined j l c fl (sound_steps.joins-to O L most w s e j c none fc))
          (λ b fb. let at = s.sites j b fb in goes (happens O w e) refl j b c fb (comes-to O w j at.beside.given at.link b at.linked fb e c fc) l fl);
    }
      where
        -- a site that joins knows what that star knew
        joined : (j : ℕ) (l : LinkState O.Op) (c : AttachedOf O) → link_of j (happens O w e).star.links ≡ Some l → sound_steps.Joins O L most w s (happens O w e) j c → WasBeside (happens O w e) z j l c
        joined j l c fl to =
            let link : l ≡ opened_link j = (let there = to.linked in cc) in
            rw link
            (subst (λ m. recalling.WasStar O L symmetric most (O.t.content w.opening) (joined_at O j (happens O w e).trace) j z m) (sym to.moment)
            (rw (to.since, to.number) (recalling.was-new O L symmetric most (O.t.content w.opening) w.star s.star z was.was.sound was.was.follows was.was.more was.was.grows)))

    pub was_star_fetched : (i n : ℕ) (l : LinkState O.Op) (a : AttachedOf O) → link_of i w.star.links ≡ Some l → attached i w.sites ≡ Some a → WasStar (only_fetched O w i n l) z
    was_star_fetched i n l a fl fa = record {
      was = courses.was-on O L most (O.t.content w.opening) z w.star (fetched i n w.star) (Gives i n) s.star was.was;
      sites = λ j k c fk fc. let from = fetched-from O L most w s i n l a fl fa j c fc in goes (only_fetched O w i n l) refl j from.0 c from.1 from.2 k fk;
    }

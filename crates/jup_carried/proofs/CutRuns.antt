-- The run of both ways over three connections.
use Rattle.std.proofs.Common.{◌≡◌, ◌≢◌, ℕ, zero, suc, nat_eq, Bool, true, false, ◌&&◌, not, List, [], ◌∷◌, ◌++◌, refl, arith, codes}
use Rattle.std.proofs.lemmas.Bool.Decides.{nat_tests}
use Rattle.jup_resume.specs.Texts.{HasNoFeed}
use Rattle.jup_resume.specs.Notes.{begins_note}
use Rattle.jup_resume.specs.Ways.{Way, new_way, Event, Saves, run, AreAllowed, IsAllowed, comes}
use Rattle.jup_resume.proofs.Texts.{all_both}
use Rattle.jup_carried.specs.CutRuns as cut

-- Its events may happen.

unfoldable pub lacks_feed : List ℕ → Bool
lacks_feed [] = true
lacks_feed (b ∷ bytes) = not (nat_eq b 10) && lacks_feed bytes

other_byte : (b : ℕ) (more : Bool) → (not (nat_eq b 10) && more) ≡ true → (b ≢ 10) × (more ≡ true)
other_byte b true is = ((λ e. grind (arith, nat_tests)), refl)
other_byte b false is = grind (arith, nat_tests)

pub no_feed : (bytes : List ℕ) → lacks_feed bytes ≡ true → HasNoFeed bytes
unfolding lacks_feed
no_feed [] is = tt
no_feed (b ∷ bytes) is = let both = other_byte b (lacks_feed bytes) is in (both.0, no_feed bytes both.1)

pub comes_allowed : (n : ℕ) → AreAllowed begins_note (comes n)
comes_allowed zero = tt
comes_allowed (suc n) = (tt, comes_allowed n)

-- some events, and then bytes come
pub then_comes : (events : List Event) (n : ℕ) → AreAllowed begins_note events → AreAllowed begins_note (events ++ comes n)
then_comes events n all = all_both (IsAllowed begins_note) events (comes n) all (comes_allowed n)

pub ups_first : AreAllowed begins_note cut.ups_first
unfolding lacks_feed
ups_first = then_comes (cut.put_all cut.up_lines) 17
    ((no_feed (codes "batch 0 0 1") refl, refl), ((no_feed (codes "do 1 1 toggle set on") refl, refl), ((no_feed (codes "ping 7") refl, refl), (tt, (tt, (tt, (tt, tt)))))))

pub downs_first : AreAllowed begins_note cut.downs_first
unfolding lacks_feed
downs_first = (
  tt,
  (
    tt,
    (
      (no_feed (codes "link 0f1e2d3c4b5a69788796a5b4c3d2e1f0 300") refl, refl),
      then_comes (cut.put_all cut.greeting_lines) 82
          ((no_feed (codes "welcome 1 9") refl, refl), ((no_feed (codes "window 1") refl, refl), ((no_feed (codes "toggle 1 off") refl, refl), ((no_feed (codes "ready") refl, refl), (tt, (tt, (tt, (tt, (tt, tt))))))))),
    ),
  ),
)

pub ups_second : AreAllowed begins_note cut.ups_second
unfolding lacks_feed
ups_second = (tt, (tt, ((no_feed (codes "got 4") refl, refl), (tt, (tt, all_both (IsAllowed begins_note) (comes 34) (Saves ∷ []) (comes_allowed 34) (tt, tt))))))

pub downs_second : AreAllowed begins_note cut.downs_second
unfolding lacks_feed
downs_second = (tt, (tt, (tt, ((no_feed (codes "resumed 1") refl, refl), ((no_feed (codes "got 0") refl, refl), (tt, (tt, comes_allowed 16)))))))

pub downs_broken : AreAllowed begins_note cut.downs_broken
unfolding lacks_feed
downs_broken = then_comes (cut.put_all cut.answer_lines) 20
    ((no_feed (codes "batch 0 0 1") refl, refl), ((no_feed (codes "do 1 1 toggle set off") refl, refl), ((no_feed (codes "pong 7") refl, refl), (tt, (tt, (tt, (tt, tt)))))))

pub ups_third : AreAllowed begins_note cut.ups_third
unfolding lacks_feed
ups_third = (tt, (tt, ((no_feed (codes "got 5") refl, refl), (tt, (tt, comes_allowed 6)))))

pub downs_third : AreAllowed begins_note cut.downs_third
unfolding lacks_feed
downs_third = (tt, (tt, (tt, ((no_feed (codes "resumed 3") refl, refl), ((no_feed (codes "got 3") refl, refl), (tt, (tt, (tt, (tt, comes_allowed 45)))))))))

pub up_allowed : AreAllowed begins_note cut.cut_up
up_allowed =
    all_both (IsAllowed begins_note) cut.carry (cut.ups_first ++ (cut.ups_second ++ cut.ups_third)) (tt, (tt, tt))
    (all_both (IsAllowed begins_note) cut.ups_first (cut.ups_second ++ cut.ups_third) ups_first (all_both (IsAllowed begins_note) cut.ups_second cut.ups_third ups_second ups_third))

pub down_allowed : AreAllowed begins_note cut.cut_down
down_allowed =
    all_both (IsAllowed begins_note) cut.downs_first (cut.downs_second ++ (cut.downs_broken ++ cut.downs_third)) downs_first
    (all_both (IsAllowed begins_note) cut.downs_second (cut.downs_broken ++ cut.downs_third) downs_second
    (all_both (IsAllowed begins_note) cut.downs_broken cut.downs_third downs_broken downs_third))

-- What the ways are then.

abbrev pub up_carried : Way
up_carried = run begins_note cut.carry new_way

abbrev pub up_broken : Way
up_broken = run begins_note cut.ups_first up_carried

abbrev pub up_taken : Way
up_taken = run begins_note cut.ups_second up_broken

abbrev pub up_last : Way
up_last = run begins_note cut.ups_third up_taken

abbrev pub down_greeted : Way
down_greeted = run begins_note cut.downs_first new_way

abbrev pub down_resumed : Way
down_resumed = run begins_note cut.downs_second down_greeted

abbrev pub down_broken : Way
down_broken = run begins_note cut.downs_broken down_resumed

abbrev pub down_last : Way
down_last = run begins_note cut.downs_third down_broken

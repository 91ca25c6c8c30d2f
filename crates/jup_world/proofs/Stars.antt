-- A star stays sound.
use Rattle.std.proofs.Common.{◌≡◌, ℕ, refl, Some, None}
use Rattle.jup_world.specs.Prelude.{Operations, AreLawful, Up, UpOp, UpAck, UpPing, LinkState, StarOf, link_of, up_fault, place_taken, taken}
use Rattle.jup_world.specs.Sound.{IsSoundStar, IsAccepted}
use Rattle.jup_world.specs.Worlds.{place_reply}
use Rattle.jup_site.proofs.Stars.{valid, next}

-- What the star answers to a message, and becomes.

module _ (O : Operations) (L : AreLawful O) (most : ℕ) (first : O.t.Content) (s : StarOf O) (h : IsSoundStar O most first s) where
  -- what the star answers to a message, and becomes
  pub accepted : (i : ℕ) (l : LinkState O.Op) → link_of i s.links ≡ Some l → (up : Up O.Op) → up_fault O s l up ≡ None → IsAccepted O s i l up (place_reply O (place_taken O s up)) (taken O i up l s)
  accepted i l fl (UpOp m) none = record {
    reply = refl;
    order = refl;
    board = refl;
    valid = valid O L most first s h i l fl m none;
    next = next O L most first s h i l fl m none;
  }
  accepted i l fl (UpAck n) none = record { reply = refl; order = refl; board = refl }
  accepted i l fl (UpPing k) none = record { reply = refl; order = refl; board = refl }

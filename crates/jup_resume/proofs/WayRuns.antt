-- Ways that are runs go on as such.
use Rattle.std.proofs.Common.{◌≡◌, Bool, List, [], ◌∷◌, ◌++◌, refl, sym, ap, ◌∙◌, subst}
use Rattle.jup_resume.proofs.Texts.{all_both}
use Rattle.jup_resume.proofs.WayLaws.{way_keeps}
use Rattle.jup_resume.specs.Texts.{Text}
use Rattle.jup_resume.specs.Ways.{Way, new_way, Event, run, happens, IsAllowed, AreAllowed, IsRun, Keeps}

module _ (note : Text → Bool) where
  run-append : (es fs : List Event) (w : Way) → run note (es ++ fs) w ≡ run note fs (run note es w)
  run-append [] fs w = refl
  run-append (e ∷ es) fs w = run-append es fs (happens note w e)

  -- by allowed events
  pub run_on : (w : Way) (es : List Event) → IsRun note w → AreAllowed note es → IsRun note (run note es w)
  run_on w es r all = record {
    events = r.events ++ es;
    allowed = all_both (IsAllowed note) r.events es r.allowed all;
    is = ap (λ v. run note es v) r.is ∙ sym (run-append r.events es new_way);
  }

  -- and nothing of them is lost
  pub keeps : (w : Way) → IsRun note w → Keeps w
  keeps w r = subst Keeps (sym r.is) (way_keeps note r.events r.allowed)

-- What a client's link hears in the first lines of a server.
use Rattle.std.proofs.Common.{◌≡◌, ℕ, ◌+◌, ◌<◌, ◌≤◌, true, List, [], ◌∷◌, None, Some, refl, sym, ap, subst, arith, inl, codes, lit≤}
use Rattle.jup_resume.specs.Keepers.{after_begin, IsPlace}
use Rattle.jup_resume.specs.Confirmations.{after_beginning}
use Rattle.jup_resume.specs.declared.note.Note.TheVariants.{Resumed as SaysResumed}
use Rattle.jup_resume.specs.declared.taker.Arrival.TheVariants.{Note as IsNoteLine, Line as IsLine}
use Rattle.jup_lasting.specs.declared.line_kind.LineKind.TheVariants as kind
use Rattle.jup_lasting.specs.declared.first_answer.FirstAnswer.TheVariants as answer
use Rattle.jup_lasting.specs.declared.link.Heard.TheVariants as heard
use Rattle.jup_lasting.specs.declared.terms.Terms.{Terms}
use Rattle.jup_lasting.specs.declared.carriage.Carriage.TheVariants.{Asking, Carried}
use Rattle.jup_lasting.specs.LineKinds.{IsOfKind}
use Rattle.jup_lasting.specs.Links.{Link, HearsIn, IsAnswered}
use Rattle.jup_lasting.specs.Runs.{welcoming}
use Rattle.jup_lasting.proofs.CutRun.{terms}

-- the link opens
pub opened_heard : (c : Link) → c.terms ≡ None → IsPlace c.up 0
    → HearsIn Asking (IsNoteLine welcoming) c heard.Nothing (record c { up = after_begin 0 c.up; carriage = Carried; terms = Some terms })
opened_heard c none place = (
  answer.Opened terms,
  inl (lit≤ tt, refl),
  subst (λ t. IsAnswered t (answer.Opened terms) c heard.Nothing (record c { up = after_begin 0 c.up; carriage = Carried; terms = Some terms })) (sym none)
      (inl (place, (refl, refl))),
)

-- it goes on
pub resumed_heard : (c : Link) (t : Terms) (n : ℕ) → c.terms ≡ Some t → IsPlace c.up n
    → HearsIn Asking (IsNoteLine (SaysResumed n)) c heard.Nothing (record c { up = after_begin n c.up; confirming = after_beginning c.confirming; carriage = Carried })
resumed_heard c t n some place = (
  answer.Resumed n,
  refl,
  subst (λ x. IsAnswered x (answer.Resumed n) c heard.Nothing (record c { up = after_begin n c.up; confirming = after_beginning c.confirming; carriage = Carried })) (sym some)
      (inl (place, (refl, refl))),
)

-- the board is whole
pub ready_heard : (c : Link) → c.down.taken < 4294967295
    → HearsIn Carried (IsLine (codes "ready")) c (heard.Line (codes "ready")) (record c {
      down = record c.down { taken = c.down.taken + 1 };
      confirming = record c.confirming { taken = c.down.taken + 1 };
      is_ready = true;
    })
ready_heard c few = inl (few, refl, (kind.Ready, refl, refl))

first : List ℕ → ℕ
first [] = 0
first (a ∷ bytes) = a

is_other : IsOfKind (codes "welcome 1 1000") kind.Other
unfolding first
is_other = (
  λ same. (let e : first (codes "welcome 1 1000") ≡ 114 = ap first same in omega (arith, e)),
  λ same. (let e : first (codes "welcome 1 1000") ≡ 98 = ap first same in omega (arith, e)),
  λ number is same. (let e : first (codes "welcome 1 1000") ≡ 101 = ap first same in omega (arith, e)),
)

-- the board begins
pub welcome_heard : (c : Link) → c.down.taken < 4294967295
    → HearsIn Carried (IsLine (codes "welcome 1 1000")) c (heard.Line (codes "welcome 1 1000")) (record c {
      down = record c.down { taken = c.down.taken + 1 };
      confirming = record c.confirming { taken = c.down.taken + 1 };
    })
welcome_heard c few = inl (few, refl, (kind.Other, is_other, refl))

use Rattle.std.proofs.Common.{◌≡◌, ◌+◌, ℕ, List, inl, inr, subst, sym, ap, ◌∙◌, arith, take, ◌++◌}
use Rattle.std.specs.Char.{IsScalar}
use Rattle.jup_text.specs.Words.{quoted_char, hexadecimal}
use Rattle.jup_number.proofs.Numbers.{range_from}
use Rattle.jup_text.proofs.Quotes.{unnumbered, unbraced, numbered_none, numbered_same, numbered_read, IsNumbered}
use Rattle.jup_text.proofs.quoted.numbered_char.Goals as goal
use Rattle.jup_text.proofs.quoted.numbered_char.Goals.{in_default-via-then-value-lt32, in_default-via-else-value-lt32+else-this-lt127}

pub returns-in_err-end-clause-none : goal.returns-in_err-end-clause-none
returns-in_err-end-clause-none c = rw c.from_residual.ensures (unnumbered c.args.text.now (unbraced c.args.text.now c.in_err-end.ensures.place))

pub returns-in_err-read_hexadecimal-clause-none : goal.returns-in_err-read_hexadecimal-clause-none
returns-in_err-read_hexadecimal-clause-none c = rw c.from_residual-in_err-read_hexadecimal.ensures
    (unnumbered c.args.text.now (numbered_none c.args.text.now c.in_ok-end.end c.in_ok-end.ensures.place c.in_err-read_hexadecimal.ensures))

pub returns-in_err-value-clause-none : goal.returns-in_err-value-clause-none
returns-in_err-value-clause-none c = rw c.from_residual-in_err-value.ensures
    (unnumbered c.args.text.now (numbered_same c.args.text.now c.in_ok-end.end _ c.in_ok-end.ensures.place c.in_ok-read_hexadecimal.ensures (λ is number. c.in_err-value.ensures.value is)))

pub returns-in-32-to-126-clause-none : goal.returns-in-32-to-126-clause-none
returns-in-32-to-126-clause-none c =
    let plain : IsNumbered c.in_ok-value.value → ⊥ = elim [ inl low ↦ absurd (omega (arith, low)) | inr high ↦ absurd (omega (arith, high)) ] in
    unnumbered c.args.text.now (numbered_same c.args.text.now c.in_ok-end.end _ c.in_ok-end.ensures.place c.in_ok-read_hexadecimal.ensures
    (λ is number. plain (subst IsNumbered (sym c.in_ok-value.ensures.value.1) number)))

pub returns-in_default-clause-read : goal.returns-in_default-clause-read
returns-in_default-clause-read c =
    let number : IsNumbered c.in_ok-value.value =
    elim c.in_default.branch [ in_default-via-then-value-lt32 w ↦ inl (omega arith) | in_default-via-else-value-lt32+else-this-lt127 w ↦ inr (omega arith) ] in
    let value = c.in_ok-value.ensures.value in
    let digits : take c.in_ok-end.end c.args.text.now ≡ hexadecimal c.in_ok-value.value = c.in_ok-read_hexadecimal.ensures.1 ∙ ap hexadecimal (sym value.1) in (
      subst IsScalar (sym value.1) value.0,
      numbered_read c.args.text.now c.in_ok-end.end c.in_ok-value.value c.in_ok-end.ensures.place digits number
          ∙ ap (λ (t : List ℕ). quoted_char c.in_ok-value.value ++ t) (sym (range_from c.args.text.now (c.in_ok-end.end + 1))),
    )

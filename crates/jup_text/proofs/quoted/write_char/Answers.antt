use Rattle.std.proofs.Common.{◌≡◌, ◌≤◌, ◌++◌, ◌∷◌, [], inl, inr, sym, ap, ◌∙◌, arith, rules, encode_utf8}
use Rattle.std.proofs.Output.{has_written_of_eq}
use Rattle.std.proofs.lemmas.Str.{encode_ascii}
use Rattle.jup_text.specs.Words.{quoted_char, hexadecimal}
use Rattle.jup_text.proofs.Quotes.{quoted_mark, quoted_plain, quoted_number, outside}
use Rattle.jup_text.proofs.quoted.write_char.Goals as goal

pub returns-then-value-eq34 : goal.returns-then-value-eq34
returns-then-value-eq34 g c plain ok =
    let is = c.if-value-eq34.true in
    let text : 92 ∷ 34 ∷ [] ≡ quoted_char c.args.value = sym (quoted_mark c.args.value (inl is) ∙ ap (λ b. 92 ∷ b ∷ []) is) in
    has_written_of_eq _ _ _ _ _ text (search rules)

pub returns-then-value-eq92 : goal.returns-then-value-eq92
returns-then-value-eq92 g c plain ok =
    let is = c.if-value-eq92.true in
    let text : 92 ∷ 92 ∷ [] ≡ quoted_char c.args.value = sym (quoted_mark c.args.value (inr is) ∙ ap (λ b. 92 ∷ b ∷ []) is) in
    has_written_of_eq _ _ _ _ _ text (search rules)

pub returns-then-is_plain : goal.returns-then-is_plain
returns-then-is_plain g c plain ok =
    let range : (32 ≤ c.args.value) × (c.args.value ≤ 126) = search rules in
    let text : encode_utf8 c.args.value ≡ quoted_char c.args.value =
    encode_ascii c.args.value (omega (arith, range.1)) ∙ sym (quoted_plain c.args.value c.if-value-eq34.false c.if-value-eq92.false range.0 range.1) in
    has_written_of_eq _ _ _ _ _ text (search rules)

pub returns : goal.returns
returns g c plain ok =
    let none : (32 ≤ c.args.value) × (c.args.value ≤ 126) → ⊥ = search rules in
    let text : 92 ∷ 117 ∷ 123 ∷ hexadecimal c.args.value ++ 125 ∷ [] ≡ quoted_char c.args.value = sym (quoted_number c.args.value (outside c.args.value none)) in
    has_written_of_eq _ _ _ _ _ text (search rules)

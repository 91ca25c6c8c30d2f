-- Counting the edits among lines.
use Rattle.std.proofs.Common.{◌≡◌, ℕ, ◌+◌, ◌<◌, ◌≤◌, min, Bool, true, false, List, ◌∷◌, length, drop, inl, inr, arith, sym, ap, ◌∙◌, refl, add-zero, drop-drop, length-drop}
use mir.Val.{bool_byte}
use Rattle.jup_resume.specs.Texts.{Text}
use Rattle.jup_resume.specs.Keepers.{Keeping, unsent, IsAllWritten, after_write}
use Rattle.jup_lasting.specs.Edits.{begins_edit, one_if, edits_begun}

-- what is left after the first of what was left
pub behind_first : {A : Type 0} (xs : List A) (k : ℕ) (x : A) (rest : List A) → drop k xs ≡ x ∷ rest → drop (k + 1) xs ≡ rest
behind_first xs k x rest left = sym (drop-drop 1 k xs) ∙ ap (drop 1) left

pub below_first : {A : Type 0} (xs : List A) (k : ℕ) (x : A) (rest : List A) → drop k xs ≡ x ∷ rest → k < length xs
below_first xs k x rest left =
    let long = ap length left in
    omega (arith, long, length-drop k xs)

-- a count that stops at a bound
capped : (most a b n : ℕ) → min (min (a + b) most + n) most ≡ min (a + (b + n)) most
capped most a b n = omega arith

as_one : (b : Bool) → bool_byte b ≡ one_if b
as_one true = refl
as_one false = refl

-- one line more was counted
pub counted : (up : Keeping) (text : Text) (rest : List Text) (count one after all : ℕ) (begins : Bool) → unsent up ≡ text ∷ rest → begins ≡ begins_edit text → one ≡ bool_byte begins
    → after ≡ min (count + one) 4294967295 → min (count + edits_begun (unsent up)) 4294967295 ≡ all → min (after + edits_begun (unsent (after_write up))) 4294967295 ≡ all
counted up text rest count one after all begins left is byte counts so =
    let one_is : one ≡ one_if (begins_edit text) = byte ∙ as_one begins ∙ ap one_if is in
    let behind : edits_begun (unsent (after_write up)) ≡ edits_begun rest = ap edits_begun (behind_first up.kept up.sent text rest left) in
    ap (λ n. min (after + n) 4294967295) behind
    ∙ ap (λ n. min (n + edits_begun rest) 4294967295) counts
    ∙ capped 4294967295 count one (edits_begun rest)
    ∙ ap (λ n. min (count + (n + edits_begun rest)) 4294967295) one_is
    ∙ ap (λ texts. min (count + edits_begun texts) 4294967295) (sym left)
    ∙ so

small : (most n : ℕ) → n ≤ most → min n most ≡ n
small most n within = omega arith

-- no line is left
pub all_counted : (up : Keeping) (count all : ℕ) → count ≤ 4294967295 → up.is_open ≡ true → IsAllWritten up
    → min (count + edits_begun (unsent up)) 4294967295 ≡ all → count ≡ all
all_counted up count all below is_open done so = elim done [
  | inl shut ↦ absurd (let no : true ≡ false = sym is_open ∙ shut in cc)
  | inr none ↦
      sym (small 4294967295 count below) ∙ ap (λ n. min n 4294967295) (sym (add-zero count)) ∙ ap (λ texts. min (count + edits_begun texts) 4294967295) (sym none) ∙ so
]

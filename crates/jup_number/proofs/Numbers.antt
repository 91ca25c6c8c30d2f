-- Numbers in their one spelling.
use Rattle.std.proofs.Common.{◌≡◌, ℕ, zero, suc, ◌+◌, ◌*◌, ◌^◌, ◌<◌, ◌≤◌, List, [], ◌∷◌, length, get_or, take, Option, Some, None, sym, ap, subst, ◌∙◌, arith, inl, inr, decimal, ◌≢◌, drop, ◌-◌, ℤ, pos, negsuc, neg_ℤ}
use Rattle.std.specs.Option.{SomeIff}
use Rattle.std.specs.Fmt.{digits, signed_decimal}
use Rattle.std.specs.Char.{digit_value}
use Rattle.std.specs.Str.Parse.{AllDigits, digits_value}
use Rattle.std.proofs.lemmas.Bool.{cases_eq}
use Rattle.std.proofs.lemmas.Fmt.{decimal_is_IsNumeral, decimal-digits_value, decimal_nonempty, first_decimal}
use Rattle.std.proofs.lemmas.List.{take_all, length-drop}
use Rattle.std.proofs.lemmas.Int.Digits.{digits_more, digits_value_more}
use Rattle.std.proofs.lemmas.Str.Parse.{IsNumeralModel, numerals_by_value, tells_digits, digits_value-take-le}
use Rattle.jup_number.specs.Numbers.{IsU32, IsReadingOf, IsInt}

digits_model : IsNumeralModel (AllDigits 10) (digits_value 10)
digits_model = numerals_by_value (AllDigits 10) tells_digits

-- a decimal has digits alone, which write its number
pub decimal_digits : (n : ℕ) → n < 2 ^ 32 → AllDigits 10 (decimal n) × (digits_value 10 (decimal n) ≡ n)
decimal_digits n lt = let is = decimal_is_IsNumeral n (omega arith) in (is.0.1, is.1)

-- digits with no leading zero are the spelling of the number that they write
pub digits_read : (bytes : List ℕ) (r : Option ℕ) → 0 < length bytes → (get_or bytes 0 0 ≡ 48 → length bytes ≡ 1)
    → SomeIff r (AllDigits 10 bytes × (digits_value 10 bytes < 2 ^ 32)) (digits_value 10 bytes) → IsReadingOf decimal IsU32 bytes r
digits_read bytes (Some x) nonempty one h =
    let spelled = decimal-digits_value digits_model bytes h.0.0 nonempty one (omega (arith, h.0.1)) in
    (omega (arith, h.0.1, h.1), sym spelled ∙ ap decimal (sym h.1))
digits_read bytes None nonempty one h = λ n small same.
    let is = decimal_digits n small in
    h (subst (AllDigits 10) (sym same) is.0, omega (arith, ap (digits_value 10) same, is.1, small))

-- no number is spelled by no bytes, or with a leading zero
pub none_by_nothing : (bytes : List ℕ) → length bytes ≡ 0 → IsReadingOf decimal IsU32 bytes None
none_by_nothing bytes empty = λ n small same. let some = decimal_nonempty n (omega (arith, small)) in absurd (omega (arith, ap length same, some, empty))

pub none_by_zeros : (bytes : List ℕ) → get_or bytes 0 0 ≡ 48 → 1 < length bytes → IsReadingOf decimal IsU32 bytes None
unfolding digits
none_by_zeros bytes zero_first long = λ n small same.
    elim (cases_eq n 0) [
      | inl is ↦ let one : bytes ≡ decimal 0 = same ∙ ap decimal is in absurd (omega (arith, ap length one, long))
      | inr more ↦
          let first = first_decimal n (omega (arith, more)) (omega (arith, small)) in
          let heads = ap (λ (bs : List ℕ). get_or bs 0 0) same in
          absurd (omega (arith, first, heads, zero_first))
    ]

pub digit_below : (digits : List ℕ) (i : ℕ) → AllDigits 10 digits → i < length digits → digit_value (get_or digits i 0) < 10
digit_below [] i all lt = absurd (omega arith)
digit_below (d ∷ digits) zero all lt = all.0
digit_below (d ∷ digits) (suc i) all lt = digit_below digits i all.1 (omega arith)

-- the digits so far, and what they write
abbrev pub IsValueOf : List ℕ → ℕ → Type 0
IsValueOf digits value = AllDigits 10 digits × (value ≡ digits_value 10 digits) × (value < 2 ^ 32)

-- what with_digit gives: the number after one more digit, if that is a digit and the number fits
abbrev pub Continues : ℕ → ℕ → Type 0
Continues value digit = (digit_value digit < 10) × (value * 10 + digit_value digit < 2 ^ 32)

-- one more digit
pub value_more : (ds : List ℕ) (i value next : ℕ) → i < length ds → IsValueOf (take i ds) value
    → Continues value (get_or ds i 0) × (next ≡ value * 10 + digit_value (get_or ds i 0)) → IsValueOf (take (i + 1) ds) next
value_more ds i value next lt so_far step =
    (digits_more 10 ds i lt so_far.0 step.0.0, omega (arith, step.1, so_far.1, digits_value_more 10 ds i lt), omega (arith, step.0.1, step.1))

-- no digit more
pub value_ends : (ds : List ℕ) (i value : ℕ) → i < length ds → IsValueOf (take i ds) value
    → (Continues value (get_or ds i 0) → ⊥) → AllDigits 10 ds × (digits_value 10 ds < 2 ^ 32) → ⊥
value_ends ds i value lt so_far step whole =
    let digit : digit_value (get_or ds i 0) < 10 = digit_below ds i whole.0 lt in
    step (digit, omega (arith, so_far.1, whole.1, digits_value_more 10 ds i lt, digits_value-take-le 10 ds (i + 1)))

-- the whole
pub value_done : (ds : List ℕ) (i value : ℕ) → length ds ≤ i → IsValueOf (take i ds) value
    → (AllDigits 10 ds × (digits_value 10 ds < 2 ^ 32)) × (value ≡ digits_value 10 ds)
value_done ds i value le so_far =
    let all : IsValueOf ds value = rw (take_all i ds le) at so_far in
    ((all.0, omega (arith, all.1, all.2)), all.1)

-- Signed numbers in their one spelling.

-- ---- with no minus

-- if no number is read, no signed one is
pub none_from_zero : (bytes : List ℕ) → (0 < length bytes → get_or bytes 0 0 ≢ 45) → IsReadingOf decimal IsU32 bytes None → IsReadingOf signed_decimal IsInt bytes None
none_from_zero bytes plain none (pos n) is same = none n (omega (arith, is.sfits)) same
none_from_zero bytes plain none (negsuc n) is same = plain (omega (arith, ap length same)) (ap (λ (bs : List ℕ). get_or bs 0 0) same)

too_large : (bytes : List ℕ) (n : ℕ) → (0 < length bytes → get_or bytes 0 0 ≢ 45) → IsReadingOf decimal IsU32 bytes (Some n) → (n < 2 ^ 31 → ⊥) → IsReadingOf signed_decimal IsInt bytes None
too_large bytes n plain read large (pos m) is same =
    let value = ap (digits_value 10) (sym read.1 ∙ same) in
    large (omega (arith, value, (decimal_digits n read.0).1, (decimal_digits m (omega (arith, is.sfits))).1, is.sfits))
too_large bytes n plain read large (negsuc m) is same = plain (omega (arith, ap length same)) (ap (λ (bs : List ℕ). get_or bs 0 0) same)

pub read_from_zero : (bytes : List ℕ) (n : ℕ) (r : Option ℤ) → (0 < length bytes → get_or bytes 0 0 ≢ 45) → IsReadingOf decimal IsU32 bytes (Some n)
    → SomeIff r (n < 2 ^ 31) (pos n) → IsReadingOf signed_decimal IsInt bytes r
read_from_zero bytes n (Some z) plain read h = subst (λ (y : ℤ). IsInt y × (bytes ≡ signed_decimal y)) (sym h.1) (record { sfits = h.0 }, read.1)
read_from_zero bytes n None plain read h = too_large bytes n plain read h

-- ---- after a minus

-- a decimal begins with no minus
plain_head : (n : ℕ) → n < 2 ^ 32 → get_or (decimal n) 0 0 ≢ 45
plain_head n lt e =
    let digit = digit_below (decimal n) 0 (decimal_digits n lt).0 (decimal_nonempty n (omega (arith, lt))) in
    absurd (omega (arith, ap digit_value e, digit))

pub none_below_zero : (bytes : List ℕ) → 0 < length bytes → get_or bytes 0 0 ≡ 45 → IsReadingOf decimal IsU32 (drop 1 bytes) None → IsReadingOf signed_decimal IsInt bytes None
none_below_zero bytes some minus none (pos n) is same = plain_head n (omega (arith, is.sfits)) (sym (ap (λ (bs : List ℕ). get_or bs 0 0) same) ∙ minus)
none_below_zero bytes some minus none (negsuc n) is same = none (suc n) (omega (arith, is.sfits)) (ap (drop 1) same)

too_low : (b : ℕ) (bytes : List ℕ) (n : ℕ) → b ≡ 45 → IsReadingOf decimal IsU32 bytes (Some n) → ((0 < n) × (n ≤ 2 ^ 31) → ⊥) → IsReadingOf signed_decimal IsInt (b ∷ bytes) None
too_low b bytes n minus read low (pos m) is same = plain_head m (omega (arith, is.sfits)) (sym (ap (λ (bs : List ℕ). get_or bs 0 0) same) ∙ minus)
too_low b bytes n minus read low (negsuc m) is same =
    let value = ap (digits_value 10) (sym read.1 ∙ ap (drop 1) same) in
    let m_is = (decimal_digits (suc m) (omega (arith, is.sfits))).1 in
    let n_is = (decimal_digits n read.0).1 in
    low (omega (arith, value, m_is, n_is), omega (arith, value, m_is, n_is, is.sfits))

pub read_below_zero : (bytes : List ℕ) (n : ℕ) (r : Option ℤ) → 0 < length bytes → get_or bytes 0 0 ≡ 45 → IsReadingOf decimal IsU32 (drop 1 bytes) (Some n)
    → SomeIff r ((0 < n) × (n ≤ 2 ^ 31)) (neg_ℤ (pos n)) → IsReadingOf signed_decimal IsInt bytes r
read_below_zero [] n r some minus read h = absurd (omega arith)
read_below_zero (b ∷ bytes) zero (Some z) some minus read h = absurd (omega (arith, h.0.0))
read_below_zero (b ∷ bytes) (suc n) (Some z) some minus read h =
    let same : b ∷ bytes ≡ 45 ∷ decimal (suc n) = ap (λ (c : ℕ). c ∷ bytes) minus ∙ ap (λ (ds : List ℕ). 45 ∷ ds) read.1 in
    subst (λ (y : ℤ). IsInt y × (b ∷ bytes ≡ signed_decimal y)) (sym h.1) (record { sfits = omega (arith, h.0.1) }, same)
read_below_zero (b ∷ bytes) n None some minus read h = too_low b bytes n minus read h

-- ---- a range up to the end

pub range_from : (bytes : List ℕ) (i : ℕ) → take (length bytes - i) (drop i bytes) ≡ drop i bytes
range_from bytes i = take_all (length bytes - i) (drop i bytes) (omega (arith, length-drop i bytes))

-- The digits of a token.
use Rattle.std.proofs.Common.{◌≡◌, ℕ, ◌+◌, ◌/◌, ◌%◌, ◌<◌, ◌≤◌, ◌↔◌, All, List, [], ◌∷◌, ◌++◌, length, get_or, take, suc, sym, ap, ◌∙◌, arith, inl, inr, add-one, bit_or, bit_xor, take-take, get_or-take}
use Rattle.std.specs.List.{AllByRecursion}
use Rattle.std.specs.Int.Bits.{or_self, xor_self, xor_add_and}
use Rattle.std.proofs.lemmas.Nat.{le_or_l, le_or_r, and_le_l, and_le_r}
use Rattle.std.proofs.Math.Seq.{take-suc}
use Rattle.std.proofs.lemmas.List.Elements.{All-from_recursion}
use Rattle.hex.specs.Hex.{lower_digits, encode_with, encode_lower, IsBytes}
use Rattle.hex.proofs.HexLemmas.{length-encode_with}
use Rattle.jup_resume.specs.Tokens.{IsTokenDigit, IsTokenText}

-- The spelling of bytes.

number : (b : ℕ) → 48 ≤ b → b ≤ 57 → IsTokenDigit b
number b low high = inl (low, high)

letter : (b : ℕ) → 97 ≤ b → b ≤ 102 → IsTokenDigit b
letter b low high = inr (low, high)

all_digits : AllByRecursion IsTokenDigit lower_digits
all_digits = (
  number 48 (omega arith) (omega arith),
  (
    number 49 (omega arith) (omega arith),
    (
      number 50 (omega arith) (omega arith),
      (
        number 51 (omega arith) (omega arith),
        (
          number 52 (omega arith) (omega arith),
          (
            number 53 (omega arith) (omega arith),
            (
              number 54 (omega arith) (omega arith),
              (
                number 55 (omega arith) (omega arith),
                (
                  number 56 (omega arith) (omega arith),
                  (
                    number 57 (omega arith) (omega arith),
                    (
                      letter 97 (omega arith) (omega arith),
                      (
                        letter 98 (omega arith) (omega arith),
                        (letter 99 (omega arith) (omega arith), (letter 100 (omega arith) (omega arith), (letter 101 (omega arith) (omega arith), (letter 102 (omega arith) (omega arith), tt)))),
                      ),
                    ),
                  ),
                ),
              ),
            ),
          ),
        ),
      ),
    ),
  ),
)

digit : (d : ℕ) → d < 16 → IsTokenDigit (get_or lower_digits d 0)
digit d low = All-from_recursion IsTokenDigit lower_digits all_digits d 0 low

encoded : (bytes : List ℕ) → IsBytes bytes → AllByRecursion IsTokenDigit (encode_lower bytes)
unfolding encode_with
encoded [] is = tt
encoded (b ∷ bytes) is =
    let small : b < 256 = is 0 in
    (digit (b / 16) (omega arith), (digit (b % 16) (omega arith), encoded bytes (λ i. is (suc i))))

pub digits_of_bytes : (bytes : List ℕ) → IsBytes bytes → All IsTokenDigit (encode_lower bytes)
digits_of_bytes bytes is = All-from_recursion IsTokenDigit (encode_lower bytes) (encoded bytes is)

pub token_of_bytes : (bytes : List ℕ) → length bytes ≡ 16 → IsBytes bytes → IsTokenText (encode_lower bytes)
token_of_bytes bytes long is = record {
  long = let all = length-encode_with lower_digits bytes in omega (arith, all, long);
  digits = digits_of_bytes bytes is;
}

-- A difference that was found is not lost.

xor_zero : (a b : ℕ) → bit_xor a b ≡ 0 → a ≡ b
xor_zero a b none = let both = xor_add_and a b in let left = and_le_l a b in let right = and_le_r a b in omega (arith, both, left, right, none)

none_of_both : (d x : ℕ) → bit_or d x ≡ 0 → (d ≡ 0) × (x ≡ 0)
none_of_both d x none = let left = le_or_l d x in let right = le_or_r d x in (omega (arith, left, none), omega (arith, right, none))

pub one_more_differs : (a b : List ℕ) (i d : ℕ) → i < length a → i < length b → ((d ≡ 0) ↔ (take i a ≡ take i b))
    → (bit_or d (bit_xor (get_or a i 0) (get_or b i 0)) ≡ 0) ↔ (take (i + 1) a ≡ take (i + 1) b)
one_more_differs a b i d in_a in_b so_far = (
  λ none.
      let parts = none_of_both d (bit_xor (get_or a i 0) (get_or b i 0)) none in
      let here = xor_zero (get_or a i 0) (get_or b i 0) parts.1 in
      rw (add-one, take-suc a i 0 in_a, take-suc b i 0 in_b) (ap (λ l. l ++ get_or a i 0 ∷ []) (so_far.0 parts.0) ∙ ap (λ x. take i b ++ x ∷ []) here),
  λ same.
      let before : take i a ≡ take i b = sym (take-take i (i + 1) a (omega arith)) ∙ ap (take i) same ∙ take-take i (i + 1) b (omega arith) in
      let here : get_or a i 0 ≡ get_or b i 0 = sym (get_or-take (i + 1) a i 0 (omega arith)) ∙ ap (λ l. get_or l i 0) same ∙ get_or-take (i + 1) b i 0 (omega arith) in
      let none : d ≡ 0 = so_far.1 before in
      rw (none, here, xor_self) (or_self 0),
)

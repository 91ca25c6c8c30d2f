-- UTF-8, byte by byte.
use Rattle.std.proofs.Common.{◌≡◌, ℕ, ◌<◌, ◌≤◌, ◌+◌, ◌/◌, ◌%◌, true, List, [], ◌∷◌, ◌++◌, Option, Some, None, refl, sym, ap, ◌∙◌, arith, inl, inr, IsUtf8, encode_utf8_all}
use Rattle.std.proofs.lemmas.Bool.Decides.{nat_tests, leb_tells}
use lib.Utf8.{scalar, scalars, encode, scalar_cases}
use Rattle.websocket.proofs.TextLemmas.{and_true}
use Rattle.websocket.proofs.DecodeLemmas.{ltb_true, ltb_false}
use Rattle.jup_http.specs.Prelude.{CharPart}
use Rattle.jup_http.specs.declared.texts.CharPart.TheVariants.{Whole, LacksOne, LacksTwo, LacksThree, AfterE0, AfterED, AfterF0, AfterF4}
use Rattle.jup_http.specs.Frames.{within, after_first, after_byte, after_bytes}

nothing_after : (bs : List ℕ) → after_bytes None bs ≡ None
nothing_after [] = refl
nothing_after (b ∷ bs) = refl

after_append : (part : Option CharPart) (xs ys : List ℕ) → after_bytes part (xs ++ ys) ≡ after_bytes (after_bytes part xs) ys
after_append None [] ys = refl
after_append None (x ∷ xs) ys = sym (nothing_after ys)
after_append (Some part) [] ys = refl
after_append (Some part) (x ∷ xs) ys = after_append (after_byte part x) xs ys

one : (c : ℕ) → c < 128 → after_first c ≡ Some Whole
one c small = grind (arith, nat_tests)

tail : (part : CharPart) (x : ℕ) → within 0x80 0xBF part (128 + x % 64) ≡ Some part
tail part x = grind (arith, nat_tests)

two : (c : ℕ) → 128 ≤ c → c < 2048 → after_first (192 + c / 64) ≡ Some LacksOne
two c low high = grind (arith, nat_tests)

three_low : (c : ℕ) → 2048 ≤ c → c < 4096 → (after_first (224 + c / 4096) ≡ Some AfterE0) × (within 0xA0 0xBF LacksOne (128 + c / 64 % 64) ≡ Some LacksOne)
three_low c low high = (grind (arith, nat_tests), grind (arith, nat_tests))

three_last : (c : ℕ) → 53248 ≤ c → c < 55296 → (after_first (224 + c / 4096) ≡ Some AfterED) × (within 0x80 0x9F LacksOne (128 + c / 64 % 64) ≡ Some LacksOne)
three_last c low high = (grind (arith, nat_tests), grind (arith, nat_tests))

three_first : (c : ℕ) → 4096 ≤ c → c < 53248 → after_first (224 + c / 4096) ≡ Some LacksTwo
three_first c low high = grind (arith, nat_tests)

three_high : (c : ℕ) → 57344 ≤ c → c < 65536 → after_first (224 + c / 4096) ≡ Some LacksTwo
three_high c low high = grind (arith, nat_tests)

four_low : (c : ℕ) → 65536 ≤ c → c < 262144 → (after_first (240 + c / 262144) ≡ Some AfterF0) × (within 0x90 0xBF LacksTwo (128 + c / 4096 % 64) ≡ Some LacksTwo)
four_low c low high = (grind (arith, nat_tests), grind (arith, nat_tests))

four_high : (c : ℕ) → 1048576 ≤ c → c < 1114112 → (after_first (240 + c / 262144) ≡ Some AfterF4) × (within 0x80 0x8F LacksTwo (128 + c / 4096 % 64) ≡ Some LacksTwo)
four_high c low high = (grind (arith, nat_tests), grind (arith, nat_tests))

four : (c : ℕ) → 262144 ≤ c → c < 1048576 → after_first (240 + c / 262144) ≡ Some LacksThree
four c low high = grind (arith, nat_tests)

encoded_one : (c : ℕ) → c < 128 → after_bytes (Some Whole) (encode c) ≡ Some Whole
unfolding encode
encoded_one c small = rw (ltb_true c 128 small) (one c small)

-- the last byte of a character, its last two, and its last three
last : (before : Option CharPart) (x : ℕ) → before ≡ Some LacksOne → after_bytes before ((128 + x % 64) ∷ []) ≡ Some Whole
last before x is = ap (λ p. after_bytes p ((128 + x % 64) ∷ [])) is ∙ tail Whole x

last_two : (before : Option CharPart) (y x : ℕ) → before ≡ Some LacksTwo → after_bytes before ((128 + y % 64) ∷ (128 + x % 64) ∷ []) ≡ Some Whole
last_two before y x is = ap (λ p. after_bytes p ((128 + y % 64) ∷ (128 + x % 64) ∷ [])) is ∙ last (within 0x80 0xBF LacksOne (128 + y % 64)) x (tail LacksOne y)

last_three : (before : Option CharPart) (z y x : ℕ) → before ≡ Some LacksThree → after_bytes before ((128 + z % 64) ∷ (128 + y % 64) ∷ (128 + x % 64) ∷ []) ≡ Some Whole
last_three before z y x is =
    ap (λ p. after_bytes p ((128 + z % 64) ∷ (128 + y % 64) ∷ (128 + x % 64) ∷ [])) is
    ∙ last_two (within 0x80 0xBF LacksTwo (128 + z % 64)) y x (tail LacksTwo z)

encoded_two : (c : ℕ) → 128 ≤ c → c < 2048 → after_bytes (Some Whole) (encode c) ≡ Some Whole
unfolding encode
encoded_two c low high = rw (ltb_false c 128 low, ltb_true c 2048 high) (last (after_first (192 + c / 64)) c (two c low high))

-- the bytes of a character of three bytes, and of one of four
abbrev three_of : ℕ → List ℕ
three_of c = (128 + c / 64 % 64) ∷ (128 + c % 64) ∷ []

abbrev four_of : ℕ → List ℕ
four_of c = (128 + c / 4096 % 64) ∷ (128 + c / 64 % 64) ∷ (128 + c % 64) ∷ []

three_bytes : (c : ℕ) → 2048 ≤ c → c < 65536 → scalar c ≡ true → after_bytes (after_first (224 + c / 4096)) (three_of c) ≡ Some Whole
three_bytes c low high is =
    elim (leb_tells 4096 c) [
      | inr p ↦ let t = three_low c low p.1 in ap (λ q. after_bytes q (three_of c)) t.0 ∙ last (within 0xA0 0xBF LacksOne (128 + c / 64 % 64)) c t.1
      | inl p ↦ elim (scalar_cases c is) [
        | inl below ↦ elim (leb_tells 53248 c) [
          | inl q ↦ let t = three_last c q.1 below in ap (λ r. after_bytes r (three_of c)) t.0 ∙ last (within 0x80 0x9F LacksOne (128 + c / 64 % 64)) c t.1
          | inr q ↦ last_two (after_first (224 + c / 4096)) (c / 64) c (three_first c p.1 q.1)
        ]
        | inr above ↦ last_two (after_first (224 + c / 4096)) (c / 64) c (three_high c above.0 high)
      ]
    ]

four_bytes : (c : ℕ) → 65536 ≤ c → c < 1114112 → after_bytes (after_first (240 + c / 262144)) (four_of c) ≡ Some Whole
four_bytes c low high =
    elim (leb_tells 262144 c) [
      | inr p ↦ let t = four_low c low p.1 in ap (λ q. after_bytes q (four_of c)) t.0 ∙ last_two (within 0x90 0xBF LacksTwo (128 + c / 4096 % 64)) (c / 64) c t.1
      | inl p ↦ elim (leb_tells 1048576 c) [
        | inl q ↦ let t = four_high c q.1 high in ap (λ r. after_bytes r (four_of c)) t.0 ∙ last_two (within 0x80 0x8F LacksTwo (128 + c / 4096 % 64)) (c / 64) c t.1
        | inr q ↦ last_three (after_first (240 + c / 262144)) (c / 4096) (c / 64) c (four c p.1 q.1)
      ]
    ]

encoded_three : (c : ℕ) → 2048 ≤ c → c < 65536 → scalar c ≡ true → after_bytes (Some Whole) (encode c) ≡ Some Whole
unfolding encode
encoded_three c low high is = rw (ltb_false c 128 (omega arith), ltb_false c 2048 low, ltb_true c 65536 high) (three_bytes c low high is)

encoded_four : (c : ℕ) → 65536 ≤ c → c < 1114112 → after_bytes (Some Whole) (encode c) ≡ Some Whole
unfolding encode
encoded_four c low high = rw (ltb_false c 128 (omega arith), ltb_false c 2048 (omega arith), ltb_false c 65536 low) (four_bytes c low high)

encoded : (c : ℕ) → scalar c ≡ true → after_bytes (Some Whole) (encode c) ≡ Some Whole
encoded c is =
    let most : c < 1114112 = elim (scalar_cases c is) [ inl below ↦ omega arith | inr above ↦ above.1 ] in
    elim (leb_tells 128 c) [
      | inr p ↦ encoded_one c p.1
      | inl p ↦ elim (leb_tells 2048 c) [
        | inr q ↦ encoded_two c p.1 q.1
        | inl q ↦ elim (leb_tells 65536 c) [
          | inr r ↦ encoded_three c q.1 r.1 is
          | inl r ↦ encoded_four c r.1 most
        ]
      ]
    ]

all_encoded : (cs : List ℕ) → scalars cs ≡ true → after_bytes (Some Whole) (encode_utf8_all cs) ≡ Some Whole
all_encoded [] is = refl
all_encoded (c ∷ cs) is =
    let both = and_true (scalar c) (scalars cs) is in
    after_append (Some Whole) (encode c) (encode_utf8_all cs) ∙ rw (encoded c both.0) (all_encoded cs both.1)

-- what is UTF-8 is taken whole
pub text_is_taken : (bs : List ℕ) → IsUtf8 bs → after_bytes (Some Whole) bs ≡ Some Whole
text_is_taken bs (cs, (are, spell)) = rw (← spell) (all_encoded cs are)

-- Texts in quotes have one spelling.
use Rattle.std.proofs.Common.{◌≡◌, ◌≢◌, ℕ, suc, ◌+◌, ◌<◌, List, [], ◌∷◌, ◌++◌, length, take, drop, add-one, Bool, ◌==◌, Some, None, ltb, refl, sym, ap, subst, ◌∙◌, arith, inl, inr, position, zero, ◌*◌, ◌/◌, ◌%◌, ◌^◌, ◌≤◌, false, map, get_or, append-nil, ◌⊎◌, lit<, lit≤, ◌-◌, cond, eqb, append_assoc}
use Rattle.std.proofs.lemmas.Bool.{cases_Bool, cases_lt, ne_eqb, eqb-true, eq-eqb, cond-true, lt-ltb, ltb-true, true≢false, cases_eq, cond-false, le-ltb, le-leb, lt-leb}
use Rattle.std.proofs.lemmas.Option.{none-some, cond_some}
use Rattle.std.proofs.lemmas.List.Sums.{split_at_first, passes_at_first}
use Rattle.std.proofs.Math.Seq.{take-append_seam}
use Rattle.std.proofs.lemmas.List.{length-append, take_all, take_more, length-map, get_or-map, map-append, flat_map_more}
use Rattle.std.proofs.Math.Numerals.{one-add}
use Rattle.std.specs.Fmt.{digits, digits_onto, digit_glyph}
use Rattle.std.specs.Str.Parse.{digits_value}
use Rattle.std.specs.Int.Digits.{digits_of, AllBelowBase}
use Rattle.std.proofs.lemmas.Fmt.{hex_one_digit, digits_is_IsNumeral}
use Rattle.std.proofs.lemmas.Int.Digits.{digits_of_step, length-digits_of_step, length-digits_of-le, first_digits_of, all_below_base_digits_of}
use Rattle.std.proofs.Math.Nat.{pow-le-pow_right}
use Rattle.std.proofs.lemmas.Grind.{pow_more}
use Rattle.std.proofs.lemmas.List.Elements.{recursion_from_All}
use lib.Utf8.{scalar_cases, low_scalar}
use Rattle.jup_text.specs.Prelude.{IsLabelText, AllByRecursion, position_or_len, before_first, after_first, flat_map, IsScalar}
use Rattle.jup_wire.proofs.Plain.{IsPlain}
use Rattle.jup_text.specs.Words.{hexadecimal, quoted_char, quoted, AreScalars}

-- The first place of a byte, and the parts before and after it.

abbrev pub is_byte : ℕ → ℕ → Bool
is_byte b byte = byte == b

-- the byte is not among these
abbrev pub Lacks : ℕ → List ℕ → Type 0
Lacks b bytes = AllByRecursion (λ byte. byte ≢ b) bytes

byte_first : (b : ℕ) (ds rest : List ℕ) → Lacks b ds → position_or_len (is_byte b) (ds ++ b ∷ rest) ≡ length ds
byte_first b [] rest lacks = rw (eq-eqb b b refl) refl
byte_first b (d ∷ ds) rest lacks = let behind = byte_first b ds rest lacks.1 in rw (ne_eqb d b lacks.0) (omega (arith, behind))

byte_within : (b : ℕ) (ds rest : List ℕ) → length ds < length (ds ++ b ∷ rest)
byte_within b ds rest = omega (arith, length-append ds (b ∷ rest))

pub no_byte : (b : ℕ) (text : List ℕ) → None ≡ position (is_byte b) text → (ds rest : List ℕ) → Lacks b ds → text ≢ ds ++ b ∷ rest
no_byte b text none ds rest lacks same =
    let first = byte_first b ds rest lacks in
    let within : position_or_len (is_byte b) (ds ++ b ∷ rest) < length (ds ++ b ∷ rest) = omega (arith, first, byte_within b ds rest) in
    let found : position (is_byte b) (ds ++ b ∷ rest) ≡ Some (position_or_len (is_byte b) (ds ++ b ∷ rest)) = cond-true _ _ _ (lt-ltb _ _ within) in
    none-some _ (none ∙ ap (position (is_byte b)) same ∙ found)

found_at : (b : ℕ) (text : List ℕ) (end : ℕ) → Some end ≡ position (is_byte b) text → (position_or_len (is_byte b) text < length text) × (position_or_len (is_byte b) text ≡ end)
found_at b text end e = let c = cond_some (ltb (position_or_len (is_byte b) text) (length text)) (position_or_len (is_byte b) text) end (sym e) in (ltb-true _ _ c.0, c.1)

pub byte_here : (b : ℕ) (text : List ℕ) (end : ℕ) → Some end ≡ position (is_byte b) text → text ≡ take end text ++ b ∷ drop (end + 1) text
byte_here b text end e =
    let f = found_at b text end e in
    let parts = split_at_first (is_byte b) text 0 f.0 in
    let byte = eqb-true _ b (passes_at_first (is_byte b) text 0 f.0) in
    parts ∙ ap (λ (x : ℕ). take (position_or_len (is_byte b) text) text ++ x ∷ drop (position_or_len (is_byte b) text + 1) text) byte ∙ ap (λ (i : ℕ). take i text ++ b ∷ drop (i + 1) text) f.1

-- it is not among the bytes before its first place
before_lacks : (b : ℕ) (text : List ℕ) → Lacks b (take (position_or_len (is_byte b) text) text)
before_lacks b [] = tt
before_lacks b (x ∷ text) = elim (cases_Bool (x == b)) [
  | inl here ↦ rw here tt
  | inr later ↦ rw (later, one-add) (λ e. true≢false (sym (eq-eqb x b e) ∙ later), before_lacks b text)
]

pub lacks_before : (b : ℕ) (text : List ℕ) (end : ℕ) → Some end ≡ position (is_byte b) text → Lacks b (take end text)
lacks_before b text end e = subst (λ (i : ℕ). Lacks b (take i text)) (found_at b text end e).1 (before_lacks b text)

-- it is nowhere if it has no place
pub lacks_all : (b : ℕ) (text : List ℕ) → None ≡ position (is_byte b) text → Lacks b text
lacks_all b text none =
    elim (cases_lt (position_or_len (is_byte b) text) (length text)) [
      | inl within ↦ absurd (none-some _ (none ∙ cond-true _ _ _ (lt-ltb _ _ within)))
      | inr past ↦ subst (Lacks b) (take_all (position_or_len (is_byte b) text) text past) (before_lacks b text)
    ]

drop_past : (b : ℕ) (xs ys : List ℕ) → drop (length xs + 1) (xs ++ b ∷ ys) ≡ ys
drop_past b xs ys = rw add-one (go xs)
  where
    go : (zs : List ℕ) → drop (suc (length zs)) (zs ++ b ∷ ys) ≡ ys
    go [] = refl
    go (z ∷ zs) = go zs

-- what comes before the first place of a byte, and what comes after it
pub byte_cut : (b : ℕ) (ds rest : List ℕ) → Lacks b ds → ◌≡◌ {A = List ℕ × List ℕ} (before_first (is_byte b) (ds ++ b ∷ rest), after_first (is_byte b) (ds ++ b ∷ rest)) (ds, rest)
byte_cut b ds rest lacks =
    let cut : ℕ → List ℕ × List ℕ = λ i. (take i (ds ++ b ∷ rest), drop (i + 1) (ds ++ b ∷ rest)) in
    let with_front : List ℕ → List ℕ × List ℕ = λ t. (t, drop (length ds + 1) (ds ++ b ∷ rest)) in
    let with_rest : List ℕ → List ℕ × List ℕ = λ t. (ds, t) in
    ap cut (byte_first b ds rest lacks) ∙ ap with_front (take-append_seam ds (b ∷ rest)) ∙ ap with_rest (drop_past b ds rest)

pub byte_parts : (b : ℕ) (text ds rest : List ℕ) (end : ℕ) → Some end ≡ position (is_byte b) text → Lacks b ds → text ≡ ds ++ b ∷ rest → (take end text ≡ ds) × (drop (end + 1) text ≡ rest)
byte_parts b text ds rest end e lacks same =
    let at = (found_at b text end e).1 in
    let at_place : ℕ → List ℕ × List ℕ = λ i. (take i text, drop (i + 1) text) in
    let at_first : List ℕ → List ℕ × List ℕ = λ t. (before_first (is_byte b) t, after_first (is_byte b) t) in
    let cut : at_place end ≡ (ds, rest) = ap at_place (sym at) ∙ ap at_first same ∙ byte_cut b ds rest lacks in
    (ap (λ (p : List ℕ × List ℕ). p.0) cut, ap (λ (p : List ℕ × List ℕ). p.1) cut)

-- a byte that neither front has parts a text in one way
pub same_parts : (b : ℕ) (ds es r s : List ℕ) → Lacks b ds → Lacks b es → ds ++ b ∷ r ≡ es ++ b ∷ s → (ds ≡ es) × (r ≡ s)
same_parts b ds es r s d_lacks e_lacks same =
    let at_first : List ℕ → List ℕ × List ℕ = λ t. (before_first (is_byte b) t, after_first (is_byte b) t) in
    let cut : ◌≡◌ {A = List ℕ × List ℕ} (ds, r) (es, s) = sym (byte_cut b ds r d_lacks) ∙ ap at_first same ∙ byte_cut b es s e_lacks in
    (ap (λ (p : List ℕ × List ℕ). p.0) cut, ap (λ (p : List ℕ × List ℕ). p.1) cut)

-- Numbers in lower case hexadecimal.

abbrev pub glyph : ℕ → ℕ
glyph = digit_glyph false

glyphs-append : (xs : List ℕ) (d : ℕ) (acc : List ℕ) → map glyph (xs ++ d ∷ []) ++ acc ≡ map glyph xs ++ glyph d ∷ acc
glyphs-append [] d acc = refl
glyphs-append (x ∷ xs) d acc = ap (λ (t : List ℕ). glyph x ∷ t) (glyphs-append xs d acc)

-- what is printed are the glyphs of the digits
onto_is : (k n : ℕ) (acc : List ℕ) → 0 < n → length (digits_of 16 n) ≤ k → digits_onto k 16 false n acc ≡ map glyph (digits_of 16 n) ++ acc
onto_is zero n acc some short = absurd (omega (arith, length-digits_of_step 16 n (lit≤ tt) some, short))
onto_is (suc k) n acc some short = elim (cases_eq (n / 16) 0) [
  | inl last ↦
      rw (eq-eqb (n / 16) 0 last, digits_of_step 16 n (lit≤ tt) some, last) refl
  | inr more ↦
      let e = ne_eqb (n / 16) 0 more in
      let rest : length (digits_of 16 (n / 16)) ≤ k = omega (arith, length-digits_of_step 16 n (lit≤ tt) some, short) in
      rw (e, digits_of_step 16 n (lit≤ tt) some) (onto_is k (n / 16) (glyph (n % 16) ∷ acc) (omega (arith, more)) rest ∙ sym (glyphs-append (digits_of 16 (n / 16)) (n % 16) acc))
]

pub hex_is : (n : ℕ) → 0 < n → n < 2 ^ 24 → hexadecimal n ≡ map glyph (digits_of 16 n)
unfolding digits
hex_is n some small = onto_is 64 n [] some (omega (arith, length-digits_of-le 16 6 n (lit≤ tt) small)) ∙ append-nil (map glyph (digits_of 16 n))

pub hex_zero : hexadecimal 0 ≡ 48 ∷ []
hex_zero = hex_one_digit false 0 (lit< tt)

-- one digit to six
pub hex_length : (n : ℕ) → n < 2 ^ 24 → (0 < length (hexadecimal n)) × (length (hexadecimal n) ≤ 6)
hex_length n small = elim (cases_eq n 0) [
  | inl none ↦ let one = ap (λ (m : ℕ). length (hexadecimal m)) none ∙ ap length hex_zero in (omega (arith, one), omega (arith, one))
  | inr some ↦
      let positive : 0 < n = omega (arith, some) in
      let same = ap length (hex_is n positive small) ∙ length-map (digits_of 16 n) glyph in
      (omega (arith, same, length-digits_of_step 16 n (lit≤ tt) positive), omega (arith, same, length-digits_of-le 16 6 n (lit≤ tt) small))
]

below_sixteen : (ds : List ℕ) (i : ℕ) → AllBelowBase 16 ds → i < length ds → get_or ds i 0 < 16
below_sixteen [] i all lt = absurd (omega arith)
below_sixteen (d ∷ ds) zero all lt = all.0
below_sixteen (d ∷ ds) (suc i) all lt = below_sixteen ds i all.1 (omega arith)

-- a byte that is a digit
abbrev pub IsGlyph : ℕ → Type 0
IsGlyph byte = (d : ℕ) × (d < 16) × (byte ≡ glyph d)

pub hex_at : (n i : ℕ) → 0 < n → n < 2 ^ 24 → i < length (hexadecimal n) → IsGlyph (get_or (hexadecimal n) i 0)
hex_at n i some small lt =
    let is = hex_is n some small in
    let within : i < length (digits_of 16 n) = omega (arith, lt, ap length is, length-map (digits_of 16 n) glyph) in
    (get_or (digits_of 16 n) i 0, below_sixteen (digits_of 16 n) i (all_below_base_digits_of 16 n (lit≤ tt)) within, ap (λ (bs : List ℕ). get_or bs i 0) is ∙ get_or-map glyph (digits_of 16 n) i 0 0 within)

-- the glyphs of the digits are none but 48 for 0
glyph_zero : (d : ℕ) → d < 16 → glyph d ≡ 48 → d ≡ 0
glyph_zero d small e = elim (cases_lt d 10) [
  | inl low ↦ omega (arith, sym (cond-true (ltb d 10) (48 + d) (87 + d) (lt-ltb d 10 low)) ∙ e)
  | inr high ↦ absurd (omega (arith, sym (cond-false (ltb d 10) (48 + d) (87 + d) (le-ltb d 10 high)) ∙ e))
]

pub hex_first : (n : ℕ) → 0 < n → n < 2 ^ 24 → get_or (hexadecimal n) 0 0 ≢ 48
hex_first n some small zero_first =
    let is = hex_is n some small in
    let within : 0 < length (digits_of 16 n) = omega (arith, length-digits_of_step 16 n (lit≤ tt) some) in
    let first = get_or (digits_of 16 n) 0 0 in
    let same : glyph first ≡ 48 = sym (ap (λ (bs : List ℕ). get_or bs 0 0) is ∙ get_or-map glyph (digits_of 16 n) 0 0 0 within) ∙ zero_first in
    let none = glyph_zero first (below_sixteen (digits_of 16 n) 0 (all_below_base_digits_of 16 n (lit≤ tt)) within) same in
    absurd (omega (arith, none, first_digits_of 16 n (lit≤ tt) some))

-- ---- reading from the left

-- what was read, and the number so far
pub record IsHexOf (digits : List ℕ) (i value : ℕ) : Type 0 where
  pub spelled : take i digits ≡ map glyph (digits_of 16 value)
  pub small : value < 16 ^ i
  pub some : 0 < i → 0 < value

pub none_yet : (digits : List ℕ) → IsHexOf digits 0 0
none_yet digits = record { spelled = refl; small = lit< tt; some = λ lt. absurd (omega arith) }

pub sum_small : (digits : List ℕ) (i value d : ℕ) → length digits ≤ 6 → i < length digits → IsHexOf digits i value → d < 16 → value * 16 + d < 2 ^ 24
sum_small digits i value d short lt so_far digit =
    let most : 16 ^ i ≤ 16 ^ 5 = pow-le-pow_right {n = 16} (lit< tt) {i = i} {j = 5} (omega (arith, lt, short)) in
    omega (arith, most, so_far.small, digit)

pub one_more : (digits : List ℕ) (i value d : ℕ) → i < length digits → get_or digits 0 0 ≢ 48 → IsHexOf digits i value → d < 16 → get_or digits i 0 ≡ glyph d → IsHexOf digits (i + 1) (value * 16 + d)
one_more digits i value d lt not_zero so_far digit here =
    let first : i ≡ 0 → 0 < d = λ e. elim (cases_eq d 0) [
      | inl none ↦ absurd (not_zero (ap (λ (j : ℕ). get_or digits j 0) (sym e) ∙ here ∙ ap glyph none))
      | inr some ↦ omega (arith, some)
    ] in
    let positive : 0 < value * 16 + d = elim (cases_eq i 0) [ inl e ↦ omega (arith, first e) | inr more ↦ omega (arith, so_far.some (omega (arith, more))) ] in
    let front : (value * 16 + d) / 16 ≡ value = omega (arith, digit) in
    let last : (value * 16 + d) % 16 ≡ d = omega (arith, digit) in
    let step : digits_of 16 (value * 16 + d) ≡ digits_of 16 value ++ d ∷ [] =
    digits_of_step 16 (value * 16 + d) (lit≤ tt) positive ∙ ap (λ (m : ℕ). digits_of 16 m ++ (value * 16 + d) % 16 ∷ []) front ∙ ap (λ (m : ℕ). digits_of 16 value ++ m ∷ []) last in
    record {
      spelled = take_more digits i 0 lt ∙ ap (λ (bs : List ℕ). bs ++ get_or digits i 0 ∷ []) so_far.spelled ∙ ap (λ (b : ℕ). map glyph (digits_of 16 value) ++ b ∷ []) here
          ∙ sym (ap (map glyph) step ∙ map-append glyph (digits_of 16 value) (d ∷ []));
      small = omega (arith, pow_more 16 i, so_far.small, digit);
      some = λ lt. positive;
    }

pub no_more : (digits : List ℕ) (i value n : ℕ) → i < length digits → get_or digits 0 0 ≢ 48 → ((d : ℕ) → d < 16 → get_or digits i 0 ≢ glyph d) → n < 2 ^ 24 → digits ≢ hexadecimal n
no_more digits i value n lt not_zero no_digit small same = elim (cases_eq n 0) [
  | inl none ↦ not_zero (ap (λ (bs : List ℕ). get_or bs 0 0) (same ∙ ap hexadecimal none ∙ hex_zero))
  | inr some ↦
      let at = hex_at n i (omega (arith, some)) small (omega (arith, lt, ap length same)) in
      no_digit at.0 at.1 (ap (λ (bs : List ℕ). get_or bs i 0) same ∙ at.2)
]

pub all_read : (digits : List ℕ) (i value : ℕ) → length digits ≤ i → i ≤ 6 → 0 < i → IsHexOf digits i value → (value < 2 ^ 24) × (digits ≡ hexadecimal value)
all_read digits i value le short some so_far =
    let most : 16 ^ i ≤ 16 ^ 6 = pow-le-pow_right {n = 16} (lit< tt) {i = i} {j = 6} short in
    let small : value < 2 ^ 24 = omega (arith, most, so_far.small) in
    (small, sym (take_all i digits le) ∙ so_far.spelled ∙ sym (hex_is value (so_far.some some) small))

-- a zero in front
pub zero_read : (digits : List ℕ) → length digits ≡ 1 → get_or digits 0 0 ≡ 48 → digits ≡ hexadecimal 0
zero_read [] one first = absurd (omega (arith, one))
zero_read (d ∷ []) one first = ap (λ (b : ℕ). b ∷ []) first ∙ sym hex_zero
zero_read (d ∷ e ∷ ds) one first = absurd (omega (arith, one))

pub zeros_not_read : (digits : List ℕ) (n : ℕ) → length digits ≢ 1 → get_or digits 0 0 ≡ 48 → n < 2 ^ 24 → digits ≢ hexadecimal n
zeros_not_read digits n many first small same = elim (cases_eq n 0) [
  | inl none ↦ many (ap length (same ∙ ap hexadecimal none ∙ hex_zero))
  | inr some ↦ hex_first n (omega (arith, some)) small (sym (ap (λ (bs : List ℕ). get_or bs 0 0) same) ∙ first)
]

pub length_not_read : (digits : List ℕ) (n : ℕ) → (length digits ≡ 0) ⊎ (6 < length digits) → n < 2 ^ 24 → digits ≢ hexadecimal n
length_not_read digits n (inl none) small same = absurd (omega (arith, none, ap length same, hex_length n small))
length_not_read digits n (inr long) small same = absurd (omega (arith, long, ap length same, hex_length n small))

-- ---- no digit is a closing brace

abbrev pub Braceless : List ℕ → Type 0
Braceless bytes = Lacks 125 bytes

glyph_no_brace : (d : ℕ) → d < 16 → glyph d ≢ 125
glyph_no_brace d small e = elim (cases_lt d 10) [
  | inl low ↦ absurd (omega (arith, sym (cond-true (ltb d 10) (48 + d) (87 + d) (lt-ltb d 10 low)) ∙ e, low))
  | inr high ↦ absurd (omega (arith, sym (cond-false (ltb d 10) (48 + d) (87 + d) (le-ltb d 10 high)) ∙ e, small))
]

glyphs_braceless : (ds : List ℕ) → AllBelowBase 16 ds → Braceless (map glyph ds)
glyphs_braceless [] all = tt
glyphs_braceless (d ∷ ds) all = (glyph_no_brace d all.0, glyphs_braceless ds all.1)

pub hex_braceless : (n : ℕ) → n < 2 ^ 24 → Braceless (hexadecimal n)
hex_braceless n small = elim (cases_eq n 0) [
  | inl none ↦ subst Braceless (sym (ap hexadecimal none ∙ hex_zero)) (λ e. absurd (omega (arith, e)), tt)
  | inr some ↦ subst Braceless (sym (hex_is n (omega (arith, some)) small)) (glyphs_braceless (digits_of 16 n) (all_below_base_digits_of 16 n (lit≤ tt)))
]

pub hex_value : (n : ℕ) → n < 2 ^ 24 → digits_value 16 (hexadecimal n) ≡ n
hex_value n small = (digits_is_IsNumeral 16 false (lit≤ tt) (lit≤ tt) n (omega (arith, small))).1

-- each number has digits of its own
pub hex_injective : (m n : ℕ) → m < 2 ^ 24 → n < 2 ^ 24 → hexadecimal m ≡ hexadecimal n → m ≡ n
hex_injective m n m_small n_small same =
    sym (hex_value m m_small) ∙ ap (digits_value 16) same ∙ hex_value n n_small

-- One spelling for each text in quotes: a character is known by the front of what it spells.

-- ---- the three ways to spell a character

pub quoted_mark : (c : ℕ) → (c ≡ 34) ⊎ (c ≡ 92) → quoted_char c ≡ 92 ∷ c ∷ []
unfolding quoted_char
quoted_mark c (inl quote) = rw (eq-eqb c 34 quote) refl
quoted_mark c (inr backslash) = rw (ne_eqb c 34 (λ e. absurd (omega (arith, e, backslash))), eq-eqb c 92 backslash) refl

pub quoted_plain : (c : ℕ) → c ≢ 34 → c ≢ 92 → 32 ≤ c → c ≤ 126 → quoted_char c ≡ c ∷ []
unfolding quoted_char
quoted_plain c no_quote no_backslash low high = rw (ne_eqb c 34 no_quote, ne_eqb c 92 no_backslash, le-leb 32 c low, le-leb c 126 high) refl

abbrev pub numbered : ℕ → List ℕ
numbered c = 92 ∷ 117 ∷ 123 ∷ hexadecimal c ++ 125 ∷ []

pub quoted_number : (c : ℕ) → (c < 32) ⊎ (126 < c) → quoted_char c ≡ numbered c
unfolding quoted_char
quoted_number c (inl low) = rw (ne_eqb c 34 (λ e. absurd (omega (arith, e, low))), ne_eqb c 92 (λ e. absurd (omega (arith, e, low))), lt-leb 32 c low) refl
quoted_number c (inr high) = rw (ne_eqb c 34 (λ e. absurd (omega (arith, e, high))), ne_eqb c 92 (λ e. absurd (omega (arith, e, high))), le-leb 32 c (omega (arith, high)), lt-leb c 126 high) refl

pub outside : (c : ℕ) → ((32 ≤ c) × (c ≤ 126) → ⊥) → (c < 32) ⊎ (126 < c)
outside c none = elim (cases_lt c 32) [ inl low ↦ inl low | inr above ↦ elim (cases_lt 126 c) [ inl high ↦ inr high | inr below ↦ absurd (none (above, below)) ] ]

-- every character is spelled in one of them
pub by_kind : (c : ℕ) (P : ℕ → List ℕ → Type 0) → ((c ≡ 34) ⊎ (c ≡ 92) → P c (92 ∷ c ∷ [])) → (c ≢ 34 → c ≢ 92 → 32 ≤ c → c ≤ 126 → P c (c ∷ [])) → ((c < 32) ⊎ (126 < c) → P c (numbered c)) → P c (quoted_char c)
by_kind c P mark plain number =
    elim (cases_eq c 34) [
      | inl quote ↦ subst (P c) (sym (quoted_mark c (inl quote))) (mark (inl quote))
      | inr no_quote ↦ elim (cases_eq c 92) [
        | inl backslash ↦ subst (P c) (sym (quoted_mark c (inr backslash))) (mark (inr backslash))
        | inr no_backslash ↦ elim (cases_lt c 32) [
          | inl low ↦ subst (P c) (sym (quoted_number c (inl low))) (number (inl low))
          | inr above ↦ elim (cases_lt 126 c) [
            | inl high ↦ subst (P c) (sym (quoted_number c (inr high))) (number (inr high))
            | inr below ↦ subst (P c) (sym (quoted_plain c no_quote no_backslash above below)) (plain no_quote no_backslash above below)
          ]
        ]
      ]
    ]

pub scalar_small : (c : ℕ) → IsScalar c → c < 2 ^ 24
scalar_small c is = elim (scalar_cases c is) [ inl low ↦ omega (arith, low) | inr high ↦ omega (arith, high.1) ]

-- ---- characters that are spelled by their number

abbrev pub IsNumbered : ℕ → Type 0
IsNumbered c = (c < 32) ⊎ (126 < c)

-- no text goes on so with the digits of a character that has to be numbered
abbrev pub NoNumber : List ℕ → Type 0
NoNumber text = (c : ℕ) (rest : List ℕ) → IsScalar c → IsNumbered c → text ≢ hexadecimal c ++ 125 ∷ rest

pub unnumbered : (text : List ℕ) → NoNumber text → (c : ℕ) (rest : List ℕ) → IsScalar c → 92 ∷ 117 ∷ 123 ∷ text ≢ quoted_char c ++ rest
unnumbered text none c rest is =
    by_kind c (λ (d : ℕ) (t : List ℕ). 92 ∷ 117 ∷ 123 ∷ text ≢ t ++ rest)
    (λ mark same. let second : 117 ≡ c = ap (λ (bs : List ℕ). get_or bs 1 0) same in elim mark [ inl e ↦ absurd (omega (arith, second, e)) | inr e ↦ absurd (omega (arith, second, e)) ])
    (λ no_quote no_backslash low high same. no_backslash (sym (ap (λ (bs : List ℕ). get_or bs 0 0) same)))
    (λ number same. none c rest is number (ap (drop 3) same ∙ append_assoc (hexadecimal c) (125 ∷ []) rest))

pub numbered_read : (text : List ℕ) (end c : ℕ) → Some end ≡ position (is_byte 125) text → take end text ≡ hexadecimal c → IsNumbered c
    → 92 ∷ 117 ∷ 123 ∷ text ≡ quoted_char c ++ drop (end + 1) text
numbered_read text end c found digits number =
    let here : text ≡ hexadecimal c ++ 125 ∷ drop (end + 1) text = byte_here 125 text end found ∙ ap (λ (ds : List ℕ). ds ++ 125 ∷ drop (end + 1) text) digits in
    ap (λ (t : List ℕ). 92 ∷ 117 ∷ 123 ∷ t) (here ∙ sym (append_assoc (hexadecimal c) (125 ∷ []) (drop (end + 1) text))) ∙ ap (λ (t : List ℕ). t ++ drop (end + 1) text) (sym (quoted_number c number))

-- with the digits of a number in front, no character but that one is read
pub numbered_same : (text : List ℕ) (end n : ℕ) → Some end ≡ position (is_byte 125) text → (n < 2 ^ 24) × (take end text ≡ hexadecimal n)
    → (IsScalar n → IsNumbered n → ⊥) → NoNumber text
numbered_same text end n found digits none c rest is number same =
    let small = scalar_small c is in
    let parts = byte_parts 125 text (hexadecimal c) rest end found (hex_braceless c small) same in
    let e : n ≡ c = hex_injective n c digits.0 small (sym digits.1 ∙ parts.0) in
    none (subst IsScalar (sym e) is) (subst IsNumbered (sym e) number)

pub numbered_none : (text : List ℕ) (end : ℕ) → Some end ≡ position (is_byte 125) text → ((n : ℕ) → n < 2 ^ 24 → take end text ≢ hexadecimal n) → NoNumber text
numbered_none text end found none c rest is number same =
    let small = scalar_small c is in
    none c small (byte_parts 125 text (hexadecimal c) rest end found (hex_braceless c small) same).0

pub unbraced : (text : List ℕ) → None ≡ position (is_byte 125) text → NoNumber text
unbraced text none c rest is number same = no_byte 125 text none (hexadecimal c) rest (hex_braceless c (scalar_small c is)) same

-- ---- the front of a spelling determines the character

-- the character at the front of a text that has one, and what follows it
front : List ℕ → ℕ × List ℕ
front [] = (0, [])
front (b ∷ bs) = cond (eqb b 92) (cond (eqb (get_or bs 0 0) 117) (digits_value 16 (before_first (is_byte 125) (drop 2 bs)), after_first (is_byte 125) (drop 2 bs)) (get_or bs 0 0, drop 1 bs)) (b, bs)

front_again : (c : ℕ) (rest : List ℕ) → IsScalar c → ◌≡◌ {A = ℕ × List ℕ} (front (quoted_char c ++ rest)) (c, rest)
unfolding front
front_again c rest is =
    by_kind c (λ (d : ℕ) (t : List ℕ). ◌≡◌ {A = ℕ × List ℕ} (front (t ++ rest)) (d, rest))
    (λ mark. elim mark [ inl e ↦ rw (ne_eqb c 117 (λ u. absurd (omega (arith, u, e)))) refl | inr e ↦ rw (ne_eqb c 117 (λ u. absurd (omega (arith, u, e)))) refl ])
    (λ no_quote no_backslash low high. rw (ne_eqb c 92 no_backslash) refl)
    (λ number.
    let small = scalar_small c is in
    let behind : drop 2 (117 ∷ 123 ∷ (hexadecimal c ++ 125 ∷ []) ++ rest) ≡ hexadecimal c ++ 125 ∷ rest = append_assoc (hexadecimal c) (125 ∷ []) rest in
    let cut = byte_cut 125 (hexadecimal c) rest (hex_braceless c small) in
    let at_first : List ℕ → ℕ × List ℕ = λ t. (digits_value 16 (before_first (is_byte 125) t), after_first (is_byte 125) t) in
    let by_parts : List ℕ × List ℕ → ℕ × List ℕ = λ p. (digits_value 16 p.0, p.1) in
    let by_number : ℕ → ℕ × List ℕ = λ n. (n, rest) in
    ap at_first behind ∙ ap by_parts cut ∙ ap by_number (hex_value c small))

pub one_char : (c d : ℕ) (r s : List ℕ) → IsScalar c → IsScalar d → quoted_char c ++ r ≡ quoted_char d ++ s → (c ≡ d) × (r ≡ s)
one_char c d r s c_is d_is same =
    let e : ◌≡◌ {A = ℕ × List ℕ} (c, r) (d, s) = sym (front_again c r c_is) ∙ ap front same ∙ front_again d s d_is in
    (ap (λ (p : ℕ × List ℕ). p.0) e, ap (λ (p : ℕ × List ℕ). p.1) e)

-- no character begins with a quote
pub no_quote_first : (c : ℕ) (r s : List ℕ) → quoted_char c ++ r ≢ 34 ∷ s
no_quote_first c r s =
    by_kind c (λ (d : ℕ) (t : List ℕ). t ++ r ≢ 34 ∷ s)
    (λ mark same. absurd (omega (arith, ap (λ (bs : List ℕ). get_or bs 0 0) same)))
    (λ no_quote no_backslash low high same. no_quote (ap (λ (bs : List ℕ). get_or bs 0 0) same))
    (λ number same. absurd (omega (arith, ap (λ (bs : List ℕ). get_or bs 0 0) same)))

-- ---- a text by its first byte

pub first_is : (text : List ℕ) → 0 < length text → text ≡ get_or text 0 0 ∷ take (length text - 1) (drop 1 text)
first_is [] some = absurd (omega arith)
first_is (b ∷ bs) some = ap (λ (t : List ℕ). b ∷ t) (sym (take_all (length (b ∷ bs) - 1) bs (omega arith)))

pub begins : (text : List ℕ) (b : ℕ) → 0 < length text → get_or text 0 0 ≡ b → text ≡ b ∷ take (length text - 1) (drop 1 text)
begins text b some e = first_is text some ∙ ap (λ (x : ℕ). x ∷ take (length text - 1) (drop 1 text)) e

pub mark_read : (text : List ℕ) (b : ℕ) → (b ≡ 34) ⊎ (b ≡ 92) → 0 < length text → get_or text 0 0 ≡ b → 92 ∷ text ≡ quoted_char b ++ take (length text - 1) (drop 1 text)
mark_read text b mark some e = ap (λ (t : List ℕ). 92 ∷ t) (begins text b some e) ∙ ap (λ (t : List ℕ). t ++ take (length text - 1) (drop 1 text)) (sym (quoted_mark b mark))

pub plain_read : (text : List ℕ) (b : ℕ) → b ≢ 34 → b ≢ 92 → 32 ≤ b → b ≤ 126 → 0 < length text → get_or text 0 0 ≡ b → text ≡ quoted_char b ++ take (length text - 1) (drop 1 text)
plain_read text b no_quote no_backslash low high some e = begins text b some e ∙ ap (λ (t : List ℕ). t ++ take (length text - 1) (drop 1 text)) (sym (quoted_plain b no_quote no_backslash low high))

pub plain_scalar : (b : ℕ) → b ≤ 126 → IsScalar b
plain_scalar b high = low_scalar b (omega arith)

pub quote_not_read : (text : List ℕ) → 0 < length text → get_or text 0 0 ≡ 34 → (c : ℕ) (rest : List ℕ) → IsScalar c → text ≢ quoted_char c ++ rest
quote_not_read text some e c rest is same = no_quote_first c rest (take (length text - 1) (drop 1 text)) (sym same ∙ begins text 34 some e)

pub front_not_read : (text : List ℕ) → (0 < length text → (get_or text 0 0 < 32) ⊎ (126 < get_or text 0 0)) → (c : ℕ) (rest : List ℕ) → IsScalar c → text ≢ quoted_char c ++ rest
front_not_read text odd c rest is =
    by_kind c (λ (d : ℕ) (t : List ℕ). text ≢ t ++ rest)
    (λ mark same. let first = ap (λ (bs : List ℕ). get_or bs 0 0) same in let some : 0 < length text = omega (arith, ap length same) in elim (odd some) [ inl low ↦ absurd (omega (arith, first, low)) | inr high ↦ absurd (omega (arith, first, high)) ])
    (λ no_quote no_backslash low high same. let first = ap (λ (bs : List ℕ). get_or bs 0 0) same in let some : 0 < length text = omega (arith, ap length same) in elim (odd some) [ inl less ↦ absurd (omega (arith, first, less, low)) | inr more ↦ absurd (omega (arith, first, more, high)) ])
    (λ number same. let first = ap (λ (bs : List ℕ). get_or bs 0 0) same in let some : 0 < length text = omega (arith, ap length same) in elim (odd some) [ inl low ↦ absurd (omega (arith, first, low)) | inr high ↦ absurd (omega (arith, first, high)) ])

pub unescaped : (text : List ℕ) → (0 < length text → get_or text 0 0 ≢ 34) → (0 < length text → get_or text 0 0 ≢ 92) → (1 < length text → get_or text 0 0 ≡ 117 → get_or text 1 0 ≢ 123)
    → (c : ℕ) (rest : List ℕ) → IsScalar c → 92 ∷ text ≢ quoted_char c ++ rest
unescaped text no_quote no_backslash no_number c rest is =
    by_kind c (λ (d : ℕ) (t : List ℕ). 92 ∷ text ≢ t ++ rest)
    (λ mark same. let behind = ap (drop 1) same in let some : 0 < length text = omega (arith, ap length behind) in let first = ap (λ (bs : List ℕ). get_or bs 0 0) behind in
    elim mark [ inl e ↦ no_quote some (first ∙ e) | inr e ↦ no_backslash some (first ∙ e) ])
    (λ not_quote not_backslash low high same. not_backslash (sym (ap (λ (bs : List ℕ). get_or bs 0 0) same)))
    (λ number same. let behind = ap (drop 1) same in let some : 1 < length text = omega (arith, ap length behind) in
    no_number some (ap (λ (bs : List ℕ). get_or bs 0 0) behind) (ap (λ (bs : List ℕ). get_or bs 1 0) behind))

-- ---- whole texts

-- characters that were read are the front of each text that goes on so
pub goes_on : (cs ds r s : List ℕ) → AllByRecursion IsScalar cs → AllByRecursion IsScalar ds → flat_map quoted_char cs ++ r ≡ flat_map quoted_char ds ++ 34 ∷ s
    → (es : List ℕ) × (ds ≡ cs ++ es) × (r ≡ flat_map quoted_char es ++ 34 ∷ s) × AllByRecursion IsScalar es
goes_on [] ds r s all_c all_d same = (ds, refl, same, all_d)
goes_on (c ∷ cs) [] r s all_c all_d same = absurd (no_quote_first c (flat_map quoted_char cs ++ r) s (sym (append_assoc (quoted_char c) (flat_map quoted_char cs) r) ∙ same))
goes_on (c ∷ cs) (d ∷ ds) r s all_c all_d same =
    let one = one_char c d (flat_map quoted_char cs ++ r) (flat_map quoted_char ds ++ 34 ∷ s) all_c.0 all_d.0
    (sym (append_assoc (quoted_char c) (flat_map quoted_char cs) r) ∙ same ∙ append_assoc (quoted_char d) (flat_map quoted_char ds) (34 ∷ s)) in
    let rest = goes_on cs ds r s all_c.1 all_d.1 one.1 in
    (rest.0, ap (λ (x : ℕ). x ∷ ds) (sym one.0) ∙ ap (λ (t : List ℕ). c ∷ t) rest.1, rest.2, rest.3)

-- the characters that were read after the first quote, and what follows them
pub record HasRead (word chars rest : List ℕ) : Type 0 where
  pub spelled : word ≡ 34 ∷ (flat_map quoted_char chars ++ rest)
  pub scalars : AllByRecursion IsScalar chars

pub none_read : (word text : List ℕ) → word ≡ 34 ∷ text → HasRead word [] text
none_read word text starts = record { spelled = starts; scalars = tt }

scalars-append : (cs : List ℕ) (c : ℕ) → AllByRecursion IsScalar cs → IsScalar c → AllByRecursion IsScalar (cs ++ c ∷ [])
scalars-append [] c all is = (is, tt)
scalars-append (d ∷ cs) c all is = (all.0, scalars-append cs c all.1 is)

pub more_read : (word cs rest later : List ℕ) (c : ℕ) → HasRead word cs rest → IsScalar c → rest ≡ quoted_char c ++ later → HasRead word (cs ++ c ∷ []) later
more_read word cs rest later c read is next = record {
  spelled = read.spelled ∙ ap (λ (t : List ℕ). 34 ∷ t) (ap (λ (t : List ℕ). flat_map quoted_char cs ++ t) next ∙ sym (append_assoc (flat_map quoted_char cs) (quoted_char c) later)
      ∙ ap (λ (t : List ℕ). t ++ later) (flat_map_more quoted_char [] cs c));
  scalars = scalars-append cs c read.scalars is;
}

-- what a text that goes on so has after the characters that were read
pub behind_read : (word cs rest ds s : List ℕ) → HasRead word cs rest → AllByRecursion IsScalar ds → word ≡ 34 ∷ (flat_map quoted_char ds ++ 34 ∷ s)
    → (es : List ℕ) × (ds ≡ cs ++ es) × (rest ≡ flat_map quoted_char es ++ 34 ∷ s) × AllByRecursion IsScalar es
behind_read word cs rest ds s read all same = goes_on cs ds rest s read.scalars all (ap (drop 1) (sym read.spelled ∙ same))

-- if no character follows, the text is those that were read, if it is one at all
pub all_are_read : (word cs rest ds s : List ℕ) → HasRead word cs rest → ((c : ℕ) (later : List ℕ) → IsScalar c → rest ≢ quoted_char c ++ later)
    → AllByRecursion IsScalar ds → word ≡ 34 ∷ (flat_map quoted_char ds ++ 34 ∷ s) → (ds ≡ cs) × (rest ≡ 34 ∷ s)
all_are_read word cs rest ds s read none all same = go (behind_read word cs rest ds s read all same)
  where
    go : (es : List ℕ) × (ds ≡ cs ++ es) × (rest ≡ flat_map quoted_char es ++ 34 ∷ s) × AllByRecursion IsScalar es → (ds ≡ cs) × (rest ≡ 34 ∷ s)
    go ([], parts, behind, scalars) = (parts ∙ append-nil cs, behind)
    go (e ∷ es, parts, behind, scalars) = absurd (none e (flat_map quoted_char es ++ 34 ∷ s) scalars.0 (behind ∙ append_assoc (quoted_char e) (flat_map quoted_char es) (34 ∷ s)))

pub text_read : (word cs rest : List ℕ) → HasRead word cs rest → rest ≡ 34 ∷ [] → AreScalars cs × (word ≡ quoted cs)
text_read word cs rest read end = (read.scalars, read.spelled ∙ ap (λ (t : List ℕ). 34 ∷ (flat_map quoted_char cs ++ t)) end)

pub no_text_read : (word cs rest : List ℕ) → HasRead word cs rest → ((c : ℕ) (later : List ℕ) → IsScalar c → rest ≢ quoted_char c ++ later)
    → (rest ≢ 34 ∷ []) → (ds : List ℕ) → AreScalars ds → word ≢ quoted ds
no_text_read word cs rest read none no_end ds all same = no_end (all_are_read word cs rest ds [] read none all same).1

-- a text of one character
pub char_read : (word text rest : List ℕ) (c : ℕ) → word ≡ 34 ∷ text → IsScalar c → text ≡ quoted_char c ++ rest → rest ≡ 34 ∷ [] → IsScalar c × (word ≡ quoted (c ∷ []))
char_read word text rest c starts is front end =
    (is, starts ∙ ap (λ (t : List ℕ). 34 ∷ t) (front ∙ ap (λ (t : List ℕ). quoted_char c ++ t) end) ∙ ap (λ (t : List ℕ). 34 ∷ t ++ 34 ∷ []) (sym (append-nil (quoted_char c))))

one_behind : (word text : List ℕ) (d : ℕ) → word ≡ 34 ∷ text → word ≡ quoted (d ∷ []) → text ≡ quoted_char d ++ 34 ∷ []
one_behind word text d starts same = ap (drop 1) (sym starts ∙ same) ∙ ap (λ (t : List ℕ). t ++ 34 ∷ []) (append-nil (quoted_char d))

pub no_char_read : (word text : List ℕ) → word ≡ 34 ∷ text → ((c : ℕ) (later : List ℕ) → IsScalar c → text ≢ quoted_char c ++ later) → (d : ℕ) → IsScalar d → word ≢ quoted (d ∷ [])
no_char_read word text starts none d is same = none d (34 ∷ []) is (one_behind word text d starts same)

pub more_than_a_char : (word text rest : List ℕ) (c : ℕ) → word ≡ 34 ∷ text → IsScalar c → text ≡ quoted_char c ++ rest → (rest ≢ 34 ∷ []) → (d : ℕ) → IsScalar d → word ≢ quoted (d ∷ [])
more_than_a_char word text rest c starts c_is front no_end d is same = no_end (one_char c d rest (34 ∷ []) c_is is (sym front ∙ one_behind word text d starts same)).1

-- the text of quotes, and what follows it
pub quoted_parts : (chars rest : List ℕ) → quoted chars ++ rest ≡ 34 ∷ (flat_map quoted_char chars ++ 34 ∷ rest)
quoted_parts chars rest = ap (λ (t : List ℕ). 34 ∷ t) (append_assoc (flat_map quoted_char chars) (34 ∷ []) rest)

-- Labels in quotes: texts of 1 to 48 characters, each from a space to `~`.

plain_scalars : (bytes : List ℕ) → AllByRecursion IsPlain bytes → AllByRecursion IsScalar bytes
plain_scalars [] all = tt
plain_scalars (b ∷ bytes) all = let high = all.0.1 in (low_scalar b (omega (arith, high)), plain_scalars bytes all.1)

pub label_scalars : (label : List ℕ) → IsLabelText label → AllByRecursion IsScalar label
label_scalars label is = plain_scalars label (recursion_from_All IsPlain label is.plain)

plain_behind : (cs es : List ℕ) → AllByRecursion IsPlain (cs ++ es) → AllByRecursion IsPlain es
plain_behind [] es all = all
plain_behind (c ∷ cs) es all = plain_behind cs es all.1

-- one more character than a label can have: of 48 already, or none from a space to `~`
pub no_more_label : (text cs rest later : List ℕ) (c : ℕ) → HasRead text cs rest → IsScalar c → rest ≡ quoted_char c ++ later → (length cs ≡ 48) ⊎ (126 < c)
    → (label behind : List ℕ) → IsLabelText label → text ≢ quoted label ++ behind
no_more_label text cs rest later c read is next bad label behind is_label same = go (behind_read text cs rest label behind read (label_scalars label is_label) (same ∙ quoted_parts label behind))
  where
    too_much : (e : ℕ) (es : List ℕ) → label ≡ cs ++ e ∷ es → e ≡ c → (length cs ≡ 48) ⊎ (126 < c) → ⊥
    too_much e es parts e_is (inl full) = let short = is_label.short in absurd (omega (arith, ap length parts, length-append cs (e ∷ es), full, short))
    too_much e es parts e_is (inr high) =
        let plain = plain_behind cs (e ∷ es) (subst (AllByRecursion IsPlain) parts (recursion_from_All IsPlain label is_label.plain)) in
        let most = plain.0.1 in
        absurd (omega (arith, most, e_is, high))

    go : (es : List ℕ) × (label ≡ cs ++ es) × (rest ≡ flat_map quoted_char es ++ 34 ∷ behind) × AllByRecursion IsScalar es → ⊥
    go ([], parts, after, scalars) = no_quote_first c later behind (sym next ∙ after)
    go (e ∷ es, parts, after, scalars) =
        too_much e es parts (one_char e c (flat_map quoted_char es ++ 34 ∷ behind) later scalars.0 is (sym (append_assoc (quoted_char e) (flat_map quoted_char es) (34 ∷ behind)) ∙ sym after ∙ next)).0 bad

-- what was read is no label, or no quote follows it
pub no_label_read : (text cs rest : List ℕ) → HasRead text cs rest → ((c : ℕ) (later : List ℕ) → IsScalar c → rest ≢ quoted_char c ++ later)
    → (IsLabelText cs → (behind : List ℕ) → rest ≢ 34 ∷ behind) → (label behind : List ℕ) → IsLabelText label → text ≢ quoted label ++ behind
no_label_read text cs rest read none bad label behind is same =
    let whole = all_are_read text cs rest label behind read none (label_scalars label is) (same ∙ quoted_parts label behind) in
    bad (subst IsLabelText whole.0 is) behind whole.1

pub label_read : (text cs rest behind label : List ℕ) → HasRead text cs rest → rest ≡ 34 ∷ behind → label ≡ cs → text ≡ quoted label ++ behind
label_read text cs rest behind label read starts same =
    read.spelled ∙ ap (λ (t : List ℕ). 34 ∷ (flat_map quoted_char cs ++ t)) starts ∙ sym (quoted_parts cs behind) ∙ ap (λ (t : List ℕ). quoted t ++ behind) (sym same)

-- one label in a whole text
pub one_label : (text label behind : List ℕ) → IsLabelText label → text ≡ quoted label ++ behind → behind ≢ [] → (other : List ℕ) → IsLabelText other → text ≢ quoted other
one_label text label behind is read more other other_is same =
    let here : HasRead text label (34 ∷ behind) = record { spelled = read ∙ quoted_parts label behind; scalars = label_scalars label is } in
    let whole = all_are_read text label (34 ∷ behind) other [] here (λ c later c_is e. no_quote_first c later behind (sym e)) (label_scalars other other_is) same in
    more (ap (drop 1) whole.1)

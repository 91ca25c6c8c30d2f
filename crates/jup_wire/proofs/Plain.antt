-- Bytes from a space to `~`.
use Rattle.std.proofs.Common.{◌≡◌, ℕ, ◌/◌, ◌%◌, ◌<◌, ◌≤◌, zero, suc, Bool, true, false, ◌&&◌, List, [], ◌∷◌, refl, arith, inl, inr, codes, decimal, ℤ, pos, negsuc, nat_le}
use Rattle.std.specs.Fmt.{digit_glyph, digits_onto, digits, signed_decimal}
use Rattle.std.specs.List.{list_all, AllByRecursion}
use Rattle.std.proofs.lemmas.Bool.{cases_lt, cases_eq, lt-ltb, le-ltb, eq-eqb, ne_eqb, and_parts, leb-true}
use Rattle.jup_wire.specs.Fields.{switch_text}

abbrev pub IsPlain : ℕ → Type 0
IsPlain byte = (32 ≤ byte) × (byte ≤ 126)

abbrev pub ArePlain : List ℕ → Type 0
ArePlain bytes = AllByRecursion IsPlain bytes

-- ---- digits

-- digits and letters
abbrev pub AreMarks : List ℕ → Type 0
AreMarks bytes = AllByRecursion (λ byte. (48 ≤ byte) × (byte ≤ 126)) bytes

glyph_mark : (d : ℕ) → d < 16 → (48 ≤ digit_glyph false d) × (digit_glyph false d ≤ 126)
glyph_mark d low = elim (cases_lt d 10) [ inl digit ↦ rw (lt-ltb d 10 digit) (omega arith, omega arith) | inr letter ↦ rw (le-ltb d 10 letter) (omega arith, omega arith) ]

onto_marks : (base k n : ℕ) (behind : List ℕ) → ((m : ℕ) → m % base < 16) → AreMarks behind → AreMarks (digits_onto k base false n behind)
onto_marks base zero n behind low all = all
onto_marks base (suc k) n behind low all =
    let more : AreMarks (digit_glyph false (n % base) ∷ behind) = (glyph_mark (n % base) (low n), all) in
    elim (cases_eq (n / base) 0) [
      | inl last ↦ rw (eq-eqb (n / base) 0 last) more
      | inr next ↦ rw (ne_eqb (n / base) 0 next) (onto_marks base k (n / base) (digit_glyph false (n % base) ∷ behind) low more)
    ]

pub digits_marks : (base n : ℕ) → ((m : ℕ) → m % base < 16) → AreMarks (digits base false n)
unfolding digits
digits_marks base n low = onto_marks base 64 n [] low tt

pub decimal_marks : (n : ℕ) → AreMarks (decimal n)
decimal_marks n = digits_marks 10 n (λ m. omega arith)

pub marks_plain : (bytes : List ℕ) → AreMarks bytes → ArePlain bytes
marks_plain [] all = tt
marks_plain (b ∷ bytes) all = let low = all.0.0 in ((omega (arith, low), all.0.1), marks_plain bytes all.1)

pub decimal_plain : (n : ℕ) → ArePlain (decimal n)
decimal_plain n = marks_plain (decimal n) (decimal_marks n)

pub signed_plain : (z : ℤ) → ArePlain (signed_decimal z)
signed_plain (pos n) = decimal_plain n
signed_plain (negsuc n) = ((omega arith, omega arith), decimal_plain (suc n))

pub are_plain : (bytes : List ℕ) → list_all (λ byte. nat_le 32 byte && nat_le byte 126) bytes ≡ true → ArePlain bytes
are_plain [] all = tt
are_plain (b ∷ bytes) all =
    let parts = and_parts (nat_le 32 b && nat_le b 126) (list_all (λ byte. nat_le 32 byte && nat_le byte 126) bytes) all in
    let here = and_parts (nat_le 32 b) (nat_le b 126) parts.0 in
    ((leb-true 32 b here.0, leb-true b 126 here.1), are_plain bytes parts.1)

pub switch_plain : (on : Bool) → ArePlain (switch_text on)
switch_plain true = are_plain (codes "on") refl
switch_plain false = are_plain (codes "off") refl

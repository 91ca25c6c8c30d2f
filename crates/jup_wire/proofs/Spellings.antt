-- The fields of lines: what is read is what is spelled.
use Rattle.std.proofs.Common.{◌≡◌, false, Option, Some, None, refl, is_some, ℕ, ◌^◌, ◌<◌, true, ltb, ◌&&◌, List, length, get_or, sym, ap, subst, ◌∙◌, arith, decimal, ◌==◌, suc, ◌+◌, ◌-◌, ◌≤◌, Bool, not, cond, [], ◌∷◌, ◌++◌, take, drop, le_refl, inl, inr, add-one, position, zero, leb, Result, Ok, Err, eqb, lit<, lit≤, IfOk, IsOk, IsTrue, ◌↔◌, All, codes, ℤ, pos, negsuc, neg_ℤ, SomeIff, take_all, length-drop, length-append}
use Rattle.std.proofs.lemmas.Bool.{true≢false, and_parts, ltb-true, lt-ltb, false_from_ne_true, and_from, eqb-true, eq-eqb, not-true, cases_Bool, cases_lt, le-ltb, cond-true, cond-false, not_from_false, false≢true, leb-true, le-leb, ne_eqb}
use Rattle.std.proofs.lemmas.Slice.Eq.{bytes_eq-Decides}
use Rattle.std.proofs.lemmas.Fmt.{decimal_is_IsNumeral, length-decimal-le, decimal_nonempty}
use Rattle.std.proofs.lemmas.List.Sums.{position_or_len_is}
use Rattle.std.proofs.Math.Numerals.{one-add}
use Rattle.std.proofs.lemmas.List.Elements.{recursion_from_All}
use Rattle.std.specs.Bool.{Decides}
use Rattle.std.specs.Result.{result_ok}
use Rattle.std.proofs.lemmas.Bool.Decides.{Decides-and, Decides-ltb, Decides-by_and, Decides-like}
use Rattle.memchr.specs.Find.{IsFirstByte, is_byte}
use lib.Utf8.{scalar, scalar_cases}
use Rattle.jup_number.specs.Numbers.{IsU32, IsReadingOf}
use Rattle.jup_number.proofs.Numbers.{decimal_digits, digits_read, none_by_nothing, none_by_zeros, digit_below}
use Rattle.jup_wire.specs.Prelude.{Name, IsLabelText, SetOp, SeqOp, position_or_len, AllByRecursion, list_all, join_with_byte, bytes_eq, digit_value, IsScalar, signed_decimal, AllDigits, digits_value, cond_some, same_Some}
use Rattle.jup_value.specs.declared.labels.BadLabel.{BadLabel}
use Rattle.jup_wire.specs.Fields.{◌>>=◌, number_of, split_of, field_of, pair_of, dispatch, headed_by, name_text, switch_text, IsId, IsInt, IsName, IsCount, is_count, id_of, count_of, scalar_of, int_of, name_of, switch_of, is_label, label_of, seq_fields, set_fields, IsU32, IsSeqOp, IsSetOp, insert_of, delete_of, relabel_of, seq_of, set_of}
use Rattle.jup_setting.specs.declared.operation.SetOp.TheVariants as set
use Rattle.jup_seq.specs.declared.operations.SeqOp.TheVariants as seq

-- Steps that may fail.

-- the value of a step that did not fail
pub bind_some : {A B : Type 0} (o : Option A) (f : A → Option B) (y : B) → (o >>= f) ≡ Some y → (x : A) × (o ≡ Some x) × (f x ≡ Some y)
bind_some (Some x) f y e = (x, refl, e)
bind_some None f y e = absurd cc

-- what gives no value is nothing
pub none_from : {A : Type 0} (o : Option A) → ((a : A) → o ≡ Some a → ⊥) → o ≡ None
none_from None h = refl
none_from (Some a) h = absurd (h a refl)

pub none_is : {A : Type 0} (o : Option A) → is_some o ≡ false → o ≡ None
none_is None e = refl
none_is (Some a) e = absurd (true≢false e)

-- Numbers in their one spelling.

-- what is read is spelled so
pub number_takes : (bytes : List ℕ) (n : ℕ) → number_of bytes ≡ Some n → (n < 2 ^ 32) × (bytes ≡ decimal n)
unfolding number_of
number_takes bytes n e =
    let value = digits_value 10 bytes in
    let c = cond_some (bytes_eq (decimal value) bytes && ltb value (2 ^ 32)) value n e in
    let b = and_parts (bytes_eq (decimal value) bytes) (ltb value (2 ^ 32)) c.0 in
    let same : decimal value ≡ bytes = (bytes_eq-Decides (decimal value) bytes).0 b.0 in
    let small : value < 2 ^ 32 = ltb-true _ _ b.1 in
    (subst (λ (k : ℕ). k < 2 ^ 32) c.1 small, sym same ∙ ap decimal c.1)

-- what is spelled so is read
pub number_again : (n : ℕ) → n < 2 ^ 32 → number_of (decimal n) ≡ Some n
unfolding number_of
number_again n lt =
    let back : digits_value 10 (decimal n) ≡ n = (decimal_is_IsNumeral n (omega arith)).1 in
    let same : bytes_eq (decimal n) (decimal n) ≡ true = (bytes_eq-Decides (decimal n) (decimal n)).1 refl in
    let small : ltb n (2 ^ 32) ≡ true = lt-ltb _ _ lt in
    rw (back, same, small) refl

-- a decimal has digits alone
pub digits_of_decimal : (n : ℕ) → n < 2 ^ 32 → AllDigits 10 (decimal n)
digits_of_decimal n lt = (decimal_digits n lt).0

-- what reads the one spelling reads so
pub number_is : (bytes : List ℕ) (r : Option ℕ) → IsReadingOf decimal IsU32 bytes r → r ≡ number_of bytes
number_is bytes (Some n) read = sym (ap number_of read.1 ∙ number_again n read.0)
number_is bytes None none = sym (none_from (number_of bytes) (λ n e. let t = number_takes bytes n e in none n t.0 t.1))

pub number_from_value : (bytes : List ℕ) (r : Option ℕ) → 0 < length bytes → (get_or bytes 0 0 ≡ 48 → length bytes ≡ 1)
    → SomeIff r (AllDigits 10 bytes × (digits_value 10 bytes < 2 ^ 32)) (digits_value 10 bytes) → r ≡ number_of bytes
number_from_value bytes r nonempty one h = number_is bytes r (digits_read bytes r nonempty one h)

pub number_of_none : (bytes : List ℕ) → length bytes ≡ 0 → None ≡ number_of bytes
number_of_none bytes empty = number_is bytes None (none_by_nothing bytes empty)

pub number_of_zeros : (bytes : List ℕ) → get_or bytes 0 0 ≡ 48 → 1 < length bytes → None ≡ number_of bytes
number_of_zeros bytes zero_first long = number_is bytes None (none_by_zeros bytes zero_first long)

-- Where a separator is.

-- no byte is the separator
abbrev pub lacks : ℕ → List ℕ → Bool
lacks separator [] = true
lacks separator (byte ∷ bytes) = not (byte == separator) && lacks separator bytes

-- the first place of the separator
abbrev pub place : ℕ → List ℕ → ℕ
place separator bytes = position_or_len (λ b. b == separator) bytes

-- the parts before and after a place
abbrev pub cut : List ℕ → ℕ → List ℕ × List ℕ
cut bytes at = (take at bytes, drop (at + 1) bytes)

place_here : (separator byte : ℕ) (bytes : List ℕ) → (byte == separator) ≡ true → place separator (byte ∷ bytes) ≡ 0
place_here separator byte bytes h = rw h refl

place_later : (separator byte : ℕ) (bytes : List ℕ) → (byte == separator) ≡ false → place separator (byte ∷ bytes) ≡ suc (place separator bytes)
place_later separator byte bytes h = rw (h, one-add) refl

cut_here : (byte : ℕ) (bytes : List ℕ) → cut (byte ∷ bytes) 0 ≡ ([], bytes)
cut_here byte bytes = refl

cut_later : (byte : ℕ) (bytes : List ℕ) (at : ℕ) → cut (byte ∷ bytes) (suc at) ≡ (byte ∷ take at bytes, drop (at + 1) bytes)
cut_later byte bytes at = rw (add-one, add-one) refl

pub split_found : (separator : ℕ) (bytes : List ℕ) → place separator bytes < length bytes → split_of separator bytes ≡ Some (cut bytes (place separator bytes))
unfolding split_of
split_found separator [] lt = absurd (omega arith)
split_found separator (byte ∷ bytes) lt =
    elim (cases_Bool (byte == separator)) [
      | inl here ↦ ap (λ (t : Bool). cond t (Some ([], bytes)) (split_of separator bytes >>= λ parts. Some (byte ∷ parts.0, parts.1))) here ∙ sym (ap (λ (k : ℕ). Some (cut (byte ∷ bytes) k)) (place_here separator byte bytes here))
      | inr later ↦
          let e = place_later separator byte bytes later in
          let rest = split_found separator bytes (omega (arith, e)) in
          ap (λ (t : Bool). cond t (Some ([], bytes)) (split_of separator bytes >>= λ parts. Some (byte ∷ parts.0, parts.1))) later
          ∙ ap (λ (o : Option (List ℕ × List ℕ)). o >>= λ parts. Some (byte ∷ parts.0, parts.1)) rest
          ∙ sym (ap Some (cut_later byte bytes (place separator bytes)))
          ∙ sym (ap (λ (k : ℕ). Some (cut (byte ∷ bytes) k)) e)
    ]

pub split_not_found : (separator : ℕ) (bytes : List ℕ) → length bytes ≤ place separator bytes → split_of separator bytes ≡ None
unfolding split_of
split_not_found separator [] le = refl
split_not_found separator (byte ∷ bytes) le =
    elim (cases_Bool (byte == separator)) [
      | inl here ↦ absurd (omega (arith, place_here separator byte bytes here))
      | inr later ↦
          let e = place_later separator byte bytes later in
          let rest = split_not_found separator bytes (omega (arith, e)) in
          ap (λ (t : Bool). cond t (Some ([], bytes)) (split_of separator bytes >>= λ parts. Some (byte ∷ parts.0, parts.1))) later
          ∙ ap (λ (o : Option (List ℕ × List ℕ)). o >>= λ parts. Some (byte ∷ parts.0, parts.1)) rest
    ]

-- what the place that was found says of the split
pub split_at : (separator : ℕ) (bytes : List ℕ) (r : Option ℕ) → r ≡ position (λ b. b == separator) bytes → split_of separator bytes ≡ (r >>= λ at. Some (cut bytes at))
split_at separator bytes r e =
    elim (cases_lt (place separator bytes) (length bytes)) [
      | inl lt ↦ split_found separator bytes lt ∙ sym (ap (λ (o : Option ℕ). o >>= λ at. Some (cut bytes at)) (e ∙ cond-true _ _ _ (lt-ltb _ _ lt)))
      | inr le ↦ split_not_found separator bytes le ∙ sym (ap (λ (o : Option ℕ). o >>= λ at. Some (cut bytes at)) (e ∙ cond-false _ _ _ (le-ltb _ _ le)))
    ]

-- what a search by the crate of searches found
pub found_place : (separator : ℕ) (bytes : List ℕ) (r : Option ℕ) → IsFirstByte (is_byte separator) bytes r → r ≡ position (λ b. b == separator) bytes
found_place separator bytes None found =
    let here : place separator bytes ≡ length bytes =
    position_or_len_is (λ b. b == separator) bytes (length bytes) 0 (le_refl (length bytes)) (λ k lt. false_from_ne_true (get_or bytes k 0 == separator) (found k (omega arith) lt)) (λ lt. absurd (omega (arith, lt))) in
    sym (cond-false _ (Some (place separator bytes)) None (le-ltb _ _ (omega (arith, here))))
found_place separator bytes (Some k) found =
    let n = found.0 in
    let here : place separator bytes ≡ k =
    position_or_len_is (λ b. b == separator) bytes k 0 (let high = n.high in omega (arith, high)) (λ j lt. false_from_ne_true (get_or bytes j 0 == separator) (n.before j (omega arith) lt)) (λ lt. found.1) in
    sym (cond-true _ (Some (place separator bytes)) None (lt-ltb _ _ (let high = n.high in omega (arith, here, high))) ∙ ap Some here)

-- what is left after a place, as a range gives it
pub range_from : (bytes : List ℕ) (k : ℕ) → take (length bytes - k) (drop k bytes) ≡ drop k bytes
range_from bytes k = take_all (length bytes - k) (drop k bytes) (omega (arith, length-drop k bytes))

-- ---- what a split says

pub split_parts : (separator : ℕ) (bytes before after : List ℕ) → split_of separator bytes ≡ Some (before, after) → (bytes ≡ before ++ separator ∷ after) × (lacks separator before ≡ true)
unfolding split_of
split_parts separator [] before after e = absurd cc
split_parts separator (byte ∷ bytes) before after e =
    let step : Bool → Option (List ℕ × List ℕ) = λ t. cond t (Some ([], bytes)) (split_of separator bytes >>= λ parts. Some (byte ∷ parts.0, parts.1)) in
    let Says : List ℕ × List ℕ → Type 0 = λ p. (byte ∷ bytes ≡ p.0 ++ separator ∷ p.1) × (lacks separator p.0 ≡ true) in
    elim (cases_Bool (byte == separator)) [
      | inl here ↦
          subst Says (same_Some ([], bytes) (before, after) (sym (ap step here) ∙ e)) (ap (λ (b : ℕ). b ∷ bytes) (eqb-true byte separator here), refl)
      | inr later ↦
          let b = bind_some (split_of separator bytes) (λ parts. Some (byte ∷ parts.0, parts.1)) (before, after) (sym (ap step later) ∙ e) in
          let rest = split_parts separator bytes b.0.0 b.0.1 b.1 in
          subst Says (same_Some (byte ∷ b.0.0, b.0.1) (before, after) b.2)
          (ap (λ (t : List ℕ). byte ∷ t) rest.0, and_from (not (byte == separator)) (lacks separator b.0.0) (not_from_false (byte == separator) later) rest.1)
    ]

pub split_again : (separator : ℕ) (before after : List ℕ) → lacks separator before ≡ true → split_of separator (before ++ separator ∷ after) ≡ Some (before, after)
unfolding split_of
split_again separator [] after h = rw (eq-eqb separator separator refl) refl
split_again separator (byte ∷ before) after h =
    let b = and_parts (not (byte == separator)) (lacks separator before) h in
    rw (not-true (byte == separator) b.0, split_again separator before after b.1) refl

pub split_lacks : (separator : ℕ) (bytes : List ℕ) → lacks separator bytes ≡ true → split_of separator bytes ≡ None
unfolding split_of
split_lacks separator [] h = refl
split_lacks separator (byte ∷ bytes) h =
    let b = and_parts (not (byte == separator)) (lacks separator bytes) h in
    rw (not-true (byte == separator) b.0, split_lacks separator bytes b.1) refl

pub lacks-append : (separator : ℕ) (xs ys : List ℕ) → lacks separator xs ≡ true → lacks separator ys ≡ true → lacks separator (xs ++ ys) ≡ true
lacks-append separator [] ys h k = k
lacks-append separator (x ∷ xs) ys h k =
    let b = and_parts (not (x == separator)) (lacks separator xs) h in
    and_from (not (x == separator)) (lacks separator (xs ++ ys)) b.0 (lacks-append separator xs ys b.1 k)

-- What it is for a reader to read a spelling, and how readers are put together.

-- The reader reads just the spellings of the values that have one. A spelling has no line feed, and at most limit bytes.
pub record IsReader {A : Type 0} (read : List ℕ → Option A) (text : A → List ℕ) (Is : A → Type 0) (limit : ℕ) : Type 0 where
  pub takes : (bytes : List ℕ) (a : A) → read bytes ≡ Some a → Is a × (bytes ≡ text a)
  pub again : (a : A) → Is a → read (text a) ≡ Some a
  pub one_line : (a : A) → Is a → lacks 10 (text a) ≡ true
  pub short : (a : A) → Is a → length (text a) ≤ limit

-- a limit may be raised
pub within : {A : Type 0} {read : List ℕ → Option A} {text : A → List ℕ} {Is : A → Type 0} {n : ℕ} (m : ℕ) → n ≤ m → IsReader read text Is n → IsReader read text Is m
within m le r = record { takes = r.takes; again = r.again; one_line = r.one_line; short = λ a is. omega (arith, r.short a is) }

-- no spelling has the separator
abbrev pub IsField : {A : Type 0} → ℕ → (A → List ℕ) → (A → Type 0) → Type 0
IsField {A} separator text Is = (a : A) → Is a → lacks separator (text a) ≡ true

-- ---- a field and what comes after it

pub field_takes : {A : Type 0} (separator : ℕ) (read : List ℕ → Option A) (text : A → List ℕ) (Is : A → Type 0) (limit : ℕ) → IsReader read text Is limit
    → (bytes : List ℕ) (x : A × List ℕ) → field_of separator read bytes ≡ Some x → Is x.0 × (bytes ≡ text x.0 ++ separator ∷ x.1)
unfolding field_of
field_takes {A} separator read text Is limit reader bytes x e =
    let p = bind_some (split_of separator bytes) (λ parts. read parts.0 >>= λ value. Some (value, parts.1)) x e in
    let v = bind_some (read p.0.0) (λ value. Some (value, p.0.1)) x p.2 in
    let spelled = reader.takes p.0.0 v.0 v.1 in
    let parts = split_parts separator bytes p.0.0 p.0.1 p.1 in
    subst (λ (y : A × List ℕ). Is y.0 × (bytes ≡ text y.0 ++ separator ∷ y.1)) (same_Some (v.0, p.0.1) x v.2) (spelled.0, parts.0 ∙ ap (λ (t : List ℕ). t ++ separator ∷ p.0.1) spelled.1)

-- ---- a field and another after it

module _ {A B : Type 0} (separator : ℕ) (first : List ℕ → Option A) (first_text : A → List ℕ) (IsFirst : A → Type 0) (first_limit : ℕ) (one : IsReader first first_text IsFirst first_limit)
    (second : List ℕ → Option B) (second_text : B → List ℕ) (IsSecond : B → Type 0) (second_limit : ℕ) (two : IsReader second second_text IsSecond second_limit)
    (apart : IsField separator first_text IsFirst) (no_feed : lacks 10 (separator ∷ []) ≡ true) where
  pair_takes : (bytes : List ℕ) (x : A × B) → pair_of separator first second bytes ≡ Some x → (IsFirst x.0 × IsSecond x.1) × (bytes ≡ first_text x.0 ++ separator ∷ second_text x.1)
  unfolding field_of
  pair_takes bytes x e =
      let a = bind_some (field_of separator first bytes) (λ a. second a.1 >>= λ b. Some (a.0, b)) x e in
      let b = bind_some (second a.0.1) (λ b. Some (a.0.0, b)) x a.2 in
      let front = field_takes separator first first_text IsFirst first_limit one bytes a.0 a.1 in
      let back = two.takes a.0.1 b.0 b.1 in
      subst (λ (y : A × B). (IsFirst y.0 × IsSecond y.1) × (bytes ≡ first_text y.0 ++ separator ∷ second_text y.1)) (same_Some (a.0.0, b.0) x b.2)
      ((front.0, back.0), front.1 ∙ ap (λ (t : List ℕ). first_text a.0.0 ++ separator ∷ t) back.1)

  pub pair_reader : IsReader (pair_of separator first second) (λ x. first_text x.0 ++ separator ∷ second_text x.1) (λ x. IsFirst x.0 × IsSecond x.1) (first_limit + 1 + second_limit)
  unfolding field_of
  pair_reader = record {
    takes = pair_takes;
    again = λ x is. rw (split_again separator (first_text x.0) (second_text x.1) (apart x.0 is.0), one.again x.0 is.0, two.again x.1 is.1) refl;
    one_line = λ x is. lacks-append 10 (first_text x.0) (separator ∷ second_text x.1) (one.one_line x.0 is.0) (lacks-append 10 (separator ∷ []) (second_text x.1) no_feed (two.one_line x.1 is.1));
    short = λ x is. omega (arith, length-append (first_text x.0) (separator ∷ second_text x.1), one.short x.0 is.0, two.short x.1 is.1);
  }

-- ---- a word and what comes after it

-- what the reader reads after the word is spelled by the word, a space and what was read
abbrev pub TakesBehind : {B : Type 0} → (B → List ℕ) → (B → Type 0) → List ℕ × (List ℕ → Option B) → Type 0
TakesBehind {B} text Is entry = (rest : List ℕ) (b : B) → entry.1 rest ≡ Some b → Is b × (entry.0 ++ 32 ∷ rest ≡ text b)

pub behind : {A B : Type 0} (word : List ℕ) (read : List ℕ → Option A) (text : A → List ℕ) (Is : A → Type 0) (limit : ℕ) → IsReader read text Is limit → (make : A → B) (whole : B → List ℕ) (IsWhole : B → Type 0)
    → ((a : A) → Is a → IsWhole (make a) × (word ++ 32 ∷ text a ≡ whole (make a))) → TakesBehind whole IsWhole (word, λ rest. read rest >>= λ a. Some (make a))
behind word read text Is limit reader make whole IsWhole makes rest b e =
    let x = bind_some (read rest) (λ a. Some (make a)) b e in
    let t = reader.takes rest x.0 x.1 in
    let m = makes x.0 t.0 in
    subst (λ y. IsWhole y × (word ++ 32 ∷ rest ≡ whole y)) (same_Some (make x.0) b x.2) (m.0, ap (λ (r : List ℕ). word ++ 32 ∷ r) t.1 ∙ m.1)

pub dispatch_takes : {B : Type 0} (text : B → List ℕ) (Is : B → Type 0) (table : List (List ℕ × (List ℕ → Option B))) → AllByRecursion (TakesBehind text Is) table
    → (word rest : List ℕ) (b : B) → dispatch table word rest ≡ Some b → Is b × (word ++ 32 ∷ rest ≡ text b)
dispatch_takes text Is [] all word rest b e = absurd cc
dispatch_takes text Is (entry ∷ table) all word rest b e =
    elim (cases_Bool (bytes_eq word entry.0)) [
      | inl same ↦
          let w : word ≡ entry.0 = (bytes_eq-Decides word entry.0).0 same in
          let t = all.0 rest b (sym (cond-true (bytes_eq word entry.0) (entry.1 rest) (dispatch table word rest) same) ∙ e) in
          (t.0, ap (λ (v : List ℕ). v ++ 32 ∷ rest) w ∙ t.1)
      | inr other ↦ dispatch_takes text Is table all.1 word rest b (sym (cond-false (bytes_eq word entry.0) (entry.1 rest) (dispatch table word rest) other) ∙ e)
    ]

pub headed_takes : {B : Type 0} (text : B → List ℕ) (Is : B → Type 0) (table : List (List ℕ × (List ℕ → Option B))) → AllByRecursion (TakesBehind text Is) table
    → (bytes : List ℕ) (b : B) → headed_by table bytes ≡ Some b → Is b × (bytes ≡ text b)
headed_takes text Is table all bytes b e =
    let p = bind_some (split_of 32 bytes) (λ parts. dispatch table parts.0 parts.1) b e in
    let t = dispatch_takes text Is table all p.0.0 p.0.1 b p.2 in
    let parts = split_parts 32 bytes p.0.0 p.0.1 p.1 in
    (t.0, parts.0 ∙ t.1)

-- The values of single fields: what is read is spelled so, and what is spelled so is read.

pub Decides-leb : (a b : ℕ) → Decides (leb a b) (a ≤ b)
Decides-leb a b = (leb-true a b, le-leb a b)

-- ---- labels

-- a byte from a space to `~`
abbrev pub IsPrintable : ℕ → Type 0
IsPrintable byte = (32 ≤ byte) × (byte ≤ 126)

printable : (bytes : List ℕ) → Decides (list_all (λ b. leb 32 b && leb b 126) bytes) (All IsPrintable bytes)
printable = Decides-by_and (λ b. leb 32 b && leb b 126) IsPrintable (list_all (λ b. leb 32 b && leb b 126)) (λ b. Decides-and (leb 32 b) (leb b 126) (Decides-leb 32 b) (Decides-leb b 126)) refl (λ _ _. refl)

is_label-Decides : (bytes : List ℕ) → Decides (is_label bytes) (IsLabelText bytes)
is_label-Decides bytes =
    let p = list_all (λ b. leb 32 b && leb b 126) bytes in
    let inner = Decides-and (ltb 0 (length bytes)) (leb (length bytes) 48) (Decides-ltb 0 (length bytes)) (Decides-leb (length bytes) 48) in
    let all = Decides-and (ltb 0 (length bytes) && leb (length bytes) 48) p inner (printable bytes) in
    Decides-like (is_label bytes) (λ h. record { some = h.0.0; short = h.0.1; plain = h.1 }) (λ h. ((h.some, h.short), h.plain)) all

pub label_from_read : (bytes : List ℕ) (r : Result (List ℕ) BadLabel) → IfOk r (λ label. label ≡ bytes) → (IsOk r ↔ IsLabelText bytes) → result_ok r ≡ label_of bytes
unfolding label_of
label_from_read bytes (Ok label) same exact =
    ap Some same ∙ sym (cond-true (is_label bytes) _ _ ((is_label-Decides bytes).1 (exact.0 refl)))
label_from_read bytes (Err e) same exact =
    sym (cond-false (is_label bytes) _ _ (false_from_ne_true (is_label bytes) (λ h. false≢true (exact.1 ((is_label-Decides bytes).0 h)))))

pub label_takes : (bytes label : List ℕ) → label_of bytes ≡ Some label → IsLabelText label × (bytes ≡ label)
unfolding label_of
label_takes bytes label e =
    let c = cond_some (is_label bytes) bytes label e in
    subst (λ (l : List ℕ). IsLabelText l × (bytes ≡ l)) c.1 ((is_label-Decides bytes).0 c.0, refl)

pub label_again : (label : List ℕ) → IsLabelText label → label_of label ≡ Some label
unfolding label_of
label_again label h = cond-true (is_label label) _ _ ((is_label-Decides label).1 h)

-- ---- bytes that a spelling lacks

-- digits lack every byte that is no digit
pub lacks-digits : (separator : ℕ) → 10 ≤ digit_value separator → (ds : List ℕ) → AllDigits 10 ds → lacks separator ds ≡ true
lacks-digits separator other [] all = refl
lacks-digits separator other (d ∷ ds) all =
    let ne : eqb d separator ≡ false = ne_eqb d separator (λ e. absurd (omega (arith, ap digit_value e, all.0))) in
    rw (ne, lacks-digits separator other ds all.1) refl

pub lacks-decimal : (separator : ℕ) → 10 ≤ digit_value separator → (n : ℕ) → n < 2 ^ 32 → lacks separator (decimal n) ≡ true
lacks-decimal separator other n lt = lacks-digits separator other (decimal n) (digits_of_decimal n lt)

lacks-printable : (ds : List ℕ) → AllByRecursion IsPrintable ds → lacks 10 ds ≡ true
lacks-printable [] all = refl
lacks-printable (d ∷ ds) all =
    let ne : eqb d 10 ≡ false = ne_eqb d 10 (λ e. absurd (omega (arith, all.0.0, e))) in
    rw (ne, lacks-printable ds all.1) refl

-- ---- the readers

pub number_reader : IsReader number_of decimal IsU32 10
number_reader = record {
  takes = number_takes;
  again = number_again;
  one_line = lacks-decimal 10 (lit≤ tt);
  short = λ n lt. length-decimal-le 10 n (lit< tt) (omega arith) (omega arith);
}

-- a reader of those values that pass a test
pub tested : {A : Type 0} (read : List ℕ → Option A) (text : A → List ℕ) (Is : A → Type 0) (limit : ℕ) → IsReader read text Is limit
    → (test : A → Bool) → IsReader (λ bytes. read bytes >>= λ a. cond (test a) (Some a) None) text (λ a. IsTrue (test a) × Is a) limit
tested read text Is limit reader test = record {
  takes = λ bytes a e.
      let b = bind_some (read bytes) (λ a. cond (test a) (Some a) None) a e in
      let c = cond_some (test b.0) b.0 a b.2 in
      let t = reader.takes bytes b.0 b.1 in
      subst (λ x. (IsTrue (test x) × Is x) × (bytes ≡ text x)) c.1 ((c.0, t.0), t.1);
  again = λ a is. rw (reader.again a is.1, is.0) refl;
  one_line = λ a is. reader.one_line a is.1;
  short = λ a is. reader.short a is.1;
}

-- the same if the test decides what is read, and that is shorter
refined : {A : Type 0} (read : List ℕ → Option A) (text : A → List ℕ) (Is : A → Type 0) (limit : ℕ) → IsReader read text Is limit
    → (test : A → Bool) (Passes : A → Type 0) → ((a : A) → Decides (test a) (Passes a)) → ((a : A) → Passes a → Is a) → (less : ℕ) → ((a : A) → Passes a → length (text a) ≤ less)
    → IsReader (λ bytes. read bytes >>= λ a. cond (test a) (Some a) None) text Passes less
refined read text Is limit reader test Passes decides includes less short =
    let passing = tested read text Is limit reader test in
    record {
      takes = λ bytes a e. let t = passing.takes bytes a e in ((decides a).0 t.0.0, t.1);
      again = λ a is. passing.again a ((decides a).1 is, includes a is);
      one_line = λ a is. passing.one_line a ((decides a).1 is, includes a is);
      short = short;
    }

pub id_reader : IsReader id_of decimal IsId 5
unfolding id_of
id_reader = refined number_of decimal IsU32 10 number_reader (λ n. ltb n (2 ^ 16)) IsId (λ n. Decides-ltb n (2 ^ 16)) (λ n lt. omega (arith, lt)) 5 (λ n lt. length-decimal-le 5 n (lit< tt) (omega arith) (omega arith))

pub count_reader : IsReader count_of decimal IsCount 2
unfolding count_of
count_reader = refined number_of decimal IsU32 10 number_reader is_count IsCount (λ n. Decides-and (leb 1 n) (leb n 32) (Decides-leb 1 n) (Decides-leb n 32)) (λ n is. omega (arith, is.1)) 2 (λ n is. length-decimal-le 2 n (lit< tt) (omega (arith, is.1)) (omega (arith, is.1)))

scalar_small : (n : ℕ) → IsScalar n → n < 10 ^ 7
scalar_small n is = elim (scalar_cases n is) [ inl low ↦ omega arith | inr high ↦ omega (arith, high.1) ]

pub scalar_reader : IsReader scalar_of decimal IsScalar 7
unfolding scalar_of
scalar_reader = refined number_of decimal IsU32 10 number_reader scalar IsScalar (λ n. (λ h. h, λ h. h)) (λ n is. omega (arith, scalar_small n is)) 7
    (λ n is. length-decimal-le 7 n (lit< tt) (scalar_small n is) (omega (arith, scalar_small n is)))

switch_takes : (bytes : List ℕ) (on : Bool) → switch_of bytes ≡ Some on → Unit {0} × (bytes ≡ switch_text on)
unfolding switch_of
switch_takes bytes on e =
    elim (cases_Bool (bytes_eq bytes (codes "on"))) [
      | inl is_on ↦
          let same = (bytes_eq-Decides bytes (codes "on")).0 is_on in
          subst (λ b. Unit {0} × (bytes ≡ switch_text b)) (same_Some true on (sym (cond-true (bytes_eq bytes (codes "on")) _ _ is_on) ∙ e)) (tt, same)
      | inr other ↦
          let c = cond_some (bytes_eq bytes (codes "off")) false on (sym (cond-false (bytes_eq bytes (codes "on")) _ _ other) ∙ e) in
          subst (λ b. Unit {0} × (bytes ≡ switch_text b)) c.1 (tt, (bytes_eq-Decides bytes (codes "off")).0 c.0)
    ]

pub switch_reader : IsReader switch_of switch_text (λ on. Unit {0}) 3
unfolding switch_of
switch_reader = record {
  takes = switch_takes;
  again = elim [ true ↦ λ is. refl | false ↦ λ is. refl ];
  one_line = elim [ true ↦ λ is. refl | false ↦ λ is. refl ];
  short = elim [ true ↦ λ is. lit≤ tt | false ↦ λ is. lit≤ tt ];
}

pub label_reader : IsReader label_of (λ label. label) IsLabelText 48
label_reader = record {
  takes = label_takes;
  again = label_again;
  one_line = λ label is. lacks-printable label (recursion_from_All IsPrintable label is.plain);
  short = λ label is. is.short;
}

-- ---- names

pub name_reader : IsReader name_of name_text IsName 21
unfolding name_of
name_reader =
    let parts = pair_reader 46 number_of decimal IsU32 10 number_reader number_of decimal IsU32 10 number_reader (lacks-decimal 46 (lit≤ tt)) refl in
    record {
      takes = λ bytes name e.
          let b = bind_some (pair_of 46 number_of number_of bytes) (λ x. Some (record { site = x.0; number = x.1 })) name e in
          subst (λ (n : Name). IsName n × (bytes ≡ name_text n)) (same_Some _ name b.2) (parts.takes bytes b.0 b.1);
      again = λ name is. rw (parts.again (name.site, name.number) is) refl;
      one_line = λ name is. parts.one_line (name.site, name.number) is;
      short = λ name is. parts.short (name.site, name.number) is;
    }

pub name_field : IsField 32 name_text IsName
name_field name is = lacks-append 32 (decimal name.site) (46 ∷ decimal name.number) (lacks-decimal 32 (lit≤ tt) name.site is.0) (lacks-decimal 32 (lit≤ tt) name.number is.1)

-- ---- signed numbers

-- what a minus comes before
abbrev below : ℕ → Option ℤ
below n = cond (ltb 0 n && leb n (2 ^ 31)) (Some (neg_ℤ (pos n))) None

below_takes : (n : ℕ) (z : ℤ) → below n ≡ Some z → IsInt z × (45 ∷ decimal n ≡ signed_decimal z)
below_takes zero z e = absurd cc
below_takes (suc n) z e =
    let c = cond_some (ltb 0 (suc n) && leb (suc n) (2 ^ 31)) (negsuc n) z e in
    let b = and_parts (ltb 0 (suc n)) (leb (suc n) (2 ^ 31)) c.0 in
    subst (λ y. IsInt y × (45 ∷ decimal (suc n) ≡ signed_decimal y)) c.1 (record { sfits = omega (arith, leb-true (suc n) (2 ^ 31) b.1) }, refl)

from_zero_takes : (n : ℕ) (z : ℤ) → cond (ltb n (2 ^ 31)) (Some (pos n)) None ≡ Some z → IsInt z × (decimal n ≡ signed_decimal z)
from_zero_takes n z e =
    let c = cond_some (ltb n (2 ^ 31)) (pos n) z e in
    subst (λ y. IsInt y × (decimal n ≡ signed_decimal y)) c.1 (record { sfits = ltb-true n (2 ^ 31) c.0 }, refl)

int_takes : (bytes : List ℕ) (z : ℤ) → int_of bytes ≡ Some z → IsInt z × (bytes ≡ signed_decimal z)
unfolding int_of
int_takes [] z e =
    let x = bind_some (number_of []) (λ n. cond (ltb n (2 ^ 31)) (Some (pos n)) None) z e in
    let t = number_takes [] x.0 x.1 in
    absurd (omega (arith, ap length t.1, decimal_nonempty x.0 (omega (arith, t.0))))
int_takes (b ∷ bytes) z e =
    elim (cases_Bool (eqb b 45)) [
      | inl minus ↦
          let x = bind_some (number_of bytes) below z (sym (cond-true (eqb b 45) _ _ minus) ∙ e) in
          let t = number_takes bytes x.0 x.1 in
          let w = below_takes x.0 z x.2 in
          (w.0, ap (λ (c : ℕ). c ∷ bytes) (eqb-true b 45 minus) ∙ ap (λ (ds : List ℕ). 45 ∷ ds) t.1 ∙ w.1)
      | inr plain ↦
          let x = bind_some (number_of (b ∷ bytes)) (λ n. cond (ltb n (2 ^ 31)) (Some (pos n)) None) z (sym (cond-false (eqb b 45) _ _ plain) ∙ e) in
          let t = number_takes (b ∷ bytes) x.0 x.1 in
          let w = from_zero_takes x.0 z x.2 in
          (w.0, t.1 ∙ w.1)
    ]

-- a decimal begins with no minus
plain_head : (n : ℕ) → n < 2 ^ 32 → eqb (get_or (decimal n) 0 0) 45 ≡ false
plain_head n lt =
    let digit = digit_below (decimal n) 0 (digits_of_decimal n lt) (decimal_nonempty n (omega (arith, lt))) in
    ne_eqb (get_or (decimal n) 0 0) 45 (λ e. absurd (omega (arith, ap digit_value e, digit)))

int_again : (z : ℤ) → IsInt z → int_of (signed_decimal z) ≡ Some z
unfolding int_of
int_again (pos n) is =
    let small : n < 2 ^ 31 = is.sfits in
    rw (plain_head n (omega arith), number_again n (omega arith), lt-ltb n (2 ^ 31) small) refl
int_again (negsuc n) is =
    let small : n < 2 ^ 31 = is.sfits in
    let passes : (ltb 0 (suc n) && leb (suc n) (2 ^ 31)) ≡ true = and_from (ltb 0 (suc n)) (leb (suc n) (2 ^ 31)) (lt-ltb 0 (suc n) (omega arith)) (le-leb (suc n) (2 ^ 31) (omega arith)) in
    rw (number_again (suc n) (omega arith), passes) refl

-- what reads the one spelling reads so
pub int_is : (bytes : List ℕ) (r : Option ℤ) → IsReadingOf signed_decimal IsInt bytes r → r ≡ int_of bytes
int_is bytes (Some z) read = sym (ap int_of read.1 ∙ int_again z read.0)
int_is bytes None none = sym (none_from (int_of bytes) (λ z e. let t = int_takes bytes z e in none z t.0 t.1))

pub int_reader : IsReader int_of signed_decimal IsInt 11
int_reader = record {
  takes = int_takes;
  again = int_again;
  one_line = elim [ pos n ↦ λ is. lacks-decimal 10 (lit≤ tt) n (omega (arith, is.sfits)) | negsuc n ↦ λ is. lacks-decimal 10 (lit≤ tt) (suc n) (omega (arith, is.sfits)) ];
  short = elim [ pos n ↦ λ is. omega (arith, length-decimal-le 10 n (lit< tt) (omega (arith, is.sfits)) (omega (arith, is.sfits))) | negsuc n ↦ λ is. omega (arith, length-decimal-le 10 (suc n) (lit< tt) (omega (arith, is.sfits)) (omega (arith, is.sfits))) ];
}

pub int_field : IsField 32 signed_decimal IsInt
int_field = elim [ pos n ↦ λ is. lacks-decimal 32 (lit≤ tt) n (omega (arith, is.sfits)) | negsuc n ↦ λ is. lacks-decimal 32 (lit≤ tt) (suc n) (omega (arith, is.sfits)) ]

-- Operations on sequences and settings as fields.

pub number_field : IsField 32 decimal IsU32
number_field = lacks-decimal 32 (lit≤ tt)

pub id_field : IsField 32 decimal IsId
id_field n lt = lacks-decimal 32 (lit≤ tt) n (omega (arith, lt))

-- a test for one whole word, and another reader if it fails
pub word_or : {B : Type 0} (text : B → List ℕ) (Is : B → Type 0) (word : List ℕ) (b : B) → Is b → word ≡ text b → (other : Option B) (bytes : List ℕ) (x : B)
    → (other ≡ Some x → Is x × (bytes ≡ text x)) → cond (bytes_eq bytes word) (Some b) other ≡ Some x → Is x × (bytes ≡ text x)
word_or text Is word b is spelled other bytes x takes e =
    elim (cases_Bool (bytes_eq bytes word)) [
      | inl same ↦ subst (λ y. Is y × (bytes ≡ text y)) (same_Some b x (sym (cond-true (bytes_eq bytes word) (Some b) other same) ∙ e)) (is, (bytes_eq-Decides bytes word).0 same ∙ spelled)
      | inr differs ↦ takes (sym (cond-false (bytes_eq bytes word) (Some b) other differs) ∙ e)
    ]

-- ---- operations on a text or a list

abbrev pub seq_text : {V : Type 0} → (V → List ℕ) → SeqOp V → List ℕ
seq_text text op = join_with_byte 32 (seq_fields text op)

abbrev pub set_text : {V : Type 0} → (V → List ℕ) → SetOp V → List ℕ
set_text text op = join_with_byte 32 (set_fields text op)

pub deletion_reader : IsReader (pair_of 32 number_of name_of) (λ x. decimal x.0 ++ 32 ∷ name_text x.1) (λ x. IsU32 x.0 × IsName x.1) 32
deletion_reader = pair_reader 32 number_of decimal IsU32 10 number_reader name_of name_text IsName 21 name_reader number_field refl

module _ {V : Type 0} (value : List ℕ → Option V) (text : V → List ℕ) (IsValue : V → Type 0) (limit : ℕ) (reader : IsReader value text IsValue limit) where
  -- a place, a name and a value, as an insertion and a relabel have them
  valued_reader : IsReader (pair_of 32 number_of (pair_of 32 name_of value)) (λ x. decimal x.0 ++ 32 ∷ (name_text x.1.0 ++ 32 ∷ text x.1.1)) (λ x. IsU32 x.0 × (IsName x.1.0 × IsValue x.1.1)) (33 + limit)
  valued_reader =
      let named = pair_reader 32 name_of name_text IsName 21 name_reader value text IsValue limit reader name_field refl in
      let placed = pair_reader 32 number_of decimal IsU32 10 number_reader (pair_of 32 name_of value) (λ x. name_text x.0 ++ 32 ∷ text x.1) (λ x. IsName x.0 × IsValue x.1) (22 + limit) named number_field refl in
      within (33 + limit) (omega arith) placed

  seq_takes : (bytes : List ℕ) (op : SeqOp V) → seq_of value bytes ≡ Some op → IsSeqOp IsValue op × (bytes ≡ seq_text text op)
  unfolding seq_of insert_of delete_of relabel_of
  seq_takes bytes op e =
      let table : List (List ℕ × (List ℕ → Option (SeqOp V))) = (codes "ins", insert_of value) ∷ (codes "del", delete_of) ∷ (codes "rel", relabel_of value) ∷ [] in
      word_or (seq_text text) (IsSeqOp IsValue) (codes "no") seq.Nothing tt refl (headed_by table bytes) bytes op
      (headed_takes (seq_text text) (IsSeqOp IsValue) table (
        behind (codes "ins") (pair_of 32 number_of (pair_of 32 name_of value)) _ _ _ valued_reader (λ x. seq.Insert x.0 (record { name = x.1.0; value = x.1.1 })) (seq_text text) (IsSeqOp IsValue) (λ x is. (is, refl)),
        (
          behind (codes "del") (pair_of 32 number_of name_of) _ _ _ deletion_reader (λ x. seq.Delete x.0 x.1) (seq_text text) (IsSeqOp IsValue) (λ x is. (is, refl)),
          (
            behind (codes "rel") (pair_of 32 number_of (pair_of 32 name_of value)) _ _ _ valued_reader (λ x. seq.Relabel x.0 x.1.0 x.1.1) (seq_text text) (IsSeqOp IsValue) (λ x is. (is, refl)),
            tt,
          ),
        ),
      ) bytes op) e

  seq_again : (op : SeqOp V) → IsSeqOp IsValue op → seq_of value (seq_text text op) ≡ Some op
  unfolding seq_of insert_of delete_of relabel_of split_of
  seq_again (seq.Insert place item) is = rw (valued_reader.again (place, (item.name, item.value)) is) refl
  seq_again (seq.Delete place name) is = rw (deletion_reader.again (place, name) is) refl
  seq_again (seq.Relabel place name value) is = rw (valued_reader.again (place, (name, value)) is) refl
  seq_again seq.Nothing is = refl

  pub seq_reader : IsReader (seq_of value) (seq_text text) (IsSeqOp IsValue) (37 + limit)
  seq_reader = record {
    takes = seq_takes;
    again = seq_again;
    one_line = elim [
      | seq.Insert place item ↦ λ is. valued_reader.one_line (place, (item.name, item.value)) is
      | seq.Delete place name ↦ λ is. deletion_reader.one_line (place, name) is
      | seq.Relabel place name value ↦ λ is. valued_reader.one_line (place, (name, value)) is
      | seq.Nothing ↦ λ is. refl
    ];
    short = elim [
      | seq.Insert place item ↦ λ is. omega (arith, valued_reader.short (place, (item.name, item.value)) is)
      | seq.Delete place name ↦ λ is. omega (arith, deletion_reader.short (place, name) is)
      | seq.Relabel place name value ↦ λ is. omega (arith, valued_reader.short (place, (name, value)) is)
      | seq.Nothing ↦ λ is. omega arith
    ];
  }

  -- ---- settings

  set_takes : (bytes : List ℕ) (op : SetOp V) → set_of value bytes ≡ Some op → IsSetOp IsValue op × (bytes ≡ set_text text op)
  unfolding set_of
  set_takes bytes op e =
      let table : List (List ℕ × (List ℕ → Option (SetOp V))) = (codes "set", λ rest. value rest >>= λ x. Some (set.Set x)) ∷ [] in
      word_or (set_text text) (IsSetOp IsValue) (codes "no") set.Nothing tt refl (headed_by table bytes) bytes op
      (headed_takes (set_text text) (IsSetOp IsValue) table (behind (codes "set") value text IsValue limit reader set.Set (set_text text) (IsSetOp IsValue) (λ x is. (is, refl)), tt) bytes op) e

  pub set_reader : IsReader (set_of value) (set_text text) (IsSetOp IsValue) (4 + limit)
  unfolding set_of split_of
  set_reader = record {
    takes = set_takes;
    again = elim [ set.Set x ↦ λ is. rw (reader.again x is) refl | set.Nothing ↦ λ is. refl ];
    one_line = elim [ set.Set x ↦ λ is. reader.one_line x is | set.Nothing ↦ λ is. refl ];
    short = elim [ set.Set x ↦ λ is. omega (arith, reader.short x is) | set.Nothing ↦ λ is. omega arith ];
  }

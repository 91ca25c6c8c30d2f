-- The file of a board's keys: what is read is what is spelled.
use Rattle.std.proofs.Common.{◌≡◌, ◌≢◌, ℕ, List, [], ◌∷◌, ◌++◌, Option, Some, None, length, append_assoc, sym, ap, subst, ◌∙◌, arith, inl, inr, codes, decimal, MatchOption}
use Rattle.std.specs.Str.Parse.{digits_value}
use Rattle.std.proofs.lemmas.List.{append_cancel_left, append_cancel_right}
use Rattle.std.proofs.lemmas.List.Elements.{recursion_from_All}
use Rattle.hex.specs.Hex.{lower_digits, encode_lower, IsBytes}
use Rattle.hex.proofs.HexLemmas.{length-encode_with}
use Rattle.jup_number.specs.Numbers.{IsU32, IsReadingOf}
use Rattle.jup_number.proofs.Numbers.{decimal_digits}
use Rattle.jup_resume.specs.Texts.{Lacks, IsCut}
use Rattle.jup_resume.specs.Tokens.{IsTokenDigit}
use Rattle.jup_resume.proofs.Texts.{all_both, whole_lacks}
use Rattle.jup_resume.proofs.Digits.{digits_of_bytes}
use Rattle.jup_resume.proofs.Readings.{decimal_lacks, number_lacks}
use Rattle.jup_keys.specs.Digests.{derived_text, IsHashText}
use Rattle.jup_keys.specs.Keyrings.{Keyring, IsKeyNumber, numbered_text, IsNumbered, own_line, numbered_line, lower_lines, AreNumbered, keyring_lines, keyring_text, IsKeyring}
use Rattle.jup_keys.proofs.Readings.{none_itself, parts_of, others_lack}

-- A hash.

pub hash_of_bytes : (bytes digits : List ℕ) → digits ≡ encode_lower bytes → length bytes ≡ 32 → IsBytes bytes → IsHashText digits
hash_of_bytes bytes digits spelled long is = rw spelled (record {
  long = let all = length-encode_with lower_digits bytes in omega (arith, all, long);
  digits = digits_of_bytes bytes is;
})

digit_other : (b : ℕ) → IsTokenDigit b → b ≢ 10
digit_other b (inl digit) e = absurd (omega (arith, digit.0, e))
digit_other b (inr letter) e = absurd (omega (arith, letter.0, e))

hash_lacks : (hash : List ℕ) → IsHashText hash → Lacks 10 hash
hash_lacks hash is = others_lack IsTokenDigit 10 digit_other hash (recursion_from_All IsTokenDigit hash is.digits)

-- A message that comes in pieces.

pub message_of : (word space number gap key : List ℕ) (n : ℕ) → space ≡ 32 ∷ [] → number ≡ decimal n → gap ≡ 32 ∷ []
    → (((word ++ space) ++ number) ++ gap) ++ key ≡ derived_text word n key
message_of word space number gap key n space_is number_is gap_is = rw (space_is, number_is, gap_is)
    (append_assoc ((word ++ 32 ∷ []) ++ decimal n) (32 ∷ []) key ∙ append_assoc (word ++ 32 ∷ []) (decimal n) (32 ∷ key) ∙ append_assoc word (32 ∷ []) (decimal n ++ 32 ∷ key))

-- A number and a hash.

-- no number of keys is 0
pub none_zero : (digits : List ℕ) (number : ℕ) → number ≡ 0 → IsReadingOf decimal IsU32 digits (Some number) → IsReadingOf decimal IsKeyNumber digits None
none_zero digits number zero is = λ other counted same.
    let value = ap (digits_value 10) (sym is.1 ∙ same) in
    omega (arith, zero, value, (decimal_digits number is.0).1, (decimal_digits other counted.1).1, counted.0)

pub uncut_numbered : (fields : List ℕ) → Lacks 32 fields → IsReadingOf numbered_text IsNumbered fields None
uncut_numbered fields free = λ it is. whole_lacks 32 fields (decimal it.0) it.1 free

pub no_number : (fields before behind : List ℕ) → IsCut 32 fields before behind → IsReadingOf decimal IsKeyNumber before None → IsReadingOf numbered_text IsNumbered fields None
no_number fields before behind cut none = λ it is same. none it.0 is.0 (parts_of 32 fields before behind (decimal it.0) it.1 cut (number_lacks it.0 is.0.1) same).0

pub no_hash : (fields before behind : List ℕ) → IsCut 32 fields before behind → (IsHashText behind → ⊥) → IsReadingOf numbered_text IsNumbered fields None
no_hash fields before behind cut none = λ it is same.
    none_itself IsHashText behind none it.1 is.1 (parts_of 32 fields before behind (decimal it.0) it.1 cut (number_lacks it.0 is.0.1) same).1

-- A line with a heading.

pub own_read : (line rest : List ℕ) (read : Option (List ℕ)) → line ≡ codes "own " ++ rest
    → MatchOption read (IsHashText rest → ⊥) (λ hash. (hash ≡ rest) × IsHashText rest) → IsReadingOf own_line IsHashText line read
own_read line rest (Some hash) cut is = (subst IsHashText (sym is.0) is.1, cut ∙ ap own_line (sym is.0))
own_read line rest None cut none = λ hash is same. none_itself IsHashText rest none hash is (append_cancel_left (codes "own ") rest hash (sym cut ∙ same))

pub line_read : (heading line rest : List ℕ) (read : Option (ℕ × List ℕ)) → line ≡ heading ++ rest → IsReadingOf numbered_text IsNumbered rest read
    → IsReadingOf (numbered_line heading) IsNumbered line read
line_read heading line rest (Some it) cut is = (is.0, cut ∙ ap (λ fields. heading ++ fields) is.1)
line_read heading line rest None cut none = λ it is same. none it is (append_cancel_left heading rest (numbered_text it) (sym cut ∙ same))

-- The lines of the edit and the read key.

numbered_lacks : (it : ℕ × List ℕ) → IsNumbered it → Lacks 10 (numbered_text it)
numbered_lacks it is = all_both (λ b. b ≢ 10) (decimal it.0) (32 ∷ it.1) (decimal_lacks 10 (omega arith) it.0 is.0.1) (λ e. omega (arith, e), hash_lacks it.1 is.1)

edit_lacks : (it : ℕ × List ℕ) → IsNumbered it → Lacks 10 (numbered_line (codes "edit ") it)
edit_lacks it is = (λ e. omega (arith, e), (λ e. omega (arith, e), (λ e. omega (arith, e), (λ e. omega (arith, e), (λ e. omega (arith, e), numbered_lacks it is)))))

pub uncut_lower : (lines : List ℕ) → Lacks 10 lines → IsReadingOf lower_lines AreNumbered lines None
uncut_lower lines free = λ it is. whole_lacks 10 lines (numbered_line (codes "edit ") it.0) (numbered_line (codes "read ") it.1) free

pub no_edit : (lines before behind : List ℕ) → IsCut 10 lines before behind → IsReadingOf (numbered_line (codes "edit ")) IsNumbered before None → IsReadingOf lower_lines AreNumbered lines None
no_edit lines before behind cut none = λ it is same.
    none it.0 is.0 (parts_of 10 lines before behind (numbered_line (codes "edit ") it.0) (numbered_line (codes "read ") it.1) cut (edit_lacks it.0 is.0) same).0

pub no_read : (lines before behind : List ℕ) → IsCut 10 lines before behind → IsReadingOf (numbered_line (codes "read ")) IsNumbered behind None → IsReadingOf lower_lines AreNumbered lines None
no_read lines before behind cut none = λ it is same.
    none it.1 is.1 (parts_of 10 lines before behind (numbered_line (codes "edit ") it.0) (numbered_line (codes "read ") it.1) cut (edit_lacks it.0 is.0) same).1

-- The three lines.

own_lacks : (hash : List ℕ) → IsHashText hash → Lacks 10 (own_line hash)
own_lacks hash is = (λ e. omega (arith, e), (λ e. omega (arith, e), (λ e. omega (arith, e), (λ e. omega (arith, e), hash_lacks hash is))))

pub uncut_keyring : (lines : List ℕ) → Lacks 10 lines → IsReadingOf keyring_lines IsKeyring lines None
uncut_keyring lines free = λ keys is. whole_lacks 10 lines (own_line keys.own) (lower_lines ((keys.edits, keys.edit), (keys.reads, keys.read))) free

pub no_own : (lines own lower : List ℕ) → IsCut 10 lines own lower → IsReadingOf own_line IsHashText own None → IsReadingOf keyring_lines IsKeyring lines None
no_own lines own lower cut none = λ keys is same.
    none keys.own is.own (parts_of 10 lines own lower (own_line keys.own) (lower_lines ((keys.edits, keys.edit), (keys.reads, keys.read))) cut (own_lacks keys.own is.own) same).0

pub no_lower : (lines own lower : List ℕ) → IsCut 10 lines own lower → IsReadingOf lower_lines AreNumbered lower None → IsReadingOf keyring_lines IsKeyring lines None
no_lower lines own lower cut none = λ keys is same.
    none ((keys.edits, keys.edit), (keys.reads, keys.read)) ((is.edits, is.edit), (is.reads, is.read))
    (parts_of 10 lines own lower (own_line keys.own) (lower_lines ((keys.edits, keys.edit), (keys.reads, keys.read))) cut (own_lacks keys.own is.own) same).1

pub no_feed : (text : List ℕ) → ((front : List ℕ) → text ≢ front ++ 10 ∷ []) → IsReadingOf keyring_text IsKeyring text None
no_feed text none = λ keys is. none (keyring_lines keys)

pub keyring_read : (text lines : List ℕ) (read : Option Keyring) → text ≡ lines ++ 10 ∷ [] → IsReadingOf keyring_lines IsKeyring lines read → IsReadingOf keyring_text IsKeyring text read
keyring_read text lines (Some keys) cut is = (is.0, cut ∙ ap (λ front. front ++ 10 ∷ []) is.1)
keyring_read text lines None cut none = λ keys is same. none keys is (append_cancel_right lines (keyring_lines keys) (10 ∷ []) (sym cut ∙ same))

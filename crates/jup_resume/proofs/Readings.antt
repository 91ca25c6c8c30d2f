-- Notes: what is read is what is spelled.
use Rattle.std.proofs.Common.{◌≡◌, ◌≢◌, ℕ, ◌<◌, ◌≤◌, ◌^◌, List, [], ◌∷◌, ◌++◌, Bool, true, false, Option, Some, None, length, get_or, sym, ap, ◌∙◌, arith, append-nil, inl, inr, codes, decimal}
use Rattle.std.specs.List.{AllByRecursion}
use Rattle.std.proofs.lemmas.List.Elements.{recursion_from_All}
use Rattle.std.specs.Char.{digit_value}
use Rattle.std.specs.Str.Parse.{AllDigits}
use Rattle.jup_number.specs.Numbers.{IsReadingOf}
use Rattle.jup_number.proofs.Numbers.{decimal_digits}
use Rattle.jup_resume.specs.Texts.{Lacks, IsCut}
use Rattle.jup_resume.specs.Tokens.{IsTokenDigit, IsTokenText}
use Rattle.jup_resume.specs.Notes.{word_of, fields_of, note_text, waiting_text, IsNote, IsReadingBehind}
use Rattle.jup_resume.specs.declared.note.Note.{Note}
use Rattle.jup_resume.specs.declared.note.Note.TheVariants.{Hello, Link, Resume, Resumed, Ended, Got}
use Rattle.jup_resume.proofs.Texts.{cut_same, whole_lacks}

-- Fields without a space.

digits_lack : (byte : ℕ) → 10 ≤ digit_value byte → (bytes : List ℕ) → AllDigits 10 bytes → Lacks byte bytes
digits_lack byte none [] all = tt
digits_lack byte none (b ∷ bytes) all = (λ e. (let digit = all.0 in absurd (omega (arith, ap digit_value e, digit, none))), digits_lack byte none bytes all.1)

-- a number has no byte that is no digit
pub decimal_lacks : (byte : ℕ) → 10 ≤ digit_value byte → (n : ℕ) → n < 2 ^ 32 → Lacks byte (decimal n)
decimal_lacks byte none n small = digits_lack byte none (decimal n) (decimal_digits n small).0

pub number_lacks : (n : ℕ) → n < 2 ^ 32 → Lacks 32 (decimal n)
number_lacks = decimal_lacks 32 (omega arith)

no_space : (b : ℕ) → IsTokenDigit b → b ≢ 32
no_space b (inl number) e = absurd (omega (arith, number.0, e))
no_space b (inr letter) e = absurd (omega (arith, letter.0, e))

token_digits_lack : (bytes : List ℕ) → AllByRecursion IsTokenDigit bytes → Lacks 32 bytes
token_digits_lack [] all = tt
token_digits_lack (b ∷ bytes) all = (no_space b all.0, token_digits_lack bytes all.1)

pub token_lacks : (bytes : List ℕ) → IsTokenText bytes → Lacks 32 bytes
token_lacks bytes is = token_digits_lack bytes (recursion_from_All IsTokenDigit bytes is.digits)

pub word_lacks : (note : Note) → Lacks 32 (word_of note)
word_lacks Hello = (λ e. omega (arith, e), (λ e. omega (arith, e), (λ e. omega (arith, e), (λ e. omega (arith, e), (λ e. omega (arith, e), tt)))))
word_lacks (Link token seconds kept) = (λ e. omega (arith, e), (λ e. omega (arith, e), (λ e. omega (arith, e), (λ e. omega (arith, e), tt))))
word_lacks (Resume token taken) = (λ e. omega (arith, e), (λ e. omega (arith, e), (λ e. omega (arith, e), (λ e. omega (arith, e), (λ e. omega (arith, e), (λ e. omega (arith, e), tt))))))
word_lacks (Resumed taken) = (λ e. omega (arith, e), (λ e. omega (arith, e), (λ e. omega (arith, e), (λ e. omega (arith, e), (λ e. omega (arith, e), (λ e. omega (arith, e), (λ e. omega (arith, e), tt)))))))
word_lacks (Ended taken) = (λ e. omega (arith, e), (λ e. omega (arith, e), (λ e. omega (arith, e), (λ e. omega (arith, e), (λ e. omega (arith, e), tt)))))
word_lacks (Got taken) = (λ e. omega (arith, e), (λ e. omega (arith, e), (λ e. omega (arith, e), tt)))

-- For how many seconds a link waits, and what else its note says.

pub none_waiting : (fields : List ℕ) → Lacks 32 fields → ((n : ℕ) → n < 2 ^ 32 → fields ≢ decimal n)
    → (seconds : ℕ) (kept : Bool) → seconds < 2 ^ 32 → fields ≢ waiting_text (seconds, kept)
none_waiting fields lacks none seconds false small same = none seconds small (same ∙ append-nil (decimal seconds))
none_waiting fields lacks none seconds true small same = whole_lacks 32 fields (decimal seconds) (codes "kept") lacks same

pub none_cut_waiting : (fields before word : List ℕ) → IsCut 32 fields before word
    → ((n : ℕ) → n < 2 ^ 32 → before ≡ decimal n → word ≡ codes "kept" → ⊥)
    → (seconds : ℕ) (kept : Bool) → seconds < 2 ^ 32 → fields ≢ waiting_text (seconds, kept)
none_cut_waiting fields before word cut none seconds false small same =
    whole_lacks 32 (decimal seconds) before word (number_lacks seconds small) (sym (append-nil (decimal seconds)) ∙ sym same ∙ cut.whole)
none_cut_waiting fields before word cut none seconds true small same =
    let parts = cut_same 32 before (decimal seconds) word (codes "kept") cut.first (number_lacks seconds small) (sym cut.whole ∙ same) in
    none seconds small parts.0 parts.1

-- Fields behind a token.

pub no_token : (fields token more : List ℕ) → Lacks 32 fields → fields ≢ token ++ 32 ∷ more
no_token fields token more lacks same = whole_lacks 32 fields token more lacks same

pub behind_token : (fields before rest token more : List ℕ) → IsCut 32 fields before rest → IsTokenText token → fields ≡ token ++ 32 ∷ more
    → (before ≡ token) × (rest ≡ more)
behind_token fields before rest token more cut is same = cut_same 32 before token rest more cut.first (token_lacks token is) (sym cut.whole ∙ same)

-- Words.

pub differ : (a b : List ℕ) → (length a ≡ length b → get_or a 0 0 ≡ get_or b 0 0 → ⊥) → a ≢ b
differ a b h e = h (ap length e) (ap (λ l. get_or l 0 0) e)

pub none_link : (fields : List ℕ) → ((token : List ℕ) (seconds : ℕ) (kept : Bool) → IsTokenText token → seconds < 2 ^ 32 → fields ≢ token ++ 32 ∷ waiting_text (seconds, kept))
    → IsReadingBehind (codes "link") fields None
none_link fields none Hello is = absurd (differ (codes "hello") (codes "link") (λ long head. omega (arith, long)) is.1)
none_link fields none (Link token seconds kept) is = none token seconds kept is.0.0 is.0.1
none_link fields none (Resume token taken) is = absurd (differ (codes "resume") (codes "link") (λ long head. omega (arith, long)) is.1)
none_link fields none (Resumed taken) is = absurd (differ (codes "resumed") (codes "link") (λ long head. omega (arith, long)) is.1)
none_link fields none (Ended taken) is = absurd (differ (codes "ended") (codes "link") (λ long head. omega (arith, long)) is.1)
none_link fields none (Got taken) is = absurd (differ (codes "got") (codes "link") (λ long head. omega (arith, long)) is.1)

pub none_resume : (fields : List ℕ) → ((token : List ℕ) (taken : ℕ) → IsTokenText token → taken < 2 ^ 32 → fields ≢ token ++ 32 ∷ decimal taken)
    → IsReadingBehind (codes "resume") fields None
none_resume fields none Hello is = absurd (differ (codes "hello") (codes "resume") (λ long head. omega (arith, long)) is.1)
none_resume fields none (Link token seconds kept) is = absurd (differ (codes "link") (codes "resume") (λ long head. omega (arith, long)) is.1)
none_resume fields none (Resume token taken) is = none token taken is.0.0 is.0.1
none_resume fields none (Resumed taken) is = absurd (differ (codes "resumed") (codes "resume") (λ long head. omega (arith, long)) is.1)
none_resume fields none (Ended taken) is = absurd (differ (codes "ended") (codes "resume") (λ long head. omega (arith, long)) is.1)
none_resume fields none (Got taken) is = absurd (differ (codes "got") (codes "resume") (λ long head. omega (arith, long)) is.1)

pub read_whole : (text word fields : List ℕ) (read : Option Note) → IsCut 32 text word fields → IsReadingBehind word fields read → IsReadingOf note_text IsNote text read
read_whole text word fields (Some note) cut is = (is.0.0, cut.whole ∙ ap (λ w. w ++ 32 ∷ fields) (sym is.0.1) ∙ ap (λ f. word_of note ++ 32 ∷ f) is.1)
read_whole text word fields None cut none = λ note is same.
    let parts = cut_same 32 word (word_of note) fields (fields_of note) cut.first (word_lacks note) (sym cut.whole ∙ same) in
    none note (is, sym parts.0) parts.1

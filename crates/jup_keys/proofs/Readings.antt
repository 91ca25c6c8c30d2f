-- Notes: what is read is what is spelled.
use Rattle.std.proofs.Common.{◌≡◌, ◌≢◌, ℕ, List, [], ◌∷◌, ◌++◌, Option, Some, None, refl, sym, ap, subst, ◌∙◌, arith, inl, inr, codes, get_or}
use Rattle.std.specs.List.{AllByRecursion}
use Rattle.std.proofs.lemmas.List.Elements.{recursion_from_All}
use Rattle.jup_number.specs.Numbers.{IsReadingOf}
use Rattle.jup_resume.specs.Texts.{Lacks, IsCut}
use Rattle.jup_resume.specs.Tokens.{IsTokenText}
use Rattle.jup_resume.proofs.Texts.{cut_same, whole_lacks}
use Rattle.jup_resume.proofs.Readings.{differ, token_lacks}
use Rattle.jup_keys.specs.Ids.{IsIdLetter, IsIdText}
use Rattle.jup_keys.specs.Makings.{IsTemplateText}
use Rattle.jup_keys.specs.Rights.{right_word}
use Rattle.jup_keys.specs.Notes.{source_text, IsSource, made_fields, AreMadeFields, request_word, IsAlone, request_fields, HasFields, request_text, IsRequest, IsRequestBehind, answer_word, answer_fields, answer_text, IsAnswer, IsAnswerBehind, IsFirst}
use Rattle.jup_keys.specs.declared.right.Right.{Right}
use Rattle.jup_keys.specs.declared.right.Right.TheVariants.{Own, Edit, Read}
use Rattle.jup_keys.specs.declared.request.Source.{Source}
use Rattle.jup_keys.specs.declared.request.Source.TheVariants as source
use Rattle.jup_keys.specs.declared.request.Request.{Request}
use Rattle.jup_keys.specs.declared.request.Request.TheVariants.{Open, Make, Owner, Templates, News, Keys}
use Rattle.jup_keys.specs.declared.answer.Answer.{Answer}
use Rattle.jup_keys.specs.declared.answer.Answer.TheVariants.{May, MayMake, Run, Key, Create, Template}

-- Two texts with a separator between them.

-- a text that is no such text spells none
pub none_itself : (P : List ℕ → Type 0) (bytes : List ℕ) → (P bytes → ⊥) → (it : List ℕ) → P it → bytes ≢ it
none_itself P bytes none it is same = none (subst P (sym same) is)

-- what a cut text is, if it is these two
pub parts_of : (separator : ℕ) (bytes before behind front back : List ℕ) → IsCut separator bytes before behind → Lacks separator front
    → bytes ≡ front ++ separator ∷ back → (before ≡ front) × (behind ≡ back)
parts_of separator bytes before behind front back cut lacks same = cut_same separator before front behind back cut.first lacks (sym cut.whole ∙ same)

-- Fields have no space.

pub others_lack : (P : ℕ → Type 0) (byte : ℕ) → ((b : ℕ) → P b → b ≢ byte) → (bytes : List ℕ) → AllByRecursion P bytes → Lacks byte bytes
others_lack P byte other [] all = tt
others_lack P byte other (b ∷ bytes) all = (other b all.0, others_lack P byte other bytes all.1)

letter_other : (b : ℕ) → IsIdLetter b → b ≢ 32
letter_other b (inl letter) e = absurd (omega (arith, letter.0, e))
letter_other b (inr digit) e = absurd (omega (arith, digit.0, e))

id_lacks : (text : List ℕ) → IsIdText text → Lacks 32 text
id_lacks text is = others_lack IsIdLetter 32 letter_other text (recursion_from_All IsIdLetter text is.letters)

right_lacks : (right : Right) → Lacks 32 (right_word right)
right_lacks Own = (λ e. omega (arith, e), (λ e. omega (arith, e), (λ e. omega (arith, e), tt)))
right_lacks Edit = (λ e. omega (arith, e), (λ e. omega (arith, e), (λ e. omega (arith, e), (λ e. omega (arith, e), tt))))
right_lacks Read = (λ e. omega (arith, e), (λ e. omega (arith, e), (λ e. omega (arith, e), (λ e. omega (arith, e), tt))))

-- Notes of a client by their words.

request_lacks : (note : Request) → Lacks 32 (request_word note)
request_lacks (Open id key) = (λ e. omega (arith, e), (λ e. omega (arith, e), (λ e. omega (arith, e), (λ e. omega (arith, e), tt))))
request_lacks (Make id key from) = (λ e. omega (arith, e), (λ e. omega (arith, e), (λ e. omega (arith, e), (λ e. omega (arith, e), tt))))
request_lacks (Owner key) = (λ e. omega (arith, e), (λ e. omega (arith, e), (λ e. omega (arith, e), (λ e. omega (arith, e), (λ e. omega (arith, e), tt)))))
request_lacks Templates = (λ e. omega (arith, e), (λ e. omega (arith, e), (λ e. omega (arith, e), (λ e. omega (arith, e), (λ e. omega (arith, e), (λ e. omega (arith, e), (λ e. omega (arith, e), (λ e. omega (arith, e), (λ e. omega (arith, e), tt)))))))))
request_lacks News = (λ e. omega (arith, e), (λ e. omega (arith, e), (λ e. omega (arith, e), (λ e. omega (arith, e), tt))))
request_lacks Keys = (λ e. omega (arith, e), (λ e. omega (arith, e), (λ e. omega (arith, e), (λ e. omega (arith, e), tt))))

pub none_open : (fields : List ℕ) → ((id key : List ℕ) → IsIdText id → IsTokenText key → fields ≢ id ++ 32 ∷ key) → IsRequestBehind (codes "open") fields None
none_open fields none (Open id key) is = none id key is.0.0 is.0.1
none_open fields none (Make id key from) is = absurd (differ (codes "make") (codes "open") (λ long head. omega (arith, head)) is.1)
none_open fields none (Owner key) is = absurd (differ (codes "owner") (codes "open") (λ long head. omega (arith, long)) is.1)
none_open fields none Templates is = absurd is.0
none_open fields none News is = absurd is.0
none_open fields none Keys is = absurd is.0

pub none_make : (fields : List ℕ) → ((id : List ℕ) (made : List ℕ × Source) → IsIdText id → AreMadeFields made → fields ≢ id ++ 32 ∷ made_fields made) → IsRequestBehind (codes "make") fields None
none_make fields none (Open id key) is = absurd (differ (codes "open") (codes "make") (λ long head. omega (arith, head)) is.1)
none_make fields none (Make id key from) is = none id (key, from) is.0.0 is.0.1
none_make fields none (Owner key) is = absurd (differ (codes "owner") (codes "make") (λ long head. omega (arith, long)) is.1)
none_make fields none Templates is = absurd is.0
none_make fields none News is = absurd is.0
none_make fields none Keys is = absurd is.0

-- no fields of `open`, and of `make`: without a space, without an ID before it, or without the rest after it

pub uncut_open : (fields : List ℕ) → Lacks 32 fields → IsRequestBehind (codes "open") fields None
uncut_open fields free = none_open fields (λ id key is shown. whole_lacks 32 fields id key free)

pub no_id_open : (fields before behind : List ℕ) → IsCut 32 fields before behind → (IsIdText before → ⊥) → IsRequestBehind (codes "open") fields None
no_id_open fields before behind cut none = none_open fields (λ id key is shown same.
    none_itself IsIdText before none id is (parts_of 32 fields before behind id key cut (id_lacks id is) same).0)

pub no_key_open : (fields before behind : List ℕ) → IsCut 32 fields before behind → (IsTokenText behind → ⊥) → IsRequestBehind (codes "open") fields None
no_key_open fields before behind cut none = none_open fields (λ id key is shown same.
    none_itself IsTokenText behind none key shown (parts_of 32 fields before behind id key cut (id_lacks id is) same).1)

pub uncut_make : (fields : List ℕ) → Lacks 32 fields → IsRequestBehind (codes "make") fields None
uncut_make fields free = none_make fields (λ id made is makes. whole_lacks 32 fields id (made_fields made) free)

pub no_id_make : (fields before behind : List ℕ) → IsCut 32 fields before behind → (IsIdText before → ⊥) → IsRequestBehind (codes "make") fields None
no_id_make fields before behind cut none = none_make fields (λ id made is makes same.
    none_itself IsIdText before none id is (parts_of 32 fields before behind id (made_fields made) cut (id_lacks id is) same).0)

pub no_made_make : (fields before behind : List ℕ) → IsCut 32 fields before behind → IsReadingOf made_fields AreMadeFields behind None → IsRequestBehind (codes "make") fields None
no_made_make fields before behind cut none = none_make fields (λ id made is makes same.
    none made makes (parts_of 32 fields before behind id (made_fields made) cut (id_lacks id is) same).1)

-- What a board is made from.

pub no_source : (text : List ℕ) → text ≢ codes "-" → (IsTemplateText text → ⊥) → IsReadingOf source_text IsSource text None
no_source text other none (source.Template name) is = none_itself IsTemplateText text none name is
no_source text other none source.Printed is = other

pub uncut_made : (fields : List ℕ) → Lacks 32 fields → IsReadingOf made_fields AreMadeFields fields None
uncut_made fields free = λ made is. whole_lacks 32 fields made.0 (source_text made.1) free

pub no_key_made : (fields before behind : List ℕ) → IsCut 32 fields before behind → (IsTokenText before → ⊥) → IsReadingOf made_fields AreMadeFields fields None
no_key_made fields before behind cut none = λ made is same.
    none_itself IsTokenText before none made.0 is.0 (parts_of 32 fields before behind made.0 (source_text made.1) cut (token_lacks made.0 is.0) same).0

pub no_source_made : (fields before behind : List ℕ) → IsCut 32 fields before behind → IsReadingOf source_text IsSource behind None → IsReadingOf made_fields AreMadeFields fields None
no_source_made fields before behind cut none = λ made is same.
    none made.1 is.1 (parts_of 32 fields before behind made.0 (source_text made.1) cut (token_lacks made.0 is.0) same).1

-- A line of a client.

-- a note with fields is spelled by its word and its fields
spelled_behind : (note : Request) → HasFields note → IsRequest note × (request_word note ++ 32 ∷ request_fields note ≡ request_text note)
spelled_behind (Open id key) is = (is, refl)
spelled_behind (Make id key from) is = (is, refl)
spelled_behind (Owner key) is = (is, refl)
spelled_behind Templates is = absurd is
spelled_behind News is = absurd is
spelled_behind Keys is = absurd is

none_behind : (text word fields : List ℕ) → IsCut 32 text word fields → IsRequestBehind word fields None → IsReadingOf request_text IsRequest text None
none_behind text word fields cut none (Open id key) is same =
    let parts = parts_of 32 text word fields (codes "open") (id ++ 32 ∷ key) cut (request_lacks (Open id key)) same in
    none (Open id key) (is, sym parts.0) parts.1
none_behind text word fields cut none (Make id key from) is same =
    let parts = parts_of 32 text word fields (codes "make") (id ++ 32 ∷ made_fields (key, from)) cut (request_lacks (Make id key from)) same in
    none (Make id key from) (is, sym parts.0) parts.1
none_behind text word fields cut none (Owner key) is same =
    let parts = parts_of 32 text word fields (codes "owner") key cut (request_lacks (Owner key)) same in
    none (Owner key) (is, sym parts.0) parts.1
none_behind text word fields cut none Templates is same = whole_lacks 32 (codes "templates") word fields (request_lacks Templates) (sym same ∙ cut.whole)
none_behind text word fields cut none News is same = whole_lacks 32 (codes "news") word fields (request_lacks News) (sym same ∙ cut.whole)
none_behind text word fields cut none Keys is same = whole_lacks 32 (codes "keys") word fields (request_lacks Keys) (sym same ∙ cut.whole)

pub request_cut : (text word fields : List ℕ) (read : Option Request) → IsCut 32 text word fields → IsRequestBehind word fields read → IsReadingOf request_text IsRequest text read
request_cut text word fields (Some note) cut is =
    let whole = spelled_behind note is.0.0 in
    (whole.0, cut.whole ∙ ap (λ w. w ++ 32 ∷ fields) (sym is.0.1) ∙ ap (λ f. request_word note ++ 32 ∷ f) is.1 ∙ whole.1)
request_cut text word fields None cut none = none_behind text word fields cut none

-- a note without fields is spelled by its word
spelled_alone : (note : Request) → IsAlone note → IsRequest note × (request_word note ≡ request_text note)
spelled_alone (Open id key) is = absurd is
spelled_alone (Make id key from) is = absurd is
spelled_alone (Owner key) is = absurd is
spelled_alone Templates is = (tt, refl)
spelled_alone News is = (tt, refl)
spelled_alone Keys is = (tt, refl)

none_alone : (text : List ℕ) → Lacks 32 text → IsReadingOf request_word IsAlone text None → IsReadingOf request_text IsRequest text None
none_alone text free none (Open id key) is = whole_lacks 32 text (codes "open") (id ++ 32 ∷ key) free
none_alone text free none (Make id key from) is = whole_lacks 32 text (codes "make") (id ++ 32 ∷ made_fields (key, from)) free
none_alone text free none (Owner key) is = whole_lacks 32 text (codes "owner") key free
none_alone text free none Templates is = none Templates tt
none_alone text free none News is = none News tt
none_alone text free none Keys is = none Keys tt

pub request_uncut : (text : List ℕ) (read : Option Request) → Lacks 32 text → IsReadingOf request_word IsAlone text read → IsReadingOf request_text IsRequest text read
request_uncut text (Some note) free is = let whole = spelled_alone note is.0 in (whole.0, is.1 ∙ whole.1)
request_uncut text None free none = none_alone text free none

-- a line that begins as neither `open` and `owner`, nor `make`, nor `templates` is no first line
no_first : (text : List ℕ) (byte : ℕ) → get_or text 0 0 ≡ byte → byte ≢ 111 → byte ≢ 109 → byte ≢ 116 → (note : Request) → IsFirst note → IsRequest note → text ≢ request_text note
no_first text byte head o m t (Open id key) first is same = o (sym head ∙ ap (λ l. get_or l 0 0) same)
no_first text byte head o m t (Make id key from) first is same = m (sym head ∙ ap (λ l. get_or l 0 0) same)
no_first text byte head o m t (Owner key) first is same = o (sym head ∙ ap (λ l. get_or l 0 0) same)
no_first text byte head o m t Templates first is same = t (sym head ∙ ap (λ l. get_or l 0 0) same)
no_first text byte head o m t News first is same = absurd first
no_first text byte head o m t Keys first is same = absurd first

pub no_news : (note : Request) → IsFirst note → IsRequest note → codes "news" ≢ request_text note
no_news = no_first (codes "news") 110 refl (λ e. omega (arith, e)) (λ e. omega (arith, e)) (λ e. omega (arith, e))

pub no_keys : (note : Request) → IsFirst note → IsRequest note → codes "keys" ≢ request_text note
no_keys = no_first (codes "keys") 107 refl (λ e. omega (arith, e)) (λ e. omega (arith, e)) (λ e. omega (arith, e))

-- Notes of a server.

answer_lacks : (note : Answer) → Lacks 32 (answer_word note)
answer_lacks (May right) = (λ e. omega (arith, e), (λ e. omega (arith, e), (λ e. omega (arith, e), tt)))
answer_lacks MayMake = (λ e. omega (arith, e), (λ e. omega (arith, e), (λ e. omega (arith, e), tt)))
answer_lacks (Run name) = (λ e. omega (arith, e), (λ e. omega (arith, e), (λ e. omega (arith, e), tt)))
answer_lacks (Key right key) = (λ e. omega (arith, e), (λ e. omega (arith, e), (λ e. omega (arith, e), tt)))
answer_lacks (Create makers) = (λ e. omega (arith, e), (λ e. omega (arith, e), (λ e. omega (arith, e), (λ e. omega (arith, e), (λ e. omega (arith, e), (λ e. omega (arith, e), tt))))))
answer_lacks (Template name) = (λ e. omega (arith, e), (λ e. omega (arith, e), (λ e. omega (arith, e), (λ e. omega (arith, e), (λ e. omega (arith, e), (λ e. omega (arith, e), (λ e. omega (arith, e), (λ e. omega (arith, e), tt))))))))

pub none_key : (fields : List ℕ) → ((right : Right) (key : List ℕ) → IsTokenText key → fields ≢ right_word right ++ 32 ∷ key) → IsAnswerBehind (codes "key") fields None
none_key fields none (May right) is = absurd (differ (codes "may") (codes "key") (λ long head. omega (arith, head)) is.1)
none_key fields none MayMake is = absurd (differ (codes "may") (codes "key") (λ long head. omega (arith, head)) is.1)
none_key fields none (Run name) is = absurd (differ (codes "run") (codes "key") (λ long head. omega (arith, head)) is.1)
none_key fields none (Key right key) is = none right key is.0
none_key fields none (Create makers) is = absurd (differ (codes "create") (codes "key") (λ long head. omega (arith, long)) is.1)
none_key fields none (Template name) is = absurd (differ (codes "template") (codes "key") (λ long head. omega (arith, long)) is.1)

pub uncut_key : (fields : List ℕ) → Lacks 32 fields → IsAnswerBehind (codes "key") fields None
uncut_key fields free = none_key fields (λ right key is. whole_lacks 32 fields (right_word right) key free)

pub no_right_key : (fields before behind : List ℕ) → IsCut 32 fields before behind → IsReadingOf right_word (λ _. Unit {0}) before None → IsAnswerBehind (codes "key") fields None
no_right_key fields before behind cut none = none_key fields (λ right key is same.
    none right tt (parts_of 32 fields before behind (right_word right) key cut (right_lacks right) same).0)

pub no_key_key : (fields before behind : List ℕ) → IsCut 32 fields before behind → (IsTokenText behind → ⊥) → IsAnswerBehind (codes "key") fields None
no_key_key fields before behind cut none = none_key fields (λ right key is same.
    none_itself IsTokenText behind none key is (parts_of 32 fields before behind (right_word right) key cut (right_lacks right) same).1)

pub answer_cut : (text word fields : List ℕ) (read : Option Answer) → IsCut 32 text word fields → IsAnswerBehind word fields read → IsReadingOf answer_text IsAnswer text read
answer_cut text word fields (Some note) cut is = (is.0.0, cut.whole ∙ ap (λ w. w ++ 32 ∷ fields) (sym is.0.1) ∙ ap (λ f. answer_word note ++ 32 ∷ f) is.1)
answer_cut text word fields None cut none = λ note is same.
    let parts = parts_of 32 text word fields (answer_word note) (answer_fields note) cut (answer_lacks note) same in
    none note (is, sym parts.0) parts.1

-- The first bytes of a connection.
use Rattle.std.proofs.Common.{◌≡◌, ◌≢◌, ◌⊎◌, ℕ, ◌≤◌, List, [], ◌∷◌, ◌++◌, length, take, drop, refl, sym, ap, ◌∙◌, subst, inl, inr, append-nil, codes}
use Rattle.std.proofs.lemmas.List.{take-append-le, take-append-drop}
use Rattle.jup_resume.specs.Texts.{Lacks, IsCut}
use Rattle.jup_resume.specs.FirstLines.{BeginsWith, IsOfCarrier}
use Rattle.jup_resume.proofs.Texts.{all_left}
use Rattle.jup_links.specs.FirstBytes.{MayBeOfCarrier}

-- The first of some bytes, where no line feed is among them.

pub first_lack : (byte count : ℕ) (bytes : List ℕ) → Lacks byte bytes → Lacks byte (take count bytes)
first_lack byte count bytes lacks =
    all_left (λ b. b ≢ byte) (take count bytes) (drop count bytes) (subst (Lacks byte) (sym (take-append-drop count bytes)) lacks)

pub none_early : (count : ℕ) (bytes text rest : List ℕ) → IsCut 10 bytes text rest → count ≤ length text → Lacks 10 (take count bytes)
none_early count bytes text rest cut long =
    subst (Lacks 10) (sym (ap (take count) cut.whole ∙ take-append-le count text (10 ∷ rest) long)) (first_lack 10 count text cut.first)

-- Of two beginnings of the same bytes, one begins with the other.

behind : (x y : ℕ) (a c : List ℕ) → x ≡ y → BeginsWith a c ⊎ BeginsWith c a → BeginsWith (x ∷ a) (y ∷ c) ⊎ BeginsWith (y ∷ c) (x ∷ a)
behind x y a c same (inl begins) = inl (begins.0, (let is : c ≡ a ++ begins.0 = begins.1 in let whole : y ∷ c ≡ x ∷ (a ++ begins.0) = cc in whole))
behind x y a c same (inr begins) = inr (begins.0, (let is : a ≡ c ++ begins.0 = begins.1 in let whole : x ∷ a ≡ y ∷ (c ++ begins.0) = cc in whole))

two_beginnings : (a b c d : List ℕ) → a ++ b ≡ c ++ d → BeginsWith a c ⊎ BeginsWith c a
two_beginnings [] b c d same = inl (c, refl)
two_beginnings (x ∷ a) b [] d same = inr (x ∷ a, refl)
two_beginnings (x ∷ a) b (y ∷ c) d same =
    let head : x ≡ y = cc in
    let tail : a ++ b ≡ c ++ d = cc in
    behind x y a c head (two_beginnings a b c d tail)

neither : (A B : Type 0) → (A → ⊥) → (B → ⊥) → A ⊎ B → ⊥
neither A B one two (inl a) = one a
neither A B one two (inr b) = two b

-- bytes that neither begin so nor are the beginning of that
apart : (bytes front more rest : List ℕ) → (BeginsWith front bytes → ⊥) → (BeginsWith bytes front → ⊥) → bytes ++ more ≡ front ++ rest → ⊥
apart bytes front more rest other short same = neither (BeginsWith bytes front) (BeginsWith front bytes) short other (two_beginnings bytes more front rest same)

-- what is the beginning of a first line of protocol 4
abbrev pub IsBeginning : List ℕ → Type 0
IsBeginning bytes = BeginsWith bytes (codes "hello 4") ⊎ BeginsWith bytes (codes "resume ")

pub may_be : (bytes : List ℕ) → IsBeginning bytes → MayBeOfCarrier bytes
may_be bytes (inl begins) = (begins.0, inl ([], sym begins.1 ∙ sym (append-nil (codes "hello 4"))))
may_be bytes (inr begins) = (begins.0, inr ([], sym begins.1 ∙ sym (append-nil (codes "resume "))))

never : (bytes more : List ℕ) → (IsOfCarrier bytes → ⊥) → (IsBeginning bytes → ⊥) → IsOfCarrier (bytes ++ more) → ⊥
never bytes more other short (inl is) = apart bytes (codes "hello 4") more is.0 (λ b. other (inl b)) (λ b. short (inl b)) is.1
never bytes more other short (inr is) = apart bytes (codes "resume ") more is.0 (λ b. other (inr b)) (λ b. short (inr b)) is.1

pub cannot_be : (bytes : List ℕ) → (IsOfCarrier bytes → ⊥) → (IsBeginning bytes → ⊥) → MayBeOfCarrier bytes → ⊥
cannot_be bytes other short may = never bytes may.0 other short may.1

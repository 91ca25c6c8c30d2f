-- How bytes that were typed go to a line.
use Rattle.std.proofs.Common.{◌≡◌, ◌≢◌, ◌∙◌, ℕ, List, [], ◌∷◌, ◌++◌, Option, refl, sym, ap, subst, append_assoc, append-nil}
use Rattle.std.specs.List.{All}
use Rattle.std.proofs.lemmas.List.Elements.{All-append, All-cons, All-nil}
use Rattle.jup_client.specs.Clients.{typed_on}
use Rattle.jup_cli.specs.Typing.{Typing, typing, typed_all, IsWithin, MovesOn, EndsLine, UsesUp}

-- meanwhile some bytes went to the line
abbrev pub Fills : Typing → Typing → Type 0
Fills a b = (bytes : List ℕ) × (a.rest ≡ bytes ++ b.rest) × MovesOn a bytes b

typed_all-snoc : (line : Option (List ℕ)) (bytes : List ℕ) (byte : ℕ) → typed_all line (bytes ++ byte ∷ []) ≡ typed_on (typed_all line bytes) byte
typed_all-snoc line [] byte = refl
typed_all-snoc line (first ∷ bytes) byte = typed_all-snoc (typed_on line first) bytes byte

pub fills_none : (a : Typing) → Fills a a
fills_none a = ([], refl, record { within = All-nil (λ (byte : ℕ). byte ≢ 10); line = refl; over = refl })

-- one more byte goes to the line
pub fills_byte : (a b c : Typing) (byte : ℕ) (line : Option (List ℕ)) → Fills a b → b ≡ typing c.line (byte ∷ c.rest) c.over → byte ≢ 10 → line ≡ typed_on c.line byte
    → Fills a (typing line c.rest c.over)
fills_byte a b c byte line filled is other typed =
    let (bytes, rest, moved) = filled in (
      bytes ++ byte ∷ [],
      rest ∙ ap (λ (t : Typing). bytes ++ t.rest) is ∙ sym (append_assoc bytes (byte ∷ []) c.rest),
      record {
        within = All-append (λ (byte : ℕ). byte ≢ 10) bytes (byte ∷ []) moved.within (All-cons (λ (byte : ℕ). byte ≢ 10) byte [] other (All-nil (λ (byte : ℕ). byte ≢ 10)));
        line = typed ∙ ap (λ (l : Option (List ℕ)). typed_on l byte) (sym (ap (λ (t : Typing). t.line) is) ∙ moved.line) ∙ sym (typed_all-snoc a.line bytes byte);
        over = sym (ap (λ (t : Typing). t.over) is) ∙ moved.over;
      },
    )

-- a line feed ends the line
pub fills_line : (a b c : Typing) (byte : ℕ) → Fills a b → b ≡ typing c.line (byte ∷ c.rest) c.over → byte ≡ 10 → EndsLine a c
fills_line a b c byte filled is end =
    let (bytes, rest, moved) = filled in (
      bytes,
      rest ∙ ap (λ (t : Typing). bytes ++ t.rest) is ∙ ap (λ (byte : ℕ). bytes ++ byte ∷ c.rest) end,
      record {
        within = moved.within;
        line = sym (ap (λ (t : Typing). t.line) is) ∙ moved.line;
        over = sym (ap (λ (t : Typing). t.over) is) ∙ moved.over;
      },
    )

-- no byte is left
pub fills_all : (a b : Typing) → Fills a b → b.rest ≡ [] → UsesUp a b
fills_all a b filled none =
    let (bytes, rest, moved) = filled in
    let all : bytes ≡ a.rest = sym (rest ∙ ap (λ (l : List ℕ). bytes ++ l) none ∙ append-nil bytes) in
    (none, subst (λ (l : List ℕ). MovesOn a l b) all moved)

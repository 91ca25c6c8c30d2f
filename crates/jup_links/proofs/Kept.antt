-- How many bytes lines have that are kept.
use Rattle.std.proofs.Common.{◌≡◌, ℕ, ◌+◌, ◌-◌, List, [], ◌∷◌, ◌++◌, length, take, refl, ap, ◌∙◌, arith}
use Rattle.std.proofs.lemmas.List.{flat_map_more, length-append, take-append-le, take_all}
use Rattle.jup_resume.specs.Texts.{Text, spelled}
use Rattle.jup_resume.specs.Keepers.{size_of}
use Rattle.std.specs.List.{flat_map}

-- one more line
pub size_of_put : (texts : List Text) (text : Text) → size_of (texts ++ text ∷ []) ≡ size_of texts + length text + 1
size_of_put texts text =
    omega (arith, ap length (flat_map_more spelled [] texts text), length-append (flat_map spelled texts) (spelled text), length-append text (10 ∷ []))

-- no line has no bytes
pub nothing_has_size : (texts : List Text) → size_of texts ≡ 0 → texts ≡ []
nothing_has_size [] none = refl
nothing_has_size (text ∷ texts) none = absurd (omega (arith, none, length-append (spelled text) (flat_map spelled texts), length-append text (10 ∷ [])))

-- the text is before the last byte of its line
pub text_of_line : (text line : List ℕ) (count : ℕ) → line ≡ spelled text → count ≡ length line - 1 → take count line ≡ text
text_of_line text line count whole is =
    let long = ap length whole ∙ length-append text (10 ∷ []) in
    ap (take count) whole ∙ take-append-le count text (10 ∷ []) (omega (arith, is, long)) ∙ take_all count text (omega (arith, is, long))

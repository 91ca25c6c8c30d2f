-- Captions that are read one after another.
use Rattle.std.proofs.Common.{◌≡◌, ◌∙◌, refl, sym, ap, ℕ, List, [], ◌∷◌, ◌++◌, append_assoc, append-nil}
use Rattle.std.specs.List.{flat_map, AllByRecursion}
use Rattle.std.proofs.lemmas.List.Concat.{flat_map-append}
use Rattle.jup_service.specs.Servers.{IsCaption, AreCaptionsTo}

all_more : (lines : List (List ℕ)) (line : List ℕ) → AllByRecursion IsCaption lines → IsCaption line → AllByRecursion IsCaption (lines ++ line ∷ [])
all_more [] line each more = (more, tt)
all_more (x ∷ xs) line each more = (each.0, all_more xs line each.1 more)

pub read_none : (text : List ℕ) → AreCaptionsTo text text
read_none text = record { lines = []; spelled = refl; each = tt }

pub read_more : (text rest line later : List ℕ) → AreCaptionsTo text rest → rest ≡ line ++ 10 ∷ later → IsCaption line → AreCaptionsTo text later
read_more text rest line later read next more =
    let ended : List ℕ → List ℕ = λ it. it ++ 10 ∷ [] in
    let one : flat_map ended (read.lines ++ line ∷ []) ≡ flat_map ended read.lines ++ (line ++ 10 ∷ []) =
    flat_map-append ended read.lines (line ∷ []) ∙ ap (λ (t : List ℕ). flat_map ended read.lines ++ t) (append-nil (line ++ 10 ∷ [])) in
    let here : rest ≡ (line ++ 10 ∷ []) ++ later = next ∙ sym (append_assoc line (10 ∷ []) later) in
    record {
      lines = read.lines ++ line ∷ [];
      spelled = read.spelled ∙ ap (λ (t : List ℕ). flat_map ended read.lines ++ t) here ∙ sym (append_assoc (flat_map ended read.lines) (line ++ 10 ∷ []) later) ∙ ap (λ (t : List ℕ). t ++ later) (sym one);
      each = all_more read.lines line read.each more;
    }

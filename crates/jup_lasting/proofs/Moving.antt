-- What the client's end of a link makes of bytes, and what it hands to a connection, line by line.
use Rattle.std.proofs.Common.{◌≡◌, List, [], ◌∷◌, ◌++◌, ℕ, ◌+◌, ◌≤◌, length, take, drop, refl, sym, ap, ◌∙◌, subst, arith, append-nil, length-append, take-take, length-take-le, take-append-drop}
use Rattle.std.specs.List.{concat}
use Rattle.std.proofs.lemmas.List.Folds.{concat-append}
use Rattle.std.proofs.lemmas.Slice.{take-put_mid}
use Rattle.std.proofs.Math.Seq.{take-append-add}
use borrow.Rule.Slice.PartMut.{put_mid}
use Rattle.jup_resume.specs.Takers.{Taking, Brings}
use Rattle.jup_resume.specs.declared.taker.Arrival.{Arrival}
use Rattle.jup_lasting.specs.declared.link.Heard.{Heard}
use Rattle.jup_lasting.specs.Links.{Link, HearsIn, HearsPiece, IsBegun, MovesSome, Moves, MovesLines}

-- a piece was heard by what it brought
pub piece_heard : (piece rest : List ℕ) (a b : Link) (down : Taking) (arrival : Arrival) (h : Heard) (d : Link) → b ≡ a → Brings b.down.part piece arrival down.part rest
    → down.taken ≡ b.down.taken → HearsIn b.carriage arrival (record b { down = down }) h d → HearsPiece piece a h rest d
piece_heard piece rest a b down arrival h d same brings taken hears =
    subst (λ (c : Link). HearsPiece piece c h rest d) same
    (arrival, down.part, brings, subst (λ (n : ℕ). HearsIn b.carriage arrival (record b { down = record { part = down.part; taken = n } }) h d) taken hears)

-- one piece more
pub moves_more : (pieces : List (List ℕ)) (bytes : List ℕ) (a b c : Link) → Moves pieces a b → MovesSome bytes b c → Moves (pieces ++ bytes ∷ []) a c
moves_more [] bytes a b c same some = (c, subst (λ (l : Link). MovesSome bytes l c) same some, refl)
moves_more (first ∷ pieces) bytes a b c moves some = (moves.0, moves.1, moves_more pieces bytes moves.0 b c moves.2 some)

-- the first of some bytes, after more were put behind a place
mid_taken : (a k n : ℕ) (xs ys : List ℕ) → a ≤ length xs → n ≤ length ys → take (a + n) (put_mid a k xs ys) ≡ take a xs ++ take n ys
mid_taken a k n xs ys within fits =
    sym (take-take (a + n) (a + length ys) (put_mid a k xs ys) (omega (arith, fits)))
    ∙ ap (take (a + n)) (take-put_mid a k xs ys (a + length ys) refl within)
    ∙ ap (λ m. take (m + n) (take a xs ++ ys)) (sym (length-take-le a xs within))
    ∙ take-append-add (take a xs) ys n

pub mid_long : (a k n : ℕ) (xs ys : List ℕ) → a ≤ length xs → n ≤ length ys → a + n ≤ length (put_mid a k xs ys)
mid_long a k n xs ys within fits =
    let whole : length (put_mid a k xs ys) ≡ length (take a xs) + length (ys ++ drop k (drop a xs)) = length-append (take a xs) (ys ++ drop k (drop a xs)) in
    omega (arith, whole, length-append ys (drop k (drop a xs)), length-take-le a xs within, fits)

-- so many bytes more were moved out
pub lines_moved : (to more : List ℕ) (count k n : ℕ) (a b begun base d : Link) → MovesLines (take count to) a b → IsBegun b begun → base ≡ begun
    → d.waiting ≡ drop n base.waiting → take n more ≡ take n base.waiting → d ≡ record base { waiting = d.waiting } → count ≤ length to → n ≤ length more
    → MovesLines (take (count + n) (put_mid count k to more)) a d
lines_moved to more count k n a b begun base d moved begins same left out is within fits =
    let parts : base.waiting ≡ take n more ++ d.waiting =
    sym (take-append-drop n base.waiting) ∙ ap (λ bytes. bytes ++ drop n base.waiting) (sym out) ∙ ap (λ bytes. take n more ++ bytes) (sym left) in
    let some : MovesSome (take n more) b d = (base, subst (λ (l : Link). IsBegun b l) (sym same) begins, parts, is) in
    let bytes : take (count + n) (put_mid count k to more) ≡ concat (moved.0 ++ take n more ∷ []) =
    mid_taken count k n to more within fits
    ∙ ap (λ front. front ++ take n more) moved.2
    ∙ ap (λ rest. concat moved.0 ++ rest) (sym (append-nil (take n more)))
    ∙ sym (concat-append moved.0 (take n more ∷ [])) in
    (moved.0 ++ take n more ∷ [], moves_more moved.0 (take n more) a b d moved.1 some, bytes)

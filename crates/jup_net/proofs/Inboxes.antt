-- What is taken of an inbox: the front of what waits.
use Rattle.std.proofs.Common.{◌≡◌, ◌≤◌, ℕ, List, ◌++◌, length, sym, ap, ◌∙◌, arith, take, drop}
use Rattle.std.proofs.lemmas.List.{take-append-le, take-append-drop, take_all, length-take-le}

-- a piece that was taken of the front of some bytes is at the front of the room that it was put into, and the rest follows
pub taken_front : (len : ℕ) (front back all piece room rest : List ℕ) → front ++ back ≡ all → len ≤ length front → piece ≡ take len front → rest ≡ drop len all
    → all ≡ take len (piece ++ room) ++ rest
taken_front len front back all piece room rest parts fits piece_is rest_is =
    let long : length piece ≡ len = ap length piece_is ∙ length-take-le len front fits in
    let first : take len (piece ++ room) ≡ piece = take-append-le len piece room (omega (arith, long)) ∙ take_all len piece (omega (arith, long)) in
    let whole : take len all ≡ piece = ap (λ (l : List ℕ). take len l) (sym parts) ∙ (take-append-le len front back fits ∙ sym piece_is) in
    sym (take-append-drop len all) ∙ (ap (λ (l : List ℕ). l ++ drop len all) (whole ∙ sym first) ∙ ap (λ (l : List ℕ). take len (piece ++ room) ++ l) (sym rest_is))

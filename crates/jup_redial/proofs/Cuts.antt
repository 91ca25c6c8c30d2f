-- How long what is left of bytes is.
use Rattle.std.proofs.Common.{◌≡◌, ℕ, ◌+◌, ◌-◌, List, ◌∷◌, length, ap, arith, length-append}
use Rattle.jup_resume.specs.Texts.{IsCut}

-- the first line and its line feed, and what is behind them
pub cut_length : (bytes text rest : List ℕ) → IsCut 10 bytes text rest → (length bytes - length rest) + length rest ≡ length bytes
cut_length bytes text rest cut =
    let whole = ap length cut.whole in
    omega (arith, whole, length-append text (10 ∷ rest))

-- Batches that are sent.
use Rattle.std.proofs.Common.{◌≡◌, true, [], ◌∷◌, ◌≤◌, ap, refl, inl, inr, suc, length, arith, IsSomeAnd}
use Rattle.jup_window.specs.Laws.Operations.{valid-relabels_no_text}
use Rattle.jup_star.specs.Prelude.{BoardBatch, accepts, batch_laws, shape}
use Rattle.jup_batch.specs.Boards.{Windows, after}
use Rattle.jup_star.specs.declared.link.Link.{Link}
use Rattle.jup_star.specs.Messages.{RelabelNoText}
use Rattle.jup_star.specs.Stars.{HasRoom}
use Rattle.jup_batch.specs.Prelude.{AreValid, boards}

-- Batches that bear no relabel of a text.

pub valid_relabels : (os : BoardBatch) (b : Windows) → AreValid boards os b → RelabelNoText os
valid_relabels [] b h = tt
valid_relabels (o ∷ os) b h = (valid-relabels_no_text o b h.0, valid_relabels os (after (o ∷ []) b) h.1)

-- what a board accepts relabels no text
pub accepted_relabels : (os : BoardBatch) (b : Windows) → accepts os b ≡ true → RelabelNoText os
accepted_relabels os b h = valid_relabels os b ((batch_laws.decides os b).0 h).valid

-- Copies of batches that are about to be sent.

pub length_shape : (os : BoardBatch) → length (shape os) ≡ length os
length_shape [] = refl
length_shape (o ∷ os) = ap suc (length_shape os)

-- a link that has room for a batch of several operations has copies of its shape
pub copies_made : (os : BoardBatch) (l : Link) → HasRoom (shape os) l → 2 ≤ length os → IsSomeAnd l.copies (λ c. (shape os ≡ shape c.kept) × (shape os ≡ shape c.sent))
copies_made os l room several = elim room.copies [
  | inl one ↦ let e = length_shape os in absurd (omega (arith, one, several, e))
  | inr made ↦ made
]

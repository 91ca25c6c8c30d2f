-- Where messages end among the lines of a site.
use Rattle.std.specs.Prelude.{◌≡◌, ◌⊎◌, ℕ, zero, suc, List, codes, decimal}
use Rattle.jup_number.specs.Numbers.{IsU32}
use Rattle.jup_resume.specs.Texts.{IsCut}
use Rattle.jup_links.specs.declared.framing.Standing.{Standing}
use Rattle.jup_links.specs.declared.framing.Standing.TheVariants.{Within, EndsEdit, Alone}

-- the line begins an edit of so many lines more: its fields are `batch`, two others, and that number
pub record Announces (text : List ℕ) (count : ℕ) : Type 0 where
  pub fields : List ℕ
  pub first : List ℕ
  pub others : List ℕ
  pub heard : List ℕ
  pub word : IsCut 32 text (codes "batch") fields
  pub first_field : IsCut 32 fields first others
  pub heard_field : IsCut 32 others heard (decimal count)

-- the line begins no edit: it is a message of its own, or no session takes it
abbrev pub AnnouncesNone : List ℕ → Type 0
AnnouncesNone text = (count : ℕ) → IsU32 count → Announces text count → ⊥

-- so many lines of an edit are to come after a line between messages
abbrev pub BeginsAs : List ℕ → ℕ → Type 0
BeginsAs text left = ((left ≡ 0) × AnnouncesNone text) ⊎ (IsU32 left × Announces text left)

abbrev pub IsLeftAfter : ℕ → List ℕ → ℕ → Type 0
IsLeftAfter zero text left = BeginsAs text left
IsLeftAfter (suc more) text left = left ≡ more

-- the place of a line in its message: so many lines of an edit are to come before it, and so many after it
abbrev pub StandsAs : ℕ → ℕ → Standing → Type 0
StandsAs before (suc left) standing = standing ≡ Within
StandsAs zero zero standing = standing ≡ Alone
StandsAs (suc before) zero standing = standing ≡ EndsEdit

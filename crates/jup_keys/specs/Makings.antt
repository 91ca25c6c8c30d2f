-- What a board is made from, and those that may make one.
use Rattle.std.specs.Prelude.{◌≡◌, ◌⊎◌, ℕ, ◌≤◌, List, All, length, slice_index, codes}
use Rattle.jup_keys.specs.declared.makers.Makers.{Makers}
use Rattle.jup_keys.specs.declared.makers.Makers.TheVariants.{Anyone, Owner, Nobody}

-- `a` to `z`
abbrev pub IsFirstLetter : ℕ → Type 0
IsFirstLetter byte = (97 ≤ byte) × (byte ≤ 122)

-- `a` to `z`, `0` to `9`, or `-`
abbrev pub IsNameLetter : ℕ → Type 0
IsNameLetter byte = IsFirstLetter byte ⊎ (((48 ≤ byte) × (byte ≤ 57)) ⊎ (byte ≡ 45))

-- the name of a template: 1 to 32 such letters
pub record IsTemplateText (text : List ℕ) : Type 0 where
  pub some : 1 ≤ length text
  pub short : length text ≤ 32
  pub first : IsFirstLetter (slice_index text 0)
  pub letters : All IsNameLetter text

-- those that may make boards, as notes have them
abbrev pub makers_word : Makers → List ℕ
makers_word Anyone = codes "anyone"
makers_word Owner = codes "owner"
makers_word Nobody = codes "nobody"

-- What a key allows, and which keys it gives.
use Rattle.std.specs.Prelude.{ℕ, List, [], ◌∷◌, codes}
use Rattle.jup_keys.specs.Digests.{edit_key, read_key}
use Rattle.jup_keys.specs.declared.right.Right.{Right}
use Rattle.jup_keys.specs.declared.right.Right.TheVariants.{Own, Edit, Read}

-- a right gives another one: own gives edit, edit gives read, each gives itself, and none gives what is above it
abbrev pub Gives : Right → Right → Type 0
Gives Own needed = Unit {0}
Gives Edit Own = ⊥
Gives Edit Edit = Unit {0}
Gives Edit Read = Unit {0}
Gives Read Own = ⊥
Gives Read Edit = ⊥
Gives Read Read = Unit {0}

-- as files and notes have it
abbrev pub right_word : Right → List ℕ
right_word Own = codes "own"
right_word Edit = codes "edit"
right_word Read = codes "read"

-- the keys that a key of this right gives at these numbers of the edit and the read key, the highest first
abbrev pub given_keys : Right → List ℕ → ℕ → ℕ → List (Right × List ℕ)
given_keys Own key edits reads = (Own, key) ∷ (Edit, edit_key edits key) ∷ (Read, read_key reads (edit_key edits key)) ∷ []
given_keys Edit key edits reads = (Edit, key) ∷ (Read, read_key reads key) ∷ []
given_keys Read key edits reads = (Read, key) ∷ []

-- The keys that a key gives, and what is kept of a key.
use Rattle.std.specs.Prelude.{◌≡◌, ℕ, List, ◌∷◌, ◌++◌, All, length, take, codes, decimal, replicate}
use Rattle.hex.specs.Hex.{encode_lower}
use Rattle.sha2.specs.Sha256.{sha256}
use Rattle.jup_resume.specs.Tokens.{IsTokenDigit}

-- a word, a number and a key as it is spelled, with a space between them
abbrev pub derived_text : List ℕ → ℕ → List ℕ → List ℕ
derived_text word number key = word ++ 32 ∷ (decimal number ++ 32 ∷ key)

-- the first 16 bytes of the digest of that
abbrev pub derived_key : List ℕ → ℕ → List ℕ → List ℕ
derived_key word number key = encode_lower (take 16 (sha256 (derived_text word number key)))

-- the edit key of this number that an own key gives
abbrev pub edit_key : ℕ → List ℕ → List ℕ
edit_key number own = derived_key (codes "edit") number own

-- the read key of this number that an edit key gives
abbrev pub read_key : ℕ → List ℕ → List ℕ
read_key number edit = derived_key (codes "read") number edit

-- the digest of a board's ID and a key, with a space between them
abbrev pub hash_of : List ℕ → List ℕ → List ℕ
hash_of id key = encode_lower (sha256 (id ++ 32 ∷ key))

-- the digest of a key alone, by which a server knows its owner
abbrev pub owner_hash : List ℕ → List ℕ
owner_hash key = encode_lower (sha256 key)

-- the digest of 32 zeros, of which nobody knows what it is the digest of
abbrev pub zero_hash : List ℕ
zero_hash = encode_lower (replicate 32 0)

-- the spelling of a hash: 64 digits, as those of a token
pub record IsHashText (text : List ℕ) : Type 0 where
  pub long : length text ≡ 64
  pub digits : All IsTokenDigit text

-- What a board keeps of its keys.
use Rattle.std.specs.Prelude.{◌≡◌, ◌≢◌, ℕ, ◌+◌, ◌≤◌, List, ◌∷◌, ◌++◌, codes, decimal, Option, Some, None}
use Rattle.jup_number.specs.Numbers.{IsU32}
use Rattle.jup_resume.specs.Texts.{spelled}
use Rattle.jup_keys.specs.Digests.{edit_key, read_key, hash_of, zero_hash, IsHashText}
use Rattle.jup_keys.specs.declared.right.Right.{Right}
use Rattle.jup_keys.specs.declared.right.Right.TheVariants.{Own, Edit, Read}

-- the hash of each key, and the numbers by which the edit and the read key are made
pub record Keyring : Type 0 where
  pub own : List ℕ
  pub edits : ℕ
  pub edit : List ℕ
  pub reads : ℕ
  pub read : List ℕ

-- that of a board with this ID and own key, at these numbers
abbrev pub keyring_of : List ℕ → List ℕ → ℕ → ℕ → Keyring
keyring_of id own edits reads = record {
  own = hash_of id own;
  edits = edits;
  edit = hash_of id (edit_key edits own);
  reads = reads;
  read = hash_of id (read_key reads (edit_key edits own));
}

-- that of nobody
abbrev pub nobodys_keys : Keyring
nobodys_keys = record { own = zero_hash; edits = 1; edit = zero_hash; reads = 1; read = zero_hash }

-- a number of keys: from 1 on
abbrev pub IsKeyNumber : ℕ → Type 0
IsKeyNumber number = (1 ≤ number) × IsU32 number

-- the number after which no key is made
abbrev pub last_number : ℕ
last_number = 4294967295

-- it can be spelled
pub record IsKeyring (keys : Keyring) : Type 0 where
  pub own : IsHashText keys.own
  pub edits : IsKeyNumber keys.edits
  pub edit : IsHashText keys.edit
  pub reads : IsKeyNumber keys.reads
  pub read : IsHashText keys.read

-- a number and the hash of its key
abbrev pub numbered_text : ℕ × List ℕ → List ℕ
numbered_text it = decimal it.0 ++ 32 ∷ it.1

abbrev pub IsNumbered : ℕ × List ℕ → Type 0
IsNumbered it = IsKeyNumber it.0 × IsHashText it.1

abbrev pub own_line : List ℕ → List ℕ
own_line hash = codes "own " ++ hash

-- these behind a heading
abbrev pub numbered_line : List ℕ → ℕ × List ℕ → List ℕ
numbered_line heading it = heading ++ numbered_text it

-- the lines of the edit and the read key
abbrev pub lower_lines : (ℕ × List ℕ) × (ℕ × List ℕ) → List ℕ
lower_lines it = numbered_line (codes "edit ") it.0 ++ 10 ∷ numbered_line (codes "read ") it.1

abbrev pub AreNumbered : (ℕ × List ℕ) × (ℕ × List ℕ) → Type 0
AreNumbered it = IsNumbered it.0 × IsNumbered it.1

-- the three lines without the last line feed
abbrev pub keyring_lines : Keyring → List ℕ
keyring_lines keys = own_line keys.own ++ 10 ∷ lower_lines ((keys.edits, keys.edit), (keys.reads, keys.read))

-- its one spelling
abbrev pub keyring_text : Keyring → List ℕ
keyring_text keys = spelled (keyring_lines keys)

-- the right of a key with this hash. If one hash is that of two keys, it has the higher right
abbrev pub HasRight : Keyring → List ℕ → Option Right → Type 0
HasRight keys hash (Some Own) = hash ≡ keys.own
HasRight keys hash (Some Edit) = (hash ≢ keys.own) × (hash ≡ keys.edit)
HasRight keys hash (Some Read) = (hash ≢ keys.own) × (hash ≢ keys.edit) × (hash ≡ keys.read)
HasRight keys hash None = (hash ≢ keys.own) × (hash ≢ keys.edit) × (hash ≢ keys.read)

-- its edit key is ended, by who shows the own key: another number makes another edit key, and another read key of that
abbrev pub after_edit_ended : List ℕ → List ℕ → Keyring → Keyring
after_edit_ended id own keys = record (keyring_of id own (keys.edits + 1) keys.reads) { own = keys.own }

-- its read key is ended, by who shows the own key
abbrev pub after_read_ended : List ℕ → List ℕ → Keyring → Keyring
after_read_ended id own keys = record keys { reads = keys.reads + 1; read = hash_of id (read_key (keys.reads + 1) (edit_key keys.edits own)) }

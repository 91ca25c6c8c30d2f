-- The fields of lines, and how they are read.
use Rattle.std.specs.Prelude.{◌≡◌, ℕ, ◌^◌, ◌<◌, ◌≤◌, Bool, true, false, ◌&&◌, nat_le, if◌then◌else◌, List, [], ◌∷◌, ◌++◌, codes, decimal, ◌==◌, ℤ, pos, neg_ℤ, nat_lt, length, drop, Option, Some, None, option_and_then, slice_index}
use lib.Utf8.{scalar}
use Rattle.jup_limits.specs.Limits.{most_operations, longest_label}
pub use Rattle.jup_number.specs.Numbers.{IsU32, IsInt}
use Rattle.jup_wire.specs.Prelude.{SetOp, Name, SeqOp, list_all, bytes_eq, digits_value}
use Rattle.jup_setting.specs.declared.operation.SetOp.TheVariants as set
use Rattle.jup_seq.specs.declared.operations.SeqOp.TheVariants as seq

-- The texts of fields, and their ranges.

-- a name: its site, a dot, its number
abbrev pub name_text : Name → List ℕ
name_text name = decimal name.site ++ 46 ∷ decimal name.number

abbrev pub switch_text : Bool → List ℕ
switch_text true = codes "on"
switch_text false = codes "off"

-- the fields of an operation on a text or a list, without its kind
abbrev pub seq_fields : {V : Type 0} → (V → List ℕ) → SeqOp V → List (List ℕ)
seq_fields text (seq.Insert place item) = codes "ins" ∷ decimal place ∷ name_text item.name ∷ text item.value ∷ []
seq_fields text (seq.Delete place name) = codes "del" ∷ decimal place ∷ name_text name ∷ []
seq_fields text (seq.Relabel place name value) = codes "rel" ∷ decimal place ∷ name_text name ∷ text value ∷ []
seq_fields text seq.Nothing = codes "no" ∷ []

-- the fields of a setting, without its kind
abbrev pub set_fields : {V : Type 0} → (V → List ℕ) → SetOp V → List (List ℕ)
set_fields text (set.Set value) = codes "set" ∷ text value ∷ []
set_fields text set.Nothing = codes "no" ∷ []

-- the ranges of the numbers and texts that a line may hold
abbrev pub IsId : ℕ → Type 0
IsId n = n < 2 ^ 16

-- how many operations a batch may have
abbrev pub IsCount : ℕ → Type 0
IsCount n = (1 ≤ n) × (n ≤ most_operations)

abbrev pub is_count : ℕ → Bool
is_count n = nat_le 1 n && nat_le n most_operations

abbrev pub IsName : Name → Type 0
IsName name = IsU32 name.site × IsU32 name.number

abbrev pub IsSeqOp : {V : Type 0} → (V → Type 0) → SeqOp V → Type 0
IsSeqOp IsValue (seq.Insert place item) = IsU32 place × (IsName item.name × IsValue item.value)
IsSeqOp IsValue (seq.Delete place name) = IsU32 place × IsName name
IsSeqOp IsValue (seq.Relabel place name value) = IsU32 place × (IsName name × IsValue value)
IsSeqOp IsValue seq.Nothing = Unit {0}

abbrev pub IsSetOp : {V : Type 0} → (V → Type 0) → SetOp V → Type 0
IsSetOp IsValue (set.Set value) = IsValue value
IsSetOp IsValue set.Nothing = Unit {0}

-- each field after a space
abbrev pub after_spaces : List (List ℕ) → List ℕ
after_spaces [] = []
after_spaces (field ∷ fields) = 32 ∷ (field ++ after_spaces fields)

-- Reading fields from the left, as functions on lists. What they read is the grammar's, and nothing else is.

infixl 10 ◌>>=◌
abbrev pub ◌>>=◌ : {A B : Type 0} → Option A → (A → Option B) → Option B
o >>= f = option_and_then f o

-- the parts before and after the first byte that is the separator
unfoldable pub split_of : ℕ → List ℕ → Option (List ℕ × List ℕ)
split_of separator [] = None
split_of separator (byte ∷ bytes) = if byte == separator then Some ([], bytes) else (split_of separator bytes >>= λ parts. Some (byte ∷ parts.0, parts.1))

-- the number below 2 ^ 32 that the bytes spell
unfoldable pub number_of : List ℕ → Option ℕ
number_of bytes = if bytes_eq (decimal (digits_value 10 bytes)) bytes && nat_lt (digits_value 10 bytes) (2 ^ 32) then Some (digits_value 10 bytes) else None

-- what a function returned, seen by view, is what reading gives
abbrev pub Gives : {X Y : Type 0} → (X → Y) → Option X → Option Y → Type 0
Gives view (Some x) read = read ≡ Some (view x)
Gives view None read = read ≡ None

-- a field, and the bytes after its separator
unfoldable pub field_of : {A : Type 0} → ℕ → (List ℕ → Option A) → List ℕ → Option (A × List ℕ)
field_of separator read bytes = do
  parts ← split_of separator bytes
  value ← read parts.0
  Some (value, parts.1)

-- a value that was read, and the bytes after it
abbrev pub with_rest : {A : Type 0} → List ℕ → Option A → Option (A × List ℕ)
with_rest rest None = None
with_rest rest (Some value) = Some (value, rest)

-- a field, and the rest read as another
abbrev pub pair_of : {A B : Type 0} → ℕ → (List ℕ → Option A) → (List ℕ → Option B) → List ℕ → Option (A × B)
pair_of separator first second bytes = do
  a ← field_of separator first bytes
  b ← second a.1
  Some (a.0, b)

-- an id: a number below 2 ^ 16
unfoldable pub id_of : List ℕ → Option ℕ
id_of bytes = number_of bytes >>= λ n. if nat_lt n (2 ^ 16) then Some n else None

-- how many operations a batch has
unfoldable pub count_of : List ℕ → Option ℕ
count_of bytes = number_of bytes >>= λ n. if is_count n then Some n else None

unfoldable pub scalar_of : List ℕ → Option ℕ
scalar_of bytes = number_of bytes >>= λ n. if scalar n then Some n else None

-- a signed number: a minus comes before a number that is not 0
unfoldable pub int_of : List ℕ → Option ℤ
int_of bytes = if slice_index bytes 0 == 45
    then (number_of (drop 1 bytes) >>= λ n. if nat_lt 0 n && nat_le n (2 ^ 31) then Some (neg_ℤ (pos n)) else None)
    else (number_of bytes >>= λ n. if nat_lt n (2 ^ 31) then Some (pos n) else None)

unfoldable pub name_of : List ℕ → Option Name
name_of bytes = pair_of 46 number_of number_of bytes >>= λ parts. Some (record { site = parts.0; number = parts.1 })

unfoldable pub switch_of : List ℕ → Option Bool
switch_of bytes = if bytes_eq bytes (codes "on") then Some true else (if bytes_eq bytes (codes "off") then Some false else None)

abbrev pub is_label : List ℕ → Bool
is_label bytes = nat_lt 0 (length bytes) && nat_le (length bytes) longest_label && list_all (λ b. nat_le 32 b && nat_le b 126) bytes

unfoldable pub label_of : List ℕ → Option (List ℕ)
label_of bytes = if is_label bytes then Some bytes else None

-- the reader beside the word in a table
abbrev pub dispatch : {A : Type 0} → List (List ℕ × (List ℕ → Option A)) → List ℕ → List ℕ → Option A
dispatch [] word rest = None
dispatch (e ∷ table) word rest = if bytes_eq word e.0 then e.1 rest else dispatch table word rest

-- a word, and the rest read as the table says
abbrev pub headed_by : {A : Type 0} → List (List ℕ × (List ℕ → Option A)) → List ℕ → Option A
headed_by table bytes = split_of 32 bytes >>= λ parts. dispatch table parts.0 parts.1

-- operations on a text or a list, whose values are read by value
unfoldable pub insert_of : {V : Type 0} → (List ℕ → Option V) → List ℕ → Option (SeqOp V)
insert_of value bytes = pair_of 32 number_of (pair_of 32 name_of value) bytes >>= λ x. Some (seq.Insert x.0 (record { name = x.1.0; value = x.1.1 }))

unfoldable pub relabel_of : {V : Type 0} → (List ℕ → Option V) → List ℕ → Option (SeqOp V)
relabel_of value bytes = pair_of 32 number_of (pair_of 32 name_of value) bytes >>= λ x. Some (seq.Relabel x.0 x.1.0 x.1.1)

unfoldable pub delete_of : {V : Type 0} → List ℕ → Option (SeqOp V)
delete_of bytes = pair_of 32 number_of name_of bytes >>= λ x. Some (seq.Delete x.0 x.1)

unfoldable pub seq_of : {V : Type 0} → (List ℕ → Option V) → List ℕ → Option (SeqOp V)
seq_of value bytes = if bytes_eq bytes (codes "no") then Some seq.Nothing else headed_by ((codes "ins", insert_of value) ∷ (codes "del", delete_of) ∷ (codes "rel", relabel_of value) ∷ []) bytes

unfoldable pub set_of : {V : Type 0} → (List ℕ → Option V) → List ℕ → Option (SetOp V)
set_of value bytes = if bytes_eq bytes (codes "no") then Some set.Nothing else headed_by ((codes "set", λ rest. value rest >>= λ x. Some (set.Set x)) ∷ []) bytes

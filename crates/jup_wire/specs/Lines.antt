-- The lines of a link, and how they are read.
use Rattle.std.specs.Prelude.{◌≡◌, ◌≢◌, ℕ, Bool, true, if◌then◌else◌, List, [], ◌∷◌, ◌++◌, codes, decimal, refl, ◌==◌, length, Option, Some, None}
use Rattle.std.specs.Fmt.{digits}
use Rattle.jup_wire.specs.Prelude.{IsLabelText, SeqOp, OnText, WidgetValue, WireFault, BadLine, LongLine, BadVersion, EarlyEnd, Line, join_with_byte, flat_map, AllByRecursion, bytes_eq, IsScalar}
use Rattle.jup_window.specs.Widgets.{relabels_no_text}
use Rattle.jup_wire.specs.declared.line.Line.TheVariants.{Hello, Welcome, Window, Text, List as ListLine, Value, Char, Item, Ready, Batch, Do, Ack, Ping, Pong, Bye, Error}
use Rattle.jup_wire.specs.declared.single.LoneEdit.{LoneEdit}
use Rattle.jup_wire.specs.Fields.{IsU32, name_text, seq_fields, IsId, IsCount, is_count, IsName, ◌>>=◌, split_of, number_of, pair_of, id_of, count_of, scalar_of, name_of, label_of, dispatch}
use Rattle.jup_wire.specs.Kinds.{body_fields, IsBody, body_of, value_word, value_fields, HasRanges, value_table}
use Rattle.jup_faults.specs.Faults.{fault_number}
use Rattle.jup_faults.specs.declared.table.Fault.TheVariants as faults

-- The lines and their bytes: the fields of a line with one space between them, and a line feed at the end.

-- the version of the protocol, as a greeting names it
abbrev pub this_version : ℕ
this_version = 3

-- the fields of a line
abbrev pub fields : Line → List (List ℕ)
fields Hello = codes "hello" ∷ codes "3" ∷ []
fields (Welcome site limit) = codes "welcome" ∷ decimal site ∷ decimal limit ∷ []
fields (Window win) = codes "window" ∷ decimal win ∷ []
fields (Text wid) = codes "text" ∷ decimal wid ∷ []
fields (ListLine wid) = codes "list" ∷ decimal wid ∷ []
fields (Value wid value) = value_word value ∷ decimal wid ∷ value_fields value
fields (Char name scalar) = codes "char" ∷ name_text name ∷ decimal scalar ∷ []
fields (Item name label) = codes "item" ∷ name_text name ∷ label ∷ []
fields Ready = codes "ready" ∷ []
fields (Batch mine heard count) = codes "batch" ∷ decimal mine ∷ decimal heard ∷ decimal count ∷ []
fields (Do op) = codes "do" ∷ decimal op.win ∷ decimal op.wid ∷ body_fields op.op
fields (Ack count) = codes "ack" ∷ decimal count ∷ []
fields (Ping k) = codes "ping" ∷ decimal k ∷ []
fields (Pong k) = codes "pong" ∷ decimal k ∷ []
fields Bye = codes "bye" ∷ []
fields (Error number) = codes "error" ∷ decimal number ∷ []

-- a line without its line feed
abbrev pub line_text : Line → List ℕ
line_text line = join_with_byte 32 (fields line)

-- the one spelling of a line that has one
abbrev pub spelling : Line → List ℕ
spelling line = line_text line ++ 10 ∷ []

-- the lines that have a spelling
abbrev pub HasSpelling : Line → Type 0
HasSpelling Hello = Unit {0}
HasSpelling (Welcome site limit) = IsU32 site × IsU32 limit
HasSpelling (Window win) = IsId win
HasSpelling (Text wid) = IsId wid
HasSpelling (ListLine wid) = IsId wid
HasSpelling (Value wid value) = IsId wid × HasRanges value
HasSpelling (Char name scalar) = IsName name × IsScalar scalar
HasSpelling (Item name label) = IsName name × IsLabelText label
HasSpelling Ready = Unit {0}
HasSpelling (Batch mine heard count) = IsU32 mine × (IsU32 heard × IsCount count)
HasSpelling (Do op) = IsId op.win × (IsId op.wid × IsBody op.op)
HasSpelling (Ack count) = IsU32 count
HasSpelling (Ping k) = IsU32 k
HasSpelling (Pong k) = IsU32 k
HasSpelling Bye = Unit {0}
HasSpelling (Error number) = IsU32 number

-- whether a line that a program holds has a spelling: all do but a batch of no operation or of too many, and a relabel of a text
abbrev pub is_spelled : Line → Bool
is_spelled (Batch mine heard count) = is_count count
is_spelled (Do op) = relabels_no_text op.op
is_spelled line = true

-- what is written for a line: its spelling, and nothing if it has none
abbrev pub line_bytes : Line → List ℕ
line_bytes line = if is_spelled line then spelling line else []

-- the grammar: these bytes are this line
abbrev pub IsLine : List ℕ → Line → Type 0
IsLine bytes line = HasSpelling line × (bytes ≡ spelling line)

-- a greeting with another version
abbrev pub IsOtherVersion : List ℕ → Type 0
IsOtherVersion text = (version : ℕ) × (IsU32 version × (version ≢ this_version) × (text ≡ codes "hello " ++ decimal version))

-- no line of the table
abbrev pub IsNoLine : List ℕ → Type 0
IsNoLine text = (line : Line) → HasSpelling line → text ≢ line_text line

-- what a fault says of a whole line, without its line feed
abbrev pub IsBad : WireFault → List ℕ → Type 0
IsBad BadLine text = IsNoLine text × (IsOtherVersion text → ⊥)
IsBad BadVersion text = IsOtherVersion text
IsBad LongLine text = ⊥
IsBad EarlyEnd text = ⊥

-- a check
pub ping_seven : spelling (Ping 7) ≡ codes "ping 7\n"
unfolding digits
ping_seven = refl

-- the lines of more than one field, by their first
unfoldable pub hello_of : List ℕ → Option Line
hello_of rest = number_of rest >>= λ version. if version == this_version then Some Hello else None

unfoldable pub welcome_of : List ℕ → Option Line
welcome_of rest = pair_of 32 number_of number_of rest >>= λ x. Some (Welcome x.0 x.1)

unfoldable pub char_of : List ℕ → Option Line
char_of rest = pair_of 32 name_of scalar_of rest >>= λ x. Some (Char x.0 x.1)

unfoldable pub item_of : List ℕ → Option Line
item_of rest = pair_of 32 name_of label_of rest >>= λ x. Some (Item x.0 x.1)

unfoldable pub batch_of : List ℕ → Option Line
batch_of rest = pair_of 32 number_of (pair_of 32 number_of count_of) rest >>= λ x. Some (Batch x.0 x.1.0 x.1.1)

unfoldable pub do_of : List ℕ → Option Line
do_of rest = pair_of 32 id_of (pair_of 32 id_of body_of) rest >>= λ x. Some (Do (record { win = x.0; wid = x.1.0; op = x.1.1 }))

abbrev pub line_table : List (List ℕ × (List ℕ → Option Line))
line_table =
    (codes "hello", hello_of)
    ∷ (codes "welcome", welcome_of)
    ∷ (codes "window", λ rest. id_of rest >>= λ win. Some (Window win))
    ∷ (codes "text", λ rest. id_of rest >>= λ wid. Some (Text wid))
    ∷ (codes "list", λ rest. id_of rest >>= λ wid. Some (ListLine wid))
    ∷ (codes "char", char_of)
    ∷ (codes "item", item_of)
    ∷ (codes "batch", batch_of)
    ∷ (codes "do", do_of)
    ∷ (codes "ack", λ rest. number_of rest >>= λ count. Some (Ack count))
    ∷ (codes "ping", λ rest. number_of rest >>= λ k. Some (Ping k))
    ∷ (codes "pong", λ rest. number_of rest >>= λ k. Some (Pong k))
    ∷ (codes "error", λ rest. number_of rest >>= λ number. Some (Error number))
    ∷ []

-- the line of a widget without items that was read
abbrev pub value_line : ℕ × WidgetValue → Line
value_line x = Value x.0 x.1

-- the reader beside the word in a table, or one of the lines of widgets without items
abbrev pub dispatch_or : List (List ℕ × (List ℕ → Option Line)) → List ℕ → List ℕ → Option Line
dispatch_or [] word rest = dispatch value_table word rest >>= λ x. Some (value_line x)
dispatch_or (e ∷ table) word rest = if bytes_eq word e.0 then e.1 rest else dispatch_or table word rest

unfoldable pub headed_of : List ℕ → List ℕ → Option Line
headed_of word rest = dispatch_or line_table word rest

-- a line without its line feed
unfoldable pub line_of : List ℕ → Option Line
line_of bytes = if bytes_eq bytes (codes "ready") then Some Ready else (if bytes_eq bytes (codes "bye") then Some Bye else (split_of 32 bytes >>= λ parts. headed_of parts.0 parts.1))

-- the version of a greeting
unfoldable pub version_of : List ℕ → Option ℕ
version_of bytes = split_of 32 bytes >>= λ parts. if bytes_eq parts.0 (codes "hello") then number_of parts.1 else None

-- what is wrong with bytes that are no line, by the version that they name as a greeting
abbrev pub refusal_of : Option ℕ → WireFault
refusal_of None = BadLine
refusal_of (Some version) = if version == this_version then BadLine else BadVersion

-- Lines at the start of some bytes, and those of a message of one operation.

-- the bytes are a line with its line feed, and then the rest
abbrev pub BeginsWith : Line → List ℕ → List ℕ → Type 0
BeginsWith line rest bytes = HasSpelling line × (bytes ≡ spelling line ++ rest)

-- the same of an operation on a text, without the ids and the kind that come before it on its line
abbrev pub BeginsWithOp : SeqOp ℕ → List ℕ → List ℕ → Type 0
BeginsWithOp op rest bytes = IsBody (OnText op) × (bytes ≡ join_with_byte 32 (seq_fields decimal op) ++ 10 ∷ rest)

-- the lines of such a message
abbrev pub single_lines : LoneEdit → List Line
single_lines single = Batch single.mine single.heard 1 ∷ Do single.op ∷ []

-- the bytes begin with the lines, which are so long
pub record BeginsLines (lines : List Line) (len : ℕ) (bytes : List ℕ) : Type 0 where
  pub spelled : AllByRecursion HasSpelling lines
  pub rest : List ℕ
  pub stands : bytes ≡ flat_map spelling lines ++ rest
  pub long : len ≡ length (flat_map spelling lines)

-- The numbers of the faults of lines.

-- the number of each, as messages and printed texts give it
abbrev pub wire_fault_number : WireFault → ℕ
wire_fault_number BadLine = fault_number faults.BadLine
wire_fault_number LongLine = fault_number faults.LongLine
wire_fault_number BadVersion = fault_number faults.BadVersion
wire_fault_number EarlyEnd = fault_number faults.EarlyEnd

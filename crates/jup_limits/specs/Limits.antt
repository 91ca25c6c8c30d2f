-- The limits of the protocol, as contracts and definitions name them.
use Rattle.std.specs.Prelude.{ℕ}

-- sites attached to a star at a time
abbrev pub most_attached : ℕ
most_attached = 64

-- the highest number of a site
abbrev pub last_site : ℕ
last_site = 65535

-- windows of a board, and widgets of a window
abbrev pub most_entries : ℕ
most_entries = 64

-- items of a text or a list
abbrev pub longest_sequence : ℕ
longest_sequence = 65536

-- the highest limit of edits that a star can be opened with
abbrev pub highest_limit : ℕ
highest_limit = 16777216

-- edits of a site on their way, of which it does not know that they were received
abbrev pub most_unacknowledged : ℕ
most_unacknowledged = 1024

-- operations that an end receives before it owes an acknowledgement
abbrev pub answer_after : ℕ
answer_after = 64

-- operations of a batch
abbrev pub most_operations : ℕ
most_operations = 32

-- bytes of a label
abbrev pub longest_label : ℕ
longest_label = 48

-- bytes of a script, and of a layout
abbrev pub longest_input : ℕ
longest_input = 16777216

-- bytes of a printed board: twice as many as of a layout, since no line of a layout is printed by more than twice its bytes
abbrev pub longest_board : ℕ
longest_board = 33554432

-- operations of others, which it has not acknowledged, that a site of a running server may be behind before its session ends
abbrev pub most_behind : ℕ
most_behind = 262144

-- a sequence with fewer items is small: its length, and those after some more insertions, fit in 32 bits
abbrev pub small_length : ℕ
small_length = 2147483648

-- operations of the server's order: as many batches as the highest limit, each of as many operations as it may have
abbrev pub most_ordered : ℕ
most_ordered = 536870912

-- edits of the two sites of a script `two`, each of which makes at most as many as the highest limit
abbrev pub most_of_two : ℕ
most_of_two = 33554432

-- operations beyond the server's order that one site may have to do with: its unacknowledged ones, the one that it makes, and one that it meets
abbrev pub most_beyond : ℕ
most_beyond = 1026

-- The frames of a WebSocket.
use Rattle.std.specs.Prelude.{ℕ, cond, ◌==◌, List, [], ◌∷◌, Option, None, Some, ◌≡◌, ◌≤◌, ◌+◌, Bool, true, false, not, ◌||◌, nat_lt, length, take, drop, Result, Ok, Err}
use Rattle.std.specs.Int.{is_in_range, w16, from_be_bytes, to_be_bytes}
use Rattle.websocket.specs.CloseCode.{close_code_of, is_allowed}
use Rattle.websocket.specs.Text.{is_utf8}
use Rattle.websocket.specs.declared.protocol.frame.coding.Data.{Data}
use Rattle.websocket.specs.Connection.{whole_header}
use Rattle.websocket.specs.Frame.{encode_frame}
use Rattle.websocket.specs.declared.protocol.frame.coding.OpCode.TheVariants as Op
use Rattle.websocket.specs.declared.protocol.frame.coding.Data.TheVariants as DataCode
use Rattle.websocket.specs.declared.protocol.frame.coding.Control.TheVariants as ControlCode
use Rattle.jup_http.specs.Prelude.{CharPart, Breach, Header, ReservedBit, LongControl, BadText, Kind, Message, Frame, FrameHeader, Control, OpCode, Ending, Held}
use Rattle.jup_http.specs.declared.texts.CharPart.TheVariants.{Whole, LacksOne, LacksTwo, LacksThree, AfterE0, AfterED, AfterF0, AfterF4}
use Rattle.jup_http.specs.declared.breach.Breach.TheVariants.{Unmasked, FragmentedControl, NothingToContinue, MessageOpen, LongMessage, BadClose}
use Rattle.jup_http.specs.declared.ending.Ending.TheVariants.{Closed, Broken}
use Rattle.jup_http.specs.declared.frame.Kind.TheVariants as Kinds
use Rattle.jup_http.specs.declared.frame.Frame.TheVariants as Frames

-- What is bounded of what a browser sends.

-- bytes of the head of a request
abbrev pub longest_head : ℕ
longest_head = 8192

-- header lines of a head
abbrev pub most_fields : ℕ
most_fields = 64

-- bytes of a message of data, in one frame or in several
abbrev pub longest_message : ℕ
longest_message = 65536

-- bytes of the payload of a control frame (RFC 6455, section 5.5)
abbrev pub longest_control : ℕ
longest_control = 125

-- bytes of a message that is sent
abbrev pub longest_sent : ℕ
longest_sent = 2048

-- UTF-8, byte by byte: the table of RFC 3629, section 4, read from the left.

-- a byte of this range leads on
abbrev pub within : (low high : ℕ) → CharPart → ℕ → Option CharPart
within low high next byte = cond (is_in_range low high byte) (Some next) None

-- the first byte of a character: UTF8-1, UTF8-2, and those of UTF8-3 and UTF8-4 by what may follow
abbrev pub after_first : ℕ → Option CharPart
after_first byte =
    cond (is_in_range 0x00 0x7F byte) (Some Whole)
    (cond (is_in_range 0xC2 0xDF byte) (Some LacksOne)
    (cond (byte == 0xE0) (Some AfterE0)
    (cond (byte == 0xED) (Some AfterED)
    (cond (is_in_range 0xE1 0xEF byte) (Some LacksTwo)
    (cond (byte == 0xF0) (Some AfterF0)
    (cond (is_in_range 0xF1 0xF3 byte) (Some LacksThree)
    (cond (byte == 0xF4) (Some AfterF4) None)))))))

-- how far the last character has come with one more byte, if a text may go on with it
abbrev pub after_byte : CharPart → ℕ → Option CharPart
after_byte Whole byte = after_first byte
after_byte LacksOne byte = within 0x80 0xBF Whole byte
after_byte LacksTwo byte = within 0x80 0xBF LacksOne byte
after_byte LacksThree byte = within 0x80 0xBF LacksTwo byte
after_byte AfterE0 byte = within 0xA0 0xBF LacksOne byte
after_byte AfterED byte = within 0x80 0x9F LacksOne byte
after_byte AfterF0 byte = within 0x90 0xBF LacksTwo byte
after_byte AfterF4 byte = within 0x80 0x8F LacksTwo byte

-- with all of these bytes added
abbrev pub after_bytes : Option CharPart → List ℕ → Option CharPart
after_bytes part [] = part
after_bytes None (b ∷ bs) = None
after_bytes (Some part) (b ∷ bs) = after_bytes (after_byte part b) bs

-- The frames of a client, RFC 6455, sections 5.2 to 5.6 and 7.4.

-- the bytes that are held of a frame
abbrev pub held_bytes : Held → List ℕ
held_bytes held = take held.len held.bytes

-- the status code of a close that reports a breach (section 7.4.1)
abbrev pub breach_number : Breach → ℕ
breach_number Header = 1002
breach_number ReservedBit = 1002
breach_number Unmasked = 1002
breach_number FragmentedControl = 1002
breach_number LongControl = 1002
breach_number NothingToContinue = 1002
breach_number MessageOpen = 1002
breach_number LongMessage = 1009
breach_number BadText = 1007
breach_number BadClose = 1002

-- ---- which frame may come

-- the message that a frame of data belongs to: a continuation to the pending one, and any other frame begins one
abbrev pub begun : Option Message → Data → Result Message Breach
begun (Some m) DataCode.Continue = Ok m
begun (Some m) DataCode.Text = Err MessageOpen
begun (Some m) DataCode.Binary = Err MessageOpen
begun None DataCode.Continue = Err NothingToContinue
begun None DataCode.Text = Ok (record { kind = Kinds.Text Whole; len = 0 })
begun None DataCode.Binary = Ok (record { kind = Kinds.Binary; len = 0 })

-- with so many more bytes
abbrev pub lengthened : Message → ℕ → Result Message Breach
lengthened m more = cond (nat_lt longest_message (m.len + more)) (Err LongMessage) (Ok (record { kind = m.kind; len = m.len + more }))

abbrev pub extended : Result Message Breach → ℕ → Result Message Breach
extended (Err e) more = Err e
extended (Ok m) more = lengthened m more

-- a control frame is whole and short
abbrev pub control_of : Control → Bool → List ℕ → ℕ → Result Frame Breach
control_of code is_final key len =
    cond (not is_final) (Err FragmentedControl)
    (cond (nat_lt longest_control len) (Err LongControl)
    (Ok (Frames.Control (record { code = code; key = key; len = len }))))

abbrev pub data_of : Result Message Breach → Bool → List ℕ → ℕ → Result Frame Breach
data_of (Err e) is_final key len = Err e
data_of (Ok m) is_final key len = Ok (Frames.Data (record { is_final = is_final; key = key; at = 0; len = len; message = m }))

abbrev pub masked_of : Option Message → OpCode → Bool → ℕ → Option (List ℕ) → Result Frame Breach
masked_of pending opcode is_final len None = Err Unmasked
masked_of pending (Op.Control code) is_final len (Some key) = control_of code is_final key len
masked_of pending (Op.Data kind) is_final len (Some key) = data_of (extended (begun pending kind) len) is_final key len

-- the frame after a header, if this message is pending; or the rule that the header breaks
abbrev pub frame_of : Option Message → FrameHeader → ℕ → Result Frame Breach
frame_of pending h len = cond (h.rsv1 || h.rsv2 || h.rsv3) (Err ReservedBit) (masked_of pending h.opcode h.is_final len h.mask)

-- ---- what its payload gives

abbrev pub text_of : Option CharPart → Option Kind
text_of None = None
text_of (Some part) = Some (Kinds.Text part)

-- a text goes on with a byte if it may still become UTF-8
abbrev pub kind_after : Kind → ℕ → Option Kind
kind_after Kinds.Binary byte = Some Kinds.Binary
kind_after (Kinds.Text part) byte = text_of (after_byte part byte)

abbrev pub is_whole : Kind → Bool
is_whole Kinds.Binary = true
is_whole (Kinds.Text Whole) = true
is_whole (Kinds.Text LacksOne) = false
is_whole (Kinds.Text LacksTwo) = false
is_whole (Kinds.Text LacksThree) = false
is_whole (Kinds.Text AfterE0) = false
is_whole (Kinds.Text AfterED) = false
is_whole (Kinds.Text AfterF0) = false
is_whole (Kinds.Text AfterF4) = false

-- the message that is pending after a frame of it: none after its last one, where a text has to be whole
abbrev pub message_after : Bool → Message → Result (Option Message) Breach
message_after is_final m = cond (not is_final) (Ok (Some m)) (cond (is_whole m.kind) (Ok None) (Err BadText))

-- the status code of a close, which has none or one that may be sent; its reason is UTF-8 (section 5.5.1)
abbrev pub closed_of : List ℕ → Result (Option ℕ) Breach
closed_of payload =
    cond (length payload == 0) (Ok None)
    (cond (length payload == 1) (Err BadClose)
    (cond (not (is_allowed (close_code_of (from_be_bytes w16 payload)))) (Err BadClose)
    (cond (not (is_utf8 (drop 2 payload))) (Err BadText)
    (Ok (Some (from_be_bytes w16 payload))))))

-- a frame before its payload
abbrev pub IsNew : Frame → Type 0
IsNew (Frames.Data f) = f.at ≡ 0
IsNew (Frames.Control f) = f.len ≤ longest_control

-- Frames that a server sends: each is whole, and none is masked.

-- a text message of these bytes
abbrev pub text_frame : List ℕ → List ℕ
text_frame payload = encode_frame (whole_header (Op.Data DataCode.Text) None) payload

-- a ping, and the pong that answers one: it has the ping's payload (RFC 6455, section 5.5.3)
abbrev pub ping_frame : List ℕ → List ℕ
ping_frame payload = encode_frame (whole_header (Op.Control ControlCode.Ping) None) payload

abbrev pub pong_frame : List ℕ → List ℕ
pong_frame payload = encode_frame (whole_header (Op.Control ControlCode.Pong) None) payload

abbrev pub close_payload : Option ℕ → List ℕ
close_payload None = []
close_payload (Some code) = to_be_bytes w16 code

-- a close with this status code, or with none
abbrev pub close_frame : Option ℕ → List ℕ
close_frame code = encode_frame (whole_header (Op.Control ControlCode.Close) None) (close_payload code)

-- a close is answered with its own status code, and a breach with its number
abbrev pub answer_code : Ending → Option ℕ
answer_code (Closed code) = code
answer_code (Broken b) = Some (breach_number b)

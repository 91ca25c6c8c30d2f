-- The bytes of frames, and what they bring.
use Rattle.std.specs.Prelude.{◌≡◌, ℕ, ◌+◌, ◌%◌, ◌<◌, ◌≤◌, cond, ◌==◌, List, [], ◌∷◌, ◌++◌, length, slice_index, bit_xor, Option, None, Some, Result, Ok, Err, map}
use Rattle.std.specs.List.{flat_map}
use Rattle.websocket.specs.FrameHeader.{Decoded, decode_header, IsHeader, IsBytes, encode_header}
use Rattle.websocket.specs.declared.protocol.frame.coding.Control.TheVariants.{Close, Ping, Pong}
use Rattle.websocket.specs.Frame.{encode_frame}
use Rattle.jup_http.specs.Prelude.{Breach, Header, BadText, Kind, Message, DataFrame, ControlFrame, Frame, Place, Head, Within, Over, FrameHeader, Control}
use Rattle.jup_http.specs.declared.frame.Frame.TheVariants as Frames
use Rattle.jup_http.specs.declared.frame.Kind.TheVariants as Kinds
use Rattle.jup_http.specs.Frames.{frame_of, kind_after, message_after, closed_of, after_bytes, text_of}

-- The bytes of a client's frames, one after the other, and what they bring.

-- what a byte reports: a byte of a message of data, a ping with its payload, a close with its status code, or a breach
pub data Told : Type 0 where
  brought : ℕ → Told
  ping : List ℕ → Told
  closed : Option ℕ → Told
  broken : Breach → Told

-- where a stream is: its place, the message that is pending, and bytes of the present frame that wait for its others
pub record Standing : Type 0 where
  pub place : Place
  pub pending : Option Message
  pub held : List ℕ

-- where a byte leads, and what it reports
pub record Step : Type 0 where
  pub next : Standing
  pub told : List Told

-- before the first frame
abbrev pub start : Standing
start = record { place = Head; pending = None; held = [] }

abbrev pub between : Option Message → Standing
between pending = record { place = Head; pending = pending; held = [] }

abbrev pub over : Standing
over = record { place = Over; pending = None; held = [] }

-- a breach ends the stream
abbrev pub fails : Breach → Step
fails b = record { next = over; told = broken b ∷ [] }

-- a frame of data is whole; its last byte is not reported if its text is cut short
abbrev pub ends_data : List Told → Result (Option Message) Breach → Step
ends_data told (Err b) = fails b
ends_data told (Ok pending) = record { next = between pending; told = told }

abbrev pub closes : Result (Option ℕ) Breach → Step
closes (Err b) = fails b
closes (Ok code) = record { next = over; told = closed code ∷ [] }

-- a control frame is whole
abbrev pub ends_control : Option Message → Control → List ℕ → Step
ends_control pending Ping payload = record { next = between pending; told = ping payload ∷ [] }
ends_control pending Pong payload = record { next = between pending; told = [] }
ends_control pending Close payload = closes (closed_of payload)

-- a frame begins; one with no payload is whole
abbrev pub begins : Option Message → Result Frame Breach → Step
begins pending (Err b) = fails b
begins pending (Ok (Frames.Data f)) =
    cond (f.len == 0) (ends_data [] (message_after f.is_final f.message)) (record { next = record { place = Within (Frames.Data f); pending = pending; held = [] }; told = [] })
begins pending (Ok (Frames.Control f)) =
    cond (f.len == 0) (ends_control pending f.code []) (record { next = record { place = Within (Frames.Control f); pending = pending; held = [] }; told = [] })

-- a header with one more byte
abbrev pub step_head : Option Message → List ℕ → Decoded (FrameHeader × ℕ) → Step
step_head pending held (Err e) = fails Header
step_head pending held (Ok None) = record { next = record { place = Head; pending = pending; held = held }; told = [] }
step_head pending held (Ok (Some p)) = begins pending (frame_of pending p.0 p.1)

-- a byte of a payload, unmasked (RFC 6455, section 5.3)
abbrev pub unmasked : List ℕ → ℕ → ℕ → ℕ
unmasked key at b = bit_xor b (slice_index key (at % 4))

abbrev pub step_data : Option Message → List ℕ → DataFrame → ℕ → Option Kind → Step
step_data pending held f b None = fails BadText
step_data pending held f b (Some kind) =
    let message : Message = record { kind = kind; len = f.message.len } in
    cond (f.at + 1 == f.len) (ends_data (brought b ∷ []) (message_after f.is_final message))
    (record { next = record { place = Within (Frames.Data (record f { at = f.at + 1; message = message })); pending = pending; held = held }; told = brought b ∷ [] })

abbrev pub step_control : Option Message → ControlFrame → List ℕ → Step
step_control pending f held =
    cond (length held == f.len) (ends_control pending f.code held)
    (record { next = record { place = Within (Frames.Control f); pending = pending; held = held }; told = [] })

abbrev pub step_at : Place → Option Message → List ℕ → ℕ → Step
step_at Head pending held b = step_head pending (held ++ b ∷ []) (decode_header (held ++ b ∷ []))
step_at (Within (Frames.Data f)) pending held b =
    let plain = unmasked f.key f.at b in
    step_data pending held f plain (kind_after f.message.kind plain)
step_at (Within (Frames.Control f)) pending held b = step_control pending f (held ++ unmasked f.key (length held) b ∷ [])
step_at Over pending held b = record { next = record { place = Over; pending = pending; held = held }; told = [] }

-- one byte
unfoldable pub step : Standing → ℕ → Step
step s b = step_at s.place s.pending s.held b

-- all that these bytes report
abbrev pub tells : Standing → List ℕ → List Told
tells s [] = []
tells s (b ∷ bs) = (step s b).told ++ tells (step s b).next bs

-- where they lead
abbrev pub after : Standing → List ℕ → Standing
after s [] = s
after s (b ∷ bs) = after (step s b).next bs

abbrev pub data_in : Told → List ℕ
data_in (brought b) = b ∷ []
data_in (ping payload) = []
data_in (closed code) = []
data_in (broken b) = []

abbrev pub data_of : List Told → List ℕ
data_of told = flat_map data_in told

-- the bytes of messages of data that these bytes bring
abbrev pub brings : Standing → List ℕ → List ℕ
brings s bs = data_of (tells s bs)

-- what is held is less than a header, or than the payload of the control frame
abbrev pub FitsPlace : Place → List ℕ → Type 0
FitsPlace place held =
    (place ≡ Head → length held < 14) × ((f : DataFrame) → place ≡ Within (Frames.Data f) → f.at < f.len)
    × ((f : ControlFrame) → place ≡ Within (Frames.Control f) → (length held < f.len) × (f.len ≤ 125))

-- What whole frames of a client bring, frame by frame (RFC 6455, sections 5.4 to 5.6).

-- a frame that a client sends
pub record Sent : Type 0 where
  pub header : FrameHeader
  pub payload : List ℕ

-- its bytes on the wire: the header, and the payload under the mask
abbrev pub wire : Sent → List ℕ
wire f = encode_frame f.header f.payload

-- it can be sent: a mask has four bytes, and the length fits
pub record IsSent (f : Sent) : Type 0 where
  pub header : IsHeader f.header (length f.payload)
  pub bytes : IsBytes (encode_header f.header (length f.payload))

-- a message with these bytes added, which a text takes if it may still become UTF-8
abbrev pub kind_with : Kind → List ℕ → Option Kind
kind_with Kinds.Binary bs = Some Kinds.Binary
kind_with (Kinds.Text part) bs = text_of (after_bytes (Some part) bs)

-- a frame of data brings its payload, one of control what it reports; then this message is pending
abbrev pub Brings : Option Message → Frame → List ℕ → List Told → Option Message → Type 0
Brings pending (Frames.Data d) payload told next =
    (kind : Kind) × (kind_with d.message.kind payload ≡ Some kind) × (message_after d.is_final (record { kind = kind; len = d.message.len }) ≡ Ok next)
    × (told ≡ map brought payload)
Brings pending (Frames.Control c) payload told next = ends_control pending c.code payload ≡ record { next = between next; told = told }

-- the frame may come if this message is pending, and brings this
abbrev pub IsTaken : Option Message → Sent → List Told → Option Message → Type 0
IsTaken pending f told next = (frame : Frame) × (frame_of pending f.header (length f.payload) ≡ Ok frame) × Brings pending frame f.payload told next

-- frame after frame may come so
abbrev pub AreTaken : Option Message → List Sent → List Told → Option Message → Type 0
AreTaken pending [] told next = (told ≡ []) × (next ≡ pending)
AreTaken pending (f ∷ fs) told next =
    (first : List Told) × (behind : List Told) × (between : Option Message)
    × IsSent f × IsTaken pending f first between × AreTaken between fs behind next × (told ≡ first ++ behind)

-- Frames, byte by byte and as messages.
use Rattle.std.proofs.Common.{◌≡◌, ℕ, suc, ◌<◌, ◌≤◌, ◌+◌, List, [], ◌∷◌, ◌++◌, length, take, drop, get_or, refl, sym, ap, ◌∙◌, arith, append-nil, append_assoc, add-one, drop-cons, length-append, Option, Some, None, map, ◌%◌, ◌==◌, Bool, true, false, subst, bit_xor, Result, Ok, Err, inl, inr, cond, ◌||◌, nat_lt, is_some, ◌-◌, zero, slice_range, option_map, IfOk, IfErr, OnOk, OnErr}
use Rattle.std.proofs.lemmas.List.{take_at, get_or_past, drop-drop}
use Rattle.std.proofs.lemmas.Grind.{flat_map-append}
use Rattle.std.proofs.lemmas.Bool.Decides.{nat_tests, leb_tells}
use Rattle.std.specs.List.{flat_map}
use Rattle.std.proofs.lemmas.List.Elements.{All-get_or}
use Rattle.std.specs.Io.KnownBytes.{Keeps, Appends, Consumes, IsAtEnd, ReadConsumes}
use Rattle.std.proofs.KnownBytes.{Appends-nil, Appends-trans}
use Rattle.websocket.specs.FrameHeader.{IsCutHeader, header_len, IsHeader, IsBytes, encode_header, decode_header, first_byte_of, flag_bits, length_bits, extended_length, mask_bytes}
use Rattle.websocket.proofs.FrameHeaderLemmas.{length-encode_header, decode_header-encode_header}
use lib.Bits.{xor_assoc, xor_self, xor_zero_r}
use Rattle.websocket.specs.Mask.{mask_from, apply_mask_if}
use Rattle.websocket.proofs.LengthLemmas.{ByteAtEach, ByteAtEach-take}
use Rattle.websocket.proofs.CutHeaderLemmas.{decode_header_cut}
use Rattle.bytes.proofs.Ranges.{drop-take_less}
use Rattle.websocket.specs.declared.protocol.frame.coding.OpCode.TheVariants as Op
use Rattle.jup_http.specs.Prelude.{Place, Head, Over, Within, CharPart, Breach, ReservedBit, LongControl, Kind, Message, DataFrame, ControlFrame, Frame, FrameHeader, Control, OpCode, Ending, Held}
use Rattle.jup_http.specs.declared.stream.Event.{Event}
use Rattle.jup_http.specs.declared.stream.Event.TheVariants.{Ping, Closed, Broken}
use Rattle.jup_http.specs.declared.reader.MessageReader.{MessageReader}
use Rattle.jup_http.specs.declared.frame.Kind.TheVariants as Kinds
use Rattle.jup_http.specs.declared.frame.Frame.TheVariants as Frames
use Rattle.jup_http.specs.Streams.{Told, brought, Standing, Step, step, tells, data_in, data_of, brings, FitsPlace, broken, closed, between, over, begins, ends_control, Sent, wire, IsSent, kind_with, Brings, IsTaken, AreTaken, ping}
use Rattle.jup_http.specs.Events.{told_by_option, standing}
use Rattle.jup_http.specs.Frames.{longest_control, after_byte, after_bytes, text_of, begun, extended, data_of as data_frame, masked_of, frame_of, kind_after, message_after, held_bytes, pong_frame}
use Rattle.jup_http.specs.declared.ending.Ending.TheVariants as Closes
use Rattle.jup_http.specs.Readers.{untaken, payloads_left, due, told_left, Takes, IsDealtWith, pong_to, pongs_to, Hears, HearsInPart, ending_after, EndsBy}

-- Bytes that are taken one after the other.

header_short : (h : FrameHeader) (n : ℕ) → header_len h n ≤ 14
header_short h n = grind (arith, nat_tests)

-- what ends within a header is shorter than one
pub cut_short : (bs : List ℕ) → IsCutHeader bs → length bs < 14
cut_short bs (h, n, b, more, valid, is) =
    omega (arith, length-append bs (b ∷ more), ap length is, length-encode_header h n valid.mask, header_short h n)

pub fits_head : (place : Place) (held : List ℕ) → place ≡ Head → length held < 14 → FitsPlace place held
fits_head place held is short = (λ _. short, (λ f within. absurd (cc (is, within))), (λ f within. absurd (cc (is, within))))

-- the byte at a place is the next one
next_byte : (s : Standing) (bytes more : List ℕ) (at b : ℕ) → at < length bytes → b ≡ get_or bytes at 0
    → tells s (drop at bytes ++ more) ≡ tells s (b ∷ (drop (at + 1) bytes ++ more))
next_byte s bytes more at b inside is = rw (drop-cons bytes at 0 inside, is, add-one at) refl

-- one more byte was put
pub put_more : (all given behind told : List Told) (s next : Standing) (bytes more : List ℕ) (at b : ℕ) → at < length bytes → b ≡ get_or bytes at 0
    → all ≡ given ++ tells s (drop at bytes ++ more)
    → ((rest : List ℕ) → given ++ tells s (b ∷ rest) ≡ behind ++ told ++ tells next rest)
    → all ≡ behind ++ told ++ tells next (drop (at + 1) bytes ++ more)
put_more all given behind told s next bytes more at b inside is so_far put =
    so_far ∙ ap (λ t. given ++ t) (next_byte s bytes more at b inside is) ∙ put (drop (at + 1) bytes ++ more)

-- what a byte reports comes before what those after it report
pub told_first : (given : List Told) (s : Standing) (b : ℕ) (next : Standing) (told : List Told) (rest : List ℕ)
    → step s b ≡ record { next = next; told = told } → given ++ tells s (b ∷ rest) ≡ given ++ told ++ tells next rest
told_first given s b next told rest is = ap (λ (t : Step). given ++ (t.told ++ tells t.next rest)) is ∙ sym (append_assoc given told (tells next rest))

-- after the end nothing is reported
pub over_tells : (s : Standing) (bs : List ℕ) → s.place ≡ Over → tells s bs ≡ []
unfolding step
over_tells s [] over = refl
over_tells s (b ∷ bs) over = rw over (over_tells (record { place = Over; pending = s.pending; held = s.held }) bs refl)

pub data_of_brought : (bs : List ℕ) → data_of (map brought bs) ≡ bs
data_of_brought [] = refl
data_of_brought (b ∷ bs) = ap (λ t. b ∷ t) (data_of_brought bs)

pub data_of_event : (e : Option Event) → data_of (told_by_option e) ≡ []
data_of_event None = refl
data_of_event (Some (Ping held)) = refl
data_of_event (Some (Closed code)) = refl
data_of_event (Some (Broken b)) = refl

-- Whole frames, byte by byte.

-- what a step reports, and then what these bytes do
abbrev pub follows : Step → List ℕ → List Told
follows s rest = s.told ++ tells s.next rest

bytes_at : (bs : List ℕ) → IsBytes bs → ByteAtEach bs
bytes_at bs small i =
    elim (leb_tells (length bs) i) [
      | inl p ↦ rw (get_or_past bs i 0 p.1) (omega arith)
      | inr p ↦ All-get_or (λ b. b < 256) bs i 0 p.1 small
    ]

-- ---- the header

heading : (pending : Option Message) (h : FrameHeader) (n : ℕ) (held : List ℕ) (b : ℕ) (more rest : List ℕ) → IsHeader h n → ByteAtEach (encode_header h n)
    → held ++ b ∷ more ≡ encode_header h n
    → tells (record { place = Head; pending = pending; held = held }) (b ∷ (more ++ rest)) ≡ follows (begins pending (frame_of pending h n)) rest
unfolding step
heading pending h n held b [] rest valid small is =
    let read : decode_header (held ++ b ∷ []) ≡ Ok (Some (h, n)) = rw (is, ← append-nil (encode_header h n)) (decode_header-encode_header h n [] valid) in
    rw read refl
heading pending h n held b (c ∷ cs) rest valid small is =
    let more_is : (held ++ b ∷ []) ++ c ∷ cs ≡ encode_header h n = append_assoc held (b ∷ []) (c ∷ cs) ∙ is in
    let front : take (length (held ++ b ∷ [])) (encode_header h n) ≡ held ++ b ∷ [] =
    ap (take (length (held ++ b ∷ []))) (sym more_is) ∙ take_at (held ++ b ∷ []) (c ∷ cs) (length (held ++ b ∷ [])) refl in
    let read : decode_header (held ++ b ∷ []) ≡ Ok None =
    decode_header_cut (held ++ b ∷ []) (subst ByteAtEach front (ByteAtEach-take (length (held ++ b ∷ [])) (encode_header h n) small)) (h, n, c, cs, valid, more_is) in
    rw read (heading pending h n (held ++ b ∷ []) c cs rest valid small more_is)

-- ---- the payload

unmask_mask : (b k : ℕ) → bit_xor (bit_xor b k) k ≡ b
unmask_mask b k = rw (xor_assoc, xor_self, xor_zero_r) refl

-- a text takes its first byte if it takes all
record TakesFirst (kind : Kind) (b : ℕ) (bs : List ℕ) (last : Kind) : Type 0 where
  next : Kind
  first : kind_after kind b ≡ Some next
  others : kind_with next bs ≡ Some last

text_first : (r : Option CharPart) (b : ℕ) (bs : List ℕ) (part : CharPart) (last : Kind) → after_byte part b ≡ r → text_of (after_bytes r bs) ≡ Some last
    → TakesFirst (Kinds.Text part) b bs last
text_first None b [] part last is all = absurd (cc all)
text_first None b (c ∷ cs) part last is all = absurd (cc all)
text_first (Some next) b bs part last is all = record { next = Kinds.Text next; first = ap text_of is; others = all }

takes_first : (kind : Kind) (b : ℕ) (bs : List ℕ) (last : Kind) → kind_with kind (b ∷ bs) ≡ Some last → TakesFirst kind b bs last
takes_first Kinds.Binary b bs last all = record { next = Kinds.Binary; first = refl; others = all }
takes_first (Kinds.Text part) b bs last all = text_first (after_byte part b) b bs part last refl all

kind_here : (kind last : Kind) → kind_with kind [] ≡ Some last → kind ≡ last
kind_here Kinds.Binary last is = cc is
kind_here (Kinds.Text part) last is = cc is

data_arrives : (d : DataFrame) (pending next : Option Message) (held : List ℕ) (b : ℕ) (bs rest : List ℕ) (last : Kind) → d.at + suc (length bs) ≡ d.len
    → kind_with d.message.kind (b ∷ bs) ≡ Some last → message_after d.is_final (record { kind = last; len = d.message.len }) ≡ Ok next
    → tells (record { place = Within (Frames.Data d); pending = pending; held = held }) (mask_from d.key d.at (b ∷ bs) ++ rest)
    ≡ map brought (b ∷ bs) ++ tells (between next) rest
unfolding step mask_from
data_arrives d pending next held b [] rest last at_end all ends =
    let t = takes_first d.message.kind b [] last all in
    let is_last : (d.at + 1 == d.len) ≡ true = grind (arith, nat_tests) in
    let same : t.next ≡ last = kind_here t.next last t.others in
    rw (unmask_mask b (get_or d.key (d.at % 4) 0), t.first, is_last, same, ends) refl
data_arrives d pending next held b (c ∷ cs) rest last at_end all ends =
    let t = takes_first d.message.kind b (c ∷ cs) last all in
    let goes_on : (d.at + 1 == d.len) ≡ false = grind (arith, nat_tests) in
    let f : DataFrame = record d { at = d.at + 1; message = record { kind = t.next; len = d.message.len } } in
    rw (unmask_mask b (get_or d.key (d.at % 4) 0), t.first, goes_on)
    (ap (λ told. brought b ∷ told) (data_arrives f pending next held c cs rest last (omega arith) t.others ends))

control_arrives : (f : ControlFrame) (pending : Option Message) (held : List ℕ) (b : ℕ) (bs rest : List ℕ) → length held + suc (length bs) ≡ f.len
    → tells (record { place = Within (Frames.Control f); pending = pending; held = held }) (mask_from f.key (length held) (b ∷ bs) ++ rest)
    ≡ follows (ends_control pending f.code (held ++ b ∷ bs)) rest
unfolding step mask_from
control_arrives f pending held b [] rest at_end =
    let is_last : (length (held ++ b ∷ []) == f.len) ≡ true = grind (arith, nat_tests, length-append held (b ∷ [])) in
    rw (unmask_mask b (get_or f.key (length held % 4) 0), is_last) refl
control_arrives f pending held b (c ∷ cs) rest at_end =
    let more : length (held ++ b ∷ []) ≡ length held + 1 = length-append held (b ∷ []) in
    let goes_on : (length (held ++ b ∷ []) == f.len) ≡ false = grind (arith, nat_tests, length-append held (b ∷ [])) in
    rw (unmask_mask b (get_or f.key (length held % 4) 0), goes_on, ← more, ← append_assoc held (b ∷ []) (c ∷ cs))
    (control_arrives f pending (held ++ b ∷ []) c cs rest (omega (arith, more)))

-- ---- a frame

abbrev key_of : Frame → List ℕ
key_of (Frames.Data d) = d.key
key_of (Frames.Control c) = c.key

abbrev len_of : Frame → ℕ
len_of (Frames.Data d) = d.len
len_of (Frames.Control c) = c.len

abbrev at_of : Frame → ℕ
at_of (Frames.Data d) = d.at
at_of (Frames.Control c) = 0

-- a frame is that of its header
record IsOfHeader (mask : Option (List ℕ)) (n : ℕ) (f : Frame) : Type 0 where
  masked : mask ≡ Some (key_of f)
  sized : len_of f ≡ n
  new : at_of f ≡ 0

of_ok : (mask : Option (List ℕ)) (n : ℕ) (g f : Frame) → ◌≡◌ {A = Result Frame Breach} (Ok g) (Ok f) → IsOfHeader mask n g → IsOfHeader mask n f
of_ok mask n g f same is = subst (IsOfHeader mask n) (cc same) is

long_is : (long : Bool) (code : Control) (key : List ℕ) (n : ℕ) (f : Frame)
    → cond long (Err LongControl) (Ok (Frames.Control (record { code = code; key = key; len = n }))) ≡ Ok f → IsOfHeader (Some key) n f
long_is true code key n f is = absurd (cc is)
long_is false code key n f is = of_ok (Some key) n _ f is (record { masked = refl; sized = refl; new = refl })

data_is : (r : Result Message Breach) (is_final : Bool) (key : List ℕ) (n : ℕ) (f : Frame) → data_frame r is_final key n ≡ Ok f → IsOfHeader (Some key) n f
data_is (Err e) is_final key n f is = absurd (cc is)
data_is (Ok m) is_final key n f is = of_ok (Some key) n _ f is (record { masked = refl; sized = refl; new = refl })

masked_is : (pending : Option Message) (opcode : OpCode) (is_final : Bool) (n : ℕ) (mask : Option (List ℕ)) (f : Frame)
    → masked_of pending opcode is_final n mask ≡ Ok f → IsOfHeader mask n f
masked_is pending (Op.Control code) is_final n None f is = absurd (cc is)
masked_is pending (Op.Data kind) is_final n None f is = absurd (cc is)
masked_is pending (Op.Control code) false n (Some key) f is = absurd (cc is)
masked_is pending (Op.Control code) true n (Some key) f is = long_is (nat_lt longest_control n) code key n f is
masked_is pending (Op.Data kind) is_final n (Some key) f is = data_is (extended (begun pending kind) n) is_final key n f is

unreserved : (reserved : Bool) (r : Result Frame Breach) (f : Frame) → cond reserved (Err ReservedBit) r ≡ Ok f → r ≡ Ok f
unreserved true r f is = absurd (cc is)
unreserved false r f is = is

frame_is : (pending : Option Message) (h : FrameHeader) (n : ℕ) (f : Frame) → frame_of pending h n ≡ Ok f → IsOfHeader h.mask n f
frame_is pending h n f is = masked_is pending h.opcode h.is_final n h.mask f (unreserved (h.rsv1 || h.rsv2 || h.rsv3) _ f is)

pub headed : (pending : Option Message) (h : FrameHeader) (n : ℕ) (rest : List ℕ) → IsHeader h n → IsBytes (encode_header h n)
    → tells (between pending) (encode_header h n ++ rest) ≡ follows (begins pending (frame_of pending h n)) rest
unfolding encode_header
headed pending h n rest valid small =
    heading pending h n [] (first_byte_of h) ((flag_bits (is_some h.mask) 128 + length_bits n) ∷ (extended_length n ++ mask_bytes h.mask)) rest valid
    (bytes_at (encode_header h n) small) refl

data_begins : (d : DataFrame) (pending next : Option Message) (payload rest : List ℕ) (last : Kind) → d.at ≡ 0 → d.len ≡ length payload
    → kind_with d.message.kind payload ≡ Some last → message_after d.is_final (record { kind = last; len = d.message.len }) ≡ Ok next
    → follows (begins pending (Ok (Frames.Data d))) (mask_from d.key 0 payload ++ rest) ≡ map brought payload ++ tells (between next) rest
unfolding mask_from
data_begins d pending next [] rest last new sized all ends =
    let same = kind_here d.message.kind last all in
    let empty : (d.len == 0) ≡ true = grind (arith, nat_tests) in
    let after : message_after d.is_final d.message ≡ Ok next = ap (λ (k : Kind). message_after d.is_final (record { kind = k; len = d.message.len })) same ∙ ends in
    rw (empty, after) refl
data_begins d pending next (b ∷ bs) rest last new sized all ends =
    let full : (d.len == 0) ≡ false = grind (arith, nat_tests) in
    rw full (subst (λ at. tells (record { place = Within (Frames.Data d); pending = pending; held = [] }) (mask_from d.key at (b ∷ bs) ++ rest) ≡ map brought (b ∷ bs) ++ tells (between next) rest)
    new (data_arrives d pending next [] b bs rest last (omega arith) all ends))

control_begins : (c : ControlFrame) (pending : Option Message) (payload rest : List ℕ) → c.len ≡ length payload
    → follows (begins pending (Ok (Frames.Control c))) (mask_from c.key 0 payload ++ rest) ≡ follows (ends_control pending c.code payload) rest
unfolding mask_from
control_begins c pending [] rest sized =
    let empty : (c.len == 0) ≡ true = grind (arith, nat_tests) in rw empty refl
control_begins c pending (b ∷ bs) rest sized =
    let full : (c.len == 0) ≡ false = grind (arith, nat_tests) in rw full (control_arrives c pending [] b bs rest (omega arith))

begun_brings : (frame : Frame) (pending next : Option Message) (payload rest : List ℕ) (told : List Told) → at_of frame ≡ 0 → len_of frame ≡ length payload
    → Brings pending frame payload told next → follows (begins pending (Ok frame)) (mask_from (key_of frame) 0 payload ++ rest) ≡ told ++ tells (between next) rest
begun_brings (Frames.Data d) pending next payload rest told new sized (kind, all, ends, is) = rw is (data_begins d pending next payload rest kind new sized all ends)
begun_brings (Frames.Control c) pending next payload rest told new sized is = control_begins c pending payload rest sized ∙ ap (λ s. follows s rest) is

pub frame_arrives : (pending next : Option Message) (f : Sent) (told : List Told) (rest : List ℕ) → IsSent f → IsTaken pending f told next
    → tells (between pending) (wire f ++ rest) ≡ told ++ tells (between next) rest
frame_arrives pending next f told rest sent taken =
    let n = length f.payload in
    let of = frame_is pending f.header n taken.0 taken.1 in
    let masked : apply_mask_if f.header.mask f.payload ≡ mask_from (key_of taken.0) 0 f.payload = ap (λ m. apply_mask_if m f.payload) of.masked in
    ap (tells (between pending)) (append_assoc (encode_header f.header n) (apply_mask_if f.header.mask f.payload) rest)
    ∙ headed pending f.header n (apply_mask_if f.header.mask f.payload ++ rest) sent.header sent.bytes
    ∙ rw (taken.1, masked) (begun_brings taken.0 pending next f.payload rest told of.new of.sized taken.2)

pub frames_arrive : (pending next : Option Message) (fs : List Sent) (told : List Told) (rest : List ℕ) → AreTaken pending fs told next
    → tells (between pending) (flat_map wire fs ++ rest) ≡ told ++ tells (between next) rest
frames_arrive pending next [] told rest (nothing, same) = rw (nothing, same) refl
frames_arrive pending next (f ∷ fs) told rest (first, behind, mid, sent, taken, others, is) =
    ap (tells (between pending)) (append_assoc (wire f) (flat_map wire fs) rest)
    ∙ frame_arrives pending mid f first (flat_map wire fs ++ rest) sent taken
    ∙ ap (λ t. first ++ t) (frames_arrive mid next fs behind rest others)
    ∙ sym (append_assoc first behind (tells (between next) rest)) ∙ ap (λ t. t ++ tells (between next) rest) (sym is)

pub bad_header : (pending : Option Message) (h : FrameHeader) (n : ℕ) (breach : Breach) (rest : List ℕ) → IsHeader h n → IsBytes (encode_header h n)
    → frame_of pending h n ≡ Err breach → tells (between pending) (encode_header h n ++ rest) ≡ broken breach ∷ []
bad_header pending h n breach rest valid small is =
    headed pending h n rest valid small ∙ rw is (ap (λ t. broken breach ∷ t) (over_tells over rest refl))

-- What a reader of messages has left, and what it answers.

-- what untaken bytes and known ones report, and their payloads
abbrev pub Left : List Told → Standing → List ℕ → Option (List ℕ) → Option (List Told)
Left due s untaken known = option_map (λ xs. due ++ tells s (untaken ++ xs)) known

abbrev pub Payloads : Standing → List ℕ → Option (List ℕ) → Option (List ℕ)
Payloads s untaken known = option_map (λ xs. brings s (untaken ++ xs)) known

takes_both : (a b c : Option (List Told)) (first second : List Told) → Takes a b first → Takes b c second → Takes a c (first ++ second)
takes_both None b c first second ab bc = tt
takes_both (Some xs) None c first second ab bc = absurd ab
takes_both (Some xs) (Some ys) None first second ab bc = absurd bc
takes_both (Some xs) (Some ys) (Some zs) first second ab bc = ab ∙ ap (λ t. first ++ t) bc ∙ sym (append_assoc first second zs)

-- ---- what was heard before, and then

pub hears_both : (a b c : Option (List Told)) (w x y : Option (List ℕ)) (payload : List ℕ) → Hears a b w x [] → Hears b c x y payload → Hears a c w y payload
hears_both a b c w x y payload h k = record {
  told = h.told ++ k.told;
  first = takes_both a b c h.told k.told h.first k.first;
  given = flat_map-append data_in h.told k.told ∙ ap (λ t. t ++ data_of k.told) h.given ∙ k.given;
  answered = subst (λ t. Appends w y t) (sym (flat_map-append pong_to h.told k.told)) (Appends-trans w x y (pongs_to h.told) (pongs_to k.told) h.answered k.answered);
}

pub hears_then_fails : (a b c : Option (List Told)) (w x y : Option (List ℕ)) → Hears a b w x [] → HearsInPart b c x y → HearsInPart a c w y
hears_then_fails a b c w x y h k = record {
  told = h.told ++ k.told;
  sent = pongs_to h.told ++ k.sent;
  unsent = k.unsent;
  first = takes_both a b c h.told k.told h.first k.first;
  given = flat_map-append data_in h.told k.told ∙ ap (λ t. t ++ data_of k.told) h.given ∙ k.given;
  pongs = flat_map-append pong_to h.told k.told ∙ ap (λ t. pongs_to h.told ++ t) k.pongs ∙ sym (append_assoc (pongs_to h.told) k.sent k.unsent);
  answered = Appends-trans w x y (pongs_to h.told) k.sent h.answered k.answered;
}

-- nothing failed in what was heard
pub hears_whole : (a b : Option (List Told)) (w x : Option (List ℕ)) → Hears a b w x [] → HearsInPart a b w x
hears_whole a b w x h = record { told = h.told; sent = pongs_to h.told; unsent = []; first = h.first; given = h.given; pongs = sym (append-nil (pongs_to h.told)); answered = h.answered }

pub hears_nothing : (a b : Option (List Told)) (w x : Option (List ℕ)) → Takes a b [] → x ≡ w → Hears a b w x []
hears_nothing a b w x keeps same = record { told = []; first = keeps; given = refl; answered = subst (λ it. Appends w it []) (sym same) (Appends-nil w) }

-- no byte was given
pub gave_none : (a b : Option (List Told)) (w x : Option (List ℕ)) (n : ℕ) (buf : List ℕ) → Hears a b w x (take n buf) → n ≤ 0 → Hears a b w x []
gave_none a b w x zero buf h none = h
gave_none a b w x (suc n) buf h none = absurd (omega arith)

-- ---- how the frames ended before, and then

ending_after-append : (e : Option Ending) (xs ys : List Told) → ending_after e (xs ++ ys) ≡ ending_after (ending_after e xs) ys
ending_after-append e [] ys = refl
ending_after-append e (brought b ∷ xs) ys = ending_after-append e xs ys
ending_after-append e (ping payload ∷ xs) ys = ending_after-append e xs ys
ending_after-append e (closed code ∷ xs) ys = ending_after-append (Some (Closes.Closed code)) xs ys
ending_after-append e (broken b ∷ xs) ys = ending_after-append (Some (Closes.Broken b)) xs ys

pub ends_both : (a b c : Option (List Told)) (e f g : Option Ending) → EndsBy a b e f → EndsBy b c f g → EndsBy a c e g
ends_both a b c e f g h k = record {
  told = h.told ++ k.told;
  first = takes_both a b c h.told k.told h.first k.first;
  ending = k.ending ∙ ap (λ x. ending_after x k.told) h.ending ∙ sym (ending_after-append e h.told k.told);
}

pub ends_as_before : (a b : Option (List Told)) (e f : Option Ending) → Takes a b [] → f ≡ e → EndsBy a b e f
ends_as_before a b e f keeps same = record { told = []; first = keeps; ending = same }

-- data ends nothing
ends_no_data : (e : Option Ending) (bs : List ℕ) → ending_after e (map brought bs) ≡ e
ends_no_data e [] = refl
ends_no_data e (b ∷ bs) = ends_no_data e bs

-- ---- one step

no_pongs : (bs : List ℕ) → pongs_to (map brought bs) ≡ []
no_pongs [] = refl
no_pongs (b ∷ bs) = no_pongs bs

-- the payloads that were given are the first, and then a ping waits
pub gives_and_waits : (s next : Standing) (untaken rest given payload : List ℕ) (known w : Option (List ℕ))
    → ((more : List ℕ) → tells s (untaken ++ more) ≡ map brought given ++ (ping payload ∷ []) ++ tells next (rest ++ more))
    → Hears (Left [] s untaken known) (Left (ping payload ∷ []) next rest known) w w given
gives_and_waits s next untaken rest given payload known w first = record {
  told = map brought given;
  first = go known;
  given = data_of_brought given;
  answered = subst (λ t. Appends w w t) (sym (no_pongs given)) (Appends-nil w);
}
  where
    go : (k : Option (List ℕ)) → Takes (Left [] s untaken k) (Left (ping payload ∷ []) next rest k) (map brought given)
    go None = tt
    go (Some xs) = first xs ∙ append_assoc (map brought given) (ping payload ∷ []) (tells next (rest ++ xs))

-- and then something without an answer, or nothing
pub gives_and_ends : (s next : Standing) (untaken rest given : List ℕ) (e : List Told) (known w : Option (List ℕ))
    → data_of e ≡ [] → pongs_to e ≡ []
    → ((more : List ℕ) → tells s (untaken ++ more) ≡ map brought given ++ e ++ tells next (rest ++ more))
    → Hears (Left [] s untaken known) (Left [] next rest known) w w given
gives_and_ends s next untaken rest given e known w no_data no_pong first = record {
  told = map brought given ++ e;
  first = go known;
  given = flat_map-append data_in (map brought given) e ∙ ap (λ t. t ++ data_of e) (data_of_brought given) ∙ ap (λ t. given ++ t) no_data ∙ append-nil given;
  answered = subst (λ t. Appends w w t) (sym (flat_map-append pong_to (map brought given) e ∙ ap (λ t. t ++ pongs_to e) (no_pongs given) ∙ no_pong)) (Appends-nil w);
}
  where
    go : (k : Option (List ℕ)) → Takes (Left [] s untaken k) (Left [] next rest k) (map brought given ++ e)
    go None = tt
    go (Some xs) = first xs

-- the ping that waited has its pong
pub answers : (payload : List ℕ) (s : Standing) (untaken : List ℕ) (known w x : Option (List ℕ)) → Appends w x (pongs_to (ping payload ∷ []))
    → Hears (Left (ping payload ∷ []) s untaken known) (Left [] s untaken known) w x []
answers payload s untaken known w x wrote = record { told = ping payload ∷ []; first = go known; given = refl; answered = wrote }
  where
    go : (k : Option (List ℕ)) → Takes (Left (ping payload ∷ []) s untaken k) (Left [] s untaken k) (ping payload ∷ [])
    go None = tt
    go (Some xs) = refl

-- or a part of it
pub answers_in_part : (payload : List ℕ) (s : Standing) (untaken : List ℕ) (known w x : Option (List ℕ)) (sent unsent : List ℕ) → pongs_to (ping payload ∷ []) ≡ sent ++ unsent
    → Appends w x sent → HearsInPart (Left (ping payload ∷ []) s untaken known) (Left [] s untaken known) w x
answers_in_part payload s untaken known w x sent unsent is wrote =
    record { told = ping payload ∷ []; sent = sent; unsent = unsent; first = go known; given = refl; pongs = is; answered = wrote }
  where
    go : (k : Option (List ℕ)) → Takes (Left (ping payload ∷ []) s untaken k) (Left [] s untaken k) (ping payload ∷ [])
    go None = tt
    go (Some xs) = refl

-- a stream that is over reports nothing
pub over_is_dealt_with : (s : Standing) (untaken : List ℕ) (known : Option (List ℕ)) → s.place ≡ Over → IsDealtWith (Left [] s untaken known)
over_is_dealt_with s untaken None over = tt
over_is_dealt_with s untaken (Some xs) over = over_tells s (untaken ++ xs) over

-- a piece without its first bytes
pub untaken_after : (piece : List ℕ) (start end taken : ℕ) → taken ≤ end - start → slice_range piece (start + taken) end ≡ drop taken (slice_range piece start end)
untaken_after piece start end taken inside =
    sym (drop-take_less (drop start piece) taken (end - start) inside
    ∙ rw drop-drop (ap (λ n. take n (drop (start + taken) piece)) (omega arith)))

-- ---- payloads

unheard : (due : List Told) (s : Standing) (bs : List ℕ) → data_of due ≡ [] → data_of (due ++ tells s bs) ≡ brings s bs
unheard due s bs none = flat_map-append data_in due (tells s bs) ∙ ap (λ t. t ++ brings s bs) none

-- the data that was given is the first of the payloads
pub payloads_given : (due due' : List Told) (s next : Standing) (untaken rest payload : List ℕ) (known left w x : Option (List ℕ)) → data_of due ≡ [] → data_of due' ≡ []
    → Hears (Left due s untaken known) (Left due' next rest left) w x payload → Consumes (Payloads s untaken known) (Payloads next rest left) payload
payloads_given due due' s next untaken rest payload known left w x none none' h = go known left h.first
  where
    go : (k l : Option (List ℕ)) → Takes (Left due s untaken k) (Left due' next rest l) h.told → Consumes (Payloads s untaken k) (Payloads next rest l) payload
    go None l first = tt
    go (Some xs) None first = absurd first
    go (Some xs) (Some ys) first =
        sym (unheard due s (untaken ++ xs) none) ∙ ap data_of first ∙ flat_map-append data_in h.told (due' ++ tells next (rest ++ ys))
        ∙ ap (λ t. t ++ data_of (due' ++ tells next (rest ++ ys))) h.given ∙ ap (λ t. payload ++ t) (unheard due' next (rest ++ ys) none')

-- none was given
pub payloads_kept : (due due' : List Told) (s next : Standing) (untaken rest : List ℕ) (known left w x : Option (List ℕ)) → data_of due ≡ [] → data_of due' ≡ []
    → HearsInPart (Left due s untaken known) (Left due' next rest left) w x → Keeps (Payloads s untaken known) (Payloads next rest left)
payloads_kept due due' s next untaken rest known left w x none none' h = go known left h.first
  where
    go : (k l : Option (List ℕ)) → Takes (Left due s untaken k) (Left due' next rest l) h.told → Keeps (Payloads s untaken k) (Payloads next rest l)
    go None l first = tt
    go (Some xs) None first = absurd first
    go (Some xs) (Some ys) first =
        sym (sym (unheard due s (untaken ++ xs) none) ∙ ap data_of first ∙ flat_map-append data_in h.told (due' ++ tells next (rest ++ ys))
        ∙ ap (λ t. t ++ data_of (due' ++ tells next (rest ++ ys))) h.given ∙ unheard due' next (rest ++ ys) none')

pub nothing_left : (s : Standing) (due : List Told) (untaken : List ℕ) (known : Option (List ℕ)) → data_of due ≡ [] → IsDealtWith (Left due s untaken known) → IsAtEnd (Payloads s untaken known)
nothing_left s due untaken None none left = tt
nothing_left s due untaken (Some xs) none left = sym (unheard due s (untaken ++ xs) none) ∙ ap data_of left

-- ---- the same of the reader's own values

due_is_no_data : (p : Option Held) → data_of (due p) ≡ []
due_is_no_data None = refl
due_is_no_data (Some held) = refl

pub gives_ping : (s next : Standing) (untaken rest given : List ℕ) (e : Option Event) (held : Held) (p : Option Held) (known w : Option (List ℕ)) → e ≡ Some (Ping held) → p ≡ None
    → ((more : List ℕ) → tells s (untaken ++ more) ≡ map brought given ++ told_by_option e ++ tells next (rest ++ more))
    → Hears (Left (due p) s untaken known) (Left (due (Some held)) next rest known) w w given
gives_ping s next untaken rest given e held p known w is none first =
    rw none (gives_and_waits s next untaken rest given (held_bytes held) known w (λ more. first more ∙ rw is refl))

pub gives_other : (s next : Standing) (untaken rest given : List ℕ) (e : Option Event) (p : Option Held) (known w : Option (List ℕ)) → pongs_to (told_by_option e) ≡ [] → p ≡ None
    → ((more : List ℕ) → tells s (untaken ++ more) ≡ map brought given ++ told_by_option e ++ tells next (rest ++ more))
    → Hears (Left (due p) s untaken known) (Left (due p) next rest known) w w given
gives_other s next untaken rest given e p known w no_pong none first =
    rw none (gives_and_ends s next untaken rest given (told_by_option e) known w (data_of_event e) no_pong first)

-- the first payloads were given, and then a ping waits
pub ends_at_ping : (s next : Standing) (untaken rest given : List ℕ) (e : Option Event) (held : Held) (p : Option Held) (known : Option (List ℕ)) (was : Option Ending) → e ≡ Some (Ping held) → p ≡ None
    → ((more : List ℕ) → tells s (untaken ++ more) ≡ map brought given ++ told_by_option e ++ tells next (rest ++ more))
    → EndsBy (Left (due p) s untaken known) (Left (due (Some held)) next rest known) was was
ends_at_ping s next untaken rest given e held p known was is none first =
    record { told = map brought given; first = go; ending = sym (ends_no_data was given) }
  where
    go : Takes (Left (due p) s untaken known) (Left (due (Some held)) next rest known) (map brought given)
    go = rw none (waits known)
      where
        waits : (k : Option (List ℕ)) → Takes (Left [] s untaken k) (Left (due (Some held)) next rest k) (map brought given)
        waits None = tt
        waits (Some xs) = first xs ∙ rw is (append_assoc (map brought given) (ping (held_bytes held) ∷ []) (tells next (rest ++ xs)))

-- or a byte reported something else, by which the frames may have ended
pub ends_at_other : (s next : Standing) (untaken rest given : List ℕ) (e : Option Event) (p : Option Held) (known : Option (List ℕ)) (was now : Option Ending) → p ≡ None
    → now ≡ ending_after was (told_by_option e)
    → ((more : List ℕ) → tells s (untaken ++ more) ≡ map brought given ++ told_by_option e ++ tells next (rest ++ more))
    → EndsBy (Left (due p) s untaken known) (Left (due p) next rest known) was now
ends_at_other s next untaken rest given e p known was now none ends first =
    record {
      told = map brought given ++ told_by_option e;
      first = rw none (go known);
      ending = ends ∙ ap (λ x. ending_after x (told_by_option e)) (sym (ends_no_data was given)) ∙ sym (ending_after-append was (map brought given) (told_by_option e));
    }
  where
    go : (k : Option (List ℕ)) → Takes (Left [] s untaken k) (Left [] next rest k) (map brought given ++ told_by_option e)
    go None = tt
    go (Some xs) = first xs

-- the ping that waited was answered, or is not to be
pub ends_no_ping : (p q : Option Held) (held : Held) (s : Standing) (untaken : List ℕ) (known : Option (List ℕ)) (was now : Option Ending) → p ≡ Some held → q ≡ None → now ≡ was
    → EndsBy (Left (due p) s untaken known) (Left (due q) s untaken known) was now
ends_no_ping p q held s untaken known was now waited none same = record { told = ping (held_bytes held) ∷ []; first = rw (waited, none) (go known); ending = same }
  where
    go : (k : Option (List ℕ)) → Takes (Left (ping (held_bytes held) ∷ []) s untaken k) (Left [] s untaken k) (ping (held_bytes held) ∷ [])
    go None = tt
    go (Some xs) = refl

one_pong : (held : Held) → pongs_to (ping (held_bytes held) ∷ []) ≡ pong_frame (held_bytes held)
one_pong held = append-nil (pong_frame (held_bytes held))

pub answered : {U E : Type 0} (r : Result U E) (p q : Option Held) (held : Held) (s : Standing) (untaken frame : List ℕ) (known w x : Option (List ℕ)) → p ≡ Some held → q ≡ None
    → frame ≡ pong_frame (held_bytes held) → OnOk r (Appends w x frame) → OnOk r (Hears (Left (due p) s untaken known) (Left (due q) s untaken known) w x [])
answered (Err e) p q held s untaken frame known w x was none is wrote = tt
answered (Ok u) p q held s untaken frame known w x was none is wrote =
    rw (was, none) (answers (held_bytes held) s untaken known w x (subst (λ t. Appends w x t) (is ∙ sym (one_pong held)) wrote))

pub answered_in_part : {U E : Type 0} (r : Result U E) (p q : Option Held) (held : Held) (s : Standing) (untaken frame : List ℕ) (known w x : Option (List ℕ)) → p ≡ Some held → q ≡ None
    → frame ≡ pong_frame (held_bytes held) → OnErr r ((sent unsent : List ℕ) × (frame ≡ sent ++ unsent) × Appends w x sent)
    → OnErr r (HearsInPart (Left (due p) s untaken known) (Left (due q) s untaken known) w x)
answered_in_part (Ok u) p q held s untaken frame known w x was none is wrote = tt
answered_in_part (Err e) p q held s untaken frame known w x was none is (sent, unsent, split, wrote) =
    rw (was, none) (answers_in_part (held_bytes held) s untaken known w x sent unsent (one_pong held ∙ sym is ∙ split) wrote)

pub not_answered : {U E : Type 0} (r : Result U E) (p q : Option Held) (held : Held) (s : Standing) (untaken : List ℕ) (known w : Option (List ℕ)) → p ≡ Some held → q ≡ None
    → OnErr r (HearsInPart (Left (due p) s untaken known) (Left (due q) s untaken known) w w)
not_answered (Ok u) p q held s untaken known w was none = tt
not_answered (Err e) p q held s untaken known w was none =
    rw (was, none) (answers_in_part (held_bytes held) s untaken known w w [] (pongs_to (ping (held_bytes held) ∷ [])) refl (Appends-nil w))

pub over_is_end : (p : Option Held) (s : Standing) (untaken : List ℕ) (known : Option (List ℕ)) → p ≡ None → s.place ≡ Over → IsDealtWith (Left (due p) s untaken known)
over_is_end p s untaken known none over = rw none (over_is_dealt_with s untaken known over)

pub reader_ended : {I O : Type 0} (remaining : I → Option (List ℕ)) (r : MessageReader I O) → IsDealtWith (told_left remaining r) → IsAtEnd (payloads_left remaining r)
reader_ended remaining r left = nothing_left (standing r.stream) (due r.ping) (untaken r) (remaining r.from) (due_is_no_data r.ping) left

module _ {I O : Type 0} (remaining : I → Option (List ℕ)) (a b : MessageReader I O) (w x : Option (List ℕ)) where
  pub reader_gave : (payload : List ℕ) → Hears (told_left remaining a) (told_left remaining b) w x payload → Consumes (payloads_left remaining a) (payloads_left remaining b) payload
  reader_gave payload h =
      payloads_given (due a.ping) (due b.ping) (standing a.stream) (standing b.stream) (untaken a) (untaken b) payload (remaining a.from) (remaining b.from) w x
      (due_is_no_data a.ping) (due_is_no_data b.ping) h

  pub reader_kept : HearsInPart (told_left remaining a) (told_left remaining b) w x → Keeps (payloads_left remaining a) (payloads_left remaining b)
  reader_kept h =
      payloads_kept (due a.ping) (due b.ping) (standing a.stream) (standing b.stream) (untaken a) (untaken b) (remaining a.from) (remaining b.from) w x
      (due_is_no_data a.ping) (due_is_no_data b.ping) h

  -- a read at the end gives no byte or fails
  pub read_ended : {E : Type 0} (r : Result ℕ E) (buf : List ℕ) → Hears (told_left remaining a) (told_left remaining b) w x [] → IsDealtWith (told_left remaining b) → IfOk r (λ n. n ≡ 0)
      → ReadConsumes (payloads_left remaining a) (payloads_left remaining b) r buf
  read_ended (Ok n) buf h left none = (rw none (reader_gave [] h), λ _ _. reader_ended remaining b left)
  read_ended (Err e) buf h left none = reader_kept (hears_whole _ _ w x h)

pub if_none : {E : Type 0} (r : Result ℕ E) (P : ℕ → Type 0) → IfOk r (λ n. n ≡ 0) → P 0 → IfOk r P
if_none (Ok n) P none p = subst P (sym none) p
if_none (Err e) P none p = tt

pub if_failed : {E : Type 0} (r : Result ℕ E) (P : Type 0) → P → IfErr r (λ _. P)
if_failed (Ok n) P p = tt
if_failed (Err e) P p = p

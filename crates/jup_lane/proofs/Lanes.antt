-- What a lane carries.
use Rattle.std.proofs.Common.{◌≡◌, ◌≢◌, ◌==◌, ℕ, Bool, true, not, List, [], ◌∷◌, ◌++◌, refl, sym, ap, ◌∙◌, append_assoc, append-nil, option_to_list, zero, suc, ◌-◌, ◌≤◌, length, take, drop, subst, arith, take-append-drop, ◌⊎◌, inl, inr, ◌+◌, ◌<◌, Option, Some, None, length-append, length-take, length-drop, take-add, drop-drop, le_refl, IsTrue, ◌↔◌}
use Rattle.std.specs.List.{flat_map, AllByRecursion}
use Rattle.std.proofs.lemmas.Bool.{and_parts, not-true, ne_eqb, cases_Bool}
use Rattle.std.proofs.lemmas.List.Elements.{recursion_from_All}
use Rattle.std.proofs.lemmas.List.Concat.{flat_map-append}
use Rattle.std.proofs.lemmas.List.{take-append-le, drop-append-le, take_all, drop_all}
use Rattle.std.proofs.Math.Seq.{drop-append_seam, take-append_seam, take-nil, drop-nil}
use Rattle.std.proofs.Math.Numerals.{one-add}
use Rattle.jup_lane.specs.Prelude.{Line, IsPart, line_reader}
use Rattle.jup_wire.specs.Lines.{line_text, spelling, HasSpelling, line_bytes, IsLine, BeginsLines}
use Rattle.jup_wire.proofs.Spellings.{lacks}
use Rattle.jup_wire.proofs.Streams.{all-append}
use Rattle.jup_lane.specs.Lanes.{ended_at, lines_behind, lines_in, Codec, IsCodec, bytes_of, bytes_of_all, messages_in, Way, on_way, no_bytes, sent, moved, handed_over, IsIdle, messages, Carries, IsWholeOf, IsWhole, IsFirstRead, IsFilled, oldest_length, Leads, next_feed, TakesLine, filled_to, IsLane}

-- All the bytes of lines are these lines.

-- a text without a line feed is part of a line
pub text_on : (text more part : List ℕ) → lacks 10 text ≡ true → lines_behind (text ++ more) part ≡ lines_behind more (part ++ text)
unfolding lines_behind
text_on [] more part open_ended = ap (lines_behind more) (sym (append-nil part))
text_on (b ∷ text) more part open_ended =
    let p = and_parts (not (b == 10)) (lacks 10 text) open_ended in
    ap (λ (t : Bool). ended_at t b part (λ p. lines_behind (text ++ more) p)) (not-true (b == 10) p.0)
    ∙ text_on text more (part ++ b ∷ []) p.1
    ∙ ap (lines_behind more) (append_assoc part (b ∷ []) text)

-- a line is read
line_first : (line : Line) (more : List ℕ) → HasSpelling line → lines_behind (spelling line ++ more) [] ≡ line ∷ lines_behind more []
unfolding lines_behind
line_first line more is =
    ap (λ t. lines_behind t []) (append_assoc (line_text line) (10 ∷ []) more)
    ∙ text_on (line_text line) (10 ∷ more) [] (line_reader.one_line line is)
    ∙ ap (λ o. option_to_list o ++ lines_behind more []) (line_reader.again line is)

-- lines are
pub lines_first : (lines : List Line) (more : List ℕ) → AllByRecursion HasSpelling lines → lines_behind (flat_map spelling lines ++ more) [] ≡ lines ++ lines_behind more []
lines_first [] more all = refl
lines_first (line ∷ lines) more all =
    ap (λ t. lines_behind t []) (append_assoc (spelling line) (flat_map spelling lines) more)
    ∙ line_first line (flat_map spelling lines ++ more) all.0
    ∙ ap (λ ls. line ∷ ls) (lines_first lines more all.1)

pub lines_again : (lines : List Line) → AllByRecursion HasSpelling lines → lines_in (flat_map spelling lines) ≡ lines
unfolding lines_behind
lines_again lines all = ap (λ t. lines_behind t []) (sym (append-nil (flat_map spelling lines))) ∙ lines_first lines [] all ∙ append-nil lines

open-part : (bytes : List ℕ) → AllByRecursion (λ byte. byte ≢ 10) bytes → lacks 10 bytes ≡ true
open-part [] all = refl
open-part (b ∷ bytes) all = rw (ne_eqb b 10 all.0, open-part bytes all.1) refl

-- and a part of a line after them ends none
pub lines_before : (lines : List Line) (part : List ℕ) → AllByRecursion HasSpelling lines → IsPart part → lines_in (flat_map spelling lines ++ part) ≡ lines
unfolding lines_behind
lines_before lines part all is =
    let none = ap (λ t. lines_behind t []) (sym (append-nil part)) ∙ text_on part [] [] (open-part part (recursion_from_All (λ byte. byte ≢ 10) part is.open_ended)) in
    lines_first lines part all ∙ ap (λ ls. lines ++ ls) none ∙ append-nil lines

-- what is written for lines is what they are
pub lines_written : (lines : List Line) → AllByRecursion (λ line. IsLine (line_bytes line) line) lines → AllByRecursion HasSpelling lines × (flat_map line_bytes lines ≡ flat_map spelling lines)
lines_written [] all = (tt, refl)
lines_written (line ∷ lines) all =
    let rest = lines_written lines all.1 in
    ((all.0.0, rest.0), ap (λ t. t ++ flat_map line_bytes lines) all.0.1 ∙ ap (λ t. spelling line ++ t) rest.1)

-- What a lane carries, as its bytes are written, moved and handed over.

-- two ways with the same bytes
pub same_ways : (a b : Way) → a.read ≡ b.read → a.stream ≡ b.stream → a ≡ b
same_ways a b read stream = ap (λ t. record { read = t; stream = a.stream }) read ∙ ap (λ t. record { read = b.read; stream = t }) stream

-- lists of which nothing is made
pub none_both : {A : Type 0} → (xs ys : List A) → xs ++ ys ≡ [] → (xs ≡ []) × (ys ≡ [])
none_both [] ys e = (refl, e)
none_both (x ∷ xs) ys e = absurd (cc)

-- a list that begins as another does, and is no shorter
pub begins : {A : Type 0} → (xs ys short more : List A) → xs ++ ys ≡ short ++ more → length short ≤ length xs → xs ≡ short ++ drop (length short) xs
begins xs ys short more e le =
    sym (take-append-drop (length short) xs) ∙ ap (λ t. t ++ drop (length short) xs) (sym (take-append-le (length short) xs ys le) ∙ ap (take (length short)) e ∙ take-append_seam short more)

-- what is left of two lists, one after the other
pub drop-two : {A : Type 0} → (n : ℕ) (xs ys : List A) → drop n xs ++ drop (n - length xs) ys ≡ drop n (xs ++ ys)
drop-two zero xs ys = let e : 0 - length xs ≡ 0 = omega arith in ap (λ k. xs ++ drop k ys) e
drop-two (suc n) [] ys = let e : suc n - 0 ≡ suc n = omega arith in ap (λ k. drop k ys) e
drop-two (suc n) (x ∷ xs) ys = let e : suc n - length (x ∷ xs) ≡ n - length xs = omega arith in ap (λ k. drop n xs ++ drop k ys) e ∙ drop-two n xs ys

flat_map-flat_map : {A B D : Type 0} (f : A → List B) (g : B → List D) (xs : List A) → flat_map (λ x. flat_map g (f x)) xs ≡ flat_map g (flat_map f xs)
flat_map-flat_map f g [] = refl
flat_map-flat_map f g (x ∷ xs) = ap (λ t. flat_map g (f x) ++ t) (flat_map-flat_map f g xs) ∙ sym (flat_map-append g (f x) (flat_map f xs))

module _ {Message : Type 0} (C : Codec Message) (L : IsCodec C) where
  -- the lines of messages have spellings
  pub lines_spelled : (ms : List Message) → AllByRecursion C.IsSpelled ms → AllByRecursion HasSpelling (flat_map C.lines ms)
  lines_spelled [] all = tt
  lines_spelled (m ∷ ms) all = all-append HasSpelling (C.lines m) (flat_map C.lines ms) (L.spelled m all.0) (lines_spelled ms all.1)

  -- their bytes are those of their lines
  pub bytes_are : (ms : List Message) → bytes_of_all C ms ≡ flat_map spelling (flat_map C.lines ms)
  bytes_are ms = flat_map-flat_map C.lines spelling ms

  -- the bytes of messages are these messages
  pub messages_again : (ms : List Message) → AllByRecursion C.IsSpelled ms → messages_in C (bytes_of_all C ms) ≡ ms
  messages_again ms all = ap (λ t. messages_in C t) (bytes_are ms) ∙ ap C.gather (lines_again (flat_map C.lines ms) (lines_spelled ms all)) ∙ L.gathers ms all

  -- so a lane with the bytes of messages carries them
  pub carried : (lane : Way) (ms : List Message) → AllByRecursion C.IsSpelled ms → on_way lane ≡ bytes_of_all C ms → (messages C lane ≡ ms) × Carries C lane
  carried lane ms all e =
      let same : messages C lane ≡ ms = ap (λ t. messages_in C t) e ∙ messages_again ms all in
      (same, record { spelled = subst (AllByRecursion C.IsSpelled) (sym same) all; bytes = e ∙ ap (λ t. bytes_of_all C t) (sym same) })

  -- a new lane carries nothing
  pub carried-new : (messages C no_bytes ≡ []) × Carries C no_bytes
  carried-new = carried no_bytes [] tt refl

  -- a message that is written is last
  pub carried-sent : (lane : Way) (m : Message) → Carries C lane → C.IsSpelled m
      → (messages C (sent (bytes_of C m) lane) ≡ messages C lane ++ m ∷ []) × Carries C (sent (bytes_of C m) lane)
  carried-sent lane m is spelled =
      carried (sent (bytes_of C m) lane) (messages C lane ++ m ∷ []) (all-append C.IsSpelled (messages C lane) (m ∷ []) is.spelled (spelled, tt))
      (sym (append_assoc lane.read lane.stream (bytes_of C m))
      ∙ ap (λ t. t ++ bytes_of C m) is.bytes
      ∙ ap (λ t. bytes_of_all C (messages C lane) ++ t) (sym (append-nil (bytes_of C m)))
      ∙ sym (flat_map-append (bytes_of C) (messages C lane) (m ∷ [])))

  -- bytes that are moved change nothing
  pub same_way : (k : ℕ) (lane : Way) → on_way (moved k lane) ≡ on_way lane
  same_way k lane = append_assoc lane.read (take k lane.stream) (drop k lane.stream) ∙ ap (λ t. lane.read ++ t) (take-append-drop k lane.stream)

  pub carried-moved : (k : ℕ) (lane : Way) → Carries C lane → (messages C (moved k lane) ≡ messages C lane) × Carries C (moved k lane)
  carried-moved k lane is = carried (moved k lane) (messages C lane) is.spelled (same_way k lane ∙ is.bytes)

  -- the oldest message is handed over
  pub carried-handed : (lane : Way) (m : Message) (ms : List Message) → Carries C lane → messages C lane ≡ m ∷ ms
      → (messages C (handed_over (length (bytes_of C m)) lane) ≡ ms) × Carries C (handed_over (length (bytes_of C m)) lane)
  carried-handed lane m ms is first =
      let all : AllByRecursion C.IsSpelled (m ∷ ms) = subst (AllByRecursion C.IsSpelled) first is.spelled in
      carried (handed_over (length (bytes_of C m)) lane) ms all.1
      (drop-two (length (bytes_of C m)) lane.read lane.stream
      ∙ ap (drop (length (bytes_of C m))) (is.bytes ∙ ap (λ t. bytes_of_all C t) first)
      ∙ drop-append_seam (bytes_of C m) (bytes_of_all C ms))

  -- no byte is on its way if no message is
  pub idle : (lane : Way) → Carries C lane → messages C lane ≡ [] → IsIdle lane
  idle lane is none = none_both lane.read lane.stream (is.bytes ∙ ap (λ t. bytes_of_all C t) none)

  pub idle_none : (lane : Way) → Carries C lane → IsIdle lane → messages C lane ≡ []
  idle_none lane is none = (carried lane [] tt (ap (λ t. t ++ lane.stream) none.0 ∙ none.1)).0

-- Bytes that are moved, and a search for the oldest message.

-- the next line feed is no later than one that is there
feed_before : (before after : List ℕ) → next_feed (before ++ 10 ∷ after) ≤ length before
feed_before [] after = le_refl 0
feed_before (b ∷ before) after =
    elim (cases_Bool (b == 10)) [
      | inl here ↦ let e : next_feed (b ∷ (before ++ 10 ∷ after)) ≡ 0 = rw here refl in omega (arith, e)
      | inr later ↦
          let e : next_feed (b ∷ (before ++ 10 ∷ after)) ≡ suc (next_feed (before ++ 10 ∷ after)) = rw (later, one-add) refl in
          let rest = feed_before before after in
          omega (arith, e, rest)
    ]

-- lines end in a line feed
ends : (l : Line) (ls : List Line) → (x : List ℕ) × (flat_map spelling (l ∷ ls) ≡ x ++ 10 ∷ [])
ends l [] = (line_text l, append-nil (spelling l))
ends l (k ∷ ls) = let p = ends k ls in (spelling l ++ p.0, ap (λ t. spelling l ++ t) p.1 ∙ sym (append_assoc (spelling l) p.0 (10 ∷ [])))

some_ends : (ls : List Line) → 1 ≤ length ls → (x : List ℕ) × (flat_map spelling ls ≡ x ++ 10 ∷ [])
some_ends [] some = absurd (omega (arith, some))
some_ends (l ∷ ls) some = ends l ls

-- # Moves

pub moved-none : (w : Way) → moved 0 w ≡ w
moved-none w = ap (λ t. record { read = t; stream = w.stream }) (append-nil w.read)

pub moved-zero : (k : ℕ) (w : Way) → k ≡ 0 → moved k w ≡ w
moved-zero k w at_zero = ap (λ j. moved j w) at_zero ∙ moved-none w

pub moved-twice : (a b : ℕ) (w : Way) → moved b (moved a w) ≡ moved (a + b) w
moved-twice a b w = both _ _ _ _ (append_assoc w.read (take a w.stream) (take b (drop a w.stream)) ∙ ap (λ t. w.read ++ t) (sym (take-add a b w.stream))) (drop-drop b a w.stream)
  where
    both : (r s x y : List ℕ) → r ≡ s → x ≡ y → ◌≡◌ {A = Way} (record { read = r; stream = x }) (record { read = s; stream = y })
    both r s x y e f = ap (λ t. record { read = t; stream = x }) e ∙ ap (λ t. record { read = s; stream = t }) f

pub length-moved : (k : ℕ) (w : Way) → k ≤ length w.stream → length (moved k w).read ≡ length w.read + k
length-moved k w le = length-append w.read (take k w.stream) ∙ (let e = length-take k w.stream in omega (arith, e))

module _ {Message : Type 0} (C : Codec Message) where
  -- only bytes of the oldest message were moved, or none
  pub record IsTowards (old now : Way) : Type 0 where
    pub count : ℕ
    pub is : now ≡ moved count old
    pub within : count ≤ length old.stream
    pub short : (count ≡ 0) ⊎ (length now.read ≤ oldest_length C (messages C now))
    pub carries : Carries C now
    pub same : messages C now ≡ messages C old

  -- what a message is that the reader has
  pub whole_oldest : (ms : List Message) (read : List ℕ) (m : Message) → IsWholeOf C ms read (Some m) → (later : List Message) × (ms ≡ m ∷ later) × (length (bytes_of C m) ≤ length read)
  whole_oldest [] read m whole = absurd cc
  whole_oldest (x ∷ ms) read m whole = (ms, ap (λ t. t ∷ ms) (sym whole.0), subst (λ t. length (bytes_of C t) ≤ length read) (sym whole.0) whole.1)

module _ {Message : Type 0} (C : Codec Message) (L : IsCodec C) where
  -- what is on the way begins the lines of the messages
  pub leads : (w : Way) (k : ℕ) (stream : List ℕ) → stream ≡ w.stream → Carries C w → Leads (w.read ++ take k stream)
  leads w k stream e is = record {
    rest = drop k w.stream;
    lines = flat_map C.lines (messages C w);
    spelled = lines_spelled C L (messages C w) is.spelled;
    is = ap (λ s. (w.read ++ take k s) ++ drop k w.stream) e ∙ same_way C L k w ∙ is.bytes ∙ bytes_are C L (messages C w);
  }

  pub leads_all : (w : Way) (stream : List ℕ) → stream ≡ w.stream → Carries C w → Leads (w.read ++ stream)
  leads_all w stream e is = subst (λ s. Leads (w.read ++ s)) (take_all (length stream) stream (le_refl _)) (leads w (length stream) stream e is)

  whole_there : (w : Way) (o : Option Message) → Carries C w → IsFirstRead C w.read o → IsWhole C w o
  whole_there w o is first = first (messages C w) w.stream is.spelled is.bytes

  -- if some of its bytes are not read, a line feed is ahead, and not after its end
  feed_ahead : (w : Way) (m : Message) (ms : List Message) → Carries C w → messages C w ≡ m ∷ ms → length w.read < length (bytes_of C m)
      → (next_feed w.stream < length w.stream) × (length w.read + (next_feed w.stream + 1) ≤ length (bytes_of C m))
  feed_ahead w m ms is first lt =
      let end = some_ends (C.lines m) (L.some m) in
      let rest = bytes_of_all C ms in
      let whole : w.read ++ w.stream ≡ end.0 ++ 10 ∷ rest = is.bytes ∙ ap (λ t. bytes_of_all C t) first ∙ ap (λ t. t ++ rest) end.1 ∙ append_assoc end.0 (10 ∷ []) rest in
      let count = ap length end.1 ∙ length-append end.0 (10 ∷ []) in
      let low : length w.read ≤ length end.0 = omega (arith, count, lt) in
      let ahead : w.stream ≡ drop (length w.read) end.0 ++ 10 ∷ rest =
      sym (drop-append_seam w.read w.stream) ∙ ap (drop (length w.read)) whole ∙ drop-append-le (length w.read) end.0 (10 ∷ rest) low in
      let near : next_feed w.stream ≤ length (drop (length w.read) end.0) = subst (λ t. next_feed t ≤ length (drop (length w.read) end.0)) (sym ahead) (feed_before (drop (length w.read) end.0) rest) in
      let dropped = length-drop (length w.read) end.0 in
      let long = ap length ahead ∙ length-append (drop (length w.read) end.0) (10 ∷ rest) in
      (omega (arith, near, long), omega (arith, near, dropped, count, low))

  part_ahead : (w : Way) (ms : List Message) → messages C w ≡ ms → Carries C w → IsWholeOf C ms w.read None
      → (ms ≡ []) ⊎ ((next_feed w.stream < length w.stream) × (length w.read + (next_feed w.stream + 1) ≤ oldest_length C ms))
  part_ahead w [] e is part = inl refl
  part_ahead w (m ∷ ms) e is part = inr (feed_ahead w m ms is e part)

  pub towards-start : (old w : Way) → Carries C old → w ≡ old → IsTowards C old w
  towards-start old w is e = record { count = 0; is = e ∙ sym (moved-none old); within = omega arith; short = inl refl; carries = subst (Carries C) (sym e) is; same = ap (messages C) e }

  -- bytes through the next line feed
  pub towards-advance : (old w v : Way) (count : ℕ) → IsTowards C old w → IsFirstRead C w.read None → TakesLine w.read w.stream (Some count) v.read → v.stream ≡ drop count w.stream → IsTowards C old v
  towards-advance old w v count to part takes left_is =
      let at = next_feed w.stream + 1 in
      let more = takes.0 in
      let next : v ≡ moved at w =
      same_ways v (moved at w) (takes.2 ∙ ap (λ k. w.read ++ take k w.stream) takes.1) (left_is ∙ ap (λ k. drop k w.stream) takes.1) in
      let kept = carried-moved C L at w to.carries in
      let same = ap (messages C) next ∙ kept.0 in
      let left = ap (λ x. length x.stream) to.is ∙ length-drop to.count old.stream in
      let within = to.within in
      let long : length v.read ≡ length w.read + at = ap (λ x. length x.read) next ∙ length-moved at w (omega (arith, more)) in
      let oldest = ap (oldest_length C) same in
      let low : length v.read ≤ oldest_length C (messages C v) =
      elim (part_ahead w (messages C w) refl to.carries (whole_there w None to.carries part)) [
        | inl none ↦ absurd (let empty = ap length (idle C L w to.carries none).1 in omega (arith, empty, more))
        | inr ahead ↦ (let near = ahead.1 in omega (arith, long, near, oldest))
      ] in
      record {
        count = to.count + at;
        is = next ∙ ap (moved at) to.is ∙ moved-twice to.count at old;
        within = omega (arith, left, within, more);
        short = inr low;
        carries = subst (Carries C) (sym next) kept.1;
        same = same ∙ to.same;
      }

  -- the message is there
  pub filled-some : (old w : Way) (k : ℕ) (m : Message) → k ≡ 0 → IsTowards C old w → IsFirstRead C w.read (Some m) → IsFilled C old (moved k w) (Some m)
  filled-some old w k m at_zero to first =
      let oldest = whole_oldest C (messages C w) w.read m (whole_there w (Some m) to.carries first) in
      let long = ap (λ t. length t.read) to.is ∙ length-moved to.count old to.within in
      let high = oldest.2 in
      let most = ap (oldest_length C) oldest.1 in
      let count : to.count ≡ length (bytes_of C m) - length old.read =
      elim to.short [
        | inl none ↦ omega (arith, none, high, long)
        | inr short ↦ omega (arith, short, most, high, long)
      ] in
      (oldest.0, sym to.same ∙ oldest.1, moved-zero k w at_zero ∙ to.is ∙ ap (λ n. moved n old) count)

  -- there is none
  pub filled-none : (old w v : Way) (k : ℕ) → k ≡ 0 → IsTowards C old w → IsFirstRead C w.read None → TakesLine w.read w.stream None v.read → v.stream ≡ w.stream → IsFilled C old (moved k v) None
  filled-none old w v k at_zero to part takes stays =
      let no_feed = takes.0 in
      let none : messages C w ≡ [] =
      elim (part_ahead w (messages C w) refl to.carries (whole_there w None to.carries part)) [
        | inl none ↦ none
        | inr ahead ↦ absurd (let more = ahead.0 in omega (arith, more, no_feed))
      ] in
      let long = ap (λ t. length t.read) to.is ∙ length-moved to.count old to.within in
      let empty = ap length (idle C L w to.carries none).0 in
      let still : to.count ≡ 0 = omega (arith, long, empty) in
      (sym to.same ∙ none, moved-zero k v at_zero ∙ same_ways v w takes.1 stays ∙ to.is ∙ moved-zero to.count old still)

-- A message that is read in place, before the reader is given its bytes.

-- # Bytes that count as moved

module _ {Message : Type 0} (C : Codec Message) (L : IsCodec C) where
  -- none do
  lane_plain : (k : ℕ) (w : Way) → k ≡ 0 → Carries C w → IsLane C k w
  lane_plain k w at_zero is = record { carries = is; within = omega (arith, at_zero); oldest = inl at_zero }

  -- as on a new lane
  pub new_lane : (w : Way) → w.read ≡ [] → w.stream ≡ [] → IsLane C 0 w × (messages C (moved 0 w) ≡ [])
  new_lane w read stream =
      let new = carried-new C L in
      let none : w ≡ no_bytes = same_ways w no_bytes read stream in
      (lane_plain 0 w refl (subst (Carries C) (sym none) new.1), ap (messages C) (moved-none w ∙ none) ∙ new.0)

  -- they stay so when a message is written
  pub record Sent (k : ℕ) (w : Way) (m : Message) : Type 0 where
    pub lane : IsLane C k (sent (bytes_of C m) w)
    pub is : moved k (sent (bytes_of C m) w) ≡ sent (bytes_of C m) (moved k w)
    pub last : messages C (moved k (sent (bytes_of C m) w)) ≡ messages C (moved k w) ++ m ∷ []

  still_oldest : (ms : List Message) (m : Message) (k : ℕ) → k ≡ oldest_length C ms → (k ≡ 0) ⊎ (k ≡ oldest_length C (ms ++ m ∷ []))
  still_oldest [] m k is = inl is
  still_oldest (x ∷ ms) m k is = inr is

  pub sent_on : (k : ℕ) (w : Way) (m : Message) → IsLane C k w → C.IsSpelled m → Sent k w m
  sent_on k w m is spelled =
      let bytes = bytes_of C m in
      let now = sent bytes w in
      let new = carried-sent C L w m is.carries spelled in
      let long = length-append w.stream bytes in
      let within = is.within in
      let oldest : (k ≡ 0) ⊎ ((w.read ≡ []) × (k ≡ oldest_length C (messages C now))) =
      elim is.oldest [
        | inl none ↦ inl none
        | inr there ↦ elim (still_oldest (messages C w) m k there.1) [ inl none ↦ inl none | inr e ↦ inr (there.0, e ∙ sym (ap (oldest_length C) new.0)) ]
      ] in
      record {
        lane = record { carries = new.1; within = omega (arith, long, within); oldest = oldest };
        is = same_ways (moved k now) (sent bytes (moved k w)) (ap (λ t. w.read ++ t) (take-append-le k w.stream bytes within)) (drop-append-le k w.stream bytes within);
        last = (carried-moved C L k now new.1).0 ∙ new.0 ∙ ap (λ ms. ms ++ m ∷ []) (sym (carried-moved C L k w is.carries).0);
      }

  -- all of a stream counts as moved
  pub stream_empty : (k : ℕ) (w : Way) → IsLane C k w → (length w.stream ≡ k) ↔ (drop k w.stream ≡ [])
  stream_empty k w is = (λ e. drop_all k w.stream (omega (arith, e)), λ e. let within = is.within in let rest = length-drop k w.stream in let none = ap length e in omega (arith, within, rest, none))

  -- no byte is on its way, whether some count as moved or not
  pub idle_ahead : (k : ℕ) (w : Way) → IsIdle (moved k w) ↔ IsIdle w
  idle_ahead k w = (forth, back)
    where
      forth : IsIdle (moved k w) → IsIdle w
      forth idle = let front = none_both w.read (take k w.stream) idle.0 in (front.0, sym (take-append-drop k w.stream) ∙ ap (λ t. t ++ drop k w.stream) front.1 ∙ idle.1)

      back : IsIdle w → IsIdle (moved k w)
      back idle = (ap (λ t. t ++ take k w.stream) idle.0 ∙ ap (take k) idle.1 ∙ take-nil k, ap (drop k) idle.1 ∙ drop-nil k)

  pub idle_same : (k : ℕ) (w : Way) (b : Bool) → Carries C w → (IsTrue b ↔ IsIdle w) → IsTrue b ↔ (messages C (moved k w) ≡ [])
  idle_same k w b is test =
      let same = (carried-moved C L k w is).0 in
      (λ t. same ∙ idle_none C L w is (test.0 t), λ none. test.1 (idle C L w is (sym same ∙ none)))

  -- # Reading a message where it stands

  -- so many bytes count as moved, and the message of which they are is the oldest
  pub record ReadAhead (old w : Way) (len : ℕ) (m : Message) : Type 0 where
    pub filled : IsFilled C old (moved len w) (Some m)
    pub whole : IsWhole C (moved len w) (Some m)
    pub lane : IsLane C len w

  moved_on : (k n : ℕ) (w : Way) → w.read ≡ [] → k ≤ length w.stream → k ≤ n → moved n w ≡ filled_to n (moved k w)
  moved_on k n w none le short =
      let read = ap length none in
      let long = length-moved k w le in
      let all : n ≡ k + (n - length (moved k w).read) = omega (arith, read, long, short) in
      ap (λ j. moved j w) all ∙ sym (moved-twice k (n - length (moved k w).read) w)

  pub read_there : (before : ℕ) (w old : Way) (len : ℕ) (m : Message) → IsLane C before w → moved before w ≡ old → w.read ≡ [] → BeginsLines (C.lines m) len w.stream
      → ((lines : List Line) → C.gather (C.lines m ++ lines) ≡ m ∷ C.gather lines) → ReadAhead old w len m
  read_there before w old len m lane view none is front =
      let n = length (bytes_of C m) in
      let later = C.gather (lines_in is.rest) in
      let first : messages C w ≡ m ∷ later =
      ap (λ t. messages_in C (t ++ w.stream)) none ∙ ap (messages_in C) is.stands ∙ ap C.gather (lines_first (C.lines m) is.rest is.spelled) ∙ front (lines_in is.rest) in
      let oldest : oldest_length C (messages C w) ≡ n = ap (oldest_length C) first in
      let all = ap length is.stands ∙ length-append (bytes_of C m) is.rest in
      let is_long = is.long in
      let within : len ≤ length w.stream = omega (arith, all, is_long) in
      let short : before ≤ len =
      elim lane.oldest [
        | inl zero_before ↦ omega (arith, zero_before)
        | inr there ↦ (let e = there.1 in omega (arith, e, oldest, is_long))
      ] in
      let same : (k : ℕ) → messages C (moved k w) ≡ m ∷ later = λ k. (carried-moved C L k w lane.carries).0 ∙ first in
      let long = length-moved len w within in
      record {
        filled = subst (λ v. IsFilled C v (moved len w) (Some m)) view (later, same before, moved_on before len w none lane.within short ∙ ap (λ n. filled_to n (moved before w)) is_long);
        whole = subst (λ ms. IsWholeOf C ms (moved len w).read (Some m)) (sym (same len)) (refl, omega (arith, long, is_long));
        lane = record { carries = lane.carries; within = within; oldest = inr (none, is_long ∙ sym oldest) };
      }

  -- # Handing over

  -- the bytes of the oldest message come first
  pub front_is : (k : ℕ) (w v : Way) (m : Message) → k ≡ 0 → IsLane C k w → moved k w ≡ v → IsWhole C v (Some m) → (later : List ℕ) × C.IsSpelled m × (w.read ≡ bytes_of C m ++ later)
  front_is k w v m at_zero is view whole =
      let oldest = whole_oldest C (messages C w) w.read m (subst (λ u. IsWhole C u (Some m)) (sym view ∙ moved-zero k w at_zero) whole) in
      let all = subst (AllByRecursion C.IsSpelled) oldest.1 is.carries.spelled in
      (_, all.0, begins w.read w.stream (bytes_of C m) (bytes_of_all C oldest.0) (is.carries.bytes ∙ ap (λ t. bytes_of_all C t) oldest.1) oldest.2)

  pub record HandedOver (v : Way) (m : Message) (k : ℕ) (w : Way) : Type 0 where
    pub lane : IsLane C k w
    pub is : moved k w ≡ handed_over (length (bytes_of C m)) v
    pub first : messages C v ≡ m ∷ messages C (moved k w)

  handed : (k j : ℕ) (u v : Way) (m : Message) (w : Way) → IsLane C j u → moved j u ≡ v → IsWhole C v (Some m) → k ≡ 0 → w ≡ handed_over (length (bytes_of C m)) v → HandedOver v m k w
  handed k j u v m w is view whole at_zero e =
      let oldest = whole_oldest C (messages C v) v.read m whole in
      let now = carried-handed C L v m oldest.0 (subst (Carries C) view (carried-moved C L j u is.carries).1) oldest.1 in
      let here = moved-zero k w at_zero ∙ e in
      record { lane = lane_plain k w at_zero (subst (Carries C) (sym e) now.1); is = here; first = oldest.1 ∙ ap (λ ms. m ∷ ms) (sym (ap (messages C) here ∙ now.0)) }

  -- they go from the reader
  pub handed_read : (k : ℕ) (w v : Way) (m : Message) (left : List ℕ) → k ≡ 0 → IsLane C k w → moved k w ≡ v → IsWhole C v (Some m) → w.read ≡ bytes_of C m ++ left
      → HandedOver v m k (record { read = left; stream = w.stream })
  handed_read k w v m left at_zero is view whole e =
      let n = length (bytes_of C m) in
      let long = ap length e ∙ length-append (bytes_of C m) left in
      let none : 0 ≡ n - length w.read = omega (arith, long) in
      let now = same_ways (record { read = left; stream = w.stream }) (handed_over n w) (sym (drop-append_seam (bytes_of C m) left) ∙ ap (drop n) (sym e)) (ap (λ j. drop j w.stream) none) in
      handed k k w v m (record { read = left; stream = w.stream }) is view whole at_zero (now ∙ ap (handed_over n) (sym (moved-zero k w at_zero) ∙ view))

  -- or from the stream
  pub handed_there : (k : ℕ) (w v : Way) (m : Message) (left : List ℕ) → k ≢ 0 → IsLane C k w → moved k w ≡ v → IsWhole C v (Some m) → left ≡ drop k w.stream
      → HandedOver v m 0 (record { read = w.read; stream = left })
  handed_there k w v m left some is view whole cut =
      elim is.oldest [
        | inl zero_k ↦ absurd (some zero_k)
        | inr there ↦
            let n = length (bytes_of C m) in
            let seen = moved k w in
            let oldest = whole_oldest C (messages C v) v.read m whole in
            let same : k ≡ n = there.1 ∙ ap (oldest_length C) (sym (carried-moved C L k w is.carries).0 ∙ ap (messages C) view ∙ oldest.1) in
            let none = ap length there.0 in
            let long = length-moved k w is.within in
            let all : 0 ≡ n - length seen.read = omega (arith, none, long, same) in
            let now = same_ways (record { read = w.read; stream = left }) (handed_over n seen) (there.0 ∙ sym (drop_all n seen.read (omega (arith, none, long, same)))) (cut ∙ ap (λ j. drop j seen.stream) all) in
            handed 0 k w v m (record { read = w.read; stream = left }) is view whole refl (now ∙ ap (handed_over n) view)
      ]

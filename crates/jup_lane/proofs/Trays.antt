-- What a reader was given, and the messages that it is.
use Rattle.std.proofs.Common.{◌≡◌, ◌==◌, inl, inr, ℕ, ◌+◌, ◌<◌, ◌≤◌, true, List, [], ◌∷◌, ◌++◌, length, take, drop, Option, Some, None, Ok, refl, sym, ap, subst, ◌∙◌, append_assoc, append-nil, arith, length-append, length-take, take-append-drop, position, MatchOption, get_or, Result, le_refl, ok_or, option_to_list}
use Rattle.std.specs.List.{flat_map, AllByRecursion}
use Rattle.std.proofs.lemmas.Bool.{cases_lt, cond-true, cond-false, lt-ltb, le-ltb, false≢true}
use Rattle.std.proofs.lemmas.Option.{MatchOption-at_none}
use Rattle.std.proofs.lemmas.List.Concat.{flat_map-append, flat_map-cons}
use Rattle.std.proofs.Math.Seq.{drop-append_seam, take-append_seam}
use Rattle.std.specs.Result.{result_ok}
use Rattle.std.proofs.lemmas.List.{nil_from_length, length-map}
use Rattle.jup_lane.specs.Prelude.{BoardOp, BoardBatch, Line, Batch, Do, Progress, IsPart as IsLinePart, line_reader, Gathered, Whole, Plain, Held, Misplaced, Ghosts}
use Rattle.jup_wire.specs.declared.line.Line.TheVariants as line
use Rattle.jup_wire.specs.Lines.{line_text, spelling, HasSpelling}
use Rattle.jup_wire.specs.Streams.{HasRead, Faults, ending_at}
use Rattle.jup_wire.proofs.Streams.{all-append, before_feed, on_the_way}
use Rattle.jup_wire.proofs.Spellings.{lacks, split_found, split_parts}
use Rattle.jup_gather.specs.Gathering.{Piece, Message, Alone, piece_lines, IsPiece, BeginsNone, IsPart, Gathers, IsSound, message_given, IsWay, up_way, down_way}
use Rattle.jup_gather.proofs.Gathering.{one_piece, part_begins_none, dos}
use Rattle.jup_lane.specs.Lanes.{Codec, IsCodec, IsFirst, IsFirstIn, bytes_of, bytes_of_all, lines_behind, lines_in, IsWholeOf, IsFirstRead, tray_bytes, IsTray, Leads, next_feed, codec, IsFirstOf, operations_of, pieces_in, codec_of, ups, downs}
use Rattle.jup_lane.proofs.Lanes.{lines_first, lines_again, lines_before, none_both, begins, lines_spelled, bytes_are}
use Rattle.jup_gather.specs.Prelude.{Msg}
use Rattle.jup_wire.specs.declared.faults.WireFault.{WireFault}

-- A tray, as its reader takes bytes of lines and as messages are handed over.

-- # What a reader has read

-- a new one holds nothing
pub new_tray : (p : Progress) → HasRead [] [] p → (lines : List Line) → lines ≡ [] → IsTray lines p × (tray_bytes lines p ≡ [])
new_tray p read lines none =
    let on = on_the_way [] [] [] [] p tt read refl in
    let rest = MatchOption-at_none _ (λ fault. Faults fault [] []) on.0 read.rest in
    (record { faultless = on.0; spelled = subst (AllByRecursion HasSpelling) (sym none) tt; part = rest.1 }, rw none (sym rest.0))

has_read : (lines : List Line) (p : Progress) → IsTray lines p → HasRead (tray_bytes lines p) lines p
has_read lines p is = record {
  spelled = is.spelled;
  rest = subst (λ (o : Option WireFault). MatchOption o ((tray_bytes lines p ≡ tray_bytes lines p) × IsLinePart p.part) (λ fault. Faults fault (tray_bytes lines p) lines)) (sym is.faultless) (refl, is.part);
}

-- bytes of lines are read without a fault
pub taken_in : (lines new now : List Line) (p r q : Progress) (bytes : List ℕ) → IsTray lines p → Leads (tray_bytes lines p ++ bytes) → r ≡ p
    → ((before : List ℕ) (ls : List Line) → HasRead before ls r → HasRead (before ++ bytes) (ls ++ new) q) → now ≡ lines ++ new → IsTray now q × (tray_bytes now q ≡ tray_bytes lines p ++ bytes)
taken_in lines new now p r q bytes is leads same reads put =
    let all = tray_bytes lines p ++ bytes in
    let read = reads (tray_bytes lines p) lines (subst (HasRead (tray_bytes lines p) lines) (sym same) (has_read lines p is)) in
    let on = on_the_way all leads.rest (lines ++ new) leads.lines q leads.spelled read leads.is in
    let rest = MatchOption-at_none _ (λ fault. Faults fault all (lines ++ new)) on.0 read.rest in
    subst (λ ls. IsTray ls q × (tray_bytes ls q ≡ all)) (sym put) (record { faultless = on.0; spelled = read.spelled; part = rest.1 }, sym rest.0)

-- a reader that may end holds no part of a line
pub no_part : (fault : Option WireFault) (part : List ℕ) → ending_at fault part ≡ Ok tt → part ≡ []
no_part (Some f) part e = absurd (cc)
no_part None [] e = refl
no_part None (b ∷ part) e = absurd (cc)

-- lines have bytes
pub no_lines : (lines : List Line) (part : List ℕ) → flat_map spelling lines ++ part ≡ [] → (lines ≡ []) × (part ≡ [])
no_lines [] part e = (refl, e)
no_lines (l ∷ lines) part e =
    let none = ap length (none_both (spelling l) (flat_map spelling lines) (none_both (flat_map spelling (l ∷ lines)) part e).0).0 in
    let long = length-append (line_text l) (10 ∷ []) in
    absurd (omega (arith, none, long))

-- fewer bytes begin the same lines
pub leads_less : (before bytes : List ℕ) (k : ℕ) → Leads (before ++ bytes) → Leads (before ++ take k bytes)
leads_less before bytes k leads = record {
  rest = drop k bytes ++ leads.rest;
  lines = leads.lines;
  spelled = leads.spelled;
  is = sym (append_assoc (before ++ take k bytes) (drop k bytes) leads.rest)
      ∙ ap (λ t. t ++ leads.rest) (append_assoc before (take k bytes) (drop k bytes) ∙ ap (λ t. before ++ t) (take-append-drop k bytes)) ∙ leads.is;
}

-- # The line before the next line feed

-- what a search for it says
pub feed_found : (r : Option ℕ) (stream : List ℕ) → r ≡ position (λ byte. byte == 10) stream → MatchOption r (length stream ≤ next_feed stream) (λ at. at ≡ next_feed stream)
feed_found r stream e =
    elim (cases_lt (next_feed stream) (length stream)) [
      | inl lt ↦ subst (λ (o : Option ℕ). MatchOption o (length stream ≤ next_feed stream) (λ at. at ≡ next_feed stream)) (sym (e ∙ cond-true _ (Some (next_feed stream)) None (lt-ltb _ _ lt))) refl
      | inr le ↦ subst (λ (o : Option ℕ). MatchOption o (length stream ≤ next_feed stream) (λ at. at ≡ next_feed stream)) (sym (e ∙ cond-false _ (Some (next_feed stream)) None (le-ltb _ _ le))) le
    ]

-- what comes before it and after it
feed_cut : (stream : List ℕ) → next_feed stream < length stream
    → (stream ≡ take (next_feed stream) stream ++ 10 ∷ drop (next_feed stream + 1) stream) × (lacks 10 (take (next_feed stream) stream) ≡ true)
feed_cut stream lt = split_parts 10 stream _ _ (split_found 10 stream lt)

all-behind : {A : Type 0} (P : A → Type 0) (xs ys : List A) → AllByRecursion P (xs ++ ys) → AllByRecursion P ys
all-behind P [] ys all = all
all-behind P (x ∷ xs) ys all = all-behind P xs ys all.1

-- lines begin with the text of the first, which ends at the first line feed
first_text : (stream rest : List ℕ) (lines : List Line) → AllByRecursion HasSpelling lines → stream ++ rest ≡ flat_map spelling lines → next_feed stream < length stream
    → (line : Line) × HasSpelling line × (take (next_feed stream) stream ≡ line_text line)
first_text stream rest [] all e lt = absurd (let none = ap length (none_both stream rest e).0 in omega (arith, none, lt))
first_text stream rest (l ∷ ls) all e lt =
    let cut = feed_cut stream lt in
    let text = take (next_feed stream) stream in
    let behind = drop (next_feed stream + 1) stream in
    let here : stream ++ rest ≡ text ++ 10 ∷ (behind ++ rest) = ap (λ t. t ++ rest) cut.0 ∙ append_assoc text (10 ∷ behind) rest in
    let whole : stream ++ rest ≡ line_text l ++ 10 ∷ flat_map spelling ls = e ∙ append_assoc (line_text l) (10 ∷ []) (flat_map spelling ls) in
    (l, all.0, (before_feed text (line_text l) (behind ++ rest) (flat_map spelling ls) cut.1 (line_reader.one_line l all.0) (sym here ∙ whole)).0)

-- if the reader holds no part of a line, the bytes before the next line feed are those of a line
pub line_ahead : (lines : List Line) (p : Progress) (stream : List ℕ) → IsTray lines p → Leads (tray_bytes lines p ++ stream) → p.part ≡ [] → next_feed stream < length stream
    → (line : Line) × HasSpelling line × (take (next_feed stream) stream ≡ line_text line)
line_ahead lines p stream is leads none lt =
    let on = on_the_way (tray_bytes lines p) (stream ++ leads.rest) lines leads.lines p leads.spelled (has_read lines p is) (sym (append_assoc (tray_bytes lines p) stream leads.rest) ∙ leads.is) in
    first_text stream leads.rest on.1.0 (all-behind HasSpelling lines on.1.0 (subst (AllByRecursion HasSpelling) on.1.1 leads.spelled)) (ap (λ t. t ++ (stream ++ leads.rest)) (sym none) ∙ on.1.2) lt

-- and the line that is read from them goes into the tray
pub line_taken : (lines now : List Line) (line : Line) (p : Progress) (stream : List ℕ) → IsTray lines p → p.part ≡ [] → next_feed stream < length stream → HasSpelling line
    → take (next_feed stream) stream ≡ line_text line → now ≡ lines ++ line ∷ [] → IsTray now p × (tray_bytes now p ≡ tray_bytes lines p ++ take (next_feed stream + 1) stream)
line_taken lines now line p stream is none lt spelled text put =
    let at = next_feed stream in
    let rest = drop (at + 1) stream in
    let cut : stream ≡ spelling line ++ rest = (feed_cut stream lt).0 ∙ ap (λ t. t ++ 10 ∷ rest) text ∙ sym (append_assoc (line_text line) (10 ∷ []) rest) in
    let same = ap length text in
    let front = length-take at stream in
    let both = length-append (line_text line) (10 ∷ []) in
    let long : at + 1 ≡ length (spelling line) = omega (arith, front, same, both, lt) in
    let through : take (at + 1) stream ≡ spelling line = ap (λ n. take n stream) long ∙ ap (take (length (spelling line))) cut ∙ take-append_seam (spelling line) rest in
    let bytes : tray_bytes (lines ++ line ∷ []) p ≡ tray_bytes lines p ++ take (at + 1) stream =
    rw (none, append-nil (flat_map spelling (lines ++ line ∷ [])), append-nil (flat_map spelling lines), through)
    (flat_map-append spelling lines (line ∷ []) ∙ ap (λ t. flat_map spelling lines ++ t) (append-nil (spelling line))) in
    subst (λ ls. IsTray ls p × (tray_bytes ls p ≡ tray_bytes lines p ++ take (at + 1) stream)) (sym put)
    (record { faultless = is.faultless; spelled = all-append HasSpelling lines (line ∷ []) is.spelled (spelled, tt); part = is.part }, bytes)

module _ {Message : Type 0} (C : Codec Message) (L : IsCodec C) where
  -- # The message that its bytes begin with

  -- its lines are there
  front_lines : (lines : List Line) (p : Progress) (m : Message) (later : List ℕ) → IsTray lines p → C.IsSpelled m → tray_bytes lines p ≡ bytes_of C m ++ later → lines ≡ C.lines m ++ lines_in later
  front_lines lines p m later is spelled e = sym (lines_before lines p.part is.spelled is.part) ∙ ap lines_in e ∙ lines_first (C.lines m) later (L.spelled m spelled)

  -- and are dropped
  pub dropped : (lines now : List Line) (p : Progress) (m : Message) (later : List ℕ) → IsTray lines p → C.IsSpelled m → tray_bytes lines p ≡ bytes_of C m ++ later → now ≡ drop (length (C.lines m)) lines
      → IsTray now p × (tray_bytes lines p ≡ bytes_of C m ++ tray_bytes now p)
  dropped lines now p m later is spelled e put =
      let rest = lines_in later in
      let cut = front_lines lines p m later is spelled e in
      let left : now ≡ rest = put ∙ ap (drop (length (C.lines m))) cut ∙ drop-append_seam (C.lines m) rest in
      let bytes : tray_bytes lines p ≡ bytes_of C m ++ tray_bytes rest p =
      ap (λ ls. tray_bytes ls p) cut ∙ ap (λ t. t ++ p.part) (flat_map-append spelling (C.lines m) rest) ∙ append_assoc (bytes_of C m) (flat_map spelling rest) p.part in
      subst (λ ls. IsTray ls p × (tray_bytes lines p ≡ bytes_of C m ++ tray_bytes ls p)) (sym left)
      (record { faultless = is.faultless; spelled = all-behind HasSpelling (C.lines m) rest (subst (AllByRecursion HasSpelling) cut is.spelled); part = is.part }, bytes)

  -- what begins its lines begins its bytes
  first_there : (lines : List Line) (p : Progress) (ms : List Message) (rest : List ℕ) (more : List Line) (o : Option Message) → IsTray lines p → AllByRecursion C.IsSpelled ms
      → tray_bytes lines p ++ rest ≡ bytes_of_all C ms → lines ++ more ≡ flat_map C.lines ms → IsFirst C.lines lines ms o → IsWholeOf C ms (tray_bytes lines p) o
  first_there lines p [] rest more o is spelled e all first = first
  first_there lines p (m ∷ ms) rest more (Some x) is spelled e all first =
      let left = drop (length (C.lines m)) lines in
      let bytes = ap (λ ls. tray_bytes ls p) (begins lines more (C.lines m) (flat_map C.lines ms) all first.1) ∙ ap (λ t. t ++ p.part) (flat_map-append spelling (C.lines m) left) in
      let long = ap length bytes ∙ length-append (bytes_of C m ++ flat_map spelling left) p.part in
      let front = length-append (bytes_of C m) (flat_map spelling left) in
      (first.0, omega (arith, long, front))
  first_there lines p (m ∷ ms) rest more None is spelled e all first =
      elim (cases_lt (length (tray_bytes lines p)) (length (bytes_of C m))) [
        | inl lt ↦ lt
        | inr le ↦
            let later = drop (length (bytes_of C m)) (tray_bytes lines p) in
            let cut = front_lines lines p m later is spelled.0 (begins (tray_bytes lines p) rest (bytes_of C m) (bytes_of_all C ms) e le) in
            absurd (let long = ap length cut ∙ length-append (C.lines m) (lines_in later) in omega (arith, long, first))
      ]

  pub first_read : (lines : List Line) (p : Progress) (read : List ℕ) (o : Option Message) → IsTray lines p → tray_bytes lines p ≡ read → IsFirstIn C lines o → IsFirstRead C read o
  first_read lines p read o is view firsts ms rest spelled e =
      let more = lines_behind (p.part ++ rest) [] in
      let whole : tray_bytes lines p ++ rest ≡ bytes_of_all C ms = ap (λ t. t ++ rest) view ∙ e in
      let bytes : flat_map spelling lines ++ (p.part ++ rest) ≡ flat_map spelling (flat_map C.lines ms) = sym (append_assoc (flat_map spelling lines) p.part rest) ∙ whole ∙ bytes_are C L ms in
      let all = sym (lines_first lines (p.part ++ rest) is.spelled) ∙ ap lines_in bytes ∙ lines_again (flat_map C.lines ms) (lines_spelled C L ms spelled) in
      subst (λ t. IsWholeOf C ms t o) view (first_there lines p ms rest more o is spelled whole all (firsts ms more spelled all))

-- What lines begin with, by what they are gathered to.

-- ---- lines that are gone over

-- the lines so far are a part that is held, and these are left
abbrev pub IsHeld : Option (List Line) → List Line → List Line → Type 0
IsHeld held left there = MatchOption held ⊥ (λ part. (part ++ left ≡ there) × IsPart part)

pub held_first : (held : Option (List Line)) (left there : List Line) → held ≡ Some [] → IsPart [] → left ≡ there → IsHeld held left there
held_first held left there none part same = subst (λ h. IsHeld h left there) (sym none) (same, part)

pub held_more : (held new : Option (List Line)) (left rest there : List Line) (line : Line) (gathered : Gathered) → IsHeld held left there → left ≡ line ∷ rest → Gathers held line gathered new → gathered ≡ Held → IsHeld new rest there
held_more None new left rest there line gathered is cut step e = absurd is
held_more (Some part) new left rest there line gathered is cut step e =
    let next : Gathers (Some part) line Held new = subst (λ g. Gathers (Some part) line g new) e step in
    subst (λ h. IsHeld h rest there) (sym next.1) (append_assoc part (line ∷ []) rest ∙ ap (λ ls. part ++ ls) (sym cut) ∙ is.0, next.0)

found : (part : List Line) (line : Line) (rest : List Line) (gathered : Gathered) (new : Option (List Line)) → Gathers (Some part) line gathered new → (gathered ≡ Held → ⊥) → IsFirstOf (part ++ line ∷ rest) (Some gathered)
found part line rest (Whole m) new step other = (step.0, (rest, sym (append_assoc part (line ∷ []) rest) ∙ ap (λ ls. ls ++ rest) step.1))
found part line rest (Plain plain) new step other = (subst (λ l. IsPiece (Alone l)) (sym step.2) step.1, (rest, ap (λ ls. ls ++ line ∷ rest) step.0 ∙ ap (λ l. l ∷ rest) (sym step.2)))
found part line rest Held new step other = absurd (other refl)
found part line rest Misplaced new step other = λ more piece later is e. step.0 (rest ++ more) piece later is (sym (append_assoc part (line ∷ rest) more) ∙ e)

pub first_found : (held new : Option (List Line)) (left rest there : List Line) (line : Line) (gathered : Gathered) → IsHeld held left there → left ≡ line ∷ rest → Gathers held line gathered new → (gathered ≡ Held → ⊥) → IsFirstOf there (Some gathered)
first_found None new left rest there line gathered is cut step other = absurd is
first_found (Some part) new left rest there line gathered is cut step other =
    subst (λ ls. IsFirstOf ls (Some gathered)) (ap (λ ls. part ++ ls) (sym cut) ∙ is.0) (found part line rest gathered new step other)

pub none_found : (held : Option (List Line)) (left there : List Line) → IsHeld held left there → length left ≡ 0 → BeginsNone there
none_found None left there is none = absurd is
none_found (Some part) left there is none =
    part_begins_none there (subst IsPart (sym (append-nil part) ∙ ap (λ ls. part ++ ls) (sym (nil_from_length left none)) ∙ is.0) is.1)

-- a batch line of one operation, and then the operation
pub single_there : (there : List Line) (mine heard count : ℕ) (op : BoardOp) (ops : BoardBatch) (x y : Line) → 1 < length there → x ≡ get_or there 0 x → y ≡ get_or there 1 y → x ≡ line.Batch mine heard count → count ≡ 1
    → y ≡ line.Do op → ops ≡ op ∷ [] → IsFirstOf there (Some (Whole (record { mine = mine; heard = heard; op = ops })))
single_there [] mine heard count op ops x y long first second batch one do_line is = absurd (omega (arith, long))
single_there (a ∷ []) mine heard count op ops x y long first second batch one do_line is = absurd (omega (arith, long))
single_there (a ∷ b ∷ rest) mine heard count op ops x y long first second batch one do_line is =
    let head : a ≡ line.Batch mine heard 1 = cc in
    let next : b ≡ line.Do op = cc in
    let lines : a ∷ b ∷ rest ≡ line.Batch mine heard 1 ∷ line.Do op ∷ rest = cc in
    subst (λ (all : BoardBatch). IsFirstOf (a ∷ b ∷ rest) (Some (Whole (record { mine = mine; heard = heard; op = all })))) (sym is) ((omega arith, omega arith), (rest, lines))

-- ---- lines that begin those of messages

-- what begins some lines, if a piece's lines are the first of them and of those after
IsPieceThere : Piece → List Line → Option Gathered → Type 0
IsPieceThere piece there None = length there < length (piece_lines piece)
IsPieceThere piece there (Some (Whole m)) = (piece ≡ Message m) × (length (piece_lines piece) ≤ length there)
IsPieceThere piece there (Some (Plain plain)) = (piece ≡ Alone plain) × (length (piece_lines piece) ≤ length there)
IsPieceThere piece there (Some Held) = ⊥
IsPieceThere piece there (Some Misplaced) = ⊥

there_is : (there more : List Line) (piece other : Piece) (rest later : List Line) → IsPiece piece → IsPiece other → there ≡ piece_lines other ++ rest → there ++ more ≡ piece_lines piece ++ later
    → (piece ≡ other) × (length (piece_lines piece) ≤ length there)
there_is there more piece other rest later is is_other e all =
    let both : piece_lines piece ++ later ≡ piece_lines other ++ (rest ++ more) = sym all ∙ ap (λ ls. ls ++ more) e ∙ append_assoc (piece_lines other) rest more in
    let one = one_piece piece other later (rest ++ more) is is_other both in
    let long : length there ≡ length (piece_lines piece) + length rest = ap length e ∙ length-append (piece_lines other) rest ∙ ap (λ p. length (piece_lines p) + length rest) (sym one.0) in
    (one.0, omega (arith, long))

piece_there : (there more : List Line) (piece : Piece) (later : List Line) (first : Option Gathered) → IsPiece piece → there ++ more ≡ piece_lines piece ++ later → IsFirstOf there first → IsPieceThere piece there first
unfolding IsPieceThere
piece_there there more piece later None is all none =
    elim (cases_lt (length there) (length (piece_lines piece))) [
      | inl lt ↦ lt
      | inr le ↦ absurd (none piece (drop (length (piece_lines piece)) there) is (begins there more (piece_lines piece) later all le))
    ]
piece_there there more piece later (Some (Whole m)) is all first = there_is there more piece (Message m) first.1.0 later is first.0 first.1.1 all
piece_there there more piece later (Some (Plain plain)) is all first = there_is there more piece (Alone plain) first.1.0 later is first.0 first.1.1 all
piece_there there more piece later (Some Held) is all first = first
piece_there there more piece later (Some Misplaced) is all none = none more piece later is all

-- no lines, no message
nothing_there : (there more : List Line) (first : Option Gathered) → there ++ more ≡ [] → IsFirstOf there first → first ≡ None
nothing_there there more None e first = refl
nothing_there [] more (Some (Whole m)) e first = let none = first.1.1 in absurd cc
nothing_there [] more (Some (Plain plain)) e first = let none = first.1.1 in absurd cc
nothing_there [] more (Some Held) e first = absurd first
nothing_there [] more (Some Misplaced) e first = absurd (first (line.Bye ∷ []) (Alone line.Bye) [] refl refl)
nothing_there (l ∷ there) more (Some gathered) e first = absurd cc

-- ---- messages

-- the message that lines begin with
abbrev pub message_from : {M : Type 0} → (Piece → Option M) → Option Gathered → Option M
message_from back (Some (Whole m)) = back (Message m)
message_from back (Some (Plain line)) = back (Alone line)
message_from back other = None

module _ {M : Type 0} (back : Piece → Option M) where
  found_or : (found : Option M) (gathered : Gathered) → result_ok (ok_or found gathered) ≡ found
  found_or (Some m) gathered = refl
  found_or None gathered = refl

  given_from : (gathered : Gathered) → result_ok (message_given back gathered) ≡ message_from back (Some gathered)
  given_from (Whole m) = found_or (back (Message m)) (Whole m)
  given_from (Plain line) = found_or (back (Alone line)) (Plain line)
  given_from Held = refl
  given_from Misplaced = refl

piece_is : (p : Piece) → IsSound p → AllByRecursion HasSpelling (piece_lines p) → IsPiece p
piece_is (Message m) sound is = is.0.1.1
piece_is (Alone line) sound is = sound

module _ {M : Type 0} (t : Ghosts M) where
  first_is : (m : M) (ms : List M) (there : List Line) (first : Option Gathered) → IsPieceThere (t.piece m) there first → IsFirst (codec t).lines there (m ∷ ms) (message_from t.of_piece first)
  unfolding IsPieceThere
  first_is m ms there None is = is
  first_is m ms there (Some (Whole n)) is = subst (IsFirst (codec t).lines there (m ∷ ms)) (sym (ap t.of_piece (sym is.0) ∙ (t.way m).again)) (refl, is.1)
  first_is m ms there (Some (Plain plain)) is = subst (IsFirst (codec t).lines there (m ∷ ms)) (sym (ap t.of_piece (sym is.0) ∙ (t.way m).again)) (refl, is.1)
  first_is m ms there (Some Held) is = absurd is
  first_is m ms there (Some Misplaced) is = absurd is

  pub first_in : (there : List Line) (first : Option Gathered) (found : Option M) → IsFirstOf there first → found ≡ message_from t.of_piece first → IsFirstIn (codec t) there found
  first_in there first found is same [] more all e = same ∙ ap (message_from t.of_piece) (nothing_there there more first e is)
  first_in there first found is same (m ∷ ms) more all e =
      subst (IsFirst (codec t).lines there (m ∷ ms)) (sym same)
      (first_is m ms there first (piece_there there more (t.piece m) (flat_map (codec t).lines ms) first (piece_is (t.piece m) (t.way m).sound all.0) (e ∙ flat_map-cons (codec t).lines m ms) is))

  -- an edit
  pub edit_in : (there : List Line) (msg : Msg (List BoardOp)) (m : M) → IsFirstOf there (Some (Whole msg)) → t.piece m ≡ Message msg → IsFirstIn (codec t) there (Some m)
  edit_in there msg m is e = first_in there (Some (Whole msg)) (Some m) is (sym (t.way m).again ∙ ap t.of_piece e)

  -- what lines give
  pub given_in : (there : List Line) (gathered : Gathered) (given : Result M Gathered) (found : Option M) → IsFirstOf there (Some gathered) → given ≡ message_given t.of_piece gathered → found ≡ result_ok given → IsFirstIn (codec t) there found
  given_in there gathered given found is e f = first_in there (Some gathered) found is (f ∙ ap result_ok e ∙ given_from t.of_piece gathered)

-- The messages of a link are lines.

operations_back : (ops : List BoardOp) → operations_of (dos ops) ≡ ops
operations_back [] = refl
operations_back (op ∷ ops) = ap (λ os. op ∷ os) (operations_back ops)

-- the operations of a message are those of as many lines after its batch line
own_operations : (ops : List BoardOp) (lines : List Line) → operations_of (take (length ops) (dos ops ++ lines)) ≡ ops
own_operations ops lines = ap (λ n. operations_of (take n (dos ops ++ lines))) (sym (length-map ops (λ op. Do op))) ∙ ap operations_of (take-append_seam (dos ops) lines) ∙ operations_back ops

pieces_behind : (ops : List BoardOp) (lines : List Line) → pieces_in (dos ops ++ lines) ≡ pieces_in lines
pieces_behind [] lines = refl
pieces_behind (op ∷ ops) lines = pieces_behind ops lines

-- the lines of a piece are that piece
piece_first : (p : Piece) (lines : List Line) → IsSound p → pieces_in (piece_lines p ++ lines) ≡ p ∷ pieces_in lines
piece_first (Message m) lines is =
    ap (λ os. Message (record { mine = m.mine; heard = m.heard; op = os }) ∷ pieces_in (dos m.op ++ lines)) (own_operations m.op lines) ∙ ap (λ ps. Message m ∷ ps) (pieces_behind m.op lines)
piece_first (Alone (Batch mine heard count)) lines is = absurd (false≢true is)
piece_first (Alone (Do op)) lines is = absurd (false≢true is)
piece_first (Alone line) lines is = refl

some_lines : (p : Piece) → 1 ≤ length (piece_lines p)
some_lines (Message m) = omega arith
some_lines (Alone line) = le_refl 1

module _ {M : Type 0} (piece : M → Piece) (back : Piece → Option M) (may_go : M → Type 0) (way : (m : M) → IsWay piece back may_go m) where
  gather_first : (m : M) (lines : List Line) → (codec_of piece back).gather (piece_lines (piece m) ++ lines) ≡ m ∷ (codec_of piece back).gather lines
  gather_first m lines = ap (flat_map (λ p. option_to_list (back p))) (piece_first (piece m) lines (way m).sound) ∙ ap (λ o. option_to_list o ++ (codec_of piece back).gather lines) (way m).again

  gathered : (ms : List M) → (codec_of piece back).gather (flat_map (λ m. piece_lines (piece m)) ms) ≡ ms
  gathered [] = refl
  gathered (m ∷ ms) =
      ap (codec_of piece back).gather (flat_map-cons (λ x. piece_lines (piece x)) m ms) ∙ gather_first m (flat_map (λ x. piece_lines (piece x)) ms) ∙ ap (λ ns. m ∷ ns) (gathered ms)

  pub codec_is : IsCodec (codec_of piece back)
  codec_is = record { spelled = λ m is. is; some = λ m. some_lines (piece m); gathers = λ ms all. gathered ms }

-- the laws of the ways of a link, and of any type of messages
pub ups_laws : IsCodec ups
ups_laws = codec_is _ _ _ up_way

pub downs_laws : IsCodec downs
downs_laws = codec_is _ _ _ down_way

pub codec_laws : {M : Type 0} (t : Ghosts M) → IsCodec (codec t)
codec_laws t = codec_is t.piece t.of_piece t.may_go t.way

-- a message whose lines come first is first
pub message_first : {M : Type 0} (t : Ghosts M) (m : M) (lines : List Line) → (codec t).gather ((codec t).lines m ++ lines) ≡ m ∷ (codec t).gather lines
message_first t m lines = gather_first t.piece t.of_piece t.may_go t.way m lines

-- Lines from bytes that come in pieces.
use Rattle.std.proofs.Common.{◌≡◌, ◌≢◌, ◌==◌, ℕ, ◌<◌, Bool, true, false, not, cond, List, [], ◌∷◌, ◌++◌, length, take, drop, Option, Some, None, Result, Ok, Err, refl, sym, ap, subst, ◌∙◌, append_assoc, arith, inl, inr, All, IfOk, IfErr, IsSome, is_some, take-append-drop, ◌+◌, ◌-◌, ltb, suc, eqb, ◌^◌, ◌≤◌, codes, decimal, zero, get_or, add-one, drop-cons}
use Rattle.std.proofs.lemmas.Bool.{false≢true, true≢false, and_parts, and_from, cases_Bool, eqb-false, not-true, not_from_false, ne_eqb, cond-true, cond-false, lt-ltb, le-ltb, eq-eqb}
use Rattle.std.proofs.lemmas.List.Elements.{All-append, All-take, All-from_recursion, recursion_from_All}
use Rattle.std.proofs.lemmas.List.Concat.{flat_map-append, flat_map-cons}
use Rattle.std.proofs.lemmas.List.{append-nil, length-take, take_all, length-append, take-append-le, take_more, get_or_append_left, get_or-take}
use Rattle.std.proofs.Math.Seq.{take-append-add, take-append_seam, take-suc}
use Rattle.std.proofs.lemmas.Fmt.{decimal_is_IsNumeral}
use Rattle.jup_number.proofs.Numbers.{IsValueOf, Continues, value_ends}
use Rattle.jup_wire.specs.Prelude.{WireFault, BadLine, LongLine, BadVersion, EarlyEnd, Line, flat_map, AllByRecursion, AllDigits, digits_value, MatchOption-at_none, none-some, same_Some, some_pair_parts}
use Rattle.jup_wire.specs.Fields.{◌>>=◌, split_of, with_rest, field_of, number_of, id_of}
use Rattle.jup_wire.specs.Lines.{line_text, spelling, HasSpelling, IsBad, this_version, IsLine, IsOtherVersion, line_of, version_of, refusal_of, headed_of, hello_of}
use Rattle.jup_wire.specs.Streams.{stream_of, IsPart, IsFaulty, Faults, Progress, HasRead, Ends, ReadsTo, IsBadLine}
use Rattle.jup_wire.proofs.Spellings.{lacks, split_again, split_lacks, none_from, number_again, number_takes, number_of_none, number_of_zeros, number_from_value, digits_of_decimal, lacks-append, split_parts}
use Rattle.jup_wire.proofs.Readings.{version_takes, version_again, line_reader}

-- ---- texts and parts

-- a text that a separator ends, or that none does, has no line feed
pub open_text : (bytes : List ℕ) → lacks 10 bytes ≡ true → All (λ byte. byte ≢ 10) bytes
open_text bytes lack = All-from_recursion (λ byte. byte ≢ 10) bytes (each bytes lack)
  where
    each : (bytes : List ℕ) → lacks 10 bytes ≡ true → AllByRecursion (λ byte. byte ≢ 10) bytes
    each [] lack = tt
    each (b ∷ bytes) lack =
        let p = and_parts (not (b == 10)) (lacks 10 bytes) lack in
        (eqb-false b 10 (not-true (b == 10) p.0), each bytes p.1)

pub lacks_all : (separator : ℕ) (bytes : List ℕ) → split_of separator bytes ≡ None → lacks separator bytes ≡ true
unfolding split_of
lacks_all separator [] none = refl
lacks_all separator (b ∷ bytes) none =
    let step : Bool → Option (List ℕ × List ℕ) = λ t. cond t (Some ([], bytes)) (split_of separator bytes >>= λ parts. Some (b ∷ parts.0, parts.1)) in
    elim (cases_Bool (b == separator)) [
      | inl here ↦ absurd (none_is_some ([], bytes) (sym none ∙ ap step here))
      | inr later ↦
          and_from (not (b == separator)) (lacks separator bytes) (not_from_false (b == separator) later)
          (lacks_all separator bytes (rest (λ parts. (b ∷ parts.0, parts.1)) (split_of separator bytes) (sym (ap step later) ∙ none)))
    ]
  where
    none_is_some : (parts : List ℕ × List ℕ) → None ≡ Some parts → ⊥
    none_is_some parts e = none-some parts e

    rest : (f : List ℕ × List ℕ → List ℕ × List ℕ) (o : Option (List ℕ × List ℕ)) → (o >>= λ parts. Some (f parts)) ≡ None → o ≡ None
    rest f None e = refl
    rest f (Some parts) e = absurd (none_is_some (f parts) (sym e))

-- a text of more than 255 bytes is too long, whatever comes after it
pub long_text : (text more : List ℕ) → All (λ byte. byte ≢ 10) text → 255 < length text → Faults LongLine (text ++ more) []
long_text text more open_ended long = record {
  told = take 256 text;
  more = drop 256 text ++ more;
  faulty = (let e = length-take 256 text in omega (arith, e, long), All-take (λ byte. byte ≢ 10) 256 text open_ended);
  stream = ap (λ (t : List ℕ). t ++ more) (sym (take-append-drop 256 text)) ∙ append_assoc (take 256 text) (drop 256 text) more;
}

-- and a shorter one that is no line is refused as such
bad_text : (fault : WireFault) (text more : List ℕ) → IsPart text → IsBad fault text → Faults fault (text ++ 10 ∷ more) []
bad_text fault text more part bad = record { told = text ++ 10 ∷ []; more = more; faulty = faulty fault bad; stream = sym (append_assoc text (10 ∷ []) more) }
  where
    faulty : (fault : WireFault) → IsBad fault text → IsFaulty fault (text ++ 10 ∷ [])
    faulty BadLine bad = record { text = text; part = part; whole = refl; bad = bad }
    faulty BadVersion bad = record { text = text; part = part; whole = refl; bad = bad }
    faulty LongLine bad = absurd bad
    faulty EarlyEnd bad = absurd bad

pub ends_is : (text : List ℕ) (r : Result Line WireFault) → IsPart text → IfOk r (λ line. HasSpelling line × (text ≡ line_text line)) → IfErr r (λ fault. IsBad fault text) → Ends text r
ends_is text (Ok line) part found bad = found
ends_is text (Err fault) part found bad = λ more. bad_text fault text more part bad

-- the same of a piece with the same bytes
pub ends_there : (text piece : List ℕ) (r : Result Line WireFault) → IsPart text → piece ≡ text → IfOk r (λ line. HasSpelling line × (piece ≡ line_text line)) → IfErr r (λ fault. IsBad fault piece) → Ends text r
ends_there text piece r part same found bad =
    ends_is text r part (subst (λ (t : List ℕ). IfOk r (λ line. HasSpelling line × (t ≡ line_text line))) same found) (subst (λ (t : List ℕ). IfErr r (λ fault. IsBad fault t)) same bad)

-- a part and a text after it
pub both_open : (part text : List ℕ) → IsPart part → All (λ byte. byte ≢ 10) text → All (λ byte. byte ≢ 10) (part ++ text)
both_open part text is open_ended = All-append (λ byte. byte ≢ 10) part text is.open_ended open_ended

-- ---- lines, one after another

-- one more line
pub one_line_more : (bytes left text behind : List ℕ) (lines : List Line) (line : Line) → bytes ≡ flat_map spelling lines ++ left → left ≡ text ++ 10 ∷ behind → text ≡ line_text line
    → bytes ≡ flat_map spelling (lines ++ line ∷ []) ++ behind
one_line_more bytes left text behind lines line before cut is =
    before ∙ ap (λ (t : List ℕ). flat_map spelling lines ++ t) (cut ∙ ap (λ (t : List ℕ). t ++ 10 ∷ behind) is ∙ sym (append_assoc (line_text line) (10 ∷ []) behind))
    ∙ sym (append_assoc (flat_map spelling lines) (spelling line) behind)
    ∙ ap (λ (t : List ℕ). (flat_map spelling lines ++ t) ++ behind) (sym (append-nil (spelling line)))
    ∙ ap (λ (t : List ℕ). t ++ behind) (sym (flat_map-append spelling lines (line ∷ [])))

-- or a fault after the lines
pub fault_behind : (bytes left text behind : List ℕ) (lines : List Line) (fault : WireFault) → bytes ≡ flat_map spelling lines ++ left → left ≡ text ++ 10 ∷ behind
    → ((more : List ℕ) → Faults fault (text ++ 10 ∷ more) []) → Faults fault bytes lines
fault_behind bytes left text behind lines fault before cut faults =
    let f = faults behind in
    record { told = f.told; more = f.more; faulty = f.faulty; stream = before ∙ ap (λ (t : List ℕ). flat_map spelling lines ++ t) (cut ∙ f.stream) }

-- or what is read of the rest
rest_behind : (bytes rest left : List ℕ) (lines : List Line) (fault : Option WireFault) → AllByRecursion HasSpelling lines → bytes ≡ stream_of lines rest
    → HasRead rest [] (record { part = left; fault = fault }) → HasRead bytes lines (record { part = left; fault = fault })
rest_behind bytes rest left lines None spelled before read = record { spelled = spelled; rest = (before ∙ ap (stream_of lines) read.rest.0, read.rest.1) }
rest_behind bytes rest left lines (Some fault) spelled before read =
    let f = read.rest in
    record { spelled = spelled; rest = record { told = f.told; more = f.more; faulty = f.faulty; stream = before ∙ ap (stream_of lines) f.stream } }

-- ---- a piece after a part

-- its first line
pub first_line : (part piece text behind : List ℕ) (none lines : List Line) (line : Line) → none ≡ [] → piece ≡ text ++ 10 ∷ behind → part ++ text ≡ line_text line → lines ≡ none ++ line ∷ []
    → part ++ piece ≡ flat_map spelling lines ++ behind
first_line part piece text behind none lines line empty cut is pushed =
    one_line_more (part ++ piece) (part ++ piece) (part ++ text) behind [] line refl (ap (λ (t : List ℕ). part ++ t) cut ∙ sym (append_assoc part text (10 ∷ behind))) is
    ∙ ap (λ (ls : List Line). flat_map spelling ls ++ behind) (sym (pushed ∙ ap (λ (ls : List Line). ls ++ line ∷ []) empty))

-- or its fault
pub first_fault : (part piece text behind left : List ℕ) (none : List Line) (fault : WireFault) → none ≡ [] → piece ≡ text ++ 10 ∷ behind → ((more : List ℕ) → Faults fault ((part ++ text) ++ 10 ∷ more) [])
    → HasRead (part ++ piece) none (record { part = left; fault = Some fault })
first_fault part piece text behind left none fault empty cut faults =
    subst (λ (ls : List Line). HasRead (part ++ piece) ls (record { part = left; fault = Some fault })) (sym empty) (record {
      spelled = tt;
      rest = fault_behind (part ++ piece) (part ++ piece) (part ++ text) behind [] fault refl (ap (λ (t : List ℕ). part ++ t) cut ∙ sym (append_assoc part text (10 ∷ behind))) faults;
    })

-- the lines after its first, up to a fault
pub then_fault : (bytes whole rest left : List ℕ) (lines : List Line) (fault : Option WireFault) → is_some fault ≡ true → bytes ≡ whole → ReadsTo whole lines fault rest
    → HasRead bytes lines (record { part = left; fault = fault })
then_fault bytes whole rest left lines None some same reads = absurd (false≢true some)
then_fault bytes whole rest left lines (Some fault) some same reads =
    subst (λ (t : List ℕ). HasRead t lines (record { part = left; fault = Some fault })) (sym same) (record { spelled = reads.0; rest = reads.1 })

-- or up to the last line feed, and then what is made of the rest
pub then_rest : (bytes whole rest left : List ℕ) (lines : List Line) (fault told : Option WireFault) → is_some fault ≡ false → bytes ≡ whole → ReadsTo whole lines fault rest
    → HasRead rest [] (record { part = left; fault = told }) → HasRead bytes lines (record { part = left; fault = told })
then_rest bytes whole rest left lines None told none same reads read = rest_behind bytes rest left lines told reads.0 (same ∙ reads.1) read
then_rest bytes whole rest left lines (Some fault) told none same reads read = absurd (true≢false none)

pub spelled-append : (ls ms : List Line) → AllByRecursion HasSpelling ls → AllByRecursion HasSpelling ms → AllByRecursion HasSpelling (ls ++ ms)
spelled-append [] ms all more = more
spelled-append (l ∷ ls) ms all more = (all.0, spelled-append ls ms all.1 more)

-- what was read before, and what came then
joined : (lines more : List Line) (bytes piece part rest : List ℕ) → bytes ≡ stream_of lines part → part ++ piece ≡ stream_of more rest → bytes ++ piece ≡ stream_of (lines ++ more) rest
joined lines more bytes piece part rest before then =
    ap (λ (t : List ℕ). t ++ piece) before ∙ append_assoc (flat_map spelling lines) part piece
    ∙ ap (λ (t : List ℕ). flat_map spelling lines ++ t) then
    ∙ sym (append_assoc (flat_map spelling lines) (flat_map spelling more) rest)
    ∙ ap (λ (t : List ℕ). t ++ rest) (sym (flat_map-append spelling lines more))

-- a reader with no fault goes on
pub reads_on : (reader : Progress) (piece left : List ℕ) (new : List Line) (fault : Option WireFault) → reader.fault ≡ None
    → HasRead (reader.part ++ piece) new (record { part = left; fault = fault })
    → (bytes : List ℕ) (lines : List Line) → HasRead bytes lines reader → HasRead (bytes ++ piece) (lines ++ new) (record { part = left; fault = fault })
reads_on reader piece left new None none then bytes lines before =
    let was : (bytes ≡ stream_of lines reader.part) × IsPart reader.part = MatchOption-at_none _ (λ fault. Faults fault bytes lines) none before.rest in
    record {
      spelled = spelled-append lines new before.spelled then.spelled;
      rest = (joined lines new bytes piece reader.part left was.0 then.rest.0, then.rest.1);
    }
reads_on reader piece left new (Some fault) none then bytes lines before =
    let was : (bytes ≡ stream_of lines reader.part) × IsPart reader.part = MatchOption-at_none _ (λ fault. Faults fault bytes lines) none before.rest in
    let f = then.rest in
    record {
      spelled = spelled-append lines new before.spelled then.spelled;
      rest = record { told = f.told; more = f.more; faulty = f.faulty; stream = joined lines new bytes piece reader.part (f.told ++ f.more) was.0 f.stream };
    }

-- a reader with a fault gives nothing more
pub stands : (part : List ℕ) (fault : Option WireFault) (piece : List ℕ) → IsSome fault → (bytes : List ℕ) (lines nothing : List Line) → nothing ≡ []
    → HasRead bytes lines (record { part = part; fault = fault }) → HasRead (bytes ++ piece) (lines ++ nothing) (record { part = part; fault = fault })
stands part None piece some bytes lines nothing none read = absurd (false≢true some)
stands part (Some fault) piece some bytes lines nothing none read =
    let f = read.rest in
    let whole : bytes ++ piece ≡ stream_of lines (f.told ++ (f.more ++ piece)) =
    ap (λ (t : List ℕ). t ++ piece) f.stream ∙ append_assoc (flat_map spelling lines) (f.told ++ f.more) piece ∙ ap (λ (t : List ℕ). flat_map spelling lines ++ t) (append_assoc f.told f.more piece) in
    let same : lines ++ nothing ≡ lines = ap (λ (t : List Line). lines ++ t) none ∙ append-nil lines in
    subst (λ (ls : List Line). HasRead (bytes ++ piece) ls (record { part = part; fault = Some fault })) (sym same)
    (record { spelled = read.spelled; rest = record { told = f.told; more = f.more ++ piece; faulty = f.faulty; stream = whole } })

-- One spelling for each line, and one way to read a stream.

-- what comes before the first line feed, and what comes after it
pub before_feed : (s t x y : List ℕ) → lacks 10 s ≡ true → lacks 10 t ≡ true → s ++ 10 ∷ x ≡ t ++ 10 ∷ y → (s ≡ t) × (x ≡ y)
before_feed s t x y ls lt e = some_pair_parts s t x y (sym (split_again 10 s x ls) ∙ ap (split_of 10) e ∙ split_again 10 t y lt)

pub one : (a b x y : List ℕ) (l m : Line) → IsLine a l → IsLine b m → a ++ x ≡ b ++ y → (l ≡ m) × (a ≡ b) × (x ≡ y)
one a b x y l m is_l is_m e =
    let left : a ++ x ≡ line_text l ++ 10 ∷ x = ap (λ (t : List ℕ). t ++ x) is_l.1 ∙ append_assoc (line_text l) (10 ∷ []) x in
    let right : b ++ y ≡ line_text m ++ 10 ∷ y = ap (λ (t : List ℕ). t ++ y) is_m.1 ∙ append_assoc (line_text m) (10 ∷ []) y in
    let p = before_feed (line_text l) (line_text m) x y (line_reader.one_line l is_l.0) (line_reader.one_line m is_m.0) (sym left ∙ e ∙ right) in
    let same : l ≡ m = same_Some l m (sym (line_reader.again l is_l.0) ∙ ap line_of p.0 ∙ line_reader.again m is_m.0) in
    (same, is_l.1 ∙ ap spelling same ∙ sym is_m.1, p.1)

-- ---- where a stream goes on

-- what a reader meets first in the bytes after the lines that it has read: the text of a whole line, if a line feed is among 256 bytes
abbrev pub next_text : List ℕ → Option (List ℕ × List ℕ)
next_text rest = split_of 10 (take 256 rest)

-- the fault that the reader reports there
abbrev told_at : Option (List ℕ × List ℕ) → ℕ → Option WireFault
told_at (Some parts) len = Some (refusal_of (version_of parts.0))
told_at None len = cond (ltb len 256) None (Some LongLine)

-- after the last line: a part of a line, or what has the fault
pub record Stops (rest : List ℕ) (fault : Option WireFault) : Type 0 where
  pub no_line : (next_text rest >>= λ parts. line_of parts.0) ≡ None
  pub tells : fault ≡ told_at (next_text rest) (length rest)

lacks-All : (bytes : List ℕ) → AllByRecursion (λ byte. byte ≢ 10) bytes → lacks 10 bytes ≡ true
lacks-All [] all = refl
lacks-All (b ∷ bytes) all = rw (ne_eqb b 10 all.0, lacks-All bytes all.1) refl

-- a text that ends within n bytes is among them, and its line feed too
cut_at : (n : ℕ) (text more : List ℕ) → length text < n → take n (text ++ 10 ∷ more) ≡ text ++ 10 ∷ take (n - (length text + 1)) more
cut_at n text more lt =
    let k = n - (length text + 1) in
    let e : n ≡ length text + suc k = omega arith in
    ap (λ (m : ℕ). take m (text ++ 10 ∷ more)) e ∙ take-append-add text (10 ∷ more) (suc k)

met : (text more : List ℕ) → length text < 256 → lacks 10 text ≡ true → next_text (text ++ 10 ∷ more) ≡ Some (text, take (256 - (length text + 1)) more)
met text more short open_ended = ap (split_of 10) (cut_at 256 text more short) ∙ split_again 10 text (take (256 - (length text + 1)) more) open_ended

-- reads the text of the line that is met
abbrev read_met : Option (List ℕ × List ℕ) → Option Line
read_met o = o >>= λ parts. line_of parts.0

line_met : (line : Line) (more : List ℕ) → HasSpelling line → read_met (next_text (spelling line ++ more)) ≡ Some line
line_met line more is =
    ap (λ (t : List ℕ). read_met (next_text t)) (append_assoc (line_text line) (10 ∷ []) more)
    ∙ ap read_met (met (line_text line) more (omega (arith, line_reader.short line is)) (line_reader.one_line line is))
    ∙ line_reader.again line is

part_stops : (rest : List ℕ) → IsPart rest → Stops rest None
part_stops rest part =
    let open_ended = lacks-All rest (recursion_from_All (λ byte. byte ≢ 10) rest part.open_ended) in
    let none : next_text rest ≡ None = ap (split_of 10) (take_all 256 rest (omega (arith, part.short))) ∙ split_lacks 10 rest open_ended in
    record {
      no_line = ap read_met none;
      tells = sym (ap (λ o. told_at o (length rest)) none ∙ cond-true (ltb (length rest) 256) None (Some LongLine) (lt-ltb _ _ part.short));
    }

long_stops : (told more : List ℕ) → length told ≡ 256 → lacks 10 told ≡ true → Stops (told ++ more) (Some LongLine)
long_stops told more len open_ended =
    let front : take 256 (told ++ more) ≡ told = ap (λ (n : ℕ). take n (told ++ more)) (sym len) ∙ take-append_seam told more in
    let none : next_text (told ++ more) ≡ None = ap (split_of 10) front ∙ split_lacks 10 told open_ended in
    let long : 256 ≤ length (told ++ more) = omega (arith, length-append told more, len) in
    record {
      no_line = ap read_met none;
      tells = sym (ap (λ o. told_at o (length (told ++ more))) none ∙ cond-false (ltb (length (told ++ more)) 256) None (Some LongLine) (le-ltb _ _ long));
    }

-- a text that is bad is read as no line, and refused as it says
no_greeting : (v : ℕ) → v < 2 ^ 32 → v ≢ this_version → line_of (codes "hello " ++ decimal v) ≡ None
unfolding line_of headed_of hello_of split_of
no_greeting v lt ne = rw (number_again v lt, ne_eqb v this_version ne) refl

bad_line_refusal : (text : List ℕ) (v : Option ℕ) → v ≡ version_of text → (IsOtherVersion text → ⊥) → refusal_of v ≡ BadLine
bad_line_refusal text None e not = refl
bad_line_refusal text (Some n) e not =
    elim (cases_Bool (eqb n this_version)) [
      | inl one ↦ cond-true (eqb n this_version) BadLine BadVersion one
      | inr differs ↦ absurd (not (let t = version_takes text n (sym e) in (n, (t.0, eqb-false n this_version differs, t.1))))
    ]

refusal_tells : (fault : WireFault) (text : List ℕ) → IsBad fault text → (refusal_of (version_of text) ≡ fault) × (line_of text ≡ None)
refusal_tells BadLine text bad =
    (bad_line_refusal text (version_of text) refl bad.1, none_from (line_of text) (λ line e. let t = line_reader.takes text line e in bad.0 line t.0 t.1))
refusal_tells BadVersion text bad = (
  ap refusal_of (ap version_of bad.1.2 ∙ version_again bad.0 bad.1.0) ∙ cond-false (eqb bad.0 this_version) BadLine BadVersion (ne_eqb bad.0 this_version bad.1.1),
  ap line_of bad.1.2 ∙ no_greeting bad.0 bad.1.0 bad.1.1,
)
refusal_tells LongLine text bad = absurd bad
refusal_tells EarlyEnd text bad = absurd bad

bad_stops : (fault : WireFault) (told more : List ℕ) → IsBadLine fault told → Stops (told ++ more) (Some fault)
bad_stops fault told more bad =
    let whole : told ++ more ≡ bad.text ++ 10 ∷ more = ap (λ (t : List ℕ). t ++ more) bad.whole ∙ append_assoc bad.text (10 ∷ []) more in
    let found = ap next_text whole ∙ met bad.text more bad.part.short (lacks-All bad.text (recursion_from_All (λ byte. byte ≢ 10) bad.text bad.part.open_ended)) in
    let r = refusal_tells fault bad.text bad.bad in
    record {
      no_line = ap read_met found ∙ r.1;
      tells = sym (ap (λ o. told_at o (length (told ++ more))) found ∙ ap Some r.0);
    }

fault_stops : (fault : WireFault) (told more : List ℕ) → IsFaulty fault told → Stops (told ++ more) (Some fault)
fault_stops BadLine told more bad = bad_stops BadLine told more bad
fault_stops BadVersion told more bad = bad_stops BadVersion told more bad
fault_stops LongLine told more long = long_stops told more long.0 (lacks-All told (recursion_from_All (λ byte. byte ≢ 10) told long.1))
fault_stops EarlyEnd told more bad = absurd bad

-- ---- one reading

-- the lines, and where the stream stops after them
pub record Read (bytes : List ℕ) (lines : List Line) (fault : Option WireFault) : Type 0 where
  pub spelled : AllByRecursion HasSpelling lines
  pub rest : List ℕ
  pub stream : bytes ≡ stream_of lines rest
  pub stops : Stops rest fault

read_from : (bytes : List ℕ) (lines : List Line) (part : List ℕ) (fault : Option WireFault) → HasRead bytes lines (record { part = part; fault = fault }) → Read bytes lines fault
read_from bytes lines part None read = record { spelled = read.spelled; rest = part; stream = read.rest.0; stops = part_stops part read.rest.1 }
read_from bytes lines part (Some fault) read =
    let f = read.rest in
    record { spelled = read.spelled; rest = f.told ++ f.more; stream = f.stream; stops = fault_stops fault f.told f.more f.faulty }

first_of_stream : (line : Line) (lines : List Line) (rest : List ℕ) → stream_of (line ∷ lines) rest ≡ spelling line ++ stream_of lines rest
first_of_stream line lines rest = ap (λ (t : List ℕ). t ++ rest) (flat_map-cons spelling line lines) ∙ append_assoc (spelling line) (flat_map spelling lines) rest

ended : (line : Line) (lines : List Line) (rest left : List ℕ) (fault : Option WireFault) → HasSpelling line → Stops rest fault → rest ≡ stream_of (line ∷ lines) left → ⊥
ended line lines rest left fault is stops e =
    none-some line (sym stops.no_line ∙ ap (λ (t : List ℕ). read_met (next_text t)) (e ∙ first_of_stream line lines left) ∙ line_met line (stream_of lines left) is)

one_way : (ls ms : List Line) (x y : List ℕ) (f g : Option WireFault) → AllByRecursion HasSpelling ls → AllByRecursion HasSpelling ms
    → stream_of ls x ≡ stream_of ms y → Stops x f → Stops y g → (ls ≡ ms) × (f ≡ g)
one_way [] [] x y f g all_l all_m e sx sy = (refl, sx.tells ∙ ap (λ (t : List ℕ). told_at (next_text t) (length t)) e ∙ sym sy.tells)
one_way [] (m ∷ ms) x y f g all_l all_m e sx sy = absurd (ended m ms x y f all_m.0 sx e)
one_way (l ∷ ls) [] x y f g all_l all_m e sx sy = absurd (ended l ls y x g all_l.0 sy (sym e))
one_way (l ∷ ls) (m ∷ ms) x y f g all_l all_m e sx sy =
    let p = one (spelling l) (spelling m) (stream_of ls x) (stream_of ms y) l m (all_l.0, refl) (all_m.0, refl) (sym (first_of_stream l ls x) ∙ e ∙ first_of_stream m ms y) in
    let q = one_way ls ms x y f g all_l.1 all_m.1 p.2 sx sy in
    (cc, q.1)

pub one_read : (bytes : List ℕ) (ls ms : List Line) (p q : Progress) → HasRead bytes ls p → HasRead bytes ms q → (ls ≡ ms) × (p.fault ≡ q.fault)
one_read bytes ls ms p q left right =
    let a = read_from bytes ls p.part p.fault left in
    let b = read_from bytes ms q.part q.fault right in
    one_way ls ms a.rest b.rest p.fault q.fault a.spelled b.spelled (sym a.stream ∙ b.stream) a.stops b.stops

-- ---- a stream of lines, of which a part has come

nothing_stops : Stops [] None
unfolding split_of
nothing_stops = record { no_line = refl; tells = refl }

goes_on : (given sent : List Line) (x left : List ℕ) → AllByRecursion HasSpelling given → AllByRecursion HasSpelling sent → stream_of given x ++ left ≡ flat_map spelling sent
    → (rest : List Line) × (sent ≡ given ++ rest) × (x ++ left ≡ flat_map spelling rest) × AllByRecursion HasSpelling rest
goes_on [] sent x left all_g all_s e = (sent, refl, e, all_s)
goes_on (l ∷ ls) [] x left all_g all_s e =
    let front : stream_of (l ∷ ls) x ++ left ≡ stream_of (l ∷ ls) (x ++ left) = append_assoc (flat_map spelling (l ∷ ls)) x left in
    absurd (ended l ls [] (x ++ left) None all_g.0 nothing_stops (sym e ∙ front))
goes_on (l ∷ ls) (m ∷ ms) x left all_g all_s e =
    let front : stream_of (l ∷ ls) x ++ left ≡ spelling l ++ (stream_of ls x ++ left) = ap (λ (t : List ℕ). t ++ left) (first_of_stream l ls x) ∙ append_assoc (spelling l) (stream_of ls x) left in
    let p = one (spelling l) (spelling m) (stream_of ls x ++ left) (flat_map spelling ms) l m (all_g.0, refl) (all_s.0, refl) (sym front ∙ e ∙ flat_map-cons spelling m ms) in
    let q = goes_on ls ms x left all_g.1 all_s.1 p.2 in
    (q.0, ap (λ (k : Line). k ∷ ms) (sym p.0) ∙ ap (λ (t : List Line). l ∷ t) q.1, q.2, q.3)

-- no stream of lines has a fault
no_fault : (fault : WireFault) (told more : List ℕ) (rest : List Line) → IsFaulty fault told → AllByRecursion HasSpelling rest → told ++ more ≡ flat_map spelling rest → ⊥
no_fault fault told more [] faulty all e =
    none-some fault (nothing_stops.tells ∙ ap (λ (t : List ℕ). told_at (next_text t) (length t)) (sym e) ∙ sym (fault_stops fault told more faulty).tells)
no_fault fault told more (r ∷ rest) faulty all e =
    ended r rest (told ++ more) [] (Some fault) all.0 (fault_stops fault told more faulty) (e ∙ sym (append-nil (flat_map spelling (r ∷ rest))))

pub on_the_way : (moved left : List ℕ) (given sent : List Line) (p : Progress) → AllByRecursion HasSpelling sent → HasRead moved given p → moved ++ left ≡ flat_map spelling sent
    → (p.fault ≡ None) × ((rest : List Line) × (sent ≡ given ++ rest) × (p.part ++ left ≡ flat_map spelling rest))
on_the_way moved left given sent p all read e = by_fault p.part p.fault read
  where
    by_fault : (part : List ℕ) (fault : Option WireFault) → HasRead moved given (record { part = part; fault = fault }) → (fault ≡ None) × ((rest : List Line) × (sent ≡ given ++ rest) × (part ++ left ≡ flat_map spelling rest))
    by_fault part None r =
        let q = goes_on given sent part left r.spelled all (ap (λ (t : List ℕ). t ++ left) (sym r.rest.0) ∙ e) in
        (refl, (q.0, q.1, q.2))
    by_fault part (Some fault) r =
        let f = r.rest in
        let q = goes_on given sent (f.told ++ f.more) left r.spelled all (ap (λ (t : List ℕ). t ++ left) (sym f.stream) ∙ e) in
        absurd (no_fault fault f.told (f.more ++ left) q.0 f.faulty q.3 (sym (append_assoc f.told f.more left) ∙ q.2))

-- A number before a separator, read digit by digit.

-- a field, by where its separator is
after_split : {A : Type 0} → (List ℕ → Option A) → Option (List ℕ × List ℕ) → Option (A × List ℕ)
after_split read None = None
after_split read (Some parts) = with_rest parts.1 (read parts.0)

by_split : {A : Type 0} (read : List ℕ → Option A) (separator : ℕ) (bytes : List ℕ) → field_of separator read bytes ≡ after_split read (split_of separator bytes)
unfolding field_of after_split
by_split {A} read separator bytes = cases (split_of separator bytes)
  where
    rest : (o : Option A) (r : List ℕ) → (o >>= λ value. Some (value, r)) ≡ with_rest r o
    rest None r = refl
    rest (Some n) r = refl

    cases : (o : Option (List ℕ × List ℕ)) → (o >>= λ parts. read parts.0 >>= λ value. Some (value, parts.1)) ≡ after_split read o
    cases None = refl
    cases (Some parts) = rest (read parts.0) parts.1

pub field_at : (separator : ℕ) (bytes : List ℕ) (at : ℕ) → at < length bytes → get_or bytes at 0 ≡ separator → lacks separator (take at bytes) ≡ true
    → field_of separator number_of bytes ≡ with_rest (drop (at + 1) bytes) (number_of (take at bytes))
unfolding after_split
field_at separator bytes at lt here open_ended =
    let cut : bytes ≡ take at bytes ++ separator ∷ drop (at + 1) bytes =
    sym (take-append-drop at bytes) ∙ ap (λ (t : List ℕ). take at bytes ++ t) (rw add-one (drop-cons bytes at 0 lt)) ∙ ap (λ (b : ℕ). take at bytes ++ b ∷ drop (at + 1) bytes) here in
    by_split number_of separator bytes ∙ ap (after_split number_of) (ap (split_of separator) cut ∙ split_again separator (take at bytes) (drop (at + 1) bytes) open_ended)

-- no separator, no field
pub field_none : (separator : ℕ) (bytes : List ℕ) → lacks separator bytes ≡ true → field_of separator number_of bytes ≡ None
unfolding after_split
field_none separator bytes open_ended = by_split number_of separator bytes ∙ ap (after_split number_of) (split_lacks separator bytes open_ended)

-- one more byte that is no separator
pub lacks_more : (separator : ℕ) (bytes : List ℕ) (at : ℕ) → at < length bytes → lacks separator (take at bytes) ≡ true → (get_or bytes at 0 ≡ separator → ⊥) → lacks separator (take (at + 1) bytes) ≡ true
lacks_more separator bytes at lt open_ended other =
    let byte = get_or bytes at 0 in
    ap (lacks separator) (take_more bytes at 0 lt)
    ∙ lacks-append separator (take at bytes) (byte ∷ []) open_ended (and_from (not (byte == separator)) true (not_from_false (byte == separator) (ne_eqb byte separator other)) refl)

-- bytes that lack it end before it
longer : (separator : ℕ) (before after : List ℕ) (at : ℕ) → lacks separator (take (suc at) (before ++ separator ∷ after)) ≡ true → at < length before
longer separator [] after at open_ended =
    let p = and_parts (not (separator == separator)) (lacks separator (take at after)) open_ended in
    absurd (true≢false (sym (eq-eqb separator separator refl) ∙ not-true (separator == separator) p.0))
longer separator (b ∷ before) after zero open_ended = omega arith
longer separator (b ∷ before) after (suc at) open_ended =
    let p = and_parts (not (b == separator)) (lacks separator (take (suc at) (before ++ separator ∷ after))) open_ended in
    let rest = longer separator before after at p.1 in
    omega (arith, rest)

-- if a digit does not continue the number, no number comes before the separator
pub field_ends : (separator : ℕ) (bytes : List ℕ) (at value : ℕ) → at < length bytes → (get_or bytes at 0 ≡ separator → ⊥) → lacks separator (take at bytes) ≡ true
    → IsValueOf (take at bytes) value → (Continues value (get_or bytes at 0) → ⊥) → field_of separator number_of bytes ≡ None
unfolding after_split
field_ends separator bytes at value lt other open_ended so_far stops = by_split number_of separator bytes ∙ cases (split_of separator bytes) refl
  where
    read : (before after : List ℕ) → split_of separator bytes ≡ Some (before, after) → (n : ℕ) → number_of before ≡ Some n → ⊥
    read before after e n number =
        let parts = split_parts separator bytes before after e in
        let t = number_takes before n number in
        let back : digits_value 10 before ≡ n = ap (digits_value 10) t.1 ∙ (decimal_is_IsNumeral n (omega (arith, t.0))).1 in
        let more : lacks separator (take (suc at) (before ++ separator ∷ after)) ≡ true =
        subst (λ (t : List ℕ). lacks separator (take (suc at) t) ≡ true) parts.0 (rw add-one at (lacks_more separator bytes at lt open_ended other)) in
        let long = longer separator before after at more in
        let front : take at bytes ≡ take at before = ap (take at) parts.0 ∙ take-append-le at before (separator ∷ after) (omega (arith, long)) in
        let byte : get_or bytes at 0 ≡ get_or before at 0 = ap (λ (t : List ℕ). get_or t at 0) parts.0 ∙ get_or_append_left before (separator ∷ after) 0 at long in
        value_ends before at value long (subst (λ (t : List ℕ). IsValueOf t value) front so_far) (λ goes. stops (subst (Continues value) (sym byte) goes))
        (subst (AllDigits 10) (sym t.1) (digits_of_decimal n t.0), omega (arith, back, t.0))

    number : (o : Option ℕ) (before after : List ℕ) → split_of separator bytes ≡ Some (before, after) → number_of before ≡ o → with_rest after o ≡ None
    number None before after e is = refl
    number (Some n) before after e is = absurd (read before after e n is)

    cases : (o : Option (List ℕ × List ℕ)) → split_of separator bytes ≡ o → after_split number_of o ≡ None
    cases None e = refl
    cases (Some parts) e = number (number_of parts.0) parts.0 parts.1 e refl

-- an id is such a number
narrowed : Option (ℕ × List ℕ) → Option (ℕ × List ℕ)
narrowed None = None
narrowed (Some x) = cond (ltb x.0 (2 ^ 16)) (Some x) None

field_id : (bytes : List ℕ) → field_of 32 id_of bytes ≡ narrowed (field_of 32 number_of bytes)
unfolding after_split id_of narrowed
field_id bytes = by_split id_of 32 bytes ∙ cases (split_of 32 bytes) ∙ ap narrowed (sym (by_split number_of 32 bytes))
  where
    small : (n : ℕ) (r : List ℕ) (b : Bool) → with_rest r (cond b (Some n) None) ≡ cond b (Some (n, r)) None
    small n r true = refl
    small n r false = refl

    rest : (o : Option ℕ) (r : List ℕ) → with_rest r (o >>= λ n. cond (ltb n (2 ^ 16)) (Some n) None) ≡ narrowed (with_rest r o)
    rest None r = refl
    rest (Some n) r = small n r (ltb n (2 ^ 16))

    cases : (o : Option (List ℕ × List ℕ)) → after_split id_of o ≡ narrowed (after_split number_of o)
    cases None = refl
    cases (Some parts) = rest (number_of parts.0) parts.1

pub id_none : (bytes : List ℕ) → field_of 32 number_of bytes ≡ None → field_of 32 id_of bytes ≡ None
unfolding narrowed
id_none bytes none = field_id bytes ∙ ap narrowed none

pub id_some : (bytes rest : List ℕ) (n : ℕ) → field_of 32 number_of bytes ≡ Some (n, rest) → n < 2 ^ 16 → field_of 32 id_of bytes ≡ Some (n, rest)
unfolding narrowed
id_some bytes rest n some small = field_id bytes ∙ ap narrowed some ∙ cond-true (ltb n (2 ^ 16)) (Some (n, rest)) None (lt-ltb n (2 ^ 16) small)

pub id_large : (bytes rest : List ℕ) (n : ℕ) → field_of 32 number_of bytes ≡ Some (n, rest) → 2 ^ 16 ≤ n → field_of 32 id_of bytes ≡ None
unfolding narrowed
id_large bytes rest n some large = field_id bytes ∙ ap narrowed some ∙ cond-false (ltb n (2 ^ 16)) (Some (n, rest)) None (le-ltb n (2 ^ 16) large)

-- what the digits before a place spell, if anything
pub numeral_none : (bytes : List ℕ) (at : ℕ) → at < length bytes → at ≡ 0 → number_of (take at bytes) ≡ None
numeral_none bytes at lt none = let long = length-take at bytes in sym (number_of_none (take at bytes) (omega (arith, long, none)))

pub numeral_zeros : (bytes : List ℕ) (at : ℕ) → at < length bytes → get_or bytes 0 0 ≡ 48 → 1 < at → number_of (take at bytes) ≡ None
numeral_zeros bytes at lt zero_first more =
    let long = length-take at bytes in
    sym (number_of_zeros (take at bytes) (get_or-take at bytes 0 0 (omega arith) ∙ zero_first) (omega (arith, long)))

pub numeral_is : (bytes : List ℕ) (at value : ℕ) → at < length bytes → (at ≡ 0 → ⊥) → (get_or bytes 0 0 ≡ 48 → at ≡ 1) → IsValueOf (take at bytes) value → number_of (take at bytes) ≡ Some value
numeral_is bytes at value lt some one so_far =
    let long = length-take at bytes in
    sym (number_from_value (take at bytes) (Some value) (omega (arith, long))
    (λ zero_first. let e = one (sym (get_or-take at bytes 0 0 (omega arith)) ∙ zero_first) in omega (arith, long, e))
    ((so_far.0, let e = so_far.1 in let small = so_far.2 in omega (arith, e, small)), so_far.1))

-- What a loop over a list has done, and one more element.

pub take_one_more : {A : Type 0} (xs : List A) (n : ℕ) (x : A) → n < length xs → x ≡ get_or xs n x → take (n + 1) xs ≡ take n xs ++ x ∷ []
take_one_more xs n x below is =
    let next : n + 1 ≡ suc n = omega arith in
    ap (λ k. take k xs) next ∙ take-suc xs n x below ∙ ap (λ y. take n xs ++ y ∷ []) (sym is)

pub flat_map_more : {A B : Type 0} (f : A → List B) (xs : List A) (n : ℕ) (x : A) → n < length xs → x ≡ get_or xs n x
    → flat_map f (take (n + 1) xs) ≡ flat_map f (take n xs) ++ f x
flat_map_more f xs n x below is =
    ap (flat_map f) (take_one_more xs n x below is) ∙ flat_map-append f (take n xs) (x ∷ []) ∙ ap (λ ys. flat_map f (take n xs) ++ ys) (append-nil (f x))

pub all-append : {A : Type 0} (P : A → Type 0) (xs ys : List A) → AllByRecursion P xs → AllByRecursion P ys → AllByRecursion P (xs ++ ys)
all-append P [] ys none more = more
all-append P (x ∷ xs) ys all more = (all.0, all-append P xs ys all.1 more)

pub all_more : {A : Type 0} (P : A → Type 0) (xs : List A) (n : ℕ) (x : A) → n < length xs → x ≡ get_or xs n x
    → AllByRecursion P (take n xs) → P x → AllByRecursion P (take (n + 1) xs)
all_more P xs n x below is all more = subst (AllByRecursion P) (sym (take_one_more xs n x below is)) (all-append P (take n xs) (x ∷ []) all (more, tt))

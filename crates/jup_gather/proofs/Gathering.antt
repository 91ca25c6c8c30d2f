-- The lines of messages, written and gathered.
use Rattle.std.proofs.Common.{◌≡◌, ℕ, ◌-◌, ◌<◌, false, List, [], ◌∷◌, ◌++◌, length, Some, refl, sym, ap, subst, ◌∙◌, arith, lit≤, IsTrue, map, replicate, length-append, ◌+◌, ◌≤◌, append-nil, ◌↔◌, nat_le, vec_len, vec_capacity, Option, None, append_assoc}
use Rattle.std.proofs.lemmas.Bool.{false≢true, cond-true, and_from, le-leb}
use Rattle.std.proofs.lemmas.List.{map-append, length-replicate, flat_map_more, length-map}
use Rattle.std.specs.Global.{Vec}
use Rattle.std.specs.List.{flat_map, AllByRecursion}
use Rattle.std.proofs.lemmas.List.Concat.{flat_map-cons, flat_map-append}
use Rattle.jup_setting.specs.declared.operation.SetOp.TheVariants as set
use Rattle.jup_gather.specs.Prelude.{Msg, BoardOp, Line, Batch, Do, Whole, Held, Plain, Misplaced, Gathered}
use Rattle.jup_star.specs.Messages.{RelabelNoText}
use Rattle.jup_wire.specs.Fields.{IsCount}
use Rattle.jup_wire.specs.Lines.{spelling, HasSpelling, is_spelled, line_bytes, IsLine}
use Rattle.jup_wire.proofs.Streams.{all-append}
use Rattle.jup_gather.specs.Gathering.{Message, Alone, stands_alone, IsPart, HasNoPlace, Gathers, Piece, piece_lines, MayGo, IsSound, message_lines, all_lines, IsPiece, BeginsNone, HasGathered, IsMisplaced, pieces_of, GathersAll}
use Rattle.jup_star.specs.Prelude.{most_operations}
use Rattle.jup_window.specs.declared.kinds.WidgetOp.TheVariants.{Toggle}

-- A message that has begun, and the line after it.

-- the lines of operations
abbrev pub dos : List BoardOp → List Line
dos ops = map (λ op. Do op) ops

-- as many operations, and then the same lines
pub same_dos : (os ps : List BoardOp) (x y : List Line) → length os ≡ length ps → dos os ++ x ≡ dos ps ++ y → (os ≡ ps) × (x ≡ y)
same_dos [] [] x y same e = (refl, e)
same_dos [] (p ∷ ps) x y same e = absurd (omega (arith, same))
same_dos (o ∷ os) [] x y same e = absurd (omega (arith, same))
same_dos (o ∷ os) (p ∷ ps) x y same e =
    let rest = same_dos os ps x y (omega (arith, same)) (cc) in
    (let first : o ≡ p = cc in cc, rest.1)

-- after fewer operations than a message has, one more follows
next_is_do : (os ps : List BoardOp) (line : Line) (x y : List Line) → length os < length ps → dos os ++ line ∷ x ≡ dos ps ++ y → (op : BoardOp) × (line ≡ Do op)
next_is_do os [] line x y lt e = absurd (omega (arith, lt))
next_is_do [] (p ∷ ps) line x y lt e = (p, cc)
next_is_do (o ∷ os) (p ∷ ps) line x y lt e = next_is_do os ps line x y (omega (arith, lt)) (cc)

-- ---- lines without a place

pub never_alone : (line other : Line) → IsTrue (stands_alone line) → line ≡ other → stands_alone other ≡ false → ⊥
never_alone line other alone same not = false≢true (sym not ∙ ap stands_alone (sym same) ∙ alone)

pub no_place_begun : (mine heard count : ℕ) (ops : List BoardOp) (line : Line) → length ops < count → ((op : BoardOp) → line ≡ Do op → ⊥) → HasNoPlace (Batch mine heard count ∷ dos ops) line
no_place_begun mine heard count ops line lt other more (Message m) later is e =
    let same : count ≡ length m.op = cc in
    let next = next_is_do ops m.op line more later (omega (arith, lt, same)) (cc) in
    other next.0 next.1
no_place_begun mine heard count ops line lt other more (Alone plain) later is e = never_alone plain (Batch mine heard count) is (cc) refl

-- ---- lines that are held

-- any operation
any : BoardOp
any = record { win = 0; wid = 0; op = Toggle set.Nothing }

pub no_part : IsPart []
no_part = record { message = record { mine = 0; heard = 0; op = any ∷ [] }; rest = Batch 0 0 1 ∷ Do any ∷ []; is = (lit≤ tt, lit≤ tt); missing = λ e. cc; lines = refl }

pub part_is : (mine heard count : ℕ) (ops : List BoardOp) → IsCount count → length ops < count → IsPart (Batch mine heard count ∷ dos ops)
part_is mine heard count ops is lt =
    let others = count - length ops - 1 in
    let more = any ∷ replicate others any in
    let long : length (ops ++ more) ≡ count = omega (arith, length-append ops more, length-replicate {A = BoardOp} others any, lt) in
    record {
      message = record { mine = mine; heard = heard; op = ops ++ more };
      rest = dos more;
      is = subst IsCount (sym long) is;
      missing = λ e. cc;
      lines = ap (λ n. Batch mine heard n ∷ (dos ops ++ dos more)) (sym long) ∙ ap (λ t. Batch mine heard (length (ops ++ more)) ∷ t) (sym (map-append (λ op. Do op) ops more));
    }

one_more : (mine heard count : ℕ) (ops after : List BoardOp) (op : BoardOp) (line : Line) → line ≡ Do op → after ≡ ops ++ op ∷ [] → Batch mine heard count ∷ dos after ≡ (Batch mine heard count ∷ dos ops) ++ line ∷ []
one_more mine heard count ops after op line is grown =
    ap (λ t. Batch mine heard count ∷ t) (ap dos grown ∙ map-append (λ op. Do op) ops (op ∷ []) ∙ ap (λ l. dos ops ++ l ∷ []) (sym is))

pub step_held : (mine heard count : ℕ) (ops after : List BoardOp) (op : BoardOp) (line : Line) → line ≡ Do op → after ≡ ops ++ op ∷ [] → IsCount count → length after < count
    → Gathers (Some (Batch mine heard count ∷ dos ops)) line Held (Some (Batch mine heard count ∷ dos after))
step_held mine heard count ops after op line is grown fits lt =
    let more = one_more mine heard count ops after op line is grown in
    (subst IsPart more (part_is mine heard count after fits lt), ap Some more)

pub step_whole : (mine heard count : ℕ) (ops after : List BoardOp) (op : BoardOp) (line : Line) → line ≡ Do op → after ≡ ops ++ op ∷ [] → IsCount count → length after ≡ count
    → Gathers (Some (Batch mine heard count ∷ dos ops)) line (Whole (record { mine = mine; heard = heard; op = after })) (Some [])
step_whole mine heard count ops after op line is grown fits all =
    (subst IsCount (sym all) fits, sym (one_more mine heard count ops after op line is grown) ∙ ap (λ n. Batch mine heard n ∷ dos after) (sym all), refl)

-- The lines of a message, written one after another.

-- a line that passes the test is written as its spelling
abbrev pub IsWritten : Line → Type 0
IsWritten line = IsTrue (is_spelled line) → IsLine (line_bytes line) line

line_written : (line : Line) → (IsTrue (is_spelled line) ↔ HasSpelling line) → IsWritten line
line_written line exact is = (exact.0 is, cond-true (is_spelled line) (spelling line) [] is)

-- these lines were appended, and there is room for so many more bytes
pub record HasWritten (old now : Vec ℕ) (lines : List Line) (left : ℕ) : Type 0 where
  pub items : now.items ≡ old.items ++ flat_map line_bytes lines
  pub each : AllByRecursion IsWritten lines
  pub capacity : vec_capacity old ≤ vec_capacity now
  pub room : vec_len now + left ≤ vec_capacity now

-- one more line
pub written : (old mid now : Vec ℕ) (lines : List Line) (line : Line) (room most left : ℕ) → HasWritten old mid lines room → most + left ≤ room → (IsTrue (is_spelled line) ↔ HasSpelling line)
    → now.items ≡ mid.items ++ line_bytes line → length (line_bytes line) ≤ most → vec_capacity mid ≤ vec_capacity now → HasWritten old now (lines ++ line ∷ []) left
written old mid now lines line room most left was fits exact e short grown =
    let long = ap length e ∙ length-append mid.items (line_bytes line) in
    let mid_is = mid.ok.0 in
    let now_is = now.ok.0 in
    let there = was.room in
    record {
      items = e ∙ ap (λ t. t ++ line_bytes line) was.items ∙ flat_map_more line_bytes old.items lines line;
      each = all-append IsWritten lines (line ∷ []) was.each (line_written line exact, tt);
      capacity = omega (arith, was.capacity, grown);
      room = omega (arith, long, mid_is, now_is, short, grown, fits, there);
    }

-- the lines of a piece were appended, and are its spelling if it may go
abbrev pub IsPieceWritten : List ℕ → List ℕ → Piece → Type 0
IsPieceWritten old new p = (new ≡ old ++ flat_map line_bytes (piece_lines p)) × (MayGo p → AllByRecursion (λ line. IsLine (line_bytes line) line) (piece_lines p))

pub batch_fits : (mine heard count : ℕ) → 1 ≤ count → count ≤ most_operations → IsTrue (is_spelled (Batch mine heard count))
batch_fits mine heard count some few = and_from (nat_le 1 count) (nat_le count most_operations) (le-leb 1 count some) (le-leb count most_operations few)

dos_are : (ops : List BoardOp) → AllByRecursion IsWritten (dos ops) → RelabelNoText ops → AllByRecursion (λ line. IsLine (line_bytes line) line) (dos ops)
dos_are [] each may_go = tt
dos_are (op ∷ ops) each may_go = (each.0 may_go.0, dos_are ops each.1 may_go.1)

pub edit_written : (old now : Vec ℕ) (mine heard left : ℕ) (ops : List BoardOp) → 1 ≤ length ops → length ops ≤ most_operations → HasWritten old now (Batch mine heard (length ops) ∷ dos ops) left
    → IsPieceWritten old.items now.items (Message (record { mine = mine; heard = heard; op = ops }))
edit_written old now mine heard left ops some few all = (all.items, λ may_go. (all.each.0 (batch_fits mine heard (length ops) some few), dos_are ops all.each.1 may_go))

alone_spelled : (line : Line) → IsTrue (stands_alone line) → IsTrue (is_spelled line)
alone_spelled (Batch mine heard count) alone = absurd (false≢true alone)
alone_spelled (Do op) alone = absurd (false≢true alone)
alone_spelled line alone = refl

pub alone_written : (old new : List ℕ) (line : Line) → IsSound (Alone line) → (IsTrue (is_spelled line) ↔ HasSpelling line) → new ≡ old ++ line_bytes line → IsPieceWritten old new (Alone line)
alone_written old new line sound exact e = (e ∙ ap (λ t. old ++ t) (sym (append-nil (line_bytes line))), λ may_go. (line_written line exact (alone_spelled line sound), tt))

-- Lines are gathered in one way.

same_message : (m n : Msg (List BoardOp)) → m.mine ≡ n.mine → m.heard ≡ n.heard → m.op ≡ n.op → m ≡ n
same_message m n mine heard op =
    ap (λ (k : ℕ). record { mine = k; heard = m.heard; op = m.op }) mine ∙ ap (λ (k : ℕ). record { mine = n.mine; heard = k; op = m.op }) heard ∙ ap (λ (os : List BoardOp). record { mine = n.mine; heard = n.heard; op = os }) op

-- no piece's lines begin another's
pub one_piece : (p q : Piece) (x y : List Line) → IsPiece p → IsPiece q → piece_lines p ++ x ≡ piece_lines q ++ y → (p ≡ q) × (x ≡ y)
one_piece (Message m) (Message n) x y is_p is_q e =
    let rest = same_dos m.op n.op x y (cc) (cc) in
    (ap Message (same_message m n (cc) (cc) rest.0), rest.1)
one_piece (Message m) (Alone line) x y is_p is_q e = absurd (never_alone line (Batch m.mine m.heard (length m.op)) is_q (cc) refl)
one_piece (Alone line) (Message n) x y is_p is_q e = absurd (never_alone line (Batch n.mine n.heard (length n.op)) is_p (cc) refl)
one_piece (Alone line) (Alone other) x y is_p is_q e = (ap Alone (cc), cc)

-- ---- what begins with no piece

pub none_behind : (xs ys : List Line) → xs ++ ys ≡ [] → ys ≡ []
none_behind [] ys e = e
none_behind (x ∷ xs) ys e = absurd cc

pub part_begins_none : (part : List Line) → IsPart part → BeginsNone part
part_begins_none part begun piece later is e =
    let whole : piece_lines piece ++ (later ++ begun.rest) ≡ message_lines begun.message ++ [] =
    sym (append_assoc (piece_lines piece) later begun.rest) ∙ ap (λ ls. ls ++ begun.rest) (sym e) ∙ begun.lines ∙ sym (append-nil (message_lines begun.message)) in
    begun.missing (none_behind later begun.rest (one_piece piece (Message begun.message) (later ++ begun.rest) [] is begun.is whole).1)

-- ---- one way

first_piece : (p : Piece) (ps : List Piece) (x : List Line) → all_lines (p ∷ ps) ++ x ≡ piece_lines p ++ (all_lines ps ++ x)
first_piece p ps x = ap (λ ls. ls ++ x) (flat_map-cons piece_lines p ps) ∙ append_assoc (piece_lines p) (all_lines ps) x

one_way : (ps qs : List Piece) (x y : List Line) → AllByRecursion IsPiece ps → AllByRecursion IsPiece qs → BeginsNone x → BeginsNone y → all_lines ps ++ x ≡ all_lines qs ++ y → (ps ≡ qs) × (x ≡ y)
one_way [] [] x y all_p all_q end_x end_y e = (refl, e)
one_way [] (q ∷ qs) x y all_p all_q end_x end_y e = absurd (end_x q (all_lines qs ++ y) all_q.0 (e ∙ first_piece q qs y))
one_way (p ∷ ps) [] x y all_p all_q end_x end_y e = absurd (end_y p (all_lines ps ++ x) all_p.0 (sym e ∙ first_piece p ps x))
one_way (p ∷ ps) (q ∷ qs) x y all_p all_q end_x end_y e =
    let first = one_piece p q (all_lines ps ++ x) (all_lines qs ++ y) all_p.0 all_q.0 (sym (first_piece p ps x) ∙ e ∙ first_piece q qs y) in
    let rest = one_way ps qs x y all_p.1 all_q.1 end_x end_y first.1 in
    (cc, rest.1)

-- a part of a message has a place for each of its lines
all_placed : (part begun : List Line) (line : Line) (more : List Line) → IsPart part → HasNoPlace begun line → part ≡ begun ++ line ∷ more → ⊥
all_placed part begun line more is no_place e =
    no_place (more ++ is.rest) (Message is.message) [] is.is
    (sym (append_assoc begun (line ∷ more) is.rest) ∙ ap (λ ls. ls ++ is.rest) (sym e) ∙ is.lines ∙ sym (append-nil (message_lines is.message)))

pub one_gathering : (lines : List Line) (ps qs : List Piece) (held other : Option (List Line)) → HasGathered lines ps held → HasGathered lines qs other → (ps ≡ qs) × (held ≡ other)
one_gathering lines ps qs (Some part) (Some other) a b =
    let way = one_way ps qs part other a.sound b.sound (part_begins_none part a.rest.1) (part_begins_none other b.rest.1) (sym a.rest.0 ∙ b.rest.0) in
    (way.0, ap Some way.1)
one_gathering lines ps qs (Some part) None a b =
    let m = b.rest in
    let way = one_way ps qs part (m.part ++ m.line ∷ m.more) a.sound b.sound (part_begins_none part a.rest.1) (m.no_place m.more) (sym a.rest.0 ∙ m.come) in
    absurd (all_placed part m.part m.line m.more a.rest.1 m.no_place way.1)
one_gathering lines ps qs None (Some part) a b =
    let m = a.rest in
    let way = one_way ps qs (m.part ++ m.line ∷ m.more) part a.sound b.sound (m.no_place m.more) (part_begins_none part b.rest.1) (sym m.come ∙ b.rest.0) in
    absurd (all_placed part m.part m.line m.more b.rest.1 m.no_place (sym way.1))
one_gathering lines ps qs None None a b =
    let m = a.rest in
    let n = b.rest in
    let way = one_way ps qs (m.part ++ m.line ∷ m.more) (n.part ++ n.line ∷ n.more) a.sound b.sound (m.no_place m.more) (n.no_place n.more) (sym m.come ∙ n.come) in
    (way.0, refl)

-- Lines that are gathered one by one.

pub at_first : HasGathered [] [] (Some [])
at_first = record { sound = tt; rest = (refl, no_part) }

-- a piece is complete after others
complete : (lines part : List Line) (pieces : List Piece) (piece : Piece) (line : Line) → AllByRecursion IsPiece pieces → lines ≡ all_lines pieces ++ part
    → IsPiece piece → part ++ line ∷ [] ≡ piece_lines piece → HasGathered (lines ++ line ∷ []) (pieces ++ piece ∷ []) (Some [])
complete lines part pieces piece line sound come is whole = record {
  sound = all-append IsPiece pieces (piece ∷ []) sound (is, tt);
  rest = (
    ap (λ ls. ls ++ line ∷ []) come ∙ append_assoc (all_lines pieces) part (line ∷ []) ∙ ap (λ ls. all_lines pieces ++ ls) (whole ∙ sym (append-nil (piece_lines piece)))
        ∙ sym (flat_map-append piece_lines pieces (piece ∷ [])) ∙ sym (append-nil (all_lines (pieces ++ piece ∷ []))),
    no_part,
  );
}

misplaced_on : (lines : List Line) (pieces : List Piece) (line : Line) → IsMisplaced lines pieces → IsMisplaced (lines ++ line ∷ []) pieces
misplaced_on lines pieces line m = record {
  part = m.part;
  line = m.line;
  more = m.more ++ line ∷ [];
  begun = m.begun;
  no_place = m.no_place;
  come = ap (λ ls. ls ++ line ∷ []) m.come ∙ append_assoc (all_lines pieces) (m.part ++ m.line ∷ m.more) (line ∷ []) ∙ ap (λ ls. all_lines pieces ++ ls) (append_assoc m.part (m.line ∷ m.more) (line ∷ []));
}

-- no piece more
still : (lines : List Line) (pieces : List Piece) (held : Option (List Line)) → HasGathered lines pieces held → HasGathered lines (pieces ++ []) held
still lines pieces held has = subst (λ ps. HasGathered lines ps held) (sym (append-nil pieces)) has

gathers_cases : (held new : Option (List Line)) (line : Line) (gathered : Gathered) (lines : List Line) (pieces : List Piece) → Gathers held line gathered new → HasGathered lines pieces held
    → HasGathered (lines ++ line ∷ []) (pieces ++ pieces_of gathered) new
gathers_cases None new line gathered lines pieces step has =
    let stopped : HasGathered (lines ++ line ∷ []) pieces None = record { sound = has.sound; rest = misplaced_on lines pieces line has.rest } in
    subst (λ g. HasGathered (lines ++ line ∷ []) (pieces ++ pieces_of g) new) (sym step.0)
    (subst (λ h. HasGathered (lines ++ line ∷ []) (pieces ++ []) h) (sym step.1) (still _ pieces None stopped))
gathers_cases (Some part) new line (Whole m) lines pieces step has =
    subst (λ h. HasGathered (lines ++ line ∷ []) (pieces ++ Message m ∷ []) h) (sym step.2) (complete lines part pieces (Message m) line has.sound has.rest.0 step.0 step.1)
gathers_cases (Some part) new line (Plain plain) lines pieces step has =
    let alone : part ++ line ∷ [] ≡ plain ∷ [] = ap (λ ls. ls ++ line ∷ []) step.0 ∙ ap (λ l. l ∷ []) (sym step.2) in
    subst (λ h. HasGathered (lines ++ line ∷ []) (pieces ++ Alone plain ∷ []) h) (sym step.3)
    (complete lines part pieces (Alone plain) line has.sound has.rest.0 (subst (λ l. IsPiece (Alone l)) (sym step.2) step.1) alone)
gathers_cases (Some part) new line Held lines pieces step has =
    let more : HasGathered (lines ++ line ∷ []) pieces (Some (part ++ line ∷ [])) =
    record { sound = has.sound; rest = (ap (λ ls. ls ++ line ∷ []) has.rest.0 ∙ append_assoc (all_lines pieces) part (line ∷ []), step.0) } in
    subst (λ h. HasGathered (lines ++ line ∷ []) (pieces ++ []) h) (sym step.1) (still _ pieces _ more)
gathers_cases (Some part) new line Misplaced lines pieces step has =
    let stopped : HasGathered (lines ++ line ∷ []) pieces None = record {
      sound = has.sound;
      rest = record {
        part = part;
        line = line;
        more = [];
        begun = has.rest.1;
        no_place = step.0;
        come = ap (λ ls. ls ++ line ∷ []) has.rest.0 ∙ append_assoc (all_lines pieces) part (line ∷ []);
      };
    } in
    subst (λ h. HasGathered (lines ++ line ∷ []) (pieces ++ []) h) (sym step.1) (still _ pieces None stopped)

-- what holds of the lines so far holds with one more line
pub gathers_on : (held new : Option (List Line)) (line : Line) (gathered : Gathered) → Gathers held line gathered new → (lines : List Line) (pieces : List Piece) → HasGathered lines pieces held
    → HasGathered (lines ++ line ∷ []) (pieces ++ pieces_of gathered) new
gathers_on held new line gathered step lines pieces has = gathers_cases held new line gathered lines pieces step has

-- The lines of a message are held until the last, which gives it.

-- what a line of a message gives, by the lines after it
Comes : Msg (List BoardOp) → List Line → Line → List Line → Gathered → Option (List Line) → Type 0
Comes m part line [] gathered new = (gathered ≡ Whole m) × (new ≡ Some [])
Comes m part line (next ∷ rest) gathered new = (gathered ≡ Held) × (new ≡ Some (part ++ line ∷ []))

next_line : (m : Msg (List BoardOp)) (part : List Line) (line : Line) (rest : List Line) (gathered : Gathered) (new : Option (List Line)) → IsPiece (Message m) → part ++ line ∷ rest ≡ message_lines m
    → stands_alone line ≡ false → Gathers (Some part) line gathered new → Comes m part line rest gathered new
unfolding Comes
next_line m part line [] (Whole n) new is all within step =
    let same = one_piece (Message n) (Message m) [] [] step.0 is (ap (λ ls. ls ++ []) (sym step.1 ∙ all)) in
    (cc, step.2)
next_line m part line [] Held new is all within step = absurd (part_begins_none (part ++ line ∷ []) step.0 (Message m) [] is (all ∙ sym (append-nil (message_lines m))))
next_line m part line (next ∷ rest) (Whole n) new is all within step =
    let both : message_lines n ++ next ∷ rest ≡ message_lines m ++ [] =
    ap (λ ls. ls ++ next ∷ rest) (sym step.1) ∙ append_assoc part (line ∷ []) (next ∷ rest) ∙ all ∙ sym (append-nil (message_lines m)) in
    absurd (let none = (one_piece (Message n) (Message m) (next ∷ rest) [] step.0 is both).1 in cc)
next_line m part line (next ∷ rest) Held new is all within step = (refl, step.1)
next_line m part line rest (Plain plain) new is all within step = absurd (false≢true (sym within ∙ step.1))
next_line m part line rest Misplaced new is all within step = absurd (step.0 rest (Message m) [] is (all ∙ sym (append-nil (message_lines m))))

all_lines_come : (m : Msg (List BoardOp)) (part : List Line) (line : Line) (rest : List Line) (answers : List Gathered) (new : Option (List Line)) → IsPiece (Message m) → part ++ line ∷ rest ≡ message_lines m
    → AllByRecursion (λ l. stands_alone l ≡ false) (line ∷ rest) → GathersAll (Some part) (line ∷ rest) answers new → (answers ≡ replicate (length rest) Held ++ Whole m ∷ []) × (new ≡ Some [])
unfolding Comes
all_lines_come m part line rest [] new is all within run = absurd run
all_lines_come m part line [] (gathered ∷ []) new is all within run =
    let come = next_line m part line [] gathered run.0 is all within.0 run.1.0 in
    (ap (λ g. g ∷ []) come.0, run.1.1 ∙ come.1)
all_lines_come m part line [] (gathered ∷ other ∷ others) new is all within run = absurd run.1.1
all_lines_come m part line (next ∷ rest) (gathered ∷ others) new is all within run =
    let come = next_line m part line (next ∷ rest) gathered run.0 is all within.0 run.1.0 in
    let goes_on = subst (λ h. GathersAll h (next ∷ rest) others new) come.1 run.1.1 in
    let later = all_lines_come m (part ++ line ∷ []) next rest others new is (append_assoc part (line ∷ []) (next ∷ rest) ∙ all) within.1 goes_on in
    (ap (λ g. g ∷ others) come.0 ∙ ap (λ gs. Held ∷ gs) later.0, later.1)

dos_within : (ops : List BoardOp) → AllByRecursion (λ l. stands_alone l ≡ false) (dos ops)
dos_within [] = tt
dos_within (op ∷ ops) = (refl, dos_within ops)

pub message_comes_whole : (m : Msg (List BoardOp)) (answers : List Gathered) (new : Option (List Line)) → IsPiece (Message m) → GathersAll (Some []) (message_lines m) answers new
    → (answers ≡ replicate (length m.op) Held ++ Whole m ∷ []) × (new ≡ Some [])
message_comes_whole m answers new is run =
    let come = all_lines_come m [] (Batch m.mine m.heard (length m.op)) (dos m.op) answers new is refl (refl, dos_within m.op) run in
    (come.0 ∙ ap (λ n. replicate n Held ++ Whole m ∷ []) (length-map m.op (λ op. Do op)), come.1)

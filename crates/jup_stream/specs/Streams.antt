-- What is read and what is written.
use Rattle.std.proofs.Common.{◌≡◌, ◌≤◌, ◌⊎◌, ℕ, List, [], ◌++◌, drop, Option, Some, None, Result, Ok, Err, ◌∙◌, sym, ap, subst, Bool, true, false, IsTrue, IsFalse, refl, true≢false, append_assoc, append-nil, flat_map}
use Rattle.std.specs.Io.KnownBytes.{Consumes, IsAtEnd, Appends}
use Rattle.std.proofs.lemmas.List.Concat.{flat_map-append}
use Rattle.std.proofs.KnownBytes.{Appends-nil, Appends-trans}
use Rattle.jup_wire.specs.declared.reader.Fed.{Fed}
use Rattle.jup_wire.specs.Streams.{Progress, HasRead, ending_at}
use Rattle.jup_wire.specs.Lines.{line_bytes}
use Rattle.jup_stream.specs.declared.faults.StreamFault.TheVariants.{Wire, NoMemory, ReadsSpent, ReadFailed}
use Rattle.jup_wire.specs.declared.line.Line.{Line}
use Rattle.jup_stream.specs.declared.faults.Stop.{Stop}
use Rattle.jup_stream.specs.declared.faults.Stop.TheVariants.{End, Fault}
use Rattle.jup_wire.specs.declared.faults.WireFault.{WireFault}

-- What a source of lines has read, and what it has handed on of that.

-- reads of a link, or of a user's commands
abbrev pub most_reads : ℕ
most_reads = 4294967295

-- The bytes that the reader has left, if they are known, how the bytes read so far were taken, and those lines that are still to be handed on. Then
-- how many reads were made
pub record Sourced : Type 0 where
  pub known : Option (List ℕ)
  pub progress : Progress
  pub waiting : List Line
  pub reads : ℕ

abbrev pub sourced : Option (List ℕ) → Progress → List Line → ℕ → Sourced
sourced known progress waiting reads = record { known = known; progress = progress; waiting = waiting; reads = reads }

-- the lines of a piece that were not handed on yet, and its fault
abbrev pub waiting_of : Option Fed → ℕ → List Line
waiting_of None given = []
waiting_of (Some fed) given = drop given fed.lines

abbrev pub fault_of : Option Fed → Option WireFault
fault_of None = None
fault_of (Some fed) = fed.fault

-- Meanwhile some bytes were read. Whatever came before: the lines handed on, with those that wait, are those of all the bytes so far
pub record ReadsOn (a b : Sourced) : Type 0 where
  pub bytes : List ℕ
  pub consumed : Consumes a.known b.known bytes
  pub counted : a.reads ≤ b.reads
  pub goes_on : (before : List ℕ) (lines : List Line) → HasRead before (lines ++ a.waiting) a.progress → HasRead (before ++ bytes) (lines ++ b.waiting) b.progress

-- these lines were handed on
abbrev pub HandsOn : Sourced → List Line → Sourced → Type 0
HandsOn a lines b = ReadsOn a (record b { waiting = lines ++ b.waiting })

-- why no further line comes. The bytes are at an end, between lines or within one; they have a fault; a read failed; an allocation failed; or all reads were made
abbrev pub IsWhy : Stop → Sourced → List ℕ → Type 0
IsWhy End b lost = (ending_at b.progress.fault b.progress.part ≡ Ok tt) × IsAtEnd b.known × (lost ≡ [])
IsWhy (Fault (Wire fault)) b lost = (ending_at b.progress.fault b.progress.part ≡ Err fault) × ((b.progress.fault ≡ Some fault) ⊎ IsAtEnd b.known) × (lost ≡ [])
IsWhy (Fault NoMemory) b lost = Unit {0}
IsWhy (Fault ReadFailed) b lost = lost ≡ []
IsWhy (Fault ReadsSpent) b lost = (lost ≡ []) × (b.reads ≡ most_reads)
IsWhy (Fault fault) b lost = ⊥

-- No further line comes. All lines were handed on; if an allocation failed for a piece that was read, its bytes are lost
pub record Stops (a : Sourced) (stop : Stop) (b : Sourced) : Type 0 where
  pub middle : Option (List ℕ)
  pub reads : ReadsOn a (record b { known = middle })
  pub lost : List ℕ
  pub consumed : Consumes middle b.known lost
  pub none : b.waiting ≡ []
  pub why : IsWhy stop b lost

-- what the end of the bytes means
abbrev pub stop_of : Result (Unit {0}) WireFault → Stop
stop_of (Ok u) = End
stop_of (Err fault) = Fault (Wire fault)

-- What an output was given, and what it wrote of that.

-- what the writer holds, if that is known, whether each call for it did what it was made for, and whether it has failed or was given up. Then the bytes that
-- are gathered for it, and whether the output counts it as failed
pub record Put : Type 0 where
  pub written : Option (List ℕ)
  pub well : Bool
  pub lost : Bool
  pub held : List ℕ
  pub failed : Bool

abbrev pub put_as : Option (List ℕ) → Bool → Bool → List ℕ → Bool → Put
put_as written well lost held failed = record { written = written; well = well; lost = lost; held = held; failed = failed }

-- an output at a writer, before its first line
abbrev pub fresh_put : Option (List ℕ) → Bool → Bool → Put
fresh_put written well lost = put_as written well lost [] false

-- These bytes were put after those that were gathered. The front of all that was written since, and the rest is gathered, unless a write has failed. After a
-- write that failed nothing is written. A write or a flush that did not do what it was made for is a failure.
pub record Puts (a : Put) (bytes : List ℕ) (b : Put) : Type 0 where
  pub moved : List ℕ
  pub left : List ℕ
  pub all : a.held ++ bytes ≡ moved ++ left
  pub written : Appends a.written b.written moved
  pub held : IsFalse b.failed → b.held ≡ left
  pub stays : IsTrue a.failed → IsTrue b.failed × (moved ≡ [])
  pub well : IsFalse b.failed → IsTrue a.well → IsTrue b.well

-- the same of lines
abbrev pub PutsLines : Put → List Line → Put → Type 0
PutsLines a lines b = Puts a (flat_map line_bytes lines) b

-- all that was put is written, unless a write has failed
abbrev pub IsFlushed : Put → Type 0
IsFlushed a = IsFalse a.failed → a.held ≡ []

-- of these bytes the front was written, all of them if all is true
abbrev pub WritesFront : Option (List ℕ) → Option (List ℕ) → List ℕ → Bool → Type 0
WritesFront old new bytes all = (front : List ℕ) × (rest : List ℕ) × (bytes ≡ front ++ rest) × Appends old new front × (IsTrue all → rest ≡ [])

pub puts_none : (a : Put) → PutsLines a [] a
puts_none a = record { moved = []; left = a.held; all = append-nil a.held; written = Appends-nil a.written; held = λ _. refl; stays = λ e. (e, refl); well = λ _ e. e }

pub puts_both : (a b c : Put) (xs ys : List ℕ) → Puts a xs b → Puts b ys c → Puts a (xs ++ ys) c
puts_both a b c xs ys one two = go b.failed refl
  where
    first : a.held ++ (xs ++ ys) ≡ (one.moved ++ one.left) ++ ys
    first = sym (append_assoc a.held xs ys) ∙ ap (λ l. l ++ ys) one.all

    all : Appends a.written c.written (one.moved ++ two.moved)
    all = Appends-trans a.written b.written c.written one.moved two.moved one.written two.written

    go : (f : Bool) → b.failed ≡ f → Puts a (xs ++ ys) c
    go false e = record {
      moved = one.moved ++ two.moved;
      left = two.left;
      all = first ∙ ap (λ l. (one.moved ++ l) ++ ys) (sym (one.held e)) ∙ append_assoc one.moved b.held ys ∙ ap (λ l. one.moved ++ l) two.all
          ∙ sym (append_assoc one.moved two.moved two.left);
      written = all;
      held = two.held;
      stays = λ h. absurd (true≢false (sym (one.stays h).0 ∙ e));
      well = λ h w. two.well h (one.well e w);
    }
    go true e = let t = two.stays e in record {
      moved = one.moved ++ two.moved;
      left = one.left ++ ys;
      all = first ∙ append_assoc one.moved one.left ys ∙ ap (λ m. m ++ (one.left ++ ys)) (sym (append-nil one.moved) ∙ ap (λ m. one.moved ++ m) (sym t.1));
      written = all;
      held = λ h. absurd (true≢false (sym t.0 ∙ h));
      stays = λ h. (t.0, ap (λ m. m ++ two.moved) (one.stays h).1 ∙ t.1);
      well = λ h w. absurd (true≢false (sym t.0 ∙ h));
    }

pub puts_more : (a b c : Put) (xs ys : List Line) → PutsLines a xs b → PutsLines b ys c → PutsLines a (xs ++ ys) c
puts_more a b c xs ys one two = subst (λ l. Puts a l c) (sym (flat_map-append line_bytes xs ys)) (puts_both a b c (flat_map line_bytes xs) (flat_map line_bytes ys) one two)

-- lines are put, and then all is sent
pub puts_sent : (a b c : Put) (lines : List Line) → PutsLines a lines b → Puts b [] c → PutsLines a lines c
puts_sent a b c lines one two = subst (λ l. Puts a l c) (append-nil (flat_map line_bytes lines)) (puts_both a b c (flat_map line_bytes lines) [] one two)

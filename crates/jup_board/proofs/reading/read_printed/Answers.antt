use Rattle.std.proofs.Common.{◌≡◌, true, false, inl, inr, [], ◌∷◌, ◌++◌, List, ℕ, length, sym, ap, subst, ◌∙◌, arith, rules, length-append}
use Rattle.jup_text.specs.declared.board_reader.UnreadLine.TheVariants.{BadLine, NoMemory}
use Rattle.jup_text.specs.Boards.{Draft}
use Rattle.jup_board.specs.Boards.{Lacks, IsReadTo, IsPrintOf, blank}
use Rattle.jup_board.proofs.FollowingLines.{GoesOn, board_goes_on, read_none, read_more, line_left, next_left}
use Rattle.jup_board.proofs.ReadingBack.{reads_back}
use Rattle.jup_board.proofs.reading.read_printed.Goals as goal

pub loop-reader-init : goal.loop-reader-init
loop-reader-init c =
    let rest = c.new-lines.result.rest.now in
    let start : c.new-reader.result ≡ blank = c.new-reader.ensures in
    let heading = c.behind_heading-passed.ensures.rest in
    let whole = ap (λ (t : List ℕ). length t) heading.2 in
    let same = ap (λ (t : List ℕ). length t) c.new-lines.ensures in
    record {
      read = subst (λ (d : Draft). IsReadTo rest rest d) (sym start) (read_none rest);
      left = λ small printed. subst (λ (d : Draft). GoesOn d rest) (sym start)
          (board_goes_on printed.windows rest printed.printable (c.new-lines.ensures ∙ c.behind_heading-passed.ensures.board printed.heading printed.windows printed.is_heading printed.whole)
          (omega (arith, small, whole, same, length-append heading.0 c.behind_heading-passed.result.0.now)));
    }

pub loop-reader-preserved : goal.loop-reader-preserved
loop-reader-preserved c =
    let next : c.loop-reader.lines.rest.now ≡ (c.in-Some.line.now ++ 10 ∷ []) ++ c.next_line.new.self.rest.now = search rules in
    let lacks : Lacks 10 c.in-Some.line.now = search rules in
    record {
      read = read_more c.new-lines.result.rest.now c.loop-reader.lines.rest.now c.in-Some.line.now c.next_line.new.self.rest.now c.loop-reader.reader c.take.new.self
          c.loop-reader.invariant.read next c.in-Ok.ensures.ok;
      left = λ small printed. (next_left c.loop-reader.reader c.loop-reader.lines.rest.now c.in-Some.line.now c.next_line.new.self.rest.now (c.loop-reader.invariant.left small printed) next lacks).1 c.take.new.self c.in-Ok.ensures.ok;
    }

pub returns-in_err-line-clause-every : goal.returns-in_err-line-clause-every
returns-in_err-line-clause-every c = λ small printed.
    elim (line_left c.loop-reader.reader c.loop-reader.lines.rest.now (c.loop-reader.invariant.left small printed)) [
      | inl none ↦ absurd (let no : false ≡ true = c.in_err-line.ensures.end none in cc)
      | inr left ↦ absurd (let no : false ≡ true = c.in_err-line.ensures.every left.0 left.1 left.2 left.3 left.4 in cc)
    ]

pub returns-in-Err-BadLine-clause-every : goal.returns-in-Err-BadLine-clause-every
returns-in-Err-BadLine-clause-every c = λ small printed.
    let next : c.loop-reader.lines.rest.now ≡ (c.in-Some.line.now ++ 10 ∷ []) ++ c.next_line.new.self.rest.now = search rules in
    let lacks : Lacks 10 c.in-Some.line.now = search rules in
    let left = next_left c.loop-reader.reader c.loop-reader.lines.rest.now c.in-Some.line.now c.next_line.new.self.rest.now (c.loop-reader.invariant.left small printed) next lacks in
    let missing = c.in-Err-BadLine.ensures.every left.0 in
    absurd (let no : BadLine ≡ NoMemory = sym c.in-Err-BadLine.field-0-is ∙ missing in cc)

pub returns-clause-again : goal.returns-clause-again
returns-clause-again c = λ windows ascending is.
    let printed : IsPrintOf c.whole.result c.args.text.now = search rules in
    reads_back windows c.whole.result c.args.text.now ascending is printed

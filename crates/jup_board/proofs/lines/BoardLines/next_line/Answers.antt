use Rattle.std.proofs.Common.{ℕ, List, sym, subst}
use Rattle.std.specs.Str.{IsUtf8}
use Rattle.jup_board.proofs.FollowingLines.{uncut_none, same_line}
use Rattle.jup_board.proofs.lines.BoardLines.next_line.Goals as goal

pub returns-in_default-clause-every : goal.returns-in_default-clause-every
returns-in_default-clause-every c = λ line rest lacks text is. absurd (uncut_none c.args.self.now.rest.now line rest c.in_default.ensures is)

pub returns-in-Err-clause-every : goal.returns-in-Err-clause-every
returns-in-Err-clause-every c = λ line rest lacks text is.
    let cut = c.in-Some.ensures in
    let same = same_line c.args.self.now.rest.now c.in-Some.line.now line c.in-Some.rest.now rest cut.1 cut.0 lacks is in
    absurd (c.in-Err.ensures.cases.0 (subst (λ (t : List ℕ). IsUtf8 t) (sym same) text))

use Rattle.std.proofs.Common.{ap, ◌∙◌}
use Rattle.jup_star.specs.Sites.{BoardSite}
use Rattle.callers.proofs.Calls.{joined_as}
use Rattle.callers.proofs.sites.attach.Goals as goal

pub returns-clause-board : goal.returns-clause-board
returns-clause-board c =
    ap (λ (s : BoardSite). s.board) c.in_ok-site.ensures.opened ∙ (joined_as c.args.star.now c.join.new.self c.in_ok-joined.joined c.in_ok-joined.ensures).0

pub returns-clause-number : goal.returns-clause-number
returns-clause-number c =
    ap (λ (s : BoardSite). s.number) c.in_ok-site.ensures.opened ∙ (joined_as c.args.star.now c.join.new.self c.in_ok-joined.joined c.in_ok-joined.ensures).1

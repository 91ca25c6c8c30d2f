use Rattle.std.proofs.Common.{rules, ◌≡◌, ◌∙◌, Ok, sym, ap, subst}
use Rattle.jup_batch.specs.Boards as board
use Rattle.jup_star.specs.Prelude.{BoardBatch, batch_laws, board_batches}
use Rattle.jup_batch.specs.Laws.Boards.{operations_shown}
use Rattle.jup_star.specs.Sites.{edit_answer, BoardSite}
use Rattle.jup_star.specs.contracts.site.Site.{the_view}
use Rattle.jup_star.proofs.Sites.{answer_operation}
use Rattle.jup_star.proofs.site.Site.name_several.Goals as goal

pub returns-clause-valid : goal.returns-clause-valid
returns-clause-valid c =
    let s : BoardSite = the_view c.self.inside in
    let op : BoardBatch = c.in_ok-from_slice.field-0 in
    let Answer : BoardSite → Type 0 = λ x. edit_answer board_batches c.args.commands.now x ≡ Ok op in
    let answer : Answer c.args.self.now = search rules in
    rw (← c.self.view_is) (batch_laws.command_accepted s.board c.args.commands.now s.number s.named op c.self.invariant.known
    (answer_operation s c.args.commands.now op (subst Answer (sym c.self.view_is) answer)))

pub returns-clause-shown : goal.returns-clause-shown
returns-clause-shown c =
    let s : BoardSite = the_view c.self.inside in
    rw (← c.self.view_is) (ap (λ o. board.after o s.board) c.in_ok-from_slice.ensures.ops
    ∙ operations_shown s.board c.args.commands.now s.number s.named c.name_all.new.ops c.in_ok-name_all.ensures.ok)

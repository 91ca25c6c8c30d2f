use Rattle.std.proofs.Common.{◌≡◌, ◌∙◌, sym, arith, false}
use Rattle.jup_batch.specs.Boards as board
use Rattle.jup_star.specs.Prelude.{has_site}
use Rattle.jup_window.specs.Laws.Entries.{has_site-bare, has_site-held}
use Rattle.jup_star.proofs.FaultTests.{site_fault_item, site_fault_none}
use Rattle.jup_star.proofs.site.Site.open.Goals as goal

pub returns-then-has_site-clause-refusal : goal.returns-then-has_site-clause-refusal
returns-then-has_site-clause-refusal c =
    site_fault_item c.args.number c.args.limit c.args.board (omega arith) (omega arith) (omega arith) (omega arith)
    (has_site-bare c.args.number c.args.board ∙ sym c.has_site.ensures ∙ c.if-has_site.true)

pub returns-clause-refusal : goal.returns-clause-refusal
returns-clause-refusal c =
    site_fault_none c.args.number c.args.limit c.args.board (omega arith) (omega arith) (omega arith) (omega arith)
    (has_site-bare c.args.number c.args.board ∙ sym c.has_site.ensures ∙ c.if-has_site.false)

pub invariant_of-result : goal.invariant_of-result
invariant_of-result c =
    let foreign : has_site c.args.number (board.bare c.args.board) ≡ false = has_site-bare c.args.number c.args.board ∙ sym c.has_site.ensures ∙ c.if-has_site.false in
    record {
      limited = omega arith;
      counted = omega arith;
      sent = rw c.new.ensures (omega arith);
      insertions = omega arith;
      known = λ n held own. absurd (has_site-held c.args.number (board.bare c.args.board) n foreign held own);
    }

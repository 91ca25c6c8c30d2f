use Rattle.jup_resume.specs.Keepers.{after_cut, unsent}
use Rattle.std.proofs.Common.{ap, ◌∙◌, ◌+◌, min, arith}
use Rattle.jup_lasting.specs.Edits.{begins_edit, edits_begun}
use Rattle.jup_lasting.proofs.Counting.{counted, all_counted}
use Rattle.jup_lasting.proofs.edits.count_begun.Goals as goal

pub loop-line-preserved : goal.loop-line-preserved
loop-line-preserved c =
    let at = c.in-Some.ensures in
    let begins = c.begins_edit-begins.ensures ∙ ap begins_edit (c.text_of.ensures at.text at.whole) in
    let all = counted c.loop-line.up at.text at.rest c.loop-line.count _ _ _ _ at.left begins c.from.ensures c.saturating_add-count.ensures c.loop-line.invariant.all in
    record {
      fits = omega arith;
      is_open = ap (λ k. k.is_open) c.wrote.ensures ∙ c.loop-line.invariant.is_open;
      all = ap (λ k. min (c.saturating_add-count.result + edits_begun (unsent k)) 4294967295) c.wrote.ensures ∙ all;
      kept = ap after_cut c.wrote.ensures ∙ c.loop-line.invariant.kept;
    }

pub returns-clause-count : goal.returns-clause-count
returns-clause-count c = all_counted c.loop-line.up c.loop-line.count _ c.loop-line.invariant.fits c.loop-line.invariant.is_open c.in_default.ensures c.loop-line.invariant.all

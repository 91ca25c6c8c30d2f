use Rattle.std.proofs.Common.{◌∙◌, ap, sym, not, ne_eqb}
use Rattle.jup_mixed.specs.Prelude.{board_batches, link_of}
use Rattle.jup_world.specs.Worlds.{place_reply}
use Rattle.jup_world.proofs.Answers as answers
use Rattle.jup_mixed.proofs.Programs as programs
use Rattle.jup_mixed.proofs.happening.take_stray.Goals as goal

pub returns-in-Ok-Some-clause-plays : goal.returns-in-Ok-Some-clause-plays
returns-in-Ok-Some-clause-plays c =
    let l = programs.waits_there (link_of c.args.link c.args.star.now.links) c.waiting.result c.waiting.ensures (c.is_none.ensures ∙ ap not c.if-is_none.false) in
    programs.plays_stray c.args.star.now c.take.new.self _ c.args.link c.args.up.now l.0 c.in-Ok-Some.field-0 _ (ne_eqb c.args.link 1 c.if-link-eq-HOME.false) l.1
    (answers.take_taken c.args.link c.args.up.now c.args.star.now c.take.new.self l.0 c.in-Ok-Some.field-0 l.1 c.in-Ok-Some.ensures.call)
    (ap (place_reply board_batches) (sym c.in-Ok-Some.field-0-is))

pub returns-in-Ok-None-clause-plays : goal.returns-in-Ok-None-clause-plays
returns-in-Ok-None-clause-plays c =
    let l = programs.waits_there (link_of c.args.link c.args.star.now.links) c.waiting.result c.waiting.ensures (c.is_none.ensures ∙ ap not c.if-is_none.false) in
    programs.plays_stray c.args.star.now c.take.new.self _ c.args.link c.args.up.now l.0 c.in-Ok-None.field-0 _ (ne_eqb c.args.link 1 c.if-link-eq-HOME.false) l.1
    (answers.take_taken c.args.link c.args.up.now c.args.star.now c.take.new.self l.0 c.in-Ok-None.field-0 l.1 c.in-Ok-None.ensures.call)
    (ap (place_reply board_batches) (sym c.in-Ok-None.field-0-is))

pub returns-in_ok-star_refusal-in-Err-clause-plays : goal.returns-in_ok-star_refusal-in-Err-clause-plays
returns-in_ok-star_refusal-in-Err-clause-plays c =
    let l = programs.waits_there (link_of c.args.link c.args.star.now.links) c.waiting.result c.waiting.ensures (c.is_none.ensures ∙ ap not c.if-is_none.false) in
    programs.plays_stray_refused c.args.star.now c.take.new.self _ c.args.link c.args.up.now l.0 c.in-Err.fault _ (ne_eqb c.args.link 1 c.if-link-eq-HOME.false) l.1
    (answers.take_refused c.args.link c.args.up.now c.args.star.now c.take.new.self l.0 c.in-Err.fault c.in_ok-star_refusal-in-Err.ensures.other l.1 c.in-Err.ensures.call) c.in_ok-star_refusal-in-Err.ensures.same

use Rattle.std.proofs.Common.{◌∙◌, ap, sym, Some}
use Rattle.jup_world.proofs.Answers as answers
use Rattle.jup_world.proofs.Happenings.{number_is}
use Rattle.jup_mixed.proofs.Programs as programs
use Rattle.jup_mixed.proofs.happening.join_stray.Goals as goal

pub returns-in-Ok-clause-plays : goal.returns-in-Ok-clause-plays
returns-in-Ok-clause-plays c =
    let call = answers.join_joined c.args.star.now c.join.new.self c.in-Ok.joined c.in-Ok.ensures in
    programs.plays_joined c.args.star.now c.join.new.self _ _ call.0 (number_is c.args.star.now c.in-Ok.joined call.1) call.2

pub returns-in_ok-star_refusal-in-Err-clause-plays : goal.returns-in_ok-star_refusal-in-Err-clause-plays
returns-in_ok-star_refusal-in-Err-clause-plays c =
    let call = answers.join_refused c.args.star.now c.join.new.self c.in-Err.fault c.in_ok-star_refusal-in-Err.ensures.other c.in-Err.ensures in
    programs.plays_no_join c.args.star.now c.join.new.self _ _ (call.0 ∙ ap Some (sym c.in_ok-star_refusal-in-Err.ensures.same)) call.1

use Rattle.jup_mixed.proofs.Programs as programs
use Rattle.jup_mixed.proofs.happening.move_up.Goals as goal

pub returns-in-Ok-clause-plays : goal.returns-in-Ok-clause-plays
returns-in-Ok-clause-plays c =
    programs.up_plays_at c.args.star.now c.args.site.now c.in-Some.home c.in-Some.is c.requires c.move_up.new.star c.in-Ok.reply c.move_up.new.self c.in-Ok.ensures.taken c.in-Ok.ensures.ok

pub returns-in_ok-fault-in-Err-clause-plays : goal.returns-in_ok-fault-in-Err-clause-plays
returns-in_ok-fault-in-Err-clause-plays c =
    programs.refused_plays_at c.args.star.now c.args.site.now c.in-Some.home c.in-Some.is c.requires c.move_up.new.star c.in-Err.fault _ (c.in-Err.ensures.refused c.in_ok-fault-in-Err.ensures.other) c.in_ok-fault-in-Err.ensures.other c.in_ok-fault-in-Err.ensures.same

use Rattle.jup_mixed.proofs.Programs.{edit_plays_at}
use Rattle.jup_mixed.proofs.happening.edit.Goals as goal

pub returns-in-Some-clause-plays : goal.returns-in-Some-clause-plays
returns-in-Some-clause-plays c =
    edit_plays_at c.args.star.now c.args.site.now c.in-Some.home c.in-Some.is c.requires c.args.commands.now c.edit.result c.edit.new.self c.edit.ensures.reply c.edit.ensures.ok

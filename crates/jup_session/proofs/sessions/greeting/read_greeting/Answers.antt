use Rattle.std.proofs.Common.{rules}
use Rattle.jup_session.proofs.Calls.{away_line, away_greeting}
use Rattle.jup_session.proofs.sessions.greeting.read_greeting.Goals as goal

pub returns-in-Err-clause-away : goal.returns-in-Err-clause-away
returns-in-Err-clause-away g c = λ v. away_line c.args.source.now c.next_line.new.self v c.in-Err.stop _ c.in-Err.ensures.stop (search rules)

pub returns-in-Err-check_greeting-clause-away : goal.returns-in-Err-check_greeting-clause-away
returns-in-Err-check_greeting-clause-away g c = λ v.
    away_greeting c.args.source.now c.next_line.new.self v c.in-Ok.first c.in-Err-check_greeting.fault c.check_greeting.result _ c.in-Ok.ensures.line c.in-Err-check_greeting.is
    c.check_greeting.ensures.hello c.check_greeting.ensures.other (search rules)

use Rattle.std.proofs.Common.{subst, [], ◌∷◌}
use Rattle.jup_session.specs.Prelude.{PutsLines, puts_sent}
use Rattle.jup_session.proofs.sessions.ending.tell.Goals as goal

pub returns-clause-put : goal.returns-clause-put
returns-clause-put g c =
    subst (λ line. PutsLines c.args.output.now (line ∷ []) c.send.new.self) c.line.ensures
    (puts_sent c.args.output.now c.push.new.self c.send.new.self (c.line.result ∷ []) c.push.ensures c.send.ensures.puts)

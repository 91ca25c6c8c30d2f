use Rattle.std.proofs.Common.{[], ◌∷◌, ◌++◌}
use Rattle.jup_session.specs.Prelude.{board_lines, puts_more, puts_sent}
use Rattle.jup_wire.specs.declared.line.Line.TheVariants.{Welcome, Ready}
use Rattle.jup_session.specs.Sessions.{welcome_lines}
use Rattle.jup_session.proofs.sessions.greeting.welcome.Goals as goal

pub returns-clause-lines : goal.returns-clause-lines
returns-clause-lines g c =
    let joined = c.args.joined.now in
    puts_sent c.args.output.now c.push-2.new.self c.send.new.self (welcome_lines joined)
    (puts_more c.args.output.now c.push.new.self c.push-2.new.self (Welcome joined.site joined.limit ∷ []) (board_lines joined.board ++ Ready ∷ []) c.push.ensures
    (puts_more c.push.new.self c.put_board.new.sink c.push-2.new.self (board_lines joined.board) (Ready ∷ []) c.in-Ok.ensures.lines c.push-2.ensures))
    c.send.ensures.puts

use Rattle.jup_text.proofs.CommandWords.{read_again}
use Rattle.jup_text.proofs.commands.read_command.Goals as goal

pub returns-clause-every : goal.returns-clause-every
returns-clause-every c = read_again c.args.line.now c.command_of.result c.command_of.ensures

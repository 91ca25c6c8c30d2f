use Rattle.jup_wire.proofs.Spellings.{found_place}
use Rattle.jup_board.proofs.cut.place_of.Goals as goal

pub returns-clause-place : goal.returns-clause-place
returns-clause-place c = found_place c.args.byte c.args.text.now c.memchr.result c.memchr.ensures

use Rattle.std.proofs.Common.{◌-◌, length}
use Rattle.jup_resume.proofs.PieceLaws.{part_comes, line_comes}
use Rattle.jup_resume.proofs.ways.a_piece_comes_as_its_bytes.Goals as goal

pub returns-clause-part : goal.returns-clause-part
returns-clause-part c note way piece more new rest wire on = (length piece - length rest, part_comes note way piece more new rest wire on)

pub returns-clause-line : goal.returns-clause-line
returns-clause-line c note way piece more new rest text wire ends = (length piece - length rest, line_comes note way piece more new rest text wire ends)

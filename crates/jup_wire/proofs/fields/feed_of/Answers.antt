use Rattle.jup_wire.proofs.Spellings.{found_place}
use Rattle.jup_wire.proofs.fields.feed_of.Goals as goal

pub returns-clause-place : goal.returns-clause-place
returns-clause-place c = found_place 10 c.args.bytes.now c.memchr.result c.memchr.ensures

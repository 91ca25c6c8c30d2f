use Rattle.jup_stream.proofs.Streams.{puts_dropped, puts_behind}
use Rattle.jup_stream.proofs.output.put_out.Goals as goal

pub returns-then-has_failed-clause-puts : goal.returns-then-has_failed-clause-puts
returns-then-has_failed-clause-puts g c = puts_dropped _ _ _ c.make_room.ensures.puts c.if-has_failed.true

pub returns-clause-puts : goal.returns-clause-puts
returns-clause-puts g c = puts_behind _ _ _ _ _ _ _ _ c.make_room.ensures.puts c.if-has_failed.false c.write_reserved.ensures.items

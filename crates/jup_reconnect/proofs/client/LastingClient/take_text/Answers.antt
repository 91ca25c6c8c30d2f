use Rattle.jup_reconnect.proofs.Hearing.{text_ends}
use Rattle.jup_reconnect.proofs.client.LastingClient.take_text.Goals as goal

pub returns-in-Err : goal.returns-in-Err
returns-in-Err c =
    text_ends c.args.text.now c.args.self.now c.note_pong.new.self c.feed_line.new.self c.leave_carrier.new.self c.in-Err.end c.into.result c.into.ensures c.note_pong.ensures c.in-Err.ensures.ends
    c.in-Err.ensures.rest c.leave_carrier.ensures

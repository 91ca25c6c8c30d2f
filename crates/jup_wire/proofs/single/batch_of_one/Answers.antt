use Rattle.jup_wire.proofs.Readings.{number_there, batch_there}
use Rattle.jup_wire.proofs.single.batch_of_one.Goals as goal

pub returns : goal.returns
returns c =
    let mine = number_there 32 c.in_ok-rest.rest.now c.in_ok-mine.rest.now c.in_ok-mine.mine c.in_ok-mine.ensures in
    let heard = number_there 32 c.in_ok-mine.rest.now c.in_ok-heard.rest.now c.in_ok-heard.heard c.in_ok-heard.ensures in
    batch_there c.args.bytes.now c.as_slice.result.now c.in_ok-rest.rest.now c.in_ok-mine.rest.now c.in_ok-heard.rest.now c.as_slice-2.result.now c.in_ok-rest-2.rest.now c.in_ok-mine.mine c.in_ok-heard.heard
    c.as_slice.ensures c.as_slice-2.ensures c.in_ok-rest.ensures mine heard c.in_ok-rest-2.ensures

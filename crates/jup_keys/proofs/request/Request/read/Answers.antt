use Rattle.jup_keys.proofs.Readings.{request_cut, request_uncut}
use Rattle.jup_keys.proofs.request.Request.read.Goals as goal

pub returns-in_default : goal.returns-in_default
returns-in_default c = request_uncut c.args.text.now _ c.in_default.ensures c.read_alone.ensures

pub returns : goal.returns
returns c = request_cut c.args.text.now c.in-Some.word.now c.in-Some.fields.now _ c.in-Some.ensures c.read_behind.ensures

use Rattle.std.proofs.Common.{sym}
use Rattle.websocket.proofs.TextLemmas.{is_utf8-true, is_utf8-false}
use Rattle.jup_http.proofs.frame.is_utf8.Goals as goal

pub returns-in-Ok : goal.returns-in-Ok
returns-in-Ok c = sym (is_utf8-true _ c.in-Ok.ensures.cases.1)

pub returns-in-Err : goal.returns-in-Err
returns-in-Err c = sym (is_utf8-false _ c.in-Err.ensures.cases.0)

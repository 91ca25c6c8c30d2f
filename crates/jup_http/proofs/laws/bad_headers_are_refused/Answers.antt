use Rattle.jup_http.proofs.Frames.{bad_header}
use Rattle.jup_http.proofs.laws.bad_headers_are_refused.Goals as goal

pub returns : goal.returns
returns c pending h len breach rest valid small is = bad_header pending h len breach rest valid small is

use Rattle.jup_http.proofs.Frames.{frames_arrive}
use Rattle.jup_http.proofs.laws.frames_arrive.Goals as goal

pub returns : goal.returns
returns c pending next fs told rest taken = frames_arrive pending next fs told rest taken

use Rattle.std.proofs.Common.{refl}
use Rattle.jup_http.proofs.stream.FrameStream.hold.Goals as goal

pub returns : goal.returns
returns c = refl

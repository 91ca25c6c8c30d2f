use Rattle.std.proofs.Common.{refl}
use Rattle.jup_http.specs.Streams.{step}
use Rattle.jup_http.proofs.stream.FrameStream.take.Goals as goal

pub returns-in-Head : goal.returns-in-Head
unfolding step
returns-in-Head c = rw c.in-Head.is c.take_head.ensures

pub returns-in-Within : goal.returns-in-Within
unfolding step
returns-in-Within c = rw c.in-Within.is c.take_within.ensures

pub returns-in-Over : goal.returns-in-Over
unfolding step
returns-in-Over c = rw c.in-Over.is refl

use Rattle.std.proofs.Common.{◌∙◌, refl, take, map}
use Rattle.jup_http.specs.Streams.{brought}
use Rattle.jup_http.specs.Events.{standing, told_by_event}
use Rattle.jup_http.proofs.Frames.{put_more}
use Rattle.jup_http.proofs.stream.FrameStream.unframe.Goals as goal

pub returns-in-Some-clause-told : goal.returns-in-Some-clause-told
returns-in-Some-clause-told c more =
    put_more _ _ (map brought (take c.put.new.given c.put.new.buf)) (told_by_event c.in-Some.event) _ (standing c.put.new.self) c.args.bytes.now more c.loop-taken.taken _
    c.loop-taken-test.true refl (c.loop-taken.invariant.told more) (λ rest. c.put.ensures.told rest ∙ rw c.in-Some.is refl)

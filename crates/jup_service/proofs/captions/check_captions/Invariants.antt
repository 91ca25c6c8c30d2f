use Rattle.std.proofs.Common.{length}
use Rattle.jup_service.specs.Servers.{AreCaptionsTo}
use Rattle.jup_service.proofs.captions.check_captions.Given as goal

-- the lines that were read are captions
abbrev pub invariant-loop-rest : goal.invariant-loop-rest
invariant-loop-rest l = AreCaptionsTo l.text l.rest

-- the bytes of the lines that are left
abbrev pub decreases-loop-rest : goal.decreases-loop-rest
decreases-loop-rest l = length l.rest

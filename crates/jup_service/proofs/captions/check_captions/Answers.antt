use Rattle.std.proofs.Common.{rules}
use Rattle.jup_service.proofs.CaptionLemmas.{read_more}
use Rattle.jup_service.proofs.captions.check_captions.Goals as goal

pub loop-rest-preserved : goal.loop-rest-preserved
loop-rest-preserved c = search (rules, read_more)

use Rattle.std.proofs.Common.{Ok, ap, ◌∙◌}
use Rattle.jup_http.proofs.Frames.{fits_head, cut_short}
use Rattle.jup_http.proofs.stream.FrameStream.take_head.Goals as goal

pub hold-requires : goal.hold-requires
hold-requires c = fits_head _ _ c.requires (rw c.bytes.ensures at (cut_short _ (c.parse.ensures.short.0 (c.in-Ok-None.is ∙ ap Ok c.in-Ok-None.field-0-is))))

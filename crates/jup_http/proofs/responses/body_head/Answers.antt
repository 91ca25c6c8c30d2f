use Rattle.std.specs.Prelude.{decimal}
use Rattle.jup_http.specs.Heads.{media_type, guard_lines}
use Rattle.jup_http.proofs.Heads.{same_text, lines_in_order}
use Rattle.jup_http.proofs.responses.body_head.Goals as goal

pub returns : goal.returns
returns c =
    same_text _ _ _ c.format.ensures.ok
    (rw (c.name-name.ensures, c.guard_lines-guard.ensures) (lines_in_order (media_type c.args.media) (decimal c.args.len) guard_lines))

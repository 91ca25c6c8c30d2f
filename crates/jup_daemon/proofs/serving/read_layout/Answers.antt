use Rattle.std.proofs.Common.{◌≡◌, IfSome, arith, subst}
use Rattle.jup_limits.specs.Limits.{longest_input}
use Rattle.jup_daemon.proofs.Layouts.{read_whole}
use Rattle.jup_daemon.proofs.serving.read_layout.Goals as goal

pub returns-clause-whole : goal.returns-clause-whole
returns-clause-whole g c =
    let text = c.read_to_end.new.buf.items in
    subst (λ (from : g.row.I.Denot). IfSome (g.I.Read.remaining from) (λ bytes. text ≡ bytes)) c.take.ensures.inner
    (read_whole longest_input c.take.result.limit (g.I.Read.remaining c.take.result.inner) c.new-text.result.items text c.take.ensures.limit c.new-text.ensures.items c.in_default.ensures.bytes
    (omega (arith, c.if-len-gt-LONGEST_INPUT.false, c.len.ensures)))

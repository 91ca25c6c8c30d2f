use Rattle.std.proofs.Common.{◌≡◌, take}
use Rattle.jup_embed.specs.Sessions.{HearsLines}
use Rattle.jup_embed.proofs.client.Client.hear_all.Given as goal

-- the lines so far were heard, and nothing was read
abbrev pub invariant-loop-line : goal.invariant-loop-line
invariant-loop-line l = HearsLines (take l.line-index l.lines) l.fn.self l.self × (l.self.progress ≡ l.fn.self.progress)

use Rattle.std.proofs.Common.{take}
use Rattle.jup_layout.specs.Drafts.{HasTaken}
use Rattle.jup_layout.proofs.layouts.build.Given as goal

-- it holds what the lines so far describe
abbrev pub invariant-loop-line : goal.invariant-loop-line
invariant-loop-line l = HasTaken l.fn.naming (take l.line-index l.lines) l.builder

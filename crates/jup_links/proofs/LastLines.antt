-- Last lines as bytes.
use Rattle.std.proofs.Common.{arith}
use Rattle.jup_resume.specs.Texts.{HasNoFeed}
use Rattle.jup_resume.proofs.Readings.{decimal_lacks}
use Rattle.jup_links.specs.LastLines.{last_text, IsLast}
use Rattle.jup_links.specs.declared.last_line.LastLine.{LastLine}
use Rattle.jup_links.specs.declared.last_line.LastLine.TheVariants.{Bye, Error}

pub last_feedless : (last : LastLine) → IsLast last → HasNoFeed (last_text last)
last_feedless Bye is = (λ e. omega (arith, e), (λ e. omega (arith, e), (λ e. omega (arith, e), tt)))
last_feedless (Error number) is =
    (λ e. omega (arith, e), (λ e. omega (arith, e), (λ e. omega (arith, e), (λ e. omega (arith, e), (λ e. omega (arith, e), (λ e. omega (arith, e), decimal_lacks 10 (omega arith) number is))))))

use Rattle.std.proofs.Common.{◌≢◌, rules, codes}
use Rattle.jup_text.proofs.CommandWords.{no_value, other_value}
use Rattle.jup_text.proofs.commands.read_value.Goals as goal

pub returns-in_err-kind : goal.returns-in_err-kind
returns-in_err-kind c = rw c.from_residual.ensures (no_value c.args.text.now c.in_err-kind.ensures.none)

pub returns : goal.returns
returns c =
    let char : c.in_ok-kind.kind.now ≢ codes "char" = search rules in
    let item : c.in_ok-kind.kind.now ≢ codes "item" = search rules in
    other_value c.args.text.now c.in_ok-kind.kind.now c.in_ok-kind.rest.now c.in_ok-kind.ensures.read.0 c.in_ok-kind.ensures.read.1 char item

use Rattle.std.proofs.Common.{refl, ap, sym, subst, ◌∙◌, ◌++◌, ◌∷◌, [], None, Some, if◌then◌else◌}
use Rattle.jup_client.specs.Prelude.{Request}
use Rattle.jup_client.specs.Clients.{IsRequestOf, begun}
use Rattle.jup_client.proofs.Clients.{IsNext, some_next, none_next, goes_on, ends_whole, ends_bad}
use Rattle.jup_client.proofs.asking.go_on.Goals.{in-Some, in-None, then-is_bad, else-is_bad}
use Rattle.jup_client.proofs.asking.go_on.Goals as goal

pub returns-then-missing-gt1 : goal.returns-then-missing-gt1
returns-then-missing-gt1 c = λ lines held.
    let part = c.args.part in
    let now = c.match-read_command in
    let next : IsNext c.args.line.now (begun part).1 (if now.is_bad then None else Some now.commands.items) = elim now.branch [
      | in-Some w ↦ some_next c.args.line.now w.in-Some.command part.commands.items now.commands.items part.is_bad now.is_bad w.in-Some.ensures.spelling.0 w.in-Some.ensures.spelling.1
          (ap (λ v. v.items) w.commands-is ∙ w.push_reserved.ensures.items) w.is_bad-is
      | in-None w ↦ none_next c.args.line.now (begun part).1 now.commands.items now.is_bad w.in-None.ensures.spelling w.is_bad-is
    ] in
    goes_on lines c.args.line.now part.missing (begun part).1 (if now.is_bad then None else Some now.commands.items) next c.if-missing-gt1.true held

pub returns : goal.returns
returns c = λ lines held.
    let part = c.args.part in
    let now = c.match-read_command in
    let next : IsNext c.args.line.now (begun part).1 (if now.is_bad then None else Some now.commands.items) = elim now.branch [
      | in-Some w ↦ some_next c.args.line.now w.in-Some.command part.commands.items now.commands.items part.is_bad now.is_bad w.in-Some.ensures.spelling.0 w.in-Some.ensures.spelling.1
          (ap (λ v. v.items) w.commands-is ∙ w.push_reserved.ensures.items) w.is_bad-is
      | in-None w ↦ none_next c.args.line.now (begun part).1 now.commands.items now.is_bad w.in-None.ensures.spelling w.is_bad-is
    ] in (
      elim c.if-is_bad.branch [
        | then-is_bad w ↦ subst (λ (r : Request). IsRequestOf (lines ++ c.args.line.now ∷ []) r) (sym w.request-is)
            (ends_bad lines c.args.line.now part.missing (begun part).1 now.commands.items now.is_bad next w.if-is_bad.true held)
        | else-is_bad w ↦ subst (λ (r : Request). IsRequestOf (lines ++ c.args.line.now ∷ []) r) (sym w.request-is)
            (ends_whole lines c.args.line.now part.missing (begun part).1 now.commands now.is_bad next w.if-is_bad.false c.if-missing-gt1.false held)
      ],
      refl,
    )

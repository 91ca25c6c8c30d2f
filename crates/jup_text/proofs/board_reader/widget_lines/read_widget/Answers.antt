use Rattle.std.proofs.Common.{◌≡◌, ◌≢◌, ℕ, List, get_or, sym, ap, ◌∙◌, arith, rules, codes}
use Rattle.jup_wire.proofs.ByKind.{other_word}
use Rattle.jup_text.proofs.BoardLines.{by_kind}
use Rattle.jup_text.proofs.board_reader.widget_lines.read_widget.Goals as goal

pub returns-then-eq-clause-every : goal.returns-then-eq-clause-every
returns-then-eq-clause-every c = λ word wid widget id held line.
    let is : c.args.kind.now ≡ codes "text" = search rules in
    by_kind c.args.last c.args.kind.now c.args.rest.now wid widget word id held line
    (λ chars kind are rest. c.read_text.ensures.every wid chars id are rest)
    (λ labels kind are rest. absurd (omega (arith, ap (λ (bs : List ℕ). get_or bs 1 0) (sym is ∙ kind))))
    (λ value kind rest. absurd ((other_word value).1 (sym kind ∙ is)))

pub returns-then-eq-2-clause-every : goal.returns-then-eq-2-clause-every
returns-then-eq-2-clause-every c = λ word wid widget id held line.
    let is : c.args.kind.now ≡ codes "list" = search rules in
    by_kind c.args.last c.args.kind.now c.args.rest.now wid widget word id held line
    (λ chars kind are rest. absurd (omega (arith, ap (λ (bs : List ℕ). get_or bs 1 0) (sym is ∙ kind))))
    (λ labels kind are rest. c.read_list.ensures.every wid labels id are rest)
    (λ value kind rest. absurd ((other_word value).2 (sym kind ∙ is)))

pub returns-in_default-clause-every : goal.returns-in_default-clause-every
returns-in_default-clause-every c = λ word wid widget id held line.
    let no_text : c.args.kind.now ≢ codes "text" = search rules in
    let no_list : c.args.kind.now ≢ codes "list" = search rules in
    by_kind c.args.last c.args.kind.now c.args.rest.now wid widget word id held line
    (λ chars kind are rest. absurd (no_text kind))
    (λ labels kind are rest. absurd (no_list kind))
    (λ value kind rest. let wrong = c.in_default.ensures.every wid value widget kind rest in absurd (search rules))

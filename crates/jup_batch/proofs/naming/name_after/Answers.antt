use Rattle.std.proofs.Common.{rules, ◌≡◌, Ok, Err, ap, sym, ◌∙◌}
use Rattle.jup_batch.specs.Prelude.{map_ok, named_widget, command_place}
use Rattle.jup_batch.proofs.LaterCommands.{named_after, unnamed_after}
use Rattle.jup_batch.proofs.naming.name_after.Goals as goal

pub returns-in_err-widget-clause-named : goal.returns-in_err-widget-clause-named
returns-in_err-widget-clause-named c =
    let found : named_widget (command_place c.args.command.now) c.args.board.now ≡ Err c.in_err-widget.field-0.0 =
    ap (λ p. named_widget p c.args.board.now) (sym c.ids-win.ensures) ∙ sym c.named_widget.ensures ∙ ap (λ r. map_ok (λ w. w.now) r) c.in_err-widget.was in
    let is : c.from_residual.result ≡ Err c.in_err-widget.field-0.0 = search rules in
    is ∙ sym (unnamed_after c.args.command.now c.args.name c.args.board.now c.args.earlier.now c.in_err-widget.field-0.0 found)

pub returns-clause-named : goal.returns-clause-named
returns-clause-named c =
    let found : named_widget (command_place c.args.command.now) c.args.board.now ≡ Ok c.in_ok-widget.widget.now =
    ap (λ p. named_widget p c.args.board.now) (sym c.ids-win.ensures) ∙ sym c.named_widget.ensures ∙ ap (λ r. map_ok (λ w. w.now) r) c.in_ok-widget.was in
    c.told_after.ensures.told ∙ sym (named_after c.args.command.now c.args.name c.args.board.now c.in_ok-widget.widget.now c.args.earlier.now c.requires found c.told_after.ensures.few)

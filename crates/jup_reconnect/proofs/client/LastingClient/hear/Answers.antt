use Rattle.std.proofs.Common.{ℕ, List, Err}
use Rattle.jup_embed.proofs.Sessions.{handed_on}
use Rattle.jup_reconnect.specs.contracts.client.LastingClient.{the_view}
use Rattle.jup_reconnect.specs.Lasting.{HearsOne}
use Rattle.jup_reconnect.proofs.Hearing.{hears_one}
use Rattle.jup_reconnect.proofs.client.LastingClient.hear.Goals as goal

pub returns-in_err-handle-clause-refused : goal.returns-in_err-handle-clause-refused
returns-in_err-handle-clause-refused c =
    let fault = c.in_err-handle.field-0.0 in
    handed_on c.from_residual.result fault (λ e. (rest : List ℕ) × HearsOne c.args.piece.now c.args.self.now (Err e) rest c.handle.new.self) c.from_residual.ensures.1 (
      c.hear-heard.result.rest.now,
      hears_one c.args.piece.now c.hear-heard.result.rest.now c.args.self.now (the_view c.self.inside) c.handle.new.self c.hear-heard.result.heard c.hear-heard.new.self
          (Err fault) c.self.view_is c.hear-heard.ensures.heard c.in_err-handle.ensures,
    )

use Rattle.std.proofs.Common.{◌∙◌, ap, sym, Option, is_some}
use Rattle.jup_mixed.specs.Prelude.{board_batches, batch_laws, most_batches, Attached, bare_attached, option_map}
use Rattle.jup_mixed.specs.contracts.mixed.Mixed.{the_view}
use Rattle.jup_mixed.proofs.Worlds.{home-promises, home-made, home-backlog}
use Rattle.jup_mixed.proofs.mixed.Mixed.site.Goals as goal

pub returns-in-Some-clause-content : goal.returns-in-Some-clause-content
returns-in-Some-clause-content c =
    rw (← c.self.view_is) ((home-promises board_batches batch_laws most_batches (the_view c.self.inside) c.self.invariant).site_content (bare_attached c.in-Some.home) (ap (λ (o : Option Attached). option_map bare_attached o) c.in-Some.is))

pub returns-in-Some-clause-attached : goal.returns-in-Some-clause-attached
returns-in-Some-clause-attached c =
    rw (← c.self.view_is) (sym (ap (λ (o : Option Attached). is_some (option_map bare_attached o)) c.in-Some.is) ∙ (home-promises board_batches batch_laws most_batches (the_view c.self.inside) c.self.invariant).linked)

pub returns-in-None-clause-attached : goal.returns-in-None-clause-attached
returns-in-None-clause-attached c =
    rw (← c.self.view_is) (sym (ap (λ (o : Option Attached). is_some (option_map bare_attached o)) c.in-None.is) ∙ (home-promises board_batches batch_laws most_batches (the_view c.self.inside) c.self.invariant).linked)

pub returns-in-Some-clause-number : goal.returns-in-Some-clause-number
returns-in-Some-clause-number c = c.self.invariant.number (bare_attached c.in-Some.home) (ap (λ (o : Option Attached). option_map bare_attached o) c.in-Some.is)

pub returns-in-Some-clause-running : goal.returns-in-Some-clause-running
returns-in-Some-clause-running c =
    (home-promises board_batches batch_laws most_batches (the_view c.self.inside) c.self.invariant).running (bare_attached c.in-Some.home) (ap (λ (o : Option Attached). option_map bare_attached o) c.in-Some.is)

pub returns-in-Some-clause-made : goal.returns-in-Some-clause-made
returns-in-Some-clause-made c =
    rw (← c.self.view_is) (home-made board_batches batch_laws most_batches (the_view c.self.inside) c.self.invariant (bare_attached c.in-Some.home) (ap (λ (o : Option Attached). option_map bare_attached o) c.in-Some.is))

pub returns-in-Some-clause-backlog : goal.returns-in-Some-clause-backlog
returns-in-Some-clause-backlog c =
    home-backlog board_batches batch_laws most_batches (the_view c.self.inside) c.self.invariant (bare_attached c.in-Some.home) (ap (λ (o : Option Attached). option_map bare_attached o) c.in-Some.is)

use Rattle.std.proofs.Common.{◌≡◌, take}
use Rattle.jup_app.specs.Prelude.{view_of, IsPassOf}
use Rattle.jup_app.specs.Runs.{Played}
use Rattle.jup_app.proofs.runs.player.Player.play.Given as goal

abbrev pub invariant-loop-command : goal.invariant-loop-command
invariant-loop-command g l = record {
  fits : IsPassOf l.hub l.self.caller.pass;
  number : l.self.number ≡ l.fn.self.number;
  played : Played l.fn.self.number (view_of l.fn.self.caller.pass) (view_of l.self.caller.pass) l.fn.self.caller.calls l.self.caller.calls l.fn.self.site l.self.site (take l.command-index l.script) l.self.replies.items;
}

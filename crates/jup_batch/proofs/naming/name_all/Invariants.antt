use Rattle.std.proofs.Common.{◌≡◌, ◌+◌, ◌≤◌, take, drop, length}
use Rattle.jup_window.specs.Boards.{bare}
use Rattle.jup_batch.proofs.LaterCommands.{AreNamed}
use Rattle.jup_batch.proofs.naming.name_all.Given as goal

-- the commands so far became the operations so far
abbrev pub invariant-loop-at : goal.invariant-loop-at
invariant-loop-at l = record {
  long : length l.ops ≡ length l.commands;
  few : l.next ≤ l.count + l.at;
  named : AreNamed l.commands l.site l.count (bare l.board) (take l.at l.ops) (drop l.at l.commands) l.next;
}

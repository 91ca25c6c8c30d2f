use Rattle.std.proofs.Common.{rules, arith, suc, ◌≡◌, ◌<◌, ◌≤◌, ◌+◌, ◌∷◌, Ok, length, take, drop, sym, ap, ◌∙◌}
use Rattle.std.proofs.lemmas.List.{drop_more, take_more_set}
use Rattle.jup_batch.specs.Prelude.{after_all, insertions, named, boards, next_name}
use Rattle.jup_window.specs.Boards.{bare, edit_of}
use Rattle.jup_batch.proofs.LaterCommands.{AreNamed, one_named}
use Rattle.jup_batch.proofs.naming.name_all.Goals as goal

pub loop-at-preserved : goal.loop-at-preserved
loop-at-preserved c =
    let before = c.loop-at.invariant in
    let within : c.loop-at.at < length c.args.commands.now = search rules in
    let room : c.loop-at.at < length c.loop-at.ops = search rules in
    let left : drop c.loop-at.at c.args.commands.now ≡ c.index-commands-at.result ∷ drop (c.loop-at.at + 1) c.args.commands.now = search (rules, drop_more) in
    let so_far : AreNamed c.args.commands.now c.args.site c.args.count (bare c.args.board.now) (take c.loop-at.at c.loop-at.ops) (c.index-commands-at.result ∷ drop (c.loop-at.at + 1) c.args.commands.now) c.loop-at.next =
    rw left at before.named in
    let one : suc c.loop-at.next ≡ c.loop-at.next + 1 = omega arith in
    let is : named c.index-commands-at.result (next_name c.args.site c.loop-at.next) (after_all boards (take c.loop-at.at c.loop-at.ops) (bare c.args.board.now)) ≡ Ok c.in_ok-op.op =
    ap (λ k. named c.index-commands-at.result (record { site = c.args.site; number = k }) (after_all boards (take c.loop-at.at c.loop-at.ops) (bare c.args.board.now))) one ∙ sym c.name_after.ensures.named ∙ c.in_ok-op.was in
    let more = one_named c.args.commands.now c.args.site c.args.count (bare c.args.board.now) (take c.loop-at.at c.loop-at.ops) c.index-commands-at.result (drop (c.loop-at.at + 1) c.args.commands.now) c.loop-at.next c.in_ok-op.op so_far is in
    let counted : c.insertions-next.result ≡ insertions (edit_of c.in_ok-op.op) = c.insertions-next.ensures ∙ ap insertions c.meaning.ensures in
    let few : c.insertions-next.result ≤ 1 = search rules in
    let low = before.few in
    record {
      long = search rules;
      few = omega (arith, few, low);
      named = rw (take_more_set c.loop-at.ops c.loop-at.at c.in_ok-op.op room, counted) more;
    }

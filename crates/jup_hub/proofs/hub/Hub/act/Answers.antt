use Rattle.std.proofs.Common.{◌≡◌, true, false, Result, sym, ap, ◌∙◌, subst}
use Rattle.jup_hub.specs.Prelude.{lacks_memory, Desk, HubFault, View}
use Rattle.jup_star.specs.Stars.{reply_of, asks_memory}
use Rattle.jup_hub.specs.Histories.{star_through, Called}
use Rattle.jup_hub.specs.Passes.{view_of, Made}
use Rattle.jup_hub.proofs.Histories.{calls, idle_again, called_again, makes, makes_none, answered, refused}
use Rattle.jup_hub.proofs.hub.Hub.act.Goals as goal
use Rattle.jup_hub.proofs.hub.Hub.act.Goals.{then-lacks_memory, else-lacks_memory}

pub returns-clause-made : goal.returns-clause-made
returns-clause-made g c =
    let v = c.args.pass.now.seat.me.0 in
    let after = view_of c.if-lacks_memory.pass in
    let call = g.A.Ask.call c.args.ask.now in
    let answer = c.ask-answer.result in
    let reply = g.A.Ask.reply answer in
    let turn = c.win_turn-door.ensures.turn in
    let none_is = c.args.pass.now.is_idle.1 in
    subst (λ (x : Result g.row.A-Answer.Denot HubFault). Made g.A.Ask.reply call v after x) (sym c.hub_answer.ensures) (elim c.if-lacks_memory.branch [
      | then-lacks_memory w ↦
          let lacks : lacks_memory answer ≡ true = sym c.lacks_memory.ensures ∙ w.if-lacks_memory.true in
          let asked = (refused call _ _ reply (g.met.A.Ask.tells_memory answer ∙ lacks) c.ask-answer.ensures).1 in
          let same = ap view_of w.pass-is ∙ idle_again v turn.0 c.win_turn-door.new.seat.me w.give_turn-then-lacks_memory.new.seat.me none_is turn.3 w.give_turn-then-lacks_memory.ensures.idle in
          makes_none g.A.Ask.reply call v after answer lacks (same, (turn.0, turn.1, sym (ap (λ (d : Desk). asks_memory call d.star) turn.2) ∙ asked))
      | else-lacks_memory w ↦
          let fine : lacks_memory answer ≡ false = sym c.lacks_memory.ensures ∙ w.if-lacks_memory.false in
          let right : reply ≡ reply_of call (star_through v.opening turn.0) = (answered call _ _ reply (g.met.A.Ask.tells_memory answer ∙ fine) c.ask-answer.ensures).0 ∙ ap (λ (d : Desk). reply_of call d.star) turn.2 in
          let seen = ap view_of w.pass-is ∙ called_again v turn.0 call reply c.win_turn-door.new.seat.me w.settle.new.seat.me none_is turn.3 w.settle.ensures.called in
          makes g.A.Ask.reply call v after answer fine (subst (λ (w : View). Called call reply v w) (sym seen) (calls v turn.0 call reply turn.1 right))
    ])

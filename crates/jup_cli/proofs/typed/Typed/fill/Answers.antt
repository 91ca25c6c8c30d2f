use Rattle.std.proofs.Common.{◌≡◌, ◌∷◌, sym, ap, subst, arith, length, drop}
use Rattle.jup_cli.specs.Typing.{Typing, typing, UsesUp}
use Rattle.jup_cli.proofs.Typing.{fills_none, fills_byte, fills_line, fills_all}
use Rattle.jup_cli.proofs.typed.Typed.fill.Goals as goal

pub loop-byte-init : goal.loop-byte-init
loop-byte-init c = fills_none _

pub returns-then-byte-eq10-clause-whole : goal.returns-then-byte-eq10-clause-whole
returns-then-byte-eq10-clause-whole c = λ _. fills_line _ _ _ _ c.loop-byte.invariant c.in-Some.ensures.some c.if-byte-eq10.true

pub loop-byte-smaller : goal.loop-byte-smaller
loop-byte-smaller c =
    let is = subst (λ (t : Typing). c.loop-byte.self ≡ typing t.line (c.in-Some.byte ∷ t.rest) t.over) (sym c.self.view_is) c.in-Some.ensures.some in
    omega (arith, ap (λ (t : Typing). length t.rest) is)

pub loop-byte-preserved : goal.loop-byte-preserved
loop-byte-preserved c =
    let next = typing c.self.inside.line (drop c.self.inside.given c.self.inside.piece.items) c.self.inside.is_over in
    let is = subst (λ (t : Typing). c.loop-byte.self ≡ typing t.line (c.in-Some.byte ∷ t.rest) t.over) (sym c.self.view_is) c.in-Some.ensures.some in
    fills_byte _ _ next _ _ c.loop-byte.invariant is c.if-byte-eq10.false c.in_ok-push.ensures.ok

pub returns-clause-part : goal.returns-clause-part
returns-clause-part c = λ _. let none = c.in_default.ensures.none in subst (λ (t : Typing). UsesUp c.args.self.now t) (sym none.1) (fills_all _ _ c.loop-byte.invariant none.0)

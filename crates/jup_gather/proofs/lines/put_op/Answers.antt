use Rattle.std.proofs.Common.{◌∷◌, [], length, take, ap, arith, subst, sym, ◌∙◌, map}
use Rattle.std.proofs.lemmas.List.{map-append, take_all}
use Rattle.jup_gather.specs.Prelude.{Batch, Do, take_one_more}
use Rattle.jup_gather.proofs.lines.put_op.Goals as goal

pub loop-op-preserved : goal.loop-op-preserved
loop-op-preserved g c =
    let ops = c.as_slice-ops.result.now in
    let more = ap (map (λ op. Do op)) (take_one_more ops c.loop-op.op-index c.op-item.result (omega arith) c.op-item.is) ∙ map-append (λ op. Do op) (take c.loop-op.op-index ops) (c.op-item.result ∷ []) in
    subst (λ lines. g.S.LineSink.takes c.args.sink.now (Batch c.args.msg.now.mine c.args.msg.now.heard (length ops) ∷ lines) c.put-in-loop-op.new.self) (sym more)
    (g.S.LineSink.takes_more _ _ _ _ _ c.loop-op.invariant c.in_ok-put-2.ensures.taken)

pub returns : goal.returns
returns g c =
    let ops = c.as_slice-ops.result.now in
    subst (λ os. g.S.LineSink.takes c.args.sink.now (Batch c.args.msg.now.mine c.args.msg.now.heard (length os) ∷ map (λ op. Do op) os) c.loop-op.sink) c.as_slice-ops.ensures.ops
    (subst (λ os. g.S.LineSink.takes c.args.sink.now (Batch c.args.msg.now.mine c.args.msg.now.heard (length ops) ∷ map (λ op. Do op) os) c.loop-op.sink) (take_all c.loop-op.op-index ops (omega arith)) c.loop-op.invariant)

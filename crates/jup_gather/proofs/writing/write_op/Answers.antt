use Rattle.std.proofs.Common.{◌≡◌, ◌+◌, ◌*◌, ◌-◌, ◌∷◌, [], ◌++◌, length, take, sym, ap, subst, ◌∙◌, append-nil, arith, le_refl}
use Rattle.std.proofs.lemmas.Bool.{cond-true}
use Rattle.std.proofs.lemmas.List.{map-append, take_all}
use Rattle.jup_gather.specs.Prelude.{Batch, Do, take_one_more}
use Rattle.jup_wire.specs.Lines.{is_spelled, spelling, line_bytes}
use Rattle.jup_wire.proofs.Readings.{batch_short}
use Rattle.jup_gather.specs.Gathering.{Message}
use Rattle.jup_gather.proofs.Gathering.{dos, HasWritten, written, IsPieceWritten, batch_fits, edit_written}
use Rattle.jup_gather.proofs.writing.write_op.Goals as goal

pub loop-op-init : goal.loop-op-init
loop-op-init c =
    let ops = c.as_slice-ops.result.now in
    let batch = Batch c.args.msg.now.mine c.args.msg.now.heard (length ops) in
    let fits = batch_fits c.args.msg.now.mine c.args.msg.now.heard (length ops) c.as_slice-ops.ensures.some c.as_slice-ops.ensures.few in
    let out = c.write_reserved.ensures in
    let none : HasWritten c.args.out.now c.args.out.now [] 3423 = record { items = sym (append-nil c.args.out.now.items); each = tt; capacity = le_refl _; room = c.requires } in
    let long : length (line_bytes batch) ≡ length (spelling batch) = ap length (cond-true (is_spelled batch) (spelling batch) [] fits) in
    let short = batch_short c.args.msg.now.mine c.args.msg.now.heard (length ops) (out.line.0 fits) in
    written c.args.out.now c.args.out.now c.write_reserved.new.out [] batch 3423 31 (106 * (length ops - 0)) none (omega arith) out.line out.items (omega (arith, long, short)) out.capacity

pub write_reserved-requires-in-loop-op : goal.write_reserved-requires-in-loop-op
write_reserved-requires-in-loop-op c = let room = c.loop-op.invariant.room in omega (arith, room)

pub loop-op-preserved : goal.loop-op-preserved
loop-op-preserved c =
    let ops = c.as_slice-ops.result.now in
    let at = c.loop-op.op-index in
    let op = c.op-item.result in
    let batch = Batch c.args.msg.now.mine c.args.msg.now.heard (length ops) in
    let out = c.write_reserved-in-loop-op in
    let grown : dos (take (at + 1) ops) ≡ dos (take at ops) ++ Do op ∷ [] = ap dos (take_one_more ops at op c.loop-op-test.true c.op-item.is) ∙ map-append (λ o. Do o) (take at ops) (op ∷ []) in
    subst (λ lines. HasWritten c.args.out.now out.new.out (batch ∷ lines) (106 * (length ops - (at + 1)))) (sym grown)
    (written c.args.out.now c.loop-op.out out.new.out (batch ∷ dos (take at ops)) (Do op) (106 * (length ops - at)) 106 (106 * (length ops - (at + 1)))
    c.loop-op.invariant (omega arith) out.ensures.line out.ensures.items out.ensures.short out.ensures.capacity)

pub returns : goal.returns
returns c =
    let msg = c.args.msg.now in
    let slice = c.as_slice-ops in
    let ops = slice.result.now in
    let at = c.loop-op.op-index in
    let all = subst (λ os. HasWritten c.args.out.now c.loop-op.out (Batch msg.mine msg.heard (length ops) ∷ dos os) (106 * (length ops - at))) (take_all at ops c.loop-op-test.false) c.loop-op.invariant in
    let is = subst (λ os. IsPieceWritten c.args.out.now.items c.loop-op.out.items (Message (record { mine = msg.mine; heard = msg.heard; op = os }))) slice.ensures.ops
    (edit_written c.args.out.now c.loop-op.out msg.mine msg.heard (106 * (length ops - at)) ops slice.ensures.some slice.ensures.few all) in
    record { items = is.0; spelled = is.1; capacity = all.capacity }

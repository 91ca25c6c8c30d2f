use Rattle.std.proofs.Common.{sym, ap, ◌∙◌, take_all}
use Rattle.jup_number.proofs.Numbers.{value_more}
use Rattle.jup_wire.proofs.Spellings.{lacks}
use Rattle.jup_wire.proofs.Streams.{field_at, field_none, field_ends, lacks_more}
use Rattle.jup_wire.proofs.fields.number_before.Goals as goal

pub returns-in_err-value : goal.returns-in_err-value
returns-in_err-value c = rw c.from_residual.ensures
    (field_ends c.args.separator c.args.bytes.now c.loop-at.at c.loop-at.value c.loop-at-test.true c.if-byte-separator.false c.loop-at.invariant.open_ended c.loop-at.invariant.value c.in_err-value.ensures)

pub loop-at-preserved : goal.loop-at-preserved
loop-at-preserved c = record {
  open_ended = lacks_more c.args.separator c.args.bytes.now c.loop-at.at c.loop-at-test.true c.loop-at.invariant.open_ended c.if-byte-separator.false;
  value = value_more c.args.bytes.now c.loop-at.at c.loop-at.value _ c.loop-at-test.true c.loop-at.invariant.value c.in_ok-value.ensures;
}

pub returns-then-byte-separator : goal.returns-then-byte-separator
returns-then-byte-separator c = rw (field_at c.args.separator c.args.bytes.now c.loop-at.at c.loop-at-test.true c.if-byte-separator.true c.loop-at.invariant.open_ended) c.numeral_before.ensures

pub returns : goal.returns
returns c =
    field_none c.args.separator c.args.bytes.now
    (ap (lacks c.args.separator) (sym (take_all c.loop-at.at c.args.bytes.now c.loop-at-test.false)) ∙ c.loop-at.invariant.open_ended)

use Rattle.std.proofs.Common.{inl, refl}
use Rattle.jup_links.proofs.Messages.{announces, one_field, two_fields, no_count}
use Rattle.jup_links.proofs.framing.announced_by.Goals as goal

pub returns-in_default : goal.returns-in_default
returns-in_default c = inl (refl, one_field c.args._text.now c.args.fields.now (rw (← c.requires.word) c.requires.cut) c.in_default.ensures)

pub returns-in_default-split : goal.returns-in_default-split
returns-in_default-split c =
    let fields = c.in-Some in
    inl (
      refl,
      two_fields c.args._text.now c.args.fields.now fields.field-0-0.now fields.others.now (rw (← c.requires.word) c.requires.cut) fields.ensures c.in_default-split.ensures,
    )

pub returns-in-None : goal.returns-in-None
returns-in-None c =
    let fields = c.in-Some in
    let others = c.in-Some-split in
    inl (
      refl,
      no_count c.args._text.now c.args.fields.now fields.field-0-0.now fields.others.now others.field-0-0.now others.digits.now (rw (← c.requires.word) c.requires.cut) fields.ensures others.ensures c.in-None.ensures,
    )

pub returns-in-Some-read_number : goal.returns-in-Some-read_number
returns-in-Some-read_number c =
    let fields = c.in-Some in
    let others = c.in-Some-split in
    let count = c.in-Some-read_number in
    announces c.args._text.now c.args._word.now c.args.fields.now fields.field-0-0.now fields.others.now others.field-0-0.now others.digits.now count.count c.requires.cut c.requires.word fields.ensures others.ensures count.ensures.0 count.ensures.1

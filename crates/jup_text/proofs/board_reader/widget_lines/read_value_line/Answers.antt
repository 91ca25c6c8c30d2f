use Rattle.std.proofs.Common.{◌≡◌, ℕ, ◌∙◌, Some, None, sym, ap, rules}
use Rattle.std.proofs.lemmas.Option.{same_Some}
use Rattle.jup_text.specs.Prelude.{WidgetValue}
use Rattle.jup_wire.specs.Fields.{dispatch}
use Rattle.jup_wire.specs.Kinds.{said_widget, value_table}
use Rattle.jup_text.proofs.BoardLines.{value_was_read, value_is_read}
use Rattle.jup_text.proofs.board_reader.widget_lines.read_value_line.Goals as goal

pub returns-in-Some-clause-line : goal.returns-in-Some-clause-line
returns-in-Some-clause-line c = (value_was_read _ _ c.in_ok-wid.wid c.in_ok-wid.value c.in-Some.widget (search rules) (search rules)).0

pub returns-in_err-wid-clause-every : goal.returns-in_err-wid-clause-every
returns-in_err-wid-clause-every c = λ wid value widget kind is.
    let there = value_is_read c.args.kind.now c.args.rest.now wid value widget kind is in
    let none : dispatch value_table c.args.kind.now c.args.rest.now ≡ None = search rules in
    absurd (let no : None ≡ Some (wid, value) = sym none ∙ there in cc)

pub returns-in-None-clause-every : goal.returns-in-None-clause-every
returns-in-None-clause-every c = λ wid value widget kind is.
    let there = value_is_read c.args.kind.now c.args.rest.now wid value widget kind is in
    let read : dispatch value_table c.args.kind.now c.args.rest.now ≡ Some (c.in_ok-wid.wid, c.in_ok-wid.value) = search rules in
    let same = same_Some _ _ (sym read ∙ there) in
    let said : said_widget c.in_ok-wid.value ≡ None = search rules in
    absurd (let no : None ≡ Some widget = sym said ∙ ap (λ (x : ℕ × WidgetValue). said_widget x.1) same ∙ is.said in cc)

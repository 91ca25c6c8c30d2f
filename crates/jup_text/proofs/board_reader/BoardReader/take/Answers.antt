use Rattle.std.proofs.Common.{◌≢◌, ℕ, ◌∷◌, ◌++◌, sym, ap, subst, ◌∙◌, rules, codes}
use Rattle.jup_window.specs.Entries.{widget_fault}
use Rattle.jup_text.specs.Commands.{IsId}
use Rattle.jup_text.specs.Boards.{Draft, IsHeld}
use Rattle.jup_text.proofs.BoardLines.{next_has_word, next_widget, same_id}
use Rattle.jup_text.proofs.board_reader.BoardReader.take.Goals as goal

pub returns-in_default-clause-every : goal.returns-in_default-clause-every
returns-in_default-clause-every c = λ next. absurd (next_has_word c.args.self.now c.as_bytes.result.now c.args.line.now c.as_bytes.ensures.value next c.in_default.ensures.none)

pub returns-in_err-read-clause-every : goal.returns-in_err-read-clause-every
returns-in_err-read-clause-every c = λ next.
    let parts = c.in-Some.ensures.read in
    let other : c.in-Some.word.now ≢ codes "window" = search rules in
    let widget = next_widget c.args.self.now c.as_bytes.result.now c.args.line.now c.in-Some.word.now c.in-Some.rest.now c.as_bytes.ensures.value parts.0 parts.1 other next in
    let held : IsHeld c.self.inside.last widget.widget = subst (λ (d : Draft). IsHeld d.2 widget.widget) (sym c.self.view_is) widget.held in
    let missing = c.in_err-read.ensures.every parts.0 widget.wid widget.widget widget.id held widget.spelled in
    search rules

pub returns-clause-every : goal.returns-clause-every
returns-clause-every c = λ next.
    let parts = c.in-Some.ensures.read in
    let other : c.in-Some.word.now ≢ codes "window" = search rules in
    let widget = next_widget c.args.self.now c.as_bytes.result.now c.args.line.now c.in-Some.word.now c.in-Some.rest.now c.as_bytes.ensures.value parts.0 parts.1 other next in
    let small : IsId c.in_ok-read.read.wid = c.in_ok-read.ensures.id in
    let same = same_id (c.in-Some.word.now ++ 32 ∷ c.in-Some.rest.now) c.in_ok-read.read.wid widget.wid c.in_ok-read.read.widget widget.widget small widget.id c.in_ok-read.ensures.line.0 widget.spelled in
    c.put.ensures.every widget.win widget.in_last (ap (λ (w : ℕ). widget_fault widget.win w c.args.self.now.0) same ∙ widget.allowed)

use Rattle.std.proofs.Common.{◌≡◌, ℕ, None, sym, ap, ◌∙◌, arith, rules, codes, decimal, ◌++◌}
use Rattle.std.proofs.lemmas.Fmt.{decimal_injective}
use Rattle.std.proofs.lemmas.List.{append_cancel_left}
use Rattle.jup_window.specs.Entries.{entry_fault}
use Rattle.jup_text.specs.Boards.{Draft}
use Rattle.jup_text.proofs.BoardLines.{window_first}
use Rattle.jup_text.proofs.board_reader.BoardReader.take_window.Goals as goal

pub returns-in_err-add_window-clause-every : goal.returns-in_err-add_window-clause-every
returns-in_err-add_window-clause-every c = λ next.
    let read = c.in-Some.ensures in
    let id = append_cancel_left (codes "window ") c.args.id.now (decimal next.win) (window_first (codes "window " ++ c.args.id.now) next.win next.spelled) in
    let same : c.in-Some.win ≡ next.win = decimal_injective c.in-Some.win next.win (omega (arith, read.0)) (let small = next.id in omega (arith, small)) (sym read.1 ∙ id) in
    let free : entry_fault c.in-Some.win c.self.inside.board ≡ None =
    ap (λ (d : Draft). entry_fault c.in-Some.win d.0) c.self.view_is ∙ ap (λ (w : ℕ). entry_fault w c.args.self.now.0) same ∙ next.allowed in
    search rules

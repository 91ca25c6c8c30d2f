use Rattle.std.proofs.Common.{◌≡◌, ◌≢◌, ℕ, List, subst, rules, codes}
use Rattle.jup_text.proofs.CommandWords.{HasHead, head_read, no_kind, no_window, no_widget, no_insertion, no_deletion, no_relabel, no_setting, other_kind}
use Rattle.jup_text.proofs.commands.command_of.Goals as goal

pub returns-in_err-verb : goal.returns-in_err-verb
returns-in_err-verb c = rw c.from_residual.ensures (no_kind c.args.line.now c.in_err-verb.ensures.none)

pub returns-in_err-win : goal.returns-in_err-win
returns-in_err-win c = rw c.from_residual-in_err-win.ensures
    (no_window c.args.line.now c.in_ok-verb.verb.now c.in_ok-verb.rest.now c.in_ok-verb.ensures.read.0 c.in_ok-verb.ensures.read.1 c.in_err-win.ensures.none)

pub returns-in_err-wid : goal.returns-in_err-wid
returns-in_err-wid c = rw c.from_residual-in_err-wid.ensures
    (no_widget c.args.line.now c.in_ok-verb.verb.now c.in_ok-verb.rest.now c.in_ok-win.rest.now c.in_ok-win.win c.in_ok-verb.ensures.read.0 c.in_ok-win.ensures.read.0 c.in_ok-verb.ensures.read.1
    c.in_ok-win.ensures.read.1 c.in_err-wid.ensures.none)

pub returns-in_err-place : goal.returns-in_err-place
returns-in_err-place c =
    let head = head_read c.args.line.now c.in_ok-verb.verb.now c.in_ok-verb.rest.now c.in_ok-win.rest.now c.in_ok-wid.rest.now c.in_ok-win.win c.in_ok-wid.wid c.in_ok-verb.ensures.read.0
    c.in_ok-win.ensures.read.0 c.in_ok-wid.ensures.read.0 c.in_ok-verb.ensures.read.1 c.in_ok-win.ensures.read.1 c.in_ok-wid.ensures.read.1 in
    let kind : c.in_ok-verb.verb.now ≡ codes "ins" = search rules in
    rw c.from_residual-in_err-place.ensures
    (no_insertion c.args.line.now c.in_ok-wid.rest.now c.in_ok-win.win c.in_ok-wid.wid (subst (λ (word : List ℕ). HasHead c.args.line.now word c.in_ok-win.win c.in_ok-wid.wid c.in_ok-wid.rest.now) kind head)
    (λ place value place_is value_is. c.in_err-place.ensures (place, value) (place_is, value_is)))

pub returns-in_err-place-2 : goal.returns-in_err-place-2
returns-in_err-place-2 c =
    let head = head_read c.args.line.now c.in_ok-verb.verb.now c.in_ok-verb.rest.now c.in_ok-win.rest.now c.in_ok-wid.rest.now c.in_ok-win.win c.in_ok-wid.wid c.in_ok-verb.ensures.read.0
    c.in_ok-win.ensures.read.0 c.in_ok-wid.ensures.read.0 c.in_ok-verb.ensures.read.1 c.in_ok-win.ensures.read.1 c.in_ok-wid.ensures.read.1 in
    let kind : c.in_ok-verb.verb.now ≡ codes "del" = search rules in
    rw c.from_residual-in_err-place-2.ensures
    (no_deletion c.args.line.now c.in_ok-wid.rest.now c.in_ok-win.win c.in_ok-wid.wid (subst (λ (word : List ℕ). HasHead c.args.line.now word c.in_ok-win.win c.in_ok-wid.wid c.in_ok-wid.rest.now) kind head)
    c.in_err-place-2.ensures)

pub returns-in_err-place-3 : goal.returns-in_err-place-3
returns-in_err-place-3 c =
    let head = head_read c.args.line.now c.in_ok-verb.verb.now c.in_ok-verb.rest.now c.in_ok-win.rest.now c.in_ok-wid.rest.now c.in_ok-win.win c.in_ok-wid.wid c.in_ok-verb.ensures.read.0
    c.in_ok-win.ensures.read.0 c.in_ok-wid.ensures.read.0 c.in_ok-verb.ensures.read.1 c.in_ok-win.ensures.read.1 c.in_ok-wid.ensures.read.1 in
    let kind : c.in_ok-verb.verb.now ≡ codes "rel" = search rules in
    rw c.from_residual-in_err-place-3.ensures
    (no_relabel c.args.line.now c.in_ok-wid.rest.now c.in_ok-win.win c.in_ok-wid.wid (subst (λ (word : List ℕ). HasHead c.args.line.now word c.in_ok-win.win c.in_ok-wid.wid c.in_ok-wid.rest.now) kind head)
    (λ place label place_is label_is. c.in_err-place-3.ensures (place, label) (place_is, label_is)))

pub returns-in_err-setting : goal.returns-in_err-setting
returns-in_err-setting c =
    let head = head_read c.args.line.now c.in_ok-verb.verb.now c.in_ok-verb.rest.now c.in_ok-win.rest.now c.in_ok-wid.rest.now c.in_ok-win.win c.in_ok-wid.wid c.in_ok-verb.ensures.read.0
    c.in_ok-win.ensures.read.0 c.in_ok-wid.ensures.read.0 c.in_ok-verb.ensures.read.1 c.in_ok-win.ensures.read.1 c.in_ok-wid.ensures.read.1 in
    let kind : c.in_ok-verb.verb.now ≡ codes "set" = search rules in
    rw c.from_residual-in_err-setting.ensures
    (no_setting c.args.line.now c.in_ok-wid.rest.now c.in_ok-win.win c.in_ok-wid.wid (subst (λ (word : List ℕ). HasHead c.args.line.now word c.in_ok-win.win c.in_ok-wid.wid c.in_ok-wid.rest.now) kind head)
    c.in_err-setting.ensures)

pub returns : goal.returns
returns c =
    let head = head_read c.args.line.now c.in_ok-verb.verb.now c.in_ok-verb.rest.now c.in_ok-win.rest.now c.in_ok-wid.rest.now c.in_ok-win.win c.in_ok-wid.wid c.in_ok-verb.ensures.read.0
    c.in_ok-win.ensures.read.0 c.in_ok-wid.ensures.read.0 c.in_ok-verb.ensures.read.1 c.in_ok-win.ensures.read.1 c.in_ok-wid.ensures.read.1 in
    let ins : c.in_ok-verb.verb.now ≢ codes "ins" = search rules in
    let del : c.in_ok-verb.verb.now ≢ codes "del" = search rules in
    let rel : c.in_ok-verb.verb.now ≢ codes "rel" = search rules in
    let set : c.in_ok-verb.verb.now ≢ codes "set" = search rules in
    other_kind c.args.line.now c.in_ok-verb.verb.now c.in_ok-wid.rest.now c.in_ok-win.win c.in_ok-wid.wid head ins del rel set

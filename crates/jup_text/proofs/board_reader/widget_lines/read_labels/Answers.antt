use Rattle.std.proofs.Common.{◌≡◌, ◌≢◌, [], ◌∷◌, ◌++◌, sym, ◌∙◌, arith, rules, flat_map}
use Rattle.jup_text.specs.Words.{quoted}
use Rattle.jup_text.proofs.BoardLines.{next_item, labels_next, numbered_next, labels_go_on, no_more_labels, no_label_next, labels_left, number_of, texts_next}
use Rattle.jup_text.proofs.board_reader.widget_lines.read_labels.Goals as goal

pub loop-label-preserved : goal.loop-label-preserved
loop-label-preserved c =
    let next = c.in-Some-next_quoted_label.ensures in
    let so_far = c.loop-label.items in
    let pushed = c.push.new.self in
    let value = c.in-Some-next_quoted_label.value in
    let same = c.in-Some-next_quoted_label.value-is in
    let added = c.in_ok-push.ensures.items in
    let more : pushed.items.items ≡ so_far.items.items ++ next_item so_far.last value ∷ [] = search rules in
    let behind = c.in-Some-next_quoted_label.later-is in
    let read : c.args.labels.now ≡ flat_map (λ item. 32 ∷ quoted item.value) pushed.items.items ++ c.in-Some-next_quoted_label.later.now =
    labels_next c.args.labels.now c.loop-label.rest.now c.in-Some.label.now c.in-Some-next_quoted_label.later.now so_far.last so_far.items.items pushed.items.items value c.loop-label.invariant.read c.in-Some.ensures
    next.read.1 more in
    record {
      read = search rules;
      texts = texts_next so_far.items.items pushed.items.items (next_item so_far.last value) c.loop-label.invariant.texts next.read.0 more;
      numbered = numbered_next c.args.last so_far.last pushed.last so_far.items.items pushed.items.items value c.loop-label.invariant.numbered more c.in_ok-push.ensures.last;
    }

pub returns-in_default-next_quoted_label-clause-every : goal.returns-in_default-next_quoted_label-clause-every
returns-in_default-next_quoted_label-clause-every c = λ texts held same.
    let on = labels_go_on c.loop-label.items.items.items texts c.loop-label.rest.now c.loop-label.invariant.texts held.each (sym c.loop-label.invariant.read ∙ same) in
    absurd (no_label_next _ c.loop-label.rest.now c.in-Some.label.now texts on c.in-Some.ensures c.in_default-next_quoted_label.ensures.none)

pub returns-in_err-push-clause-every : goal.returns-in_err-push-clause-every
returns-in_err-push-clause-every c = λ texts held same.
    let so_far = c.loop-label.items in
    let on = labels_go_on so_far.items.items texts c.loop-label.rest.now c.loop-label.invariant.texts held.each (sym c.loop-label.invariant.read ∙ same) in
    let more = labels_left _ c.loop-label.rest.now c.in-Some.label.now texts on c.in-Some.ensures in
    let count = number_of c.args.last so_far.last so_far.items.items c.loop-label.invariant.numbered in
    let short = held.short in
    let numbered = held.numbered in
    let missing = c.in_err-push.ensures.every (omega (arith, more, short)) (omega (arith, count, more, numbered)) in
    search rules

pub returns-else-is_empty-clause-every : goal.returns-else-is_empty-clause-every
returns-else-is_empty-clause-every c = λ texts held same.
    let on = labels_go_on c.loop-label.items.items.items texts c.loop-label.rest.now c.loop-label.invariant.texts held.each (sym c.loop-label.invariant.read ∙ same) in
    let some : c.loop-label.rest.now ≢ [] = search rules in
    absurd (no_more_labels _ c.loop-label.rest.now texts on some c.in_default.ensures)

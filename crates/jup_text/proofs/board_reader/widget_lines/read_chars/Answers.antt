use Rattle.std.proofs.Common.{◌≢◌, ℕ, List, [], ◌∷◌, ◌++◌, map, sym, subst, arith, rules, flat_map}
use Rattle.std.proofs.lemmas.List.{length-map}
use Rattle.jup_text.specs.Words.{quoted_char}
use Rattle.jup_text.proofs.Quotes.{HasRead, more_read, no_text_read}
use Rattle.jup_text.proofs.BoardLines.{values_next, numbered_next, more_chars, number_of}
use Rattle.jup_text.proofs.board_reader.widget_lines.read_chars.Goals as goal

pub loop-value-preserved : goal.loop-value-preserved
loop-value-preserved c =
    let next = c.in-Some-next_char.ensures in
    let so_far = c.loop-value.items in
    let pushed = c.push.new.self in
    let more = c.in_ok-push.ensures.items in
    record {
      read = subst (λ (cs : List ℕ). HasRead c.args.text.now cs c.in-Some-next_char.later.now)
          (sym (values_next so_far.last so_far.items.items pushed.items.items c.in-Some-next_char.value more))
          (more_read c.args.text.now (map (λ item. item.value) so_far.items.items) c.loop-value.rest.now c.in-Some-next_char.later.now c.in-Some-next_char.value c.loop-value.invariant.read next.read.0 next.read.1);
      numbered = numbered_next c.args.last so_far.last pushed.last so_far.items.items pushed.items.items c.in-Some-next_char.value c.loop-value.invariant.numbered more c.in_ok-push.ensures.last;
    }

pub returns-in_default-clause-every : goal.returns-in_default-clause-every
returns-in_default-clause-every c = λ chars held same. absurd (c.in_default.ensures (flat_map quoted_char chars ++ 34 ∷ []) same)

pub returns-in_err-push-clause-every : goal.returns-in_err-push-clause-every
returns-in_err-push-clause-every c = λ chars held same.
    let so_far = c.loop-value.items in
    let count = number_of c.args.last so_far.last so_far.items.items c.loop-value.invariant.numbered in
    let more = more_chars c.args.text.now (map (λ item. item.value) so_far.items.items) c.loop-value.rest.now c.in-Some-next_char.later.now c.in-Some-next_char.value c.loop-value.invariant.read c.in-Some-next_char.ensures.read.1
    chars held.each same in
    let many = length-map so_far.items.items (λ item. item.value) in
    let short = held.short in
    let numbered = held.numbered in
    let missing = c.in_err-push.ensures.every (omega (arith, more, many, short)) (omega (arith, count, more, many, numbered)) in
    search rules

pub returns-else-is_end-clause-every : goal.returns-else-is_end-clause-every
returns-else-is_end-clause-every c = λ chars held same.
    let no_end : c.loop-value.rest.now ≢ 34 ∷ [] = search rules in
    absurd (no_text_read c.args.text.now (map (λ item. item.value) c.loop-value.items.items.items) c.loop-value.rest.now c.loop-value.invariant.read c.in_default-next_char.ensures.none no_end chars held.each same)

use Rattle.std.proofs.Common.{◌≡◌, ◌≢◌, ◌++◌, ◌∷◌, [], List, ℕ, length, sym, ap, ◌∙◌, subst, arith, rules}
use Rattle.jup_text.proofs.Quotes.{HasRead, none_read, more_read, text_read, no_text_read}
use Rattle.jup_text.proofs.quoted.read_quoted.Goals as goal

pub loop-value-init : goal.loop-value-init
loop-value-init c =
    let starts = sym c.as_bytes.ensures.value ∙ c.in-Some.ensures in
    let len : length c.args.word.now ≡ length (34 ∷ c.in-Some.text.now) = ap length starts in
    record {
      read = subst (λ (cs : List ℕ). HasRead c.args.word.now cs c.in-Some.text.now) (sym c.new-chars.ensures.items) (none_read c.args.word.now c.in-Some.text.now starts);
      short = let none = c.new-chars.ensures.len in omega (arith, len, none);
    }

pub loop-value-preserved : goal.loop-value-preserved
loop-value-preserved c =
    let next = c.in-Some-next_char.ensures in
    let pushed : c.push.new.self.items ≡ c.loop-value.chars.items ++ c.in-Some-next_char.value ∷ [] = search rules in
    record {
      read = subst (λ (cs : List ℕ). HasRead c.args.word.now cs c.in-Some-next_char.later.now) (sym pushed)
          (more_read c.args.word.now c.loop-value.chars.items c.loop-value.rest.now c.in-Some-next_char.later.now c.in-Some-next_char.value c.loop-value.invariant.read next.read.0 next.read.1);
      short = search rules;
    }

pub returns-then-is_end-clause-one_spelling : goal.returns-then-is_end-clause-one_spelling
returns-then-is_end-clause-one_spelling c = text_read c.args.word.now c.loop-value.chars.items c.loop-value.rest.now c.loop-value.invariant.read (search rules)

pub returns-else-is_end-clause-one_spelling : goal.returns-else-is_end-clause-one_spelling
returns-else-is_end-clause-one_spelling c =
    let no_end : c.loop-value.rest.now ≢ 34 ∷ [] = search rules in
    no_text_read c.args.word.now c.loop-value.chars.items c.loop-value.rest.now c.loop-value.invariant.read c.in_default-next_char.ensures.none no_end

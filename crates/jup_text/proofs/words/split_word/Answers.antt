use Rattle.std.proofs.Common.{◌≡◌, List, ℕ, ◌∷◌, ◌+◌, length, take, drop, inr, sym, subst, ◌∙◌, arith}
use Rattle.std.proofs.lemmas.List.{append_cancel_left, take_all, take-append-drop}
use Rattle.jup_text.specs.Words.{IsWord}
use Rattle.jup_text.proofs.Quotes.{lacks_before, lacks_all, byte_here}
use Rattle.jup_text.proofs.words.split_word.Goals as goal

pub returns-in-Some-clause-word : goal.returns-in-Some-clause-word
returns-in-Some-clause-word c =
    subst (λ (t : List ℕ). IsWord t) (sym c.split_at.ensures.front) (lacks_before 32 c.args.text.now c.in-Some.at c.in-Some.ensures.place)

pub returns-in-Some-clause-behind : goal.returns-in-Some-clause-behind
returns-in-Some-clause-behind c =
    let here = byte_here 32 c.args.text.now c.in-Some.at c.in-Some.ensures.place in
    let behind = append_cancel_left (take c.in-Some.at c.args.text.now) (drop c.in-Some.at c.args.text.now) (32 ∷ drop (c.in-Some.at + 1) c.args.text.now) (take-append-drop c.in-Some.at c.args.text.now ∙ here) in
    inr (drop (c.in-Some.at + 1) c.args.text.now, c.split_at.ensures.back ∙ behind)

pub returns-in-None-clause-word : goal.returns-in-None-clause-word
returns-in-None-clause-word c =
    let front : c.split_at-in-None.result.0.now ≡ c.args.text.now = c.split_at-in-None.ensures.front ∙ take_all (length c.args.text.now) c.args.text.now (omega arith) in
    subst (λ (t : List ℕ). IsWord t) (sym front) (lacks_all 32 c.args.text.now c.in-None.ensures.place)

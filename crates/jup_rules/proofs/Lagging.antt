-- What an acknowledgement makes of how far a site is behind.
use Rattle.std.proofs.Common.{◌≡◌, ℕ, ◌+◌, ◌-◌, min, List, ◌++◌, length, take, drop, sum, arith, ap, sym, ◌∙◌, take-add, drop-drop, length-drop}
use Rattle.std.proofs.lemmas.List.{take_min, drop_min}
use Rattle.std.proofs.lemmas.List.Sums.{sum_by-append}
use Rattle.jup_rules.specs.Lags.{Behind, IsBehind, counted}

-- a count that stops at the largest is the same where it is taken in two steps
counted_on : (a b c : ℕ) → counted (counted (a + b) + c) ≡ counted (a + (b + c))
counted_on a b c = omega arith

-- the messages that were fetched are heard as far as they reach, and the others were acknowledged before they were fetched
pub is_behind_on : (besides : ℕ) (messages : List ℕ) (site : Behind) (more fetched known : ℕ) (waiting : List ℕ) → fetched ≡ min (length site.waiting) more
    → known ≡ counted (site.known + sum (take fetched site.waiting)) → waiting ≡ drop fetched site.waiting → IsBehind besides messages site
    → IsBehind besides messages (record { known = known; waiting = waiting; acknowledged = site.acknowledged + more; early = site.early + (more - fetched) })
is_behind_on besides messages site more fetched known waiting least heard left b = record {
  known = heard ∙ ap (λ k. counted (k + sum (take fetched site.waiting))) b.known
      ∙ counted_on besides (sum (take n messages)) (sum (take fetched site.waiting))
      ∙ ap (λ s. counted (besides + s)) (sym (sum_by-append (λ x. x) (take n messages) (take fetched site.waiting)) ∙ ap (λ l. sum (take n messages ++ l)) front ∙ ap sum (sym (take-add n more messages)));
  waiting = left ∙ ap (λ f. drop f site.waiting) bound ∙ drop_min more site.waiting ∙ ap (drop more) b.waiting ∙ drop-drop more n messages;
  early = omega (arith, b.early, least, many);
}
  where
    n : ℕ
    n = site.acknowledged

    many : length site.waiting ≡ length messages - n
    many = ap length b.waiting ∙ length-drop n messages

    bound : fetched ≡ min more (length site.waiting)
    bound = omega (arith, least)

    front : take fetched site.waiting ≡ take more (drop n messages)
    front = ap (λ f. take f site.waiting) bound ∙ take_min more site.waiting ∙ ap (take more) b.waiting

-- Counts of links that are over, by their tokens.
use Rattle.std.proofs.Common.{◌≡◌, ◌≢◌, ℕ, List, [], ◌∷◌, ◌++◌, Option, None, Some, refl, ap, ◌∙◌, append_assoc}
use Rattle.jup_resume.proofs.Texts.{all_both}
use Rattle.jup_links.specs.Counts.{Finds}
use Rattle.jup_links.specs.declared.counts.Count.{Count}

-- one more, of another token
pub finds_past : (token : List ℕ) (counts : List Count) (one : Count) (found : Option ℕ) → Finds token counts found → one.token ≢ token → Finds token (counts ++ one ∷ []) found
finds_past token counts one None finds other = all_both (λ c. c.token ≢ token) counts (one ∷ []) finds (other, tt)
finds_past token counts one (Some taken) finds other = record {
  before = finds.before;
  count = finds.count;
  behind = finds.behind ++ one ∷ [];
  whole = ap (λ cs. cs ++ one ∷ []) finds.whole ∙ append_assoc finds.before (finds.count ∷ finds.behind) (one ∷ []);
  token_is = finds.token_is;
  taken_is = finds.taken_is;
  last = all_both (λ c. c.token ≢ token) finds.behind (one ∷ []) finds.last (other, tt);
}

-- one more, of this token
pub finds_it : (token : List ℕ) (counts : List Count) (one : Count) → one.token ≡ token → Finds token (counts ++ one ∷ []) (Some one.taken)
finds_it token counts one is = record { before = counts; count = one; behind = []; whole = refl; token_is = is; taken_is = refl; last = tt }

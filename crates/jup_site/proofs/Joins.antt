-- A site that joins a star has received all of the star's order.
use Rattle.std.proofs.Common.{◌≡◌, ℕ, ◌+◌, ◌≤◌, List, [], ◌++◌, length, ap, sym, ◌∙◌, subst, append-nil, add-zero, arith, ◌<◌, drop, take, refl, take_all, drop_of_length-le, length-append, le_refl}
use Rattle.jup_site.specs.Prelude.{Operations, AreLawful, StarOf, opened_link, opened_site, AllByRecursion}
use Rattle.jup_link.specs.Laws.Steps as link_laws
use Rattle.jup_site.specs.Turns.{turns, edits, own_edits}
use Rattle.jup_site.specs.Sites.{AttachedOf}
use Rattle.jup_site.specs.Sound.{IsSoundStar, named_by, own_counts, ChangesKnown, HoldsKnown, Paired, told_of, Standing}
use Rattle.jup_site.proofs.Turns as site_turns
use Rattle.jup_site.proofs.Stars.{next}
use Rattle.jup_site.proofs.Known as known_names

module _ (O : Operations) (L : AreLawful O) (most : ℕ) (first : O.t.Content) (s : StarOf O) (h : IsSoundStar O most first s) (i : ℕ) (next : i ≡ s.given + 1) (no_entry : own_edits (turns i s.order) ≡ []) where
  -- the site, with nothing on its way
  abbrev pub newcomer : AttachedOf O
  newcomer = record { site = opened_site i s.limit s.board; up = []; down = [] }

  -- the number is new
  new : s.given < i
  new = omega (arith, next)

  -- no entry bears a name of it
  no_name : named_by O i i (turns i s.order) ≡ 0
  no_name = site_turns.named-turns O L i 0 i s.order ∙ h.no_name i new

  -- it knows what the star knows
  counts : (j : ℕ) → named_by O 0 j (turns 0 s.order) ≤ own_counts O i 0 (λ j. named_by O i j (turns i s.order)) j
  counts j =
      let above = known_names.own_counts-above O L i 0 (λ j. named_by O i j (turns i s.order)) (omega (arith, no_name)) j in
      omega (arith, site_turns.named-turns O L 0 i j s.order)

  knows : HoldsKnown O (own_counts O i 0 (λ j. named_by O i j (turns i s.order))) s.board
  knows n x = known_names.known_more O L (λ j. named_by O 0 j (turns 0 s.order)) (own_counts O i 0 (λ j. named_by O i j (turns i s.order))) n counts (h.board_known n x)

  -- and with nothing after it neither
  none_named : named_by O i i (turns i s.order ++ []) ≡ 0
  none_named = ap (named_by O i i) (append-nil (turns i s.order)) ∙ no_name

  -- nothing is added
  all_nil : {A : Type 0} → (xs : List A) → (xs ++ []) ++ [] ≡ xs
  all_nil xs = append-nil (xs ++ []) ∙ append-nil xs

  -- a new link and a new site are in step
  new_pair : Paired O most i first (turns i s.order) [] s.board [] (opened_link i) newcomer
  new_pair = record {
    from = s.board;
    site_ahead = [];
    star_ahead = [];
    site_side = refl;
    link_side = refl;
    in_step = link_laws.InStepAt-opened O.t L.lawful 0 s.board h.distinct (link_laws.small_le O.t L.lawful 0 h.room s.board (omega arith) h.small);
    room = h.room;
    small = h.small;
    enough = omega (arith, h.enough, length-append (turns i s.order) [], site_turns.length-turns i s.order);
    raw = [];
    raw_sent = refl;
    row = tt;
    column = refl;
    all_made = sym (append-nil (own_edits (turns i s.order ++ [])) ∙ ap own_edits (append-nil (turns i s.order)) ∙ no_entry);
    shows = h.content_is ∙ ap (O.t.meaning first) (site_turns.edits-turns 0 i s.order ∙ sym (all_nil (edits (turns i s.order))));
    up_inherits = tt;
    down_inherits = tt;
    raw_named = none_named;
    rest_named = tt;
    board_known = knows;
    from_known = subst (λ k. HoldsKnown O (own_counts O i k (λ j. named_by O i j (turns i s.order))) s.board) (sym none_named) knows;
    view_known = subst (AllByRecursion (ChangesKnown O (own_counts O i 0 (λ j. named_by O i j (turns i s.order))))) (site_turns.edits-turns 0 i s.order ∙ sym (all_nil (edits (turns i s.order))))
        (known_names.all_changes_more O L (λ j. named_by O 0 j (turns 0 s.order)) (own_counts O i 0 (λ j. named_by O i j (turns i s.order))) counts (edits (turns 0 s.order)) h.order_known);
    falling_foreign = tt;
    positive = omega (arith, next);
    site_number = refl;
    link_number = refl;
    link_named = sym none_named;
    goes_on = refl;
    backlog = omega arith;
    few_heard = omega arith;
    few_sent = omega arith;
  }

  -- at the end of the order
  pub stands-new : Standing O most first (turns i s.order) s.board [] (length s.order) 0 i (opened_link i) newcomer
  stands-new = record {
    pair = subst (λ k. Paired O most i first (take k (turns i s.order)) (drop k (turns i s.order)) s.board [] (opened_link i) newcomer) (sym told)
        (subst (λ us. Paired O most i first us (drop (length (turns i s.order)) (turns i s.order)) s.board [] (opened_link i) newcomer) (sym (take_all (length (turns i s.order)) (turns i s.order) (le_refl _)))
        (subst (λ us. Paired O most i first (turns i s.order) us s.board [] (opened_link i) newcomer) (sym (drop_of_length-le (turns i s.order) (le_refl _))) new_pair));
    joined_within = omega (arith, site_turns.length-turns i s.order);
    shown_within = omega arith;
  }
    where
      told : told_of O (length s.order) 0 (turns i s.order) ≡ length (turns i s.order)
      told = add-zero (length s.order) ∙ sym (site_turns.length-turns i s.order)

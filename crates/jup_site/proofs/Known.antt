-- What the ends of a link know.
use Rattle.std.proofs.Common.{◌≡◌, ℕ, ◌+◌, ◌≤◌, Bool, true, false, cond, List, [], ◌∷◌, ◌++◌, nat_eq, refl, ap, sym, subst, inl, inr, arith, IsTrue, le_refl, eq-eqb, eqb-true, ◌∙◌, ne_eqb}
use Rattle.jup_site.specs.Prelude.{past, Message, Operation, Ack, Operations, AreLawful, LinkState, AllByRecursion}
use Rattle.jup_xform.specs.Grids.{after_all, AreValid}
use Rattle.jup_site.specs.Turns.{IsIn, Turn, Own, Other, others}
use Rattle.jup_site.specs.Sound.{edits_sent, named_by, IsKnown, own_counts, ChangesKnown, ChangesHeld, Inherits, RawNamed, HoldsKnown, OrderNamed, Paired}
use Rattle.jup_site.specs.Sites.{AttachedOf}

-- The names that are known, and lists of edits as their sites named them.

-- each of two lists
pub All-append : {A : Type 0} (P : A → Type 0) → (xs ys : List A) → AllByRecursion P xs → AllByRecursion P ys → AllByRecursion P (xs ++ ys)
All-append P [] ys h k = k
All-append P (x ∷ xs) ys h k = (h.0, All-append P xs ys h.1 k)

-- each of the first
pub All-first : {A : Type 0} (P : A → Type 0) → (xs ys : List A) → AllByRecursion P (xs ++ ys) → AllByRecursion P xs
All-first P [] ys h = tt
All-first P (x ∷ xs) ys h = (h.0, All-first P xs ys h.1)

-- each of the second
pub All-second : {A : Type 0} (P : A → Type 0) → (xs ys : List A) → AllByRecursion P (xs ++ ys) → AllByRecursion P ys
All-second P [] ys h = h
All-second P (x ∷ xs) ys h = All-second P xs ys h.1

-- each has what follows
pub All-map : {A : Type 0} (P Q : A → Type 0) → ((x : A) → P x → Q x) → (xs : List A) → AllByRecursion P xs → AllByRecursion Q xs
All-map P Q f [] h = tt
All-map P Q f (x ∷ xs) h = (f x h.0, All-map P Q f xs h.1)

-- one of them has it
pub All-at : {A : Type 0} (P : A → Type 0) → (xs : List A) (x : A) → IsIn x xs → AllByRecursion P xs → P x
All-at P [] x h k = absurd h
All-at P (y ∷ ys) x h k = elim h [ inl e ↦ subst P (sym e) k.0 | inr m ↦ All-at P ys x m k.1 ]

module _ (O : Operations) (L : AreLawful O) where
  -- what is known under lower counts is known under higher ones
  pub known_more : (c d : ℕ → ℕ) (n : O.t.Name) → ((j : ℕ) → c j ≤ d j) → IsKnown O c n → IsKnown O d n
  known_more c d n h (inl e) = inl e
  known_more c d n h (inr m) = inr (omega (arith, h (O.site_of n)))

  -- the counts that a site knows grow
  pub own_counts-more : (i k m : ℕ) (c d : ℕ → ℕ) → k ≤ m → ((j : ℕ) → c j ≤ d j) → (j : ℕ) → own_counts O i k c j ≤ own_counts O i m d j
  own_counts-more i k m c d h f j = cases (nat_eq j i)
    where
      cases : (b : Bool) → cond b k (c j) ≤ cond b m (d j)
      cases true = h
      cases false = f j

  -- what an edit changes stays known
  pub changes_more : (c d : ℕ → ℕ) → ((j : ℕ) → c j ≤ d j) → (e : O.Edit) → ChangesKnown O c e → ChangesKnown O d e
  changes_more c d h e k n m = known_more c d n h (k n m)

  -- or held
  pub held_more : (c d : ℕ → ℕ) → ((j : ℕ) → c j ≤ d j) → (e : O.Edit) → ChangesHeld O c e → ChangesHeld O d e
  held_more c d h e k n m = elim (k n m) [ inl known ↦ inl (known_more c d n h known) | inr own ↦ inr own ]

  -- for each edit of a list
  pub all_changes_more : (c d : ℕ → ℕ) → ((j : ℕ) → c j ≤ d j) → (es : List O.Edit) → AllByRecursion (ChangesKnown O c) es → AllByRecursion (ChangesKnown O d) es
  all_changes_more c d h es k = All-map (ChangesKnown O c) (ChangesKnown O d) (changes_more c d h) es k

  -- edits on their way stay named
  pub raw_named-more : (c d : ℕ → ℕ) (i : ℕ) → ((j : ℕ) → c j ≤ d j) → (k : ℕ) (es : List O.Edit) (last : ℕ) → RawNamed O c i k es last → RawNamed O d i k es last
  raw_named-more c d i h k [] last r = r
  raw_named-more c d i h k (e ∷ es) last r =
      (r.0, r.1, held_more _ _ (own_counts-more i k k c d (le_refl k) h) e r.2, raw_named-more c d i h (k + O.insertions e) es last r.3)

  -- one more edit of the site's own
  pub raw_named-end : (c : ℕ → ℕ) (i k : ℕ) (es : List O.Edit) (last : ℕ) (e : O.Edit) → RawNamed O c i k es last
      → IsTrue (O.bears_next i last e) → O.is_nothing e ≡ false → ChangesHeld O (own_counts O i last c) e
      → RawNamed O c i k (es ++ e ∷ []) (last + O.insertions e)
  raw_named-end c i k [] last e r b n d =
      (subst (λ m. IsTrue (O.bears_next i m e)) (sym r) b, n, subst (λ m. ChangesHeld O (own_counts O i m c) e) (sym r) d, ap (λ m. m + O.insertions e) r)
  raw_named-end c i k (f ∷ es) last e r b n d = (r.0, r.1, r.2, raw_named-end c i (k + O.insertions f) es last e r.3 b n d)

  -- insertions among the entries of two lists
  pub named_by-append : (i j : ℕ) (ts us : List (Turn O.Edit)) → named_by O i j (ts ++ us) ≡ named_by O i j ts + named_by O i j us
  named_by-append i j [] us = omega arith
  named_by-append i j (Own e ∷ ts) us = omega (arith, named_by-append i j ts us)
  named_by-append i j (Other k e ∷ ts) us = omega (arith, named_by-append i j ts us)

  -- one more operation and its edit
  pub inherits-end : (cs : List O.Op) (es : List O.Edit) (c : O.Op) (e : O.Edit) → Inherits O cs es → ((n : O.t.Name) → O.t.inserts (O.t.edit_of c) n → O.t.inserts e n)
      → Inherits O (cs ++ c ∷ []) (es ++ e ∷ [])
  inherits-end [] [] c e h k = (k, tt)
  inherits-end [] (f ∷ es) c e h k = absurd h
  inherits-end (d ∷ cs) [] c e h k = absurd h
  inherits-end (d ∷ cs) (f ∷ es) c e h k = (h.0, inherits-end cs es c e h.1 k)

  -- the edits sent in two streams
  pub edits_sent-append : (ms ns : List (Message O.Op)) → edits_sent O (ms ++ ns) ≡ edits_sent O ms ++ edits_sent O ns
  edits_sent-append [] ns = refl
  edits_sent-append (Operation mine heard o ∷ ms) ns = ap (λ es. O.t.edit_of o ∷ es) (edits_sent-append ms ns)
  edits_sent-append (Ack n ∷ ms) ns = edits_sent-append ms ns

  -- among the names of site i itself, its own count decides
  pub own_known : (i k : ℕ) (c : ℕ → ℕ) (n : O.t.Name) → 1 ≤ i → O.site_of n ≡ i → IsKnown O (own_counts O i k c) n → O.number_of n ≤ k
  own_known i k c n p e (inl z) = absurd (omega arith)
  own_known i k c n p e (inr m) = cases (nat_eq (O.site_of n) i) (eq-eqb (O.site_of n) i e) m
    where
      cases : (b : Bool) → b ≡ true → O.number_of n ≤ cond b k (c (O.site_of n)) → O.number_of n ≤ k
      cases true f m = m
      cases false f m = absurd (cc)

  -- a site's own name is known to it
  pub known_own : (i k : ℕ) (c : ℕ → ℕ) (n : O.t.Name) → O.site_of n ≡ i → O.number_of n ≤ k → IsKnown O (own_counts O i k c) n
  known_own i k c n e m = inr (cases (nat_eq (O.site_of n) i) (eq-eqb (O.site_of n) i e))
    where
      cases : (b : Bool) → b ≡ true → O.number_of n ≤ cond b k (c (O.site_of n))
      cases true f = m
      cases false f = absurd (cc)

  -- among the names of another site, the counts of the entries decide
  pub other_known : (i k j : ℕ) (c : ℕ → ℕ) (n : O.t.Name) → 1 ≤ j → nat_eq j i ≡ false → O.site_of n ≡ j → IsKnown O (own_counts O i k c) n → O.number_of n ≤ c j
  other_known i k j c n p d e (inl z) = absurd (omega arith)
  other_known i k j c n p d e (inr m) =
      let m' : O.number_of n ≤ cond (nat_eq j i) k (c j) = subst (λ s. O.number_of n ≤ cond (nat_eq s i) k (c s)) e m in
      cases (nat_eq j i) d m'
    where
      cases : (b : Bool) → b ≡ false → O.number_of n ≤ cond b k (c j) → O.number_of n ≤ c j
      cases false f m = m
      cases true f m = absurd (cc)

  -- so is a name of another site, under that site's count
  pub known_other : (i k j : ℕ) (c : ℕ → ℕ) (n : O.t.Name) → nat_eq j i ≡ false → O.site_of n ≡ j → O.number_of n ≤ c j → IsKnown O (own_counts O i k c) n
  known_other i k j c n d e m = inr (subst (λ s. O.number_of n ≤ cond (nat_eq s i) k (c s)) (sym e) (cases (nat_eq j i) d))
    where
      cases : (b : Bool) → b ≡ false → O.number_of n ≤ cond b k (c j)
      cases false f = m
      cases true f = absurd (cc)

  -- the count of insertions only grows
  pub raw_last : (c : ℕ → ℕ) (i k : ℕ) (es : List O.Edit) (last : ℕ) → RawNamed O c i k es last → k ≤ last
  raw_last c i k [] last r = omega arith
  raw_last c i k (e ∷ es) last r = let rest = raw_last c i (k + O.insertions e) es last r.3 in omega arith

  -- a site knows no less of its own insertions than the entries have
  pub own_counts-above : (i k : ℕ) (c : ℕ → ℕ) → c i ≤ k → (j : ℕ) → c j ≤ own_counts O i k c j
  own_counts-above i k c h j = cases (nat_eq j i) refl
    where
      cases : (b : Bool) → nat_eq j i ≡ b → c j ≤ cond b k (c j)
      cases true e = subst (λ m. c m ≤ k) (sym (eqb-true j i e)) h
      cases false e = le_refl (c j)

  -- and no more than all entries have, once its own are among them
  pub own_counts-below : (i k : ℕ) (c d : ℕ → ℕ) → k ≤ d i → ((j : ℕ) → c j ≤ d j) → (j : ℕ) → own_counts O i k c j ≤ d j
  own_counts-below i k c d h f j = cases (nat_eq j i) refl
    where
      cases : (b : Bool) → nat_eq j i ≡ b → cond b k (c j) ≤ d j
      cases true e = subst (λ m. k ≤ d m) (sym (eqb-true j i e)) h
      cases false e = f j

-- One link at one moment: its site and the star show in one order what both show. Neither end has inserted a name that both know since the state from which
-- both went on, so that state connects the two. If one end has received all that the other made, more is known.

module _ (O : Operations) (L : AreLawful O) where
  -- # Operations that insert none of some names

  -- none of the operations inserts a name of this kind
  abbrev pub InsertNone : (O.t.Name → Type 0) → List O.Op → Type 0
  InsertNone K os = AllByRecursion (λ o. (n : O.t.Name) → O.t.inserts (O.t.edit_of o) n → K n → ⊥) os

  -- A state and a later one: what both hold is in one order in both, and the earlier one held each known name that the later one holds.
  pub record Since (K : O.t.Name → Type 0) (x z : O.State) : Type 0 where
    pub order : O.t.keeps_order x z
    pub none_back : (n : O.t.Name) → K n → O.t.holds z n → O.t.holds x n

  -- it stays so after operations that insert no known name
  since_all : (K : O.t.Name → Type 0) (x : O.State) → ((n : O.t.Name) → O.t.holds x n → K n) → (os : List O.Op) (y : O.State)
      → O.t.is_distinct y → AreValid O.t os y → InsertNone K os → Since K x y → Since K x (after_all O.t os y)
  since_all K x held [] y distinct valid none s = s
  since_all K x held (o ∷ os) y distinct valid none s =
      since_all K x held os (O.t.after o y) (L.lawful.distinct_after y o distinct valid.0) valid.1 none.1 (record {
        order = L.keeps.order_chain x y (O.t.after o y) s.order (L.keeps.order y o distinct valid.0) (λ n there later. back n (held n there) later);
        none_back = λ n k later. s.none_back n k (back n k later);
      })
    where
      back : (n : O.t.Name) → K n → O.t.holds (O.t.after o y) n → O.t.holds y n
      back n k later = elim (L.keeps.held_before y o n valid.0 later) [ inl there ↦ there | inr new ↦ absurd (none.0 n new k) ]

  -- and it holds of a state and itself
  since_self : (K : O.t.Name → Type 0) (x : O.State) → Since K x x
  since_self K x = record { order = L.keeps.order_self x; none_back = λ n k held. held }

  -- a site's own operations insert its next names alone, and so no known one
  own_none : (K : O.t.Name → Type 0) (c : ℕ → ℕ) (i k : ℕ) (cs : List O.Op) (es : List O.Edit) (last : ℕ) → Inherits O cs es → RawNamed O c i k es last
      → ((n : O.t.Name) → K n → O.site_of n ≡ i → O.number_of n ≤ k) → InsertNone K cs
  own_none K c i k [] es last h r bound = tt
  own_none K c i k (o ∷ cs) [] last h r bound = absurd h
  own_none K c i k (o ∷ cs) (e ∷ es) last h r bound = (
    λ n x known.
        let below = bound n known (L.next_site i k e n r.0 (h.0 n x)) in
        let above = L.next_above i k e n r.0 (h.0 n x) in
        omega arith,
    own_none K c i (k + O.insertions e) cs es last h.1 r.3 (λ n known own. let below = bound n known own in omega arith),
  )

  -- and those of other sites the next names of theirs
  others_none : (K : O.t.Name → Type 0) (i : ℕ) (past ts : List (Turn O.Edit)) (bs : List O.Op) → OrderNamed O i past ts → Inherits O bs (others ts)
      → ((n : O.t.Name) (j : ℕ) → K n → 1 ≤ j → nat_eq j i ≡ false → O.site_of n ≡ j → O.number_of n ≤ named_by O i j past) → InsertNone K bs
  others_none K i past [] [] h k bound = tt
  others_none K i past [] (b ∷ bs) h k bound = absurd k
  others_none K i past (Own e ∷ ts) bs h k bound = others_none K i (past ++ Own e ∷ []) ts bs h k
      (λ n j known positive foreign of. let below = bound n j known positive foreign of in omega (arith, named_by-append O L i j past (Own e ∷ [])))
  others_none K i past (Other s e ∷ ts) [] h k bound = absurd k
  others_none K i past (Other s e ∷ ts) (b ∷ bs) h k bound = (
    λ n x known.
        let below = bound n s known h.0.0 h.0.1 (L.next_site s _ e n h.0.2 (k.0 n x)) in
        let above = L.next_above s _ e n h.0.2 (k.0 n x) in
        omega arith,
    others_none K i (past ++ Other s e ∷ []) ts bs h.1 k.1
        (λ n j known positive foreign of. let below = bound n j known positive foreign of in omega (arith, named_by-append O L i j past (Other s e ∷ []))),
  )

  -- if no entry is another site's, no other site names anything
  none_named : (i j : ℕ) (ts : List (Turn O.Edit)) → others ts ≡ [] → nat_eq i j ≡ false → named_by O i j ts ≡ 0
  none_named i j [] none apart = refl
  none_named i j (Own e ∷ ts) none apart = one (nat_eq i j) apart (none_named i j ts none apart)
    where
      one : (b : Bool) → b ≡ false → named_by O i j ts ≡ 0 → cond b (O.insertions e) 0 + named_by O i j ts ≡ 0
      one false f rest = omega arith
      one true f rest = absurd (cc)
  none_named i j (Other k e ∷ ts) none apart = absurd (cc)

  -- # A site and the star

  module _ (symmetric : (x y : O.State) → O.t.keeps_order x y → O.t.keeps_order y x)
      (most i : ℕ) (first : O.t.Content) (past rest : List (Turn O.Edit)) (held : O.State) (mine : List O.Edit) (l : LinkState O.Op) (a : AttachedOf O)
      (h : Paired O most i first past rest held mine l a) where
    -- how many names of each site the star knows, how many the site, and how many both
    abbrev pub star_counts : ℕ → ℕ
    star_counts = λ j. named_by O i j (past ++ rest)

    abbrev pub site_counts : ℕ → ℕ
    site_counts = own_counts O i a.site.named (λ j. named_by O i j past)

    abbrev both_counts : ℕ → ℕ
    both_counts = own_counts O i (named_by O i i (past ++ rest)) (λ j. named_by O i j past)

    -- the site's board since the state from which both went on
    site_since : Since (IsKnown O both_counts) h.from a.site.board
    site_since = subst (λ z. Since (IsKnown O both_counts) h.from z) (sym h.in_step.states.near_is)
        (since_all (IsKnown O both_counts) h.from h.from_known h.site_ahead h.from h.in_step.states.distinct h.in_step.states.near_valid
        (own_none (IsKnown O both_counts) (λ j. named_by O i j past) i (named_by O i i (past ++ rest)) h.site_ahead h.raw a.site.named h.up_inherits h.raw_named
        (λ n known own. own_known O L i (named_by O i i (past ++ rest)) (λ j. named_by O i j past) n h.positive own known))
        (since_self (IsKnown O both_counts) h.from))

    -- and the star's
    star_since : Since (IsKnown O both_counts) h.from held
    star_since = subst (λ z. Since (IsKnown O both_counts) h.from z) (sym h.in_step.states.far_is)
        (since_all (IsKnown O both_counts) h.from h.from_known h.star_ahead h.from h.in_step.states.distinct h.in_step.states.far_valid
        (others_none (IsKnown O both_counts) i past rest h.star_ahead h.rest_named h.down_inherits
        (λ n j known positive foreign of. other_known O L i (named_by O i i (past ++ rest)) j (λ k. named_by O i k past) n positive foreign of known))
        (since_self (IsKnown O both_counts) h.from))

    -- a name that each of them knows is one that both know
    both_know : (n : O.t.Name) → IsKnown O site_counts n → IsKnown O star_counts n → IsKnown O both_counts n
    both_know n (inl z) there = inl z
    both_know n (inr m) (inl z) = inl z
    both_know n (inr m) (inr k) = inr (cases (nat_eq (O.site_of n) i) refl m)
      where
        cases : (b : Bool) → nat_eq (O.site_of n) i ≡ b → O.number_of n ≤ cond b a.site.named (named_by O i (O.site_of n) past)
            → O.number_of n ≤ cond b (named_by O i i (past ++ rest)) (named_by O i (O.site_of n) past)
        cases true e low = subst (λ s. O.number_of n ≤ named_by O i s (past ++ rest)) (eqb-true (O.site_of n) i e) k
        cases false e low = low

    -- so both show in one order what both show
    pub pair_order : HoldsKnown O star_counts held → O.t.keeps_order a.site.board held
    pair_order known = L.keeps.order_chain a.site.board h.from held (symmetric h.from a.site.board site_since.order) star_since.order
        (λ n here there. star_since.none_back n (both_know n (h.board_known n here) (known n there)) there)

    -- If the site has received all that the star sent, each name that the star knows and the site shows the star shows,
    pub told_all : h.star_ahead ≡ [] → HoldsKnown O star_counts held → Since (IsKnown O star_counts) held a.site.board
    told_all none known =
        let is : held ≡ h.from = h.in_step.states.far_is ∙ ap (λ bs. after_all O.t bs h.from) none in
        subst (λ x. Since (IsKnown O star_counts) x a.site.board) (sym is) (subst (λ z. Since (IsKnown O star_counts) h.from z) (sym h.in_step.states.near_is)
        (since_all (IsKnown O star_counts) h.from (λ n x. known n (subst (λ y. O.t.holds y n) (sym is) x)) h.site_ahead h.from h.in_step.states.distinct h.in_step.states.near_valid
        (own_none (IsKnown O star_counts) (λ j. named_by O i j past) i (named_by O i i (past ++ rest)) h.site_ahead h.raw a.site.named h.up_inherits h.raw_named own)
        (since_self (IsKnown O star_counts) h.from)))
      where
        own : (n : O.t.Name) → IsKnown O star_counts n → O.site_of n ≡ i → O.number_of n ≤ named_by O i i (past ++ rest)
        own n (inl z) e = (let positive = h.positive in absurd (omega arith))
        own n (inr m) e = subst (λ s. O.number_of n ≤ named_by O i s (past ++ rest)) e m

    -- and if no entry of another site is left to come, the site knows what the star knows.
    pub knows_all : others rest ≡ [] → (n : O.t.Name) → IsKnown O star_counts n → IsKnown O site_counts n
    knows_all none n (inl z) = inl z
    knows_all none n (inr m) = inr (cases (nat_eq (O.site_of n) i) refl)
      where
        cases : (b : Bool) → nat_eq (O.site_of n) i ≡ b → O.number_of n ≤ cond b a.site.named (named_by O i (O.site_of n) past)
        cases true e =
            let last = raw_last O L (λ j. named_by O i j past) i (named_by O i i (past ++ rest)) h.raw a.site.named h.raw_named in
            let low : O.number_of n ≤ named_by O i i (past ++ rest) = subst (λ s. O.number_of n ≤ named_by O i s (past ++ rest)) (eqb-true (O.site_of n) i e) m in
            omega arith
        cases false e =
            let apart : nat_eq i (O.site_of n) ≡ false = ne_eqb i (O.site_of n) (λ same. Rattle.std.proofs.lemmas.Bool.eqb-false (O.site_of n) i e (sym same)) in
            omega (arith, m, named_by-append O L i (O.site_of n) past rest, none_named i (O.site_of n) rest none apart)

    -- If the star has received all that the site sent, it knows what the site shows.
    pub sent_all : h.site_ahead ≡ [] → (n : O.t.Name) → O.t.holds a.site.board n → IsKnown O star_counts n
    sent_all none n held_there =
        known_more O L site_counts star_counts n
        (own_counts-below O L i a.site.named (λ j. named_by O i j past) star_counts (omega (arith, all h.raw (subst (λ os. Inherits O os h.raw) none h.up_inherits) h.raw_named))
        (λ j. omega (arith, named_by-append O L i j past rest)))
        (h.board_known n held_there)
      where
        all : (raw : List O.Edit) → Inherits O [] raw → RawNamed O (λ j. named_by O i j past) i (named_by O i i (past ++ rest)) raw a.site.named → named_by O i i (past ++ rest) ≡ a.site.named
        all [] g r = r
        all (e ∷ es) g r = absurd g

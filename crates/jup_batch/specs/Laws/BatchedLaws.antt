-- Batches of lawful operations are lawful
use Rattle.std.proofs.Common.{◌≡◌, ℕ, suc, ◌+◌, ◌<◌, ◌≤◌, Bool, true, false, ◌&&◌, List, [], ◌∷◌, length, refl, ap, sym, ◌∙◌, ◌⊎◌, inl, inr, Ok, Err, arith}
use Rattle.std.specs.Prelude.{Result, nat_le, if◌then◌else◌}
use Rattle.std.proofs.lemmas.Bool.{and_parts, and_from, or_from, leb-true, le-leb}
use Rattle.jup_batch.specs.Prelude.{most_operations, AreValid, edits, BatchInserts as Inserts, IsValidBatch, map_ok, and_then_ok, Operations, AreLawful, EditFault}
use Rattle.jup_xform.specs.Batches.{EachTo, EachPair, EachLater, Deletes, Changes}
use Rattle.jup_xform.specs.Laws.Batches.{batches_are_lawful, batches_keep_meaning}
use Rattle.jup_batch.specs.Batched.{AreKnown, all_insertions, bear_next, one_bears_site, one_is_nothing, operations_of, is_batch, batch_of, each_accepted, all_fresh, each_fresh, batch_accepts, batched, AreBatchable}
use Rattle.jup_window.specs.declared.faults.EditFault.TheVariants.{BadBatch}

module _ (O : Operations) (L : AreLawful O) where
  -- what the tests decide

  valid_each : (os : List O.Op) (x : O.State) → each_accepted O os x ≡ true → AreValid O.t os x
  valid_each [] x h = tt
  valid_each (o ∷ os) x h =
      let parts = and_parts (O.accepts o x) (each_accepted O os (O.t.after o x)) h in
      ((L.decides o x).0 parts.0, valid_each os (O.t.after o x) parts.1)

  accepted_each : (os : List O.Op) (x : O.State) → AreValid O.t os x → each_accepted O os x ≡ true
  accepted_each [] x v = refl
  accepted_each (o ∷ os) x v =
      and_from (O.accepts o x) (each_accepted O os (O.t.after o x)) ((L.decides o x).1 v.0) (accepted_each os (O.t.after o x) v.1)

  -- the length of a batch
  pub batch_length : (n : ℕ) → is_batch O n ≡ true → (1 ≤ n) × (n ≤ most_operations)
  batch_length n h = let parts = and_parts (nat_le 1 n) (nat_le n most_operations) h in (leb-true 1 n parts.0, leb-true n most_operations parts.1)

  pub length_batch : (n : ℕ) → 1 ≤ n → n ≤ most_operations → is_batch O n ≡ true
  length_batch n some few = and_from (nat_le 1 n) (nat_le n most_operations) (le-leb 1 n some) (le-leb n most_operations few)

  -- names

  apart_to : (cs : List O.Op) (s : O.Op)
      → ((m n : O.t.Name) → Inserts O.t (edits O.t cs) m → O.t.inserts (O.t.edit_of s) n → O.site_of m ≡ O.site_of n → ⊥) → EachTo O.t.are_apart cs s
  apart_to [] s h = tt
  apart_to (c ∷ cs) s h = (L.apart_from_sites c s (λ m n i j. h m n (inl i) j), apart_to cs s (λ m n i j. h m n (inr i) j))

  apart_each : (cs ss : List O.Op)
      → ((m n : O.t.Name) → Inserts O.t (edits O.t cs) m → Inserts O.t (edits O.t ss) n → O.site_of m ≡ O.site_of n → ⊥) → EachPair O.t.are_apart cs ss
  apart_each cs [] h = tt
  apart_each cs (s ∷ ss) h = (apart_to cs s (λ m n i j. h m n i (inl j)), apart_each cs ss (λ m n i j. h m n i (inr j)))

  next_site_all : (i k : ℕ) (es : List O.Edit) (n : O.t.Name) → bear_next O i k es ≡ true → Inserts O.t es n → O.site_of n ≡ i
  next_site_all i k [] n b put = absurd put
  next_site_all i k (e ∷ es) n b (inl put) = L.next_site i k e n (and_parts (O.bears_next i k e) (bear_next O i (k + O.insertions e) es) b).0 put
  next_site_all i k (e ∷ es) n b (inr put) = next_site_all i (k + O.insertions e) es n (and_parts (O.bears_next i k e) (bear_next O i (k + O.insertions e) es) b).1 put

  next_above_all : (i k : ℕ) (es : List O.Edit) (n : O.t.Name) → bear_next O i k es ≡ true → Inserts O.t es n → k < O.number_of n
  next_above_all i k [] n b put = absurd put
  next_above_all i k (e ∷ es) n b (inl put) = L.next_above i k e n (and_parts (O.bears_next i k e) (bear_next O i (k + O.insertions e) es) b).0 put
  next_above_all i k (e ∷ es) n b (inr put) =
      let above = next_above_all i (k + O.insertions e) es n (and_parts (O.bears_next i k e) (bear_next O i (k + O.insertions e) es) b).1 put in omega (arith, above)

  next_within_all : (i k : ℕ) (es : List O.Edit) (n : O.t.Name) → bear_next O i k es ≡ true → Inserts O.t es n → O.number_of n ≤ k + all_insertions O es
  next_within_all i k [] n b put = absurd put
  next_within_all i k (e ∷ es) n b (inl put) =
      let within = L.next_within i k e n (and_parts (O.bears_next i k e) (bear_next O i (k + O.insertions e) es) b).0 put in omega (arith, within)
  next_within_all i k (e ∷ es) n b (inr put) =
      let within = next_within_all i (k + O.insertions e) es n (and_parts (O.bears_next i k e) (bear_next O i (k + O.insertions e) es) b).1 put in omega (arith, within)

  not_of_site_all : (i : ℕ) (es : List O.Edit) → ((n : O.t.Name) → Inserts O.t es n → O.site_of n ≡ i → ⊥) → one_bears_site O i es ≡ false
  not_of_site_all i [] h = refl
  not_of_site_all i (e ∷ es) h =
      or_from (O.bears_site i e) (one_bears_site O i es) (L.not_of_site i e (λ n put. h n (inl put))) (not_of_site_all i es (λ n put. h n (inr put)))

  -- commands

  -- the first command of a batch and the rest
  pub record Stepped (x : O.State) (c : O.Command) (cs : List O.Command) (i k : ℕ) (ops : List O.Op) : Type 0 where
    pub op : O.Op
    pub rest : List O.Op
    pub is : ops ≡ op ∷ rest
    pub first : O.operation_of x c i k ≡ Ok op
    pub more : operations_of O (O.t.after op x) cs i (k + O.insertions (O.t.edit_of op)) ≡ Ok rest

  rest_stepped : (x : O.State) (c : O.Command) (cs : List O.Command) (i k : ℕ) (ops : List O.Op) (op : O.Op) (r : Result (List O.Op) EditFault)
      → O.operation_of x c i k ≡ Ok op → operations_of O (O.t.after op x) cs i (k + O.insertions (O.t.edit_of op)) ≡ r
      → map_ok (λ os. op ∷ os) r ≡ Ok ops → Stepped x c cs i k ops
  rest_stepped x c cs i k ops op (Err n) first more e = absurd cc
  rest_stepped x c cs i k ops op (Ok rest) first more e =
      let is : op ∷ rest ≡ ops = cc in record { op = op; rest = rest; is = sym is; first = first; more = more }

  first_stepped : (x : O.State) (c : O.Command) (cs : List O.Command) (i k : ℕ) (ops : List O.Op) (r : Result O.Op EditFault) → O.operation_of x c i k ≡ r
      → and_then_ok (λ op. map_ok (λ os. op ∷ os) (operations_of O (O.t.after op x) cs i (k + O.insertions (O.t.edit_of op)))) r ≡ Ok ops → Stepped x c cs i k ops
  first_stepped x c cs i k ops (Err n) first e = absurd cc
  first_stepped x c cs i k ops (Ok op) first e =
      rest_stepped x c cs i k ops op (operations_of O (O.t.after op x) cs i (k + O.insertions (O.t.edit_of op))) first refl e

  pub stepped : (x : O.State) (c : O.Command) (cs : List O.Command) (i k : ℕ) (ops : List O.Op) → operations_of O x (c ∷ cs) i k ≡ Ok ops → Stepped x c cs i k ops
  stepped x c cs i k ops e = first_stepped x c cs i k ops (O.operation_of x c i k) refl e

  pub none_stepped : (ops : List O.Op) → ◌≡◌ {A = Result (List O.Op) EditFault} (Ok []) (Ok ops) → ops ≡ []
  none_stepped ops e = let is : [] ≡ ops = cc in sym is

  -- as many operations as commands
  pub length_operations : (x : O.State) (cs : List O.Command) (i k : ℕ) (ops : List O.Op) → operations_of O x cs i k ≡ Ok ops → length ops ≡ length cs
  length_operations x [] i k ops e = ap (λ os. length os) (none_stepped ops e)
  length_operations x (c ∷ cs) i k ops e =
      let s = stepped x c cs i k ops e in
      ap (λ os. length os) s.is ∙ ap suc (length_operations (O.t.after s.op x) cs i (k + O.insertions (O.t.edit_of s.op)) s.rest s.more)

  -- they bear the next names in order
  pub next_all : (x : O.State) (cs : List O.Command) (i k : ℕ) (ops : List O.Op) → operations_of O x cs i k ≡ Ok ops → bear_next O i k (edits O.t ops) ≡ true
  next_all x [] i k ops e = ap (λ os. bear_next O i k (edits O.t os)) (none_stepped ops e)
  next_all x (c ∷ cs) i k ops e =
      let s = stepped x c cs i k ops e in
      ap (λ os. bear_next O i k (edits O.t os)) s.is
      ∙ and_from (O.bears_next i k (O.t.edit_of s.op)) (bear_next O i (k + O.insertions (O.t.edit_of s.op)) (edits O.t s.rest)) (L.command_next x c i k s.op s.first)
      (next_all (O.t.after s.op x) cs i (k + O.insertions (O.t.edit_of s.op)) s.rest s.more)

  -- none is nothing
  something_all : (x : O.State) (cs : List O.Command) (i k : ℕ) (ops : List O.Op) → operations_of O x cs i k ≡ Ok ops → one_is_nothing O (edits O.t ops) ≡ false
  something_all x [] i k ops e = ap (λ os. one_is_nothing O (edits O.t os)) (none_stepped ops e)
  something_all x (c ∷ cs) i k ops e =
      let s = stepped x c cs i k ops e in
      ap (λ os. one_is_nothing O (edits O.t os)) s.is
      ∙ or_from (O.is_nothing (O.t.edit_of s.op)) (one_is_nothing O (edits O.t s.rest)) (L.command_edit x c i k s.op s.first)
      (something_all (O.t.after s.op x) cs i (k + O.insertions (O.t.edit_of s.op)) s.rest s.more)

  pub known_after : (x : O.State) (i k : ℕ) (op : O.Op) → AreKnown O x i k → O.t.is_valid op x → O.bears_next i k (O.t.edit_of op) ≡ true
      → AreKnown O (O.t.after op x) i (k + O.insertions (O.t.edit_of op))
  known_after x i k op known valid next n held own =
      elim (L.keeps.held_before x op n valid held) [
        | inl before ↦ (let low = known n before own in omega (arith, low))
        | inr put ↦ L.next_within i k (O.t.edit_of op) n next put
      ]

  pub valid_all : (x : O.State) (cs : List O.Command) (i k : ℕ) (ops : List O.Op) → AreKnown O x i k
      → operations_of O x cs i k ≡ Ok ops → AreValid O.t ops x
  valid_all x [] i k ops known e = rw (none_stepped ops e) tt
  valid_all x (c ∷ cs) i k ops known e =
      let s = stepped x c cs i k ops e in
      let valid : O.t.is_valid s.op x = L.command_accepted x c i k s.op known s.first in
      let known_next = known_after x i k s.op known valid (L.command_next x c i k s.op s.first) in
      rw s.is (valid, valid_all (O.t.after s.op x) cs i (k + O.insertions (O.t.edit_of s.op)) s.rest known_next s.more)

module _ (O : Operations) (L : AreLawful O) (fresh : O.Op → O.Op → Bool) (B : AreBatchable O fresh) where
  fresh_to : (os : List O.Op) (e : O.Op) → all_fresh O fresh os e ≡ true → EachTo O.t.is_fresh os e
  fresh_to [] e h = tt
  fresh_to (o ∷ os) e h = let parts = and_parts (fresh o e) (all_fresh O fresh os e) h in ((B.fresh_decides o e).0 parts.0, fresh_to os e parts.1)

  to_fresh : (os : List O.Op) (e : O.Op) → EachTo O.t.is_fresh os e → all_fresh O fresh os e ≡ true
  to_fresh [] e h = refl
  to_fresh (o ∷ os) e h = and_from (fresh o e) (all_fresh O fresh os e) ((B.fresh_decides o e).1 h.0) (to_fresh os e h.1)

  fresh_later : (os : List O.Op) → each_fresh O fresh os ≡ true → EachLater O.t.is_fresh os
  fresh_later [] h = tt
  fresh_later (o ∷ os) h = let parts = and_parts (all_fresh O fresh os o) (each_fresh O fresh os) h in (fresh_to os o parts.0, fresh_later os parts.1)

  later_fresh : (os : List O.Op) → EachLater O.t.is_fresh os → each_fresh O fresh os ≡ true
  later_fresh [] h = refl
  later_fresh (o ∷ os) h = and_from (all_fresh O fresh os o) (each_fresh O fresh os) (to_fresh os o h.0) (later_fresh os h.1)

  pub batch_valid : (os : List O.Op) (x : O.State) → batch_accepts O fresh os x ≡ true → IsValidBatch O.t os x
  batch_valid os x h =
      let parts = and_parts (is_batch O (length os)) (each_accepted O os x && each_fresh O fresh os) h in
      let rest = and_parts (each_accepted O os x) (each_fresh O fresh os) parts.1 in
      let long = batch_length O L (length os) parts.0 in
      record { some = long.0; few = long.1; valid = valid_each O L os x rest.0; fresh = fresh_later os rest.1 }

  pub valid_batch : (os : List O.Op) (x : O.State) → IsValidBatch O.t os x → batch_accepts O fresh os x ≡ true
  valid_batch os x v =
      and_from (is_batch O (length os)) (each_accepted O os x && each_fresh O fresh os) (length_batch O L (length os) v.some v.few)
      (and_from (each_accepted O os x) (each_fresh O fresh os) (accepted_each O L os x v.valid) (later_fresh os v.fresh))

  -- freshness from names
  from_names_to : (os : List O.Op) (e : O.Op)
      → ((m n : O.t.Name) → Inserts O.t (edits O.t os) m → O.t.inserts (O.t.edit_of e) n ⊎ O.t.deletes (O.t.edit_of e) n → O.site_of m ≡ O.site_of n → O.number_of m ≡ O.number_of n → ⊥)
      → EachTo O.t.is_fresh os e
  from_names_to [] e h = tt
  from_names_to (o ∷ os) e h = (B.fresh_from_names o e (λ m n i j. h m n (inl i) j), from_names_to os e (λ m n i j. h m n (inr i) j))

  -- the first edit, or the rest
  touch_first : (e : O.Edit) (es : List O.Edit) (n : O.t.Name) → O.t.inserts e n ⊎ O.t.deletes e n → Inserts O.t (e ∷ es) n ⊎ Deletes O.t (e ∷ es) n
  touch_first e es n (inl i) = inl (inl i)
  touch_first e es n (inr d) = inr (inl d)

  touch_rest : (e : O.Edit) (es : List O.Edit) (n : O.t.Name) → Inserts O.t es n ⊎ Deletes O.t es n → Inserts O.t (e ∷ es) n ⊎ Deletes O.t (e ∷ es) n
  touch_rest e es n (inl i) = inl (inr i)
  touch_rest e es n (inr d) = inr (inr d)

  from_names : (os es : List O.Op)
      → ((m n : O.t.Name) → Inserts O.t (edits O.t os) m → Inserts O.t (edits O.t es) n ⊎ Deletes O.t (edits O.t es) n → O.site_of m ≡ O.site_of n → O.number_of m ≡ O.number_of n → ⊥)
      → EachPair O.t.is_fresh os es
  from_names os [] h = tt
  from_names os (e ∷ es) h = (
    from_names_to os e (λ m n i j. h m n i (touch_first (O.t.edit_of e) (edits O.t es) n j)),
    from_names os es (λ m n i j. h m n i (touch_rest (O.t.edit_of e) (edits O.t es) n j)),
  )

  deletes_changes_all : (es : List O.Edit) (n : O.t.Name) → Deletes O.t es n → Changes O.t es n
  deletes_changes_all [] n d = absurd d
  deletes_changes_all (e ∷ es) n (inl d) = inl (B.deletes_changes e n d)
  deletes_changes_all (e ∷ es) n (inr d) = inr (deletes_changes_all es n d)

  -- what a command's operation inserts or deletes is not above the count after it, if it is of the site
  touched_below : (x : O.State) (i k : ℕ) (op : O.Op) (n : O.t.Name) → AreKnown O x i k → O.t.is_valid op x → O.bears_next i k (O.t.edit_of op) ≡ true
      → O.t.inserts (O.t.edit_of op) n ⊎ O.t.deletes (O.t.edit_of op) n → O.site_of n ≡ i → O.number_of n ≤ k + O.insertions (O.t.edit_of op)
  touched_below x i k op n known valid next (inl put) own = L.next_within i k (O.t.edit_of op) n next put
  touched_below x i k op n known valid next (inr gone) own =
      elim (L.keeps.changes_held x op n valid (B.deletes_changes (O.t.edit_of op) n gone)) [
        | inl held ↦ (let low = known n held own in omega (arith, low))
        | inr put ↦ L.next_within i k (O.t.edit_of op) n next put
      ]

  pub fresh_all : (x : O.State) (cs : List O.Command) (i k : ℕ) (ops : List O.Op) → AreKnown O x i k
      → operations_of O x cs i k ≡ Ok ops → EachLater O.t.is_fresh ops
  fresh_all x [] i k ops known e = rw (none_stepped O L ops e) tt
  fresh_all x (c ∷ cs) i k ops known e =
      let s = stepped O L x c cs i k ops e in
      let valid : O.t.is_valid s.op x = L.command_accepted x c i k s.op known s.first in
      let next : O.bears_next i k (O.t.edit_of s.op) ≡ true = L.command_next x c i k s.op s.first in
      let later = next_all O L (O.t.after s.op x) cs i (k + O.insertions (O.t.edit_of s.op)) s.rest s.more in
      let head : EachTo O.t.is_fresh s.rest s.op = from_names_to s.rest s.op (λ m n put touched site number.
      let own = next_site_all O L i (k + O.insertions (O.t.edit_of s.op)) (edits O.t s.rest) m later put in
      let above = next_above_all O L i (k + O.insertions (O.t.edit_of s.op)) (edits O.t s.rest) m later put in
      let below = touched_below x i k s.op n known valid next touched (sym site ∙ own) in
      absurd (omega (arith, above, below, number))) in
      let tail : EachLater O.t.is_fresh s.rest = fresh_all (O.t.after s.op x) cs i (k + O.insertions (O.t.edit_of s.op)) s.rest (known_after O L x i k s.op known valid next) s.more in
      rw s.is (head, tail)

  -- a batch that is not refused
  of_batch : (x : O.State) (cs : List O.Command) (i k : ℕ) (ops : List O.Op) (b : Bool) → is_batch O (length cs) ≡ b
      → (if b then operations_of O x cs i k else Err BadBatch) ≡ Ok ops → (is_batch O (length cs) ≡ true) × (operations_of O x cs i k ≡ Ok ops)
  of_batch x cs i k ops true is e = (is, e)
  of_batch x cs i k ops false is e = absurd cc

  pub batch_accepted : (x : O.State) (cs : List O.Command) (i k : ℕ) (ops : List O.Op) → AreKnown O x i k
      → batch_of O x cs i k ≡ Ok ops → IsValidBatch O.t ops x
  batch_accepted x cs i k ops known e =
      let made = of_batch x cs i k ops (is_batch O (length cs)) refl e in
      let long = batch_length O L (length cs) made.0 in
      let same = length_operations O L x cs i k ops made.1 in
      record {
        some = rw same long.0;
        few = rw same long.1;
        valid = valid_all O L x cs i k ops known made.1;
        fresh = fresh_all x cs i k ops known made.1;
      }

  -- batches have every law that their operations have
  pub batched_laws : AreLawful (batched O fresh)
  batched_laws = record {
    lawful = batches_are_lawful O.t L.lawful B.kept;
    keeps = batches_keep_meaning O.t L.lawful L.keeps;
    decides = λ os x. (batch_valid os x, valid_batch os x);
    apart_from_sites = apart_each O L;
    next_site = next_site_all O L;
    next_above = next_above_all O L;
    next_within = next_within_all O L;
    not_of_site = not_of_site_all O L;
    command_accepted = batch_accepted;
    command_next = λ x cs i k ops e. next_all O L x cs i k ops (of_batch x cs i k ops (is_batch O (length cs)) refl e).1;
    command_edit = λ x cs i k ops e. something_all O L x cs i k ops (of_batch x cs i k ops (is_batch O (length cs)) refl e).1;
  }

-- The laws of batches.
use Rattle.std.proofs.Common.{◌≡◌, ℕ, ◌+◌, ◌-◌, ◌≤◌, ◌⊎◌, List, [], ◌∷◌, ◌++◌, length, refl, ap, suc, sym, ◌∙◌, arith, length-append, append-nil, append_assoc, inl, inr, ◌*◌, zero, subst}
use Rattle.jup_limits.specs.Limits.{most_operations}
use Rattle.jup_xform.specs.declared.Transform.{Ghosts}
use Rattle.jup_xform.specs.Rows.{SomeOf, row_operation, row_entries, grid_rows, grid_columns}
use Rattle.jup_xform.specs.Laws.Grids.{grid_columns-mirror, AreValid-append, after_all-append, small_less, GridCloses-push, GridCloses-nil, grid_rows-valid, grid_columns-valid, grid-after, small_after_all, small_before_all, row_operation-append, distinct_after_all}
use Rattle.jup_xform.specs.Grids.{after_all, AreValid, AllApart, GridCloses, IsLawful, KeepsFresh, KeepsMeaning}
use Rattle.jup_xform.specs.Batches.{before_last, EachTo, EachPair, EachLater, joined, IsValidBatch, is_small_batch, batch_client_past, batch_server_past, edits, Inserts, Changes, batch_meaning, Deletes, HaveRoom, has_batch_room, shapes, batches}

-- The laws of batches that speak of no edits: pairs of operations, smallness, and the square of two batches.

-- members of lists
module _ {A : Type 0} (P : A → Type 0) where
  pub SomeOf-left : (xs ys : List A) → SomeOf P xs → SomeOf P (xs ++ ys)
  SomeOf-left [] ys h = absurd h
  SomeOf-left (x ∷ xs) ys (inl h) = inl h
  SomeOf-left (x ∷ xs) ys (inr h) = inr (SomeOf-left xs ys h)

  pub SomeOf-append : (xs ys : List A) → SomeOf P (xs ++ ys) → SomeOf P xs ⊎ SomeOf P ys
  SomeOf-append [] ys h = inr h
  SomeOf-append (x ∷ xs) ys (inl h) = inl (inl h)
  SomeOf-append (x ∷ xs) ys (inr h) = elim (SomeOf-append xs ys h) [ inl a ↦ inl (inr a) | inr b ↦ inr b ]

  pub SomeOf-joined : (xss : List (List A)) → SomeOf P (joined xss) → SomeOf (λ xs. SomeOf P xs) xss
  SomeOf-joined [] h = absurd h
  SomeOf-joined (xs ∷ xss) h = elim (SomeOf-append xs (joined xss) h) [ inl a ↦ inl a | inr b ↦ inr (SomeOf-joined xss b) ]

pub joined-append : {A : Type 0} (xss yss : List (List A)) → joined (xss ++ yss) ≡ joined xss ++ joined yss
joined-append [] yss = refl
joined-append (xs ∷ xss) yss = ap (λ rest. xs ++ rest) (joined-append xss yss) ∙ sym (append_assoc xs (joined xss) (joined yss))

-- a relation that a transform keeps is kept by a grid
module _ {Op : Type 0} (R : Op → Op → Type 0) (past other : Op → Op → Op) where
  row_left : ((c s o : Op) → R c o → R (past c s) o) → (c : Op) (ss : List Op) (o : Op) → R c o → R (row_operation past c ss) o
  row_left kept c [] o r = r
  row_left kept c (s ∷ ss) o r = row_left kept (past c s) ss o (kept c s o r)

  row_right : ((c s o : Op) → R o c → R o (past c s)) → (c : Op) (ss : List Op) (o : Op) → R o c → R o (row_operation past c ss)
  row_right kept c [] o r = r
  row_right kept c (s ∷ ss) o r = row_right kept (past c s) ss o (kept c s o r)

  EachTo-rows : ((c s o : Op) → R c o → R (past c s) o) → (cs ss : List Op) (o : Op) → EachTo R cs o → EachTo R (grid_rows past other cs ss) o
  EachTo-rows kept [] ss o r = tt
  EachTo-rows kept (c ∷ cs) ss o r = (row_left kept c ss o r.0, EachTo-rows kept cs (row_entries past other c ss) o r.1)

  EachTo-row : ((c s o : Op) → R o c → R o (past c s)) → (os : List Op) (c : Op) (ss : List Op) → EachTo R os c → EachTo R os (row_operation past c ss)
  EachTo-row kept [] c ss r = tt
  EachTo-row kept (o ∷ os) c ss r = (row_right kept c ss o r.0, EachTo-row kept os c ss r.1)

  pub EachPair-left : ((c s o : Op) → R c o → R (past c s) o) → (cs ss os : List Op) → EachPair R cs os → EachPair R (grid_rows past other cs ss) os
  EachPair-left kept cs ss [] r = tt
  EachPair-left kept cs ss (o ∷ os) r = (EachTo-rows kept cs ss o r.0, EachPair-left kept cs ss os r.1)

  pub EachPair-right : ((c s o : Op) → R o c → R o (past c s)) → (cs ss os : List Op) → EachPair R os cs → EachPair R os (grid_rows past other cs ss)
  EachPair-right kept [] ss os r = tt
  EachPair-right kept (c ∷ cs) ss os r = (EachTo-row kept os c ss r.0, EachPair-right kept cs (row_entries past other c ss) os r.1)

  pub EachLater-rows : ((c s o : Op) → R c o → R (past c s) o) → ((c s o : Op) → R o c → R o (past c s))
      → (cs ss : List Op) → EachLater R cs → EachLater R (grid_rows past other cs ss)
  EachLater-rows left right [] ss r = tt
  EachLater-rows left right (c ∷ cs) ss r =
      let past_ss = row_entries past other c ss in
      (EachTo-rows left cs past_ss (row_operation past c ss) (EachTo-row right cs c ss r.0), EachLater-rows left right cs past_ss r.1)

  pub length-grid_rows : (cs ss : List Op) → length (grid_rows past other cs ss) ≡ length cs
  length-grid_rows [] ss = refl
  length-grid_rows (c ∷ cs) ss = ap suc (length-grid_rows cs (row_entries past other c ss))

-- the pairs, taken the other way round
module _ {Op : Type 0} (R Q : Op → Op → Type 0) (turn : (c s : Op) → R c s → Q s c) where
  EachPair-cons : (cs : List Op) (s : Op) (ss : List Op) → EachTo R cs s → EachPair Q ss cs → EachPair Q (s ∷ ss) cs
  EachPair-cons [] s ss r q = tt
  EachPair-cons (c ∷ cs) s ss r q = ((turn c s r.0, q.0), EachPair-cons cs s ss r.1 q.1)

  EachPair-none : (cs : List Op) → EachPair Q [] cs
  EachPair-none [] = tt
  EachPair-none (c ∷ cs) = (tt, EachPair-none cs)

  pub EachPair-swap : (cs ss : List Op) → EachPair R cs ss → EachPair Q ss cs
  EachPair-swap cs [] r = EachPair-none cs
  EachPair-swap cs (s ∷ ss) r = EachPair-cons cs s ss r.0 (EachPair-swap cs ss r.1)

module _ {Op State Edit : Type 0} (t : Ghosts Op State Edit) where
  AllApart-each : (cs : List Op) (s : Op) → EachTo t.are_apart cs s → AllApart t cs s
  AllApart-each [] s r = tt
  AllApart-each (c ∷ cs) s r = (r.0, AllApart-each cs s r.1)

-- smallness
module _ {Op State Edit : Type 0} (t : Ghosts Op State Edit) (lawful : IsLawful t) where
  pub small_from : (m k : ℕ) (x : State) → m ≤ k → t.is_small k x → t.is_small m x
  small_from m k x l small =
      let e : k ≡ (k - m) + m = omega arith in
      small_less t lawful (k - m) m x (rw e at small)

  -- a grid closes if the state is small by all its operations but one
  GridCloses-within : (m : ℕ) (cs done ss : List Op) (x : State)
      → t.is_distinct x → t.is_small m x → length cs + length done + length ss ≤ m + 1 → AreValid t cs x → AreValid t done x
      → AreValid t ss (after_all t done x) → EachPair t.are_apart cs ss
      → GridCloses t cs done x → GridCloses t cs (done ++ ss) x
  GridCloses-within m cs done [] x d small l vc vd vs a g = rw append-nil g
  GridCloses-within m cs done (s ∷ ss) x d small l vc vd vs a g =
      let with_s : List Op = done ++ s ∷ [] in
      let fits : length cs + length done ≤ m = omega (arith, l) in
      let small_d : t.is_small (length cs + length done) x = small_from (length cs + length done) m x fits small in
      let within : length cs + length with_s + length ss ≤ m + 1 = omega (arith, length-append done (s ∷ []), l) in
      let valid_with : AreValid t with_s x = AreValid-append t done (s ∷ []) x vd (vs.0, tt) in
      let valid_ss : AreValid t ss (after_all t with_s x) = rw after_all-append vs.1 in
      let wider : GridCloses t cs with_s x = GridCloses-push t lawful cs done s x d small_d vc vd vs.0 (AllApart-each t cs s a.0) g in
      rw append_assoc at (GridCloses-within m cs with_s ss x d small within vc valid_with valid_ss a.1 wider)

  pub GridCloses-batches : (cs ss : List Op) (x : State) → t.is_distinct x → is_small_batch t 1 x → IsValidBatch t cs x → IsValidBatch t ss x
      → EachPair t.are_apart cs ss → GridCloses t cs ss x
  GridCloses-batches cs ss x d small vc vs a =
      let within : length cs + length {A = Op} [] + length ss ≤ before_last 1 + 1 = omega (arith, vc.few, vs.few) in
      GridCloses-within (before_last 1) cs [] ss x d small within vc.valid tt vs.valid a (GridCloses-nil t cs x)

  pub batch_small_after : (n : ℕ) (x : State) (os : List Op) → is_small_batch t (n + 1) x → IsValidBatch t os x → is_small_batch t n (after_all t os x)
  batch_small_after n x os small v =
      let fits : before_last n + length os ≤ before_last (n + 1) = omega (arith, v.few) in
      small_after_all t lawful (before_last n) os x (small_from (before_last n + length os) (before_last (n + 1)) x fits small) v.valid

  pub batch_small_below : (n : ℕ) (x : State) → is_small_batch t (n + 1) x → is_small_batch t n x
  batch_small_below n x small = small_from (before_last n) (before_last (n + 1)) x (omega arith) small

  pub batch_small_before : (n : ℕ) (x : State) (os : List Op) → IsValidBatch t os x → is_small_batch t (n + 1) (after_all t os x) → is_small_batch t n x
  batch_small_before n x os v small =
      let fits : before_last n + length os ≤ before_last (n + 1) = omega (arith, v.few) in
      small_before_all t lawful (before_last n) os x v.valid (small_from (before_last n + length os) (before_last (n + 1)) (after_all t os x) fits small)

-- the square of two batches
module _ {Op State Edit : Type 0} (t : Ghosts Op State Edit) (lawful : IsLawful t) (kept : KeepsFresh t) where
  pub batch_square : (x : State) (cs ss : List Op) → t.is_distinct x → is_small_batch t 1 x → IsValidBatch t cs x → IsValidBatch t ss x
      → EachPair t.are_apart cs ss
      → IsValidBatch t (batch_server_past t ss cs) (after_all t cs x) × IsValidBatch t (batch_client_past t cs ss) (after_all t ss x)
      × (after_all t (batch_server_past t ss cs) (after_all t cs x) ≡ after_all t (batch_client_past t cs ss) (after_all t ss x))
  batch_square x cs ss d small vc vs a =
      let closes : GridCloses t cs ss x = GridCloses-batches t lawful cs ss x d small vc vs a in
      let columns : grid_columns t.client_past t.server_past cs ss ≡ batch_server_past t ss cs = grid_columns-mirror t.client_past t.server_past cs ss in
      let length_s : length (batch_server_past t ss cs) ≡ length ss = length-grid_rows t.is_fresh t.server_past t.client_past ss cs in
      let length_c : length (batch_client_past t cs ss) ≡ length cs = length-grid_rows t.is_fresh t.client_past t.server_past cs ss in
      let valid_s : AreValid t (grid_columns t.client_past t.server_past cs ss) (after_all t cs x) = grid_columns-valid t cs ss x vs.valid closes in
      let meet : after_all t (grid_columns t.client_past t.server_past cs ss) (after_all t cs x) ≡ after_all t (batch_client_past t cs ss) (after_all t ss x) =
      grid-after t cs ss x closes in (
        record {
          some = rw length_s vs.some;
          few = rw length_s vs.few;
          valid = rw columns at valid_s;
          fresh = EachLater-rows t.is_fresh t.server_past t.client_past kept.fresh_server kept.fresh_of_server ss cs vs.fresh;
        },
        record {
          some = rw length_c vc.some;
          few = rw length_c vc.few;
          valid = grid_rows-valid t cs ss x vc.valid vs.valid closes;
          fresh = EachLater-rows t.is_fresh t.client_past t.server_past kept.fresh_client kept.fresh_of_client cs ss vc.fresh;
        },
        rw columns at meet,
      )

-- Edits of batches in a row: a batch past another means, after that one's edits, what it meant.

module _ {Op State Edit : Type 0} (t : Ghosts Op State Edit) where
  -- an operation is one of a server's past some of the client's
  pub record IsPast (s gone : Op) : Type 0 where
    pub past : List Op
    pub same : gone ≡ row_operation t.server_past s past

  abbrev pub ArePast : List Op → List Op → Type 0
  ArePast [] [] = Unit {0}
  ArePast [] (g ∷ gs) = ⊥
  ArePast (s ∷ ss) [] = ⊥
  ArePast (s ∷ ss) (g ∷ gs) = IsPast s g × ArePast ss gs

  ArePast-self : (ss : List Op) → ArePast ss ss
  ArePast-self [] = tt
  ArePast-self (s ∷ ss) = (record { past = []; same = refl }, ArePast-self ss)

  IsPast-row : (s g : Op) (cs : List Op) → IsPast s g → IsPast s (row_operation t.server_past g cs)
  IsPast-row s g cs p = record {
    past = p.past ++ cs;
    same = ap (λ o. row_operation t.server_past o cs) p.same ∙ sym (row_operation-append t.server_past s p.past cs);
  }

  ArePast-entries : (c : Op) (ss gs : List Op) → ArePast ss gs → ArePast ss (row_entries t.client_past t.server_past c gs)
  ArePast-entries c [] [] p = tt
  ArePast-entries c [] (g ∷ gs) p = absurd p
  ArePast-entries c (s ∷ ss) [] p = absurd p
  ArePast-entries c (s ∷ ss) (g ∷ gs) p = (IsPast-row s g (c ∷ []) p.0, ArePast-entries (t.client_past c g) ss gs p.1)

  ArePast-batch : (cs ss gs : List Op) → ArePast ss gs → ArePast ss (batch_server_past t gs cs)
  ArePast-batch cs [] [] p = tt
  ArePast-batch cs [] (g ∷ gs) p = absurd p
  ArePast-batch cs (s ∷ ss) [] p = absurd p
  ArePast-batch cs (s ∷ ss) (g ∷ gs) p = (IsPast-row s g cs p.0, ArePast-batch (row_entries t.server_past t.client_past g cs) ss gs p.1)

  ArePast-batches : (past : List (List Op)) (ss gs : List Op) → ArePast ss gs → ArePast ss (row_operation (batch_server_past t) gs past)
  ArePast-batches [] ss gs p = p
  ArePast-batches (cs ∷ past) ss gs p = ArePast-batches past ss (batch_server_past t gs cs) (ArePast-batch cs ss gs p)

module _ {Op State Edit : Type 0} (t : Ghosts Op State Edit) (keeps : KeepsMeaning t) where
  -- if the edits of a list come earlier, an operation past it means what it meant before
  row_edit_client : (c : Op) (ss gs : List Op) → ArePast t ss gs → (k : t.Content) (before between later : List Edit)
      → t.meaning k (before ++ (edits t ss ++ (between ++ t.edit_of (row_operation t.client_past c gs) ∷ later)))
      ≡ t.meaning k (before ++ (edits t ss ++ (between ++ t.edit_of c ∷ later)))
  row_edit_client c [] [] p k before between later = refl
  row_edit_client c [] (g ∷ gs) p k before between later = absurd p
  row_edit_client c (s ∷ ss) [] p k before between later = absurd p
  row_edit_client c (s ∷ ss) (g ∷ gs) p k before between later =
      let rest : t.meaning k ((before ++ t.edit_of s ∷ []) ++ (edits t ss ++ (between ++ t.edit_of (row_operation t.client_past (t.client_past c g) gs) ∷ later)))
      ≡ t.meaning k ((before ++ t.edit_of s ∷ []) ++ (edits t ss ++ (between ++ t.edit_of (t.client_past c g) ∷ later))) =
      row_edit_client (t.client_past c g) ss gs p.1 k (before ++ t.edit_of s ∷ []) between later in
      let one : t.meaning k (before ++ t.edit_of s ∷ ((edits t ss ++ between) ++ t.edit_of (t.client_past c (row_operation t.server_past s p.0.past)) ∷ later))
      ≡ t.meaning k (before ++ t.edit_of s ∷ ((edits t ss ++ between) ++ t.edit_of c ∷ later)) =
      keeps.edit_client c s p.0.past k before (edits t ss ++ between) later in
      let one_at : t.meaning k (before ++ t.edit_of s ∷ ((edits t ss ++ between) ++ t.edit_of (t.client_past c g) ∷ later))
      ≡ t.meaning k (before ++ t.edit_of s ∷ ((edits t ss ++ between) ++ t.edit_of c ∷ later)) = rw (← p.0.same) at one in
      (simp append_assoc at rest) ∙ (simp append_assoc at one_at)

  -- the same of each operation of a list
  list_edit_client : (cs ss gs : List Op) → ArePast t ss gs → (k : t.Content) (before between later : List Edit)
      → t.meaning k (before ++ (edits t ss ++ (between ++ (edits t (batch_client_past t cs gs) ++ later))))
      ≡ t.meaning k (before ++ (edits t ss ++ (between ++ (edits t cs ++ later))))
  list_edit_client [] ss gs p k before between later = refl
  list_edit_client (c ∷ cs) ss gs p k before between later =
      let past_gs : List Op = row_entries t.client_past t.server_past c gs in
      let rest : t.meaning k (before ++ (edits t ss ++ ((between ++ t.edit_of c ∷ []) ++ (edits t (batch_client_past t cs past_gs) ++ later))))
      ≡ t.meaning k (before ++ (edits t ss ++ ((between ++ t.edit_of c ∷ []) ++ (edits t cs ++ later)))) =
      list_edit_client cs ss past_gs (ArePast-entries t c ss gs p) k before (between ++ t.edit_of c ∷ []) later in
      row_edit_client c ss gs p k before between (edits t (batch_client_past t cs past_gs) ++ later) ∙ (simp append_assoc at rest)

  apart_past : (ss : List Op) (c s : Op) → IsLawful t → EachTo t.are_apart ss c → EachTo t.are_apart ss (t.client_past c s)
  apart_past [] c s lawful a = tt
  apart_past (o ∷ ss) c s lawful a = (lawful.apart_swap (t.client_past c s) o (lawful.apart_client c s o (lawful.apart_swap o c a.0)), apart_past ss c s lawful a.1)

  -- a client's edit followed by the server's past it means the server's followed by the client's
  row_edit_server : (c : Op) (ss : List Op) → EachTo t.are_apart ss c → IsLawful t → (k : t.Content) (before later : List Edit)
      → t.meaning k (before ++ t.edit_of c ∷ (edits t (row_entries t.client_past t.server_past c ss) ++ later))
      ≡ t.meaning k (before ++ (edits t ss ++ t.edit_of c ∷ later))
  row_edit_server c [] a lawful k before later = refl
  row_edit_server c (s ∷ ss) a lawful k before later =
      let past_c : Op = t.client_past c s in
      let past_ss : List Op = row_entries t.client_past t.server_past past_c ss in
      let swap = keeps.edit_server c s (lawful.apart_swap s c a.0) k before (edits t past_ss ++ later) in
      let back = sym (keeps.edit_client c s [] k before [] (edits t past_ss ++ later)) in
      let rest : t.meaning k ((before ++ t.edit_of s ∷ []) ++ t.edit_of past_c ∷ (edits t past_ss ++ later))
      ≡ t.meaning k ((before ++ t.edit_of s ∷ []) ++ (edits t ss ++ t.edit_of past_c ∷ later)) =
      row_edit_server past_c ss (apart_past ss c s lawful a.1) lawful k (before ++ t.edit_of s ∷ []) later in
      swap ∙ back ∙ (simp append_assoc at rest) ∙ keeps.edit_client c s [] k before (edits t ss) later

  apart_entries : (cs ss : List Op) (c : Op) → IsLawful t → EachPair t.are_apart ss cs → EachPair t.are_apart (row_entries t.client_past t.server_past c ss) cs
  apart_entries [] ss c lawful a = tt
  apart_entries (d ∷ cs) ss c lawful a = (each ss c d lawful a.0, apart_entries cs ss c lawful a.1)
    where
      each : (ss : List Op) (c d : Op) → IsLawful t → EachTo t.are_apart ss d → EachTo t.are_apart (row_entries t.client_past t.server_past c ss) d
      each [] c d lawful a = tt
      each (s ∷ ss) c d lawful a = (lawful.apart_server s c d a.0, each ss (t.client_past c s) d lawful a.1)

  list_edit_server : (cs ss : List Op) → EachPair t.are_apart ss cs → IsLawful t → (k : t.Content) (before later : List Edit)
      → t.meaning k (before ++ (edits t cs ++ (edits t (grid_columns t.client_past t.server_past cs ss) ++ later)))
      ≡ t.meaning k (before ++ (edits t ss ++ (edits t cs ++ later)))
  list_edit_server [] ss a lawful k before later = refl
  list_edit_server (c ∷ cs) ss a lawful k before later =
      let past_ss : List Op = row_entries t.client_past t.server_past c ss in
      let rest : t.meaning k ((before ++ t.edit_of c ∷ []) ++ (edits t cs ++ (edits t (grid_columns t.client_past t.server_past cs past_ss) ++ later)))
      ≡ t.meaning k ((before ++ t.edit_of c ∷ []) ++ (edits t past_ss ++ (edits t cs ++ later))) =
      list_edit_server cs past_ss (apart_entries cs ss c lawful a.1) lawful k (before ++ t.edit_of c ∷ []) later in
      (simp append_assoc at rest) ∙ row_edit_server c ss a.0 lawful k before (edits t cs ++ later)

  -- the laws of batches
  pub batch_edit_client : (cs ss : List Op) (past : List (List Op)) (k : t.Content) (before between later : List (List Edit))
      → batch_meaning t k (before ++ edits t ss ∷ (between ++ edits t (batch_client_past t cs (row_operation (batch_server_past t) ss past)) ∷ later))
      ≡ batch_meaning t k (before ++ edits t ss ∷ (between ++ edits t cs ∷ later))
  batch_edit_client cs ss past k before between later =
      let gs : List Op = row_operation (batch_server_past t) ss past in
      flat cs ss gs (ArePast-batches t past ss ss (ArePast-self t ss)) k before between later
    where
      flat : (cs ss gs : List Op) → ArePast t ss gs → (k : t.Content) (before between later : List (List Edit))
          → t.meaning k (joined (before ++ edits t ss ∷ (between ++ edits t (batch_client_past t cs gs) ∷ later)))
          ≡ t.meaning k (joined (before ++ edits t ss ∷ (between ++ edits t cs ∷ later)))
      flat cs ss gs p k before between later =
          rw (joined-append before (edits t ss ∷ (between ++ edits t (batch_client_past t cs gs) ∷ later)), joined-append between (edits t (batch_client_past t cs gs) ∷ later), joined-append before (edits t ss ∷ (between ++ edits t cs ∷ later)), joined-append between (edits t cs ∷ later))
          (list_edit_client cs ss gs p k (joined before) (joined between) (joined later))

  pub batch_edit_server : IsLawful t → (cs ss : List Op) → EachPair t.are_apart cs ss → (k : t.Content) (before later : List (List Edit))
      → batch_meaning t k (before ++ edits t cs ∷ edits t (batch_server_past t ss cs) ∷ later)
      ≡ batch_meaning t k (before ++ edits t ss ∷ edits t cs ∷ later)
  batch_edit_server lawful cs ss a k before later =
      flat cs ss (batch_server_past t ss cs) (grid_columns-mirror t.client_past t.server_past cs ss) lawful
      (EachPair-swap t.are_apart t.are_apart lawful.apart_swap cs ss a) k before later
    where
      flat : (cs ss gs : List Op) → grid_columns t.client_past t.server_past cs ss ≡ gs → IsLawful t → EachPair t.are_apart ss cs → (k : t.Content) (before later : List (List Edit))
          → t.meaning k (joined (before ++ edits t cs ∷ edits t gs ∷ later)) ≡ t.meaning k (joined (before ++ edits t ss ∷ edits t cs ∷ later))
      flat cs ss gs e lawful a k before later =
          rw (joined-append before (edits t cs ∷ edits t gs ∷ later), joined-append before (edits t ss ∷ edits t cs ∷ later), ← e)
          (list_edit_server cs ss a lawful k (joined before) (joined later))

  pub batch_meaning_more : (k : t.Content) (es fs : List (List Edit)) → ((n : t.Name) → SomeOf (λ f. Inserts t f n) fs → SomeOf (λ e. Changes t e n) es → ⊥)
      → batch_meaning t (batch_meaning t k es) fs ≡ batch_meaning t k (es ++ fs)
  batch_meaning_more k es fs fresh =
      keeps.meaning_more k (joined es) (joined fs) (λ n i d. fresh n (SomeOf-joined (λ f. t.inserts f n) fs i) (SomeOf-joined (λ e. t.changes e n) es d))
      ∙ ap (λ all. t.meaning k all) (sym (joined-append es fs))

-- What batches insert, change and hold, the order that they keep, and that the effect of one is that of its edits.

-- names
module _ {Op State Edit : Type 0} (t : Ghosts Op State Edit) (keeps : KeepsMeaning t) where
  row_inserts_client : (c : Op) (ss : List Op) (n : t.Name) → t.inserts (t.edit_of (row_operation t.client_past c ss)) n → t.inserts (t.edit_of c) n
  row_inserts_client c [] n i = i
  row_inserts_client c (s ∷ ss) n i = keeps.inserts_client c s n (row_inserts_client (t.client_past c s) ss n i)

  row_inserts_server : (s : Op) (cs : List Op) (n : t.Name) → t.inserts (t.edit_of (row_operation t.server_past s cs)) n → t.inserts (t.edit_of s) n
  row_inserts_server s [] n i = i
  row_inserts_server s (c ∷ cs) n i = keeps.inserts_server s c n (row_inserts_server (t.server_past s c) cs n i)

  pub batch_inserts_client : (cs ss : List Op) (n : t.Name) → Inserts t (edits t (batch_client_past t cs ss)) n → Inserts t (edits t cs) n
  batch_inserts_client [] ss n i = i
  batch_inserts_client (c ∷ cs) ss n (inl i) = inl (row_inserts_client c ss n i)
  batch_inserts_client (c ∷ cs) ss n (inr i) = inr (batch_inserts_client cs (row_entries t.client_past t.server_past c ss) n i)

  pub batch_inserts_server : (ss cs : List Op) (n : t.Name) → Inserts t (edits t (batch_server_past t ss cs)) n → Inserts t (edits t ss) n
  batch_inserts_server [] cs n i = i
  batch_inserts_server (s ∷ ss) cs n (inl i) = inl (row_inserts_server s cs n i)
  batch_inserts_server (s ∷ ss) cs n (inr i) = inr (batch_inserts_server ss (row_entries t.server_past t.client_past s cs) n i)

  -- what a list changes it still changes past another, except what the other changes
  row_changes_client : (c : Op) (ss : List Op) (n : t.Name) → t.changes (t.edit_of c) n
      → t.changes (t.edit_of (row_operation t.client_past c ss)) n ⊎ Changes t (edits t ss) n
  row_changes_client c [] n d = inl d
  row_changes_client c (s ∷ ss) n d =
      elim (keeps.changes_client c s n d) [
        | inl still ↦ elim (row_changes_client (t.client_past c s) ss n still) [ inl a ↦ inl a | inr b ↦ inr (inr b) ]
        | inr by_server ↦ inr (inl by_server)
      ]

  entries_change : (c : Op) (ss : List Op) (n : t.Name) → Changes t (edits t (row_entries t.client_past t.server_past c ss)) n → Changes t (edits t ss) n
  entries_change c [] n d = d
  entries_change c (s ∷ ss) n (inl d) = inl (keeps.changes_server s c n d)
  entries_change c (s ∷ ss) n (inr d) = inr (entries_change (t.client_past c s) ss n d)

  pub batch_changes_client : (cs ss : List Op) (n : t.Name) → Changes t (edits t cs) n
      → Changes t (edits t (batch_client_past t cs ss)) n ⊎ Changes t (edits t ss) n
  batch_changes_client [] ss n d = absurd d
  batch_changes_client (c ∷ cs) ss n (inl d) = elim (row_changes_client c ss n d) [ inl a ↦ inl (inl a) | inr b ↦ inr b ]
  batch_changes_client (c ∷ cs) ss n (inr d) =
      elim (batch_changes_client cs (row_entries t.client_past t.server_past c ss) n d) [
        | inl a ↦ inl (inr a)
        | inr b ↦ inr (entries_change c ss n b)
      ]

  row_changes_server : (s : Op) (cs : List Op) (n : t.Name) → t.changes (t.edit_of (row_operation t.server_past s cs)) n → t.changes (t.edit_of s) n
  row_changes_server s [] n d = d
  row_changes_server s (c ∷ cs) n d = keeps.changes_server s c n (row_changes_server (t.server_past s c) cs n d)

  pub batch_changes_server : (ss cs : List Op) (n : t.Name) → Changes t (edits t (batch_server_past t ss cs)) n → Changes t (edits t ss) n
  batch_changes_server [] cs n d = d
  batch_changes_server (s ∷ ss) cs n (inl d) = inl (row_changes_server s cs n d)
  batch_changes_server (s ∷ ss) cs n (inr d) = inr (batch_changes_server ss (row_entries t.server_past t.client_past s cs) n d)

  apart_names_to : (cs : List Op) (s : Op) (n : t.Name) → EachTo t.are_apart cs s → Inserts t (edits t cs) n → t.inserts (t.edit_of s) n → ⊥
  apart_names_to [] s n a i j = absurd i
  apart_names_to (c ∷ cs) s n a (inl i) j = keeps.apart_names c s n a.0 i j
  apart_names_to (c ∷ cs) s n a (inr i) j = apart_names_to cs s n a.1 i j

  pub batch_apart_names : (cs ss : List Op) (n : t.Name) → EachPair t.are_apart cs ss → Inserts t (edits t cs) n → Inserts t (edits t ss) n → ⊥
  batch_apart_names cs [] n a i j = absurd j
  batch_apart_names cs (s ∷ ss) n a i (inl j) = apart_names_to cs s n a.0 i j
  batch_apart_names cs (s ∷ ss) n a i (inr j) = batch_apart_names cs ss n a.1 i j

  fresh_names_to : (cs : List Op) (e : Op) (n : t.Name) → EachTo t.is_fresh cs e → Inserts t (edits t cs) n
      → (t.inserts (t.edit_of e) n ⊎ t.deletes (t.edit_of e) n) → ⊥
  fresh_names_to [] e n f i j = absurd i
  fresh_names_to (c ∷ cs) e n f (inl i) j = keeps.fresh_names c e n f.0 i j
  fresh_names_to (c ∷ cs) e n f (inr i) j = fresh_names_to cs e n f.1 i j

  pub batch_fresh_names : (cs es : List Op) (n : t.Name) → EachPair t.is_fresh cs es → Inserts t (edits t cs) n
      → (Inserts t (edits t es) n ⊎ Deletes t (edits t es) n) → ⊥
  batch_fresh_names cs [] n f i (inl j) = absurd j
  batch_fresh_names cs [] n f i (inr j) = absurd j
  batch_fresh_names cs (e ∷ es) n f i (inl (inl j)) = fresh_names_to cs e n f.0 i (inl j)
  batch_fresh_names cs (e ∷ es) n f i (inl (inr j)) = batch_fresh_names cs es n f.1 i (inl j)
  batch_fresh_names cs (e ∷ es) n f i (inr (inl j)) = fresh_names_to cs e n f.0 i (inr j)
  batch_fresh_names cs (e ∷ es) n f i (inr (inr j)) = batch_fresh_names cs es n f.1 i (inr j)

  -- what is held before and after a list
  inserts_new_all : (x : State) (os : List Op) (n : t.Name) → AreValid t os x → EachLater t.is_fresh os → Inserts t (edits t os) n → t.holds x n → ⊥
  inserts_new_all x [] n v f i h = absurd i
  inserts_new_all x (o ∷ os) n v f (inl i) h = keeps.inserts_new x o n v.0 i h
  inserts_new_all x (o ∷ os) n v f (inr i) h =
      elim (keeps.held_after x o n v.0 h) [
        | inl held ↦ inserts_new_all (t.after o x) os n v.1 f.1 i held
        | inr gone ↦ fresh_names_to os o n f.0 i (inr gone)
      ]

  held_before_all : (x : State) (os : List Op) (n : t.Name) → AreValid t os x → t.holds (after_all t os x) n → t.holds x n ⊎ Inserts t (edits t os) n
  held_before_all x [] n v h = inl h
  held_before_all x (o ∷ os) n v h =
      elim (held_before_all (t.after o x) os n v.1 h) [
        | inl held ↦ elim (keeps.held_before x o n v.0 held) [ inl a ↦ inl a | inr b ↦ inr (inl b) ]
        | inr i ↦ inr (inr i)
      ]

  held_after_all : (x : State) (os : List Op) (n : t.Name) → AreValid t os x → t.holds x n → t.holds (after_all t os x) n ⊎ Deletes t (edits t os) n
  held_after_all x [] n v h = inl h
  held_after_all x (o ∷ os) n v h =
      elim (keeps.held_after x o n v.0 h) [
        | inl held ↦ elim (held_after_all (t.after o x) os n v.1 held) [ inl a ↦ inl a | inr b ↦ inr (inr b) ]
        | inr gone ↦ inr (inl gone)
      ]

  changes_held_all : (x : State) (os : List Op) (n : t.Name) → AreValid t os x → Changes t (edits t os) n → t.holds x n ⊎ Inserts t (edits t os) n
  changes_held_all x [] n v d = absurd d
  changes_held_all x (o ∷ os) n v (inl d) = elim (keeps.changes_held x o n v.0 d) [ inl a ↦ inl a | inr b ↦ inr (inl b) ]
  changes_held_all x (o ∷ os) n v (inr d) =
      elim (changes_held_all (t.after o x) os n v.1 d) [
        | inl held ↦ elim (keeps.held_before x o n v.0 held) [ inl a ↦ inl a | inr b ↦ inr (inl b) ]
        | inr i ↦ inr (inr i)
      ]

  pub batch_inserts_new : (x : State) (os : List Op) (n : t.Name) → IsValidBatch t os x → Inserts t (edits t os) n → t.holds x n → ⊥
  batch_inserts_new x os n v i h = inserts_new_all x os n v.valid v.fresh i h

  pub batch_changes_held : (x : State) (os : List Op) (n : t.Name) → IsValidBatch t os x → Changes t (edits t os) n → t.holds x n ⊎ Inserts t (edits t os) n
  batch_changes_held x os n v d = changes_held_all x os n v.valid d

  pub batch_held_before : (x : State) (os : List Op) (n : t.Name) → IsValidBatch t os x → t.holds (after_all t os x) n → t.holds x n ⊎ Inserts t (edits t os) n
  batch_held_before x os n v h = held_before_all x os n v.valid h

  pub batch_held_after : (x : State) (os : List Op) (n : t.Name) → IsValidBatch t os x → t.holds x n → t.holds (after_all t os x) n ⊎ Deletes t (edits t os) n
  batch_held_after x os n v h = held_after_all x os n v.valid h

  -- a name that goes does not come back, so the order kept by each step is kept by all
  order_all : IsLawful t → (x : State) (os : List Op) → t.is_distinct x → AreValid t os x → EachLater t.is_fresh os → t.keeps_order x (after_all t os x)
  order_all lawful x [] d v f = keeps.order_self x
  order_all lawful x (o ∷ os) d v f =
      keeps.order_chain x (t.after o x) (after_all t os (t.after o x)) (keeps.order x o d v.0)
      (order_all lawful (t.after o x) os (lawful.distinct_after x o d v.0) v.1 f.1)
      (λ n hx hz. elim (keeps.held_after x o n v.0 hx) [
        | inl held ↦ held
        | inr gone ↦ elim (held_before_all (t.after o x) os n v.1 hz) [ inl held ↦ held | inr i ↦ absurd (fresh_names_to os o n f.0 i (inr gone)) ]
      ])

  pub batch_order : IsLawful t → (x : State) (os : List Op) → t.is_distinct x → IsValidBatch t os x → t.keeps_order x (after_all t os x)
  batch_order lawful x os d v = order_all lawful x os d v.valid v.fresh

  -- what the rest inserts the first does not change
  unchanged : (x : State) (o : Op) (os : List Op) (n : t.Name) → AreValid t (o ∷ os) x → EachLater t.is_fresh (o ∷ os) → Inserts t (edits t os) n → t.changes (t.edit_of o) n → ⊥
  unchanged x o os n v f i c =
      elim (keeps.changes_held x o n v.0 c) [
        | inl held ↦ inserts_new_all x (o ∷ os) n v f (inr i) held
        | inr made ↦ fresh_names_to os o n f.0 i (inl made)
      ]

  -- the effect of a list is that of its edits
  effect_all : IsLawful t → (x : State) (os : List Op) → t.is_distinct x → AreValid t os x → EachLater t.is_fresh os
      → t.content (after_all t os x) ≡ t.meaning (t.content x) (edits t os)
  effect_all lawful x [] d v f = sym (keeps.meaning_none (t.content x))
  effect_all lawful x (o ∷ os) d v f =
      effect_all lawful (t.after o x) os (lawful.distinct_after x o d v.0) v.1 f.1
      ∙ ap (λ k. t.meaning k (edits t os)) (keeps.effect_one x o d v.0)
      ∙ keeps.meaning_more (t.content x) (t.edit_of o ∷ []) (edits t os) (λ n i g. elim g [ inl changed ↦ unchanged x o os n v f i changed | inr never ↦ absurd never ])

  pub batch_effect_one : IsLawful t → (x : State) (os : List Op) → t.is_distinct x → IsValidBatch t os x
      → t.content (after_all t os x) ≡ batch_meaning t (t.content x) (edits t os ∷ [])
  batch_effect_one lawful x os d v =
      effect_all lawful x os d v.valid v.fresh ∙ ap (λ es. t.meaning (t.content x) es) (sym (append-nil (edits t os)))

-- The effect of two concurrent batches, and the room and the shape that a batch keeps past another.

-- of two concurrent batches the client's counts as the later
pub batch_effect_two : {Op State Edit : Type 0} (t : Ghosts Op State Edit) (keeps : KeepsMeaning t) (lawful : IsLawful t) (kept : KeepsFresh t)
    → (x : State) (cs ss : List Op) → t.is_distinct x → is_small_batch t 1 x → IsValidBatch t cs x → IsValidBatch t ss x → EachPair t.are_apart cs ss
    → t.content (after_all t (batch_server_past t ss cs) (after_all t cs x)) ≡ batch_meaning t (t.content x) (edits t ss ∷ edits t cs ∷ [])
batch_effect_two t keeps lawful kept x cs ss d small vc vs a =
    let v = (batch_square t lawful kept x cs ss d small vc vs a).0 in
    let dy = distinct_after_all t lawful cs x d vc.valid in
    let past_ss = batch_server_past t ss cs in
    batch_effect_one t keeps lawful (after_all t cs x) past_ss dy v
    ∙ ap (λ k. batch_meaning t k (edits t past_ss ∷ [])) (batch_effect_one t keeps lawful x cs d vc)
    ∙ batch_meaning_more t keeps (t.content x) (edits t cs ∷ []) (edits t past_ss ∷ []) (unmet t keeps x cs ss vc vs a)
    ∙ batch_edit_server t keeps lawful cs ss a (t.content x) [] []
  where
    unmet : {Op State Edit : Type 0} (t : Ghosts Op State Edit) (keeps : KeepsMeaning t) (x : State) (cs ss : List Op) → IsValidBatch t cs x → IsValidBatch t ss x → EachPair t.are_apart cs ss
        → (n : t.Name) → SomeOf (λ f. Inserts t f n) (edits t (batch_server_past t ss cs) ∷ []) → SomeOf (λ e. Changes t e n) (edits t cs ∷ []) → ⊥
    unmet t keeps x cs ss vc vs a n (inr i) d = absurd i
    unmet t keeps x cs ss vc vs a n (inl i) (inr d) = absurd d
    unmet t keeps x cs ss vc vs a n (inl i) (inl d) =
        let put = batch_inserts_server t keeps ss cs n i in
        elim (batch_changes_held t keeps x cs n vc d) [
          | inl held ↦ batch_inserts_new t keeps x ss n vs put held
          | inr made ↦ batch_apart_names t keeps cs ss n a made put
        ]

-- room and shape, past a list by any `past`
module _ {Op State Edit : Type 0} (t : Ghosts Op State Edit) where
  room_row : (past : Op → Op → Op) → ((n : ℕ) (x : State) (c s : Op) → t.has_room c n x → t.has_room (past c s) n x)
      → (n : ℕ) (x : State) (c : Op) (ss : List Op) → t.has_room c n x → t.has_room (row_operation past c ss) n x
  room_row past kept n x c [] r = r
  room_row past kept n x c (s ∷ ss) r = room_row past kept n x (past c s) ss (kept n x c s r)

  room_rows : (past other : Op → Op → Op) → ((n : ℕ) (x : State) (c s : Op) → t.has_room c n x → t.has_room (past c s) n x)
      → (n : ℕ) (x : State) (cs ss : List Op) → HaveRoom t cs n x → HaveRoom t (grid_rows past other cs ss) n x
  room_rows past other kept n x [] ss r = tt
  room_rows past other kept n x (c ∷ cs) ss r = (room_row past kept n x c ss r.0, room_rows past other kept n x cs (row_entries past other c ss) r.1)

  pub batch_room_past : (past other : Op → Op → Op) → ((n : ℕ) (x : State) (c s : Op) → t.has_room c n x → t.has_room (past c s) n x)
      → (n : ℕ) (x : State) (cs ss : List Op) → has_batch_room t cs n x → has_batch_room t (grid_rows past other cs ss) n x
  batch_room_past past other kept n x cs ss r =
      let same : length (grid_rows past other cs ss) ≡ length cs = length-grid_rows t.are_apart past other cs ss in
      room_from (grid_rows past other cs ss) (length cs) (length (grid_rows past other cs ss)) n x (sym same) (room_rows past other kept (most_operations * n + (length cs - 1)) x cs ss r)
    where
      room_from : (os : List Op) (m k n : ℕ) (x : State) → m ≡ k → HaveRoom t os (most_operations * n + (m - 1)) x → HaveRoom t os (most_operations * n + (k - 1)) x
      room_from os m k n x e r = subst (λ j. HaveRoom t os (most_operations * n + (j - 1)) x) e r

  room_less_by : ((n : ℕ) (x : State) (c : Op) → t.has_room c (n + 1) x → t.has_room c n x) → (m n : ℕ) (x : State) (c : Op) → t.has_room c (m + n) x → t.has_room c n x
  room_less_by less zero n x c r =
      let e : zero + n ≡ n = omega arith in
      rw e at r
  room_less_by less (suc m) n x c r =
      let e : suc m + n ≡ (m + n) + 1 = omega arith in
      room_less_by less m n x c (less (m + n) x c (rw e at r))

  pub room_down : ((n : ℕ) (x : State) (c : Op) → t.has_room c (n + 1) x → t.has_room c n x) → (n k : ℕ) (x : State) (c : Op) → n ≤ k → t.has_room c k x → t.has_room c n x
  room_down less n k x c l r =
      let e : k ≡ (k - n) + n = omega arith in
      room_less_by less (k - n) n x c (rw e at r)

  pub HaveRoom-down : ((n : ℕ) (x : State) (c : Op) → t.has_room c (n + 1) x → t.has_room c n x) → (n k : ℕ) (x : State) (os : List Op) → n ≤ k → HaveRoom t os k x → HaveRoom t os n x
  HaveRoom-down less n k x [] l r = tt
  HaveRoom-down less n k x (o ∷ os) l r = (room_down less n k x o l r.0, HaveRoom-down less n k x os l r.1)

  pub batch_room_less : ((n : ℕ) (x : State) (c : Op) → t.has_room c (n + 1) x → t.has_room c n x) → (n : ℕ) (x : State) (os : List Op) → has_batch_room t os (n + 1) x → has_batch_room t os n x
  batch_room_less less n x os r = HaveRoom-down less (most_operations * n + (length os - 1)) (most_operations * (n + 1) + (length os - 1)) x os (omega arith) r

  shape_row : (past : Op → Op → Op) → ((c s : Op) → t.shape (past c s) ≡ t.shape c) → (c : Op) (ss : List Op) → t.shape (row_operation past c ss) ≡ t.shape c
  shape_row past kept c [] = refl
  shape_row past kept c (s ∷ ss) = shape_row past kept (past c s) ss ∙ kept c s

  pub batch_shape_past : (past other : Op → Op → Op) → ((c s : Op) → t.shape (past c s) ≡ t.shape c) → (cs ss : List Op) → shapes t (grid_rows past other cs ss) ≡ shapes t cs
  batch_shape_past past other kept [] ss = refl
  batch_shape_past past other kept (c ∷ cs) ss =
      ap (λ u. u ∷ shapes t (grid_rows past other cs (row_entries past other c ss))) (shape_row past kept c ss)
      ∙ ap (λ rest. t.shape c ∷ rest) (batch_shape_past past other kept cs (row_entries past other c ss))

-- The laws of `Transform` for batches, from those of their operations, as one record each

pub batches_are_lawful : {Op State Edit : Type 0} (t : Ghosts Op State Edit) → IsLawful t → KeepsFresh t → IsLawful (batches t)
batches_are_lawful t lawful kept = record {
  square = batch_square t lawful kept;
  distinct_after = λ x os distinct valid. distinct_after_all t lawful os x distinct valid.valid;
  small_after = batch_small_after t lawful;
  small_below = batch_small_below t lawful;
  small_before = batch_small_before t lawful;
  apart_swap = EachPair-swap t.are_apart t.are_apart lawful.apart_swap;
  apart_client = EachPair-left t.are_apart t.client_past t.server_past lawful.apart_client;
  apart_server = EachPair-left t.are_apart t.server_past t.client_past lawful.apart_server;
}

pub batches_keep_fresh : {Op State Edit : Type 0} (t : Ghosts Op State Edit) → KeepsFresh t → KeepsFresh (batches t)
batches_keep_fresh t kept = record {
  fresh_client = EachPair-left t.is_fresh t.client_past t.server_past kept.fresh_client;
  fresh_server = EachPair-left t.is_fresh t.server_past t.client_past kept.fresh_server;
  fresh_of_client = EachPair-right t.is_fresh t.client_past t.server_past kept.fresh_of_client;
  fresh_of_server = EachPair-right t.is_fresh t.server_past t.client_past kept.fresh_of_server;
}

pub batches_keep_meaning : {Op State Edit : Type 0} (t : Ghosts Op State Edit) → IsLawful t → KeepsMeaning t → KeepsMeaning (batches t)
batches_keep_meaning t lawful keeps = record {
  effect_one = batch_effect_one t keeps lawful;
  order = batch_order t keeps lawful;
  order_self = keeps.order_self;
  order_chain = keeps.order_chain;
  inserts_client = batch_inserts_client t keeps;
  inserts_server = batch_inserts_server t keeps;
  changes_client = batch_changes_client t keeps;
  changes_server = batch_changes_server t keeps;
  apart_names = batch_apart_names t keeps;
  fresh_names = batch_fresh_names t keeps;
  inserts_new = batch_inserts_new t keeps;
  changes_held = batch_changes_held t keeps;
  held_before = batch_held_before t keeps;
  held_after = batch_held_after t keeps;
  meaning_none = keeps.meaning_none;
  meaning_more = batch_meaning_more t keeps;
  edit_client = batch_edit_client t keeps;
  edit_server = batch_edit_server t keeps lawful;
}

-- The laws of rows and grids.
use Rattle.std.proofs.Common.{◌≡◌, List, [], ◌∷◌, ◌++◌, length, refl, ap, suc, ◌∙◌, ℕ, ◌+◌, zero, sym, arith, add-zero, zero-add}
use Rattle.jup_xform.specs.declared.Transform.{Ghosts}
use Rattle.jup_xform.specs.Rows.{row_operation, row_entries, grid_rows, grid_columns}
use Rattle.jup_xform.specs.Grids.{after_all, AreValid, AllApart, SquareMeets, RowMeets, GridCloses, mirror, IsLawful}

-- Rows and grids of operations: lists joined, lengths, and the other side.

-- past two lists joined: past the first, and then past the second
pub row_operation-append : {Op : Type 0} (past : Op → Op → Op) (o : Op) (es fs : List Op)
    → row_operation past o (es ++ fs) ≡ row_operation past (row_operation past o es) fs
row_operation-append past o [] fs = refl
row_operation-append past o (e ∷ es) fs = row_operation-append past (past o e) es fs

-- two lists joined, past an operation: the first past it, and the second past what the first leaves of it
pub row_entries-append : {Op : Type 0} (past other : Op → Op → Op) (o : Op) (es fs : List Op)
    → row_entries past other o (es ++ fs) ≡ row_entries past other o es ++ row_entries past other (row_operation past o es) fs
row_entries-append past other o [] fs = refl
row_entries-append past other o (e ∷ es) fs = ap (λ rest. other e o ∷ rest) (row_entries-append past other (past o e) es fs)

-- a list keeps its length past an operation
pub length-row_entries : {Op : Type 0} (past other : Op → Op → Op) (o : Op) (es : List Op)
    → length (row_entries past other o es) ≡ length es
length-row_entries past other o [] = refl
length-row_entries past other o (e ∷ es) = ap suc (length-row_entries past other (past o e) es)

-- the first column of a grid, and the rest
pub grid_columns-split : {Op : Type 0} (past other : Op → Op → Op) (os : List Op) (e : Op) (es : List Op)
    → grid_columns past other os (e ∷ es) ≡ row_operation other e os ∷ grid_columns past other (row_entries other past e os) es
grid_columns-split past other [] e es = refl
grid_columns-split past other (o ∷ os) e es = grid_columns-split past other os (other e o) (row_entries past other (past o e) es)

pub grid_rows-split : {Op : Type 0} (past other : Op → Op → Op) (os : List Op) (e : Op) (es : List Op)
    → grid_rows past other os (e ∷ es) ≡ grid_rows past other (row_entries other past e os) es
grid_rows-split past other [] e es = refl
grid_rows-split past other (o ∷ os) e es =
    ap (λ rest. row_operation past (past o e) es ∷ rest) (grid_rows-split past other os (other e o) (row_entries past other (past o e) es))

pub grid_rows-nil : {Op : Type 0} (past other : Op → Op → Op) (os : List Op) → grid_rows past other os [] ≡ os
grid_rows-nil past other [] = refl
grid_rows-nil past other (o ∷ os) = ap (λ rest. o ∷ rest) (grid_rows-nil past other os)

pub grid_columns-nil : {Op : Type 0} (past other : Op → Op → Op) (os : List Op) → grid_columns past other os [] ≡ []
grid_columns-nil past other [] = refl
grid_columns-nil past other (o ∷ os) = grid_columns-nil past other os

-- a grid has the same far sides, whichever list goes first
pub grid_columns-mirror : {Op : Type 0} (past other : Op → Op → Op) (os es : List Op)
    → grid_columns past other os es ≡ grid_rows other past es os
grid_columns-mirror past other os [] = grid_columns-nil past other os
grid_columns-mirror past other os (e ∷ es) =
    grid_columns-split past other os e es
    ∙ ap (λ rest. row_operation other e os ∷ rest) (grid_columns-mirror past other (row_entries other past e os) es)

pub grid_rows-mirror : {Op : Type 0} (past other : Op → Op → Op) (os es : List Op)
    → grid_rows past other os es ≡ grid_columns other past es os
grid_rows-mirror past other os [] = grid_rows-nil past other os
grid_rows-mirror past other os (e ∷ es) =
    grid_rows-split past other os e es ∙ grid_rows-mirror past other (row_entries other past e os) es

-- Rows and grids of squares that meet.

-- the laws are the same seen from the other end
pub IsLawful-mirror : {Op State Edit : Type 0} (t : Ghosts Op State Edit) → IsLawful t → IsLawful (mirror t)
IsLawful-mirror t lawful = record {
  square = λ x c s distinct small valid_c valid_s apart.
      let meets : SquareMeets t s c x = lawful.square x s c distinct small valid_s valid_c (lawful.apart_swap c s apart) in
      (meets.1, meets.0, sym meets.2);
  distinct_after = lawful.distinct_after;
  small_after = lawful.small_after;
  small_below = lawful.small_below;
  small_before = lawful.small_before;
  apart_swap = lawful.apart_swap;
  apart_client = lawful.apart_server;
  apart_server = lawful.apart_client;
}

-- what holds of two lists holds of both joined
module _ {Op State Edit : Type 0} (t : Ghosts Op State Edit) where
  -- the state after two lists joined is that of the second after the first
  pub after_all-append : (os ps : List Op) (x : State) → after_all t (os ++ ps) x ≡ after_all t ps (after_all t os x)
  after_all-append [] ps x = refl
  after_all-append (o ∷ os) ps x = after_all-append os ps (t.after o x)

  -- the second list need be valid only after the first
  pub AreValid-append : (os ps : List Op) (x : State) → AreValid t os x → AreValid t ps (after_all t os x) → AreValid t (os ++ ps) x
  AreValid-append [] ps x first second = second
  AreValid-append (o ∷ os) ps x first second = (first.0, AreValid-append os ps (t.after o x) first.1 second)

-- a row of squares that meet
module _ {Op State Edit : Type 0} (t : Ghosts Op State Edit) where
  -- the operation past the list is valid after it
  pub row_operation-valid : (c : Op) (ss : List Op) (x : State) → t.is_valid c x → RowMeets t c ss x
      → t.is_valid (row_operation t.client_past c ss) (after_all t ss x)
  row_operation-valid c [] x valid meets = valid
  row_operation-valid c (s ∷ ss) x valid meets = row_operation-valid (t.client_past c s) ss (t.after s x) meets.0.1 meets.1

  -- the list past the operation is valid after it
  pub row_entries-valid : (c : Op) (ss : List Op) (x : State) → RowMeets t c ss x
      → AreValid t (row_entries t.client_past t.server_past c ss) (t.after c x)
  row_entries-valid c [] x meets = tt
  row_entries-valid c (s ∷ ss) x meets =
      (meets.0.0, rw meets.0.2 (row_entries-valid (t.client_past c s) ss (t.after s x) meets.1))

  -- both ways round a row lead to one state
  pub row-after : (c : Op) (ss : List Op) (x : State) → RowMeets t c ss x
      → after_all t (row_entries t.client_past t.server_past c ss) (t.after c x)
      ≡ t.after (row_operation t.client_past c ss) (after_all t ss x)
  row-after c [] x meets = refl
  row-after c (s ∷ ss) x meets =
      ap (λ y. after_all t (row_entries t.client_past t.server_past (t.client_past c s) ss) y) meets.0.2
      ∙ row-after (t.client_past c s) ss (t.after s x) meets.1

  -- rows with two lists in turn are a row with both joined
  pub RowMeets-append : (c : Op) (ss us : List Op) (x : State) → RowMeets t c ss x
      → RowMeets t (row_operation t.client_past c ss) us (after_all t ss x) → RowMeets t c (ss ++ us) x
  RowMeets-append c [] us x first second = second
  RowMeets-append c (s ∷ ss) us x first second = (first.0, RowMeets-append (t.client_past c s) ss us (t.after s x) first.1 second)

-- a grid seen from the other end
module _ {Op State Edit : Type 0} (t : Ghosts Op State Edit) where
  -- the first column of a grid that closes, and the grid that is left
  pub first_column : (cs : List Op) (s : Op) (ss : List Op) (x : State) → GridCloses t cs (s ∷ ss) x
      → RowMeets (mirror t) s cs x × GridCloses t (row_entries t.server_past t.client_past s cs) ss (t.after s x)
  first_column [] s ss x closes = (tt, tt)
  first_column (c ∷ cs) s ss x closes =
      let rest = first_column cs (t.server_past s c) (row_entries t.client_past t.server_past (t.client_past c s) ss) (t.after c x) closes.1 in
      (((closes.0.0.1, closes.0.0.0, sym closes.0.0.2), rest.0), (closes.0.1, rw (← closes.0.0.2) rest.1))

  -- a grid that closes also closes column by column
  pub GridCloses-mirror : (cs ss : List Op) (x : State) → GridCloses t cs ss x → GridCloses (mirror t) ss cs x
  GridCloses-mirror cs [] x closes = tt
  GridCloses-mirror cs (s ∷ ss) x closes =
      let first = first_column cs s ss x closes in
      (first.0, GridCloses-mirror (row_entries t.server_past t.client_past s cs) ss (t.after s x) first.1)

-- what the laws say of lists
module _ {Op State Edit : Type 0} (t : Ghosts Op State Edit) (lawful : IsLawful t) where
  -- what is apart from an operation stays so past another one
  pub AllApart-entry : (cs : List Op) (s c : Op) → AllApart t cs s → AllApart t cs (t.server_past s c)
  AllApart-entry [] s c apart = tt
  AllApart-entry (d ∷ cs) s c apart = (
    lawful.apart_swap (t.server_past s c) d (lawful.apart_server s c d (lawful.apart_swap d s apart.0)),
    AllApart-entry cs s c apart.1,
  )

  -- an operation past a list is apart from what it was apart from
  pub row_operation-apart : (c : Op) (ss : List Op) (o : Op) → t.are_apart c o → t.are_apart (row_operation t.client_past c ss) o
  row_operation-apart c [] o apart = apart
  row_operation-apart c (s ∷ ss) o apart = row_operation-apart (t.client_past c s) ss o (lawful.apart_client c s o apart)

  -- a state that is small by more is small by less
  pub small_less : (m n : ℕ) (x : State) → t.is_small (m + n) x → t.is_small n x
  small_less zero n x small = rw zero-add at small
  small_less (suc m) n x small =
      let next : suc m + n ≡ (m + n) + 1 = omega arith in
      small_less m n x (lawful.small_below (m + n) x (rw next at small))

  -- valid operations keep the names distinct
  pub distinct_after_all : (os : List Op) (x : State) → t.is_distinct x → AreValid t os x → t.is_distinct (after_all t os x)
  distinct_after_all [] x distinct valid = distinct
  distinct_after_all (o ∷ os) x distinct valid = distinct_after_all os (t.after o x) (lawful.distinct_after x o distinct valid.0) valid.1

  -- each valid operation takes one of what a state is small by
  pub small_after_all : (n : ℕ) (os : List Op) (x : State) → t.is_small (n + length os) x → AreValid t os x → t.is_small n (after_all t os x)
  small_after_all n [] x small valid = rw add-zero at small
  small_after_all n (o ∷ os) x small valid =
      let next : n + suc (length os) ≡ (n + length os) + 1 = omega arith in
      small_after_all n os (t.after o x) (lawful.small_after (n + length os) x o (rw next at small) valid.0) valid.1

  -- the state before valid operations is small by as many less than the state after them
  pub small_before_all : (n : ℕ) (os : List Op) (x : State) → AreValid t os x → t.is_small (n + length os) (after_all t os x) → t.is_small n x
  small_before_all n [] x valid small = rw add-zero at small
  small_before_all n (o ∷ os) x valid small =
      let next : n + suc (length os) ≡ (n + 1) + length os = omega arith in
      lawful.small_before n x o valid.0 (small_before_all (n + 1) os (t.after o x) valid.1 (rw next at small))

-- a grid that closes still does when the server's list gets one more operation
module _ {Op State Edit : Type 0} (t : Ghosts Op State Edit) (lawful : IsLawful t) where
  square_at : (n : ℕ) (x : State) (c s : Op) → t.is_distinct x → t.is_small (n + 1) x → t.is_valid c x → t.is_valid s x → t.are_apart c s → SquareMeets t c s x
  square_at n x c s distinct small valid_c valid_s apart = lawful.square x c s distinct (small_less t lawful n 1 x small) valid_c valid_s apart

  pub GridCloses-push : (cs ss : List Op) (s : Op) (x : State)
      → t.is_distinct x → t.is_small (length cs + length ss) x → AreValid t cs x → AreValid t ss x
      → t.is_valid s (after_all t ss x) → AllApart t cs s
      → GridCloses t cs ss x → GridCloses t cs (ss ++ s ∷ []) x
  GridCloses-push [] ss s x distinct small valid_cs valid_ss valid apart closes = tt
  GridCloses-push (c ∷ cs) ss s x distinct small valid_cs valid_ss valid apart closes =
      let past_c : Op = row_operation t.client_past c ss in
      let y : State = after_all t ss x in
      let sum_y : length {A = Op} (c ∷ cs) + length ss ≡ length cs + 1 + length ss = omega arith in
      let small_y : t.is_small (length cs + 1) y = small_after_all t lawful (length cs + 1) ss x (rw sum_y at small) valid_ss in
      let meets : SquareMeets t past_c s y =
      square_at (length cs) y past_c s (distinct_after_all t lawful ss x distinct valid_ss) small_y
      (row_operation-valid t c ss x valid_cs.0 closes.0) valid (row_operation-apart t lawful c ss s apart.0) in
      let past_ss : List Op = row_entries t.client_past t.server_past c ss in
      let sum_c : length {A = Op} (c ∷ cs) + length ss ≡ (length cs + length past_ss) + 1 =
      omega (arith, length-row_entries t.client_past t.server_past c ss) in
      let small_c : t.is_small (length cs + length past_ss) (t.after c x) =
      lawful.small_after (length cs + length past_ss) x c (rw sum_c at small) valid_cs.0 in
      let valid_s : t.is_valid (t.server_past s past_c) (after_all t past_ss (t.after c x)) = rw (row-after t c ss x closes.0) meets.0 in (
        RowMeets-append t c ss (s ∷ []) x closes.0 (meets, tt),
        rw row_entries-append (GridCloses-push cs past_ss (t.server_past s past_c) (t.after c x)
            (lawful.distinct_after x c distinct valid_cs.0) small_c valid_cs.1 (row_entries-valid t c ss x closes.0) valid_s
            (AllApart-entry t lawful cs s past_c apart.1) closes.1),
      )

-- the far sides of a grid that closes
module _ {Op State Edit : Type 0} (t : Ghosts Op State Edit) where
  pub grid_rows-valid : (cs ss : List Op) (x : State) → AreValid t cs x → AreValid t ss x → GridCloses t cs ss x
      → AreValid t (grid_rows t.client_past t.server_past cs ss) (after_all t ss x)
  grid_rows-valid [] ss x vc vs g = tt
  grid_rows-valid (c ∷ cs) ss x vc vs g =
      let past_ss : List Op = row_entries t.client_past t.server_past c ss in (
        row_operation-valid t c ss x vc.0 g.0,
        rw (← row-after t c ss x g.0) (grid_rows-valid cs past_ss (t.after c x) vc.1 (row_entries-valid t c ss x g.0) g.1),
      )

  pub grid_columns-valid : (cs ss : List Op) (x : State) → AreValid t ss x → GridCloses t cs ss x
      → AreValid t (grid_columns t.client_past t.server_past cs ss) (after_all t cs x)
  grid_columns-valid [] ss x vs g = vs
  grid_columns-valid (c ∷ cs) ss x vs g =
      grid_columns-valid cs (row_entries t.client_past t.server_past c ss) (t.after c x) (row_entries-valid t c ss x g.0) g.1

  -- both ways round a grid lead to one state
  pub grid-after : (cs ss : List Op) (x : State) → GridCloses t cs ss x
      → after_all t (grid_columns t.client_past t.server_past cs ss) (after_all t cs x)
      ≡ after_all t (grid_rows t.client_past t.server_past cs ss) (after_all t ss x)
  grid-after [] ss x g = refl
  grid-after (c ∷ cs) ss x g =
      let past_ss : List Op = row_entries t.client_past t.server_past c ss in
      grid-after cs past_ss (t.after c x) g.1
      ∙ ap (λ y. after_all t (grid_rows t.client_past t.server_past cs past_ss) y) (row-after t c ss x g.0)

  pub GridCloses-nil : (cs : List Op) (x : State) → GridCloses t cs [] x
  GridCloses-nil [] x = tt
  GridCloses-nil (c ∷ cs) x = (tt, GridCloses-nil cs (t.after c x))

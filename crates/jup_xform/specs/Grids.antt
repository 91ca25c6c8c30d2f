-- Lists of operations past each other, and the laws of a kind.
use Rattle.std.specs.Prelude.{◌≡◌, List, [], ◌∷◌, ℕ, ◌+◌, ◌⊎◌, ◌++◌}
use Rattle.jup_xform.specs.declared.Transform.{Ghosts}
use Rattle.jup_xform.specs.declared.row.Side.{Side}
use Rattle.jup_xform.specs.declared.row.Side.TheVariants.{Client, Server}
use Rattle.jup_xform.specs.Rows.{row_entries, SomeOf, row_operation}

-- Lists of operations, and the grid of two concurrent lists.

-- the state after a list of operations
abbrev pub after_all : {Op State Edit : Type 0} → Ghosts Op State Edit → List Op → State → State
after_all t [] x = x
after_all t (o ∷ os) x = after_all t os (t.after o x)

-- each operation is valid after those before it
abbrev pub AreValid : {Op State Edit : Type 0} → Ghosts Op State Edit → List Op → State → Type 0
AreValid t [] x = Unit {0}
AreValid t (o ∷ os) x = t.is_valid o x × AreValid t os (t.after o x)

-- each operation of the list is apart from this one
abbrev pub AllApart : {Op State Edit : Type 0} → Ghosts Op State Edit → List Op → Op → Type 0
AllApart t [] s = Unit {0}
AllApart t (c ∷ cs) s = t.are_apart c s × AllApart t cs s

-- both ways round a client's and a server's operation are valid, and give one state
abbrev pub SquareMeets : {Op State Edit : Type 0} → Ghosts Op State Edit → Op → Op → State → Type 0
SquareMeets t c s x =
    t.is_valid (t.server_past s c) (t.after c x) × t.is_valid (t.client_past c s) (t.after s x)
    × (t.after (t.server_past s c) (t.after c x) ≡ t.after (t.client_past c s) (t.after s x))

-- each square of a client's operation with a list of the server's meets
abbrev pub RowMeets : {Op State Edit : Type 0} → Ghosts Op State Edit → Op → List Op → State → Type 0
RowMeets t c [] x = Unit {0}
RowMeets t c (s ∷ ss) x = SquareMeets t c s x × RowMeets t (t.client_past c s) ss (t.after s x)

-- each square of the grid of a client's list and a server's list meets
abbrev pub GridCloses : {Op State Edit : Type 0} → Ghosts Op State Edit → List Op → List Op → State → Type 0
GridCloses t [] ss x = Unit {0}
GridCloses t (c ∷ cs) ss x =
    RowMeets t c ss x × GridCloses t cs (row_entries t.client_past t.server_past c ss) (t.after c x)

-- the same operations with the two ends' parts exchanged
abbrev pub mirror : {Op State Edit : Type 0} → Ghosts Op State Edit → Ghosts Op State Edit
mirror t = record t { client_past = t.server_past; server_past = t.client_past }

-- The two sides of a link.

-- an operation of this side past one of the other side
abbrev pub past : {Op State Edit : Type 0} → Ghosts Op State Edit → Side → Op → Op → Op
past t Client = t.client_past
past t Server = t.server_past

abbrev pub opposite : Side → Side
opposite Client = Server
opposite Server = Client

-- The laws of a kind of operations: on states, and on names, order and edits.

-- the laws of `Transform` on which a grid relies; they are the same seen from either end
pub record IsLawful {Op State Edit : Type 0} (t : Ghosts Op State Edit) : Type 0 where
  pub square : (x : State) (c s : Op) → t.is_distinct x → t.is_small 1 x → t.is_valid c x → t.is_valid s x → t.are_apart c s → SquareMeets t c s x
  pub distinct_after : (x : State) (c : Op) → t.is_distinct x → t.is_valid c x → t.is_distinct (t.after c x)
  pub small_after : (n : ℕ) (x : State) (c : Op) → t.is_small (n + 1) x → t.is_valid c x → t.is_small n (t.after c x)
  pub small_below : (n : ℕ) (x : State) → t.is_small (n + 1) x → t.is_small n x
  pub small_before : (n : ℕ) (x : State) (c : Op) → t.is_valid c x → t.is_small (n + 1) (t.after c x) → t.is_small n x
  pub apart_swap : (c s : Op) → t.are_apart c s → t.are_apart s c
  pub apart_client : (c s o : Op) → t.are_apart c o → t.are_apart (t.client_past c s) o
  pub apart_server : (s c o : Op) → t.are_apart s o → t.are_apart (t.server_past s c) o

-- the laws of `Transform` on names, order and edits: what the operations of a whole run mean
pub record KeepsMeaning {Op State Edit : Type 0} (t : Ghosts Op State Edit) : Type 0 where
  pub effect_one : (x : State) (c : Op) → t.is_distinct x → t.is_valid c x → t.content (t.after c x) ≡ t.meaning (t.content x) (t.edit_of c ∷ [])
  pub order : (x : State) (c : Op) → t.is_distinct x → t.is_valid c x → t.keeps_order x (t.after c x)
  pub order_self : (x : State) → t.keeps_order x x
  pub order_chain : (x y z : State) → t.keeps_order x y → t.keeps_order y z → ((n : t.Name) → t.holds x n → t.holds z n → t.holds y n) → t.keeps_order x z
  pub inserts_client : (c s : Op) (n : t.Name) → t.inserts (t.edit_of (t.client_past c s)) n → t.inserts (t.edit_of c) n
  pub inserts_server : (s c : Op) (n : t.Name) → t.inserts (t.edit_of (t.server_past s c)) n → t.inserts (t.edit_of s) n
  pub changes_client : (c s : Op) (n : t.Name) → t.changes (t.edit_of c) n → t.changes (t.edit_of (t.client_past c s)) n ⊎ t.changes (t.edit_of s) n
  pub changes_server : (s c : Op) (n : t.Name) → t.changes (t.edit_of (t.server_past s c)) n → t.changes (t.edit_of s) n
  pub apart_names : (c s : Op) (n : t.Name) → t.are_apart c s → t.inserts (t.edit_of c) n → t.inserts (t.edit_of s) n → ⊥
  pub fresh_names : (c e : Op) (n : t.Name) → t.is_fresh c e → t.inserts (t.edit_of c) n → (t.inserts (t.edit_of e) n ⊎ t.deletes (t.edit_of e) n) → ⊥
  pub inserts_new : (x : State) (c : Op) (n : t.Name) → t.is_valid c x → t.inserts (t.edit_of c) n → t.holds x n → ⊥
  pub changes_held : (x : State) (c : Op) (n : t.Name) → t.is_valid c x → t.changes (t.edit_of c) n → t.holds x n ⊎ t.inserts (t.edit_of c) n
  pub held_before : (x : State) (c : Op) (n : t.Name) → t.is_valid c x → t.holds (t.after c x) n → t.holds x n ⊎ t.inserts (t.edit_of c) n
  pub held_after : (x : State) (c : Op) (n : t.Name) → t.is_valid c x → t.holds x n → t.holds (t.after c x) n ⊎ t.deletes (t.edit_of c) n
  pub meaning_none : (k : t.Content) → t.meaning k [] ≡ k
  pub meaning_more : (k : t.Content) (es fs : List Edit) → ((n : t.Name) → SomeOf (λ f. t.inserts f n) fs → SomeOf (λ e. t.changes e n) es → ⊥)
      → t.meaning (t.meaning k es) fs ≡ t.meaning k (es ++ fs)
  pub edit_client : (c s : Op) (past : List Op) (k : t.Content) (before between later : List Edit)
      → t.meaning k (before ++ t.edit_of s ∷ (between ++ t.edit_of (t.client_past c (row_operation t.server_past s past)) ∷ later))
      ≡ t.meaning k (before ++ t.edit_of s ∷ (between ++ t.edit_of c ∷ later))
  pub edit_server : (c s : Op) → t.are_apart c s → (k : t.Content) (before later : List Edit)
      → t.meaning k (before ++ t.edit_of c ∷ t.edit_of (t.server_past s c) ∷ later) ≡ t.meaning k (before ++ t.edit_of s ∷ t.edit_of c ∷ later)

-- the laws of `Transform` by which an operation past another stays fresh, and another stays fresh after it
pub record KeepsFresh {Op State Edit : Type 0} (t : Ghosts Op State Edit) : Type 0 where
  pub fresh_client : (c s o : Op) → t.is_fresh c o → t.is_fresh (t.client_past c s) o
  pub fresh_server : (s c o : Op) → t.is_fresh s o → t.is_fresh (t.server_past s c) o
  pub fresh_of_client : (c s o : Op) → t.is_fresh o c → t.is_fresh o (t.client_past c s)
  pub fresh_of_server : (s c o : Op) → t.is_fresh o s → t.is_fresh o (t.server_past s c)

-- the laws of `Transform` that are in none of the records above: the effect of two operations, room and shape
pub record KeepsRest {Op State Edit : Type 0} (t : Ghosts Op State Edit) : Type 0 where
  pub effect_two : (x : State) (c s : Op) → t.is_distinct x → t.is_small 1 x → t.is_valid c x → t.is_valid s x → t.are_apart c s
      → t.content (t.after (t.server_past s c) (t.after c x)) ≡ t.meaning (t.content x) (t.edit_of s ∷ t.edit_of c ∷ [])
  pub room_less : (n : ℕ) (x : State) (c : Op) → t.has_room c (n + 1) x → t.has_room c n x
  pub room_client : (n : ℕ) (x : State) (c s : Op) → t.has_room c n x → t.has_room (t.client_past c s) n x
  pub room_server : (n : ℕ) (x : State) (s c : Op) → t.has_room s n x → t.has_room (t.server_past s c) n x
  pub shape_client : (c s : Op) → t.shape (t.client_past c s) ≡ t.shape c
  pub shape_server : (s c : Op) → t.shape (t.server_past s c) ≡ t.shape s

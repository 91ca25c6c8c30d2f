-- What the tests of a call say.
use Rattle.std.proofs.Common.{◌≡◌, refl, sym, ◌∙◌, ap, Bool, true, false, List, [], ◌∷◌, ◌++◌, Option, Some, None, if◌then◌else◌, ℕ, ◌<◌, length, IsTrue, ◌↔◌, ◌≤◌, ◌&&◌, nat_le, subst, cond, nat_eq}
use Rattle.std.proofs.lemmas.Bool.{eqb-true, ltb-true, leb-true, and_parts, false≢true, and_from, le-leb}
use Rattle.jup_star.specs.Prelude.{highest_limit, last_site, Side, Client, Server, row_operation, past, opposite, Msg, EndLink, IsNumber, IsCount, accepts_number, accepts_count, unheard, only_site, has_site, Operations, AreLawful, BoardBatch, board_batches, accepts, StarFault, BadOp, Op, BadSite}
use Rattle.jup_window.specs.Boards as board
use Rattle.jup_star.specs.Faults.{Test, first_fault, test}
use Rattle.jup_star.specs.Stars.{operation_at, ack_tests, early_tests, early_fault, up_fault, fits_board, BoardLink, BoardStar, is_no_memory, star_open_fault, LinkState, StarOf, link_of}
use Rattle.jup_star.specs.Sites.{site_open_fault}

-- What the first fault of a list of tests says of them.

module _ {Fault : Type 0} (is_memory : Fault → Bool) where
  -- no test of a list says that an allocation failed
  abbrev pub NoneOfMemory : List (Test Fault) → Type 0
  NoneOfMemory [] = Unit {0}
  NoneOfMemory (t ∷ ts) = (is_memory t.fault ≡ false) × NoneOfMemory ts

  not_memory_cons : (b : Bool) (t : Test Fault) (rest : Option Fault) (e : Fault) → (rest ≡ Some e → is_memory e ≡ false) → is_memory t.fault ≡ false
      → (if b then rest else Some t.fault) ≡ Some e → is_memory e ≡ false
  not_memory_cons true t rest e later none h = later h
  not_memory_cons false t rest e later none h = let is : t.fault ≡ e = cc in ap is_memory (sym is) ∙ none

  pub not_memory : (ts : List (Test Fault)) (e : Fault) → NoneOfMemory ts → first_fault ts ≡ Some e → is_memory e ≡ false
  not_memory [] e none first = cc
  not_memory (t ∷ ts) e none first = not_memory_cons t.holds t (first_fault ts) e (not_memory ts e none.1) none.0 first

module _ {Fault : Type 0} where
  -- every test of a list passes
  abbrev pub AllHold : List (Test Fault) → Type 0
  AllHold [] = Unit {0}
  AllHold (t ∷ ts) = (t.holds ≡ true) × AllHold ts

  all_hold_cons : (b : Bool) (t : Test Fault) (ts : List (Test Fault)) → t.holds ≡ b → (first_fault ts ≡ None → AllHold ts)
      → (if b then first_fault ts else Some t.fault) ≡ None → (t.holds ≡ true) × AllHold ts
  all_hold_cons true t ts is later h = (is, later h)
  all_hold_cons false t ts is later h = cc

  pub all_hold : (ts : List (Test Fault)) → first_fault ts ≡ None → AllHold ts
  all_hold [] none = tt
  all_hold (t ∷ ts) none = all_hold_cons t.holds t ts refl (all_hold ts) none

  -- the first fault of two lists of tests
  before_cons : (b : Bool) (first rest more : Option Fault) (e : Fault) → (rest ≡ Some e → more ≡ Some e)
      → (if b then rest else first) ≡ Some e → (if b then more else first) ≡ Some e
  before_cons true first rest more e later h = later h
  before_cons false first rest more e later h = h

  pub fault_before : (ts us : List (Test Fault)) (e : Fault) → first_fault ts ≡ Some e → first_fault (ts ++ us) ≡ Some e
  fault_before [] us e first = cc
  fault_before (t ∷ ts) us e first = before_cons t.holds (Some t.fault) (first_fault ts) (first_fault (ts ++ us)) e (fault_before ts us e) first

  after_cons : (b : Bool) (fault : Fault) (rest more last : Option Fault) → (rest ≡ None → more ≡ last)
      → (if b then rest else Some fault) ≡ None → (if b then more else Some fault) ≡ last
  after_cons true fault rest more last later h = later h
  after_cons false fault rest more last later h = cc

  pub fault_after : (ts us : List (Test Fault)) → first_fault ts ≡ None → first_fault (ts ++ us) ≡ first_fault us
  fault_after [] us none = refl
  fault_after (t ∷ ts) us none = after_cons t.holds t.fault (first_fault ts) (first_fault (ts ++ us)) (first_fault us) (fault_after ts us) none

-- What it means that a message has no fault, or has one.

pub ack_not_memory : (l : EndLink BoardBatch) (n : ℕ) (e : StarFault) → Some e ≡ first_fault (ack_tests l n) → is_no_memory e ≡ false
ack_not_memory l n e first = not_memory is_no_memory (ack_tests l n) e (refl, tt) (sym first)

pub early_not_memory : (limit count : ℕ) (l : BoardLink) (m : Msg BoardBatch) (e : StarFault) → Some e ≡ early_fault board_batches limit count l m → is_no_memory e ≡ false
early_not_memory limit count l m e first = not_memory is_no_memory (early_tests board_batches limit count l m) e (refl, (refl, (refl, (refl, (refl, tt))))) (sym first)

pub number_is : (e : EndLink BoardBatch) (n : ℕ) → accepts_number e n ≡ true → IsNumber e n
number_is e n test = let two = and_parts _ _ test in record { next = eqb-true _ _ two.0; counted = ltb-true _ _ two.1 }

pub count_is : (e : EndLink BoardBatch) (n : ℕ) → accepts_count e n ≡ true → IsCount e n
count_is e n test = let two = and_parts _ _ test in record { low = leb-true _ _ two.0; high = leb-true _ _ two.1 }

-- an edit without an early fault can be heard, and the order has room for it
pub early_number : (limit count : ℕ) (l : BoardLink) (m : Msg BoardBatch) → early_fault board_batches limit count l m ≡ None → IsNumber l.end m.mine
early_number limit count l m none = number_is _ _ (all_hold (early_tests board_batches limit count l m) none).0

pub early_count : (limit count : ℕ) (l : BoardLink) (m : Msg BoardBatch) → early_fault board_batches limit count l m ≡ None → IsCount l.end m.heard
early_count limit count l m none = count_is _ _ (all_hold (early_tests board_batches limit count l m) none).1.0

pub early_room : (limit count : ℕ) (l : BoardLink) (m : Msg BoardBatch) → early_fault board_batches limit count l m ≡ None → count < limit
early_room limit count l m none = ltb-true _ _ (all_hold (early_tests board_batches limit count l m) none).1.1.1.1.0

-- the first fault of an edit is its early one, or else that it does not fit the board
pub up_early : (s : BoardStar) (l : BoardLink) (m : Msg BoardBatch) (e : StarFault) → early_fault board_batches s.limit (length s.order) l m ≡ Some e
    → up_fault board_batches s l (Op m) ≡ Some e
up_early s l m e early = fault_before (early_tests board_batches s.limit (length s.order) l m) (test (fits_board board_batches s.board l m) BadOp ∷ []) e early

pub up_late : (s : BoardStar) (l : BoardLink) (m : Msg BoardBatch) (b : Bool) → early_fault board_batches s.limit (length s.order) l m ≡ None
    → accepts (operation_at board_batches l.end m) s.board ≡ b → up_fault board_batches s l (Op m) ≡ (if b then None else Some BadOp)
up_late s l m b early fits =
    fault_after (early_tests board_batches s.limit (length s.order) l m) (test (fits_board board_batches s.board l m) BadOp ∷ []) early
    ∙ ap (λ (a : Bool). first_fault (test a BadOp ∷ [])) fits

-- Tests that compute, and the facts that they decide.

pub same_test : (P : Type 0) (a b : Bool) → IsTrue a ↔ P → IsTrue b ↔ P → a ≡ b
same_test P true true h k = refl
same_test P false false h k = refl
same_test P true false h k = absurd (false≢true (k.1 (h.0 refl)))
same_test P false true h k = absurd (false≢true (h.1 (k.0 refl)))

-- Why a star or a site is not opened.

within : (low high n : ℕ) → low ≤ n → n ≤ high → (nat_le low n && nat_le n high) ≡ true
within low high n above below = and_from (nat_le low n) (nat_le n high) (le-leb low n above) (le-leb n high below)

pub star_fault_site : (b : board.Windows) (limit : ℕ) → 1 ≤ limit → limit ≤ highest_limit → only_site 0 (board.bare b) ≡ false → Some BadSite ≡ star_open_fault (board.bare b) limit
star_fault_site b limit low high foreign = rw (within 1 highest_limit limit low high, foreign) refl

pub star_fault_none : (b : board.Windows) (limit : ℕ) → 1 ≤ limit → limit ≤ highest_limit → only_site 0 (board.bare b) ≡ true → None ≡ star_open_fault (board.bare b) limit
star_fault_none b limit low high own = rw (within 1 highest_limit limit low high, own) refl

pub site_fault_item : (number limit : ℕ) (b : board.Windows) → 1 ≤ limit → limit ≤ highest_limit → 1 ≤ number → number ≤ last_site → has_site number (board.bare b) ≡ true
    → Some BadSite ≡ site_open_fault number limit (board.bare b)
site_fault_item number limit b low high first last own = rw (within 1 highest_limit limit low high, within 1 last_site number first last, own) refl

pub site_fault_none : (number limit : ℕ) (b : board.Windows) → 1 ≤ limit → limit ≤ highest_limit → 1 ≤ number → number ≤ last_site → has_site number (board.bare b) ≡ false
    → None ≡ site_open_fault number limit (board.bare b)
site_fault_none number limit b low high first last foreign = rw (within 1 highest_limit limit low high, within 1 last_site number first last, foreign) refl

-- What is known of an edit that a star takes.

-- the link of a number has it
pub link_site : {Operation : Type 0} (i : ℕ) (l : LinkState Operation) (links : List (LinkState Operation)) → link_of i links ≡ Some l → l.site ≡ i
link_site i l [] found = absurd (cc)
link_site {Operation = Operation} i l (k ∷ later) found = step (nat_eq k.site i) refl (link_site i l later) found
  where
    step : (b : Bool) → nat_eq k.site i ≡ b → (link_of i later ≡ Some l → l.site ≡ i) → cond b (Some k) (link_of i later) ≡ Some l → l.site ≡ i
    step true e rest h = let same : k ≡ l = cc in subst (λ (x : LinkState Operation). x.site ≡ i) same (eqb-true _ _ e)
    step false e rest h = rest h

module _ (O : Operations) (L : AreLawful O) where
  -- an operation inserts no other name past others
  inserted_past : (side : Side) (o e : O.Op) (n : O.t.Name) → O.t.inserts (O.t.edit_of (past O.t side o e)) n → O.t.inserts (O.t.edit_of o) n
  inserted_past Client o e n put = L.keeps.inserts_client o e n put
  inserted_past Server o e n put = L.keeps.inserts_server o e n put

  inserted_row : (side : Side) (o : O.Op) (es : List O.Op) (n : O.t.Name) → O.t.inserts (O.t.edit_of (row_operation (past O.t side) o es)) n → O.t.inserts (O.t.edit_of o) n
  inserted_row side o [] n put = put
  inserted_row side o (e ∷ es) n put = inserted_past side o e n (inserted_row side (past O.t side o e) es n put)

  pub inserted_at : (e : EndLink O.Op) (m : Msg O.Op) (n : O.t.Name) → O.t.inserts (O.t.edit_of (operation_at O e m)) n → O.t.inserts (O.t.edit_of m.op) n
  inserted_at e m n put = inserted_row (opposite e.side) m.op (unheard e m.heard) n put

  -- all that was asked of an edit that was taken holds
  passed : (s : StarOf O) (l : LinkState O.Op) (m : Msg O.Op) → up_fault O s l (Op m) ≡ None
      → AllHold (early_tests O s.limit (length s.order) l m ++ test (fits_board O s.board l m) BadOp ∷ [])
  passed s l m none = all_hold (early_tests O s.limit (length s.order) l m ++ test (fits_board O s.board l m) BadOp ∷ []) none

  -- it inserts names of its site alone
  pub taken_site : (s : StarOf O) (l : LinkState O.Op) (m : Msg O.Op) (n : O.t.Name) → up_fault O s l (Op m) ≡ None
      → O.t.inserts (O.t.edit_of (operation_at O l.end m)) n → O.site_of n ≡ l.site
  taken_site s l m n none put = L.next_site l.site l.named (O.t.edit_of m.op) n (passed s l m none).1.1.1.0 (inserted_at l.end m n put)

  -- it is valid at the star
  pub taken_valid : (s : StarOf O) (l : LinkState O.Op) (m : Msg O.Op) → up_fault O s l (Op m) ≡ None → O.t.is_valid (operation_at O l.end m) s.board
  taken_valid s l m none = (L.decides (operation_at O l.end m) s.board).0 (passed s l m none).1.1.1.1.1.0

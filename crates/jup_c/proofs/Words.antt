-- A handle's two words, and what it owns beside them. Assumes `Logic`.
--     E            a client in a box, on the heap
--     word         the machine value of the two words
--     Words        the two fields by themselves: words_in makes what is owned of them, words_out takes it apart
--     either_held  a handle owns nothing, and its word is null; or it owns a client behind a pointer that may be compared with null
use mathlib.Core.Path.{◌≡◌, refl, subst}
use lib.Dec.{T, lit<}
use seplogic.Ra.Ura.{Ura}
use mir.Syntax.{impl, tnil, dnil, ty_ptr}
use mir.Raw.{raw as bare}
use mir.Val.{Val, vstruct, vcons, vnil, of_list, has_ty, WT}
use base.Logic.{via, snd∗, never_e, guard_i}
use base.Fml.{Fml, ftrue}
use base.Fraction.{full_share}
use types.Logic.{Logic, sem}
use types.Kit.{Item, Goal, Seq, Step, step, ‵, given, ◌$◌, move, drop, use1, learn, fsplit, fjoin, fpick, fpack, feq_i, feq_l}
use contract.Monad.{fact_use}
use denote.RattleType.{RattleType, Valss}
use denote.Memory.{lone}
use denote.RawPtr.{Ptr, RawPtr, block_ptr, null_ptr, ptr_val, lies_at, Testable}
use denote.Steps.{nothing}
use denote.Struct.Struct.{Struct, within}
use denote.Signature.{Slot, plain}
use Rattle.std.specs.Prelude.{Option, None, Some, ℕ, Bool, true, false, ◌&&◌, List, [], ◌∷◌, ◌++◌}
use Rattle.core.proofs.alloc.Calls.{handle_tells, α}
use Rattle.core.proofs.cell.Inside.{Good}
use Rattle.std_alloc.specs.Box.Ownership.{box_owns}
use Rattle.std_alloc.proofs.BoxSteps.Form.{Bx}
use Rattle.std_heap.specs.contracts.Global as Heap
use Rattle.std_heap.specs.contracts.GlobalAllocator.TheImpl.{ghosts, dict}
use Rattle.std_heap.proofs.Global.TheLaws as heap
use Rattle.std.proofs.GlobalToken.{dealloc_token-Testable}
use Rattle.jup_c.specs.Prelude.{AnyClient, Global}
use Rattle.jup_reconnect.specs.contracts.any.AnyClient.{the_row as R}
use Rattle.jup_reconnect.proofs.any.AnyClient.TheLaws as laws
use Rattle.jup_c.specs.contracts.handle.JupClient as Handle
use Rattle.jup_c.specs.contracts.handle.parts.Parts as Parts
use Rattle.jup_c.specs.Handles.{held}

abbrev pub E : Bx
E = record { row = R; laws = laws.the_row_laws; al = record { row = Heap.the_row; laws = heap.the_row_laws; g = ghosts; d = dict; drops = impl [] tnil dnil } }

abbrev pub Fits : Val → Type 0
Fits handle = Good (α E.al) handle

-- the parameter of a function that takes an allocator, a handle, or the parts of a box
abbrev pub FromAlloc : Slot 0
FromAlloc = plain (λ _. Heap.the_row)

abbrev pub FromHandle : Slot 0
FromHandle = plain (λ _. Handle.the_row)

abbrev pub FromParts : Slot 0
FromParts = plain (λ _. Parts.the_row R Heap.the_row ghosts)

abbrev pub word : Ptr → Val → Val
word p handle = vstruct (vcons (ptr_val p) (vcons handle vnil))

pub ptr_typed : (p : Ptr) → Good ty_ptr (ptr_val p)
ptr_typed (block_ptr b o) = (tt, tt)
ptr_typed null_ptr = (tt, record { fits = lit< tt })

both : (x y : Bool) → T x → T y → T (x && (y && true))
both true true s t = tt
both true false s t = absurd t
both false y s t = absurd s

pub word_typed : (p : Ptr) (handle : Val) → Fits handle → T (has_ty ty_ptr (ptr_val p) && (has_ty (α E.al) handle && true)) × WT (word p handle)
word_typed p handle fits = (both (has_ty ty_ptr (ptr_val p)) (has_ty (α E.al) handle) (ptr_typed p).0 fits.0, ((ptr_typed p).1, (fits.1, tt)))

abbrev Fields : List RattleType
Fields = RawPtr ∷ Heap.the_row ∷ []

abbrev pub Words : RattleType
Words = Struct (record { name = []; args = []; types = []; fields = Fields })

module _ {M : Type 1} {𝓤 : Ura M} {𝓛 : Logic 𝓤} {K : Type 0} {Γ : List (Item 𝓤)} {G : Goal 𝓤 𝓛.H} where
  pub words_in : K → (p : Ptr) (a : Global) (handle : Val)
      → Step K 𝓛 (‵ (Words.own_val (p, (a, tt)) (word p handle ∷ [])) ∷ Γ) G (‵ (Heap.the_row.own_val a (handle ∷ [])) ∷ Γ) G
  words_in t p a handle = step (λ s.
      nothing t $ move t (1 ∷ 0 ∷ []) $ fjoin t $ feq_i t (List Val) (ptr_val p ∷ []) (ptr_val p ∷ []) refl $ fjoin t $ feq_i t (List Val) (word p handle ∷ []) (word p handle ∷ []) refl $ fjoin t $
      fpack t (Valss Fields) (within (record { name = []; args = []; types = []; fields = Fields }) (p, (a, tt)) (word p handle ∷ [])) (ptr_val p ∷ [], (handle ∷ [], tt)) $ s)

  pub words_out : K → (p : Ptr) (a : Global) (vs : List Val)
      → ((handle : Val) → vs ≡ word p handle ∷ [] → Fits handle → Seq K 𝓛 (‵ (Heap.the_row.own_val a (handle ∷ [])) ∷ Γ) G)
      → Seq K 𝓛 (‵ (Words.own_val (p, (a, tt)) vs) ∷ Γ) G
  words_out t p a vs k =
      fpick t (λ parts. fsplit t $ feq_l t (λ whole. fsplit t $ feq_l t (λ first. fsplit t $ handle_tells E.al t a parts.1.0 (λ handle second fits. move t (1 ∷ []) $ drop t $ k handle
      (subst (λ (us : List Val). vs ≡ vstruct (of_list (ptr_val p ∷ (us ++ []))) ∷ []) second (subst (λ (us : List Val). vs ≡ vstruct (of_list (us ++ (parts.1.0 ++ []))) ∷ []) first whole)) fits))))

  pub either_held : K → (a : Global) (p : Ptr) (inside : Option AnyClient)
      → (p ≡ null_ptr → inside ≡ None → Seq K 𝓛 Γ G)
      → ((b o : ℕ) (x : AnyClient) → p ≡ block_ptr b o → inside ≡ Some x → Testable (block_ptr b o) → Seq K 𝓛 (‵ (box_owns (ghosts.dealloc_token a) R (block_ptr b o) x) ∷ Γ) G)
      → Seq K 𝓛 (‵ (held a p inside) ∷ Γ) G
  either_held t a null_ptr None none one = drop t $ none refl refl
  either_held t a null_ptr (Some x) none one = use1 𝓛 (given ⊥ (‵ ftrue)) (never_e 𝓤 _) $ learn t (λ e. absurd e)
  either_held t a (block_ptr b o) None none one = use1 𝓛 (given ⊥ (‵ ftrue)) (never_e 𝓤 _) $ learn t (λ e. absurd e)
  either_held t a (block_ptr b o) (Some x) none one =
      let p : Ptr = block_ptr b o in let owned : Fml = box_owns (ghosts.dealloc_token a) R p x in let token = ghosts.dealloc_token a (bare (lone R.mir)) p in
      use1 𝓛 (given (Testable p) (‵ owned)) (fact_use 𝓤 (Testable p) (via 𝓤 _ (snd∗ 𝓤 (sem 𝓛 (lies_at R full_share p x)) (sem 𝓛 token)) (dealloc_token-Testable 𝓛 a (bare (lone R.mir)) p)) (guard_i 𝓤 (Testable p) (sem 𝓛 owned))) $
      learn t (λ tests. one b o x refl refl tests)

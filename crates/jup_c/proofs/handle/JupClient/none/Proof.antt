-- `none` makes a handle of null and the allocator that it is given.
use mathlib.Core.Path.{refl, sym, subst}
use mir.Val.{Val}
use base.Logic.{SProp, ent, emp, id⊢}
use base.Fml.{ftrue, fsep}
use prog.Wp.{WpFn}
use types.Kit.{‵, raw, ◌⊛◌, ◌$◌, ◌∵◌, !, qed, move, drop, use1, join, split, fsplit, fjoin, suffices, done}
use types.Part.{agg}
use types.Run.{lit, no_more, and_then, returns, enter}
use types.ByLocal.{alloc_all, pass_all, free_all, look_at, get, sets}
use contract.Running.{tables}
use denote.Exit.{yes}
use denote.RawPtr.{null_ptr}
use denote.Signature.{type_at}
use denote.Steps.{nothing}
use denote.Triple.Walked.{says, Stays, stay_dropped, walk_of, ends_at, Goes-dropped}
use Rattle.std.specs.Prelude.{None, List, [], ◌∷◌, ◌++◌}
use Rattle.std.proofs.raw_atomic.Walks.{proved_at}
use Rattle.core.proofs.alloc.Calls.{handle_tells}
use Rattle.std_heap.specs.contracts.Global as Heap
use Rattle.jup_c.proofs.Words.{E, FromAlloc as From, word, word_typed, words_in}
use Rattle.jup_c.specs.contracts.handle.JupClient.none as F
use Rattle.jup_c.specs.contracts.handle.JupClient.none.Key.{name as #self}
use Rattle.jup_c.proofs.handle.JupClient.none.Statement.{statement}
use Rattle.jup_c.proofs.handle.JupClient.none.Code as code

pub none_spec : {M : Type 1} → statement M
none_spec 𝓤 𝓛 𝓜 𝓡 wired =
    let 𝓣 = tables 𝓤 𝓛.H 𝓜 𝓡 𝓡.env in let c = F.clauses 𝓛 𝓜.mem 𝓡.returns in
    let stays : Stays F.ended.signature.params F.ended.kept = (stay_dropped From yes, tt) in
    proved_at 𝓛 F.ended stays c 𝓜 𝓡 (Goes-dropped 𝓛 0 From yes (λ κs x f. refl), tt) #self code.function (code.unfolded 𝓤 𝓛.H 𝓜 𝓡 wired) (λ z are.
    let a = z.0.3.0 in let Post : Val → SProp 𝓤 = (walk_of 𝓛 F.ended stays c).post z in let Run : List Val → SProp 𝓤 = λ us. WpFn 𝓤 𝓛.H 𝓣.C 𝓣.Λ code.function us Post in
    let To = type_at F.signature.result tt in let made : To.Denot = record { at = null_ptr; alloc = a; inside = None } in
    qed 𝓛 ((‵ ftrue ⊛ ‵ (fsep (Heap.the_row.own_val a z.0.4.0) ftrue)) ∷ raw (emp 𝓤) ∷ []) ∵ split ! $ drop ! $ fsplit ! $ handle_tells E.al ! a z.0.4.0 (λ handle is fits.
    suffices ! (Run (handle ∷ [])) (subst (λ (us : List Val). ent 𝓤 (Run (handle ∷ [])) (Run us)) (sym (λ i. is i ++ [])) (id⊢ 𝓤 _)) $ move ! (1 ∷ 2 ∷ []) $ drop ! $ drop ! $
    enter ! 𝓣.C 𝓣.Λ code.function (handle ∷ []) Post $ alloc_all ! (λ l. pass_all ! refl (fits, tt) $
    sets ! (agg ! (and_then ! (lit ! tt) (and_then ! (get ! refl) (no_more !)))) refl (word_typed null_ptr handle fits) $ returns ! (look_at ! 0 refl) $ free_all ! refl $
    words_in ! null_ptr a handle $ nothing ! $ move ! (1 ∷ 0 ∷ []) $ fjoin ! $ use1 𝓛 (‵ (To.own_val made (word null_ptr handle ∷ []))) (id⊢ 𝓤 _) $
    suffices ! _ (ends_at 𝓛 F.ended stays c z (word null_ptr handle) made (tt, tt) (tt, tt)) $ says ! refl $ nothing ! $ nothing ! $ fjoin ! $ join ! $ nothing ! $ join ! $ done !)))

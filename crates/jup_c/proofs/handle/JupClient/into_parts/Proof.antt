-- `into_parts` compares the word with null: at null nothing is owned, and else the pointer takes with it what the handle owns.
use mathlib.Core.Path.{refl, sym, subst}
use lib.Dec.{lit<}
use mir.Val.{Val, vcons, vnil}
use base.Logic.{SProp, ent, emp, id⊢}
use base.Fml.{ftrue, fsep}
use prog.Wp.{WpFn}
use types.Kit.{‵, raw, ◌⊛◌, at_ret, ◌$◌, ◌∵◌, !, qed, move, keep, drop, use0, use1, join, split, fsplit, fjoin, regoal, suffices, done, prop}
use types.Part.{whole, sub, agg}
use types.Match.{live}
use types.Run.{stop, fld, lit, bin, of_opd, no_more, and_then, first, branches, exec, returns, enter}
use types.ByLocal.{alloc_all, pass_all, free_all, look_at, get, get_in, sets, sets_last, env}
use contract.Running.{tables}
use denote.Exit.{yes}
use denote.Param.{layout}
use denote.RawPtr.{block_ptr, null_ptr, tests_null}
use denote.RattleType.{RattleType}
use denote.Signature.{type_at}
use denote.Steps.{nothing}
use denote.Triple.Walked.{says, Stays, stay_dropped, walk_of, ends_at, Goes-dropped}
use Rattle.std.specs.Prelude.{None, Some, List, [], ◌∷◌, ◌++◌}
use Rattle.std.proofs.raw_atomic.Walks.{proved_at}
use Rattle.core.proofs.alloc.Shapes.{after}
use Rattle.core.proofs.cell.Inside.{Good}
use Rattle.core.proofs.option.Made.{Some-of, none_of}
use Rattle.std_alloc.proofs.ResultValues.{and_tt}
use Rattle.std_heap.specs.contracts.Global as Heap
use Rattle.std_heap.specs.contracts.GlobalAllocator.TheImpl.{ghosts}
use Rattle.jup_reconnect.specs.contracts.any.AnyClient.{the_row as R}
use Rattle.jup_c.specs.contracts.handle.parts.Parts as Parts
use Rattle.jup_c.specs.Handles.{held}
use Rattle.jup_c.proofs.Words.{FromHandle as From, Words, word, word_typed, ptr_typed, words_in, words_out, either_held}
use Rattle.jup_c.specs.contracts.handle.JupClient.into_parts as F
use Rattle.jup_c.specs.contracts.handle.JupClient.into_parts.Key.{name as #self}
use Rattle.jup_c.proofs.handle.JupClient.into_parts.Statement.{statement}
use Rattle.jup_c.proofs.handle.JupClient.into_parts.Code as code

pub into_parts_spec : {M : Type 1} → statement M
into_parts_spec 𝓤 𝓛 𝓜 𝓡 wired =
    let 𝓣 = tables 𝓤 𝓛.H 𝓜 𝓡 𝓡.env in let c = F.clauses 𝓛 𝓜.mem 𝓡.returns in
    let stays : Stays F.ended.signature.params F.ended.kept = (stay_dropped From yes, tt) in
    proved_at 𝓛 F.ended stays c 𝓜 𝓡 (Goes-dropped 𝓛 0 From yes (λ κs x f. refl), tt) #self code.function (code.unfolded 𝓤 𝓛.H 𝓜 𝓡 wired) (λ z are.
    let h = z.0.3.0 in let a = h.alloc in let Post : Val → SProp 𝓤 = (walk_of 𝓛 F.ended stays c).post z in let Run : List Val → SProp 𝓤 = λ us. WpFn 𝓤 𝓛.H 𝓣.C 𝓣.Λ code.function us Post in
    let P : RattleType = Parts.the_row R Heap.the_row ghosts in let To : RattleType = type_at F.signature.result tt in
    qed 𝓛 ((‵ ftrue ⊛ ‵ (fsep (fsep (Words.own_val (h.at, (a, tt)) z.0.4.0) (held a h.at h.inside)) ftrue)) ∷ raw (emp 𝓤) ∷ []) ∵ split ! $ drop ! $ fsplit ! $ fsplit ! $
    words_out ! h.at a z.0.4.0 (λ handle is fits. let two = word h.at handle in
    suffices ! (Run (two ∷ [])) (subst (λ (us : List Val). ent 𝓤 (Run (two ∷ [])) (Run us)) (sym (λ i. is i ++ [])) (id⊢ 𝓤 _)) $ keep ! (1 ∷ 0 ∷ []) $
    either_held ! a h.at h.inside
    (λ null without. regoal ! (λ p. prop (Run (word p handle ∷ []))) null refl $
    enter ! 𝓣.C 𝓣.Λ code.function (word null_ptr handle ∷ []) Post $ alloc_all ! (λ l. pass_all ! refl (word_typed null_ptr handle fits, tt) $
    sets ! (of_opd ! (get_in ! (fld ! refl (stop !)) (sub ! 0 refl (whole !)))) refl (ptr_typed null_ptr) $ sets ! (of_opd ! (get_in ! (fld ! refl (stop !)) (sub ! 1 refl (whole !)))) refl fits $
    sets ! (bin ! (get ! refl) (lit ! tt) tt) refl (tt, tt) $ first ! $ branches ! (get ! refl)
    (λ _. sets_last ! (agg ! (and_then ! (lit ! tt) (no_more !))) refl (tt, (record { fits = lit< tt }, tt)) $ exec ! 𝓣.C 𝓣.Λ (env code.function.locals l) (after 4 code.function.body) (at_ret _ Post) $
    sets ! (of_opd ! (get ! refl)) refl (tt, (record { fits = lit< tt }, tt)) $ use0 𝓛 (‵ (To.own_val None (live 0 vnil ∷ []))) (none_of 𝓛 P) $
    returns ! (look_at ! 0 refl) $ free_all ! refl $ keep ! (0 ∷ []) $
    suffices ! _ (ends_at 𝓛 F.ended stays c z (live 0 vnil) None (tt, tt) (tt, tt)) $ says ! without $ nothing ! $ nothing ! $ fjoin ! $ join ! $ nothing ! $ join ! $ done !)
    (λ wrong. absurd wrong)))
    (λ b o x there with_one tests. regoal ! (λ p. prop (Run (word p handle ∷ []))) there refl $
    let made : P.Denot = record { at = block_ptr b o; alloc = a; value = x } in let v : Val = word (block_ptr b o) handle in let typed = word_typed (block_ptr b o) handle fits in
    let good : Good (layout To) (live 1 (vcons v vnil)) = (and_tt _ typed.0, (record { fits = lit< tt }, (typed.1, tt))) in
    enter ! 𝓣.C 𝓣.Λ code.function (v ∷ []) Post $ alloc_all ! (λ l. pass_all ! refl (typed, tt) $
    sets ! (of_opd ! (get_in ! (fld ! refl (stop !)) (sub ! 0 refl (whole !)))) refl (tt, tt) $ sets ! (of_opd ! (get_in ! (fld ! refl (stop !)) (sub ! 1 refl (whole !)))) refl fits $
    sets ! (bin ! (get ! refl) (lit ! tt) (tests_null (block_ptr b o) tests)) refl (tt, tt) $ first ! $ branches ! (get ! refl) (λ wrong. absurd wrong)
    (λ _. sets ! (of_opd ! (get ! refl)) refl (tt, tt) $ sets ! (agg ! (and_then ! (get ! refl) (and_then ! (get ! refl) (no_more !)))) refl typed $
    sets_last ! (agg ! (and_then ! (lit ! tt) (and_then ! (get ! refl) (no_more !)))) refl good $ exec ! 𝓣.C 𝓣.Λ (env code.function.locals l) (after 4 code.function.body) (at_ret _ Post) $
    sets ! (of_opd ! (get ! refl)) refl good $ move ! (1 ∷ 0 ∷ []) $ words_in ! (block_ptr b o) a handle $ fjoin ! $ use1 𝓛 (‵ (P.own_val made (v ∷ []))) (id⊢ 𝓤 _) $
    use1 𝓛 (‵ (To.own_val (Some made) (live 1 (vcons v vnil) ∷ []))) (Some-of 𝓛 P made v) $
    returns ! (look_at ! 0 refl) $ free_all ! refl $
    suffices ! _ (ends_at 𝓛 F.ended stays c z (live 1 (vcons v vnil)) (Some made) (tt, tt) (tt, tt)) $ says ! with_one $ nothing ! $ nothing ! $ fjoin ! $ join ! $ nothing ! $ join ! $ done !)))))

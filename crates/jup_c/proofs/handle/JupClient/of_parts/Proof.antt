-- `of_parts` moves the pointer and the allocator into a handle, and what they own goes with them.
use mathlib.Core.Path.{refl, sym, subst}
use mir.Val.{Val}
use base.Logic.{SProp, ent, emp, id⊢}
use base.Fml.{ftrue, fsep}
use prog.Wp.{WpFn}
use types.Kit.{‵, raw, ◌⊛◌, ◌$◌, ◌∵◌, !, qed, move, drop, use1, join, split, fsplit, fjoin, suffices, done}
use types.Part.{whole, sub, agg}
use types.Run.{stop, fld, of_opd, no_more, and_then, returns, enter}
use types.ByLocal.{alloc_all, pass_all, free_all, look_at, get, get_in, sets}
use contract.Running.{tables}
use denote.Exit.{yes}
use denote.Signature.{type_at}
use denote.Steps.{nothing}
use denote.Triple.Walked.{says, Stays, stay_dropped, walk_of, ends_at, Goes-dropped}
use Rattle.std.specs.Prelude.{Some, List, [], ◌∷◌, ◌++◌}
use Rattle.std.proofs.raw_atomic.Walks.{proved_at}
use Rattle.std_alloc.proofs.BoxSteps.Form.{D, B, word, box_typed}
use Rattle.std_alloc.proofs.BoxSteps.Steps.{box_out, box_in}
use Rattle.jup_c.proofs.Words.{E, FromParts as From}
use Rattle.jup_c.specs.contracts.handle.JupClient.of_parts as F
use Rattle.jup_c.specs.contracts.handle.JupClient.of_parts.Key.{name as #self}
use Rattle.jup_c.proofs.handle.JupClient.of_parts.Statement.{statement}
use Rattle.jup_c.proofs.handle.JupClient.of_parts.Code as code

pub of_parts_spec : {M : Type 1} → statement M
of_parts_spec 𝓤 𝓛 𝓜 𝓡 wired =
    let 𝓣 = tables 𝓤 𝓛.H 𝓜 𝓡 𝓡.env in let c = F.clauses 𝓛 𝓜.mem 𝓡.returns in
    let stays : Stays F.ended.signature.params F.ended.kept = (stay_dropped From yes, tt) in
    proved_at 𝓛 F.ended stays c 𝓜 𝓡 (Goes-dropped 𝓛 0 From yes (λ κs x f. refl), tt) #self code.function (code.unfolded 𝓤 𝓛.H 𝓜 𝓡 wired) (λ z are.
    let parts = z.0.3.0 in let Post : Val → SProp 𝓤 = (walk_of 𝓛 F.ended stays c).post z in let Run : List Val → SProp 𝓤 = λ us. WpFn 𝓤 𝓛.H 𝓣.C 𝓣.Λ code.function us Post in
    let box : D E = record { ptr = parts.at; alloc = parts.alloc; value = parts.value } in
    let To = type_at F.signature.result tt in
    qed 𝓛 ((‵ ftrue ⊛ ‵ (fsep ((B E).own_val box z.0.4.0) ftrue)) ∷ raw (emp 𝓤) ∷ []) ∵ split ! $ drop ! $ fsplit ! $ box_out E ! box z.0.4.0 (λ b o handle at is fits.
    let two = word E handle b o in let made : To.Denot = record { at = denote.RawPtr.block_ptr b o; alloc = parts.alloc; inside = Some parts.value } in
    suffices ! (Run (two ∷ [])) (subst (λ (us : List Val). ent 𝓤 (Run (two ∷ [])) (Run us)) (sym (λ i. is i ++ [])) (id⊢ 𝓤 _)) $
    box_in E ! (record box { ptr = denote.RawPtr.block_ptr b o }) b o parts.value refl refl $ use1 𝓛 (‵ (To.own_val made (two ∷ []))) (id⊢ 𝓤 _) $ move ! (1 ∷ 2 ∷ []) $ drop ! $ drop ! $
    enter ! 𝓣.C 𝓣.Λ code.function (two ∷ []) Post $ alloc_all ! (λ l. pass_all ! refl (box_typed E handle b o fits, tt) $
    sets ! (of_opd ! (get_in ! (fld ! refl (stop !)) (sub ! 0 refl (whole !)))) refl (tt, tt) $ sets ! (of_opd ! (get_in ! (fld ! refl (stop !)) (sub ! 1 refl (whole !)))) refl fits $
    sets ! (of_opd ! (get ! refl)) refl (tt, tt) $ sets ! (agg ! (and_then ! (get ! refl) (and_then ! (get ! refl) (no_more !)))) refl (box_typed E handle b o fits) $ returns ! (look_at ! 0 refl) $ free_all ! refl $
    suffices ! _ (ends_at 𝓛 F.ended stays c z two made (tt, tt) (tt, tt)) $ says ! refl $ nothing ! $ nothing ! $ fjoin ! $ join ! $ nothing ! $ join ! $ done !)))

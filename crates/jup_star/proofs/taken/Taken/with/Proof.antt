-- `with` makes a value of no bytes, whose ghost field is the list that it was shown with one more entry.
use Rattle.std.proofs.Common.{refl, [], ◌∷◌, ◌++◌}
use Rattle.std.proofs.raw_atomic.Walks.{proved}
use mir.Syntax.{named}
use mir.Val as val
use base.Logic.{emp}
use types.Kit.{‵, ◌⊛◌, ◌$◌, ◌∵◌, ! }
use types.Kit as kit
use types.Part.{agg}
use types.Run as run
use types.ByLocal as local
use denote.Exit.{yes}
use denote.RattleType.{owns}
use denote.Ref as ref
use denote.Shadow.{pure_i}
use denote.Signature.{plain, types_at}
use denote.Triple.Entry.{alive}
use denote.Triple.Walked as walk
use Rattle.jup_batch.specs.Boards.{edit_of}
use Rattle.jup_star.specs.contracts.noted.Noted as noted
use Rattle.jup_star.specs.contracts.taken.Taken as taken
use Rattle.jup_star.specs.contracts.taken.Taken.with as F
use Rattle.jup_star.proofs.taken.Taken.with.Statement.{statement}
use Rattle.jup_star.proofs.taken.Taken.with.Code as code

abbrev stayed : walk.Stays F.ended.signature.params F.ended.kept
stayed = (walk.stay_none_ref (0 ∷ []) tt (plain (λ _. taken.the_row)) yes, (walk.stay_none_ref (1 ∷ []) tt (plain (λ _. noted.the_row)) yes, tt))

pub with_spec : {M : Type 1} → statement M
with_spec 𝓤 𝓛 𝓜 𝓡 wired =
    let c = F.clauses 𝓛 𝓜.mem 𝓡.returns in
    proved 𝓛 F.ended stayed c 𝓜 𝓡 (walk.Goes-none_ref 𝓛 2 (0 ∷ []) tt (plain (λ _. taken.the_row)) yes, (walk.Goes-none_ref 𝓛 2 (1 ∷ []) tt (plain (λ _. noted.the_row)) yes, tt))
    F.Key.name code.function (code.unfolded 𝓤 𝓛.H 𝓜 𝓡 wired)
    (λ κs. (ref.shr_vals, (ref.shr_vals, tt))) (λ κs. (ref.shr_Tells (named 0) κs.0 taken.the_row, (ref.shr_Tells (named 1) κs.1.0 noted.the_row, tt))) (λ κs qs bounds a g are.
    let before = val.vptr a.0.ref_ptr.0 a.0.ref_ptr.1 in let last = val.vptr a.1.0.ref_ptr.0 a.1.0.ref_ptr.1 in
    let made : taken.the_row.Denot = record { entries = a.0.now.entries ++ record { site = a.1.0.now.site; edit = edit_of a.1.0.now.msg.value.op } ∷ [] } in
    kit.qed 𝓛 ((kit.raw (alive 𝓛 F.signature κs qs) ⊛ ‵ (owns (types_at F.signature.params κs) a (before ∷ [], (last ∷ [], tt)))) ∷ kit.raw (emp 𝓤) ∷ []) ∵ kit.split ! $ kit.keep ! (0 ∷ 1 ∷ []) $
    run.enter ! _ _ _ _ _ $ local.alloc_all ! (λ l. local.pass_all ! refl ((tt, tt), ((tt, tt), tt)) $
    local.sets ! (agg ! (run.no_more !)) refl (tt, tt) $ run.returns ! (local.look_at ! 0 refl) $ local.free_all ! refl $
    kit.suffices ! _ (walk.ends_at 𝓛 F.ended stayed c ((κs, qs, bounds, a, (before ∷ [], (last ∷ [], tt))), g) (val.vstruct val.vnil) made (tt, (tt, tt)) (tt, (tt, tt))) $ walk.says ! refl $
    -- [the result; the tokens; what the references own]
    pure_i ! (taken.the_row.own_val made (val.vstruct val.vnil ∷ [])) ((λ vss. (tt, tt)), tt) ((tt, (refl, tt)), tt) $
    kit.move ! (1 ∷ 2 ∷ 0 ∷ []) $ kit.done !))

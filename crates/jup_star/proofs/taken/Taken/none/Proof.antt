-- `none` makes a value of no bytes, whose ghost field is the empty list.
use Rattle.std.proofs.Common.{refl, [], ◌∷◌}
use Rattle.std.proofs.raw_atomic.Walks.{proved}
use mir.Val as val
use base.Logic.{emp}
use types.Kit.{‵, ◌⊛◌, ◌$◌, ◌∵◌, ! }
use types.Kit as kit
use types.Part.{agg}
use types.Run as run
use types.ByLocal as local
use denote.RattleType.{owns}
use denote.Shadow.{pure_i}
use denote.Triple.Entry.{alive}
use denote.Triple.Walked as walk
use Rattle.jup_star.specs.contracts.taken.Taken as taken
use Rattle.jup_star.specs.contracts.taken.Taken.none as F
use Rattle.jup_star.proofs.taken.Taken.none.Statement.{statement}
use Rattle.jup_star.proofs.taken.Taken.none.Code as code

pub none_spec : {M : Type 1} → statement M
none_spec 𝓤 𝓛 𝓜 𝓡 wired =
    let c = F.clauses 𝓛 𝓜.mem 𝓡.returns in
    proved 𝓛 F.ended tt c 𝓜 𝓡 tt F.Key.name code.function (code.unfolded 𝓤 𝓛.H 𝓜 𝓡 wired) (λ κs. tt) (λ κs. tt) (λ κs qs bounds a g are.
    kit.qed 𝓛 ((kit.raw (alive 𝓛 F.signature κs qs) ⊛ ‵ (owns [] a tt)) ∷ kit.raw (emp 𝓤) ∷ []) ∵ kit.split ! $ kit.keep ! (0 ∷ 1 ∷ []) $
    run.enter ! _ _ _ _ _ $ local.alloc_all ! (λ l. local.pass_all ! refl tt $
    local.sets ! (agg ! (run.no_more !)) refl (tt, tt) $ run.returns ! (local.look_at ! 0 refl) $ local.free_all ! refl $
    kit.suffices ! _ (walk.ends_at 𝓛 F.ended tt c ((κs, qs, bounds, a, tt), g) (val.vstruct val.vnil) (record { entries = [] }) tt tt) $ walk.says ! refl $
    -- [the result; the tokens; nothing of the parameters]
    pure_i ! (taken.the_row.own_val (record { entries = [] }) (val.vstruct val.vnil ∷ [])) ((λ vss. (tt, tt)), tt) ((tt, (refl, tt)), tt) $
    kit.move ! (1 ∷ 2 ∷ 0 ∷ []) $ kit.done !))

use Rattle.std.proofs.Common.{Some, ap, sym, ◌∙◌, inl, inr}
use Rattle.jup_window.specs.Widgets.{inserted, deleted}
use Rattle.jup_window.specs.Boards.{place, edit_of}
use Rattle.jup_window.specs.Laws.Widgets.{apart_is, differ_from}
use Rattle.jup_window.specs.Laws.Boards.{inserted_there, deleted_there}
use Rattle.jup_window.specs.Laws.Operations.{inserts_own, deletes_own}
use Rattle.jup_window.proofs.laws.premises.Goals as goal

pub returns-clause-apart : goal.returns-clause-apart
returns-clause-apart c = λ one other. (
  λ apart m n first second same.
      apart_is (inserted one.op) (inserted other.op) m.name apart (inserted_there one m first)
      (inserted_there other n second ∙ ap Some (sym same)),
  λ differ. differ_from (inserted one.op) (inserted other.op) (λ m n first second.
      differ (record { at = place one; name = m }) (record { at = place other; name = n })
      (inserts_own (edit_of one) m first) (inserts_own (edit_of other) n second)),
)

pub returns-clause-fresh : goal.returns-clause-fresh
returns-clause-fresh c = λ later earlier. (
  λ fresh m n first second same. elim second [
    | inl again ↦ apart_is (inserted later.op) (inserted earlier.op) m.name fresh.0 (inserted_there later m first)
        (inserted_there earlier n again ∙ ap Some (sym same))
    | inr gone ↦ apart_is (inserted later.op) (deleted earlier.op) m.name fresh.1 (inserted_there later m first)
        (deleted_there earlier n gone ∙ ap Some (sym same))
  ],
  λ differ. (
    differ_from (inserted later.op) (inserted earlier.op) (λ m n first second.
        differ (record { at = place later; name = m }) (record { at = place earlier; name = n })
        (inserts_own (edit_of later) m first) (inl (inserts_own (edit_of earlier) n second))),
    differ_from (inserted later.op) (deleted earlier.op) (λ m n first second.
        differ (record { at = place later; name = m }) (record { at = place earlier; name = n })
        (inserts_own (edit_of later) m first) (inr (deletes_own (edit_of earlier) n second))),
  ),
)

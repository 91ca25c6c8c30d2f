use Rattle.std.proofs.Common.{rules, arith, ◌≡◌, ◌≤◌, ◌<◌, List, [], ◌∷◌, length, get_or, sym, ap}
use Rattle.jup_batch.specs.Boards as board
use Rattle.jup_star.proofs.Sites.{fresh_next}
use Rattle.jup_star.proofs.site.Site.name_batch.Goals as goal

-- a list of one element
only : {A : Type 0} (xs : List A) (x : A) → 1 ≤ length xs → length xs < 2 → x ≡ get_or xs 0 x → xs ≡ x ∷ []
only [] x some few at = absurd (omega (arith, some))
only (y ∷ []) x some few at = ap (λ z. z ∷ []) (sym at)
only (y ∷ (z ∷ ys)) x some few at = absurd (omega (arith, few))

pub name_it-requires : goal.name_it-requires
name_it-requires c = record { fresh = fresh_next c.command-item.result c.self.inside.number c.self.inside.named (board.bare c.self.inside.board) c.self.invariant.known }

pub returns-in_err-op-clause-refused : goal.returns-in_err-op-clause-refused
returns-in_err-op-clause-refused c =
    rw (only c.args.commands.now c.command-item.result (omega arith) (omega arith) c.command-item.is) (search rules)

pub returns-in_err-check_bounds-clause-refused : goal.returns-in_err-check_bounds-clause-refused
returns-in_err-check_bounds-clause-refused c =
    rw (only c.args.commands.now c.command-item.result (omega arith) (omega arith) c.command-item.is) (search rules)

pub returns-in-len1-clause-ok : goal.returns-in-len1-clause-ok
returns-in-len1-clause-ok c =
    rw (only c.args.commands.now c.command-item.result (omega arith) (omega arith) c.command-item.is) (search rules)

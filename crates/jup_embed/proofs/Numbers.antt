-- What numbers say.
use Rattle.std.proofs.Common.{◌≢◌, arith, ℕ, sym, subst, List, [], ◌∷◌, zero, suc, ◌+◌, ◌<◌, take, length, slice_index_or, slice_set, inl, inr, add-one}
use Rattle.jup_window.specs.declared.faults.EditFault.TheVariants.{NoWindow, NoWidget, WrongKind, BadPlace, BadValue, LongText, Backlog, NoMemory, Spent, BadBatch, Stopped}
use Rattle.jup_embed.specs.Prelude.{Command, EditFault, edit_fault_number}
use Rattle.jup_embed.specs.declared.plain.commands.PlainCommand.{PlainCommand}
use Rattle.jup_embed.specs.Sessions.{Session, MakesEdit}
use Rattle.jup_embed.specs.Numbers.{SpellAll, Spells, IsWrong, IsFirstWrong, MakesSpelled}

-- No fault of an edit has the number 0.

pub some_fault : (refused : EditFault) → edit_fault_number refused ≢ 0
some_fault NoWindow = λ e. omega (arith, e)
some_fault NoWidget = λ e. omega (arith, e)
some_fault WrongKind = λ e. omega (arith, e)
some_fault BadPlace = λ e. omega (arith, e)
some_fault BadValue = λ e. omega (arith, e)
some_fault LongText = λ e. omega (arith, e)
some_fault Backlog = λ e. omega (arith, e)
some_fault NoMemory = λ e. omega (arith, e)
some_fault Spent = λ e. omega (arith, e)
some_fault BadBatch = λ e. omega (arith, e)
some_fault Stopped = λ e. omega (arith, e)

-- Commands that are read one after the other.

spelled_next : (k : ℕ) (from : List PlainCommand) (to : List Command) (told : PlainCommand) (command : Command)
    → k < length from → k < length to → SpellAll (take k from) (take k to) → Spells (slice_index_or from k told) command
    → SpellAll (take (suc k) from) (take (suc k) (slice_set to k command))
spelled_next k [] to told command within room before is = absurd (omega (arith, within))
spelled_next k (first ∷ from) [] told command within room before is = absurd (omega (arith, room))
spelled_next zero (first ∷ from) (old ∷ to) told command within room before is = (is, tt)
spelled_next (suc k) (first ∷ from) (old ∷ to) told command within room before is =
    (before.0, spelled_next k from to told command (omega (arith, within)) (omega (arith, room)) before.1 is)

-- the numbers up to a place spell commands, and so do those there
pub one_more : (k : ℕ) (from : List PlainCommand) (to : List Command) (told : PlainCommand) (command : Command)
    → k < length from → k < length to → SpellAll (take k from) (take k to) → Spells (slice_index_or from k told) command
    → SpellAll (take (k + 1) from) (take (k + 1) (slice_set to k command))
one_more k from to told command within room before is =
    subst (λ (n : ℕ). SpellAll (take n from) (take n (slice_set to k command))) (sym (add-one k)) (spelled_next k from to told command within room before is)

-- the numbers up to a place spell commands, and those there are wrong
pub first_wrong : (k : ℕ) (from : List PlainCommand) (to : List Command) (told : PlainCommand) (fault : ℕ)
    → k < length from → SpellAll (take k from) to → IsWrong fault (slice_index_or from k told) → IsFirstWrong fault from
first_wrong k [] to told fault within before is = absurd (omega (arith, within))
first_wrong zero (first ∷ from) to told fault within before is = inl is
first_wrong (suc k) (first ∷ from) [] told fault within before is = absurd before
first_wrong (suc k) (first ∷ from) (command ∷ to) told fault within before is =
    inr (command, before.0, first_wrong k from to told fault (omega (arith, within)) before.1 is)

-- An edit of commands that numbers spell.

pub spelled_edit : (told : List PlainCommand) (commands : List Command) (c d : Session) → SpellAll told commands → MakesEdit commands c d → MakesSpelled told c d
spelled_edit told commands c d are edits = (commands, are, edits)

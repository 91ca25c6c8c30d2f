-- What a client reads.
use Rattle.std.proofs.Common.{◌≡◌, ◌≢◌, ◌≤◌, ◌<◌, ◌+◌, ◌-◌, ℕ, List, [], ◌∷◌, ◌++◌, length, map, Option, Some, None, inl, inr, refl, sym, ap, ◌∙◌, subst, arith, Bool, true, false, if◌then◌else◌, Vec, Global, ◌⊎◌, Err}
use Rattle.std.specs.List.{AllByRecursion}
use Rattle.std.proofs.lemmas.List.{append_assoc, length-append, length-map, map-append}
use Rattle.jup_client.specs.Prelude.{Command, Line, LayoutFault, Distinct, Request, Edit, Batch, Sync, Show, Quit, Bad, ClientEnd, NoMemory}
use Rattle.jup_text.specs.Commands.{command_text, batch_text, IsCommand, IsBatchCount}
use Rattle.jup_wire.proofs.Streams.{all-append}
use Rattle.jup_layout.specs.Drafts.{board_with, no_memory}
use Rattle.jup_layout.proofs.Texts.{refused_early}
use Rattle.jup_client.specs.Clients.{request_lines, IsRequest, IsRequestOf, IsNoCommand, AreCommands, IsBegunBy}
use Rattle.jup_client.specs.Ends.{end_of_layout}

-- What the lines of a user give, one by one.

-- ---- lines of commands

-- one more line that is a command
one_more : (others : List (List ℕ)) (line : List ℕ) (cs : List Command) (c : Command) → IsCommand c → line ≡ command_text c → AreCommands others (Some cs) → AreCommands (others ++ line ∷ []) (Some (cs ++ c ∷ []))
one_more others line cs c is spelled are = (
  ap (λ ls. ls ++ line ∷ []) are.0 ∙ ap (λ l. map command_text cs ++ l ∷ []) spelled ∙ sym (map-append command_text cs (c ∷ [])),
  all-append IsCommand cs (c ∷ []) are.1 (is, tt),
)

-- and one that is none
none_more : (others : List (List ℕ)) (line : List ℕ) (cs : Option (List Command)) → IsNoCommand line → AreCommands others cs → AreCommands (others ++ line ∷ []) None
none_more others line cs none are = (others, line, [], refl, none)

-- whatever comes, one that was none stays
still_none : (others : List (List ℕ)) (line : List ℕ) → AreCommands others None → AreCommands (others ++ line ∷ []) None
still_none others line are = (are.0, are.1, are.2 ++ line ∷ [], ap (λ ls. ls ++ line ∷ []) are.3 ∙ append_assoc are.0 (are.1 ∷ are.2) (line ∷ []), are.4)

-- each line of commands is one
placed : (before behind : List (List ℕ)) (line : List ℕ) (cs : List Command) → IsNoCommand line → AllByRecursion IsCommand cs → before ++ line ∷ behind ≢ map command_text cs
placed [] behind line [] none all e = absurd cc
placed [] behind line (c ∷ cs) none all e = none c all.0 (cc)
placed (b ∷ before) behind line [] none all e = absurd cc
placed (b ∷ before) behind line (c ∷ cs) none all e = placed before behind line cs none all.1 (cc)

nothing_behind : (before behind : List (List ℕ)) (line : List ℕ) → before ++ line ∷ behind ≢ []
nothing_behind [] behind line e = absurd cc
nothing_behind (b ∷ before) behind line e = absurd cc

-- lines of a batch of which one is no command are those of no request
no_request : (first : List ℕ) (others : List (List ℕ)) (other : Request) → AreCommands others None → IsRequest other → first ∷ others ≢ request_lines other
no_request first others (Edit command) are is e = nothing_behind are.0 are.2 are.1 (sym are.3 ∙ cc)
no_request first others (Batch commands) are is e = placed are.0 are.2 are.1 commands.items are.4 is.1 (sym are.3 ∙ cc)
no_request first others Sync are is e = nothing_behind are.0 are.2 are.1 (sym are.3 ∙ cc)
no_request first others Show are is e = nothing_behind are.0 are.2 are.1 (sym are.3 ∙ cc)
no_request first others Quit are is e = nothing_behind are.0 are.2 are.1 (sym are.3 ∙ cc)
no_request first others Bad are is e = absurd is

-- ---- lines of a batch

-- what the line after others makes of the commands so far
pub record IsNext (line : List ℕ) (old new : Option (List Command)) : Type 0 where
  pub more : (others : List (List ℕ)) → AreCommands others old → AreCommands (others ++ line ∷ []) new

pub some_next : (line : List ℕ) (c : Command) (old new : List Command) (was is : Bool) → IsCommand c → line ≡ command_text c → new ≡ old ++ c ∷ [] → is ≡ was
    → IsNext line (if was then None else Some old) (if is then None else Some new)
some_next line c old new false is is_c spelled more same = record {
  more = λ others are. subst (λ (b : Bool). AreCommands (others ++ line ∷ []) (if b then None else Some new)) (sym same)
      (subst (λ (cs : List Command). AreCommands (others ++ line ∷ []) (Some cs)) (sym more) (one_more others line old c is_c spelled are));
}
some_next line c old new true is is_c spelled more same = record {
  more = λ others are. subst (λ (b : Bool). AreCommands (others ++ line ∷ []) (if b then None else Some new)) (sym same) (still_none others line are);
}

pub none_next : (line : List ℕ) (old : Option (List Command)) (new : List Command) (is : Bool) → IsNoCommand line → is ≡ true → IsNext line old (if is then None else Some new)
none_next line old new is none bad = record {
  more = λ others are. subst (λ (b : Bool). AreCommands (others ++ line ∷ []) (if b then None else Some new)) (sym bad) (none_more others line old none are);
}

-- lines are still missing
pub goes_on : (lines : List (List ℕ)) (line : List ℕ) (missing : ℕ) (old new : Option (List Command)) → IsNext line old new → 1 < missing → IsBegunBy lines (missing, old)
    → IsBegunBy (lines ++ line ∷ []) (missing - 1, new)
goes_on lines line missing old new next more begun =
    let shorter : length begun.others + missing ≡ begun.count = begun.missing in
    let longer : length (begun.others ++ line ∷ []) ≡ length begun.others + 1 = length-append begun.others (line ∷ []) in
    record {
      count = begun.count;
      others = begun.others ++ line ∷ [];
      may = begun.may;
      come = ap (λ ls. ls ++ line ∷ []) begun.come;
      commands = next.more begun.others begun.commands;
      missing = ap (λ n. n + (missing - 1)) longer ∙ omega (arith, shorter, more);
      some = omega (arith, more);
    }

-- the last line of a batch whose lines are all commands
pub ends_whole : (lines : List (List ℕ)) (line : List ℕ) (missing : ℕ) (old : Option (List Command)) (commands : Vec Command Global) (is_bad : Bool)
    → IsNext line old (if is_bad then None else Some commands.items) → is_bad ≡ false → missing ≤ 1 → IsBegunBy lines (missing, old) → IsRequestOf (lines ++ line ∷ []) (Batch commands)
ends_whole lines line missing old commands false next good last begun =
    let are : AreCommands (begun.others ++ line ∷ []) (Some commands.items) = next.more begun.others begun.commands in
    let one : 1 ≤ missing = begun.some in
    let sum : length begun.others + missing ≡ begun.count = begun.missing in
    let longer : length (begun.others ++ line ∷ []) ≡ length begun.others + 1 = length-append begun.others (line ∷ []) in
    let long : length commands.items ≡ begun.count =
    sym (length-map commands.items command_text) ∙ sym (ap (λ (ls : List (List ℕ)). length ls) are.0) ∙ longer ∙ omega (arith, one, last, sum) in
    inl (
      (subst IsBatchCount (sym long) begun.may, are.1),
      ap (λ ls. ls ++ line ∷ []) begun.come ∙ ap (λ ls. batch_text begun.count ∷ ls) are.0 ∙ ap (λ n. batch_text n ∷ map command_text commands.items) (sym long),
    )
ends_whole lines line missing old commands true next good last begun = absurd cc

-- and of one of which a line is none
pub ends_bad : (lines : List (List ℕ)) (line : List ℕ) (missing : ℕ) (old : Option (List Command)) (commands : List Command) (is_bad : Bool)
    → IsNext line old (if is_bad then None else Some commands) → is_bad ≡ true → IsBegunBy lines (missing, old) → IsRequestOf (lines ++ line ∷ []) Bad
ends_bad lines line missing old commands false next bad begun = absurd cc
ends_bad lines line missing old commands true next bad begun = inr (
  refl,
  λ other is e.
      no_request (batch_text begun.count) (begun.others ++ line ∷ []) other (next.more begun.others begun.commands) is
      (ap (λ ls. ls ++ line ∷ []) (sym begun.come) ∙ e),
)

-- What is held of the lines of a welcome's board, and how the client is opened.

-- after a refused line each other leaves its fault
pub refused_still : (lines : List Line) (line : Line) (fault : LayoutFault) → board_with lines ≡ Err fault → board_with (lines ++ line ∷ []) ≡ Err fault
refused_still lines line fault e = refused_early Distinct lines (line ∷ []) fault e

-- a fault of a line is no failed allocation
pub not_memory : {P : Type 0} (fault : LayoutFault) → (fault ≡ no_memory) ⊎ P → fault.line ≢ 0 → P
not_memory fault (inl none) other = absurd (other (ap (λ (f : LayoutFault). f.line) none))
not_memory fault (inr due) other = due

-- and that is how the client ends
pub memory_ends : (fault : LayoutFault) (end : ClientEnd) → fault ≡ no_memory → end ≡ end_of_layout fault → end ≡ NoMemory
memory_ends fault end none is = is ∙ ap end_of_layout none

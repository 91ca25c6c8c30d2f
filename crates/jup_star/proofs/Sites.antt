-- What each call of a site keeps.
use Rattle.std.proofs.Common.{◌≡◌, refl, ℕ, ◌+◌, ◌≤◌, arith, ◌<◌, Bool, true, false, cond, List, [], ◌∷◌, length, nat_le, ap, suc, None, Result, Ok, Err, OnErr, inl, inr, ◌⊎◌}
use Rattle.std.proofs.lemmas.Bool.{false_from_ne_true, not-true}
use Rattle.std.proofs.lemmas.List.{length-append}
use Rattle.jup_star.specs.Prelude.{most_unacknowledged, Side, Client, Server, row_operation, past, opposite, Msg, EndLink as Link, IsCount, answered, after_send, owes, unheard, Command, BoardBatch, insertions_few, boards, board_batches, batch_laws as board_laws, DownOp as Op}
use Rattle.jup_window.specs.Commands.{IsFresh}
use Rattle.jup_window.specs.Boards as one
use Rattle.jup_batch.specs.Boards.{insertions, bears_site, foreign}
use Rattle.jup_batch.specs.Boards as board
use Rattle.jup_batch.specs.Laws.Boards.{inserts_where_room_lacks}
use Rattle.jup_star.specs.Faults.{first_fault}
use Rattle.jup_star.specs.Stars.{operation_at, end_after}
use Rattle.jup_star.specs.Sites.{IsSite, within_bounds, edit_answer, edited, received, deliver_tests, BoardSite}
use Rattle.jup_star.proofs.FaultTests.{all_hold, count_is}
use Rattle.jup_star.proofs.LinkChanges.{paid_generated, received_generated}
use Rattle.jup_batch.specs.Prelude.{Name, InsertAt as Insert, DeleteAt as Delete, RelabelAt as Relabel, SetValue as Set, EditFault}
use Rattle.jup_window.specs.declared.faults.EditFault.TheVariants.{Backlog, Spent, Stopped}

-- The names of a site's items.

-- no item of a site is held whose number is above some
abbrev pub AreKnown : ℕ → ℕ → one.Windows → Type 0
AreKnown i k b = (n : one.Placed) → one.Holds b n → n.name.site ≡ i → n.name.number ≤ k

-- the name that comes next is then free
pub fresh_next : (c : Command) (i k : ℕ) (b : one.Windows) → AreKnown i k b → IsFresh c (record { site = i; number = k + 1 }) b
fresh_next (Insert win wid p v) i k b known =
    let next : Name = record { site = i; number = k + 1 } in
    false_from_ne_true (one.held (win, wid) next b) (λ held. let low : k + 1 ≤ k = known (record { at = (win, wid); name = next }) held refl in absurd (omega arith))
fresh_next (Delete win wid p) i k b known = tt
fresh_next (Relabel win wid p v) i k b known = tt
fresh_next (Set win wid s) i k b known = tt

-- What of every site each call keeps.

-- what a site makes of a command is what the board makes of it
bounded_operation : (s : BoardSite) (r : Result BoardBatch EditFault) (op : BoardBatch) → within_bounds board_batches s r ≡ Ok op → r ≡ Ok op
bounded_operation s (Err n) op is = cc
bounded_operation s (Ok o) op is = backlog (nat_le most_unacknowledged (length s.end.outgoing)) (nat_le s.limit s.made) is where
  backlog : (a b : Bool) → cond {A = Result BoardBatch EditFault} a (Err Backlog) (cond {A = Result BoardBatch EditFault} b (Err Spent) (Ok o)) ≡ Ok op → ◌≡◌ {A = Result BoardBatch EditFault} (Ok o) (Ok op)
  backlog true b h = cc
  backlog false true h = cc
  backlog false false h = h

pub answer_operation : (s : BoardSite) (commands : List Command) (op : BoardBatch) → edit_answer board_batches commands s ≡ Ok op
    → board_batches.operation_of s.board commands s.number s.named ≡ Ok op
answer_operation s commands op is = running s.stopped is where
  running : (b : Bool) → (cond {A = Result BoardBatch EditFault} b (Err Stopped) (within_bounds board_batches s (board_batches.operation_of s.board commands s.number s.named))) ≡ Ok op
      → board_batches.operation_of s.board commands s.number s.named ≡ Ok op
  running true h = cc
  running false h = bounded_operation s _ op h

-- an edit of the site
known_edited : (i k : ℕ) (b : board.Windows) (op : BoardBatch) → AreKnown i k b → board.IsValid op b → board_batches.bears_next i k (board.edit_of op) ≡ true
    → AreKnown i (k + insertions (board.edit_of op)) (board.after op b)
known_edited i k b op known valid next n held own = by_case (board_laws.keeps.held_before b op n valid held) where
  by_case : board.Holds b n ⊎ board.Inserts (board.edit_of op) n → n.name.number ≤ k + insertions (board.edit_of op)
  by_case before = elim before [ inl had ↦ (let low = known n had own in omega arith) | inr new ↦ board_laws.next_within i k (board.edit_of op) n next new ]

pub edited_site : (s : BoardSite) (commands : List Command) (op : BoardBatch) → edit_answer board_batches commands s ≡ Ok op → board.IsValid op s.board → s.made < s.limit
    → IsSite board_batches s → IsSite board_batches (edited board_batches op s)
edited_site s commands op is valid room site =
    let next = board_laws.command_next s.board commands s.number s.named op (answer_operation s commands op is) in
    let few = insertions_few op in let short = valid.few in
    record {
      limited = site.limited;
      counted = omega arith;
      sent = let sent = site.sent in simp length-append (omega arith);
      insertions = let named = site.insertions in omega arith;
      known = known_edited s.number s.named s.board op site.known valid next;
    }

-- a site with another board, end and count of insertions, and one more edit
pub edited_with : (s : BoardSite) (op : BoardBatch) (b : board.Windows) (e : Link BoardBatch) (k : ℕ) → b ≡ board.after op s.board → e ≡ after_send s.end op → k ≡ insertions (board.edit_of op)
    → ◌≡◌ {A = BoardSite} (record s { board = b; end = e; made = s.made + 1; named = s.named + k }) (edited board_batches op s)
edited_with s op b e k board end count = rw (board, end, count) refl

-- an edit of another site: what it inserts is named by its site, and past other operations it inserts nothing else
inserts_past : (side : Side) (o e : BoardBatch) (n : board.Placed) → board.Inserts (board.edit_of (past boards side o e)) n → board.Inserts (board.edit_of o) n
inserts_past Client o e n h = board_laws.keeps.inserts_client o e n h
inserts_past Server o e n h = board_laws.keeps.inserts_server o e n h

inserts_row : (side : Side) (o : BoardBatch) (es : List BoardBatch) (n : board.Placed) → board.Inserts (board.edit_of (row_operation (past boards side) o es)) n → board.Inserts (board.edit_of o) n
inserts_row side o [] n h = h
inserts_row side o (e ∷ es) n h = inserts_past side o e n (inserts_row side (past boards side o e) es n h)

known_shown : (i k : ℕ) (b : board.Windows) (e : Link BoardBatch) (m : Msg BoardBatch) → AreKnown i k b → board.IsValid (operation_at board_batches e m) b
    → bears_site i (board.edit_of m.op) ≡ false → AreKnown i k (board.after (operation_at board_batches e m) b)
known_shown i k b e m known valid other n held own = by_case (board_laws.keeps.held_before b (operation_at board_batches e m) n valid held) where
  by_case : board.Holds b n ⊎ board.Inserts (board.edit_of (operation_at board_batches e m)) n → n.name.number ≤ k
  by_case before = elim before [
    | inl had ↦ known n had own
    | inr new ↦ absurd (foreign i (board.edit_of m.op) n other (inserts_row (opposite e.side) m.op (unheard e m.heard) n new) own)
  ]

pub shown_site : (s : BoardSite) (m : Msg BoardBatch) → board.IsValid (operation_at board_batches s.end m) s.board → bears_site s.number (board.edit_of m.op) ≡ false
    → IsCount s.end m.heard → IsSite board_batches s → IsSite board_batches (received board_batches (Op m) s)
shown_site s m valid other count site =
    let paid = paid_generated (end_after board_batches s.end m) (owes (end_after board_batches s.end m).unanswered) in
    let less = received_generated s.end m count in
    record {
      limited = site.limited;
      counted = site.counted;
      sent = let sent = site.sent in omega arith;
      insertions = site.insertions;
      known = known_shown s.number s.named s.board s.end m site.known valid other;
    }

-- a site with another board and end
pub shown_with : (s : BoardSite) (m : Msg BoardBatch) (b : board.Windows) (e : Link BoardBatch) → b ≡ board.after (operation_at board_batches s.end m) s.board
    → e ≡ answered (end_after board_batches s.end m) → ◌≡◌ {A = BoardSite} (record s { board = b; end = e }) (received board_batches (Op m) s)
shown_with s m b e board end = rw (board, end) refl

-- an edit without an early fault acknowledges what can be, and bears no name of the site
pub admitted_count : (s : BoardSite) (m : Msg BoardBatch) → first_fault (deliver_tests board_batches s m) ≡ None → IsCount s.end m.heard
admitted_count s m none = count_is _ _ (all_hold (deliver_tests board_batches s m) none).1.1.0

pub admitted_foreign : (s : BoardSite) (m : Msg BoardBatch) → first_fault (deliver_tests board_batches s m) ≡ None → bears_site s.number (board.edit_of m.op) ≡ false
admitted_foreign s m none = not-true _ (all_hold (deliver_tests board_batches s m) none).1.1.1.0

-- a batch for which room is made inserts an item
pub room_inserts : {A E : Type 0} (os : BoardBatch) (b : board.Windows) (r : Result A E) → OnErr r (board.HasRoom os 0 b → ⊥) → OnErr r (1 ≤ insertions (board.edit_of os))
room_inserts os b (Ok made) lacks = tt
room_inserts os b (Err fault) lacks = inserts_where_room_lacks os 0 b lacks

-- as many edits as operations
pub length_edits : (os : BoardBatch) → length (board.edit_of os) ≡ length os
length_edits [] = refl
length_edits (o ∷ os) = ap suc (length_edits os)

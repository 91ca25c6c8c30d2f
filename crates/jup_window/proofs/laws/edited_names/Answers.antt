use Rattle.std.proofs.Common.{◌≢◌, ℕ, List, ap}
use Rattle.jup_window.specs.Prelude.{Name, name_eq_same, First, Second, SeqEdit, Put, Deleted, Relabelled, NoEdit as Nothing}
use Rattle.jup_seq.specs.Names as seq_names
use Rattle.jup_window.specs.Kinds.{WidgetEdit, InsertsName, DeletesName, ChangesName, of_text, of_list}
use Rattle.jup_window.proofs.laws.edited_names.Goals as goal

-- an edit of a sequence that puts nothing under a name does not insert it
puts_nothing : {V : Type 0} (of : SeqEdit V → WidgetEdit) (e : SeqEdit V) (n : Name) → ((v : V) → of e ≢ of (Put n v)) → seq_names.InsertsName e n → ⊥
puts_nothing of (Put m v) n none put = none v (ap (λ k. of (Put k v)) (name_eq_same m n put))
puts_nothing of (Deleted m) n none put = put
puts_nothing of (Relabelled m v) n none put = put
puts_nothing of Nothing n none put = put

inserts_nothing : (e : WidgetEdit) (n : Name) → ((v : ℕ) → e ≢ of_text (Put n v)) → ((v : List ℕ) → e ≢ of_list (Put n v)) → InsertsName e n → ⊥
inserts_nothing (First e) n no_char no_label put = puts_nothing of_text e n no_char put
inserts_nothing (Second (First e)) n no_char no_label put = puts_nothing of_list e n no_label put
inserts_nothing (Second (Second e)) n no_char no_label put = put

pub returns-clause-nothing_inserted : goal.returns-clause-nothing_inserted
returns-clause-nothing_inserted c = λ edit n no_char no_label put. inserts_nothing edit.what n.name no_char no_label put.1

-- one that does not delete a name
deletes_none : {V : Type 0} (of : SeqEdit V → WidgetEdit) (e : SeqEdit V) (n : Name) → of e ≢ of (Deleted n) → seq_names.DeletesName e n → ⊥
deletes_none of (Put m v) n none gone = gone
deletes_none of (Deleted m) n none gone = none (ap (λ k. of (Deleted k)) (name_eq_same m n gone))
deletes_none of (Relabelled m v) n none gone = gone
deletes_none of Nothing n none gone = gone

deletes_nothing : (e : WidgetEdit) (n : Name) → e ≢ of_text (Deleted n) → e ≢ of_list (Deleted n) → DeletesName e n → ⊥
deletes_nothing (First e) n no_text no_list gone = deletes_none of_text e n no_text gone
deletes_nothing (Second (First e)) n no_text no_list gone = deletes_none of_list e n no_list gone
deletes_nothing (Second (Second e)) n no_text no_list gone = gone

pub returns-clause-nothing_deleted : goal.returns-clause-nothing_deleted
returns-clause-nothing_deleted c = λ edit n no_text no_list gone. deletes_nothing edit.what n.name no_text no_list gone.1

-- and one that neither deletes it nor gives it another value
changes_none : {V : Type 0} (of : SeqEdit V → WidgetEdit) (e : SeqEdit V) (n : Name) → of e ≢ of (Deleted n) → ((v : V) → of e ≢ of (Relabelled n v)) → seq_names.ChangesName e n → ⊥
changes_none of (Put m v) n no_deletion no_relabel change = change
changes_none of (Deleted m) n no_deletion no_relabel change = no_deletion (ap (λ k. of (Deleted k)) (name_eq_same m n change))
changes_none of (Relabelled m v) n no_deletion no_relabel change = no_relabel v (ap (λ k. of (Relabelled k v)) (name_eq_same m n change))
changes_none of Nothing n no_deletion no_relabel change = change

changes_nothing : (e : WidgetEdit) (n : Name) → e ≢ of_text (Deleted n) → e ≢ of_list (Deleted n) → ((v : List ℕ) → e ≢ of_list (Relabelled n v)) → ChangesName e n → ⊥
changes_nothing (First e) n no_text no_list no_label change = deletes_none of_text e n no_text change
changes_nothing (Second (First e)) n no_text no_list no_label change = changes_none of_list e n no_list no_label change
changes_nothing (Second (Second e)) n no_text no_list no_label change = change

pub returns-clause-nothing_changed : goal.returns-clause-nothing_changed
returns-clause-nothing_changed c = λ edit n no_text no_list no_label change. changes_nothing edit.what n.name no_text no_list no_label change.1

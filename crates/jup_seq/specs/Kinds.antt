-- Operations on lists and on texts, each as one kind.
use Rattle.std.specs.Prelude.{◌<◌, IsTrue, map}
use Rattle.jup_xform.specs.declared.Transform.{Ghosts}
use Rattle.jup_seq.specs.Prelude.{Name, Items, SeqOp, SeqEdit, Insert, Delete, Relabel, Nothing, Put, Deleted, Relabelled, NoEdit}
use Rattle.jup_seq.specs.Operations.{is_no_relabel, meaning, edit_of}
use Rattle.jup_seq.specs.Operations as seq
use Rattle.jup_seq.specs.Names as names

-- Operations on sequences as one kind: what the implementation of `Transform` says of them.

-- operations on sequences as one kind
abbrev pub sequences : {V : Type 0} → Ghosts (SeqOp V) (Items V) (SeqEdit V)
sequences {V} = record {
  Content = seq.Content V;
  content = seq.content;
  meaning = seq.meaning;
  edit_of = seq.edit_of;
  bare = seq.bare;
  is_valid = seq.IsValid;
  after = seq.after;
  has_room = seq.HasRoom;
  can_reserve = λ beside. beside < 4294967295;
  is_distinct = seq.HasDistinctNames;
  is_small = seq.IsSmall;
  keeps_order = seq.KeepsOrder;
  are_apart = seq.AreApart;
  is_fresh = names.IsFresh;
  Name = Name;
  holds = names.Holds;
  inserts = names.InsertsName;
  deletes = names.DeletesName;
  changes = names.ChangesName;
  client_past = seq.client_past;
  server_past = seq.server_past;
  Shape = Unit {0};
  shape = λ o. tt;
  copies_freely = λ o. Unit {0};
}

-- Operations on texts as one kind. The items of a text keep their values: a relabel is never valid, and its edit is none.

-- an operation as a text takes it
abbrev pub text_op : {V : Type 0} → SeqOp V → SeqOp V
text_op (Insert p y) = Insert p y
text_op (Delete p n) = Delete p n
text_op (Relabel p n v) = Nothing
text_op Nothing = Nothing

-- and an edit
abbrev pub text_edit : {V : Type 0} → SeqEdit V → SeqEdit V
text_edit (Put n v) = Put n v
text_edit (Deleted n) = Deleted n
text_edit (Relabelled n v) = NoEdit
text_edit NoEdit = NoEdit

abbrev pub texts : {V : Type 0} → Ghosts (SeqOp V) (Items V) (SeqEdit V)
texts {V} = record (sequences {V = V}) {
  meaning = λ k es. meaning k (map text_edit es);
  edit_of = λ o. edit_of (text_op o);
  is_valid = λ o x. IsTrue (is_no_relabel o) × seq.IsValid o x;
  changes = names.DeletesName;
}

-- Operations of one of two kinds.
use Rattle.std.specs.Prelude.{ℕ, List, [], ◌∷◌, ◌↔◌}
use Rattle.jup_xform.specs.declared.one_of.OneOf.{OneOf}
use Rattle.jup_xform.specs.declared.one_of.OneOf.TheVariants.{First, Second}
use Rattle.jup_xform.specs.declared.Transform.{Ghosts}
use Rattle.jup_xform.specs.declared.one_of.OneTrace.{OneTrace}
use Rattle.jup_xform.specs.declared.one_of.OneTrace.TheVariants.{OfFirst, OfSecond, Misfit}

-- An operation of one of two kinds, on a state of one of two kinds: what each member of `Transform` is for them.

-- those of the first kind, in order
abbrev pub firsts : {A B : Type 0} → List (OneOf A B) → List A
firsts [] = []
firsts (First a ∷ es) = a ∷ firsts es
firsts (Second b ∷ es) = firsts es

-- those of the second kind, in order
abbrev pub seconds : {A B : Type 0} → List (OneOf A B) → List B
seconds [] = []
seconds (First a ∷ es) = seconds es
seconds (Second b ∷ es) = b ∷ seconds es

-- a function of each kind
abbrev pub in_each : {A B X Y : Type 0} → (A → X) → (B → Y) → OneOf A B → OneOf X Y
in_each f g (First a) = First (f a)
in_each f g (Second b) = Second (g b)

-- a fact of each kind
abbrev pub of_each : {A B : Type 0} → (A → Type 0) → (B → Type 0) → OneOf A B → Type 0
of_each P Q (First a) = P a
of_each P Q (Second b) = Q b

-- two are of one kind and have its relation
abbrev pub Alike : {A B X Y : Type 0} → (A → X → Type 0) → (B → Y → Type 0) → OneOf A B → OneOf X Y → Type 0
Alike P Q (First a) (First x) = P a x
Alike P Q (First a) (Second y) = ⊥
Alike P Q (Second b) (First x) = ⊥
Alike P Q (Second b) (Second y) = Q b y

-- two have the relation of their kind if they are of one kind
abbrev pub IfAlike : {A B X Y : Type 0} → (A → X → Type 0) → (B → Y → Type 0) → OneOf A B → OneOf X Y → Type 0
IfAlike P Q (First a) (First x) = P a x
IfAlike P Q (First a) (Second y) = Unit {0}
IfAlike P Q (Second b) (First x) = Unit {0}
IfAlike P Q (Second b) (Second y) = Q b y

-- one moved by another of its kind; one of the other kind leaves it as it is
abbrev pub moved : {A B X Y : Type 0} → (A → X → A) → (B → Y → B) → OneOf A B → OneOf X Y → OneOf A B
moved f g (First a) (First x) = First (f a x)
moved f g (First a) (Second y) = First a
moved f g (Second b) (First x) = Second b
moved f g (Second b) (Second y) = Second (g b y)

module _ {A X E B Y F : Type 0} (a : Ghosts A X E) (b : Ghosts B Y F) where
  -- a content passes over the edits of the other kind
  abbrev pub either_meaning : OneOf a.Content b.Content → List (OneOf E F) → OneOf a.Content b.Content
  either_meaning (First k) es = First (a.meaning k (firsts es))
  either_meaning (Second k) es = Second (b.meaning k (seconds es))

  -- what `Transform` says of operations of one of two kinds, from what it says of each kind
  abbrev pub either : Ghosts (OneOf A B) (OneOf X Y) (OneOf E F)
  either = record {
    Content = OneOf a.Content b.Content;
    content = in_each a.content b.content;
    meaning = either_meaning;
    edit_of = in_each a.edit_of b.edit_of;
    bare = in_each a.bare b.bare;
    is_valid = Alike a.is_valid b.is_valid;
    after = λ o x. moved (λ x o. a.after o x) (λ x o. b.after o x) x o;
    has_room = λ o n x. IfAlike (λ o x. a.has_room o n x) (λ o x. b.has_room o n x) o x;
    can_reserve = λ n. a.can_reserve n × b.can_reserve n;
    is_distinct = of_each a.is_distinct b.is_distinct;
    is_small = λ n. of_each (a.is_small n) (b.is_small n);
    keeps_order = Alike a.keeps_order b.keeps_order;
    are_apart = IfAlike a.are_apart b.are_apart;
    is_fresh = IfAlike a.is_fresh b.is_fresh;
    Name = OneOf a.Name b.Name;
    holds = Alike a.holds b.holds;
    inserts = Alike a.inserts b.inserts;
    deletes = Alike a.deletes b.deletes;
    changes = Alike a.changes b.changes;
    client_past = moved a.client_past b.client_past;
    server_past = moved a.server_past b.server_past;
    Shape = OneOf a.Shape b.Shape;
    shape = in_each a.shape b.shape;
    copies_freely = of_each a.copies_freely b.copies_freely;
  }

-- Traces of operations of one of two kinds.

module _ {A B R S : Type 0} where
  -- the trace is its operation's; a state of the other kind has none
  abbrev pub TraceOf : {X Y : Type 0} → (A → X → R → Type 0) → (B → Y → S → Type 0) → OneOf A B → OneOf X Y → OneTrace R S → Type 0
  TraceOf P Q (First o) (First x) (OfFirst r) = P o x r
  TraceOf P Q (Second o) (Second x) (OfSecond r) = Q o x r
  TraceOf P Q (First o) (Second x) Misfit = Unit {0}
  TraceOf P Q (Second o) (First x) Misfit = Unit {0}
  TraceOf P Q o x r = ⊥

  -- an operation of the other kind changes no trace
  abbrev pub past_of : (A → R → A → R) → (B → S → B → S) → OneOf A B → OneTrace R S → OneOf A B → OneTrace R S
  past_of f g (First o) (OfFirst r) (First e) = OfFirst (f o r e)
  past_of f g (Second o) (OfSecond r) (Second e) = OfSecond (g o r e)
  past_of f g o r e = r

  -- whether a trace allows its operation
  abbrev pub AllowsOf : (A → R → Type 0) → (B → S → Type 0) → OneOf A B → OneTrace R S → Type 0
  AllowsOf P Q (First o) (OfFirst r) = P o r
  AllowsOf P Q (Second o) (OfSecond r) = Q o r
  AllowsOf P Q o r = ⊥

module _ {A X E B Y F R S : Type 0} (a : Ghosts A X E) (b : Ghosts B Y F) (P : A → X → R → Type 0) (Q : B → Y → S → Type 0) where
  -- a trace stays one past a valid operation
  pub traced : (f : A → R → A → R) (g : B → S → B → S)
      → ((o e : A) (x : X) (r : R) → a.is_valid e x → P o x r → P o (a.after e x) (f o r e))
      → ((o e : B) (x : Y) (r : S) → b.is_valid e x → Q o x r → Q o (b.after e x) (g o r e))
      → (o e : OneOf A B) (x : OneOf X Y) (r : OneTrace R S) → (either a b).is_valid e x → TraceOf P Q o x r
      → TraceOf P Q o ((either a b).after e x) (past_of f g o r e)
  traced f g ta tb (First o) (First e) (First x) (OfFirst r) v is = ta o e x r v is
  traced f g ta tb (First o) (Second e) (Second x) Misfit v is = tt
  traced f g ta tb (Second o) (First e) (First x) Misfit v is = tt
  traced f g ta tb (Second o) (Second e) (Second x) (OfSecond r) v is = tb o e x r v is
  traced f g ta tb o (First e) (Second x) r v is = absurd v
  traced f g ta tb o (Second e) (First x) r v is = absurd v
  traced f g ta tb o e x r v is = absurd is

  -- it allows its operation exactly if that is valid
  pub told : (G : A → R → Type 0) (H : B → S → Type 0)
      → ((o : A) (x : X) (r : R) → P o x r → (G o r ↔ a.is_valid o x)) → ((o : B) (x : Y) (r : S) → Q o x r → (H o r ↔ b.is_valid o x))
      → (o : OneOf A B) (x : OneOf X Y) (r : OneTrace R S) → TraceOf P Q o x r → (AllowsOf G H o r ↔ (either a b).is_valid o x)
  told G H ta tb (First o) (First x) (OfFirst r) is = ta o x r is
  told G H ta tb (Second o) (Second x) (OfSecond r) is = tb o x r is
  told G H ta tb (First o) (Second x) Misfit is = ((λ h. h), (λ h. h))
  told G H ta tb (Second o) (First x) Misfit is = ((λ h. h), (λ h. h))
  told G H ta tb o x r is = absurd is

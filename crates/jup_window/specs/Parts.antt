-- The parts of a list of which each element is of one of two kinds.
use Rattle.std.proofs.Common.{◌≡◌, List, [], ◌∷◌, Option, Some, None, refl, ap, ◌∙◌}
use Rattle.std.specs.Option.{option_and_then}
use Rattle.jup_window.specs.Prelude.{OneOf, First, Second}
use Rattle.jup_xform.specs.Either.{firsts, seconds}

-- a list with one more element at its begin, if there is one
abbrev pub add : {B : Type 0} → Option B → List B → List B
add None ys = ys
add (Some y) ys = y ∷ ys

-- one kind among others: a part of a list, what is taken of an element, an element of that kind, and those that it has
pub record IsKind {A E : Type 0} (part : List A → List E) (take : A → Option E) (of : E → A) (Has : E → Type 0) : Type 0 where
  pub none : part [] ≡ []
  pub more : (a : A) (rest : List A) → part (a ∷ rest) ≡ add (take a) (part rest)
  pub own : (e : E) → Has e → take (of e) ≡ Some e
  pub back : (a : A) (e : E) → Has e → take a ≡ Some e → a ≡ of e

-- a kind that has any element
abbrev pub IsAny : {E : Type 0} → E → Type 0
IsAny e = Unit {0}

-- the first of two kinds
abbrev pub first_of : {A B : Type 0} → OneOf A B → Option A
first_of (First a) = Some a
first_of (Second b) = None

first_more : {A B : Type 0} (o : OneOf A B) (rest : List (OneOf A B)) → firsts (o ∷ rest) ≡ add (first_of o) (firsts rest)
first_more (First a) rest = refl
first_more (Second b) rest = refl

first_back : {A B : Type 0} (o : OneOf A B) (e : A) → IsAny e → first_of o ≡ Some e → o ≡ First e
first_back (First a) e has is = let same : a ≡ e = cc in ap (λ k. First k) same
first_back (Second b) e has is = absurd cc

pub first_kind : {A B : Type 0} → IsKind (firsts {A = A} {B = B}) first_of (λ e. First e) IsAny
first_kind = record { none = refl; more = first_more; own = λ e has. refl; back = first_back }

-- the second
abbrev pub second_of : {A B : Type 0} → OneOf A B → Option B
second_of (First a) = None
second_of (Second b) = Some b

second_more : {A B : Type 0} (o : OneOf A B) (rest : List (OneOf A B)) → seconds (o ∷ rest) ≡ add (second_of o) (seconds rest)
second_more (First a) rest = refl
second_more (Second b) rest = refl

second_back : {A B : Type 0} (o : OneOf A B) (e : B) → IsAny e → second_of o ≡ Some e → o ≡ Second e
second_back (First a) e has is = absurd cc
second_back (Second b) e has is = let same : b ≡ e = cc in ap (λ k. Second k) same

pub second_kind : {A B : Type 0} → IsKind (seconds {A = A} {B = B}) second_of (λ e. Second e) IsAny
second_kind = record { none = refl; more = second_more; own = λ e has. refl; back = second_back }

-- and a kind of a kind
pub within : {A B E : Type 0} {part : List A → List B} {take : A → Option B} {of : B → A} {part' : List B → List E} {take' : B → Option E} {of' : E → B} {Has : E → Type 0}
    → IsKind part take of IsAny → IsKind part' take' of' Has → IsKind (λ xs. part' (part xs)) (λ a. option_and_then take' (take a)) (λ e. of (of' e)) Has
within {A} {B} {E} {part} {take} {of} {part'} {take'} {of'} {Has} k l = record {
  none = ap part' k.none ∙ l.none;
  more = λ a rest. ap part' (k.more a rest) ∙ step (take a) (part rest);
  own = λ e has. ap (option_and_then take') (k.own (of' e) tt) ∙ l.own e has;
  back = λ a e has is. from a (take a) refl e has is;
}
  where
    step : (o : Option B) (rest : List B) → part' (add o rest) ≡ add (option_and_then take' o) (part' rest)
    step None rest = refl
    step (Some b) rest = l.more b rest

    from : (a : A) (o : Option B) → take a ≡ o → (e : E) → Has e → option_and_then take' o ≡ Some e → a ≡ of (of' e)
    from a None taken e has is = absurd cc
    from a (Some b) taken e has is = k.back a b tt taken ∙ ap of (l.back b e has is)

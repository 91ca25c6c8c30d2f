-- The laws of settings.
use Rattle.std.proofs.Common.{◌≡◌, ◌↔◌, Bool, IsTrue, refl, List, [], ◌∷◌, ◌++◌, sym, subst, ◌∙◌, ap}
use Rattle.jup_xform.specs.Grids.{IsLawful, KeepsMeaning, KeepsRest}
use Rattle.jup_setting.specs.declared.operation.SetOp.{SetOp}
use Rattle.jup_setting.specs.declared.operation.SetOp.TheVariants.{Set as SetTo, Nothing as NoOp}
use Rattle.jup_setting.specs.declared.operation.SettingEdit.{SettingEdit}
use Rattle.jup_setting.specs.declared.operation.SettingEdit.TheVariants.{Set, Nothing}
use Rattle.jup_setting.specs.Settings.{set_after, set_server_past, set_client_past, set_edit, last_setting, setting_after, IsValidSetting, settings, toggles, sliders}

-- The laws of settings: concurrent ones leave one value, the last one that was set.

-- both ways round two concurrent settings leave one value
pub set_square : {V : Type 0} (x : V) (c s : SetOp V) → set_after (set_server_past s c) (set_after c x) ≡ set_after (set_client_past c s) (set_after s x)
set_square x (SetTo v) s = refl
set_square x NoOp s = refl

-- the value after an operation is what its edit means; of two concurrent ones the client's is the later
pub set_effect_one : {V : Type 0} (x : V) (c : SetOp V) → set_after c x ≡ last_setting x (set_edit c ∷ [])
set_effect_one x (SetTo v) = refl
set_effect_one x NoOp = refl

pub set_effect_two : {V : Type 0} (x : V) (c s : SetOp V) → set_after (set_server_past s c) (set_after c x) ≡ last_setting x (set_edit s ∷ set_edit c ∷ [])
set_effect_two x (SetTo v) (SetTo w) = refl
set_effect_two x (SetTo v) NoOp = refl
set_effect_two x NoOp (SetTo w) = refl
set_effect_two x NoOp NoOp = refl

-- the last setting of a list and then of another is that of both in turn
pub last_setting-append : {V : Type 0} (x : V) (es fs : List (SettingEdit V)) → last_setting (last_setting x es) fs ≡ last_setting x (es ++ fs)
last_setting-append x [] fs = refl
last_setting-append x (Set v ∷ es) fs = last_setting-append v es fs
last_setting-append x (Nothing ∷ es) fs = last_setting-append x es fs

set_edits : {V : Type 0} (c s : SetOp V) (x : V) (later : List (SettingEdit V))
    → last_setting x (set_edit c ∷ set_edit (set_server_past s c) ∷ later) ≡ last_setting x (set_edit s ∷ set_edit c ∷ later)
set_edits (SetTo v) (SetTo w) x later = refl
set_edits (SetTo v) NoOp x later = refl
set_edits NoOp (SetTo w) x later = refl
set_edits NoOp NoOp x later = refl

-- after the client's edit, a server's setting past it means the server's edit before the client's
pub set_edit_server : {V : Type 0} (c s : SetOp V) (x : V) (before later : List (SettingEdit V))
    → last_setting x (before ++ set_edit c ∷ set_edit (set_server_past s c) ∷ later) ≡ last_setting x (before ++ set_edit s ∷ set_edit c ∷ later)
set_edit_server c s x before later =
    sym (last_setting-append x before (set_edit c ∷ set_edit (set_server_past s c) ∷ later))
    ∙ set_edits c s (last_setting x before) later
    ∙ last_setting-append x before (set_edit s ∷ set_edit c ∷ later)

-- a widget shows what was put into it last: the effects of values are those of such widgets
module _ {V W : Type 0} (shown : W → V) (showing : V → W → W) (shown-showing : (v : V) (w : W) → shown (showing v w) ≡ v) where
  pub shown-after : (o : SetOp V) (w : W) → shown (setting_after shown showing o w) ≡ set_after o (shown w)
  shown-after o w = shown-showing (set_after o (shown w)) w

  pub setting_effect_one : (w : W) (c : SetOp V) → shown (setting_after shown showing c w) ≡ last_setting (shown w) (set_edit c ∷ [])
  setting_effect_one w c = shown-after c w ∙ set_effect_one (shown w) c

  pub setting_effect_two : (w : W) (c s : SetOp V)
      → shown (setting_after shown showing (set_server_past s c) (setting_after shown showing c w)) ≡ last_setting (shown w) (set_edit s ∷ set_edit c ∷ [])
  setting_effect_two w c s =
      shown-after (set_server_past s c) (setting_after shown showing c w)
      ∙ ap (λ v. set_after (set_server_past s c) v) (shown-after c w)
      ∙ set_effect_two (shown w) c s

  -- whatever it showed before: two settings of values that meet leave two widgets that are one
  module _ (showing-showing : (u v : V) (w : W) → showing v (showing u w) ≡ showing v w) where
    after-after : (o p : SetOp V) (w : W) → setting_after shown showing p (setting_after shown showing o w) ≡ showing (set_after p (set_after o (shown w))) w
    after-after o p w =
        showing-showing (set_after o (shown w)) (set_after p (shown (setting_after shown showing o w))) w
        ∙ ap (λ v. showing (set_after p v) w) (shown-after o w)

    pub setting_square : (w : W) (c s : SetOp V)
        → setting_after shown showing (set_server_past s c) (setting_after shown showing c w) ≡ setting_after shown showing (set_client_past c s) (setting_after shown showing s w)
    setting_square w c s =
        after-after c (set_server_past s c) w ∙ ap (λ v. showing v w) (set_square (shown w) c s) ∙ sym (after-after s (set_client_past c s) w)

-- what a widget may show does not depend on what it shows, so an operation stays valid
module _ {V W : Type 0} (shown : W → V) (showing : V → W → W) (is_allowed : V → W → Type 0)
    (still-allowed : (u v : V) (w : W) → is_allowed v w → is_allowed v (showing u w)) where
  pub valid_later : (o p : SetOp V) (w : W) → IsValidSetting is_allowed o w → IsValidSetting is_allowed o (setting_after shown showing p w)
  valid_later (SetTo v) p w valid = still-allowed (set_after p (shown w)) v w valid
  valid_later NoOp p w valid = tt

  pub valid_server : (s c : SetOp V) (w : W) → IsValidSetting is_allowed s w → IsValidSetting is_allowed (set_server_past s c) (setting_after shown showing c w)
  valid_server s (SetTo v) w valid = tt
  valid_server s NoOp w valid = valid_later s NoOp w valid

-- nor does an operation allow what was not: another brings the widget back
module _ {V W : Type 0} (shown : W → V) (showing : V → W → W) (is_allowed : V → W → Type 0)
    (still-allowed : (u v : V) (w : W) → is_allowed v w → is_allowed v (showing u w)) (showing-showing : (u v : V) (w : W) → showing v (showing u w) ≡ showing v w)
    (showing-shown : (w : W) → showing (shown w) w ≡ w) where
  valid_before : (o p : SetOp V) (w : W) → IsValidSetting is_allowed o (setting_after shown showing p w) → IsValidSetting is_allowed o w
  valid_before (SetTo v) p w valid =
      subst (is_allowed v) (showing-showing (set_after p (shown w)) (shown w) w ∙ showing-shown w)
      (still-allowed (shown w) v (setting_after shown showing p w) valid)
  valid_before NoOp p w valid = tt

  -- so what determines whether an operation is valid determines it after another
  pub still_told : (o p : SetOp V) (w : W) (taken : Bool) → (IsTrue taken ↔ IsValidSetting is_allowed o w)
      → (IsTrue taken ↔ IsValidSetting is_allowed o (setting_after shown showing p w))
  still_told o p w taken is =
      ((λ yes. valid_later shown showing is_allowed still-allowed o p w (is.0 yes)), (λ valid. is.1 (valid_before o p w valid)))

-- The laws of `Transform` for settings, as the records that lemmas take.

module _ {V W : Type 0} (shown : W → V) (showing : V → W → W) (is_allowed : V → W → Type 0)
    (shown-showing : (v : V) (w : W) → shown (showing v w) ≡ v) (showing-showing : (u v : V) (w : W) → showing v (showing u w) ≡ showing v w)
    (still-allowed : (u v : V) (w : W) → is_allowed v w → is_allowed v (showing u w)) where
  -- those on which a grid relies
  lawful : IsLawful (settings shown showing is_allowed)
  lawful = record {
    square = λ x c s a b valid_c valid_s f. (
      valid_server shown showing is_allowed still-allowed s c x valid_s,
      valid_later shown showing is_allowed still-allowed c s x valid_c,
      setting_square shown showing shown-showing showing-showing x c s,
    );
    distinct_after = λ x c a b. tt;
    small_after = λ n x c a b. tt;
    small_below = λ n x a. tt;
    small_before = λ n x c a b. tt;
    apart_swap = λ c s a. tt;
    apart_client = λ c s t a. tt;
    apart_server = λ s c t a. tt;
  }

  -- those on names, order and edits
  keep_meaning : KeepsMeaning (settings shown showing is_allowed)
  keep_meaning = record {
    effect_one = λ x c a b. setting_effect_one shown showing shown-showing x c;
    order = λ x c a b. tt;
    order_self = λ x. tt;
    order_chain = λ x y z a b c. tt;
    inserts_client = λ c s n a. a;
    inserts_server = λ s c n a. a;
    changes_client = λ c s n a. absurd a;
    changes_server = λ s c n a. a;
    apart_names = λ c s n a b d. b;
    fresh_names = λ c t n a b d. b;
    inserts_new = λ x c n a b d. b;
    changes_held = λ x c n a b. absurd b;
    held_before = λ x c n a b. absurd b;
    held_after = λ x c n a b. absurd b;
    meaning_none = λ k. refl;
    meaning_more = λ k es fs a. last_setting-append k es fs;
    edit_client = λ c s past k before between later. refl;
    edit_server = λ c s a k before later. set_edit_server c s k before later;
  }

  -- and the rest
  keep_rest : KeepsRest (settings shown showing is_allowed)
  keep_rest = record {
    effect_two = λ x c s a b d e f. setting_effect_two shown showing shown-showing x c s;
    room_less = λ n x c a. tt;
    room_client = λ n x c s a. tt;
    room_server = λ n x s c a. tt;
    shape_client = λ c s. refl;
    shape_server = λ s c. refl;
  }

-- toggles have them
pub toggles_are_lawful : IsLawful toggles
toggles_are_lawful = lawful _ _ _ (λ v w. refl) (λ u v w. refl) (λ u v w allowed. tt)

pub toggles_keep_meaning : KeepsMeaning toggles
toggles_keep_meaning = keep_meaning _ _ _ (λ v w. refl) (λ u v w. refl) (λ u v w allowed. tt)

pub toggles_keep_rest : KeepsRest toggles
toggles_keep_rest = keep_rest _ _ _ (λ v w. refl) (λ u v w. refl) (λ u v w allowed. tt)

-- so have sliders
pub sliders_are_lawful : IsLawful sliders
sliders_are_lawful = lawful _ _ _ (λ v w. refl) (λ u v w. refl) (λ u v w allowed. allowed)

pub sliders_keep_meaning : KeepsMeaning sliders
sliders_keep_meaning = keep_meaning _ _ _ (λ v w. refl) (λ u v w. refl) (λ u v w allowed. allowed)

pub sliders_keep_rest : KeepsRest sliders
sliders_keep_rest = keep_rest _ _ _ (λ v w. refl) (λ u v w. refl) (λ u v w allowed. allowed)

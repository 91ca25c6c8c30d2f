-- What the calls of C say.
use Rattle.std.proofs.Common.{◌≡◌, ◌≢◌, ℕ, sym, ap, ◌∙◌, subst, refl, [], ◌∷◌, Option, None, Some}
use Rattle.jup_c.specs.Prelude.{BoardOp, stage_of, site_in, PlainChange, AnyClient, session_of, with_session}
use Rattle.jup_reconnect.specs.AnyClients.{terms_of, arrived_of}
use Rattle.jup_embed.specs.Numbers.{stage_number, stage_fault, Shows}
use Rattle.jup_c.specs.Handles.{Inside, Shown, Tells, stage_inside, fault_inside, changes_inside, site_inside, terms_inside, arrived_inside}

-- What a call makes of the client in a handle, by what it makes of the client.

pub made_inside : (Made : AnyClient → AnyClient → Type 0) (without : Type 0) (old new : Option AnyClient) (c d : AnyClient) → old ≡ Some c → new ≡ Some d → Made c d → Inside Made without old new
made_inside Made without old new c d was is made =
    subst (λ (o : Option AnyClient). Inside Made without o new) (sym was) (subst (λ (o : Option AnyClient). Inside Made without (Some c) o) (sym is) made)

pub none_inside : (Made : AnyClient → AnyClient → Type 0) (without : Type 0) (old new : Option AnyClient) → old ≡ None → new ≡ None → without → Inside Made without old new
none_inside Made without old new was is holds =
    subst (λ (o : Option AnyClient). Inside Made without o new) (sym was) (subst (λ (o : Option AnyClient). Inside Made without None o) (sym is) holds)

pub shown_inside : (Is : AnyClient → Type 0) (without : Type 0) (inside : Option AnyClient) (c : AnyClient) → inside ≡ Some c → Is c → Shown Is without inside
shown_inside Is without inside c was holds = subst (λ (o : Option AnyClient). Shown Is without o) (sym was) holds

pub none_shown : (Is : AnyClient → Type 0) (without : Type 0) (inside : Option AnyClient) → inside ≡ None → without → Shown Is without inside
none_shown Is without inside was holds = subst (λ (o : Option AnyClient). Shown Is without o) (sym was) holds

pub stage_known : (old : Option AnyClient) (c : AnyClient) → old ≡ Some c → stage_inside old ≡ stage_number (stage_of (session_of c).phase)
stage_known old c was = ap stage_inside was

pub fault_known : (old : Option AnyClient) (c : AnyClient) → old ≡ Some c → fault_inside old ≡ stage_fault (stage_of (session_of c).phase)
fault_known old c was = ap fault_inside was

-- the answer of a session that is over
pub over_inside : (old : Option AnyClient) (c : AnyClient) (result : ℕ) → old ≡ Some c → (stage_fault (stage_of (session_of c).phase) ≢ 0 → result ≡ stage_fault (stage_of (session_of c).phase))
    → fault_inside old ≢ 0 → result ≡ fault_inside old
over_inside old c result was over = subst (λ (o : Option AnyClient). fault_inside o ≢ 0 → result ≡ fault_inside o) (sym was) over

pub none_over : (old : Option AnyClient) (result : ℕ) → old ≡ None → fault_inside old ≢ 0 → result ≡ fault_inside old
none_over old result was = subst (λ (o : Option AnyClient). fault_inside o ≢ 0 → result ≡ fault_inside o) (sym was) (λ some. absurd (some refl))

pub nothing_inside : (old : Option AnyClient) (c : AnyClient) → old ≡ Some c → (session_of c).changes ≡ [] → changes_inside old ≡ []
nothing_inside old c was none = ap changes_inside was ∙ none

pub tells_inside : (change : PlainChange) (old new : Option AnyClient) (c d : AnyClient) (op : BoardOp) → old ≡ Some c → new ≡ Some d → Shows change op
    → c ≡ with_session (record (session_of d) { changes = op ∷ (session_of d).changes }) d → Inside (Tells change) ⊥ old new
tells_inside change old new c d op was is shows told = made_inside (Tells change) ⊥ old new c d was is (op, shows, told)

pub site_known : (old : Option AnyClient) (c : AnyClient) → old ≡ Some c → site_inside old ≡ site_in (session_of c).phase
site_known old c was = ap site_inside was

pub terms_known : (old : Option AnyClient) (c : AnyClient) → old ≡ Some c → terms_inside old ≡ terms_of c
terms_known old c was = ap terms_inside was

pub arrived_known : (old : Option AnyClient) (c : AnyClient) → old ≡ Some c → arrived_inside old ≡ arrived_of c
arrived_known old c was = ap arrived_inside was

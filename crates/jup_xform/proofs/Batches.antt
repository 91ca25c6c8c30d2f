-- What the loops over batches keep.
use Rattle.std.proofs.Common.{◌≡◌, ℕ, ◌+◌, ◌<◌, ◌≤◌, ◌↔◌, List, [], ◌∷◌, ◌++◌, length, take, drop, arith, slice_index_or, zero, suc, refl, subst, Contains, ◌-◌, ◌*◌, ap, sym, ◌∙◌}
use Rattle.std.proofs.lemmas.List.{take_more, drop_more, take_all, length-drop}
use Rattle.jup_limits.specs.Limits.{most_operations}
use Rattle.jup_xform.specs.declared.Transform.{Ghosts}
use Rattle.jup_xform.specs.Grids.{after_all, AreValid}
use Rattle.jup_xform.specs.Laws.Grids.{after_all-append, AreValid-append}
use Rattle.jup_xform.specs.Batches.{EachTo, EachLater, IsValidBatch, EachPair, HaveRoom, has_batch_room, shapes}
use Rattle.jup_xform.specs.Laws.Batches.{room_down, HaveRoom-down}

-- A batch is checked operation by operation.

module _ {Op State Edit : Type 0} (t : Ghosts Op State Edit) where
  -- each of the rest may follow those before it
  abbrev pub MayFollow : List Op → List Op → State → Type 0
  MayFollow earlier [] x = Unit {0}
  MayFollow earlier (o ∷ rest) x =
      (t.is_valid o (after_all t earlier x) × EachTo (λ e p. t.is_fresh p e) earlier o) × MayFollow (earlier ++ o ∷ []) rest x

  EachTo-pushed : (earlier : List Op) (o p : Op) → EachTo (λ e q. t.is_fresh q e) earlier p → t.is_fresh p o → EachTo (λ e q. t.is_fresh q e) (earlier ++ o ∷ []) p
  EachTo-pushed [] o p r f = (f, tt)
  EachTo-pushed (e ∷ earlier) o p r f = (r.0, EachTo-pushed earlier o p r.1 f)

  EachTo-last : (earlier : List Op) (o p : Op) → EachTo (λ e q. t.is_fresh q e) (earlier ++ o ∷ []) p → EachTo (λ e q. t.is_fresh q e) earlier p × t.is_fresh p o
  EachTo-last [] o p r = (tt, r.0)
  EachTo-last (e ∷ earlier) o p r = let rest = EachTo-last earlier o p r.1 in ((r.0, rest.0), rest.1)

  -- the rest of the list is fresh after each of the earlier ones
  abbrev AllAfter : List Op → List Op → Type 0
  AllAfter earlier [] = Unit {0}
  AllAfter earlier (o ∷ rest) = EachTo (λ e q. t.is_fresh q e) earlier o × AllAfter earlier rest

  AllAfter-none : (rest : List Op) → AllAfter [] rest
  AllAfter-none [] = tt
  AllAfter-none (o ∷ rest) = (tt, AllAfter-none rest)

  AllAfter-push : (earlier : List Op) (o : Op) (rest : List Op) → AllAfter earlier rest → EachTo t.is_fresh rest o → AllAfter (earlier ++ o ∷ []) rest
  AllAfter-push earlier o [] a f = tt
  AllAfter-push earlier o (p ∷ rest) a f = (EachTo-pushed earlier o p a.0 f.0, AllAfter-push earlier o rest a.1 f.1)

  AllAfter-last : (earlier : List Op) (o : Op) (rest : List Op) → AllAfter (earlier ++ o ∷ []) rest → AllAfter earlier rest × EachTo t.is_fresh rest o
  AllAfter-last earlier o [] a = (tt, tt)
  AllAfter-last earlier o (p ∷ rest) a =
      let one = EachTo-last earlier o p a.0 in
      let more = AllAfter-last earlier o rest a.1 in
      ((one.0, more.0), (one.1, more.1))

  follows : (earlier rest : List Op) (x : State) → AreValid t rest (after_all t earlier x) → EachLater t.is_fresh rest → AllAfter earlier rest → MayFollow earlier rest x
  follows earlier [] x v f a = tt
  follows earlier (o ∷ rest) x v f a =
      let valid : AreValid t rest (after_all t (earlier ++ o ∷ []) x) = rw after_all-append v.1 in
      ((v.0, a.0), follows (earlier ++ o ∷ []) rest x valid f.1 (AllAfter-push earlier o rest a.1 f.0))

  followed : (earlier rest : List Op) (x : State) → MayFollow earlier rest x → AreValid t rest (after_all t earlier x) × EachLater t.is_fresh rest × AllAfter earlier rest
  followed earlier [] x m = (tt, tt, tt)
  followed earlier (o ∷ rest) x m =
      let more = followed (earlier ++ o ∷ []) rest x m.1 in
      let valid : AreValid t rest (after_all t (earlier ++ o ∷ []) x) = more.0 in
      let valid_rest : AreValid t rest (after_all t (o ∷ []) (after_all t earlier x)) = rw after_all-append at valid in
      let last = AllAfter-last earlier o rest more.2 in
      ((m.0.0, valid_rest), (last.1, more.1), (m.0.1, last.0))

  pub valid_batch : (os : List Op) (x : State) → 1 ≤ length os → length os ≤ most_operations → MayFollow [] os x → IsValidBatch t os x
  valid_batch os x some few m =
      let all = followed [] os x m in
      record { some = some; few = few; valid = all.0; fresh = all.1 }

  pub batch_follows : (os : List Op) (x : State) → IsValidBatch t os x → MayFollow [] os x
  batch_follows os x v = follows [] os x v.valid v.fresh (AllAfter-none os)

  -- one more of the list
  pub one_more : (os : List Op) (i : ℕ) (o : Op) (x : State) → i < length os → o ≡ slice_index_or os i o
      → t.is_valid o (after_all t (take i os) x) × EachTo (λ e p. t.is_fresh p e) (take i os) o
      → AreValid t (take i os) x × (MayFollow (take i os) (drop i os) x ↔ MayFollow [] os x)
      → AreValid t (take (i + 1) os) x × (MayFollow (take (i + 1) os) (drop (i + 1) os) x ↔ MayFollow [] os x)
  one_more os i o x l e a h =
      let taken : take (i + 1) os ≡ take i os ++ o ∷ [] = rw (← e) at (take_more os i o l) in
      let left : drop i os ≡ o ∷ drop (i + 1) os = rw (← e) at (drop_more os i o l) in
      let rest : MayFollow (take i os) (o ∷ drop (i + 1) os) x ↔ MayFollow [] os x = rw left at h.1 in
      (rw taken (AreValid-append t (take i os) (o ∷ []) x h.0 (a.0, tt)), rw taken ((λ m. rest.0 (a, m)), (λ m. (rest.1 m).1)))

  pub not_one : (os : List Op) (i : ℕ) (o : Op) (x : State) → i < length os → o ≡ slice_index_or os i o
      → (MayFollow (take i os) (drop i os) x ↔ MayFollow [] os x) → IsValidBatch t os x
      → t.is_valid o (after_all t (take i os) x) × EachTo (λ e p. t.is_fresh p e) (take i os) o
  not_one os i o x l e h v =
      let left : drop i os ≡ o ∷ drop (i + 1) os = rw (← e) at (drop_more os i o l) in
      let rest : MayFollow (take i os) (o ∷ drop (i + 1) os) x ↔ MayFollow [] os x = rw left at h in
      (rest.1 (batch_follows os x v)).0

module _ {Op State Edit : Type 0} (t : Ghosts Op State Edit) where
  MayFollow-end : (os earlier : List Op) (i : ℕ) (x : State) → length os ≤ i → MayFollow t earlier (drop i os) x
  MayFollow-end [] earlier zero x l = tt
  MayFollow-end [] earlier (suc i) x l = tt
  MayFollow-end (o ∷ os) earlier zero x l = absurd (omega (arith, l))
  MayFollow-end (o ∷ os) earlier (suc i) x l = MayFollow-end os earlier i x (omega (arith, l))

  -- all of the list were looked at
  pub all_followed : (os : List Op) (i : ℕ) (x : State) → 1 ≤ length os → length os ≤ most_operations → length os ≤ i
      → (MayFollow t (take i os) (drop i os) x ↔ MayFollow t [] os x) → IsValidBatch t os x
  all_followed os i x some few l h = valid_batch t os x some few (h.0 (MayFollow-end os (take i os) i x l))

-- The relation of each of a list to one, and of each to each of another, stated for the elements.

module _ {A : Type 0} (R : A → A → Type 0) where
  pub each_of : (os : List A) (p : A) → EachTo R os p → (o : A) → Contains os o → R o p
  each_of [] p r o (k, l, e) = absurd (omega (arith, l))
  each_of (x ∷ os) p r o (zero, l, e) = subst (λ y. R y p) e r.0
  each_of (x ∷ os) p r o (suc k, l, e) = each_of os p r.1 o (k, omega (arith, l), e)

  pub of_each : (os : List A) (p : A) → ((o : A) → Contains os o → R o p) → EachTo R os p
  of_each [] p all = tt
  of_each (x ∷ os) p all = (all x (zero, omega arith, refl), of_each os p (λ o c. all o (suc c.0, omega (arith, c.1), c.2)))

  pub each_pair : (os ps : List A) → EachPair R os ps → (o p : A) → Contains os o → Contains ps p → R o p
  each_pair os [] r o p first (k, l, e) = absurd (omega (arith, l))
  each_pair os (x ∷ ps) r o p first (zero, l, e) = subst (λ y. R o y) e (each_of os x r.0 o first)
  each_pair os (x ∷ ps) r o p first (suc k, l, e) = each_pair os ps r.1 o p first (k, omega (arith, l), e)

  pub of_each_pair : (os ps : List A) → ((o p : A) → Contains os o → Contains ps p → R o p) → EachPair R os ps
  of_each_pair os [] all = tt
  of_each_pair os (x ∷ ps) all =
      (of_each os x (λ o c. all o x c (zero, omega arith, refl)), of_each_pair os ps (λ o p first c. all o p first (suc c.0, omega (arith, c.1), c.2)))

-- The room that the operations of a batch take.

module _ {Op State Edit : Type 0} (t : Ghosts Op State Edit) where
  -- a state that has at least the room
  pub HaveRoom-kept : (x y : State) → ((o : Op) (n : ℕ) → t.has_room o n x → t.has_room o n y) → (n : ℕ) (os : List Op) → HaveRoom t os n x → HaveRoom t os n y
  HaveRoom-kept x y kept n [] r = tt
  HaveRoom-kept x y kept n (o ∷ os) r = (kept o n r.0, HaveRoom-kept x y kept n os r.1)

  pub batch_room_kept : (x y : State) → ((o : Op) (n : ℕ) → t.has_room o n x → t.has_room o n y) → (os : List Op) (n : ℕ) → has_batch_room t os n x → has_batch_room t os n y
  batch_room_kept x y kept os n r = HaveRoom-kept x y kept (most_operations * n + (length os - 1)) os r

  pub HaveRoom-push : (os : List Op) (o : Op) (n : ℕ) (x : State) → HaveRoom t os n x → t.has_room o n x → HaveRoom t (os ++ o ∷ []) n x
  HaveRoom-push [] o n x r s = (s, tt)
  HaveRoom-push (p ∷ os) o n x r s = (r.0, HaveRoom-push os o n x r.1 s)

  HaveRoom-drop : (os : List Op) (o : Op) (rest : List Op) (i n : ℕ) (x : State) → drop i os ≡ o ∷ rest → HaveRoom t os n x → HaveRoom t (drop i os) n x
  HaveRoom-drop [] o rest zero n x e r = tt
  HaveRoom-drop [] o rest (suc i) n x e r = tt
  HaveRoom-drop (p ∷ os) o rest zero n x e r = r
  HaveRoom-drop (p ∷ os) o rest (suc i) n x e r = HaveRoom-drop os o rest i n x e r.1

  -- room for each of the list
  pub HaveRoom-at : (os : List Op) (i n : ℕ) (x : State) (d : Op) → i < length os → HaveRoom t os n x → t.has_room (slice_index_or os i d) n x
  HaveRoom-at [] i n x d l r = absurd (omega (arith, l))
  HaveRoom-at (o ∷ os) zero n x d l r = r.0
  HaveRoom-at (o ∷ os) (suc i) n x d l r = HaveRoom-at os i n x d (omega (arith, l)) r.1

  -- room for one of the list, after those before it took theirs
  pub room_at : ((n : ℕ) (x : State) (c : Op) → t.has_room c (n + 1) x → t.has_room c n x) → (os : List Op) (o : Op) (rest : List Op) (i : ℕ) (x y : State)
      → i < length os → drop i os ≡ o ∷ rest → HaveRoom t os (most_operations * 0 + (length os - 1)) x → ((p : Op) (n : ℕ) → t.has_room p (n + i) x → t.has_room p n y) → t.has_room o 0 y
  room_at less os o rest i x y l e r took =
      let all : HaveRoom t (o ∷ rest) (most_operations * 0 + (length os - 1)) x = rw e at (HaveRoom-drop os o rest i (most_operations * 0 + (length os - 1)) x e r) in
      let sum : most_operations * 0 + (length os - 1) ≡ (length os - 1 - i) + i = omega arith in
      let here : t.has_room o ((length os - 1 - i) + i) x = rw sum at all.0 in
      room_down t less 0 (length os - 1 - i) y o (omega arith) (took o (length os - 1 - i) here)

  HaveRoom-took : (m : ℕ) (x y : State) → ((p : Op) (n : ℕ) → t.has_room p (n + m) x → t.has_room p n y) → (n : ℕ) (os : List Op) → HaveRoom t os (n + m) x → HaveRoom t os n y
  HaveRoom-took m x y took n [] r = tt
  HaveRoom-took m x y took n (o ∷ os) r = (took o n r.0, HaveRoom-took m x y took n os r.1)

  -- a batch takes room for one at most
  pub batch_room_took : ((n : ℕ) (x : State) (c : Op) → t.has_room c (n + 1) x → t.has_room c n x) → (m : ℕ) → m ≤ most_operations → (x y : State)
      → ((p : Op) (n : ℕ) → t.has_room p (n + m) x → t.has_room p n y) → (os : List Op) (n : ℕ) → has_batch_room t os (n + 1) x → has_batch_room t os n y
  batch_room_took less m few x y took os n r =
      HaveRoom-took m x y took (most_operations * n + (length os - 1)) os
      (HaveRoom-down t less (most_operations * n + (length os - 1) + m) (most_operations * (n + 1) + (length os - 1)) x os (omega (arith, few)) r)

-- The shapes of the operations that were written.

module _ {Op State Edit : Type 0} (t : Ghosts Op State Edit) where
  length-shapes : (os : List Op) → length (shapes t os) ≡ length os
  length-shapes [] = refl
  length-shapes (o ∷ os) = ap suc (length-shapes os)

  -- lists of the same shapes are equally long, so what was written is all
  pub all_written : (from into : List Op) (i : ℕ) → length from ≤ i → take i into ≡ take i from → shapes t (drop i from) ≡ shapes t (drop i into) → into ≡ from
  all_written from into i l written same =
      let lengths : length (drop i into) ≡ length (drop i from) =
      sym (length-shapes (drop i into)) ∙ ap (λ us. length us) (sym same) ∙ length-shapes (drop i from) in
      let within : length into ≤ i = omega (arith, length-drop i into, length-drop i from, lengths, l) in
      sym (take_all i into within) ∙ written ∙ take_all i from l

-- The trace of an operation past a list.

-- a trace past a list of operations
abbrev pub trace_past_all : {Op R : Type 0} → (Op → R → Op → R) → Op → R → List Op → R
trace_past_all past o r [] = r
trace_past_all past o r (e ∷ es) = trace_past_all past o (past o r e) es

-- it is a trace of the state after them
pub traced_all : {Op State Edit R : Type 0} (t : Ghosts Op State Edit) (is_trace : Op → State → R → Type 0) (past : Op → R → Op → R)
    → ((o e : Op) (x : State) (r : R) → t.is_valid e x → is_trace o x r → is_trace o (t.after e x) (past o r e))
    → (o : Op) (x : State) (r : R) (es : List Op) → AreValid t es x → is_trace o x r → is_trace o (after_all t es x) (trace_past_all past o r es)
traced_all t is_trace past kept o x r [] valid is = is
traced_all t is_trace past kept o x r (e ∷ es) valid is =
    traced_all t is_trace past kept o (t.after e x) (past o r e) es valid.1 (kept o e x r valid.0 is)

-- nothing is left past the end
past_end : {Op R : Type 0} (past : Op → R → Op → R) (o : Op) (r : R) (es : List Op) (i : ℕ) → length es ≤ i → trace_past_all past o r (drop i es) ≡ r
past_end past o r [] zero l = refl
past_end past o r [] (suc i) l = refl
past_end past o r (e ∷ es) zero l = absurd (omega (arith, l))
past_end past o r (e ∷ es) (suc i) l = past_end past o r es i (omega (arith, l))

-- so what was carried past all of the list is a trace of the state after it
pub traced_end : {Op State Edit R : Type 0} (t : Ghosts Op State Edit) (is_trace : Op → State → R → Type 0) (past : Op → R → Op → R)
    → ((o e : Op) (x : State) (r : R) → t.is_valid e x → is_trace o x r → is_trace o (t.after e x) (past o r e))
    → (o : Op) (x : State) (first r : R) (es : List Op) (i : ℕ) → length es ≤ i → trace_past_all past o r (drop i es) ≡ trace_past_all past o first es
    → AreValid t es x → is_trace o x first → is_trace o (after_all t es x) r
traced_end t is_trace past kept o x first r es i done carried valid is =
    subst (λ q. is_trace o (after_all t es x) q) (sym carried ∙ past_end past o r es i done) (traced_all t is_trace past kept o x first es valid is)

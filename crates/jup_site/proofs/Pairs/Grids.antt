-- Edits past each other, as a site and the star send them.
use Rattle.std.proofs.Common.{inl, inr, ◌≡◌, List, [], ◌∷◌, ◌++◌, refl, sym, ◌∙◌, append_assoc, append-nil, ℕ, take, drop, ap, zero, suc, subst, ◌⊎◌, ◌+◌, ◌≤◌, ◌<◌, Bool, true, false, cond, nat_eq, arith, eq-eqb}
use Rattle.jup_site.specs.Prelude.{row_operation, row_entries, AllApart, mirror, Msg, Message, sent, InStepAt, Operations, AreLawful, ups, downs, LinkState, AllByRecursion}
use Rattle.jup_xform.specs.Rows.{SomeOf}
use Rattle.jup_xform.specs.Laws.Grids as grids
use Rattle.jup_link.specs.Laws.Steps.{first_up, first_down}
use Rattle.jup_site.specs.Turns.{IsIn, Turn, Own, Other, edits, own_edits, through_others, others}
use Rattle.jup_site.specs.Sound.{SameMeaning, StandsFor, server_past_all, clients_past, client_past_all, servers_past, RowStands, Shows, IsKnown, ChangesKnown, IsMoved, named_by, Inherits, RawNamed, OrderNamed, Paired}
use Rattle.jup_site.specs.Sites.{AttachedOf}
use Rattle.jup_site.proofs.Known.{named_by-append, known_more}

-- Edits of one square: what stays the same at any place in a list of edits.

module _ (O : Operations) (L : AreLawful O) where
  -- having the same meaning is an equivalence
  pub same-refl : (a : List O.Edit) → SameMeaning O a a
  unfolding SameMeaning
  same-refl a x p q = refl

  -- from right to left
  pub same-sym : (a b : List O.Edit) → SameMeaning O a b → SameMeaning O b a
  unfolding SameMeaning
  same-sym a b h x p q = sym (h x p q)

  -- one after another
  pub same-trans : (a b c : List O.Edit) → SameMeaning O a b → SameMeaning O b c → SameMeaning O a c
  unfolding SameMeaning
  same-trans a b c h k x p q = h x p q ∙ k x p q

  -- and before one list
  pub same-later : (q a b : List O.Edit) → SameMeaning O a b → SameMeaning O (a ++ q) (b ++ q)
  unfolding SameMeaning
  same-later q a b h x p q' =
      let e : O.t.meaning x (p ++ (a ++ (q ++ q'))) ≡ O.t.meaning x (p ++ (b ++ (q ++ q'))) = h x p (q ++ q') in
      simp append_assoc e

  -- they mean the same of any content
  pub same-meaning : (a b : List O.Edit) (x : O.t.Content) → SameMeaning O a b → O.t.meaning x a ≡ O.t.meaning x b
  unfolding SameMeaning
  same-meaning a b x h =
      let e : O.t.meaning x ([] ++ (a ++ [])) ≡ O.t.meaning x ([] ++ (b ++ [])) = h x [] [] in
      rw (append-nil a, append-nil b) at e

  -- an operation's own edit
  pub stands-own : (e : O.Edit) (after : List O.Edit) → StandsFor O e e after
  unfolding StandsFor
  stands-own e after between = same-refl _

  -- with nothing between
  pub stands-now : (d e : O.Edit) (after : List O.Edit) → StandsFor O d e after → SameMeaning O (after ++ d ∷ []) (after ++ e ∷ [])
  unfolding StandsFor
  stands-now d e after h = rw (append-nil after) at (h [])

  -- with one edit between
  pub stands-more : (d e f : O.Edit) (after : List O.Edit) → StandsFor O d e after → SameMeaning O ((after ++ f ∷ []) ++ d ∷ []) ((after ++ f ∷ []) ++ e ∷ [])
  unfolding StandsFor
  stands-more d e f after h = h (f ∷ [])

  -- an edit of a list that changes a name
  some_of : (all : List O.Edit) (n : O.t.Name) → SomeOf (λ e. O.t.changes e n) all → (f : O.Edit) × IsIn f all × O.t.changes f n
  some_of [] n h = absurd h
  some_of (e ∷ es) n h = elim h [
    | inl c ↦ (e, inl refl, c)
    | inr r ↦ (let f = some_of es n r in (f.0, inr f.1, f.2))
  ]

  -- an edit after a list of which none changes a name that it inserts
  pub meaning_one : (x : O.t.Content) (all : List O.Edit) (e : O.Edit) → ((n : O.t.Name) → O.t.inserts e n → (f : O.Edit) → IsIn f all → O.t.changes f n → ⊥)
      → O.t.meaning (O.t.meaning x all) (e ∷ []) ≡ O.t.meaning x (all ++ e ∷ [])
  meaning_one x all e fresh = L.keeps.meaning_more x all (e ∷ []) (λ n new h. elim new [
    | inl i ↦ (let f = some_of all n h in fresh n i f.0 f.1 f.2)
    | inr none ↦ absurd none
  ])

  -- past a star's operation a site's means what it meant
  past-meaning : (c s : O.Op) (after between : List O.Edit)
      → SameMeaning O (((after ++ O.t.edit_of s ∷ []) ++ between) ++ O.t.edit_of (O.t.client_past c s) ∷ []) (((after ++ O.t.edit_of s ∷ []) ++ between) ++ O.t.edit_of c ∷ [])
  unfolding SameMeaning
  past-meaning c s after between x p q =
      let law = L.keeps.edit_client c s [] x (p ++ after) between q in
      simp append_assoc (simp append_assoc at law)

  -- two operations one way round mean what they mean the other way round
  swapped : (c s : O.Op) (after : List O.Edit) → O.t.are_apart c s
      → SameMeaning O ((after ++ O.t.edit_of c ∷ []) ++ O.t.edit_of (O.t.server_past s c) ∷ []) ((after ++ O.t.edit_of s ∷ []) ++ O.t.edit_of c ∷ [])
  unfolding SameMeaning
  swapped c s after apart x p q =
      let law = L.keeps.edit_server c s apart x (p ++ after) q in
      simp append_assoc (simp append_assoc at law)

  -- a client's operation past a server's still represents its edit
  pub stands-past : (c s : O.Op) (e : O.Edit) (after next : List O.Edit) → StandsFor O (O.t.edit_of c) e after
      → SameMeaning O (after ++ O.t.edit_of s ∷ []) next → StandsFor O (O.t.edit_of (O.t.client_past c s)) e next
  unfolding StandsFor
  stands-past c s e after next h k between =
      let one : SameMeaning O (((after ++ O.t.edit_of s ∷ []) ++ between) ++ O.t.edit_of (O.t.client_past c s) ∷ []) (((after ++ O.t.edit_of s ∷ []) ++ between) ++ O.t.edit_of c ∷ []) = past-meaning c s after between in
      let two : SameMeaning O (((after ++ O.t.edit_of s ∷ []) ++ between) ++ O.t.edit_of c ∷ []) (((after ++ O.t.edit_of s ∷ []) ++ between) ++ e ∷ []) =
      rw (append_assoc after (O.t.edit_of s ∷ []) between) (h (O.t.edit_of s ∷ between)) in
      let left = λ (d : O.Edit). same-later (d ∷ []) _ _ (same-later between _ _ k) in
      same-trans _ _ _ (same-sym _ _ (left (O.t.edit_of (O.t.client_past c s)))) (same-trans _ _ _ one (same-trans _ _ _ two (left e)))

  -- past a client's operation, a server's operation leads to the same list as before it
  pub column-past : (c s : O.Op) (e : O.Edit) (after next : List O.Edit) → O.t.are_apart c s → StandsFor O (O.t.edit_of c) e after
      → SameMeaning O (after ++ O.t.edit_of s ∷ []) next → SameMeaning O ((after ++ e ∷ []) ++ O.t.edit_of (O.t.server_past s c) ∷ []) (next ++ e ∷ [])
  column-past c s e after next apart h k =
      let one = same-later (O.t.edit_of (O.t.server_past s c) ∷ []) _ _ (same-sym _ _ (stands-now _ _ after h)) in
      let two = swapped c s after apart in
      let three = stands-more _ _ (O.t.edit_of s) after h in
      let four = same-later (e ∷ []) _ _ k in
      same-trans _ _ _ one (same-trans _ _ _ two (same-trans _ _ _ three four))

-- Edits of a row and of a column of squares.

-- a site's own entries of two lists
pub own_edits-append : {E : Type 0} → (ts us : List (Turn E)) → own_edits (ts ++ us) ≡ own_edits ts ++ own_edits us
own_edits-append [] us = refl
own_edits-append (Own e ∷ ts) us = ap (λ es. e ∷ es) (own_edits-append ts us)
own_edits-append (Other j e ∷ ts) us = own_edits-append ts us

-- the edits of two lists
pub edits-append : {E : Type 0} → (ts us : List (Turn E)) → edits (ts ++ us) ≡ edits ts ++ edits us
edits-append [] us = refl
edits-append (Own e ∷ ts) us = ap (λ es. e ∷ es) (edits-append ts us)
edits-append (Other j e ∷ ts) us = ap (λ es. e ∷ es) (edits-append ts us)

module _ (O : Operations) (L : AreLawful O) where
  -- a server's operation goes through a row: each entry still represents its edit. The operation leads from the end of the
  -- row to the end of the new one.
  pub row-past : (cs : List O.Op) (es : List O.Edit) (s : O.Op) (after next : List O.Edit)
      → RowStands O after cs es → AllApart O.t cs s → SameMeaning O (after ++ O.t.edit_of s ∷ []) next
      → RowStands O next (clients_past O cs s) es
      × SameMeaning O ((after ++ es) ++ O.t.edit_of (server_past_all O s cs) ∷ []) (next ++ es)
  row-past [] [] s after next h apart k = (tt, rw (append-nil after, append-nil next) k)
  row-past [] (e ∷ es) s after next h apart k = absurd h
  row-past (c ∷ cs) [] s after next h apart k = absurd h
  row-past (c ∷ cs) (e ∷ es) s after next h apart k =
      let corner = column-past O L c s e after next apart.0 h.0 k in
      let rest = row-past cs es (O.t.server_past s c) (after ++ e ∷ []) (next ++ e ∷ []) h.1 (grids.AllApart-entry O.t L.lawful cs s c apart.1) corner in
      ((stands-past O L c s e after next h.0 k, rest.0), simp append_assoc (simp append_assoc at rest.1))

  -- the site's next edit comes at the end of its row
  pub row-more : (cs : List O.Op) (es : List O.Edit) (c : O.Op) (after : List O.Edit)
      → RowStands O after cs es → RowStands O after (cs ++ c ∷ []) (es ++ O.t.edit_of c ∷ [])
  row-more [] [] c after h = (stands-own O L (O.t.edit_of c) after, tt)
  row-more [] (e ∷ es) c after h = absurd h
  row-more (d ∷ cs) [] c after h = absurd h
  row-more (d ∷ cs) (e ∷ es) c after h = (h.0, row-more cs es c (after ++ e ∷ []) h.1)

  -- the server takes the site's next operation, which goes through the column: it then represents its edit after the whole order
  pub column-taken : (ts : List (Turn O.Edit)) (bs : List O.Op) (told : List O.Edit) (c : O.Op) (e : O.Edit)
      → AllApart O.t bs c → Shows O told ts bs → StandsFor O (O.t.edit_of c) e (told ++ own_edits ts)
      → Shows O told (ts ++ Own e ∷ []) (servers_past O bs c) × StandsFor O (O.t.edit_of (client_past_all O c bs)) e (told ++ edits ts)
  column-taken [] [] told c e apart h k = (refl, k)
  column-taken [] (b ∷ bs) told c e apart h k = absurd (cc)
  column-taken (Own f ∷ ts) bs told c e apart h k =
      let rest = column-taken ts bs (told ++ f ∷ []) c e apart h (rw (append_assoc told (f ∷ []) (own_edits ts)) k) in
      (rest.0, rw (append_assoc told (f ∷ []) (edits ts)) at rest.1)
  column-taken (Other j f ∷ ts) [] told c e apart h k = absurd h
  column-taken (Other j f ∷ ts) (b ∷ bs) told c e apart h k =
      let corner = column-past O L c b e (told ++ own_edits ts) ((told ++ f ∷ []) ++ own_edits ts) (L.lawful.apart_swap b c apart.0) k h.0 in
      let next = stands-past O L c b e (told ++ own_edits ts) ((told ++ f ∷ []) ++ own_edits ts) k h.0 in
      let rest = column-taken ts bs (told ++ f ∷ []) (O.t.client_past c b) e (grids.AllApart-entry (mirror O.t) (grids.IsLawful-mirror O.t L.lawful) bs c b apart.1) h.1 next in
      ((rw (own_edits-append ts (Own e ∷ [])) (simp append_assoc (simp append_assoc at corner)), rest.0), rw (append_assoc told (f ∷ []) (edits ts)) at rest.1)

  -- the server takes another site's operation
  pub column-more : (ts : List (Turn O.Edit)) (bs : List O.Op) (told : List O.Edit) (b : O.Op) (j : ℕ) (e : O.Edit)
      → Shows O told ts bs → SameMeaning O ((told ++ edits ts) ++ O.t.edit_of b ∷ []) ((told ++ edits ts) ++ e ∷ [])
      → Shows O told (ts ++ Other j e ∷ []) (bs ++ b ∷ [])
  column-more [] [] told b j e h k = (rw (append-nil told, append-nil (told ++ e ∷ [])) (rw (append-nil told) at k), refl)
  column-more [] (c ∷ bs) told b j e h k = absurd (cc)
  column-more (Own f ∷ ts) bs told b j e h k = column-more ts bs (told ++ f ∷ []) b j e h (rw (append_assoc told (f ∷ []) (edits ts)) k)
  column-more (Other j₀ f ∷ ts) [] told b j e h k = absurd h
  column-more (Other j₀ f ∷ ts) (c ∷ bs) told b j e h k = (
    rw (own_edits-append ts (Other j e ∷ []), append-nil (own_edits ts)) h.0,
    column-more ts bs (told ++ f ∷ []) b j e h.1 (rw (append_assoc told (f ∷ []) (edits ts)) k),
  )

  -- the site is shown the next operation
  pub column-shown : (ts : List (Turn O.Edit)) (bs : List O.Op) (told : List O.Edit) (b : O.Op) → Shows O told ts (b ∷ bs)
      → SameMeaning O ((told ++ own_edits ts) ++ O.t.edit_of b ∷ []) ((told ++ edits (take (through_others 1 ts) ts)) ++ own_edits (drop (through_others 1 ts) ts))
      × Shows O (told ++ edits (take (through_others 1 ts) ts)) (drop (through_others 1 ts) ts) bs
  column-shown [] bs told b h = absurd (cc)
  column-shown (Own f ∷ ts) bs told b h =
      let rest = column-shown ts bs (told ++ f ∷ []) b h in
      simp append_assoc (simp append_assoc at rest)
  column-shown (Other j f ∷ ts) bs told b h = h

-- The operations of a queue, which represent entries of the order, and an operation past them.

-- each of what is left of a list
pub All-drop : {A : Type 0} (P : A → Type 0) → (n : ℕ) (xs : List A) → AllByRecursion P xs → AllByRecursion P (drop n xs)
All-drop P zero xs h = h
All-drop P (suc n) [] h = tt
All-drop P (suc n) (x ∷ xs) h = All-drop P n xs h.1

module _ (O : Operations) (L : AreLawful O) where
  -- an operation past what is left of the star's means what it meant, anywhere after the star's
  past-same : (c s : O.Op) (past : List O.Op) (after between : List O.Edit)
      → SameMeaning O (((after ++ O.t.edit_of s ∷ []) ++ between) ++ O.t.edit_of (O.t.client_past c (row_operation O.t.server_past s past)) ∷ []) (((after ++ O.t.edit_of s ∷ []) ++ between) ++ O.t.edit_of c ∷ [])
  unfolding SameMeaning
  past-same c s past after between x p q =
      let law = L.keeps.edit_client c s past x (p ++ after) between q in
      simp append_assoc (simp append_assoc at law)

  -- past one operation of a queue, after the order
  pub moved-same : (es : List O.Edit) (b : O.Op) → IsMoved O es b → (c : O.Op) → SameMeaning O (es ++ O.t.edit_of (O.t.client_past c b) ∷ []) (es ++ O.t.edit_of c ∷ [])
  moved-same es b h c =
      let s : O.Op = row_operation O.t.server_past h.applied h.past in
      let left = λ (d : O.Edit). same-later O L (d ∷ []) _ _ (same-later O L h.later _ _ h.same) in
      let all : SameMeaning O (((h.before ++ h.meant ∷ []) ++ h.later) ++ O.t.edit_of (O.t.client_past c s) ∷ []) (((h.before ++ h.meant ∷ []) ++ h.later) ++ O.t.edit_of c ∷ []) =
      same-trans O L _ _ _ (same-sym O L _ _ (left (O.t.edit_of (O.t.client_past c s)))) (same-trans O L _ _ _ (past-same c h.applied h.past h.before h.later) (left (O.t.edit_of c))) in
      subst (λ d. SameMeaning O (es ++ O.t.edit_of (O.t.client_past c d) ∷ []) (es ++ O.t.edit_of c ∷ [])) (sym h.is)
      (subst (λ fs. SameMeaning O (fs ++ O.t.edit_of (O.t.client_past c s) ∷ []) (fs ++ O.t.edit_of c ∷ [])) (append_assoc h.before (h.meant ∷ []) h.later ∙ sym h.stands) all)

  -- past all of them
  pub row-same : (es : List O.Edit) (q : List O.Op) → AllByRecursion (IsMoved O es) q → (c : O.Op) → SameMeaning O (es ++ O.t.edit_of (row_operation O.t.client_past c q) ∷ []) (es ++ O.t.edit_of c ∷ [])
  row-same es [] h c = same-refl O L _
  row-same es (b ∷ bs) h c = same-trans O L _ _ _ (row-same es bs h.1 (O.t.client_past c b)) (moved-same es b h.0 c)

  -- and they past it
  pub moved-past : (es : List O.Edit) (b : O.Op) → IsMoved O es b → (c : O.Op) → IsMoved O es (O.t.server_past b c)
  moved-past es b h c = record {
    before = h.before;
    meant = h.meant;
    later = h.later;
    applied = h.applied;
    past = h.past ++ c ∷ [];
    stands = h.stands;
    same = h.same;
    is = ap (λ d. O.t.server_past d c) h.is ∙ sym (grids.row_operation-append O.t.server_past h.applied h.past (c ∷ []));
  }

  pub row-moved : (es : List O.Edit) (q : List O.Op) → AllByRecursion (IsMoved O es) q → (c : O.Op) → AllByRecursion (IsMoved O es) (row_entries O.t.client_past O.t.server_past c q)
  row-moved es [] h c = tt
  row-moved es (b ∷ bs) h c = (moved-past es b h.0 c, row-moved es bs h.1 (O.t.client_past c b))

  -- a longer order
  pub moved-longer : (es fs : List O.Edit) (b : O.Op) → IsMoved O es b → IsMoved O (es ++ fs) b
  moved-longer es fs b h = record {
    before = h.before;
    meant = h.meant;
    later = h.later ++ fs;
    applied = h.applied;
    past = h.past;
    stands = ap (λ gs. gs ++ fs) h.stands ∙ append_assoc h.before (h.meant ∷ h.later) fs;
    same = h.same;
    is = h.is;
  }

  -- what the star applies for a new entry
  pub moved-new : (es : List O.Edit) (op : O.Op) (e : O.Edit) → SameMeaning O (es ++ O.t.edit_of op ∷ []) (es ++ e ∷ []) → IsMoved O (es ++ e ∷ []) op
  moved-new es op e same = record { before = es; meant = e; later = []; applied = op; past = []; stands = refl; same = same; is = refl }

  module _ (counts : ℕ → ℕ) where
    -- what an operation changes is still changed by it past a queue, or is known
    pub row-changes : (q : List O.Op) → AllByRecursion (λ b. ChangesKnown O counts (O.t.edit_of b)) q → (c : O.Op) (n : O.t.Name) → O.t.changes (O.t.edit_of c) n
        → O.t.changes (O.t.edit_of (row_operation O.t.client_past c q)) n ⊎ IsKnown O counts n
    row-changes [] h c n x = inl x
    row-changes (b ∷ bs) h c n x = elim (L.keeps.changes_client c b n x) [
      | inl still ↦ row-changes bs h.1 (O.t.client_past c b) n still
      | inr gone ↦ inr (h.0 n gone)
    ]

    -- and what the queue changes past it is known
    pub row-known : (q : List O.Op) → AllByRecursion (λ b. ChangesKnown O counts (O.t.edit_of b)) q → (c : O.Op)
        → AllByRecursion (λ b. ChangesKnown O counts (O.t.edit_of b)) (row_entries O.t.client_past O.t.server_past c q)
    row-known [] h c = tt
    row-known (b ∷ bs) h c = ((λ n x. h.0 n (L.keeps.changes_server b c n x)), row-known bs h.1 (O.t.client_past c b))

-- The next edit that a site receives, and what may be concurrent with a site's own edits.

-- what holds of a site's own edits and of the next of another holds up to that one
pub each_shown : {E : Type 0} (Q : E → Type 0) → (ts : List (Turn E)) (e : E) (es : List E) → others ts ≡ e ∷ es → AllByRecursion Q (own_edits ts) → Q e
    → AllByRecursion Q (edits (take (through_others 1 ts) ts)) × AllByRecursion Q (own_edits (drop (through_others 1 ts) ts))
each_shown Q [] e es h k q = absurd (cc)
each_shown Q (Own f ∷ ts) e es h k q = let rest = each_shown Q ts e es h k.1 q in ((k.0, rest.0), rest.1)
each_shown Q (Other j f ∷ ts) e es h k q = let same : e ≡ f = cc in ((subst Q same q, tt), k)

-- the edits of other sites in two lists
pub others-append : {E : Type 0} → (ts us : List (Turn E)) → others (ts ++ us) ≡ others ts ++ others us
others-append [] us = refl
others-append (Own e ∷ ts) us = others-append ts us
others-append (Other j e ∷ ts) us = ap (λ es. e ∷ es) (others-append ts us)

module _ (O : Operations) (L : AreLawful O) where
  -- past a list an operation inserts no more
  pub inserts_servers : (cs : List O.Op) (s : O.Op) (n : O.t.Name) → O.t.inserts (O.t.edit_of (server_past_all O s cs)) n → O.t.inserts (O.t.edit_of s) n
  inserts_servers [] s n h = h
  inserts_servers (c ∷ cs) s n h = L.keeps.inserts_server s c n (inserts_servers cs (O.t.server_past s c) n h)

  -- seen from the other end
  pub inserts_clients : (ss : List O.Op) (c : O.Op) (n : O.t.Name) → O.t.inserts (O.t.edit_of (client_past_all O c ss)) n → O.t.inserts (O.t.edit_of c) n
  inserts_clients [] c n h = h
  inserts_clients (s ∷ ss) c n h = L.keeps.inserts_client c s n (inserts_clients ss (O.t.client_past c s) n h)

  -- nor does a list past an operation
  pub inherits_clients : (cs : List O.Op) (s : O.Op) (es : List O.Edit) → Inherits O cs es → Inherits O (clients_past O cs s) es
  inherits_clients [] s [] h = tt
  inherits_clients [] s (e ∷ es) h = absurd h
  inherits_clients (c ∷ cs) s [] h = absurd h
  inherits_clients (c ∷ cs) s (e ∷ es) h = (λ n x. h.0 n (L.keeps.inserts_client c s n x), inherits_clients cs (O.t.server_past s c) es h.1)

  -- seen from the other end
  pub inherits_servers : (ss : List O.Op) (c : O.Op) (es : List O.Edit) → Inherits O ss es → Inherits O (servers_past O ss c) es
  inherits_servers [] c [] h = tt
  inherits_servers [] c (e ∷ es) h = absurd h
  inherits_servers (s ∷ ss) c [] h = absurd h
  inherits_servers (s ∷ ss) c (e ∷ es) h = (λ n x. h.0 n (L.keeps.inserts_server s c n x), inherits_servers ss (O.t.client_past c s) es h.1)

  -- the operations that the next message of a stream brings
  pub first_rising : {most i : ℕ} {first : O.t.Content} {past rest : List (Turn O.Edit)} {held : O.State} {mine : List O.Edit} {l : LinkState O.Op} {a : AttachedOf O}
      (p : Paired O most i first past rest held mine l a) (m : Msg O.Op) (us : List (Message O.Op)) → ups a.up ≡ sent m ∷ us
      → (c : O.Op) × (cs : List O.Op) × (p.site_ahead ≡ c ∷ cs)
  first_rising {held = held} {l = l} {a = a} p m us comes =
      first_up O.t (subst (λ r. InStepAt O.t 0 p.from p.site_ahead p.star_ahead a.site.board held a.site.end l.end r (downs (a.down ++ l.outbox))) comes p.in_step)

  -- and of the stream down
  pub first_falling : {most i : ℕ} {first : O.t.Content} {past rest : List (Turn O.Edit)} {held : O.State} {mine : List O.Edit} {l : LinkState O.Op} {a : AttachedOf O}
      (p : Paired O most i first past rest held mine l a) (m : Msg O.Op) (ds : List (Message O.Op)) → downs (a.down ++ l.outbox) ≡ sent m ∷ ds
      → (s : O.Op) × (ss : List O.Op) × (p.star_ahead ≡ s ∷ ss)
  first_falling {held = held} {l = l} {a = a} p m ds comes =
      first_down O.t (subst (λ r. InStepAt O.t 0 p.from p.site_ahead p.star_ahead a.site.board held a.site.end l.end (ups a.up) r) comes p.in_step)

  -- what a site has sent inserts only names of its own
  pub own_apart : (c : ℕ → ℕ) (i k : ℕ) (cs : List O.Op) (es : List O.Edit) (last : ℕ) (s : O.Op) → Inherits O cs es → RawNamed O c i k es last
      → ((n : O.t.Name) → O.t.inserts (O.t.edit_of s) n → O.site_of n ≡ i → ⊥) → AllApart O.t cs s
  own_apart c i k [] [] last s h r f = tt
  own_apart c i k [] (e ∷ es) last s h r f = absurd h
  own_apart c i k (o ∷ cs) [] last s h r f = absurd h
  own_apart c i k (o ∷ cs) (e ∷ es) last s h r f =
      (L.apart_from_sites o s (λ m n x y same. f n y (sym same ∙ L.next_site i k e m r.0 (h.0 m x))), own_apart c i (k + O.insertions e) cs es last s h.1 r.3 f)

  -- the entries that have reached the site once the next was delivered
  abbrev pub told_next : List (Turn O.Edit) → List (Turn O.Edit) → List (Turn O.Edit)
  told_next past ts = past ++ take (through_others 1 ts) ts

  -- the next entry of another site: whose it is, and what it may name, by the entries that had reached the site before it and after it
  pub record NextOther (i : ℕ) (past ts : List (Turn O.Edit)) (s : O.Op) (ss : List O.Op) : Type 0 where
    pub site : ℕ
    pub edit : O.Edit
    pub positive : 1 ≤ site
    pub foreign : nat_eq site i ≡ false
    pub others_are : others ts ≡ edit ∷ others (drop (through_others 1 ts) ts)
    pub of_site : (n : O.t.Name) → O.t.inserts (O.t.edit_of s) n → O.site_of n ≡ site
    pub above : (n : O.t.Name) → O.t.inserts (O.t.edit_of s) n → named_by O i site past < O.number_of n
    pub within : (n : O.t.Name) → O.t.inserts (O.t.edit_of s) n → O.number_of n ≤ named_by O i site (told_next past ts)
    pub changes : ChangesKnown O (λ k. named_by O i k (told_next past ts)) edit
    pub more : (j : ℕ) → named_by O i j past ≤ named_by O i j (told_next past ts)
    pub rest_named : OrderNamed O i (told_next past ts) (drop (through_others 1 ts) ts)
    pub rest_inherits : Inherits O ss (others (drop (through_others 1 ts) ts))

  -- there is one if something is still to be delivered
  pub next_other : (i : ℕ) (past ts : List (Turn O.Edit)) (s : O.Op) (ss : List O.Op) → OrderNamed O i past ts → Inherits O (s ∷ ss) (others ts) → NextOther i past ts s ss
  next_other i past [] s ss h k = absurd k
  next_other i past (Own f ∷ ts) s ss h k =
      let rest = next_other i (past ++ Own f ∷ []) ts s ss h k in
      let whole : told_next (past ++ Own f ∷ []) ts ≡ told_next past (Own f ∷ ts) = append_assoc past (Own f ∷ []) (take (through_others 1 ts) ts) in
      record {
        site = rest.site;
        edit = rest.edit;
        positive = rest.positive;
        foreign = rest.foreign;
        others_are = rest.others_are;
        of_site = rest.of_site;
        above = λ n x. omega (arith, rest.above n x, named_by-append O L i rest.site past (Own f ∷ []));
        within = λ n x. subst (λ p. O.number_of n ≤ named_by O i rest.site p) whole (rest.within n x);
        changes = subst (λ p. ChangesKnown O (λ k. named_by O i k p) rest.edit) whole rest.changes;
        more = λ j. omega (arith, named_by-append O L i j past (take (through_others 1 (Own f ∷ ts)) (Own f ∷ ts)));
        rest_named = subst (λ p. OrderNamed O i p (drop (through_others 1 ts) ts)) whole rest.rest_named;
        rest_inherits = rest.rest_inherits;
      }
  next_other i past (Other j e ∷ ts) s ss h k = record {
    site = j;
    edit = e;
    positive = h.0.0;
    foreign = h.0.1;
    others_are = refl;
    of_site = λ n x. L.next_site j _ e n h.0.2 (k.0 n x);
    above = λ n x. L.next_above j _ e n h.0.2 (k.0 n x);
    within = λ n x. omega (arith, L.next_within j _ e n h.0.2 (k.0 n x), named_by-append O L i j past (Other j e ∷ []), own j e);
    changes = λ n x. elim (h.0.3 n x) [
      | inl known ↦ known_more O L (λ m. named_by O i m past) (λ m. named_by O i m (past ++ Other j e ∷ [])) n (λ m. omega (arith, named_by-append O L i m past (Other j e ∷ []))) known
      | inr new ↦ inr (subst (λ m. O.number_of n ≤ named_by O i m (past ++ Other j e ∷ [])) (sym (L.next_site j _ e n h.0.2 new)) (omega (arith, L.next_within j _ e n h.0.2 new, named_by-append O L i j past (Other j e ∷ []), own j e)))
    ];
    more = λ m. omega (arith, named_by-append O L i m past (Other j e ∷ []));
    rest_named = h.1;
    rest_inherits = k.1;
  }
    where
      own : (j : ℕ) (e : O.Edit) → named_by O i j (Other j e ∷ []) ≡ O.insertions e
      own j e = cases (nat_eq j j) (eq-eqb j j refl)
        where
          cases : (b : Bool) → b ≡ true → cond b (O.insertions e) 0 + 0 ≡ O.insertions e
          cases true f = omega arith
          cases false f = absurd (cc)

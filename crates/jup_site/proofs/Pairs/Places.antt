-- A site keeps its place of the order.
use Rattle.std.proofs.Common.{◌≡◌, ℕ, ◌+◌, ◌-◌, ◌≤◌, ◌⊎◌, inl, inr, Bool, true, false, cond, List, [], ◌∷◌, ◌++◌, length, nat_eq, refl, ap, sym, ◌∙◌, subst, arith, IsTrue, append_assoc, append-nil, length-append, le_refl, eq-eqb, zero, suc, take, drop, length-drop, add-one, Ok, take-append-drop, take-add, drop-drop, ◌<◌, Some, None}
use Rattle.std.proofs.lemmas.List.{drop-append-le, take-append-le}
use Rattle.jup_site.specs.Prelude.{most_beyond, AllApart, Msg, Message, IsCount, IsNumber, received_operation, after_receive, sent, InStepAt, after_count, Operations, AreLawful, Up, UpOp, UpAck, UpPing, Down, DownOp, DownAck, DownPong, LogFull, ups, downs, LinkState, operation_at, link_heard, link_sent, link_acked, link_ponged, link_fetched, StarOf, up_fault, entry, edit_answer, with_end, deliver_fault, AllByRecursion}
use Rattle.jup_xform.specs.Laws.Grids.{length-row_entries}
use Rattle.jup_link.specs.Laws.Steps as link_laws
use Rattle.jup_site.specs.Turns.{Turn, Own, Other, edits, own_edits, others, through_others, turns}
use Rattle.jup_site.specs.Sound.{SameMeaning, StandsFor, client_past_all, servers_past, RowStands, Shows, edits_sent, named_by, IsKnown, own_counts, ChangesKnown, ChangesHeld, Inherits, RawNamed, OrderNamed, Paired, told_of, Standing, named_in, edits_in}
use Rattle.jup_site.specs.Sites.{AttachedOf, with_edit, one_taken, one_handed, with_fetched}
use Rattle.jup_site.proofs.Pairs.Grids as grids
use Rattle.jup_site.proofs.Pairs.Streams as streams
use Rattle.jup_site.proofs.Pairs.Edits as pairs
use Rattle.jup_site.proofs.Known as known_names
use Rattle.jup_site.proofs.Turns as order_turns
use Rattle.jup_site.proofs.Fits as fitting

-- The star takes an edit of a site: it and its link stay in step.

-- the site and the link after a take, before the star's end pays what it owes
abbrev pub taken_from : (O : Operations) → AttachedOf O → List (Up O.Op) → AttachedOf O
taken_from O a rising = record { site = a.site; up = rising; down = a.down }

-- the link once its end received it
abbrev pub link_taken : (O : Operations) → LinkState O.Op → Msg O.Op → LinkState O.Op
link_taken O l m = record { site = l.site; end = after_receive O.t l.end m.heard m.op; outbox = l.outbox; named = l.named + O.insertions (O.t.edit_of m.op) }

module _ (O : Operations) (L : AreLawful O) where
  -- the entries of other sites stay named with an own one more
  pub order_named-own : (i : ℕ) (past ts : List (Turn O.Edit)) (e : O.Edit) → OrderNamed O i past ts → OrderNamed O i past (ts ++ Own e ∷ [])
  order_named-own i past [] e h = tt
  order_named-own i past (Own f ∷ ts) e h = order_named-own i (past ++ Own f ∷ []) ts e h
  order_named-own i past (Other j f ∷ ts) e h = (h.0, order_named-own i (past ++ Other j f ∷ []) ts e h.1)

  -- the site named its insertions
  pub named_own : (i : ℕ) (ts : List (Turn O.Edit)) (e : O.Edit) → named_by O i i (ts ++ Own e ∷ []) ≡ named_by O i i ts + O.insertions e
  named_own i ts e = known_names.named_by-append O L i i ts (Own e ∷ []) ∙ cases (nat_eq i i) (eq-eqb i i refl)
    where
      cases : (b : Bool) → b ≡ true → named_by O i i ts + (cond b (O.insertions e) 0 + 0) ≡ named_by O i i ts + O.insertions e
      cases true f = omega arith
      cases false f = absurd (cc)

  module _ (most i : ℕ) (first : O.t.Content) (past rest : List (Turn O.Edit)) (held : O.State) (mine : List O.Edit) (l : LinkState O.Op) (a : AttachedOf O)
      (h : Paired O most i first past rest held mine l a) (few : length (past ++ rest) + most_beyond ≤ most)
      (m : Msg O.Op) (us : List (Message O.Op)) (comes : ups a.up ≡ sent m ∷ us) (rising : List (Up O.Op)) (left : ups rising ≡ us)
      (c : O.Op) (cs : List O.Op) (up : h.site_ahead ≡ c ∷ cs) where
    -- the two ends are in step over the message
    stepping : InStepAt O.t 0 h.from (c ∷ cs) h.star_ahead a.site.board held a.site.end l.end (sent m ∷ us) (downs (a.down ++ l.outbox))
    stepping = subst (λ d. InStepAt O.t 0 h.from d h.star_ahead a.site.board held a.site.end l.end (sent m ∷ us) (downs (a.down ++ l.outbox))) up
        (subst (λ f. InStepAt O.t 0 h.from h.site_ahead h.star_ahead a.site.board held a.site.end l.end f (downs (a.down ++ l.outbox))) comes h.in_step)

    -- its edit is the first on its way
    raw_is : h.raw ≡ O.t.edit_of m.op ∷ edits_sent O us
    raw_is = sym h.raw_sent ∙ ap (edits_sent O) comes

    -- what it and those after it represent
    row : RowStands O (edits past ++ own_edits rest) (c ∷ cs) (O.t.edit_of m.op ∷ edits_sent O us)
    row = subst (λ es. RowStands O (edits past ++ own_edits rest) (c ∷ cs) es) raw_is (subst (λ os. RowStands O (edits past ++ own_edits rest) os h.raw) up h.row)

    -- what they insert
    inherits : Inherits O (c ∷ cs) (O.t.edit_of m.op ∷ edits_sent O us)
    inherits = subst (λ es. Inherits O (c ∷ cs) es) raw_is (subst (λ os. Inherits O os h.raw) up h.up_inherits)

    -- how they are named
    named : RawNamed O (λ j. named_by O i j past) i (named_by O i i (past ++ rest)) (O.t.edit_of m.op ∷ edits_sent O us) a.site.named
    named = subst (λ es. RawNamed O (λ j. named_by O i j past) i (named_by O i i (past ++ rest)) es a.site.named) raw_is h.raw_named

    -- what is on its way down is apart from it
    apart : AllApart O.t h.star_ahead c
    apart = pairs.others_apart O L i past rest h.star_ahead c h.rest_named h.down_inherits
        (λ n x. L.next_site i (named_by O i i (past ++ rest)) (O.t.edit_of m.op) n named.0 (inherits.0 n x))

    -- the operations still to be delivered, past it
    column : Shows O (edits past) (rest ++ Own (O.t.edit_of m.op) ∷ []) (servers_past O h.star_ahead c) × StandsFor O (O.t.edit_of (client_past_all O c h.star_ahead)) (O.t.edit_of m.op) (edits past ++ edits rest)
    column = grids.column-taken O L rest h.star_ahead (edits past) c (O.t.edit_of m.op) apart h.column row.0

    -- the operation that the star applies is the message's past all of them
    received_is : received_operation O.t l.end m.heard m.op ≡ client_past_all O c h.star_ahead
    received_is = (link_laws.server_receives O.t L.lawful h.link_side stepping).0

    -- the star's end accepts the message, and its operation is valid there
    pub taken_fits : IsNumber l.end m.mine × IsCount l.end m.heard × O.t.is_valid (received_operation O.t l.end m.heard m.op) held
    taken_fits = let came = link_laws.server_receives O.t L.lawful h.link_side stepping in (came.1, came.2, came.3)

    -- the edit bears the site's next name
    pub taken_next : IsTrue (O.bears_next i (named_by O i i (past ++ rest)) (O.t.edit_of m.op))
    taken_next = named.0

    -- it is something
    pub taken_edit : O.is_nothing (O.t.edit_of m.op) ≡ false
    taken_edit = named.1

    -- the ends are then in step
    stepped : InStepAt O.t 0 (O.t.after c h.from) cs (servers_past O h.star_ahead c) a.site.board (O.t.after (received_operation O.t l.end m.heard m.op) held)
        a.site.end (after_receive O.t l.end m.heard m.op) (ups rising) (downs (a.down ++ l.outbox))
    stepped = subst
        (λ f. InStepAt O.t 0 (O.t.after c h.from) cs (servers_past O h.star_ahead c) a.site.board (O.t.after (received_operation O.t l.end m.heard m.op) held)
        a.site.end (after_receive O.t l.end m.heard m.op) f (downs (a.down ++ l.outbox)))
        (sym left) (link_laws.server_receives O.t L.lawful h.link_side stepping).4

    -- the order with the entry at its end
    whole_taken : past ++ (rest ++ Own (O.t.edit_of m.op) ∷ []) ≡ (past ++ rest) ++ Own (O.t.edit_of m.op) ∷ []
    whole_taken = sym (append_assoc past rest (Own (O.t.edit_of m.op) ∷ []))

    -- the site's list in the words of the new order
    moved : (edits past ++ own_edits (rest ++ Own (O.t.edit_of m.op) ∷ [])) ++ edits_sent O us ≡ (edits past ++ own_edits rest) ++ h.raw
    moved = simp (grids.own_edits-append, append_assoc) (ap (λ es. edits past ++ (own_edits rest ++ es)) (sym raw_is))

    -- the pair once the star took the edit
    pub pair-taken : Paired O most i first past (rest ++ Own (O.t.edit_of m.op) ∷ []) (O.t.after (received_operation O.t l.end m.heard m.op) held) mine (link_taken O l m) (taken_from O a rising)
    pair-taken = record {
      from = O.t.after c h.from;
      site_ahead = cs;
      star_ahead = servers_past O h.star_ahead c;
      site_side = h.site_side;
      link_side = h.link_side;
      in_step = stepped;
      room = h.room - 1;
      small = link_laws.small_next O.t L.lawful h.room (h.room - 1) h.from c (omega (arith, h.enough)) h.small stepping.states.near_valid.0;
      enough = omega (arith, h.enough, ap length whole_taken, length-append (past ++ rest) (Own (O.t.edit_of m.op) ∷ []), length-row_entries O.t.client_past O.t.server_past c h.star_ahead);
      raw = edits_sent O us;
      raw_sent = ap (edits_sent O) left;
      row = subst (λ es. RowStands O es cs (edits_sent O us)) (append_assoc (edits past) (own_edits rest) (O.t.edit_of m.op ∷ []) ∙ ap (λ es. edits past ++ es) (sym (grids.own_edits-append rest (Own (O.t.edit_of m.op) ∷ [])))) row.1;
      column = column.0;
      all_made = h.all_made ∙ all_moved;
      shows = h.shows ∙ ap (O.t.meaning first) (sym moved);
      up_inherits = inherits.1;
      down_inherits = subst (λ es. Inherits O (servers_past O h.star_ahead c) es) (sym (grids.others-append rest (Own (O.t.edit_of m.op) ∷ []) ∙ append-nil (others rest))) (grids.inherits_servers O L h.star_ahead c (others rest) h.down_inherits);
      raw_named = subst (λ k. RawNamed O (λ j. named_by O i j past) i k (edits_sent O us) a.site.named) (sym (ap (named_by O i i) whole_taken ∙ named_own i (past ++ rest) (O.t.edit_of m.op))) named.3;
      rest_named = order_named-own i past rest (O.t.edit_of m.op) h.rest_named;
      board_known = h.board_known;
      from_known = λ n x. subst (λ k. IsKnown O (own_counts O i k (λ j. named_by O i j past)) n) (sym (ap (named_by O i i) whole_taken ∙ named_own i (past ++ rest) (O.t.edit_of m.op)))
          (from_held n (L.keeps.held_before h.from c n stepping.states.near_valid.0 x));
      view_known = subst (λ es. AllByRecursion (ChangesKnown O (own_counts O i a.site.named (λ j. named_by O i j past))) es) (sym moved) h.view_known;
      falling_foreign = h.falling_foreign;
      positive = h.positive;
      site_number = h.site_number;
      link_number = h.link_number;
      link_named = ap (λ k. k + O.insertions (O.t.edit_of m.op)) h.link_named ∙ sym (ap (named_by O i i) whole_taken ∙ named_own i (past ++ rest) (O.t.edit_of m.op));
      goes_on = h.goes_on;
      backlog = h.backlog;
      few_heard = omega (arith, h.few_heard, ap length whole_taken, length-append (past ++ rest) (Own (O.t.edit_of m.op) ∷ []));
      few_sent = omega (arith, h.few_sent, ap length whole_taken, length-append (past ++ rest) (Own (O.t.edit_of m.op) ∷ []), link_laws.generated-after_receive O.t l.end m.heard m.op taken_fits.1);
    }
      where
        from_held : (n : O.t.Name) → O.t.holds h.from n ⊎ O.t.inserts (O.t.edit_of c) n → IsKnown O (own_counts O i (named_by O i i (past ++ rest) + O.insertions (O.t.edit_of m.op)) (λ j. named_by O i j past)) n
        from_held n (inl x) = known_names.known_more O L (own_counts O i (named_by O i i (past ++ rest)) (λ j. named_by O i j past)) (own_counts O i (named_by O i i (past ++ rest) + O.insertions (O.t.edit_of m.op)) (λ j. named_by O i j past)) n
            (known_names.own_counts-more O L i (named_by O i i (past ++ rest)) (named_by O i i (past ++ rest) + O.insertions (O.t.edit_of m.op)) (λ j. named_by O i j past) (λ j. named_by O i j past) (omega arith) (λ j. le_refl _)) (h.from_known n x)
        from_held n (inr x) = known_names.known_own O L i (named_by O i i (past ++ rest) + O.insertions (O.t.edit_of m.op)) (λ j. named_by O i j past) n
            (L.next_site i (named_by O i i (past ++ rest)) (O.t.edit_of m.op) n named.0 (inherits.0 n x)) (L.next_within i (named_by O i i (past ++ rest)) (O.t.edit_of m.op) n named.0 (inherits.0 n x))

        all_moved : own_edits (past ++ rest) ++ h.raw ≡ own_edits (past ++ (rest ++ Own (O.t.edit_of m.op) ∷ [])) ++ edits_sent O us
        all_moved = ap (λ es. own_edits (past ++ rest) ++ es) raw_is ∙ sym (ap (λ ts. own_edits ts ++ edits_sent O us) whole_taken ∙ ap (λ es. es ++ edits_sent O us) (grids.own_edits-append (past ++ rest) (Own (O.t.edit_of m.op) ∷ []))
            ∙ append_assoc (own_edits (past ++ rest)) (O.t.edit_of m.op ∷ []) (edits_sent O us))

-- A site at its place of the order, as the order grows and as it receives edits.

module _ (O : Operations) (L : AreLawful O) where
  -- a longer order does not change what has reached a site
  pub told_end : (joined n : ℕ) (ts us : List (Turn O.Edit)) → joined ≤ length ts → n ≤ length (others (drop joined ts)) → told_of O joined n (ts ++ us) ≡ told_of O joined n ts
  told_end joined n ts us h k = ap (λ k. joined + k) (ap (through_others n) (drop-append-le joined ts us h) ∙ order_turns.through-append n (drop joined ts) us k)

  -- what has reached a site is within the order
  pub told_within : (joined n : ℕ) (ts : List (Turn O.Edit)) → joined ≤ length ts → n ≤ length (others (drop joined ts)) → told_of O joined n ts ≤ length ts
  told_within joined n ts h k = omega (arith, order_turns.through-within n (drop joined ts) k, length-drop joined ts)

  -- a longer list has no fewer of others
  others_longer : (ts us : List (Turn O.Edit)) (n : ℕ) → n ≤ length (others ts) → n ≤ length (others (ts ++ us))
  others_longer [] us n h = omega arith
  others_longer (Own e ∷ ts) us n h = others_longer ts us n h
  others_longer (Other j e ∷ ts) us zero h = omega arith
  others_longer (Other j e ∷ ts) us (suc n) h = omega (arith, others_longer ts us n (omega arith))

  module _ (most : ℕ) (first : O.t.Content) (ts : List (Turn O.Edit)) (held : O.State) (mine : List O.Edit) (joined n i : ℕ) (l : LinkState O.Op) (a : AttachedOf O)
      (h : Standing O most first ts held mine joined n i l a) where
    -- how many entries have reached it
    told : ℕ
    told = told_of O joined n ts

    -- what has reached the site, and what is still to reach it
    halves : take (told_of O joined n ts) ts ++ drop (told_of O joined n ts) ts ≡ ts
    halves = take-append-drop (told_of O joined n ts) ts

    -- another list of pairs at the same place of the order
    pub stand-pair : (held' : O.State) (mine' : List O.Edit) (l' : LinkState O.Op) (a' : AttachedOf O)
        → Paired O most i first (take (told_of O joined n ts) ts) (drop (told_of O joined n ts) ts) held' mine' l' a' → Standing O most first ts held' mine' joined n i l' a'
    stand-pair held' mine' l' a' p = record { pair = p; joined_within = h.joined_within; shown_within = h.shown_within }

    -- it makes an edit
    pub stand-makes : (command : O.Command) (op : O.Op) → edit_answer O command a.site ≡ Ok op → length ts + most_beyond ≤ most → most ≤ 4294967295
        → Standing O most first ts held (mine ++ O.t.edit_of op ∷ []) joined n i l (with_edit O op a)
    stand-makes command op ok few counted = stand-pair held (mine ++ O.t.edit_of op ∷ []) l (with_edit O op a)
        (pairs.pair-makes O L most i first (take (told_of O joined n ts) ts) (drop (told_of O joined n ts) ts) held mine l a h.pair command op ok (subst (λ us. length us + most_beyond ≤ most) (sym halves) few) counted)

    -- the order grows by one entry, whose turn it may be
    pub stand-longer : (x : Turn O.Edit) (held' : O.State) (l' : LinkState O.Op) (a' : AttachedOf O)
        → Paired O most i first (take (told_of O joined n ts) ts) (drop (told_of O joined n ts) ts ++ x ∷ []) held' mine l' a' → Standing O most first (ts ++ x ∷ []) held' mine joined n i l' a'
    stand-longer x held' l' a' p = record {
      pair = subst (λ k. Paired O most i first (take k (ts ++ x ∷ [])) (drop k (ts ++ x ∷ [])) held' mine l' a') (sym (told_end joined n ts (x ∷ []) h.joined_within h.shown_within))
          (subst (λ us. Paired O most i first us (drop (told_of O joined n ts) (ts ++ x ∷ [])) held' mine l' a') (sym (take-append-le (told_of O joined n ts) ts (x ∷ []) within))
          (subst (λ us. Paired O most i first (take (told_of O joined n ts) ts) us held' mine l' a') (sym (drop-append-le (told_of O joined n ts) ts (x ∷ []) within)) p));
      joined_within = omega (arith, h.joined_within, length-append ts (x ∷ []));
      shown_within = subst (λ us. n ≤ length (others us)) (sym (drop-append-le joined ts (x ∷ []) h.joined_within)) (others_longer (drop joined ts) (x ∷ []) n h.shown_within);
    }
      where
        within : told_of O joined n ts ≤ length ts
        within = told_within joined n ts h.joined_within h.shown_within

    -- the site is shown one more
    pub stand-next : (l' : LinkState O.Op) (a' : AttachedOf O) → 1 ≤ length (others (drop (told_of O joined n ts) ts))
        → Paired O most i first (grids.told_next O L (take (told_of O joined n ts) ts) (drop (told_of O joined n ts) ts))
        (drop (through_others 1 (drop (told_of O joined n ts) ts)) (drop (told_of O joined n ts) ts)) held mine l' a'
        → Standing O most first ts held mine joined (n + 1) i l' a'
    stand-next l' a' some p = record {
      pair = subst (λ k. Paired O most i first (take k ts) (drop k ts) held mine l' a') (sym told_more)
          (subst (λ us. Paired O most i first us (drop (told_of O joined n ts + through_others 1 (drop (told_of O joined n ts) ts)) ts) held mine l' a')
          (sym (take-add (told_of O joined n ts) (through_others 1 (drop (told_of O joined n ts) ts)) ts))
          (subst (λ us. Paired O most i first (grids.told_next O L (take (told_of O joined n ts) ts) (drop (told_of O joined n ts) ts)) us held mine l' a') dropped p));
      joined_within = h.joined_within;
      shown_within = omega (arith, enough);
    }
      where
        split : drop (through_others n (drop joined ts)) (drop joined ts) ≡ drop (told_of O joined n ts) ts
        split = drop-drop (through_others n (drop joined ts)) joined ts

        enough : suc n ≤ length (others (drop joined ts))
        enough = omega (arith, order_turns.others-left n (drop joined ts) h.shown_within, ap (λ us. length (others us)) split)

        told_more : told_of O joined (n + 1) ts ≡ told_of O joined n ts + through_others 1 (drop (told_of O joined n ts) ts)
        told_more = ap (λ k. joined + through_others k (drop joined ts)) (add-one n)
            ∙ omega (arith, order_turns.through-next n (drop joined ts) enough, ap (through_others 1) split)

        dropped : drop (through_others 1 (drop (told_of O joined n ts) ts)) (drop (told_of O joined n ts) ts) ≡ drop (told_of O joined n ts + through_others 1 (drop (told_of O joined n ts) ts)) ts
        dropped = drop-drop (through_others 1 (drop (told_of O joined n ts) ts)) (told_of O joined n ts) ts

-- A site keeps its place of the order, as it and others edit.

-- the same messages are on their way
same_way : {Operation : Type 0} → (n : ℕ) (ds os : List (Down Operation)) → downs ((ds ++ take n os) ++ drop n os) ≡ downs (ds ++ os)
same_way n ds os = ap downs (append_assoc ds (take n os) (drop n os) ∙ ap (λ xs. ds ++ xs) (take-append-drop n os))

module _ (O : Operations) (L : AreLawful O) (most : ℕ) (first : O.t.Content) (s : StarOf O) (mine : List O.Edit) (i joined n : ℕ) (l : LinkState O.Op) (a : AttachedOf O)
    (st : Standing O most first (turns i s.order) s.board mine joined n i l a) (fits : length s.order + most_beyond ≤ most) where
  -- how many entries have reached it, and those, and the others
  abbrev pub t : ℕ
  t = told_of O joined n (turns i s.order)

  abbrev pub past : List (Turn O.Edit)
  past = take t (turns i s.order)

  abbrev pub rest : List (Turn O.Edit)
  rest = drop t (turns i s.order)

  pub whole : past ++ rest ≡ turns i s.order
  whole = take-append-drop t (turns i s.order)

  -- there is room for what may still come
  pub room : length (past ++ rest) + most_beyond ≤ most
  room = omega (arith, ap length whole, order_turns.length-turns i s.order, fits)

  -- the star takes its edit
  pub place-taken : (m : Msg O.Op) (us : List (Up O.Op)) → a.up ≡ UpOp m ∷ us
      → Standing O most first (turns i (s.order ++ entry O i m ∷ [])) (O.t.after (operation_at O l.end m) s.board) mine joined n i (link_heard O m l) (one_taken O a)
  place-taken m us rising =
      let head = grids.first_rising O L st.pair m (ups us) (ap ups rising) in
      subst (λ ts. Standing O most first ts (O.t.after (operation_at O l.end m) s.board) mine joined n i (link_heard O m l) (one_taken O a)) (sym (order_turns.turns-append i s.order (entry O i m ∷ []) ∙ ap (λ x. turns i s.order ++ x ∷ []) (owned (nat_eq i i) (eq-eqb i i refl))))
      (stand-longer O L most first (turns i s.order) s.board mine joined n i l a st (Own (O.t.edit_of m.op)) (O.t.after (operation_at O l.end m) s.board) (link_heard O m l) (one_taken O a)
      (streams.pair-link_settles O L most i first past (rest ++ Own (O.t.edit_of m.op) ∷ []) (O.t.after (received_operation O.t l.end m.heard m.op) s.board) mine _ _
      (pair-taken O L most i first past rest s.board mine l a st.pair room m (ups us) (ap ups rising) (drop 1 a.up) (ap (λ r. ups (drop 1 r)) rising) head.0 head.1 head.2)))
    where
      owned : (b : Bool) → b ≡ true → cond b (Own (O.t.edit_of m.op)) (Other i (O.t.edit_of m.op)) ≡ Own (O.t.edit_of m.op)
      owned true e = refl
      owned false e = absurd (cc)

  -- or the order is full
  pub place-accepted : (m : Msg O.Op) (us : List (Up O.Op)) → a.up ≡ UpOp m ∷ us
      → ((up_fault O s l (UpOp m) ≡ None) × (length s.order < s.limit)) ⊎ ((up_fault O s l (UpOp m) ≡ Some LogFull) × (s.limit ≤ length s.order))
  place-accepted m us rising =
      let head = grids.first_rising O L st.pair m (ups us) (ap ups rising) in
      let accepts = taken_fits O L most i first past rest s.board mine l a st.pair room m (ups us) (ap ups rising) us refl head.0 head.1 head.2 in
      let next : IsTrue (O.bears_next l.site l.named (O.t.edit_of m.op)) =
      subst (λ k. IsTrue (O.bears_next k l.named (O.t.edit_of m.op))) (sym st.pair.link_number)
      (subst (λ k. IsTrue (O.bears_next i k (O.t.edit_of m.op))) (sym st.pair.link_named)
      (taken_next O L most i first past rest s.board mine l a st.pair room m (ups us) (ap ups rising) us refl head.0 head.1 head.2)) in
      fitting.take_fits O L s l m accepts.0 accepts.1
      (taken_edit O L most i first past rest s.board mine l a st.pair room m (ups us) (ap ups rising) us refl head.0 head.1 head.2)
      next
      accepts.2

  -- an acknowledgement of its
  pub place-acked : (k : ℕ) (us : List (Up O.Op)) → a.up ≡ UpAck k ∷ us → Standing O most first (turns i s.order) s.board mine joined n i (link_acked k l) (one_taken O a)
  place-acked k us rising = stand-pair O L most first (turns i s.order) s.board mine joined n i l a st s.board mine (link_acked k l) (one_taken O a)
      (streams.pair-up_acked O L most i first past rest s.board mine l a st.pair k (drop 1 a.up) (headed a.up (UpAck k) us rising))
    where
      headed : (r : List (Up O.Op)) (u : Up O.Op) (us : List (Up O.Op)) → r ≡ u ∷ us → r ≡ u ∷ drop 1 r
      headed r u us e = e ∙ ap (λ t. u ∷ t) (sym (ap (drop 1) e))

  pub place-ack_fits : (k : ℕ) (us : List (Up O.Op)) → a.up ≡ UpAck k ∷ us → up_fault O s l (UpAck k) ≡ None
  place-ack_fits k us rising =
      let step = subst (λ r. InStepAt O.t 0 st.pair.from st.pair.site_ahead st.pair.star_ahead a.site.board s.board a.site.end l.end (ups r) (downs (a.down ++ l.outbox))) rising st.pair.in_step in
      fitting.take_ack O L s l k (link_laws.server_counts O.t L.lawful step).0

  -- a ping of its
  pub place-asked : (k : ℕ) (us : List (Up O.Op)) → a.up ≡ UpPing k ∷ us → Standing O most first (turns i s.order) s.board mine joined n i (link_ponged k l) (one_taken O a)
  place-asked k us rising = stand-pair O L most first (turns i s.order) s.board mine joined n i l a st s.board mine (link_ponged k l) (one_taken O a)
      (streams.pair-up_asked O L most i first past rest s.board mine l a st.pair k (drop 1 a.up) (headed a.up (UpPing k) us rising))
    where
      headed : (r : List (Up O.Op)) (u : Up O.Op) (us : List (Up O.Op)) → r ≡ u ∷ us → r ≡ u ∷ drop 1 r
      headed r u us e = e ∙ ap (λ t. u ∷ t) (sym (ap (drop 1) e))

  -- the star takes a stranger's edit, and sends it to the site
  pub place-sent : most ≤ 4294967295 → (j : ℕ) (m : Msg O.Op) (op : O.Op) → O.t.is_valid op s.board
      → SameMeaning O (edits_in O s.order ++ O.t.edit_of op ∷ []) (edits_in O s.order ++ O.t.edit_of m.op ∷ [])
      → ((k : O.t.Name) → O.t.inserts (O.t.edit_of op) k → O.t.inserts (O.t.edit_of m.op) k) → 1 ≤ j → nat_eq j i ≡ false
      → IsTrue (O.bears_next j (named_in O s.order j) (O.t.edit_of m.op)) → ChangesHeld O (named_in O s.order) (O.t.edit_of m.op)
      → Standing O most first (turns i (s.order ++ entry O j m ∷ [])) (O.t.after op s.board) mine joined n i (link_sent op l) a
  place-sent counted j m op valid same inserts positive apart next changes =
      subst (λ ts. Standing O most first ts (O.t.after op s.board) mine joined n i (link_sent op l) a)
      (sym (order_turns.turns-append i s.order (entry O j m ∷ []) ∙ ap (λ x. turns i s.order ++ x ∷ []) (turned (nat_eq j i) apart)))
      (stand-longer O L most first (turns i s.order) s.board mine joined n i l a st (Other j (O.t.edit_of m.op)) (O.t.after op s.board) (link_sent op l) a
      (pairs.pair-sent O L most i first past rest s.board mine l a st.pair room counted op j (O.t.edit_of m.op) valid
      (subst (λ es. SameMeaning O (es ++ O.t.edit_of op ∷ []) (es ++ O.t.edit_of m.op ∷ [])) (order_turns.edits-turns 0 i s.order ∙ ap edits (sym whole) ∙ grids.edits-append past rest) same)
      inserts positive apart
      (subst (λ k. IsTrue (O.bears_next j k (O.t.edit_of m.op))) (order_turns.named-turns O L 0 i j s.order ∙ ap (named_by O i j) (sym whole)) next)
      (known_names.held_more O L (named_in O s.order) (λ k. named_by O i k (past ++ rest)) (λ k. omega (arith, order_turns.named-turns O L 0 i k s.order, ap (named_by O i k) whole)) (O.t.edit_of m.op) changes)))
    where
      turned : (b : Bool) → b ≡ false → cond b (Own (O.t.edit_of m.op)) (Other j (O.t.edit_of m.op)) ≡ Other j (O.t.edit_of m.op)
      turned false e = refl
      turned true e = absurd (cc)

  -- the site receives an edit
  pub place-shown : (m : Msg O.Op) (gone : ℕ) (falling : List (Down O.Op)) → downs (a.down ++ l.outbox) ≡ sent m ∷ downs (falling ++ drop gone l.outbox)
      → Standing O most first (turns i s.order) s.board mine joined (n + 1) i (link_fetched gone l) (one_handed O (DownOp m) falling a)
  place-shown m gone falling comes =
      let head = grids.first_falling O L st.pair m (downs (falling ++ drop gone l.outbox)) comes in
      let next = grids.next_other O L i past rest head.0 head.1 st.pair.rest_named (subst (λ d. Inherits O d (others rest)) head.2 st.pair.down_inherits) in
      stand-next O L most first (turns i s.order) s.board mine joined n i l a st (link_fetched gone l) (one_handed O (DownOp m) falling a) (omega (arith, ap length next.others_are))
      (streams.pair-site_settles O L most i first _ _ s.board mine (pairs.link_left l (drop gone l.outbox)) (pairs.shown_at O a m falling)
      (pairs.pair-shown O L most i first past rest s.board mine l a st.pair room m (downs (falling ++ drop gone l.outbox)) comes
      falling (drop gone l.outbox) refl head.0 head.1 head.2))

  -- an acknowledgement
  pub place-told : (k gone : ℕ) (falling : List (Down O.Op)) → downs (a.down ++ l.outbox) ≡ downs (DownAck k ∷ (falling ++ drop gone l.outbox))
      → Standing O most first (turns i s.order) s.board mine joined n i (link_fetched gone l) (one_handed O (DownAck k) falling a)
  place-told k gone falling e =
      subst (λ r. Standing O most first (turns i s.order) s.board mine joined n i (link_fetched gone l) (record { site = with_end a.site (after_count a.site.end k); up = r; down = falling })) (sym (append-nil a.up))
      (stand-pair O L most first (turns i s.order) s.board mine joined n i l a st s.board mine (link_fetched gone l) (record { site = with_end a.site (after_count a.site.end k); up = a.up; down = falling })
      (streams.pair-down_acked O L most i first past rest s.board mine l a st.pair k falling (drop gone l.outbox) e))

  -- a pong
  pub place-answered : (k gone : ℕ) (falling : List (Down O.Op)) → downs (a.down ++ l.outbox) ≡ downs (DownPong k ∷ (falling ++ drop gone l.outbox))
      → Standing O most first (turns i s.order) s.board mine joined n i (link_fetched gone l) (one_handed O (DownPong k) falling a)
  place-answered k gone falling e =
      stand-pair O L most first (turns i s.order) s.board mine joined n i l a st s.board mine (link_fetched gone l) (one_handed O (DownPong k) falling a)
      (streams.pair-streams O L most i first past rest s.board mine l a st.pair (a.up ++ []) falling (drop gone l.outbox) (ap ups (append-nil a.up)) (sym e))

  -- the oldest message on its way down is one that it takes
  pub place-fits : (d : Down O.Op) (gone : ℕ) (falling : List (Down O.Op)) → downs (a.down ++ l.outbox) ≡ downs (d ∷ (falling ++ drop gone l.outbox)) → deliver_fault O d a.site ≡ None
  place-fits (DownOp m) gone falling comes =
      let head = grids.first_falling O L st.pair m (downs (falling ++ drop gone l.outbox)) comes in
      let accepts = pairs.pair_fits O L most i first past rest s.board mine l a st.pair room m (downs (falling ++ drop gone l.outbox)) comes
      falling (drop gone l.outbox) refl head.0 head.1 head.2 in
      fitting.deliver_fits O L a.site m st.pair.goes_on accepts.0 accepts.1
      (subst (λ k. O.bears_site k (O.t.edit_of m.op) ≡ false) (sym st.pair.site_number) (subst (λ f. AllByRecursion (λ e. O.bears_site i e ≡ false) (edits_sent O f)) comes st.pair.falling_foreign).0)
      accepts.2
  place-fits (DownAck k) gone falling comes =
      let step = subst (λ r. InStepAt O.t 0 st.pair.from st.pair.site_ahead st.pair.star_ahead a.site.board s.board a.site.end l.end (ups a.up) r) comes st.pair.in_step in
      fitting.deliver_ack O L a.site k st.pair.goes_on (link_laws.client_counts O.t L.lawful step).0
  place-fits (DownPong k) gone falling comes = fitting.deliver_pong O L a.site k st.pair.goes_on

  -- messages were fetched, and no more
  pub place-fetched : (k : ℕ) → Standing O most first (turns i s.order) s.board mine joined n i (link_fetched k l) (with_fetched O k l a)
  place-fetched k =
      stand-pair O L most first (turns i s.order) s.board mine joined n i l a st s.board mine (link_fetched k l) (with_fetched O k l a)
      (streams.pair-streams O L most i first _ _ s.board mine l a st.pair a.up (a.down ++ take k l.outbox) (drop k l.outbox) refl (same_way k a.down l.outbox))

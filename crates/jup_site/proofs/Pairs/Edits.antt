-- A site and its link stay in step, edit by edit.
use Rattle.std.proofs.Common.{◌≡◌, ℕ, ◌+◌, ◌≤◌, Bool, true, false, cond, List, [], ◌∷◌, ◌++◌, length, nat_eq, ap, sym, ◌∙◌, subst, arith, IsTrue, append_assoc, append-nil, length-append, ◌-◌, ◌⊎◌, take, drop, inl, inr, le_refl, take-append-drop, ◌<◌, Ok, leb-false}
use Rattle.std.proofs.lemmas.Bool.{eqb-false}
use Rattle.jup_site.specs.Prelude.{most_beyond, most_unacknowledged, AllApart, Msg, after_send, message, next_message, InStepAt, Message, IsCount, IsNumber, generated, received_operation, after_receive, sent, Operations, AreLawful, DownOp, Down, UpOp, ups, downs, LinkState, link_sent, operation_at, end_after, SiteOf, edit_answer, downs-append, ups-append, AllByRecursion}
use Rattle.jup_link.specs.Laws.Steps as link_laws
use Rattle.jup_site.specs.Turns.{Turn, Own, Other, edits, own_edits, others, IsIn, through_others}
use Rattle.jup_site.specs.Sound.{SameMeaning, RowStands, edits_sent, named_by, own_counts, ChangesKnown, ChangesHeld, HoldsKnown, Inherits, RawNamed, OrderNamed, Paired, server_past_all, clients_past, Shows, IsKnown}
use Rattle.jup_site.specs.Sites as sites
use Rattle.jup_site.proofs.Pairs.Grids as grids
use Rattle.jup_site.proofs.Known as known_names
use Rattle.jup_site.proofs.Fits.{answer_ok}

-- The star takes an edit of another site: a site and its link stay in step.

module _ (O : Operations) (L : AreLawful O) where
  -- the entries of other sites stay named with one more
  pub order_named-other : (i : ℕ) (past ts : List (Turn O.Edit)) (j : ℕ) (e : O.Edit) → OrderNamed O i past ts → 1 ≤ j → nat_eq j i ≡ false
      → IsTrue (O.bears_next j (named_by O i j (past ++ ts)) e) → ChangesHeld O (λ k. named_by O i k (past ++ ts)) e → OrderNamed O i past (ts ++ Other j e ∷ [])
  order_named-other i past [] j e h p f b d =
      ((p, f, subst (λ ts. IsTrue (O.bears_next j (named_by O i j ts) e)) (append-nil past) b, subst (λ ts. ChangesHeld O (λ k. named_by O i k ts) e) (append-nil past) d), tt)
  order_named-other i past (Own g ∷ ts) j e h p f b d =
      let whole_sent : past ++ (Own g ∷ ts) ≡ (past ++ Own g ∷ []) ++ ts = sym (append_assoc past (Own g ∷ []) ts) in
      order_named-other i (past ++ Own g ∷ []) ts j e h p f (subst (λ ts. IsTrue (O.bears_next j (named_by O i j ts) e)) whole_sent b) (subst (λ ts. ChangesHeld O (λ k. named_by O i k ts) e) whole_sent d)
  order_named-other i past (Other k g ∷ ts) j e h p f b d =
      let whole_sent : past ++ (Other k g ∷ ts) ≡ (past ++ Other k g ∷ []) ++ ts = sym (append_assoc past (Other k g ∷ []) ts) in
      (h.0, order_named-other i (past ++ Other k g ∷ []) ts j e h.1 p f (subst (λ ts. IsTrue (O.bears_next j (named_by O i j ts) e)) whole_sent b) (subst (λ ts. ChangesHeld O (λ k. named_by O i k ts) e) whole_sent d))

  module _ (most i : ℕ) (first : O.t.Content) (past rest : List (Turn O.Edit)) (held : O.State) (mine : List O.Edit) (l : LinkState O.Op) (a : sites.AttachedOf O)
      (h : Paired O most i first past rest held mine l a) (few : length (past ++ rest) + most_beyond ≤ most) (counted : most ≤ 4294967295)
      (op : O.Op) (j : ℕ) (e : O.Edit) (accepted : O.t.is_valid op held)
      (same : SameMeaning O ((edits past ++ edits rest) ++ O.t.edit_of op ∷ []) ((edits past ++ edits rest) ++ e ∷ []))
      (inserts : (n : O.t.Name) → O.t.inserts (O.t.edit_of op) n → O.t.inserts e n)
      (positive : 1 ≤ j) (foreign : nat_eq j i ≡ false) (next : IsTrue (O.bears_next j (named_by O i j (past ++ rest)) e)) (changes : ChangesHeld O (λ k. named_by O i k (past ++ rest)) e) where
    -- the edit inserts no name of this site
    not_own : (n : O.t.Name) → O.t.inserts (O.t.edit_of op) n → O.site_of n ≡ i → ⊥
    not_own n x k = eqb-false j i foreign (sym (L.next_site j (named_by O i j (past ++ rest)) e n next (inserts n x)) ∙ k)

    -- the order with the entry at its end
    whole_sent : past ++ (rest ++ Other j e ∷ []) ≡ (past ++ rest) ++ Other j e ∷ []
    whole_sent = sym (append_assoc past rest (Other j e ∷ []))

    -- the message is last
    stream : downs (a.down ++ (l.outbox ++ DownOp (next_message l.end op) ∷ [])) ≡ downs (a.down ++ l.outbox) ++ message l.end op ∷ []
    stream = ap downs (sym (append_assoc a.down l.outbox (DownOp (next_message l.end op) ∷ []))) ∙ downs-append (a.down ++ l.outbox) (DownOp (next_message l.end op) ∷ [])

    -- the site named no more
    not_named : named_by O i i (past ++ (rest ++ Other j e ∷ [])) ≡ named_by O i i (past ++ rest)
    not_named = ap (named_by O i i) whole_sent ∙ known_names.named_by-append O L i i (past ++ rest) (Other j e ∷ []) ∙ cases (nat_eq j i) foreign
      where
        cases : (b : Bool) → b ≡ false → named_by O i i (past ++ rest) + (cond b (O.insertions e) 0 + 0) ≡ named_by O i i (past ++ rest)
        cases false f = omega arith
        cases true f = absurd (cc)

    -- nor are its own entries more
    own_same : own_edits (rest ++ Other j e ∷ []) ≡ own_edits rest
    own_same = grids.own_edits-append rest (Other j e ∷ []) ∙ append-nil (own_edits rest)

    -- the pair once the edit was sent to the site
    pub pair-sent : Paired O most i first past (rest ++ Other j e ∷ []) (O.t.after op held) mine (link_sent op l) a
    pair-sent =
        let step = h.in_step in
        record {
          from = h.from;
          site_ahead = h.site_ahead;
          star_ahead = h.star_ahead ++ op ∷ [];
          site_side = h.site_side;
          link_side = h.link_side;
          in_step = subst (λ f. InStepAt O.t 0 h.from h.site_ahead (h.star_ahead ++ op ∷ []) a.site.board (O.t.after op held) a.site.end (after_send l.end op) (ups a.up) f) (sym stream)
              (link_laws.server_sends O.t L.lawful op step accepted (grids.own_apart O L (λ j. named_by O i j past) i (named_by O i i (past ++ rest)) h.site_ahead h.raw a.site.named op h.up_inherits h.raw_named not_own)
              (link_laws.small_le O.t L.lawful _ h.room h.from (omega (arith, h.enough, h.backlog, link_laws.client_lengths O.t L.lawful step)) h.small) (omega (arith, h.few_sent)));
          room = h.room;
          small = h.small;
          enough = omega (arith, h.enough, ap length whole_sent, length-append (past ++ rest) (Other j e ∷ []), length-append h.star_ahead (op ∷ []));
          raw = h.raw;
          raw_sent = h.raw_sent;
          row = subst (λ es. RowStands O (edits past ++ es) h.site_ahead h.raw) (sym own_same) h.row;
          column = grids.column-more O L rest h.star_ahead (edits past) op j e h.column same;
          all_made = subst (λ es. mine ≡ es ++ h.raw) (sym (ap own_edits whole_sent ∙ grids.own_edits-append (past ++ rest) (Other j e ∷ []) ∙ append-nil (own_edits (past ++ rest)))) h.all_made;
          shows = subst (λ es. O.t.content a.site.board ≡ O.t.meaning first ((edits past ++ es) ++ h.raw)) (sym own_same) h.shows;
          up_inherits = h.up_inherits;
          down_inherits = subst (λ es. Inherits O (h.star_ahead ++ op ∷ []) es) (sym (grids.others-append rest (Other j e ∷ []))) (known_names.inherits-end O L h.star_ahead (others rest) op e h.down_inherits inserts);
          raw_named = subst (λ k. RawNamed O (λ j. named_by O i j past) i k h.raw a.site.named) (sym not_named) h.raw_named;
          rest_named = order_named-other i past rest j e h.rest_named positive foreign next changes;
          board_known = h.board_known;
          from_known = subst (λ k. HoldsKnown O (own_counts O i k (λ j. named_by O i j past)) h.from) (sym not_named) h.from_known;
          view_known = subst (λ es. AllByRecursion (ChangesKnown O (own_counts O i a.site.named (λ j. named_by O i j past))) ((edits past ++ es) ++ h.raw)) (sym own_same) h.view_known;
          falling_foreign = subst (λ s. AllByRecursion (λ f. O.bears_site i f ≡ false) (edits_sent O s)) (sym stream)
              (subst (λ es. AllByRecursion (λ f. O.bears_site i f ≡ false) es) (sym (known_names.edits_sent-append O L (downs (a.down ++ l.outbox)) (message l.end op ∷ [])))
              (known_names.All-append (λ f. O.bears_site i f ≡ false) (edits_sent O (downs (a.down ++ l.outbox))) (O.t.edit_of op ∷ []) h.falling_foreign (L.not_of_site i (O.t.edit_of op) not_own, tt)));
          positive = h.positive;
          site_number = h.site_number;
          link_number = h.link_number;
          link_named = h.link_named ∙ sym not_named;
          goes_on = h.goes_on;
          backlog = h.backlog;
          few_heard = omega (arith, h.few_heard, ap length whole_sent, length-append (past ++ rest) (Other j e ∷ []));
          few_sent = omega (arith, h.few_sent, ap length whole_sent, length-append (past ++ rest) (Other j e ∷ []), length-append l.end.outgoing (op ∷ []));
        }

-- A site receives an edit: it and its link stay in step.

-- a site that receives an edit, before it pays what it owes
abbrev pub shown : (O : Operations) → SiteOf O → Msg O.Op → SiteOf O
shown O site m = record site { board = O.t.after (operation_at O site.end m) site.board; end = end_after O site.end m }

-- the same with its streams
abbrev pub shown_at : (O : Operations) → sites.AttachedOf O → Msg O.Op → List (Down O.Op) → sites.AttachedOf O
shown_at O a m falling = record { site = shown O a.site m; up = a.up; down = falling }

-- its link once the message is gone
abbrev pub link_left : {Op : Type 0} → LinkState Op → List (Down Op) → LinkState Op
link_left l outbox = record { site = l.site; end = l.end; outbox = outbox; named = l.named }

module _ (O : Operations) (L : AreLawful O) (most i : ℕ) (first : O.t.Content) (past rest : List (Turn O.Edit)) (held : O.State) (mine : List O.Edit) (l : LinkState O.Op) (a : sites.AttachedOf O)
    (h : Paired O most i first past rest held mine l a) (few : length (past ++ rest) + most_beyond ≤ most)
    (m : Msg O.Op) (ds : List (Message O.Op)) (comes : downs (a.down ++ l.outbox) ≡ sent m ∷ ds)
    (falling outbox : List (Down O.Op)) (left : downs (falling ++ outbox) ≡ ds) (s : O.Op) (ss : List O.Op) (down : h.star_ahead ≡ s ∷ ss) where
  -- the two ends are in step over the message
  stepping : InStepAt O.t 0 h.from h.site_ahead (s ∷ ss) a.site.board held a.site.end l.end (ups a.up) (sent m ∷ ds)
  stepping = subst (λ d. InStepAt O.t 0 h.from h.site_ahead d a.site.board held a.site.end l.end (ups a.up) (sent m ∷ ds)) down
      (subst (λ f. InStepAt O.t 0 h.from h.site_ahead h.star_ahead a.site.board held a.site.end l.end (ups a.up) f) comes h.in_step)

  -- whose entry it is
  next : grids.NextOther O L i past rest s ss
  next = grids.next_other O L i past rest s ss h.rest_named (subst (λ d. Inherits O d (others rest)) down h.down_inherits)

  -- the edits that have reached the site then
  told_is : edits (grids.told_next O L past rest) ≡ edits past ++ edits (take (through_others 1 rest) rest)
  told_is = grids.edits-append past (take (through_others 1 rest) rest)

  -- the order stays
  whole : grids.told_next O L past rest ++ drop (through_others 1 rest) rest ≡ past ++ rest
  whole = append_assoc past (take (through_others 1 rest) rest) (drop (through_others 1 rest) rest) ∙ ap (λ r. past ++ r) (take-append-drop (through_others 1 rest) rest)

  -- the operations still to be delivered, after the entry
  column_next : SameMeaning O ((edits past ++ own_edits rest) ++ O.t.edit_of s ∷ []) (edits (grids.told_next O L past rest) ++ own_edits (drop (through_others 1 rest) rest))
      × Shows O (edits (grids.told_next O L past rest)) (drop (through_others 1 rest) rest) ss
  column_next = subst (λ p. SameMeaning O ((edits past ++ own_edits rest) ++ O.t.edit_of s ∷ []) (p ++ own_edits (drop (through_others 1 rest) rest)) × Shows O p (drop (through_others 1 rest) rest) ss)
      (sym told_is) (grids.column-shown O L rest ss (edits past) s (subst (Shows O (edits past) rest) down h.column))

  -- what the site sent is apart from it
  apart : AllApart O.t h.site_ahead s
  apart = grids.own_apart O L (λ j. named_by O i j past) i (named_by O i i (past ++ rest)) h.site_ahead h.raw a.site.named s h.up_inherits h.raw_named
      (λ n x k. eqb-false next.site i next.foreign (sym (next.of_site n x) ∙ k))

  -- what the site sent, past it
  row_next : RowStands O (edits (grids.told_next O L past rest) ++ own_edits (drop (through_others 1 rest) rest)) (clients_past O h.site_ahead s) h.raw
      × SameMeaning O (((edits past ++ own_edits rest) ++ h.raw) ++ O.t.edit_of (server_past_all O s h.site_ahead) ∷ []) ((edits (grids.told_next O L past rest) ++ own_edits (drop (through_others 1 rest) rest)) ++ h.raw)
  row_next = grids.row-past O L h.site_ahead h.raw s (edits past ++ own_edits rest) _ h.row apart column_next.0

  -- the counts that the site knew
  old_counts : ℕ → ℕ
  old_counts = own_counts O i a.site.named (λ j. named_by O i j past)

  -- and those that it knows then
  new_counts : ℕ → ℕ
  new_counts = own_counts O i a.site.named (λ j. named_by O i j (grids.told_next O L past rest))

  -- are no lower
  more : (j : ℕ) → old_counts j ≤ new_counts j
  unfolding old_counts new_counts
  more = known_names.own_counts-more O L i a.site.named a.site.named (λ j. named_by O i j past) (λ j. named_by O i j (grids.told_next O L past rest)) (le_refl a.site.named) next.more

  -- the site never met a name that it is shown now
  fresh : (n : O.t.Name) → O.t.inserts (O.t.edit_of (server_past_all O s h.site_ahead)) n → IsKnown O old_counts n → ⊥
  unfolding old_counts
  fresh n x k =
      let y = grids.inserts_servers O L h.site_ahead s n x in
      let below = known_names.other_known O L i a.site.named next.site (λ j. named_by O i j past) n next.positive next.foreign (next.of_site n y) k in
      let above = next.above n y in
      omega arith

  -- it knows the names that the edit inserts
  known_new : (n : O.t.Name) → O.t.inserts (O.t.edit_of (server_past_all O s h.site_ahead)) n → IsKnown O new_counts n
  unfolding new_counts
  known_new n x =
      let y = grids.inserts_servers O L h.site_ahead s n x in
      known_names.known_other O L i a.site.named next.site (λ j. named_by O i j (grids.told_next O L past rest)) n next.foreign (next.of_site n y) (next.within n y)

  -- what it sent is in its queue
  lengths : length h.site_ahead ≤ length a.site.end.outgoing
  lengths = link_laws.client_lengths O.t L.lawful stepping

  -- its board has room
  board_small : O.t.is_small 1 a.site.board
  board_small = link_laws.client_small O.t L.lawful 1 stepping (link_laws.small_le O.t L.lawful (1 + length h.site_ahead) h.room h.from (omega (arith, h.enough, ap length down, lengths, h.backlog)) h.small)

  -- the operation that it applies is the message's past all that it sent
  received_is : received_operation O.t a.site.end m.heard m.op ≡ server_past_all O s h.site_ahead
  received_is = (link_laws.client_receives O.t L.lawful h.site_side stepping).0

  -- the message is next, its count may be sent, and its operation is valid there
  pub pair_fits : IsNumber a.site.end m.mine × IsCount a.site.end m.heard × O.t.is_valid (received_operation O.t a.site.end m.heard m.op) a.site.board
  pair_fits = let came = link_laws.client_receives O.t L.lawful h.site_side stepping in (came.1, came.2, came.3)

  -- the same of the operation past what it sent
  accepted : O.t.is_valid (server_past_all O s h.site_ahead) a.site.board
  accepted = subst (λ o. O.t.is_valid o a.site.board) received_is pair_fits.2

  -- the site then shows the entry
  shows_next : O.t.content (O.t.after (server_past_all O s h.site_ahead) a.site.board) ≡ O.t.meaning first ((edits (grids.told_next O L past rest) ++ own_edits (drop (through_others 1 rest) rest)) ++ h.raw)
  unfolding old_counts
  shows_next =
      L.keeps.effect_one a.site.board (server_past_all O s h.site_ahead) (link_laws.client_distinct O.t L.lawful stepping) accepted
      ∙ ap (λ x. O.t.meaning x (O.t.edit_of (server_past_all O s h.site_ahead) ∷ [])) h.shows
      ∙ grids.meaning_one O L first ((edits past ++ own_edits rest) ++ h.raw) (O.t.edit_of (server_past_all O s h.site_ahead)) (λ n x f k d. fresh n x (known f k n d))
      ∙ grids.same-meaning O L _ _ first row_next.1
    where
      known : (f : O.Edit) → IsIn f ((edits past ++ own_edits rest) ++ h.raw) → (n : O.t.Name) → O.t.changes f n → IsKnown O old_counts n
      known f k = known_names.All-at (ChangesKnown O (own_counts O i a.site.named (λ j. named_by O i j past))) ((edits past ++ own_edits rest) ++ h.raw) f k h.view_known

  -- the ends are then in step
  stepped : InStepAt O.t 0 (O.t.after s h.from) (clients_past O h.site_ahead s) ss (O.t.after (received_operation O.t a.site.end m.heard m.op) a.site.board) held
      (after_receive O.t a.site.end m.heard m.op) l.end (ups a.up) (downs (falling ++ outbox))
  stepped = subst
      (λ f. InStepAt O.t 0 (O.t.after s h.from) (clients_past O h.site_ahead s) ss (O.t.after (received_operation O.t a.site.end m.heard m.op) a.site.board) held
      (after_receive O.t a.site.end m.heard m.op) l.end (ups a.up) f)
      (sym left) (link_laws.client_receives O.t L.lawful h.site_side stepping).4

  -- no more insertions of its own have reached it than it made
  own_told : named_by O i i (grids.told_next O L past rest) ≤ a.site.named
  own_told =
      let last = known_names.raw_last O L (λ j. named_by O i j past) i (named_by O i i (past ++ rest)) h.raw a.site.named h.raw_named in
      omega (arith, ap (named_by O i i) whole, known_names.named_by-append O L i i (grids.told_next O L past rest) (drop (through_others 1 rest) rest))

  -- it knows all that its view changes
  view_next : AllByRecursion (ChangesKnown O new_counts) ((edits (grids.told_next O L past rest) ++ own_edits (drop (through_others 1 rest) rest)) ++ h.raw)
  unfolding old_counts new_counts
  view_next =
      let all = known_names.all_changes_more O L old_counts new_counts more ((edits past ++ own_edits rest) ++ h.raw) h.view_known in
      let list = known_names.All-first (ChangesKnown O new_counts) (edits past ++ own_edits rest) h.raw all in
      let parts = grids.each_shown (ChangesKnown O new_counts) rest next.edit (others (drop (through_others 1 rest) rest)) next.others_are
      (known_names.All-second (ChangesKnown O new_counts) (edits past) (own_edits rest) list)
      (λ n d. known_here n (next.changes n d)) in
      known_names.All-append (ChangesKnown O new_counts) (edits (grids.told_next O L past rest) ++ own_edits (drop (through_others 1 rest) rest)) h.raw
      (subst (λ p. AllByRecursion (ChangesKnown O new_counts) (p ++ own_edits (drop (through_others 1 rest) rest))) (sym told_is)
      (known_names.All-append (ChangesKnown O new_counts) (edits past ++ edits (take (through_others 1 rest) rest)) (own_edits (drop (through_others 1 rest) rest))
      (known_names.All-append (ChangesKnown O new_counts) (edits past) (edits (take (through_others 1 rest) rest)) (known_names.All-first (ChangesKnown O new_counts) (edits past) (own_edits rest) list) parts.0) parts.1))
      (known_names.All-second (ChangesKnown O new_counts) (edits past ++ own_edits rest) h.raw all)
    where
      known_here : (n : O.t.Name) → IsKnown O (λ k. named_by O i k (grids.told_next O L past rest)) n → IsKnown O new_counts n
      known_here n k = known_names.known_more O L (λ j. named_by O i j (grids.told_next O L past rest)) new_counts n (known_names.own_counts-above O L i a.site.named (λ j. named_by O i j (grids.told_next O L past rest)) own_told) k

  -- the pair once the site received the edit
  pub pair-shown : Paired O most i first (grids.told_next O L past rest) (drop (through_others 1 rest) rest) held mine (link_left l outbox) (shown_at O a m falling)
  unfolding old_counts new_counts
  pair-shown = record {
    from = O.t.after s h.from;
    site_ahead = clients_past O h.site_ahead s;
    star_ahead = ss;
    site_side = h.site_side;
    link_side = h.link_side;
    in_step = stepped;
    room = h.room - 1;
    small = link_laws.small_next O.t L.lawful h.room (h.room - 1) h.from s (omega (arith, h.enough, ap length down)) h.small stepping.states.far_valid.0;
    enough = omega (arith, h.enough, ap length down, ap length whole);
    raw = h.raw;
    raw_sent = h.raw_sent;
    row = row_next.0;
    column = column_next.1;
    all_made = subst (λ ts. mine ≡ own_edits ts ++ h.raw) (sym whole) h.all_made;
    shows = subst (λ o. O.t.content (O.t.after o a.site.board) ≡ O.t.meaning first ((edits (grids.told_next O L past rest) ++ own_edits (drop (through_others 1 rest) rest)) ++ h.raw)) (sym received_is) shows_next;
    up_inherits = grids.inherits_clients O L h.site_ahead s h.raw h.up_inherits;
    down_inherits = next.rest_inherits;
    raw_named = subst (λ ts. RawNamed O (λ j. named_by O i j (grids.told_next O L past rest)) i (named_by O i i ts) h.raw a.site.named) (sym whole)
        (known_names.raw_named-more O L (λ j. named_by O i j past) (λ j. named_by O i j (grids.told_next O L past rest)) i next.more (named_by O i i (past ++ rest)) h.raw a.site.named h.raw_named);
    rest_named = next.rest_named;
    from_known = λ n x. subst (λ ts. IsKnown O (own_counts O i (named_by O i i ts) (λ j. named_by O i j (grids.told_next O L past rest))) n) (sym whole)
        (from_held n (L.keeps.held_before h.from s n stepping.states.far_valid.0 x));
    board_known = λ n x. held_known n (L.keeps.held_before a.site.board (server_past_all O s h.site_ahead) n accepted (subst (λ o. O.t.holds (O.t.after o a.site.board) n) received_is x));
    view_known = view_next;
    falling_foreign = subst (λ f. AllByRecursion (λ e. O.bears_site i e ≡ false) (edits_sent O f)) (sym left) (subst (λ f. AllByRecursion (λ e. O.bears_site i e ≡ false) (edits_sent O f)) comes h.falling_foreign).1;
    positive = h.positive;
    site_number = h.site_number;
    link_number = h.link_number;
    link_named = subst (λ ts. l.named ≡ named_by O i i ts) (sym whole) h.link_named;
    goes_on = h.goes_on;
    backlog = omega (arith, h.backlog, link_laws.length-after_receive O.t a.site.end m.heard m.op);
    few_heard = subst (λ ts. l.end.received ≤ length ts) (sym whole) h.few_heard;
    few_sent = subst (λ ts. generated l.end ≤ length ts) (sym whole) h.few_sent;
  }
    where
      held_known : (n : O.t.Name) → O.t.holds a.site.board n ⊎ O.t.inserts (O.t.edit_of (server_past_all O s h.site_ahead)) n → IsKnown O new_counts n
      held_known n (inl x) = known_names.known_more O L old_counts new_counts n more (h.board_known n x)
      held_known n (inr x) = known_new n x

      from_held : (n : O.t.Name) → O.t.holds h.from n ⊎ O.t.inserts (O.t.edit_of s) n → IsKnown O (own_counts O i (named_by O i i (past ++ rest)) (λ j. named_by O i j (grids.told_next O L past rest))) n
      from_held n (inl x) = known_names.known_more O L (own_counts O i (named_by O i i (past ++ rest)) (λ j. named_by O i j past)) (own_counts O i (named_by O i i (past ++ rest)) (λ j. named_by O i j (grids.told_next O L past rest))) n
          (known_names.own_counts-more O L i (named_by O i i (past ++ rest)) (named_by O i i (past ++ rest)) (λ j. named_by O i j past) (λ j. named_by O i j (grids.told_next O L past rest)) (le_refl _) next.more) (h.from_known n x)
      from_held n (inr x) = known_names.known_other O L i (named_by O i i (past ++ rest)) next.site (λ j. named_by O i j (grids.told_next O L past rest)) n next.foreign (next.of_site n x) (next.within n x)

  -- the site keeps the order of its items
  pub shown_keeps_order : O.t.keeps_order a.site.board (O.t.after (received_operation O.t a.site.end m.heard m.op) a.site.board)
  shown_keeps_order = L.keeps.order a.site.board (received_operation O.t a.site.end m.heard m.op) (link_laws.client_distinct O.t L.lawful stepping) pair_fits.2

  -- no name that the site knew comes back by an edit that it receives
  pub shown_none_back : (n : O.t.Name) → IsKnown O (own_counts O i a.site.named (λ j. named_by O i j past)) n
      → O.t.holds (O.t.after (received_operation O.t a.site.end m.heard m.op) a.site.board) n → O.t.holds a.site.board n
  unfolding old_counts
  shown_none_back n known x = elim (L.keeps.held_before a.site.board (server_past_all O s h.site_ahead) n accepted (subst (λ o. O.t.holds (O.t.after o a.site.board) n) received_is x)) [
    | inl held ↦ held
    | inr new ↦ absurd (fresh n new known)
  ]

-- A site makes an edit: it and its link stay in step.

module _ (O : Operations) (L : AreLawful O) where
  -- the other sites' operations insert no name of this site
  pub others_apart : (i : ℕ) (past ts : List (Turn O.Edit)) (bs : List O.Op) (c : O.Op) → OrderNamed O i past ts → Inherits O bs (others ts)
      → ((n : O.t.Name) → O.t.inserts (O.t.edit_of c) n → O.site_of n ≡ i) → AllApart O.t bs c
  others_apart i past [] [] c h k own = tt
  others_apart i past [] (b ∷ bs) c h k own = absurd k
  others_apart i past (Own e ∷ ts) bs c h k own = others_apart i (past ++ Own e ∷ []) ts bs c h k own
  others_apart i past (Other j e ∷ ts) [] c h k own = absurd k
  others_apart i past (Other j e ∷ ts) (b ∷ bs) c h k own = (
    L.apart_from_sites b c (λ m n y x same. differ j i h.0.1 (sym (L.next_site j _ e m h.0.2 (k.0 m y)) ∙ (same ∙ own n x))),
    others_apart i (past ++ Other j e ∷ []) ts bs c h.1 k.1 own,
  )
    where
      differ : (j i : ℕ) → nat_eq j i ≡ false → j ≡ i → ⊥
      differ j i h e = eqb-false j i h e

  module _ (most i : ℕ) (first : O.t.Content) (past rest : List (Turn O.Edit)) (held : O.State) (mine : List O.Edit) (l : LinkState O.Op) (a : sites.AttachedOf O)
      (h : Paired O most i first past rest held mine l a) (command : O.Command) (op : O.Op) (ok : edit_answer O command a.site ≡ Ok op)
      (few : length (past ++ rest) + most_beyond ≤ most) (counted : most ≤ 4294967295) where
    -- the pair once the site made an edit
    pub pair-makes : Paired O most i first past rest held (mine ++ O.t.edit_of op ∷ []) l (sites.with_edit O op a)
    pair-makes =
        let answer = answer_ok O a.site command op ok in
        let made_at : O.operation_of a.site.board command i a.site.named ≡ Ok op = subst (λ j. O.operation_of a.site.board command j a.site.named ≡ Ok op) h.site_number answer.0 in
        let next : IsTrue (O.bears_next i a.site.named (O.t.edit_of op)) = L.command_next a.site.board command i a.site.named op made_at in
        let step = h.in_step in
        let lengths : length h.site_ahead ≤ length a.site.end.outgoing = link_laws.client_lengths O.t L.lawful step in
        let short : length a.site.end.outgoing < most_unacknowledged = leb-false most_unacknowledged (length a.site.end.outgoing) answer.1 in
        let known_counts : ℕ → ℕ = own_counts O i a.site.named (λ j. named_by O i j past) in
        let more_counts : ℕ → ℕ = own_counts O i (a.site.named + O.insertions (O.t.edit_of op)) (λ j. named_by O i j past) in
        let more : (j : ℕ) → known_counts j ≤ more_counts j = known_names.own_counts-more O L i a.site.named (a.site.named + O.insertions (O.t.edit_of op)) (λ j. named_by O i j past) (λ j. named_by O i j past) (omega arith) (λ j. le_refl _) in
        let accepted : O.t.is_valid op a.site.board =
        L.command_accepted a.site.board command i a.site.named op (λ n x e. known_names.own_known O L i a.site.named (λ j. named_by O i j past) n h.positive e (h.board_known n x)) made_at in
        let changes : ChangesHeld O known_counts (O.t.edit_of op) = λ n x. elim (L.keeps.changes_held a.site.board op n accepted x) [ inl held ↦ inl (h.board_known n held) | inr new ↦ inr new ] in
        let all : List O.Edit = (edits past ++ own_edits rest) ++ h.raw in
        let effect : O.t.content (O.t.after op a.site.board) ≡ O.t.meaning first (all ++ O.t.edit_of op ∷ []) =
        L.keeps.effect_one a.site.board op (link_laws.client_distinct O.t L.lawful step) accepted
        ∙ ap (λ x. O.t.meaning x (O.t.edit_of op ∷ [])) h.shows
        ∙ grids.meaning_one O L first all (O.t.edit_of op) (λ n x f m d. fresh n x (known_names.All-at (ChangesKnown O known_counts) all f m h.view_known n d) next) in
        record {
          from = h.from;
          site_ahead = h.site_ahead ++ op ∷ [];
          star_ahead = h.star_ahead;
          site_side = h.site_side;
          link_side = h.link_side;
          in_step = subst (λ u. InStepAt O.t 0 h.from (h.site_ahead ++ op ∷ []) h.star_ahead (O.t.after op a.site.board) held (after_send a.site.end op) l.end u (downs (a.down ++ l.outbox)))
              (sym (ups-append a.up (UpOp (next_message a.site.end op) ∷ [])))
              (link_laws.client_sends O.t L.lawful op step accepted (others_apart i past rest h.star_ahead op h.rest_named h.down_inherits (λ n x. L.next_site i a.site.named (O.t.edit_of op) n next x))
              (link_laws.small_le O.t L.lawful _ h.room h.from (omega (arith, h.enough)) h.small) (omega (arith, link_laws.client_generated O.t step, h.few_heard)));
          room = h.room;
          small = h.small;
          enough = h.enough;
          raw = h.raw ++ O.t.edit_of op ∷ [];
          raw_sent = ap (edits_sent O) (ups-append a.up (UpOp (next_message a.site.end op) ∷ [])) ∙ known_names.edits_sent-append O L (ups a.up) (message a.site.end op ∷ [])
              ∙ ap (λ es. es ++ O.t.edit_of op ∷ []) h.raw_sent;
          row = grids.row-more O L h.site_ahead h.raw op _ h.row;
          column = h.column;
          all_made = ap (λ es. es ++ O.t.edit_of op ∷ []) h.all_made ∙ append_assoc (own_edits (past ++ rest)) h.raw (O.t.edit_of op ∷ []);
          shows = effect ∙ ap (O.t.meaning first) (append_assoc (edits past ++ own_edits rest) h.raw (O.t.edit_of op ∷ []));
          up_inherits = known_names.inherits-end O L h.site_ahead h.raw op (O.t.edit_of op) h.up_inherits (λ n x. x);
          down_inherits = h.down_inherits;
          raw_named = known_names.raw_named-end O L (λ j. named_by O i j past) i (named_by O i i (past ++ rest)) h.raw a.site.named (O.t.edit_of op) h.raw_named next (L.command_edit a.site.board command i a.site.named op made_at) changes;
          rest_named = h.rest_named;
          board_known = λ n x. held_known n next more (L.keeps.held_before a.site.board op n accepted x);
          from_known = h.from_known;
          view_known = subst (AllByRecursion (ChangesKnown O more_counts)) (append_assoc (edits past ++ own_edits rest) h.raw (O.t.edit_of op ∷ []))
              (known_names.All-append (ChangesKnown O more_counts) all (O.t.edit_of op ∷ []) (known_names.all_changes_more O L known_counts more_counts more all h.view_known) (λ n x. held_known n next more (L.keeps.changes_held a.site.board op n accepted x), tt));
          falling_foreign = h.falling_foreign;
          positive = h.positive;
          site_number = h.site_number;
          link_number = h.link_number;
          link_named = h.link_named;
          goes_on = h.goes_on;
          backlog = omega (arith, length-append a.site.end.outgoing (op ∷ []));
          few_heard = h.few_heard;
          few_sent = h.few_sent;
        }
      where
        fresh : (n : O.t.Name) → O.t.inserts (O.t.edit_of op) n → IsKnown O (own_counts O i a.site.named (λ j. named_by O i j past)) n → IsTrue (O.bears_next i a.site.named (O.t.edit_of op)) → ⊥
        fresh n x k next =
            let below = known_names.own_known O L i a.site.named (λ j. named_by O i j past) n h.positive (L.next_site i a.site.named (O.t.edit_of op) n next x) k in
            let above = L.next_above i a.site.named (O.t.edit_of op) n next x in
            omega arith

        held_known : (n : O.t.Name) → IsTrue (O.bears_next i a.site.named (O.t.edit_of op))
            → ((j : ℕ) → own_counts O i a.site.named (λ k. named_by O i k past) j ≤ own_counts O i (a.site.named + O.insertions (O.t.edit_of op)) (λ k. named_by O i k past) j)
            → O.t.holds a.site.board n ⊎ O.t.inserts (O.t.edit_of op) n → IsKnown O (own_counts O i (a.site.named + O.insertions (O.t.edit_of op)) (λ j. named_by O i j past)) n
        held_known n next more (inl x) = known_names.known_more O L (own_counts O i a.site.named (λ k. named_by O i k past)) (own_counts O i (a.site.named + O.insertions (O.t.edit_of op)) (λ k. named_by O i k past)) n more (h.board_known n x)
        held_known n next more (inr x) = known_names.known_own O L i (a.site.named + O.insertions (O.t.edit_of op)) (λ k. named_by O i k past) n (L.next_site i a.site.named (O.t.edit_of op) n next x) (L.next_within i a.site.named (O.t.edit_of op) n next x)

    -- its command's operation
    made_at : O.operation_of a.site.board command i a.site.named ≡ Ok op
    made_at = subst (λ j. O.operation_of a.site.board command j a.site.named ≡ Ok op) h.site_number (answer_ok O a.site command op ok).0

    -- bears the site's next name
    made_next : IsTrue (O.bears_next i a.site.named (O.t.edit_of op))
    made_next = L.command_next a.site.board command i a.site.named op made_at

    -- is valid on its board
    made_valid : O.t.is_valid op a.site.board
    made_valid =
        L.command_accepted a.site.board command i a.site.named op (λ n x e. known_names.own_known O L i a.site.named (λ j. named_by O i j past) n h.positive e (h.board_known n x)) made_at

    -- and keeps the order of its items
    pub made_keeps_order : O.t.keeps_order a.site.board (O.t.after op a.site.board)
    made_keeps_order = L.keeps.order a.site.board op (link_laws.client_distinct O.t L.lawful h.in_step) made_valid

    -- no name that the site knew comes back by its edit
    pub made_none_back : (n : O.t.Name) → IsKnown O (own_counts O i a.site.named (λ j. named_by O i j past)) n → O.t.holds (O.t.after op a.site.board) n → O.t.holds a.site.board n
    made_none_back n known x = elim (L.keeps.held_before a.site.board op n made_valid x) [
      | inl held ↦ held
      | inr new ↦ (
          let below = known_names.own_known O L i a.site.named (λ j. named_by O i j past) n h.positive (L.next_site i a.site.named (O.t.edit_of op) n made_next new) known in
          let above = L.next_above i a.site.named (O.t.edit_of op) n made_next new in
          absurd (omega arith))
    ]

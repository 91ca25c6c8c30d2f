-- A star stays sound, also one that anyone calls.
use Rattle.std.proofs.Common.{◌≡◌, ℕ, ◌+◌, ◌<◌, ◌≤◌, inl, Bool, true, false, List, nat_eq, refl, ap, sym, ◌∙◌, subst, Option, Some, None, option_map, arith, eq-eqb, eqb-true, ne_eqb, ◌⊎◌, ◌-◌, inr, cond, [], ◌∷◌, ◌++◌, length, IsTrue, add-zero, length-append, if◌then◌else◌, ltb-true}
use Rattle.jup_site.specs.Prelude.{most_beyond, row_operation, row_entries, past, opposite, Msg, Link, unheard, answered, after_ack, owes, Operations, AreLawful, Entry, UpOp, BadOp, LinkState, opened_link, link_acked, link_ponged, link_fetched, StarOf, new_star, link_of, at_link, with_links, left, joined, fetched, operation_at, link_heard, link_sent, fits_board, up_fault, taken, links_after, entry, test, found-map, found-map_other, found-without, found-without_other, found-end, found-end_other, AllByRecursion, Up, UpAck, UpPing}
use Rattle.jup_link.specs.Laws.Steps.{small_next}
use Rattle.jup_star.specs.Stars.{early_tests}
use Rattle.jup_star.proofs.FaultTests as fault_tests
use Rattle.jup_site.specs.Sound.{ChangesKnown, named_in, edits_in, IsMoved, IsSoundLink, SoundLinkAt, IsSoundStar, SameMeaning, named_by, IsKnown, ChangesHeld, HoldsKnown}
use Rattle.jup_site.specs.Turns.{Own, Other, turn, turns, edits, own_edits}
use Rattle.jup_site.specs.Moments.{IsCalled}
use Rattle.jup_site.proofs.Numbers.{option_map-self}
use Rattle.jup_site.proofs.Pairs.Grids as grids
use Rattle.jup_site.proofs.Turns.{turns-append}
use Rattle.jup_site.proofs.Known as known_names
use Rattle.jup_site.proofs.Follows.{Follows, follows-same}

-- A star is sound as it is opened, and after a link changed, left or joined.

module _ (O : Operations) (L : AreLawful O) where
  -- a new star
  pub star-opened : {keeps : Bool} (most limit : ℕ) (board : O.State) → O.t.is_distinct board → O.t.is_small most board → limit + most_beyond ≤ most → most ≤ 4294967295
      → ((n : O.t.Name) → O.t.holds board n → O.site_of n ≡ 0) → IsSoundStar O most (O.t.content board) (new_star keeps board limit)
  star-opened most limit board distinct small room counted layout = record {
    content_is = sym (L.keeps.meaning_none (O.t.content board));
    distinct = distinct;
    room = most;
    small = small;
    enough = omega arith;
    few = omega arith;
    limited = room;
    counted = counted;
    board_known = λ n h. inl (layout n h);
    order_known = tt;
    links = λ i. tt;
    no_link = λ i g. refl;
    no_name = λ i g. refl;
  }

module _ (O : Operations) (L : AreLawful O) (most : ℕ) (first : O.t.Content) (s : StarOf O) (h : IsSoundStar O most first s) where
  -- with other links
  pub star-links : (links : List (LinkState O.Op)) → ((j : ℕ) → SoundLinkAt O s.order j (link_of j links)) → ((j : ℕ) → s.given < j → link_of j links ≡ None) → IsSoundStar O most first (with_links s links)
  star-links links sound no_link = record {
    content_is = h.content_is;
    distinct = h.distinct;
    room = h.room;
    small = h.small;
    enough = h.enough;
    few = h.few;
    limited = h.limited;
    counted = h.counted;
    board_known = h.board_known;
    order_known = h.order_known;
    links = sound;
    no_link = no_link;
    no_name = h.no_name;
  }

  -- the link of a number, and all others
  pub at_here : (i : ℕ) (f : LinkState O.Op → LinkState O.Op) → ((k : LinkState O.Op) → (f k).site ≡ k.site) → link_of i (at_link i f s.links) ≡ option_map f (link_of i s.links)
  at_here i f same = found-map (λ k. k.site) i f (λ k. k) same (λ k. refl) s.links

  pub at_there : (i j : ℕ) (f : LinkState O.Op → LinkState O.Op) → ((k : LinkState O.Op) → (f k).site ≡ k.site) → nat_eq i j ≡ false → link_of j (at_link i f s.links) ≡ link_of j s.links
  at_there i j f same apart = found-map_other (λ k. k.site) i j f (λ k. k) same (λ k. refl) s.links apart ∙ option_map-self (link_of j s.links)

  -- one link changes
  pub star-at : (i : ℕ) (f : LinkState O.Op → LinkState O.Op) → ((k : LinkState O.Op) → (f k).site ≡ k.site) → ((k : LinkState O.Op) → IsSoundLink O s.order i k → IsSoundLink O s.order i (f k))
      → IsSoundStar O most first (with_links s (at_link i f s.links))
  star-at i f same sound = star-links (at_link i f s.links) (λ j. at (nat_eq i j) j refl) (λ j above. gone (nat_eq i j) j refl above)
    where
      each : (o : Option (LinkState O.Op)) → SoundLinkAt O s.order i o → SoundLinkAt O s.order i (option_map f o)
      each None c = tt
      each (Some k) c = sound k c

      at : (b : Bool) (j : ℕ) → nat_eq i j ≡ b → SoundLinkAt O s.order j (link_of j (at_link i f s.links))
      at true j e = subst (λ k. SoundLinkAt O s.order k (link_of k (at_link i f s.links))) (eqb-true i j e) (subst (SoundLinkAt O s.order i) (sym (at_here i f same)) (each (link_of i s.links) (h.links i)))
      at false j e = subst (SoundLinkAt O s.order j) (sym (at_there i j f same e)) (h.links j)

      gone : (b : Bool) (j : ℕ) → nat_eq i j ≡ b → s.given < j → link_of j (at_link i f s.links) ≡ None
      gone true j e above = subst (λ k. s.given < k → link_of k (at_link i f s.links) ≡ None) (eqb-true i j e) (λ high. at_here i f same ∙ ap (option_map f) (h.no_link i high)) above
      gone false j e above = at_there i j f same e ∙ h.no_link j above

  -- an acknowledgement
  pub star-acked : (i n : ℕ) → IsSoundStar O most first (with_links s (at_link i (link_acked n) s.links))
  star-acked i n = star-at i (link_acked n) (λ k. refl) (λ k c. record {
    side = c.side;
    positive = c.positive;
    named = c.named;
    moved = grids.All-drop (IsMoved O (edits_in O s.order)) _ k.end.outgoing c.moved;
    known = grids.All-drop (λ b. ChangesKnown O (named_in O s.order) (O.t.edit_of b)) _ k.end.outgoing c.known;
  })

  -- a ping
  pub star-ponged : (i n : ℕ) → IsSoundStar O most first (with_links s (at_link i (link_ponged n) s.links))
  star-ponged i n = star-at i (link_ponged n) (λ k. refl) (λ k c. record { side = c.side; positive = c.positive; named = c.named; moved = c.moved; known = c.known })

  -- messages that were fetched
  pub star-fetched : (i n : ℕ) → IsSoundStar O most first (fetched i n s)
  star-fetched i n = star-at i (link_fetched n) (λ k. refl) (λ k c. record { side = c.side; positive = c.positive; named = c.named; moved = c.moved; known = c.known })

  -- a link that is gone
  pub star-left : (i : ℕ) → IsSoundStar O most first (left i s)
  star-left i = star-links _ (λ j. at (nat_eq i j) j refl) (λ j above. gone (nat_eq i j) j refl above)
    where
      at : (b : Bool) (j : ℕ) → nat_eq i j ≡ b → SoundLinkAt O s.order j (link_of j (left i s).links)
      at true j e = subst (λ k. SoundLinkAt O s.order k (link_of k (left i s).links)) (eqb-true i j e) (subst (SoundLinkAt O s.order i) (sym (found-without (λ k. k.site) i s.links)) tt)
      at false j e = subst (SoundLinkAt O s.order j) (sym (found-without_other (λ k. k.site) i j s.links e)) (h.links j)

      gone : (b : Bool) (j : ℕ) → nat_eq i j ≡ b → s.given < j → link_of j (left i s).links ≡ None
      gone true j e above = subst (λ k. link_of k (left i s).links ≡ None) (eqb-true i j e) (found-without (λ k. k.site) i s.links)
      gone false j e above = found-without_other (λ k. k.site) i j s.links e ∙ h.no_link j above

  -- a new one
  pub star-joined : IsSoundStar O most first (joined s)
  star-joined = record {
    content_is = h.content_is;
    distinct = h.distinct;
    room = h.room;
    small = h.small;
    enough = h.enough;
    few = h.few;
    limited = h.limited;
    counted = h.counted;
    board_known = h.board_known;
    order_known = h.order_known;
    links = λ j. at (nat_eq (s.given + 1) j) j refl;
    no_link = λ j above. (found-end_other (λ k. k.site) j s.links (opened_link (s.given + 1)) (ne_eqb (s.given + 1) j (λ e. absurd (omega arith))) ∙ h.no_link j (omega arith));
    no_name = λ j above. h.no_name j (omega arith);
  }
    where
      new : IsSoundLink O s.order (s.given + 1) (opened_link (s.given + 1))
      new = record { side = refl; positive = omega arith; named = sym (h.no_name (s.given + 1) (omega arith)); moved = tt; known = tt }

      at : (b : Bool) (j : ℕ) → nat_eq (s.given + 1) j ≡ b → SoundLinkAt O s.order j (link_of j (joined s).links)
      at true j e = subst (λ k. SoundLinkAt O s.order k (link_of k (joined s).links)) (eqb-true (s.given + 1) j e)
          (subst (SoundLinkAt O s.order (s.given + 1)) (sym (found-end (λ k. k.site) (s.given + 1) s.links (opened_link (s.given + 1)) (h.no_link (s.given + 1) (omega arith)) (eq-eqb (s.given + 1) (s.given + 1) refl))) new)
      at false j e = subst (SoundLinkAt O s.order j) (sym (found-end_other (λ k. k.site) j s.links (opened_link (s.given + 1)) e)) (h.links j)

-- The star takes an edit, no matter who sent it.

-- an end that pays what it owes keeps its queue and its side
pub answered_queue : {Op : Type 0} → (e : Link Op) → (answered e).outgoing ≡ e.outgoing
answered_queue {Op = Op} e = cases (owes e.unanswered)
  where
    cases : (b : Bool) → (if b then after_ack {Op = Op} e else e).outgoing ≡ e.outgoing
    cases true = refl
    cases false = refl

pub answered_side : {Op : Type 0} → (e : Link Op) → (answered e).side ≡ e.side
answered_side {Op = Op} e = cases (owes e.unanswered)
  where
    cases : (b : Bool) → (if b then after_ack {Op = Op} e else e).side ≡ e.side
    cases true = refl
    cases false = refl

module _ (O : Operations) (L : AreLawful O) (most : ℕ) (first : O.t.Content) (s : StarOf O) (h : IsSoundStar O most first s)
    (i : ℕ) (l : LinkState O.Op) (fl : link_of i s.links ≡ Some l) (m : Msg O.Op) (none : up_fault O s l (UpOp m) ≡ None) where
  -- the operation that the star applies
  abbrev pub op : O.Op
  op = operation_at O l.end m

  -- its edit as the message bears it
  abbrev pub meant : O.Edit
  meant = O.t.edit_of m.op

  -- what of the queue the far end had not received
  abbrev q : List O.Op
  q = unheard l.end m.heard

  -- all that was asked holds
  passed : fault_tests.AllHold (early_tests O s.limit (length s.order) l m ++ test (fits_board O s.board l m) BadOp ∷ [])
  passed = fault_tests.all_hold (early_tests O s.limit (length s.order) l m ++ test (fits_board O s.board l m) BadOp ∷ []) none

  pub room : length s.order < s.limit
  room = ltb-true _ _ passed.1.1.1.1.0

  -- the link as it was
  linked : IsSoundLink O s.order i l
  linked = subst (λ o. SoundLinkAt O s.order i o) fl (h.links i)

  op_is : op ≡ row_operation O.t.client_past m.op q
  op_is = ap (λ side. row_operation (past O.t (opposite side)) m.op q) linked.side

  -- it is valid at the star
  pub valid : O.t.is_valid op s.board
  valid = fault_tests.taken_valid O L s l m none

  -- it inserts what its edit does
  pub inserts : (n : O.t.Name) → O.t.inserts (O.t.edit_of op) n → O.t.inserts meant n
  inserts n put = fault_tests.inserted_at O L l.end m n put

  -- the edit bears the link's next names
  pub next : IsTrue (O.bears_next i (named_in O s.order i) meant)
  next = subst (λ k. IsTrue (O.bears_next i k meant)) linked.named (subst (λ k. IsTrue (O.bears_next k l.named meant)) (fault_tests.link_site i l s.links fl) passed.1.1.1.0)

  -- it means the edit after the order
  pub same : SameMeaning O (edits_in O s.order ++ O.t.edit_of op ∷ []) (edits_in O s.order ++ meant ∷ [])
  same = subst (λ o. SameMeaning O (edits_in O s.order ++ O.t.edit_of o ∷ []) (edits_in O s.order ++ meant ∷ [])) (sym op_is)
      (grids.row-same O L (edits_in O s.order) q (grids.All-drop (IsMoved O (edits_in O s.order)) _ l.end.outgoing linked.moved) m.op)

  -- what the edit changes is known, or inserted by it
  pub changes : ChangesHeld O (named_in O s.order) meant
  changes n x =
      let known : AllByRecursion (λ b. ChangesKnown O (named_in O s.order) (O.t.edit_of b)) q = grids.All-drop (λ b. ChangesKnown O (named_in O s.order) (O.t.edit_of b)) _ l.end.outgoing linked.known in
      elim (grids.row-changes O L (named_in O s.order) q known m.op n x) [
        | inl still ↦ held (subst (λ o. O.t.changes (O.t.edit_of o) n) (sym op_is) still)
        | inr was ↦ inl was
      ]
    where
      held : O.t.changes (O.t.edit_of op) n → IsKnown O (named_in O s.order) n ⊎ O.t.inserts meant n
      held y = elim (L.keeps.changes_held s.board op n valid y) [ inl there ↦ inl (h.board_known n there) | inr new ↦ inr (inserts n new) ]

  -- the order with its entry
  abbrev pub order_next : List (Entry O.Edit)
  order_next = s.order ++ entry O i m ∷ []

  -- its edits
  pub edits_next : edits_in O order_next ≡ edits_in O s.order ++ meant ∷ []
  edits_next = ap edits (turns-append 0 s.order (entry O i m ∷ [])) ∙ grids.edits-append (turns 0 s.order) (turn 0 (entry O i m) ∷ []) ∙ ap (λ es. edits (turns 0 s.order) ++ es) (one (nat_eq i 0))
    where
      one : (b : Bool) → edits (cond b (Own meant) (Other i meant) ∷ []) ≡ meant ∷ []
      one true = refl
      one false = refl

  -- its names
  pub named_next : (k : ℕ) → named_in O order_next k ≡ named_in O s.order k + cond (nat_eq i k) (O.insertions meant) 0
  named_next k = ap (named_by O 0 k) (turns-append 0 s.order (entry O i m ∷ [])) ∙ known_names.named_by-append O L 0 k (turns 0 s.order) (turn 0 (entry O i m) ∷ []) ∙ one (nat_eq i 0) refl
    where
      one : (b : Bool) → nat_eq i 0 ≡ b → named_by O 0 k (turns 0 s.order) + named_by O 0 k (cond b (Own meant) (Other i meant) ∷ [])
          ≡ named_by O 0 k (turns 0 s.order) + cond (nat_eq i k) (O.insertions meant) 0
      one true e = let alike : cond (nat_eq 0 k) (O.insertions meant) 0 ≡ cond (nat_eq i k) (O.insertions meant) 0 = ap (λ j. cond (nat_eq j k) (O.insertions meant) 0) (sym (eqb-true i 0 e)) in omega arith
      one false e = omega arith

  -- counts only grow
  pub more : (j : ℕ) → named_in O s.order j ≤ named_in O order_next j
  more j = omega (arith, named_next j)

  -- what was known stays known
  pub still_known : (n : O.t.Name) → IsKnown O (named_in O s.order) n → IsKnown O (named_in O order_next) n
  still_known n known = known_names.known_more O L (named_in O s.order) (named_in O order_next) n more known

  -- what the edit inserts is not known yet
  fresh : (n : O.t.Name) → O.t.inserts (O.t.edit_of op) n → IsKnown O (named_in O s.order) n → ⊥
  fresh n x k = elim k [
    | inl z ↦ (let own = L.next_site i _ meant n next (inserts n x) in let positive = linked.positive in omega arith)
    | inr b ↦ (let above = L.next_above i _ meant n next (inserts n x) in
        let below : O.number_of n ≤ named_in O s.order i = subst (λ j. O.number_of n ≤ named_in O s.order j) (L.next_site i _ meant n next (inserts n x)) b in omega arith)
  ]

  -- and is afterwards
  new_known : (n : O.t.Name) → O.t.inserts meant n → IsKnown O (named_in O order_next) n
  new_known n new = inr (subst (λ j. O.number_of n ≤ named_in O order_next j) (sym (L.next_site i _ meant n next new))
      (omega (arith, L.next_within i _ meant n next new, named_next i, mine (nat_eq i i) (eq-eqb i i refl))))
    where
      mine : (b : Bool) → b ≡ true → cond b (O.insertions meant) 0 ≡ O.insertions meant
      mine true e = refl
      mine false e = absurd (cc)

  -- the star's content is what its order means
  content_next : O.t.content (O.t.after op s.board) ≡ O.t.meaning first (edits_in O order_next)
  content_next =
      L.keeps.effect_one s.board op h.distinct valid
      ∙ ap (λ x. O.t.meaning x (O.t.edit_of op ∷ [])) h.content_is
      ∙ grids.meaning_one O L first (edits_in O s.order) (O.t.edit_of op)
      (λ n x f k d. fresh n x (known_names.All-at (ChangesKnown O (named_in O s.order)) (edits_in O s.order) f k h.order_known n d))
      ∙ grids.same-meaning O L _ _ first same
      ∙ ap (O.t.meaning first) (sym edits_next)

  -- it knows what its board holds
  board_known_next : HoldsKnown O (named_in O order_next) (O.t.after op s.board)
  board_known_next n x = elim (L.keeps.held_before s.board op n valid x) [ inl held ↦ still_known n (h.board_known n held) | inr new ↦ new_known n (inserts n new) ]

  -- and what its order changes
  order_known_next : AllByRecursion (ChangesKnown O (named_in O order_next)) (edits_in O order_next)
  order_known_next = subst (AllByRecursion (ChangesKnown O (named_in O order_next))) (sym edits_next)
      (known_names.All-append (ChangesKnown O (named_in O order_next)) (edits_in O s.order) (meant ∷ [])
      (known_names.all_changes_more O L (named_in O s.order) (named_in O order_next) more (edits_in O s.order) h.order_known)
      ((λ n x. elim (changes n x) [ inl known ↦ still_known n known | inr new ↦ new_known n new ]), tt))

  -- and what the operation changes
  op_known : ChangesKnown O (named_in O order_next) (O.t.edit_of op)
  op_known n x = elim (L.keeps.changes_held s.board op n valid x) [ inl there ↦ still_known n (h.board_known n there) | inr new ↦ new_known n (inserts n new) ]

  -- a queue stays moved and known
  moved_next : (b : O.Op) → IsMoved O (edits_in O s.order) b → IsMoved O (edits_in O order_next) b
  moved_next b v = subst (λ es. IsMoved O es b) (sym edits_next) (grids.moved-longer O L (edits_in O s.order) (meant ∷ []) b v)

  known_next : (b : O.Op) → ChangesKnown O (named_in O s.order) (O.t.edit_of b) → ChangesKnown O (named_in O order_next) (O.t.edit_of b)
  known_next b k = known_names.changes_more O L (named_in O s.order) (named_in O order_next) more (O.t.edit_of b) k

  -- the queue of the link that it came by
  heard_queue : (link_heard O m l).end.outgoing ≡ row_entries O.t.client_past O.t.server_past m.op q
  heard_queue = answered_queue _ ∙ ap (λ side. row_entries (past O.t (opposite side)) (past O.t side) m.op q) linked.side

  heard_link : IsSoundLink O order_next i (link_heard O m l)
  heard_link = record {
    side = answered_side _ ∙ linked.side;
    positive = linked.positive;
    named = ap (λ k. k + O.insertions meant) linked.named ∙ sym (named_next i ∙ ap (λ k. named_in O s.order i + k) (mine (nat_eq i i) (eq-eqb i i refl)));
    moved = subst (AllByRecursion (IsMoved O (edits_in O order_next))) (sym heard_queue)
        (known_names.All-map (IsMoved O (edits_in O s.order)) (IsMoved O (edits_in O order_next)) moved_next _
        (grids.row-moved O L (edits_in O s.order) q (grids.All-drop (IsMoved O (edits_in O s.order)) _ l.end.outgoing linked.moved) m.op));
    known = subst (AllByRecursion (λ b. ChangesKnown O (named_in O order_next) (O.t.edit_of b))) (sym heard_queue)
        (known_names.All-map (λ b. ChangesKnown O (named_in O s.order) (O.t.edit_of b)) (λ b. ChangesKnown O (named_in O order_next) (O.t.edit_of b)) known_next _
        (grids.row-known O L (named_in O s.order) q (grids.All-drop (λ b. ChangesKnown O (named_in O s.order) (O.t.edit_of b)) _ l.end.outgoing linked.known) m.op));
  }
    where
      mine : (b : Bool) → b ≡ true → cond b (O.insertions meant) 0 ≡ O.insertions meant
      mine true e = refl
      mine false e = absurd (cc)

  -- and every other link
  sent_link : (j : ℕ) → nat_eq i j ≡ false → (k : LinkState O.Op) → IsSoundLink O s.order j k → IsSoundLink O order_next j (link_sent op k)
  sent_link j apart k c = record {
    side = c.side;
    positive = c.positive;
    named = c.named ∙ sym (named_next j ∙ ap (λ n. named_in O s.order j + n) (other (nat_eq i j) apart) ∙ add-zero (named_in O s.order j));
    moved = known_names.All-append (IsMoved O (edits_in O order_next)) k.end.outgoing (op ∷ [])
        (known_names.All-map (IsMoved O (edits_in O s.order)) (IsMoved O (edits_in O order_next)) moved_next k.end.outgoing c.moved)
        (subst (λ es. IsMoved O es op) (sym edits_next) (grids.moved-new O L (edits_in O s.order) op meant same), tt);
    known = known_names.All-append (λ b. ChangesKnown O (named_in O order_next) (O.t.edit_of b)) k.end.outgoing (op ∷ [])
        (known_names.All-map (λ b. ChangesKnown O (named_in O s.order) (O.t.edit_of b)) (λ b. ChangesKnown O (named_in O order_next) (O.t.edit_of b)) known_next k.end.outgoing c.known)
        (op_known, tt);
  }
    where
      other : (b : Bool) → b ≡ false → cond b (O.insertions meant) 0 ≡ 0
      other false e = refl
      other true e = absurd (cc)

  -- what each number has afterwards
  pub link_here : link_of i (links_after O i m op s.links) ≡ Some (link_heard O m l)
  link_here = found-map (λ k. k.site) i (λ k. link_heard O m k) (λ k. link_sent op k) (λ k. refl) (λ k. refl) s.links ∙ ap (option_map (λ k. link_heard O m k)) fl

  pub link_there : (j : ℕ) → nat_eq i j ≡ false → link_of j (links_after O i m op s.links) ≡ option_map (λ k. link_sent op k) (link_of j s.links)
  link_there j apart = found-map_other (λ k. k.site) i j (λ k. link_heard O m k) (λ k. link_sent op k) (λ k. refl) (λ k. refl) s.links apart

  -- so the star is sound
  pub star-taken : IsSoundStar O most first (taken O i (UpOp m) l s)
  star-taken = record {
    content_is = content_next;
    distinct = L.lawful.distinct_after s.board op h.distinct valid;
    room = h.room - 1;
    small = small_next O.t L.lawful h.room (h.room - 1) s.board op (omega (arith, h.enough, h.limited, room)) h.small valid;
    enough = omega (arith, h.enough, h.limited, room, longer);
    few = omega (arith, room, longer);
    limited = h.limited;
    counted = h.counted;
    board_known = board_known_next;
    order_known = order_known_next;
    links = λ j. at (nat_eq i j) j refl;
    no_link = λ j above. (link_there j (not_here j above) ∙ ap (option_map (λ k. link_sent op k)) (h.no_link j above));
    no_name = λ j above. (named_next j ∙ ap (λ n. named_in O s.order j + n) (other (nat_eq i j) (not_here j above)) ∙ add-zero (named_in O s.order j) ∙ h.no_name j above);
  }
    where
      longer : length order_next ≡ length s.order + 1
      longer = length-append s.order (entry O i m ∷ [])

      other : (b : Bool) → b ≡ false → cond b (O.insertions meant) 0 ≡ 0
      other false e = refl
      other true e = absurd (cc)

      not_here : (j : ℕ) → s.given < j → nat_eq i j ≡ false
      not_here j above = ne_eqb i j (λ e. let gone : link_of i s.links ≡ None = subst (λ k. link_of k s.links ≡ None) (sym e) (h.no_link j above) in absurd (cc))

      each : (j : ℕ) → nat_eq i j ≡ false → (o : Option (LinkState O.Op)) → SoundLinkAt O s.order j o → SoundLinkAt O order_next j (option_map (λ k. link_sent op k) o)
      each j apart None c = tt
      each j apart (Some k) c = sent_link j apart k c

      at : (b : Bool) (j : ℕ) → nat_eq i j ≡ b → SoundLinkAt O order_next j (link_of j (links_after O i m op s.links))
      at true j e = subst (λ k. SoundLinkAt O order_next k (link_of k (links_after O i m op s.links))) (eqb-true i j e) (subst (λ o. SoundLinkAt O order_next i o) (sym link_here) heard_link)
      at false j e = subst (λ o. SoundLinkAt O order_next j o) (sym (link_there j e)) (each j e (link_of j s.links) (h.links j))

  -- and keeps the order of its items, of which none that was known comes back
  pub keeps_order : O.t.keeps_order s.board (O.t.after op s.board)
  keeps_order = L.keeps.order s.board op h.distinct valid

  pub none_back : (n : O.t.Name) → IsKnown O (named_in O s.order) n → O.t.holds (O.t.after op s.board) n → O.t.holds s.board n
  none_back n known x = elim (L.keeps.held_before s.board op n valid x) [ inl held ↦ held | inr new ↦ absurd (fresh n new known) ]

-- A star is sound after any calls, no matter who makes them.

module _ (O : Operations) (L : AreLawful O) (most : ℕ) (first : O.t.Content) where
  -- one star after another, whose order is longer
  pub record Grows (s t : StarOf O) : Type 0 where
    pub called : IsCalled O most first t
    pub follows : Follows O L s t

  module _ (s : StarOf O) (h : IsCalled O most first s) where
    -- the star's order stays
    called-same : (t : StarOf O) → IsSoundStar O most first t → s.given ≤ t.given → t.board ≡ s.board → t.order ≡ s.order → Grows s t
    called-same t star given board order = record {
      called = record { star = star; no_entry = λ j above. (ap (λ rs. own_edits (turns j rs)) order ∙ h.no_entry j (omega (arith, given, above))) };
      follows = follows-same O L s t given board order;
    }

    pub called-still : Grows s s
    called-still = called-same s h.star (omega arith) refl refl

    pub called-joined : Grows s (joined s)
    called-joined = called-same (joined s) (star-joined O L most first s h.star) (omega arith) refl refl

    pub called-left : (j : ℕ) → Grows s (left j s)
    called-left j = called-same (left j s) (star-left O L most first s h.star j) (omega arith) refl refl

    pub called-fetched : (j n : ℕ) → Grows s (fetched j n s)
    called-fetched j n = called-same (fetched j n s) (star-fetched O L most first s h.star j n) (omega arith) refl refl

    pub called-taken : (i : ℕ) (l : LinkState O.Op) → link_of i s.links ≡ Some l → (up : Up O.Op) → up_fault O s l up ≡ None → Grows s (taken O i up l s)
    called-taken i l fl (UpOp m) none = record {
      called = record {
        star = star-taken O L most first s h.star i l fl m none;
        no_entry = λ j above. (ap own_edits (turns-append j s.order (entry O i m ∷ [])) ∙ grids.own_edits-append (turns j s.order) (turn j (entry O i m) ∷ [])
            ∙ ap (λ es. es ++ own_edits (turn j (entry O i m) ∷ [])) (h.no_entry j above) ∙ not_own (nat_eq i j) (apart j above));
      };
      follows = record {
        given = omega arith;
        order = keeps_order O L most first s h.star i l fl m none;
        knows = still_known O L most first s h.star i l fl m none;
        none_back = none_back O L most first s h.star i l fl m none;
      };
    }
      where
        apart : (j : ℕ) → s.given < j → nat_eq i j ≡ false
        apart j above = ne_eqb i j (λ e. let gone : link_of i s.links ≡ None = subst (λ k. link_of k s.links ≡ None) (sym e) (h.star.no_link j above) in absurd (cc))

        not_own : (b : Bool) → b ≡ false → own_edits (cond b (Own (O.t.edit_of m.op)) (Other i (O.t.edit_of m.op)) ∷ []) ≡ []
        not_own false e = refl
        not_own true e = absurd (cc)
    called-taken i l fl (UpAck n) none = called-same (taken O i (UpAck n) l s) (star-acked O L most first s h.star i n) (omega arith) refl refl
    called-taken i l fl (UpPing n) none = called-same (taken O i (UpPing n) l s) (star-ponged O L most first s h.star i n) (omega arith) refl refl

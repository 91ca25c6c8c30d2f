-- What an event adds to the trace.
use Rattle.std.proofs.Common.{◌≡◌, ℕ, ◌+◌, ◌<◌, Bool, true, false, ◌||◌, List, [], ◌∷◌, ◌++◌, length, drop, refl, ap, sym, ◌∙◌, arith, append_assoc, append-nil, Some, None, take-append-drop}
use Rattle.jup_world.specs.Prelude.{Msg, Operations, AreLawful, Up, UpOp, ups, LinkState, link_of, entry, Taken}
use Rattle.jup_world.specs.Traces.{turns, own_edits, over_trace, edit_made, made, entry_taken, order_of, join_seen, joined_at, was_shown, shown_count, stray_seen, is_stray, first_of_site}
use Rattle.jup_world.specs.Events.{Happened, Up as MoveUp}
use Rattle.jup_world.specs.Worlds.{HappenedOf, attached, WorldOf, AttachedOf}
use Rattle.jup_world.specs.Sound as soundness
use Rattle.jup_site.proofs.Numbers.{either}

-- What one more event adds to what is read off a trace.

or-false : (b : Bool) → (b || false) ≡ b
or-false true = refl
or-false false = refl

or-among : (a b c : Bool) → (a || (b || c)) ≡ ((a || b) || c)
or-among true b c = refl
or-among false b c = refl

module _ {Command Operation Edit Fault : Type 0} where
  -- one more event
  pub over-end : {A : Type 0} (next : List (Happened Command Operation Edit Fault) → A → Happened Command Operation Edit Fault → A) → (a : A) (past hs : List (Happened Command Operation Edit Fault)) (h : Happened Command Operation Edit Fault)
      → over_trace next a past (hs ++ h ∷ []) ≡ next (past ++ hs) (over_trace next a past hs) h
  over-end next a past [] h = ap (λ p. next p a h) (sym (append-nil past))
  over-end next a past (g ∷ hs) h = over-end next (next past a g) (past ++ g ∷ []) hs h ∙ ap (λ p. next p (over_trace next (next past a g) (past ++ g ∷ []) hs) h) (append_assoc past (g ∷ []) hs)

  -- adds the edit that was made
  pub made-end : (i : ℕ) (hs : List (Happened Command Operation Edit Fault)) (h : Happened Command Operation Edit Fault) → made i (hs ++ h ∷ []) ≡ made i hs ++ edit_made i h.event h.reply
  made-end i [] h = append-nil (edit_made i h.event h.reply)
  made-end i (g ∷ hs) h = ap (λ es. edit_made i g.event g.reply ++ es) (made-end i hs h) ∙ sym (append_assoc (edit_made i g.event g.reply) (made i hs) (edit_made i h.event h.reply))

  -- and the edit that was delivered
  pub shown-end : (i : ℕ) (hs : List (Happened Command Operation Edit Fault)) (h : Happened Command Operation Edit Fault) → shown_count i (hs ++ h ∷ []) ≡ shown_count i hs + was_shown i h.event h.reply
  shown-end i [] h = omega arith
  shown-end i (g ∷ hs) h = omega (arith, shown-end i hs h)

  -- and a stranger's number
  pub stray-end : (i : ℕ) (hs : List (Happened Command Operation Edit Fault)) (h : Happened Command Operation Edit Fault) → is_stray i (hs ++ h ∷ []) ≡ (is_stray i hs || stray_seen i h.event h.reply)
  stray-end i [] h = or-false (stray_seen i h.event h.reply)
  stray-end i (g ∷ hs) h = ap (λ b. stray_seen i g.event g.reply || b) (stray-end i hs h) ∙ or-among (stray_seen i g.event g.reply) (is_stray i hs) (stray_seen i h.event h.reply)

module _ (O : Operations) where
  -- the entry that was taken
  pub order-end : (hs : List (HappenedOf O)) (h : HappenedOf O) → order_of O (hs ++ h ∷ []) ≡ order_of O hs ++ entry_taken O hs (order_of O hs) h.event h.reply
  order-end hs h = over-end (λ past order g. order ++ entry_taken O past order g.event g.reply) [] [] hs h

  -- the place of a join
  pub joined-end : (i : ℕ) (hs : List (HappenedOf O)) (h : HappenedOf O) → joined_at O i (hs ++ h ∷ []) ≡ join_seen i (length (order_of O hs)) (joined_at O i hs) h.event h.reply
  joined-end i hs h = over-end (λ past at g. join_seen i (length (order_of O past)) at g.event g.reply) 0 [] hs h

-- Where a site of a world is, and the order that the trace gives once the star took its edit.

module _ (O : Operations) (L : AreLawful O) where
  -- a site with its link is beside the star,
  pub beside : (most : ℕ) (w : WorldOf O) → soundness.IsSound O most w → (i : ℕ) (l : LinkState O.Op) (a : AttachedOf O) → link_of i w.star.links ≡ Some l → attached i w.sites ≡ Some a → soundness.StandsBeside O most w i l a
  beside most w s i l a fl fa =
      let here = s.sites i a fa in
      let same : l ≡ here.link = (let there = here.linked in cc) in
      rw same here.beside

  -- at its place of the order
  pub standing : (most : ℕ) (w : WorldOf O) → soundness.IsSound O most w → (i : ℕ) (l : LinkState O.Op) (a : AttachedOf O) → link_of i w.star.links ≡ Some l → attached i w.sites ≡ Some a
      → soundness.Standing O most (O.t.content w.opening) (turns i w.star.order) w.star.board (made i w.trace) (joined_at O i w.trace) (shown_count i w.trace) i l a
  standing most w s i l a fl fa = (beside most w s i l a fl fa).stands

  -- and has a link
  pub standing_of : (most : ℕ) (w : WorldOf O) → soundness.IsSound O most w → (i : ℕ) (a : AttachedOf O) → attached i w.sites ≡ Some a
      → (l : LinkState O.Op) × soundness.Standing O most (O.t.content w.opening) (turns i w.star.order) w.star.board (made i w.trace) (joined_at O i w.trace) (shown_count i w.trace) i l a × (link_of i w.star.links ≡ Some l)
  standing_of most w s i a fa = let here = s.sites i a fa in (here.link, here.beside.stands, here.linked)

  module _ (most : ℕ) (w : WorldOf O) (s : soundness.IsSound O most w) where
    -- a number that was not given has no site
    pub no_site : (i : ℕ) → w.star.given < i → attached i w.sites ≡ None
    no_site i above = either (attached i w.sites) (λ o. o ≡ None) (λ none. refl) (λ a fa. (let low = (s.sites i a fa).beside.given in absurd (omega arith)))

    -- the order that the trace gives once the star took an edit of a site
    pub order_told : (i : ℕ) (a : AttachedOf O) → attached i w.sites ≡ Some a → (m : Msg O.Op) (us : List (Up O.Op)) → a.up ≡ UpOp m ∷ us
        → order_of O (w.trace ++ record { event = MoveUp i; reply = Taken (length w.star.order) } ∷ []) ≡ w.star.order ++ entry O i m ∷ []
    order_told i a fa m us rising =
        order-end O w.trace (record { event = MoveUp i; reply = Taken (length w.star.order) })
        ∙ ap (λ es. es ++ first_of_site i (drop (length (own_edits (turns i es))) (made i w.trace))) s.order_is
        ∙ ap (λ es. w.star.order ++ first_of_site i es) next_is
      where
        st : soundness.Standing O most (O.t.content w.opening) (turns i w.star.order) w.star.board (made i w.trace) (joined_at O i w.trace) (shown_count i w.trace) i (s.sites i a fa).link a
        st = (s.sites i a fa).beside.stands

        mine_is : made i w.trace ≡ own_edits (turns i w.star.order) ++ (O.t.edit_of m.op ∷ soundness.edits_sent O (ups us))
        mine_is =
            st.pair.all_made
            ∙ ap (λ ts. own_edits ts ++ st.pair.raw) (take-append-drop (soundness.told_of O (joined_at O i w.trace) (shown_count i w.trace) (turns i w.star.order)) (turns i w.star.order))
            ∙ ap (λ es. own_edits (turns i w.star.order) ++ es) (sym st.pair.raw_sent ∙ ap (λ r. soundness.edits_sent O (ups r)) rising)

        next_is : drop (length (own_edits (turns i w.star.order))) (made i w.trace) ≡ O.t.edit_of m.op ∷ soundness.edits_sent O (ups us)
        next_is = ap (drop (length (own_edits (turns i w.star.order)))) mine_is ∙ Rattle.std.proofs.Math.Seq.drop-append_seam (own_edits (turns i w.star.order)) (O.t.edit_of m.op ∷ soundness.edits_sent O (ups us))

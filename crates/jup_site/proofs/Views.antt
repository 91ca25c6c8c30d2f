-- What a site at its place of the order shows, and what it is answered.
use Rattle.std.proofs.Common.{◌≡◌, ◌⊎◌, ℕ, ◌+◌, ◌≤◌, ◌<◌, List, [], ◌∷◌, ◌++◌, take, drop, length, ap, sym, ◌∙◌, subst, arith, Some, None, append-nil, append_assoc, take-append-drop}
use Rattle.jup_site.specs.Prelude.{InStepAt, Operations, AreLawful, StarOf, LinkState, Msg, Up, UpOp, UpAck, ups, downs, up_fault, LogFull, answer_after, most_unacknowledged}
use Rattle.jup_link.specs.Laws.Steps as link_laws
use Rattle.jup_site.specs.Turns.{Turn, turns, edits, own_edits, told_count as last_told}
use Rattle.jup_site.specs.Sites.{AttachedOf}
use Rattle.jup_site.specs.Sound as soundness
use Rattle.jup_site.proofs.Known as known_names
use Rattle.jup_site.proofs.Turns.{named-turns}
use Rattle.jup_site.proofs.Counts.{no_operations}
use Rattle.jup_site.proofs.Pairs.Grids.{own_edits-append}
use Rattle.jup_site.proofs.Pairs.Places as places
use Rattle.jup_site.specs.Moments.{Moment, view, IsBeside}
use Rattle.jup_site.proofs.Beside.{fits}

module _ (O : Operations) (L : AreLawful O) (most : ℕ) (first : O.t.Content) (since i shown : ℕ) (s : StarOf O) (mine : List O.Edit) (l : LinkState O.Op) (a : AttachedOf O)
    (st : soundness.Standing O most first (turns i s.order) s.board mine since shown i l a) where
  abbrev seen : ℕ
  seen = soundness.told_of O since shown (turns i s.order)

  abbrev past : List (Turn O.Edit)
  past = take seen (turns i s.order)

  abbrev rest : List (Turn O.Edit)
  rest = drop seen (turns i s.order)

  -- it shows the meaning of what has reached it and of what it made
  pub stands-view : O.t.content a.site.board ≡ O.t.meaning first (edits past ++ drop (length (own_edits past)) mine)
  stands-view =
      let made_is : mine ≡ own_edits past ++ (own_edits rest ++ st.pair.raw) =
      st.pair.all_made ∙ ap (λ es. es ++ st.pair.raw) (own_edits-append past rest) ∙ append_assoc (own_edits past) (own_edits rest) st.pair.raw in
      let left : drop (length (own_edits past)) mine ≡ own_edits rest ++ st.pair.raw = ap (drop (length (own_edits past))) made_is ∙ Rattle.std.proofs.Math.Seq.drop-append_seam (own_edits past) (own_edits rest ++ st.pair.raw) in
      st.pair.shows ∙ ap (O.t.meaning first) (append_assoc (edits past) (own_edits rest) st.pair.raw ∙ ap (λ es. edits past ++ es) (sym left))

  -- with nothing on its way it is level with the star
  pub stands-equal : a.up ≡ [] → a.down ≡ [] → l.outbox ≡ [] → a.site.board ≡ s.board
  stands-equal up down outbox =
      link_laws.quiet_equal O.t
      (subst (λ f. InStepAt O.t 0 st.pair.from st.pair.site_ahead st.pair.star_ahead a.site.board s.board a.site.end l.end [] f) (ap (λ f. downs (f ++ l.outbox)) down ∙ ap downs outbox)
      (subst (λ r. InStepAt O.t 0 st.pair.from st.pair.site_ahead st.pair.star_ahead a.site.board s.board a.site.end l.end r (downs (a.down ++ l.outbox))) (ap ups up) st.pair.in_step))

  -- and the order has all its edits
  pub stands-whole : a.up ≡ [] → own_edits (turns i s.order) ≡ mine
  stands-whole up =
      let made_is : mine ≡ own_edits (turns i s.order) ++ st.pair.raw = st.pair.all_made
      ∙ ap (λ ts. own_edits ts ++ st.pair.raw) (take-append-drop seen (turns i s.order)) in
      let none : st.pair.raw ≡ [] = sym st.pair.raw_sent ∙ ap (λ r. soundness.edits_sent O (ups r)) up in
      sym (made_is ∙ ap (λ es. own_edits (turns i s.order) ++ es) none ∙ append-nil (own_edits (turns i s.order)))

  -- what it shows and what the star shows are in one order
  module _ (symmetric : (x y : O.State) → O.t.keeps_order x y → O.t.keeps_order y x) (sound : soundness.IsSoundStar O most first s) where
    -- the star knows what its board holds, counted as the site counts
    counted : (j : ℕ) → known_names.star_counts O L symmetric most i first past rest s.board mine l a st.pair j ≡ soundness.named_in O s.order j
    counted j = ap (soundness.named_by O i j) (take-append-drop seen (turns i s.order)) ∙ named-turns O L i 0 j s.order

    held_known : soundness.HoldsKnown O (known_names.star_counts O L symmetric most i first past rest s.board mine l a st.pair) s.board
    held_known n held = known_names.known_more O L (soundness.named_in O s.order) (known_names.star_counts O L symmetric most i first past rest s.board mine l a st.pair) n (λ j. omega (arith, counted j)) (sound.board_known n held)

    pub stands-order : O.t.keeps_order a.site.board s.board
    stands-order = known_names.pair_order O L symmetric most i first past rest s.board mine l a st.pair held_known

-- # A moment of a site

module _ (O : Operations) (L : AreLawful O) (most : ℕ) (first : O.t.Content) (since i : ℕ) (m : Moment O) (h : IsBeside O most first since i m) where
  -- it shows what its view of the order makes of the opening board
  pub beside-view : O.t.content m.at.site.board ≡ O.t.meaning first (view O since i m)
  beside-view = stands-view O L most first since i m.shown m.star m.mine m.link m.at h.stands

  -- its oldest message is taken, or the order is full
  pub beside-answers : (x : Msg O.Op) (us : List (Up O.Op)) → m.at.up ≡ UpOp x ∷ us
      → ((up_fault O m.star m.link (UpOp x) ≡ None) × (length m.star.order < m.star.limit)) ⊎ ((up_fault O m.star m.link (UpOp x) ≡ Some LogFull) × (m.star.limit ≤ length m.star.order))
  beside-answers x us e = places.place-accepted O L most first m.star m.mine i since m.shown m.link m.at h.stands (fits O L most first since i m h) x us e

  pub beside-heard : (n : ℕ) (us : List (Up O.Op)) → m.at.up ≡ UpAck n ∷ us → up_fault O m.star m.link (UpAck n) ≡ None
  beside-heard n us e = places.place-ack_fits O L most first m.star m.mine i since m.shown m.link m.at h.stands (fits O L most first since i m h) n us e

  -- with nothing on its way it is level with the star, which has all its edits
  pub beside-equal : m.at.up ≡ [] → m.at.down ≡ [] → m.link.outbox ≡ [] → m.at.site.board ≡ m.star.board
  beside-equal up down outbox = stands-equal O L most first since i m.shown m.star m.mine m.link m.at h.stands up down outbox

  pub beside-whole : m.at.up ≡ [] → own_edits (turns i m.star.order) ≡ m.mine
  beside-whole up = stands-whole O L most first since i m.shown m.star m.mine m.link m.at h.stands up

  -- the site and the star show in one order what both show
  pub beside-order : ((x y : O.State) → O.t.keeps_order x y → O.t.keeps_order y x) → O.t.keeps_order m.at.site.board m.star.board
  beside-order symmetric = stands-order O L most first since i m.shown m.star m.mine m.link m.at h.stands symmetric h.star.star

  -- its backlog is bounded, and short with nothing on its way
  pub beside-bounded : length m.at.site.end.outgoing ≤ most_unacknowledged
  beside-bounded = h.stands.pair.backlog

  pub beside-backlog : m.at.up ≡ [] → m.at.down ≡ [] → m.link.outbox ≡ [] → length m.at.site.end.outgoing < answer_after
  beside-backlog up down outbox =
      let pair = h.stands.pair in
      let step = subst (λ r. InStepAt O.t 0 pair.from pair.site_ahead pair.star_ahead m.at.site.board m.star.board m.at.site.end m.link.end r (downs (m.at.down ++ m.link.outbox))) (ap ups up) pair.in_step in
      let none : pair.site_ahead ≡ [] = no_operations O.t m.link.end.received m.link.end.acknowledged step.far_queue.before pair.site_ahead step.far_queue.comes in
      let told : m.at.site.end.acknowledged + m.link.end.unanswered ≡ m.link.end.received = sym (ap (λ x. last_told m.at.site.end.acknowledged x + m.link.end.unanswered) (ap (λ x. x ++ m.link.outbox) down ∙ outbox)) ∙ h.counts.told in
      let short = h.counts.short in
      omega (arith, told, short, link_laws.client_generated O.t pair.in_step, ap length none)

-- Acknowledgements, pings and moved messages: a site and its link stay in step.
use Rattle.std.proofs.Common.{◌≡◌, List, [], ◌∷◌, ◌++◌, refl, sym, ◌∙◌, append_assoc, append-nil, ℕ, ap, subst, ◌≤◌, Bool, true, false, arith, if◌then◌else◌, length, Some, None, option_to_list}
use Rattle.jup_site.specs.Prelude.{Client, Server, InStepAt, Link, Ack, generated, after_count, after_ack, answered, owes, Operations, AreLawful, Up, Down, UpAck, UpPing, DownAck, DownPong, ups, downs, LinkState, owed_down, link_acked, link_ponged, with_end, owed_up, ups-append, downs-append, AllByRecursion}
use Rattle.jup_link.specs.Laws.Steps as link_laws
use Rattle.jup_site.specs.Turns.{Turn}
use Rattle.jup_site.specs.Sound.{Paired, edits_sent}
use Rattle.jup_site.specs.Sites.{AttachedOf, pinged}
use Rattle.jup_site.proofs.Known.{edits_sent-append}

module _ (O : Operations) (L : AreLawful O) where
  -- a site with another end and other streams
  abbrev pub site_with : AttachedOf O → Link O.Op → List (Up O.Op) → List (Down O.Op) → AttachedOf O
  site_with a e rising falling = record { site = with_end a.site e; up = rising; down = falling }

  -- a link with another end and another outbox
  abbrev pub link_with : LinkState O.Op → Link O.Op → List (Down O.Op) → LinkState O.Op
  link_with l e outbox = record { site = l.site; end = e; outbox = outbox; named = l.named }

  module _ (most i : ℕ) (first : O.t.Content) (past rest : List (Turn O.Edit)) (held : O.State) (mine : List O.Edit) (l : LinkState O.Op) (a : AttachedOf O)
      (h : Paired O most i first past rest held mine l a) where
    -- what changes neither board nor edits
    pub pair-link : (c s : Link O.Op) (rising : List (Up O.Op)) (falling outbox : List (Down O.Op))
        → c.side ≡ Client → s.side ≡ Server → InStepAt O.t 0 h.from h.site_ahead h.star_ahead a.site.board held c s (ups rising) (downs (falling ++ outbox))
        → edits_sent O (ups rising) ≡ edits_sent O (ups a.up) → edits_sent O (downs (falling ++ outbox)) ≡ edits_sent O (downs (a.down ++ l.outbox))
        → length c.outgoing ≤ length a.site.end.outgoing → s.received ≡ l.end.received → generated s ≡ generated l.end
        → Paired O most i first past rest held mine (link_with l s outbox) (site_with a c rising falling)
    pair-link c s rising falling outbox c_side s_side step up_same down_same short heard count = record {
      from = h.from;
      site_ahead = h.site_ahead;
      star_ahead = h.star_ahead;
      site_side = c_side;
      link_side = s_side;
      in_step = step;
      room = h.room;
      small = h.small;
      enough = h.enough;
      raw = h.raw;
      raw_sent = up_same ∙ h.raw_sent;
      row = h.row;
      column = h.column;
      all_made = h.all_made;
      shows = h.shows;
      up_inherits = h.up_inherits;
      down_inherits = h.down_inherits;
      raw_named = h.raw_named;
      rest_named = h.rest_named;
      board_known = h.board_known;
      from_known = h.from_known;
      view_known = h.view_known;
      falling_foreign = subst (AllByRecursion (λ e. O.bears_site i e ≡ false)) (sym down_same) h.falling_foreign;
      positive = h.positive;
      site_number = h.site_number;
      link_number = h.link_number;
      link_named = h.link_named;
      goes_on = h.goes_on;
      backlog = omega (arith, h.backlog);
      few_heard = omega (arith, h.few_heard);
      few_sent = omega (arith, h.few_sent);
    }

    -- the same messages, in other streams
    pub pair-streams : (rising : List (Up O.Op)) (falling outbox : List (Down O.Op)) → ups rising ≡ ups a.up → downs (falling ++ outbox) ≡ downs (a.down ++ l.outbox)
        → Paired O most i first past rest held mine (link_with l l.end outbox) (site_with a a.site.end rising falling)
    pair-streams rising falling outbox u d =
        pair-link a.site.end l.end rising falling outbox h.site_side h.link_side
        (subst (λ f. InStepAt O.t 0 h.from h.site_ahead h.star_ahead a.site.board held a.site.end l.end (ups rising) f) (sym d)
        (subst (λ r. InStepAt O.t 0 h.from h.site_ahead h.star_ahead a.site.board held a.site.end l.end r (downs (a.down ++ l.outbox))) (sym u) h.in_step))
        (ap (edits_sent O) u) (ap (edits_sent O) d) (omega arith) refl refl

    -- a site that owes a count pays it
    pub pair-site_pays : Paired O most i first past rest held mine l (site_with a (after_ack a.site.end) (a.up ++ UpAck a.site.end.received ∷ []) a.down)
    pair-site_pays =
        pair-link (after_ack a.site.end) l.end (a.up ++ UpAck a.site.end.received ∷ []) a.down l.outbox h.site_side h.link_side
        (subst (λ r. InStepAt O.t 0 h.from h.site_ahead h.star_ahead a.site.board held (after_ack a.site.end) l.end r (downs (a.down ++ l.outbox))) (sym (ups-append a.up (UpAck a.site.end.received ∷ [])))
        (link_laws.client_acks O.t L.lawful h.in_step))
        (ap (edits_sent O) (ups-append a.up (UpAck a.site.end.received ∷ [])) ∙ edits_sent-append O L (ups a.up) (Ack a.site.end.received ∷ []) ∙ append-nil (edits_sent O (ups a.up)))
        refl (omega arith) refl refl

    -- whether it owes or not
    pub pair-site_settles : Paired O most i first past rest held mine l (site_with a (answered a.site.end) (a.up ++ option_to_list (owed_up a.site.end)) a.down)
    pair-site_settles = cases (owes a.site.end.unanswered)
      where
        cases : (b : Bool) → Paired O most i first past rest held mine l (site_with a (if b then after_ack a.site.end else a.site.end) (a.up ++ option_to_list (if b then Some (UpAck a.site.end.received) else None)) a.down)
        cases true = pair-site_pays
        cases false = pair-streams (a.up ++ []) a.down l.outbox (ap ups (append-nil a.up)) refl

    -- one more message in an outbox
    stream : (d : Down O.Op) → downs (a.down ++ (l.outbox ++ d ∷ [])) ≡ downs (a.down ++ l.outbox) ++ downs (d ∷ [])
    stream d = ap downs (sym (append_assoc a.down l.outbox (d ∷ []))) ∙ downs-append (a.down ++ l.outbox) (d ∷ [])

    -- a link that owes a count pays it
    pub pair-link_pays : Paired O most i first past rest held mine (link_with l (after_ack l.end) (l.outbox ++ DownAck l.end.received ∷ [])) a
    pair-link_pays =
        pair-link a.site.end (after_ack l.end) a.up a.down (l.outbox ++ DownAck l.end.received ∷ []) h.site_side h.link_side
        (subst (λ f. InStepAt O.t 0 h.from h.site_ahead h.star_ahead a.site.board held a.site.end (after_ack l.end) (ups a.up) f) (sym (stream (DownAck l.end.received)))
        (link_laws.server_acks O.t L.lawful h.in_step))
        refl
        (ap (edits_sent O) (stream (DownAck l.end.received)) ∙ edits_sent-append O L (downs (a.down ++ l.outbox)) (Ack l.end.received ∷ []) ∙ append-nil (edits_sent O (downs (a.down ++ l.outbox))))
        (omega arith) refl refl

    -- whether it owes or not
    pub pair-link_settles : Paired O most i first past rest held mine (link_with l (answered l.end) (l.outbox ++ owed_down l.end)) a
    pair-link_settles = cases (owes l.end.unanswered)
      where
        cases : (b : Bool) → Paired O most i first past rest held mine (link_with l (if b then after_ack l.end else l.end) (l.outbox ++ (if b then DownAck l.end.received ∷ [] else []))) a
        cases true = pair-link_pays
        cases false = pair-streams a.up a.down (l.outbox ++ []) refl (ap (λ o. downs (a.down ++ o)) (append-nil l.outbox))

    -- a site sends a ping
    pub pair-asked : (k : ℕ) → Paired O most i first past rest held mine l (pinged O k a)
    pair-asked k = pair-streams (a.up ++ UpPing k ∷ []) a.down l.outbox (ups-append a.up (UpPing k ∷ []) ∙ append-nil (ups a.up)) refl

    -- an ack or a ping that the star takes, an ack or a pong that the site receives
    pub pair-up_acked : (n : ℕ) (rising : List (Up O.Op)) → a.up ≡ UpAck n ∷ rising
        → Paired O most i first past rest held mine (link_acked n l) (site_with a a.site.end rising a.down)
    pair-up_acked n rising e =
        let step = subst (λ r. InStepAt O.t 0 h.from h.site_ahead h.star_ahead a.site.board held a.site.end l.end (ups r) (downs (a.down ++ l.outbox))) e h.in_step in
        let taken = link_laws.server_counts O.t L.lawful step in
        pair-link a.site.end (after_count l.end n) rising a.down l.outbox h.site_side h.link_side
        taken.1
        (sym (ap (λ r. edits_sent O (ups r)) e)) refl (omega arith) refl
        (link_laws.generated-after_count O.t l.end n taken.0)

    -- the star answers a ping
    pub pair-up_asked : (k : ℕ) (rising : List (Up O.Op)) → a.up ≡ UpPing k ∷ rising
        → Paired O most i first past rest held mine (link_ponged k l) (site_with a a.site.end rising a.down)
    pair-up_asked k rising e = pair-streams rising a.down (l.outbox ++ DownPong k ∷ []) (sym (ap ups e)) (stream (DownPong k) ∙ append-nil (downs (a.down ++ l.outbox)))

    -- a site receives an acknowledgement
    pub pair-down_acked : (n : ℕ) (falling outbox : List (Down O.Op)) → downs (a.down ++ l.outbox) ≡ Ack n ∷ downs (falling ++ outbox)
        → Paired O most i first past rest held mine (link_with l l.end outbox) (site_with a (after_count a.site.end n) a.up falling)
    pair-down_acked n falling outbox e =
        let step = subst (λ r. InStepAt O.t 0 h.from h.site_ahead h.star_ahead a.site.board held a.site.end l.end (ups a.up) r) e h.in_step in
        let taken = link_laws.client_counts O.t L.lawful step in
        pair-link (after_count a.site.end n) l.end a.up falling outbox h.site_side h.link_side
        taken.1
        refl (sym (ap (edits_sent O) e)) (link_laws.length-after_count O.t a.site.end n) refl refl

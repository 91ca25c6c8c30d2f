-- An honest site of a hub is a site beside a star that anyone calls.
use Rattle.std.proofs.Common.{◌≡◌, ℕ, ◌+◌, ◌≤◌, ◌⊎◌, Bool, true, false, cond, List, [], ◌∷◌, ◌++◌, take, drop, length, nat_eq, refl, ap, sym, ◌∙◌, subst, Option, Some, None, option_to_list, Ok, arith, append-nil, append_assoc, eqb-true, length-append, drop_of_length-le, le_refl, inl, inr}
use Rattle.jup_honest.specs.Prelude as honest
use Rattle.jup_star.specs.Stars.{take_fault, BoardLink, join_result, after_join, after_take, after_fetch, after_leave, fetch_result, reply_of, star_after}
use Rattle.jup_star.specs.Sites as star_sites
use Rattle.jup_site.specs.Sound.{edits_sent}
use Rattle.jup_site.specs.Sites.{with_fetched}
use Rattle.jup_site.proofs.Known.{edits_sent-append}
use Rattle.jup_honest.specs.Sites as sites
use Rattle.jup_honest.proofs.Steps as steps
use Rattle.jup_site.specs.Moments as moments
use Rattle.jup_site.proofs.Beside as beside_star
use Rattle.jup_site.specs.Prelude.{Link, owes, end_after, link_of, join_fault, joined, up_fault, most_batches, BoardStar, joining, opened_link, link_fetched, fetched, edit_answer, deliver_fault, sent_back, ups-append}

-- # Lists

-- a beginning is no longer
pub begins-le : {A : Type 0} → (xs ys : List A) → sites.Begins xs ys → length ys ≤ length xs
begins-le xs ys b = omega (arith, ap length b.1, length-append ys b.0)

-- what is left once a beginning is gone
pub left_of : {A : Type 0} → (xs ys rest : List A) → xs ≡ ys ++ rest → drop (length ys) xs ≡ rest
left_of xs ys rest e = ap (drop (length ys)) e ∙ Rattle.std.proofs.Math.Seq.drop-append_seam ys rest

-- of a list that is drained nothing
pub none_left : {A : Type 0} → (xs ys : List A) → ys ≡ xs → drop (length ys) xs ≡ []
none_left xs ys e = ap (λ zs. drop (length zs) xs) e ∙ drop_of_length-le xs (le_refl _)

-- and more at the end
pub left_more : {A : Type 0} → (xs ys zs : List A) → sites.Begins xs ys → drop (length ys) (xs ++ zs) ≡ drop (length ys) xs ++ zs
left_more xs ys zs b = Rattle.std.proofs.lemmas.List.drop-append-le (length ys) xs zs (begins-le xs ys b)

-- the next element
pub next_left : {A : Type 0} → (xs ys : List A) (z : A) → (b : sites.Begins xs (ys ++ z ∷ [])) → xs ≡ ys ++ z ∷ b.0
next_left xs ys z b = b.1 ∙ append_assoc ys (z ∷ []) b.0

pub edits_among-end : (ds : List (honest.Down honest.BoardBatch)) (d : honest.Down honest.BoardBatch) → sites.edits_among (ds ++ d ∷ []) ≡ sites.edits_among ds + honest.brings d
edits_among-end [] (honest.DownOp m) = omega arith
edits_among-end [] (honest.DownAck n) = refl
edits_among-end [] (honest.DownPong k) = refl
edits_among-end (honest.DownOp m ∷ ds) d = omega (arith, edits_among-end ds d)
edits_among-end (honest.DownAck n ∷ ds) d = edits_among-end ds d
edits_among-end (honest.DownPong k ∷ ds) d = edits_among-end ds d

-- the edits of messages, and more messages
made-more : (us vs : List (honest.Up honest.BoardBatch)) → edits_sent honest.board_batches (honest.ups (us ++ vs)) ≡ edits_sent honest.board_batches (honest.ups us) ++ edits_sent honest.board_batches (honest.ups vs)
made-more us vs = ap (edits_sent honest.board_batches) (ups-append us vs) ∙ edits_sent-append honest.board_batches honest.batch_laws (honest.ups us) (honest.ups vs)

-- # A connection at one moment

-- as a moment of the site, with the link and with what of the site's messages is on its way by it
abbrev pub moment : sites.Connection → BoardLink → List (honest.Up honest.BoardBatch) → moments.Moment honest.board_batches
moment a l us = record { star = a.star; link = l; mine = sites.made a; shown = sites.edits_among a.handed; at = record { site = a.site; up = us; down = drop (length a.handed) a.fetched } }

-- if the star has the link, these messages were sent and not brought yet
abbrev Rises : sites.Connection → List (honest.Up honest.BoardBatch) → Type 0
Rises a us = (l : BoardLink) → link_of a.number a.star.links ≡ Some l → drop (length a.taken) a.sent ≡ us

module _ (board : honest.Windows) where
  abbrev pub Beside : sites.Connection → BoardLink → List (honest.Up honest.BoardBatch) → Type 0
  Beside a l us = moments.IsBeside honest.board_batches most_batches (honest.content board) a.since a.number (moment a l us)

  -- the site is beside the star
  pub record Stands (a : sites.Connection) : Type 0 where
    pub link : BoardLink
    pub up : List (honest.Up honest.BoardBatch)
    pub beside : Beside a link up
    pub rises : Rises a up

  -- a connection and a later one: one move, or none
  pub record Goes (a : sites.Connection) (h : Stands a) (b : sites.Connection) : Type 0 where
    pub link : BoardLink
    pub up : List (honest.Up honest.BoardBatch)
    pub next : moments.Moment honest.board_batches
    pub is : next ≡ moment b link up
    pub move : moments.Moves honest.board_batches a.number (moment a h.link h.up) next ⊎ (moment a h.link h.up ≡ next)
    pub rises : Rises b up

  unfoldable pub goes-stands : (a b : sites.Connection) (h : Stands a) → b.number ≡ a.number → b.since ≡ a.since → Goes a h b → Stands b
  goes-stands a b h number since g = record {
    link = g.link;
    up = g.up;
    beside = rw (number, since) (subst (moments.IsBeside honest.board_batches most_batches (honest.content board) a.since a.number) g.is (elim g.move [
      | inl move ↦ beside_star.moves-beside honest.board_batches honest.batch_laws most_batches (honest.content board) a.since a.number (moment a h.link h.up) g.next move h.beside
      | inr same ↦ subst (moments.IsBeside honest.board_batches most_batches (honest.content board) a.since a.number) same h.beside
    ]));
    rises = g.rises;
  }

  -- the link, if the star has one
  pub linked : (a : sites.Connection) (h : Stands a) (l : BoardLink) → link_of a.number a.star.links ≡ Some l → link_of a.number a.star.links ≡ Some h.link
  linked a h l fl = beside_star.linked-by honest.board_batches honest.batch_laws most_batches (honest.content board) a.since a.number (moment a h.link h.up) h.beside l fl

  module _ (a : sites.Connection) (h : Stands a) (f : sites.IsReliable a) where
    abbrev m : moments.Moment honest.board_batches
    m = moment a h.link h.up

    -- nothing changes
    same_goes : Goes a h a
    same_goes = record { link = h.link; up = h.up; next = m; is = refl; move = inr refl; rises = h.rises }

    -- the star alone changes, and the site's end of what it sent
    star_goes : (n : moments.Moment honest.board_batches) → moments.Moves honest.board_batches a.number m n → n ≡ moment (record a { star = n.star }) n.link h.up → Goes a h (record a { star = n.star })
    star_goes n move is = record {
      link = n.link;
      up = h.up;
      next = n;
      is = is;
      move = inl move;
      rises = λ l fl. h.rises h.link (beside_star.linked-before honest.board_batches honest.batch_laws most_batches (honest.content board) a.since a.number m n move h.beside l fl);
    }

    -- # The site's steps

    -- it sends more
    sends : (site : _) (us : List (honest.Up honest.BoardBatch)) (n : moments.Moment honest.board_batches) → moments.Moves honest.board_batches a.number m n → n ≡ moment (record a { site = site; sent = a.sent ++ us }) h.link (h.up ++ us) → Goes a h (record a { site = site; sent = a.sent ++ us })
    sends site us n move is = record { link = h.link; up = h.up ++ us; next = n; is = is; move = inl move; rises = λ l fl. left_more a.sent a.taken us f.up ∙ ap (λ vs. vs ++ us) (h.rises l fl) }

    edit_goes : (commands : honest.Commands) → Goes a h (sites.after (sites.Edit commands) a)
    edit_goes commands =
        honest.result_cases (edit_answer honest.board_batches commands a.site)
        (λ r. Goes a h (record a { site = star_sites.after_edit a.site r; sent = a.sent ++ sites.sent_as_made (star_sites.made_result a.site r) }))
        (λ op ok. let more = made-more a.sent (honest.UpOp (honest.next_message a.site.end op) ∷ []) in sends _ (honest.UpOp (honest.next_message a.site.end op) ∷ []) _ (moments.Edits commands op ok) (cc))
        (λ n e. subst (λ us. Goes a h (record a { sent = us })) (sym (append-nil a.sent)) same_goes)

    ping_goes : (k : ℕ) → Goes a h (sites.after (sites.Ping k) a)
    ping_goes k = let more = made-more a.sent (honest.UpPing k ∷ []) ∙ append-nil (sites.made a) in sends a.site (honest.UpPing k ∷ []) _ (moments.Asks k) (cc)

    -- the next message to it is accepted
    pub next-accepted : (d : honest.Down honest.BoardBatch) (rest : List (honest.Down honest.BoardBatch)) → a.fetched ≡ a.handed ++ d ∷ rest → deliver_fault honest.board_batches d a.site ≡ None
    next-accepted d rest e = beside_star.beside-accepts honest.board_batches honest.batch_laws most_batches (honest.content board) a.since a.number m h.beside d rest (left_of a.fetched a.handed (d ∷ rest) e)

    hand_goes : (d : honest.Down honest.BoardBatch) → sites.IsReliable (sites.after (sites.Deliver d) a) → Goes a h (sites.after (sites.Deliver d) a)
    hand_goes d g =
        subst (λ o. Goes a h (record a { site = star_sites.after_fault honest.board_batches d a.site o; sent = a.sent ++ sites.sent_as_handed (star_sites.deliver_result d a.site o); handed = a.handed ++ d ∷ [] }))
        (sym (next-accepted d g.down.0 next)) (record {
          link = h.link;
          up = h.up ++ option_to_list (sent_back honest.board_batches d a.site);
          next = _;
          is = let more = made-more a.sent (option_to_list (sent_back honest.board_batches d a.site)) ∙ ap (λ es. sites.made a ++ es) (no_edit d) ∙ append-nil (sites.made a) in
              let among = edits_among-end a.handed d in
              let rest = left_of a.fetched (a.handed ++ d ∷ []) g.down.0 g.down.1 in cc;
          move = inl (moments.Hands d g.down.0 (left_of a.fetched a.handed (d ∷ g.down.0) next));
          rises = λ l fl. left_more a.sent a.taken (option_to_list (sent_back honest.board_batches d a.site)) f.up ∙ ap (λ vs. vs ++ option_to_list (sent_back honest.board_batches d a.site)) (h.rises l fl);
        })
      where
        next : a.fetched ≡ a.handed ++ d ∷ g.down.0
        next = next_left a.fetched a.handed d g.down

        -- what it sends back makes no edit
        no_edit_owed : (b : Bool) (e : Link honest.BoardBatch) → edits_sent honest.board_batches (honest.ups (option_to_list (cond b (Some (honest.UpAck e.received)) None))) ≡ []
        no_edit_owed true e = refl
        no_edit_owed false e = refl

        no_edit : (d : honest.Down honest.BoardBatch) → edits_sent honest.board_batches (honest.ups (option_to_list (sent_back honest.board_batches d a.site))) ≡ []
        no_edit (honest.DownOp m) = no_edit_owed (owes (end_after honest.board_batches a.site.end m).unanswered) (end_after honest.board_batches a.site.end m)
        no_edit (honest.DownAck n) = refl
        no_edit (honest.DownPong k) = refl

    -- # Calls

    join_goes : Goes a h (record a { star = after_join a.star (join_fault a.star) })
    join_goes = go (join_fault a.star)
      where
        go : (o : Option honest.StarFault) → Goes a h (record a { star = after_join a.star o })
        go None = star_goes _ moments.Joins refl
        go (Some e) = same_goes

    leave_goes : (j : ℕ) → Goes a h (record a { star = after_leave j a.star (link_of j a.star.links) })
    leave_goes j = go (link_of j a.star.links)
      where
        go : (o : Option BoardLink) → Goes a h (record a { star = after_leave j a.star o })
        go None = same_goes
        go (Some l) = star_goes _ (moments.Leaves j) refl

    fetch_goes : (j max : ℕ) → Goes a h (record a { star = after_fetch j max a.star (link_of j a.star.links); fetched = sites.fetched_with a.number (honest.Fetch j max) (honest.Fetched (fetch_result max (link_of j a.star.links))) a.fetched })
    fetch_goes j max = cases (nat_eq j a.number) refl
      where
        other : nat_eq j a.number ≡ false → (o : Option BoardLink) → Goes a h (record a { star = after_fetch j max a.star o })
        other apart None = same_goes
        other apart (Some l) = star_goes _ (moments.Fetches j max apart) refl

        own : (o : Option BoardLink) → link_of a.number a.star.links ≡ o → Goes a h (record a { star = after_fetch a.number max a.star o; fetched = a.fetched ++ sites.fetched_in (honest.Fetched (fetch_result max o)) })
        own None gone = subst (λ ds. Goes a h (record a { fetched = ds })) (sym (append-nil a.fetched)) same_goes
        own (Some l) fl =
            let fo = linked a h l fl in
            let same : l ≡ h.link = h.beside.is l fl in
            let rest = left_more a.fetched a.handed (take max l.outbox) f.down in record {
              link = link_fetched max h.link;
              up = h.up;
              next = record m { star = fetched a.number max a.star; link = link_fetched max h.link; at = with_fetched honest.board_batches max h.link m.at };
              is = cc;
              move = inl (moments.FetchesOwn max fo);
              rises = λ k fk. h.rises l fl;
            }

        cases : (b : Bool) → nat_eq j a.number ≡ b
            → Goes a h (record a { star = after_fetch j max a.star (link_of j a.star.links); fetched = cond b (a.fetched ++ sites.fetched_in (honest.Fetched (fetch_result max (link_of j a.star.links)))) a.fetched })
        cases false apart = other apart (link_of j a.star.links)
        cases true is =
            subst (λ k. Goes a h (record a { star = after_fetch k max a.star (link_of k a.star.links); fetched = a.fetched ++ sites.fetched_in (honest.Fetched (fetch_result max (link_of k a.star.links))) })) (sym (eqb-true j a.number is))
            (own (link_of a.number a.star.links) refl)

    take_goes : (j : ℕ) (u : honest.Up honest.BoardBatch) → sites.IsReliable (record a { taken = sites.taken_with a.number (honest.Take j u) a.taken })
        → Goes a h (record a { star = after_take j u a.star (link_of j a.star.links) (take_fault honest.board_batches a.star u (link_of j a.star.links)); taken = sites.taken_with a.number (honest.Take j u) a.taken })
    take_goes j u = cases (nat_eq j a.number) refl
      where
        -- of another
        other_at : nat_eq j a.number ≡ false → (l : BoardLink) → link_of j a.star.links ≡ Some l → (o : Option honest.StarFault) → up_fault honest.board_batches a.star l u ≡ o → Goes a h (record a { star = after_take j u a.star (Some l) o })
        other_at apart l fl None none = star_goes _ (moments.Takes j apart l fl u none) refl
        other_at apart l fl (Some fault) is = star_goes _ (moments.Leaves j) refl

        other : nat_eq j a.number ≡ false → (o : Option BoardLink) → link_of j a.star.links ≡ o → Goes a h (record a { star = after_take j u a.star o (take_fault honest.board_batches a.star u o) })
        other apart None gone = same_goes
        other apart (Some l) fl = other_at apart l fl (up_fault honest.board_batches a.star l u) refl

        -- of it
        own_at : beside_star.Linked honest.board_batches honest.batch_laws most_batches (honest.content board) a.since a.number m → (b : sites.Begins a.sent (a.taken ++ u ∷ [])) → (o : Option honest.StarFault) → up_fault honest.board_batches a.star h.link u ≡ o
            → Goes a h (record a { star = after_take a.number u a.star (Some h.link) o; taken = a.taken ++ u ∷ [] })
        own_at fl b None none =
            let waits : h.up ≡ u ∷ b.0 = sym (h.rises h.link fl) ∙ left_of a.sent a.taken (u ∷ b.0) (next_left a.sent a.taken u b) in record {
              link = _;
              up = drop 1 h.up;
              next = _;
              is = refl;
              move = inl (moments.TakesOwn u b.0 waits fl none);
              rises = λ l fk. left_of a.sent (a.taken ++ u ∷ []) b.0 b.1 ∙ sym (ap (drop 1) waits);
            }
        own_at fl b (Some fault) is = record {
          link = h.link;
          up = h.up;
          next = _;
          is = refl;
          move = inl (moments.Leaves a.number);
          rises = λ l fk. (let gone = honest.found-without (λ k. k.site) a.number a.star.links in absurd (cc));
        }

        own : sites.Begins a.sent (a.taken ++ u ∷ []) → (o : Option BoardLink) → link_of a.number a.star.links ≡ o
            → Goes a h (record a { star = after_take a.number u a.star o (take_fault honest.board_batches a.star u o); taken = a.taken ++ u ∷ [] })
        own b None gone = record { link = h.link; up = h.up; next = m; is = refl; move = inr refl; rises = λ l fl. absurd (cc) }
        own b (Some l) fl = subst (λ k. Goes a h (record a { star = after_take a.number u a.star (Some k) (up_fault honest.board_batches a.star k u); taken = a.taken ++ u ∷ [] })) (sym (h.beside.is l fl))
            (own_at (linked a h l fl) b (up_fault honest.board_batches a.star h.link u) refl)

        cases : (b : Bool) → nat_eq j a.number ≡ b → sites.IsReliable (record a { taken = cond b (a.taken ++ u ∷ []) a.taken })
            → Goes a h (record a { star = after_take j u a.star (link_of j a.star.links) (take_fault honest.board_batches a.star u (link_of j a.star.links)); taken = cond b (a.taken ++ u ∷ []) a.taken })
        cases false apart g = other apart (link_of j a.star.links) refl
        cases true is g =
            subst (λ k. Goes a h (record a { star = after_take k u a.star (link_of k a.star.links) (take_fault honest.board_batches a.star u (link_of k a.star.links)); taken = a.taken ++ u ∷ [] })) (sym (eqb-true j a.number is))
            (own g.up (link_of a.number a.star.links) refl)

    -- any call
    called_at : (c : honest.Call) → sites.IsReliable (record a { star = star_after c a.star; taken = sites.taken_with a.number c a.taken; fetched = sites.fetched_with a.number c (reply_of c a.star) a.fetched })
        → Goes a h (record a { star = star_after c a.star; taken = sites.taken_with a.number c a.taken; fetched = sites.fetched_with a.number c (reply_of c a.star) a.fetched })
    unfolding reply_of star_after
    called_at honest.Join g = join_goes
    called_at (honest.Take j u) g = take_goes j u (record { up = g.up; down = g.down })
    called_at (honest.Fetch j max) g = fetch_goes j max
    called_at (honest.Leave j) g = leave_goes j

    pub call-goes : (e : honest.HubEvent) → e.reply ≡ reply_of e.call a.star → sites.IsReliable (sites.after (sites.Called e) a) → Goes a h (sites.after (sites.Called e) a)
    call-goes e legal g =
        subst (λ r. Goes a h (record a { star = star_after e.call a.star; taken = sites.taken_with a.number e.call a.taken; fetched = sites.fetched_with a.number e.call r a.fetched })) (sym legal)
        (called_at e.call
        (subst (λ r. sites.IsReliable (record a { star = star_after e.call a.star; taken = sites.taken_with a.number e.call a.taken; fetched = sites.fetched_with a.number e.call r a.fetched })) legal g))

    -- a step of a legal history
    pub step-goes : (s : sites.Step) (rest : List sites.Step) → honest.IsLegal a.star (sites.history (s ∷ rest)) → sites.IsReliable (sites.after s a) → Goes a h (sites.after s a)
    step-goes (sites.Edit commands) rest legal g = edit_goes commands
    step-goes (sites.Deliver d) rest legal g = hand_goes d g
    step-goes (sites.Ping k) rest legal g = ping_goes k
    step-goes (sites.Called e) rest legal g = call-goes e legal.0 g

  -- what a connection comes to: the site is beside the star, and came there by moves
  pub record Reaches (a : sites.Connection) (h : Stands a) (c : sites.Connection) : Type 0 where
    pub number : c.number ≡ a.number
    pub since : c.since ≡ a.since
    pub stands : Stands c
    pub run : moments.Runs honest.board_batches a.number (moment a h.link h.up) (moment c stands.link stands.up)

  unfoldable pub reach-self : (a : sites.Connection) (h : Stands a) → Reaches a h a
  reach-self a h = record { number = refl; since = refl; stands = h; run = moments.Stays }

  unfoldable pub reach-step : (a b c : sites.Connection) (h : Stands a) (number : b.number ≡ a.number) (since : b.since ≡ a.since) (g : Goes a h b) → Reaches b (goes-stands a b h number since g) c → Reaches a h c
  unfolding goes-stands
  reach-step a b c h number since g r = record {
    number = r.number ∙ number;
    since = r.since ∙ since;
    stands = r.stands;
    run =
        let rest = subst (λ i. moments.Runs honest.board_batches i (moment b g.link g.up) (moment c r.stands.link r.stands.up)) number r.run in
        elim g.move [
          | inl move ↦ moments.Then g.next move (subst (λ n. moments.Runs honest.board_batches a.number n (moment c r.stands.link r.stands.up)) (sym g.is) rest)
          | inr same ↦ subst (λ n. moments.Runs honest.board_batches a.number n (moment c r.stands.link r.stands.up)) (sym (same ∙ g.is)) rest
        ];
  }

  pub same_number : (s : sites.Step) (a : sites.Connection) → (sites.after s a).number ≡ a.number
  same_number (sites.Edit commands) a = refl
  same_number (sites.Deliver d) a = refl
  same_number (sites.Ping k) a = refl
  same_number (sites.Called e) a = refl

  pub same_since : (s : sites.Step) (a : sites.Connection) → (sites.after s a).since ≡ a.since
  same_since (sites.Edit commands) a = refl
  same_since (sites.Deliver d) a = refl
  same_since (sites.Ping k) a = refl
  same_since (sites.Called e) a = refl

  pub legal_rest : (s : sites.Step) (rest : List sites.Step) (a : sites.Connection) → honest.IsLegal a.star (sites.history (s ∷ rest)) → honest.IsLegal (sites.after s a).star (sites.history rest)
  legal_rest (sites.Edit commands) rest a legal = legal
  legal_rest (sites.Deliver d) rest a legal = legal
  legal_rest (sites.Ping k) rest a legal = legal
  legal_rest (sites.Called e) rest a legal = legal.1

  -- at each moment the link was reliable
  pub reliable-first : (ms : List sites.Step) (a : sites.Connection) → sites.IsReliableThrough ms a → sites.IsReliable a
  reliable-first [] a f = f
  reliable-first (m ∷ ms) a f = f.0

  unfoldable pub walk : (ms : List sites.Step) (a : sites.Connection) (h : Stands a) → honest.IsLegal a.star (sites.history ms) → sites.IsReliableThrough ms a → Reaches a h (sites.through ms a)
  walk [] a h legal f = reach-self a h
  walk (s ∷ ms) a h legal f =
      let g = step-goes a h f.0 s ms legal (reliable-first ms (sites.after s a) f.1) in
      reach-step a (sites.after s a) (sites.through ms (sites.after s a)) h (same_number s a) (same_since s a) g
      (walk ms (sites.after s a) (goes-stands a (sites.after s a) h (same_number s a) (same_since s a) g) (legal_rest s ms a legal) f.1)

-- a join that was not refused
pub join_gives : (s : BoardStar) (j : honest.Joined) → honest.JoinedReply (Ok j) ≡ reply_of honest.Join s → (j ≡ joining s) × (star_after honest.Join s ≡ joined s)
unfolding reply_of star_after
join_gives s j is = go (join_fault s) refl is
  where
    go : (o : Option honest.StarFault) → join_fault s ≡ o → honest.JoinedReply (Ok j) ≡ honest.JoinedReply (join_result s o) → (j ≡ joining s) × (after_join s (join_fault s) ≡ joined s)
    go None e f = (cc, ap (λ o. after_join s o) e)
    go (Some x) e f = absurd cc

-- the star before the join of a run
pub before-called : (y : sites.SiteRun) → sites.IsHonest y → moments.IsCalled honest.board_batches most_batches (honest.content y.board) (honest.star_through (sites.opening y) y.before)
before-called y is = steps.called-through y.board y.before (sites.opening y) (steps.called-opened y.keeps y.board y.limit is.opens is.limited)

-- as the site joins
pub start-stands : (y : sites.SiteRun) → sites.IsHonest y → Stands y.board (sites.start y)
start-stands y is =
    let s : BoardStar = honest.star_through (sites.opening y) y.before in
    let parts = steps.legal-parts (sites.opening y) y.before _ is.legal in
    let gives = join_gives s y.answer parts.1.0 in
    subst (λ j. Stands y.board (sites.new_connection s j)) (sym gives.0)
    (subst (λ t. Stands y.board (record (sites.new_connection s (joining s)) { star = t })) (sym gives.1)
    (record { link = opened_link (s.given + 1); up = []; beside = beside_star.beside-new honest.board_batches honest.batch_laws most_batches (honest.content y.board) s (before-called y is); rises = λ l fl. refl }))

-- and at every later moment
pub run-legal : (y : sites.SiteRun) → sites.IsHonest y → honest.IsLegal (sites.start y).star (sites.history y.steps)
run-legal y is = (steps.legal-parts (sites.opening y) y.before _ is.legal).1.1

pub run-reaches : (y : sites.SiteRun) (is : sites.IsHonest y) → Reaches y.board (sites.start y) (start-stands y is) (sites.now y)
run-reaches y is = walk y.board y.steps (sites.start y) (start-stands y is) (run-legal y is) is.reliable

pub run-stands : (y : sites.SiteRun) → sites.IsHonest y → Stands y.board (sites.now y)
run-stands y is = (run-reaches y is).stands

-- The links of all other sites.
use Rattle.std.proofs.Common.{◌≡◌, refl, ap, List, [], ◌∷◌, ◌++◌, ℕ, ◌+◌, ◌-◌, ◌≤◌, sym, ◌∙◌, subst, arith, append_assoc, ◌≢◌, Bool, true, false, cond, length, map, nat_eq, Option, Some, None, option_map, ne_eqb, MatchBool, Result, IsSomeAnd}
use Rattle.jup_star.specs.Prelude.{highest_limit, most_unacknowledged, Msg, Ack, sent, Message, generated, after_send, next_message, operation_count, AllMessages, InStep, Operations, AreLawful, BoardBatch, board_batches, batch_laws as board_laws, Up, Op as UpOp, UpAck, UpPing, Down, DownOp, DownAck, DownPong, StarFault, Take}
use Rattle.jup_link.specs.Links.{message, MessagesApart}
use Rattle.jup_link.specs.Laws.InStep.{MessagesApart-from}
use Rattle.jup_link.specs.Laws.Steps as steps
use Rattle.jup_star.specs.declared.calls.StarReply.{StarReply}
use Rattle.jup_star.specs.declared.calls.StarReply.TheVariants.{Taken}
use Rattle.jup_star.specs.Messages.{ups, downs}
use Rattle.jup_star.specs.Stars.{LinkState, link_sent, most_batches, FarEnd, InsertsUnder, SendsAsSite, IsInStepWith, is_of, link_heard, link_acked, link_ponged, operation_at, link_of, at_link, IsBounded, AreBounded, left, with_links, taken, taken_edit, up_fault, take_fault, BoardLink, BoardStar, Answers, after_take, reply_of, star_after, is_refused, IsStar, OthersStayInStep}
use Rattle.jup_star.proofs.LinkChanges.{found-map_other, found-without_other}
use Rattle.jup_star.proofs.FaultTests.{link_site, taken_site, taken_valid}

-- Streams that are joined.

pub ups-append : {Op : Type 0} → (us vs : List (Up Op)) → ups (us ++ vs) ≡ ups us ++ ups vs
ups-append [] vs = refl
ups-append (UpOp m ∷ us) vs = ap (λ s. sent m ∷ s) (ups-append us vs)
ups-append (UpAck n ∷ us) vs = ap (λ s. Ack n ∷ s) (ups-append us vs)
ups-append (UpPing k ∷ us) vs = ups-append us vs

pub downs-append : {Op : Type 0} → (ds es : List (Down Op)) → downs (ds ++ es) ≡ downs ds ++ downs es
downs-append [] es = refl
downs-append (DownOp m ∷ ds) es = ap (λ s. sent m ∷ s) (downs-append ds es)
downs-append (DownAck n ∷ ds) es = ap (λ s. Ack n ∷ s) (downs-append ds es)
downs-append (DownPong k ∷ ds) es = downs-append ds es

-- Whatever a site sends, the links of all others stay in step with their far ends.

module _ (O : Operations) (L : AreLawful O) where
  -- operations that insert under another site are apart from it
  others_apart : (i j : ℕ) (op : O.Op) (up : List (Message O.Op)) → (j ≡ i → ⊥) → InsertsUnder O i op → AllMessages (InsertsUnder O j) up → MessagesApart O.t up op
  others_apart i j op up other own all =
      MessagesApart-from O.t (InsertsUnder O j) up op (λ o under. L.apart_from_sites o op (λ m n x y same. other (sym (under m x) ∙ same ∙ own n y))) all

  -- an operation of another site was sent by a link: its far end is in step with it, as it was before
  pub sent_in_step : (i j count : ℕ) (board : O.State) (l : LinkState O.Op) (far : FarEnd O) (op : O.Op) → (j ≡ i → ⊥) → InsertsUnder O i op
      → O.t.is_valid op board → O.t.is_small (most_batches - count) board → count ≤ highest_limit → generated l.end ≤ count
      → SendsAsSite O j far → IsInStepWith O far l board → IsInStepWith O far (link_sent op l) (O.t.after op board)
  sent_in_step i j count board l far op other own valid small low sent sends in_step =
      let up : List (Message O.Op) = ups far.up in
      let down : List (Message O.Op) = downs (far.down ++ l.outbox) in
      let few : operation_count up ≤ most_unacknowledged = sends.few in
      let all_sent : generated l.end ≡ far.end.received + operation_count down =
      steps.InStep-server_generated O.t L.lawful 0 far.board board far.end l.end up down in_step in
      let room : O.t.is_small (1 + (operation_count up + operation_count down) + operation_count down) board =
      steps.small_le O.t L.lawful _ (most_batches - count) board (omega (arith, few, all_sent)) small in
      let next : InStep O.t 0 far.board (O.t.after op board) far.end (after_send l.end op) up (down ++ message l.end op ∷ []) =
      steps.InStep-server_edit O.t L.lawful 0 far.board board far.end l.end up down op
      (steps.InStep-room O.t L.lawful 0 1 far.board board far.end l.end up down in_step room) valid (others_apart i j op up other own sends.own) (omega arith) in
      let stream : downs (far.down ++ (l.outbox ++ DownOp (next_message l.end op) ∷ [])) ≡ down ++ message l.end op ∷ [] =
      ap downs (sym (append_assoc far.down l.outbox (DownOp (next_message l.end op) ∷ []))) ∙ downs-append (far.down ++ l.outbox) (DownOp (next_message l.end op) ∷ []) in
      subst (λ ms. InStep O.t 0 far.board (O.t.after op board) far.end (after_send l.end op) up ms) (sym stream) next

-- A take keeps the links of all other sites in step.

-- the link of a site is within the bounds of all
bounded_found : (a n i : ℕ) (ls : List BoardLink) (l : BoardLink) → link_of i ls ≡ Some l → AreBounded a n ls → IsBounded a n l
bounded_found a n i [] l found all = absurd (cc)
bounded_found a n i (k ∷ ls) l found all = step (is_of i k) (bounded_found a n i ls l) found
  where
    step : (b : Bool) → (link_of i ls ≡ Some l → AreBounded a n ls → IsBounded a n l) → cond b (Some k) (link_of i ls) ≡ Some l → IsBounded a n l
    step true rest h = let same : k ≡ l = cc in subst (IsBounded a n) same all.0
    step false rest h = rest h all.1

-- another site's link and its far end, as they were before the call
module _ (i : ℕ) (s : BoardStar) (star : IsStar s) (other : ℕ) (far : FarEnd board_batches) (differs : other ≢ i)
    (sends : SendsAsSite board_batches other far) (l : BoardLink) (found : link_of other s.links ≡ Some l)
    (in_step : IsInStepWith board_batches far l s.board) where
  -- that far end is in step with the link of a star
  abbrev IsThere : BoardStar → Type 0
  IsThere t = IsSomeAnd (link_of other t.links) (λ k. IsInStepWith board_batches far k t.board)

  there : (t : BoardStar) (k : BoardLink) → link_of other t.links ≡ Some k → IsInStepWith board_batches far k t.board → IsThere t
  there t k is holds = subst (λ (o : Option BoardLink). IsSomeAnd o (λ x. IsInStepWith board_batches far x t.board)) (sym is) holds

  not_same : nat_eq i other ≡ false
  not_same = ne_eqb i other (λ same. differs (sym same))

  -- the site's link is changed by f, and all others by g
  changed : (f g : BoardLink → BoardLink) → ((k : BoardLink) → (f k).site ≡ k.site) → ((k : BoardLink) → (g k).site ≡ k.site)
      → link_of other (map (λ k. cond (is_of i k) (f k) (g k)) s.links) ≡ Some (g l)
  changed f g f_site g_site = found-map_other (λ (k : BoardLink). k.site) i other f g f_site g_site s.links not_same ∙ ap (option_map g) found

  -- that link is dropped
  left_stays : IsThere (left i s)
  left_stays = there (left i s) l (found-without_other (λ (k : BoardLink). k.site) i other s.links not_same ∙ found) in_step

  -- or it alone is changed
  at_stays : (f : BoardLink → BoardLink) → ((k : BoardLink) → (f k).site ≡ k.site) → IsThere (with_links s (at_link i f s.links))
  at_stays f f_site = there (with_links s (at_link i f s.links)) l (changed f (λ k. k) f_site (λ k. refl)) in_step

  -- or it heard an edit
  edit_stays : (m : Msg BoardBatch) (own : BoardLink) → link_of i s.links ≡ Some own → up_fault board_batches s own (UpOp m) ≡ None
      → IsThere (taken_edit board_batches i m (operation_at board_batches own.end m) s)
  edit_stays m own of_site none =
      let op : BoardBatch = operation_at board_batches own.end m in
      let site : own.site ≡ i = link_site i own s.links of_site in
      there (taken_edit board_batches i m op s) (link_sent op l) (changed (link_heard board_batches m) (link_sent op) (λ k. refl) (λ k. refl))
      (sent_in_step board_batches board_laws i other (length s.order) s.board l far op differs
      (λ n put. taken_site board_batches board_laws s own m n none put ∙ site) (taken_valid board_batches board_laws s own m none)
      star.short short_order (bounded_found s.given (length s.order) other s.links l found star.bounded).sent sends in_step)
    where
      short_order : length s.order ≤ highest_limit
      short_order = let counted = star.counted in let limited = star.limited in omega arith

  taken_stays : (up : Up BoardBatch) (own : BoardLink) → link_of i s.links ≡ Some own → up_fault board_batches s own up ≡ None
      → IsThere (taken board_batches i up own s)
  taken_stays (UpOp m) own of_site none = edit_stays m own of_site none
  taken_stays (UpAck n) own of_site none = at_stays (link_acked n) (λ k. refl)
  taken_stays (UpPing n) own of_site none = at_stays (link_ponged n) (λ k. refl)

  -- whatever was taken or refused
  after_stays : (up : Up BoardBatch) (o : Option BoardLink) (e : Option StarFault) → link_of i s.links ≡ o → take_fault board_batches s up o ≡ e
      → IsThere (after_take i up s o e)
  after_stays up None e of_site fault = there s l found in_step
  after_stays up (Some own) None of_site fault = taken_stays up own of_site fault
  after_stays up (Some own) (Some e) of_site fault = left_stays

  answer_stays : (up : Up BoardBatch) (t : BoardStar) (r : StarReply) (b : Bool) (asks : Type 0)
      → MatchBool b ((t ≡ s) × asks) ((r ≡ reply_of (Take i up) s) × (t ≡ star_after (Take i up) s)) → IsThere t
  unfolding star_after
  answer_stays up t r true asks answers = subst IsThere (sym answers.0) (there s l found in_step)
  answer_stays up t r false asks answers = subst IsThere (sym answers.1) (after_stays up (link_of i s.links) _ refl refl)

-- a take, whatever it answers
pub take_keeps_others : (i : ℕ) (up : Up BoardBatch) (s t : BoardStar) (r : Result (Option ℕ) StarFault) → IsStar s
    → Answers (Take i up) s t (Taken r) → OthersStayInStep s t i
unfolding OthersStayInStep
take_keeps_others i up s t r star answers = λ other far differs sends l found in_step.
    answer_stays i s star other far differs sends l found in_step up t (Taken r) (is_refused (Taken r)) _ answers

use Rattle.jup_star.specs.Prelude.{NoMemory, board_batches, accepts, BoardBatch, Op, Msg, StarFault, Take}
use Rattle.std.proofs.Common.{rules, arith, ◌≡◌, ap, ◌∙◌, sym, map, subst, List, length, Option, Some, None, Ok, Err, true}
use Rattle.std.proofs.lemmas.Option.{same_Some}
use Rattle.jup_batch.specs.Boards as board
use Rattle.jup_star.specs.Stars.{CanHear, operation_at, early_fault, link_of, without, with_links, links_after, BoardLink, BoardStar, IsStar, IsPlace, Answers, bare_link, AllCount, entry}
use Rattle.jup_star.specs.Orders.{with_entry}
use Rattle.jup_star.specs.declared.calls.StarReply.TheVariants.{Taken}
use Rattle.jup_star.specs.contracts.star.Star.{the_view}
use Rattle.jup_star.proofs.LinkChanges.{detached, found_new, found_some}
use Rattle.jup_star.proofs.Stars as stars
use Rattle.jup_star.proofs.star.Star.take_edit.Goals as goal
use Rattle.jup_star.proofs.star.Star.take_edit.Goals.{After-index, After-check, After-carry_out}

pub returns-in_default : goal.returns-in_default
returns-in_default c =
    let new = rw c.deref.ensures.value at c.in_default.ensures.place in
    rw (← c.self.view_is) (stars.take_no_link c.args.site (Op c.args.msg.now) (the_view c.self.inside) (found_new _ _ new))

-- the link that the message came over, at its place
place : (c : After-index) → IsPlace c.args.site (map bare_link c.self.inside.links.items) c.in-Some.at
place c = rw c.deref.ensures.value at c.in-Some.ensures.place

link : (c : After-index) → (l : BoardLink) × (link_of c.args.site (map bare_link c.self.inside.links.items) ≡ Some l)
link c = found_some c.args.site (map bare_link c.self.inside.links.items) c.in-Some.at (place c)

-- what is wrong with the message before memory is asked for
module _ (c : After-check) where
  abbrev over : (l : BoardLink) × (link_of c.args.site (map bare_link c.self.inside.links.items) ≡ Some l)
  over = link (goal.at.After-check c).After-index

  judged : (fault : Option StarFault) → fault ≡ early_fault board_batches c.self.inside.limit c.len-place.result (bare_link c.index.result.now) c.args.msg.now
      → fault ≡ early_fault board_batches c.self.inside.limit (length c.self.inside.order.state.entries) over.0 c.args.msg.now
  judged fault check =
      stars.checked c.args.site c.in-Some.at c.self.inside.limit c.len-place.result (length c.self.inside.order.state.entries) c.self.inside.links.items c.index.result.now over.0
      c.args.msg.now fault (place (goal.at.After-check c).After-index) c.index.ensures c.len-place.ensures over.1 check

pub check-requires : goal.check-requires
check-requires c =
    let star = c.self.invariant in
    let counted = star.counted in let limited = star.limited in
    record {
      named = stars.named_few c.self.inside.given (length c.self.inside.order.state.entries) c.args.site c.in-Some.at c.self.inside.links.items c.index.result.now (omega (arith, counted, limited)) star.bounded
          (place (goal.at.check-requires c).After-index) c.index.ensures;
    }

pub invariant_of-self : goal.invariant_of-self
invariant_of-self c =
    let P : List BoardLink → Type 0 = λ ls. IsStar (with_links (the_view c.self.inside) ls) in
    subst P (sym (ap (map bare_link) c.detach.ensures ∙ detached c.args.site _)) (stars.left_star c.args.site (the_view c.self.inside) c.self.invariant)

pub returns-in-Err : goal.returns-in-Err
returns-in-Err c =
    let k = (goal.at.returns-in-Err c).After-check in
    rw (← c.self.view_is) (stars.edit_detached (the_view c.self.inside) c.args.site c.args.msg.now (over k).0 c.in-Err.fault _ (over k).1 (judged k (Some c.in-Err.fault) c.in-Err.ensures)
    (ap (map bare_link) c.detach.ensures ∙ detached c.args.site _))

pub invariant_of-self-in_err-prepared : goal.invariant_of-self-in_err-prepared
invariant_of-self-in_err-prepared c =
    stars.waits_star (the_view c.self.inside) _ _ _ c.self.invariant c.reserve_edit.ensures.board c.reserve_edit.ensures.links c.reserve_edit.ensures.order

pub returns-in_err-prepared : goal.returns-in_err-prepared
returns-in_err-prepared c =
    let k = (goal.at.returns-in_err-prepared c).After-check in
    let is : c.from_residual.result ≡ Err NoMemory = search rules in
    rw (← c.self.view_is, is) (stars.edit_waits (the_view c.self.inside) c.args.site c.args.msg.now (over k).0 _ _ _ (over k).1 (judged k None c.in-Ok.ensures)
    c.in_err-prepared.ensures.board c.in_err-prepared.ensures.links c.in_err-prepared.ensures.order)

pub carry_out-requires-clause-heard : goal.carry_out-requires-clause-heard
carry_out-requires-clause-heard c = λ l there.
    let k = (goal.at.carry_out-requires-clause-heard c).After-check in
    let found : link_of c.args.site (map bare_link c.self.inside.links.items) ≡ Some l = ap (link_of c.args.site) (sym c.in_ok-prepared.ensures.links) ∙ there in
    let same : (over k).0 ≡ l = same_Some (over k).0 l (sym (over k).1 ∙ found) in
    let early = judged k None c.in-Ok.ensures ∙ ap (λ x. early_fault board_batches c.self.inside.limit (length c.self.inside.order.state.entries) x c.args.msg.now) same in
    subst (λ m. CanHear m l) (sym c.in_ok-prepared.ensures.msg)
    (stars.heard_by (the_view c.self.inside) c.args.site c.in-Some.at c.args.msg.now l c.self.invariant (place (goal.at.carry_out-requires-clause-heard c).After-index) found early)

pub carry_out-requires-clause-counted : goal.carry_out-requires-clause-counted
carry_out-requires-clause-counted c = subst AllCount (sym c.in_ok-prepared.ensures.links) (stars.all_count (the_view c.self.inside) c.self.invariant)

-- the message and its operation, for the board and the links that `carry_out` is given
module _ (c : After-carry_out) where
  abbrev msg : Msg BoardBatch
  msg = c.in_ok-prepared.prepared.msg

  abbrev by : (l : BoardLink) × (link_of c.args.site (map bare_link c.self.inside.links.items) ≡ Some l)
  by = over (goal.at.After-carry_out c).After-check

  abbrev op : BoardBatch
  op = operation_at board_batches by.0.end msg

  told : msg ≡ c.args.msg.now
  told = c.in_ok-prepared.ensures.msg

  early : None ≡ early_fault board_batches c.self.inside.limit (length c.self.inside.order.state.entries) by.0 msg
  early = judged (goal.at.After-carry_out c).After-check None c.in-Ok.ensures ∙ ap (λ x. early_fault board_batches c.self.inside.limit (length c.self.inside.order.state.entries) by.0 x) (sym told)

  there : link_of c.args.site (map bare_link c.reserve_edit.new.links.items) ≡ Some by.0
  there = ap (link_of c.args.site) c.in_ok-prepared.ensures.links ∙ by.1

  fits : accepts op (the_view c.self.inside).board ≡ c.carry_out.result
  fits = ap (accepts op) (sym c.in_ok-prepared.ensures.board) ∙ sym (c.carry_out.ensures.fits by.0 there)

  abbrev reached : BoardStar
  reached = stars.star_with (the_view c.self.inside) (board.bare c.carry_out.new.board) (map bare_link c.carry_out.new.links.items) c.carry_out.new.order.state

  taken : c.carry_out.result ≡ true → IsStar reached × Answers (Take c.args.site (Op c.args.msg.now)) (the_view c.self.inside) reached (Taken (Ok (Some (length c.self.inside.order.state.entries))))
  taken well =
      let board_is = c.carry_out.ensures.board well by.0 there ∙ ap (board.after op) c.in_ok-prepared.ensures.board in
      let links_are = c.carry_out.ensures.links well by.0 there ∙ ap (links_after board_batches c.args.site msg op) c.in_ok-prepared.ensures.links in
      let order_is =
      c.carry_out.ensures.order well ∙ ap (with_entry (entry board_batches c.args.site msg)) c.in_ok-prepared.ensures.order in (
        stars.edit_star (the_view c.self.inside) c.args.site c.in-Some.at msg by.0 _ _ _ c.self.invariant (place (goal.at.After-carry_out c).After-index) by.1 early (fits ∙ well) board_is links_are order_is,
        stars.edit_taken (the_view c.self.inside) c.args.site msg c.args.msg.now told by.0 _ _ _ by.1 early (fits ∙ well) board_is links_are order_is,
      )

pub invariant_of-self-then-not-carry_out : goal.invariant_of-self-then-not-carry_out
invariant_of-self-then-not-carry_out c =
    let misfits = c.if-not-carry_out.true in
    stars.misfits_star (the_view c.self.inside) c.args.site _ _ _ c.self.invariant
    (c.carry_out.ensures.same_board misfits ∙ c.in_ok-prepared.ensures.board)
    (ap (map bare_link) c.detach-then-not-carry_out.ensures ∙ detached c.args.site _ ∙ c.carry_out.ensures.others misfits ∙ ap (without c.args.site) c.in_ok-prepared.ensures.links)
    (c.carry_out.ensures.same_order misfits ∙ c.in_ok-prepared.ensures.order)

pub returns-then-not-carry_out : goal.returns-then-not-carry_out
returns-then-not-carry_out c =
    let misfits = c.if-not-carry_out.true in
    let k = (goal.at.returns-then-not-carry_out c).After-carry_out in
    rw (← c.self.view_is) (stars.edit_misfits (the_view c.self.inside) c.args.site (msg k) c.args.msg.now (told k) (by k).0 _ _ _ (by k).1 (early k) (fits k ∙ misfits)
    (c.carry_out.ensures.same_board misfits ∙ c.in_ok-prepared.ensures.board)
    (ap (map bare_link) c.detach-then-not-carry_out.ensures ∙ detached c.args.site _ ∙ c.carry_out.ensures.others misfits ∙ ap (without c.args.site) c.in_ok-prepared.ensures.links)
    (c.carry_out.ensures.same_order misfits ∙ c.in_ok-prepared.ensures.order))

pub invariant_of-self-else-not-carry_out : goal.invariant_of-self-else-not-carry_out
invariant_of-self-else-not-carry_out c = (taken (goal.at.invariant_of-self-else-not-carry_out c).After-carry_out c.if-not-carry_out.false).0

pub returns : goal.returns
returns c =
    let call = (taken (goal.at.returns c).After-carry_out c.if-not-carry_out.false).1 in
    rw (← c.self.view_is) (ap (λ n. Taken (Ok (Some n))) c.len-place.ensures ∙ call.0, call.1)

use Rattle.std.proofs.Common.{◌+◌, ◌++◌, ◌∷◌, [], ◌∙◌, List, refl, sym, ap, subst, map, Some, arith}
use Rattle.std.proofs.lemmas.List.{map-append}
use Rattle.jup_lane.specs.Lanes.{Carries, ups, downs}
use Rattle.jup_world.specs.Prelude.{ups_laws, downs_laws, BoardSite}
use Rattle.jup_lane.proofs.Lanes.{carried-new}
use Rattle.jup_world.specs.Lanes.{LaneSite}
use Rattle.jup_world.specs.Insides.{lane_of, bare_attached}
use Rattle.jup_world.specs.Boards.{BoardAttached}
use Rattle.jup_world.proofs.Answers as answers
use Rattle.jup_world.proofs.Happenings as happenings
use Rattle.jup_world.proofs.Lanes.LaneEvents.{none_read_at, end_read}
use Rattle.jup_world.proofs.world.happening.join.Goals as goal

pub returns-in-Err-clause-plays : goal.returns-in-Err-clause-plays
returns-in-Err-clause-plays c =
    let call = answers.join_refused c.args.star.now c.join.new.self c.in-Err.fault c.in_ok-star_refusal-in-Err.ensures.other c.in-Err.ensures in
    happenings.plays_no_join c.args.star.now c.join.new.self _ _ _ (call.0 ∙ ap Some (sym c.in_ok-star_refusal-in-Err.ensures.same)) call.1 (ap (map bare_attached) c.reserve.ensures.items)

pub unwrap-site-requires : goal.unwrap-site-requires
unwrap-site-requires c =
    let ready = c.requires.numbered in
    let call = answers.join_joined c.args.star.now c.join.new.self c.in-Ok.joined c.in-Ok.ensures in
    happenings.site_opens c.open.result c.args.star.now c.in-Ok.joined c.open.ensures.refusal call.1 call.0 ready.positive ready.limited (ready.named (c.args.star.now.given + 1) (omega arith))

pub returns-clause-plays : goal.returns-clause-plays
returns-clause-plays c =
    let call = answers.join_joined c.args.star.now c.join.new.self c.in-Ok.joined c.in-Ok.ensures in
    let items = ap (map bare_attached) c.push_reserved.ensures.items ∙ map-append bare_attached c.reserve.new.self.items (c.new.result ∷ []) in
    let opened = rw c.unwrap-site.ensures at c.open.ensures.opened in
    let site = c.new.ensures.messages ∙ ap (λ (t : BoardSite). happenings.with_nothing t) (opened ∙ happenings.site_is c.args.star.now c.in-Ok.joined call.1) in
    happenings.plays_joined c.args.star.now c.join.new.self _ _ _ call.0 (happenings.number_is c.args.star.now c.in-Ok.joined call.1) call.2
    (items ∙ ap (λ (xs : List BoardAttached). xs ++ bare_attached c.new.result ∷ []) (ap (map bare_attached) c.reserve.ensures.items)
    ∙ ap (λ (a : BoardAttached). map bare_attached c.args.sites.now.items ++ a ∷ []) site)

pub returns-in-Err-clause-read : goal.returns-in-Err-clause-read
returns-in-Err-clause-read c = none_read_at _ c.args.star.now _ _ ((λ j a. refl), (λ j l a. refl)) (ap (map lane_of) c.reserve.ensures.items)

pub returns-clause-read : goal.returns-clause-read
returns-clause-read c =
    let items = ap (map lane_of) c.push_reserved.ensures.items ∙ map-append lane_of c.reserve.new.self.items (c.new.result ∷ []) in
    end_read c.args.star.now _ _ (lane_of c.new.result) (items ∙ ap (λ (xs : List LaneSite). xs ++ lane_of c.new.result ∷ []) (ap (map lane_of) c.reserve.ensures.items))
    (subst (λ (x : LaneSite). Carries ups x.up) (sym c.new.ensures.bytes) (carried-new ups ups_laws).1) (subst (λ (x : LaneSite). Carries downs x.down) (sym c.new.ensures.bytes) (carried-new downs downs_laws).1)

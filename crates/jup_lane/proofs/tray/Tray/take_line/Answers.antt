use Rattle.std.proofs.Common.{◌+◌, ◌++◌, Some, take, sym, ap, subst, ◌∙◌, arith}
use Rattle.jup_lane.specs.Lanes.{tray_bytes, Leads}
use Rattle.jup_lane.proofs.Trays.{no_part, leads_less, feed_found, line_ahead, line_taken}
use Rattle.jup_lane.proofs.tray.Tray.take_line.Goals as goal

pub take_in-requires : goal.take_in-requires
take_in-requires c = leads_less _ c.args.stream.now _ c.requires

pub push_spelled-requires : goal.push_spelled-requires
push_spelled-requires c =
    let here = c.self.inside in
    let stream = c.args.stream.now in
    let at = feed_found (Some c.in-Some.at) stream c.in-Some.ensures.place in
    let none = no_part here.reader.fault here.reader.part (sym c.finish.ensures ∙ c.in-Ok.is) in
    let within = c.in-Some.ensures.within in
    let line = line_ahead here.lines.items here.reader stream c.self.invariant (subst (λ t. Leads (t ++ stream)) (sym c.self.view_is) c.requires) none (omega (arith, at, within)) in
    (line.0, line.1, ap (λ k. take k stream) at ∙ line.2)

pub returns-clause-ok : goal.returns-clause-ok
returns-clause-ok c =
    let here = c.self.inside in
    let stream = c.args.stream.now in
    let at = feed_found (Some c.in-Some.at) stream c.in-Some.ensures.place in
    let none = no_part here.reader.fault here.reader.part (sym c.finish.ensures ∙ c.in-Ok.is) in
    let within = c.in-Some.ensures.within in
    let line = c.in_ok-push_spelled.ensures.ok in
    let taken = line_taken here.lines.items c.push_spelled.new.lines.items line.0 here.reader stream c.self.invariant none (omega (arith, at, within)) line.1 (ap (λ k. take k stream) (sym at) ∙ line.2) line.3 in
    (omega (arith, at, within), omega (arith, at), taken.1 ∙ ap (λ k. tray_bytes here.lines.items here.reader ++ take (k + 1) stream) (sym at) ∙ ap (λ t. t ++ take (c.in-Some.at + 1) stream) c.self.view_is)

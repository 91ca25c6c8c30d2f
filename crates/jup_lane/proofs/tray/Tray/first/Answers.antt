use Rattle.std.proofs.Common.{◌≡◌, Some, None, true, refl, subst, rules}
use Rattle.jup_lane.specs.Lanes.{IsFirstOf, codec}
use Rattle.jup_lane.proofs.Trays.{first_in, edit_in, given_in, codec_laws, first_read}
use Rattle.jup_lane.proofs.tray.Tray.first.Goals as goal

pub returns-then-is_short : goal.returns-then-is_short
returns-then-is_short g c =
    let here = c.self.inside in
    let short : c.is_short.result ≡ true = search rules in
    first_read (codec g.M.Message) (codec_laws g.M.Message) here.lines.items here.reader c.args.self.now None c.self.invariant c.self.view_is
    (first_in g.M.Message here.lines.items None None (c.is_short.ensures short) refl)

pub returns-in-Some : goal.returns-in-Some
returns-in-Some g c =
    let here = c.self.inside in
    first_read (codec g.M.Message) (codec_laws g.M.Message) here.lines.items here.reader c.args.self.now (Some c.edit.result) c.self.invariant c.self.view_is
    (edit_in g.M.Message here.lines.items c.in-Some.msg c.edit.result c.in-Some.ensures c.edit.ensures)

pub returns-in-Some-2 : goal.returns-in-Some-2
returns-in-Some-2 g c =
    let here = c.self.inside in
    first_read (codec g.M.Message) (codec_laws g.M.Message) here.lines.items here.reader c.args.self.now c.ok.result c.self.invariant c.self.view_is
    (given_in g.M.Message here.lines.items c.in-Some-2.gathered c.message_of.result c.ok.result (subst (IsFirstOf here.lines.items) c.in-Some-2.is c.in_ok-gathered.ensures) c.message_of.ensures c.ok.ensures.value)

pub returns-in-None : goal.returns-in-None
returns-in-None g c =
    let here = c.self.inside in
    first_read (codec g.M.Message) (codec_laws g.M.Message) here.lines.items here.reader c.args.self.now None c.self.invariant c.self.view_is
    (first_in g.M.Message here.lines.items None None (subst (IsFirstOf here.lines.items) c.in-None.is c.in_ok-gathered.ensures) refl)

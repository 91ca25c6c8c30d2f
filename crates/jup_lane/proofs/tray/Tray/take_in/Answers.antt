use Rattle.std.proofs.Common.{◌≡◌, ◌++◌, sym, ap, subst, ◌∙◌, rules}
use Rattle.jup_lane.specs.Lanes.{tray_bytes, IsTray, Leads}
use Rattle.jup_lane.proofs.Trays.{taken_in}
use Rattle.jup_lane.proofs.tray.Tray.take_in.Goals as goal

fact : (c : goal.After-drop-lines-2) → IsTray c.append.new.self.items c.feed.new.self × (tray_bytes c.append.new.self.items c.feed.new.self ≡ tray_bytes c.self.inside.lines.items c.self.inside.reader ++ c.args.bytes.now)
fact c = taken_in c.self.inside.lines.items c.in_ok-fed.fed.lines c.append.new.self.items c.self.inside.reader c.copy-reader.result c.feed.new.self c.args.bytes.now c.self.invariant
    (subst (λ t. Leads (t ++ c.args.bytes.now)) (sym c.self.view_is) c.requires) c.copy-reader.ensures c.in_ok-fed.ensures.read (search rules)

pub invariant_of-self-2 : goal.invariant_of-self-2
invariant_of-self-2 c = (fact c).0

pub returns-clause-ok : goal.returns-clause-ok
returns-clause-ok c = (fact c).1 ∙ ap (λ t. t ++ c.args.bytes.now) c.self.view_is

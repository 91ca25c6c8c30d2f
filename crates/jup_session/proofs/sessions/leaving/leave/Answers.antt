use Rattle.jup_session.specs.Prelude.{view_of}
use Rattle.jup_session.proofs.Calls.{leaves_by_leaving, departs_so, leaves_so}
use Rattle.jup_session.proofs.sessions.leaving.leave.Goals as goal

pub returns-clause-leaves : goal.returns-clause-leaves
returns-clause-leaves g c =
    leaves_so c.args.site (view_of c.args.pass.now) (view_of c.give_back.new.pass) (view_of c.leave.new.pass) c.give_back.ensures.gives
    (leaves_by_leaving c.args.site (view_of c.give_back.new.pass) (view_of c.leave.new.pass) c.leave.result c.leave.ensures.made c.leave.ensures.memory)

pub returns-clause-departs : goal.returns-clause-departs
returns-clause-departs g c =
    departs_so c.args.site (view_of c.args.pass.now) (view_of c.give_back.new.pass) (view_of c.leave.new.pass) c.leave.result c.give_back.ensures.gives c.give_back.ensures.all c.leave.ensures.made

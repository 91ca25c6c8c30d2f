use Rattle.std.proofs.Common.{refl}
use Rattle.jup_app.specs.Prelude.{view_of}
use Rattle.jup_app.proofs.Calls as calls
use Rattle.jup_app.proofs.runs.joiner.seat.Goals as goal

pub returns-clause-seated : goal.returns-clause-seated
returns-clause-seated c = λ h has.
    let met = c.news.ensures.met in
    let made = calls.seated_made (view_of c.args.caller.now.pass) (view_of c.split-pass.result) (view_of c.news.new.pass) met.0 c.split-pass.ensures.new met.2 in
    record {
      pass = c.news.ensures.pass;
      number_is = c.number.ensures;
      site_is = refl;
      fresh = c.new.ensures.items;
      count = refl;
      made = made.0;
      kept = made.1;
      not_yet = calls.not_yet_made (view_of c.args.caller.now.pass) (view_of c.split-pass.result) (view_of c.news.new.pass) met.0 h has c.split-pass.ensures.new met.1 met.2;
    }

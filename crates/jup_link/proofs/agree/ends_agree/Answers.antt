use Rattle.jup_xform.specs.Grids.{IsLawful}
use Rattle.jup_link.proofs.PairLaws.{ends_agree_lem}
use Rattle.jup_link.proofs.agree.ends_agree.Goals as goal

pub returns : goal.returns
returns g c x events distinct small allowed =
    let laws = g.met.T.Transform in
    let lawful : IsLawful g.T.Transform = record {
      square = laws.square;
      distinct_after = laws.distinct_after;
      small_after = laws.small_after;
      small_below = laws.small_below;
      small_before = laws.small_before;
      apart_swap = laws.apart_swap;
      apart_client = laws.apart_client;
      apart_server = laws.apart_server;
    } in
    ends_agree_lem g.T.Transform lawful x events distinct small allowed

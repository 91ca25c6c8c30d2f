-- Entries of no bytes own nothing, so they may go to any thread.
use denote.Param.Send.{IsSend}
use Rattle.jup_star.specs.contracts.taken.Taken.{the_row}

pub send : IsSend the_row
send = record { owned = λ d vs. ((λ vss. (tt, tt)), tt); leaving = λ k f vs. tt }

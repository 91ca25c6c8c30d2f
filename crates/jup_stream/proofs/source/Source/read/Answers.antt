use Rattle.std.proofs.Common.{◌∙◌, ◌+◌, ap, refl, sym, subst, IfNone, IfSome, take, arith}
use Rattle.std.specs.Io.KnownBytes.{Keeps, Consumes, IsAtEnd}
use Rattle.jup_stream.specs.declared.faults.StreamFault.TheVariants.{ReadsSpent}
use Rattle.jup_stream.specs.Streams.{Sourced, sourced, waiting_of, ReadsOn, Stops}
use Rattle.jup_stream.proofs.Streams.{reads_piece, stops_end, stops_failed, stops_spent}
use Rattle.jup_stream.proofs.source.Source.read.Goals as goal
use Rattle.jup_stream.specs.declared.faults.Stop.TheVariants.{Fault}

pub returns-then-not-count-clause-stop : goal.returns-then-not-count-clause-stop
returns-then-not-count-clause-stop g c =
    let here = sourced (g.I.Read.remaining c.self.inside.from) c.self.inside.reader (waiting_of c.self.inside.fed c.self.inside.given) c.count.new.reads in
    let spent = c.if-not-count.ensures.spent refl in
    subst (λ (a : Sourced). Stops a (Fault ReadsSpent) here) (ap (λ n. sourced (g.I.Read.remaining c.self.inside.from) c.self.inside.reader (waiting_of c.self.inside.fed c.self.inside.given) n) spent.1 ∙ c.self.view_is)
    (stops_spent here (ap (λ (a : Sourced). a.waiting) c.self.view_is ∙ c.requires) (spent.1 ∙ spent.0))

pub returns-in-Ok-None-clause-stop : goal.returns-in-Ok-None-clause-stop
returns-in-Ok-None-clause-stop g c =
    let ended = subst (λ o. IfNone o (Keeps (g.I.Read.remaining c.self.inside.from) (g.I.Read.remaining c.read_once.new.from) × IsAtEnd (g.I.Read.remaining c.read_once.new.from))) c.in-Ok-None.field-0-is c.in-Ok-None.ensures.end in
    subst (λ (a : Sourced). Stops a c.end_of.result (sourced (g.I.Read.remaining c.read_once.new.from) c.self.inside.reader (waiting_of c.self.inside.fed c.self.inside.given) c.count.new.reads)) c.self.view_is
    (stops_end (g.I.Read.remaining c.self.inside.from) (g.I.Read.remaining c.read_once.new.from) c.self.inside.reader (waiting_of c.self.inside.fed c.self.inside.given) c.self.inside.reads c.count.new.reads c.end_of.result
    (ap (λ (a : Sourced). a.waiting) c.self.view_is ∙ c.requires) (let counted = c.if-not-count.ensures.counted refl in omega (arith, counted.1)) c.end_of.ensures ended.0 ended.1)

pub returns-in-Err-clause-stop : goal.returns-in-Err-clause-stop
returns-in-Err-clause-stop g c =
    let after = sourced (g.I.Read.remaining c.read_once.new.from) c.self.inside.reader (waiting_of c.self.inside.fed c.self.inside.given) c.count.new.reads in
    subst (λ (a : Sourced). Stops a (Fault c.in-Err.fault) after) c.self.view_is
    (subst (λ fault. Stops (sourced (g.I.Read.remaining c.self.inside.from) c.self.inside.reader (waiting_of c.self.inside.fed c.self.inside.given) c.self.inside.reads) (Fault fault) after) (sym c.in-Err.ensures.failed)
    (stops_failed (g.I.Read.remaining c.self.inside.from) (g.I.Read.remaining c.read_once.new.from) c.self.inside.reader (waiting_of c.self.inside.fed c.self.inside.given) c.self.inside.reads c.count.new.reads
    (ap (λ (a : Sourced). a.waiting) c.self.view_is ∙ c.requires) (let counted = c.if-not-count.ensures.counted refl in omega (arith, counted.1)) c.in-Err.ensures.none_lost))

pub returns-in-Ok-clause-on : goal.returns-in-Ok-clause-on
returns-in-Ok-clause-on g c =
    subst (λ (a : Sourced). ReadsOn a (sourced (g.I.Read.remaining c.read_once.new.from) c.feed_front.new.reader c.in-Ok.fed.lines c.count.new.reads)) c.self.view_is
    (reads_piece (g.I.Read.remaining c.self.inside.from) (g.I.Read.remaining c.read_once.new.from) c.self.inside.reader c.feed_front.new.reader (waiting_of c.self.inside.fed c.self.inside.given) c.in-Ok.fed.lines _
    c.self.inside.reads c.count.new.reads
    (ap (λ (a : Sourced). a.waiting) c.self.view_is ∙ c.requires) (let counted = c.if-not-count.ensures.counted refl in omega (arith, counted.1))
    (subst (λ o. IfSome o (λ n. Consumes (g.I.Read.remaining c.self.inside.from) (g.I.Read.remaining c.read_once.new.from) (take n c.read_once.new.piece))) c.in-Ok-Some.field-0-is c.in-Ok-Some.ensures.bytes) c.in-Ok.ensures.read)

pub returns-in-Ok-clause-counted : goal.returns-in-Ok-clause-counted
returns-in-Ok-clause-counted g c = (c.if-not-count.ensures.counted refl).1 ∙ ap (λ (a : Sourced). a.reads + 1) c.self.view_is

pub returns-in-Ok-clause-bounded : goal.returns-in-Ok-clause-bounded
returns-in-Ok-clause-bounded g c = let counted = c.if-not-count.ensures.counted refl in omega (arith, counted.0, counted.1)

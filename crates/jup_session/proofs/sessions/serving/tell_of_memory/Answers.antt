use Rattle.std.proofs.Common.{true, not, refl, sym, subst, true≢false}
use Rattle.jup_session.specs.Prelude.{Error, line_bytes, WritesFront}
use Rattle.jup_session.proofs.Accounts.{error_8, passed_on}
use Rattle.jup_session.proofs.sessions.serving.tell_of_memory.Goals as goal

pub returns-then-not-write_bytes-clause-front : goal.returns-then-not-write_bytes-clause-front
returns-then-not-write_bytes-clause-front g c =
    let h = subst (λ l. WritesFront (g.O.Write.contents c.args.writer.now) (g.O.Write.contents c.write_bytes.new.to) l c.write_bytes.result) (sym error_8) c.write_bytes.ensures.front in
    (h.0, h.1, h.2, h.3, λ e. absurd (true≢false (sym e)))

pub returns-clause-front : goal.returns-clause-front
returns-clause-front g c =
    let h = subst (λ l. WritesFront (g.O.Write.contents c.args.writer.now) (g.O.Write.contents c.write_bytes.new.to) l c.write_bytes.result) (sym error_8) c.write_bytes.ensures.front in
    passed_on (g.O.Write.contents c.args.writer.now) (g.O.Write.contents c.write_bytes.new.to) (g.O.Write.contents c.pass_bytes.new.to) (line_bytes (Error 8)) true (not c.pass_bytes.result)
    (subst (λ b. WritesFront (g.O.Write.contents c.args.writer.now) (g.O.Write.contents c.write_bytes.new.to) (line_bytes (Error 8)) b) c.if-not-write_bytes.false h) c.pass_bytes.ensures.bytes (λ e. refl)

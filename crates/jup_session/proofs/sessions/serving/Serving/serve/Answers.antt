use Rattle.std.proofs.Common.{◌∙◌, ap, not, refl, subst, sym}
use Rattle.jup_session.specs.Prelude.{view_of, Error, line_bytes, WritesFront, fresh_put}
use Rattle.jup_session.proofs.Accounts.{exact_so, no_room_so}
use Rattle.jup_session.proofs.sessions.serving.Serving.serve.Goals as goal

pub returns-in-Ok-clause-exact : goal.returns-in-Ok-clause-exact
returns-in-Ok-clause-exact g c =
    let served = c.serve_lines-served.result in
    exact_so (g.I.Read.remaining c.args.reader) (g.O.Write.contents c.args.writer) (g.O.Write.contents c.into_inner.result) (g.O.Peer.is_well c.args.writer) (g.O.Peer.has_failed c.args.writer) (view_of c.args.pass) (view_of served.pass) c.in-Ok.output served.output served.ending
    c.has_failed-has_failed.result served.undone (c.in-Ok.ensures.new ∙ ap (λ o. fresh_put (g.O.Write.contents o) (g.O.Peer.is_well o) (g.O.Peer.has_failed o)) c.new.ensures.to) (ap (λ o. g.O.Write.contents o) c.into_inner.ensures ∙ c.into_peer.ensures.written) c.has_failed-has_failed.ensures.value
    c.serve_lines-served.ensures.flushed c.serve_lines-served.ensures.lines

pub returns-in-Ok-clause-well : goal.returns-in-Ok-clause-well
returns-in-Ok-clause-well g c = λ none was.
    ap (λ o. g.O.Peer.is_well o) c.into_inner.ensures ∙ c.into_peer.ensures.well
    ∙ c.serve_lines-served.ensures.lines.2.well (sym c.has_failed-has_failed.ensures.value ∙ none) (ap (λ o. o.well) c.in-Ok.ensures.new ∙ ap (λ o. g.O.Peer.is_well o) c.new.ensures.to ∙ was)

pub returns-in-Err-clause-well : goal.returns-in-Err-clause-well
returns-in-Err-clause-well g c = λ none was.
    c.tell_of_memory-has_failed.ensures.well none (ap (λ o. g.O.Peer.is_well o) (c.into_inner-writer.ensures ∙ ap (λ w. w.to) c.in-Err.ensures.err ∙ c.new.ensures.to) ∙ was)

pub returns-in-Err-clause-exact : goal.returns-in-Err-clause-exact
returns-in-Err-clause-exact g c =
    no_room_so (g.I.Read.remaining c.args.reader) (g.O.Write.contents c.args.writer) (g.O.Write.contents c.tell_of_memory-has_failed.new.writer) (view_of c.args.pass) c.into.result c.tell_of_memory-has_failed.result _ refl c.into.ensures
    (subst (λ o. WritesFront (g.O.Write.contents o) (g.O.Write.contents c.tell_of_memory-has_failed.new.writer) (line_bytes (Error 8)) (not c.tell_of_memory-has_failed.result))
    (c.into_inner-writer.ensures ∙ ap (λ w. w.to) c.in-Err.ensures.err ∙ c.new.ensures.to) c.tell_of_memory-has_failed.ensures.front)

use Rattle.std.proofs.Common.{rules, ◌≡◌, ◌∙◌, refl, Some}
use Rattle.jup_http.specs.Frames.{held_bytes, pong_frame}
use Rattle.jup_http.proofs.Frames.{answered, answered_in_part, not_answered, ends_no_ping}
use Rattle.jup_http.proofs.reader.MessageReader.answer.Goals as goal

pub returns-in_err-put_pong-clause-err : goal.returns-in_err-put_pong-clause-err
returns-in_err-put_pong-clause-err g c =
    let was : c.args.self.now.ping ≡ Some c.in-Some.payload = first_of (cc (c.take.ensures.value, c.in-Some.is), search rules) in
    not_answered _ _ _ c.in-Some.payload _ _ _ _ was c.take.ensures.after

pub returns-clause-ok : goal.returns-clause-ok
returns-clause-ok g c =
    let was : c.args.self.now.ping ≡ Some c.in-Some.payload = first_of (cc (c.take.ensures.value, c.in-Some.is), search rules) in
    let is : c.deref.result.now ≡ pong_frame (held_bytes c.in-Some.payload) = c.deref.ensures.value ∙ c.in_ok-put_pong.ensures.ok ∙ rw (c.clear.ensures.items, c.bytes.ensures) refl in
    answered _ _ _ c.in-Some.payload _ _ c.deref.result.now _ _ _ was c.take.ensures.after is c.write_whole.ensures.ok

pub returns-clause-err : goal.returns-clause-err
returns-clause-err g c =
    let was : c.args.self.now.ping ≡ Some c.in-Some.payload = first_of (cc (c.take.ensures.value, c.in-Some.is), search rules) in
    let is : c.deref.result.now ≡ pong_frame (held_bytes c.in-Some.payload) = c.deref.ensures.value ∙ c.in_ok-put_pong.ensures.ok ∙ rw (c.clear.ensures.items, c.bytes.ensures) refl in
    answered_in_part _ _ _ c.in-Some.payload _ _ c.deref.result.now _ _ _ was c.take.ensures.after is c.write_whole.ensures.err

pub returns-in_err-put_pong-clause-ended : goal.returns-in_err-put_pong-clause-ended
returns-in_err-put_pong-clause-ended g c =
    let was : c.args.self.now.ping ≡ Some c.in-Some.payload = first_of (cc (c.take.ensures.value, c.in-Some.is), search rules) in
    ends_no_ping _ _ c.in-Some.payload _ _ _ _ _ was c.take.ensures.after refl

pub returns-clause-ended : goal.returns-clause-ended
returns-clause-ended g c =
    let was : c.args.self.now.ping ≡ Some c.in-Some.payload = first_of (cc (c.take.ensures.value, c.in-Some.is), search rules) in
    ends_no_ping _ _ c.in-Some.payload _ _ _ _ _ was c.take.ensures.after refl

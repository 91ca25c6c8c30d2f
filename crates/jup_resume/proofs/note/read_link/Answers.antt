use Rattle.std.proofs.Common.{sym, subst}
use Rattle.jup_resume.specs.Tokens.{IsTokenText}
use Rattle.jup_resume.specs.Notes.{waiting_text}
use Rattle.jup_resume.proofs.Readings.{none_link, no_token, behind_token}
use Rattle.jup_resume.proofs.note.read_link.Goals as goal

pub returns-in_err-token : goal.returns-in_err-token
returns-in_err-token c = rw c.from_residual.ensures (none_link c.args.fields.now (λ token seconds kept is small. no_token c.args.fields.now token (waiting_text (seconds, kept)) c.in_err-token.ensures))

pub returns-in_err-token-2 : goal.returns-in_err-token-2
returns-in_err-token-2 c = rw c.from_residual-in_err-token-2.ensures (none_link c.args.fields.now (λ token seconds kept is small same.
    let parts = behind_token c.args.fields.now c.in_ok-token.token.now c.in_ok-token.rest.now token (waiting_text (seconds, kept)) c.in_ok-token.ensures is same in
    c.in_err-token-2.ensures (subst IsTokenText (sym parts.0) is)))

pub returns-in_err-seconds : goal.returns-in_err-seconds
returns-in_err-seconds c = rw c.from_residual-in_err-seconds.ensures (none_link c.args.fields.now (λ token seconds kept is small same.
    let parts = behind_token c.args.fields.now c.in_ok-token.token.now c.in_ok-token.rest.now token (waiting_text (seconds, kept)) c.in_ok-token.ensures is same in
    c.in_err-seconds.ensures (seconds, kept) small parts.1))

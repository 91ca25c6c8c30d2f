use Rattle.std.proofs.Common.{sym, subst, decimal}
use Rattle.jup_resume.specs.Tokens.{IsTokenText}
use Rattle.jup_resume.proofs.Readings.{none_resume, no_token, behind_token}
use Rattle.jup_resume.proofs.note.read_resume.Goals as goal

pub returns-in_err-token : goal.returns-in_err-token
returns-in_err-token c = rw c.from_residual.ensures (none_resume c.args.fields.now (λ token taken is small. no_token c.args.fields.now token (decimal taken) c.in_err-token.ensures))

pub returns-in_err-read : goal.returns-in_err-read
returns-in_err-read c = rw c.from_residual-in_err-read.ensures (none_resume c.args.fields.now (λ token taken is small same.
    let parts = behind_token c.args.fields.now c.in_ok-token.token.now c.in_ok-token.taken.now token (decimal taken) c.in_ok-token.ensures is same in
    c.in_err-read.ensures (subst IsTokenText (sym parts.0) is)))

pub returns-in_err-read_number : goal.returns-in_err-read_number
returns-in_err-read_number c = rw c.from_residual-in_err-read_number.ensures (none_resume c.args.fields.now (λ token taken is small same.
    let parts = behind_token c.args.fields.now c.in_ok-token.token.now c.in_ok-token.taken.now token (decimal taken) c.in_ok-token.ensures is same in
    c.in_err-read_number.ensures taken small parts.1))

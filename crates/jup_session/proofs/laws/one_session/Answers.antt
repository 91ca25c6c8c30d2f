use Rattle.jup_session.proofs.Accounts.{account_read, account_written, account_lines, one_hearing}
use Rattle.jup_session.proofs.laws.one_session.Goals as goal

pub returns : goal.returns
returns c = record { read = account_read; written = account_written; lines = account_lines; messages = one_hearing }

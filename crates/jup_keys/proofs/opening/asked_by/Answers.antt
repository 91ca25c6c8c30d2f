use Rattle.jup_keys.proofs.Readings.{no_news, no_keys}
use Rattle.jup_keys.proofs.opening.asked_by.Goals as goal

pub returns-in-News : goal.returns-in-News
returns-in-News c = rw c.in-News.is no_news

pub returns-in-Keys : goal.returns-in-Keys
returns-in-Keys c = rw c.in-Keys.is no_keys

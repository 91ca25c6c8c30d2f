use Rattle.std.specs.Fmt.{digits}
use Rattle.std.proofs.Common.{refl}
use Rattle.jup_http.proofs.responses.refusal_head.Goals as goal

pub returns-in-BadHead : goal.returns-in-BadHead
unfolding digits
returns-in-BadHead c = rw c.in-BadHead.is refl

pub returns-in-NoUpgrade : goal.returns-in-NoUpgrade
unfolding digits
returns-in-NoUpgrade c = rw c.in-NoUpgrade.is refl

pub returns-in-Foreign : goal.returns-in-Foreign
unfolding digits
returns-in-Foreign c = rw c.in-Foreign.is refl

pub returns-in-NoPage : goal.returns-in-NoPage
unfolding digits
returns-in-NoPage c = rw c.in-NoPage.is refl

pub returns-in-BadMethod : goal.returns-in-BadMethod
unfolding digits
returns-in-BadMethod c = rw c.in-BadMethod.is refl

pub returns-in-OtherVersion : goal.returns-in-OtherVersion
unfolding digits
returns-in-OtherVersion c = rw c.in-OtherVersion.is refl

pub returns-in-Busy : goal.returns-in-Busy
unfolding digits
returns-in-Busy c = rw c.in-Busy.is refl

use Rattle.jup_site.proofs.Courses as courses
use Rattle.jup_site.proofs.promises.sites_agree.Goals as goal

pub returns-clause-shows : goal.returns-clause-shows
returns-clause-shows f c is t = courses.course-shows c is t

pub returns-clause-site : goal.returns-clause-site
returns-clause-site f c is s n = courses.member-holds c is s n

pub returns-clause-remains : goal.returns-clause-remains
returns-clause-remains f c is s n fl = courses.member-remains c is s n fl

pub returns-clause-order : goal.returns-clause-order
returns-clause-order f c is s n k = courses.member-order c is s n k

pub returns-clause-orders : goal.returns-clause-orders
returns-clause-orders f c is one other n k at = courses.members-orders c is one other n k at

pub returns-clause-copies : goal.returns-clause-copies
returns-clause-copies f c is one other n later k at = courses.members-later c is one other n later k at

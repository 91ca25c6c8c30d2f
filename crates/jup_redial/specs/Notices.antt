-- What a client tells its user of a link's connections.
use Rattle.std.specs.Prelude.{ℕ, List, codes}
use Rattle.jup_redial.specs.declared.notice.Notice.{Notice}
use Rattle.jup_redial.specs.declared.notice.Notice.TheVariants.{Lost, Resumed}

abbrev pub notice_text : Notice → List ℕ
notice_text Lost = codes "link lost"
notice_text Resumed = codes "link resumed"

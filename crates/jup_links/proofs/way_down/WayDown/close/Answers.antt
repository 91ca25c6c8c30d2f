use Rattle.jup_links.proofs.LastLines.{last_feedless}
use Rattle.jup_links.proofs.way_down.WayDown.close.Goals as goal

pub put-requires : goal.put-requires
put-requires c = rw (c.as_bytes.ensures.value, c.in-Ok.ensures.ok) (last_feedless c.args.last c.fits.ensures)

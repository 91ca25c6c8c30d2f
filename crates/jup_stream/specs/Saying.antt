-- What a site says, as the piece that a link carries: an edit is several lines, and all else is one.
use Rattle.jup_wire.specs.declared.line.Line.TheVariants as line
use Rattle.jup_gather.specs.Gathering.{Piece, Alone, up_piece}
use Rattle.jup_stream.specs.declared.saying.Said.{Said}
use Rattle.jup_stream.specs.declared.saying.Said.TheVariants.{Up, Bye}

-- the piece that a site says
abbrev pub said_piece : Said → Piece
said_piece (Up up) = up_piece up
said_piece Bye = Alone line.Bye

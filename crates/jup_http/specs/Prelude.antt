-- What files of this crate cite most: names of the crates below, and types of this crate. Declares nothing.
pub use Rattle.jup_http.specs.declared.breach.Breach.{Breach}
pub use Rattle.jup_http.specs.declared.breach.Breach.TheVariants.{BadText, Header, LongControl, ReservedBit}
pub use Rattle.jup_http.specs.declared.ending.Ending.{Ending}
pub use Rattle.jup_http.specs.declared.frame.ControlFrame.{ControlFrame}
pub use Rattle.jup_http.specs.declared.frame.DataFrame.{DataFrame}
pub use Rattle.jup_http.specs.declared.frame.Frame.{Frame}
pub use Rattle.jup_http.specs.declared.frame.Kind.{Kind}
pub use Rattle.jup_http.specs.declared.frame.Message.{Message}
pub use Rattle.jup_http.specs.declared.held.Held.{Held}
pub use Rattle.jup_http.specs.declared.stream.Place.{Place}
pub use Rattle.jup_http.specs.declared.stream.Place.TheVariants.{Head, Over, Within}
pub use Rattle.jup_http.specs.declared.texts.CharPart.{CharPart}
pub use Rattle.websocket.specs.declared.protocol.frame.coding.Control.{Control}
pub use Rattle.websocket.specs.declared.protocol.frame.coding.OpCode.{OpCode}
pub use Rattle.websocket.specs.declared.protocol.frame.header.FrameHeader.{FrameHeader}

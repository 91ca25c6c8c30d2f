-- What files of this crate cite most: names of the crates below, and types of this crate. Declares nothing.
pub use Rattle.jup_star.specs.declared.messages.Down.{Down}
pub use Rattle.jup_star.specs.declared.messages.Up.{Up}
pub use Rattle.jup_star.specs.declared.star.Joined.{Joined}
pub use Rattle.jup_wire.specs.declared.line.Line.{Line}
pub use Rattle.jup_client.specs.declared.client.Answer.{Answer}
pub use Rattle.jup_client.specs.declared.client.ClientState.{ClientState}
pub use Rattle.jup_client.specs.declared.client.Heard.{Heard}
pub use Rattle.jup_client.specs.declared.ends.ClientEnd.{ClientEnd}
pub use Rattle.jup_client.specs.declared.ends.ClientEnd.TheVariants.{NoMemory}
pub use Rattle.jup_stream.specs.declared.saying.Said.{Said}
pub use Rattle.jup_stream.specs.declared.saying.Said.TheVariants.{Bye as SaysBye, Up as SaysUp}

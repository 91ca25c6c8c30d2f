pub mod LaterCommands

pub mod ScriptEnds

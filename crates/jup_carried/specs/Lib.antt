pub mod Carried
pub mod CutRuns

mod Links
mod Sites
mod CutRuns
mod Witness

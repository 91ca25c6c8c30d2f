pub mod CaptionLemmas

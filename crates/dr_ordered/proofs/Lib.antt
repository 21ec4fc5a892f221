pub mod StretchLemmas

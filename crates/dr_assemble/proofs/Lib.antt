-- what is restored of the columns of records
mod StripLemmas
mod RestoringLemmas
-- what is restored is the projection of records
mod FillingLemmas
mod AssemblyLemmas
-- what the loops restore
mod LoopLemmas
-- what is printed of strips are the lines of what is restored, and how it grows
mod LineLemmas
pub mod PrintingLemmas
-- strips of leaves that come once each
pub mod KeepingLemmas
pub mod DistinctLemmas
pub mod JudgingLemmas
-- paths that are found
pub mod PushLemmas
-- worked examples, by computation
mod WorkedAssembly
-- pieces by their repetition levels
pub mod PieceLemmas
pub mod ByPaths
pub mod PlaceLemmas
pub mod FrontLemmas
pub mod CuttingLemmas
pub mod OrderedLemmas
pub mod SelectionOrder
pub mod OrderedAssembly
pub mod AnswerLemmas

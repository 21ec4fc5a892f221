pub mod FailingLemmas
pub mod FaultLemmas
pub mod ShelfLemmas
pub mod SinkLemmas
pub mod WorkedOutside

pub mod StructFaultLaws
pub mod TableFaultLaws
pub mod WideningLaws

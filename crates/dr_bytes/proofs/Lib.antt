-- reading and writing variable-length numbers, a byte at a time
pub mod VarintSteps
-- a number is read alike, whatever the faults are
pub mod FaultLemmas
-- numbers in bytes, and values in their bits
pub mod BitLemmas
-- where a cut stands
pub mod CutLemmas

pub mod BindingRules
pub mod QueryRules
pub mod ChainLaws
pub mod FaultLaws
pub mod FindLaws
pub mod LimitLaws
pub mod NestingLaws
-- the leaf line, read back
pub mod ReadBack

-- each step is allowed by the rule
pub mod Allowed

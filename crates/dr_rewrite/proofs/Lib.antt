-- names, and texts with quotes
pub mod LiteralLemmas
pub mod WriteLemmas
pub mod NameLemmas
pub mod ListLemmas
pub mod RewritingTextLemmas
pub mod LineLemmas
pub mod ServerItemLemmas
pub mod MergeLemmas
pub mod MergePlanLemmas
-- ORDER BY, and queries in FROM
pub mod ArrangingLemmas
pub mod NestedLemmas

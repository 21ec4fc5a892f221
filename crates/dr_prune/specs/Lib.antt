-- What a pruner stands for, and what it tells.
-- the watched condition, the numbers, and masks as verdicts
pub mod Pruning
-- answers of parts
pub mod PartAnswers
-- the answers of parts along a walk
pub mod AnswerLaws
-- how many branches are open at most
pub mod Nesting

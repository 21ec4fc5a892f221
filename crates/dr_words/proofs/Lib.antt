-- command lines, and numbers that options have, by computation
pub mod WorkedWords
mod WorkedNumbers
-- what the words of a command line ask for, from clap's answers
mod WordsLemmas
-- where clap takes words, the values that have to be there are
mod NeededLemmas
mod LoadLemmas
mod QueryLemmas
mod AskLemmas
mod DumpLemmas
mod StripeLemmas
mod FsmLemmas
mod ShowSchemaLemmas
mod ExplainLemmas
mod GenLemmas
mod TrialLemmas
mod SessionLemmas
-- numbers that options have
mod NumberLemmas
-- clap's definitions of faults and of taken words agree
mod AgreementLemmas

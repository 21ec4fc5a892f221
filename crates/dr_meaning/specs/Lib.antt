-- The definitions, from schemas to the first commands, in the order in which they build on one another.
-- words on lists and texts
pub mod Lists
-- schemas: trees of named fields; their text; paths and levels
pub mod Schema
pub mod SchemaText
pub mod Path
-- records: trees of instances, and projection; the record of a JSON line
pub mod Record
pub mod JsonRecord
-- queries: rows and values, expressions, kept branches, results
pub mod Rows
pub mod Expression
pub mod Kept
pub mod Query
pub mod Print
-- columns, the automaton and the walk of records
pub mod Column
pub mod Automaton
pub mod Walk
-- query text: its tokens, the syntax tree and the first fault
pub mod Tokens
pub mod Syntax
pub mod Parse
pub mod QueryGrammar
-- binding a query's names by a schema, with the type of each expression; or the first fault
pub mod BoundExpression
pub mod Binding
-- input lines; what commands refuse; a query that stands alone; commands
pub mod Lines
pub mod Refusals
pub mod Ask
pub mod Stripe
pub mod Fsm
-- laws, each proved on a law function of src/
pub mod SchemaTextLaws
pub mod TokenLaws
pub mod SyntaxLaws
pub mod SchemaFaultLaws
pub mod PathLaws
pub mod ProjectionLaws
pub mod MeaningLaws
pub mod ColumnLaws
pub mod OneColumn
pub mod WalkLaws
pub mod OrderLaws
pub mod QueryLeaves
pub mod BindingLaws
pub mod AutomatonLaws

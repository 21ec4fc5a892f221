-- worked examples, by computation
pub mod WorkedSchemas
pub mod WorkedSchemaFaults
pub mod WorkedRecords
pub mod WorkedFaults
pub mod WorkedPaths
pub mod WorkedColumns
pub mod WorkedAutomaton
pub mod WorkedExpressions
pub mod WorkedQueries
pub mod WorkedAggregates
pub mod WorkedMeaning
pub mod WorkedWalk
pub mod WorkedLimits
pub mod WorkedTokens
pub mod WorkedSyntax
pub mod WorkedSyntaxFaults
pub mod WorkedBinding
pub mod WorkedBindingFaults
pub mod WorkedTexts
pub mod WorkedLines
pub mod WorkedStripe
-- lemmas of the laws of schema text
-- lemmas of the laws of query syntax
pub mod SyntaxReading
pub mod SyntaxSound
pub mod SyntaxComplete
pub mod SyntaxSpelled
pub mod SyntaxStable
pub mod SyntaxProductions
pub mod SyntaxDeadEnds
pub mod SyntaxAccepted
pub mod SchemaMachine
pub mod SchemaAccepted
pub mod SchemaGoesOn
pub mod SchemaDeadEnds
pub mod SchemaLexing
pub mod TokenLemmas
pub mod OneTokenLemmas
pub mod QueryTokenLemmas
pub mod OneQueryTokenLemmas
pub mod SchemaReadsBack
pub mod SchemaValid
pub mod NameFaultLemmas
-- lemmas of the laws of projections and columns
pub mod ProjectionLemmas
pub mod MeaningLemmas
pub mod Blocks
pub mod ColumnLemmas
pub mod ColumnStarts
pub mod ColumnSize
pub mod LeafKinds
pub mod OneColumnLemmas
-- the record of a line is within the limits
pub mod RecordLimits
pub mod LineLemmas
pub mod WalkLemmas
pub mod NestingLemmas
pub mod OrderLemmas
pub mod VisitLemmas
pub mod FoundLemmas
pub mod FindingLemmas
-- lemmas of the laws of binding
pub mod BindingFaultLemmas
pub mod HasShapesLemmas
pub mod BindingLemmas
pub mod BoundPartsLemmas
pub mod QueryLeavesLemmas

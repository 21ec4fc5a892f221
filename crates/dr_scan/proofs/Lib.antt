-- leaves that are named or used, among those of the schema
pub mod UsedLeaves
-- the columns of a file's leaves, what their faults say of it, and how much there is
pub mod ColumnsLemmas
pub mod RecordsLemmas
pub mod FewLemmas
-- what is asked for, of a file and of tablets
pub mod AskedLemmas
pub mod AskedTablets
-- the copies of a tablet, and the tablets of a table, in turn
pub mod CopyLemmas
pub mod TableLemmas
-- literals that are summed
pub mod LiteralLemmas
-- the partial of records of which no leaf is read
pub mod RowLemmas
-- the partial of a file's records
pub mod ScanLemmas
-- leaves of a plan, and what is made of moves
pub mod LeafLemmas
pub mod MakingLemmas
-- columns by their numbers
pub mod Tabulated
-- a stretch of a walk, the streams of columns, and the file that they are of
pub mod StretchLemmas
pub mod StreamLemmas
pub mod FileLemmas
-- what lies behind the columns of the first records, and what is left of a file where they were taken
pub mod FrontLemmas
pub mod RestLemmas
-- columns that are there as a whole
pub mod WholeLemmas
-- stretch by stretch
pub mod UnderwayLemmas
-- what reading leaves asks of a link
pub mod ServedLemmas
-- what is at hand, handed over to the streams
pub mod HandingLemmas
-- chunk by chunk
pub mod ChunkedLemmas
-- the copies of one tablet
pub mod TabletLemmas
-- the truth of tablets
pub mod TruthLemmas

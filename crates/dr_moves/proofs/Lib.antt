-- worked examples, by computation
pub mod WorkedCourse
pub mod WorkedTurns
-- what the walk's machine makes of moves' own columns; what is made in going through a course; leaves selected once each
pub mod Following
pub mod Made
pub mod Apart
-- what follows a course is made of it
pub mod FollowingLemmas
-- behind shut gates
pub mod GateLemmas
pub mod DeadMoves
-- what is made is the walk of records
pub mod NodesMade
-- the walk of records follows the course
pub mod FollowsWalk
pub mod WalkFollows
-- turns over the columns of moves
pub mod TurnLemmas
pub mod Viability
pub mod LeadingLemmas
pub mod ApartLemmas
pub mod NestingOfTurns
pub mod LeadingThrough
-- worked examples, by computation
pub mod WorkedFiring
-- what was read of a leaf wherever a triplet of another is given
pub mod ReadingLemmas
pub mod NearLemmas
pub mod RowsRead
-- rows fire at leaves
pub mod FiringLemmas
pub mod FiringInside
-- tours, and what is kept
pub mod KeptRows
pub mod TourLemmas
pub mod InstanceKept
-- append and cut
pub mod CuttingLemmas

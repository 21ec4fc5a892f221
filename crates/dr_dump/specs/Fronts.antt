-- Fronts of a column: the triplets of its first records.
use Rattle.std.specs.Prelude.{◌≡◌, ◌≢◌, ◌≤◌, ℕ, List, [], length, take, drop, true}
use Rattle.dr_meaning.specs.Column.{Triplet}
use Rattle.dr_meaning.specs.OneColumn.{starts, begins_record}
use Rattle.dr_dump.specs.declared.front.Front.{Front}

-- so many records begin in it, at most k, and exactly k where anything comes behind it, which then begins a record
pub record IsFront (ts : List Triplet) (k : ℕ) (f : Front) : Type 0 where
  pub within : f.length ≤ length ts
  pub begun : starts (take f.length ts) ≡ f.records
  pub few : f.records ≤ k
  pub cut : begins_record (drop f.length ts) ≡ true
  pub all : drop f.length ts ≢ [] → f.records ≡ k

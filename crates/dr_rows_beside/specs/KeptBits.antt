-- Which rows of a leaf a condition keeps: a bit for each.
use Rattle.std.specs.Prelude.{◌≡◌, ℕ, List, [], map, length, Bool, true, false, nat_lt, if◌then◌else◌}
use Rattle.std.specs.List.{slice_index_or}
use Rattle.std.specs.declared.vec.Vec.{Vec}
use Rattle.std.specs.declared.alloc.Global.{Global}
use Rattle.dr_meaning.specs.Path.{Step, common}
use Rattle.dr_meaning.specs.Column.{Triplet}
use Rattle.dr_beside.specs.Spreading.{repetitions_of, spread_over}
use Rattle.dr_rows_beside.specs.declared.judging.Test.{Test}
use Rattle.dr_rows_beside.specs.declared.keeping.Keeping.{Keeping}
use Rattle.dr_rows_beside.specs.Bits.{gathered, all_within}
use Rattle.dr_rows_beside.specs.Judging.{AreGathered}
use Rattle.dr_rows_beside.specs.Keepings.{levels_of, judged}

-- of each instance at a depth, by the tests' answers
abbrev pub bits_of : List (List Triplet) → Test → List Test → ℕ → List Bool
bits_of C own others d = gathered d (levels_of C own) (judged C own others)

-- of each row of a leaf with these triplets, which has so many repeated fields in common with the tests' last one
abbrev pub kept_bits : List (List Triplet) → Test → List Test → ℕ → List Triplet → List Bool
kept_bits C own others d ts = spread_over d false (bits_of C own others d) (repetitions_of ts)

-- how many repeated fields each leaf has in common with one of them
abbrev pub commons : List (List Step) → ℕ → List ℕ
commons F last = map (λ (p : List Step). common p (slice_index_or F last [])) F

-- ---- in code

-- how many a leaf has
abbrev pub common_at : Keeping → ℕ → ℕ
common_at k leaf = slice_index_or k.commons.items leaf 0

-- the bits at a depth
abbrev pub kept_at : Keeping → ℕ → List Bool
kept_at k d = if nat_lt d (length k.above.items) then slice_index_or (map (λ (v : Vec Bool Global). v.items) k.above.items) d [] else k.whole.items

-- it has judged the records that have these columns
pub record HasJudged (C : List (List Triplet)) (k : Keeping) : Type 0 where
  pub whole : k.whole.items ≡ judged C k.own k.others.items
  pub above : AreGathered (levels_of C k.own) (judged C k.own k.others.items) (length k.above.items) k.above.items
  pub deep : length k.above.items ≡ k.own.depth
  pub within : all_within k.own.depth (levels_of C k.own) ≡ true

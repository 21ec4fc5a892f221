-- What a condition keeps, in code.
use Rattle.std.specs.Prelude.{◌≡◌, ◌≤◌, ℕ, List, map, length, Bool, true}
use Rattle.dr_meaning.specs.Column.{Triplet}
use Rattle.dr_beside.specs.Neighbours.{column_at}
use Rattle.dr_beside.specs.Spreading.{repetitions_of}
use Rattle.dr_rows_beside.specs.declared.judging.Test.{Test}
use Rattle.dr_rows_beside.specs.declared.keeping.Keeping.{Keeping}
use Rattle.dr_agreement.specs.Cuts.{begins}
use Rattle.dr_rows_beside.specs.Answers.{holds_in}
use Rattle.dr_rows_beside.specs.Bits.{all_within}
use Rattle.dr_rows_beside.specs.RecordRows.{rows_of}
use Rattle.dr_rows_beside.specs.Judging.{CanAnswer, CanAnswerEach, narrowed_by}

-- the levels of the column of a test's leaf
abbrev pub levels_of : List (List Triplet) → Test → List ℕ
levels_of C t = repetitions_of (column_at C t.source.leaf)

-- the answers of a test, narrowed by those of others
abbrev pub judged : List (List Triplet) → Test → List Test → List Bool
judged C own others = narrowed_by C (levels_of C own) others (map (holds_in own.truth.now) (rows_of own.source.leaf own.source.beside.items C))

-- its tests can be answered
pub record CanJudge (C : List (List Triplet)) (k : Keeping) : Type 0 where
  pub own : CanAnswer C (levels_of C k.own) k.own
  pub others : CanAnswerEach C (levels_of C k.own) k.others.items
  pub begins_there : begins (levels_of C k.own) ≡ true
  pub within : all_within k.own.depth (levels_of C k.own) ≡ true
  pub few : length k.above.items ≤ 256

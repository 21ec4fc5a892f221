-- Tests of a condition, one after another.
use Rattle.std.specs.Prelude.{◌≡◌, ◌<◌, ◌≤◌, ℕ, List, [], ◌∷◌, map, length, Bool, true, false}
use Rattle.std.specs.List.{list_all, slice_index_or}
use Rattle.std.specs.declared.vec.Vec.{Vec}
use Rattle.std.specs.declared.alloc.Global.{Global}
use Rattle.dr_meaning.specs.Column.{Triplet}
use Rattle.dr_beside.specs.Neighbours.{column_at}
use Rattle.dr_beside.specs.Spreading.{spread_over}
use Rattle.dr_rows_beside.specs.declared.judging.Test.{Test}
use Rattle.dr_rows_beside.specs.Rows.{source_view, is_fed, is_apart}
use Rattle.dr_rows_beside.specs.Bits.{many, each_and, gathered}
use Rattle.dr_rows_beside.specs.Answers.{holds_in}
use Rattle.dr_rows_beside.specs.RecordRows.{rows_of}

-- a test whose leaves can be read beside one another, and whose rows are those of these levels up to its depth
pub record CanAnswer (C : List (List Triplet)) (rs : List ℕ) (t : Test) : Type 0 where
  pub leaf : t.source.leaf < length C
  pub apart : is_apart t.source.leaf (map (source_view C) t.source.beside.items) ≡ true
  pub fed : list_all (is_fed (column_at C t.source.leaf) (length C)) (map (source_view C) t.source.beside.items) ≡ true
  pub as_many : many t.depth rs ≤ length (column_at C t.source.leaf)

abbrev pub CanAnswerEach : List (List Triplet) → List ℕ → List Test → Type 0
CanAnswerEach C rs [] = Unit {0}
CanAnswerEach C rs (t ∷ ts) = CanAnswer C rs t × CanAnswerEach C rs ts

-- bits that are narrowed by a test's answers
abbrev pub narrowed : List (List Triplet) → List ℕ → Test → List Bool → List Bool
narrowed C rs t bs = each_and bs (spread_over t.depth false (map (holds_in t.truth.now) (rows_of t.source.leaf t.source.beside.items C)) rs)

abbrev pub narrowed_by : List (List Triplet) → List ℕ → List Test → List Bool → List Bool
narrowed_by C rs [] bs = bs
narrowed_by C rs (t ∷ ts) bs = narrowed_by C rs ts (narrowed C rs t bs)

-- the bits of the first so many depths
abbrev pub AreGathered : List ℕ → List Bool → ℕ → List (Vec Bool Global) → Type 0
AreGathered rs bs n out = (d : ℕ) → d < n → slice_index_or (map (λ (v : Vec Bool Global). v.items) out) d [] ≡ gathered d rs bs

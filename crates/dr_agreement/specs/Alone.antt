-- Tests of a leaf's triplets alone.
use Rattle.std.specs.Prelude.{◌≡◌, ℕ, ◌+◌, ◌≤◌, ◌==◌, List, [], ◌∷◌, get_or, Bool, true, false, ◌&&◌, if◌then◌else◌, nat_le, Some}
use Rattle.std.specs.List.{slice_get}
use Rattle.dr_meaning.specs.Schema.{Repetition, required, optional, repeated, definition_count}
use Rattle.dr_meaning.specs.Path.{Step, Leaf, max_repetition, max_definition}
use Rattle.dr_meaning.specs.Column.{Triplet}
use Rattle.dr_meaning.specs.OneColumn.{may_follow, is_column}
use Rattle.dr_nested.specs.Views.{kind_view}
use Rattle.dr_levels.specs.Views.{LeafForm, form}
use Rattle.dr_beside.specs.Neighbours.{column_at}
use Rattle.dr_agreement.specs.declared.column_of_leaf.LeafTest.{LeafTest}
use Rattle.dr_agreement.specs.declared.shallow.Shallow.{Shallow}

-- a field has a least level where it is repeated
abbrev pub with_least : Repetition → ℕ → List ℕ → List ℕ
with_least required n ls = ls
with_least optional n ls = ls
with_least repeated n ls = n ∷ ls

-- the definition levels that instances of the repeated fields on a path have at least, outermost first, where the fields above it give this level
abbrev pub least_levels : ℕ → List Step → List ℕ
least_levels n [] = []
least_levels n (s ∷ p) = with_least s.repetition (n + definition_count s.repetition) (least_levels (n + definition_count s.repetition) p)

-- the test of this leaf
pub record IsTestOf (l : Leaf) (x : LeafTest) : Type 0 where
  pub kind : kind_view x.kind ≡ l.kind
  pub greatest : x.greatest ≡ max_definition l.path
  pub least : x.least.items ≡ 0 ∷ least_levels 0 l.path

-- the least level of a repetition level of at most 3
abbrev pub shallow_least : Shallow → ℕ → ℕ
shallow_least x r = if r == 1 then x.first else (if r == 2 then x.second else (if r == 3 then x.third else 0))

-- the test of a path with at most three repeated fields
pub record IsShallowOf (p : List Step) (x : Shallow) : Type 0 where
  pub greatest : x.greatest ≡ max_definition p
  pub most : x.most ≡ max_repetition p
  pub least : (r : ℕ) → r ≤ max_repetition p → shallow_least x r ≡ get_or (0 ∷ least_levels 0 p) r 0

-- the form of the columns that it tests
abbrev pub test_form : LeafTest → LeafForm
test_form x = form (kind_view x.kind) x.greatest

-- whether these levels may stand in the leaf's column behind a triplet of this definition level
abbrev pub may_stand : List Step → ℕ → ℕ × ℕ → Bool
may_stand p before l = nat_le l.0 (max_repetition p) && (nat_le l.1 (max_definition p) && may_follow p before l.1 l.0)

-- whether each of them may, the first behind this level
abbrev pub each_may_stand : List Step → ℕ → List (ℕ × ℕ) → Bool
each_may_stand p before [] = true
each_may_stand p before (l ∷ ls) = may_stand p before l && each_may_stand p l.1 ls

-- the tests of these leaves
abbrev pub AreTestsOf : List Leaf → List LeafTest → Type 0
AreTestsOf [] [] = Unit {0}
AreTestsOf [] (x ∷ xs) = ⊥
AreTestsOf (l ∷ L) [] = ⊥
AreTestsOf (l ∷ L) (x ∷ xs) = IsTestOf l x × AreTestsOf L xs

-- each of some triplets is the column of its leaf of so many records
abbrev pub AreColumnsAlone : List Leaf → List (List Triplet) → ℕ → Type 0
AreColumnsAlone L C records = (i : ℕ) (l : Leaf) → slice_get L i ≡ Some l → is_column l records (column_at C i) ≡ true

-- one of them is none
abbrev pub OneIsNoColumn : List Leaf → List (List Triplet) → ℕ → Type 0
OneIsNoColumn L C records = (i : ℕ) × (l : Leaf) × (slice_get L i ≡ Some l) × (is_column l records (column_at C i) ≡ false)

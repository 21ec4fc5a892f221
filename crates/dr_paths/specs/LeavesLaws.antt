-- How often a leaf is among the leaves of a query.
use Rattle.std.specs.Prelude.{◌≡◌, ℕ, ◌+◌, List, [], ◌∷◌, if◌then◌else◌, Some}
use Rattle.std.specs.List.{list_any, slice_get}
use Rattle.dr_meaning.specs.Schema.{Fields}
use Rattle.dr_meaning.specs.Path.{Step, Leaf, same_path, leaves}
use Rattle.dr_meaning.specs.Query.{Query}
use Rattle.dr_meaning.specs.QueryLeaves.{used_paths, query_leaves}

-- how many of these leaves have this path
abbrev pub leaf_times : List Step → List Leaf → ℕ
leaf_times p [] = 0
leaf_times p (l ∷ ls) = (if same_path p l.path then 1 else 0) + leaf_times p ls

-- a leaf of the schema that a query uses is among its leaves once, any other isn't
abbrev pub QueryLeavesComeOnce : Type 0
QueryLeavesComeOnce = (fs : Fields) (q : Query) (i : ℕ) (l : Leaf) → slice_get (leaves fs) i ≡ Some l
    → leaf_times l.path (query_leaves fs q) ≡ (if list_any (same_path l.path) (used_paths q) then 1 else 0)

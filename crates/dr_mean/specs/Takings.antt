-- What is taken of rows, and what is put of them.
use Rattle.std.specs.Prelude.{ℕ, List, map, Bool, true, Option, Some, None, ◌≡◌}
use Rattle.std.specs.List.{slice_get}
use Rattle.dr_meaning.specs.Path.{Step, Leaf}
use Rattle.dr_meaning.specs.Record.{Value, Node}
use Rattle.dr_meaning.specs.Expression.{evaluate}
use Rattle.dr_meaning.specs.Query.{key_tuple}
use Rattle.dr_meaning.specs.Rows.{rows}
use Rattle.dr_partials.specs.Putting.{Taken, Put}
use Rattle.dr_levels.specs.declared.triplet.ValueRef.{ValueRef}
use Rattle.dr_nested.specs.PathView.{path_view}
use Rattle.dr_plan.specs.Planned.{Planned}
use Rattle.dr_plan.specs.Fitting.{expr_fits}
use Rattle.dr_plan.specs.Views.{expr_view, path_of}
use Rattle.dr_group.specs.Partials.{IsPartialOf, HasTaken, HasTakenOne}
use Rattle.dr_group.specs.declared.partial.Partial.{Partial}
use Rattle.dr_rows.specs.declared.table.Rows.{Rows}
use Rattle.dr_scalar.specs.Slots.{AreValues}
use Rattle.dr_mean.specs.declared.taking.Taking.{Taking}
use Rattle.dr_mean.specs.declared.grouping.Grouping.{Grouping}
use Rattle.dr_rows.specs.Views.{AreRowsOf}
use Rattle.dr_mean.specs.RowsOf.{IsTyped}

-- an expression of which values are taken fits the leaves
abbrev pub taking_fits : List Leaf → Taking → Bool
taking_fits ls Taking.Nothing = true
taking_fits ls (Taking.Row i) = true
taking_fits ls (Taking.Value i e) = expr_fits ls e.now

-- the value that is taken of a row
abbrev pub value_taken : List Leaf → Taking → Node → Option Value
value_taken ls Taking.Nothing row = None
value_taken ls (Taking.Row i) row = None
value_taken ls (Taking.Value i e) row = evaluate (expr_view ls e.now) row

-- what is taken, if that is its value
abbrev pub taken_with : Taking → Option Value → Option Taken
taken_with Taking.Nothing v = None
taken_with (Taking.Row i) v = Some (record { aggregate = i; value = v })
taken_with (Taking.Value i e) v = Some (record { aggregate = i; value = v })

-- the paths of keys, by the numbers of their leaves
abbrev pub key_paths : List Leaf → List ℕ → List (List Step)
key_paths ls keys = map (λ k. path_of (slice_get ls k)) keys

-- what is put of a row
abbrev pub put_of : List Leaf → List ℕ → Taking → Node → Put
put_of ls keys t row = record { keys = key_tuple (key_paths ls keys) row; taken = taken_with t (value_taken ls t row) }

-- ---- by the keys and the aggregates of a plan

-- the leaves, and the paths of the keys
abbrev pub leaves_in : Grouping → List Leaf
leaves_in g = map path_view g.leaves.now

abbrev pub keys_in : Grouping → List (List Step)
keys_in g = key_paths (leaves_in g) g.keys.now

-- what is put of a row
abbrev pub row_put : Grouping → Taking → Node → Put
row_put g t row = put_of (leaves_in g) g.keys.now t row

-- it is put into a partial, of whatever query, where these are the values of the leaves
abbrev pub PutsRow : Grouping → Taking → List (Option ValueRef) → Partial → Partial → Type 0
PutsRow g t values x x' = (p : Planned) (row : Node) → IsPartialOf p x → AreValues (leaves_in g) values row → taking_fits (leaves_in g) t ≡ true
    → HasTakenOne p (row_put g t row) x x'

-- each row of a chain is, in order, where this is what is known of them
abbrev pub PutsRows : Grouping → Taking → Rows → Partial → Partial → Type 0
PutsRows g t known x x' = (p : Planned) (chain : List Step) (whole : Node) → IsPartialOf p x → IsTyped g.leaves.now whole
    → taking_fits (leaves_in g) t ≡ true → AreRowsOf g.leaves.now chain whole known → HasTaken p (map (row_put g t) (rows chain whole)) x x'

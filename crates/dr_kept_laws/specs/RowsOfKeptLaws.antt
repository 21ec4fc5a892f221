-- The laws of the rows of what is kept.
use Rattle.std.specs.Prelude.{◌≡◌, List, ◌++◌, map, Bool, true, ◌&&◌, filter, Some}
use Rattle.std.specs.List.{list_all}
use Rattle.dr_meaning.specs.Schema.{Fields}
use Rattle.dr_meaning.specs.Path.{Step, is_leaf_path, chain_end, begins_with}
use Rattle.dr_meaning.specs.Record.{Node, is_record}
use Rattle.dr_meaning.specs.Rows.{rows, value_at, is_present}
use Rattle.dr_meaning.specs.Expression.{Expression, evaluate, paths_of}
use Rattle.dr_meaning.specs.Kept.{kept_along}
use Rattle.dr_kept_laws.specs.RowsOfKept.{kept_rows, rows_left}

-- what is kept of a record has the record's kept rows, in their order: a leaf whose repeated fields are all on the path has the same values in them
abbrev pub RowsOfKept : Type 0
RowsOfKept = (fs : Fields) (n : Node) (p c q : List Step) (test : Node → Bool) → is_record fs n ≡ true → is_leaf_path fs q ≡ true
    → begins_with (chain_end q) p ≡ true
    → map (value_at q) (rows_left p (kept_along c test n)) ≡ map (value_at q) (kept_rows p c test n)

-- whether the field at a path's end is there is the same in them, where it leads to a leaf and its repeated fields are all on the rows' path
abbrev pub PresentInKept : Type 0
PresentInKept = (fs : Fields) (n : Node) (p c q below : List Step) (test : Node → Bool) → is_record fs n ≡ true
    → is_leaf_path fs (q ++ below) ≡ true → begins_with (chain_end q) p ≡ true
    → map (is_present q) (rows_left p (kept_along c test n)) ≡ map (is_present q) (kept_rows p c test n)

-- whether the end of the rows' own path is there is the same in them, whatever the node
abbrev pub EndInKept : Type 0
EndInKept = (p c : List Step) (test : Node → Bool) (n : Node)
    → map (is_present p) (rows_left p (kept_along c test n)) ≡ map (is_present p) (kept_rows p c test n)

-- along the condition's own chain the kept rows are the true ones
abbrev pub TrueRowsAreKept : Type 0
TrueRowsAreKept = (p : List Step) (test : Node → Bool) (n : Node) → kept_rows p p test n ≡ filter test (rows p n)

-- what depends on the values of leaves alone whose repeated fields are all on the chain
abbrev pub IsOfChain : {Y : Type 0} → Fields → List Step → (Node → Y) → Type 0
IsOfChain fs c f = (a b : Node)
    → ((q : List Step) → is_leaf_path fs q ≡ true → begins_with (chain_end q) c ≡ true → value_at q a ≡ value_at q b) → f a ≡ f b

-- by such a test what is kept of the kept rows, of one after the other, is the rows of what is kept: rows within them are found in either
abbrev pub KeptOfRows : Type 0
KeptOfRows = (fs : Fields) (n : Node) (p c : List Step) (test : Node → Bool) → is_record fs n ≡ true → IsOfChain fs c test
    → map (kept_along c test) (kept_rows p c test n) ≡ map (λ (r : Node). Some r) (rows_left p (kept_along c test n))

-- an expression whose paths are leaves with their repeated fields on a chain depends on such leaves alone
abbrev pub ExpressionsAreOfChains : Type 0
ExpressionsAreOfChains = (fs : Fields) (c : List Step) (e : Expression)
    → list_all (λ (q : List Step). is_leaf_path fs q && begins_with (chain_end q) c) (paths_of e) ≡ true → IsOfChain fs c (evaluate e)

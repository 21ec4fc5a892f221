-- Kept branches: what WHERE leaves of a record (Dremel 2010, section 5). A branch of the condition's chain stays exactly where some row
-- through it is true, a record exactly where one of its rows is (dr_moves proves it).
use Rattle.std.specs.Prelude.{List, [], ◌∷◌, Bool, if◌then◌else◌, Option, Some, None, option_map}
use Rattle.dr_meaning.specs.Path.{Step}
use Rattle.dr_meaning.specs.Record.{Node, Instances, no_instances, instance, Instance, atom, inner, single, instances_at, put_at}
use Rattle.dr_meaning.specs.Expression.{Expression, evaluate, expression_chain, is_true}

abbrev pub with_kept : Option Instance → Instances → Instances
with_kept None xs = xs
with_kept (Some x) xs = instance x xs

abbrev pub keep_each : (Instance → Option Instance) → Instances → Instances
keep_each keep no_instances = no_instances
keep_each keep (instance x xs) = with_kept (keep x) (keep_each keep xs)

-- the node with the kept instances, where there is one
abbrev pub if_some_kept : (Instances → Node) → Instances → Option Node
if_some_kept put_back no_instances = None
if_some_kept put_back (instance x xs) = Some (put_back (instance x xs))

-- a node with no next instance is kept where its own row passes; one with a next instance is kept where one of these is
abbrev pub keep_below : (Node → Bool) → (Instances → Node) → (Instance → Option Instance) → Node → Instances → Option Node
keep_below test_row put_back keep n no_instances = if test_row n then Some n else None
keep_below test_row put_back keep n (instance x xs) = if_some_kept put_back (keep_each keep (instance x xs))

-- an instance, tested in the row that it makes of the record
abbrev pub keep_instance : ((Node → Bool) → Node → Option Node) → (Instance → Node) → (Node → Bool) → Instance → Option Instance
keep_instance below row_of test_row (atom v) = if test_row (row_of (atom v)) then Some (atom v) else None
keep_instance below row_of test_row (inner n) = option_map inner (below (λ m. test_row (row_of (inner m))) n)

-- what is left of a node along the rest of a chain, by a test of the whole row
abbrev pub kept_along : List Step → (Node → Bool) → Node → Option Node
kept_along [] test_row n = if test_row n then Some n else None
kept_along (s ∷ p) test_row n = keep_below test_row (λ xs. put_at s.place xs n) (keep_instance (kept_along p) (λ x. put_at s.place (single x) n) test_row) n
    (instances_at s.place n)

-- what a condition leaves of a record: none, or the record with its kept branches along the condition's longest chain
abbrev pub kept : Option Expression → Node → Option Node
kept None n = Some n
kept (Some e) n = kept_along (expression_chain e) (λ row. is_true (evaluate e row)) n

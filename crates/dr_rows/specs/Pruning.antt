-- Pruning a record by the answers of a test: one for each row of a chain, in order.
use Rattle.std.specs.Prelude.{List, [], ◌∷◌, drop, Bool, false, if◌then◌else◌, Option, Some, None, option_map, ◌≡◌, map}
use Rattle.dr_meaning.specs.Path.{Step}
use Rattle.dr_meaning.specs.Record.{Node, Instances, no_instances, instance, Instance, atom, inner, instances_at, put_at}
use Rattle.dr_meaning.specs.Rows.{rows}
use Rattle.dr_meaning.specs.Kept.{with_kept}
use Rattle.dr_meaning.specs.Lists.{first_answer}
use Rattle.dr_nested.specs.PathView.{step_view}
use Rattle.dr_nested.specs.Views.{node_view}
use Rattle.dr_nested.specs.declared.path.Step.{Step as CodeStep}
use Rattle.dr_nested.specs.declared.record.Node.{Node as CodeNode}

-- what is kept, and the answers behind those for it
pub record Pruned (A : Type 0) : Type 0 where
  pub kept : A
  pub left : List Bool

-- this, if so
abbrev pub kept_if : {A : Type 0} → Bool → A → Option A
kept_if b x = if b then Some x else None

-- kept as it is, where the first answer is so
abbrev pub by_answer : {A : Type 0} → A → List Bool → Pruned (Option A)
by_answer x bs = record { kept = kept_if (first_answer bs) x; left = drop 1 bs }

-- an instance, if it is kept, before others that are
abbrev pub before_pruned : Pruned (Option Instance) → Pruned Instances → Pruned Instances
before_pruned x xs = record { kept = with_kept x.kept xs.kept; left = xs.left }

-- the instances that are kept
abbrev pub pruned_each : (Instance → List Bool → Pruned (Option Instance)) → Instances → List Bool → Pruned Instances
pruned_each f no_instances bs = record { kept = no_instances; left = bs }
pruned_each f (instance x xs) bs = before_pruned (f x bs) (pruned_each f xs (f x bs).left)

-- instances, where there are any
abbrev pub some_instances : Instances → Option Instances
some_instances no_instances = None
some_instances (instance x xs) = Some (instance x xs)

-- a field without an instance is a row of its own; one with instances is kept where some of them are
abbrev pub pruned_field : (Instance → List Bool → Pruned (Option Instance)) → Instances → List Bool → Pruned (Option Instances)
pruned_field f no_instances bs = by_answer no_instances bs
pruned_field f (instance x xs) bs = record { kept = some_instances (pruned_each f (instance x xs) bs).kept; left = (pruned_each f (instance x xs) bs).left }

-- a leaf's value is a row of its own
abbrev pub pruned_instance : (Node → List Bool → Pruned (Option Node)) → Instance → List Bool → Pruned (Option Instance)
pruned_instance f (atom v) bs = by_answer (atom v) bs
pruned_instance f (inner n) bs = record { kept = option_map inner (f n bs).kept; left = (f n bs).left }

-- the node with what is kept of a field
abbrev pub put_field : (Instances → Node) → Pruned (Option Instances) → Pruned (Option Node)
put_field f xs = record { kept = option_map f xs.kept; left = xs.left }

-- a node along the rest of a chain
abbrev pub pruned_along : List Step → Node → List Bool → Pruned (Option Node)
pruned_along [] n bs = by_answer n bs
pruned_along (s ∷ p) n bs = put_field (λ xs. put_at s.place xs n) (pruned_field (pruned_instance (pruned_along p)) (instances_at s.place n) bs)

-- the instances in a slot, none in a gap
abbrev pub slot_instances : Option Instances → Instances
slot_instances None = no_instances
slot_instances (Some xs) = xs

-- a slot with other instances; a gap stays one
abbrev pub slot_with : Option Instances → Instances → Option Instances
slot_with None xs = None
slot_with (Some ys) xs = Some xs

-- what is kept of a field's instances along the rest of a chain, and the answers behind those for it
abbrev pub field_pruned : List CodeStep → Instances → List Bool → Pruned (Option Instances)
field_pruned chain xs bs = pruned_field (pruned_instance (pruned_along (map step_view chain))) xs bs

-- these are the answers of a test for the rows of a chain, in order
abbrev pub AreAnswersOf : (Node → Bool) → List CodeStep → CodeNode → List Bool → Type 0
AreAnswersOf test chain n bs = bs ≡ map test (rows (map step_view chain) (node_view n))

-- The items by which servers give keys and aggregates.
use Rattle.std.specs.Prelude.{ℕ, List, ◌++◌, string_bytes, Bool, ◌&&◌}
use Rattle.std.specs.List.{list_all, filter_map}
use Rattle.dr_plan.specs.declared.aggregate.Aggregate.{Aggregate}
use Rattle.dr_plan.specs.declared.plan.GroupItem.{GroupItem}
use Rattle.dr_plan.specs.declared.plan.GroupTerm.{GroupTerm}
use Rattle.dr_plan.specs.Fitting.{aggregate_number, are_numbered, has_key}
use Rattle.dr_rewrite.specs.Items.{indexed, key_name, aggregate_name}

-- an item, its name as bytes
pub record Titled : Type 0 where
  pub name : List ℕ
  pub term : GroupTerm

abbrev pub titled : GroupItem → Titled
titled i = record { name = string_bytes i.name; term = i.term }

-- a key, and an aggregate, by the name that servers give it
abbrev pub titled_key : ℕ → Titled
titled_key i = record { name = key_name i; term = GroupTerm.Key i }

abbrev pub titled_aggregate : ℕ → Titled
titled_aggregate i = record { name = aggregate_name i; term = GroupTerm.Aggregate i }

-- of all keys, and of all aggregates
abbrev pub titled_keys : List ℕ → List Titled
titled_keys keys = indexed (λ (i k : ℕ). titled_key i) 0 keys

abbrev pub titled_aggregates : List Aggregate → List Titled
titled_aggregates gs = indexed (λ (i : ℕ) (a : Aggregate). titled_aggregate i) 0 gs

-- each key, then each aggregate
abbrev pub server_items : List ℕ → List Aggregate → List Titled
server_items keys gs = titled_keys keys ++ titled_aggregates gs

-- each key is there, and the aggregates are numbered in the items' order
abbrev pub are_placed : ℕ → ℕ → List Titled → Bool
are_placed keys count ts = list_all (λ (t : Titled). has_key keys t.term) ts && are_numbered 0 (filter_map (λ (t : Titled). aggregate_number t.term) ts) count

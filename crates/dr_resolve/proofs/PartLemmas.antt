-- The parts of a query.
use Rattle.std.proofs.Common.{◌≡◌, List, ◌++◌, Option, Some, None, sym, ◌∙◌}
use Rattle.std.specs.List.{flat_map}
use Rattle.dr_meaning.specs.Schema.{Fields}
use Rattle.dr_meaning.specs.Path.{Leaf}
use Rattle.dr_meaning.specs.BoundExpression as meant
use Rattle.dr_meaning.specs.BoundExpression.{BindFault, Checked, passes, fails, checked_map}
use Rattle.dr_meaning.specs.Binding.{BoundParts, first_fault, faults_in, part_faults}
use Rattle.dr_resolve.specs.Faults.{earlier}
use Rattle.dr_resolve.specs.Outcomes.{BindsAs}
use Rattle.dr_resolve.specs.Items.{IsTruth}
use Rattle.dr_resolve.specs.Parts.{IsCheckedCondition}
use Rattle.dr_resolve.specs.declared.bound.BoundCondition.{BoundCondition}
use Rattle.dr_resolve.proofs.FaultLemmas.{earlier_none, noted_behind}

-- what came of the value of a condition is the condition
pub condition_bound : (fs : Fields) (ls : List Leaf) (c : Checked meant.BoundExpression) (before now : Option BindFault) (o : Option BoundCondition) → BindsAs (IsTruth fs ls) before now c o
    → IsCheckedCondition fs ls (checked_map (λ x. Some x) c) o
condition_bound fs ls (passes b) before now None h = absurd h
condition_bound fs ls (passes b) before now (Some x) h = h.1
condition_bound fs ls (fails e es) before now None h = tt
condition_bound fs ls (fails e es) before now (Some x) h = absurd h

-- what keeps it from being bound is noted
pub condition_noted : (fs : Fields) (ls : List Leaf) (c : Checked meant.BoundExpression) (before now : Option BindFault) (o : Option BoundCondition) → BindsAs (IsTruth fs ls) before now c o
    → now ≡ earlier before (first_fault (faults_in (checked_map (λ x. Some x) c)))
condition_noted fs ls (passes b) before now None h = absurd h
condition_noted fs ls (passes b) before now (Some x) h = h.0 ∙ sym (earlier_none before)
condition_noted fs ls (fails e es) before now None h = h
condition_noted fs ls (fails e es) before now (Some x) h = absurd h

-- the faults of the condition, of the items, of the keys
pub parts_noted : (b : BoundParts) (before one two now : Option BindFault) → one ≡ earlier before (first_fault (faults_in b.condition)) → two ≡ earlier one (first_fault (flat_map faults_in b.items))
    → now ≡ earlier two (first_fault (flat_map faults_in b.keys)) → now ≡ earlier before (first_fault (part_faults b))
parts_noted b before one two now h k l =
    noted_behind before two now (faults_in b.condition ++ flat_map faults_in b.items) (flat_map faults_in b.keys)
    (noted_behind before one two (faults_in b.condition) (flat_map faults_in b.items) h k) l

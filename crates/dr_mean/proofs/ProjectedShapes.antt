-- Projections have the shapes of their fields.
use Rattle.std.specs.Prelude.{◌≡◌, List, [], ◌∷◌, map, Bool, true, ◌&&◌}
use Rattle.std.specs.List.{list_all}
use Rattle.std.proofs.Common.{refl, ap₂}
use Rattle.std.proofs.lemmas.Bool.{and_parts}
use Rattle.dr_meaning.specs.Schema.{Fields, no_fields, field, Shape, leaf, group}
use Rattle.dr_meaning.specs.Path.{Step}
use Rattle.dr_meaning.specs.Record.{Node, no_slots, slot, gap, Instances, no_instances, instance, Instance, atom, inner, all_instances, is_record, project, project_all, project_one, slot_for, through_first, through_later}
use Rattle.dr_meaning.specs.BindingLaws.{has_shapes, has_shape, fits_first}
use Rattle.dr_meaning.proofs.HasShapesLemmas.{records_have_shapes}

slot_fits : (test : Instance → Bool) (rest : Node → Bool) (G : List (List Step)) (xs : Instances) (n : Node) → all_instances test xs ≡ true → rest n ≡ true → fits_first test rest (slot_for G xs n) ≡ true
slot_fits test rest [] xs n h k = k
slot_fits test rest (p ∷ G) xs n h k = ap₂ ◌&&◌ h k

mutual
  projected_shapes : (n : Node) (fs : Fields) (F : List (List Step)) → has_shapes fs n ≡ true → has_shapes fs (project F n) ≡ true
  projected_shapes n no_fields F h = refl
  projected_shapes no_slots (field m r s fs) F h = refl
  projected_shapes (slot xs n) (field m r s fs) F h =
      let b : (all_instances (has_shape s) xs ≡ true) × (has_shapes fs n ≡ true) = and_parts _ _ h in
      slot_fits (has_shape s) (has_shapes fs) (through_first F) (project_all (through_first F) xs) (project (through_later F) n) (projected_all xs s (through_first F) b.0) (projected_shapes n fs (through_later F) b.1)
  projected_shapes (gap n) (field m r s fs) F h = projected_shapes n fs (through_later F) h

  projected_all : (xs : Instances) (s : Shape) (F : List (List Step)) → all_instances (has_shape s) xs ≡ true → all_instances (has_shape s) (project_all F xs) ≡ true
  projected_all no_instances s F h = refl
  projected_all (instance x xs) s F h =
      let b : (has_shape s x ≡ true) × (all_instances (has_shape s) xs ≡ true) = and_parts _ _ h in
      ap₂ ◌&&◌ (projected_one x s F b.0) (projected_all xs s F b.1)

  projected_one : (x : Instance) (s : Shape) (F : List (List Step)) → has_shape s x ≡ true → has_shape s (project_one F x) ≡ true
  projected_one (atom v) s F h = h
  projected_one (inner n) (leaf k) F h = cc
  projected_one (inner n) (group fs) F h = projected_shapes n fs F h

pub projections_have_shapes : (fs : Fields) (F : List (List Step)) (R : List Node) → list_all (is_record fs) R ≡ true → list_all (has_shapes fs) (map (project F) R) ≡ true
projections_have_shapes fs F [] h = refl
projections_have_shapes fs F (r ∷ R) h =
    let b : (is_record fs r ≡ true) × (list_all (is_record fs) R ≡ true) = and_parts _ _ h in
    ap₂ ◌&&◌ (projected_shapes r fs F (records_have_shapes fs r b.0)) (projections_have_shapes fs F R b.1)

-- The leaves of a plan, and which moves are of them.
use Rattle.std.proofs.Common.{◌≡◌, ◌<◌, ℕ, zero, suc, List, [], ◌∷◌, true, Some, None, refl, ap, ◌∙◌, subst}
use Rattle.std.specs.List.{list_all, slice_get}
use Rattle.dr_meaning.specs.Schema.{Schema, Fields}
use Rattle.dr_meaning.specs.Path.{Leaf, leaves, is_leaf_path, paths_of_leaves}
use Rattle.dr_meaning.specs.WalkLaws as nesting
use Rattle.dr_levels.specs.Views.{move_view}
use Rattle.dr_levels.specs.declared.moves.Move.{Move as CodeMove}
use Rattle.dr_moves.specs.Selection.{all_differ}
use Rattle.dr_plan.specs.Planned.{Planned, plan_leaves, IsOfSchema}
use Rattle.dr_plan.specs.declared.plan.Plan.{Plan}
use Rattle.dr_made_laws.proofs.LeavesInOrderLemmas.{query_leaves_in_order}
use Rattle.dr_scan.specs.FileRecords.{AreLeavesOf}
use Rattle.dr_walk.specs.Walking.{leaf_of}
use Rattle.dr_within.specs.Rows.{IsOfLeaf}
use Rattle.dr_scan.proofs.ScanLemmas.{plan_has_leaves}

pub plan_leaf_paths : (s : Schema) (p : Plan) → IsOfSchema s p → list_all (is_leaf_path s.fields) (paths_of_leaves (plan_leaves p)) ≡ true
plan_leaf_paths s p h = ap (λ (x : Planned). list_all (is_leaf_path s.fields) (paths_of_leaves x.leaves)) h.3 ∙ (query_leaves_in_order s.fields h.1).0

pub plan_paths_differ : (s : Schema) (p : Plan) → IsOfSchema s p → all_differ (paths_of_leaves (plan_leaves p)) ≡ true
plan_paths_differ s p h = ap (λ (x : Planned). all_differ (paths_of_leaves x.leaves)) h.3 ∙ (query_leaves_in_order s.fields h.1).2

leaf_at : (fs : Fields) (F : List Leaf) → AreLeavesOf fs F → nesting.AreLeavesOf fs F
leaf_at fs [] h i l e = let no : None ≡ Some l = e in cc
leaf_at fs (m ∷ F) h zero l e = let is : Some m ≡ Some l = e in let same : m ≡ l = cc in subst (λ (x : Leaf). (k : ℕ) × (slice_get (leaves fs) k ≡ Some x)) same h.0
leaf_at fs (m ∷ F) h (suc i) l e = leaf_at fs F h.1 i l e

pub plan_leaves_stand : (s : Schema) (p : Plan) → IsOfSchema s p → nesting.AreLeavesOf s.fields (plan_leaves p)
plan_leaves_stand s p h = leaf_at s.fields (plan_leaves p) (plan_has_leaves s p p.leaves.items h refl)

pub leaf_within : (n : ℕ) (m : CodeMove) → ((i : ℕ) → leaf_of m ≡ Some i → i < n) → IsOfLeaf n (move_view m)
leaf_within n (CodeMove.Enter k) h = tt
leaf_within n (CodeMove.Leaf i t) h = h i refl
leaf_within n (CodeMove.Leave k) h = tt

use Rattle.std.proofs.Common.{List, map, subst}
use Rattle.std.specs.Prelude.{option_map}
use Rattle.dr_nested.specs.PathView.{path_view}
use Rattle.dr_nested.specs.declared.path.Path.{Path}
use Rattle.dr_plan.specs.Views.{joining_view, truth_view}
use Rattle.dr_planning.specs.NamedLevels.{levels_view}
use Rattle.dr_paths.specs.declared.bound.BoundPath.{BoundPath}
use Rattle.dr_meaning.specs.Binding.{passing}
use Rattle.dr_planning.specs.Planning.{Selects}
use Rattle.dr_planning.proofs.PlanSelectionLemmas.{condition_right, selection_right}
use Rattle.dr_planning.proofs.PlanLemmas.{both_covered, plan_seen}
use Rattle.dr_planning.proofs.planning.plan_of.Goals as goal

pub invariant_of-result : goal.invariant_of-result
invariant_of-result c =
    let p = c.args.parts in
    let ls = map path_view c.args.leaves.items in
    let levels = levels_view c.args.levels.now in
    let s = c.in_ok-selection.selection in
    let w : Selects p.is_record_query levels ls p.keys.items p.items.items s =
    subst (λ (ps : List Path). Selects p.is_record_query levels (map path_view ps) p.keys.items p.items.items s) c.as_slice.ensures.value
    (subst (λ (ks : List BoundPath). Selects p.is_record_query levels (map path_view c.as_slice.result.now) ks p.items.items s) c.as_slice-2.ensures.value c.in_ok-selection.ensures) in
    let k = both_covered ls p c.requires.covered in
    record {
      tested = c.in_ok-condition.ensures.fits ls (condition_right c.requires.fields ls c.requires.bound.condition p.condition c.requires.parts.condition k.0);
      selected = selection_right c.requires.fields levels ls p.is_record_query p.keys.items (passing c.requires.bound.items) p.items.items s c.requires.parts.items k.1 c.requires.summed w;
    }

pub returns : goal.returns
returns c = λ fs b h e l.
    let p = c.args.parts in
    let ls = map path_view c.args.leaves.items in
    let levels = levels_view c.args.levels.now in
    let s = c.in_ok-selection.selection in
    let w : Selects p.is_record_query levels ls p.keys.items p.items.items s =
    subst (λ (ps : List Path). Selects p.is_record_query levels (map path_view ps) p.keys.items p.items.items s) c.as_slice.ensures.value
    (subst (λ (ks : List BoundPath). Selects p.is_record_query levels (map path_view c.as_slice.result.now) ks p.items.items s) c.as_slice-2.ensures.value c.in_ok-selection.ensures) in
    plan_seen fs levels ls b p (map (truth_view ls) c.in_ok-condition.condition.test.items) (option_map joining_view c.in_ok-condition.condition.joining) s h c.requires.covered e l (c.in_ok-condition.ensures.view ls) (c.in_ok-condition.ensures.joining ls) w

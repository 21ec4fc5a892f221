use Rattle.std.proofs.Common.{◌≡◌, ◌++◌, ◌∙◌, List, Option, map, ap, subst, arith}
use Rattle.std.specs.List.{flat_map}
use Rattle.dr_meaning.specs.BoundExpression as meant
use Rattle.dr_meaning.specs.BoundExpression.{BindFault, Checked}
use Rattle.dr_meaning.specs.Binding as binding
use Rattle.dr_paths.specs.Views.{bound_path_view}
use Rattle.dr_paths.specs.declared.bound.BoundPath.{BoundPath}
use Rattle.dr_resolve.specs.Faults.{earlier, first_view}
use Rattle.dr_planning.proofs.RuleLemmas.{noted_argument, noted_arguments}
use Rattle.dr_planning.proofs.rules.note_unrelated_arguments.Goals as goal

pub returns : goal.returns
returns c = λ fs ls ks bs ch h.
    noted_arguments fs ls (binding.unrelated_behind ks) bs c.args.arguments.now c.arguments.argument-index (first_view c.arguments.first)
    (earlier (first_view c.args.first.now) (binding.first_fault (flat_map (binding.unrelated_behind ks) bs))) h (omega arith) (c.arguments.invariant fs ls ks bs ch h)

pub arguments-preserved : goal.arguments-preserved
arguments-preserved c = λ fs ls ks bs ch h.
    let before = first_view c.arguments.first in
    let now = first_view c.note_behind_keys.new.first in
    let told : List meant.BoundPath → Option BindFault =
    λ qs. binding.first_fault (binding.where_passed (λ (ps : List meant.BoundPath). meant.unrelated_among (ps ++ qs)) ks) in
    noted_argument fs ls (binding.unrelated_behind ks) bs c.args.arguments.now c.arguments.argument-index c.argument-item.result before now
    (earlier (first_view c.args.first.now) (binding.first_fault (flat_map (binding.unrelated_behind ks) bs))) h (omega arith) c.argument-item.is
    (λ b ib. subst (λ (ps : List BoundPath). now ≡ earlier before (told (map bound_path_view ps))) c.deref.ensures.value (c.note_behind_keys.ensures ks ch) ∙ ap (λ qs. earlier before (told qs)) ib.paths)
    (c.arguments.invariant fs ls ks bs ch h)

use Rattle.std.proofs.Common.{List, map, ◌++◌, sym, ap, ap₂, ◌∙◌}
use denote.Ref.{Bor}
use Rattle.dr_meaning.specs.Path.{Step as MeantStep}
use Rattle.dr_nested.specs.PathView.{lent_path}
use Rattle.dr_nested.specs.declared.path.Step.{Step}
use Rattle.dr_paths.specs.declared.bound.BoundPath.{BoundPath}
use Rattle.dr_planning.specs.Planning.{condition_paths, selection_paths, steps_at}
use Rattle.dr_planning.proofs.PlanPathLemmas.{steps-append, parts_used}
use Rattle.dr_planning.proofs.value_paths.used_paths.Goals as goal

pub returns : goal.returns
returns c = λ fs ls b h.
    let p = c.args.parts.now in
    let chosen = selection_paths p.is_record_query p.keys.items p.items.items in
    c.in_ok-push_selection_paths.ensures
    ∙ (ap (λ (ps : List (List MeantStep)). ps ++ steps_at chosen)
    (c.in_ok-push_paths.ensures ∙ ap₂ (λ (us : List (Bor (List Step))) (ps : List BoundPath). map lent_path us ++ steps_at ps) c.new-used.ensures.items c.condition_paths.ensures)
    ∙ (sym (steps-append (condition_paths p.condition) chosen) ∙ parts_used fs ls b p h))

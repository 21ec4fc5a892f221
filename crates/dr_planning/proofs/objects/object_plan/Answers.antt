use Rattle.std.proofs.Common.{◌≡◌, ◌∙◌, List, map}
use Rattle.std.proofs.lemmas.Result.{IfOk-weaker}
use Rattle.dr_meaning.specs.Path.{Step}
use Rattle.dr_meaning.specs.Query.{RecordItem, term_chain, levels_of}
use Rattle.dr_meaning.specs.Schema.{Fields}
use Rattle.dr_nested.specs.PathView.{lent_path}
use Rattle.dr_planning.specs.NamedLevels.{NamedLevels, joined, levels_view}
use Rattle.dr_planning.specs.Trees.{named_object}
use Rattle.dr_planning.proofs.ObjectLemmas.{object_tree-named}
use Rattle.dr_planning.proofs.objects.object_plan.Goals as goal
use Rattle.dr_plan.specs.Objects.{object_tree_of, object_view}
use Rattle.dr_plan.specs.declared.objects.ObjectPlan.{ObjectPlan}

abbrev IsMeant : List (List Step) → NamedLevels → ObjectPlan → Type 0
IsMeant qs ns o = (fs : Fields) (its : List RecordItem) → ns ≡ joined (levels_of fs) → map (λ (i : RecordItem). term_chain i.term) its ≡ qs → object_view o ≡ object_tree_of fs its

pub returns-clause-meant : goal.returns-clause-meant
returns-clause-meant c =
    let qs = map lent_path c.args.items.now in
    let ns : NamedLevels = levels_view c.args.levels.now in
    IfOk-weaker c.object_at.result (λ (o : ObjectPlan). object_view o ≡ named_object qs ns) (IsMeant qs ns) (λ o e fs its n q. e ∙ object_tree-named qs ns fs its n q) c.object_at.ensures

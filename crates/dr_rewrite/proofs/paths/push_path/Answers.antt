use Rattle.std.proofs.Common.{◌++◌, ◌∙◌, ap, map, string_bytes}
use Rattle.std.proofs.lemmas.Result.{on_ok_weaker}
use Rattle.dr_meaning.specs.Schema.{group}
use Rattle.dr_nested.specs.PathView.{step_view}
use Rattle.dr_nested.specs.SchemaView.{schema_view}
use Rattle.dr_partials.specs.RewritingText.{path_names}
use Rattle.dr_rewrite.proofs.NameLemmas.{dots_between}
use Rattle.dr_rewrite.proofs.paths.push_path.Goals as goal

pub returns : goal.returns
returns c =
    on_ok_weaker c.push_names.result
    (λ e. e ∙ ap (λ x. string_bytes c.args.out.now ++ x) (dots_between (path_names (map step_view c.args.steps.now) (group (schema_view c.args.names.now.schema.now).fields))))
    c.push_names.ensures

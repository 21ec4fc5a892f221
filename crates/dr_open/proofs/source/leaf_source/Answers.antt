use Rattle.std.proofs.Common.{◌≡◌, ◌≤◌, ◌∙◌, map, length, sym, arith}
use Rattle.std.specs.Prelude.{option_map, option_and_then}
use Rattle.std.proofs.lemmas.List.{length-map}
use Rattle.std.proofs.lemmas.Result.{IfOk-weaker}
use Rattle.dr_meaning.specs.Schema.{greatest_depth}
use Rattle.dr_formats.specs.FileSchema.{file_schema}
use Rattle.dr_meta.specs.Views.{item_view}
use Rattle.dr_nested.specs.PathView.{path_view, step_view}
use Rattle.dr_open.specs.Sources.{lacking_in_file, source_of_group, source_in_file}
use Rattle.dr_open.specs.SourceViews.{source_view}
use Rattle.dr_open.proofs.SourceLemmas.{lacking_source_is}
use Rattle.dr_open.proofs.source.leaf_source.Goals as goal

pub returns-in-None-clause-source : goal.returns-in-None-clause-source
returns-in-None-clause-source c =
    let p = c.args.path.now in
    let l = path_view p in
    let o = file_schema (map item_view c.args.items.now) in
    let deep : length (map step_view p.steps.items) ≤ greatest_depth = omega (arith, p.within, length-map p.steps.items step_view) in
    IfOk-weaker c.lacking_source.result (λ x. option_map source_view x ≡ option_and_then (source_of_group l) (lacking_in_file l o)) (λ x. option_map source_view x ≡ source_in_file l o)
    (λ x q. q ∙ sym (lacking_source_is l o deep (sym c.in-None.ensures)))
    c.lacking_source.ensures.source

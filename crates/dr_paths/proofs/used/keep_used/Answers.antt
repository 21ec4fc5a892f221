use Rattle.std.proofs.Common.{◌∙◌, ap, map, rules}
use Rattle.std.proofs.lemmas.Fn.{filter_same}
use Rattle.dr_nested.specs.PathView.{path_view}
use Rattle.dr_paths.proofs.ListLemmas.{path_used, kept_views}
use Rattle.dr_paths.proofs.used.keep_used.Goals as goal

pub returns : goal.returns
returns c =
    let used = c.args.used.now in
    ap (map path_view) (filter_same _ (path_used used) _ (λ x b f' k. search rules) _ _ c.retain.ensures.filtered) ∙ kept_views used c.args.paths.now.items

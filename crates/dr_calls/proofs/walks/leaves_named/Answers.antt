use Rattle.std.proofs.Common.{◌≡◌, ◌++◌, [], ◌∷◌, ◌&&◌, true, ap, ap₂, ◌∙◌}
use Rattle.std.specs.List.{list_all}
use Rattle.std.proofs.lemmas.List.{map-append}
use Rattle.std.proofs.lemmas.List.Folds.{list_all-append}
use Rattle.dr_meaning.specs.Path.{is_leaf_path}
use Rattle.dr_nested.specs.Views.{fields_view}
use Rattle.dr_nested.specs.PathView.{path_view, paths_view}
use Rattle.dr_nested.specs.declared.path.Path.{Path}
use Rattle.dr_striper.specs.Striping.{leaves_of}
use Rattle.dr_striper.specs.Leaves.{is_leaf}
use Rattle.dr_calls.proofs.walks.leaves_named.Goals as goal

pub names-preserved : goal.names-preserved
names-preserved c =
    let fs = fields_view c.args.schema.now.fields.items in
    let field = c.in_ok-leaf_of.field-0 in
    let p = path_view field in
    let leaves : leaves_of c.push.new.self.items ≡ leaves_of c.names.fields.items ++ p ∷ [] = ap leaves_of c.in_ok-push.ensures.items ∙ map-append path_view c.names.fields.items (field ∷ []) in
    let paths : paths_view c.push.new.self.items ≡ paths_view c.names.fields.items ++ p.path ∷ [] = ap paths_view c.in_ok-push.ensures.items ∙ map-append (λ (q : Path). (path_view q).path) c.names.fields.items (field ∷ []) in
    record {
      leaves = ap (list_all (is_leaf fs)) leaves ∙ list_all-append (is_leaf fs) (leaves_of c.names.fields.items) (p ∷ []) ∙ ap₂ (λ a b. a && (b && true)) c.names.invariant.leaves c.in_ok-leaf_of.ensures.leaf;
      paths = ap (list_all (is_leaf_path fs)) paths ∙ list_all-append (is_leaf_path fs) (paths_view c.names.fields.items) (p.path ∷ []) ∙ ap₂ (λ a b. a && (b && true)) c.names.invariant.paths c.in_ok-leaf_of.ensures.path;
    }

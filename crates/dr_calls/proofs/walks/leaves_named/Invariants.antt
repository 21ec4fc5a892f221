use Rattle.std.proofs.Common.{◌≡◌, true}
use Rattle.std.specs.List.{list_all}
use Rattle.dr_meaning.specs.Path.{is_leaf_path}
use Rattle.dr_nested.specs.Views.{fields_view}
use Rattle.dr_nested.specs.PathView.{paths_view}
use Rattle.dr_striper.specs.Striping.{leaves_of}
use Rattle.dr_striper.specs.Leaves.{is_leaf}
use Rattle.dr_calls.proofs.walks.leaves_named.Given as goal

-- those found so far are leaves
abbrev pub invariant-names : goal.invariant-names
invariant-names l = record {
  leaves : list_all (is_leaf (fields_view l.schema.fields.items)) (leaves_of l.fields.items) ≡ true;
  paths : list_all (is_leaf_path (fields_view l.schema.fields.items)) (paths_view l.fields.items) ≡ true;
}

use Rattle.std.proofs.Common.{◌≡◌, ◌++◌, map}
use Rattle.std.specs.List.{flat_map}
use Rattle.dr_meaning.specs.BoundExpression.{bind_path}
use Rattle.dr_meaning.specs.Binding.{first_fault, faults_in, passing}
use Rattle.dr_sql.specs.Views as syntax
use Rattle.dr_paths.specs.Views.{bound_path_view}
use Rattle.dr_resolve.specs.Faults.{earlier, first_view}
use Rattle.dr_resolve.specs.Outcomes.{fields_in}
use Rattle.dr_resolve.proofs.ItemLemmas.{keys_from}
use Rattle.dr_resolve.proofs.names.Binder.keys.Given as goal

abbrev pub invariant-keys : goal.invariant-keys
invariant-keys l = record {
  keys : map bound_path_view l.bound.items ++ passing (keys_from (fields_in l.self) l.key-index l.keys) ≡ passing (map (bind_path (fields_in l.self)) (map syntax.path_view l.keys));
  faults : earlier (first_view l.first) (first_fault (flat_map faults_in (keys_from (fields_in l.self) l.key-index l.keys))) ≡ earlier (first_view l.fn.first) (first_fault (flat_map faults_in (map (bind_path (fields_in l.self)) (map syntax.path_view l.keys))));
}

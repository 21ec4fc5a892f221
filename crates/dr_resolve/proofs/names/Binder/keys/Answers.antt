use Rattle.std.proofs.Common.{map}
use Rattle.std.specs.List.{flat_map}
use Rattle.dr_meaning.specs.BoundExpression.{bind_path}
use Rattle.dr_meaning.specs.Binding.{first_fault, faults_in, passing}
use Rattle.dr_sql.specs.Views as syntax
use Rattle.dr_resolve.specs.Faults.{earlier, first_view}
use Rattle.dr_resolve.specs.Outcomes.{fields_in}
use Rattle.dr_resolve.proofs.ItemLemmas.{key_more, key_faults_more}
use Rattle.dr_resolve.proofs.names.Binder.keys.Goals as goal

pub keys-preserved : goal.keys-preserved
keys-preserved c =
    let fs = fields_in c.args.self in
    let ks = c.args.keys.now in
    let all = map (bind_path fs) (map syntax.path_view ks) in
    record {
      keys = key_more fs c.keys.key-index ks c.key-item.result (first_view c.keys.first) (first_view c.path.new.first) c.in_ok-key.key c.keys.bound.items c.push_bound.new.bound.items (passing all) c.keys-test.true c.key-item.is
          c.in_ok-push_bound.ensures c.in_ok-key.ensures c.keys.invariant.keys;
      faults = key_faults_more fs c.keys.key-index ks c.key-item.result (first_view c.keys.first) (first_view c.path.new.first) (earlier (first_view c.args.first.now) (first_fault (flat_map faults_in all))) c.in_ok-key.key c.keys-test.true c.key-item.is
          c.in_ok-key.ensures c.keys.invariant.faults;
    }

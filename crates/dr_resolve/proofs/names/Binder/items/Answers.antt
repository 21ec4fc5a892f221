use Rattle.std.proofs.Common.{map, subst, ap}
use Rattle.std.specs.List.{flat_map}
use Rattle.std.proofs.lemmas.List.{drop_all}
use Rattle.dr_meaning.specs.Binding.{first_fault, faults_in, bind_items, arguments_alone}
use Rattle.dr_sql.specs.Views as syntax
use Rattle.dr_resolve.specs.Faults.{earlier, first_view}
use Rattle.dr_resolve.specs.Outcomes.{fields_in, leaves_in}
use Rattle.dr_resolve.proofs.ItemLemmas.{AloneSoFar, GoesOn, item_more, item_faults_more, none_left, alone_more, all_alone}
use Rattle.dr_resolve.proofs.names.Binder.items.Goals as goal

pub items-preserved : goal.items-preserved
items-preserved c =
    let fs = fields_in c.args.self in
    let ls = leaves_in c.args.self in
    let xs = c.args.items.now in
    let all = bind_items fs 0 (map syntax.item_view xs) in
    record {
      items = item_more fs ls c.items.number xs c.index-items-number.result (first_view c.items.first) (first_view c.item.new.first) c.in_ok-item.item c.items.bound.items c.push_bound.new.bound.items all c.items-test.true c.index-items-number.is
          c.in_ok-push_bound.ensures c.in_ok-item.ensures.item c.items.invariant.items;
      alone = alone_more fs ls c.items.number xs c.index-items-number.result (arguments_alone fs (map syntax.item_view xs)) c.args.alone.now.items c.items.alone.items c.item.new.alone.items c.items-test.true c.index-items-number.is
          c.in_ok-item.ensures.alone c.items.invariant.alone;
      faults = item_faults_more fs ls c.items.number xs c.index-items-number.result (first_view c.items.first) (first_view c.item.new.first) (earlier (first_view c.args.first.now) (first_fault (flat_map faults_in all))) c.in_ok-item.item c.items-test.true c.index-items-number.is
          c.in_ok-item.ensures.item c.items.invariant.faults;
    }

pub returns-clause-items : goal.returns-clause-items
returns-clause-items c =
    let fs = fields_in c.args.self in
    let ls = leaves_in c.args.self in
    let xs = c.args.items.now in
    let all = bind_items fs 0 (map syntax.item_view xs) in
    none_left fs ls all c.items.bound.items
    (subst (λ rest. GoesOn fs ls rest all c.items.bound.items) (ap (λ ys. bind_items fs c.items.number (map syntax.item_view ys)) (drop_all c.items.number xs c.items-test.false)) c.items.invariant.items)

pub returns-clause-alone : goal.returns-clause-alone
returns-clause-alone c =
    let fs = fields_in c.args.self in
    let ls = leaves_in c.args.self in
    let xs = c.args.items.now in
    let all = arguments_alone fs (map syntax.item_view xs) in
    all_alone fs ls all c.args.alone.now.items c.items.alone.items
    (subst (λ rest. AloneSoFar fs ls rest all c.args.alone.now.items c.items.alone.items) (ap (λ ys. arguments_alone fs (map syntax.item_view ys)) (drop_all c.items.number xs c.items-test.false)) c.items.invariant.alone)

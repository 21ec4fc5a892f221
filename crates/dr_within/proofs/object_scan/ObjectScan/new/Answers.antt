use Rattle.std.proofs.Common.{◌≡◌, ℕ, List, length, map, subst, arith}
use Rattle.std.proofs.lemmas.List.{length-map}
use Rattle.dr_nested.specs.PathView.{path_view}
use Rattle.dr_nested.specs.SchemaView.{schema_view}
use Rattle.dr_made_laws.specs.ObjectFlow.{items_of}
use Rattle.dr_plan.specs.Planned.{plan_leaves}
use Rattle.dr_plan.specs.declared.plan.RecordItem.{RecordItem}
use Rattle.dr_within.specs.ItemFirings.{FiresItems}
use Rattle.dr_within.specs.ObjectsBehind.{read_items}
use Rattle.dr_within.proofs.ObjectEnds.{plan_tree}
use Rattle.dr_within.proofs.object_scan.ObjectScan.new.Goals as goal

pub returns : goal.returns
returns c =
    let s = schema_view c.args.schema.now in
    let p = c.args.plan.now in
    let h = c.requires.planned in
    let items = c.args.items.now in
    let I = items_of (read_items (plan_leaves p) items.items) in
    let n = length-map p.leaves.items path_view in
    let k : c.len.result ≡ length (map path_view p.leaves.items) = omega (arith, c.len.ensures, n, p.leaves.ok.0) in
    let fires = subst (λ (xs : List RecordItem). FiresItems c.len.result xs c.in_ok-firing.firing) c.deref.ensures.value c.in_ok-firing.ensures in
    record {
      items = items;
      object = c.args.object.now;
      selects = c.requires.selects;
      is_for = record {
        items_are = c.deref-2.ensures.value;
        levels = c.in_ok-levels.ensures I (plan_tree s h.1 p items c.args.object.now (h.0, h.2, h.3) c.requires.selects);
        fires = subst (λ (m : ℕ). FiresItems m items.items c.in_ok-firing.firing) k fires;
        shape = c.in_ok-shape.ensures;
        watches = c.requires.watches;
      };
      behind = record {
        watched = c.requires.watched;
        made = c.new-2.ensures I;
      };
    }

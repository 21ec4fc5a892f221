use Rattle.std.proofs.Common.{◌∙◌, sym, ap, map, drop, arith, ◌+◌, ℕ, List}
use Rattle.std.specs.Prelude.{bytes_eq}
use Rattle.dr_meaning.specs.Query.{term_chain}
use Rattle.dr_nested.specs.PathView.{path_view}
use Rattle.dr_ordering.specs.Ordered.{place_of_name, record_names}
use Rattle.dr_plan.specs.Views.{record_item_view}
use Rattle.dr_sub.proofs.NestedLemmas.{Ahead, name_passed, item_named, item_inside, empty_chain}
use Rattle.dr_sub.proofs.ordering.place_in_object.Goals as goal
use Rattle.dr_sub.proofs.ordering.place_in_object.Goals.{then-is_empty+else-eq, else-is_empty}

pub items-preserved : goal.items-preserved
items-preserved c =
    let see = record_item_view (map path_view c.args.leaves.now) in
    let xs = c.args.items.now in
    let k = c.items.item-index in
    let x = c.item-item.result in
    let name = c.args.name.now in
    let rest = record_names (map see (drop (k + 1) xs)) in
    let s = empty_chain c.chain_of_term.result.now (term_chain (see x).term) c.is_empty.result c.is_empty.ensures c.chain_of_term.ensures in
    elim c.if-is_empty.branch [
      | then-is_empty+else-eq w ↦ record {
        rest = ap (λ (n : ℕ). Ahead n (place_of_name name rest)) w.place-is
            ∙ name_passed name (see x).name rest c.items.place w.eq.result (w.eq.ensures ∙ ap (bytes_eq name) w.as_str.ensures.value) w.if-eq.false
            ∙ ap (λ (ms : List (List ℕ)). Ahead c.items.place (place_of_name name ms)) (sym (item_named see xs k x c.is_empty.result c.items-test.true c.item-item.is s w.if-is_empty.true))
            ∙ c.items.invariant.rest;
        within = omega (arith, w.place-is, c.items.invariant.within);
      }
      | else-is_empty w ↦ record {
        rest = ap (λ (n : ℕ). Ahead n (place_of_name name rest)) w.place-is
            ∙ ap (λ (ms : List (List ℕ)). Ahead c.items.place (place_of_name name ms)) (sym (item_inside see xs k x c.is_empty.result c.items-test.true c.item-item.is s w.if-is_empty.false))
            ∙ c.items.invariant.rest;
        within = omega (arith, w.place-is, c.items.invariant.within);
      }
    ]

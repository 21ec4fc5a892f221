use Rattle.std.proofs.Common.{◌++◌, ◌∙◌, sym, ap, string_bytes}
use Rattle.std.specs.Prelude.{option_map}
use Rattle.dr_nested.specs.SchemaView.{schema_view}
use Rattle.dr_ordered.specs.Orders.{order_view}
use Rattle.dr_rewrite.specs.Arranging.{value_names}
use Rattle.dr_rewrite.specs.Lines.{inner_line, root_line}
use Rattle.dr_rewrite.proofs.NestedLemmas.{lines_are, lines_written, of_plans, plans_from}
use Rattle.dr_rewrite.proofs.nested.nested_text.Goals as goal
use Rattle.dr_sub_meaning.specs.NestedText.{limit_text, order_text}

pub leaf_query_through-requires : goal.leaf_query_through-requires
leaf_query_through-requires c =
    let s = schema_view c.args.schema.now in
    let p = c.args.plans.now in
    let n = c.requires.planned.0 in
    record { planned = (n, of_plans s p.inner.items c.deref.result.now p.outer n (sym c.deref.ensures.value) (plans_from s n p c.args.schema.now.valid c.requires.planned.1)) }

pub returns : goal.returns
returns c =
    let s = schema_view c.args.schema.now in
    let p = c.args.plans.now in
    let leaf = string_bytes c.in_ok-leaf.leaf in
    let z = p.outer.selection in
    let begun = string_bytes c.push_str.new.self in
    record {
      text = λ n h.
          lines_written (string_bytes c.push_str-5.new.self) leaf (inner_line z) (root_line z) (order_text (value_names z) (option_map order_view p.order)) (limit_text p.limit)
          (string_bytes c.new-text.result) begun (string_bytes c.push_str-2.new.self) (string_bytes c.push_str-3.new.self) (string_bytes c.push_inner_line.new.out)
          (string_bytes c.push_str-4.new.self) (string_bytes c.push_root_line.new.out) (string_bytes c.push_order.new.out) (string_bytes c.push_limit.new.out)
          c.new-text.ensures.bytes c.in_ok-push_str.ensures.bytes (c.in_ok-push_str-2.ensures.bytes ∙ ap (λ x. begun ++ x) c.as_str.ensures.value) c.in_ok-push_str-3.ensures.bytes c.in_ok-push_inner_line.ensures
          c.in_ok-push_str-4.ensures.bytes c.in_ok-push_root_line.ensures c.in_ok-push_order.ensures c.in_ok-push_limit.ensures c.in_ok-push_str-5.ensures.bytes
          ∙ lines_are s n p leaf h (c.in_ok-leaf.ensures n (of_plans s p.inner.items c.deref.result.now p.outer n (sym c.deref.ensures.value) (plans_from s n p c.args.schema.now.valid h)));
    }

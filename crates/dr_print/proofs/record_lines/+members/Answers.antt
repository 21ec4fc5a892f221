use Rattle.std.proofs.Common.{arith, sym, ap, ◌∙◌, ◌++◌, ◌∷◌, [], ◌≤◌, List, ℕ, false, length, string_bytes}
use Rattle.std.proofs.lemmas.Result.{on_ok_weaker}
use Rattle.dr_meaning.specs.Record.{Node}
use Rattle.dr_meaning.specs.Print.{braced, record_members}
use Rattle.dr_nested.specs.Views.{rep_view, field_view, fields_view, node_view, instances_view}
use Rattle.dr_nested.proofs.ViewLemmas.{view-node}
use Rattle.dr_print.specs.Members.{held_text, texts_in}
use Rattle.dr_print.proofs.MemberLemmas.{closed, node_text, list_held, first_held, past_slots}
use Rattle.dr_print.proofs.record_lines.+members.Goals as goal
use Rattle.dr_meaning.specs.Lists.{separated}

pub push_held-returns-in_ok-push_instances-in-Repeated : goal.push_held-returns-in_ok-push_instances-in-Repeated
push_held-returns-in_ok-push_instances-in-Repeated t c =
    let f = c.args.field.now in
    let xs = instances_view c.args.instances.now.items in
    let old = string_bytes c.args.text.now in
    closed c.push_str-in-Repeated.result (string_bytes c.push_str-in-Repeated.new.self) (string_bytes c.push_instances.new.text) (93 ∷ []) (old ++ held_text (rep_view f.rep) (texts_in (field_view f) xs))
    c.push_str-in-Repeated.ensures.bytes
    (list_held f xs old (string_bytes c.push_str.new.self) (string_bytes c.push_instances.new.text) c.in-Repeated.is c.in_ok-push_str-in-Repeated.ensures.bytes c.in_ok-push_instances-in-Repeated.ensures)

pub push_held-returns-in-Some : goal.push_held-returns-in-Some
push_held-returns-in-Some t c =
    on_ok_weaker c.push_instance.result
    (λ e. e ∙ ap (λ (x : List ℕ). string_bytes c.args.text.now ++ x) (first_held c.args.field.now c.args.instances.now.items c.deref.result.now c.in-Some.instance.now c.in-Required.is c.deref.ensures.value c.in-Some.ensures.value))
    c.push_instance.ensures

pub push_members-returns : goal.push_members-returns
push_members-returns t c =
    let fs = c.args.fields.now.items in
    let ss = c.args.node.now.slots.items in
    let old = string_bytes c.args.text.now in
    let end : length ss ≤ c.slots.place = omega (arith, ap length c.deref-slot-items.ensures.value) in
    past_slots fs ss c.slots.place c.slots.behind old (string_bytes c.slots.text) end c.slots.invariant
    ∙ ap (λ (n : Node). old ++ separated false (record_members (fields_view fs) n)) (sym (view-node c.args.node.now))

pub push_node-returns : goal.push_node-returns
push_node-returns t c =
    let ms = record_members (fields_view c.args.fields.now.items) (node_view c.args.node.now) in
    let old = string_bytes c.args.text.now in
    closed c.push_str-2.result (string_bytes c.push_str-2.new.self) (string_bytes c.push_members.new.text) (125 ∷ []) (old ++ braced ms) c.push_str-2.ensures.bytes
    (node_text ms old (string_bytes c.push_str.new.self) (string_bytes c.push_members.new.text) c.in_ok-push_str.ensures.bytes c.in_ok-push_members.ensures)

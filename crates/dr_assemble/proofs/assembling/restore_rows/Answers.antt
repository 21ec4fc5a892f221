use Rattle.std.proofs.Common.{◌≡◌, suc, ◌+◌, ◌-◌, ◌++◌, [], ◌∷◌, List, None, map, take, drop, length, Vec, Global, sym, ap, ap₂, ◌∙◌, arith}
use Rattle.std.proofs.lemmas.List.{map-append}
use Rattle.dr_meaning.specs.Record as record_tree
use Rattle.dr_nested.specs.declared.record.Node.{Node}
use Rattle.dr_nested.specs.Views.{fields_view, node_view}
use Rattle.dr_assemble.specs.Restoring as restoring
use Rattle.dr_assemble.specs.Restoring.{first_pieces, other_pieces}
use Rattle.dr_assemble.specs.Views.{strips_view}
use Rattle.dr_assemble.specs.declared.strip.Strip.{Strip}
use Rattle.dr_assemble.proofs.LoopLemmas.{written_back, behind, instance_more, instance_fails, fails_from}
use Rattle.dr_assemble.proofs.assembling.restore_rows.Goals as goal

pub returns-in_err-restore_node : goal.returns-in_err-restore_node
returns-in_err-restore_node c =
    let f = restoring.assembled (fields_view c.args.fields.now.items) 0 0 0 in
    let S = strips_view c.rows.left.items in
    let m = restoring.restored_each f 0 c.args.rows (strips_view c.args.strips.now) in
    let first : take c.rows.first.len (c.cut.new.first ++ drop (length c.cut.new.first) c.rows.first.items) ≡ c.cut.new.first =
    written_back c.cut.new.first c.rows.first.items c.rows.first.len (omega (arith, c.cut.auto.first, ap length c.deref_mut-in-rows.ensures.value)) (omega (arith, c.rows.first.ok.0)) in
    let piece : strips_view c.deref.result.now ≡ first_pieces 0 S =
    ap strips_view (c.deref.ensures.value ∙ first) ∙ c.cut.ensures.first ∙ ap (λ (ss : List Strip). first_pieces 0 (strips_view ss)) c.deref_mut.ensures.value in
    let one_left : c.args.rows - c.rows.done ≡ suc (c.args.rows - (c.rows.done + 1)) = omega arith in
    fails_from (λ (v : Vec Node Global). map node_view v.items) node_view m (f (strips_view c.deref.result.now)) _ c.in_err-restore_node.field-0.0 c.from_residual-in_err-restore_node.ensures.1 c.in_err-restore_node.ensures
    (λ (e : f (strips_view c.deref.result.now) ≡ None).
    instance_fails f 0 (c.args.rows - c.rows.done) (c.args.rows - (c.rows.done + 1)) S (map node_view c.rows.nodes.items) m c.rows.invariant.so_far one_left (sym (ap f piece) ∙ e))

pub rows-preserved : goal.rows-preserved
rows-preserved c =
    let f = restoring.assembled (fields_view c.args.fields.now.items) 0 0 0 in
    let S = strips_view c.rows.left.items in
    let m = restoring.restored_each f 0 c.args.rows (strips_view c.args.strips.now) in
    let first : take c.rows.first.len (c.cut.new.first ++ drop (length c.cut.new.first) c.rows.first.items) ≡ c.cut.new.first =
    written_back c.cut.new.first c.rows.first.items c.rows.first.len (omega (arith, c.cut.auto.first, ap length c.deref_mut-in-rows.ensures.value)) (omega (arith, c.rows.first.ok.0)) in
    let piece : strips_view c.deref.result.now ≡ first_pieces 0 S =
    ap strips_view (c.deref.ensures.value ∙ first) ∙ c.cut.ensures.first ∙ ap (λ (ss : List Strip). first_pieces 0 (strips_view ss)) c.deref_mut.ensures.value in
    let one_left : c.args.rows - c.rows.done ≡ suc (c.args.rows - (c.rows.done + 1)) = omega arith in
    let left : take c.rows.left.len (c.cut.new.left ++ drop (length c.cut.new.left) c.rows.left.items) ≡ c.cut.new.left =
    written_back c.cut.new.left c.rows.left.items c.rows.left.len (omega (arith, c.cut.auto.left, ap length c.deref_mut.ensures.value)) (omega (arith, c.rows.left.ok.0)) in
    let x = c.in_ok-restore_node.field-0 in
    let others : strips_view (take c.rows.left.len (c.cut.new.left ++ drop (length c.cut.new.left) c.rows.left.items)) ≡ other_pieces 0 S =
    ap strips_view left ∙ c.cut.ensures.others ∙ ap (λ (ss : List Strip). other_pieces 0 (strips_view ss)) c.deref_mut.ensures.value in
    let pushed : map node_view c.push.new.self.items ≡ map node_view c.rows.nodes.items ++ node_view x ∷ [] = ap (map node_view) c.in_ok-push.ensures.items ∙ map-append node_view c.rows.nodes.items (x ∷ []) in
    record {
      lengths = omega (arith, ap length first, ap length left, c.cut.auto.first, c.cut.auto.left, ap length c.deref_mut.ensures.value, ap length c.deref_mut-in-rows.ensures.value, c.rows.invariant.lengths);
      so_far =
          instance_more f 0 (c.args.rows - c.rows.done) (c.args.rows - (c.rows.done + 1)) S (map node_view c.rows.nodes.items) m c.rows.invariant.so_far one_left (node_view x) (sym (ap f piece) ∙ c.in_ok-restore_node.ensures)
          ∙ ap₂ (λ (ys : List record_tree.Node) (T : List restoring.Strip). behind ys (restoring.restored_each f 0 (c.args.rows - (c.rows.done + 1)) T)) (sym pushed) (sym others);
    }

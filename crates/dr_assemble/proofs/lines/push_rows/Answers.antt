use Rattle.std.proofs.Common.{◌≡◌, suc, ◌+◌, ◌-◌, ◌++◌, List, false, length, take, drop, ap, ◌∙◌, arith, string_bytes}
use Rattle.dr_meaning.specs.Schema.{group}
use Rattle.dr_nested.specs.Views.{fields_view}
use Rattle.dr_assemble.specs.Lines.{text_one, strip_lines}
use Rattle.dr_assemble.specs.Restoring as restoring
use Rattle.dr_assemble.specs.Restoring.{first_pieces, other_pieces}
use Rattle.dr_assemble.specs.Views.{strips_view}
use Rattle.dr_assemble.specs.declared.strip.Strip.{Strip}
use Rattle.dr_assemble.proofs.LoopLemmas.{written_back}
use Rattle.dr_assemble.proofs.PrintingLemmas.{line_more}
use Rattle.dr_assemble.proofs.lines.push_rows.Goals as goal

pub rows-preserved : goal.rows-preserved
rows-preserved c =
    let fs = fields_view c.args.fields.now.items in
    let f = text_one (group fs) 0 0 in
    let S = strips_view c.rows.left.items in
    let whole = string_bytes c.args.text.now ++ strip_lines fs c.args.rows (strips_view c.args.strips.now) in
    let first : take c.rows.first.len (c.cut.new.first ++ drop (length c.cut.new.first) c.rows.first.items) ≡ c.cut.new.first =
    written_back c.cut.new.first c.rows.first.items c.rows.first.len (omega (arith, c.cut.auto.first, ap length c.deref_mut-in-rows.ensures.value)) (omega (arith, c.rows.first.ok.0)) in
    let left : take c.rows.left.len (c.cut.new.left ++ drop (length c.cut.new.left) c.rows.left.items) ≡ c.cut.new.left =
    written_back c.cut.new.left c.rows.left.items c.rows.left.len (omega (arith, c.cut.auto.left, ap length c.deref_mut.ensures.value)) (omega (arith, c.rows.left.ok.0)) in
    let piece : strips_view c.deref.result.now ≡ first_pieces 0 S =
    ap strips_view (c.deref.ensures.value ∙ first) ∙ c.cut.ensures.first ∙ ap (λ (ss : List Strip). first_pieces 0 (strips_view ss)) c.deref_mut.ensures.value in
    let others : strips_view (take c.rows.left.len (c.cut.new.left ++ drop (length c.cut.new.left) c.rows.left.items)) ≡ other_pieces 0 S =
    ap strips_view left ∙ c.cut.ensures.others ∙ ap (λ (ss : List Strip). other_pieces 0 (strips_view ss)) c.deref_mut.ensures.value in
    let one_left : c.args.rows - c.rows.done ≡ suc (c.args.rows - (c.rows.done + 1)) = omega arith in
    record {
      lengths = omega (arith, ap length first, ap length left, c.cut.auto.first, c.cut.auto.left, ap length c.deref_mut.ensures.value, ap length c.deref_mut-in-rows.ensures.value, c.rows.invariant.lengths);
      so_far =
          line_more f 0 (c.args.rows - c.rows.done) (c.args.rows - (c.rows.done + 1)) S false (string_bytes c.rows.text) whole (string_bytes c.push_group.new.text) (string_bytes c.push_str.new.self) _
          one_left (c.in_ok-push_group.ensures ∙ ap (λ (T : List restoring.Strip). string_bytes c.rows.text ++ f T) piece) c.in_ok-push_str.ensures.bytes others c.rows.invariant.so_far;
    }

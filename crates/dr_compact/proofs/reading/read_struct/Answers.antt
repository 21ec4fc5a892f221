use Rattle.std.proofs.Common.{◌∙◌, ap, sym, subst, arith, length, drop, ◌-◌}
use Rattle.std.proofs.lemmas.Result.{err_from_is_err_and}
use Rattle.dr_formats.specs.Reading.{got}
use Rattle.dr_bytes.specs.Cutting.{left}
use Rattle.dr_compact.specs.Reads.{IsFaultOf}
use Rattle.dr_compact.specs.Views.{tree_view}
use Rattle.dr_compact.specs.Steps.{struct_inside}
use Rattle.dr_compact.proofs.LoopLemmas.{whole_struct, rest_dropped, rest_within}
use Rattle.dr_compact.proofs.reading.read_struct.Goals as goal

pub returns-in_err-tree-clause-fault : goal.returns-in_err-tree-clause-fault
returns-in_err-tree-clause-fault c =
    let p = err_from_is_err_and c.from_residual.result c.from_residual.ensures.1 in
    let bytes = c.args.bytes.now in
    let here = subst (λ b. IsFaultOf c.in_err-tree.field-0.0 (struct_inside 32 b)) c.new-cut.ensures.left c.in_err-tree.ensures in
    rw (p.1, p.2) (subst (IsFaultOf c.in_err-tree.field-0.0) (whole_struct bytes) here)

pub overflow_sub-result : goal.overflow_sub-result
overflow_sub-result c =
    let here = ap (struct_inside 32) (sym c.new-cut.ensures.left) ∙ c.in_ok-tree.ensures in
    omega (arith, rest_within c.args.bytes.now (left c.read_tree.new.cut) (tree_view c.in_ok-tree.tree) here, ap length c.rest.ensures)

pub returns-clause-read : goal.returns-clause-read
returns-clause-read c =
    let bytes = c.args.bytes.now in
    let here = ap (struct_inside 32) (sym c.new-cut.ensures.left) ∙ c.in_ok-tree.ensures in
    let dropped = ap (λ r. drop (length bytes - length r) bytes) c.rest.ensures ∙ rest_dropped bytes (left c.read_tree.new.cut) (tree_view c.in_ok-tree.tree) here in
    sym (whole_struct bytes) ∙ (here ∙ ap (got (tree_view c.in_ok-tree.tree)) (sym dropped))

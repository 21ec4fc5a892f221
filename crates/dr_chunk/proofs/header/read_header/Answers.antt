use Rattle.std.proofs.lemmas.Result.{err_from_is_err_and}
use Rattle.dr_compact.specs.Views.{tree_view}
use Rattle.dr_meta.specs.Views.{page_view}
use Rattle.dr_chunk.proofs.HeaderLemmas.{header_goes_on, view_fault}
use Rattle.dr_chunk.proofs.header.read_header.Goals as goal

pub returns-clause-header : goal.returns-clause-header
returns-clause-header c = λ more. header_goes_on c.args.bytes.now more c.in_ok-tree.size (tree_view c.in_ok-tree.tree) (page_view c.in_ok-head.head) c.in_ok-tree.ensures.within c.in_ok-tree.ensures.read c.in_ok-head.ensures

pub returns-in_err-head-clause-fault : goal.returns-in_err-head-clause-fault
returns-in_err-head-clause-fault c =
    let p = err_from_is_err_and c.from_residual-in_err-head.result c.from_residual-in_err-head.ensures.1 in
    rw (p.1, p.2) (view_fault c.args.bytes.now c.in_ok-tree.size (tree_view c.in_ok-tree.tree) c.in_err-head.field-0.0 c.in_ok-tree.ensures.within c.in_ok-tree.ensures.read c.in_err-head.ensures)

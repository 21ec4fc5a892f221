-- An instance on the condition's chain has a true row in the walk exactly where it is kept.
use Rattle.std.proofs.Common.{sym, ap, ◌∙◌}
use Rattle.std.specs.List.{list_any}
use Rattle.dr_meaning.specs.Path.{chain_end}
use Rattle.dr_meaning.specs.Record.{Instances, single}
use Rattle.dr_moves.specs.KeptLaws.{TrueRowKeepsInstance}
use Rattle.dr_moves.proofs.RowsRead.{irows, single_rows}
use Rattle.dr_moves.proofs.KeptRows.{instance_any, any_map, kept_any}
use Rattle.dr_moves.proofs.FiringInside.{true_row_inside}

pub true_row_keeps_instance : TrueRowKeepsInstance
true_row_keeps_instance i h G p c o u j at x z K r w row test T l e m =
    true_row_inside i h G p c o u j at x z K r w (λ y. test (row (single y))) T l e m
    ∙ sym (any_map (λ (ys : Instances). test (row ys)) single (irows (chain_end p) x))
    ∙ ap (list_any (λ (ys : Instances). test (row ys))) (sym (single_rows (chain_end p) x))
    ∙ sym (instance_any (chain_end p) (kept_any (chain_end p)) row test x)

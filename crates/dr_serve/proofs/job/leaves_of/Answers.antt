use Rattle.std.proofs.Common.{◌∷◌, [], ap, ap₂, sym, ◌∙◌, ◌++◌}
use Rattle.std.proofs.lemmas.List.{map-append}
use Rattle.dr_table.specs.Views.{table_view}
use Rattle.dr_reading.specs.Scan.{Copy}
use Rattle.dr_serve.specs.Working.{directories_of}
use Rattle.dr_scan.proofs.CopyLemmas.{copies_next}
use Rattle.dr_serve.proofs.job.leaves_of.Goals as goal

pub copies-preserved : goal.copies-preserved
copies-preserved c =
    c.in_ok-push.ensures.items
    ∙ (ap₂ (λ xs x. xs ++ x ∷ []) c.copies.invariant c.placement.ensures.leaf
    ∙ (sym (map-append (λ (x : Copy). x.directory) _ _) ∙ sym (ap directories_of (copies_next (table_view c.args.table.now).leaves c.args.tablet c.copies.copy))))

use Rattle.std.proofs.Common.{◌∷◌, [], ap, ap₂, sym, ◌∙◌, ◌++◌, map}
use Rattle.std.proofs.lemmas.List.{map-append}
use Rattle.dr_table.specs.Views.{table_view}
use Rattle.dr_serve.specs.Working.{directories_of}
use Rattle.dr_scan.proofs.TableLemmas.{tablets_next}
use Rattle.dr_serve.proofs.job.job_of.Goals as goal

pub tablets-preserved : goal.tablets-preserved
tablets-preserved c =
    ap (map (λ v. v.items)) c.in_ok-push.ensures.items
    ∙ (map-append (λ v. v.items) c.tablets.leaves.items _
    ∙ (ap₂ (λ xs x. xs ++ x ∷ []) c.tablets.invariant c.in_ok-leaves_of.ensures
    ∙ (sym (map-append directories_of _ _) ∙ sym (ap (map directories_of) (tablets_next (table_view c.args.table.now).leaves c.args.table.now.copies c.tablets.tablet)))))

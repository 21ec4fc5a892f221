use Rattle.std.proofs.Common.{◌∙◌, List, ap, sym, subst}
use Rattle.std.proofs.lemmas.Result.{IfOk-weaker}
use Rattle.dr_partials.specs.Putting.{Put}
use Rattle.dr_plan.specs.declared.aggregate.Aggregate.{Aggregate}
use Rattle.dr_columns.specs.Numbers.{HasPut}
use Rattle.dr_columns.specs.Takings.{record_puts}
use Rattle.dr_columns.proofs.KeylessLemmas.{nulls_at_once}
use Rattle.dr_columns.proofs.taking.take_record_values.Goals as goal

pub returns-in-Rows-clause-put : goal.returns-in-Rows-clause-put
returns-in-Rows-clause-put c =
    let i = c.args.taking.number in
    IfOk-weaker c.put_many.result _ _ (λ done h. subst (λ (ps : List Put). HasPut c.args.groups.now ps c.put_many.new.groups)
    (nulls_at_once i c.args.records ∙ ap (λ (a : Aggregate). record_puts c.args.records (record { number = i; aggregate = a })) (sym c.in-Rows.is)) h) c.put_many.ensures.put

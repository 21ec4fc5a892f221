use Rattle.std.proofs.Common.{length, map, sym, ap, ◌∙◌}
use Rattle.std.proofs.lemmas.List.{length-map, length-replicate}
use Rattle.dr_nested.specs.Views.{fields_view}
use Rattle.dr_nested.specs.PathView.{lent_path}
use Rattle.std.specs.Prelude.{None}
use Rattle.dr_walk.proofs.ValueLemmas.{kept_first}
use Rattle.dr_walk.proofs.walk.Walk.start.Goals as goal

pub returns-clause-at : goal.returns-clause-at
returns-clause-at c = λ C e.
    let fs = fields_view c.args.schema.now.fields.items in
    let F = map lent_path c.args.fields.now in
    let n = length c.args.fields.now in
    let m = sym (length-map c.args.fields.now lent_path) in
    let at = c.in_ok-levels.ensures.at C e in
    record { levels = at; values = ap length c.in_ok-values.ensures ∙ length-replicate n None ∙ m; kept = kept_first fs F c.args.rows C _ _ n at c.in_ok-levels.ensures.wants m c.in_ok-values.ensures }

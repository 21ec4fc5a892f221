use Rattle.std.proofs.Common.{◌≡◌, ◌∙◌, ◌++◌, List, map, ap}
use Rattle.std.proofs.Common.{subst}
use Rattle.std.specs.List.{flat_map}
use Rattle.std.proofs.lemmas.Result.{IfOk-weaker}
use Rattle.dr_levels.specs.Views.{triplets_view}
use Rattle.dr_partials.specs.Putting.{Put}
use Rattle.dr_columns.specs.Numbers.{HasPut}
use Rattle.dr_columns.specs.Takings.{fired_view, takings_view, end_puts}
use Rattle.dr_columns.specs.KeptTakings.{kept_puts, kept_count, kept_chunk_puts}
use Rattle.dr_columns.proofs.NumberLemmas.{more_put}
use Rattle.dr_columns.proofs.KeptSourceLemmas.{sifts_same, kept_same, count_same, chunk_some}
use Rattle.dr_columns.proofs.column_scan.take_kept.Goals as goal

pub take_kept_sources-requires-clause-fires : goal.take_kept_sources-requires-clause-fires
take_kept_sources-requires-clause-fires c = sifts_same (map triplets_view c.args.columns.now) c.args.keeping.now c.judge.new.self (map fired_view c.args.fired.now) c.judge.ensures.commons c.requires.fires

pub returns-clause-put : goal.returns-clause-put
returns-clause-put c =
    let C = map triplets_view c.args.columns.now in
    let k = c.args.keeping.now in
    let l = c.judge.new.self in
    let ks = c.args.keys.now in
    let fs = map fired_view c.args.fired.now in
    let ends = takings_view c.args.at_end.now in
    let n = c.records-records.result in
    let old = c.args.groups.now in
    let mid = c.take_kept_sources.new.groups in
    let new = c.take_records.new.groups in
    let many : n ≡ kept_count C k = c.records-records.ensures C c.in_ok-judge.ensures.judged ∙ count_same C k l c.judge.ensures.own c.judge.ensures.others in
    let same : flat_map (kept_puts ks C l) fs ++ end_puts n ends ≡ kept_chunk_puts ks C k fs ends (kept_count C k) =
    ap (λ (ps : List Put). ps ++ end_puts n ends) (kept_same ks C k l fs c.judge.ensures.own c.judge.ensures.others c.judge.ensures.commons)
    ∙ chunk_some ks C k fs ends n c.if-records-eq0.false
    ∙ ap (kept_chunk_puts ks C k fs ends) many in
    IfOk-weaker c.take_records.result _ _ (λ done h. subst (λ (ps : List Put). HasPut old ps new) same
    (more_put old mid new (flat_map (kept_puts ks C l) fs) (end_puts n ends) c.take_kept_sources.ensures.gatherings c.in_ok-take_kept_sources.ensures.put h)) c.take_records.ensures.put

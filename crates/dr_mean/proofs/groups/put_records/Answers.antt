use Rattle.std.proofs.Common.{◌<◌, ◌∙◌, sym, ap, List, length, map}
use Rattle.std.proofs.lemmas.List.{drop_all}
use Rattle.dr_nested.specs.PathView.{path_view}
use Rattle.dr_nested.specs.declared.record.Node.{Node as RecordNode}
use Rattle.dr_partials.specs.Putting.{put_all}
use Rattle.dr_plan.specs.Planned.{planned_query}
use Rattle.dr_plan.specs.Views.{aggregate_view}
use Rattle.dr_group.specs.Partials.{partial_view}
use Rattle.dr_mean.specs.GroupPuts.{projections, records_puts}
use Rattle.dr_mean.specs.Takings.{key_paths}
use Rattle.dr_mean.proofs.PutLemmas.{records_more, typed_at}
use Rattle.dr_mean.proofs.groups.put_records.Goals as goal

pub records-preserved : goal.records-preserved
records-preserved c =
    let leaves = c.args.groups.leaves.now in
    let ls = map path_view leaves in
    let keys = key_paths ls c.args.groups.keys.now in
    let ts = map (aggregate_view ls) c.args.groups.aggregates.now in
    let ns = c.args.records.now in
    let k = c.records.whole-index in
    let n = c.whole-item.result in
    let h : k < length ns = c.records-test.true in
    record {
      of_plan = λ p i. c.put_record.ensures.of_plan p (c.records.invariant.of_plan p i);
      puts = λ p i t.
          records_more (planned_query p) c.args.groups.plan.now keys ts leaves ns k n (partial_view c.records.partial) (partial_view c.put_record.new.partial) h c.whole-item.is
          (c.in_ok-put_record.ensures.puts p (c.records.invariant.of_plan p i) (typed_at leaves ns k n h c.whole-item.is t))
          ∙ c.records.invariant.puts p i t;
    }

pub returns-clause-puts : goal.returns-clause-puts
returns-clause-puts c =
    let leaves = c.args.groups.leaves.now in
    let ls = map path_view leaves in
    let keys = key_paths ls c.args.groups.keys.now in
    let ts = map (aggregate_view ls) c.args.groups.aggregates.now in
    let ns = c.args.records.now in
    let k = c.records.whole-index in
    λ p i t.
    ap (λ (ms : List RecordNode). put_all (planned_query p) (records_puts c.args.groups.plan.now keys ts (projections leaves ms)) (partial_view c.records.partial)) (sym (drop_all k ns c.records-test.false))
    ∙ c.records.invariant.puts p i t

pub returns-in_err-put_record-clause-of_plan : goal.returns-in_err-put_record-clause-of_plan
returns-in_err-put_record-clause-of_plan c = λ p h. c.put_record.ensures.of_plan p (c.records.invariant.of_plan p h)

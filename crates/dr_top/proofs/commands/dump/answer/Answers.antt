use Rattle.std.proofs.Common.{◌∙◌, sym, ap, subst, map, string_bytes, Ok, List, ◌∷◌, []}
use Rattle.dr_nested.specs.declared.path.Path.{Path}
use Rattle.dr_nested.specs.PathView.{path_view}
use Rattle.dr_table.specs.Views.{table_view}
use Rattle.dr_commands.specs.Dump.{dump_meaning, dump_view}
use Rattle.dr_scan.proofs.UsedLeaves.{named_are_leaves}
use Rattle.dr_dump.specs.Dumps.{LeavesTablets}
use Rattle.dr_table.specs.LeftViews.{all_left_view}
use Rattle.dr_dump.specs.Dumps.{AreLinesOf}
use Rattle.dr_dump.specs.Answers.{WhereLines, WhereLeft}
use Rattle.dr_top.specs.World.{outcome_on}
use Rattle.dr_top.specs.Answers.{AsksLink}
use Rattle.dr_top.specs.Reading.{HasText, IsLeftWith}
use Rattle.dr_top.specs.Stops.{table_stop, field_stop}
use Rattle.dr_top.proofs.OutcomeLemmas.{err_is}
use Rattle.dr_top.proofs.CommandLemmas.{table_early, early_asking}
use Rattle.dr_top.proofs.DumpEnds.{dump_refuses_table, dump_field_early, dump_scans}
use Rattle.dr_top.proofs.LinkLemmas.{not_asked}
use Rattle.dr_top.proofs.commands.dump.answer.Goals as goal

pub returns-in_err-table-clause-stops : goal.returns-in_err-table-clause-stops
returns-in_err-table-clause-stops g c =
    err_is _ _ _ c.from_residual.ensures.1
    (early_asking (outcome_on (dump_meaning (dump_view c.args.words.now)) c.args.file.now) (g.L.Link.shows c.args.link.now ∷ []) (table_stop c.in_err-table.field-0.0)
    (table_early (dump_meaning (dump_view c.args.words.now)) c.args.file.now c.in_err-table.field-0.0 (dump_refuses_table (dump_view c.args.words.now)) c.in_err-table.ensures))

pub returns-in_err-fields-clause-stops : goal.returns-in_err-fields-clause-stops
returns-in_err-fields-clause-stops g c =
    err_is _ _ _ c.from_residual-in_err-fields.ensures.1
    (early_asking (outcome_on (dump_meaning (dump_view c.args.words.now)) c.args.file.now) (g.L.Link.shows c.args.link.now ∷ []) (field_stop c.in_err-fields.field-0.0)
    (dump_field_early (dump_view c.args.words.now) c.args.file.now (map string_bytes c.deref.result.now) (table_view c.in_ok-table.table) c.in_err-fields.field-0.0
    (ap (map string_bytes) c.deref.ensures.value) c.in_ok-table.ensures c.in_err-fields.ensures.stops))

pub returns-in_err-text-clause-stops : goal.returns-in_err-text-clause-stops
returns-in_err-text-clause-stops g c = err_is _ _ _ c.from_residual-in_err-text.ensures.1 tt

pub dump_table-requires : goal.dump_table-requires
dump_table-requires g c = record {
  leaves = named_are_leaves (table_view c.in_ok-table.table).schema.fields (map string_bytes c.deref.result.now) (map path_view c.deref-2.result.now) (c.in_ok-fields.ensures.leaves ∙ ap (λ (ps : List Path). Ok (map path_view ps)) (sym c.deref-2.ensures.value));
}

pub returns-in-Lines-clause-text : goal.returns-in-Lines-clause-text
returns-in-Lines-clause-text g c =
    let t = table_view c.in_ok-table.table in
    dump_scans (dump_view c.args.words.now) c.args.file.now (map string_bytes c.deref.result.now) t (map path_view c.deref-2.result.now) (λ o. HasText o (g.L.Link.shows c.args.link.now ∷ []) (g.L.Link.shows c.dump_table.new.link ∷ []) (string_bytes c.in-Lines.text))
    (ap (map string_bytes) c.deref.ensures.value) c.in_ok-table.ensures (c.in_ok-fields.ensures.leaves ∙ ap (λ (ps : List Path). Ok (map path_view ps)) (sym c.deref-2.ensures.value))
    (subst (WhereLines (AreLinesOf t (map path_view c.deref-2.result.now) (g.L.Link.shows c.args.link.now) (g.L.Link.shows c.dump_table.new.link))) c.in-Lines.is c.in_ok-text.ensures.lines)

pub returns-clause-stops : goal.returns-clause-stops
returns-clause-stops g c =
    let t = table_view c.in_ok-table.table in
    dump_scans (dump_view c.args.words.now) c.args.file.now (map string_bytes c.deref.result.now) t (map path_view c.deref-2.result.now) (λ o. IsLeftWith o (g.L.Link.shows c.args.link.now ∷ []) (g.L.Link.shows c.dump_table.new.link ∷ []) (all_left_view c.in-Left.left.items))
    (ap (map string_bytes) c.deref.ensures.value) c.in_ok-table.ensures (c.in_ok-fields.ensures.leaves ∙ ap (λ (ps : List Path). Ok (map path_view ps)) (sym c.deref-2.ensures.value))
    (subst (WhereLeft (λ left. LeavesTablets t (map path_view c.deref-2.result.now) left (g.L.Link.shows c.args.link.now) (g.L.Link.shows c.dump_table.new.link))) c.in-Left.is c.in_ok-text.ensures.left)

pub returns-in_err-table-clause-reads : goal.returns-in_err-table-clause-reads
returns-in_err-table-clause-reads g c = not_asked (outcome_on (dump_meaning (dump_view c.args.words.now)) c.args.file.now []) (g.L.Link.shows c.args.link.now)

pub returns-in_err-fields-clause-reads : goal.returns-in_err-fields-clause-reads
returns-in_err-fields-clause-reads g c = not_asked (outcome_on (dump_meaning (dump_view c.args.words.now)) c.args.file.now []) (g.L.Link.shows c.args.link.now)

pub returns-in_err-text-clause-reads : goal.returns-in_err-text-clause-reads
returns-in_err-text-clause-reads g c =
    let t = table_view c.in_ok-table.table in
    dump_scans (dump_view c.args.words.now) c.args.file.now (map string_bytes c.deref.result.now) t (map path_view c.deref-2.result.now) (λ o. AsksLink o (g.L.Link.shows c.args.link.now) (g.L.Link.shows c.dump_table.new.link))
    (ap (map string_bytes) c.deref.ensures.value) c.in_ok-table.ensures (c.in_ok-fields.ensures.leaves ∙ ap (λ (ps : List Path). Ok (map path_view ps)) (sym c.deref-2.ensures.value)) c.dump_table.ensures.asks

pub returns-in-Lines-clause-reads : goal.returns-in-Lines-clause-reads
returns-in-Lines-clause-reads g c =
    let t = table_view c.in_ok-table.table in
    dump_scans (dump_view c.args.words.now) c.args.file.now (map string_bytes c.deref.result.now) t (map path_view c.deref-2.result.now) (λ o. AsksLink o (g.L.Link.shows c.args.link.now) (g.L.Link.shows c.dump_table.new.link))
    (ap (map string_bytes) c.deref.ensures.value) c.in_ok-table.ensures (c.in_ok-fields.ensures.leaves ∙ ap (λ (ps : List Path). Ok (map path_view ps)) (sym c.deref-2.ensures.value)) c.dump_table.ensures.asks

pub returns-clause-reads : goal.returns-clause-reads
returns-clause-reads g c =
    let t = table_view c.in_ok-table.table in
    dump_scans (dump_view c.args.words.now) c.args.file.now (map string_bytes c.deref.result.now) t (map path_view c.deref-2.result.now) (λ o. AsksLink o (g.L.Link.shows c.args.link.now) (g.L.Link.shows c.dump_table.new.link))
    (ap (map string_bytes) c.deref.ensures.value) c.in_ok-table.ensures (c.in_ok-fields.ensures.leaves ∙ ap (λ (ps : List Path). Ok (map path_view ps)) (sym c.deref-2.ensures.value)) c.dump_table.ensures.asks

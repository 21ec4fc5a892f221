use Rattle.std.proofs.Common.{◌<◌, ◌*◌, ◌-◌, subst, string_bytes, map, take, length, [], arith}
use Rattle.dr_table.specs.Views.{table_view}
use Rattle.dr_reading.specs.Scan.{tablets_of}
use Rattle.dr_table.specs.LeftViews.{all_left_view}
use Rattle.dr_serve.specs.Serving.{IsShare, first_shown}
use Rattle.dr_serve.specs.Counted.{AreLeftOf}
use Rattle.dr_commands.specs.Query.{query_meaning, query_view}
use Rattle.dr_serve.specs.Answers.{AnsweredAs}
use Rattle.dr_top.specs.World.{outcome_on}
use Rattle.dr_top.specs.Stops.{query_stop, table_stop}
use Rattle.dr_top.proofs.OutcomeLemmas.{err_is}
use Rattle.dr_top.proofs.CommandLemmas.{table_early, early_asking}
use Rattle.dr_top.proofs.QueryEnds.{query_refuses_table, query_read_early, query_text_ends, query_left, query_most, query_asks}
use Rattle.dr_top.proofs.LinkLemmas.{none_asked, links_left_by, links_stay}
use Rattle.dr_top.proofs.commands.query.answer.Goals as goal

pub returns-in_err-table-clause-stops : goal.returns-in_err-table-clause-stops
returns-in_err-table-clause-stops g c =
    err_is _ _ _ c.from_residual.ensures.1
    (early_asking (outcome_on (query_meaning (query_view c.args.words.now)) c.args.file.now) (map g.L.Link.shows c.args.links.now) (table_stop c.in_err-table.field-0.0)
    (table_early (query_meaning (query_view c.args.words.now)) c.args.file.now c.in_err-table.field-0.0 (query_refuses_table (query_view c.args.words.now)) c.in_err-table.ensures))

pub returns-in_err-plans-clause-stops : goal.returns-in_err-plans-clause-stops
returns-in_err-plans-clause-stops g c =
    err_is _ _ _ c.from_residual-in_err-plans.ensures.1
    (early_asking (outcome_on (query_meaning (query_view c.args.words.now)) c.args.file.now) (map g.L.Link.shows c.args.links.now) (query_stop c.in_err-plans.field-0.0)
    (query_read_early (query_view c.args.words.now) c.args.file.now c.as_str.result.now (table_view c.in_ok-table.table) c.in_err-plans.field-0.0 c.as_str.ensures.value c.in_ok-table.ensures c.in_err-plans.ensures.refused))

pub returns-in_err-text-clause-stops : goal.returns-in_err-text-clause-stops
returns-in_err-text-clause-stops g c = err_is _ _ _ c.from_residual-in_err-text.ensures.1 tt

pub returns-in-Text-clause-text : goal.returns-in-Text-clause-text
returns-in-Text-clause-text g c =
    let t = table_view c.in_ok-table.table in
    let read = c.in_ok-plans.ensures.plans in
    query_text_ends (query_view c.args.words.now) g.L.Link.shows c.args.links.now c.service_of.result.workers c.args.file.now c.as_str.result.now t read.0 c.as_str.ensures.value c.service_of.ensures.workers c.in_ok-table.ensures read.1 (map g.L.Link.shows c.query_table.new.links) (string_bytes c.in-Text.text)
    (subst (AnsweredAs t read.0 c.service_of.result.least (map g.L.Link.shows (take c.service_of.result.workers c.args.links.now)) (first_shown (map g.L.Link.shows c.query_table.new.links))) c.in-Text.is (c.in_ok-text.ensures.answers read.0 read.2)).ends.text

pub returns-in-Most-clause-stops : goal.returns-in-Most-clause-stops
returns-in-Most-clause-stops g c =
    let t = table_view c.in_ok-table.table in
    let read = c.in_ok-plans.ensures.plans in
    let now = map g.L.Link.shows c.query_table.new.links in
    let answered = subst (AnsweredAs t read.0 c.service_of.result.least (map g.L.Link.shows (take c.service_of.result.workers c.args.links.now)) (first_shown now)) c.in-Most.is (c.in_ok-text.ensures.answers read.0 read.2) in
    query_most (query_view c.args.words.now) g.L.Link.shows c.args.links.now c.service_of.result.workers c.args.file.now c.as_str.result.now t read.0 c.as_str.ensures.value c.service_of.ensures.workers c.in_ok-table.ensures read.1 now c.service_of.result.least (string_bytes c.in-Most.text) (all_left_view c.in-Most.left.items) c.service_of.ensures.least
    answered.ends.left answered.ends.share answered.ends.most answered.round

pub returns-clause-stops : goal.returns-clause-stops
returns-clause-stops g c =
    let t = table_view c.in_ok-table.table in
    let read = c.in_ok-plans.ensures.plans in
    let now = map g.L.Link.shows c.query_table.new.links in
    let answered = subst (AnsweredAs t read.0 c.service_of.result.least (map g.L.Link.shows (take c.service_of.result.workers c.args.links.now)) (first_shown now)) c.in-Left.is (c.in_ok-text.ensures.answers read.0 read.2) in
    query_left (query_view c.args.words.now) g.L.Link.shows c.args.links.now c.service_of.result.workers c.args.file.now c.as_str.result.now t read.0 c.as_str.ensures.value c.service_of.ensures.workers c.in_ok-table.ensures read.1 now c.service_of.result.least (all_left_view c.in-Left.left.items) c.service_of.ensures.least
    answered.ends.left answered.ends.short answered.round

pub returns-in_err-table-clause-reads : goal.returns-in_err-table-clause-reads
returns-in_err-table-clause-reads g c = none_asked (map g.L.Link.shows c.args.links.now) (outcome_on (query_meaning (query_view c.args.words.now)) c.args.file.now [])

pub returns-in_err-plans-clause-reads : goal.returns-in_err-plans-clause-reads
returns-in_err-plans-clause-reads g c = none_asked (map g.L.Link.shows c.args.links.now) (outcome_on (query_meaning (query_view c.args.words.now)) c.args.file.now [])

pub returns-in_err-table-clause-links : goal.returns-in_err-table-clause-links
returns-in_err-table-clause-links g c = links_stay c.args.words.now.serving.workers (map g.L.Link.shows c.args.links.now)

pub returns-in_err-plans-clause-links : goal.returns-in_err-plans-clause-links
returns-in_err-plans-clause-links g c = links_stay c.args.words.now.serving.workers (map g.L.Link.shows c.args.links.now)

pub returns-in_err-text-clause-reads : goal.returns-in_err-text-clause-reads
returns-in_err-text-clause-reads g c =
    let t = table_view c.in_ok-table.table in
    let read = c.in_ok-plans.ensures.plans in
    query_asks (query_view c.args.words.now) g.L.Link.shows c.args.links.now c.service_of.result.workers c.args.file.now c.as_str.result.now t read.0 c.as_str.ensures.value c.service_of.ensures.workers c.in_ok-table.ensures read.1 c.query_table.new.links (c.query_table.ensures.links read.0 read.2).count (c.query_table.ensures.links read.0 read.2).asks

pub returns-in_err-text-clause-links : goal.returns-in_err-text-clause-links
returns-in_err-text-clause-links g c =
    links_left_by g.L.Link.shows c.service_of.result.workers c.args.words.now.serving.workers c.args.links.now c.query_table.new.links c.service_of.ensures.workers (omega (arith, c.requires.links, c.args.words.now.serving.few_workers)) (c.query_table.ensures.links c.in_ok-plans.ensures.plans.0 c.in_ok-plans.ensures.plans.2).count
    (c.query_table.ensures.links c.in_ok-plans.ensures.plans.0 c.in_ok-plans.ensures.plans.2).same (c.query_table.ensures.links c.in_ok-plans.ensures.plans.0 c.in_ok-plans.ensures.plans.2).others

pub returns-in-Text-clause-reads : goal.returns-in-Text-clause-reads
returns-in-Text-clause-reads g c =
    let t = table_view c.in_ok-table.table in
    let read = c.in_ok-plans.ensures.plans in
    query_asks (query_view c.args.words.now) g.L.Link.shows c.args.links.now c.service_of.result.workers c.args.file.now c.as_str.result.now t read.0 c.as_str.ensures.value c.service_of.ensures.workers c.in_ok-table.ensures read.1 c.query_table.new.links (c.query_table.ensures.links read.0 read.2).count (c.query_table.ensures.links read.0 read.2).asks

pub returns-in-Text-clause-links : goal.returns-in-Text-clause-links
returns-in-Text-clause-links g c =
    links_left_by g.L.Link.shows c.service_of.result.workers c.args.words.now.serving.workers c.args.links.now c.query_table.new.links c.service_of.ensures.workers (omega (arith, c.requires.links, c.args.words.now.serving.few_workers)) (c.query_table.ensures.links c.in_ok-plans.ensures.plans.0 c.in_ok-plans.ensures.plans.2).count
    (c.query_table.ensures.links c.in_ok-plans.ensures.plans.0 c.in_ok-plans.ensures.plans.2).same (c.query_table.ensures.links c.in_ok-plans.ensures.plans.0 c.in_ok-plans.ensures.plans.2).others

pub returns-in-Most-clause-reads : goal.returns-in-Most-clause-reads
returns-in-Most-clause-reads g c =
    let t = table_view c.in_ok-table.table in
    let read = c.in_ok-plans.ensures.plans in
    query_asks (query_view c.args.words.now) g.L.Link.shows c.args.links.now c.service_of.result.workers c.args.file.now c.as_str.result.now t read.0 c.as_str.ensures.value c.service_of.ensures.workers c.in_ok-table.ensures read.1 c.query_table.new.links (c.query_table.ensures.links read.0 read.2).count (c.query_table.ensures.links read.0 read.2).asks

pub returns-in-Most-clause-links : goal.returns-in-Most-clause-links
returns-in-Most-clause-links g c =
    links_left_by g.L.Link.shows c.service_of.result.workers c.args.words.now.serving.workers c.args.links.now c.query_table.new.links c.service_of.ensures.workers (omega (arith, c.requires.links, c.args.words.now.serving.few_workers)) (c.query_table.ensures.links c.in_ok-plans.ensures.plans.0 c.in_ok-plans.ensures.plans.2).count
    (c.query_table.ensures.links c.in_ok-plans.ensures.plans.0 c.in_ok-plans.ensures.plans.2).same (c.query_table.ensures.links c.in_ok-plans.ensures.plans.0 c.in_ok-plans.ensures.plans.2).others

pub returns-clause-reads : goal.returns-clause-reads
returns-clause-reads g c =
    let t = table_view c.in_ok-table.table in
    let read = c.in_ok-plans.ensures.plans in
    query_asks (query_view c.args.words.now) g.L.Link.shows c.args.links.now c.service_of.result.workers c.args.file.now c.as_str.result.now t read.0 c.as_str.ensures.value c.service_of.ensures.workers c.in_ok-table.ensures read.1 c.query_table.new.links (c.query_table.ensures.links read.0 read.2).count (c.query_table.ensures.links read.0 read.2).asks

pub returns-clause-links : goal.returns-clause-links
returns-clause-links g c =
    links_left_by g.L.Link.shows c.service_of.result.workers c.args.words.now.serving.workers c.args.links.now c.query_table.new.links c.service_of.ensures.workers (omega (arith, c.requires.links, c.args.words.now.serving.few_workers)) (c.query_table.ensures.links c.in_ok-plans.ensures.plans.0 c.in_ok-plans.ensures.plans.2).count
    (c.query_table.ensures.links c.in_ok-plans.ensures.plans.0 c.in_ok-plans.ensures.plans.2).same (c.query_table.ensures.links c.in_ok-plans.ensures.plans.0 c.in_ok-plans.ensures.plans.2).others

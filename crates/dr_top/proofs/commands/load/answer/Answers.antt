use Rattle.std.proofs.Common.{ap, map, string_bytes, []}
use Rattle.dr_nested.specs.SchemaView.{schema_view}
use Rattle.dr_page.specs.Views.{page_form_view}
use Rattle.dr_commands.specs.Load.{load_meaning, load_view}
use Rattle.dr_top.specs.World.{lent}
use Rattle.dr_top.specs.Stops.{schema_stop, words_problem_stop}
use Rattle.dr_top.proofs.OutcomeLemmas.{err_is}
use Rattle.dr_top.proofs.CommandLemmas.{schema_early, early_stops}
use Rattle.dr_top.proofs.LoadEnds.{load_refuses_schema, words_early, begun, load_opens, load_stops, line_memory, done_on}
use Rattle.dr_top.proofs.commands.load.answer.Goals as goal

pub returns-in_err-schema-clause-stops : goal.returns-in_err-schema-clause-stops
returns-in_err-schema-clause-stops g c =
    err_is _ _ _ c.from_residual.ensures.1
    (early_stops (load_meaning (load_view c.args.words.now)) (lent (g.S.Source.shows c.args.source.now) (g.K.Link.shows c.args.keeper.now) []) c.args.file.now c.requires.file (schema_stop c.in_err-schema.field-0.0)
    (schema_early (load_meaning (load_view c.args.words.now)) c.args.file.now c.in_err-schema.field-0.0 (load_refuses_schema (load_view c.args.words.now)) c.in_err-schema.ensures))

pub returns-in_err-check_words-clause-stops : goal.returns-in_err-check_words-clause-stops
returns-in_err-check_words-clause-stops g c =
    err_is _ _ _ c.from_residual-in_err-check_words.ensures.1
    (early_stops (load_meaning (load_view c.args.words.now)) (lent (g.S.Source.shows c.args.source.now) (g.K.Link.shows c.args.keeper.now) []) c.args.file.now c.requires.file (words_problem_stop c.in_err-check_words.field-0.0)
    (words_early (load_view c.args.words.now) c.args.file.now (map string_bytes c.deref.result.now) (schema_view c.in_ok-schema.schema) c.in_err-check_words.field-0.0
    (ap (map string_bytes) c.deref.ensures.value) c.in_ok-schema.ensures c.in_err-check_words.ensures.refused))

pub returns-in_err-loaded-clause-stops : goal.returns-in_err-loaded-clause-stops
returns-in_err-loaded-clause-stops g c =
    err_is _ _ _ c.from_residual-in_err-loaded.ensures.1
    (load_stops (load_view c.args.words.now) (schema_view c.in_ok-schema.schema) _ c.args.file.now (g.K.Link.shows c.args.keeper.now) (g.K.Link.shows c.load.new.keeper) (g.S.Source.shows c.args.source.now) (g.S.Source.shows c.load.new.source)
    (begun (load_view c.args.words.now) (schema_view c.in_ok-schema.schema) c.args.file.now (map string_bytes c.deref.result.now) (map string_bytes c.deref-2.result.now) c.as_str.result.now (page_form_view c.page_form.result) (ap (map string_bytes) c.deref.ensures.value) (ap (map string_bytes) c.deref-2.ensures.value) c.as_str.ensures.value c.page_form.ensures c.in_ok-schema.ensures c.in_ok-check_words.ensures.taken) c.requires.file c.in_err-loaded.field-0.0
    (λ e. c.in_err-loaded.ensures.source_cause (cc)) (λ n. c.in_err-loaded.ensures.source_calm (λ e. n (cc))) (λ e. c.in_err-loaded.ensures.keeper_cause (cc)) (λ n. c.in_err-loaded.ensures.keeper_calm (λ e. n (cc)))
    (λ e is. c.in_err-loaded.ensures.steady is (cc))
    (λ e. c.in_err-loaded.ensures.accepts (cc)) (λ e. c.in_err-loaded.ensures.given (cc)) c.in_err-loaded.ensures.refused c.in_err-loaded.ensures.stands)

pub returns-in_err-line-clause-stops : goal.returns-in_err-line-clause-stops
returns-in_err-line-clause-stops g c =
    err_is _ _ _ c.from_residual-in_err-line.ensures.1
    (line_memory (load_view c.args.words.now) (schema_view c.in_ok-schema.schema) _ c.args.file.now (g.K.Link.shows c.args.keeper.now) (g.K.Link.shows c.load.new.keeper) (g.S.Source.shows c.args.source.now) (g.S.Source.shows c.load.new.source)
    (begun (load_view c.args.words.now) (schema_view c.in_ok-schema.schema) c.args.file.now (map string_bytes c.deref.result.now) (map string_bytes c.deref-2.result.now) c.as_str.result.now (page_form_view c.page_form.result) (ap (map string_bytes) c.deref.ensures.value) (ap (map string_bytes) c.deref-2.ensures.value) c.as_str.ensures.value c.page_form.ensures c.in_ok-schema.ensures c.in_ok-check_words.ensures.taken) c.requires.file
    (c.in_ok-loaded.ensures.keeper_calm (λ e. cc)) (c.in_ok-loaded.ensures.source_calm (λ e. cc)) c.in_ok-loaded.ensures.puts)

pub returns-clause-opened : goal.returns-clause-opened
returns-clause-opened g c =
    load_opens (load_view c.args.words.now) (schema_view c.in_ok-schema.schema) _ c.args.file.now (g.K.Link.shows c.args.keeper.now) (g.K.Link.shows c.load.new.keeper) (g.S.Source.shows c.args.source.now) (g.S.Source.shows c.load.new.source)
    (begun (load_view c.args.words.now) (schema_view c.in_ok-schema.schema) c.args.file.now (map string_bytes c.deref.result.now) (map string_bytes c.deref-2.result.now) c.as_str.result.now (page_form_view c.page_form.result) (ap (map string_bytes) c.deref.ensures.value) (ap (map string_bytes) c.deref-2.ensures.value) c.as_str.ensures.value c.page_form.ensures c.in_ok-schema.ensures c.in_ok-check_words.ensures.taken) c.requires.file

pub returns-clause-text : goal.returns-clause-text
returns-clause-text g c =
    done_on (load_view c.args.words.now) (schema_view c.in_ok-schema.schema) _ c.args.file.now (g.K.Link.shows c.args.keeper.now) (g.K.Link.shows c.load.new.keeper) (g.S.Source.shows c.args.source.now) (g.S.Source.shows c.load.new.source)
    (begun (load_view c.args.words.now) (schema_view c.in_ok-schema.schema) c.args.file.now (map string_bytes c.deref.result.now) (map string_bytes c.deref-2.result.now) c.as_str.result.now (page_form_view c.page_form.result) (ap (map string_bytes) c.deref.ensures.value) (ap (map string_bytes) c.deref-2.ensures.value) c.as_str.ensures.value c.page_form.ensures c.in_ok-schema.ensures c.in_ok-check_words.ensures.taken) c.requires.file
    (g.S.Source.shows c.args.source.now).left (string_bytes c.in_ok-line.line) c.in_ok-loaded.loaded.records c.in_ok-loaded.loaded.tablets
    c.in_ok-loaded.ensures.accepted c.in_ok-loaded.ensures.records c.in_ok-loaded.ensures.tablets c.in_ok-loaded.ensures.puts c.in_ok-line.ensures

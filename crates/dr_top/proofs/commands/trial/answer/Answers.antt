use Rattle.std.specs.Prelude.{MatchOption, ⊤, Err}
use Rattle.std.proofs.Common.{rules, ◌≡◌, sym, ap, ap₂, subst, ◌∙◌, string_bytes, List, ℕ}
use Rattle.dr_meaning.specs.SchemaText.{parse_schema}
use Rattle.dr_meaning.specs.Lines.{records_of}
use Rattle.dr_meaning.specs.Ask.{most_asked}
use Rattle.dr_sub_meaning.specs.NestedAsk.{read_nested}
use Rattle.dr_nested.specs.Faults.{schema_fault_view}
use Rattle.dr_nested.specs.SchemaView.{schema_view}
use Rattle.dr_gen.specs.Generator.{lines_from}
use Rattle.dr_load.specs.Faults.{refusal_of as line_refusal_of}
use Rattle.dr_sub.specs.Texts.{IsRefusedAs}
use Rattle.dr_serve.specs.Asked.{IsAnswerTo}
use Rattle.dr_commands.specs.Trial.{trial_view}
use Rattle.dr_top.proofs.OutcomeLemmas.{err_is}
use Rattle.dr_top.proofs.TrialEnds.{schema_is, never_raised, trial_schema_early, trial_query_early, trial_load_early, trial_ends}
use Rattle.dr_top.proofs.commands.trial.answer.Goals as goal

pub returns-in_err-schema-clause-stops : goal.returns-in_err-schema-clause-stops
returns-in_err-schema-clause-stops g c =
    err_is _ _ _ c.from_residual.ensures.1
    (trial_schema_early (trial_view c.args.words.now) c.in_err-schema.field-0.0
    (subst (λ (text : List ℕ). MatchOption (schema_fault_view c.in_err-schema.field-0.0) ⊤ (λ f. parse_schema text ≡ Err f)) (c.as_bytes.ensures.value ∙ c.document_text.ensures) c.in_err-schema.ensures))

pub returns-in_err-plans-clause-stops : goal.returns-in_err-plans-clause-stops
returns-in_err-plans-clause-stops g c =
    err_is _ _ _ c.from_residual-in_err-plans.ensures.1
    (trial_query_early (trial_view c.args.words.now) (schema_view c.in_ok-schema.schema) c.in_err-plans.field-0.0
    (schema_is c.as_bytes.result.now _ (c.as_bytes.ensures.value ∙ c.document_text.ensures) c.in_ok-schema.ensures)
    (subst (λ (text : List ℕ). IsRefusedAs (read_nested (schema_view c.in_ok-schema.schema) text) c.in_err-plans.field-0.0) c.trial_query.ensures c.in_err-plans.ensures.refused))

pub returns-in_err-lines-clause-stops : goal.returns-in_err-lines-clause-stops
returns-in_err-lines-clause-stops g c = err_is _ _ _ c.from_residual-in_err-lines.ensures.1 tt

pub returns-in_err-text-clause-stops : goal.returns-in_err-text-clause-stops
returns-in_err-text-clause-stops g c =
    let seed : c.from.result ≡ c.args.words.now.seed = search rules in
    let records : c.from-2.result ≡ c.args.words.now.records = search rules in
    let s = schema_view c.in_ok-schema.schema in
    let read = c.in_ok-plans.ensures.plans in
    err_is _ _ _ c.from_residual-in_err-text.ensures.1
    (trial_load_early (trial_view c.args.words.now) s read.0 c.in_err-text.field-0.0
    (schema_is c.as_bytes.result.now _ (c.as_bytes.ensures.value ∙ c.document_text.ensures) c.in_ok-schema.ensures)
    (ap (read_nested s) (sym c.trial_query.ensures) ∙ read.1)
    (λ e. never_raised (c.in_err-text.ensures.source_cause (cc)))
    (λ e. c.in_err-text.ensures.never_keeper (cc))
    (subst (λ (bytes : List ℕ). MatchOption (line_refusal_of c.in_err-text.field-0.0) ⊤ (λ r. records_of s.fields (most_asked (trial_view c.args.words.now).rows) bytes ≡ Err r)) (c.in_ok-lines.ensures ∙ ap₂ lines_from seed records) c.in_err-text.ensures.refused))

pub returns-clause-text : goal.returns-clause-text
returns-clause-text g c =
    let seed : c.from.result ≡ c.args.words.now.seed = search rules in
    let records : c.from-2.result ≡ c.args.words.now.records = search rules in
    let s = schema_view c.in_ok-schema.schema in
    let read = c.in_ok-plans.ensures.plans in
    trial_ends (trial_view c.args.words.now) (string_bytes c.in_ok-text.text) s read.0
    (schema_is c.as_bytes.result.now _ (c.as_bytes.ensures.value ∙ c.document_text.ensures) c.in_ok-schema.ensures)
    (ap (read_nested s) (sym c.trial_query.ensures) ∙ read.1)
    (subst (IsAnswerTo s read.0 (trial_view c.args.words.now).rows (string_bytes c.in_ok-text.text)) (c.in_ok-lines.ensures ∙ ap₂ lines_from seed records) (c.in_ok-text.ensures.text read.0 read.2))

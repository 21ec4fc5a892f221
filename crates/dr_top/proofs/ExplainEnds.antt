-- The answer of `explain`, from its steps.
use Rattle.std.specs.Prelude.{◌≡◌, ℕ, List, [], Result, Ok, Err}
use Rattle.std.proofs.Common.{sym, ap, ◌∙◌}
use Rattle.dr_meaning.specs.Schema.{Schema}
use Rattle.dr_meaning.specs.SchemaText.{SchemaFault, parse_schema}
use Rattle.dr_meaning.specs.Refusals.{QueryRefusal}
use Rattle.dr_sub_meaning.specs.Nested.{NestedQuery}
use Rattle.dr_sub_meaning.specs.NestedAsk.{read_nested}
use Rattle.dr_sub_meaning.specs.NestedText.{nested_text}
use Rattle.dr_sub.specs.Texts.{IsRefusedAs, refusal_of}
use Rattle.dr_sub.specs.declared.refusal.TextFault.{TextFault}
use Rattle.dr_commands.specs.Meaning.{plain, done}
use Rattle.dr_commands.specs.Explain.{ExplainWords, explain_meaning, explain_schema, explain_query, explained}
use Rattle.dr_top.specs.World.{outcome_on}
use Rattle.dr_top.specs.Stops.{StopsEarly, query_stop}
use Rattle.dr_top.proofs.CommandLemmas.{RefusesSchema}

pub explain_refuses_schema : (w : ExplainWords) → RefusesSchema (explain_meaning w)
unfolding explained
explain_refuses_schema w look e h = ap (λ (r : Result Schema SchemaFault). plain (explain_schema w.query r)) h

-- with a schema, the outcome is that of the query that is read
by_query : (w : ExplainWords) (file text : List ℕ) (s : Schema) (r : Result NestedQuery QueryRefusal) → text ≡ w.query → parse_schema file ≡ Ok s → read_nested s text ≡ r → plain (explained file w.query) ≡ plain (explain_query s r)
unfolding explained
by_query w file text s r t f h =
    ap (λ (x : Result Schema SchemaFault). plain (explain_schema w.query x)) f
    ∙ ap (λ (x : Result NestedQuery QueryRefusal). plain (explain_query s x)) (ap (read_nested s) (sym t) ∙ h)

pub explain_query_early : (w : ExplainWords) (file text : List ℕ) (s : Schema) (fault : TextFault) → text ≡ w.query → parse_schema file ≡ Ok s → IsRefusedAs (read_nested s text) fault → StopsEarly (outcome_on (explain_meaning w) file) (query_stop fault)
explain_query_early w file text s TextFault.NoMemory t f h = tt
explain_query_early w file text s (TextFault.Refused n x) t f h = λ input. by_query w file text s (Err (refusal_of n x)) t f h

pub explain_ends : (w : ExplainWords) (file text out : List ℕ) (s : Schema) (n : NestedQuery) → text ≡ w.query → parse_schema file ≡ Ok s
    → read_nested s text ≡ Ok n → out ≡ nested_text s.fields n → outcome_on (explain_meaning w) file [] ≡ done out []
explain_ends w file text out s n t f r o = by_query w file text s (Ok n) t f r ∙ ap (λ (x : List ℕ). done x []) (sym o)

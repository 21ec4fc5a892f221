-- The answer of `stripe`, from its steps.
use Rattle.std.specs.Prelude.{◌≡◌, ℕ, List, [], ◌∷◌, Some, None, Result, Ok, Err}
use Rattle.std.proofs.Common.{refl, sym, ap, ◌∙◌, subst}
use Rattle.dr_meaning.specs.Schema.{Schema}
use Rattle.dr_meaning.specs.SchemaText.{SchemaFault, parse_schema}
use Rattle.dr_meaning.specs.Record.{Node}
use Rattle.dr_meaning.specs.Lines as line
use Rattle.dr_commands.specs.Refusals.{Refusal as Refused, field_refused, line_refused}
use Rattle.dr_outside.specs.Source.{SourceShown}
use Rattle.dr_commands.specs.Meaning.{Look, plain, done, refused, puts_in, first_refusal, IsEarly}
use Rattle.dr_top.specs.World.{outcome_on, Opens, Accepts}
use Rattle.dr_top.specs.Stops.{StopsEarly, StopsReading, InputStops, input_stop, field_stop}
use Rattle.dr_input.specs.Whole.{whole_lines}
use Rattle.dr_input.specs.Taken.{AcceptsRead, WhereTold}
use Rattle.dr_input.specs.Faults.{line_problem_view}
use Rattle.dr_input.specs.declared.fault.InputFault.{InputFault}
use Rattle.dr_top.proofs.InputLemmas.{records_accepted}
use Rattle.dr_top.proofs.OutcomeLemmas.{told_so, given_so}
use Rattle.dr_top.proofs.PutLemmas.{plain_puts}
use Rattle.dr_top.proofs.CommandLemmas.{RefusesSchema}
use Rattle.dr_meaning.specs.Path.{Leaf, PathFault, find_leaf}
use Rattle.dr_meaning.specs.Column.{Triplet}
use Rattle.dr_meaning.specs.Stripe.{stripe, stripe_schema, stripe_field, stripe_records, column_text, most_striped}
use Rattle.dr_nested.specs.Faults.{path_problem_view}
use Rattle.dr_commands.specs.Stripe.{StripeWords, stripe_meaning}
use Rattle.dr_top.specs.Records.{HasColumns}
use Rattle.dr_top.specs.Fields.{IsRefusedField}
use Rattle.dr_top.specs.declared.field.FieldFault.{FieldFault}

pub stripe_refuses_schema : (w : StripeWords) → RefusesSchema (stripe_meaning w)
unfolding stripe
stripe_refuses_schema w look e h = ap (λ (r : Result Schema SchemaFault). plain (stripe_schema w.field look.input r)) h

pub stripe_puts : (w : StripeWords) (look : Look) → puts_in ((stripe_meaning w).outcome look) ≡ []
stripe_puts w look = plain_puts (stripe look.file w.field look.input)

-- ---- the FIELD

-- with a schema, the outcome is that of the leaf that is found
by_field : (w : StripeWords) (file text input : List ℕ) (s : Schema) (r : Result Leaf PathFault) → text ≡ w.field → parse_schema file ≡ Ok s → find_leaf text s.fields ≡ r → plain (stripe file w.field input) ≡ plain (stripe_field s input r)
unfolding stripe
by_field w file text input s r t f h =
    ap (λ (x : Result Schema SchemaFault). plain (stripe_schema w.field input x)) f
    ∙ ap (λ (x : Result Leaf PathFault). plain (stripe_field s input x)) (ap (λ (x : List ℕ). find_leaf x s.fields) (sym t) ∙ h)

pub stripe_field_early : (w : StripeWords) (file text : List ℕ) (s : Schema) (fault : FieldFault) → text ≡ w.field → parse_schema file ≡ Ok s → IsRefusedField (find_leaf text s.fields) 0 fault
    → StopsEarly (outcome_on (stripe_meaning w) file) (field_stop fault)
stripe_field_early w file text s FieldFault.NoMemory t f h = tt
stripe_field_early w file text s (FieldFault.Refused n x) t f h = λ input.
    by_field w file text input s (Err (path_problem_view x)) t f h.1 ∙ ap (λ (j : ℕ). refused (field_refused j (path_problem_view x)) []) (sym h.0)

-- ---- the records

late : (l : Leaf) (recs : Result (List Node) line.Refusal) (r : Refused) → IsEarly r → first_refusal (plain (stripe_records l recs)) ≡ Some r → ⊥
late l (Ok ns) r early e = cc
late l (Err x) r early e = let is : line_refused x ≡ r = cc in subst (λ (y : Refused). IsEarly y) (sym is) early

only : (a b : List Triplet) → a ∷ [] ≡ b ∷ [] → a ≡ b
only a b e = cc

module _ (w : StripeWords) (file text : List ℕ) (s : Schema) (l : Leaf) (t : text ≡ w.field) (f : parse_schema file ≡ Ok s) (n : find_leaf text s.fields ≡ Ok l) where
  -- the outcome is that of the records that are read
  by_records : (input : List ℕ) (r : Result (List Node) line.Refusal) → line.records_of s.fields most_striped input ≡ r → outcome_on (stripe_meaning w) file input ≡ plain (stripe_records l r)
  by_records input r h = by_field w file text input s (Ok l) t f n ∙ ap (λ (x : Result (List Node) line.Refusal). plain (stripe_records l x)) h

  pub stripe_opens : Opens (outcome_on (stripe_meaning w) file)
  stripe_opens = λ input r early e. late l (line.records_of s.fields most_striped input) r early (ap first_refusal (sym (by_records input _ refl)) ∙ e)

  -- what the source gave is accepted
  accepts : (i i1 : SourceShown) → AcceptsRead s.fields most_striped 0 i.left i1.left → Accepts (outcome_on (stripe_meaning w) file) i i1
  accepts i i1 a =
      given_so i.left i1.left (λ read. (line.taken_from s.fields most_striped 1 (line.lines_of (whole_lines read))).refusal ≡ None) (λ read. first_refusal (outcome_on (stripe_meaning w) file (whole_lines read)) ≡ None)
      (λ read h. ap first_refusal (by_records (whole_lines read) _ (records_accepted s.fields most_striped (whole_lines read) h))) a

  pub stripe_input_stops : (i i1 : SourceShown) (fault : InputFault) → InputStops s.fields most_striped i i1 fault → StopsReading (outcome_on (stripe_meaning w) file) i i1 (input_stop fault)
  stripe_input_stops i i1 InputFault.NoMemory h = h
  stripe_input_stops i i1 InputFault.Source h = (h.0, stripe_opens, accepts i i1 h.1)
  stripe_input_stops i i1 (InputFault.Refused m x) h = (
    h.0,
    told_so i.left _ (λ input. outcome_on (stripe_meaning w) file input ≡ refused (line_refused (record { line = m; fault = line_problem_view x })) []) (λ input g. by_records input _ g) h.1,
    λ early. absurd early,
  )

  pub stripe_ends : (i : SourceShown) (out : List ℕ) (column : List Triplet) → HasColumns s.fields (l.path ∷ []) i.left (column ∷ []) → out ≡ column_text column → WhereTold i.left (λ input. outcome_on (stripe_meaning w) file input ≡ done out [])
  stripe_ends i out column h o =
      told_so i.left _ (λ input. outcome_on (stripe_meaning w) file input ≡ done out [])
      (λ input g. by_records input (Ok g.0) g.1 ∙ ap (λ (x : List Triplet). done (column_text x) []) (sym (only column _ g.2)) ∙ ap (λ (x : List ℕ). done x []) (sym o)) h

-- The command `stripe`: the column of a leaf, one triplet to a line, or the first refusal.
use Rattle.std.specs.Prelude.{ℕ, ◌*◌, List, [], ◌∷◌, ◌++◌, codes, decimal, Option, Some, None, Result, Ok, Err}
use Rattle.std.specs.List.{flat_map}
use Rattle.dr_meaning.specs.Schema.{Schema}
use Rattle.dr_meaning.specs.SchemaText.{SchemaFault, parse_schema}
use Rattle.dr_meaning.specs.Path.{Leaf, PathFault, find_leaf}
use Rattle.dr_meaning.specs.Record.{Value, Node}
use Rattle.dr_meaning.specs.Column.{Triplet, column}
use Rattle.dr_meaning.specs.Print.{value_text}
use Rattle.dr_meaning.specs.Lines.{Refusal, records_of}
use Rattle.dr_meaning.specs.Refusals.{CommandRefusal, schema_refused, field_refused, line_refused}

-- a value, or `NULL`
abbrev pub value_or_null : Option Value → List ℕ
value_or_null None = codes "NULL"
value_or_null (Some v) = value_text v

-- a triplet's line: value, repetition level, definition level
abbrev pub triplet_text : Triplet → List ℕ
triplet_text t = value_or_null t.value ++ 32 ∷ (decimal t.repetition ++ 32 ∷ (decimal t.definition ++ 10 ∷ []))

-- the triplets of a column, one to a line
unfoldable pub column_text : List Triplet → List ℕ
column_text ts = flat_map triplet_text ts

-- at most 4,096 times 1,000,000 lines
abbrev pub most_striped : ℕ
most_striped = 4096 * 1000000

abbrev pub stripe_records : Leaf → Result (List Node) Refusal → Result (List ℕ) CommandRefusal
stripe_records l (Ok ns) = Ok (column_text (column l.path ns))
stripe_records l (Err e) = Err (line_refused e)

abbrev pub stripe_field : Schema → List ℕ → Result Leaf PathFault → Result (List ℕ) CommandRefusal
stripe_field s input (Ok l) = stripe_records l (records_of s.fields most_striped input)
stripe_field s input (Err e) = Err (field_refused 0 e)

abbrev pub stripe_schema : List ℕ → List ℕ → Result Schema SchemaFault → Result (List ℕ) CommandRefusal
stripe_schema field input (Ok s) = stripe_field s input (find_leaf field s.fields)
stripe_schema field input (Err e) = Err (schema_refused e)

-- the text that `stripe` prints of a schema text, a FIELD and an input, or the first refusal: the schema, the FIELD, then the lines in order
unfoldable pub stripe : List ℕ → List ℕ → List ℕ → Result (List ℕ) CommandRefusal
stripe schema field input = stripe_schema field input (parse_schema schema)

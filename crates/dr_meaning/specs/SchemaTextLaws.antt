-- Laws of schema text: which texts are accepted, where the fault of the others stands, and that the canonical text reads back.
use Rattle.std.specs.Prelude.{◌≡◌, ℕ, ◌≤◌, List, [], ◌∷◌, ◌++◌, length, true, ◌≢◌, ◌⊎◌, ◌↔◌, Ok, Err}
use Rattle.dr_meaning.specs.Schema.{Schema, is_schema}
use Rattle.dr_meaning.specs.SchemaText.{Token, Placed, tokens_of, bare, SpellsSchema, schema_text, longest_schema, parse_schema, SchemaProblem}
use Rattle.dr_meaning.specs.SchemaText.{too_long, syntax, float_kind, empty_group}

-- ---- accepted texts

-- whatever is accepted as a schema is spelled by the grammar as that schema
abbrev pub AcceptedIsSpelled : Type 0
AcceptedIsSpelled = (text : List ℕ) (s : Schema) → parse_schema text ≡ Ok s → SpellsSchema s (bare (tokens_of text))

-- a text is accepted as a schema exactly if it is not too long, is spelled by the grammar as that schema, and the schema keeps the rules of names and
-- the limits
abbrev pub AcceptedExactly : Type 0
AcceptedExactly = (text : List ℕ) (s : Schema) → (parse_schema text ≡ Ok s) ↔ ((length text ≤ longest_schema)
    × SpellsSchema s (bare (tokens_of text)) × (is_schema s ≡ true))

-- the canonical text of a schema, if it is not too long, reads back as that schema
abbrev pub CanonicalReadsBack : Type 0
CanonicalReadsBack = (s : Schema) → is_schema s ≡ true → length (schema_text s) ≤ longest_schema → parse_schema (schema_text s) ≡ Ok s

-- ---- faults

-- some schema's tokens begin with these
abbrev pub GoesOn : List Token → Type 0
GoesOn ts = (s : Schema) × (rest : List Token) × SpellsSchema s (ts ++ rest)

-- the token at this place is the first with which no schema's tokens begin
abbrev pub IsFirstDeadEnd : List ℕ → ℕ → Type 0
IsFirstDeadEnd text place =
    (before : List Placed)
    × (t : Placed)
    × (after : List Placed)
    × (tokens_of text ≡ before ++ t ∷ after)
    × (t.place ≡ place)
    × GoesOn (bare before)
    × ¬ GoesOn (bare before ++ t.token ∷ [])

-- this place is the end of the text, whose tokens begin a schema's and are not a schema's
abbrev pub EndsEarly : List ℕ → ℕ → Type 0
EndsEarly text place =
    (place ≡ length text)
    × GoesOn (bare (tokens_of text))
    × ((s : Schema) → ¬ SpellsSchema s (bare (tokens_of text)))

-- the fault `syntax` stands at the first token with which no schema goes on, or at the end of a text that ends too early
abbrev pub SyntaxIsDeadEnd : Type 0
SyntaxIsDeadEnd = (text : List ℕ) (place : ℕ) → parse_schema text ≡ Err (record { place = place; problem = syntax }) → IsFirstDeadEnd text place
    ⊎ EndsEarly text place

-- the fault `float_kind` stands at the first token with which no schema goes on
abbrev pub FloatIsDeadEnd : Type 0
FloatIsDeadEnd = (text : List ℕ) (place : ℕ) → parse_schema text ≡ Err (record { place = place; problem = float_kind }) → IsFirstDeadEnd text place

-- the fault `empty_group` stands at the first token with which no schema goes on
abbrev pub EmptyGroupIsDeadEnd : Type 0
EmptyGroupIsDeadEnd = (text : List ℕ) (place : ℕ) → parse_schema text ≡ Err (record { place = place; problem = empty_group }) → IsFirstDeadEnd text place

-- at this place a token stands, or the text ends, and the tokens before it begin a schema's
abbrev pub GoesOnBefore : List ℕ → ℕ → Type 0
GoesOnBefore text place =
    ((before : List Placed) × (t : Placed) × (after : List Placed) × (tokens_of text ≡ before ++ t ∷ after) × (t.place ≡ place) × GoesOn (bare before))
    ⊎ ((place ≡ length text) × GoesOn (bare (tokens_of text)))

-- whatever the fault is, but for a text that is too long, the tokens before it begin a schema's
abbrev pub BeforeFaultGoesOn : Type 0
BeforeFaultGoesOn = (text : List ℕ) (place : ℕ) (p : SchemaProblem) → p ≢ too_long → parse_schema text ≡ Err (record { place = place; problem = p })
    → GoesOnBefore text place

-- Schema text: its tokens, the productions of its grammar, its canonical form, and the schema or the first fault of a text.
use Rattle.std.specs.Prelude.{◌≡◌, ℕ, suc, ◌-◌, List, [], ◌∷◌, ◌++◌, map, length, Bool, true, ◌||◌, ◌==◌, nat_lt, nat_le, if◌then◌else◌, bytes_eq}
use Rattle.std.specs.Prelude.{codes, ◌⊎◌, Result, Ok, Err, Option, Some, None}
use Rattle.std.specs.List.{list_any}
use Rattle.dr_meaning.specs.Schema.{Repetition, required, optional, repeated, Kind, bool_kind, int32_kind, int64_kind, text_kind, Fields, no_fields}
use Rattle.dr_meaning.specs.Schema.{field, Shape, leaf, group, Schema, field_names, begins_name, continues_name, is_nonempty, longest_name}
use Rattle.dr_meaning.specs.Schema.{greatest_depth, most_leaves}

-- ---- tokens: names, braces, semicolons; blanks are space, tab, CR and LF

pub data Token : Type 0 where
  name : List ℕ → Token
  open_brace : Token
  close_brace : Token
  semicolon : Token
  -- a byte that begins no token
  bad : Token

-- a token and the byte place at which it begins
pub record Placed : Type 0 where
  pub place : ℕ
  pub token : Token

abbrev pub is_blank : ℕ → Bool
is_blank b = (b == 32) || (b == 9) || (b == 13) || (b == 10)

abbrev pub byte_token : ℕ → Token
byte_token b =
    if b == 123 then open_brace
    else (if b == 125 then close_brace
    else (if b == 59 then semicolon
    else bad))

-- the byte at place i, which goes on with no name, before the tokens behind it
abbrev pub with_byte : ℕ → ℕ → List Placed → List Placed
with_byte i b ts = if is_blank b then ts else record { place = i; token = byte_token b } ∷ ts

-- whether the byte goes on with the word that has begun, or begins one
abbrev pub goes_on : List ℕ → ℕ → Bool
goes_on [] b = begins_name b
goes_on (c ∷ w) b = continues_name b

-- the word that ends before place i, if one has begun, before the tokens behind it
abbrev pub with_word : ℕ → List ℕ → List Placed → List Placed
with_word i [] ts = ts
with_word i (c ∷ w) ts = record { place = i - length (c ∷ w); token = name (c ∷ w) } ∷ ts

-- the tokens of a text from place i on, where the word w has begun before it
abbrev pub tokens_from : ℕ → List ℕ → List ℕ → List Placed
tokens_from i w [] = with_word i w []
tokens_from i w (b ∷ bs) = if goes_on w b then tokens_from (suc i) (w ++ b ∷ []) bs else with_word i w (with_byte i b (tokens_from (suc i) [] bs))

abbrev pub tokens_of : List ℕ → List Placed
tokens_of text = tokens_from 0 [] text

abbrev pub bare : List Placed → List Token
bare ts = map (λ (t : Placed). t.token) ts

-- ---- the productions

abbrev pub repetition_word : Repetition → List ℕ
repetition_word required = codes "required"
repetition_word optional = codes "optional"
repetition_word repeated = codes "repeated"

abbrev pub kind_word : Kind → List ℕ
kind_word bool_kind = codes "boolean"
kind_word int32_kind = codes "int32"
kind_word int64_kind = codes "int64"
kind_word text_kind = codes "string"

-- [ ";" ]
abbrev pub IsOptionalSemicolon : List Token → Type 0
IsOptionalSemicolon ts = (ts ≡ []) ⊎ (ts ≡ semicolon ∷ [])

abbrev mutual
  -- { field }, with field = repetition shape
  pub SpellsFields : Fields → List Token → Type 0
  SpellsFields no_fields ts = ts ≡ []
  SpellsFields (field n r s fs) ts = (a : List Token) × (b : List Token) × (ts ≡ name (repetition_word r) ∷ (a ++ b)) × SpellsShape s n a × SpellsFields fs b

  -- kind name ";", or "group" name "{" field { field } "}" [ ";" ]
  pub SpellsShape : Shape → List ℕ → List Token → Type 0
  SpellsShape (leaf k) n ts = ts ≡ name (kind_word k) ∷ name n ∷ semicolon ∷ []
  SpellsShape (group fs) n ts = (a : List Token) × (b : List Token) × (ts ≡ name (codes "group") ∷ name n ∷ open_brace ∷ (a ++ close_brace ∷ b))
      × SpellsFields fs a × (is_nonempty fs ≡ true) × IsOptionalSemicolon b

-- "message" name "{" field { field } "}"
abbrev pub SpellsSchema : Schema → List Token → Type 0
SpellsSchema s ts = (a : List Token) × (ts ≡ name (codes "message") ∷ name s.name ∷ open_brace ∷ (a ++ close_brace ∷ [])) × SpellsFields s.fields a
    × (is_nonempty s.fields ≡ true)

-- ---- the canonical text: tokens separated by one space, but none before `;`; no `;` after a group; ended by LF

abbrev mutual
  pub field_tokens : Fields → List Token
  field_tokens no_fields = []
  field_tokens (field n r s fs) = name (repetition_word r) ∷ (shape_tokens s n ++ field_tokens fs)

  pub shape_tokens : Shape → List ℕ → List Token
  shape_tokens (leaf k) n = name (kind_word k) ∷ name n ∷ semicolon ∷ []
  shape_tokens (group fs) n = name (codes "group") ∷ name n ∷ open_brace ∷ (field_tokens fs ++ close_brace ∷ [])

abbrev pub schema_tokens : Schema → List Token
schema_tokens s = name (codes "message") ∷ name s.name ∷ open_brace ∷ (field_tokens s.fields ++ close_brace ∷ [])

abbrev pub token_text : Token → List ℕ
token_text (name n) = n
token_text open_brace = 123 ∷ []
token_text close_brace = 125 ∷ []
token_text semicolon = 59 ∷ []
token_text bad = []

abbrev pub before_token : Token → List ℕ
before_token (name n) = 32 ∷ []
before_token open_brace = 32 ∷ []
before_token close_brace = 32 ∷ []
before_token semicolon = []
before_token bad = 32 ∷ []

abbrev pub separated : List Token → List ℕ
separated [] = 10 ∷ []
separated (t ∷ ts) = before_token t ++ (token_text t ++ separated ts)

abbrev pub text_of_tokens : List Token → List ℕ
text_of_tokens [] = 10 ∷ []
text_of_tokens (t ∷ ts) = token_text t ++ separated ts

unfoldable pub schema_text : Schema → List ℕ
schema_text s = text_of_tokens (schema_tokens s)

-- ---- the schema of a text, or its first fault

pub data SchemaProblem : Type 0 where
  -- the text has more than 1,048,576 bytes
  too_long : SchemaProblem
  -- `float` or `double` where a kind may stand
  float_kind : SchemaProblem
  -- a `}` directly after a `{`
  empty_group : SchemaProblem
  -- the first token with which no schema text goes on
  syntax : SchemaProblem
  -- a name of more than 64 bytes
  bad_name : SchemaProblem
  -- a field's name that an earlier field of its group has
  duplicate_name : SchemaProblem
  -- a name whose path has 33 parts
  too_deep : SchemaProblem
  -- the name of the 1,025th leaf
  too_many_leaves : SchemaProblem

pub record SchemaFault : Type 0 where
  pub place : ℕ
  pub problem : SchemaProblem

-- what may stand next
pub data Expected : Type 0 where
  -- "message"; its name; its `{`
  message_word : Expected
  message_name : Expected
  message_brace : Expected
  -- the first field of a group; a further field or the group's end; the same or a `;` after a group
  first_field : Expected
  next_field : Expected
  after_group : Expected
  -- behind a repetition: a kind or "group"
  kind_or_group : Repetition → Expected
  -- a leaf's name and its `;`; a group's name and its `{`
  leaf_name : Repetition → Kind → Expected
  leaf_end : Repetition → Kind → List ℕ → Expected
  group_name : Repetition → Expected
  group_brace : Repetition → List ℕ → Expected
  -- the end of the text
  text_end : Expected

-- a group that is open: the fields before it in the group that holds it, its name and its repetition
pub record OpenGroup : Type 0 where
  pub before : Fields
  pub name : List ℕ
  pub repetition : Repetition

-- what has been read: the message's name, the fields so far of the innermost group, the open groups (the innermost first), the number of leaves
pub record Reading : Type 0 where
  pub expected : Expected
  pub message : List ℕ
  pub fields : Fields
  pub groups : List OpenGroup
  pub leaves : ℕ

abbrev pub reading_start : Reading
reading_start = record { expected = message_word; message = []; fields = no_fields; groups = []; leaves = 0 }

abbrev pub append_fields : Fields → Fields → Fields
append_fields no_fields gs = gs
append_fields (field n r s fs) gs = field n r s (append_fields fs gs)

abbrev pub expecting : Expected → Reading → Result Reading SchemaProblem
expecting e m = Ok (record m { expected = e })

-- a leaf joins the group
abbrev pub add_leaf : Repetition → Kind → List ℕ → Reading → Result Reading SchemaProblem
add_leaf r k n m = Ok (record m { expected = next_field; fields = append_fields m.fields (field n r (leaf k) no_fields); leaves = suc m.leaves })

abbrev pub begin_group : Repetition → List ℕ → Reading → Result Reading SchemaProblem
begin_group r n m = Ok (record m { expected = first_field; fields = no_fields; groups = record { before = m.fields; name = n; repetition = r } ∷ m.groups })

-- the innermost group ends, and joins the one that holds it; where none is open, the message ends
abbrev pub end_group : Reading → List OpenGroup → Result Reading SchemaProblem
end_group m [] = Ok (record m { expected = text_end })
end_group m (g ∷ gs) = Ok (record m {
  expected = after_group;
  fields = append_fields g.before (field g.name g.repetition (group m.fields) no_fields);
  groups = gs;
})

-- which of these has this word
abbrev pub with_word_of : {A : Type 0} → (A → List ℕ) → List A → List ℕ → Option A
with_word_of word [] w = None
with_word_of word (a ∷ rest) w = if bytes_eq w (word a) then Some a else with_word_of word rest w

abbrev pub repetition_of : List ℕ → Option Repetition
repetition_of w = with_word_of repetition_word (required ∷ optional ∷ repeated ∷ []) w

abbrev pub kind_of : List ℕ → Option Kind
kind_of w = with_word_of kind_word (bool_kind ∷ int32_kind ∷ int64_kind ∷ text_kind ∷ []) w

abbrev pub is_float_word : List ℕ → Bool
is_float_word w = bytes_eq w (codes "float") || bytes_eq w (codes "double")

abbrev pub on_repetition : Reading → Option Repetition → Result Reading SchemaProblem
on_repetition m None = Err syntax
on_repetition m (Some r) = expecting (kind_or_group r) m

abbrev pub on_kind : Reading → Repetition → List ℕ → Option Kind → Result Reading SchemaProblem
on_kind m r w (Some k) = expecting (leaf_name r k) m
on_kind m r w None =
    if bytes_eq w (codes "group") then expecting (group_name r) m
    else (if is_float_word w then Err float_kind
    else Err syntax)

-- a rule: whether it is broken, and the problem then
pub record Rule : Type 0 where
  pub broken : Bool
  pub problem : SchemaProblem

abbrev pub rule : Bool → SchemaProblem → Rule
rule b p = record { broken = b; problem = p }

-- the problem of the first of these rules that is broken
abbrev pub first_broken : List Rule → Option SchemaProblem
first_broken [] = None
first_broken (r ∷ rs) = if r.broken then Some r.problem else first_broken rs

-- the first fault of a field's name, if it has one: it is too long, an earlier field of the group has it, its path has 33 parts
abbrev pub name_problem : Reading → List ℕ → Option SchemaProblem
name_problem m n = first_broken
    (rule (nat_lt longest_name (length n)) bad_name
    ∷ rule (list_any (bytes_eq n) (field_names m.fields)) duplicate_name
    ∷ rule (nat_le greatest_depth (length m.groups)) too_deep ∷ [])

abbrev pub leaf_problem : Reading → Option SchemaProblem → Option SchemaProblem
leaf_problem m (Some p) = Some p
leaf_problem m None = if nat_le most_leaves m.leaves then Some too_many_leaves else None

abbrev pub unless : Option SchemaProblem → Result Reading SchemaProblem → Result Reading SchemaProblem
unless None r = r
unless (Some p) r = Err p

-- what a name does where this is expected
abbrev pub on_name : Expected → Reading → List ℕ → Result Reading SchemaProblem
on_name message_word m w = if bytes_eq w (codes "message") then expecting message_name m else Err syntax
on_name message_name m w = if nat_lt longest_name (length w) then Err bad_name else Ok (record m { expected = message_brace; message = w })
on_name message_brace m w = Err syntax
on_name first_field m w = on_repetition m (repetition_of w)
on_name next_field m w = on_repetition m (repetition_of w)
on_name after_group m w = on_repetition m (repetition_of w)
on_name (kind_or_group r) m w = on_kind m r w (kind_of w)
on_name (leaf_name r k) m w = unless (leaf_problem m (name_problem m w)) (expecting (leaf_end r k w) m)
on_name (leaf_end r k n) m w = Err syntax
on_name (group_name r) m w = unless (name_problem m w) (expecting (group_brace r w) m)
on_name (group_brace r n) m w = Err syntax
on_name text_end m w = Err syntax

abbrev pub on_open : Expected → Reading → Result Reading SchemaProblem
on_open message_brace m = expecting first_field m
on_open (group_brace r n) m = begin_group r n m
on_open e m = Err syntax

abbrev pub on_close : Expected → Reading → Result Reading SchemaProblem
on_close first_field m = Err empty_group
on_close next_field m = end_group m m.groups
on_close after_group m = end_group m m.groups
on_close e m = Err syntax

abbrev pub on_semicolon : Expected → Reading → Result Reading SchemaProblem
on_semicolon (leaf_end r k n) m = add_leaf r k n m
on_semicolon after_group m = expecting next_field m
on_semicolon e m = Err syntax

abbrev pub on_token : Reading → Token → Result Reading SchemaProblem
on_token m (name w) = on_name m.expected m w
on_token m open_brace = on_open m.expected m
on_token m close_brace = on_close m.expected m
on_token m semicolon = on_semicolon m.expected m
on_token m bad = Err syntax

-- the schema, where the text may end
abbrev pub at_text_end : Expected → Reading → ℕ → Result Schema SchemaFault
at_text_end text_end m size = Ok (record { name = m.message; fields = m.fields })
at_text_end e m size = Err (record { place = size; problem = syntax })

-- the fault at a token's place, or what the tokens behind it give
abbrev pub or_fault : ℕ → (Reading → Result Schema SchemaFault) → Result Reading SchemaProblem → Result Schema SchemaFault
or_fault i next (Ok m) = next m
or_fault i next (Err p) = Err (record { place = i; problem = p })

-- reading the tokens of a text of this size
abbrev pub read_tokens : ℕ → List Placed → Reading → Result Schema SchemaFault
read_tokens size [] m = at_text_end m.expected m size
read_tokens size (t ∷ ts) m = or_fault t.place (read_tokens size ts) (on_token m t.token)

abbrev pub longest_schema : ℕ
longest_schema = 1048576

-- the schema of a text, or its first fault
unfoldable pub parse_schema : List ℕ → Result Schema SchemaFault
parse_schema text =
    if nat_lt longest_schema (length text) then Err (record { place = longest_schema; problem = too_long })
    else read_tokens (length text) (tokens_of text) reading_start

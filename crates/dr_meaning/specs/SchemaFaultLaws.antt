-- The law of the faults of names in schema text: at each its rule is broken, no rule before it at that name, and none at the names before.
use Rattle.std.specs.Prelude.{◌≡◌, ℕ, ◌+◌, ◌<◌, ◌≤◌, List, [], ◌∷◌, ◌++◌, length, Bool, true, false, bytes_eq, codes, ◌⊎◌, Option, Some, None, Err}
use Rattle.std.specs.List.{list_any}
use Rattle.dr_meaning.specs.Schema.{Repetition, Kind, Fields, field_names, is_group, is_short_name, depth, leaf_count, longest_name}
use Rattle.dr_meaning.specs.Schema.{greatest_depth, most_leaves}
use Rattle.dr_meaning.specs.SchemaText.{Token, name, open_brace, Placed, tokens_of, bare, repetition_word, kind_word, SpellsFields, OpenGroup, parse_schema}
use Rattle.dr_meaning.specs.SchemaText.{SchemaProblem, too_long, float_kind, empty_group, syntax, bad_name, duplicate_name, too_deep, too_many_leaves}

-- ---- a text up to the name of a field

-- "message" name "{"
abbrev pub message_head : List ℕ → List Token
message_head n = name (codes "message") ∷ name n ∷ open_brace ∷ []

-- repetition "group" name "{"
abbrev pub group_head : Repetition → List ℕ → List Token
group_head r n = name (repetition_word r) ∷ name (codes "group") ∷ name n ∷ open_brace ∷ []

-- the open groups, the innermost first, each behind the fields before it
abbrev pub SpellsOpen : List OpenGroup → List Token → Type 0
SpellsOpen [] ts = ts ≡ []
SpellsOpen (g ∷ gs) ts = (a : List Token) × (b : List Token) × (ts ≡ a ++ (b ++ group_head g.repetition g.name)) × SpellsOpen gs a × SpellsFields g.before b

-- a kind, or "group"
abbrev pub shape_word : Option Kind → List ℕ
shape_word None = codes "group"
shape_word (Some k) = kind_word k

-- the message's head, the open groups, the fields before, then the repetition of the next field and its kind or "group"
abbrev pub IsBeforeName : List OpenGroup → Fields → Option Kind → List Token → Type 0
IsBeforeName gs fs k ts = (m : List ℕ) × (r : Repetition) × (a : List Token) × (b : List Token)
    × (ts ≡ message_head m ++ (a ++ (b ++ name (repetition_word r) ∷ name (shape_word k) ∷ []))) × SpellsOpen gs a × SpellsFields fs b

-- how many leaves the open groups have before them
abbrev pub leaves_before : List OpenGroup → ℕ
leaves_before [] = 0
leaves_before (g ∷ gs) = leaf_count g.before + leaves_before gs

-- ---- the rules of a name, in their order

abbrev pub IsLong : List ℕ → Type 0
IsLong w = longest_name < length w

-- an earlier field of its group has it
abbrev pub is_taken : Fields → List ℕ → Bool
is_taken fs w = list_any (bytes_eq w) (field_names fs)

-- the name breaks the rule of this problem, and none before it: a path of more than 32 parts, more than 1,024 leaves
abbrev pub BreaksFirst : SchemaProblem → List OpenGroup → Fields → Option Kind → List ℕ → Type 0
BreaksFirst bad_name gs fs k w = IsLong w
BreaksFirst duplicate_name gs fs k w = ¬ IsLong w × (is_taken fs w ≡ true)
BreaksFirst too_deep gs fs k w = ¬ IsLong w × (is_taken fs w ≡ false) × (greatest_depth < length gs + 1)
BreaksFirst too_many_leaves gs fs k w = ¬ IsLong w × (is_taken fs w ≡ false) × (length gs + 1 ≤ greatest_depth)
    × ((j : Kind) × (k ≡ Some j)) × (most_leaves < leaves_before gs + leaf_count fs + 1)
BreaksFirst p gs fs k w = ⊥

-- fields in this many open groups keep the rules of names and of depth
abbrev pub KeepRules : ℕ → Fields → Type 0
KeepRules n fs = (is_group fs ≡ true) × (n + depth fs ≤ greatest_depth)

-- the fields before keep these rules, and so do the open groups with the fields before them
abbrev pub AllKeepRules : List OpenGroup → Fields → Type 0
AllKeepRules [] fs = KeepRules 0 fs
AllKeepRules (g ∷ gs) fs = KeepRules (length gs + 1) fs × (is_short_name g.name ≡ true) × (is_taken g.before g.name ≡ false) × AllKeepRules gs g.before

-- ---- the law

-- the problems of names
abbrev pub is_of_name : SchemaProblem → Bool
is_of_name too_long = false
is_of_name float_kind = false
is_of_name empty_group = false
is_of_name syntax = false
is_of_name bad_name = true
is_of_name duplicate_name = true
is_of_name too_deep = true
is_of_name too_many_leaves = true

-- the name of a message that is too long, or a field's name that breaks a rule
abbrev pub IsBroken : SchemaProblem → List Token → List ℕ → Type 0
IsBroken p before w = ((p ≡ bad_name) × (before ≡ name (codes "message") ∷ []) × IsLong w)
    ⊎ ((gs : List OpenGroup) × (fs : Fields) × (k : Option Kind) × IsBeforeName gs fs k before × AllKeepRules gs fs
    × (leaves_before gs + leaf_count fs ≤ most_leaves) × BreaksFirst p gs fs k w)

-- at a fault of a name stands a name that breaks its rule and none before it, and what stands before keeps all rules
abbrev pub NameFaultIsBroken : Type 0
NameFaultIsBroken = (text : List ℕ) (place : ℕ) (p : SchemaProblem) → is_of_name p ≡ true → parse_schema text ≡ Err (record { place = place; problem = p })
    → (before : List Placed) × (w : List ℕ) × (after : List Placed)
    × (tokens_of text ≡ before ++ record { place = place; token = name w } ∷ after) × IsBroken p (bare before) w

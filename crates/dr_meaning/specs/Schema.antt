-- Schemas: trees of named fields (Dremel 2010, section 3, "Data model").
use Rattle.std.specs.Prelude.{ℕ, ◌+◌, max, List, [], ◌∷◌, length, Bool, true, false, not, ◌&&◌, ◌||◌, ◌==◌, nat_le, bytes_eq}
use Rattle.std.specs.List.{list_all, list_any}

-- how often a field stands in its group: exactly once, at most once, any number of times
pub data Repetition : Type 0 where
  required : Repetition
  optional : Repetition
  repeated : Repetition

-- the values of a leaf: truth values, whole numbers of 32 or 64 bits, texts
pub data Kind : Type 0 where
  bool_kind : Kind
  int32_kind : Kind
  int64_kind : Kind
  text_kind : Kind

-- whether two kinds are the same
abbrev pub same_kind : Kind → Kind → Bool
same_kind bool_kind bool_kind = true
same_kind int32_kind int32_kind = true
same_kind int64_kind int64_kind = true
same_kind text_kind text_kind = true
same_kind k l = false

mutual
  -- the fields of a group, in order: each has a name, a repetition and a shape
  pub data Fields : Type 0 where
    no_fields : Fields
    field : List ℕ → Repetition → Shape → Fields → Fields

  -- what a field is: a leaf of a kind, or a group of fields
  pub data Shape : Type 0 where
    leaf : Kind → Shape
    group : Fields → Shape

-- a message: its name and its fields
pub record Schema : Type 0 where
  pub name : List ℕ
  pub fields : Fields

-- the fields of a group; a leaf has none
abbrev pub fields_of : Shape → Fields
fields_of (leaf k) = no_fields
fields_of (group fs) = fs

-- 1 for a repeated field: what it adds to the repetition level (Dremel 2010, section 4.1)
abbrev pub repetition_count : Repetition → ℕ
repetition_count required = 0
repetition_count optional = 0
repetition_count repeated = 1

-- 1 for a field that may be absent: what it adds to the definition level (Dremel 2010, section 4.1)
abbrev pub definition_count : Repetition → ℕ
definition_count required = 0
definition_count optional = 1
definition_count repeated = 1

abbrev pub is_repeated : Repetition → Bool
is_repeated required = false
is_repeated optional = false
is_repeated repeated = true

-- the names of the fields of one group
abbrev pub field_names : Fields → List (List ℕ)
field_names no_fields = []
field_names (field n r s fs) = n ∷ field_names fs

-- ---- the limits

abbrev pub longest_name : ℕ
longest_name = 64

abbrev pub greatest_depth : ℕ
greatest_depth = 32

abbrev pub most_leaves : ℕ
most_leaves = 1024

-- how many leaves there are
abbrev mutual
  pub leaf_count : Fields → ℕ
  leaf_count no_fields = 0
  leaf_count (field n r s fs) = shape_leaf_count s + leaf_count fs

  pub shape_leaf_count : Shape → ℕ
  shape_leaf_count (leaf k) = 1
  shape_leaf_count (group fs) = leaf_count fs

-- how many repeated fields there are
abbrev mutual
  pub repeated_fields : Fields → ℕ
  repeated_fields no_fields = 0
  repeated_fields (field n r s fs) = repetition_count r + shape_repeated_fields s + repeated_fields fs

  pub shape_repeated_fields : Shape → ℕ
  shape_repeated_fields (leaf k) = 0
  shape_repeated_fields (group fs) = repeated_fields fs

-- the parts of the longest path
abbrev mutual
  pub depth : Fields → ℕ
  depth no_fields = 0
  depth (field n r s fs) = max (1 + shape_depth s) (depth fs)

  pub shape_depth : Shape → ℕ
  shape_depth (leaf k) = 0
  shape_depth (group fs) = depth fs

-- a letter of ASCII or `_`; or a digit
abbrev pub begins_name : ℕ → Bool
begins_name b = (nat_le 65 b && nat_le b 90) || (nat_le 97 b && nat_le b 122) || (b == 95)

abbrev pub continues_name : ℕ → Bool
continues_name b = begins_name b || (nat_le 48 b && nat_le b 57)

-- `[A-Za-z_][A-Za-z0-9_]*`
abbrev pub is_name : List ℕ → Bool
is_name [] = false
is_name (b ∷ bs) = begins_name b && list_all continues_name bs

-- such a name of at most 64 bytes
abbrev pub is_short_name : List ℕ → Bool
is_short_name n = is_name n && nat_le (length n) longest_name

-- each group has a field, distinct names of the right form, and only such groups
abbrev mutual
  pub is_group : Fields → Bool
  is_group no_fields = true
  is_group (field n r s fs) = is_short_name n && not (list_any (bytes_eq n) (field_names fs)) && is_shape s && is_group fs

  pub is_shape : Shape → Bool
  is_shape (leaf k) = true
  is_shape (group fs) = is_nonempty fs && is_group fs

  pub is_nonempty : Fields → Bool
  is_nonempty no_fields = false
  is_nonempty (field n r s fs) = true

-- a schema of this form within the limits
abbrev pub is_schema : Schema → Bool
is_schema s = is_short_name s.name && is_shape (group s.fields) && nat_le (depth s.fields) greatest_depth && nat_le (leaf_count s.fields) most_leaves

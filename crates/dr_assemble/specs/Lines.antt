-- The lines of records, of the triplets of their leaves.
use Rattle.std.specs.Prelude.{◌≡◌, ℕ, zero, suc, ◌+◌, List, [], ◌∷◌, ◌++◌, map, Bool, true, false, nat_lt, if◌then◌else◌, Option, Some, None}
use Rattle.std.specs.List.{flat_map}
use Rattle.dr_meaning.specs.Schema.{Repetition, required, optional, repeated, Fields, no_fields, field, Shape, leaf, group, repetition_count, definition_count}
use Rattle.dr_meaning.specs.Path.{Step}
use Rattle.dr_meaning.specs.Record.{Value, Node, project}
use Rattle.dr_meaning.specs.Column.{Triplet}
use Rattle.dr_meaning.specs.Print.{value_text, member_text, braced, bracketed, record_text}
use Rattle.dr_walk.specs.Walking.{HasColumns}
use Rattle.dr_assemble.specs.Restoring.{Strip, front_at, after_front, count_pieces, first_pieces, other_pieces, first_definition, first_strip_value}

-- ---- what is printed of strips

abbrev pub text_of_value : Option Value → List ℕ
text_of_value None = []
text_of_value (Some v) = value_text v

-- so many texts, one after another, each of the first pieces of what the earlier ones left
abbrev pub text_each : (List Strip → List ℕ) → ℕ → ℕ → List Strip → List (List ℕ)
text_each f l zero S = []
text_each f l (suc n) S = f (first_pieces l S) ∷ text_each f l n (other_pieces l S)

-- how many instances a repeated field has, whose instances have the level l, in a group with the definition level d
abbrev pub list_count : ℕ → ℕ → List Strip → ℕ
list_count l d [] = 0
list_count l d (g ∷ S) = if nat_lt d (first_definition g.triplets) then count_pieces l g.triplets else 0

-- what stands behind a field's name: a list, or the one instance
abbrev pub text_held : Repetition → (List Strip → List ℕ) → ℕ → ℕ → List Strip → List ℕ
text_held required f l d S = f S
text_held optional f l d S = f S
text_held repeated f l d S = bracketed (text_each f l (list_count l d S) S)

-- whether a field is printed, in a group with the definition level d: where a strip leads into it, a repeated and a required one always is, an optional
-- one where it is there
abbrev pub is_printed : Repetition → ℕ → List Strip → Bool
is_printed r d [] = false
is_printed required d (g ∷ S) = true
is_printed optional d (g ∷ S) = nat_lt d (first_definition g.triplets)
is_printed repeated d (g ∷ S) = true

abbrev pub part_if : Bool → List ℕ → List (List ℕ)
part_if true p = p ∷ []
part_if false p = []

-- a field's member, if it is printed, in a group below l repeated fields with the definition level d
abbrev pub text_member : Repetition → List ℕ → (List Strip → List ℕ) → ℕ → ℕ → List Strip → List (List ℕ)
text_member r m f l d S = part_if (is_printed r d S) (member_text m (text_held r f (l + repetition_count r) d S))

abbrev mutual
  -- the members of a group, from the field at place i on, below l repeated fields, with definition level d
  pub text_members : Fields → ℕ → ℕ → ℕ → List Strip → List (List ℕ)
  text_members no_fields i l d S = []
  text_members (field m r s fs) i l d S = text_member r m (text_one s (l + repetition_count r) (d + definition_count r)) l d (front_at i S) ++ text_members fs (suc i) l d (after_front i S)

  pub text_one : Shape → ℕ → ℕ → List Strip → List ℕ
  text_one (leaf k) l d S = text_of_value (first_strip_value S)
  text_one (group fs) l d S = braced (text_members fs 0 l d S)

-- ---- lines

abbrev pub ended : List ℕ → List ℕ
ended t = t ++ 10 ∷ []

-- the lines of so many records
abbrev pub strip_lines : Fields → ℕ → List Strip → List ℕ
strip_lines fs rows S = flat_map ended (text_each (text_one (group fs) 0 0) 0 rows S)

-- the lines of records
abbrev pub lines_text : Fields → List Node → List ℕ
lines_text fs R = flat_map (record_text fs) R

-- the lines of so many records with these columns, projected to the leaves, joined a text
abbrev pub PrintsRecords : Fields → List (List Step) → List (List Triplet) → ℕ → List ℕ → List ℕ → Type 0
PrintsRecords fs F C rows before after = (R : List Node) × HasColumns fs F C rows R × (after ≡ before ++ lines_text fs (map (project F) R))

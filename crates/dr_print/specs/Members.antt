-- Members of an object, put one behind another.
use Rattle.std.specs.Prelude.{ℕ, List, [], ◌∷◌, Bool, true, false, Option, Some, None}
use Rattle.dr_meaning.specs.Schema.{Repetition, required, optional, repeated}
use Rattle.dr_meaning.specs.Record.{Instances}
use Rattle.dr_meaning.specs.Print.{bracketed, instance_texts, field_members, shape_text}
use Rattle.dr_nested.specs.Views.{SeenField}

-- whether there are parts
abbrev pub has_parts : List (List ℕ) → Bool
has_parts [] = false
has_parts (p ∷ ps) = true

-- the first part, if there is one
abbrev pub first_part : List (List ℕ) → List ℕ
first_part [] = []
first_part (p ∷ ps) = p

-- what stands behind a field's name: a list, or the one instance
abbrev pub held_text : Repetition → List (List ℕ) → List ℕ
held_text required ts = first_part ts
held_text optional ts = first_part ts
held_text repeated ts = bracketed ts

-- the texts of a field's instances
abbrev pub texts_in : SeenField → Instances → List (List ℕ)
texts_in f xs = instance_texts (shape_text f.shape) xs

-- the members of a field by its slot: none at a gap
abbrev pub members_in : SeenField → Option Instances → List (List ℕ)
members_in f None = []
members_in f (Some xs) = field_members f.repetition f.name (texts_in f xs)

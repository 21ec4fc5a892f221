-- Paths of a schema, resolved to the places of their fields, with their levels (Dremel 2010, section 4.1).
use Rattle.std.specs.Prelude.{ℕ, zero, suc, ◌+◌, List, [], ◌∷◌, ◌++◌, map, Bool, true, false, ◌&&◌, ◌==◌, if◌then◌else◌, bytes_eq, Option, Some, None}
use Rattle.std.specs.Prelude.{option_map, option_and_then, Result, Ok, Err}
use Rattle.dr_meaning.specs.Schema.{Repetition, required, optional, repeated, Kind, Fields, no_fields, field, Shape, leaf, group, fields_of}
use Rattle.dr_meaning.specs.Schema.{repetition_count, definition_count, is_repeated}
use Rattle.dr_meaning.specs.Lists.{onto_first}

-- one field on a path: its place in its group, counted from 0, and its repetition
pub record Step : Type 0 where
  pub place : ℕ
  pub repetition : Repetition

-- a leaf of a schema: the names on its path, its path, its kind
pub record Leaf : Type 0 where
  pub names : List (List ℕ)
  pub path : List Step
  pub kind : Kind

abbrev pub paths_of_leaves : List Leaf → List (List Step)
paths_of_leaves ls = map (λ (l : Leaf). l.path) ls

-- ---- from names to paths

-- what a path leads to
pub record Found : Type 0 where
  pub path : List Step
  pub shape : Shape

-- the field of this name in a group, whose first field has the place i
abbrev pub named_field : List ℕ → ℕ → Fields → Option Found
named_field n i no_fields = None
named_field n i (field m r s fs) = if bytes_eq n m then Some (record { path = record { place = i; repetition = r } ∷ []; shape = s })
    else named_field n (suc i) fs

abbrev pub found_below : Found → Found → Found
found_below f g = record { path = f.path ++ g.path; shape = g.shape }

-- the field to which these names lead, below a shape
abbrev pub resolve : List (List ℕ) → Shape → Option Found
resolve [] s = Some (record { path = []; shape = s })
resolve (n ∷ ns) s = option_and_then (λ (f : Found). option_map (found_below f) (resolve ns f.shape)) (named_field n 0 (fields_of s))

abbrev pub find_path : List (List ℕ) → Fields → Option Found
find_path ns fs = resolve ns (group fs)

-- a text cut at its dots
abbrev pub cut_at_dots : List ℕ → List (List ℕ)
cut_at_dots [] = [] ∷ []
cut_at_dots (b ∷ bs) = if b == 46 then [] ∷ cut_at_dots bs else onto_first b (cut_at_dots bs)

-- why a path is refused: it leads to no field; it leads to a group
pub data PathFault : Type 0 where
  unknown_field : PathFault
  not_a_leaf : PathFault

-- what stands at a path's end
abbrev pub leaf_at : List (List ℕ) → List Step → Shape → Result Leaf PathFault
leaf_at ns p (leaf k) = Ok (record { names = ns; path = p; kind = k })
leaf_at ns p (group fs) = Err not_a_leaf

abbrev pub found_leaf : List (List ℕ) → Option Found → Result Leaf PathFault
found_leaf ns None = Err unknown_field
found_leaf ns (Some f) = leaf_at ns f.path f.shape

-- the leaf that a text names, its parts joined by dots, or why there is none
abbrev pub find_leaf : List ℕ → Fields → Result Leaf PathFault
find_leaf text fs = found_leaf (cut_at_dots text) (find_path (cut_at_dots text) fs)

-- ---- levels and chains

-- the greatest repetition level: the number of repeated fields on the path
abbrev pub max_repetition : List Step → ℕ
max_repetition [] = 0
max_repetition (s ∷ p) = repetition_count s.repetition + max_repetition p

-- the greatest definition level: the number of fields on the path that aren't required
abbrev pub max_definition : List Step → ℕ
max_definition [] = 0
max_definition (s ∷ p) = definition_count s.repetition + max_definition p

-- the repeated fields on the path, outermost first, each by its own path
abbrev pub chain : List Step → List (List Step)
chain [] = []
chain (s ∷ p) = if is_repeated s.repetition then (s ∷ []) ∷ map (λ q. s ∷ q) (chain p) else map (λ q. s ∷ q) (chain p)

abbrev pub up_to : Step → List Step → List Step
up_to s [] = if is_repeated s.repetition then s ∷ [] else []
up_to s (t ∷ p) = s ∷ t ∷ p

-- the path of the last repeated field on it, or the empty path, the record's: the instances to which a value at this path belongs
abbrev pub chain_end : List Step → List Step
chain_end [] = []
chain_end (s ∷ p) = up_to s (chain_end p)

-- the common level of two paths: the number of repeated fields on their common front
abbrev pub common : List Step → List Step → ℕ
common [] q = 0
common (s ∷ p) [] = 0
common (s ∷ p) (t ∷ q) = if s.place == t.place then repetition_count s.repetition + common p q else 0

-- whether the second path begins with the first
abbrev pub begins_with : List Step → List Step → Bool
begins_with [] q = true
begins_with (s ∷ p) [] = false
begins_with (s ∷ p) (t ∷ q) = (s.place == t.place) && begins_with p q

abbrev pub same_path : List Step → List Step → Bool
same_path p q = begins_with p q && begins_with q p

-- whether the first path has fewer fields
abbrev pub is_shorter : List Step → List Step → Bool
is_shorter p [] = false
is_shorter [] (t ∷ q) = true
is_shorter (s ∷ p) (t ∷ q) = is_shorter p q

-- the path with more fields, the first where they have as many. All fields are counted, not only the repeated ones: it is used on paths
-- of repeated fields of one query, whose chains begin with one another, and there the longer path has the longer chain
abbrev pub longer : List Step → List Step → List Step
longer p q = if is_shorter p q then q else p

-- ---- the leaves of a schema

abbrev pub same_repetition : Repetition → Repetition → Bool
same_repetition required required = true
same_repetition optional optional = true
same_repetition repeated repeated = true
same_repetition r t = false

abbrev pub is_empty_path : List Step → Bool
is_empty_path [] = true
is_empty_path (s ∷ p) = false

-- the path goes through the first field, which passes, or through a later one, which passes
abbrev pub through : ℕ → Bool → (ℕ → Bool) → Bool
through zero first later = first
through (suc i) first later = later i

-- whether the path is that of a leaf
abbrev mutual
  pub is_leaf_path : Fields → List Step → Bool
  is_leaf_path no_fields p = false
  is_leaf_path (field n r s fs) [] = false
  is_leaf_path (field n r s fs) (t ∷ p) = through t.place (same_repetition t.repetition r && is_shape_path s p)
      (λ i. is_leaf_path fs (record { place = i; repetition = t.repetition } ∷ p))

  pub is_shape_path : Shape → List Step → Bool
  is_shape_path (leaf k) p = is_empty_path p
  is_shape_path (group fs) p = is_leaf_path fs p

-- the leaves in schema order
abbrev pub leaf_below : List ℕ → Step → Leaf → Leaf
leaf_below n s l = record { names = n ∷ l.names; path = s ∷ l.path; kind = l.kind }

abbrev mutual
  -- of a group whose first field has the place i
  pub leaves_from : Fields → ℕ → List Leaf
  leaves_from no_fields i = []
  leaves_from (field n r s fs) i = map (leaf_below n (record { place = i; repetition = r })) (shape_leaves s) ++ leaves_from fs (suc i)

  pub shape_leaves : Shape → List Leaf
  shape_leaves (leaf k) = record { names = []; path = []; kind = k } ∷ []
  shape_leaves (group fs) = leaves_from fs 0

abbrev pub leaves : Fields → List Leaf
leaves fs = leaves_from fs 0

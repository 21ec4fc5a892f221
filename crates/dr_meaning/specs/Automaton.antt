-- The record assembly automaton and the orders of leaves (Dremel 2010, section 4.3 and appendix B).
use Rattle.std.specs.Prelude.{ℕ, zero, suc, List, [], ◌∷◌, ◌++◌, map, nat_le, if◌then◌else◌, Option, Some, None, decimal, codes}
use Rattle.std.specs.List.{slice_get, join_with_byte, flat_map}
use Rattle.dr_meaning.specs.Schema.{Repetition, required, optional, repeated, Fields, no_fields, field, Shape, leaf, group}
use Rattle.dr_meaning.specs.Path.{Step, Leaf, common, max_repetition}

-- ---- selected leaves

-- the rest of a selected leaf's path, and the leaf's place in the selection
pub record Pick : Type 0 where
  pub rest : List Step
  pub index : ℕ

abbrev pub picks_from : ℕ → List (List Step) → List Pick
picks_from i [] = []
picks_from i (p ∷ F) = record { rest = p; index = i } ∷ picks_from (suc i) F

abbrev pub picks : List (List Step) → List Pick
picks F = picks_from 0 F

-- those that go through the first field of a group, with what is left of their paths behind it
abbrev pub first_picks_if : ℕ → List Step → ℕ → List Pick → List Pick
first_picks_if zero p i F = record { rest = p; index = i } ∷ F
first_picks_if (suc k) p i F = F

abbrev pub first_picks_and : List Step → ℕ → List Pick → List Pick
first_picks_and [] i F = F
first_picks_and (s ∷ p) i F = first_picks_if s.place p i F

abbrev pub first_picks : List Pick → List Pick
first_picks [] = []
first_picks (f ∷ F) = first_picks_and f.rest f.index (first_picks F)

-- those that go through a later field, as the rest of the group counts its fields
abbrev pub later_picks_if : ℕ → Step → List Step → ℕ → List Pick → List Pick
later_picks_if zero s p i F = F
later_picks_if (suc k) s p i F = record { rest = record { place = k; repetition = s.repetition } ∷ p; index = i } ∷ F

abbrev pub later_picks_and : List Step → ℕ → List Pick → List Pick
later_picks_and [] i F = F
later_picks_and (s ∷ p) i F = later_picks_if s.place s p i F

abbrev pub later_picks : List Pick → List Pick
later_picks [] = []
later_picks (f ∷ F) = later_picks_and f.rest f.index (later_picks F)

-- the places in the selection
abbrev pub indexes : List Pick → List ℕ
indexes F = map (λ (f : Pick). f.index) F

-- ---- schema order: depth first

abbrev mutual
  pub schema_order_in : Fields → List Pick → List ℕ
  schema_order_in no_fields F = []
  schema_order_in (field n r s fs) F = shape_schema_order s (first_picks F) ++ schema_order_in fs (later_picks F)

  pub shape_schema_order : Shape → List Pick → List ℕ
  shape_schema_order (leaf k) F = indexes F
  shape_schema_order (group fs) F = schema_order_in fs F

-- the selected leaves in schema order, by their places in the selection
abbrev pub schema_order : Fields → List (List Step) → List ℕ
schema_order fs F = schema_order_in fs (picks F)

-- ---- reading order, level by level: the leaves of a level in schema order, then for each next repeated field the leaves below it in reading order

abbrev pub unless_repeated : Repetition → List ℕ → List ℕ
unless_repeated required xs = xs
unless_repeated optional xs = xs
unless_repeated repeated xs = []

abbrev pub where_repeated : Repetition → List ℕ → List ℕ
where_repeated required xs = []
where_repeated optional xs = []
where_repeated repeated xs = xs

abbrev mutual
  -- the leaves of this level
  pub near_order : Fields → List Pick → List ℕ
  near_order no_fields F = []
  near_order (field n r s fs) F = unless_repeated r (shape_near_order s (first_picks F)) ++ near_order fs (later_picks F)

  -- the leaves below its next repeated fields
  pub far_order : Fields → List Pick → List ℕ
  far_order no_fields F = []
  far_order (field n r s fs) F = where_repeated r (shape_near_order s (first_picks F)) ++ shape_far_order s (first_picks F) ++ far_order fs (later_picks F)

  pub shape_near_order : Shape → List Pick → List ℕ
  shape_near_order (leaf k) F = indexes F
  shape_near_order (group fs) F = near_order fs F

  pub shape_far_order : Shape → List Pick → List ℕ
  shape_far_order (leaf k) F = []
  shape_far_order (group fs) F = far_order fs F

-- the selected leaves in reading order, by their places in the selection
abbrev pub reading_order : Fields → List (List Step) → List ℕ
reading_order fs F = near_order fs (picks F) ++ far_order fs (picks F)

-- ---- transitions

-- the first of the leaves, counted from i, whose common level with f is at least the level
abbrev pub first_common : ℕ → List Step → ℕ → List (List Step) → Option ℕ
first_common i f l [] = None
first_common i f l (g ∷ gs) = if nat_le l (common f g) then Some i else first_common (suc i) f l gs

-- of a leaf with its next leaf: a level of at most their common level goes to the next leaf; where there is none, level 0 goes to the end
abbrev pub transition_by : List (List Step) → List Step → ℕ → Option (List Step) → ℕ → Option ℕ
transition_by order f i None l = if nat_le l 0 then None else first_common 0 f l order
transition_by order f i (Some g) l = if nat_le l (common f g) then Some (suc i) else first_common 0 f l order

-- where a level leads from the leaf f at place i of the order: to a leaf's place, or to the end (none)
abbrev pub transition_from : List (List Step) → ℕ → ℕ → Option (List Step) → Option ℕ
transition_from order i l None = None
transition_from order i l (Some f) = transition_by order f i (slice_get order (suc i)) l

abbrev pub transition : List (List Step) → ℕ → ℕ → Option ℕ
transition order i l = transition_from order i l (slice_get order i)

-- ---- the automaton as text: leaf, level, next leaf or `end`; levels ascend

abbrev pub leaf_name : Leaf → List ℕ
leaf_name l = join_with_byte 46 l.names

abbrev pub target_name : List Leaf → Option ℕ → List ℕ
target_name ls None = codes "end"
target_name [] (Some i) = []
target_name (l ∷ ls) (Some zero) = leaf_name l
target_name (l ∷ ls) (Some (suc i)) = target_name ls (Some i)

abbrev pub transition_line : List Leaf → Leaf → ℕ → ℕ → List ℕ
transition_line ls f i l = join_with_byte 32 (leaf_name f ∷ decimal l ∷ target_name ls (transition (map (λ (g : Leaf). g.path) ls) i l) ∷ []) ++ 10 ∷ []

-- the numbers from i on, so many
abbrev pub counting : ℕ → ℕ → List ℕ
counting i zero = []
counting i (suc n) = i ∷ counting (suc i) n

abbrev pub leaf_lines : List Leaf → Leaf → ℕ → List ℕ
leaf_lines ls f i = flat_map (transition_line ls f i) (counting 0 (suc (max_repetition f.path)))

abbrev pub automaton_lines : List Leaf → ℕ → List Leaf → List ℕ
automaton_lines ls i [] = []
automaton_lines ls i (f ∷ fs) = leaf_lines ls f i ++ automaton_lines ls (suc i) fs

-- the automaton of leaves in this order, one transition to a line
unfoldable pub automaton_text : List Leaf → List ℕ
automaton_text ls = automaton_lines ls 0 ls

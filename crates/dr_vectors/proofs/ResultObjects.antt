-- The lists that lead from object to object, and the tree of a result's objects, by computation.
use Rattle.std.specs.Prelude.{◌≡◌, ℕ, List, [], ◌∷◌, map, Bool, true, false, filter, codes, refl}
use Rattle.std.specs.List.{list_any}
use Rattle.dr_meaning.specs.Schema.{Fields, no_fields, field, leaf, group, required, optional, repeated, int64_kind, text_kind}
use Rattle.dr_meaning.specs.Path.{Step, Leaf, begins_with, same_path, leaves}
use Rattle.dr_meaning.specs.Query.{levels_of}
use Rattle.dr_meaning.specs.Binding.{list_between, is_named}
use Rattle.dr_meaning.specs.QueryLeaves.{in_reading_order}
use Rattle.dr_plan.specs.Objects.{object_tree, no_lists, list_tree}
use Rattle.dr_planning.specs.NamedLevels.{joined, no_named, named}
use Rattle.dr_planning.specs.Trees.{named_object}
use Rattle.dr_meaning.proofs.WorkedSchemas.{document}
use Rattle.dr_meaning.proofs.WorkedPaths.{backward, forward, name, language_level}

-- the levels of the worked schema: each repeated field by its names from the level above
pub document_levels : joined (levels_of document) ≡ named (codes "Links.Backward") backward no_named (named (codes "Links.Forward") forward no_named
    (named (codes "Name") name (named (codes "Language") language_level no_named no_named) no_named))
document_levels = refl

pub nested_levels : (begins_with name language_level ≡ true) × (begins_with language_level name ≡ false) × (same_path language_level language_level ≡ true)
nested_levels = (refl, refl, refl)

-- whether a list of this name leads from the object of a level to an item of another one
abbrev leads : List Step → List Step → List ℕ → Bool
leads object level wanted = is_named wanted (list_between (levels_of document) object level)

-- the next list on the way
pub lists_on_the_way : (leads [] name (codes "Name") ≡ true) × (leads [] language_level (codes "Name") ≡ true)
    × (leads name language_level (codes "Language") ≡ true) × (leads [] backward (codes "Links.Backward") ≡ true)
lists_on_the_way = (refl, refl, refl, refl)

pub no_lists_elsewhere : (leads name name (codes "Name") ≡ false) × (leads [] backward (codes "Links") ≡ false) × (leads name backward (codes "Links.Backward") ≡ false)
    × (leads language_level name (codes "Name") ≡ false) × (leads [] language_level (codes "Language") ≡ false) × (leads [] [] (codes "Name") ≡ false)
no_lists_elsewhere = (refl, refl, refl, refl, refl, refl)

-- objects nest as levels: the items at the top, and each below the lists on the way to its level
pub nested_objects : named_object (language_level ∷ [] ∷ forward ∷ [] ∷ backward ∷ []) (joined (levels_of document)) ≡
    object_tree (1 ∷ 3 ∷ []) (list_tree (codes "Links.Backward") backward (object_tree (4 ∷ []) no_lists)
    (list_tree (codes "Links.Forward") forward (object_tree (2 ∷ []) no_lists)
    (list_tree (codes "Name") name (object_tree [] (list_tree (codes "Language") language_level (object_tree (0 ∷ []) no_lists) no_lists)) no_lists)))
nested_objects = refl

-- message Document { repeated group Name { optional string Url; } required int64 DocId; optional int64 Size; }
abbrev names_first : Fields
names_first = field (codes "Name") repeated (group (field (codes "Url") optional (leaf text_kind) no_fields))
    (field (codes "DocId") required (leaf int64_kind) (field (codes "Size") optional (leaf int64_kind) no_fields))

abbrev url : List Step
url = record { place = 0; repetition = repeated } ∷ record { place = 0; repetition = optional } ∷ []

abbrev doc_id : List Step
doc_id = record { place = 1; repetition = required } ∷ []

-- used leaves come once, in reading order
pub used_once : map (λ (l : Leaf). l.path) (in_reading_order names_first (filter (λ (l : Leaf). list_any (same_path l.path) (url ∷ doc_id ∷ url ∷ [])) (leaves names_first)))
    ≡ doc_id ∷ url ∷ []
used_once = refl

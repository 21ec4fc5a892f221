-- Paths, levels and orders of leaves, by computation.
use Rattle.std.specs.Prelude.{◌≡◌, ℕ, List, [], ◌∷◌, map, Ok, codes, refl}
use Rattle.dr_meaning.specs.Schema.{Repetition, Fields, no_fields, field, leaf, group, required, optional, repeated, bool_kind, int32_kind, int64_kind, text_kind}
use Rattle.dr_meaning.specs.Path.{Step, find_leaf, chain, chain_end, common, max_repetition, max_definition, leaves}
use Rattle.dr_meaning.specs.Expression.{longest_chain}
use Rattle.dr_meaning.specs.Automaton.{schema_order, reading_order}
use Rattle.dr_meaning.proofs.WorkedSchemas.{document}
use Rattle.dr_meaning.proofs.WorkedPaths.{doc_id, backward, forward, name, language_level, code, country, url}

-- the leaves of the worked schema
abbrev six : List (List Step)
six = doc_id ∷ backward ∷ forward ∷ code ∷ country ∷ url ∷ []

-- each has its greatest repetition level and its greatest definition level
pub greatest_levels : (map max_repetition six ≡ 0 ∷ 1 ∷ 1 ∷ 2 ∷ 2 ∷ 1 ∷ []) × (map max_definition six ≡ 0 ∷ 2 ∷ 2 ∷ 2 ∷ 3 ∷ 2 ∷ [])
greatest_levels = (refl, refl)

-- the repeated fields on each path
pub chains : map chain six ≡ [] ∷ (backward ∷ []) ∷ (forward ∷ []) ∷ (name ∷ language_level ∷ []) ∷ (name ∷ language_level ∷ []) ∷ (name ∷ []) ∷ []
chains = refl

-- the level that two paths share
pub common_levels : (common doc_id doc_id ≡ 0) × (common doc_id url ≡ 0) × (common backward backward ≡ 1) × (common backward forward ≡ 0)
    × (common forward url ≡ 0) × (common code country ≡ 2) × (common code url ≡ 1) × (common url country ≡ 1)
common_levels = (refl, refl, refl, refl, refl, refl, refl, refl)

abbrev step : ℕ → Repetition → Step
step i r = record { place = i; repetition = r }

-- the leaves with their names, steps and kinds
pub document_leaves : leaves document ≡
    record { names = codes "DocId" ∷ []; path = step 0 required ∷ []; kind = int64_kind }
    ∷ record { names = codes "Links" ∷ codes "Backward" ∷ []; path = step 1 optional ∷ step 0 repeated ∷ []; kind = int64_kind }
    ∷ record { names = codes "Links" ∷ codes "Forward" ∷ []; path = step 1 optional ∷ step 1 repeated ∷ []; kind = int64_kind }
    ∷ record { names = codes "Name" ∷ codes "Language" ∷ codes "Code" ∷ []; path = step 2 repeated ∷ step 0 repeated ∷ step 0 required ∷ []; kind = text_kind }
    ∷ record { names = codes "Name" ∷ codes "Language" ∷ codes "Country" ∷ []; path = step 2 repeated ∷ step 0 repeated ∷ step 1 optional ∷ []; kind = text_kind }
    ∷ record { names = codes "Name" ∷ codes "Url" ∷ []; path = step 2 repeated ∷ step 1 optional ∷ []; kind = text_kind } ∷ []
document_leaves = refl

-- a schema with groups that have to be there, and other kinds
abbrev small : Fields
small = field (codes "Part") optional (group (field (codes "Inner") required (group (field (codes "Flag") required (leaf bool_kind) no_fields)) no_fields))
    (field (codes "Count") required (leaf int32_kind) no_fields)

pub small_leaves : leaves small ≡
    record { names = codes "Part" ∷ codes "Inner" ∷ codes "Flag" ∷ []; path = step 0 optional ∷ step 0 required ∷ step 0 required ∷ []; kind = bool_kind }
    ∷ record { names = codes "Count" ∷ []; path = step 1 required ∷ []; kind = int32_kind } ∷ []
small_leaves = refl

-- a leaf is found by its names
pub found_country : find_leaf (codes "Name.Language.Country") document ≡ Ok (record {
  names = codes "Name" ∷ codes "Language" ∷ codes "Country" ∷ [];
  path = step 2 repeated ∷ step 0 repeated ∷ step 1 optional ∷ [];
  kind = text_kind;
})
found_country = refl

-- some leaves, and none, as places in the order of the schema and in reading order; all six are in WorkedAutomaton
pub some_leaves : (schema_order document (country ∷ url ∷ doc_id ∷ []) ≡ 2 ∷ 0 ∷ 1 ∷ []) × (reading_order document (country ∷ url ∷ doc_id ∷ []) ≡ 2 ∷ 1 ∷ 0 ∷ [])
    × (schema_order document [] ≡ []) × (reading_order document [] ≡ [])
some_leaves = (refl, refl, refl, refl)

-- a level ends with a repeated field; the longest of several
pub levels : (chain_end doc_id ≡ []) × (chain_end language_level ≡ language_level) × (chain_end url ≡ name) × (longest_chain (url ∷ code ∷ doc_id ∷ url ∷ []) ≡ language_level)
levels = (refl, refl, refl, refl)

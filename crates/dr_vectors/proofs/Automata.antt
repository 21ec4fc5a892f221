-- Leaves as places in a selection, and where an automaton ends, by computation.
use Rattle.std.specs.Prelude.{◌≡◌, ℕ, List, [], ◌∷◌, None, refl}
use Rattle.dr_meaning.specs.Automaton.{schema_order, reading_order, transition}
use Rattle.dr_meaning.specs.BoundExpression.{BoundPath, unrelated_after, unrelated, fault_at}
use Rattle.dr_meaning.specs.Path.{Step}
use Rattle.dr_meaning.specs.Schema.{int64_kind}
use Rattle.dr_meaning.proofs.WorkedSchemas.{document}
use Rattle.dr_meaning.proofs.WorkedPaths.{doc_id, forward, code, country, url}

-- each place is one in the selection, not in the schema
pub places_in_selection : (schema_order document (url ∷ country ∷ doc_id ∷ []) ≡ 2 ∷ 1 ∷ 0 ∷ []) × (reading_order document (url ∷ country ∷ doc_id ∷ []) ≡ 2 ∷ 0 ∷ 1 ∷ [])
places_in_selection = (refl, refl)

-- a level above a leaf's greatest, and what is no leaf, lead to the end
pub leads_nowhere : (transition (doc_id ∷ country ∷ []) 0 1 ≡ None) × (transition (doc_id ∷ country ∷ []) 1 3 ≡ None) × (transition (doc_id ∷ country ∷ []) 2 0 ≡ None)
leads_nowhere = (refl, refl, refl)

-- ---- related paths

-- a path to a leaf, at a place of a text
abbrev bound : ℕ → List Step → BoundPath
bound i p = record { place = i; leaf = record { names = []; path = p; kind = int64_kind } }

-- one path leads on from another, or neither has a repeated field; a path is told by its place that leads elsewhere than an earlier one
pub unrelated_paths : (unrelated_after [] (bound 0 url ∷ bound 1 code ∷ bound 2 doc_id ∷ bound 3 url ∷ []) ≡ []) × (unrelated_after [] (bound 0 doc_id ∷ bound 1 forward ∷ []) ≡ [])
    × (unrelated_after (url ∷ code ∷ doc_id ∷ url ∷ []) (bound 0 doc_id ∷ bound 1 forward ∷ []) ≡ fault_at 1 unrelated)
unrelated_paths = (refl, refl, refl)

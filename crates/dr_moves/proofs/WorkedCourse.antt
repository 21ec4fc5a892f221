-- Courses, by computation.
use Rattle.std.specs.Prelude.{◌≡◌, ℕ, zero, suc, List, [], ◌∷◌, map, true, false, refl}
use Rattle.dr_meaning.specs.Schema.{required, optional, repeated, int64_kind, text_kind, Kind, Fields, no_fields, field, leaf, group}
use Rattle.dr_meaning.specs.Path.{Step}
use Rattle.dr_meaning.proofs.WorkedSchemas.{document}
use Rattle.dr_meaning.proofs.WorkedPaths.{step, doc_id, backward, forward, code, country, url}
use Rattle.dr_moves.specs.Course.{Gate, reach, are_open, Give, comes_to, nothing, give, visit, followed_by, course}
use Rattle.dr_moves.specs.Selection.{all_differ}

abbrev pub gate : ℕ → ℕ → Gate
gate i d = record { leaf = i; definition = d }

-- ---- gates: levels 3, 1 and 0 come next for the leaves 0, 1 and all others

abbrev next : ℕ → ℕ
next zero = 3
next (suc zero) = 1
next (suc (suc i)) = 0

-- a group is there where the level is greater than its own
pub open_gates : map (are_open next) ([] ∷ (gate 0 2 ∷ []) ∷ (gate 0 3 ∷ []) ∷ (gate 0 2 ∷ gate 1 0 ∷ []) ∷ (gate 0 2 ∷ gate 1 1 ∷ []) ∷ (gate 1 1 ∷ gate 0 2 ∷ []) ∷ []) ≡
    true ∷ true ∷ false ∷ true ∷ false ∷ false ∷ []
open_gates = refl

pub reached : map (λ G. reach next G 7) ([] ∷ (gate 0 2 ∷ []) ∷ (gate 0 3 ∷ []) ∷ (gate 0 2 ∷ gate 1 0 ∷ []) ∷ (gate 0 2 ∷ gate 1 1 ∷ []) ∷ (gate 1 1 ∷ gate 0 3 ∷ []) ∷ []) ≡
    7 ∷ 7 ∷ 3 ∷ 7 ∷ 1 ∷ 1 ∷ []
reached = refl

abbrev pub given : ℕ → Kind → List Gate → ℕ → ℕ → Give
given i k G low full = record { leaf = i; kind = k; gates = G; low = low; full = full }

-- a leaf of the levels 4 and 5: behind open gates, and behind a shut one of level 3
pub may_come : (map (comes_to next (given 1 int64_kind (gate 0 2 ∷ []) 4 5)) (0 ∷ 2 ∷ 3 ∷ 4 ∷ 5 ∷ 6 ∷ []) ≡ false ∷ false ∷ false ∷ true ∷ true ∷ false ∷ [])
    × (map (comes_to next (given 1 int64_kind (gate 0 3 ∷ []) 4 5)) (0 ∷ 2 ∷ 3 ∷ 4 ∷ 5 ∷ 6 ∷ []) ≡ false ∷ false ∷ true ∷ false ∷ false ∷ false ∷ [])
may_come = (refl, refl)

-- ---- courses

-- a record's own leaf, then each name; in a name its own leaf, then each language
pub three_leaves : course document (doc_id ∷ country ∷ url ∷ []) ≡
    give (given 0 int64_kind [] 0 0) (
    visit (record { number = 3; level = 1; leaf = 1; gates = []; low = 0; leaves = 2 ∷ 1 ∷ [] })
    (give (given 2 text_kind [] 1 2)
    (visit (record { number = 4; level = 2; leaf = 1; gates = []; low = 1; leaves = 1 ∷ [] }) (give (given 1 text_kind [] 2 3) nothing) nothing))
    nothing)
three_leaves = refl

-- the fields of an optional group, each behind its gate; a repeated leaf's only level is that of its instances; nothing without selected leaves
pub links : (course document (forward ∷ backward ∷ []) ≡
    visit (record { number = 1; level = 1; leaf = 1; gates = gate 0 0 ∷ []; low = 1; leaves = 1 ∷ [] }) (give (given 1 int64_kind [] 2 2) nothing)
    (visit (record { number = 2; level = 1; leaf = 0; gates = gate 0 0 ∷ []; low = 1; leaves = 0 ∷ [] }) (give (given 0 int64_kind [] 2 2) nothing) nothing))
    × (course document [] ≡ nothing)
links = (refl, refl)

-- optional groups inside and outside of repeated ones:
-- { optional group g { repeated group h { optional group i { optional int64 a; required int64 b } }; required group j { optional int64 c } }; repeated int64 d }
abbrev pub fs : Fields
fs =
    field [] optional (group
    (field [] repeated (group (field [] optional (group (field [] optional (leaf int64_kind) (field [] required (leaf int64_kind) no_fields))) no_fields))
    (field [] required (group (field [] optional (leaf int64_kind) no_fields)) no_fields)))
    (field [] repeated (leaf int64_kind) no_fields)

abbrev pub F : List (List Step)
F = (step 0 optional ∷ step 0 repeated ∷ step 0 optional ∷ step 0 optional ∷ [])
    ∷ (step 0 optional ∷ step 0 repeated ∷ step 0 optional ∷ step 1 required ∷ [])
    ∷ (step 0 optional ∷ step 1 required ∷ step 0 optional ∷ [])
    ∷ (step 1 repeated ∷ []) ∷ []

-- g's gate is asked where the record begins, of its first selected leaf; i's where an instance of h begins
pub gated_course : course fs F ≡
    give (given 2 int64_kind (gate 0 0 ∷ []) 1 2) (
    visit (record { number = 1; level = 1; leaf = 0; gates = gate 0 0 ∷ []; low = 1; leaves = 0 ∷ 1 ∷ [] })
    (give (given 0 int64_kind (gate 0 2 ∷ []) 3 4) (give (given 1 int64_kind (gate 0 2 ∷ []) 3 3) nothing))
    (visit (record { number = 2; level = 1; leaf = 3; gates = []; low = 0; leaves = 3 ∷ [] }) (give (given 3 int64_kind [] 1 1) nothing) nothing))
gated_course = refl

pub one_behind_the_other : followed_by (give (given 0 int64_kind [] 0 0) nothing) (give (given 1 int64_kind [] 0 0) nothing) ≡ give (given 0 int64_kind [] 0 0) (give (given 1 int64_kind [] 0 0) nothing)
one_behind_the_other = refl

-- ---- selections

pub differ : map all_differ ([] ∷ (doc_id ∷ []) ∷ (doc_id ∷ code ∷ country ∷ url ∷ []) ∷ (doc_id ∷ doc_id ∷ []) ∷ (code ∷ country ∷ code ∷ []) ∷ (code ∷ country ∷ country ∷ []) ∷ []) ≡ true ∷ true ∷ true ∷ false ∷ false ∷ false ∷ []
differ = refl

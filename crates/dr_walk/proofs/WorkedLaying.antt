-- Courses laid out, and what is seen of gates, by computation.
use Rattle.std.specs.Prelude.{◌≡◌, ℕ, zero, suc, [], ◌∷◌, map, true, false, Some, None, refl}
use Rattle.dr_meaning.specs.Schema.{int64_kind, text_kind}
use Rattle.dr_meaning.proofs.WorkedSchemas.{document}
use Rattle.dr_meaning.proofs.WorkedPaths.{doc_id, backward, forward, country, url}
use Rattle.dr_moves.specs.Course.{course}
use Rattle.dr_moves.proofs.WorkedCourse.{gate, fs, F}
use Rattle.dr_walk.specs.Laying.{flat_look, flat_give, flat_visit, flat_null, flat_end, laying, lay, no_level, closed}
use Rattle.dr_walk.specs.Seen.{first_shut, may_come, absent_level, due_levels}

-- ---- the array

-- without selected leaves a record has its beginning and its end
pub nothing_laid : closed None (lay (course document []) (laying [] no_level)).level ≡ flat_look [] ∷ flat_end None ∷ []
nothing_laid = refl

-- two repeated leaves of an optional group: the items of an instance of each, and then the record's, whose gates are looked at first
pub links_laid : (lay (course document (forward ∷ backward ∷ [])) (laying [] no_level)).code ≡
    flat_look [] ∷ flat_give (record { leaf = 1; kind = int64_kind; low = 2; full = 2; gated = false }) ∷ flat_end (Some (record { number = 1; level = 1; leaf = 1; body = 0 }))
    ∷ flat_look [] ∷ flat_give (record { leaf = 0; kind = int64_kind; low = 2; full = 2; gated = false }) ∷ flat_end (Some (record { number = 2; level = 1; leaf = 0; body = 3 })) ∷ []
links_laid = refl

pub links_record : closed None (lay (course document (forward ∷ backward ∷ [])) (laying [] no_level)).level ≡
    flat_look ((gate 0 0 ∷ []) ∷ (gate 0 0 ∷ []) ∷ [])
    ∷ flat_visit (record { number = 1; leaf = 1; low = 1; gated = true; nulls = 1; body = 0 }) ∷ flat_null 1
    ∷ flat_visit (record { number = 2; leaf = 0; low = 1; gated = true; nulls = 1; body = 3 }) ∷ flat_null 0
    ∷ flat_end None ∷ []
links_record = refl

-- a repeated group in a repeated group: the inner one stands first, and the outer one's NULLs are of both
pub names_laid : (lay (course document (doc_id ∷ country ∷ url ∷ [])) (laying [] no_level)).code ≡
    flat_look [] ∷ flat_give (record { leaf = 1; kind = text_kind; low = 2; full = 3; gated = false }) ∷ flat_end (Some (record { number = 4; level = 2; leaf = 1; body = 0 }))
    ∷ flat_look [] ∷ flat_give (record { leaf = 2; kind = text_kind; low = 1; full = 2; gated = false })
    ∷ flat_visit (record { number = 4; leaf = 1; low = 1; gated = false; nulls = 1; body = 0 }) ∷ flat_null 1 ∷ flat_end (Some (record { number = 3; level = 1; leaf = 1; body = 3 })) ∷ []
names_laid = refl

pub names_record : closed None (lay (course document (doc_id ∷ country ∷ url ∷ [])) (laying [] no_level)).level ≡
    flat_look [] ∷ flat_give (record { leaf = 0; kind = int64_kind; low = 0; full = 0; gated = false })
    ∷ flat_visit (record { number = 3; leaf = 1; low = 0; gated = false; nulls = 2; body = 3 }) ∷ flat_null 2 ∷ flat_null 1 ∷ flat_end None ∷ []
names_record = refl

-- the gates of an instance's items, those of the last item first
pub gates_laid : (lay (course fs F) (laying [] no_level)).code ≡
    flat_look ((gate 0 2 ∷ []) ∷ (gate 0 2 ∷ []) ∷ [])
    ∷ flat_give (record { leaf = 0; kind = int64_kind; low = 3; full = 4; gated = true }) ∷ flat_give (record { leaf = 1; kind = int64_kind; low = 3; full = 3; gated = true })
    ∷ flat_end (Some (record { number = 1; level = 1; leaf = 0; body = 0 }))
    ∷ flat_look [] ∷ flat_give (record { leaf = 3; kind = int64_kind; low = 1; full = 1; gated = false }) ∷ flat_end (Some (record { number = 2; level = 1; leaf = 3; body = 4 })) ∷ []
gates_laid = refl

-- ---- gates: levels 3, 1 and 0 come next for the leaves 0, 1 and all others

abbrev next : ℕ → ℕ
next zero = 3
next (suc zero) = 1
next (suc (suc i)) = 0

pub shut : map (first_shut next) ([] ∷ (gate 0 2 ∷ []) ∷ (gate 0 3 ∷ []) ∷ (gate 0 4 ∷ []) ∷ (gate 0 2 ∷ gate 1 1 ∷ []) ∷ (gate 1 1 ∷ gate 0 3 ∷ []) ∷ (gate 2 0 ∷ []) ∷ []) ≡
    None ∷ None ∷ Some 3 ∷ Some 4 ∷ Some 1 ∷ Some 1 ∷ Some 0 ∷ []
shut = refl

-- a leaf of the levels 4 and 5: behind open gates, and behind one of level 3 that is shut
pub comes : (map (may_come 4 5 None) (3 ∷ 4 ∷ 5 ∷ 6 ∷ []) ≡ false ∷ true ∷ true ∷ false ∷ []) × (map (may_come 4 5 (Some 3)) (2 ∷ 3 ∷ 4 ∷ 5 ∷ []) ≡ false ∷ true ∷ false ∷ false ∷ [])
comes = (refl, refl)

-- a repeated field that is absent at level 1: by the next definition level, and behind a gate of level 0 that is shut
pub absent : (map (absent_level 1 None) (0 ∷ 1 ∷ 2 ∷ 3 ∷ []) ≡ Some 1 ∷ Some 1 ∷ None ∷ None ∷ []) × (map (absent_level 1 (Some 0)) (0 ∷ 1 ∷ 2 ∷ []) ≡ Some 0 ∷ Some 0 ∷ Some 0 ∷ [])
absent = (refl, refl)

-- levels are due where the repetition level is that with which the instance began
pub due : (map (due_levels 4 5 None 1) (None ∷ Some (record { repetition = 1; definition = 5 }) ∷ Some (record { repetition = 0; definition = 5 }) ∷ Some (record { repetition = 1; definition = 3 }) ∷ []) ≡ None ∷ Some (record { repetition = 1; definition = 5 }) ∷ None ∷ None ∷ [])
    × (due_levels 4 5 (Some 3) 1 (Some (record { repetition = 1; definition = 3 })) ≡ Some (record { repetition = 1; definition = 3 }))
due = (refl, refl)

-- What wrong bodies answer, and that the definitions say otherwise, by computation. Above each stands the wrong body, which is a file of wrong-bodies/ in
-- the crate of the call whose contract says that its answer is the definition.
use Rattle.std.specs.Prelude.{◌≡◌, ℕ, List, [], ◌∷◌, length, false, Some, None, refl}
use Rattle.std.proofs.Common.{ap, arith}
use Rattle.dr_meaning.specs.Automaton.{transition}
use Rattle.dr_meaning.specs.Column.{Triplet, triplet, column}
use Rattle.dr_meaning.specs.Kept.{kept_along}
use Rattle.dr_meaning.specs.Path.{Step}
use Rattle.dr_meaning.specs.Rows.{rows}
use Rattle.dr_meaning.proofs.WorkedRecords.{record_10, record_20, record_30}
use Rattle.dr_meaning.proofs.WorkedPaths.{doc_id, name, language_level, backward, code, country, url}
use Rattle.dr_partials.specs.Accumulators.{counted, join}
use Rattle.dr_dispatch.specs.Job.{Job, hand}
use Rattle.dr_dispatch.specs.Choice.{choice}

-- the evaluator skips the row of an empty list: a record without names, and a name without languages, have one row, and not none
pub row_of_an_empty_list : (length (rows name record_30) ≡ 1) × (length (rows language_level record_30) ≡ 1) × (length (rows language_level record_20) ≡ 1) × (length (rows language_level record_10) ≡ 4)
row_of_an_empty_list = (refl, refl, refl, refl)

-- a node is kept that has instances and keeps none of them: where no row is true, nothing of the record is kept
pub kept_where_nothing_is_left : (kept_along language_level (λ row. false) record_10 ≡ None) × (kept_along name (λ row. false) record_20 ≡ None)
kept_where_nothing_is_left = (refl, refl)

-- from Country the level 2 leads to Code, the first leaf of that common level, and not to Country, the last one
abbrev order : List (List Step)
order = doc_id ∷ code ∷ country ∷ url ∷ []

pub high_level_to_the_last_leaf : (transition order 2 2 ≡ Some 1) × (transition order 2 2 ≡ Some 2 → ⊥)
high_level_to_the_last_leaf = (refl, λ e. absurd (cc))

-- of an empty list in a present optional group a triplet stands at the group's level, 1, and not at 0
abbrev first_level : List Triplet → ℕ
first_level [] = 0
first_level (t ∷ ts) = t.definition

pub empty_list_in_a_present_group_at_level_0 : (column backward (record_10 ∷ []) ≡ triplet 0 1 None ∷ []) × (column backward (record_10 ∷ []) ≡ triplet 0 0 None ∷ [] → ⊥)
empty_list_in_a_present_group_at_level_0 = (refl, λ e. omega (arith, ap first_level e))

-- counts are merged by adding them, and not by counting the children
pub counts_merged_by_counting : (join (counted 2) (counted 3) ≡ counted 5) × (join (counted 2) (counted 3) ≡ counted 3 → ⊥)
counts_merged_by_counting = (refl, λ e. absurd (cc))

-- a worker returns at once: then it has seen no event, and a tablet is still to be handed out
abbrev one_tablet : Job
one_tablet = record { leaves = (0 ∷ []) ∷ []; lag = 1 }

pub worker_returns_at_once : (choice one_tablet [] ≡ Some (hand 0 0)) × (choice one_tablet [] ≡ None → ⊥)
worker_returns_at_once = (refl, λ e. absurd (cc))

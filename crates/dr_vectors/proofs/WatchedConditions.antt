-- The numbers of chains, and what is told of a record as it is entered, by computation.
use Rattle.std.specs.Prelude.{◌≡◌, ℕ, List, [], ◌∷◌, Bool, true, false, None, refl}
use Rattle.dr_meaning.specs.Walk.{enter}
use Rattle.dr_moves.specs.Context.{Context}
use Rattle.dr_moves.specs.Condition.{Watch}
use Rattle.dr_kept_laws.specs.ChainNumbers.{chain_numbers}
use Rattle.dr_kept_laws.specs.Parts.{Part, all_answers, part_at, nothing_pruned, pruning_tells}
use Rattle.dr_kept_laws.specs.Telling.{undecided, told}
use Rattle.dr_meaning.proofs.WorkedSchemas.{document}
use Rattle.dr_meaning.proofs.WorkedPaths.{doc_id, forward, country, url}

-- Links.Backward is the first repeated field, Name the third and Language the fourth
pub numbers_on_paths : (chain_numbers document country ≡ 3 ∷ 4 ∷ []) × (chain_numbers document url ≡ 3 ∷ []) × (chain_numbers document forward ≡ 2 ∷ []) × (chain_numbers document doc_id ≡ [])
numbers_on_paths = (refl, refl, refl, refl)

-- a test that is always true, and parts with these answers whose last leaves are 3 and 5
abbrev always : Context → Bool
always c = true

abbrev part : ℕ → Bool → Part
part last answer = record { last = last; test = always; answer = answer }

abbrev parts : Bool → Bool → List Part
parts first second = part 3 first ∷ part 5 second ∷ []

-- all are true where each is
pub all_of_two : (all_answers (parts true true) ≡ true) × (all_answers (parts true false) ≡ false) × (all_answers (parts false true) ≡ false)
all_of_two = (refl, refl, refl)

-- a part is tested at its last leaf, and nowhere else
pub tested_at_last_leaf : (part_at 5 (λ i. None) (part 5 false) ≡ part 5 true) × (part_at 3 (λ i. None) (part 5 false) ≡ part 5 false)
tested_at_last_leaf = (refl, refl)

-- of a record that is entered nothing is decided, by one condition or by its parts
abbrev watch : Watch
watch = record { chain = 1 ∷ []; last = 0; test = always }

pub undecided_as_it_is_entered : (told watch [] (enter 0) ≡ undecided ∷ []) × (pruning_tells watch (nothing_pruned (parts false false)) (enter 0) ≡ undecided ∷ [])
undecided_as_it_is_entered = (refl, refl)

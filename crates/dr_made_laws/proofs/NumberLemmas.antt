-- Levels have the numbers by which moves name the repeated fields.
use Rattle.std.proofs.Common.{◌≡◌, ℕ, zero, suc, ◌+◌, ◌-◌, ◌<◌, ◌≤◌, List, [], ◌∷◌, ◌++◌, length, Bool, true, false, Option, Some, refl, sym, ap, ap₂, ◌∙◌, append_assoc, arith}
use Rattle.std.specs.Prelude.{map, nat_lt, option_map}
use Rattle.std.specs.List.{slice_get}
use Rattle.std.proofs.lemmas.Bool.{eq-eqb, ne_eqb, ltb-true, ltb-false}
use Rattle.std.proofs.lemmas.List.{length-append, map-append}
use Rattle.dr_meaning.specs.Schema.{Repetition, required, optional, repeated, Fields, no_fields, field, Shape, leaf, group}
use Rattle.dr_meaning.specs.Path.{Step}
use Rattle.dr_meaning.specs.Query.{Levels, no_levels, deeper, append_levels, as_level, levels_in, shape_levels, levels_of}
use Rattle.dr_meaning.specs.Walk.{own_path, repeated_paths_from, shape_repeated_paths}
use Rattle.dr_made_laws.specs.LevelNumbers.{LevelsAreNumbered}
use Rattle.dr_made_laws.specs.ObjectFlow.{Level, level_count, level_from}
use Rattle.dr_made_laws.proofs.LevelLemmas.{chosen}

-- the paths of levels, in the order of their numbers
abbrev paths_of : Levels → List (List Step)
paths_of no_levels = []
paths_of (deeper n p below beside) = p ∷ (paths_of below ++ paths_of beside)

count_paths : (ls : Levels) → length (paths_of ls) ≡ level_count ls
count_paths no_levels = refl
count_paths (deeper n p below beside) = ap (λ (k : ℕ). suc k) (length-append (paths_of below) (paths_of beside) ∙ ap₂ (λ (a b : ℕ). a + b) (count_paths below) (count_paths beside))

get_first : {X : Type 0} (xs ys : List X) (i : ℕ) → i < length xs → slice_get (xs ++ ys) i ≡ slice_get xs i
get_first [] ys i h = absurd (omega (arith, h))
get_first (x ∷ xs) ys zero h = refl
get_first (x ∷ xs) ys (suc i) h = get_first xs ys i (omega (arith, h))

get_second : {X : Type 0} (xs ys : List X) (i : ℕ) → slice_get (xs ++ ys) (length xs + i) ≡ slice_get ys i
get_second [] ys i = let z : 0 + i ≡ i = omega arith in ap (slice_get ys) z
get_second (x ∷ xs) ys i = let z : suc (length xs) + i ≡ suc (length xs + i) = omega arith in ap (slice_get (x ∷ (xs ++ ys))) z ∙ get_second xs ys i

abbrev path_of : Option Level → Option (List Step)
path_of l = option_map (λ (l : Level). l.path) l

numbered : (ls : Levels) (j i : ℕ) → path_of (level_from j ls (j + i)) ≡ slice_get (paths_of ls) i
numbered no_levels j i = refl
numbered (deeper n p below beside) j zero =
    let z : j + 0 ≡ j = omega arith in
    ap (λ (b : Bool). path_of (chosen b (nat_lt (j + 0) (suc j + level_count below)) (Some (record { path = p; below = below })) (level_from (suc j) below (j + 0)) (level_from (suc j + level_count below) beside (j + 0)))) (eq-eqb (j + 0) j z)
numbered (deeper n p below beside) j (suc i) =
    ap (λ (b : Bool). path_of (chosen b (nat_lt (j + suc i) (suc j + level_count below)) (Some (record { path = p; below = below })) (level_from (suc j) below (j + suc i)) (level_from (suc j + level_count below) beside (j + suc i))))
    (ne_eqb (j + suc i) j (omega arith))
    ∙ by_place (nat_lt (j + suc i) (suc j + level_count below)) refl (numbered below (suc j) i) (numbered beside (suc j + level_count below) (i - level_count below))
  where
    by_place : (d : Bool) → nat_lt (j + suc i) (suc j + level_count below) ≡ d → path_of (level_from (suc j) below (suc j + i)) ≡ slice_get (paths_of below) i
        → path_of (level_from (suc j + level_count below) beside (suc j + level_count below + (i - level_count below))) ≡ slice_get (paths_of beside) (i - level_count below)
        → path_of (chosen false d (Some (record { path = p; below = below })) (level_from (suc j) below (j + suc i)) (level_from (suc j + level_count below) beside (j + suc i))) ≡ slice_get (paths_of below ++ paths_of beside) i
    by_place true e f g =
        let z : j + suc i ≡ suc j + i = omega arith in
        ap (λ (k : ℕ). path_of (level_from (suc j) below k)) z ∙ f ∙ sym (get_first (paths_of below) (paths_of beside) i (omega (arith, ltb-true _ _ e, count_paths below)))
    by_place false e f g =
        let h : level_count below ≤ i = omega (arith, ltb-false _ _ e) in
        let z : j + suc i ≡ suc j + level_count below + (i - level_count below) = omega (arith, h) in
        let y : i ≡ length (paths_of below) + (i - level_count below) = omega (arith, h, count_paths below) in
        ap (λ (k : ℕ). path_of (level_from (suc j + level_count below) beside k)) z ∙ g
        ∙ sym (ap (slice_get (paths_of below ++ paths_of beside)) y ∙ get_second (paths_of below) (paths_of beside) (i - level_count below))

-- ---- they are the paths of the repeated fields

paths_append : (A B : Levels) → paths_of (append_levels A B) ≡ paths_of A ++ paths_of B
paths_append no_levels B = refl
paths_append (deeper n p below A) B = ap (λ (ps : List (List Step)). p ∷ ps) (ap (λ (ps : List (List Step)). paths_of below ++ ps) (paths_append A B) ∙ sym (append_assoc (paths_of below) (paths_of A) (paths_of B)))

behind : (p : List Step) (t : Step) (qs : List (List Step)) → map (λ (q : List Step). (p ++ t ∷ []) ++ q) qs ≡ map (λ (q : List Step). p ++ q) (map (λ (q : List Step). t ∷ q) qs)
behind p t [] = refl
behind p t (q ∷ qs) = ap₂ (λ (x : List Step) (xs : List (List Step)). x ∷ xs) (append_assoc p (t ∷ []) q) (behind p t qs)

field_paths : (r : Repetition) (n : List (List ℕ)) (p : List Step) (t : Step) (own passed : Levels) (qs : List (List Step)) → paths_of own ≡ map (λ (q : List Step). (p ++ t ∷ []) ++ q) qs → paths_of passed ≡ map (λ (q : List Step). (p ++ t ∷ []) ++ q) qs
    → paths_of (as_level r n (p ++ t ∷ []) own passed) ≡ map (λ (q : List Step). p ++ q) (own_path t r qs)
field_paths required n p t own passed qs e f = f ∙ behind p t qs
field_paths optional n p t own passed qs e f = f ∙ behind p t qs
field_paths repeated n p t own passed qs e f = ap (λ (ps : List (List Step)). (p ++ t ∷ []) ∷ ps) (sym (no_more (paths_of own)) ∙ e ∙ behind p t qs)
  where
    no_more : (ps : List (List Step)) → ps ≡ ps ++ []
    no_more [] = refl
    no_more (q ∷ ps) = ap (λ (xs : List (List Step)). q ∷ xs) (no_more ps)

mutual
  level_paths : (fs : Fields) (i : ℕ) (ns : List (List ℕ)) (p : List Step) → paths_of (levels_in fs i ns p) ≡ map (λ (q : List Step). p ++ q) (repeated_paths_from fs i)
  level_paths no_fields i ns p = refl
  level_paths (field m r s fs) i ns p =
      let t : Step = record { place = i; repetition = r } in
      let q : List Step = p ++ record { place = i; repetition = r } ∷ [] in
      paths_append (as_level r (ns ++ m ∷ []) q (shape_levels s [] q) (shape_levels s (ns ++ m ∷ []) q)) (levels_in fs (suc i) ns p)
      ∙ ap₂ (λ (a b : List (List Step)). a ++ b) (field_paths r (ns ++ m ∷ []) p t (shape_levels s [] q) (shape_levels s (ns ++ m ∷ []) q) (shape_repeated_paths s) (shape_paths s [] q) (shape_paths s (ns ++ m ∷ []) q)) (level_paths fs (suc i) ns p)
      ∙ sym (map-append (λ (q : List Step). p ++ q) (own_path t r (shape_repeated_paths s)) (repeated_paths_from fs (suc i)))

  shape_paths : (s : Shape) (ns : List (List ℕ)) (p : List Step) → paths_of (shape_levels s ns p) ≡ map (λ (q : List Step). p ++ q) (shape_repeated_paths s)
  shape_paths (leaf k) ns p = refl
  shape_paths (group fs) ns p = level_paths fs 0 ns p

from_root : (qs : List (List Step)) → map (λ (q : List Step). [] ++ q) qs ≡ qs
from_root [] = refl
from_root (q ∷ qs) = ap (λ (xs : List (List Step)). q ∷ xs) (from_root qs)

pub levels_are_numbered : LevelsAreNumbered
levels_are_numbered fs k =
    let z : suc k ≡ 1 + k = omega arith in
    ap (λ (n : ℕ). path_of (level_from 1 (levels_of fs) n)) z ∙ numbered (levels_of fs) 1 k
    ∙ ap (λ (ps : List (List Step)). slice_get ps k) (level_paths fs 0 [] [] ∙ from_root (repeated_paths_from fs 0))

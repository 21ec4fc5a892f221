-- The cells of rows of groups.
use Rattle.std.specs.Prelude.{◌≡◌, ◌<◌, ◌≤◌, ℕ, zero, suc, ◌+◌, List, [], ◌∷◌, ◌++◌, map, length, get_or, drop, Option, None, Result, Ok, Err, OnOk}
use Rattle.std.proofs.Common.{refl, sym, ap, ◌∙◌, arith}
use Rattle.std.proofs.lemmas.List.{drop-drop}
use Rattle.dr_memory.specs.declared.NoMemory.{NoMemory}
use Rattle.dr_meaning.specs.Record as record_tree
use Rattle.dr_meaning.specs.Query.{nth_value}
use Rattle.dr_nested.specs.declared.record.Value.{Value}
use Rattle.dr_levels.specs.Columns.{Adds}
use Rattle.dr_partials.specs.Accumulators.{result_of}
use Rattle.dr_cells.specs.Results.{ResultCell, value_cell}
use Rattle.dr_group.specs.Views.{accumulator_view, cell_view}
use Rattle.dr_group.specs.Finishing.{first_result}
use Rattle.dr_group.specs.declared.accumulator.Accumulator.{Accumulator}

nth_there : (ks : List (Option Value)) (n : ℕ) (k : Option Value) → n < length ks → k ≡ get_or ks n k → cell_view k ≡ nth_value (map cell_view ks) n
nth_there [] n k h e = absurd (omega (arith, h))
nth_there (j ∷ ks) zero k h e = ap cell_view e
nth_there (j ∷ ks) (suc n) k h e = nth_there ks n k (omega (arith, h)) e

nth_past : (ks : List (Option Value)) (n : ℕ) → length ks ≤ n → None ≡ nth_value (map cell_view ks) n
nth_past [] n h = refl
nth_past (j ∷ ks) zero h = absurd (omega (arith, h))
nth_past (j ∷ ks) (suc n) h = nth_past ks n (omega (arith, h))

result_there : (xs : List Accumulator) (n : ℕ) (x : Accumulator) → n < length xs → x ≡ get_or xs n x → result_of (accumulator_view x) ≡ first_result (drop n (map accumulator_view xs))
result_there [] n x h e = absurd (omega (arith, h))
result_there (y ∷ xs) zero x h e = ap (λ (z : Accumulator). result_of (accumulator_view z)) e
result_there (y ∷ xs) (suc n) x h e = result_there xs n x (omega (arith, h)) e

-- one cell joined
one_cell : (r : Result (Unit {0}) NoMemory) (old new : List ResultCell) (v w : Option record_tree.Value) → v ≡ w → OnOk r (new ≡ old ++ value_cell v ∷ []) → OnOk r (new ≡ old ++ value_cell w ∷ [])
one_cell (Ok done) old new v w e h = h ∙ ap (λ x. old ++ value_cell x ∷ []) e
one_cell (Err x) old new v w e h = tt

added : (r : Result (Unit {0}) NoMemory) (old new more : List ResultCell) → Adds old new more r → OnOk r (new ≡ old ++ more)
added (Ok done) old new more h = h
added (Err x) old new more h = tt

pub key_there : (r : Result (Unit {0}) NoMemory) (old new : List ResultCell) (ks : List (Option Value)) (n : ℕ) (k : Option Value) → n < length ks → k ≡ get_or ks n k → OnOk r (new ≡ old ++ value_cell (cell_view k) ∷ [])
    → OnOk r (new ≡ old ++ value_cell (nth_value (map cell_view ks) n) ∷ [])
key_there r old new ks n k h e s = one_cell r old new (cell_view k) (nth_value (map cell_view ks) n) (nth_there ks n k h e) s

pub no_key : (r : Result (Unit {0}) NoMemory) (old new : List ResultCell) (ks : List (Option Value)) (n : ℕ) → length ks ≤ n → Adds old new (value_cell None ∷ []) r → OnOk r (new ≡ old ++ value_cell (nth_value (map cell_view ks) n) ∷ [])
no_key r old new ks n h s = one_cell r old new None (nth_value (map cell_view ks) n) (nth_past ks n h) (added r old new (value_cell None ∷ []) s)

pub gathered_there : (r : Result (Unit {0}) NoMemory) (old new : List ResultCell) (xs : List Accumulator) (n : ℕ) (x : Accumulator) → n < length xs → x ≡ get_or xs n x → OnOk r (new ≡ old ++ value_cell (result_of (accumulator_view x)) ∷ [])
    → OnOk r (new ≡ old ++ value_cell (first_result (drop n (map accumulator_view xs))) ∷ [])
gathered_there r old new xs n x h e s = one_cell r old new (result_of (accumulator_view x)) (first_result (drop n (map accumulator_view xs))) (result_there xs n x h e) s

pub one_further : (xs : List Accumulator) (n : ℕ) → drop (n + 1) (map accumulator_view xs) ≡ drop 1 (drop n (map accumulator_view xs))
one_further xs n = sym (drop-drop 1 n (map accumulator_view xs))

pub at_end : (xs : List Accumulator) (n : ℕ) → length xs ≤ n → drop n (map accumulator_view xs) ≡ drop 1 (drop n (map accumulator_view xs))
at_end [] zero h = refl
at_end [] (suc n) h = refl
at_end (x ∷ xs) zero h = absurd (omega (arith, h))
at_end (x ∷ xs) (suc n) h = at_end xs n (omega (arith, h))

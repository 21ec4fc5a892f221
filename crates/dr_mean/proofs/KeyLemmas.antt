-- The key tuple of a row, by its slots.
use Rattle.std.specs.Prelude.{◌≡◌, ◌<◌, ℕ, zero, suc, List, [], ◌∷◌, length, map, true, nat_lt, Option, None, option_map}
use Rattle.std.specs.List.{slice_get, slice_index_or}
use Rattle.std.proofs.Common.{refl, ap, ap₂, ◌∙◌, arith}
use Rattle.std.proofs.lemmas.Bool.{and_parts}
use Rattle.std.proofs.lemmas.Bool.Decides.{nat_tests}
use Rattle.dr_meaning.specs.Path.{Step, Leaf}
use Rattle.dr_meaning.specs.Record.{Value, Node}
use Rattle.dr_meaning.specs.Rows.{value_at}
use Rattle.dr_meaning.specs.Query.{key_tuple}
use Rattle.dr_levels.specs.Views.{lent_value}
use Rattle.dr_levels.specs.declared.triplet.ValueRef.{ValueRef}
use Rattle.dr_plan.specs.Views.{path_of}
use Rattle.dr_scalar.specs.Slots.{AreValues, slot_value}
use Rattle.dr_mean.specs.Keys.{are_leaves}

slot_of : (slots : List (Option ValueRef)) (i : ℕ) → slot_value slots i ≡ slice_index_or (map (option_map lent_value) slots) i None
slot_of [] i = refl
slot_of (s ∷ ss) zero = refl
slot_of (s ∷ ss) (suc i) = slot_of ss i

is_less : (i n : ℕ) → nat_lt i n ≡ true → i < n
is_less i n h = grind (arith, nat_tests)

leaf_at : (f : List Step → Option Value) (ls : List Leaf) (i : ℕ) → i < length ls → slice_index_or (map (λ (l : Leaf). f l.path) ls) i None ≡ f (path_of (slice_get ls i))
leaf_at f [] i h = absurd (omega arith)
leaf_at f (l ∷ ls) zero h = refl
leaf_at f (l ∷ ls) (suc i) h = leaf_at f ls i (omega arith)

pub keys_mean : (ls : List Leaf) (slots : List (Option ValueRef)) (r : Node) (keys : List ℕ) → AreValues ls slots r → are_leaves ls keys ≡ true
    → map (slot_value slots) keys ≡ key_tuple (map (λ (k : ℕ). path_of (slice_get ls k)) keys) r
keys_mean ls slots r [] a h = refl
keys_mean ls slots r (k ∷ ks) a h =
    let b : (nat_lt k (length ls) ≡ true) × (are_leaves ls ks ≡ true) = and_parts _ _ h in
    ap₂ (λ (v : Option Value) (vs : List (Option Value)). v ∷ vs)
    (slot_of slots k ∙ ap (λ (vs : List (Option Value)). slice_index_or vs k None) a.values ∙ leaf_at (λ p. value_at p r) ls k (is_less k (length ls) b.0))
    (keys_mean ls slots r ks a b.1)

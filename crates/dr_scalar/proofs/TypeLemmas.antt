-- In a node with the schema's shapes the values of a query's leaves are of their types.
use Rattle.std.proofs.Common.{◌≡◌, ℕ, suc, List, [], ◌∷◌, map, Bool, true, false, cond, ◌&&◌, Option, Some, None, refl, ap₂}
use Rattle.std.specs.Prelude.{filter}
use Rattle.std.specs.List.{list_all, list_any, slice_get, filter_map, cons_option}
use Rattle.dr_meaning.specs.Path.{Leaf, leaves, same_path}
use Rattle.dr_meaning.specs.Rows.{value_at}
use Rattle.dr_meaning.specs.QueryLeaves.{used_paths, query_leaves}
use Rattle.dr_meaning.specs.Automaton.{reading_order}
use Rattle.dr_meaning.specs.BoundExpression.{kind_type}
use Rattle.dr_meaning.specs.BindingLaws.{is_of_type}
use Rattle.dr_meaning.proofs.LeafKinds.{kind_of_leaf}
use Rattle.dr_meaning.proofs.HasShapesLemmas.{leaf_typed}
use Rattle.dr_scalar.specs.SlotLaws.{RowsGiveValues}
use Rattle.dr_scalar.proofs.LeafLemmas.{first_holds, second_holds, holds_of_leaf}

both : (a b : Bool) → a ≡ true → b ≡ true → (a && b) ≡ true
both a b h g = ap₂ (λ x y. x && y) h g

all_from_each : (test : Leaf → Bool) (ls : List Leaf) → ((i : ℕ) (l : Leaf) → slice_get ls i ≡ Some l → test l ≡ true) → list_all test ls ≡ true
all_from_each test [] h = refl
all_from_each test (l ∷ ls) h = both (test l) (list_all test ls) (h 0 l refl) (all_from_each test ls (λ i m e. h (suc i) m e))

all_filtered : (test f : Leaf → Bool) (ls : List Leaf) → list_all test ls ≡ true → list_all test (filter f ls) ≡ true
all_filtered test f [] h = refl
all_filtered test f (l ∷ ls) h = by (f l) (all_filtered test f ls (second_holds (test l) (list_all test ls) h))
  where
    by : (b : Bool) → list_all test (filter f ls) ≡ true → list_all test (cond b (l ∷ filter f ls) (filter f ls)) ≡ true
    by true g = both (test l) (list_all test (filter f ls)) (first_holds (test l) (list_all test ls) h) g
    by false g = g

all_picked : (test : Leaf → Bool) (ls : List Leaf) (js : List ℕ) → list_all test ls ≡ true → list_all test (filter_map (slice_get ls) js) ≡ true
all_picked test ls [] h = refl
all_picked test ls (j ∷ js) h = by (slice_get ls j) refl (all_picked test ls js h)
  where
    by : (o : Option Leaf) → slice_get ls j ≡ o → list_all test (filter_map (slice_get ls) js) ≡ true → list_all test (cons_option o (filter_map (slice_get ls) js)) ≡ true
    by None e g = g
    by (Some l) e g = both (test l) (list_all test (filter_map (slice_get ls) js)) (holds_of_leaf test ls j l h e) g

pub rows_give_values : RowsGiveValues
unfolding query_leaves
rows_give_values fs q slots row h e = record {
  values = e;
  types =
      let used : Leaf → Bool = λ (l : Leaf). list_any (same_path l.path) (used_paths q) in
      let typed : Leaf → Bool = λ (l : Leaf). is_of_type (kind_type l.kind) (value_at l.path row) in
      let all : list_all typed (leaves fs) ≡ true = all_from_each typed (leaves fs) (λ i l g. leaf_typed fs l.path l.kind row (kind_of_leaf fs i l g) h) in
      all_picked typed (filter used (leaves fs)) (reading_order fs (map (λ (l : Leaf). l.path) (filter used (leaves fs)))) (all_filtered typed used (leaves fs) all);
}

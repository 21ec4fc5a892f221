-- The objects of rows by what the items' readings mean in them: they are those of the items' expressions.
use Rattle.std.proofs.Common.{◌≡◌, ℕ, suc, ◌+◌, ◌<◌, ◌≤◌, List, [], ◌∷◌, Bool, true, false, ◌&&◌, Option, refl, ap, ap₂, subst, ◌∙◌, arith}
use Rattle.std.specs.Prelude.{map, filter, if◌then◌else◌}
use Rattle.std.specs.List.{list_all}
use Rattle.std.proofs.lemmas.Bool.{and_parts}
use Rattle.dr_meaning.specs.Schema.{Fields}
use Rattle.dr_meaning.specs.Path.{Step, same_path}
use Rattle.dr_meaning.specs.Record.{Value, Node}
use Rattle.dr_meaning.specs.Rows.{rows, is_present}
use Rattle.dr_meaning.specs.Expression.{evaluate, expression_chain}
use Rattle.dr_meaning.specs.BindingLaws.{has_shapes}
use Rattle.dr_meaning.proofs.HasShapesLemmas.{rows_have_shapes}
use Rattle.dr_meaning.specs.Query.{RecordTerm, expression, within, Object, no_entries, cell, objects_of, aggregated, present_values, Levels, no_levels, deeper, append_levels}
use Rattle.dr_meaning.specs.Query.{term_chain, term_value, with_cells, leads_to_items, with_list, instances_of, object_lists, record_object}
use Rattle.dr_kept_laws.specs.GroupFlow.{Reading}
use Rattle.dr_kept_laws.specs.ObjectsOfKeptLaws.{term_expression}
use Rattle.dr_made_laws.specs.ObjectFlow.{Made, ReadItem, items_of, objects_for, level_count, lists_made}
use Rattle.dr_made_laws.specs.ObjectFlowLaws.{AreRead}

-- what an item means in a row
abbrev pub meant_value : RecordTerm → Reading (Option Value) → Node → Option Value
meant_value (expression e) r row = r.means row
meant_value (within a e node) r row = aggregated a (present_values (map r.means (rows r.level row)))

abbrev pub meant_cells : List ReadItem → List Step → Node → Object → Object
meant_cells [] p row rest = rest
meant_cells (r ∷ rs) p row rest = if same_path p (term_chain r.item.term)
    then cell r.item.name (meant_value r.item.term r.reading row) (meant_cells rs p row rest)
    else meant_cells rs p row rest

abbrev pub meant_lists : List ReadItem → Levels → Node → Object
meant_lists rs no_levels row = no_entries
meant_lists rs (deeper names p below beside) row = with_list (leads_to_items (items_of rs) p) names
    (objects_of (map (λ r. meant_cells rs p r (meant_lists rs below r)) (instances_of p row))) (meant_lists rs beside row)

-- the object of an instance of a level, whose row this is
abbrev pub meant_object : List ReadItem → List Step → Levels → Node → Object
meant_object rs p below row = meant_cells rs p row (meant_lists rs below row)

-- ---- they are those of the expressions

map_where : {X Y : Type 0} (P : X → Bool) (f g : X → Y) → ((x : X) → P x ≡ true → f x ≡ g x) → (xs : List X) → list_all P xs ≡ true → map f xs ≡ map g xs
map_where P f g h [] a = refl
map_where {Y = Y} P f g h (x ∷ xs) a =
    let b : (P x ≡ true) × (list_all P xs ≡ true) = and_parts (P x) (list_all P xs) a in
    ap₂ (λ (y : Y) (ys : List Y). y ∷ ys) (h x b.0) (map_where P f g h xs b.1)

filter_where : {X : Type 0} (P f : X → Bool) (xs : List X) → list_all P xs ≡ true → list_all P (filter f xs) ≡ true
filter_where P f [] h = refl
filter_where P f (x ∷ xs) h = let a : (P x ≡ true) × (list_all P xs ≡ true) = and_parts (P x) (list_all P xs) h in by_test (f x) a.0 (filter_where P f xs a.1)
  where
    by_test : (b : Bool) → P x ≡ true → list_all P (filter f xs) ≡ true → list_all P (if b then x ∷ filter f xs else filter f xs) ≡ true
    by_test true e g = ap₂ (λ (b c : Bool). b && c) e g
    by_test false e g = g

module _ (fs : Fields) where
  value_meant : (t : RecordTerm) (r : Reading (Option Value)) → r.level ≡ expression_chain (term_expression t) → ((row : Node) → has_shapes fs row ≡ true → r.means row ≡ evaluate (term_expression t) row)
      → (row : Node) → has_shapes fs row ≡ true → meant_value t r row ≡ term_value t row
  value_meant (expression e) r l m row h = m row h
  value_meant (within a e node) r l m row h =
      ap (λ (vs : List (Option Value)). aggregated a (present_values vs))
      (map_where (has_shapes fs) r.means (evaluate e) m (rows r.level row) (rows_have_shapes fs r.level row h)
      ∙ ap (λ (L : List Step). map (evaluate e) (rows L row)) l)

  cells_meant : (rs : List ReadItem) (F : List (List Step)) → AreRead fs F rs → (p : List Step) (row : Node) → has_shapes fs row ≡ true → (rest : Object) → meant_cells rs p row rest ≡ with_cells (items_of rs) p row rest
  cells_meant [] F a p row h rest = refl
  cells_meant (r ∷ rs) F a p row h rest =
      ap₂ (λ (v : Option Value) (o : Object). if same_path p (term_chain r.item.term) then cell r.item.name v o else o)
      (value_meant r.item.term r.reading a.0.level a.0.means row h) (cells_meant rs F a.1 p row h rest)

  lists_meant : (rs : List ReadItem) (F : List (List Step)) → AreRead fs F rs → (ls : Levels) (row : Node) → has_shapes fs row ≡ true → meant_lists rs ls row ≡ object_lists (items_of rs) ls row
  lists_meant rs F a no_levels row h = refl
  lists_meant rs F a (deeper names p below beside) row h =
      ap₂ (λ (os : List Object) (o : Object). with_list (leads_to_items (items_of rs) p) names (objects_of os) o)
      (map_where (has_shapes fs) (λ r. meant_cells rs p r (meant_lists rs below r)) (λ r. with_cells (items_of rs) p r (object_lists (items_of rs) below r))
      (λ r g. ap (meant_cells rs p r) (lists_meant rs F a below r g) ∙ cells_meant rs F a p r g (object_lists (items_of rs) below r))
      (instances_of p row) (filter_where (has_shapes fs) (is_present p) (rows p row) (rows_have_shapes fs p row h)))
      (lists_meant rs F a beside row h)

  pub object_meant : (rs : List ReadItem) (F : List (List Step)) → AreRead fs F rs → (ls : Levels) (n : Node) → has_shapes fs n ≡ true → meant_object rs [] ls n ≡ record_object (items_of rs) ls n
  object_meant rs F a ls n h = ap (meant_cells rs [] n) (lists_meant rs F a ls n h) ∙ cells_meant rs F a [] n h (object_lists (items_of rs) ls n)

-- ---- what was made has the objects of each level that leads to items, of which the first has the number k

abbrev pub Agree : List ReadItem → ℕ → Levels → List Made → Node → Type 0
Agree rs k no_levels ms row = Unit {0}
Agree rs k (deeper names p below beside) ms row =
    (leads_to_items (items_of rs) p ≡ true → objects_for k ms ≡ map (λ r. meant_object rs p below r) (instances_of p row))
    × Agree rs (suc k + level_count below) beside ms row

-- then its lists are those that are meant
pub agree_lists : (rs : List ReadItem) (k : ℕ) (ls : Levels) (ms : List Made) (row : Node) → Agree rs k ls ms row → lists_made (items_of rs) k ls ms ≡ meant_lists rs ls row
agree_lists rs k no_levels ms row a = refl
agree_lists rs k (deeper names p below beside) ms row a = by_lead (leads_to_items (items_of rs) p) a.0 (agree_lists rs (suc k + level_count below) beside ms row a.1)
  where
    by_lead : (b : Bool) → (b ≡ true → objects_for k ms ≡ map (λ r. meant_object rs p below r) (instances_of p row)) → lists_made (items_of rs) (suc k + level_count below) beside ms ≡ meant_lists rs beside row
        → with_list b names (objects_of (objects_for k ms)) (lists_made (items_of rs) (suc k + level_count below) beside ms)
        ≡ with_list b names (objects_of (map (λ r. meant_object rs p below r) (instances_of p row))) (meant_lists rs beside row)
    by_lead true f e = ap₂ (λ (os : List Object) (o : Object). with_list true names (objects_of os) o) (f refl) e
    by_lead false f e = e

pub agree_append : (rs : List ReadItem) (k : ℕ) (A B : Levels) (ms : List Made) (row : Node) → Agree rs k A ms row → Agree rs (k + level_count A) B ms row → Agree rs k (append_levels A B) ms row
agree_append rs k no_levels B ms row a b = subst (λ (j : ℕ). Agree rs j B ms row) (omega arith) b
agree_append rs k (deeper names p below A) B ms row a b =
    (a.0, agree_append rs (suc k + level_count below) A B ms row a.1 (subst (λ (j : ℕ). Agree rs j B ms row) (omega arith) b))

-- with the same objects of these levels
pub agree_same : (rs : List ReadItem) (k : ℕ) (ls : Levels) (ms ns : List Made) (row : Node) → ((i : ℕ) → k ≤ i → i < k + level_count ls → objects_for i ns ≡ objects_for i ms) → Agree rs k ls ms row → Agree rs k ls ns row
agree_same rs k no_levels ms ns row h a = tt
agree_same rs k (deeper names p below beside) ms ns row h a =
    ((λ e. h k (omega arith) (omega arith) ∙ a.0 e), agree_same rs (suc k + level_count below) beside ms ns row (λ i x y. h i (omega (arith, x)) (omega (arith, y))) a.1)

-- The cells of an object that is made where an instance is left, and what goes on to the instance around.
use Rattle.std.proofs.Common.{◌≡◌, ◌≢◌, ◌<◌, ◌≤◌, ◌+◌, ℕ, zero, suc, List, [], ◌∷◌, ◌++◌, length, Bool, true, false, Option, Some, None, refl, sym, ap, ap₂, ◌∙◌, append-nil, append_assoc, true≢false, arith}
use Rattle.std.specs.Prelude.{◌==◌, ◌||◌, if◌then◌else◌}
use Rattle.std.specs.List.{slice_get}
use Rattle.std.proofs.lemmas.Bool.{eqb-true, eq-eqb, ne_eqb}
use Rattle.dr_meaning.specs.Path.{Step, same_path}
use Rattle.dr_meaning.specs.Record.{Value}
use Rattle.dr_meaning.specs.Query.{RecordItem, term_chain, Object, cell, objects_of, Levels, no_levels, deeper, leads_to_items, with_list}
use Rattle.dr_moves.specs.Context.{Context}
use Rattle.dr_cells.specs.Results.{ResultCell, count_cell, own_values, count_objects, own_counts, all_cells, inner_cells, object_cells, result_cells}
use Rattle.dr_plan.specs.Objects.{places_at}
use Rattle.dr_made_laws.specs.ObjectFlow.{Made, built, taken, ReadItem, items_of, values_for, objects_for, value_made, cells_made, lists_made, Level, object_made, is_own, passed_on, level_count, level_from, left_level, left_items}
use Rattle.dr_made_laws.specs.ObjectFlowLaws.{made_objects}
use Rattle.dr_within.specs.ObjectFraming.{built_in}
use Rattle.dr_within.specs.ObjectLevels.{level_at, with_number, list_numbers, makes_objects}
use Rattle.dr_within.specs.OwnCells.{cells_of_item, item_cells, own_cells, list_counts, list_cells}
use Rattle.dr_within.specs.WithinValues.{is_among}

-- ---- objects

counted : (os : List Object) → count_objects (objects_of os) ≡ length os
counted [] = refl
counted (o ∷ os) = ap suc (counted os)

cells_of : (os : List Object) → all_cells (objects_of os) ≡ result_cells os
cells_of [] = refl
cells_of (o ∷ os) = ap (λ (cs : List ResultCell). object_cells o ++ cs) (cells_of os)

-- ---- the level's own items

module _ (all : List ReadItem) (p : List Step) (c : Context) (inner : List Made) (rest : Object) where
  own_first : (b : Bool) (r : ReadItem) (n : ℕ) (ps : List ℕ) (o : Object) → slice_get all n ≡ Some r → own_values o ≡ own_cells all c inner ps ++ own_values rest
      → own_values (if b then cell r.item.name (value_made r.item.term r.reading n c inner) o else o) ≡ own_cells all c inner (if b then n ∷ ps else ps) ++ own_values rest
  own_first true r n ps o h e =
      ap₂ (λ (x y : List ResultCell). x ++ y) (sym (ap (cells_of_item c inner n) h)) e ∙ sym (append_assoc (item_cells all c inner n) (own_cells all c inner ps) (own_values rest))
  own_first false r n ps o h e = e

  own_from : (n : ℕ) (rs : List ReadItem) → ((k : ℕ) → slice_get all (n + k) ≡ slice_get rs k) → own_values (cells_made n rs p c inner rest) ≡ own_cells all c inner (places_at n (items_of rs) p) ++ own_values rest
  own_from n [] h = refl
  own_from n (r ∷ rs) h =
      let z : n + 0 ≡ n = omega arith in
      own_first (same_path p (term_chain r.item.term)) r n (places_at (suc n) (items_of rs) p) (cells_made (suc n) rs p c inner rest) (ap (slice_get all) (sym z) ∙ h 0)
      (own_from (suc n) rs (λ k. let s : suc n + k ≡ n + suc k = omega arith in ap (slice_get all) s ∙ h (suc k)))

  counts_from : (n : ℕ) (rs : List ReadItem) → own_counts (cells_made n rs p c inner rest) ≡ own_counts rest
  counts_from n [] = refl
  counts_from n (r ∷ rs) = by_test (same_path p (term_chain r.item.term)) (counts_from (suc n) rs)
    where
      by_test : (b : Bool) → own_counts (cells_made (suc n) rs p c inner rest) ≡ own_counts rest → own_counts (if b then cell r.item.name (value_made r.item.term r.reading n c inner) (cells_made (suc n) rs p c inner rest) else cells_made (suc n) rs p c inner rest) ≡ own_counts rest
      by_test true h = h
      by_test false h = h

  inner_from : (n : ℕ) (rs : List ReadItem) → inner_cells (cells_made n rs p c inner rest) ≡ inner_cells rest
  inner_from n [] = refl
  inner_from n (r ∷ rs) = by_test (same_path p (term_chain r.item.term)) (inner_from (suc n) rs)
    where
      by_test : (b : Bool) → inner_cells (cells_made (suc n) rs p c inner rest) ≡ inner_cells rest → inner_cells (if b then cell r.item.name (value_made r.item.term r.reading n c inner) (cells_made (suc n) rs p c inner rest) else cells_made (suc n) rs p c inner rest) ≡ inner_cells rest
      by_test true h = h
      by_test false h = h

-- ---- the lists

module _ (items : List RecordItem) (inner : List Made) where
  list_values : (k : ℕ) (ls : Levels) → own_values (lists_made items k ls inner) ≡ []
  list_values k no_levels = refl
  list_values k (deeper names p below beside) = by_test (leads_to_items items p) (list_values (suc k + level_count below) beside)
    where
      by_test : (b : Bool) → own_values (lists_made items (suc k + level_count below) beside inner) ≡ [] → own_values (with_list b names (objects_of (objects_for k inner)) (lists_made items (suc k + level_count below) beside inner)) ≡ []
      by_test true h = h
      by_test false h = h

  counts_listed : (k : ℕ) (ls : Levels) → own_counts (lists_made items k ls inner) ≡ list_counts inner (list_numbers items k ls)
  counts_listed k no_levels = refl
  counts_listed k (deeper names p below beside) = by_test (leads_to_items items p) (counts_listed (suc k + level_count below) beside)
    where
      m : ℕ
      m = suc k + level_count below

      by_test : (b : Bool) → own_counts (lists_made items m beside inner) ≡ list_counts inner (list_numbers items m beside) → own_counts (with_list b names (objects_of (objects_for k inner)) (lists_made items m beside inner)) ≡ list_counts inner (with_number b k (list_numbers items m beside))
      by_test true h = ap₂ (λ (n : ℕ) (cs : List ResultCell). count_cell n ∷ cs) (counted (objects_for k inner)) h
      by_test false h = h

  cells_listed : (k : ℕ) (ls : Levels) → inner_cells (lists_made items k ls inner) ≡ list_cells inner (list_numbers items k ls)
  cells_listed k no_levels = refl
  cells_listed k (deeper names p below beside) = by_test (leads_to_items items p) (cells_listed (suc k + level_count below) beside)
    where
      m : ℕ
      m = suc k + level_count below

      by_test : (b : Bool) → inner_cells (lists_made items m beside inner) ≡ list_cells inner (list_numbers items m beside) → inner_cells (with_list b names (objects_of (objects_for k inner)) (lists_made items m beside inner)) ≡ list_cells inner (with_number b k (list_numbers items m beside))
      by_test true h = ap₂ (λ (x y : List ResultCell). x ++ y) (cells_of (objects_for k inner)) h
      by_test false h = h

-- ---- the object

pub made_cells : (rs : List ReadItem) (k : ℕ) (m : Level) (c : Context) (inner : List Made)
    → object_cells (object_made rs k m c inner)
    ≡ own_cells rs c inner (places_at 0 (items_of rs) m.path) ++ (list_counts inner (list_numbers (items_of rs) k m.below) ++ list_cells inner (list_numbers (items_of rs) k m.below))
made_cells rs k m c inner =
    let lists : Object = lists_made (items_of rs) k m.below inner in
    let own : own_values (object_made rs k m c inner) ≡ own_cells rs c inner (places_at 0 (items_of rs) m.path) =
    own_from rs m.path c inner lists 0 rs (λ j. let z : 0 + j ≡ j = omega arith in ap (slice_get rs) z)
    ∙ ap (λ (x : List ResultCell). own_cells rs c inner (places_at 0 (items_of rs) m.path) ++ x) (list_values (items_of rs) inner k m.below) ∙ append-nil (own_cells rs c inner (places_at 0 (items_of rs) m.path)) in
    ap₂ (λ (x y : List ResultCell). x ++ y) own
    (ap₂ (λ (x y : List ResultCell). x ++ y) (counts_from rs m.path c inner lists 0 rs ∙ counts_listed (items_of rs) inner k m.below) (inner_from rs m.path c inner lists 0 rs ∙ cells_listed (items_of rs) inner k m.below))

-- ---- what goes on

pub passed_built : (items : List RecordItem) (p : List Step) (ms : List Made) → built_in (passed_on items p ms) ≡ []
passed_built items p [] = refl
passed_built items p (built k o ∷ ms) = passed_built items p ms
passed_built items p (taken j v ∷ ms) = by_test (is_own items p j) (passed_built items p ms)
  where
    by_test : (b : Bool) → built_in (passed_on items p ms) ≡ [] → built_in (if b then passed_on items p ms else taken j v ∷ passed_on items p ms) ≡ []
    by_test true h = h
    by_test false h = h

pub passed_objects : (items : List RecordItem) (p : List Step) (ms : List Made) → made_objects (passed_on items p ms) ≡ []
passed_objects items p [] = refl
passed_objects items p (built k o ∷ ms) = passed_objects items p ms
passed_objects items p (taken j v ∷ ms) = by_test (is_own items p j) (passed_objects items p ms)
  where
    by_test : (b : Bool) → made_objects (passed_on items p ms) ≡ [] → made_objects (if b then passed_on items p ms else taken j v ∷ passed_on items p ms) ≡ []
    by_test true h = h
    by_test false h = h

pub passed_values : (items : List RecordItem) (p : List Step) (j : ℕ) (ms : List Made) → values_for j (passed_on items p ms) ≡ (if is_own items p j then [] else values_for j ms)
passed_values items p j [] = by_test (is_own items p j)
  where
    by_test : (b : Bool) → ◌≡◌ {A = List (Option Value)} [] (if b then [] else [])
    by_test true = refl
    by_test false = refl
passed_values items p j (built k o ∷ ms) = passed_values items p j ms
passed_values items p j (taken i v ∷ ms) = by_tests (is_own items p i) (i == j) refl refl (passed_values items p j ms)
  where
    rest : List (Option Value)
    rest = values_for j ms

    by_tests : (a b : Bool) → is_own items p i ≡ a → (i == j) ≡ b → values_for j (passed_on items p ms) ≡ (if is_own items p j then [] else rest)
        → values_for j (if a then passed_on items p ms else taken i v ∷ passed_on items p ms) ≡ (if is_own items p j then [] else (if b then v ∷ rest else rest))
    by_tests true true e f h =
        let own : is_own items p j ≡ true = ap (is_own items p) (sym (eqb-true i j f)) ∙ e in
        h ∙ ap (λ (b : Bool). if b then [] else rest) own ∙ sym (ap (λ (b : Bool). if b then [] else v ∷ rest) own)
    by_tests true false e f h = h
    by_tests false true e f h =
        let own : is_own items p j ≡ false = ap (is_own items p) (sym (eqb-true i j f)) ∙ e in
        ap (λ (b : Bool). if b then v ∷ values_for j (passed_on items p ms) else values_for j (passed_on items p ms)) f
        ∙ ap (λ (x : List (Option Value)). v ∷ x) (h ∙ ap (λ (b : Bool). if b then [] else rest) own) ∙ sym (ap (λ (b : Bool). if b then [] else v ∷ rest) own)
    by_tests false false e f h = ap (λ (b : Bool). if b then v ∷ values_for j (passed_on items p ms) else values_for j (passed_on items p ms)) f ∙ h

-- an item is among the places of a level's items where it is the level's own
below_none : (items : List RecordItem) (p : List Step) (n k : ℕ) → k < n → is_among (places_at n items p) k ≡ false
below_none [] p n k l = refl
below_none (i ∷ is) p n k l = by_test (same_path p (term_chain i.term)) (below_none is p (suc n) k (omega (arith, l)))
  where
    other : n ≢ k
    other e = never (omega (arith, l, e))
      where
        never : 1 ≤ 0 → ⊥
        never x = omega (arith, x)

    by_test : (b : Bool) → is_among (places_at (suc n) is p) k ≡ false → is_among (if b then n ∷ places_at (suc n) is p else places_at (suc n) is p) k ≡ false
    by_test true h = ap₂ (λ (x y : Bool). x || y) (ne_eqb n k other) h
    by_test false h = h

among_from : (items : List RecordItem) (p : List Step) (n j : ℕ) → is_among (places_at n items p) (n + j) ≡ is_own items p j
among_from [] p n j = refl
among_from (i ∷ is) p n zero =
    let z : n + 0 ≡ n = omega arith in
    ap (is_among (places_at n (i ∷ is) p)) z ∙ by_test (same_path p (term_chain i.term))
  where
    by_test : (b : Bool) → is_among (if b then n ∷ places_at (suc n) is p else places_at (suc n) is p) n ≡ b
    by_test true = ap (λ (x : Bool). x || is_among (places_at (suc n) is p) n) (eq-eqb n n refl)
    by_test false = below_none is p (suc n) n (omega arith)
among_from (i ∷ is) p n (suc j) =
    let s : n + suc j ≡ suc n + j = omega arith in
    by_test (same_path p (term_chain i.term)) (ap (is_among (places_at (suc n) is p)) s ∙ among_from is p (suc n) j)
  where
    other : n ≢ n + suc j
    other e = never (omega (arith, e))
      where
        never : 1 ≤ 0 → ⊥
        never x = omega (arith, x)

    by_test : (b : Bool) → is_among (places_at (suc n) is p) (n + suc j) ≡ is_own is p j → is_among (if b then n ∷ places_at (suc n) is p else places_at (suc n) is p) (n + suc j) ≡ is_own is p j
    by_test true h = ap (λ (x : Bool). x || is_among (places_at (suc n) is p) (n + suc j)) (ne_eqb n (n + suc j) other) ∙ h
    by_test false h = h

pub among_own : (items : List RecordItem) (p : List Step) (j : ℕ) → is_among (places_at 0 items p) j ≡ is_own items p j
among_own items p j = let z : 0 + j ≡ j = omega arith in ap (is_among (places_at 0 items p)) (sym z) ∙ among_from items p 0 j

-- ---- where an instance is left

pub left_record : (rs : List ReadItem) (ls : Levels) (k : ℕ) (c : Context) (inner : List Made) (m : Level) → level_at ls k ≡ Some m → makes_objects (items_of rs) k m.path ≡ true → k ≡ 0
    → left_items rs ls k c inner ≡ built k (object_made rs (suc k) m c inner) ∷ []
left_record rs ls zero c inner m e h z = let same : record { path = []; below = ls } ≡ m = cc in ap (λ (l : Level). built 0 (object_made rs 1 l c inner) ∷ []) same
left_record rs ls (suc k) c inner m e h z = absurd (cc)

pub left_instance : (rs : List ReadItem) (ls : Levels) (k : ℕ) (c : Context) (inner : List Made) (m : Level) → level_at ls k ≡ Some m → makes_objects (items_of rs) k m.path ≡ true → k ≢ 0
    → left_items rs ls k c inner ≡ built k (object_made rs (suc k) m c inner) ∷ passed_on (items_of rs) m.path inner
left_instance rs ls zero c inner m e h z = absurd (z refl)
left_instance rs ls (suc k) c inner m e h z =
    ap (left_level rs (suc k) c inner) e ∙ ap (λ (b : Bool). if b then built (suc k) (object_made rs (suc (suc k)) m c inner) ∷ passed_on (items_of rs) m.path inner else inner) h

pub left_as_it_is : (rs : List ReadItem) (ls : Levels) (k : ℕ) (c : Context) (inner : List Made) → ((m : Level) → level_at ls k ≡ Some m → makes_objects (items_of rs) k m.path ≡ false) → left_items rs ls k c inner ≡ inner
left_as_it_is rs ls zero c inner h = absurd (true≢false (h (record { path = []; below = ls }) refl))
left_as_it_is rs ls (suc k) c inner h = by_level (level_from 1 ls (suc k)) refl
  where
    by_level : (o : Option Level) → level_from 1 ls (suc k) ≡ o → left_level rs (suc k) c inner o ≡ inner
    by_level None e = refl
    by_level (Some m) e = ap (λ (b : Bool). if b then built (suc k) (object_made rs (suc (suc k)) m c inner) ∷ passed_on (items_of rs) m.path inner else inner) (h m e)

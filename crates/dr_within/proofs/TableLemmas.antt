-- The table that the tree of a record query gives is that of the query's levels.
use Rattle.std.proofs.Common.{◌≡◌, ◌<◌, ◌≤◌, ℕ, zero, suc, ◌+◌, List, [], ◌∷◌, ◌++◌, Bool, true, false, Option, None, Some, refl, sym, ap, ap₂, subst, ◌∙◌, arith, true≢false}
use Rattle.std.specs.Prelude.{◌==◌, ◌||◌, nat_lt, if◌then◌else◌, option_map}
use Rattle.std.proofs.lemmas.Bool.{eq-eqb, eqb-true, ne_eqb, ltb-true, ltb-false}
use Rattle.dr_meaning.specs.Schema.{Fields}
use Rattle.dr_meaning.specs.Path.{Step, begins_with}
use Rattle.dr_meaning.specs.Query.{RecordItem, Levels, no_levels, deeper, levels_of, term_chain, leads_to_items}
use Rattle.std.specs.List.{join_with_byte}
use Rattle.dr_made_laws.specs.ObjectFlow.{Level as MeantLevel, level_count, level_from}
use Rattle.dr_made_laws.proofs.LevelLemmas.{chosen, AllBelow, numbered_deeper}
use Rattle.dr_made_laws.proofs.PathLemmas.{longer_apart}
use Rattle.dr_plan.specs.Objects.{ObjectTree, object_tree, places_at, with_list_tree, list_trees, object_tree_of}
use Rattle.dr_within.specs.ObjectLevels.{IsLevelAt, list_numbers, with_number}
use Rattle.dr_within.specs.LevelTable.{Row, Rows, no_rows, with_row, level_number, tree_numbers, tree_rows, list_rows, level_in, level_row, rows_in, AreLevels}
use Rattle.dr_within.specs.declared.levels.Level.{Level}
use Rattle.dr_within.specs.declared.levels.Levels.{Levels as Table}
use Rattle.dr_within.proofs.LevelNumbering.{HaveNumbers, AreInside, levels_have_numbers, levels_are_inside}

-- ---- numbers of no level

not_before : (a b : ℕ) → b ≤ a → nat_lt a b ≡ false
not_before a b h = by_test (nat_lt a b) refl
  where
    by_test : (d : Bool) → nat_lt a b ≡ d → d ≡ false
    by_test false e = refl
    by_test true e = absurd (omega (arith, h, ltb-true a b e))

chosen_none : (b d : Bool) (x y z : Option MeantLevel) → b ≡ false → y ≡ None → z ≡ None → chosen b d x y z ≡ None
chosen_none true d x y z e f g = absurd (true≢false e)
chosen_none false true x y z e f g = f
chosen_none false false x y z e f g = g

none_before : (ls : Levels) (k j : ℕ) → j < k → level_from k ls j ≡ None
none_before no_levels k j h = refl
none_before (deeper n p below beside) k j h =
    chosen_none (j == k) (nat_lt j (suc k + level_count below)) (Some (record { path = p; below = below })) (level_from (suc k) below j) (level_from (suc k + level_count below) beside j)
    (ne_eqb j k (omega (arith, h))) (none_before below (suc k) j (omega (arith, h))) (none_before beside (suc k + level_count below) j (omega (arith, h)))

none_past : (ls : Levels) (k j : ℕ) → k + level_count ls ≤ j → level_from k ls j ≡ None
none_past no_levels k j h = refl
none_past (deeper n p below beside) k j h =
    chosen_none (j == k) (nat_lt j (suc k + level_count below)) (Some (record { path = p; below = below })) (level_from (suc k) below j) (level_from (suc k + level_count below) beside j)
    (ne_eqb j k (omega (arith, h))) (none_past below (suc k) j (omega (arith, h))) (none_past beside (suc k + level_count below) j (omega (arith, h)))

-- ---- levels below one that leads to no items lead to none

neither : (a b : Bool) → (a || b) ≡ false → (a ≡ false) × (b ≡ false)
neither true b e = absurd (true≢false e)
neither false b e = (refl, e)

leads_further : (items : List RecordItem) (p q : List Step) → leads_to_items items p ≡ false → leads_to_items items (p ++ q) ≡ false
leads_further [] p q e = refl
leads_further (i ∷ items) p q e =
    let d : (begins_with p (term_chain i.term) ≡ false) × (leads_to_items items p ≡ false) = neither _ _ e in
    ap₂ (λ (a b : Bool). a || b) (longer_apart p q (term_chain i.term) d.0) (leads_further items p q d.1)

-- ---- the rows

-- the row of a level of this number
abbrev row_of : List RecordItem → ℕ → MeantLevel → Row
row_of items j m = record { places = places_at 0 items m.path; lists = list_numbers items (suc j) m.below }

-- where there is a level that leads to items, its row; else what is there
abbrev expected : List RecordItem → Option MeantLevel → ℕ → Option Row → Option Row
expected items None j o = o
expected items (Some m) j o = if leads_to_items items m.path then Some (row_of items j m) else o

leading : (items : List RecordItem) (m : MeantLevel) (j : ℕ) (o : Option Row) → leads_to_items items m.path ≡ true → expected items (Some m) j o ≡ Some (row_of items j m)
leading items m j o e = ap (λ (b : Bool). if b then Some (row_of items j m) else o) e

not_leading : (items : List RecordItem) (m : Option MeantLevel) (j : ℕ) (o : Option Row) → ((l : MeantLevel) → m ≡ Some l → leads_to_items items l.path ≡ false) → expected items m j o ≡ o
not_leading items None j o h = refl
not_leading items (Some m) j o h = ap (λ (b : Bool). if b then Some (row_of items j m) else o) (h m refl)

below_dead : (items : List RecordItem) (p : List Step) (below : Levels) → AllBelow p below → leads_to_items items p ≡ false → (k j : ℕ) (l : MeantLevel) → level_from k below j ≡ Some l → leads_to_items items l.path ≡ false
below_dead items p below h e k j l f =
    let x = numbered_deeper p below h k j l f in
    ap (leads_to_items items) x.2 ∙ leads_further items p (x.0 ∷ x.1) e

-- the numbers of the lists
numbers_are : (fs : Fields) (items : List RecordItem) (ls : Levels) (k : ℕ) → HaveNumbers (level_number fs) k ls → tree_numbers fs (list_trees items ls) ≡ list_numbers items k ls
numbers_are fs items no_levels k h = refl
numbers_are fs items (deeper n p below beside) k h =
    by_lead (leads_to_items items p) (numbers_are fs items beside (suc k + level_count below) h.2)
  where
    by_lead : (b : Bool) → tree_numbers fs (list_trees items beside) ≡ list_numbers items (suc k + level_count below) beside
        → tree_numbers fs (with_list_tree b (join_with_byte 46 n) p (object_tree (places_at 0 items p) (list_trees items below)) (list_trees items beside))
        ≡ with_number b k (list_numbers items (suc k + level_count below) beside)
    by_lead true e = ap₂ (λ (x : ℕ) (xs : List ℕ). x ∷ xs) h.0 e
    by_lead false e = e

-- of the rows below and beside a level: that of a number
module _ (items : List RecordItem) (k : ℕ) (p : List Step) (below beside : Levels) (j : ℕ) (o : Option Row) where
  abbrev here : Option MeantLevel
  here = Some (record { path = p; below = below })

  abbrev Found : Bool → Bool → Type 0
  Found b d = expected items (level_from (suc k + level_count below) beside j) j (if b then Some (row_of items k (record { path = p; below = below })) else expected items (level_from (suc k) below j) j o)
      ≡ expected items (chosen b d here (level_from (suc k) below j) (level_from (suc k + level_count below) beside j)) j o

  -- the level leads to items
  found_leading : leads_to_items items p ≡ true → (b d : Bool) → (j == k) ≡ b → nat_lt j (suc k + level_count below) ≡ d → Found b d
  found_leading l true d e f =
      let q : j ≡ k = eqb-true j k e in
      let row : Option Row = Some (row_of items k (record { path = p; below = below })) in
      ap (λ (m : Option MeantLevel). expected items m j row) (none_before beside (suc k + level_count below) j (omega (arith, q)))
      ∙ (ap (λ (i : ℕ). Some (row_of items i (record { path = p; below = below }))) (sym q) ∙ sym (leading items (record { path = p; below = below }) j o l))
  found_leading l false true e f =
      ap (λ (m : Option MeantLevel). expected items m j (expected items (level_from (suc k) below j) j o)) (none_before beside (suc k + level_count below) j (ltb-true j _ f))
  found_leading l false false e f =
      ap (λ (m : Option MeantLevel). expected items (level_from (suc k + level_count below) beside j) j (expected items m j o)) (none_past below (suc k) j (ltb-false j _ f))

  -- it leads to none, and so do those below
  found_dead : AllBelow p below → leads_to_items items p ≡ false → (b d : Bool) → (j == k) ≡ b → nat_lt j (suc k + level_count below) ≡ d
      → expected items (level_from (suc k + level_count below) beside j) j o ≡ expected items (chosen b d here (level_from (suc k) below j) (level_from (suc k + level_count below) beside j)) j o
  found_dead a l true d e f =
      let q : j ≡ k = eqb-true j k e in
      ap (λ (m : Option MeantLevel). expected items m j o) (none_before beside (suc k + level_count below) j (omega (arith, q)))
      ∙ sym (ap (λ (b : Bool). if b then Some (row_of items j (record { path = p; below = below })) else o) l)
  found_dead a l false true e f =
      ap (λ (m : Option MeantLevel). expected items m j o) (none_before beside (suc k + level_count below) j (ltb-true j _ f))
      ∙ sym (not_leading items (level_from (suc k) below j) j o (λ m g. below_dead items p below a l (suc k) j m g))
  found_dead a l false false e f = refl

pub same_test : (j k : ℕ) → (j == k) ≡ (k == j)
same_test j k = by_test (k == j) refl
  where
    by_test : (b : Bool) → (k == j) ≡ b → (j == k) ≡ b
    by_test true e = eq-eqb j k (sym (eqb-true k j e))
    by_test false e = ne_eqb j k (λ q. true≢false (sym (eq-eqb k j (sym q)) ∙ e))

rows_are : (fs : Fields) (items : List RecordItem) (ls : Levels) (k : ℕ) → HaveNumbers (level_number fs) k ls → AreInside ls → (t : Rows) (j : ℕ)
    → list_rows fs (list_trees items ls) t j ≡ expected items (level_from k ls j) j (t j)
rows_are fs items no_levels k h a t j = refl
rows_are fs items (deeper n p below beside) k h a t j =
    by_lead (leads_to_items items p) refl (rows_are fs items below (suc k) h.1 a.1 t j) (λ u. rows_are fs items beside (suc k + level_count below) h.2 a.2 u j)
  where
    by_lead : (b : Bool) → leads_to_items items p ≡ b
        → list_rows fs (list_trees items below) t j ≡ expected items (level_from (suc k) below j) j (t j)
        → ((u : Rows) → list_rows fs (list_trees items beside) u j ≡ expected items (level_from (suc k + level_count below) beside j) j (u j))
        → list_rows fs (with_list_tree b (join_with_byte 46 n) p (object_tree (places_at 0 items p) (list_trees items below)) (list_trees items beside)) t j
        ≡ expected items (level_from k (deeper n p below beside) j) j (t j)
    by_lead true l e f =
        let d : Row = record { places = places_at 0 items p; lists = tree_numbers fs (list_trees items below) } in
        f (with_row (level_number fs p) d (list_rows fs (list_trees items below) t))
        ∙ (ap (λ (i : ℕ). expected items (level_from (suc k + level_count below) beside j) j (with_row i d (list_rows fs (list_trees items below) t) j)) h.0
        ∙ (ap (λ (ks : List ℕ). expected items (level_from (suc k + level_count below) beside j) j (if k == j then Some (record { places = places_at 0 items p; lists = ks }) else list_rows fs (list_trees items below) t j)) (numbers_are fs items below (suc k) h.1)
        ∙ (ap₂ (λ (b : Bool) (o : Option Row). expected items (level_from (suc k + level_count below) beside j) j (if b then Some (row_of items k (record { path = p; below = below })) else o)) (sym (same_test j k)) e
        ∙ found_leading items k p below beside j (t j) l (j == k) (nat_lt j (suc k + level_count below)) refl refl)))
    by_lead false l e f = f t ∙ found_dead items k p below beside j (t j) a.0 l (j == k) (nat_lt j (suc k + level_count below)) refl refl

-- ---- the table

-- the record's
root_is : (items : List RecordItem) (ls : Levels) (l : Option Level) → option_map level_row l ≡ Some (record { places = places_at 0 items []; lists = list_numbers items 1 ls }) → IsLevelAt items ls 0 l
root_is items ls None e = let no : ◌≡◌ {A = Option Row} None (Some (record { places = places_at 0 items []; lists = list_numbers items 1 ls })) = e in absurd (cc)
root_is items ls (Some l) e =
    let same : level_row l ≡ record { places = places_at 0 items []; lists = list_numbers items 1 ls } = one (level_row l) _ e in
    (record { path = []; below = ls }, refl, refl, record { places = ap (λ (r : Row). r.places) same; lists = ap (λ (r : Row). r.lists) same })
  where
    one : (a b : Row) → Some a ≡ Some b → a ≡ b
    one a b e = cc

-- those of the others
level_is : (items : List RecordItem) (ls : Levels) (k : ℕ) (m : Option MeantLevel) (l : Option Level) → level_from 1 ls (suc k) ≡ m → option_map level_row l ≡ expected items m (suc k) None → IsLevelAt items ls (suc k) l
level_is items ls k None None f e = λ m g. absurd (none m (sym f ∙ g))
  where
    none : (m : MeantLevel) → None ≡ Some m → ⊥
    none m e = cc
level_is items ls k (Some n) None f e = λ m g.
    let same : n ≡ m = one n m (sym f ∙ g) in
    by_lead m (leads_to_items items m.path) refl (subst (λ (x : MeantLevel). None ≡ expected items (Some x) (suc k) None) same e)
  where
    one : (a b : MeantLevel) → Some a ≡ Some b → a ≡ b
    one a b e = cc

    by_lead : (m : MeantLevel) (b : Bool) → leads_to_items items m.path ≡ b → ◌≡◌ {A = Option Row} None (expected items (Some m) (suc k) None) → b ≡ false
    by_lead m true l e = let no : None ≡ Some (row_of items (suc k) m) = e ∙ leading items m (suc k) None l in absurd (cc)
    by_lead m false l e = refl
level_is items ls k None (Some l) f e = let no : Some (level_row l) ≡ None = e in absurd (cc)
level_is items ls k (Some m) (Some l) f e = by_lead (leads_to_items items m.path) refl
  where
    one : (a b : Row) → Some a ≡ Some b → a ≡ b
    one a b e = cc

    by_lead : (b : Bool) → leads_to_items items m.path ≡ b → IsLevelAt items ls (suc k) (Some l)
    by_lead true g =
        let same : level_row l ≡ row_of items (suc k) m = one (level_row l) _ (e ∙ leading items m (suc k) None g) in
        (m, f, g, record { places = ap (λ (r : Row). r.places) same; lists = ap (λ (r : Row). r.lists) same })
    by_lead false g = let no : Some (level_row l) ≡ None = e ∙ ap (λ (b : Bool). if b then Some (row_of items (suc k) m) else None) g in absurd (cc)

pub table_is : (fs : Fields) (items : List RecordItem) (o : ObjectTree) (t : Table) → o ≡ object_tree_of fs items → rows_in t.rows.items ≡ tree_rows fs 0 o no_rows → AreLevels items (levels_of fs) t
table_is fs items o t e h = at
  where
    all : rows_in t.rows.items ≡ tree_rows fs 0 (object_tree_of fs items) no_rows
    all = h ∙ ap (λ (x : ObjectTree). tree_rows fs 0 x no_rows) e

    at : (k : ℕ) → IsLevelAt items (levels_of fs) k (level_in t.rows.items k)
    at zero =
        root_is items (levels_of fs) (level_in t.rows.items 0)
        (ap (λ (r : Rows). r 0) all ∙ ap (λ (ks : List ℕ). Some (record { places = places_at 0 items []; lists = ks })) (numbers_are fs items (levels_of fs) 1 (levels_have_numbers fs)))
    at (suc k) =
        level_is items (levels_of fs) k (level_from 1 (levels_of fs) (suc k)) (level_in t.rows.items (suc k)) refl
        (ap (λ (r : Rows). r (suc k)) all
        ∙ (ap (λ (b : Bool). if b then Some (record { places = places_at 0 items []; lists = tree_numbers fs (list_trees items (levels_of fs)) }) else list_rows fs (list_trees items (levels_of fs)) no_rows (suc k))
        (ne_eqb 0 (suc k) (omega arith))
        ∙ rows_are fs items (levels_of fs) 1 (levels_have_numbers fs) (levels_are_inside fs) no_rows (suc k)))

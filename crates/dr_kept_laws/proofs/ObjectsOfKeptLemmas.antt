-- The object of what is kept of a record is told by the record.
use Rattle.std.proofs.Common.{◌≡◌, List, [], ◌∷◌, Bool, true, false, ◌&&◌, Option, Some, refl, sym, ap, ap₂, subst, ◌∙◌, true≢false}
use Rattle.std.specs.Prelude.{map, ◌==◌, if◌then◌else◌, filter}
use Rattle.std.proofs.lemmas.Bool.{and_parts, eq-eqb, eqb-true}
use Rattle.dr_meaning.specs.Schema.{Fields}
use Rattle.dr_meaning.specs.Path.{Step, is_leaf_path, chain_end, begins_with, same_path}
use Rattle.dr_meaning.specs.Record.{Value, Node, is_record}
use Rattle.dr_meaning.specs.Rows.{rows, value_at, is_present}
use Rattle.dr_meaning.specs.Kept.{kept_along}
use Rattle.dr_meaning.specs.Expression.{Expression, evaluate, expression_chain}
use Rattle.dr_meaning.specs.Query.{Aggregate, RecordTerm, expression, within, RecordItem, Object, cell, objects_of, aggregated, present_values, over_rows, Levels, no_levels, deeper, term_chain, term_value, with_cells, leads_to_items, with_list, instances_of, object_lists}
use Rattle.dr_kept_laws.specs.RowsOfKept.{kept_rows, rows_left}
use Rattle.dr_kept_laws.specs.RowsOfKeptLaws.{IsOfChain}
use Rattle.dr_kept_laws.specs.ObjectsOfKept.{kept_instances, kept_value, kept_cells, kept_lists}
use Rattle.dr_kept_laws.specs.ObjectsOfKeptLaws.{term_expression, AreOfChains, ObjectOfKept}
use Rattle.dr_kept_laws.proofs.RowsOfKeptLaws.{rows_of_kept, end_in_kept}
use Rattle.dr_kept_laws.proofs.CutRowsLemmas.{kept_of_rows}
use Rattle.dr_kept_laws.proofs.RowLists.{AllOf}
use Rattle.dr_kept_laws.proofs.RowRecords.{all_kept, kept_records}

-- ---- two lists, one with one

abbrev TwoOf : {X Y : Type 0} → (X → Y → Type 0) → List X → List Y → Type 0
TwoOf R [] [] = Unit {0}
TwoOf R [] (y ∷ ys) = ⊥
TwoOf R (x ∷ xs) [] = ⊥
TwoOf R (x ∷ xs) (y ∷ ys) = R x y × TwoOf R xs ys

two_mapped : {X Y Z : Type 0} (R : X → Y → Type 0) (f : X → Z) (g : Y → Z) → ((x : X) (y : Y) → R x y → f x ≡ g y) → (xs : List X) (ys : List Y) → TwoOf R xs ys → map f xs ≡ map g ys
two_mapped R f g h [] [] t = refl
two_mapped R f g h [] (y ∷ ys) t = absurd t
two_mapped R f g h (x ∷ xs) [] t = absurd t
two_mapped R f g h (x ∷ xs) (y ∷ ys) t = ap₂ (λ z zs. z ∷ zs) (h x y t.0) (two_mapped R f g h xs ys t.1)

two_filtered : {X Y : Type 0} (R : X → Y → Type 0) (f : X → Bool) (g : Y → Bool) → ((x : X) (y : Y) → R x y → f x ≡ g y) → (xs : List X) (ys : List Y) → TwoOf R xs ys → TwoOf R (filter f xs) (filter g ys)
two_filtered R f g h [] [] t = tt
two_filtered R f g h [] (y ∷ ys) t = absurd t
two_filtered R f g h (x ∷ xs) [] t = absurd t
two_filtered R f g h (x ∷ xs) (y ∷ ys) t = subst (λ (b : Bool). TwoOf R (if b then x ∷ filter f xs else filter f xs) (if g y then y ∷ filter g ys else filter g ys)) (sym (h x y t.0)) (by_test (g y) (two_filtered R f g h xs ys t.1))
  where
    by_test : (b : Bool) → TwoOf R (filter f xs) (filter g ys) → TwoOf R (if b then x ∷ filter f xs else filter f xs) (if b then y ∷ filter g ys else filter g ys)
    by_test true s = (t.0, s)
    by_test false s = s

-- ---- a row of what is kept, and the kept row that it comes from

abbrev IsRowOf : Fields → List Step → (Node → Bool) → List Step → Node → Node → Type 0
IsRowOf fs c test p a b = (kept_along c test b ≡ Some a) × (is_record fs b ≡ true) × (is_present p a ≡ is_present p b)
    × ((q : List Step) → is_leaf_path fs q ≡ true → begins_with (chain_end q) p ≡ true → value_at q a ≡ value_at q b)

two_rows : (fs : Fields) (c : List Step) (test : Node → Bool) (p : List Step) (rs ks : List Node) → map (kept_along c test) ks ≡ map (λ (r : Node). Some r) rs → AllOf (λ (r : Node). is_record fs r ≡ true) ks
    → map (is_present p) rs ≡ map (is_present p) ks
    → ((q : List Step) → is_leaf_path fs q ≡ true → begins_with (chain_end q) p ≡ true → map (value_at q) rs ≡ map (value_at q) ks) → TwoOf (IsRowOf fs c test p) rs ks
two_rows fs c test p [] [] e z s v = tt
two_rows fs c test p [] (k ∷ ks) e z s v = absurd (cc)
two_rows fs c test p (r ∷ rs) [] e z s v = absurd (cc)
two_rows fs c test p (r ∷ rs) (k ∷ ks) e z s v =
    let e0 : kept_along c test k ≡ Some r = cc in
    let e1 : map (kept_along c test) ks ≡ map (λ (r : Node). Some r) rs = cc in
    let s0 : is_present p r ≡ is_present p k = cc in
    let s1 : map (is_present p) rs ≡ map (is_present p) ks = cc in (
      (e0, z.0, s0, (λ q u l. first_same (value_at q r) (value_at q k) (map (value_at q) rs) (map (value_at q) ks) (v q u l))),
      two_rows fs c test p rs ks e1 z.1 s1 (λ q u l. rest_same (value_at q r) (value_at q k) (map (value_at q) rs) (map (value_at q) ks) (v q u l)),
    )
  where
    first_same : {X : Type 0} (a b : X) (xs ys : List X) → a ∷ xs ≡ b ∷ ys → a ≡ b
    first_same a b xs ys h = cc

    rest_same : {X : Type 0} (a b : X) (xs ys : List X) → a ∷ xs ≡ b ∷ ys → xs ≡ ys
    rest_same a b xs ys h = cc

module _ (fs : Fields) (c : List Step) (test : Node → Bool) (local : IsOfChain fs c test) where
  -- the rows of a path in what is kept of a row, and the kept rows of that row
  rows_within : (p : List Step) (a b : Node) → kept_along c test b ≡ Some a → is_record fs b ≡ true → TwoOf (IsRowOf fs c test p) (rows p a) (kept_rows p c test b)
  rows_within p a b e z = two_rows fs c test p (rows p a) (kept_rows p c test b)
      (kept_of_rows fs b p c test z local ∙ ap (λ (o : Option Node). map (λ (r : Node). Some r) (rows_left p o)) e)
      (kept_records fs p c test b z)
      (ap (λ (o : Option Node). map (is_present p) (rows_left p o)) (sym e) ∙ end_in_kept p c test b)
      (λ q u l. ap (λ (o : Option Node). map (value_at q) (rows_left p o)) (sym e) ∙ rows_of_kept fs b p c q test z u l)

  instances_within : (p : List Step) (a b : Node) → kept_along c test b ≡ Some a → is_record fs b ≡ true → TwoOf (IsRowOf fs c test p) (instances_of p a) (kept_instances p c test b)
  instances_within p a b e z = two_filtered (IsRowOf fs c test p) (is_present p) (is_present p) (λ x y r. r.2) (rows p a) (kept_rows p c test b) (rows_within p a b e z)

  -- an aggregate over rows within
  same_over_rows : (g : Aggregate) (e : Expression) → IsOfChain fs (expression_chain e) (evaluate e) → (a b : Node) → kept_along c test b ≡ Some a → is_record fs b ≡ true
      → over_rows g e (rows (expression_chain e) a) ≡ over_rows g e (kept_rows (expression_chain e) c test b)
  same_over_rows g e h a b k z = ap (λ (vs : List (Option Value)). aggregated g (present_values vs))
      (two_mapped (IsRowOf fs c test (expression_chain e)) (evaluate e) (evaluate e) (λ x y r. h x y r.3) (rows (expression_chain e) a) (kept_rows (expression_chain e) c test b) (rows_within (expression_chain e) a b k z))

  -- ---- paths that go through the same places

  begins_more : (x y z : List Step) → begins_with x y ≡ true → begins_with y z ≡ true → begins_with x z ≡ true
  begins_more [] y z h g = refl
  begins_more (s ∷ x) [] z h g = absurd (true≢false (sym h))
  begins_more (s ∷ x) (t ∷ y) [] h g = absurd (true≢false (sym g))
  begins_more (s ∷ x) (t ∷ y) (u ∷ z) h g =
      let a : ((s.place == t.place) ≡ true) × (begins_with x y ≡ true) = and_parts _ _ h in
      let b : ((t.place == u.place) ≡ true) × (begins_with y z ≡ true) = and_parts _ _ g in
      ap₂ (λ (i j : Bool). i && j) (eq-eqb s.place u.place (eqb-true s.place t.place a.0 ∙ eqb-true t.place u.place b.0)) (begins_more x y z a.1 b.1)

  -- ---- cells

  same_value : (t : RecordTerm) (p : List Step) (a b : Node) → same_path p (term_chain t) ≡ true → IsOfChain fs (expression_chain (term_expression t)) (evaluate (term_expression t)) → IsRowOf fs c test p a b
      → term_value t a ≡ kept_value c test t b
  same_value (expression e) p a b s h r = h a b (λ q u l. r.3 q u (begins_more (chain_end q) (expression_chain e) p l (and_parts (begins_with p (expression_chain e)) (begins_with (expression_chain e) p) s).1))
  same_value (within g e node) p a b s h r = same_over_rows g e h a b r.0 r.1

  same_cells : (items : List RecordItem) → AreOfChains fs items → (p : List Step) (a b : Node) → IsRowOf fs c test p a b → (x y : Object) → x ≡ y → with_cells items p a x ≡ kept_cells c test items p b y
  same_cells [] h p a b r x y e = e
  same_cells (i ∷ is) h p a b r x y e = by_level (same_path p (term_chain i.term)) refl (same_cells is h.1 p a b r x y e)
    where
      by_level : (d : Bool) → same_path p (term_chain i.term) ≡ d → with_cells is p a x ≡ kept_cells c test is p b y
          → (if d then cell i.name (term_value i.term a) (with_cells is p a x) else with_cells is p a x) ≡ (if d then cell i.name (kept_value c test i.term b) (kept_cells c test is p b y) else kept_cells c test is p b y)
      by_level true d f = ap₂ (λ (v : Option Value) (o : Object). cell i.name v o) (same_value i.term p a b d h.0 r) f
      by_level false d f = f

  -- ---- lists

  same_lists : (items : List RecordItem) → AreOfChains fs items → (levels : Levels) (a b : Node) → kept_along c test b ≡ Some a → is_record fs b ≡ true → object_lists items levels a ≡ kept_lists c test items levels b
  same_lists items h no_levels a b e z = refl
  same_lists items h (deeper names p below beside) a b e z =
      ap₂ (λ (os : List Object) (rest : Object). with_list (leads_to_items items p) names (objects_of os) rest)
      (two_mapped (IsRowOf fs c test p) (λ r. with_cells items p r (object_lists items below r)) (λ r. kept_cells c test items p r (kept_lists c test items below r))
      (λ x y r. same_cells items h p x y r (object_lists items below x) (kept_lists c test items below y) (same_lists items h below x y r.0 r.1))
      (instances_of p a) (kept_instances p c test b) (instances_within p a b e z))
      (same_lists items h beside a b e z)

pub object_of_kept : ObjectOfKept
object_of_kept fs items levels c test n m z local h e =
    same_cells fs c test local items h [] m n (whole_row (rows_within fs c test local [] m n e z)) (object_lists items levels m) (kept_lists c test items levels n) (same_lists fs c test local items h levels m n e z)
  where
    -- the record is a row of itself
    by_one : (ks : List Node) → AllOf (λ (k : Node). k ≡ n) ks → TwoOf (IsRowOf fs c test []) (m ∷ []) ks → IsRowOf fs c test [] m n
    by_one [] a t = absurd t
    by_one (k ∷ ks) a t = subst (IsRowOf fs c test [] m) a.0 t.0

    whole_row : TwoOf (IsRowOf fs c test []) (m ∷ []) (kept_rows [] c test n) → IsRowOf fs c test [] m n
    whole_row t = by_one (kept_rows [] c test n) (all_kept [] c (λ (k : Node). k ≡ n) test n (refl, tt)) t

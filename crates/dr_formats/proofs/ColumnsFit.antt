-- The columns of records have levels within the greatest, a value of the kind exactly at the greatest definition level, and one start for each record.
use Rattle.std.proofs.Common.{◌≡◌, ℕ, suc, ◌+◌, ◌^◌, ◌≤◌, ◌<◌, List, [], ◌∷◌, ◌++◌, map, length, true, refl, sym, ap, ◌∙◌, subst, arith, Some, None, true≢false}
use Rattle.std.specs.List.{list_all}
use Rattle.std.proofs.lemmas.Bool.{and_parts, and_from, le-leb, lt-ltb, eq-eqb, ne_eqb}
use Rattle.dr_meaning.specs.Schema.{Repetition, required, optional, repeated, Kind, Fields, no_fields, field, Shape, leaf, group, repetition_count, definition_count}
use Rattle.dr_meaning.specs.Path.{Leaf, leaf_below, leaves_from, shape_leaves, max_repetition, max_definition}
use Rattle.dr_meaning.specs.Record.{Value, bool_value, int_value, text_value, is_of_kind, Node, no_slots, slot, gap, Instances, no_instances, instance, Instance, atom, inner, count_instances, fits_repetition, all_instances, is_record, is_instance, instances_at, text_length, text_bytes, text_bytes_all, text_bytes_one}
use Rattle.dr_meaning.specs.Column.{Triplet, triplet, each_later, spread, instance_column}
use Rattle.dr_formats.specs.Plain.{is_writable}
use Rattle.dr_formats.specs.Page.{is_triplet}
use Rattle.dr_meaning.proofs.Blocks.{and₃_parts}

abbrev pub Good : Kind → ℕ → ℕ → List Triplet → Type 0
Good k R D ts = list_all (is_triplet k R D) ts ≡ true

good_append : (k : Kind) (R D : ℕ) (ts us : List Triplet) → Good k R D ts → Good k R D us → Good k R D (ts ++ us)
good_append k R D [] us h g = g
good_append k R D (t ∷ ts) us h g = let p : (is_triplet k R D t ≡ true) × Good k R D ts = and_parts _ _ h in and_from _ _ p.0 (good_append k R D ts us p.1 g)

-- a NULL below the greatest definition level
null_good : (k : Kind) (R D r d : ℕ) → r ≤ R → d < D → is_triplet k R D (triplet r d None) ≡ true
null_good k R D r d h g = rw (le-leb r R h, le-leb d D (omega (arith, g)), ne_eqb d D (omega (arith, g))) refl

value_good : (k : Kind) (R D r : ℕ) (v : Value) → r ≤ R → is_writable k v ≡ true → is_triplet k R D (triplet r D (Some v)) ≡ true
value_good k R D r v h g = rw (le-leb r R h, le-leb D D (omega arith), eq-eqb D D refl, g) refl

-- ---- what a path's column is in an instance

abbrev pub ColumnGood : Leaf → Instance → Type 0
ColumnGood L x = (l d r : ℕ) → r ≤ l → Good L.kind (l + max_repetition L.path) (d + max_definition L.path) (instance_column L.path l d r x)

abbrev pub EachLeaf : (Leaf → Type 0) → List Leaf → Type 0
EachLeaf P [] = Unit {0}
EachLeaf P (l ∷ ls) = P l × EachLeaf P ls

pub each_append : (P : Leaf → Type 0) (xs ys : List Leaf) → EachLeaf P xs → EachLeaf P ys → EachLeaf P (xs ++ ys)
each_append P [] ys h k = k
each_append P (x ∷ xs) ys h k = (h.0, each_append P xs ys h.1 k)

abbrev EachColumn : Leaf → Instances → Type 0
EachColumn L no_instances = Unit {0}
EachColumn L (instance x xs) = ColumnGood L x × EachColumn L xs

-- the columns of a field's later instances
later_good : (L : Leaf) (l d later : ℕ) (xs : Instances) → later ≤ l → EachColumn L xs → Good L.kind (l + max_repetition L.path) (d + max_definition L.path) (each_later (instance_column L.path l d) later xs)
later_good L l d later no_instances h e = refl
later_good L l d later (instance x xs) h e = good_append L.kind (l + max_repetition L.path) (d + max_definition L.path) (instance_column L.path l d later x) (each_later (instance_column L.path l d) later xs) (e.0 l d later h) (later_good L l d later xs h e.1)

-- where there may be none, one raises the definition level
raises : (r : Repetition) → fits_repetition r 0 ≡ true → 1 ≤ definition_count r
raises required h = absurd (true≢false (sym h))
raises optional h = omega arith
raises repeated h = omega arith

spread_good : (L : Leaf) (q : Repetition) (l d r : ℕ) (xs : Instances) → r ≤ l → fits_repetition q (count_instances xs) ≡ true → EachColumn L xs
    → Good L.kind (l + (repetition_count q + max_repetition L.path)) (d + (definition_count q + max_definition L.path)) (spread (instance_column L.path (l + repetition_count q) (d + definition_count q)) (l + repetition_count q) d r xs)
spread_good L q l d r no_instances h f e = and_from _ _ (null_good L.kind (l + (repetition_count q + max_repetition L.path)) (d + (definition_count q + max_definition L.path)) r d (omega (arith, h)) (omega (arith, raises q f))) refl
spread_good L q l d r (instance x xs) h f e =
    let R : l + repetition_count q + max_repetition L.path ≡ l + (repetition_count q + max_repetition L.path) = omega arith in
    let D : d + definition_count q + max_definition L.path ≡ d + (definition_count q + max_definition L.path) = omega arith in
    let g : Good L.kind (l + repetition_count q + max_repetition L.path) (d + definition_count q + max_definition L.path) (instance_column L.path (l + repetition_count q) (d + definition_count q) r x ++ each_later (instance_column L.path (l + repetition_count q) (d + definition_count q)) (l + repetition_count q) xs) =
    good_append L.kind (l + repetition_count q + max_repetition L.path) (d + definition_count q + max_definition L.path) (instance_column L.path (l + repetition_count q) (d + definition_count q) r x) (each_later (instance_column L.path (l + repetition_count q) (d + definition_count q)) (l + repetition_count q) xs)
    (e.0 (l + repetition_count q) (d + definition_count q) r (omega (arith, h))) (later_good L (l + repetition_count q) (d + definition_count q) (l + repetition_count q) xs (omega arith) e.1) in
    subst (λ (b : ℕ). Good L.kind b (d + (definition_count q + max_definition L.path)) (spread (instance_column L.path (l + repetition_count q) (d + definition_count q)) (l + repetition_count q) d r (instance x xs))) R
    (subst (λ (b : ℕ). Good L.kind (l + repetition_count q + max_repetition L.path) b (spread (instance_column L.path (l + repetition_count q) (d + definition_count q)) (l + repetition_count q) d r (instance x xs))) D g)

-- each leaf of a shape has good columns in each instance: so have these leaves of the field in the node
abbrev EachLeafEach : List Leaf → Instances → Type 0
EachLeafEach ls xs = EachLeaf (λ L. EachColumn L xs) ls

add_instance : (ls : List Leaf) (x : Instance) (xs : Instances) → EachLeaf (λ L. ColumnGood L x) ls → EachLeafEach ls xs → EachLeafEach ls (instance x xs)
add_instance [] x xs h e = tt
add_instance (L ∷ ls) x xs h e = ((h.0, e.0), add_instance ls x xs h.1 e.1)

no_instance : (ls : List Leaf) → EachLeafEach ls no_instances
no_instance [] = tt
no_instance (L ∷ ls) = (tt, no_instance ls)

below_good : (n : List ℕ) (i : ℕ) (q : Repetition) (ls : List Leaf) (m : Node) (xs : Instances) → instances_at i m ≡ xs → fits_repetition q (count_instances xs) ≡ true → EachLeafEach ls xs → EachLeaf (λ L. ColumnGood L (inner m)) (map (leaf_below n (record { place = i; repetition = q })) ls)
below_good n i q [] m xs e f h = tt
below_good n i q (L ∷ ls) m xs e f h =
    (λ l d r g. subst (λ (ys : Instances). Good L.kind (l + (repetition_count q + max_repetition L.path)) (d + (definition_count q + max_definition L.path)) (spread (instance_column L.path (l + repetition_count q) (d + definition_count q)) (l + repetition_count q) d r ys)) (sym e) (spread_good L q l d r xs g f h.0), below_good n i q ls m xs e f h.1)

writable_of : (k : Kind) (v : Value) → is_of_kind k v ≡ true → text_length v < 2 ^ 32 → is_writable k v ≡ true
writable_of k (bool_value b) h l = and_from _ _ h refl
writable_of k (int_value z) h l = and_from _ _ h refl
writable_of k (text_value t) h l = and_from _ _ h (lt-ltb (length t) (2 ^ 32) l)

abbrev pub SameFrom : Node → ℕ → Node → Type 0
SameFrom m i tail = (j : ℕ) → instances_at (i + j) m ≡ instances_at j tail

next_from : (m : Node) (i : ℕ) (xs : Instances) (n : Node) → SameFrom m i (slot xs n) → SameFrom m (suc i) n
next_from m i xs n h j =
    let e : suc i + j ≡ i + suc j = omega arith in
    ap (λ k. instances_at k m) e ∙ h (suc j)

zero_more : (j : ℕ) → 0 + j ≡ j
zero_more j = omega arith

leaf_good : (k : Kind) (v : Value) (l d r : ℕ) → r ≤ l → is_of_kind k v ≡ true → text_length v < 2 ^ 32 → Good k (l + 0) (d + 0) (triplet r d (Some v) ∷ [])
leaf_good k v l d r g h t =
    let e : d + 0 ≡ d = omega arith in
    rw e (and_from _ _ (value_good k (l + 0) d r v (omega (arith, g)) (writable_of k v h t)) refl)

mutual
  pub fields_good : (fs : Fields) (i : ℕ) (m tail : Node) → SameFrom m i tail → is_record fs tail ≡ true → text_bytes tail < 2 ^ 32 → EachLeaf (λ L. ColumnGood L (inner m)) (leaves_from fs i)
  fields_good no_fields i m tail h v t = tt
  fields_good (field n q s fs) i m no_slots h v t = absurd (true≢false (sym v))
  fields_good (field n q s fs) i m (gap tail) h v t = absurd (true≢false (sym v))
  fields_good (field n q s fs) i m (slot xs tail) h v t =
      let p : (fits_repetition q (count_instances xs) ≡ true) × (all_instances (is_instance s) xs ≡ true) × (is_record fs tail ≡ true) = and₃_parts _ _ _ v in
      let e : i + 0 ≡ i = omega arith in
      each_append (λ L. ColumnGood L (inner m)) (map (leaf_below n (record { place = i; repetition = q })) (shape_leaves s)) (leaves_from fs (suc i))
      (below_good n i q (shape_leaves s) m xs (ap (λ k. instances_at k m) (sym e) ∙ h 0) p.0 (instances_good s xs p.1 (omega (arith, t))))
      (fields_good fs (suc i) m tail (next_from m i xs tail h) p.2 (omega (arith, t)))

  instances_good : (s : Shape) (xs : Instances) → all_instances (is_instance s) xs ≡ true → text_bytes_all xs < 2 ^ 32 → EachLeafEach (shape_leaves s) xs
  instances_good s no_instances v t = no_instance (shape_leaves s)
  instances_good s (instance x xs) v t =
      let p : (is_instance s x ≡ true) × (all_instances (is_instance s) xs ≡ true) = and_parts _ _ v in
      add_instance (shape_leaves s) x xs (shape_good s x p.0 (omega (arith, t))) (instances_good s xs p.1 (omega (arith, t)))

  shape_good : (s : Shape) (x : Instance) → is_instance s x ≡ true → text_bytes_one x < 2 ^ 32 → EachLeaf (λ L. ColumnGood L x) (shape_leaves s)
  shape_good (leaf k) (atom v) h t = (λ l d r g. leaf_good k v l d r g h t, tt)
  shape_good (leaf k) (inner n) h t = absurd (true≢false (sym h))
  shape_good (group fs) (atom v) h t = absurd (true≢false (sym h))
  shape_good (group fs) (inner n) h t = fields_good fs 0 n n (λ j. ap (λ k. instances_at k n) (zero_more j)) h t

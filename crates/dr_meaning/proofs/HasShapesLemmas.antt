-- Records, what is kept of them and their rows have instances of their fields' shapes; the values of leaves there have their kinds' types.
use Rattle.std.proofs.Common.{◌≡◌, ℕ, zero, suc, List, [], ◌∷◌, ◌++◌, map, Bool, true, false, ◌&&◌, Option, Some, None, refl, sym, ap, ap₂, subst, true≢false}
use Rattle.std.specs.Prelude.{if◌then◌else◌, option_map}
use Rattle.std.specs.List.{list_all}
use Rattle.std.proofs.lemmas.Bool.{and_parts}
use Rattle.dr_meaning.specs.Schema.{Repetition, Kind, bool_kind, int32_kind, int64_kind, text_kind, Fields, no_fields, field, Shape, leaf, group}
use Rattle.dr_meaning.specs.Path.{Step, same_repetition}
use Rattle.dr_meaning.specs.Record.{Value, bool_value, int_value, text_value, Node, no_slots, slot, gap, Instances, no_instances, instance, Instance, atom, inner, is_of_kind, count_instances, fits_repetition, all_instances, is_record, is_instance, instances_at, put_at, single}
use Rattle.dr_meaning.specs.Rows.{instance_rows, each_instance_rows, field_rows, rows, first_value, value_in, value_at}
use Rattle.dr_meaning.specs.Expression.{expression_chain, evaluate, is_true}
use Rattle.dr_meaning.specs.Kept.{with_kept, keep_each, if_some_kept, keep_below, keep_instance, kept_along, kept}
use Rattle.dr_meaning.specs.BoundExpression.{kind_type}
use Rattle.dr_meaning.specs.BindingLaws.{is_of_type, has_shapes, has_shape, RecordsHaveShapes, RowsHaveShapes, KeptHaveShapes}
use Rattle.dr_meaning.proofs.LeafKinds.{kind_if_some, leaf_kind, shape_kind}
use Rattle.dr_meaning.proofs.ProjectionLemmas.{step}

-- ---- records

all_weaker : (f g : Instance → Bool) → ((x : Instance) → f x ≡ true → g x ≡ true) → (xs : Instances) → all_instances f xs ≡ true → all_instances g xs ≡ true
all_weaker f g h no_instances k = refl
all_weaker f g h (instance x xs) k = let p = and_parts _ _ k in ap₂ (λ a b. a && b) (h x p.0) (all_weaker f g h xs p.1)

mutual
  pub records_have_shapes : RecordsHaveShapes
  records_have_shapes no_fields n h = refl
  records_have_shapes (field m r s fs) no_slots h = refl
  records_have_shapes (field m r s fs) (slot xs n) h =
      let p : ((fits_repetition r (count_instances xs) && all_instances (is_instance s) xs) ≡ true) × (is_record fs n ≡ true) = and_parts _ _ h in
      ap₂ (λ a b. a && b) (all_weaker (is_instance s) (has_shape s) (instances_have_shape s) xs (and_parts _ _ p.0).1) (records_have_shapes fs n p.1)
  records_have_shapes (field m r s fs) (gap n) h = absurd (true≢false (sym h))

  instances_have_shape : (s : Shape) (x : Instance) → is_instance s x ≡ true → has_shape s x ≡ true
  instances_have_shape (leaf k) x h = h
  instances_have_shape (group fs) (atom v) h = h
  instances_have_shape (group fs) (inner n) h = records_have_shapes fs n h

-- ---- what keeps shapes

-- whatever shapes the one has, the other has
abbrev Keeps : Node → Node → Type 0
Keeps n m = (fs : Fields) → has_shapes fs n ≡ true → has_shapes fs m ≡ true

abbrev KeepsOne : Instance → Instance → Type 0
KeepsOne x y = (s : Shape) → has_shape s x ≡ true → has_shape s y ≡ true

abbrev KeepsAll : Instances → Instances → Type 0
KeepsAll xs ys = (s : Shape) → all_instances (has_shape s) xs ≡ true → all_instances (has_shape s) ys ≡ true

inner_keeps : (n m : Node) → Keeps n m → KeepsOne (inner n) (inner m)
inner_keeps n m h (leaf k) g = g
inner_keeps n m h (group fs) g = h fs g

put_keeps : (i : ℕ) (n : Node) (xs : Instances) → KeepsAll (instances_at i n) xs → Keeps n (put_at i xs n)
put_keeps i n xs k no_fields h = refl
put_keeps i no_slots xs k (field m r s fs) h = refl
put_keeps zero (slot ys n) xs k (field m r s fs) h = let p = and_parts _ _ h in ap₂ (λ a b. a && b) (k s p.0) p.1
put_keeps (suc i) (slot ys n) xs k (field m r s fs) h = let p = and_parts _ _ h in ap₂ (λ a b. a && b) p.0 (put_keeps i n xs k fs p.1)
put_keeps zero (gap n) xs k (field m r s fs) h = h
put_keeps (suc i) (gap n) xs k (field m r s fs) h = put_keeps i n xs k fs h

-- ---- rows

abbrev EachRow : (Node → Type 0) → List Node → Type 0
EachRow P [] = Unit {0}
EachRow P (n ∷ ns) = P n × EachRow P ns

abbrev EachCut : (Instances → Type 0) → List Instances → Type 0
EachCut P [] = Unit {0}
EachCut P (xs ∷ ys) = P xs × EachCut P ys

cuts_append : (P : Instances → Type 0) (xs ys : List Instances) → EachCut P xs → EachCut P ys → EachCut P (xs ++ ys)
cuts_append P [] ys h k = k
cuts_append P (x ∷ xs) ys h k = (h.0, cuts_append P xs ys h.1 k)

cuts_weaker : (P Q : Instances → Type 0) → ((xs : Instances) → P xs → Q xs) → (ys : List Instances) → EachCut P ys → EachCut Q ys
cuts_weaker P Q f [] h = tt
cuts_weaker P Q f (xs ∷ ys) h = (f xs h.0, cuts_weaker P Q f ys h.1)

-- a row of one instance keeps its shape
abbrev IsCutOf : Instance → Instances → Type 0
IsCutOf x ys = (s : Shape) → has_shape s x ≡ true → all_instances (has_shape s) ys ≡ true

inner_cuts : (n : Node) (ms : List Node) → EachRow (Keeps n) ms → EachCut (IsCutOf (inner n)) (map (λ (m : Node). single (inner m)) ms)
inner_cuts n [] h = tt
inner_cuts n (m ∷ ms) h = (λ (s : Shape) (g : has_shape s (inner n) ≡ true). ap (λ b. b && true) (inner_keeps n m h.0 s g), inner_cuts n ms h.1)

one_cut : (f : Node → List Node) → ((n : Node) → EachRow (Keeps n) (f n)) → (x : Instance) → EachCut (IsCutOf x) (instance_rows f x)
one_cut f h (atom v) = (λ (s : Shape) (g : has_shape s (atom v) ≡ true). ap (λ b. b && true) g, tt)
one_cut f h (inner n) = inner_cuts n (f n) (h n)

each_cut : (f : Node → List Node) → ((n : Node) → EachRow (Keeps n) (f n)) → (xs : Instances) → EachCut (KeepsAll xs) (each_instance_rows f xs)
each_cut f h no_instances = tt
each_cut f h (instance x xs) = cuts_append (KeepsAll (instance x xs)) (instance_rows f x) (each_instance_rows f xs)
    (cuts_weaker (IsCutOf x) (KeepsAll (instance x xs)) (λ (ys : Instances) (g : IsCutOf x ys) (s : Shape) (a : all_instances (has_shape s) (instance x xs) ≡ true). g s (and_parts _ _ a).0) (instance_rows f x) (one_cut f h x))
    (cuts_weaker (KeepsAll xs) (KeepsAll (instance x xs)) (λ (ys : Instances) (g : KeepsAll xs ys) (s : Shape) (a : all_instances (has_shape s) (instance x xs) ≡ true). g s (and_parts _ _ a).1) (each_instance_rows f xs) (each_cut f h xs))

field_cuts : (f : Node → List Node) → ((n : Node) → EachRow (Keeps n) (f n)) → (xs : Instances) → EachCut (KeepsAll xs) (field_rows f xs)
field_cuts f h no_instances = (λ (s : Shape) (a : all_instances (has_shape s) no_instances ≡ true). a, tt)
field_cuts f h (instance x xs) = each_cut f h (instance x xs)

put_cuts : (i : ℕ) (n : Node) (ys : List Instances) → EachCut (KeepsAll (instances_at i n)) ys → EachRow (Keeps n) (map (λ xs. put_at i xs n) ys)
put_cuts i n [] h = tt
put_cuts i n (xs ∷ ys) h = (put_keeps i n xs h.0, put_cuts i n ys h.1)

rows_keep : (p : List Step) (n : Node) → EachRow (Keeps n) (rows p n)
rows_keep [] n = (λ (fs : Fields) (h : has_shapes fs n ≡ true). h, tt)
rows_keep (s ∷ p) n = put_cuts s.place n (field_rows (rows p) (instances_at s.place n)) (field_cuts (rows p) (rows_keep p) (instances_at s.place n))

each_has : (fs : Fields) (n : Node) → has_shapes fs n ≡ true → (ms : List Node) → EachRow (Keeps n) ms → list_all (has_shapes fs) ms ≡ true
each_has fs n h [] k = refl
each_has fs n h (m ∷ ms) k = ap₂ (λ a b. a && b) (k.0 fs h) (each_has fs n h ms k.1)

pub rows_have_shapes : RowsHaveShapes
rows_have_shapes fs p n h = each_has fs n h (rows p n) (rows_keep p n)

-- ---- kept branches

abbrev KeptOf : Node → Option Node → Type 0
KeptOf n None = Unit {0}
KeptOf n (Some m) = Keeps n m

abbrev KeptOfOne : Instance → Option Instance → Type 0
KeptOfOne x None = Unit {0}
KeptOfOne x (Some y) = KeepsOne x y

if_itself : (n : Node) (b : Bool) → KeptOf n (if b then Some n else None)
if_itself n true = λ (fs : Fields) (h : has_shapes fs n ≡ true). h
if_itself n false = tt

atom_itself : (x : Instance) (b : Bool) → KeptOfOne x (if b then Some x else None)
atom_itself x true = λ (s : Shape) (h : has_shape s x ≡ true). h
atom_itself x false = tt

inner_kept : (n : Node) (o : Option Node) → KeptOf n o → KeptOfOne (inner n) (option_map inner o)
inner_kept n None h = tt
inner_kept n (Some m) h = inner_keeps n m h

one_kept : (p : List Step) → ((test : Node → Bool) (n : Node) → KeptOf n (kept_along p test n)) → (row : Instance → Node) (test : Node → Bool) (x : Instance) → KeptOfOne x (keep_instance (kept_along p) row test x)
one_kept p h row test (atom v) = atom_itself (atom v) (test (row (atom v)))
one_kept p h row test (inner n) = inner_kept n (kept_along p (λ m. test (row (inner m))) n) (h (λ m. test (row (inner m))) n)

with_kept_keeps : (x : Instance) (o : Option Instance) (xs ys : Instances) → KeptOfOne x o → KeepsAll xs ys → KeepsAll (instance x xs) (with_kept o ys)
with_kept_keeps x None xs ys h k s a = k s (and_parts _ _ a).1
with_kept_keeps x (Some y) xs ys h k s a = let p = and_parts _ _ a in ap₂ (λ b c. b && c) (h s p.0) (k s p.1)

each_kept : (f : Instance → Option Instance) → ((x : Instance) → KeptOfOne x (f x)) → (xs : Instances) → KeepsAll xs (keep_each f xs)
each_kept f h no_instances s a = a
each_kept f h (instance x xs) s a = with_kept_keeps x (f x) xs (keep_each f xs) (h x) (each_kept f h xs) s a

some_kept : (n : Node) (put : Instances → Node) (xs ys : Instances) → ((zs : Instances) → KeepsAll xs zs → Keeps n (put zs)) → KeepsAll xs ys → KeptOf n (if_some_kept put ys)
some_kept n put xs no_instances h k = tt
some_kept n put xs (instance y ys) h k = h (instance y ys) k

below_kept : (test : Node → Bool) (put : Instances → Node) (f : Instance → Option Instance) (n : Node) (xs : Instances) → ((x : Instance) → KeptOfOne x (f x)) → ((zs : Instances) → KeepsAll xs zs → Keeps n (put zs))
    → KeptOf n (keep_below test put f n xs)
below_kept test put f n no_instances h k = if_itself n (test n)
below_kept test put f n (instance x xs) h k = some_kept n put (instance x xs) (keep_each f (instance x xs)) k (each_kept f h (instance x xs))

along_kept : (p : List Step) (test : Node → Bool) (n : Node) → KeptOf n (kept_along p test n)
along_kept [] test n = if_itself n (test n)
along_kept (s ∷ p) test n = below_kept test (λ xs. put_at s.place xs n) (keep_instance (kept_along p) (λ x. put_at s.place (single x) n) test) n (instances_at s.place n)
    (one_kept p (along_kept p) (λ x. put_at s.place (single x) n) test) (λ (zs : Instances) (k : KeepsAll (instances_at s.place n) zs). put_keeps s.place n zs k)

some_is : (n m : Node) (o : Option Node) → KeptOf n o → o ≡ Some m → Keeps n m
some_is n m o h e = subst (KeptOf n) e h

pub kept_have_shapes : KeptHaveShapes
kept_have_shapes fs None n m e h = let q : n ≡ m = cc in subst (λ (x : Node). has_shapes fs x ≡ true) q h
kept_have_shapes fs (Some c) n m e h = some_is n m (kept (Some c) n) (along_kept (expression_chain c) (λ row. is_true (evaluate c row)) n) e fs h

-- ---- the values of leaves

kind_value : (k : Kind) (v : Value) → is_of_kind k v ≡ true → is_of_type (kind_type k) (Some v) ≡ true
kind_value bool_kind (bool_value b) h = refl
kind_value bool_kind (int_value z) h = absurd (true≢false (sym h))
kind_value bool_kind (text_value t) h = absurd (true≢false (sym h))
kind_value int32_kind (bool_value b) h = absurd (true≢false (sym h))
kind_value int32_kind (int_value z) h = refl
kind_value int32_kind (text_value t) h = absurd (true≢false (sym h))
kind_value int64_kind (bool_value b) h = absurd (true≢false (sym h))
kind_value int64_kind (int_value z) h = refl
kind_value int64_kind (text_value t) h = absurd (true≢false (sym h))
kind_value text_kind (bool_value b) h = absurd (true≢false (sym h))
kind_value text_kind (int_value z) h = absurd (true≢false (sym h))
kind_value text_kind (text_value t) h = refl

no_value : (k : Kind) → is_of_type (kind_type k) None ≡ true
no_value bool_kind = refl
no_value int32_kind = refl
no_value int64_kind = refl
no_value text_kind = refl

first_typed : (k : Kind) (f : Instance → Option Value) (xs : Instances) (s : Shape) → ((x : Instance) → has_shape s x ≡ true → is_of_type (kind_type k) (f x) ≡ true) → all_instances (has_shape s) xs ≡ true
    → is_of_type (kind_type k) (first_value f xs) ≡ true
first_typed k f no_instances s h a = no_value k
first_typed k f (instance x xs) s h a = h x (and_parts _ _ a).0

mutual
  field_value : (fs : Fields) (i : ℕ) (r : Repetition) (p : List Step) (k : Kind) (n : Node) → leaf_kind fs (step i r ∷ p) ≡ Some k → has_shapes fs n ≡ true → is_of_type (kind_type k) (first_value (value_in p) (instances_at i n)) ≡ true
  field_value no_fields i r p k n e h = absurd (cc)
  field_value (field m q s fs) i r p k no_slots e h = no_value k
  field_value (field m q s fs) zero r p k (slot xs n) e h =
      let g : (same_repetition r q ≡ true) × (shape_kind s p ≡ Some k) = kind_if_some (same_repetition r q) (shape_kind s p) k e in
      first_typed k (value_in p) xs s (λ (x : Instance) (a : has_shape s x ≡ true). shape_value s p k x g.1 a) (and_parts _ _ h).0
  field_value (field m q s fs) (suc i) r p k (slot xs n) e h = field_value fs i r p k n e (and_parts _ _ h).1
  field_value (field m q s fs) zero r p k (gap n) e h = no_value k
  field_value (field m q s fs) (suc i) r p k (gap n) e h = field_value fs i r p k n e h

  shape_value : (s : Shape) (p : List Step) (k : Kind) (x : Instance) → shape_kind s p ≡ Some k → has_shape s x ≡ true → is_of_type (kind_type k) (value_in p x) ≡ true
  shape_value (leaf j) [] k (atom v) e h = let q : j ≡ k = cc in kind_value k v (subst (λ (i : Kind). is_of_kind i v ≡ true) q h)
  shape_value (leaf j) [] k (inner n) e h = absurd (true≢false (sym h))
  shape_value (leaf j) (t ∷ p) k x e h = absurd (cc)
  shape_value (group no_fields) [] k x e h = absurd (cc)
  shape_value (group (field m r s fs)) [] k x e h = absurd (cc)
  shape_value (group fs) (t ∷ p) k (atom v) e h = absurd (true≢false (sym h))
  shape_value (group fs) (t ∷ p) k (inner n) e h = field_value fs t.place t.repetition p k n e h

-- the value of a leaf in a node is of its kind's type, or NULL
pub leaf_typed : (fs : Fields) (p : List Step) (k : Kind) (n : Node) → leaf_kind fs p ≡ Some k → has_shapes fs n ≡ true → is_of_type (kind_type k) (value_at p n) ≡ true
leaf_typed fs p k n e h = shape_value (group fs) p k (inner n) e h

-- Triplets that pass the test of one column are the column of records of the schema; and columns pass it.
use Rattle.std.proofs.Common.{◌≡◌, ℕ, zero, suc, ◌+◌, ◌<◌, ◌≤◌, List, [], ◌∷◌, ◌++◌, length, Bool, true, false, ◌&&◌, Option, Some, None, refl, sym, ap, ap₂, ◌∙◌, subst, true≢false, arith, append-nil}
use Rattle.std.specs.Prelude.{◌⊎◌, ◌==◌, nat_le, pos}
use Rattle.std.proofs.Common.{inl, inr}
use Rattle.std.specs.List.{list_all}
use Rattle.std.specs.Str.{is_utf8, chars}
use Rattle.std.proofs.lemmas.Bool.{and_parts, and_from, eqb-true, leb-true, le-leb, eq-eqb, ne_eqb, cases_lt}
use Rattle.dr_meaning.specs.Schema.{Repetition, required, optional, repeated, Kind, bool_kind, int32_kind, int64_kind, text_kind, Fields, no_fields, field, Shape, leaf, group, repetition_count, definition_count}
use Rattle.dr_meaning.specs.Path.{Step, Leaf, max_repetition, max_definition, is_leaf_path, is_shape_path, same_repetition, through}
use Rattle.dr_meaning.specs.Record.{Value, bool_value, int_value, text_value, is_of_kind, Node, no_slots, slot, gap, Instances, no_instances, instance, Instance, atom, inner, single, count_instances, fits_repetition, all_instances, is_record, is_instance, instances_at}
use Rattle.dr_meaning.specs.Column.{Triplet, triplet, each_later, spread, instance_column, record_column, column}
use Rattle.dr_meaning.specs.OneColumn.{starts, begins_record, fits_value, fits_levels, level_inside, may_follow, all_follow, is_in_order, is_column, HaveColumn, ColumnsAreRecognized}
use Rattle.dr_meaning.proofs.ProjectionLemmas.{step}
use Rattle.dr_meaning.proofs.Blocks.{same_repetition-true, and₃_parts}
use Rattle.dr_meaning.proofs.ColumnStarts.{column_rows}
use Rattle.dr_meaning.proofs.LeafKinds.{through_kind, kind_if, leaf_kind, shape_kind, kind_if_some, kind_of_leaf}

-- ---- records with nothing in them but what must be there

abbrev default_value : Kind → Value
default_value bool_kind = bool_value false
default_value int32_kind = int_value (pos 0)
default_value int64_kind = int_value (pos 0)
default_value text_kind = text_value []

abbrev default_instances : Repetition → Instance → Instances
default_instances required x = single x
default_instances optional x = no_instances
default_instances repeated x = no_instances

abbrev mutual
  default_node : Fields → Node
  default_node no_fields = no_slots
  default_node (field n r s fs) = slot (default_instances r (default_instance s)) (default_node fs)

  default_instance : Shape → Instance
  default_instance (leaf k) = atom (default_value k)
  default_instance (group fs) = inner (default_node fs)

default_is_of_kind : (k : Kind) → is_of_kind k (default_value k) ≡ true
unfolding is_utf8 chars
default_is_of_kind bool_kind = refl
default_is_of_kind int32_kind = refl
default_is_of_kind int64_kind = refl
default_is_of_kind text_kind = refl

default_instances_fit : (r : Repetition) (s : Shape) (x : Instance) → is_instance s x ≡ true → (fits_repetition r (count_instances (default_instances r x)) ≡ true) × (all_instances (is_instance s) (default_instances r x) ≡ true)
default_instances_fit required s x h = (refl, and_from _ _ h refl)
default_instances_fit optional s x h = (refl, refl)
default_instances_fit repeated s x h = (refl, refl)

slot_is_record : (n : List ℕ) (r : Repetition) (s : Shape) (fs : Fields) (xs : Instances) (m : Node) → fits_repetition r (count_instances xs) ≡ true → all_instances (is_instance s) xs ≡ true → is_record fs m ≡ true → is_record (field n r s fs) (slot xs m) ≡ true
slot_is_record n r s fs xs m f a h = and_from _ _ (and_from _ _ f a) h

mutual
  default_is_record : (fs : Fields) → is_record fs (default_node fs) ≡ true
  default_is_record no_fields = refl
  default_is_record (field n r s fs) =
      let d : (fits_repetition r (count_instances (default_instances r (default_instance s))) ≡ true) × (all_instances (is_instance s) (default_instances r (default_instance s)) ≡ true) = default_instances_fit r s (default_instance s) (default_is_instance s) in
      slot_is_record n r s fs (default_instances r (default_instance s)) (default_node fs) d.0 d.1 (default_is_record fs)

  default_is_instance : (s : Shape) → is_instance s (default_instance s) ≡ true
  default_is_instance (leaf k) = default_is_of_kind k
  default_is_instance (group fs) = default_is_record fs

-- ---- the field at a place

abbrev FieldAt : Fields → ℕ → Repetition → List Step → Kind → Type 0
FieldAt fs i r p k = (s : Shape) × (shape_kind s p ≡ Some k)
    × ((xs : Instances) → fits_repetition r (count_instances xs) ≡ true → all_instances (is_instance s) xs ≡ true → (n : Node) × (is_record fs n ≡ true) × (instances_at i n ≡ xs))
    × ((n : Node) → is_record fs n ≡ true → (fits_repetition r (count_instances (instances_at i n)) ≡ true) × (all_instances (is_instance s) (instances_at i n) ≡ true))

first_field : (n : List ℕ) (r : Repetition) (s : Shape) (fs : Fields) (p : List Step) (k : Kind) → shape_kind s p ≡ Some k → FieldAt (field n r s fs) 0 r p k
first_field n r s fs p k h =
    (s, h, (λ xs f a. (slot xs (default_node fs), slot_is_record n r s fs xs (default_node fs) f a (default_is_record fs), refl)), have)
  where
    have : (m : Node) → is_record (field n r s fs) m ≡ true → (fits_repetition r (count_instances (instances_at 0 m)) ≡ true) × (all_instances (is_instance s) (instances_at 0 m) ≡ true)
    have no_slots v = absurd (true≢false (sym v))
    have (gap m) v = absurd (true≢false (sym v))
    have (slot xs m) v = let g : (fits_repetition r (count_instances xs) ≡ true) × (all_instances (is_instance s) xs ≡ true) × (is_record fs m ≡ true) = and₃_parts _ _ _ v in (g.0, g.1)

later_field : (n : List ℕ) (q : Repetition) (s : Shape) (fs : Fields) (i : ℕ) (r : Repetition) (p : List Step) (k : Kind) → FieldAt fs i r p k → FieldAt (field n q s fs) (suc i) r p k
later_field n q s fs i r p k h = (h.0, h.1, make, have)
  where
    make : (xs : Instances) → fits_repetition r (count_instances xs) ≡ true → all_instances (is_instance h.0) xs ≡ true → (m : Node) × (is_record (field n q s fs) m ≡ true) × (instances_at (suc i) m ≡ xs)
    make xs f a =
        let m : (m : Node) × (is_record fs m ≡ true) × (instances_at i m ≡ xs) = h.2 xs f a in
        let d : (fits_repetition q (count_instances (default_instances q (default_instance s))) ≡ true) × (all_instances (is_instance s) (default_instances q (default_instance s)) ≡ true) = default_instances_fit q s (default_instance s) (default_is_instance s) in
        (slot (default_instances q (default_instance s)) m.0, slot_is_record n q s fs (default_instances q (default_instance s)) m.0 d.0 d.1 m.1, m.2)

    have : (m : Node) → is_record (field n q s fs) m ≡ true → (fits_repetition r (count_instances (instances_at (suc i) m)) ≡ true) × (all_instances (is_instance h.0) (instances_at (suc i) m) ≡ true)
    have no_slots v = absurd (true≢false (sym v))
    have (gap m) v = absurd (true≢false (sym v))
    have (slot xs m) v = let g : (fits_repetition q (count_instances xs) ≡ true) × (all_instances (is_instance s) xs ≡ true) × (is_record fs m ≡ true) = and₃_parts _ _ _ v in h.3 m g.2

field_at : (fs : Fields) (i : ℕ) (r : Repetition) (p : List Step) (k : Kind) → leaf_kind fs (step i r ∷ p) ≡ Some k → FieldAt fs i r p k
field_at no_fields i r p k h = absurd (cc)
field_at (field n q s fs) zero r p k h =
    let g : (same_repetition r q ≡ true) × (shape_kind s p ≡ Some k) = kind_if_some (same_repetition r q) (shape_kind s p) k h in
    subst (λ (x : Repetition). FieldAt (field n q s fs) 0 x p k) (sym (same_repetition-true r q g.0)) (first_field n q s fs p k g.1)
field_at (field n q s fs) (suc i) r p k h = later_field n q s fs i r p k (field_at fs i r p k h)

-- ---- triplets of one leaf

abbrev AllFit : Kind → ℕ → ℕ → List Triplet → Type 0
AllFit k R D ts = list_all (fits_levels k R D) ts ≡ true

fit_append : (k : Kind) (R D : ℕ) (ts us : List Triplet) → AllFit k R D ts → AllFit k R D us → AllFit k R D (ts ++ us)
fit_append k R D [] us h g = g
fit_append k R D (t ∷ ts) us h g = let p : (fits_levels k R D t ≡ true) × AllFit k R D ts = and_parts _ _ h in and_from _ _ p.0 (fit_append k R D ts us p.1 g)

fit_parts : (k : Kind) (R D : ℕ) (t : Triplet) → fits_levels k R D t ≡ true → (t.repetition ≤ R) × (t.definition ≤ D) × (fits_value k (t.definition == D) t.value ≡ true)
fit_parts k R D t h = let p : (nat_le t.repetition R ≡ true) × (nat_le t.definition D ≡ true) × (fits_value k (t.definition == D) t.value ≡ true) = and₃_parts _ _ _ h in (leb-true _ _ p.0, leb-true _ _ p.1, p.2)

no_value : (k : Kind) (v : Option Value) → fits_value k false v ≡ true → v ≡ None
no_value k None h = refl
no_value k (Some v) h = absurd (true≢false (sym h))

some_value : (k : Kind) (v : Option Value) → fits_value k true v ≡ true → (w : Value) × (v ≡ Some w) × (is_of_kind k w ≡ true)
some_value k None h = absurd (true≢false (sym h))
some_value k (Some w) h = (w, refl, h)

-- a triplet below the greatest definition level is a NULL
is_null : (k : Kind) (R D : ℕ) (t : Triplet) (d : ℕ) → fits_levels k R D t ≡ true → t.definition ≡ d → d < D → triplet t.repetition d None ≡ t
is_null k R D t d h e l =
    let p : (t.repetition ≤ R) × (t.definition ≤ D) × (fits_value k (t.definition == D) t.value ≡ true) = fit_parts k R D t h in
    let q : (t.definition == D) ≡ false = ne_eqb t.definition D (omega (arith, e, l)) in
    let n : t.value ≡ None = no_value k t.value (sym (ap (λ b. fits_value k b t.value) q) ∙ p.2) in
    ap₂ (λ x v. triplet t.repetition x v) (sym e) (sym n)

-- one at it has a value of the kind
has_value : (k : Kind) (R D : ℕ) (t : Triplet) → fits_levels k R D t ≡ true → t.definition ≡ D → (w : Value) × (is_of_kind k w ≡ true) × (triplet t.repetition D (Some w) ≡ t)
has_value k R D t h e =
    let p : (t.repetition ≤ R) × (t.definition ≤ D) × (fits_value k (t.definition == D) t.value ≡ true) = fit_parts k R D t h in
    let q : (t.definition == D) ≡ true = eq-eqb t.definition D e in
    let w : (w : Value) × (t.value ≡ Some w) × (is_of_kind k w ≡ true) = some_value k t.value (sym (ap (λ b. fits_value k b t.value) q) ∙ p.2) in
    (w.0, w.2, ap₂ (λ x v. triplet t.repetition x v) (sym e) (sym w.1))

null_fits : (k : Kind) (R D r d : ℕ) → r ≤ R → d < D → fits_levels k R D (triplet r d None) ≡ true
null_fits k R D r d h g = rw (le-leb r R h, le-leb d D (omega (arith, g)), ne_eqb d D (omega (arith, g))) refl

value_fits : (k : Kind) (R D r : ℕ) (v : Value) → r ≤ R → is_of_kind k v ≡ true → fits_levels k R D (triplet r D (Some v)) ≡ true
value_fits k R D r v h g = rw (le-leb r R h, le-leb D D (omega arith), eq-eqb D D refl, g) refl

-- ---- a triplet behind another in an instance

abbrev Next : List Step → ℕ → ℕ → Triplet → Triplet → Type 0
Next p l d t u = (j : ℕ) × (u.repetition ≡ l + suc j) × (d + level_inside p j ≤ t.definition) × (d + level_inside p j ≤ u.definition)

abbrev Rest : List Step → ℕ → ℕ → Triplet → List Triplet → Type 0
Rest p l d t [] = Unit {0}
Rest p l d t (u ∷ us) = Next p l d t u × Rest p l d u us

-- the same, or the first triplet of another instance, which begins at its own level
abbrev Chain : List Step → ℕ → ℕ → Triplet → List Triplet → Type 0
Chain p l d t [] = Unit {0}
Chain p l d t (u ∷ us) = (((u.repetition ≡ l) × (d ≤ u.definition)) ⊎ Next p l d t u) × Chain p l d u us

rest_map : (p q : List Step) (l d m e : ℕ) → ((t u : Triplet) → Next p l d t u → Next q m e t u) → (t : Triplet) (us : List Triplet) → Rest p l d t us → Rest q m e t us
rest_map p q l d m e f t [] h = tt
rest_map p q l d m e f t (u ∷ us) h = (f t u h.0, rest_map p q l d m e f u us h.1)

-- in the instances of a repeated field
rest_to_chain : (i : ℕ) (p : List Step) (l d : ℕ) (t : Triplet) (us : List Triplet) → Rest (step i repeated ∷ p) l d t us → Chain p (l + 1) (d + 1) t us
rest_to_chain i p l d t [] h = tt
rest_to_chain i p l d t (u ∷ us) h = (next h.0, rest_to_chain i p l d u us h.1)
  where
    next : Next (step i repeated ∷ p) l d t u → ((u.repetition ≡ l + 1) × (d + 1 ≤ u.definition)) ⊎ Next p (l + 1) (d + 1) t u
    next (zero, e, a, b) = inl (omega (arith, e), omega (arith, b))
    next (suc j, e, a, b) = inr (j, omega (arith, e), omega (arith, a), omega (arith, b))

chain_to_rest : (i : ℕ) (p : List Step) (l d : ℕ) (t : Triplet) (us : List Triplet) → d + 1 ≤ t.definition → Chain p (l + 1) (d + 1) t us → Rest (step i repeated ∷ p) l d t us
chain_to_rest i p l d t [] g h = tt
chain_to_rest i p l d t (u ∷ us) g h = let n : Next (step i repeated ∷ p) l d t u × (d + 1 ≤ u.definition) = next h.0 in (n.0, chain_to_rest i p l d u us n.1 h.1)
  where
    next : ((u.repetition ≡ l + 1) × (d + 1 ≤ u.definition)) ⊎ Next p (l + 1) (d + 1) t u → Next (step i repeated ∷ p) l d t u × (d + 1 ≤ u.definition)
    next (inl (e, b)) = ((zero, omega (arith, e), omega (arith, g), omega (arith, b)), b)
    next (inr (j, e, a, b)) = ((suc j, omega (arith, e), omega (arith, a), omega (arith, b)), omega (arith, b))

-- ---- from triplets to instances

abbrev Built : List Step → Shape → ℕ → ℕ → Triplet → List Triplet → Type 0
Built p s l d t us = (x : Instance) × (is_instance s x ≡ true) × (instance_column p l d t.repetition x ≡ t ∷ us)

abbrev Make : Kind → ℕ → ℕ → List Step → Shape → ℕ → ℕ → Type 0
Make k R D p s l d = (t : Triplet) (us : List Triplet) → d ≤ t.definition → AllFit k R D (t ∷ us) → Rest p l d t us → Built p s l d t us

module _ (k : Kind) (R D : ℕ) (p : List Step) (s : Shape) (l d : ℕ) (make : Make k R D p s l d) where
  abbrev Cut : Triplet → List Triplet → Type 0
  Cut t us = (b : List Triplet) × (xs : Instances) × (all_instances (is_instance s) xs ≡ true) × Rest p l d t b × AllFit k R D b × (us ≡ b ++ each_later (instance_column p l d) l xs)

  cut_before : (t u : Triplet) (us : List Triplet) → fits_levels k R D u ≡ true → Cut u us → ((u.repetition ≡ l) × (d ≤ u.definition)) ⊎ Next p l d t u → Cut t (u ∷ us)
  cut_before t u us f q (inr g) = (u ∷ q.0, q.1, q.2, (g, q.3), and_from _ _ f q.4, ap (λ y. u ∷ y) q.5)
  cut_before t u us f q (inl g) =
      let x : Built p s l d u q.0 = make u q.0 g.1 (and_from _ _ f q.4) q.3 in
      let c : instance_column p l d l x.0 ≡ u ∷ q.0 = ap (λ r. instance_column p l d r x.0) (sym g.0) ∙ x.2 in
      ([], instance x.0 q.1, and_from _ _ x.1 q.2, tt, refl, ap (λ y. u ∷ y) q.5 ∙ ap (λ y. y ++ each_later (instance_column p l d) l q.1) (sym c))

  cut_all : (t : Triplet) (us : List Triplet) → AllFit k R D us → Chain p l d t us → Cut t us
  cut_all t [] f c = ([], no_instances, refl, tt, refl, refl)
  cut_all t (u ∷ us) f c = let g : (fits_levels k R D u ≡ true) × AllFit k R D us = and_parts _ _ f in cut_before t u us g.0 (cut_all u us g.1 c.1) c.0

  -- all instances of a field, the first begun as its triplet says
  instances_from : (t : Triplet) (us : List Triplet) → d ≤ t.definition → AllFit k R D (t ∷ us) → Chain p l d t us → (x : Instance) × (xs : Instances) × (is_instance s x ≡ true) × (all_instances (is_instance s) xs ≡ true) × (instance_column p l d t.repetition x ++ each_later (instance_column p l d) l xs ≡ t ∷ us)
  instances_from t us h f c =
      let g : (fits_levels k R D t ≡ true) × AllFit k R D us = and_parts _ _ f in
      let q : Cut t us = cut_all t us g.1 c in
      let x : Built p s l d t q.0 = make t q.0 h (and_from _ _ g.0 q.4) q.3 in
      (x.0, q.1, x.1, q.2, ap (λ y. y ++ each_later (instance_column p l d) l q.1) x.2 ∙ ap (λ y. t ∷ y) (sym q.5))

finish : (fs : Fields) (i : ℕ) (r : Repetition) (p : List Step) (k : Kind) (l d : ℕ) (t : Triplet) (us : List Triplet) (f : FieldAt fs i r p k) (xs : Instances) → fits_repetition r (count_instances xs) ≡ true → all_instances (is_instance f.0) xs ≡ true
    → spread (instance_column p (l + repetition_count r) (d + definition_count r)) (l + repetition_count r) d t.repetition xs ≡ t ∷ us → Built (step i r ∷ p) (group fs) l d t us
finish fs i r p k l d t us f xs g a e =
    let n : (n : Node) × (is_record fs n ≡ true) × (instances_at i n ≡ xs) = f.2 xs g a in
    (inner n.0, n.1, ap (λ ys. spread (instance_column p (l + repetition_count r) (d + definition_count r)) (l + repetition_count r) d t.repetition ys) n.2 ∙ e)

-- nothing follows a triplet that doesn't reach into an instance of the field
nothing_follows : (i : ℕ) (r : Repetition) (p : List Step) (l d : ℕ) (t : Triplet) (us : List Triplet) → t.definition < d + definition_count r → Rest (step i r ∷ p) l d t us → us ≡ []
nothing_follows i r p l d t [] h g = refl
nothing_follows i r p l d t (u ∷ us) h g = absurd (omega (arith, h, g.0.2))

absent : (fs : Fields) (i : ℕ) (r : Repetition) (p : List Step) (k : Kind) (R D l d : ℕ) (t : Triplet) (us : List Triplet) (f : FieldAt fs i r p k) → fits_repetition r 0 ≡ true → 1 ≤ definition_count r → D ≡ d + (definition_count r + max_definition p)
    → d ≤ t.definition → t.definition < d + 1 → AllFit k R D (t ∷ us) → us ≡ [] → Built (step i r ∷ p) (group fs) l d t us
absent fs i r p k R D l d t us f z c e h g a n =
    let b : (fits_levels k R D t ≡ true) × AllFit k R D us = and_parts _ _ a in
    finish fs i r p k l d t us f no_instances z refl (ap₂ (λ x xs. x ∷ xs) (is_null k R D t d b.0 (omega (arith, h, g)) (omega (arith, c, e))) (sym n))

abbrev MakeAny : Kind → ℕ → ℕ → List Step → Type 0
MakeAny k R D p = (s : Shape) → shape_kind s p ≡ Some k → (l d : ℕ) → R ≡ l + max_repetition p → D ≡ d + max_definition p → Make k R D p s l d

one_instance : (fs : Fields) (i : ℕ) (r : Repetition) (p : List Step) (k : Kind) (l d : ℕ) (t : Triplet) (us : List Triplet) (f : FieldAt fs i r p k) → fits_repetition r 1 ≡ true → Built p f.0 (l + repetition_count r) (d + definition_count r) t us → Built (step i r ∷ p) (group fs) l d t us
one_instance fs i r p k l d t us f g x = finish fs i r p k l d t us f (single x.0) g (and_from _ _ x.1 refl) (append-nil (instance_column p (l + repetition_count r) (d + definition_count r) t.repetition x.0) ∙ x.2)

build_field : (k : Kind) (R D : ℕ) (p : List Step) → MakeAny k R D p → (fs : Fields) (i : ℕ) (r : Repetition) → leaf_kind fs (step i r ∷ p) ≡ Some k → (l d : ℕ) → R ≡ l + (repetition_count r + max_repetition p) → D ≡ d + (definition_count r + max_definition p) → Make k R D (step i r ∷ p) (group fs) l d
build_field k R D p make fs i required h l d eR eD t us g a c =
    let f : FieldAt fs i required p k = field_at fs i required p k h in
    one_instance fs i required p k l d t us f refl (make f.0 f.1 (l + 0) (d + 0) (omega (arith, eR)) (omega (arith, eD)) t us (omega (arith, g)) a
    (rest_map (step i required ∷ p) p l d (l + 0) (d + 0) (λ t u (n : Next (step i required ∷ p) l d t u). (n.0, omega (arith, n.1), omega (arith, n.2), omega (arith, n.3))) t us c))
build_field k R D p make fs i optional h l d eR eD t us g a c =
    let f : FieldAt fs i optional p k = field_at fs i optional p k h in
    by_level f (cases_lt t.definition (d + 1))
  where
    by_level : FieldAt fs i optional p k → (t.definition < d + 1) ⊎ (d + 1 ≤ t.definition) → Built (step i optional ∷ p) (group fs) l d t us
    by_level f (inl m) = absent fs i optional p k R D l d t us f refl (omega arith) eD g m a (nothing_follows i optional p l d t us m c)
    by_level f (inr m) = one_instance fs i optional p k l d t us f refl (make f.0 f.1 (l + 0) (d + 1) (omega (arith, eR)) (omega (arith, eD)) t us m a
        (rest_map (step i optional ∷ p) p l d (l + 0) (d + 1) (λ t u (n : Next (step i optional ∷ p) l d t u). (n.0, omega (arith, n.1), omega (arith, n.2), omega (arith, n.3))) t us c))
build_field k R D p make fs i repeated h l d eR eD t us g a c =
    let f : FieldAt fs i repeated p k = field_at fs i repeated p k h in
    by_level f (cases_lt t.definition (d + 1))
  where
    by_level : FieldAt fs i repeated p k → (t.definition < d + 1) ⊎ (d + 1 ≤ t.definition) → Built (step i repeated ∷ p) (group fs) l d t us
    by_level f (inl m) = absent fs i repeated p k R D l d t us f refl (omega arith) eD g m a (nothing_follows i repeated p l d t us m c)
    by_level f (inr m) =
        let x : (x : Instance) × (xs : Instances) × (is_instance f.0 x ≡ true) × (all_instances (is_instance f.0) xs ≡ true) × (instance_column p (l + 1) (d + 1) t.repetition x ++ each_later (instance_column p (l + 1) (d + 1)) (l + 1) xs ≡ t ∷ us) =
        instances_from k R D p f.0 (l + 1) (d + 1) (make f.0 f.1 (l + 1) (d + 1) (omega (arith, eR)) (omega (arith, eD))) t us m a (rest_to_chain i p l d t us c) in
        finish fs i repeated p k l d t us f (instance x.0 x.1) refl (and_from _ _ x.2 x.3) x.4

at_leaf : (j k : Kind) (R D l d : ℕ) → Some j ≡ Some k → R ≡ l + 0 → D ≡ d + 0 → Make k R D [] (leaf j) l d
at_leaf j k R D l d h eR eD t (u ∷ us) g a c =
    let b : (fits_levels k R D t ≡ true) × AllFit k R D (u ∷ us) = and_parts _ _ a in
    let f : (fits_levels k R D u ≡ true) × AllFit k R D us = and_parts _ _ b.1 in
    absurd (omega (arith, eR, c.0.1, (fit_parts k R D u f.0).0))
at_leaf j k R D l d h eR eD t [] g a c =
    let b : (fits_levels k R D t ≡ true) × (true ≡ true) = and_parts _ _ a in
    let w : (w : Value) × (is_of_kind k w ≡ true) × (triplet t.repetition D (Some w) ≡ t) = has_value k R D t b.0 (omega (arith, eD, g, (fit_parts k R D t b.0).1)) in
    let e : d ≡ D = omega (arith, eD) in
    let i : k ≡ j = cc in
    (atom w.0, subst (λ (x : Kind). is_of_kind x w.0 ≡ true) i w.1, ap (λ x. triplet t.repetition x (Some w.0) ∷ []) e ∙ ap (λ x. x ∷ []) w.2)

build : (k : Kind) (R D : ℕ) (p : List Step) → MakeAny k R D p
build k R D [] (leaf j) h l d eR eD = at_leaf j k R D l d h eR eD
build k R D [] (group no_fields) h l d eR eD = absurd (cc)
build k R D [] (group (field n r s fs)) h l d eR eD = absurd (cc)
build k R D (t ∷ p) (leaf j) h l d eR eD = absurd (cc)
build k R D (t ∷ p) (group fs) h l d eR eD = build_field k R D p (build k R D p) fs t.place t.repetition h l d eR eD

-- ---- from instances to triplets

-- a list of triplets as an instance's column is: the first begins at this repetition level and reaches its definition level, the others follow
abbrev Shown : Kind → ℕ → ℕ → List Step → ℕ → ℕ → ℕ → List Triplet → Type 0
Shown k R D p l d r ts = (t : Triplet) × (us : List Triplet) × (ts ≡ t ∷ us) × (t.repetition ≡ r) × (d ≤ t.definition) × AllFit k R D (t ∷ us) × Rest p l d t us

abbrev Show : Kind → ℕ → ℕ → List Step → Shape → ℕ → ℕ → Type 0
Show k R D p s l d = (x : Instance) → is_instance s x ≡ true → (r : ℕ) → r ≤ R → Shown k R D p l d r (instance_column p l d r x)

chain_append : (p : List Step) (l d : ℕ) (t : Triplet) (us vs : List Triplet) → Rest p l d t us → ((u : Triplet) → Chain p l d u vs) → Chain p l d t (us ++ vs)
chain_append p l d t [] vs h c = c t
chain_append p l d t (u ∷ us) vs h c = (inr h.0, chain_append p l d u us vs h.1 c)

module _ (k : Kind) (R D : ℕ) (p : List Step) (s : Shape) (l d : ℕ) (within : l ≤ R) (show : Show k R D p s l d) where
  abbrev Later : List Triplet → Type 0
  Later ts = ((t : Triplet) → Chain p l d t ts) × AllFit k R D ts

  later_shown : (ts vs : List Triplet) → Shown k R D p l d l ts → Later vs → Later (ts ++ vs)
  later_shown ts vs h g = subst Later (ap (λ y. y ++ vs) (sym h.2)) (
    (λ t. (inl (h.3, h.4), chain_append p l d h.0 h.1 vs h.6 g.0)),
    fit_append k R D (h.0 ∷ h.1) vs h.5 g.1,
  )

  all_later : (xs : Instances) → all_instances (is_instance s) xs ≡ true → Later (each_later (instance_column p l d) l xs)
  all_later no_instances h = ((λ t. tt), refl)
  all_later (instance x xs) h =
      let g : (is_instance s x ≡ true) × (all_instances (is_instance s) xs ≡ true) = and_parts _ _ h in
      later_shown (instance_column p l d l x) (each_later (instance_column p l d) l xs) (show x g.0 l within) (all_later xs g.1)

-- an absent field
shown_absent : (k : Kind) (R D : ℕ) (i : ℕ) (q : Repetition) (p : List Step) (l d r : ℕ) → 1 ≤ definition_count q → D ≡ d + (definition_count q + max_definition p) → r ≤ R → Shown k R D (step i q ∷ p) l d r (triplet r d None ∷ [])
shown_absent k R D i q p l d r c e h = (triplet r d None, [], refl, refl, omega arith, and_from _ _ (null_fits k R D r d h (omega (arith, c, e))) refl, tt)

-- the one instance of a field that isn't repeated
shown_one : (k : Kind) (R D : ℕ) (i : ℕ) (q : Repetition) (p : List Step) (l d r : ℕ) (ts : List Triplet) → ((t u : Triplet) → Next p (l + repetition_count q) (d + definition_count q) t u → Next (step i q ∷ p) l d t u)
    → Shown k R D p (l + repetition_count q) (d + definition_count q) r ts → Shown k R D (step i q ∷ p) l d r (ts ++ [])
shown_one k R D i q p l d r ts f h = (h.0, h.1, append-nil ts ∙ h.2, h.3, omega (arith, h.4), h.5, rest_map p (step i q ∷ p) (l + repetition_count q) (d + definition_count q) l d f h.0 h.1 h.6)

abbrev ShowAny : Kind → ℕ → ℕ → List Step → Type 0
ShowAny k R D p = (s : Shape) → shape_kind s p ≡ Some k → (l d : ℕ) → R ≡ l + max_repetition p → D ≡ d + max_definition p → Show k R D p s l d

show_spread : (k : Kind) (R D : ℕ) (p : List Step) → ShowAny k R D p → (i : ℕ) (q : Repetition) (s : Shape) → shape_kind s p ≡ Some k → (l d r : ℕ) → R ≡ l + (repetition_count q + max_repetition p) → D ≡ d + (definition_count q + max_definition p) → r ≤ R
    → (xs : Instances) → fits_repetition q (count_instances xs) ≡ true → all_instances (is_instance s) xs ≡ true
    → Shown k R D (step i q ∷ p) l d r (spread (instance_column p (l + repetition_count q) (d + definition_count q)) (l + repetition_count q) d r xs)
show_spread k R D p show i required s h l d r eR eD g no_instances f a = absurd (true≢false (sym f))
show_spread k R D p show i optional s h l d r eR eD g no_instances f a = shown_absent k R D i optional p l d r (omega arith) eD g
show_spread k R D p show i repeated s h l d r eR eD g no_instances f a = shown_absent k R D i repeated p l d r (omega arith) eD g
show_spread k R D p show i required s h l d r eR eD g (instance x (instance y ys)) f a = absurd (omega (arith, eqb-true _ _ f))
show_spread k R D p show i optional s h l d r eR eD g (instance x (instance y ys)) f a = absurd (omega (arith, leb-true _ _ f))
show_spread k R D p show i required s h l d r eR eD g (instance x no_instances) f a =
    let b : (is_instance s x ≡ true) × (true ≡ true) = and_parts _ _ a in
    shown_one k R D i required p l d r (instance_column p (l + 0) (d + 0) r x) (λ t u (n : Next p (l + 0) (d + 0) t u). (n.0, omega (arith, n.1), omega (arith, n.2), omega (arith, n.3)))
    (show s h (l + 0) (d + 0) (omega (arith, eR)) (omega (arith, eD)) x b.0 r g)
show_spread k R D p show i optional s h l d r eR eD g (instance x no_instances) f a =
    let b : (is_instance s x ≡ true) × (true ≡ true) = and_parts _ _ a in
    shown_one k R D i optional p l d r (instance_column p (l + 0) (d + 1) r x) (λ t u (n : Next p (l + 0) (d + 1) t u). (n.0, omega (arith, n.1), omega (arith, n.2), omega (arith, n.3)))
    (show s h (l + 0) (d + 1) (omega (arith, eR)) (omega (arith, eD)) x b.0 r g)
show_spread k R D p show i repeated s h l d r eR eD g (instance x xs) f a =
    let b : (is_instance s x ≡ true) × (all_instances (is_instance s) xs ≡ true) = and_parts _ _ a in
    let w : Show k R D p s (l + 1) (d + 1) = show s h (l + 1) (d + 1) (omega (arith, eR)) (omega (arith, eD)) in
    let c : ((t : Triplet) → Chain p (l + 1) (d + 1) t (each_later (instance_column p (l + 1) (d + 1)) (l + 1) xs)) × AllFit k R D (each_later (instance_column p (l + 1) (d + 1)) (l + 1) xs) = all_later k R D p s (l + 1) (d + 1) (omega (arith, eR)) w xs b.1 in
    first_of (w x b.0 r g) c
  where
    first_of : Shown k R D p (l + 1) (d + 1) r (instance_column p (l + 1) (d + 1) r x)
        → ((t : Triplet) → Chain p (l + 1) (d + 1) t (each_later (instance_column p (l + 1) (d + 1)) (l + 1) xs)) × AllFit k R D (each_later (instance_column p (l + 1) (d + 1)) (l + 1) xs)
        → Shown k R D (step i repeated ∷ p) l d r (instance_column p (l + 1) (d + 1) r x ++ each_later (instance_column p (l + 1) (d + 1)) (l + 1) xs)
    first_of v c = (
      v.0,
      v.1 ++ each_later (instance_column p (l + 1) (d + 1)) (l + 1) xs,
      ap (λ y. y ++ each_later (instance_column p (l + 1) (d + 1)) (l + 1) xs) v.2,
      v.3,
      omega (arith, v.4),
      fit_append k R D (v.0 ∷ v.1) (each_later (instance_column p (l + 1) (d + 1)) (l + 1) xs) v.5 c.1,
      chain_to_rest i p l d v.0 (v.1 ++ each_later (instance_column p (l + 1) (d + 1)) (l + 1) xs) v.4 (chain_append p (l + 1) (d + 1) v.0 v.1 (each_later (instance_column p (l + 1) (d + 1)) (l + 1) xs) v.6 c.0),
    )

show_leaf : (j k : Kind) (R D l d : ℕ) → Some j ≡ Some k → D ≡ d + 0 → Show k R D [] (leaf j) l d
show_leaf j k R D l d h eD (inner n) v r g = absurd (true≢false (sym v))
show_leaf j k R D l d h eD (atom w) v r g =
    let e : d ≡ D = omega (arith, eD) in
    let i : j ≡ k = cc in
    (triplet r d (Some w), [], refl, refl, omega arith, and_from _ _ (subst (λ (x : ℕ). fits_levels k R D (triplet r x (Some w)) ≡ true) (sym e) (value_fits k R D r w g (subst (λ (x : Kind). is_of_kind x w ≡ true) i v))) refl, tt)

show_any : (k : Kind) (R D : ℕ) (p : List Step) → ShowAny k R D p
show_any k R D [] (leaf j) h l d eR eD x v r g = show_leaf j k R D l d h eD x v r g
show_any k R D [] (group no_fields) h l d eR eD x v r g = absurd (cc)
show_any k R D [] (group (field n q s fs)) h l d eR eD x v r g = absurd (cc)
show_any k R D (t ∷ p) (leaf j) h l d eR eD x v r g = absurd (cc)
show_any k R D (t ∷ p) (group fs) h l d eR eD (atom w) v r g = absurd (true≢false (sym v))
show_any k R D (t ∷ p) (group fs) h l d eR eD (inner n) v r g =
    let f : FieldAt fs t.place t.repetition p k = field_at fs t.place t.repetition p k h in
    let m : (fits_repetition t.repetition (count_instances (instances_at t.place n)) ≡ true) × (all_instances (is_instance f.0) (instances_at t.place n) ≡ true) = f.3 n v in
    show_spread k R D p (show_any k R D p) t.place t.repetition f.0 f.1 l d r eR eD g (instances_at t.place n) m.0 m.1

-- ---- records as the instances of one field

abbrev as_instances : List Node → Instances
as_instances [] = no_instances
as_instances (n ∷ R) = instance (inner n) (as_instances R)

column_of_all : (p : List Step) (R : List Node) → column p R ≡ each_later (instance_column p 0 0) 0 (as_instances R)
column_of_all p [] = refl
column_of_all p (n ∷ R) = ap (λ y. record_column p n ++ y) (column_of_all p R)

all_records : (fs : Fields) (R : List Node) → list_all (is_record fs) R ≡ true → all_instances (is_instance (group fs)) (as_instances R) ≡ true
all_records fs [] h = refl
all_records fs (n ∷ R) h = let g : (is_record fs n ≡ true) × (list_all (is_record fs) R ≡ true) = and_parts _ _ h in and_from _ _ g.0 (all_records fs R g.1)

as_records : (fs : Fields) (xs : Instances) → all_instances (is_instance (group fs)) xs ≡ true → (R : List Node) × (list_all (is_record fs) R ≡ true) × (as_instances R ≡ xs)
as_records fs no_instances h = ([], refl, refl)
as_records fs (instance (atom v) xs) h = absurd (true≢false (sym h))
as_records fs (instance (inner n) xs) h =
    let g : (is_record fs n ≡ true) × (all_instances (is_instance (group fs)) xs ≡ true) = and_parts _ _ h in
    let q : (R : List Node) × (list_all (is_record fs) R ≡ true) × (as_instances R ≡ xs) = as_records fs xs g.1 in
    (n ∷ q.0, and_from _ _ g.0 q.1, ap (instance (inner n)) q.2)

-- ---- the test

follow_step : (p : List Step) (t u : Triplet) (r : ℕ) → u.repetition ≡ r → may_follow p t.definition u.definition r ≡ true → ((u.repetition ≡ 0) × (0 ≤ u.definition)) ⊎ Next p 0 0 t u
follow_step p t u zero e h = inl (e, omega arith)
follow_step p t u (suc j) e h =
    let g : (nat_le (level_inside p j) t.definition ≡ true) × (nat_le (level_inside p j) u.definition ≡ true) = and_parts _ _ h in
    inr (j, omega (arith, e), omega (arith, leb-true _ _ g.0), omega (arith, leb-true _ _ g.1))

follow_chain : (p : List Step) (t : Triplet) (us : List Triplet) → all_follow p t us ≡ true → Chain p 0 0 t us
follow_chain p t [] h = tt
follow_chain p t (u ∷ us) h = let g : (may_follow p t.definition u.definition u.repetition ≡ true) × (all_follow p u us ≡ true) = and_parts _ _ h in (follow_step p t u u.repetition refl g.0, follow_chain p u us g.1)

step_follows : (p : List Step) (t u : Triplet) → ((u.repetition ≡ 0) × (0 ≤ u.definition)) ⊎ Next p 0 0 t u → may_follow p t.definition u.definition u.repetition ≡ true
step_follows p t u (inl h) = ap (may_follow p t.definition u.definition) h.0
step_follows p t u (inr (j, e, a, b)) =
    let q : u.repetition ≡ suc j = omega (arith, e) in
    ap (may_follow p t.definition u.definition) q ∙ and_from _ _ (le-leb (level_inside p j) t.definition (omega (arith, a))) (le-leb (level_inside p j) u.definition (omega (arith, b)))

chain_follows : (p : List Step) (t : Triplet) (us : List Triplet) → Chain p 0 0 t us → all_follow p t us ≡ true
chain_follows p t [] h = refl
chain_follows p t (u ∷ us) h = and_from _ _ (step_follows p t u h.0) (chain_follows p u us h.1)

through_kind_is : (i : ℕ) (kind : Option Kind) (kinds : ℕ → Option Kind) (first : Bool) (later : ℕ → Bool) (k : Kind) → (kind ≡ Some k → first ≡ true) → ((j : ℕ) → kinds j ≡ Some k → later j ≡ true) → through_kind i kind kinds ≡ Some k → through i first later ≡ true
through_kind_is zero kind kinds first later k f g h = f h
through_kind_is (suc i) kind kinds first later k f g h = g i h

mutual
  pub kind_is_path : (fs : Fields) (p : List Step) (k : Kind) → leaf_kind fs p ≡ Some k → is_leaf_path fs p ≡ true
  kind_is_path no_fields p k h = absurd (cc)
  kind_is_path (field n r s fs) [] k h = absurd (cc)
  kind_is_path (field n r s fs) (t ∷ p) k h =
      through_kind_is t.place (kind_if (same_repetition t.repetition r) (shape_kind s p)) (λ i. leaf_kind fs (step i t.repetition ∷ p)) (same_repetition t.repetition r && is_shape_path s p) (λ i. is_leaf_path fs (step i t.repetition ∷ p)) k
      (λ e. let g : (same_repetition t.repetition r ≡ true) × (shape_kind s p ≡ Some k) = kind_if_some (same_repetition t.repetition r) (shape_kind s p) k e in and_from _ _ g.0 (shape_is_path s p k g.1))
      (λ j e. kind_is_path fs (step j t.repetition ∷ p) k e)
      h

  pub shape_is_path : (s : Shape) (p : List Step) (k : Kind) → shape_kind s p ≡ Some k → is_shape_path s p ≡ true
  shape_is_path (leaf j) [] k h = refl
  shape_is_path (leaf j) (t ∷ p) k h = absurd (cc)
  shape_is_path (group fs) p k h = kind_is_path fs p k h

-- no triplets in no rows
no_triplets : (fs : Fields) (l : Leaf) (rows : ℕ) → is_column l rows [] ≡ true → HaveColumn fs l rows []
no_triplets fs l rows h = ([], refl, eqb-true 0 rows h, refl)

recognized : (fs : Fields) (l : Leaf) (rows : ℕ) (ts : List Triplet) → leaf_kind fs l.path ≡ Some l.kind → is_column l rows ts ≡ true → HaveColumn fs l rows ts
recognized fs l rows [] h v = no_triplets fs l rows v
recognized fs l rows (t ∷ us) h v =
    let a : AllFit l.kind (max_repetition l.path) (max_definition l.path) (t ∷ us) × (is_in_order l.path (t ∷ us) ≡ true) × ((starts (t ∷ us) == rows) ≡ true) = and₃_parts _ _ _ v in
    let b : ((t.repetition == 0) ≡ true) × (all_follow l.path t us ≡ true) = and_parts _ _ a.1 in
    let x : (x : Instance) × (xs : Instances) × (is_instance (group fs) x ≡ true) × (all_instances (is_instance (group fs)) xs ≡ true) × (instance_column l.path 0 0 t.repetition x ++ each_later (instance_column l.path 0 0) 0 xs ≡ t ∷ us) =
    instances_from l.kind (max_repetition l.path) (max_definition l.path) l.path (group fs) 0 0 (build l.kind (max_repetition l.path) (max_definition l.path) l.path (group fs) h 0 0 (omega arith) (omega arith)) t us (omega arith) a.0 (follow_chain l.path t us b.1) in
    let q : (R : List Node) × (list_all (is_record fs) R ≡ true) × (as_instances R ≡ instance x.0 x.1) = as_records fs (instance x.0 x.1) (and_from _ _ x.2 x.3) in
    let z : t.repetition ≡ 0 = eqb-true _ _ b.0 in
    let c : column l.path q.0 ≡ t ∷ us = column_of_all l.path q.0 ∙ ap (each_later (instance_column l.path 0 0) 0) q.2 ∙ ap (λ r. instance_column l.path 0 0 r x.0 ++ each_later (instance_column l.path 0 0) 0 x.1) (sym z) ∙ x.4 in
    (q.0, q.1, sym (column_rows fs l.path q.0 (kind_is_path fs l.path l.kind h) q.1).0 ∙ ap starts c ∙ eqb-true _ _ a.2, c)

in_order : (p : List Step) (ts : List Triplet) → begins_record ts ≡ true → ((t : Triplet) → Chain p 0 0 t ts) → is_in_order p ts ≡ true
in_order p [] h c = refl
in_order p (t ∷ us) h c = and_from _ _ h (chain_follows p t us (c t).1)

passes : (fs : Fields) (l : Leaf) (rows : ℕ) (ts : List Triplet) → leaf_kind fs l.path ≡ Some l.kind → HaveColumn fs l rows ts → is_column l rows ts ≡ true
passes fs l rows ts h v =
    let c : ((t : Triplet) → Chain l.path 0 0 t (each_later (instance_column l.path 0 0) 0 (as_instances v.0))) × AllFit l.kind (max_repetition l.path) (max_definition l.path) (each_later (instance_column l.path 0 0) 0 (as_instances v.0)) =
    all_later l.kind (max_repetition l.path) (max_definition l.path) l.path (group fs) 0 0 (omega arith) (show_any l.kind (max_repetition l.path) (max_definition l.path) l.path (group fs) h 0 0 (omega arith) (omega arith)) (as_instances v.0) (all_records fs v.0 v.1) in
    let e : each_later (instance_column l.path 0 0) 0 (as_instances v.0) ≡ ts = sym (column_of_all l.path v.0) ∙ v.3 in
    let s : (starts (column l.path v.0) ≡ length v.0) × (begins_record (column l.path v.0) ≡ true) = column_rows fs l.path v.0 (kind_is_path fs l.path l.kind h) v.1 in
    and_from _ _ (and_from _ _ (subst (AllFit l.kind (max_repetition l.path) (max_definition l.path)) e c.1)
    (in_order l.path ts (ap begins_record (sym v.3) ∙ s.1) (subst (λ (us : List Triplet). (t : Triplet) → Chain l.path 0 0 t us) e c.0)))
    (eq-eqb _ _ (ap starts (sym v.3) ∙ s.0 ∙ v.2))

-- triplets that pass the test of a leaf are those of records, and the column of records passes it
pub columns_recognized : ColumnsAreRecognized
columns_recognized fs i l rows ts h =
    let k : leaf_kind fs l.path ≡ Some l.kind = kind_of_leaf fs i l h in
    (recognized fs l rows ts k, passes fs l rows ts k)

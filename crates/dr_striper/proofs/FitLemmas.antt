-- What a record of a schema gives the schema's leaves, they take.
use Rattle.std.specs.Prelude.{◌≡◌, ◌≢◌, ◌<◌, ℕ, zero, suc, ◌+◌, List, [], ◌∷◌, Bool, true, false, ◌&&◌, ◌==◌, Some, None}
use Rattle.std.proofs.Common.{refl, sym, ap, ap₂, ◌∙◌, arith, subst, true≢false}
use Rattle.std.specs.List.{list_all}
use Rattle.std.proofs.lemmas.Bool.{and_parts}
use Rattle.std.proofs.lemmas.Bool.Decides.{nat_tests}
use Rattle.std.proofs.lemmas.List.Folds.{list_all-append}
use Rattle.dr_meaning.specs.Schema.{Repetition, required, optional, repeated, Kind, bool_kind, int32_kind, int64_kind, text_kind, Fields, no_fields, field, Shape, leaf, group, repetition_count, definition_count, same_kind}
use Rattle.dr_meaning.specs.Path.{Step, Leaf, same_repetition, through, max_definition}
use Rattle.dr_meaning.specs.Record.{Value, bool_value, int_value, text_value, Node, no_slots, slot, gap, Instances, no_instances, instance, Instance, atom, inner, is_of_kind, is_record, is_instance, all_instances, count_instances, fits_repetition}
use Rattle.dr_meaning.specs.Column.{Triplet, triplet, spread, each_later, instance_column}
use Rattle.dr_meaning.proofs.ProjectionLemmas.{step}
use Rattle.dr_meaning.proofs.Blocks.{and₃_parts, same_repetition-true}
use Rattle.dr_levels.specs.Views.{form}
use Rattle.dr_levels.specs.Columns.{is_held, has_value, takes}
use Rattle.dr_striper.specs.Leaves.{is_leaf_of, is_shape_leaf, is_leaf, has_fields, has_shape}
use Rattle.dr_striper.specs.Stripers.{fits_leaf}

-- ---- one triplet

same_number : (d g : ℕ) → d ≡ g → (d == g) ≡ true
same_number d g e = grind (arith, nat_tests)

less_number : (d g : ℕ) → d < g → (d == g) ≡ false
less_number d g e = grind (arith, nat_tests)

kind_of_same : (j k : Kind) (v : Value) → same_kind j k ≡ true → is_held j v ≡ true → is_held k v ≡ true
kind_of_same bool_kind bool_kind v h e = e
kind_of_same int32_kind int32_kind v h e = e
kind_of_same int64_kind int64_kind v h e = e
kind_of_same text_kind text_kind v h e = e
kind_of_same j k v h e = absurd (true≢false (sym h))

value_taken : (k : Kind) (g q d : ℕ) (v : Value) → d ≡ g → is_held k v ≡ true → takes (form k g) (triplet q d (Some v)) ≡ true
value_taken k g q d v e h = ap (λ b. has_value k b (Some v)) (same_number d g e) ∙ h

null_taken : (k : Kind) (g q d : ℕ) → d < g → takes (form k g) (triplet q d None) ≡ true
null_taken k g q d h = ap (λ b. has_value k b None) (less_number d g h)

-- a field without instances may be absent
may_be_absent : (r : Repetition) → fits_repetition r 0 ≡ true → definition_count r ≡ 1
may_be_absent required h = absurd (true≢false (sym h))
may_be_absent optional h = refl
may_be_absent repeated h = refl

-- ---- the instances of a field

later_fit : (G : Triplet → Bool) (f : ℕ → Instance → List Triplet) (ok : Instance → Bool) (later : ℕ) → ((q : ℕ) (x : Instance) → ok x ≡ true → list_all G (f q x) ≡ true) → (xs : Instances) → all_instances ok xs ≡ true → list_all G (each_later f later xs) ≡ true
later_fit G f ok later g no_instances a = refl
later_fit G f ok later g (instance x xs) a =
    list_all-append G (f later x) (each_later f later xs) ∙ ap₂ (λ b c. b && c) (g later x (and_parts _ _ a).0) (later_fit G f ok later g xs (and_parts _ _ a).1)

spread_fit : (G : Triplet → Bool) (f : ℕ → Instance → List Triplet) (ok : Instance → Bool) (later d q : ℕ) → ((o : ℕ) (x : Instance) → ok x ≡ true → list_all G (f o x) ≡ true) → (xs : Instances)
    → (count_instances xs ≡ 0 → G (triplet q d None) ≡ true) → all_instances ok xs ≡ true → list_all G (spread f later d q xs) ≡ true
spread_fit G f ok later d q g no_instances e a = ap (λ b. b && true) (e refl)
spread_fit G f ok later d q g (instance x xs) e a =
    list_all-append G (f q x) (each_later f later xs) ∙ ap₂ (λ b c. b && c) (g q x (and_parts _ _ a).0) (later_fit G f ok later g xs (and_parts _ _ a).1)

-- ---- records

-- a test through a place, by the place
through_cases : (i : ℕ) (first : Bool) (later : ℕ → Bool) (P : ℕ → Type 0) → (first ≡ true → P zero) → ((j : ℕ) → later j ≡ true → P (suc j)) → through i first later ≡ true → P i
through_cases zero first later P f g h = f h
through_cases (suc i) first later P f g h = g i h

mutual
  fields_fit : (fs : Fields) (k : Kind) (p : List Step) (n : Node) (l d q : ℕ) → is_leaf_of fs k p ≡ true → has_fields fs n ≡ true → list_all (takes (form k (d + max_definition p))) (instance_column p l d q (inner n)) ≡ true
  fields_fit no_fields k p n l d q h v = absurd (true≢false (sym h))
  fields_fit (field m r s fs) k [] n l d q h v = absurd (true≢false (sym h))
  fields_fit (field m r s fs) k (t ∷ p) no_slots l d q h v = absurd (true≢false (sym v))
  fields_fit (field m r s fs) k (t ∷ p) (gap n) l d q h v = absurd (true≢false (sym v))
  fields_fit (field m r s fs) k (t ∷ p) (slot xs n) l d q h v =
      let w : (fits_repetition r (count_instances xs) ≡ true) × (all_instances (has_shape s) xs ≡ true) × (has_fields fs n ≡ true) = and₃_parts _ _ _ v in
      let o = t.repetition in
      let g = d + (definition_count o + max_definition p) in
      through_cases t.place (same_repetition o r && is_shape_leaf s k p) (λ (i : ℕ). is_leaf_of fs k (step i o ∷ p)) (λ (i : ℕ). list_all (takes (form k g)) (instance_column (step i o ∷ p) l d q (inner (slot xs n))) ≡ true)
      (λ (e : (same_repetition o r && is_shape_leaf s k p) ≡ true).
      let b : (same_repetition o r ≡ true) × (is_shape_leaf s k p ≡ true) = and_parts _ _ e in
      let m : d + definition_count o + max_definition p ≡ g = omega arith in
      spread_fit (takes (form k g)) (instance_column p (l + repetition_count o) (d + definition_count o)) (has_shape s) (l + repetition_count o) d q
      (λ (u : ℕ) (x : Instance) (y : has_shape s x ≡ true). subst (λ (c : ℕ). list_all (takes (form k c)) (instance_column p (l + repetition_count o) (d + definition_count o) u x) ≡ true) m (shape_fit s k p x (l + repetition_count o) (d + definition_count o) u b.1 y))
      xs
      (λ (z : count_instances xs ≡ 0).
      let one : definition_count o ≡ 1 = may_be_absent o (subst (λ (c : ℕ). fits_repetition o c ≡ true) z (subst (λ (c : Repetition). fits_repetition c (count_instances xs) ≡ true) (sym (same_repetition-true o r b.0)) w.0)) in
      null_taken k g q d (omega (arith, one)))
      w.1)
      (λ (j : ℕ) (e : is_leaf_of fs k (step j o ∷ p) ≡ true). fields_fit fs k (step j o ∷ p) n l d q e w.2)
      h

  shape_fit : (s : Shape) (k : Kind) (p : List Step) (x : Instance) (l d q : ℕ) → is_shape_leaf s k p ≡ true → has_shape s x ≡ true → list_all (takes (form k (d + max_definition p))) (instance_column p l d q x) ≡ true
  shape_fit (leaf j) k [] (atom v) l d q h e =
      let z : d ≡ d + 0 = omega arith in
      ap (λ b. b && true) (value_taken k (d + 0) q d v z (kind_of_same j k v (and_parts _ _ h).0 e))
  shape_fit (leaf j) k [] (inner n) l d q h e = absurd (true≢false (sym e))
  shape_fit (leaf j) k (t ∷ p) x l d q h e = absurd (true≢false (sym (and_parts _ _ h).1))
  shape_fit (group fs) k p (atom v) l d q h e = absurd (true≢false (sym e))
  shape_fit (group fs) k p (inner n) l d q h e = fields_fit fs k p n l d q h e

pub form_fits : (fs : Fields) (l : Leaf) (n : Node) → is_leaf_of fs l.kind l.path ≡ true → has_fields fs n ≡ true → list_all (takes (form l.kind (max_definition l.path))) (instance_column l.path 0 0 0 (inner n)) ≡ true
form_fits fs l n h v =
    let z : 0 + max_definition l.path ≡ max_definition l.path = omega arith in
    subst (λ (g : ℕ). list_all (takes (form l.kind g)) (instance_column l.path 0 0 0 (inner n)) ≡ true) z (fields_fit fs l.kind l.path n 0 0 0 h v)

pub form_fits_all : (fs : Fields) (ls : List Leaf) (n : Node) → list_all (is_leaf fs) ls ≡ true → has_fields fs n ≡ true → list_all (fits_leaf n) ls ≡ true
form_fits_all fs [] n h v = refl
form_fits_all fs (l ∷ ls) n h v = ap₂ (λ a b. a && b) (form_fits fs l n (and_parts _ _ h).0 v) (form_fits_all fs ls n (and_parts _ _ h).1 v)

-- ---- records of a schema have its form

held_of_kind : (k : Kind) (v : Value) → is_of_kind k v ≡ true → is_held k v ≡ true
held_of_kind bool_kind (bool_value b) h = refl
held_of_kind int32_kind (int_value z) h = refl
held_of_kind int64_kind (int_value z) h = refl
held_of_kind text_kind (text_value t) h = refl
held_of_kind k v h = absurd (true≢false (sym h))

all_weaker : (ok fine : Instance → Bool) → ((x : Instance) → ok x ≡ true → fine x ≡ true) → (xs : Instances) → all_instances ok xs ≡ true → all_instances fine xs ≡ true
all_weaker ok fine g no_instances h = refl
all_weaker ok fine g (instance x xs) h = ap₂ (λ a b. a && b) (g x (and_parts _ _ h).0) (all_weaker ok fine g xs (and_parts _ _ h).1)

mutual
  pub record_form : (fs : Fields) (n : Node) → is_record fs n ≡ true → has_fields fs n ≡ true
  record_form no_fields n v = v
  record_form (field m r s fs) no_slots v = absurd (true≢false (sym v))
  record_form (field m r s fs) (gap n) v = absurd (true≢false (sym v))
  record_form (field m r s fs) (slot xs n) v =
      let w : (fits_repetition r (count_instances xs) ≡ true) × (all_instances (is_instance s) xs ≡ true) × (is_record fs n ≡ true) = and₃_parts _ _ _ v in
      ap₂ (λ a b. a && b) (ap₂ (λ a b. a && b) w.0 (all_weaker (is_instance s) (has_shape s) (instance_form s) xs w.1)) (record_form fs n w.2)

  instance_form : (s : Shape) (x : Instance) → is_instance s x ≡ true → has_shape s x ≡ true
  instance_form (leaf k) (atom v) h = held_of_kind k v h
  instance_form (leaf k) (inner n) h = absurd (true≢false (sym h))
  instance_form (group fs) (atom v) h = absurd (true≢false (sym h))
  instance_form (group fs) (inner n) h = record_form fs n h

pub record_fits : (fs : Fields) (l : Leaf) (n : Node) → is_leaf fs l ≡ true → is_record fs n ≡ true → fits_leaf n l ≡ true
record_fits fs l n h v = form_fits fs l n h (record_form fs n v)

pub record_fits_all : (fs : Fields) (ls : List Leaf) (n : Node) → list_all (is_leaf fs) ls ≡ true → is_record fs n ≡ true → list_all (fits_leaf n) ls ≡ true
record_fits_all fs ls n h v = form_fits_all fs ls n h (record_form fs n v)

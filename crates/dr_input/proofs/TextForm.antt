-- A value owns its texts, so they are UTF-8: what is held in it, and read as a record of a schema, is one.
use Rattle.std.specs.Prelude.{◌≡◌, ℕ, List, [], ◌∷◌, Bool, true, false, ◌&&◌, Option, Some, None, option_map, if◌then◌else◌, string_bytes}
use Rattle.std.specs.Cmp.Lexicographic.{slice_cmp}
use Rattle.std.specs.Map.{lookup}
use Rattle.std.specs.BTreeMap.{is_at}
use Rattle.std.proofs.Common.{nat_cmp, refl, sym, subst}
use Rattle.std.proofs.lemmas.Bool.{and_parts, and_from}
use Rattle.serde_json.specs.Data.{Data, Items, Members}
use Rattle.serde_json.specs.Find.{get_member, as_str, as_array, as_object}
use Rattle.serde_json.specs.View.{view, items_view, members_view}
use Rattle.serde_json.specs.declared.value.Value.{Value}
use Rattle.serde_json.proofs.Views.{Entry, view-lookup}
use Rattle.dr_meaning.specs.Schema.{Repetition, required, optional, repeated, Kind, bool_kind, int32_kind, int64_kind, text_kind, Fields, no_fields, field, Shape, leaf, group}
use Rattle.dr_meaning.specs.Record.{bool_value, int_value, text_value, Instances, no_instances, Instance, atom, inner, all_instances, is_instance, is_record, fits_repetition, count_instances}
use Rattle.dr_meaning.specs.JsonRecord.{is_null, given, of_text, leaf_value}
use Rattle.dr_json.specs.Held.{leaf_held, before_held, each_held, list_held, field_held, slots_held, instance_held, object_held}
use Rattle.dr_json.proofs.OwnedLemmas.{text_utf8, list_items, object_members}
use Rattle.dr_input.proofs.ReadForm.{is_read, is_read_shape}

-- ---- leaves

text_leaf : (v : Value) (o : Option (List ℕ)) (x : Instance) → as_str (view v) ≡ o → leaf_held (of_text o) ≡ Some x → is_instance (leaf text_kind) x ≡ true
text_leaf v None x e h = absurd (cc)
text_leaf v (Some t) x e h = let q : atom (text_value t) ≡ x = cc in subst (λ (y : Instance). is_instance (leaf text_kind) y ≡ true) q (text_utf8 v t e)

leaf_text : (k : Kind) (v : Value) (x : Instance) → leaf_held (leaf_value k (view v)) ≡ Some x → is_read_shape (leaf k) x ≡ true → is_instance (leaf k) x ≡ true
leaf_text text_kind v x e h = text_leaf v (as_str (view v)) x refl e
leaf_text bool_kind v (inner n) e h = h
leaf_text bool_kind v (atom (bool_value b)) e h = h
leaf_text bool_kind v (atom (int_value z)) e h = h
leaf_text bool_kind v (atom (text_value t)) e h = h
leaf_text int32_kind v (inner n) e h = h
leaf_text int32_kind v (atom (bool_value b)) e h = h
leaf_text int32_kind v (atom (int_value z)) e h = h
leaf_text int32_kind v (atom (text_value t)) e h = h
leaf_text int64_kind v (inner n) e h = h
leaf_text int64_kind v (atom (bool_value b)) e h = h
leaf_text int64_kind v (atom (int_value z)) e h = h
leaf_text int64_kind v (atom (text_value t)) e h = h

-- ---- the instances of a field

one_text : (p q : Instance → Bool) (o : Option Instance) (xs : Instances) → ((x : Instance) → o ≡ Some x → p x ≡ true → q x ≡ true) → (all_instances p xs ≡ true → all_instances q xs ≡ true)
    → all_instances p (before_held o xs) ≡ true → all_instances q (before_held o xs) ≡ true
one_text p q None xs g r h = refl
one_text p q (Some x) xs g r h = let a = and_parts (p x) (all_instances p xs) h in and_from (q x) (all_instances q xs) (g x refl a.0) (r a.1)

module _ (f : Data → Option Instance) (p q : Instance → Bool) (g : (v : Value) (x : Instance) → f (view v) ≡ Some x → p x ≡ true → q x ≡ true) where
  each_text : (vs : List Value) → all_instances p (each_held f (items_view vs)) ≡ true → all_instances q (each_held f (items_view vs)) ≡ true
  each_text [] h = refl
  each_text (v ∷ vs) h = one_text p q (f (view v)) (each_held f (items_view vs)) (λ x e k. g v x e k) (λ k. each_text vs k) h

  list_text : (v : Value) (o : Option Items) → as_array (view v) ≡ o → all_instances p (list_held f o) ≡ true → all_instances q (list_held f o) ≡ true
  list_text v None e h = refl
  list_text v (Some ds) e h =
      let k = list_items v ds e in
      let P : Items → Type 0 = λ ys. all_instances p (each_held f ys) ≡ true → all_instances q (each_held f ys) ≡ true in
      subst P k.1 (each_text k.0) h

  field_text : (r : Repetition) (o : Option Value) → all_instances p (field_held r f (option_map view o)) ≡ true → all_instances q (field_held r f (option_map view o)) ≡ true
  field_text required None h = refl
  field_text required (Some v) h = one_text p q (f (view v)) no_instances (λ x e k. g v x e k) (λ k. refl) h
  field_text optional None h = refl
  field_text optional (Some v) h = one_text p q (f (view v)) no_instances (λ x e k. g v x e k) (λ k. refl) h
  field_text repeated None h = refl
  field_text repeated (Some v) h = list_text v (as_array (view v)) refl h

  given_if : (r : Repetition) (v : Value) (b : Bool) → all_instances p (field_held r f (if b then None else Some (view v))) ≡ true → all_instances q (field_held r f (if b then None else Some (view v))) ≡ true
  given_if r v true h = field_text r None h
  given_if r v false h = field_text r (Some v) h

  given_text : (r : Repetition) (o : Option Value) → all_instances p (field_held r f (given (option_map view o))) ≡ true → all_instances q (field_held r f (given (option_map view o))) ≡ true
  given_text r None h = field_text r None h
  given_text r (Some v) h = given_if r v (is_null (view v)) h

  found_text : (r : Repetition) (n : List ℕ) (es : List Entry) → all_instances p (field_held r f (given (get_member n (members_view es)))) ≡ true → all_instances q (field_held r f (given (get_member n (members_view es)))) ≡ true
  found_text r n es h =
      let P : Option Data → Type 0 = λ o. all_instances p (field_held r f (given o)) ≡ true → all_instances q (field_held r f (given o)) ≡ true in
      subst P (view-lookup n es) (given_text r (lookup (is_at (λ k. slice_cmp nat_cmp n (string_bytes k))) es)) h

-- ---- groups

members_text : (fs : Fields) (v : Value) (ms : Members) → ((es : List Entry) → is_read fs (slots_held fs (members_view es)) ≡ true → is_record fs (slots_held fs (members_view es)) ≡ true)
    → as_object (view v) ≡ Some ms → is_read fs (slots_held fs ms) ≡ true → is_record fs (slots_held fs ms) ≡ true
members_text fs v ms g e h =
    let k = object_members v ms e in
    let P : Members → Type 0 = λ ns. is_read fs (slots_held fs ns) ≡ true → is_record fs (slots_held fs ns) ≡ true in
    subst P k.1 (g k.0) h

group_text : (fs : Fields) (v : Value) (o : Option Members) (x : Instance) → ((es : List Entry) → is_read fs (slots_held fs (members_view es)) ≡ true → is_record fs (slots_held fs (members_view es)) ≡ true)
    → as_object (view v) ≡ o → option_map (λ ms. inner (slots_held fs ms)) o ≡ Some x → is_read_shape (group fs) x ≡ true → is_instance (group fs) x ≡ true
group_text fs v None x g e k h = absurd (cc)
group_text fs v (Some ms) x g e k h =
    let q : inner (slots_held fs ms) ≡ x = cc in
    subst (λ (y : Instance). is_instance (group fs) y ≡ true) q (members_text fs v ms g e (subst (λ (y : Instance). is_read_shape (group fs) y ≡ true) (sym q) h))

mutual
  fields_text : (fs : Fields) (es : List Entry) → is_read fs (slots_held fs (members_view es)) ≡ true → is_record fs (slots_held fs (members_view es)) ≡ true
  fields_text no_fields es h = h
  fields_text (field n r s fs) es h =
      let xs = field_held r (instance_held s) (given (get_member n (members_view es))) in
      let a = and_parts (fits_repetition r (count_instances xs) && all_instances (is_read_shape s) xs) (is_read fs (slots_held fs (members_view es))) h in
      let b = and_parts (fits_repetition r (count_instances xs)) (all_instances (is_read_shape s) xs) a.0 in
      and_from (fits_repetition r (count_instances xs) && all_instances (is_instance s) xs) (is_record fs (slots_held fs (members_view es)))
      (and_from (fits_repetition r (count_instances xs)) (all_instances (is_instance s) xs) b.0 (found_text (instance_held s) (is_read_shape s) (is_instance s) (λ v x e k. shape_text s v x e k) r n es b.1))
      (fields_text fs es a.1)

  shape_text : (s : Shape) (v : Value) (x : Instance) → instance_held s (view v) ≡ Some x → is_read_shape s x ≡ true → is_instance s x ≡ true
  shape_text (leaf k) v x e h = leaf_text k v x e h
  shape_text (group fs) v x e h = group_text fs v (as_object (view v)) x (λ es k. fields_text fs es k) refl e h

object_text : (fs : Fields) (v : Value) (o : Option Members) → as_object (view v) ≡ o → is_read fs (object_held fs o) ≡ true → is_record fs (object_held fs o) ≡ true
object_text no_fields v None e h = h
object_text (field n r s fs) v None e h = h
object_text fs v (Some ms) e h = members_text fs v ms (λ es k. fields_text fs es k) e h

pub read_is_record : (fs : Fields) (v : Value) → is_read fs (object_held fs (as_object (view v))) ≡ true → is_record fs (object_held fs (as_object (view v))) ≡ true
read_is_record fs v h = object_text fs v (as_object (view v)) refl h

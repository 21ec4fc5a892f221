-- The record of a line has the form of its schema's records, with whole numbers in their kinds' ranges, and is within the limits of a line.
use Rattle.std.specs.Prelude.{◌≡◌, ℕ, List, ◌^◌, Bool, true, false, ◌&&◌, ◌||◌, nat_le, nat_lt, if◌then◌else◌, ℤ, Option, Some, None, Result, Ok, Err}
use Rattle.std.proofs.Common.{arith, refl, sym, ap, ap₂, ◌∙◌, subst}
use Rattle.std.proofs.lemmas.Bool.{and_from, and_parts, ltb-false, lt-ltb, le-leb, leb-true}
use Rattle.std.specs.Str.{is_utf8}
use Rattle.serde_json.specs.Data.{Data, Items, no_items, item, Members}
use Rattle.serde_json.specs.Find.{get_member, as_bool, as_str, as_array, as_object}
use Rattle.serde_json.specs.Read.{read}
use Rattle.dr_meaning.specs.Schema.{Repetition, required, optional, repeated, Kind, bool_kind, int32_kind, int64_kind, text_kind, Fields, no_fields, field, Shape, leaf, group, field_names}
use Rattle.dr_meaning.specs.Record.{Value, bool_value, int_value, text_value, Node, no_slots, slot, Instances, no_instances, instance, Instance, atom, inner, in_int32, in_int64, count_instances, all_instances, fits_repetition, instance_count, text_bytes}
use Rattle.dr_meaning.specs.JsonRecord.{RecordFault, not_json, unknown_field, out_of_range, null_element, too_large, after, then_give, of_bool, of_text, of_integer, integer_of, leaf_value, is_null, given, are_known, each_element, list_elements, field_instances, object_node, slots_of, instance_of, most_instances, most_text_bytes, within_limits, record_of_value, of_reading, record_of_line}
use Rattle.dr_formats.specs.WritingLaws.{is_limited}
use Rattle.dr_meaning.specs.Record.{is_slot_that, is_inner_that, is_end}

-- ---- records, but for the UTF-8 of their texts

abbrev pub reads_value : Kind → Value → Bool
reads_value bool_kind (bool_value b) = true
reads_value int32_kind (int_value z) = in_int32 z
reads_value int64_kind (int_value z) = in_int64 z
reads_value text_kind (text_value t) = true
reads_value k v = false

abbrev pub reads_atom : Kind → Instance → Bool
reads_atom k (atom v) = reads_value k v
reads_atom k (inner n) = false

abbrev mutual
  pub is_read : Fields → Node → Bool
  is_read no_fields = is_end
  is_read (field n r s fs) = is_slot_that r (is_read_shape s) (is_read fs)

  pub is_read_shape : Shape → Instance → Bool
  is_read_shape (leaf k) = reads_atom k
  is_read_shape (group fs) = is_inner_that (is_read fs)

-- ---- results in order

after_ok : {A B : Type 0} (f : A → Result B RecordFault) (r : Result A RecordFault) (b : B) → after f r ≡ Ok b → (a : A) × (r ≡ Ok a) × (f a ≡ Ok b)
after_ok f (Ok a) b e = (a, refl, e)
after_ok f (Err x) b e = absurd (cc)

give_ok : {A B : Type 0} (f : A → B) (r : Result A RecordFault) (b : B) → then_give f r ≡ Ok b → (a : A) × (r ≡ Ok a) × (f a ≡ b)
give_ok f (Ok a) b e = (a, refl, cc)
give_ok f (Err x) b e = absurd (cc)

-- ---- leaves

bool_held : (o : Option Bool) (v : Value) → of_bool o ≡ Ok v → reads_value bool_kind v ≡ true
bool_held (Some b) v e = let k : bool_value b ≡ v = cc in ap (reads_value bool_kind) (sym k)
bool_held None v e = absurd (cc)

text_held : (o : Option (List ℕ)) (v : Value) → of_text o ≡ Ok v → reads_value text_kind v ≡ true
text_held (Some t) v e = let k : text_value t ≡ v = cc in ap (reads_value text_kind) (sym k)
text_held None v e = absurd (cc)

integer_if : (k : Kind) (fits : ℤ → Bool) → ((z : ℤ) → fits z ≡ true → reads_value k (int_value z) ≡ true) → (b : Bool) (z : ℤ) (v : Value) → fits z ≡ b → (if b then Ok (int_value z) else Err out_of_range) ≡ Ok v → reads_value k v ≡ true
integer_if k fits g true z v f e = let h : int_value z ≡ v = cc in ap (reads_value k) (sym h) ∙ g z f
integer_if k fits g false z v f e = absurd (cc)

integer_held : (k : Kind) (fits : ℤ → Bool) → ((z : ℤ) → fits z ≡ true → reads_value k (int_value z) ≡ true) → (o : Option ℤ) (v : Value) → of_integer fits o ≡ Ok v → reads_value k v ≡ true
integer_held k fits g (Some z) v e = integer_if k fits g (fits z) z v refl e
integer_held k fits g None v e = absurd (cc)

leaf_held : (k : Kind) (d : Data) (v : Value) → leaf_value k d ≡ Ok v → reads_value k v ≡ true
leaf_held bool_kind d v e = bool_held (as_bool d) v e
leaf_held int32_kind d v e = integer_held int32_kind in_int32 (λ z f. f) (integer_of d) v e
leaf_held int64_kind d v e = integer_held int64_kind in_int64 (λ z f. f) (integer_of d) v e
leaf_held text_kind d v e = text_held (as_str d) v e

-- ---- instances

one_fits : (ok : Instance → Bool) (f : Data → Result Instance RecordFault) → ((d : Data) (x : Instance) → f d ≡ Ok x → ok x ≡ true) → (d : Data) (xs : Instances) → then_give (λ x. instance x no_instances) (f d) ≡ Ok xs
    → (x : Instance) × (instance x no_instances ≡ xs) × (ok x ≡ true)
one_fits ok f g d xs e =
    let k = give_ok (λ x. instance x no_instances) (f d) xs e in
    (k.0, k.2, g d k.0 k.1)

element_fits : (ok : Instance → Bool) (f : Data → Result Instance RecordFault) (b : Bool) (d : Data) (rest : Result Instances RecordFault) (xs : Instances) → ((x : Instance) → f d ≡ Ok x → ok x ≡ true) → ((ys : Instances) → rest ≡ Ok ys → all_instances ok ys ≡ true)
    → (if b then Err null_element else after (λ x. then_give (instance x) rest) (f d)) ≡ Ok xs → all_instances ok xs ≡ true
element_fits ok f true d rest xs g h e = absurd (cc)
element_fits ok f false d rest xs g h e =
    let k = after_ok (λ x. then_give (instance x) rest) (f d) xs e in
    let m = give_ok (instance k.0) rest xs k.2 in
    ap (all_instances ok) (sym m.2) ∙ ap₂ (λ a b. a && b) (g k.0 k.1) (h m.0 m.1)

elements_fit : (ok : Instance → Bool) (f : Data → Result Instance RecordFault) → ((d : Data) (x : Instance) → f d ≡ Ok x → ok x ≡ true) → (ds : Items) (xs : Instances) → each_element f ds ≡ Ok xs → all_instances ok xs ≡ true
elements_fit ok f g no_items xs e = let k : no_instances ≡ xs = cc in ap (all_instances ok) (sym k)
elements_fit ok f g (item d ds) xs e = element_fits ok f (is_null d) d (each_element f ds) xs (g d) (λ ys h. elements_fit ok f g ds ys h) e

list_fits : (ok : Instance → Bool) (f : Data → Result Instance RecordFault) → ((d : Data) (x : Instance) → f d ≡ Ok x → ok x ≡ true) → (o : Option Items) (xs : Instances) → list_elements f o ≡ Ok xs → all_instances ok xs ≡ true
list_fits ok f g None xs e = absurd (cc)
list_fits ok f g (Some ds) xs e = elements_fit ok f g ds xs e

no_instances_fit : (r : Repetition) (ok : Instance → Bool) (xs : Instances) → fits_repetition r 0 ≡ true → no_instances ≡ xs → (fits_repetition r (count_instances xs) ≡ true) × (all_instances ok xs ≡ true)
no_instances_fit r ok xs h e = (ap (λ ys. fits_repetition r (count_instances ys)) (sym e) ∙ h, ap (all_instances ok) (sym e))

one_instance_fits : (r : Repetition) (ok : Instance → Bool) (x : Instance) (xs : Instances) → fits_repetition r 1 ≡ true → instance x no_instances ≡ xs → ok x ≡ true → (fits_repetition r (count_instances xs) ≡ true) × (all_instances ok xs ≡ true)
one_instance_fits r ok x xs h e g = (ap (λ ys. fits_repetition r (count_instances ys)) (sym e) ∙ h, ap (all_instances ok) (sym e) ∙ ap (λ b. b && true) g)

field_fits : (r : Repetition) (ok : Instance → Bool) (f : Data → Result Instance RecordFault) → ((d : Data) (x : Instance) → f d ≡ Ok x → ok x ≡ true) → (o : Option Data) (xs : Instances) → field_instances r f o ≡ Ok xs
    → (fits_repetition r (count_instances xs) ≡ true) × (all_instances ok xs ≡ true)
field_fits required ok f g None xs e = absurd (cc)
field_fits required ok f g (Some d) xs e = let k = one_fits ok f g d xs e in one_instance_fits required ok k.0 xs refl k.1 k.2
field_fits optional ok f g None xs e = let k : no_instances ≡ xs = cc in no_instances_fit optional ok xs refl k
field_fits optional ok f g (Some d) xs e = let k = one_fits ok f g d xs e in one_instance_fits optional ok k.0 xs refl k.1 k.2
field_fits repeated ok f g None xs e = let k : no_instances ≡ xs = cc in no_instances_fit repeated ok xs refl k
field_fits repeated ok f g (Some d) xs e = (refl, list_fits ok f g (as_array d) xs e)

-- ---- groups

object_if : (names : List (List ℕ)) (fs : Fields) → ((ms : Members) (n : Node) → slots_of fs ms ≡ Ok n → is_read fs n ≡ true) → (b : Bool) (ms : Members) (x : Instance)
    → (if b then then_give inner (slots_of fs ms) else Err unknown_field) ≡ Ok x → is_read_shape (group fs) x ≡ true
object_if names fs g true ms x e = let k = give_ok inner (slots_of fs ms) x e in ap (is_read_shape (group fs)) (sym k.2) ∙ g ms k.0 k.1
object_if names fs g false ms x e = absurd (cc)

object_fits : (names : List (List ℕ)) (fs : Fields) → ((ms : Members) (n : Node) → slots_of fs ms ≡ Ok n → is_read fs n ≡ true) → (o : Option Members) (x : Instance) → object_node names (slots_of fs) o ≡ Ok x → is_read_shape (group fs) x ≡ true
object_fits names fs g None x e = absurd (cc)
object_fits names fs g (Some ms) x e = object_if names fs g (are_known names ms) ms x e

mutual
  slots_form : (fs : Fields) (ms : Members) (n : Node) → slots_of fs ms ≡ Ok n → is_read fs n ≡ true
  slots_form no_fields ms n e = let k : no_slots ≡ n = cc in ap (is_read no_fields) (sym k)
  slots_form (field m r s fs) ms n e =
      let k = after_ok (λ xs. then_give (slot xs) (slots_of fs ms)) (field_instances r (instance_of s) (given (get_member m ms))) n e in
      let l = give_ok (slot k.0) (slots_of fs ms) n k.2 in
      let w = field_fits r (is_read_shape s) (instance_of s) (λ d x h. shape_form s d x h) (given (get_member m ms)) k.0 k.1 in
      ap (is_read (field m r s fs)) (sym l.2) ∙ ap₂ (λ a b. a && b) (ap₂ (λ a b. a && b) w.0 w.1) (slots_form fs ms l.0 l.1)

  shape_form : (s : Shape) (d : Data) (x : Instance) → instance_of s d ≡ Ok x → is_read_shape s x ≡ true
  shape_form (leaf k) d x e = let g = give_ok atom (leaf_value k d) x e in ap (is_read_shape (leaf k)) (sym g.2) ∙ leaf_held k d g.0 g.1
  shape_form (group fs) d x e = object_fits (field_names fs) fs (λ ms n h. slots_form fs ms n h) (as_object d) x e

-- ---- lines

limits_form : (fs : Fields) (b : Bool) (m n : Node) → is_read fs m ≡ true → (if b then Err too_large else Ok m) ≡ Ok n → is_read fs n ≡ true
limits_form fs true m n h e = absurd (cc)
limits_form fs false m n h e = let k : m ≡ n = cc in ap (is_read fs) (sym k) ∙ h

within_form : (fs : Fields) (x : Instance) (n : Node) → is_read_shape (group fs) x ≡ true → within_limits x ≡ Ok n → is_read fs n ≡ true
within_form fs (atom v) n h e = absurd (cc)
within_form fs (inner m) n h e = limits_form fs (nat_lt most_instances (instance_count m) || nat_lt most_text_bytes (text_bytes m)) m n h e

value_form : (fs : Fields) (d : Data) (n : Node) → record_of_value fs d ≡ Ok n → is_read fs n ≡ true
value_form fs d n e = let k = after_ok within_limits (instance_of (group fs) d) n e in within_form fs k.0 n (shape_form (group fs) d k.0 k.1) k.2

reading_form : (fs : Fields) (o : Option Data) (n : Node) → of_reading fs o ≡ Ok n → is_read fs n ≡ true
reading_form fs None n e = absurd (cc)
reading_form fs (Some d) n e = value_form fs d n e

line_if : (fs : Fields) (b : Bool) (o : Option Data) (n : Node) → (if b then of_reading fs o else Err not_json) ≡ Ok n → is_read fs n ≡ true
line_if fs true o n e = reading_form fs o n e
line_if fs false o n e = absurd (cc)

pub line_form : (fs : Fields) (line : List ℕ) (n : Node) → record_of_line fs line ≡ Ok n → is_read fs n ≡ true
unfolding record_of_line
line_form fs line n e = line_if fs (is_utf8 line) (read line) n e

-- ---- its limits

limits_if : (a b : Bool) (m n : Node) → nat_lt most_instances (instance_count m) ≡ a → nat_lt most_text_bytes (text_bytes m) ≡ b → (if a || b then Err too_large else Ok m) ≡ Ok n → is_limited n ≡ true
limits_if true b m n h k e = absurd (cc)
limits_if false true m n h k e = absurd (cc)
limits_if false false m n h k e =
    let q : m ≡ n = cc in
    subst (λ (x : Node). is_limited x ≡ true) q
    (and_from (nat_le (instance_count m) most_instances) (nat_le (text_bytes m) most_text_bytes) (le-leb (instance_count m) most_instances (ltb-false most_instances (instance_count m) h))
    (le-leb (text_bytes m) most_text_bytes (ltb-false most_text_bytes (text_bytes m) k)))

within_limited : (x : Instance) (n : Node) → within_limits x ≡ Ok n → is_limited n ≡ true
within_limited (atom v) n e = absurd (cc)
within_limited (inner m) n e = limits_if (nat_lt most_instances (instance_count m)) (nat_lt most_text_bytes (text_bytes m)) m n refl refl e

reading_limited : (fs : Fields) (o : Option Data) (n : Node) → of_reading fs o ≡ Ok n → is_limited n ≡ true
reading_limited fs None n e = absurd (cc)
reading_limited fs (Some d) n e = let k = after_ok within_limits (instance_of (group fs) d) n e in within_limited k.0 n k.2

limited_if : (fs : Fields) (b : Bool) (o : Option Data) (n : Node) → (if b then of_reading fs o else Err not_json) ≡ Ok n → is_limited n ≡ true
limited_if fs true o n e = reading_limited fs o n e
limited_if fs false o n e = absurd (cc)

pub line_limited : (fs : Fields) (line : List ℕ) (n : Node) → record_of_line fs line ≡ Ok n → is_limited n ≡ true
unfolding record_of_line
line_limited fs line n e = limited_if fs (is_utf8 line) (read line) n e

-- its texts are short
pub limited_small : (n : Node) → is_limited n ≡ true → nat_lt (text_bytes n) (2 ^ 32) ≡ true
limited_small n h =
    let x = and_parts (nat_le (instance_count n) most_instances) (nat_le (text_bytes n) most_text_bytes) h in
    lt-ltb (text_bytes n) (2 ^ 32) (omega (arith, leb-true (text_bytes n) 1073741824 x.1))

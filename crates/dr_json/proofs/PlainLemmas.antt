-- The fields and elements of a line's own value, checked one after another.
use Rattle.std.proofs.Common.{◌≡◌, ℕ, suc, ◌+◌, ◌^◌, ◌<◌, ◌≤◌, List, [], ◌∷◌, length, get_or, drop, Bool, true, false, cond, if◌then◌else◌, ◌||◌, ◌&&◌, bytes_eq, Option, Some, None, is_some, option_map, option_and_then, Result, Ok, Err, string_bytes, sym, ap, ap₂, ◌∙◌, refl, subst, arith, add-zero, true≢false}
use Rattle.std.specs.Prelude.{⊤, is_ok}
use Rattle.std.specs.declared.alloc.Global.{Global}
use Rattle.std.specs.Int.{from_bool}
use Rattle.std.specs.List.{list_all}
use Rattle.std.proofs.lemmas.Bool.{and_from}
use Rattle.std.proofs.lemmas.List.{drop_all}
use Rattle.json.specs.Json as json
use Rattle.json.specs.Find as raw
use Rattle.json.specs.Value.{value_view, items_view, members_view}
use Rattle.json.specs.declared.value.Value.{Value}
use Rattle.serde_json.specs.Data.{Data, null, array, object, Items, no_items, item, Members, no_members}
use Rattle.serde_json.specs.Find.{get_member}
use Rattle.serde_json.specs.Read.{of_json, of_items, of_members}
use Rattle.dr_meaning.specs.Schema as tree
use Rattle.dr_meaning.specs.Record.{Node, slot, Instances, no_instances, instance, Instance, inner, instance_count, instance_count_all, instance_count_one, text_bytes, text_bytes_all, text_bytes_one, fits_repetition, count_instances, all_instances, is_instance, is_record}
use Rattle.dr_meaning.specs.JsonRecord.{after, then_give, is_null, given, are_known, field_instances, slots_of, instance_of, node_within_limits, within_limits}
use Rattle.dr_nested.specs.declared.shape.Field.{Field}
use Rattle.dr_nested.specs.Views.{fields_view, shape_view, rep_view}
use Rattle.dr_json.specs.declared.fault.RecordProblem.{RecordProblem}
use Rattle.dr_json.specs.declared.size.Size.{Size}
use Rattle.dr_json.specs.Size.{capped, node_size, instances_size}
use Rattle.dr_json.specs.Held.{before_held}
use Rattle.dr_json.specs.Raw.{near, present, each_raw, field_raw, slots_raw, instance_raw}
use Rattle.dr_json.specs.Checks.{ChecksRecord}
use Rattle.dr_json.specs.Plain.{data_of, AreOf, ReadsOne, ReadsField, ReadsItems, ReadsNode, PlainOne, PlainOnly, PlainField, PlainItems, PlainNode, PlainRecord}
use Rattle.dr_json.proofs.KeyLemmas.{Name, same_name, is_among, are_distinct, how_many, named, names_are_distinct, and_left, and_right, AllNamed, as_many_named}
use Rattle.dr_json.proofs.ReadingLemmas.{next_in, field_first, rest_valid}
use Rattle.dr_json.proofs.CheckLemmas.{node_known, count_within, known_or_not, only_checked}
use Rattle.dr_json.proofs.RawLemmas.{Pair, raw_keys, keys_length, near_there, near_distinct, same_some, looked, Converts, all_converted, known_all, not_null, null_is}
use Rattle.dr_json.proofs.SizeLemmas.{capped_step, capped_one_step, capped_end, same_size}

-- ---- what stands for a field

-- the member of a field, which may be null, is read as instances
abbrev pub ReadsFound : tree.Repetition → tree.Shape → Option json.Json → Instances → Type 0
ReadsFound r s o xs = (od : Option Data) × (data_of o ≡ Some od) × (field_instances r (instance_of s) (given od) ≡ Ok xs)

given_data : (d : Data) (b : Bool) → is_null d ≡ b → b ≡ false → given (Some d) ≡ Some d
given_data d true e f = absurd (cc)
given_data d false e f = rw e refl

some_given : (r : tree.Repetition) (s : tree.Shape) (xs : Instances) (j : json.Json) (o : Option Data) → of_json j ≡ o → raw.is_null j ≡ false
    → (od : Option Data) → option_map (λ (d : Data). Some d) o ≡ Some od → field_instances r (instance_of s) od ≡ Ok xs → ReadsFound r s (Some j) xs
some_given r s xs j None e n od q f = absurd (cc)
some_given r s xs j (Some d) e n od q f =
    let is : Some d ≡ od = same_some (Some d) od q in
    (Some d, ap (option_map (λ (x : Data). Some x)) e, ap (field_instances r (instance_of s)) (given_data d _ refl (not_null j d n e) ∙ is) ∙ f)

found_at : (r : tree.Repetition) (s : tree.Shape) (xs : Instances) (j : json.Json) (b : Bool) → raw.is_null j ≡ b → ReadsField r s (if b then None else Some j) xs → ReadsFound r s (Some j) xs
found_at r s xs j true e h =
    let none : None ≡ h.0 = same_some None h.0 h.1 in
    (Some null, ap (option_map (λ (x : Data). Some x)) (null_is j e), ap (field_instances r (instance_of s)) none ∙ h.2)
found_at r s xs j false e h = some_given r s xs j (of_json j) refl e h.0 h.1 h.2

pub found_present : (r : tree.Repetition) (s : tree.Shape) (xs : Instances) (o : Option json.Json) → ReadsField r s (present o) xs → ReadsFound r s o xs
found_present r s xs None h = let none : None ≡ h.0 = same_some None h.0 h.1 in (None, refl, ap (field_instances r (instance_of s)) none ∙ h.2)
found_present r s xs (Some j) h = found_at r s xs j _ refl h

-- ---- an object's members

-- the members of each field, from one place on
abbrev pub SlotsRead : tree.Fields → ℕ → json.Members → Type 0
SlotsRead tree.no_fields p ms = ⊤
SlotsRead (tree.field n r s fs) p ms = ReadsFound r s (raw.get_member n ms) (field_raw r (instance_raw s) (present (near p n ms))) × SlotsRead fs (suc p) ms

pub slots_read : (fs : tree.Fields) (p : ℕ) (ms : json.Members) (all : Members) → of_members ms no_members ≡ Some all → SlotsRead fs p ms → slots_of fs all ≡ Ok (slots_raw fs p ms)
slots_read tree.no_fields p ms all e h = refl
slots_read (tree.field n r s fs) p ms all e h =
    let is : h.0.0 ≡ get_member n all = same_some _ _ (sym h.0.1 ∙ looked ms all n e) in
    let here : field_instances r (instance_of s) (given (get_member n all)) ≡ Ok (field_raw r (instance_raw s) (present (near p n ms))) = ap (λ (od : Option Data). field_instances r (instance_of s) (given od)) (sym is) ∙ h.0.2 in
    rw (here, slots_read fs (suc p) ms all e h.1) refl

named_at_either : (x : Bool) (n m : Name) (ms : json.Members) (names : List Name) → bytes_eq n m ≡ x → Converts (raw.get_member m ms) → (is_among names n ≡ true → Converts (raw.get_member n ms)) → (x || is_among names n) ≡ true → Converts (raw.get_member n ms)
named_at_either true n m ms names e first later h = subst (λ (k : Name). Converts (raw.get_member k ms)) (sym (same_name n m e)) first
named_at_either false n m ms names e first later h = later h

-- each field's member is converted
named_converts : (fs : tree.Fields) (p : ℕ) (ms : json.Members) (n : Name) → SlotsRead fs p ms → is_among (tree.field_names fs) n ≡ true → Converts (raw.get_member n ms)
named_converts tree.no_fields p ms n h e = absurd (true≢false (sym e))
named_converts (tree.field m r s fs) p ms n h e = named_at_either (bytes_eq n m) n m ms (tree.field_names fs) refl (h.0.0, h.0.1) (λ k. named_converts fs (suc p) ms n h.1 k) e

all_among_at : (x : Bool) (ns : List Name) (n k : Name) (ks : List Name) → bytes_eq n k ≡ x → is_among ns k ≡ true → (is_among ks n ≡ true → is_among ns n ≡ true) → (x || is_among ks n) ≡ true → is_among ns n ≡ true
all_among_at true ns n k ks e first later h = ap (is_among ns) (same_name n k e) ∙ first
all_among_at false ns n k ks e first later h = later h

all_among : (ns ks : List Name) (n : Name) → list_all (is_among ns) ks ≡ true → is_among ks n ≡ true → is_among ns n ≡ true
all_among ns [] n h e = absurd (true≢false (sym e))
all_among ns (k ∷ ks) n h e = all_among_at (bytes_eq n k) ns n k ks refl (and_left _ (list_all (is_among ns) ks) h) (λ q. all_among ns ks n (and_right (is_among ns k) _ h) q) e

-- where the keys are distinct and known, the members are read as the node
pub node_read : (fs : tree.Fields) (ms : json.Members) → AllNamed (raw_keys ms) (tree.field_names fs) → SlotsRead fs 0 ms → ReadsNode fs ms (slots_raw fs 0 ms)
node_read fs ms named slots =
    let all = all_converted ms no_members named.distinct (λ n there. named_converts fs 0 ms n slots (all_among (tree.field_names fs) (raw_keys ms) n named.known there)) in
    (all.0, all.1, node_known fs all.0 _ (known_all (tree.field_names fs) ms no_members all.0 all.1 named.known refl) (slots_read fs 0 ms all.0 all.1 slots))

-- ---- the fields of a group, one after another

abbrev pub has_key : json.Members → Field → Bool
has_key ms f = is_among (raw_keys ms) (string_bytes f.name)

abbrev pub HasDistinct : json.Members → Type 0
HasDistinct ms = are_distinct (raw_keys ms) ≡ true

-- the fields from place i on are still to be checked
pub record PlainLeft (all : List Field) (i : ℕ) (ms : json.Members) (size : Size) (count : ℕ) : Type 0 where
  pub valid : tree.is_group (fields_view (drop i all)) ≡ true
  pub reads : HasDistinct ms → SlotsRead (fields_view (drop i all)) i ms → SlotsRead (fields_view all) 0 ms
  pub forms : HasDistinct ms → is_record (fields_view (drop i all)) (slots_raw (fields_view (drop i all)) i ms) ≡ true → is_record (fields_view all) (slots_raw (fields_view all) 0 ms) ≡ true
  pub instances : HasDistinct ms → capped (instance_count (slots_raw (fields_view all) 0 ms)) ≡ capped (size.instances + instance_count (slots_raw (fields_view (drop i all)) i ms))
  pub text_bytes : HasDistinct ms → capped (text_bytes (slots_raw (fields_view all) 0 ms)) ≡ capped (size.text_bytes + text_bytes (slots_raw (fields_view (drop i all)) i ms))
  pub instances_fit : size.instances < 2 ^ 64
  pub bytes_fit : size.text_bytes < 2 ^ 64
  pub counted : how_many (has_key ms) all ≡ count + how_many (has_key ms) (drop i all)
  pub within : count ≤ i

count_step : (b : Bool) (c n : ℕ) → c + cond b (1 + n) n ≡ (c + from_bool b) + n
count_step true c n = omega arith
count_step false c n = omega arith

-- what is held at a field, looked for from a place first
abbrev pub raw_at : Field → ℕ → json.Members → Instances
raw_at f p ms = field_raw (rep_view f.rep) (instance_raw (shape_view f.shape)) (present (near p (string_bytes f.name) ms))

module _ (all : List Field) (i : ℕ) (f : Field) (h : i < length all) (is : f ≡ get_or all i f) (ms : json.Members) (size : Size) (count : ℕ) (left : PlainLeft all i ms size count) where
  next_place : suc i ≡ i + 1
  next_place = omega arith

  field_here : fields_view (drop i all) ≡ tree.field (string_bytes f.name) (rep_view f.rep) (shape_view f.shape) (fields_view (drop (i + 1) all))
  field_here = ap fields_view (next_in all i f h is) ∙ field_first f (drop (i + 1) all)

  raw_here : slots_raw (fields_view (drop i all)) i ms ≡ slot (raw_at f i ms) (slots_raw (fields_view (drop (i + 1) all)) (i + 1) ms)
  raw_here = ap (λ (fs : tree.Fields). slots_raw fs i ms) field_here ∙ ap (λ (p : ℕ). slot (raw_at f i ms) (slots_raw (fields_view (drop (i + 1) all)) p ms)) next_place

  count_here : how_many (has_key ms) (drop i all) ≡ cond (has_key ms f) (1 + how_many (has_key ms) (drop (i + 1) all)) (how_many (has_key ms) (drop (i + 1) all))
  count_here = ap (how_many (has_key ms)) (next_in all i f h is)

  -- it is read, wherever it was looked for first
  pub field_plain : (hint : ℕ) (part next : Size) (more : ℕ) → ReadsField (rep_view f.rep) (shape_view f.shape) (present (near hint (string_bytes f.name) ms)) (raw_at f hint ms)
      → AreOf (rep_view f.rep) (shape_view f.shape) (raw_at f hint ms) → part ≡ instances_size (raw_at f hint ms) → next.instances ≡ capped (size.instances + part.instances) → next.text_bytes ≡ capped (size.text_bytes + part.text_bytes)
      → more ≡ count + from_bool (is_some (near hint (string_bytes f.name) ms)) → PlainLeft all (i + 1) ms next more
  field_plain hint part next more r form e n b m =
      let name = string_bytes f.name in
      let rest = slots_raw (fields_view (drop (i + 1) all)) (i + 1) ms in
      let found : HasDistinct ms → near hint name ms ≡ raw.get_member name ms = λ d. near_distinct hint name ms d in
      let moved : HasDistinct ms → raw_at f hint ms ≡ raw_at f i ms =
      λ d. ap (λ (o : Option json.Json). field_raw (rep_view f.rep) (instance_raw (shape_view f.shape)) (present o)) (found d ∙ sym (near_distinct i name ms d)) in
      let read_here : HasDistinct ms → ReadsFound (rep_view f.rep) (shape_view f.shape) (raw.get_member name ms) (raw_at f i ms) =
      λ d. subst (λ (xs : Instances). ReadsFound (rep_view f.rep) (shape_view f.shape) (raw.get_member name ms) xs) (moved d)
      (subst (λ (o : Option json.Json). ReadsFound (rep_view f.rep) (shape_view f.shape) o (raw_at f hint ms)) (found d) (found_present (rep_view f.rep) (shape_view f.shape) (raw_at f hint ms) (near hint name ms) r)) in
      let form_here : HasDistinct ms → is_record (fields_view (drop (i + 1) all)) rest ≡ true → is_record (fields_view (drop i all)) (slots_raw (fields_view (drop i all)) i ms) ≡ true =
      λ d k. ap₂ (λ (fs : tree.Fields) (x : Node). is_record fs x) field_here raw_here ∙ and_from _ _ (subst (λ (xs : Instances). AreOf (rep_view f.rep) (shape_view f.shape) xs) (moved d) form) k in
      let part_is : HasDistinct ms → part ≡ instances_size (raw_at f i ms) = λ d. e ∙ ap instances_size (moved d) in
      let key : more ≡ count + from_bool (has_key ms f) = m ∙ ap (λ (x : Bool). count + from_bool x) (near_there hint name ms) in
      record {
        valid = rest_valid all i f h is left.valid;
        reads = λ d k. left.reads d (subst (λ (fs : tree.Fields). SlotsRead fs i ms) (sym field_here) (read_here d, subst (λ (p : ℕ). SlotsRead (fields_view (drop (i + 1) all)) p ms) (sym next_place) k));
        forms = λ d k. left.forms d (form_here d k);
        instances = λ d. left.instances d ∙ ap (λ (x : Node). capped (size.instances + instance_count x)) raw_here ∙ capped_step size.instances (instance_count_all (raw_at f i ms)) (instance_count rest)
            ∙ ap (λ (j : ℕ). capped (j + instance_count rest)) (ap (λ (p : Size). capped (size.instances + p.instances)) (sym (part_is d)) ∙ sym n);
        text_bytes = λ d. left.text_bytes d ∙ ap (λ (x : Node). capped (size.text_bytes + text_bytes x)) raw_here ∙ capped_step size.text_bytes (text_bytes_all (raw_at f i ms)) (text_bytes rest)
            ∙ ap (λ (j : ℕ). capped (j + text_bytes rest)) (ap (λ (p : Size). capped (size.text_bytes + p.text_bytes)) (sym (part_is d)) ∙ sym b);
        instances_fit = omega (arith, n);
        bytes_fit = omega (arith, b);
        counted = left.counted ∙ ap (λ (j : ℕ). count + j) count_here ∙ count_step (has_key ms f) count (how_many (has_key ms) (drop (i + 1) all))
            ∙ ap (λ (j : ℕ). j + how_many (has_key ms) (drop (i + 1) all)) (sym key);
        within = let w = count_within (has_key ms f) count i left.within in omega (arith, w, key);
      }

-- none is left, and as many fields have a key as there are members
pub fields_plain : (all : List Field) (i : ℕ) (ms : List Pair) (size : Size) (count : ℕ) → length all ≤ i → tree.is_group (fields_view all) ≡ true → PlainLeft all i (members_view ms) size count → count ≡ length ms
    → PlainNode (fields_view all) (members_view ms) (Some size)
fields_plain all i ms size count h valid left many =
    let keys = raw_keys (members_view ms) in
    let none : drop i all ≡ [] = drop_all i all h in
    let counted : how_many (is_among keys) (tree.field_names (fields_view all)) ≡ length keys =
    sym (named (is_among keys) all) ∙ left.counted ∙ ap (λ (fs : List Field). count + how_many (has_key (members_view ms)) fs) none ∙ add-zero count ∙ many ∙ sym (keys_length ms) in
    let named_all = as_many_named keys (tree.field_names (fields_view all)) (names_are_distinct (fields_view all) valid) counted in
    let slots = left.reads named_all.distinct (subst (λ (fs : List Field). SlotsRead (fields_view fs) i (members_view ms)) (sym none) tt) in (
      node_read (fields_view all) (members_view ms) named_all slots,
      left.forms named_all.distinct (ap (λ (fs : List Field). is_record (fields_view fs) (slots_raw (fields_view fs) i (members_view ms))) none),
      same_size size _ _
          (sym (left.instances named_all.distinct ∙ ap (λ (fs : List Field). capped (size.instances + instance_count (slots_raw (fields_view fs) i (members_view ms)))) none ∙ capped_end size.instances left.instances_fit))
          (sym (left.text_bytes named_all.distinct ∙ ap (λ (fs : List Field). capped (size.text_bytes + text_bytes (slots_raw (fields_view fs) i (members_view ms)))) none ∙ capped_end size.text_bytes left.bytes_fit)),
    )

-- ---- one instance

-- the instance of a group is the node of its members
pub group_plain : (fs : tree.Fields) (ms : json.Members) (r : Option Size) → PlainNode fs ms r → PlainOne (tree.group fs) (json.object ms) r
group_plain fs ms None c = tt
group_plain fs ms (Some size) c = (
  inner (slots_raw fs 0 ms),
  refl,
  (object c.0.0, ap (option_map object) c.0.1, known_or_not (are_known (tree.field_names fs) c.0.0) (slots_of fs c.0.0) ∙ ap (then_give inner) c.0.2),
  c.1,
  c.2,
)

-- an instance that stands alone
pub only_plain : (s : tree.Shape) (j : json.Json) (inside part : Size) → PlainOne s j (Some inside) → part.instances ≡ capped (inside.instances + 1) → part.text_bytes ≡ inside.text_bytes → PlainOnly s j (Some part)
only_plain s j inside part c pn pb =
    let both = only_checked (instance_of s c.2.0) (instance_raw s j) c.0 inside part c.2.2 c.1 c.4 pn pb in
    let alone : before_held (instance_raw s j) no_instances ≡ instance c.0 no_instances = ap (λ (o : Option Instance). before_held o no_instances) c.1 in (
      (c.2.0, c.2.1, both.0),
      ap (λ (xs : Instances). fits_repetition tree.required (count_instances xs) && all_instances (is_instance s) xs) alone ∙ ap (λ (b : Bool). b && true) c.3,
      ap (λ (xs : Instances). fits_repetition tree.optional (count_instances xs) && all_instances (is_instance s) xs) alone ∙ ap (λ (b : Bool). b && true) c.3,
      both.1,
    )

pub only_required : (s : tree.Shape) (j : json.Json) (r : Option Size) → PlainOnly s j r → PlainField tree.required s (Some j) r
only_required s j None c = tt
only_required s j (Some size) c = ((Some c.0.0, ap (option_map (λ (d : Data). Some d)) c.0.1, c.0.2), c.1, c.3)

pub only_optional : (s : tree.Shape) (j : json.Json) (r : Option Size) → PlainOnly s j r → PlainField tree.optional s (Some j) r
only_optional s j None c = tt
only_optional s j (Some size) c = ((Some c.0.0, ap (option_map (λ (d : Data). Some d)) c.0.1, c.0.2), c.2, c.3)

pub list_repeated : (s : tree.Shape) (js : json.Items) (r : Option Size) → PlainItems s js r → PlainField tree.repeated s (Some (json.array js)) r
list_repeated s js None c = tt
list_repeated s js (Some size) c = ((Some (array c.0.0), ap (λ (o : Option Items). option_map (λ (d : Data). Some d) (option_map array o)) c.0.1, c.0.2), c.1, c.2)

-- ---- the elements of a list

-- the elements from place i on are still to be checked
pub record ItemsPlain (s : tree.Shape) (all : List (Value Global)) (i : ℕ) (size : Size) : Type 0 where
  pub reads : ReadsItems s (items_view (drop i all)) (each_raw (instance_raw s) (items_view (drop i all))) → ReadsItems s (items_view all) (each_raw (instance_raw s) (items_view all))
  pub forms : all_instances (is_instance s) (each_raw (instance_raw s) (items_view (drop i all))) ≡ true → all_instances (is_instance s) (each_raw (instance_raw s) (items_view all)) ≡ true
  pub instances : capped (instance_count_all (each_raw (instance_raw s) (items_view all))) ≡ capped (size.instances + instance_count_all (each_raw (instance_raw s) (items_view (drop i all))))
  pub text_bytes : capped (text_bytes_all (each_raw (instance_raw s) (items_view all))) ≡ capped (size.text_bytes + text_bytes_all (each_raw (instance_raw s) (items_view (drop i all))))
  pub instances_fit : size.instances < 2 ^ 64
  pub bytes_fit : size.text_bytes < 2 ^ 64

item_read : (s : tree.Shape) (j : json.Json) (js : json.Items) (x : Instance) → raw.is_null j ≡ false → instance_raw s j ≡ Some x → ReadsOne s j x → ReadsItems s js (each_raw (instance_raw s) js)
    → ReadsItems s (json.item j js) (each_raw (instance_raw s) (json.item j js))
item_read s j js x n held one rest = (
  item one.0 rest.0,
  ap (option_and_then (λ (d : Data). option_map (item d) (of_items js))) one.1 ∙ ap (option_map (item one.0)) rest.1,
  rw (not_null j one.0 n one.1, one.2, rest.2, held) refl,
)

module _ (s : tree.Shape) (all : List (Value Global)) (i : ℕ) (v : Value Global) (h : i < length all) (is : v ≡ get_or all i v) (size : Size) (left : ItemsPlain s all i size) where
  items_here : items_view (drop i all) ≡ json.item (value_view v) (items_view (drop (i + 1) all))
  items_here = ap items_view (next_in all i v h is)

  pub element_plain : (inside part next : Size) → raw.is_null (value_view v) ≡ false → PlainOne s (value_view v) (Some inside)
      → part.instances ≡ capped (inside.instances + 1) → part.text_bytes ≡ inside.text_bytes → next.instances ≡ capped (size.instances + part.instances) → next.text_bytes ≡ capped (size.text_bytes + part.text_bytes)
      → ItemsPlain s all (i + 1) next
  element_plain inside part next n c pn pb sn sb =
      let x = c.0 in
      let rest = each_raw (instance_raw s) (items_view (drop (i + 1) all)) in
      let held_here : each_raw (instance_raw s) (items_view (drop i all)) ≡ instance x rest = ap (each_raw (instance_raw s)) items_here ∙ ap (λ o. before_held o rest) c.1 in
      let one : next.instances ≡ capped (size.instances + capped (capped (instance_count_one x) + 1)) = sn ∙ ap (λ (m : ℕ). capped (size.instances + m)) (pn ∙ ap (λ (p : Size). capped (p.instances + 1)) c.4) in
      let bytes : next.text_bytes ≡ capped (size.text_bytes + capped (text_bytes_one x)) = sb ∙ ap (λ (m : ℕ). capped (size.text_bytes + m)) (pb ∙ ap (λ (p : Size). p.text_bytes) c.4) in
      record {
        reads = λ q. left.reads (subst (λ (js : json.Items). ReadsItems s js (each_raw (instance_raw s) js)) (sym items_here) (item_read s (value_view v) (items_view (drop (i + 1) all)) x n c.1 c.2 q));
        forms = λ q. left.forms (ap (all_instances (is_instance s)) held_here ∙ and_from (is_instance s x) (all_instances (is_instance s) rest) c.3 q);
        instances = left.instances ∙ ap (λ (m : Instances). capped (size.instances + instance_count_all m)) held_here ∙ capped_one_step size.instances (instance_count_one x) (instance_count_all rest)
            ∙ ap (λ (m : ℕ). capped (m + instance_count_all rest)) (sym one);
        text_bytes = left.text_bytes ∙ ap (λ (m : Instances). capped (size.text_bytes + text_bytes_all m)) held_here ∙ capped_step size.text_bytes (text_bytes_one x) (text_bytes_all rest)
            ∙ ap (λ (m : ℕ). capped (m + text_bytes_all rest)) (sym bytes);
        instances_fit = omega (arith, sn);
        bytes_fit = omega (arith, sb);
      }

-- none is left
pub elements_plain : (s : tree.Shape) (all : List (Value Global)) (i : ℕ) (size : Size) → length all ≤ i → ItemsPlain s all i size → PlainItems s (items_view all) (Some size)
elements_plain s all i size h left =
    let none : drop i all ≡ [] = drop_all i all h in (
      left.reads (subst (λ (vs : List (Value Global)). ReadsItems s (items_view vs) (each_raw (instance_raw s) (items_view vs))) (sym none) (no_items, refl, refl)),
      left.forms (ap (λ (vs : List (Value Global)). all_instances (is_instance s) (each_raw (instance_raw s) (items_view vs))) none),
      same_size size _ _
          (sym (left.instances ∙ ap (λ (vs : List (Value Global)). capped (size.instances + instance_count_all (each_raw (instance_raw s) (items_view vs)))) none ∙ capped_end size.instances left.instances_fit))
          (sym (left.text_bytes ∙ ap (λ (vs : List (Value Global)). capped (size.text_bytes + text_bytes_all (each_raw (instance_raw s) (items_view vs)))) none ∙ capped_end size.text_bytes left.bytes_fit)),
    )

-- ---- a record

-- the members are a record where their node is within the limits
pub record_plain : (fs : tree.Fields) (ms : json.Members) → ReadsNode fs ms (slots_raw fs 0 ms) → is_record fs (slots_raw fs 0 ms) ≡ true → node_within_limits (slots_raw fs 0 ms) ≡ Ok (slots_raw fs 0 ms) → PlainRecord fs ms true
record_plain fs ms c form within = (c.0, c.1, ap (after within_limits) (known_or_not (are_known (tree.field_names fs) c.0) (slots_of fs c.0) ∙ ap (then_give inner) c.2) ∙ within, form)

pub limits_plain : (fs : tree.Fields) (ms : json.Members) (size : Size) (r : Result (Unit {0}) RecordProblem) (b : Bool) → PlainNode fs ms (Some size) → ((n : Node) → size ≡ node_size n → ChecksRecord (node_within_limits n) n r) → b ≡ is_ok r → PlainRecord fs ms b
limits_plain fs ms size r false c h e = tt
limits_plain fs ms size (Ok done) true c h e = record_plain fs ms c.0 c.1 (h (slots_raw fs 0 ms) c.2)
limits_plain fs ms size (Err w) true c h e = absurd (true≢false e)

-- Fields and elements, checked one after another.
use Rattle.std.proofs.Common.{◌≡◌, ℕ, ◌+◌, ◌^◌, ◌<◌, ◌≤◌, List, [], ◌∷◌, length, get_or, drop, Bool, true, false, cond, if◌then◌else◌, Option, Some, is_some, option_map, Result, Ok, Err, string_bytes, sym, ap, ◌∙◌, refl, arith, add-zero}
use Rattle.std.specs.Int.{from_bool}
use Rattle.std.proofs.lemmas.List.{drop_all}
use Rattle.std.specs.Result.{IsErrAnd}
use Rattle.serde_json.specs.Data.{Data, Members}
use Rattle.serde_json.specs.Find.{as_null, as_object, get_member}
use Rattle.serde_json.specs.View.{view, items_view}
use Rattle.serde_json.specs.declared.value.Value.{Value}
use Rattle.dr_meaning.specs.Schema as tree
use Rattle.dr_meaning.specs.Record.{Node, slot, Instances, no_instances, instance, single, Instance, inner, instance_count, instance_count_all, instance_count_one, text_bytes, text_bytes_all, text_bytes_one}
use Rattle.dr_meaning.specs.JsonRecord.{RecordFault, null_element, unknown_field, after, then_give, given, are_known, object_node, each_element, slots_of, instance_of}
use Rattle.dr_nested.specs.declared.shape.Field.{Field}
use Rattle.dr_nested.specs.Views.{fields_view, shape_view, rep_view}
use Rattle.dr_json.specs.declared.check.Given.{Given}
use Rattle.dr_json.specs.declared.fault.RecordProblem.{RecordProblem}
use Rattle.dr_json.specs.declared.size.Size.{Size}
use Rattle.dr_json.specs.Faults.{record_problem_view}
use Rattle.dr_json.specs.Reading.{members_node}
use Rattle.dr_json.specs.Size.{capped, node_size, instances_size, instance_size}
use Rattle.dr_json.specs.Held.{before_held, each_held, field_held, slots_held, instance_held}
use Rattle.dr_json.specs.Checks.{Checks, ChecksOne, ChecksFields, given_count}
use Rattle.dr_json.proofs.ReadingLemmas.{next_in, field_first, read_field, rest_valid, is_null-as_null}
use Rattle.dr_json.proofs.SizeLemmas.{capped_step, capped_one_step, capped_end, same_size}

-- ---- a problem, as `?` gives it on

pub checks_from : {A : Type 0} (size : A → Size) (meant : Result A RecordFault) (held : A) (r : Result Size RecordProblem) (w : RecordProblem)
    → IsErrAnd r (λ x. x ≡ w) → meant ≡ Err (record_problem_view w) → Checks size meant held r
checks_from size meant held (Ok s) w h p = absurd h
checks_from size meant held (Err x) w h p = p ∙ ap (λ (y : RecordProblem). Err (record_problem_view y)) (sym h)

pub checks_fields_from : (meant : Result Node RecordFault) (held : Node) (count : ℕ) (r : Result Given RecordProblem) (w : RecordProblem)
    → IsErrAnd r (λ x. x ≡ w) → meant ≡ Err (record_problem_view w) → ChecksFields meant held count r
checks_fields_from meant held count (Ok g) w h p = absurd h
checks_fields_from meant held count (Err x) w h p = p ∙ ap (λ (y : RecordProblem). Err (record_problem_view y)) (sym h)

-- ---- an object's members

pub node_known : (fs : tree.Fields) (ms : Members) (r : Result Node RecordFault) → are_known (tree.field_names fs) ms ≡ true → slots_of fs ms ≡ r → members_node fs ms ≡ r
node_known fs ms r k e = rw k e

pub node_unknown : (fs : tree.Fields) (ms : Members) → are_known (tree.field_names fs) ms ≡ false → members_node fs ms ≡ Err unknown_field
node_unknown fs ms k = rw k refl

pub known_or_not : (b : Bool) (r : Result Node RecordFault) → (if b then then_give inner r else Err unknown_field) ≡ then_give inner (if b then r else Err unknown_field)
known_or_not true r = refl
known_or_not false r = refl

-- the instance of a group is the node of its members
pub group_checked : (fs : tree.Fields) (d : Data) (ms : Members) (r : Result Size RecordProblem) → as_object d ≡ Some ms → Checks node_size (members_node fs ms) (slots_held fs ms) r
    → ChecksOne (instance_of (tree.group fs) d) (instance_held (tree.group fs) d) r
group_checked fs d ms (Ok s) o c = (
  inner (slots_held fs ms),
  ap (object_node (tree.field_names fs) (slots_of fs)) o ∙ known_or_not (are_known (tree.field_names fs) ms) (slots_of fs ms) ∙ ap (then_give inner) c.0,
  ap (option_map (λ (m : Members). inner (slots_held fs m))) o,
  c.1,
)
group_checked fs d ms (Err w) o c = ap (object_node (tree.field_names fs) (slots_of fs)) o ∙ known_or_not (are_known (tree.field_names fs) ms) (slots_of fs ms) ∙ ap (then_give inner) c

-- ---- one instance

with_instance : (n : ℕ) → capped (capped n + 1) ≡ capped (1 + n + 0)
with_instance n = omega arith

nothing_after : (n : ℕ) → capped n ≡ capped (n + 0)
nothing_after n = omega arith

-- an instance that stands alone
pub only_checked : (meant : Result Instance RecordFault) (held : Option Instance) (x : Instance) (inside part : Size) → meant ≡ Ok x → held ≡ Some x → inside ≡ instance_size x
    → part.instances ≡ capped (inside.instances + 1) → part.text_bytes ≡ inside.text_bytes
    → (then_give single meant ≡ Ok (before_held held no_instances)) × (part ≡ instances_size (before_held held no_instances))
only_checked meant held x inside part r k e pn pb =
    let alone : before_held held no_instances ≡ instance x no_instances = ap (λ (o : Option Instance). before_held o no_instances) k in (
      ap (then_give single) r ∙ ap Ok (sym alone),
      same_size part _ _ (pn ∙ ap (λ (p : Size). capped (p.instances + 1)) e ∙ with_instance (instance_count_one x)) (pb ∙ ap (λ (p : Size). p.text_bytes) e ∙ nothing_after (text_bytes_one x))
          ∙ ap instances_size (sym alone),
    )

-- ---- the fields of a group

-- what stands for a field in an object, as far as it is read
abbrev pub held_field : Field → Members → Instances
held_field f ms = field_held (rep_view f.rep) (instance_held (shape_view f.shape)) (given (get_member (string_bytes f.name) ms))

-- the fields from place i on are still to be checked
pub record FieldsLeft (all : List Field) (i : ℕ) (ms : Members) (size : Size) (count : ℕ) : Type 0 where
  pub valid : tree.is_group (fields_view (drop i all)) ≡ true
  pub reads : slots_of (fields_view (drop i all)) ms ≡ Ok (slots_held (fields_view (drop i all)) ms) → slots_of (fields_view all) ms ≡ Ok (slots_held (fields_view all) ms)
  pub fails : (e : RecordFault) → slots_of (fields_view (drop i all)) ms ≡ Err e → slots_of (fields_view all) ms ≡ Err e
  pub instances : capped (instance_count (slots_held (fields_view all) ms)) ≡ capped (size.instances + instance_count (slots_held (fields_view (drop i all)) ms))
  pub text_bytes : capped (text_bytes (slots_held (fields_view all) ms)) ≡ capped (size.text_bytes + text_bytes (slots_held (fields_view (drop i all)) ms))
  pub instances_fit : size.instances < 2 ^ 64
  pub bytes_fit : size.text_bytes < 2 ^ 64
  pub counted : given_count ms all ≡ count + given_count ms (drop i all)
  pub within : count ≤ i

count_step : (b : Bool) (c n : ℕ) → c + cond b (1 + n) n ≡ (c + from_bool b) + n
count_step true c n = omega arith
count_step false c n = omega arith

pub count_within : (b : Bool) (c i : ℕ) → c ≤ i → c + from_bool b ≤ i + 1
count_within true c i h = omega (arith, h)
count_within false c i h = omega (arith, h)

module _ (all : List Field) (i : ℕ) (f : Field) (h : i < length all) (is : f ≡ get_or all i f) (ms : Members) (size : Size) (count : ℕ) (left : FieldsLeft all i ms size count) where
  field_here : fields_view (drop i all) ≡ tree.field (string_bytes f.name) (rep_view f.rep) (shape_view f.shape) (fields_view (drop (i + 1) all))
  field_here = ap fields_view (next_in all i f h is) ∙ field_first f (drop (i + 1) all)

  slots_here : slots_of (fields_view (drop i all)) ms ≡ after (λ xs. then_give (slot xs) (slots_of (fields_view (drop (i + 1) all)) ms)) (read_field f ms)
  slots_here = ap (λ (fs : tree.Fields). slots_of fs ms) field_here

  held_here : slots_held (fields_view (drop i all)) ms ≡ slot (held_field f ms) (slots_held (fields_view (drop (i + 1) all)) ms)
  held_here = ap (λ (fs : tree.Fields). slots_held fs ms) field_here

  count_here : given_count ms (drop i all) ≡ cond (is_some (get_member (string_bytes f.name) ms)) (1 + given_count ms (drop (i + 1) all)) (given_count ms (drop (i + 1) all))
  count_here = ap (given_count ms) (next_in all i f h is)

  -- a field has a fault
  pub field_fails : (e : RecordFault) → read_field f ms ≡ Err e → slots_of (fields_view all) ms ≡ Err e
  field_fails e r = left.fails e (slots_here ∙ ap (after (λ xs. then_give (slot xs) (slots_of (fields_view (drop (i + 1) all)) ms))) r)

  -- it is read
  pub field_checked : (part next : Size) (more : ℕ) → read_field f ms ≡ Ok (held_field f ms) → part ≡ instances_size (held_field f ms)
      → next.instances ≡ capped (size.instances + part.instances) → next.text_bytes ≡ capped (size.text_bytes + part.text_bytes) → more ≡ count + from_bool (is_some (get_member (string_bytes f.name) ms))
      → FieldsLeft all (i + 1) ms next more
  field_checked part next more r e n b m =
      let rest = slots_held (fields_view (drop (i + 1) all)) ms in
      let read_here : slots_of (fields_view (drop i all)) ms ≡ then_give (slot (held_field f ms)) (slots_of (fields_view (drop (i + 1) all)) ms) =
      slots_here ∙ ap (after (λ xs. then_give (slot xs) (slots_of (fields_view (drop (i + 1) all)) ms))) r in
      record {
        valid = rest_valid all i f h is left.valid;
        reads = λ k. left.reads (read_here ∙ ap (then_give (slot (held_field f ms))) k ∙ ap Ok (sym held_here));
        fails = λ x k. left.fails x (read_here ∙ ap (then_give (slot (held_field f ms))) k);
        instances = left.instances ∙ ap (λ (x : Node). capped (size.instances + instance_count x)) held_here ∙ capped_step size.instances (instance_count_all (held_field f ms)) (instance_count rest)
            ∙ ap (λ (j : ℕ). capped (j + instance_count rest)) (ap (λ (p : Size). capped (size.instances + p.instances)) (sym e) ∙ sym n);
        text_bytes = left.text_bytes ∙ ap (λ (x : Node). capped (size.text_bytes + text_bytes x)) held_here ∙ capped_step size.text_bytes (text_bytes_all (held_field f ms)) (text_bytes rest)
            ∙ ap (λ (j : ℕ). capped (j + text_bytes rest)) (ap (λ (p : Size). capped (size.text_bytes + p.text_bytes)) (sym e) ∙ sym b);
        instances_fit = omega (arith, n);
        bytes_fit = omega (arith, b);
        counted = left.counted ∙ ap (λ (j : ℕ). count + j) count_here ∙ count_step (is_some (get_member (string_bytes f.name) ms)) count (given_count ms (drop (i + 1) all))
            ∙ ap (λ (j : ℕ). j + given_count ms (drop (i + 1) all)) (sym m);
        within = let w = count_within (is_some (get_member (string_bytes f.name) ms)) count i left.within in omega (arith, w, m);
      }

-- none is left
pub fields_checked : (all : List Field) (i : ℕ) (ms : Members) (size : Size) (count : ℕ) → length all ≤ i → FieldsLeft all i ms size count
    → (slots_of (fields_view all) ms ≡ Ok (slots_held (fields_view all) ms)) × (size ≡ node_size (slots_held (fields_view all) ms)) × (count ≡ given_count ms all)
fields_checked all i ms size count h left =
    let none : drop i all ≡ [] = drop_all i all h in (
      left.reads (ap (λ (fs : List Field). slots_of (fields_view fs) ms) none ∙ ap (λ (fs : List Field). Ok (slots_held (fields_view fs) ms)) (sym none)),
      same_size size _ _
          (sym (left.instances ∙ ap (λ (fs : List Field). capped (size.instances + instance_count (slots_held (fields_view fs) ms))) none ∙ capped_end size.instances left.instances_fit))
          (sym (left.text_bytes ∙ ap (λ (fs : List Field). capped (size.text_bytes + text_bytes (slots_held (fields_view fs) ms))) none ∙ capped_end size.text_bytes left.bytes_fit)),
      sym (left.counted ∙ ap (λ (fs : List Field). count + given_count ms fs) none ∙ add-zero count),
    )

-- ---- the elements of a list

-- the elements from place i on are still to be checked
pub record ItemsLeft (s : tree.Shape) (all : List Value) (i : ℕ) (size : Size) : Type 0 where
  pub reads : each_element (instance_of s) (items_view (drop i all)) ≡ Ok (each_held (instance_held s) (items_view (drop i all))) → each_element (instance_of s) (items_view all) ≡ Ok (each_held (instance_held s) (items_view all))
  pub fails : (e : RecordFault) → each_element (instance_of s) (items_view (drop i all)) ≡ Err e → each_element (instance_of s) (items_view all) ≡ Err e
  pub instances : capped (instance_count_all (each_held (instance_held s) (items_view all))) ≡ capped (size.instances + instance_count_all (each_held (instance_held s) (items_view (drop i all))))
  pub text_bytes : capped (text_bytes_all (each_held (instance_held s) (items_view all))) ≡ capped (size.text_bytes + text_bytes_all (each_held (instance_held s) (items_view (drop i all))))
  pub instances_fit : size.instances < 2 ^ 64
  pub bytes_fit : size.text_bytes < 2 ^ 64

module _ (s : tree.Shape) (all : List Value) (i : ℕ) (d : Value) (h : i < length all) (is : d ≡ get_or all i d) (size : Size) (left : ItemsLeft s all i size) where
  element_here : each_element (instance_of s) (items_view (drop i all)) ≡ each_element (instance_of s) (items_view (d ∷ drop (i + 1) all))
  element_here = ap (λ (vs : List Value). each_element (instance_of s) (items_view vs)) (next_in all i d h is)

  -- an element is null
  pub null_fails : is_some (as_null (view d)) ≡ true → each_element (instance_of s) (items_view all) ≡ Err null_element
  null_fails n = left.fails null_element (element_here ∙ rw (is_null-as_null (view d), n) refl)

  -- it has a fault
  pub element_fails : (e : RecordFault) → is_some (as_null (view d)) ≡ false → instance_of s (view d) ≡ Err e → each_element (instance_of s) (items_view all) ≡ Err e
  element_fails e n r = left.fails e (element_here ∙ rw (is_null-as_null (view d), n, r) refl)

  -- it is read
  pub element_checked : (x : Instance) (inside part next : Size) → is_some (as_null (view d)) ≡ false → instance_of s (view d) ≡ Ok x → instance_held s (view d) ≡ Some x → inside ≡ instance_size x
      → part.instances ≡ capped (inside.instances + 1) → part.text_bytes ≡ inside.text_bytes → next.instances ≡ capped (size.instances + part.instances) → next.text_bytes ≡ capped (size.text_bytes + part.text_bytes)
      → ItemsLeft s all (i + 1) next
  element_checked x inside part next n r k e pn pb sn sb =
      let rest = each_held (instance_held s) (items_view (drop (i + 1) all)) in
      let held_here : each_held (instance_held s) (items_view (drop i all)) ≡ instance x rest = ap (λ (vs : List Value). each_held (instance_held s) (items_view vs)) (next_in all i d h is) ∙ ap (λ o. before_held o rest) k in
      let read_here : each_element (instance_of s) (items_view (drop i all)) ≡ then_give (instance x) (each_element (instance_of s) (items_view (drop (i + 1) all))) = element_here ∙ rw (is_null-as_null (view d), n, r) refl in
      let one : next.instances ≡ capped (size.instances + capped (capped (instance_count_one x) + 1)) = sn ∙ ap (λ (m : ℕ). capped (size.instances + m)) (pn ∙ ap (λ (p : Size). capped (p.instances + 1)) e) in
      let bytes : next.text_bytes ≡ capped (size.text_bytes + capped (text_bytes_one x)) = sb ∙ ap (λ (m : ℕ). capped (size.text_bytes + m)) (pb ∙ ap (λ (p : Size). p.text_bytes) e) in
      record {
        reads = λ q. left.reads (read_here ∙ ap (then_give (instance x)) q ∙ ap Ok (sym held_here));
        fails = λ w q. left.fails w (read_here ∙ ap (then_give (instance x)) q);
        instances = left.instances ∙ ap (λ (m : Instances). capped (size.instances + instance_count_all m)) held_here ∙ capped_one_step size.instances (instance_count_one x) (instance_count_all rest)
            ∙ ap (λ (m : ℕ). capped (m + instance_count_all rest)) (sym one);
        text_bytes = left.text_bytes ∙ ap (λ (m : Instances). capped (size.text_bytes + text_bytes_all m)) held_here ∙ capped_step size.text_bytes (text_bytes_one x) (text_bytes_all rest)
            ∙ ap (λ (m : ℕ). capped (m + text_bytes_all rest)) (sym bytes);
        instances_fit = omega (arith, sn);
        bytes_fit = omega (arith, sb);
      }

-- none is left
pub elements_checked : (s : tree.Shape) (all : List Value) (i : ℕ) (size : Size) → length all ≤ i → ItemsLeft s all i size
    → (each_element (instance_of s) (items_view all) ≡ Ok (each_held (instance_held s) (items_view all))) × (size ≡ instances_size (each_held (instance_held s) (items_view all)))
elements_checked s all i size h left =
    let none : drop i all ≡ [] = drop_all i all h in (
      left.reads (ap (λ (vs : List Value). each_element (instance_of s) (items_view vs)) none ∙ ap (λ (vs : List Value). Ok (each_held (instance_held s) (items_view vs))) (sym none)),
      same_size size _ _
          (sym (left.instances ∙ ap (λ (vs : List Value). capped (size.instances + instance_count_all (each_held (instance_held s) (items_view vs)))) none ∙ capped_end size.instances left.instances_fit))
          (sym (left.text_bytes ∙ ap (λ (vs : List Value). capped (size.text_bytes + text_bytes_all (each_held (instance_held s) (items_view vs)))) none ∙ capped_end size.text_bytes left.bytes_fit)),
    )

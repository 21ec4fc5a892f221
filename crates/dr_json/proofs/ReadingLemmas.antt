-- Lists of instances and slots, read one after another.
use Rattle.std.proofs.Common.{◌≡◌, ℕ, zero, suc, ◌+◌, ◌<◌, ◌≤◌, List, [], ◌∷◌, ◌++◌, length, get_or, drop, true, false, Option, Some, None, is_some, Result, Ok, Err, MatchOption, Vec, Global, string_bytes, refl, sym, ap, subst, ◌∙◌, arith}
use Rattle.std.proofs.lemmas.List.{drop_more, drop_all}
use Rattle.std.specs.Bool.{⊤}
use Rattle.std.specs.Result.{IsErrAnd}
use Rattle.serde_json.specs.Data.{Data, null, boolean, number, string, array, object, Members}
use Rattle.serde_json.specs.Find.{as_null, get_member}
use Rattle.serde_json.specs.View.{view, items_view}
use Rattle.serde_json.specs.declared.value.Value.{Value}
use Rattle.dr_meaning.specs.Schema as tree
use Rattle.dr_meaning.specs.Record.{Node, no_slots, slot, gap, Instances, no_instances, instance, Instance}
use Rattle.dr_meaning.specs.JsonRecord.{RecordFault, after, then_give, is_null, given, each_element, field_instances, slots_of, instance_of}
use Rattle.dr_nested.specs.declared.shape.Field.{Field}
use Rattle.dr_nested.specs.declared.record.Instance as code_instance
use Rattle.dr_nested.specs.declared.record.Slot as code_slot
use Rattle.dr_nested.specs.Views.{fields_view, shape_view, rep_view, instance_view, instances_view, slot_view, slots_view}
use Rattle.dr_nested.specs.Views.{slots_of as slots_from}
use Rattle.dr_nested.specs.Faults.{Gives}
use Rattle.dr_json.specs.Faults.{record_fault_view}
use Rattle.dr_json.specs.declared.fault.RecordFault as code_fault
use Rattle.dr_nested.proofs.ViewLemmas.{view-field, view-held}
use Rattle.dr_json.proofs.KeyLemmas.{and_left, and_right}

-- ---- what has been read stands before the rest

abbrev pub append_instances : Instances → Instances → Instances
append_instances no_instances ys = ys
append_instances (instance x xs) ys = instance x (append_instances xs ys)

abbrev pub append_slots : Node → Node → Node
append_slots no_slots m = m
append_slots (slot xs n) m = slot xs (append_slots n m)
append_slots (gap n) m = gap (append_slots n m)

abbrev pub behind_instances : Instances → Result Instances RecordFault → Result Instances RecordFault
behind_instances xs r = then_give (append_instances xs) r

abbrev pub behind_slots : Node → Result Node RecordFault → Result Node RecordFault
behind_slots n r = then_give (append_slots n) r

append_instances-assoc : (xs ys zs : Instances) → append_instances (append_instances xs ys) zs ≡ append_instances xs (append_instances ys zs)
append_instances-assoc no_instances ys zs = refl
append_instances-assoc (instance x xs) ys zs = ap (instance x) (append_instances-assoc xs ys zs)

append_slots-assoc : (n m k : Node) → append_slots (append_slots n m) k ≡ append_slots n (append_slots m k)
append_slots-assoc no_slots m k = refl
append_slots-assoc (slot xs n) m k = ap (slot xs) (append_slots-assoc n m k)
append_slots-assoc (gap n) m k = ap gap (append_slots-assoc n m k)

append_instances-nothing : (xs : Instances) → append_instances xs no_instances ≡ xs
append_instances-nothing no_instances = refl
append_instances-nothing (instance x xs) = ap (instance x) (append_instances-nothing xs)

append_slots-nothing : (n : Node) → append_slots n no_slots ≡ n
append_slots-nothing no_slots = refl
append_slots-nothing (slot xs n) = ap (slot xs) (append_slots-nothing n)
append_slots-nothing (gap n) = ap gap (append_slots-nothing n)

behind_one_instance : (xs : Instances) (x : Instance) (r : Result Instances RecordFault) → behind_instances xs (then_give (instance x) r) ≡ behind_instances (append_instances xs (instance x no_instances)) r
behind_one_instance xs x (Ok ys) = ap Ok (sym (append_instances-assoc xs (instance x no_instances) ys))
behind_one_instance xs x (Err e) = refl

behind_one_slot : (n : Node) (xs : Instances) (r : Result Node RecordFault) → behind_slots n (then_give (slot xs) r) ≡ behind_slots (append_slots n (slot xs no_slots)) r
behind_one_slot n xs (Ok m) = ap Ok (sym (append_slots-assoc n (slot xs no_slots) m))
behind_one_slot n xs (Err e) = refl

-- ---- the views of what was read

instances_view-snoc : (xs : List code_instance.Instance) (x : code_instance.Instance) → append_instances (instances_view xs) (instance (instance_view x) no_instances) ≡ instances_view (xs ++ x ∷ [])
instances_view-snoc [] x = refl
instances_view-snoc (y ∷ xs) x = ap (instance (instance_view y)) (instances_view-snoc xs x)

slots_view-snoc_at : (s : Option Instances) (ss ts : List (Option Instances)) (m : Node) → append_slots (slots_from ss) m ≡ slots_from ts → append_slots (slots_from (s ∷ ss)) m ≡ slots_from (s ∷ ts)
slots_view-snoc_at None ss ts m e = ap gap e
slots_view-snoc_at (Some xs) ss ts m e = ap (slot xs) e

slots_view-snoc : (ss : List code_slot.Slot) (xs : Vec code_instance.Instance Global) → append_slots (slots_view ss) (slot (instances_view xs.items) no_slots) ≡ slots_view (ss ++ code_slot.Held xs ∷ [])
slots_view-snoc [] xs = rw view-held refl
slots_view-snoc (s ∷ ss) xs = slots_view-snoc_at (slot_view s) _ _ _ (slots_view-snoc ss xs)

-- ---- the next element of a list

pub is_null-as_null : (d : Data) → is_null d ≡ is_some (as_null d)
is_null-as_null null = refl
is_null-as_null (boolean b) = refl
is_null-as_null (number n) = refl
is_null-as_null (string s) = refl
is_null-as_null (array ds) = refl
is_null-as_null (object ms) = refl

pub next_in : {X : Type 0} (xs : List X) (i : ℕ) (x : X) → i < length xs → x ≡ get_or xs i x → drop i xs ≡ x ∷ drop (i + 1) xs
next_in xs i x h is = drop_more xs i x h ∙ ap (λ y. y ∷ drop (i + 1) xs) (sym is)

module _ (f : Data → Result Instance RecordFault) (all : List Value) (i : ℕ) (d : Value) (xs : Instances) (m : Result Instances RecordFault)
    (h : i < length all) (is : d ≡ get_or all i d) (so_far : m ≡ behind_instances xs (each_element f (items_view (drop i all)))) where
  at_element : m ≡ behind_instances xs (each_element f (items_view (d ∷ drop (i + 1) all)))
  at_element = so_far ∙ ap (λ (vs : List Value). behind_instances xs (each_element f (items_view vs))) (next_in all i d h is)

  -- it is read
  pub element_read : (x : Instance) → is_some (as_null (view d)) ≡ false → f (view d) ≡ Ok x → m ≡ behind_instances (append_instances xs (instance x no_instances)) (each_element f (items_view (drop (i + 1) all)))
  element_read x n r = at_element ∙ rw (is_null-as_null (view d), n, r) (behind_one_instance xs x _)

-- ---- the next field of a group

pub field_first : (f : Field) (fs : List Field) → fields_view (f ∷ fs) ≡ tree.field (string_bytes f.name) (rep_view f.rep) (shape_view f.shape) (fields_view fs)
field_first f fs = rw (view-field f) refl

-- what stands for a field in an object
abbrev pub read_field : Field → Members → Result Instances RecordFault
read_field f ms = field_instances (rep_view f.rep) (instance_of (shape_view f.shape)) (given (get_member (string_bytes f.name) ms))

pub read_found : (f : Field) (ms : Members) (o : Option Data) → given (get_member (string_bytes f.name) ms) ≡ o → read_field f ms ≡ field_instances (rep_view f.rep) (instance_of (shape_view f.shape)) o
read_found f ms o e = ap (field_instances (rep_view f.rep) (instance_of (shape_view f.shape))) e

module _ (all : List Field) (i : ℕ) (f : Field) (h : i < length all) (is : f ≡ get_or all i f) where
  group_here : tree.is_group (fields_view (drop i all)) ≡ true → tree.is_group (tree.field (string_bytes f.name) (rep_view f.rep) (shape_view f.shape) (fields_view (drop (i + 1) all))) ≡ true
  group_here g = ap tree.is_group (sym (field_first f (drop (i + 1) all)) ∙ ap fields_view (sym (next_in all i f h is))) ∙ g

  pub shape_valid : tree.is_group (fields_view (drop i all)) ≡ true → tree.is_shape (shape_view f.shape) ≡ true
  shape_valid g = and_right _ (tree.is_shape (shape_view f.shape)) (and_left _ (tree.is_group (fields_view (drop (i + 1) all))) (group_here g))

  pub rest_valid : tree.is_group (fields_view (drop i all)) ≡ true → tree.is_group (fields_view (drop (i + 1) all)) ≡ true
  rest_valid g = and_right _ (tree.is_group (fields_view (drop (i + 1) all))) (group_here g)

  module _ (ms : Members) (n : Node) (m : Result Node RecordFault) (so_far : m ≡ behind_slots n (slots_of (fields_view (drop i all)) ms)) where
    at_field : m ≡ behind_slots n (after (λ xs. then_give (slot xs) (slots_of (fields_view (drop (i + 1) all)) ms)) (read_field f ms))
    at_field = so_far ∙ ap (λ (fs : tree.Fields). behind_slots n (slots_of fs ms)) (ap fields_view (next_in all i f h is) ∙ field_first f (drop (i + 1) all))

    -- it is faulty
    pub field_fault : (e : RecordFault) → read_field f ms ≡ Err e → m ≡ Err e
    field_fault e r = at_field ∙ rw r refl

    -- it is read
    pub field_read : (xs : Instances) → read_field f ms ≡ Ok xs → m ≡ behind_slots (append_slots n (slot xs no_slots)) (slots_of (fields_view (drop (i + 1) all)) ms)
    field_read xs r = at_field ∙ rw r (behind_one_slot n xs _)

-- ---- the end

pub elements_end : (f : Data → Result Instance RecordFault) (all : List Value) (i : ℕ) (xs : Instances) (m : Result Instances RecordFault) → length all ≤ i → m ≡ behind_instances xs (each_element f (items_view (drop i all))) → m ≡ Ok xs
elements_end f all i xs m h e = e ∙ rw (drop_all i all h) (ap Ok (append_instances-nothing xs))

pub fields_end : (all : List Field) (i : ℕ) (ms : Members) (n : Node) (m : Result Node RecordFault) → length all ≤ i → m ≡ behind_slots n (slots_of (fields_view (drop i all)) ms) → m ≡ Ok n
fields_end all i ms n m h e = e ∙ rw (drop_all i all h) (ap Ok (append_slots-nothing n))

-- a fault of a part is the fault of the whole
pub fault_passes : {A B : Type 0} (m : Result A RecordFault) (k : Result B RecordFault) (o : Option RecordFault) → ((e : RecordFault) → k ≡ Err e → m ≡ Err e) → MatchOption o ⊤ (λ e. k ≡ Err e) → MatchOption o ⊤ (λ e. m ≡ Err e)
fault_passes m k None h p = tt
fault_passes m k (Some e) h p = h e p

-- what `?` gives on
pub gives_from : {A B : Type 0} (see : A → B) (m : Result B RecordFault) (r : Result A code_fault.RecordFault) (e : code_fault.RecordFault)
    → IsErrAnd r (λ x. x ≡ e) → MatchOption (record_fault_view e) ⊤ (λ f. m ≡ Err f) → Gives see record_fault_view m r
gives_from see m (Ok a) e h p = absurd h
gives_from see m (Err x) e h p = let P : code_fault.RecordFault → Type 0 = λ y. MatchOption (record_fault_view y) ⊤ (λ f. m ≡ Err f) in subst P (sym h) p

-- ---- how deep a schema goes

-- a field's shape is less deep than its group
pub shape_depth-field : (all : List Field) (i : ℕ) (f : Field) → i < length all → f ≡ get_or all i f → tree.shape_depth (shape_view f.shape) + 1 ≤ tree.depth (fields_view all)
shape_depth-field [] i f h is = absurd (omega arith)
shape_depth-field (g ∷ all) zero f h is = rw (is, view-field g) (omega arith)
shape_depth-field (g ∷ all) (suc i) f h is =
    let later = shape_depth-field all i f (omega arith) is in
    rw (view-field g) (omega arith)

-- ---- one more, as the loops push it

pub instances_pushed : (xs ys : List code_instance.Instance) (x : code_instance.Instance) (m r : Result Instances RecordFault) → ys ≡ xs ++ x ∷ [] → m ≡ behind_instances (append_instances (instances_view xs) (instance (instance_view x) no_instances)) r → m ≡ behind_instances (instances_view ys) r
instances_pushed xs ys x m r p e = e ∙ ap (λ (zs : Instances). behind_instances zs r) (instances_view-snoc xs x ∙ ap instances_view (sym p))

pub slots_pushed : (ss ts : List code_slot.Slot) (xs : Vec code_instance.Instance Global) (m r : Result Node RecordFault) → ts ≡ ss ++ code_slot.Held xs ∷ [] → m ≡ behind_slots (append_slots (slots_view ss) (slot (instances_view xs.items) no_slots)) r → m ≡ behind_slots (slots_view ts) r
slots_pushed ss ts xs m r p e = e ∙ ap (λ (n : Node). behind_slots n r) (slots_view-snoc ss xs ∙ ap slots_view (sym p))

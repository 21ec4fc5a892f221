-- What is printed of strips are the lines of what is restored of them.
use Rattle.std.proofs.Common.{◌≡◌, ℕ, zero, suc, ◌+◌, List, [], ◌∷◌, ◌++◌, Bool, true, false, Option, Some, None, refl, sym, ap, ap₂, ◌∙◌}
use Rattle.std.specs.Prelude.{option_map, option_and_then, if◌then◌else◌, nat_lt}
use Rattle.dr_meaning.specs.Schema.{Repetition, required, optional, repeated, Kind, Fields, no_fields, field, Shape, leaf, group, repetition_count, definition_count}
use Rattle.dr_meaning.specs.Record.{Value, Node, Instances, no_instances, Instance, atom, inner, instance, is_of_kind}
use Rattle.dr_meaning.specs.Print.{value_text, member_text, braced, bracketed, atom_text, inner_text, instance_texts, field_members, record_members, shape_text, record_text}
use Rattle.dr_nested.specs.Views.{instances_of}
use Rattle.dr_assemble.specs.Restoring.{Strip, front_at, after_front, count_pieces, first_pieces, other_pieces, first_definition, first_strip_value, before, restored_each, restored_slot, slot_before, onto_node, atom_of, assembled, assembled_one}
use Rattle.dr_assemble.specs.Lines.{text_of_value, text_each, text_held, is_printed, part_if, text_members, text_one, ended, strip_lines, lines_text}

-- ---- the parts of what was restored

before_parts : {A : Type 0} (o : Option A) (r : Option (List A)) (xs : List A) → before o r ≡ Some xs → (x : A) × (ys : List A) × (o ≡ Some x) × (r ≡ Some ys) × (xs ≡ x ∷ ys)
before_parts None r xs e = absurd (cc)
before_parts (Some x) None xs e = absurd (cc)
before_parts (Some x) (Some ys) xs e = (x, ys, refl, refl, cc)

slot_parts : (o : Option (Option Instances)) (r : Option Node) (n : Node) → slot_before o r ≡ Some n → (p : Option Instances) × (m : Node) × (o ≡ Some p) × (r ≡ Some m) × (n ≡ onto_node p m)
slot_parts None r n e = absurd (cc)
slot_parts (Some p) None n e = absurd (cc)
slot_parts (Some p) (Some m) n e = (p, m, refl, refl, cc)

inner_part : (q : Option Node) (x : Instance) → option_map inner q ≡ Some x → (n : Node) × (q ≡ Some n) × (x ≡ inner n)
inner_part None x e = absurd (cc)
inner_part (Some n) x e = (n, refl, cc)

-- ---- a field

-- the members of a field by its slot
abbrev slot_texts : Repetition → List ℕ → (Instance → List ℕ) → Option Instances → List (List ℕ)
slot_texts r m t None = []
slot_texts r m t (Some xs) = field_members r m (instance_texts t xs)

abbrev held_slot : Option (List Instance) → Option (Option Instances)
held_slot o = option_map (λ xs. Some (instances_of xs)) o

abbrev one_instance : Option Instance → Option (List Instance)
one_instance o = option_map (λ x. x ∷ []) o

module _ (f : List Strip → Option Instance) (g : List Strip → List ℕ) (t : Instance → List ℕ) (same : (S : List Strip) (x : Instance) → f S ≡ Some x → g S ≡ t x) where
  each_same : (l n : ℕ) (S : List Strip) (xs : List Instance) → restored_each f l n S ≡ Some xs → text_each g l n S ≡ instance_texts t (instances_of xs)
  each_same l zero S xs e = let h : xs ≡ [] = cc in ap (λ (ys : List Instance). instance_texts t (instances_of ys)) (sym h)
  each_same l (suc n) S xs e =
      let p = before_parts (f (first_pieces l S)) (restored_each f l n (other_pieces l S)) xs e in
      ap₂ (λ (u : List ℕ) (us : List (List ℕ)). u ∷ us) (same (first_pieces l S) p.0 p.2) (each_same l n (other_pieces l S) p.1 p.3)
      ∙ ap (λ (ys : List Instance). instance_texts t (instances_of ys)) (sym p.4)

  one_held : (q : Option Instance) (m u : List ℕ) (o : Option Instances) → ((x : Instance) → q ≡ Some x → u ≡ t x) → held_slot (one_instance q) ≡ Some o → member_text m u ∷ [] ≡ slot_texts required m t o
  one_held None m u o h e = absurd (cc)
  one_held (Some x) m u o h e = let i : o ≡ Some (instance x no_instances) = cc in ap (λ (v : List ℕ). member_text m v ∷ []) (h x refl) ∙ ap (slot_texts required m t) (sym i)

  maybe_held : (b : Bool) (q : Option Instance) (m u : List ℕ) (o : Option Instances) → ((x : Instance) → q ≡ Some x → u ≡ t x) → held_slot (if b then one_instance q else Some []) ≡ Some o
      → part_if b (member_text m u) ≡ slot_texts optional m t o
  maybe_held true None m u o h e = absurd (cc)
  maybe_held true (Some x) m u o h e = let i : o ≡ Some (instance x no_instances) = cc in ap (λ (v : List ℕ). member_text m v ∷ []) (h x refl) ∙ ap (slot_texts optional m t) (sym i)
  maybe_held false q m u o h e = let i : o ≡ Some no_instances = cc in ap (slot_texts optional m t) (sym i)

  some_held : (q : Option (List Instance)) (o : Option Instances) → held_slot q ≡ Some o → (xs : List Instance) × (q ≡ Some xs) × (o ≡ Some (instances_of xs))
  some_held None o e = absurd (cc)
  some_held (Some xs) o e = (xs, refl, cc)

  list_held : (b : Bool) (l n : ℕ) (S : List Strip) (m : List ℕ) (o : Option Instances) → held_slot (if b then restored_each f l n S else Some []) ≡ Some o
      → member_text m (bracketed (text_each g l (if b then n else 0) S)) ∷ [] ≡ slot_texts repeated m t o
  list_held true l n S m o e =
      let p = some_held (restored_each f l n S) o e in
      ap (λ (us : List (List ℕ)). member_text m (bracketed us) ∷ []) (each_same l n S p.0 p.1) ∙ ap (slot_texts repeated m t) (sym p.2)
  list_held false l n S m o e = let i : o ≡ Some no_instances = cc in ap (slot_texts repeated m t) (sym i)

  member_same : (r : Repetition) (m : List ℕ) (l d : ℕ) (S : List Strip) (o : Option Instances) → restored_slot r f l d S ≡ Some o
      → part_if (is_printed r d S) (member_text m (text_held r g l d S)) ≡ slot_texts r m t o
  member_same required m l d [] o e = let i : o ≡ None = cc in ap (slot_texts required m t) (sym i)
  member_same optional m l d [] o e = let i : o ≡ None = cc in ap (slot_texts optional m t) (sym i)
  member_same repeated m l d [] o e = let i : o ≡ None = cc in ap (slot_texts repeated m t) (sym i)
  member_same required m l d (h ∷ S) o e = one_held (f (h ∷ S)) m (g (h ∷ S)) o (same (h ∷ S)) e
  member_same optional m l d (h ∷ S) o e = maybe_held (nat_lt d (first_definition h.triplets)) (f (h ∷ S)) m (g (h ∷ S)) o (same (h ∷ S)) e
  member_same repeated m l d (h ∷ S) o e = list_held (nat_lt d (first_definition h.triplets)) l (count_pieces l h.triplets) (h ∷ S) m o e

-- ---- a leaf

kind_same : (b : Bool) (v : Value) (x : Instance) → (if b then Some (atom v) else None) ≡ Some x → value_text v ≡ atom_text x
kind_same true v x e = let h : x ≡ atom v = cc in ap atom_text (sym h)
kind_same false v x e = absurd (cc)

value_same : (k : Kind) (v : Option Value) (x : Instance) → option_and_then (atom_of k) v ≡ Some x → text_of_value v ≡ atom_text x
value_same k None x e = absurd (cc)
value_same k (Some v) x e = kind_same (is_of_kind k v) v x e

-- ---- a group

members_onto : (m : List ℕ) (r : Repetition) (s : Shape) (fs : Fields) (o : Option Instances) (n : Node) → record_members (field m r s fs) (onto_node o n) ≡ slot_texts r m (shape_text s) o ++ record_members fs n
members_onto m r s fs None n = refl
members_onto m r s fs (Some xs) n = refl

mutual
  members_same : (fs : Fields) (i l d : ℕ) (S : List Strip) (n : Node) → assembled fs i l d S ≡ Some n → text_members fs i l d S ≡ record_members fs n
  members_same no_fields i l d S n e = refl
  members_same (field m r s fs) i l d S n e =
      let lv : ℕ = l + repetition_count r in
      let dv : ℕ = d + definition_count r in
      let p = slot_parts (restored_slot r (assembled_one s lv dv) lv d (front_at i S)) (assembled fs (suc i) l d (after_front i S)) n e in
      ap₂ (λ (us vs : List (List ℕ)). us ++ vs)
      (member_same (assembled_one s lv dv) (text_one s lv dv) (shape_text s) (λ (T : List Strip) (x : Instance) (h : assembled_one s lv dv T ≡ Some x). one_same s lv dv T x h) r m lv d (front_at i S) p.0 p.2)
      (members_same fs (suc i) l d (after_front i S) p.1 p.3)
      ∙ sym (members_onto m r s fs p.0 p.1)
      ∙ ap (record_members (field m r s fs)) (sym p.4)

  one_same : (s : Shape) (l d : ℕ) (S : List Strip) (x : Instance) → assembled_one s l d S ≡ Some x → text_one s l d S ≡ shape_text s x
  one_same (leaf k) l d S x e = value_same k (first_strip_value S) x e
  one_same (group fs) l d S x e =
      let p = inner_part (assembled fs 0 l d S) x e in
      ap braced (members_same fs 0 l d S p.0 p.1) ∙ ap (inner_text (record_members fs)) (sym p.2)

-- ---- lines

line_same : (fs : Fields) (S : List Strip) (n : Node) → assembled fs 0 0 0 S ≡ Some n → ended (text_one (group fs) 0 0 S) ≡ record_text fs n
unfolding record_text
line_same fs S n e = ap (λ (us : List (List ℕ)). braced us ++ 10 ∷ []) (members_same fs 0 0 0 S n e)

pub lines_same : (fs : Fields) (rows : ℕ) (S : List Strip) (P : List Node) → restored_each (assembled fs 0 0 0) 0 rows S ≡ Some P → strip_lines fs rows S ≡ lines_text fs P
lines_same fs zero S P e = let h : P ≡ [] = cc in ap (lines_text fs) (sym h)
lines_same fs (suc n) S P e =
    let p = before_parts (assembled fs 0 0 0 (first_pieces 0 S)) (restored_each (assembled fs 0 0 0) 0 n (other_pieces 0 S)) P e in
    ap₂ (λ (u v : List ℕ). u ++ v) (line_same fs (first_pieces 0 S) p.0 p.2) (lines_same fs n (other_pieces 0 S) p.1 p.3)
    ∙ ap (lines_text fs) (sym p.4)

-- Whatever is restored is the projection of a record: the fields that no strip leads into are filled.
use Rattle.std.proofs.Common.{◌≡◌, ℕ, zero, suc, ◌+◌, List, [], ◌∷◌, map, length, Bool, true, false, ◌&&◌, Option, Some, None, refl, sym, ap, ap₂, ◌∙◌, subst}
use Rattle.std.specs.Prelude.{nat_lt, if◌then◌else◌, option_map, option_and_then, pos}
use Rattle.std.specs.List.{list_all}
use Rattle.std.proofs.lemmas.Str.{is_utf8-from_IsUtf8, IsUtf8-nil}
use Rattle.dr_meaning.specs.Schema.{Repetition, required, optional, repeated, Kind, bool_kind, int32_kind, int64_kind, text_kind, Fields, no_fields, field, Shape, leaf, group, repetition_count, definition_count}
use Rattle.dr_meaning.specs.Path.{Step}
use Rattle.dr_meaning.specs.Record as record_tree
use Rattle.dr_meaning.specs.Record.{Value, bool_value, int_value, text_value, Node, no_slots, slot, Instances, no_instances, instance, Instance, atom, inner, is_of_kind, count_instances, fits_repetition, all_instances, is_record, is_instance, slot_for, project, project_all, project_one}
use Rattle.dr_meaning.specs.Column.{Triplet}
use Rattle.dr_nested.specs.Views.{instances_of}
use Rattle.dr_assemble.specs.Restoring.{Strip, count_pieces, first_pieces, other_pieces, before, restored_each, first_definition, first_strip_value, restored_instances, restored_slot, onto_node, slot_before, restored_atom, has_rows, rests}
use Rattle.dr_assemble.proofs.ByPaths.{here_if, here_strip, strips_here, there_if, there_strip, strips_there, restored, restored_one, restored_records}

-- ---- the paths of strips

rests-here_if : (i : ℕ) (p : List Step) (ts : List Triplet) (S : List Strip) (F : List (List Step)) → rests S ≡ F → rests (here_if i p ts S) ≡ record_tree.through_first_if i p F
rests-here_if zero p ts S F e = ap (λ (G : List (List Step)). p ∷ G) e
rests-here_if (suc i) p ts S F e = e

rests-here_strip : (p : List Step) (ts : List Triplet) (S : List Strip) (F : List (List Step)) → rests S ≡ record_tree.through_first F → rests (here_strip p ts S) ≡ record_tree.through_first (p ∷ F)
rests-here_strip [] ts S F e = e
rests-here_strip (s ∷ p) ts S F e = rests-here_if s.place p ts S (record_tree.through_first F) e

pub rests-here : (S : List Strip) → rests (strips_here S) ≡ record_tree.through_first (rests S)
rests-here [] = refl
rests-here (g ∷ S) = rests-here_strip g.rest g.triplets (strips_here S) (rests S) (rests-here S)

rests-there_if : (i : ℕ) (s : Step) (p : List Step) (ts : List Triplet) (S : List Strip) (F : List (List Step)) → rests S ≡ F → rests (there_if i s p ts S) ≡ record_tree.through_later_if i s p F
rests-there_if zero s p ts S F e = e
rests-there_if (suc i) s p ts S F e = ap (λ (G : List (List Step)). (record { place = i; repetition = s.repetition } ∷ p) ∷ G) e

rests-there_strip : (p : List Step) (ts : List Triplet) (S : List Strip) (F : List (List Step)) → rests S ≡ record_tree.through_later F → rests (there_strip p ts S) ≡ record_tree.through_later (p ∷ F)
rests-there_strip [] ts S F e = e
rests-there_strip (s ∷ p) ts S F e = rests-there_if s.place s p ts S (record_tree.through_later F) e

pub rests-there : (S : List Strip) → rests (strips_there S) ≡ record_tree.through_later (rests S)
rests-there [] = refl
rests-there (g ∷ S) = rests-there_strip g.rest g.triplets (strips_there S) (rests S) (rests-there S)

pub rests-first : (l : ℕ) (S : List Strip) → rests (first_pieces l S) ≡ rests S
rests-first l [] = refl
rests-first l (g ∷ S) = ap (λ (G : List (List Step)). g.rest ∷ G) (rests-first l S)

pub rests-other : (l : ℕ) (S : List Strip) → rests (other_pieces l S) ≡ rests S
rests-other l [] = refl
rests-other l (g ∷ S) = ap (λ (G : List (List Step)). g.rest ∷ G) (rests-other l S)

-- ---- what fills a field that no strip leads into

abbrev some_value : Kind → Value
some_value bool_kind = bool_value false
some_value int32_kind = int_value (pos 0)
some_value int64_kind = int_value (pos 0)
some_value text_kind = text_value []

some_value-fits : (k : Kind) → is_of_kind k (some_value k) ≡ true
some_value-fits bool_kind = refl
some_value-fits int32_kind = refl
some_value-fits int64_kind = refl
some_value-fits text_kind = is_utf8-from_IsUtf8 [] IsUtf8-nil

abbrev fewest : Repetition → Instance → Instances
fewest required x = instance x no_instances
fewest optional x = no_instances
fewest repeated x = no_instances

abbrev mutual
  smallest : Fields → Node
  smallest no_fields = no_slots
  smallest (field m r s fs) = slot (fewest r (smallest_one s)) (smallest fs)

  smallest_one : Shape → Instance
  smallest_one (leaf k) = atom (some_value k)
  smallest_one (group fs) = inner (smallest fs)

and-true : (a b : Bool) → a ≡ true → b ≡ true → (a && b) ≡ true
and-true a b h g = ap₂ (λ c d. c && d) h g

and₃-true : (a b c : Bool) → a ≡ true → b ≡ true → c ≡ true → (a && b && c) ≡ true
and₃-true a b c h g k = and-true (a && b) c (and-true a b h g) k

fewest-fit : (r : Repetition) (x : Instance) → fits_repetition r (count_instances (fewest r x)) ≡ true
fewest-fit required x = refl
fewest-fit optional x = refl
fewest-fit repeated x = refl

fewest-good : (good : Instance → Bool) (r : Repetition) (x : Instance) → good x ≡ true → all_instances good (fewest r x) ≡ true
fewest-good good required x h = and-true (good x) true h refl
fewest-good good optional x h = refl
fewest-good good repeated x h = refl

mutual
  smallest-is : (fs : Fields) → is_record fs (smallest fs) ≡ true
  smallest-is no_fields = refl
  smallest-is (field m r s fs) =
      and₃-true (fits_repetition r (count_instances (fewest r (smallest_one s)))) (all_instances (is_instance s) (fewest r (smallest_one s))) (is_record fs (smallest fs))
      (fewest-fit r (smallest_one s)) (fewest-good (is_instance s) r (smallest_one s) (smallest_one-is s)) (smallest-is fs)

  smallest_one-is : (s : Shape) → is_instance s (smallest_one s) ≡ true
  smallest_one-is (leaf k) = some_value-fits k
  smallest_one-is (group fs) = smallest-is fs

-- ---- what gave a result

map_some : {A B : Type 0} (f : A → B) (o : Option A) (b : B) → option_map f o ≡ Some b → (a : A) × (o ≡ Some a) × (f a ≡ b)
map_some f None b e = absurd (cc)
map_some f (Some a) b e = (a, refl, cc)

before_some : {A : Type 0} (o : Option A) (p : Option (List A)) (l : List A) → before o p ≡ Some l → (x : A) × (xs : List A) × (o ≡ Some x) × (p ≡ Some xs) × (x ∷ xs ≡ l)
before_some None p l e = absurd (cc)
before_some (Some x) None l e = absurd (cc)
before_some (Some x) (Some xs) l e = (x, xs, refl, refl, cc)

slot_before_some : (o : Option (Option Instances)) (p : Option Node) (n : Node) → slot_before o p ≡ Some n → (x : Option Instances) × (m : Node) × (o ≡ Some x) × (p ≡ Some m) × (onto_node x m ≡ n)
slot_before_some None p n e = absurd (cc)
slot_before_some (Some x) None n e = absurd (cc)
slot_before_some (Some x) (Some m) n e = (x, m, refl, refl, cc)

-- ---- instances

-- a good instance with this projection
abbrev IsOne : (Instance → Bool) → List (List Step) → Instance → Type 0
IsOne good F x = (y : Instance) × (good y ≡ true) × (project_one F y ≡ x)

-- good instances with these projections
abbrev AreAll : (Instance → Bool) → List (List Step) → ℕ → List Instance → Type 0
AreAll good F n xs = (ys : Instances) × (all_instances good ys ≡ true) × (count_instances ys ≡ n) × (project_all F ys ≡ instances_of xs)

module _ (good : Instance → Bool) (f : List Strip → Option Instance) (G : List (List Step))
    (one : (S : List Strip) (x : Instance) → rests S ≡ G → f S ≡ Some x → IsOne good G x) where
  filled_single : (S : List Strip) (xs : List Instance) → rests S ≡ G → option_map (λ x. x ∷ []) (f S) ≡ Some xs → AreAll good G 1 xs
  filled_single S xs g e =
      let m : (x : Instance) × (f S ≡ Some x) × (x ∷ [] ≡ xs) = map_some (λ x. x ∷ []) (f S) xs e in
      let y : IsOne good G m.0 = one S m.0 g m.1 in
      (instance y.0 no_instances, and-true (good y.0) true y.1 refl, refl, ap (λ (x : Instance). instance x no_instances) y.2 ∙ ap instances_of m.2)

  filled_each : (l n : ℕ) (S : List Strip) (xs : List Instance) → rests S ≡ G → restored_each f l n S ≡ Some xs → AreAll good G n xs
  filled_each l zero S xs g e = (no_instances, refl, refl, let h : [] ≡ xs = cc in ap instances_of h)
  filled_each l (suc n) S xs g e =
      let m : (x : Instance) × (ys : List Instance) × (f (first_pieces l S) ≡ Some x) × (restored_each f l n (other_pieces l S) ≡ Some ys) × (x ∷ ys ≡ xs) = before_some (f (first_pieces l S)) (restored_each f l n (other_pieces l S)) xs e in
      let y : IsOne good G m.0 = one (first_pieces l S) m.0 (rests-first l S ∙ g) m.2 in
      let r : AreAll good G n m.1 = filled_each l n (other_pieces l S) m.1 (rests-other l S ∙ g) m.3 in
      (instance y.0 r.0, and-true (good y.0) (all_instances good r.0) y.1 r.1, ap (λ (k : ℕ). suc k) r.2, ap₂ instance y.2 r.3 ∙ ap instances_of m.4)

  -- as many as the repetition allows
  abbrev FieldFilled : Repetition → List Instance → Type 0
  FieldFilled r xs = (ys : Instances) × (fits_repetition r (count_instances ys) ≡ true) × (all_instances good ys ≡ true) × (project_all G ys ≡ instances_of xs)

  filled_unless : (r : Repetition) (b : Bool) (o : Option (List Instance)) (xs : List Instance) → fits_repetition r 0 ≡ true → ((ys : List Instance) → o ≡ Some ys → FieldFilled r ys) → (if b then o else Some []) ≡ Some xs → FieldFilled r xs
  filled_unless r true o xs z h e = h xs e
  filled_unless r false o xs z h e = (no_instances, z, refl, let g : [] ≡ xs = cc in ap instances_of g)

  one_fits : (r : Repetition) (n : ℕ) → fits_repetition r 1 ≡ true → n ≡ 1 → fits_repetition r n ≡ true
  one_fits r n h e = ap (fits_repetition r) e ∙ h

  filled_instances : (r : Repetition) (l d : ℕ) (ts : List Triplet) (S : List Strip) (xs : List Instance) → rests S ≡ G → restored_instances r f l d ts S ≡ Some xs → FieldFilled r xs
  filled_instances required l d ts S xs g e =
      let a : AreAll good G 1 xs = filled_single S xs g e in
      (a.0, one_fits required (count_instances a.0) refl a.2, a.1, a.3)
  filled_instances optional l d ts S xs g e =
      filled_unless optional (nat_lt d (first_definition ts)) (option_map (λ x. x ∷ []) (f S)) xs refl
      (λ (ys : List Instance) (h : option_map (λ x. x ∷ []) (f S) ≡ Some ys).
      let a : AreAll good G 1 ys = filled_single S ys g h in
      (a.0, one_fits optional (count_instances a.0) refl a.2, a.1, a.3)) e
  filled_instances repeated l d ts S xs g e =
      filled_unless repeated (nat_lt d (first_definition ts)) (restored_each f l (count_pieces l ts) S) xs refl
      (λ (ys : List Instance) (h : restored_each f l (count_pieces l ts) S ≡ Some ys).
      let a : AreAll good G (count_pieces l ts) ys = filled_each l (count_pieces l ts) S ys g h in
      (a.0, refl, a.1, a.3)) e

-- a field's slot in a record, whose projection is this
abbrev SlotFilled : Repetition → (Instance → Bool) → List (List Step) → Option Instances → Type 0
SlotFilled r good G o = (ys : Instances) × (fits_repetition r (count_instances ys) ≡ true) × (all_instances good ys ≡ true) × ((n : Node) → slot_for G (project_all G ys) n ≡ onto_node o n)

filled_slot : (r : Repetition) (s : Shape) (f : List Strip → Option Instance) (l d : ℕ) (S : List Strip) (o : Option Instances)
    → ((T : List Strip) (x : Instance) → f T ≡ Some x → IsOne (is_instance s) (rests T) x)
    → restored_slot r f l d S ≡ Some o → SlotFilled r (is_instance s) (rests S) o
filled_slot r s f l d [] o one e =
    let h : None ≡ o = cc in
    (fewest r (smallest_one s), fewest-fit r (smallest_one s), fewest-good (is_instance s) r (smallest_one s) (smallest_one-is s), λ (n : Node). ap (λ (p : Option Instances). onto_node p n) h)
filled_slot r s f l d (g ∷ S) o one e =
    let m : (xs : List Instance) × (restored_instances r f l d g.triplets (g ∷ S) ≡ Some xs) × (Some (instances_of xs) ≡ o) = map_some (λ xs. Some (instances_of xs)) (restored_instances r f l d g.triplets (g ∷ S)) o e in
    let G : List (List Step) = rests (g ∷ S) in
    let a : (ys : Instances) × (fits_repetition r (count_instances ys) ≡ true) × (all_instances (is_instance s) ys ≡ true) × (project_all (rests (g ∷ S)) ys ≡ instances_of m.0) =
    filled_instances (is_instance s) f (rests (g ∷ S)) (λ (T : List Strip) (x : Instance) (k : rests T ≡ rests (g ∷ S)) (h : f T ≡ Some x). subst (λ (H : List (List Step)). IsOne (is_instance s) H x) k (one T x h)) r l d g.triplets (g ∷ S) m.0 refl m.1 in
    (a.0, a.1, a.2, λ (n : Node). ap (λ (ys : Instances). slot ys n) a.3 ∙ ap (λ (p : Option Instances). onto_node p n) m.2)

-- ---- nodes

filled_atom : (k : Kind) (G : List (List Step)) (o : Option Value) (x : Instance) → option_and_then (λ v. if is_of_kind k v then Some (atom v) else None) o ≡ Some x → IsOne (is_instance (leaf k)) G x
filled_atom k G None x e = absurd (cc)
filled_atom k G (Some v) x e = kept (is_of_kind k v) refl e where
  kept : (b : Bool) → is_of_kind k v ≡ b → (if b then Some (atom v) else None) ≡ Some x → IsOne (is_instance (leaf k)) G x
  kept true h g = (atom v, h, cc)
  kept false h g = absurd (cc)

filled_leaf : (k : Kind) (S : List Strip) (x : Instance) → restored_atom k S ≡ Some x → IsOne (is_instance (leaf k)) (rests S) x
filled_leaf k S x e = filled_atom k (rests S) (first_strip_value S) x e

mutual
  pub filled_node : (fs : Fields) (l d : ℕ) (S : List Strip) (n : Node) → restored fs l d S ≡ Some n → (m : Node) × (is_record fs m ≡ true) × (project (rests S) m ≡ n)
  filled_node no_fields l d S n e = (no_slots, refl, cc)
  filled_node (field m r s fs) l d S n e =
      let f : List Strip → Option Instance = restored_one s (l + repetition_count r) (d + definition_count r) in
      let a : Option (Option Instances) = restored_slot r f (l + repetition_count r) d (strips_here S) in
      let g : (o : Option Instances) × (k : Node) × (restored_slot r f (l + repetition_count r) d (strips_here S) ≡ Some o) × (restored fs l d (strips_there S) ≡ Some k) × (onto_node o k ≡ n) = slot_before_some (restored_slot r f (l + repetition_count r) d (strips_here S)) (restored fs l d (strips_there S)) n e in
      let h : SlotFilled r (is_instance s) (rests (strips_here S)) g.0 = filled_slot r s f (l + repetition_count r) d (strips_here S) g.0 (λ (T : List Strip) (x : Instance). filled_one s (l + repetition_count r) (d + definition_count r) T x) g.2 in
      let t : (k : Node) × (is_record fs k ≡ true) × (project (rests (strips_there S)) k ≡ g.1) = filled_node fs l d (strips_there S) g.1 g.3 in (
        slot h.0 t.0,
        and₃-true (fits_repetition r (count_instances h.0)) (all_instances (is_instance s) h.0) (is_record fs t.0) h.1 h.2 t.1,
        ap₂ (λ (F G : List (List Step)). slot_for F (project_all F h.0) (project G t.0)) (sym (rests-here S)) (sym (rests-there S))
            ∙ h.3 (project (rests (strips_there S)) t.0) ∙ ap (onto_node g.0) t.2 ∙ g.4,
      )

  filled_one : (s : Shape) (l d : ℕ) (S : List Strip) (x : Instance) → restored_one s l d S ≡ Some x → IsOne (is_instance s) (rests S) x
  filled_one (leaf k) l d S x e = filled_leaf k S x e
  filled_one (group fs) l d S x e =
      let m : (n : Node) × (restored fs l d S ≡ Some n) × (inner n ≡ x) = map_some inner (restored fs l d S) x e in
      let k : (k : Node) × (is_record fs k ≡ true) × (project (rests S) k ≡ m.0) = filled_node fs l d S m.0 m.1 in
      (inner k.0, k.1, ap inner k.2 ∙ m.2)

-- ---- records

-- so many records with these projections
abbrev pub AreRecords : Fields → List (List Step) → ℕ → List Node → Type 0
AreRecords fs F rows P = (R : List Node) × (list_all (is_record fs) R ≡ true) × (length R ≡ rows) × (map (project F) R ≡ P)

filled_nodes : (fs : Fields) (F : List (List Step)) (rows : ℕ) (S : List Strip) (P : List Node) → rests S ≡ F → restored_each (restored fs 0 0) 0 rows S ≡ Some P → AreRecords fs F rows P
filled_nodes fs F zero S P g e = ([], refl, refl, cc)
filled_nodes fs F (suc n) S P g e =
    let m : (x : Node) × (xs : List Node) × (restored fs 0 0 (first_pieces 0 S) ≡ Some x) × (restored_each (restored fs 0 0) 0 n (other_pieces 0 S) ≡ Some xs) × (x ∷ xs ≡ P) = before_some (restored fs 0 0 (first_pieces 0 S)) (restored_each (restored fs 0 0) 0 n (other_pieces 0 S)) P e in
    let y : (k : Node) × (is_record fs k ≡ true) × (project (rests (first_pieces 0 S)) k ≡ m.0) = filled_node fs 0 0 (first_pieces 0 S) m.0 m.2 in
    let r : AreRecords fs F n m.1 = filled_nodes fs F n (other_pieces 0 S) m.1 (rests-other 0 S ∙ g) m.3 in (
      y.0 ∷ r.0,
      and-true (is_record fs y.0) (list_all (is_record fs) r.0) y.1 r.1,
      ap (λ (k : ℕ). suc k) r.2,
      ap₂ (λ (x : Node) (xs : List Node). x ∷ xs) (ap (λ (G : List (List Step)). project G y.0) (sym (rests-first 0 S ∙ g)) ∙ y.2) r.3 ∙ m.4,
    )

if_some : {A : Type 0} (b : Bool) (o : Option A) (a : A) → (if b then o else None) ≡ Some a → o ≡ Some a
if_some true o a e = e
if_some false o a e = absurd (cc)

-- whatever is restored are the projections of records
pub filled_records : (fs : Fields) (rows : ℕ) (S : List Strip) (P : List Node) → restored_records fs rows S ≡ Some P → AreRecords fs (rests S) rows P
filled_records fs rows S P e = filled_nodes fs (rests S) rows S P refl (if_some (has_rows rows S) (restored_each (restored fs 0 0) 0 rows S) P e)

-- What the loops restore, one after another.
use Rattle.std.proofs.Common.{◌≡◌, ℕ, zero, suc, ◌+◌, ◌<◌, ◌≤◌, List, [], ◌∷◌, ◌++◌, length, get_or, take, drop, true, Option, Some, None, refl, sym, ap, ◌∙◌, subst, arith, add-one, append_assoc, append-nil, string_bytes}
use Rattle.std.specs.Prelude.{option_map, nat_lt, Result, Ok, Err}
use Rattle.std.specs.Result.{IsErrAnd}
use Rattle.std.proofs.lemmas.List.{drop_more, drop_all, take_all}
use Rattle.dr_meaning.specs.Schema as tree
use Rattle.dr_meaning.specs.Record.{Node, no_slots, Instances}
use Rattle.dr_meaning.specs.Column.{Triplet}
use Rattle.dr_nested.specs.declared.shape.Field.{Field}
use Rattle.dr_nested.specs.declared.shape.Rep.{Rep}
use Rattle.dr_nested.specs.Views.{fields_view, shape_view, rep_view, slots_of}
use Rattle.dr_nested.proofs.ViewLemmas.{view-field}
use Rattle.dr_assemble.specs.Restoring.{Strip, front_at, after_front, first_pieces, other_pieces, before, restored_each, first_definition, count_pieces, onto_node, slot_before, assembled, assembled_one, assembled_field, field_instances}
use Rattle.dr_assemble.specs.Views.{Restores}
use Rattle.dr_walk.specs.declared.fault.AssembleFault.{AssembleFault}

-- ---- one instance after another

-- what was restored, and then the rest
abbrev pub behind : {A : Type 0} → List A → Option (List A) → Option (List A)
behind xs o = option_map (λ ys. xs ++ ys) o

behind_one : {A : Type 0} (xs : List A) (x : A) (o : Option (List A)) → behind xs (before (Some x) o) ≡ behind (xs ++ x ∷ []) o
behind_one xs x None = refl
behind_one xs x (Some ys) = ap Some (sym (append_assoc xs (x ∷ []) ys))

module _ {A : Type 0} (f : List Strip → Option A) (l n k : ℕ) (S : List Strip) (xs : List A) (m : Option (List A)) (so_far : m ≡ behind xs (restored_each f l n S)) (one_left : n ≡ suc k) where
  at_instance : m ≡ behind xs (before (f (first_pieces l S)) (restored_each f l k (other_pieces l S)))
  at_instance = so_far ∙ ap (λ (i : ℕ). behind xs (restored_each f l i S)) one_left

  pub instance_more : (x : A) → f (first_pieces l S) ≡ Some x → m ≡ behind (xs ++ x ∷ []) (restored_each f l k (other_pieces l S))
  instance_more x e = at_instance ∙ ap (λ (o : Option A). behind xs (before o (restored_each f l k (other_pieces l S)))) e ∙ behind_one xs x (restored_each f l k (other_pieces l S))

  pub instance_fails : f (first_pieces l S) ≡ None → m ≡ None
  instance_fails e = at_instance ∙ ap (λ (o : Option A). behind xs (before o (restored_each f l k (other_pieces l S)))) e

pub instances_end : {A : Type 0} (f : List Strip → Option A) (l n : ℕ) (S : List Strip) (xs : List A) (m : Option (List A)) → m ≡ behind xs (restored_each f l n S) → n ≡ 0 → m ≡ Some xs
instances_end f l n S xs m so_far e = so_far ∙ ap (λ (i : ℕ). behind xs (restored_each f l i S)) e ∙ ap Some (append-nil xs)

-- ---- a vector whose elements were all written

pub written_back : {X : Type 0} (w v : List X) (n : ℕ) → length w ≡ length v → n ≡ length v → take n (w ++ drop (length w) v) ≡ w
written_back {X = X} w v n h g =
    let none : drop (length w) v ≡ [] = drop_all (length w) v (omega arith) in
    ap (λ (x : List X). take n (w ++ x)) none ∙ ap (take n) (append-nil w) ∙ take_all n w (omega arith)

-- ---- one slot after another

-- slots before a node
abbrev pub onto : List (Option Instances) → Node → Node
onto [] n = n
onto (o ∷ os) n = onto_node o (onto os n)

onto_push : (os : List (Option Instances)) (o : Option Instances) (n : Node) → onto os (onto_node o n) ≡ onto (os ++ o ∷ []) n
onto_push [] o n = refl
onto_push (p ∷ os) o n = ap (onto_node p) (onto_push os o n)

slots_onto : (o : Option Instances) (os : List (Option Instances)) → onto_node o (slots_of os) ≡ slots_of (o ∷ os)
slots_onto None os = refl
slots_onto (Some xs) os = refl

onto_end : (os : List (Option Instances)) → onto os no_slots ≡ slots_of os
onto_end [] = refl
onto_end (o ∷ os) = ap (onto_node o) (onto_end os) ∙ slots_onto o os

-- what was restored, and then the rest of the node
abbrev pub behind_slots : List (Option Instances) → Option Node → Option Node
behind_slots os o = option_map (onto os) o

behind_one_slot : (os : List (Option Instances)) (o : Option Instances) (n : Option Node) → behind_slots os (slot_before (Some o) n) ≡ behind_slots (os ++ o ∷ []) n
behind_one_slot os o None = refl
behind_one_slot os o (Some n) = ap Some (onto_push os o n)

pub field_first : (f : Field) (fs : List Field) → fields_view (f ∷ fs) ≡ tree.field (string_bytes f.name) (rep_view f.rep) (shape_view f.shape) (fields_view fs)
field_first f fs = rw (view-field f) refl

pub next_in : {X : Type 0} (xs : List X) (i : ℕ) (x : X) → i < length xs → x ≡ get_or xs i x → drop i xs ≡ x ∷ drop (i + 1) xs
next_in xs i x h is = drop_more xs i x h ∙ ap (λ y. y ∷ drop (i + 1) xs) (sym is)

module _ (all : List Field) (k : ℕ) (f : Field) (h : k < length all) (is : f ≡ get_or all k f) (l d : ℕ) (S : List Strip) (os : List (Option Instances)) (m : Option Node)
    (so_far : m ≡ behind_slots os (assembled (fields_view (drop k all)) k l d S)) where
  at_field : m ≡ behind_slots os (slot_before (assembled_field (rep_view f.rep) (shape_view f.shape) l d (front_at k S)) (assembled (fields_view (drop (k + 1) all)) (k + 1) l d (after_front k S)))
  at_field =
      so_far
      ∙ ap (λ (fs : tree.Fields). behind_slots os (assembled fs k l d S)) (ap fields_view (next_in all k f h is) ∙ field_first f (drop (k + 1) all))
      ∙ ap (λ (i : ℕ). behind_slots os (slot_before (assembled_field (rep_view f.rep) (shape_view f.shape) l d (front_at k S)) (assembled (fields_view (drop (k + 1) all)) i l d (after_front k S)))) (sym (add-one k))

  pub slot_more : (o : Option Instances) → assembled_field (rep_view f.rep) (shape_view f.shape) l d (front_at k S) ≡ Some o → m ≡ behind_slots (os ++ o ∷ []) (assembled (fields_view (drop (k + 1) all)) (k + 1) l d (after_front k S))
  slot_more o e =
      at_field ∙ ap (λ (p : Option (Option Instances)). behind_slots os (slot_before p (assembled (fields_view (drop (k + 1) all)) (k + 1) l d (after_front k S)))) e
      ∙ behind_one_slot os o (assembled (fields_view (drop (k + 1) all)) (k + 1) l d (after_front k S))

  pub slot_fails : assembled_field (rep_view f.rep) (shape_view f.shape) l d (front_at k S) ≡ None → m ≡ None
  slot_fails e = at_field ∙ ap (λ (p : Option (Option Instances)). behind_slots os (slot_before p (assembled (fields_view (drop (k + 1) all)) (k + 1) l d (after_front k S)))) e

pub slots_end : (all : List Field) (k l d : ℕ) (S : List Strip) (os : List (Option Instances)) (m : Option Node) → length all ≤ k → m ≡ behind_slots os (assembled (fields_view (drop k all)) k l d S) → m ≡ Some (slots_of os)
slots_end all k l d S os m h so_far = so_far ∙ ap (λ (fs : List Field). behind_slots os (assembled (fields_view fs) k l d S)) (drop_all k all h) ∙ ap Some (onto_end os)

-- a field's shape is less deep than its group
pub shape_depth-field : (all : List Field) (i : ℕ) (f : Field) → i < length all → f ≡ get_or all i f → tree.shape_depth (shape_view f.shape) + 1 ≤ tree.depth (fields_view all)
shape_depth-field [] i f h is = absurd (omega arith)
shape_depth-field (g ∷ all) zero f h is = rw (is, view-field g) (omega arith)
shape_depth-field (g ∷ all) (suc i) f h is =
    let later = shape_depth-field all i f (omega arith) is in
    rw (view-field g) (omega arith)

-- ---- answers

-- a fault of a part is the fault of the whole
pub fails_from : {A B C D : Type 0} (see : A → B) (seen : C → D) (m : Option B) (k : Option D) (r : Result A AssembleFault) (e : AssembleFault)
    → IsErrAnd r (λ x. x ≡ e) → Restores seen k (Err e) → (k ≡ None → m ≡ None) → Restores see m r
fails_from see seen m k (Ok a) e h p f = absurd h
fails_from see seen m k (Err x) AssembleFault.BadData h p f = let P : AssembleFault → Type 0 = λ y. Restores see m (Err y) in subst P (sym h) (f p)
fails_from see seen m k (Err x) AssembleFault.NoMemory h p f = let P : AssembleFault → Type 0 = λ y. Restores see m (Err y) in subst P (sym h) tt

-- the same answer to the same question
pub restores_same : {A B : Type 0} (see : A → B) (m k : Option B) (r : Result A AssembleFault) → m ≡ k → Restores see k r → Restores see m r
restores_same see m k r e h = subst (λ o. Restores see o r) (sym e) h

-- a repeated field whose first definition level is above its group's
pub repeated_instances : (rep : Rep) (s : tree.Shape) (l d n : ℕ) (ts : List Triplet) (S : List Strip) → rep ≡ Rep.Repeated → true ≡ nat_lt d (first_definition ts) → n ≡ count_pieces (l + 1) ts
    → field_instances (rep_view rep) s l d ts S ≡ restored_each (assembled_one s (l + 1) (d + 1)) (l + 1) n S
repeated_instances rep s l d n ts S e h c = rw (e, ← h, c) refl

-- What is restored of the columns of records is their projection.
use Rattle.std.proofs.Common.{◌≡◌, ℕ, suc, ◌+◌, ◌<◌, ◌≤◌, List, [], ◌∷◌, ◌++◌, map, length, Bool, true, false, Option, Some, None, refl, sym, ap, ap₂, ◌∙◌, true≢false, arith, append-nil, eq-eqb}
use Rattle.std.specs.Prelude.{nat_lt, if◌then◌else◌, option_map}
use Rattle.std.specs.List.{list_all}
use Rattle.std.proofs.lemmas.Bool.{and_parts, eqb-true, leb-true}
use Rattle.std.proofs.lemmas.Bool.Decides.{nat_tests}
use Rattle.dr_meaning.specs.Schema.{Repetition, required, optional, repeated, Kind, Fields, no_fields, field, Shape, leaf, group, repetition_count, definition_count}
use Rattle.dr_meaning.specs.Path.{Step, is_leaf_path, is_shape_path}
use Rattle.dr_meaning.specs.Record.{Value, Node, no_slots, slot, Instances, no_instances, instance, Instance, atom, inner, is_of_kind, count_instances, fits_repetition, all_instances, is_record, is_instance, through_first, through_later, slot_for, project, project_all, project_one}
use Rattle.dr_meaning.specs.Column.{Triplet, triplet, each_later, spread, instance_column, record_column, column}
use Rattle.dr_meaning.proofs.Blocks.{BeginsBelow, IsBlock, block_begins, block-instance, and₃_parts}
use Rattle.dr_nested.specs.Views.{instances_of}
use Rattle.dr_assemble.specs.Restoring.{Strip, first_piece, later_pieces, count_below, count_pieces, first_pieces, other_pieces, before, restored_each, first_definition, unless_absent, restored_instances, restored_slot, onto_node, slot_before, has_rows, strips}
use Rattle.dr_assemble.proofs.ByPaths.{restored, restored_one, restored_records}
use Rattle.dr_assemble.proofs.StripLemmas.{strips_of, strips_same, strips_of_map, field_column, here-strips, there-strips, here-all, there-all, first_piece-block, later_pieces-block, count_pieces-block, count_below-block, first_definition-block, first_pieces-of, other_pieces-of}

-- ---- a field's instances

abbrev pub instance_list : Instances → List Instance
instance_list no_instances = []
instance_list (instance x xs) = x ∷ instance_list xs

instances-list : (xs : Instances) → instances_of (instance_list xs) ≡ xs
instances-list no_instances = refl
instances-list (instance x xs) = ap (instance x) (instances-list xs)

-- a field's place in a projection
abbrev pub projected_slot : List (List Step) → Instances → Option Instances
projected_slot [] xs = None
projected_slot (p ∷ F) xs = Some (project_all (p ∷ F) xs)

lt_true : (l r : ℕ) → l < r → nat_lt l r ≡ true
lt_true l r h = grind (arith, nat_tests)

lt_irrefl : (d : ℕ) → nat_lt d d ≡ false
lt_irrefl d = grind (arith, nat_tests)

-- what is restored of the strips of one instance is its projection; so it is for all instances
module _ (good : Instance → Bool) (test : List Step → Bool) (c : List Step → ℕ → Instance → List Triplet) (l e : ℕ)
    (block : (p : List Step) (x : Instance) (r : ℕ) → test p ≡ true → good x ≡ true → IsBlock l r e (c p r x))
    (f : List Strip → Option Instance) (q : List Step) (G : List (List Step)) (paths : list_all test (q ∷ G) ≡ true)
    (one : (x : Instance) (r : ℕ) → good x ≡ true → f (strips_of (λ (p : List Step). c p r x) (q ∷ G)) ≡ Some (project_one (q ∷ G) x)) where
  later-begins : (p : List Step) (xs : Instances) → test p ≡ true → all_instances good xs ≡ true → BeginsBelow l (each_later (c p) l xs)
  later-begins p no_instances h v = tt
  later-begins p (instance x xs) h v =
      let k : (good x ≡ true) × (all_instances good xs ≡ true) = and_parts _ _ v in
      block_begins l l e (c p l x) (each_later (c p) l xs) (omega arith) (block p x l h k.0)

  -- one instance before others
  restored-both : (r n : ℕ) (x : Instance) (xs : Instances) → good x ≡ true → all_instances good xs ≡ true
      → restored_each f l n (strips_of (λ (p : List Step). each_later (c p) l xs) (q ∷ G)) ≡ Some (instance_list (project_all (q ∷ G) xs))
      → restored_each f l (suc n) (strips_of (λ (p : List Step). c p r x ++ each_later (c p) l xs) (q ∷ G)) ≡ Some (instance_list (project_all (q ∷ G) (instance x xs)))
  restored-both r n x xs v w h =
      let a : List Step → List Triplet = λ (p : List Step). c p r x ++ each_later (c p) l xs in
      let first : first_pieces l (strips_of a (q ∷ G)) ≡ strips_of (λ (p : List Step). c p r x) (q ∷ G) =
      first_pieces-of l a (q ∷ G) ∙ strips_same test (λ (p : List Step). first_piece l (a p)) (λ (p : List Step). c p r x) (q ∷ G) paths
      (λ (p : List Step) (t : test p ≡ true). first_piece-block l r e (c p r x) (each_later (c p) l xs) (block p x r t v) (later-begins p xs t w)) in
      let others : other_pieces l (strips_of a (q ∷ G)) ≡ strips_of (λ (p : List Step). each_later (c p) l xs) (q ∷ G) =
      other_pieces-of l a (q ∷ G) ∙ strips_same test (λ (p : List Step). later_pieces l (a p)) (λ (p : List Step). each_later (c p) l xs) (q ∷ G) paths
      (λ (p : List Step) (t : test p ≡ true). later_pieces-block l r e (c p r x) (each_later (c p) l xs) (block p x r t v) (later-begins p xs t w)) in
      ap₂ before (ap f first ∙ one x r v) (ap (restored_each f l n) others ∙ h)

  restored-later : (xs : Instances) → all_instances good xs ≡ true → restored_each f l (count_instances xs) (strips_of (λ (p : List Step). each_later (c p) l xs) (q ∷ G)) ≡ Some (instance_list (project_all (q ∷ G) xs))
  restored-later no_instances v = refl
  restored-later (instance x xs) v =
      let k : (good x ≡ true) × (all_instances good xs ≡ true) = and_parts _ _ v in
      restored-both l (count_instances xs) x xs k.0 k.1 (restored-later xs k.1)

  count-later : (p : List Step) (xs : Instances) → test p ≡ true → all_instances good xs ≡ true → count_below l (each_later (c p) l xs) ≡ count_instances xs
  count-later p no_instances t v = refl
  count-later p (instance x xs) t v =
      let k : (good x ≡ true) × (all_instances good xs ≡ true) = and_parts _ _ v in
      count_below-block l l e (c p l x) (each_later (c p) l xs) (omega arith) (block p x l t k.0) ∙ ap (λ (n : ℕ). suc n) (count-later p xs t k.1)

  -- one instance alone
  restored-single : (r : ℕ) (x : Instance) → good x ≡ true → f (strips_of (λ (p : List Step). c p r x ++ []) (q ∷ G)) ≡ Some (project_one (q ∷ G) x)
  restored-single r x v =
      ap f (strips_same test (λ (p : List Step). c p r x ++ []) (λ (p : List Step). c p r x) (q ∷ G) paths (λ (p : List Step) (t : test p ≡ true). append-nil (c p r x))) ∙ one x r v

  -- where there is an instance, the definition level is greater than its group's
  present : (d r : ℕ) (x : Instance) (ts : List Triplet) (xs : Option (List Instance)) → d < e → good x ≡ true → unless_absent d (c q r x ++ ts) xs ≡ xs
  present d r x ts xs h v =
      let k : (test q ≡ true) × (list_all test G ≡ true) = and_parts _ _ paths in
      let g : e ≤ first_definition (c q r x ++ ts) = first_definition-block l r e (c q r x) ts (block q x r k.0 v) in
      let m : d < first_definition (c q r x ++ ts) = omega arith in
      rw (lt_true d (first_definition (c q r x ++ ts)) m) refl

  absent : (d r : ℕ) (xs : Option (List Instance)) → unless_absent d (triplet r d None ∷ []) xs ≡ Some []
  absent d r xs = rw (lt_irrefl d) refl

  restored-instances : (rep : Repetition) (d r : ℕ) (xs : Instances) → d + definition_count rep ≡ e → fits_repetition rep (count_instances xs) ≡ true → all_instances good xs ≡ true
      → restored_instances rep f l d (spread (c q) l d r xs) (strips_of (λ (p : List Step). spread (c p) l d r xs) (q ∷ G)) ≡ Some (instance_list (project_all (q ∷ G) xs))
  restored-instances required d r no_instances h g v = absurd (true≢false (sym g))
  restored-instances required d r (instance x no_instances) h g v =
      let k : (good x ≡ true) × (true ≡ true) = and_parts _ _ v in
      ap (option_map (λ y. y ∷ [])) (restored-single r x k.0)
  restored-instances required d r (instance x (instance y xs)) h g v = absurd (omega (arith, eqb-true _ _ g))
  restored-instances optional d r no_instances h g v = absent d r (option_map (λ y. y ∷ []) (f (strips_of (λ (p : List Step). triplet r d None ∷ []) (q ∷ G))))
  restored-instances optional d r (instance x no_instances) h g v =
      let k : (good x ≡ true) × (true ≡ true) = and_parts _ _ v in
      present d r x [] (option_map (λ y. y ∷ []) (f (strips_of (λ (p : List Step). c p r x ++ []) (q ∷ G)))) (omega arith) k.0 ∙ ap (option_map (λ y. y ∷ [])) (restored-single r x k.0)
  restored-instances optional d r (instance x (instance y xs)) h g v = absurd (omega (arith, leb-true _ _ g))
  restored-instances repeated d r no_instances h g v = absent d r (restored_each f l 1 (strips_of (λ (p : List Step). triplet r d None ∷ []) (q ∷ G)))
  restored-instances repeated d r (instance x xs) h g v =
      let k : (good x ≡ true) × (all_instances good xs ≡ true) = and_parts _ _ v in
      let t : (test q ≡ true) × (list_all test G ≡ true) = and_parts _ _ paths in
      let n : count_pieces l (c q r x ++ each_later (c q) l xs) ≡ suc (count_instances xs) =
      count_pieces-block l r e (c q r x) (each_later (c q) l xs) (block q x r t.0 k.0) ∙ ap (λ (n : ℕ). suc n) (count-later q xs t.0 k.1) in
      present d r x (each_later (c q) l xs) (restored_each f l (count_pieces l (c q r x ++ each_later (c q) l xs)) (strips_of (λ (p : List Step). c p r x ++ each_later (c p) l xs) (q ∷ G))) (omega arith) k.0
      ∙ ap (λ (m : ℕ). restored_each f l m (strips_of (λ (p : List Step). c p r x ++ each_later (c p) l xs) (q ∷ G))) n
      ∙ restored-both r (count_instances xs) x xs k.0 k.1 (restored-later xs k.1)

-- ---- nodes

restored-field : (rep : Repetition) (s : Shape) (l d q : ℕ) (G : List (List Step)) (xs : Instances)
    → ((p : List Step) (H : List (List Step)) (x : Instance) (k : ℕ) → list_all (is_shape_path s) (p ∷ H) ≡ true → is_instance s x ≡ true
    → restored_one s (l + repetition_count rep) (d + definition_count rep) (strips_of (λ (o : List Step). instance_column o (l + repetition_count rep) (d + definition_count rep) k x) (p ∷ H)) ≡ Some (project_one (p ∷ H) x))
    → list_all (is_shape_path s) G ≡ true → fits_repetition rep (count_instances xs) ≡ true → all_instances (is_instance s) xs ≡ true
    → restored_slot rep (restored_one s (l + repetition_count rep) (d + definition_count rep)) (l + repetition_count rep) d (strips_of (field_column rep l d q xs) G) ≡ Some (projected_slot G xs)
restored-field rep s l d q [] xs one h g v = refl
restored-field rep s l d q (p ∷ H) xs one h g v =
    let k : ℕ = l + repetition_count rep in
    let e : ℕ = d + definition_count rep in
    ap (option_map (λ ys. Some (instances_of ys)))
    (restored-instances (is_instance s) (is_shape_path s) (λ (o : List Step). instance_column o k e) k e
    (λ (o : List Step) (x : Instance) (j : ℕ) (t : is_shape_path s o ≡ true) (w : is_instance s x ≡ true). block-instance s o x k e j t w)
    (restored_one s k e) p H h (λ (x : Instance) (j : ℕ) (w : is_instance s x ≡ true). one p H x j h w)
    rep d q xs refl g v)
    ∙ ap (λ (ys : Instances). Some (Some ys)) (instances-list (project_all (p ∷ H) xs))

onto_projected : (G : List (List Step)) (xs : Instances) (n : Node) → onto_node (projected_slot G xs) n ≡ slot_for G (project_all G xs) n
onto_projected [] xs n = refl
onto_projected (p ∷ G) xs n = refl

atom-kept : (k : Kind) (v : Value) → is_of_kind k v ≡ true → (if is_of_kind k v then Some (atom v) else None) ≡ Some (atom v)
atom-kept k v h = rw h refl

mutual
  pub restored-node : (fs : Fields) (F : List (List Step)) (n : Node) (l d q : ℕ) → list_all (is_leaf_path fs) F ≡ true → is_record fs n ≡ true
      → restored fs l d (strips_of (λ (p : List Step). instance_column p l d q (inner n)) F) ≡ Some (project F n)
  restored-node no_fields F no_slots l d q h v = refl
  restored-node no_fields F n l d q h v = absurd (true≢false (sym v))
  restored-node (field m r s fs) F (slot xs n) l d q h v =
      let k : (fits_repetition r (count_instances xs) ≡ true) × (all_instances (is_instance s) xs ≡ true) × (is_record fs n ≡ true) = and₃_parts _ _ _ v in
      ap₂ slot_before
      (ap (restored_slot r (restored_one s (l + repetition_count r) (d + definition_count r)) (l + repetition_count r) d) (here-strips m r s fs xs n l d q F h)
      ∙ restored-field r s l d q (through_first F) xs (λ (p : List Step) (H : List (List Step)) (x : Instance) (j : ℕ). restored-instance s p H x (l + repetition_count r) (d + definition_count r) j) (here-all m r s fs F h) k.0 k.1)
      (ap (restored fs l d) (there-strips xs n l d q F) ∙ restored-node fs (through_later F) n l d q (there-all m r s fs F h) k.2)
      ∙ ap (λ (x : Node). Some x) (onto_projected (through_first F) xs (project (through_later F) n))
  restored-node (field m r s fs) F n l d q h v = absurd (true≢false (sym v))

  restored-instance : (s : Shape) (p : List Step) (H : List (List Step)) (x : Instance) (l d q : ℕ) → list_all (is_shape_path s) (p ∷ H) ≡ true → is_instance s x ≡ true
      → restored_one s l d (strips_of (λ (o : List Step). instance_column o l d q x) (p ∷ H)) ≡ Some (project_one (p ∷ H) x)
  restored-instance (leaf k) [] H (atom v) l d q h w = atom-kept k v w
  restored-instance (leaf k) [] H (inner n) l d q h w = absurd (true≢false (sym w))
  restored-instance (leaf k) (t ∷ p) H x l d q h w = absurd (true≢false (sym h))
  restored-instance (group fs) p H (inner n) l d q h w = ap (option_map inner) (restored-node fs (p ∷ H) n l d q h w)
  restored-instance (group fs) p H (atom v) l d q h w = absurd (true≢false (sym w))

-- ---- records

block-record : (fs : Fields) (p : List Step) (n : Node) → is_leaf_path fs p ≡ true → is_record fs n ≡ true → IsBlock 0 0 0 (record_column p n)
block-record fs p n h v = block-instance (group fs) p (inner n) 0 0 0 h v

column-begins : (fs : Fields) (p : List Step) (R : List Node) → is_leaf_path fs p ≡ true → list_all (is_record fs) R ≡ true → BeginsBelow 0 (column p R)
column-begins fs p [] h v = tt
column-begins fs p (n ∷ R) h v =
    let k : (is_record fs n ≡ true) × (list_all (is_record fs) R ≡ true) = and_parts _ _ v in
    block_begins 0 0 0 (record_column p n) (column p R) (omega arith) (block-record fs p n h k.0)

restored-all : (fs : Fields) (F : List (List Step)) (R : List Node) → list_all (is_leaf_path fs) F ≡ true → list_all (is_record fs) R ≡ true
    → restored_each (restored fs 0 0) 0 (length R) (strips_of (λ (p : List Step). column p R) F) ≡ Some (map (project F) R)
restored-all fs F [] h v = refl
restored-all fs F (n ∷ R) h v =
    let k : (is_record fs n ≡ true) × (list_all (is_record fs) R ≡ true) = and_parts _ _ v in
    let a : List Step → List Triplet = λ (p : List Step). record_column p n ++ column p R in
    let first : first_pieces 0 (strips_of a F) ≡ strips_of (λ (p : List Step). record_column p n) F =
    first_pieces-of 0 a F ∙ strips_same (is_leaf_path fs) (λ (p : List Step). first_piece 0 (a p)) (λ (p : List Step). record_column p n) F h
    (λ (p : List Step) (t : is_leaf_path fs p ≡ true). first_piece-block 0 0 0 (record_column p n) (column p R) (block-record fs p n t k.0) (column-begins fs p R t k.1)) in
    let others : other_pieces 0 (strips_of a F) ≡ strips_of (λ (p : List Step). column p R) F =
    other_pieces-of 0 a F ∙ strips_same (is_leaf_path fs) (λ (p : List Step). later_pieces 0 (a p)) (λ (p : List Step). column p R) F h
    (λ (p : List Step) (t : is_leaf_path fs p ≡ true). later_pieces-block 0 0 0 (record_column p n) (column p R) (block-record fs p n t k.0) (column-begins fs p R t k.1)) in
    ap₂ before (ap (restored fs 0 0) first ∙ restored-node fs F n 0 0 0 h k.0) (ap (restored_each (restored fs 0 0) 0 (length R)) others ∙ restored-all fs F R h k.1)

count_below-records : (fs : Fields) (p : List Step) (R : List Node) → is_leaf_path fs p ≡ true → list_all (is_record fs) R ≡ true → count_below 0 (column p R) ≡ length R
count_below-records fs p [] h v = refl
count_below-records fs p (n ∷ R) h v =
    let k : (is_record fs n ≡ true) × (list_all (is_record fs) R ≡ true) = and_parts _ _ v in
    count_below-block 0 0 0 (record_column p n) (column p R) (omega arith) (block-record fs p n h k.0) ∙ ap (λ (n : ℕ). suc n) (count_below-records fs p R h k.1)

count-records : (fs : Fields) (p : List Step) (R : List Node) → is_leaf_path fs p ≡ true → list_all (is_record fs) R ≡ true → count_pieces 0 (column p R) ≡ length R
count-records fs p [] h v = refl
count-records fs p (n ∷ R) h v =
    let k : (is_record fs n ≡ true) × (list_all (is_record fs) R ≡ true) = and_parts _ _ v in
    count_pieces-block 0 0 0 (record_column p n) (column p R) (block-record fs p n h k.0) ∙ ap (λ (n : ℕ). suc n) (count_below-records fs p R h k.1)

rows-there : (fs : Fields) (F : List (List Step)) (R : List Node) → list_all (is_leaf_path fs) F ≡ true → list_all (is_record fs) R ≡ true → has_rows (length R) (strips_of (λ (p : List Step). column p R) F) ≡ true
rows-there fs [] R h v = refl
rows-there fs (p ∷ F) R h v =
    let k : (is_leaf_path fs p ≡ true) × (list_all (is_leaf_path fs) F ≡ true) = and_parts _ _ h in
    eq-eqb (count_pieces 0 (column p R)) (length R) (count-records fs p R k.0 v)

-- of the columns of records their projections are restored
pub restored_of_columns : (fs : Fields) (F : List (List Step)) (R : List Node) → list_all (is_leaf_path fs) F ≡ true → list_all (is_record fs) R ≡ true
    → restored_records fs (length R) (strips F (map (λ (p : List Step). column p R) F)) ≡ Some (map (project F) R)
restored_of_columns fs F R h v =
    ap (restored_records fs (length R)) (strips_of_map (λ (p : List Step). column p R) F)
    ∙ ap (λ (b : Bool). if b then restored_each (restored fs 0 0) 0 (length R) (strips_of (λ (p : List Step). column p R) F) else None) (rows-there fs F R h v)
    ∙ restored-all fs F R h v

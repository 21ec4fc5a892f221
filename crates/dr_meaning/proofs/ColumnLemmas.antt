-- Records with equal columns at some leaves have equal projections to them.
use Rattle.std.proofs.Common.{◌≡◌, ℕ, zero, suc, ◌+◌, ◌<◌, List, [], ◌∷◌, ◌++◌, map, length, Bool, true, ◌&&◌, Some, None, refl, sym, ap, ap₂, subst, true≢false, arith}
use Rattle.std.specs.List.{list_all}
use Rattle.std.proofs.lemmas.Bool.{and_parts, eqb-true}
use Rattle.dr_meaning.specs.Schema.{Repetition, required, optional, repeated, Kind, Fields, no_fields, field, Shape, leaf, group, repetition_count, definition_count}
use Rattle.dr_meaning.specs.Path.{Step, is_empty_path, is_leaf_path, is_shape_path, same_repetition}
use Rattle.dr_meaning.specs.Record.{Value, Node, no_slots, slot, gap, Instances, no_instances, instance, Instance, atom, inner, count_instances, fits_repetition, all_instances, is_atom_of, is_record, is_instance, through_first, through_first_if, through_later, through_later_if, slot_for, project, project_all, project_one}
use Rattle.dr_meaning.specs.Column.{Triplet, triplet, each_later, spread, instance_column, record_column, column}
use Rattle.dr_meaning.specs.ColumnLaws.{ColumnsDetermineProjection}
use Rattle.dr_meaning.proofs.ProjectionLemmas.{step}
use Rattle.dr_meaning.proofs.Blocks.{IsBlock, BeginsBelow, cut_block, block_begins, block_is_some, block_is_defined, same_repetition-true, and₃_parts, block-instance}

-- ---- what holds of each path

abbrev pub EachPath : (List Step → Type 0) → List (List Step) → Type 0
EachPath P [] = Unit {0}
EachPath P (p ∷ F) = P p × EachPath P F

each_path_weaker : (P Q : List Step → Type 0) → ((p : List Step) → P p → Q p) → (F : List (List Step)) → EachPath P F → EachPath Q F
each_path_weaker P Q f [] h = tt
each_path_weaker P Q f (p ∷ F) h = (f p h.0, each_path_weaker P Q f F h.1)

here_if-each : (P Q : List Step → Type 0) → ((r : Repetition) (p : List Step) → P (step 0 r ∷ p) → Q p) → (i : ℕ) (r : Repetition) (p : List Step) (G : List (List Step)) → P (step i r ∷ p) → EachPath Q G → EachPath Q (through_first_if i p G)
here_if-each P Q f zero r p G h g = (f r p h, g)
here_if-each P Q f (suc i) r p G h g = g

here-each : (P Q : List Step → Type 0) → ((r : Repetition) (p : List Step) → P (step 0 r ∷ p) → Q p) → (F : List (List Step)) → EachPath P F → EachPath Q (through_first F)
here-each P Q f [] h = tt
here-each P Q f ([] ∷ F) h = here-each P Q f F h.1
here-each P Q f ((s ∷ p) ∷ F) h = here_if-each P Q f s.place s.repetition p (through_first F) h.0 (here-each P Q f F h.1)

there_if-each : (P Q : List Step → Type 0) → ((i : ℕ) (r : Repetition) (p : List Step) → P (step (suc i) r ∷ p) → Q (step i r ∷ p)) → (i : ℕ) (r : Repetition) (p : List Step) (G : List (List Step)) → P (step i r ∷ p) → EachPath Q G → EachPath Q (through_later_if i (step i r) p G)
there_if-each P Q f zero r p G h g = g
there_if-each P Q f (suc i) r p G h g = (f i r p h, g)

there-each : (P Q : List Step → Type 0) → ((i : ℕ) (r : Repetition) (p : List Step) → P (step (suc i) r ∷ p) → Q (step i r ∷ p)) → (F : List (List Step)) → EachPath P F → EachPath Q (through_later F)
there-each P Q f [] h = tt
there-each P Q f ([] ∷ F) h = there-each P Q f F h.1
there-each P Q f ((s ∷ p) ∷ F) h = there_if-each P Q f s.place s.repetition p (through_later F) h.0 (there-each P Q f F h.1)

-- of these paths, the two columns are equal
abbrev pub Agree : (List Step → Bool) → (List Step → List Triplet) → (List Step → List Triplet) → List (List Step) → Type 0
Agree test c e F = EachPath (λ (p : List Step). (test p ≡ true) × (c p ≡ e p)) F

agree_from_maps : (test : List Step → Bool) (c e : List Step → List Triplet) (F : List (List Step)) → list_all test F ≡ true → map c F ≡ map e F → Agree test c e F
agree_from_maps test c e [] h g = tt
agree_from_maps test c e (p ∷ F) h g =
    let k : (test p ≡ true) × (list_all test F ≡ true) = and_parts _ _ h in
    let q : c p ≡ e p = cc in
    let w : map c F ≡ map e F = cc in
    ((k.0, q), agree_from_maps test c e F k.1 w)

-- ---- the instances of one field

-- equal columns of instances of one field, at each of the paths q ∷ G, give equal projections, if they do so of one instance
module _ (good : Instance → Bool) (test : List Step → Bool) (c : List Step → ℕ → Instance → List Triplet) (l d : ℕ)
    (block : (p : List Step) (x : Instance) (r : ℕ) → test p ≡ true → good x ≡ true → IsBlock l r d (c p r x))
    (q : List Step) (G : List (List Step))
    (one : (x y : Instance) (r : ℕ) → good x ≡ true → good y ≡ true → Agree test (λ (p : List Step). c p r x) (λ (p : List Step). c p r y) (q ∷ G) → project_one (q ∷ G) x ≡ project_one (q ∷ G) y) where
  each_later-begins : (p : List Step) (xs : Instances) → test p ≡ true → all_instances good xs ≡ true → BeginsBelow l (each_later (c p) l xs)
  each_later-begins p no_instances h v = tt
  each_later-begins p (instance x xs) h v =
      let k : (good x ≡ true) × (all_instances good xs ≡ true) = and_parts _ _ v in
      block_begins l l d (c p l x) (each_later (c p) l xs) (omega arith) (block p x l h k.0)

  -- the column of the first instance and those of the later ones are told apart
  cut_instance : (p : List Step) (r : ℕ) (x y : Instance) (xs ys : Instances) → test p ≡ true → (good x ≡ true) × (all_instances good xs ≡ true) → (good y ≡ true) × (all_instances good ys ≡ true) → c p r x ++ each_later (c p) l xs ≡ c p r y ++ each_later (c p) l ys → (c p r x ≡ c p r y) × (each_later (c p) l xs ≡ each_later (c p) l ys)
  cut_instance p r x y xs ys t v w e = cut_block l r d (c p r x) (c p r y) (each_later (c p) l xs) (each_later (c p) l ys) (block p x r t v.0) (block p y r t w.0) (each_later-begins p xs t v.1) (each_later-begins p ys t w.1) e

  same_both : (r : ℕ) (x y : Instance) (xs ys : Instances) → (good x ≡ true) × (all_instances good xs ≡ true) → (good y ≡ true) × (all_instances good ys ≡ true)
      → (Agree test (λ (p : List Step). each_later (c p) l xs) (λ (p : List Step). each_later (c p) l ys) (q ∷ G) → project_all (q ∷ G) xs ≡ project_all (q ∷ G) ys)
      → Agree test (λ (p : List Step). c p r x ++ each_later (c p) l xs) (λ (p : List Step). c p r y ++ each_later (c p) l ys) (q ∷ G)
      → project_all (q ∷ G) (instance x xs) ≡ project_all (q ∷ G) (instance y ys)
  same_both r x y xs ys v w rest h =
      ap₂ instance
      (one x y r v.0 w.0 (each_path_weaker (λ (p : List Step). (test p ≡ true) × (c p r x ++ each_later (c p) l xs ≡ c p r y ++ each_later (c p) l ys)) (λ (p : List Step). (test p ≡ true) × (c p r x ≡ c p r y))
      (λ (p : List Step) (g : (test p ≡ true) × (c p r x ++ each_later (c p) l xs ≡ c p r y ++ each_later (c p) l ys)). (g.0, (cut_instance p r x y xs ys g.0 v w g.1).0)) (q ∷ G) h))
      (rest (each_path_weaker (λ (p : List Step). (test p ≡ true) × (c p r x ++ each_later (c p) l xs ≡ c p r y ++ each_later (c p) l ys)) (λ (p : List Step). (test p ≡ true) × (each_later (c p) l xs ≡ each_later (c p) l ys))
      (λ (p : List Step) (g : (test p ≡ true) × (c p r x ++ each_later (c p) l xs ≡ c p r y ++ each_later (c p) l ys)). (g.0, (cut_instance p r x y xs ys g.0 v w g.1).1)) (q ∷ G) h))

  same_later : (xs ys : Instances) → all_instances good xs ≡ true → all_instances good ys ≡ true → Agree test (λ (p : List Step). each_later (c p) l xs) (λ (p : List Step). each_later (c p) l ys) (q ∷ G) → project_all (q ∷ G) xs ≡ project_all (q ∷ G) ys
  same_later no_instances no_instances v w h = refl
  same_later no_instances (instance y ys) v w h =
      let k : (good y ≡ true) × (all_instances good ys ≡ true) = and_parts _ _ w in
      absurd (block_is_some l l d (c q l y) (each_later (c q) l ys) (block q y l h.0.0 k.0) h.0.1)
  same_later (instance x xs) no_instances v w h =
      let k : (good x ≡ true) × (all_instances good xs ≡ true) = and_parts _ _ v in
      absurd (block_is_some l l d (c q l x) (each_later (c q) l xs) (block q x l h.0.0 k.0) (sym h.0.1))
  same_later (instance x xs) (instance y ys) v w h =
      let k : (good x ≡ true) × (all_instances good xs ≡ true) = and_parts _ _ v in
      let m : (good y ≡ true) × (all_instances good ys ≡ true) = and_parts _ _ w in
      same_both l x y xs ys k m (same_later xs ys k.1 m.1) h

  -- where none is allowed, one raises the definition level
  same_spread : (e r : ℕ) (xs ys : Instances) → all_instances good xs ≡ true → all_instances good ys ≡ true → (count_instances xs ≡ 0 → e < d) → (count_instances ys ≡ 0 → e < d) → Agree test (λ (p : List Step). spread (c p) l e r xs) (λ (p : List Step). spread (c p) l e r ys) (q ∷ G) → project_all (q ∷ G) xs ≡ project_all (q ∷ G) ys
  same_spread e r no_instances no_instances v w f g h = refl
  same_spread e r no_instances (instance y ys) v w f g h =
      let k : (good y ≡ true) × (all_instances good ys ≡ true) = and_parts _ _ w in
      absurd (block_is_defined l r d (triplet r e None) (c q r y) (each_later (c q) l ys) (block q y r h.0.0 k.0) (f refl) h.0.1)
  same_spread e r (instance x xs) no_instances v w f g h =
      let k : (good x ≡ true) × (all_instances good xs ≡ true) = and_parts _ _ v in
      absurd (block_is_defined l r d (triplet r e None) (c q r x) (each_later (c q) l xs) (block q x r h.0.0 k.0) (g refl) (sym h.0.1))
  same_spread e r (instance x xs) (instance y ys) v w f g h =
      let k : (good x ≡ true) × (all_instances good xs ≡ true) = and_parts _ _ v in
      let m : (good y ≡ true) × (all_instances good ys ≡ true) = and_parts _ _ w in
      same_both r x y xs ys k m (same_later xs ys k.1 m.1) h

-- ---- nodes

-- where a field may be absent, its instances have a greater definition level
absent_deeper : (r : Repetition) (n d : ℕ) → fits_repetition r n ≡ true → n ≡ 0 → d < d + definition_count r
absent_deeper required n d h e = absurd (omega (arith, eqb-true _ _ h))
absent_deeper optional n d h e = omega arith
absent_deeper repeated n d h e = omega arith

-- a slot is the same where its instances are, if a path leads on to it
slot_for-same : (P : List Step → Type 0) (G : List (List Step)) (xs ys : Instances) (n m : Node) → ((q : List Step) (H : List (List Step)) → EachPath P (q ∷ H) → project_all (q ∷ H) xs ≡ project_all (q ∷ H) ys) → EachPath P G → n ≡ m → slot_for G (project_all G xs) n ≡ slot_for G (project_all G ys) m
slot_for-same P [] xs ys n m f h e = ap gap e
slot_for-same P (q ∷ H) xs ys n m f h e = ap₂ slot (f q H h) e

-- the columns of the instances of a field, at the paths below it
abbrev field_column : Repetition → ℕ → ℕ → ℕ → Instances → List Step → List Triplet
field_column r l d q xs p = spread (instance_column p (l + repetition_count r) (d + definition_count r)) (l + repetition_count r) d q xs

here_agrees : (m : List ℕ) (r : Repetition) (s : Shape) (fs : Fields) (F : List (List Step)) (xs ys : Instances) (n k : Node) (l d q : ℕ)
    → Agree (is_leaf_path (field m r s fs)) (λ (p : List Step). instance_column p l d q (inner (slot xs n))) (λ (p : List Step). instance_column p l d q (inner (slot ys k))) F
    → Agree (is_shape_path s) (field_column r l d q xs) (field_column r l d q ys) (through_first F)
here_agrees m r s fs F xs ys n k l d q h =
    here-each (λ (p : List Step). (is_leaf_path (field m r s fs) p ≡ true) × (instance_column p l d q (inner (slot xs n)) ≡ instance_column p l d q (inner (slot ys k))))
    (λ (p : List Step). (is_shape_path s p ≡ true) × (field_column r l d q xs p ≡ field_column r l d q ys p))
    (λ (t : Repetition) (p : List Step) (g : ((same_repetition t r && is_shape_path s p) ≡ true) × (field_column t l d q xs p ≡ field_column t l d q ys p)).
    let w : (same_repetition t r ≡ true) × (is_shape_path s p ≡ true) = and_parts _ _ g.0 in
    (w.1, subst (λ (u : Repetition). field_column u l d q xs p ≡ field_column u l d q ys p) (same_repetition-true t r w.0) g.1))
    F h

there_agrees : (m : List ℕ) (r : Repetition) (s : Shape) (fs : Fields) (F : List (List Step)) (xs ys : Instances) (n k : Node) (l d q : ℕ)
    → Agree (is_leaf_path (field m r s fs)) (λ (p : List Step). instance_column p l d q (inner (slot xs n))) (λ (p : List Step). instance_column p l d q (inner (slot ys k))) F
    → Agree (is_leaf_path fs) (λ (p : List Step). instance_column p l d q (inner n)) (λ (p : List Step). instance_column p l d q (inner k)) (through_later F)
there_agrees m r s fs F xs ys n k l d q h =
    there-each (λ (p : List Step). (is_leaf_path (field m r s fs) p ≡ true) × (instance_column p l d q (inner (slot xs n)) ≡ instance_column p l d q (inner (slot ys k))))
    (λ (p : List Step). (is_leaf_path fs p ≡ true) × (instance_column p l d q (inner n) ≡ instance_column p l d q (inner k)))
    (λ (i : ℕ) (t : Repetition) (p : List Step) (g : (is_leaf_path fs (step i t ∷ p) ≡ true) × (instance_column (step i t ∷ p) l d q (inner n) ≡ instance_column (step i t ∷ p) l d q (inner k))). g)
    F h

same_field : (r : Repetition) (s : Shape) (l d q : ℕ) (p : List Step) (H : List (List Step)) (xs ys : Instances)
    → ((x y : Instance) (k : ℕ) → is_instance s x ≡ true → is_instance s y ≡ true → Agree (is_shape_path s) (λ (o : List Step). instance_column o (l + repetition_count r) (d + definition_count r) k x) (λ (o : List Step). instance_column o (l + repetition_count r) (d + definition_count r) k y) (p ∷ H) → project_one (p ∷ H) x ≡ project_one (p ∷ H) y)
    → (fits_repetition r (count_instances xs) ≡ true) × (all_instances (is_instance s) xs ≡ true) → (fits_repetition r (count_instances ys) ≡ true) × (all_instances (is_instance s) ys ≡ true)
    → Agree (is_shape_path s) (field_column r l d q xs) (field_column r l d q ys) (p ∷ H) → project_all (p ∷ H) xs ≡ project_all (p ∷ H) ys
same_field r s l d q p H xs ys one v w h =
    same_spread (is_instance s) (is_shape_path s) (λ (o : List Step). instance_column o (l + repetition_count r) (d + definition_count r)) (l + repetition_count r) (d + definition_count r)
    (λ (o : List Step) (x : Instance) (k : ℕ) (t : is_shape_path s o ≡ true) (g : is_instance s x ≡ true). block-instance s o x (l + repetition_count r) (d + definition_count r) k t g)
    p H one d q xs ys v.1 w.1 (absent_deeper r _ d v.0) (absent_deeper r _ d w.0) h

same_atom : (r d : ℕ) (a b : Value) → triplet r d (Some a) ∷ [] ≡ triplet r d (Some b) ∷ [] → atom a ≡ atom b
same_atom r d a b e =
    let f : triplet r d (Some a) ≡ triplet r d (Some b) = cc in
    let g : Some a ≡ Some b = ap (λ (t : Triplet). t.value) f in
    let h : a ≡ b = cc in
    ap atom h

same_atoms : (k : Kind) (q : List Step) (G : List (List Step)) (x y : Instance) (l d r : ℕ) → is_atom_of k x ≡ true → is_atom_of k y ≡ true → Agree is_empty_path (λ (p : List Step). instance_column p l d r x) (λ (p : List Step). instance_column p l d r y) (q ∷ G) → project_one (q ∷ G) x ≡ project_one (q ∷ G) y
same_atoms k (s ∷ q) G x y l d r v w h = absurd (true≢false (sym h.0.0))
same_atoms k [] G (atom a) (atom b) l d r v w h = same_atom r d a b h.0.1
same_atoms k [] G (atom a) (inner n) l d r v w h = absurd (true≢false (sym w))
same_atoms k [] G (inner n) y l d r v w h = absurd (true≢false (sym v))

mutual
  -- nodes with equal columns have equal projections
  same_nodes : (fs : Fields) (F : List (List Step)) (n k : Node) (l d q : ℕ) → is_record fs n ≡ true → is_record fs k ≡ true → Agree (is_leaf_path fs) (λ (p : List Step). instance_column p l d q (inner n)) (λ (p : List Step). instance_column p l d q (inner k)) F → project F n ≡ project F k
  same_nodes no_fields F no_slots no_slots l d q v w h = refl
  same_nodes no_fields F no_slots k l d q v w h = absurd (true≢false (sym w))
  same_nodes no_fields F n k l d q v w h = absurd (true≢false (sym v))
  same_nodes (field m r s fs) F (slot xs n) (slot ys k) l d q v w h =
      let a : (fits_repetition r (count_instances xs) ≡ true) × (all_instances (is_instance s) xs ≡ true) × (is_record fs n ≡ true) = and₃_parts _ _ _ v in
      let b : (fits_repetition r (count_instances ys) ≡ true) × (all_instances (is_instance s) ys ≡ true) × (is_record fs k ≡ true) = and₃_parts _ _ _ w in
      slot_for-same (λ (p : List Step). (is_shape_path s p ≡ true) × (field_column r l d q xs p ≡ field_column r l d q ys p)) (through_first F) xs ys (project (through_later F) n) (project (through_later F) k)
      (λ (p : List Step) (H : List (List Step)). same_field r s l d q p H xs ys
      (λ (x y : Instance) (j : ℕ). same_instance s p H x y (l + repetition_count r) (d + definition_count r) j) (a.0, a.1) (b.0, b.1))
      (here_agrees m r s fs F xs ys n k l d q h)
      (same_nodes fs (through_later F) n k l d q a.2 b.2 (there_agrees m r s fs F xs ys n k l d q h))
  same_nodes (field m r s fs) F (slot xs n) k l d q v w h = absurd (true≢false (sym w))
  same_nodes (field m r s fs) F n k l d q v w h = absurd (true≢false (sym v))

  same_instance : (s : Shape) (p : List Step) (H : List (List Step)) (x y : Instance) (l d q : ℕ) → is_instance s x ≡ true → is_instance s y ≡ true → Agree (is_shape_path s) (λ (o : List Step). instance_column o l d q x) (λ (o : List Step). instance_column o l d q y) (p ∷ H) → project_one (p ∷ H) x ≡ project_one (p ∷ H) y
  same_instance (leaf k) p H x y l d q v w h = same_atoms k p H x y l d q v w h
  same_instance (group fs) p H (inner n) (inner k) l d q v w h = ap inner (same_nodes fs (p ∷ H) n k l d q v w h)
  same_instance (group fs) p H (inner n) y l d q v w h = absurd (true≢false (sym w))
  same_instance (group fs) p H x y l d q v w h = absurd (true≢false (sym v))

-- ---- records

block-record : (fs : Fields) (p : List Step) (n : Node) → is_leaf_path fs p ≡ true → is_record fs n ≡ true → IsBlock 0 0 0 (record_column p n)
block-record fs p n h v = block-instance (group fs) p (inner n) 0 0 0 h v

column-begins : (fs : Fields) (p : List Step) (R : List Node) → is_leaf_path fs p ≡ true → list_all (is_record fs) R ≡ true → BeginsBelow 0 (column p R)
column-begins fs p [] h v = tt
column-begins fs p (n ∷ R) h v =
    let k : (is_record fs n ≡ true) × (list_all (is_record fs) R ≡ true) = and_parts _ _ v in
    block_begins 0 0 0 (record_column p n) (column p R) (omega arith) (block-record fs p n h k.0)

same_records : (fs : Fields) (F : List (List Step)) (R S : List Node) → list_all (is_record fs) R ≡ true → list_all (is_record fs) S ≡ true → length R ≡ length S → Agree (is_leaf_path fs) (λ (p : List Step). column p R) (λ (p : List Step). column p S) F → map (project F) R ≡ map (project F) S
same_records fs F [] [] v w e h = refl
same_records fs F [] (m ∷ S) v w e h = absurd (omega (arith, e))
same_records fs F (n ∷ R) [] v w e h = absurd (omega (arith, e))
same_records fs F (n ∷ R) (m ∷ S) v w e h =
    let a : (is_record fs n ≡ true) × (list_all (is_record fs) R ≡ true) = and_parts _ _ v in
    let b : (is_record fs m ≡ true) × (list_all (is_record fs) S ≡ true) = and_parts _ _ w in
    let P : List Step → Type 0 = λ (p : List Step). (is_leaf_path fs p ≡ true) × (record_column p n ++ column p R ≡ record_column p m ++ column p S) in
    let cut : (p : List Step) → P p → (record_column p n ≡ record_column p m) × (column p R ≡ column p S) =
    λ (p : List Step) (g : P p). cut_block 0 0 0 (record_column p n) (record_column p m) (column p R) (column p S) (block-record fs p n g.0 a.0) (block-record fs p m g.0 b.0) (column-begins fs p R g.0 a.1) (column-begins fs p S g.0 b.1) g.1 in
    ap₂ (λ x xs. x ∷ xs)
    (same_nodes fs F n m 0 0 0 a.0 b.0 (each_path_weaker P (λ (p : List Step). (is_leaf_path fs p ≡ true) × (record_column p n ≡ record_column p m)) (λ (p : List Step) (g : P p). (g.0, (cut p g).0)) F h))
    (same_records fs F R S a.1 b.1 (omega (arith, e)) (each_path_weaker P (λ (p : List Step). (is_leaf_path fs p ≡ true) × (column p R ≡ column p S)) (λ (p : List Step) (g : P p). (g.0, (cut p g).1)) F h))

pub columns_determine : ColumnsDetermineProjection
columns_determine fs F t R S v w e h = same_records fs F R S v w e (agree_from_maps (is_leaf_path fs) (λ (p : List Step). column p R) (λ (p : List Step). column p S) F t h)

-- Rows fire at leaves: what was read of a leaf, wherever a triplet of another leaf is given, is its value in the row there.
use Rattle.std.proofs.Common.{◌≡◌, ◌⊎◌, inl, inr, ℕ, zero, suc, ◌+◌, ◌<◌, ◌≤◌, List, [], ◌∷◌, ◌++◌, length, Bool, true, false, Option, None, Some, refl, sym, ap, ap₂, subst, ◌∙◌, append_assoc, append-nil, true≢false, arith}
use Rattle.std.specs.Prelude.{map, ◌==◌}
use Rattle.std.proofs.lemmas.Simd.{map-map}
use Rattle.std.proofs.lemmas.Bool.{and_parts, eq-eqb, ne_eqb, eqb-true, leb-true}
use Rattle.dr_meaning.specs.Schema.{Repetition, required, optional, repeated, Kind, Fields, no_fields, field, Shape, leaf, group, repetition_count, shape_repeated_fields, is_repeated}
use Rattle.dr_meaning.specs.Path.{Step, is_leaf_path, is_shape_path, same_repetition, max_repetition, chain_end, up_to}
use Rattle.dr_meaning.specs.Record.{Value, Node, no_slots, slot, gap, Instances, no_instances, instance, Instance, atom, inner, single, count_instances, fits_repetition, all_instances, is_record, is_instance, instances_at, put_at}
use Rattle.dr_meaning.specs.Rows.{instance_rows, each_instance_rows, field_rows, rows, first_value, value_in, value_at}
use Rattle.dr_meaning.specs.Column.{Triplet}
use Rattle.dr_meaning.specs.Automaton.{Pick, picks, first_picks, later_picks}
use Rattle.std.specs.List.{slice_get}
use Rattle.dr_meaning.specs.Walk.{Move, leave, Depth, inside, begun_later, first_of, first_slot, other_slots, enclosed, later_moves, moves_in, near_moves, far_moves, shape_near_moves, shape_far_moves, top, record_moves}
use Rattle.dr_meaning.specs.WalkLaws.{triplets_of}
use Rattle.dr_meaning.proofs.ProjectionLemmas.{step}
use Rattle.dr_meaning.proofs.Blocks.{same_repetition-true}
use Rattle.dr_meaning.proofs.WalkLemmas.{picks_only, of_append, Without, Only, only_behind, beside_first, only_beside, behind_later, near_nothing, far_nothing, shape_near_nothing, shape_far_nothing, near_in, far_in, far_in_nothing, unless_nothing, selected, IsNode, IsThere, shape_gives, optional_column, FirstSlot, first_of_node}
use Rattle.dr_moves.specs.Together.{IsApart, Together, same_leaf, along, apart}
use Rattle.dr_moves.proofs.ReadingLemmas.{reads, last, reads_append, last_single, own_read, apart_read, first_read, later_read}
use Rattle.dr_moves.proofs.NearLemmas.{fields_far_silent, fields_near_silent, fields_once}
use Rattle.std.proofs.lemmas.List.{length-map}

-- ---- rows of an instance

abbrev pub irows : List Step → Instance → List Instance
irows [] x = x ∷ []
irows (s ∷ L) (atom v) = atom v ∷ []
irows (s ∷ L) (inner n) = map inner (rows (s ∷ L) n)

abbrev pub many_values : List Step → List Step → Instances → List (Option Value)
many_values q L no_instances = []
many_values q L (instance x xs) = map (value_in q) (irows L x) ++ many_values q L xs

abbrev pub slot_values : List Step → List Step → Instances → List (Option Value)
slot_values q L no_instances = None ∷ []
slot_values q L (instance x xs) = many_values q L (instance x xs)

pub single_rows : (L : List Step) (x : Instance) → instance_rows (rows L) x ≡ map single (irows L x)
single_rows [] (atom v) = refl
single_rows [] (inner n) = refl
single_rows (s ∷ L) (atom v) = refl
single_rows (s ∷ L) (inner n) = sym (map-map single inner (rows (s ∷ L) n))

none_put : (i : ℕ) (n : Node) → instances_at i n ≡ no_instances → instances_at i (put_at i no_instances n) ≡ no_instances
none_put i no_slots h = refl
none_put zero (slot xs n) h = refl
none_put (suc i) (slot xs n) h = none_put i n h
none_put zero (gap n) h = refl
none_put (suc i) (gap n) h = none_put i n h

some_put : (i : ℕ) (n : Node) (x : Instance) (xs ys : Instances) → instances_at i n ≡ instance x xs → instances_at i (put_at i ys n) ≡ ys
some_put i no_slots x xs ys h = absurd (cc)
some_put zero (slot zs n) x xs ys h = refl
some_put (suc i) (slot zs n) x xs ys h = some_put i n x xs ys h
some_put zero (gap n) x xs ys h = absurd (cc)
some_put (suc i) (gap n) x xs ys h = some_put i n x xs ys h

other_put : (i j : ℕ) (n : Node) (ys : Instances) → (i == j) ≡ false → instances_at i (put_at j ys n) ≡ instances_at i n
other_put i j no_slots ys h = refl
other_put zero zero (slot xs n) ys h = absurd (true≢false h)
other_put zero (suc j) (slot xs n) ys h = refl
other_put (suc i) zero (slot xs n) ys h = refl
other_put (suc i) (suc j) (slot xs n) ys h = other_put i j n ys (below_suc i j h)
  where
    below_suc : (i j : ℕ) → (suc i == suc j) ≡ false → (i == j) ≡ false
    below_suc i j h = by_test (i == j) refl
      where
        by_test : (b : Bool) → (i == j) ≡ b → b ≡ false
        by_test false e = refl
        by_test true e = let q : i ≡ j = eqb-true i j e in absurd (true≢false (sym (eq-eqb (suc i) (suc j) (ap suc q)) ∙ h))
other_put zero zero (gap n) ys h = refl
other_put zero (suc j) (gap n) ys h = refl
other_put (suc i) zero (gap n) ys h = refl
other_put (suc i) (suc j) (gap n) ys h = other_put i j n ys (below_suc i j h)
  where
    below_suc : (i j : ℕ) → (suc i == suc j) ≡ false → (i == j) ≡ false
    below_suc i j h = by_test (i == j) refl
      where
        by_test : (b : Bool) → (i == j) ≡ b → b ≡ false
        by_test false e = refl
        by_test true e = let q : i ≡ j = eqb-true i j e in absurd (true≢false (sym (eq-eqb (suc i) (suc j) (ap suc q)) ∙ h))

map_append : {X Y : Type 0} (f : X → Y) (xs ys : List X) → map f (xs ++ ys) ≡ map f xs ++ map f ys
map_append f [] ys = refl
map_append f (x ∷ xs) ys = ap (λ z. f x ∷ z) (map_append f xs ys)

pub map_same : {X Y : Type 0} (f g : X → Y) → ((x : X) → f x ≡ g x) → (xs : List X) → map f xs ≡ map g xs
map_same f g h [] = refl
map_same f g h (x ∷ xs) = ap₂ (λ y z. y ∷ z) (h x) (map_same f g h xs)

each_value : (j : ℕ) (q L : List Step) (n : Node) (y : Instance) (ys : Instances) → instances_at j n ≡ instance y ys → (xs : Instances)
    → map (λ (zs : Instances). first_value (value_in q) (instances_at j (put_at j zs n))) (each_instance_rows (rows L) xs) ≡ many_values q L xs
each_value j q L n y ys e no_instances = refl
each_value j q L n y ys e (instance x xs) =
    map_append (λ (zs : Instances). first_value (value_in q) (instances_at j (put_at j zs n))) (instance_rows (rows L) x) (each_instance_rows (rows L) xs)
    ∙ ap₂ (λ (a b : List (Option Value)). a ++ b)
    (ap (map (λ (zs : Instances). first_value (value_in q) (instances_at j (put_at j zs n)))) (single_rows L x)
    ∙ map-map (λ (zs : Instances). first_value (value_in q) (instances_at j (put_at j zs n))) single (irows L x)
    ∙ map_same (λ (z : Instance). first_value (value_in q) (instances_at j (put_at j (single z) n))) (value_in q) (λ z. ap (first_value (value_in q)) (some_put j n y ys (single z) e)) (irows L x))
    (each_value j q L n y ys e xs)

slot_rows : (j : ℕ) (c e : Repetition) (q L : List Step) (n : Node) → map (value_at (step j c ∷ q)) (rows (step j e ∷ L) n) ≡ slot_values q L (instances_at j n)
slot_rows j c e q L n =
    map-map (value_at (step j c ∷ q)) (λ (xs : Instances). put_at j xs n) (field_rows (rows L) (instances_at j n))
    ∙ by_slot (instances_at j n) refl
  where
    by_slot : (xs : Instances) → instances_at j n ≡ xs → map (λ (zs : Instances). first_value (value_in q) (instances_at j (put_at j zs n))) (field_rows (rows L) xs) ≡ slot_values q L xs
    by_slot no_instances h = ap (λ (x : Instances). first_value (value_in q) x ∷ []) (none_put j n h)
    by_slot (instance y ys) h = each_value j q L n y ys h (instance y ys)

few : (e : Repetition) (xs : Instances) → is_repeated e ≡ false → (xs ≡ no_instances) ⊎ (fits_repetition e (count_instances xs) ≡ true) → count_instances xs ≤ 1
few e xs z (inl h) = omega (arith, ap count_instances h)
few required xs z (inr h) = omega (arith, eqb-true _ _ h)
few optional xs z (inr h) = leb-true _ _ h
few repeated xs z (inr h) = absurd (true≢false z)

alone : (q : List Step) (xs : Instances) → count_instances xs ≤ 1 → first_value (value_in q) xs ∷ [] ≡ slot_values q [] xs
alone q no_instances h = refl
alone q (instance x no_instances) h = refl
alone q (instance x (instance y ys)) h = absurd (omega (arith, h))

level_rows : (j : ℕ) (c e : Repetition) (q p : List Step) (n : Node) → (instances_at j n ≡ no_instances) ⊎ (fits_repetition e (count_instances (instances_at j n)) ≡ true)
    → map (value_at (step j c ∷ q)) (rows (chain_end (step j e ∷ p)) n) ≡ slot_values q (chain_end p) (instances_at j n)
level_rows j c e q p n h = by_level (chain_end p) e h
  where
    by_level : (L : List Step) (e : Repetition) → (instances_at j n ≡ no_instances) ⊎ (fits_repetition e (count_instances (instances_at j n)) ≡ true) → map (value_at (step j c ∷ q)) (rows (up_to (step j e) L) n) ≡ slot_values q L (instances_at j n)
    by_level (u ∷ L) e h = slot_rows j c e q (u ∷ L) n
    by_level [] repeated h = slot_rows j c repeated q [] n
    by_level [] required h = alone q (instances_at j n) (few required (instances_at j n) refl h)
    by_level [] optional h = alone q (instances_at j n) (few optional (instances_at j n) refl h)

-- in rows of another field the value is that of the node
other_rows : (s t : Step) (q p : List Step) (n : Node) → (s.place == t.place) ≡ false → (v : Option Value) → value_at (s ∷ q) n ≡ v → map (value_at (s ∷ q)) (rows (chain_end (t ∷ p)) n) ≡ map (λ (r : Node). v) (rows (chain_end (t ∷ p)) n)
other_rows s t q p n h v z = by_level (chain_end p) t.repetition
  where
    far : (L : List Step) → map (value_at (s ∷ q)) (rows (t ∷ L) n) ≡ map (λ (r : Node). v) (rows (t ∷ L) n)
    far L = map-map (value_at (s ∷ q)) (λ (xs : Instances). put_at t.place xs n) (field_rows (rows L) (instances_at t.place n))
        ∙ map_same (λ (xs : Instances). value_at (s ∷ q) (put_at t.place xs n)) (λ (xs : Instances). v) (λ xs. ap (first_value (value_in q)) (other_put s.place t.place n xs h) ∙ z) (field_rows (rows L) (instances_at t.place n))
        ∙ sym (map-map (λ (r : Node). v) (λ (xs : Instances). put_at t.place xs n) (field_rows (rows L) (instances_at t.place n)))

    by_level : (L : List Step) (e : Repetition) → map (value_at (s ∷ q)) (rows (up_to (record { place = t.place; repetition = e }) L) n) ≡ map (λ (r : Node). v) (rows (up_to (record { place = t.place; repetition = e }) L) n)
    by_level (u ∷ L) e = far (u ∷ L)
    by_level [] required = ap (λ (x : Option Value). x ∷ []) z
    by_level [] optional = ap (λ (x : Option Value). x ∷ []) z
    by_level [] repeated = far []

-- ---- one field

abbrev pub optional_rows : List Step → List Step → Option Instance → List (Option Value)
optional_rows q p None = None ∷ []
optional_rows q p (Some x) = map (value_in q) (irows (chain_end p) x)

abbrev pub ShapeReads : ℕ → ℕ → List Step → List Step → Shape → List Pick → Type 0
ShapeReads i k q p h G = (j : ℕ) (at : Depth) (x : Option Instance) (v : Option Value) → IsThere h x → reads i k v (shape_near_moves h G at x ++ shape_far_moves h G j at x) ≡ optional_rows q p x

reads_enclosed : (i k j : ℕ) (v : Option Value) (ms : List Move) → reads i k v (enclosed j ms) ≡ reads i k v ms
reads_enclosed i k j v ms = reads_append i k v ms (leave j ∷ []) ∙ append-nil (reads i k v ms)

later_reads : (i k : ℕ) (q p : List Step) (h : Shape) (G : List Pick) → ShapeReads i k q p h G → (j : ℕ) (at : Depth) (xs : Instances) (v : Option Value) → all_instances (is_instance h) xs ≡ true
    → reads i k v (later_moves j (λ (x : Option Instance). moves_in (shape_near_moves h G) (shape_far_moves h G (suc j)) (inside repeated (begun_later at) x) x) xs) ≡ many_values q (chain_end p) xs
later_reads i k q p h G f j at no_instances v a = refl
later_reads i k q p h G f j at (instance x xs) v a =
    let b : (is_instance h x ≡ true) × (all_instances (is_instance h) xs ≡ true) = and_parts _ _ a in
    let A = moves_in (shape_near_moves h G) (shape_far_moves h G (suc j)) (inside repeated (begun_later at) (Some x)) (Some x) in
    reads_append i k v (enclosed j A) (later_moves j (λ (x : Option Instance). moves_in (shape_near_moves h G) (shape_far_moves h G (suc j)) (inside repeated (begun_later at) x) x) xs)
    ∙ ap₂ (λ (x y : List (Option Value)). x ++ y) (reads_enclosed i k j v A ∙ f (suc j) (inside repeated (begun_later at) (Some x)) (Some x) v b.0) (later_reads i k q p h G f j at xs (last k v (enclosed j A)) b.1)

field_reads : (i k : ℕ) (q p : List Step) (r : Repetition) (h : Shape) (G : List Pick) → Only i p G → ShapeReads i k q p h G → (j : ℕ) (at : Depth) (n : Node) (v : Option Value) (xs : Instances) → first_slot n ≡ xs
    → (xs ≡ no_instances) ⊎ (fits_repetition r (count_instances xs) ≡ true) → all_instances (is_instance h) xs ≡ true → reads i k v (near_in r h G at n ++ far_in r h G j at n) ≡ slot_values q (chain_end p) xs
field_reads i k q p required h G o f j at n v no_instances e s a = rw (e, selected i p G (shape_far_moves h G j (inside required at None) None) o) (f j (inside required at None) None v tt)
field_reads i k q p optional h G o f j at n v no_instances e s a = rw (e, selected i p G (shape_far_moves h G j (inside optional at None) None) o) (f j (inside optional at None) None v tt)
field_reads i k q p repeated h G o f j at n v no_instances e s a =
    rw (e, selected i p G (moves_in (shape_near_moves h G) (shape_far_moves h G (suc j)) (inside repeated at None) None) o) (f (suc j) (inside repeated at None) None v tt)
field_reads i k q p required h G o f j at n v (instance x no_instances) e s a =
    rw (e, selected i p G (shape_far_moves h G j (inside required at (Some x)) (Some x)) o) (f j (inside required at (Some x)) (Some x) v (and_parts _ _ a).0 ∙ sym (append-nil (map (value_in q) (irows (chain_end p) x))))
field_reads i k q p required h G o f j at n v (instance x (instance y ys)) e s a = let w : suc (suc (count_instances ys)) ≤ 1 = few required (instance x (instance y ys)) refl s in absurd (omega (arith, w))
field_reads i k q p optional h G o f j at n v (instance x no_instances) e s a =
    rw (e, selected i p G (shape_far_moves h G j (inside optional at (Some x)) (Some x)) o) (f j (inside optional at (Some x)) (Some x) v (and_parts _ _ a).0 ∙ sym (append-nil (map (value_in q) (irows (chain_end p) x))))
field_reads i k q p optional h G o f j at n v (instance x (instance y ys)) e s a = let w : suc (suc (count_instances ys)) ≤ 1 = few optional (instance x (instance y ys)) refl s in absurd (omega (arith, w))
field_reads i k q p repeated h G o f j at n v (instance x xs) e s a =
    let b : (is_instance h x ≡ true) × (all_instances (is_instance h) xs ≡ true) = and_parts _ _ a in
    let A = moves_in (shape_near_moves h G) (shape_far_moves h G (suc j)) (inside repeated at (Some x)) (Some x) in
    let L = later_moves j (λ (x : Option Instance). moves_in (shape_near_moves h G) (shape_far_moves h G (suc j)) (inside repeated (begun_later at) x) x) xs in
    rw (e, selected i p G (enclosed j A ++ L) o)
    (reads_append i k v (enclosed j A) L ∙ ap₂ (λ (x y : List (Option Value)). x ++ y) (reads_enclosed i k j v A ∙ f (suc j) (inside repeated at (Some x)) (Some x) v b.0) (later_reads i k q p h G f j at xs (last k v (enclosed j A)) b.1))

-- ---- two leaves that are read together

abbrev pub FieldsRead : ℕ → ℕ → Step → List Step → Step → List Step → Fields → List Pick → Type 0
FieldsRead i k s q t p fs G = (j : ℕ) (at : Depth) (n : Node) (v : Option Value) → IsNode fs n → reads i k v (near_moves fs G at n ++ far_moves fs G j at n) ≡ map (value_at (s ∷ q)) (rows (chain_end (t ∷ p)) n)

-- as many triplets as rows
abbrev pub Counts : ℕ → Type 0
Counts i = (fs : Fields) (b : ℕ) (e : Repetition) (p : List Step) (G : List Pick) → Only i (step b e ∷ p) G → is_leaf_path fs (step b e ∷ p) ≡ true → (j : ℕ) (at : Depth) (n : Node) → IsNode fs n
    → length (triplets_of i (near_moves fs G at n ++ far_moves fs G j at n)) ≡ length (rows (chain_end (step b e ∷ p)) n)

const_maps : {X Y : Type 0} (v : Option Value) (xs : List X) (ys : List Y) → length xs ≡ length ys → map (λ (x : X). v) xs ≡ map (λ (y : Y). v) ys
const_maps v [] [] h = refl
const_maps v [] (y ∷ ys) h = absurd (omega (arith, h))
const_maps v (x ∷ xs) [] h = absurd (omega (arith, h))
const_maps v (x ∷ xs) (y ∷ ys) h = ap (λ (z : List (Option Value)). v ∷ z) (const_maps v xs ys (omega (arith, h)))

-- the second leaf is below a repeated field, the first isn't
far_apart : (i k : ℕ) → Counts i → (fs : Fields) (a b : ℕ) (c e : Repetition) (q p : List Step) (G : List Pick) → Only k (step a c ∷ q) G → Only i (step b e ∷ p) G → is_leaf_path fs (step a c ∷ q) ≡ true → is_leaf_path fs (step b e ∷ p) ≡ true
    → (a == b) ≡ false → max_repetition (step a c ∷ q) ≡ 0 → 0 < max_repetition (step b e ∷ p) → FieldsRead i k (step a c) q (step b e) p fs G
far_apart i k count fs a b c e q p G ok oi uk ui z l g j at n v m =
    let N = near_moves fs G at n in
    let F = far_moves fs G j at n in
    let w = fields_once k fs c q l a G ok uk at n m in
    let x : last k v N ≡ value_at (step a c ∷ q) n = last_single k v N w.given w.once ∙ w.with_value in
    let y : triplets_of i N ≡ [] = fields_near_silent i fs e p g b G oi ui at n in
    let r : triplets_of i F ≡ triplets_of i (N ++ F) = sym (of_append i N F ∙ ap (λ (x : List Triplet). x ++ triplets_of i F) y) in
    apart_read i k v N F y (fields_far_silent k fs c q l a G ok uk j at n)
    ∙ ap₂ (λ (x : Option Value) (y : List Triplet). map (λ (t : Triplet). x) y) x r
    ∙ const_maps (value_at (step a c ∷ q) n) (triplets_of i (N ++ F)) (rows (chain_end (step b e ∷ p)) n) (count fs b e p G oi ui j at n m)
    ∙ sym (other_rows (step a c) (step b e) q p n z (value_at (step a c ∷ q) n) refl)

-- both are leaves of the level, in this order
near_apart : (i k : ℕ) → Counts i → (m : List ℕ) (r : Repetition) (h : Shape) (fs : Fields) (b : ℕ) (c e : Repetition) (q p : List Step) (G : List Pick) → Only k (step 0 c ∷ q) G → Only i (step (suc b) e ∷ p) G
    → is_leaf_path (field m r h fs) (step 0 c ∷ q) ≡ true → is_leaf_path (field m r h fs) (step (suc b) e ∷ p) ≡ true → max_repetition (step 0 c ∷ q) ≡ 0 → FieldsRead i k (step 0 c) q (step (suc b) e) p (field m r h fs) G
near_apart i k count m r h fs b c e q p G ok oi uk ui l j at n v z =
    let A = near_in r h (first_picks G) at n in
    let B = near_moves fs (later_picks G) at (other_slots n) in
    let F = far_moves (field m r h fs) G j at n in
    let w = fields_once k (field m r h fs) c q l 0 G ok uk at n z in
    let kB : triplets_of k B ≡ [] = near_nothing k fs (later_picks G) at (other_slots n) (beside_first k c q G ok) in
    let kA : triplets_of k A ≡ w.given ∷ [] = sym (of_append k A B ∙ ap (λ (x : List Triplet). triplets_of k A ++ x) kB ∙ append-nil (triplets_of k A)) ∙ w.once in
    let kF : triplets_of k F ≡ [] = fields_far_silent k (field m r h fs) c q l 0 G ok uk j at n in
    let kY : triplets_of k (B ++ F) ≡ [] = of_append k B F ∙ ap₂ (λ (x y : List Triplet). x ++ y) kB kF in
    let w0 : Without i (first_picks G) = behind_later i b e p G oi in
    let iA : triplets_of i A ≡ [] = unless_nothing i r (shape_near_moves h (first_picks G) (inside r at (first_of (first_slot n))) (first_of (first_slot n))) (shape_near_nothing i h (first_picks G) (inside r at (first_of (first_slot n))) (first_of (first_slot n)) w0) in
    let x : last k v A ≡ value_at (step 0 c ∷ q) n = last_single k v A w.given kA ∙ w.with_value in
    let y : triplets_of i (B ++ F) ≡ triplets_of i ((A ++ B) ++ F) = sym (ap (triplets_of i) (append_assoc A B F) ∙ of_append i A (B ++ F) ∙ ap (λ (x : List Triplet). x ++ triplets_of i (B ++ F)) iA) in
    ap (reads i k v) (append_assoc A B F) ∙ apart_read i k v A (B ++ F) iA kY
    ∙ ap₂ (λ (x : Option Value) (y : List Triplet). map (λ (t : Triplet). x) y) x y
    ∙ const_maps (value_at (step 0 c ∷ q) n) (triplets_of i ((A ++ B) ++ F)) (rows (chain_end (step (suc b) e ∷ p)) n) (count (field m r h fs) (suc b) e p G oi ui j at n z)
    ∙ sym (other_rows (step 0 c) (step (suc b) e) q p n (ne_eqb 0 (suc b) (omega arith)) (value_at (step 0 c ∷ q) n) refl)

-- ---- rows of the other slots

shift_rows : (a b : ℕ) (c e : Repetition) (q p : List Step) (n : Node) → map (value_at (step a c ∷ q)) (rows (chain_end (step b e ∷ p)) (other_slots n)) ≡ map (value_at (step (suc a) c ∷ q)) (rows (chain_end (step (suc b) e ∷ p)) n)
shift_rows a b c e q p n = by_level (chain_end p) e n
  where
    far : (L : List Step) (n : Node) → map (value_at (step a c ∷ q)) (rows (step b e ∷ L) (other_slots n)) ≡ map (value_at (step (suc a) c ∷ q)) (rows (step (suc b) e ∷ L) n)
    far L no_slots = map-map (value_at (step a c ∷ q)) (λ (xs : Instances). put_at b xs no_slots) (field_rows (rows L) no_instances) ∙ sym (map-map (value_at (step (suc a) c ∷ q)) (λ (xs : Instances). put_at (suc b) xs no_slots) (field_rows (rows L) no_instances))
    far L (slot ys n) = map-map (value_at (step a c ∷ q)) (λ (xs : Instances). put_at b xs n) (field_rows (rows L) (instances_at b n)) ∙ sym (map-map (value_at (step (suc a) c ∷ q)) (λ (xs : Instances). put_at (suc b) xs (slot ys n)) (field_rows (rows L) (instances_at b n)))
    far L (gap n) = map-map (value_at (step a c ∷ q)) (λ (xs : Instances). put_at b xs n) (field_rows (rows L) (instances_at b n)) ∙ sym (map-map (value_at (step (suc a) c ∷ q)) (λ (xs : Instances). put_at (suc b) xs (gap n)) (field_rows (rows L) (instances_at b n)))

    one : (n : Node) → value_at (step a c ∷ q) (other_slots n) ≡ value_at (step (suc a) c ∷ q) n
    one no_slots = refl
    one (slot ys n) = refl
    one (gap n) = refl

    by_level : (L : List Step) (e : Repetition) (n : Node) → map (value_at (step a c ∷ q)) (rows (up_to (step b e) L) (other_slots n)) ≡ map (value_at (step (suc a) c ∷ q)) (rows (up_to (step (suc b) e) L) n)
    by_level (u ∷ L) e n = far (u ∷ L) n
    by_level [] repeated n = far [] n
    by_level [] required n = ap (λ (x : Option Value). x ∷ []) (one n)
    by_level [] optional n = ap (λ (x : Option Value). x ∷ []) (one n)

-- ---- all of it

abbrev Rel : Type 0 → Type 0 → List Step → List Step → Step → Step → Type 0
Rel E B q p s t = ((s.place ≡ t.place) × Together E B q p) ⊎ (B × IsApart s t q p)

rel_below : (E B : Type 0) (q p : List Step) (a b : ℕ) (c e : Repetition) → Rel E B q p (step (suc a) c) (step (suc b) e) → Rel E B q p (step a c) (step b e)
rel_below E B q p a b c e (inl h) = let x : a ≡ b = omega (arith, h.0) in inl (x, h.1)
rel_below E B q p a b c e (inr (z, h)) = inr (z, (unequal, h.1, by_case h.2))
  where
    unequal : (a == b) ≡ false
    unequal = ne_eqb a b (λ x. true≢false (sym (eq-eqb (suc a) (suc b) (ap suc x)) ∙ h.0))

    by_case : (0 < max_repetition (step (suc b) e ∷ p)) ⊎ ((suc a < suc b) × (max_repetition (step (suc b) e ∷ p) ≡ 0)) → (0 < max_repetition (step b e ∷ p)) ⊎ ((a < b) × (max_repetition (step b e ∷ p) ≡ 0))
    by_case (inl x) = inl x
    by_case (inr x) = inr (omega (arith, x.0), x.1)

abbrev ShapeStep : Type 0 → Type 0 → ℕ → ℕ → List Step → List Step → Shape → Type 0
ShapeStep E B i k q p h = (G : List Pick) → Only k q G → Only i p G → is_shape_path h q ≡ true → is_shape_path h p ≡ true → Together E B q p → ShapeReads i k q p h G

abbrev FieldsStep : Type 0 → Type 0 → ℕ → ℕ → List Step → List Step → Repetition → Repetition → Fields → Type 0
FieldsStep E B i k q p c e fs = (a b : ℕ) (G : List Pick) → Only k (step a c ∷ q) G → Only i (step b e ∷ p) G → is_leaf_path fs (step a c ∷ q) ≡ true → is_leaf_path fs (step b e ∷ p) ≡ true
    → Rel E B q p (step a c) (step b e) → FieldsRead i k (step a c) q (step b e) p fs G

fields_through : (E B : Type 0) (i k : ℕ) → (B → Counts i) → (m : List ℕ) (r : Repetition) (h : Shape) (fs : Fields) (q p : List Step) (c e : Repetition) → ShapeStep E B i k q p h → FieldsStep E B i k q p c e fs → FieldsStep E B i k q p c e (field m r h fs)
fields_through E B i k count m r h fs q p c e f g zero zero G ok oi uk ui (inl (x, t)) j at n v z =
    let sk : (same_repetition c r ≡ true) × (is_shape_path h q ≡ true) = and_parts _ _ uk in
    let si : (same_repetition e r ≡ true) × (is_shape_path h p ≡ true) = and_parts _ _ ui in
    let s : FirstSlot r h fs n = first_of_node m r h fs n z in
    let kB = near_nothing k fs (later_picks G) at (other_slots n) (beside_first k c q G ok) in
    let iB = near_nothing i fs (later_picks G) at (other_slots n) (beside_first i e p G oi) in
    let iD = far_nothing i fs (later_picks G) (j + (repetition_count r + shape_repeated_fields h)) at (other_slots n) (beside_first i e p G oi) in
    first_read i k v (near_in r h (first_picks G) at n) (near_moves fs (later_picks G) at (other_slots n)) (far_in r h (first_picks G) j at n) (far_moves fs (later_picks G) (j + (repetition_count r + shape_repeated_fields h)) at (other_slots n)) iB kB iD
    ∙ field_reads i k q p r h (first_picks G) (only_behind i e p G oi) (f (first_picks G) (only_behind k c q G ok) (only_behind i e p G oi) sk.1 si.1 t) j at n v (first_slot n) refl s.0 s.1
    ∙ ap (slot_values q (chain_end p)) (sym s.2)
    ∙ sym (level_rows 0 c e q p n (by_slot (sym s.2) (subst (λ (y : Repetition). (first_slot n ≡ no_instances) ⊎ (fits_repetition y (count_instances (first_slot n)) ≡ true)) (sym (same_repetition-true e r si.0)) s.0)))
  where
    by_slot : first_slot n ≡ instances_at 0 n → (first_slot n ≡ no_instances) ⊎ (fits_repetition e (count_instances (first_slot n)) ≡ true) → (instances_at 0 n ≡ no_instances) ⊎ (fits_repetition e (count_instances (instances_at 0 n)) ≡ true)
    by_slot x s = subst (λ (y : Instances). (y ≡ no_instances) ⊎ (fits_repetition e (count_instances y) ≡ true)) x s
fields_through E B i k count m r h fs q p c e f g zero zero G ok oi uk ui (inr (y, x)) j at n v z = absurd (true≢false (sym (eq-eqb 0 0 refl) ∙ x.0))
fields_through E B i k count m r h fs q p c e f g zero (suc b) G ok oi uk ui (inl (x, t)) j at n v z = absurd (omega (arith, x))
fields_through E B i k count m r h fs q p c e f g zero (suc b) G ok oi uk ui (inr (y, x)) j at n v z = by_case x.2 j at n v z
  where
    by_case : (0 < max_repetition (step (suc b) e ∷ p)) ⊎ ((0 < suc b) × (max_repetition (step (suc b) e ∷ p) ≡ 0)) → FieldsRead i k (step 0 c) q (step (suc b) e) p (field m r h fs) G
    by_case (inl w) = far_apart i k (count y) (field m r h fs) 0 (suc b) c e q p G ok oi uk ui x.0 x.1 w
    by_case (inr w) = near_apart i k (count y) m r h fs b c e q p G ok oi uk ui x.1
fields_through E B i k count m r h fs q p c e f g (suc a) zero G ok oi uk ui (inl (x, t)) j at n v z = absurd (omega (arith, x))
fields_through E B i k count m r h fs q p c e f g (suc a) zero G ok oi uk ui (inr (y, x)) j at n v z = by_case x.2 j at n v z
  where
    by_case : (0 < max_repetition (step 0 e ∷ p)) ⊎ ((suc a < 0) × (max_repetition (step 0 e ∷ p) ≡ 0)) → FieldsRead i k (step (suc a) c) q (step 0 e) p (field m r h fs) G
    by_case (inl w) = far_apart i k (count y) (field m r h fs) (suc a) 0 c e q p G ok oi uk ui x.0 x.1 w
    by_case (inr w) = absurd (omega (arith, w.0))
fields_through E B i k count m r h fs q p c e f g (suc a) (suc b) G ok oi uk ui x j at n v z =
    let s : FirstSlot r h fs n = first_of_node m r h fs n z in
    let wk : Without k (first_picks G) = behind_later k a c q G ok in
    let wi : Without i (first_picks G) = behind_later i b e p G oi in
    let x0 = first_of (first_slot n) in
    later_read i k v (near_in r h (first_picks G) at n) (near_moves fs (later_picks G) at (other_slots n)) (far_in r h (first_picks G) j at n) (far_moves fs (later_picks G) (j + (repetition_count r + shape_repeated_fields h)) at (other_slots n))
    (unless_nothing i r (shape_near_moves h (first_picks G) (inside r at x0) x0) (shape_near_nothing i h (first_picks G) (inside r at x0) x0 wi))
    (unless_nothing k r (shape_near_moves h (first_picks G) (inside r at x0) x0) (shape_near_nothing k h (first_picks G) (inside r at x0) x0 wk))
    (far_in_nothing i r h (first_picks G) j at n (λ d y. shape_near_nothing i h (first_picks G) d y wi) (λ l d y. shape_far_nothing i h (first_picks G) l d y wi))
    (far_in_nothing k r h (first_picks G) j at n (λ d y. shape_near_nothing k h (first_picks G) d y wk) (λ l d y. shape_far_nothing k h (first_picks G) l d y wk))
    ∙ g a b (later_picks G) (only_beside k a c q G ok) (only_beside i b e p G oi) uk ui (rel_below E B q p a b c e x) (j + (repetition_count r + shape_repeated_fields h)) at (other_slots n) v s.3
    ∙ shift_rows a b c e q p n

inner_rows : (s : Step) (q L : List Step) (n : Node) → map (value_in (s ∷ q)) (irows L (inner n)) ≡ map (value_at (s ∷ q)) (rows L n)
inner_rows s q [] n = refl
inner_rows s q (u ∷ L) n = map-map (value_in (s ∷ q)) inner (rows (u ∷ L) n)

absent_rows : (s : Step) (q L : List Step) → map (value_at (s ∷ q)) (rows L no_slots) ≡ None ∷ []
absent_rows s q [] = refl
absent_rows s q (u ∷ L) = refl

leaf_reads : (i k : ℕ) → k ≡ i → (w : Kind) (G : List Pick) → Only i [] G → ShapeReads i k [] [] (leaf w) G
leaf_reads i k e w G o j at x v t = subst (λ (y : ℕ). reads i y v (shape_near_moves (leaf w) G at x ++ []) ≡ optional_rows [] [] x) (sym e) (own x t)
  where
    given : (x : Option Instance) → IsThere (leaf w) x → triplets_of i (shape_near_moves (leaf w) G at x ++ []) ≡ optional_column [] at.level at.definition at.repetition x
    given x t = of_append i (shape_near_moves (leaf w) G at x) [] ∙ shape_gives i (leaf w) [] G o refl j at x t

    own : (x : Option Instance) → IsThere (leaf w) x → reads i i v (shape_near_moves (leaf w) G at x ++ []) ≡ optional_rows [] [] x
    own None t = own_read i v (shape_near_moves (leaf w) G at None ++ []) ∙ ap (map (λ (t : Triplet). t.value)) (given None t)
    own (Some (atom y)) t = own_read i v (shape_near_moves (leaf w) G at (Some (atom y)) ++ []) ∙ ap (map (λ (t : Triplet). t.value)) (given (Some (atom y)) t)
    own (Some (inner y)) t = absurd (true≢false (sym t))

group_reads : (i k : ℕ) (s t : Step) (q p : List Step) (fs : Fields) (G : List Pick) → FieldsRead i k s q t p fs G → ShapeReads i k (s ∷ q) (t ∷ p) (group fs) G
group_reads i k s t q p fs G f j at None v z = f j at no_slots v (inl refl) ∙ absent_rows s q (chain_end (t ∷ p))
group_reads i k s t q p fs G f j at (Some (atom w)) v z = absurd (true≢false (sym z))
group_reads i k s t q p fs G f j at (Some (inner n)) v z = f j at n v (inr z) ∙ sym (inner_rows s q (chain_end (t ∷ p)) n)

mutual
  fields_read : (E B : Type 0) (i k : ℕ) → (E → k ≡ i) → (B → Counts i) → (fs : Fields) (q p : List Step) (c e : Repetition) → FieldsStep E B i k q p c e fs
  fields_read E B i k eq count no_fields q p c e a b G ok oi uk ui x j at n v z = absurd (true≢false (sym uk))
  fields_read E B i k eq count (field m r h fs) q p c e a b G ok oi uk ui x j at n v z =
      fields_through E B i k count m r h fs q p c e (λ G ok oi uk ui t j at y v z. shape_reads E B i k eq count h q p G ok oi uk ui t j at y v z) (λ a b G ok oi uk ui x j at n v z. fields_read E B i k eq count fs q p c e a b G ok oi uk ui x j at n v z) a b G ok oi uk ui x j at n v z

  pub shape_reads : (E B : Type 0) (i k : ℕ) → (E → k ≡ i) → (B → Counts i) → (h : Shape) (q p : List Step) → ShapeStep E B i k q p h
  shape_reads E B i k eq count (leaf w) _ _ G ok oi uk ui (same_leaf x) j at y v z = leaf_reads i k (eq x) w G oi j at y v z
  shape_reads E B i k eq count (leaf w) _ _ G ok oi uk ui (along a c e q p t) j at y v z = absurd (true≢false (sym uk))
  shape_reads E B i k eq count (leaf w) _ _ G ok oi uk ui (apart s t q p b x) j at y v z = absurd (true≢false (sym uk))
  shape_reads E B i k eq count (group no_fields) _ _ G ok oi uk ui (same_leaf x) j at y v z = absurd (true≢false (sym uk))
  shape_reads E B i k eq count (group (field m r h fs)) _ _ G ok oi uk ui (same_leaf x) j at y v z = absurd (true≢false (sym uk))
  shape_reads E B i k eq count (group fs) _ _ G ok oi uk ui (along a c e q p t) j at y v z = group_reads i k (step a c) (step a e) q p fs G (fields_read E B i k eq count fs q p c e a a G ok oi uk ui (inl (refl, t))) j at y v z
  shape_reads E B i k eq count (group fs) _ _ G ok oi uk ui (apart s t q p b x) j at y v z = group_reads i k s t q p fs G (fields_read E B i k eq count fs q p s.repetition t.repetition s.place t.place G ok oi uk ui (inr (b, x))) j at y v z

pub own_together : (p : List Step) → Together (Unit {0}) ⊥ p p
own_together [] = same_leaf tt
own_together (s ∷ p) = along s.place s.repetition s.repetition p p (own_together p)

-- a leaf has as many triplets as its level has rows
pub counts : (i : ℕ) → Counts i
counts i fs b e p G o u j at n z =
    let N = near_moves fs G at n ++ far_moves fs G j at n in
    let r : reads i i None N ≡ map (value_at (step b e ∷ p)) (rows (chain_end (step b e ∷ p)) n) = fields_read (Unit {0}) ⊥ i i (λ x. refl) (λ x. absurd x) fs p p e e b b G o o u u (inl (refl, own_together p)) j at n None z in
    sym (length-map (triplets_of i N) (λ (t : Triplet). t.value)) ∙ ap length (sym (own_read i None N) ∙ r) ∙ length-map (rows (chain_end (step b e ∷ p)) n) (value_at (step b e ∷ p))

rows_inner : (q L : List Step) (n : Node) → map (value_in q) (irows L (inner n)) ≡ map (value_at q) (rows L n)
rows_inner q [] n = refl
rows_inner q (u ∷ L) n = map-map (value_in q) inner (rows (u ∷ L) n)

-- wherever a triplet of leaf i is given in the walk of a record, what was read last of a leaf k that is read together with it is its value in the row there
pub record_reads : (fs : Fields) (F : List (List Step)) (i k : ℕ) (p q : List Step) (n : Node) (v : Option Value) → slice_get F i ≡ Some p → slice_get F k ≡ Some q → is_leaf_path fs p ≡ true → is_leaf_path fs q ≡ true
    → is_record fs n ≡ true → Together (k ≡ i) (Unit {0}) q p → reads i k v (record_moves fs F n) ≡ map (value_at q) (rows (chain_end p) n)
record_reads fs F i k p q n v ei ek ui uk z t =
    let ok : Only k q (picks F) = subst (λ (x : ℕ). Only x q (picks F)) (no_shift k) (picks_only k 0 q F ek) in
    let oi : Only i p (picks F) = subst (λ (x : ℕ). Only x p (picks F)) (no_shift i) (picks_only i 0 p F ei) in
    reads_enclosed i k 0 v (near_moves fs (picks F) top n ++ far_moves fs (picks F) 1 top n)
    ∙ shape_reads (k ≡ i) (Unit {0}) i k (λ e. e) (λ x. counts i) (group fs) q p (picks F) ok oi uk ui t 1 top (Some (inner n)) v z
    ∙ rows_inner q (chain_end p) n
  where
    no_shift : (n : ℕ) → 0 + n ≡ n
    no_shift n = omega arith

-- How many rows a path has in a node: as many as its column has triplets, and no fewer than a front of it has.
use Rattle.std.proofs.Common.{◌≡◌, ◌≤◌, ℕ, ◌+◌, List, [], ◌∷◌, map, length, Bool, true, false, ◌||◌, refl, sym, subst, true≢false, arith}
use Rattle.std.specs.Prelude.{◌==◌, nat_le}
use Rattle.std.specs.List.{flat_map, list_any}
use Rattle.std.proofs.lemmas.Bool.{and_parts, eqb-true, leb-true}
use Rattle.std.proofs.lemmas.List.{length-append, length-map}
use Rattle.dr_meaning.specs.Schema.{repetition_count, definition_count}
use Rattle.dr_meaning.specs.Path.{Step, Leaf, begins_with}
use Rattle.dr_meaning.specs.Record.{Node, Instances, no_instances, instance, Instance, atom, inner, instances_at, instances_in, put_at, single}
use Rattle.dr_meaning.specs.Rows.{instance_rows, each_instance_rows, field_rows, rows}
use Rattle.dr_meaning.specs.Column.{Triplet, each_later, spread, instance_column, record_column, column}
use Rattle.dr_meaning.specs.ProjectionLaws.{leads}
use Rattle.dr_partials.specs.Few.{has_few}

-- ---- counts

abbrev pub later_counts : (Instance → ℕ) → Instances → ℕ
later_counts f no_instances = 0
later_counts f (instance x xs) = f x + later_counts f xs

-- where there is no instance, one row in which it is absent
abbrev pub field_count : (Instance → ℕ) → Instances → ℕ
field_count f no_instances = 1
field_count f (instance x xs) = later_counts f (instance x xs)

-- how many rows a path has in an instance
abbrev pub row_count : List Step → Instance → ℕ
row_count [] x = 1
row_count (s ∷ p) x = field_count (row_count p) (instances_in s.place x)

-- ---- rows

one_counted : (p : List Step) → ((n : Node) → length (rows p n) ≡ row_count p (inner n)) → (x : Instance) → length (instance_rows (rows p) x) ≡ row_count p x
one_counted [] h (atom v) = refl
one_counted (s ∷ p) h (atom v) = refl
one_counted p h (inner n) = omega (arith, length-map (rows p n) (λ (m : Node). single (inner m)), h n)

each_counted : (p : List Step) → ((n : Node) → length (rows p n) ≡ row_count p (inner n)) → (xs : Instances) → length (each_instance_rows (rows p) xs) ≡ later_counts (row_count p) xs
each_counted p h no_instances = refl
each_counted p h (instance x xs) = omega (arith, length-append (instance_rows (rows p) x) (each_instance_rows (rows p) xs), one_counted p h x, each_counted p h xs)

field_counted : (p : List Step) → ((n : Node) → length (rows p n) ≡ row_count p (inner n)) → (xs : Instances) → length (field_rows (rows p) xs) ≡ field_count (row_count p) xs
field_counted p h no_instances = refl
field_counted p h (instance x xs) = each_counted p h (instance x xs)

rows_counted : (p : List Step) (n : Node) → length (rows p n) ≡ row_count p (inner n)
rows_counted [] n = refl
rows_counted (s ∷ p) n =
    omega (arith, length-map (field_rows (rows p) (instances_at s.place n)) (λ (xs : Instances). put_at s.place xs n), field_counted p (rows_counted p) (instances_at s.place n))

-- ---- triplets

later_triplets : (f : ℕ → Instance → List Triplet) (g : Instance → ℕ) → ((r : ℕ) (x : Instance) → length (f r x) ≡ g x) → (k : ℕ) (xs : Instances) → length (each_later f k xs) ≡ later_counts g xs
later_triplets f g h k no_instances = refl
later_triplets f g h k (instance x xs) = omega (arith, length-append (f k x) (each_later f k xs), h k x, later_triplets f g h k xs)

field_triplets : (f : ℕ → Instance → List Triplet) (g : Instance → ℕ) → ((r : ℕ) (x : Instance) → length (f r x) ≡ g x) → (k d r : ℕ) (xs : Instances) → length (spread f k d r xs) ≡ field_count g xs
field_triplets f g h k d r no_instances = refl
field_triplets f g h k d r (instance x xs) = omega (arith, length-append (f r x) (each_later f k xs), h r x, later_triplets f g h k xs)

triplets_counted : (p : List Step) (l d r : ℕ) (x : Instance) → length (instance_column p l d r x) ≡ row_count p x
triplets_counted [] l d r x = refl
triplets_counted (s ∷ p) l d r x =
    field_triplets (instance_column p (l + repetition_count s.repetition) (d + definition_count s.repetition)) (row_count p)
    (triplets_counted p (l + repetition_count s.repetition) (d + definition_count s.repetition)) (l + repetition_count s.repetition) d r (instances_in s.place x)

-- ---- a front of a path has no more rows

later_more : (f g : Instance → ℕ) → ((x : Instance) → f x ≤ g x) → (xs : Instances) → later_counts f xs ≤ later_counts g xs
later_more f g h no_instances = omega arith
later_more f g h (instance x xs) = omega (arith, h x, later_more f g h xs)

field_more : (f g : Instance → ℕ) → ((x : Instance) → f x ≤ g x) → (xs : Instances) → field_count f xs ≤ field_count g xs
field_more f g h no_instances = omega arith
field_more f g h (instance x xs) = later_more f g h (instance x xs)

first_row : (f : Instance → ℕ) → ((x : Instance) → 1 ≤ f x) → (xs : Instances) → 1 ≤ field_count f xs
first_row f h no_instances = omega arith
first_row f h (instance x xs) = omega (arith, h x)

some_row : (p : List Step) (x : Instance) → 1 ≤ row_count p x
some_row [] x = omega arith
some_row (s ∷ p) x = first_row (row_count p) (some_row p) (instances_in s.place x)

front_rows : (p q : List Step) (x : Instance) → begins_with p q ≡ true → row_count p x ≤ row_count q x
front_rows [] q x h = some_row q x
front_rows (s ∷ p) [] x h = absurd (true≢false (sym h))
front_rows (s ∷ p) (t ∷ q) x h =
    let k = and_parts (s.place == t.place) (begins_with p q) h in
    subst (λ (i : ℕ). row_count (s ∷ p) x ≤ field_count (row_count q) (instances_in i x)) (eqb-true s.place t.place k.0)
    (field_more (row_count p) (row_count q) (λ y. front_rows p q y k.1) (instances_in s.place x))

-- ---- the rows of records

rows_in_column : (p q : List Step) (R : List Node) → begins_with p q ≡ true → length (flat_map (rows p) R) ≤ length (column q R)
rows_in_column p q [] h = omega arith
rows_in_column p q (n ∷ R) h =
    omega (arith, length-append (rows p n) (flat_map (rows p) R), length-append (record_column q n) (column q R), rows_counted p n, triplets_counted q 0 0 0 (inner n), front_rows p q (inner n) h, rows_in_column p q R h)

one_row_each : (R : List Node) → length (flat_map (rows []) R) ≡ length R
one_row_each [] = refl
one_row_each (n ∷ R) = omega (arith, one_row_each R)

pub more_rows : (p : List Step) (m n : Node) → row_count p (inner m) ≤ row_count p (inner n) → length (rows p m) ≤ length (rows p n)
more_rows p m n h = omega (arith, rows_counted p m, rows_counted p n, h)

-- a path that leads on to leaves of few triplets has few rows
pub few_rows : (p : List Step) (F : List Leaf) (R : List Node) (n : ℕ) → leads p (map (λ (l : Leaf). l.path) F) ≡ true → length R ≤ n → has_few n F R ≡ true → length (flat_map (rows p) R) ≤ n
few_rows [] F R n h k f = omega (arith, one_row_each R)
few_rows (s ∷ p) [] R n h k f = absurd (true≢false (sym h))
few_rows (s ∷ p) (l ∷ F) R n h k f =
    let g = and_parts (nat_le (length (column l.path R)) n) (has_few n F R) f in
    by_test (begins_with (s ∷ p) l.path) refl h g (λ i. few_rows (s ∷ p) F R n i k g.1)
  where
    by_test : (b : Bool) → begins_with (s ∷ p) l.path ≡ b → (b || list_any (begins_with (s ∷ p)) (map (λ (l : Leaf). l.path) F)) ≡ true
        → ((nat_le (length (column l.path R)) n) ≡ true) × (has_few n F R ≡ true)
        → (list_any (begins_with (s ∷ p)) (map (λ (l : Leaf). l.path) F) ≡ true → length (flat_map (rows (s ∷ p)) R) ≤ n) → length (flat_map (rows (s ∷ p)) R) ≤ n
    by_test true e i g r = let t : length (column l.path R) ≤ n = leb-true _ _ g.0 in omega (arith, rows_in_column (s ∷ p) l.path R e)
    by_test false e i g r = r i

-- How long the column of a record is, and how much text is in it.
use Rattle.std.proofs.Common.{◌≡◌, ◌≤◌, ℕ, zero, suc, ◌+◌, max, List, [], ◌∷◌, ◌++◌, length, Option, Some, None, arith}
use Rattle.std.proofs.lemmas.List.{length-append}
use Rattle.dr_meaning.specs.Schema.{repetition_count, definition_count}
use Rattle.dr_meaning.specs.Path.{Step}
use Rattle.dr_meaning.specs.Record.{Value, text_length, Node, no_slots, slot, gap, Instances, no_instances, instance, Instance, atom, inner, instances_at, instances_in, instance_count, instance_count_all, instance_count_one, text_bytes, text_bytes_all, text_bytes_one}
use Rattle.dr_meaning.specs.Column.{Triplet, each_later, spread, instance_column, record_column}
use Rattle.dr_meaning.specs.ColumnLaws.{ColumnIsShort}

-- ---- what is at a place is in the node

at_count : (i : ℕ) (n : Node) → instance_count_all (instances_at i n) ≤ instance_count n
at_count i no_slots = omega arith
at_count zero (slot xs n) = omega arith
at_count (suc i) (slot xs n) = omega (arith, at_count i n)
at_count zero (gap n) = omega arith
at_count (suc i) (gap n) = at_count i n

in_count : (i : ℕ) (x : Instance) → instance_count_all (instances_in i x) ≤ instance_count_one x
in_count i (atom v) = omega arith
in_count i (inner n) = at_count i n

at_text : (i : ℕ) (n : Node) → text_bytes_all (instances_at i n) ≤ text_bytes n
at_text i no_slots = omega arith
at_text zero (slot xs n) = omega arith
at_text (suc i) (slot xs n) = omega (arith, at_text i n)
at_text zero (gap n) = omega arith
at_text (suc i) (gap n) = at_text i n

in_text : (i : ℕ) (x : Instance) → text_bytes_all (instances_in i x) ≤ text_bytes_one x
in_text i (atom v) = omega arith
in_text i (inner n) = at_text i n

-- ---- triplets

abbrev Short : (ℕ → Instance → List Triplet) → Type 0
Short f = (k : ℕ) (x : Instance) → length (f k x) ≤ 1 + instance_count_one x

later_short : (f : ℕ → Instance → List Triplet) → Short f → (k : ℕ) (xs : Instances) → length (each_later f k xs) ≤ instance_count_all xs
later_short f h k no_instances = omega arith
later_short f h k (instance x xs) = omega (arith, h k x, later_short f h k xs, length-append (f k x) (each_later f k xs))

spread_short : (f : ℕ → Instance → List Triplet) → Short f → (k d r : ℕ) (xs : Instances) → length (spread f k d r xs) ≤ max 1 (instance_count_all xs)
spread_short f h k d r no_instances = omega arith
spread_short f h k d r (instance x xs) = omega (arith, h r x, later_short f h k xs, length-append (f r x) (each_later f k xs))

column_short : (p : List Step) (l d : ℕ) → Short (instance_column p l d)
column_short [] l d r x = omega arith
column_short (s ∷ p) l d r x =
    omega (arith, in_count s.place x, spread_short (instance_column p (l + repetition_count s.repetition) (d + definition_count s.repetition)) (column_short p (l + repetition_count s.repetition) (d + definition_count s.repetition)) (l + repetition_count s.repetition) d r (instances_in s.place x))

pub column_is_short : ColumnIsShort
column_is_short [] n = omega arith
column_is_short (s ∷ p) n =
    omega (arith, at_count s.place n, spread_short (instance_column p (0 + repetition_count s.repetition) (0 + definition_count s.repetition)) (column_short p (0 + repetition_count s.repetition) (0 + definition_count s.repetition)) (0 + repetition_count s.repetition) 0 0 (instances_at s.place n))

-- ---- texts

abbrev pub text_of : Option Value → ℕ
text_of None = 0
text_of (Some v) = text_length v

-- the bytes of texts in triplets
abbrev pub texts_of : List Triplet → ℕ
texts_of [] = 0
texts_of (t ∷ ts) = text_of t.value + texts_of ts

pub texts_append : (ts us : List Triplet) → texts_of (ts ++ us) ≡ texts_of ts + texts_of us
texts_append [] us = omega arith
texts_append (t ∷ ts) us = omega (arith, texts_append ts us)

abbrev Few : (ℕ → Instance → List Triplet) → Type 0
Few f = (k : ℕ) (x : Instance) → texts_of (f k x) ≤ text_bytes_one x

later_few : (f : ℕ → Instance → List Triplet) → Few f → (k : ℕ) (xs : Instances) → texts_of (each_later f k xs) ≤ text_bytes_all xs
later_few f h k no_instances = omega arith
later_few f h k (instance x xs) = omega (arith, h k x, later_few f h k xs, texts_append (f k x) (each_later f k xs))

spread_few : (f : ℕ → Instance → List Triplet) → Few f → (k d r : ℕ) (xs : Instances) → texts_of (spread f k d r xs) ≤ text_bytes_all xs
spread_few f h k d r no_instances = omega arith
spread_few f h k d r (instance x xs) = omega (arith, h r x, later_few f h k xs, texts_append (f r x) (each_later f k xs))

column_few : (p : List Step) (l d : ℕ) → Few (instance_column p l d)
column_few [] l d r (atom v) = omega arith
column_few [] l d r (inner n) = omega arith
column_few (s ∷ p) l d r x =
    omega (arith, in_text s.place x, spread_few (instance_column p (l + repetition_count s.repetition) (d + definition_count s.repetition)) (column_few p (l + repetition_count s.repetition) (d + definition_count s.repetition)) (l + repetition_count s.repetition) d r (instances_in s.place x))

-- a record's column has no more text than the record
pub record_texts : (p : List Step) (n : Node) → texts_of (record_column p n) ≤ text_bytes n
record_texts p n = column_few p 0 0 0 (inner n)

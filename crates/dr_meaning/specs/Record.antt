-- Records: trees that give each field of a group its instances (Dremel 2010, section 3, "Data model").
use Rattle.std.specs.Prelude.{ℕ, zero, suc, ◌+◌, ◌^◌, List, [], ◌∷◌, length, Bool, true, false, ◌&&◌, ◌==◌, nat_le, ℤ, pos, neg_ℤ, int_le, int_lt}
use Rattle.std.specs.Str.{is_utf8}
use Rattle.dr_meaning.specs.Path.{Step}
use Rattle.dr_meaning.specs.Schema.{Repetition, required, optional, repeated, Kind, bool_kind, int32_kind, int64_kind, text_kind, Fields, no_fields}
use Rattle.dr_meaning.specs.Schema.{field, Shape, leaf, group}

-- a value: a truth value, a whole number, the UTF-8 bytes of a text
pub data Value : Type 0 where
  bool_value : Bool → Value
  int_value : ℤ → Value
  text_value : List ℕ → Value

mutual
  -- a node: for each field of its group, in order, its instances; a gap stands for a field that a projection dropped
  pub data Node : Type 0 where
    no_slots : Node
    slot : Instances → Node → Node
    gap : Node → Node

  pub data Instances : Type 0 where
    no_instances : Instances
    instance : Instance → Instances → Instances

  -- a value of a leaf, or a node of a group
  pub data Instance : Type 0 where
    atom : Value → Instance
    inner : Node → Instance

-- ---- which nodes are records of a schema

-- at least -2^(n-1), below 2^(n-1)
abbrev pub in_int32 : ℤ → Bool
in_int32 z = int_le (neg_ℤ (pos (2 ^ 31))) z && int_lt z (pos (2 ^ 31))

abbrev pub in_int64 : ℤ → Bool
in_int64 z = int_le (neg_ℤ (pos (2 ^ 63))) z && int_lt z (pos (2 ^ 63))

abbrev pub is_of_kind : Kind → Value → Bool
is_of_kind bool_kind (bool_value b) = true
is_of_kind int32_kind (int_value z) = in_int32 z
is_of_kind int64_kind (int_value z) = in_int64 z
is_of_kind text_kind (text_value t) = is_utf8 t
is_of_kind k v = false

abbrev pub count_instances : Instances → ℕ
count_instances no_instances = 0
count_instances (instance x xs) = suc (count_instances xs)

-- one instance alone
abbrev pub single : Instance → Instances
single x = instance x no_instances

-- exactly one, at most one, any number
abbrev pub fits_repetition : Repetition → ℕ → Bool
fits_repetition required n = n == 1
fits_repetition optional n = nat_le n 1
fits_repetition repeated n = true

abbrev pub all_instances : (Instance → Bool) → Instances → Bool
all_instances p no_instances = true
all_instances p (instance x xs) = p x && all_instances p xs

abbrev pub is_atom_of : Kind → Instance → Bool
is_atom_of k (atom v) = is_of_kind k v
is_atom_of k (inner n) = false

abbrev pub is_inner_that : (Node → Bool) → Instance → Bool
is_inner_that p (atom v) = false
is_inner_that p (inner n) = p n

-- the node begins with a slot whose instances pass, and the rest passes
abbrev pub is_slot_that : Repetition → (Instance → Bool) → (Node → Bool) → Node → Bool
is_slot_that r p rest no_slots = false
is_slot_that r p rest (slot xs n) = fits_repetition r (count_instances xs) && all_instances p xs && rest n
is_slot_that r p rest (gap n) = false

abbrev pub is_end : Node → Bool
is_end no_slots = true
is_end (slot xs n) = false
is_end (gap n) = false

abbrev mutual
  pub is_record : Fields → Node → Bool
  is_record no_fields = is_end
  is_record (field n r s fs) = is_slot_that r (is_instance s) (is_record fs)

  pub is_instance : Shape → Instance → Bool
  is_instance (leaf k) = is_atom_of k
  is_instance (group fs) = is_inner_that (is_record fs)

-- ---- looking into a node

-- the instances of the field at this place
abbrev pub instances_at : ℕ → Node → Instances
instances_at i no_slots = no_instances
instances_at zero (slot xs n) = xs
instances_at (suc i) (slot xs n) = instances_at i n
instances_at zero (gap n) = no_instances
instances_at (suc i) (gap n) = instances_at i n

abbrev pub instances_in : ℕ → Instance → Instances
instances_in i (atom v) = no_instances
instances_in i (inner n) = instances_at i n

-- the node with other instances of the field at this place
abbrev pub put_at : ℕ → Instances → Node → Node
put_at i xs no_slots = no_slots
put_at zero xs (slot ys n) = slot xs n
put_at (suc i) xs (slot ys n) = slot ys (put_at i xs n)
put_at zero xs (gap n) = gap n
put_at (suc i) xs (gap n) = gap (put_at i xs n)

-- ---- projection to a set of leaves, each given by its path

-- the paths that begin with the first field of a group, without that step
abbrev pub through_first_if : ℕ → List Step → List (List Step) → List (List Step)
through_first_if zero p F = p ∷ F
through_first_if (suc i) p F = F

abbrev pub through_first : List (List Step) → List (List Step)
through_first [] = []
through_first ([] ∷ F) = through_first F
through_first ((s ∷ p) ∷ F) = through_first_if s.place p (through_first F)

-- the paths that begin with a later field, as the rest of the group counts its fields
abbrev pub through_later_if : ℕ → Step → List Step → List (List Step) → List (List Step)
through_later_if zero s p F = F
through_later_if (suc i) s p F = (record { place = i; repetition = s.repetition } ∷ p) ∷ F

abbrev pub through_later : List (List Step) → List (List Step)
through_later [] = []
through_later ([] ∷ F) = through_later F
through_later ((s ∷ p) ∷ F) = through_later_if s.place s p (through_later F)

-- a slot, or a gap where no path leads on
abbrev pub slot_for : List (List Step) → Instances → Node → Node
slot_for [] xs n = gap n
slot_for (p ∷ F) xs n = slot xs n

-- fields on no path to the leaves are dropped, at every depth; groups that stay are kept, even empty
abbrev mutual
  pub project : List (List Step) → Node → Node
  project F no_slots = no_slots
  project F (slot xs n) = slot_for (through_first F) (project_all (through_first F) xs) (project (through_later F) n)
  project F (gap n) = gap (project (through_later F) n)

  pub project_all : List (List Step) → Instances → Instances
  project_all F no_instances = no_instances
  project_all F (instance x xs) = instance (project_one F x) (project_all F xs)

  pub project_one : List (List Step) → Instance → Instance
  project_one F (atom v) = atom v
  project_one F (inner n) = inner (project F n)

-- ---- the size of a record

-- how many instances of fields it has
abbrev mutual
  pub instance_count : Node → ℕ
  instance_count no_slots = 0
  instance_count (slot xs n) = instance_count_all xs + instance_count n
  instance_count (gap n) = instance_count n

  pub instance_count_all : Instances → ℕ
  instance_count_all no_instances = 0
  instance_count_all (instance x xs) = 1 + instance_count_one x + instance_count_all xs

  pub instance_count_one : Instance → ℕ
  instance_count_one (atom v) = 0
  instance_count_one (inner n) = instance_count n

abbrev pub text_length : Value → ℕ
text_length (bool_value b) = 0
text_length (int_value z) = 0
text_length (text_value t) = length t

-- how many bytes its texts have together
abbrev mutual
  pub text_bytes : Node → ℕ
  text_bytes no_slots = 0
  text_bytes (slot xs n) = text_bytes_all xs + text_bytes n
  text_bytes (gap n) = text_bytes n

  pub text_bytes_all : Instances → ℕ
  text_bytes_all no_instances = 0
  text_bytes_all (instance x xs) = text_bytes_one x + text_bytes_all xs

  pub text_bytes_one : Instance → ℕ
  text_bytes_one (atom v) = text_length v
  text_bytes_one (inner n) = text_bytes n

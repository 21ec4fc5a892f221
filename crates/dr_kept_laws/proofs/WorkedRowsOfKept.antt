-- Kept rows of small records, by computation.
use Rattle.std.specs.Prelude.{◌≡◌, ℕ, List, [], ◌∷◌, map, Option, None, Some, pos, refl}
use Rattle.dr_meaning.specs.Schema.{Repetition, required, optional, repeated}
use Rattle.dr_meaning.specs.Path.{Step}
use Rattle.dr_meaning.specs.Record.{Value, int_value, Node, no_slots, slot, Instances, no_instances, instance, Instance, atom, inner, single}
use Rattle.dr_meaning.specs.Rows.{value_at}
use Rattle.dr_meaning.specs.Expression.{Expression, constant, path_value, comparison, less, is_null, evaluate, is_true}
use Rattle.dr_meaning.specs.Kept.{kept_along}
use Rattle.dr_kept_laws.specs.RowsOfKept.{kept_rows, rows_left}

-- ---- paths of message { repeated group a { repeated group b { required int64 x; repeated int64 y }; repeated int64 c; optional int64 d };
-- repeated int64 e; optional group g { repeated int64 h; optional int64 i } }

abbrev pub step : ℕ → Repetition → Step
step i r = record { place = i; repetition = r }

abbrev pub a : List Step
a = step 0 repeated ∷ []

abbrev pub b : List Step
b = step 0 repeated ∷ step 0 repeated ∷ []

abbrev pub x : List Step
x = step 0 repeated ∷ step 0 repeated ∷ step 0 required ∷ []

abbrev pub y : List Step
y = step 0 repeated ∷ step 0 repeated ∷ step 1 repeated ∷ []

abbrev pub c : List Step
c = step 0 repeated ∷ step 1 repeated ∷ []

abbrev pub d : List Step
d = step 0 repeated ∷ step 2 optional ∷ []

abbrev pub e : List Step
e = step 1 repeated ∷ []

abbrev pub g : List Step
g = step 2 optional ∷ []

abbrev pub h : List Step
h = step 2 optional ∷ step 0 repeated ∷ []

-- ---- a record

abbrev pub number : ℕ → Instance
number n = atom (int_value (pos n))

abbrev pub some_number : ℕ → Option Value
some_number n = Some (int_value (pos n))

abbrev pub instances : List Instance → Instances
instances [] = no_instances
instances (v ∷ vs) = instance v (instances vs)

abbrev pub numbers : List ℕ → Instances
numbers ns = instances (map number ns)

abbrev pub b_of : ℕ → List ℕ → Instance
b_of n ys = inner (slot (single (number n)) (slot (numbers ys) no_slots))

abbrev pub a_of : List Instance → List ℕ → List ℕ → Instance
a_of bs cs ds = inner (slot (instances bs) (slot (numbers cs) (slot (numbers ds) no_slots)))

abbrev pub record_of : List Instance → List ℕ → Instances → Node
record_of ns es gs = slot (instances ns) (slot (numbers es) (slot gs no_slots))

abbrev pub g_of : List ℕ → Instances
g_of hs = single (inner (slot (numbers hs) (slot no_instances no_slots)))

abbrev pub a1 : Instance
a1 = a_of (b_of 1 (11 ∷ 12 ∷ []) ∷ b_of 7 (71 ∷ []) ∷ []) (21 ∷ 22 ∷ []) (31 ∷ [])

abbrev pub a2 : Instance
a2 = a_of [] (23 ∷ []) (32 ∷ [])

abbrev pub a3 : Instance
a3 = a_of (b_of 2 [] ∷ b_of 3 (33 ∷ []) ∷ []) (24 ∷ []) (33 ∷ [])

abbrev pub a4 : Instance
a4 = a_of (b_of 8 [] ∷ b_of 9 (91 ∷ 92 ∷ []) ∷ []) [] []

abbrev pub whole : Node
whole = record_of (a1 ∷ a2 ∷ a3 ∷ a4 ∷ []) (41 ∷ 42 ∷ []) (g_of (51 ∷ 52 ∷ []))

-- the values of a leaf in the kept rows of a path, by a condition on rows of a chain
abbrev pub values : List Step → List Step → List Step → Expression → List (Option Value)
values leaf p chain condition = map (value_at leaf) (kept_rows p chain (λ row. is_true (evaluate condition row)) whole)

abbrev pub above : ℕ → List Step → Expression
above n leaf = comparison less (constant (int_value (pos n))) (path_value leaf)

-- ---- where x > 5: of a1 one b is kept, of a4 both; a2, of which no b is there, and a3 are dropped

-- along the chain itself, and further
pub b_by_x : values x b b (above 5 x) ≡ some_number 7 ∷ some_number 8 ∷ some_number 9 ∷ []
b_by_x = refl

pub y_by_x : values y y b (above 5 x) ≡ some_number 71 ∷ None ∷ some_number 91 ∷ some_number 92 ∷ []
y_by_x = refl

-- a front of the chain: one row for each a that is kept
pub a_by_x : values d a b (above 5 x) ≡ some_number 31 ∷ None ∷ []
a_by_x = refl

-- apart from the chain below a: all rows of each a that is kept, one for an empty list
pub c_by_x : values c c b (above 5 x) ≡ some_number 21 ∷ some_number 22 ∷ None ∷ []
c_by_x = refl

-- apart from the chain in the record: all rows
pub e_by_x : values e e b (above 5 x) ≡ some_number 41 ∷ some_number 42 ∷ []
e_by_x = refl

pub record_by_x : kept_rows [] b (λ row. is_true (evaluate (above 5 x) row)) whole ≡ whole ∷ []
record_by_x = refl

-- rows of the record itself: beside the path all stands as in the record
pub rows_by_x : kept_rows a b (λ row. is_true (evaluate (above 5 x) row)) whole
    ≡ record_of (a1 ∷ []) (41 ∷ 42 ∷ []) (g_of (51 ∷ 52 ∷ [])) ∷ record_of (a4 ∷ []) (41 ∷ 42 ∷ []) (g_of (51 ∷ 52 ∷ [])) ∷ []
rows_by_x = refl

-- ---- where x IS NULL: only a2, which has no b, is kept; it stands for the row in which b is absent

pub b_by_absence : values x b b (is_null (path_value x)) ≡ None ∷ []
b_by_absence = refl

pub c_by_absence : values c c b (is_null (path_value x)) ≡ some_number 23 ∷ []
c_by_absence = refl

pub y_by_absence : values y y b (is_null (path_value x)) ≡ None ∷ []
y_by_absence = refl

-- ---- where nothing is true

pub b_by_none : values x b b (above 99 x) ≡ []
b_by_none = refl

pub a_by_none : values d a b (above 99 x) ≡ []
a_by_none = refl

pub e_by_none : values e e b (above 99 x) ≡ []
e_by_none = refl

pub record_by_none : values [] [] b (above 99 x) ≡ []
record_by_none = refl

-- ---- where the chain ends above the path: all rows of the a that are true

pub b_by_d : values x b a (above 31 d) ≡ None ∷ some_number 2 ∷ some_number 3 ∷ []
b_by_d = refl

pub y_by_d : values y y a (above 32 d) ≡ None ∷ some_number 33 ∷ []
y_by_d = refl

-- ---- where the condition is on the record: all rows or none

pub c_by_constant : values c c [] (comparison less (constant (int_value (pos 1))) (constant (int_value (pos 2)))) ≡ some_number 21 ∷ some_number 22 ∷ some_number 23 ∷ some_number 24 ∷ None ∷ []
c_by_constant = refl

pub c_by_false : values c c [] (comparison less (constant (int_value (pos 2))) (constant (int_value (pos 1)))) ≡ []
c_by_false = refl

-- ---- a list of numbers: an instance that has no fields

pub e_by_e : values e e e (above 41 e) ≡ some_number 42 ∷ []
e_by_e = refl

pub b_by_e : values x b e (above 41 e) ≡ some_number 1 ∷ some_number 7 ∷ None ∷ some_number 2 ∷ some_number 3 ∷ some_number 8 ∷ some_number 9 ∷ []
b_by_e = refl

pub e_by_large_e : values e e e (above 42 e) ≡ []
e_by_large_e = refl

-- ---- through a field that isn't repeated, which may be absent

pub h_by_h : values h h h (above 51 h) ≡ some_number 52 ∷ []
h_by_h = refl

abbrev pub without_g : Node
without_g = record_of (a1 ∷ []) [] no_instances

pub h_by_absence : map (value_at h) (kept_rows h h (λ row. is_true (evaluate (is_null (path_value h)) row)) without_g) ≡ None ∷ []
h_by_absence = refl

pub no_h_by_h : map (value_at h) (kept_rows h h (λ row. is_true (evaluate (above 51 h) row)) without_g) ≡ []
no_h_by_h = refl

-- ---- what is left of the record has these rows: beside the path it was cut

abbrev pub left_by_x : Option Node
left_by_x = kept_along b (λ row. is_true (evaluate (above 5 x) row)) whole

pub left_a : rows_left a left_by_x
    ≡ record_of (a_of (b_of 7 (71 ∷ []) ∷ []) (21 ∷ 22 ∷ []) (31 ∷ []) ∷ []) (41 ∷ 42 ∷ []) (g_of (51 ∷ 52 ∷ [])) ∷ record_of (a4 ∷ []) (41 ∷ 42 ∷ []) (g_of (51 ∷ 52 ∷ [])) ∷ []
left_a = refl

pub left_none : rows_left c (kept_along b (λ row. is_true (evaluate (above 99 x) row)) whole) ≡ []
left_none = refl

-- What fires over the moves of a record, by computation.
use Rattle.std.specs.Prelude.{◌≡◌, ℕ, List, [], ◌∷◌, Option, None, Some, pos, refl}
use Rattle.std.specs.Ordering.{int_cmp, is_gt}
use Rattle.std.specs.List.{filter_map}
use Rattle.std.specs.Prelude.{Bool, false}
use Rattle.dr_meaning.specs.Schema.{required, optional, repeated, int64_kind, Repetition, Fields, no_fields, field, leaf, group}
use Rattle.dr_meaning.specs.Path.{Step, chain_end}
use Rattle.dr_meaning.specs.Record.{Value, int_value}
use Rattle.dr_meaning.specs.Rows.{value_at}
use Rattle.dr_meaning.specs.Kept.{kept_along}
use Rattle.dr_meaning.specs.Walk.{Move, enter, value, leave, walk}
use Rattle.dr_kept_laws.specs.ChainNumbers.{chain_numbers}
use Rattle.dr_kept_laws.specs.GroupFlow.{fired_at, left_alone, left_with, Reading, all_fired, all_left}
use Rattle.dr_kept_laws.specs.GroupFlowLaws.{all_means}
use Rattle.dr_kept_laws.proofs.WorkedRowsOfKept.{c, d, e, h, x, y, some_number, whole, without_g}
use Rattle.dr_moves.specs.Context.{Context}
use Rattle.dr_moves.specs.Tour.{Tour, over, saw, inside}
use Rattle.dr_moves.specs.Condition.{Watch}
use Rattle.dr_moves.specs.Cutting.{flow}

abbrev pub number_leaf : Repetition → Fields → Fields
number_leaf r fs = field [] r (leaf int64_kind) fs

-- message { repeated group a { repeated group b { required int64 x; repeated int64 y }; repeated int64 c; optional int64 d };
-- repeated int64 e; optional group g { repeated int64 h; optional int64 i } }
abbrev pub fs : Fields
fs = field [] repeated (group (field [] repeated (group (number_leaf required (number_leaf repeated no_fields))) (number_leaf repeated (number_leaf optional no_fields))))
    (number_leaf repeated (field [] optional (group (number_leaf repeated (number_leaf optional no_fields))) no_fields))

-- x 0, y 1, c 2, d 3, e 4, h 5
abbrev pub F : List (List Step)
F = x ∷ y ∷ c ∷ d ∷ e ∷ h ∷ []

-- the tours behind moves, innermost first
abbrev before_tours : Move → List Tour → List Tour
before_tours m [] = []
before_tours (value i t) (T ∷ Ts) = saw i t T ∷ Ts
before_tours (leave k) (T ∷ Ts) = over ∷ T ∷ Ts
before_tours (enter k) (T ∷ []) = []
before_tours (enter k) (T ∷ U ∷ Ts) = inside k T U ∷ Ts

abbrev tours : List Move → List Tour
tours [] = over ∷ []
tours (m ∷ ms) = before_tours m (tours ms)

abbrev first_tour : List Tour → Tour
first_tour [] = over
first_tour (T ∷ Ts) = T

abbrev nothing_read : Context
nothing_read k = None

-- whether a number is greater than another
abbrev is_above : ℕ → Option Value → Bool
is_above n (Some (int_value z)) = is_gt (int_cmp z (pos n))
is_above n v = false

-- the condition that leaf k is above n
abbrev above : ℕ → ℕ → List Step → Watch
above n k q = record { chain = chain_numbers fs q; last = k; test = λ r. is_above n (r k) }

-- the values of leaf i that fire in the record
abbrev fired : ℕ → Watch → List (Option Value)
fired i w = flow (fired_at i (λ r. r i)) left_alone w (Some (0 ∷ w.chain)) nothing_read (first_tour (tours (walk fs F (whole ∷ []))))

pub x_by_x : fired 0 (above 5 0 x) ≡ some_number 7 ∷ some_number 8 ∷ some_number 9 ∷ []
unfolding walk
x_by_x = refl

pub y_by_x : fired 1 (above 5 0 x) ≡ some_number 71 ∷ None ∷ some_number 91 ∷ some_number 92 ∷ []
unfolding walk
y_by_x = refl

pub c_by_x : fired 2 (above 5 0 x) ≡ some_number 21 ∷ some_number 22 ∷ None ∷ []
unfolding walk
c_by_x = refl

pub d_by_x : fired 3 (above 5 0 x) ≡ some_number 31 ∷ None ∷ []
unfolding walk
d_by_x = refl

pub e_by_x : fired 4 (above 5 0 x) ≡ some_number 41 ∷ some_number 42 ∷ []
unfolding walk
e_by_x = refl

pub x_by_d : fired 0 (above 31 3 d) ≡ None ∷ some_number 2 ∷ some_number 3 ∷ []
unfolding walk
x_by_d = refl

pub h_by_h : fired 5 (above 51 5 h) ≡ some_number 52 ∷ []
unfolding walk
h_by_h = refl

-- nothing where no row is true
pub e_by_none : fired 4 (above 99 0 x) ≡ []
unfolding walk
e_by_none = refl

-- what other leaves were read last: with each c of a kept a, the d of that a
pub d_with_c : flow (fired_at 2 (λ r. r 3 ∷ r 2 ∷ [])) left_alone (above 5 0 x) (Some (0 ∷ chain_numbers fs x)) nothing_read (first_tour (tours (walk fs F (whole ∷ without_g ∷ []))))
    ≡ (some_number 31 ∷ some_number 21 ∷ []) ∷ (some_number 31 ∷ some_number 22 ∷ []) ∷ (None ∷ None ∷ []) ∷ (some_number 31 ∷ some_number 21 ∷ []) ∷ (some_number 31 ∷ some_number 22 ∷ []) ∷ []
unfolding walk
d_with_c = refl

-- without a condition all fires
pub c_of_all : flow (fired_at 2 (λ r. r 2)) left_alone (above 5 0 x) None nothing_read (first_tour (tours (walk fs F (whole ∷ [])))) ≡ some_number 21 ∷ some_number 22 ∷ some_number 23 ∷ some_number 24 ∷ None ∷ []
unfolding walk
c_of_all = refl

-- ---- several readings: the c of each row with the d of its a; each b's x; each record

abbrev d_and_c : Reading (List (Option Value))
d_and_c = record { leaf = Some 2; fires = λ r. r 3 ∷ r 2 ∷ []; level = c; means = λ row. value_at d row ∷ value_at c row ∷ [] }

abbrev each_x : Reading (List (Option Value))
each_x = record { leaf = Some 0; fires = λ r. r 0 ∷ []; level = chain_end x; means = λ row. value_at x row ∷ [] }

abbrev each_record : Reading (List (Option Value))
each_record = record { leaf = None; fires = λ r. []; level = []; means = λ row. [] }

abbrev readings : List (Reading (List (Option Value)))
readings = d_and_c ∷ each_record ∷ each_x ∷ []

-- in the order of the moves: in an a first b, then c; behind each record its own
pub made_together : flow (all_fired readings) (left_with (all_left readings)) (above 5 0 x) (Some (0 ∷ chain_numbers fs x)) nothing_read (first_tour (tours (walk fs F (whole ∷ without_g ∷ []))))
    ≡ (some_number 7 ∷ []) ∷ (some_number 31 ∷ some_number 21 ∷ []) ∷ (some_number 31 ∷ some_number 22 ∷ []) ∷ (some_number 8 ∷ []) ∷ (some_number 9 ∷ []) ∷ (None ∷ None ∷ []) ∷ []
    ∷ (some_number 7 ∷ []) ∷ (some_number 31 ∷ some_number 21 ∷ []) ∷ (some_number 31 ∷ some_number 22 ∷ []) ∷ [] ∷ []
unfolding walk
made_together = refl

-- one reading after the other, in the rows of what is kept
pub meant_together : all_means readings (filter_map (kept_along (chain_end x) (λ row. is_above 5 (value_at x row))) (whole ∷ without_g ∷ []))
    ≡ (some_number 31 ∷ some_number 21 ∷ []) ∷ (some_number 31 ∷ some_number 22 ∷ []) ∷ (None ∷ None ∷ []) ∷ (some_number 31 ∷ some_number 21 ∷ []) ∷ (some_number 31 ∷ some_number 22 ∷ []) ∷ [] ∷ []
    ∷ (some_number 7 ∷ []) ∷ (some_number 8 ∷ []) ∷ (some_number 9 ∷ []) ∷ (some_number 7 ∷ []) ∷ []
meant_together = refl

-- a record that isn't kept makes nothing
pub none_together : flow (all_fired readings) (left_with (all_left readings)) (above 99 0 x) (Some (0 ∷ chain_numbers fs x)) nothing_read (first_tour (tours (walk fs F (whole ∷ [])))) ≡ []
unfolding walk
none_together = refl

abbrev each_e : Reading (List (Option Value))
each_e = record { leaf = Some 4; fires = λ r. r 4 ∷ []; level = e; means = λ row. value_at e row ∷ [] }

abbrev each_e_twice : Reading (List (Option Value))
each_e_twice = record { leaf = Some 4; fires = λ r. r 4 ∷ r 4 ∷ []; level = e; means = λ row. value_at e row ∷ value_at e row ∷ [] }

-- two at one leaf, in their order; a field apart from the chain is as the record is
pub two_at_a_leaf : flow (all_fired (each_e ∷ each_e_twice ∷ [])) (left_with (all_left (each_e ∷ each_e_twice ∷ []))) (above 5 0 x) (Some (0 ∷ chain_numbers fs x)) nothing_read (first_tour (tours (walk fs F (whole ∷ []))))
    ≡ (some_number 41 ∷ []) ∷ (some_number 41 ∷ some_number 41 ∷ []) ∷ (some_number 42 ∷ []) ∷ (some_number 42 ∷ some_number 42 ∷ []) ∷ []
unfolding walk
two_at_a_leaf = refl

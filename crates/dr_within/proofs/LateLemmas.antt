-- Rows that aren't put yet: one more, the first so many, and one after another.
use Rattle.std.proofs.Common.{◌≡◌, ◌≤◌, ◌<◌, ◌+◌, ◌*◌, min, ℕ, zero, suc, List, [], ◌∷◌, ◌++◌, length, take, drop, get_or, refl, sym, ap, ap₂, subst, ◌∙◌, arith, ⊎_elim}
use Rattle.std.specs.Prelude.{Option, None}
use Rattle.std.proofs.lemmas.Bool.{cases_lt}
use Rattle.std.proofs.lemmas.List.{take_all, take-take, drop-take, take-append-le, drop-append-le, length-drop, nil_from_length, take_min, drop_min, drop-map, drop-drop, drop_more}
use Rattle.std.proofs.Math.Nat.{mul-le-mul_right}
use Rattle.dr_meaning.specs.Record.{Value}
use Rattle.dr_cells.specs.Results.{ResultCell}
use Rattle.dr_partials.specs.Putting.{Put, Taken}
use Rattle.dr_within.specs.Takings.{Take, take_nothing, take_rows, take_values, aggregate_for, taken_with}
use Rattle.dr_within.specs.Late.{cell_value, cell_values, first_of, taken_for, all_taken, late_puts, puts_view}

-- what is put of one row
abbrev pub one_put : List (Option Value) → Option Taken → Put
one_put k t = record { keys = k; taken = t }

pub puts_count : (n : ℕ) (K : List (Option Value)) (T : List (Option Taken)) → length (late_puts n K T) ≡ length T
puts_count n K [] = refl
puts_count n K (t ∷ T) = ap suc (puts_count n (drop n K) T)

-- one row more
pub puts_push : (n : ℕ) (K k : List (Option Value)) (T : List (Option Taken)) (t : Option Taken) → length K ≡ length T * n → length k ≡ n
    → late_puts n (K ++ k) (T ++ t ∷ []) ≡ late_puts n K T ++ one_put k t ∷ []
puts_push n K k [] t h e =
    let none : length K ≡ 0 = omega arith in
    ap (λ (J : List (Option Value)). late_puts n (J ++ k) (t ∷ [])) (nil_from_length K none)
    ∙ ap (λ (J : List (Option Value)). one_put J t ∷ []) (take_all n k (omega arith))
puts_push n K k (u ∷ T) t h e =
    let more : suc (length T) * n ≡ n + length T * n = omega arith in
    let there : n ≤ length K = omega (arith, h, more) in
    let left : length (drop n K) ≡ length T * n = omega (arith, length-drop n K, h, more) in
    ap₂ (λ (J : List (Option Value)) (P : List Put). one_put J u ∷ P) (take-append-le n K k there)
    (ap (λ (J : List (Option Value)). late_puts n J (T ++ t ∷ [])) (drop-append-le n K k there) ∙ puts_push n (drop n K) k T t left e)

pub whole_push : (a c b d n : ℕ) → a ≡ b * n → c ≡ a + n → d ≡ b + 1 → c ≡ d * n
whole_push a c b d n h e f =
    let more : (b + 1) * n ≡ b * n + n = omega arith in
    subst (λ (x : ℕ). c ≡ x * n) (sym f) (omega (arith, more))

-- the first so many rows
pub puts_cut : (n m : ℕ) (K : List (Option Value)) (T : List (Option Taken)) → late_puts n (take (m * n) K) (take m T) ≡ take m (late_puts n K T)
puts_cut n zero K T = refl
puts_cut n (suc m) K [] = refl
puts_cut n (suc m) K (t ∷ T) =
    let more : suc m * n ≡ n + m * n = omega arith in
    ap (λ (x : ℕ). late_puts n (take x K) (t ∷ take m T)) more
    ∙ ap₂ (λ (J : List (Option Value)) (P : List Put). one_put J t ∷ P) (take-take n (n + m * n) K (omega arith))
    (ap (λ (J : List (Option Value)). late_puts n J (take m T)) (drop-take n (m * n) K) ∙ puts_cut n m (drop n K) T)

pub whole_cut : (a b n m : ℕ) → a ≡ b * n → min (m * n) a ≡ min m b * n
whole_cut a b n m h =
    ⊎_elim
    (λ (l : m < b). let p : m * n ≤ b * n = mul-le-mul_right n (omega arith) in
    let e : min m b ≡ m = omega arith in
    ap (λ (x : ℕ). min (m * n) x) h ∙ (omega (arith, p) ∙ ap (λ (x : ℕ). x * n) (sym e)))
    (λ (l : b ≤ m). let p : b * n ≤ m * n = mul-le-mul_right n l in
    let e : min m b ≡ b = omega arith in
    ap (λ (x : ℕ). min (m * n) x) h ∙ (omega (arith, p) ∙ ap (λ (x : ℕ). x * n) (sym e)))
    (cases_lt m b)

-- a bound that no list passes changes nothing
pub take_within : {A : Type 0} (k b : ℕ) (K : List A) → length K ≤ b → take (min k b) K ≡ take k K
take_within k b K h =
    let e : min (min k b) (length K) ≡ min k (length K) = omega arith in
    sym (take_min (min k b) K) ∙ (ap (λ (i : ℕ). take i K) e ∙ take_min k K)

pub drop_within : {A : Type 0} (k b : ℕ) (K : List A) → length K ≤ b → drop (min k b) K ≡ drop k K
drop_within k b K h =
    let e : min (min k b) (length K) ≡ min k (length K) = omega arith in
    sym (drop_min (min k b) K) ∙ (ap (λ (i : ℕ). drop i K) e ∙ drop_min k K)

-- ---- values and their aggregates

abbrev none_first : Option Value
none_first = None

-- the value of a number, and those behind it
pub first_then : (vs : List (Option Value)) (n : ℕ) → n < length vs → drop n vs ≡ first_of (drop n vs) ∷ drop (n + 1) vs
first_then vs n h =
    let e = drop_more vs n none_first h in
    e ∙ ap (λ (v : Option Value). v ∷ drop (n + 1) vs) (sym (ap first_of e))

pub taken_count : (os : List (Option ℕ)) (vs : List (Option Value)) → length (all_taken os vs) ≡ length os
taken_count [] vs = refl
taken_count (o ∷ os) vs = ap suc (taken_count os (drop 1 vs))

pub taken_push : (os : List (Option ℕ)) (o : Option ℕ) (vs : List (Option Value)) (v : Option Value) → length vs ≡ length os
    → all_taken (os ++ o ∷ []) (vs ++ v ∷ []) ≡ all_taken os vs ++ taken_for o v ∷ []
taken_push [] o [] v h = refl
taken_push [] o (w ∷ vs) v h = absurd (never (omega (arith, h)))
  where
    never : 1 ≤ 0 → ⊥
    never q = omega (arith, q)
taken_push (p ∷ os) o [] v h = absurd (never (omega (arith, h)))
  where
    never : 1 ≤ 0 → ⊥
    never q = omega (arith, q)
taken_push (p ∷ os) o (w ∷ vs) v h = ap (λ (ts : List (Option Taken)). taken_for p w ∷ ts) (taken_push os o vs v (omega (arith, h)))

none_cut : (m : ℕ) (os : List (Option ℕ)) → all_taken (take m os) [] ≡ take m (all_taken os [])
none_cut zero os = refl
none_cut (suc m) [] = refl
none_cut (suc m) (o ∷ os) = ap (λ (ts : List (Option Taken)). taken_for o None ∷ ts) (none_cut m os)

pub taken_cut : (m : ℕ) (os : List (Option ℕ)) (vs : List (Option Value)) → all_taken (take m os) (take m vs) ≡ take m (all_taken os vs)
taken_cut zero os vs = refl
taken_cut (suc m) [] vs = refl
taken_cut (suc m) (o ∷ os) [] = ap (λ (ts : List (Option Taken)). taken_for o None ∷ ts) (none_cut m os)
taken_cut (suc m) (o ∷ os) (v ∷ vs) = ap (λ (ts : List (Option Taken)). taken_for o v ∷ ts) (taken_cut m os vs)

-- what is taken is taken for the aggregate that there is
pub taken_same : (t : Take) (v : Option Value) → taken_for (aggregate_for t) v ≡ taken_with t v
taken_same take_nothing v = refl
taken_same (take_rows i) v = refl
taken_same (take_values i e) v = refl

-- of the rows from this one on the first, and those behind it
pub puts_next : (n i : ℕ) (K : List ResultCell) (os : List (Option ℕ)) (V : List ResultCell) (o d : Option ℕ) → i < length os → o ≡ get_or os i d
    → puts_view n (drop (i * n) K) (drop i os) (drop i V)
    ≡ one_put (take n (drop (i * n) (cell_values K))) (taken_for o (first_of (drop i (cell_values V)))) ∷ puts_view n (drop ((i + 1) * n) K) (drop (i + 1) os) (drop (i + 1) V)
puts_next n i K os V o d h e =
    let more : i * n + n ≡ (i + 1) * n = omega arith in
    ap (λ (ps : List (Option ℕ)). late_puts n (cell_values (drop (i * n) K)) (all_taken ps (cell_values (drop i V)))) (drop_more os i d h ∙ ap (λ (u : Option ℕ). u ∷ drop (i + 1) os) (sym e))
    ∙ (ap₂ (λ (J : List (Option Value)) (W : List (Option Value)). one_put (take n J) (taken_for o (first_of W)) ∷ late_puts n (drop n (cell_values (drop (i * n) K))) (all_taken (drop (i + 1) os) (drop 1 (cell_values (drop i V)))))
    (sym (drop-map cell_value (i * n) K)) (sym (drop-map cell_value i V))
    ∙ ap₂ (λ (L : List (Option Value)) (W : List (Option Value)). one_put (take n (drop (i * n) (cell_values K))) (taken_for o (first_of (drop i (cell_values V)))) ∷ late_puts n L (all_taken (drop (i + 1) os) W))
    (drop-map cell_value n (drop (i * n) K) ∙ ap cell_values (drop-drop n (i * n) K ∙ ap (λ (x : ℕ). drop x K) more))
    (drop-map cell_value 1 (drop i V) ∙ ap cell_values (drop-drop 1 i V)))

-- Rows that are held flat.
use Rattle.std.specs.Prelude.{◌≡◌, ◌<◌, ◌≤◌, ℕ, zero, suc, ◌+◌, ◌*◌, List, [], ◌∷◌, ◌++◌, length, take, drop, get_or, Option, option_map}
use Rattle.std.proofs.Common.{refl, sym, ap, ap₂, ◌∙◌, arith}
use Rattle.std.proofs.lemmas.List.{drop-drop, drop-append-le, take-append-le, take_all, length-drop}
use Rattle.std.proofs.Math.Nat.{suc-mul}
use Rattle.dr_levels.specs.declared.triplet.ValueRef.{ValueRef}
use Rattle.dr_rows.specs.declared.instance_ref.InstanceRef.{InstanceRef}
use Rattle.dr_rows.specs.Known.{Known}
use Rattle.dr_rows.specs.Views.{lent_instance, lent_cells, rows_from}

pub rows_from-length : (w : ℕ) (vs : List (Option ValueRef)) (es : List (Option InstanceRef)) → length (rows_from w vs es) ≡ length es
rows_from-length w vs [] = refl
rows_from-length w vs (e ∷ es) = ap (λ (n : ℕ). suc n) (rows_from-length w (drop w vs) es)

suc-times : (i w : ℕ) → suc i * w ≡ w + i * w
suc-times i w = let e : suc i * w ≡ i * w + w = suc-mul i w in omega arith

-- a row lies within the values
pub row_within : (i n w m : ℕ) → i < n → m ≡ n * w → i * w + w ≤ m
row_within i zero w m h e = absurd (omega arith)
row_within zero (suc n) w m h e = let k : suc n * w ≡ w + n * w = suc-times n w in omega arith
row_within (suc i) (suc n) w m h e =
    let k : suc n * w ≡ w + n * w = suc-times n w in
    let j : suc i * w ≡ w + i * w = suc-times i w in
    let r : i * w + w ≤ n * w = row_within i n w (n * w) (omega arith) refl in
    omega arith

abbrev pub known_row : ℕ → List (Option ValueRef) → Option InstanceRef → Known
known_row w vs e = record { values = lent_cells (take w vs); end = option_map lent_instance e }

pub row_there : (w : ℕ) (vs : List (Option ValueRef)) (es : List (Option InstanceRef)) (i : ℕ) (e : Option InstanceRef) → i < length es → e ≡ get_or es i e
    → drop i (rows_from w vs es) ≡ known_row w (drop (i * w) vs) e ∷ drop (i + 1) (rows_from w vs es)
row_there w vs [] i e h g = absurd (omega arith)
row_there w vs (d ∷ es) zero e h g =
    let z : 0 * w ≡ 0 = omega arith in
    ap (λ (x : Option InstanceRef). known_row w vs x ∷ rows_from w (drop w vs) es) (sym g) ∙ ap (λ (n : ℕ). known_row w (drop n vs) e ∷ rows_from w (drop w vs) es) (sym z)
row_there w vs (d ∷ es) (suc i) e h g =
    let j : w + i * w ≡ suc i * w = sym (suc-times i w) in
    let m : suc (i + 1) ≡ suc i + 1 = omega arith in
    row_there w (drop w vs) es i e (omega arith) g
    ∙ ap (λ (us : List (Option ValueRef)). known_row w us e ∷ drop (i + 1) (rows_from w (drop w vs) es)) (drop-drop (i * w) w vs ∙ ap (λ (n : ℕ). drop n vs) j)
    ∙ ap (λ (n : ℕ). known_row w (drop (suc i * w) vs) e ∷ drop n (rows_from w vs (d ∷ es))) m

pub row_joins : (w : ℕ) (vs us : List (Option ValueRef)) (es : List (Option InstanceRef)) (e : Option InstanceRef) → length vs ≡ length es * w → length us ≡ w
    → rows_from w (vs ++ us) (es ++ e ∷ []) ≡ rows_from w vs es ++ record { values = lent_cells us; end = option_map lent_instance e } ∷ []
row_joins w [] us [] e h k = ap (λ (x : List (Option ValueRef)). record { values = lent_cells x; end = option_map lent_instance e } ∷ []) (take_all w us (omega arith))
row_joins w (v ∷ vs) us [] e h k = let z : 0 * w ≡ 0 = omega arith in absurd (omega arith)
row_joins w vs us (d ∷ es) e h k =
    let n : suc (length es) * w ≡ w + length es * w = suc-times (length es) w in
    let t : take w (vs ++ us) ≡ take w vs = take-append-le w vs us (omega arith) in
    let r : drop w (vs ++ us) ≡ drop w vs ++ us = drop-append-le w vs us (omega arith) in
    ap (λ (y : List (Option ValueRef)). known_row w (vs ++ us) d ∷ rows_from w y (es ++ e ∷ [])) r
    ∙ ap₂ (λ (x : List (Option ValueRef)) (ks : List Known). record { values = lent_cells x; end = option_map lent_instance d } ∷ ks) t
    (row_joins w (drop w vs) us es e (omega (arith, length-drop w vs)) k)

-- Laws of tablets.
use Rattle.std.proofs.Common.{◌≡◌, ℕ, zero, suc, ◌+◌, ◌*◌, ◌/◌, ◌%◌, ◌<◌, List, [], ◌∷◌, ◌++◌, length, replicate, refl, sym, ap, ap₂, ◌∙◌, arith, append_assoc}
use Rattle.std.specs.Prelude.{◌-◌, codes}
use Rattle.std.specs.Fmt.{decimal}
use Rattle.std.proofs.lemmas.Fmt.{decimal_is_IsNumeral, length-decimal-le}
use Rattle.std.proofs.lemmas.List.{length-append}
use Rattle.std.proofs.lemmas.Nat.{mod-mul-add}
use Rattle.std.proofs.Math.Nat.{mod-lt, mod-add-div}
use Rattle.dr_meaning.specs.Record.{Node}
use Rattle.dr_formats.specs.Tablets.{tablets_from, six_digits}
use Rattle.dr_formats.specs.TableFile.{digits_value}
use Rattle.dr_formats.proofs.TableLemmas.{same_value}
use Rattle.dr_formats.specs.TabletLaws.{all_records, AreFull, TabletsHoldRecords, TabletsAreFull, PlacementIsLeaf, PlacementsDiffer, NoneEmpty, TabletsAreNotEmpty, PathsDiffer}

held_records : (n room : ℕ) (held R : List Node) → all_records (tablets_from n room held R) ≡ held ++ R
held_records n room held [] = refl
held_records n zero held (r ∷ R) = ap (λ x. held ++ x) (held_records n (n - 1) (r ∷ []) R)
held_records n (suc room) held (r ∷ R) = held_records n room (held ++ r ∷ []) R ∙ append_assoc held (r ∷ []) R

pub tablets_hold_records : TabletsHoldRecords
tablets_hold_records n R = held_records n n [] R

full_first : (n : ℕ) (t : List Node) (ts : List (List Node)) → length t ≡ n → AreFull n ts → AreFull n (t ∷ ts)
full_first n t [] e h = absurd h
full_first n t (u ∷ ts) e h = (e, h)

held_full : (n room : ℕ) (held R : List Node) → 0 < n → length held + room ≡ n → AreFull n (tablets_from n room held R)
held_full n room held [] p e = omega (arith, e)
held_full n zero held (r ∷ R) p e = full_first n held (tablets_from n (n - 1) (r ∷ []) R) (omega (arith, e)) (held_full n (n - 1) (r ∷ []) R p (omega (arith, p)))
held_full n (suc room) held (r ∷ R) p e = held_full n room (held ++ r ∷ []) R p (omega (arith, e, length-append held (r ∷ [])))

pub tablets_are_full : TabletsAreFull
tablets_are_full n R p = held_full n n [] R p (omega arith)

pub placement_is_leaf : PlacementIsLeaf
placement_is_leaf leaves tablet j h = mod-lt (tablet + j) h

-- two numbers with one rest differ by a multiple
between : (l q r d : ℕ) → l * q + d ≡ l * r → 0 < d → d < l → ⊥
between l q r d e h k =
    let f : q * l + d ≡ r * l + 0 = omega (arith, e) in
    let a : (q * l + d) % l ≡ d = mod-mul-add q l d k in
    let b : (r * l + 0) % l ≡ 0 = mod-mul-add r l 0 (omega (arith, k)) in
    let c : d ≡ 0 = sym a ∙ (ap (λ x. x % l) f ∙ b) in
    omega (arith, c, h)

pub placements_differ : PlacementsDiffer
placements_differ l t i j h k e =
    let a : (t + i) % l + l * ((t + i) / l) ≡ t + i = mod-add-div (t + i) l in
    let b : (t + j) % l + l * ((t + j) / l) ≡ t + j = mod-add-div (t + j) l in
    between l ((t + i) / l) ((t + j) / l) (j - i) (omega (arith, a, b, e, h)) (omega (arith, h)) (omega (arith, h, k))

-- ---- no empty tablet

held_not_empty : (n room : ℕ) (held R : List Node) → 0 < length held → NoneEmpty (tablets_from n room held R)
held_not_empty n room held [] h = (h, tt)
held_not_empty n zero held (r ∷ R) h = (h, held_not_empty n (n - 1) (r ∷ []) R (omega arith))
held_not_empty n (suc room) held (r ∷ R) h = held_not_empty n room (held ++ r ∷ []) R (omega (arith, length-append held (r ∷ [])))

pub tablets_are_not_empty : TabletsAreNotEmpty
tablets_are_not_empty zero r R h = absurd (omega (arith, h))
tablets_are_not_empty (suc n) r R h = held_not_empty (suc n) n ([] ++ r ∷ []) R (omega arith)

-- ---- paths

-- the number of digits in decimal, behind those of a number
pub digits_append : (n : ℕ) (xs ys : List ℕ) → digits_value n (xs ++ ys) ≡ digits_value (digits_value n xs) ys
digits_append n [] ys = refl
digits_append n (x ∷ xs) ys = digits_append (10 * n + (x - 48)) xs ys

zeros_value : (k : ℕ) → digits_value 0 (replicate k 48) ≡ 0
zeros_value zero = refl
zeros_value (suc k) = zeros_value k

decimal_value : (n : ℕ) → n < 1000000 → digits_value 0 (decimal n) ≡ n
decimal_value n h = let p = decimal_is_IsNumeral n (omega (arith, h)) in same_value 0 (decimal n) p.0.1 ∙ p.1

six_digits_value : (n : ℕ) → n < 1000000 → digits_value 0 (six_digits n) ≡ n
six_digits_value n h = digits_append 0 (replicate (6 - length (decimal n)) 48) (decimal n) ∙ ap (λ m. digits_value m (decimal n)) (zeros_value (6 - length (decimal n))) ∙ decimal_value n h

count_zeros : (k : ℕ) → length {A = ℕ} (replicate k 48) ≡ k
count_zeros zero = refl
count_zeros (suc k) = ap suc (count_zeros k)

six_digits_length : (n : ℕ) → n < 1000000 → length (six_digits n) ≡ 6
six_digits_length n h = omega (arith, length-append (replicate (6 - length (decimal n)) 48) (decimal n), count_zeros (6 - length (decimal n)), length-decimal-le 6 n (omega arith) h (omega (arith, h)))

-- two texts with ends of one length are one text only where both fronts and both ends are
same_ends : (d e x y : List ℕ) → length x ≡ length y → d ++ x ≡ e ++ y → (d ≡ e) × (x ≡ y)
same_ends [] [] x y l h = (refl, h)
same_ends [] (c ∷ e) x y l h = absurd (omega (arith, l, ap length h, length-append e y))
same_ends (c ∷ d) [] x y l h = absurd (omega (arith, l, ap length h, length-append d x))
same_ends (c ∷ d) (b ∷ e) x y l h =
    let q : c ≡ b = cc in
    let k : d ++ x ≡ e ++ y = cc in
    let r : (d ≡ e) × (x ≡ y) = same_ends d e x y l k in
    (ap₂ (λ z zs. z ∷ zs) q r.0, r.1)

behind_two : (a b : ℕ) (x y : List ℕ) → a ∷ b ∷ x ≡ a ∷ b ∷ y → x ≡ y
behind_two a b x y h = cc

pub paths_differ : PathsDiffer
paths_differ d e i j hi hj h =
    let x : List ℕ = six_digits i ++ codes ".parquet" in
    let y : List ℕ = six_digits j ++ codes ".parquet" in
    let l : length x ≡ length y = length-append (six_digits i) (codes ".parquet") ∙ ap (λ n. n + 8) (six_digits_length i hi ∙ sym (six_digits_length j hj)) ∙ sym (length-append (six_digits j) (codes ".parquet")) in
    let r : (d ≡ e) × (codes "/t" ++ x ≡ codes "/t" ++ y) = same_ends d e (codes "/t" ++ x) (codes "/t" ++ y) (ap (λ n. suc (suc n)) l) h in
    let s : (six_digits i ≡ six_digits j) × (codes ".parquet" ≡ codes ".parquet") = same_ends (six_digits i) (six_digits j) (codes ".parquet") (codes ".parquet") refl (behind_two 47 116 x y r.1) in
    (sym (six_digits_value i hi) ∙ ap (digits_value 0) s.0 ∙ six_digits_value j hj, r.0)

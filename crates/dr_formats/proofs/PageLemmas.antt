-- The body that is written for triplets is read as these triplets.
use Rattle.std.proofs.Common.{◌≡◌, ℕ, zero, suc, ◌/◌, ◌^◌, ◌≤◌, ◌<◌, List, [], ◌∷◌, ◌++◌, length, Bool, true, false, refl, sym, ap, ap₂, ◌∙◌, subst, arith, pos, Option, Some, None, append_assoc, true≢false}
use Rattle.std.specs.Prelude.{replicate, nat_le, ◌&&◌, ◌==◌, if◌then◌else◌}
use Rattle.std.specs.List.{list_all}
use Rattle.std.proofs.Math.Nat.{pow-suc}
use Rattle.std.proofs.lemmas.Bool.{lt-ltb, leb-true, eqb-true, eq-eqb, and_parts, and_from}
use Rattle.std.proofs.lemmas.List.{append-nil, length-map}
use Rattle.dr_meaning.specs.Schema.{Kind}
use Rattle.dr_meaning.specs.Record.{Value}
use Rattle.dr_meaning.specs.Column.{Triplet}
use Rattle.dr_formats.specs.Reading.{Reader, give, got, ◌>>=◌, bytes_of, IsReadAs}
use Rattle.dr_formats.specs.LittleEndian.{little_endian, little_endian_bytes}
use Rattle.dr_formats.specs.Hybrid.{hybrid, hybrid_bytes}
use Rattle.dr_formats.specs.Plain.{plain_read, plain_values, plain_bytes, is_writable}
use Rattle.dr_formats.specs.Page.{PageForm, data_page_v1, data_page_v2, PageFault, bad_page, level_parts_of, sized_part, level_part, level_parts_by, digits_within, level_width, levels, count_equal, first_if, behind_if, join_triplets, page_body, triplets_read, page_triplets, level_data, behind_length, level_bytes, column_repetitions, column_definitions, with_value, column_values, body_bytes, has_value, is_value_of, same_truth, is_triplet}
use Rattle.dr_formats.specs.PlainLaws.{written_shape, WrittenBodyIsRead}
use Rattle.dr_formats.proofs.ReadingLemmas.{spells_then, spells_map, spells_bytes}
use Rattle.dr_formats.proofs.LittleEndianLemmas.{length_little_endian, little_endian_back, are_below}
use Rattle.dr_formats.proofs.HybridLemmas.{written_runs_are_read, hybrid_length}
use Rattle.dr_formats.proofs.PlainLemmas.{written_values_are_read}

-- ---- the width of levels

digit_step : (k n : ℕ) (b : Bool) → (n == 0) ≡ b → (n / 2 < 2 ^ k → n / 2 < 2 ^ digits_within k (n / 2)) → n < 2 ^ suc k → n < 2 ^ (if b then 0 else suc (digits_within k (n / 2)))
digit_step k n true e f h = omega (arith, eqb-true n 0 e)
digit_step k n false e f h =
    let g : n / 2 < 2 ^ digits_within k (n / 2) = f (omega (arith, h, pow-suc 2 k)) in
    omega (arith, g, pow-suc 2 (digits_within k (n / 2)))

digits_hold : (k n : ℕ) → n < 2 ^ k → n < 2 ^ digits_within k n
digits_hold zero n h = h
digits_hold (suc k) n h = digit_step k n (n == 0) refl (digits_hold k (n / 2)) h

few_step : (k j n : ℕ) (b : Bool) → (n == 0) ≡ b → ((i : ℕ) → n / 2 < 2 ^ i → digits_within k (n / 2) ≤ i) → n < 2 ^ j → (if b then 0 else suc (digits_within k (n / 2))) ≤ j
few_step k j n true e f h = omega arith
few_step k zero n false e f h = absurd (true≢false (sym (eq-eqb n 0 (omega (arith, h))) ∙ e))
few_step k (suc j) n false e f h = let g : digits_within k (n / 2) ≤ j = f j (omega (arith, h, pow-suc 2 j)) in omega (arith, g)

few_digits : (k j n : ℕ) → n < 2 ^ j → digits_within k n ≤ j
few_digits zero j n h = omega arith
few_digits (suc k) j n h = few_step k j n (n == 0) refl (λ i. few_digits k i (n / 2)) h

below_power : (n : ℕ) → n < 2 ^ n
below_power zero = omega arith
below_power (suc n) = omega (arith, below_power n, pow-suc 2 n)

width_holds : (g : ℕ) → g < 2 ^ level_width g
width_holds g = digits_hold g g (below_power g)

pub width_small : (g : ℕ) → g ≤ 32 → level_width g ≤ 6
width_small g h = few_digits g 6 g (omega (arith, h))

-- ---- levels

abbrev AreAtMost : ℕ → List ℕ → Type 0
AreAtMost g ls = list_all (λ l. nat_le l g) ls ≡ true

levels_below : (g w : ℕ) (ls : List ℕ) → g < 2 ^ w → AreAtMost g ls → are_below w ls ≡ true
levels_below g w [] h k = refl
levels_below g w (l ∷ ls) h k =
    let p : (nat_le l g ≡ true) × (AreAtMost g ls) = and_parts _ _ k in
    and_from _ _ (lt-ltb l (2 ^ w) (omega (arith, leb-true l g p.0, h))) (levels_below g w ls h p.1)

all_zero : (ls : List ℕ) → AreAtMost 0 ls → replicate (length ls) 0 ≡ ls
all_zero [] h = refl
all_zero (l ∷ ls) h =
    let p : (nat_le l 0 ≡ true) × (AreAtMost 0 ls) = and_parts _ _ h in
    ap₂ (λ x xs. x ∷ xs) (omega (arith, leb-true l 0 p.0)) (all_zero ls p.1)

pub levels_back : (g : ℕ) (ls : List ℕ) → length ls < 2 ^ 31 → AreAtMost g ls → levels g (length ls) (level_data g ls) ≡ Some ls
levels_back zero ls l h = ap Some (all_zero ls h)
levels_back (suc g) ls l h =
    let w : ℕ = level_width (suc g) in
    let part : List ℕ = hybrid_bytes w ls in
    let r1 : hybrid w (length ls) (part ++ []) ≡ Some ls = written_runs_are_read w ls [] (levels_below (suc g) w ls (width_holds (suc g)) h) (omega (arith, l)) in
    let r : hybrid w (length ls) part ≡ Some ls = subst (λ (x : List ℕ). hybrid w (length ls) x ≡ Some ls) (append-nil part) r1 in
    rw (r, h) refl

-- ---- level parts

spells_sized : (part : List ℕ) → length part < 2 ^ 32 → IsReadAs sized_part (behind_length part) part
spells_sized part h =
    let size : List ℕ = little_endian_bytes 4 (length part) in
    let e : little_endian size ≡ length part = little_endian_back 4 (length part) h in
    let q : IsReadAs (bytes_of bad_page (little_endian size)) part part = rw e (spells_bytes bad_page (length part) part refl) in
    spells_then (bytes_of bad_page 4) (λ c. bytes_of bad_page (little_endian c)) size part size part (spells_bytes bad_page 4 size (length_little_endian 4 (length part))) q

spells_part : (g : ℕ) (ls : List ℕ) → g ≤ 32 → length ls < 2 ^ 31 → IsReadAs (level_part g (pos 3)) (level_bytes data_page_v1 g ls) (level_data g ls)
spells_part zero ls b l = λ rest. refl
spells_part (suc g) ls b l = spells_sized (level_data (suc g) ls) (hybrid_length (level_width (suc g)) ls (width_small (suc g) b) l)

spells_parts : (first second : Reader PageFault (List ℕ)) (u v rs ds : List ℕ) → IsReadAs first u rs → IsReadAs second v ds → IsReadAs (first >>= (λ x. second >>= (λ y. give (level_parts_of x y)))) (u ++ v) (level_parts_of rs ds)
spells_parts first second u v rs ds h k =
    spells_then first (λ x. second >>= (λ y. give (level_parts_of x y))) u v rs (level_parts_of rs ds) h (spells_map second (level_parts_of rs) v ds k)

spells_level_parts : (form : PageForm) (k : Kind) (max_r max_d : ℕ) (ts : List Triplet) → max_r ≤ 32 → max_d ≤ 32 → length ts < 2 ^ 31
    → IsReadAs (level_parts_by form (written_shape form k max_r max_d ts)) (level_bytes form max_r (column_repetitions ts) ++ level_bytes form max_d (column_definitions ts)) (level_parts_of (level_data max_r (column_repetitions ts)) (level_data max_d (column_definitions ts)))
spells_level_parts data_page_v1 k max_r max_d ts a b l =
    let rs : List ℕ = column_repetitions ts in
    let ds : List ℕ = column_definitions ts in
    let lr : length rs ≡ length ts = length-map ts (λ (t : Triplet). t.repetition) in
    let ld : length ds ≡ length ts = length-map ts (λ (t : Triplet). t.definition) in
    spells_parts (level_part max_r (pos 3)) (level_part max_d (pos 3)) (level_bytes data_page_v1 max_r rs) (level_bytes data_page_v1 max_d ds) (level_data max_r rs) (level_data max_d ds) (spells_part max_r rs a (omega (arith, l, lr))) (spells_part max_d ds b (omega (arith, l, ld)))
spells_level_parts data_page_v2 k max_r max_d ts a b l =
    let rs : List ℕ = level_data max_r (column_repetitions ts) in
    let ds : List ℕ = level_data max_d (column_definitions ts) in
    spells_parts (bytes_of bad_page (length rs)) (bytes_of bad_page (length ds)) rs ds rs ds (spells_bytes bad_page (length rs) rs refl) (spells_bytes bad_page (length ds) ds refl)

-- ---- values

plain_values_back : (k : Kind) (vs : List Value) (rest : List ℕ) → list_all (is_writable k) vs ≡ true → plain_values k (length vs) (plain_bytes k vs ++ rest) ≡ Some vs
plain_values_back k vs rest h = ap plain_read (written_values_are_read k vs h rest)

-- ---- triplets

abbrev Parts : Kind → ℕ → ℕ → Triplet → Type 0
Parts k max_r max_d t = (nat_le t.repetition max_r ≡ true) × (nat_le t.definition max_d ≡ true) × (same_truth (t.definition == max_d) (has_value t.value) ≡ true) × (is_value_of k t.value ≡ true)

parts : (k : Kind) (max_r max_d : ℕ) (t : Triplet) → is_triplet k max_r max_d t ≡ true → Parts k max_r max_d t
parts k max_r max_d t h =
    let a : ((nat_le t.repetition max_r && nat_le t.definition max_d && same_truth (t.definition == max_d) (has_value t.value)) ≡ true) × (is_value_of k t.value ≡ true) = and_parts _ _ h in
    let b : ((nat_le t.repetition max_r && nat_le t.definition max_d) ≡ true) × (same_truth (t.definition == max_d) (has_value t.value) ≡ true) = and_parts _ _ a.0 in
    let c : (nat_le t.repetition max_r ≡ true) × (nat_le t.definition max_d ≡ true) = and_parts _ _ b.0 in
    (c.0, c.1, b.1, a.1)

same_truth-true : (a b : Bool) → same_truth a b ≡ true → a ≡ b
same_truth-true true b h = sym h
same_truth-true false true h = absurd (true≢false (sym h))
same_truth-true false false h = refl

abbrev AreTriplets : Kind → ℕ → ℕ → List Triplet → Type 0
AreTriplets k max_r max_d ts = list_all (is_triplet k max_r max_d) ts ≡ true

repetitions_at_most : (k : Kind) (max_r max_d : ℕ) (ts : List Triplet) → AreTriplets k max_r max_d ts → AreAtMost max_r (column_repetitions ts)
repetitions_at_most k max_r max_d [] h = refl
repetitions_at_most k max_r max_d (t ∷ ts) h =
    let p : (is_triplet k max_r max_d t ≡ true) × (AreTriplets k max_r max_d ts) = and_parts _ _ h in
    and_from _ _ (parts k max_r max_d t p.0).0 (repetitions_at_most k max_r max_d ts p.1)

definitions_at_most : (k : Kind) (max_r max_d : ℕ) (ts : List Triplet) → AreTriplets k max_r max_d ts → AreAtMost max_d (column_definitions ts)
definitions_at_most k max_r max_d [] h = refl
definitions_at_most k max_r max_d (t ∷ ts) h =
    let p : (is_triplet k max_r max_d t ≡ true) × (AreTriplets k max_r max_d ts) = and_parts _ _ h in
    and_from _ _ (parts k max_r max_d t p.0).1 (definitions_at_most k max_r max_d ts p.1)

writable_with : (k : Kind) (v : Option Value) (vs : List Value) → is_value_of k v ≡ true → list_all (is_writable k) vs ≡ true → list_all (is_writable k) (with_value v vs) ≡ true
writable_with k None vs h l = l
writable_with k (Some v) vs h l = and_from _ _ h l

values_writable : (k : Kind) (max_r max_d : ℕ) (ts : List Triplet) → AreTriplets k max_r max_d ts → list_all (is_writable k) (column_values ts) ≡ true
values_writable k max_r max_d [] h = refl
values_writable k max_r max_d (t ∷ ts) h =
    let p : (is_triplet k max_r max_d t ≡ true) × (AreTriplets k max_r max_d ts) = and_parts _ _ h in
    writable_with k t.value (column_values ts) (parts k max_r max_d t p.0).3 (values_writable k max_r max_d ts p.1)

count_with : (b : Bool) (v : Option Value) (vs : List Value) (n : ℕ) → b ≡ has_value v → n ≡ length vs → (if b then suc n else n) ≡ length (with_value v vs)
count_with b None vs n e f = rw e f
count_with b (Some v) vs n e f = rw e (ap suc f)

count_values : (k : Kind) (max_r max_d : ℕ) (ts : List Triplet) → AreTriplets k max_r max_d ts → count_equal max_d (column_definitions ts) ≡ length (column_values ts)
count_values k max_r max_d [] h = refl
count_values k max_r max_d (t ∷ ts) h =
    let p : (is_triplet k max_r max_d t ≡ true) × (AreTriplets k max_r max_d ts) = and_parts _ _ h in
    count_with (t.definition == max_d) t.value (column_values ts) (count_equal max_d (column_definitions ts)) (same_truth-true _ _ (parts k max_r max_d t p.0).2) (count_values k max_r max_d ts p.1)

first_back : (b : Bool) (v : Option Value) (vs : List Value) → b ≡ has_value v → (first_if b (with_value v vs) ≡ v) × (behind_if b (with_value v vs) ≡ vs)
first_back b None vs e = rw e (refl, refl)
first_back b (Some v) vs e = rw e (refl, refl)

joined_back : (k : Kind) (max_r max_d : ℕ) (ts : List Triplet) → AreTriplets k max_r max_d ts → join_triplets max_d (column_repetitions ts) (column_definitions ts) (column_values ts) ≡ ts
joined_back k max_r max_d [] h = refl
joined_back k max_r max_d (t ∷ ts) h =
    let p : (is_triplet k max_r max_d t ≡ true) × (AreTriplets k max_r max_d ts) = and_parts _ _ h in
    let f = first_back (t.definition == max_d) t.value (column_values ts) (same_truth-true _ _ (parts k max_r max_d t p.0).2) in
    rw (f.0, f.1) (ap (λ us. t ∷ us) (joined_back k max_r max_d ts p.1))

-- ---- bodies

spells_body : (form : PageForm) (k : Kind) (max_r max_d : ℕ) (ts : List Triplet) (dictionary : List Value) (rest : List ℕ) → max_r ≤ 32 → max_d ≤ 32 → length ts < 2 ^ 31 → AreTriplets k max_r max_d ts
    → page_body (written_shape form k max_r max_d ts) dictionary ((level_bytes form max_r (column_repetitions ts) ++ (level_bytes form max_d (column_definitions ts) ++ plain_bytes k (column_values ts))) ++ rest) ≡ got ts []
spells_body form k max_r max_d ts dictionary rest a b l h =
    let rs : List ℕ = column_repetitions ts in
    let ds : List ℕ = column_definitions ts in
    let vs : List Value = column_values ts in
    let u : List ℕ = level_bytes form max_r rs in
    let v : List ℕ = level_bytes form max_d ds in
    let lr : length rs ≡ length ts = length-map ts (λ (t : Triplet). t.repetition) in
    let ld : length ds ≡ length ts = length-map ts (λ (t : Triplet). t.definition) in
    let sr : levels max_r (length ts) (level_data max_r rs) ≡ Some rs = subst (λ (n : ℕ). levels max_r n (level_data max_r rs) ≡ Some rs) lr (levels_back max_r rs (omega (arith, l, lr)) (repetitions_at_most k max_r max_d ts h)) in
    let sd : levels max_d (length ts) (level_data max_d ds) ≡ Some ds = subst (λ (n : ℕ). levels max_d n (level_data max_d ds) ≡ Some ds) ld (levels_back max_d ds (omega (arith, l, ld)) (definitions_at_most k max_r max_d ts h)) in
    let e : (u ++ (v ++ plain_bytes k vs)) ++ rest ≡ (u ++ v) ++ (plain_bytes k vs ++ rest) = append_assoc u (v ++ plain_bytes k vs) rest ∙ (ap (λ x. u ++ x) (append_assoc v (plain_bytes k vs) rest) ∙ sym (append_assoc u v (plain_bytes k vs ++ rest))) in
    rw (e, spells_level_parts form k max_r max_d ts a b l (plain_bytes k vs ++ rest), sr, sd, count_values k max_r max_d ts h, plain_values_back k vs rest (values_writable k max_r max_d ts h), joined_back k max_r max_d ts h) refl

pub written_body_is_read : WrittenBodyIsRead
unfolding page_triplets body_bytes
written_body_is_read form k max_r max_d ts dictionary rest a b l h = ap triplets_read (spells_body form k max_r max_d ts dictionary rest a b l h)

-- Bits of the places that have a value, moved to their places from the last one on.
use Rattle.std.proofs.Common.{◌≡◌, ℕ, zero, suc, ◌+◌, ◌<◌, ◌≤◌, List, [], ◌∷◌, ◌++◌, map, length, take, drop, get_or, Bool, true, false, ◌&&◌, refl, sym, ap, ap₂, ◌∙◌, arith, add-one}
use Rattle.std.specs.Prelude.{ℤ, Option, Some, None, ◌==◌, if◌then◌else◌, slice_set}
use Rattle.std.proofs.Math.ListN.{length-set}
use Rattle.std.proofs.lemmas.List.{length-map, take-append-le, take-append-drop, length-take}
use Rattle.dr_meaning.specs.Record.{Value, int_value}
use Rattle.dr_meaning.specs.Column.{Triplet, triplet}
use Rattle.dr_levels.specs.Dense.{present, joined, first_of, value_list}
use Rattle.dr_levels.specs.Lent.{present_values}
use Rattle.dr_levels.specs.Views.{levels_pair, triplet_levels}
use Rattle.dr_plan.specs.declared.expression.Comparison.{Comparison}
use Rattle.dr_levels.specs.declared.triplet.Levels.{Levels}
use Rattle.dr_levels.proofs.DenseLemmas.{counted_more, present-taken}
use Rattle.dr_beside.specs.Spreading.{next_of, rest_of}
use Rattle.dr_rows_beside.specs.Comparing.{placed, stands, stands_at}
use Rattle.dr_rows_beside.proofs.BitLemmas.{set_front, set_here, set_dropped, dropped}
use Rattle.dr_rows_beside.proofs.PlaceLemmas.{few_values}

first_bit : (bs : List Bool) → next_of false bs ≡ get_or bs 0 false
first_bit [] = refl
first_bit (b ∷ bs) = refl

later_bit : (bs : List Bool) (n : ℕ) → get_or (rest_of bs) n false ≡ get_or bs (suc n) false
later_bit [] n = refl
later_bit (b ∷ bs) n = refl

-- the bit at a place
abbrev bit_of : Bool → ℕ → List Bool → Bool
bit_of t n bs = if t then get_or bs n false else false

first_by : (t : Bool) (bs xs ys : List Bool) → (if t then next_of false bs ∷ xs else false ∷ ys) ≡ bit_of t 0 bs ∷ drop 1 (if t then next_of false bs ∷ xs else false ∷ ys)
first_by true bs xs ys = ap (λ (b : Bool). b ∷ xs) (first_bit bs)
first_by false bs xs ys = refl

later_by : (t u : Bool) (i n : ℕ) (bs : List Bool) (f : List Bool → List Bool) → ((cs : List Bool) → drop i (f cs) ≡ bit_of u n cs ∷ drop (suc i) (f cs))
    → drop (suc i) (if t then next_of false bs ∷ f (rest_of bs) else false ∷ f bs) ≡ bit_of u (if t then suc n else n) bs ∷ drop (suc (suc i)) (if t then next_of false bs ∷ f (rest_of bs) else false ∷ f bs)
later_by true true i n bs f ih = ih (rest_of bs) ∙ ap (λ (b : Bool). b ∷ drop (suc i) (f (rest_of bs))) (later_bit bs n)
later_by true false i n bs f ih = ih (rest_of bs)
later_by false u i n bs f ih = ih bs

placed_at : (g : ℕ) (ls : List Levels) (i : ℕ) (d : Levels) (bs : List Bool) → i < length ls → drop i (placed g ls bs) ≡ bit_of ((get_or ls i d).definition == g) (present g (take i ls)) bs ∷ drop (suc i) (placed g ls bs)
placed_at g [] i d bs h = absurd (omega (arith, h))
placed_at g (l ∷ ls) zero d bs h = first_by (l.definition == g) bs (placed g ls (rest_of bs)) (placed g ls bs)
placed_at g (l ∷ ls) (suc i) d bs h =
    later_by (l.definition == g) ((get_or ls i d).definition == g) i (present g (take i ls)) bs (placed g ls) (λ (cs : List Bool). placed_at g ls i d cs (omega (arith, h)))

all_by : (t : Bool) (i n : ℕ) (bs : List Bool) (f : List Bool → List Bool) → n ≤ i → (if t then suc n else n) ≡ suc i → suc i ≤ length bs → ((cs : List Bool) → n ≡ i → i ≤ length cs → take i (f cs) ≡ take i cs)
    → take (suc i) (if t then next_of false bs ∷ f (rest_of bs) else false ∷ f bs) ≡ take (suc i) bs
all_by true i n [] f h e l ih = absurd (omega (arith, l))
all_by true i n (b ∷ bs) f h e l ih = ap (λ (cs : List Bool). b ∷ cs) (ih bs (omega (arith, e)) (omega (arith, l)))
all_by false i n bs f h e l ih = absurd (omega (arith, h, e))

placed_all : (g : ℕ) (ls : List Levels) (i : ℕ) (bs : List Bool) → i ≤ length ls → present g (take i ls) ≡ i → i ≤ length bs → take i (placed g ls bs) ≡ take i bs
placed_all g ls zero bs h e l = refl
placed_all g [] (suc i) bs h e l = absurd (omega (arith, h))
placed_all g (l₁ ∷ ls) (suc i) bs h e l =
    all_by (l₁.definition == g) i (present g (take i ls)) bs (placed g ls) (few_values g i ls (omega (arith, h))) e l
    (λ (cs : List Bool) (z : present g (take i ls) ≡ i) (k : i ≤ length cs). placed_all g ls i cs (omega (arith, h)) z k)

-- ---- one place more

less_front : (i : ℕ) (xs ys : List Bool) → take (suc i) xs ≡ take (suc i) ys → take i xs ≡ take i ys
less_front i xs ys e = sym (front_of i xs) ∙ ap (take i) e ∙ front_of i ys
  where
    front_of : (i : ℕ) (xs : List Bool) → take i (take (suc i) xs) ≡ take i xs
    front_of zero xs = refl
    front_of (suc i) [] = refl
    front_of (suc i) (x ∷ xs) = ap (λ (ys : List Bool). x ∷ ys) (front_of i xs)

pub within_front : (n k : ℕ) (xs : List Bool) → n < k → get_or (take k xs) n false ≡ get_or xs n false
within_front n zero xs h = absurd (omega (arith, h))
within_front n (suc k) [] h = refl
within_front zero (suc k) (x ∷ xs) h = refl
within_front (suc n) (suc k) (x ∷ xs) h = within_front n k xs (omega (arith, h))

pub record Fills (g i : ℕ) (ls : List Levels) (old room whole : List Bool) (v : Bool) : Type 0 where
  pub front : take i (slice_set room i v) ≡ take i old
  pub back : drop i (slice_set room i v) ≡ drop i whole

one_present : (g i : ℕ) (ls : List Levels) (d : Levels) → i < length ls → present g (take (i + 1) ls) ≡ present g (take i ls) + (if (get_or ls i d).definition == g then 1 else 0)
one_present g i ls d h = counted_more g ls i d h ∙ ap (λ (n : ℕ). present g (take i ls) + n) (one_by ((get_or ls i d).definition == g))
  where
    one_by : (t : Bool) → (if t then suc 0 else 0) ≡ (if t then 1 else 0)
    one_by true = refl
    one_by false = refl

pub present_more : (g i : ℕ) (ls : List Levels) (d : Levels) (n : ℕ) → i < length ls → n ≡ present g (take (suc i) ls) → n ≡ present g (take i ls) + (if (get_or ls i d).definition == g then 1 else 0)
present_more g i ls d n h e = e ∙ ap (λ (k : ℕ). present g (take k ls)) (sym (add-one i)) ∙ one_present g i ls d h

bit_by : (t : Bool) (n i count : ℕ) (old room : List Bool) → n ≤ i → (if t then suc n else n) ≤ count → take (suc i) room ≡ take (suc i) old → (t && get_or room n false) ≡ bit_of t n (take count old)
bit_by true n i count old room h l e =
    sym (within_front n (suc i) room (omega (arith, h))) ∙ ap (λ (xs : List Bool). get_or xs n false) e ∙ within_front n (suc i) old (omega (arith, h)) ∙ sym (within_front n count old (omega (arith, l)))
bit_by false n i count old room h l e = refl

pub fill_step : (g i count : ℕ) (ls : List Levels) (d : Levels) (old room : List Bool) → i < length ls → length room ≡ length ls → count ≡ present g ls → take (suc i) room ≡ take (suc i) old
    → drop (suc i) room ≡ drop (suc i) (placed g ls (take count old))
    → Fills g i ls old room (placed g ls (take count old)) (((get_or ls i d).definition == g) && get_or room (present g (take i ls)) false)
fill_step g i count ls d old room h w c front back =
    let t = (get_or ls i d).definition == g in
    let n = present g (take i ls) in
    let v = t && get_or room n false in
    let few : n ≤ i = few_values g i ls (omega (arith, h)) in
    let room_long : i < length room = omega (arith, h, w) in
    let most : (if t then suc n else n) ≤ count = omega (arith, c, one_present g i ls d h, present-taken g (i + 1) ls, at_most t n) in
    let here : drop i (slice_set room i v) ≡ v ∷ drop (suc i) room =
    dropped (slice_set room i v) i false (omega (arith, room_long, length-set room i v)) ∙ ap₂ (λ (b : Bool) (bs : List Bool). b ∷ bs) (set_here room i v false room_long) (set_dropped room i v) in
    record {
      front = set_front room i v ∙ less_front i room old front;
      back = here ∙ ap₂ (λ (b : Bool) (bs : List Bool). b ∷ bs) (bit_by t n i count old room few most front) back ∙ sym (placed_at g ls i d (take count old) h);
    }
  where
    at_most : (t : Bool) (n : ℕ) → (if t then suc n else n) ≤ n + (if t then 1 else 0)
    at_most true n = omega arith
    at_most false n = omega arith

pub fill_ends : (g to from count : ℕ) (ls : List Levels) (old room : List Bool) → to ≤ length ls → length old ≡ length ls → count ≡ present g ls → from ≡ present g (take to ls) → to ≤ from → take to room ≡ take to old
    → drop to room ≡ drop to (placed g ls (take count old)) → room ≡ placed g ls (take count old)
fill_ends g to from count ls old room h w c e l front back =
    let few : present g (take to ls) ≤ to = few_values g to ls h in
    let all : present g (take to ls) ≡ to = omega (arith, e, l, few) in
    let less : to ≤ count = omega (arith, c, all, present-taken g to ls) in
    let long : to ≤ length (take count old) = omega (arith, less, h, w, length-take count old) in
    sym (take-append-drop to room)
    ∙ ap₂ (λ (xs ys : List Bool). xs ++ ys) (front ∙ sym (taken_twice to count old less) ∙ sym (placed_all g ls to (take count old) h all long)) back
    ∙ take-append-drop to (placed g ls (take count old))
  where
    taken_twice : (i k : ℕ) (xs : List Bool) → i ≤ k → take i (take k xs) ≡ take i xs
    taken_twice zero k xs h = refl
    taken_twice (suc i) zero xs h = absurd (omega (arith, h))
    taken_twice (suc i) (suc k) [] h = refl
    taken_twice (suc i) (suc k) (x ∷ xs) h = ap (λ (ys : List Bool). x ∷ ys) (taken_twice i k xs (omega (arith, h)))

pub length_placed : (g : ℕ) (ls : List Levels) (bs : List Bool) → length (placed g ls bs) ≡ length ls
length_placed g [] bs = refl
length_placed g (l ∷ ls) bs = length_by (l.definition == g) (placed g ls (rest_of bs)) (placed g ls bs) (length ls) (next_of false bs) (length_placed g ls (rest_of bs)) (length_placed g ls bs)
  where
    length_by : (t : Bool) (xs ys : List Bool) (n : ℕ) (b : Bool) → length xs ≡ n → length ys ≡ n → length (if t then b ∷ xs else false ∷ ys) ≡ suc n
    length_by true xs ys n b e f = ap suc e
    length_by false xs ys n b e f = ap suc f

none_left : (xs : List Bool) (i : ℕ) → length xs ≤ i → drop i xs ≡ []
none_left [] zero h = refl
none_left [] (suc i) h = refl
none_left (x ∷ xs) zero h = absurd (omega (arith, h))
none_left (x ∷ xs) (suc i) h = none_left xs i (omega (arith, h))

pub fill_starts : (g n : ℕ) (ls : List Levels) (room bs : List Bool) → n ≡ length ls → length room ≡ length ls → drop n room ≡ drop n (placed g ls bs)
fill_starts g n ls room bs e w = none_left room n (omega (arith, e, w)) ∙ sym (none_left (placed g ls bs) n (omega (arith, e, length_placed g ls bs)))

-- ---- numbers at their triplets

rest_stands : (c : Comparison) (z : ℤ) (zs : List ℤ) → rest_of (map (stands c z) zs) ≡ map (stands c z) (drop 1 zs)
rest_stands c z [] = refl
rest_stands c z (y ∷ zs) = refl

stand_by : (t : Bool) (c : Comparison) (z : ℤ) (l : Levels) (zs : List ℤ) (f : List Bool → List Bool) (ts : List Value → List Triplet) → ((ys : List ℤ) → f (map (stands c z) ys) ≡ map (stands_at c z) (ts (map (λ y. int_value y) ys)))
    → (if t then next_of false (map (stands c z) zs) ∷ f (rest_of (map (stands c z) zs)) else false ∷ f (map (stands c z) zs))
    ≡ map (stands_at c z) (if t then triplet l.repetition l.definition (first_of (map (λ y. int_value y) zs)) ∷ ts (drop 1 (map (λ y. int_value y) zs)) else triplet l.repetition l.definition None ∷ ts (map (λ y. int_value y) zs))
stand_by true c z l [] f ts ih = ap (λ (bs : List Bool). false ∷ bs) (ih [])
stand_by true c z l (y ∷ zs) f ts ih = ap (λ (bs : List Bool). stands c z y ∷ bs) (ih zs)
stand_by false c z l zs f ts ih = ap (λ (bs : List Bool). false ∷ bs) (ih zs)

pub placed_stand : (g : ℕ) (c : Comparison) (z : ℤ) (ls : List Levels) (zs : List ℤ) → placed g ls (map (stands c z) zs) ≡ map (stands_at c z) (joined g ls (map (λ y. int_value y) zs))
placed_stand g c z [] zs = refl
placed_stand g c z (l ∷ ls) zs = stand_by (l.definition == g) c z l zs (placed g ls) (joined g ls) (λ (ys : List ℤ). placed_stand g c z ls ys)

pub front_kept : (n : ℕ) (xs : List Bool) (b : Bool) → n ≤ length xs → take n (xs ++ b ∷ []) ≡ take n xs
front_kept n xs b h = take-append-le n xs (b ∷ []) h

value_by : (v : Option Value) (vs : List Value) (n : ℕ) → length vs ≤ n → length (value_list v ++ vs) ≤ suc n
value_by None vs n h = omega (arith, h)
value_by (Some v) vs n h = omega (arith, h)

pub few_present : (ts : List Triplet) → length (present_values ts) ≤ length ts
few_present [] = omega arith
few_present (t ∷ ts) = value_by t.value (present_values ts) (length ts) (few_present ts)

pub same_long : (ls : List Levels) (ts : List Triplet) → map levels_pair ls ≡ map triplet_levels ts → length ls ≡ length ts
same_long ls ts e = sym (length-map ls levels_pair) ∙ ap (λ (xs : List (ℕ × ℕ)). length xs) e ∙ length-map ts triplet_levels

pub only_these : (items old new : List Bool) → items ≡ old ++ new → old ≡ [] → items ≡ new
only_these items old new e h = e ∙ ap (λ (xs : List Bool). xs ++ new) h

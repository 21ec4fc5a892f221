-- What is written: levels at most the greatest, and values that are there.
use Rattle.std.proofs.Common.{◌≡◌, ℕ, zero, suc, ◌+◌, ◌-◌, ◌*◌, ◌/◌, ◌^◌, ◌≤◌, ◌<◌, List, [], ◌∷◌, ◌++◌, map, length, drop, Bool, true, false, refl, sym, ap, ap₂, ◌∙◌, subst, arith, Option, Some, None, append_assoc, ℤ}
use Rattle.std.specs.Prelude.{nat_le, nat_lt, ◌&&◌, ◌==◌, if◌then◌else◌}
use Rattle.std.specs.List.{list_all, sum_by}
use Rattle.std.proofs.Math.Nat.{pow-suc}
use Rattle.std.proofs.lemmas.Bool.{lt-ltb, leb-true, eqb-true, and_parts, and_from}
use Rattle.std.proofs.lemmas.List.{length-map, length-append, length-drop, length-take-le}
use Rattle.std.proofs.lemmas.List.Sums.{sum_by-cons}
use Rattle.dr_meaning.specs.Schema.{Kind}
use Rattle.dr_meaning.specs.Schema as tree
use Rattle.dr_meaning.specs.Record.{Value, bool_value, int_value, text_value}
use Rattle.dr_meaning.specs.Column.{Triplet}
use Rattle.dr_formats.specs.LittleEndian.{little_endian_bytes, packed, bytes_for}
use Rattle.dr_formats.specs.Plain.{complement, bit_of, plain_number_bytes, plain_text_bytes, joined, plain_bytes, is_writable}
use Rattle.dr_formats.proofs.LittleEndianLemmas.{length_little_endian}
use Rattle.dr_formats.specs.Hybrid.{hybrid_bytes}
use Rattle.dr_formats.specs.Page.{data_page_v1, level_data, behind_length, level_bytes, digits_within, level_width, with_value, column_values, has_value, is_value_of, same_truth, is_triplet}
use Rattle.dr_levels.specs.declared.triplet.Levels.{Levels}
use Rattle.dr_levels.specs.declared.text_place.TextPlace.{TextPlace}
use Rattle.dr_levels.specs.Texts.{is_text, bytes_at}
use Rattle.dr_levels.specs.Dense.{value_list, text_values}
use Rattle.dr_levels.specs.Lent.{present_values}
use Rattle.dr_levels.specs.Views.{levels_pair, triplet_levels}
use Rattle.dr_meaning.specs.Lists.{BeginsWith}

-- ---- levels are of the width

digit_step : (k n : ℕ) (b : Bool) → (n == 0) ≡ b → (n / 2 < 2 ^ k → n / 2 < 2 ^ digits_within k (n / 2)) → n < 2 ^ suc k → n < 2 ^ (if b then 0 else suc (digits_within k (n / 2)))
digit_step k n true e f h = omega (arith, eqb-true n 0 e)
digit_step k n false e f h =
    let g : n / 2 < 2 ^ digits_within k (n / 2) = f (omega (arith, h, pow-suc 2 k)) in
    omega (arith, g, pow-suc 2 (digits_within k (n / 2)))

digits_hold : (k n : ℕ) → n < 2 ^ k → n < 2 ^ digits_within k n
digits_hold zero n h = h
digits_hold (suc k) n h = digit_step k n (n == 0) refl (digits_hold k (n / 2)) h

below_power : (n : ℕ) → n < 2 ^ n
below_power zero = omega arith
below_power (suc n) = omega (arith, below_power n, pow-suc 2 n)

pub levels_below : (g w : ℕ) (ls : List ℕ) → w ≡ level_width g → list_all (λ l. nat_le l g) ls ≡ true → list_all (λ v. nat_lt v (2 ^ w)) ls ≡ true
levels_below g w [] e k = refl
levels_below g w (l ∷ ls) e k =
    let p : (nat_le l g ≡ true) × (list_all (λ l. nat_le l g) ls ≡ true) = and_parts _ _ k in
    let h : g < 2 ^ w = subst (λ (v : ℕ). g < 2 ^ v) (sym e) (digits_hold g g (below_power g)) in
    and_from _ _ (lt-ltb l (2 ^ w) (omega (arith, leb-true l g p.0, h))) (levels_below g w ls e p.1)

-- the hybrid data of levels, where there are any
pub data_written : (g w : ℕ) (ls : List ℕ) → 0 < g → w ≡ level_width g → level_data g ls ≡ hybrid_bytes w ls
data_written zero w ls h e = absurd (omega (arith, h))
data_written (suc g) w ls h e = ap (λ v. hybrid_bytes v ls) (sym e)

-- a V1 page has it behind its length
pub behind_written : (g : ℕ) (ls : List ℕ) → 0 < g → level_bytes data_page_v1 g ls ≡ behind_length (level_data g ls)
behind_written zero ls h = absurd (omega (arith, h))
behind_written (suc g) ls h = refl

-- ---- triplets that can be written

abbrev AreTriplets : Kind → ℕ → ℕ → List Triplet → Type 0
AreTriplets k max_r max_d ts = list_all (is_triplet k max_r max_d) ts ≡ true

abbrev Parts : Kind → ℕ → ℕ → Triplet → Type 0
Parts k max_r max_d t = (nat_le t.repetition max_r ≡ true) × (nat_le t.definition max_d ≡ true) × (is_value_of k t.value ≡ true)

parts : (k : Kind) (max_r max_d : ℕ) (t : Triplet) → is_triplet k max_r max_d t ≡ true → Parts k max_r max_d t
parts k max_r max_d t h =
    let a : ((nat_le t.repetition max_r && nat_le t.definition max_d && same_truth (t.definition == max_d) (has_value t.value)) ≡ true) × (is_value_of k t.value ≡ true) = and_parts _ _ h in
    let b : ((nat_le t.repetition max_r && nat_le t.definition max_d) ≡ true) × (same_truth (t.definition == max_d) (has_value t.value) ≡ true) = and_parts _ _ a.0 in
    let c : (nat_le t.repetition max_r ≡ true) × (nat_le t.definition max_d ≡ true) = and_parts _ _ b.0 in
    (c.0, c.1, a.1)

repetitions_at_most : (k : Kind) (max_r max_d : ℕ) (ts : List Triplet) → AreTriplets k max_r max_d ts → list_all (λ l. nat_le l max_r) (map (λ (t : Triplet). t.repetition) ts) ≡ true
repetitions_at_most k max_r max_d [] h = refl
repetitions_at_most k max_r max_d (t ∷ ts) h =
    let p : (is_triplet k max_r max_d t ≡ true) × (AreTriplets k max_r max_d ts) = and_parts _ _ h in
    and_from _ _ (parts k max_r max_d t p.0).0 (repetitions_at_most k max_r max_d ts p.1)

definitions_at_most : (k : Kind) (max_r max_d : ℕ) (ts : List Triplet) → AreTriplets k max_r max_d ts → list_all (λ l. nat_le l max_d) (map (λ (t : Triplet). t.definition) ts) ≡ true
definitions_at_most k max_r max_d [] h = refl
definitions_at_most k max_r max_d (t ∷ ts) h =
    let p : (is_triplet k max_r max_d t ≡ true) × (AreTriplets k max_r max_d ts) = and_parts _ _ h in
    and_from _ _ (parts k max_r max_d t p.0).1 (definitions_at_most k max_r max_d ts p.1)

writable_with : (k : Kind) (v : Option Value) (vs : List Value) → is_value_of k v ≡ true → list_all (is_writable k) vs ≡ true → list_all (is_writable k) (value_list v ++ vs) ≡ true
writable_with k None vs h l = l
writable_with k (Some v) vs h l = and_from _ _ h l

pub values_writable : (k : Kind) (max_r max_d : ℕ) (ts : List Triplet) → AreTriplets k max_r max_d ts → list_all (is_writable k) (present_values ts) ≡ true
values_writable k max_r max_d [] h = refl
values_writable k max_r max_d (t ∷ ts) h =
    let p : (is_triplet k max_r max_d t ≡ true) × (AreTriplets k max_r max_d ts) = and_parts _ _ h in
    writable_with k t.value (present_values ts) (parts k max_r max_d t p.0).2 (values_writable k max_r max_d ts p.1)

one_present : (v : Option Value) (us vs : List Value) → us ≡ vs → value_list v ++ us ≡ with_value v vs
one_present None us vs e = e
one_present (Some v) us vs e = ap (λ ws. v ∷ ws) e

pub same_values : (ts : List Triplet) → present_values ts ≡ column_values ts
same_values [] = refl
same_values (t ∷ ts) = one_present t.value (present_values ts) (column_values ts) (same_values ts)

-- ---- levels of triplets

map_seen : {A B C : Type 0} (f : A → B) (g : B → C) (xs : List A) → map g (map f xs) ≡ map (λ x. g (f x)) xs
map_seen f g [] = refl
map_seen f g (x ∷ xs) = ap (λ ys. g (f x) ∷ ys) (map_seen f g xs)

pub same_repetitions : (ls : List Levels) (ts : List Triplet) → map levels_pair ls ≡ map triplet_levels ts → map (λ (l : Levels). l.repetition) ls ≡ map (λ (t : Triplet). t.repetition) ts
same_repetitions ls ts e = sym (map_seen levels_pair (λ (p : ℕ × ℕ). p.0) ls) ∙ (ap (map (λ (p : ℕ × ℕ). p.0)) e ∙ map_seen triplet_levels (λ (p : ℕ × ℕ). p.0) ts)

pub same_definitions : (ls : List Levels) (ts : List Triplet) → map levels_pair ls ≡ map triplet_levels ts → map (λ (l : Levels). l.definition) ls ≡ map (λ (t : Triplet). t.definition) ts
same_definitions ls ts e = sym (map_seen levels_pair (λ (p : ℕ × ℕ). p.1) ls) ∙ (ap (map (λ (p : ℕ × ℕ). p.1)) e ∙ map_seen triplet_levels (λ (p : ℕ × ℕ). p.1) ts)

pub repetitions_fit : (k : Kind) (max_r max_d : ℕ) (ls : List Levels) (ts : List Triplet) → map levels_pair ls ≡ map triplet_levels ts → AreTriplets k max_r max_d ts → list_all (λ l. nat_le l max_r) (map (λ (l : Levels). l.repetition) ls) ≡ true
repetitions_fit k max_r max_d ls ts e h = ap (list_all (λ l. nat_le l max_r)) (same_repetitions ls ts e) ∙ repetitions_at_most k max_r max_d ts h

pub definitions_fit : (k : Kind) (max_r max_d : ℕ) (ls : List Levels) (ts : List Triplet) → map levels_pair ls ≡ map triplet_levels ts → AreTriplets k max_r max_d ts → list_all (λ l. nat_le l max_d) (map (λ (l : Levels). l.definition) ls) ≡ true
definitions_fit k max_r max_d ls ts e h = ap (list_all (λ l. nat_le l max_d)) (same_definitions ls ts e) ∙ definitions_at_most k max_r max_d ts h

-- ---- bytes behind others

pub three_joined : (a b c old one two new : List ℕ) → one ≡ old ++ a → two ≡ one ++ b → new ≡ two ++ c → new ≡ old ++ (a ++ (b ++ c))
three_joined a b c old one two new e f h = h ∙ (ap (λ xs. xs ++ c) (f ∙ ap (λ xs. xs ++ b) e) ∙ (append_assoc (old ++ a) b c ∙ append_assoc old a (b ++ c)))

pub all_joined : (a b c whole old one two new : List ℕ) → whole ≡ a ++ (b ++ c) → one ≡ old ++ a → two ≡ one ++ b → new ≡ two ++ c → new ≡ old ++ whole
all_joined a b c whole old one two new w e f h = three_joined a b c old one two new e f h ∙ ap (λ xs. old ++ xs) (sym w)

pub some_joined : (a b old one two new : List ℕ) → one ≡ old ++ a → two ≡ one ++ b → BeginsWith two new → BeginsWith old new
some_joined a b old one two new e f h = (a ++ (b ++ h.0), three_joined a b h.0 old one two new e f h.1)

-- ---- how many bytes values take

pub bools_size : (vs : List Bool) (us : List Value) → map bool_value vs ≡ us → length (plain_bytes tree.bool_kind us) ≡ (length vs + 7) / 8
bools_size vs us e = length_little_endian (bytes_for (length us)) (packed 1 (map bit_of us)) ∙ ap bytes_for (sym (ap length e) ∙ length-map vs bool_value)

numbers_size : (bits n : ℕ) (vs : List ℤ) → bits / 8 ≡ n → length (joined (plain_number_bytes bits) (map int_value vs)) ≡ n * length vs
numbers_size bits n [] e = omega arith
numbers_size bits n (v ∷ vs) e =
    let a : length (plain_number_bytes bits (int_value v)) ≡ n = length_little_endian (bits / 8) (complement bits v) ∙ e in
    length-append (plain_number_bytes bits (int_value v)) (joined (plain_number_bytes bits) (map int_value vs)) ∙ omega (arith, a, numbers_size bits n vs e)

pub int32s_size : (vs : List ℤ) (us : List Value) → map int_value vs ≡ us → length (plain_bytes tree.int32_kind us) ≡ 4 * length vs
int32s_size vs us e = ap (λ xs. length (plain_bytes tree.int32_kind xs)) (sym e) ∙ numbers_size 32 4 vs refl

pub int64s_size : (vs : List ℤ) (us : List Value) → map int_value vs ≡ us → length (plain_bytes tree.int64_kind us) ≡ 8 * length vs
int64s_size vs us e = ap (λ xs. length (plain_bytes tree.int64_kind xs)) (sym e) ∙ numbers_size 64 8 vs refl

text_size : (bytes : List ℕ) (p : TextPlace) → is_text bytes p ≡ true → length (plain_text_bytes (text_value (bytes_at bytes p))) ≡ 4 + p.length
text_size bytes p h =
    let w : p.start + p.length ≤ length bytes = leb-true (p.start + p.length) (length bytes) (and_parts _ _ h).0 in
    let d : length (drop p.start bytes) ≡ length bytes - p.start = length-drop p.start bytes in
    let t : length (bytes_at bytes p) ≡ p.length = length-take-le p.length (drop p.start bytes) (omega (arith, w, d)) in
    length-append (little_endian_bytes 4 (length (bytes_at bytes p))) (bytes_at bytes p) ∙ omega (arith, t, length_little_endian 4 (length (bytes_at bytes p)))

texts_are : (bytes : List ℕ) (ps : List TextPlace) → list_all (is_text bytes) ps ≡ true → length (joined plain_text_bytes (text_values bytes ps)) ≡ sum_by (λ (p : TextPlace). 4 + p.length) ps
texts_are bytes [] h = refl
texts_are bytes (p ∷ ps) h =
    length-append (plain_text_bytes (text_value (bytes_at bytes p))) (joined plain_text_bytes (text_values bytes ps))
    ∙ (ap₂ (λ m n. m + n) (text_size bytes p (and_parts _ _ h).0) (texts_are bytes ps (and_parts _ _ h).1) ∙ sym (sum_by-cons (λ (q : TextPlace). 4 + q.length) p ps))

pub texts_size : (bytes : List ℕ) (ps : List TextPlace) (us : List Value) → list_all (is_text bytes) ps ≡ true → text_values bytes ps ≡ us → length (plain_bytes tree.text_kind us) ≡ sum_by (λ (p : TextPlace). 4 + p.length) ps
texts_size bytes ps us h e = ap (λ xs. length (plain_bytes tree.text_kind xs)) (sym e) ∙ texts_are bytes ps h

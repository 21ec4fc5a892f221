-- Where the pages of a column are cut.
use Rattle.std.proofs.Common.{◌≡◌, ℕ, zero, suc, ◌+◌, ◌-◌, ◌*◌, ◌/◌, ◌<◌, ◌≤◌, ◌^◌, List, [], ◌∷◌, ◌++◌, length, map, take, drop, Bool, true, false, refl, sym, ap, ap₂, ◌∙◌, subst, arith, append_assoc, length-append, length-drop, true≢false, take-add, get_or, Option, Some, None, ◌⊎◌, inl, inr}
use Rattle.std.specs.Prelude.{◌==◌, nat_le, if◌then◌else◌}
use Rattle.std.proofs.lemmas.List.{length-map, drop-map, drop-drop, length-take-le}
use Rattle.std.proofs.lemmas.Bool.{le-leb, lt-leb, leb-true, leb-false, eqb-true, eq-eqb, ne_eqb}
use Rattle.std.proofs.Math.Bool.{or-true}
use Rattle.dr_meaning.specs.Schema.{Kind, bool_kind, int32_kind, int64_kind, text_kind}
use Rattle.dr_meaning.specs.Record.{Value, bool_value, int_value, text_value}
use Rattle.dr_meaning.specs.Column.{Triplet}
use Rattle.dr_formats.specs.Page.{column_values, with_value}
use Rattle.dr_formats.specs.Plain.{plain_bytes, plain_number_bytes, plain_text_bytes, complement, bit_of}
use Rattle.dr_formats.specs.LittleEndian.{packed, bytes_for}
use Rattle.dr_formats.proofs.LittleEndianLemmas.{length_little_endian}
use Rattle.dr_formats.specs.Plain as plain
use Rattle.dr_formats.specs.Writing.{is_full, last_page, closed_page, open_page, cut_pages}
use Rattle.std.proofs.Math.ListN.{get_or-map}
use Rattle.dr_levels.specs.declared.triplet.Levels.{Levels}
use Rattle.dr_levels.specs.Views.{levels_pair, triplet_levels}
use Rattle.dr_nested.specs.declared.shape.Kind as kinds
use Rattle.dr_nested.specs.Views.{kind_view}
use Rattle.dr_write.specs.Cutting.{with_first, records_of, repetitions_of, record_end, IsEnough}

-- ---- ends of records

within_by : (b : Bool) (m l : ℕ) → m ≤ l → (if b then 0 else suc m) ≤ suc l
within_by true m l h = omega arith
within_by false m l h = omega (arith, h)

end_within : (rs : List ℕ) (n : ℕ) → record_end rs n ≤ length rs
end_within [] n = omega arith
end_within (r ∷ rs) zero = within_by (r == 0) (record_end rs 0) (length rs) (end_within rs 0)
end_within (r ∷ rs) (suc n) = omega (arith, end_within rs n)

end_now_by : (b : Bool) (m n x : ℕ) → suc n ≤ (if b then 0 else suc m) → (n ≤ m → x ≡ m) → suc x ≡ (if b then 0 else suc m)
end_now_by true m n x h ih = absurd (omega (arith, h))
end_now_by false m n x h ih = ap suc (ih (omega (arith, h)))

-- the first end is behind so many
end_now : (rs : List ℕ) (n : ℕ) → n ≤ record_end rs 0 → record_end rs n ≡ record_end rs 0
end_now [] n h = refl
end_now (r ∷ rs) zero h = refl
end_now (r ∷ rs) (suc n) h = end_now_by (r == 0) (record_end rs 0) n (record_end rs n) h (end_now rs n)

later_by : (b : Bool) (r : ℕ) (rs : List ℕ) (m n i : ℕ) → (if b then 0 else suc m) + suc i ≡ n → ((j : ℕ) → m + suc i ≡ j → record_end rs j ≡ m + record_end (drop m rs) (suc i))
    → record_end (r ∷ rs) n ≡ (if b then 0 else suc m) + record_end (drop (if b then 0 else suc m) (r ∷ rs)) (suc i)
later_by true r rs m n i h ih =
    let e : n ≡ suc i = omega (arith, h) in
    rw e (omega arith)
later_by false r rs m zero i h ih = absurd (omega (arith, h))
later_by false r rs m (suc n) i h ih = ap suc (ih n (omega (arith, h))) ∙ omega arith

-- it is not: the end is to be sought behind it
end_later : (rs : List ℕ) (n i : ℕ) → record_end rs 0 + suc i ≡ n → record_end rs n ≡ record_end rs 0 + record_end (drop (record_end rs 0) rs) (suc i)
end_later [] n i h = refl
end_later (r ∷ rs) n i h = later_by (r == 0) r rs (record_end rs 0) n i h (λ j e. end_later rs j i e)

-- ---- the first record

first_by : (t u : Triplet) (us : List Triplet) (b : Bool) (m : ℕ) → records_of (u ∷ us) ≡ (u ∷ take m us) ∷ records_of (drop m us)
    → with_first t b (records_of (u ∷ us)) ≡ (t ∷ take (if b then 0 else suc m) (u ∷ us)) ∷ records_of (drop (if b then 0 else suc m) (u ∷ us))
first_by t u us true m ih = refl
first_by t u us false m ih = ap (with_first t false) ih

first_record : (t : Triplet) (ts : List Triplet) → records_of (t ∷ ts) ≡ (t ∷ take (record_end (repetitions_of ts) 0) ts) ∷ records_of (drop (record_end (repetitions_of ts) 0) ts)
first_record t [] = refl
first_record t (u ∷ us) = first_by t u us (u.repetition == 0) (record_end (repetitions_of us) 0) (first_record u us)

-- ---- the first page

abbrev EnoughBehind : Kind → List Triplet → List Triplet → ℕ → Type 0
EnoughBehind k p ts n = (m : ℕ) → m ≤ length ts → is_full k (p ++ take m ts) ≡ nat_le n m

last_of : (p : List Triplet) (t : Triplet) (ts : List Triplet) → last_page (p ++ (t ∷ ts)) ≡ (p ++ (t ∷ ts)) ∷ []
last_of [] t ts = refl
last_of (u ∷ p) t ts = refl

step_of : (k : Kind) (p c : List Triplet) (cs : List (List Triplet)) (b : Bool) → is_full k (p ++ c) ≡ b → cut_pages k p (c ∷ cs) ≡ closed_page b (p ++ c) ++ cut_pages k (open_page b (p ++ c)) cs
step_of k p c cs b e = ap (λ x. closed_page x (p ++ c) ++ cut_pages k (open_page x (p ++ c)) cs) e

le_shift : (a i x : ℕ) (b : Bool) → nat_le i x ≡ b → nat_le (a + i) (a + x) ≡ b
le_shift a i x true h = le-leb (a + i) (a + x) (omega (arith, leb-true i x h))
le_shift a i x false h = lt-leb (a + i) (a + x) (omega (arith, leb-false i x h))

-- what is enough behind the first record
enough_rest : (k : Kind) (p : List Triplet) (t : Triplet) (ts rest : List Triplet) (m i n : ℕ) → drop m ts ≡ rest → m ≤ length ts → m + suc i ≡ n → EnoughBehind k p (t ∷ ts) (suc n) → EnoughBehind k (p ++ (t ∷ take m ts)) rest (suc i)
enough_rest k p t ts rest m i n e w h f x l =
    let g : suc (m + x) ≤ length (t ∷ ts) = omega (arith, l, w, h, length-drop m ts, ap length e) in
    let a : take (m + x) ts ≡ take m ts ++ take x rest = take-add m x ts ∙ ap (λ us. take m ts ++ take x us) e in
    let b : p ++ (t ∷ take (m + x) ts) ≡ (p ++ (t ∷ take m ts)) ++ take x rest = ap (λ us. p ++ (t ∷ us)) a ∙ sym (append_assoc p (t ∷ take m ts) (take x rest)) in
    let a1 : suc n ≡ suc m + suc i = omega (arith, h) in
    let a2 : suc (m + x) ≡ suc m + x = omega arith in
    let c : nat_le (suc n) (suc (m + x)) ≡ nat_le (suc i) x = ap₂ nat_le a1 a2 ∙ le_shift (suc m) (suc i) x (nat_le (suc i) x) refl in
    ap (is_full k) (sym b) ∙ (f (suc (m + x)) g ∙ c)

abbrev FirstPage : Kind → List Triplet → Triplet → List Triplet → ℕ → Type 0
FirstPage k p t ts n = cut_pages k p (records_of (t ∷ ts)) ≡ (p ++ (t ∷ take n ts)) ∷ cut_pages k [] (records_of (drop n ts))

-- it closes with the first record
page_now : (k : Kind) (p : List Triplet) (t : Triplet) (ts : List Triplet) (n : ℕ) → n ≤ record_end (repetitions_of ts) 0 → is_full k (p ++ (t ∷ take (record_end (repetitions_of ts) 0) ts)) ≡ true → FirstPage k p t ts (record_end (repetitions_of ts) n)
page_now k p t ts n h e =
    let m : ℕ = record_end (repetitions_of ts) 0 in
    ap (cut_pages k p) (first_record t ts) ∙ (step_of k p (t ∷ take m ts) (records_of (drop m ts)) true e
    ∙ ap (λ (x : ℕ). (p ++ (t ∷ take x ts)) ∷ cut_pages k [] (records_of (drop x ts))) (sym (end_now (repetitions_of ts) n h)))

-- the first record is the last
page_last : (k : Kind) (p : List Triplet) (t : Triplet) (ts : List Triplet) (n i : ℕ) → record_end (repetitions_of ts) 0 + suc i ≡ n → is_full k (p ++ (t ∷ take (record_end (repetitions_of ts) 0) ts)) ≡ false
    → drop (record_end (repetitions_of ts) 0) ts ≡ [] → FirstPage k p t ts (record_end (repetitions_of ts) n)
page_last k p t ts n i h e d =
    let m : ℕ = record_end (repetitions_of ts) 0 in
    let g : drop m (repetitions_of ts) ≡ [] = drop-map (λ (u : Triplet). u.repetition) m ts ∙ ap repetitions_of d in
    let z : m ≡ m + 0 = omega arith in
    let r : m ≡ record_end (repetitions_of ts) n = z ∙ (ap (λ (us : List ℕ). m + record_end us (suc i)) (sym g) ∙ sym (end_later (repetitions_of ts) n i h)) in
    ap (cut_pages k p) (first_record t ts) ∙ (step_of k p (t ∷ take m ts) (records_of (drop m ts)) false e
    ∙ (ap (λ (us : List Triplet). cut_pages k (p ++ (t ∷ take m ts)) (records_of us)) d ∙ (last_of p t (take m ts)
    ∙ (ap (λ (us : List Triplet). (p ++ (t ∷ take m ts)) ∷ cut_pages k [] (records_of us)) (sym d)
    ∙ ap (λ (x : ℕ). (p ++ (t ∷ take x ts)) ∷ cut_pages k [] (records_of (drop x ts))) r))))

-- it goes on with the next record
page_on : (k : Kind) (p : List Triplet) (t : Triplet) (ts : List Triplet) (n i : ℕ) (u : Triplet) (us : List Triplet) → record_end (repetitions_of ts) 0 + suc i ≡ n → is_full k (p ++ (t ∷ take (record_end (repetitions_of ts) 0) ts)) ≡ false
    → drop (record_end (repetitions_of ts) 0) ts ≡ u ∷ us → FirstPage k (p ++ (t ∷ take (record_end (repetitions_of ts) 0) ts)) u us (record_end (repetitions_of us) i) → FirstPage k p t ts (record_end (repetitions_of ts) n)
page_on k p t ts n i u us h e d f =
    let m : ℕ = record_end (repetitions_of ts) 0 in
    let c : List Triplet = p ++ (t ∷ take m ts) in
    let x : ℕ = record_end (repetitions_of us) i in
    let g : drop m (repetitions_of ts) ≡ repetitions_of (u ∷ us) = drop-map (λ (v : Triplet). v.repetition) m ts ∙ ap repetitions_of d in
    let r : m + suc x ≡ record_end (repetitions_of ts) n = ap (λ (vs : List ℕ). m + record_end vs (suc i)) (sym g) ∙ sym (end_later (repetitions_of ts) n i h) in
    let a : c ++ (u ∷ take x us) ≡ p ++ (t ∷ take (m + suc x) ts) = append_assoc p (t ∷ take m ts) (u ∷ take x us) ∙ ap (λ (vs : List Triplet). p ++ (t ∷ vs)) (ap (λ (vs : List Triplet). take m ts ++ take (suc x) vs) (sym d) ∙ sym (take-add m (suc x) ts)) in
    let b : drop x us ≡ drop (m + suc x) ts = ap (drop (suc x)) (sym d) ∙ drop-drop (suc x) m ts in
    ap (cut_pages k p) (first_record t ts) ∙ (step_of k p (t ∷ take m ts) (records_of (drop m ts)) false e
    ∙ (ap (λ (vs : List Triplet). cut_pages k c (records_of vs)) d ∙ (f
    ∙ (ap₂ (λ (vs ws : List Triplet). vs ∷ cut_pages k [] (records_of ws)) a b
    ∙ ap (λ (y : ℕ). (p ++ (t ∷ take y ts)) ∷ cut_pages k [] (records_of (drop y ts))) r))))

abbrev FirstPages : ℕ → Type 0
FirstPages f = (k : Kind) (p : List Triplet) (t : Triplet) (ts : List Triplet) (n : ℕ) → length ts < f → EnoughBehind k p (t ∷ ts) (suc n) → FirstPage k p t ts (record_end (repetitions_of ts) n)

page_rest : (f : ℕ) → FirstPages f → (k : Kind) (p : List Triplet) (t : Triplet) (ts : List Triplet) (n i : ℕ) → length ts < suc f → EnoughBehind k p (t ∷ ts) (suc n) → record_end (repetitions_of ts) 0 + suc i ≡ n
    → is_full k (p ++ (t ∷ take (record_end (repetitions_of ts) 0) ts)) ≡ false → (rest : List Triplet) → drop (record_end (repetitions_of ts) 0) ts ≡ rest → FirstPage k p t ts (record_end (repetitions_of ts) n)
page_rest f ih k p t ts n i h e g full [] d = page_last k p t ts n i g full d
page_rest f ih k p t ts n i h e g full (u ∷ us) d =
    let m : ℕ = record_end (repetitions_of ts) 0 in
    let w : m ≤ length ts = omega (arith, end_within (repetitions_of ts) 0, length-map ts (λ (v : Triplet). v.repetition)) in
    let l : length us < f = omega (arith, h, ap length d, length-drop m ts) in
    page_on k p t ts n i u us g full d (ih k (p ++ (t ∷ take m ts)) u us i l (enough_rest k p t ts (u ∷ us) m i n d w g e))

page_by : (f : ℕ) → FirstPages f → (k : Kind) (p : List Triplet) (t : Triplet) (ts : List Triplet) (n : ℕ) → length ts < suc f → EnoughBehind k p (t ∷ ts) (suc n) → (b : Bool) → nat_le (suc n) (suc (record_end (repetitions_of ts) 0)) ≡ b
    → is_full k (p ++ (t ∷ take (record_end (repetitions_of ts) 0) ts)) ≡ b → FirstPage k p t ts (record_end (repetitions_of ts) n)
page_by f ih k p t ts n h e true b full = page_now k p t ts n (omega (arith, leb-true _ _ b)) full
page_by f ih k p t ts n h e false b full =
    let m : ℕ = record_end (repetitions_of ts) 0 in
    let g : suc m < suc n = leb-false (suc n) (suc m) b in
    let r : m + suc (n - suc m) ≡ n = omega (arith, g) in
    page_rest f ih k p t ts n (n - suc m) h e r full (drop m ts) refl

pages : (f : ℕ) → FirstPages f
pages zero k p t ts n h e = absurd (omega (arith, h))
pages (suc f) k p t ts n h e =
    let m : ℕ = record_end (repetitions_of ts) 0 in
    let w : suc m ≤ length (t ∷ ts) = omega (arith, end_within (repetitions_of ts) 0, length-map ts (λ (v : Triplet). v.repetition)) in
    page_by f (pages f) k p t ts n h e (nat_le (suc n) (suc m)) refl (e (suc m) w)

-- the first page of triplets of which so many are enough
pub first_page : (k : Kind) (ts : List Triplet) (n : ℕ) → 0 < length ts → 0 < n → IsEnough k ts n
    → cut_pages k [] (records_of ts) ≡ take (record_end (repetitions_of ts) n) ts ∷ cut_pages k [] (records_of (drop (record_end (repetitions_of ts) n) ts))
first_page k [] n h g e = absurd (omega (arith, h))
first_page k (t ∷ ts) zero h g e = absurd (omega (arith, g))
first_page k (t ∷ ts) (suc n) h g e = pages (suc (length ts)) k [] t ts n (omega arith) e

pub page_within : (ts : List Triplet) (n : ℕ) → record_end (repetitions_of ts) n ≤ length ts
page_within ts n = omega (arith, end_within (repetitions_of ts) n, length-map ts (λ (v : Triplet). v.repetition))

pub page_some : (ts : List Triplet) (n : ℕ) → 0 < length ts → 0 < n → 0 < record_end (repetitions_of ts) n
page_some [] n h g = absurd (omega (arith, h))
page_some (t ∷ ts) zero h g = absurd (omega (arith, g))
page_some (t ∷ ts) (suc n) h g = omega arith

-- ---- one place after another

pub end_passed : (rs : List ℕ) (i d : ℕ) → i < length rs → (get_or rs i d ≡ 0 → ⊥) → record_end rs i ≡ record_end rs (i + 1)
end_passed [] i d h g = absurd (omega (arith, h))
end_passed (r ∷ []) zero d h g = rw (ne_eqb r 0 (λ e. g e)) refl
end_passed (r ∷ (q ∷ rs)) zero d h g = rw (ne_eqb r 0 (λ e. g e)) refl
end_passed (r ∷ rs) (suc i) d h g =
    let e : suc i + 1 ≡ suc (i + 1) = omega arith in
    ap suc (end_passed rs i d (omega (arith, h)) g) ∙ ap (record_end (r ∷ rs)) (sym e)

pub end_here : (rs : List ℕ) (i d : ℕ) → i < length rs → get_or rs i d ≡ 0 → record_end rs i ≡ i
end_here [] i d h g = absurd (omega (arith, h))
end_here (r ∷ rs) zero d h g = rw (eq-eqb r 0 g) refl
end_here (r ∷ rs) (suc i) d h g = ap suc (end_here rs i d (omega (arith, h)) g)

pub end_behind : (rs : List ℕ) (i : ℕ) → length rs ≤ i → record_end rs i ≡ length rs
end_behind [] i h = refl
end_behind (r ∷ rs) zero h = absurd (omega (arith, h))
end_behind (r ∷ rs) (suc i) h = ap suc (end_behind rs i (omega (arith, h)))

abbrev pub levels_of : List Levels → List ℕ
levels_of ls = map (λ (l : Levels). l.repetition) ls

pub same_levels : (ls : List Levels) (ts : List Triplet) → map levels_pair ls ≡ map triplet_levels ts → levels_of ls ≡ repetitions_of ts
same_levels [] [] e = refl
same_levels [] (t ∷ ts) e = absurd (cc)
same_levels (l ∷ ls) [] e = absurd (cc)
same_levels (l ∷ ls) (t ∷ ts) e =
    let a : levels_pair l ≡ triplet_levels t = cc in
    let b : map levels_pair ls ≡ map triplet_levels ts = cc in
    ap₂ (λ (x : ℕ) (xs : List ℕ). x ∷ xs) (ap (λ (p : ℕ × ℕ). p.0) a) (same_levels ls ts b)

pub end_passed_at : (ls : List Levels) (i : ℕ) (d : Levels) → i < length ls → ((get_or ls i d).repetition ≡ 0 → ⊥) → record_end (levels_of ls) i ≡ record_end (levels_of ls) (i + 1)
end_passed_at ls i d h g = end_passed (levels_of ls) i d.repetition (omega (arith, h, length-map ls (λ (l : Levels). l.repetition))) (λ e. g (sym (get_or-map (λ (l : Levels). l.repetition) ls i d) ∙ e))

pub end_here_at : (ls : List Levels) (i : ℕ) (d : Levels) → i < length ls → (get_or ls i d).repetition ≡ 0 → record_end (levels_of ls) i ≡ i
end_here_at ls i d h g = end_here (levels_of ls) i d.repetition (omega (arith, h, length-map ls (λ (l : Levels). l.repetition))) (get_or-map (λ (l : Levels). l.repetition) ls i d ∙ g)

pub end_behind_all : (ls : List Levels) (i : ℕ) → length ls ≤ i → record_end (levels_of ls) i ≡ length ls
end_behind_all ls i h = end_behind (levels_of ls) i (omega (arith, h, length-map ls (λ (l : Levels). l.repetition))) ∙ length-map ls (λ (l : Levels). l.repetition)

-- ---- the sizes of values

abbrev size_of : Kind → List Triplet → ℕ
size_of k ts = length (plain_bytes k (column_values ts))

few_by : (v : Option Value) (vs : List Value) (n : ℕ) → length vs ≤ n → length (with_value v vs) ≤ suc n
few_by None vs n h = omega (arith, h)
few_by (Some v) vs n h = omega (arith, h)

pub values_few : (ts : List Triplet) → length (column_values ts) ≤ length ts
values_few [] = omega arith
values_few (t ∷ ts) = few_by t.value (column_values ts) (length ts) (values_few ts)

joined_small : (f : Value → List ℕ) → ((v : Value) → length (f v) ≤ 8) → (vs : List Value) → length (plain.joined f vs) ≤ 8 * length vs
joined_small f h [] = omega arith
joined_small f h (v ∷ vs) = omega (arith, h v, joined_small f h vs, length-append (f v) (plain.joined f vs))

number_small : (bits : ℕ) (v : Value) → bits / 8 ≤ 8 → length (plain_number_bytes bits v) ≤ 8
number_small bits (int_value z) h = omega (arith, h, length_little_endian (bits / 8) (complement bits z))
number_small bits (bool_value b) h = omega arith
number_small bits (text_value t) h = omega arith

abbrev pub is_text : Kind → Bool
is_text bool_kind = false
is_text int32_kind = false
is_text int64_kind = false
is_text text_kind = true

size_small : (k : Kind) (vs : List Value) → is_text k ≡ false → length (plain_bytes k vs) ≤ 8 * length vs
size_small bool_kind vs h = omega (arith, length_little_endian (bytes_for (length vs)) (packed 1 (map bit_of vs)))
size_small int32_kind vs h = joined_small (plain_number_bytes 32) (λ v. number_small 32 v (omega arith)) vs
size_small int64_kind vs h = joined_small (plain_number_bytes 64) (λ v. number_small 64 v (omega arith)) vs
size_small text_kind vs h = absurd (true≢false h)

size_by : (v : Option Value) (vs ws : List Value) (n : ℕ) → length (plain_bytes text_kind ws) ≡ length (plain_bytes text_kind vs) + n
    → length (plain_bytes text_kind (with_value v ws)) ≡ length (plain_bytes text_kind (with_value v vs)) + n
size_by None vs ws n h = h
size_by (Some v) vs ws n h = omega (arith, h, length-append (plain_text_bytes v) (plain.joined plain_text_bytes ws), length-append (plain_text_bytes v) (plain.joined plain_text_bytes vs))

size_append : (ts us : List Triplet) → size_of text_kind (ts ++ us) ≡ size_of text_kind ts + size_of text_kind us
size_append [] us = omega arith
size_append (t ∷ ts) us = size_by t.value (column_values ts) (column_values (ts ++ us)) (size_of text_kind us) (size_append ts us)

pub not_text : (k : kinds.Kind) → (k ≡ kinds.Kind.Bool) ⊎ ((k ≡ kinds.Kind.I32) ⊎ (k ≡ kinds.Kind.I64)) → is_text (kind_view k) ≡ false
not_text k (inl e) = ap (λ j. is_text (kind_view j)) e
not_text k (inr (inl e)) = ap (λ j. is_text (kind_view j)) e
not_text k (inr (inr e)) = ap (λ j. is_text (kind_view j)) e

-- ---- what is enough

-- so many of the first triplets are too few bytes
abbrev pub IsShort : Kind → List Triplet → ℕ → Type 0
IsShort k ts m = length (plain_bytes k (column_values (take m ts))) < 2 ^ 20

abbrev pub Fills : Kind → List Triplet → ℕ → Type 0
Fills k ts m = (4096 ≤ m) ⊎ (2 ^ 20 ≤ length (plain_bytes k (column_values (take m ts))))

full_when : (k : Kind) (ts : List Triplet) (m : ℕ) → m ≤ length ts → Fills k ts m → is_full k (take m ts) ≡ true
full_when k ts m h (inl a) = rw (le-leb 4096 (length (take m ts)) (omega (arith, a, length-take-le m ts h))) refl
full_when k ts m h (inr b) = rw (le-leb (2 ^ 20) (size_of k (take m ts)) b) (or-true (nat_le 4096 (length (take m ts))))

full_unless : (k : Kind) (ts : List Triplet) (m : ℕ) → m ≤ length ts → m < 4096 → IsShort k ts m → is_full k (take m ts) ≡ false
full_unless k ts m h a b = rw (lt-leb 4096 (length (take m ts)) (omega (arith, a, length-take-le m ts h)), lt-leb (2 ^ 20) (size_of k (take m ts)) b) refl

enough_by : (k : Kind) (ts : List Triplet) (n m : ℕ) (b : Bool) → nat_le n m ≡ b → m ≤ length ts → n ≤ 4096 → (m < n → IsShort k ts m) → (n ≤ m → Fills k ts m) → is_full k (take m ts) ≡ b
enough_by k ts n m true e h l f g = full_when k ts m h (g (leb-true n m e))
enough_by k ts n m false e h l f g = let d : m < n = leb-false n m e in full_unless k ts m h (omega (arith, d, l)) (f d)

pub enough_from : (k : Kind) (ts : List Triplet) (n : ℕ) → n ≤ 4096 → ((m : ℕ) → m < n → m ≤ length ts → IsShort k ts m) → ((m : ℕ) → n ≤ m → m ≤ length ts → Fills k ts m) → IsEnough k ts n
enough_from k ts n l f g m h = enough_by k ts n m (nat_le n m) refl h l (λ d. f m d h) (λ d. g m d h)

numbers_short : (k : Kind) (ts : List Triplet) (m : ℕ) → is_text k ≡ false → m < 4096 → m ≤ length ts → IsShort k ts m
numbers_short k ts m e d h = omega (arith, d, size_small k (column_values (take m ts)) e, values_few (take m ts), length-take-le m ts h)

pub enough_numbers : (k : Kind) (ts : List Triplet) → is_text k ≡ false → IsEnough k ts 4096
enough_numbers k ts e = enough_from k ts 4096 (omega arith) (λ m d h. numbers_short k ts m e d h) (λ m d h. inl d)

more_fill : (ts : List Triplet) (n m : ℕ) → n ≤ m → 2 ^ 20 ≤ size_of text_kind (take n ts) → 2 ^ 20 ≤ size_of text_kind (take m ts)
more_fill ts n m h e =
    let i : n + (m - n) ≡ m = omega (arith, h) in
    let a : take m ts ≡ take n ts ++ take (m - n) (drop n ts) = ap (λ (x : ℕ). take x ts) (sym i) ∙ take-add n (m - n) ts in
    omega (arith, e, ap (size_of text_kind) a, size_append (take n ts) (take (m - n) (drop n ts)))

-- so many texts fill a page, and fewer don't
pub enough_bytes_at : (ts : List Triplet) (n : ℕ) → n ≤ 4096 → ((m : ℕ) → m < n → IsShort text_kind ts m) → 2 ^ 20 ≤ length (plain_bytes text_kind (column_values (take n ts))) → IsEnough text_kind ts n
enough_bytes_at ts n l f e = enough_from text_kind ts n l (λ m d h. f m d) (λ m d h. inr (more_fill ts n m d e))

-- no texts fill a page before 4,096 do
pub enough_triplets_at : (ts : List Triplet) → ((m : ℕ) → m < 4096 → m ≤ length ts → IsShort text_kind ts m) → IsEnough text_kind ts 4096
enough_triplets_at ts f = enough_from text_kind ts 4096 (omega arith) f (λ m d h. inl d)

-- one more triplet
pub size_more : (ts : List Triplet) (n : ℕ) (t : Triplet) (us : List Triplet) → drop n ts ≡ t ∷ us → length (plain_bytes text_kind (column_values (take (n + 1) ts))) ≡ length (plain_bytes text_kind (column_values (take n ts))) + length (plain_bytes text_kind (with_value t.value []))
size_more ts n t us e = ap (size_of text_kind) (take-add n 1 ts ∙ ap (λ (vs : List Triplet). take n ts ++ take 1 vs) e) ∙ size_append (take n ts) (t ∷ [])

pub rest_more : (ts : List Triplet) (n : ℕ) (t : Triplet) (us : List Triplet) → drop n ts ≡ t ∷ us → us ≡ drop (n + 1) ts
rest_more ts n t us e = ap (drop 1) (sym e) ∙ drop-drop 1 n ts

by_last : (P : ℕ → Type 0) (n m : ℕ) → ((i : ℕ) → i < n → P i) → P n → m < n + 1 → (b : Bool) → (m == n) ≡ b → P m
by_last P n m f p h true e = subst P (sym (eqb-true m n e)) p
by_last P n m f p h false e = f m (omega (arith, h, λ (q : m ≡ n). true≢false (sym (eq-eqb m n q) ∙ e)))

pub short_more : (ts : List Triplet) (n : ℕ) → ((m : ℕ) → m < n → IsShort text_kind ts m) → IsShort text_kind ts n → (m : ℕ) → m < n + 1 → IsShort text_kind ts m
short_more ts n f p m h = by_last (IsShort text_kind ts) n m f p h (m == n) refl

none_left : (ts : List Triplet) (n : ℕ) → drop n ts ≡ [] → length ts ≤ n
none_left ts n e = omega (arith, length-drop n ts, ap length e)

-- all of them are too few
pub short_all : (ts : List Triplet) (n : ℕ) → drop n ts ≡ [] → ((m : ℕ) → m < n → IsShort text_kind ts m) → IsShort text_kind ts n → (m : ℕ) → m < 4096 → m ≤ length ts → IsShort text_kind ts m
short_all ts n e f p m h l = short_more ts n f p m (omega (arith, l, none_left ts n e))

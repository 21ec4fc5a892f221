-- Levels and values side by side: joined ends, fronts and rests.
use Rattle.std.specs.Prelude.{◌≡◌, ◌<◌, ◌≤◌, ℕ, zero, suc, ◌+◌, ◌-◌, List, [], ◌∷◌, ◌++◌, length, map, take, drop, Bool, true, false, ◌==◌, if◌then◌else◌, Option, Some, None}
use Rattle.std.proofs.Common.{refl, sym, ap, ap₂, ◌∙◌, arith, append-nil, length-append, add-one}
use Rattle.std.proofs.lemmas.List.{take-append-drop, length-take-le, take-map, drop-map}
use Rattle.dr_meaning.specs.Record.{Value}
use Rattle.dr_meaning.specs.Column.{Triplet, triplet}
use Rattle.dr_levels.specs.declared.triplet.Levels.{Levels}
use Rattle.std.specs.Prelude.{get_or, replicate, ◌≢◌, Result, Ok, Err}
use Rattle.std.proofs.Math.Seq.{take-suc}
use mir.Val.{bool_byte}
use Rattle.std.proofs.lemmas.Bool.Decides.{nat_tests}
use Rattle.dr_memory.specs.declared.NoMemory.{NoMemory}
use Rattle.dr_meaning.specs.Schema as tree
use Rattle.std.specs.Prelude.{◌^◌}
use Rattle.std.proofs.lemmas.List.{length-map}
use Rattle.dr_meaning.specs.Record.{bool_value, int_value, text_value}
use Rattle.dr_levels.specs.declared.text_place.TextPlace.{TextPlace}
use Rattle.dr_levels.specs.declared.values.Values.{Values}
use Rattle.dr_levels.specs.Texts.{bytes_at}
use Rattle.dr_levels.specs.Dense.{present, value_list, first_of, joined, values_view}
use Rattle.dr_levels.specs.Views.{LeafForm, levels_pair, triplet_levels}
use Rattle.dr_levels.specs.Columns.{Adds, has_value, takes}
use Rattle.dr_levels.specs.Lent.{present_values}

-- one place more, whichever it is
abbrev pub placed : Bool → Levels → ℕ → List Levels → List Value → List Triplet
placed b l g ls vs = if b then triplet l.repetition l.definition (first_of vs) ∷ joined g ls (drop 1 vs) else triplet l.repetition l.definition None ∷ joined g ls vs

abbrev counted : Bool → ℕ → ℕ
counted b n = if b then suc n else n

append_by : (b : Bool) (m n k : ℕ) → m ≡ n + k → counted b m ≡ counted b n + k
append_by true m n k e = omega (arith, e)
append_by false m n k e = e

pub present-append : (g : ℕ) (ls ms : List Levels) → present g (ls ++ ms) ≡ present g ls + present g ms
present-append g [] ms = let e : present g ms ≡ 0 + present g ms = omega arith in e
present-append g (l ∷ ls) ms = append_by (l.definition == g) (present g (ls ++ ms)) (present g ls) (present g ms) (present-append g ls ms)

pub counted_more : (g : ℕ) (ls : List Levels) (i : ℕ) (d : Levels) → i < length ls → present g (take (i + 1) ls) ≡ present g (take i ls) + present g (get_or ls i d ∷ [])
counted_more g ls i d h = ap (λ n. present g (take n ls)) (add-one i) ∙ ap (present g) (take-suc ls i d h) ∙ present-append g (take i ls) (get_or ls i d ∷ [])

length_by : (b : Bool) (l : Levels) (g : ℕ) (ls : List Levels) (vs : List Value) → ((us : List Value) → length (joined g ls us) ≡ length ls) → length (placed b l g ls vs) ≡ suc (length ls)
length_by true l g ls vs ih = ap suc (ih (drop 1 vs))
length_by false l g ls vs ih = ap suc (ih vs)

pub joined_length : (g : ℕ) (ls : List Levels) (vs : List Value) → length (joined g ls vs) ≡ length ls
joined_length g [] vs = refl
joined_length g (l ∷ ls) vs = length_by (l.definition == g) l g ls vs (joined_length g ls)

levels_by : (b : Bool) (l : Levels) (g : ℕ) (ls : List Levels) (vs : List Value) → ((us : List Value) → map levels_pair ls ≡ map triplet_levels (joined g ls us)) → levels_pair l ∷ map levels_pair ls ≡ map triplet_levels (placed b l g ls vs)
levels_by true l g ls vs ih = ap (λ ns. levels_pair l ∷ ns) (ih (drop 1 vs))
levels_by false l g ls vs ih = ap (λ ns. levels_pair l ∷ ns) (ih vs)

pub joined_levels : (g : ℕ) (ls : List Levels) (vs : List Value) → map levels_pair ls ≡ map triplet_levels (joined g ls vs)
joined_levels g [] vs = refl
joined_levels g (l ∷ ls) vs = levels_by (l.definition == g) l g ls vs (joined_levels g ls)

more_by : (b : Bool) (l : Levels) (g : ℕ) (ls : List Levels) (vs ws : List Value) → ((us : List Value) → present g ls ≤ length us → joined g ls (us ++ ws) ≡ joined g ls us) → counted b (present g ls) ≤ length vs
    → placed b l g ls (vs ++ ws) ≡ placed b l g ls vs
more_by true l g ls [] ws ih k = absurd (omega (arith, k))
more_by true l g ls (v ∷ vs) ws ih k = ap (λ ts. triplet l.repetition l.definition (Some v) ∷ ts) (ih vs (omega (arith, k)))
more_by false l g ls vs ws ih k = ap (λ ts. triplet l.repetition l.definition None ∷ ts) (ih vs k)

-- values behind the last one that is given to a place change nothing
pub joined-more : (g : ℕ) (ls : List Levels) (vs ws : List Value) → present g ls ≤ length vs → joined g ls (vs ++ ws) ≡ joined g ls vs
joined-more g [] vs ws h = refl
joined-more g (l ∷ ls) vs ws h = more_by (l.definition == g) l g ls vs ws (λ us. joined-more g ls us ws) h

abbrev no_values : List Value
no_values = []

drop_none : (k : ℕ) → drop k no_values ≡ no_values
drop_none zero = refl
drop_none (suc k) = refl

drop_next : (n : ℕ) (us : List Value) → drop n (drop 1 us) ≡ drop (suc n) us
drop_next n [] = drop_none n
drop_next n (u ∷ us) = refl

two_by : (b : Bool) (l : Levels) (g : ℕ) (ls ms : List Levels) (vs : List Value) → ((us : List Value) → joined g (ls ++ ms) us ≡ joined g ls us ++ joined g ms (drop (present g ls) us))
    → placed b l g (ls ++ ms) vs ≡ placed b l g ls vs ++ joined g ms (drop (counted b (present g ls)) vs)
two_by true l g ls ms vs ih = ap (λ ts. triplet l.repetition l.definition (first_of vs) ∷ ts) (ih (drop 1 vs) ∙ ap (λ ws. joined g ls (drop 1 vs) ++ joined g ms ws) (drop_next (present g ls) vs))
two_by false l g ls ms vs ih = ap (λ ts. triplet l.repetition l.definition None ∷ ts) (ih vs)

-- two stretches of levels: the second has the values behind those of the first
pub joined-append : (g : ℕ) (ls ms : List Levels) (vs : List Value) → joined g (ls ++ ms) vs ≡ joined g ls vs ++ joined g ms (drop (present g ls) vs)
joined-append g [] ms vs = refl
joined-append g (l ∷ ls) ms vs = two_by (l.definition == g) l g ls ms vs (joined-append g ls ms)

drop_behind : (n : ℕ) (vs ws : List Value) → n ≡ length vs → drop n (vs ++ ws) ≡ ws
drop_behind zero [] ws h = refl
drop_behind zero (v ∷ vs) ws h = absurd (omega (arith, h))
drop_behind (suc n) [] ws h = absurd (omega (arith, h))
drop_behind (suc n) (v ∷ vs) ws h = drop_behind n vs ws (omega (arith, h))

-- levels and values joined behind
pub joined-extended : (g : ℕ) (ls ms : List Levels) (vs ws : List Value) → present g ls ≡ length vs → joined g (ls ++ ms) (vs ++ ws) ≡ joined g ls vs ++ joined g ms ws
joined-extended g ls ms vs ws h =
    joined-append g ls ms (vs ++ ws) ∙ ap₂ (λ ts us. ts ++ joined g ms us) (joined-more g ls vs ws (omega (arith, h))) (drop_behind (present g ls) vs ws h)

taken_by : (b : Bool) (l : Levels) (g n : ℕ) (ls : List Levels) (vs : List Value) → ((us : List Value) → take n (joined g ls us) ≡ joined g (take n ls) us) → take (suc n) (placed b l g ls vs) ≡ placed b l g (take n ls) vs
taken_by true l g n ls vs ih = ap (λ ts. triplet l.repetition l.definition (first_of vs) ∷ ts) (ih (drop 1 vs))
taken_by false l g n ls vs ih = ap (λ ts. triplet l.repetition l.definition None ∷ ts) (ih vs)

pub joined-taken : (g n : ℕ) (ls : List Levels) (vs : List Value) → take n (joined g ls vs) ≡ joined g (take n ls) vs
joined-taken g zero ls vs = refl
joined-taken g (suc n) [] vs = refl
joined-taken g (suc n) (l ∷ ls) vs = taken_by (l.definition == g) l g n ls vs (joined-taken g n ls)

dropped_by : (b : Bool) (l : Levels) (g n : ℕ) (ls : List Levels) (vs : List Value) → ((us : List Value) → drop n (joined g ls us) ≡ joined g (drop n ls) (drop (present g (take n ls)) us))
    → drop (suc n) (placed b l g ls vs) ≡ joined g (drop n ls) (drop (counted b (present g (take n ls))) vs)
dropped_by true l g n ls vs ih = ih (drop 1 vs) ∙ ap (joined g (drop n ls)) (drop_next (present g (take n ls)) vs)
dropped_by false l g n ls vs ih = ih vs

pub joined-dropped : (g n : ℕ) (ls : List Levels) (vs : List Value) → drop n (joined g ls vs) ≡ joined g (drop n ls) (drop (present g (take n ls)) vs)
joined-dropped g zero ls vs = refl
joined-dropped g (suc n) [] vs = refl
joined-dropped g (suc n) (l ∷ ls) vs = dropped_by (l.definition == g) l g n ls vs (joined-dropped g n ls)

front_by : (b : Bool) (l : Levels) (g n : ℕ) (ls : List Levels) (vs : List Value) → ((m : ℕ) (us : List Value) → present g ls ≡ m → joined g ls (take m us) ≡ joined g ls us) → counted b (present g ls) ≡ n
    → placed b l g ls (take n vs) ≡ placed b l g ls vs
front_by true l g zero ls vs ih k = absurd (omega (arith, k))
front_by true l g (suc m) ls [] ih k = refl
front_by true l g (suc m) ls (v ∷ vs) ih k = ap (λ ts. triplet l.repetition l.definition (Some v) ∷ ts) (ih m vs (omega (arith, k)))
front_by false l g n ls vs ih k = ap (λ ts. triplet l.repetition l.definition None ∷ ts) (ih n vs k)

-- only the values of these places count
pub joined-front : (g n : ℕ) (ls : List Levels) (vs : List Value) → present g ls ≡ n → joined g ls (take n vs) ≡ joined g ls vs
joined-front g n [] vs h = refl
joined-front g n (l ∷ ls) vs h = front_by (l.definition == g) l g n ls vs (λ m us. joined-front g m ls us) h

pub present-taken : (g n : ℕ) (ls : List Levels) → present g (take n ls) ≤ present g ls
present-taken g n ls =
    let e : present g (take n ls ++ drop n ls) ≡ present g (take n ls) + present g (drop n ls) = present-append g (take n ls) (drop n ls) in
    let f : present g (take n ls ++ drop n ls) ≡ present g ls = ap (present g) (take-append-drop n ls) in
    omega (arith, e, f)

pub present-parts : (g n : ℕ) (ls : List Levels) → present g (take n ls) + present g (drop n ls) ≡ present g ls
present-parts g n ls = sym (present-append g (take n ls) (drop n ls)) ∙ ap (present g) (take-append-drop n ls)

pub truncated : (g n : ℕ) (ls : List Levels) (vs : List Value) → joined g (take n ls) (take (present g (take n ls)) vs) ≡ take n (joined g ls vs)
truncated g n ls vs = joined-front g (present g (take n ls)) (take n ls) vs refl ∙ sym (joined-taken g n ls vs)

pub still_dense : (g : ℕ) (ls ms : List Levels) (vs ws : List Value) → present g ls ≡ length vs → present g ms ≡ length ws → present g (ls ++ ms) ≡ length (vs ++ ws)
still_dense g ls ms vs ws h k = present-append g ls ms ∙ ap₂ (λ a b. a + b) h k ∙ sym (length-append vs ws)

-- ---- one triplet

abbrev levels_of : ℕ → ℕ → Levels
levels_of r d = record { repetition = r; definition = d }

-- where a leaf takes a triplet, it has a value just where a place has one
one_joined : (k : tree.Kind) (g r d : ℕ) (v : Option Value) (b : Bool) → has_value k b v ≡ true → placed b (levels_of r d) g [] (value_list v) ≡ triplet r d v ∷ []
one_joined k g r d (Some v) true e = refl
one_joined k g r d None false e = refl
one_joined k g r d None true e = absurd (cc)
one_joined k g r d (Some v) false e = absurd (cc)

one_counted : (k : tree.Kind) (v : Option Value) (b : Bool) → has_value k b v ≡ true → counted b 0 ≡ length (value_list v)
one_counted k (Some v) true e = refl
one_counted k None false e = refl
one_counted k None true e = absurd (cc)
one_counted k (Some v) false e = absurd (cc)

pub taken_joined : (f : LeafForm) (r d : ℕ) (v : Option Value) → takes f (triplet r d v) ≡ true → joined f.greatest (levels_of r d ∷ []) (value_list v) ≡ triplet r d v ∷ []
taken_joined f r d v e = one_joined f.kind f.greatest r d v (d == f.greatest) e

pub taken_counted : (f : LeafForm) (r d : ℕ) (v : Option Value) → takes f (triplet r d v) ≡ true → present f.greatest (levels_of r d ∷ []) ≡ length (value_list v)
taken_counted f r d v e = one_counted f.kind v (d == f.greatest) e

-- ---- NULLs

not_equal : (d g : ℕ) → d ≢ g → (d == g) ≡ false
not_equal d g h = grind (arith, nat_tests)

pub nulls_counted : (g r d n : ℕ) → d ≢ g → present g (replicate n (levels_of r d)) ≡ 0
nulls_counted g r d zero h = refl
nulls_counted g r d (suc n) h = ap (λ b. counted b (present g (replicate n (levels_of r d)))) (not_equal d g h) ∙ nulls_counted g r d n h

pub nulls_joined : (g r d n : ℕ) (vs : List Value) → d ≢ g → joined g (replicate n (levels_of r d)) vs ≡ replicate n (triplet r d None)
nulls_joined g r d zero vs h = refl
nulls_joined g r d (suc n) vs h = ap (λ b. placed b (levels_of r d) g (replicate n (levels_of r d)) vs) (not_equal d g h) ∙ ap (λ ts. triplet r d None ∷ ts) (nulls_joined g r d n vs h)

pub dense_after : (x : Result (Unit {0}) NoMemory) (g r d n : ℕ) (ls now : List Levels) (vs : List Value) → d ≢ g → Adds ls now (replicate n (levels_of r d)) x → present g ls ≡ length vs → present g now ≡ length vs
dense_after (Ok done) g r d n ls now vs h a e =
    let k : present g ls + 0 ≡ present g ls = omega arith in
    ap (present g) a ∙ present-append g ls (replicate n (levels_of r d)) ∙ ap (λ m. present g ls + m) (nulls_counted g r d n h) ∙ k ∙ e
dense_after (Err f) g r d n ls now vs h a e = ap (present g) a ∙ e

pub joined_after : (x : Result (Unit {0}) NoMemory) (g r d n : ℕ) (ls now : List Levels) (vs : List Value) → d ≢ g → Adds ls now (replicate n (levels_of r d)) x → present g ls ≡ length vs
    → Adds (joined g ls vs) (joined g now vs) (replicate n (triplet r d None)) x
joined_after (Ok done) g r d n ls now vs h a e =
    ap (λ ms. joined g ms vs) a ∙ joined-append g ls (replicate n (levels_of r d)) vs ∙ ap (λ ts. joined g ls vs ++ ts) (nulls_joined g r d n (drop (present g ls) vs) h)
joined_after (Err f) g r d n ls now vs h a e = ap (λ ms. joined g ms vs) a

-- levels without a value join others
pub dense_joined : (x : Result (Unit {0}) NoMemory) (g : ℕ) (ls now ms : List Levels) (vs : List Value) → present g ms ≡ 0 → Adds ls now ms x → present g ls ≡ length vs → present g now ≡ length vs
dense_joined (Ok done) g ls now ms vs n e d = ap (present g) e ∙ still_dense g ls ms vs [] d n ∙ ap length (append-nil vs)
dense_joined (Err w) g ls now ms vs n e d = ap (present g) e ∙ d

pub nulls_join : (x : Result (Unit {0}) NoMemory) (g : ℕ) (ls now ms : List Levels) (vs : List Value) → present g ms ≡ 0 → Adds ls now ms x → present g ls ≡ length vs
    → Adds (joined g ls vs) (joined g now vs) (joined g ms []) x
nulls_join (Ok done) g ls now ms vs n e d =
    ap₂ (joined g) e (sym (append-nil vs)) ∙ joined-extended g ls ms vs [] d
nulls_join (Err w) g ls now ms vs n e d = ap (λ (k : List Levels). joined g k vs) e

pub truncated_count : (g n : ℕ) (ls : List Levels) (vs : List Value) → present g ls ≡ length vs → present g (take n ls) ≡ length (take (present g (take n ls)) vs)
truncated_count g n ls vs h =
    let k : present g (take n ls) ≤ present g ls = present-taken g n ls in
    sym (length-take-le (present g (take n ls)) vs (omega (arith, k, h)))

-- ---- how many values there can be

pub values_small : (v : Values) → length (values_view v) < 2 ^ 63
values_small (Values.Bools v) = omega (arith, v.ok.0, v.ok.1, v.small, length-map v.items bool_value)
values_small (Values.Integers v) = omega (arith, v.ok.0, v.ok.1, v.small, length-map v.items int_value)
values_small (Values.Texts ts) = omega (arith, ts.places.ok.0, ts.places.ok.1, ts.places.small, length-map ts.places.items (λ (p : TextPlace). text_value (bytes_at ts.bytes.items p)))

-- ---- the values of a stretch

held_by : (b : Bool) (l : Levels) (g : ℕ) (ls : List Levels) (vs : List Value) → ((us : List Value) → present g ls ≤ length us → present_values (joined g ls us) ≡ take (present g ls) us) → counted b (present g ls) ≤ length vs
    → present_values (placed b l g ls vs) ≡ take (counted b (present g ls)) vs
held_by true l g ls [] ih h = absurd (omega (arith, h))
held_by true l g ls (v ∷ vs) ih h = ap (λ us. v ∷ us) (ih vs (omega (arith, h)))
held_by false l g ls vs ih h = ih vs h

-- the values that triplets have are the first so many
pub present-joined : (g : ℕ) (ls : List Levels) (vs : List Value) → present g ls ≤ length vs → present_values (joined g ls vs) ≡ take (present g ls) vs
present-joined g [] vs h = refl
present-joined g (l ∷ ls) vs h = held_by (l.definition == g) l g ls vs (λ us k. present-joined g ls us k) h

-- a stretch of items, seen
pub stretch_seen : {A : Type 0} (f : A → Value) (items whole : List A) (seen : List Value) (from count : ℕ) → whole ≡ items → seen ≡ map f items
    → map f (take (from + count - from) (drop from whole)) ≡ take count (drop from seen)
stretch_seen f items whole seen from count w h =
    let n : from + count - from ≡ count = omega arith in
    ap₂ (λ k xs. map f (take k (drop from xs))) n w ∙ sym (take-map f count (drop from items)) ∙ ap (take count) (sym (drop-map f from items) ∙ ap (drop from) (sym h))

byte_by : (b : Bool) → (bool_byte b ≡ (if b then suc zero else zero)) × ((if b then suc zero else zero) ≤ 1)
byte_by true = (refl, omega arith)
byte_by false = (refl, omega arith)

-- a place's value as a number: one, or none
pub value_byte : (g : ℕ) (l : Levels) → (bool_byte (l.definition == g) ≡ present g (l ∷ [])) × (present g (l ∷ []) ≤ 1)
value_byte g l = byte_by (l.definition == g)

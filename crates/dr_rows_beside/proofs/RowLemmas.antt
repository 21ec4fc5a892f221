-- Rows of columns side by side: one leaf after another is read on.
use Rattle.std.proofs.Common.{◌≡◌, ℕ, zero, suc, ◌+◌, ◌-◌, ◌<◌, ◌≤◌, List, [], ◌∷◌, ◌++◌, map, length, take, drop, get_or, Bool, true, false, ◌&&◌, Option, Some, None, refl, sym, ap, ap₂, ◌∙◌, subst, arith, add-one}
use Rattle.std.specs.Prelude.{◌||◌, not, nat_le, nat_lt, if◌then◌else◌, option_map, slice_set, replicate}
use Rattle.std.specs.List.{list_all}
use Rattle.std.proofs.Math.Seq.{take-append_seam, take-suc}
use Rattle.std.proofs.lemmas.List.{map-append}
use Rattle.std.proofs.lemmas.Bool.{and_parts, and_from, le-leb, leb-true}
use Rattle.dr_meaning.specs.Record.{Value}
use Rattle.dr_meaning.specs.Column.{Triplet}
use Rattle.dr_levels.specs.Views.{lent_value}
use Rattle.dr_levels.specs.declared.triplet.ValueRef.{ValueRef}
use Rattle.dr_beside.specs.Along.{value_next, rest_next}
use Rattle.dr_beside.specs.Feeding.{goes}
use Rattle.dr_rows_beside.specs.declared.place.Place.{Place}
use Rattle.dr_rows_beside.specs.declared.source.Beside.{Beside}
use Rattle.dr_rows_beside.specs.Places.{Passes, LevelsAt}
use Rattle.dr_rows_beside.specs.Rows.{Follower, stepped, slot_at, put_next, put_each, is_fed, can_step, run, follower_view, source_view, slots_view}

-- ---- slots

pub set_seen : (vs : List (Option ValueRef)) (k : ℕ) (v : Option ValueRef) → slots_view (slice_set vs k v) ≡ slice_set (slots_view vs) k (option_map lent_value v)
set_seen [] k v = refl
set_seen (w ∷ vs) zero v = refl
set_seen (w ∷ vs) (suc k) v = ap (λ (us : List (Option Value)). option_map lent_value w ∷ us) (set_seen vs k v)

value_of_first : (now : Option Value) (ts us : List Triplet) (t : Triplet) → ts ≡ t ∷ us → value_next now ts ≡ t.value
value_of_first now ts us t e = ap (value_next now) e

pub followed : (r d leaf same : ℕ) (before after : List Triplet) (v : Option ValueRef) (slots : List (Option ValueRef)) → r ≤ d → same ≡ leaf → Passes before after v
    → slots_view (slice_set slots same v) ≡ put_next r (record { leaf = leaf; depth = d; left = before }) (slots_view slots)
followed r d leaf same before after v slots l e p =
    set_seen slots same v
    ∙ ap₂ (λ (k : ℕ) (x : Option Value). slice_set (slots_view slots) k x) e (sym p.2 ∙ sym (value_of_first (slot_at (slots_view slots) leaf) before after p.0 p.1))
    ∙ sym (rw (le-leb r d l) refl)

-- ---- the first so many of some leaves are read on

abbrev pub stepped_to : ℕ → ℕ → List Follower → List Follower
stepped_to r zero fs = fs
stepped_to r (suc i) [] = []
stepped_to r (suc i) (f ∷ fs) = stepped r f ∷ stepped_to r i fs

pub stepped_all : (r : ℕ) (fs : List Follower) → stepped_to r (length fs) fs ≡ map (stepped r) fs
stepped_all r [] = refl
stepped_all r (f ∷ fs) = ap (λ (gs : List Follower). stepped r f ∷ gs) (stepped_all r fs)

-- the place of this number is the next one, and is set to what it steps to
pub one_stepped : (r i : ℕ) (fs : List Follower) (now : List Place) (x y : Place) → i < length now → x ≡ get_or now i x → map follower_view now ≡ stepped_to r i fs → follower_view y ≡ stepped r (follower_view x)
    → map follower_view (slice_set now i y) ≡ stepped_to r (suc i) fs
one_stepped r i fs [] x y h g m e = absurd (omega (arith, h))
one_stepped r zero [] (p ∷ now) x y h g m e = absurd (cc)
one_stepped r zero (f ∷ fs) (p ∷ now) x y h g m e =
    let a : follower_view p ≡ f = cc in
    let b : map follower_view now ≡ fs = cc in
    ap₂ (λ (k : Follower) (ks : List Follower). k ∷ ks) (e ∙ ap (stepped r) (ap follower_view g ∙ a)) b
one_stepped r (suc i) [] (p ∷ now) x y h g m e = absurd (cc)
one_stepped r (suc i) (f ∷ fs) (p ∷ now) x y h g m e =
    let a : follower_view p ≡ stepped r f = cc in
    let b : map follower_view now ≡ stepped_to r i fs = cc in
    ap₂ (λ (k : Follower) (ks : List Follower). k ∷ ks) a (one_stepped r i fs now x y (omega (arith, h)) g b e)

-- it is still as it was
pub not_yet : (r i : ℕ) (fs : List Follower) (now : List Place) (x : Place) (f : Follower) → i < length now → x ≡ get_or now i x → map follower_view now ≡ stepped_to r i fs → follower_view x ≡ get_or fs i f
not_yet r i fs [] x f h g m = absurd (omega (arith, h))
not_yet r zero [] (p ∷ now) x f h g m = absurd (cc)
not_yet r zero (k ∷ fs) (p ∷ now) x f h g m = let a : follower_view p ≡ k = cc in ap follower_view g ∙ a
not_yet r (suc i) [] (p ∷ now) x f h g m = absurd (cc)
not_yet r (suc i) (k ∷ fs) (p ∷ now) x f h g m = let b : map follower_view now ≡ stepped_to r i fs = cc in not_yet r i fs now x f (omega (arith, h)) g b

pub length_stepped : (r i : ℕ) (fs : List Follower) → length (stepped_to r i fs) ≡ length fs
length_stepped r zero fs = refl
length_stepped r (suc i) [] = refl
length_stepped r (suc i) (f ∷ fs) = ap suc (length_stepped r i fs)

pub one_put : (r i : ℕ) (fs : List Follower) (vs : List (Option Value)) (d : Follower) → i < length fs → put_each r (take (suc i) fs) vs ≡ put_next r (get_or fs i d) (put_each r (take i fs) vs)
one_put r i [] vs d h = absurd (omega (arith, h))
one_put r zero (f ∷ fs) vs d h = refl
one_put r (suc i) (f ∷ fs) vs d h = one_put r i fs (put_next r f vs) d (omega (arith, h))

pub test_at : (test : Follower → Bool) (fs : List Follower) (i : ℕ) (d : Follower) → i < length fs → list_all test fs ≡ true → test (get_or fs i d) ≡ true
test_at test [] i d h e = absurd (omega (arith, h))
test_at test (f ∷ fs) zero d h e = (and_parts _ _ e).0
test_at test (f ∷ fs) (suc i) d h e = test_at test fs i d (omega (arith, h)) (and_parts _ _ e).1

-- ---- what is fed can be read on, and is fed then

fed_parts : (ts : List Triplet) (n : ℕ) (f : Follower) → is_fed ts n f ≡ true → (f.leaf < n) × (goes f.depth ts ≤ length f.left)
fed_parts ts n f h = let k : (nat_lt f.leaf n ≡ true) × (nat_le (goes f.depth ts) (length f.left) ≡ true) = and_parts _ _ h in (omega (arith, leb-true _ _ k.0), leb-true _ _ k.1)

step_by : (b : Bool) (r n g k : ℕ) (x : Bool) → x ≡ true → (if b then 1 else 0) + g ≤ k → (x && (not b || nat_lt 0 k)) ≡ true
step_by true r n g k x e h = and_from _ _ e (le-leb 1 k (omega (arith, h)))
step_by false r n g k x e h = and_from _ _ e refl

fed_steps : (t : Triplet) (ts : List Triplet) (n : ℕ) (f : Follower) → is_fed (t ∷ ts) n f ≡ true → can_step t.repetition n f ≡ true
fed_steps t ts n f h = step_by (nat_le t.repetition f.depth) t.repetition n (goes f.depth ts) (length f.left) (nat_lt f.leaf n) (and_parts _ _ h).0 (fed_parts (t ∷ ts) n f h).1

pub all_step : (t : Triplet) (ts : List Triplet) (n : ℕ) (fs : List Follower) → list_all (is_fed (t ∷ ts) n) fs ≡ true → list_all (can_step t.repetition n) fs ≡ true
all_step t ts n [] h = refl
all_step t ts n (f ∷ fs) h = let k : (is_fed (t ∷ ts) n f ≡ true) × (list_all (is_fed (t ∷ ts) n) fs ≡ true) = and_parts _ _ h in and_from _ _ (fed_steps t ts n f k.0) (all_step t ts n fs k.1)

less_rest : (n : ℕ) (us : List Triplet) → 1 + n ≤ length us → n ≤ length (rest_next us)
less_rest n [] h = absurd (omega (arith, h))
less_rest n (u ∷ us) h = omega (arith, h)

fed_by : (b : Bool) (ts : List Triplet) (n : ℕ) (f : Follower) → f.leaf < n → (if b then 1 else 0) + goes f.depth ts ≤ length f.left
    → is_fed ts n (if b then record { leaf = f.leaf; depth = f.depth; left = rest_next f.left } else f) ≡ true
fed_by true ts n f l h = and_from _ _ (le-leb (suc f.leaf) n (omega (arith, l))) (le-leb _ _ (less_rest (goes f.depth ts) f.left h))
fed_by false ts n f l h = and_from _ _ (le-leb (suc f.leaf) n (omega (arith, l))) (le-leb _ _ (omega (arith, h)))

pub still_fed : (t : Triplet) (ts : List Triplet) (n : ℕ) (fs : List Follower) → list_all (is_fed (t ∷ ts) n) fs ≡ true → list_all (is_fed ts n) (map (stepped t.repetition) fs) ≡ true
still_fed t ts n [] h = refl
still_fed t ts n (f ∷ fs) h =
    let k : (is_fed (t ∷ ts) n f ≡ true) × (list_all (is_fed (t ∷ ts) n) fs ≡ true) = and_parts _ _ h in
    let p : (f.leaf < n) × (goes f.depth (t ∷ ts) ≤ length f.left) = fed_parts (t ∷ ts) n f k.0 in
    and_from _ _ (fed_by (nat_le t.repetition f.depth) ts n f p.0 p.1) (still_fed t ts n fs k.1)

-- ---- the next row

pub kept_items : {A : Type 0} (n : ℕ) (new old : List A) → n ≡ length old → length new ≡ length old → take n (new ++ drop (length new) old) ≡ new
kept_items n new old h e = ap (λ (k : ℕ). take k (new ++ drop (length new) old)) (h ∙ sym e) ∙ take-append_seam new (drop (length new) old)

pub level_is : (r : ℕ) (ts us : List Triplet) (t : Triplet) → LevelsAt (Some r) ts → ts ≡ t ∷ us → r ≡ t.repetition
level_is r ts us t h e = let k : LevelsAt (Some r) (t ∷ us) = subst (LevelsAt (Some r)) e h in cc

pub row_passed : (leaf same r : ℕ) (F G : List Follower) (V W : List (Option Value)) (ts us : List Triplet) (t : Triplet) → ts ≡ t ∷ us → r ≡ t.repetition → same ≡ leaf → G ≡ map (stepped r) F → W ≡ put_each r F (slice_set V leaf t.value)
    → run leaf F V ts ≡ record { repetition = r; slots = W } ∷ run same G W us
row_passed leaf same r F G V W ts us t e l s f w =
    ap (run leaf F V) e
    ∙ subst (λ (k : ℕ). run leaf F V (t ∷ us) ≡ record { repetition = k; slots = put_each k F (slice_set V leaf t.value) } ∷ run leaf (map (stepped k) F) (put_each k F (slice_set V leaf t.value)) us) (sym l) refl
    ∙ ap₂ (λ (gs : List Follower) (vs : List (Option Value)). record { repetition = r; slots = vs } ∷ run leaf gs vs us) (sym f) (sym w)
    ∙ ap (λ (k : ℕ). record { repetition = r; slots = W } ∷ run k G W us) (sym s)

pub fed_on : (r n m : ℕ) (F G : List Follower) (ts us : List Triplet) (t : Triplet) → ts ≡ t ∷ us → r ≡ t.repetition → n ≡ m → G ≡ map (stepped r) F → list_all (is_fed ts n) F ≡ true → list_all (is_fed us m) G ≡ true
fed_on r n m F G ts us t e l k f h =
    ap₂ (λ (j : ℕ) (gs : List Follower). list_all (is_fed us j) gs) (sym k) f
    ∙ ap (λ (i : ℕ). list_all (is_fed us n) (map (stepped i) F)) l
    ∙ still_fed t us n F (subst (λ (xs : List Triplet). list_all (is_fed xs n) F ≡ true) e h)

pub steps_now : (r n m : ℕ) (F G : List Follower) (ts us : List Triplet) (t : Triplet) → ts ≡ t ∷ us → r ≡ t.repetition → n ≡ m → G ≡ F → list_all (is_fed ts n) F ≡ true → list_all (can_step r m) G ≡ true
steps_now r n m F G ts us t e l k f h =
    ap₂ (λ (j : ℕ) (gs : List Follower). list_all (can_step r j) gs) (sym k) f
    ∙ ap (λ (i : ℕ). list_all (can_step i n) F) l
    ∙ all_step t us n F (subst (λ (xs : List Triplet). list_all (is_fed xs n) F ≡ true) e h)

-- ---- before the first row

pub source_more : (C : List (List Triplet)) (bs : List Beside) (i : ℕ) (d : Beside) → i < length bs → map (source_view C) (take (i + 1) bs) ≡ map (source_view C) (take i bs) ++ source_view C (get_or bs i d) ∷ []
source_more C bs i d h = ap (λ (n : ℕ). map (source_view C) (take n bs)) (add-one i) ∙ ap (map (source_view C)) (take-suc bs i d h) ∙ map-append (source_view C) (take i bs) (get_or bs i d ∷ [])

pub source_fed : (C : List (List Triplet)) (ts : List Triplet) (n : ℕ) (bs : List Beside) (i : ℕ) (d : Beside) → i < length bs → list_all (is_fed ts n) (map (source_view C) bs) ≡ true → (get_or bs i d).leaf < n
source_fed C ts n [] i d h e = absurd (omega (arith, h))
source_fed C ts n (b ∷ bs) zero d h e = (fed_parts ts n (source_view C b) (and_parts _ _ e).0).0
source_fed C ts n (b ∷ bs) (suc i) d h e = source_fed C ts n bs i d (omega (arith, h)) (and_parts _ _ e).1

pub none_seen : (n : ℕ) → slots_view (replicate n None) ≡ replicate n None
none_seen zero = refl
none_seen (suc n) = ap (λ (vs : List (Option Value)). None ∷ vs) (none_seen n)

take_none : (n : ℕ) (xs : List (Option ValueRef)) → xs ≡ [] → take n xs ≡ []
take_none zero xs h = refl
take_none (suc n) xs h = ap (take (suc n)) h

pub resized : (n k : ℕ) (xs items : List (Option ValueRef)) → items ≡ take n xs ++ replicate (n - k) None → xs ≡ [] → k ≡ 0 → slots_view items ≡ replicate n None
resized n k xs items e h z =
    let m : n - k ≡ n = omega (arith, z) in
    ap slots_view (e ∙ ap₂ (λ (ys : List (Option ValueRef)) (j : ℕ). ys ++ replicate j None) (take_none n xs h) m) ∙ none_seen n

pub same_run : (leaf same : ℕ) (F G : List Follower) (V W : List (Option Value)) (ts us : List Triplet) → leaf ≡ same → F ≡ G → V ≡ W → ts ≡ us → run leaf F V ts ≡ run same G W us
same_run leaf same F G V W ts us a b c d =
    ap (λ (k : ℕ). run k F V ts) a ∙ ap (λ (k : List Follower). run same k V ts) b ∙ ap (λ (k : List (Option Value)). run same G k ts) c ∙ ap (λ (k : List Triplet). run same G W k) d

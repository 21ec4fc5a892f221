-- For which items a value is taken at a leaf.
use Rattle.std.proofs.Common.{◌≡◌, ◌<◌, ◌≤◌, ◌≢◌, ◌+◌, ℕ, suc, List, [], ◌∷◌, ◌++◌, length, get_or, set, replicate, Bool, true, false, Option, Some, refl, sym, ap, ap₂, subst, ◌∙◌, arith, append-nil, ⊎_elim}
use Rattle.std.specs.Prelude.{if◌then◌else◌}
use Rattle.std.specs.declared.vec.Vec.{Vec}
use Rattle.std.specs.declared.alloc.Global.{Global}
use Rattle.std.proofs.lemmas.Bool.{cases_eq}
use Rattle.std.proofs.lemmas.List.{length-map, get_or-replicate, get_or-map, get_or-set_same, get_or-set_other, map-set}
use Rattle.dr_plan.specs.declared.plan.RecordItem.{RecordItem}
use Rattle.dr_within.specs.Takings.{same_leaf}
use Rattle.dr_within.specs.ItemFirings.{taken_at, places_taken, each_places}
use Rattle.dr_within.proofs.FiringLemmas.{other_leaf, this_leaf}

abbrev one_if : Bool → ℕ → List ℕ
one_if b n = if b then n ∷ [] else []

abbrev one_before : Bool → ℕ → List ℕ → List ℕ
one_before b j ks = if b then j ∷ ks else ks

taken_if : (b : Bool) (j : ℕ) (xs ys : List ℕ) →
    ◌≡◌ {A = List ℕ} (if b then j ∷ (xs ++ ys) else xs ++ ys) ((if b then j ∷ xs else xs) ++ ys)
taken_if true j xs ys = refl
taken_if false j xs ys = refl

-- of one item more
taken_more : (j : ℕ) (items : List RecordItem) (i : RecordItem) (k : ℕ)
    → places_taken j (items ++ i ∷ []) k ≡ places_taken j items k ++ one_if (same_leaf (taken_at i) (Some k)) (j + length items)
taken_more j [] i k = let e : j + 0 ≡ j = omega arith in ap (one_if (same_leaf (taken_at i) (Some k))) (sym e)
taken_more j (x ∷ items) i k =
    let e : suc j + length items ≡ j + suc (length items) = omega arith in
    let more : ℕ → List ℕ = one_if (same_leaf (taken_at i) (Some k)) in
    ap (one_before (same_leaf (taken_at x) (Some k)) j) (taken_more (suc j) items i k ∙ ap (λ (n : ℕ). places_taken (suc j) items k ++ more n) e)
    ∙ taken_if (same_leaf (taken_at x) (Some k)) j (places_taken (suc j) items k) (more (j + length (x ∷ items)))

pub taken_there : (items : List RecordItem) (i : RecordItem) (k place : ℕ) → taken_at i ≡ Some k → place ≡ length items
    → places_taken 0 (items ++ i ∷ []) k ≡ places_taken 0 items k ++ place ∷ []
taken_there items i k place e p =
    let n : 0 + length items ≡ place = omega (arith, p) in
    taken_more 0 items i k
    ∙ ap₂ (λ (b : Bool) (m : ℕ). places_taken 0 items k ++ one_if b m) (ap (λ (o : Option ℕ). same_leaf o (Some k)) e ∙ this_leaf k) n

pub taken_elsewhere : (items : List RecordItem) (i : RecordItem) (k : ℕ) → same_leaf (taken_at i) (Some k) ≡ false
    → places_taken 0 (items ++ i ∷ []) k ≡ places_taken 0 items k
taken_elsewhere items i k e =
    taken_more 0 items i k ∙ (ap (λ (b : Bool). places_taken 0 items k ++ one_if b (0 + length items)) e ∙ append-nil (places_taken 0 items k))

-- ---- of no items

pub nothing_taken : (vs : List (Vec ℕ Global)) (n k : ℕ) → each_places vs ≡ replicate n [] → k < n → get_or (each_places vs) k [] ≡ []
nothing_taken vs n k e h = ap (λ (xs : List (List ℕ)). get_or xs k []) e ∙ get_or-replicate n k [] [] h

-- ---- one more, at the leaf at which a value is taken for it

places_other : (vs : List (Vec ℕ Global)) (k : ℕ) (v : Vec ℕ Global) (i : ℕ) → i ≢ k → get_or (each_places (set vs k v)) i [] ≡ get_or (each_places vs) i []
places_other vs k v i h =
    ap (λ (xs : List (List ℕ)). get_or xs i []) (map-set (λ (w : Vec ℕ Global). w.items) vs k v) ∙ get_or-set_other (each_places vs) k i v.items [] h

places_same : (vs : List (Vec ℕ Global)) (k : ℕ) (v : Vec ℕ Global) → k < length vs → get_or (each_places (set vs k v)) k [] ≡ v.items
places_same vs k v h =
    let there : k < length (each_places vs) = omega (arith, length-map vs (λ (w : Vec ℕ Global). w.items)) in
    ap (λ (xs : List (List ℕ)). get_or xs k []) (map-set (λ (w : Vec ℕ Global). w.items) vs k v) ∙ get_or-set_same (each_places vs) k v.items [] there

places_here : (vs : List (Vec ℕ Global)) (k : ℕ) (v : Vec ℕ Global) → k < length vs → v ≡ get_or vs k v → get_or (each_places vs) k [] ≡ v.items
places_here vs k v h e = get_or-map (λ (w : Vec ℕ Global). w.items) vs k v [] h ∙ ap (λ (w : Vec ℕ Global). w.items) (sym e)

pub add_place : (items : List RecordItem) (i : RecordItem) (vs : List (Vec ℕ Global)) (k place : ℕ) (v w : Vec ℕ Global)
    → k < length vs → v ≡ get_or vs k v → w.items ≡ v.items ++ place ∷ [] → taken_at i ≡ Some k → place ≡ length items
    → ((j : ℕ) → j < length vs → get_or (each_places vs) j [] ≡ places_taken 0 items j)
    → (j : ℕ) → j < length vs → get_or (each_places (set vs k w)) j [] ≡ places_taken 0 (items ++ i ∷ []) j
add_place items i vs k place v w h e more at is f j l =
    ⊎_elim
    (λ (same : j ≡ k). subst (λ (n : ℕ). get_or (each_places (set vs k w)) n [] ≡ places_taken 0 (items ++ i ∷ []) n) (sym same)
    (places_same vs k w h ∙ (more ∙ (ap (λ (xs : List ℕ). xs ++ place ∷ []) (sym (places_here vs k v h e) ∙ f k h) ∙ sym (taken_there items i k place at is)))))
    (λ (other : j ≢ k).
    let apart : k ≢ j = λ x. other (sym x) in
    places_other vs k w j other ∙ (f j l ∙ sym (taken_elsewhere items i j (ap (λ (o : Option ℕ). same_leaf o (Some j)) at ∙ other_leaf k j apart))))
    (cases_eq j k)

-- at a leaf that isn't there
pub add_nowhere : (items : List RecordItem) (i : RecordItem) (k n : ℕ) → n ≤ k → taken_at i ≡ Some k → (j : ℕ) → j < n
    → places_taken 0 items j ≡ places_taken 0 (items ++ i ∷ []) j
add_nowhere items i k n h at j l =
    let apart : k ≢ j = omega arith in
    sym (taken_elsewhere items i j (ap (λ (o : Option ℕ). same_leaf o (Some j)) at ∙ other_leaf k j apart))

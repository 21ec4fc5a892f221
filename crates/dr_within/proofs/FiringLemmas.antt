-- Which of some takings fire at a leaf.
use Rattle.std.proofs.Common.{◌≡◌, ◌<◌, ◌≤◌, ◌≢◌, ◌+◌, ℕ, suc, List, [], ◌∷◌, ◌++◌, length, take, get_or, set, replicate, Bool, true, false, Option, Some, refl, sym, ap, ap₂, subst, ◌∙◌, arith, append-nil, ⊎_elim}
use Rattle.std.specs.Prelude.{if◌then◌else◌}
use Rattle.std.specs.declared.vec.Vec.{Vec}
use Rattle.std.specs.declared.alloc.Global.{Global}
use Rattle.std.proofs.lemmas.Bool.{eq-eqb, ne_eqb, cases_eq}
use Rattle.std.proofs.lemmas.List.{take_more, map_push, length-map, length-take-le, get_or-replicate, get_or-map, get_or-set_same, get_or-set_other, map-set}
use Rattle.dr_plan.specs.declared.aggregate.Aggregate.{Aggregate}
use Rattle.dr_scalar.specs.Leaves.{greater, greatest}
use Rattle.dr_scalar.proofs.LastLemmas.{greatest_append}
use Rattle.dr_within.specs.Takings.{Take, taking_view, takings_view, fires_at, same_leaf, firing_at, taking_of, aggregate_takings}
use Rattle.dr_within.specs.Firings.{each_view}
use Rattle.dr_within.specs.declared.taking.Taking.{Taking}

-- of the leaves up to one and of this one
pub greatest_more : (ks : List ℕ) (i : ℕ) → i < length ks → greatest (take (i + 1) ks) ≡ greater (greatest (take i ks)) (Some (get_or ks i 0))
greatest_more ks i h = ap greatest (take_more ks i 0 h) ∙ greatest_append (take i ks) (get_or ks i 0 ∷ [])

firing_if : (b : Bool) (t : Take) (xs ys : List Take) →
    ◌≡◌ {A = List Take} (if b then t ∷ (xs ++ ys) else xs ++ ys) ((if b then t ∷ xs else xs) ++ ys)
firing_if true t xs ys = refl
firing_if false t xs ys = refl

-- of these and of others
pub firing_append : (keys : List ℕ) (o : Option ℕ) (ts us : List Take) → firing_at keys o (ts ++ us) ≡ firing_at keys o ts ++ firing_at keys o us
firing_append keys o [] us = refl
firing_append keys o (t ∷ ts) us =
    ap (λ (xs : List Take). if same_leaf (fires_at keys t) o then t ∷ xs else xs) (firing_append keys o ts us)
    ∙ firing_if (same_leaf (fires_at keys t) o) t (firing_at keys o ts) (firing_at keys o us)

-- one more that fires there
pub fires_there : (keys : List ℕ) (o : Option ℕ) (ts : List Take) (t : Take) → same_leaf (fires_at keys t) o ≡ true
    → firing_at keys o (ts ++ t ∷ []) ≡ firing_at keys o ts ++ t ∷ []
fires_there keys o ts t e =
    firing_append keys o ts (t ∷ []) ∙ ap (λ (b : Bool). firing_at keys o ts ++ (if b then t ∷ [] else [])) e

-- one more that fires elsewhere
pub fires_elsewhere : (keys : List ℕ) (o : Option ℕ) (ts : List Take) (t : Take) → same_leaf (fires_at keys t) o ≡ false
    → firing_at keys o (ts ++ t ∷ []) ≡ firing_at keys o ts
fires_elsewhere keys o ts t e =
    firing_append keys o ts (t ∷ []) ∙ (ap (λ (b : Bool). firing_at keys o ts ++ (if b then t ∷ [] else [])) e ∙ append-nil (firing_at keys o ts))

-- a leaf is no other
pub other_leaf : (i j : ℕ) → i ≢ j → same_leaf (Some i) (Some j) ≡ false
other_leaf i j h = ne_eqb i j h

pub this_leaf : (i : ℕ) → same_leaf (Some i) (Some i) ≡ true
this_leaf i = eq-eqb i i refl

-- ---- of aggregates

pub takings_push : (k : ℕ) (A : List Aggregate) (a : Aggregate)
    → aggregate_takings k (A ++ a ∷ []) ≡ aggregate_takings k A ++ taking_of (k + length A) a ∷ []
takings_push k [] a = ap (λ (i : ℕ). taking_of i a ∷ []) (omega arith)
takings_push k (b ∷ A) a =
    let e : suc k + length A ≡ k + suc (length A) = omega arith in
    ap (λ (ts : List Take). taking_of k b ∷ ts) (takings_push (suc k) A a ∙ ap (λ (i : ℕ). aggregate_takings (suc k) A ++ taking_of i a ∷ []) e)

pub takings_more : (A : List Aggregate) (i : ℕ) (a : Aggregate) → i < length A → a ≡ get_or A i a
    → aggregate_takings 0 (take i A) ++ taking_of i a ∷ [] ≡ aggregate_takings 0 (take (i + 1) A)
takings_more A i a h e =
    let l : 0 + length (take i A) ≡ i = omega (arith, length-take-le i A (omega arith)) in
    sym (ap (aggregate_takings 0) (take_more A i a h ∙ ap (λ (b : Aggregate). take i A ++ b ∷ []) (sym e)) ∙ (takings_push 0 (take i A) a
    ∙ ap (λ (k : ℕ). aggregate_takings 0 (take i A) ++ taking_of k a ∷ []) l))

-- ---- of no takings

pub none_at : (vs : List (Vec Taking Global)) (n i : ℕ) → each_view vs ≡ replicate n [] → i < n → get_or (each_view vs) i [] ≡ []
none_at vs n i e h = ap (λ (xs : List (List Take)). get_or xs i []) e ∙ get_or-replicate n i [] [] h

-- ---- one more, at the leaf at which it fires

each_set : (vs : List (Vec Taking Global)) (k : ℕ) (v : Vec Taking Global) (i : ℕ) → i ≢ k
    → get_or (each_view (set vs k v)) i [] ≡ get_or (each_view vs) i []
each_set vs k v i h =
    ap (λ (xs : List (List Take)). get_or xs i []) (map-set (λ (w : Vec Taking Global). takings_view w.items) vs k v)
    ∙ get_or-set_other (each_view vs) k i (takings_view v.items) [] h

each_same : (vs : List (Vec Taking Global)) (k : ℕ) (v : Vec Taking Global) → k < length vs
    → get_or (each_view (set vs k v)) k [] ≡ takings_view v.items
each_same vs k v h =
    let there : k < length (each_view vs) = omega (arith, length-map vs (λ (w : Vec Taking Global). takings_view w.items)) in
    ap (λ (xs : List (List Take)). get_or xs k []) (map-set (λ (w : Vec Taking Global). takings_view w.items) vs k v)
    ∙ get_or-set_same (each_view vs) k (takings_view v.items) [] there

each_here : (vs : List (Vec Taking Global)) (k : ℕ) (v : Vec Taking Global) → k < length vs → v ≡ get_or vs k v
    → get_or (each_view vs) k [] ≡ takings_view v.items
each_here vs k v h e =
    get_or-map (λ (w : Vec Taking Global). takings_view w.items) vs k v [] h
    ∙ ap (λ (w : Vec Taking Global). takings_view w.items) (sym e)

pub add_at : (keys : List ℕ) (ts : List Take) (t : Take) (vs : List (Vec Taking Global)) (k : ℕ) (v w : Vec Taking Global) (u : Taking)
    → k < length vs → v ≡ get_or vs k v → w.items ≡ v.items ++ u ∷ [] → fires_at keys t ≡ Some k → taking_view u ≡ t
    → ((i : ℕ) → i < length vs → get_or (each_view vs) i [] ≡ firing_at keys (Some i) ts)
    → (i : ℕ) → i < length vs → get_or (each_view (set vs k w)) i [] ≡ firing_at keys (Some i) (ts ++ t ∷ [])
add_at keys ts t vs k v w u h e more at is f i l =
    ⊎_elim
    (λ (same : i ≡ k). subst (λ (j : ℕ). get_or (each_view (set vs k w)) j [] ≡ firing_at keys (Some j) (ts ++ t ∷ [])) (sym same)
    (each_same vs k w h ∙ (ap takings_view more ∙ (map_push taking_view v.items u
    ∙ (ap₂ (λ (xs : List Take) (x : Take). xs ++ x ∷ []) (sym (each_here vs k v h e) ∙ f k h) is
    ∙ sym (fires_there keys (Some k) ts t (ap (λ (o : Option ℕ). same_leaf o (Some k)) at ∙ this_leaf k)))))))
    (λ (other : i ≢ k).
    let apart : k ≢ i = λ x. other (sym x) in
    each_set vs k w i other ∙ (f i l ∙ sym (fires_elsewhere keys (Some i) ts t (ap (λ (o : Option ℕ). same_leaf o (Some i)) at ∙ other_leaf k i apart))))
    (cases_eq i k)

-- at a leaf that isn't there
pub add_past : (keys : List ℕ) (ts : List Take) (t : Take) (k n : ℕ) → n ≤ k → fires_at keys t ≡ Some k
    → (i : ℕ) → i < n → firing_at keys (Some i) ts ≡ firing_at keys (Some i) (ts ++ t ∷ [])
add_past keys ts t k n h at i l =
    let apart : k ≢ i = omega arith in
    sym (fires_elsewhere keys (Some i) ts t (ap (λ (o : Option ℕ). same_leaf o (Some i)) at ∙ other_leaf k i apart))

-- At the rows of which leaf aggregates take.
use Rattle.std.proofs.Common.{◌≡◌, ℕ, suc, ◌+◌, ◌<◌, ◌≤◌, List, [], ◌∷◌, ◌++◌, map, length, get_or, drop, Bool, true, false, Option, refl, sym, ap, ◌∙◌, add-one, append-nil}
use Rattle.std.specs.Prelude.{if◌then◌else◌}
use Rattle.std.specs.List.{list_all, flat_map}
use Rattle.std.proofs.lemmas.Bool.{and_from, and_parts}
use Rattle.std.proofs.lemmas.List.{append_assoc, map-append, drop_more, drop_all}
use Rattle.std.proofs.lemmas.List.Folds.{list_all-append}
use Rattle.dr_meaning.specs.Path.{Step}
use Rattle.dr_plan.specs.declared.aggregate.Aggregate.{Aggregate}
use Rattle.dr_plan.specs.declared.aggregate.Fold.{Fold}
use Rattle.dr_plan.specs.declared.expression.Expr.{Expr}
use Rattle.dr_scalar.specs.Leaves.{greater, greatest, expr_leaves}
use Rattle.dr_scalar.proofs.LastLemmas.{greatest_append}
use Rattle.dr_rows_beside.specs.Sources.{is_numbered}
use Rattle.dr_columns.specs.declared.taking.Taking.{Taking}
use Rattle.dr_columns.specs.Takings.{Take, taking_view, takings_view, aggregate_leaves, are_numbered, taken_at, same_leaf, one_taking, takings_at, read_of, fires_at, first_numbers}

pub taken_of : (ks : List ℕ) (f : Fold) (e : Expr) → greater (greatest ks) (greatest (expr_leaves e)) ≡ taken_at ks (Aggregate.Of f e)
taken_of ks f e = sym (greatest_append ks (expr_leaves e))

pub taken_rows : (ks : List ℕ) (a : Aggregate) → a ≡ Aggregate.Rows → greatest ks ≡ taken_at ks a
taken_rows ks a e = ap greatest (sym (append-nil ks)) ∙ ap (taken_at ks) (sym e)

-- ---- what takes there

-- the aggregate at a place, and those behind it
pub next_takes : (ks : List ℕ) (o : Option ℕ) (A : List Aggregate) (i : ℕ) (a : Aggregate) → i < length A → a ≡ get_or A i a
    → takings_at ks o i (drop i A) ≡ one_taking ks o i a ++ takings_at ks o (i + 1) (drop (i + 1) A)
next_takes ks o A i a h e =
    ap (takings_at ks o i) (drop_more A i a h ∙ ap (λ (x : Aggregate). x ∷ drop (i + 1) A) (sym e))
    ∙ (by_test (same_leaf (taken_at ks a) o) (takings_at ks o (suc i) (drop (i + 1) A)) ∙ ap (λ (j : ℕ). one_taking ks o i a ++ takings_at ks o j (drop (i + 1) A)) (sym (add-one i)))
  where
    by_test : (b : Bool) (ts : List Take) → ◌≡◌ {A = List Take} (if b then record { number = i; aggregate = a } ∷ ts else ts) ((if b then record { number = i; aggregate = a } ∷ [] else []) ++ ts)
    by_test true ts = refl
    by_test false ts = refl

pub none_takes : (ks : List ℕ) (o : Option ℕ) (A : List Aggregate) (i : ℕ) → length A ≤ i → takings_at ks o i (drop i A) ≡ []
none_takes ks o A i h = ap (takings_at ks o i) (drop_all i A h)

-- one more is appended
pub one_appended : (ts us : List Take) (ks : List ℕ) (o : Option ℕ) (A : List Aggregate) (i n : ℕ) (a : Aggregate) (whole : List Take) → i < length A → a ≡ get_or A i a → n ≡ i
    → us ≡ ts ++ one_taking ks o n a → ts ++ takings_at ks o i (drop i A) ≡ whole → us ++ takings_at ks o (i + 1) (drop (i + 1) A) ≡ whole
one_appended ts us ks o A i n a whole h e f p w =
    ap (λ (vs : List Take). vs ++ takings_at ks o (i + 1) (drop (i + 1) A)) (p ∙ ap (λ (m : ℕ). ts ++ one_taking ks o m a) f)
    ∙ (append_assoc ts (one_taking ks o i a) (takings_at ks o (i + 1) (drop (i + 1) A)) ∙ (ap (λ (vs : List Take). ts ++ vs) (sym (next_takes ks o A i a h e)) ∙ w))

pub all_appended : (ts : List Take) (ks : List ℕ) (o : Option ℕ) (A : List Aggregate) (i : ℕ) (whole : List Take) → length A ≤ i → ts ++ takings_at ks o i (drop i A) ≡ whole → ts ≡ whole
all_appended ts ks o A i whole h w = sym (append-nil ts) ∙ (ap (λ (vs : List Take). ts ++ vs) (sym (none_takes ks o A i h)) ∙ w)

-- by the test
pub taking_pushed : (ts us : List Taking) (t : Taking) (ks : List ℕ) (o : Option ℕ) → us ≡ ts ++ t ∷ [] → same_leaf (taken_at ks t.aggregate.now) o ≡ true
    → takings_view us ≡ takings_view ts ++ one_taking ks o t.number t.aggregate.now
taking_pushed ts us t ks o e b =
    ap takings_view e ∙ (map-append taking_view ts (t ∷ []) ∙ ap (λ (c : Bool). takings_view ts ++ (if c then taking_view t ∷ [] else [])) (sym b))

pub taking_left : (ts : List Taking) (t : Taking) (ks : List ℕ) (o : Option ℕ) → same_leaf (taken_at ks t.aggregate.now) o ≡ false → takings_view ts ≡ takings_view ts ++ one_taking ks o t.number t.aggregate.now
taking_left ts t ks o b = sym (ap (λ (c : Bool). takings_view ts ++ (if c then taking_view t ∷ [] else [])) b ∙ append-nil (takings_view ts))

-- what they read is there
pub takes_numbered : (n : ℕ) (ks : List ℕ) (o : Option ℕ) (i : ℕ) (A : List Aggregate) → are_numbered n A ≡ true
    → list_all (is_numbered n) (flat_map (λ (t : Take). aggregate_leaves t.aggregate) (takings_at ks o i A)) ≡ true
takes_numbered n ks o i [] h = refl
takes_numbered n ks o i (a ∷ A) h =
    let w : (list_all (is_numbered n) (aggregate_leaves a) ≡ true) × (are_numbered n A ≡ true) = and_parts _ _ h in
    by_test (same_leaf (taken_at ks a) o) w.0 (takes_numbered n ks o (suc i) A w.1)
  where
    by_test : (b : Bool) → list_all (is_numbered n) (aggregate_leaves a) ≡ true → list_all (is_numbered n) (flat_map (λ (t : Take). aggregate_leaves t.aggregate) (takings_at ks o (suc i) A)) ≡ true
        → list_all (is_numbered n) (flat_map (λ (t : Take). aggregate_leaves t.aggregate) (if b then record { number = i; aggregate = a } ∷ takings_at ks o (suc i) A else takings_at ks o (suc i) A)) ≡ true
    by_test true x y =
        list_all-append (is_numbered n) (aggregate_leaves a) (flat_map (λ (t : Take). aggregate_leaves t.aggregate) (takings_at ks o (suc i) A)) ∙ and_from _ _ x y
    by_test false x y = y

pub read_numbered : (n : ℕ) (ks : List ℕ) (o : Option ℕ) (A : List Aggregate) → list_all (is_numbered n) ks ≡ true → are_numbered n A ≡ true
    → list_all (is_numbered n) (read_of ks (takings_at ks o 0 A)) ≡ true
read_numbered n ks o A h g =
    list_all-append (is_numbered n) ks (flat_map (λ (t : Take). aggregate_leaves t.aggregate) (takings_at ks o 0 A)) ∙ and_from _ _ h (takes_numbered n ks o 0 A g)

-- the leaves of one taking, and of those behind it
pub read_more : (ts : List Taking) (i : ℕ) (t : Taking) (out : List ℕ) (whole : List ℕ) → i < length ts → t ≡ get_or ts i t
    → out ++ flat_map (λ (x : Take). aggregate_leaves x.aggregate) (takings_view (drop i ts)) ≡ whole
    → (out ++ aggregate_leaves t.aggregate.now) ++ flat_map (λ (x : Take). aggregate_leaves x.aggregate) (takings_view (drop (i + 1) ts)) ≡ whole
read_more ts i t out whole h e w =
    append_assoc out (aggregate_leaves t.aggregate.now) (flat_map (λ (x : Take). aggregate_leaves x.aggregate) (takings_view (drop (i + 1) ts)))
    ∙ (ap (λ (us : List Taking). out ++ flat_map (λ (x : Take). aggregate_leaves x.aggregate) (takings_view us)) (sym (drop_more ts i t h ∙ ap (λ (u : Taking). u ∷ drop (i + 1) ts) (sym e))) ∙ w)

pub all_read : (ts : List Taking) (i : ℕ) (out whole : List ℕ) → length ts ≤ i → out ++ flat_map (λ (x : Take). aggregate_leaves x.aggregate) (takings_view (drop i ts)) ≡ whole → out ≡ whole
all_read ts i out whole h w = sym (append-nil out) ∙ (ap (λ (us : List Taking). out ++ flat_map (λ (x : Take). aggregate_leaves x.aggregate) (takings_view us)) (sym (drop_all i ts h)) ∙ w)

-- ---- each leaf

pub fires_more : (F : List (List Step)) (ks : List ℕ) (A : List Aggregate) (i j : ℕ) → j ≡ i → map (fires_at F ks A) (first_numbers (i + 1)) ≡ map (fires_at F ks A) (first_numbers i) ++ fires_at F ks A j ∷ []
fires_more F ks A i j e =
    ap (λ (n : ℕ). map (fires_at F ks A) (first_numbers n)) (add-one i)
    ∙ (map-append (fires_at F ks A) (first_numbers i) (i ∷ []) ∙ ap (λ (n : ℕ). map (fires_at F ks A) (first_numbers i) ++ fires_at F ks A n ∷ []) (sym e))

-- The values of one leaf in the rows of a source: its own, and those of a leaf beside it.
use Rattle.std.proofs.Common.{◌≡◌, ℕ, zero, suc, ◌+◌, ◌<◌, ◌≤◌, ◌⊎◌, inl, inr, List, [], ◌∷◌, map, length, get_or, replicate, Bool, true, false, Option, Some, None, refl, sym, ap, ap₂, subst, ◌∙◌, arith}
use Rattle.std.specs.Prelude.{IfSome, ◌==◌, ◌&&◌, nat_le, nat_lt, if◌then◌else◌}
use Rattle.std.specs.List.{list_all, slice_get}
use Rattle.std.proofs.lemmas.Bool.{and_parts, le-leb, leb-true, eqb-true}
use Rattle.std.proofs.lemmas.List.{length-replicate}
use Rattle.dr_meaning.specs.Record.{Value}
use Rattle.dr_meaning.specs.Column.{Triplet}
use Rattle.dr_partials.specs.Putting.{Put}
use Rattle.dr_group.specs.Groups.{put_of}
use Rattle.dr_beside.specs.Along.{along, value_next, rest_next}
use Rattle.dr_beside.specs.Feeding.{goes}
use Rattle.dr_beside.specs.Neighbours.{column_at}
use Rattle.dr_plan.specs.declared.expression.Expr.{Expr}
use Rattle.dr_rows_beside.specs.declared.place.Place.{Place}
use Rattle.dr_rows_beside.specs.declared.source.Beside.{Beside}
use Rattle.dr_rows_beside.specs.ExprRows.{value_in}
use Rattle.dr_levels.specs.declared.triplet.ValueRef.{ValueRef}
use Rattle.dr_columns.specs.Numbers.{value_puts}
use Rattle.dr_columns.specs.LeafRows.{NextValue, own_values, values_along, is_enough, value_there, found_beside, cell_tuples, cell_groups}
use Rattle.dr_columns.specs.LeafRowsView.{leaf_left}
use Rattle.dr_columns.specs.declared.leaf_rows.LeafRows.{LeafRows}
use Rattle.dr_columns.specs.Own.{AreOf, HasOwn}
use Rattle.dr_rows_beside.specs.Places.{place_left, LevelsAt}
use Rattle.dr_rows_beside.specs.RecordRows.{rows_of}
use Rattle.dr_columns.specs.RowPuts.{keys_in, groups_in}
use Rattle.dr_rows_beside.specs.Rows.{Follower, Row, follower_view, stepped, slot_at, in_slot, is_apart, all_apart, is_fed, source_view}
use Rattle.dr_rows_beside.specs.Sources.{AreReadBeside}
use Rattle.dr_columns.proofs.NumberLemmas.{no_values}
use Rattle.dr_rows_beside.proofs.RecordRowLemmas.{view_at, none_there}
use Rattle.dr_rows_beside.proofs.RunLemmas.{own_slots, rows_run_along}

-- ---- the next value

-- none are left
pub none_left : (p : Option Place) (now : Option Value) (o : Option ℕ) (ts : List Triplet) → LevelsAt o ts → ((r : ℕ) → o ≡ Some r → ⊥) → values_along p now ts ≡ []
none_left None now o [] h n = refl
none_left (Some p) now o [] h n = refl
none_left p now o (t ∷ ts) h n = absurd (n t.repetition h)

pub next_own : (before after : List Triplet) (t : Triplet) (v : Option Value) → before ≡ t ∷ after → t.value ≡ v → own_values before ≡ v ∷ own_values after
next_own before after t v e h = ap own_values e ∙ ap (λ (o : Option Value). o ∷ own_values after) h

along_by : (b : Bool) (f : Follower) (now : Option Value) (ts : List Triplet)
    → (if b then value_next now f.left ∷ along f.depth (value_next now f.left) (rest_next f.left) ts else now ∷ along f.depth now f.left ts)
    ≡ (if b then value_next now f.left else now) ∷ along (if b then record { leaf = f.leaf; depth = f.depth; left = rest_next f.left } else f).depth (if b then value_next now f.left else now) (if b then record { leaf = f.leaf; depth = f.depth; left = rest_next f.left } else f).left ts
along_by true f now ts = refl
along_by false f now ts = refl

pub next_along : (r : ℕ) (f g : Follower) (now v : Option Value) (before after : List Triplet) (t : Triplet) → before ≡ t ∷ after → r ≡ t.repetition → v ≡ value_there r now f → g ≡ stepped r f
    → along f.depth now f.left before ≡ v ∷ along g.depth v g.left after
next_along r f g now v before after t e l w s =
    ap (along f.depth now f.left) e
    ∙ (along_by (nat_le t.repetition f.depth) f now after
    ∙ (ap (λ (k : ℕ). value_there k now f ∷ along (stepped k f).depth (value_there k now f) (stepped k f).left after) (sym l)
    ∙ ap₂ (λ (x : Option Value) (h : Follower). x ∷ along h.depth x h.left after) (sym w) (sym s)))

pub goes_on : (r d : ℕ) (now v : Option Value) (before after : List Triplet) (t : Triplet) → r ≤ d → before ≡ t ∷ after → t.value ≡ v → v ≡ (if nat_le r d then value_next now before else now)
goes_on r d now v before after t l e h = sym (ap (λ (b : Bool). if b then value_next now before else now) (le-leb r d l) ∙ (ap (value_next now) e ∙ h))

-- a leaf that goes on is there, and as often as before otherwise
pub goes_there : (p : Place) (r : ℕ) (before after : List Triplet) (t : Triplet) → before ≡ t ∷ after → r ≡ t.repetition → is_enough (Some p) before ≡ true → r ≤ p.depth → 0 < length (place_left p)
goes_there p r before after t e l h d =
    let all : goes p.depth before ≤ length (place_left p) = omega (arith, leb-true _ _ h) in
    let first : goes p.depth before ≡ (if nat_le t.repetition p.depth then 1 else 0) + goes p.depth after = ap (goes p.depth) e in
    let one : nat_le t.repetition p.depth ≡ true = le-leb t.repetition p.depth (omega (arith, l, d)) in
    let more : goes p.depth before ≡ 1 + goes p.depth after = first ∙ ap (λ (b : Bool). (if b then 1 else 0) + goes p.depth after) one in
    omega (arith, all, more)

less_rest : (n : ℕ) (us : List Triplet) → 1 + n ≤ length us → n ≤ length (rest_next us)
less_rest n [] h = absurd (omega (arith, h))
less_rest n (u ∷ us) h = omega (arith, h)

enough_by : (b : Bool) (f : Follower) (ts : List Triplet) → (if b then 1 else 0) + goes f.depth ts ≤ length f.left
    → goes (if b then record { leaf = f.leaf; depth = f.depth; left = rest_next f.left } else f).depth ts ≤ length (if b then record { leaf = f.leaf; depth = f.depth; left = rest_next f.left } else f).left
enough_by true f ts h = less_rest (goes f.depth ts) f.left h
enough_by false f ts h = omega (arith, h)

pub still_enough : (p q : Place) (r : ℕ) (before after : List Triplet) (t : Triplet) → before ≡ t ∷ after → r ≡ t.repetition → follower_view q ≡ stepped r (follower_view p) → is_enough (Some p) before ≡ true → is_enough (Some q) after ≡ true
still_enough p q r before after t e l s h =
    let f : Follower = follower_view p in
    let all : goes p.depth before ≤ length (place_left p) = omega (arith, leb-true _ _ h) in
    let first : goes p.depth before ≡ (if nat_le t.repetition p.depth then 1 else 0) + goes p.depth after = ap (goes p.depth) e in
    let step : goes (stepped t.repetition f).depth after ≤ length (stepped t.repetition f).left = enough_by (nat_le t.repetition p.depth) f after (omega (arith, all, first)) in
    let there : follower_view q ≡ stepped t.repetition f = s ∙ ap (λ (k : ℕ). stepped k f) l in
    subst (λ (g : Follower). nat_le (goes g.depth after) (length g.left) ≡ true) (sym there) (le-leb _ _ step)

-- ---- before the first row

pub found_there : (k : ℕ) (bs : List Beside) (b : Beside) → found_beside k bs ≡ Some b → (i : ℕ) × (slice_get bs i ≡ Some b) × (b.leaf ≡ k)
found_there k [] b e = absurd (cc)
found_there k (x ∷ bs) b e = by_test (x.leaf == k) refl (found_there k bs b) e
  where
    by_test : (c : Bool) → (x.leaf == k) ≡ c → (found_beside k bs ≡ Some b → (i : ℕ) × (slice_get bs i ≡ Some b) × (b.leaf ≡ k)) → (if c then Some x else found_beside k bs) ≡ Some b → (i : ℕ) × (slice_get (x ∷ bs) i ≡ Some b) × (b.leaf ≡ k)
    by_test true t h f = let same : x ≡ b = cc in (0, ap Some same, subst (λ (y : Beside). y.leaf ≡ k) same (eqb-true x.leaf k t))
    by_test false t h f = let w = h f in (suc w.0, w.1, w.2)

all_within : (ts : List Triplet) (n m : ℕ) (fs : List Follower) → n ≡ m → list_all (is_fed ts n) fs ≡ true → list_all (λ (f : Follower). nat_lt f.leaf m) fs ≡ true
all_within ts n m [] e h = refl
all_within ts n m (f ∷ fs) e h =
    let w : (is_fed ts n f ≡ true) × (list_all (is_fed ts n) fs ≡ true) = and_parts _ _ h in
    let v : (nat_lt f.leaf n ≡ true) × (nat_le (goes f.depth ts) (length f.left) ≡ true) = and_parts _ _ w.0 in
    ap₂ (λ (a b : Bool). a && b) (ap (nat_lt f.leaf) (sym e) ∙ v.0) (all_within ts n m fs e w.1)

fed_there : (C : List (List Triplet)) (ts : List Triplet) (n : ℕ) (bs : List Beside) (i : ℕ) (b : Beside) → slice_get bs i ≡ Some b → list_all (is_fed ts n) (map (source_view C) bs) ≡ true → is_fed ts n (source_view C b) ≡ true
fed_there C ts n [] i b e h = absurd (cc)
fed_there C ts n (x ∷ bs) zero b e h = let k : x ≡ b = cc in subst (λ (y : Beside). is_fed ts n (source_view C y) ≡ true) k (and_parts _ _ h).0
fed_there C ts n (x ∷ bs) (suc i) b e h = fed_there C ts n bs i b e (and_parts _ _ h).1

pub beside_within : (C : List (List Triplet)) (ts : List Triplet) (n : ℕ) (bs : List Beside) (i : ℕ) (b : Beside) → slice_get bs i ≡ Some b → list_all (is_fed ts n) (map (source_view C) bs) ≡ true → b.leaf < n
beside_within C ts n bs i b e h =
    let w : (nat_lt b.leaf n ≡ true) × (nat_le (goes b.depth ts) (length (column_at C b.leaf)) ≡ true) = and_parts _ _ (fed_there C ts n bs i b e h) in
    omega (arith, leb-true _ _ w.0)

pub beside_enough : (C : List (List Triplet)) (ts : List Triplet) (n : ℕ) (bs : List Beside) (i : ℕ) (b : Beside) (p : Place) (us : List Triplet) → slice_get bs i ≡ Some b → list_all (is_fed ts n) (map (source_view C) bs) ≡ true
    → p.depth ≡ b.depth → place_left p ≡ column_at C b.leaf → us ≡ ts → is_enough (Some p) us ≡ true
beside_enough C ts n bs i b p us e h d l s =
    let w : (nat_lt b.leaf n ≡ true) × (nat_le (goes b.depth ts) (length (column_at C b.leaf)) ≡ true) = and_parts _ _ (fed_there C ts n bs i b e h) in
    ap₂ (λ (k : ℕ) (xs : List Triplet). nat_le (goes k us) (length xs)) d l ∙ (ap (λ (xs : List Triplet). nat_le (goes b.depth xs) (length (column_at C b.leaf))) s ∙ w.1)

pub long_fed : (C : List (List Triplet)) (leaf : ℕ) (bs : List Beside) (n : ℕ) → length C ≡ n → list_all (is_fed (column_at C leaf) n) (map (source_view C) bs) ≡ true → list_all (is_fed (column_at C leaf) (length C)) (map (source_view C) bs) ≡ true
long_fed C leaf bs n e h = ap (λ (m : ℕ). list_all (is_fed (column_at C leaf) m) (map (source_view C) bs)) e ∙ h

-- ---- in rows

-- a leaf's own slots, of columns in which it isn't beside itself
pub own_in_slot : (leaf : ℕ) (bs : List Beside) (C : List (List Triplet)) → leaf < length C → is_apart leaf (map (source_view C) bs) ≡ true → in_slot leaf (rows_of leaf bs C) ≡ own_values (column_at C leaf)
own_in_slot leaf bs C l a = own_slots leaf (map (source_view C) bs) (replicate (length C) None) (column_at C leaf) (omega (arith, l, length-replicate {A = Option Value} (length C) None)) a

pub own_left : (leaf k : ℕ) (bs : List Beside) (C : List (List Triplet)) (ts : List Triplet) → k ≡ leaf → leaf < length C → is_apart leaf (map (source_view C) bs) ≡ true → ts ≡ column_at C leaf → own_values ts ≡ in_slot k (rows_of leaf bs C)
own_left leaf k bs C ts s l a e = ap own_values e ∙ (sym (own_in_slot leaf bs C l a) ∙ ap (λ (j : ℕ). in_slot j (rows_of leaf bs C)) (sym s))

-- those of a leaf beside it
pub beside_in_slot : (leaf : ℕ) (bs : List Beside) (C : List (List Triplet)) (i : ℕ) (b : Beside) → leaf < length C → is_apart leaf (map (source_view C) bs) ≡ true → all_apart (map (source_view C) bs) ≡ true
    → list_all (is_fed (column_at C leaf) (length C)) (map (source_view C) bs) ≡ true → slice_get bs i ≡ Some b
    → in_slot b.leaf (rows_of leaf bs C) ≡ along b.depth None (column_at C b.leaf) (column_at C leaf)
beside_in_slot leaf bs C i b l a d h e =
    let vs : List (Option Value) = replicate (length C) None in
    let long : length vs ≡ length C = length-replicate {A = Option Value} (length C) None in
    (rows_run_along leaf (map (source_view C) bs) vs (column_at C leaf) (omega (arith, l, long)) (all_within (column_at C leaf) (length C) (length vs) (map (source_view C) bs) (sym long) h) a d).1 i (source_view C b) (view_at C bs i b e)
    ∙ ap (λ (v : Option Value). along b.depth v (column_at C b.leaf) (column_at C leaf)) (none_there (length C) b.leaf)

pub beside_slots_left : (leaf : ℕ) (bs : List Beside) (C : List (List Triplet)) (i : ℕ) (b : Beside) (k : ℕ) (p : Place) (us : List Triplet) → leaf < length C → is_apart leaf (map (source_view C) bs) ≡ true → all_apart (map (source_view C) bs) ≡ true
    → list_all (is_fed (column_at C leaf) (length C)) (map (source_view C) bs) ≡ true → slice_get bs i ≡ Some b → b.leaf ≡ k → p.depth ≡ b.depth → place_left p ≡ column_at C b.leaf → us ≡ column_at C leaf
    → values_along (Some p) None us ≡ in_slot k (rows_of leaf bs C)
beside_slots_left leaf bs C i b k p us l a d h e s m q w =
    ap₂ (λ (n : ℕ) (xs : List Triplet). along n None xs us) m q
    ∙ (ap (along b.depth None (column_at C b.leaf)) w
    ∙ (sym (beside_in_slot leaf bs C i b l a d h e)
    ∙ ap (λ (n : ℕ). in_slot n (rows_of leaf bs C)) s))

first_same : (x y : Option Value) (xs ys : List (Option Value)) → x ∷ xs ≡ y ∷ ys → x ≡ y
first_same x y xs ys e = cc

others_same : (x y : Option Value) (xs ys : List (Option Value)) → x ∷ xs ≡ y ∷ ys → xs ≡ ys
others_same x y xs ys e = cc

-- what leaves a column's values as they are leaves those along another as they are
along_kept : (f : Option Value → Option Value) (k : ℕ) (now : Option Value) (vs ts : List Triplet) → f now ≡ now → map f (own_values vs) ≡ own_values vs → map f (along k now vs ts) ≡ along k now vs ts
along_kept f k now vs [] n h = refl
along_kept f k now [] (t ∷ ts) n h = by_test (nat_le t.repetition k) (along_kept f k now [] ts n h)
  where
    by_test : (b : Bool) → map f (along k now [] ts) ≡ along k now [] ts → map f (if b then now ∷ along k now [] ts else now ∷ along k now [] ts) ≡ (if b then now ∷ along k now [] ts else now ∷ along k now [] ts)
    by_test true g = ap₂ (λ (x : Option Value) (xs : List (Option Value)). x ∷ xs) n g
    by_test false g = ap₂ (λ (x : Option Value) (xs : List (Option Value)). x ∷ xs) n g
along_kept f k now (v ∷ vs) (t ∷ ts) n h =
    let head : f v.value ≡ v.value = first_same (f v.value) v.value (map f (own_values vs)) (own_values vs) h in
    let tail : map f (own_values vs) ≡ own_values vs = others_same (f v.value) v.value (map f (own_values vs)) (own_values vs) h in
    by_test (nat_le t.repetition k) head (along_kept f k v.value vs ts head tail) (along_kept f k now (v ∷ vs) ts n h)
  where
    by_test : (b : Bool) → f v.value ≡ v.value → map f (along k v.value vs ts) ≡ along k v.value vs ts → map f (along k now (v ∷ vs) ts) ≡ along k now (v ∷ vs) ts
        → map f (if b then v.value ∷ along k v.value vs ts else now ∷ along k now (v ∷ vs) ts) ≡ (if b then v.value ∷ along k v.value vs ts else now ∷ along k now (v ∷ vs) ts)
    by_test true e g i = ap₂ (λ (x : Option Value) (xs : List (Option Value)). x ∷ xs) e g
    by_test false e g i = ap₂ (λ (x : Option Value) (xs : List (Option Value)). x ∷ xs) n i

-- a leaf that is read has values of its column, and NULLs
pub slots_are_of : (leaf : ℕ) (bs : List Beside) (C : List (List Triplet)) (k : ℕ) → leaf < length C → is_apart leaf (map (source_view C) bs) ≡ true → all_apart (map (source_view C) bs) ≡ true
    → list_all (is_fed (column_at C leaf) (length C)) (map (source_view C) bs) ≡ true → AreReadBeside leaf bs (k ∷ []) → AreOf (column_at C k) (in_slot k (rows_of leaf bs C))
slots_are_of leaf bs C k l a d h r f n m = by_case r.0
  where
    by_case : (k ≡ leaf) ⊎ ((i : ℕ) × (b : Beside) × (slice_get bs i ≡ Some b) × (b.leaf ≡ k)) → map f (in_slot k (rows_of leaf bs C)) ≡ in_slot k (rows_of leaf bs C)
    by_case (inl e) =
        let own : in_slot k (rows_of leaf bs C) ≡ own_values (column_at C k) = ap (λ (j : ℕ). in_slot j (rows_of leaf bs C)) e ∙ (own_in_slot leaf bs C l a ∙ ap (λ (j : ℕ). own_values (column_at C j)) (sym e)) in
        ap (map f) own ∙ (m ∙ sym own)
    by_case (inr w) =
        let s : w.1.leaf ≡ k = w.3 in
        let its : in_slot k (rows_of leaf bs C) ≡ along w.1.depth None (column_at C k) (column_at C leaf) =
        ap (λ (j : ℕ). in_slot j (rows_of leaf bs C)) (sym s) ∙ (beside_in_slot leaf bs C w.0 w.1 l a d h w.2 ∙ ap (λ (j : ℕ). along w.1.depth None (column_at C j) (column_at C leaf)) s) in
        ap (map f) its ∙ (along_kept f w.1.depth None (column_at C k) (column_at C leaf) n m ∙ sym its)

pub read_within : (leaf : ℕ) (bs : List Beside) (C : List (List Triplet)) (k : ℕ) → leaf < length C → list_all (is_fed (column_at C leaf) (length C)) (map (source_view C) bs) ≡ true → AreReadBeside leaf bs (k ∷ []) → k < length C
read_within leaf bs C k l h r = by_case r.0
  where
    by_case : (k ≡ leaf) ⊎ ((i : ℕ) × (b : Beside) × (slice_get bs i ≡ Some b) × (b.leaf ≡ k)) → k < length C
    by_case (inl e) = omega (arith, e, l)
    by_case (inr w) = omega (arith, w.3, beside_within C (column_at C leaf) (length C) bs w.0 w.1 w.2 h)

-- the values of an expression that is a leaf's own, where the leaf's slots have those of triplets
pub own_kept : (x : Expr) (leaf : ℕ) (ts : List Triplet) (rs : List Row) → HasOwn x leaf ts → in_slot leaf rs ≡ own_values ts → map (value_in x) rs ≡ own_values ts
own_kept x leaf ts rs h s = h rs (λ f n k. ap (map f) s ∙ (k ∙ sym s)) ∙ s

-- ---- keys

pub tuples_of_slot : (k : ℕ) (rs : List Row) → cell_tuples (in_slot k rs) ≡ map (keys_in (k ∷ [])) rs
tuples_of_slot k [] = refl
tuples_of_slot k (r ∷ rs) = ap (λ (us : List (List (Option Value))). (slot_at r.slots k ∷ []) ∷ us) (tuples_of_slot k rs)

groups_of_tuples : (ks : List ℕ) (rs : List Row) → map (λ (u : List (Option Value)). put_of u None) (map (keys_in ks) rs) ≡ groups_in ks rs
groups_of_tuples ks [] = refl
groups_of_tuples ks (r ∷ rs) = ap (λ (ps : List Put). put_of (keys_in ks r) None ∷ ps) (groups_of_tuples ks rs)

groups_of_cells : (vs : List (Option Value)) → map (λ (u : List (Option Value)). put_of u None) (cell_tuples vs) ≡ cell_groups vs
groups_of_cells [] = refl
groups_of_cells (v ∷ vs) = ap (λ (ps : List Put). put_of (v ∷ []) None ∷ ps) (groups_of_cells vs)

-- the groups of rows whose key tuples are of one cell
pub groups_of_rows : (ks : List ℕ) (rs : List Row) (vs : List (Option Value)) → cell_tuples vs ≡ map (keys_in ks) rs → cell_groups vs ≡ groups_in ks rs
groups_of_rows ks rs vs e = sym (groups_of_cells vs) ∙ (ap (map (λ (u : List (Option Value)). put_of u None)) e ∙ groups_of_tuples ks rs)

-- no values are left
pub no_more_puts : (i : ℕ) (us : List (List (Option Value))) (before after : List (Option Value)) (o : Option (Option ValueRef)) → NextValue before after o → ((v : Option ValueRef) → o ≡ Some v → ⊥) → value_puts i us before ≡ []
no_more_puts i us before after None n h = ap (value_puts i us) n ∙ no_values i us
no_more_puts i us before after (Some v) n h = absurd (h v refl)

-- ---- one key

pub one_key : (ks : List ℕ) → 1 ≤ length ks → length ks < 2 → ks ≡ get_or ks 0 0 ∷ []
one_key [] l m = absurd (omega (arith, l))
one_key (k ∷ []) l m = refl
one_key (k ∷ j ∷ ks) l m = absurd (omega (arith, m))

pub key_tuples : (o : Option LeafRows) (rs : List Row) (ks : List ℕ) (k : ℕ) → ks ≡ k ∷ [] → IfSome o (λ r. leaf_left r ≡ in_slot k rs) → IfSome o (λ r. cell_tuples (leaf_left r) ≡ map (keys_in ks) rs)
key_tuples None rs ks k e h = tt
key_tuples (Some r) rs ks k e h = ap cell_tuples h ∙ (tuples_of_slot k rs ∙ ap (λ (js : List ℕ). map (keys_in js) rs) (sym e))

-- The queries over columns that merge results.
use Rattle.std.proofs.Common.{◌≡◌, ℕ, zero, suc, ◌+◌, ◌≤◌, List, [], ◌∷◌, ◌++◌, map, length, drop, true, Some, string_bytes, refl, sym, ap, ap₂, ◌∙◌, add-one, arith, rules}
use Rattle.std.specs.Prelude.{nat_lt}
use Rattle.std.specs.List.{list_all, slice_get, cons_option, range_with_len}
use Rattle.std.proofs.lemmas.Bool.{lt-ltb}
use Rattle.dr_meaning.specs.BoundExpression.{kind_type}
use Rattle.dr_meaning.specs.Expression.{path_value}
use Rattle.dr_meaning.specs.Path.{Step, Leaf}
use Rattle.dr_meaning.specs.Query as query
use Rattle.dr_nested.specs.Views.{kind_view}
use Rattle.dr_nested.specs.declared.shape.Kind.{Kind}
use Rattle.dr_partials.specs.Rewriting.{column, merging_term, merging_terms, root_items, column_behind}
use Rattle.dr_plan.specs.declared.aggregate.Aggregate.{Aggregate}
use Rattle.dr_plan.specs.declared.aggregate.Fold.{Fold}
use Rattle.dr_plan.specs.declared.expression.Number as numbers
use Rattle.dr_plan.specs.declared.expression.TextOf as texts
use Rattle.dr_plan.specs.declared.expression.Truth as truths
use Rattle.dr_plan.specs.declared.plan.GroupItem.{GroupItem}
use Rattle.dr_plan.specs.declared.plan.GroupTerm.{GroupTerm}
use Rattle.dr_plan.specs.Fitting.{aggregate_fits, aggregate_number, are_numbered, expr_fits, is_summed, leaf_has_type}
use Rattle.dr_plan.specs.Views.{aggregate_view, expr_view, fold_view, found_term, group_term_view, group_item_view, leaf_value, path_of}
use Rattle.dr_rewrite.specs.Items.{indexed}
use Rattle.dr_rewrite.specs.Merged.{column_value, key_numbers, merged, merged_aggregates, merging_fold}
use Rattle.dr_rewrite.specs.RowColumns.{aggregate_column, aggregate_kind, key_column, row_columns}
use Rattle.dr_rewrite.proofs.RewritingTextLemmas.{at_column, at_front, at_zero, column_behind_aggregate, next_aggregate, no_shift, numbers_of, one_on, viewed}
use Rattle.dr_rewrite.proofs.ServerItemLemmas.{both_true}

-- ---- places in lists

at_place : {A B : Type 0} (f : ℕ → A → B) (n : ℕ) (xs : List A) (j : ℕ) (x : A) → slice_get xs j ≡ Some x → slice_get (indexed f n xs) j ≡ Some (f (n + j) x)
at_place f n [] j x h = cc
at_place f n (y ∷ ys) zero x h = let e : y ≡ x = cc in ap₂ (λ m z. Some (f m z)) (at_zero n) e
at_place f n (y ∷ ys) (suc j) x h = at_place f (suc n) ys j x h ∙ ap (λ m. Some (f m x)) (one_on n j)

pub many : {A B : Type 0} (f : ℕ → A → B) (n : ℕ) (xs : List A) → length (indexed f n xs) ≡ length xs
many f n [] = refl
many f n (x ∷ xs) = ap suc (many f (suc n) xs)

in_front : {A : Type 0} (xs ys : List A) (j : ℕ) (x : A) → slice_get xs j ≡ Some x → slice_get (xs ++ ys) j ≡ Some x
in_front [] ys j x h = cc
in_front (y ∷ xs) ys zero x h = h
in_front (y ∷ xs) ys (suc j) x h = in_front xs ys j x h

behind : {A : Type 0} (xs ys : List A) (j m : ℕ) → m ≡ length xs + j → slice_get (xs ++ ys) m ≡ slice_get ys j
behind [] ys j m e = ap (slice_get ys) (e ∙ no_shift j)
behind (x ∷ xs) ys j zero e = absurd (omega (arith, e))
behind (x ∷ xs) ys j (suc m) e = behind xs ys j m (omega (arith, e))

-- ---- the columns of rows

key_there : (ls : List Leaf) (keys : List ℕ) (gs : List Aggregate) (j k : ℕ) → slice_get keys j ≡ Some k → slice_get (row_columns ls keys gs) j ≡ Some (key_column ls j k)
key_there ls keys gs j k h =
    in_front (indexed (key_column ls) 0 keys) (indexed (aggregate_column (length keys)) 0 gs) j (key_column ls j k) (at_place (key_column ls) 0 keys j k h ∙ ap (λ m. Some (key_column ls m k)) (no_shift j))

aggregate_there : (ls : List Leaf) (keys : List ℕ) (gs : List Aggregate) (j : ℕ) (a : Aggregate) → slice_get gs j ≡ Some a
    → slice_get (row_columns ls keys gs) (length keys + j) ≡ Some (aggregate_column (length keys) j a)
aggregate_there ls keys gs j a h =
    behind (indexed (key_column ls) 0 keys) (indexed (aggregate_column (length keys)) 0 gs) j (length keys + j) (ap (λ m. m + j) (sym (many (key_column ls) 0 keys)))
    ∙ (at_place (aggregate_column (length keys)) 0 gs j a h ∙ ap (λ m. Some (aggregate_column (length keys) m a)) (no_shift j))

-- ---- the keys' columns

keys_columns : (cols : List Leaf) (n : ℕ) (ks : List ℕ) → ((j k : ℕ) → slice_get ks j ≡ Some k → path_of (slice_get cols (n + j)) ≡ column (n + j))
    → map (λ k. path_of (slice_get cols k)) (indexed (λ (i k : ℕ). i) n ks) ≡ map column (range_with_len n (length ks))
keys_columns cols n [] h = refl
keys_columns cols n (k ∷ ks) h =
    ap₂ (λ (p : List Step) ps. p ∷ ps) (ap (λ m. path_of (slice_get cols m)) (at_zero n) ∙ (h 0 k refl ∙ ap column (sym (at_zero n))))
    (keys_columns cols (suc n) ks (λ j l e. ap (λ m. path_of (slice_get cols m)) (one_on n j) ∙ (h (suc j) l e ∙ ap column (sym (one_on n j))))
    ∙ ap (λ m. map column (range_with_len m (length ks))) (sym (add-one n)))

pub keys_seen : (ls : List Leaf) (keys : List ℕ) (gs : List Aggregate) → map (λ k. path_of (slice_get (row_columns ls keys gs) k)) (key_numbers keys) ≡ map column (range_with_len 0 (length keys))
keys_seen ls keys gs =
    keys_columns (row_columns ls keys gs) 0 keys
    (λ j k h. ap (λ m. path_of (slice_get (row_columns ls keys gs) m)) (no_shift j) ∙ (ap path_of (key_there ls keys gs j k h) ∙ ap column (sym (no_shift j))))

below : (many n : ℕ) (ks : List ℕ) → n + length ks ≤ many → list_all (λ k. nat_lt k many) (indexed (λ (i k : ℕ). i) n ks) ≡ true
below m n [] h = refl
below m n (k ∷ ks) h = both_true (nat_lt n m) (list_all (λ k. nat_lt k m) (indexed (λ (i k : ℕ). i) (suc n) ks)) (lt-ltb n m (omega (arith, h))) (below m (suc n) ks (omega (arith, h)))

pub keys_below : (ls : List Leaf) (keys : List ℕ) (gs : List Aggregate) → list_all (λ k. nat_lt k (length (row_columns ls keys gs))) (key_numbers keys) ≡ true
keys_below ls keys gs = below (length (row_columns ls keys gs)) 0 keys (longer (indexed (key_column ls) 0 keys) (indexed (aggregate_column (length keys)) 0 gs) (length keys) (many (key_column ls) 0 keys))
  where
    longer : (xs ys : List Leaf) (m : ℕ) → length xs ≡ m → 0 + m ≤ length (xs ++ ys)
    longer [] ys m e = omega (arith, e)
    longer (x ∷ xs) ys zero e = absurd (omega (arith, e))
    longer (x ∷ xs) ys (suc m) e = omega (arith, longer xs ys m (omega (arith, e)))

-- ---- an aggregate of a column

value_seen : (cols : List Leaf) (k : Kind) (i : ℕ) → expr_view cols (column_value k i) ≡ leaf_value cols i
value_seen cols Kind.Bool i = search (rules, truths.the_lemmas)
value_seen cols Kind.I32 i = search (rules, numbers.the_lemmas)
value_seen cols Kind.I64 i = search (rules, numbers.the_lemmas)
value_seen cols Kind.Text i = search (rules, texts.the_lemmas)

value_fits : (cols : List Leaf) (k : Kind) (i : ℕ) → expr_fits cols (column_value k i) ≡ leaf_has_type (kind_type (kind_view k)) (slice_get cols i)
value_fits cols Kind.Bool i = search (rules, truths.the_lemmas)
value_fits cols Kind.I32 i = search (rules, numbers.the_lemmas)
value_fits cols Kind.I64 i = search (rules, numbers.the_lemmas)
value_fits cols Kind.Text i = search (rules, texts.the_lemmas)

same_kind : (k : Kind) (l : Leaf) → l.kind ≡ kind_view k → leaf_has_type (kind_type (kind_view k)) (Some l) ≡ true
same_kind k l e = ap (λ m. leaf_has_type (kind_type (kind_view k)) (Some (record l { kind = m }))) e ∙ by k
  where
    by : (k : Kind) → leaf_has_type (kind_type (kind_view k)) (Some (record l { kind = kind_view k })) ≡ true
    by Kind.Bool = refl
    by Kind.I32 = refl
    by Kind.I64 = refl
    by Kind.Text = refl

summed : (a : Aggregate) (i : ℕ) → is_summed (merging_fold a) (column_value (aggregate_kind a) i) ≡ true
summed Aggregate.Rows i = refl
summed (Aggregate.Of Fold.Count e) i = refl
summed (Aggregate.Of Fold.Sum e) i = refl
summed (Aggregate.Of Fold.Least e) i = refl
summed (Aggregate.Of Fold.Greatest e) i = refl

merged_fits : (cols : List Leaf) (keys i j : ℕ) (a : Aggregate) → slice_get cols i ≡ Some (aggregate_column keys j a) → aggregate_fits cols (merged i a) ≡ true
merged_fits cols keys i j a h =
    let k = aggregate_kind a in
    both_true (expr_fits cols (column_value k i)) (is_summed (merging_fold a) (column_value k i))
    (value_fits cols k i ∙ (ap (leaf_has_type (kind_type (kind_view k))) h ∙ same_kind k (aggregate_column keys j a) refl)) (summed a i)

merged_term : (ls : List Leaf) (i : ℕ) (a : Aggregate) → query.aggregate (fold_view (merging_fold a)) (path_value (column i)) ≡ merging_term i (aggregate_view ls a)
merged_term ls i Aggregate.Rows = refl
merged_term ls i (Aggregate.Of Fold.Count e) = refl
merged_term ls i (Aggregate.Of Fold.Sum e) = refl
merged_term ls i (Aggregate.Of Fold.Least e) = refl
merged_term ls i (Aggregate.Of Fold.Greatest e) = refl

merged_seen : (ls cols : List Leaf) (i : ℕ) (a : Aggregate) → path_of (slice_get cols i) ≡ column i → aggregate_view cols (merged i a) ≡ merging_term i (aggregate_view ls a)
merged_seen ls cols i a h = ap (query.aggregate (fold_view (merging_fold a))) (value_seen cols (aggregate_kind a) i ∙ ap path_value h) ∙ merged_term ls i a

-- ---- all aggregates

abbrev pub AggregatesAt : List Leaf → ℕ → List Aggregate → Type 0
AggregatesAt cols keys all = (i : ℕ) (a : Aggregate) → slice_get all i ≡ Some a → slice_get cols (keys + i) ≡ Some (aggregate_column keys i a)

abbrev merged_from : ℕ → ℕ → List Aggregate → List Aggregate
merged_from keys i gs = indexed (λ (i : ℕ) (a : Aggregate). merged (keys + i) a) i gs

all_seen : (ls cols : List Leaf) (keys : ℕ) (all : List Aggregate) → AggregatesAt cols keys all → (i c : ℕ) (gs : List Aggregate) → c ≡ keys + i → drop i all ≡ gs
    → map (aggregate_view cols) (merged_from keys i gs) ≡ merging_terms c (map (aggregate_view ls) gs)
all_seen ls cols keys all n i c [] e h = refl
all_seen ls cols keys all n i c (a ∷ gs) e h =
    let f = at_front all i a gs h in
    ap₂ (λ (t : query.GroupTerm) ts. t ∷ ts) (merged_seen ls cols (keys + i) a (ap path_of (n i a f.0)) ∙ ap (λ m. merging_term m (aggregate_view ls a)) (sym e))
    (all_seen ls cols keys all n (suc i) (suc c) gs (at_column keys i c e) f.1)

all_fit : (cols : List Leaf) (keys : ℕ) (all : List Aggregate) → AggregatesAt cols keys all → (i : ℕ) (gs : List Aggregate) → drop i all ≡ gs → list_all (aggregate_fits cols) (merged_from keys i gs) ≡ true
all_fit cols keys all n i [] h = refl
all_fit cols keys all n i (a ∷ gs) h =
    let f = at_front all i a gs h in
    both_true (aggregate_fits cols (merged (keys + i) a)) (list_all (aggregate_fits cols) (merged_from keys (suc i) gs)) (merged_fits cols keys (keys + i) i a (n i a f.0)) (all_fit cols keys all n (suc i) gs f.1)

pub aggregates_seen : (ls : List Leaf) (keys : List ℕ) (gs : List Aggregate) → map (aggregate_view (row_columns ls keys gs)) (merged_aggregates (length keys) gs) ≡ merging_terms (length keys) (map (aggregate_view ls) gs)
aggregates_seen ls keys gs =
    let first : length keys ≡ length keys + 0 = omega arith in
    all_seen ls (row_columns ls keys gs) (length keys) gs (aggregate_there ls keys gs) 0 (length keys) gs first refl

pub aggregates_fit : (ls : List Leaf) (keys : List ℕ) (gs : List Aggregate) → list_all (aggregate_fits (row_columns ls keys gs)) (merged_aggregates (length keys) gs) ≡ true
aggregates_fit ls keys gs = all_fit (row_columns ls keys gs) (length keys) gs (aggregate_there ls keys gs) 0 gs refl

pub terms_count : (n : ℕ) (ts : List query.GroupTerm) → length (merging_terms n ts) ≡ length ts
terms_count n [] = refl
terms_count n (t ∷ ts) = ap suc (terms_count (suc n) ts)

-- ---- the root's items

term_at : (n : ℕ) (ts : List query.GroupTerm) (i : ℕ) (t : query.GroupTerm) → slice_get ts i ≡ Some t → slice_get (merging_terms n ts) i ≡ Some (merging_term (n + i) t)
term_at n [] i t h = cc
term_at n (u ∷ ts) zero t h = let e : u ≡ t = cc in ap₂ (λ m x. Some (merging_term m x)) (at_zero n) e
term_at n (u ∷ ts) (suc i) t h = term_at (suc n) ts i t h ∙ ap (λ m. Some (merging_term m t)) (one_on n i)

pub root_seen : (ls : List Leaf) (all : List Aggregate) (keys : ℕ) (items : List GroupItem) (i c : ℕ) → c ≡ keys + i → are_numbered i (numbers_of items) (length (drop i all)) ≡ true
    → map (group_item_view (merging_terms keys (map (aggregate_view ls) all))) items ≡ root_items c (map (group_item_view (map (aggregate_view ls) all)) items)
root_seen ls all keys [] i c e h = refl
root_seen ls all keys (item ∷ items) i c e h = by item.term h (root_seen ls all keys items)
  where
    by : (t : GroupTerm) → are_numbered i (cons_option (aggregate_number t) (numbers_of items)) (length (drop i all)) ≡ true
        → ((j d : ℕ) → d ≡ keys + j → are_numbered j (numbers_of items) (length (drop j all)) ≡ true
        → map (group_item_view (merging_terms keys (map (aggregate_view ls) all))) items ≡ root_items d (map (group_item_view (map (aggregate_view ls) all)) items))
        → record { name = string_bytes item.name; term = group_term_view (merging_terms keys (map (aggregate_view ls) all)) t } ∷ map (group_item_view (merging_terms keys (map (aggregate_view ls) all))) items
        ≡ record { name = string_bytes item.name; term = merging_term c (group_term_view (map (aggregate_view ls) all) t) }
        ∷ root_items (column_behind c (group_term_view (map (aggregate_view ls) all) t)) (map (group_item_view (map (aggregate_view ls) all)) items)
    by (GroupTerm.Key q) g r = ap (λ is. record { name = string_bytes item.name; term = query.key q } ∷ is) (r i c e g)
    by (GroupTerm.Aggregate a) g r =
        let w = next_aggregate all i a (numbers_of items) g in
        let v : slice_get (map (aggregate_view ls) all) a ≡ Some (aggregate_view ls w.found) = ap (slice_get (map (aggregate_view ls) all)) w.same ∙ viewed ls all i w.found w.there in
        let u : slice_get (merging_terms keys (map (aggregate_view ls) all)) a ≡ Some (merging_term (keys + i) (aggregate_view ls w.found)) =
        ap (slice_get (merging_terms keys (map (aggregate_view ls) all))) w.same ∙ term_at keys (map (aggregate_view ls) all) i (aggregate_view ls w.found) (viewed ls all i w.found w.there) in
        ap₂ (λ (t : query.GroupTerm) is. record { name = string_bytes item.name; term = t } ∷ is)
        (ap found_term u ∙ (ap (λ m. merging_term m (aggregate_view ls w.found)) (sym e) ∙ sym (ap (λ o. merging_term c (found_term o)) v)))
        (r (suc i) (suc c) (at_column keys i c e) w.behind
        ∙ ap (λ d. root_items d (map (group_item_view (map (aggregate_view ls) all)) items)) (sym (ap (λ o. column_behind c (found_term o)) v ∙ column_behind_aggregate ls c w.found)))

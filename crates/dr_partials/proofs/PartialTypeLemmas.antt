-- Partials of one query: they can be merged in any grouping, groups in any order, and give a partial of the query.
use Rattle.std.proofs.Common.{◌≡◌, ℕ, ◌+◌, List, [], ◌∷◌, map, Bool, true, false, ◌&&◌, Option, Some, None, refl, sym, ap, ap₂, ◌∙◌, true≢false, append_assoc, append-nil}
use Rattle.std.specs.Prelude.{if◌then◌else◌, ℤ, ◌+ℤ◌}
use Rattle.std.specs.List.{filter_map, cons_option, list_all}
use Rattle.std.specs.Ordering.{is_lt, match_ordering}
use Rattle.std.specs.declared.cmp.Ordering.{Ordering}
use Rattle.std.specs.declared.cmp.Ordering.TheVariants.{Less, Equal, Greater}
use Rattle.std.proofs.lemmas.Bool.{and_parts}
use Rattle.std.proofs.lemmas.List.Folds.{list_all-append}
use Rattle.dr_meaning.specs.Schema.{Fields}
use Rattle.dr_meaning.specs.Path.{Step}
use Rattle.dr_meaning.specs.Record.{Value}
use Rattle.dr_meaning.specs.Query.{Aggregate, count, sum, least, greatest, GroupTerm, key, count_rows, aggregate, GroupItem, Selection, objects, groups, levels_of, value_order, smaller, larger, tuple_order, count_value}
use Rattle.dr_meaning.specs.BoundExpression.{ValueType}
use Rattle.dr_partials.specs.Accumulators.{Accumulator, counted, summed, least_of, greatest_of, aggregate_of, empty_accumulator, join_options, join, result_of}
use Rattle.dr_partials.specs.Partials.{Group, Partial, lines, grouped, join_all, join_groups, insert_group, merge_groups, merge, empty_term, empty_selected, empty_partial}
use Rattle.dr_partials.specs.PartialTypes.{expression_type, has_type, are_keys, is_accumulator, with_aggregate, aggregates_among, are_accumulators, is_group, ascends, is_one_without_keys, shape_of, object_has_shape, is_of_selection, is_partial}
use Rattle.dr_partials.specs.PartialLaws.{MergeIsAssociative, MergeIsCommutative, EmptyMergesToSame, EmptyIsPartial, MergedIsPartial, OneGroupWithoutKeys, CountIsNumber}
use Rattle.dr_partials.proofs.AccumulatorLemmas.{OfOne, counts, sums, leasts, greatests, of_one, empty_left, empty_right}
use Rattle.dr_partials.proofs.GroupLemmas.{Tuple, Ascending, ascending_groups, ascending_ascends, merged_ascends, AllOfKinds, merge_groups_assoc, merge_groups_comm, merge_groups_none}

-- ---- which aggregates

abbrev pub term_aggregate : GroupTerm → Aggregate
term_aggregate (key i) = count
term_aggregate count_rows = count
term_aggregate (aggregate a e) = a

abbrev pub kinds_of : List GroupItem → List Aggregate
kinds_of items = map term_aggregate (aggregates_among items)

accumulator_kind : (fs : Fields) (t : GroupTerm) (x : Accumulator) → is_accumulator fs t x ≡ true → aggregate_of x ≡ term_aggregate t
accumulator_kind fs count_rows (counted n) h = refl
accumulator_kind fs (aggregate count e) (counted n) h = refl
accumulator_kind fs (aggregate sum e) (summed s) h = refl
accumulator_kind fs (aggregate least e) (least_of v) h = refl
accumulator_kind fs (aggregate greatest e) (greatest_of v) h = refl
accumulator_kind fs (key i) x h = absurd (true≢false (sym h))
accumulator_kind fs count_rows (summed s) h = absurd (true≢false (sym h))
accumulator_kind fs count_rows (least_of v) h = absurd (true≢false (sym h))
accumulator_kind fs count_rows (greatest_of v) h = absurd (true≢false (sym h))
accumulator_kind fs (aggregate count e) (summed s) h = absurd (true≢false (sym h))
accumulator_kind fs (aggregate count e) (least_of v) h = absurd (true≢false (sym h))
accumulator_kind fs (aggregate count e) (greatest_of v) h = absurd (true≢false (sym h))
accumulator_kind fs (aggregate sum e) (counted n) h = absurd (true≢false (sym h))
accumulator_kind fs (aggregate sum e) (least_of v) h = absurd (true≢false (sym h))
accumulator_kind fs (aggregate sum e) (greatest_of v) h = absurd (true≢false (sym h))
accumulator_kind fs (aggregate least e) (counted n) h = absurd (true≢false (sym h))
accumulator_kind fs (aggregate least e) (summed s) h = absurd (true≢false (sym h))
accumulator_kind fs (aggregate least e) (greatest_of v) h = absurd (true≢false (sym h))
accumulator_kind fs (aggregate greatest e) (counted n) h = absurd (true≢false (sym h))
accumulator_kind fs (aggregate greatest e) (summed s) h = absurd (true≢false (sym h))
accumulator_kind fs (aggregate greatest e) (least_of v) h = absurd (true≢false (sym h))

accumulator_kinds : (fs : Fields) (ts : List GroupTerm) (xs : List Accumulator) → are_accumulators fs ts xs ≡ true → map aggregate_of xs ≡ map term_aggregate ts
accumulator_kinds fs [] [] h = refl
accumulator_kinds fs [] (x ∷ xs) h = absurd (true≢false (sym h))
accumulator_kinds fs (t ∷ ts) [] h = absurd (true≢false (sym h))
accumulator_kinds fs (t ∷ ts) (x ∷ xs) h =
    let k = and_parts (is_accumulator fs t x) (are_accumulators fs ts xs) h in
    ap₂ (λ a as′. a ∷ as′) (accumulator_kind fs t x k.0) (accumulator_kinds fs ts xs k.1)

group_kinds : (fs : Fields) (keys : List (List Step)) (items : List GroupItem) (gs : List Group) → list_all (is_group fs keys items) gs ≡ true → AllOfKinds (kinds_of items) gs
group_kinds fs keys items [] h = tt
group_kinds fs keys items (g ∷ gs) h =
    let k = and_parts (is_group fs keys items g) (list_all (is_group fs keys items) gs) h in
    let l = and_parts (are_keys fs keys g.keys) (are_accumulators fs (aggregates_among items) g.accumulators) k.0 in
    (accumulator_kinds fs (aggregates_among items) g.accumulators l.1, group_kinds fs keys items gs k.1)

-- what is known of groups that are a partial of a query
pub record AreGroups (fs : Fields) (keys : List (List Step)) (items : List GroupItem) (gs : List Group) : Type 0 where
  pub each : list_all (is_group fs keys items) gs ≡ true
  pub ascending : Ascending gs
  pub one : is_one_without_keys keys gs ≡ true

pub are_groups : (fs : Fields) (keys : List (List Step)) (items : List GroupItem) (gs : List Group) → is_of_selection fs (groups keys items) (grouped gs) ≡ true → AreGroups fs keys items gs
are_groups fs keys items gs h =
    let k = and_parts (list_all (is_group fs keys items) gs && ascends (map (λ (g : Group). g.keys) gs)) (is_one_without_keys keys gs) h in
    let l = and_parts (list_all (is_group fs keys items) gs) (ascends (map (λ (g : Group). g.keys) gs)) k.0 in
    record { each = l.0; ascending = ascending_groups gs l.1; one = k.1 }

pub kinds_are : (fs : Fields) (keys : List (List Step)) (items : List GroupItem) (gs : List Group) → AreGroups fs keys items gs → AllOfKinds (kinds_of items) gs
kinds_are fs keys items gs h = group_kinds fs keys items gs h.each

-- ---- associative, commutative

assoc_of : (fs : Fields) (s : Selection) (p r t : Partial) → is_of_selection fs s p ≡ true → is_of_selection fs s r ≡ true → is_of_selection fs s t ≡ true → merge (merge p r) t ≡ merge p (merge r t)
unfolding merge
assoc_of fs (objects items) (lines os) (lines ps) (lines qs) h k l = ap lines (append_assoc os ps qs)
assoc_of fs (objects items) (lines os) (lines ps) (grouped qs) h k l = absurd (true≢false (sym l))
assoc_of fs (objects items) (lines os) (grouped ps) t h k l = absurd (true≢false (sym k))
assoc_of fs (objects items) (grouped os) r t h k l = absurd (true≢false (sym h))
assoc_of fs (groups keys items) (grouped gs) (grouped hs) (grouped ks) h k l =
    let a = are_groups fs keys items gs h in
    let b = are_groups fs keys items hs k in
    let c = are_groups fs keys items ks l in
    ap grouped (merge_groups_assoc (kinds_of items) gs hs ks a.ascending b.ascending c.ascending (kinds_are fs keys items gs a) (kinds_are fs keys items hs b) (kinds_are fs keys items ks c))
assoc_of fs (groups keys items) (grouped gs) (grouped hs) (lines qs) h k l = absurd (true≢false (sym l))
assoc_of fs (groups keys items) (grouped gs) (lines ps) t h k l = absurd (true≢false (sym k))
assoc_of fs (groups keys items) (lines os) r t h k l = absurd (true≢false (sym h))

pub merge_is_associative : MergeIsAssociative
unfolding is_partial
merge_is_associative fs q p r s h k l = assoc_of fs q.selection p r s h k l

comm_of : (fs : Fields) (s : Selection) (gs hs : List Group) → is_of_selection fs s (grouped gs) ≡ true → is_of_selection fs s (grouped hs) ≡ true → merge (grouped gs) (grouped hs) ≡ merge (grouped hs) (grouped gs)
unfolding merge
comm_of fs (objects items) gs hs h k = absurd (true≢false (sym h))
comm_of fs (groups keys items) gs hs h k =
    let a = are_groups fs keys items gs h in
    let b = are_groups fs keys items hs k in
    ap grouped (merge_groups_comm (kinds_of items) gs hs a.ascending b.ascending (kinds_are fs keys items gs a) (kinds_are fs keys items hs b))

pub merge_is_commutative : MergeIsCommutative
unfolding is_partial
merge_is_commutative fs q gs hs h k = comm_of fs q.selection gs hs h k

-- ---- the empty partial

abbrev pub empties : List GroupItem → List Accumulator
empties items = filter_map (λ (i : GroupItem). empty_term i.term) items

pub empties_neutral : (items : List GroupItem) (xs : List Accumulator) → map aggregate_of xs ≡ kinds_of items → (join_all (empties items) xs ≡ xs) × (join_all xs (empties items) ≡ xs)
empties_neutral [] [] h = (refl, refl)
empties_neutral [] (x ∷ xs) h = absurd (cc)
empties_neutral (i ∷ items) xs h = by_term i.term xs h (empties_neutral items)
  where
    first_of : (a b : Aggregate) (as′ bs : List Aggregate) → a ∷ as′ ≡ b ∷ bs → a ≡ b
    first_of a b as′ bs e = cc

    rest_of : (a b : Aggregate) (as′ bs : List Aggregate) → a ∷ as′ ≡ b ∷ bs → as′ ≡ bs
    rest_of a b as′ bs e = cc

    both : (a : Aggregate) (x : Accumulator) (xs : List Accumulator) → aggregate_of x ≡ a → (join_all (empties items) xs ≡ xs) × (join_all xs (empties items) ≡ xs)
        → (join (empty_accumulator a) x ∷ join_all (empties items) xs ≡ x ∷ xs) × (join x (empty_accumulator a) ∷ join_all xs (empties items) ≡ x ∷ xs)
    both a x xs e r = (ap₂ (λ y ys. y ∷ ys) (empty_left a x e) r.0, ap₂ (λ y ys. y ∷ ys) (empty_right a x e) r.1)

    by_term : (g : GroupTerm) (xs : List Accumulator) → map aggregate_of xs ≡ map term_aggregate (with_aggregate g (aggregates_among items))
        → ((ys : List Accumulator) → map aggregate_of ys ≡ kinds_of items → (join_all (empties items) ys ≡ ys) × (join_all ys (empties items) ≡ ys))
        → (join_all (cons_option (empty_term g) (empties items)) xs ≡ xs) × (join_all xs (cons_option (empty_term g) (empties items)) ≡ xs)
    by_term (key j) xs e r = r xs e
    by_term count_rows [] e r = absurd (cc)
    by_term count_rows (x ∷ xs) e r = both count x xs (first_of _ _ _ _ e) (r xs (rest_of _ _ _ _ e))
    by_term (aggregate a f) [] e r = absurd (cc)
    by_term (aggregate a f) (x ∷ xs) e r = both a x xs (first_of _ _ _ _ e) (r xs (rest_of _ _ _ _ e))

pub no_keys : (fs : Fields) (t : Tuple) → are_keys fs [] t ≡ true → t ≡ []
no_keys fs [] h = refl
no_keys fs (v ∷ vs) h = absurd (true≢false (sym h))

abbrev first_group : List GroupItem → Group
first_group items = record { keys = []; accumulators = empties items }

one_neutral : (fs : Fields) (items : List GroupItem) (t : Tuple) (xs : List Accumulator) → t ≡ [] → map aggregate_of xs ≡ kinds_of items
    → (merge_groups (first_group items ∷ []) ((record { keys = t; accumulators = xs }) ∷ []) ≡ (record { keys = t; accumulators = xs }) ∷ [])
    × (merge_groups ((record { keys = t; accumulators = xs }) ∷ []) (first_group items ∷ []) ≡ (record { keys = t; accumulators = xs }) ∷ [])
one_neutral fs items [] xs e h =
    let n = empties_neutral items xs h in
    (ap (λ (ys : List Accumulator). (let r : Group = record { keys = []; accumulators = ys } in r) ∷ []) n.0, ap (λ (ys : List Accumulator). (let r : Group = record { keys = []; accumulators = ys } in r) ∷ []) n.1)
one_neutral fs items (v ∷ vs) xs e h = absurd (cc)

neutral_of : (fs : Fields) (s : Selection) (p : Partial) → is_of_selection fs s p ≡ true → (merge (empty_selected s) p ≡ p) × (merge p (empty_selected s) ≡ p)
unfolding merge
neutral_of fs (objects items) (lines os) h = (refl, ap lines (append-nil os))
neutral_of fs (objects items) (grouped gs) h = absurd (true≢false (sym h))
neutral_of fs (groups keys items) (lines os) h = absurd (true≢false (sym h))
neutral_of fs (groups (k ∷ ks) items) (grouped gs) h = (refl, ap grouped (merge_groups_none gs (are_groups fs (k ∷ ks) items gs h).ascending))
neutral_of fs (groups [] items) (grouped []) h = absurd (true≢false (sym h))
neutral_of fs (groups [] items) (grouped (g ∷ [])) h =
    let k = are_groups fs [] items (g ∷ []) h in
    let l = and_parts (is_group fs [] items g) true k.each in
    let m = and_parts (are_keys fs [] g.keys) (are_accumulators fs (aggregates_among items) g.accumulators) l.0 in
    let n = one_neutral fs items g.keys g.accumulators (no_keys fs g.keys m.0) (accumulator_kinds fs (aggregates_among items) g.accumulators m.1) in
    (ap grouped n.0, ap grouped n.1)
neutral_of fs (groups [] items) (grouped (g ∷ i ∷ gs)) h =
    let k = are_groups fs [] items (g ∷ i ∷ gs) h in
    absurd (true≢false (sym k.one))

pub empty_merges_to_same : EmptyMergesToSame
unfolding is_partial empty_partial
empty_merges_to_same fs q p h = neutral_of fs q.selection p h

no_value : (o : Option ValueType) → has_type o None ≡ true
no_value None = refl
no_value (Some t) = refl

empties_typed : (fs : Fields) (items : List GroupItem) → are_accumulators fs (aggregates_among items) (empties items) ≡ true
empties_typed fs [] = refl
empties_typed fs (i ∷ items) = by_term i.term (empties_typed fs items)
  where
    by_term : (g : GroupTerm) → are_accumulators fs (aggregates_among items) (empties items) ≡ true → are_accumulators fs (with_aggregate g (aggregates_among items)) (cons_option (empty_term g) (empties items)) ≡ true
    by_term (key j) r = r
    by_term count_rows r = r
    by_term (aggregate count e) r = r
    by_term (aggregate sum e) r = r
    by_term (aggregate least e) r = ap₂ (λ a b. a && b) (no_value (expression_type fs e)) r
    by_term (aggregate greatest e) r = ap₂ (λ a b. a && b) (no_value (expression_type fs e)) r

empty_of : (fs : Fields) (s : Selection) → is_of_selection fs s (empty_selected s) ≡ true
empty_of fs (objects items) = refl
empty_of fs (groups (k ∷ ks) items) = refl
empty_of fs (groups [] items) = ap (λ b. b && true && true && true) (empties_typed fs items)

pub empty_is_partial : EmptyIsPartial
unfolding is_partial empty_partial
empty_is_partial fs q = empty_of fs q.selection

-- ---- what is merged

count_typed : (fs : Fields) (t : GroupTerm) (m n : ℕ) → is_accumulator fs t (counted m) ≡ true → is_accumulator fs t (counted n) ≡ true
count_typed fs (aggregate count e) m n h = h
count_typed fs _ m n h = h

sum_typed : (fs : Fields) (t : GroupTerm) (r s : Option ℤ) → is_accumulator fs t (summed r) ≡ true → is_accumulator fs t (summed s) ≡ true
sum_typed fs (aggregate sum e) r s h = h
sum_typed fs _ r s h = h

better_typed : (better : Value → Value → Value) → ((P : Value → Type 0) (a b : Value) → P a → P b → P (better a b)) → (o : Option ValueType) (v w : Option Value) → has_type o v ≡ true → has_type o w ≡ true → has_type o (join_options better v w) ≡ true
better_typed better f o None w h k = k
better_typed better f o (Some a) None h k = h
better_typed better f o (Some a) (Some b) h k = f (λ (x : Value). has_type o (Some x) ≡ true) a b h k

smaller_is : (P : Value → Type 0) (a b : Value) → P a → P b → P (smaller a b)
smaller_is P a b h k = by_test (is_lt (value_order b a))
  where
    by_test : (x : Bool) → P (if x then b else a)
    by_test true = k
    by_test false = h

larger_is : (P : Value → Type 0) (a b : Value) → P a → P b → P (larger a b)
larger_is P a b h k = by_test (is_lt (value_order a b))
  where
    by_test : (x : Bool) → P (if x then b else a)
    by_test true = k
    by_test false = h

least_typed : (fs : Fields) (t : GroupTerm) (v w : Option Value) → is_accumulator fs t (least_of v) ≡ true → is_accumulator fs t (least_of w) ≡ true → is_accumulator fs t (least_of (join_options smaller v w)) ≡ true
least_typed fs (aggregate least e) v w h k = better_typed smaller smaller_is (expression_type fs e) v w h k
least_typed fs _ v w h k = h

greatest_typed : (fs : Fields) (t : GroupTerm) (v w : Option Value) → is_accumulator fs t (greatest_of v) ≡ true → is_accumulator fs t (greatest_of w) ≡ true → is_accumulator fs t (greatest_of (join_options larger v w)) ≡ true
greatest_typed fs (aggregate greatest e) v w h k = better_typed larger larger_is (expression_type fs e) v w h k
greatest_typed fs _ v w h k = h

pub joined_of : (fs : Fields) (t : GroupTerm) (x y : Accumulator) → OfOne x y → is_accumulator fs t x ≡ true → is_accumulator fs t y ≡ true → is_accumulator fs t (join x y) ≡ true
joined_of fs t _ _ (counts m n) h k = count_typed fs t m (m + n) h
joined_of fs t _ _ (sums r s) h k = sum_typed fs t r (join_options (λ x y. x +ℤ y) r s) h
joined_of fs t _ _ (leasts v w) h k = least_typed fs t v w h k
joined_of fs t _ _ (greatests v w) h k = greatest_typed fs t v w h k

joined_typed : (fs : Fields) (ts : List GroupTerm) (xs ys : List Accumulator) → are_accumulators fs ts xs ≡ true → are_accumulators fs ts ys ≡ true → are_accumulators fs ts (join_all xs ys) ≡ true
joined_typed fs [] [] ys h k = refl
joined_typed fs [] (x ∷ xs) ys h k = absurd (true≢false (sym h))
joined_typed fs (t ∷ ts) [] ys h k = absurd (true≢false (sym h))
joined_typed fs (t ∷ ts) (x ∷ xs) [] h k = absurd (true≢false (sym k))
joined_typed fs (t ∷ ts) (x ∷ xs) (y ∷ ys) h k =
    let a = and_parts (is_accumulator fs t x) (are_accumulators fs ts xs) h in
    let b = and_parts (is_accumulator fs t y) (are_accumulators fs ts ys) k in
    ap₂ (λ p q. p && q) (joined_of fs t x y (of_one x y (accumulator_kind fs t x a.0 ∙ sym (accumulator_kind fs t y b.0))) a.0 b.0) (joined_typed fs ts xs ys a.1 b.1)

joined_group : (fs : Fields) (keys : List (List Step)) (items : List GroupItem) (g h : Group) → is_group fs keys items g ≡ true → is_group fs keys items h ≡ true → is_group fs keys items (join_groups g h) ≡ true
joined_group fs keys items g h a b =
    let k = and_parts (are_keys fs keys g.keys) (are_accumulators fs (aggregates_among items) g.accumulators) a in
    let l = and_parts (are_keys fs keys h.keys) (are_accumulators fs (aggregates_among items) h.accumulators) b in
    ap₂ (λ p q. p && q) k.0 (joined_typed fs (aggregates_among items) g.accumulators h.accumulators k.1 l.1)

inserted_groups : (fs : Fields) (keys : List (List Step)) (items : List GroupItem) (g : Group) (hs : List Group) → is_group fs keys items g ≡ true → list_all (is_group fs keys items) hs ≡ true → list_all (is_group fs keys items) (insert_group g hs) ≡ true
inserted_groups fs keys items g [] a b = ap (λ p. p && true) a
inserted_groups fs keys items g (h ∷ hs) a b =
    let k = and_parts (is_group fs keys items h) (list_all (is_group fs keys items) hs) b in
    by_order (tuple_order g.keys h.keys) k.0 k.1 (inserted_groups fs keys items g hs a k.1)
  where
    by_order : (o : Ordering) → is_group fs keys items h ≡ true → list_all (is_group fs keys items) hs ≡ true → list_all (is_group fs keys items) (insert_group g hs) ≡ true
        → list_all (is_group fs keys items) (match_ordering o (g ∷ h ∷ hs) (join_groups g h ∷ hs) (h ∷ insert_group g hs)) ≡ true
    by_order Less k l r = ap₂ (λ p q. p && q) a b
    by_order Equal k l r = ap₂ (λ p q. p && q) (joined_group fs keys items g h a k) l
    by_order Greater k l r = ap₂ (λ p q. p && q) k r

merged_groups : (fs : Fields) (keys : List (List Step)) (items : List GroupItem) (gs hs : List Group) → list_all (is_group fs keys items) gs ≡ true → list_all (is_group fs keys items) hs ≡ true → list_all (is_group fs keys items) (merge_groups gs hs) ≡ true
merged_groups fs keys items [] hs a b = b
merged_groups fs keys items (g ∷ gs) hs a b =
    let k = and_parts (is_group fs keys items g) (list_all (is_group fs keys items) gs) a in
    inserted_groups fs keys items g (merge_groups gs hs) k.0 (merged_groups fs keys items gs hs k.1 b)

one_merged : (fs : Fields) (items : List GroupItem) (gs hs : List Group) → list_all (is_group fs [] items) gs ≡ true → list_all (is_group fs [] items) hs ≡ true → is_one_without_keys [] gs ≡ true → is_one_without_keys [] hs ≡ true
    → is_one_without_keys [] (merge_groups gs hs) ≡ true
one_merged fs items [] hs a b c d = absurd (true≢false (sym c))
one_merged fs items (g ∷ i ∷ gs) hs a b c d = absurd (true≢false (sym c))
one_merged fs items (g ∷ []) [] a b c d = absurd (true≢false (sym d))
one_merged fs items (g ∷ []) (h ∷ i ∷ hs) a b c d = absurd (true≢false (sym d))
one_merged fs items (g ∷ []) (h ∷ []) a b c d =
    let k = and_parts (are_keys fs [] g.keys) (are_accumulators fs (aggregates_among items) g.accumulators) (and_parts (is_group fs [] items g) true a).0 in
    let l = and_parts (are_keys fs [] h.keys) (are_accumulators fs (aggregates_among items) h.accumulators) (and_parts (is_group fs [] items h) true b).0 in
    ap₂ (λ (t u : Tuple). is_one_without_keys [] (match_ordering (tuple_order t u) (g ∷ h ∷ []) (join_groups g h ∷ []) (h ∷ g ∷ []))) (no_keys fs g.keys k.0) (no_keys fs h.keys l.0)

one_of_keys : (fs : Fields) (keys : List (List Step)) (items : List GroupItem) (gs hs : List Group) → AreGroups fs keys items gs → AreGroups fs keys items hs → is_one_without_keys keys (merge_groups gs hs) ≡ true
one_of_keys fs [] items gs hs a b = one_merged fs items gs hs a.each b.each a.one b.one
one_of_keys fs (k ∷ ks) items gs hs a b = refl

merged_of : (fs : Fields) (s : Selection) (p r : Partial) → is_of_selection fs s p ≡ true → is_of_selection fs s r ≡ true → is_of_selection fs s (merge p r) ≡ true
unfolding merge
merged_of fs (objects items) (lines os) (lines ps) h k = list_all-append (object_has_shape (shape_of items (levels_of fs))) os ps ∙ ap₂ (λ a b. a && b) h k
merged_of fs (objects items) (lines os) (grouped hs) h k = absurd (true≢false (sym k))
merged_of fs (objects items) (grouped gs) r h k = absurd (true≢false (sym h))
merged_of fs (groups keys items) (lines os) r h k = absurd (true≢false (sym h))
merged_of fs (groups keys items) (grouped gs) (lines ps) h k = absurd (true≢false (sym k))
merged_of fs (groups keys items) (grouped gs) (grouped hs) h k =
    let a = are_groups fs keys items gs h in
    let b = are_groups fs keys items hs k in
    let c : list_all (is_group fs keys items) (merge_groups gs hs) ≡ true = merged_groups fs keys items gs hs a.each b.each in
    let d : ascends (map (λ (g : Group). g.keys) (merge_groups gs hs)) ≡ true = ascending_ascends (merge_groups gs hs) (merged_ascends gs hs b.ascending) in
    ap₂ (λ x y. x && y) (ap₂ (λ x y. x && y) c d) (one_of_keys fs keys items gs hs a b)

pub merged_is_partial : MergedIsPartial
unfolding is_partial
merged_is_partial fs q p r h k = merged_of fs q.selection p r h k

-- ---- without GROUP BY

one_group : (fs : Fields) (items : List GroupItem) (p : Partial) → is_of_selection fs (groups [] items) p ≡ true → (g : Group) × (p ≡ grouped (g ∷ [])) × (g.keys ≡ [])
one_group fs items (lines os) h = absurd (true≢false (sym h))
one_group fs items (grouped []) h = absurd (true≢false (sym h))
one_group fs items (grouped (g ∷ [])) h =
    let a = are_groups fs [] items (g ∷ []) h in
    let k = and_parts (is_group fs [] items g) true a.each in
    let l = and_parts (are_keys fs [] g.keys) (are_accumulators fs (aggregates_among items) g.accumulators) k.0 in
    (g, refl, no_keys fs g.keys l.0)
one_group fs items (grouped (g ∷ i ∷ gs)) h = let a = are_groups fs [] items (g ∷ i ∷ gs) h in absurd (true≢false (sym a.one))

pub one_group_without_keys : OneGroupWithoutKeys
unfolding is_partial
one_group_without_keys fs c items p h = one_group fs items p h

counted_result : (x : Accumulator) → aggregate_of x ≡ count → (n : ℕ) × (result_of x ≡ count_value n)
counted_result (counted n) h = (n, refl)
counted_result (summed s) h = absurd (cc)
counted_result (least_of v) h = absurd (cc)
counted_result (greatest_of v) h = absurd (cc)

pub count_is_number : CountIsNumber
count_is_number fs (key i) h = absurd (true≢false (sym h))
count_is_number fs count_rows h = (refl, λ x k. counted_result x (accumulator_kind fs count_rows x k))
count_is_number fs (aggregate count e) h = (refl, λ x k. counted_result x (accumulator_kind fs (aggregate count e) x k))
count_is_number fs (aggregate sum e) h = absurd (true≢false (sym h))
count_is_number fs (aggregate least e) h = absurd (true≢false (sym h))
count_is_number fs (aggregate greatest e) h = absurd (true≢false (sym h))

-- What is put of records into groups is what is merged with the partial of the records; puts commute.
use Rattle.std.proofs.Common.{◌≡◌, ℕ, zero, suc, ◌+◌, List, [], ◌∷◌, ◌++◌, map, length, Bool, true, false, ◌||◌, Option, Some, None, cond, refl, sym, ap, ap₂, ◌∙◌, subst, true≢false, append_assoc, length-append, arith}
use Rattle.std.specs.Prelude.{if◌then◌else◌, filter}
use Rattle.std.specs.List.{list_all, filter_map, flat_map, cons_option}
use Rattle.std.proofs.lemmas.Bool.{and_parts}
use Rattle.std.proofs.lemmas.List.{length-map}
use Rattle.std.specs.Ordering.{is_eq, match_ordering}
use Rattle.std.specs.declared.cmp.Ordering.{Ordering}
use Rattle.std.specs.declared.cmp.Ordering.TheVariants.{Less, Equal, Greater}
use Rattle.dr_meaning.specs.Schema.{Fields}
use Rattle.dr_meaning.specs.Path.{Step, longer}
use Rattle.dr_meaning.specs.Record.{Value, Node, is_record}
use Rattle.dr_meaning.specs.Rows.{rows}
use Rattle.dr_meaning.specs.Expression.{Expression, evaluate, expression_chain, longest_chain}
use Rattle.dr_meaning.specs.Kept.{kept}
use Rattle.dr_meaning.specs.Query.{Aggregate, count, GroupTerm, key, count_rows, aggregate, GroupItem, Selection, objects, groups, Query, key_tuple, tuple_order, distinct_tuples, group_rows}
use Rattle.dr_partials.specs.Accumulators.{Accumulator, counted, summed, least_of, greatest_of, aggregate_of, accumulator_of_cell, join_options, join, take_value, take_row, accumulated}
use Rattle.dr_partials.specs.Partials.{Group, grouped, partial_of, join_all, merge_groups, merge, empty_term}
use Rattle.dr_partials.specs.PartialTypes.{with_aggregate, aggregates_among, is_of_selection, is_partial}
use Rattle.dr_partials.specs.PartialLaws.{is_mergeable_selection}
use Rattle.dr_partials.specs.Putting.{Taken, Put, take_one, take_at, taken_into, empty_accumulators, put_into, put_group, put_selected, put, put_all, puts_of_rows, puts_of_terms, puts_of_selection, puts_of, PutsAreMerged, PutsCommute}
use Rattle.dr_partials.proofs.ValueOrders.{tuple_order_exact}
use Rattle.dr_partials.proofs.AccumulatorLemmas.{join_is_associative, join_is_commutative, cell_aggregate, accumulated_aggregate, empty_right}
use Rattle.dr_partials.proofs.GroupLemmas.{Tuple, same_tuple, same_is, same_back, AllAbove, Ascending, above_greater, less_back, find, find_above, find_later, found_alike, merged_ascends, find_merged, OfKinds, AllOfKinds, FoundOfKinds, found_kinds, first_of, rest_of, among, groups_at, find_at, among_distinct, distinct_ascends}
use Rattle.dr_partials.proofs.RowLemmas.{Each, tuples_of, records_single, single_kept}
use Rattle.dr_partials.proofs.PartialLemmas.{accumulators_at, NoRows, no_rows, elsewhere, empties_left, mergeable_related}
use Rattle.dr_partials.proofs.PartialTypeLemmas.{term_aggregate, kinds_of, are_groups, kinds_are, empties_neutral, no_keys}
use Rattle.dr_partials.proofs.RewritingLemmas.{AreAggregates, among_are, terms_at, items_terms}

-- ---- what is found after a put

abbrev or_empty : List GroupItem → Option (List Accumulator) → List Accumulator
or_empty items None = empty_accumulators items
or_empty items (Some xs) = xs

abbrev found_put : List GroupItem → Tuple → Put → Option (List Accumulator) → Option (List Accumulator)
found_put items t p o = if same_tuple t p.keys then Some (taken_into (aggregates_among items) p.taken (or_empty items o)) else o

above_put : (s : Tuple) (items : List GroupItem) (p : Put) (gs : List Group) → tuple_order s p.keys ≡ Less → AllAbove s gs → AllAbove s (put_group items p gs)
above_put s items p [] h a = (h, tt)
above_put s items p (g ∷ gs) h a = by_order (tuple_order p.keys g.keys) (above_put s items p gs h a.1)
  where
    by_order : (o : Ordering) → AllAbove s (put_group items p gs) → AllAbove s (match_ordering o (put_into items p (empty_accumulators items) ∷ g ∷ gs) (put_into items p g.accumulators ∷ gs) (g ∷ put_group items p gs))
    by_order Less r = (h, a)
    by_order Equal r = (h, a.1)
    by_order Greater r = (a.0, r)

put_ascends : (items : List GroupItem) (p : Put) (gs : List Group) → Ascending gs → Ascending (put_group items p gs)
put_ascends items p [] a = (tt, tt)
put_ascends items p (g ∷ gs) a = by_order (tuple_order p.keys g.keys) refl (put_ascends items p gs a.1)
  where
    by_order : (o : Ordering) → tuple_order p.keys g.keys ≡ o → Ascending (put_group items p gs) → Ascending (match_ordering o (put_into items p (empty_accumulators items) ∷ g ∷ gs) (put_into items p g.accumulators ∷ gs) (g ∷ put_group items p gs))
    by_order Less e r = ((e, above_greater p.keys g.keys gs e a.0), a)
    by_order Equal e r = (subst (λ (t : Tuple). AllAbove t gs) (sym (tuple_order_exact p.keys g.keys e)) a.0, a.1)
    by_order Greater e r = (above_put g.keys items p gs (less_back p.keys g.keys e) a.0, r)

find_put : (items : List GroupItem) (t : Tuple) (p : Put) (gs : List Group) → Ascending gs → find t (put_group items p gs) ≡ found_put items t p (find t gs)
find_put items t p [] a = refl
find_put items t p (g ∷ gs) a = by_order (tuple_order p.keys g.keys) refl (find_put items t p gs a.1)
  where
    before : tuple_order p.keys g.keys ≡ Less → (b : Bool) → same_tuple t p.keys ≡ b
        → (if b then Some (taken_into (aggregates_among items) p.taken (empty_accumulators items)) else find t (g ∷ gs)) ≡ (if b then Some (taken_into (aggregates_among items) p.taken (or_empty items (find t (g ∷ gs)))) else find t (g ∷ gs))
    before e true f =
        let q : tuple_order t g.keys ≡ Less = subst (λ (u : Tuple). tuple_order u g.keys ≡ Less) (sym (same_is t p.keys f)) e in
        ap (λ o. Some (taken_into (aggregates_among items) p.taken (or_empty items o))) (sym (find_above t (g ∷ gs) (q, above_greater t g.keys gs q a.0)))
    before e false f = refl

    at : p.keys ≡ g.keys → (b : Bool) → same_tuple t p.keys ≡ b
        → (if b then Some (taken_into (aggregates_among items) p.taken g.accumulators) else find t gs) ≡ (if b then Some (taken_into (aggregates_among items) p.taken (or_empty items (find t (g ∷ gs)))) else find t (g ∷ gs))
    at q true f = ap (λ x. Some (taken_into (aggregates_among items) p.taken (or_empty items (if x then Some g.accumulators else find t gs)))) (sym (ap (same_tuple t) (sym q) ∙ f))
    at q false f = sym (find_later t g gs (ap (same_tuple t) (sym q) ∙ f))

    behind : tuple_order p.keys g.keys ≡ Greater → (b : Bool) → same_tuple t g.keys ≡ b → find t (put_group items p gs) ≡ found_put items t p (find t gs)
        → (if b then Some g.accumulators else find t (put_group items p gs)) ≡ found_put items t p (if b then Some g.accumulators else find t gs)
    behind e true f r =
        let q : tuple_order t p.keys ≡ Less = subst (λ (u : Tuple). tuple_order u p.keys ≡ Less) (sym (same_is t g.keys f)) (less_back p.keys g.keys e) in
        ap (λ o. if is_eq o then Some (taken_into (aggregates_among items) p.taken g.accumulators) else Some g.accumulators) (sym q)
    behind e false f r = r

    by_order : (o : Ordering) → tuple_order p.keys g.keys ≡ o → find t (put_group items p gs) ≡ found_put items t p (find t gs)
        → find t (match_ordering o (put_into items p (empty_accumulators items) ∷ g ∷ gs) (put_into items p g.accumulators ∷ gs) (g ∷ put_group items p gs)) ≡ found_put items t p (find t (g ∷ gs))
    by_order Less e r = before e (same_tuple t p.keys) refl
    by_order Equal e r = at (tuple_order_exact p.keys g.keys e) (same_tuple t p.keys) refl
    by_order Greater e r = behind e (same_tuple t g.keys) refl r

-- ---- after several

abbrev put_groups : List GroupItem → List Put → List Group → List Group
put_groups items [] gs = gs
put_groups items (p ∷ ps) gs = put_groups items ps (put_group items p gs)

abbrev found_after : List GroupItem → Tuple → List Put → Option (List Accumulator) → Option (List Accumulator)
found_after items t [] o = o
found_after items t (p ∷ ps) o = found_after items t ps (found_put items t p o)

all_ascend : (items : List GroupItem) (ps : List Put) (gs : List Group) → Ascending gs → Ascending (put_groups items ps gs)
all_ascend items [] gs a = a
all_ascend items (p ∷ ps) gs a = all_ascend items ps (put_group items p gs) (put_ascends items p gs a)

find_after : (items : List GroupItem) (t : Tuple) (ps : List Put) (gs : List Group) → Ascending gs → find t (put_groups items ps gs) ≡ found_after items t ps (find t gs)
find_after items t [] gs a = refl
find_after items t (p ∷ ps) gs a = find_after items t ps (put_group items p gs) (put_ascends items p gs a) ∙ ap (found_after items t ps) (find_put items t p gs a)

after_append : (items : List GroupItem) (t : Tuple) (ps rs : List Put) (o : Option (List Accumulator)) → found_after items t (ps ++ rs) o ≡ found_after items t rs (found_after items t ps o)
after_append items t [] rs o = refl
after_append items t (p ∷ ps) rs o = after_append items t ps rs (found_put items t p o)

-- ---- one aggregate

abbrev take_each : GroupTerm → List (Option Value) → Accumulator → Accumulator
take_each t [] x = x
take_each t (v ∷ vs) x = take_each t vs (take_one t v x)

same_taken : (x : Accumulator) (v : Option Value) (a : Aggregate) → aggregate_of x ≡ a → take_value x v ≡ join x (accumulator_of_cell a v)
same_taken x v a e = ap (λ b. join x (accumulator_of_cell b v)) e

kept_kind : (x y : Accumulator) → aggregate_of (join x y) ≡ aggregate_of x
kept_kind (counted m) (counted n) = refl
kept_kind (summed s) (summed t) = refl
kept_kind (least_of v) (least_of w) = refl
kept_kind (greatest_of v) (greatest_of w) = refl
kept_kind _ _ = refl

values_taken : (a : Aggregate) (e : Expression) (vs : List (Option Value)) (x : Accumulator) → aggregate_of x ≡ a → take_each (aggregate a e) vs x ≡ join x (accumulated a vs)
values_taken a e [] x h = sym (empty_right a x h)
values_taken a e (v ∷ vs) x h =
    values_taken a e vs (take_value x v) (kept_kind x (accumulator_of_cell (aggregate_of x) v) ∙ h)
    ∙ (ap (λ y. join y (accumulated a vs)) (same_taken x v a h)
    ∙ join_is_associative x (accumulator_of_cell a v) (accumulated a vs) (h ∙ sym (cell_aggregate a v)) (cell_aggregate a v ∙ sym (accumulated_aggregate a vs)))

rows_taken : (vs : List (Option Value)) (x : Accumulator) → aggregate_of x ≡ count → take_each count_rows vs x ≡ join x (counted (length vs))
rows_taken [] x h = sym (empty_right count x h)
rows_taken (v ∷ vs) x h =
    let n : 1 + length vs ≡ suc (length vs) = omega arith in
    rows_taken vs (take_row x) (kept_kind x (counted 1) ∙ h)
    ∙ (join_is_associative x (counted 1) (counted (length vs)) h refl ∙ ap (λ m. join x (counted m)) n)

at_place : (front rest : List GroupTerm) (t : GroupTerm) (v : Option Value) (fx rx : List Accumulator) (x : Accumulator) → length fx ≡ length front → take_at (front ++ t ∷ rest) (length front) v (fx ++ x ∷ rx) ≡ fx ++ take_one t v x ∷ rx
at_place [] rest t v [] rx x h = refl
at_place [] rest t v (y ∷ fx) rx x h = absurd (omega (arith, h))
at_place (u ∷ front) rest t v [] rx x h = absurd (omega (arith, h))
at_place (u ∷ front) rest t v (y ∷ fx) rx x h = ap (λ ys. y ∷ ys) (at_place front rest t v fx rx x (omega (arith, h)))

-- a group that is there, after the rows of one aggregate
section_found : (items : List GroupItem) (keys : List (List Step)) (t : Tuple) (front rest : List GroupTerm) (term : GroupTerm) → aggregates_among items ≡ front ++ term ∷ rest
    → (value : Node → Option Value) (ns : List Node) (fx rx : List Accumulator) (x : Accumulator) → length fx ≡ length front
    → found_after items t (puts_of_rows keys (length front) value ns) (Some (fx ++ x ∷ rx)) ≡ Some (fx ++ take_each term (map value (filter (λ row. is_eq (tuple_order (key_tuple keys row) t)) ns)) x ∷ rx)
section_found items keys t front rest term e value [] fx rx x h = refl
section_found items keys t front rest term e value (n ∷ ns) fx rx x h =
    by_test (same_tuple (key_tuple keys n) t) (same_back t (key_tuple keys n)) (λ y. section_found items keys t front rest term e value ns fx rx y h)
  where
    others : List Node
    others = filter (λ row. is_eq (tuple_order (key_tuple keys row) t)) ns

    by_test : (b : Bool) → same_tuple t (key_tuple keys n) ≡ b
        → ((y : Accumulator) → found_after items t (puts_of_rows keys (length front) value ns) (Some (fx ++ y ∷ rx)) ≡ Some (fx ++ take_each term (map value (filter (λ row. is_eq (tuple_order (key_tuple keys row) t)) ns)) y ∷ rx))
        → found_after items t (puts_of_rows keys (length front) value ns) (if same_tuple t (key_tuple keys n) then Some (take_at (aggregates_among items) (length front) (value n) (fx ++ x ∷ rx)) else Some (fx ++ x ∷ rx))
        ≡ Some (fx ++ take_each term (map value (cond b (n ∷ filter (λ row. is_eq (tuple_order (key_tuple keys row) t)) ns) (filter (λ row. is_eq (tuple_order (key_tuple keys row) t)) ns))) x ∷ rx)
    by_test true f r =
        ap (λ b. found_after items t (puts_of_rows keys (length front) value ns) (if b then Some (take_at (aggregates_among items) (length front) (value n) (fx ++ x ∷ rx)) else Some (fx ++ x ∷ rx))) f
        ∙ (ap (λ ts. found_after items t (puts_of_rows keys (length front) value ns) (Some (take_at ts (length front) (value n) (fx ++ x ∷ rx)))) e
        ∙ (ap (λ ys. found_after items t (puts_of_rows keys (length front) value ns) (Some ys)) (at_place front rest term (value n) fx rx x h) ∙ r (take_one term (value n) x)))
    by_test false f r =
        ap (λ b. found_after items t (puts_of_rows keys (length front) value ns) (if b then Some (take_at (aggregates_among items) (length front) (value n) (fx ++ x ∷ rx)) else Some (fx ++ x ∷ rx))) f ∙ r x

-- ---- all aggregates, of a group that is there

term_kinds : (t : GroupTerm) (ts : List GroupTerm) (x : Accumulator) (xs : List Accumulator) → map aggregate_of (x ∷ xs) ≡ map term_aggregate (t ∷ ts) → (aggregate_of x ≡ term_aggregate t) × (map aggregate_of xs ≡ map term_aggregate ts)
term_kinds t ts x xs h = (first_of _ _ _ _ h, rest_of _ _ _ _ h)

next_length : {A : Type 0} (xs : List A) (x : A) → length (xs ++ x ∷ []) ≡ suc (length xs)
next_length xs x = let e = length-append xs (x ∷ []) in omega (arith, e)

sections_found : (items : List GroupItem) (keys : List (List Step)) (t : Tuple) (ns : List Node) (front rest : List GroupTerm) → aggregates_among items ≡ front ++ rest → AreAggregates rest
    → (fx rx : List Accumulator) → length fx ≡ length front → map aggregate_of rx ≡ map term_aggregate rest
    → found_after items t (puts_of_terms keys (length front) rest ns) (Some (fx ++ rx)) ≡ Some (fx ++ join_all rx (terms_at keys t ns rest))
sections_found items keys t ns front [] e g fx [] l k = refl
sections_found items keys t ns front [] e g fx (x ∷ rx) l k = absurd (cc)
sections_found items keys t ns front (term ∷ rest) e g fx [] l k = absurd (cc)
sections_found items keys t ns front (key j ∷ rest) e g fx (x ∷ rx) l k = absurd g.0
sections_found items keys t ns front (count_rows ∷ rest) e g fx (x ∷ rx) l k =
    let rs : List Node = flat_map (rows (longest_chain keys)) ns in
    let q = term_kinds count_rows rest x rx k in
    let y : Accumulator = join x (counted (length (group_rows keys t (longest_chain keys) ns))) in
    let s : found_after items t (puts_of_rows keys (length front) (λ row. None) rs) (Some (fx ++ x ∷ rx)) ≡ Some (fx ++ y ∷ rx) =
    section_found items keys t front rest count_rows e (λ row. None) rs fx rx x l
    ∙ ap (λ z. Some (fx ++ z ∷ rx)) (rows_taken (map (λ row. None) (group_rows keys t (longest_chain keys) ns)) x q.0 ∙ ap (λ n. join x (counted n)) (length-map (group_rows keys t (longest_chain keys) ns) (λ (row : Node). None))) in
    after_append items t (puts_of_rows keys (length front) (λ row. None) rs) (puts_of_terms keys (suc (length front)) rest ns) (Some (fx ++ x ∷ rx))
    ∙ (ap (found_after items t (puts_of_terms keys (suc (length front)) rest ns)) (s ∙ ap Some (sym (append_assoc fx (y ∷ []) rx)))
    ∙ (ap (λ n. found_after items t (puts_of_terms keys n rest ns) (Some ((fx ++ y ∷ []) ++ rx))) (sym (next_length front count_rows))
    ∙ (sections_found items keys t ns (front ++ count_rows ∷ []) rest (e ∙ sym (append_assoc front (count_rows ∷ []) rest)) g.1 (fx ++ y ∷ []) rx (next_length fx y ∙ (ap suc l ∙ sym (next_length front count_rows))) q.1
    ∙ ap Some (append_assoc fx (y ∷ []) (join_all rx (terms_at keys t ns rest))))))
sections_found items keys t ns front (aggregate a f ∷ rest) e g fx (x ∷ rx) l k =
    let p : List Step = longer (longest_chain keys) (expression_chain f) in
    let rs : List Node = flat_map (rows p) ns in
    let q = term_kinds (aggregate a f) rest x rx k in
    let y : Accumulator = join x (accumulated a (map (evaluate f) (group_rows keys t p ns))) in
    let s : found_after items t (puts_of_rows keys (length front) (evaluate f) rs) (Some (fx ++ x ∷ rx)) ≡ Some (fx ++ y ∷ rx) =
    section_found items keys t front rest (aggregate a f) e (evaluate f) rs fx rx x l
    ∙ ap (λ z. Some (fx ++ z ∷ rx)) (values_taken a f (map (evaluate f) (group_rows keys t p ns)) x q.0) in
    after_append items t (puts_of_rows keys (length front) (evaluate f) rs) (puts_of_terms keys (suc (length front)) rest ns) (Some (fx ++ x ∷ rx))
    ∙ (ap (found_after items t (puts_of_terms keys (suc (length front)) rest ns)) (s ∙ ap Some (sym (append_assoc fx (y ∷ []) rx)))
    ∙ (ap (λ n. found_after items t (puts_of_terms keys n rest ns) (Some ((fx ++ y ∷ []) ++ rx))) (sym (next_length front (aggregate a f)))
    ∙ (sections_found items keys t ns (front ++ aggregate a f ∷ []) rest (e ∙ sym (append_assoc front (aggregate a f ∷ []) rest)) g.1 (fx ++ y ∷ []) rx (next_length fx y ∙ (ap suc l ∙ sym (next_length front (aggregate a f)))) q.1
    ∙ ap Some (append_assoc fx (y ∷ []) (join_all rx (terms_at keys t ns rest))))))

-- ---- a group that isn't there, and has no rows

no_section : (items : List GroupItem) (keys : List (List Step)) (t : Tuple) (i : ℕ) (value : Node → Option Value) (ns : List Node) → filter (λ row. is_eq (tuple_order (key_tuple keys row) t)) ns ≡ []
    → found_after items t (puts_of_rows keys i value ns) None ≡ None
no_section items keys t i value [] h = refl
no_section items keys t i value (n ∷ ns) h = by_test (same_tuple (key_tuple keys n) t) (same_back t (key_tuple keys n)) h (no_section items keys t i value ns)
  where
    by_test : (b : Bool) → same_tuple t (key_tuple keys n) ≡ b → cond b (n ∷ filter (λ row. is_eq (tuple_order (key_tuple keys row) t)) ns) (filter (λ row. is_eq (tuple_order (key_tuple keys row) t)) ns) ≡ []
        → (filter (λ row. is_eq (tuple_order (key_tuple keys row) t)) ns ≡ [] → found_after items t (puts_of_rows keys i value ns) None ≡ None)
        → found_after items t (puts_of_rows keys i value ns) (found_put items t (record { keys = key_tuple keys n; taken = Some (record { aggregate = i; value = value n }) }) None) ≡ None
    by_test true f g r = absurd (cc)
    by_test false f g r = ap (λ b. found_after items t (puts_of_rows keys i value ns) (if b then Some (taken_into (aggregates_among items) (Some (record { aggregate = i; value = value n })) (or_empty items None)) else None)) f ∙ r g

no_sections : (items : List GroupItem) (keys : List (List Step)) (t : Tuple) (ns : List Node) (i : ℕ) (ts : List GroupTerm) → Each (NoRows keys t ns) ts → found_after items t (puts_of_terms keys i ts ns) None ≡ None
no_sections items keys t ns i [] h = refl
no_sections items keys t ns i (key j ∷ ts) h = no_sections items keys t ns (suc i) ts h.1
no_sections items keys t ns i (count_rows ∷ ts) h =
    after_append items t (puts_of_rows keys i (λ row. None) (flat_map (rows (longest_chain keys)) ns)) (puts_of_terms keys (suc i) ts ns) None
    ∙ (ap (found_after items t (puts_of_terms keys (suc i) ts ns)) (no_section items keys t i (λ row. None) (flat_map (rows (longest_chain keys)) ns) h.0) ∙ no_sections items keys t ns (suc i) ts h.1)
no_sections items keys t ns i (aggregate a e ∷ ts) h =
    let rs : List Node = flat_map (rows (longer (longest_chain keys) (expression_chain e))) ns in
    after_append items t (puts_of_rows keys i (evaluate e) rs) (puts_of_terms keys (suc i) ts ns) None
    ∙ (ap (found_after items t (puts_of_terms keys (suc i) ts ns)) (no_section items keys t i (evaluate e) rs h.0) ∙ no_sections items keys t ns (suc i) ts h.1)

terms_without : (keys : List (List Step)) (t : Tuple) (ns : List Node) (items : List GroupItem) → Each (λ (i : GroupItem). NoRows keys t ns i.term) items → Each (NoRows keys t ns) (aggregates_among items)
terms_without keys t ns [] h = tt
terms_without keys t ns (i ∷ items) h = by_term i.term h.0 (terms_without keys t ns items h.1)
  where
    by_term : (g : GroupTerm) → NoRows keys t ns g → Each (NoRows keys t ns) (aggregates_among items) → Each (NoRows keys t ns) (with_aggregate g (aggregates_among items))
    by_term (key j) n r = r
    by_term count_rows n r = (n, r)
    by_term (aggregate a e) n r = (n, r)

-- ---- the groups that rows make

abbrev made : List (List Step) → List Node → List Put
made keys ns = map (λ (row : Node). record { keys = key_tuple keys row; taken = None }) ns

made_there : (items : List GroupItem) (keys : List (List Step)) (t : Tuple) (ns : List Node) (xs : List Accumulator) → found_after items t (made keys ns) (Some xs) ≡ Some xs
made_there items keys t [] xs = refl
made_there items keys t (n ∷ ns) xs = by_test (same_tuple t (key_tuple keys n)) (made_there items keys t ns xs)
  where
    by_test : (b : Bool) → found_after items t (made keys ns) (Some xs) ≡ Some xs → found_after items t (made keys ns) (if b then Some xs else Some xs) ≡ Some xs
    by_test true r = r
    by_test false r = r

made_of_none : (items : List GroupItem) (keys : List (List Step)) (t : Tuple) (ns : List Node) → found_after items t (made keys ns) None ≡ (if among t (map (key_tuple keys) ns) then Some (empty_accumulators items) else None)
made_of_none items keys t [] = refl
made_of_none items keys t (n ∷ ns) = by_test (same_tuple t (key_tuple keys n)) (made_of_none items keys t ns)
  where
    by_test : (b : Bool) → found_after items t (made keys ns) None ≡ (if among t (map (key_tuple keys) ns) then Some (empty_accumulators items) else None)
        → found_after items t (made keys ns) (if b then Some (empty_accumulators items) else None) ≡ (if b || among t (map (key_tuple keys) ns) then Some (empty_accumulators items) else None)
    by_test true r = made_there items keys t ns (empty_accumulators items)
    by_test false r = r

-- ---- what is put of records

-- a group that is there
put_there : (items : List GroupItem) (keys : List (List Step)) (t : Tuple) (ns : List Node) (xs : List Accumulator) → OfKinds (kinds_of items) xs
    → found_after items t (puts_of_selection (groups keys items) ns) (Some xs) ≡ Some (join_all xs (accumulators_at keys items ns t))
put_there items keys t ns xs k =
    after_append items t (made keys (flat_map (rows (longest_chain keys)) ns)) (puts_of_terms keys 0 (aggregates_among items) ns) (Some xs)
    ∙ (ap (found_after items t (puts_of_terms keys 0 (aggregates_among items) ns)) (made_there items keys t (flat_map (rows (longest_chain keys)) ns) xs)
    ∙ (sections_found items keys t ns [] (aggregates_among items) refl (among_are items) [] xs refl k
    ∙ ap (λ ys. Some (join_all xs ys)) (sym (items_terms keys items ns t))))

empty_kinds : (items : List GroupItem) → OfKinds (kinds_of items) (empty_accumulators items)
empty_kinds [] = refl
empty_kinds (i ∷ items) = by_term i.term (empty_kinds items)
  where
    by_term : (g : GroupTerm) → OfKinds (kinds_of items) (empty_accumulators items) → map aggregate_of (cons_option (empty_term g) (empty_accumulators items)) ≡ map term_aggregate (with_aggregate g (aggregates_among items))
    by_term (key j) r = r
    by_term count_rows r = ap (λ ks. count ∷ ks) r
    by_term (aggregate a e) r = ap₂ (λ k ks. k ∷ ks) (cell_aggregate a None) r

-- one that isn't
put_where_none : (items : List GroupItem) (keys : List (List Step)) (t : Tuple) (ns : List Node) → (among t (tuples_of keys (longest_chain keys) ns) ≡ false → Each (λ (i : GroupItem). NoRows keys t ns i.term) items)
    → found_after items t (puts_of_selection (groups keys items) ns) None ≡ (if among t (tuples_of keys (longest_chain keys) ns) then Some (accumulators_at keys items ns t) else None)
put_where_none items keys t ns h =
    after_append items t (made keys rs) (puts_of_terms keys 0 (aggregates_among items) ns) None
    ∙ (ap (found_after items t (puts_of_terms keys 0 (aggregates_among items) ns)) (made_of_none items keys t rs) ∙ by_test (among t (tuples_of keys (longest_chain keys) ns)) refl)
  where
    rs : List Node
    rs = flat_map (rows (longest_chain keys)) ns

    by_test : (b : Bool) → among t (tuples_of keys (longest_chain keys) ns) ≡ b
        → found_after items t (puts_of_terms keys 0 (aggregates_among items) ns) (if b then Some (empty_accumulators items) else None) ≡ (if b then Some (accumulators_at keys items ns t) else None)
    by_test true e = sections_found items keys t ns [] (aggregates_among items) refl (among_are items) [] (empty_accumulators items) refl (empty_kinds items)
        ∙ ap Some (ap (join_all (empty_accumulators items)) (sym (items_terms keys items ns t)) ∙ empties_left keys items ns t)
    by_test false e = no_sections items keys t ns 0 (aggregates_among items) (terms_without keys t ns items (h e))

-- ---- the groups that are put are the groups that are merged

abbrev record_groups : List (List Step) → List GroupItem → List Node → List Group
record_groups keys items ns = groups_at (accumulators_at keys items ns) (distinct_tuples (tuples_of keys (longest_chain keys) ns))

found_groups : (keys : List (List Step)) (items : List GroupItem) (ns : List Node) (t : Tuple)
    → find t (record_groups keys items ns) ≡ (if among t (tuples_of keys (longest_chain keys) ns) then Some (accumulators_at keys items ns t) else None)
found_groups keys items ns t = find_at (accumulators_at keys items ns) t (distinct_tuples (tuples_of keys (longest_chain keys) ns))
    ∙ ap (λ b. if b then Some (accumulators_at keys items ns t) else None) (among_distinct t (tuples_of keys (longest_chain keys) ns))

put_with_keys : (keys : List (List Step)) (items : List GroupItem) (ns : List Node) (gs : List Group) → Ascending gs → AllOfKinds (kinds_of items) gs
    → ((t : Tuple) → among t (tuples_of keys (longest_chain keys) ns) ≡ false → Each (λ (i : GroupItem). NoRows keys t ns i.term) items)
    → put_groups items (puts_of_selection (groups keys items) ns) gs ≡ merge_groups gs (record_groups keys items ns)
put_with_keys keys items ns gs a k h =
    found_alike _ (merge_groups gs (record_groups keys items ns)) (all_ascend items (puts_of_selection (groups keys items) ns) gs a) (merged_ascends gs (record_groups keys items ns) b)
    (λ t. find_after items t (puts_of_selection (groups keys items) ns) gs a ∙ (by_found t (find t gs) (found_kinds (kinds_of items) t gs k) ∙ sym (find_merged t gs (record_groups keys items ns) a b)))
  where
    b : Ascending (groups_at (accumulators_at keys items ns) (distinct_tuples (tuples_of keys (longest_chain keys) ns)))
    b = distinct_ascends (accumulators_at keys items ns) (tuples_of keys (longest_chain keys) ns)

    joined : (t : Tuple) (xs : List Accumulator) → OfKinds (kinds_of items) xs → (x : Bool) → among t (tuples_of keys (longest_chain keys) ns) ≡ x
        → Some (join_all xs (accumulators_at keys items ns t)) ≡ join_options join_all (Some xs) (if x then Some (accumulators_at keys items ns t) else None)
    joined t xs c true e = refl
    joined t xs c false e = ap Some (ap (join_all xs) (no_rows keys items ns t (h t e)) ∙ (empties_neutral items xs c).1)

    by_found : (t : Tuple) (o : Option (List Accumulator)) → FoundOfKinds (kinds_of items) o → found_after items t (puts_of_selection (groups keys items) ns) o ≡ join_options join_all o (find t (groups_at (accumulators_at keys items ns) (distinct_tuples (tuples_of keys (longest_chain keys) ns))))
    by_found t None c = put_where_none items keys t ns (h t) ∙ sym (found_groups keys items ns t)
    by_found t (Some xs) c = put_there items keys t ns xs c ∙ (joined t xs c (among t (tuples_of keys (longest_chain keys) ns)) refl ∙ ap (join_options join_all (Some xs)) (sym (found_groups keys items ns t)))

-- without keys there is one group, and each row has no keys
abbrev the_group : List Accumulator → Group
the_group xs = record { keys = []; accumulators = xs }

none_among : (t : Tuple) (ns : List Node) → same_tuple t [] ≡ false → among t (map (key_tuple []) ns) ≡ false
none_among t [] h = refl
none_among t (n ∷ ns) h = ap₂ (λ a b. a || b) h (none_among t ns h)

put_without_keys : (items : List GroupItem) (ns : List Node) (xs : List Accumulator) → OfKinds (kinds_of items) xs
    → ((t : Tuple) → among t (tuples_of [] [] ns) ≡ false → Each (λ (i : GroupItem). NoRows [] t ns i.term) items)
    → put_groups items (puts_of_selection (groups [] items) ns) (the_group xs ∷ []) ≡ the_group (join_all xs (accumulators_at [] items ns [])) ∷ []
put_without_keys items ns xs k h =
    found_alike _ _ (all_ascend items (puts_of_selection (groups [] items) ns) (the_group xs ∷ []) (tt, tt)) (tt, tt)
    (λ t. find_after items t (puts_of_selection (groups [] items) ns) (the_group xs ∷ []) (tt, tt) ∙ by_test t (same_tuple t []) refl)
  where
    by_test : (t : Tuple) (b : Bool) → same_tuple t [] ≡ b → found_after items t (puts_of_selection (groups [] items) ns) (if b then Some xs else None) ≡ (if b then Some (join_all xs (accumulators_at [] items ns [])) else None)
    by_test t true e = put_there items [] t ns xs k ∙ ap (λ u. Some (join_all xs (accumulators_at [] items ns u))) (same_is t [] e)
    by_test t false e =
        put_where_none items [] t ns (h t) ∙ ap (λ b. if b then Some (accumulators_at [] items ns t) else None) (none_among t (flat_map (rows []) ns) e)

abbrev group_query : Option Expression → List (List Step) → List GroupItem → Query
group_query c keys items = record { condition = c; selection = groups keys items }

all_put : (c : Option Expression) (keys : List (List Step)) (items : List GroupItem) (ps : List Put) (gs : List Group) → put_all (group_query c keys items) ps (grouped gs) ≡ grouped (put_groups items ps gs)
unfolding put
all_put c keys items [] gs = refl
all_put c keys items (p ∷ ps) gs = all_put c keys items ps (put_group items p gs)

merged_of : (fs : Fields) (c : Option Expression) (s : Selection) (R : List Node) (gs : List Group) → is_mergeable_selection fs s ≡ true → list_all (is_record fs) R ≡ true → is_of_selection fs s (grouped gs) ≡ true
    → put_all (record { condition = c; selection = s }) (puts_of (record { condition = c; selection = s }) R) (grouped gs) ≡ merge (grouped gs) (partial_of fs (record { condition = c; selection = s }) R)
unfolding merge partial_of
merged_of fs c (objects items) R gs m a h = absurd (true≢false (sym h))
merged_of fs c (groups [] items) R [] m a h = absurd (true≢false (sym (are_groups fs [] items [] h).one))
merged_of fs c (groups [] items) R (g ∷ i ∷ gs) m a h = absurd (true≢false (sym (are_groups fs [] items (g ∷ i ∷ gs) h).one))
merged_of fs c (groups [] items) R (g ∷ []) m a h =
    let w = are_groups fs [] items (g ∷ []) h in
    let k = kinds_are fs [] items (g ∷ []) w in
    let r = mergeable_related fs (groups [] items) m in
    let ns : List Node = filter_map (kept c) R in
    let e : g.keys ≡ [] = no_keys fs g.keys (and_parts _ _ (and_parts _ _ w.each).0).0 in
    one g.keys e g.accumulators k.0 ns (λ t n. elsewhere [] items r.1.0 r.1.1 ns (single_kept [] c R (records_single fs [] R r.0 a)) t n)
  where
    one : (t : Tuple) → t ≡ [] → (xs : List Accumulator) → OfKinds (kinds_of items) xs → (ns : List Node) → ((t : Tuple) → among t (tuples_of [] [] ns) ≡ false → Each (λ (i : GroupItem). NoRows [] t ns i.term) items)
        → put_all (group_query c [] items) (puts_of_selection (groups [] items) ns) (grouped ((let r : Group = record { keys = t; accumulators = xs } in r) ∷ []))
        ≡ grouped (merge_groups ((let r : Group = record { keys = t; accumulators = xs } in r) ∷ []) (the_group (accumulators_at [] items ns []) ∷ []))
    one [] e xs k ns n = all_put c [] items (puts_of_selection (groups [] items) ns) (the_group xs ∷ []) ∙ ap grouped (put_without_keys items ns xs k n)
    one (v ∷ t) e xs k ns n = absurd (cc)
merged_of fs c (groups (q ∷ ks) items) R gs m a h =
    let w = are_groups fs (q ∷ ks) items gs h in
    let r = mergeable_related fs (groups (q ∷ ks) items) m in
    let ns : List Node = filter_map (kept c) R in
    all_put c (q ∷ ks) items (puts_of_selection (groups (q ∷ ks) items) ns) gs
    ∙ ap grouped (put_with_keys (q ∷ ks) items ns gs w.ascending (kinds_are fs (q ∷ ks) items gs w)
    (λ t n. elsewhere (q ∷ ks) items r.1.0 r.1.1 ns (single_kept (q ∷ ks) c R (records_single fs (q ∷ ks) R r.0 a)) t n))

pub puts_are_merged : PutsAreMerged
unfolding is_partial
puts_are_merged fs q R gs m a h = merged_of fs q.condition q.selection R gs m a h

-- ---- puts commute

one_commutes : (t : GroupTerm) (v w : Option Value) (x : Accumulator) → take_one t v (take_one t w x) ≡ take_one t w (take_one t v x)
one_commutes (key i) v w x = refl
one_commutes count_rows v w x = refl
one_commutes (aggregate a e) v w x =
    let c : Accumulator = accumulator_of_cell (aggregate_of x) w in
    let d : Accumulator = accumulator_of_cell (aggregate_of x) v in
    let ec : aggregate_of c ≡ aggregate_of x = cell_aggregate (aggregate_of x) w in
    let ed : aggregate_of d ≡ aggregate_of x = cell_aggregate (aggregate_of x) v in
    same_taken (join x c) v (aggregate_of x) (kept_kind x c)
    ∙ (join_is_associative x c d (sym ec) (ec ∙ sym ed)
    ∙ (ap (join x) (join_is_commutative c d (ec ∙ sym ed))
    ∙ (sym (join_is_associative x d c (sym ed) (ed ∙ sym ec)) ∙ sym (same_taken (join x d) w (aggregate_of x) (kept_kind x d)))))

places_commute : (ts : List GroupTerm) (i j : ℕ) (v w : Option Value) (xs : List Accumulator) → take_at ts i v (take_at ts j w xs) ≡ take_at ts j w (take_at ts i v xs)
places_commute [] i j v w xs = refl
places_commute (t ∷ ts) zero zero v w [] = refl
places_commute (t ∷ ts) zero (suc j) v w [] = refl
places_commute (t ∷ ts) (suc i) zero v w [] = refl
places_commute (t ∷ ts) (suc i) (suc j) v w [] = refl
places_commute (t ∷ ts) zero zero v w (x ∷ xs) = ap (λ y. y ∷ xs) (one_commutes t v w x)
places_commute (t ∷ ts) zero (suc j) v w (x ∷ xs) = refl
places_commute (t ∷ ts) (suc i) zero v w (x ∷ xs) = refl
places_commute (t ∷ ts) (suc i) (suc j) v w (x ∷ xs) = ap (λ ys. x ∷ ys) (places_commute ts i j v w xs)

taken_commute : (ts : List GroupTerm) (a b : Option Taken) (xs : List Accumulator) → taken_into ts a (taken_into ts b xs) ≡ taken_into ts b (taken_into ts a xs)
taken_commute ts None None xs = refl
taken_commute ts None (Some b) xs = refl
taken_commute ts (Some a) None xs = refl
taken_commute ts (Some a) (Some b) xs = places_commute ts a.aggregate b.aggregate a.value b.value xs

found_commute : (items : List GroupItem) (t : Tuple) (p r : Put) (o : Option (List Accumulator)) → found_put items t p (found_put items t r o) ≡ found_put items t r (found_put items t p o)
found_commute items t p r o = by_tests (same_tuple t p.keys) (same_tuple t r.keys)
  where
    ts : List GroupTerm
    ts = aggregates_among items

    by_tests : (a b : Bool) → (if a then Some (taken_into (aggregates_among items) p.taken (or_empty items (if b then Some (taken_into (aggregates_among items) r.taken (or_empty items o)) else o))) else (if b then Some (taken_into (aggregates_among items) r.taken (or_empty items o)) else o))
        ≡ (if b then Some (taken_into (aggregates_among items) r.taken (or_empty items (if a then Some (taken_into (aggregates_among items) p.taken (or_empty items o)) else o))) else (if a then Some (taken_into (aggregates_among items) p.taken (or_empty items o)) else o))
    by_tests true true = ap Some (taken_commute (aggregates_among items) p.taken r.taken (or_empty items o))
    by_tests true false = refl
    by_tests false true = refl
    by_tests false false = refl

groups_commute : (items : List GroupItem) (p r : Put) (gs : List Group) → Ascending gs → put_group items p (put_group items r gs) ≡ put_group items r (put_group items p gs)
groups_commute items p r gs a =
    let b = put_ascends items r gs a in
    let c = put_ascends items p gs a in
    found_alike _ _ (put_ascends items p (put_group items r gs) b) (put_ascends items r (put_group items p gs) c)
    (λ t. find_put items t p (put_group items r gs) b ∙ (ap (found_put items t p) (find_put items t r gs a)
    ∙ (found_commute items t p r (find t gs) ∙ (ap (found_put items t r) (sym (find_put items t p gs a)) ∙ sym (find_put items t r (put_group items p gs) c)))))

commute_of : (fs : Fields) (s : Selection) (p r : Put) (gs : List Group) → is_of_selection fs s (grouped gs) ≡ true → put_selected s p (put_selected s r (grouped gs)) ≡ put_selected s r (put_selected s p (grouped gs))
commute_of fs (objects items) p r gs h = absurd (true≢false (sym h))
commute_of fs (groups keys items) p r gs h = ap grouped (groups_commute items p r gs (are_groups fs keys items gs h).ascending)

pub puts_commute : PutsCommute
unfolding put is_partial
puts_commute fs q p r gs h = commute_of fs q.selection p r gs h

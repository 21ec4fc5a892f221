-- Ascending groups are what is found at each key tuple; merged groups have at each key tuple what both have, joined.
use Rattle.std.proofs.Common.{◌≡◌, List, [], ◌∷◌, map, Bool, true, false, ◌&&◌, ◌||◌, Option, Some, None, refl, sym, ap, ap₂, ◌∙◌, subst, true≢false}
use Rattle.std.specs.Prelude.{if◌then◌else◌}
use Rattle.std.specs.List.{list_any}
use Rattle.std.specs.Ordering.{is_lt, is_eq, match_ordering, ordering_reverse}
use Rattle.std.specs.declared.cmp.Ordering.{Ordering}
use Rattle.std.specs.declared.cmp.Ordering.TheVariants.{Less, Equal, Greater}
use Rattle.std.proofs.lemmas.Bool.{and_parts}
use Rattle.std.proofs.lemmas.Cmp.{tied_itself}
use Rattle.dr_meaning.specs.Record.{Value}
use Rattle.dr_meaning.specs.Query.{Aggregate, tuple_order, insert_tuple, distinct_tuples}
use Rattle.dr_partials.specs.Accumulators.{Accumulator, aggregate_of, join_options}
use Rattle.dr_partials.specs.Partials.{Group, join_all, join_groups, insert_group, merge_groups}
use Rattle.dr_partials.specs.PartialTypes.{ascends}
use Rattle.dr_partials.proofs.ValueOrders.{tuple_order_total, tuple_order_exact}
use Rattle.dr_partials.proofs.AccumulatorLemmas.{join_is_associative, join_is_commutative}

abbrev pub Tuple : Type 0
Tuple = List (Option Value)

abbrev pub same_tuple : Tuple → Tuple → Bool
same_tuple t u = is_eq (tuple_order t u)

-- ---- the order of key tuples

ordered_itself : (t : Tuple) → tuple_order t t ≡ Equal
ordered_itself t = tied_itself tuple_order_total t

pub same_itself : (t : Tuple) → same_tuple t t ≡ true
same_itself t = ap is_eq (ordered_itself t)

is_equal : (o : Ordering) → is_eq o ≡ true → o ≡ Equal
is_equal Less h = absurd (true≢false (sym h))
is_equal Equal h = refl
is_equal Greater h = absurd (true≢false (sym h))

is_less : (o : Ordering) → is_lt o ≡ true → o ≡ Less
is_less Less h = refl
is_less Equal h = absurd (true≢false (sym h))
is_less Greater h = absurd (true≢false (sym h))

pub same_is : (t u : Tuple) → same_tuple t u ≡ true → t ≡ u
same_is t u h = tuple_order_exact t u (is_equal (tuple_order t u) h)

pub less_back : (t u : Tuple) → tuple_order t u ≡ Greater → tuple_order u t ≡ Less
less_back t u h = tuple_order_total.antisymm u t ∙ ap ordering_reverse h

greater_back : (t u : Tuple) → tuple_order t u ≡ Less → tuple_order u t ≡ Greater
greater_back t u h = tuple_order_total.antisymm u t ∙ ap ordering_reverse h

pub same_back : (t u : Tuple) → same_tuple t u ≡ same_tuple u t
same_back t u = by_order (tuple_order u t) (tuple_order_total.antisymm t u)
  where
    by_order : (o : Ordering) → tuple_order t u ≡ ordering_reverse o → is_eq (tuple_order t u) ≡ is_eq o
    by_order Less e = ap is_eq e
    by_order Equal e = ap is_eq e
    by_order Greater e = ap is_eq e

-- ---- ascending groups

-- each key tuple is greater than this
abbrev pub AllAbove : Tuple → List Group → Type 0
AllAbove t [] = Unit {0}
AllAbove t (g ∷ gs) = (tuple_order t g.keys ≡ Less) × AllAbove t gs

abbrev pub Ascending : List Group → Type 0
Ascending [] = Unit {0}
Ascending (g ∷ gs) = AllAbove g.keys gs × Ascending gs

pub above_greater : (s t : Tuple) (gs : List Group) → tuple_order s t ≡ Less → AllAbove t gs → AllAbove s gs
above_greater s t [] h a = tt
above_greater s t (g ∷ gs) h a = (tuple_order_total.trans s t g.keys h a.0, above_greater s t gs h a.1)

pub ascending_groups : (gs : List Group) → ascends (map (λ (g : Group). g.keys) gs) ≡ true → Ascending gs
ascending_groups [] h = tt
ascending_groups (g ∷ []) h = (tt, tt)
ascending_groups (g ∷ k ∷ gs) h =
    let p = and_parts (is_lt (tuple_order g.keys k.keys)) (ascends (k.keys ∷ map (λ (g : Group). g.keys) gs)) h in
    let r : Ascending (k ∷ gs) = ascending_groups (k ∷ gs) p.1 in
    let e : tuple_order g.keys k.keys ≡ Less = is_less (tuple_order g.keys k.keys) p.0 in
    ((e, above_greater g.keys k.keys gs e r.0), r)

pub ascending_ascends : (gs : List Group) → Ascending gs → ascends (map (λ (g : Group). g.keys) gs) ≡ true
ascending_ascends [] h = refl
ascending_ascends (g ∷ []) h = refl
ascending_ascends (g ∷ k ∷ gs) h = ap₂ (λ a b. a && b) (ap is_lt h.0.0) (ascending_ascends (k ∷ gs) h.1)

-- ---- what is found at a key tuple

abbrev pub find : Tuple → List Group → Option (List Accumulator)
find t [] = None
find t (g ∷ gs) = if same_tuple t g.keys then Some g.accumulators else find t gs

pub find_above : (t : Tuple) (gs : List Group) → AllAbove t gs → find t gs ≡ None
find_above t [] h = refl
find_above t (g ∷ gs) h = ap (λ o. if is_eq o then Some g.accumulators else find t gs) h.0 ∙ find_above t gs h.1

find_first : (g : Group) (gs : List Group) → find g.keys (g ∷ gs) ≡ Some g.accumulators
find_first g gs = ap (λ b. if b then Some g.accumulators else find g.keys gs) (same_itself g.keys)

pub find_later : (t : Tuple) (g : Group) (gs : List Group) → same_tuple t g.keys ≡ false → find t (g ∷ gs) ≡ find t gs
find_later t g gs h = ap (λ b. if b then Some g.accumulators else find t gs) h

same_accumulators : (xs ys : List Accumulator) → Some xs ≡ Some ys → xs ≡ ys
same_accumulators xs ys h = cc

same_groups : (g h : Group) → g.keys ≡ h.keys → g.accumulators ≡ h.accumulators → g ≡ h
same_groups g h e f = ap₂ (λ (t : Tuple) (xs : List Accumulator). let r : Group = record { keys = t; accumulators = xs } in r) e f

-- ascending groups with the same to find everywhere are the same
pub found_alike : (gs hs : List Group) → Ascending gs → Ascending hs → ((t : Tuple) → find t gs ≡ find t hs) → gs ≡ hs
found_alike [] [] a b f = refl
found_alike [] (h ∷ hs) a b f = let e = f h.keys ∙ find_first h hs in absurd (cc)
found_alike (g ∷ gs) [] a b f = let e = sym (f g.keys) ∙ find_first g gs in absurd (cc)
found_alike (g ∷ gs) (h ∷ hs) a b f = by_order (tuple_order g.keys h.keys) refl (found_alike gs hs a.1 b.1)
  where
    later : g.keys ≡ h.keys → (t : Tuple) → find t gs ≡ find t hs
    later e t = by_test (same_tuple t g.keys) refl
      where
        by_test : (x : Bool) → same_tuple t g.keys ≡ x → find t gs ≡ find t hs
        by_test true k =
            let q : t ≡ g.keys = same_is t g.keys k in
            find_above t gs (subst (λ (u : Tuple). AllAbove u gs) (sym q) a.0) ∙ sym (find_above t hs (subst (λ (u : Tuple). AllAbove u hs) (sym (q ∙ e)) b.0))
        by_test false k = sym (find_later t g gs k) ∙ (f t ∙ find_later t h hs (ap (same_tuple t) (sym e) ∙ k))

    by_order : (o : Ordering) → tuple_order g.keys h.keys ≡ o → (((t : Tuple) → find t gs ≡ find t hs) → gs ≡ hs) → g ∷ gs ≡ h ∷ hs
    by_order Less e r =
        let n : find g.keys (h ∷ hs) ≡ None = find_above g.keys (h ∷ hs) (e, above_greater g.keys h.keys hs e b.0) in
        let s = sym (find_first g gs) ∙ (f g.keys ∙ n) in
        absurd (cc)
    by_order Equal e r =
        let q : g.keys ≡ h.keys = tuple_order_exact g.keys h.keys e in
        let s : find g.keys (h ∷ hs) ≡ Some h.accumulators = ap (λ (t : Tuple). find t (h ∷ hs)) q ∙ find_first h hs in
        let k : g.accumulators ≡ h.accumulators = same_accumulators g.accumulators h.accumulators (sym (find_first g gs) ∙ (f g.keys ∙ s)) in
        ap₂ (λ x xs. x ∷ xs) (same_groups g h q k) (r (later q))
    by_order Greater e r =
        let l : tuple_order h.keys g.keys ≡ Less = less_back g.keys h.keys e in
        let n : find h.keys (g ∷ gs) ≡ None = find_above h.keys (g ∷ gs) (l, above_greater h.keys g.keys gs l a.0) in
        let s = sym (find_first h hs) ∙ (sym (f h.keys) ∙ n) in
        absurd (cc)

-- ---- inserting

above_inserted : (s : Tuple) (g : Group) (hs : List Group) → tuple_order s g.keys ≡ Less → AllAbove s hs → AllAbove s (insert_group g hs)
above_inserted s g [] h a = (h, tt)
above_inserted s g (k ∷ hs) h a = by_order (tuple_order g.keys k.keys) (above_inserted s g hs h a.1)
  where
    by_order : (o : Ordering) → AllAbove s (insert_group g hs) → AllAbove s (match_ordering o (g ∷ k ∷ hs) (join_groups g k ∷ hs) (k ∷ insert_group g hs))
    by_order Less r = (h, a)
    by_order Equal r = (h, a.1)
    by_order Greater r = (a.0, r)

pub inserted_ascends : (g : Group) (hs : List Group) → Ascending hs → Ascending (insert_group g hs)
inserted_ascends g [] a = (tt, tt)
inserted_ascends g (k ∷ hs) a = by_order (tuple_order g.keys k.keys) refl (inserted_ascends g hs a.1)
  where
    by_order : (o : Ordering) → tuple_order g.keys k.keys ≡ o → Ascending (insert_group g hs) → Ascending (match_ordering o (g ∷ k ∷ hs) (join_groups g k ∷ hs) (k ∷ insert_group g hs))
    by_order Less e r = ((e, above_greater g.keys k.keys hs e a.0), a)
    by_order Equal e r = (subst (λ (t : Tuple). AllAbove t hs) (sym (tuple_order_exact g.keys k.keys e)) a.0, a.1)
    by_order Greater e r = (above_inserted k.keys g hs (less_back g.keys k.keys e) a.0, r)

abbrev with_found : Bool → List Accumulator → Option (List Accumulator) → Option (List Accumulator)
with_found true xs o = join_options join_all (Some xs) o
with_found false xs o = o

with_none : (b : Bool) (xs : List Accumulator) → with_found b xs None ≡ (if b then Some xs else None)
with_none true xs = refl
with_none false xs = refl

pub find_inserted : (t : Tuple) (g : Group) (hs : List Group) → Ascending hs → find t (insert_group g hs) ≡ with_found (same_tuple t g.keys) g.accumulators (find t hs)
find_inserted t g [] a = sym (with_none (same_tuple t g.keys) g.accumulators)
find_inserted t g (k ∷ hs) a = by_order (tuple_order g.keys k.keys) refl (find_inserted t g hs a.1)
  where
    before : tuple_order g.keys k.keys ≡ Less → (b : Bool) → same_tuple t g.keys ≡ b → (if b then Some g.accumulators else find t (k ∷ hs)) ≡ with_found b g.accumulators (find t (k ∷ hs))
    before e true f =
        let q : tuple_order t k.keys ≡ Less = subst (λ (u : Tuple). tuple_order u k.keys ≡ Less) (sym (same_is t g.keys f)) e in
        ap (join_options join_all (Some g.accumulators)) (sym (find_above t (k ∷ hs) (q, above_greater t k.keys hs q a.0)))
    before e false f = refl

    at : g.keys ≡ k.keys → (b : Bool) → same_tuple t g.keys ≡ b → (if b then Some (join_all g.accumulators k.accumulators) else find t hs) ≡ with_found b g.accumulators (find t (k ∷ hs))
    at q true f = ap (λ x. join_options join_all (Some g.accumulators) (if x then Some k.accumulators else find t hs)) (sym (ap (same_tuple t) (sym q) ∙ f))
    at q false f = sym (find_later t k hs (ap (same_tuple t) (sym q) ∙ f))

    behind : tuple_order g.keys k.keys ≡ Greater → (b : Bool) → same_tuple t k.keys ≡ b → find t (insert_group g hs) ≡ with_found (same_tuple t g.keys) g.accumulators (find t hs)
        → (if b then Some k.accumulators else find t (insert_group g hs)) ≡ with_found (same_tuple t g.keys) g.accumulators (if b then Some k.accumulators else find t hs)
    behind e true f r =
        let q : tuple_order t g.keys ≡ Less = subst (λ (u : Tuple). tuple_order u g.keys ≡ Less) (sym (same_is t k.keys f)) (less_back g.keys k.keys e) in
        ap (λ o. with_found (is_eq o) g.accumulators (Some k.accumulators)) (sym q)
    behind e false f r = r

    by_order : (o : Ordering) → tuple_order g.keys k.keys ≡ o → find t (insert_group g hs) ≡ with_found (same_tuple t g.keys) g.accumulators (find t hs)
        → find t (match_ordering o (g ∷ k ∷ hs) (join_groups g k ∷ hs) (k ∷ insert_group g hs)) ≡ with_found (same_tuple t g.keys) g.accumulators (find t (k ∷ hs))
    by_order Less e r = before e (same_tuple t g.keys) refl
    by_order Equal e r = at (tuple_order_exact g.keys k.keys e) (same_tuple t g.keys) refl
    by_order Greater e r = behind e (same_tuple t k.keys) refl r

-- ---- merging

pub merged_ascends : (gs hs : List Group) → Ascending hs → Ascending (merge_groups gs hs)
merged_ascends [] hs b = b
merged_ascends (g ∷ gs) hs b = inserted_ascends g (merge_groups gs hs) (merged_ascends gs hs b)

pub find_merged : (t : Tuple) (gs hs : List Group) → Ascending gs → Ascending hs → find t (merge_groups gs hs) ≡ join_options join_all (find t gs) (find t hs)
find_merged t [] hs a b = refl
find_merged t (g ∷ gs) hs a b =
    find_inserted t g (merge_groups gs hs) (merged_ascends gs hs b)
    ∙ (ap (with_found (same_tuple t g.keys) g.accumulators) (find_merged t gs hs a.1 b) ∙ by_test (same_tuple t g.keys) refl)
  where
    by_test : (x : Bool) → same_tuple t g.keys ≡ x → with_found x g.accumulators (join_options join_all (find t gs) (find t hs)) ≡ join_options join_all (if x then Some g.accumulators else find t gs) (find t hs)
    by_test true e =
        let n : find t gs ≡ None = find_above t gs (subst (λ (u : Tuple). AllAbove u gs) (sym (same_is t g.keys e)) a.0) in
        ap (λ o. join_options join_all (Some g.accumulators) (join_options join_all o (find t hs))) n
    by_test false e = refl

-- ---- groups of the same aggregates

-- accumulators of these aggregates, one of each
abbrev pub OfKinds : List Aggregate → List Accumulator → Type 0
OfKinds kinds xs = map aggregate_of xs ≡ kinds

abbrev pub AllOfKinds : List Aggregate → List Group → Type 0
AllOfKinds kinds [] = Unit {0}
AllOfKinds kinds (g ∷ gs) = OfKinds kinds g.accumulators × AllOfKinds kinds gs

abbrev pub FoundOfKinds : List Aggregate → Option (List Accumulator) → Type 0
FoundOfKinds kinds None = Unit {0}
FoundOfKinds kinds (Some xs) = OfKinds kinds xs

pub found_kinds : (kinds : List Aggregate) (t : Tuple) (gs : List Group) → AllOfKinds kinds gs → FoundOfKinds kinds (find t gs)
found_kinds kinds t [] h = tt
found_kinds kinds t (g ∷ gs) h = by_test (same_tuple t g.keys) (found_kinds kinds t gs h.1)
  where
    by_test : (b : Bool) → FoundOfKinds kinds (find t gs) → FoundOfKinds kinds (if b then Some g.accumulators else find t gs)
    by_test true r = h.0
    by_test false r = r

pub first_of : (a b : Aggregate) (kinds bs : List Aggregate) → a ∷ kinds ≡ b ∷ bs → a ≡ b
first_of a b kinds bs h = cc

pub rest_of : (a b : Aggregate) (kinds bs : List Aggregate) → a ∷ kinds ≡ b ∷ bs → kinds ≡ bs
rest_of a b kinds bs h = cc

join_all_assoc : (xs ys zs : List Accumulator) → map aggregate_of xs ≡ map aggregate_of ys → map aggregate_of ys ≡ map aggregate_of zs → join_all (join_all xs ys) zs ≡ join_all xs (join_all ys zs)
join_all_assoc [] ys zs h k = refl
join_all_assoc (x ∷ xs) [] zs h k = absurd (cc)
join_all_assoc (x ∷ xs) (y ∷ ys) [] h k = absurd (cc)
join_all_assoc (x ∷ xs) (y ∷ ys) (z ∷ zs) h k =
    ap₂ (λ v vs. v ∷ vs) (join_is_associative x y z (first_of _ _ _ _ h) (first_of _ _ _ _ k)) (join_all_assoc xs ys zs (rest_of _ _ _ _ h) (rest_of _ _ _ _ k))

join_all_comm : (xs ys : List Accumulator) → map aggregate_of xs ≡ map aggregate_of ys → join_all xs ys ≡ join_all ys xs
join_all_comm [] [] h = refl
join_all_comm [] (y ∷ ys) h = absurd (cc)
join_all_comm (x ∷ xs) [] h = absurd (cc)
join_all_comm (x ∷ xs) (y ∷ ys) h = ap₂ (λ v vs. v ∷ vs) (join_is_commutative x y (first_of _ _ _ _ h)) (join_all_comm xs ys (rest_of _ _ _ _ h))

found_assoc : (kinds : List Aggregate) (x y z : Option (List Accumulator)) → FoundOfKinds kinds x → FoundOfKinds kinds y → FoundOfKinds kinds z
    → join_options join_all (join_options join_all x y) z ≡ join_options join_all x (join_options join_all y z)
found_assoc kinds None y z h k l = refl
found_assoc kinds (Some x) None z h k l = refl
found_assoc kinds (Some x) (Some y) None h k l = refl
found_assoc kinds (Some x) (Some y) (Some z) h k l = ap Some (join_all_assoc x y z (h ∙ sym k) (k ∙ sym l))

found_comm : (kinds : List Aggregate) (x y : Option (List Accumulator)) → FoundOfKinds kinds x → FoundOfKinds kinds y → join_options join_all x y ≡ join_options join_all y x
found_comm kinds None None h k = refl
found_comm kinds None (Some y) h k = refl
found_comm kinds (Some x) None h k = refl
found_comm kinds (Some x) (Some y) h k = ap Some (join_all_comm x y (h ∙ sym k))

-- ---- merging groups of one query

pub merge_groups_assoc : (kinds : List Aggregate) (gs hs ks : List Group) → Ascending gs → Ascending hs → Ascending ks → AllOfKinds kinds gs → AllOfKinds kinds hs → AllOfKinds kinds ks
    → merge_groups (merge_groups gs hs) ks ≡ merge_groups gs (merge_groups hs ks)
merge_groups_assoc kinds gs hs ks a b c x y z =
    found_alike _ _ (merged_ascends (merge_groups gs hs) ks c) (merged_ascends gs (merge_groups hs ks) (merged_ascends hs ks c))
    (λ t. find_merged t (merge_groups gs hs) ks (merged_ascends gs hs b) c ∙ (ap (λ o. join_options join_all o (find t ks)) (find_merged t gs hs a b)
    ∙ (found_assoc kinds (find t gs) (find t hs) (find t ks) (found_kinds kinds t gs x) (found_kinds kinds t hs y) (found_kinds kinds t ks z)
    ∙ (ap (join_options join_all (find t gs)) (sym (find_merged t hs ks b c)) ∙ sym (find_merged t gs (merge_groups hs ks) a (merged_ascends hs ks c))))))

pub merge_groups_comm : (kinds : List Aggregate) (gs hs : List Group) → Ascending gs → Ascending hs → AllOfKinds kinds gs → AllOfKinds kinds hs → merge_groups gs hs ≡ merge_groups hs gs
merge_groups_comm kinds gs hs a b x y =
    found_alike _ _ (merged_ascends gs hs b) (merged_ascends hs gs a)
    (λ t. find_merged t gs hs a b ∙ (found_comm kinds (find t gs) (find t hs) (found_kinds kinds t gs x) (found_kinds kinds t hs y) ∙ sym (find_merged t hs gs b a)))

none_right : (o : Option (List Accumulator)) → join_options join_all o None ≡ o
none_right None = refl
none_right (Some x) = refl

pub merge_groups_none : (gs : List Group) → Ascending gs → merge_groups gs [] ≡ gs
merge_groups_none gs a = found_alike _ _ (merged_ascends gs [] tt) a (λ t. find_merged t gs [] a tt ∙ none_right (find t gs))

-- ---- groups of key tuples

abbrev pub among : Tuple → List Tuple → Bool
among t us = list_any (same_tuple t) us

-- a group of each key tuple
abbrev pub groups_at : (Tuple → List Accumulator) → List Tuple → List Group
groups_at f us = map (λ (u : Tuple). let r : Group = record { keys = u; accumulators = f u } in r) us

pub find_at : (f : Tuple → List Accumulator) (t : Tuple) (us : List Tuple) → find t (groups_at f us) ≡ (if among t us then Some (f t) else None)
find_at f t [] = refl
find_at f t (u ∷ us) = by_test (same_tuple t u) refl (find_at f t us)
  where
    by_test : (b : Bool) → same_tuple t u ≡ b → find t (groups_at f us) ≡ (if among t us then Some (f t) else None)
        → (if b then Some (f u) else find t (groups_at f us)) ≡ (if b || among t us then Some (f t) else None)
    by_test true e r = ap (λ v. Some (f v)) (sym (same_is t u e))
    by_test false e r = r

or_twice : (a b c : Bool) → a ≡ b → (b || c) ≡ (a || (b || c))
or_twice true true c h = refl
or_twice false false c h = refl
or_twice true false c h = absurd (true≢false h)
or_twice false true c h = absurd (true≢false (sym h))

or_swap : (a b c d : Bool) → d ≡ (b || c) → (a || d) ≡ (b || (a || c))
or_swap true true c d h = refl
or_swap true false c d h = refl
or_swap false true c d h = h
or_swap false false c d h = h

pub among_inserted : (t u : Tuple) (us : List Tuple) → among t (insert_tuple u us) ≡ (same_tuple t u || among t us)
among_inserted t u [] = refl
among_inserted t u (v ∷ us) = by_order (tuple_order u v) refl (among_inserted t u us)
  where
    by_order : (o : Ordering) → tuple_order u v ≡ o → among t (insert_tuple u us) ≡ (same_tuple t u || among t us)
        → among t (match_ordering o (u ∷ v ∷ us) (v ∷ us) (v ∷ insert_tuple u us)) ≡ (same_tuple t u || (same_tuple t v || among t us))
    by_order Less e r = refl
    by_order Equal e r = or_twice (same_tuple t u) (same_tuple t v) (among t us) (ap (same_tuple t) (tuple_order_exact u v e))
    by_order Greater e r = or_swap (same_tuple t v) (same_tuple t u) (among t us) (among t (insert_tuple u us)) r

pub among_distinct : (t : Tuple) (us : List Tuple) → among t (distinct_tuples us) ≡ among t us
among_distinct t [] = refl
among_distinct t (u ∷ us) = among_inserted t u (distinct_tuples us) ∙ ap (λ b. same_tuple t u || b) (among_distinct t us)

above_tuple : (f : Tuple → List Accumulator) (s u : Tuple) (us : List Tuple) → tuple_order s u ≡ Less → AllAbove s (groups_at f us) → AllAbove s (groups_at f (insert_tuple u us))
above_tuple f s u [] h a = (h, tt)
above_tuple f s u (v ∷ us) h a = by_order (tuple_order u v) (above_tuple f s u us h a.1)
  where
    by_order : (o : Ordering) → AllAbove s (groups_at f (insert_tuple u us)) → AllAbove s (groups_at f (match_ordering o (u ∷ v ∷ us) (v ∷ us) (v ∷ insert_tuple u us)))
    by_order Less r = (h, a)
    by_order Equal r = a
    by_order Greater r = (a.0, r)

tuple_inserted : (f : Tuple → List Accumulator) (u : Tuple) (us : List Tuple) → Ascending (groups_at f us) → Ascending (groups_at f (insert_tuple u us))
tuple_inserted f u [] a = (tt, tt)
tuple_inserted f u (v ∷ us) a = by_order (tuple_order u v) refl (tuple_inserted f u us a.1)
  where
    by_order : (o : Ordering) → tuple_order u v ≡ o → Ascending (groups_at f (insert_tuple u us)) → Ascending (groups_at f (match_ordering o (u ∷ v ∷ us) (v ∷ us) (v ∷ insert_tuple u us)))
    by_order Less e r = ((e, above_greater u v (groups_at f us) e a.0), a)
    by_order Equal e r = a
    by_order Greater e r = (above_tuple f v u us (less_back u v e) a.0, r)

pub distinct_ascends : (f : Tuple → List Accumulator) (us : List Tuple) → Ascending (groups_at f (distinct_tuples us))
distinct_ascends f [] = tt
distinct_ascends f (u ∷ us) = tuple_inserted f u (distinct_tuples us) (distinct_ascends f us)

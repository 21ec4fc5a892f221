-- Putting by the aggregates of a query is putting by its items; and what is taken into one accumulator among others.
use Rattle.std.specs.Prelude.{◌≡◌, ◌<◌, ◌≤◌, ℕ, zero, suc, List, [], ◌∷◌, map, length, get_or, Option, Some, None, Result, Ok, Err}
use Rattle.std.specs.List.{filter_map, cons_option}
use Rattle.std.specs.Ordering.{match_ordering}
use Rattle.std.proofs.Common.{refl, ap, ap₂, ◌∙◌, arith}
use Rattle.std.proofs.Math.ListN.{set}
use Rattle.std.proofs.Math.Seq.{map-set_same}
use Rattle.dr_memory.specs.declared.NoMemory.{NoMemory}
use Rattle.dr_meaning.specs.Record.{Value}
use Rattle.dr_meaning.specs.Query.{Aggregate, GroupTerm, key, count_rows, aggregate, GroupItem, tuple_order}
use Rattle.dr_partials.specs.Accumulators as meant
use Rattle.dr_partials.specs.Partials.{Group, empty_term}
use Rattle.dr_partials.specs.PartialTypes.{aggregates_among, with_aggregate}
use Rattle.dr_partials.specs.Putting.{Taken, Put, take_one, take_at, taken_into, empty_accumulators, put_into, put_group}
use Rattle.dr_plan.specs.Views.{fold_view}
use Rattle.dr_group.specs.Views.{accumulator_view}
use Rattle.dr_group.specs.Gathering.{empty_of, take_by, Becomes, gathering_view, term_gathering, gatherings_of, take_at_by, taken_by, group_by, new_group_by, put_by}
use Rattle.dr_group.specs.Rows.{IsAggregate, AllAggregates}
use Rattle.dr_group.specs.declared.gathering.Gathering.{Gathering}
use Rattle.dr_group.specs.declared.accumulator.Accumulator.{Accumulator}

-- ---- by the items

with_one : (t : GroupTerm) (ts : List GroupTerm) → AllAggregates ts → AllAggregates (with_aggregate t ts)
with_one (key k) ts h = h
with_one count_rows ts h = (tt, h)
with_one (aggregate a e) ts h = (tt, h)

among_are : (items : List GroupItem) → AllAggregates (aggregates_among items)
among_are [] = tt
among_are (i ∷ items) = with_one i.term (aggregates_among items) (among_are items)

same_aggregate : (a b : Aggregate) → Some a ≡ Some b → a ≡ b
same_aggregate a b h = cc

one_taken : (t : GroupTerm) (k : Gathering) (v : Option Value) (x : meant.Accumulator) → IsAggregate t → term_gathering t ≡ gathering_view k → take_one t v x ≡ take_by k v x
one_taken (key i) k v x h e = absurd h
one_taken count_rows Gathering.Rows v x h e = refl
one_taken count_rows (Gathering.Values f) v x h e = cc
one_taken (aggregate a b) Gathering.Rows v x h e = cc
one_taken (aggregate a b) (Gathering.Values f) v x h e = refl

head_same : (x y : Option Aggregate) (xs ys : List (Option Aggregate)) → x ∷ xs ≡ y ∷ ys → x ≡ y
head_same x y xs ys h = cc

tail_same : (x y : Option Aggregate) (xs ys : List (Option Aggregate)) → x ∷ xs ≡ y ∷ ys → xs ≡ ys
tail_same x y xs ys h = cc

at_taken : (ts : List GroupTerm) (ks : List Gathering) (i : ℕ) (v : Option Value) (xs : List meant.Accumulator) → AllAggregates ts → map term_gathering ts ≡ map gathering_view ks
    → take_at ts i v xs ≡ take_at_by ks i v xs
at_taken [] [] i v xs h e = refl
at_taken [] (k ∷ ks) i v xs h e = cc
at_taken (t ∷ ts) [] i v xs h e = cc
at_taken (t ∷ ts) (k ∷ ks) i v [] h e = refl
at_taken (t ∷ ts) (k ∷ ks) zero v (x ∷ xs) h e =
    ap (λ y. y ∷ xs) (one_taken t k v x h.0 (head_same (term_gathering t) (gathering_view k) (map term_gathering ts) (map gathering_view ks) e))
at_taken (t ∷ ts) (k ∷ ks) (suc i) v (x ∷ xs) h e =
    ap (λ (ys : List meant.Accumulator). x ∷ ys) (at_taken ts ks i v xs h.1 (tail_same (term_gathering t) (gathering_view k) (map term_gathering ts) (map gathering_view ks) e))

all_taken : (ts : List GroupTerm) (ks : List Gathering) (taken : Option Taken) (xs : List meant.Accumulator) → AllAggregates ts → map term_gathering ts ≡ map gathering_view ks → taken_into ts taken xs ≡ taken_by ks taken xs
all_taken ts ks None xs h e = refl
all_taken ts ks (Some t) xs h e = at_taken ts ks t.aggregate t.value xs h e

-- of no rows
abbrev nothing_yet : GroupTerm → meant.Accumulator
nothing_yet (key i) = meant.counted 0
nothing_yet count_rows = meant.counted 0
nothing_yet (aggregate a e) = meant.empty_accumulator a

one_nothing : (t : GroupTerm) (ts : List GroupTerm) (xs : List meant.Accumulator) → xs ≡ map nothing_yet ts → cons_option (empty_term t) xs ≡ map nothing_yet (with_aggregate t ts)
one_nothing (key k) ts xs h = h
one_nothing count_rows ts xs h = ap (λ (ys : List meant.Accumulator). meant.counted 0 ∷ ys) h
one_nothing (aggregate a e) ts xs h = ap (λ (ys : List meant.Accumulator). meant.empty_accumulator a ∷ ys) h

empties_among : (items : List GroupItem) → filter_map (λ (i : GroupItem). empty_term i.term) items ≡ map nothing_yet (aggregates_among items)
empties_among [] = refl
empties_among (i ∷ items) =
    one_nothing i.term (aggregates_among items) (filter_map (λ (i : GroupItem). empty_term i.term) items) (empties_among items)

one_empty : (t : GroupTerm) (k : Gathering) → IsAggregate t → term_gathering t ≡ gathering_view k → nothing_yet t ≡ empty_of k
one_empty (key i) k h e = absurd h
one_empty count_rows Gathering.Rows h e = refl
one_empty count_rows (Gathering.Values f) h e = cc
one_empty (aggregate a b) Gathering.Rows h e = cc
one_empty (aggregate a b) (Gathering.Values f) h e = ap meant.empty_accumulator (same_aggregate a (fold_view f) e)

all_empty : (ts : List GroupTerm) (ks : List Gathering) → AllAggregates ts → map term_gathering ts ≡ map gathering_view ks → map nothing_yet ts ≡ map empty_of ks
all_empty [] [] h e = refl
all_empty [] (k ∷ ks) h e = cc
all_empty (t ∷ ts) [] h e = cc
all_empty (t ∷ ts) (k ∷ ks) h e =
    ap₂ (λ (x : meant.Accumulator) (xs : List meant.Accumulator). x ∷ xs)
    (one_empty t k h.0 (head_same (term_gathering t) (gathering_view k) (map term_gathering ts) (map gathering_view ks) e))
    (all_empty ts ks h.1 (tail_same (term_gathering t) (gathering_view k) (map term_gathering ts) (map gathering_view ks) e))

pub empty_alike : (items : List GroupItem) (ks : List Gathering) → gatherings_of items ≡ map gathering_view ks → empty_accumulators items ≡ map empty_of ks
empty_alike items ks e = empties_among items ∙ all_empty (aggregates_among items) ks (among_are items) e

abbrev with_keys : Put → List meant.Accumulator → Group
with_keys p ys = record { keys = p.keys; accumulators = ys }

into_alike : (items : List GroupItem) (ks : List Gathering) (p : Put) (xs : List meant.Accumulator) → gatherings_of items ≡ map gathering_view ks → put_into items p xs ≡ group_by ks p xs
into_alike items ks p xs e = ap (with_keys p) (all_taken (aggregates_among items) ks p.taken xs (among_are items) e)

new_alike : (items : List GroupItem) (ks : List Gathering) (p : Put) → gatherings_of items ≡ map gathering_view ks → put_into items p (empty_accumulators items) ≡ new_group_by ks p
new_alike items ks p e = ap (put_into items p) (empty_alike items ks e) ∙ into_alike items ks p (map empty_of ks) e

-- the law: by the aggregates as by the items
pub put_alike : (items : List GroupItem) (ks : List Gathering) (p : Put) (gs : List Group) → gatherings_of items ≡ map gathering_view ks → put_group items p gs ≡ put_by ks p gs
put_alike items ks p [] e = ap (λ (g : Group). g ∷ []) (new_alike items ks p e)
put_alike items ks p (g ∷ gs) e =
    ap₂ (λ (n i : Group). match_ordering (tuple_order p.keys g.keys) (n ∷ g ∷ gs) (i ∷ gs) (g ∷ put_group items p gs)) (new_alike items ks p e) (into_alike items ks p g.accumulators e)
    ∙ ap (λ (hs : List Group). match_ordering (tuple_order p.keys g.keys) (new_group_by ks p ∷ g ∷ gs) (group_by ks p g.accumulators ∷ gs) (g ∷ hs)) (put_alike items ks p gs e)

-- ---- one accumulator among others

pub past_gatherings : (ks : List Gathering) (i : ℕ) (v : Option Value) (xs : List meant.Accumulator) → length ks ≤ i → xs ≡ take_at_by ks i v xs
past_gatherings [] i v xs h = refl
past_gatherings (k ∷ ks) i v [] h = refl
past_gatherings (k ∷ ks) zero v (x ∷ xs) h = absurd (omega (arith, h))
past_gatherings (k ∷ ks) (suc i) v (x ∷ xs) h = ap (λ (ys : List meant.Accumulator). x ∷ ys) (past_gatherings ks i v xs (omega (arith, h)))

pub past_accumulators : (ks : List Gathering) (i : ℕ) (v : Option Value) (xs : List meant.Accumulator) → length xs ≤ i → xs ≡ take_at_by ks i v xs
past_accumulators [] i v xs h = refl
past_accumulators (k ∷ ks) i v [] h = refl
past_accumulators (k ∷ ks) zero v (x ∷ xs) h = absurd (omega (arith, h))
past_accumulators (k ∷ ks) (suc i) v (x ∷ xs) h = ap (λ (ys : List meant.Accumulator). x ∷ ys) (past_accumulators ks i v xs (omega (arith, h)))

taken_there : (ks : List Gathering) (xs : List Accumulator) (i : ℕ) (v : Option Value) (k : Gathering) (x y : Accumulator) → i < length ks → i < length xs → k ≡ get_or ks i k → x ≡ get_or xs i x
    → accumulator_view y ≡ take_by k v (accumulator_view x) → map accumulator_view (set xs i y) ≡ take_at_by ks i v (map accumulator_view xs)
taken_there [] xs i v k x y h j e f g = absurd (omega (arith, h))
taken_there (l ∷ ks) [] i v k x y h j e f g = absurd (omega (arith, j))
taken_there (l ∷ ks) (z ∷ xs) zero v k x y h j e f g = ap (λ w. w ∷ map accumulator_view xs) (g ∙ ap₂ (λ (m : Gathering) (w : Accumulator). take_by m v (accumulator_view w)) e f)
taken_there (l ∷ ks) (z ∷ xs) (suc i) v k x y h j e f g = ap (λ (ws : List meant.Accumulator). accumulator_view z ∷ ws) (taken_there ks xs i v k x y (omega (arith, h)) (omega (arith, j)) e f g)

taken_or_not : (r : Result (Unit {0}) NoMemory) (ks : List Gathering) (xs : List Accumulator) (i : ℕ) (v : Option Value) (k : Gathering) (x y : Accumulator) → i < length ks → i < length xs → k ≡ get_or ks i k → x ≡ get_or xs i x
    → Becomes (accumulator_view x) (accumulator_view y) (take_by k v (accumulator_view x)) r → Becomes (map accumulator_view xs) (map accumulator_view (set xs i y)) (take_at_by ks i v (map accumulator_view xs)) r
taken_or_not (Ok done) ks xs i v k x y h j e f g = taken_there ks xs i v k x y h j e f g
taken_or_not (Err n) ks xs i v k x y h j e f g = map-set_same accumulator_view xs i y x (g ∙ ap accumulator_view f)

whatever : (ks : List Gathering) (i : ℕ) (d e : Gathering) → i < length ks → get_or ks i d ≡ get_or ks i e
whatever [] i d e h = absurd (omega (arith, h))
whatever (k ∷ ks) zero d e h = refl
whatever (k ∷ ks) (suc i) d e h = whatever ks i d e (omega (arith, h))

pub taken_at_or_not : (r : Result (Unit {0}) NoMemory) (ks : List Gathering) (xs : List Accumulator) (i : ℕ) (v : Option Value) (d : Gathering) (x y : Accumulator) → i < length ks → i < length xs → x ≡ get_or xs i x
    → Becomes (accumulator_view x) (accumulator_view y) (take_by (get_or ks i d) v (accumulator_view x)) r → Becomes (map accumulator_view xs) (map accumulator_view (set xs i y)) (take_at_by ks i v (map accumulator_view xs)) r
taken_at_or_not r ks xs i v d x y h j f g = taken_or_not r ks xs i v (get_or ks i d) x y h j (whatever ks i d (get_or ks i d) h) f g

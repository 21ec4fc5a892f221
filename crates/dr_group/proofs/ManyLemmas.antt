-- Values and NULLs that one aggregate takes one after another: in one accumulator, among others, and in a group.
use Rattle.std.proofs.Common.{◌≡◌, ◌<◌, ◌≤◌, ℕ, zero, suc, List, [], ◌∷◌, ◌++◌, map, length, get_or, replicate, true, Option, Some, None, Result, Ok, Err, IfOk, refl, sym, ap, ap₂, ◌∙◌, arith, true≢false}
use Rattle.std.specs.List.{slice_get}
use Rattle.std.proofs.Math.ListN.{set}
use Rattle.std.proofs.lemmas.List.{length-set, get_or-set_same, set-set, set-get_or, map-set, length-map}
use Rattle.dr_memory.specs.declared.NoMemory.{NoMemory}
use Rattle.dr_meaning.specs.Record.{Value}
use Rattle.dr_meaning.specs.Schema as tree
use Rattle.dr_meaning.specs.Column.{Triplet}
use Rattle.dr_meaning.specs.Query.{GroupItem}
use Rattle.dr_levels.specs.Dense.{value_list}
use Rattle.dr_levels.specs.Lent.{lends_kind, present_values}
use Rattle.dr_levels.specs.declared.values_ref.ValuesRef.{ValuesRef}
use Rattle.dr_partials.specs.Accumulators as meant
use Rattle.dr_partials.specs.Accumulators.{counted, summed, least_of, greatest_of, join, take_row, take_value, aggregate_of, empty_accumulator}
use Rattle.dr_partials.specs.Partials.{Group}
use Rattle.dr_partials.specs.Putting.{Put}
use Rattle.dr_partials.specs.GroupPuts.{put_each}
use Rattle.dr_partials.proofs.AccumulatorLemmas.{empty_is_neutral}
use Rattle.dr_plan.specs.declared.aggregate.Fold.{Fold}
use Rattle.dr_group.specs.Views.{accumulator_view, cell_view}
use Rattle.dr_group.specs.Gathering.{take_at_by, put_by, gathering_view, gatherings_of}
use Rattle.dr_group.specs.Groups.{group_view, accumulators_view, no_group, with_accumulators, taken_at, put_of}
use Rattle.dr_group.specs.Distinct.{AreDistinct, tuples_of}
use Rattle.dr_group.specs.Maps.{in_order}
use Rattle.dr_group.specs.ManyTaken.{take_each_by, take_each_at, each_taken_at, many_puts}
use Rattle.dr_group.specs.TakenValues.{take_each, has_texts}
use Rattle.dr_group.specs.declared.accumulator.Accumulator.{Accumulator}
use Rattle.dr_group.specs.declared.gathering.Gathering.{Gathering}
use Rattle.dr_group.specs.declared.group.Group as held
use Rattle.dr_group.proofs.DistinctLemmas.{set_distinct}
use Rattle.dr_group.proofs.FindLemmas.{group_there}
use Rattle.dr_group.proofs.GatheringLemmas.{past_gatherings, past_accumulators, put_alike}
use Rattle.dr_group.proofs.NumberLemmas.{numbered_found}
use Rattle.dr_group.proofs.PutLemmas.{put_old}

-- ---- in one accumulator

no_rows : (x : meant.Accumulator) → join x (counted 0) ≡ x
no_rows (counted n) = ap counted (omega arith)
no_rows (summed s) = refl
no_rows (least_of v) = refl
no_rows (greatest_of v) = refl

more_rows : (x : meant.Accumulator) (n : ℕ) → join x (counted (suc n)) ≡ join (take_row x) (counted n)
more_rows (counted m) n = ap counted (omega arith)
more_rows (summed s) n = refl
more_rows (least_of v) n = refl
more_rows (greatest_of v) n = refl

-- rows are counted, whatever is in them
pub rows_each : (vs : List (Option Value)) (x : meant.Accumulator) → join x (counted (length vs)) ≡ take_each_by Gathering.Rows vs x
rows_each [] x = no_rows x
rows_each (v ∷ vs) x = more_rows x (length vs) ∙ rows_each vs (take_row x)

-- NULL isn't taken
null_taken : (x : meant.Accumulator) → take_value x None ≡ x
null_taken x = (empty_is_neutral x).1

pub values_each : (f : Fold) (ts : List Triplet) (x : meant.Accumulator) → take_each x (present_values ts) ≡ take_each_by (Gathering.Values f) (map (λ (t : Triplet). t.value) ts) x
values_each f [] x = refl
values_each f (t ∷ ts) x = by_value t.value (λ (y : meant.Accumulator). values_each f ts y)
  where
    by_value : (o : Option Value) → ((y : meant.Accumulator) → take_each y (present_values ts) ≡ take_each_by (Gathering.Values f) (map (λ (t : Triplet). t.value) ts) y)
        → take_each x (value_list o ++ present_values ts) ≡ take_each_by (Gathering.Values f) (map (λ (t : Triplet). t.value) ts) (take_value x o)
    by_value None h = h x ∙ ap (take_each_by (Gathering.Values f) (map (λ (t : Triplet). t.value) ts)) (sym (null_taken x))
    by_value (Some v) h = h (take_value x (Some v))

pub nulls_each : (f : Fold) (n : ℕ) (x : meant.Accumulator) → x ≡ take_each_by (Gathering.Values f) (replicate n None) x
nulls_each f zero x = refl
nulls_each f (suc n) x = nulls_each f n x ∙ ap (take_each_by (Gathering.Values f) (replicate n None)) (sym (null_taken x))

-- at the places of texts there are texts
pub texts_lent : (k : tree.Kind) (v : ValuesRef) → lends_kind k v ≡ true → has_texts v ≡ true
texts_lent k (ValuesRef.Bools v) h = refl
texts_lent k (ValuesRef.Integers v) h = refl
texts_lent tree.text_kind (ValuesRef.Texts bytes places) h = h
texts_lent tree.bool_kind (ValuesRef.Texts bytes places) h = absurd (true≢false (sym h))
texts_lent tree.int32_kind (ValuesRef.Texts bytes places) h = absurd (true≢false (sym h))
texts_lent tree.int64_kind (ValuesRef.Texts bytes places) h = absurd (true≢false (sym h))

pub if_values : (r : Result (Unit {0}) NoMemory) (after meant want : meant.Accumulator) → IfOk r (λ done. after ≡ meant) → meant ≡ want → IfOk r (λ done. after ≡ want)
if_values (Ok done) after meant want h e = h ∙ e
if_values (Err x) after meant want h e = tt

-- ---- among others

pub past_all : (ks : List Gathering) (i : ℕ) (vs : List (Option Value)) (xs : List meant.Accumulator) → length ks ≤ i → xs ≡ take_each_at ks i vs xs
past_all ks i [] xs h = refl
past_all ks i (v ∷ vs) xs h = past_all ks i vs xs h ∙ ap (take_each_at ks i vs) (past_gatherings ks i v xs h)

pub past_held : (ks : List Gathering) (i : ℕ) (vs : List (Option Value)) (xs : List meant.Accumulator) → length xs ≤ i → xs ≡ take_each_at ks i vs xs
past_held ks i [] xs h = refl
past_held ks i (v ∷ vs) xs h = past_held ks i vs xs h ∙ ap (take_each_at ks i vs) (past_accumulators ks i v xs h)

each_here : (k : Gathering) (ks : List Gathering) (vs : List (Option Value)) (x : meant.Accumulator) (xs : List meant.Accumulator) → take_each_at (k ∷ ks) zero vs (x ∷ xs) ≡ take_each_by k vs x ∷ xs
each_here k ks [] x xs = refl
each_here k ks (v ∷ vs) x xs = each_here k ks vs _ xs

each_behind : (k : Gathering) (ks : List Gathering) (i : ℕ) (vs : List (Option Value)) (x : meant.Accumulator) (xs : List meant.Accumulator) → take_each_at (k ∷ ks) (suc i) vs (x ∷ xs) ≡ x ∷ take_each_at ks i vs xs
each_behind k ks i [] x xs = refl
each_behind k ks i (v ∷ vs) x xs = each_behind k ks i vs x (take_at_by ks i v xs)

each_there : (ks : List Gathering) (xs : List Accumulator) (i : ℕ) (vs : List (Option Value)) (d : Gathering) (x y : Accumulator) → i < length ks → i < length xs → x ≡ get_or xs i x
    → accumulator_view y ≡ take_each_by (get_or ks i d) vs (accumulator_view x) → map accumulator_view (set xs i y) ≡ take_each_at ks i vs (map accumulator_view xs)
each_there [] xs i vs d x y h j e g = absurd (omega (arith, h))
each_there (k ∷ ks) [] i vs d x y h j e g = absurd (omega (arith, j))
each_there (k ∷ ks) (z ∷ xs) zero vs d x y h j e g =
    ap (λ w. w ∷ map accumulator_view xs) (g ∙ ap (λ (w : Accumulator). take_each_by k vs (accumulator_view w)) e) ∙ sym (each_here k ks vs (accumulator_view z) (map accumulator_view xs))
each_there (k ∷ ks) (z ∷ xs) (suc i) vs d x y h j e g =
    ap (λ (ws : List meant.Accumulator). accumulator_view z ∷ ws) (each_there ks xs i vs d x y (omega (arith, h)) (omega (arith, j)) e g) ∙ sym (each_behind k ks i vs (accumulator_view z) (map accumulator_view xs))

pub each_there_or_not : (r : Result (Unit {0}) NoMemory) (ks : List Gathering) (xs : List Accumulator) (i : ℕ) (vs : List (Option Value)) (d : Gathering) (x y : Accumulator) → i < length ks → i < length xs → x ≡ get_or xs i x
    → IfOk r (λ done. accumulator_view y ≡ take_each_by (get_or ks i d) vs (accumulator_view x)) → IfOk r (λ done. map accumulator_view (set xs i y) ≡ take_each_at ks i vs (map accumulator_view xs))
each_there_or_not (Ok done) ks xs i vs d x y h j e g = each_there ks xs i vs d x y h j e g
each_there_or_not (Err x) ks xs i vs d a b h j e g = tt

-- ---- in a group

abbrev made : List (Option Value) → List meant.Accumulator → Group
made ts xs = record { keys = ts; accumulators = xs }

pub held_each : (r : Result (Unit {0}) NoMemory) (ks : List Gathering) (i : ℕ) (vs : List (Option Value)) (gs : List held.Group) (n : ℕ) (g h : held.Group) → n < length gs → g ≡ get_or gs n g → h.keys ≡ g.keys
    → IfOk r (λ done. accumulators_view h.accumulators.items ≡ take_each_at ks i vs (accumulators_view g.accumulators.items))
    → IfOk r (λ done. map group_view (set gs n h) ≡ each_taken_at ks n i vs (map group_view gs))
held_each (Ok done) ks i vs gs n g h a f k s =
    map-set group_view gs n h
    ∙ ap (set (map group_view gs) n) (ap₂ made (ap (λ v. map cell_view v.items) k) s ∙ ap (λ (v : Group). with_accumulators v (take_each_at ks i vs v.accumulators)) (sym (group_there gs n g a f)))
held_each (Err x) ks i vs gs n g h a f k s = tt

abbrev put_each_by : List Gathering → List Put → List Group → List Group
put_each_by ks [] gs = gs
put_each_by ks (p ∷ ps) gs = put_each_by ks ps (put_by ks p gs)

by_items : (items : List GroupItem) (ks : List Gathering) (ps : List Put) (gs : List Group) → gatherings_of items ≡ map gathering_view ks → put_each_by ks ps gs ≡ put_each items ps gs
by_items items ks [] gs e = refl
by_items items ks (p ∷ ps) gs e = by_items items ks ps (put_by ks p gs) e ∙ ap (put_each items ps) (sym (put_alike items ks p gs e))

-- the first is taken, then the others
first_taken : (ks : List Gathering) (n i : ℕ) (v : Option Value) (vs : List (Option Value)) (gs : List Group) → n < length gs
    → each_taken_at ks n i (v ∷ vs) gs ≡ each_taken_at ks n i vs (taken_at ks n (Some (record { aggregate = i; value = v })) gs)
first_taken ks n i v vs gs h =
    let g : Group = get_or gs n no_group in
    let one : Group = with_accumulators g (take_at_by ks i v g.accumulators) in
    let all = λ (x : Group). with_accumulators x (take_each_at ks i vs x.accumulators) in
    sym (ap (λ (x : Group). set (set gs n one) n (all x)) (get_or-set_same gs n one no_group h) ∙ set-set gs n one (all one))

in_turn : (ks : List Gathering) (n i : ℕ) (t : List (Option Value)) (vs : List (Option Value)) (gs : List Group) → AreDistinct gs → n < length gs → (get_or gs n no_group).keys ≡ t
    → in_order (each_taken_at ks n i vs gs) ≡ put_each_by ks (many_puts t i vs) (in_order gs)
in_turn ks n i t [] gs d h e = ap in_order (set-get_or gs n no_group)
in_turn ks n i t (v ∷ vs) gs d h e =
    let p : Put = put_of t (Some (record { aggregate = i; value = v })) in
    let g : Group = get_or gs n no_group in
    let one : Group = with_accumulators g (take_at_by ks i v g.accumulators) in
    ap in_order (first_taken ks n i v vs gs h)
    ∙ in_turn ks n i t vs (set gs n one) (set_distinct gs n one h refl d) (omega (arith, h, length-set gs n one)) (ap (λ (x : Group). x.keys) (get_or-set_same gs n one no_group h) ∙ e)
    ∙ ap (put_each_by ks (many_puts t i vs)) (put_old ks p gs n d h e)

each_is_put : (items : List GroupItem) (ks : List Gathering) (n i : ℕ) (t : List (Option Value)) (vs : List (Option Value)) (gs hs : List Group) → gatherings_of items ≡ map gathering_view ks → AreDistinct gs → n < length gs → (get_or gs n no_group).keys ≡ t
    → hs ≡ each_taken_at ks n i vs gs → in_order hs ≡ put_each items (many_puts t i vs) (in_order gs)
each_is_put items ks n i t vs gs hs e d h k s = ap in_order s ∙ in_turn ks n i t vs gs d h k ∙ by_items items ks (many_puts t i vs) (in_order gs) e

pub many_put : (r : Result (Unit {0}) NoMemory) (ks : List Gathering) (n i : ℕ) (vs : List (Option Value)) (gs hs : List Group) → AreDistinct gs → IfOk r (λ done. hs ≡ each_taken_at ks n i vs gs)
    → IfOk r (λ done. (items : List GroupItem) (t : List (Option Value)) → gatherings_of items ≡ map gathering_view ks → slice_get (tuples_of gs) n ≡ Some t → in_order hs ≡ put_each items (many_puts t i vs) (in_order gs))
many_put (Ok done) ks n i vs gs hs d s = λ items t e f.
    let w = numbered_found gs n t f in
    each_is_put items ks n i t vs gs hs e d w.0 w.1 s
many_put (Err x) ks n i vs gs hs d s = tt

pub as_many : (gs : List held.Group) → length (tuples_of (map group_view gs)) ≡ length gs
as_many gs = length-map (map group_view gs) (λ (g : Group). g.keys) ∙ length-map gs group_view

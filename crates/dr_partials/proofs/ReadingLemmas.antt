-- What is put of the rows that a query's aggregates read.
use Rattle.std.proofs.Common.{◌≡◌, suc, List, [], ◌∷◌, ◌++◌, Bool, true, false, Option, Some, None, refl, sym, ap, ◌∙◌}
use Rattle.std.specs.Prelude.{not, filter, if◌then◌else◌}
use Rattle.std.specs.List.{flat_map}
use Rattle.std.specs.Ordering.{match_ordering}
use Rattle.std.specs.declared.cmp.Ordering.{Ordering}
use Rattle.std.specs.declared.cmp.Ordering.TheVariants.{Less, Equal, Greater}
use Rattle.dr_meaning.specs.Path.{longer}
use Rattle.dr_meaning.specs.Expression.{evaluate, expression_chain, longest_chain}
use Rattle.dr_meaning.specs.Record.{Node}
use Rattle.dr_meaning.specs.Query.{key, count_rows, aggregate, GroupItem, Selection, objects, groups, Query, key_tuple, tuple_order}
use Rattle.dr_partials.specs.Accumulators.{Accumulator}
use Rattle.dr_partials.specs.Partials.{Group, Partial, lines, grouped}
use Rattle.dr_partials.specs.Putting.{Taken, Put, empty_accumulators, put_into, put_group, put_selected, put, put_all, puts_of_rows}
use Rattle.dr_partials.proofs.GroupLemmas.{Tuple}
use Rattle.dr_partials.specs.Readings.{Reading, puts_of_reading, TermsAreReadings, PartedReadings, puts_of_groups, GroupsArePutFirst}
use Rattle.dr_partials.proofs.AnyOrderLemmas.{same_order}
use Rattle.dr_partials.proofs.TogetherLemmas.{all_of, past, turned_lists}

pub terms_are_readings : TermsAreReadings
terms_are_readings keys i [] ns = refl
terms_are_readings keys i (key j ∷ ts) ns = terms_are_readings keys (suc i) ts ns
terms_are_readings keys i (count_rows ∷ ts) ns =
    let x : Reading = record { chain = longest_chain keys; aggregate = i; value = λ (row : Node). None } in
    ap (λ (ps : List Put). puts_of_reading keys ns x ++ ps) (terms_are_readings keys (suc i) ts ns)
terms_are_readings keys i (aggregate a e ∷ ts) ns =
    let x : Reading = record { chain = longer (longest_chain keys) (expression_chain e); aggregate = i; value = evaluate e } in
    ap (λ (ps : List Put). puts_of_reading keys ns x ++ ps) (terms_are_readings keys (suc i) ts ns)

-- ---- one part, then the other

abbrev first_of : Bool → Reading → List Reading → List Reading
first_of b y zs = if b then y ∷ zs else zs

abbrev others : (Reading → Bool) → List Reading → List Reading
others test ys = filter (λ (z : Reading). not (test z)) ys

pub parted_readings : PartedReadings
parted_readings q f test [] x = refl
parted_readings q f test (y ∷ ys) x = by_test (test y) (parted_readings q f test ys (put_all q (f y) x))
  where
    by_test : (b : Bool) → put_all q (flat_map f (filter test ys) ++ flat_map f (others test ys)) (put_all q (f y) x) ≡ put_all q (flat_map f ys) (put_all q (f y) x)
        → put_all q (flat_map f (first_of b y (filter test ys)) ++ flat_map f (first_of (not b) y (others test ys))) x ≡ put_all q (f y ++ flat_map f ys) x
    by_test true h =
        all_of q (f y ++ flat_map f (filter test ys)) (flat_map f (others test ys)) x
        ∙ (ap (put_all q (flat_map f (others test ys))) (all_of q (f y) (flat_map f (filter test ys)) x)
        ∙ (sym (all_of q (flat_map f (filter test ys)) (flat_map f (others test ys)) (put_all q (f y) x))
        ∙ (h ∙ sym (all_of q (f y) (flat_map f ys) x))))
    by_test false h =
        all_of q (flat_map f (filter test ys)) (f y ++ flat_map f (others test ys)) x
        ∙ (all_of q (f y) (flat_map f (others test ys)) (put_all q (flat_map f (filter test ys)) x)
        ∙ (ap (put_all q (flat_map f (others test ys))) (turned_lists q (flat_map f (filter test ys)) (f y) x)
        ∙ (sym (all_of q (flat_map f (filter test ys)) (flat_map f (others test ys)) (put_all q (f y) x))
        ∙ (h ∙ sym (all_of q (f y) (flat_map f ys) x)))))

-- ---- groups first

abbrev of_keys : Tuple → Option Taken → Put
of_keys k t = record { keys = k; taken = t }

-- into groups of which g is the first, by the order of the keys
abbrev placed : List GroupItem → Ordering → Put → Group → List Group → List Group
placed items o p g gs = match_ordering o (put_into items p (empty_accumulators items) ∷ g ∷ gs) (put_into items p g.accumulators ∷ gs) (g ∷ put_group items p gs)

into_same : (items : List GroupItem) (k : Tuple) (t : Option Taken) (xs : List Accumulator) (gs : List Group)
    → put_group items (of_keys k t) (put_into items (of_keys k None) xs ∷ gs) ≡ put_into items (of_keys k t) xs ∷ gs
into_same items k t xs gs = ap (λ (o : Ordering). placed items o (of_keys k t) (put_into items (of_keys k None) xs) gs) (same_order k)

groups_absorb : (items : List GroupItem) (k : Tuple) (t : Option Taken) (gs : List Group)
    → put_group items (of_keys k t) (put_group items (of_keys k None) gs) ≡ put_group items (of_keys k t) gs
groups_absorb items k t [] = into_same items k t (empty_accumulators items) []
groups_absorb items k t (g ∷ gs) = by_order (tuple_order k g.keys) refl (groups_absorb items k t gs)
  where
    by_order : (o : Ordering) → tuple_order k g.keys ≡ o → put_group items (of_keys k t) (put_group items (of_keys k None) gs) ≡ put_group items (of_keys k t) gs
        → put_group items (of_keys k t) (placed items o (of_keys k None) g gs) ≡ placed items o (of_keys k t) g gs
    by_order Less e h = into_same items k t (empty_accumulators items) (g ∷ gs)
    by_order Equal e h = into_same items k t g.accumulators gs
    by_order Greater e h =
        ap (λ (o : Ordering). placed items o (of_keys k t) g (put_group items (of_keys k None) gs)) e ∙ ap (λ (hs : List Group). g ∷ hs) h

selected_absorb : (s : Selection) (k : Tuple) (t : Option Taken) (x : Partial) → put_selected s (of_keys k t) (put_selected s (of_keys k None) x) ≡ put_selected s (of_keys k t) x
selected_absorb (objects items) k t x = refl
selected_absorb (groups keys items) k t (lines os) = refl
selected_absorb (groups keys items) k t (grouped gs) = ap grouped (groups_absorb items k t gs)

absorbed : (q : Query) (k : Tuple) (t : Option Taken) (x : Partial) → put q (of_keys k t) (put q (of_keys k None) x) ≡ put q (of_keys k t) x
unfolding put
absorbed q k t x = selected_absorb q.selection k t x

pub groups_are_put_first : GroupsArePutFirst
groups_are_put_first q keys i value [] x = refl
groups_are_put_first q keys i value (n ∷ ns) x =
    let g : Put = of_keys (key_tuple keys n) None in
    let p : Put = of_keys (key_tuple keys n) (Some (record { aggregate = i; value = value n })) in
    let gs : List Put = puts_of_groups keys ns in
    let ps : List Put = puts_of_rows keys i value ns in
    all_of q gs (p ∷ ps) (put q g x)
    ∙ (ap (λ (y : Partial). put_all q ps (put q p y)) (past q g gs x)
    ∙ (ap (put_all q ps) (absorbed q (key_tuple keys n) (Some (record { aggregate = i; value = value n })) (put_all q gs x))
    ∙ (ap (put_all q ps) (sym (past q p gs x))
    ∙ (sym (all_of q gs ps (put q p x)) ∙ groups_are_put_first q keys i value ns (put q p x)))))

-- A partial of few records, with few triplets at the leaves of the query, can be of few values.
use Rattle.std.proofs.Common.{◌≡◌, ◌≤◌, ℕ, ◌+◌, List, [], ◌∷◌, map, length, Bool, true, false, ◌&&◌, ◌||◌, Option, Some, None, cond, refl, sym, ap, ap₂, ◌∙◌, subst, arith}
use Rattle.std.specs.Prelude.{filter, nat_le, ◌==◌}
use Rattle.std.specs.List.{flat_map, filter_map, list_all, list_any, cons_option}
use Rattle.std.specs.Ordering.{is_eq}
use Rattle.std.proofs.lemmas.Bool.{and_parts}
use Rattle.std.proofs.lemmas.Bool.Decides.{nat_tests}
use Rattle.std.proofs.lemmas.List.{length-map}
use Rattle.dr_meaning.specs.Schema.{Fields}
use Rattle.dr_meaning.specs.Path.{Step, Leaf, longer, begins_with}
use Rattle.dr_meaning.specs.Record.{Value, Node, is_record, project}
use Rattle.dr_meaning.specs.Rows.{rows}
use Rattle.dr_meaning.specs.Column.{column}
use Rattle.dr_meaning.specs.Expression.{Expression, evaluate, paths_of, expression_chain, longest_chain}
use Rattle.dr_meaning.specs.Kept.{kept}
use Rattle.dr_meaning.specs.Query.{smaller, larger, Aggregate, count, sum, least, greatest, GroupTerm, key, count_rows, aggregate, GroupItem, Selection, objects, groups, Query, key_tuple, tuple_order, group_tuples, group_rows, Levels, levels_of}
use Rattle.dr_meaning.specs.MeaningLaws.{condition_paths, group_term_paths, selection_paths, all_lead, covers}
use Rattle.dr_meaning.specs.ProjectionLaws.{leads}
use Rattle.dr_meaning.specs.QueryLeaves.{query_leaves}
use Rattle.dr_meaning.proofs.MeaningLemmas.{both_lead, longer-leads, longest_chain-leads, column_of_projections}
use Rattle.dr_partials.specs.Accumulators.{Accumulator, counted, summed, least_of, greatest_of, join_options, join, accumulated}
use Rattle.dr_partials.specs.Partials.{term_accumulator, group_of, selected_partial, partial_of}
use Rattle.dr_partials.specs.PartialBounds.{CanBeOf, AllCanBeOf, GroupsCanBeOf, PartialCanBeOf, is_of_64_bits}
use Rattle.dr_partials.proofs.RowLemmas.{Each, each_append}
use Rattle.dr_partials.proofs.BoundsLemmas.{gathered_can_be_of}
use Rattle.dr_partials.proofs.BoundLemmas.{bound_leaves_are_enough}
use Rattle.dr_partials.specs.Few.{is_small, term_is_small, sums_are_small, has_few}
use Rattle.dr_partials.specs.BoundLaws.{PartialOfFewIsBounded, PartialOfFewProjectionsIsBounded, projections}
use Rattle.dr_partials.proofs.SmallLemmas.{SmallNode, record_small, rows_small, expression_small}
use Rattle.dr_partials.proofs.RowCounts.{few_rows}
use Rattle.dr_partials.proofs.KeptLemmas.{kept_small, kept_rows}

-- ---- what is gathered of values

more : (m n : ℕ) (x : Accumulator) → m ≤ n → CanBeOf m x → CanBeOf n x
more m n (counted k) h c = omega (arith, h, c)
more m n (summed None) h c = tt
more m n (summed (Some z)) h c = omega (arith, h, c)
more m n (least_of v) h c = tt
more m n (greatest_of v) h c = tt

count_of : (vs : List (Option Value)) → (m : ℕ) × (accumulated count vs ≡ counted m) × (m ≤ length vs)
count_of [] = (0, refl, omega arith)
count_of (None ∷ vs) = let r = count_of vs in (0 + r.0, ap (join (counted 0)) r.1, omega (arith, r.2))
count_of (Some v ∷ vs) = let r = count_of vs in (1 + r.0, ap (join (counted 1)) r.1, omega (arith, r.2))

least_among : (vs : List (Option Value)) → (w : Option Value) × (accumulated least vs ≡ least_of w)
least_among [] = (None, refl)
least_among (None ∷ vs) = let r = least_among vs in (join_options smaller None r.0, ap (join (least_of None)) r.1)
least_among (Some v ∷ vs) = let r = least_among vs in (join_options smaller (Some v) r.0, ap (join (least_of (Some v))) r.1)

greatest_among : (vs : List (Option Value)) → (w : Option Value) × (accumulated greatest vs ≡ greatest_of w)
greatest_among [] = (None, refl)
greatest_among (None ∷ vs) = let r = greatest_among vs in (join_options larger None r.0, ap (join (greatest_of None)) r.1)
greatest_among (Some v ∷ vs) = let r = greatest_among vs in (join_options larger (Some v) r.0, ap (join (greatest_of (Some v))) r.1)

small_values : (e : Expression) (ns : List Node) → is_small e ≡ true → Each SmallNode ns → list_all is_of_64_bits (map (evaluate e) ns) ≡ true
small_values e [] h s = refl
small_values e (n ∷ ns) h s = ap₂ (λ a b. a && b) (expression_small e n h s.0) (small_values e ns h s.1)

-- only a sum needs small values
gathered : (a : Aggregate) (e : Expression) (ns : List Node) → term_is_small (aggregate a e) ≡ true → Each SmallNode ns → CanBeOf (length (map (evaluate e) ns)) (accumulated a (map (evaluate e) ns))
gathered count e ns h s = let r = count_of (map (evaluate e) ns) in subst (CanBeOf (length (map (evaluate e) ns))) (sym r.1) r.2
gathered sum e ns h s = gathered_can_be_of sum (map (evaluate e) ns) (small_values e ns h s)
gathered least e ns h s = let r = least_among (map (evaluate e) ns) in subst (CanBeOf (length (map (evaluate e) ns))) (sym r.1) tt
gathered greatest e ns h s = let r = greatest_among (map (evaluate e) ns) in subst (CanBeOf (length (map (evaluate e) ns))) (sym r.1) tt

-- ---- the rows of a group

filter_small : (f : Node → Bool) (ns : List Node) → Each SmallNode ns → Each SmallNode (filter f ns)
filter_small f [] h = tt
filter_small f (n ∷ ns) h = by_test (f n) (filter_small f ns h.1)
  where
    by_test : (b : Bool) → Each SmallNode (filter f ns) → Each SmallNode (cond b (n ∷ filter f ns) (filter f ns))
    by_test true r = (h.0, r)
    by_test false r = r

filter_few : (f : Node → Bool) (ns : List Node) → length (filter f ns) ≤ length ns
filter_few f [] = omega arith
filter_few f (n ∷ ns) = by_test (f n) (filter_few f ns)
  where
    by_test : (b : Bool) → length (filter f ns) ≤ length ns → length (cond b (n ∷ filter f ns) (filter f ns)) ≤ length (n ∷ ns)
    by_test true r = omega (arith, r)
    by_test false r = omega (arith, r)

all_rows_small : (p : List Step) (ns : List Node) → Each SmallNode ns → Each SmallNode (flat_map (rows p) ns)
all_rows_small p [] h = tt
all_rows_small p (n ∷ ns) h = each_append SmallNode (rows p n) (flat_map (rows p) ns) (rows_small p n h.0) (all_rows_small p ns h.1)

-- ---- groups

-- nodes with values of 64 bits and few rows of the paths that lead on to some leaves
record Few (n : ℕ) (F : List (List Step)) (ns : List Node) : Type 0 where
  small : Each SmallNode ns
  rows_few : (p : List Step) → leads p F ≡ true → length (flat_map (rows p) ns) ≤ n

AccumulatorFew : ℕ → Option Accumulator → Type 0
AccumulatorFew n None = Unit {0}
AccumulatorFew n (Some x) = CanBeOf n x

term_few : (n : ℕ) (F : List (List Step)) (ns : List Node) → Few n F ns → (keys : List (List Step)) → all_lead F keys ≡ true → (t : List (Option Value)) (g : GroupTerm) → all_lead F (group_term_paths g) ≡ true → term_is_small g ≡ true
    → AccumulatorFew n (term_accumulator keys t ns g)
unfolding AccumulatorFew
term_few n F ns f keys k t (key i) l s = tt
term_few n F ns f keys k t count_rows l s =
    let p = longest_chain keys in
    omega (arith, filter_few (λ row. is_eq (tuple_order (key_tuple keys row) t)) (flat_map (rows p) ns), f.rows_few p (longest_chain-leads keys F k))
term_few n F ns f keys k t (aggregate a e) l s =
    let p = longer (longest_chain keys) (expression_chain e) in
    let ms : List Node = group_rows keys t p ns in
    let few : length (flat_map (rows p) ns) ≤ n = f.rows_few p (longer-leads (longest_chain keys) (expression_chain e) F (longest_chain-leads keys F k) (longest_chain-leads (paths_of e) F l)) in
    let fewer : length ms ≤ length (flat_map (rows p) ns) = filter_few (λ row. is_eq (tuple_order (key_tuple keys row) t)) (flat_map (rows p) ns) in
    more (length (map (evaluate e) ms)) n (accumulated a (map (evaluate e) ms)) (omega (arith, few, fewer, length-map ms (evaluate e)))
    (gathered a e ms s (filter_small (λ row. is_eq (tuple_order (key_tuple keys row) t)) (flat_map (rows p) ns) (all_rows_small p ns f.small)))

items_few : (n : ℕ) (F : List (List Step)) (ns : List Node) → Few n F ns → (keys : List (List Step)) → all_lead F keys ≡ true → (t : List (Option Value)) (items : List GroupItem)
    → all_lead F (flat_map (λ (i : GroupItem). group_term_paths i.term) items) ≡ true → list_all (λ (i : GroupItem). term_is_small i.term) items ≡ true
    → AllCanBeOf n (filter_map (λ (i : GroupItem). term_accumulator keys t ns i.term) items)
unfolding AccumulatorFew
items_few n F ns f keys k t [] l s = tt
items_few n F ns f keys k t (i ∷ items) l s =
    let a = both_lead (group_term_paths i.term) (flat_map (λ (i : GroupItem). group_term_paths i.term) items) F l in
    let b = and_parts (term_is_small i.term) (list_all (λ (i : GroupItem). term_is_small i.term) items) s in
    by_term (term_accumulator keys t ns i.term) (term_few n F ns f keys k t i.term a.0 b.0) (items_few n F ns f keys k t items a.1 b.1)
  where
    by_term : (o : Option Accumulator) → AccumulatorFew n o → AllCanBeOf n (filter_map (λ (i : GroupItem). term_accumulator keys t ns i.term) items)
        → AllCanBeOf n (cons_option o (filter_map (λ (i : GroupItem). term_accumulator keys t ns i.term) items))
    by_term None h r = r
    by_term (Some x) h r = (h, r)

groups_few : (n : ℕ) (keys : List (List Step)) (items : List GroupItem) (ns : List Node) → ((t : List (Option Value)) → AllCanBeOf n (filter_map (λ (i : GroupItem). term_accumulator keys t ns i.term) items))
    → (ts : List (List (Option Value))) → GroupsCanBeOf n (map (group_of keys items ns) ts)
groups_few n keys items ns h [] = tt
groups_few n keys items ns h (t ∷ ts) = (h t, groups_few n keys items ns h ts)

selected_few : (n : ℕ) (F : List (List Step)) (ns : List Node) → Few n F ns → (s : Selection) (ls : Levels) → all_lead F (selection_paths s) ≡ true → sums_are_small s ≡ true → PartialCanBeOf n (selected_partial s ls ns)
selected_few n F ns f (objects items) ls l s = tt
selected_few n F ns f (groups keys items) ls l s =
    let k = both_lead keys (flat_map (λ (i : GroupItem). group_term_paths i.term) items) F l in
    groups_few n keys items ns (λ t. items_few n F ns f keys k.0 t items k.1 s) (group_tuples keys ns)

-- ---- of records

records_small : (fs : Fields) (R : List Node) → list_all (is_record fs) R ≡ true → Each SmallNode R
records_small fs [] h = tt
records_small fs (n ∷ R) h = let k = and_parts (is_record fs n) (list_all (is_record fs) R) h in (record_small fs n k.0, records_small fs R k.1)

-- where these leaves are enough for a query
pub few_bound : (fs : Fields) (q : Query) (F : List Leaf) (R : List Node) (n : ℕ) → covers (map (λ (l : Leaf). l.path) F) q ≡ true → sums_are_small q.selection ≡ true
    → list_all (is_record fs) R ≡ true → length R ≤ n → has_few n F R ≡ true → PartialCanBeOf n (partial_of fs q R)
unfolding partial_of
few_bound fs q F R n c s r l h =
    let paths : List (List Step) = map (λ (l : Leaf). l.path) F in
    let k = both_lead (condition_paths q.condition) (selection_paths q.selection) paths c in
    let ns : List Node = filter_map (kept q.condition) R in
    let rows_few : (p : List Step) → leads p paths ≡ true → length (flat_map (rows p) ns) ≤ n = λ p e. omega (arith, kept_rows q.condition p R, few_rows p F R n e l h) in
    selected_few n paths ns (record { small = kept_small q.condition R (records_small fs R r); rows_few = rows_few }) q.selection (levels_of fs) k.1 s

pub partial_of_few : PartialOfFewIsBounded
partial_of_few s q b R n h k r l f = few_bound s.fields b (query_leaves s.fields b) R n (bound_leaves_are_enough s q b h) k r l f

-- ---- of projections

begins_itself : (p : List Step) → begins_with p p ≡ true
begins_itself [] = refl
begins_itself (s ∷ p) = ap₂ (λ a b. a && b) (same_place s.place) (begins_itself p)
  where
    same_place : (m : ℕ) → (m == m) ≡ true
    same_place m = grind (arith, nat_tests)

-- a leaf leads on to itself, wherever it stands
leaf_leads : (p : List Step) (F : List (List Step)) → list_any (begins_with p) F ≡ true → leads p F ≡ true
leaf_leads [] F h = refl
leaf_leads (s ∷ p) F h = h

few_projected : (n : ℕ) (F G : List Leaf) (R : List Node) → Each (λ (l : Leaf). leads l.path (map (λ (l : Leaf). l.path) G) ≡ true) F → has_few n F (projections G R) ≡ true → has_few n F R ≡ true
few_projected n [] G R e h = refl
few_projected n (l ∷ F) G R e h =
    let paths : List (List Step) = map (λ (l : Leaf). l.path) G in
    let k = and_parts (nat_le (length (column l.path (projections G R))) n) (has_few n F (projections G R)) h in
    ap₂ (λ a b. a && b) (ap (λ ts. nat_le (length ts) n) (sym (column_of_projections paths l.path R e.0)) ∙ k.0) (few_projected n F G R e.1 k.1)

or_right : (a b : Bool) → b ≡ true → (a || b) ≡ true
or_right true b h = refl
or_right false b h = h

abbrev paths_at : List Leaf → List (List Step)
paths_at F = map (λ (l : Leaf). l.path) F

all_paths_lead : (G F : List Leaf) → ((q : List Step) → list_any (begins_with q) (paths_at F) ≡ true → list_any (begins_with q) (paths_at G) ≡ true) → Each (λ (l : Leaf). leads l.path (paths_at G) ≡ true) F
all_paths_lead G [] u = tt
all_paths_lead G (l ∷ F) u = (
  leaf_leads l.path (paths_at G) (u l.path (ap (λ b. b || list_any (begins_with l.path) (paths_at F)) (begins_itself l.path))),
  all_paths_lead G F (λ q e. u q (or_right (begins_with q l.path) (list_any (begins_with q) (paths_at F)) e)),
)

pub partial_of_few_projections : PartialOfFewProjectionsIsBounded
partial_of_few_projections s q b R n h k r l f =
    let F : List Leaf = query_leaves s.fields b in
    partial_of_few s q b R n h k r (omega (arith, l, length-map R (project (map (λ (l : Leaf). l.path) F)))) (few_projected n F F R (all_paths_lead F F (λ q e. e)) f)

-- A query means the same on projections to leaves to which its paths lead; a projection has the columns of its leaves.
use Rattle.std.proofs.Common.{◌≡◌, ℕ, ◌+◌, List, [], ◌∷◌, ◌++◌, map, length, Bool, true, false, ◌&&◌, ◌||◌, Option, Some, None, cond, refl, sym, ap, ap₂, ◌∙◌, true≢false, arith}
use Rattle.std.specs.Prelude.{◌==◌, if◌then◌else◌, option_map, filter}
use Rattle.std.specs.List.{list_any, filter_map, flat_map, cons_option}
use Rattle.std.specs.Ordering.{is_eq}
use Rattle.std.proofs.Math.Path.{fun_ext}
use Rattle.std.proofs.lemmas.Bool.{and_parts, eqb-true}
use Rattle.std.proofs.lemmas.Bool.Decides.{nat_tests}
use Rattle.std.proofs.lemmas.List.{map-append, length-map}
use Rattle.std.proofs.lemmas.List.Folds.{list_all-append}
use Rattle.std.proofs.lemmas.Simd.{map-map}
use Rattle.dr_meaning.specs.Schema.{repetition_count, definition_count, is_repeated}
use Rattle.dr_meaning.specs.Path.{same_path, Step, begins_with, chain_end, up_to, longer, is_shorter}
use Rattle.dr_meaning.specs.Record.{Value, Node, Instances, no_instances, instance, Instance, atom, inner, instances_at, put_at, project, project_all, project_one}
use Rattle.dr_meaning.specs.Rows.{single, rows, is_present}
use Rattle.dr_meaning.specs.Expression.{Expression, constant, path_value, negative, arithmetic, comparison, like, contains, is_null, negation, conjunction, disjunction, combine, compared, on_both, not_value, and_values, or_values, null_test, evaluate, is_true, paths_of, longest_chain, expression_chain}
use Rattle.dr_meaning.specs.Kept.{with_kept, keep_each, if_some_kept, keep_below, keep_instance, kept_along, kept}
use Rattle.dr_meaning.specs.Query.{Aggregate, RecordTerm, expression, within, GroupTerm, key, count_rows, aggregate, RecordItem, GroupItem, Selection, objects, groups, Object, cell, Objects, present_values, aggregated, count_value, over_rows, Levels, no_levels, deeper, levels_of, term_chain, term_value, with_cells, leads_to_items, with_list, objects_of, instances_of, object_lists, record_object, key_tuple, tuple_order, distinct_tuples, group_tuples, group_rows, group_value, group_cells, selected, meaning}
use Rattle.dr_meaning.specs.Column.{Triplet, each_later, spread, instance_column, column}
use Rattle.dr_meaning.specs.ProjectionLaws.{leads}
use Rattle.dr_meaning.specs.MeaningLaws.{condition_paths, record_term_paths, group_term_paths, selection_paths, all_lead, MeaningOfProjection, ColumnsOfProjection}
use Rattle.dr_meaning.proofs.ProjectionLemmas.{below, leads-below, leads_from_front, at-project, put-project, rows_of_projection, values_of_projection, present_in_projection}

-- ---- fronts of paths

same_place : (n : ℕ) → (n == n) ≡ true
same_place n = grind (arith, nat_tests)

either_so : (a b c : Bool) → (a ≡ true → c ≡ true) → (b ≡ true → c ≡ true) → (a || b) ≡ true → c ≡ true
either_so true b c f g h = f refl
either_so false b c f g h = g h

or_weaker : (a b c d : Bool) → (a ≡ true → c ≡ true) → (b ≡ true → d ≡ true) → (a || b) ≡ true → (c || d) ≡ true
or_weaker true b c d f g h = rw (f refl)
or_weaker false b true d f g h = refl
or_weaker false b false d f g h = g h

begins_with-trans : (p q f : List Step) → begins_with p q ≡ true → begins_with q f ≡ true → begins_with p f ≡ true
begins_with-trans [] q f h g = refl
begins_with-trans (s ∷ p) [] f h g = absurd (true≢false (sym h))
begins_with-trans (s ∷ p) (t ∷ q) [] h g = absurd (true≢false (sym g))
begins_with-trans (s ∷ p) (t ∷ q) (u ∷ f) h g =
    let a : ((s.place == t.place) ≡ true) × (begins_with p q ≡ true) = and_parts _ _ h in
    let b : ((t.place == u.place) ≡ true) × (begins_with q f ≡ true) = and_parts _ _ g in
    let e : s.place ≡ u.place = eqb-true s.place t.place a.0 ∙ eqb-true t.place u.place b.0 in
    ap₂ (λ x y. x && y) (ap (λ i. s.place == i) (sym e) ∙ same_place s.place) (begins_with-trans p q f a.1 b.1)

front-leads_on : (p q : List Step) (F : List (List Step)) → begins_with p q ≡ true → list_any (begins_with q) F ≡ true → list_any (begins_with p) F ≡ true
front-leads_on p q [] h g = g
front-leads_on p q (f ∷ F) h g = or_weaker _ _ _ _ (begins_with-trans p q f h) (front-leads_on p q F h) g

-- a front of a path that leads on leads on
pub front-leads : (p q : List Step) (F : List (List Step)) → begins_with p q ≡ true → leads q F ≡ true → leads p F ≡ true
front-leads [] q F h g = refl
front-leads (s ∷ p) [] F h g = absurd (true≢false (sym h))
front-leads (s ∷ p) (t ∷ q) F h g = front-leads_on (s ∷ p) (t ∷ q) F h g

up_to-front : (s : Step) (l p : List Step) → begins_with l p ≡ true → begins_with (up_to s l) (s ∷ p) ≡ true
up_to-front s [] p h = last (is_repeated s.repetition)
  where
    last : (b : Bool) → begins_with (if b then s ∷ [] else []) (s ∷ p) ≡ true
    last true = rw (same_place s.place)
    last false = refl
up_to-front s (t ∷ l) p h = rw (same_place s.place) h

pub level-front : (p : List Step) → begins_with (chain_end p) p ≡ true
level-front [] = refl
level-front (s ∷ p) = up_to-front s (chain_end p) p (level-front p)

pub longer-leads : (p q : List Step) (F : List (List Step)) → leads p F ≡ true → leads q F ≡ true → leads (longer p q) F ≡ true
longer-leads p q F h g = choice (is_shorter p q)
  where
    choice : (b : Bool) → leads (if b then q else p) F ≡ true
    choice true = g
    choice false = h

pub longest_chain-leads : (ps : List (List Step)) (F : List (List Step)) → all_lead F ps ≡ true → leads (longest_chain ps) F ≡ true
longest_chain-leads [] F h = refl
longest_chain-leads (p ∷ ps) F h =
    let k : (leads p F ≡ true) × (all_lead F ps ≡ true) = and_parts _ _ h in
    longer-leads (chain_end p) (longest_chain ps) F (front-leads (chain_end p) p F (level-front p) k.0) (longest_chain-leads ps F k.1)

pub both_lead : (ps qs : List (List Step)) (F : List (List Step)) → all_lead F (ps ++ qs) ≡ true → (all_lead F ps ≡ true) × (all_lead F qs ≡ true)
both_lead ps qs F h = and_parts _ _ (sym (list_all-append (λ (p : List Step). leads p F) ps qs) ∙ h)

-- ---- lists of projections

-- what sees of a projection what it sees of the record
map-project {ℓ} : {A : Type ℓ} (F : List (List Step)) (f : Node → A) → ((m : Node) → f (project F m) ≡ f m) → (ns : List Node) → map f (map (project F) ns) ≡ map f ns
map-project F f h ns = map-map f (project F) ns ∙ ap (λ g. map g ns) (fun_ext h)

filter-project : (F : List (List Step)) (f : Node → Bool) → ((m : Node) → f (project F m) ≡ f m) → (ns : List Node) → filter f (map (project F) ns) ≡ map (project F) (filter f ns)
filter-project F f h [] = refl
filter-project F f h (n ∷ ns) = ap₂ (λ b ms. cond b (project F n ∷ ms) ms) (h n) (filter-project F f h ns) ∙ choice (f n)
  where
    choice : (b : Bool) → cond b (project F n ∷ map (project F) (filter f ns)) (map (project F) (filter f ns)) ≡ map (project F) (cond b (n ∷ filter f ns) (filter f ns))
    choice true = refl
    choice false = refl

option-project : (F : List (List Step)) (o : Option Node) (ns : List Node) → cons_option (option_map (project F) o) (map (project F) ns) ≡ map (project F) (cons_option o ns)
option-project F None ns = refl
option-project F (Some n) ns = refl

filter_map-project : (F : List (List Step)) (f : Node → Option Node) → ((m : Node) → f (project F m) ≡ option_map (project F) (f m)) → (ns : List Node) → filter_map f (map (project F) ns) ≡ map (project F) (filter_map f ns)
filter_map-project F f h [] = refl
filter_map-project F f h (n ∷ ns) = ap₂ cons_option (h n) (filter_map-project F f h ns) ∙ option-project F (f n) (filter_map f ns)

flat_rows-project : (F : List (List Step)) (p : List Step) → leads p F ≡ true → (ns : List Node) → flat_map (rows p) (map (project F) ns) ≡ map (project F) (flat_map (rows p) ns)
flat_rows-project F p h [] = refl
flat_rows-project F p h (n ∷ ns) = ap₂ (λ a b. a ++ b) (rows_of_projection F p n h) (flat_rows-project F p h ns) ∙ sym (map-append (project F) (rows p n) (flat_map (rows p) ns))

-- ---- expressions

pub evaluate-project : (F : List (List Step)) (e : Expression) (n : Node) → all_lead F (paths_of e) ≡ true → evaluate e (project F n) ≡ evaluate e n
evaluate-project F (constant v) n h = refl
evaluate-project F (path_value p) n h = values_of_projection F p n (and_parts _ _ h).0
evaluate-project F (negative e) n h = rw (evaluate-project F e n h)
evaluate-project F (arithmetic o a b) n h = let k = both_lead (paths_of a) (paths_of b) F h in ap₂ (on_both (combine o)) (evaluate-project F a n k.0) (evaluate-project F b n k.1)
evaluate-project F (comparison c a b) n h = let k = both_lead (paths_of a) (paths_of b) F h in ap₂ (on_both (compared c)) (evaluate-project F a n k.0) (evaluate-project F b n k.1)
evaluate-project F (like e t) n h = rw (evaluate-project F e n h)
evaluate-project F (contains e t) n h = rw (evaluate-project F e n h)
evaluate-project F (is_null e) n h = ap null_test (evaluate-project F e n h)
evaluate-project F (negation e) n h = ap not_value (evaluate-project F e n h)
evaluate-project F (conjunction a b) n h = let k = both_lead (paths_of a) (paths_of b) F h in ap₂ and_values (evaluate-project F a n k.0) (evaluate-project F b n k.1)
evaluate-project F (disjunction a b) n h = let k = both_lead (paths_of a) (paths_of b) F h in ap₂ or_values (evaluate-project F a n k.0) (evaluate-project F b n k.1)

over_rows-project : (F : List (List Step)) (a : Aggregate) (e : Expression) → all_lead F (paths_of e) ≡ true → (ns : List Node) → over_rows a e (map (project F) ns) ≡ over_rows a e ns
over_rows-project F a e h ns = ap (λ vs. aggregated a (present_values vs)) (map-project F (evaluate e) (λ (m : Node). evaluate-project F e m h) ns)

-- ---- kept branches

with_kept-project : (G : List (List Step)) (o : Option Instance) (xs : Instances) → with_kept (option_map (project_one G) o) (project_all G xs) ≡ project_all G (with_kept o xs)
with_kept-project G None xs = refl
with_kept-project G (Some x) xs = refl

keep_each-project : (G : List (List Step)) (f g : Instance → Option Instance) → ((x : Instance) → f (project_one G x) ≡ option_map (project_one G) (g x)) → (xs : Instances) → keep_each f (project_all G xs) ≡ project_all G (keep_each g xs)
keep_each-project G f g h no_instances = refl
keep_each-project G f g h (instance x xs) = ap₂ with_kept (h x) (keep_each-project G f g h xs) ∙ with_kept-project G (g x) (keep_each g xs)

if_some_kept-project : (F G : List (List Step)) (f g : Instances → Node) → ((xs : Instances) → f (project_all G xs) ≡ project F (g xs)) → (xs : Instances) → if_some_kept f (project_all G xs) ≡ option_map (project F) (if_some_kept g xs)
if_some_kept-project F G f g h no_instances = refl
if_some_kept-project F G f g h (instance x xs) = ap Some (h (instance x xs))

if_kept-project : {A : Type 0} (f : A → A) (b c : Bool) (x : A) → b ≡ c → (if b then Some (f x) else None) ≡ option_map f (if c then Some x else None)
if_kept-project f true true x h = refl
if_kept-project f true false x h = absurd (true≢false h)
if_kept-project f false true x h = absurd (true≢false (sym h))
if_kept-project f false false x h = refl

keep_below-project : (F G : List (List Step)) (t u : Node → Bool) (put put′ : Instances → Node) (f g : Instance → Option Instance) (n : Node)
    → t (project F n) ≡ u n
    → ((xs : Instances) → put (project_all G xs) ≡ project F (put′ xs))
    → ((x : Instance) → f (project_one G x) ≡ option_map (project_one G) (g x))
    → (xs : Instances) → keep_below t put f (project F n) (project_all G xs) ≡ option_map (project F) (keep_below u put′ g n xs)
keep_below-project F G t u put put′ f g n own into each no_instances = if_kept-project (project F) (t (project F n)) (u n) n own
keep_below-project F G t u put put′ f g n own into each (instance x xs) =
    ap (if_some_kept put) (keep_each-project G f g each (instance x xs)) ∙ if_some_kept-project F G put put′ into (keep_each g (instance x xs))

inner-project : (G : List (List Step)) (o : Option Node) → option_map inner (option_map (project G) o) ≡ option_map (project_one G) (option_map inner o)
inner-project G None = refl
inner-project G (Some n) = refl

-- an instance, where the rest of the chain is kept alike and the tests are of whole rows
keep_instance-project : (G : List (List Step)) (p : List Step)
    → ((t u : Node → Bool) (n : Node) → ((m : Node) → t (project G m) ≡ u m) → kept_along p t (project G n) ≡ option_map (project G) (kept_along p u n))
    → (row row′ : Instance → Node) (t u : Node → Bool) → ((x : Instance) → t (row (project_one G x)) ≡ u (row′ x))
    → (x : Instance) → keep_instance (kept_along p) row t (project_one G x) ≡ option_map (project_one G) (keep_instance (kept_along p) row′ u x)
keep_instance-project G p rest row row′ t u h (atom v) = if_kept-project (project_one G) (t (row (atom v))) (u (row′ (atom v))) (atom v) (h (atom v))
keep_instance-project G p rest row row′ t u h (inner n) =
    ap (option_map inner) (rest (λ (m : Node). t (row (inner m))) (λ (m : Node). u (row′ (inner m))) n (λ (m : Node). h (inner m)))
    ∙ inner-project G (kept_along p (λ (m : Node). u (row′ (inner m))) n)

pub kept_along-project : (F : List (List Step)) (p : List Step) (t u : Node → Bool) (n : Node) → leads p F ≡ true → ((m : Node) → t (project F m) ≡ u m) → kept_along p t (project F n) ≡ option_map (project F) (kept_along p u n)
kept_along-project F [] t u n l h = if_kept-project (project F) (t (project F n)) (u n) n (h n)
kept_along-project F (s ∷ p) t u n l h =
    let G : List (List Step) = below s.place F in
    let k : list_any (begins_with p) G ≡ true = leads-below s.place s.repetition p F l in
    let row : Instance → Node = λ (x : Instance). put_at s.place (single x) (project F n) in
    let row′ : Instance → Node = λ (x : Instance). put_at s.place (single x) n in
    ap (keep_below t (λ (xs : Instances). put_at s.place xs (project F n)) (keep_instance (kept_along p) row t) (project F n)) (at-project s.place p F n k)
    ∙ keep_below-project F G t u (λ (xs : Instances). put_at s.place xs (project F n)) (λ (xs : Instances). put_at s.place xs n) (keep_instance (kept_along p) row t) (keep_instance (kept_along p) row′ u) n (h n) (λ (xs : Instances). put-project s.place F xs n)
    (keep_instance-project G p (λ (v w : Node → Bool) (m : Node). kept_along-project G p v w m (leads_from_front p G k)) row row′ t u (λ (x : Instance). ap t (put-project s.place F (single x) n) ∙ h (row′ x)))
    (instances_at s.place n)

pub kept-project : (F : List (List Step)) (c : Option Expression) (n : Node) → all_lead F (condition_paths c) ≡ true → kept c (project F n) ≡ option_map (project F) (kept c n)
kept-project F None n h = refl
kept-project F (Some e) n h = kept_along-project F (expression_chain e) _ _ n (longest_chain-leads (paths_of e) F h) (λ (m : Node). ap is_true (evaluate-project F e m h))

-- ---- record queries

term_chain-leads : (F : List (List Step)) (t : RecordTerm) → all_lead F (record_term_paths t) ≡ true → leads (term_chain t) F ≡ true
term_chain-leads F (expression e) h = longest_chain-leads (paths_of e) F h
term_chain-leads F (within a e node) h = (and_parts _ _ h).0

term_value-project : (F : List (List Step)) (t : RecordTerm) (n : Node) → all_lead F (record_term_paths t) ≡ true → term_value t (project F n) ≡ term_value t n
term_value-project F (expression e) n h = evaluate-project F e n h
term_value-project F (within a e node) n h =
    let k : (leads (chain_end node) F ≡ true) × (all_lead F (paths_of e) ≡ true) = and_parts _ _ h in
    ap (over_rows a e) (rows_of_projection F (expression_chain e) n (longest_chain-leads (paths_of e) F k.1)) ∙ over_rows-project F a e k.1 (rows (expression_chain e) n)

abbrev item_paths : List RecordItem → List (List Step)
item_paths items = flat_map (λ (i : RecordItem). record_term_paths i.term) items

with_cells-project : (F : List (List Step)) (items : List RecordItem) (p : List Step) (n : Node) (rest : Object) → all_lead F (item_paths items) ≡ true → with_cells items p (project F n) rest ≡ with_cells items p n rest
with_cells-project F [] p n rest h = refl
with_cells-project F (i ∷ is) p n rest h =
    let k = both_lead (record_term_paths i.term) (item_paths is) F h in
    ap₂ (λ v o. if same_path p (term_chain i.term) then cell i.name v o else o) (term_value-project F i.term n k.0) (with_cells-project F is p n rest k.1)

-- a level that leads to items leads on
items_chain-leads : (F : List (List Step)) (items : List RecordItem) (p : List Step) → all_lead F (item_paths items) ≡ true → leads_to_items items p ≡ true → leads p F ≡ true
items_chain-leads F [] p h g = absurd (true≢false (sym g))
items_chain-leads F (i ∷ is) p h g =
    let k = both_lead (record_term_paths i.term) (item_paths is) F h in
    either_so _ _ _ (λ b. front-leads p (term_chain i.term) F b (term_chain-leads F i.term k.0)) (items_chain-leads F is p k.1) g

instances_of-project : (F : List (List Step)) (p : List Step) (n : Node) → leads p F ≡ true → instances_of p (project F n) ≡ map (project F) (instances_of p n)
instances_of-project F p n l = ap (filter (is_present p)) (rows_of_projection F p n l) ∙ filter-project F (is_present p) (λ (m : Node). present_in_projection F p m l) (rows p n)

same_list : (b : Bool) (names : List (List ℕ)) (xs ys : Objects) (u v : Object) → (b ≡ true → xs ≡ ys) → u ≡ v → with_list b names xs u ≡ with_list b names ys v
same_list true names xs ys u v f e = ap₂ (with_list true names) (f refl) e
same_list false names xs ys u v f e = e

object_lists-project : (F : List (List Step)) (items : List RecordItem) (levels : Levels) (n : Node) → all_lead F (item_paths items) ≡ true → object_lists items levels (project F n) ≡ object_lists items levels n
object_lists-project F items no_levels n h = refl
object_lists-project F items (deeper names p inside beside) n h =
    let f : Node → Object = λ (m : Node). with_cells items p m (object_lists items inside m) in
    same_list (leads_to_items items p) names _ _ _ _
    (λ g. let l = items_chain-leads F items p h g in
    ap (λ ms. objects_of (map f ms)) (instances_of-project F p n l)
    ∙ ap objects_of (map-project F f (λ (m : Node). with_cells-project F items p m _ h ∙ ap (with_cells items p m) (object_lists-project F items inside m h)) (instances_of p n)))
    (object_lists-project F items beside n h)

record_object-project : (F : List (List Step)) (items : List RecordItem) (levels : Levels) (n : Node) → all_lead F (item_paths items) ≡ true → record_object items levels (project F n) ≡ record_object items levels n
record_object-project F items levels n h = with_cells-project F items [] n _ h ∙ ap (with_cells items [] n) (object_lists-project F items levels n h)

-- ---- aggregate queries

key_tuple-project : (F : List (List Step)) (keys : List (List Step)) (n : Node) → all_lead F keys ≡ true → key_tuple keys (project F n) ≡ key_tuple keys n
key_tuple-project F [] n h = refl
key_tuple-project F (p ∷ ps) n h =
    let k : (leads p F ≡ true) × (all_lead F ps ≡ true) = and_parts _ _ h in
    ap₂ (λ v t. v ∷ t) (values_of_projection F p n k.0) (key_tuple-project F ps n k.1)

group_tuples-project : (F : List (List Step)) (keys : List (List Step)) (ns : List Node) → all_lead F keys ≡ true → group_tuples keys (map (project F) ns) ≡ group_tuples keys ns
group_tuples-project F [] ns h = refl
group_tuples-project F (p ∷ ps) ns h =
    ap (λ ms. distinct_tuples (map (key_tuple (p ∷ ps)) ms)) (flat_rows-project F (longest_chain (p ∷ ps)) (longest_chain-leads (p ∷ ps) F h) ns)
    ∙ ap distinct_tuples (map-project F (key_tuple (p ∷ ps)) (λ (m : Node). key_tuple-project F (p ∷ ps) m h) (flat_map (rows (longest_chain (p ∷ ps))) ns))

group_rows-project : (F : List (List Step)) (keys : List (List Step)) (t : List (Option Value)) (p : List Step) (ns : List Node) → all_lead F keys ≡ true → leads p F ≡ true → group_rows keys t p (map (project F) ns) ≡ map (project F) (group_rows keys t p ns)
group_rows-project F keys t p ns h l =
    let f : Node → Bool = λ (m : Node). is_eq (tuple_order (key_tuple keys m) t) in
    ap (filter f) (flat_rows-project F p l ns) ∙ filter-project F f (λ (m : Node). ap (λ u. is_eq (tuple_order u t)) (key_tuple-project F keys m h)) (flat_map (rows p) ns)

group_value-project : (F : List (List Step)) (keys : List (List Step)) (t : List (Option Value)) (ns : List Node) (g : GroupTerm) → all_lead F keys ≡ true → all_lead F (group_term_paths g) ≡ true → group_value keys t (map (project F) ns) g ≡ group_value keys t ns g
group_value-project F keys t ns (key i) h k = refl
group_value-project F keys t ns count_rows h k =
    let p : List Step = longest_chain keys in
    ap (λ rs. count_value (length rs)) (group_rows-project F keys t p ns h (longest_chain-leads keys F h)) ∙ ap count_value (length-map (group_rows keys t p ns) (project F))
group_value-project F keys t ns (aggregate a e) h k =
    let p : List Step = longer (longest_chain keys) (expression_chain e) in
    ap (over_rows a e) (group_rows-project F keys t p ns h (longer-leads _ _ F (longest_chain-leads keys F h) (longest_chain-leads (paths_of e) F k))) ∙ over_rows-project F a e k (group_rows keys t p ns)

abbrev group_item_paths : List GroupItem → List (List Step)
group_item_paths items = flat_map (λ (i : GroupItem). group_term_paths i.term) items

group_cells-project : (F : List (List Step)) (keys : List (List Step)) (t : List (Option Value)) (ns : List Node) (items : List GroupItem) → all_lead F keys ≡ true → all_lead F (group_item_paths items) ≡ true → group_cells keys t (map (project F) ns) items ≡ group_cells keys t ns items
group_cells-project F keys t ns [] h k = refl
group_cells-project F keys t ns (i ∷ is) h k =
    let j = both_lead (group_term_paths i.term) (group_item_paths is) F k in
    ap₂ (cell i.name) (group_value-project F keys t ns i.term h j.0) (group_cells-project F keys t ns is h j.1)

-- ---- queries

selected-project : (F : List (List Step)) (s : Selection) (ls : Levels) (ns : List Node) → all_lead F (selection_paths s) ≡ true → selected s ls (map (project F) ns) ≡ selected s ls ns
selected-project F (objects items) ls ns h = map-project F (record_object items ls) (λ (m : Node). record_object-project F items ls m h) ns
selected-project F (groups keys items) ls ns h =
    let k = both_lead keys (group_item_paths items) F h in
    ap₂ map (fun_ext (λ t. group_cells-project F keys t ns items k.0 k.1)) (group_tuples-project F keys ns k.0)

pub meaning_of_projection : MeaningOfProjection
unfolding meaning
meaning_of_projection fs q F R h =
    let k = both_lead (condition_paths q.condition) (selection_paths q.selection) F h in
    ap (selected q.selection (levels_of fs)) (filter_map-project F (kept q.condition) (λ (m : Node). kept-project F q.condition m k.0) R)
    ∙ selected-project F q.selection (levels_of fs) (filter_map (kept q.condition) R) k.1

-- ---- columns

each_later-project : (G : List (List Step)) (f : ℕ → Instance → List Triplet) → ((r : ℕ) (x : Instance) → f r (project_one G x) ≡ f r x) → (r : ℕ) (xs : Instances) → each_later f r (project_all G xs) ≡ each_later f r xs
each_later-project G f h r no_instances = refl
each_later-project G f h r (instance x xs) = ap₂ (λ a b. a ++ b) (h r x) (each_later-project G f h r xs)

spread-project : (G : List (List Step)) (f : ℕ → Instance → List Triplet) → ((r : ℕ) (x : Instance) → f r (project_one G x) ≡ f r x) → (later d r : ℕ) (xs : Instances) → spread f later d r (project_all G xs) ≡ spread f later d r xs
spread-project G f h later d r no_instances = refl
spread-project G f h later d r (instance x xs) = ap₂ (λ a b. a ++ b) (h r x) (each_later-project G f h later xs)

pub column-project : (F : List (List Step)) (p : List Step) (l d r : ℕ) (x : Instance) → leads p F ≡ true → instance_column p l d r (project_one F x) ≡ instance_column p l d r x
column-project F [] l d r (atom v) h = refl
column-project F [] l d r (inner n) h = refl
column-project F (s ∷ p) l d r (atom v) h = refl
column-project F (s ∷ p) l d r (inner n) h =
    let G : List (List Step) = below s.place F in
    let k : list_any (begins_with p) G ≡ true = leads-below s.place s.repetition p F h in
    let f : ℕ → Instance → List Triplet = instance_column p (l + repetition_count s.repetition) (d + definition_count s.repetition) in
    ap (spread f (l + repetition_count s.repetition) d r) (at-project s.place p F n k)
    ∙ spread-project G f (λ (e : ℕ) (x : Instance). column-project G p _ _ e x (leads_from_front p G k)) (l + repetition_count s.repetition) d r (instances_at s.place n)

pub columns_of_projection : ColumnsOfProjection
columns_of_projection F p n h = column-project F p 0 0 0 (inner n) h

-- the column of projections of records is that of the records
pub column_of_projections : (F : List (List Step)) (p : List Step) (ns : List Node) → leads p F ≡ true → column p (map (project F) ns) ≡ column p ns
column_of_projections F p [] h = refl
column_of_projections F p (n ∷ ns) h = ap₂ (λ a b. a ++ b) (columns_of_projection F p n h) (column_of_projections F p ns h)

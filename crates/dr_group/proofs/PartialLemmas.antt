-- Partials of a plan: before any record, put into, and finished.
use Rattle.std.specs.Prelude.{◌≡◌, ℕ, zero, suc, List, [], ◌∷◌, map, length, Bool, not, nat_eq, if◌then◌else◌, Option, Result, Ok, Err, Vec}
use Rattle.std.specs.List.{slice_get}
use Rattle.std.specs.declared.alloc.Global.{Global}
use Rattle.std.proofs.Common.{refl, sym, ap, ap₂, ◌∙◌, subst}
use Rattle.std.proofs.Math.Dec.{eqb-suc-zero}
use Rattle.std.proofs.lemmas.List.{length-map}
use Rattle.dr_memory.specs.declared.NoMemory.{NoMemory}
use Rattle.dr_meaning.specs.Path.{Step, Leaf}
use Rattle.dr_meaning.specs.Query as query
use Rattle.dr_meaning.specs.Query.{Object, GroupTerm, key, count_rows, aggregate, GroupItem, objects, groups}
use Rattle.dr_partials.specs.Accumulators.{Accumulator}
use Rattle.dr_partials.specs.Partials as meant
use Rattle.dr_partials.specs.PartialTypes.{aggregates_among, with_aggregate}
use Rattle.dr_partials.specs.Putting.{Put, put, put_selected, put_group, empty_accumulators}
use Rattle.dr_levels.specs.Columns.{Adds}
use Rattle.dr_plan.specs.Views.{path_of, aggregate_view, group_item_view, group_term_view, found_term, selection_view}
use Rattle.dr_plan.specs.Planned.{Planned, plan_view, planned_query, plan_leaves}
use Rattle.dr_plan.specs.declared.aggregate.Aggregate.{Aggregate}
use Rattle.dr_plan.specs.declared.objects.ObjectPlan.{ObjectPlan}
use Rattle.dr_plan.specs.declared.plan.Plan.{Plan}
use Rattle.dr_plan.specs.declared.plan.Selection.{Selection}
use Rattle.dr_plan.specs.declared.plan.RecordItem.{RecordItem as RecordItemOfPlan}
use Rattle.dr_plan.specs.declared.plan.GroupItem.{GroupItem as ItemOfPlan}
use Rattle.dr_plan.specs.declared.plan.GroupTerm.{GroupTerm as TermOfPlan}
use Rattle.dr_group.specs.Gathering.{Becomes, empty_of, gathering_view, term_gathering, gatherings_of}
use Rattle.dr_group.specs.Groups.{keyless_group}
use Rattle.dr_group.specs.Maps.{groups_view, gatherings_view}
use Rattle.dr_group.specs.Partials.{GathersFor, PartialsOfOnePlanAreAlike}
use Rattle.dr_group.specs.PlanGatherings.{aggregate_gathering, found_gathering, with_gathering, item_gatherings}
use Rattle.dr_group.specs.Rows.{IsAggregate, group_rows}
use Rattle.dr_group.specs.declared.gathering.Gathering.{Gathering}
use Rattle.dr_group.specs.declared.group_map.GroupMap.{GroupMap}
use Rattle.dr_group.specs.declared.partial.Partial.{Partial}
use Rattle.dr_group.proofs.GatheringLemmas.{empty_alike}
use Rattle.dr_group.proofs.RowLemmas.{views_are, found_is}

-- ---- what the aggregates of a plan gather

one_gathers : (ls : List Leaf) (a : Aggregate) → term_gathering (aggregate_view ls a) ≡ aggregate_gathering a
one_gathers ls Aggregate.Rows = refl
one_gathers ls (Aggregate.Of f e) = refl

found_gathers : (ls : List Leaf) (xs : List Aggregate) (n : ℕ) → term_gathering (found_term (slice_get (map (aggregate_view ls) xs) n)) ≡ found_gathering (slice_get xs n)
found_gathers ls [] n = refl
found_gathers ls (x ∷ xs) zero = one_gathers ls x
found_gathers ls (x ∷ xs) (suc n) = found_gathers ls xs n

with_one : (u : GroupTerm) (us : List GroupTerm) → IsAggregate u → map term_gathering (with_aggregate u us) ≡ term_gathering u ∷ map term_gathering us
with_one (key k) us h = absurd h
with_one count_rows us h = refl
with_one (aggregate a e) us h = refl

term_gathers : (ls : List Leaf) (xs : List Aggregate) (t : TermOfPlan) (us : List GroupTerm) (gs : List (Option query.Aggregate)) → gs ≡ map term_gathering us
    → with_gathering xs t gs ≡ map term_gathering (with_aggregate (group_term_view (map (aggregate_view ls) xs) t) us)
term_gathers ls xs (TermOfPlan.Key k) us gs e = e
term_gathers ls xs (TermOfPlan.Aggregate a) us gs e =
    ap₂ (λ (x : Option query.Aggregate) (ys : List (Option query.Aggregate)). x ∷ ys) (sym (found_gathers ls xs a)) e
    ∙ sym (with_one (found_term (slice_get (map (aggregate_view ls) xs) a)) us (found_is (map (aggregate_view ls) xs) a (views_are ls xs)))

pub items_gather : (ls : List Leaf) (xs : List Aggregate) (items : List ItemOfPlan) → item_gatherings xs items ≡ gatherings_of (map (group_item_view (map (aggregate_view ls) xs)) items)
items_gather ls xs [] = refl
items_gather ls xs (i ∷ items) =
    term_gathers ls xs i.term (aggregates_among (map (group_item_view (map (aggregate_view ls) xs)) items)) (item_gatherings xs items) (items_gather ls xs items)

-- ---- before any record

pub empty_objects : (p : Plan) (items : Vec RecordItemOfPlan Global) (o : ObjectPlan) → p.selection ≡ Selection.Objects items o → meant.lines [] ≡ meant.empty_partial (planned_query (plan_view p))
unfolding meant.empty_partial
empty_objects p items o e = sym (ap (λ (s : Selection). meant.empty_selected (selection_view (plan_leaves p) s)) e)

by_keys : (ks : List (List Step)) (items : List GroupItem) (xs : List Accumulator) (b : Bool) → b ≡ nat_eq (length ks) 0 → xs ≡ empty_accumulators items
    → (if not b then [] else keyless_group xs ∷ []) ≡ meant.empty_groups ks items
by_keys [] items xs b e f = ap₂ (λ (c : Bool) (ys : List Accumulator). if not c then [] else keyless_group ys ∷ []) e f
by_keys (k ∷ ks) items xs b e f = ap (λ (c : Bool). if not c then [] else keyless_group xs ∷ []) (e ∙ eqb-suc-zero (length ks))

pub gathers_for : (p : Plan) (keys : Vec ℕ Global) (aggregates : Vec Aggregate Global) (items : Vec ItemOfPlan Global) (m : GroupMap) → p.selection ≡ Selection.Groups keys aggregates items
    → gatherings_view m ≡ item_gatherings aggregates.items items.items → GathersFor (selection_view (plan_leaves p) p.selection) m
gathers_for p keys aggregates items m e f =
    subst (λ (s : Selection). GathersFor (selection_view (plan_leaves p) s) m) (sym e) (sym (f ∙ items_gather (plan_leaves p) aggregates.items items.items))

pub empty_groups_are : (p : Plan) (keys : Vec ℕ Global) (aggregates : Vec Aggregate Global) (items : Vec ItemOfPlan Global) (ks : List Gathering) (b : Bool) → p.selection ≡ Selection.Groups keys aggregates items
    → map gathering_view ks ≡ item_gatherings aggregates.items items.items → b ≡ nat_eq (length keys.items) 0
    → meant.grouped (if not b then [] else keyless_group (map empty_of ks) ∷ []) ≡ meant.empty_partial (planned_query (plan_view p))
unfolding meant.empty_partial
empty_groups_are p keys aggregates items ks b e f g =
    ap meant.grouped (by_keys (map (λ k. path_of (slice_get (plan_leaves p) k)) keys.items) (map (group_item_view (map (aggregate_view (plan_leaves p)) aggregates.items)) items.items) (map empty_of ks) b
    (g ∙ ap (λ n. nat_eq n 0) (sym (length-map keys.items (λ k. path_of (slice_get (plan_leaves p) k)))))
    (sym (empty_alike (map (group_item_view (map (aggregate_view (plan_leaves p)) aggregates.items)) items.items) ks (sym (f ∙ items_gather (plan_leaves p) aggregates.items items.items)))))
    ∙ sym (ap (λ (s : Selection). meant.empty_selected (selection_view (plan_leaves p) s)) e)

-- ---- put into

lines_stay : (s : query.Selection) (p : Put) (os : List Object) → meant.lines os ≡ put_selected s p (meant.lines os)
lines_stay (objects items) p os = refl
lines_stay (groups keys items) p os = refl

pub put_lines : (q : Planned) (p : Put) (os : List Object) → meant.lines os ≡ put (planned_query q) p (meant.lines os)
unfolding put
put_lines q p os = lines_stay q.selection p os

grouped_becomes : (r : Result (Unit {0}) NoMemory) (gs hs ks : List meant.Group) → Becomes gs hs ks r → Becomes (meant.grouped gs) (meant.grouped hs) (meant.grouped ks) r
grouped_becomes (Ok done) gs hs ks h = ap meant.grouped h
grouped_becomes (Err e) gs hs ks h = ap meant.grouped h

selected_put : (r : Result (Unit {0}) NoMemory) (s : query.Selection) (m : GroupMap) (p : Put) (hs : List meant.Group) → GathersFor s m
    → ((items : List GroupItem) → gatherings_of items ≡ gatherings_view m → Becomes (groups_view m) hs (put_group items p (groups_view m)) r)
    → Becomes (meant.grouped (groups_view m)) (meant.grouped hs) (put_selected s p (meant.grouped (groups_view m))) r
selected_put r (objects items) m p hs h f = absurd h
selected_put r (groups keys items) m p hs h f = grouped_becomes r (groups_view m) hs (put_group items p (groups_view m)) (f items h)

pub put_groups : (r : Result (Unit {0}) NoMemory) (q : Planned) (m : GroupMap) (p : Put) (hs : List meant.Group) → GathersFor q.selection m
    → ((items : List GroupItem) → gatherings_of items ≡ gatherings_view m → Becomes (groups_view m) hs (put_group items p (groups_view m)) r)
    → Becomes (meant.grouped (groups_view m)) (meant.grouped hs) (put (planned_query q) p (meant.grouped (groups_view m))) r
unfolding put
put_groups r q m p hs h f = selected_put r q.selection m p hs h f

-- ---- finished

pub finished_lines : (q : query.Query) (os : List Object) → os ≡ meant.finished q (meant.lines os)
unfolding meant.finished
finished_lines q os = refl

pub finished_objects : (p : Plan) (items : Vec RecordItemOfPlan Global) (o : ObjectPlan) (gs : List meant.Group) → p.selection ≡ Selection.Objects items o → [] ≡ meant.finished (planned_query (plan_view p)) (meant.grouped gs)
unfolding meant.finished
finished_objects p items o gs e = sym (ap (λ (s : Selection). meant.finished_selection (selection_view (plan_leaves p) s) (meant.grouped gs)) e)

pub finished_groups : (p : Plan) (keys : Vec ℕ Global) (aggregates : Vec Aggregate Global) (items : Vec ItemOfPlan Global) (gs : List meant.Group) → p.selection ≡ Selection.Groups keys aggregates items
    → group_rows (map (aggregate_view (plan_leaves p)) aggregates.items) items.items gs ≡ meant.finished (planned_query (plan_view p)) (meant.grouped gs)
unfolding meant.finished
finished_groups p keys aggregates items gs e = sym (ap (λ (s : Selection). meant.finished_selection (selection_view (plan_leaves p) s) (meant.grouped gs)) e)

-- ---- merged

pub alike : PartialsOfOnePlanAreAlike
alike p (Partial.Lines r) (Partial.Lines s) h k = k ∙ sym h
alike p (Partial.Lines r) (Partial.Groups m) h k = tt
alike p (Partial.Groups m) (Partial.Lines s) h k = tt
alike p (Partial.Groups m) (Partial.Groups n) h k = tt

pub merge_lines : (r : Result (Unit {0}) NoMemory) (os ps qs : List Object) → Adds os ps qs r → Becomes (meant.lines os) (meant.lines ps) (meant.merge (meant.lines os) (meant.lines qs)) r
unfolding meant.merge
merge_lines (Ok done) os ps qs h = ap meant.lines h
merge_lines (Err e) os ps qs h = ap meant.lines h

pub merge_grouped : (r : Result (Unit {0}) NoMemory) (gs hs ks : List meant.Group) → Becomes gs hs (meant.merge_groups gs ks) r → Becomes (meant.grouped gs) (meant.grouped hs) (meant.merge (meant.grouped gs) (meant.grouped ks)) r
unfolding meant.merge
merge_grouped r gs hs ks h = grouped_becomes r gs hs (meant.merge_groups gs ks) h

pub merge_lines_groups : (os : List Object) (gs : List meant.Group) → meant.lines os ≡ meant.merge (meant.lines os) (meant.grouped gs)
unfolding meant.merge
merge_lines_groups os gs = refl

pub merge_groups_lines : (gs : List meant.Group) (os : List Object) → meant.grouped gs ≡ meant.merge (meant.grouped gs) (meant.lines os)
unfolding meant.merge
merge_groups_lines gs os = refl

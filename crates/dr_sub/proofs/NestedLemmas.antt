-- Queries over the results of others, bound one over another.
use Rattle.std.specs.Prelude.{◌≡◌, ℕ, suc, ◌+◌, ◌-◌, ◌<◌, ◌≤◌, ◌==◌, List, [], ◌∷◌, map, length, get_or, take, drop, Bool, true, false, ◌||◌, if◌then◌else◌, bytes_eq, Option, Some, None, option_map, is_some, Result, Ok, Err, IsErrAnd}
use Rattle.std.proofs.Common.{refl, sym, ap, ap₂, ◌∙◌, arith, subst}
use Rattle.std.proofs.lemmas.List.{drop_more, take_all}
use Rattle.std.proofs.lemmas.Bool.{and_parts}
use Rattle.std.proofs.lemmas.Bool.Decides.{nat_tests}
use Rattle.dr_meaning.specs.Schema.{Fields, Schema}
use Rattle.dr_meaning.specs.Path.{Step, same_path}
use Rattle.dr_meaning.specs.Query.{RecordItem, Query, Selection, term_chain}
use Rattle.dr_nested.specs.PathView.{step_view}
use Rattle.dr_nested.specs.SchemaView.{schema_view}
use Rattle.dr_nested.specs.declared.path.Step.{Step as CodeStep}
use Rattle.dr_nested.specs.declared.schema.Schema.{Schema as CodeSchema}
use Rattle.dr_bind.specs.Binds.{BindsTo}
use Rattle.dr_ordering.specs.Ordered.{Order, place_of_name, record_names}
use Rattle.dr_ordered.specs.Orders.{order_view}
use Rattle.dr_ordered.specs.declared.results.Order.{Order as CodeOrder}
use Rattle.dr_plan.specs.Planned.{Planned, plan_view, planned}
use Rattle.dr_plan.specs.declared.plan.Plan.{Plan}
use Rattle.dr_resolve.specs.declared.fault.BindFault.{BindFault}
use Rattle.dr_sql.specs.Views.{order_view as order_text_view, select_view}
use Rattle.dr_sql.specs.declared.query.Select.{Select}
use Rattle.dr_sub_meaning.specs.Nested.{NestedQuery}
use Rattle.dr_meaning.specs.Refusals as refusals
use Rattle.dr_sub_meaning.specs.NestedBinding as meant
use Rattle.dr_sub_meaning.specs.NestedParse.{PlacedQuery}
use Rattle.dr_sub_meaning.specs.ResultFaults.{SubFault, result_schema}
use Rattle.dr_sub_meaning.specs.ResultRecords.{result_fields}
use Rattle.dr_sub_meaning.specs.ResultSchemaLaws.{has_items}
use Rattle.dr_sub_meaning.proofs.BoundSchemaLemmas.{unless_none}
use Rattle.dr_sub.specs.ResultSchemas.{IsBoundTo, GivesSchema}
use Rattle.dr_sub.specs.declared.fault.SubFault.{SubFault as CodeSubFault}
use Rattle.dr_sub.specs.declared.fault.ResultFault.{ResultFault}
use Rattle.dr_sub.specs.declared.nested_fault.NestedFault.{NestedFault}
use Rattle.dr_sub.specs.declared.nested_plan.NestedPlan.{NestedPlan}
use Rattle.dr_sub.specs.NestedPlans.{IsRefused, fault_of_bind, fault_of_schema, PlansThrough, BindsNested, BindsInner, IsBelow, all_have_items}

-- ---- places of names

abbrev pub Ahead : ℕ → Option ℕ → Option ℕ
Ahead n o = option_map (λ i. n + i) o

one_ahead : (n : ℕ) (o : Option ℕ) → Ahead n (option_map (λ i. suc i) o) ≡ Ahead (n + 1) o
one_ahead n None = refl
one_ahead n (Some i) = let e : n + suc i ≡ n + 1 + i = omega arith in ap Some e

pub name_passed : (name m : List ℕ) (ms : List (List ℕ)) (n : ℕ) (b : Bool) → b ≡ bytes_eq name m → b ≡ false → Ahead (n + 1) (place_of_name name ms) ≡ Ahead n (place_of_name name (m ∷ ms))
name_passed name m ms n b e f =
    sym (ap (λ c. Ahead n (if c then Some 0 else option_map (λ i. suc i) (place_of_name name ms))) (sym e ∙ f) ∙ one_ahead n (place_of_name name ms))

-- a chain without steps is that of the record
pub empty_chain : (steps : List CodeStep) (q : List Step) (b : Bool) → b ≡ (length steps == 0) → map step_view steps ≡ q → same_path [] q ≡ b
empty_chain [] q b e h = ap (same_path []) (sym h) ∙ sym e
empty_chain (s ∷ ss) q b e h =
    let z : (length (s ∷ ss) == 0) ≡ false = grind (arith, nat_tests) in
    ap (same_path []) (sym h) ∙ sym (e ∙ z)

one_item : {A : Type 0} (see : A → RecordItem) (xs : List A) (k : ℕ) (x : A) → k < length xs → x ≡ get_or xs k x → map see (drop k xs) ≡ see x ∷ map see (drop (k + 1) xs)
one_item see xs k x h e = ap (map see) (drop_more xs k x h ∙ ap (λ y. y ∷ drop (k + 1) xs) (sym e))

-- the names from an item on, where it stands in no list, and where it stands in one
pub item_named : {A : Type 0} (see : A → RecordItem) (xs : List A) (k : ℕ) (x : A) (b : Bool) → k < length xs → x ≡ get_or xs k x → same_path [] (term_chain (see x).term) ≡ b → b ≡ true
    → record_names (map see (drop k xs)) ≡ (see x).name ∷ record_names (map see (drop (k + 1) xs))
item_named see xs k x b h e s t =
    ap record_names (one_item see xs k x h e) ∙ ap (λ c. if c then (see x).name ∷ record_names (map see (drop (k + 1) xs)) else record_names (map see (drop (k + 1) xs))) (s ∙ t)

pub item_inside : {A : Type 0} (see : A → RecordItem) (xs : List A) (k : ℕ) (x : A) (b : Bool) → k < length xs → x ≡ get_or xs k x → same_path [] (term_chain (see x).term) ≡ b → b ≡ false
    → record_names (map see (drop k xs)) ≡ record_names (map see (drop (k + 1) xs))
item_inside see xs k x b h e s t =
    ap record_names (one_item see xs k x h e) ∙ ap (λ c. if c then (see x).name ∷ record_names (map see (drop (k + 1) xs)) else record_names (map see (drop (k + 1) xs))) (s ∙ t)

-- ---- an inner query

same_selection : (s : Schema) (q : Query) (plan : Plan) → IsBoundTo s q plan → (plan_view plan).selection ≡ q.selection
same_selection s q plan b = ap (λ (x : Planned). x.selection) b.plan

-- one whose order is bound goes on
goes_on : (s : Schema) (q : Query) (p : PlacedQuery) (plan : Plan) (o : Option Order) → IsBoundTo s q plan → meant.bind_order (plan_view plan).selection p.order ≡ Ok o
    → (others : Schema → Result NestedQuery refusals.NestedFault) → meant.then_over s p others (Ok q) ≡ meant.over_plain (meant.is_arranged p) p (meant.over_result p q others (result_schema s.fields q))
goes_on s q p plan o b h others =
    ap (meant.over_order p (meant.over_result p q others (result_schema s.fields q))) (ap (λ (x : Selection). meant.bind_order x p.order) (sym (same_selection s q plan b)) ∙ h)

pub arranged_refused : (s : Schema) (q : Query) (p : PlacedQuery) (plan : Plan) (o : Option Order) → IsBoundTo s q plan → meant.bind_order (plan_view plan).selection p.order ≡ Ok o → meant.is_arranged p ≡ true
    → (others : Schema → Result NestedQuery refusals.NestedFault) → meant.then_over s p others (Ok q) ≡ Err (record { place = p.place; problem = refusals.gives_no_records })
arranged_refused s q p plan o b h a others = goes_on s q p plan o b h others ∙ ap (λ c. meant.over_plain c p (meant.over_result p q others (result_schema s.fields q))) a

fields_of_given : (fs : Fields) (q : Query) (t : Schema) → result_schema fs q ≡ Ok t → t.fields ≡ result_fields fs q
unfolding result_schema
fields_of_given fs q t h = sym (ap (λ (x : Schema). x.fields) (unless_none _ _ t h).1)

pub inner_given : (s : Schema) (q : Query) (p : PlacedQuery) (plan : Plan) (o : Option Order) (r : Result CodeSchema ResultFault) (t : CodeSchema) → IsBoundTo s q plan
    → meant.bind_order (plan_view plan).selection p.order ≡ Ok o → meant.is_arranged p ≡ false → GivesSchema (result_schema s.fields q) r → r ≡ Ok t → BindsInner s q p (Ok t)
inner_given s q p plan o (Err e) t b h a g is = absurd (cc)
inner_given s q p plan o (Ok u) t b h a g is =
    let same : u ≡ t = cc in
    let m : result_schema s.fields q ≡ Ok (schema_view t) = g ∙ ap (λ (x : CodeSchema). Ok (schema_view x)) same in
    (fields_of_given s.fields q (schema_view t) m, λ others. goes_on s q p plan o b h others ∙ ap₂ (λ c (x : Result Schema SubFault). meant.over_plain c p (meant.over_result p q others x)) a m)

refused_by : (s : Schema) (q : Query) (p : PlacedQuery) (plan : Plan) (o : Option Order) (e : ResultFault) → IsBoundTo s q plan → meant.bind_order (plan_view plan).selection p.order ≡ Ok o → meant.is_arranged p ≡ false
    → GivesSchema (result_schema s.fields q) (Err e) → (others : Schema → Result NestedQuery refusals.NestedFault) → IsRefused (meant.then_over s p others (Ok q)) (fault_of_schema p e)
refused_by s q p plan o ResultFault.NoMemory b h a g others = tt
refused_by s q p plan o (ResultFault.Refused CodeSubFault.NotRecords) b h a g others =
    goes_on s q p plan o b h others ∙ ap₂ (λ c (x : Result Schema SubFault). meant.over_plain c p (meant.over_result p q others x)) a g
refused_by s q p plan o (ResultFault.Refused (CodeSubFault.ResultName i)) b h a g others =
    goes_on s q p plan o b h others ∙ ap₂ (λ c (x : Result Schema SubFault). meant.over_plain c p (meant.over_result p q others x)) a g

pub schema_refused : (s : Schema) (q : Query) (p : PlacedQuery) (plan : Plan) (o : Option Order) (r : Result CodeSchema ResultFault) (e : ResultFault) (f : NestedFault) → IsBoundTo s q plan
    → meant.bind_order (plan_view plan).selection p.order ≡ Ok o → meant.is_arranged p ≡ false → GivesSchema (result_schema s.fields q) r → r ≡ Err e → f ≡ fault_of_schema p e → BindsInner s q p (Err f)
schema_refused s q p plan o (Ok t) e f b h a g is d = absurd (cc)
schema_refused s q p plan o (Err x) e f b h a g is d =
    let same : x ≡ e = cc in
    λ others. subst (IsRefused (meant.then_over s p others (Ok q))) (sym d) (refused_by s q p plan o e b h a (subst (λ (y : ResultFault). GivesSchema (result_schema s.fields q) (Err y)) same g) others)

-- ---- the outermost query

pub outermost_bound : (fs : Fields) (p : PlacedQuery) (q : Query) (made : NestedPlan) (plan : Plan) (o : Option CodeOrder) → plan_view plan ≡ planned fs q
    → meant.bind_order (plan_view plan).selection p.order ≡ Ok (option_map order_view o) → made.inner.items ≡ [] → made.outer ≡ plan → made.order ≡ o → made.limit ≡ p.limit
    → BindsNested fs (meant.alone p (Ok q)) (Ok made)
outermost_bound fs p q made plan o h w i u r l =
    let n : NestedQuery = record { inner = []; outer = q; order = option_map order_view o; limit = p.limit } in (
      n,
      ap (meant.in_an_order p q) (ap (λ (x : Selection). meant.bind_order x p.order) (sym (ap (λ (x : Planned). x.selection) h)) ∙ w),
      record {
        plans = subst (λ (ps : List Plan). PlansThrough fs ps made.outer [] q) (sym i) (ap plan_view u ∙ h);
        order = ap (option_map order_view) r;
        limit = l;
      },
    )

-- ---- one over another

pub bind_refused : (s : Schema) (p : PlacedQuery) (others : List PlacedQuery) (e : BindFault) (r : Result NestedPlan NestedFault) → BindsTo s p.query (Err e) → IsErrAnd r (λ x. x ≡ fault_of_bind e)
    → BindsNested s.fields (meant.bind_from others p s) r
bind_refused s p others e (Ok x) h is = absurd is
bind_refused s p others e (Err x) h is = subst (IsRefused (meant.bind_from others p s)) (sym is) (by_fault e h others)
  where
    by_fault : (f : BindFault) → BindsTo s p.query (Err f) → (os : List PlacedQuery) → IsRefused (meant.bind_from os p s) (fault_of_bind f)
    by_fault BindFault.NoMemory g os = tt
    by_fault (BindFault.Refused f) g [] = ap (meant.alone p) g
    by_fault (BindFault.Refused f) g (o ∷ os) = ap (meant.then_over s p (meant.bind_from os o)) g

-- an inner query that is refused
pub not_last_refused : (s : Schema) (p o : PlacedQuery) (os others : List PlacedQuery) (plan : Plan) (b : BindsTo s p.query (Ok plan)) (e : NestedFault) (r : Result NestedPlan NestedFault) → others ≡ o ∷ os
    → BindsInner s b.0 p (Err e) → IsErrAnd r (λ x. x ≡ e) → BindsNested s.fields (meant.bind_from others p s) r
not_last_refused s p o os others plan b e (Ok x) h i is = absurd is
not_last_refused s p o os others plan b e (Err x) h i is =
    subst (λ (us : List PlacedQuery). IsRefused (meant.bind_from us p s) x) (sym h)
    (subst (λ (m : Result NestedQuery refusals.NestedFault). IsRefused m x) (ap (meant.then_over s p (meant.bind_from os o)) (sym b.1))
    (subst (IsRefused (meant.then_over s p (meant.bind_from os o) (Ok b.0))) (sym is) (i (meant.bind_from os o))))

below_refused : (q : Query) (m : Result NestedQuery refusals.NestedFault) (e : NestedFault) → IsRefused m e → IsRefused (meant.below q m) e
below_refused q m NestedFault.NoMemory h = tt
below_refused q m (NestedFault.Refused i w) h = ap (meant.below q) h

-- those over it are refused
pub above_refused : (s : Schema) (p o : PlacedQuery) (os others : List PlacedQuery) (plan : Plan) (b : BindsTo s p.query (Ok plan)) (t : CodeSchema) (e : NestedFault) (r : Result NestedPlan NestedFault) → others ≡ o ∷ os
    → BindsInner s b.0 p (Ok t) → IsRefused (meant.bind_from os o (schema_view t)) e → IsErrAnd r (λ x. x ≡ e) → BindsNested s.fields (meant.bind_from others p s) r
above_refused s p o os others plan b t e (Ok x) h i w is = absurd is
above_refused s p o os others plan b t e (Err x) h i w is =
    subst (λ (us : List PlacedQuery). IsRefused (meant.bind_from us p s) x) (sym h)
    (subst (λ (m : Result NestedQuery refusals.NestedFault). IsRefused m x) (sym (ap (meant.then_over s p (meant.bind_from os o)) b.1 ∙ i.1 (meant.bind_from os o)))
    (subst (IsRefused (meant.below b.0 (meant.bind_from os o (schema_view t)))) (sym is) (below_refused b.0 (meant.bind_from os o (schema_view t)) e w)))

pub above_bound : (s : Schema) (p o : PlacedQuery) (os others : List PlacedQuery) (plan : Plan) (b : BindsTo s p.query (Ok plan)) (t : CodeSchema) (above made : NestedPlan) → others ≡ o ∷ os
    → BindsInner s b.0 p (Ok t) → BindsNested (schema_view t).fields (meant.bind_from os o (schema_view t)) (Ok above) → IsBelow plan above made → BindsNested s.fields (meant.bind_from others p s) (Ok made)
above_bound s p o os others plan b t above made h i w k =
    let n : NestedQuery = w.0 in
    let all : NestedQuery = record n { inner = b.0 ∷ n.inner } in
    let lower : PlansThrough (result_fields s.fields b.0) above.inner.items above.outer n.inner n.outer = subst (λ (fs : Fields). PlansThrough fs above.inner.items above.outer n.inner n.outer) i.0 w.2.plans in
    let whole : PlansThrough s.fields (plan ∷ above.inner.items) above.outer (b.0 ∷ n.inner) n.outer = (b.2, lower) in (
      all,
      ap (λ (us : List PlacedQuery). meant.bind_from us p s) h ∙ ap (meant.then_over s p (meant.bind_from os o)) b.1 ∙ i.1 (meant.bind_from os o) ∙ ap (meant.below b.0) w.1,
      record {
        plans = subst (λ (x : Plan). PlansThrough s.fields made.inner.items x (b.0 ∷ n.inner) n.outer) (sym k.outer) (subst (λ (ps : List Plan). PlansThrough s.fields ps above.outer (b.0 ∷ n.inner) n.outer) (sym k.inner) whole);
        order = ap (option_map order_view) k.order ∙ w.2.order;
        limit = k.limit ∙ w.2.limit;
      },
    )

-- ---- whether a SELECT is put in order or cut

some_of : {A B : Type 0} (f : A → B) (o : Option A) → is_some (option_map f o) ≡ is_some o
some_of f None = refl
some_of f (Some a) = refl

pub by_order : (x : Select) (b : Bool) → b ≡ is_some x.order → b ≡ true → meant.is_arranged (select_view x) ≡ true
by_order x b e t = ap (λ c. c || is_some x.limit) (some_of order_text_view x.order ∙ (sym e ∙ t))

pub by_limit : (x : Select) (b : Bool) → b ≡ is_some x.limit → b ≡ true → meant.is_arranged (select_view x) ≡ true
by_limit x b e t = ap (λ c. is_some (select_view x).order || c) (sym e ∙ t) ∙ always (is_some (select_view x).order)
  where
    always : (c : Bool) → (c || true) ≡ true
    always true = refl
    always false = refl

pub not_arranged : (x : Select) (b c : Bool) → b ≡ is_some x.order → b ≡ false → c ≡ is_some x.limit → c ≡ false → meant.is_arranged (select_view x) ≡ false
not_arranged x b c e f g h = ap₂ (λ u v. u || v) (some_of order_text_view x.order ∙ (sym e ∙ f)) (sym g ∙ h)

-- ---- the SELECTs that are left

-- all but the first, as they are handed on
abbrev pub Rest : List Select → List Select
Rest xs = take (length xs - 1) (drop 1 xs)

rest_is : (x : Select) (xs : List Select) → Rest (x ∷ xs) ≡ xs
rest_is x xs = take_all (length (x ∷ xs) - 1) xs (omega arith)

pub rest_shorter : (xs : List Select) → 1 ≤ length xs → length (Rest xs) < length xs
rest_shorter [] h = absurd (omega (arith, h))
rest_shorter (y ∷ xs) h = omega (arith, ap length (rest_is y xs))

pub first_of : (xs : List Select) (x : Select) → 1 ≤ length xs → x ≡ get_or xs 0 x → map select_view xs ≡ select_view x ∷ map select_view (Rest xs)
first_of [] x h e = absurd (omega (arith, h))
first_of (y ∷ xs) x h e = ap (λ (z : Select). select_view z ∷ map select_view xs) (sym e) ∙ ap (λ (zs : List Select). select_view x ∷ map select_view zs) (sym (rest_is y xs))

pub items_left : (p o : PlacedQuery) (os others : List PlacedQuery) → others ≡ o ∷ os → all_have_items p others ≡ true → (has_items p.query ≡ true) × (all_have_items o os ≡ true)
items_left p o os others h e = and_parts (has_items p.query) (all_have_items o os) (ap (all_have_items p) (sym h) ∙ e)

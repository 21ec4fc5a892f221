-- The lines that plans of queries in FROM give are those of the query.
use Rattle.std.proofs.Common.{◌≡◌, ◌∙◌, ◌<◌, ◌≤◌, ◌-◌, ℕ, List, [], ◌∷◌, ◌++◌, length, map, take, drop, get_or, true, refl, sym, ap, ap₂, subst, append_assoc, arith}
use Rattle.std.specs.Prelude.{codes, Option, option_map, Result, Ok, Err}
use Rattle.std.proofs.lemmas.Bool.{and_parts}
use Rattle.std.proofs.lemmas.List.{take_all}
use Rattle.dr_meaning.specs.Binding.{bind}
use Rattle.dr_meaning.specs.BoundExpression.{BindFault}
use Rattle.dr_meaning.specs.Path.{Leaf}
use Rattle.dr_meaning.specs.Query.{Query}
use Rattle.dr_meaning.specs.Refusals.{NestedFault}
use Rattle.dr_meaning.specs.Schema.{Fields, Schema, is_schema}
use Rattle.dr_nested.specs.SchemaView.{schema_view}
use Rattle.dr_ordered.specs.Orders.{order_view}
use Rattle.dr_ordering.specs.Ordered.{Order}
use Rattle.dr_partials.specs.RewritingText.{inner_text, path_text, root_text}
use Rattle.dr_plan.specs.Conjuncts.{condition_written}
use Rattle.dr_plan.specs.Fitting.{selection_fits}
use Rattle.dr_plan.specs.Planned.{Planned, plan_leaves, plan_view, planned, written_query}
use Rattle.dr_plan.specs.Views.{joining_view, selection_view, truth_view}
use Rattle.dr_plan.specs.declared.plan.Plan.{Plan}
use Rattle.dr_plan.proofs.RejoiningLemmas.{plan_keeps_query}
use Rattle.dr_rewrite.specs.Arranging.{value_names}
use Rattle.dr_rewrite.specs.Lines.{inner_line, leaf_line, root_line}
use Rattle.dr_rewrite.specs.Nested.{ArePlansFrom, leaf_of}
use Rattle.dr_rewrite.specs.Writing.{written_leaves}
use Rattle.dr_rewrite.specs.declared.paths.Names.{Names}
use Rattle.dr_rewrite.proofs.ArrangingLemmas.{names_same}
use Rattle.dr_rewrite.proofs.LineLemmas.{inner_same, leaf_same, root_same}
use Rattle.dr_sub.specs.NestedPlans.{PlansThrough, all_have_items}
use Rattle.dr_sub.specs.ResultSchemas.{IsBoundTo}
use Rattle.dr_sub.specs.Texts.{ArePlansOf}
use Rattle.dr_sub.specs.declared.nested_plan.NestedPlan.{NestedPlan}
use Rattle.dr_sub_meaning.specs.Nested.{NestedQuery}
use Rattle.dr_sub_meaning.specs.NestedBinding.{alone, below, bind_from, bind_nested, bind_order, in_an_order, over_result, then_over}
use Rattle.dr_sub_meaning.specs.NestedParse.{PlacedQuery}
use Rattle.dr_sub_meaning.specs.NestedText.{from_text, leaf_over, limit_text, nested_text, order_text}
use Rattle.dr_sub_meaning.specs.ResultFaults.{SubFault, result_schema}
use Rattle.dr_sub_meaning.specs.ResultRecords.{result_fields}
use Rattle.dr_sub_meaning.proofs.BoundSchemaLemmas.{result_is_schema}
use Rattle.dr_sub_meaning.proofs.ParsedItems.{ordered_over, result_named}

-- ---- one query

-- the leaf query of a plan is that of its query
pub leaf_written : (n : Names) (table : List ℕ) (p : Plan) → written_leaves n ≡ plan_leaves p → leaf_line n table p.test.items p.joining p.selection ≡ leaf_of (schema_view n.schema.now).fields table (written_query (plan_view p))
leaf_written n table p e =
    leaf_same n table p.test.items p.joining p.selection (subst (λ (ls : List Leaf). selection_fits ls p.selection ≡ true) (sym e) p.selected)
    ∙ ap (λ (ls : List Leaf). leaf_over table (path_text (schema_view n.schema.now).fields) (condition_written (map (truth_view ls) p.test.items) (option_map joining_view p.joining)) (selection_view ls p.selection)) e

leaf_is : (fs : Fields) (table : List ℕ) (p : Plan) (q : Query) → plan_view p ≡ planned fs q → leaf_of fs table (written_query (plan_view p)) ≡ leaf_of fs table q
leaf_is fs table p q h = ap (leaf_of fs table) (ap written_query h ∙ plan_keeps_query fs q)

-- ---- the lowest of queries that are bound

-- the query and its result's schema, and what is bound over that
record Parts (s : Schema) (x z : PlacedQuery) (os : List PlacedQuery) (n : NestedQuery) : Type 0 where
  query : Query
  result : Schema
  above : NestedQuery
  bound : bind s x.query ≡ Ok query
  schema : result_schema s.fields query ≡ Ok result
  others : bind_from os z result ≡ Ok above
  whole : record above { inner = query ∷ above.inner } ≡ n

module _ (s : Schema) (x z : PlacedQuery) (os : List PlacedQuery) (n : NestedQuery) where
  below_parts : (q : Query) (t : Schema) (r : Result NestedQuery NestedFault) → bind s x.query ≡ Ok q → result_schema s.fields q ≡ Ok t → bind_from os z t ≡ r → below q r ≡ Ok n → Parts s x z os n
  below_parts q t (Ok c) b u g e = record { query = q; result = t; above = c; bound = b; schema = u; others = g; whole = (let k : record c { inner = q ∷ c.inner } ≡ n = cc in k) }
  below_parts q t (Err f) b u g e = absurd (cc)

  over_parts : (q : Query) (r : Result Schema SubFault) → bind s x.query ≡ Ok q → result_schema s.fields q ≡ r → over_result x q (bind_from os z) r ≡ Ok n → Parts s x z os n
  over_parts q (Ok t) b u e = below_parts q t (bind_from os z t) b u refl e
  over_parts q (Err f) b u e = absurd (cc)

  then_parts : (r : Result Query BindFault) → bind s x.query ≡ r → then_over s x (bind_from os z) r ≡ Ok n → Parts s x z os n
  then_parts (Ok q) b e = over_parts q (result_schema s.fields q) b refl (ordered_over x (over_result x q (bind_from os z) (result_schema s.fields q)) (bind_order q.selection x.order) n e)
  then_parts (Err f) b e = absurd (cc)

-- a query that stands alone has none below it
arranged_alone : (x : PlacedQuery) (q : Query) (a : Result (Option Order) NestedFault) (n : NestedQuery) → in_an_order x q a ≡ Ok n → [] ≡ n.inner
arranged_alone x q (Ok a) n e = let k : record { inner = []; outer = q; order = a; limit = x.limit } ≡ n = cc in ap (λ (m : NestedQuery). m.inner) k
arranged_alone x q (Err f) n e = absurd (cc)

none_below : (x : PlacedQuery) (r : Result Query BindFault) (n : NestedQuery) → alone x r ≡ Ok n → [] ≡ n.inner
none_below x (Ok q) n e = arranged_alone x q (bind_order q.selection x.order) n e
none_below x (Err f) n e = absurd (cc)

-- ---- the lowest of plans

-- its query, and those over what it gives
pub record Lowest (s : Schema) (p : Plan) (ps : List Plan) (o : Plan) (n : NestedQuery) : Type 0 where
  pub query : Query
  pub result : Schema
  pub above : NestedQuery
  pub bound : IsBoundTo s query p
  pub schema : result_schema s.fields query ≡ Ok result
  pub plans : ArePlansFrom result ps o above
  pub inner : n.inner ≡ query ∷ above.inner
  pub outer : n.outer ≡ above.outer

-- the fields of its result
fields_named : (s t : Schema) (q : Query) → result_schema s.fields q ≡ Ok t → result_fields s.fields q ≡ t.fields
fields_named s t q e = ap (λ (x : Schema). x.fields) (result_named s q t e)

of_parts : (s : Schema) (p : Plan) (ps : List Plan) (o : Plan) (n : NestedQuery) (x z : PlacedQuery) (os : List PlacedQuery) → is_schema s ≡ true → all_have_items x (z ∷ os) ≡ true → PlansThrough s.fields (p ∷ ps) o n.inner n.outer
    → Parts s x z os n → Lowest s p ps o n
of_parts s p ps o n x z os v i h g =
    let k = and_parts _ _ i in
    let through : PlansThrough s.fields (p ∷ ps) o (g.query ∷ g.above.inner) g.above.outer = subst (λ (m : NestedQuery). PlansThrough s.fields (p ∷ ps) o m.inner m.outer) (sym g.whole) h in
    record {
      query = g.query;
      result = g.result;
      above = g.above;
      bound = record { syntax = x.query; schema = v; items = k.0; bound = g.bound; plan = through.0 };
      schema = g.schema;
      plans = record {
        first = z;
        others = os;
        schema = result_is_schema s x.query g.query g.result v k.0 g.bound g.schema;
        items = k.1;
        bound = g.others;
        plans = subst (λ (fs : Fields). PlansThrough fs ps o g.above.inner g.above.outer) (fields_named s g.result g.query g.schema) through.1;
      };
      inner = sym (ap (λ (m : NestedQuery). m.inner) g.whole);
      outer = sym (ap (λ (m : NestedQuery). m.outer) g.whole);
    }

bound_lowest : (s : Schema) (p : Plan) (ps : List Plan) (o : Plan) (n : NestedQuery) (x : PlacedQuery) (os : List PlacedQuery) → is_schema s ≡ true → all_have_items x os ≡ true → bind_from os x s ≡ Ok n
    → PlansThrough s.fields (p ∷ ps) o n.inner n.outer → Lowest s p ps o n
bound_lowest s p ps o n x [] v i e h = absurd (subst (λ (bs : List Query). PlansThrough s.fields (p ∷ ps) o bs n.outer) (sym (none_below x (bind s x.query) n e)) h)
bound_lowest s p ps o n x (z ∷ os) v i e h = of_parts s p ps o n x z os v i h (then_parts s x z os n (bind s x.query) refl e)

pub lowest : (s : Schema) (p : Plan) (ps : List Plan) (o : Plan) (n : NestedQuery) → ArePlansFrom s (p ∷ ps) o n → Lowest s p ps o n
lowest s p ps o n h = bound_lowest s p ps o n h.first h.others h.schema h.items h.bound h.plans

-- ---- the leaf query

alone_text : (fs : Fields) (table : List ℕ) (o : Plan) (bs : List Query) (q : Query) → PlansThrough fs [] o bs q → leaf_of fs table (written_query (plan_view o)) ≡ from_text fs table bs q
alone_text fs table o [] q h = leaf_is fs table o q h
alone_text fs table o (b ∷ bs) q h = absurd h

pub last_text : (s : Schema) (table : List ℕ) (ps : List Plan) (o : Plan) (n : NestedQuery) → ps ≡ [] → ArePlansFrom s ps o n → leaf_of s.fields table (written_query (plan_view o)) ≡ from_text s.fields table n.inner n.outer
last_text s table ps o n e h = alone_text s.fields table o n.inner n.outer (subst (λ (qs : List Plan). PlansThrough s.fields qs o n.inner n.outer) e h.plans)

-- a text over what the lowest gives, whose leaf query is in parentheses
pub text_over : (s u : Schema) (p : Plan) (ps : List Plan) (o : Plan) (n : NestedQuery) (table below text : List ℕ) (x : Lowest s p ps o n) → u ≡ x.result → below ≡ codes "(" ++ (leaf_of s.fields table (written_query (plan_view p)) ++ codes ")")
    → text ≡ from_text u.fields below x.above.inner x.above.outer → text ≡ from_text s.fields table n.inner n.outer
text_over s u p ps o n table below text x e b h =
    h ∙ (ap₂ (λ (fs : Fields) (t : List ℕ). from_text fs t x.above.inner x.above.outer) (ap (λ (v : Schema). v.fields) e ∙ sym (fields_named s x.result x.query x.schema))
    (b ∙ ap (λ (t : List ℕ). codes "(" ++ (t ++ codes ")")) (leaf_is s.fields table p x.query x.bound.plan))
    ∙ sym (ap₂ (from_text s.fields table) x.inner x.outer))

-- ---- the plans that are left, as the code has them

pub no_plans : (ps : List Plan) → length ps < 1 → ps ≡ []
no_plans [] h = refl
no_plans (p ∷ ps) h = absurd (omega (arith, h))

abbrev pub Later : List Plan → List Plan
Later ps = take (length ps - 1) (drop 1 ps)

pub first_plan : (ps : List Plan) (p : Plan) → 1 ≤ length ps → p ≡ get_or ps 0 p → ps ≡ p ∷ Later ps
first_plan [] p h e = absurd (omega (arith, h))
first_plan (q ∷ ps) p h e = ap (λ (z : Plan). z ∷ ps) (sym e) ∙ ap (λ (zs : List Plan). p ∷ zs) (sym (take_all (length (q ∷ ps) - 1) ps (omega arith)))

pub fewer : (ps : List Plan) → 1 ≤ length ps → length (Later ps) < length ps
fewer [] h = absurd (omega (arith, h))
fewer (p ∷ ps) h = omega (arith, ap length (take_all (length (p ∷ ps) - 1) ps (omega arith)))

pub of_plans : (s : Schema) (ps qs : List Plan) (o : Plan) (n : NestedQuery) → ps ≡ qs → ArePlansFrom s ps o n → ArePlansFrom s qs o n
of_plans s ps qs o n e h = subst (λ (zs : List Plan). ArePlansFrom s zs o n) e h

-- ---- the three lines

-- the plans of a query are those of SELECTs
pub plans_from : (s : Schema) (n : NestedQuery) (p : NestedPlan) → is_schema s ≡ true → ArePlansOf s n p → ArePlansFrom s p.inner.items p.outer n
unfolding bind_nested
plans_from s n p v h = record { first = h.0.first; others = h.0.others; schema = v; items = h.1; bound = h.2; plans = h.3.plans }

-- the outermost plan is of fields of some kind
record IsPlanned (o : Plan) (q : Query) : Type 0 where
  fields : Fields
  plan : plan_view o ≡ planned fields q

outer_planned : (fs : Fields) (ps : List Plan) (o : Plan) (bs : List Query) (q : Query) → PlansThrough fs ps o bs q → IsPlanned o q
outer_planned fs [] o [] q h = record { fields = fs; plan = h }
outer_planned fs [] o (b ∷ bs) q h = absurd h
outer_planned fs (p ∷ ps) o [] q h = absurd h
outer_planned fs (p ∷ ps) o (b ∷ bs) q h = outer_planned (result_fields fs b) ps o bs q h.1

-- how the whole text is put together of its parts
abbrev pub joined_lines : List ℕ → List ℕ → List ℕ → List ℕ → List ℕ → List ℕ
joined_lines leaf inner root order limit = codes "leaf: " ++ (leaf ++ (codes "\ninner: " ++ (inner ++ (codes "\nroot: " ++ (root ++ (order ++ (limit ++ 10 ∷ [])))))))

regrouped : (a leaf b inner c root order limit d : List ℕ) → (((((((a ++ leaf) ++ b) ++ inner) ++ c) ++ root) ++ order) ++ limit) ++ d ≡ a ++ (leaf ++ (b ++ (inner ++ (c ++ (root ++ (order ++ (limit ++ d)))))))
regrouped a leaf b inner c root order limit d = simp append_assoc

-- a text to which one part was appended behind another
pub lines_written : (made leaf inner root order limit a b c d e f g h i : List ℕ) → a ≡ [] → b ≡ a ++ codes "leaf: " → c ≡ b ++ leaf → d ≡ c ++ codes "\ninner: " → e ≡ d ++ inner → f ≡ e ++ codes "\nroot: " → g ≡ f ++ root → h ≡ g ++ order → i ≡ h ++ limit
    → made ≡ i ++ 10 ∷ [] → made ≡ joined_lines leaf inner root order limit
lines_written made leaf inner root order limit a b c d e f g h i e1 e2 e3 e4 e5 e6 e7 e8 e9 last =
    last ∙ (ap (λ t. t ++ 10 ∷ []) (e9 ∙ ap (λ t. t ++ limit) (e8 ∙ ap (λ t. t ++ order) (e7 ∙ ap (λ t. t ++ root) (e6 ∙ ap (λ t. t ++ codes "\nroot: ") (e5 ∙ ap (λ t. t ++ inner)
    (e4 ∙ ap (λ t. t ++ codes "\ninner: ") (e3 ∙ ap (λ t. t ++ leaf) (e2 ∙ ap (λ t. t ++ codes "leaf: ") e1))))))))
    ∙ regrouped (codes "leaf: ") leaf (codes "\ninner: ") inner (codes "\nroot: ") root order limit (10 ∷ []))

pub lines_are : (s : Schema) (n : NestedQuery) (p : NestedPlan) (leaf : List ℕ) → ArePlansOf s n p → leaf ≡ from_text s.fields (codes "tablet") n.inner n.outer
    → joined_lines leaf (inner_line p.outer.selection) (root_line p.outer.selection) (order_text (value_names p.outer.selection) (option_map order_view p.order)) (limit_text p.limit) ≡ nested_text s.fields n
unfolding nested_text
lines_are s n p leaf h e =
    let o = p.outer in
    let x = outer_planned s.fields p.inner.items o n.inner n.outer h.3.plans in
    let same : (plan_view o).selection ≡ n.outer.selection = ap (λ (y : Planned). y.selection) x.plan in
    let inner = inner_same (plan_leaves o) o.selection o.selected ∙ ap inner_text same in
    let root = root_same (plan_leaves o) o.selection o.selected ∙ ap root_text same in
    ap₂ (λ l t. codes "leaf: " ++ (l ++ t)) e
    (ap₂ (λ i t. codes "\ninner: " ++ (i ++ (codes "\nroot: " ++ t))) inner
    (ap₂ (λ r t. r ++ t) root
    (ap₂ (λ r t. r ++ (t ++ 10 ∷ [])) (ap₂ order_text (names_same x.fields o n.outer x.plan) h.3.order) (ap limit_text h.3.limit))))

-- Results as records, and the queries over them.
use Rattle.std.proofs.Common.{◌≡◌, ◌∙◌, ◌<◌, ◌≤◌, ◌-◌, ℕ, zero, suc, List, [], ◌∷◌, length, map, replicate, take, drop, get_or, filter_map, Bool, true, ◌&&◌, refl, sym, ap, ap₂, subst, arith}
use Rattle.std.specs.Prelude.{Result, Ok, Some, None}
use Rattle.std.specs.List.{list_all, slice_get}
use Rattle.std.proofs.lemmas.Bool.{and_parts}
use Rattle.std.proofs.lemmas.List.{take_all}
use Rattle.dr_meaning.specs.Schema.{Schema, Fields}
use Rattle.dr_meaning.specs.Path.{Step, Leaf, leaves}
use Rattle.dr_meaning.specs.Record.{Node, is_record}
use Rattle.dr_meaning.specs.Column.{Triplet}
use Rattle.dr_meaning.specs.Query as meant
use Rattle.dr_meaning.specs.Query.{Query, Object, Selection, objects, groups, levels_of, meaning}
use Rattle.dr_meaning.specs.Kept.{kept}
use Rattle.dr_partials.specs.Partials.{Partial, lines, partial_of, selected_partial}
use Rattle.dr_plan.specs.Planned.{IsOfSchema, Planned, plan_leaves, plan_view, planned, planned_query}
use Rattle.dr_plan.specs.Views.{record_item_view, selection_view}
use Rattle.dr_plan.specs.declared.plan.Plan.{Plan}
use Rattle.dr_plan.specs.declared.plan.Selection.{Selection as Selected}
use Rattle.dr_striper.specs.Leaves.{is_leaf}
use Rattle.dr_striper.specs.Stripers.{fits_leaf}
use Rattle.dr_striper.specs.Striping.{gained}
use Rattle.dr_striper.proofs.FitLemmas.{record_fits}
use Rattle.dr_striper.proofs.SchemaLeafLemmas.{schema_leaves_are}
use Rattle.dr_scan.specs.FileRecords.{AreLeavesOf}
use Rattle.dr_scan.proofs.ScanLemmas.{partial_is, plan_has_leaves}
use Rattle.dr_sub.specs.Striping.{fit_leaves}
use Rattle.dr_sub.specs.ResultSchemas.{IsBoundTo}
use Rattle.dr_sub_meaning.specs.NestedLaws.{has_selection_literals}
use Rattle.dr_sub_meaning.specs.ResultFaults.{result_schema}
use Rattle.dr_sub_meaning.specs.ResultRecords.{result_fields, records_of}
use Rattle.dr_sub_meaning.proofs.BoundLemmas.{bound_results_are_records}
use Rattle.dr_sub_meaning.proofs.ParsedItems.{result_named}
use Rattle.dr_sub_meaning.specs.Nested.{fields_through, records_through}
use Rattle.dr_stages.specs.Stages.{AreBound, StandsBelow}
use Rattle.dr_stages.proofs.PlanLiterals.{items_held}

-- a plan that is bound is one of the schema
pub bound_plan : (s : Schema) (q : Query) (p : Plan) → IsBoundTo s q p → IsOfSchema s p
bound_plan s q p b = (b.syntax, q, b.bound, b.plan)

pub bound_partial : (s : Schema) (q : Query) (p : Plan) (R : List Node) (x : Partial) → IsBoundTo s q p → x ≡ partial_of s.fields (planned_query (plan_view p)) R → x ≡ partial_of s.fields q R
bound_partial s q p R x b e = partial_is s q p R x (b.syntax, b.bound, b.plan) e

-- ---- the leaves of a plan take what records give them

found_is : (fs : Fields) (ls : List Leaf) (i : ℕ) (l : Leaf) → list_all (is_leaf fs) ls ≡ true → slice_get ls i ≡ Some l → is_leaf fs l ≡ true
found_is fs [] i l h e = absurd (let no : None ≡ Some l = e in cc)
found_is fs (m ∷ ls) zero l h e = let same : Some m ≡ Some l = e in let k : m ≡ l = cc in subst (λ (x : Leaf). is_leaf fs x ≡ true) k (and_parts _ _ h).0
found_is fs (m ∷ ls) (suc i) l h e = found_is fs ls i l (and_parts _ _ h).1 e

both : (a b : Bool) → a ≡ true → b ≡ true → (a && b) ≡ true
both a b h g = ap₂ (λ (x y : Bool). x && y) h g

all_found : (fs : Fields) (F : List Leaf) → AreLeavesOf fs F → list_all (is_leaf fs) F ≡ true
all_found fs [] h = refl
all_found fs (l ∷ F) h = both _ _ (found_is fs (leaves fs) h.0.0 l (schema_leaves_are fs) h.0.1) (all_found fs F h.1)

pub plan_leaves_are : (s : Schema) (p : Plan) → IsOfSchema s p → list_all (is_leaf s.fields) (plan_leaves p) ≡ true
plan_leaves_are s p h = all_found s.fields (plan_leaves p) (plan_has_leaves s p p.leaves.items h refl)

each_fits : (fs : Fields) (ls : List Leaf) (n : Node) → list_all (is_leaf fs) ls ≡ true → is_record fs n ≡ true → list_all (fits_leaf n) ls ≡ true
each_fits fs [] n h r = refl
each_fits fs (l ∷ ls) n h r = let k = and_parts _ _ h in both _ _ (record_fits fs l n k.0 r) (each_fits fs ls n k.1 r)

pub all_fit : (fs : Fields) (ls : List Leaf) (R : List Node) → list_all (is_leaf fs) ls ≡ true → list_all (is_record fs) R ≡ true → fit_leaves ls R ≡ true
all_fit fs ls [] h r = refl
all_fit fs ls (n ∷ R) h r = let k = and_parts _ _ r in both _ _ (each_fits fs ls n h k.0) (all_fit fs ls R h k.1)

-- columns that gained something, where there was nothing
pub gained_none : (f : List Step → List Triplet) (F : List (List Step)) → gained f F (replicate (length F) []) ≡ map f F
gained_none f [] = refl
gained_none f (p ∷ F) = ap (λ (cs : List (List Triplet)). f p ∷ cs) (gained_none f F)

-- ---- lines are the objects that a record query gives

lines_given : (fs : Fields) (q : Query) (z : Selection) (R : List Node) (os : List Object) → q.selection ≡ z → lines os ≡ partial_of fs q R → os ≡ meaning fs q R
unfolding partial_of meaning
lines_given fs q (objects items) R os e h =
    let both : lines os ≡ lines (map (meant.record_object items (levels_of fs)) (filter_map (kept q.condition) R)) =
    h ∙ ap (λ (y : Selection). selected_partial y (levels_of fs) (filter_map (kept q.condition) R)) e in
    let same : os ≡ map (meant.record_object items (levels_of fs)) (filter_map (kept q.condition) R) = cc in
    same ∙ sym (ap (λ (y : Selection). meant.selected y (levels_of fs) (filter_map (kept q.condition) R)) e)
lines_given fs q (groups keys items) R os e h =
    absurd (
    let both = h ∙ ap (λ (y : Selection). selected_partial y (levels_of fs) (filter_map (kept q.condition) R)) e in
    cc
    )

pub lines_are : (fs : Fields) (q : Query) (R : List Node) (os : List Object) → lines os ≡ partial_of fs q R → os ≡ meaning fs q R
lines_are fs q R os h = lines_given fs q q.selection R os refl h

-- ---- a record query's objects are records of its result

objects_held : (q : Query) (p : Plan) (z : Selected) → p.selection ≡ z → (plan_view p).selection ≡ q.selection → (R : List Node) (fs : Fields) (os : List Object) → lines os ≡ partial_of fs q R → has_selection_literals q.selection ≡ true
unfolding partial_of
objects_held q p (Selected.Objects items o) e h R fs os l =
    let is : q.selection ≡ objects (map (record_item_view (plan_leaves p)) items.items) = sym h ∙ ap (selection_view (plan_leaves p)) e in
    subst (λ (y : Selection). has_selection_literals y ≡ true) (sym is) (items_held (plan_leaves p) items.items)
objects_held q p (Selected.Groups keys aggregates items) e h R fs os l =
    let is = sym h ∙ ap (selection_view (plan_leaves p)) e in
    absurd (
    let both = l ∙ ap (λ (y : Selection). selected_partial y (levels_of fs) (filter_map (kept q.condition) R)) is in
    cc
    )

pub given_records : (s : Schema) (q : Query) (p : Plan) (R : List Node) (os : List Object) → IsBoundTo s q p → list_all (is_record s.fields) R ≡ true → lines os ≡ partial_of s.fields q R
    → list_all (is_record (result_fields s.fields q)) (records_of os) ≡ true
given_records s q p R os b r l =
    let literals = objects_held q p p.selection refl (ap (λ (x : Planned). x.selection) b.plan) R s.fields os l in
    subst (λ (xs : List Object). list_all (is_record (result_fields s.fields q)) (records_of xs) ≡ true) (sym (lines_are s.fields q R os l))
    (bound_results_are_records s b.syntax q R b.bound literals r)

-- the fields of its schema
pub fields_named : (s t : Schema) (q : Query) → result_schema s.fields q ≡ Ok t → result_fields s.fields q ≡ t.fields
fields_named s t q e = ap (λ (x : Schema). x.fields) (result_named s q t e)

-- ---- from one query to the next

module _ (s u : Schema) (p o : Plan) (b q : Query) (R : List Node) (os : List Object) where
  -- the result's schema is the one over which the next is bound
  same_schema : (t : Schema) → result_schema s.fields b ≡ Ok t → result_schema s.fields b ≡ Ok u → t ≡ u
  same_schema t e f = let both : Ok t ≡ Ok u = sym e ∙ f in cc

  -- the records of its objects
  pub given_below : (ps : List Plan) (bs : List Query) → StandsBelow s p ps o b bs q R (lines os) → result_schema s.fields b ≡ Ok u → list_all (is_record u.fields) (records_of os) ≡ true
  given_below ps bs h e =
      subst (λ (fs : Fields). list_all (is_record fs) (records_of os) ≡ true) (fields_named s u b e) (given_records s b p R os h.bound.0 h.records h.stands)

  -- what it has come to
  handed_on : (bs : List Query) (y : Partial) (c : Query) → StandsBelow s p [] o b bs q R (lines os) → result_schema s.fields b ≡ Ok u → (fs : Fields) → fs ≡ u.fields → y ≡ partial_of fs c (records_of os)
      → y ≡ partial_of (result_fields s.fields b) c (records_of (meaning s.fields b R))
  handed_on bs y c h e fs f k =
      k ∙ (ap (λ (gs : Fields). partial_of gs c (records_of os)) (f ∙ sym (fields_named s u b e))
      ∙ ap (λ (xs : List Object). partial_of (result_fields s.fields b) c (records_of xs)) (lines_are s.fields b R os h.stands))

  pub last_bound : (bs : List Query) → StandsBelow s p [] o b bs q R (lines os) → result_schema s.fields b ≡ Ok u → IsBoundTo u q o
  last_bound [] h e = let x = h.bound.1 in subst (λ (t : Schema). IsBoundTo t q o) (same_schema x.0 x.1 e) x.2
  last_bound (c ∷ cs) h e = absurd (h.bound.1.2)

  pub last_through : (bs : List Query) (y : Partial) → StandsBelow s p [] o b bs q R (lines os) → result_schema s.fields b ≡ Ok u → y ≡ partial_of u.fields (planned_query (plan_view o)) (records_of os)
      → y ≡ partial_of (fields_through s.fields (b ∷ bs)) q (records_through s.fields (b ∷ bs) R)
  last_through [] y h e k = handed_on [] y q h e u.fields refl (bound_partial u q o (records_of os) y (last_bound [] h e) k)
  last_through (c ∷ cs) y h e k = absurd (h.bound.1.2)

  -- the next of them, and those over it
  pub next_bound : (n : Plan) (ps : List Plan) (bs : List Query) → StandsBelow s p (n ∷ ps) o b bs q R (lines os) → result_schema s.fields b ≡ Ok u
      → (c : Query) × (cs : List Query) × (bs ≡ c ∷ cs) × AreBound u (n ∷ ps) o (c ∷ cs) q
  next_bound n ps [] h e = absurd (h.bound.1.2)
  next_bound n ps (c ∷ cs) h e = let x = h.bound.1 in (c, cs, refl, subst (λ (t : Schema). AreBound t (n ∷ ps) o (c ∷ cs) q) (same_schema x.0 x.1 e) x.2)

  pub next_below : (n : Plan) (ps : List Plan) (bs : List Query) (y : Partial) (h : StandsBelow s p (n ∷ ps) o b bs q R (lines os)) (e : result_schema s.fields b ≡ Ok u)
      → y ≡ partial_of u.fields (planned_query (plan_view n)) (records_of os) → StandsBelow u n ps o (next_bound n ps bs h e).0 (next_bound n ps bs h e).1 q (records_of os) y
  next_below n ps bs y h e k =
      let x = next_bound n ps bs h e in
      record { bound = x.3; records = given_below (n ∷ ps) bs h e; stands = bound_partial u x.0 n (records_of os) y x.3.0 k }

  pub next_through : (n : Plan) (ps : List Plan) (bs : List Query) (z : Partial) (h : StandsBelow s p (n ∷ ps) o b bs q R (lines os)) (e : result_schema s.fields b ≡ Ok u)
      → (let x = next_bound n ps bs h e in z ≡ partial_of (fields_through u.fields (x.0 ∷ x.1)) q (records_through u.fields (x.0 ∷ x.1) (records_of os)))
      → z ≡ partial_of (fields_through s.fields (b ∷ bs)) q (records_through s.fields (b ∷ bs) R)
  next_through n ps bs z h e k =
      let x = next_bound n ps bs h e in
      k ∙ (ap (λ (fs : Fields). partial_of (fields_through fs (x.0 ∷ x.1)) q (records_through fs (x.0 ∷ x.1) (records_of os))) (sym (fields_named s u b e))
      ∙ (ap (λ (xs : List Object). partial_of (fields_through (result_fields s.fields b) (x.0 ∷ x.1)) q (records_through (result_fields s.fields b) (x.0 ∷ x.1) (records_of xs))) (lines_are s.fields b R os h.stands)
      ∙ ap (λ (cs : List Query). partial_of (fields_through s.fields (b ∷ cs)) q (records_through s.fields (b ∷ cs) R)) (sym x.2)))

-- ---- as the code has them

pub at_lines : (s : Schema) (p : Plan) (ps : List Plan) (o : Plan) (b : Query) (bs : List Query) (q : Query) (R : List Node) (x y : Partial) → x ≡ y → StandsBelow s p ps o b bs q R x → StandsBelow s p ps o b bs q R y
at_lines s p ps o b bs q R x y e h = subst (λ (z : Partial). StandsBelow s p ps o b bs q R z) e h

pub of_others : (s : Schema) (p : Plan) (ps qs : List Plan) (o : Plan) (b : Query) (bs : List Query) (q : Query) (R : List Node) (x : Partial) → ps ≡ qs → StandsBelow s p ps o b bs q R x → StandsBelow s p qs o b bs q R x
of_others s p ps qs o b bs q R x e h = subst (λ (zs : List Plan). StandsBelow s p zs o b bs q R x) e h

pub result_is : (s u : Schema) (p : Plan) (ps : List Plan) (o : Plan) (b : Query) (bs : List Query) (q : Query) (R : List Node) (x : Partial) → StandsBelow s p ps o b bs q R x
    → ((t : Schema) → IsBoundTo s b p → result_schema s.fields b ≡ Ok t → u ≡ t) → result_schema s.fields b ≡ Ok u
result_is s u p ps o b bs q R x h f = let y = h.bound.1 in y.1 ∙ ap Ok (sym (f y.0 h.bound.0 y.1))

-- no others, and the first of them
pub no_others : (ps : List Plan) → length ps < 1 → ps ≡ []
no_others [] h = refl
no_others (p ∷ ps) h = absurd (omega (arith, h))

abbrev pub Later : List Plan → List Plan
Later ps = take (length ps - 1) (drop 1 ps)

pub first_other : (ps : List Plan) (n : Plan) → 1 ≤ length ps → n ≡ get_or ps 0 n → ps ≡ n ∷ Later ps
first_other [] n h e = absurd (omega (arith, h))
first_other (p ∷ ps) n h e = ap (λ (z : Plan). z ∷ ps) (sym e) ∙ ap (λ (zs : List Plan). n ∷ zs) (sym (take_all (length (p ∷ ps) - 1) ps (omega arith)))

pub fewer : (ps : List Plan) → 1 ≤ length ps → length (Later ps) < length ps
fewer [] h = absurd (omega (arith, h))
fewer (p ∷ ps) h = omega (arith, ap length (take_all (length (p ∷ ps) - 1) ps (omega arith)))

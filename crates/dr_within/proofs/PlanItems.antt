-- The readings of a plan of objects are those of its query's items.
use Rattle.std.proofs.Common.{◌≡◌, List, [], ◌∷◌, map, Option, true, refl, sym, ap, ◌∙◌}
use Rattle.std.specs.List.{list_all}
use Rattle.std.specs.declared.alloc.Global.{Global}
use Rattle.std.specs.declared.vec.Vec.{Vec}
use Rattle.std.proofs.lemmas.Bool.{and_parts}
use Rattle.dr_meaning.specs.Schema.{Schema, Fields}
use Rattle.dr_meaning.specs.Path.{Leaf, paths_of_leaves}
use Rattle.dr_meaning.specs.Record.{Value}
use Rattle.dr_meaning.specs.Expression.{evaluate, longest_chain, paths_of}
use Rattle.dr_meaning.specs.Query.{RecordItem as MeantItem, objects, Query}
use Rattle.dr_kept_laws.specs.ObjectsOfKeptLaws.{term_expression}
use Rattle.dr_made_laws.specs.ObjectFlow.{items_of}
use Rattle.dr_made_laws.specs.ObjectFlowLaws.{IsRead, AreRead}
use Rattle.dr_partials.specs.PartialLaws.{all_related}
use Rattle.dr_partials.proofs.RowLemmas.{Each}
use Rattle.dr_plan.specs.Fitting.{expr_fits, is_summed, record_term_fits, selection_fits}
use Rattle.dr_plan.specs.Planned.{Planned, plan_leaves}
use Rattle.dr_plan.specs.PlanOf.{IsPlanOf}
use Rattle.dr_plan.specs.Views.{expr_view, record_term_view, record_item_view, selection_view}
use Rattle.dr_plan.specs.declared.objects.ObjectPlan.{ObjectPlan}
use Rattle.dr_plan.specs.declared.plan.Plan.{Plan}
use Rattle.dr_plan.specs.declared.plan.RecordItem.{RecordItem}
use Rattle.dr_plan.specs.declared.plan.RecordTerm.{RecordTerm}
use Rattle.dr_plan.specs.declared.plan.Selection.{Selection}
use Rattle.dr_made_laws.specs.LastRead.{paths_at}
use Rattle.dr_scalar.specs.Leaves.{expr_leaves}
use Rattle.dr_scalar.specs.OverSlots.{expr_over}
use Rattle.dr_scalar.proofs.LeafPathLemmas.{leaves_are_paths}
use Rattle.dr_scalar.proofs.SameReadLemmas.{same_leaves_tell}
use Rattle.dr_scalar.proofs.TestLemmas.{leaves_tell}
use Rattle.dr_condition.specs.RowValues.{read_of}
use Rattle.dr_condition.proofs.LeavesBelow.{leaves_below}
use Rattle.dr_condition.proofs.ReadRows.{same_paths, all_are_read, AreLeavesOf, plan_leaves_are, rows_typed}
use Rattle.dr_within.specs.ObjectsBehind.{term_expr, read_item, read_items}
use Rattle.dr_within.proofs.ItemsBound.{IsBoundItem, items_are_bound}
use Rattle.dr_within.proofs.LastMeans.{read_means}

-- ---- the items

-- those of the readings are the plan's
pub read_items_are : (ls : List Leaf) (items : List RecordItem) → items_of (read_items ls items) ≡ map (record_item_view ls) items
read_items_are ls [] = refl
read_items_are ls (i ∷ is) = ap (λ (xs : List MeantItem). record_item_view ls i ∷ xs) (read_items_are ls is)

pub plan_selects : (ls : List Leaf) (selection : Selection) (items : Vec RecordItem Global) (object : ObjectPlan) → selection ≡ Selection.Objects items object
    → selection_view ls selection ≡ objects (items_of (read_items ls items.items))
plan_selects ls selection items object e = ap (selection_view ls) e ∙ ap objects (sym (read_items_are ls items.items))

-- the expression of an item
view_of_term : (ls : List Leaf) (t : RecordTerm) → term_expression (record_term_view ls t) ≡ expr_view ls (term_expr t)
view_of_term ls (RecordTerm.Value e) = refl
view_of_term ls (RecordTerm.Within w) = refl

term_fits : (ls : List Leaf) (t : RecordTerm) → record_term_fits ls t ≡ true → expr_fits ls (term_expr t) ≡ true
term_fits ls (RecordTerm.Value e) h = h
term_fits ls (RecordTerm.Within w) h = (and_parts (expr_fits ls w.argument) (is_summed w.fold w.argument) h).0

-- ---- their readings

module _ (fs : Fields) (ls : List Leaf) (o : AreLeavesOf fs ls) where
  item_is_read : (i : RecordItem) → record_term_fits ls i.term ≡ true → IsBoundItem (record_item_view ls i) → IsRead fs (paths_of_leaves ls) (read_item ls i)
  item_is_read i f b =
      let e = term_expr i.term in
      let fits : expr_fits ls e ≡ true = term_fits ls i.term f in
      let view = view_of_term ls i.term in
      let paths : paths_at (paths_of_leaves ls) (expr_leaves e) ≡ paths_of (term_expression (record_term_view ls i.term)) =
      same_paths ls (expr_leaves e) ∙ leaves_are_paths ls e ∙ ap paths_of (sym view) in
      record {
        read =
            read_means (Option Value) fs ls o (expr_leaves e) (λ c. expr_over c e) (leaves_below ls e fits) (ap all_related paths ∙ b.related)
            (λ c d s. same_leaves_tell e c d s);
        level = ap longest_chain paths;
        means =
            λ row h. leaves_tell ls e (read_of ls row) row fits (rows_typed fs ls o row h) (all_are_read ls (expr_leaves e) row)
            ∙ ap (λ x. evaluate x row) (sym view);
        holds = b.holds;
      }

  items_are_read : (items : List RecordItem) → list_all (λ (i : RecordItem). record_term_fits ls i.term) items ≡ true
      → Each IsBoundItem (map (record_item_view ls) items) → AreRead fs (paths_of_leaves ls) (read_items ls items)
  items_are_read [] f b = tt
  items_are_read (i ∷ is) f b =
      let x : (record_term_fits ls i.term ≡ true) × (list_all (λ (j : RecordItem). record_term_fits ls j.term) is ≡ true) = and_parts _ _ f in
      (item_is_read i x.0 b.0, items_are_read is x.1 b.1)

-- ---- of a plan

pub plan_items_read : (s : Schema) (q : Query) (p : Plan) (items : Vec RecordItem Global) (object : ObjectPlan) → IsPlanOf s q p
    → p.selection ≡ Selection.Objects items object
    → AreRead s.fields (paths_of_leaves (plan_leaves p)) (read_items (plan_leaves p) items.items)
plan_items_read s q p items object h e =
    let ls = plan_leaves p in
    items_are_read s.fields ls (plan_leaves_are s q p h) items.items (ap (selection_fits ls) (sym e) ∙ p.selected)
    (items_are_bound s h.0 q h.1 (map (record_item_view ls) items.items) (ap (λ (x : Planned). x.selection) (sym h.2) ∙ ap (selection_view ls) e))

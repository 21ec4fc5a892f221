-- The paths of a bound query's condition are related: they are those of a query that counts its values, which is bound too.
use Rattle.std.proofs.Common.{◌≡◌, [], ◌∷◌, ◌++◌, Bool, true, false, Option, Some, None, refl, sym, ap, ◌∙◌}
use Rattle.std.specs.Prelude.{if◌then◌else◌, Ok}
use Rattle.std.proofs.lemmas.Bool.{and_parts}
use Rattle.dr_meaning.specs.Schema.{Schema}
use Rattle.dr_meaning.specs.Expression.{Expression, paths_of}
use Rattle.dr_meaning.specs.Query.{count, Query}
use Rattle.dr_meaning.specs.Syntax.{ExpressionSyntax, ConditionSyntax, aggregate, QuerySyntax}
use Rattle.dr_meaning.specs.BoundExpression.{Checked, passes, fails, fails_at, type_mismatch, checked_map, then_check, together, truth_type}
use Rattle.dr_meaning.specs.BoundExpression.{same_type, BoundExpression, bind_expression, of_type, unrelated_among}
use Rattle.dr_meaning.specs.Binding.{bind_condition, aggregated, alone, item_name, BoundParts, bind_parts, paths_of_condition, where_passed}
use Rattle.dr_meaning.specs.Binding.{table_faults, query_faults, condition_of, query_of, bind}
use Rattle.dr_meaning.proofs.BindingFaultLemmas.{bound_is, bound_without_fault}
use Rattle.dr_meaning.proofs.BoundPartsLemmas.{both_empty}
use Rattle.dr_partials.specs.PartialLaws.{all_related, is_mergeable}
use Rattle.dr_partials.proofs.BoundLemmas.{bound_is_mergeable}
use Rattle.dr_made_laws.specs.ConditionPaths.{ConditionIsRelated}

-- COUNT of an expression, over the same table
abbrev counting : QuerySyntax → ExpressionSyntax → QuerySyntax
counting x e = record x { condition = None; items = record { place = 0; term = aggregate count e None; name = None } ∷ []; keys = [] }

-- its parts, where this comes of the expression
abbrev counting_parts : ExpressionSyntax → Checked BoundExpression → BoundParts
counting_parts e c = record {
  is_record_query = false;
  condition = passes None;
  items =
      checked_map (λ t. record { place = 0; name = item_name 0 (aggregate count e None) None; term = t })
      (together (aggregated count) (then_check (λ b. passes b) c) (passes None)) ∷ [];
  arguments = alone (then_check (λ b. passes b) c) (passes None) ++ [];
  keys = [];
}

counting_bound : (s : Schema) (x : QuerySyntax) (e : ExpressionSyntax) (b : BoundExpression) → bind_expression s.fields e ≡ passes b
    → table_faults s.name x.table ≡ [] → unrelated_among b.paths ≡ [] → all_related (paths_of b.expression) ≡ true
counting_bound s x e b h t u =
    let parts : bind_parts s.fields (counting x e) ≡ counting_parts e (passes b) = ap (counting_parts e) h in
    let none : query_faults s (counting x e) (counting_parts e (passes b)) ≡ [] = rw (t, u) refl in
    let bound : (q : Query) × (bind s (counting x e) ≡ Ok q) =
    (bound_without_fault s (counting x e)).1 (ap (query_faults s (counting x e)) parts ∙ none) in
    let made : query_of (counting_parts e (passes b)) ≡ bound.0 = ap query_of (sym parts) ∙ (bound_is s (counting x e) bound.0 bound.1).1 in
    let m : is_mergeable s.fields (query_of (counting_parts e (passes b))) ≡ true =
    ap (is_mergeable s.fields) made ∙ bound_is_mergeable s (counting x e) bound.0 bound.1 in
    (and_parts (all_related (paths_of b.expression)) true m).0

pub condition_is_related : ConditionIsRelated
condition_is_related s x q c h e =
    let k = bound_is s x q h in
    let unrelated = both_empty _ _ (both_empty _ _ (both_empty _ _ k.0).0).0 in
    let tables = both_empty _ _ unrelated.0 in
    let conditions = both_empty _ _ (both_empty _ _ (both_empty _ _ unrelated.1).0).0 in
    by_condition x.condition (ap (λ (y : Query). y.condition) k.1 ∙ e) tables.0 conditions.0
  where
    by_condition : (o : Option ConditionSyntax) → condition_of (bind_condition s.fields o) ≡ Some c → table_faults s.name x.table ≡ []
        → where_passed (λ c. unrelated_among (paths_of_condition c)) (bind_condition s.fields o) ≡ [] → all_related (paths_of c) ≡ true
    by_condition None g t u = absurd (cc)
    by_condition (Some y) g t u = by_bound (bind_expression s.fields y.expression) refl g u
      where
        by_type : (b : BoundExpression) → bind_expression s.fields y.expression ≡ passes b → (z : Bool)
            → condition_of (checked_map (λ e. Some e) (if z then passes b else fails_at y.place type_mismatch)) ≡ Some c
            → where_passed (λ c. unrelated_among (paths_of_condition c))
            (checked_map (λ e. Some e) (if z then passes b else fails_at y.place type_mismatch)) ≡ [] → all_related (paths_of c) ≡ true
        by_type b f true g u =
            let same : b.expression ≡ c = cc in ap (λ (c : Expression). all_related (paths_of c)) (sym same) ∙ counting_bound s x y.expression b f t u
        by_type b f false g u = absurd (cc)

        by_bound : (d : Checked BoundExpression) → bind_expression s.fields y.expression ≡ d
            → condition_of (checked_map (λ e. Some e) (then_check (of_type truth_type y.place) d)) ≡ Some c
            → where_passed (λ c. unrelated_among (paths_of_condition c)) (checked_map (λ e. Some e) (then_check (of_type truth_type y.place) d)) ≡ []
            → all_related (paths_of c) ≡ true
        by_bound (passes b) f g u = by_type b f (same_type b.gives truth_type) g u
        by_bound (fails f fs) j g u = absurd (cc)

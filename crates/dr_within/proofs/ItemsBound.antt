-- The expression of each item of a bound record query has paths whose chains begin with one another, and the node of a WITHIN holds its rows.
use Rattle.std.proofs.Common.{◌≡◌, ℕ, suc, List, [], ◌∷◌, map, Bool, true, false, Option, Some, None, refl, sym, ap, ◌∙◌, subst, true≢false}
use Rattle.std.specs.Prelude.{if◌then◌else◌, option_map, Ok}
use Rattle.std.specs.List.{list_all, filter_map, flat_map, cons_option}
use Rattle.std.proofs.lemmas.Bool.{and_parts}
use Rattle.dr_meaning.specs.Schema.{Schema, Fields}
use Rattle.dr_meaning.specs.Path.{Step, chain_end, begins_with}
use Rattle.dr_meaning.specs.Expression.{Expression, paths_of, expression_chain, is_null as null_test}
use Rattle.dr_meaning.specs.Query.{Aggregate, count, sum, least, greatest, RecordTerm, RecordItem, GroupItem, objects, groups, Query}
use Rattle.dr_meaning.specs.Syntax.{ExpressionSyntax, is_null, TermSyntax, expression, count_rows, aggregate, ItemSyntax, PathSyntax, QuerySyntax}
use Rattle.dr_meaning.specs.BoundExpression.{type_mismatch, fault_at, bad_within, Checked, passes, fails, fails_at, checked_map, then_check, together}
use Rattle.dr_meaning.specs.BoundExpression.{ValueType, same_type, truth_type, number_type, null_test_type, BoundPath, BoundExpression, one_operand}
use Rattle.dr_meaning.specs.BoundExpression.{bind_path, bind_expression, of_type, unrelated_among}
use Rattle.dr_meaning.specs.Binding.{BoundWithin, bind_within, BoundTerm, plain, rows_counted, aggregated, argument_of, bind_term, item_name, BoundItem}
use Rattle.dr_meaning.specs.Binding.{bind_items, has_keys, is_of_record, is_record_syntax, BoundParts, bind_parts, if_passed, passing, all_passed}
use Rattle.dr_meaning.specs.Binding.{unrelated_in_term, holds_rows, within_faults, table_faults, query_faults, record_term, record_item, group_item, query_of, bind}
use Rattle.dr_meaning.proofs.BindingFaultLemmas.{bound_is, bound_without_fault}
use Rattle.dr_meaning.proofs.BoundPartsLemmas.{both_empty, no_part_faults}
use Rattle.dr_partials.specs.PartialLaws.{all_related}
use Rattle.dr_partials.proofs.RowLemmas.{Each}
use Rattle.dr_made_laws.proofs.ConditionLemmas.{condition_is_related}
use Rattle.dr_kept_laws.specs.ObjectsOfKeptLaws.{term_expression}
use Rattle.dr_made_laws.specs.ObjectFlowLaws.{HoldsRows}
use Rattle.dr_made_laws.proofs.PathLemmas.{begins_along, chain_front}

-- ---- an expression whose paths binding finds related

-- COUNT(*) where an expression is NULL, over the same table
abbrev testing : QuerySyntax → ExpressionSyntax → QuerySyntax
testing x e = record x {
  condition = Some (record { place = 0; expression = is_null 0 e });
  items = record { place = 0; term = count_rows None; name = None } ∷ [];
  keys = [];
}

-- its parts, where this comes of the expression
abbrev testing_parts : Checked BoundExpression → BoundParts
testing_parts c = record {
  is_record_query = false;
  condition = checked_map (λ e. Some e) (then_check (of_type truth_type 0) (one_operand 0 null_test_type null_test c));
  items = passes (record { place = 0; name = item_name 0 (count_rows None) None; term = rows_counted None }) ∷ [];
  arguments = [];
  keys = [];
}

bound_related : (s : Schema) (x : QuerySyntax) (e : ExpressionSyntax) (b : BoundExpression) → bind_expression s.fields e ≡ passes b
    → table_faults s.name x.table ≡ [] → unrelated_among b.paths ≡ [] → all_related (paths_of b.expression) ≡ true
bound_related s x e b h t u =
    let parts : bind_parts s.fields (testing x e) ≡ testing_parts (passes b) = ap testing_parts h in
    let none : query_faults s (testing x e) (testing_parts (passes b)) ≡ [] = rw (t, u) refl in
    let bound : (q : Query) × (bind s (testing x e) ≡ Ok q) = (bound_without_fault s (testing x e)).1 (ap (query_faults s (testing x e)) parts ∙ none) in
    let made : query_of (testing_parts (passes b)) ≡ bound.0 = ap query_of (sym parts) ∙ (bound_is s (testing x e) bound.0 bound.1).1 in
    condition_is_related s (testing x e) bound.0 (null_test b.expression) bound.1 (ap (λ (q : Query). q.condition) (sym made))

-- ---- terms

-- what comes of some expression
abbrev IsBound : Fields → BoundExpression → Type 0
IsBound fs b = (e : ExpressionSyntax) × (bind_expression fs e ≡ passes b)

abbrev IfBound : Fields → Checked BoundExpression → Type 0
IfBound fs (passes b) = IsBound fs b
IfBound fs (fails e es) = Unit {0}

abbrev TermIsBound : Fields → BoundTerm → Type 0
TermIsBound fs (plain e) = IsBound fs e
TermIsBound fs (rows_counted w) = Unit {0}
TermIsBound fs (aggregated a e w) = IsBound fs e

abbrev IfTermBound : Fields → Checked BoundTerm → Type 0
IfTermBound fs (passes t) = TermIsBound fs t
IfTermBound fs (fails e es) = Unit {0}

module _ (fs : Fields) where
  if_typed : (t : ValueType) (i : ℕ) (b : BoundExpression) → IsBound fs b → IfBound fs (of_type t i b)
  if_typed t i b h = by_test (same_type b.gives t)
    where
      by_test : (z : Bool) → IfBound fs (if z then passes b else fails_at i type_mismatch)
      by_test true = h
      by_test false = tt

  if_argument : (a : Aggregate) (i : ℕ) (e : ExpressionSyntax) (c : Checked BoundExpression) → bind_expression fs e ≡ c
      → IfBound fs (then_check (argument_of a i) c)
  if_argument a i e (fails f fs) h = tt
  if_argument count i e (passes b) h = (e, h)
  if_argument sum i e (passes b) h = if_typed number_type i b (e, h)
  if_argument least i e (passes b) h = (e, h)
  if_argument greatest i e (passes b) h = (e, h)

  if_aggregated : (a : Aggregate) (c : Checked BoundExpression) (d : Checked (Option BoundWithin)) → IfBound fs c → IfTermBound fs (together (aggregated a) c d)
  if_aggregated a (passes b) (passes w) h = h
  if_aggregated a (passes b) (fails e es) h = tt
  if_aggregated a (fails e es) (passes w) h = tt
  if_aggregated a (fails e es) (fails g gs) h = tt

  if_plain : (e : ExpressionSyntax) (c : Checked BoundExpression) → bind_expression fs e ≡ c → IfTermBound fs (checked_map plain c)
  if_plain e (passes b) h = (e, h)
  if_plain e (fails f fs) h = tt

  if_counted : (c : Checked (Option BoundWithin)) → IfTermBound fs (checked_map rows_counted c)
  if_counted (passes w) = tt
  if_counted (fails e es) = tt

  term_bound : (i : ℕ) (t : TermSyntax) → IfTermBound fs (bind_term fs i t)
  term_bound i (expression e) = if_plain e (bind_expression fs e) refl
  term_bound i (count_rows w) = if_counted (bind_within fs w)
  term_bound i (aggregate a e w) =
      if_aggregated a (then_check (argument_of a i) (bind_expression fs e)) (bind_within fs w) (if_argument a i e (bind_expression fs e) refl)

  terms_bound : (n : ℕ) (is : List ItemSyntax) → Each (λ (v : BoundItem). TermIsBound fs v.term) (passing (bind_items fs n is))
  terms_bound n [] = tt
  terms_bound n (i ∷ is) = by_term (bind_term fs i.place i.term) (term_bound i.place i.term) (terms_bound (suc n) is)
    where
      by_term : (c : Checked BoundTerm) → IfTermBound fs c → Each (λ (v : BoundItem). TermIsBound fs v.term) (passing (bind_items fs (suc n) is))
          → Each (λ (v : BoundItem). TermIsBound fs v.term)
          (cons_option (if_passed (checked_map (λ t. record { place = i.place; name = item_name n i.term i.name; term = t }) c)) (passing (bind_items fs (suc n) is)))
      by_term (passes t) h g = (h, g)
      by_term (fails e es) h g = g

-- ---- items

-- what is known of an item
pub record IsBoundItem (i : RecordItem) : Type 0 where
  pub related : all_related (paths_of (term_expression i.term)) ≡ true
  pub holds : HoldsRows i.term

held : (e : Expression) (w : BoundWithin) → (if holds_rows e w then [] else fault_at w.place bad_within) ≡ [] → begins_with (chain_end w.node) (expression_chain e) ≡ true
held e w h = by_test (holds_rows e w) refl h
  where
    by_test : (b : Bool) → holds_rows e w ≡ b → (if b then [] else fault_at w.place bad_within) ≡ [] → begins_with (chain_end w.node) (expression_chain e) ≡ true
    by_test true k g =
        begins_along (chain_end w.node) w.node (expression_chain e) (chain_front w.node) (and_parts w.is_whole (begins_with w.node (expression_chain e)) k).1
    by_test false k g = absurd (cc)

module _ (s : Schema) (x : QuerySyntax) (t : table_faults s.name x.table ≡ []) where
  each_bound : (vs : List BoundItem) → Each (λ (v : BoundItem). TermIsBound s.fields v.term) vs
      → flat_map (λ (v : BoundItem). unrelated_in_term (passes []) v.term) vs ≡ [] → flat_map (λ (v : BoundItem). within_faults v.term) vs ≡ []
      → Each IsBoundItem (filter_map record_item vs)
  each_bound [] b u w = tt
  each_bound (v ∷ vs) b u w =
      let y = both_empty (unrelated_in_term (passes []) v.term) (flat_map (λ (v : BoundItem). unrelated_in_term (passes []) v.term) vs) u in
      let z = both_empty (within_faults v.term) (flat_map (λ (v : BoundItem). within_faults v.term) vs) w in
      by_term v.term b.0 y.0 z.0 (each_bound vs b.1 y.1 z.1)
    where
      by_term : (d : BoundTerm) → TermIsBound s.fields d → unrelated_in_term (passes []) d ≡ [] → within_faults d ≡ [] → Each IsBoundItem (filter_map record_item vs)
          → Each IsBoundItem (cons_option (option_map (λ (r : RecordTerm). record { name = v.name; term = r }) (record_term d)) (filter_map record_item vs))
      by_term (plain e) b u w rest = (record { related = bound_related s x b.0 e b.1 t u; holds = tt }, rest)
      by_term (rows_counted o) b u w rest = rest
      by_term (aggregated a e None) b u w rest = rest
      by_term (aggregated a e (Some o)) b u w rest = (record { related = bound_related s x b.0 e b.1 t u; holds = held e.expression o w }, rest)

-- a record query has no keys
no_keys : (fs : Fields) (keys : List PathSyntax) (b : Bool) → (if has_keys keys then false else b) ≡ true → all_passed (map (bind_path fs) keys) ≡ passes []
no_keys fs [] b h = refl
no_keys fs (k ∷ ks) b h = absurd (true≢false (sym h))

of_record : (b : Bool) (is js : List RecordItem) (keys : List (List Step)) (gs : List GroupItem) → (if b then objects is else groups keys gs) ≡ objects js
    → (b ≡ true) × (is ≡ js)
of_record true is js keys gs e = (refl, cc)
of_record false is js keys gs e = absurd (cc)

pub items_are_bound : (s : Schema) (x : QuerySyntax) (q : Query) → bind s x ≡ Ok q → (items : List RecordItem) → q.selection ≡ objects items → Each IsBoundItem items
items_are_bound s x q h items e =
    let k = bound_is s x q h in
    let parts = bind_parts s.fields x in
    let vs = passing parts.items in
    let l = both_empty _ _ (both_empty _ _ k.0).0 in
    let tables = both_empty _ _ (both_empty _ _ l.0).0 in
    let unrelated = both_empty _ _ (both_empty _ _ (both_empty _ _ (both_empty _ _ l.0).1).0).0 in
    let within = both_empty _ _ (no_part_faults s x k.0).1 in
    let same : (is_record_syntax x ≡ true) × (filter_map record_item vs ≡ items) =
    of_record (is_record_syntax x) (filter_map record_item vs) items (map (λ (k : BoundPath). k.leaf.path) (passing parts.keys))
    (filter_map (group_item (passing parts.keys)) vs) (ap (λ (y : Query). y.selection) k.1 ∙ e) in
    let keys : all_passed parts.keys ≡ passes [] = no_keys s.fields x.keys (list_all (λ (i : ItemSyntax). is_of_record i.term) x.items) same.0 in
    subst (λ (is : List RecordItem). Each IsBoundItem is) same.1
    (each_bound s x tables.0 vs (terms_bound s.fields 0 x.items)
    (ap (λ (c : Checked (List BoundPath)). flat_map (λ (v : BoundItem). unrelated_in_term c v.term) vs) (sym keys) ∙ unrelated.1) within.0)

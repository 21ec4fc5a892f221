use Rattle.std.proofs.Common.{rules, ◌≡◌, ◌∙◌, ℕ, List, [], map, length, nat_eq, sym, ap, ap₂, subst, arith}
use Rattle.std.proofs.lemmas.List.{length-map}
use Rattle.std.specs.List.{flat_map}
use Rattle.dr_meaning.specs.BoundExpression.{bind_path}
use Rattle.dr_meaning.specs.Binding.{first_fault, faults_in, bind_items, bind_parts, arguments_alone, passing}
use Rattle.dr_sql.specs.Views as syntax
use Rattle.dr_sql.specs.declared.query.Item.{Item}
use Rattle.dr_sql.specs.declared.expression.Path.{Path}
use Rattle.dr_resolve.specs.Faults.{earlier, first_view}
use Rattle.dr_paths.specs.Views.{bound_path_view}
use Rattle.dr_resolve.specs.Outcomes.{Appends, fields_in, leaves_in}
use Rattle.dr_resolve.specs.Items.{AreExpressions}
use Rattle.dr_resolve.specs.declared.bound.BoundExpression.{BoundExpression}
use Rattle.dr_resolve.proofs.PartLemmas.{parts_noted}
use Rattle.dr_resolve.proofs.names.Binder.parts.Goals as goal

pub returns-clause-parts : goal.returns-clause-parts
returns-clause-parts c =
    let fs = fields_in c.args.self in
    let ls = leaves_in c.args.self in
    let none : AreExpressions fs ls [] c.new-arguments.result.items = subst (λ (xs : List BoundExpression). AreExpressions fs ls [] xs) (sym c.new-arguments.ensures.items) tt in
    let appends : Appends fs ls (arguments_alone fs (map syntax.item_view c.args.query.now.items.items)) c.new-arguments.result.items c.items.new.alone.items =
    subst (λ (xs : List Item). Appends fs ls (arguments_alone fs (map syntax.item_view xs)) c.new-arguments.result.items c.items.new.alone.items) c.deref.ensures.value c.in_ok-items.ensures.alone in
    let kept : map bound_path_view c.in_ok-keys.keys.items ≡ passing (map (bind_path fs) (map syntax.path_view c.args.query.now.keys.items)) =
    subst (λ (xs : List Path). map bound_path_view c.in_ok-keys.keys.items ≡ passing (map (bind_path fs) (map syntax.path_view xs))) c.deref-2.ensures.value c.in_ok-keys.ensures.keys in
    let as_many : length c.in_ok-keys.keys.items ≡ length (passing (map (bind_path fs) (map syntax.path_view c.args.query.now.keys.items))) =
    sym (length-map c.in_ok-keys.keys.items bound_path_view) ∙ ap length kept in
    let each : length (map (bind_path fs) (map syntax.path_view c.args.query.now.keys.items)) ≡ length c.args.query.now.keys.items =
    length-map (map syntax.path_view c.args.query.now.keys.items) (bind_path fs) ∙ length-map c.args.query.now.keys.items syntax.path_view in
    let first : c.len.result ≡ length (passing (map (bind_path fs) (map syntax.path_view c.args.query.now.keys.items))) =
    omega (arith, c.len.ensures, c.in_ok-keys.keys.ok, as_many) in
    let second : c.len-2.result ≡ length (map (bind_path fs) (map syntax.path_view c.args.query.now.keys.items)) =
    omega (arith, c.len-2.ensures, c.args.query.now.keys.ok, each) in
    record {
      record_query = search rules;
      condition = c.in_ok-condition.ensures.bound;
      items = search rules;
      arguments = appends [] none;
      keys = kept;
      all_keys = ap₂ (λ (a b : ℕ). nat_eq a b) first second;
    }

pub returns-clause-first : goal.returns-clause-first
returns-clause-first c =
    let fs = fields_in c.args.self in
    let b = bind_parts fs (syntax.query_view c.args.query.now) in
    let zero = first_view c.args.first.now in
    let one = first_view c.condition.new.first in
    let two = first_view c.items.new.first in
    let three = first_view c.keys.new.first in
    parts_noted b zero one two three
    c.in_ok-condition.ensures.first
    (subst (λ (xs : List Item). two ≡ earlier one (first_fault (flat_map faults_in (bind_items fs 0 (map syntax.item_view xs))))) c.deref.ensures.value c.in_ok-items.ensures.first)
    (subst (λ (xs : List Path). three ≡ earlier two (first_fault (flat_map faults_in (map (bind_path fs) (map syntax.path_view xs))))) c.deref-2.ensures.value c.in_ok-keys.ensures.first)

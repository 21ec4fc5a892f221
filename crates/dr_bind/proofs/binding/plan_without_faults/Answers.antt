use Rattle.std.proofs.Common.{◌≡◌, List, [], map, subst, arith}
use Rattle.std.proofs.lemmas.List.{length-map}
use Rattle.dr_meaning.specs.Schema.{Fields}
use Rattle.dr_meaning.specs.Syntax.{QuerySyntax}
use Rattle.dr_meaning.specs.Binding.{BoundParts, bind_parts, query_of}
use Rattle.dr_meaning.specs.Path.{Leaf, leaves, same_path}
use Rattle.dr_meaning.specs.QueryLeaves.{in_reading_order, query_leaves}
use Rattle.dr_nested.specs.SchemaView.{schema_view}
use Rattle.dr_nested.specs.PathView.{path_view, lent_path}
use Rattle.dr_nested.specs.declared.path.Path.{Path}
use Rattle.dr_nested.specs.declared.path.Step.{Step}
use denote.Ref.{Bor}
use Rattle.std.specs.List.{filter, list_any}
use Rattle.dr_plan.specs.declared.plan.Plan.{Plan}
use Rattle.dr_plan.specs.Planned.{plan_view, planned}
use Rattle.dr_planning.specs.NamedLevels.{levels_view, joined}
use Rattle.dr_meaning.specs.Query.{levels_of}
use Rattle.dr_sql.specs.Views as syntax
use Rattle.dr_resolve.specs.Parts.{AreParts}
use Rattle.dr_bind.proofs.BindLemmas.{if_ok, leaves_are_used}
use Rattle.dr_planning.proofs.PlanLemmas.{parts_can_be_planned}
use Rattle.dr_bind.proofs.binding.plan_without_faults.Goals as goal

-- what the parts over the used leaves are, and that these are the query's leaves
pub plan_of-requires : goal.plan_of-requires
plan_of-requires c =
    let fs : Fields = (schema_view c.args.schema.now).fields in
    let q : QuerySyntax = syntax.query_view c.args.query.now in
    let b : BoundParts = bind_parts fs q in
    parts_can_be_planned fs (map path_view c.in_ok-leaves.leaves.items) q c.in_ok-parts.parts
    (subst (λ (xs : List Path). AreParts fs (map path_view xs) b c.in_ok-parts.parts) c.deref-2.ensures.value c.in_ok-parts.ensures.parts)
    (leaves_are_used fs (query_of b) (map path_view c.in_ok-leaves.leaves.items) (map lent_path c.in_ok-used.used.items)
    (subst (λ (us : List (Bor (List Step))). map path_view c.in_ok-leaves.leaves.items ≡ in_reading_order fs (filter (λ (l : Leaf). list_any (same_path l.path) (map lent_path us)) (leaves fs))) c.deref.ensures.value c.in_ok-leaves.ensures)
    (c.in_ok-used.ensures fs [] b c.requires.parts))
    (omega (arith, length-map c.in_ok-leaves.leaves.items path_view, c.len.ensures, c.if-len.false))

pub returns : goal.returns
returns c =
    let fs : Fields = (schema_view c.args.schema.now).fields in
    let q : QuerySyntax = syntax.query_view c.args.query.now in
    let b : BoundParts = bind_parts fs q in
    let ls : List Leaf = map path_view c.in_ok-leaves.leaves.items in
    if_ok (λ (p : Plan). (fs : Fields) (b : BoundParts) → AreParts fs ls b c.in_ok-parts.parts → levels_view c.args.levels.now ≡ joined (levels_of fs) → ls ≡ query_leaves fs (query_of b) → plan_view p ≡ planned fs (query_of b))
    (λ (p : Plan). plan_view p ≡ planned fs (query_of b)) c.plan_of.result
    (λ p h. h fs b
    (subst (λ (xs : List Path). AreParts fs (map path_view xs) b c.in_ok-parts.parts) c.deref-2.ensures.value c.in_ok-parts.ensures.parts)
    c.requires.levels
    (leaves_are_used fs (query_of b) ls (map lent_path c.in_ok-used.used.items)
    (subst (λ (us : List (Bor (List Step))). ls ≡ in_reading_order fs (filter (λ (l : Leaf). list_any (same_path l.path) (map lent_path us)) (leaves fs))) c.deref.ensures.value c.in_ok-leaves.ensures)
    (c.in_ok-used.ensures fs [] b c.requires.parts)))
    c.plan_of.ensures

-- Paths that lead to leaves.
use Rattle.std.proofs.Common.{◌≡◌, ◌≤◌, ℕ, List, [], ◌∷◌, map, length, true, Option, Some, None, refl, sym, ap, ◌∙◌, subst}
use Rattle.std.specs.Prelude.{option_map}
use Rattle.dr_meaning.specs.Schema as tree
use Rattle.dr_meaning.specs.Schema.{Fields}
use Rattle.dr_meaning.specs.Path.{Leaf, leaves, find_path}
use Rattle.dr_meaning.specs.Expression.{path_value}
use Rattle.dr_meaning.specs.Syntax.{PathSyntax}
use Rattle.dr_meaning.specs.BoundExpression as meant
use Rattle.dr_meaning.specs.BoundExpression.{BindFault, Checked, passes, fails, bind_path, checked_map, path_expression, kind_type}
use Rattle.dr_meaning.proofs.FindingLemmas.{in_at}
use Rattle.dr_meaning.proofs.BindingLemmas.{path_passes, found_among}
use Rattle.dr_nested.specs.Finding.{behind}
use Rattle.dr_nested.specs.PathView.{path_view, step_view}
use Rattle.dr_nested.specs.declared.path.Step.{Step as CodeStep}
use Rattle.dr_nested.proofs.DepthLemmas.{steps_within}
use Rattle.dr_plan.specs.Views.{expr_view}
use Rattle.dr_plan.specs.Fitting.{expr_fits}
use Rattle.dr_paths.specs.declared.bound.BoundPath.{BoundPath}
use Rattle.dr_paths.specs.Views.{bound_path_view}
use Rattle.dr_resolve.specs.Bound.{IsAmong, Covers, Means, IsExpression, type_of}
use Rattle.dr_resolve.specs.Outcomes.{BindsAs, IsPath}
use Rattle.dr_resolve.specs.declared.bound.BoundExpression.{BoundExpression}

-- a path that was found has at most as many steps as a path may have
pub found_within : (ns : List (List ℕ)) (s : tree.Schema) (steps : List CodeStep) (k : tree.Shape) → tree.is_schema s ≡ true → find_path ns s.fields ≡ Some (record { path = map step_view steps; shape = k })
    → length steps ≤ tree.greatest_depth
found_within ns s steps k v h = steps_within ns s [] steps k v refl (ap (option_map (behind [])) h)

-- the value of a path that was bound
pub value_bound : (fs : Fields) (ls : List Leaf) (p : PathSyntax) (before now : Option BindFault) (path : BoundPath) (x : BoundExpression) → type_of x.expression.value ≡ kind_type (path_view path.leaf).kind → x.is_path ≡ true
    → map bound_path_view x.paths.items ≡ bound_path_view path ∷ [] → (IsAmong ls (path_view path.leaf) → expr_view ls x.expression.value ≡ path_value (path_view path.leaf).path)
    → (IsAmong ls (path_view path.leaf) → expr_fits ls x.expression.value ≡ true) → BindsAs IsPath before now (bind_path fs p) (Some path) → BindsAs (IsExpression fs ls) before now (checked_map path_expression (bind_path fs p)) (Some x)
value_bound fs ls p before now path x t a ps v f h = by_outcome (bind_path fs p) refl h
  where
    by_outcome : (c : Checked meant.BoundPath) → bind_path fs p ≡ c → BindsAs IsPath before now c (Some path) → BindsAs (IsExpression fs ls) before now (checked_map path_expression c) (Some x)
    by_outcome (fails e es) q g = absurd g
    by_outcome (passes b) q g =
        let same : path_view path.leaf ≡ b.leaf = ap (λ (y : meant.BoundPath). y.leaf) g.1 in
        let means : Covers ls (b ∷ []) → Means ls (path_expression b) x.expression.value =
        λ z. let here : IsAmong ls (path_view path.leaf) = subst (IsAmong ls) (sym same) z.0 in record {
          view = v here ∙ ap (λ (l : Leaf). path_value l.path) same;
          fits = f here;
        } in (
          g.0,
          record {
            gives = t ∙ ap (λ (l : Leaf). kind_type l.kind) same;
            paths = ps ∙ ap (λ y. y ∷ []) g.1;
            own = refl;
            alone = a;
            real = (in_at b.leaf (leaves fs) (found_among fs p.names b (path_passes fs p b q)), tt);
            means = means;
          },
        )

-- no path was bound
pub no_value : (fs : Fields) (ls : List Leaf) (p : PathSyntax) (before now : Option BindFault) → BindsAs IsPath before now (bind_path fs p) None → BindsAs (IsExpression fs ls) before now (checked_map path_expression (bind_path fs p)) None
no_value fs ls p before now h = by_outcome (bind_path fs p) h
  where
    by_outcome : (c : Checked meant.BoundPath) → BindsAs IsPath before now c None → BindsAs (IsExpression fs ls) before now (checked_map path_expression c) None
    by_outcome (fails e es) g = g
    by_outcome (passes b) g = absurd g

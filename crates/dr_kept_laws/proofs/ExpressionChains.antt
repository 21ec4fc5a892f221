-- An expression depends on the values of its paths alone.
use Rattle.std.specs.Prelude.{◌≡◌, List, ◌++◌, Bool, true, ◌&&◌}
use Rattle.std.specs.List.{list_all}
use Rattle.std.proofs.Common.{refl, sym, ap, ap₂, ◌∙◌}
use Rattle.std.proofs.lemmas.List.Folds.{list_all-append}
use Rattle.std.proofs.lemmas.Bool.{and_parts}
use Rattle.dr_meaning.specs.Path.{Step, is_leaf_path, chain_end, begins_with}
use Rattle.dr_meaning.specs.Record.{Node}
use Rattle.dr_meaning.specs.Rows.{value_at}
use Rattle.dr_meaning.specs.Expression.{Expression, constant, path_value, negative, arithmetic, comparison, like, contains, is_null, negation, conjunction, disjunction, evaluate, paths_of, on_both, combine, compared, on_text, occurs_in, null_test, not_value, and_values, or_values}
use Rattle.dr_kept_laws.specs.RowsOfKeptLaws.{ExpressionsAreOfChains}

module _ (test : List Step → Bool) (a b : Node) (same : (q : List Step) → test q ≡ true → value_at q a ≡ value_at q b) where
  both_parts : (x y : List (List Step)) → list_all test (x ++ y) ≡ true → (list_all test x ≡ true) × (list_all test y ≡ true)
  both_parts x y h = and_parts (list_all test x) (list_all test y) (sym (list_all-append test x y) ∙ h)

  same_evaluated : (e : Expression) → list_all test (paths_of e) ≡ true → evaluate e a ≡ evaluate e b
  same_evaluated (constant v) h = refl
  same_evaluated (path_value q) h = same q (and_parts (test q) true h).0
  same_evaluated (negative e) h = rw (same_evaluated e h)
  same_evaluated (arithmetic o e f) h = let k = both_parts (paths_of e) (paths_of f) h in ap₂ (on_both (combine o)) (same_evaluated e k.0) (same_evaluated f k.1)
  same_evaluated (comparison c e f) h = let k = both_parts (paths_of e) (paths_of f) h in ap₂ (on_both (compared c)) (same_evaluated e k.0) (same_evaluated f k.1)
  same_evaluated (like e t) h = rw (same_evaluated e h)
  same_evaluated (contains e t) h = ap (on_text (occurs_in t)) (same_evaluated e h)
  same_evaluated (is_null e) h = ap null_test (same_evaluated e h)
  same_evaluated (negation e) h = ap not_value (same_evaluated e h)
  same_evaluated (conjunction e f) h = let k = both_parts (paths_of e) (paths_of f) h in ap₂ and_values (same_evaluated e k.0) (same_evaluated f k.1)
  same_evaluated (disjunction e f) h = let k = both_parts (paths_of e) (paths_of f) h in ap₂ or_values (same_evaluated e k.0) (same_evaluated f k.1)

pub expressions_are_of_chains : ExpressionsAreOfChains
expressions_are_of_chains fs c e h a b g =
    same_evaluated (λ q. is_leaf_path fs q && begins_with (chain_end q) c) a b (λ q t. let k = and_parts (is_leaf_path fs q) (begins_with (chain_end q) c) t in g q k.0 k.1) e h

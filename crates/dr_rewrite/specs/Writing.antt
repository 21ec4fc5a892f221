-- How the parts of a plan are written.
use Rattle.std.specs.Prelude.{ℕ, List, [], ◌∷◌, ◌++◌, map, Option, option_map}
use Rattle.dr_meaning.specs.Path.{Step, Leaf}
use Rattle.dr_meaning.specs.Expression as language
use Rattle.dr_nested.specs.PathView.{path_view}
use Rattle.dr_nested.specs.SchemaView.{schema_view}
use Rattle.dr_partials.specs.RewritingText.{expression_text, name_text, path_text, where_text}
use Rattle.dr_plan.specs.Conjuncts.{condition_written, rejoined}
use Rattle.dr_plan.specs.Views.{comparison_view, joining_view, number_view, text_view, truth_view}
use Rattle.dr_plan.specs.declared.expression.Comparison.{Comparison}
use Rattle.dr_plan.specs.declared.expression.Number.{Number}
use Rattle.dr_plan.specs.declared.expression.TextOf.{TextOf}
use Rattle.dr_plan.specs.declared.expression.Truth.{Truth}
use Rattle.dr_plan.specs.declared.joining.Joining.{Joining}
use Rattle.dr_rewrite.specs.declared.paths.Names.{Names}

-- names with a dot between, and something before the first
abbrev pub dotted : List ℕ → List (List ℕ) → List ℕ
dotted before [] = []
dotted before (n ∷ ns) = before ++ (name_text n ++ dotted (46 ∷ []) ns)

-- the text of a path, and the leaves, by which a plan is written
abbrev pub written_path : Names → List Step → List ℕ
written_path n = path_text (schema_view n.schema.now).fields

abbrev pub written_leaves : Names → List Leaf
written_leaves n = map path_view n.leaves.now

-- ---- expressions

abbrev pub number_text : Names → Number → List ℕ
number_text n e = expression_text (written_path n) (number_view (written_leaves n) e)

abbrev pub text_text : Names → TextOf → List ℕ
text_text n e = expression_text (written_path n) (text_view (written_leaves n) e)

abbrev pub truth_text : Names → Truth → List ℕ
truth_text n e = expression_text (written_path n) (truth_view (written_leaves n) e)

-- a comparison of two numbers, of two texts
abbrev pub numbers_compared : Names → Comparison → Number → Number → List ℕ
numbers_compared n c a b = expression_text (written_path n) (language.comparison (comparison_view c) (number_view (written_leaves n) a) (number_view (written_leaves n) b))

abbrev pub texts_compared : Names → Comparison → TextOf → TextOf → List ℕ
texts_compared n c a b = expression_text (written_path n) (language.comparison (comparison_view c) (text_view (written_leaves n) a) (text_view (written_leaves n) b))

-- a test for NULL of a number, of a text
abbrev pub number_null_text : Names → Number → List ℕ
number_null_text n e = expression_text (written_path n) (language.is_null (number_view (written_leaves n) e))

abbrev pub text_null_text : Names → TextOf → List ℕ
text_null_text n e = expression_text (written_path n) (language.is_null (text_view (written_leaves n) e))

-- ---- conditions

-- conjuncts that are joined so
abbrev pub rejoined_text : Names → List Truth → Joining → List ℕ
rejoined_text n tests j = expression_text (written_path n) (rejoined (map (truth_view (written_leaves n)) tests) (joining_view j))

-- WHERE and the condition as it was written, by its conjuncts and how it joins them; nothing where there is none
abbrev pub condition_text : Names → List Truth → Option Joining → List ℕ
condition_text n tests j = where_text (written_path n) (condition_written (map (truth_view (written_leaves n)) tests) (option_map joining_view j))

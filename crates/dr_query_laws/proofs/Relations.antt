-- The paths of bound parts, whatever their places: that each two of them are related is told by the paths alone.
use Rattle.std.proofs.Common.{◌≡◌, ℕ, List, [], ◌∷◌, ◌++◌, map, Bool, true, false, ◌&&◌, Option, refl, ap, ap₂, ◌∙◌, subst}
use Rattle.std.specs.Prelude.{if◌then◌else◌}
use Rattle.std.specs.List.{list_all}
use Rattle.std.proofs.lemmas.Bool.{and_parts}
use Rattle.std.proofs.lemmas.List.{map-append}
use Rattle.dr_meaning.specs.Schema.{Fields}
use Rattle.dr_meaning.specs.Path.{Step}
use Rattle.dr_meaning.specs.Expression.{Expression, paths_of, negative as negative_expression, arithmetic as arithmetic_expression, comparison as comparison_expression, like as like_expression, contains as contains_expression, is_null as is_null_expression, negation as negation_expression, conjunction as conjunction_expression, disjunction as disjunction_expression}
use Rattle.dr_meaning.specs.Syntax.{ExpressionSyntax, number_literal, text_literal, truth_literal, path, negative, arithmetic, comparison, like, contains, is_null, negation, conjunction, disjunction, TermSyntax, expression, count_rows, aggregate}
use Rattle.dr_meaning.specs.BoundExpression.{unrelated, fault_at, Checked, passes, then_check, ValueType, truth_type, number_type, text_type, type_from, null_test_type, logic_type, comparison_type, arithmetic_type, BoundPath, BoundExpression, one_operand, two_operands, bind_expression, are_related, unrelated_after, unrelated_among}
use Rattle.dr_meaning.specs.Binding.{bind_within, BoundTerm, plain, rows_counted, aggregated, argument_of, bind_term}
use Rattle.dr_query_laws.proofs.WrittenExpressions.{same_inside, OnePasses, one_passes, TwoPass, two_pass, path_passed}
use Rattle.dr_query_laws.proofs.BoundItems.{mapped_passes, together_passes, then_passes, argument_same}

abbrev pub paths : List BoundPath → List (List Step)
paths ps = map (λ (p : BoundPath). p.leaf.path) ps

-- ---- related paths

-- each path is related to those before it
abbrev pub related_behind : List (List Step) → List (List Step) → Bool
related_behind earlier [] = true
related_behind earlier (p ∷ ps) = list_all (are_related p) earlier && related_behind (p ∷ earlier) ps

abbrev pub Related : List (List Step) → Type 0
Related ps = related_behind [] ps ≡ true

without_stranger : (earlier : List (List Step)) (ps : List BoundPath) → unrelated_after earlier ps ≡ [] → related_behind earlier (paths ps) ≡ true
without_stranger earlier [] h = refl
without_stranger earlier (p ∷ ps) h = by_test (list_all (are_related p.leaf.path) earlier) h (without_stranger (p.leaf.path ∷ earlier) ps)
  where
    by_test : (b : Bool) → (if b then unrelated_after (p.leaf.path ∷ earlier) ps else fault_at p.place unrelated) ≡ []
        → (unrelated_after (p.leaf.path ∷ earlier) ps ≡ [] → related_behind (p.leaf.path ∷ earlier) (paths ps) ≡ true) → (b && related_behind (p.leaf.path ∷ earlier) (paths ps)) ≡ true
    by_test true k f = f k
    by_test false k f = absurd (cc)

no_stranger : (earlier : List (List Step)) (ps : List BoundPath) → related_behind earlier (paths ps) ≡ true → unrelated_after earlier ps ≡ []
no_stranger earlier [] h = refl
no_stranger earlier (p ∷ ps) h =
    let q = and_parts (list_all (are_related p.leaf.path) earlier) (related_behind (p.leaf.path ∷ earlier) (paths ps)) h in
    ap (λ b. if b then unrelated_after (p.leaf.path ∷ earlier) ps else fault_at p.place unrelated) q.0 ∙ no_stranger (p.leaf.path ∷ earlier) ps q.1

pub related_from : (ps : List BoundPath) → unrelated_among ps ≡ [] → Related (paths ps)
related_from ps h = without_stranger [] ps h

pub from_related : (ps : List BoundPath) (qs : List (List Step)) → paths ps ≡ qs → Related qs → unrelated_among ps ≡ []
from_related ps qs e h = no_stranger [] ps (ap (related_behind []) e ∙ h)

-- ---- the paths of a bound expression are its expression's

abbrev Fits : BoundExpression → Type 0
Fits b = paths b.paths ≡ paths_of b.expression

abbrev PassedFits : Checked BoundExpression → Type 0
PassedFits c = (b : BoundExpression) → c ≡ passes b → Fits b

literal_fits : (a : BoundExpression) → Fits a → PassedFits (passes a)
literal_fits a f b h = subst Fits (same_inside a b h) f

one_fits : (i : ℕ) (type : ValueType → Option ValueType) (make : Expression → Expression) (c : Checked BoundExpression) → ((e : Expression) → paths_of e ≡ paths_of (make e)) → PassedFits c → PassedFits (one_operand i type make c)
one_fits i type make c e f b h =
    let q : OnePasses type make c b = one_passes i type make c b h in
    subst Fits q.4 (f q.0 q.2 ∙ e q.0.expression)

two_fit : (i : ℕ) (type : ValueType → ValueType → Option ValueType) (make : Expression → Expression → Expression) (c d : Checked BoundExpression) → ((e f : Expression) → paths_of e ++ paths_of f ≡ paths_of (make e f))
    → PassedFits c → PassedFits d → PassedFits (two_operands i type make c d)
two_fit i type make c d e f g b h =
    let q : TwoPass type make c d b = two_pass i type make c d b h in
    subst Fits q.6 (map-append (λ (p : BoundPath). p.leaf.path) q.0.paths q.1.paths ∙ (ap₂ (λ x y. x ++ y) (f q.0 q.3) (g q.1 q.4) ∙ e q.0.expression q.1.expression))

pub expression_fits : (fs : Fields) (x : ExpressionSyntax) → PassedFits (bind_expression fs x)
expression_fits fs (number_literal n) = literal_fits _ refl
expression_fits fs (text_literal t) = literal_fits _ refl
expression_fits fs (truth_literal v) = literal_fits _ refl
expression_fits fs (path p) = λ (b : BoundExpression) (h : bind_expression fs (path p) ≡ passes b). let q = path_passed fs p b h in subst Fits q.2 refl
expression_fits fs (negative i x) = one_fits i (type_from number_type number_type) negative_expression (bind_expression fs x) (λ e. refl) (expression_fits fs x)
expression_fits fs (arithmetic i o x y) = two_fit i (arithmetic_type o) (arithmetic_expression o) (bind_expression fs x) (bind_expression fs y) (λ e f. refl) (expression_fits fs x) (expression_fits fs y)
expression_fits fs (comparison i c x y) = two_fit i comparison_type (comparison_expression c) (bind_expression fs x) (bind_expression fs y) (λ e f. refl) (expression_fits fs x) (expression_fits fs y)
expression_fits fs (like i x t) = one_fits i (type_from text_type truth_type) (λ e. like_expression e t) (bind_expression fs x) (λ e. refl) (expression_fits fs x)
expression_fits fs (contains i x t) = one_fits i (type_from text_type truth_type) (λ e. contains_expression e t) (bind_expression fs x) (λ e. refl) (expression_fits fs x)
expression_fits fs (is_null i x) = one_fits i null_test_type is_null_expression (bind_expression fs x) (λ e. refl) (expression_fits fs x)
expression_fits fs (negation i x) = one_fits i (type_from truth_type truth_type) negation_expression (bind_expression fs x) (λ e. refl) (expression_fits fs x)
expression_fits fs (conjunction i x y) = two_fit i logic_type conjunction_expression (bind_expression fs x) (bind_expression fs y) (λ e f. refl) (expression_fits fs x) (expression_fits fs y)
expression_fits fs (disjunction i x y) = two_fit i logic_type disjunction_expression (bind_expression fs x) (bind_expression fs y) (λ e f. refl) (expression_fits fs x) (expression_fits fs y)

-- ---- terms

abbrev pub TermFits : BoundTerm → Type 0
TermFits (plain e) = Fits e
TermFits (rows_counted w) = Unit {0}
TermFits (aggregated a e w) = Fits e

pub term_fits : (fs : Fields) (i : ℕ) (t : TermSyntax) (b : BoundTerm) → bind_term fs i t ≡ passes b → TermFits b
term_fits fs i (expression e) b h = let q = mapped_passes plain (bind_expression fs e) b h in subst TermFits q.2 (expression_fits fs e q.0 q.1)
term_fits fs i (count_rows w) b h = let q = mapped_passes rows_counted (bind_within fs w) b h in subst TermFits q.2 tt
term_fits fs i (aggregate a e w) b h =
    let q = together_passes (aggregated a) (then_check (argument_of a i) (bind_expression fs e)) (bind_within fs w) b h in
    let r = then_passes (argument_of a i) (bind_expression fs e) q.0 q.2 in
    subst TermFits q.4 (subst Fits (argument_same a i r.0 q.0 r.2) (expression_fits fs e r.0 r.1))

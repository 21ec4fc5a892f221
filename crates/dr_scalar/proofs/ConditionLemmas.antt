-- Expressions joined by AND, and a condition that is cut into its conjuncts and joined again.
use Rattle.std.specs.Prelude.{◌≡◌, List, [], ◌∷◌, ◌++◌, Bool, true, false, ◌&&◌, Option, Some, None}
use Rattle.std.specs.List.{flat_map}
use Rattle.std.proofs.Common.{refl, sym, ap, ap₂, ◌∙◌, append_assoc, append-nil}
use Rattle.std.proofs.Math.Path.{fun_ext}
use Rattle.std.proofs.lemmas.List.Folds.{list_all-append}
use Rattle.dr_meaning.specs.Path.{Step}
use Rattle.dr_meaning.specs.Record.{Node}
use Rattle.dr_meaning.specs.Expression.{Expression, constant, path_value, negative, arithmetic, comparison, like, contains, is_null, negation, conjunction, disjunction, evaluate, is_true, paths_of, longest_chain}
use Rattle.dr_meaning.specs.Kept.{kept, kept_along}
use Rattle.dr_plan.specs.Conjuncts.{conjuncts, condition_conjuncts, joined, all_of}
use Rattle.dr_plan.proofs.ConjunctLemmas.{true_where_each_is, conjuncts_have_paths}
use Rattle.dr_scalar.specs.Tests.{all_true}

-- ---- joined by AND

pub joined_paths : (e : Expression) (es : List Expression) → paths_of (joined e es) ≡ flat_map paths_of (e ∷ es)
joined_paths e [] = sym (append-nil (paths_of e))
joined_paths e (f ∷ fs) = joined_paths (conjunction e f) fs ∙ append_assoc (paths_of e) (paths_of f) (flat_map paths_of fs)

and_assoc : (a b c : Bool) → ((a && b) && c) ≡ (a && (b && c))
and_assoc true b c = refl
and_assoc false b c = refl

and_true : (b : Bool) → b ≡ (b && true)
and_true true = refl
and_true false = refl

both_true : (e f : Expression) (row : Node) → is_true (evaluate (conjunction e f) row) ≡ (is_true (evaluate e row) && is_true (evaluate f row))
both_true e f row =
    true_where_each_is (conjunction e f) row ∙ list_all-append (λ g. is_true (evaluate g row)) (conjuncts e) (conjuncts f)
    ∙ ap₂ ◌&&◌ (sym (true_where_each_is e row)) (sym (true_where_each_is f row))

pub joined_true : (e : Expression) (es : List Expression) (row : Node) → is_true (evaluate (joined e es) row) ≡ all_true (e ∷ es) row
joined_true e [] row = and_true (is_true (evaluate e row))
joined_true e (f ∷ fs) row =
    joined_true (conjunction e f) fs row ∙ ap (λ b. b && all_true fs row) (both_true e f row) ∙ and_assoc (is_true (evaluate e row)) (is_true (evaluate f row)) (all_true fs row)

-- what is kept by expressions that are all to be true
pub kept_by_all : (e : Expression) (es : List Expression) (n : Node)
    → kept (all_of (e ∷ es)) n ≡ kept_along (longest_chain (flat_map paths_of (e ∷ es))) (all_true (e ∷ es)) n
kept_by_all e es n =
    ap₂ (λ (p : List Step) (test : Node → Bool). kept_along p test n) (ap longest_chain (joined_paths e es)) (fun_ext (joined_true e es))

-- ---- cut and joined again

first_conjunct : (e : Expression) → (f : Expression) × (fs : List Expression) × (conjuncts e ≡ f ∷ fs)
first_conjunct (conjunction a b) = let h = first_conjunct a in (h.0, h.1 ++ conjuncts b, ap (λ es. es ++ conjuncts b) h.2)
first_conjunct (constant v) = (constant v, [], refl)
first_conjunct (path_value p) = (path_value p, [], refl)
first_conjunct (negative e) = (negative e, [], refl)
first_conjunct (arithmetic o a b) = (arithmetic o a b, [], refl)
first_conjunct (comparison c a b) = (comparison c a b, [], refl)
first_conjunct (like e t) = (like e t, [], refl)
first_conjunct (contains e t) = (contains e t, [], refl)
first_conjunct (is_null e) = (is_null e, [], refl)
first_conjunct (negation e) = (negation e, [], refl)
first_conjunct (disjunction a b) = (disjunction a b, [], refl)

-- a condition whose conjuncts are joined again keeps the same of a record
pub condition_rejoined : (c : Option Expression) (n : Node) → kept (all_of (condition_conjuncts c)) n ≡ kept c n
condition_rejoined None n = refl
condition_rejoined (Some e) n =
    let h = first_conjunct e in
    ap (λ (es : List Expression). kept (all_of es) n) h.2
    ∙ kept_by_all h.0 h.1 n
    ∙ ap₂ (λ (p : List Step) (test : Node → Bool). kept_along p test n) (ap longest_chain (ap (flat_map paths_of) (sym h.2) ∙ conjuncts_have_paths e))
    (fun_ext (λ (row : Node). ap (λ (es : List Expression). all_true es row) (sym h.2) ∙ sym (true_where_each_is e row)))

-- A condition is true exactly where each of its conjuncts is, and joined again they mean the same.
use Rattle.std.proofs.Common.{◌≡◌, List, [], ◌∷◌, ◌++◌, Bool, true, false, ◌&&◌, Option, Some, None, refl, sym, ap, ap₂, ◌∙◌, append-nil, append_assoc}
use Rattle.std.specs.List.{list_all, flat_map, filter_map}
use Rattle.std.proofs.Math.Path.{fun_ext}
use Rattle.std.proofs.lemmas.List.Folds.{list_all-append}
use Rattle.dr_meaning.specs.Path.{Step}
use Rattle.dr_meaning.specs.Record.{Value, bool_value, int_value, text_value, Node}
use Rattle.dr_meaning.specs.Expression.{Expression, constant, path_value, negative, arithmetic, comparison, like, contains, is_null, negation, conjunction, disjunction, and_values, evaluate, is_true, paths_of, longest_chain}
use Rattle.dr_meaning.specs.Kept.{kept_along, kept}
use Rattle.dr_meaning.specs.Query.{levels_of, selected, meaning}
use Rattle.dr_plan.specs.Conjuncts.{conjuncts, condition_conjuncts, joined, all_of, TrueWhereEachIs, ConjunctsHavePaths, RejoinedMeansSame}

and_true : (b : Bool) → b ≡ (b && true)
and_true true = refl
and_true false = refl

and_holds : (v w : Option Value) → is_true (and_values v w) ≡ (is_true v && is_true w)
and_holds (Some (bool_value true)) w = refl
and_holds (Some (bool_value false)) w = refl
and_holds None None = refl
and_holds None (Some (bool_value true)) = refl
and_holds None (Some (bool_value false)) = refl
and_holds None (Some (int_value z)) = refl
and_holds None (Some (text_value t)) = refl
and_holds (Some (int_value y)) None = refl
and_holds (Some (int_value y)) (Some (bool_value true)) = refl
and_holds (Some (int_value y)) (Some (bool_value false)) = refl
and_holds (Some (int_value y)) (Some (int_value z)) = refl
and_holds (Some (int_value y)) (Some (text_value t)) = refl
and_holds (Some (text_value y)) None = refl
and_holds (Some (text_value y)) (Some (bool_value true)) = refl
and_holds (Some (text_value y)) (Some (bool_value false)) = refl
and_holds (Some (text_value y)) (Some (int_value z)) = refl
and_holds (Some (text_value y)) (Some (text_value t)) = refl

abbrev all_true : List Expression → Node → Bool
all_true es row = list_all (λ f. is_true (evaluate f row)) es

pub true_where_each_is : TrueWhereEachIs
true_where_each_is (conjunction a b) row =
    and_holds (evaluate a row) (evaluate b row) ∙ ap₂ (λ x y. x && y) (true_where_each_is a row) (true_where_each_is b row) ∙ sym (list_all-append (λ f. is_true (evaluate f row)) (conjuncts a) (conjuncts b))
true_where_each_is (constant v) row = and_true _
true_where_each_is (path_value p) row = and_true _
true_where_each_is (negative e) row = and_true _
true_where_each_is (arithmetic o a b) row = and_true _
true_where_each_is (comparison c a b) row = and_true _
true_where_each_is (like e t) row = and_true _
true_where_each_is (contains e t) row = and_true _
true_where_each_is (is_null e) row = and_true _
true_where_each_is (negation e) row = and_true _
true_where_each_is (disjunction a b) row = and_true _

flat_paths : (es fs : List Expression) → flat_map paths_of (es ++ fs) ≡ flat_map paths_of es ++ flat_map paths_of fs
flat_paths [] fs = refl
flat_paths (e ∷ es) fs = ap (λ ps. paths_of e ++ ps) (flat_paths es fs) ∙ sym (append_assoc (paths_of e) (flat_map paths_of es) (flat_map paths_of fs))

pub conjuncts_have_paths : ConjunctsHavePaths
conjuncts_have_paths (conjunction a b) = flat_paths (conjuncts a) (conjuncts b) ∙ ap₂ (λ ps qs. ps ++ qs) (conjuncts_have_paths a) (conjuncts_have_paths b)
conjuncts_have_paths (constant v) = refl
conjuncts_have_paths (path_value p) = refl
conjuncts_have_paths (negative e) = append-nil (paths_of e)
conjuncts_have_paths (arithmetic o a b) = append-nil (paths_of a ++ paths_of b)
conjuncts_have_paths (comparison c a b) = append-nil (paths_of a ++ paths_of b)
conjuncts_have_paths (like e t) = append-nil (paths_of e)
conjuncts_have_paths (contains e t) = append-nil (paths_of e)
conjuncts_have_paths (is_null e) = append-nil (paths_of e)
conjuncts_have_paths (negation e) = append-nil (paths_of e)
conjuncts_have_paths (disjunction a b) = append-nil (paths_of a ++ paths_of b)

-- ---- joined again

joined_paths : (e : Expression) (es : List Expression) → paths_of (joined e es) ≡ flat_map paths_of (e ∷ es)
joined_paths e [] = sym (append-nil (paths_of e))
joined_paths e (f ∷ fs) = joined_paths (conjunction e f) fs ∙ append_assoc (paths_of e) (paths_of f) (flat_map paths_of fs)

and_assoc : (a b c : Bool) → ((a && b) && c) ≡ (a && (b && c))
and_assoc true b c = refl
and_assoc false b c = refl

joined_true : (e : Expression) (es : List Expression) (row : Node) → is_true (evaluate (joined e es) row) ≡ all_true (e ∷ es) row
joined_true e [] row = and_true (is_true (evaluate e row))
joined_true e (f ∷ fs) row =
    joined_true (conjunction e f) fs row ∙ ap (λ b. b && all_true fs row) (and_holds (evaluate e row) (evaluate f row)) ∙ and_assoc (is_true (evaluate e row)) (is_true (evaluate f row)) (all_true fs row)

abbrev kept_by : List (List Step) → (Node → Bool) → Node → Option Node
kept_by ps test n = kept_along (longest_chain ps) test n

no_conjuncts : (e : Expression) → conjuncts e ≡ [] → ⊥
no_conjuncts (conjunction a b) h = by_first (conjuncts a) refl h (no_conjuncts a)
  where
    by_first : (es : List Expression) → conjuncts a ≡ es → es ++ conjuncts b ≡ [] → (conjuncts a ≡ [] → ⊥) → ⊥
    by_first [] e k g = g e
    by_first (f ∷ fs) e k g = cc
no_conjuncts (constant v) h = cc
no_conjuncts (path_value p) h = cc
no_conjuncts (negative e) h = cc
no_conjuncts (arithmetic o a b) h = cc
no_conjuncts (comparison c a b) h = cc
no_conjuncts (like e t) h = cc
no_conjuncts (contains e t) h = cc
no_conjuncts (is_null e) h = cc
no_conjuncts (negation e) h = cc
no_conjuncts (disjunction a b) h = cc

kept_rejoined : (e : Expression) (n : Node) → kept (all_of (conjuncts e)) n ≡ kept (Some e) n
kept_rejoined e n = by_list (conjuncts e) refl
  where
    by_list : (es : List Expression) → conjuncts e ≡ es → kept (all_of es) n ≡ kept (Some e) n
    by_list [] h = absurd (no_conjuncts e h)
    by_list (f ∷ fs) h =
        ap₂ (λ ps test. kept_by ps test n) (joined_paths f fs ∙ ap (flat_map paths_of) (sym h) ∙ conjuncts_have_paths e)
        (fun_ext (λ (row : Node). joined_true f fs row ∙ ap (λ gs. all_true gs row) (sym h) ∙ sym (true_where_each_is e row)))

condition_rejoined : (c : Option Expression) (n : Node) → kept (all_of (condition_conjuncts c)) n ≡ kept c n
condition_rejoined None n = refl
condition_rejoined (Some e) n = kept_rejoined e n

pub rejoined_means_same : RejoinedMeansSame
unfolding meaning
rejoined_means_same fs q R = ap (λ f. selected q.selection (levels_of fs) (filter_map f R)) (fun_ext (λ (n : Node). condition_rejoined q.condition n))

-- What binding an expression tells: its type where its paths and operators keep their rules, and else just the rules that are broken.
use Rattle.std.proofs.Common.{◌≡◌, ◌⊎◌, inl, inr, ℕ, List, [], ◌∷◌, ◌++◌, Option, Some, None, refl, sym, ap, ap₂, ◌∙◌, subst}
use Rattle.dr_meaning.specs.Schema.{Kind, Fields, Shape, leaf, group}
use Rattle.dr_meaning.specs.Path.{Found, find_path, leaf_at, found_leaf}
use Rattle.dr_meaning.specs.Expression.{Expression, is_null as is_null_expression}
use Rattle.dr_meaning.specs.Syntax.{PathSyntax, ExpressionSyntax, number_literal, text_literal, truth_literal, path, negative, arithmetic, comparison, like, contains, is_null, negation, conjunction, disjunction}
use Rattle.dr_meaning.specs.BoundExpression.{BindProblem, unknown_table, unknown_field, not_a_leaf, type_mismatch, unrelated, bad_within, not_grouped, duplicate_name, BindFault, Checked, passes, fails, checked_map, ValueType, kind_type, null_test_type, BoundPath, BoundExpression, at_place, bind_path, path_expression, operator, one_operand, two_operands, bind_expression}
use Rattle.dr_query_laws.specs.BindingRules.{LeadsToLeaf, MakesOfOne, MakesOfTwo, HasType, MisusesOne, MisusesTwo, IsPathProblem, IsMismatch, IsBrokenIn}

-- ---- faults among faults

abbrev pub Among : BindFault → List BindFault → Type 0
Among f [] = ⊥
Among f (g ∷ gs) = (g ≡ f) ⊎ Among f gs

pub among_left : (f : BindFault) (fs gs : List BindFault) → Among f fs → Among f (fs ++ gs)
among_left f [] gs h = absurd h
among_left f (g ∷ fs) gs (inl e) = inl e
among_left f (g ∷ fs) gs (inr h) = inr (among_left f fs gs h)

pub among_right : (f : BindFault) (fs gs : List BindFault) → Among f gs → Among f (fs ++ gs)
among_right f [] gs h = h
among_right f (g ∷ fs) gs h = inr (among_right f fs gs h)

pub among_either : (f : BindFault) (fs gs : List BindFault) → Among f (fs ++ gs) → Among f fs ⊎ Among f gs
among_either f [] gs h = inr h
among_either f (g ∷ fs) gs (inl e) = inl (inl e)
among_either f (g ∷ fs) gs (inr h) = by_part (among_either f fs gs h)
  where
    by_part : Among f fs ⊎ Among f gs → Among f (g ∷ fs) ⊎ Among f gs
    by_part (inl k) = inl (inr k)
    by_part (inr k) = inr k

-- ---- what is told

abbrev pub Rule : Type 1
Rule = BindProblem → ℕ → Type 0

-- of what passes the value has just its type, and no rule is broken; of what fails it has none, and the faults are just the rules that are broken
abbrev pub Tells : (ValueType → Type 0) → Rule → Checked BoundExpression → Type 0
Tells Has Broken (passes b) = Has b.gives × ((t : ValueType) → Has t → t ≡ b.gives) × ((p : BindProblem) (i : ℕ) → Broken p i → ⊥)
Tells Has Broken (fails e es) = ((t : ValueType) → Has t → ⊥) × ((f : BindFault) → Among f (e ∷ es) → Broken f.problem f.place)
    × ((p : BindProblem) (i : ℕ) → Broken p i → Among (record { place = i; problem = p }) (e ∷ es))

none_some : {A B : Type 0} (o : Option A) (a : A) → o ≡ None → o ≡ Some a → B
none_some None a h k = absurd (cc)
none_some (Some b) a h k = absurd (cc)

same_some : {A : Type 0} (a b : A) → Some a ≡ Some b → a ≡ b
same_some a b h = cc

-- ---- operators

one_told : (j : ℕ) (rule : ValueType → Option ValueType) (make : Expression → Expression) (Has : ValueType → Type 0) (Broken : Rule) (c : Checked BoundExpression) → Tells Has Broken c
    → Tells (MakesOfOne rule Has) (λ p i. IsMismatch j (MisusesOne rule Has) p i ⊎ Broken p i) (one_operand j rule make c)
one_told j rule make Has Broken (fails e es) h = (λ t k. h.0 k.0 k.1, λ f k. inr (h.1 f k), told)
  where
    told : (p : BindProblem) (i : ℕ) → IsMismatch j (MisusesOne rule Has) p i ⊎ Broken p i → Among (record { place = i; problem = p }) (e ∷ es)
    told p i (inl k) = absurd (h.0 k.2.0 k.2.1)
    told p i (inr k) = h.2 p i k
one_told j rule make Has Broken (passes b) h = by_rule (rule b.gives) refl
  where
    unbroken : {A : Type 0} (p : BindProblem) (i : ℕ) → Broken p i → A
    unbroken p i k = absurd (h.2 p i k)

    fits : (o : Option ValueType) → rule b.gives ≡ o → (t : ValueType) → MakesOfOne rule Has t → o ≡ Some t
    fits o e t k = sym e ∙ ap rule (sym (h.1 k.0 k.1)) ∙ k.2

    misfits : (o : Option ValueType) → rule b.gives ≡ o → MisusesOne rule Has → o ≡ None
    misfits o e k = sym e ∙ ap rule (sym (h.1 k.0 k.1)) ∙ k.2

    by_rule : (o : Option ValueType) → rule b.gives ≡ o
        → Tells (MakesOfOne rule Has) (λ p i. IsMismatch j (MisusesOne rule Has) p i ⊎ Broken p i) (operator j o (make b.expression) b.paths)
    by_rule None e = (λ t k. none_some None t refl (fits None e t k), here, told)
      where
        here : (f : BindFault) → Among f (record { place = j; problem = type_mismatch } ∷ []) → IsMismatch j (MisusesOne rule Has) f.problem f.place ⊎ Broken f.problem f.place
        here f (inl k) = inl (ap (λ (x : BindFault). x.place) k, sym (ap (λ (x : BindFault). x.problem) k), (b.gives, h.0, e))
        here f (inr k) = absurd k

        told : (p : BindProblem) (i : ℕ) → IsMismatch j (MisusesOne rule Has) p i ⊎ Broken p i → Among (record { place = i; problem = p }) (record { place = j; problem = type_mismatch } ∷ [])
        told p i (inl k) = inl (ap₂ (λ (x : ℕ) (y : BindProblem). record { place = x; problem = y }) k.0 (sym k.1))
        told p i (inr k) = unbroken p i k
    by_rule (Some t) e = ((b.gives, h.0, e), λ u k. sym (same_some t u (fits (Some t) e u k)), told)
      where
        told : (p : BindProblem) (i : ℕ) → IsMismatch j (MisusesOne rule Has) p i ⊎ Broken p i → ⊥
        told p i (inl k) = none_some (Some t) t (misfits (Some t) e k.2) refl
        told p i (inr k) = h.2 p i k

two_told : (j : ℕ) (rule : ValueType → ValueType → Option ValueType) (make : Expression → Expression → Expression) (Has Has' : ValueType → Type 0) (Broken Broken' : Rule) (c d : Checked BoundExpression)
    → Tells Has Broken c → Tells Has' Broken' d
    → Tells (MakesOfTwo rule Has Has') (λ p i. IsMismatch j (MisusesTwo rule Has Has') p i ⊎ (Broken p i ⊎ Broken' p i)) (two_operands j rule make c d)
two_told j rule make Has Has' Broken Broken' (fails e es) (fails g gs) h k = (λ t m. h.0 m.0 m.2, here, told)
  where
    here : (f : BindFault) → Among f (e ∷ (es ++ g ∷ gs)) → IsMismatch j (MisusesTwo rule Has Has') f.problem f.place ⊎ (Broken f.problem f.place ⊎ Broken' f.problem f.place)
    here f m = by_part (among_either f (e ∷ es) (g ∷ gs) m)
      where
        by_part : Among f (e ∷ es) ⊎ Among f (g ∷ gs) → IsMismatch j (MisusesTwo rule Has Has') f.problem f.place ⊎ (Broken f.problem f.place ⊎ Broken' f.problem f.place)
        by_part (inl x) = inr (inl (h.1 f x))
        by_part (inr x) = inr (inr (k.1 f x))

    told : (p : BindProblem) (i : ℕ) → IsMismatch j (MisusesTwo rule Has Has') p i ⊎ (Broken p i ⊎ Broken' p i) → Among (record { place = i; problem = p }) (e ∷ (es ++ g ∷ gs))
    told p i (inl m) = absurd (h.0 m.2.0 m.2.2)
    told p i (inr (inl m)) = among_left (record { place = i; problem = p }) (e ∷ es) (g ∷ gs) (h.2 p i m)
    told p i (inr (inr m)) = among_right (record { place = i; problem = p }) (e ∷ es) (g ∷ gs) (k.2 p i m)
two_told j rule make Has Has' Broken Broken' (fails e es) (passes b) h k = (λ t m. h.0 m.0 m.2, λ f m. inr (inl (h.1 f m)), told)
  where
    told : (p : BindProblem) (i : ℕ) → IsMismatch j (MisusesTwo rule Has Has') p i ⊎ (Broken p i ⊎ Broken' p i) → Among (record { place = i; problem = p }) (e ∷ es)
    told p i (inl m) = absurd (h.0 m.2.0 m.2.2)
    told p i (inr (inl m)) = h.2 p i m
    told p i (inr (inr m)) = absurd (k.2 p i m)
two_told j rule make Has Has' Broken Broken' (passes a) (fails g gs) h k = (λ t m. k.0 m.1 m.3, λ f m. inr (inr (k.1 f m)), told)
  where
    told : (p : BindProblem) (i : ℕ) → IsMismatch j (MisusesTwo rule Has Has') p i ⊎ (Broken p i ⊎ Broken' p i) → Among (record { place = i; problem = p }) (g ∷ gs)
    told p i (inl m) = absurd (k.0 m.2.1 m.2.3)
    told p i (inr (inl m)) = absurd (h.2 p i m)
    told p i (inr (inr m)) = k.2 p i m
two_told j rule make Has Has' Broken Broken' (passes a) (passes b) h k = by_rule (rule a.gives b.gives) refl
  where
    fits : (o : Option ValueType) → rule a.gives b.gives ≡ o → (t : ValueType) → MakesOfTwo rule Has Has' t → o ≡ Some t
    fits o e t m = sym e ∙ ap₂ rule (sym (h.1 m.0 m.2)) (sym (k.1 m.1 m.3)) ∙ m.4

    misfits : (o : Option ValueType) → rule a.gives b.gives ≡ o → MisusesTwo rule Has Has' → o ≡ None
    misfits o e m = sym e ∙ ap₂ rule (sym (h.1 m.0 m.2)) (sym (k.1 m.1 m.3)) ∙ m.4

    by_rule : (o : Option ValueType) → rule a.gives b.gives ≡ o
        → Tells (MakesOfTwo rule Has Has') (λ p i. IsMismatch j (MisusesTwo rule Has Has') p i ⊎ (Broken p i ⊎ Broken' p i)) (operator j o (make a.expression b.expression) (a.paths ++ b.paths))
    by_rule None e = (λ t m. none_some None t refl (fits None e t m), here, told)
      where
        here : (f : BindFault) → Among f (record { place = j; problem = type_mismatch } ∷ []) → IsMismatch j (MisusesTwo rule Has Has') f.problem f.place ⊎ (Broken f.problem f.place ⊎ Broken' f.problem f.place)
        here f (inl m) = inl (ap (λ (x : BindFault). x.place) m, sym (ap (λ (x : BindFault). x.problem) m), (a.gives, b.gives, h.0, k.0, e))
        here f (inr m) = absurd m

        told : (p : BindProblem) (i : ℕ) → IsMismatch j (MisusesTwo rule Has Has') p i ⊎ (Broken p i ⊎ Broken' p i) → Among (record { place = i; problem = p }) (record { place = j; problem = type_mismatch } ∷ [])
        told p i (inl m) = inl (ap₂ (λ (x : ℕ) (y : BindProblem). record { place = x; problem = y }) m.0 (sym m.1))
        told p i (inr (inl m)) = absurd (h.2 p i m)
        told p i (inr (inr m)) = absurd (k.2 p i m)
    by_rule (Some t) e = ((a.gives, b.gives, h.0, k.0, e), λ u m. sym (same_some t u (fits (Some t) e u m)), told)
      where
        told : (p : BindProblem) (i : ℕ) → IsMismatch j (MisusesTwo rule Has Has') p i ⊎ (Broken p i ⊎ Broken' p i) → ⊥
        told p i (inl m) = none_some (Some t) t (misfits (Some t) e m.2) refl
        told p i (inr (inl m)) = h.2 p i m
        told p i (inr (inr m)) = k.2 p i m

-- ---- paths

-- a path's fault is just the problem that it has
abbrev pub PathTells : Fields → PathSyntax → Checked BoundPath → Type 0
PathTells fs x (passes b) = LeadsToLeaf fs x b.leaf.kind × ((k : Kind) → LeadsToLeaf fs x k → k ≡ b.leaf.kind) × ((p : BindProblem) → IsPathProblem fs x p → ⊥)
PathTells fs x (fails e es) = ((k : Kind) → LeadsToLeaf fs x k → ⊥) × (es ≡ []) × (e.place ≡ x.place) × IsPathProblem fs x e.problem × ((p : BindProblem) → IsPathProblem fs x p → p ≡ e.problem)

same_kind : (j k : Kind) → leaf j ≡ leaf k → j ≡ k
same_kind j k h = cc

no_group : {A : Type 0} (k : Kind) (fs : Fields) → leaf k ≡ group fs → A
no_group k fs h = absurd (cc)

pub path_told : (fs : Fields) (x : PathSyntax) → PathTells fs x (bind_path fs x)
path_told fs x = by_found (find_path x.names fs) refl
  where
    by_found : (o : Option Found) → find_path x.names fs ≡ o → PathTells fs x (at_place x.place (found_leaf x.names o))
    by_found None e = (λ k l. none_some None l.0 refl (sym e ∙ l.1), refl, refl, e, only)
      where
        only : (p : BindProblem) → IsPathProblem fs x p → p ≡ unknown_field
        only unknown_field h = refl
        only not_a_leaf h = none_some None h.0 refl (sym e ∙ h.2)
        only unknown_table h = absurd h
        only type_mismatch h = absurd h
        only unrelated h = absurd h
        only bad_within h = absurd h
        only not_grouped h = absurd h
        only duplicate_name h = absurd h
    by_found (Some f) e = by_shape f.shape refl
      where
        found : (g : Found) → find_path x.names fs ≡ Some g → g.shape ≡ f.shape
        found g h = ap (λ (y : Found). y.shape) (same_some g f (sym h ∙ e))

        by_shape : (s : Shape) → f.shape ≡ s → PathTells fs x (at_place x.place (leaf_at x.names f.path s))
        by_shape (leaf k) h = ((f, e, h), λ j l. same_kind j k (sym l.2 ∙ found l.0 l.1 ∙ h), unbroken)
          where
            unbroken : (p : BindProblem) → IsPathProblem fs x p → ⊥
            unbroken unknown_field m = none_some (find_path x.names fs) f m e
            unbroken not_a_leaf m = no_group k m.1 (sym h ∙ sym (found m.0 m.2) ∙ m.3)
            unbroken unknown_table m = m
            unbroken type_mismatch m = m
            unbroken unrelated m = m
            unbroken bad_within m = m
            unbroken not_grouped m = m
            unbroken duplicate_name m = m
        by_shape (group inner) h = (λ j l. no_group j inner (sym l.2 ∙ found l.0 l.1 ∙ h), refl, refl, (f, inner, e, h), only)
          where
            only : (p : BindProblem) → IsPathProblem fs x p → p ≡ not_a_leaf
            only unknown_field m = none_some (find_path x.names fs) f m e
            only not_a_leaf m = refl
            only unknown_table m = absurd m
            only type_mismatch m = absurd m
            only unrelated m = absurd m
            only bad_within m = absurd m
            only not_grouped m = absurd m
            only duplicate_name m = absurd m

path_value_told : (fs : Fields) (x : PathSyntax) (c : Checked BoundPath) → PathTells fs x c → Tells (HasType fs (path x)) (IsBrokenIn fs (path x)) (checked_map path_expression c)
path_value_told fs x (passes b) h = ((b.leaf.kind, h.0, refl), λ t k. k.2 ∙ ap kind_type (h.1 k.0 k.1), λ p i k. h.2 p k.1)
path_value_told fs x (fails e es) h = (λ t k. h.0 k.0 k.1, here, told)
  where
    here : (f : BindFault) → Among f (e ∷ es) → IsBrokenIn fs (path x) f.problem f.place
    here f (inl k) = (sym h.2 ∙ ap (λ (y : BindFault). y.place) k, subst (IsPathProblem fs x) (ap (λ (y : BindFault). y.problem) k) h.3)
    here f (inr k) = absurd (subst (Among f) h.1 k)

    told : (p : BindProblem) (i : ℕ) → IsBrokenIn fs (path x) p i → Among (record { place = i; problem = p }) (e ∷ es)
    told p i k = inl (ap₂ (λ (a : ℕ) (b : BindProblem). record { place = a; problem = b }) (h.2 ∙ k.0) (sym (h.4 p k.1)))

-- ---- the law of expressions

pub expression_told : (fs : Fields) (e : ExpressionSyntax) → Tells (HasType fs e) (IsBrokenIn fs e) (bind_expression fs e)
expression_told fs (number_literal n) = (refl, λ t h. h, λ p i h. h)
expression_told fs (text_literal s) = (refl, λ t h. h, λ p i h. h)
expression_told fs (truth_literal b) = (refl, λ t h. h, λ p i h. h)
expression_told fs (path x) = path_value_told fs x (bind_path fs x) (path_told fs x)
expression_told fs (negative j e) = one_told j _ _ (HasType fs e) (IsBrokenIn fs e) (bind_expression fs e) (expression_told fs e)
expression_told fs (arithmetic j o a b) = two_told j _ _ (HasType fs a) (HasType fs b) (IsBrokenIn fs a) (IsBrokenIn fs b) (bind_expression fs a) (bind_expression fs b) (expression_told fs a) (expression_told fs b)
expression_told fs (comparison j c a b) = two_told j _ _ (HasType fs a) (HasType fs b) (IsBrokenIn fs a) (IsBrokenIn fs b) (bind_expression fs a) (bind_expression fs b) (expression_told fs a) (expression_told fs b)
expression_told fs (like j e s) = one_told j _ _ (HasType fs e) (IsBrokenIn fs e) (bind_expression fs e) (expression_told fs e)
expression_told fs (contains j e s) = one_told j _ _ (HasType fs e) (IsBrokenIn fs e) (bind_expression fs e) (expression_told fs e)
expression_told fs (is_null j e) = one_told j null_test_type is_null_expression (HasType fs e) (IsBrokenIn fs e) (bind_expression fs e) (expression_told fs e)
expression_told fs (negation j e) = one_told j _ _ (HasType fs e) (IsBrokenIn fs e) (bind_expression fs e) (expression_told fs e)
expression_told fs (conjunction j a b) = two_told j _ _ (HasType fs a) (HasType fs b) (IsBrokenIn fs a) (IsBrokenIn fs b) (bind_expression fs a) (bind_expression fs b) (expression_told fs a) (expression_told fs b)
expression_told fs (disjunction j a b) = two_told j _ _ (HasType fs a) (HasType fs b) (IsBrokenIn fs a) (IsBrokenIn fs b) (bind_expression fs a) (bind_expression fs b) (expression_told fs a) (expression_told fs b)

-- Conjuncts joined as the expression joins them are the expression.
use Rattle.std.proofs.Common.{◌≡◌, ℕ, ◌+◌, List, [], ◌∷◌, ◌++◌, length, Option, Some, None, refl, sym, ap, ap₂, ◌∙◌, append-nil, append_assoc, length-append}
use Rattle.std.specs.List.{slice_get}
use Rattle.dr_meaning.specs.Expression.{Expression, constant, path_value, negative, arithmetic, comparison, like, contains, is_null, negation, conjunction, disjunction}
use Rattle.dr_meaning.specs.Query.{Query}
use Rattle.dr_plan.specs.Conjuncts.{conjuncts, condition_conjuncts, joining_from, condition_joining, condition_written, or_true, rejoined, RejoinedIsSame}
use Rattle.dr_plan.specs.Planned.{PlanKeepsQuery}

-- what stands behind so many others has their number
pub at_number : (before : List Expression) (e : Expression) (behind : List Expression) (n : ℕ) → n ≡ length before → or_true (slice_get (before ++ e ∷ behind) n) ≡ e
at_number before e behind n h = ap (λ k. or_true (slice_get (before ++ e ∷ behind) k)) h ∙ at_length before
  where
    at_length : (es : List Expression) → or_true (slice_get (es ++ e ∷ behind) (length es)) ≡ e
    at_length [] = refl
    at_length (f ∷ fs) = at_length fs

-- the same where others stand before and behind its conjuncts
rejoined_among : (e : Expression) (before behind : List Expression) (n : ℕ) → n ≡ length before → rejoined (before ++ (conjuncts e ++ behind)) (joining_from n e) ≡ e
rejoined_among (conjunction a b) before behind n h =
    ap₂ conjunction
    (ap (λ es. rejoined (before ++ es) (joining_from n a)) (append_assoc (conjuncts a) (conjuncts b) behind) ∙ rejoined_among a before (conjuncts b ++ behind) n h)
    (ap (λ es. rejoined es (joining_from (n + length (conjuncts a)) b))
    (ap (λ es. before ++ es) (append_assoc (conjuncts a) (conjuncts b) behind) ∙ sym (append_assoc before (conjuncts a) (conjuncts b ++ behind)))
    ∙ rejoined_among b (before ++ conjuncts a) behind (n + length (conjuncts a)) (ap (λ k. k + length (conjuncts a)) h ∙ sym (length-append before (conjuncts a))))
rejoined_among (constant v) before behind n h = at_number before (constant v) behind n h
rejoined_among (path_value p) before behind n h = at_number before (path_value p) behind n h
rejoined_among (negative e) before behind n h = at_number before (negative e) behind n h
rejoined_among (arithmetic o a b) before behind n h = at_number before (arithmetic o a b) behind n h
rejoined_among (comparison c a b) before behind n h = at_number before (comparison c a b) behind n h
rejoined_among (like e t) before behind n h = at_number before (like e t) behind n h
rejoined_among (contains e t) before behind n h = at_number before (contains e t) behind n h
rejoined_among (is_null e) before behind n h = at_number before (is_null e) behind n h
rejoined_among (negation e) before behind n h = at_number before (negation e) behind n h
rejoined_among (disjunction a b) before behind n h = at_number before (disjunction a b) behind n h

pub rejoined_is_same : RejoinedIsSame
rejoined_is_same e = ap (λ es. rejoined es (joining_from 0 e)) (sym (append-nil (conjuncts e))) ∙ rejoined_among e [] [] 0 refl

condition_is_same : (c : Option Expression) → condition_written (condition_conjuncts c) (condition_joining c) ≡ c
condition_is_same None = refl
condition_is_same (Some e) = ap (λ (x : Expression). Some x) (rejoined_is_same e)

abbrev with_condition : Query → Option Expression → Query
with_condition q c = record { condition = c; selection = q.selection }

pub plan_keeps_query : PlanKeepsQuery
plan_keeps_query fs q = ap (with_condition q) (condition_is_same q.condition)

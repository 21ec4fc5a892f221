-- The faults of all rules are just the rules that are broken, and binding tells the first.
use Rattle.std.proofs.Common.{◌≡◌, ◌⊎◌, inl, inr, ℕ, zero, suc, List, [], ◌∷◌, ◌++◌, Bool, false, refl, sym, ap, ap₂, ◌∙◌, subst, arith}
use Rattle.std.specs.Prelude.{◌==◌, ◌&&◌, ◌||◌, nat_lt, if◌then◌else◌, Result, Ok, Err}
use Rattle.std.specs.List.{flat_map}
use Rattle.std.proofs.lemmas.Bool.Decides.{nat_tests}
use Rattle.dr_meaning.specs.Schema.{Schema}
use Rattle.dr_meaning.specs.Query.{Query, levels_of}
use Rattle.dr_meaning.specs.Syntax.{QuerySyntax}
use Rattle.dr_meaning.specs.BoundExpression.{BindProblem, unknown_table, unknown_field, not_a_leaf, type_mismatch, unrelated, bad_within, not_grouped, duplicate_name, BindFault}
use Rattle.dr_meaning.specs.Binding.{BoundItem, BoundParts, bind_parts, passing, within_faults, grouping_faults, duplicate_faults, table_faults, part_faults, unrelated_faults, item_faults, rank, is_before, bind}
use Rattle.dr_meaning.specs.BindingLaws.{faults_of, IsFirst}
use Rattle.dr_meaning.proofs.BindingFaultLemmas.{first_fault_is_told, bound_is, bound_without_fault}
use Rattle.dr_query_laws.specs.BindingRules.{IsBrokenPart}
use Rattle.dr_query_laws.specs.QueryRules.{Passes, IsUnrelated, IsBadWithin, IsNotGrouped, IsDuplicate, IsBroken, NoneBefore, ToldIsFirst, BoundIsUnbroken}
use Rattle.dr_query_laws.proofs.RulesOfExpressions.{Among, Rule}
use Rattle.dr_query_laws.proofs.RulesOfQueries.{At, Exact, exact_append, exact_as, TableRule, of_table, of_parts, among_at, at_among, not_of_part}
use Rattle.dr_query_laws.proofs.RulesOfPaths.{Told, unrelated_told}
use Rattle.dr_query_laws.proofs.RulesOfItems.{withins_told, grouping_told}
use Rattle.dr_query_laws.proofs.RulesOfNames.{names_told}

-- ---- the rules, in the order of the faults

abbrev PartRule : Schema → QuerySyntax → Rule
PartRule s q p i = TableRule s q p i ⊎ IsBrokenPart s.fields q p i

abbrev PathRule : Schema → QuerySyntax → Rule
PathRule s q p i = PartRule s q p i ⊎ Told unrelated (IsUnrelated s.fields q) p i

abbrev ItemsRule : Schema → QuerySyntax → Rule
ItemsRule s q p i = Told bad_within (IsBadWithin s.fields q) p i ⊎ Told not_grouped (IsNotGrouped s.fields q) p i

abbrev AllRule : Schema → QuerySyntax → Rule
AllRule s q p i = (PathRule s q p i ⊎ ItemsRule s q p i) ⊎ Told duplicate_name (IsDuplicate s.fields q) p i

parts_told : (s : Schema) (q : QuerySyntax) → Exact (PartRule s q) (table_faults s.name q.table ++ part_faults (bind_parts s.fields q))
parts_told s q = exact_append (TableRule s q) (IsBrokenPart s.fields q) (table_faults s.name q.table) (part_faults (bind_parts s.fields q)) (of_table s q) (of_parts s q)

items_told : (s : Schema) (q : QuerySyntax) → Exact (ItemsRule s q) (item_faults (bind_parts s.fields q))
items_told s q =
    let b : BoundParts = bind_parts s.fields q in
    exact_append (Told bad_within (IsBadWithin s.fields q)) (Told not_grouped (IsNotGrouped s.fields q)) (flat_map (λ (i : BoundItem). within_faults i.term) (passing b.items))
    (if b.is_record_query then [] else flat_map (grouping_faults (passing b.keys)) (passing b.items)) (withins_told s.fields q) (grouping_told s.fields q)

all_told : (s : Schema) (q : QuerySyntax) → Exact (AllRule s q) (faults_of s q)
all_told s q =
    let b : BoundParts = bind_parts s.fields q in
    let front : List BindFault = table_faults s.name q.table ++ part_faults b in
    exact_append (λ p i. PathRule s q p i ⊎ ItemsRule s q p i) (Told duplicate_name (IsDuplicate s.fields q)) ((front ++ unrelated_faults b) ++ item_faults b)
    (duplicate_faults (levels_of s.fields) b.is_record_query (passing b.items))
    (exact_append (PathRule s q) (ItemsRule s q) (front ++ unrelated_faults b) (item_faults b)
    (exact_append (PartRule s q) (Told unrelated (IsUnrelated s.fields q)) front (unrelated_faults b) (parts_told s q) (unrelated_told s.fields q)) (items_told s q))
    (names_told s.fields q)

-- ---- a part's problems are its own

broken_part : (s : Schema) (q : QuerySyntax) (p : BindProblem) (i : ℕ) → IsBrokenPart s.fields q p i → IsBroken s q p i
broken_part s q unknown_field i m = m
broken_part s q not_a_leaf i m = m
broken_part s q type_mismatch i m = m
broken_part s q unknown_table i m = absurd (not_of_part unknown_table ((λ h. absurd (cc)), (λ h. absurd (cc)), λ fs x k. k) s.fields q i m)
broken_part s q unrelated i m = absurd (not_of_part unrelated ((λ h. absurd (cc)), (λ h. absurd (cc)), λ fs x k. k) s.fields q i m)
broken_part s q bad_within i m = absurd (not_of_part bad_within ((λ h. absurd (cc)), (λ h. absurd (cc)), λ fs x k. k) s.fields q i m)
broken_part s q not_grouped i m = absurd (not_of_part not_grouped ((λ h. absurd (cc)), (λ h. absurd (cc)), λ fs x k. k) s.fields q i m)
broken_part s q duplicate_name i m = absurd (not_of_part duplicate_name ((λ h. absurd (cc)), (λ h. absurd (cc)), λ fs x k. k) s.fields q i m)

told_broken : (s : Schema) (q : QuerySyntax) (r : BindProblem) (Is : ℕ → Type 0) (p : BindProblem) (i : ℕ) → (Is i → IsBroken s q r i) → Told r Is p i → IsBroken s q p i
told_broken s q r Is p i f m = subst (λ x. IsBroken s q x i) (sym m.0) (f m.1)

all_broken : (s : Schema) (q : QuerySyntax) (p : BindProblem) (i : ℕ) → AllRule s q p i → IsBroken s q p i
all_broken s q p i (inl (inl (inl (inl m)))) = subst (λ x. IsBroken s q x i) (sym m.0) m.1
all_broken s q p i (inl (inl (inl (inr m)))) = broken_part s q p i m
all_broken s q p i (inl (inl (inr m))) = told_broken s q unrelated (IsUnrelated s.fields q) p i (λ k. k) m
all_broken s q p i (inl (inr (inl m))) = told_broken s q bad_within (IsBadWithin s.fields q) p i (λ k. k) m
all_broken s q p i (inl (inr (inr m))) = told_broken s q not_grouped (IsNotGrouped s.fields q) p i (λ k. k) m
all_broken s q p i (inr m) = told_broken s q duplicate_name (IsDuplicate s.fields q) p i (λ k. k) m

broken_all : (s : Schema) (q : QuerySyntax) (p : BindProblem) (i : ℕ) → IsBroken s q p i → AllRule s q p i
broken_all s q unknown_table i m = inl (inl (inl (inl (refl, m))))
broken_all s q unknown_field i m = inl (inl (inl (inr m)))
broken_all s q not_a_leaf i m = inl (inl (inl (inr m)))
broken_all s q type_mismatch i m = inl (inl (inl (inr m)))
broken_all s q unrelated i m = inl (inl (inr (refl, m)))
broken_all s q bad_within i m = inl (inr (inl (refl, m)))
broken_all s q not_grouped i m = inl (inr (inr (refl, m)))
broken_all s q duplicate_name i m = inr (refl, m)

-- the faults of all rules are just the rules that are broken
pub faults_are_broken_rules : (s : Schema) (q : QuerySyntax) → Exact (IsBroken s q) (faults_of s q)
faults_are_broken_rules s q = exact_as (AllRule s q) (IsBroken s q) (faults_of s q) (all_broken s q) (broken_all s q) (all_told s q)

-- ---- of two faults neither of which is before the other

abbrev problem_of : ℕ → BindProblem
problem_of zero = unknown_table
problem_of (suc zero) = unknown_field
problem_of (suc (suc zero)) = not_a_leaf
problem_of (suc (suc (suc zero))) = type_mismatch
problem_of (suc (suc (suc (suc zero)))) = unrelated
problem_of (suc (suc (suc (suc (suc zero))))) = bad_within
problem_of (suc (suc (suc (suc (suc (suc zero)))))) = not_grouped
problem_of n = duplicate_name

rank_back : (p : BindProblem) → problem_of (rank p) ≡ p
rank_back unknown_table = refl
rank_back unknown_field = refl
rank_back not_a_leaf = refl
rank_back type_mismatch = refl
rank_back unrelated = refl
rank_back bad_within = refl
rank_back not_grouped = refl
rank_back duplicate_name = refl

same_rank : (p r : BindProblem) → rank p ≡ rank r → p ≡ r
same_rank p r h = sym (rank_back p) ∙ ap problem_of h ∙ rank_back r

abbrev before : ℕ → ℕ → ℕ → ℕ → Bool
before a b c d = nat_lt a b || ((a == b) && nat_lt c d)

level_places : (a b c d : ℕ) → before a b c d ≡ false → before b a d c ≡ false → a ≡ b
level_places a b c d h k = grind (arith, nat_tests)

level_ranks : (a b c d : ℕ) → before a b c d ≡ false → before b a d c ≡ false → c ≡ d
level_ranks a b c d h k = grind (arith, nat_tests)

same_fault : (f g : BindFault) → is_before f g ≡ false → is_before g f ≡ false → f ≡ g
same_fault f g h k =
    ap₂ At (level_places f.place g.place (rank f.problem) (rank g.problem) h k)
    (same_rank f.problem g.problem (level_ranks f.place g.place (rank f.problem) (rank g.problem) h k))

-- ---- the laws

pub told_is_first : ToldIsFirst
told_is_first s q f = (to, back)
  where
    faults : List BindFault
    faults = faults_of s q

    told : (p : BindProblem) (i : ℕ) → IsBroken s q p i → Among (At i p) faults
    told p i m = (faults_are_broken_rules s q).1 p i m

    broken : (g : BindFault) → IsFirst g faults → IsBroken s q g.problem g.place
    broken g first = (faults_are_broken_rules s q).0 g (at_among g faults first.0.0 first.0.1)

    none_before : (g : BindFault) → IsFirst g faults → NoneBefore s q g
    none_before g first p i m = let k = among_at (At i p) faults (told p i m) in first.1 k.0 (At i p) k.1

    to : bind s q ≡ Err f → IsBroken s q f.problem f.place × NoneBefore s q f
    to e = let first = first_fault_is_told s q f e in (broken f first, none_before f first)

    by_outcome : (r : Result Query BindFault) → bind s q ≡ r → IsBroken s q f.problem f.place → NoneBefore s q f → bind s q ≡ Err f
    by_outcome (Ok b) e m none = absurd (subst (Among f) (bound_is s q b e).0 (told f.problem f.place m))
    by_outcome (Err g) e m none =
        let first = first_fault_is_told s q g e in
        e ∙ ap Err (same_fault g f (none g.problem g.place (broken g first)) (none_before g first f.problem f.place m))

    back : IsBroken s q f.problem f.place × NoneBefore s q f → bind s q ≡ Err f
    back m = by_outcome (bind s q) refl m.0 m.1

pub bound_is_unbroken : BoundIsUnbroken
bound_is_unbroken s q = (to, back)
  where
    to : (b : Query) × (bind s q ≡ Ok b) → Passes (IsBroken s q)
    to h p i m = subst (Among (At i p)) (bound_is s q h.0 h.1).0 ((faults_are_broken_rules s q).1 p i m)

    no_faults : (fs : List BindFault) → Exact (IsBroken s q) fs → Passes (IsBroken s q) → fs ≡ []
    no_faults [] e h = refl
    no_faults (f ∷ fs) e h = absurd (h f.problem f.place (e.0 f (inl refl)))

    back : Passes (IsBroken s q) → (b : Query) × (bind s q ≡ Ok b)
    back h = (bound_without_fault s q).1 (no_faults (faults_of s q) (faults_are_broken_rules s q) h)

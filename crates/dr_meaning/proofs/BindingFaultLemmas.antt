-- The first fault is one of all, none comes before it, and a query is bound exactly where there is none.
use Rattle.std.proofs.Common.{◌≡◌, ℕ, zero, suc, List, [], ◌∷◌, Bool, true, false, ◌&&◌, ◌||◌, Option, Some, None, refl, sym, ap, ◌∙◌, subst, arith}
use Rattle.std.specs.Prelude.{◌==◌, nat_lt, if◌then◌else◌, Ok, Err}
use Rattle.std.specs.List.{slice_get}
use Rattle.std.proofs.lemmas.Bool.Decides.{nat_tests}
use Rattle.dr_meaning.specs.Schema.{Schema}
use Rattle.dr_meaning.specs.Query.{Query}
use Rattle.dr_meaning.specs.Syntax.{QuerySyntax}
use Rattle.dr_meaning.specs.BoundExpression.{BindFault}
use Rattle.dr_meaning.specs.Binding.{bind_parts, rank, is_before, first_of, first_fault, query_of, unless_fault, bind}
use Rattle.dr_meaning.specs.BindingLaws.{faults_of, IsFirst, FirstFaultIsTold, BoundWithoutFault}

-- ---- by place, then by rank

abbrev before : ℕ → ℕ → ℕ → ℕ → Bool
before a b c d = nat_lt a b || ((a == b) && nat_lt c d)

before_itself : (a c : ℕ) → before a a c c ≡ false
before_itself a c = grind (arith, nat_tests)

before_back : (a b c d : ℕ) → before a b c d ≡ true → before b a d c ≡ false
before_back a b c d h = grind (arith, nat_tests)

-- what isn't before one that isn't before another isn't before that
before_none : (a b c d e f : ℕ) → before a b d e ≡ false → before b c e f ≡ false → before a c d f ≡ false
before_none a b c d e f h k = grind (arith, nat_tests)

is_before-itself : (f : BindFault) → is_before f f ≡ false
is_before-itself f = before_itself f.place (rank f.problem)

is_before-back : (f g : BindFault) → is_before f g ≡ true → is_before g f ≡ false
is_before-back f g h = before_back f.place g.place (rank f.problem) (rank g.problem) h

is_before-none : (f g h : BindFault) → is_before f g ≡ false → is_before g h ≡ false → is_before f h ≡ false
is_before-none f g h a b = before_none f.place g.place h.place (rank f.problem) (rank g.problem) (rank h.problem) a b

-- ---- the first of a list

-- a fault before a list whose first one is known
first_of-here : (f g : BindFault) (fs : List BindFault) → IsFirst g fs → (b : Bool) → is_before g f ≡ b → IsFirst (if b then g else f) (f ∷ fs)
first_of-here f g fs h true e = ((suc h.0.0, h.0.1), others)
  where
    others : (i : ℕ) (k : BindFault) → slice_get (f ∷ fs) i ≡ Some k → is_before k g ≡ false
    others zero k w = let q : f ≡ k = cc in subst (λ (x : BindFault). is_before x g ≡ false) q (is_before-back g f e)
    others (suc i) k w = h.1 i k w
first_of-here f g fs h false e = ((0, refl), others)
  where
    others : (i : ℕ) (k : BindFault) → slice_get (f ∷ fs) i ≡ Some k → is_before k f ≡ false
    others zero k w = let q : f ≡ k = cc in subst (λ (x : BindFault). is_before x f ≡ false) q (is_before-itself f)
    others (suc i) k w = is_before-none k g f (h.1 i k w) e

alone : (f : BindFault) (fs : List BindFault) → fs ≡ [] → IsFirst f (f ∷ fs)
alone f fs e = ((0, refl), others)
  where
    nothing : (i : ℕ) (k : BindFault) → slice_get fs i ≡ Some k → ⊥
    nothing i k w = let q : slice_get {X = BindFault} [] i ≡ Some k = ap (λ (x : List BindFault). slice_get x i) (sym e) ∙ w in cc

    others : (i : ℕ) (k : BindFault) → slice_get (f ∷ fs) i ≡ Some k → is_before k f ≡ false
    others zero k w = let q : f ≡ k = cc in subst (λ (x : BindFault). is_before x f ≡ false) q (is_before-itself f)
    others (suc i) k w = absurd (nothing i k w)

none_is_empty : (fs : List BindFault) → first_fault fs ≡ None → fs ≡ []
none_is_empty [] h = refl
none_is_empty (f ∷ fs) h = absurd (cc)

first_is_first : (fs : List BindFault) (f : BindFault) → first_fault fs ≡ Some f → IsFirst f fs
first_is_first [] f h = absurd (cc)
first_is_first (g ∷ fs) f h = by_rest (first_fault fs) refl (first_is_first fs)
  where
    same : (k : BindFault) → Some k ≡ Some f → k ≡ f
    same k e = cc

    by_rest : (o : Option BindFault) → first_fault fs ≡ o → ((k : BindFault) → first_fault fs ≡ Some k → IsFirst k fs) → IsFirst f (g ∷ fs)
    by_rest None e r = subst (λ (x : BindFault). IsFirst x (g ∷ fs)) (same g (ap (λ o. Some (first_of g o)) (sym e) ∙ h)) (alone g fs (none_is_empty fs e))
    by_rest (Some k) e r =
        subst (λ (x : BindFault). IsFirst x (g ∷ fs)) (same (if is_before k g then k else g) (ap (λ o. Some (first_of g o)) (sym e) ∙ h))
        (first_of-here g k fs (r k e) (is_before k g) refl)

-- ---- binding

unless-told : {A : Type 0} (o : Option BindFault) (a : A) (f : BindFault) → unless_fault o a ≡ Err f → o ≡ Some f
unless-told None a f h = absurd (cc)
unless-told (Some g) a f h = let q : g ≡ f = cc in ap Some q

unless-given : {A : Type 0} (o : Option BindFault) (a b : A) → unless_fault o a ≡ Ok b → (o ≡ None) × (a ≡ b)
unless-given None a b h = let q : a ≡ b = cc in (refl, q)
unless-given (Some g) a b h = absurd (cc)

-- what is bound has no fault, and is made of the parts
pub bound_is : (s : Schema) (q : QuerySyntax) (b : Query) → bind s q ≡ Ok b → (faults_of s q ≡ []) × (query_of (bind_parts s.fields q) ≡ b)
unfolding bind
bound_is s q b h =
    let g : (first_fault (faults_of s q) ≡ None) × (query_of (bind_parts s.fields q) ≡ b) = unless-given (first_fault (faults_of s q)) (query_of (bind_parts s.fields q)) b h in
    (none_is_empty (faults_of s q) g.0, g.1)

pub first_fault_is_told : FirstFaultIsTold
unfolding bind
first_fault_is_told s q f h = first_is_first (faults_of s q) f (unless-told (first_fault (faults_of s q)) (query_of (bind_parts s.fields q)) f h)

pub bound_without_fault : BoundWithoutFault
unfolding bind
bound_without_fault s q = (λ (h : (b : Query) × (bind s q ≡ Ok b)). (bound_is s q h.0 h.1).0, λ (e : faults_of s q ≡ []). (query_of (bind_parts s.fields q), ap (λ (fs : List BindFault). unless_fault (first_fault fs) (query_of (bind_parts s.fields q))) e))

-- The first of several faults, by parts.
use Rattle.std.proofs.Common.{◌≡◌, ℕ, List, [], ◌∷◌, ◌++◌, Bool, true, false, Option, Some, None, refl, sym, ap, ◌∙◌, arith}
use Rattle.std.specs.Prelude.{◌==◌, ◌||◌, ◌&&◌, nat_lt, if◌then◌else◌}
use Rattle.std.proofs.lemmas.Bool.Decides.{nat_tests}
use Rattle.dr_meaning.specs.BoundExpression.{BindFault}
use Rattle.dr_meaning.specs.Binding.{rank, is_before, first_fault}
use Rattle.dr_resolve.specs.Faults.{earlier}

abbrev before : ℕ → ℕ → ℕ → ℕ → Bool
before a b c d = nat_lt a b || ((a == b) && nat_lt c d)

before_none : (a b c d e f : ℕ) → before a b d e ≡ false → before b c e f ≡ false → before a c d f ≡ false
before_none a b c d e f h k = grind (arith, nat_tests)

before_all : (a b c d e f : ℕ) → before a b d e ≡ true → before b c e f ≡ true → before a c d f ≡ true
before_all a b c d e f h k = grind (arith, nat_tests)

none_before : (f g h : BindFault) → is_before f g ≡ false → is_before g h ≡ false → is_before f h ≡ false
none_before f g h a b = before_none f.place g.place h.place (rank f.problem) (rank g.problem) (rank h.problem) a b

all_before : (f g h : BindFault) → is_before f g ≡ true → is_before g h ≡ true → is_before f h ≡ true
all_before f g h a b = before_all f.place g.place h.place (rank f.problem) (rank g.problem) (rank h.problem) a b

abbrev chosen : Bool → BindFault → BindFault → BindFault
chosen b g f = if b then g else f

three : (f g h : BindFault) (a b : Bool) → is_before g f ≡ a → is_before h g ≡ b
    → chosen (is_before h (chosen a g f)) h (chosen a g f) ≡ chosen (is_before (chosen b h g) f) (chosen b h g) f
three f g h true true e k = ap (λ x. chosen x h g) k ∙ sym (ap (λ x. chosen x h f) (all_before h g f k e))
three f g h true false e k = ap (λ x. chosen x h g) k ∙ sym (ap (λ x. chosen x g f) e)
three f g h false true e k = refl
three f g h false false e k = ap (λ x. chosen x h f) (none_before h g f k e) ∙ sym (ap (λ x. chosen x g f) e)

pub earlier_none : (f : Option BindFault) → earlier f None ≡ f
earlier_none None = refl
earlier_none (Some f) = refl

pub earlier_assoc : (f g h : Option BindFault) → earlier (earlier f g) h ≡ earlier f (earlier g h)
earlier_assoc None g h = refl
earlier_assoc (Some f) None h = refl
earlier_assoc (Some f) (Some g) None = refl
earlier_assoc (Some f) (Some g) (Some h) = ap (λ x. Some x) (three f g h (is_before g f) (is_before h g) refl refl)

-- of two lists
pub first_fault-append : (fs gs : List BindFault) → first_fault (fs ++ gs) ≡ earlier (first_fault fs) (first_fault gs)
first_fault-append [] gs = refl
first_fault-append (f ∷ fs) gs = ap (earlier (Some f)) (first_fault-append fs gs) ∙ sym (earlier_assoc (Some f) (first_fault fs) (first_fault gs))

-- behind faults that are noted already
pub noted_behind : (before between now : Option BindFault) (fs gs : List BindFault) → between ≡ earlier before (first_fault fs) → now ≡ earlier between (first_fault gs)
    → now ≡ earlier before (first_fault (fs ++ gs))
noted_behind before between now fs gs h k =
    k ∙ ap (λ x. earlier x (first_fault gs)) h ∙ earlier_assoc before (first_fault fs) (first_fault gs) ∙ ap (earlier before) (sym (first_fault-append fs gs))

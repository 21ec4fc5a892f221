-- Keeping strips one after another.
use Rattle.std.proofs.Common.{◌≡◌, List, [], ◌∷◌, ◌++◌, false, Option, Some, None, refl, sym, ap, subst, append_assoc, append-nil}
use Rattle.dr_assemble.specs.Restoring.{Strip}
use Rattle.dr_assemble.specs.Distinct.{is_again, AreDistinct, no_more, kept, kept_in_vain, passed, differs}
use Rattle.dr_assemble.specs.Comparing.{Compares}
use Rattle.dr_assemble.specs.declared.distinct.Beside.{Beside}

-- strips that are kept before others
abbrev pub kept_before : List Strip → Option (List Strip) → Option (List Strip)
kept_before K None = None
kept_before K (Some D) = Some (K ++ D)

pub kept_none : (o : Option (List Strip)) → kept_before [] o ≡ o
kept_none None = refl
kept_none (Some D) = refl

kept_more : (K : List Strip) (s : Strip) (o : Option (List Strip)) → kept_before K (kept_before (s ∷ []) o) ≡ kept_before (K ++ s ∷ []) o
kept_more K s None = refl
kept_more K s (Some D) = ap Some (sym (append_assoc K (s ∷ []) D))

is_new : (k : Option Strip) (s : Strip) → Compares k s Beside.New → is_again k s ≡ false
is_new None s h = refl
is_new (Some k) s h = h

-- a strip of another leaf is kept
pub keeps : (k : Option Strip) (s : Strip) (S : List Strip) (o : Option (List Strip)) → Compares k s Beside.New → AreDistinct (Some s) S o → AreDistinct k (s ∷ S) (kept_before (s ∷ []) o)
keeps k s S None h a = kept_in_vain k s S (is_new k s h) a
keeps k s S (Some D) h a = kept k s S D (is_new k s h) a

-- one of the same leaf isn't
pub passes_on : (k : Option Strip) (s : Strip) (S : List Strip) (o : Option (List Strip)) → Compares k s Beside.Same → AreDistinct k S o → AreDistinct k (s ∷ S) o
passes_on None s S o h a = absurd (cc)
passes_on (Some k) s S o h a = passed k s S o h.0 h.1 a

-- and where its triplets differ, none are
pub ends : (k : Option Strip) (s : Strip) (S : List Strip) → Compares k s Beside.Other → AreDistinct k (s ∷ S) None
ends None s S h = absurd (cc)
ends (Some k) s S h = differs k s S h.0 h.1

-- one strip further
pub one_kept : (T : List Strip) (K K' S' : List Strip) (k k' : Option Strip) (s : Strip) → K' ≡ K ++ s ∷ [] → k' ≡ Some s → Compares k s Beside.New
    → ((o : Option (List Strip)) → AreDistinct k (s ∷ S') o → AreDistinct None T (kept_before K o)) → (o : Option (List Strip)) → AreDistinct k' S' o → AreDistinct None T (kept_before K' o)
one_kept T K K' S' k k' s e f h all o a =
    subst (λ (X : List Strip). AreDistinct None T (kept_before X o)) (sym e)
    (subst (AreDistinct None T) (kept_more K s o) (all (kept_before (s ∷ []) o) (keeps k s S' o h (subst (λ x. AreDistinct x S' o) f a))))

pub one_passed : (T : List Strip) (K S' : List Strip) (k : Option Strip) (s : Strip) → Compares k s Beside.Same
    → ((o : Option (List Strip)) → AreDistinct k (s ∷ S') o → AreDistinct None T (kept_before K o)) → (o : Option (List Strip)) → AreDistinct k S' o → AreDistinct None T (kept_before K o)
one_passed T K S' k s h all o a = all o (passes_on k s S' o h a)

pub one_differs : (T : List Strip) (K S' : List Strip) (k : Option Strip) (s : Strip) → Compares k s Beside.Other
    → ((o : Option (List Strip)) → AreDistinct k (s ∷ S') o → AreDistinct None T (kept_before K o)) → AreDistinct None T None
one_differs T K S' k s h all = all None (ends k s S' h)

pub all_passed : (T K : List Strip) (k : Option Strip) → ((o : Option (List Strip)) → AreDistinct k [] o → AreDistinct None T (kept_before K o)) → AreDistinct None T (Some K)
all_passed T K k all = subst (λ (X : List Strip). AreDistinct None T (Some X)) (append-nil K) (all (Some []) (no_more k))

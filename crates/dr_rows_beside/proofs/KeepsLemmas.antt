-- What a plan's condition, made ready, keeps.
use Rattle.std.proofs.Common.{◌≡◌, ℕ, zero, suc, ◌<◌, List, [], ◌∷◌, length, get_or, Bool, true, false, Some, refl, sym, ap, ap₂, ◌∙◌, subst, arith}
use Rattle.std.specs.Prelude.{◌&&◌}
use Rattle.std.specs.List.{list_all, slice_get, remove}
use Rattle.std.proofs.lemmas.Bool.{and_parts}
use Rattle.dr_meaning.specs.Path.{Step, Leaf, paths_of_leaves, begins_with, chain_end, max_repetition}
use Rattle.dr_meaning.specs.Record.{Node}
use Rattle.dr_plan.specs.declared.expression.Truth.{Truth}
use Rattle.dr_plan.specs.Fitting.{truth_fits}
use Rattle.dr_scalar.specs.Leaves.{greatest, truth_leaves}
use Rattle.dr_rows_beside.specs.declared.judging.Test.{Test}
use Rattle.dr_rows_beside.specs.Sources.{all_beside, AreOnItsChain}
use Rattle.dr_rows_beside.specs.Makings.{reading, IsMadeOf, AreMadeOf}
use Rattle.dr_rows_beside.specs.Kept.{holds, all_hold, IsTestOf, AreTestsOf}
use Rattle.dr_rows_beside.specs.Keeps.{AreOnOneChain, KeepingHolds}
use Rattle.dr_rows_beside.proofs.SourceLemmas.{got_at}

one_of : (ls : List Leaf) (l : List Step) (t : Truth) (x : Test) → IsMadeOf (paths_of_leaves ls) t x → truth_fits ls t ≡ true
    → ((k : ℕ) → greatest (truth_leaves t) ≡ Some k → (p : List Step) × (slice_get (paths_of_leaves ls) k ≡ Some p) × AreOnItsChain (paths_of_leaves ls) p (truth_leaves t) × (begins_with (chain_end p) (chain_end l) ≡ true))
    → (w : IsTestOf ls x) × (begins_with (chain_end w.path) (chain_end l) ≡ true)
one_of ls l t x m f h =
    let F = paths_of_leaves ls in
    let k = x.source.leaf in
    let q : (p : List Step) × (slice_get F k ≡ Some p) × AreOnItsChain F p (truth_leaves t) × (begins_with (chain_end p) (chain_end l) ≡ true) = h k m.last in (
      record {
        path = q.0;
        is_path = q.1;
        deep = m.deep ∙ ap max_repetition (got_at F k q.0 q.1);
        read = m.read ∙ ap (λ (u : Truth). all_beside F k [] (truth_leaves u)) (sym m.truth_is);
        on_chain = subst (λ (u : Truth). AreOnItsChain F q.0 (truth_leaves u)) (sym m.truth_is) q.2;
        fits = ap (truth_fits ls) m.truth_is ∙ f;
      },
      q.3,
    )

all_of : (ls : List Leaf) (l : List Step) (ts : List Truth) (xs : List Test) → AreMadeOf (paths_of_leaves ls) ts xs → list_all (truth_fits ls) ts ≡ true → AreOnOneChain ls l ts → AreTestsOf ls l xs
all_of ls l [] [] m f h = tt
all_of ls l [] (x ∷ xs) m f h = absurd m
all_of ls l (t ∷ ts) [] m f h = absurd m
all_of ls l (t ∷ ts) (x ∷ xs) m f h = (one_of ls l t x m.0 (and_parts _ _ f).0 h.0, all_of ls l ts xs m.1 (and_parts _ _ f).1 h.1)

same_held : (ls : List Leaf) (ts : List Truth) (xs : List Test) (n : Node) → AreMadeOf (paths_of_leaves ls) ts xs → all_hold ls xs n ≡ list_all (λ (t : Truth). holds ls t n) ts
same_held ls [] [] n m = refl
same_held ls [] (x ∷ xs) n m = absurd m
same_held ls (t ∷ ts) [] n m = absurd m
same_held ls (t ∷ ts) (x ∷ xs) n m = ap₂ (λ (a b : Bool). a && b) (ap (λ (u : Truth). holds ls u n) m.0.truth_is) (same_held ls ts xs n m.1)

-- ---- one of them taken out

test_at : (ls : List Leaf) (l : List Step) (xs : List Test) (i : ℕ) (d : Test) → i < length xs → AreTestsOf ls l xs → (w : IsTestOf ls (get_or xs i d)) × (begins_with (chain_end w.path) (chain_end l) ≡ true)
test_at ls l [] i d h a = absurd (omega (arith, h))
test_at ls l (x ∷ xs) zero d h a = a.0
test_at ls l (x ∷ xs) (suc i) d h a = test_at ls l xs i d (omega (arith, h)) a.1

others_of : (ls : List Leaf) (l : List Step) (xs : List Test) (i : ℕ) → AreTestsOf ls l xs → AreTestsOf ls l (remove xs i)
others_of ls l [] zero a = tt
others_of ls l [] (suc i) a = tt
others_of ls l (x ∷ xs) zero a = a.1
others_of ls l (x ∷ xs) (suc i) a = (a.0, others_of ls l xs i a.1)

swapped : (a b c : Bool) → (a && (b && c)) ≡ (b && (a && c))
swapped true b c = refl
swapped false true c = refl
swapped false false c = refl

taken_out : (g : Test → Bool) (xs : List Test) (i : ℕ) (d : Test) → i < length xs → list_all g (get_or xs i d ∷ remove xs i) ≡ list_all g xs
taken_out g [] i d h = absurd (omega (arith, h))
taken_out g (x ∷ xs) zero d h = refl
taken_out g (x ∷ xs) (suc i) d h = swapped (g (get_or xs i d)) (g x) (list_all g (remove xs i)) ∙ ap (λ (b : Bool). g x && b) (taken_out g xs i d (omega (arith, h)))

pub same_path_there : (F : List (List Step)) (k : ℕ) (p q : List Step) → slice_get F k ≡ Some p → slice_get F k ≡ Some q → p ≡ q
same_path_there F k p q e f = cc

pub keeping_holds : KeepingHolds
keeping_holds ls ts k l w e f h =
    let all : AreTestsOf ls l w.tests = all_of ls l (reading ts) w.tests w.made f h in
    let own : k.own ≡ get_or w.tests w.at k.own = w.own in
    let one : (v : IsTestOf ls (get_or w.tests w.at k.own)) × (begins_with (chain_end v.path) (chain_end l) ≡ true) = test_at ls l w.tests w.at k.own w.within all in
    let v : IsTestOf ls k.own = subst (IsTestOf ls) (sym own) one.0 in
    let same : v.path ≡ l = same_path_there (paths_of_leaves ls) k.own.source.leaf v.path l v.is_path e in (
      v,
      same,
      subst (λ (p : List Step). AreTestsOf ls p k.others.items) (sym same) (subst (AreTestsOf ls l) (sym w.others) (others_of ls l w.tests w.at all)),
      λ m. ap₂ (λ (x : Test) (xs : List Test). all_hold ls (x ∷ xs) m) own w.others ∙ taken_out (λ (t : Test). holds ls t.truth.now m) w.tests w.at k.own w.within ∙ same_held ls (reading ts) w.tests m w.made,
    )

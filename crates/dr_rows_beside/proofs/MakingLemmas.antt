-- How a plan's condition is made ready to be judged.
use Rattle.std.proofs.Common.{◌≡◌, ℕ, zero, suc, ◌+◌, ◌<◌, ◌≤◌, List, [], ◌∷◌, ◌++◌, map, length, take, get_or, Bool, true, false, Option, Some, None, refl, sym, ap, ◌∙◌, subst, true≢false, arith}
use Rattle.std.specs.Prelude.{◌==◌, max}
use Rattle.std.specs.List.{list_all, slice_index_or}
use Rattle.std.proofs.lemmas.Bool.{and_parts, eqb-true, eq-eqb}
use Rattle.std.proofs.lemmas.List.{take_more, length-map}
use Rattle.dr_meaning.specs.Path.{Step, Leaf, max_repetition}
use Rattle.dr_nested.specs.PathView.{path_view}
use Rattle.dr_nested.specs.declared.path.Path.{Path}
use Rattle.dr_plan.specs.declared.expression.Truth.{Truth}
use Rattle.dr_plan.specs.Fitting.{truth_fits}
use Rattle.dr_scalar.specs.Leaves.{greater, greatest, truth_leaves, tests_leaves}
use Rattle.dr_rows_beside.specs.declared.judging.Test.{Test}
use Rattle.dr_agreement.specs.declared.fronts.Front.{Front}
use Rattle.dr_agreement.specs.Fronts.{IsFront}
use Rattle.dr_rows_beside.specs.Sources.{all_beside, is_numbered}
use Rattle.dr_rows_beside.specs.Makings.{onto_read, reading, IsMadeOf, AreMadeOf, leaf_at, IsLast}
use Rattle.dr_rows_beside.proofs.SourceLemmas.{own_depth}
use Rattle.dr_rows_beside.proofs.ReadingLemmas.{truth_there, put_none}

-- ---- one test

pub is_made : (F : List (List Step)) (t : Truth) (x : Test) (k : ℕ) (ks : List ℕ) (f : Front) → x.truth.now ≡ t → greatest (truth_leaves t) ≡ Some k → x.source.leaf ≡ k → x.depth ≡ f.repeated → IsFront F k k f
    → x.source.beside.items ≡ all_beside F k [] ks → ks ≡ truth_leaves t → IsMadeOf F t x
is_made F t x k ks f e g l d w b r = record {
  truth_is = e;
  last = g ∙ ap Some (sym l);
  deep = d ∙ own_depth F k f w ∙ ap (λ (j : ℕ). max_repetition (slice_index_or F j [])) (sym l);
  read = b ∙ ap (all_beside F k []) r ∙ ap (λ (j : ℕ). all_beside F j [] (truth_leaves t)) (sym l);
}

-- ---- one after another

pub reading_behind : (ts us : List Truth) → reading (ts ++ us) ≡ reading ts ++ reading us
reading_behind [] us = refl
reading_behind (t ∷ ts) us = by_leaf (greatest (truth_leaves t)) (reading_behind ts us)
  where
    by_leaf : (o : Option ℕ) → reading (ts ++ us) ≡ reading ts ++ reading us → onto_read o t (reading (ts ++ us)) ≡ onto_read o t (reading ts) ++ reading us
    by_leaf None e = e
    by_leaf (Some k) e = ap (λ (xs : List Truth). t ∷ xs) e

pub reading_more : (ts : List Truth) (i : ℕ) (t : Truth) → i < length ts → t ≡ get_or ts i t → reading (take (i + 1) ts) ≡ reading (take i ts) ++ reading (t ∷ [])
reading_more ts i t h e = ap reading (take_more ts i t h ∙ ap (λ (u : Truth). take i ts ++ u ∷ []) (sym e)) ∙ reading_behind (take i ts) (t ∷ [])

made_behind : (F : List (List Step)) (ts : List Truth) (t : Truth) (xs : List Test) (x : Test) → AreMadeOf F ts xs → IsMadeOf F t x → AreMadeOf F (ts ++ t ∷ []) (xs ++ x ∷ [])
made_behind F [] t [] x h w = (w, tt)
made_behind F [] t (y ∷ xs) x h w = absurd h
made_behind F (u ∷ ts) t [] x h w = absurd h
made_behind F (u ∷ ts) t (y ∷ xs) x h w = (h.0, made_behind F ts t xs x h.1 w)

-- of a test that reads a leaf, or none
no_leaf : (t : Truth) → greatest (truth_leaves t) ≡ None → reading (t ∷ []) ≡ []
no_leaf t e = ap (λ (o : Option ℕ). onto_read o t []) e

a_leaf : (t : Truth) (k : ℕ) → greatest (truth_leaves t) ≡ Some k → reading (t ∷ []) ≡ t ∷ []
a_leaf t k e = ap (λ (o : Option ℕ). onto_read o t []) e

pub none_pushed : (F : List (List Step)) (t : Truth) (xs : List Test) → greatest (truth_leaves t) ≡ None → (ts : List Truth) → AreMadeOf F ts xs → AreMadeOf F (ts ++ reading (t ∷ [])) xs
none_pushed F t xs e ts h = subst (λ (vs : List Truth). AreMadeOf F vs xs) (sym (ap (λ (vs : List Truth). ts ++ vs) (no_leaf t e) ∙ none ts)) h
  where
    none : (vs : List Truth) → vs ++ [] ≡ vs
    none [] = refl
    none (v ∷ vs) = ap (λ (ws : List Truth). v ∷ ws) (none vs)

pub one_pushed : (F : List (List Step)) (t : Truth) (before after : List Test) (x : Test) (k : ℕ) → greatest (truth_leaves t) ≡ Some k → after ≡ before ++ x ∷ [] → IsMadeOf F t x → (ts : List Truth) → AreMadeOf F ts before
    → AreMadeOf F (ts ++ reading (t ∷ [])) after
one_pushed F t before after x k e p w ts h =
    subst (λ (vs : List Truth). AreMadeOf F (ts ++ vs) after) (sym (a_leaf t k e)) (subst (AreMadeOf F (ts ++ t ∷ [])) (sym p) (made_behind F ts t before x h w))

fits_there : (ls : List Leaf) (ts : List Truth) (i : ℕ) (t : Truth) → list_all (truth_fits ls) ts ≡ true → i < length ts → t ≡ get_or ts i t → list_all (is_numbered (length ls)) (truth_leaves t) ≡ true
fits_there ls [] i t h l e = absurd (omega (arith, l))
fits_there ls (u ∷ ts) zero t h l e = ap (λ (v : Truth). list_all (is_numbered (length ls)) (truth_leaves v)) e ∙ truth_there ls u (and_parts _ _ h).0
fits_there ls (u ∷ ts) (suc i) t h l e = fits_there ls ts i t (and_parts _ _ h).1 (omega (arith, l)) e

pub test_there : (ps : List Path) (ts : List Truth) (i : ℕ) (t : Truth) → list_all (truth_fits (map path_view ps)) ts ≡ true → i < length ts → t ≡ get_or ts i t → list_all (is_numbered (length ps)) (truth_leaves t) ≡ true
test_there ps ts i t h l e = ap (λ (n : ℕ). list_all (is_numbered n) (truth_leaves t)) (sym (length-map ps path_view)) ∙ fits_there (map path_view ps) ts i t h l e

-- ---- the last of all

pub leaf_got : (ts : List Test) (i : ℕ) (d : Test) → i < length ts → leaf_at ts i ≡ (get_or ts i d).source.leaf
leaf_got [] i d h = absurd (omega (arith, h))
leaf_got (t ∷ ts) zero d h = refl
leaf_got (t ∷ ts) (suc i) d h = leaf_got ts i d (omega (arith, h))

pub last_more : (ts : List Test) (n b c : ℕ) → IsLast ts n b → leaf_at ts b ≤ leaf_at ts c → leaf_at ts n ≤ leaf_at ts c → IsLast ts (n + 1) c
last_more ts n b c w h g i l = by_test (i == n) refl
  where
    by_test : (t : Bool) → (i == n) ≡ t → leaf_at ts i ≤ leaf_at ts c
    by_test true e = subst (λ (j : ℕ). leaf_at ts j ≤ leaf_at ts c) (sym (eqb-true i n e)) g
    by_test false e =
        let apart : i ≡ n → ⊥ = (λ (z : i ≡ n). true≢false (sym (eq-eqb i n z) ∙ e)) in
        let k : leaf_at ts i ≤ leaf_at ts b = w i (omega (arith, l, apart)) in
        omega (arith, k, h)

pub greatest_alone : (t : Truth) (ts : List Truth) (o : Option ℕ) (k : ℕ) → ts ≡ t ∷ [] → o ≡ greatest (tests_leaves ts) → o ≡ Some k → greatest (truth_leaves t) ≡ Some k
greatest_alone t ts o k e g h = sym (ap (λ (ks : List ℕ). greatest ks) (put_none (truth_leaves t))) ∙ ap (λ (us : List Truth). greatest (tests_leaves us)) (sym e) ∙ sym g ∙ h

pub none_made : (F : List (List Step)) (ts : List Truth) (xs : List Test) → length xs ≡ 0 → AreMadeOf F ts xs → ts ≡ []
none_made F [] xs e h = refl
none_made F (t ∷ ts) [] e h = absurd h
none_made F (t ∷ ts) (x ∷ xs) e h = absurd (omega (arith, e))

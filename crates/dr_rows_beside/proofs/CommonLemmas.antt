-- How many repeated fields leaves have in common.
use Rattle.std.proofs.Common.{◌≡◌, ℕ, zero, suc, ◌+◌, ◌<◌, ◌≤◌, List, [], ◌∷◌, ◌++◌, map, length, take, get_or, Bool, true, false, Option, Some, None, refl, sym, ap, ap₂, ◌∙◌, arith, add-one}
use Rattle.std.specs.Prelude.{◌==◌, if◌then◌else◌}
use Rattle.std.specs.List.{list_all, slice_index_or}
use Rattle.std.proofs.lemmas.Bool.{and_from, and_parts}
use Rattle.dr_meaning.specs.Schema.{repetition_count}
use Rattle.dr_meaning.specs.Path.{Step, Leaf, max_repetition, common}
use Rattle.dr_nested.specs.PathView.{paths_view}
use Rattle.dr_nested.specs.declared.path.Path.{Path}
use Rattle.dr_plan.specs.declared.expression.Truth.{Truth}
use Rattle.dr_plan.specs.Fitting.{truth_fits}
use Rattle.dr_scalar.specs.Leaves.{greatest, truth_leaves}
use Rattle.dr_beside.specs.Neighbours.{shared, front}
use Rattle.dr_agreement.specs.declared.fronts.Front.{Front}
use Rattle.dr_agreement.specs.Fronts.{IsFront}
use Rattle.dr_rows_beside.specs.declared.judging.Test.{Test}
use Rattle.dr_rows_beside.specs.KeptBits.{commons}
use Rattle.dr_rows_beside.specs.Makings.{onto_read, reading, AreMadeOf}
use Rattle.dr_rows_beside.proofs.ReadingLemmas.{truth_there}
use Rattle.dr_rows_beside.proofs.SourceLemmas.{got_at, greatest_there}

-- ---- those of a front

front_common : (p q : List Step) → max_repetition (front p q) ≡ common p q
front_common [] q = refl
front_common (s ∷ p) [] = refl
front_common (s ∷ p) (t ∷ q) = by_test (s.place == t.place) (front_common p q)
  where
    by_test : (b : Bool) → max_repetition (front p q) ≡ common p q
        → max_repetition (take (if b then suc (shared p q) else 0) (s ∷ p)) ≡ (if b then repetition_count s.repetition + common p q else 0)
    by_test true e = ap (λ (n : ℕ). repetition_count s.repetition + n) e
    by_test false e = refl

pub common_here : (F : List (List Step)) (i last : ℕ) (f : Front) → IsFront F i last f → f.repeated ≡ common (slice_index_or F i []) (slice_index_or F last [])
common_here F i last f w = w.repeated ∙ front_common w.path w.other ∙ sym (ap₂ common (got_at F i w.path w.is_path) (got_at F last w.other w.is_other))

-- ---- one leaf more

taken_more : (g : List Step → ℕ) (F : List (List Step)) (i : ℕ) → i < length F → take (suc i) (map g F) ≡ take i (map g F) ++ g (slice_index_or F i []) ∷ []
taken_more g [] i h = absurd (omega (arith, h))
taken_more g (p ∷ F) zero h = refl
taken_more g (p ∷ F) (suc i) h = ap (λ (ns : List ℕ). g p ∷ ns) (taken_more g F i (omega (arith, h)))

pub common_more : (F : List (List Step)) (last i v : ℕ) (before after : List ℕ) → i < length F → v ≡ common (slice_index_or F i []) (slice_index_or F last []) → after ≡ before ++ v ∷ [] → before ≡ take i (commons F last)
    → after ≡ take (i + 1) (commons F last)
common_more F last i v before after h e a b =
    a ∙ ap₂ (λ (ns : List ℕ) (n : ℕ). ns ++ n ∷ []) b e
    ∙ sym (taken_more (λ (p : List Step). common p (slice_index_or F last [])) F i h)
    ∙ ap (λ (n : ℕ). take n (commons F last)) (sym (add-one i))

pub paths_long : (ps : List Path) → length (paths_view ps) ≡ length ps
paths_long [] = refl
paths_long (p ∷ ps) = ap suc (paths_long ps)

-- ---- those that read a leaf

pub reading_fits : (ls : List Leaf) (ts : List Truth) → list_all (truth_fits ls) ts ≡ true → list_all (truth_fits ls) (reading ts) ≡ true
reading_fits ls [] h = refl
reading_fits ls (t ∷ ts) h = by_leaf (greatest (truth_leaves t)) (and_parts _ _ h).0 (reading_fits ls ts (and_parts _ _ h).1)
  where
    by_leaf : (o : Option ℕ) → truth_fits ls t ≡ true → list_all (truth_fits ls) (reading ts) ≡ true → list_all (truth_fits ls) (onto_read o t (reading ts)) ≡ true
    by_leaf None f e = e
    by_leaf (Some k) f e = and_from _ _ f e

pub last_there : (ls : List Leaf) (F : List (List Step)) (ts : List Truth) (xs : List Test) (i : ℕ) (d : Test) → list_all (truth_fits ls) ts ≡ true → AreMadeOf F ts xs → i < length xs → (get_or xs i d).source.leaf < length ls
last_there ls F [] [] i d h m l = absurd (omega (arith, l))
last_there ls F [] (x ∷ xs) i d h m l = absurd m
last_there ls F (t ∷ ts) [] i d h m l = absurd m
last_there ls F (t ∷ ts) (x ∷ xs) zero d h m l = greatest_there (length ls) (truth_leaves t) x.source.leaf (truth_there ls t (and_parts _ _ h).0) m.0.last
last_there ls F (t ∷ ts) (x ∷ xs) (suc i) d h m l = last_there ls F ts xs i d (and_parts _ _ h).1 m.1 (omega (arith, l))

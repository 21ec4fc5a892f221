-- The longest level of leaves whose chains are first parts of that of one of them is its level.
use Rattle.std.proofs.Common.{◌≡◌, ℕ, zero, suc, List, [], ◌∷◌, ◌++◌, Bool, true, false, Some, refl, sym, ap, ap₂, subst, ◌∙◌, append-nil, true≢false}
use Rattle.std.specs.Prelude.{◌==◌, if◌then◌else◌}
use Rattle.std.specs.List.{slice_get, list_all}
use Rattle.std.proofs.lemmas.Bool.{and_parts, eqb-true}
use Rattle.dr_meaning.specs.Schema.{Repetition, required, optional, repeated, Fields, no_fields, field, Shape, leaf, group, is_repeated}
use Rattle.dr_meaning.specs.Path.{Step, chain, chain_end, up_to, is_shorter, longer, is_leaf_path, is_shape_path, same_repetition}
use Rattle.dr_meaning.specs.Expression.{longest_chain}
use Rattle.dr_meaning.specs.Walk.{is_chain_front}
use Rattle.dr_meaning.proofs.ProjectionLemmas.{step}
use Rattle.dr_meaning.proofs.Blocks.{same_repetition-true}
use Rattle.dr_kept_laws.specs.TogetherLaws.{LevelOfLast}
use Rattle.dr_kept_laws.proofs.ChainTold.{level_none}
use Rattle.dr_kept_laws.proofs.ReadingTogether.{apart_chain, below_chain}
use Rattle.dr_kept_laws.proofs.Selections.{leaf_selected, no_path}

-- the second path goes on from the first
abbrev Begins : List Step → List Step → Type 0
Begins L M = (rest : List Step) × (M ≡ L ++ rest)

-- ---- levels

-- two leaves through the same field are below the same shape
record SameField (c e : Repetition) (q p : List Step) : Type 0 where
  pub repetition : c ≡ e
  pub shape : Shape
  pub first : is_shape_path shape q ≡ true
  pub second : is_shape_path shape p ≡ true

same_field : (fs : Fields) (a : ℕ) (c e : Repetition) (q p : List Step) → is_leaf_path fs (step a c ∷ q) ≡ true → is_leaf_path fs (step a e ∷ p) ≡ true → SameField c e q p
same_field no_fields a c e q p h g = absurd (true≢false (sym h))
same_field (field m r s fs) zero c e q p h g =
    let x : (same_repetition c r ≡ true) × (is_shape_path s q ≡ true) = and_parts (same_repetition c r) (is_shape_path s q) h in
    let y : (same_repetition e r ≡ true) × (is_shape_path s p ≡ true) = and_parts (same_repetition e r) (is_shape_path s p) g in
    record { repetition = same_repetition-true c r x.0 ∙ sym (same_repetition-true e r y.0); shape = s; first = x.1; second = y.1 }
same_field (field m r s fs) (suc a) c e q p h g = same_field fs a c e q p h g

begins_up : (s : Step) (L M : List Step) → Begins L M → Begins (up_to s L) (up_to s M)
begins_up s [] [] h = ([], sym (append-nil (up_to s [])))
begins_up s [] (m ∷ M) h = by_repetition_of s.repetition
  where
    by_repetition_of : (r : Repetition) → Begins (if is_repeated r then s ∷ [] else []) (s ∷ m ∷ M)
    by_repetition_of required = (s ∷ m ∷ M, refl)
    by_repetition_of optional = (s ∷ m ∷ M, refl)
    by_repetition_of repeated = (m ∷ M, refl)
begins_up s (l ∷ L) [] h = let e : [] ≡ l ∷ (L ++ h.0) = h.1 in absurd (cc)
begins_up s (l ∷ L) (m ∷ M) h = (h.0, ap (λ (x : List Step). s ∷ x) h.1)

level_begins : (q p : List Step) (h : Shape) → is_shape_path h q ≡ true → is_shape_path h p ≡ true → is_chain_front (chain q) (chain p) ≡ true → Begins (chain_end q) (chain_end p)
level_begins [] p h u v g = (chain_end p, refl)
level_begins (s ∷ q) p (leaf k) u v g = absurd (true≢false (sym u))
level_begins (s ∷ q) [] (group fs) u v g = absurd (no_path fs v)
level_begins (s ∷ q) (t ∷ p) (group fs) u v g = by_place (s.place == t.place) refl (λ h. level_begins q p h)
  where
    by_same : SameField s.repetition t.repetition q p → s.place ≡ t.place → ((h : Shape) → is_shape_path h q ≡ true → is_shape_path h p ≡ true → is_chain_front (chain q) (chain p) ≡ true → Begins (chain_end q) (chain_end p))
        → Begins (chain_end (s ∷ q)) (chain_end (t ∷ p))
    by_same f e below =
        let z : t ≡ s = ap₂ (λ (a : ℕ) (r : Repetition). step a r) (sym e) (sym f.repetition) in
        let front : is_chain_front (chain (s ∷ q)) (chain (s ∷ p)) ≡ true = subst (λ (x : Step). is_chain_front (chain (s ∷ q)) (chain (x ∷ p)) ≡ true) z g in
        subst (λ (x : Step). Begins (chain_end (s ∷ q)) (chain_end (x ∷ p))) (sym z) (begins_up s (chain_end q) (chain_end p) (below f.shape f.first f.second (below_chain s q p front)))

    by_place : (b : Bool) → (s.place == t.place) ≡ b → ((h : Shape) → is_shape_path h q ≡ true → is_shape_path h p ≡ true → is_chain_front (chain q) (chain p) ≡ true → Begins (chain_end q) (chain_end p)) → Begins (chain_end (s ∷ q)) (chain_end (t ∷ p))
    by_place true e below =
        let z : s.place ≡ t.place = eqb-true s.place t.place e in
        by_same (same_field fs s.place s.repetition t.repetition q p u (subst (λ (a : ℕ). is_leaf_path fs (step a t.repetition ∷ p) ≡ true) (sym z) v)) z below
    by_place false e below = (chain_end (t ∷ p), ap (λ (L : List Step). L ++ chain_end (t ∷ p)) (sym (level_none (s ∷ q) (apart_chain s t q p e g))))

-- ---- the longest

not_shorter : (L rest : List Step) → is_shorter (L ++ rest) L ≡ false
not_shorter [] rest = refl
not_shorter (l ∷ L) rest = not_shorter L rest

shorter : (L : List Step) (x : Step) (rest : List Step) → is_shorter L (L ++ x ∷ rest) ≡ true
shorter [] x rest = refl
shorter (l ∷ L) x rest = shorter L x rest

-- of two with which a third begins the longer is one of them
longer_begins : (L M N : List Step) → Begins L N → Begins M N → Begins (longer L M) N
longer_begins L M N x y = by_test (is_shorter L M)
  where
    by_test : (b : Bool) → Begins (if b then M else L) N
    by_test true = y
    by_test false = x

longer_whole : (L M : List Step) → Begins M L → longer L M ≡ L
longer_whole L M h = ap (λ (b : Bool). if b then M else L) (ap (λ (x : List Step). is_shorter x M) h.1 ∙ not_shorter M h.0)

longer_other : (L M : List Step) → Begins M L → longer M L ≡ L
longer_other L M ([], e) = ap (λ (x : List Step). longer M x) same ∙ by_test (is_shorter M M) ∙ sym same
  where
    same : L ≡ M
    same = e ∙ append-nil M

    by_test : (b : Bool) → (if b then M else M) ≡ M
    by_test true = refl
    by_test false = refl
longer_other L M (x ∷ rest, e) = ap (λ (b : Bool). if b then L else M) (ap (is_shorter M) e ∙ shorter M x rest)

module _ (fs : Fields) (p : List Step) (v : is_leaf_path fs p ≡ true) where
  all_begin : (ps : List (List Step)) → list_all (is_leaf_path fs) ps ≡ true → list_all (λ q. is_chain_front (chain q) (chain p)) ps ≡ true → Begins (longest_chain ps) (chain_end p)
  all_begin [] h g = (chain_end p, refl)
  all_begin (q ∷ ps) h g =
      let a : (is_leaf_path fs q ≡ true) × (list_all (is_leaf_path fs) ps ≡ true) = and_parts (is_leaf_path fs q) (list_all (is_leaf_path fs) ps) h in
      let b : (is_chain_front (chain q) (chain p) ≡ true) × (list_all (λ q. is_chain_front (chain q) (chain p)) ps ≡ true) = and_parts _ _ g in
      longer_begins (chain_end q) (longest_chain ps) (chain_end p) (level_begins q p (group fs) a.0 v b.0) (all_begin ps a.1 b.1)

  longest : (ps : List (List Step)) (j : ℕ) → list_all (is_leaf_path fs) ps ≡ true → list_all (λ q. is_chain_front (chain q) (chain p)) ps ≡ true → slice_get ps j ≡ Some p → longest_chain ps ≡ chain_end p
  longest [] j h g e = absurd (cc)
  longest (q ∷ ps) zero h g e =
      let x : q ≡ p = cc in
      let a : (is_leaf_path fs q ≡ true) × (list_all (is_leaf_path fs) ps ≡ true) = and_parts (is_leaf_path fs q) (list_all (is_leaf_path fs) ps) h in
      let b : (is_chain_front (chain q) (chain p) ≡ true) × (list_all (λ q. is_chain_front (chain q) (chain p)) ps ≡ true) = and_parts _ _ g in
      ap (λ (y : List Step). longer (chain_end y) (longest_chain ps)) x ∙ longer_whole (chain_end p) (longest_chain ps) (all_begin ps a.1 b.1)
  longest (q ∷ ps) (suc j) h g e =
      let a : (is_leaf_path fs q ≡ true) × (list_all (is_leaf_path fs) ps ≡ true) = and_parts (is_leaf_path fs q) (list_all (is_leaf_path fs) ps) h in
      let b : (is_chain_front (chain q) (chain p) ≡ true) × (list_all (λ q. is_chain_front (chain q) (chain p)) ps ≡ true) = and_parts _ _ g in
      ap (longer (chain_end q)) (longest ps j a.1 b.1 e) ∙ longer_other (chain_end p) (chain_end q) (level_begins q p (group fs) a.0 v b.0)

pub level_of_last : LevelOfLast
level_of_last fs ps p j h g e = longest fs p (leaf_selected fs ps j p h e) ps j h g e

-- Of leaves whose chains begin with one another, one whose chain begins with that of each has the longest.
use Rattle.std.proofs.Common.{◌≡◌, ℕ, zero, suc, List, [], ◌∷◌, ◌++◌, Bool, true, false, refl, sym, ap, ap₂, ◌∙◌, true≢false}
use Rattle.std.specs.Prelude.{◌==◌, if◌then◌else◌}
use Rattle.std.proofs.lemmas.Bool.{and_parts, eqb-true}
use Rattle.dr_meaning.specs.Schema.{Repetition, required, optional, repeated, Fields, no_fields, field, Shape, leaf, group}
use Rattle.dr_meaning.specs.Path.{Step, begins_with, chain_end, up_to, is_shorter, is_leaf_path, is_shape_path, same_repetition}
use Rattle.dr_meaning.specs.Expression.{longest_chain}
use Rattle.dr_meaning.proofs.ProjectionLemmas.{step}
use Rattle.dr_meaning.proofs.Blocks.{same_repetition-true}
use Rattle.dr_partials.proofs.RowLemmas.{Each}

-- ---- a level is the first part of a path

level_front : (p : List Step) → (rest : List Step) × (p ≡ chain_end p ++ rest)
level_front [] = ([], refl)
level_front (s ∷ p) = by_level (chain_end p) s.repetition (level_front p)
  where
    by_level : (L : List Step) (r : Repetition) → (rest : List Step) × (p ≡ L ++ rest)
        → (rest : List Step) × (step s.place r ∷ p ≡ up_to (step s.place r) L ++ rest)
    by_level (t ∷ L) r h = (h.0, ap (λ (q : List Step). step s.place r ∷ q) h.1)
    by_level [] required h = (step s.place required ∷ p, refl)
    by_level [] optional h = (step s.place optional ∷ p, refl)
    by_level [] repeated h = (p, refl)

-- ---- first parts of leaves' paths that begin with one another are the same

mutual
  fields_same : (fs : Fields) (a : ℕ) (c e : Repetition) (L M r s : List Step) → is_leaf_path fs (step a c ∷ (L ++ r)) ≡ true
      → is_leaf_path fs (step a e ∷ (M ++ s)) ≡ true
      → begins_with L M ≡ true → begins_with M L ≡ true → (c ≡ e) × (L ≡ M)
  fields_same no_fields a c e L M r s u v h g = absurd (true≢false (sym u))
  fields_same (field m d k fs) zero c e L M r s u v h g =
      let x : (same_repetition c d ≡ true) × (is_shape_path k (L ++ r) ≡ true) = and_parts (same_repetition c d) (is_shape_path k (L ++ r)) u in
      let y : (same_repetition e d ≡ true) × (is_shape_path k (M ++ s) ≡ true) = and_parts (same_repetition e d) (is_shape_path k (M ++ s)) v in
      (same_repetition-true c d x.0 ∙ sym (same_repetition-true e d y.0), level_same k L M r s x.1 y.1 h g)
  fields_same (field m d k fs) (suc a) c e L M r s u v h g = fields_same fs a c e L M r s u v h g

  level_same : (k : Shape) (L M r s : List Step) → is_shape_path k (L ++ r) ≡ true → is_shape_path k (M ++ s) ≡ true → begins_with L M ≡ true
      → begins_with M L ≡ true → L ≡ M
  level_same k [] [] r s u v h g = refl
  level_same k [] (t ∷ M) r s u v h g = absurd (true≢false (sym g))
  level_same k (t ∷ L) [] r s u v h g = absurd (true≢false (sym h))
  level_same (leaf k) (t ∷ L) (q ∷ M) r s u v h g = absurd (true≢false (sym u))
  level_same (group fs) (t ∷ L) (q ∷ M) r s u v h g =
      let x : ((t.place == q.place) ≡ true) × (begins_with L M ≡ true) = and_parts (t.place == q.place) (begins_with L M) h in
      let y : ((q.place == t.place) ≡ true) × (begins_with M L ≡ true) = and_parts (q.place == t.place) (begins_with M L) g in
      let e : t.place ≡ q.place = eqb-true t.place q.place x.0 in
      let z : (t.repetition ≡ q.repetition) × (L ≡ M) =
      fields_same fs t.place t.repetition q.repetition L M r s u (ap (λ (a : ℕ). is_leaf_path fs (step a q.repetition ∷ (M ++ s))) e ∙ v) x.1 y.1 in
      ap₂ (λ (a : Step) (N : List Step). a ∷ N) (ap₂ (λ (a : ℕ) (b : Repetition). step a b) e z.0) z.1

-- ---- the longest level

module _ (fs : Fields) (p : List Step) (u : is_leaf_path fs p ≡ true) where
  -- the first part of a leaf's path, with which that of p's level begins
  pub record Within (L : List Step) : Type 0 where
    pub begins : begins_with L (chain_end p) ≡ true
    pub rest : List Step
    pub leaf : is_leaf_path fs (L ++ rest) ≡ true

  pub level_within : (q : List Step) → is_leaf_path fs q ≡ true → begins_with (chain_end q) (chain_end p) ≡ true → Within (chain_end q)
  level_within q v h =
      let f : (rest : List Step) ×
      (q ≡ chain_end q ++ rest) = level_front q in record { begins = h; rest = f.0; leaf = ap (is_leaf_path fs) (sym f.1) ∙ v }

  longest_within : (ps : List (List Step)) → Each (λ (q : List Step). Within (chain_end q)) ps → Within (longest_chain ps)
  longest_within [] h = record { begins = refl; rest = p; leaf = u }
  longest_within (q ∷ ps) h = by_test (is_shorter (chain_end q) (longest_chain ps)) h.0 (longest_within ps h.1)
    where
      by_test : (b : Bool) → Within (chain_end q) → Within (longest_chain ps) → Within (if b then longest_chain ps else chain_end q)
      by_test true x y = y
      by_test false x y = x

  pub longest_is : (ps : List (List Step)) → Each (λ (q : List Step). Within (chain_end q)) ps → begins_with (chain_end p) (longest_chain ps) ≡ true
      → chain_end p ≡ longest_chain ps
  longest_is ps h g =
      let w : Within (longest_chain ps) = longest_within ps h in
      let f : (rest : List Step) × (p ≡ chain_end p ++ rest) = level_front p in
      level_same (group fs) (chain_end p) (longest_chain ps) f.0 w.rest (ap (is_leaf_path fs) (sym f.1) ∙ u) w.leaf g w.begins

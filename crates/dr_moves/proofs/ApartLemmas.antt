-- Leaves with different paths are selected once each.
use Rattle.std.proofs.Common.{◌≡◌, ℕ, zero, suc, List, [], ◌∷◌, Bool, true, false, ◌&&◌, refl, sym, ap, ap₂, ◌∙◌, true≢false, arith}
use Rattle.std.specs.Prelude.{◌==◌, not}
use Rattle.std.specs.List.{list_all}
use Rattle.std.proofs.lemmas.Bool.{and_parts, eq-eqb, ne_eqb, eqb-true}
use Rattle.dr_meaning.specs.Schema.{Repetition, Fields, no_fields, field, Shape, leaf, group}
use Rattle.dr_meaning.specs.Path.{Step, same_path, begins_with, is_leaf_path, is_empty_path}
use Rattle.dr_meaning.specs.Automaton.{Pick, picks, picks_from, first_picks_if, first_picks_and, first_picks, later_picks_if, later_picks_and, later_picks}
use Rattle.dr_moves.specs.Selection.{differs, all_differ}
use Rattle.dr_moves.proofs.Apart.{AtMostOne, Apart, ShapeApart}
use Rattle.dr_moves.proofs.FollowsWalk.{Paths, ShapePaths, field_paths}
use Rattle.dr_moves.proofs.WalkFollows.{group_paths, paths_from}

abbrev Differs : List Step → List Pick → Type 0
Differs p [] = Unit {0}
Differs p (g ∷ G) = (same_path p g.rest ≡ false) × Differs p G

abbrev AllDiffer : List Pick → Type 0
AllDiffer [] = Unit {0}
AllDiffer (g ∷ G) = Differs g.rest G × AllDiffer G

suc_eqb : (j k : ℕ) → (suc j == suc k) ≡ (j == k)
suc_eqb j k = by_test (j == k) refl
  where
    by_test : (b : Bool) → (j == k) ≡ b → (suc j == suc k) ≡ b
    by_test true e = let q : j ≡ k = eqb-true j k e in eq-eqb (suc j) (suc k) (ap suc q)
    by_test false e = ne_eqb (suc j) (suc k) (λ x. let q : j ≡ k = omega (arith, x) in true≢false (sym (eq-eqb j k q) ∙ e))

same_behind : (k : ℕ) (r t : Repetition) (p q : List Step) → same_path (record { place = k; repetition = r } ∷ p) (record { place = k; repetition = t } ∷ q) ≡ same_path p q
same_behind k r t p q = rw (eq-eqb k k refl) refl

same_beside : (j k : ℕ) (r t : Repetition) (p q : List Step) → same_path (record { place = suc j; repetition = r } ∷ p) (record { place = suc k; repetition = t } ∷ q) ≡ same_path (record { place = j; repetition = r } ∷ p) (record { place = k; repetition = t } ∷ q)
same_beside j k r t p q = ap₂ (λ (x y : Bool). (x && begins_with p q) && (y && begins_with q p)) (suc_eqb j k) (suc_eqb k j)

differs_behind : (r : Repetition) (p : List Step) (G : List Pick) → Differs (record { place = 0; repetition = r } ∷ p) G → Differs p (first_picks G)
differs_behind r p [] h = tt
differs_behind r p (g ∷ G) h = by_rest g.rest h.0 (differs_behind r p G h.1)
  where
    by_rest : (q : List Step) → same_path (record { place = 0; repetition = r } ∷ p) q ≡ false → Differs p (first_picks G) → Differs p (first_picks_and q g.index (first_picks G))
    by_rest [] e d = d
    by_rest (t ∷ q) e d = by_place t.place e
      where
        by_place : (k : ℕ) → same_path (record { place = 0; repetition = r } ∷ p) (record { place = k; repetition = t.repetition } ∷ q) ≡ false → Differs p (first_picks_if k q g.index (first_picks G))
        by_place zero e = (sym (same_behind 0 r t.repetition p q) ∙ e, d)
        by_place (suc k) e = d

differs_beside : (j : ℕ) (r : Repetition) (p : List Step) (G : List Pick) → Differs (record { place = suc j; repetition = r } ∷ p) G → Differs (record { place = j; repetition = r } ∷ p) (later_picks G)
differs_beside j r p [] h = tt
differs_beside j r p (g ∷ G) h = by_rest g.rest h.0 (differs_beside j r p G h.1)
  where
    by_rest : (q : List Step) → same_path (record { place = suc j; repetition = r } ∷ p) q ≡ false → Differs (record { place = j; repetition = r } ∷ p) (later_picks G) → Differs (record { place = j; repetition = r } ∷ p) (later_picks_and q g.index (later_picks G))
    by_rest [] e d = d
    by_rest (t ∷ q) e d = by_place t.place e
      where
        by_place : (k : ℕ) → same_path (record { place = suc j; repetition = r } ∷ p) (record { place = k; repetition = t.repetition } ∷ q) ≡ false → Differs (record { place = j; repetition = r } ∷ p) (later_picks_if k t q g.index (later_picks G))
        by_place zero e = d
        by_place (suc k) e = (sym (same_beside j k r t.repetition p q) ∙ e, d)

all_behind : (G : List Pick) → AllDiffer G → AllDiffer (first_picks G)
all_behind [] h = tt
all_behind (g ∷ G) h = by_rest g.rest h.0 (all_behind G h.1)
  where
    by_rest : (q : List Step) → Differs q G → AllDiffer (first_picks G) → AllDiffer (first_picks_and q g.index (first_picks G))
    by_rest [] d a = a
    by_rest (t ∷ q) d a = by_place t.place d
      where
        by_place : (k : ℕ) → Differs (record { place = k; repetition = t.repetition } ∷ q) G → AllDiffer (first_picks_if k q g.index (first_picks G))
        by_place zero d = (differs_behind t.repetition q G d, a)
        by_place (suc k) d = a

all_beside : (G : List Pick) → AllDiffer G → AllDiffer (later_picks G)
all_beside [] h = tt
all_beside (g ∷ G) h = by_rest g.rest h.0 (all_beside G h.1)
  where
    by_rest : (q : List Step) → Differs q G → AllDiffer (later_picks G) → AllDiffer (later_picks_and q g.index (later_picks G))
    by_rest [] d a = a
    by_rest (t ∷ q) d a = by_place t.place d
      where
        by_place : (k : ℕ) → Differs (record { place = k; repetition = t.repetition } ∷ q) G → AllDiffer (later_picks_if k t q g.index (later_picks G))
        by_place zero d = a
        by_place (suc k) d = (differs_beside k t.repetition q G d, a)

at_most_one : (k : _) (G : List Pick) → ShapePaths (leaf k) G → AllDiffer G → AtMostOne G
at_most_one k [] u h = tt
at_most_one k (f ∷ []) u h = tt
at_most_one k (f ∷ g ∷ G) u h = both f.rest g.rest u.0 u.1.0 h.0.0
  where
    both : (p q : List Step) → is_empty_path p ≡ true → is_empty_path q ≡ true → same_path p q ≡ false → ⊥
    both [] [] a b e = true≢false e
    both [] (t ∷ q) a b e = true≢false (sym b)
    both (s ∷ p) q a b e = true≢false (sym a)

mutual
  fields_apart : (fs : Fields) (G : List Pick) → Paths fs G → AllDiffer G → Apart fs G
  fields_apart no_fields G u h = tt
  fields_apart (field m c s fs) G u h = let q = field_paths m c s fs G u in (shape_apart s (first_picks G) q.first (all_behind G h), fields_apart fs (later_picks G) q.others (all_beside G h))

  shape_apart : (s : Shape) (G : List Pick) → ShapePaths s G → AllDiffer G → ShapeApart s G
  shape_apart (leaf k) G u h = at_most_one k G u h
  shape_apart (group fs) G u h = fields_apart fs G (group_paths fs G u) h

not_true : (b : Bool) → not b ≡ true → b ≡ false
not_true true h = absurd (true≢false (sym h))
not_true false h = refl

differs_from : (p : List Step) (k : ℕ) (F : List (List Step)) → differs p F ≡ true → Differs p (picks_from k F)
differs_from p k [] h = tt
differs_from p k (q ∷ F) h = let a = and_parts (not (same_path p q)) (differs p F) h in (not_true (same_path p q) a.0, differs_from p (suc k) F a.1)

all_from : (k : ℕ) (F : List (List Step)) → all_differ F ≡ true → AllDiffer (picks_from k F)
all_from k [] h = tt
all_from k (p ∷ F) h = let a = and_parts (differs p F) (all_differ F) h in (differs_from p (suc k) F a.0, all_from (suc k) F a.1)

-- leaves with different paths are selected once each
pub leaves_apart : (fs : Fields) (F : List (List Step)) → list_all (is_leaf_path fs) F ≡ true → all_differ F ≡ true → Apart fs (picks F)
leaves_apart fs F h a = fields_apart fs (picks F) (group_paths fs (picks F) (paths_from fs 0 F h)) (all_from 0 F a)

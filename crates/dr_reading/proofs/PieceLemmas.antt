-- The kept pieces of a history in which each tablet has an answer.
use Rattle.std.proofs.Common.{◌≡◌, ◌<◌, ℕ, suc, ◌+◌, List, [], ◌∷◌, map, length, Bool, true, false, ◌||◌, refl, sym, ap, ◌∙◌, subst, true≢false, arith}
use Rattle.std.specs.Prelude.{◌==◌, if◌then◌else◌}
use Rattle.std.specs.List.{All, list_any}
use Rattle.std.proofs.lemmas.Bool.{eqb-true}
use Rattle.dr_dispatch.proofs.HistoryLemmas.{answered_have_answers}
use Rattle.dr_partials.specs.Partials.{Partial}
use Rattle.dr_reading.specs.Scan.{Copy}
use Rattle.dr_reading.specs.Truth.{IsTrueOf}
use Rattle.dr_reading.specs.Outcome.{Serving, truth_of, AreTrueFrom}
use Rattle.dr_reading.specs.Pieces.{TabletPiece, copies_at, IsTrueAt, kept_partial}
use Rattle.dr_reading.specs.ServingLaws.{KeptPiecesAreTrue}

-- ---- kept pieces

abbrev Each : (TabletPiece → Type 0) → List TabletPiece → Type 0
Each P [] = Unit {0}
Each P (p ∷ ps) = P p × Each P ps

each_of : (P : TabletPiece → Type 0) (ps : List TabletPiece) → All P ps → Each P ps
each_of P [] h = tt
each_of P (p ∷ ps) h = (h 0 p (omega arith), each_of P ps (λ k d e. h (suc k) d (omega (arith, e))))

kept_is_true : (s : Serving) (t : ℕ) (ps : List TabletPiece) → Each (λ (p : TabletPiece). IsTrueAt s p.tablet p) ps → list_any (λ u. u == t) (map (λ (p : TabletPiece). p.tablet) ps) ≡ true
    → IsTrueOf (truth_of s (copies_at s.tablets t)) (kept_partial ps t)
kept_is_true s t [] h e = absurd (true≢false (sym e))
kept_is_true s t (p ∷ ps) h e = by_test (p.tablet == t) refl e (kept_is_true s t ps h.1)
  where
    by_test : (b : Bool) → (p.tablet == t) ≡ b → (b || list_any (λ u. u == t) (map (λ (p : TabletPiece). p.tablet) ps)) ≡ true
        → (list_any (λ u. u == t) (map (λ (p : TabletPiece). p.tablet) ps) ≡ true → IsTrueOf (truth_of s (copies_at s.tablets t)) (kept_partial ps t))
        → IsTrueOf (truth_of s (copies_at s.tablets t)) (if b then p.partial else kept_partial ps t)
    by_test true k g r = subst (λ u. IsTrueOf (truth_of s (copies_at s.tablets u)) p.partial) (eqb-true p.tablet t k) h.0
    by_test false k g r = r g

true_from : (s : Serving) (piece : ℕ → Partial) (t : ℕ) (rest : List (List Copy)) → ((i j : ℕ) → i < length rest → t + i ≡ j → IsTrueOf (truth_of s (copies_at rest i)) (piece j)) → AreTrueFrom s piece t rest
true_from s piece t [] h = tt
true_from s piece t (copies ∷ rest) h =
    (h 0 t (omega arith) (omega arith), true_from s piece (suc t) rest (λ i j l e. h (suc i) j (omega (arith, l)) (omega (arith, e))))

pub kept_pieces_are_true : KeptPiecesAreTrue
kept_pieces_are_true s j history pieces k h =
    true_from s (kept_partial pieces) 0 s.tablets
    (λ i t l e. let q : i ≡ t = omega (arith, e) in
    subst (λ u. IsTrueOf (truth_of s (copies_at s.tablets i)) (kept_partial pieces u)) q
    (kept_is_true s i pieces (each_of (λ (p : TabletPiece). IsTrueAt s p.tablet p) pieces k.truths)
    (ap (list_any (λ u. u == i)) k.tablets ∙ (sym (answered_have_answers history i) ∙ h i l))))

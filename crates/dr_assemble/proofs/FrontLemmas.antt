-- The front of the strips that lead into a field.
use Rattle.std.proofs.Common.{◌≡◌, ℕ, ◌+◌, ◌-◌, ◌<◌, ◌≤◌, List, [], ◌∷◌, ◌++◌, map, length, get_or, take, drop, false, refl, sym, ap, ◌∙◌, arith, append-nil, subst, length-drop}
use Rattle.std.proofs.lemmas.List.{drop_more, take-map, drop-map, take_all, drop-drop}
use Rattle.dr_meaning.specs.Path.{Step}
use Rattle.dr_meaning.specs.Column.{Triplet}
use Rattle.dr_assemble.specs.Pieces.{begins_at}
use Rattle.dr_assemble.specs.Restoring.{Strip, without_step, front_if, front_at, after_if, after_front}
use Rattle.dr_assemble.specs.Views.{strip_view, strips_view}
use Rattle.dr_assemble.specs.declared.strip.Strip as code

front_none : (k : ℕ) (p : List Step) (ts : List Triplet) (F A S : List Strip) → begins_at k p ≡ false → (front_if k p ts F ≡ []) × (after_if k p A S ≡ S)
front_none k [] ts F A S h = (refl, refl)
front_none k (s ∷ p) ts F A S h = (rw h refl, rw h refl)

-- where the next strip doesn't lead into the field, the front ends
pub front_ends : (k : ℕ) (ss : List code.Strip) (n : ℕ) (s : code.Strip) → n < length ss → s ≡ get_or ss n s → begins_at k (strip_view s).rest ≡ false
    → (front_at k (strips_view (drop n ss)) ≡ []) × (after_front k (strips_view (drop n ss)) ≡ strips_view (drop n ss))
front_ends k ss n s h is e =
    let next : strips_view (drop n ss) ≡ strip_view s ∷ strips_view (drop (n + 1) ss) =
    ap strips_view (drop_more ss n s h ∙ ap (λ (x : code.Strip). x ∷ drop (n + 1) ss) (sym is)) in
    let rest : List Strip = strips_view (drop (n + 1) ss) in
    let none : (front_if k (strip_view s).rest (strip_view s).triplets (front_at k rest) ≡ []) × (after_if k (strip_view s).rest (after_front k rest) (strip_view s ∷ rest) ≡ strip_view s ∷ rest) =
    front_none k (strip_view s).rest (strip_view s).triplets (front_at k rest) (after_front k rest) (strip_view s ∷ rest) e in
    (ap (front_at k) next ∙ none.0, ap (after_front k) next ∙ none.1 ∙ sym next)

-- so the front is what came before
pub front_taken : (k : ℕ) (ss : List code.Strip) (n : ℕ) (F G : List Strip) → front_at k (strips_view ss) ≡ map without_step (strips_view (take n ss)) ++ G → G ≡ [] → map without_step (take n (strips_view ss)) ≡ front_at k (strips_view ss)
front_taken k ss n F G e g = ap (map without_step) (take-map strip_view n ss) ∙ sym (append-nil (map without_step (strips_view (take n ss)))) ∙ ap (λ (H : List Strip). map without_step (strips_view (take n ss)) ++ H) (sym g) ∙ sym e

-- the front of the strips from a place on, as they are lent
module _ (ss : List code.Strip) (from k n : ℕ) (within : from ≤ length ss) (short : n ≤ length (take (length ss - from) (drop from ss)))
    (front : map without_step (take n (strips_view (take (length ss - from) (drop from ss)))) ≡ front_at k (strips_view (take (length ss - from) (drop from ss))))
    (behind : drop n (strips_view (take (length ss - from) (drop from ss))) ≡ after_front k (strips_view (take (length ss - from) (drop from ss)))) where
  whole : take (length ss - from) (drop from ss) ≡ drop from ss
  whole = take_all (length ss - from) (drop from ss) (omega (arith, length-drop from ss))

  pub front_within : from + n ≤ length ss
  front_within = omega (arith, short, within, ap length whole, length-drop from ss)

  pub left_behind : strips_view (drop (from + n) ss) ≡ after_front k (strips_view (drop from ss))
  left_behind =
      ap strips_view (sym (drop-drop n from ss)) ∙ sym (drop-map strip_view n (drop from ss))
      ∙ subst (λ (xs : List code.Strip). drop n (strips_view xs) ≡ after_front k (strips_view xs)) whole behind

  -- of the strips without their first steps
  pub front_lent : (rs : List code.Strip) → strips_view rs ≡ map without_step (strips_view ss) → strips_view (take (from + n - from) (drop from rs)) ≡ front_at k (strips_view (drop from ss))
  front_lent rs e =
      let j : from + n - from ≡ n = omega arith in
      sym (take-map strip_view (from + n - from) (drop from rs))
      ∙ ap (take (from + n - from)) (sym (drop-map strip_view from rs) ∙ ap (drop from) e ∙ drop-map without_step from (strips_view ss) ∙ ap (map without_step) (drop-map strip_view from ss))
      ∙ ap (λ (m : ℕ). take m (map without_step (strips_view (drop from ss)))) j ∙ take-map without_step n (strips_view (drop from ss))
      ∙ subst (λ (xs : List code.Strip). map without_step (take n (strips_view xs)) ≡ front_at k (strips_view xs)) whole front

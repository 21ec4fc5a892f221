-- What was read last where an instance is left: of its own leaves their values in it, of leaves outside of it what was read before.
use Rattle.std.proofs.Common.{◌≡◌, ℕ, List, ◌∷◌, ◌++◌, Bool, true, false, Option, Some, refl, sym, ap, ap₂, ◌∙◌}
use Rattle.std.specs.Prelude.{◌==◌, if◌then◌else◌}
use Rattle.dr_meaning.specs.Schema.{Shape}
use Rattle.dr_meaning.specs.Path.{Step, is_shape_path, max_repetition}
use Rattle.dr_meaning.specs.Record.{Value, Instance, is_instance}
use Rattle.dr_meaning.specs.Rows.{value_in}
use Rattle.dr_meaning.specs.Column.{Triplet}
use Rattle.dr_meaning.specs.Automaton.{Pick}
use Rattle.dr_meaning.specs.Walk.{leave, Depth, moves_in, shape_near_moves, shape_far_moves}
use Rattle.dr_meaning.proofs.WalkLemmas.{of_append, Only, Without, shape_near_nothing, shape_far_nothing}
use Rattle.dr_moves.specs.Context.{Context, with_value}
use Rattle.dr_moves.specs.Tour.{Tour, over, saw, inside, moves_of, after}
use Rattle.dr_moves.proofs.ReadingLemmas.{new, last, last_append, silent, last_single}
use Rattle.dr_moves.proofs.NearLemmas.{shape_far_silent, shape_once}

-- behind a tour a leaf has the value that was read last
pub after_last : (T : Tour) (c : Context) (k : ℕ) → after c T k ≡ last k (c k) (moves_of T)
after_last over c k = refl
after_last (saw i t T) c k = after_last T (with_value i t.value c) k ∙ ap (λ (v : Option Value). last k v (moves_of T)) (by_leaf (i == k))
  where
    by_leaf : (b : Bool) → (if b then t.value else c k) ≡ new b t (c k)
    by_leaf true = refl
    by_leaf false = refl
after_last (inside j B T) c k =
    after_last T (after c B) k
    ∙ ap (λ (v : Option Value). last k v (moves_of T)) (after_last B c k)
    ∙ sym (last_append k (c k) (moves_of B) (leave j ∷ moves_of T))

module _ (h : Shape) (G : List Pick) (j : ℕ) (at : Depth) (T : Tour) (c : Context) (k : ℕ) where
  -- a leaf of the instance that is below none of its repeated fields
  pub own_at_leave : (q : List Step) (x : Instance) → Only k q G → is_shape_path h q ≡ true → max_repetition q ≡ 0 → is_instance h x ≡ true
      → moves_of T ≡ moves_in (shape_near_moves h G) (shape_far_moves h G j) at (Some x) → after c T k ≡ value_in q x
  own_at_leave q x o u z v m =
      let w = shape_once k h q z G o u at (Some x) v in
      after_last T c k ∙ ap (last k (c k)) m ∙ last_append k (c k) (shape_near_moves h G at (Some x)) (shape_far_moves h G j at (Some x))
      ∙ silent k (last k (c k) (shape_near_moves h G at (Some x))) (shape_far_moves h G j at (Some x)) (shape_far_silent k h q z G o u j at (Some x))
      ∙ last_single k (c k) (shape_near_moves h G at (Some x)) w.given w.once ∙ w.with_value

  -- a leaf that isn't in the instance
  pub outside_at_leave : (x : Option Instance) → Without k G → moves_of T ≡ moves_in (shape_near_moves h G) (shape_far_moves h G j) at x → after c T k ≡ c k
  outside_at_leave x w m =
      after_last T c k ∙ ap (last k (c k)) m
      ∙ silent k (c k) (moves_in (shape_near_moves h G) (shape_far_moves h G j) at x)
      (of_append k (shape_near_moves h G at x) (shape_far_moves h G j at x) ∙ ap₂ (λ (a b : List Triplet). a ++ b) (shape_near_nothing k h G at x w) (shape_far_nothing k h G j at x w))

-- A tour is determined by its moves, and what a tour makes is what its parts make.
use Rattle.std.proofs.Common.{◌≡◌, ℕ, List, [], ◌∷◌, ◌++◌, Bool, true, false, Option, refl, sym, ap, ap₂, ◌∙◌, append_assoc, append-nil}
use Rattle.std.specs.Prelude.{◌||◌, ◌&&◌, ◌==◌, if◌then◌else◌}
use Rattle.dr_meaning.specs.Column.{Triplet}
use Rattle.dr_meaning.specs.Walk.{Move, enter, value, leave}
use Rattle.dr_kept_laws.specs.Tours.{joined, OneTour}
use Rattle.dr_moves.specs.Context.{Context, with_value}
use Rattle.dr_moves.specs.Tour.{Tour, over, saw, inside, moves_of, after}
use Rattle.dr_moves.specs.Condition.{Watch, some_true, rest_below, is_dropped}
use Rattle.dr_moves.specs.Cutting.{flow}

-- ---- moves behind a tour

-- no more moves, or those behind an instance's end
abbrev pub IsEnd : List Move → Type 0
IsEnd [] = Unit {0}
IsEnd (enter k ∷ ms) = ⊥
IsEnd (value i t ∷ ms) = ⊥
IsEnd (leave k ∷ ms) = Unit {0}

not_over_saw : (i : ℕ) (t : Triplet) (ms ns : List Move) → IsEnd ms → ms ≡ value i t ∷ ns → ⊥
not_over_saw i t [] ns h e = cc
not_over_saw i t (enter k ∷ ms) ns h e = h
not_over_saw i t (value j u ∷ ms) ns h e = h
not_over_saw i t (leave k ∷ ms) ns h e = cc

not_over_inside : (k : ℕ) (ms ns : List Move) → IsEnd ms → ms ≡ enter k ∷ ns → ⊥
not_over_inside k [] ns h e = cc
not_over_inside k (enter j ∷ ms) ns h e = h
not_over_inside k (value j u ∷ ms) ns h e = h
not_over_inside k (leave j ∷ ms) ns h e = cc

-- two tours before such moves
pub same_front : (T U : Tour) (ms ns : List Move) → IsEnd ms → IsEnd ns → moves_of T ++ ms ≡ moves_of U ++ ns → (T ≡ U) × (ms ≡ ns)
same_front over over ms ns h g e = (refl, e)
same_front over (saw i t U) ms ns h g e = absurd (not_over_saw i t ms (moves_of U ++ ns) h e)
same_front over (inside k D U) ms ns h g e = absurd (not_over_inside k ms ((moves_of D ++ leave k ∷ moves_of U) ++ ns) h e)
same_front (saw i t T) over ms ns h g e = absurd (not_over_saw i t ns (moves_of T ++ ms) g (sym e))
same_front (saw i t T) (saw j u U) ms ns h g e =
    let a : i ≡ j = cc in
    let b : t ≡ u = cc in
    let c : moves_of T ++ ms ≡ moves_of U ++ ns = cc in
    let w : (T ≡ U) × (ms ≡ ns) = same_front T U ms ns h g c in
    (ap₂ (λ (x : ℕ) (y : Triplet). saw x y T) a b ∙ ap (saw j u) w.0, w.1)
same_front (saw i t T) (inside k D U) ms ns h g e = absurd (cc)
same_front (inside k B T) over ms ns h g e = absurd (not_over_inside k ns ((moves_of B ++ leave k ∷ moves_of T) ++ ms) g (sym e))
same_front (inside k B T) (saw j u U) ms ns h g e = absurd (cc)
same_front (inside k B T) (inside j D U) ms ns h g e =
    let a : k ≡ j = cc in
    let b : (moves_of B ++ leave k ∷ moves_of T) ++ ms ≡ (moves_of D ++ leave j ∷ moves_of U) ++ ns = cc in
    let c : moves_of B ++ leave k ∷ (moves_of T ++ ms) ≡ moves_of D ++ leave j ∷ (moves_of U ++ ns) = sym (append_assoc (moves_of B) (leave k ∷ moves_of T) ms) ∙ b ∙ append_assoc (moves_of D) (leave j ∷ moves_of U) ns in
    let w : (B ≡ D) × (leave k ∷ (moves_of T ++ ms) ≡ leave j ∷ (moves_of U ++ ns)) = same_front B D (leave k ∷ (moves_of T ++ ms)) (leave j ∷ (moves_of U ++ ns)) tt tt c in
    let d : leave k ∷ (moves_of T ++ ms) ≡ leave j ∷ (moves_of U ++ ns) = w.1 in
    let f : moves_of T ++ ms ≡ moves_of U ++ ns = cc in
    let v : (T ≡ U) × (ms ≡ ns) = same_front T U ms ns h g f in
    (ap₂ (λ (x : ℕ) (y : Tour). inside x y T) a w.0 ∙ ap (inside j D) v.0, v.1)

pub one_tour : OneTour
one_tour T U e = (same_front T U [] [] tt tt (append-nil (moves_of T) ∙ e ∙ sym (append-nil (moves_of U)))).0

-- ---- one tour before another

pub joined_moves : (T U : Tour) → moves_of (joined T U) ≡ moves_of T ++ moves_of U
joined_moves over U = refl
joined_moves (saw i t T) U = ap (λ (x : List Move). value i t ∷ x) (joined_moves T U)
joined_moves (inside k B T) U = ap (λ (x : List Move). enter k ∷ (moves_of B ++ leave k ∷ x)) (joined_moves T U)
    ∙ sym (ap (λ (x : List Move). enter k ∷ x) (append_assoc (moves_of B) (leave k ∷ moves_of T) (moves_of U)))

pub joined_after : (c : Context) (T U : Tour) → after c (joined T U) ≡ after (after c T) U
joined_after c over U = refl
joined_after c (saw i t T) U = joined_after (with_value i t.value c) T U
joined_after c (inside k B T) U = joined_after (after c B) T U

or_assoc : (a b c : Bool) → (a || (b || c)) ≡ ((a || b) || c)
or_assoc true b c = refl
or_assoc false b c = refl

pub joined_true : (w : Watch) (c : Context) (T U : Tour) → some_true w c (joined T U) ≡ (some_true w c T || some_true w (after c T) U)
joined_true w c over U = refl
joined_true w c (saw i t T) U =
    ap (λ (x : Bool). ((i == w.last) && w.test (with_value i t.value c)) || x) (joined_true w (with_value i t.value c) T U)
    ∙ or_assoc ((i == w.last) && w.test (with_value i t.value c)) (some_true w (with_value i t.value c) T) (some_true w (after (with_value i t.value c) T) U)
joined_true w c (inside k B T) U =
    ap (λ (x : Bool). some_true w c B || x) (joined_true w (after c B) T U) ∙ or_assoc (some_true w c B) (some_true w (after c B) T) (some_true w (after (after c B) T) U)

module _ {A : Type 0} (seen : ℕ → Context → List A) (left : ℕ → Context → List A → List A) (w : Watch) (r : Option (List ℕ)) where
  -- what tours one before another make
  pub joined_flow : (c : Context) (T U : Tour) → flow seen left w r c (joined T U) ≡ flow seen left w r c T ++ flow seen left w r (after c T) U
  joined_flow c over U = refl
  joined_flow c (saw i t T) U =
      ap (λ (x : List A). seen i (with_value i t.value c) ++ x) (joined_flow (with_value i t.value c) T U)
      ∙ sym (append_assoc (seen i (with_value i t.value c)) (flow seen left w r (with_value i t.value c) T) (flow seen left w r (after (with_value i t.value c) T) U))
  joined_flow c (inside k B T) U =
      ap (λ (x : List A). (if is_dropped (rest_below k r) (some_true w c B) then [] else left k (after c B) (flow seen left w (rest_below k r) c B)) ++ x) (joined_flow (after c B) T U)
      ∙ sym (append_assoc (if is_dropped (rest_below k r) (some_true w c B) then [] else left k (after c B) (flow seen left w (rest_below k r) c B))
      (flow seen left w r (after c B) T) (flow seen left w r (after (after c B) T) U))

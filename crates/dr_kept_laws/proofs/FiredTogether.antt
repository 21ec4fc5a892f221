-- What several readings make together is what each makes, in another order.
use Rattle.std.proofs.Common.{◌≡◌, ℕ, List, [], ◌∷◌, ◌++◌, Bool, true, false, Option, refl, sym, ap₂, subst, ◌∙◌, append_assoc}
use Rattle.std.specs.Prelude.{◌==◌, if◌then◌else◌, IsPermutation}
use Rattle.std.specs.List.{flat_map}
use Rattle.std.proofs.lemmas.List.Sorted.{IsPermutation-refl, IsPermutation-trans, IsPermutation-append, IsPermutation-append_comm, IsPermutation-append_left, IsPermutation-append_right}
use Rattle.dr_kept_laws.specs.GroupFlow.{left_with, Reading, fired_if, all_fired, left_if, all_left}
use Rattle.dr_moves.specs.Context.{Context, with_value}
use Rattle.dr_moves.specs.Tour.{Tour, over, saw, inside, after}
use Rattle.dr_moves.specs.Condition.{Watch, some_true, rest_below, is_dropped}
use Rattle.dr_moves.specs.Cutting.{flow}

module _ {X : Type 0} where
  -- two in the middle change places
  swapped : (a b u v : List X) → IsPermutation ((a ++ b) ++ (u ++ v)) ((a ++ u) ++ (b ++ v))
  swapped a b u v =
      subst (λ (z : List X). IsPermutation z ((a ++ u) ++ (b ++ v))) (sym (append_assoc a b (u ++ v)))
      (subst (λ (z : List X). IsPermutation (a ++ (b ++ (u ++ v))) z) (sym (append_assoc a u (b ++ v)))
      (IsPermutation-append_right a (b ++ (u ++ v)) (u ++ (b ++ v))
      (subst (λ (z : List X). IsPermutation z (u ++ (b ++ v))) (append_assoc b u v)
      (subst (λ (z : List X). IsPermutation ((b ++ u) ++ v) z) (append_assoc u b v) (IsPermutation-append_left v (b ++ u) (u ++ b) (IsPermutation-append_comm b u))))))

  both_swapped : (xs ys a b u v : List X) → IsPermutation xs (a ++ b) → IsPermutation ys (u ++ v) → IsPermutation (xs ++ ys) ((a ++ u) ++ (b ++ v))
  both_swapped xs ys a b u v h g = IsPermutation-trans (xs ++ ys) ((a ++ b) ++ (u ++ v)) ((a ++ u) ++ (b ++ v)) (IsPermutation-append xs (a ++ b) ys (u ++ v) h g) (swapped a b u v)

  module _ (a b : ℕ → Context → List X) (l m : Context → List X) (w : Watch) where
    abbrev first : Option (List ℕ) → Context → Tour → List X
    first r c T = flow a (left_with l) w r c T

    abbrev second : Option (List ℕ) → Context → Tour → List X
    second r c T = flow b (left_with m) w r c T

    abbrev both : Option (List ℕ) → Context → Tour → List X
    both r c T = flow (λ k c. a k c ++ b k c) (left_with (λ c. l c ++ m c)) w r c T

    left_swapped : (zero dropped : Bool) (c : Context) (xs ys zs : List X) → IsPermutation xs (ys ++ zs)
        → IsPermutation (if dropped then [] else (if zero then xs ++ (l c ++ m c) else xs)) ((if dropped then [] else (if zero then ys ++ l c else ys)) ++ (if dropped then [] else (if zero then zs ++ m c else zs)))
    left_swapped zero true c xs ys zs h = IsPermutation-refl []
    left_swapped true false c xs ys zs h = both_swapped xs (l c ++ m c) ys zs (l c) (m c) h (IsPermutation-refl (l c ++ m c))
    left_swapped false false c xs ys zs h = h

    -- two ways of firing and leaving, over the same moves
    pub flows_apart : (r : Option (List ℕ)) (c : Context) (T : Tour) → IsPermutation (both r c T) (first r c T ++ second r c T)
    flows_apart r c over = IsPermutation-refl []
    flows_apart r c (saw i t T) =
        both_swapped (a i (with_value i t.value c) ++ b i (with_value i t.value c)) (both r (with_value i t.value c) T) (a i (with_value i t.value c)) (b i (with_value i t.value c))
        (first r (with_value i t.value c) T) (second r (with_value i t.value c) T) (IsPermutation-refl (a i (with_value i t.value c) ++ b i (with_value i t.value c))) (flows_apart r (with_value i t.value c) T)
    flows_apart r c (inside k B T) =
        both_swapped (if is_dropped (rest_below k r) (some_true w c B) then [] else left_with (λ c. l c ++ m c) k (after c B) (both (rest_below k r) c B)) (both r (after c B) T)
        (if is_dropped (rest_below k r) (some_true w c B) then [] else left_with l k (after c B) (first (rest_below k r) c B))
        (if is_dropped (rest_below k r) (some_true w c B) then [] else left_with m k (after c B) (second (rest_below k r) c B))
        (first r (after c B) T) (second r (after c B) T)
        (left_swapped (k == 0) (is_dropped (rest_below k r) (some_true w c B)) (after c B) (both (rest_below k r) c B) (first (rest_below k r) c B) (second (rest_below k r) c B) (flows_apart (rest_below k r) c B))
        (flows_apart r (after c B) T)

  -- what one reading makes
  abbrev pub one_flow : Watch → Option (List ℕ) → Context → Tour → Reading X → List X
  one_flow w r c T x = flow (fired_if x.leaf x.fires) (left_with (left_if x.leaf x.fires)) w r c T

  either_nothing : (b d : Bool) → ◌++◌ {A = X} (if b then [] else (if d then [] else [])) [] ≡ []
  either_nothing true d = refl
  either_nothing false true = refl
  either_nothing false false = refl

  no_flow : (w : Watch) (r : Option (List ℕ)) (c : Context) (T : Tour) → flow {A = X} (all_fired []) (left_with (all_left [])) w r c T ≡ []
  no_flow w r c over = refl
  no_flow w r c (saw i t T) = no_flow w r (with_value i t.value c) T
  no_flow w r c (inside k B T) =
      ap₂ (λ (x y : List X). (if is_dropped (rest_below k r) (some_true w c B) then [] else (if k == 0 then x ++ [] else x)) ++ y) (no_flow w (rest_below k r) c B) (no_flow w r (after c B) T)
      ∙ either_nothing (is_dropped (rest_below k r) (some_true w c B)) (k == 0)

  -- what several make
  pub flows_of_each : (rs : List (Reading X)) (w : Watch) (r : Option (List ℕ)) (c : Context) (T : Tour)
      → IsPermutation (flow (all_fired rs) (left_with (all_left rs)) w r c T) (flat_map (one_flow w r c T) rs)
  flows_of_each [] w r c T = subst (λ (z : List X). IsPermutation z []) (sym (no_flow w r c T)) (IsPermutation-refl [])
  flows_of_each (x ∷ rs) w r c T =
      IsPermutation-trans (flow (all_fired (x ∷ rs)) (left_with (all_left (x ∷ rs))) w r c T) (one_flow w r c T x ++ flow (all_fired rs) (left_with (all_left rs)) w r c T) (one_flow w r c T x ++ flat_map (one_flow w r c T) rs)
      (flows_apart (fired_if x.leaf x.fires) (all_fired rs) (left_if x.leaf x.fires) (all_left rs) w r c T)
      (IsPermutation-append_right (one_flow w r c T x) (flow (all_fired rs) (left_with (all_left rs)) w r c T) (flat_map (one_flow w r c T) rs) (flows_of_each rs w r c T))

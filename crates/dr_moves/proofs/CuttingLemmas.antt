-- Appending and cutting makes what the kept moves make.
use Rattle.std.proofs.Common.{◌≡◌, ℕ, List, [], ◌∷◌, ◌++◌, length, take, drop, Bool, true, false, Option, refl, sym, ap, ap₂, ◌∙◌, append_assoc, append-nil}
use Rattle.std.specs.Prelude.{◌&&◌, ◌||◌, ◌==◌, if◌then◌else◌}
use Rattle.dr_meaning.specs.Walk.{Move, enter, value, leave}
use Rattle.dr_moves.specs.Context.{Context, with_value}
use Rattle.dr_moves.specs.Tour.{Tour, over, saw, inside, moves_of, after}
use Rattle.dr_moves.specs.Condition.{Watch, some_true, rest_below, is_dropped}
use Rattle.dr_moves.specs.Cutting.{flow, Branch, Going, hit_all, rest_of, left_branch, go, go_all, behind}

module _ {A : Type 0} (seen : ℕ → Context → List A) (left : ℕ → Context → List A → List A) (w : Watch) (r : Option (List ℕ)) where
  abbrev going : Context → List A → List Branch → Going A
  going c made bs = record { context = c; made = made; branches = bs }

  all_append : (ms ns : List Move) (g : Going A) → go_all seen left w r (ms ++ ns) g ≡ go_all seen left w r ns (go_all seen left w r ms g)
  all_append [] ns g = refl
  all_append (m ∷ ms) ns g = all_append ms ns (go seen left w r m g)

  or_false : (b : Bool) → (b || false) ≡ b
  or_false true = refl
  or_false false = refl

  or_assoc : (a b c : Bool) → ((a || b) || c) ≡ (a || (b || c))
  or_assoc true b c = refl
  or_assoc false b c = refl

  hit_none : (bs : List Branch) → hit_all false bs ≡ bs
  hit_none [] = refl
  hit_none (b ∷ bs) = ap₂ (λ (x : Bool) (y : List Branch). record { rest = b.rest; hit = x; mark = b.mark } ∷ y) (or_false b.hit) (hit_none bs)

  hit_twice : (a b : Bool) (bs : List Branch) → hit_all b (hit_all a bs) ≡ hit_all (a || b) bs
  hit_twice a b [] = refl
  hit_twice a b (x ∷ bs) = ap₂ (λ (y : Bool) (z : List Branch). record { rest = x.rest; hit = y; mark = x.mark } ∷ z) (or_assoc x.hit a b) (hit_twice a b bs)

  same_rest : (h : Bool) (bs : List Branch) → rest_of r (hit_all h bs) ≡ rest_of r bs
  same_rest h [] = refl
  same_rest h (b ∷ bs) = refl

  take_front : (xs ys : List A) → take (length xs) (xs ++ ys) ≡ xs
  take_front [] ys = refl
  take_front (x ∷ xs) ys = ap (λ (z : List A). x ∷ z) (take_front xs ys)

  drop_front : (xs ys : List A) → drop (length xs) (xs ++ ys) ≡ ys
  drop_front [] ys = refl
  drop_front (x ∷ xs) ys = drop_front xs ys

  -- out of a branch in which more was made
  left_behind : (k : ℕ) (c : Context) (made more : List A) (rest : Option (List ℕ)) (h : Bool) (bs : List Branch)
      → left_branch left k (record { context = c; made = made ++ more; branches = record { rest = rest; hit = h; mark = length made } ∷ bs }) (record { rest = rest; hit = h; mark = length made } ∷ bs)
      ≡ record { context = c; made = made ++ (if is_dropped rest h then [] else left k c more); branches = bs }
  left_behind k c made more rest h bs = by_test (is_dropped rest h)
    where
      by_test : (b : Bool) → going c (if b then take (length made) (made ++ more) else take (length made) (made ++ more) ++ left k c (drop (length made) (made ++ more))) bs ≡ going c (made ++ (if b then [] else left k c more)) bs
      by_test true = ap (λ (x : List A). record { context = c; made = x; branches = bs }) (take_front made more ∙ sym (append-nil made))
      by_test false = ap (λ (x : List A). record { context = c; made = x; branches = bs }) (ap₂ (λ (x y : List A). x ++ left k c y) (take_front made more) (drop_front made more))

  pub goes_behind : (T : Tour) (g : Going A) → go_all seen left w r (moves_of T) g ≡ behind seen left w r g T
  goes_behind over g = ap₂ (λ (x : List A) (y : List Branch). record { context = g.context; made = x; branches = y }) (sym (append-nil g.made)) (sym (hit_none g.branches))
  goes_behind (saw i t T) g =
      let c = with_value i t.value g.context in
      let h = (i == w.last) && w.test c in
      goes_behind T (go seen left w r (value i t) g)
      ∙ ap₂ (λ (x : List A) (y : List Branch). record { context = after c T; made = x; branches = y })
      (append_assoc g.made (seen i c) _ ∙ ap (λ (x : Option (List ℕ)). g.made ++ (seen i c ++ flow seen left w x c T)) (same_rest h g.branches))
      (hit_twice h (some_true w c T) g.branches)
  goes_behind (inside k B T) g =
      let b = rest_below k (rest_of r g.branches) in
      let h = some_true w g.context B in
      let c = after g.context B in
      let g0 = go seen left w r (enter k) g in
      let made2 = g.made ++ (if is_dropped b h then [] else left k c (flow seen left w b g.context B)) in
      let g2 : Going A = record { context = c; made = made2; branches = hit_all h g.branches } in
      let inner : go_all seen left w r (moves_of B) g0 ≡ behind seen left w r g0 B = goes_behind B g0 in
      let out : go seen left w r (leave k) (behind seen left w r g0 B) ≡ g2 = left_behind k c g.made (flow seen left w b g.context B) b h (hit_all h g.branches) in
      all_append (moves_of B) (leave k ∷ moves_of T) g0
      ∙ ap (go_all seen left w r (leave k ∷ moves_of T)) inner
      ∙ ap (go_all seen left w r (moves_of T)) out
      ∙ goes_behind T g2
      ∙ ap₂ (λ (x : List A) (y : List Branch). record { context = after c T; made = x; branches = y })
      (append_assoc g.made _ _ ∙ ap (λ (x : Option (List ℕ)). g.made ++ ((if is_dropped b h then [] else left k c (flow seen left w b g.context B)) ++ flow seen left w x c T)) (same_rest h g.branches))
      (hit_twice h (some_true w c T) g.branches)

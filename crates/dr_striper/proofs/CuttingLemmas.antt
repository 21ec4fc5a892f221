-- Branches, one after another.
use Rattle.std.proofs.Common.{◌≡◌, ◌<◌, ◌≤◌, ◌+◌, ℕ, zero, suc, List, [], ◌∷◌, ◌++◌, map, take, drop, set, get_or, length, refl, sym, ap, ap₂, ◌∙◌, arith}
use Rattle.std.proofs.lemmas.List.{map-append, take_more_set, drop-set-lt, take_all, drop_all}
use Rattle.std.proofs.lemmas.Grind.{drop_more_same}
use Rattle.dr_striper.specs.Added as added
use Rattle.dr_striper.specs.declared.branch.Branch.{Branch}
use Rattle.dr_striper.specs.Views.{twig_view, twigs_of, twigs_view}
use Rattle.dr_striper.specs.Back.{back_view, backs}

-- branches before others
abbrev pub onto : List added.Twig → added.Twigs → added.Twigs
onto [] bs = bs
onto (x ∷ xs) bs = added.twig x (onto xs bs)

onto-one : (xs : List added.Twig) (x : added.Twig) (bs : added.Twigs) → onto (xs ++ x ∷ []) bs ≡ onto xs (added.twig x bs)
onto-one [] x bs = refl
onto-one (y ∷ xs) x bs = ap (added.twig y) (onto-one xs x bs)

pub onto-none : (xs : List added.Twig) → onto xs added.no_twigs ≡ twigs_of xs
onto-none [] = refl
onto-none (x ∷ xs) = ap (added.twig x) (onto-none xs)

drop-at : (i : ℕ) (xs : List Branch) (d : Branch) → i < length xs → drop i xs ≡ get_or xs i d ∷ drop (i + 1) xs
drop-at i [] d h = absurd (omega (arith, h))
drop-at zero (x ∷ xs) d h = refl
drop-at (suc i) (x ∷ xs) d h =
    let e : suc (i + 1) ≡ suc i + 1 = omega arith in
    drop-at i xs d (omega (arith, h)) ∙ ap (λ (k : ℕ). get_or xs i d ∷ drop k (x ∷ xs)) e

-- one branch more is taken back
pub back-more : (kept i : ℕ) (now : List Branch) (x y : Branch) (whole : added.Twigs) → i < length now → twig_view y ≡ back_view (get_or now i x) kept
    → onto (map twig_view (take i now)) (backs kept (drop i now)) ≡ whole
    → onto (map twig_view (take (i + 1) (set now i y))) (backs kept (drop (i + 1) (set now i y))) ≡ whole
back-more kept i now x y whole h e w =
    ap₂ (λ (t d : List Branch). onto (map twig_view t) (backs kept d)) (take_more_set now i y h) (drop-set-lt (i + 1) now i y (omega arith))
    ∙ ap (λ (t : List added.Twig). onto t (backs kept (drop (i + 1) now))) (map-append twig_view (take i now) (y ∷ []))
    ∙ onto-one (map twig_view (take i now)) (twig_view y) (backs kept (drop (i + 1) now))
    ∙ ap (λ (b : added.Twig). onto (map twig_view (take i now)) (added.twig b (backs kept (drop (i + 1) now)))) e
    ∙ ap (λ (d : List Branch). onto (map twig_view (take i now)) (backs kept d)) (sym (drop-at i now x h))
    ∙ w

-- how many branches there are, in all
abbrev mutual
  pub size_one : added.Twig → ℕ
  size_one added.nothing = 0
  size_one (added.leaf k n own) = 0
  size_one (added.group k n own bs) = suc (size_each bs)

  pub size_each : added.Twigs → ℕ
  size_each added.no_twigs = 0
  size_each (added.twig b bs) = suc (size_one b + size_each bs)

size-drop : (i : ℕ) (xs : List Branch) → size_each (twigs_view (drop i xs)) ≤ size_each (twigs_view xs)
size-drop zero xs = omega arith
size-drop (suc i) [] = omega arith
size-drop (suc i) (x ∷ xs) = omega (arith, size-drop i xs)

pub size-at : (i : ℕ) (now old : List Branch) (x : Branch) → i < length now → drop i now ≡ drop i old → size_one (twig_view (get_or now i x)) < size_each (twigs_view old)
size-at i now old x h e =
    let k : size_each (twigs_view (drop i old)) ≡ suc (size_one (twig_view (get_or now i x)) + size_each (twigs_view (drop (i + 1) now))) = ap (λ (d : List Branch). size_each (twigs_view d)) (sym e ∙ drop-at i now x h) in
    omega (arith, k, size-drop i old)

pub drop-more : (i : ℕ) (now old : List Branch) (x y : Branch) → i < length now → drop i now ≡ drop i old → drop (i + 1) (set now i y) ≡ drop (i + 1) old
drop-more i now old x y h e = drop-set-lt (i + 1) now i y (omega arith) ∙ drop_more_same now old i e

pub back-all : (kept n : ℕ) (now : List Branch) (whole : added.Twigs) → length now ≤ n → onto (map twig_view (take n now)) (backs kept (drop n now)) ≡ whole → twigs_view now ≡ whole
back-all kept n now whole h w =
    sym (onto-none (map twig_view now))
    ∙ sym (ap₂ (λ (t d : List Branch). onto (map twig_view t) (backs kept d)) (take_all n now h) (drop_all n now h))
    ∙ w

-- Places that are filled: which are free, what is added, and any order of it.
use Rattle.std.specs.Prelude.{◌≡◌, ℕ, ◌+◌, ◌==◌, List, [], ◌∷◌, ◌++◌, map, length, Bool, true, false, ◌&&◌, ◌||◌, if◌then◌else◌, Option, Some, None}
use Rattle.std.proofs.Common.{refl, sym, ap, ap₂, ◌∙◌, arith, true≢false}
use Rattle.dr_partials.specs.Partials.{Partial}
use Rattle.dr_partials.specs.Trees.{tablets_of}
use Rattle.dr_tree.specs.GrowingLaws.{fill_all, CanFillAll, AnyOrderFillsAll}
use Rattle.dr_tree.specs.Places.{Place, free_places, tablets_at, is_free, is_free_for, has_free, filled, fill, added}
use Rattle.dr_tree.specs.Waiting.{are_full, is_some}

-- ---- the first place, by whether it is free

pub fill_here : (t : ℕ) (r : Partial) (p : Place) (ps : List Place) → is_free_for t p ≡ true → fill t r (p ∷ ps) ≡ filled t r ∷ ps
fill_here t r p ps h = ap (λ b. if b then filled t r ∷ ps else p ∷ fill t r ps) h

pub fill_there : (t : ℕ) (r : Partial) (p : Place) (ps : List Place) → is_free_for t p ≡ false → fill t r (p ∷ ps) ≡ p ∷ fill t r ps
fill_there t r p ps h = ap (λ b. if b then filled t r ∷ ps else p ∷ fill t r ps) h

-- by the first place a claim is shown that one is free: it, or one behind it
pub by_first : {P : Type 0} (t : ℕ) (p : Place) (ps : List Place) → has_free t (p ∷ ps) ≡ true → (is_free_for t p ≡ true → P) → (is_free_for t p ≡ false → has_free t ps ≡ true → P) → P
by_first {P} t p ps h here there = of_bool (is_free_for t p) refl
  where
    of_bool : (b : Bool) → is_free_for t p ≡ b → P
    of_bool true e = here e
    of_bool false e = there e (sym (ap (λ b. b || has_free t ps) e) ∙ h)

-- a free place has no partial, and is the tablet's
pub free_is : (t : ℕ) (p : Place) → is_free_for t p ≡ true → (p.tablet ≡ t) × (p.piece ≡ None)
free_is t p h = of_piece p.piece h refl
  where
    of_piece : (o : Option Partial) → is_free (p.tablet == t) o ≡ true → p.piece ≡ o → (p.tablet ≡ t) × (p.piece ≡ None)
    of_piece None e i = (grind (arith, e), i)
    of_piece (Some r) e i = absurd (true≢false (sym e))

-- ---- full places stay

full_is_kept : (t : ℕ) (p : Place) → is_some p.piece ≡ true → is_free_for t p ≡ false
full_is_kept t p h = of_piece p.piece h
  where
    of_piece : (o : Option Partial) → is_some o ≡ true → is_free (p.tablet == t) o ≡ false
    of_piece None e = absurd (true≢false (sym e))
    of_piece (Some r) e = refl

and_first : (a b : Bool) → (a && b) ≡ true → (a ≡ true) × (b ≡ true)
and_first true b h = (refl, h)
and_first false b h = absurd (true≢false (sym h))

pub fill_behind : (t : ℕ) (r : Partial) (done ps : List Place) → are_full done ≡ true → fill t r (done ++ ps) ≡ done ++ fill t r ps
fill_behind t r [] ps h = refl
fill_behind t r (p ∷ done) ps h =
    let k = and_first (is_some p.piece) (are_full done) h in
    fill_there t r p (done ++ ps) (full_is_kept t p k.0) ∙ ap (λ xs. p ∷ xs) (fill_behind t r done ps k.1)

pub full_append : (ps qs : List Place) → are_full ps ≡ true → are_full qs ≡ true → are_full (ps ++ qs) ≡ true
full_append [] qs h k = k
full_append (p ∷ ps) qs h k = let a = and_first (is_some p.piece) (are_full ps) h in ap₂ (λ x y. x && y) a.0 (full_append ps qs a.1 k)

-- ---- tablets

pub fill_tablets : (t : ℕ) (r : Partial) (ps : List Place) → tablets_at (fill t r ps) ≡ tablets_at ps
fill_tablets t r [] = refl
fill_tablets t r (p ∷ ps) = of_bool (is_free_for t p) refl (fill_tablets t r ps)
  where
    of_bool : (b : Bool) → is_free_for t p ≡ b → tablets_at (fill t r ps) ≡ tablets_at ps → tablets_at (fill t r (p ∷ ps)) ≡ tablets_at (p ∷ ps)
    of_bool true e behind = ap tablets_at (fill_here t r p ps e) ∙ ap (λ (u : ℕ). u ∷ tablets_at ps) (sym (free_is t p e).0)
    of_bool false e behind = ap tablets_at (fill_there t r p ps e) ∙ ap (λ us. p.tablet ∷ us) behind

pub free_tablets : (ts : List ℕ) → tablets_at (free_places ts) ≡ ts
free_tablets [] = refl
free_tablets (t ∷ ts) = ap (λ us. t ∷ us) (free_tablets ts)

pub none_added : (ts : List ℕ) → added (free_places ts) ≡ []
none_added [] = refl
none_added (t ∷ ts) = none_added ts

-- ---- any order

abbrev of_piece : (ℕ → Partial) → ℕ → Option Partial → Place
of_piece piece t None = filled t (piece t)
of_piece piece t (Some r) = filled t r

-- each place with its tablet's piece, unless it has one
abbrev all_full : (ℕ → Partial) → List Place → List Place
all_full piece ps = map (λ (p : Place). of_piece piece p.tablet p.piece) ps

abbrev free_one : Option Partial → ℕ
free_one None = 1
free_one (Some r) = 0

abbrev count_free : List Place → ℕ
count_free [] = 0
count_free (p ∷ ps) = free_one p.piece + count_free ps

piece_filled : (piece : ℕ → Partial) (t : ℕ) (ps : List Place) → has_free t ps ≡ true → all_full piece (fill t (piece t) ps) ≡ all_full piece ps
piece_filled piece t [] h = absurd (true≢false (sym h))
piece_filled piece t (p ∷ ps) h = by_first t p ps h
    (λ e. ap (all_full piece) (fill_here t (piece t) p ps e) ∙ ap (λ (q : Place). q ∷ all_full piece ps) (sym (ap₂ (of_piece piece) (free_is t p e).0 (free_is t p e).1)))
    (λ e k. ap (all_full piece) (fill_there t (piece t) p ps e) ∙ ap (λ qs. of_piece piece p.tablet p.piece ∷ qs) (piece_filled piece t ps k))

one_less : (t : ℕ) (r : Partial) (ps : List Place) → has_free t ps ≡ true → count_free (fill t r ps) + 1 ≡ count_free ps
one_less t r [] h = absurd (true≢false (sym h))
one_less t r (p ∷ ps) h = by_first t p ps h
    (λ e. let a = ap count_free (fill_here t r p ps e) in let b : free_one p.piece ≡ 1 = ap free_one (free_is t p e).1 in omega (arith, a, b))
    (λ e k. let a = ap count_free (fill_there t r p ps e) in let b = one_less t r ps k in omega (arith, a, b))

none_free : (piece : ℕ → Partial) (ps : List Place) → count_free ps ≡ 0 → all_full piece ps ≡ ps
none_free piece [] h = refl
none_free piece (p ∷ ps) h = by_piece p.piece refl (λ k. none_free piece ps k)
  where
    by_piece : (o : Option Partial) → p.piece ≡ o → (count_free ps ≡ 0 → all_full piece ps ≡ ps) → all_full piece (p ∷ ps) ≡ p ∷ ps
    by_piece None e behind = absurd (let b : free_one p.piece ≡ 1 = ap free_one e in omega (arith, b, h))
    by_piece (Some r) e behind =
        let here : of_piece piece p.tablet p.piece ≡ p = ap (of_piece piece p.tablet) e ∙ ap (λ (o : Option Partial). let q : Place = record { tablet = p.tablet; piece = o } in q) (sym e) in
        ap₂ (λ (q : Place) qs. q ∷ qs) here (behind (omega (arith, h)))

all_filled : (piece : ℕ → Partial) (order : List ℕ) (ps : List Place) → CanFillAll piece order ps → length order ≡ count_free ps → fill_all piece order ps ≡ all_full piece ps
all_filled piece [] ps h n = sym (none_free piece ps (sym n))
all_filled piece (t ∷ ts) ps h n = let k = one_less t (piece t) ps h.0 in all_filled piece ts (fill t (piece t) ps) h.1 (omega (arith, n, k)) ∙ piece_filled piece t ps h.0

free_filled : (piece : ℕ → Partial) (ts : List ℕ) → all_full piece (free_places ts) ≡ map (λ (t : ℕ). filled t (piece t)) ts
free_filled piece [] = refl
free_filled piece (t ∷ ts) = ap (λ qs. filled t (piece t) ∷ qs) (free_filled piece ts)

all_are_free : (ts : List ℕ) → count_free (free_places ts) ≡ length ts
all_are_free [] = refl
all_are_free (t ∷ ts) = let k = all_are_free ts in omega (arith, k)

pub any_order_fills_all : AnyOrderFillsAll
any_order_fills_all tree piece order h n =
    let ts = tablets_of tree in all_filled piece order (free_places ts) h (n ∙ sym (all_are_free ts)) ∙ free_filled piece ts

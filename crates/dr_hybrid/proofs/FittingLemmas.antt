-- Whether values are of a width, one after another.
use Rattle.std.proofs.Common.{◌≡◌, ℕ, ◌+◌, ◌^◌, ◌<◌, ◌≤◌, List, length, drop, get_or, Bool, true, false, ap, ◌∙◌}
use Rattle.std.proofs.lemmas.Bool.{lt-ltb, le-ltb}
use Rattle.std.proofs.lemmas.List.{drop_more, drop_all}
use Rattle.std.specs.Prelude.{nat_lt, ◌&&◌}
use Rattle.std.specs.List.{list_all}

abbrev pub fit : ℕ → List ℕ → Bool
fit w vs = list_all (λ v. nat_lt v (2 ^ w)) vs

-- so many fit
abbrev pub Fitting : ℕ → List ℕ → ℕ → Type 0
Fitting w vs i = fit w vs ≡ fit w (drop i vs)

pub fitting_more : (w : ℕ) (vs : List ℕ) (i : ℕ) → i < length vs → get_or vs i 0 < 2 ^ w → Fitting w vs i → Fitting w vs (i + 1)
fitting_more w vs i h l e = e ∙ (ap (fit w) (drop_more vs i 0 h) ∙ ap (λ b. b && fit w (drop (i + 1) vs)) (lt-ltb (get_or vs i 0) (2 ^ w) l))

pub fitting_ends : (w : ℕ) (vs : List ℕ) (i : ℕ) → i < length vs → 2 ^ w ≤ get_or vs i 0 → Fitting w vs i → fit w vs ≡ false
fitting_ends w vs i h l e = e ∙ (ap (fit w) (drop_more vs i 0 h) ∙ ap (λ b. b && fit w (drop (i + 1) vs)) (le-ltb (get_or vs i 0) (2 ^ w) l))

pub fitting_all : (w : ℕ) (vs : List ℕ) (i : ℕ) → length vs ≤ i → Fitting w vs i → fit w vs ≡ true
fitting_all w vs i h e = e ∙ ap (fit w) (drop_all i vs h)

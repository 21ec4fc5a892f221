-- What a pass shows: a history that it has seen, the places of its own events, and the tablets that it drew.
use Rattle.std.specs.Prelude.{◌≡◌, ℕ, suc, ◌==◌, ◌≤◌, Bool, true, false, List, [], ◌∷◌, ◌++◌, length, ⊤, None, Some}
use Rattle.std.specs.declared.option.Option.{Option}
use Rattle.std.specs.List.{list_any}
use mathlib.Core.List.{IsPrefix}
use Rattle.dr_dispatch.specs.declared.event.Event.{Event}
use Rattle.dr_dispatch.specs.declared.seen.PassShown.{PassShown}

-- the place is among these
abbrev pub has_place : ℕ → List ℕ → Bool
has_place p places = list_any (λ q. q == p) places

-- the pass added an event of its own behind this history
abbrev pub adds : List Event → Event → PassShown → PassShown
adds history e pass = record { seen = history ++ e ∷ []; own = pass.own ++ length history ∷ []; drawn = pass.drawn }

-- the pass saw this history, and added nothing
abbrev pub looks : List Event → PassShown → PassShown
looks history pass = record { seen = history; own = pass.own; drawn = pass.drawn }

-- the numbers with one more, where there is one
abbrev pub with_drawn : Option ℕ → List ℕ → List ℕ
with_drawn None numbers = numbers
with_drawn (Some t) numbers = numbers ++ t ∷ []

-- the pass drew this tablet, or none
abbrev pub drew : Option ℕ → PassShown → PassShown
drew drawn pass = record { seen = pass.seen; own = pass.own; drawn = with_drawn drawn pass.drawn }

-- the numbers ascend, from `least` on and below `end`
abbrev pub Ascends : ℕ → List ℕ → ℕ → Type 0
Ascends least [] end = least ≤ end
Ascends least (p ∷ places) end = (least ≤ p) × Ascends (suc p) places end

-- the history begins with what each pass has seen, and no place is an own one of two passes
abbrev pub AreOfHistory : List Event → List PassShown → Type 0
AreOfHistory history [] = ⊤
AreOfHistory history (pass ∷ others) =
    IsPrefix pass.seen history
    × ((p : ℕ) → has_place p pass.own ≡ true → list_any (λ (other : PassShown). has_place p other.own) others ≡ false)
    × AreOfHistory history others

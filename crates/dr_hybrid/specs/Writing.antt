-- What is asked of values that are written, and what is left where memory ran out.
use Rattle.std.specs.Prelude.{◌≡◌, ℕ, ◌^◌, List, ◌++◌, true, nat_lt}
use Rattle.std.specs.List.{list_all}

-- each value is of this width
abbrev pub AreBelow : ℕ → List ℕ → Type 0
AreBelow width vs = list_all (λ v. nat_lt v (2 ^ width)) vs ≡ true

-- the bytes so far are still there, with others behind them
abbrev pub BeginsWith : List ℕ → List ℕ → Type 0
BeginsWith old new = (more : List ℕ) × (new ≡ old ++ more)

-- What a source shows, and what a read does to the bytes that it has left, where it tells them.
use Rattle.std.specs.Prelude.{◌≡◌, ◌↔◌, ℕ, Bool, List, [], ◌++◌, None, Some, ⊤}
use Rattle.std.specs.declared.option.Option.{Option}

-- what a source shows at one moment
pub record SourceShown : Type 0 where
  -- the bytes that are left, or none where it doesn't tell them
  pub left : Option (List ℕ)
  -- how many faults there were, at most 2^64 - 1
  pub faults : ℕ
  -- no read fails from here on
  pub is_steady : Bool

-- the bytes were the front of what was left before, and the rest is left after
abbrev pub Took : Option (List ℕ) → Option (List ℕ) → List ℕ → Type 0
Took None after bytes = ⊤
Took (Some all) None bytes = ⊥
Took (Some all) (Some rest) bytes = all ≡ bytes ++ rest

-- a read of n bytes took none exactly where nothing was left
abbrev pub EndsExactly : Option (List ℕ) → ℕ → Type 0
EndsExactly None n = ⊤
EndsExactly (Some all) n = (n ≡ 0) ↔ (all ≡ [])

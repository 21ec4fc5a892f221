-- What a sink shows, and what a write does to the bytes that it holds, where it tells them.
use Rattle.std.specs.Prelude.{◌≡◌, ◌<◌, ◌≤◌, ◌+◌, ℕ, List, ◌++◌, length, None, Some, ⊤}
use Rattle.std.specs.declared.option.Option.{Option}

-- what a sink shows at one moment
pub record SinkShown : Type 0 where
  -- the bytes that were written, or none where it doesn't tell them
  pub written : Option (List ℕ)
  -- how many faults there were, at most 2^64 - 1
  pub faults : ℕ
  -- how many writes were asked for, at most 2^64 - 1
  pub calls : ℕ

-- the bytes stand behind what was written before
abbrev pub Added : Option (List ℕ) → Option (List ℕ) → List ℕ → Type 0
Added None after bytes = ⊤
Added (Some old) None bytes = ⊥
Added (Some old) (Some new) bytes = new ≡ old ++ bytes

-- the whole piece was written, by no more writes than it has bytes
pub record AddedWhole (before after : SinkShown) (piece : List ℕ) : Type 0 where
  pub bytes : Added before.written after.written piece
  pub calls : after.calls ≤ before.calls + length piece

-- a front of the piece was written, by no more writes than it has bytes and one; the rest is not empty
pub record AddedFront (before after : SinkShown) (piece : List ℕ) : Type 0 where
  pub front : List ℕ
  pub rest : List ℕ
  pub cut : piece ≡ front ++ rest
  pub some_left : 0 < length rest
  pub bytes : Added before.written after.written front
  pub calls : after.calls ≤ before.calls + length front + 1

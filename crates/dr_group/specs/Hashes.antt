-- The hash of a key tuple: of its cells, one after another. Equal key tuples have equal hashes; nothing else is asked of it.
use Rattle.std.specs.Prelude.{ℕ, List, [], ◌∷◌, Option, Some, None}
use Rattle.std.specs.List.{fold, flat_map}
use Rattle.std.specs.Hash as fed
use Rattle.std.specs.Hash.FoldHasher as folding
use Rattle.dr_meaning.specs.Record.{Value, bool_value, int_value, text_value}

-- what of a cell is hashed: a number's or a text's bytes, a truth value as 0 or 1, NULL as 2
abbrev pub cell_writes : Option Value → List (List ℕ)
cell_writes None = fed.u8 2
cell_writes (Some (bool_value b)) = fed.bool b
cell_writes (Some (int_value z)) = fed.i64 z
cell_writes (Some (text_value bs)) = bs ∷ []

-- what of a key tuple is hashed
abbrev pub tuple_writes : List (Option Value) → List (List ℕ)
tuple_writes t = flat_map cell_writes t

-- the hash of a key tuple
unfoldable pub tuple_hash : List (Option Value) → ℕ
tuple_hash t = folding.finish (fold folding.write folding.initial (tuple_writes t))

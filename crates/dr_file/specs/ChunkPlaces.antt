-- Chunks together.
use Rattle.std.specs.Prelude.{ℕ, List}
use Rattle.dr_formats.specs.File.{total}
use Rattle.dr_file.specs.declared.chunk_place.ChunkPlace.{ChunkPlace}

-- how many triplets these chunks are said to have
abbrev pub all_values : List ChunkPlace → ℕ
all_values cs = total (λ (c : ChunkPlace). c.values) cs

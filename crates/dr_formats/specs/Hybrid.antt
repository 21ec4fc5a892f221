-- The RLE / bit-packing hybrid (Apache Parquet, Encodings, "Run Length Encoding / Bit-Packing Hybrid"), without the length before it.
use Rattle.std.specs.Prelude.{◌≡◌, ◌⊎◌, ◌<◌, ℕ, zero, suc, ◌+◌, ◌-◌, ◌*◌, ◌/◌, ◌%◌, min, List, [], ◌∷◌, ◌++◌, length, take, replicate, ◌||◌, ◌==◌}
use Rattle.std.specs.Prelude.{nat_le, if◌then◌else◌, Option, Some, None}
use Rattle.dr_formats.specs.Reading.{Reading, got, refused, Reader, give, ◌>>=◌, bytes_of}
use Rattle.dr_formats.specs.Varint.{varint, varint_bytes, SpellsNumber}
use Rattle.dr_formats.specs.LittleEndian.{little_endian, little_endian_bytes, unpacked, packed, bytes_for}

-- too few bytes for the wanted values
pub data HybridFault : Type 0 where
  short : HybridFault

-- one value, in whole bytes, so many times, of which at most n are wanted
abbrev pub repeat_run : ℕ → ℕ → ℕ → Reader HybridFault (List ℕ)
repeat_run width count n = do
  b ← bytes_of short (bytes_for width)
  give (replicate (min count n) (little_endian b))

-- so many groups of eight packed values, of which at most n are wanted; only the bytes that hold wanted values are needed
abbrev pub packed_run : ℕ → ℕ → ℕ → Reader HybridFault (List ℕ)
packed_run width groups n = do
  b ← bytes_of short (bytes_for (min (8 * groups) n * width))
  give (unpacked (min (8 * groups) n) width (little_endian b))

-- a run by its header: even, a repeat; odd, packed
abbrev pub run : ℕ → ℕ → ℕ → Reader HybridFault (List ℕ)
run width n header = if header % 2 == 0 then repeat_run width (header / 2) n else packed_run width (header / 2) n

-- at most so many runs, one after another, until n values are there
abbrev pub runs : ℕ → ℕ → ℕ → Reader HybridFault (List ℕ)
runs k width zero = give []
runs zero width (suc n) = refused short
runs (suc k) width (suc n) = do
  header ← varint short short
  vs ← run width (suc n) header
  more ← runs k width (suc n - length vs)
  give (vs ++ more)

-- the values of what was read
abbrev pub values_read : Reading HybridFault (List ℕ) → Option (List ℕ)
values_read (got vs rest) = Some vs
values_read (refused e rest) = None

-- the n values of this width with which the bytes begin, where they do; each run takes a byte at least, so there are at most as many as bytes
unfoldable pub hybrid : ℕ → ℕ → List ℕ → Option (List ℕ)
hybrid width n bytes = values_read (runs (length bytes) width n bytes)

-- ---- every spelling, as a relation between bytes and values

-- a repeat with this header and these bytes behind it, of which at most n values are wanted
abbrev pub SpellsRepeat : ℕ → ℕ → ℕ → List ℕ → List ℕ → Type 0
SpellsRepeat width n header part vs = (count : ℕ) × (header ≡ 2 * count) × (length part ≡ bytes_for width) × (vs ≡ replicate (min count n) (little_endian part))

-- groups of eight packed values, as many bytes of them as hold wanted values
abbrev pub SpellsPacked : ℕ → ℕ → ℕ → List ℕ → List ℕ → Type 0
SpellsPacked width n header part vs = (groups : ℕ) × (header ≡ 2 * groups + 1) × (length vs ≡ min (8 * groups) n)
    × (length part ≡ bytes_for (length vs * width)) × (vs ≡ unpacked (length vs) width (little_endian part))

-- so many runs, before each of which a value is wanted, whose values are the n wanted ones; what follows doesn't matter
abbrev pub SpellsRuns : ℕ → ℕ → ℕ → List ℕ → List ℕ → Type 0
SpellsRuns zero width n bytes vs = (n ≡ 0) × (vs ≡ [])
SpellsRuns (suc k) width n bytes vs = (0 < n) × (h : List ℕ) × (part : List ℕ) × (behind : List ℕ) × (header : ℕ) × (us : List ℕ) × (ws : List ℕ)
    × (bytes ≡ h ++ (part ++ behind)) × SpellsNumber h header × (SpellsRepeat width n header part us ⊎ SpellsPacked width n header part us)
    × SpellsRuns k width (n - length us) behind ws × (vs ≡ us ++ ws)

-- whether the bytes begin with runs whose values begin with these n
abbrev pub Runs : List ℕ → ℕ → ℕ → List ℕ → Type 0
Runs bytes width n vs = (k : ℕ) × SpellsRuns k width n bytes vs

-- ---- what is written: where at least eight equal values follow, or nothing but equal values, a repeat of them; else one group of the next eight,
-- padded with 0

-- how many values at the front equal this one
abbrev pub equal_front : ℕ → List ℕ → ℕ
equal_front v [] = 0
equal_front v (x ∷ xs) = if x == v then suc (equal_front v xs) else 0

-- a run: its bytes and how many values it takes
pub record WrittenRun : Type 0 where
  pub bytes : List ℕ
  pub taken : ℕ

-- a repeat of so many of a value
abbrev pub repeat_of : ℕ → ℕ → ℕ → WrittenRun
repeat_of width m v = record { bytes = varint_bytes (2 * m) ++ little_endian_bytes (bytes_for width) v; taken = m }

-- a group of the next eight values
abbrev pub group_of : ℕ → List ℕ → WrittenRun
group_of width vs = record { bytes = 3 ∷ little_endian_bytes width (packed width (take 8 vs)); taken = 8 }

-- the next run, where m equal values come first
abbrev pub next_run : ℕ → ℕ → ℕ → List ℕ → WrittenRun
next_run width m v vs = if nat_le 8 m || (m == length vs) then repeat_of width m v else group_of width vs

-- the runs of the values behind the first k, which are in runs already
abbrev pub runs_behind : ℕ → ℕ → List ℕ → List ℕ
runs_behind width k [] = []
runs_behind width (suc k) (v ∷ vs) = runs_behind width k vs
runs_behind width zero (v ∷ vs) = (next_run width (suc (equal_front v vs)) v (v ∷ vs)).bytes
    ++ runs_behind width ((next_run width (suc (equal_front v vs)) v (v ∷ vs)).taken - 1) vs

-- the bytes that are written for values of this width
unfoldable pub hybrid_bytes : ℕ → List ℕ → List ℕ
hybrid_bytes width vs = runs_behind width 0 vs

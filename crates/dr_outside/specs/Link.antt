-- What a link shows: what it holds, what it was asked for, and what was put.
use Rattle.std.specs.Prelude.{◌≡◌, ◌≢◌, ◌<◌, ◌≤◌, ◌+◌, ℕ, Bool, List, [], ◌∷◌, ◌++◌, length, take, drop, None, Some, ⊤, IsSome}
use Rattle.std.specs.Option.{option_map}
use Rattle.std.specs.declared.option.Option.{Option}

-- the bytes at each path that is held
abbrev pub Files : Type 0
Files = List ℕ → Option (List ℕ)

-- a range of the bytes at a path
pub record Range : Type 0 where
  pub path : List ℕ
  pub start : ℕ
  pub len : ℕ

-- what a link is asked for
pub data Request : Type 0 where
  -- the number of bytes at a path
  size_of : List ℕ → Request
  -- the bytes of a range
  bytes_of : Range → Request

-- a put, as it is told: the path and the bytes
pub record PutShown : Type 0 where
  pub path : List ℕ
  pub bytes : List ℕ

-- what a link shows at one moment
pub record LinkShown : Type 0 where
  -- the bytes at each path that is held, or none where it doesn't tell
  pub held : Option Files
  -- what it was asked for, given or refused, in order, or none where it doesn't tell
  pub asked : Option (List Request)
  -- the puts that a keeper was asked for, given or refused, in order, or none where it doesn't tell
  pub puts : Option (List PutShown)
  -- how many faults there were, at most 2^64 - 1
  pub faults : ℕ
  -- from here on only a path that isn't held, or a range past its end, fails
  pub is_steady : Bool

-- the bytes at a path reach to this place
abbrev pub Reaches : Option (List ℕ) → ℕ → Type 0
Reaches None end = ⊥
Reaches (Some bytes) end = end ≤ length bytes

-- there are no bytes at a path, or they end before this place
abbrev pub FallsShort : Option (List ℕ) → ℕ → Type 0
FallsShort None end = ⊤
FallsShort (Some bytes) end = length bytes < end

-- these are the bytes of a file from a place on
abbrev pub IsPartAt : Option (List ℕ) → ℕ → List ℕ → Type 0
IsPartAt None start part = ⊥
IsPartAt (Some bytes) start part = (start + length part ≤ length bytes) × (part ≡ take (length part) (drop start bytes))

-- the link tells that the path is held
abbrev pub Holds : Option Files → List ℕ → Type 0
Holds None path = ⊥
Holds (Some files) path = IsSome (files path)

-- the link tells that the path isn't held
abbrev pub Lacks : Option Files → List ℕ → Type 0
Lacks None path = ⊥
Lacks (Some files) path = files path ≡ None

-- the link tells that the path is held and has the range
abbrev pub HasRange : Option Files → Range → Type 0
HasRange None range = ⊥
HasRange (Some files) range = Reaches (files range.path) (range.start + range.len)

-- the link tells that the path isn't held, or that its bytes end before the range does
abbrev pub LacksRange : Option Files → Range → Type 0
LacksRange None range = ⊥
LacksRange (Some files) range = FallsShort (files range.path) (range.start + range.len)

-- n is the number of bytes at the path, which is held; nothing is said where the link doesn't tell
abbrev pub HasSize : Option Files → List ℕ → ℕ → Type 0
HasSize None path n = ⊤
HasSize (Some files) path n = option_map length (files path) ≡ Some n

-- the bytes are those that the path has from a place on, and it is held; nothing is said where the link doesn't tell
abbrev pub HasBytes : Option Files → List ℕ → ℕ → List ℕ → Type 0
HasBytes None path start bytes = ⊤
HasBytes (Some files) path start bytes = IsPartAt (files path) start bytes

-- of a link that doesn't tell what it was asked for
abbrev pub unknown : Option (List Request)
unknown = None

-- what was asked for, with one request more
abbrev pub with_request : Option (List Request) → Request → Option (List Request)
with_request asked request = option_map (λ requests. requests ++ request ∷ []) asked

-- of a link that is no keeper: nothing was put
abbrev pub no_puts : Option (List PutShown)
no_puts = Some []

-- the puts, with one more
abbrev pub with_put : Option (List PutShown) → PutShown → Option (List PutShown)
with_put puts put = option_map (λ before. before ++ put ∷ []) puts

-- the path now has these bytes; nothing is said where the keeper didn't tell before
abbrev pub HasFile : Option Files → Option Files → List ℕ → List ℕ → Type 0
HasFile None after path bytes = ⊤
HasFile (Some old) None path bytes = ⊥
HasFile (Some old) (Some new) path bytes = new path ≡ Some bytes

-- each other path has what it had; nothing is said where the keeper didn't tell before
abbrev pub SameElsewhere : Option Files → Option Files → List ℕ → Type 0
SameElsewhere None after path = ⊤
SameElsewhere (Some old) None path = ⊥
SameElsewhere (Some old) (Some new) path = (other : List ℕ) → other ≢ path → new other ≡ old other

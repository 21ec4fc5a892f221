-- What a keeper holds after puts, and which puts it was asked for.
use Rattle.std.specs.Prelude.{◌≡◌, ◌≢◌, ℕ, Bool, true, false, List, [], ◌∷◌, ◌++◌, map, bytes_eq, if◌then◌else◌, Option, Some, None, ⊤}
use Rattle.std.specs.Option.{option_map}
use Rattle.dr_formats.specs.Loading.{Put}
use Rattle.dr_formats.specs.Tablets.{placement, tablet_path, copy_paths}
use Rattle.std.specs.Prelude.{length}
use Rattle.dr_outside.specs.Link.{Files, PutShown, LinkShown}
use Rattle.dr_meaning.specs.Lists.{nth_text}

-- a file on each copy of a tablet, in order
abbrev pub copies_of : List (List ℕ) → ℕ → ℕ → List ℕ → List Put
copies_of directories copies tablet bytes = map (λ path. record { path = path; bytes = bytes }) (copy_paths directories copies tablet)

-- where one copy of a tablet goes
abbrev pub copy_path : List (List ℕ) → ℕ → ℕ → List ℕ
copy_path directories tablet j = tablet_path (nth_text directories (placement (length directories) tablet j)) tablet

-- files with one put more
abbrev pub with_file : Files → Put → Files
with_file files p = λ path. if bytes_eq path p.path then Some p.bytes else files path

-- files after puts, in order
abbrev pub after_puts : List Put → Files → Files
after_puts [] files = files
after_puts (p ∷ ps) files = after_puts ps (with_file files p)

-- at each path there is what was held before, or what was put there last; nothing is said of a keeper that didn't tell before
abbrev pub HoldsPut : List Put → Option Files → Option Files → Type 0
HoldsPut ps None now = ⊤
HoldsPut ps (Some before) None = ⊥
HoldsPut ps (Some before) (Some now) = (path : List ℕ) → now path ≡ after_puts ps before path

-- at each path but one
abbrev pub HoldsPutElsewhere : List Put → List ℕ → Option Files → Option Files → Type 0
HoldsPutElsewhere ps spoiled None now = ⊤
HoldsPutElsewhere ps spoiled (Some before) None = ⊥
HoldsPutElsewhere ps spoiled (Some before) (Some now) = (path : List ℕ) → path ≢ spoiled → now path ≡ after_puts ps before path

-- a put, as a keeper tells it
abbrev pub put_shown : Put → PutShown
put_shown p = record { path = p.path; bytes = p.bytes }

abbrev pub shown : List Put → List PutShown
shown ps = map put_shown ps

-- in between, exactly these puts were asked for, in this order; nothing is said of a keeper that doesn't tell its puts
abbrev pub AsksPuts : List Put → Option (List PutShown) → Option (List PutShown) → Type 0
AsksPuts ps before now = now ≡ option_map (λ (told : List PutShown). told ++ shown ps) before

-- these puts were asked for and done, in this order, and no other
pub record HasPut (ps : List Put) (before now : LinkShown) : Type 0 where
  pub files : HoldsPut ps before.held now.held
  pub asks : AsksPuts ps before.puts now.puts

-- the put itself, where it is told
abbrev pub if_told : Bool → Put → List Put
if_told true p = p ∷ []
if_told false p = []

-- these puts were done, and then one failed, which is told or not: its path may hold anything; no other put was asked for
pub record HasFailed (told : Bool) (done : List Put) (p : Put) (before now : LinkShown) : Type 0 where
  pub files : HoldsPutElsewhere done p.path before.held now.held
  pub asks : AsksPuts (done ++ if_told told p) before.puts now.puts

-- some of the puts from the front on were done, and no other was asked for
abbrev pub HasPutSome : List Put → LinkShown → LinkShown → Type 0
HasPutSome ps before now = (done : List Put) × (rest : List Put) × (ps ≡ done ++ rest) × HasPut done before now

-- one of the puts failed, which is told or not: those before it were done, and none behind it was asked for
abbrev pub BreaksOff : Bool → List Put → LinkShown → LinkShown → Type 0
BreaksOff told ps before now = (done : List Put) × (p : Put) × (rest : List Put) × (ps ≡ done ++ p ∷ rest) × HasFailed told done p before now

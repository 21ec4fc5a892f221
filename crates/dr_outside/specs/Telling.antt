-- What a link tells of the file at a path, and what it is asked for.
use Rattle.std.specs.Prelude.{◌≡◌, ℕ, List, ◌++◌, Bool, true, ⊤, IsTrue, Some, None}
use Rattle.std.specs.List.{list_all}
use Rattle.std.specs.declared.option.Option.{Option}
use Rattle.dr_outside.specs.Link.{Files, LinkShown, Request}

-- of these files, the one at the path has these bytes
abbrev pub TellsFile : Option Files → List ℕ → List ℕ → Type 0
TellsFile None path bytes = ⊥
TellsFile (Some files) path bytes = files path ≡ Some bytes

-- the link tells that it holds these bytes at the path
abbrev pub Tells : LinkShown → List ℕ → List ℕ → Type 0
Tells s path bytes = TellsFile s.held path bytes

-- the link is steady, and tells that it holds these bytes at the path
abbrev pub Serves : LinkShown → List ℕ → List ℕ → Type 0
Serves s path bytes = IsTrue s.is_steady × Tells s path bytes

-- in between, only such requests were made as pass the test; nothing is said of a link that doesn't tell what it was asked for
abbrev pub AsksOnly : (Request → Bool) → Option (List Request) → Option (List Request) → Type 0
AsksOnly test None after = ⊤
AsksOnly test (Some before) after = (more : List Request) × (after ≡ Some (before ++ more)) × (list_all test more ≡ true)

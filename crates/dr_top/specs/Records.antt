-- What was read of the records of an input.
use Rattle.std.specs.Prelude.{◌≡◌, ℕ, List, length, map, Option, Ok}
use Rattle.dr_meaning.specs.Schema.{Fields}
use Rattle.dr_meaning.specs.Path.{Step}
use Rattle.dr_meaning.specs.Record as tree
use Rattle.dr_meaning.specs.Column.{Triplet, column}
use Rattle.dr_meaning.specs.Lines as line
use Rattle.dr_meaning.specs.Stripe.{most_striped}
use Rattle.dr_input.specs.Taken.{HasTaken, WhereTold}

-- so many lines of an input have been read, and P holds of their records
abbrev pub HasRead : Fields → ℕ → (List tree.Node → Type 0) → Option (List ℕ) → Option (List ℕ) → ℕ → Type 0
HasRead fs most P before now number =
    (ns : List tree.Node) × HasTaken fs most 0 ns before now × (length ns ≡ number) × P ns

-- P holds of the input's records, of which there are at most so many
abbrev pub OfRecords : Fields → ℕ → (List tree.Node → Type 0) → Option (List ℕ) → Type 0
OfRecords fs most P input = WhereTold input (λ bytes. (ns : List tree.Node) × (line.records_of fs most bytes ≡ Ok ns) × P ns)

-- the records have these columns
abbrev pub AreColumns : List (List Step) → List (List Triplet) → List tree.Node → Type 0
AreColumns F columns ns = columns ≡ map (λ p. column p ns) F

abbrev pub HasColumns : Fields → List (List Step) → Option (List ℕ) → List (List Triplet) → Type 0
HasColumns fs F input columns = OfRecords fs most_striped (AreColumns F columns) input

-- What is kept of a record is what has a true row in its walk.
use Rattle.std.specs.Prelude.{◌≡◌, ℕ, List, Bool, true, Some, is_some}
use Rattle.std.specs.List.{list_all, list_any, slice_get}
use Rattle.dr_meaning.specs.Schema.{Fields, Shape}
use Rattle.dr_meaning.specs.Path.{Step, chain_end, is_leaf_path, is_shape_path}
use Rattle.dr_meaning.specs.Record.{Node, Instances, Instance, single, is_record, is_instance}
use Rattle.dr_meaning.specs.Rows.{rows}
use Rattle.dr_meaning.specs.Kept.{keep_instance, kept_along}
use Rattle.dr_meaning.specs.Automaton.{Pick}
use Rattle.dr_meaning.specs.Walk.{Depth, moves_in, record_moves, shape_near_moves, shape_far_moves}
use Rattle.dr_moves.specs.Context.{Context}
use Rattle.dr_moves.specs.Firing.{AllTogether, IsRow}
use Rattle.dr_moves.specs.Tour.{Tour, moves_of}
use Rattle.dr_moves.specs.Condition.{Watch, some_true}
use Rattle.dr_moves.specs.Readers.{Only, Readers, IsRowInside}

-- a record is kept exactly where its condition is true in a row of the condition's chain
abbrev pub KeptWhereAnyRow : Type 0
KeptWhereAnyRow = (p : List Step) (test : Node → Bool) (n : Node) → is_some (kept_along p test n) ≡ list_any test (rows p n)

-- a record's tour has a true row exactly where the condition keeps the record
abbrev pub TrueRowKeeps : Type 0
TrueRowKeeps = (fs : Fields) (F : List (List Step)) (w : Watch) (p : List Step) (K : List ℕ) (n : Node) (c : Context) (test : Node → Bool) (T : Tour)
    → list_all (is_leaf_path fs) F ≡ true → slice_get F w.last ≡ Some p → is_record fs n ≡ true → AllTogether F w.last p K → ((d : Context) (row : Node) → IsRow F K d row → w.test d ≡ test row)
    → moves_of T ≡ record_moves fs F n → some_true w c T ≡ is_some (kept_along (chain_end p) test n)

-- the same of an instance on the condition's chain: row is the whole row that an instance makes, and test the condition in it
abbrev pub TrueRowKeepsInstance : Type 0
TrueRowKeepsInstance = (i : ℕ) (h : Shape) (G : List Pick) (p : List Step) (c : Context) → Only i p G → is_shape_path h p ≡ true → (j : ℕ) (at : Depth) (x : Instance) → is_instance h x ≡ true
    → (K : List ℕ) (r : Readers i h G p K) (w : Watch) (row : Instances → Node) (test : Node → Bool) (T : Tour) → w.last ≡ i
    → ((d : Context) (y : Instance) → IsRowInside i h G p c K r d y → w.test d ≡ test (row (single y)))
    → moves_of T ≡ moves_in (shape_near_moves h G) (shape_far_moves h G j) at (Some x)
    → some_true w c T ≡ is_some (keep_instance (kept_along (chain_end p)) (λ y. row (single y)) test x)

-- Key tuples that are kept in order, and numbers that are found by them.
use Rattle.std.specs.Prelude.{◌≡◌, ℕ, zero, suc, List, [], ◌∷◌, map, Bool, true, false, Option, Some}
use Rattle.std.specs.Ordering.{is_eq}
use Rattle.std.specs.Option.{IsSome}
use Rattle.std.specs.BTreeMap.{BTreeMap, get}
use Rattle.std.specs.declared.cmp.Ordering.{Ordering}
use Rattle.dr_meaning.specs.Record.{Value}
use Rattle.dr_meaning.specs.Query.{tuple_order}
use Rattle.dr_group.specs.Views.{cell_view}
use Rattle.dr_group.specs.declared.key.Key.{Key}

-- the key tuple that a key has
abbrev pub key_view : Key → List (Option Value)
key_view k = map cell_view k.cells.items

-- keys are ordered as key tuples are
abbrev pub key_order : Key → Key → Ordering
key_order x y = tuple_order (key_view x) (key_view y)

-- whether the key tuple stands at this place
abbrev pub has_tuple : List (List (Option Value)) → ℕ → List (Option Value) → Bool
has_tuple [] i t = false
has_tuple (u ∷ us) zero t = is_eq (tuple_order u t)
has_tuple (u ∷ us) (suc i) t = has_tuple us i t

-- each of these key tuples has a number, and each number is that of its key tuple
abbrev pub AreNumbered : BTreeMap Key ℕ → List (List (Option Value)) → Type 0
AreNumbered m tuples =
    ((k : Key) (i : ℕ) → has_tuple tuples i (key_view k) ≡ true → IsSome (get key_order m k))
    × ((k : Key) (i : ℕ) → get key_order m k ≡ Some i → has_tuple tuples i (key_view k) ≡ true)

-- What is gathered for the items with WITHIN, as more is joined to it.
use Rattle.std.specs.Prelude.{◌≡◌, ℕ, List, Bool, ◌==◌, if◌then◌else◌, Some}
use Rattle.std.specs.List.{list_any}
use Rattle.dr_meaning.specs.Query.{Aggregate, RecordItem as MeantItem}
use Rattle.dr_partials.specs.Accumulators.{Accumulator, empty_accumulator, join}
use Rattle.dr_within.specs.ObjectFraming.{aggregate_at, gathered_for, AreOfItems}
use Rattle.dr_within.specs.declared.within_values.ItemValues.{ItemValues}
use Rattle.dr_within.specs.declared.within_values.WithinValues.{WithinValues}

-- whether a number is among others
abbrev pub is_among : List ℕ → ℕ → Bool
is_among ks j = list_any (λ k. k == j) ks

-- what is said of what is gathered, for whatever items of which the one at a place has this aggregate
abbrev pub OverItems : ℕ → Aggregate → WithinValues → (List MeantItem → Type 0) → Type 0
OverItems item a v says = (items : List MeantItem) → aggregate_at items item ≡ Some a → AreOfItems items v.entries.items → says items

-- there is nothing more
pub record SameValues (items : List MeantItem) (before after : List ItemValues) : Type 0 where
  pub typed : AreOfItems items after
  pub gathers : (i : ℕ) (a : Aggregate) → aggregate_at items i ≡ Some a → gathered_for a i after ≡ gathered_for a i before

-- to what was gathered for the item at a place this is joined
pub record JoinsAt (items : List MeantItem) (j : ℕ) (more : Accumulator) (before after : List ItemValues) : Type 0 where
  pub typed : AreOfItems items after
  pub gathers : (i : ℕ) (a : Aggregate) → aggregate_at items i ≡ Some a
      → gathered_for a i after ≡ (if j == i then join (gathered_for a i before) more else gathered_for a i before)

-- what is gathered for an item, but for those at some places
abbrev pub gathered_for_others : List ℕ → Aggregate → ℕ → List ItemValues → Accumulator
gathered_for_others own a i es = if is_among own i then empty_accumulator a else gathered_for a i es

-- to what was gathered for other items this is joined
pub record JoinsOthers (items : List MeantItem) (own : List ℕ) (more before after : List ItemValues) : Type 0 where
  pub typed : AreOfItems items after
  pub gathers : (i : ℕ) (a : Aggregate) → aggregate_at items i ≡ Some a
      → gathered_for a i after ≡ join (gathered_for a i before) (gathered_for_others own a i more)

-- the same of whatever items they are gathered for
abbrev pub JoinsOtherValues : List ℕ → WithinValues → WithinValues → WithinValues → Type 0
JoinsOtherValues own more v v' = (items : List MeantItem) → AreOfItems items v.entries.items → AreOfItems items more.entries.items
    → JoinsOthers items own more.entries.items v.entries.items v'.entries.items

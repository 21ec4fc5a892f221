-- Rows of columns side by side: at each triplet of a leaf, its value and what was read last of the leaves beside it.
use Rattle.std.specs.Prelude.{◌≡◌, ℕ, ◌<◌, List, [], ◌∷◌, map, length, Bool, true, false, not, ◌&&◌, ◌||◌, ◌==◌, nat_le, nat_lt, if◌then◌else◌, Option, Some, None, option_map, slice_set}
use Rattle.std.specs.List.{list_all, slice_get, slice_index_or}
use Rattle.dr_meaning.specs.Record.{Value}
use Rattle.dr_meaning.specs.Column.{Triplet}
use Rattle.dr_levels.specs.Views.{lent_value}
use Rattle.dr_levels.specs.declared.triplet.ValueRef.{ValueRef}
use Rattle.dr_beside.specs.Along.{value_next, rest_next, along}
use Rattle.dr_beside.specs.Feeding.{goes}
use Rattle.dr_beside.specs.Neighbours.{column_at}
use Rattle.dr_rows_beside.specs.declared.place.Place.{Place}
use Rattle.dr_rows_beside.specs.declared.source.Beside.{Beside}
use Rattle.dr_rows_beside.specs.Places.{place_left}

-- ---- a leaf beside another

-- a leaf that is read beside a deeper one: it goes on where that one's repetition level is at most a depth; this is left of it
pub record Follower : Type 0 where
  pub leaf : ℕ
  pub depth : ℕ
  pub left : List Triplet

-- it is read on at a repetition level
abbrev pub stepped : ℕ → Follower → Follower
stepped r f = if nat_le r f.depth then record { leaf = f.leaf; depth = f.depth; left = rest_next f.left } else f

-- the slot of this number
abbrev pub slot_at : List (Option Value) → ℕ → Option Value
slot_at vs k = slice_index_or vs k None

-- and its value put into its slot
abbrev pub put_next : ℕ → Follower → List (Option Value) → List (Option Value)
put_next r f vs = if nat_le r f.depth then slice_set vs f.leaf (value_next (slot_at vs f.leaf) f.left) else vs

abbrev pub put_each : ℕ → List Follower → List (Option Value) → List (Option Value)
put_each r [] vs = vs
put_each r (f ∷ fs) vs = put_each r fs (put_next r f vs)

-- ---- rows

pub record Row : Type 0 where
  pub repetition : ℕ
  pub slots : List (Option Value)

-- the rows of a leaf's triplets with those beside it, where the slots hold these values before
abbrev pub run : ℕ → List Follower → List (Option Value) → List Triplet → List Row
run leaf fs vs [] = []
run leaf fs vs (t ∷ ts) = record { repetition = t.repetition; slots = put_each t.repetition fs (slice_set vs leaf t.value) }
    ∷ run leaf (map (stepped t.repetition) fs) (put_each t.repetition fs (slice_set vs leaf t.value)) ts

-- a leaf beside these triplets has as many as it takes to go on with them, and one of so many slots
abbrev pub is_fed : List Triplet → ℕ → Follower → Bool
is_fed ts n f = nat_lt f.leaf n && nat_le (goes f.depth ts) (length f.left)

-- it can be read on at a repetition level
abbrev pub can_step : ℕ → ℕ → Follower → Bool
can_step r n f = nat_lt f.leaf n && (not (nat_le r f.depth) || nat_lt 0 (length f.left))

-- those of which the bit is set; where the bits end, all
abbrev pub picked : {A : Type 0} → List Bool → List A → List A
picked [] xs = xs
picked (b ∷ bs) [] = []
picked (b ∷ bs) (x ∷ xs) = if b then x ∷ picked bs xs else picked bs xs

-- whether the first of some rows comes, by their bits, and the bits of the others
abbrev pub IsFirstBit : List Bool → Bool → List Bool → Type 0
IsFirstBit [] b rest = (b ≡ true) × (rest ≡ [])
IsFirstBit (c ∷ bs) b rest = (b ≡ c) × (rest ≡ bs)

-- ---- what code has of them

abbrev pub follower_view : Place → Follower
follower_view p = record { leaf = p.leaf; depth = p.depth; left = place_left p }

-- before the first row
abbrev pub source_view : List (List Triplet) → Beside → Follower
source_view C b = record { leaf = b.leaf; depth = b.depth; left = column_at C b.leaf }

abbrev pub slots_view : List (Option ValueRef) → List (Option Value)
slots_view vs = map (option_map lent_value) vs

-- the next row is passed, and stands in the slots
abbrev pub NextRow : List Row → List Row → List (Option Value) → Option ℕ → Type 0
NextRow before after slots None = before ≡ []
NextRow before after slots (Some r) = before ≡ record { repetition = r; slots = slots } ∷ after

-- ---- the law

-- the slot of this number in each row
abbrev pub in_slot : ℕ → List Row → List (Option Value)
in_slot k rs = map (λ (r : Row). slot_at r.slots k) rs

-- a leaf that is none of these
abbrev pub is_apart : ℕ → List Follower → Bool
is_apart k fs = list_all (λ (f : Follower). not (f.leaf == k)) fs

abbrev pub all_apart : List Follower → Bool
all_apart [] = true
all_apart (f ∷ fs) = is_apart f.leaf fs && all_apart fs

-- in the rows the leaf's own slot has its values, and the slots of those beside it have what lies along its triplets
abbrev pub RowsRunAlong : Type 0
RowsRunAlong = (leaf : ℕ) (fs : List Follower) (vs : List (Option Value)) (ts : List Triplet) → leaf < length vs → list_all (λ (f : Follower). nat_lt f.leaf (length vs)) fs ≡ true
    → is_apart leaf fs ≡ true → all_apart fs ≡ true
    → (in_slot leaf (run leaf fs vs ts) ≡ map (λ (t : Triplet). t.value) ts)
    × ((i : ℕ) (f : Follower) → slice_get fs i ≡ Some f → in_slot f.leaf (run leaf fs vs ts) ≡ along f.depth (slot_at vs f.leaf) f.left ts)
    × ((k : ℕ) → (leaf == k) ≡ false → is_apart k fs ≡ true → in_slot k (run leaf fs vs ts) ≡ map (λ (t : Triplet). slot_at vs k) ts)
    × (map (λ (r : Row). r.repetition) (run leaf fs vs ts) ≡ map (λ (t : Triplet). t.repetition) ts)

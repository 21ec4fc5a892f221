-- For which items with WITHIN a value is taken at which leaf.
use Rattle.std.specs.Prelude.{◌≡◌, ◌<◌, ℕ, suc, List, [], ◌∷◌, map, length, get_or, if◌then◌else◌, Option, Some, None}
use Rattle.std.specs.declared.vec.Vec.{Vec}
use Rattle.std.specs.declared.alloc.Global.{Global}
use Rattle.dr_plan.specs.declared.plan.RecordItem.{RecordItem}
use Rattle.dr_plan.specs.declared.plan.RecordTerm.{RecordTerm}
use Rattle.dr_scalar.specs.Leaves.{expr_leaves, greatest}
use Rattle.dr_within.specs.Takings.{same_leaf}
use Rattle.dr_within.specs.declared.item_firing.ItemFiring.{ItemFiring}

-- the leaf at which a value is taken for an item: the last of its argument's
abbrev pub term_taken_at : RecordTerm → Option ℕ
term_taken_at (RecordTerm.Value e) = None
term_taken_at (RecordTerm.Within w) = greatest (expr_leaves w.argument)

abbrev pub taken_at : RecordItem → Option ℕ
taken_at i = term_taken_at i.term

-- the places of the items for which one is taken at a leaf, where the first has the place j
abbrev pub places_taken : ℕ → List RecordItem → ℕ → List ℕ
places_taken j [] k = []
places_taken j (i ∷ is) k = if same_leaf (taken_at i) (Some k) then j ∷ places_taken (suc j) is k else places_taken (suc j) is k

abbrev pub each_places : List (Vec ℕ Global) → List (List ℕ)
each_places vs = map (λ (v : Vec ℕ Global). v.items) vs

abbrev pub places_in : ItemFiring → ℕ → List ℕ
places_in f k = get_or (each_places f.at_leaf.items) k []

-- of these items, at each of so many leaves
pub record FiresItems (n : ℕ) (items : List RecordItem) (f : ItemFiring) : Type 0 where
  pub count : length f.at_leaf.items ≡ n
  pub leaf : (k : ℕ) → k < n → places_in f k ≡ places_taken 0 items k

-- A course laid out in one array: the items of a level in one piece, those of each instance before the level that visits it.
use Rattle.std.specs.Prelude.{ℕ, List, [], ◌∷◌, ◌++◌, length, reverse, Bool, true, false, Option, Some}
use Rattle.dr_meaning.specs.Schema.{Kind}
use Rattle.dr_moves.specs.Course.{Gate, Give, Visit, Items, nothing, give, visit}

-- a leaf of a level, without its gates: whether it stands behind some
pub record FlatGive : Type 0 where
  pub leaf : ℕ
  pub kind : Kind
  pub low : ℕ
  pub full : ℕ
  pub gated : Bool

-- a repeated field: behind it so many NULLs for where it is absent; the items of an instance begin at `body`
pub record FlatVisit : Type 0 where
  pub number : ℕ
  pub leaf : ℕ
  pub low : ℕ
  pub gated : Bool
  pub nulls : ℕ
  pub body : ℕ

-- a repeated field at the end of an instance
pub record Lap : Type 0 where
  pub number : ℕ
  pub level : ℕ
  pub leaf : ℕ
  pub body : ℕ

pub data FlatItem : Type 0 where
  -- where an instance begins: the gates of its items that stand behind some, those of the last item first
  flat_look : List (List Gate) → FlatItem
  flat_give : FlatGive → FlatItem
  flat_visit : FlatVisit → FlatItem
  -- a leaf below the repeated field before it, where that is absent
  flat_null : ℕ → FlatItem
  -- the end of an instance, or of a record
  flat_end : Option Lap → FlatItem

abbrev pub has_gates : List Gate → Bool
has_gates [] = false
has_gates (g ∷ G) = true

abbrev pub plain_give : Give → FlatGive
plain_give g = record { leaf = g.leaf; kind = g.kind; low = g.low; full = g.full; gated = has_gates g.gates }

abbrev pub plain_visit : Visit → ℕ → ℕ → FlatVisit
plain_visit v nulls body = record { number = v.number; leaf = v.leaf; low = v.low; gated = has_gates v.gates; nulls = nulls; body = body }

abbrev pub lap_of : Visit → ℕ → Lap
lap_of v body = record { number = v.number; level = v.level; leaf = v.leaf; body = body }

-- a level so far: its items, and the gates of those that stand behind some, in order
pub record Level : Type 0 where
  pub items : List FlatItem
  pub gates : List (List Gate)

abbrev pub no_level : Level
no_level = record { items = []; gates = [] }

-- what is looked at for an item
abbrev pub looks_for : List Gate → List (List Gate)
looks_for [] = []
looks_for (g ∷ G) = (g ∷ G) ∷ []

-- with the gates of one more item, where it has some
abbrev pub noted : List Gate → Level → Level
noted G L = record { items = L.items; gates = L.gates ++ looks_for G }

abbrev pub with_items : List FlatItem → Level → Level
with_items xs L = record { items = L.items ++ xs; gates = L.gates }

-- a NULL of each leaf of these
abbrev pub nulls_of : List FlatItem → List FlatItem
nulls_of [] = []
nulls_of (flat_look G ∷ xs) = nulls_of xs
nulls_of (flat_give g ∷ xs) = flat_null g.leaf ∷ nulls_of xs
nulls_of (flat_visit v ∷ xs) = nulls_of xs
nulls_of (flat_null i ∷ xs) = flat_null i ∷ nulls_of xs
nulls_of (flat_end o ∷ xs) = nulls_of xs

-- a level that is whole, with its beginning and its end
abbrev pub closed : Option Lap → Level → List FlatItem
closed o L = flat_look (reverse L.gates) ∷ (L.items ++ flat_end o ∷ [])

-- the array so far, and the level that is being laid out, which joins it when it is whole
pub record Laid : Type 0 where
  pub code : List FlatItem
  pub level : Level

abbrev pub laying : List FlatItem → Level → Laid
laying code L = record { code = code; level = L }

abbrev pub given : Give → Laid → Laid
given g s = laying s.code (with_items (flat_give (plain_give g) ∷ []) (noted g.gates s.level))

-- a repeated field, behind the level of its instances
abbrev pub visited : Visit → Laid → Level → Laid
visited v b L = laying (b.code ++ closed (Some (lap_of v (length b.code))) b.level)
    (with_items (flat_visit (plain_visit v (length (nulls_of b.level.items)) (length b.code)) ∷ nulls_of b.level.items) (noted v.gates L))

abbrev pub lay : Items → Laid → Laid
lay nothing s = s
lay (give g I) s = lay I (given g s)
lay (visit v B I) s = lay I (visited v (lay B (laying s.code no_level)) s.level)

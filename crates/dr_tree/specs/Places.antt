-- The places of a tree's leaf servers, which take the partials of their tablets in any order.
use Rattle.std.specs.Prelude.{ℕ, ◌==◌, List, [], ◌∷◌, map, Bool, false, if◌then◌else◌, Option, Some, None}
use Rattle.std.specs.List.{filter_map, fold, list_any}
use Rattle.dr_meaning.specs.Query.{Query}
use Rattle.dr_partials.specs.Partials.{Partial, merge, empty_partial}

-- a leaf server: its tablet, and that one's partial where it was added
pub record Place : Type 0 where
  pub tablet : ℕ
  pub piece : Option Partial

-- of the servers of these tablets, before any partial was added
abbrev pub free_places : List ℕ → List Place
free_places ts = map (λ (t : ℕ). record { tablet = t; piece = None }) ts

abbrev pub tablets_at : List Place → List ℕ
tablets_at ps = map (λ (p : Place). p.tablet) ps

-- ---- adding

abbrev pub is_free : Bool → Option Partial → Bool
is_free mine None = mine
is_free mine (Some r) = false

-- whether the place is the tablet's, and has no partial
abbrev pub is_free_for : ℕ → Place → Bool
is_free_for t p = is_free (p.tablet == t) p.piece

abbrev pub has_free : ℕ → List Place → Bool
has_free t ps = list_any (is_free_for t) ps

abbrev pub filled : ℕ → Partial → Place
filled t r = record { tablet = t; piece = Some r }

-- the first free place of the tablet takes the partial
abbrev pub fill : ℕ → Partial → List Place → List Place
fill t r [] = []
fill t r (p ∷ ps) = if is_free_for t p then filled t r ∷ ps else p ∷ fill t r ps

-- ---- what was added

-- the partials that were added, in the order of their places
abbrev pub added : List Place → List Partial
added ps = filter_map (λ (p : Place). p.piece) ps

-- they, merged in this order, behind one of no records
abbrev pub merged : Query → List Place → Partial
merged q ps = fold merge (empty_partial q) (added ps)

-- the partial of a place; of one where none was added that of no records
abbrev pub piece_or_empty : Query → Option Partial → Partial
piece_or_empty q None = empty_partial q
piece_or_empty q (Some r) = r

abbrev pub pieces_at : Query → List Place → List Partial
pieces_at q ps = map (λ (p : Place). piece_or_empty q p.piece) ps

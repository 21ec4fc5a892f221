-- Laws of places.
use Rattle.std.specs.Prelude.{◌≡◌, ℕ, ⊤, true, List, [], ◌∷◌, map, length}
use Rattle.dr_partials.specs.Partials.{Partial}
use Rattle.dr_partials.specs.Trees.{Tree, tablets_of}
use Rattle.dr_tree.specs.Places.{Place, free_places, has_free, filled, fill}

-- the pieces of these tablets are added, one after another
abbrev pub fill_all : (ℕ → Partial) → List ℕ → List Place → List Place
fill_all piece [] ps = ps
fill_all piece (t ∷ ts) ps = fill_all piece ts (fill t (piece t) ps)

-- each tablet has a free place when its turn comes
abbrev pub CanFillAll : (ℕ → Partial) → List ℕ → List Place → Type 0
CanFillAll piece [] ps = ⊤
CanFillAll piece (t ∷ ts) ps = (has_free t ps ≡ true) × CanFillAll piece ts (fill t (piece t) ps)

-- whatever the order in which as many are added as a tree has tablets, each place has its tablet's piece in the end
abbrev pub AnyOrderFillsAll : Type 0
AnyOrderFillsAll = (tree : Tree) (piece : ℕ → Partial) (order : List ℕ) → CanFillAll piece order (free_places (tablets_of tree))
    → length order ≡ length (tablets_of tree)
    → fill_all piece order (free_places (tablets_of tree)) ≡ map (λ (t : ℕ). filled t (piece t)) (tablets_of tree)

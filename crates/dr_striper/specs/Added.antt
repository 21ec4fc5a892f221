-- A tree of branches, and what a record adds to it: by recursion over the record.
use Rattle.std.specs.Prelude.{◌≡◌, ◌≤◌, ⊤, ℕ, zero, suc, ◌+◌, List, [], ◌∷◌, ◌++◌, length, drop, None}
use Rattle.dr_meaning.specs.Schema.{Repetition, repetition_count, definition_count}
use Rattle.dr_meaning.specs.Path.{Step}
use Rattle.dr_meaning.specs.Record.{Node, no_slots, slot, gap, Instances, no_instances, instance, Instance, atom, inner}
use Rattle.dr_meaning.specs.Column.{Triplet, triplet, value_of, instance_column}

-- what a branch has of its own, and then what it hasn't seen of what is above
abbrev pub grown : ℕ → List Triplet → List Triplet → List Triplet
grown n own above = own ++ drop n above

-- the branches below a group. Each: its field's repetition, how many of the levels above it has seen, and its own
mutual
  pub data Twig : Type 0 where
    nothing : Twig
    leaf : Repetition → ℕ → List Triplet → Twig
    group : Repetition → ℕ → List Triplet → Twigs → Twig

  pub data Twigs : Type 0 where
    no_twigs : Twigs
    twig : Twig → Twigs → Twigs

abbrev pub twig_at : ℕ → Twigs → Twig
twig_at i no_twigs = nothing
twig_at zero (twig b bs) = b
twig_at (suc i) (twig b bs) = twig_at i bs

abbrev pub twig_column : (List Triplet → Twigs → List Triplet) → List Triplet → Twig → List Triplet
twig_column rest above nothing = []
twig_column rest above (leaf k n own) = grown n own above
twig_column rest above (group k n own bs) = rest (grown n own above) bs

abbrev pub column_in : List Step → List Triplet → Twigs → List Triplet
column_in [] above bs = []
column_in (s ∷ p) above bs = twig_column (column_in p) above (twig_at s.place bs)

-- a path leads to a leaf
abbrev pub TwigLeads : Repetition → List Step → (Twigs → Type 0) → Twig → Type 0
TwigLeads k p R nothing = ⊥
TwigLeads k p R (leaf j n own) = (j ≡ k) × (p ≡ [])
TwigLeads k p R (group j n own bs) = (j ≡ k) × R bs

abbrev pub Leads : List Step → Twigs → Type 0
Leads [] bs = ⊥
Leads (s ∷ p) bs = TwigLeads s.repetition p (Leads p) (twig_at s.place bs)

-- each branch on a path has seen at most what is above it, of its own in the group round it
abbrev pub TwigWithin : (ℕ → Twigs → Type 0) → ℕ → Twig → Type 0
TwigWithin R m nothing = ⊤
TwigWithin R m (leaf j n own) = n ≤ m
TwigWithin R m (group j n own bs) = (n ≤ m) × R (length own) bs

abbrev pub Within : List Step → ℕ → Twigs → Type 0
Within [] m bs = ⊤
Within (s ∷ p) m bs = TwigWithin (Within p) m (twig_at s.place bs)

pub record Grown : Type 0 where
  pub own : List Triplet
  pub inside : Twigs

abbrev pub regrown : Repetition → ℕ → Grown → Twig
regrown k n g = group k n g.own g.inside

-- later values of a leaf
abbrev pub values_added : ℕ → ℕ → List Triplet → Instances → List Triplet
values_added level d own no_instances = own
values_added level d own (instance x xs) = values_added level d (own ++ triplet level d (value_of x) ∷ []) xs

abbrev mutual
  -- what the slots of a node add to branches below an instance that begins at r, behind the levels L
  pub node_added : Node → ℕ → ℕ → ℕ → List Triplet → Twigs → Twigs
  node_added no_slots level d r L bs = bs
  node_added (gap n) level d r L no_twigs = no_twigs
  node_added (gap n) level d r L (twig b bs) = twig b (node_added n level d r L bs)
  node_added (slot xs n) level d r L no_twigs = no_twigs
  node_added (slot xs n) level d r L (twig b bs) = twig (field_added xs level d r L b) (node_added n level d r L bs)

  pub field_added : Instances → ℕ → ℕ → ℕ → List Triplet → Twig → Twig
  field_added no_instances level d r L b = b
  field_added (instance x xs) level d r L nothing = nothing
  field_added (instance x xs) level d r L (leaf k n own) =
      leaf k (suc (length L)) (values_added (level + repetition_count k) (d + definition_count k) (grown n own L ++ triplet r (d + definition_count k) (value_of x) ∷ []) xs)
  field_added (instance x xs) level d r L (group k n own bs) =
      regrown k (suc (length L)) (later_added xs (level + repetition_count k) (d + definition_count k) (grown n own L ++ triplet r (d + definition_count k) None ∷ [])
      (inside_added x (level + repetition_count k) (d + definition_count k) r (grown n own L) bs))

  pub inside_added : Instance → ℕ → ℕ → ℕ → List Triplet → Twigs → Twigs
  inside_added (atom v) level d r L bs = bs
  inside_added (inner n) level d r L bs = node_added n level d r L bs

  pub later_added : Instances → ℕ → ℕ → List Triplet → Twigs → Grown
  later_added no_instances level d own bs = record { own = own; inside = bs }
  later_added (instance x xs) level d own bs = later_added xs level d (own ++ triplet level d None ∷ []) (inside_added x level d level own bs)

-- what a node adds to the column of each path that leads to a leaf is its column
abbrev pub NodeAdds : Type 0
NodeAdds = (n : Node) (p : List Step) (level d r : ℕ) (L : List Triplet) (bs : Twigs) → Leads p bs → Within p (length L) bs
    → (column_in p (L ++ triplet r d None ∷ []) (node_added n level d r L bs) ≡ column_in p L bs ++ instance_column p level d r (inner n))
    × Leads p (node_added n level d r L bs) × Within p (suc (length L)) (node_added n level d r L bs)

-- What there is to hand out: tablets, and the leaves on which each can be read.
use Rattle.std.specs.Prelude.{ℕ, zero, suc, ◌+◌, List, [], ◌∷◌, length}
use Rattle.dr_dispatch.specs.declared.event.Hand.{Hand}

pub record Job : Type 0 where
  -- the leaves of each tablet, in the order in which they are tried; a tablet's number is its place, from 0
  pub leaves : List (List ℕ)
  -- after how many events a tablet that was handed out is handed out again, on its next leaf
  pub lag : ℕ

-- the leaves of the tablet t, or none where there is no such tablet
abbrev pub leaves_at : List (List ℕ) → ℕ → List ℕ
leaves_at [] t = []
leaves_at (leaves ∷ rest) zero = leaves
leaves_at (leaves ∷ rest) (suc t) = leaves_at rest t

-- the tablet t on the leaf l
abbrev pub hand : ℕ → ℕ → Hand
hand t l = record { tablet = t; leaf = l }

-- the number of pairs of a tablet and a leaf of it
abbrev pub pairs_of : List (List ℕ) → ℕ
pairs_of [] = 0
pairs_of (leaves ∷ rest) = length leaves + pairs_of rest

abbrev pub pairs : Job → ℕ
pairs j = pairs_of j.leaves

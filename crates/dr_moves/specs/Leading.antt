-- How columns lead on: turns over columns, each triplet given once, in order.
use Rattle.std.specs.Prelude.{◌≡◌, ℕ, List, [], ◌∷◌, map, get_or, ◌==◌, if◌then◌else◌, Option, Some, None}
use Rattle.dr_meaning.specs.Path.{Step}
use Rattle.dr_meaning.specs.Record.{Node}
use Rattle.dr_meaning.specs.Column.{Triplet, column}
use Rattle.dr_meaning.specs.Walk.{Move, enter, value, leave}
use Rattle.dr_moves.specs.Course.{Items}
use Rattle.dr_moves.specs.Turning.{Stack, gives, goes_on, turn}

-- what is left of each column
abbrev pub Left : Type 0
Left = ℕ → List Triplet

-- a column's next triplet, and what is behind it
abbrev pub head_of : List Triplet → Option Triplet
head_of [] = None
head_of (t ∷ ts) = Some t

abbrev pub tail_of : List Triplet → List Triplet
tail_of [] = []
tail_of (t ∷ ts) = ts

-- each leaf's next triplet
abbrev pub heads : Left → ℕ → Option Triplet
heads left i = head_of (left i)

-- what is left behind a move: a triplet that it gives is taken
abbrev pub behind_move : Move → Left → Left
behind_move (enter k) left i = left i
behind_move (value j t) left i = if j == i then tail_of (left i) else left i
behind_move (leave k) left i = left i

-- from one place to another, giving these moves
pub data Leads (top : Items) : Stack → Left → List Move → Stack → Left → Type 0 where
  stays : (S : Stack) (left : Left) → Leads top S left [] S left
  moves : (S U V : Stack) (left end : Left) (m : Move) (ms : List Move) → turn top S (heads left) ≡ gives m U → Leads top U (behind_move m left) ms V end → Leads top S left (m ∷ ms) V end
  turns : (S U V : Stack) (left end : Left) (ms : List Move) → turn top S (heads left) ≡ goes_on U → Leads top U left ms V end → Leads top S left ms V end

-- columns, one for each place in the selection
abbrev pub columns_of : List (List Triplet) → Left
columns_of C i = get_or C i []

-- the columns of records at these leaves
abbrev pub has_columns : List (List Step) → List Node → Left
has_columns F R = columns_of (map (λ (p : List Step). column p R) F)

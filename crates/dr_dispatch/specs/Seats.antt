-- What the seats of several threads know of one history. The keeper's seat knows it whole; in each call under the lock it joins the
-- caller's seat, and is split from it again.
use Rattle.std.specs.Prelude.{◌≡◌, ℕ, ◌<◌, ◌≤◌, true, false, List, [], ◌∷◌, ◌++◌, length, ⊤}
use Rattle.std.specs.List.{list_any}
use mathlib.Core.List.{IsPrefix}
use mathlib.Core.Option.{some}
use lib.ListN.{get_elem?}
use Rattle.dr_dispatch.specs.Seen.{has_place}
use Rattle.dr_dispatch.specs.declared.event.Event.{Event}
use Rattle.dr_dispatch.specs.declared.seen.PassShown.{PassShown}
use Rattle.dr_dispatch.specs.declared.seen.SeatView.{SeatView}

-- what a pass shows on this seat
abbrev pub shown : SeatView → PassShown
shown v = record { seen = v.seen; own = v.own; drawn = v.drawn }

-- the keeper of this history
abbrev pub keeper_at : List Event → SeatView
keeper_at history = record { seen = history; own = []; drawn = []; keeps = true; met = [] }

-- a pass that shows this
abbrev pub pass_at : PassShown → SeatView
pass_at pass = record { seen = pass.seen; own = pass.own; drawn = pass.drawn; keeps = false; met = [] }

-- a seat that joined another
abbrev pub spent : SeatView
spent = record { seen = []; own = []; drawn = []; keeps = false; met = [] }

-- Steps that make one seat of two: the keeper w joins a pass v, first in a call
abbrev pub handed : SeatView → SeatView → SeatView
handed v w = record { seen = w.seen; own = v.own ++ w.own; drawn = v.drawn ++ w.drawn; keeps = w.keeps; met = shown v ∷ [] }

-- a pass w joins the keeper v, when the desk is shut
abbrev pub gathered : SeatView → SeatView → SeatView
gathered v w = record { seen = v.seen; own = v.own ++ w.own; drawn = v.drawn ++ w.drawn; keeps = v.keeps; met = shown w ∷ v.met }

-- Steps that make two seats of one, last in a call: what is left to the pass, and the keeper's new seat
abbrev pub passed : SeatView → SeatView
passed v = record { seen = v.seen; own = v.own; drawn = v.drawn; keeps = false; met = [] }

abbrev pub keeper_of : SeatView → SeatView
keeper_of v = record { seen = v.seen; own = []; drawn = []; keeps = v.keeps; met = [] }

-- a new pass, when the desk is made; nothing changes for the seat that it is split from
abbrev pub newcomer_of : SeatView → SeatView
newcomer_of v = record { seen = v.seen; own = []; drawn = []; keeps = false; met = [] }

-- Steps that read or raise the count: a look tells how what was met fits to what is seen, and forgets it
abbrev pub looked : SeatView → SeatView
looked v = record { seen = v.seen; own = v.own; drawn = v.drawn; keeps = v.keeps; met = [] }

-- an event is added behind n others
abbrev pub added : ℕ → Event → SeatView → SeatView
added n e v = record { seen = v.seen ++ e ∷ []; own = v.own ++ n ∷ []; drawn = v.drawn; keeps = v.keeps; met = [] }

-- The step of a pass outside the lock: it draws the tablet n
abbrev pub drawing : ℕ → SeatView → SeatView
drawing n v = record { seen = v.seen; own = v.own; drawn = v.drawn ++ n ∷ []; keeps = v.keeps; met = v.met }

-- the history begins with what each of these showed, its places are among `own`, and none of them is a place of a later one
abbrev pub MetFits : List Event → List ℕ → List PassShown → Type 0
MetFits history own [] = ⊤
MetFits history own (m ∷ met) =
    IsPrefix m.seen history
    × ((p : ℕ) → has_place p m.own ≡ true → (has_place p own ≡ true) × (list_any (λ (other : PassShown). has_place p other.own) met ≡ false))
    × MetFits history own met

-- what the rule says of the seat k: the history begins with what it has seen; only the keeper keeps it, and has seen it whole; its own
-- places are its own, and stand in the history
pub record SeatFits (history : List Event) (keeper : ℕ) (owner : ℕ → ℕ) (k : ℕ) (v : SeatView) : Type 0 where
  pub begins : IsPrefix v.seen history
  pub keeping : v.keeps ≡ true → (k ≡ keeper) × (v.seen ≡ history)
  pub owns : (p : ℕ) → has_place p v.own ≡ true → (owner p ≡ k) × (p < length history)
  pub met : MetFits history v.own v.met

-- The rule, which holds between any two steps, of the count and of the history that all seats know: there is one history, whose length is the count,
-- one seat that keeps it, and one owner of each place
pub record IsKept (views : List SeatView) (count : ℕ) : Type 0 where
  pub history : List Event
  pub counted : length history ≡ count
  pub keeper : ℕ
  pub keeps : SeatView
  pub there : get_elem? views keeper ≡ some keeps
  pub has_mark : keeps.keeps ≡ true
  pub owner : ℕ → ℕ
  pub fits : (k : ℕ) (v : SeatView) → get_elem? views k ≡ some v → SeatFits history keeper owner k v

-- The rule of the tablets that were drawn, where `next` is the next to be drawn: it is at most the number of tablets, and each number that
-- a seat drew is below it, and no other seat's
pub record AreDrawn (tablets : ℕ) (views : List SeatView) (next : ℕ) : Type 0 where
  pub within : next ≤ tablets
  pub drawer : ℕ → ℕ
  pub drew : (k : ℕ) (v : SeatView) → get_elem? views k ≡ some v → (t : ℕ) → has_place t v.drawn ≡ true → (drawer t ≡ k) × (t < next)

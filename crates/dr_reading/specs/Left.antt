-- The tablets that are left: none of their copies gave records, each for a cause.
use Rattle.std.specs.Prelude.{◌≡◌, ℕ, suc, false, List, [], ◌∷◌, map, IsTrue, ⊤}
use Rattle.std.specs.List.{flat_map}
use Rattle.dr_meaning.specs.Schema.{Schema}
use Rattle.dr_meaning.specs.Path.{Leaf}
use Rattle.dr_meaning.specs.Record.{Node}
use Rattle.dr_outside.specs.Link.{LinkShown, Holds}
use Rattle.dr_outside.specs.declared.cause.Cause.{Cause}
use Rattle.dr_reading.specs.Held.{held_at}
use Rattle.dr_reading.specs.Causes.{IsJustified, is_read}
use Rattle.dr_reading.specs.Scan.{Copy}
use Rattle.dr_reading.specs.Given.{IsGiven}

-- a copy that was tried, by its directory, and the cause for which it gave nothing
pub record Tried : Type 0 where
  pub directory : ℕ
  pub cause : Cause

-- a tablet that is left: each of its copies, in the order in which they were tried
pub record LeftTablet : Type 0 where
  pub tablet : ℕ
  pub tried : List Tried

-- a cause of what a link shows at a path: it is justified, and a steady link doesn't fail at a path that it holds
abbrev pub IsCauseAt : Schema → List Leaf → LinkShown → List ℕ → Cause → Type 0
IsCauseAt s F link path c = IsJustified s F (held_at link.held path) c × (IsTrue link.is_steady → Holds link.held path → is_read c ≡ false)

-- each copy was tried, with a cause
abbrev pub AreTried : Schema → List Leaf → LinkShown → List Copy → List Tried → Type 0
AreTried s F link [] [] = ⊤
AreTried s F link (c ∷ cs) (t ∷ ts) = (t.directory ≡ c.directory) × IsCauseAt s F link c.path t.cause × AreTried s F link cs ts
AreTried s F link cs ts = ⊥

-- just these tablets are left: each tablet, the first of which is the tth, has an answer, or is left with each of its copies tried
pub data LeftUnanswered (s : Schema) (F : List Leaf) (link : LinkShown) (HasAnswer : List Copy → Type 0) : ℕ → List (List Copy) → List LeftTablet → Type 0 where
  no_tablets : (t : ℕ) → LeftUnanswered s F link HasAnswer t [] []
  is_answered : (t : ℕ) (cs : List Copy) (rest : List (List Copy)) (left : List LeftTablet)
      → HasAnswer cs → LeftUnanswered s F link HasAnswer (suc t) rest left → LeftUnanswered s F link HasAnswer t (cs ∷ rest) left
  is_left : (t : ℕ) (cs : List Copy) (rest : List (List Copy)) (left : List LeftTablet) (tried : List Tried)
      → AreTried s F link cs tried → LeftUnanswered s F link HasAnswer (suc t) rest left
      → LeftUnanswered s F link HasAnswer t (cs ∷ rest) (record { tablet = t; tried = tried } ∷ left)

-- just these tablets are left, whatever answers the others have: records that this link gives, or another one
abbrev pub AreLeft : Schema → List Leaf → LinkShown → ℕ → List (List Copy) → List LeftTablet → Type 0
AreLeft s F link t tablets left = LeftUnanswered s F link (λ cs. ⊤) t tablets left

-- just these tablets are left, and each other one gives some records
abbrev pub LeavesJust : Schema → List Leaf → LinkShown → ℕ → List (List Copy) → List LeftTablet → Type 0
LeavesJust s F link t tablets left = LeftUnanswered s F link (λ cs. (R : List Node) × IsGiven s F link.held cs R) t tablets left

-- the causes, in the order in which they were met
abbrev pub causes_of : List Tried → List Cause
causes_of ts = map (λ (t : Tried). t.cause) ts

abbrev pub causes_met : List LeftTablet → List Cause
causes_met ls = flat_map (λ (l : LeftTablet). causes_of l.tried) ls

-- What has grown of pieces can grow on.
use Rattle.std.specs.Prelude.{◌≡◌, ◌<◌, ◌≤◌, ℕ, suc, ⊤, true, false, Bool, List, [], ◌∷◌, length, slice_set, slice_index_or}
use Rattle.dr_dispatch.specs.History.{has_answer}
use Rattle.dr_dispatch.specs.declared.event.Event.{Event}
use Rattle.dr_group.specs.Partials.{partial_view}
use Rattle.dr_tree.specs.Grows.{Growth, CanAdd, Grows, with_added}
use Rattle.dr_tree.specs.declared.growing.Growing.{Growing}
use Rattle.dr_serve.specs.declared.found.Found.{Found}

-- whatever has grown, with a piece of each of these tablets: what is true of a tablet without one can be added, and then it has one; where it is
-- refused, all has grown that had
pub record GrowsOn (is_true : ℕ → Found → Type 0) (has_grown : Growing → List Bool → Type 0) : Type 0 where
  pub within : (g : Growing) (answered : List Bool) (f : Found) → has_grown g answered → is_true f.tablet f → f.tablet < length answered
  pub can_add : (g : Growing) (answered : List Bool) (f : Found) → has_grown g answered → is_true f.tablet f → slice_index_or answered f.tablet false ≡ false
      → (w : Growth) × Grows w g × CanAdd w f.tablet f.partial
  pub added : (g now : Growing) (answered : List Bool) (f : Found) → has_grown g answered → is_true f.tablet f → slice_index_or answered f.tablet false ≡ false
      → ((w : Growth) → Grows w g → CanAdd w f.tablet f.partial → Grows (with_added w f.tablet (partial_view f.partial)) now) → has_grown now (slice_set answered f.tablet true)
  pub refused : (g now : Growing) (answered : List Bool) → has_grown g answered → ((w : Growth) → Grows w g → Grows w now) → has_grown now answered

-- whatever has grown, both say it
abbrev pub AreSame : (Growing → List Bool → Type 0) → (Growing → List Bool → Type 0) → Type 0
AreSame P Q = (g : Growing) (answered : List Bool) → (P g answered → Q g answered) × (Q g answered → P g answered)

-- ---- the journal

-- how many tablets have a piece
abbrev pub pieces_in : List Bool → ℕ
pieces_in [] = 0
pieces_in (true ∷ bs) = suc (pieces_in bs)
pieces_in (false ∷ bs) = pieces_in bs

-- the journal answers just the tablets with a piece, each once
pub record IsOfPieces (journal : List Event) (has_piece : List Bool) : Type 0 where
  pub answers : (t : ℕ) → has_answer journal t ≡ slice_index_or has_piece t false
  pub once : length journal ≤ pieces_in has_piece
  pub few : length has_piece ≤ 4096

-- each of these tablets is answered
abbrev pub AreAnswered : List Event → List ℕ → Type 0
AreAnswered journal [] = ⊤
AreAnswered journal (t ∷ ts) = (has_answer journal t ≡ true) × AreAnswered journal ts

-- each of these tablets has a piece
abbrev pub HavePieces : List Bool → List ℕ → Type 0
HavePieces has_piece [] = ⊤
HavePieces has_piece (t ∷ ts) = (slice_index_or has_piece t false ≡ true) × HavePieces has_piece ts

-- each tablet that a history answers has a piece
abbrev pub AnsweredHavePieces : List Event → List Bool → Type 0
AnsweredHavePieces history has_piece = (t : ℕ) → has_answer history t ≡ true → slice_index_or has_piece t false ≡ true

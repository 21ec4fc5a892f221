-- What was read last of the leaves of a level and of those around it is their value in the row, from the level's own leaves on till the instance is left.
use Rattle.std.proofs.Common.{◌≡◌, ◌⊎◌, inl, inr, ℕ, List, [], ◌∷◌, ◌++◌, true, false, Option, Some, sym, ap, ◌∙◌, true≢false}
use Rattle.std.specs.List.{slice_get, list_all}
use Rattle.dr_meaning.specs.Schema.{Fields, Shape}
use Rattle.dr_meaning.specs.Path.{Step, begins_with, chain_end, is_leaf_path, is_shape_path, max_repetition}
use Rattle.dr_meaning.specs.Record.{Node, Instances, Instance, single, is_instance}
use Rattle.dr_meaning.specs.Rows.{value_in, value_at}
use Rattle.dr_meaning.specs.Automaton.{Pick}
use Rattle.dr_meaning.specs.Walk.{Move, Depth, moves_in, shape_near_moves, shape_far_moves}
use Rattle.dr_meaning.specs.WalkLaws.{triplets_of}
use Rattle.dr_meaning.proofs.WalkLemmas.{of_append, shape_near_nothing, shape_far_nothing}
use Rattle.dr_moves.specs.Context.{Context}
use Rattle.dr_moves.specs.Tour.{Tour, moves_of, after}
use Rattle.dr_moves.proofs.ReadingLemmas.{last, silent, last_single}
use Rattle.dr_moves.proofs.NearLemmas.{shape_far_silent, shape_once}
use Rattle.dr_kept_laws.proofs.LeaveContexts.{after_last, own_at_leave, outside_at_leave}
use Rattle.dr_kept_laws.proofs.RowValues.{level_none}
use Rattle.dr_kept_laws.proofs.Selections.{both_empty, leaf_selected, no_path}
use Rattle.dr_made_laws.proofs.PathLemmas.{begins_front, begins_along, next_cases, chain_front, chain_stays, none_further}
use Rattle.dr_made_laws.proofs.RowFrames.{Frame}
use Rattle.dr_made_laws.proofs.PlaceLemmas.{Below, Beside, Places}

module _ (F : List (List Step)) where
  -- the leaves whose chain is the first part of a path have their values in this row; those of them beside the path's end have
  abbrev pub Known : List Step → Context → Node → Type 0
  Known pre c row = (k : ℕ) (q : List Step) → slice_get F k ≡ Some q → begins_with (chain_end q) pre ≡ true → c k ≡ value_at q row

  abbrev pub KnownBeside : List Step → Context → Node → Type 0
  KnownBeside pre c row = (k : ℕ) (q : List Step) → slice_get F k ≡ Some q → begins_with (chain_end q) pre ≡ true → begins_with pre q ≡ false → c k ≡ value_at q row

  -- none of these leaves is read in these moves
  abbrev pub Quiet : List Step → List Move → Type 0
  Quiet pre ms = (k : ℕ) (q : List Step) → slice_get F k ≡ Some q → begins_with (chain_end q) pre ≡ true → triplets_of k ms ≡ []

  pub known_stays : (pre : List Step) (ms : List Move) (T : Tour) (c : Context) (row : Node) → Quiet pre ms → moves_of T ≡ ms → Known pre c row → Known pre (after c T) row
  known_stays pre ms T c row s m h k q e b = after_last T c k ∙ ap (last k (c k)) m ∙ silent k (c k) ms (s k q e b) ∙ h k q e b

  pub quiet_first : (pre : List Step) (a b : List Move) → Quiet pre (a ++ b) → Quiet pre a
  quiet_first pre a b s k q e h = (both_empty (triplets_of k a) (triplets_of k b) (sym (of_append k a b) ∙ s k q e h)).0

  pub quiet_second : (pre : List Step) (a b : List Move) → Quiet pre (a ++ b) → Quiet pre b
  quiet_second pre a b s k q e h = (both_empty (triplets_of k a) (triplets_of k b) (sym (of_append k a b) ∙ s k q e h)).1

  -- a leaf of a level that goes on from its path
  own_leaf : (pre q p : List Step) → q ≡ pre ++ p → begins_with (chain_end q) pre ≡ true → max_repetition p ≡ 0
  own_leaf pre q p a b = level_none p (none_further pre p (ap (λ (u : List Step). begins_with (chain_end u) pre) (sym a) ∙ b))

  apart_leaf : (pre q p : List Step) → q ≡ pre ++ p → begins_with pre q ≡ false → ⊥
  apart_leaf pre q p a b = true≢false (sym (begins_front pre p) ∙ ap (begins_with pre) (sym a) ∙ b)

  -- into a field that isn't repeated
  pub known_within : (h : Shape) (pre : List Step) (t : Step) (row : Instances → Node) (G : List Pick) → Places F h (pre ++ t ∷ []) row G → chain_end (t ∷ []) ≡ [] → (c : Context) (v : Node) → Known pre c v → Known (pre ++ t ∷ []) c v
  known_within h pre t row G f z c v g k q e b = by_place (f k q e)
    where
      by_case : begins_with (pre ++ t ∷ []) q ≡ false → (begins_with (chain_end q) pre ≡ true) ⊎ (begins_with (pre ++ t ∷ []) (chain_end q) ≡ true) → c k ≡ value_at q v
      by_case x (inl y) = g k q e y
      by_case x (inr y) = absurd (true≢false (sym (begins_along (pre ++ t ∷ []) (chain_end q) q y (chain_front q)) ∙ x))

      by_place : Below h (pre ++ t ∷ []) G k q ⊎ Beside (pre ++ t ∷ []) row G k q → c k ≡ value_at q v
      by_place (inl x) =
          let l : chain_end x.0 ≡ [] = none_further (pre ++ t ∷ []) x.0 (ap (λ (u : List Step). begins_with (chain_end u) (pre ++ t ∷ [])) (sym x.1) ∙ b) in
          let d : chain_end q ≡ chain_end pre = ap chain_end x.1 ∙ chain_stays (pre ++ t ∷ []) x.0 l ∙ chain_stays pre (t ∷ []) z in
          g k q e (ap (λ (u : List Step). begins_with u pre) d ∙ chain_front pre)
      by_place (inr x) = by_case x.1 (next_cases (chain_end q) pre t b)

  -- into an instance of a repeated field
  pub known_beside : (h : Shape) (pre : List Step) (t : Step) (row : Instances → Node) (G : List Pick) → Places F h (pre ++ t ∷ []) row G → (c : Context) (xs ys : Instances) → Known pre c (row xs) → KnownBeside (pre ++ t ∷ []) c (row ys)
  known_beside h pre t row G f c xs ys g k q e b d = by_place (f k q e)
    where
      by_case : ((xs ys : Instances) → value_at q (row xs) ≡ value_at q (row ys)) → (begins_with (chain_end q) pre ≡ true) ⊎ (begins_with (pre ++ t ∷ []) (chain_end q) ≡ true) → c k ≡ value_at q (row ys)
      by_case s (inl y) = g k q e y ∙ s xs ys
      by_case s (inr y) = absurd (true≢false (sym (begins_along (pre ++ t ∷ []) (chain_end q) q y (chain_front q)) ∙ d))

      by_place : Below h (pre ++ t ∷ []) G k q ⊎ Beside (pre ++ t ∷ []) row G k q → c k ≡ value_at q (row ys)
      by_place (inl x) = absurd (apart_leaf (pre ++ t ∷ []) q x.0 x.1 d)
      by_place (inr x) = by_case x.2 (next_cases (chain_end q) pre t b)

  module _ (h : Shape) (pre : List Step) (row : Instances → Node) (G : List Pick) (f : Places F h pre row G) where
    -- below a shape's repeated fields none is read
    pub far_quiet : (j : ℕ) (at : Depth) (x : Option Instance) → Quiet pre (shape_far_moves h G j at x)
    far_quiet j at x k q e b = by_place (f k q e)
      where
        by_place : Below h pre G k q ⊎ Beside pre row G k q → triplets_of k (shape_far_moves h G j at x) ≡ []
        by_place (inl y) = shape_far_silent k h y.0 (own_leaf pre q y.0 y.1 b) G y.2 y.3 j at x
        by_place (inr y) = shape_far_nothing k h G j at x y.0

    module _ (fs : Fields) (l : list_all (is_leaf_path fs) F ≡ true) (w : Frame pre row) (x z : Instance) (v : is_instance h x ≡ true)
        (same : (p : List Step) → is_shape_path h p ≡ true → max_repetition p ≡ 0 → value_in p x ≡ value_in p z) (c : Context) (known : KnownBeside pre c (row (single z))) (at : Depth) where
      -- a selected leaf has a path
      not_empty : (k : ℕ) (q p : List Step) → slice_get F k ≡ Some q → q ≡ pre ++ p → pre ++ p ≡ [] → ⊥
      not_empty k q p e a n = no_path fs (ap (is_leaf_path fs) (sym (a ∙ n)) ∙ leaf_selected fs F k q l e)

      -- behind the level's own leaves
      pub known_near : (T : Tour) → moves_of T ≡ shape_near_moves h G at (Some x) → Known pre (after c T) (row (single z))
      known_near T m k q e b = by_place (f k q e)
        where
          by_place : Below h pre G k q ⊎ Beside pre row G k q → after c T k ≡ value_at q (row (single z))
          by_place (inl y) =
              let n : max_repetition y.0 ≡ 0 = own_leaf pre q y.0 y.1 b in
              let g = shape_once k h y.0 n G y.2 y.3 at (Some x) v in
              after_last T c k ∙ ap (last k (c k)) m ∙ last_single k (c k) (shape_near_moves h G at (Some x)) g.given g.once ∙ g.with_value ∙ same y.0 y.3 n
              ∙ sym (w.values_at y.0 z (not_empty k q y.0 e y.1)) ∙ ap (λ (u : List Step). value_at u (row (single z))) (sym y.1)
          by_place (inr y) = after_last T c k ∙ ap (last k (c k)) m ∙ silent k (c k) (shape_near_moves h G at (Some x)) (shape_near_nothing k h G at (Some x) y.0) ∙ known k q e b y.1

      -- where the instance is left
      pub known_at_leave : (j : ℕ) (T : Tour) → moves_of T ≡ moves_in (shape_near_moves h G) (shape_far_moves h G j) at (Some x) → Known pre (after c T) (row (single z))
      known_at_leave j T m k q e b = by_place (f k q e)
        where
          by_place : Below h pre G k q ⊎ Beside pre row G k q → after c T k ≡ value_at q (row (single z))
          by_place (inl y) =
              let n : max_repetition y.0 ≡ 0 = own_leaf pre q y.0 y.1 b in
              own_at_leave h G j at T c k y.0 x y.2 y.3 n v m ∙ same y.0 y.3 n
              ∙ sym (w.values_at y.0 z (not_empty k q y.0 e y.1)) ∙ ap (λ (u : List Step). value_at u (row (single z))) (sym y.1)
          by_place (inr y) = outside_at_leave h G j at T c k (Some x) y.0 m ∙ known k q e b y.1

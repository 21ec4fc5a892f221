-- Over the walk of records, what is told of each branch as it is left is what the query keeps.
use Rattle.std.proofs.Common.{◌≡◌, ℕ, List, [], ◌∷◌, ◌++◌, Bool, true, Option, None, Some, refl, sym, ap, ap₂, subst, ◌∙◌}
use Rattle.std.specs.Prelude.{map, not, is_some, option_map}
use Rattle.std.specs.List.{list_all, flat_map, slice_get}
use Rattle.std.proofs.lemmas.Bool.{and_parts}
use Rattle.dr_meaning.specs.Schema.{Fields, group}
use Rattle.dr_meaning.specs.Path.{Step, chain_end, is_leaf_path}
use Rattle.dr_meaning.specs.Record.{Node, Instances, inner, is_record}
use Rattle.dr_meaning.specs.Rows.{rows}
use Rattle.dr_meaning.specs.Kept.{kept_along}
use Rattle.dr_meaning.specs.Automaton.{picks}
use Rattle.dr_meaning.specs.Walk.{Move, first_of, node_of, near_moves, far_moves, top, record_moves, walk}
use Rattle.dr_meaning.proofs.WalkLemmas.{Only}
use Rattle.dr_kept_laws.specs.Tours.{joined}
use Rattle.dr_kept_laws.specs.ChainNumbers.{chain_numbers}
use Rattle.dr_kept_laws.specs.Leavings.{Leaving, tour_leavings, on, is_left_out, instance_leavings, record_leavings}
use Rattle.dr_kept_laws.specs.TellingLaws.{StandsFor, LeavingsAreKept}
use Rattle.dr_kept_laws.proofs.TourParts.{joined_moves, one_tour}
use Rattle.dr_kept_laws.proofs.Selections.{leaf_selected, selected_only}
use Rattle.dr_kept_laws.proofs.OffChain.{joined_leavings}
use Rattle.dr_kept_laws.proofs.RowAnswers.{instance_answers, inner_answers}
use Rattle.dr_kept_laws.proofs.OnChain.{Told, answers, enclosed_told}
use Rattle.dr_kept_laws.proofs.RowsOnChain.{OnlyOn, joined_only}
use Rattle.dr_kept_laws.proofs.AtMostOnce.{IsOnce, joined_once}
use Rattle.dr_kept_laws.proofs.ChainTold.{instance_told, once_at_end, shape_told}
use Rattle.dr_moves.specs.Context.{Context}
use Rattle.dr_moves.specs.Tour.{Tour, over, moves_of, after}
use Rattle.dr_moves.specs.Condition.{Watch}
use Rattle.dr_moves.proofs.FiringLemmas.{rows_fire}

-- a record's node, as the only instance
node_in : Instances → Node
node_in xs = node_of (first_of xs)

left_out_record : (L : List Step) (condition : Node → Bool) (n : Node) → is_left_out (on L node_in condition) (inner n) ≡ not (is_some (kept_along L condition n))
unfolding node_in
left_out_record L condition n = ap not (by_kept (kept_along L condition n))
  where
    by_kept : (o : Option Node) → is_some (option_map inner o) ≡ is_some o
    by_kept None = refl
    by_kept (Some m) = refl

node_answers : (L : List Step) (condition : Node → Bool) (n : Node) → instance_answers L node_in condition (inner n) ≡ map condition (rows L n)
unfolding node_in
node_answers L condition n = inner_answers L node_in condition n

record_told : (fs : Fields) (F : List (List Step)) (w : Watch) (p : List Step) (condition : Node → Bool) → is_leaf_path fs p ≡ true → slice_get F w.last ≡ Some p → (n : Node) → is_record fs n ≡ true
    → Told w (Some (0 ∷ chain_numbers fs p)) (record_moves fs F n) (instance_answers (chain_end p) node_in condition (inner n))
    (instance_leavings (group fs) (picks F) 1 (on (chain_end p) node_in condition) (Some (inner n)) ++ record { number = 0; dropped = is_left_out (on (chain_end p) node_in condition) (inner n) } ∷ [])
record_told fs F w p condition u e n v =
    let o : Only w.last p (picks F) = selected_only F w.last p e in
    enclosed_told w 0 (chain_numbers fs p) (near_moves fs (picks F) top n ++ far_moves fs (picks F) 1 top n) (chain_end p) node_in condition (inner n) _
    (once_at_end w.last (group fs) p (picks F) o u 1 top (inner n) v) (instance_told w (group fs) p (shape_told w (group fs) p) (picks F) o u 1 top (inner n) v node_in condition)

-- moves that tell this in any context
record Always (w : Watch) (r : Option (List ℕ)) (ms : List Move) (ls : List Leaving) : Type 0 where
  pub tour : Tour
  pub moves : moves_of tour ≡ ms
  pub told : (c : Context) → tour_leavings w r c tour ≡ ls
  pub once : IsOnce w.last r tour
  pub only : OnlyOn w.last r tour

module _ (fs : Fields) (F : List (List Step)) (w : Watch) (p : List Step) (K : List ℕ) (condition : Node → Bool) (s : StandsFor fs F w p K condition) where
  one_record : (n : Node) → is_record fs n ≡ true → Always w (Some (0 ∷ w.chain)) (record_moves fs F n) (record_leavings fs F (chain_end p) condition n)
  unfolding node_in
  one_record n v =
      let t = record_told fs F w p condition (leaf_selected fs F w.last p s.leaves s.last) s.last n v in
      record {
        tour = t.tour;
        moves = t.moves;
        told = λ c.
            let h : answers w c (record_moves fs F n) ≡ instance_answers (chain_end p) node_in condition (inner n) = rows_fire Bool fs F w.last p K n c w.test condition s.leaves s.last v s.together s.decides ∙ sym (node_answers (chain_end p) condition n) in
            ap (λ (N : List ℕ). tour_leavings w (Some (0 ∷ N)) c t.tour) s.chain ∙ t.told c h
            ∙ ap (λ (b : Bool). instance_leavings (group fs) (picks F) 1 (on (chain_end p) node_in condition) (Some (inner n)) ++ record { number = 0; dropped = b } ∷ []) (left_out_record (chain_end p) condition n);
        once = subst (λ (N : List ℕ). IsOnce w.last (Some (0 ∷ N)) t.tour) (sym s.chain) t.once;
        only = subst (λ (N : List ℕ). OnlyOn w.last (Some (0 ∷ N)) t.tour) (sym s.chain) t.only;
      }

  all_records : (R : List Node) → list_all (is_record fs) R ≡ true → Always w (Some (0 ∷ w.chain)) (walk fs F R) (flat_map (record_leavings fs F (chain_end p) condition) R)
  unfolding walk
  all_records [] v = record { tour = over; moves = refl; told = λ c. refl; once = tt; only = tt }
  all_records (n ∷ R) v =
      let b : (is_record fs n ≡ true) × (list_all (is_record fs) R ≡ true) = and_parts (is_record fs n) (list_all (is_record fs) R) v in
      let x = one_record n b.0 in
      let y = all_records R b.1 in
      record {
        tour = joined x.tour y.tour;
        moves = joined_moves x.tour y.tour ∙ ap₂ (λ (m k : List Move). m ++ k) x.moves y.moves;
        told = λ c. joined_leavings w (Some (0 ∷ w.chain)) c x.tour y.tour ∙ ap₂ (λ (m k : List Leaving). m ++ k) (x.told c) (y.told (after c x.tour));
        once = joined_once w.last (Some (0 ∷ w.chain)) x.tour y.tour x.once y.once;
        only = joined_only w.last (Some (0 ∷ w.chain)) x.tour y.tour x.only y.only;
      }

pub leavings_are_kept : LeavingsAreKept
leavings_are_kept fs F w p K condition s R T c v m =
    let x = all_records fs F w p K condition s R v in
    ap (tour_leavings w (Some (0 ∷ w.chain)) c) (one_tour T x.tour (m ∙ sym x.moves)) ∙ x.told c

-- in each instance at the chain's end the condition has at most one row
pub walk_once : (fs : Fields) (F : List (List Step)) (w : Watch) (p : List Step) (K : List ℕ) (condition : Node → Bool) → StandsFor fs F w p K condition → (R : List Node) (T : Tour) → list_all (is_record fs) R ≡ true → moves_of T ≡ walk fs F R
    → IsOnce w.last (Some (0 ∷ w.chain)) T
walk_once fs F w p K condition s R T v m =
    let x = all_records fs F w p K condition s R v in
    subst (IsOnce w.last (Some (0 ∷ w.chain))) (sym (one_tour T x.tour (m ∙ sym x.moves))) x.once

-- the condition's rows are read on its chain alone
pub walk_only : (fs : Fields) (F : List (List Step)) (w : Watch) (p : List Step) (K : List ℕ) (condition : Node → Bool) → StandsFor fs F w p K condition → (R : List Node) (T : Tour) → list_all (is_record fs) R ≡ true → moves_of T ≡ walk fs F R
    → OnlyOn w.last (Some (0 ∷ w.chain)) T
walk_only fs F w p K condition s R T v m =
    let x = all_records fs F w p K condition s R v in
    subst (OnlyOn w.last (Some (0 ∷ w.chain))) (sym (one_tour T x.tour (m ∙ sym x.moves))) x.only

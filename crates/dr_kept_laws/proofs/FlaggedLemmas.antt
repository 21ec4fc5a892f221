-- What kept moves make depends on the condition by a flag for each branch alone.
use Rattle.std.proofs.Common.{◌≡◌, ℕ, suc, ◌+◌, List, [], ◌∷◌, ◌++◌, length, drop, Bool, Option, Some, refl, sym, ap, ap₂, ◌∙◌, append_assoc, append-nil, length-append, arith}
use Rattle.std.specs.Prelude.{if◌then◌else◌}
use Rattle.std.proofs.lemmas.List.{map-append}
use Rattle.std.proofs.Math.Seq.{drop-append_seam}
use Rattle.dr_kept_laws.specs.Leavings.{Leaving, tour_leavings}
use Rattle.dr_kept_laws.specs.FlaggedFlow.{branch_count, flagged_flow, flags_of, FlowIsKept}
use Rattle.dr_kept_laws.proofs.LeavingsKept.{leavings_are_kept}
use Rattle.dr_moves.specs.Context.{Context, with_value}
use Rattle.dr_moves.specs.Tour.{Tour, over, saw, inside, after}
use Rattle.dr_moves.specs.Condition.{Watch, some_true, rest_below, is_dropped}
use Rattle.dr_moves.specs.Cutting.{flow}
use Rattle.dr_meaning.specs.Lists.{first_answer}

-- one flag for each branch
flag_count : (w : Watch) (r : Option (List ℕ)) (c : Context) (T : Tour) → length (flags_of (tour_leavings w r c T)) ≡ branch_count T
flag_count w r c over = refl
flag_count w r c (saw i t T) = flag_count w r (with_value i t.value c) T
flag_count w r c (inside k B T) =
    let l : Leaving = record { number = k; dropped = is_dropped (rest_below k r) (some_true w c B) } in
    let b : length (flags_of (tour_leavings w (rest_below k r) c B)) ≡ branch_count B = flag_count w (rest_below k r) c B in
    let t : length (flags_of (tour_leavings w r (after c B) T)) ≡ branch_count T = flag_count w r (after c B) T in
    ap length (map-append (λ (l : Leaving). l.dropped) (tour_leavings w (rest_below k r) c B) (l ∷ tour_leavings w r (after c B) T))
    ∙ length-append (flags_of (tour_leavings w (rest_below k r) c B)) (l.dropped ∷ flags_of (tour_leavings w r (after c B) T))
    ∙ ap₂ (λ (x y : ℕ). x + suc y) b t

drop_front : (n : ℕ) (xs ys : List Bool) → length xs ≡ n → drop n (xs ++ ys) ≡ ys
drop_front n xs ys e = ap (λ (m : ℕ). drop m (xs ++ ys)) (sym e) ∙ drop-append_seam xs ys

drop_next : (n : ℕ) (xs : List Bool) (y : Bool) (ys : List Bool) → length xs ≡ n → drop (suc n) (xs ++ y ∷ ys) ≡ ys
drop_next n xs y ys e =
    let m : suc n ≡ length (xs ++ y ∷ []) = omega (arith, e, length-append xs (y ∷ [])) in
    ap₂ (λ (a : ℕ) (b : List Bool). drop a b) m (sym (append_assoc xs (y ∷ []) ys)) ∙ drop-append_seam (xs ++ y ∷ []) ys

module _ {A : Type 0} (seen : ℕ → Context → List A) (left : ℕ → Context → List A → List A) (w : Watch) where
  -- more flags behind those of a tour don't matter
  pub flow_flagged : (r : Option (List ℕ)) (c : Context) (T : Tour) (more : List Bool) → flow seen left w r c T ≡ flagged_flow seen left (flags_of (tour_leavings w r c T) ++ more) c T
  flow_flagged r c over more = refl
  flow_flagged r c (saw i t T) more = ap (λ (x : List A). seen i (with_value i t.value c) ++ x) (flow_flagged r (with_value i t.value c) T more)
  flow_flagged r c (inside k B T) more =
      let q = rest_below k r in
      let d = is_dropped q (some_true w c B) in
      let l : Leaving = record { number = k; dropped = d } in
      let inner = flags_of (tour_leavings w q c B) in
      let others = flags_of (tour_leavings w r (after c B) T) in
      let all : flags_of (tour_leavings w r c (inside k B T)) ++ more ≡ inner ++ d ∷ (others ++ more)
      = ap (λ (x : List Bool). x ++ more) (map-append (λ (l : Leaving). l.dropped) (tour_leavings w q c B) (l ∷ tour_leavings w r (after c B) T)) ∙ append_assoc inner (d ∷ others) more in
      let n : length inner ≡ branch_count B = flag_count w q c B in
      ap₂ (λ (x y : List A). (if d then [] else left k (after c B) x) ++ y) (flow_flagged q c B (d ∷ (others ++ more))) (flow_flagged r (after c B) T more)
      ∙ ap₂ (λ (x : Bool) (y : List Bool). (if x then [] else left k (after c B) (flagged_flow seen left (inner ++ d ∷ (others ++ more)) c B)) ++ flagged_flow seen left y (after c B) T)
      (sym (ap first_answer (drop_front (branch_count B) inner (d ∷ (others ++ more)) n))) (sym (drop_next (branch_count B) inner d (others ++ more) n))
      ∙ ap (λ (x : List Bool). flagged_flow seen left x c (inside k B T)) (sym all)

pub flow_is_kept : (A : Type 0) → FlowIsKept A
flow_is_kept A seen left fs F w p K condition s R T c v m =
    flow_flagged seen left w (Some (0 ∷ w.chain)) c T []
    ∙ ap (λ (x : List Leaving). flagged_flow seen left (flags_of x ++ []) c T) (leavings_are_kept fs F w p K condition s R T c v m)
    ∙ ap (λ (x : List Bool). flagged_flow seen left x c T) (append-nil (flags_of _))

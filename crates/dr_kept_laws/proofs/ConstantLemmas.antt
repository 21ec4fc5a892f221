-- What is told of the branches of a walk by a condition without leaves is what the query keeps.
use Rattle.std.proofs.Common.{◌≡◌, ℕ, zero, suc, ◌+◌, ◌-◌, List, [], ◌∷◌, ◌++◌, Bool, true, false, None, Some, refl, sym, ap, ap₂, ◌∙◌, append_assoc, arith}
use Rattle.std.specs.Prelude.{not, reverse, is_some, if◌then◌else◌}
use Rattle.std.specs.List.{list_all, flat_map}
use Rattle.std.proofs.lemmas.Bool.{and_parts}
use Rattle.std.proofs.lemmas.List.{reverse-append}
use Rattle.dr_meaning.specs.Schema.{Fields, group, repeated_fields}
use Rattle.dr_meaning.specs.Path.{Step}
use Rattle.dr_meaning.specs.Record.{Node, inner, is_record}
use Rattle.dr_meaning.specs.Automaton.{picks}
use Rattle.dr_meaning.specs.Walk.{Move, leave, top, near_moves, far_moves, record_moves, walk}
use Rattle.dr_kept_laws.specs.Leavings.{Leaving, tour_leavings, record_leavings, node_leavings, off}
use Rattle.dr_kept_laws.specs.Telling.{Verdict, kept, dropped, first_dropped, is_told_dropped}
use Rattle.dr_kept_laws.specs.Constant.{all_kept, constant_leavings, ConstantIsKept}
use Rattle.dr_kept_laws.proofs.OffChain.{Off, instance_off, shape_far_off}
use Rattle.dr_moves.specs.Context.{Context, with_value}
use Rattle.dr_moves.specs.Tour.{Tour, over, saw, inside, moves_of, after}
use Rattle.dr_moves.specs.Condition.{Watch}

last_kept : (v : Verdict) (n : ℕ) → first_dropped (reverse (v ∷ all_kept (suc n))) ≡ false
last_kept v n = ap first_dropped (reverse-append (v ∷ []) (all_kept (suc n)) ∙ ap (λ (x : List Verdict). x ++ v ∷ []) (kept_back n))
  where
    kept_more : (n : ℕ) → all_kept n ++ kept ∷ [] ≡ kept ∷ all_kept n
    kept_more zero = refl
    kept_more (suc n) = ap (λ (x : List Verdict). kept ∷ x) (kept_more n)

    kept_reverse : (n : ℕ) → reverse (all_kept n) ≡ all_kept n
    kept_reverse zero = refl
    kept_reverse (suc n) = reverse-append (kept ∷ []) (all_kept n) ∙ ap (λ (x : List Verdict). x ++ kept ∷ []) (kept_reverse n) ∙ kept_more n

    kept_back : (n : ℕ) → reverse (all_kept (suc n)) ≡ kept ∷ all_kept n
    kept_back n = kept_reverse (suc n)

-- inside of a record all is kept
constant_tour : (b : Bool) (w : Watch) (T : Tour) (c : Context) (n : ℕ) (ms : List Move) → constant_leavings b (suc n) (moves_of T ++ ms) ≡ tour_leavings w None c T ++ constant_leavings b (suc n) ms
constant_tour b w over c n ms = refl
constant_tour b w (saw i t T) c n ms = constant_tour b w T (with_value i t.value c) n ms
constant_tour b w (inside k B T) c n ms =
    let l : Leaving = record { number = k; dropped = false } in
    ap (constant_leavings b (suc (suc n))) (append_assoc (moves_of B) (leave k ∷ moves_of T) ms)
    ∙ constant_tour b w B c (suc n) (leave k ∷ (moves_of T ++ ms))
    ∙ ap₂ (λ (x : Bool) (y : List Leaving). tour_leavings w None c B ++ record { number = k; dropped = x } ∷ y) (last_kept (if b then kept else dropped) n)
    (ap (λ (d : ℕ). constant_leavings b d (moves_of T ++ ms)) (one_less n) ∙ constant_tour b w T (after c B) n ms)
    ∙ sym (append_assoc (tour_leavings w None c B) (l ∷ tour_leavings w None (after c B) T) (constant_leavings b (suc n) ms))
  where
    one_less : (n : ℕ) → suc (suc n) - 1 ≡ suc n
    one_less n = omega arith

own_dropped : (b : Bool) (n : Node) → is_told_dropped (if b then kept else dropped) ≡ not (is_some (if b then Some n else None))
own_dropped true n = refl
own_dropped false n = refl

constant_record : (fs : Fields) (F : List (List Step)) (b : Bool) (n : Node) (ms : List Move) → constant_leavings b 0 (record_moves fs F n ++ ms) ≡ record_leavings fs F [] (λ row. b) n ++ constant_leavings b 0 ms
constant_record fs F b n ms =
    let w : Watch = record { chain = []; last = 0; test = λ d. b } in
    let c : Context = λ i. None in
    let a : List Move = near_moves fs (picks F) top n ++ far_moves fs (picks F) 1 top n in
    let x : Off 1 (1 + repeated_fields fs) a (node_leavings fs (picks F) 1 (λ i. off) n) = instance_off 1 (1 + repeated_fields fs) (group fs) (picks F) (λ k at y. shape_far_off (group fs) (picks F) k at y) 1 top (Some (inner n)) (omega arith) (omega arith) in
    ap (constant_leavings b 1) (append_assoc a (leave 0 ∷ []) ms ∙ ap (λ (m : List Move). m ++ leave 0 ∷ ms) (sym x.moves))
    ∙ constant_tour b w x.tour c 0 (leave 0 ∷ ms)
    ∙ ap₂ (λ (p : List Leaving) (q : Bool). p ++ record { number = 0; dropped = q } ∷ constant_leavings b 0 ms) (x.told w c) (own_dropped b n)
    ∙ sym (append_assoc (node_leavings fs (picks F) 1 (λ i. off) n) (record { number = 0; dropped = not (is_some (if b then Some n else None)) } ∷ []) (constant_leavings b 0 ms))

pub constant_is_kept : ConstantIsKept
unfolding walk
constant_is_kept fs F b [] v = refl
constant_is_kept fs F b (n ∷ R) v =
    let s : (is_record fs n ≡ true) × (list_all (is_record fs) R ≡ true) = and_parts (is_record fs n) (list_all (is_record fs) R) v in
    constant_record fs F b n (flat_map (record_moves fs F) R) ∙ ap (λ (x : List Leaving). record_leavings fs F [] (λ row. b) n ++ x) (constant_is_kept fs F b R s.1)

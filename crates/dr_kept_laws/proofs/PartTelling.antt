-- A pruner that keeps the answers of a condition's parts tells what is told.
use Rattle.std.proofs.Common.{◌≡◌, List, [], ◌∷◌, ◌++◌, Bool, true, false, refl, sym, ap, subst, ◌∙◌}
use Rattle.std.specs.Prelude.{map, reverse, length, ◌==◌, if◌then◌else◌}
use Rattle.dr_meaning.specs.Walk.{Move, enter, value, leave}
use Rattle.dr_kept_laws.specs.Telling.{nothing_read}
use Rattle.dr_kept_laws.specs.Counting.{Numbers, no_numbers, whole_chain, count_row, count_move, verdicts_of, numbers_tell, context_behind, count_all, counted_tell}
use Rattle.dr_kept_laws.specs.Parts.{Part, part_at, all_answers, all_tests, parts_behind, answering, prune_moves, pruning_tells, PartsTell}
use Rattle.dr_kept_laws.proofs.CountingLemmas.{numbers_tell_told}
use Rattle.dr_kept_laws.proofs.PartLemmas.{AllRight, same_tests, right_here, right_then, right_entered, right_left, parts_right}
use Rattle.dr_moves.specs.Context.{Context, with_value}
use Rattle.dr_moves.specs.Condition.{Watch}

-- the test is that of the parts
abbrev IsTest : Watch → List Part → Type 0
IsTest w ps = (c : Context) → w.test c ≡ all_tests ps c

module _ (w : Watch) where
  rights_behind : (x : Move) (ms : List Move) (c : Context) (ps : List Part) → AllRight w.last c (x ∷ ms) ps → AllRight w.last (context_behind c x) ms (parts_behind (context_behind c x) x ps)
  rights_behind (enter k) ms c ps h = right_entered w.last k ms c ps h
  rights_behind (value l t) ms c ps h = right_then w.last l t ms c ps h
  rights_behind (leave k) ms c ps h = right_left w.last k ms c ps h

  tests_behind : (x : Move) (c : Context) (ps : List Part) → IsTest w ps → IsTest w (parts_behind c x ps)
  tests_behind (enter k) c ps h d = h d
  tests_behind (value l t) c ps h d = h d ∙ sym (same_tests l c d ps)
  tests_behind (leave k) c ps h d = h d

  same_count : (x : Move) (ms : List Move) (c : Context) (ps : List Part) (n : Numbers) → AllRight w.last c (x ∷ ms) ps → IsTest w ps
      → count_move (answering w (parts_behind (context_behind c x) x ps)) (context_behind c x) x n ≡ count_move w (context_behind c x) x n
  same_count (enter k) ms c ps n h e = refl
  same_count (value l t) ms c ps n h e = by_last (l == w.last) (λ q. right_here w.last l t ms c ps q h)
    where
      by_last : (b : Bool) → (b ≡ true → all_answers (map (part_at l (with_value l t.value c)) ps) ≡ all_tests ps (with_value l t.value c))
          → (if b then count_row (all_answers (map (part_at l (with_value l t.value c)) ps)) n else n) ≡ (if b then count_row (w.test (with_value l t.value c)) n else n)
      by_last true f = ap (λ (v : Bool). count_row v n) (f refl ∙ sym (e (with_value l t.value c)))
      by_last false f = refl
  same_count (leave k) ms c ps n h e = refl

  same_tell : (x : Move) (ms : List Move) (c : Context) (ps : List Part) (n : Numbers) → AllRight w.last c (x ∷ ms) ps → IsTest w ps
      → numbers_tell (answering w (parts_behind (context_behind c x) x ps)) (context_behind c x) x n ≡ numbers_tell w (context_behind c x) x n
  same_tell (enter k) ms c ps n h e = refl
  same_tell (value l t) ms c ps n h e = ap (λ (v : Numbers). verdicts_of (length (whole_chain w)) v n.depth) (same_count (value l t) ms c ps n h e)
  same_tell (leave k) ms c ps n h e = refl

  parts_are_numbers : (ms rest : List Move) (m : Move) (c : Context) (ps : List Part) (n : Numbers) → AllRight w.last c (ms ++ m ∷ rest) ps → IsTest w ps
      → pruning_tells w (prune_moves w (record { context = c; parts = ps; numbers = n }) ms) m ≡ counted_tell w (count_all w (record { context = c; numbers = n }) ms) m
  parts_are_numbers [] rest m c ps n h e = ap reverse (same_tell m rest c ps n h e)
  parts_are_numbers (x ∷ ms) rest m c ps n h e =
      let d = context_behind c x in
      ap (λ (v : Numbers). pruning_tells w (prune_moves w (record { context = d; parts = parts_behind d x ps; numbers = v }) ms) m) (same_count x (ms ++ m ∷ rest) c ps n h e)
      ∙ parts_are_numbers ms rest m d (parts_behind d x ps) (count_move w d x n) (rights_behind x (ms ++ m ∷ rest) c ps h) (tests_behind x d ps e)

pub parts_tell_told : PartsTell
parts_tell_told fs F w p ps R h e v a t ms rest m q =
    parts_are_numbers w ms rest m nothing_read.context ps no_numbers (subst (λ (x : List Move). AllRight w.last nothing_read.context x ps) q (parts_right fs F w.last p R h e v nothing_read.context ps a)) t
    ∙ numbers_tell_told w ms m

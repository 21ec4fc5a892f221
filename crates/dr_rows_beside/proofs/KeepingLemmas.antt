-- What a condition keeps, in code.
use Rattle.std.proofs.Common.{◌≡◌, ℕ, zero, suc, ◌<◌, List, [], ◌∷◌, ◌++◌, map, length, take, get_or, Bool, true, false, refl, sym, ap, ap₂, ◌∙◌, subst, arith}
use Rattle.std.specs.Prelude.{nat_le, if◌then◌else◌, None, Option, replicate}
use Rattle.std.proofs.lemmas.List.{length-map}
use Rattle.std.specs.declared.vec.Vec.{Vec}
use Rattle.std.specs.declared.alloc.Global.{Global}
use Rattle.dr_meaning.specs.Record.{Value}
use Rattle.dr_meaning.specs.Column.{Triplet}
use Rattle.dr_levels.specs.declared.triplet.Levels.{Levels}
use Rattle.dr_levels.specs.Views.{levels_pair, triplet_levels, triplets_view}
use Rattle.dr_levels.specs.declared.triplets.Triplets.{Triplets}
use Rattle.dr_agreement.proofs.OutlinedLemmas.{column_of}
use Rattle.dr_beside.specs.Neighbours.{column_at}
use Rattle.dr_beside.specs.Spreading.{repetitions_of, next_of, rest_of, spread_over}
use Rattle.dr_rows_beside.specs.declared.judging.Test.{Test}
use Rattle.dr_levels.specs.Apart.{repetitions}
use Rattle.dr_rows_beside.specs.Bits.{each_and}
use Rattle.dr_rows_beside.specs.Rows.{source_view, run}
use Rattle.dr_rows_beside.specs.Answers.{holds_in}
use Rattle.dr_rows_beside.specs.RecordRows.{rows_of}
use Rattle.dr_rows_beside.specs.Judging.{AreGathered, narrowed, narrowed_by}
use Rattle.dr_rows_beside.specs.Keepings.{levels_of, judged}
use Rattle.dr_rows_beside.proofs.RunLemmas.{as_many_rows}

pub same_repetitions : (ls : List Levels) (ts : List Triplet) → map levels_pair ls ≡ map triplet_levels ts → repetitions ls ≡ repetitions_of ts
same_repetitions [] [] e = refl
same_repetitions [] (t ∷ ts) e = absurd (cc)
same_repetitions (l ∷ ls) [] e = absurd (cc)
same_repetitions (l ∷ ls) (t ∷ ts) e =
    let a : levels_pair l ≡ triplet_levels t = cc in
    let b : map levels_pair ls ≡ map triplet_levels ts = cc in
    ap₂ (λ (r : ℕ) (rs : List ℕ). r ∷ rs) (ap (λ (x : ℕ × ℕ). x.0) a) (same_repetitions ls ts b)

pub levels_there : (cs : List Triplets) (k : ℕ) (x : Triplets) (ls : List Levels) → k < length (map triplets_view cs) → x ≡ get_or cs k x → map levels_pair ls ≡ map triplet_levels (triplets_view x) → repetitions ls ≡ repetitions_of (column_at (map triplets_view cs) k)
levels_there cs k x ls h e l = same_repetitions ls (triplets_view x) l ∙ ap repetitions_of (column_of cs k x (omega (arith, h, length-map cs triplets_view)) e)

-- ---- as many

pub and_long : (bs xs : List Bool) → length xs ≡ length bs → length (each_and bs xs) ≡ length bs
and_long [] xs e = refl
and_long (b ∷ bs) [] e = absurd (omega (arith, e))
and_long (b ∷ bs) (x ∷ xs) e = ap suc (and_long bs xs (omega (arith, e)))

pub spread_long : (k : ℕ) (now : Bool) (xs : List Bool) (rs : List ℕ) → length (spread_over k now xs rs) ≡ length rs
spread_long k now xs [] = refl
spread_long k now xs (r ∷ rs) = by_test (nat_le r k) (spread_long k (next_of now xs) (rest_of xs) rs) (spread_long k now xs rs)
  where
    by_test : (b : Bool) → length (spread_over k (next_of now xs) (rest_of xs) rs) ≡ length rs → length (spread_over k now xs rs) ≡ length rs
        → length (if b then next_of now xs ∷ spread_over k (next_of now xs) (rest_of xs) rs else now ∷ spread_over k now xs rs) ≡ suc (length rs)
    by_test true e f = ap suc e
    by_test false e f = ap suc f

pub narrowed_long : (C : List (List Triplet)) (rs : List ℕ) (ts : List Test) (bs : List Bool) → length bs ≡ length rs → length (narrowed_by C rs ts bs) ≡ length rs
narrowed_long C rs [] bs e = e
narrowed_long C rs (t ∷ ts) bs e =
    let xs = spread_over t.depth false (map (holds_in t.truth.now) (rows_of t.source.leaf t.source.beside.items C)) rs in
    let k : length xs ≡ length bs = spread_long t.depth false (map (holds_in t.truth.now) (rows_of t.source.leaf t.source.beside.items C)) rs ∙ sym e in
    narrowed_long C rs ts (narrowed C rs t bs) (and_long bs xs k ∙ e)

pub run_long : (C : List (List Triplet)) (t : Test) (vs : List (Option Value)) → length (map (holds_in t.truth.now) (run t.source.leaf (map (source_view C) t.source.beside.items) vs (column_at C t.source.leaf))) ≡ length (levels_of C t)
run_long C t vs =
    length-map (run t.source.leaf (map (source_view C) t.source.beside.items) vs (column_at C t.source.leaf)) (holds_in t.truth.now)
    ∙ as_many_rows t.source.leaf (map (source_view C) t.source.beside.items) vs (column_at C t.source.leaf)
    ∙ sym (length-map (column_at C t.source.leaf) (λ (x : Triplet). x.repetition))

pub answers_long : (C : List (List Triplet)) (t : Test) → length (map (holds_in t.truth.now) (rows_of t.source.leaf t.source.beside.items C)) ≡ length (levels_of C t)
answers_long C t = run_long C t (replicate (length C) None)

pub judged_long : (C : List (List Triplet)) (own : Test) (others : List Test) → length (judged C own others) ≡ length (levels_of C own)
judged_long C own others = narrowed_long C (levels_of C own) others _ (answers_long C own)

pub levels_long : (ls : List Levels) (rs : List ℕ) → repetitions ls ≡ rs → length ls ≡ length rs
levels_long ls rs e = sym (length-map ls (λ (l : Levels). l.repetition)) ∙ ap (λ (xs : List ℕ). length xs) e

-- ---- bits that are put in place

pub all_put : {A : Type 0} (n : ℕ) (xs ys : List A) → length xs ≡ n → take n (xs ++ ys) ≡ xs
all_put zero [] ys e = refl
all_put zero (x ∷ xs) ys e = absurd (omega (arith, e))
all_put (suc n) [] ys e = absurd (omega (arith, e))
all_put (suc n) (x ∷ xs) ys e = ap (λ zs. x ∷ zs) (all_put n xs ys (omega (arith, e)))

pub gathered_put : (rs : List ℕ) (bs : List Bool) (n : ℕ) (out others : List (Vec Bool Global)) → length out ≡ n → AreGathered rs bs (length out) out → AreGathered rs bs (length (take n (out ++ others))) (take n (out ++ others))
gathered_put rs bs n out others e h = subst (λ (xs : List (Vec Bool Global)). AreGathered rs bs (length xs) xs) (sym (all_put n out others e)) h

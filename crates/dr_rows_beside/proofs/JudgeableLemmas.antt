-- The columns that records have can be judged.
use Rattle.std.proofs.Common.{◌≡◌, ◌≤◌, ℕ, ◌+◌, suc, List, [], ◌∷◌, length, Bool, true, false, Some, refl, sym, ap, ap₂, ◌∙◌, subst, arith}
use Rattle.std.specs.Prelude.{◌==◌, ◌&&◌, nat_le, if◌then◌else◌}
use Rattle.std.specs.List.{list_all, slice_get}
use Rattle.std.proofs.lemmas.Bool.{eqb-true, eq-eqb}
use Rattle.dr_meaning.specs.Schema.{Fields}
use Rattle.dr_meaning.specs.Path.{Step, Leaf, paths_of_leaves, is_leaf_path, begins_with, same_path, chain_end, max_repetition}
use Rattle.dr_meaning.specs.Record.{Node}
use Rattle.dr_meaning.specs.Column.{Triplet, column}
use Rattle.dr_meaning.specs.OneColumn.{begins_record}
use Rattle.dr_meaning.proofs.ColumnStarts.{column_rows}
use Rattle.dr_moves.specs.Selection.{all_differ}
use Rattle.dr_scalar.specs.Leaves.{truth_leaves}
use Rattle.dr_beside.specs.Chunks.{HasColumns}
use Rattle.dr_beside.specs.Feeding.{goes}
use Rattle.dr_beside.specs.Neighbours.{column_at}
use Rattle.dr_beside.specs.Spreading.{repetitions_of}
use Rattle.dr_beside.proofs.FeedLemmas.{goes_on_by_each}
use Rattle.dr_rows_beside.specs.declared.judging.Test.{Test}
use Rattle.dr_agreement.specs.Cuts.{begins}
use Rattle.dr_rows_beside.specs.Bits.{many, all_within}
use Rattle.dr_rows_beside.specs.RecordRows.{AreBeside}
use Rattle.dr_rows_beside.specs.Sources.{AreReadBeside, all_beside}
use Rattle.dr_rows_beside.specs.Judging.{CanAnswer, CanAnswerEach}
use Rattle.dr_rows_beside.specs.Kept.{IsTestOf, AreTestsOf}
use Rattle.dr_rows_beside.specs.Keeps.{RecordsCanBeJudged}
use Rattle.dr_rows_beside.proofs.RecordRowLemmas.{Known, known, rows_of_records}
use Rattle.dr_rows_beside.proofs.SourceLemmas.{differ_both, sources_are_beside}
use Rattle.dr_rows_beside.proofs.KeptBitLemmas.{column_within}

many_goes : (k : ℕ) (ts : List Triplet) → many k (repetitions_of ts) ≡ goes k ts
many_goes k [] = refl
many_goes k (t ∷ ts) = ap (λ (n : ℕ). (if nat_le t.repetition k then 1 else 0) + n) (many_goes k ts)

goes_few : (k : ℕ) (ts : List Triplet) → goes k ts ≤ length ts
goes_few k [] = omega arith
goes_few k (t ∷ ts) = by_test (nat_le t.repetition k) (goes_few k ts)
  where
    by_test : (b : Bool) → goes k ts ≤ length ts → (if b then 1 else 0) + goes k ts ≤ suc (length ts)
    by_test true h = omega (arith, h)
    by_test false h = omega (arith, h)

begins_same : (ts : List Triplet) → begins (repetitions_of ts) ≡ begins_record ts
begins_same [] = refl
begins_same (t ∷ ts) = refl

module _ (fs : Fields) (ls : List Leaf) (C : List (List Triplet)) (n : ℕ) (R : List Node) (h : HasColumns fs (paths_of_leaves ls) C n R) (f : list_all (is_leaf_path fs) (paths_of_leaves ls) ≡ true)
    (d : all_differ (paths_of_leaves ls) ≡ true) (leaf : ℕ) (l : List Step) (e : slice_get (paths_of_leaves ls) leaf ≡ Some l) where
  as_many : (t : Test) (w : IsTestOf ls t) → begins_with (chain_end w.path) (chain_end l) ≡ true → many t.depth (repetitions_of (column_at C leaf)) ≤ length (column_at C t.source.leaf)
  as_many t w b = by_test (t.source.leaf == leaf) refl
    where
      k : Known fs (paths_of_leaves ls) C R
      k = known fs (paths_of_leaves ls) C n R h f

      by_test : (c : Bool) → (t.source.leaf == leaf) ≡ c → many t.depth (repetitions_of (column_at C leaf)) ≤ length (column_at C t.source.leaf)
      by_test true q =
          let z : t.source.leaf ≡ leaf = eqb-true t.source.leaf leaf q in
          omega (arith, many_goes t.depth (column_at C leaf), goes_few t.depth (column_at C leaf), ap (λ (i : ℕ). length (column_at C i)) z)
      by_test false q =
          let s : same_path l w.path ≡ false = differ_both (paths_of_leaves ls) leaf t.source.leaf l w.path d q e w.is_path in
          let g : goes (max_repetition w.path) (column l R) ≡ length (column w.path R) = goes_on_by_each fs l w.path R (k.path leaf l e) (k.path t.source.leaf w.path w.is_path) s b h.0 in
          let m : goes t.depth (column_at C leaf) ≡ length (column_at C t.source.leaf) =
          ap₂ (λ (i : ℕ) (ts : List Triplet). goes i ts) w.deep (sym (k.col leaf l e)) ∙ g ∙ ap (λ (ts : List Triplet). length ts) (k.col t.source.leaf w.path w.is_path) in
          omega (arith, many_goes t.depth (column_at C leaf), m)

  one_can : (t : Test) (w : IsTestOf ls t) → begins_with (chain_end w.path) (chain_end l) ≡ true → CanAnswer C (repetitions_of (column_at C leaf)) t
  one_can t w b =
      let F = paths_of_leaves ls in
      let k : Known fs F C R = known fs F C n R h f in
      let ks = truth_leaves t.truth.now in
      let a : AreBeside F t.source.leaf w.path (all_beside F t.source.leaf [] ks) × AreReadBeside t.source.leaf (all_beside F t.source.leaf [] ks) ks = sources_are_beside F t.source.leaf w.path ks d w.is_path w.on_chain in
      let there : AreBeside F t.source.leaf w.path t.source.beside.items = subst (AreBeside F t.source.leaf w.path) (sym w.read) a.0 in
      record {
        leaf = k.within t.source.leaf w.path w.is_path;
        apart = there.apart C;
        fed = (rows_of_records fs F C n R t.source.leaf w.path t.source.beside.items h f there).0;
        as_many = as_many t w b;
      }

  each_can : (ts : List Test) → AreTestsOf ls l ts → CanAnswerEach C (repetitions_of (column_at C leaf)) ts
  each_can [] a = tt
  each_can (t ∷ ts) ((w, b), a) = (one_can t w b, each_can ts a)

begins_itself : (p : List Step) → begins_with p p ≡ true
begins_itself [] = refl
begins_itself (s ∷ p) = ap₂ (λ (a b : Bool). a && b) (eq-eqb s.place s.place refl) (begins_itself p)

pub records_can_be_judged : RecordsCanBeJudged
records_can_be_judged fs ls C n R k h f d v a few =
    let F = paths_of_leaves ls in
    let x : Known fs F C R = known fs F C n R h f in
    let leaf = k.own.source.leaf in
    record {
      own = one_can fs ls C n R h f d leaf v.path v.is_path k.own v (begins_itself (chain_end v.path));
      others = each_can fs ls C n R h f d leaf v.path v.is_path k.others.items a;
      begins_there = ap (λ (ts : List Triplet). begins (repetitions_of ts)) (sym (x.col leaf v.path v.is_path)) ∙ begins_same (column v.path R)
          ∙ (column_rows fs v.path R (x.path leaf v.path v.is_path) h.0).1;
      within = ap₂ (λ (d : ℕ) (ts : List Triplet). all_within d (repetitions_of ts)) v.deep (sym (x.col leaf v.path v.is_path)) ∙ column_within v.path R;
      few = few;
    }

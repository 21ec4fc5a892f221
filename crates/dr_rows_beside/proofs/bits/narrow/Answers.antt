use Rattle.std.proofs.Common.{◌≡◌, ◌<◌, ◌≤◌, ◌+◌, ◌∙◌, ℕ, length, get_or, ap, arith, false, refl}
use Rattle.std.specs.Prelude.{nat_le, if◌then◌else◌}
use Rattle.std.proofs.lemmas.List.{length-map}
use Rattle.dr_levels.specs.declared.triplet.Levels.{Levels}
use Rattle.dr_beside.specs.Spreading.{spread_over}
use Rattle.dr_levels.specs.Apart.{repetitions}
use Rattle.dr_rows_beside.specs.Bits.{each_and}
use Rattle.dr_levels.proofs.ApartLemmas.{repetition_at, one_if}
use Rattle.dr_rows_beside.proofs.BitLemmas.{many_within, many_more, first_counts, narrow_step, few_of}
use Rattle.dr_rows_beside.proofs.bits.narrow.Goals as goal

pub overflow_add-count : goal.overflow_add-count
overflow_add-count c =
    let d : Levels = record { repetition = 0; definition = 0 } in
    let rs = repetitions c.args.levels.now in
    let i = c.levels.at in
    let e : c.from-count.result ≡ (if nat_le (get_or rs i 0) c.args.depth then 1 else 0) =
    c.from-count.ensures ∙ one_if (nat_le (get_or c.args.levels.now i d).repetition c.args.depth) ∙ ap (λ (r : ℕ). if nat_le r c.args.depth then 1 else 0) (repetition_at c.args.levels.now i d refl) in
    let h : i < length rs = omega (arith, c.levels-test.true, length-map c.args.levels.now (λ (l : Levels). l.repetition)) in
    let m : c.levels.count + c.from-count.result ≤ i + 1 = omega (arith, c.levels.invariant.counted, e, many_more c.args.depth rs i h, few_of c.args.depth rs (i + 1)) in
    omega (arith, m, c.levels-test.true)

pub bounds-answers-count : goal.bounds-answers-count
bounds-answers-count c =
    let d : Levels = record { repetition = 0; definition = 0 } in
    let rs = repetitions c.args.levels.now in
    let i = c.levels.at in
    let e : c.from-count.result ≡ (if nat_le (get_or rs i 0) c.args.depth then 1 else 0) =
    c.from-count.ensures ∙ one_if (nat_le (get_or c.args.levels.now i d).repetition c.args.depth) ∙ ap (λ (r : ℕ). if nat_le r c.args.depth then 1 else 0) (repetition_at c.args.levels.now i d refl) in
    let h : i < length rs = omega (arith, c.levels-test.true, length-map c.args.levels.now (λ (l : Levels). l.repetition)) in
    let p : 0 < c.levels.count + (if nat_le (get_or rs i 0) c.args.depth then 1 else 0) = first_counts c.args.depth rs i c.levels.count c.requires.begins h c.levels.invariant.begun in
    omega (arith, c.levels.invariant.counted, e, p, many_within c.args.depth rs i h, c.requires.as_many)

pub levels-preserved : goal.levels-preserved
levels-preserved c =
    let d : Levels = record { repetition = 0; definition = 0 } in
    let rs = repetitions c.args.levels.now in
    let i = c.levels.at in
    let e : c.from-count.result ≡ (if nat_le (get_or rs i 0) c.args.depth then 1 else 0) =
    c.from-count.ensures ∙ one_if (nat_le (get_or c.args.levels.now i d).repetition c.args.depth) ∙ ap (λ (r : ℕ). if nat_le r c.args.depth then 1 else 0) (repetition_at c.args.levels.now i d refl) in
    let h : i < length rs = omega (arith, c.levels-test.true, length-map c.args.levels.now (λ (l : Levels). l.repetition)) in
    let g : i < length c.levels.bits = omega (arith, c.levels-test.true, c.levels.auto.bits, c.requires.bits) in
    let m : c.levels.count + c.from-count.result ≡ c.levels.count + (if nat_le (get_or rs i 0) c.args.depth then 1 else 0) = ap (λ (x : ℕ). c.levels.count + x) e in
    let p : 0 < c.levels.count + c.from-count.result = omega (arith, m, first_counts c.args.depth rs i c.levels.count c.requires.begins h c.levels.invariant.begun) in
    let l : c.levels.count + c.from-count.result ≤ length c.args.answers.now = omega (arith, c.levels.invariant.counted, m, many_within c.args.depth rs i h, c.requires.as_many) in
    record {
      counted = m ∙ ap (λ (x : ℕ). x + (if nat_le (get_or rs i 0) c.args.depth then 1 else 0)) c.levels.invariant.counted ∙ many_more c.args.depth rs i h;
      begun = λ (z : 0 < i + 1). p;
      so_far = narrow_step c.args.depth c.levels.count (c.levels.count + c.from-count.result) i c.args.answers.now c.levels.bits (each_and c.args.bits.now (spread_over c.args.depth false c.args.answers.now rs)) rs h g m p l c.levels.invariant.so_far;
    }

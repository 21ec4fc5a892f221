use Rattle.std.proofs.Common.{◌≡◌, ◌<◌, ◌+◌, ◌∙◌, ℕ, length, get_or, ap, arith, false, refl}
use Rattle.std.specs.Prelude.{nat_le, if◌then◌else◌}
use Rattle.std.proofs.lemmas.List.{length-map, length-replicate}
use Rattle.dr_levels.specs.declared.triplet.Levels.{Levels}
use Rattle.dr_levels.specs.Apart.{repetitions}
use Rattle.dr_rows_beside.specs.Bits.{gathered}
use Rattle.dr_levels.proofs.ApartLemmas.{repetition_at, one_if, at_most_one}
use Rattle.dr_rows_beside.proofs.BitLemmas.{first_counts, Gathers, gather_step}
use Rattle.dr_rows_beside.proofs.bits.gather_into.Goals as goal

pub levels-preserved : goal.levels-preserved
levels-preserved c =
    let d : Levels = record { repetition = 0; definition = 0 } in
    let rs = repetitions c.args.levels.now in
    let i = c.levels.at in
    let k = c.args.depth in
    let n = c.levels.count in
    let e : c.from-count.result ≡ (if nat_le (get_or rs i 0) k then 1 else 0) =
    c.from-count.ensures ∙ one_if (nat_le (get_or c.args.levels.now i d).repetition k) ∙ ap (λ (r : ℕ). if nat_le r k then 1 else 0) (repetition_at c.args.levels.now i d refl) in
    let s : length rs ≡ length c.args.levels.now = length-map c.args.levels.now (λ (l : Levels). l.repetition) in
    let h : i < length rs = omega (arith, c.levels-test.true, s) in
    let g : i < length c.args.bits.now = omega (arith, c.levels-test.true, c.requires.bits) in
    let m : n + c.from-count.result ≡ n + (if nat_le (get_or rs i 0) k then 1 else 0) = ap (λ (x : ℕ). n + x) e in
    let p : 0 < n + c.from-count.result = omega (arith, m, first_counts k rs i n c.requires.begins h c.levels.invariant.begun) in
    let room : length c.levels.room ≡ length c.args.levels.now = c.levels.auto.room ∙ ap length c.requires.room ∙ length-replicate (length c.args.levels.now) false in
    let x : Gathers k n (n + c.from-count.result) i (length c.args.levels.now) rs c.args.bits.now c.levels.room (gathered k rs c.args.bits.now) =
    gather_step k n (n + c.from-count.result) i (length c.args.levels.now) rs c.args.bits.now c.levels.room m h g c.levels.invariant.few s room c.levels.invariant.begun c.requires.begins c.levels.invariant.clear c.levels.invariant.so_far in
    record {
      few = omega (arith, m, c.levels.invariant.few, at_most_one (nat_le (get_or rs i 0) k));
      begun = λ (z : 0 < i + 1). p;
      clear = x.clear;
      so_far = λ (z : 0 < n + c.from-count.result). x.so_far;
    }

use Rattle.std.proofs.Common.{◌≡◌, ◌+◌, ◌-◌, ◌<◌, ◌∙◌, ℕ, suc, length, take, drop, get_or, ap, sym, subst, refl, arith, false, ◌&&◌}
use Rattle.std.specs.Prelude.{◌==◌, if◌then◌else◌}
use Rattle.std.proofs.lemmas.List.{take_all}
use Rattle.dr_levels.specs.Dense.{present}
use Rattle.dr_levels.specs.declared.triplet.Levels.{Levels}
use Rattle.dr_rows_beside.specs.Comparing.{placed}
use Rattle.dr_levels.proofs.ApartLemmas.{one_if}
use Rattle.dr_rows_beside.proofs.ComparingLemmas.{Fills, fill_step, fill_ends, fill_starts, present_more}
use Rattle.dr_rows_beside.proofs.comparing.place_back.Goals as goal

pub places-init : goal.places-init
places-init c = record {
  within = omega arith;
  counted = c.requires.count ∙ ap (present c.args.greatest) (sym (take_all (length c.args.levels.now) c.args.levels.now (omega arith)));
  front = refl;
  back = fill_starts c.args.greatest (length c.args.levels.now) c.args.levels.now c.args.room.now (take c.args.count c.args.room.now) refl c.requires.room;
}

pub overflow_sub-from : goal.overflow_sub-from
overflow_sub-from c =
    let d : Levels = record { repetition = 0; definition = 0 } in
    let ls = c.args.levels.now in
    let i = c.places.to - 1 in
    let h : i < length ls = omega (arith, c.places-test.true, c.places.invariant.within) in
    let s : c.places.to ≡ suc i = omega (arith, c.places-test.true) in
    let m : c.places.from ≡ present c.args.greatest (take i ls) + (if (get_or ls i d).definition == c.args.greatest then 1 else 0) =
    present_more c.args.greatest i ls d c.places.from h (c.places.invariant.counted ∙ ap (λ (n : ℕ). present c.args.greatest (take n ls)) s) in
    omega (arith, m, c.from-from.ensures, one_if ((get_or ls i d).definition == c.args.greatest))

pub places-preserved : goal.places-preserved
places-preserved c =
    let d : Levels = record { repetition = 0; definition = 0 } in
    let ls = c.args.levels.now in
    let g = c.args.greatest in
    let i = c.places.to - 1 in
    let old = c.args.room.now in
    let h : i < length ls = omega (arith, c.places-test.true, c.places.invariant.within) in
    let s : c.places.to ≡ suc i = omega (arith, c.places-test.true) in
    let m : c.places.from ≡ present g (take i ls) + (if (get_or ls i d).definition == g then 1 else 0) =
    present_more g i ls d c.places.from h (c.places.invariant.counted ∙ ap (λ (n : ℕ). present g (take n ls)) s) in
    let n : c.places.from - c.from-from.result ≡ present g (take i ls) = omega (arith, m, c.from-from.ensures, one_if ((get_or ls i d).definition == g)) in
    let w : length c.places.room ≡ length ls = c.places.auto.room ∙ c.requires.room in
    let x : Fills g i ls old c.places.room (placed g ls (take c.args.count old)) (((get_or ls i d).definition == g) && get_or c.places.room (present g (take i ls)) false) =
    fill_step g i c.args.count ls d old c.places.room h w c.requires.count
    (subst (λ (k : ℕ). take k c.places.room ≡ take k old) s c.places.invariant.front)
    (subst (λ (k : ℕ). drop k c.places.room ≡ drop k (placed g ls (take c.args.count old))) s c.places.invariant.back) in
    let y : Fills g i ls old c.places.room (placed g ls (take c.args.count old)) (((get_or ls i d).definition == g) && get_or c.places.room (c.places.from - c.from-from.result) false) =
    subst (λ (k : ℕ). Fills g i ls old c.places.room (placed g ls (take c.args.count old)) (((get_or ls i d).definition == g) && get_or c.places.room k false)) (sym n) x in
    record {
      within = omega (arith, h);
      counted = n;
      front = y.front;
      back = y.back;
    }

pub returns : goal.returns
returns c =
    fill_ends c.args.greatest c.places.to c.places.from c.args.count c.args.levels.now c.args.room.now c.places.room c.places.invariant.within c.requires.room c.requires.count c.places.invariant.counted c.places-test.false c.places.invariant.front c.places.invariant.back

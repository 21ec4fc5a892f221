use Rattle.std.proofs.Common.{◌≡◌, ◌<◌, ◌≤◌, ◌+◌, ◌++◌, ◌∙◌, ℕ, List, Bool, length, get_or, ap, sym, arith, false, refl}
use Rattle.std.specs.Prelude.{nat_le, if◌then◌else◌}
use Rattle.std.proofs.lemmas.List.{length-map}
use Rattle.dr_levels.specs.declared.triplet.Levels.{Levels}
use Rattle.dr_beside.specs.Spreading.{next_of, rest_of, spread_over}
use Rattle.dr_levels.specs.Apart.{repetitions}
use Rattle.dr_levels.proofs.ApartLemmas.{repetition_at}
use Rattle.dr_rows_beside.proofs.SpreadBitLemmas.{spread_more, spread_ends}
use Rattle.dr_rows_beside.proofs.bits.push_spread.Goals as goal

pub levels-preserved : goal.levels-preserved
levels-preserved c =
    let d : Levels = record { repetition = 0; definition = 0 } in
    let rs = repetitions c.args.levels.now in
    let i = c.levels.level-index in
    let k = c.args.depth in
    let h : i < length rs = omega (arith, c.levels-test.true, length-map c.args.levels.now (λ (l : Levels). l.repetition)) in
    let r : (get_or c.args.levels.now i d).repetition ≡ get_or rs i 0 = repetition_at c.args.levels.now i d refl in
    record {
      so_far = spread_more k i c.levels.now c.next_bit-bit.result.0 c.levels.rest.now c.next_bit-bit.result.1.now rs c.levels.out.items c.push_reserved.new.self.items _ h
          (c.next_bit-bit.ensures.bit ∙ ap (λ (x : ℕ). if nat_le x k then next_of c.levels.now c.levels.rest.now else c.levels.now) r)
          (c.next_bit-bit.ensures.rest ∙ ap (λ (x : ℕ). if nat_le x k then rest_of c.levels.rest.now else c.levels.rest.now) r)
          c.push_reserved.ensures.items
          c.levels.invariant.so_far;
      many = omega (arith, c.levels.invariant.many, c.push_reserved.ensures.len);
      room = c.push_reserved.ensures.capacity ∙ c.levels.invariant.room;
    }

pub returns : goal.returns
returns c =
    let rs = repetitions c.args.levels.now in
    spread_ends c.args.depth c.levels.level-index c.levels.now c.levels.rest.now rs c.levels.out.items _ (omega (arith, c.levels-test.false, length-map c.args.levels.now (λ (l : Levels). l.repetition))) c.levels.invariant.so_far

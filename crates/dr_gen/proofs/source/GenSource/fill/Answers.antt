use Rattle.std.proofs.Common.{◌≡◌, ◌++◌, ◌+◌, ◌-◌, ◌∙◌, List, ℕ, take, length, ap, arith, rules, append_assoc}
use Rattle.std.proofs.lemmas.Slice.{overwrites}
use Rattle.dr_gen.specs.Left.{left_of}
use borrow.Rule.Slice.PartMut.{put_mid, post_of}
use Rattle.dr_gen.proofs.SourceLemmas.{part_taken}
use Rattle.dr_gen.proofs.source.GenSource.fill.Goals as goal

pub lines-preserved : goal.lines-preserved
lines-preserved c =
    let given : List ℕ = take c.give-filled.result c.give-filled.new.room in
    let front : List ℕ = take c.lines.filled c.lines.buf in
    let cut : take (c.lines.filled + c.give-filled.result) (put_mid c.lines.filled (length c.lines.buf - c.lines.filled) c.lines.buf c.give-filled.new.room) ≡ front ++ given =
    part_taken c.lines.buf c.give-filled.new.room (post_of c.lines.filled (length c.lines.buf - c.lines.filled) c.lines.buf) c.lines.filled c.give-filled.result c.lines.invariant.within (omega (arith, c.give-filled.ensures.count)) in
    record {
      within = search (rules, overwrites);
      bytes = ap (λ (x : List ℕ). x ++ left_of c.give-filled.new.self) cut ∙ append_assoc front given (left_of c.give-filled.new.self) ∙ ap (λ (x : List ℕ). front ++ x) (c.give-filled.ensures.bytes ∙ c.look_ahead.ensures.same) ∙ c.lines.invariant.bytes;
    }

use Rattle.std.proofs.Common.{◌≤◌, length, refl, sym, ap, ◌∙◌, arith}
use Rattle.std.proofs.lemmas.Bool.{eq-eqb, ne_eqb}
use Rattle.std.proofs.lemmas.List.{take_all, drop_all}
use Rattle.dr_meaning.specs.OneColumn.{starts, begins_record}
use Rattle.dr_levels.specs.declared.triplet.Levels.{Levels}
use Rattle.dr_dump.proofs.FrontLemmas.{parted, starts_more, begins_there, as_many}
use Rattle.dr_dump.proofs.front.front_of.Goals as goal
use Rattle.dr_dump.proofs.front.front_of.Goals.{then-level-eq0+else-begun-records, else-level-eq0}

abbrev zero_levels : Levels
zero_levels = record { repetition = 0; definition = 0 }

pub returns-then-begun-records : goal.returns-then-begun-records
returns-then-begun-records c = λ ts e.
    let ls = c.args.levels.now in
    let k = c.levels.place in
    let p = parted ls ts k zero_levels e c.levels-test.true in
    let n = as_many ls ts e in
    record {
      within = omega (arith, n, c.levels-test.true);
      begun = c.levels.invariant.begun ts e;
      few = c.levels.invariant.few;
      cut = begins_there ts k _ p (eq-eqb _ 0 c.if-level-eq0.true);
      all = λ some. c.if-begun-records.true;
    }

pub levels-preserved : goal.levels-preserved
levels-preserved c = elim c.if-level-eq0.branch [
  | then-level-eq0+else-begun-records w ↦ record {
    begun = λ ts e. starts_more ts c.levels.place _ c.levels.begun c.if-level-eq0.begun (parted c.args.levels.now ts c.levels.place zero_levels e c.levels-test.true) (c.levels.invariant.begun ts e)
        (w.begun-is ∙ rw (eq-eqb _ 0 w.if-level-eq0.true) refl);
    few = omega (arith, w.begun-is, w.if-begun-records.false, c.levels.invariant.few);
  }
  | else-level-eq0 w ↦ record {
    begun = λ ts e. starts_more ts c.levels.place _ c.levels.begun c.if-level-eq0.begun (parted c.args.levels.now ts c.levels.place zero_levels e c.levels-test.true) (c.levels.invariant.begun ts e)
        (w.begun-is ∙ rw (ne_eqb _ 0 w.if-level-eq0.false) (omega arith));
    few = omega (arith, w.begun-is, c.levels.invariant.few);
  }
]

pub returns : goal.returns
returns c = λ ts e.
    let ls = c.args.levels.now in
    let n = as_many ls ts e in
    let end : length ts ≤ c.levels.place = omega (arith, n, c.levels-test.false) in
    let all : length ts ≤ length ls = omega (arith, n) in
    record {
      within = omega (arith, n);
      begun = ap starts (take_all (length ls) ts all) ∙ (sym (ap starts (take_all c.levels.place ts end)) ∙ c.levels.invariant.begun ts e);
      few = c.levels.invariant.few;
      cut = ap begins_record (drop_all (length ls) ts all);
      all = λ some. absurd (some (drop_all (length ls) ts all));
    }

use Rattle.std.proofs.Common.{◌≡◌, ◌∙◌, ◌-◌, ◌<◌, List, map, length, get_or, refl, sym, arith}
use Rattle.dr_levels.specs.declared.triplet.Levels.{Levels}
use Rattle.dr_file.specs.Floors.{bare}
use Rattle.dr_file.proofs.RowOrderLemmas.{none_came, all_came, too_many, may_not, last_there, some_there, none_there, is_not, isnt_not}
use Rattle.dr_file.proofs.row_order.RowOrder.go_on.Goals as goal

pub returns-then-is_empty-clause-on : goal.returns-then-is_empty-clause-on
returns-then-is_empty-clause-on c = λ p rows ts f h e. none_came p rows ts c.args.levels.now c.args.self.now (none_there (length c.args.levels.now) c.is_empty.result c.is_empty.ensures c.if-is_empty.true) h

pub returns-then-found-self-clause-stuck : goal.returns-then-found-self-clause-stuck
returns-then-found-self-clause-stuck c = λ p rows ts more f h e.
    too_many p rows ts (map bare c.args.levels.now) more c.args.self.now h (omega (arith, c.look_at-found.ensures.begun, c.if-found-self.true))

pub returns-then-not-found-clause-stuck : goal.returns-then-not-found-clause-stuck
returns-then-not-found-clause-stuck c = λ p rows ts more f h e.
    may_not p rows ts (map bare c.args.levels.now) more c.args.self.now h (sym (c.look_at-found.ensures.fits p f) ∙ is_not c.look_at-found.result.fits c.if-not-found.true)

pub returns-clause-on : goal.returns-clause-on
returns-clause-on c = λ p rows ts f h e.
    let d : Levels = record { repetition = 0; definition = 0 } in
    let ls : List Levels = c.args.levels.now in
    let some : 0 < length ls = some_there (length ls) c.is_empty.result c.is_empty.ensures c.if-is_empty.false in
    all_came p rows (get_or ls (length ls - 1) d).definition ts (map bare ls) c.args.self.now _ h (sym (c.look_at-found.ensures.fits p f) ∙ isnt_not c.look_at-found.result.fits c.if-not-found.false) (omega (arith, c.look_at-found.ensures.begun, c.if-found-self.false)) (last_there ls d some) refl

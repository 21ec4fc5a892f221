use Rattle.std.proofs.Common.{◌++◌, List, sym, subst}
use Rattle.std.specs.Prelude.{Option, option_map}
use Rattle.std.specs.Borrow.{Bor}
use Rattle.dr_made_laws.specs.ObjectFlow.{Made, items_of}
use Rattle.dr_scalar.specs.Slots.{slot_value}
use Rattle.dr_within.specs.ObjectFraming.{HoldsFrame}
use Rattle.dr_within.specs.ObjectLevels.{IsLevelAt}
use Rattle.dr_within.specs.declared.levels.Level.{Level}
use Rattle.dr_within.proofs.FramingLemmas.{on_ok}
use Rattle.dr_within.proofs.ObjectParts.{left_as_it_is}
use Rattle.dr_within.proofs.object_frame.ObjectFrame.leave.Goals as goal

pub returns-in-Some : goal.returns-in-Some
returns-in-Some c = on_ok c.build.result _ _ (λ call ls rs levels made more r level h w.
    call ls rs levels made more r (subst (λ (o : Option (Bor Level)). IsLevelAt (items_of rs) levels c.args.number (option_map (λ (l : Bor Level). l.now) o)) c.in-Some.is level) h w) c.build.ensures

pub returns-in-None : goal.returns-in-None
returns-in-None c = on_ok c.append.result _ _ (λ call ls rs levels made more r level h w.
    let none = subst (λ (o : Option (Bor Level)). IsLevelAt (items_of rs) levels c.args.number (option_map (λ (l : Bor Level). l.now) o)) c.in-None.is level in
    subst (λ (x : List Made). HoldsFrame (items_of rs) (made ++ x) c.append.new.self) (sym (left_as_it_is rs levels c.args.number (slot_value c.args.slots.now) more none))
    (call (items_of rs) made more h w)) c.append.ensures

use Rattle.std.proofs.Common.{refl}
use Rattle.dr_page.proofs.ValueSteps.{none_given}
use Rattle.dr_page.proofs.value_cursor.ValueCursor.begin.Goals as goal

pub returns : goal.returns
returns c = λ z k d f.
    none_given c.args.encoding z k d c.args.bytes.now _ f refl (c.new-self.ensures k c.args.bytes.now) c.begin.ensures
    (record { front = refl; greatest = c.begin-2.ensures.greatest; levels = λ part rest p. c.begin-2.ensures.begun part })

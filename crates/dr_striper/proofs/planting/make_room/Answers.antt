use Rattle.std.proofs.Common.{arith, subst, sym, ap, ◌∙◌}
use Rattle.dr_striper.specs.Made.{AreFresh, change_at}
use Rattle.dr_striper.specs.Views.{shapes_view}
use Rattle.dr_striper.proofs.MadeLemmas.{pad_same, pad_fresh}
use Rattle.dr_striper.proofs.planting.make_room.Goals as goal

pub room-preserved : goal.room-preserved
room-preserved c = (
  subst AreFresh (sym c.in_ok-push.ensures.items) (pad_fresh c.room.branches.items c.room.invariant.0),
  λ F. ap (λ bs. change_at c.args.place F (shapes_view bs)) c.in_ok-push.ensures.items
      ∙ pad_same c.args.place c.room.branches.items F (omega (arith, c.room-test.true, c.len.ensures)) ∙ c.room.invariant.1 F,
)

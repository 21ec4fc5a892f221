use Rattle.std.proofs.Common.{arith, subst, sym}
use Rattle.dr_nested.specs.Views.{kind_view}
use Rattle.dr_levels.specs.Views.{form}
use Rattle.dr_striper.specs.Made.{IsFresh}
use Rattle.dr_striper.specs.Views.{shapes_view}
use Rattle.dr_striper.proofs.MadeLemmas.{fresh_here, fresh_set, step_put}
use Rattle.dr_striper.proofs.planting.+planting.Goals as goal

pub put_path-put_one-requires : goal.put_path-put_one-requires
put_path-put_one-requires t c = (
  omega (arith, c.behind_first.ensures.shorter),
  subst IsFresh (sym c.index_mut.ensures.value) (fresh_here _ c.make_room.new.branches.items _ c.in_ok-make_room.ensures.room c.in_ok-make_room.ensures.fresh),
)

pub put_path-returns-in_ok-put_one-clause-shapes :
    goal.put_path-returns-in_ok-put_one-clause-shapes
put_path-returns-in_ok-put_one-clause-shapes t c =
    step_put c.args.steps.now c.behind_first.result.now _ (form (kind_view c.args.kind) c.args.greatest) c.make_room.new.branches.items c.index_mut.result.now _ c.put_one.new.branch (shapes_view c.args.branches.now.items)
    (omega (arith, c.if-steps-gt0.true)) c.behind_first.ensures.rest c.in_ok-make_room.ensures.room c.in_ok-put_one.ensures.shape c.index_mut.ensures.value c.in_ok-make_room.ensures.shapes

pub put_path-returns-in_ok-put_one-clause-fresh : goal.put_path-returns-in_ok-put_one-clause-fresh
put_path-returns-in_ok-put_one-clause-fresh t c =
    fresh_set _ c.make_room.new.branches.items c.put_one.new.branch c.in_ok-make_room.ensures.room c.in_ok-make_room.ensures.fresh c.in_ok-put_one.ensures.fresh

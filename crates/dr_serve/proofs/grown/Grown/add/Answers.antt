use Rattle.std.proofs.Common.{rules, arith, ◌≡◌, List, false, true, sym, subst, slice_index_or}
use Rattle.std.specs.Prelude.{slice_set}
use Rattle.dr_dispatch.specs.declared.event.Event.{Event}
use Rattle.dr_serve.specs.GrowsOn.{IsOfPieces}
use Rattle.dr_serve.specs.Working.{found}
use Rattle.dr_serve.proofs.JournalLemmas.{flag_there, answer_was_there, journal_has_room, one_more_piece}
use Rattle.dr_serve.proofs.grown.Grown.add.Goals as goal

pub index-requires : goal.index-requires
index-requires g c =
    let within = c.requires.grows_on.within c.self.inside.grown c.self.inside.has_piece.items (found c.args.hand.tablet c.args.partial) c.self.invariant.0 c.requires.truth in omega (arith, within, c.self.inside.has_piece.ok.0)

pub new-requires : goal.new-requires
new-requires g c =
    let within = c.requires.grows_on.within c.self.inside.grown c.self.inside.has_piece.items (found c.args.hand.tablet c.args.partial) c.self.invariant.0 c.requires.truth in
    let there = flag_there c.self.inside.has_piece.items c.args.hand.tablet c.index.result.now within c.index.ensures c.if-index.true in
    answer_was_there c.self.inside.journal c.receipt.result.seen c.self.inside.has_piece.items c.args.hand.tablet c.self.invariant.1 c.receipt.ensures.receipt there

pub add-requires : goal.add-requires
add-requires g c =
    let none : slice_index_or c.self.inside.has_piece.items c.args.hand.tablet false ≡ false = search rules in
    c.requires.grows_on.can_add c.self.inside.grown c.self.inside.has_piece.items (found c.args.hand.tablet c.args.partial) c.self.invariant.0 c.requires.truth none

pub index_mut-requires : goal.index_mut-requires
index_mut-requires g c =
    let within = c.requires.grows_on.within c.self.inside.grown c.self.inside.has_piece.items (found c.args.hand.tablet c.args.partial) c.self.invariant.0 c.requires.truth in omega (arith, within, c.self.inside.has_piece.ok.0)

pub add-receipt-requires : goal.add-receipt-requires
add-receipt-requires g c = record { room = journal_has_room c.self.inside.journal c.self.inside.has_piece.items c.self.invariant.1 }

pub invariant_of-self : goal.invariant_of-self
invariant_of-self g c = (c.self.invariant.0, subst (λ (j : List Event). IsOfPieces j c.self.inside.has_piece.items) (sym c.receipt.ensures.same) c.self.invariant.1)

pub invariant_of-self-in_err-add : goal.invariant_of-self-in_err-add
invariant_of-self-in_err-add g c =
    (c.requires.grows_on.refused c.self.inside.grown c.add.new.self c.self.inside.has_piece.items c.self.invariant.0 c.in_err-add.ensures.refused, c.self.invariant.1)

pub invariant_of-self-2 : goal.invariant_of-self-2
invariant_of-self-2 g c =
    let f = found c.args.hand.tablet c.args.partial in
    let bs = c.self.inside.has_piece.items in
    let none : slice_index_or bs c.args.hand.tablet false ≡ false = search rules in (
      c.requires.grows_on.added c.self.inside.grown c.add.new.self bs f c.self.invariant.0 c.requires.truth none c.in_ok-add.ensures.added,
      subst (λ (j : List Event). IsOfPieces j (slice_set bs c.args.hand.tablet true)) (sym c.add-receipt.ensures.added)
          (one_more_piece c.self.inside.journal bs c.args.hand c.self.invariant.1 (c.requires.grows_on.within c.self.inside.grown bs f c.self.invariant.0 c.requires.truth) none),
    )

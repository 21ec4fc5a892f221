use Rattle.std.proofs.Common.{◌≡◌, ℕ, List, refl, sym, ap, subst}
use Rattle.std.specs.Prelude.{Ok}
use Rattle.dr_outside.specs.Telling.{Tells}
use Rattle.dr_file.proofs.StreamLemmas.{own_on, own_fills, chunks_back}
use Rattle.dr_file.proofs.stream.Stream.give_own.Goals as goal

pub returns-clause-more : goal.returns-clause-more
returns-clause-more g c = λ bytes l given s told.
    let t = subst (λ (p : List ℕ). Tells (g.L.Link.shows c.args.link.now) p bytes) (sym c.args.self.now.of_file.path) told in
    own_on bytes l s.leaf.read given s.source _ _ c.in_ok-next.field-0 _ _ _ s.goes_on refl c.requires.told s.leaf.told_by s.tells (c.in_ok-next.ensures.more bytes s.leaf.read s.source s.at t)
    (λ z. chunks_back bytes s.leaf.read c.args.self.now.leaf _ _ _ c.args.self.now.of_file (c.in_ok-next.ensures.whole bytes s.leaf.read s.source s.at t (ap (λ k. Ok k) z))) c.in_ok-next.ensures.count

pub returns-clause-fills : goal.returns-clause-fills
returns-clause-fills g c = own_fills _ c.in_ok-next.field-0 _ _ c.args.self.now _ refl c.requires.told c.requires.told c.in_ok-next.ensures.count c.in_ok-next.ensures.batch c.in_ok-next.ensures.left

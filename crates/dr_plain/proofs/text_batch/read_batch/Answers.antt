use Rattle.std.proofs.Common.{◌≡◌, Bor, IfSome, List, ℕ, length, drop, ap, sym, subst, arith}
use Rattle.std.proofs.lemmas.List.{take_at}
use Rattle.dr_plain.specs.declared.values.TextPlace.{TextPlace}
use Rattle.dr_plain.specs.Views.{AreTexts}
use Rattle.dr_plain.proofs.text_batch.read_batch.Goals as goal

pub returns-clause-texts : goal.returns-clause-texts
returns-clause-texts c =
    let new : List TextPlace = c.fill_batch.new.out in
    let size : length new ≡ c.resize.new.self.len = omega (arith, c.fill_batch.auto.out, ap length c.deref_mut.ensures.value, c.resize.new.self.ok.0) in
    subst (λ (ps : List TextPlace). IfSome c.fill_batch.result (λ (piece : Bor (List ℕ)). AreTexts piece.now ps)) (sym (take_at new (drop (length new) c.resize.new.self.items) c.resize.new.self.len size)) c.fill_batch.ensures.texts

use Rattle.std.proofs.Common.{◌≡◌, ◌+◌, ◌∙◌, ℕ, List, length, ap, ap₂, sym, refl, subst, arith}
use Rattle.std.proofs.lemmas.List.{length_push}
use Rattle.std.proofs.lemmas.Option.{slice_get_read}
use Rattle.dr_meaning.specs.Column.{Triplet}
use Rattle.dr_levels.specs.declared.triplets.Triplets.{Triplets}
use Rattle.dr_walk.specs.Checking.{rest_at}
use Rattle.dr_scan.specs.Streamed.{last_of, left_at}
use Rattle.dr_scan.proofs.StreamLemmas.{batch_there, rest_pushed, rests_all}
use Rattle.dr_scan.proofs.leaf_streams.rests_of.Goals as goal

pub streams-preserved : goal.streams-preserved
streams-preserved c =
    let xs = c.args.streams.now in
    let rs = c.streams.rests.items in
    let n = c.streams.number in
    let x = c.index-streams-number.result in
    let inv = c.streams.invariant in
    let there = slice_get_read xs (length xs) n x refl c.streams-test.true c.index-streams-number.is in
    let now = c.rest.ensures ∙ ap₂ (λ (k : ℕ) (ts : List Triplet). last_of k ts) c.count_at.ensures (sym (batch_there xs n x there)) in
    record {
      as_many = ap length c.in_ok-push.ensures.items ∙ (length_push rs c.rest.result ∙ ap (λ (k : ℕ). k + 1) inv.as_many);
      each = λ i l. subst (λ (zs : List Triplets). rest_at zs i ≡ left_at xs c.args.left.now i) (sym c.in_ok-push.ensures.items) (rest_pushed rs c.rest.result (left_at xs c.args.left.now) n i inv.as_many inv.each now l);
    }

pub returns-clause-rests : goal.returns-clause-rests
returns-clause-rests c =
    let xs = c.args.streams.now in
    let inv = c.streams.invariant in
    rests_all c.streams.rests.items xs c.args.left.now (omega (arith, inv.as_many, c.streams-test.false, c.streams.auto.number-end)) (λ j l. inv.each j (omega (arith, l, c.streams-test.false)))

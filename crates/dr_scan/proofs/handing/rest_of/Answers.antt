use Rattle.std.proofs.Common.{◌≡◌, ◌∙◌, length, map, refl, ap, sym, arith}
use Rattle.std.specs.Vec.{with_items}
use Rattle.std.proofs.lemmas.List.{with_items_is}
use Rattle.dr_agreement.specs.AtHand as hand
use Rattle.dr_file.specs.OpenedFiles.{rows_of}
use Rattle.dr_scan.specs.Chunked.{batch_forms, same_streams}
use Rattle.dr_scan.specs.Streamed.{left_at}
use Rattle.dr_scan.proofs.HandingLemmas.{is_rest}
use Rattle.dr_scan.proofs.handing.rest_of.Goals as goal

pub hand_over-requires : goal.hand_over-requires
hand_over-requires c = ap (map hand.form_of) (c.deref_mut-2.ensures.value ∙ c.into_parts-leaves.ensures.leaves) ∙ (c.requires ∙ ap batch_forms (sym c.deref_mut.ensures.value))

pub returns : goal.returns
returns c = λ s p held o given R streams h of_streams count some.
    let ys = c.hand_over.new.streams in
    let n : length ys ≡ length c.args.streams.items = c.hand_over.auto.streams ∙ ap length c.deref_mut.ensures.value in
    let w : (with_items c.args.streams ys).items ≡ ys = with_items_is c.args.streams ys (omega (arith, n, c.args.streams.ok.0)) in
    is_rest s p held o given R c.args.streams.items c.args.chunks _ c.into_parts-leaves.result.2 streams h of_streams count some (ap same_streams w ∙ (c.in_ok-left.ensures.streams ∙ ap same_streams c.deref_mut.ensures.value))
    (λ i. ap (λ zs. left_at zs c.in_ok-left.left.items i) w ∙ (c.in_ok-left.ensures.left i ∙ ap (λ vs. hand.here_of vs i) (c.deref_mut-2.ensures.value ∙ c.into_parts-leaves.ensures.leaves))) c.into_parts-leaves.ensures.records refl
    (c.into_parts-leaves.ensures.partial s p (rows_of o) given R h) (c.into_parts-leaves.ensures.of_plan s p (rows_of o) given R h)

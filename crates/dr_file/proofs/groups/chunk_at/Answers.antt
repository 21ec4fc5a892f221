use Rattle.std.proofs.Common.{◌≡◌, ◌<◌, ◌≤◌, ◌∙◌, length, get_or, sym, ap, arith, Some}
use Rattle.std.specs.Prelude.{option_map}
use Rattle.std.proofs.lemmas.Bool.{ltb-true, ltb-false}
use Rattle.dr_formats.specs.Metadata.{ColumnChunk}
use Rattle.dr_meta.specs.Views.{chunk_view}
use Rattle.dr_file.specs.Groups.{lent_meta}
use Rattle.dr_file.proofs.GroupLemmas.{nth_there, nth_missing}
use Rattle.dr_file.proofs.groups.chunk_at.Goals as goal

pub returns : goal.returns
returns c =
    let items = c.args.group.now.columns.items in
    let e = c.in_ok-chunk.ensures.lookup in
    let t : c.args.place < length c.deref.result.now = ltb-true _ _ (sym e.0) in
    let n : c.args.place < length items = omega (arith, t, ap length c.deref.ensures.value) in
    let i : c.in_ok-chunk.chunk.now ≡ get_or items c.args.place c.in_ok-chunk.chunk.now = e.1 ∙ ap (λ xs. get_or xs c.args.place c.in_ok-chunk.chunk.now) c.deref.ensures.value in
    ap (λ x. Some (chunk_view x).meta) i ∙ sym (ap (option_map (λ (k : ColumnChunk). k.meta)) (nth_there chunk_view items c.args.place c.in_ok-chunk.chunk.now n))

pub returns-in_err-chunk : goal.returns-in_err-chunk
returns-in_err-chunk c =
    let items = c.args.group.now.columns.items in
    let e = c.in_err-chunk.ensures.lookup in
    let t : length c.deref.result.now ≤ c.args.place = ltb-false _ _ (sym e.0) in
    let n : length items ≤ c.args.place = omega (arith, t, ap length c.deref.ensures.value) in
    ap (option_map lent_meta) c.from_residual.ensures ∙ sym (ap (option_map (λ (k : ColumnChunk). k.meta)) (nth_missing chunk_view items c.args.place n))

use Rattle.std.proofs.Common.{◌≡◌, ◌∙◌, ℕ, List, Bool, map, length, sym, ap, ap₂, false, arith}
use Rattle.std.proofs.lemmas.Result.{IfOk-weaker}
use Rattle.std.proofs.lemmas.List.{length-map}
use Rattle.dr_levels.specs.Views.{triplets_view}
use Rattle.dr_levels.specs.Apart.{repetitions}
use Rattle.dr_beside.specs.Neighbours.{column_at}
use Rattle.dr_beside.specs.Spreading.{repetitions_of, spread_over}
use Rattle.dr_rows_beside.specs.KeptBits.{bits_of, common_at}
use Rattle.dr_rows_beside.proofs.KeepingLemmas.{levels_there}
use Rattle.dr_rows_beside.proofs.KeptBitLemmas.{kept_at_is, common_got}
use Rattle.dr_rows_beside.proofs.keeping.Keeping.sift.Goals as goal

pub returns : goal.returns
returns c =
    let C = map triplets_view c.args.columns.now in
    let k = c.args.self.now in
    let leaf = c.args.leaf in
    let d : c.index-depth.result.now ≡ common_at k leaf = common_got k leaf c.index-depth.result.now c.requires.common c.index-depth.ensures in
    let levels : repetitions c.levels.result.now ≡ repetitions_of (column_at C leaf) =
    levels_there c.args.columns.now leaf c.index-columns-leaf.result c.levels.result.now (omega (arith, c.requires.leaf, length-map c.args.columns.now triplets_view)) c.index-columns-leaf.is c.levels.ensures in
    let bits : c.bits.result.now ≡ bits_of C k.own k.others.items (common_at k leaf) = c.bits.ensures ∙ kept_at_is C k c.requires.judged c.index-depth.result.now ∙ ap (bits_of C k.own k.others.items) d in
    IfOk-weaker c.spread.result _ _ (λ done h. h
    ∙ ap (λ (n : ℕ). spread_over n false c.bits.result.now (repetitions c.levels.result.now)) d
    ∙ ap₂ (λ (bs : List Bool) (rs : List ℕ). spread_over (common_at k leaf) false bs rs) bits levels) c.spread.ensures

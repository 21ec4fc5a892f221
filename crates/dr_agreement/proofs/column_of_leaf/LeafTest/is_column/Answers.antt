use Rattle.std.proofs.Common.{◌≡◌, ◌∙◌, ◌&&◌, List, sym, ap, ap₂}
use Rattle.std.specs.Prelude.{◌==◌}
use Rattle.std.specs.List.{list_all}
use Rattle.dr_meaning.specs.Path.{max_definition}
use Rattle.dr_meaning.specs.Record.{Value, is_of_kind}
use Rattle.dr_meaning.specs.Schema.{Kind}
use Rattle.dr_levels.specs.Lent.{lends_kind}
use Rattle.dr_levels.specs.Views.{LeafForm, triplets_view}
use Rattle.dr_agreement.specs.Alone.{each_may_stand}
use Rattle.dr_agreement.proofs.CutLemmas.{begins_levels, begun_levels}
use Rattle.dr_agreement.proofs.AloneLemmas.{column_tested, dense_triplets}
use Rattle.dr_agreement.proofs.column_of_leaf.LeafTest.is_column.Goals as goal

pub are_of_kind-requires : goal.are_of_kind-requires
are_of_kind-requires c = ap (λ (f : LeafForm). lends_kind f.kind c.values.result) (sym c.requires) ∙ c.values.ensures.kind

pub returns : goal.returns
returns c = λ l h.
    let ts = triplets_view c.args.triplets in
    let ls = c.levels-levels.result.now in
    let same = c.levels-levels.ensures in
    let greatest : c.args.self.now.greatest ≡ c.args.triplets.column.now.greatest = ap (λ (f : LeafForm). f.greatest) (sym c.requires) in
    let begins = c.begin_record.ensures ∙ begins_levels ls ts same in
    let stand = c.each_may_stand.ensures l h ∙ ap (each_may_stand l.path 0) same in
    let count = ap (λ n. n == c.args.records) (c.count_begun.ensures ∙ begun_levels ls ts same) in
    let values = c.are_of_kind.ensures ∙ ap₂ (λ (k : Kind) (vs : List Value). list_all (is_of_kind k) vs) h.kind c.values.ensures.values in
    ap₂ ◌&&◌ (ap₂ ◌&&◌ (ap₂ ◌&&◌ begins stand) count) values ∙ column_tested l c.args.records ts (dense_triplets c.args.triplets (max_definition l.path) (sym h.greatest ∙ greatest))

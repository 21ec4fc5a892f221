use Rattle.std.proofs.Common.{◌≡◌, ◌++◌, List, ap, ap₂, ◌∙◌, sym, length, map}
use Rattle.std.proofs.lemmas.List.{length-map}
use Rattle.dr_meaning.specs.Record.{bool_value}
use Rattle.dr_nested.specs.Views.{kind_view}
use Rattle.dr_levels.specs.declared.triplet.Levels.{Levels}
use Rattle.dr_levels.specs.Dense.{present, joined, values_view}
use Rattle.dr_levels.proofs.DenseLemmas.{still_dense, joined-extended}
use Rattle.dr_levels.proofs.column.Column.extend_bools.Goals as goal

pub invariant_of-self-2 : goal.invariant_of-self-2
invariant_of-self-2 c =
    let s = c.args.self.now in
    let joins : c.join_levels.new.levels.items ≡ s.levels.items ++ c.args.levels.now = c.join_levels.ensures ∙ ap (λ (ls : List Levels). ls ++ c.args.levels.now) c.reserve.ensures.items in
    record {
      kinds = c.in_ok-extend_bools.ensures.kinds (kind_view s.kind) s.kinds;
      dense = ap (present s.greatest) joins ∙ still_dense s.greatest s.levels.items c.args.levels.now (values_view s.values) (map bool_value c.args.values.now) s.dense (c.requires.as_many ∙ sym (length-map c.args.values.now bool_value))
          ∙ ap length (sym c.in_ok-extend_bools.ensures.values);
    }

pub returns-clause-triplets : goal.returns-clause-triplets
returns-clause-triplets c =
    let s = c.args.self.now in
    let joins : c.join_levels.new.levels.items ≡ s.levels.items ++ c.args.levels.now = c.join_levels.ensures ∙ ap (λ (ls : List Levels). ls ++ c.args.levels.now) c.reserve.ensures.items in
    ap₂ (joined s.greatest) joins c.in_ok-extend_bools.ensures.values ∙ joined-extended s.greatest s.levels.items c.args.levels.now (values_view s.values) (map bool_value c.args.values.now) s.dense

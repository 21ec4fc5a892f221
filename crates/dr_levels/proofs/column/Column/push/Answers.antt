use Rattle.std.proofs.Common.{◌≡◌, ◌++◌, ◌∷◌, [], List, ap, ap₂, ◌∙◌, sym, length, option_map}
use Rattle.dr_nested.specs.Views.{kind_view}
use Rattle.dr_levels.specs.declared.triplet.Levels.{Levels}
use Rattle.dr_levels.specs.Dense.{present, joined, values_view, value_list}
use Rattle.dr_levels.specs.Views.{lent_value, column_view, column_form}
use Rattle.dr_levels.proofs.DenseLemmas.{still_dense, joined-extended, taken_joined, taken_counted}
use Rattle.dr_levels.proofs.column.Column.push.Goals as goal

pub invariant_of-self-2 : goal.invariant_of-self-2
invariant_of-self-2 c =
    let s = c.args.self.now in
    let joins : c.push_reserved.new.self.items ≡ s.levels.items ++ (record { repetition = c.args.triplet.repetition; definition = c.args.triplet.definition } ∷ []) = c.push_reserved.ensures.items ∙ ap (λ (ls : List Levels). ls ++ (record { repetition = c.args.triplet.repetition; definition = c.args.triplet.definition } ∷ [])) c.reserve.ensures.items in
    record {
      kinds = c.in_ok-push.ensures.kinds (kind_view s.kind) s.kinds;
      dense = ap (present s.greatest) joins ∙ still_dense s.greatest s.levels.items (record { repetition = c.args.triplet.repetition; definition = c.args.triplet.definition } ∷ []) (values_view s.values) (value_list (option_map lent_value c.args.triplet.value)) s.dense (taken_counted (column_form s) c.args.triplet.repetition c.args.triplet.definition (option_map lent_value c.args.triplet.value) c.requires)
          ∙ ap length (sym c.in_ok-push.ensures.values);
    }

pub returns-clause-triplet : goal.returns-clause-triplet
returns-clause-triplet c =
    let s = c.args.self.now in
    let joins : c.push_reserved.new.self.items ≡ s.levels.items ++ (record { repetition = c.args.triplet.repetition; definition = c.args.triplet.definition } ∷ []) = c.push_reserved.ensures.items ∙ ap (λ (ls : List Levels). ls ++ (record { repetition = c.args.triplet.repetition; definition = c.args.triplet.definition } ∷ [])) c.reserve.ensures.items in
    ap₂ (joined s.greatest) joins c.in_ok-push.ensures.values ∙ joined-extended s.greatest s.levels.items (record { repetition = c.args.triplet.repetition; definition = c.args.triplet.definition } ∷ []) (values_view s.values) (value_list (option_map lent_value c.args.triplet.value)) s.dense ∙ ap (λ ts. column_view s ++ ts) (taken_joined (column_form s) c.args.triplet.repetition c.args.triplet.definition (option_map lent_value c.args.triplet.value) c.requires)

use Rattle.std.proofs.Common.{◌≡◌, ◌∙◌, ◌++◌, ℕ, List, Some, length, ap, ap₂}
use Rattle.std.specs.List.{list_all, flat_map}
use Rattle.dr_rows_beside.specs.Sources.{is_numbered}
use Rattle.dr_columns.specs.Takings.{Take, aggregate_leaves, takings_view, takings_at, read_of}
use Rattle.dr_columns.proofs.FiringLemmas.{read_numbered}
use Rattle.dr_columns.proofs.firing.Fired.of.Goals as goal

pub new-requires : goal.new-requires
new-requires c =
    let n = length c.args.leaves.now in
    let ks = c.args.keys.now in
    let A = c.args.aggregates.now in
    let o = Some c.args.leaf in
    let read : c.deref-2.result.now ≡ read_of ks (takings_at ks o 0 A) =
    c.deref-2.ensures.value
    ∙ (c.in_ok-push_read.ensures
    ∙ ap₂ (λ (js : List ℕ) (ts : List Take). js ++ flat_map (λ (t : Take). aggregate_leaves t.aggregate) ts)
    (c.in_ok-extend_from_slice.ensures.items ∙ ap (λ (js : List ℕ). js ++ ks) c.new-read.ensures.items)
    (ap takings_view c.deref.ensures.value ∙ c.in_ok-takings.ensures)) in
    ap (list_all (is_numbered n)) read ∙ read_numbered n ks o A c.requires.keys c.requires.aggregates

use Rattle.std.proofs.Common.{◌∙◌, ◌++◌, List, map, take, length, refl, ap, inl, arith}
use Rattle.dr_meaning.specs.Column.{Triplet}
use Rattle.dr_levels.specs.Views.{column_view, triplet_levels}
use Rattle.std.proofs.lemmas.Bool.{lt-ltb}
use Rattle.dr_dump.specs.Leaves.{rest_of}
use Rattle.dr_dump.proofs.RestLemmas.{passed}
use Rattle.dr_dump.proofs.leaf_records.LeafRecords.pass.Goals as goal

pub returns-then-behind-gt0-clause-passed : goal.returns-then-behind-gt0-clause-passed
returns-then-behind-gt0-clause-passed c =
    let is = c.rest-rest.ensures.rest in
    let front = c.front_of-front.ensures (rest_of c.args.self.now) (c.levels.ensures ∙ ap (map triplet_levels) is) in
    let n = c.front_of-front.result.length in
    passed c.args.self.now _ c.front_of-front.result c.args.wanted.now _ (column_view c.args.out.now) (column_view c.append.new.out) _ front refl
    (omega (arith, c.len.ensures, ap length is)) refl
    (c.in_ok-append.ensures.added ∙ ap (λ (ts : List Triplet). column_view c.args.out.now ++ ts) (c.split_at.ensures.front ∙ ap (take n) is))
    (λ w. inl c.if-behind-gt0.true)
    (λ w. absurd (w (lt-ltb 0 _ c.if-behind-gt0.true)))

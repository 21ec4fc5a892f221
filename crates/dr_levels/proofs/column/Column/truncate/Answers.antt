use Rattle.std.proofs.Common.{◌≡◌, ◌-◌, ap, ap₂, ◌∙◌, sym, take, drop, length, arith}
use Rattle.std.proofs.lemmas.List.{take_all, take_rest}
use Rattle.dr_nested.specs.Views.{kind_view}
use Rattle.dr_levels.specs.Dense.{present, joined, values_view}
use Rattle.dr_levels.specs.Views.{column_view}
use Rattle.dr_levels.proofs.DenseLemmas.{joined_length, truncated, truncated_count, present-parts}
use Rattle.dr_levels.proofs.column.Column.truncate.Goals as goal

pub returns-then-length-len-clause-triplets : goal.returns-then-length-len-clause-triplets
returns-then-length-len-clause-triplets c =
    let s = c.args.self.now in
    sym (take_all c.args.length (column_view s) (omega (arith, c.if-length-len.true, joined_length s.greatest s.levels.items (values_view s.values))))

pub overflow_sub-kept : goal.overflow_sub-kept
overflow_sub-kept c =
    let s = c.args.self.now in
    let d : c.count_present.result ≡ present s.greatest (drop c.args.length s.levels.items) = c.count_present.ensures ∙ ap (present s.greatest) (take_rest c.deref.result.now c.args.length ∙ ap (drop c.args.length) c.deref.ensures.value) in
    omega (arith, d, s.dense, c.len-2.ensures, present-parts s.greatest c.args.length s.levels.items)

pub invariant_of-self : goal.invariant_of-self
invariant_of-self c =
    let s = c.args.self.now in
    let g = s.greatest in
    let d : c.count_present.result ≡ present g (drop c.args.length s.levels.items) = c.count_present.ensures ∙ ap (present g) (take_rest c.deref.result.now c.args.length ∙ ap (drop c.args.length) c.deref.ensures.value) in
    let n : c.len-2.result - c.count_present.result ≡ present g (take c.args.length s.levels.items) = omega (arith, d, s.dense, c.len-2.ensures, present-parts g c.args.length s.levels.items) in
    record {
      kinds = c.truncate-2.ensures.kinds (kind_view s.kind) s.kinds;
      dense = ap (present g) c.truncate.ensures.items ∙ truncated_count g c.args.length s.levels.items (values_view s.values) s.dense
          ∙ ap (λ k. length (take k (values_view s.values))) (sym n) ∙ ap length (sym c.truncate-2.ensures.values);
    }

pub returns-clause-triplets : goal.returns-clause-triplets
returns-clause-triplets c =
    let s = c.args.self.now in
    let g = s.greatest in
    let d : c.count_present.result ≡ present g (drop c.args.length s.levels.items) = c.count_present.ensures ∙ ap (present g) (take_rest c.deref.result.now c.args.length ∙ ap (drop c.args.length) c.deref.ensures.value) in
    let n : c.len-2.result - c.count_present.result ≡ present g (take c.args.length s.levels.items) = omega (arith, d, s.dense, c.len-2.ensures, present-parts g c.args.length s.levels.items) in
    ap₂ (joined g) c.truncate.ensures.items (c.truncate-2.ensures.values ∙ ap (λ k. take k (values_view s.values)) n) ∙ truncated g c.args.length s.levels.items (values_view s.values)

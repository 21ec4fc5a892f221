use Rattle.std.proofs.Common.{◌∙◌, sym, ap, map, get_or}
use Rattle.std.specs.Prelude.{[], ◌∷◌, ℕ}
use Rattle.std.specs.List.{slice_get}
use Rattle.std.proofs.lemmas.Grind.{get_or_default_zero}
use Rattle.std.proofs.lemmas.List.Concat.{flat_map_single}
use Rattle.dr_meaning.specs.Path.{chain_end}
use Rattle.dr_meaning.specs.Expression.{longest_chain}
use Rattle.dr_nested.specs.PathView.{step_view, path_view}
use Rattle.dr_plan.specs.Views.{path_of}
use Rattle.dr_paths.proofs.LongestLemmas.{level_more, level_all, level_start, longer_end}
use Rattle.dr_paths.proofs.expression_chains.keys_chain.Goals as goal

pub keys-init : goal.keys-init
keys-init c = level_start (λ (k : ℕ). path_of (slice_get (map path_view c.args.leaves.now) k) ∷ []) c.args.keys.now

pub keys-preserved : goal.keys-preserved
keys-preserved c =
    let ls = map path_view c.args.leaves.now in
    let i = c.keys.key-index in
    let path = λ (k : ℕ). path_of (slice_get ls k) ∷ [] in
    let k = get_or c.args.keys.now i 0 in
    level_more path c.args.keys.now i k (map step_view c.keys.longest.now) _ _ c.keys-test.true (sym (get_or_default_zero c.args.keys.now i k c.keys-test.true)) (c.leaf_chain.ensures ∙ sym (longer_end (chain_end (path_of (slice_get ls k))))) c.longer-longest.ensures ∙ c.keys.invariant

pub returns : goal.returns
returns c =
    let path = λ (k : ℕ). path_of (slice_get (map path_view c.args.leaves.now) k) in
    sym (level_all (λ (k : ℕ). path k ∷ []) c.args.keys.now c.keys.key-index (map step_view c.keys.longest.now) c.keys-test.false) ∙ c.keys.invariant
    ∙ ap longest_chain (flat_map_single path c.args.keys.now)

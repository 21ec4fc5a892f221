use Rattle.std.proofs.Common.{◌≡◌, ◌∙◌, [], ◌∷◌, List, Option, Some, replicate, subst, ap}
use Rattle.std.specs.Prelude.{option_map}
use Rattle.dr_meaning.specs.Record.{Value}
use Rattle.dr_levels.specs.Views.{lent_value}
use Rattle.dr_partials.specs.Putting.{Put}
use Rattle.dr_group.specs.Groups.{put_of}
use Rattle.dr_group.specs.Maps.{tuples_view}
use Rattle.dr_columns.specs.Numbers.{put_at, HasPut}
use Rattle.dr_columns.proofs.NumberLemmas.{more_put, tuple_got, repeated_more}
use Rattle.dr_columns.proofs.taking.put_times.Goals as goal

pub times-preserved : goal.times-preserved
times-preserved c =
    let old = c.args.groups.now in
    let now = c.times.groups in
    let next = c.put_value.new.groups in
    let i = c.args.aggregate in
    let v : Option Value = option_map lent_value c.args.value in
    let p : Put = put_of [] (Some (record { aggregate = i; value = v })) in
    let k = c.times.counter in
    let tuple : List (Option Value) = [] in
    let one : put_at (tuples_view now) c.args.group i v ≡ p =
    ap (λ (T : List (List (Option Value))). put_at T c.args.group i v) c.times.invariant.tuples ∙ ap (λ (t : List (Option Value)). put_of t (Some (record { aggregate = i; value = v }))) (tuple_got (tuples_view old) c.args.group tuple c.requires) in
    record {
      put = subst (λ (ps : List Put). HasPut old ps next) (repeated_more p k)
          (more_put old now next (replicate k p) (p ∷ []) c.times.invariant.gatherings c.times.invariant.put (subst (λ (x : Put). HasPut now (x ∷ []) next) one c.in_ok-put_value.ensures.put));
      gatherings = c.put_value.ensures.gatherings ∙ c.times.invariant.gatherings;
      tuples = c.put_value.ensures.tuples ∙ c.times.invariant.tuples;
    }

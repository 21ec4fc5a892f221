use Rattle.std.proofs.Common.{◌≡◌, ◌∙◌, List, Bool, map, take, length, ap, sym, arith, rules, ℤ, to_z, of_z}
use mir.Syntax.{w64}
use Rattle.std.proofs.lemmas.List.{length-map, take_all}
use Rattle.dr_meaning.specs.Record.{Value, int_value}
use Rattle.dr_meaning.specs.Column.{Triplet}
use Rattle.dr_levels.specs.Lent.{present_values}
use Rattle.dr_levels.specs.Views.{triplets_view}
use Rattle.dr_rows_beside.specs.Comparing.{stands, placed, stands_at}
use Rattle.dr_rows_beside.proofs.PlaceLemmas.{whole_values}
use Rattle.dr_rows_beside.proofs.RowLemmas.{kept_items}
use Rattle.dr_rows_beside.proofs.ComparingLemmas.{placed_stand, few_present, same_long, only_these}
use Rattle.dr_rows_beside.proofs.comparing.put_compared.Goals as goal

pub put_each-requires : goal.put_each-requires
put_each-requires c =
    let ts = triplets_view c.args.column in
    let n : length c.args.numbers.now ≡ length (present_values ts) = sym (length-map c.args.numbers.now (λ (z : ℤ). int_value z)) ∙ ap (λ (vs : List Value). length vs) c.requires.numbers in
    omega (arith, n, few_present ts, c.requires.room, c.args.out.now.ok.0, ap (λ (bs : List Bool). length bs) c.requires.empty)

pub places-init : goal.places-init
places-init c =
    let ts = triplets_view c.args.column in
    let zs = c.args.numbers.now in
    let w : ℤ = to_z w64 (of_z w64 c.args.literal) in
    let n : length zs ≡ length (present_values ts) = sym (length-map zs (λ (z : ℤ). int_value z)) ∙ ap (λ (vs : List Value). length vs) c.requires.numbers in
    let l : length c.levels-levels.result.now ≡ length ts = same_long c.levels-levels.result.now ts c.levels-levels.ensures in
    let items : c.put_each.new.out.items ≡ map (stands c.args.comparison w) zs =
    only_these c.put_each.new.out.items c.args.out.now.items (map (stands c.args.comparison w) zs) c.put_each.ensures.items c.requires.empty in
    let long : length c.put_each.new.out.items ≡ length zs = ap (λ (bs : List Bool). length bs) items ∙ length-map zs (stands c.args.comparison w) in
    record {
      front = ap (take (length zs)) items ∙ take_all (length zs) (map (stands c.args.comparison w) zs) (omega (arith, length-map zs (stands c.args.comparison w)));
      many = omega (arith, long);
      few = omega (arith, long, l, n, few_present ts, c.put_each.new.out.ok.0);
      room = omega (arith, l, c.requires.room, c.put_each.ensures.room);
    }

pub place_back-requires-clause-count : goal.place_back-requires-clause-count
place_back-requires-clause-count c =
    let zs = c.args.numbers.now in
    sym ((whole_values c.args.column c.greatest_definition.result c.levels-levels.result.now (map (λ (z : ℤ). int_value z) zs) c.greatest_definition.ensures c.levels-levels.ensures c.requires.numbers).0
    ∙ length-map zs (λ (z : ℤ). int_value z))

pub returns : goal.returns
returns c =
    let zs = c.args.numbers.now in
    let g = c.greatest_definition.result in
    let ls = c.levels-levels.result.now in
    let k : to_z w64 (of_z w64 c.args.literal) ≡ c.args.literal = search rules in
    let long : length c.place_back.new.room ≡ length c.places.out.items = c.place_back.auto.room ∙ ap (λ (bs : List Bool). length bs) c.as_mut_slice.ensures.value in
    kept_items c.places.out.len c.place_back.new.room c.places.out.items (omega (arith, c.places.out.ok.0)) long
    ∙ c.place_back.ensures
    ∙ ap (λ (bs : List Bool). placed g ls (take (length zs) bs)) c.as_mut_slice.ensures.value
    ∙ ap (placed g ls) (c.places.invariant.front ∙ ap (λ (y : ℤ). map (stands c.args.comparison y) zs) k)
    ∙ placed_stand g c.args.comparison c.args.literal ls zs
    ∙ ap (λ (ts : List Triplet). map (stands_at c.args.comparison c.args.literal) ts)
    (whole_values c.args.column g ls (map (λ (z : ℤ). int_value z) zs) c.greatest_definition.ensures c.levels-levels.ensures c.requires.numbers).1

use Rattle.std.proofs.Common.{rules, ◌≡◌, ◌+◌, ◌-◌, ◌*◌, ◌≤◌, ◌∙◌, ℕ, List, subst, sym, arith, ap, take, drop, length}
use Rattle.std.proofs.lemmas.List.{take_rest}
use Rattle.dr_bytes.proofs.BitLemmas.{unpacked_front}
use Rattle.dr_formats.specs.LittleEndian.{little_endian, unpacked}
use Rattle.dr_hybrid.proofs.NumberLemmas.{Told, length-numbers, numbers-put_mid, length_rest}
use Rattle.dr_hybrid.proofs.UnpackLemmas.{Unpacked, group_unpacked, last_unpacked, place_small, place_within}
use Rattle.dr_hybrid.proofs.unpacking.unpack_narrow.Goals as goal

pub overflow_sub-out : goal.overflow_sub-out
overflow_sub-out g c =
    let t : Told g.row.T.Denot = record { number = g.T.Packable.number; numbers = g.T.Packable.numbers; none = g.met.T.Packable.none; more = g.met.T.Packable.more } in
    omega (arith, length-numbers g.row.T.Denot t c.groups.out, c.groups.invariant.within)

pub overflow_add-place : goal.overflow_add-place
overflow_add-place g c = omega (arith, place_small c.args.width c.groups.done c.groups.place c.requires.narrow c.groups.invariant.bits)

pub slice_bounds-front_word-count-2 : goal.slice_bounds-front_word-count-2
slice_bounds-front_word-count-2 g c =
    let t : Told g.row.T.Denot = record { number = g.T.Packable.number; numbers = g.T.Packable.numbers; none = g.met.T.Packable.none; more = g.met.T.Packable.more } in
    let d : c.groups.done ≤ length c.args.out.now = omega (arith, length-numbers g.row.T.Denot t c.groups.out, c.groups.invariant.within) in
    omega (arith, place_within c.args.width (length c.args.out.now) c.groups.done c.groups.place (length c.args.bytes.now) d (omega (arith, c.groups.invariant.bits)) c.requires.whole)

pub slice_bounds-front_word-start-2 : goal.slice_bounds-front_word-start-2
slice_bounds-front_word-start-2 g c =
    let t : Told g.row.T.Denot = record { number = g.T.Packable.number; numbers = g.T.Packable.numbers; none = g.met.T.Packable.none; more = g.met.T.Packable.more } in
    let d : c.groups.done ≤ length c.args.out.now = omega (arith, length-numbers g.row.T.Denot t c.groups.out, c.groups.invariant.within) in
    omega (arith, place_within c.args.width (length c.args.out.now) c.groups.done c.groups.place (length c.args.bytes.now) d (omega (arith, c.groups.invariant.bits)) c.requires.whole)

pub slice_bounds-unpack_few-count : goal.slice_bounds-unpack_few-count
slice_bounds-unpack_few-count g c =
    let t : Told g.row.T.Denot = record { number = g.T.Packable.number; numbers = g.T.Packable.numbers; none = g.met.T.Packable.none; more = g.met.T.Packable.more } in
    omega (arith, length-numbers g.row.T.Denot t c.groups.out, c.groups.invariant.within)

pub slice_bounds-unpack_few-start : goal.slice_bounds-unpack_few-start
slice_bounds-unpack_few-start g c =
    let t : Told g.row.T.Denot = record { number = g.T.Packable.number; numbers = g.T.Packable.numbers; none = g.met.T.Packable.none; more = g.met.T.Packable.more } in
    omega (arith, length-numbers g.row.T.Denot t c.groups.out, c.groups.invariant.within)

pub offset_bounds-out-done-2 : goal.offset_bounds-out-done-2
offset_bounds-out-done-2 g c =
    let t : Told g.row.T.Denot = record { number = g.T.Packable.number; numbers = g.T.Packable.numbers; none = g.met.T.Packable.none; more = g.met.T.Packable.more } in
    let d : c.groups.done ≤ length c.groups.out = omega (arith, length-numbers g.row.T.Denot t c.groups.out, c.groups.invariant.within) in
    search rules

pub groups-preserved : goal.groups-preserved
groups-preserved g c =
    let t : Told g.row.T.Denot = record { number = g.T.Packable.number; numbers = g.T.Packable.numbers; none = g.met.T.Packable.none; more = g.met.T.Packable.more } in
    subst (λ (ns : List ℕ). Unpacked c.args.bytes.now c.args.width ns (c.groups.done + 8) (8 * (c.groups.place + c.args.width))) (sym (numbers-put_mid g.row.T.Denot t c.groups.done (c.groups.done + 8 - c.groups.done) c.groups.out c.copy_from_slice.new.self))
    (group_unpacked c.args.bytes.now c.args.width (t.numbers c.groups.out) c.groups.done c.groups.place (t.numbers c.copy_from_slice.new.self) (λ i. omega (arith, c.type_inv.bytes i)) c.requires.narrow c.groups.invariant (omega (arith, length-numbers g.row.T.Denot t c.groups.out)) (ap t.numbers c.copy_from_slice.ensures.after ∙ (c.group_of-group.ensures ∙ ap (unpacked 8 c.args.width) (c.front_word.ensures ∙ ap (λ xs. little_endian (take 8 xs)) (take_rest c.args.bytes.now c.groups.place)))))

pub returns : goal.returns
returns g c =
    let t : Told g.row.T.Denot = record { number = g.T.Packable.number; numbers = g.T.Packable.numbers; none = g.met.T.Packable.none; more = g.met.T.Packable.more } in
    let left : ℕ = length c.groups.out - c.groups.done in
    let w : c.front_word-2.result ≡ little_endian (take 8 (drop c.groups.place c.args.bytes.now)) = c.front_word-2.ensures ∙ ap (λ xs. little_endian (take 8 xs)) (take_rest c.args.bytes.now c.groups.place) in
    let n : length (take (length c.groups.out - c.groups.done) (drop c.groups.done c.groups.out)) ≡ left = length_rest c.groups.done c.groups.out in
    let f : t.numbers c.unpack_few.new.out ≡ take left (unpacked 8 c.args.width (little_endian (take 8 (drop c.groups.place c.args.bytes.now)))) = c.unpack_few.ensures ∙ (ap (λ k. unpacked k c.args.width c.front_word-2.result) n ∙ (ap (unpacked left c.args.width) w ∙ sym (unpacked_front left 8 c.args.width (little_endian (take 8 (drop c.groups.place c.args.bytes.now))) (omega arith)))) in
    numbers-put_mid g.row.T.Denot t c.groups.done (length c.groups.out - c.groups.done) c.groups.out c.unpack_few.new.out
    ∙ (last_unpacked c.args.bytes.now c.args.width (t.numbers c.groups.out) c.groups.done c.groups.place left (t.numbers c.unpack_few.new.out) (λ i. omega (arith, c.type_inv.bytes i)) c.requires.narrow c.groups.invariant (omega (arith, length-numbers g.row.T.Denot t c.groups.out, c.groups.invariant.within)) (omega arith) f
    ∙ ap (λ k. unpacked k c.args.width (little_endian c.args.bytes.now)) (length-numbers g.row.T.Denot t c.groups.out ∙ c.groups.auto.out))

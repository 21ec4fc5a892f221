use Rattle.std.proofs.Common.{◌≡◌, ◌/◌, ◌%◌, ◌≤◌, ◌∙◌, length, take, drop, refl, sym, ap, ap₂, subst, arith}
use Rattle.std.proofs.lemmas.Bool.{false≢true}
use Rattle.dr_formats.specs.Reading.{got, refused}
use Rattle.dr_formats.specs.Varint.{VarintFault, varint}
use Rattle.dr_formats.specs.LittleEndian.{little_endian, bytes_for}
use Rattle.dr_formats.specs.Hybrid.{HybridFault, short}
use Rattle.dr_bytes.specs.Cutting.{left}
use Rattle.dr_bytes.specs.Numbers.{varint_fault_view}
use Rattle.dr_bytes.proofs.FaultLemmas.{varint_got, varint_refused}
use Rattle.dr_hybrid.specs.Ahead.{repeat_ahead, groups_ahead}
use Rattle.dr_hybrid.proofs.ReaderLemmas.{none_begun, no_repeat_begun, repeat_begun, groups_begun, placed, length_behind, few_not}
use Rattle.dr_hybrid.proofs.RunLemmas.{header_shortens}
use Rattle.dr_hybrid.proofs.unread.begin.Goals as goal

any_short : VarintFault → HybridFault
any_short e = short

pub returns-in-Err-clause-short : goal.returns-in-Err-clause-short
unfolding any_short
returns-in-Err-clause-short c = λ n p.
    let v = varint_refused any_short (left c.new-cut.result) (varint_fault_view c.in-Err.field-0) c.in-Err.ensures.fault in
    none_begun c.args.width n c.args.bytes.now v.0 p (subst (λ bs. varint short short bs ≡ refused short v.0) c.new-cut.ensures.left v.1)

pub returns-then-header-ne0-clause-ahead : goal.returns-then-header-ne0-clause-ahead
unfolding any_short
returns-then-header-ne0-clause-ahead c = λ n p.
    let v = varint_got any_short (left c.new-cut.result) (left c.varint.new.self) c.in-Ok.header c.in-Ok.ensures.number in
    let h : varint short short c.args.bytes.now ≡ got c.in-Ok.header (left c.varint.new.self) = subst (λ bs. varint short short bs ≡ got c.in-Ok.header (left c.varint.new.self)) c.new-cut.ensures.left v in
    groups_begun c.args.width n c.in-Ok.header c.args.bytes.now (left c.varint.new.self) p h c.if-header-ne0.true
    ∙ ap (groups_ahead c.args.width (c.in-Ok.header / 2) 0 n) (sym (placed c.varint.new.self c.place.result c.args.bytes.now c.place.ensures (c.in-Ok.ensures.whole ∙ c.new-cut.ensures.whole)))

pub returns-then-header-ne0-clause-some : goal.returns-then-header-ne0-clause-some
unfolding any_short
returns-then-header-ne0-clause-some c =
    let v = varint_got any_short (left c.new-cut.result) (left c.varint.new.self) c.in-Ok.header c.in-Ok.ensures.number in
    omega (arith, header_shortens (left c.new-cut.result) (left c.varint.new.self) c.in-Ok.header v, c.place.ensures, ap length c.in-Ok.ensures.whole, ap length c.new-cut.ensures.whole, ap length c.new-cut.ensures.left)

pub returns-in-Ok-take-clause-ahead : goal.returns-in-Ok-take-clause-ahead
unfolding any_short
returns-in-Ok-take-clause-ahead c = λ n p.
    let v = varint_got any_short (left c.new-cut.result) (left c.varint.new.self) c.in-Ok.header c.in-Ok.ensures.number in
    let h : varint short short c.args.bytes.now ≡ got c.in-Ok.header (left c.varint.new.self) = subst (λ bs. varint short short bs ≡ got c.in-Ok.header (left c.varint.new.self)) c.new-cut.ensures.left v in
    let e : c.in-Ok.header % 2 ≡ 0 = omega arith in
    let l : bytes_for c.args.width ≤ length (left c.varint.new.self) = few_not (bytes_for c.args.width) (length (left c.varint.new.self)) (λ f. false≢true (c.in-Ok-take.ensures.short.1 f)) in
    let x : little_endian (take (bytes_for c.args.width) (left c.varint.new.self)) ≡ c.number_of-value.result = sym (c.number_of-value.ensures.number ∙ ap little_endian c.in-Ok-take.ensures.taken) in
    let d : drop (bytes_for c.args.width) (left c.varint.new.self) ≡ drop c.place-in-Ok-take.result c.args.bytes.now =
    sym (placed c.take.new.self c.place-in-Ok-take.result c.args.bytes.now c.place-in-Ok-take.ensures (c.in-Ok-take.ensures.whole ∙ (c.in-Ok.ensures.whole ∙ c.new-cut.ensures.whole)) ∙ c.in-Ok-take.ensures.behind) in
    repeat_begun c.args.width n c.in-Ok.header c.args.bytes.now (left c.varint.new.self) p h e l
    ∙ ap₂ (λ value bs. repeat_ahead c.args.width value (c.in-Ok.header / 2) n bs) x d

pub returns-in-Ok-take-clause-some : goal.returns-in-Ok-take-clause-some
unfolding any_short
returns-in-Ok-take-clause-some c =
    let v = varint_got any_short (left c.new-cut.result) (left c.varint.new.self) c.in-Ok.header c.in-Ok.ensures.number in
    omega (arith, header_shortens (left c.new-cut.result) (left c.varint.new.self) c.in-Ok.header v, c.place-in-Ok-take.ensures, length_behind (bytes_for c.args.width) (left c.varint.new.self) (left c.take.new.self) c.in-Ok-take.ensures.behind, ap length c.in-Ok-take.ensures.whole, ap length c.in-Ok.ensures.whole, ap length c.new-cut.ensures.whole, ap length c.new-cut.ensures.left)

pub returns-in-Err-take-clause-short : goal.returns-in-Err-take-clause-short
unfolding any_short
returns-in-Err-take-clause-short c = λ n p.
    let v = varint_got any_short (left c.new-cut.result) (left c.varint.new.self) c.in-Ok.header c.in-Ok.ensures.number in
    let h : varint short short c.args.bytes.now ≡ got c.in-Ok.header (left c.varint.new.self) = subst (λ bs. varint short short bs ≡ got c.in-Ok.header (left c.varint.new.self)) c.new-cut.ensures.left v in
    let e : c.in-Ok.header % 2 ≡ 0 = omega arith in
    no_repeat_begun c.args.width n c.in-Ok.header c.args.bytes.now (left c.varint.new.self) p h e (c.in-Err-take.ensures.short.0 refl)

use Rattle.std.proofs.Common.{◌≡◌, Bool, true, false, cond, Some, None, Option, sym, ap, ◌∙◌, arith, bytes_eq}
use Rattle.json.specs.Json.{Json}
use Rattle.json.specs.Find.{later_or, get_member}
use Rattle.json.specs.Value.{value_view, members_view}
use Rattle.dr_json.proofs.RawLemmas.{named_at_here, named_at_past}
use Rattle.dr_json.proofs.raw.member_near.Goals as goal

pub returns-in-None-clause-value : goal.returns-in-None-clause-value
returns-in-None-clause-value c =
    let ms = c.args.members.now in
    let name = c.args.name.now in
    c.last_named.ensures.value ∙ sym (ap (λ (o : Option Json). later_or o (get_member name (members_view ms))) (named_at_past ms c.args.place name c.in-None.ensures.lookup.3))

pub returns-then-eq-clause-value : goal.returns-then-eq-clause-value
returns-then-eq-clause-value c =
    let ms = c.args.members.now in
    let name = c.args.name.now in
    let m = c.in-Some.field-0.now in
    let same : bytes_eq m.0.now name ≡ true = grind arith in
    sym (ap (λ (o : Option Json). later_or o (get_member name (members_view ms))) (named_at_here ms c.args.place m name c.in-Some.ensures.lookup.3.0 c.in-Some.ensures.lookup.1 ∙ ap (λ (b : Bool). cond b (Some (value_view m.1)) None) same))

pub returns-else-eq-clause-value : goal.returns-else-eq-clause-value
returns-else-eq-clause-value c =
    let ms = c.args.members.now in
    let name = c.args.name.now in
    let m = c.in-Some.field-0.now in
    let other : bytes_eq m.0.now name ≡ false = grind arith in
    c.last_named-else-eq.ensures.value
    ∙ sym (ap (λ (o : Option Json). later_or o (get_member name (members_view ms))) (named_at_here ms c.args.place m name c.in-Some.ensures.lookup.3.0 c.in-Some.ensures.lookup.1 ∙ ap (λ (b : Bool). cond b (Some (value_view m.1)) None) other))

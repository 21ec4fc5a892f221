use Rattle.std.proofs.Common.{◌≡◌, ◌<◌, suc, ◌+◌, ◌-◌, ◌++◌, [], ◌∷◌, List, false, length, get_or, take, drop, ap, ◌∙◌, arith, string_bytes}
use Rattle.std.specs.Prelude.{nat_lt}
use Rattle.dr_meaning.specs.Lists.{separated}
use Rattle.dr_meaning.specs.Schema.{group, repetition_count, definition_count}
use Rattle.dr_nested.specs.declared.shape.Field.{Field}
use Rattle.dr_nested.specs.Views.{rep_view, shape_view, fields_view}
use Rattle.dr_print.proofs.MemberLemmas.{closed, node_text}
use Rattle.dr_print.proofs.PartLemmas.{more_than_none}
use Rattle.dr_assemble.specs.Lines.{text_each, text_held, text_members, text_one}
use Rattle.dr_assemble.specs.Restoring as restoring
use Rattle.dr_assemble.specs.Restoring.{first_pieces, other_pieces, front_at, after_front}
use Rattle.dr_assemble.specs.Views.{strips_view}
use Rattle.dr_assemble.specs.declared.strip.Strip.{Strip}
use Rattle.dr_assemble.proofs.LoopLemmas.{written_back, shape_depth-field}
use Rattle.dr_assemble.proofs.FrontLemmas.{front_within, left_behind, front_lent}
use Rattle.dr_assemble.proofs.PrintingLemmas.{each_more, list_held, member_more}
use Rattle.dr_assemble.proofs.printing.+printing.Goals as goal

pub push_each-instances-preserved : goal.push_each-instances-preserved
push_each-instances-preserved t c =
    let l = c.args.level in
    let f = text_one (shape_view c.args.shape.now) l c.args.definition in
    let S = strips_view c.instances.left.items in
    let whole = string_bytes c.args.text.now ++ separated false (text_each f l c.args.count (strips_view c.args.strips.now)) in
    let first : take c.instances.first.len (c.cut.new.first ++ drop (length c.cut.new.first) c.instances.first.items) ≡ c.cut.new.first =
    written_back c.cut.new.first c.instances.first.items c.instances.first.len (omega (arith, c.cut.auto.first, ap length c.deref_mut-in-instances.ensures.value)) (omega (arith, c.instances.first.ok.0)) in
    let left : take c.instances.left.len (c.cut.new.left ++ drop (length c.cut.new.left) c.instances.left.items) ≡ c.cut.new.left =
    written_back c.cut.new.left c.instances.left.items c.instances.left.len (omega (arith, c.cut.auto.left, ap length c.deref_mut.ensures.value)) (omega (arith, c.instances.left.ok.0)) in
    let piece : strips_view c.deref.result.now ≡ first_pieces l S =
    ap strips_view (c.deref.ensures.value ∙ first) ∙ c.cut.ensures.first ∙ ap (λ (ss : List Strip). first_pieces l (strips_view ss)) c.deref_mut.ensures.value in
    let others : strips_view (take c.instances.left.len (c.cut.new.left ++ drop (length c.cut.new.left) c.instances.left.items)) ≡ other_pieces l S =
    ap strips_view left ∙ c.cut.ensures.others ∙ ap (λ (ss : List Strip). other_pieces l (strips_view ss)) c.deref_mut.ensures.value in
    let one_left : c.args.count - c.instances.done ≡ suc (c.args.count - (c.instances.done + 1)) = omega arith in
    record {
      lengths = omega (arith, ap length first, ap length left, c.cut.auto.first, c.cut.auto.left, ap length c.deref_mut.ensures.value, ap length c.deref_mut-in-instances.ensures.value, c.instances.invariant.lengths);
      so_far =
          each_more f l (c.args.count - c.instances.done) (c.args.count - (c.instances.done + 1)) S (nat_lt 0 c.instances.done) (string_bytes c.instances.text) whole
          (string_bytes c.push_comma.new.text) (string_bytes c.push_instance.new.text) _ (nat_lt 0 (c.instances.done + 1)) one_left c.in_ok-push_comma.ensures
          (c.in_ok-push_instance.ensures ∙ ap (λ (T : List restoring.Strip). string_bytes c.push_comma.new.text ++ f T) piece) others (more_than_none c.instances.done) c.instances.invariant.so_far;
    }

pub push_group-returns : goal.push_group-returns
push_group-returns t c =
    let fs = fields_view c.args.fields.now.items in
    let S = strips_view c.args.strips.now in
    let old = string_bytes c.args.text.now in
    closed c.push_str-2.result (string_bytes c.push_str-2.new.self) (string_bytes c.push_members.new.text) (125 ∷ []) (old ++ text_one (group fs) c.args.level c.args.definition S) c.push_str-2.ensures.bytes
    (node_text (text_members fs 0 c.args.level c.args.definition S) old (string_bytes c.push_str.new.self) (string_bytes c.push_members.new.text) c.in_ok-push_str.ensures.bytes c.in_ok-push_members.ensures)

pub push_held-returns-in_ok-push_each-in-Repeated : goal.push_held-returns-in_ok-push_each-in-Repeated
push_held-returns-in_ok-push_each-in-Repeated t c =
    let f = c.args.field.now in
    let l = c.args.level in
    let d = c.args.definition in
    let S = strips_view c.args.strips.now in
    let old = string_bytes c.args.text.now in
    let r = rep_view f.rep in
    closed c.push_str-in-Repeated.result (string_bytes c.push_str-in-Repeated.new.self) (string_bytes c.push_each.new.text) (93 ∷ [])
    (old ++ text_held r (text_one (shape_view f.shape) (l + repetition_count r) (d + definition_count r)) (l + repetition_count r) d S)
    c.push_str-in-Repeated.ensures.bytes
    (list_held f.rep (shape_view f.shape) l d c.list_count-count.result S old (string_bytes c.push_str.new.self) (string_bytes c.push_each.new.text) c.in-Repeated.is c.list_count-count.ensures c.in_ok-push_str-in-Repeated.ensures.bytes
    c.in_ok-push_each-in-Repeated.ensures)

pub push_members-push_member-requires : goal.push_members-push_member-requires
push_members-push_member-requires t c =
    let all = c.args.fields.now.items in
    let here : c.fields.place < length all = omega (arith, ap length c.deref-field-items.ensures.value) in
    let deeper = shape_depth-field all c.fields.place c.field-item.result here (c.field-item.is ∙ ap (λ (fs : List Field). get_or fs c.fields.place c.field-item.result) c.deref-field-items.ensures.value) in
    (omega arith, (omega arith, omega arith))

pub push_members-fields-preserved : goal.push_members-fields-preserved
push_members-fields-preserved t c =
    let all = c.args.fields.now.items in
    let k = c.fields.place in
    let f = c.field-item.result in
    let ss = c.args.strips.now in
    let from = c.fields.from in
    let n = c.front_length.result in
    let S = strips_view (drop from ss) in
    let whole = string_bytes c.args.text.now ++ separated false (text_members (fields_view all) 0 c.args.level c.args.definition (strips_view ss)) in
    let here : k < length all = omega (arith, ap length c.deref-field-items.ensures.value) in
    let is : f ≡ get_or all k f = c.field-item.is ∙ ap (λ (fs : List Field). get_or fs k f) c.deref-field-items.ensures.value in
    let front = c.front_length.ensures in
    let lent : strips_view (take (from + n - from) (drop from c.deref.result.now)) ≡ front_at k S =
    front_lent ss from k n c.fields.invariant.within front.within front.front front.behind c.deref.result.now (ap strips_view c.deref.ensures.value ∙ c.in_ok-rests.ensures) in
    let later : strips_view (drop (from + n) ss) ≡ after_front k S = left_behind ss from k n c.fields.invariant.within front.within front.front front.behind in
    record {
      within = front_within ss from k n c.fields.invariant.within front.within front.front front.behind;
      so_far =
          member_more all k f here is c.args.level c.args.definition S (strips_view (take (from + n - from) (drop from c.deref.result.now))) c.fields.behind (string_bytes c.fields.text) whole
          (string_bytes c.push_member.new.text) _ c.in_ok-behind.behind lent c.in_ok-behind.ensures.text c.in_ok-behind.ensures.behind later c.fields.invariant.so_far;
    }

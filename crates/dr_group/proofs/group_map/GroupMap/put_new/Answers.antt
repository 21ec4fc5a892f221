use Rattle.std.proofs.Common.{◌≡◌, ◌++◌, ◌∷◌, [], ◌∙◌, refl, ap, subst, length, List, IfSome, map}
use Rattle.dr_partials.specs.Partials as meant
use Rattle.dr_group.specs.Gathering.{new_group_by}
use Rattle.dr_group.specs.Distinct.{tuples_of}
use Rattle.dr_group.specs.Finding.{IsIndexed}
use Rattle.dr_group.specs.Groups.{group_view, put_view}
use Rattle.dr_group.specs.Hashes.{tuple_hash}
use Rattle.dr_group.specs.Keys.{AreNumbered}
use Rattle.dr_group.specs.Views.{lent_cell}
use Rattle.dr_group.specs.declared.gathering.Gathering.{Gathering}
use Rattle.dr_group.specs.declared.group.Group.{Group}
use Rattle.dr_group.proofs.HeldLemmas.{grown, grown_distinct, grown_order}
use Rattle.dr_group.proofs.OrderedLemmas.{either_indexed, numbered_grown, unless_still, unless_then}
use Rattle.dr_group.proofs.NumberLemmas.{tuples_grown}
use Rattle.dr_group.proofs.group_map.GroupMap.put_new.Goals as goal

pub invariant_of-self-2 : goal.invariant_of-self-2
invariant_of-self-2 c =
    let s = c.args.self.now in
    let gs = s.groups.items in
    let g = c.in_ok-group.group in
    let hs = c.push_reserved.new.groups.items in
    let p = put_view c.args.key.now c.args.taken in
    let more : hs ≡ gs ++ g ∷ [] = c.push_reserved.ensures.items ∙ ap (λ (xs : List Group). xs ++ g ∷ []) c.in_ok-reserve.ensures.items in
    let made : group_view g ≡ new_group_by s.gatherings.items p = c.in_ok-group.ensures ∙ ap (λ (ks : List Gathering). new_group_by ks p) c.deref.ensures.value in
    let t = map lent_cell c.args.key.now in
    let o = c.enter.new.ordered in
    let links = s.index.links.items in
    let keys : (group_view g).keys ≡ t = ap (λ (v : meant.Group). v.keys) made in
    let entered = c.in_ok-enter.ensures in
    record {
      distinct = grown_distinct gs hs g (new_group_by s.gatherings.items p) more made s.distinct c.requires.missing;
      indexed = either_indexed o links c.enter.new.index.links.items gs hs g t (tuple_hash t) more keys refl
          (unless_still s.ordered o (length links ≡ length gs) entered.ordered (unless_then s.ordered (IsIndexed s) (length links ≡ length gs) (λ h. h.1) c.requires.ready)) s.indexed entered.hashes entered.others;
      numbered = numbered_grown o (tuples_of (map group_view gs)) t (map group_view hs)
          (tuples_grown (map group_view gs) (map group_view hs) (new_group_by s.gatherings.items p) (grown gs hs g (new_group_by s.gatherings.items p) more made)) (subst (λ (xs : List Group). IfSome o (λ x. AreNumbered x.numbers (tuples_of (map group_view xs) ++ t ∷ []))) (c.deref-2.ensures.value ∙ c.in_ok-reserve.ensures.items) entered.pushed);
    }

pub returns-clause-groups : goal.returns-clause-groups
returns-clause-groups c =
    let s = c.args.self.now in
    let gs = s.groups.items in
    let g = c.in_ok-group.group in
    let hs = c.push_reserved.new.groups.items in
    let p = put_view c.args.key.now c.args.taken in
    let more : hs ≡ gs ++ g ∷ [] = c.push_reserved.ensures.items ∙ ap (λ (xs : List Group). xs ++ g ∷ []) c.in_ok-reserve.ensures.items in
    let made : group_view g ≡ new_group_by s.gatherings.items p = c.in_ok-group.ensures ∙ ap (λ (ks : List Gathering). new_group_by ks p) c.deref.ensures.value in
    grown_order s.gatherings.items p gs hs g more made s.distinct c.requires.missing

pub returns-clause-tuples : goal.returns-clause-tuples
returns-clause-tuples c =
    let s = c.args.self.now in
    let gs = s.groups.items in
    let g = c.in_ok-group.group in
    let hs = c.push_reserved.new.groups.items in
    let p = put_view c.args.key.now c.args.taken in
    let more : hs ≡ gs ++ g ∷ [] = c.push_reserved.ensures.items ∙ ap (λ (xs : List Group). xs ++ g ∷ []) c.in_ok-reserve.ensures.items in
    let made : group_view g ≡ new_group_by s.gatherings.items p = c.in_ok-group.ensures ∙ ap (λ (ks : List Gathering). new_group_by ks p) c.deref.ensures.value in
    tuples_grown (map group_view gs) (map group_view hs) (new_group_by s.gatherings.items p) (grown gs hs g (new_group_by s.gatherings.items p) more made)

use Rattle.std.proofs.Common.{◌≡◌, ◌∙◌, ◌++◌, ◌∷◌, [], ap, subst, map, length, List, Option, Some, ℕ, arith}
use Rattle.std.specs.List.{slice_get}
use Rattle.dr_meaning.specs.Record.{Value}
use Rattle.dr_group.specs.Views.{lent_cell}
use Rattle.dr_group.specs.Groups.{group_view}
use Rattle.dr_group.specs.Distinct.{IsFound, tuples_of}
use Rattle.dr_group.specs.Maps.{in_order}
use Rattle.dr_group.proofs.ManyLemmas.{as_many}
use Rattle.dr_group.proofs.NumberLemmas.{found_numbered, last_numbered, first_numbered, nothing_put}
use Rattle.dr_group.proofs.group_map.GroupMap.find_or_make.Goals as goal

pub returns-in-Some-clause-groups : goal.returns-in-Some-clause-groups
returns-in-Some-clause-groups c =
    let s = c.args.self.now in
    let t = map lent_cell c.args.key.now in
    let gs = map group_view s.groups.items in
    let there : IsFound t gs (Some c.in-Some.number) = subst (IsFound t gs) c.in-Some.is c.in_ok-number.ensures.found in
    ap (λ v. in_order (map group_view v.items)) c.seek.ensures.groups ∙ nothing_put s.gatherings.items gs c.in-Some.number t s.distinct there

pub returns-in-Some-clause-found : goal.returns-in-Some-clause-found
returns-in-Some-clause-found c =
    let t = map lent_cell c.args.key.now in
    let gs = map group_view c.args.self.now.groups.items in
    let there : IsFound t gs (Some c.in-Some.number) = subst (IsFound t gs) c.in-Some.is c.in_ok-number.ensures.found in
    ap (λ v. slice_get (tuples_of (map group_view v.items)) c.in-Some.number) c.seek.ensures.groups ∙ found_numbered gs c.in-Some.number t there

pub returns-in_ok-put_new-in-None-clause-found : goal.returns-in_ok-put_new-in-None-clause-found
returns-in_ok-put_new-in-None-clause-found c =
    let t = map lent_cell c.args.key.now in
    let v = c.seek.new.self.groups in
    let ts : List (List (Option Value)) = tuples_of (map group_view v.items) in
    let last : c.len-number.result ≡ length ts = omega (arith, as_many v.items, c.len-number.ensures, v.ok.0) in
    ap (λ (us : List (List (Option Value))). slice_get us c.len-number.result) c.in_ok-put_new-in-None.ensures.tuples
    ∙ (ap (λ (n : ℕ). slice_get (ts ++ t ∷ []) n) last ∙ last_numbered ts t)

pub returns-in_ok-put_new-in-None-clause-stay : goal.returns-in_ok-put_new-in-None-clause-stay
returns-in_ok-put_new-in-None-clause-stay c = λ k tuple e.
    let t = map lent_cell c.args.key.now in
    let v = c.seek.new.self.groups in
    let ts : List (List (Option Value)) = tuples_of (map group_view v.items) in
    let kept : slice_get ts k ≡ Some tuple = ap (λ w. slice_get (tuples_of (map group_view w.items)) k) c.seek.ensures.groups ∙ e in
    ap (λ (us : List (List (Option Value))). slice_get us k) c.in_ok-put_new-in-None.ensures.tuples ∙ first_numbered ts t k tuple kept

use Rattle.std.proofs.Common.{◌≡◌, ◌+◌, ◌∷◌, [], List, Option, None, drop, sym, ap, ◌∙◌, subst, arith}
use Rattle.std.specs.Prelude.{option_map}
use Rattle.std.proofs.lemmas.List.{drop_all, drop_more, map-append}
use Rattle.dr_assemble.specs.Restoring.{Strip}
use Rattle.dr_assemble.specs.Distinct.{AreDistinct}
use Rattle.dr_assemble.specs.Views.{strip_view, strips_view}
use Rattle.dr_assemble.proofs.KeepingLemmas.{kept_before, one_kept, one_passed, one_differs, all_passed}
use Rattle.dr_assemble.proofs.distinct.distinct.Goals.{in-New+in_ok-push-in-New, in-Same}
use Rattle.dr_assemble.proofs.distinct.distinct.Goals as goal

pub returns-in-Other : goal.returns-in-Other
returns-in-Other c =
    let S = c.args.strips.now in
    let i = c.strips.strip-index in
    let s = c.strip-item.result in
    let k = option_map strip_view c.strips.last in
    let next : strips_view (drop i S) ≡ strip_view s ∷ strips_view (drop (i + 1) S) =
    ap strips_view (drop_more S i s c.strips-test.true ∙ ap (λ x. x ∷ drop (i + 1) S) (sym c.strip-item.is)) in
    one_differs (strips_view S) (strips_view c.strips.kept.items) (strips_view (drop (i + 1) S)) k (strip_view s) c.in-Other.ensures
    (λ o a. c.strips.invariant o (subst (λ (X : List Strip). AreDistinct k X o) (sym next) a))

pub strips-preserved : goal.strips-preserved
strips-preserved c =
    let S = c.args.strips.now in
    let i = c.strips.strip-index in
    let s = c.strip-item.result in
    let k = option_map strip_view c.strips.last in
    let next : strips_view (drop i S) ≡ strip_view s ∷ strips_view (drop (i + 1) S) =
    ap strips_view (drop_more S i s c.strips-test.true ∙ ap (λ x. x ∷ drop (i + 1) S) (sym c.strip-item.is)) in
    let all : (o : Option (List Strip)) → AreDistinct k (strip_view s ∷ strips_view (drop (i + 1) S)) o → AreDistinct None (strips_view S) (kept_before (strips_view c.strips.kept.items) o) =
    λ o a. c.strips.invariant o (subst (λ (X : List Strip). AreDistinct k X o) (sym next) a) in
    elim c.match-compare.branch [
      | in-New+in_ok-push-in-New w ↦ one_kept (strips_view S) (strips_view c.strips.kept.items) (strips_view c.match-compare.kept.items) (strips_view (drop (i + 1) S)) k (option_map strip_view c.match-compare.last) (strip_view s)
          (ap (λ v. strips_view v.items) w.kept-is ∙ (ap strips_view w.in_ok-push-in-New.ensures.items ∙ map-append strip_view c.strips.kept.items (s ∷ [])))
          (ap (option_map strip_view) w.last-is) w.in-New.ensures all
      | in-Same w ↦ λ o a.
          subst (λ (K : List Strip). AreDistinct None (strips_view S) (kept_before K o)) (sym (ap (λ v. strips_view v.items) w.kept-is))
          (one_passed (strips_view S) (strips_view c.strips.kept.items) (strips_view (drop (i + 1) S)) k (strip_view s) w.in-Same.ensures all o
          (subst (λ x. AreDistinct x (strips_view (drop (i + 1) S)) o) (ap (option_map strip_view) w.last-is) a))
    ]

pub returns : goal.returns
returns c =
    let S = c.args.strips.now in
    let k = option_map strip_view c.strips.last in
    let none : strips_view (drop c.strips.strip-index S) ≡ [] = ap strips_view (drop_all c.strips.strip-index S (omega (arith, c.strips-test.false))) in
    all_passed (strips_view S) (strips_view c.strips.kept.items) k (λ o a. c.strips.invariant o (subst (λ (X : List Strip). AreDistinct k X o) (sym none) a))

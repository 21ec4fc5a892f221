use Rattle.std.proofs.Common.{◌≡◌, ◌++◌, ◌∷◌, ◌+◌, [], ℕ, List, take, get_or, sym, ap, subst, ◌∙◌, append-nil, append_assoc}
use Rattle.std.specs.List.{flat_map}
use Rattle.std.proofs.lemmas.List.{take_more, take_all}
use Rattle.std.proofs.lemmas.Grind.{flat_map-append}
use Rattle.dr_made_laws.specs.ObjectFlow.{Made, items_of}
use Rattle.dr_scalar.specs.Slots.{slot_value}
use Rattle.dr_within.specs.ObjectFraming.{HoldsFrame}
use Rattle.dr_within.specs.OwnCells.{taken_at}
use Rattle.dr_within.proofs.ItemLemmas.{fired_seen}
use Rattle.dr_within.proofs.object_frame.ObjectFrame.take.Goals as goal

pub places-preserved : goal.places-preserved
places-preserved c = λ ls rs made r h.
    let ps = c.args.places.now in
    let i = c.places.place-index in
    let j = get_or ps i 0 in
    let f : ℕ → List Made = taken_at rs (slot_value c.args.slots.now) in
    let so_far = flat_map f (take i ps) in
    let more : flat_map f (take (i + 1) ps) ≡ so_far ++ f j =
    ap (flat_map f) (take_more ps i 0 c.places-test.true) ∙ flat_map-append f (take i ps) (j ∷ []) ∙ ap (λ (x : List Made). so_far ++ x) (append-nil (f j)) in
    subst (λ (x : List Made). HoldsFrame (items_of rs) x c.take_one.new.self) (append_assoc made so_far (f j) ∙ ap (λ (x : List Made). made ++ x) (sym more))
    (c.in_ok-take_one.ensures ls rs (made ++ so_far) r (c.places.invariant ls rs made r h))

pub returns : goal.returns
returns c = λ ls rs i made r p h.
    let ps = c.args.places.now in
    let ctx = slot_value c.args.slots.now in
    let all : flat_map (taken_at rs ctx) (take c.places.place-index ps) ≡ flat_map (taken_at rs ctx) ps = ap (flat_map (taken_at rs ctx)) (take_all c.places.place-index ps c.places-test.false) in
    subst (λ (x : List Made). HoldsFrame (items_of rs) (made ++ x) c.places.self) (all ∙ ap (flat_map (taken_at rs ctx)) p ∙ fired_seen rs i ctx) (c.places.invariant ls rs made r h)

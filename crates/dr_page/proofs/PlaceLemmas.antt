-- Places of texts, as columns have them.
use Rattle.std.proofs.Common.{◌≡◌, ℕ, ◌+◌, ◌%◌, ◌≤◌, ◌<◌, List, [], ◌∷◌, ◌++◌, length, map, take, set, get_or, Bool, true, false, refl, sym, ap, ap₂, ◌∙◌, arith}
use Rattle.std.specs.Prelude.{◌&&◌, nat_le}
use Rattle.std.proofs.lemmas.Bool.{false≢true}
use Rattle.std.proofs.lemmas.List.{map_push, take_more, take_more_set}
use Rattle.dr_plain.specs.declared.values.TextPlace as plain
use Rattle.dr_levels.specs.declared.text_place.TextPlace.{TextPlace}
use Rattle.dr_page.specs.Places.{column_place}

and_both : (a b : Bool) → (a && b) ≡ true → (a ≡ true) × (b ≡ true)
and_both true b e = (refl, e)
and_both false b e = absurd (false≢true e)

-- one more place, where it and those before it are near
pub place_more : (texts : List plain.TextPlace) (out : List TextPlace) (i : ℕ) (d : plain.TextPlace) (place : TextPlace) (near a b : Bool) → i < length texts → i < length out → (near ≡ true → take i out ≡ map column_place (take i texts))
    → (a ≡ true → (get_or texts i d).start ≤ 4294967295) → (b ≡ true → (get_or texts i d).length ≤ 4294967295) → place.start ≡ (get_or texts i d).start % 4294967296 → place.length ≡ (get_or texts i d).length % 4294967296
    → ((near && a) && b) ≡ true → take (i + 1) (set out i place) ≡ map column_place (take (i + 1) texts)
place_more texts out i d place near a b h k f s l m n e =
    let t = and_both (near && a) b e in
    let u = and_both near a t.0 in
    let text : plain.TextPlace = get_or texts i d in
    let start : place.start ≡ text.start = omega (arith, m, s u.1) in
    let size : place.length ≡ text.length = omega (arith, n, l t.1) in
    let same : place ≡ column_place text = ap₂ (λ (x y : ℕ). record { start = x; length = y }) start size in
    take_more_set out i place k ∙ (ap₂ (λ (xs : List TextPlace) (x : TextPlace). xs ++ x ∷ []) (f u.0) same ∙ sym (ap (map column_place) (take_more texts i d h) ∙ map_push column_place (take i texts) text))

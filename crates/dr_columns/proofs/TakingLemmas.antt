-- What is put for several takings, one after another.
use Rattle.std.proofs.Common.{◌≡◌, ℕ, zero, suc, ◌+◌, ◌<◌, ◌≤◌, List, [], ◌∷◌, ◌++◌, map, length, get_or, drop, true, None, refl, sym, ap, subst, ◌∙◌, arith}
use Rattle.std.specs.List.{flat_map}
use Rattle.std.proofs.lemmas.List.{drop_more, drop_all}
use Rattle.dr_meaning.specs.Column.{Triplet}
use Rattle.dr_meaning.specs.Query.{GroupItem}
use Rattle.dr_partials.specs.Putting.{Put, put_group}
use Rattle.dr_partials.specs.GroupPuts.{put_each}
use Rattle.dr_group.specs.Gathering.{gatherings_of}
use Rattle.dr_group.specs.Groups.{put_of}
use Rattle.dr_group.specs.Maps.{groups_view, gatherings_view}
use Rattle.dr_group.specs.declared.group_map.GroupMap.{GroupMap}
use Rattle.dr_columns.specs.declared.firing.Fired.{Fired}
use Rattle.dr_columns.specs.declared.taking.Taking.{Taking}
use Rattle.dr_columns.specs.Numbers.{LeavesToPut}
use Rattle.dr_columns.specs.Takings.{Take, taking_view, takings_view, Fires, fired_view, CanFire, CanFireEach, record_puts, end_puts}

pub end_begun : (old now : GroupMap) (n : ℕ) (ts : List Taking) → (length ts ≡ 0 → ⊥) → ((items : List GroupItem) → gatherings_of items ≡ gatherings_view old → groups_view now ≡ put_group items (put_of [] None) (groups_view old))
    → LeavesToPut old (end_puts n (takings_view ts)) now (flat_map (record_puts n) (takings_view ts))
end_begun old now n [] h p items e = absurd (h refl)
end_begun old now n (t ∷ ts) h p items e = ap (put_each items (flat_map (record_puts n) (takings_view (t ∷ ts)))) (p items e)

pub next_taking : (f : Take → List Put) (ts : List Taking) (i : ℕ) (t : Taking) → i < length ts → t ≡ get_or ts i t → flat_map f (takings_view (drop i ts)) ≡ f (taking_view t) ++ flat_map f (takings_view (drop (i + 1) ts))
next_taking f ts i t h e = ap (λ (us : List Taking). flat_map f (takings_view us)) (drop_more ts i t h ∙ ap (λ (u : Taking). u ∷ drop (i + 1) ts) (sym e))

pub takings_done : (f : Take → List Put) (ts : List Taking) (i : ℕ) → length ts ≤ i → flat_map f (takings_view (drop i ts)) ≡ []
takings_done f ts i h = ap (λ (us : List Taking). flat_map f (takings_view us)) (drop_all i ts h)

-- ---- leaf by leaf

pub next_fired : (f : Fires → List Put) (xs : List Fired) (i : ℕ) (x : Fired) → i < length xs → x ≡ get_or xs i x → flat_map f (map fired_view (drop i xs)) ≡ f (fired_view x) ++ flat_map f (map fired_view (drop (i + 1) xs))
next_fired f xs i x h e = ap (λ (ys : List Fired). flat_map f (map fired_view ys)) (drop_more xs i x h ∙ ap (λ (y : Fired). y ∷ drop (i + 1) xs) (sym e))

pub fires_there : (C : List (List Triplet)) (xs : List Fired) (i : ℕ) (x : Fired) → i < length xs → x ≡ get_or xs i x → CanFireEach C (map fired_view xs) → x.is_needed ≡ true → CanFire C (fired_view x)
fires_there C [] i x h e w n = absurd (omega (arith, h))
fires_there C (y ∷ xs) zero x h e w n = subst (λ (z : Fired). CanFire C (fired_view z)) (sym e) (w.0 (ap (λ (z : Fired). z.is_needed) (sym e) ∙ n))
fires_there C (y ∷ xs) (suc i) x h e w n = fires_there C xs i x (omega (arith, h)) e w.1 n

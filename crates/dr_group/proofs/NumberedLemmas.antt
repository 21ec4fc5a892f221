-- Groups whose numbers are those from 0 on.
use Rattle.std.specs.Prelude.{◌≡◌, ◌≤◌, ℕ, zero, suc, ◌+◌, List, [], ◌∷◌, ◌++◌, map, length, get_or, true, ◌&&◌, nat_lt}
use Rattle.std.specs.List.{list_all, range_with_len}
use Rattle.std.proofs.Common.{refl, sym, ap, ap₂, ◌∙◌, arith, append_assoc, length-append}
use Rattle.std.proofs.lemmas.Bool.{lt-ltb}
use Rattle.std.proofs.lemmas.List.{length-map}
use Rattle.dr_partials.specs.Partials as meant
use Rattle.dr_partials.specs.Partials.{merge_groups}
use Rattle.dr_partials.specs.PartialTypes.{ascends}
use Rattle.dr_partials.proofs.GroupLemmas.{ascending_groups, ascending_ascends, merged_ascends}
use Rattle.dr_group.specs.Groups.{no_group, group_view, picked}
use Rattle.dr_group.specs.Merging.{AreAscending}
use Rattle.dr_group.specs.declared.group.Group.{Group}
use Rattle.dr_group.proofs.PickLemmas.{picks}

there : (front : List meant.Group) (v : meant.Group) (vs : List meant.Group) (a : ℕ) → a ≡ length front → get_or (front ++ v ∷ vs) a no_group ≡ v
there [] v vs a e = ap (λ n. get_or (v ∷ vs) n no_group) e
there (f ∷ front) v vs zero e = absurd (omega (arith, e))
there (f ∷ front) v vs (suc a) e = there front v vs a (omega (arith, e))

picks_all : (front vs : List meant.Group) (a : ℕ) → a ≡ length front → picks (front ++ vs) (range_with_len a (length vs)) ≡ vs
picks_all front [] a e = refl
picks_all front (v ∷ vs) a e =
    let longer : a + 1 ≡ length (front ++ v ∷ []) = omega (arith, e, length-append front (v ∷ [])) in
    ap₂ (λ (g : meant.Group) (gs : List meant.Group). g ∷ gs) (there front v vs a e)
    (ap (λ (ws : List meant.Group). picks ws (range_with_len (a + 1) (length vs))) (sym (append_assoc front (v ∷ []) vs)) ∙ picks_all (front ++ v ∷ []) vs (a + 1) longer)

pub picked_all : (gs : List Group) → picked gs (range_with_len 0 (length gs)) ≡ map group_view gs
picked_all gs = ap (λ n. picks (map group_view gs) (range_with_len 0 n)) (sym (length-map gs group_view)) ∙ picks_all [] (map group_view gs) 0 refl

pub range_below : (m a n : ℕ) → a + n ≤ m → list_all (λ i. nat_lt i m) (range_with_len a n) ≡ true
range_below m a zero h = refl
range_below m a (suc n) h = ap₂ (λ b c. b && c) (lt-ltb a m (omega (arith, h))) (range_below m (a + 1) n (omega (arith, h)))

pub merged_are_ascending : (gs hs ms : List meant.Group) → AreAscending hs → ms ≡ merge_groups gs hs → AreAscending ms
merged_are_ascending gs hs ms a e = ap (λ (ks : List meant.Group). ascends (map (λ (g : meant.Group). g.keys) ks)) e ∙ ascending_ascends (merge_groups gs hs) (merged_ascends gs hs (ascending_groups hs a))

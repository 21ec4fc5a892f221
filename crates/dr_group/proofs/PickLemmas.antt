-- Groups by their numbers.
use Rattle.std.specs.Prelude.{◌≡◌, ◌≢◌, ◌<◌, ℕ, zero, suc, List, [], ◌∷◌, map, length, get_or, true, nat_lt}
use Rattle.std.specs.List.{list_all}
use Rattle.std.specs.declared.cmp.Ordering.TheVariants.{Less, Equal}
use Rattle.std.proofs.Common.{refl, sym, ap, ap₂, ◌∙◌, arith}
use Rattle.std.proofs.Math.ListN.{set}
use Rattle.std.proofs.lemmas.Cmp.{tied_itself}
use Rattle.std.proofs.lemmas.List.{get_or-set_other}
use Rattle.std.proofs.lemmas.Bool.{and_parts, ltb-true}
use Rattle.dr_meaning.specs.Query.{tuple_order}
use Rattle.dr_partials.specs.Partials.{Group}
use Rattle.dr_partials.proofs.ValueOrders.{tuple_order_total}
use Rattle.dr_partials.proofs.GroupLemmas.{Tuple, AllAbove}
use Rattle.dr_group.specs.Groups.{no_group}

abbrev pub picks : List Group → List ℕ → List Group
picks vs is = map (λ i. get_or vs i no_group) is

pub below_length : (n : ℕ) (is : List ℕ) (p : ℕ) → list_all (λ i. nat_lt i n) is ≡ true → p < length is → get_or is p 0 < n
below_length n [] p a h = absurd (omega (arith, h))
below_length n (i ∷ is) zero a h = ltb-true i n (and_parts (nat_lt i n) (list_all (λ i. nat_lt i n) is) a).0
below_length n (i ∷ is) (suc p) a h = below_length n is p (and_parts (nat_lt i n) (list_all (λ i. nat_lt i n) is) a).1 (omega (arith, h))

less_equal : Less ≡ Equal → ⊥
less_equal h = cc

not_less : (t : Tuple) → tuple_order t t ≡ Less → ⊥
not_less t h = less_equal (sym h ∙ tied_itself tuple_order_total t)

apart_by : (vs : List Group) (n i : ℕ) → tuple_order (get_or vs n no_group).keys (get_or vs i no_group).keys ≡ Less → n ≢ i
apart_by vs n i h e = not_less (get_or vs n no_group).keys (ap (λ j. tuple_order (get_or vs n no_group).keys (get_or vs j no_group).keys) e ∙ h)

pub picks_past : (vs : List Group) (is : List ℕ) (n : ℕ) (v : Group) → n < length vs → AllAbove (get_or vs n no_group).keys (picks vs is) → picks (set vs n v) is ≡ picks vs is
picks_past vs [] n v h a = refl
picks_past vs (i ∷ is) n v h a =
    ap₂ (λ (g : Group) (gs : List Group). g ∷ gs) (get_or-set_other vs n i v no_group (λ e. apart_by vs n i a.0 (sym e))) (picks_past vs is n v h a.1)

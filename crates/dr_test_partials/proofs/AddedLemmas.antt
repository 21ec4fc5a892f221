-- Pieces of five tablets, which are added to a tree in some order.
use Rattle.std.proofs.Common.{◌≡◌, ◌<◌, ◌≤◌, ◌*◌, ◌^◌, ℕ, zero, suc, ◌+◌, List, [], ◌∷◌, map, length, Bool, true, false, true≢false, ◌||◌, Option, None, Some, refl, sym, ap, ap₂, ◌∙◌, subst, arith}
use Rattle.std.specs.Prelude.{⊤, IfSome, replicate, slice_index_or, slice_set}
use Rattle.std.specs.List.{range_with_len}
use Rattle.std.proofs.lemmas.Bool.{eq-eqb, ne_eqb}
use Rattle.std.proofs.lemmas.List.{length-map}
use Rattle.dr_meaning.specs.Schema.{Fields}
use Rattle.dr_meaning.specs.Query.{Query}
use Rattle.dr_partials.specs.Partials.{Partial}
use Rattle.dr_partials.specs.PartialBounds.{PartialCanBeOf}
use Rattle.dr_partials.specs.PartialTypes.{is_partial}
use Rattle.dr_partials.specs.Rewriting.{leaf_query}
use Rattle.dr_partials.specs.Trees.{Tree, tablets_of}
use Rattle.dr_partials.proofs.RewritingLemmas.{leaf_has_same_partials}
use Rattle.dr_plan.specs.Planned.{Planned, planned, planned_query}
use Rattle.dr_group.specs.Partials.{partial_view, IsPartialOf}
use Rattle.dr_group.specs.declared.partial.Partial as coded
use Rattle.dr_reading.specs.Truth.{most_values}
use Rattle.dr_tree.specs.Grows.{CanAdd, Growth, Grows, not_grown, with_added}
use Rattle.dr_tree.specs.Places.{Place, added, fill, filled, free_places, has_free, is_free, is_free_for}
use Rattle.dr_tree.specs.Together.{CanBeTogether}
use Rattle.dr_tree.specs.declared.growing.Growing.{Growing}
use Rattle.dr_tree.proofs.PlaceLemmas.{fill_here, fill_there}

-- ---- the pieces by their tablets

abbrev pub has_some : Option Partial → Bool
has_some None = false
has_some (Some p) = true

abbrev pub place_at : ℕ → Option Partial → Place
place_at t o = record { tablet = t; piece = o }

-- the places of tablets, the first of which has the number t
abbrev pub places_from : ℕ → List (Option Partial) → List Place
places_from t [] = []
places_from t (o ∷ os) = place_at t o ∷ places_from (suc t) os

-- each piece is small enough for those of all tablets to be merged
abbrev pub AreSmall : List (Option Partial) → Type 0
AreSmall [] = ⊤
AreSmall (o ∷ os) = IfSome o (PartialCanBeOf most_values) × AreSmall os

abbrev pub growth_by : Planned → Fields → Tree → List (Option Partial) → Growth
growth_by plan fs tree os = record { plan = plan; fields = fs; tree = tree; places = places_from 0 os }

-- this has grown of pieces of five tablets, and just these have one
pub record HasGrown (plan : Planned) (fs : Fields) (tree : Tree) (has_piece : List Bool) (g : Growing) : Type 0 where
  pub pieces : List (Option Partial)
  pub count : length pieces ≡ 5
  pub there : has_piece ≡ map has_some pieces
  pub small : AreSmall pieces
  pub grows : Grows (growth_by plan fs tree pieces) g

pub flags_length : (plan : Planned) (fs : Fields) (tree : Tree) (bs : List Bool) (g : Growing) → HasGrown plan fs tree bs g → length bs ≡ 5
flags_length plan fs tree bs g h = ap length h.there ∙ (length-map h.pieces has_some ∙ h.count)

-- ---- one is set

set_length : (os : List (Option Partial)) (i : ℕ) (o : Option Partial) → length (slice_set os i o) ≡ length os
set_length [] i o = refl
set_length (x ∷ os) zero o = refl
set_length (x ∷ os) (suc i) o = ap suc (set_length os i o)

set_there : (os : List (Option Partial)) (i : ℕ) (p : Partial) → map has_some (slice_set os i (Some p)) ≡ slice_set (map has_some os) i true
set_there [] i p = refl
set_there (o ∷ os) zero p = refl
set_there (o ∷ os) (suc i) p = ap (λ bs. has_some o ∷ bs) (set_there os i p)

set_small : (os : List (Option Partial)) (i : ℕ) (p : Partial) → AreSmall os → PartialCanBeOf most_values p → AreSmall (slice_set os i (Some p))
set_small [] i p h small = tt
set_small (o ∷ os) zero p h small = (small, h.1)
set_small (o ∷ os) (suc i) p h small = (h.0, set_small os i p h.1 small)

-- ---- a tablet without a piece

no_piece : (o : Option Partial) → has_some o ≡ false → o ≡ None
no_piece None h = refl
no_piece (Some p) h = absurd (true≢false h)

free_not : (o : Option Partial) → is_free false o ≡ false
free_not None = refl
free_not (Some r) = refl

not_here : (t n : ℕ) (o : Option Partial) → (t ≡ n → ⊥) → is_free_for n (place_at t o) ≡ false
not_here t n o h = ap (λ (b : Bool). is_free b o) (ne_eqb t n h) ∙ free_not o

here : (t n : ℕ) (o : Option Partial) → t ≡ n → o ≡ None → is_free_for n (place_at t o) ≡ true
here t n o e f = ap₂ (λ (b : Bool) (x : Option Partial). is_free b x) (eq-eqb t n e) f

is_free_there : (t i n : ℕ) (os : List (Option Partial)) → t + i ≡ n → i < length os → slice_index_or (map has_some os) i false ≡ false → has_free n (places_from t os) ≡ true
is_free_there t i n [] e l h = absurd (omega (arith, l))
is_free_there t zero n (o ∷ os) e l h = ap (λ (b : Bool). b || has_free n (places_from (suc t) os)) (here t n o (omega (arith, e)) (no_piece o h))
is_free_there t (suc i) n (o ∷ os) e l h =
    ap₂ (λ (a b : Bool). a || b) (not_here t n o (λ (q : t ≡ n). omega (arith, e, q))) (is_free_there (suc t) i n os (omega (arith, e)) (omega (arith, l)) h)

fill_there_is : (t i n : ℕ) (os : List (Option Partial)) (p : Partial) → t + i ≡ n → i < length os → slice_index_or (map has_some os) i false ≡ false → fill n p (places_from t os) ≡ places_from t (slice_set os i (Some p))
fill_there_is t i n [] p e l h = absurd (omega (arith, l))
fill_there_is t zero n (o ∷ os) p e l h =
    let same : t ≡ n = omega (arith, e) in
    fill_here n p (place_at t o) (places_from (suc t) os) (here t n o same (no_piece o h))
    ∙ ap (λ (m : ℕ). filled m p ∷ places_from (suc t) os) (sym same)
fill_there_is t (suc i) n (o ∷ os) p e l h =
    fill_there n p (place_at t o) (places_from (suc t) os) (not_here t n o (λ (q : t ≡ n). omega (arith, e, q)))
    ∙ ap (λ ps. place_at t o ∷ ps) (fill_there_is (suc t) i n os p (omega (arith, e)) (omega (arith, l)) h)

-- ---- what can be merged together

together_more : (m n : ℕ) (xs : List Partial) → m ≤ n → CanBeTogether m xs → CanBeTogether n xs
together_more m n [] l h = tt
together_more m n (x ∷ xs) l h = let k = h.2 in (h.0, h.1, omega (arith, l, k), h.3, h.4)

small_together : (t : ℕ) (os : List (Option Partial)) → AreSmall os → CanBeTogether (length os * most_values) (added (places_from t os))
small_together t [] h = tt
small_together t (None ∷ os) h = together_more (length os * most_values) (suc (length os) * most_values) (added (places_from (suc t) os)) (omega arith) (small_together (suc t) os h.1)
small_together t (Some p ∷ os) h = (most_values, length os * most_values, omega arith, h.0, small_together (suc t) os h.1)

-- ---- a scan's partial

planned_partial : (fs : Fields) (q : Query) (p : Partial) → is_partial fs (planned_query (planned fs q)) p ≡ is_partial fs q p
unfolding is_partial
planned_partial fs q p = refl

pub partial_of_plan : (fs : Fields) (q : Query) (plan : Planned) (p : Partial) → plan ≡ planned fs q → is_partial fs (leaf_query q) p ≡ true → is_partial fs (planned_query plan) p ≡ true
partial_of_plan fs q plan p e h = ap (λ (x : Planned). is_partial fs (planned_query x) p) e ∙ (planned_partial fs q p ∙ (sym (leaf_has_same_partials fs q p) ∙ h))

-- ---- the tree

module _ (plan : Planned) (fs : Fields) (tree : Tree) where
  pub nothing_has_grown : (g : Growing) (bs : List Bool) → tablets_of tree ≡ range_with_len 0 5 → bs ≡ replicate 5 false → Grows (not_grown plan fs tree) g → HasGrown plan fs tree bs g
  nothing_has_grown g bs has e h = record {
    pieces = replicate 5 None;
    count = refl;
    there = e;
    small = (tt, (tt, (tt, (tt, (tt, tt)))));
    grows = subst (λ (ps : List Place). Grows (record { plan = plan; fields = fs; tree = tree; places = ps }) g) (ap free_places has) h;
  }

  module _ (bs : List Bool) (g : Growing) (h : HasGrown plan fs tree bs g) (i : ℕ) (within : i < 5) (free : slice_index_or bs i false ≡ false) where
    in_pieces : i < length h.pieces
    in_pieces = let e = h.count in omega (arith, within, e)

    no_piece_there : slice_index_or (map has_some h.pieces) i false ≡ false
    no_piece_there = ap (λ (cs : List Bool). slice_index_or cs i false) (sym h.there) ∙ free

    pub can_add : (p : coded.Partial) → IsPartialOf plan p → is_partial fs (planned_query plan) (partial_view p) ≡ true → PartialCanBeOf most_values (partial_view p)
        → CanAdd (growth_by plan fs tree h.pieces) i p
    can_add p of_plan partial small =
        let now : List (Option Partial) = slice_set h.pieces i (Some (partial_view p)) in
        let many : length now ≡ 5 = set_length h.pieces i (Some (partial_view p)) ∙ h.count in record {
          free = is_free_there 0 i i h.pieces (omega arith) in_pieces no_piece_there;
          of_plan = of_plan;
          partial = partial;
          room = subst (λ (ps : List Place). CanBeTogether (2 ^ 60) (added ps)) (sym (fill_there_is 0 i i h.pieces (partial_view p) (omega arith) in_pieces no_piece_there))
              (together_more (length now * most_values) (2 ^ 60) (added (places_from 0 now)) (omega (arith, many)) (small_together 0 now (set_small h.pieces i (partial_view p) h.small small)));
        }

    pub one_more : (now : Growing) (p : Partial) → PartialCanBeOf most_values p → Grows (with_added (growth_by plan fs tree h.pieces) i p) now → HasGrown plan fs tree (slice_set bs i true) now
    one_more now p small k = record {
      pieces = slice_set h.pieces i (Some p);
      count = set_length h.pieces i (Some p) ∙ h.count;
      there = ap (λ (cs : List Bool). slice_set cs i true) h.there ∙ sym (set_there h.pieces i p);
      small = set_small h.pieces i p h.small small;
      grows = subst (λ (ps : List Place). Grows (record { plan = plan; fields = fs; tree = tree; places = ps }) now)
          (fill_there_is 0 i i h.pieces p (omega arith) in_pieces no_piece_there) k;
    }

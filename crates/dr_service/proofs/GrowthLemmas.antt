-- A tree that grows of the partials of tablets, one after another.
use Rattle.std.proofs.Common.{◌≡◌, ◌≤◌, ◌<◌, ℕ, suc, ◌+◌, ◌-◌, ◌*◌, ◌^◌, List, [], ◌∷◌, ◌++◌, take, length, Bool, true, ◌||◌, None, refl, sym, ap, ◌∙◌, subst, arith}
use Rattle.std.specs.List.{range_with_len}
use Rattle.std.proofs.lemmas.Bool.{eq-eqb}
use Rattle.std.proofs.lemmas.List.{length-take-le}
use Rattle.dr_meaning.specs.Schema.{Schema, Fields}
use Rattle.dr_meaning.specs.Query.{Query}
use Rattle.dr_partials.specs.Partials.{Partial}
use Rattle.dr_partials.specs.PartialTypes.{is_partial}
use Rattle.dr_partials.specs.Trees.{Tree, tablets_of}
use Rattle.dr_partials.proofs.RewritingLemmas.{leaf_has_same_partials}
use Rattle.dr_plan.specs.Planned.{Planned, planned, planned_query, plan_view}
use Rattle.dr_plan.specs.PlanOf.{IsPlanOf}
use Rattle.dr_plan.specs.declared.plan.Plan.{Plan}
use Rattle.dr_reading.specs.Truth.{most_values}
use Rattle.dr_group.specs.Partials.{IsPartialOf, partial_view}
use Rattle.dr_group.specs.declared.partial.Partial.{Partial as Gathered}
use Rattle.dr_tree.specs.Grows.{Growth, Grows, CanAdd, not_grown, with_added}
use Rattle.dr_tree.specs.Places.{Place, free_places, has_free, fill, filled, added, pieces_at}
use Rattle.dr_tree.specs.Together.{CanBeTogether}
use Rattle.dr_tree.specs.declared.growing.Growing.{Growing}
use Rattle.dr_tree.proofs.PlaceLemmas.{fill_here, none_added}
use Rattle.dr_service.specs.Tablets.{most_tablets}
use Rattle.dr_service.specs.Answering.{IsScanned, AreScanned, places_with, growth_with, HasGrownOf}
use Rattle.dr_service.proofs.AnswerLemmas.{scanned_more, as_many, all_bounded, length_one}

-- ---- places

next_free : (t : ℕ) (ps : List Partial) (n more : ℕ) → t + length ps ≡ n → has_free n (places_with t ps ++ free_places (range_with_len n (suc more))) ≡ true
next_free t [] n more e = ap (λ (b : Bool). b || has_free n (free_places (range_with_len (n + 1) more))) (eq-eqb n n refl)
next_free t (p ∷ ps) n more e = next_free (suc t) ps n more (omega (arith, e))

next_filled : (t : ℕ) (ps : List Partial) (r : Partial) (n more : ℕ) → t + length ps ≡ n
    → fill n r (places_with t ps ++ free_places (range_with_len n (suc more))) ≡ places_with t (ps ++ r ∷ []) ++ free_places (range_with_len (n + 1) more)
next_filled t [] r n more e =
    let same : n ≡ t = omega (arith, e) in
    fill_here n r (record { tablet = n; piece = None }) (free_places (range_with_len (n + 1) more)) (eq-eqb n n refl)
    ∙ ap (λ (m : ℕ). filled m r ∷ free_places (range_with_len (n + 1) more)) same
next_filled t (p ∷ ps) r n more e = ap (λ (qs : List Place). filled t p ∷ qs) (next_filled (suc t) ps r n more (omega (arith, e)))

added_are : (t : ℕ) (ps : List Partial) (ns : List ℕ) → added (places_with t ps ++ free_places ns) ≡ ps
added_are t [] ns = none_added ns
added_are t (p ∷ ps) ns = ap (λ (qs : List Partial). p ∷ qs) (added_are (suc t) ps ns)

-- of all places
pub pieces_are : (q : Query) (t : ℕ) (ps : List Partial) → pieces_at q (places_with t ps ++ []) ≡ ps
pieces_are q t [] = refl
pieces_are q t (p ∷ ps) = ap (λ (qs : List Partial). p ∷ qs) (pieces_are q (suc t) ps)

-- ---- partials

planned_partial : (fs : Fields) (q : Query) (p : Partial) → is_partial fs (planned_query (planned fs q)) p ≡ is_partial fs q p
unfolding is_partial
planned_partial fs q p = refl

together_more : (m n : ℕ) (ps : List Partial) → m ≤ n → CanBeTogether m ps → CanBeTogether n ps
together_more m n [] l h = tt
together_more m n (p ∷ ps) l h = let k = h.2 in (h.0, h.1, omega (arith, l, k), h.3, h.4)

module _ (s : Schema) (q : Query) (plan : Plan) (tree : Tree) (is : IsPlanOf s q plan) where
  -- before any
  pub grown_of_none : (g : Growing) (n : ℕ) → tablets_of tree ≡ range_with_len 0 n → Grows (not_grown (plan_view plan) s.fields tree) g → HasGrownOf s q plan tree [] n g
  grown_of_none g n e h = record {
    partials = [];
    scanned = tt;
    grows = subst (λ (ns : List ℕ). Grows (record { plan = plan_view plan; fields = s.fields; tree = tree; places = free_places ns }) g) e h;
  }

  module _ (ts : List (List ℕ)) (t : List ℕ) (r : Gathered) (more : ℕ) (g : Growing) (h : HasGrownOf s q plan tree ts (suc more) g) (scanned : IsScanned s q t (partial_view r)) where
    abbrev before : Growth
    before = growth_with (plan_view plan) s tree h.partials (suc more)

    count : length h.partials ≡ length ts
    count = as_many s q ts h.partials h.scanned

    filled_next : fill (length ts) (partial_view r) before.places ≡ places_with 0 (h.partials ++ partial_view r ∷ []) ++ free_places (range_with_len (length (h.partials ++ partial_view r ∷ [])) more)
    filled_next =
        ap (λ (n : ℕ). fill n (partial_view r) before.places) (sym count) ∙ next_filled 0 h.partials (partial_view r) (length h.partials) more (omega arith)
        ∙ ap (λ (n : ℕ). places_with 0 (h.partials ++ partial_view r ∷ []) ++ free_places (range_with_len n more)) (sym (length_one h.partials (partial_view r)))

    all_scanned : AreScanned s q (ts ++ t ∷ []) (h.partials ++ partial_view r ∷ [])
    all_scanned = scanned_more s q ts h.partials t (partial_view r) h.scanned scanned

    -- the next tablet's can be added
    pub can_add : length ts < most_tablets → IsPartialOf (plan_view plan) r → CanAdd before (length ts) r
    can_add few of_plan =
        let one = length_one ts t in
        record {
          free = subst (λ (n : ℕ). has_free n before.places ≡ true) count (next_free 0 h.partials (length h.partials) more (omega arith));
          of_plan = of_plan;
          partial = ap (λ (x : Planned). is_partial s.fields (planned_query x) (partial_view r)) is.2
              ∙ (planned_partial s.fields q (partial_view r) ∙ (sym (leaf_has_same_partials s.fields q (partial_view r)) ∙ scanned.partial));
          room = subst (CanBeTogether (2 ^ 60)) (sym (ap added filled_next ∙ added_are 0 (h.partials ++ partial_view r ∷ []) (range_with_len (length (h.partials ++ partial_view r ∷ [])) more)))
              (together_more (length (ts ++ t ∷ []) * most_values) (2 ^ 60) (h.partials ++ partial_view r ∷ []) (omega (arith, few, one))
              (all_bounded s q (ts ++ t ∷ []) (h.partials ++ partial_view r ∷ []) all_scanned));
        }

    -- and has grown then
    pub grown_more : (now : Growing) → Grows (with_added before (length ts) (partial_view r)) now → HasGrownOf s q plan tree (ts ++ t ∷ []) more now
    grown_more now k = record {
      partials = h.partials ++ partial_view r ∷ [];
      scanned = all_scanned;
      grows = subst (λ (ps : List Place). Grows (record { plan = plan_view plan; fields = s.fields; tree = tree; places = ps }) now) filled_next k;
    }

  -- ---- in a list of tablets, at this one

  module _ (all : List (List ℕ)) (i : ℕ) (t : List ℕ) (r : Gathered) (g : Growing) (within : i < length all) (here : HasGrownOf s q plan tree (take i all) (length all - i) g) (scanned : IsScanned s q t (partial_view r)) where
    abbrev others : ℕ
    others = length all - (i + 1)

    one_more : length all - i ≡ suc others
    one_more = omega (arith, within)

    with_one : HasGrownOf s q plan tree (take i all) (suc others) g
    with_one = subst (λ (n : ℕ). HasGrownOf s q plan tree (take i all) n g) one_more here

    as_many_taken : length (take i all) ≡ i
    as_many_taken = length-take-le i all (omega (arith, within))

    abbrev here_now : Growth
    here_now = growth_with (plan_view plan) s tree with_one.partials (suc others)

    can_add_here : length all ≤ most_tablets → IsPartialOf (plan_view plan) r → CanAdd here_now i r
    can_add_here few of_plan = subst (λ (n : ℕ). CanAdd here_now n r) as_many_taken
        (can_add (take i all) t r others g with_one scanned (omega (arith, within, few, as_many_taken)) of_plan)

    pub can_add_next : length all ≤ most_tablets → IsPartialOf (plan_view plan) r → (w : Growth) × Grows w g × CanAdd w i r
    can_add_next few of_plan = (here_now, with_one.grows, can_add_here few of_plan)

    pub grown_next : (now : Growing) → length all ≤ most_tablets → IsPartialOf (plan_view plan) r → take (i + 1) all ≡ take i all ++ t ∷ []
        → ((w : Growth) → Grows w g → CanAdd w i r → Grows (with_added w i (partial_view r)) now) → HasGrownOf s q plan tree (take (i + 1) all) others now
    grown_next now few of_plan more adds = subst (λ (ts : List (List ℕ)). HasGrownOf s q plan tree ts others now) (sym more)
        (grown_more (take i all) t r others g with_one scanned now
        (subst (λ (n : ℕ). Grows (with_added here_now n (partial_view r)) now) (sym as_many_taken) (adds here_now with_one.grows (can_add_here few of_plan))))

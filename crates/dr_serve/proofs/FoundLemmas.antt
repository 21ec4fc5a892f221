-- Pieces that are added to the tree, each true of its tablet.
use Rattle.std.proofs.Common.{◌≡◌, ◌<◌, ◌≤◌, ◌*◌, ◌^◌, ℕ, suc, List, [], ◌∷◌, length, Option, None, Some, Bool, true, refl, sym, ap, ◌∙◌, subst, arith}
use Rattle.std.specs.Prelude.{false, replicate, slice_index_or, slice_set}
use Rattle.std.specs.List.{range_with_len}
use Rattle.std.proofs.lemmas.List.{length-map}
use Rattle.dr_meaning.specs.Schema.{Fields}
use Rattle.dr_meaning.specs.Query.{Query}
use Rattle.dr_formats.specs.TableFile.{Table}
use Rattle.dr_outside.specs.Link.{Files}
use Rattle.dr_group.specs.Partials.{partial_view}
use Rattle.dr_group.specs.declared.partial.Partial.{Partial}
use Rattle.dr_partials.specs.Partials as meant
use Rattle.dr_partials.specs.PartialTypes.{is_partial}
use Rattle.dr_partials.specs.Trees.{Tree, tablets_of}
use Rattle.dr_partials.proofs.RewritingLemmas.{leaf_has_same_partials}
use Rattle.dr_plan.specs.Planned.{Planned, IsOfSchema, planned, planned_query, plan_view}
use Rattle.dr_plan.specs.declared.plan.Plan.{Plan}
use Rattle.dr_reading.specs.Truth.{most_values}
use Rattle.dr_tree.specs.Grows.{CanAdd, Grows, not_grown, with_added}
use Rattle.dr_tree.specs.Places.{Place, added, free_places}
use Rattle.dr_tree.specs.Together.{CanBeTogether}
use Rattle.dr_tree.specs.declared.growing.Growing.{Growing}
use Rattle.dr_serve.specs.declared.found.Found.{Found}
use Rattle.dr_serve.specs.Working.{found, IsPieceFound}
use Rattle.dr_serve.specs.Rounds.{OfEachFrom}
use Rattle.dr_serve.specs.Closing.{IsTruePlace, AreAddable, HasAnswered, HasFound, has_some, place_of, places_from, growth_by}
use Rattle.dr_serve.specs.GrowsOn.{GrowsOn}
use Rattle.dr_serve.proofs.PlaceLemmas.{each_set, set_length, none_true, replicate_length, free_range, fill_place, place_is_free, no_piece_at, no_pieces, set_has_piece}

-- ---- a piece can be merged

planned_partial : (fs : Fields) (q : Query) (p : meant.Partial) → is_partial fs (planned_query (planned fs q)) p ≡ is_partial fs q p
unfolding is_partial
planned_partial fs q p = refl

pub pieces_are_addable : (t : Table) (plan : Plan) (links : List (Option Files)) → IsOfSchema t.schema plan → AreAddable t plan (IsPieceFound t plan links)
pieces_are_addable t plan links from tablet f h =
    let q : Query = from.1 in
    let truth = h.truth q (from.0, from.2, from.3) in record {
      of_plan = h.of_plan;
      partial = ap (λ (x : Planned). is_partial t.schema.fields (planned_query x) (partial_view f.partial)) from.3
          ∙ (planned_partial t.schema.fields q (partial_view f.partial) ∙ (sym (leaf_has_same_partials t.schema.fields q (partial_view f.partial)) ∙ truth.partial));
      bounded = truth.bounded;
    }

-- ---- what can be merged together

together_more : (m n : ℕ) (xs : List meant.Partial) → m ≤ n → CanBeTogether m xs → CanBeTogether n xs
together_more m n [] l h = tt
together_more m n (x ∷ xs) l h = let k = h.2 in (h.0, h.1, omega (arith, l, k), h.3, h.4)

module _ (t : Table) (plan : Plan) (tree : Tree) (is_true : ℕ → Found → Type 0) where
  each_bounded : AreAddable t plan is_true → (i : ℕ) (os : List (Option Partial)) → OfEachFrom (IsTruePlace is_true) i os → CanBeTogether (length os * most_values) (added (places_from i os))
  each_bounded addable i [] h = tt
  each_bounded addable i (None ∷ os) h = together_more (length os * most_values) (suc (length os) * most_values) (added (places_from (suc i) os)) (omega arith) (each_bounded addable (suc i) os h.1)
  each_bounded addable i (Some p ∷ os) h = (most_values, length os * most_values, omega arith, (addable i (found i p) h.0).bounded, each_bounded addable (suc i) os h.1)

  -- ---- nothing has grown

  pub none_found : (g : Growing) → tablets_of tree ≡ range_with_len 0 t.tablets → Grows (not_grown (plan_view plan) t.schema.fields tree) g → HasFound t plan tree is_true (replicate t.tablets None) g
  none_found g has h = record {
    count = replicate_length t.tablets None;
    truths = none_true is_true 0 t.tablets;
    grows = subst (λ (ps : List Place). Grows (record { plan = plan_view plan; fields = t.schema.fields; tree = tree; places = ps }) g) (ap free_places has ∙ free_range 0 t.tablets) h;
  }

  -- ---- one more is added

  module _ (places : List (Option Partial)) (g : Growing) (i : ℕ) (p : Partial) (h : HasFound t plan tree is_true places g) (within : i < length places) (free : place_of places i ≡ None) (truth : is_true i (found i p)) where
    now_true : OfEachFrom (IsTruePlace is_true) 0 (slice_set places i (Some p))
    now_true = each_set (IsTruePlace is_true) 0 i i places (Some p) h.truths (omega arith) truth

    pub can_add : AreAddable t plan is_true → t.tablets ≤ 4096 → CanAdd (growth_by t plan tree places) i p
    can_add addable few =
        let mine = addable i (found i p) truth in
        let now : List (Option Partial) = slice_set places i (Some p) in
        let many : length now ≡ t.tablets = set_length places i (Some p) ∙ h.count in record {
          free = place_is_free 0 i i places (omega arith) within free;
          of_plan = mine.of_plan;
          partial = mine.partial;
          room = subst (λ (ps : List Place). CanBeTogether (2 ^ 60) (added ps)) (sym (fill_place 0 i i places p (omega arith) within free))
              (together_more (length now * most_values) (2 ^ 60) (added (places_from 0 now)) (omega (arith, many, few)) (each_bounded addable 0 now now_true));
        }

    pub found_more : (new : Growing) → Grows (with_added (growth_by t plan tree places) i (partial_view p)) new → HasFound t plan tree is_true (slice_set places i (Some p)) new
    found_more new k = record {
      count = set_length places i (Some p) ∙ h.count;
      truths = now_true;
      grows = subst (λ (ps : List Place). Grows (record { plan = plan_view plan; fields = t.schema.fields; tree = tree; places = ps }) new) (fill_place 0 i i places p (omega arith) within free) k;
    }

  -- ---- it grows on

  pub none_answered : (g : Growing) (bs : List Bool) → tablets_of tree ≡ range_with_len 0 t.tablets → bs ≡ replicate t.tablets false → Grows (not_grown (plan_view plan) t.schema.fields tree) g → HasAnswered t plan tree is_true g bs
  none_answered g bs has e h = (replicate t.tablets None, none_found g has h, e ∙ sym (no_pieces t.tablets))

  module _ (few : t.tablets ≤ 4096) (addable : AreAddable t plan is_true) (of_table : (i : ℕ) (f : Found) → is_true i f → i < t.tablets) where
    free_there : (g : Growing) (bs : List Bool) (f : Found) (h : HasAnswered t plan tree is_true g bs) → is_true f.tablet f → slice_index_or bs f.tablet false ≡ false → (f.tablet < length h.0) × (place_of h.0 f.tablet ≡ None)
    free_there g bs f h truth none =
        let small = of_table f.tablet f truth in
        let many = h.1.count in
        let within : f.tablet < length h.0 = omega (arith, small, many) in
        (within, no_piece_at h.0 f.tablet within (ap (λ (cs : List Bool). slice_index_or cs f.tablet false) (sym h.2) ∙ none))

    pub it_grows_on : GrowsOn is_true (HasAnswered t plan tree is_true)
    it_grows_on = record {
      within = λ g bs f h truth. let small = of_table f.tablet f truth in let many = h.1.count in omega (arith, small, many, ap length h.2, length-map h.0 has_some);
      can_add = λ g bs f h truth none.
          let free = free_there g bs f h truth none in
          (growth_by t plan tree h.0, h.1.grows, can_add h.0 g f.tablet f.partial h.1 free.0 free.1 truth addable few);
      added = λ g now bs f h truth none grows.
          let free = free_there g bs f h truth none in
          let can = can_add h.0 g f.tablet f.partial h.1 free.0 free.1 truth addable few in (
            slice_set h.0 f.tablet (Some f.partial),
            found_more h.0 g f.tablet f.partial h.1 free.0 free.1 truth now (grows (growth_by t plan tree h.0) h.1.grows can),
            ap (λ (cs : List Bool). slice_set cs f.tablet true) h.2 ∙ sym (set_has_piece h.0 f.tablet f.partial),
          );
      refused = λ g now bs h same. (h.0, record { count = h.1.count; truths = h.1.truths; grows = same (growth_by t plan tree h.0) h.1.grows }, h.2);
    }

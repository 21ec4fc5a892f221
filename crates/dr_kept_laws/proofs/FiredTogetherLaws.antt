-- What the readings of a group query make over the moves of records is what they mean in the rows of what is kept.
use Rattle.std.proofs.Common.{◌≡◌, ℕ, List, [], ◌∷◌, ◌++◌, Bool, true, false, Option, None, Some, refl, sym, ap, ap₂, subst, ◌∙◌, append-nil}
use Rattle.std.specs.Prelude.{map, not, ◌||◌, ◌==◌, if◌then◌else◌, is_some, IsPermutation}
use Rattle.std.specs.List.{list_all, flat_map, filter_map}
use Rattle.dr_meaning.specs.Schema.{Fields}
use Rattle.dr_meaning.specs.Path.{Step, chain_end, is_leaf_path}
use Rattle.dr_meaning.specs.Record.{Node, is_record}
use Rattle.dr_meaning.specs.Rows.{rows}
use Rattle.dr_meaning.specs.Kept.{kept_along}
use Rattle.dr_meaning.specs.Walk.{record_moves, walk}
use Rattle.dr_kept_laws.specs.RowsOfKept.{rows_left}
use Rattle.dr_kept_laws.specs.GroupFlow.{left_alone, left_with, Reading, fired_if, all_fired, left_if, all_left}
use Rattle.dr_kept_laws.specs.TellingLaws.{StandsFor}
use Rattle.dr_kept_laws.specs.GroupFlowLaws.{MeansAt, AllMean, all_means, FiredTogether, AllFiredTogether}
use Rattle.dr_kept_laws.proofs.RecordTours.{record_tour, nothing_seen}
use Rattle.dr_kept_laws.proofs.FiredTogether.{one_flow, flows_of_each}
use Rattle.dr_kept_laws.proofs.GroupFlowLaws.{Firing, record_firing, whole_firing, walk_firing, firing_of, all_some}
use Rattle.dr_moves.specs.Context.{Context}
use Rattle.dr_moves.specs.Tour.{over, inside, after}
use Rattle.dr_moves.specs.Condition.{Watch, some_true}
use Rattle.dr_moves.specs.Cutting.{flow}
use Rattle.dr_moves.proofs.TourLemmas.{true_row_keeps}

module _ (X : Type 0) where
  either_same : (b : Bool) (xs : List X) → (if b then xs ++ [] else xs) ≡ xs
  either_same true xs = append-nil xs
  either_same false xs = refl

  -- nothing is added behind a record
  nothing_more : left_alone {X = X} ≡ left_with (λ c. [])
  nothing_more = λ j k c made. sym (either_same (k == 0) made) j

  -- a reading without a leaf, in a record
  at_record : (fs : Fields) (F : List (List Step)) (w : Watch) (q : List Step) (K : List ℕ) (condition : Node → Bool) → StandsFor fs F w q K condition
      → (f : Context → X) (g : Node → X) → ((c : Context) (row : Node) → f c ≡ g row) → (n : Node) → is_record fs n ≡ true
      → Firing X (λ k c. []) (left_with (λ c. f c ∷ [])) w (Some (0 ∷ w.chain)) (record_moves fs F n) (map g (rows_left [] (kept_along (chain_end q) condition n)))
  at_record fs F w q K condition s f g e n z =
      let a = record_tour fs F n in
      record {
        tour = inside 0 a.within over;
        moves = a.moves;
        fires = λ c.
            ap (λ (made : List X). (if not (some_true w c a.within) then [] else made ++ f (after c a.within) ∷ []) ++ []) (nothing_seen X (λ c. f c ∷ []) w (Some w.chain) c a.within a.no_record)
            ∙ by_kept (some_true w c a.within) (kept_along (chain_end q) condition n) (after c a.within)
            (true_row_keeps fs F w q K n c condition (inside 0 a.within over) s.leaves s.last z s.together s.decides a.moves);
      }
    where
      by_kept : (b : Bool) (o : Option Node) (c : Context) → (b || false) ≡ is_some o → (if not b then [] else f c ∷ []) ++ [] ≡ map g (rows_left [] o)
      by_kept true None c h = absurd (cc)
      by_kept true (Some m) c h = ap (λ (x : X). x ∷ []) (e c m)
      by_kept false None c h = refl
      by_kept false (Some m) c h = absurd (cc)

  at_whole_record : (fs : Fields) (F : List (List Step)) (w : Watch) (f : Context → X) (g : Node → X) → ((c : Context) (row : Node) → f c ≡ g row) → (n : Node)
      → Firing X (λ k c. []) (left_with (λ c. f c ∷ [])) w None (record_moves fs F n) (map g (rows [] n))
  at_whole_record fs F w f g e n =
      let a = record_tour fs F n in
      record {
        tour = inside 0 a.within over;
        moves = a.moves;
        fires = λ c. ap (λ (made : List X). (made ++ f (after c a.within) ∷ []) ++ []) (nothing_seen X (λ c. f c ∷ []) w None c a.within a.no_record) ∙ ap (λ (x : X). x ∷ []) (e (after c a.within) n);
      }

  -- ---- any reading

  reading_firing : (fs : Fields) (F : List (List Step)) (w : Watch) (q : List Step) (K : List ℕ) (condition : Node → Bool) → StandsFor fs F w q K condition
      → (o : Option ℕ) (f : Context → X) (l : List Step) (g : Node → X) → MeansAt F o f l g → (n : Node) → is_record fs n ≡ true
      → Firing X (fired_if o f) (left_with (left_if o f)) w (Some (0 ∷ w.chain)) (record_moves fs F n) (map g (rows_left l (kept_along (chain_end q) condition n)))
  reading_firing fs F w q K condition s None f l g t n z =
      subst (λ (l : List Step). Firing X (λ k c. []) (left_with (λ c. f c ∷ [])) w (Some (0 ∷ w.chain)) (record_moves fs F n) (map g (rows_left l (kept_along (chain_end q) condition n)))) (sym t.0)
      (at_record fs F w q K condition s f g t.1 n z)
  reading_firing fs F w q K condition s (Some i) f l g t n z =
      subst (λ (left : ℕ → Context → List X → List X). Firing X (fired_if (Some i) f) left w (Some (0 ∷ w.chain)) (record_moves fs F n) (map g (rows_left l (kept_along (chain_end q) condition n)))) nothing_more
      (subst (λ (l : List Step). Firing X (fired_if (Some i) f) left_alone w (Some (0 ∷ w.chain)) (record_moves fs F n) (map g (rows_left l (kept_along (chain_end q) condition n)))) t.1
      (record_firing X fs F w q K condition s i t.0 f g t.2 n z))

  whole_reading : (fs : Fields) (F : List (List Step)) (w : Watch) → list_all (is_leaf_path fs) F ≡ true → (o : Option ℕ) (f : Context → X) (l : List Step) (g : Node → X) → MeansAt F o f l g → (n : Node) → is_record fs n ≡ true
      → Firing X (fired_if o f) (left_with (left_if o f)) w None (record_moves fs F n) (map g (rows l n))
  whole_reading fs F w h None f l g t n z =
      subst (λ (l : List Step). Firing X (λ k c. []) (left_with (λ c. f c ∷ [])) w None (record_moves fs F n) (map g (rows l n))) (sym t.0) (at_whole_record fs F w f g t.1 n)
  whole_reading fs F w h (Some i) f l g t n z =
      subst (λ (left : ℕ → Context → List X → List X). Firing X (fired_if (Some i) f) left w None (record_moves fs F n) (map g (rows l n))) nothing_more
      (subst (λ (l : List Step). Firing X (fired_if (Some i) f) left_alone w None (record_moves fs F n) (map g (rows l n))) t.1 (whole_firing X fs F w h i t.0 f g t.2 n z))

  -- ---- all of them

  pub fired_together : FiredTogether X
  fired_together fs F w q K condition s xs t R T c v m =
      subst (IsPermutation (flow (all_fired xs) (left_with (all_left xs)) w (Some (0 ∷ w.chain)) c T)) (each xs t) (flows_of_each xs w (Some (0 ∷ w.chain)) c T)
    where
      each : (xs : List (Reading X)) → AllMean F xs → flat_map (one_flow w (Some (0 ∷ w.chain)) c T) xs ≡ all_means xs (filter_map (kept_along (chain_end q) condition) R)
      each [] t = refl
      each (x ∷ xs) t = ap₂ (λ (a b : List X). a ++ b)
          (firing_of X (fired_if x.leaf x.fires) (left_with (left_if x.leaf x.fires)) w (Some (0 ∷ w.chain)) (walk fs F R) (map x.means (flat_map (rows x.level) (filter_map (kept_along (chain_end q) condition) R)))
          (walk_firing X (fired_if x.leaf x.fires) (left_with (left_if x.leaf x.fires)) w (Some (0 ∷ w.chain)) fs F x.level x.means (kept_along (chain_end q) condition)
          (λ n z. reading_firing fs F w q K condition s x.leaf x.fires x.level x.means t.0 n z) R v) T c m)
          (each xs t.1)

  pub all_fired_together : AllFiredTogether X
  all_fired_together fs F h xs t R T c w v m =
      subst (IsPermutation (flow (all_fired xs) (left_with (all_left xs)) w None c T)) (each xs t) (flows_of_each xs w None c T)
    where
      each : (xs : List (Reading X)) → AllMean F xs → flat_map (one_flow w None c T) xs ≡ all_means xs R
      each [] t = refl
      each (x ∷ xs) t = ap₂ (λ (a b : List X). a ++ b)
          (firing_of X (fired_if x.leaf x.fires) (left_with (left_if x.leaf x.fires)) w None (walk fs F R) (map x.means (flat_map (rows x.level) (filter_map (λ (n : Node). Some n) R)))
          (walk_firing X (fired_if x.leaf x.fires) (left_with (left_if x.leaf x.fires)) w None fs F x.level x.means (λ (n : Node). Some n) (λ n z. whole_reading fs F w h x.leaf x.fires x.level x.means t.0 n z) R v) T c m
          ∙ ap (λ (ns : List Node). map x.means (flat_map (rows x.level) ns)) (all_some R))
          (each xs t.1)

-- The repeated fields on a path, found from its front on.
use Rattle.std.specs.Prelude.{◌≡◌, ◌<◌, ◌≤◌, ℕ, ◌+◌, List, [], ◌∷◌, ◌++◌, length, map, take, drop, Bool, true, false, if◌then◌else◌}
use Rattle.std.proofs.Common.{refl, sym, ap, ap₂, ◌∙◌, add-one, append_assoc, get_or}
use Rattle.std.proofs.lemmas.List.{drop_more, drop_all, map-append}
use Rattle.std.proofs.Math.Seq.{take-suc}
use Rattle.dr_meaning.specs.Schema.{is_repeated}
use Rattle.dr_meaning.specs.Path.{Step, chain}
use Rattle.dr_nested.specs.PathView.{step_view}
use Rattle.dr_nested.specs.declared.path.Step as code

-- paths behind a front
abbrev pub onto : List Step → List (List Step) → List (List Step)
onto front qs = map (λ q. front ++ q) qs

onto_step : (front : List Step) (v : Step) (qs : List (List Step)) → onto front (map (λ q. v ∷ q) qs) ≡ onto (front ++ v ∷ []) qs
onto_step front v [] = refl
onto_step front v (q ∷ qs) = ap₂ (λ x xs. x ∷ xs) (sym (append_assoc front (v ∷ []) q)) (onto_step front v qs)

chain_if : (b : Bool) (front : List Step) (v : Step) (ws : List Step) → b ≡ true
    → onto front (if b then (v ∷ []) ∷ map (λ q. v ∷ q) (chain ws) else map (λ q. v ∷ q) (chain ws)) ≡ (front ++ v ∷ []) ∷ onto (front ++ v ∷ []) (chain ws)
chain_if true front v ws e = ap (λ xs. (front ++ v ∷ []) ∷ xs) (onto_step front v (chain ws))
chain_if false front v ws e = absurd (false_is_not_true e)
  where
    false_is_not_true : false ≡ true → ⊥
    false_is_not_true q = cc

chain_unless : (b : Bool) (front : List Step) (v : Step) (ws : List Step) → b ≡ false
    → onto front (if b then (v ∷ []) ∷ map (λ q. v ∷ q) (chain ws) else map (λ q. v ∷ q) (chain ws)) ≡ onto (front ++ v ∷ []) (chain ws)
chain_unless false front v ws e = onto_step front v (chain ws)
chain_unless true front v ws e = absurd (true_is_not_false e)
  where
    true_is_not_false : true ≡ false → ⊥
    true_is_not_false q = cc

-- the first steps of a path, one more of them
abbrev pub seen : List code.Step → ℕ → List Step
seen p k = map step_view (take k p)

abbrev pub ahead : List code.Step → ℕ → List Step
ahead p k = map step_view (drop k p)

seen_more : (p : List code.Step) (k : ℕ) (d : code.Step) → k < length p → seen p (k + 1) ≡ seen p k ++ step_view (get_or p k d) ∷ []
seen_more p k d h = ap (map step_view) (ap (λ n. take n p) (add-one k) ∙ take-suc p k d h) ∙ map-append step_view (take k p) (get_or p k d ∷ [])

ahead_more : (p : List code.Step) (k : ℕ) (d : code.Step) → k < length p → ahead p k ≡ step_view (get_or p k d) ∷ ahead p (k + 1)
ahead_more p k d h = ap (map step_view) (drop_more p k d h)

-- a repeated field is one more
pub one_more : (p : List code.Step) (k : ℕ) (d : code.Step) (done : List (List Step)) → k < length p → is_repeated (step_view (get_or p k d)).repetition ≡ true
    → (done ++ seen p (k + 1) ∷ []) ++ onto (seen p (k + 1)) (chain (ahead p (k + 1))) ≡ done ++ onto (seen p k) (chain (ahead p k))
one_more p k d done h r =
    append_assoc done (seen p (k + 1) ∷ []) _
    ∙ ap (λ xs. done ++ xs) (ap (λ f. f ∷ onto f (chain (ahead p (k + 1)))) (seen_more p k d h) ∙ sym (chain_if _ (seen p k) (step_view (get_or p k d)) (ahead p (k + 1)) r)
    ∙ ap (λ q. onto (seen p k) (chain q)) (sym (ahead_more p k d h)))

-- any other is none
pub none_more : (p : List code.Step) (k : ℕ) (d : code.Step) (done : List (List Step)) → k < length p → is_repeated (step_view (get_or p k d)).repetition ≡ false
    → done ++ onto (seen p (k + 1)) (chain (ahead p (k + 1))) ≡ done ++ onto (seen p k) (chain (ahead p k))
none_more p k d done h r =
    ap (λ xs. done ++ xs) (ap (λ f. onto f (chain (ahead p (k + 1)))) (seen_more p k d h) ∙ sym (chain_unless _ (seen p k) (step_view (get_or p k d)) (ahead p (k + 1)) r)
    ∙ ap (λ q. onto (seen p k) (chain q)) (sym (ahead_more p k d h)))

onto_nothing : (qs : List (List Step)) → onto [] qs ≡ qs
onto_nothing [] = refl
onto_nothing (q ∷ qs) = ap (λ xs. q ∷ xs) (onto_nothing qs)

pub at_first : (p : List code.Step) → onto (seen p 0) (chain (ahead p 0)) ≡ chain (map step_view p)
at_first p = onto_nothing (chain (map step_view p))

pub at_last : (p : List code.Step) (k : ℕ) → length p ≤ k → onto (seen p k) (chain (ahead p k)) ≡ []
at_last p k h = ap (λ q. onto (seen p k) (chain (map step_view q))) (drop_all k p h)

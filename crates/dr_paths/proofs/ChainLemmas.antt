-- Levels of paths: cut at the end, and the longer of two.
use Rattle.std.specs.Prelude.{◌≡◌, ◌<◌, ◌≤◌, ℕ, ◌+◌, List, [], ◌∷◌, ◌++◌, length, take, get_or, map, Bool, true, false, if◌then◌else◌}
use Rattle.std.proofs.Common.{refl, sym, ap, ◌∙◌, arith}
use Rattle.std.proofs.lemmas.List.{take_more, map-append}
use Rattle.dr_meaning.specs.Path.{Step, chain_end, up_to, is_shorter, longer}
use Rattle.dr_meaning.specs.Schema.{is_repeated}
use Rattle.dr_nested.specs.PathView.{step_view}
use Rattle.dr_nested.specs.Views.{rep_view}
use Rattle.dr_nested.specs.declared.path.Step as code
use Rattle.dr_nested.specs.declared.shape.Rep.{Rep}

up_to-more : (t : Step) (p : List Step) (s : Step) → up_to t (p ++ s ∷ []) ≡ t ∷ (p ++ s ∷ [])
up_to-more t [] s = refl
up_to-more t (u ∷ p) s = refl

-- a last step that is repeated ends the level
pub level_whole : (p : List Step) (s : Step) → is_repeated s.repetition ≡ true → chain_end (p ++ s ∷ []) ≡ p ++ s ∷ []
level_whole [] s h = ap (λ (b : Bool). if b then s ∷ [] else []) h
level_whole (t ∷ p) s h = ap (up_to t) (level_whole p s h) ∙ up_to-more t p s

-- one that isn't is left away
pub level_cut : (p : List Step) (s : Step) → is_repeated s.repetition ≡ false → chain_end (p ++ s ∷ []) ≡ chain_end p
level_cut [] s h = ap (λ (b : Bool). if b then s ∷ [] else []) h
level_cut (t ∷ p) s h = ap (up_to t) (level_cut p s h)

is_shorter-true : (p q : List Step) → length p < length q → is_shorter p q ≡ true
is_shorter-true p [] h = absurd (omega arith)
is_shorter-true [] (t ∷ q) h = refl
is_shorter-true (s ∷ p) (t ∷ q) h = is_shorter-true p q (omega arith)

is_shorter-false : (p q : List Step) → length q ≤ length p → is_shorter p q ≡ false
is_shorter-false p [] h = refl
is_shorter-false [] (t ∷ q) h = absurd (omega arith)
is_shorter-false (s ∷ p) (t ∷ q) h = is_shorter-false p q (omega arith)

pub longer-second : (p q : List Step) → length p < length q → longer p q ≡ q
longer-second p q h = ap (λ (b : Bool). if b then q else p) (is_shorter-true p q h)

pub longer-first : (p q : List Step) → length q ≤ length p → longer p q ≡ p
longer-first p q h = ap (λ (b : Bool). if b then q else p) (is_shorter-false p q h)

-- ---- steps in code

steps_cut : (steps : List code.Step) (n k : ℕ) (d : code.Step) → k < length steps → n ≡ k + 1 → map step_view (take n steps) ≡ map step_view (take k steps) ++ step_view (get_or steps k d) ∷ []
steps_cut steps n k d h e =
    ap (λ (i : ℕ). map step_view (take i steps)) e ∙ ap (map step_view) (take_more steps k d h) ∙ map-append step_view (take k steps) (get_or steps k d ∷ [])

not_repeated : (r : Rep) → (r ≡ Rep.Repeated → ⊥) → is_repeated (rep_view r) ≡ false
not_repeated Rep.Required h = refl
not_repeated Rep.Optional h = refl
not_repeated Rep.Repeated h = absurd (h refl)

-- the steps up to one that is repeated are a level
pub level_here : (steps : List code.Step) (n k : ℕ) (d : code.Step) → k < length steps → n ≡ k + 1 → (get_or steps k d).rep ≡ Rep.Repeated
    → map step_view (take n steps) ≡ chain_end (map step_view (take n steps))
level_here steps n k d h e is =
    let cut : map step_view (take n steps) ≡ map step_view (take k steps) ++ step_view (get_or steps k d) ∷ [] = steps_cut steps n k d h e in
    cut ∙ sym (level_whole (map step_view (take k steps)) (step_view (get_or steps k d)) (ap (λ (r : Rep). is_repeated (rep_view r)) is)) ∙ sym (ap chain_end cut)

-- one that isn't has the level of those before it
pub level_before : (steps : List code.Step) (n k : ℕ) (d : code.Step) → k < length steps → n ≡ k + 1 → ((get_or steps k d).rep ≡ Rep.Repeated → ⊥)
    → chain_end (map step_view (take k steps)) ≡ chain_end (map step_view (take n steps))
level_before steps n k d h e isnt =
    sym (ap chain_end (steps_cut steps n k d h e) ∙ level_cut (map step_view (take k steps)) (step_view (get_or steps k d)) (not_repeated (get_or steps k d).rep isnt))

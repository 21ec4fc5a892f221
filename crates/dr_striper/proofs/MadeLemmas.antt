-- Trees that are made: branches at places.
use Rattle.std.proofs.Common.{rules, ◌≡◌, ◌<◌, ◌≤◌, ℕ, zero, suc, List, [], ◌∷◌, ◌++◌, map, set, drop, get_or, length, refl, sym, ap, ap₂, ◌∙◌, arith}
use Rattle.dr_nested.specs.Views.{rep_view}
use Rattle.dr_nested.specs.PathView.{step_view}
use Rattle.dr_nested.specs.declared.path.Step.{Step}
use Rattle.dr_levels.specs.Views.{LeafForm}
use Rattle.dr_striper.specs.Added as added
use Rattle.dr_striper.specs.Added.{Twig, Twigs, no_twigs, twig}
use Rattle.dr_striper.specs.declared.branch.Branch.{Branch}
use Rattle.dr_striper.specs.declared.branch.Branch as branches
use Rattle.dr_striper.specs.Shapes.{Shape, Shapes, nothing, no_shapes, shape}
use Rattle.dr_striper.specs.Made.{fresh_one, IsFresh, AreFresh, change_at, put_one, put}
use Rattle.dr_striper.specs.Views.{twig_view, shape_view, shapes_view}

pub nothing_shape : shape_view branches.Nothing ≡ nothing
nothing_shape = search (rules, branches.the_lemmas)

pub nothing_twig : twig_view branches.Nothing ≡ added.nothing
nothing_twig = search (rules, branches.the_lemmas)

pub nothing_fresh : IsFresh branches.Nothing
nothing_fresh = nothing_twig ∙ sym (ap fresh_one nothing_shape)

-- one more, which is nothing, changes nothing at places behind
pub pad_same : (i : ℕ) (bs : List Branch) (F : Shape → Shape) → length bs ≤ i → change_at i F (shapes_view (bs ++ branches.Nothing ∷ [])) ≡ change_at i F (shapes_view bs)
pad_same zero [] F h = ap (λ s. shape (F s) no_shapes) nothing_shape
pad_same (suc i) [] F h = ap (λ s. shape s (change_at i F no_shapes)) nothing_shape
pad_same zero (b ∷ bs) F h = absurd (omega (arith, h))
pad_same (suc i) (b ∷ bs) F h = ap (shape (shape_view b)) (pad_same i bs F (omega (arith, h)))

abbrev first-twig : Twigs → Twig
first-twig no_twigs = added.nothing
first-twig (twig b bs) = b

abbrev other-twigs : Twigs → Twigs
other-twigs no_twigs = no_twigs
other-twigs (twig b bs) = bs

pub pad_fresh : (bs : List Branch) → AreFresh bs → AreFresh (bs ++ branches.Nothing ∷ [])
pad_fresh [] h = ap (λ t. twig t no_twigs) nothing_fresh
pad_fresh (b ∷ bs) h = ap₂ twig (ap first-twig h) (pad_fresh bs (ap other-twigs h))

pub fresh_here : (i : ℕ) (bs : List Branch) (x : Branch) → i < length bs → AreFresh bs → IsFresh (get_or bs i x)
fresh_here i [] x l h = absurd (omega (arith, l))
fresh_here zero (b ∷ bs) x l h = ap first-twig h
fresh_here (suc i) (b ∷ bs) x l h = fresh_here i bs x (omega (arith, l)) (ap other-twigs h)

pub fresh_set : (i : ℕ) (bs : List Branch) (y : Branch) → i < length bs → AreFresh bs → IsFresh y → AreFresh (set bs i y)
fresh_set i [] y l h e = absurd (omega (arith, l))
fresh_set zero (b ∷ bs) y l h e = ap₂ twig e (ap other-twigs h)
fresh_set (suc i) (b ∷ bs) y l h e = ap₂ twig (ap first-twig h) (fresh_set i bs y (omega (arith, l)) (ap other-twigs h) e)

pub changed_set : (i : ℕ) (bs : List Branch) (x y : Branch) (F : Shape → Shape) → i < length bs → shape_view y ≡ F (shape_view (get_or bs i x)) → shapes_view (set bs i y) ≡ change_at i F (shapes_view bs)
changed_set i [] x y F l e = absurd (omega (arith, l))
changed_set zero (b ∷ bs) x y F l e = ap (λ s. shape s (shapes_view bs)) e
changed_set (suc i) (b ∷ bs) x y F l e = ap (shape (shape_view b)) (changed_set i bs x y F (omega (arith, l)) e)

-- a path's first step
pub put_step : (steps : List Step) (d : Step) (f : LeafForm) (ss : Shapes) → 1 ≤ length steps
    → change_at (get_or steps 0 d).place (put_one (rep_view (get_or steps 0 d).rep) (map step_view (drop 1 steps)) f (put (map step_view (drop 1 steps)) f)) ss ≡ put (map step_view steps) f ss
put_step [] d f ss h = absurd (omega (arith, h))
put_step (s ∷ steps) d f ss h = refl

pub step_put : (steps rest : List Step) (d : Step) (f : LeafForm) (bs : List Branch) (x o y : Branch) (ss : Shapes) → 1 ≤ length steps → rest ≡ drop 1 steps → (get_or steps 0 d).place < length bs
    → shape_view y ≡ put_one (rep_view (get_or steps 0 d).rep) (map step_view rest) f (put (map step_view rest) f) (shape_view x) → x ≡ get_or bs (get_or steps 0 d).place o
    → ((F : Shape → Shape) → change_at (get_or steps 0 d).place F (shapes_view bs) ≡ change_at (get_or steps 0 d).place F ss)
    → shapes_view (set bs (get_or steps 0 d).place y) ≡ put (map step_view steps) f ss
step_put steps rest d f bs x o y ss h er l e ex same =
    let i : ℕ = (get_or steps 0 d).place in
    changed_set i bs o y (put_one (rep_view (get_or steps 0 d).rep) (map step_view rest) f (put (map step_view rest) f)) l
    (e ∙ ap (λ b. put_one (rep_view (get_or steps 0 d).rep) (map step_view rest) f (put (map step_view rest) f) (shape_view b)) ex)
    ∙ same (put_one (rep_view (get_or steps 0 d).rep) (map step_view rest) f (put (map step_view rest) f))
    ∙ ap (λ r. change_at i (put_one (rep_view (get_or steps 0 d).rep) (map step_view r) f (put (map step_view r) f)) ss) er
    ∙ put_step steps d f ss h

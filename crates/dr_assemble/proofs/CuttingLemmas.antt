-- Cutting the strips of a group, one after another.
use Rattle.std.proofs.Common.{◌≡◌, ℕ, ◌+◌, ◌<◌, List, [], ◌∷◌, ◌++◌, map, length, get_or, take, drop, sym, ap, ap₂, ◌∙◌, arith}
use Rattle.std.proofs.Math.ListN.{set}
use Rattle.std.proofs.lemmas.List.{take_more_set, take_more, drop_more, drop-set-lt, map-append, length-drop}
use Rattle.dr_assemble.specs.Restoring.{Strip, strip, first_piece, later_pieces, first_pieces, other_pieces}
use Rattle.dr_assemble.specs.Views.{strip_view, strips_view}
use Rattle.dr_assemble.specs.declared.strip.Strip as code

-- a change of each strip reaches one strip more
changed_more : (f : Strip → Strip) (ss ls : List code.Strip) (k : ℕ) (s x : code.Strip) → k < length ls → k < length ss → strip_view x ≡ f (strip_view s) → s ≡ get_or ss k s
    → strips_view (take k ls) ≡ map f (strips_view (take k ss)) → strips_view (take (k + 1) (set ls k x)) ≡ map f (strips_view (take (k + 1) ss))
changed_more f ss ls k s x h g e i so_far =
    ap strips_view (take_more_set ls k x h) ∙ map-append strip_view (take k ls) (x ∷ [])
    ∙ ap₂ (λ (A : List Strip) (y : Strip). A ++ y ∷ []) so_far (e ∙ ap (λ (t : code.Strip). f (strip_view t)) i)
    ∙ sym (ap (map f) (ap strips_view (take_more ss k s g) ∙ map-append strip_view (take k ss) (get_or ss k s ∷ [])) ∙ map-append f (strips_view (take k ss)) (strip_view (get_or ss k s) ∷ []))

-- where lists are the same from a place on, so is the element there
module _ (ss ls : List code.Strip) (k : ℕ) (s : code.Strip) (h : k < length ls) (same : drop k ls ≡ drop k ss) where
  pub long_enough : k < length ss
  long_enough = omega (arith, ap length same, length-drop k ls, length-drop k ss)

  pub same_there : get_or ls k s ≡ get_or ss k s
  same_there = let e : get_or ls k s ∷ drop (k + 1) ls ≡ get_or ss k s ∷ drop (k + 1) ss = sym (drop_more ls k s h) ∙ same ∙ drop_more ss k s long_enough in cc

  pub same_behind : (y : code.Strip) → drop (k + 1) (set ls k y) ≡ drop (k + 1) ss
  same_behind y =
      let e : get_or ls k s ∷ drop (k + 1) ls ≡ get_or ss k s ∷ drop (k + 1) ss = sym (drop_more ls k s h) ∙ same ∙ drop_more ss k s long_enough in
      let g : drop (k + 1) ls ≡ drop (k + 1) ss = cc in
      drop-set-lt (k + 1) ls k y (omega arith) ∙ g

pub first_more : (l : ℕ) (ss fs : List code.Strip) (k : ℕ) (s x : code.Strip) → k < length fs → k < length ss → strip_view x ≡ strip (strip_view s).rest (first_piece l (strip_view s).triplets) → s ≡ get_or ss k s
    → strips_view (take k fs) ≡ first_pieces l (strips_view (take k ss)) → strips_view (take (k + 1) (set fs k x)) ≡ first_pieces l (strips_view (take (k + 1) ss))
first_more l ss fs k s x h g e i so_far = changed_more (λ (g : Strip). strip g.rest (first_piece l g.triplets)) ss fs k s x h g e i so_far

pub other_more : (l : ℕ) (ss ls : List code.Strip) (k : ℕ) (s y : code.Strip) → k < length ls → k < length ss → strip_view y ≡ strip (strip_view s).rest (later_pieces l (strip_view s).triplets) → s ≡ get_or ss k s
    → strips_view (take k ls) ≡ other_pieces l (strips_view (take k ss)) → strips_view (take (k + 1) (set ls k y)) ≡ other_pieces l (strips_view (take (k + 1) ss))
other_more l ss ls k s y h g e i so_far = changed_more (λ (g : Strip). strip g.rest (later_pieces l g.triplets)) ss ls k s y h g e i so_far

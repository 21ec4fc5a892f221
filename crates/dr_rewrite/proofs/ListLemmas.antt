-- Lists of texts.
use Rattle.std.proofs.Common.{◌≡◌, ℕ, ◌+◌, ◌<◌, ◌≤◌, length, drop, add-one, append_assoc, List, [], ◌∷◌, ◌++◌, map, append-nil, sym, ap, ◌∙◌}
use Rattle.std.proofs.lemmas.List.{map_push, map-id, drop_all, drop_more}
use Rattle.dr_partials.specs.RewritingText.{commas}
use Rattle.dr_rewrite.specs.Items.{indexed}
use Rattle.dr_rewrite.specs.Lists.{further_commas}

pub commas_first : (t : List ℕ) (ts : List (List ℕ)) → t ++ further_commas ts ≡ commas (t ∷ ts)
commas_first t [] = append-nil t
commas_first t (u ∷ us) = ap (λ x. t ++ (44 ∷ 32 ∷ x)) (commas_first u us)

-- ---- texts of each, by place

pub name_pushed : {B C : Type 0} (see : C → B) (name : ℕ → B) (xs : List ℕ) (i : ℕ) (old new : List C) (s : C) (whole : List B) → i < length xs → new ≡ old ++ s ∷ [] → see s ≡ name i
    → map see old ++ indexed (λ (j k : ℕ). name j) i (drop i xs) ≡ whole → map see new ++ indexed (λ (j k : ℕ). name j) (i + 1) (drop (i + 1) xs) ≡ whole
name_pushed see name xs i old new s whole h e f g =
    let later = indexed (λ (j k : ℕ). name j) (i + 1) (drop (i + 1) xs) in
    ap (λ ts. map see ts ++ later) e
    ∙ (ap (λ ts. ts ++ later) (map_push see old s)
    ∙ (append_assoc (map see old) (see s ∷ []) later
    ∙ (ap (λ t. map see old ++ t ∷ later) f
    ∙ (ap (λ ts. map see old ++ ts) (ap (λ j. name i ∷ indexed (λ (a k : ℕ). name a) j (drop (i + 1) xs)) (add-one i) ∙ sym (ap (indexed (λ (j k : ℕ). name j) i) (drop_more xs i 0 h))) ∙ g))))

-- where none is left, the list is whole
pub at_end : {B : Type 0} (name : ℕ → B) (xs : List ℕ) (i : ℕ) (made whole : List B) → length xs ≤ i → map (λ x. x) made ++ indexed (λ (j k : ℕ). name j) i (drop i xs) ≡ whole → made ≡ whole
at_end name xs i made whole h g =
    sym (map-id made) ∙ (sym (append-nil (map (λ x. x) made)) ∙ (ap (λ ys. map (λ x. x) made ++ indexed (λ (j k : ℕ). name j) i ys) (sym (drop_all i xs h)) ∙ g))

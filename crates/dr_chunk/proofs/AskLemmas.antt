-- What a link was asked for, one call after another.
use Rattle.std.proofs.Common.{◌≡◌, ℕ, List, ◌∷◌, [], ◌++◌, Bool, ap, ap₂, subst, ◌∙◌, append_assoc}
use Rattle.std.specs.Prelude.{Option, Some, None, ◌&&◌}
use Rattle.std.proofs.lemmas.List.Folds.{list_all-append}
use Rattle.dr_outside.specs.Link.{Request}
use Rattle.dr_chunk.specs.declared.byte_range.ByteRange.{ByteRange}
use Rattle.dr_outside.specs.Telling.{AsksOnly}
use Rattle.dr_chunk.specs.Ranges.{is_read_inside, inside}

pub asks_then : (test : Request → Bool) (a b c : Option (List Request)) → AsksOnly test a b → AsksOnly test b c → AsksOnly test a c
asks_then test None b c p q = tt
asks_then test (Some before) b c p q =
    let P : Option (List Request) → Type 0 = λ o. AsksOnly test o c in
    let r : AsksOnly test (Some (before ++ p.0)) c = subst P p.1 q in
    (p.0 ++ r.0, r.1 ∙ ap (λ rs. Some rs) (append_assoc before p.0 r.0), list_all-append test p.0 r.0 ∙ ap₂ (λ x y. x && y) p.2 r.2)

-- the same range of the same file
pub asks_same : (p q : List ℕ) (r s : ByteRange) (a b : Option (List Request)) → q ≡ p → s ≡ r → AsksOnly (is_read_inside q (inside s ∷ [])) a b → AsksOnly (is_read_inside p (inside r ∷ [])) a b
asks_same p q r s a b e f h =
    let P : List ℕ → Type 0 = λ x. AsksOnly (is_read_inside x (inside s ∷ [])) a b in
    let Q : ByteRange → Type 0 = λ x. AsksOnly (is_read_inside p (inside x ∷ [])) a b in
    subst Q f (subst P e h)

-- asked again for bytes of the same range of the same file
pub asks_again : (p q : List ℕ) (r s : ByteRange) (a b c : Option (List Request)) → q ≡ p → s ≡ r → AsksOnly (is_read_inside p (inside r ∷ [])) a b → AsksOnly (is_read_inside q (inside s ∷ [])) b c
    → AsksOnly (is_read_inside p (inside r ∷ [])) a c
asks_again p q r s a b c e f one two = asks_then (is_read_inside p (inside r ∷ [])) a b c one (asks_same p q r s b c e f two)

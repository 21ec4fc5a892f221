-- Names of the right form are texts; the names of earlier fields.
use Rattle.std.proofs.Common.{◌≡◌, ℕ, zero, suc, ◌<◌, List, [], ◌∷◌, get_or, Bool, true, false, refl, sym, ap, ◌∙◌, cond, true≢false, arith, ◌⊎◌, inl, inr}
use Rattle.std.specs.Prelude.{◌&&◌, ◌||◌, nat_le, ◌==◌, bytes_eq, Result, Ok, Err, MatchResult}
use Rattle.std.specs.Result.{is_ok}
use Rattle.std.specs.Str.{IsUtf8}
use Rattle.std.specs.List.{list_all, list_any}
use Rattle.std.specs.Ordering.{is_eq, nat_cmp}
use Rattle.std.specs.Cmp.Lexicographic.{slice_cmp}
use Rattle.std.proofs.lemmas.Bool.{and_parts, or_cases, leb-true, eqb-true, false_from_ne_true, true≢false}
use Rattle.std.proofs.lemmas.Slice.Eq.{bytes_eq-Decides}
use Rattle.std.proofs.lemmas.Str.{IsUtf8-from_ascii}
use Rattle.std.proofs.lemmas.Map.Text.{is_eq-slice_cmp}
use Rattle.dr_meaning.specs.Schema.{begins_name, continues_name, is_name, is_short_name}

-- ---- texts

begins_below : (b : ℕ) → begins_name b ≡ true → b < 128
begins_below b h = by (or_cases _ _ h)
  where
    letter : ((nat_le 65 b && nat_le b 90) ≡ true) ⊎ ((nat_le 97 b && nat_le b 122) ≡ true) → b < 128
    letter (inl g) = omega (arith, leb-true b 90 (and_parts _ _ g).1)
    letter (inr g) = omega (arith, leb-true b 122 (and_parts _ _ g).1)

    by : (((nat_le 65 b && nat_le b 90) || (nat_le 97 b && nat_le b 122)) ≡ true) ⊎ ((b == 95) ≡ true) → b < 128
    by (inl g) = letter (or_cases _ _ g)
    by (inr g) = omega (arith, eqb-true b 95 g)

continues_below : (b : ℕ) → continues_name b ≡ true → b < 128
continues_below b h = by (or_cases _ _ h)
  where
    by : (begins_name b ≡ true) ⊎ ((nat_le 48 b && nat_le b 57) ≡ true) → b < 128
    by (inl g) = begins_below b g
    by (inr g) = omega (arith, leb-true b 57 (and_parts _ _ g).1)

all_below : (bs : List ℕ) → list_all continues_name bs ≡ true → (i : ℕ) → get_or bs i 0 < 128
all_below [] h i = omega arith
all_below (b ∷ bs) h zero = continues_below b (and_parts _ _ h).0
all_below (b ∷ bs) h (suc i) = all_below bs (and_parts _ _ h).1 i

name_below : (bs : List ℕ) → is_name bs ≡ true → (i : ℕ) → get_or bs i 0 < 128
name_below [] h i = absurd (true≢false (sym h))
name_below (b ∷ bs) h zero = begins_below b (and_parts _ _ h).0
name_below (b ∷ bs) h (suc i) = all_below bs (and_parts _ _ h).1 i

pub name_is_text : (bs : List ℕ) → is_short_name bs ≡ true → IsUtf8 bs
name_is_text bs h = IsUtf8-from_ascii bs (name_below bs (and_parts _ _ h).0)

pub ok_there : {A B : Type 0} (P : A → Type 0) (Q : B → Type 0) (r : Result A B) → MatchResult r P Q → ((e : B) → Q e → ⊥) → is_ok r ≡ true
ok_there P Q (Ok a) h g = refl
ok_there P Q (Err e) h g = absurd (g e h)

-- ---- names of earlier fields

pub bytes_eq-sym : (a b : List ℕ) → bytes_eq a b ≡ bytes_eq b a
bytes_eq-sym a b = by (bytes_eq a b) refl
  where
    by : (x : Bool) → bytes_eq a b ≡ x → bytes_eq a b ≡ bytes_eq b a
    by true q = q ∙ sym ((bytes_eq-Decides b a).1 (sym ((bytes_eq-Decides a b).0 q)))
    by false q = q ∙ sym (false_from_ne_true (bytes_eq b a) (λ w. true≢false (sym ((bytes_eq-Decides a b).1 (sym ((bytes_eq-Decides b a).0 w))) ∙ q)))

-- what the set has after a name came to it
pub name_added : (key q name : List ℕ) (names : List (List ℕ)) (old new : Bool) → key ≡ name → new ≡ cond (is_eq (slice_cmp nat_cmp key q)) true old → old ≡ list_any (bytes_eq q) names → new ≡ (bytes_eq q name || list_any (bytes_eq q) names)
name_added key q name names old new h g w =
    let e : is_eq (slice_cmp nat_cmp key q) ≡ bytes_eq q name = is_eq-slice_cmp key q ∙ (bytes_eq-sym key q ∙ ap (bytes_eq q) h) in
    g ∙ (ap (λ (x : Bool). cond x true old) e ∙ (ap (cond (bytes_eq q name) true) w ∙ by (bytes_eq q name)))
  where
    by : (x : Bool) → cond x true (list_any (bytes_eq q) names) ≡ (x || list_any (bytes_eq q) names)
    by true = refl
    by false = refl

-- The sign that a line begins with.
use Rattle.std.specs.Prelude.{◌≡◌, ◌≢◌, ℕ, ◌<◌, ◌≤◌, List, [], ◌∷◌, ◌-◌, drop, take, length, Bool, true, false, ◌==◌, if◌then◌else◌, bytes_eq, Err, slice_index}
use Rattle.std.proofs.Common.{arith, refl, sym, ap, ap₂, ◌∙◌}
use Rattle.std.proofs.lemmas.Bool.Decides.{nat_tests}
use Rattle.std.proofs.lemmas.Slice.Eq.{bytes_eq-Decides}
use Rattle.dr_meaning.specs.Schema.{Schema}
use Rattle.dr_sub_meaning.specs.NestedAsk.{read_nested}
use Rattle.dr_sub_meaning.specs.Session.{Session, no_command, commanded, keeps, answers, asked_text, publishes}
use Rattle.dr_session.specs.Signs.{Begins}

pub begins_so : (b : ℕ) (line : List ℕ) → 1 ≤ length line → slice_index line 0 ≡ b → Begins b line
begins_so b [] l e = absurd (omega (arith, l))
begins_so b (x ∷ xs) l e = (l, ap (λ (y : ℕ). y ∷ xs) e)

pub is_dot : (line : List ℕ) → 1 ≤ length line → length line ≤ 1 → slice_index line 0 ≡ 46 → line ≡ 46 ∷ []
is_dot [] l m e = absurd (omega (arith, l))
is_dot (x ∷ []) l m e = ap (λ (y : ℕ). y ∷ []) e
is_dot (x ∷ y ∷ ys) l m e = absurd (omega (arith, m))

pub says_nothing : (line : List ℕ) (s : Schema) (w : Session) → length line ≡ 0 → commanded s w line ≡ Err no_command
says_nothing [] s w e = refl
says_nothing (x ∷ xs) s w e = absurd (omega (arith, e))

not_dot : (line : List ℕ) (b : Bool) → bytes_eq line (46 ∷ []) ≡ b → (line ≡ 46 ∷ [] → ⊥) → b ≡ false
not_dot line true e h = absurd (h ((bytes_eq-Decides line (46 ∷ [])).0 e))
not_dot line false e h = refl

commanded_if : (s : Schema) (w : Session) (b : ℕ) (line : List ℕ) → b == 43 ≡ false → b == 63 ≡ false → bytes_eq (b ∷ line) (46 ∷ []) ≡ false → commanded s w (b ∷ line) ≡ Err no_command
commanded_if s w b line e f g =
    ap₂ (λ (x : Bool) (y : Bool). if x then keeps s w line else (if y then answers s w (read_nested s (asked_text line)) else (if bytes_eq (b ∷ line) (46 ∷ []) then publishes w else Err no_command))) e f
    ∙ ap (λ (z : Bool). if z then publishes w else Err no_command) g

pub no_sign : (line : List ℕ) (s : Schema) (w : Session) → 1 ≤ length line → slice_index line 0 ≢ 43 → slice_index line 0 ≢ 63 → (line ≡ 46 ∷ [] → ⊥) → commanded s w line ≡ Err no_command
no_sign [] s w l e f g = absurd (omega (arith, l))
no_sign (b ∷ line) s w l e f g = commanded_if s w b line (grind (arith, nat_tests, e)) (grind (arith, nat_tests, f)) (not_dot (b ∷ line) (bytes_eq (b ∷ line) (46 ∷ [])) refl g)

pub longer_than_dot : (line : List ℕ) → 1 < length line → line ≡ 46 ∷ [] → ⊥
longer_than_dot line l e = omega (arith, l, ap length e)

pub other_than_dot : (line : List ℕ) → slice_index line 0 ≢ 46 → line ≡ 46 ∷ [] → ⊥
other_than_dot line h e = h (ap (λ (x : List ℕ). slice_index x 0) e)

-- ---- what follows the sign

take_whole : (xs : List ℕ) → take (length xs) xs ≡ xs
take_whole [] = refl
take_whole (x ∷ xs) = ap (λ (ys : List ℕ). x ∷ ys) (take_whole xs)

pub rest_is : (b : ℕ) (line : List ℕ) → Begins b line → line ≡ b ∷ take (length line - 1) (drop 1 line)
rest_is b [] h = absurd (omega (arith, h.0))
rest_is b (x ∷ xs) h =
    let e : length (x ∷ xs) - 1 ≡ length xs = omega arith in
    h.1 ∙ ap (λ (ys : List ℕ). b ∷ ys) (sym (ap (λ (n : ℕ). take n xs) e ∙ take_whole xs))

-- Lists of rows: maps that agree, and what holds of each.
use Rattle.std.proofs.Common.{◌≡◌, ℕ, List, [], ◌∷◌, ◌++◌, length, false, refl, sym, ap, ap₂, ◌∙◌, true≢false, arith}
use Rattle.std.specs.Prelude.{◌≢◌, map, ◌==◌}
use Rattle.std.proofs.lemmas.Bool.{eq-eqb}

-- places that a test tells apart
pub not_same : (i j : ℕ) → (i == j) ≡ false → i ≢ j
not_same i j h e = true≢false (sym (eq-eqb i j e) ∙ h)

-- the same thing, as often
pub constant_maps : {X Y : Type 0} (y : Y) (xs zs : List X) → length xs ≡ length zs → map (λ (x : X). y) xs ≡ map (λ (x : X). y) zs
constant_maps y [] [] h = refl
constant_maps y [] (z ∷ zs) h = absurd (omega (arith, h))
constant_maps y (x ∷ xs) [] h = absurd (omega (arith, h))
constant_maps {Y = Y} y (x ∷ xs) (z ∷ zs) h = ap (λ (l : List Y). y ∷ l) (constant_maps y xs zs (omega (arith, h)))

-- ---- what holds of each

abbrev pub AllOf : {X : Type 0} → (X → Type 0) → List X → Type 0
AllOf P [] = Unit {0}
AllOf P (x ∷ xs) = P x × AllOf P xs

pub all_append : {X : Type 0} (P : X → Type 0) (xs ys : List X) → AllOf P xs → AllOf P ys → AllOf P (xs ++ ys)
all_append P [] ys h g = g
all_append P (x ∷ xs) ys h g = (h.0, all_append P xs ys h.1 g)

pub all_first : {X : Type 0} (P : X → Type 0) (xs ys : List X) → AllOf P (xs ++ ys) → AllOf P xs
all_first P [] ys h = tt
all_first P (x ∷ xs) ys h = (h.0, all_first P xs ys h.1)

pub all_second : {X : Type 0} (P : X → Type 0) (xs ys : List X) → AllOf P (xs ++ ys) → AllOf P ys
all_second P [] ys h = h
all_second P (x ∷ xs) ys h = all_second P xs ys h.1

pub all_mapped : {X Y : Type 0} (P : Y → Type 0) (Q : X → Type 0) (f : X → Y) → ((x : X) → Q x → P (f x)) → (xs : List X) → AllOf Q xs → AllOf P (map f xs)
all_mapped P Q f g [] h = tt
all_mapped P Q f g (x ∷ xs) h = (g x h.0, all_mapped P Q f g xs h.1)

pub all_unmapped : {X Y : Type 0} (P : Y → Type 0) (f : X → Y) (xs : List X) → AllOf P (map f xs) → AllOf (λ (x : X). P (f x)) xs
all_unmapped P f [] h = tt
all_unmapped P f (x ∷ xs) h = (h.0, all_unmapped P f xs h.1)

pub all_weaker : {X : Type 0} (P Q : X → Type 0) → ((x : X) → Q x → P x) → (xs : List X) → AllOf Q xs → AllOf P xs
all_weaker P Q g [] h = tt
all_weaker P Q g (x ∷ xs) h = (g x h.0, all_weaker P Q g xs h.1)

-- maps that agree where it holds
pub map_where : {X Y : Type 0} (P : X → Type 0) (f g : X → Y) → ((x : X) → P x → f x ≡ g x) → (xs : List X) → AllOf P xs → map f xs ≡ map g xs
map_where P f g h [] a = refl
map_where P f g h (x ∷ xs) a = ap₂ (λ y z. y ∷ z) (h x a.0) (map_where P f g h xs a.1)

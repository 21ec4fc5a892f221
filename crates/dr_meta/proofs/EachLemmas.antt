-- The same of each of a list, one after another.
use Rattle.std.proofs.Common.{◌≡◌, ℕ, ◌+◌, ◌<◌, List, [], ◌∷◌, ◌++◌, map, length, drop, get_or, refl, sym, ap, ◌∙◌}
use Rattle.std.specs.Prelude.{Result, Ok, Err}
use Rattle.std.proofs.lemmas.List.{drop_more, map-append}
use Rattle.std.proofs.Common.{append_assoc}
use Rattle.dr_formats.specs.Metadata.{MetaFault, each, ◌>>=◌}
use Rattle.dr_formats.specs.Compact.{Struct}

-- values before those that are still to be made
abbrev pub before : {B : Type 0} → List B → Result (List B) MetaFault → Result (List B) MetaFault
before done (Ok xs) = Ok (done ++ xs)
before done (Err e) = Err e

-- of these structs, those before the place have been seen
abbrev pub Seen : {T B : Type 0} → (T → Struct) → (Struct → Result B MetaFault) → List T → ℕ → List B → Type 0
Seen tree f ts k done = before done (each f (map tree (drop k ts))) ≡ each f (map tree ts)

one_before : {B : Type 0} (done : List B) (b : B) (r : Result (List B) MetaFault) → before done (r >>= (λ rest. Ok (b ∷ rest))) ≡ before (done ++ b ∷ []) r
one_before done b (Ok xs) = ap Ok (sym (append_assoc done (b ∷ []) xs))
one_before done b (Err e) = refl

here : {T B : Type 0} (tree : T → Struct) (f : Struct → Result B MetaFault) (ts : List T) (k : ℕ) (t : T) → k < length ts → t ≡ get_or ts k t → each f (map tree (drop k ts)) ≡ (f (tree t) >>= (λ a. each f (map tree (drop (k + 1) ts)) >>= (λ rest. Ok (a ∷ rest))))
here tree f ts k t l h = ap (λ xs. each f (map tree xs)) (drop_more ts k t l ∙ ap (λ x. x ∷ drop (k + 1) ts) (sym h))

pub one_seen : {T B R : Type 0} (tree : T → Struct) (f : Struct → Result B MetaFault) (see : R → B) (ts : List T) (k : ℕ) (t : T) (done next : List R) (b : R) → k < length ts → t ≡ get_or ts k t → f (tree t) ≡ Ok (see b) → next ≡ done ++ b ∷ [] → Seen tree f ts k (map see done) → Seen tree f ts (k + 1) (map see next)
one_seen {B = B} tree f see ts k t done next b l h e g p =
    ap (λ (xs : List B). before xs (each f (map tree (drop (k + 1) ts)))) (ap (map see) g ∙ map-append see done (b ∷ []))
    ∙ (sym (one_before (map see done) (see b) (each f (map tree (drop (k + 1) ts))))
    ∙ (ap (before (map see done)) (sym (here tree f ts k t l h ∙ ap (λ (r : Result B MetaFault). r >>= (λ a. each f (map tree (drop (k + 1) ts)) >>= (λ rest. Ok (a ∷ rest)))) e)) ∙ p))

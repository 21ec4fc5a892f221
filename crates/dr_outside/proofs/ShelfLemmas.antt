-- Places in the list of what was put.
use Rattle.std.proofs.Common.{◌≡◌, ◌<◌, ◌≤◌, ℕ, zero, suc, List, [], ◌∷◌, ◌++◌, length, Some, None, Bool, true, false, length-append, refl, sym, ap, ap₂, ◌∙◌, subst, arith}
use Rattle.std.specs.Prelude.{if◌then◌else◌, bytes_eq}
use Rattle.std.specs.Option.{option_map}
use Rattle.std.specs.Map.{update}
use Rattle.std.proofs.lemmas.Slice.Eq.{bytes_eq-Decides}
use Rattle.std.specs.declared.option.Option.{Option}
use Rattle.std.specs.List.{slice_get}
use Rattle.dr_outside.specs.declared.shelf.Put.{Put}
use Rattle.dr_outside.specs.Puts.{bytes_at, end_of}

get_front : (ps : List Put) (p : Put) (i : ℕ) → i < length ps → slice_get (ps ++ p ∷ []) i ≡ slice_get ps i
get_front [] p i h = absurd (omega arith)
get_front (q ∷ ps) p zero h = refl
get_front (q ∷ ps) p (suc i) h = get_front ps p i (omega (arith, h))

get_last : (ps : List Put) (p : Put) → slice_get (ps ++ p ∷ []) (length ps) ≡ Some p
get_last [] p = refl
get_last (q ∷ ps) p = get_last ps p

-- with one put more, the bytes at the places before it stay
pub still_there : (ps : List Put) (p : Put) (place : Option ℕ) → end_of place ≤ length ps → bytes_at (ps ++ p ∷ []) place ≡ bytes_at ps place
still_there ps p None h = refl
still_there ps p (Some i) h = let below : i < length ps = omega (arith, h) in ap (option_map (λ (q : Put). q.bytes.items)) (get_front ps p i below)

-- and its own are at the next place
pub last_there : (ps : List Put) (p : Put) → bytes_at (ps ++ p ∷ []) (Some (length ps)) ≡ Some p.bytes.items
last_there ps p = ap (option_map (λ (q : Put). q.bytes.items)) (get_last ps p)

-- ---- one put more

-- a path that has the place that it had, has the bytes that it had
pub bytes_stay : (now noted before : List Put) (p : Put) (a b : Option ℕ) → now ≡ noted ++ p ∷ [] → noted ≡ before → a ≡ b → end_of b ≤ length before → bytes_at now a ≡ bytes_at before b
bytes_stay now noted before p a b n r e h = ap₂ bytes_at (n ∙ ap (λ (x : List Put). x ++ p ∷ []) r) e ∙ still_there before p b h

-- a path that has the new place has the new bytes
pub bytes_put : (now noted : List Put) (p : Put) (a : Option ℕ) (place : ℕ) (bytes : List ℕ) → now ≡ noted ++ p ∷ [] → a ≡ Some place → place ≡ length noted → p.bytes.items ≡ bytes → bytes_at now a ≡ Some bytes
bytes_put now noted p a place bytes n e l b =
    ap₂ bytes_at n (e ∙ ap (λ (x : ℕ). Some x) l) ∙ last_there noted p ∙ ap (λ (x : List ℕ). Some x) b

-- ---- where one path was given a new place

pub new_place : (places : List ℕ → Option ℕ) (key path : List ℕ) (place : ℕ) → key ≡ path → update bytes_eq places key (Some place) path ≡ Some place
new_place places key path place e = ap (λ (b : Bool). if b then Some place else places path) ((bytes_eq-Decides key path).1 e)

pub old_place : (places : List ℕ → Option ℕ) (key path : List ℕ) (place : ℕ) → (key ≡ path → ⊥) → update bytes_eq places key (Some place) path ≡ places path
old_place places key path place d = by (bytes_eq key path) refl
  where
    by : (b : Bool) → bytes_eq key path ≡ b → (if b then Some place else places path) ≡ places path
    by true e = absurd (d ((bytes_eq-Decides key path).0 e))
    by false e = refl

pub ends_reach : (places : List ℕ → Option ℕ) (key path : List ℕ) (place : ℕ) (now noted before : List Put) (p : Put) (a : Option ℕ) → a ≡ update bytes_eq places key (Some place) path → now ≡ noted ++ p ∷ [] → noted ≡ before → place ≡ length noted
    → end_of (places path) ≤ length before → end_of a ≤ length now
ends_reach places key path place now noted before p a m w r l h = subst (λ (o : Option ℕ). end_of o ≤ length now) (sym m) (by (bytes_eq key path))
  where
    by : (b : Bool) → end_of (if b then Some place else places path) ≤ length now
    by true = omega (arith, ap length w, length-append noted (p ∷ []), l)
    by false = omega (arith, ap length w, ap length r, length-append noted (p ∷ []), h)

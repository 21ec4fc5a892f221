-- Items at indices.
use Rattle.std.proofs.Common.{◌≡◌, ℕ, zero, suc, ◌+◌, ◌≤◌, ◌<◌, List, [], ◌∷◌, ◌++◌, map, length, drop, get_or, refl, sym, ap, ◌∙◌, subst, arith, append_assoc, Option, Some, None, Result, Err}
use Rattle.std.specs.Prelude.{option_map, option_and_then}
use Rattle.std.specs.List.{All}
use Rattle.std.proofs.lemmas.List.{drop_more, drop_all, append-nil}
use Rattle.std.proofs.lemmas.List.Elements.{All-nil, All-cons, All-head, All-tail}
use Rattle.dr_meaning.specs.Record.{Value}
use Rattle.dr_formats.specs.Plain as plain
use Rattle.dr_plain.specs.declared.values.PickFault.{PickFault}
use Rattle.dr_plain.specs.Picking.{nth, picked}

nth_here : {A : Type 0} (xs : List A) (i : ℕ) (d : A) → i < length xs → nth xs i ≡ Some (get_or xs i d)
nth_here [] i d h = absurd (omega (arith, h))
nth_here (x ∷ xs) zero d h = refl
nth_here (x ∷ xs) (suc i) d h = nth_here xs i d (omega (arith, h))

nth_past : {A : Type 0} (xs : List A) (i : ℕ) → length xs ≤ i → nth xs i ≡ None
nth_past [] i h = refl
nth_past (x ∷ xs) zero h = absurd (omega (arith, h))
nth_past (x ∷ xs) (suc i) h = nth_past xs i (omega (arith, h))

-- the loop that picks: so many are there, the others are to be picked
abbrev pub Picking : {A : Type 0} → List A → List ℕ → List A → ℕ → Type 0
Picking {A = A} items indices found k = picked items indices ≡ option_map (λ (more : List A). found ++ more) (picked items (drop k indices))

map_same : {A : Type 0} (o : Option (List A)) → o ≡ option_map (λ (more : List A). [] ++ more) o
map_same None = refl
map_same (Some vs) = refl

pub picking_none : {A : Type 0} (items : List A) (indices : List ℕ) → Picking items indices [] 0
picking_none items indices = map_same (picked items indices)

joined : {A : Type 0} (front : List A) (x : A) (o : Option (List A)) → option_map (λ (more : List A). front ++ more) (option_map (λ (xs : List A). x ∷ xs) o) ≡ option_map (λ (more : List A). (front ++ x ∷ []) ++ more) o
joined front x None = refl
joined front x (Some more) = ap Some (sym (append_assoc front (x ∷ []) more))

next_picked : {A : Type 0} (items : List A) (i : ℕ) (is : List ℕ) (x : A) → nth items i ≡ Some x → picked items (i ∷ is) ≡ option_map (λ (xs : List A). x ∷ xs) (picked items is)
next_picked {A} items i is x e = ap (option_and_then (λ (y : A). option_map (λ (xs : List A). y ∷ xs) (picked items is))) e

none_picked : {A : Type 0} (items : List A) (i : ℕ) (is : List ℕ) → nth items i ≡ None → picked items (i ∷ is) ≡ None
none_picked {A} items i is e = ap (option_and_then (λ (y : A). option_map (λ (xs : List A). y ∷ xs) (picked items is))) e

pub picking_more : {A : Type 0} (items : List A) (indices : List ℕ) (found new : List A) (k : ℕ) (x : A) → k < length indices → get_or indices k 0 < length items → x ≡ get_or items (get_or indices k 0) x → new ≡ found ++ x ∷ [] → Picking items indices found k → Picking items indices new (k + 1)
picking_more {A} items indices found new k x h l e f p =
    p ∙ (ap (λ is. option_map (λ (more : List A). found ++ more) (picked items is)) (drop_more indices k 0 h) ∙ (ap (option_map (λ (more : List A). found ++ more)) (next_picked items (get_or indices k 0) (drop (k + 1) indices) x (nth_here items (get_or indices k 0) x l ∙ ap Some (sym e))) ∙ (joined found x (picked items (drop (k + 1) indices)) ∙ ap (λ (xs : List A). option_map (λ (more : List A). xs ++ more) (picked items (drop (k + 1) indices))) (sym f))))

pub picking_bad : {A : Type 0} (items : List A) (indices : List ℕ) (found : List A) (k : ℕ) → k < length indices → length items ≤ get_or indices k 0 → Picking items indices found k → picked items indices ≡ None
picking_bad {A} items indices found k h l p =
    p ∙ (ap (λ is. option_map (λ (more : List A). found ++ more) (picked items is)) (drop_more indices k 0 h) ∙ ap (option_map (λ (more : List A). found ++ more)) (none_picked items (get_or indices k 0) (drop (k + 1) indices) (nth_past items (get_or indices k 0) l)))

pub picking_all : {A : Type 0} (items : List A) (indices : List ℕ) (found : List A) (k : ℕ) → length indices ≤ k → Picking items indices found k → picked items indices ≡ Some found
picking_all {A} items indices found k h p = p ∙ (ap (λ is. option_map (λ (more : List A). found ++ more) (picked items is)) (drop_all k indices h) ∙ ap Some (append-nil found))

-- ---- as values

nth_seen : {A : Type 0} (f : A → Value) (items : List A) (i : ℕ) → plain.nth_value (map f items) i ≡ option_map f (nth items i)
nth_seen f [] i = refl
nth_seen f (x ∷ xs) zero = refl
nth_seen f (x ∷ xs) (suc i) = nth_seen f xs i

one_seen : {A : Type 0} (f : A → Value) (o : Option A) (p : Option (List A)) → option_and_then (λ (v : Value). option_map (λ vs. v ∷ vs) (option_map (map f) p)) (option_map f o) ≡ option_map (map f) (option_and_then (λ (x : A). option_map (λ (xs : List A). x ∷ xs) p) o)
one_seen f None p = refl
one_seen f (Some x) None = refl
one_seen f (Some x) (Some xs) = refl

all_seen : {A : Type 0} (f : A → Value) (items : List A) (is : List ℕ) → plain.pick (map f items) is ≡ option_map (map f) (picked items is)
all_seen f items [] = refl
all_seen f items (i ∷ is) =
    ap (λ p. option_and_then (λ (v : Value). option_map (λ vs. v ∷ vs) p) (plain.nth_value (map f items) i)) (all_seen f items is)
    ∙ (ap (option_and_then (λ (v : Value). option_map (λ vs. v ∷ vs) (option_map (map f) (picked items is)))) (nth_seen f items i) ∙ one_seen f (nth items i) (picked items is))

pub picked_seen : {A : Type 0} (f : A → Value) (items found : List A) (is : List ℕ) → picked items is ≡ Some found → plain.pick (map f items) is ≡ Some (map f found)
picked_seen f items found is e = all_seen f items is ∙ ap (option_map (map f)) e

pub not_picked_seen : {A : Type 0} (f : A → Value) (items : List A) (is : List ℕ) → picked items is ≡ None → plain.pick (map f items) is ≡ None
not_picked_seen f items is e = all_seen f items is ∙ ap (option_map (map f)) e

nth_holds : {A : Type 0} (P : A → Type 0) (items : List A) (i : ℕ) (x : A) → All P items → nth items i ≡ Some x → P x
nth_holds P [] i x h e = absurd (cc)
nth_holds P (y ∷ ys) zero x h e = let f : y ≡ x = cc in subst P f (All-head P y ys h)
nth_holds P (y ∷ ys) (suc i) x h e = nth_holds P ys i x (All-tail P y ys h) e

holds_by : {A : Type 0} (P : A → Type 0) (o : Option A) (p : Option (List A)) (found : List A) → ((x : A) → o ≡ Some x → P x) → ((xs : List A) → p ≡ Some xs → All P xs) → option_and_then (λ (x : A). option_map (λ (xs : List A). x ∷ xs) p) o ≡ Some found → All P found
holds_by P None p found h k e = absurd (cc)
holds_by P (Some x) None found h k e = absurd (cc)
holds_by P (Some x) (Some xs) found h k e = let f : x ∷ xs ≡ found = cc in subst (All P) f (All-cons P x xs (h x refl) (k xs refl))

-- what holds of all items holds of those that are picked
pub picked_hold : {A : Type 0} (P : A → Type 0) (items : List A) (is : List ℕ) (found : List A) → All P items → picked items is ≡ Some found → All P found
picked_hold {A} P items [] found h e = let n : List A = [] in let f : n ≡ found = cc in subst (All P) f (All-nil P)
picked_hold P items (i ∷ is) found h e = holds_by P (nth items i) (picked items is) found (λ x f. nth_holds P items i x h f) (λ xs f. picked_hold P items is xs h f) e

-- ---- the answers

pub seen_good : {A : Type 0} (f : A → Value) (dictionary : List Value) (items slice found : List A) (is : List ℕ) → dictionary ≡ map f items → slice ≡ items → picked slice is ≡ Some found → plain.pick dictionary is ≡ Some (map f found)
seen_good f dictionary items slice found is d e h = ap (λ vs. plain.pick vs is) d ∙ picked_seen f items found is (ap (λ xs. picked xs is) (sym e) ∙ h)

pub seen_bad : {A : Type 0} (f : A → Value) (dictionary : List Value) (items slice : List A) (is : List ℕ) → dictionary ≡ map f items → slice ≡ items → picked slice is ≡ None → plain.pick dictionary is ≡ None
seen_bad f dictionary items slice is d e h = ap (λ vs. plain.pick vs is) d ∙ not_picked_seen f items is (ap (λ xs. picked xs is) (sym e) ∙ h)

pub bad_again : {A B : Type 0} (r : Result B PickFault) (e y : PickFault) → r ≡ Err y → y ≡ e → r ≡ Err PickFault.BadIndex → Path (Result A PickFault) (Err e) (Err PickFault.BadIndex)
bad_again r e y h f k = let g : e ≡ PickFault.BadIndex = cc in ap Err g

-- Rows of an automaton's table, filled leaf by leaf, and the table, row by row.
use Rattle.std.specs.Prelude.{◌≡◌, ℕ, zero, suc, ◌+◌, ◌-◌, ◌<◌, ◌≤◌, List, [], ◌∷◌, ◌++◌, length, map, replicate, Bool, true, false, nat_le, if◌then◌else◌, Option, Some, None, Vec}
use Rattle.std.specs.declared.alloc.Global.{Global}
use Rattle.std.proofs.Common.{refl, sym, ap, ◌∙◌, arith, add-one, get_or, drop, append_assoc, append-nil, length-append, inl, inr}
use Rattle.std.proofs.lemmas.Bool.{cases_lt}
use Rattle.std.proofs.lemmas.Bool.Decides.{nat_tests}
use Rattle.std.proofs.lemmas.List.{drop_more, drop_all, map-append, get_or_append_left, get_or_push, get_or_past, length-map}
use Rattle.std.proofs.lemmas.Option.{slice_get-get_or, slice_get_past}
use Rattle.dr_meaning.specs.Path.{Step, common}
use Rattle.dr_meaning.specs.Automaton.{first_common, transition, transition_from}
use Rattle.dr_fsm.specs.declared.state.State.{State}
use Rattle.dr_fsm.proofs.TransitionLemmas.{with_next, with_no_next}
use Rattle.dr_fsm.specs.Tables.{state_view, state_or, row_view, table_at, Answers}

-- an element that was read, seen another way
pub read_map : {X Y : Type 0} (f : X → Y) (xs : List X) (i : ℕ) (x : X) (d : Y) → i < length xs → x ≡ get_or xs i x → f x ≡ get_or (map f xs) i d
read_map f [] i x d h e = absurd (omega (arith, h))
read_map f (y ∷ xs) zero x d h e = ap f e
read_map f (y ∷ xs) (suc i) x d h e = read_map f xs i x d (omega (arith, h)) e

-- ---- one state more

pub fill_more : (xs : List State) (n : ℕ) (s : State) → length xs < n → (xs ++ s ∷ []) ++ replicate (n - length (xs ++ s ∷ [])) s ≡ xs ++ replicate (n - length xs) s
fill_more xs n s h =
    let more : n - length xs ≡ suc (n - length (xs ++ s ∷ [])) = omega (arith, length-append xs (s ∷ []), h) in
    append_assoc xs (s ∷ []) (replicate (n - length (xs ++ s ∷ [])) s) ∙ sym (ap (λ (k : ℕ). xs ++ replicate k s) more)

pub filled_up : (xs : List State) (n : ℕ) (s : State) → n ≤ length xs → xs ++ replicate (n - length xs) s ≡ xs
filled_up xs n s h =
    let none : n - length xs ≡ 0 = omega (arith, h) in
    ap (λ (k : ℕ). xs ++ replicate k s) none ∙ append-nil xs

-- ---- where a filled row leads

in_replicate : (n l : ℕ) (s : State) (other : Option ℕ) → l < n → state_or (replicate n s) l other ≡ state_view s
in_replicate zero l s other h = absurd (omega (arith, h))
in_replicate (suc n) zero s other h = refl
in_replicate (suc n) (suc l) s other h = in_replicate n l s other (omega (arith, h))

past_replicate : (n l : ℕ) (s : State) (other : Option ℕ) → n ≤ l → state_or (replicate n s) l other ≡ other
past_replicate zero l s other h = refl
past_replicate (suc n) zero s other h = absurd (omega (arith, h))
past_replicate (suc n) (suc l) s other h = past_replicate n l s other (omega (arith, h))

-- a level up to the last that is filled
filled_to : (row : List State) (n d l : ℕ) (s : State) (other : Option ℕ) → l ≤ d → n ≡ d + 1 - length row → state_or (row ++ replicate n s) l other ≡ state_or row l (state_view s)
filled_to [] n d l s other h e = in_replicate n l s other (omega (arith, h, e))
filled_to (x ∷ row) n d zero s other h e = refl
filled_to (x ∷ row) n zero (suc l) s other h e = absurd (omega (arith, h))
filled_to (x ∷ row) n (suc d) (suc l) s other h e = filled_to row n d l s other (omega (arith, h)) (omega (arith, e))

nothing_more : (row : List State) (n l : ℕ) (s : State) (other : Option ℕ) → n ≡ 0 → state_or (row ++ replicate n s) l other ≡ state_or row l other
nothing_more row n l s other e = ap (λ (k : ℕ). state_or (row ++ replicate k s) l other) e ∙ ap (λ (xs : List State). state_or xs l other) (append-nil row)

-- a level above it
filled_below : (row : List State) (n d l : ℕ) (s : State) (other : Option ℕ) → d < l → n ≡ d + 1 - length row → state_or (row ++ replicate n s) l other ≡ state_or row l other
filled_below [] n d l s other h e = past_replicate n l s other (omega (arith, h, e))
filled_below (x ∷ row) n d zero s other h e = refl
filled_below (x ∷ row) n zero (suc l) s other h e = nothing_more row n l s other (omega (arith, e))
filled_below (x ∷ row) n (suc d) (suc l) s other h e = filled_below row n d l s other (omega (arith, h)) (omega (arith, e))

is_at_most : (l d : ℕ) → nat_le l d ≡ true → l ≤ d
is_at_most l d h = grind (arith, nat_tests)

is_above : (l d : ℕ) → nat_le l d ≡ false → d < l
is_above l d h = grind (arith, nat_tests)

filled_by : (b : Bool) (row : List State) (d l : ℕ) (s : State) (other : Option ℕ) → nat_le l d ≡ b → state_or (row ++ replicate (d + 1 - length row) s) l other ≡ state_or row l (if b then state_view s else other)
filled_by true row d l s other h = filled_to row (d + 1 - length row) d l s other (is_at_most l d h) refl
filled_by false row d l s other h = filled_below row (d + 1 - length row) d l s other (is_above l d h) refl

filled : (row : List State) (d l : ℕ) (s : State) (other : Option ℕ) → state_or (row ++ replicate (d + 1 - length row) s) l other ≡ state_or row l (if nat_le l d then state_view s else other)
filled row d l s other = filled_by (nat_le l d) row d l s other refl

-- ---- the front of a row

pub front_to_next : (order : List (List Step)) (i d : ℕ) (before states : List State) (s : State) → suc i < length order → before ≡ [] → d ≡ common (get_or order i []) (get_or order (suc i) []) → states ≡ before ++ replicate (d + 1 - length before) s
    → state_view s ≡ Some (suc i) → Answers order i states 0
front_to_next order i d before row s more none level is to = λ (l : ℕ).
    let f = get_or order i [] in
    let fits : i < length order = omega (arith, more) in
    let other = first_common 0 f l order in
    ap (λ (xs : List State). state_or xs l other) is ∙ filled before d l s other ∙ ap (λ (xs : List State). state_or xs l (if nat_le l d then state_view s else other)) none
    ∙ ap (λ (t : Option ℕ). if nat_le l d then t else other) to
    ∙ ap (λ (k : ℕ). if nat_le l k then Some (suc i) else other) level
    ∙ sym (with_next order i l f (get_or order (suc i) []) (slice_get-get_or order i [] fits) (slice_get-get_or order (suc i) [] more))

pub front_to_end : (order : List (List Step)) (i : ℕ) (before states : List State) (s : State) → i < length order → length order ≤ suc i → before ≡ [] → states ≡ before ++ replicate (0 + 1 - length before) s
    → state_view s ≡ None → Answers order i states 0
front_to_end order i before row s fits last none is to = λ (l : ℕ).
    let f = get_or order i [] in
    let other = first_common 0 f l order in
    ap (λ (xs : List State). state_or xs l other) is ∙ filled before 0 l s other ∙ ap (λ (xs : List State). state_or xs l (if nat_le l 0 then state_view s else other)) none
    ∙ ap (λ (t : Option ℕ). if nat_le l 0 then t else other) to
    ∙ sym (with_no_next order i l f (slice_get-get_or order i [] fits) (slice_get_past order (suc i) last))

-- ---- a leaf more, and the end

pub next_leaf : (order : List (List Step)) (i k d : ℕ) (before row : List State) (s : State) → k < length order → d ≡ common (get_or order i []) (get_or order k []) → row ≡ before ++ replicate (d + 1 - length before) s
    → state_view s ≡ Some k → Answers order i before k → Answers order i row (k + 1)
next_leaf order i k d before row s more level is to so_far = λ (l : ℕ).
    let f = get_or order i [] in
    let rest = drop (k + 1) order in
    let other = first_common (k + 1) f l rest in
    ap (λ (xs : List State). state_or xs l other) is ∙ filled before d l s other
    ∙ ap (λ (t : Option ℕ). state_or before l (if nat_le l d then t else other)) to
    ∙ ap (λ (e : ℕ). state_or before l (if nat_le l e then Some k else other)) level
    ∙ ap (λ (j : ℕ). state_or before l (if nat_le l (common f (get_or order k [])) then Some k else first_common j f l rest)) (add-one k)
    ∙ ap (λ (gs : List (List Step)). state_or before l (first_common k f l gs)) (sym (drop_more order k [] more))
    ∙ so_far l

pub row_ends : (order : List (List Step)) (i k : ℕ) (row : List State) → length order ≤ k → Answers order i row k → (l : ℕ) → state_or row l None ≡ transition order i l
row_ends order i k row end so_far l = ap (λ (gs : List (List Step)). state_or row l (first_common k (get_or order i []) l gs)) (sym (drop_all k order end)) ∙ so_far l

-- ---- the table

row_at_push : (rows : List (Vec State Global)) (r : Vec State Global) (i k : ℕ) → length rows ≡ k → i < k → get_or (map row_view (rows ++ r ∷ [])) i [] ≡ get_or (map row_view rows) i []
row_at_push rows r i k n h = ap (λ (xs : List (List State)). get_or xs i []) (map-append row_view rows (r ∷ [])) ∙ get_or_append_left (map row_view rows) (row_view r ∷ []) [] i (omega (arith, length-map rows row_view, n, h))

last_row : (rows : List (Vec State Global)) (r : Vec State Global) (k : ℕ) → length rows ≡ k → get_or (map row_view (rows ++ r ∷ [])) k [] ≡ row_view r
last_row rows r k n = ap (λ (xs : List (List State)). get_or xs k []) (map-append row_view rows (r ∷ [])) ∙ get_or_push (map row_view rows) (row_view r) [] k (length-map rows row_view ∙ n)

pub next_row : (order : List (List Step)) (rows now : List (Vec State Global)) (r : Vec State Global) (k : ℕ) → length rows ≡ k → now ≡ rows ++ r ∷ [] → ((i l : ℕ) → i < k → table_at rows i l ≡ transition order i l)
    → ((l : ℕ) → state_or (row_view r) l None ≡ transition order k l) → (i l : ℕ) → i < k + 1 → table_at now i l ≡ transition order i l
next_row order rows now r k n is so_far one i l h =
    ap (λ (rs : List (Vec State Global)). table_at rs i l) is
    ∙ elim (cases_lt i k) [
      | inl below ↦ ap (λ (xs : List State). state_or xs l None) (row_at_push rows r i k n below) ∙ so_far i l below
      | inr past ↦
          (let last : i ≡ k = omega (arith, h, past) in
          ap (λ (j : ℕ). table_at (rows ++ r ∷ []) j l) last ∙ ap (λ (xs : List State). state_or xs l None) (last_row rows r k n) ∙ one l ∙ ap (λ (j : ℕ). transition order j l) (sym last))
    ]

pub table_ends : (order : List (List Step)) (rows : List (Vec State Global)) (k : ℕ) → length rows ≡ k → length order ≤ k → ((i l : ℕ) → i < k → table_at rows i l ≡ transition order i l) → (i l : ℕ) → table_at rows i l ≡ transition order i l
table_ends order rows k n end so_far i l =
    elim (cases_lt i k) [
      | inl below ↦ so_far i l below
      | inr past ↦ ap (λ (xs : List State). state_or xs l None) (get_or_past (map row_view rows) i [] (omega (arith, length-map rows row_view, n, past)))
          ∙ sym (ap (transition_from order i l) (slice_get_past order i (omega (arith, end, past))))
    ]

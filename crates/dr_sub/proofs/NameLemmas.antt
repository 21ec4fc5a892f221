-- The names that items need, by the plan of their objects, are those by the levels of the schema.
use Rattle.std.specs.Prelude.{◌≡◌, ◌<◌, ◌≤◌, ℕ, zero, suc, ◌+◌, ◌-◌, List, [], ◌∷◌, ◌++◌, map, length, get_or, drop, take, string_bytes, Bool, true, false, not, ◌&&◌, ◌||◌, nat_lt, bytes_eq, if◌then◌else◌, Option, Some, None, filter}
use Rattle.std.specs.List.{list_any, join_with_byte}
use Rattle.std.proofs.Common.{refl, sym, ap, ap₂, ◌∙◌, arith, cond, true≢false, subst, append_assoc, length-drop}
use Rattle.std.proofs.lemmas.List.{drop_more, drop_all, length-map, map-append, take_all}
use Rattle.std.proofs.lemmas.Bool.Decides.{nat_tests}
use Rattle.dr_meaning.specs.Schema.{greatest_depth, longest_name}
use Rattle.dr_meaning.specs.Path.{Step, begins_with, same_path}
use Rattle.dr_meaning.specs.Query.{RecordItem, Levels, no_levels, deeper, term_chain, leads_to_items}
use Rattle.dr_nested.specs.PathView.{step_view}
use Rattle.dr_plan.specs.declared.objects.ObjectPlan as objects
use Rattle.dr_plan.specs.declared.objects.ListPlan as list_plans
use Rattle.dr_cells.specs.PlanShapes.{plan_list_view, plan_lists_view}
use Rattle.dr_cells.proofs.ShapeLemmas.{view-list_plan, view-object}
use Rattle.dr_plan.specs.Objects.{ObjectTree, SeenList, ListTrees, list_tree, object_tree, places_at, with_list_tree, list_trees}
use Rattle.dr_sub_meaning.specs.ResultRecords.{field_name}
use Rattle.dr_sub_meaning.specs.ResultFaults as meant
use Rattle.dr_sub.specs.ResultNames.{name_view, names_view, lists_to, names_of_item, is_same, is_at_fault, have_fault, first_fault}
use Rattle.dr_sub.specs.declared.names.ResultName.{ResultName}

-- ---- tests of names

pub any_viewed : (p : meant.ResultName → Bool) (ns : List ResultName) → list_any (λ (n : ResultName). p (name_view n)) ns ≡ list_any p (names_view ns)
any_viewed p [] = refl
any_viewed p (n ∷ ns) = ap (λ b. p (name_view n) || b) (any_viewed p ns)

long_is : (bs : List ℕ) → 64 < length bs → nat_lt longest_name (length bs) ≡ true
long_is bs h = grind (arith, nat_tests)

short_is : (bs : List ℕ) → length bs ≤ 64 → nat_lt longest_name (length bs) ≡ false
short_is bs h = grind (arith, nat_tests)

abbrev pub Among : List ResultName → meant.ResultName → Bool
Among earlier n = list_any (λ (m : ResultName). meant.is_same_list n.leads_to (name_view m).leads_to) earlier

-- an earlier item has brought it in
pub known_passes : (earlier : List ResultName) (n : meant.ResultName) (b : Bool) → b ≡ Among earlier n → b ≡ true → false ≡ is_at_fault (names_view earlier) n
known_passes earlier n b e h =
    sym (ap (λ a. not a && (meant.is_long n || meant.is_taken (names_view earlier) n)) (sym (any_viewed (λ (m : meant.ResultName). meant.is_same_list n.leads_to m.leads_to) earlier) ∙ (sym e ∙ h)))

pub long_fails : (earlier : List ResultName) (n : meant.ResultName) (b : Bool) (m : ℕ) → b ≡ Among earlier n → b ≡ false → m ≡ length n.name → 64 < m → true ≡ is_at_fault (names_view earlier) n
long_fails earlier n b m e h f l =
    sym (ap₂ (λ a c. not a && (c || meant.is_taken (names_view earlier) n)) (sym (any_viewed (λ (m : meant.ResultName). meant.is_same_list n.leads_to m.leads_to) earlier) ∙ (sym e ∙ h)) (long_is n.name (omega (arith, f, l))))

pub taken_fails : (earlier : List ResultName) (n : meant.ResultName) (b t : Bool) (m : ℕ) → b ≡ Among earlier n → b ≡ false → m ≡ length n.name → m ≤ 64 → t ≡ list_any (λ (o : ResultName). is_same n (name_view o)) earlier
    → t ≡ is_at_fault (names_view earlier) n
taken_fails earlier n b t m e h f l g =
    let among : meant.is_list_among (names_view earlier) n ≡ false = sym (any_viewed (λ (m : meant.ResultName). meant.is_same_list n.leads_to m.leads_to) earlier) ∙ (sym e ∙ h) in
    let short : meant.is_long n ≡ false = short_is n.name (omega (arith, f, l)) in
    let same : is_at_fault (names_view earlier) n ≡ meant.is_taken (names_view earlier) n = ap₂ (λ a c. not a && (c || meant.is_taken (names_view earlier) n)) among short in
    let there : list_any (λ (o : ResultName). is_same n (name_view o)) earlier ≡ meant.is_taken (names_view earlier) n = any_viewed (λ (o : meant.ResultName). same_path n.inside o.inside && bytes_eq n.name o.name) earlier in
    g ∙ there ∙ sym same

not_deep : (ns : List ResultName) → length ns ≤ 32 → nat_lt greatest_depth (length (names_view ns)) ≡ false
not_deep ns h = let e = length-map ns name_view in grind (arith, nat_tests, e, h)

pub fault_there : (earlier ns : List ResultName) (b : Bool) → length ns ≤ 32 → b ≡ list_any (λ (n : ResultName). is_at_fault (names_view earlier) (name_view n)) ns → b ≡ have_fault (names_view earlier) (names_view ns)
fault_there earlier ns b h e = e ∙ any_viewed (is_at_fault (names_view earlier)) ns ∙ sym (ap (λ d. d || list_any (is_at_fault (names_view earlier)) (names_view ns)) (not_deep ns h))

-- ---- faults

both_any : (p q r : meant.ResultName → Bool) (ns : List meant.ResultName)
    → (list_any p (filter (λ n. not (r n)) ns) || list_any q (filter (λ n. not (r n)) ns)) ≡ list_any (λ n. not (r n) && (p n || q n)) ns
both_any p q r [] = refl
both_any p q r (n ∷ ns) = by_test (r n) (p n) (q n) (both_any p q r ns)
  where
    by_test : (a b c : Bool) → (list_any p (filter (λ m. not (r m)) ns) || list_any q (filter (λ m. not (r m)) ns)) ≡ list_any (λ m. not (r m) && (p m || q m)) ns
        → (list_any p (cond (not a) (n ∷ filter (λ m. not (r m)) ns) (filter (λ m. not (r m)) ns)) || list_any q (cond (not a) (n ∷ filter (λ m. not (r m)) ns) (filter (λ m. not (r m)) ns)))
        ≡ ((not a && (p n || q n)) || list_any (λ m. not (r m) && (p m || q m)) ns)
    by_test true b c h = h
    by_test false b c h = joined (p n) (q n) _ _ _ h
      where
        joined : (b c d e f : Bool) → (d || e) ≡ f → ((b || d) || (c || e)) ≡ ((b || c) || f)
        joined true c d e f g = refl
        joined false true true e f g = refl
        joined false true false e f g = refl
        joined false false d e f g = g

fault_is : (earlier : List meant.ResultName) (ls : Levels) (i : RecordItem) (ns : List meant.ResultName) → ns ≡ meant.names_of_item ls i → have_fault earlier ns ≡ meant.has_name_fault earlier ls i
fault_is earlier ls i ns e =
    ap (have_fault earlier) e
    ∙ ap (λ b. nat_lt greatest_depth (length (meant.names_of_item ls i)) || b) (sym (both_any meant.is_long (meant.is_taken earlier) (meant.is_list_among earlier) (meant.names_of_item ls i)))
    ∙ swapped (nat_lt greatest_depth (length (meant.names_of_item ls i))) (list_any meant.is_long (meant.new_names earlier ls i) || list_any (meant.is_taken earlier) (meant.new_names earlier ls i))
  where
    swapped : (a b : Bool) → (a || b) ≡ (b || a)
    swapped true true = refl
    swapped true false = refl
    swapped false true = refl
    swapped false false = refl

-- ---- the lists that lead to an item

-- a level that leads to no item doesn't lead to this one
not_there : (items : List RecordItem) (p : List Step) (i : RecordItem) (k : ℕ) → k < length items → get_or items k i ≡ i → leads_to_items items p ≡ false → begins_with p (term_chain i.term) ≡ false
not_there [] p i k h e f = absurd (omega (arith, h))
not_there (x ∷ items) p i zero h e f = ap (λ (y : RecordItem). begins_with p (term_chain y.term)) (sym e) ∙ first (begins_with p (term_chain x.term)) _ f
  where
    first : (a b : Bool) → (a || b) ≡ false → a ≡ false
    first true b g = g
    first false b g = refl
not_there (x ∷ items) p i (suc k) h e f = not_there items p i k (omega (arith, h)) e (later (begins_with p (term_chain x.term)) _ f)
  where
    later : (a b : Bool) → (a || b) ≡ false → b ≡ false
    later true b g = absurd (true≢false g)
    later false b g = g

lists_are : (items : List RecordItem) (i : RecordItem) (k : ℕ) → k < length items → get_or items k i ≡ i → (at : List Step) (ls : Levels)
    → lists_to at (list_trees items ls) (term_chain i.term) ≡ meant.lists_to at ls (term_chain i.term)
lists_are items i k h e at no_levels = refl
lists_are items i k h e at (deeper names p below beside) =
    by_level (leads_to_items items p) (begins_with p (term_chain i.term)) refl refl (lists_are items i k h e p below) (lists_are items i k h e at beside)
  where
    by_level : (b c : Bool) → leads_to_items items p ≡ b → begins_with p (term_chain i.term) ≡ c
        → lists_to p (list_trees items below) (term_chain i.term) ≡ meant.lists_to p below (term_chain i.term) → lists_to at (list_trees items beside) (term_chain i.term) ≡ meant.lists_to at beside (term_chain i.term)
        → lists_to at (with_list_tree b (join_with_byte 46 names) p (object_tree (places_at 0 items p) (list_trees items below)) (list_trees items beside)) (term_chain i.term)
        ≡ (if begins_with p (term_chain i.term) then record { inside = at; name = field_name (join_with_byte 46 names); leads_to = Some p } ∷ meant.lists_to p below (term_chain i.term) else meant.lists_to at beside (term_chain i.term))
    by_level true c f g x y = ap₂ (λ (xs ys : List meant.ResultName). if begins_with p (term_chain i.term) then record { inside = at; name = field_name (join_with_byte 46 names); leads_to = Some p } ∷ xs else ys) x y
    by_level false c f g x y =
        y ∙ sym (ap (λ b. if b then record { inside = at; name = field_name (join_with_byte 46 names); leads_to = Some p } ∷ meant.lists_to p below (term_chain i.term) else meant.lists_to at beside (term_chain i.term)) (not_there items p i k h e f))

names_are : (items : List RecordItem) (i : RecordItem) (k : ℕ) (ls : Levels) → k < length items → get_or items k i ≡ i → names_of_item (list_trees items ls) i ≡ meant.names_of_item ls i
names_are items i k ls h e = ap (λ (ns : List meant.ResultName). meant.own_name i ∷ ns) (lists_are items i k h e [] ls)

-- ---- the first fault

fault_from : (all : List RecordItem) (ls : Levels) (earlier : List meant.ResultName) (n : ℕ) (is : List RecordItem) → drop n all ≡ is
    → first_fault (list_trees all ls) earlier n is ≡ meant.first_name_fault ls earlier n is
fault_from all ls earlier n [] d = refl
fault_from all ls earlier n (i ∷ is) d =
    let within : n < length all = within_all all n i is d in
    let here : get_or all n i ≡ i = here_in all n i is d in
    let e : names_of_item (list_trees all ls) i ≡ meant.names_of_item ls i = names_are all i n ls within here in
    ap₂ (λ b (o : Option ℕ). if b then Some n else o) (fault_is earlier ls i (names_of_item (list_trees all ls) i) e)
    (ap (λ (ns : List meant.ResultName). first_fault (list_trees all ls) (earlier ++ ns) (suc n) is) e
    ∙ fault_from all ls (earlier ++ meant.names_of_item ls i) (suc n) is (next_of all n i is d))
  where
    within_all : (xs : List RecordItem) (m : ℕ) (x : RecordItem) (rest : List RecordItem) → drop m xs ≡ x ∷ rest → m < length xs
    within_all [] zero x rest f = absurd (cc)
    within_all [] (suc m) x rest f = absurd (cc)
    within_all (y ∷ xs) zero x rest f = omega arith
    within_all (y ∷ xs) (suc m) x rest f = let r = within_all xs m x rest f in omega (arith, r)

    here_in : (xs : List RecordItem) (m : ℕ) (x : RecordItem) (rest : List RecordItem) → drop m xs ≡ x ∷ rest → get_or xs m x ≡ x
    here_in [] zero x rest f = refl
    here_in [] (suc m) x rest f = refl
    here_in (y ∷ xs) zero x rest f = cc
    here_in (y ∷ xs) (suc m) x rest f = here_in xs m x rest f

    next_of : (xs : List RecordItem) (m : ℕ) (x : RecordItem) (rest : List RecordItem) → drop m xs ≡ x ∷ rest → drop (suc m) xs ≡ rest
    next_of [] zero x rest f = absurd (cc)
    next_of [] (suc m) x rest f = absurd (cc)
    next_of (y ∷ xs) zero x rest f = cc
    next_of (y ∷ xs) (suc m) x rest f = next_of xs m x rest f

pub first_fault_is : (items : List RecordItem) (ls : Levels) → first_fault (list_trees items ls) [] 0 items ≡ meant.first_name_fault ls [] 0 items
first_fault_is items ls = fault_from items ls [] 0 items refl

-- ---- in code: the lists of a plan

next_list : (lists : List list_plans.ListPlan) (k : ℕ) (l : list_plans.ListPlan) → k < length lists → l ≡ get_or lists k l → drop k lists ≡ l ∷ drop (k + 1) lists
next_list lists k l h at = drop_more lists k l h ∙ ap (λ (x : list_plans.ListPlan). x ∷ drop (k + 1) lists) (sym at)

abbrev pub level_of : list_plans.ListPlan → List Step
level_of l = map step_view (list_plans.out-ListPlan l).level.items

abbrev pub inner_of : list_plans.ListPlan → ListTrees
inner_of l = plan_lists_view (objects.out-ObjectPlan (list_plans.out-ListPlan l).object).lists.items

list_by : (at : List Step) (l : list_plans.ListPlan) (rest : ListTrees) (q : List Step)
    → lists_to at (list_tree (plan_list_view l).name (plan_list_view l).level (plan_list_view l).object rest) q
    ≡ (if begins_with (level_of l) q then record { inside = at; name = field_name (string_bytes (list_plans.out-ListPlan l).name); leads_to = Some (level_of l) } ∷ lists_to (level_of l) (inner_of l) q
    else lists_to at rest q)
list_by at l rest q =
    ap (λ (x : SeenList). lists_to at (list_tree x.name x.level x.object rest) q) (view-list_plan l)
    ∙ ap (λ (o : ObjectTree). lists_to at (list_tree (string_bytes (list_plans.out-ListPlan l).name) (level_of l) o rest) q) (view-object (list_plans.out-ListPlan l).object)

-- a list that leads there
pub list_found : (lists : List list_plans.ListPlan) (k : ℕ) (l : list_plans.ListPlan) (at q : List Step) (b : Bool) → k < length lists → l ≡ get_or lists k l → b ≡ begins_with (level_of l) q → b ≡ true
    → lists_to at (plan_lists_view (drop k lists)) q ≡ record { inside = at; name = field_name (string_bytes (list_plans.out-ListPlan l).name); leads_to = Some (level_of l) } ∷ lists_to (level_of l) (inner_of l) q
list_found lists k l at q b h e f t =
    ap (λ (xs : List list_plans.ListPlan). lists_to at (plan_lists_view xs) q) (next_list lists k l h e)
    ∙ list_by at l (plan_lists_view (drop (k + 1) lists)) q
    ∙ ap (λ c. if c then record { inside = at; name = field_name (string_bytes (list_plans.out-ListPlan l).name); leads_to = Some (level_of l) } ∷ lists_to (level_of l) (inner_of l) q else lists_to at (plan_lists_view (drop (k + 1) lists)) q) (sym f ∙ t)

pub list_passed : (lists : List list_plans.ListPlan) (k : ℕ) (l : list_plans.ListPlan) (at q : List Step) (b : Bool) → k < length lists → l ≡ get_or lists k l → b ≡ begins_with (level_of l) q → b ≡ false
    → lists_to at (plan_lists_view (drop k lists)) q ≡ lists_to at (plan_lists_view (drop (k + 1) lists)) q
list_passed lists k l at q b h e f t =
    ap (λ (xs : List list_plans.ListPlan). lists_to at (plan_lists_view xs) q) (next_list lists k l h e)
    ∙ list_by at l (plan_lists_view (drop (k + 1) lists)) q
    ∙ ap (λ c. if c then record { inside = at; name = field_name (string_bytes (list_plans.out-ListPlan l).name); leads_to = Some (level_of l) } ∷ lists_to (level_of l) (inner_of l) q else lists_to at (plan_lists_view (drop (k + 1) lists)) q) (sym f ∙ t)

pub no_list_left : (lists : List list_plans.ListPlan) (k : ℕ) (at q : List Step) → length lists ≤ k → lists_to at (plan_lists_view (drop k lists)) q ≡ []
no_list_left lists k at q h = ap (λ (xs : List list_plans.ListPlan). lists_to at (plan_lists_view xs) q) (drop_all k lists h)

-- one name more, and others behind it
pub names_pushed : (before after : List ResultName) (n : ResultName) (m : meant.ResultName) (rest final : List meant.ResultName) → final ≡ names_view after ++ rest → after ≡ before ++ n ∷ [] → name_view n ≡ m
    → final ≡ names_view before ++ m ∷ rest
names_pushed before after n m rest final f e h =
    f ∙ ap (λ (ns : List ResultName). names_view ns ++ rest) e ∙ ap (λ (ms : List meant.ResultName). ms ++ rest) (map-append name_view before (n ∷ []))
    ∙ append_assoc (names_view before) (name_view n ∷ []) rest ∙ ap (λ (x : meant.ResultName). names_view before ++ x ∷ rest) h

-- ---- in code: the first fault

split_names : (new : List ResultName) (old more : List meant.ResultName) → names_view new ≡ old ++ more → (names_view (take (length old) new) ≡ old) × (names_view (drop (length old) new) ≡ more)
split_names new [] more e = (refl, e)
split_names [] (o ∷ old) more e = absurd (cc)
split_names (n ∷ new) (o ∷ old) more e =
    let h : name_view n ≡ o = cc in
    let t : names_view new ≡ old ++ more = cc in
    let r = split_names new old more t in
    (ap₂ (λ x xs. x ∷ xs) h r.0, r.1)

split_at : (new old : List ResultName) (start : ℕ) (more : List meant.ResultName) → names_view new ≡ names_view old ++ more → start ≡ length old → (names_view (take start new) ≡ names_view old) × (names_view (drop start new) ≡ more)
split_at new old start more e h =
    subst (λ k. (names_view (take k new) ≡ names_view old) × (names_view (drop k new) ≡ more)) (length-map old name_view ∙ sym h) (split_names new (names_view old) more e)

one_item : {A : Type 0} (see : A → RecordItem) (xs : List A) (k : ℕ) (x : A) → k < length xs → x ≡ get_or xs k x → map see (drop k xs) ≡ see x ∷ map see (drop (k + 1) xs)
one_item see xs k x h e = ap (map see) (drop_more xs k x h ∙ ap (λ y. y ∷ drop (k + 1) xs) (sym e))

pub fault_found : {A : Type 0} (see : A → RecordItem) (lists : ListTrees) (xs : List A) (k start : ℕ) (x : A) (old new : List ResultName) (b : Bool) → k < length xs → x ≡ get_or xs k x → start ≡ length old
    → names_view new ≡ names_view old ++ names_of_item lists (see x) → b ≡ have_fault (names_view (take start new)) (names_view (drop start new)) → b ≡ true
    → Some k ≡ first_fault lists (names_view old) k (map see (drop k xs))
fault_found see lists xs k start x old new b h at s e f t =
    let parts = split_at new old start (names_of_item lists (see x)) e s in
    sym (ap (first_fault lists (names_view old) k) (one_item see xs k x h at)
    ∙ ap (λ c. if c then Some k else first_fault lists (names_view old ++ names_of_item lists (see x)) (suc k) (map see (drop (k + 1) xs))) (sym (ap₂ have_fault parts.0 parts.1) ∙ (sym f ∙ t)))

pub fault_passed : {A : Type 0} (see : A → RecordItem) (lists : ListTrees) (xs : List A) (k start : ℕ) (x : A) (old new : List ResultName) (b : Bool) → k < length xs → x ≡ get_or xs k x → start ≡ length old
    → names_view new ≡ names_view old ++ names_of_item lists (see x) → b ≡ have_fault (names_view (take start new)) (names_view (drop start new)) → b ≡ false
    → first_fault lists (names_view new) (k + 1) (map see (drop (k + 1) xs)) ≡ first_fault lists (names_view old) k (map see (drop k xs))
fault_passed see lists xs k start x old new b h at s e f t =
    let parts = split_at new old start (names_of_item lists (see x)) e s in
    let n : k + 1 ≡ suc k = omega arith in
    ap₂ (λ (ns : List meant.ResultName) m. first_fault lists ns m (map see (drop (k + 1) xs))) e n
    ∙ sym (ap (first_fault lists (names_view old) k) (one_item see xs k x h at)
    ∙ ap (λ c. if c then Some k else first_fault lists (names_view old ++ names_of_item lists (see x)) (suc k) (map see (drop (k + 1) xs))) (sym (ap₂ have_fault parts.0 parts.1) ∙ (sym f ∙ t)))

pub no_fault_left : {A : Type 0} (see : A → RecordItem) (lists : ListTrees) (xs : List A) (k : ℕ) (old : List meant.ResultName) → length xs ≤ k → first_fault lists old k (map see (drop k xs)) ≡ None
no_fault_left see lists xs k old h = ap (λ ys. first_fault lists old k (map see ys)) (drop_all k xs h)

-- what is behind a place, as a slice up to the end
pub rest_is : (xs : List ResultName) (s : ℕ) → take (length xs - s) (drop s xs) ≡ drop s xs
rest_is xs s = let l = length-drop s xs in take_all (length xs - s) (drop s xs) (omega (arith, l))

-- What binding tells of the names of items: those that an earlier item of the object has, or a list in it.
use Rattle.std.proofs.Common.{◌≡◌, ◌⊎◌, inl, inr, ℕ, suc, List, [], ◌∷◌, Bool, true, false, Option, Some, None, refl, sym, ap, ap₂, ◌∙◌, subst, true≢false}
use Rattle.std.specs.Prelude.{◌||◌, if◌then◌else◌, bytes_eq}
use Rattle.std.specs.List.{list_any, slice_get, cons_option}
use Rattle.std.proofs.lemmas.Bool.{and_parts, and_from}
use Rattle.std.proofs.lemmas.Slice.Eq.{bytes_eq-Decides}
use Rattle.dr_meaning.specs.Schema.{Fields}
use Rattle.dr_meaning.specs.Path.{chain_end, same_path}
use Rattle.dr_meaning.specs.Query.{levels_of}
use Rattle.dr_meaning.specs.Syntax.{WithinSyntax, TermSyntax, expression, count_rows, aggregate, ItemSyntax, QuerySyntax}
use Rattle.dr_meaning.specs.BoundExpression.{duplicate_name, BindFault, fault_at, Checked, passes, fails, bind_expression}
use Rattle.dr_meaning.specs.Binding.{BoundWithin, bind_within, bind_argument, BoundTerm, plain, rows_counted, aggregated, bind_term, BoundItem, bind_item, bind_items, is_record_syntax, if_passed, passing, deepest_chain, within_chain, item_chain, object_of, list_between, is_named, has_name_of, has_name_of_list, name_faults, duplicates_behind, duplicate_faults}
use Rattle.dr_query_laws.specs.QueryRules.{Passes, within_steps, object_steps, ShareObject, ListLeads, name_of, HasNameOfEarlier, HasNameOfList, IsDuplicate}
use Rattle.dr_query_laws.proofs.RulesOfQueries.{Exact, ItemRule, same_some}
use Rattle.dr_query_laws.proofs.RulesOfPaths.{passes_as, fails_as, Told, told_none, told_one, told_as, told_append, item_is, of_item}
use Rattle.dr_query_laws.proofs.RulesOfItems.{expression_steps, WithinIs, within_is, is_aggregate, is_no_aggregate}
use Rattle.dr_query_laws.proofs.Earlier.{Member, any_member, member_any, AtFrom, from_start, at_start, Mirror, mirror_none, mirror_more, mirror_skip}
use Rattle.dr_query_laws.proofs.WrittenExpressions.{same_inside}
use Rattle.dr_query_laws.proofs.BoundItems.{mapped_passes, together_passes}

-- ---- the object of an item

within_chain_is : (fs : Fields) (o : Option WithinSyntax) (v : Option BoundWithin) → WithinIs fs o v → within_chain v ≡ within_steps fs o
within_chain_is fs None None h = refl
within_chain_is fs None (Some v) h = absurd h
within_chain_is fs (Some w) None h = absurd h
within_chain_is fs (Some w) (Some v) h = ap chain_end h.1

level_is : (fs : Fields) (j : ℕ) (t : TermSyntax) (c : BoundTerm) → bind_term fs j t ≡ passes c → item_chain c ≡ object_steps fs t
level_is fs j (expression e) c h =
    let q = mapped_passes plain (bind_expression fs e) c h in
    subst (λ x. item_chain x ≡ object_steps fs (expression e)) q.2 (ap deepest_chain (expression_steps fs e q.0 q.1))
level_is fs j (count_rows o) c h =
    let q = mapped_passes rows_counted (bind_within fs o) c h in
    subst (λ x. item_chain x ≡ within_steps fs o) q.2 (within_chain_is fs o q.0 (within_is fs o q.0 q.1))
level_is fs j (aggregate a e o) c h =
    let q = together_passes (aggregated a) (bind_argument fs j a e) (bind_within fs o) c h in
    subst (λ x. item_chain x ≡ within_steps fs o) q.4 (within_chain_is fs o q.1 (within_is fs o q.1 q.3))

-- ---- what is read of an item that passes

abbrev ItemIs : Fields → ℕ → ItemSyntax → BoundItem → Type 0
ItemIs fs n x v = bind_item fs n x ≡ passes v

abbrev ItemRead : Fields → ℕ → ItemSyntax → BoundItem → Type 0
ItemRead fs n x v = (v.place ≡ x.place) × (v.name ≡ name_of n x) × (item_chain v.term ≡ object_steps fs x.term)

item_read : (fs : Fields) (n : ℕ) (x : ItemSyntax) (v : BoundItem) → ItemIs fs n x v → ItemRead fs n x v
item_read fs n x v h = let t = item_is fs n x v h in subst (ItemRead fs n x) t.2 (refl, refl, level_is fs x.place x.term t.0 t.1)

item_passes : (fs : Fields) (n : ℕ) (x : ItemSyntax) (v : BoundItem) → ItemIs fs n x v → Passes (ItemRule fs x)
item_passes fs n x v h = passes_as (ItemRule fs x) (bind_item fs n x) v (of_item fs n x) h

item_bound : (fs : Fields) (n : ℕ) (x : ItemSyntax) → Passes (ItemRule fs x) → (v : BoundItem) × ItemIs fs n x v
item_bound fs n x h = by_outcome (bind_item fs n x) refl
  where
    by_outcome : (c : Checked BoundItem) → bind_item fs n x ≡ c → (v : BoundItem) × ItemIs fs n x v
    by_outcome (passes v) e = (v, e)
    by_outcome (fails f fs') e = absurd (fails_as (ItemRule fs x) (bind_item fs n x) f fs' (of_item fs n x) e h)

one_outcome : (fs : Fields) (n : ℕ) (x : ItemSyntax) (v w : BoundItem) → ItemIs fs n x v → ItemIs fs n x w → v ≡ w
one_outcome fs n x v w h k = same_inside v w (sym h ∙ k)

-- ---- one object

abbrev Both : Type 0 → Type 0 → Type 0
Both A B = (A → B) × (B → A)

share_told : (fs : Fields) (q : QuerySyntax) (n m : ℕ) (x y : ItemSyntax) (v w : BoundItem) → ItemRead fs n x v → ItemRead fs m y w
    → Both (same_path (object_of (is_record_syntax q) v) (object_of (is_record_syntax q) w) ≡ true) (ShareObject fs q x y)
share_told fs q n m x y v w h k = by_kind (is_record_syntax q) refl
  where
    levels : same_path (item_chain v.term) (item_chain w.term) ≡ same_path (object_steps fs x.term) (object_steps fs y.term)
    levels = ap₂ same_path h.2 k.2

    by_kind : (b : Bool) → is_record_syntax q ≡ b → Both (same_path (object_of b v) (object_of b w) ≡ true) (ShareObject fs q x y)
    by_kind true e = ((λ u. inr (sym levels ∙ u)), back)
      where
        back : ShareObject fs q x y → same_path (item_chain v.term) (item_chain w.term) ≡ true
        back (inl a) = absurd (is_no_aggregate q e a)
        back (inr u) = levels ∙ u
    by_kind false e = ((λ u. inl (is_aggregate q e)), λ u. refl)

-- ---- one name

name_told : (fs : Fields) (q : QuerySyntax) (n m : ℕ) (x y : ItemSyntax) (v w : BoundItem) → ItemRead fs n x v → ItemRead fs m y w
    → Both (has_name_of (is_record_syntax q) v w ≡ true) (ShareObject fs q x y × (name_of n x ≡ name_of m y))
name_told fs q n m x y v w h k = (to, back)
  where
    share : Both (same_path (object_of (is_record_syntax q) v) (object_of (is_record_syntax q) w) ≡ true) (ShareObject fs q x y)
    share = share_told fs q n m x y v w h k

    to : has_name_of (is_record_syntax q) v w ≡ true → ShareObject fs q x y × (name_of n x ≡ name_of m y)
    to u =
        let p = and_parts (same_path (object_of (is_record_syntax q) v) (object_of (is_record_syntax q) w)) (bytes_eq v.name w.name) u in
        (share.0 p.0, sym h.1 ∙ (bytes_eq-Decides v.name w.name).0 p.1 ∙ k.1)

    back : ShareObject fs q x y × (name_of n x ≡ name_of m y) → has_name_of (is_record_syntax q) v w ≡ true
    back u =
        and_from (same_path (object_of (is_record_syntax q) v) (object_of (is_record_syntax q) w)) (bytes_eq v.name w.name) (share.1 u.0)
        ((bytes_eq-Decides v.name w.name).1 (h.1 ∙ u.1 ∙ sym k.1))

earlier_told : (fs : Fields) (q : QuerySyntax) (n : ℕ) (x : ItemSyntax) (v : BoundItem) (before : List BoundItem) → Mirror (ItemIs fs) q.items n before → ItemRead fs n x v
    → Both (list_any (has_name_of (is_record_syntax q) v) before ≡ true) (HasNameOfEarlier fs q n x)
earlier_told fs q n x v before mi h = (to, back)
  where
    to : list_any (has_name_of (is_record_syntax q) v) before ≡ true → HasNameOfEarlier fs q n x
    to u =
        let w = any_member (has_name_of (is_record_syntax q) v) before u in
        let r = (mi w.0).0 w.1 in
        let s = (name_told fs q n r.0 x r.1 v w.0 h (item_read fs r.0 r.1 w.0 r.4)).0 w.2 in
        (r.0, r.1, (r.2, item_passes fs r.0 r.1 w.0 r.4), r.3, s.0, s.1)

    back : HasNameOfEarlier fs q n x → list_any (has_name_of (is_record_syntax q) v) before ≡ true
    back (m, y, has, l, share, name) =
        let w = item_bound fs m y has.1 in
        member_any (has_name_of (is_record_syntax q) v) before w.0 ((mi w.0).1 (m, y, has.0, l, w.1)) ((name_told fs q n m x y v w.0 h (item_read fs m y w.0 w.1)).1 (share, name))

-- ---- names of lists

named_from : (name : List ℕ) (o : Option (List ℕ)) → is_named name o ≡ true → o ≡ Some name
named_from name None h = absurd (true≢false (sym h))
named_from name (Some other) h = ap Some (sym ((bytes_eq-Decides name other).0 h))

named_to : (name : List ℕ) (o : Option (List ℕ)) → o ≡ Some name → is_named name o ≡ true
named_to name None h = absurd (cc)
named_to name (Some other) h = (bytes_eq-Decides name other).1 (sym (same_some other name h))

leads_told : (fs : Fields) (q : QuerySyntax) (n m : ℕ) (x y : ItemSyntax) (v w : BoundItem) → ItemRead fs n x v → ItemRead fs m y w
    → Both (has_name_of_list (levels_of fs) (is_record_syntax q) v w ≡ true) (ListLeads fs q (name_of n x) x y)
leads_told fs q n m x y v w h k = by_kind (is_record_syntax q) refl
  where
    between : list_between (levels_of fs) (item_chain v.term) (item_chain w.term) ≡ list_between (levels_of fs) (object_steps fs x.term) (object_steps fs y.term)
    between = ap₂ (list_between (levels_of fs)) h.2 k.2

    by_kind : (b : Bool) → is_record_syntax q ≡ b → Both (is_named v.name (list_between (levels_of fs) (object_of b v) (object_of b w)) ≡ true) (ListLeads fs q (name_of n x) x y)
    by_kind true e = (to, back)
      where
        to : is_named v.name (list_between (levels_of fs) (item_chain v.term) (item_chain w.term)) ≡ true → ListLeads fs q (name_of n x) x y
        to u = (is_no_aggregate q e, sym between ∙ named_from v.name (list_between (levels_of fs) (item_chain v.term) (item_chain w.term)) u ∙ ap Some h.1)

        back : ListLeads fs q (name_of n x) x y → is_named v.name (list_between (levels_of fs) (item_chain v.term) (item_chain w.term)) ≡ true
        back u = named_to v.name (list_between (levels_of fs) (item_chain v.term) (item_chain w.term)) (between ∙ u.1 ∙ ap Some (sym h.1))
    by_kind false e = ((λ u. absurd (true≢false (sym u))), λ u. absurd (u.0 (is_aggregate q e)))

-- all items that pass
abbrev AllRead : Fields → List ItemSyntax → List BoundItem → Type 0
AllRead fs xs all = (v : BoundItem) → Both (Member v all) ((m : ℕ) × (y : ItemSyntax) × (slice_get xs m ≡ Some y) × ItemIs fs m y v)

abbrev ReadFrom : Fields → ℕ → List ItemSyntax → BoundItem → Type 0
ReadFrom fs n xs v = (m : ℕ) × (y : ItemSyntax) × AtFrom n xs m y × ItemIs fs m y v

all_from : (fs : Fields) (n : ℕ) (xs : List ItemSyntax) (v : BoundItem) → Both (Member v (passing (bind_items fs n xs))) (ReadFrom fs n xs v)
all_from fs n [] v = ((λ m. absurd m), λ r. absurd r.2)
all_from fs n (x ∷ xs) v = by_outcome (bind_item fs n x) refl (all_from fs (suc n) xs v)
  where
    more : ReadFrom fs (suc n) xs v → ReadFrom fs n (x ∷ xs) v
    more r = (r.0, r.1, inr r.2, r.3)

    here : (m : ℕ) (y : ItemSyntax) → n ≡ m → x ≡ y → ItemIs fs m y v → ItemIs fs n x v
    here m y e k h = subst (λ i. ItemIs fs i x v) (sym e) (subst (λ (z : ItemSyntax). ItemIs fs m z v) (sym k) h)

    by_outcome : (c : Checked BoundItem) → bind_item fs n x ≡ c → Both (Member v (passing (bind_items fs (suc n) xs))) (ReadFrom fs (suc n) xs v)
        → Both (Member v (cons_option (if_passed c) (passing (bind_items fs (suc n) xs)))) (ReadFrom fs n (x ∷ xs) v)
    by_outcome (passes u) e r = (to, back)
      where
        to : (u ≡ v) ⊎ Member v (passing (bind_items fs (suc n) xs)) → ReadFrom fs n (x ∷ xs) v
        to (inl k) = (n, x, inl (refl, refl), e ∙ ap passes k)
        to (inr m) = more (r.0 m)

        back : ReadFrom fs n (x ∷ xs) v → (u ≡ v) ⊎ Member v (passing (bind_items fs (suc n) xs))
        back (m, y, inl k, h) = inl (one_outcome fs n x u v e (here m y k.0 k.1 h))
        back (m, y, inr k, h) = inr (r.1 (m, y, k, h))
    by_outcome (fails f fs') e r = ((λ m. more (r.0 m)), back)
      where
        back : ReadFrom fs n (x ∷ xs) v → Member v (passing (bind_items fs (suc n) xs))
        back (m, y, inl k, h) = let z : fails f fs' ≡ passes v = sym e ∙ here m y k.0 k.1 h in absurd (cc)
        back (m, y, inr k, h) = r.1 (m, y, k, h)

all_read : (fs : Fields) (xs : List ItemSyntax) → AllRead fs xs (passing (bind_items fs 0 xs))
all_read fs xs v = let r = all_from fs 0 xs v in
    ((λ m. let k = r.0 m in (k.0, k.1, from_start xs k.0 k.1 k.2, k.3)), λ k. r.1 (k.0, k.1, at_start xs k.0 k.1 k.2, k.3))

list_told : (fs : Fields) (q : QuerySyntax) (n : ℕ) (x : ItemSyntax) (v : BoundItem) (all : List BoundItem) → AllRead fs q.items all → ItemRead fs n x v
    → Both (list_any (has_name_of_list (levels_of fs) (is_record_syntax q) v) all ≡ true) (HasNameOfList fs q n x)
list_told fs q n x v all mi h = (to, back)
  where
    to : list_any (has_name_of_list (levels_of fs) (is_record_syntax q) v) all ≡ true → HasNameOfList fs q n x
    to u =
        let w = any_member (has_name_of_list (levels_of fs) (is_record_syntax q) v) all u in
        let r = (mi w.0).0 w.1 in
        (r.0, r.1, (r.2, item_passes fs r.0 r.1 w.0 r.3), (leads_told fs q n r.0 x r.1 v w.0 h (item_read fs r.0 r.1 w.0 r.3)).0 w.2)

    back : HasNameOfList fs q n x → list_any (has_name_of_list (levels_of fs) (is_record_syntax q) v) all ≡ true
    back (m, y, has, leads) =
        let w = item_bound fs m y has.1 in
        member_any (has_name_of_list (levels_of fs) (is_record_syntax q) v) all w.0 ((mi w.0).1 (m, y, has.0, w.1)) ((leads_told fs q n m x y v w.0 h (item_read fs m y w.0 w.1)).1 leads)

-- ---- the rule of names

abbrev HasOld : Fields → QuerySyntax → ℕ → ItemSyntax → Type 0
HasOld fs q n x = HasNameOfEarlier fs q n x ⊎ HasNameOfList fs q n x

abbrev NamesFrom : Fields → QuerySyntax → ℕ → List ItemSyntax → ℕ → Type 0
NamesFrom fs q n rest i = (k : ℕ) × (x : ItemSyntax) × AtFrom n rest k x × Passes (ItemRule fs x) × (x.place ≡ i) × HasOld fs q k x

or_told : (a b : Bool) (A B : Type 0) → Both (a ≡ true) A → Both (b ≡ true) B → Both ((a || b) ≡ true) (A ⊎ B)
or_told true b A B h k = ((λ u. inl (h.0 refl)), λ m. refl)
or_told false b A B h k = ((λ u. inr (k.0 u)), back)
  where
    back : A ⊎ B → b ≡ true
    back (inl m) = absurd (true≢false (sym (h.1 m)))
    back (inr m) = k.1 m

abbrev names_behind : Fields → QuerySyntax → List BoundItem → List BoundItem → List BoundItem → List BindFault
names_behind fs q all before is = duplicates_behind (levels_of fs) (is_record_syntax q) all before is

item_told : (fs : Fields) (q : QuerySyntax) (all : List BoundItem) → AllRead fs q.items all → (n : ℕ) (x : ItemSyntax) (v : BoundItem) (before : List BoundItem) → Mirror (ItemIs fs) q.items n before
    → ItemIs fs n x v → Exact (Told duplicate_name (λ i. (x.place ≡ i) × HasOld fs q n x)) (name_faults (levels_of fs) (is_record_syntax q) all before v)
item_told fs q all am n x v before mi e = by_test (list_any (has_name_of (is_record_syntax q) v) before || list_any (has_name_of_list (levels_of fs) (is_record_syntax q) v) all) refl
  where
    read : ItemRead fs n x v
    read = item_read fs n x v e

    old : Both ((list_any (has_name_of (is_record_syntax q) v) before || list_any (has_name_of_list (levels_of fs) (is_record_syntax q) v) all) ≡ true) (HasOld fs q n x)
    old = or_told (list_any (has_name_of (is_record_syntax q) v) before) (list_any (has_name_of_list (levels_of fs) (is_record_syntax q) v) all) (HasNameOfEarlier fs q n x) (HasNameOfList fs q n x)
        (earlier_told fs q n x v before mi read) (list_told fs q n x v all am read)

    by_test : (b : Bool) → (list_any (has_name_of (is_record_syntax q) v) before || list_any (has_name_of_list (levels_of fs) (is_record_syntax q) v) all) ≡ b
        → Exact (Told duplicate_name (λ i. (x.place ≡ i) × HasOld fs q n x)) (if b then fault_at v.place duplicate_name else [])
    by_test true t = told_one duplicate_name _ v.place (sym read.0, old.0 t) (λ i m. read.0 ∙ m.0)
    by_test false t = told_none duplicate_name _ (λ i m. true≢false (sym (old.1 m.1) ∙ t))

behind_told : (fs : Fields) (q : QuerySyntax) (all : List BoundItem) → AllRead fs q.items all → (n : ℕ) (rest : List ItemSyntax) (before : List BoundItem)
    → ((k : ℕ) (x : ItemSyntax) → AtFrom n rest k x → slice_get q.items k ≡ Some x) → Mirror (ItemIs fs) q.items n before
    → Exact (Told duplicate_name (NamesFrom fs q n rest)) (names_behind fs q all before (passing (bind_items fs n rest)))
behind_told fs q all am n [] before at mi = told_none duplicate_name _ (λ i m. m.2)
behind_told fs q all am n (x ∷ rest) before at mi = by_outcome (bind_item fs n x) refl (λ next m. behind_told fs q all am (suc n) rest next (λ k y a. at k y (inr a)) m)
  where
    found : slice_get q.items n ≡ Some x
    found = at n x (inl (refl, refl))

    more : List BoundItem
    more = passing (bind_items fs (suc n) rest)

    Here : ℕ → Type 0
    Here i = (x.place ≡ i) × HasOld fs q n x

    by_outcome : (c : Checked BoundItem) → bind_item fs n x ≡ c
        → ((next : List BoundItem) → Mirror (ItemIs fs) q.items (suc n) next → Exact (Told duplicate_name (NamesFrom fs q (suc n) rest)) (names_behind fs q all next more))
        → Exact (Told duplicate_name (NamesFrom fs q n (x ∷ rest))) (names_behind fs q all before (cons_option (if_passed c) more))
    by_outcome (passes v) e r =
        told_as duplicate_name (λ i. Here i ⊎ NamesFrom fs q (suc n) rest i) (NamesFrom fs q n (x ∷ rest)) _ to back
        (told_append duplicate_name Here (NamesFrom fs q (suc n) rest) (name_faults (levels_of fs) (is_record_syntax q) all before v) (names_behind fs q all (v ∷ before) more)
        (item_told fs q all am n x v before mi e) (r (v ∷ before) (mirror_more (ItemIs fs) q.items n before x v mi found e (λ w k. one_outcome fs n x v w e k))))
      where
        to : (i : ℕ) → Here i ⊎ NamesFrom fs q (suc n) rest i → NamesFrom fs q n (x ∷ rest) i
        to i (inl m) = (n, x, inl (refl, refl), item_passes fs n x v e, m.0, m.1)
        to i (inr m) = (m.0, m.1, inr m.2, m.3, m.4, m.5)

        same_item : (k : ℕ) (y : ItemSyntax) → n ≡ k → x ≡ y → HasOld fs q k y → HasOld fs q n x
        same_item k y a b h = subst (λ j. HasOld fs q j x) (sym a) (subst (HasOld fs q k) (sym b) h)

        back : (i : ℕ) → NamesFrom fs q n (x ∷ rest) i → Here i ⊎ NamesFrom fs q (suc n) rest i
        back i (k, y, inl m, p, o, h) = inl (ap (λ (z : ItemSyntax). z.place) m.1 ∙ o, same_item k y m.0 m.1 h)
        back i (k, y, inr m, p, o, h) = inr (k, y, m, p, o, h)
    by_outcome (fails f fs') e r =
        told_as duplicate_name (NamesFrom fs q (suc n) rest) (NamesFrom fs q n (x ∷ rest)) _ (λ i m. (m.0, m.1, inr m.2, m.3, m.4, m.5)) back (r before (mirror_skip (ItemIs fs) q.items n before x mi found none))
      where
        none : (v : BoundItem) → ItemIs fs n x v → ⊥
        none v k = let z : fails f fs' ≡ passes v = sym e ∙ k in absurd (cc)

        back : (i : ℕ) → NamesFrom fs q n (x ∷ rest) i → NamesFrom fs q (suc n) rest i
        back i (k, y, inl m, p, o, h) = absurd (fails_as (ItemRule fs x) (bind_item fs n x) f fs' (of_item fs n x) e (subst (λ (z : ItemSyntax). Passes (ItemRule fs z)) (sym m.1) p))
        back i (k, y, inr m, p, o, h) = (k, y, m, p, o, h)

pub names_told : (fs : Fields) (q : QuerySyntax) → Exact (Told duplicate_name (IsDuplicate fs q)) (duplicate_faults (levels_of fs) (is_record_syntax q) (passing (bind_items fs 0 q.items)))
names_told fs q =
    told_as duplicate_name (NamesFrom fs q 0 q.items) (IsDuplicate fs q) _ (λ i m. (m.0, m.1, (from_start q.items m.0 m.1 m.2, m.3), m.4, m.5)) (λ i m. (m.0, m.1, at_start q.items m.0 m.1 m.2.0, m.2.1, m.3, m.4))
    (behind_told fs q (passing (bind_items fs 0 q.items)) (all_read fs q.items) 0 q.items [] (λ k x m. from_start q.items k x m) (mirror_none (ItemIs fs) q.items))

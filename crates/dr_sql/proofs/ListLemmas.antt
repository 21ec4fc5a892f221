-- Lists of items and keys that are read in a loop, in the definitions' words.
use Rattle.std.specs.Prelude.{◌≡◌, ℕ, suc, ◌+◌, ◌-◌, ◌<◌, List, [], ◌∷◌, ◌++◌, Bool, true}
use Rattle.std.proofs.Common.{refl, sym, ap, ap₂, ◌∙◌, subst}
use Rattle.dr_meaning.specs.Tokens.{QueryToken, comma}
use Rattle.dr_meaning.specs.Parse.{Unread, Parsed, got, Production, give, goes_on, ◌>>=◌, next_is, either, is_the_sign, any_token, further_elements, elements}
use Rattle.dr_meaning.specs.Parse.{begins_item, begins_key, path_names, keys}
use Rattle.dr_sub_meaning.specs.NestedParse as nested
use Rattle.dr_sql.specs.Productions.{items_at}
use Rattle.dr_sql.specs.Reads.{IsFaultOf}
use Rattle.dr_sql.specs.declared.fault.QueryFault.{QueryFault}
use Rattle.dr_sql.proofs.LoopLemmas.{one_less, fault_through}

-- ---- what stands under names of its own

pub items_are : (n : ℕ) (u : Unread) → items_at n u ≡ elements begins_item (nested.item n) (256 - 1) u
unfolding items_at
items_are n u = refl

pub keys_are : (u : Unread) → keys u ≡ elements begins_key path_names (256 - 1) u
unfolding keys
keys_are u = refl

-- ---- the first element

pub first_read : {A : Type 0} (begins : QueryToken → Bool) (element : Production A) (m k : ℕ) (x : A) (xs : List A) (u v : Unread) → element u ≡ got x v
    → k ≡ 1 → xs ≡ x ∷ [] → elements begins element (m - 1) u ≡ further_elements begins element (m - k) xs v
first_read begins element m k x xs u v h l e =
    ap (λ (p : Parsed _). goes_on p (λ x. further_elements begins element (m - 1) (x ∷ []))) h
    ∙ ap₂ (λ (j : ℕ) (ys : List _). further_elements begins element (m - j) ys v) (sym l) (sym e)

pub no_first : {A : Type 0} (begins : QueryToken → Bool) (element : Production A) (n : ℕ) (u : Unread) (x : QueryFault) → IsFaultOf x (element u)
    → IsFaultOf x (elements begins element n u)
no_first begins element n u x h = fault_through x (element u) (λ x. further_elements begins element n (x ∷ [])) h

-- ---- further elements

element_next : {A : Type 0} (begins : QueryToken → Bool) (element : Production A) (n i : ℕ) (xs : List A) (u v : Unread) → next_is (is_the_sign comma) u ≡ true
    → any_token u ≡ got i v → further_elements begins element (suc n) xs u ≡ goes_on (element v) (λ x. further_elements begins element n (xs ++ x ∷ []))
element_next begins element n i xs u v t a =
    ap (λ (b : Bool). either b (any_token >>= (λ i. element >>= (λ x. further_elements begins element n (xs ++ x ∷ [])))) (give xs) u) t
    ∙ ap (λ (p : Parsed ℕ). goes_on p (λ i. element >>= (λ x. further_elements begins element n (xs ++ x ∷ [])))) a

pub one_element_more : {A : Type 0} (begins : QueryToken → Bool) (element : Production A) (m k j i : ℕ) (x : A) (xs ys : List A) (u v w : Unread) → k < m
    → next_is (is_the_sign comma) u ≡ true → any_token u ≡ got i v → element v ≡ got x w → j ≡ k + 1 → ys ≡ xs ++ x ∷ []
    → further_elements begins element (m - k) xs u ≡ further_elements begins element (m - j) ys w
one_element_more begins element m k j i x xs ys u v w l t a h e f =
    ap (λ n. further_elements begins element n xs u) (one_less m k l)
    ∙ (element_next begins element (m - (k + 1)) i xs u v t a
    ∙ (ap (λ (p : Parsed _). goes_on p (λ x. further_elements begins element (m - (k + 1)) (xs ++ x ∷ []))) h
    ∙ ap₂ (λ (n : ℕ) (zs : List _). further_elements begins element (m - n) zs w) (sym e) (sym f)))

pub no_element : {A : Type 0} (begins : QueryToken → Bool) (element : Production A) (m k i : ℕ) (xs : List A) (u v : Unread) (x : QueryFault) → k < m
    → next_is (is_the_sign comma) u ≡ true → any_token u ≡ got i v → IsFaultOf x (element v) → IsFaultOf x (further_elements begins element (m - k) xs u)
no_element begins element m k i xs u v x l t a h =
    subst (IsFaultOf x) (sym (ap (λ n. further_elements begins element n xs u) (one_less m k l) ∙ element_next begins element (m - (k + 1)) i xs u v t a))
    (fault_through x (element v) (λ x. further_elements begins element (m - (k + 1)) (xs ++ x ∷ [])) h)

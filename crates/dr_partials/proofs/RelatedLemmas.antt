-- Of related paths the longest chain begins with the chain of each; and it is related to what they all are related to.
use Rattle.std.proofs.Common.{◌≡◌, ℕ, List, [], ◌∷◌, ◌++◌, Bool, true, false, ◌&&◌, ◌||◌, refl, sym, ap, ap₂, ◌∙◌, true≢false, arith}
use Rattle.std.specs.Prelude.{if◌then◌else◌, ◌==◌}
use Rattle.std.specs.List.{list_all}
use Rattle.std.proofs.lemmas.Bool.{and_parts, eqb-true}
use Rattle.std.proofs.lemmas.Bool.Decides.{nat_tests}
use Rattle.dr_meaning.specs.Path.{Step, begins_with, chain_end, is_shorter, longer}
use Rattle.dr_meaning.specs.Expression.{longest_chain}
use Rattle.dr_meaning.specs.BoundExpression.{are_related}
use Rattle.dr_partials.specs.PartialLaws.{all_related}
use Rattle.dr_partials.proofs.RowLemmas.{Each}

same_number : (n : ℕ) → (n == n) ≡ true
same_number n = grind (arith, nat_tests)

begins_itself : (p : List Step) → begins_with p p ≡ true
begins_itself [] = refl
begins_itself (s ∷ p) = ap₂ (λ a b. a && b) (same_number s.place) (begins_itself p)

begins_trans : (p q f : List Step) → begins_with p q ≡ true → begins_with q f ≡ true → begins_with p f ≡ true
begins_trans [] q f h g = refl
begins_trans (s ∷ p) [] f h g = absurd (true≢false (sym h))
begins_trans (s ∷ p) (t ∷ q) [] h g = absurd (true≢false (sym g))
begins_trans (s ∷ p) (t ∷ q) (u ∷ f) h g =
    let a : ((s.place == t.place) ≡ true) × (begins_with p q ≡ true) = and_parts _ _ h in
    let b : ((t.place == u.place) ≡ true) × (begins_with q f ≡ true) = and_parts _ _ g in
    let e : s.place ≡ u.place = eqb-true s.place t.place a.0 ∙ eqb-true t.place u.place b.0 in
    ap₂ (λ x y. x && y) (ap (λ i. s.place == i) (sym e) ∙ same_number s.place) (begins_trans p q f a.1 b.1)

-- one of the two paths begins the other
abbrev pub nested : List Step → List Step → Bool
nested p q = begins_with p q || begins_with q p

or_turned : (a b : Bool) → (a || b) ≡ true → (b || a) ≡ true
or_turned true true h = refl
or_turned true false h = refl
or_turned false b h = ap (λ c. c || false) h

nested_back : (p q : List Step) → nested p q ≡ true → nested q p ≡ true
nested_back p q h = or_turned (begins_with p q) (begins_with q p) h

-- the shorter begins the longer
shorter_begins : (p q : List Step) → nested p q ≡ true → (if is_shorter p q then begins_with p q else begins_with q p) ≡ true
shorter_begins [] [] h = refl
shorter_begins (s ∷ p) [] h = refl
shorter_begins [] (t ∷ q) h = refl
shorter_begins (s ∷ p) (t ∷ q) h = by_places (s.place == t.place) refl h (shorter_begins p q)
  where
    turned : (b : Bool) → (s.place == t.place) ≡ b → (t.place == s.place) ≡ b
    turned b e = number s.place t.place b e
      where
        number : (m n : ℕ) (b : Bool) → (m == n) ≡ b → (n == m) ≡ b
        number m n true e = grind (arith, nat_tests)
        number m n false e = grind (arith, nat_tests)

    same : (t.place == s.place) ≡ true → (b : Bool) → (if b then begins_with p q else begins_with q p) ≡ true → (if b then true && begins_with p q else ((t.place == s.place) && begins_with q p)) ≡ true
    same e true k = k
    same e false k = ap₂ (λ a b. a && b) e k

    by_places : (b : Bool) → (s.place == t.place) ≡ b → ((b && begins_with p q) || ((t.place == s.place) && begins_with q p)) ≡ true
        → (nested p q ≡ true → (if is_shorter p q then begins_with p q else begins_with q p) ≡ true)
        → (if is_shorter p q then b && begins_with p q else ((t.place == s.place) && begins_with q p)) ≡ true
    by_places true e k r = same (turned true e) (is_shorter p q) (r (sym (ap (λ b. begins_with p q || (b && begins_with q p)) (turned true e)) ∙ k))
    by_places false e k r = absurd (true≢false (sym k ∙ ap (λ b. b && begins_with q p) (turned false e)))

-- both begin the longer of the two
first_begins : (p q : List Step) → nested p q ≡ true → begins_with p (longer p q) ≡ true
first_begins p q h = by_test (is_shorter p q) (shorter_begins p q h)
  where
    by_test : (b : Bool) → (if b then begins_with p q else begins_with q p) ≡ true → begins_with p (if b then q else p) ≡ true
    by_test true k = k
    by_test false k = begins_itself p

second_begins : (p q : List Step) → nested p q ≡ true → begins_with q (longer p q) ≡ true
second_begins p q h = by_test (is_shorter p q) (shorter_begins p q h)
  where
    by_test : (b : Bool) → (if b then begins_with p q else begins_with q p) ≡ true → begins_with q (if b then q else p) ≡ true
    by_test true k = begins_itself q
    by_test false k = k

one_of : (p q x : List Step) → nested x p ≡ true → nested x q ≡ true → nested x (longer p q) ≡ true
one_of p q x h k = by_test (is_shorter p q)
  where
    by_test : (b : Bool) → nested x (if b then q else p) ≡ true
    by_test true = k
    by_test false = h

-- what is related to each of some paths is related to their longest chain
longest_related : (x : List Step) (ps : List (List Step)) → list_all (are_related x) ps ≡ true → nested (chain_end x) (longest_chain ps) ≡ true
longest_related x [] h = nested_back [] (chain_end x) refl
longest_related x (p ∷ ps) h =
    let k = and_parts (are_related x p) (list_all (are_related x) ps) h in
    one_of (chain_end p) (longest_chain ps) (chain_end x) k.0 (longest_related x ps k.1)

-- the longest chain of related paths begins with the chain of each
each_within : (p q : List Step) (ps : List (List Step)) → begins_with p q ≡ true → Each (λ (k : List Step). begins_with (chain_end k) p ≡ true) ps → Each (λ (k : List Step). begins_with (chain_end k) q ≡ true) ps
each_within p q [] h w = tt
each_within p q (k ∷ ks) h w = (begins_trans (chain_end k) p q w.0 h, each_within p q ks h w.1)

pub chains_begin : (ps : List (List Step)) → all_related ps ≡ true → Each (λ (k : List Step). begins_with (chain_end k) (longest_chain ps) ≡ true) ps
chains_begin [] h = tt
chains_begin (p ∷ ps) h =
    let k = and_parts (list_all (are_related p) ps) (all_related ps) h in
    let n = longest_related p ps k.0 in
    (first_begins (chain_end p) (longest_chain ps) n, each_within (longest_chain ps) (longer (chain_end p) (longest_chain ps)) ps (second_begins (chain_end p) (longest_chain ps) n) (chains_begin ps k.1))

-- each of the first paths is related to each of the others
both_related : (ps qs : List (List Step)) → all_related (ps ++ qs) ≡ true → Each (λ (p : List Step). nested (chain_end p) (longest_chain qs) ≡ true) ps
both_related [] qs h = tt
both_related (p ∷ ps) qs h =
    let k = and_parts (list_all (are_related p) (ps ++ qs)) (all_related (ps ++ qs)) h in
    (longest_related p qs (behind ps k.0), both_related ps qs k.1)
  where
    behind : (rs : List (List Step)) → list_all (are_related p) (rs ++ qs) ≡ true → list_all (are_related p) qs ≡ true
    behind [] e = e
    behind (r ∷ rs) e = behind rs (and_parts (are_related p r) (list_all (are_related p) (rs ++ qs)) e).1

longest_of : (ps : List (List Step)) (q : List Step) → Each (λ (p : List Step). nested (chain_end p) q ≡ true) ps → nested (longest_chain ps) q ≡ true
longest_of [] q h = refl
longest_of (p ∷ ps) q h = nested_back q (longer (chain_end p) (longest_chain ps)) (one_of (chain_end p) (longest_chain ps) q (nested_back (chain_end p) q h.0) (nested_back (longest_chain ps) q (longest_of ps q h.1)))

-- the longest chain of the first begins that of both
pub longest_begins : (ps qs : List (List Step)) → all_related (ps ++ qs) ≡ true → begins_with (longest_chain ps) (longer (longest_chain ps) (longest_chain qs)) ≡ true
longest_begins ps qs h = first_begins (longest_chain ps) (longest_chain qs) (longest_of ps (longest_chain qs) (both_related ps qs h))

pub longest_itself : (ps : List (List Step)) → begins_with (longest_chain ps) (longest_chain ps) ≡ true
longest_itself ps = begins_itself (longest_chain ps)

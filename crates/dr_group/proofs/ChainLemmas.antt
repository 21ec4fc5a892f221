-- Chains of numbers: one number more, and what is found on the way along a chain.
use Rattle.std.specs.Prelude.{◌≡◌, ◌<◌, ◌≤◌, ◌+◌, ◌%◌, ℕ, zero, suc, List, [], ◌∷◌, ◌++◌, length, get_or, true}
use Rattle.std.proofs.Common.{◌⊎◌, inl, inr, refl, sym, ap, ◌∙◌, subst, arith, length-append, true≢false}
use Rattle.std.proofs.Math.ListN.{set, replicate}
use Rattle.std.proofs.lemmas.Bool.{cases_lt, cases_eq}
use Rattle.std.proofs.lemmas.Nat.{mod_below}
use Rattle.std.proofs.lemmas.List.{get_or-set_same, get_or-set_other, length-set}
use Rattle.dr_group.specs.Chains.{AreChained, AreLinked, AreShort, no_link, link_at, bucket_of, bucket_at, head_of, next_at, most_linked, ends_within, depth_at, depth_before}
use Rattle.dr_group.specs.declared.index.Link.{Link}

-- what is told of one number more
pub record OneMore (n : ℕ) (bucket head next bucket' head' next' : ℕ → ℕ) (b : ℕ) : Type 0 where
  pub old_bucket : (j : ℕ) → j < n → bucket' j ≡ bucket j
  pub new_bucket : bucket' n ≡ b
  pub new_head : head' b ≡ n + 1
  pub old_head : (c : ℕ) → (c ≡ b → ⊥) → head' c ≡ head c
  pub old_next : (i : ℕ) → i < n → next' i ≡ next i
  pub new_next : next' n ≡ head b

module _ (n : ℕ) (bucket head next bucket' head' next' : ℕ → ℕ) (b : ℕ) (m : OneMore n bucket head next bucket' head' next' b) (s : AreChained n bucket head next) where
  not_behind : (j : ℕ) → j < n + 1 → j < head' (bucket' j)
  not_behind j h = by_last (cases_lt j n)
    where
      by_bucket : j < n → (bucket j ≡ b) ⊎ (bucket j ≡ b → ⊥) → j < head' (bucket' j)
      by_bucket k (inl e) = omega (arith, k, ap head' (m.old_bucket j k ∙ e) ∙ m.new_head)
      by_bucket k (inr f) = omega (arith, s.0 j k, ap head' (m.old_bucket j k) ∙ m.old_head (bucket j) f)

      by_last : (j < n) ⊎ (n ≤ j) → j < head' (bucket' j)
      by_last (inl k) = by_bucket k (cases_eq (bucket j) b)
      by_last (inr k) =
          let e : j ≡ n = omega (arith, h, k) in
          omega (arith, h, ap (λ i. head' (bucket' i)) e ∙ ap head' m.new_bucket ∙ m.new_head)

  none_skipped : (i j : ℕ) → i < n + 1 → j < i → bucket' j ≡ bucket' i → j < next' i
  none_skipped i j h l e = by_last (cases_lt i n)
    where
      by_last : (i < n) ⊎ (n ≤ i) → j < next' i
      by_last (inl k) =
          let below : j < n = omega (arith, l, k) in
          omega (arith, s.1 i j k l (sym (m.old_bucket j below) ∙ e ∙ m.old_bucket i k), m.old_next i k)
      by_last (inr k) =
          let last : i ≡ n = omega (arith, h, k) in
          let below : j < n = omega (arith, l, last) in
          let there : bucket j ≡ b = sym (m.old_bucket j below) ∙ e ∙ ap bucket' last ∙ m.new_bucket in
          omega (arith, s.0 j below, ap head there, ap next' last ∙ m.new_next)

  goes_down : (i : ℕ) → i < n + 1 → next' i ≤ i
  goes_down i h = by_last (cases_lt i n)
    where
      by_last : (i < n) ⊎ (n ≤ i) → next' i ≤ i
      by_last (inl k) = omega (arith, s.2 i k, m.old_next i k)
      by_last (inr k) =
          let last : i ≡ n = omega (arith, h, k) in
          omega (arith, s.3 b, last, ap next' last ∙ m.new_next)

  heads_within : (c : ℕ) → head' c ≤ n + 1
  heads_within c = by_bucket (cases_eq c b)
    where
      by_bucket : (c ≡ b) ⊎ (c ≡ b → ⊥) → head' c ≤ n + 1
      by_bucket (inl e) = omega (arith, ap head' e ∙ m.new_head)
      by_bucket (inr f) = omega (arith, s.3 c, m.old_head c f)

  heads_there : (c j : ℕ) → head' c ≡ j + 1 → bucket' j ≡ c
  heads_there c j h = by_bucket (cases_eq c b)
    where
      by_bucket : (c ≡ b) ⊎ (c ≡ b → ⊥) → bucket' j ≡ c
      by_bucket (inl e) =
          let last : j ≡ n = omega (arith, sym h ∙ (ap head' e ∙ m.new_head)) in
          ap bucket' last ∙ m.new_bucket ∙ sym e
      by_bucket (inr f) =
          let old : head c ≡ j + 1 = sym (m.old_head c f) ∙ h in
          m.old_bucket j (omega (arith, s.3 c, old)) ∙ s.4 c j old

  stays_there : (i j : ℕ) → i < n + 1 → next' i ≡ j + 1 → bucket' j ≡ bucket' i
  stays_there i j h e = by_last (cases_lt i n)
    where
      by_last : (i < n) ⊎ (n ≤ i) → bucket' j ≡ bucket' i
      by_last (inl k) =
          let old : next i ≡ j + 1 = sym (m.old_next i k) ∙ e in
          m.old_bucket j (omega (arith, s.2 i k, k, old)) ∙ s.5 i j k old ∙ sym (m.old_bucket i k)
      by_last (inr k) =
          let last : i ≡ n = omega (arith, h, k) in
          let old : head b ≡ j + 1 = sym m.new_next ∙ (ap next' (sym last) ∙ e) in
          m.old_bucket j (omega (arith, s.3 b, old)) ∙ s.4 b j old ∙ sym (ap bucket' last ∙ m.new_bucket)

  pub one_more : AreChained (n + 1) bucket' head' next'
  one_more = (not_behind, none_skipped, goes_down, heads_within, heads_there, stays_there)

-- ---- as the code has them

there : (links : List Link) (l d : Link) (i : ℕ) → i < length links → get_or (links ++ l ∷ []) i d ≡ get_or links i d
there [] l d i h = absurd (omega (arith, h))
there (k ∷ links) l d zero h = refl
there (k ∷ links) l d (suc i) h = there links l d i (omega (arith, h))

last : (links : List Link) (l d : Link) → get_or (links ++ l ∷ []) (length links) d ≡ l
last [] l d = refl
last (k ∷ links) l d = last links l d

pub linked_more : (heads heads' : List ℕ) (links links' : List Link) (hash b n d : ℕ) (l : Link) → 0 < length heads → b ≡ bucket_of heads hash → n ≡ length links + 1 → heads' ≡ set heads b n → l ≡ record { hash = hash; next = head_of heads b; depth = d }
    → links' ≡ links ++ l ∷ [] → AreLinked heads links → AreLinked heads' links'
linked_more heads heads' links links' hash b n d l h e f g k p s =
    let within : b < length heads = omega (arith, e, mod_below hash (length heads) h) in
    let size : length (set heads b n) ≡ length heads = length-set heads b n in
    let same_bucket : (x : ℕ) → x % length (set heads b n) ≡ x % length heads = λ x. ap (λ m. x % m) size in
    let more : OneMore (length links) (bucket_at heads links) (head_of heads) (next_at links) (bucket_at (set heads b n) (links ++ l ∷ [])) (head_of (set heads b n)) (next_at (links ++ l ∷ [])) b =
    record {
      old_bucket = λ j i. same_bucket (link_at (links ++ l ∷ []) j).hash ∙ ap (λ (x : Link). x.hash % length heads) (there links l no_link j i);
      new_bucket = same_bucket (link_at (links ++ l ∷ []) (length links)).hash ∙ ap (λ (x : Link). x.hash % length heads) (last links l no_link ∙ k) ∙ sym e;
      new_head = get_or-set_same heads b n 0 within ∙ f;
      old_head = λ c other. get_or-set_other heads b c n 0 other;
      old_next = λ i j. ap (λ (x : Link). x.next) (there links l no_link i j);
      new_next = ap (λ (x : Link). x.next) (last links l no_link ∙ k);
    } in
    let size_now : length (links ++ l ∷ []) ≡ length links + 1 = length-append links (l ∷ []) in
    let done : AreLinked (set heads b n) (links ++ l ∷ []) =
    subst (λ m. AreChained m (bucket_at (set heads b n) (links ++ l ∷ [])) (head_of (set heads b n)) (next_at (links ++ l ∷ []))) (sym size_now)
    (one_more (length links) (bucket_at heads links) (head_of heads) (next_at links) (bucket_at (set heads b n) (links ++ l ∷ [])) (head_of (set heads b n)) (next_at (links ++ l ∷ [])) b more s) in
    subst (λ (hs : List ℕ). AreLinked hs links') (sym g) (subst (AreLinked (set heads b n)) (sym p) done)

-- ---- chains are short

abbrev GoesDown : List Link → Type 0
GoesDown links = (i : ℕ) → i < length links → next_at links i ≤ i

ends_kept : (n : ℕ) (links : List Link) (l : Link) (rest : ℕ) → GoesDown links → rest ≤ length links → ends_within n links rest ≡ true → ends_within n (links ++ l ∷ []) rest ≡ true
ends_kept n links l zero g h e = refl
ends_kept zero links l (suc i) g h e = absurd (true≢false (sym e))
ends_kept (suc n) links l (suc i) g h e =
    let below : i < length links = omega (arith, h) in
    ap (ends_within n (links ++ l ∷ [])) (ap (λ (x : Link). x.next) (there links l no_link i below))
    ∙ ends_kept n links l (next_at links i) g (omega (arith, g i below, below)) e

head_kept : (links : List Link) (l : Link) (head : ℕ) → GoesDown links → AreShort links → head ≤ length links → ends_within (depth_before links head) (links ++ l ∷ []) head ≡ true
head_kept links l zero g s h = refl
head_kept links l (suc i) g s h = ends_kept (depth_at links i) links l (suc i) g h (s i (omega (arith, h))).1

one_deeper : (d e : ℕ) (links : List Link) (i : ℕ) → e ≡ d + 1 → ends_within d links (next_at links i) ≡ true → ends_within e links (suc i) ≡ true
one_deeper d e links i h k =
    let same : suc d ≡ e = omega (arith, h) in
    subst (λ n. ends_within n links (suc i) ≡ true) same k

pub short_more : (links links' : List Link) (head d : ℕ) (l : Link) → GoesDown links → AreShort links → head ≤ length links → depth_before links head < most_linked → d ≡ depth_before links head + 1 → l.next ≡ head → l.depth ≡ d
    → links' ≡ links ++ l ∷ [] → AreShort links'
short_more links links' head d l g s h k e f m p = subst AreShort (sym p) (λ i b. by_last i b (cases_lt i (length links)))
  where
    by_last : (i : ℕ) → i < length (links ++ l ∷ []) → (i < length links) ⊎ (length links ≤ i) → (depth_at (links ++ l ∷ []) i ≤ most_linked) × (ends_within (depth_at (links ++ l ∷ []) i) (links ++ l ∷ []) (suc i) ≡ true)
    by_last i b (inl x) =
        let same : depth_at (links ++ l ∷ []) i ≡ depth_at links i = ap (λ (y : Link). y.depth) (there links l no_link i x) in (
          omega (arith, same, (s i x).0),
          ap (λ n. ends_within n (links ++ l ∷ []) (suc i)) same ∙ ends_kept (depth_at links i) links l (suc i) g (omega (arith, x)) (s i x).1,
        )
    by_last i b (inr x) =
        let here : i ≡ length links = omega (arith, b, x, length-append links (l ∷ [])) in
        let own : link_at (links ++ l ∷ []) i ≡ l = ap (link_at (links ++ l ∷ [])) here ∙ last links l no_link in
        let deep : depth_at (links ++ l ∷ []) i ≡ depth_before links head + 1 = ap (λ (y : Link). y.depth) own ∙ m ∙ e in (
          omega (arith, deep, k),
          one_deeper (depth_before links head) (depth_at (links ++ l ∷ []) i) (links ++ l ∷ []) i deep
              (ap (ends_within (depth_before links head) (links ++ l ∷ [])) (ap (λ (y : Link). y.next) own ∙ f) ∙ head_kept links l head g s h),
        )

more_steps : (n m : ℕ) (links : List Link) (rest : ℕ) → n ≤ m → ends_within n links rest ≡ true → ends_within m links rest ≡ true
more_steps n m links zero h e = refl
more_steps zero m links (suc i) h e = absurd (true≢false (sym e))
more_steps (suc n) zero links (suc i) h e = absurd (omega (arith, h))
more_steps (suc n) (suc m) links (suc i) h e = more_steps n m links (next_at links i) (omega (arith, h)) e

-- from a head on
pub chain_ends : (links : List Link) (n : ℕ) → AreShort links → n ≤ length links → ends_within most_linked links n ≡ true
chain_ends links zero s h = refl
chain_ends links (suc i) s h =
    let d = s i (omega (arith, h)) in
    more_steps (depth_at links i) most_linked links (suc i) d.0 d.1

abbrev zeros_of : ℕ → List ℕ
zeros_of n = replicate n 0

zeros : (n b : ℕ) → get_or (zeros_of n) b 0 ≡ 0
zeros zero b = refl
zeros (suc n) zero = refl
zeros (suc n) (suc b) = zeros n b

-- no numbers yet
pub none_linked : (heads : List ℕ) (links : List Link) → ((b : ℕ) → head_of heads b ≡ 0) → links ≡ [] → AreLinked heads links
none_linked heads links z e = subst (AreLinked heads) (sym e) (
  λ j h. absurd (omega (arith, h)),
  λ i j h. absurd (omega (arith, h)),
  λ i h. absurd (omega (arith, h)),
  λ b. omega (arith, z b),
  λ b j h. absurd (omega (arith, h, z b)),
  λ i j h. absurd (omega (arith, h)),
)

pub zeros_linked : (heads : List ℕ) (links : List Link) (n : ℕ) → heads ≡ zeros_of n → links ≡ [] → AreLinked heads links
zeros_linked heads links n e f = none_linked heads links (λ b. ap (λ (hs : List ℕ). get_or hs b 0) e ∙ zeros n b) f

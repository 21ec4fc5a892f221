-- Where a key tuple is looked for: along the chain of its hash.
use Rattle.std.specs.Prelude.{◌≡◌, ◌<◌, ◌≤◌, ◌+◌, ℕ, zero, suc, List, [], ◌∷◌, map, length, get_or}
use Rattle.std.proofs.Common.{◌⊎◌, inl, inr, sym, ap, ◌∙◌, arith}
use Rattle.std.specs.declared.cmp.Ordering.{Ordering}
use Rattle.std.specs.declared.cmp.Ordering.TheVariants.{Less, Equal, Greater}
use Rattle.std.proofs.lemmas.Bool.{cases_order}
use Rattle.std.proofs.lemmas.Cmp.{tied_itself}
use Rattle.std.proofs.lemmas.List.{length-map}
use Rattle.dr_partials.specs.Partials as meant
use Rattle.dr_meaning.specs.Query.{tuple_order}
use Rattle.dr_partials.proofs.GroupLemmas.{Tuple}
use Rattle.dr_partials.proofs.ValueOrders.{tuple_order_total}
use Rattle.dr_group.specs.Chains.{AreLinked, link_at, bucket_of, bucket_at, head_of, next_at, hashes_of}
use Rattle.dr_group.specs.Distinct.{times, group_hash, group_hashes}
use Rattle.dr_group.specs.Groups.{group_view, group_at}
use Rattle.dr_group.specs.Hashes.{tuple_hash}
use Rattle.dr_group.specs.declared.group.Group.{Group}
use Rattle.dr_group.specs.declared.index.Link.{Link}
use Rattle.dr_group.proofs.DistinctLemmas.{nowhere}

-- the group of a number, as the code finds it
pub group_there : (gs : List Group) (i : ℕ) (g : Group) → i < length gs → g ≡ get_or gs i g → group_at gs i ≡ group_view g
group_there [] i g h e = absurd (omega (arith, h))
group_there (f ∷ gs) zero g h e = ap group_view (sym e)
group_there (f ∷ gs) (suc i) g h e = group_there gs i g (omega (arith, h)) e

pub link_there : (links : List Link) (i : ℕ) (l : Link) → i < length links → l ≡ get_or links i l → link_at links i ≡ l
link_there [] i l h e = absurd (omega (arith, h))
link_there (k ∷ links) zero l h e = sym e
link_there (k ∷ links) (suc i) l h e = link_there links i l (omega (arith, h)) e

less_equal : Less ≡ Equal → ⊥
less_equal h = cc

greater_equal : Greater ≡ Equal → ⊥
greater_equal h = cc

-- key tuples that are not equal in order are not the same
pub differs : (t u : Tuple) (o : Ordering) → (o ≡ Less) ⊎ (o ≡ Greater) → o ≡ tuple_order t u → u ≡ t → ⊥
differs t u o (inl l) e s = less_equal (sym l ∙ (e ∙ (ap (tuple_order t) s ∙ tied_itself tuple_order_total t)))
differs t u o (inr g) e s = greater_equal (sym g ∙ (e ∙ (ap (tuple_order t) s ∙ tied_itself tuple_order_total t)))

first_same : (x y : ℕ) (xs ys : List ℕ) → x ∷ xs ≡ y ∷ ys → x ≡ y
first_same x y xs ys h = cc

rest_same : (x y : ℕ) (xs ys : List ℕ) → x ∷ xs ≡ y ∷ ys → xs ≡ ys
rest_same x y xs ys h = cc

-- each link has the hash of its group
pub hash_there : (links : List Link) (gs : List Group) (i : ℕ) → hashes_of links ≡ group_hashes gs → i < length links → (link_at links i).hash ≡ tuple_hash (group_at gs i).keys
hash_there [] gs i e h = absurd (omega (arith, h))
hash_there (l ∷ links) [] i e h = absurd (cc)
hash_there (l ∷ links) (g ∷ gs) zero e h = first_same l.hash (group_hash g) (hashes_of links) (group_hashes gs) e
hash_there (l ∷ links) (g ∷ gs) (suc i) e h = hash_there links gs i (rest_same l.hash (group_hash g) (hashes_of links) (group_hashes gs) e) (omega (arith, h))

-- a group that was compared, and differs
pub other_group : (t : Tuple) (gs : List Group) (i : ℕ) (g : Group) → i < length gs → g ≡ get_or gs i g → ((group_view g).keys ≡ t → ⊥) → (group_at gs i).keys ≡ t → ⊥
other_group t gs i g h e f k = f (ap (λ (v : meant.Group). v.keys) (sym (group_there gs i g h e)) ∙ k)

-- one whose hash differs
pub other_hash : (t : Tuple) (gs : List Group) (links : List Link) (hash i : ℕ) (l : Link) → hashes_of links ≡ group_hashes gs → hash ≡ tuple_hash t → i < length links → l ≡ get_or links i l → (l.hash ≡ hash → ⊥) → (group_at gs i).keys ≡ t → ⊥
other_hash t gs links hash i l e n h g f k =
    f (ap (λ (x : Link). x.hash) (sym (link_there links i l h g)) ∙ (hash_there links gs i e h ∙ (ap tuple_hash k ∙ sym n)))

-- what is known on the way along a chain: none of the groups from here on has the key tuple
pub record OnTheWay (t : Tuple) (gs : List Group) (heads : List ℕ) (links : List Link) (b rest : ℕ) : Type 0 where
  pub within : rest ≤ length links
  pub here : (j : ℕ) → rest ≡ j + 1 → bucket_at heads links j ≡ b
  pub past : (j : ℕ) → rest ≤ j → j < length gs → (group_at gs j).keys ≡ t → ⊥

in_bucket : (t : Tuple) (gs : List Group) (heads : List ℕ) (links : List Link) (hash j : ℕ) → hashes_of links ≡ group_hashes gs → length links ≡ length gs → hash ≡ tuple_hash t → j < length gs → (group_at gs j).keys ≡ t
    → bucket_at heads links j ≡ bucket_of heads hash
in_bucket t gs heads links hash j e n f h k = ap (bucket_of heads) (hash_there links gs j e (omega (arith, h, n)) ∙ ap tuple_hash k ∙ sym f)

pub way_begins : (t : Tuple) (gs : List Group) (heads : List ℕ) (links : List Link) (hash b rest : ℕ) → AreLinked heads links → hashes_of links ≡ group_hashes gs → length links ≡ length gs → hash ≡ tuple_hash t
    → b ≡ bucket_of heads hash → rest ≡ head_of heads b → OnTheWay t gs heads links b rest
way_begins t gs heads links hash b rest s e n f g k = record {
  within = omega (arith, s.3 b, k);
  here = λ j r. s.4 b j (sym k ∙ r);
  past = λ j r h q.
      let there : bucket_at heads links j ≡ b = in_bucket t gs heads links hash j e n f h q ∙ sym g in
      omega (arith, s.0 j (omega (arith, h, n)), ap (head_of heads) there, k, r);
}

pub way_further : (t : Tuple) (gs : List Group) (heads : List ℕ) (links : List Link) (hash b rest i next : ℕ) → AreLinked heads links → hashes_of links ≡ group_hashes gs → length links ≡ length gs → hash ≡ tuple_hash t
    → b ≡ bucket_of heads hash → rest ≡ i + 1 → next ≡ next_at links i → ((group_at gs i).keys ≡ t → ⊥) → OnTheWay t gs heads links b rest → OnTheWay t gs heads links b next
way_further t gs heads links hash b rest i next s e n f g r k other w =
    let below : i < length links = omega (arith, w.within, r) in
    let here : bucket_at heads links i ≡ b = w.here i r in
    record {
      within = omega (arith, s.2 i below, below, k);
      here = λ j q. s.5 i j below (sym k ∙ q) ∙ here;
      past = λ j q h p. by_place j q h p (cases_order j i);
    }
  where
    by_place : (j : ℕ) → next ≤ j → j < length gs → (group_at gs j).keys ≡ t → (j ≡ i) ⊎ ((j < i) ⊎ (i < j)) → ⊥
    by_place j q h p (inl x) = other (ap (λ m. (group_at gs m).keys) (sym x) ∙ p)
    by_place j q h p (inr (inl x)) =
        let below : i < length links = omega (arith, w.within, r) in
        let there : bucket_at heads links j ≡ bucket_at heads links i = in_bucket t gs heads links hash j e n f h p ∙ sym g ∙ sym (w.here i r) in
        omega (arith, s.1 i j below x there, k, q)
    by_place j q h p (inr (inr x)) = w.past j (omega (arith, x, r)) h p

-- at the end of the chain
pub way_ends : (t : Tuple) (gs : List Group) (heads : List ℕ) (links : List Link) (b rest : ℕ) → rest ≡ 0 → OnTheWay t gs heads links b rest → times t (map group_view gs) ≡ 0
way_ends t gs heads links b rest e w = nowhere t (map group_view gs) (λ j h q. w.past j (omega (arith, e)) (omega (arith, h, length-map gs group_view)) q)

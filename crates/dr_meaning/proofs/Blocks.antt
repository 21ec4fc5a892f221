-- Blocks: the column of an instance of a valid record begins with the repetition level that led there, and goes on with greater ones than its own level.
use Rattle.std.proofs.Common.{◌≡◌, ℕ, zero, suc, ◌+◌, ◌<◌, ◌≤◌, List, [], ◌∷◌, ◌++◌, Bool, true, false, ◌&&◌, refl, sym, ap, ap₂, subst, true≢false, arith}
use Rattle.std.proofs.lemmas.Bool.{and_parts, eqb-true, leb-true}
use Rattle.dr_meaning.specs.Schema.{Repetition, required, optional, repeated, Fields, no_fields, field, Shape, leaf, group, repetition_count, definition_count}
use Rattle.dr_meaning.specs.Path.{Step, is_leaf_path, is_shape_path, same_repetition, through}
use Rattle.dr_meaning.specs.Record.{Node, no_slots, slot, gap, Instances, no_instances, instance, Instance, atom, inner, count_instances, fits_repetition, all_instances, is_record, is_instance, instances_in}
use Rattle.dr_meaning.specs.Column.{Triplet, each_later, spread, instance_column}
use Rattle.dr_meaning.proofs.ProjectionLemmas.{step}

-- ---- lists of triplets

-- each repetition level is greater than l
abbrev pub IsAbove : ℕ → List Triplet → Type 0
IsAbove l [] = Unit {0}
IsAbove l (t ∷ ts) = (l < t.repetition) × IsAbove l ts

-- the first repetition level, if there is one, is at most l
abbrev pub BeginsBelow : ℕ → List Triplet → Type 0
BeginsBelow l [] = Unit {0}
BeginsBelow l (t ∷ ts) = t.repetition ≤ l

-- one triplet with the repetition level r and at least the definition level d, then greater repetition levels than l
abbrev pub IsBlock : ℕ → ℕ → ℕ → List Triplet → Type 0
IsBlock l r d [] = ⊥
IsBlock l r d (t ∷ ts) = (t.repetition ≡ r) × (d ≤ t.definition) × IsAbove l ts

above-append : (l : ℕ) (ts us : List Triplet) → IsAbove l ts → IsAbove l us → IsAbove l (ts ++ us)
above-append l [] us a b = b
above-append l (t ∷ ts) us a b = (a.0, above-append l ts us a.1 b)

above_lower : (l k : ℕ) (ts : List Triplet) → l ≤ k → IsAbove k ts → IsAbove l ts
above_lower l k [] h a = tt
above_lower l k (t ∷ ts) h a = (omega arith, above_lower l k ts h a.1)

block-append : (l r d : ℕ) (ts us : List Triplet) → IsBlock l r d ts → IsAbove l us → IsBlock l r d (ts ++ us)
block-append l r d [] us b a = absurd b
block-append l r d (t ∷ ts) us b a = (b.0, b.1, above-append l ts us b.2 a)

block_lower : (l k r d e : ℕ) (ts : List Triplet) → l ≤ k → d ≤ e → IsBlock k r e ts → IsBlock l r d ts
block_lower l k r d e [] h g b = b
block_lower l k r d e (t ∷ ts) h g b = (b.0, omega arith, above_lower l k ts h b.2)

block_above : (l k r d : ℕ) (ts : List Triplet) → l ≤ k → l < r → IsBlock k r d ts → IsAbove l ts
block_above l k r d [] h g b = tt
block_above l k r d (t ∷ ts) h g b = (omega arith, above_lower l k ts h b.2)

-- a list is cut in one way into levels above l and a rest that begins at l or below
cut_above : (l : ℕ) (ts us bs cs : List Triplet) → IsAbove l ts → IsAbove l us → BeginsBelow l bs → BeginsBelow l cs → ts ++ bs ≡ us ++ cs → (ts ≡ us) × (bs ≡ cs)
cut_above l [] [] bs cs a b g h e = (refl, e)
cut_above l [] (u ∷ us) [] cs a b g h e = absurd (cc)
cut_above l [] (u ∷ us) (t ∷ bs) cs a b g h e = absurd (let q : t ≡ u = cc in omega (arith, ap (λ (x : Triplet). x.repetition) q))
cut_above l (t ∷ ts) [] bs [] a b g h e = absurd (cc)
cut_above l (t ∷ ts) [] bs (u ∷ cs) a b g h e = absurd (let q : t ≡ u = cc in omega (arith, ap (λ (x : Triplet). x.repetition) q))
cut_above l (t ∷ ts) (u ∷ us) bs cs a b g h e =
    let q : t ≡ u = cc in
    let k : ts ++ bs ≡ us ++ cs = cc in
    let r : (ts ≡ us) × (bs ≡ cs) = cut_above l ts us bs cs a.1 b.1 g h k in
    (ap₂ (λ x xs. x ∷ xs) q r.0, r.1)

-- so is a block and what follows it
pub cut_block : (l r d : ℕ) (ts us bs cs : List Triplet) → IsBlock l r d ts → IsBlock l r d us → BeginsBelow l bs → BeginsBelow l cs → ts ++ bs ≡ us ++ cs → (ts ≡ us) × (bs ≡ cs)
cut_block l r d [] us bs cs a b g h e = absurd a
cut_block l r d (t ∷ ts) [] bs cs a b g h e = absurd b
cut_block l r d (t ∷ ts) (u ∷ us) bs cs a b g h e =
    let q : t ≡ u = cc in
    let k : ts ++ bs ≡ us ++ cs = cc in
    let p : (ts ≡ us) × (bs ≡ cs) = cut_above l ts us bs cs a.2 b.2 g h k in
    (ap₂ (λ x xs. x ∷ xs) q p.0, p.1)

pub block_begins : (l r d : ℕ) (ts us : List Triplet) → r ≤ l → IsBlock l r d ts → BeginsBelow l (ts ++ us)
block_begins l r d [] us h b = absurd b
block_begins l r d (t ∷ ts) us h b = omega arith

pub block_is_some : (l r d : ℕ) (ts us : List Triplet) → IsBlock l r d ts → [] ≡ ts ++ us → ⊥
block_is_some l r d [] us b e = b
block_is_some l r d (t ∷ ts) us b e = cc

-- a triplet at a lesser definition level isn't a block's first
pub block_is_defined : (l r d : ℕ) (u : Triplet) (ts us : List Triplet) → IsBlock l r d ts → u.definition < d → u ∷ [] ≡ ts ++ us → ⊥
block_is_defined l r d u [] us b h e = b
block_is_defined l r d u (t ∷ ts) us b h e = let q : u ≡ t = cc in omega (arith, ap (λ (x : Triplet). x.definition) q)

-- ---- instances that fit a path

abbrev pub EachInstance : (Instance → Type 0) → Instances → Type 0
EachInstance P no_instances = Unit {0}
EachInstance P (instance x xs) = P x × EachInstance P xs

-- at each field of the path there are as many instances as its repetition allows
abbrev pub FitsPath : List Step → Instance → Type 0
FitsPath [] x = Unit {0}
FitsPath (s ∷ p) x = (fits_repetition s.repetition (count_instances (instances_in s.place x)) ≡ true) × EachInstance (FitsPath p) (instances_in s.place x)

each_weaker : (P Q : Instance → Type 0) → ((x : Instance) → P x → Q x) → (xs : Instances) → EachInstance P xs → EachInstance Q xs
each_weaker P Q f no_instances h = tt
each_weaker P Q f (instance x xs) h = (f x h.0, each_weaker P Q f xs h.1)

each_from_all : (test : Instance → Bool) (P : Instance → Type 0) → ((x : Instance) → test x ≡ true → P x) → (xs : Instances) → all_instances test xs ≡ true → EachInstance P xs
each_from_all test P f no_instances h = tt
each_from_all test P f (instance x xs) h =
    let k : (test x ≡ true) × (all_instances test xs ≡ true) = and_parts _ _ h in
    (f x k.0, each_from_all test P f xs k.1)

pub same_repetition-true : (r t : Repetition) → same_repetition r t ≡ true → r ≡ t
same_repetition-true required required h = refl
same_repetition-true optional optional h = refl
same_repetition-true repeated repeated h = refl
same_repetition-true r t h = absurd (true≢false (sym h))

-- a test through a place, by the place
through_cases : (i : ℕ) (first : Bool) (later : ℕ → Bool) (P : ℕ → Type 0) → (first ≡ true → P zero) → ((j : ℕ) → later j ≡ true → P (suc j)) → through i first later ≡ true → P i
through_cases zero first later P f g h = f h
through_cases (suc i) first later P f g h = g i h

pub and₃_parts : (a b c : Bool) → (a && b && c) ≡ true → (a ≡ true) × (b ≡ true) × (c ≡ true)
and₃_parts true true true h = (refl, refl, refl)
and₃_parts true true false h = absurd (true≢false (sym h))
and₃_parts true false c h = absurd (true≢false (sym h))
and₃_parts false b c h = absurd (true≢false (sym h))

mutual
  fits_fields : (fs : Fields) (p : List Step) (n : Node) → is_leaf_path fs p ≡ true → is_record fs n ≡ true → FitsPath p (inner n)
  fits_fields no_fields p n h v = absurd (true≢false (sym h))
  fits_fields (field m r s fs) [] n h v = absurd (true≢false (sym h))
  fits_fields (field m r s fs) (t ∷ p) no_slots h v = absurd (true≢false (sym v))
  fits_fields (field m r s fs) (t ∷ p) (gap n) h v = absurd (true≢false (sym v))
  fits_fields (field m r s fs) (t ∷ p) (slot xs n) h v =
      let k : (fits_repetition r (count_instances xs) ≡ true) × (all_instances (is_instance s) xs ≡ true) × (is_record fs n ≡ true) = and₃_parts _ _ _ v in
      through_cases t.place (same_repetition t.repetition r && is_shape_path s p) (λ (i : ℕ). is_leaf_path fs (step i t.repetition ∷ p)) (λ (i : ℕ). FitsPath (step i t.repetition ∷ p) (inner (slot xs n)))
      (λ (e : (same_repetition t.repetition r && is_shape_path s p) ≡ true).
      let g : (same_repetition t.repetition r ≡ true) × (is_shape_path s p ≡ true) = and_parts _ _ e in (
        subst (λ (q : Repetition). fits_repetition q (count_instances xs) ≡ true) (sym (same_repetition-true t.repetition r g.0)) k.0,
        each_from_all (is_instance s) (FitsPath p) (λ (x : Instance) (w : is_instance s x ≡ true). fits_shape s p x g.1 w) xs k.1,
      ))
      (λ (j : ℕ) (e : is_leaf_path fs (step j t.repetition ∷ p) ≡ true). fits_fields fs (step j t.repetition ∷ p) n e k.2)
      h

  fits_shape : (s : Shape) (p : List Step) (x : Instance) → is_shape_path s p ≡ true → is_instance s x ≡ true → FitsPath p x
  fits_shape (leaf k) [] x h v = tt
  fits_shape (leaf k) (t ∷ p) x h v = absurd (true≢false (sym h))
  fits_shape (group fs) p (atom w) h v = absurd (true≢false (sym v))
  fits_shape (group fs) p (inner n) h v = fits_fields fs p n h v

-- ---- their columns are blocks

-- the first instance of a field that isn't repeated is its last
no_more : (r : Repetition) (n : ℕ) → repetition_count r ≡ 0 → fits_repetition r (suc (suc n)) ≡ true → ⊥
no_more required n e h = omega (arith, eqb-true _ _ h)
no_more optional n e h = omega (arith, leb-true _ _ h)
no_more repeated n e h = omega (arith, e)

each_later-above : (f : ℕ → Instance → List Triplet) (l k d : ℕ) (xs : Instances) → l < k → EachInstance (λ (x : Instance). (q : ℕ) → IsBlock k q d (f q x)) xs → IsAbove l (each_later f k xs)
each_later-above f l k d no_instances h b = tt
each_later-above f l k d (instance x xs) h b = above-append l (f k x) (each_later f k xs) (block_above l k k d (f k x) (omega arith) h (b.0 k)) (each_later-above f l k d xs h b.1)

later-above : (r : Repetition) (f : ℕ → Instance → List Triplet) (l d : ℕ) (xs : Instances) → fits_repetition r (suc (count_instances xs)) ≡ true → EachInstance (λ (x : Instance). (q : ℕ) → IsBlock (l + repetition_count r) q d (f q x)) xs → IsAbove l (each_later f (l + repetition_count r) xs)
later-above r f l d no_instances h b = tt
later-above required f l d (instance x xs) h b = absurd (no_more required (count_instances xs) refl h)
later-above optional f l d (instance x xs) h b = absurd (no_more optional (count_instances xs) refl h)
later-above repeated f l d (instance x xs) h b = each_later-above f l (l + 1) d (instance x xs) (omega arith) b

block-spread : (r : Repetition) (f : ℕ → Instance → List Triplet) (l d q : ℕ) (xs : Instances) → fits_repetition r (count_instances xs) ≡ true → EachInstance (λ (x : Instance). (k : ℕ) → IsBlock (l + repetition_count r) k (d + definition_count r) (f k x)) xs → IsBlock l q d (spread f (l + repetition_count r) d q xs)
block-spread r f l d q no_instances h b = (refl, omega arith, tt)
block-spread r f l d q (instance x xs) h b = block-append l q d (f q x) (each_later f (l + repetition_count r) xs) (block_lower l (l + repetition_count r) q d (d + definition_count r) (f q x) (omega arith) (omega arith) (b.0 q)) (later-above r f l (d + definition_count r) xs h b.1)

block-column : (p : List Step) (x : Instance) (l d q : ℕ) → FitsPath p x → IsBlock l q d (instance_column p l d q x)
block-column [] x l d q h = (refl, omega arith, tt)
block-column (s ∷ p) x l d q h =
    block-spread s.repetition (instance_column p (l + repetition_count s.repetition) (d + definition_count s.repetition)) l d q (instances_in s.place x) h.0
    (each_weaker (FitsPath p) (λ (y : Instance). (k : ℕ) → IsBlock (l + repetition_count s.repetition) k (d + definition_count s.repetition) (instance_column p (l + repetition_count s.repetition) (d + definition_count s.repetition) k y))
    (λ (y : Instance) (g : FitsPath p y) (k : ℕ). block-column p y (l + repetition_count s.repetition) (d + definition_count s.repetition) k g) (instances_in s.place x) h.1)

-- the column of an instance is a block
pub block-instance : (s : Shape) (p : List Step) (x : Instance) (l d q : ℕ) → is_shape_path s p ≡ true → is_instance s x ≡ true → IsBlock l q d (instance_column p l d q x)
block-instance s p x l d q h v = block-column p x l d q (fits_shape s p x h v)

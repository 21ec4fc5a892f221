-- What the definitions of sources say of paths: which part is lacking, and that the stand-in's path begins as the leaf's does.
use Rattle.std.proofs.Common.{◌≡◌, ℕ, zero, suc, ◌+◌, ◌≤◌, ◌<◌, List, [], ◌∷◌, ◌++◌, length, map, take, Bool, true, false, refl, sym, ap, ap₂, ◌∙◌, subst, true≢false, arith}
use Rattle.std.specs.Prelude.{Option, Some, None, option_map, option_and_then, if◌then◌else◌}
use Rattle.std.proofs.lemmas.Option.{none-some, same_Some}
use Rattle.dr_meaning.specs.Schema.{Repetition, required, optional, repeated, definition_count, is_short_name}
use Rattle.dr_meaning.specs.Path.{Step, Leaf, same_repetition, leaf_below, max_repetition, max_definition}
use Rattle.dr_formats.specs.FileSchema.{FileFields, FileShape, file_leaf, file_group, FileSchema, leaves_under, shape_leaves_under, file_leaves, place_of}
use Rattle.dr_formats.specs.Lacking.{FileField, field_named, unless_required, lacking_in, lacking_at, lacking_after, first_open, StandIn, stand_in, Source, own_chunks, no_chunks, chunks_of, lacking_source, own_or, source_in}
use Rattle.dr_open.specs.Sources.{bare_step}
use Rattle.dr_open.proofs.FirstOpenLemmas.{within, within_field, in_named, first_in_named, all_closed}
use Rattle.dr_open.proofs.SourceLemmas.{same_repetitions}

-- ---- the part that is lacking

-- a path goes on behind so many parts with one that may be absent
pub record LacksPart (p : List Step) (k : ℕ) : Type 0 where
  pub step : Step
  pub after : List Step
  pub path : p ≡ take k p ++ (step ∷ after)
  pub absent : 1 ≤ definition_count step.repetition

here_lacks : (s : Step) (p : List Step) (k : ℕ) → unless_required s.repetition ≡ Some k → LacksPart (s ∷ p) k
here_lacks s p k h = by s.repetition refl h
  where
    made : 0 ≡ k → 1 ≤ definition_count s.repetition → LacksPart (s ∷ p) k
    made q w = subst (LacksPart (s ∷ p)) q (record { step = s; after = p; path = refl; absent = w })

    by : (r : Repetition) → s.repetition ≡ r → unless_required r ≡ Some k → LacksPart (s ∷ p) k
    by required e q = absurd (none-some k q)
    by optional e q = made (same_Some _ _ q) (let w : definition_count s.repetition ≡ 1 = ap definition_count e in omega (arith, w))
    by repeated e q = made (same_Some _ _ q) (let w : definition_count s.repetition ≡ 1 = ap definition_count e in omega (arith, w))

-- in a group of which one part more leads
pub record InGroup (ns : List (List ℕ)) (s : Step) (p : List Step) (f : FileField) (k : ℕ) : Type 0 where
  pub less : ℕ
  pub parts : suc less ≡ k
  pub fields : FileFields
  pub group : f.shape ≡ file_group fields
  pub repetition : s.repetition ≡ f.repetition
  pub lacking : lacking_after ns p fields ≡ Some less

in_group : (ns : List (List ℕ)) (s : Step) (p : List Step) (f : FileField) (k : ℕ) → lacking_at s.repetition (lacking_after ns p) (Some f) ≡ Some k → InGroup ns s p f k
in_group ns s p f k h = by (same_repetition s.repetition f.repetition) refl h
  where
    further : (gs : FileFields) → f.shape ≡ file_group gs → s.repetition ≡ f.repetition → (o : Option ℕ) → lacking_after ns p gs ≡ o → option_map (λ (d : ℕ). suc d) o ≡ Some k → InGroup ns s p f k
    further gs e r None q w = absurd (none-some k w)
    further gs e r (Some j) q w = record { less = j; parts = same_Some _ _ w; fields = gs; group = e; repetition = r; lacking = q }

    shape : (x : FileShape) → f.shape ≡ x → s.repetition ≡ f.repetition → lacking_in (lacking_after ns p) x ≡ Some k → InGroup ns s p f k
    shape (file_leaf t c) e r w = absurd (none-some k w)
    shape (file_group gs) e r w = further gs e r (lacking_after ns p gs) refl w

    by : (b : Bool) → same_repetition s.repetition f.repetition ≡ b → (if b then lacking_in (lacking_after ns p) f.shape else None) ≡ Some k → InGroup ns s p f k
    by false e q = absurd (none-some k q)
    by true e q = shape f.shape refl (same_repetitions s.repetition f.repetition e) q

pub lacks_part : (ns : List (List ℕ)) (p : List Step) (fs : FileFields) (k : ℕ) → lacking_after ns p fs ≡ Some k → LacksPart p k
lacks_part [] p fs k h = absurd (none-some k h)
lacks_part (n ∷ ns) [] fs k h = absurd (none-some k h)
lacks_part (n ∷ ns) (s ∷ p) fs k h = by (λ gs j q. lacks_part ns p gs j q) (field_named n fs) h
  where
    one_more : (j : ℕ) → LacksPart p j → LacksPart (s ∷ p) (suc j)
    one_more j x = record { step = x.step; after = x.after; path = ap (λ (q : List Step). s ∷ q) x.path; absent = x.absent }

    by : ((gs : FileFields) (j : ℕ) → lacking_after ns p gs ≡ Some j → LacksPart p j) → (o : Option FileField) → lacking_at s.repetition (lacking_after ns p) o ≡ Some k → LacksPart (s ∷ p) k
    by g None q = here_lacks s p k q
    by g (Some f) q = let x : InGroup ns s p f k = in_group ns s p f k q in subst (LacksPart (s ∷ p)) x.parts (one_more x.less (g x.fields x.less x.lacking))

-- ---- the path of the stand-in

below_read : (n : List ℕ) (r : Repetition) (o : Option Leaf) (m : Leaf) → option_map (leaf_below n (record { place = 0; repetition = r })) o ≡ Some m → (x : Leaf) × (o ≡ Some x) × (leaf_below n (record { place = 0; repetition = r }) x ≡ m)
below_read n r None m h = absurd (none-some m h)
below_read n r (Some x) m h = (x, refl, same_Some _ _ h)

pub path_begins : (ns : List (List ℕ)) (p : List Step) (fs : FileFields) (d k : ℕ) (m : Leaf) → lacking_after ns p fs ≡ Some k → first_open (take k ns) (map (within d) (leaves_under [] fs)) ≡ Some m
    → (q : List Step) × (m.path ≡ map bare_step (take k p) ++ q)
path_begins ns p fs d zero m h g = (m.path, refl)
path_begins [] p fs d (suc k) m h g = absurd (none-some _ h)
path_begins (n ∷ ns) [] fs d (suc k) m h g = absurd (none-some _ h)
path_begins (n ∷ ns) (s ∷ p) fs d (suc k) m h g = by (λ gs e x a b. path_begins ns p gs e k x a b) (field_named n fs) refl h
  where
    required_part : (r : Repetition) → unless_required r ≡ Some (suc k) → ⊥
    required_part required q = none-some (suc k) q
    required_part optional q = let e : 0 ≡ suc k = same_Some _ _ q in omega (arith, e)
    required_part repeated q = let e : 0 ≡ suc k = same_Some _ _ q in omega (arith, e)

    inside : ((gs : FileFields) (e : ℕ) (x : Leaf) → lacking_after ns p gs ≡ Some k → first_open (take k ns) (map (within e) (leaves_under [] gs)) ≡ Some x → (q : List Step) × (x.path ≡ map bare_step (take k p) ++ q))
        → (f : FileField) (x : InGroup ns s p f (suc k)) (e : ℕ) → option_map (leaf_below n (record { place = 0; repetition = f.repetition })) (first_open (take k ns) (map (within_field e) (shape_leaves_under f.shape))) ≡ Some m
        → (q : List Step) × (m.path ≡ map bare_step (take (suc k) (s ∷ p)) ++ q)
    inside i f x zero w =
        let y = below_read n f.repetition (first_open (take k ns) (map (within_field zero) (shape_leaves_under f.shape))) m w in
        absurd (none-some y.0 (sym (all_closed (take k ns) (within_field zero) (shape_leaves_under f.shape) (λ l. refl)) ∙ y.1))
    inside i f x (suc e) w =
        let y = below_read n f.repetition (first_open (take k ns) (map (within e) (shape_leaves_under f.shape))) m w in
        let j : x.less ≡ k = omega (arith, x.parts) in
        let o : first_open (take k ns) (map (within e) (leaves_under [] x.fields)) ≡ Some y.0 = sym (ap (λ (z : FileShape). first_open (take k ns) (map (within e) (shape_leaves_under z))) x.group) ∙ y.1 in
        let z = i x.fields e y.0 (x.lacking ∙ ap (λ (v : ℕ). Some v) j) o in
        let a : m.path ≡ record { place = 0; repetition = f.repetition } ∷ (y.0).path = sym (ap (λ (v : Leaf). v.path) y.2) in
        (z.0, a ∙ ap₂ (λ (r : Repetition) (v : List Step). record { place = 0; repetition = r } ∷ v) (sym x.repetition) z.1)

    named : ((gs : FileFields) (e : ℕ) (x : Leaf) → lacking_after ns p gs ≡ Some k → first_open (take k ns) (map (within e) (leaves_under [] gs)) ≡ Some x → (q : List Step) × (x.path ≡ map bare_step (take k p) ++ q))
        → (f : FileField) (x : InGroup ns s p f (suc k)) (b : Bool)
        → (if b then option_map (leaf_below n (record { place = 0; repetition = f.repetition })) (first_open (take k ns) (map (within_field d) (shape_leaves_under f.shape))) else None) ≡ Some m
        → (q : List Step) × (m.path ≡ map bare_step (take (suc k) (s ∷ p)) ++ q)
    named i f x true w = inside i f x d w
    named i f x false w = absurd (none-some m w)

    by : ((gs : FileFields) (e : ℕ) (x : Leaf) → lacking_after ns p gs ≡ Some k → first_open (take k ns) (map (within e) (leaves_under [] gs)) ≡ Some x → (q : List Step) × (x.path ≡ map bare_step (take k p) ++ q))
        → (o : Option FileField) → field_named n fs ≡ o → lacking_at s.repetition (lacking_after ns p) o ≡ Some (suc k) → (q : List Step) × (m.path ≡ map bare_step (take (suc k) (s ∷ p)) ++ q)
    by i None e q = absurd (required_part s.repetition q)
    by i (Some f) e q = named i f (in_group ns s p f (suc k) q) (is_short_name n) (sym (ap (in_named n (take k ns) d) e) ∙ (sym (first_in_named n (take k ns) [] d fs refl) ∙ g))

-- ---- sources

-- what the source of a leaf says of its path
pub record Stands (l : Leaf) (x : StandIn) : Type 0 where
  pub parts : ℕ
  pub lacks : LacksPart l.path parts
  pub inner : List Step
  pub path : x.leaf.path ≡ map bare_step (take parts l.path) ++ inner
  pub repetition : x.repetition ≡ max_repetition (take parts l.path)
  pub definition : x.definition ≡ max_definition (take parts l.path)

abbrev pub Tells : Leaf → Source → Type 0
Tells l own_chunks = Unit {0}
Tells l no_chunks = LacksPart l.path 0
Tells l (chunks_of x) = Stands l x

same_source : (a b : Source) → Some a ≡ Some b → a ≡ b
same_source a b h = same_Some a b h

stands : (s : FileSchema) (l : Leaf) (k : ℕ) → lacking_after l.names l.path s.fields ≡ Some k → (o : Option Leaf) → first_open (take k l.names) (file_leaves s.fields) ≡ o → (x : Source)
    → option_map chunks_of (option_map (λ (m : Leaf). record { leaf = m; repetition = max_repetition (take k l.path); definition = max_definition (take k l.path) }) o) ≡ Some x → Tells l x
stands s l k h None q x e = absurd (none-some x e)
stands s l k h (Some m) q x e =
    let z = path_begins l.names l.path s.fields 32 k m h q in
    subst (Tells l) (same_Some _ _ e)
    (record { parts = k; lacks = lacks_part l.names l.path s.fields k h; inner = z.0; path = z.1; repetition = refl; definition = refl })

lacking_tells : (s : FileSchema) (l : Leaf) (o : Option ℕ) → lacking_after l.names l.path s.fields ≡ o → (x : Source) → option_and_then (lacking_source s l) o ≡ Some x → Tells l x
lacking_tells s l None q x e = absurd (none-some x e)
lacking_tells s l (Some zero) q x e = subst (Tells l) (same_Some _ _ e) (lacks_part l.names l.path s.fields 0 q)
lacking_tells s l (Some (suc k)) q x e = stands s l (suc k) q (first_open (take (suc k) l.names) (file_leaves s.fields)) refl x e

pub source_tells : (s : FileSchema) (l : Leaf) (x : Source) → source_in s l ≡ Some x → Tells l x
source_tells s l x h = by (place_of l (file_leaves s.fields)) h
  where
    by : (o : Option ℕ) → own_or o (option_and_then (lacking_source s l) (lacking_after l.names l.path s.fields)) ≡ Some x → Tells l x
    by (Some i) q = subst (Tells l) (same_Some _ _ q) tt
    by None q = lacking_tells s l (lacking_after l.names l.path s.fields) refl x q

-- ---- levels

pub definition_append : (p q : List Step) → max_definition (p ++ q) ≡ max_definition p + max_definition q
definition_append [] q = omega arith
definition_append (s ∷ p) q = omega (arith, definition_append p q)

-- the group's greatest definition level is below that of the leaf
pub group_below : (p : List Step) (k : ℕ) → LacksPart p k → max_definition (take k p) < max_definition p
group_below p k x =
    let e : max_definition p ≡ max_definition (take k p) + (definition_count x.step.repetition + max_definition x.after) = ap max_definition x.path ∙ definition_append (take k p) (x.step ∷ x.after) in
    omega (arith, e, x.absent)

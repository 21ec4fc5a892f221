-- Held groups, where one changes or a new one is made.
use Rattle.std.specs.Prelude.{◌≡◌, ◌<◌, ℕ, List, [], ◌∷◌, ◌++◌, map, length, take, get_or, Option, Result, Ok, Err}
use Rattle.std.proofs.Common.{refl, sym, ap, ap₂, ◌∙◌, subst, arith}
use Rattle.std.proofs.Math.ListN.{set}
use Rattle.std.proofs.Math.Seq.{map-set_same}
use Rattle.std.proofs.lemmas.List.{map-set, map-append, length-map, take_all}
use Rattle.dr_memory.specs.declared.NoMemory.{NoMemory}
use Rattle.dr_partials.specs.Accumulators.{Accumulator}
use Rattle.dr_partials.specs.Partials as meant
use Rattle.dr_meaning.specs.Query.{GroupItem}
use Rattle.dr_partials.specs.Putting.{Taken, Put, put_group}
use Rattle.dr_partials.proofs.GroupLemmas.{Tuple}
use Rattle.dr_group.specs.Views.{cell_view}
use Rattle.dr_group.specs.Gathering.{Becomes, gathering_view, gatherings_of, taken_by, new_group_by, put_by}
use Rattle.dr_group.specs.Groups.{group_view, no_group, accumulators_view, with_accumulators, taken_at}
use Rattle.dr_group.specs.Chains.{hashes_of}
use Rattle.dr_group.specs.Distinct.{times, AreDistinct, group_hash, group_hashes}
use Rattle.dr_group.specs.Hashes.{tuple_hash}
use Rattle.dr_group.specs.Maps.{in_order}
use Rattle.dr_group.specs.declared.gathering.Gathering.{Gathering}
use Rattle.dr_group.specs.declared.group.Group.{Group}
use Rattle.dr_group.specs.declared.index.Link.{Link}
use Rattle.dr_group.proofs.DistinctLemmas.{push_distinct, set_distinct}
use Rattle.dr_group.proofs.FindLemmas.{group_there}
use Rattle.dr_group.proofs.GatheringLemmas.{put_alike}
use Rattle.dr_group.proofs.PutLemmas.{put_new, put_old}

-- ---- where a group changes

abbrev made : Tuple → List Accumulator → meant.Group
made ts xs = record { keys = ts; accumulators = xs }

with_taken : (ks : List Gathering) (t : Option Taken) (g h : Group) → accumulators_view h.accumulators.items ≡ taken_by ks t (accumulators_view g.accumulators.items) → h.keys ≡ g.keys
    → group_view h ≡ with_accumulators (group_view g) (taken_by ks t (group_view g).accumulators)
with_taken ks t g h e f = ap₂ made (ap (λ v. map cell_view v.items) f) e

same_view : (g h : Group) → accumulators_view h.accumulators.items ≡ accumulators_view g.accumulators.items → h.keys ≡ g.keys → group_view h ≡ group_view g
same_view g h e f = ap₂ made (ap (λ v. map cell_view v.items) f) e

pub held_taken : (r : Result (Unit {0}) NoMemory) (ks : List Gathering) (t : Option Taken) (gs : List Group) (n : ℕ) (g h : Group) → n < length gs → g ≡ get_or gs n g → h.keys ≡ g.keys
    → Becomes (accumulators_view g.accumulators.items) (accumulators_view h.accumulators.items) (taken_by ks t (accumulators_view g.accumulators.items)) r
    → Becomes (map group_view gs) (map group_view (set gs n h)) (taken_at ks n t (map group_view gs)) r
held_taken (Ok done) ks t gs n g h a f k s =
    map-set group_view gs n h
    ∙ ap (set (map group_view gs) n) (with_taken ks t g h s k ∙ ap (λ (v : meant.Group). with_accumulators v (taken_by ks t v.accumulators)) (sym (group_there gs n g a f)))
held_taken (Err x) ks t gs n g h a f k s = map-set_same group_view gs n h g (same_view g h s k ∙ ap group_view f)

pub held_distinct : (gs : List Group) (n : ℕ) (g h : Group) → n < length gs → g ≡ get_or gs n g → h.keys ≡ g.keys → AreDistinct (map group_view gs) → AreDistinct (map group_view (set gs n h))
held_distinct gs n g h a f k d =
    subst AreDistinct (sym (map-set group_view gs n h))
    (set_distinct (map group_view gs) n (group_view h) (omega (arith, a, length-map gs group_view)) (ap (λ v. map cell_view v.items) k ∙ ap (λ (v : meant.Group). v.keys) (sym (group_there gs n g a f))) d)

pub held_hashes : (gs : List Group) (n : ℕ) (g h : Group) → g ≡ get_or gs n g → h.keys ≡ g.keys → group_hashes (set gs n h) ≡ group_hashes gs
held_hashes gs n g h f k = map-set_same group_hash gs n h g (ap (λ v. tuple_hash (map cell_view v.items)) k ∙ ap group_hash f)

pub ordered_put : (r : Result (Unit {0}) NoMemory) (ks : List Gathering) (p : Put) (gs hs : List meant.Group) (n : ℕ) → AreDistinct gs → n < length gs → (get_or gs n no_group).keys ≡ p.keys
    → Becomes gs hs (taken_at ks n p.taken gs) r → Becomes (in_order gs) (in_order hs) (put_by ks p (in_order gs)) r
ordered_put (Ok done) ks p gs hs n d h e s = ap in_order s ∙ put_old ks p gs n d h e
ordered_put (Err x) ks p gs hs n d h e s = ap in_order s

-- the same, of groups that are held as before
pub put_prepared : (r : Result (Unit {0}) NoMemory) (ks js : List Gathering) (p : Put) (gs hs after : List meant.Group) → hs ≡ gs → js ≡ ks → Becomes hs after (put_by js p hs) r → Becomes gs after (put_by ks p gs) r
put_prepared r ks js p gs hs after e f s =
    subst (λ (x : List meant.Group). Becomes x after (put_by ks p x) r) e (subst (λ (k : List Gathering). Becomes hs after (put_by k p hs) r) f s)

-- by the items
pub put_items : (r : Result (Unit {0}) NoMemory) (items : List GroupItem) (ks : List Gathering) (p : Put) (gs after : List meant.Group) → gatherings_of items ≡ map gathering_view ks
    → Becomes gs after (put_by ks p gs) r → Becomes gs after (put_group items p gs) r
put_items r items ks p gs after e s = subst (λ (x : List meant.Group). Becomes gs after x r) (sym (put_alike items ks p gs e)) s

-- ---- where one is made

pub grown : (gs hs : List Group) (g : Group) (v : meant.Group) → hs ≡ gs ++ g ∷ [] → group_view g ≡ v → map group_view hs ≡ map group_view gs ++ v ∷ []
grown gs hs g v e f = ap (map group_view) e ∙ map-append group_view gs (g ∷ []) ∙ ap (λ (w : meant.Group). map group_view gs ++ w ∷ []) f

pub grown_distinct : (gs hs : List Group) (g : Group) (v : meant.Group) → hs ≡ gs ++ g ∷ [] → group_view g ≡ v → AreDistinct (map group_view gs) → times v.keys (map group_view gs) ≡ 0 → AreDistinct (map group_view hs)
grown_distinct gs hs g v e f d z = subst AreDistinct (sym (grown gs hs g v e f)) (push_distinct (map group_view gs) v d z)

pub grown_order : (ks : List Gathering) (p : Put) (gs hs : List Group) (g : Group) → hs ≡ gs ++ g ∷ [] → group_view g ≡ new_group_by ks p → AreDistinct (map group_view gs) → times p.keys (map group_view gs) ≡ 0
    → in_order (map group_view hs) ≡ put_by ks p (in_order (map group_view gs))
grown_order ks p gs hs g e f d z = ap in_order (grown gs hs g (new_group_by ks p) e f) ∙ put_new ks p (map group_view gs) d z

-- ---- the hashes

-- each is indexed
pub all_indexed : (links : List Link) (gs : List Group) → hashes_of links ≡ group_hashes gs → hashes_of links ≡ take (length links) (group_hashes gs)
all_indexed links gs e =
    e ∙ sym (take_all (length links) (group_hashes gs) (omega (arith, ap length e, length-map links (λ (l : Link). l.hash))))

pub indexed_all : (links : List Link) (gs : List Group) → length links ≡ length gs → hashes_of links ≡ take (length links) (group_hashes gs) → hashes_of links ≡ group_hashes gs
indexed_all links gs n e = e ∙ take_all (length links) (group_hashes gs) (omega (arith, n, length-map gs group_hash))

pub grown_indexed : (links after : List Link) (gs hs : List Group) (g : Group) (t : Tuple) (hash : ℕ) → hs ≡ gs ++ g ∷ [] → (group_view g).keys ≡ t → hash ≡ tuple_hash t → length links ≡ length gs
    → hashes_of links ≡ take (length links) (group_hashes gs) → hashes_of after ≡ hashes_of links ++ hash ∷ [] → hashes_of after ≡ take (length after) (group_hashes hs)
grown_indexed links after gs hs g t hash e f k n i a =
    all_indexed after hs
    (a ∙ ap₂ (λ (xs : List ℕ) (x : ℕ). xs ++ x ∷ []) (indexed_all links gs n i) (k ∙ ap tuple_hash (sym f)) ∙ sym (ap group_hashes e ∙ map-append group_hash gs (g ∷ [])))

-- none is
pub none_indexed : (links : List Link) (gs : List Group) → links ≡ [] → hashes_of links ≡ take (length links) (group_hashes gs)
none_indexed links gs e = subst (λ (ls : List Link). hashes_of ls ≡ take (length ls) (group_hashes gs)) (sym e) refl

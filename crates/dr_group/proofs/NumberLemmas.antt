-- Groups by their numbers.
use Rattle.std.proofs.lemmas.List.{map-append, set-get_or}
use Rattle.std.proofs.Common.{◌≡◌, ℕ, zero, suc, List, [], ◌∷◌, ◌++◌, map, length, get_or, Option, Some, None, Ok, Err, Result, refl, sym, ap, ◌∙◌, arith, IfOk}
use Rattle.std.specs.List.{slice_get}
use Rattle.std.proofs.Math.Seq.{map-set_same}
use Rattle.dr_memory.specs.declared.NoMemory.{NoMemory}
use Rattle.dr_meaning.specs.Record.{Value}
use Rattle.dr_partials.specs.Partials.{Group}
use Rattle.dr_meaning.specs.Query.{GroupItem}
use Rattle.dr_partials.specs.Putting.{Taken, Put, put_group}
use Rattle.dr_group.specs.Gathering.{Becomes, taken_by, put_by, gatherings_of, gathering_view}
use Rattle.dr_group.specs.Groups.{no_group, with_accumulators, taken_at, put_of}
use Rattle.dr_group.specs.Distinct.{AreDistinct, IsFound, tuples_of}
use Rattle.dr_group.specs.Maps.{in_order}
use Rattle.dr_group.specs.declared.gathering.Gathering.{Gathering}
use Rattle.dr_group.proofs.HeldLemmas.{put_items}
use Rattle.dr_group.proofs.PutLemmas.{put_old}

pub numbered_found : (gs : List Group) (k : ℕ) (t : List (Option Value)) → slice_get (tuples_of gs) k ≡ Some t → IsFound t gs (Some k)
numbered_found [] k t e = absurd (cc)
numbered_found (g ∷ gs) zero t e = (omega arith, cc)
numbered_found (g ∷ gs) (suc k) t e =
    let w : IsFound t gs (Some k) = numbered_found gs k t e in
    (omega (arith, w.0), w.1)

taken_tuples : (ks : List Gathering) (k : ℕ) (t : Option Taken) (gs : List Group) → tuples_of (taken_at ks k t gs) ≡ tuples_of gs
taken_tuples ks k t gs =
    map-set_same (λ (g : Group). g.keys) gs k (with_accumulators (get_or gs k no_group) (taken_by ks t (get_or gs k no_group).accumulators)) no_group refl

pub tuples_stay : (r : Result (Unit {0}) NoMemory) (ks : List Gathering) (k : ℕ) (t : Option Taken) (gs hs : List Group) → Becomes gs hs (taken_at ks k t gs) r → tuples_of hs ≡ tuples_of gs
tuples_stay (Ok done) ks k t gs hs b = ap tuples_of b ∙ taken_tuples ks k t gs
tuples_stay (Err e) ks k t gs hs b = ap tuples_of b

pub found_numbered : (gs : List Group) (k : ℕ) (t : List (Option Value)) → IsFound t gs (Some k) → slice_get (tuples_of gs) k ≡ Some t
found_numbered [] k t f = absurd (omega (arith, f.0))
found_numbered (g ∷ gs) zero t f = ap Some f.1
found_numbered (g ∷ gs) (suc k) t f = found_numbered gs k t (omega (arith, f.0), f.1)

pub last_numbered : (ts : List (List (Option Value))) (t : List (Option Value)) → slice_get (ts ++ t ∷ []) (length ts) ≡ Some t
last_numbered [] t = refl
last_numbered (u ∷ ts) t = last_numbered ts t

pub first_numbered : (ts : List (List (Option Value))) (u : List (Option Value)) (k : ℕ) (t : List (Option Value)) → slice_get ts k ≡ Some t → slice_get (ts ++ u ∷ []) k ≡ Some t
first_numbered [] u k t e = absurd (cc)
first_numbered (s ∷ ts) u zero t e = e
first_numbered (s ∷ ts) u (suc k) t e = first_numbered ts u k t e

pub tuples_grown : (gs hs : List Group) (g : Group) → hs ≡ gs ++ g ∷ [] → tuples_of hs ≡ tuples_of gs ++ g.keys ∷ []
tuples_grown gs hs g e = ap tuples_of e ∙ map-append (λ (h : Group). h.keys) gs (g ∷ [])

pub items_put : (items : List GroupItem) (ks : List Gathering) (p : Put) (gs after : List Group) → gatherings_of items ≡ map gathering_view ks → after ≡ put_by ks p gs → after ≡ put_group items p gs
items_put items ks p gs after e s = put_items (Ok tt) items ks p gs after e s

pub made_put : (r : Result ℕ NoMemory) (ks : List Gathering) (p : Put) (gs after : List Group) → IfOk r (λ (n : ℕ). after ≡ put_by ks p gs)
    → IfOk r (λ (n : ℕ). (items : List GroupItem) → gatherings_of items ≡ map gathering_view ks → after ≡ put_group items p gs)
made_put (Ok n) ks p gs after s = λ (items : List GroupItem) (h : gatherings_of items ≡ map gathering_view ks). items_put items ks p gs after h s
made_put (Err x) ks p gs after s = tt

-- ---- nothing taken

-- the key tuple of a group that is there, with which nothing is taken, leaves the groups as they are
pub nothing_put : (ks : List Gathering) (gs : List Group) (k : ℕ) (t : List (Option Value)) → AreDistinct gs → IsFound t gs (Some k) → in_order gs ≡ put_by ks (put_of t None) (in_order gs)
nothing_put ks gs k t d f = sym (ap in_order (set-get_or gs k no_group)) ∙ put_old ks (put_of t None) gs k d f.0 f.1

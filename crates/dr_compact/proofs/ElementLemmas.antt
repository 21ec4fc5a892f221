-- One more value, and values inside others.
use Rattle.std.proofs.Common.{◌≡◌, ℕ, List, [], ◌∷◌, ◌++◌, map, refl, sym, ap, subst, ◌∙◌}
use Rattle.std.specs.Prelude.{Vec, ◌==◌, ℤ, Bool, Result, Ok, Err, IfOk, IfErr}
use Rattle.std.specs.declared.alloc.Global.{Global}
use Rattle.std.proofs.lemmas.List.{map-append}
use Rattle.dr_formats.specs.Reading.{Reading, got, refused, goes_on, give}
use Rattle.dr_formats.specs.Compact as compact
use Rattle.dr_formats.specs.Compact.{CompactFault, ThriftType, Item, Struct, value_of, signed_varint}
use Rattle.dr_compact.specs.Reads.{Reads, IsFaultOf}
use Rattle.dr_compact.specs.declared.fault.CompactFault.{CompactFault as Fault}
use Rattle.dr_compact.specs.declared.fault.CompactFault.TheVariants as faults
use Rattle.dr_compact.specs.declared.tree.Values.{Values}
use Rattle.dr_compact.specs.declared.tree.TruthType.{TruthType}
use Rattle.dr_compact.specs.declared.tree.Map.{Map}
use Rattle.dr_compact.specs.declared.tree.Tree.{Tree}
use Rattle.dr_compact.specs.Views.{SeenValues, Elements, values_view, elements_view, map_view, tree_view, truth_type_view}
use Rattle.dr_compact.specs.Steps.{elements, map_inside, struct_inside, one_more, joined}
use Rattle.dr_compact.proofs.ViewLemmas.{seen, as_list, as_set, as_struct}
use Rattle.dr_compact.proofs.NumberLemmas.{fault_then}
use Rattle.dr_compact.proofs.StepLemmas.{list_inside, set_inside, map_is_inside, struct_is_inside}

-- the view of a constructor of values
abbrev pub IsSeenAs : {A : Type 0} → (Vec A Global → Values) → ThriftType → (A → Item) → Type 0
IsSeenAs {A} make t f = (v : Vec A Global) → values_view (make v) ≡ seen t (map f v.items)

at_values : (n : ℕ) (bytes rest : List ℕ) (u v w : SeenValues) (x : Item) → u ≡ v → value_of n v.element bytes ≡ got x rest → w ≡ one_more v x → joined u (value_of n u.element bytes) ≡ got w rest
at_values n bytes rest u v w x e h g = subst (λ (y : SeenValues). joined y (value_of n y.element bytes) ≡ got w rest) (sym e) (ap (joined v) h ∙ ap (λ (y : SeenValues). got y rest) (sym g))

pub one_joined : {A : Type 0} (make : Vec A Global → Values) (t : ThriftType) (f : A → Item) → IsSeenAs make t f → (n : ℕ) (values : Values) (vs ws : Vec A Global) (a : A) (bytes rest : List ℕ) → values ≡ make vs → value_of n t bytes ≡ got (f a) rest → ws.items ≡ vs.items ++ a ∷ [] → joined (values_view values) (value_of n (values_view values).element bytes) ≡ got (values_view (make ws)) rest
one_joined make t f view n values vs ws a bytes rest e h g =
    at_values n bytes rest (values_view values) (seen t (map f vs.items)) (values_view (make ws)) (f a) (ap values_view e ∙ view vs) h
    (view ws ∙ ap (seen t) (ap (map f) g ∙ map-append f vs.items (a ∷ [])))

joined_on : (f : Fault) (v : SeenValues) (r : Reading CompactFault Item) → IsFaultOf f r → IsFaultOf f (joined v r)
joined_on faults.NoMemory v r h = h
joined_on faults.Malformed v (got x rest) h = absurd h
joined_on faults.Malformed v (refused e rest) h = h
joined_on faults.TooDeep v (got x rest) h = absurd h
joined_on faults.TooDeep v (refused e rest) h = h

pub none_joined : {A : Type 0} (make : Vec A Global → Values) (t : ThriftType) (f : A → Item) → IsSeenAs make t f → (n : ℕ) (values : Values) (vs : Vec A Global) (bytes : List ℕ) (e : Fault) → values ≡ make vs → IsFaultOf e (value_of n t bytes) → IsFaultOf e (joined (values_view values) (value_of n (values_view values).element bytes))
none_joined make t f view n values vs bytes e h g = subst (λ (y : SeenValues). IsFaultOf e (joined y (value_of n y.element bytes))) (sym (ap values_view h ∙ view vs)) (joined_on e (seen t (map f vs.items)) (value_of n t bytes) g)

-- ---- lists, sets, maps and structs inside

pub list_got : (n : ℕ) (bytes rest : List ℕ) (e : Elements) → elements n bytes ≡ got e rest → value_of n compact.list_type bytes ≡ got (compact.list_item e.element e.items) rest
list_got n bytes rest e h = list_inside n bytes ∙ ap (λ (r : Reading CompactFault Elements). goes_on r (λ e. give (compact.list_item e.element e.items))) h

pub set_got : (n : ℕ) (bytes rest : List ℕ) (e : Elements) → elements n bytes ≡ got e rest → value_of n compact.set_type bytes ≡ got (compact.set_item e.element e.items) rest
set_got n bytes rest e h = set_inside n bytes ∙ ap (λ (r : Reading CompactFault Elements). goes_on r (λ e. give (compact.set_item e.element e.items))) h

pub struct_got : (n : ℕ) (bytes rest : List ℕ) (s : Struct) → struct_inside n bytes ≡ got s rest → value_of n compact.struct_type bytes ≡ got (compact.struct_item s) rest
struct_got n bytes rest s h = struct_is_inside n bytes ∙ ap (λ (r : Reading CompactFault Struct). goes_on r (λ s. give (compact.struct_item s))) h

pub list_refused : (n : ℕ) (bytes : List ℕ) (e : Fault) → IsFaultOf e (elements n bytes) → IsFaultOf e (value_of n compact.list_type bytes)
list_refused n bytes e h = subst (IsFaultOf e) (sym (list_inside n bytes)) (fault_then e (elements n bytes) (λ e. give (compact.list_item e.element e.items)) h)

pub set_refused : (n : ℕ) (bytes : List ℕ) (e : Fault) → IsFaultOf e (elements n bytes) → IsFaultOf e (value_of n compact.set_type bytes)
set_refused n bytes e h = subst (IsFaultOf e) (sym (set_inside n bytes)) (fault_then e (elements n bytes) (λ e. give (compact.set_item e.element e.items)) h)

pub map_refused : (n : ℕ) (bytes : List ℕ) (e : Fault) → IsFaultOf e (map_inside n bytes) → IsFaultOf e (value_of n compact.map_type bytes)
map_refused n bytes e h = subst (IsFaultOf e) (sym (map_is_inside n bytes)) h

pub struct_refused : (n : ℕ) (bytes : List ℕ) (e : Fault) → IsFaultOf e (struct_inside n bytes) → IsFaultOf e (value_of n compact.struct_type bytes)
struct_refused n bytes e h = subst (IsFaultOf e) (sym (struct_is_inside n bytes)) (fault_then e (struct_inside n bytes) (λ s. give (compact.struct_item s)) h)

-- ---- bytes

pub truth_got : (t : TruthType) (n b : ℕ) (bytes rest : List ℕ) → bytes ≡ b ∷ rest → value_of n (truth_type_view t) bytes ≡ got (compact.truth_item (b == 1)) rest
truth_got TruthType.True n b bytes rest h = ap (value_of n compact.true_type) h
truth_got TruthType.False n b bytes rest h = ap (value_of n compact.true_type) h

pub byte_got : (n b : ℕ) (bytes rest : List ℕ) → bytes ≡ b ∷ rest → value_of n compact.byte_type bytes ≡ got (compact.byte_item b) rest
byte_got n b bytes rest h = ap (value_of n compact.byte_type) h

-- ---- what came of reading, put behind other values

-- values with one more behind them, if it was read
pub behind_joined : {A : Type 0} (make : Vec A Global → Values) (t : ThriftType) (f : A → Item) → IsSeenAs make t f → (n : ℕ) (values : Values) (vs : Vec A Global) (bytes rest : List ℕ) (read : Result A Fault) (result : Result (Vec A Global) Fault)
    → values ≡ make vs → Reads f (value_of n t bytes) rest read → IfOk read (λ x. IfOk result (λ v. v.items ≡ vs.items ++ x ∷ [])) → IfOk read (λ x. IfErr result (λ e. e ≡ Fault.NoMemory)) → IfErr read (λ e. result ≡ Err e)
    → Reads (λ v. values_view (make v)) (joined (values_view values) (value_of n (values_view values).element bytes)) rest result
behind_joined make t f view n values vs bytes rest (Ok a) (Ok ws) e h p w g = one_joined make t f view n values vs ws a bytes rest e h p
behind_joined make t f view n values vs bytes rest (Ok a) (Err x) e h p w g = subst (λ y. IsFaultOf y (joined (values_view values) (value_of n (values_view values).element bytes))) (sym w) tt
behind_joined make t f view n values vs bytes rest (Err x) result e h p w g =
    subst (λ r. Reads (λ v. values_view (make v)) (joined (values_view values) (value_of n (values_view values).element bytes)) rest r) (sym g) (none_joined make t f view n values vs bytes x e h)

-- numbers with the next signed one behind them
pub signed_joined : (make : Vec ℤ Global → Values) (t : ThriftType) (f : ℤ → Item) → IsSeenAs make t f → (n : ℕ) (values : Values) (vs : Vec ℤ Global) (bytes rest : List ℕ) (result : Result (Vec ℤ Global) Fault)
    → values ≡ make vs → value_of n t bytes ≡ goes_on (signed_varint bytes) (λ z. give (f z)) → IfOk result (λ v. (z : ℤ) × (signed_varint bytes ≡ got z rest) × (v.items ≡ vs.items ++ z ∷ [])) → IfErr result (λ e. IsFaultOf e (signed_varint bytes))
    → Reads (λ v. values_view (make v)) (joined (values_view values) (value_of n (values_view values).element bytes)) rest result
signed_joined make t f view n values vs bytes rest (Ok ws) e v p g = one_joined make t f view n values vs ws p.0 bytes rest e (v ∙ ap (λ (r : Reading CompactFault ℤ). goes_on r (λ z. give (f z))) p.1) p.2
signed_joined make t f view n values vs bytes rest (Err x) e v p g = none_joined make t f view n values vs bytes x e (subst (IsFaultOf x) (sym v) (fault_then x (signed_varint bytes) (λ z. give (f z)) g))

-- an item of what was read
pub item_reads : {A B : Type 0} (see : A → B) (item : B → Item) (meant : Reading CompactFault B) (rest : List ℕ) (r : Result A Fault) → Reads see meant rest r → Reads (λ a. item (see a)) (goes_on meant (λ z. give (item z))) rest r
item_reads see item meant rest (Ok a) h = ap (λ m. goes_on m (λ z. give (item z))) h
item_reads see item meant rest (Err e) h = fault_then e meant (λ z. give (item z)) h

pub truth_reads : (t : TruthType) (n : ℕ) (bytes rest : List ℕ) (r : Result Bool Fault) → IfOk r (λ x. (b : ℕ) × (bytes ≡ b ∷ rest) × (x ≡ (b == 1))) → IfErr r (λ e. (e ≡ Fault.Malformed) × (bytes ≡ []))
    → Reads compact.truth_item (value_of n (truth_type_view t) bytes) rest r
truth_reads t n bytes rest (Ok x) h g = truth_got t n h.0 bytes rest h.1 ∙ ap (λ x. got (compact.truth_item x) rest) (sym h.2)
truth_reads TruthType.True n bytes rest (Err e) h g = subst (λ y. IsFaultOf y (value_of n compact.true_type bytes)) (sym g.0) (subst (λ xs. IsFaultOf Fault.Malformed (value_of n compact.true_type xs)) (sym g.1) refl)
truth_reads TruthType.False n bytes rest (Err e) h g = subst (λ y. IsFaultOf y (value_of n compact.false_type bytes)) (sym g.0) (subst (λ xs. IsFaultOf Fault.Malformed (value_of n compact.false_type xs)) (sym g.1) refl)

pub byte_reads : (n : ℕ) (bytes rest : List ℕ) (r : Result ℕ Fault) → IfOk r (λ b. bytes ≡ b ∷ rest) → IfErr r (λ e. (e ≡ Fault.Malformed) × (bytes ≡ [])) → Reads compact.byte_item (value_of n compact.byte_type bytes) rest r
byte_reads n bytes rest (Ok b) h g = byte_got n b bytes rest h
byte_reads n bytes rest (Err e) h g = subst (λ y. IsFaultOf y (value_of n compact.byte_type bytes)) (sym g.0) (subst (λ xs. IsFaultOf Fault.Malformed (value_of n compact.byte_type xs)) (sym g.1) refl)

pub list_reads : (n : ℕ) (bytes rest : List ℕ) (r : Result Values Fault) → Reads elements_view (elements n bytes) rest r → Reads as_list (value_of n compact.list_type bytes) rest r
list_reads n bytes rest (Ok v) h = list_got n bytes rest (elements_view v) h
list_reads n bytes rest (Err e) h = list_refused n bytes e h

pub set_reads : (n : ℕ) (bytes rest : List ℕ) (r : Result Values Fault) → Reads elements_view (elements n bytes) rest r → Reads as_set (value_of n compact.set_type bytes) rest r
set_reads n bytes rest (Ok v) h = set_got n bytes rest (elements_view v) h
set_reads n bytes rest (Err e) h = set_refused n bytes e h

pub map_reads : (n : ℕ) (bytes rest : List ℕ) (r : Result Map Fault) → Reads map_view (map_inside n bytes) rest r → Reads map_view (value_of n compact.map_type bytes) rest r
map_reads n bytes rest (Ok m) h = map_is_inside n bytes ∙ h
map_reads n bytes rest (Err e) h = map_refused n bytes e h

pub struct_reads : (n : ℕ) (bytes rest : List ℕ) (r : Result Tree Fault) → Reads tree_view (struct_inside n bytes) rest r → Reads as_struct (value_of n compact.struct_type bytes) rest r
struct_reads n bytes rest (Ok t) h = struct_got n bytes rest (tree_view t) h
struct_reads n bytes rest (Err e) h = struct_refused n bytes e h

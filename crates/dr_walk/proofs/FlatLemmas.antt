-- What is laid out stands for its items.
use Rattle.std.proofs.Common.{◌≡◌, ℕ, suc, ◌+◌, List, [], ◌∷◌, ◌++◌, map, length, Option, Some, refl, sym, ap, ap₂, subst, ◌∙◌, append_assoc, append-nil, arith}
use Rattle.std.specs.List.{slice_get}
use Rattle.std.specs.Prelude.{reverse}
use Rattle.std.proofs.lemmas.List.{length-map}
use Rattle.dr_moves.specs.Course.{Gate, Give, Visit, Items, nothing, give, visit, followed_by}
use Rattle.dr_moves.proofs.WalkFollows.{followed_nothing}
use Rattle.dr_walk.specs.Laying.{FlatItem, flat_look, flat_give, flat_visit, flat_null, flat_end, Lap, lap_of, plain_give, plain_visit, Level, no_level, Laid, laying, lay, closed, given, visited, nulls_of, looks_for}
use Rattle.dr_walk.specs.Flat.{gates_of, leaves_in, IsRun, IsCode, code_end, code_give, code_visit, IsBody}

-- ---- one after another

pub lay_followed : (I J : Items) (s : Laid) → lay (followed_by I J) s ≡ lay J (lay I s)
lay_followed nothing J s = refl
lay_followed (give g I) J s = lay_followed I J (given g s)
lay_followed (visit v B I) J s = lay_followed I J (visited v (lay B (laying s.code no_level)) s.level)

-- ---- runs

pub record RunParts (code : List FlatItem) (pc : ℕ) (xs ys : List FlatItem) (at : ℕ) : Type 0 where
  pub mid : ℕ
  pub first : IsRun code pc xs mid
  pub second : IsRun code mid ys at

pub run_parts : (code : List FlatItem) (pc : ℕ) (xs ys : List FlatItem) (at : ℕ) → IsRun code pc (xs ++ ys) at → RunParts code pc xs ys at
run_parts code pc [] ys at h = record { mid = pc; first = refl; second = h }
run_parts code pc (x ∷ xs) ys at h = let r = run_parts code (suc pc) xs ys at h.1 in record { mid = r.mid; first = (h.0, r.first); second = r.second }

pub run_length : (code : List FlatItem) (pc : ℕ) (xs : List FlatItem) (at : ℕ) → IsRun code pc xs at → at ≡ pc + length xs
run_length code pc [] at h = sym h ∙ omega arith
run_length code pc (x ∷ xs) at h = let e = run_length code (suc pc) xs at h.1 in omega (arith, e)

run_to : (code : List FlatItem) (pc at : ℕ) (xs : List FlatItem) → IsRun code pc xs at → IsRun code pc xs (pc + length xs)
run_to code pc at xs h = subst (IsRun code pc xs) (run_length code pc xs at h) h

get_behind : {A : Type 0} (xs : List A) (y : A) (ys : List A) → slice_get (xs ++ y ∷ ys) (length xs) ≡ Some y
get_behind [] y ys = refl
get_behind (x ∷ xs) y ys = get_behind xs y ys

-- what stands behind other items
pub run_behind : (front xs back : List FlatItem) → IsRun (front ++ (xs ++ back)) (length front) xs (length front + length xs)
run_behind front [] back = omega arith
run_behind front (x ∷ xs) back =
    let e : front ++ (x ∷ (xs ++ back)) ≡ (front ++ x ∷ []) ++ (xs ++ back) = sym (append_assoc front (x ∷ []) (xs ++ back)) in
    let l : length (front ++ x ∷ []) ≡ suc (length front) = one_longer front x in
    let r : IsRun ((front ++ x ∷ []) ++ (xs ++ back)) (suc (length front)) xs (suc (length front) + length xs) =
    subst (λ (n : ℕ). IsRun ((front ++ x ∷ []) ++ (xs ++ back)) n xs (n + length xs)) l (run_behind (front ++ x ∷ []) xs back) in
    let n : suc (length front) + length xs ≡ length front + length (x ∷ xs) = omega arith in
    (get_behind front x (xs ++ back), subst (IsRun (front ++ (x ∷ (xs ++ back))) (suc (length front)) xs) n (subst (λ (c : List FlatItem). IsRun c (suc (length front)) xs (suc (length front) + length xs)) (sym e) r))
  where
    one_longer : (front : List FlatItem) (x : FlatItem) → length (front ++ x ∷ []) ≡ suc (length front)
    one_longer [] x = refl
    one_longer (y ∷ front) x = ap suc (one_longer front x)

-- ---- what is laid out

-- the leaves of each visit are those of its items
abbrev pub HasLeaves : Items → Type 0
HasLeaves nothing = Unit {0}
HasLeaves (give g I) = HasLeaves I
HasLeaves (visit v B I) = (v.leaves ≡ leaves_in B) × HasLeaves B × HasLeaves I

-- the array goes on so
abbrev pub GoesOnAs : List FlatItem → List FlatItem → Type 0
GoesOnAs code front = (back : List FlatItem) × (code ≡ front ++ back)

-- what joined the array and the level
pub record Joined (I : Items) (s t : Laid) : Type 0 where
  pub more : List FlatItem
  pub code : t.code ≡ s.code ++ more
  pub own : List FlatItem
  pub items : t.level.items ≡ s.level.items ++ own
  pub gates : t.level.gates ≡ s.level.gates ++ gates_of I
  pub nulls : nulls_of own ≡ map flat_null (leaves_in I)
  pub stands : (code : List FlatItem) (o : Option Lap) (pc at : ℕ) (J : Items) → GoesOnAs code t.code → IsRun code pc own at → IsCode code o at J → IsCode code o pc (followed_by I J)

nulls_append : (xs ys : List FlatItem) → nulls_of (xs ++ ys) ≡ nulls_of xs ++ nulls_of ys
nulls_append [] ys = refl
nulls_append (flat_look G ∷ xs) ys = nulls_append xs ys
nulls_append (flat_give g ∷ xs) ys = ap (λ (zs : List FlatItem). flat_null g.leaf ∷ zs) (nulls_append xs ys)
nulls_append (flat_visit v ∷ xs) ys = nulls_append xs ys
nulls_append (flat_null i ∷ xs) ys = ap (λ (zs : List FlatItem). flat_null i ∷ zs) (nulls_append xs ys)
nulls_append (flat_end o ∷ xs) ys = nulls_append xs ys

nulls_again : (is : List ℕ) → nulls_of (map flat_null is) ≡ map flat_null is
nulls_again [] = refl
nulls_again (i ∷ is) = ap (λ (zs : List FlatItem). flat_null i ∷ zs) (nulls_again is)

map_nulls : (is js : List ℕ) → map flat_null (is ++ js) ≡ map flat_null is ++ map flat_null js
map_nulls [] js = refl
map_nulls (i ∷ is) js = ap (λ (zs : List FlatItem). flat_null i ∷ zs) (map_nulls is js)

joined_give : (g : Give) (I : Items) (s t : Laid) → Joined I (given g s) t → Joined (give g I) s t
joined_give g I s t j = record {
  more = j.more;
  code = j.code;
  own = flat_give (plain_give g) ∷ j.own;
  items = j.items ∙ append_assoc s.level.items (flat_give (plain_give g) ∷ []) j.own;
  gates = j.gates ∙ append_assoc s.level.gates (looks_for g.gates) (gates_of I);
  nulls = ap (λ (zs : List FlatItem). flat_null g.leaf ∷ zs) j.nulls;
  stands = λ code o pc at J ext run c. code_give o pc g (followed_by I J) run.0 (j.stands code o (suc pc) at J ext run.1 c);
}

-- what stands where a level that is whole joined the array
pub record BodyParts (code : List FlatItem) (place : ℕ) (gates : List (List Gate)) (own : List FlatItem) (o : Option Lap) : Type 0 where
  pub look : slice_get code place ≡ Some (flat_look (reverse gates))
  pub end : ℕ
  pub run : IsRun code (suc place) own end
  pub last : slice_get code end ≡ Some (flat_end o)

pub body_parts : (code front back : List FlatItem) (L : Level) (gates : List (List Gate)) (own : List FlatItem) (o : Option Lap) → code ≡ front ++ (closed o L ++ back) → L.items ≡ own → L.gates ≡ gates
    → BodyParts code (length front) gates own o
body_parts code front back L gates own o e i g =
    let r : IsRun code (length front) (closed o L) (length front + length (closed o L)) = subst (λ (c : List FlatItem). IsRun c (length front) (closed o L) (length front + length (closed o L))) (sym e) (run_behind front (closed o L) back) in
    let s : IsRun code (suc (length front)) (own ++ flat_end o ∷ []) (length front + length (closed o L)) = subst (λ (xs : List FlatItem). IsRun code (suc (length front)) (xs ++ flat_end o ∷ []) (length front + length (closed o L))) i r.1 in
    let p = run_parts code (suc (length front)) own (flat_end o ∷ []) (length front + length (closed o L)) s in
    record { look = r.0 ∙ ap (λ (G : List (List Gate)). Some (flat_look (reverse G))) g; end = p.mid; run = p.first; last = p.second.0 }

behind_both : (code t b c m rest : List FlatItem) → code ≡ t ++ rest → t ≡ (b ++ c) ++ m → code ≡ b ++ (c ++ (m ++ rest))
behind_both code t b c m rest e f = e ∙ ap (λ (xs : List FlatItem). xs ++ rest) f ∙ append_assoc (b ++ c) m rest ∙ append_assoc b c (m ++ rest)

joined_visit : (v : Visit) (B I : Items) (s b t : Laid) → v.leaves ≡ leaves_in B → Joined B (laying s.code no_level) b → Joined I (visited v b s.level) t → Joined (visit v B I) s t
joined_visit v B I s b t leaves jb ji =
    let place = length b.code in
    let o : Option Lap = Some (lap_of v place) in
    let xs = nulls_of b.level.items in
    let item = flat_visit (plain_visit v (length xs) place) in
    let whole = closed o b.level in
    let n : xs ≡ map flat_null v.leaves = ap nulls_of jb.items ∙ jb.nulls ∙ ap (map flat_null) (sym leaves) in
    let many : length xs ≡ length v.leaves = ap length n ∙ length-map v.leaves flat_null in
    record {
      more = jb.more ++ (whole ++ ji.more);
      code = ji.code ∙ ap (λ (c : List FlatItem). (c ++ whole) ++ ji.more) jb.code ∙ append_assoc (s.code ++ jb.more) whole ji.more ∙ append_assoc s.code jb.more (whole ++ ji.more);
      own = (item ∷ xs) ++ ji.own;
      items = ji.items ∙ append_assoc s.level.items (item ∷ xs) ji.own;
      gates = ji.gates ∙ append_assoc s.level.gates (looks_for v.gates) (gates_of I);
      nulls = nulls_append xs ji.own ∙ ap₂ (λ (ys zs : List FlatItem). ys ++ zs) (ap nulls_of n ∙ nulls_again v.leaves) ji.nulls ∙ sym (map_nulls v.leaves (leaves_in I));
      stands = λ code p pc at J ext run c. visit_stands v B I s b t jb ji n many code p pc at J ext run c;
    }
  where
    visit_stands : (v : Visit) (B I : Items) (s b t : Laid) (jb : Joined B (laying s.code no_level) b) (ji : Joined I (visited v b s.level) t)
        → nulls_of b.level.items ≡ map flat_null v.leaves → length (nulls_of b.level.items) ≡ length v.leaves
        → (code : List FlatItem) (o : Option Lap) (pc at : ℕ) (J : Items) → GoesOnAs code t.code
        → IsRun code pc ((flat_visit (plain_visit v (length (nulls_of b.level.items)) (length b.code)) ∷ nulls_of b.level.items) ++ ji.own) at → IsCode code o at J → IsCode code o pc (visit v B (followed_by I J))
    visit_stands v B I s b t jb ji n many code o pc at J ext run c =
        let place = length b.code in
        let xs = nulls_of b.level.items in
        let whole = closed (Some (lap_of v place)) b.level in
        let e : code ≡ b.code ++ (whole ++ (ji.more ++ ext.0)) = behind_both code t.code b.code whole ji.more ext.0 ext.1 ji.code in
        let q = body_parts code b.code (ji.more ++ ext.0) b.level (gates_of B) jb.own (Some (lap_of v place)) e jb.items jb.gates in
        let p = run_parts code (suc pc) xs ji.own at run.1 in
        let m : p.mid ≡ suc pc + length v.leaves = run_length code (suc pc) xs p.mid p.first ∙ ap (λ (k : ℕ). suc pc + k) many in
        code_visit o pc place v B (followed_by I J)
        (run.0 ∙ ap (λ (k : ℕ). Some (flat_visit (plain_visit v k place))) many)
        (subst (IsRun code (suc pc) (map flat_null v.leaves)) m (subst (λ (ys : List FlatItem). IsRun code (suc pc) ys p.mid) n p.first))
        q.look
        (subst (IsCode code (Some (lap_of v place)) (suc place)) (followed_nothing B)
        (jb.stands code (Some (lap_of v place)) (suc place) q.end nothing (whole ++ (ji.more ++ ext.0), e) q.run (code_end (Some (lap_of v place)) q.end q.last)))
        (subst (λ (k : ℕ). IsCode code o k (followed_by I J)) m (ji.stands code o p.mid at J ext p.second c))

pub joined : (I : Items) → HasLeaves I → (s : Laid) → Joined I s (lay I s)
joined nothing h s = record {
  more = [];
  code = sym (append-nil s.code);
  own = [];
  items = sym (append-nil s.level.items);
  gates = sym (append-nil s.level.gates);
  nulls = refl;
  stands = λ code o pc at J ext run c. subst (λ (k : ℕ). IsCode code o k J) (sym run) c;
}
joined (give g I) h s = joined_give g I s (lay I (given g s)) (joined I h (given g s))
joined (visit v B I) h s = joined_visit v B I s (lay B (laying s.code no_level)) (lay I (visited v (lay B (laying s.code no_level)) s.level)) h.0
    (joined B h.1 (laying s.code no_level)) (joined I h.2 (visited v (lay B (laying s.code no_level)) s.level))

-- what is laid out from nothing, with its beginning and its end
pub laid_body : (I : Items) → HasLeaves I → (o : Option Lap) → IsBody ((lay I (laying [] no_level)).code ++ closed o (lay I (laying [] no_level)).level) o (length (lay I (laying [] no_level)).code) I
laid_body I h o =
    let t = lay I (laying [] no_level) in
    let j = joined I h (laying [] no_level) in
    let code = t.code ++ closed o t.level in
    let e : code ≡ t.code ++ (closed o t.level ++ []) = ap (λ (xs : List FlatItem). t.code ++ xs) (sym (append-nil (closed o t.level))) in
    let q = body_parts code t.code [] t.level (gates_of I) j.own o e j.items j.gates in
    (q.look, subst (IsCode code o (suc (length t.code))) (followed_nothing I) (j.stands code o (suc (length t.code)) q.end nothing (closed o t.level, refl) q.run (code_end o q.end q.last)))

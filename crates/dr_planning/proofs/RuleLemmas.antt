-- The rules above paths and operators.
use Rattle.std.proofs.Common.{◌≡◌, ◌<◌, ◌≤◌, ◌+◌, ℕ, suc, zero, List, [], ◌∷◌, ◌++◌, map, length, get_or, take, drop, Bool, true, false, Option, Some, None, refl, sym, ap, ◌∙◌, subst, add-one, arith}
use Rattle.std.specs.Prelude.{◌||◌, if◌then◌else◌, option_map, is_some}
use Rattle.std.specs.List.{flat_map, list_any}
use denote.Ref.{Bor}
use Rattle.std.proofs.lemmas.Bool.{eqb-true, eq-eqb, false≢true}
use Rattle.std.proofs.lemmas.List.{drop_all}
use Rattle.dr_meaning.specs.Schema.{Fields}
use Rattle.dr_meaning.specs.Path as path_meaning
use Rattle.dr_meaning.specs.Path.{Leaf}
use Rattle.dr_meaning.specs.Query.{Levels, key}
use Rattle.dr_meaning.specs.BoundExpression as meant
use Rattle.dr_meaning.specs.BoundExpression.{BindFault, Checked, passes, fails, together, unrelated, duplicate_name, bad_within, fault_at, unrelated_after, unrelated_among}
use Rattle.dr_meaning.specs.Binding as binding
use Rattle.dr_meaning.specs.Binding.{first_fault, passing, all_passed, where_passed, name_faults, duplicates_behind}
use Rattle.dr_nested.specs.PathView.{step_view}
use Rattle.dr_nested.specs.declared.path.Step.{Step}
use Rattle.dr_plan.specs.declared.aggregate.Fold.{Fold}
use Rattle.dr_paths.specs.Related.{Spans, joined_before}
use Rattle.dr_paths.specs.Views.{bound_path_view}
use Rattle.dr_paths.proofs.RelatedLemmas.{unrelated_behind, unrelated_front}
use Rattle.dr_resolve.specs.Faults.{earlier}
use Rattle.dr_resolve.specs.Bound.{IsExpression}
use Rattle.dr_resolve.specs.Items.{AreExpressions, AreItems, IsItem, IsTerm, within_view}
use Rattle.dr_resolve.specs.Parts.{AreParts}
use Rattle.dr_planning.specs.Rules.{IsChain}
use Rattle.dr_resolve.specs.declared.bound.BoundExpression.{BoundExpression}
use Rattle.dr_resolve.specs.declared.bound.BoundWithin.{BoundWithin}
use Rattle.dr_resolve.specs.declared.bound.BoundTerm.{BoundTerm}
use Rattle.dr_resolve.specs.declared.bound.BoundItem.{BoundItem}
use Rattle.dr_resolve.specs.declared.bound.BoundParts.{BoundParts}
use Rattle.dr_planning.specs.declared.rules.KeyChain.{KeyChain}
use Rattle.dr_resolve.proofs.FaultLemmas.{earlier_none, earlier_assoc, first_fault-append}

-- ---- items, one after another

-- what the item at a place stands for, and those from there on
abbrev ItemAt : Fields → List Leaf → List binding.BoundItem → ℕ → BoundItem → Type 0
ItemAt fs ls bs k x = (b : binding.BoundItem) × IsItem fs ls b x × (drop k bs ≡ b ∷ drop (k + 1) bs)

pub item_at : (fs : Fields) (ls : List Leaf) (bs : List binding.BoundItem) (xs : List BoundItem) (k : ℕ) (d : BoundItem) → AreItems fs ls bs xs → k < length xs → ItemAt fs ls bs k (get_or xs k d)
item_at fs ls [] [] k d h lt = absurd (omega arith)
item_at fs ls [] (x ∷ xs) k d h lt = absurd h
item_at fs ls (b ∷ bs) [] k d h lt = absurd h
item_at fs ls (b ∷ bs) (x ∷ xs) zero d h lt = (b, h.0, refl)
item_at fs ls (b ∷ bs) (x ∷ xs) (suc k) d h lt =
    let r = item_at fs ls bs xs k d h.1 (omega arith) in
    let e : suc (k + 1) ≡ suc k + 1 = omega arith in
    (r.0, r.1, r.2 ∙ ap (λ n. r.0 ∷ drop n (b ∷ bs)) e)

pub items_length : (fs : Fields) (ls : List Leaf) (bs : List binding.BoundItem) (xs : List BoundItem) → AreItems fs ls bs xs → length bs ≡ length xs
items_length fs ls [] [] h = refl
items_length fs ls [] (x ∷ xs) h = absurd h
items_length fs ls (b ∷ bs) [] h = absurd h
items_length fs ls (b ∷ bs) (x ∷ xs) h = ap suc (items_length fs ls bs xs h.1)

pub items_taken : (fs : Fields) (ls : List Leaf) (bs : List binding.BoundItem) (xs : List BoundItem) (k : ℕ) → AreItems fs ls bs xs → AreItems fs ls (take k bs) (take k xs)
items_taken fs ls bs xs zero h = tt
items_taken fs ls [] [] (suc k) h = tt
items_taken fs ls [] (x ∷ xs) (suc k) h = absurd h
items_taken fs ls (b ∷ bs) [] (suc k) h = absurd h
items_taken fs ls (b ∷ bs) (x ∷ xs) (suc k) h = (h.0, items_taken fs ls bs xs k h.1)

-- one item's faults are noted
pub noted_item : (fs : Fields) (ls : List Leaf) (rule : binding.BoundItem → List BindFault) (bs : List binding.BoundItem) (xs : List BoundItem) (k : ℕ) (x : BoundItem)
    (between now whole : Option BindFault) → AreItems fs ls bs xs → k < length xs → x ≡ get_or xs k x → ((b : binding.BoundItem) → IsItem fs ls b x → now ≡ earlier between (first_fault (rule b)))
    → earlier between (first_fault (flat_map rule (drop k bs))) ≡ whole → earlier now (first_fault (flat_map rule (drop (k + 1) bs))) ≡ whole
noted_item fs ls rule bs xs k x between now whole h lt at step inv =
    let a = item_at fs ls bs xs k x h lt in
    let rest : List BindFault = flat_map rule (drop (k + 1) bs) in
    ap (λ y. earlier y (first_fault rest)) (step a.0 (subst (IsItem fs ls a.0) (sym at) a.1))
    ∙ earlier_assoc between (first_fault (rule a.0)) (first_fault rest)
    ∙ ap (earlier between) (sym (first_fault-append (rule a.0) rest))
    ∙ ap (λ l. earlier between (first_fault (flat_map rule l))) (sym a.2)
    ∙ inv

-- those of all items are noted
pub noted_items : (fs : Fields) (ls : List Leaf) (rule : binding.BoundItem → List BindFault) (bs : List binding.BoundItem) (xs : List BoundItem) (k : ℕ)
    (now whole : Option BindFault) → AreItems fs ls bs xs → length xs ≤ k → earlier now (first_fault (flat_map rule (drop k bs))) ≡ whole → now ≡ whole
noted_items fs ls rule bs xs k now whole h le inv =
    let n = items_length fs ls bs xs h in
    sym (earlier_none now) ∙ ap (λ l. earlier now (first_fault (flat_map rule l))) (sym (drop_all k bs (omega arith))) ∙ inv

-- ---- arguments that stand alone, one after another

abbrev ArgumentAt : Fields → List Leaf → List meant.BoundExpression → ℕ → BoundExpression → Type 0
ArgumentAt fs ls bs k x = (b : meant.BoundExpression) × IsExpression fs ls b x × (drop k bs ≡ b ∷ drop (k + 1) bs)

argument_at : (fs : Fields) (ls : List Leaf) (bs : List meant.BoundExpression) (xs : List BoundExpression) (k : ℕ) (d : BoundExpression) → AreExpressions fs ls bs xs → k < length xs → ArgumentAt fs ls bs k (get_or xs k d)
argument_at fs ls [] [] k d h lt = absurd (omega arith)
argument_at fs ls [] (x ∷ xs) k d h lt = absurd h
argument_at fs ls (b ∷ bs) [] k d h lt = absurd h
argument_at fs ls (b ∷ bs) (x ∷ xs) zero d h lt = (b, h.0, refl)
argument_at fs ls (b ∷ bs) (x ∷ xs) (suc k) d h lt =
    let r = argument_at fs ls bs xs k d h.1 (omega arith) in
    let e : suc (k + 1) ≡ suc k + 1 = omega arith in
    (r.0, r.1, r.2 ∙ ap (λ n. r.0 ∷ drop n (b ∷ bs)) e)

arguments_length : (fs : Fields) (ls : List Leaf) (bs : List meant.BoundExpression) (xs : List BoundExpression) → AreExpressions fs ls bs xs → length bs ≡ length xs
arguments_length fs ls [] [] h = refl
arguments_length fs ls [] (x ∷ xs) h = absurd h
arguments_length fs ls (b ∷ bs) [] h = absurd h
arguments_length fs ls (b ∷ bs) (x ∷ xs) h = ap suc (arguments_length fs ls bs xs h.1)

-- one argument's faults are noted
pub noted_argument : (fs : Fields) (ls : List Leaf) (rule : meant.BoundExpression → List BindFault) (bs : List meant.BoundExpression) (xs : List BoundExpression) (k : ℕ) (x : BoundExpression)
    (between now whole : Option BindFault) → AreExpressions fs ls bs xs → k < length xs → x ≡ get_or xs k x → ((b : meant.BoundExpression) → IsExpression fs ls b x → now ≡ earlier between (first_fault (rule b)))
    → earlier between (first_fault (flat_map rule (drop k bs))) ≡ whole → earlier now (first_fault (flat_map rule (drop (k + 1) bs))) ≡ whole
noted_argument fs ls rule bs xs k x between now whole h lt at step inv =
    let a = argument_at fs ls bs xs k x h lt in
    let rest : List BindFault = flat_map rule (drop (k + 1) bs) in
    ap (λ y. earlier y (first_fault rest)) (step a.0 (subst (IsExpression fs ls a.0) (sym at) a.1))
    ∙ earlier_assoc between (first_fault (rule a.0)) (first_fault rest)
    ∙ ap (earlier between) (sym (first_fault-append (rule a.0) rest))
    ∙ ap (λ l. earlier between (first_fault (flat_map rule l))) (sym a.2)
    ∙ inv

-- those of all arguments are noted
pub noted_arguments : (fs : Fields) (ls : List Leaf) (rule : meant.BoundExpression → List BindFault) (bs : List meant.BoundExpression) (xs : List BoundExpression) (k : ℕ)
    (now whole : Option BindFault) → AreExpressions fs ls bs xs → length xs ≤ k → earlier now (first_fault (flat_map rule (drop k bs))) ≡ whole → now ≡ whole
noted_arguments fs ls rule bs xs k now whole h le inv =
    let n = arguments_length fs ls bs xs h in
    sym (earlier_none now) ∙ ap (λ l. earlier now (first_fault (flat_map rule l))) (sym (drop_all k bs (omega arith))) ∙ inv

-- ---- the keys

short : {A : Type 0} (cs : List (Checked A)) → length (passing cs) ≤ length cs
short [] = omega arith
short (passes a ∷ cs) = let h = short cs in omega arith
short (fails e es ∷ cs) = let h = short cs in omega arith

pub passed_all : {A : Type 0} (cs : List (Checked A)) → length (passing cs) ≡ length cs → all_passed cs ≡ passes (passing cs)
passed_all [] h = refl
passed_all (passes a ∷ cs) h = ap (together (λ x rest. x ∷ rest) (passes a)) (passed_all cs (omega arith))
passed_all (fails e es ∷ cs) h = let s = short cs in absurd (omega arith)

abbrev Differ : ℕ → ℕ → Type 0
Differ m n = m ≡ n → ⊥

pub failed_some : (cs : List (Checked meant.BoundPath)) → Differ (length (passing cs)) (length cs) → IsChain (all_passed cs) KeyChain.Unbound
failed_some [] h = absurd (h refl)
failed_some (passes a ∷ cs) h =
    elim (all_passed cs) as (λ c. IsChain c KeyChain.Unbound → IsChain (together (λ x rest. x ∷ rest) (passes a) c) KeyChain.Unbound) [
      | passes ks ↦ λ k. absurd k
      | fails e es ↦ λ k. tt
    ] (failed_some cs (λ e. h (ap suc e)))
failed_some (fails e es ∷ cs) h =
    elim (all_passed cs) as (λ c. IsChain (together (λ x rest. x ∷ rest) (fails e es) c) KeyChain.Unbound) [
      | passes ks ↦ tt
      | fails g gs ↦ tt
    ]

pub chain_unbound : (fs : Fields) (ls : List Leaf) (b : binding.BoundParts) (p : BoundParts) → p.has_all_keys ≡ false → AreParts fs ls b p → IsChain (all_passed b.keys) KeyChain.Unbound
chain_unbound fs ls b p f h =
    failed_some b.keys (λ e. false≢true (sym f ∙ h.all_keys ∙ eq-eqb (length (passing b.keys)) (length b.keys) e))

all_keys : (fs : Fields) (ls : List Leaf) (b : binding.BoundParts) (p : BoundParts) → p.has_all_keys ≡ true → AreParts fs ls b p → all_passed b.keys ≡ passes (map bound_path_view p.keys.items)
all_keys fs ls b p t h = passed_all b.keys (eqb-true (length (passing b.keys)) (length b.keys) (sym h.all_keys ∙ t)) ∙ ap passes (sym h.keys)

pub chain_related : (fs : Fields) (ls : List Leaf) (b : binding.BoundParts) (p : BoundParts) (l : Bor (List Step)) → p.has_all_keys ≡ true
    → (unrelated_among (map bound_path_view p.keys.items) ≡ []) × Spans (joined_before [] (map bound_path_view p.keys.items)) (map step_view l.now) → AreParts fs ls b p
    → IsChain (all_passed b.keys) (KeyChain.Related l)
chain_related fs ls b p l t r h = subst (λ c. IsChain c (KeyChain.Related l)) (sym (all_keys fs ls b p t h)) r

pub chain_unrelated : (fs : Fields) (ls : List Leaf) (b : binding.BoundParts) (p : BoundParts) (i : ℕ) → p.has_all_keys ≡ true
    → unrelated_among (map bound_path_view p.keys.items) ≡ fault_at i unrelated → AreParts fs ls b p → IsChain (all_passed b.keys) (KeyChain.Unrelated i)
chain_unrelated fs ls b p i t r h = subst (λ c. IsChain c (KeyChain.Unrelated i)) (sym (all_keys fs ls b p t h)) r

-- ---- paths behind the keys

-- the first of some paths behind others is noted
abbrev NotesPaths : Option BindFault → Option BindFault → List path_meaning.Step → List meant.BoundPath → Type 0
NotesPaths before now l qs = (front : List (List path_meaning.Step)) → Spans front l → now ≡ earlier before (first_fault (unrelated_after front qs))

pub behind_related : (ks : Checked (List meant.BoundPath)) (chain : KeyChain) (l : Bor (List Step)) (qs : List meant.BoundPath) (before now : Option BindFault) → chain ≡ KeyChain.Related l
    → NotesPaths before now (map step_view l.now) qs → IsChain ks chain → now ≡ earlier before (first_fault (where_passed (λ (ps : List meant.BoundPath). unrelated_among (ps ++ qs)) ks))
behind_related (passes ks) chain l qs before now is n h =
    let k = subst (IsChain (passes ks)) is h in
    n (joined_before [] ks) k.1 ∙ ap (λ fs. earlier before (first_fault fs)) (sym (unrelated_behind [] ks qs k.0))
behind_related (fails e es) chain l qs before now is n h = absurd (subst (IsChain (fails e es)) is h)

pub behind_unrelated : (ks : Checked (List meant.BoundPath)) (chain : KeyChain) (i : ℕ) (qs : List meant.BoundPath) (before now : Option BindFault) → chain ≡ KeyChain.Unrelated i
    → now ≡ earlier before (Some (record { place = i; problem = unrelated })) → IsChain ks chain
    → now ≡ earlier before (first_fault (where_passed (λ (ps : List meant.BoundPath). unrelated_among (ps ++ qs)) ks))
behind_unrelated (passes ks) chain i qs before now is n h =
    let k = subst (IsChain (passes ks)) is h in
    n ∙ ap (λ fs. earlier before (first_fault fs)) (sym (unrelated_front [] ks qs i k))
behind_unrelated (fails e es) chain i qs before now is n h = absurd (subst (IsChain (fails e es)) is h)

-- ---- a fault that a test decides

pub unless_told : (g : Bool) (fs : List BindFault) (before now : Option BindFault) → g ≡ false → now ≡ earlier before (first_fault fs) → now ≡ earlier before (first_fault (if g then [] else fs))
unless_told g fs before now e n = n ∙ ap (λ (b : Bool). earlier before (first_fault (if b then [] else fs))) (sym e)

pub unless_untold : (g : Bool) (fs : List BindFault) (before : Option BindFault) → g ≡ true → before ≡ earlier before (first_fault (if g then [] else fs))
unless_untold g fs before e = sym (earlier_none before) ∙ ap (λ (b : Bool). earlier before (first_fault (if b then [] else fs))) (sym e)

-- ---- WITHIN

-- an aggregate of this argument within this node
pub within_aggregate : (fs : Fields) (ls : List Leaf) (t : binding.BoundTerm) (term : BoundTerm) (f : Fold) (x : BoundExpression) (o : Option BoundWithin) (w : BoundWithin) (holds : Bool)
    (P : List BindFault → Type 0) → ((e : meant.BoundExpression) → IsExpression fs ls e x → holds ≡ binding.holds_rows e.expression (within_view w)) → term ≡ BoundTerm.Aggregated f x o → o ≡ Some w
    → P (if holds then [] else fault_at w.place bad_within) → IsTerm fs ls t term → P (binding.within_faults t)
within_aggregate fs ls (binding.plain e) term f x o w holds P r is some p h = absurd (subst (IsTerm fs ls (binding.plain e)) is h)
within_aggregate fs ls (binding.rows_counted v) term f x o w holds P r is some p h = absurd (subst (IsTerm fs ls (binding.rows_counted v)) is h)
within_aggregate fs ls (binding.aggregated a e v) term f x o w holds P r is some p h =
    let k = subst (IsTerm fs ls (binding.aggregated a e v)) is h in
    let same : Some (within_view w) ≡ v = ap (option_map within_view) (sym some) ∙ k.2 in
    subst (λ (u : Option binding.BoundWithin). P (binding.within_faults (binding.aggregated a e u))) same
    (subst (λ (b : Bool). P (if b then [] else fault_at w.place bad_within)) (r e k.1) p)

-- ---- the key that an item is

is_some_mapped : {A B : Type 0} (f : A → B) (o : Option A) → is_some (option_map f o) ≡ is_some o
is_some_mapped f None = refl
is_some_mapped f (Some a) = refl

pub grouped_value : (fs : Fields) (ls : List Leaf) (ks : List meant.BoundPath) (t : binding.BoundTerm) (term : BoundTerm) (x : BoundExpression) (place : Option ℕ)
    → ((e : meant.BoundExpression) → IsExpression fs ls e x → place ≡ binding.key_of ks e.expression) → term ≡ BoundTerm.Value x → IsTerm fs ls t term → is_some place ≡ is_some (binding.group_term ks t)
grouped_value fs ls ks (binding.plain e) term x place p is h = ap is_some (p e (subst (IsTerm fs ls (binding.plain e)) is h)) ∙ sym (is_some_mapped key (binding.key_of ks e.expression))
grouped_value fs ls ks (binding.rows_counted w) term x place p is h = absurd (subst (IsTerm fs ls (binding.rows_counted w)) is h)
grouped_value fs ls ks (binding.aggregated a e w) term x place p is h = absurd (subst (IsTerm fs ls (binding.aggregated a e w)) is h)

-- ---- names of one object

-- the items before the one at a place, the last one first, behind some others
abbrev pub items_before : List binding.BoundItem → List binding.BoundItem → ℕ → List binding.BoundItem
items_before front bs zero = front
items_before front [] (suc k) = front
items_before front (b ∷ bs) (suc k) = items_before (b ∷ front) bs k

items_before-more : (front bs : List binding.BoundItem) (k : ℕ) (b : binding.BoundItem) (rest : List binding.BoundItem) → drop k bs ≡ b ∷ rest → items_before front bs (suc k) ≡ b ∷ items_before front bs k
items_before-more front [] zero b rest h = absurd (cc)
items_before-more front (x ∷ bs) zero b rest h = cc
items_before-more front [] (suc k) b rest h = absurd (cc)
items_before-more front (x ∷ bs) (suc k) b rest h = items_before-more (x ∷ front) bs k b rest h

or_moved : (a b c : Bool) → (a || (b || c)) ≡ ((b || a) || c)
or_moved true true c = refl
or_moved true false c = refl
or_moved false true c = refl
or_moved false false c = refl

any_before : (f : binding.BoundItem → Bool) (front bs : List binding.BoundItem) (k : ℕ) → list_any f (items_before front bs k) ≡ (list_any f (take k bs) || list_any f front)
any_before f front bs zero = refl
any_before f front [] (suc k) = refl
any_before f front (b ∷ bs) (suc k) = any_before f (b ∷ front) bs k ∙ or_moved (list_any f (take k bs)) (f b) (list_any f front)

or_none : (a : Bool) → (a || false) ≡ a
or_none true = refl
or_none false = refl

-- the order of the items before one doesn't matter
pub any_taken : (f : binding.BoundItem → Bool) (bs : List binding.BoundItem) (k : ℕ) → list_any f (take k bs) ≡ list_any f (items_before [] bs k)
any_taken f bs k = sym (or_none (list_any f (take k bs))) ∙ sym (any_before f [] bs k)

-- the fault of a name that is taken is noted
pub noted_name : (fs : Fields) (ls : List Leaf) (tree : Levels) (q : Bool) (bs : List binding.BoundItem) (xs : List BoundItem) (k : ℕ) (x : BoundItem)
    (between now whole : Option BindFault) → AreItems fs ls bs xs → k < length xs → x ≡ get_or xs k x
    → ((b : binding.BoundItem) (ds es : List binding.BoundItem) → IsItem fs ls b x → AreItems fs ls ds (take k xs) → AreItems fs ls es xs → now ≡ earlier between (first_fault (name_faults tree q es ds b)))
    → earlier between (first_fault (duplicates_behind tree q bs (items_before [] bs k) (drop k bs))) ≡ whole
    → earlier now (first_fault (duplicates_behind tree q bs (items_before [] bs (k + 1)) (drop (k + 1) bs))) ≡ whole
noted_name fs ls tree q bs xs k x between now whole h lt at step inv =
    let a = item_at fs ls bs xs k x h lt in
    let i = a.0 in
    let rest : List BindFault = duplicates_behind tree q bs (items_before [] bs (k + 1)) (drop (k + 1) bs) in
    let own : List BindFault = name_faults tree q bs (items_before [] bs k) i in
    let more : items_before [] bs (k + 1) ≡ i ∷ items_before [] bs k = ap (items_before [] bs) (add-one k) ∙ items_before-more [] bs k i (drop (k + 1) bs) a.2 in
    let told : now ≡ earlier between (first_fault own) = step i (take k bs) bs (subst (IsItem fs ls i) (sym at) a.1) (items_taken fs ls bs xs k h) h
    ∙ ap (λ (b : Bool). earlier between (first_fault (if b || list_any (binding.has_name_of_list tree q i) bs then fault_at i.place duplicate_name else []))) (any_taken (binding.has_name_of q i) bs k) in
    ap (λ y. earlier y (first_fault rest)) told
    ∙ earlier_assoc between (first_fault own) (first_fault rest)
    ∙ ap (earlier between) (sym (first_fault-append own rest))
    ∙ ap (λ (front : List binding.BoundItem). earlier between (first_fault (own ++ duplicates_behind tree q bs front (drop (k + 1) bs)))) more
    ∙ ap (λ (l : List binding.BoundItem). earlier between (first_fault (duplicates_behind tree q bs (items_before [] bs k) l))) (sym a.2)
    ∙ inv

pub noted_names : (fs : Fields) (ls : List Leaf) (tree : Levels) (q : Bool) (bs : List binding.BoundItem) (xs : List BoundItem) (k : ℕ) (now whole : Option BindFault) → AreItems fs ls bs xs → length xs ≤ k
    → earlier now (first_fault (duplicates_behind tree q bs (items_before [] bs k) (drop k bs))) ≡ whole → now ≡ whole
noted_names fs ls tree q bs xs k now whole h le inv =
    let n = items_length fs ls bs xs h in
    sym (earlier_none now) ∙ ap (λ (l : List binding.BoundItem). earlier now (first_fault (duplicates_behind tree q bs (items_before [] bs k) l))) (sym (drop_all k bs (omega arith))) ∙ inv

-- ---- one of some items

-- one that is sought is found
pub any_found : (fs : Fields) (ls : List Leaf) (f : binding.BoundItem → Bool) (ds : List binding.BoundItem) (ys : List BoundItem) (k : ℕ) (y : BoundItem) (r : Bool) → AreItems fs ls ds ys → k < length ys → y ≡ get_or ys k y
    → ((d : binding.BoundItem) → IsItem fs ls d y → r ≡ f d) → r ≡ true → list_any f ds ≡ list_any f (drop k ds) → true ≡ list_any f ds
any_found fs ls f ds ys k y r h lt at step e inv =
    let a = item_at fs ls ds ys k y h lt in
    let one : f a.0 ≡ true = sym (step a.0 (subst (IsItem fs ls a.0) (sym at) a.1)) ∙ e in
    sym (inv ∙ ap (list_any f) a.2 ∙ ap (λ (b : Bool). b || list_any f (drop (k + 1) ds)) one)

pub any_sought : (fs : Fields) (ls : List Leaf) (f : binding.BoundItem → Bool) (ds : List binding.BoundItem) (ys : List BoundItem) (k : ℕ) (y : BoundItem) (r : Bool) → AreItems fs ls ds ys → k < length ys → y ≡ get_or ys k y
    → ((d : binding.BoundItem) → IsItem fs ls d y → r ≡ f d) → r ≡ false → list_any f ds ≡ list_any f (drop k ds) → list_any f ds ≡ list_any f (drop (k + 1) ds)
any_sought fs ls f ds ys k y r h lt at step e inv =
    let a = item_at fs ls ds ys k y h lt in
    let one : f a.0 ≡ false = sym (step a.0 (subst (IsItem fs ls a.0) (sym at) a.1)) ∙ e in
    inv ∙ ap (list_any f) a.2 ∙ ap (λ (b : Bool). b || list_any f (drop (k + 1) ds)) one

pub none_found : (fs : Fields) (ls : List Leaf) (f : binding.BoundItem → Bool) (ds : List binding.BoundItem) (ys : List BoundItem) (k : ℕ) → AreItems fs ls ds ys → length ys ≤ k
    → list_any f ds ≡ list_any f (drop k ds) → false ≡ list_any f ds
none_found fs ls f ds ys k h le inv =
    let n = items_length fs ls ds ys h in
    sym (inv ∙ ap (list_any f) (drop_all k ds (omega arith)))

-- Items and keys, one after another.
use Rattle.std.proofs.Common.{◌≡◌, ℕ, suc, ◌+◌, ◌<◌, List, [], ◌∷◌, ◌++◌, map, length, drop, Option, Some, None, refl, sym, ap, ◌∙◌, subst, append-nil, append_assoc, arith}
use Rattle.std.specs.Prelude.{get_or}
use Rattle.std.specs.List.{flat_map, join_by, join_with_byte}
use Rattle.std.proofs.lemmas.List.{drop_more}
use denote.Ref.{Bor}
use Rattle.dr_meaning.specs.Schema.{Fields}
use Rattle.dr_meaning.specs.Path.{Leaf}
use Rattle.dr_meaning.specs.BoundExpression as meant
use Rattle.dr_meaning.specs.BoundExpression.{BindFault, Checked, passes, fails, bind_path}
use Rattle.dr_meaning.specs.Binding as binding
use Rattle.dr_meaning.specs.Binding.{first_fault, faults_in, passing, bind_item, bind_items, argument_alone, arguments_alone}
use Rattle.dr_sql.specs.Views as syntax
use Rattle.dr_sql.specs.declared.query.Item.{Item}
use Rattle.dr_sql.specs.declared.expression.Path.{Path}
use Rattle.dr_paths.specs.declared.bound.BoundPath.{BoundPath}
use Rattle.dr_paths.specs.Views.{bound_path_view}
use Rattle.dr_resolve.specs.Faults.{earlier}
use Rattle.dr_resolve.specs.Outcomes.{Appends, BindsAs, IsPath}
use Rattle.dr_resolve.specs.Items.{AreExpressions, AreItems, IsItem}
use Rattle.dr_resolve.specs.Outcomes.{present}
use Rattle.dr_resolve.specs.declared.bound.BoundExpression.{BoundExpression}
use Rattle.dr_resolve.specs.declared.bound.BoundItem.{BoundItem}
use Rattle.dr_resolve.proofs.FaultLemmas.{earlier_assoc, first_fault-append}
use Rattle.dr_sql.specs.Views.{lent}

-- the faults of a part are noted before those of the parts behind it
pub faults_more : {A B : Type 0} (Is : B → A → Type 0) (c : Checked B) (cs : List (Checked B)) (before now : Option BindFault) (o : Option A) → BindsAs Is before now c o
    → earlier now (first_fault (flat_map faults_in cs)) ≡ earlier before (first_fault (flat_map faults_in (c ∷ cs)))
faults_more Is (passes b) cs before now None h = absurd h
faults_more Is (passes b) cs before now (Some a) h = ap (λ f. earlier f (first_fault (flat_map faults_in cs))) h.0
faults_more Is (fails e es) cs before now (Some a) h = absurd h
faults_more Is (fails e es) cs before now None h =
    ap (λ f. earlier f (first_fault (flat_map faults_in cs))) h ∙ earlier_assoc before (first_fault (e ∷ es)) (first_fault (flat_map faults_in cs))
    ∙ ap (earlier before) (sym (first_fault-append (e ∷ es) (flat_map faults_in cs)))

-- ---- items

-- whatever the items behind are bound to, all are bound to these and that
abbrev pub GoesOn : Fields → List Leaf → List (Checked binding.BoundItem) → List (Checked binding.BoundItem) → List BoundItem → Type 0
GoesOn fs ls rest all bound = (vs : List BoundItem) → AreItems fs ls (passing rest) vs → AreItems fs ls (passing all) (bound ++ vs)

item_bound : (fs : Fields) (ls : List Leaf) (c : Checked binding.BoundItem) (cs all : List (Checked binding.BoundItem)) (before now : Option BindFault) (o : Option BoundItem) (bound : List BoundItem) → BindsAs (IsItem fs ls) before now c o
    → GoesOn fs ls (c ∷ cs) all bound → GoesOn fs ls cs all (bound ++ present o)
item_bound fs ls (passes b) cs all before now None bound h g vs v = absurd h
item_bound fs ls (passes b) cs all before now (Some x) bound h g vs v = subst (AreItems fs ls (passing all)) (sym (append_assoc bound (x ∷ []) vs)) (g (x ∷ vs) (h.1, v))
item_bound fs ls (fails e es) cs all before now (Some x) bound h g vs v = absurd h
item_bound fs ls (fails e es) cs all before now None bound h g vs v = subst (λ ys. AreItems fs ls (passing all) (ys ++ vs)) (sym (append-nil bound)) (g vs v)

-- the items from a place on
abbrev pub items_from : Fields → ℕ → List Item → List (Checked binding.BoundItem)
items_from fs n items = bind_items fs n (map syntax.item_view (drop n items))

items_cut : (fs : Fields) (n : ℕ) (items : List Item) (d : Item) → n < length items → items_from fs n items ≡ bind_item fs n (syntax.item_view (get_or items n d)) ∷ items_from fs (n + 1) items
items_cut fs n items d l =
    let next : suc n ≡ n + 1 = omega arith in
    ap (λ xs. bind_items fs n (map syntax.item_view xs)) (drop_more items n d l)
    ∙ ap (λ k. bind_item fs n (syntax.item_view (get_or items n d)) ∷ bind_items fs k (map syntax.item_view (drop (n + 1) items))) next

pub item_more : (fs : Fields) (ls : List Leaf) (n : ℕ) (items : List Item) (x : Item) (before now : Option BindFault) (o : Option BoundItem) (bound bound' : List BoundItem) (all : List (Checked binding.BoundItem)) → n < length items → x ≡ get_or items n x
    → bound' ≡ bound ++ present o → BindsAs (IsItem fs ls) before now (bind_item fs n (syntax.item_view x)) o → GoesOn fs ls (items_from fs n items) all bound → GoesOn fs ls (items_from fs (n + 1) items) all bound'
item_more fs ls n items x before now o bound bound' all l e p h g =
    let cut : items_from fs n items ≡ bind_item fs n (syntax.item_view x) ∷ items_from fs (n + 1) items = items_cut fs n items x l ∙ ap (λ y. bind_item fs n (syntax.item_view y) ∷ items_from fs (n + 1) items) (sym e) in
    subst (GoesOn fs ls (items_from fs (n + 1) items) all) (sym p) (item_bound fs ls (bind_item fs n (syntax.item_view x)) (items_from fs (n + 1) items) all before now o bound h (subst (λ cs. GoesOn fs ls cs all bound) cut g))

pub item_faults_more : (fs : Fields) (ls : List Leaf) (n : ℕ) (items : List Item) (x : Item) (before now whole : Option BindFault) (o : Option BoundItem) → n < length items → x ≡ get_or items n x
    → BindsAs (IsItem fs ls) before now (bind_item fs n (syntax.item_view x)) o → earlier before (first_fault (flat_map faults_in (items_from fs n items))) ≡ whole → earlier now (first_fault (flat_map faults_in (items_from fs (n + 1) items))) ≡ whole
item_faults_more fs ls n items x before now whole o l e h w =
    let cut : items_from fs n items ≡ bind_item fs n (syntax.item_view x) ∷ items_from fs (n + 1) items = items_cut fs n items x l ∙ ap (λ y. bind_item fs n (syntax.item_view y) ∷ items_from fs (n + 1) items) (sym e) in
    faults_more (IsItem fs ls) (bind_item fs n (syntax.item_view x)) (items_from fs (n + 1) items) before now o h ∙ ap (λ cs. earlier before (first_fault (flat_map faults_in cs))) (sym cut) ∙ w

-- no items are left
pub none_left : (fs : Fields) (ls : List Leaf) (all : List (Checked binding.BoundItem)) (bound : List BoundItem) → GoesOn fs ls [] all bound → AreItems fs ls (passing all) bound
none_left fs ls all bound g = subst (AreItems fs ls (passing all)) (append-nil bound) (g [] tt)

-- ---- arguments that stand alone

-- those of the items from a place on
abbrev pub alone_from : Fields → ℕ → List Item → List meant.BoundExpression
alone_from fs n items = arguments_alone fs (map syntax.item_view (drop n items))

alone_cut : (fs : Fields) (n : ℕ) (items : List Item) (x : Item) → n < length items → x ≡ get_or items n x → alone_from fs n items ≡ argument_alone fs x.place (syntax.term_view x.term) ++ alone_from fs (n + 1) items
alone_cut fs n items x l e =
    ap (λ xs. arguments_alone fs (map syntax.item_view xs)) (drop_more items n x l)
    ∙ ap (λ (y : Item). argument_alone fs y.place (syntax.term_view y.term) ++ alone_from fs (n + 1) items) (sym e)

-- whatever stood there before, some of all have been appended, and the others are those behind
abbrev pub AloneSoFar : Fields → List Leaf → List meant.BoundExpression → List meant.BoundExpression → List BoundExpression → List BoundExpression → Type 0
AloneSoFar fs ls rest all before now =
    (bs : List meant.BoundExpression) → AreExpressions fs ls bs before → (done : List meant.BoundExpression) × AreExpressions fs ls (bs ++ done) now × (done ++ rest ≡ all)

pub none_so_far : (fs : Fields) (ls : List Leaf) (all : List meant.BoundExpression) (xs : List BoundExpression) → AloneSoFar fs ls all all xs xs
none_so_far fs ls all xs bs h = ([], subst (λ cs. AreExpressions fs ls cs xs) (sym (append-nil bs)) h, refl)

pub alone_more : (fs : Fields) (ls : List Leaf) (n : ℕ) (items : List Item) (x : Item) (all : List meant.BoundExpression) (start before now : List BoundExpression) → n < length items → x ≡ get_or items n x
    → Appends fs ls (argument_alone fs x.place (syntax.term_view x.term)) before now → AloneSoFar fs ls (alone_from fs n items) all start before → AloneSoFar fs ls (alone_from fs (n + 1) items) all start now
alone_more fs ls n items x all start before now l e a g bs h =
    let own : List meant.BoundExpression = argument_alone fs x.place (syntax.term_view x.term) in
    let r = g bs h in (
      r.0 ++ own,
      subst (λ cs. AreExpressions fs ls cs now) (append_assoc bs r.0 own) (a (bs ++ r.0) r.1),
      append_assoc r.0 own (alone_from fs (n + 1) items) ∙ ap (λ cs. r.0 ++ cs) (sym (alone_cut fs n items x l e)) ∙ r.2,
    )

-- no items are left
pub all_alone : (fs : Fields) (ls : List Leaf) (all : List meant.BoundExpression) (start now : List BoundExpression) → AloneSoFar fs ls [] all start now → Appends fs ls all start now
all_alone fs ls all start now g bs h = let r = g bs h in subst (λ cs. AreExpressions fs ls (bs ++ cs) now) (sym (append-nil r.0) ∙ r.2) r.1

-- ---- keys

abbrev pub keys_from : Fields → ℕ → List Path → List (Checked meant.BoundPath)
keys_from fs n keys = map (bind_path fs) (map syntax.path_view (drop n keys))

keys_cut : (fs : Fields) (n : ℕ) (keys : List Path) (x : Path) → n < length keys → x ≡ get_or keys n x → keys_from fs n keys ≡ bind_path fs (syntax.path_view x) ∷ keys_from fs (n + 1) keys
keys_cut fs n keys x l e = ap (λ xs. map (bind_path fs) (map syntax.path_view xs)) (drop_more keys n x l) ∙ ap (λ y. bind_path fs (syntax.path_view y) ∷ keys_from fs (n + 1) keys) (sym e)

key_passes : (c : Checked meant.BoundPath) (cs : List (Checked meant.BoundPath)) (before now : Option BindFault) (o : Option BoundPath) → BindsAs IsPath before now c o → map bound_path_view (present o) ++ passing cs ≡ passing (c ∷ cs)
key_passes (passes b) cs before now None h = absurd h
key_passes (passes b) cs before now (Some x) h = ap (λ y. y ∷ passing cs) h.1
key_passes (fails e es) cs before now (Some x) h = absurd h
key_passes (fails e es) cs before now None h = refl

map_joined : (xs ys : List BoundPath) → map bound_path_view (xs ++ ys) ≡ map bound_path_view xs ++ map bound_path_view ys
map_joined [] ys = refl
map_joined (x ∷ xs) ys = ap (λ zs. bound_path_view x ∷ zs) (map_joined xs ys)

pub key_more : (fs : Fields) (n : ℕ) (keys : List Path) (x : Path) (before now : Option BindFault) (o : Option BoundPath) (bound bound' : List BoundPath) (whole : List meant.BoundPath) → n < length keys → x ≡ get_or keys n x
    → bound' ≡ bound ++ present o → BindsAs IsPath before now (bind_path fs (syntax.path_view x)) o → map bound_path_view bound ++ passing (keys_from fs n keys) ≡ whole → map bound_path_view bound' ++ passing (keys_from fs (n + 1) keys) ≡ whole
key_more fs n keys x before now o bound bound' whole l e p h w =
    ap (λ xs. map bound_path_view xs ++ passing (keys_from fs (n + 1) keys)) p ∙ ap (λ xs. xs ++ passing (keys_from fs (n + 1) keys)) (map_joined bound (present o))
    ∙ append_assoc (map bound_path_view bound) (map bound_path_view (present o)) (passing (keys_from fs (n + 1) keys))
    ∙ ap (λ xs. map bound_path_view bound ++ xs) (key_passes (bind_path fs (syntax.path_view x)) (keys_from fs (n + 1) keys) before now o h ∙ ap passing (sym (keys_cut fs n keys x l e))) ∙ w

pub key_faults_more : (fs : Fields) (n : ℕ) (keys : List Path) (x : Path) (before now whole : Option BindFault) (o : Option BoundPath) → n < length keys → x ≡ get_or keys n x
    → BindsAs IsPath before now (bind_path fs (syntax.path_view x)) o → earlier before (first_fault (flat_map faults_in (keys_from fs n keys))) ≡ whole → earlier now (first_fault (flat_map faults_in (keys_from fs (n + 1) keys))) ≡ whole
key_faults_more fs n keys x before now whole o l e h w =
    faults_more IsPath (bind_path fs (syntax.path_view x)) (keys_from fs (n + 1) keys) before now o h ∙ ap (λ cs. earlier before (first_fault (flat_map faults_in cs))) (sym (keys_cut fs n keys x l e)) ∙ w

-- ---- names

joined_on : (x : Bor (List ℕ)) (xs : List (Bor (List ℕ))) → lent x ++ flat_map (λ y. (46 ∷ []) ++ lent y) xs ≡ join_with_byte 46 (map lent (x ∷ xs))
joined_on x [] = append-nil (lent x)
joined_on x (y ∷ ys) = ap (λ r. lent x ++ (46 ∷ r)) (joined_on y ys)

pub joined_names : (xs : List (Bor (List ℕ))) → join_by lent (46 ∷ []) xs ≡ join_with_byte 46 (map lent xs)
joined_names [] = refl
joined_names (x ∷ xs) = joined_on x xs

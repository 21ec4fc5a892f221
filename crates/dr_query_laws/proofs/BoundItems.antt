-- The keys and items of a bound query, each as it is written in the leaf line, are read as what is bound to them again.
use Rattle.std.proofs.Common.{◌≡◌, ℕ, suc, List, [], ◌∷◌, ◌++◌, map, length, Bool, true, false, Option, Some, None, refl, sym, ap, ◌∙◌, subst, append_assoc, append-nil, arith, length-append}
use Rattle.std.specs.Prelude.{if◌then◌else◌, codes, option_map, Ok}
use Rattle.std.specs.List.{filter_map, flat_map, cons_option, slice_get}
use Rattle.std.specs.Fmt.{decimal}
use Rattle.dr_meaning.specs.Schema.{Fields}
use Rattle.dr_meaning.specs.Path.{Step, Leaf, find_path, found_leaf}
use Rattle.dr_meaning.specs.Expression.{path_value}
use Rattle.dr_meaning.specs.Query.{Aggregate, count, sum, least, greatest, RecordTerm, expression as record_expression, within, RecordItem, GroupTerm, key, count_rows as rows_of_group, aggregate as aggregate_of_group, GroupItem}
use Rattle.dr_meaning.specs.Tokens.{PlacedToken}
use Rattle.dr_meaning.specs.Syntax.{PathSyntax, WithinSyntax, TermSyntax, expression, count_rows, aggregate, ItemSyntax}
use Rattle.dr_meaning.specs.QueryGrammar.{SpellsPath, SpellsItem, no_as}
use Rattle.dr_meaning.specs.BoundExpression.{type_mismatch, BindFault, Checked, passes, fails, checked_map, then_check, together, ValueType, same_type, number_type, kind_type, BoundPath, BoundExpression, bind_path, bind_expression, of_type}
use Rattle.dr_meaning.specs.Binding.{BoundWithin, bind_within, BoundTerm, plain, rows_counted, aggregated, argument_of, bind_term, item_name, BoundItem, bind_item, bind_items, faults_in, if_passed, passing, within_faults, key_of, group_term, record_term, record_item, group_item}
use Rattle.dr_meaning.proofs.BindingLemmas.{path_passes}
use Rattle.dr_meaning.proofs.BoundPartsLemmas.{both_empty}
use Rattle.dr_partials.specs.PartialTypes.{with_aggregate, aggregates_among}
use Rattle.dr_partials.specs.Rewriting.{key_items, aggregate_items}
use Rattle.dr_partials.specs.RewritingText.{path_text, record_term_text, group_term_text}
use Rattle.dr_query_laws.specs.ReadBack.{LeadsTo, SaysRecordItem, GivesGroupTerm, SaysGroupItem}
use Rattle.dr_query_laws.proofs.Lexing.{Reads, read_as}
use Rattle.dr_query_laws.proofs.Writable.{WritableNames, WritableWithin, WritableTerm, WritableItem, WritableKey, Every, every_append}
use Rattle.dr_query_laws.proofs.WrittenExpressions.{same_inside, Ends, BoundWritten, PathOf, leads_again, leaf_written, leaf_value_written, expression_written}
use Rattle.dr_query_laws.proofs.WrittenItems.{TermSaid, IsRecordTerm, expression_term_written, rows_written, lone_written, within_written, within_term_written, Spelled, EachWritten}
use Rattle.dr_meaning.specs.Lists.{nth_text}

-- ---- what passed

pub passed_without_fault : {A : Type 0} (c : Checked A) → faults_in c ≡ [] → (a : A) × (c ≡ passes a)
passed_without_fault (passes a) h = (a, refl)
passed_without_fault (fails e es) h = absurd (cc)

pub mapped_passes : {A B : Type 0} (f : A → B) (c : Checked A) (b : B) → checked_map f c ≡ passes b → (a : A) × (c ≡ passes a) × (f a ≡ b)
mapped_passes f (passes a) b h = (a, refl, same_inside (f a) b h)
mapped_passes f (fails e es) b h = absurd (cc)

pub together_passes : {A B C : Type 0} (f : A → B → C) (c : Checked A) (d : Checked B) (r : C) → together f c d ≡ passes r → (a : A) × (b : B) × (c ≡ passes a) × (d ≡ passes b) × (f a b ≡ r)
together_passes f (passes a) (passes b) r h = (a, b, refl, refl, same_inside (f a b) r h)
together_passes f (passes a) (fails e es) r h = absurd (cc)
together_passes f (fails e es) (passes b) r h = absurd (cc)
together_passes f (fails e es) (fails g gs) r h = absurd (cc)

pub then_passes : {A B : Type 0} (rule : A → Checked B) (c : Checked A) (b : B) → then_check rule c ≡ passes b → (a : A) × (c ≡ passes a) × (rule a ≡ passes b)
then_passes rule (passes a) b h = (a, refl, h)
then_passes rule (fails e es) b h = absurd (cc)

pub of_type_same : (t : ValueType) (i : ℕ) (a b : BoundExpression) → of_type t i a ≡ passes b → a ≡ b
of_type_same t i a b h = by_test (same_type a.gives t) h
  where
    by_test : (x : Bool) → (if x then passes a else fails (record { place = i; problem = type_mismatch }) []) ≡ passes b → a ≡ b
    by_test true e = cc
    by_test false e = absurd (cc)

pub argument_same : (a : Aggregate) (i : ℕ) (x y : BoundExpression) → argument_of a i x ≡ passes y → x ≡ y
argument_same count i x y h = cc
argument_same sum i x y h = of_type_same number_type i x y h
argument_same least i x y h = cc
argument_same greatest i x y h = cc

-- ---- keys

-- the path of a leaf to which names lead
abbrev pub KeyFound : Fields → List Step → Type 0
KeyFound fs p = (ns : List (List ℕ)) × (l : Leaf) × WritableNames ns × (found_leaf ns (find_path ns fs) ≡ Ok l) × (l.path ≡ p)

abbrev pub key_paths_of : List (Checked BoundPath) → List (List Step)
key_paths_of cs = map (λ (k : BoundPath). k.leaf.path) (passing cs)

pub keys_found : (fs : Fields) (ks : List PathSyntax) → Every WritableKey ks → flat_map faults_in (map (bind_path fs) ks) ≡ [] → Every (KeyFound fs) (key_paths_of (map (bind_path fs) ks))
keys_found fs [] w f = tt
keys_found fs (k ∷ ks) w f =
    let e = both_empty (faults_in (bind_path fs k)) (flat_map faults_in (map (bind_path fs) ks)) f in
    let q : (b : BoundPath) × (bind_path fs k ≡ passes b) = passed_without_fault (bind_path fs k) e.0 in
    subst (λ (c : Checked BoundPath). Every (KeyFound fs) (key_paths_of (c ∷ map (bind_path fs) ks))) (sym q.1)
    ((k.names, q.0.leaf, w.0, path_passes fs k q.0 q.1, refl), keys_found fs ks w.1 e.1)

key_said : (fs : Fields) (p : List Step) (f : KeyFound fs p) (ts : List PlacedToken) → PathOf f.0 ts → Spelled (List Step) PathSyntax SpellsPath (LeadsTo fs) p ts
key_said fs p f ts k = (k.0, k.1, (record { place = k.0.place; leaf = f.1 }, leads_again fs f.0 f.1 k.0 f.3 k.2, f.4))

-- a key of GROUP BY
key_written : (fs : Fields) (p : List Step) → KeyFound fs p → (rest : List ℕ) → Ends rest → Reads (Spelled (List Step) PathSyntax SpellsPath (LeadsTo fs) p) (path_text fs p) rest
key_written fs p f rest k =
    read_as (PathOf f.0) (Spelled (List Step) PathSyntax SpellsPath (LeadsTo fs) p) (path_text fs p) rest (key_said fs p f)
    (subst (λ q. Reads (PathOf f.0) (path_text fs q) rest) f.4 (leaf_written fs f.0 f.1 f.2 f.3 rest k))

pub keys_written : (fs : Fields) (keys : List (List Step)) → Every (KeyFound fs) keys → EachWritten (List Step) PathSyntax SpellsPath (LeadsTo fs) (path_text fs) keys
keys_written fs [] h = tt
keys_written fs (p ∷ keys) h = (key_written fs p h.0, keys_written fs keys h.1)

-- ---- items of a record query

record_said : (fs : Fields) (i : RecordItem) (ts : List PlacedToken) → TermSaid fs (IsRecordTerm i.term) ts → Spelled RecordItem ItemSyntax SpellsItem (SaysRecordItem fs) i ts
record_said fs i ts s =
    let c = s.3 s.2.0.place in
    (record { place = s.2.0.place; term = s.0; name = None }, (ts, [], sym (append-nil ts), (s.2.0, s.2.1, s.2.2, refl), s.1, no_as), (c.0, c.1, c.2.0, c.2.1, refl))

abbrev RecordWritten : Fields → RecordTerm → Type 0
RecordWritten fs r = (rest : List ℕ) → Ends rest → Reads (TermSaid fs (IsRecordTerm r)) (record_term_text (path_text fs) r) rest

pub same_term : {A : Type 0} (a b : A) → ◌≡◌ {A = Option A} (Some a) (Some b) → a ≡ b
same_term a b h = cc

record_term_written : (fs : Fields) (i : ℕ) (t : TermSyntax) (b : BoundTerm) → WritableTerm t → bind_term fs i t ≡ passes b → within_faults b ≡ [] → (r : RecordTerm) → record_term b ≡ Some r → RecordWritten fs r
record_term_written fs i (expression e) b w h g r k =
    let q : (a : BoundExpression) × (bind_expression fs e ≡ passes a) × (plain a ≡ b) = mapped_passes plain (bind_expression fs e) b h in
    subst (RecordWritten fs) (same_term (record_expression q.0.expression) r (ap record_term q.2 ∙ k))
    (expression_term_written fs (IsRecordTerm (record_expression q.0.expression)) q.0.expression q.0.gives (λ ps. (refl, refl)) (expression_written fs e w q.0 q.1))
record_term_written fs i (count_rows v) b w h g r k =
    let q : (o : Option BoundWithin) × (bind_within fs v ≡ passes o) × (rows_counted o ≡ b) = mapped_passes rows_counted (bind_within fs v) b h in
    let z : None ≡ Some r = ap record_term q.2 ∙ k in
    absurd (cc)
record_term_written fs i (aggregate a e v) b w h g r k =
    let q : (y : BoundExpression) × (o : Option BoundWithin) × (then_check (argument_of a i) (bind_expression fs e) ≡ passes y) × (bind_within fs v ≡ passes o) × (aggregated a y o ≡ b) =
    together_passes (aggregated a) (then_check (argument_of a i) (bind_expression fs e)) (bind_within fs v) b h in
    let d : (x : BoundExpression) × (bind_expression fs e ≡ passes x) × (argument_of a i x ≡ passes q.0) = then_passes (argument_of a i) (bind_expression fs e) q.0 q.2 in
    let same : d.0 ≡ q.0 = argument_same a i d.0 q.0 d.2 in
    by_node v w.1 q.1 q.3 d.0 q.0 d.2 (expression_written fs e w.0 d.0 d.1) (ap (λ x. aggregated a x q.1) same ∙ q.4)
  where
    by_node : (v : Option WithinSyntax) → WritableWithin v → (o : Option BoundWithin) → bind_within fs v ≡ passes o → (x y : BoundExpression) → argument_of a i x ≡ passes y → BoundWritten fs x → aggregated a x o ≡ b
        → RecordWritten fs r
    by_node v n None f x y p s z = let m : None ≡ Some r = ap record_term z ∙ k in absurd (cc)
    by_node None n (Some u) f x y p s z = absurd (cc)
    by_node (Some v) n (Some u) f x y p s z =
        subst (RecordWritten fs) (same_term (within a x.expression u.node) r (ap record_term z ∙ k)) (within_term_written fs a i x y u p (ap within_faults z ∙ g) s (within_written fs v n u f))

-- an item that passes, and its term
pub item_passes : (fs : Fields) (n : ℕ) (i : ItemSyntax) → faults_in (bind_item fs n i) ≡ [] → (t : BoundTerm) × (bind_term fs i.place i.term ≡ passes t)
    × (bind_item fs n i ≡ passes (record { place = i.place; name = item_name n i.term i.name; term = t }))
item_passes fs n i h =
    let q = passed_without_fault (bind_item fs n i) h in
    let m = mapped_passes (λ t. record { place = i.place; name = item_name n i.term i.name; term = t }) (bind_term fs i.place i.term) q.0 q.1 in
    (m.0, m.1, q.1 ∙ ap passes (sym m.2))

abbrev RecordItemsWritten : Fields → List RecordItem → Type 0
RecordItemsWritten fs rs = EachWritten RecordItem ItemSyntax SpellsItem (SaysRecordItem fs) (λ (i : RecordItem). record_term_text (path_text fs) i.term) rs

abbrev all_within_faults : List BoundItem → List BindFault
all_within_faults vs = flat_map (λ (i : BoundItem). within_faults i.term) vs

record_item_written : (fs : Fields) (v : BoundItem) (vs : List BoundItem) → ((r : RecordTerm) → record_term v.term ≡ Some r → RecordWritten fs r) → RecordItemsWritten fs (filter_map record_item vs)
    → RecordItemsWritten fs (filter_map record_item (v ∷ vs))
record_item_written fs v vs f g = by_term (record_term v.term) f
  where
    by_term : (o : Option RecordTerm) → ((r : RecordTerm) → o ≡ Some r → RecordWritten fs r)
        → RecordItemsWritten fs (cons_option (option_map (λ (t : RecordTerm). record { name = v.name; term = t }) o) (filter_map record_item vs))
    by_term None h = g
    by_term (Some r) h = (
      (λ rest k. read_as (TermSaid fs (IsRecordTerm r)) (Spelled RecordItem ItemSyntax SpellsItem (SaysRecordItem fs) (record { name = v.name; term = r })) (record_term_text (path_text fs) r) rest
          (record_said fs (record { name = v.name; term = r })) (h r refl rest k)),
      g,
    )

pub record_items_written : (fs : Fields) (n : ℕ) (is : List ItemSyntax) → Every WritableItem is → flat_map faults_in (bind_items fs n is) ≡ [] → all_within_faults (passing (bind_items fs n is)) ≡ []
    → RecordItemsWritten fs (filter_map record_item (passing (bind_items fs n is)))
record_items_written fs n [] w f z = tt
record_items_written fs n (i ∷ is) w f z =
    let e = both_empty (faults_in (bind_item fs n i)) (flat_map faults_in (bind_items fs (suc n) is)) f in
    let q = item_passes fs n i e.0 in
    let v : BoundItem = record { place = i.place; name = item_name n i.term i.name; term = q.0 } in
    let vs : List BoundItem = passing (bind_items fs (suc n) is) in
    let p : passing (bind_items fs n (i ∷ is)) ≡ v ∷ vs = ap (λ c. cons_option (if_passed c) vs) q.2 in
    let g = both_empty (within_faults q.0) (all_within_faults vs) (sym (ap all_within_faults p) ∙ z) in
    subst (λ x. RecordItemsWritten fs (filter_map record_item x)) (sym p)
    (record_item_written fs v vs (λ r k. record_term_written fs i.place i.term q.0 w.0 q.1 g.0 r k) (record_items_written fs (suc n) is w.1 e.1 g.1))

-- ---- items of an aggregate query

abbrev pub GroupTermWritten : Fields → List (List Step) → GroupTerm → Type 0
GroupTermWritten fs keys g = (rest : List ℕ) → Ends rest → Reads (TermSaid fs (GivesGroupTerm keys g)) (group_term_text (path_text fs) (map (path_text fs) keys) g) rest

-- a key, or a term that is written
abbrev KeyOrWritten : Fields → List (List Step) → GroupTerm → Type 0
KeyOrWritten fs keys (key n) = Unit {0}
KeyOrWritten fs keys g = GroupTermWritten fs keys g

key_or_written : (fs : Fields) (keys : List (List Step)) (o : Option ℕ) (g : GroupTerm) → option_map key o ≡ Some g → KeyOrWritten fs keys g
key_or_written fs keys None g h = absurd (cc)
key_or_written fs keys (Some n) g h = subst (KeyOrWritten fs keys) (same_term (key n) g h) tt

group_term_written : (fs : Fields) (keys : List (List Step)) (bound : List BoundPath) (i : ℕ) (t : TermSyntax) (b : BoundTerm) → WritableTerm t → bind_term fs i t ≡ passes b → (g : GroupTerm) → group_term bound b ≡ Some g → KeyOrWritten fs keys g
group_term_written fs keys bound i (expression e) b w h g k =
    let q : (a : BoundExpression) × (bind_expression fs e ≡ passes a) × (plain a ≡ b) = mapped_passes plain (bind_expression fs e) b h in
    key_or_written fs keys (key_of bound q.0.expression) g (ap (group_term bound) q.2 ∙ k)
group_term_written fs keys bound i (count_rows v) b w h g k =
    let q : (o : Option BoundWithin) × (bind_within fs v ≡ passes o) × (rows_counted o ≡ b) = mapped_passes rows_counted (bind_within fs v) b h in
    by_within q.0 (ap (group_term bound) q.2 ∙ k)
  where
    by_within : (o : Option BoundWithin) → group_term bound (rows_counted o) ≡ Some g → KeyOrWritten fs keys g
    by_within None z = subst (KeyOrWritten fs keys) (same_term rows_of_group g z) (rows_written fs (GivesGroupTerm keys rows_of_group) refl)
    by_within (Some v) z = absurd (cc)
group_term_written fs keys bound i (aggregate a e v) b w h g k =
    let q : (y : BoundExpression) × (o : Option BoundWithin) × (then_check (argument_of a i) (bind_expression fs e) ≡ passes y) × (bind_within fs v ≡ passes o) × (aggregated a y o ≡ b) =
    together_passes (aggregated a) (then_check (argument_of a i) (bind_expression fs e)) (bind_within fs v) b h in
    let d : (x : BoundExpression) × (bind_expression fs e ≡ passes x) × (argument_of a i x ≡ passes q.0) = then_passes (argument_of a i) (bind_expression fs e) q.0 q.2 in
    let same : d.0 ≡ q.0 = argument_same a i d.0 q.0 d.2 in
    by_within q.1 d.0 q.0 d.2 (expression_written fs e w.0 d.0 d.1) (ap (group_term bound) (ap (λ x. aggregated a x q.1) same ∙ q.4) ∙ k)
  where
    by_within : (o : Option BoundWithin) (x y : BoundExpression) → argument_of a i x ≡ passes y → BoundWritten fs x → group_term bound (aggregated a x o) ≡ Some g → KeyOrWritten fs keys g
    by_within None x y p f z =
        subst (KeyOrWritten fs keys) (same_term (aggregate_of_group a x.expression) g z) (lone_written fs a i x y (GivesGroupTerm keys (aggregate_of_group a x.expression)) p (λ ps. refl) f)
    by_within (Some u) x y p f z = absurd (cc)

with_aggregate_written : (fs : Fields) (keys : List (List Step)) (g : GroupTerm) (terms : List GroupTerm) → KeyOrWritten fs keys g → Every (GroupTermWritten fs keys) terms → Every (GroupTermWritten fs keys) (with_aggregate g terms)
with_aggregate_written fs keys (key n) terms h k = k
with_aggregate_written fs keys rows_of_group terms h k = (h, k)
with_aggregate_written fs keys (aggregate_of_group a e) terms h k = (h, k)

abbrev AggregatesWritten : Fields → List (List Step) → List BoundPath → List BoundItem → Type 0
AggregatesWritten fs keys bound vs = Every (GroupTermWritten fs keys) (aggregates_among (filter_map (group_item bound) vs))

aggregate_item_written : (fs : Fields) (keys : List (List Step)) (bound : List BoundPath) (v : BoundItem) (vs : List BoundItem) → ((g : GroupTerm) → group_term bound v.term ≡ Some g → KeyOrWritten fs keys g)
    → AggregatesWritten fs keys bound vs → AggregatesWritten fs keys bound (v ∷ vs)
aggregate_item_written fs keys bound v vs f k = by_term (group_term bound v.term) f
  where
    by_term : (o : Option GroupTerm) → ((g : GroupTerm) → o ≡ Some g → KeyOrWritten fs keys g)
        → Every (GroupTermWritten fs keys) (aggregates_among (cons_option (option_map (λ (t : GroupTerm). record { name = v.name; term = t }) o) (filter_map (group_item bound) vs)))
    by_term None h = k
    by_term (Some g) h = with_aggregate_written fs keys g (aggregates_among (filter_map (group_item bound) vs)) (h g refl) k

pub aggregates_written : (fs : Fields) (keys : List (List Step)) (bound : List BoundPath) (n : ℕ) (is : List ItemSyntax) → Every WritableItem is → flat_map faults_in (bind_items fs n is) ≡ []
    → AggregatesWritten fs keys bound (passing (bind_items fs n is))
aggregates_written fs keys bound n [] w f = tt
aggregates_written fs keys bound n (i ∷ is) w f =
    let e = both_empty (faults_in (bind_item fs n i)) (flat_map faults_in (bind_items fs (suc n) is)) f in
    let q = item_passes fs n i e.0 in
    let v : BoundItem = record { place = i.place; name = item_name n i.term i.name; term = q.0 } in
    let vs : List BoundItem = passing (bind_items fs (suc n) is) in
    let p : passing (bind_items fs n (i ∷ is)) ≡ v ∷ vs = ap (λ c. cons_option (if_passed c) vs) q.2 in
    subst (AggregatesWritten fs keys bound) (sym p)
    (aggregate_item_written fs keys bound v vs (λ g k. group_term_written fs keys bound i.place i.term q.0 w.0 q.1 g k) (aggregates_written fs keys bound (suc n) is w.1 e.1))

group_said : (fs : Fields) (keys : List (List Step)) (i : GroupItem) (ts : List PlacedToken) → TermSaid fs (GivesGroupTerm keys i.term) ts → Spelled GroupItem ItemSyntax SpellsItem (SaysGroupItem fs keys) i ts
group_said fs keys i ts s =
    let c = s.3 s.2.0.place in
    (record { place = s.2.0.place; term = s.0; name = None }, (ts, [], sym (append-nil ts), (s.2.0, s.2.1, s.2.2, refl), s.1, no_as), (c.0, c.1, c.2, refl))

abbrev pub GroupItemsWritten : Fields → List (List Step) → List GroupItem → Type 0
GroupItemsWritten fs keys items = EachWritten GroupItem ItemSyntax SpellsItem (SaysGroupItem fs keys) (λ (i : GroupItem). group_term_text (path_text fs) (map (path_text fs) keys) i.term) items

group_item_written : (fs : Fields) (keys : List (List Step)) (i : GroupItem) → GroupTermWritten fs keys i.term
    → (rest : List ℕ) → Ends rest → Reads (Spelled GroupItem ItemSyntax SpellsItem (SaysGroupItem fs keys) i) (group_term_text (path_text fs) (map (path_text fs) keys) i.term) rest
group_item_written fs keys i f rest k =
    read_as (TermSaid fs (GivesGroupTerm keys i.term)) (Spelled GroupItem ItemSyntax SpellsItem (SaysGroupItem fs keys) i) (group_term_text (path_text fs) (map (path_text fs) keys) i.term) rest (group_said fs keys i) (f rest k)

aggregate_items_written : (fs : Fields) (keys : List (List Step)) (n : ℕ) (terms : List GroupTerm) → Every (GroupTermWritten fs keys) terms → GroupItemsWritten fs keys (aggregate_items n terms)
aggregate_items_written fs keys n [] h = tt
aggregate_items_written fs keys n (g ∷ terms) h = (group_item_written fs keys (record { name = codes "a" ++ decimal n; term = g }) h.0, aggregate_items_written fs keys (suc n) terms h.1)

-- the nth of keys, and its text
there : (front : List (List Step)) (p : List Step) (keys : List (List Step)) → slice_get (front ++ p ∷ keys) (length front) ≡ Some p
there [] p keys = refl
there (q ∷ front) p keys = there front p keys

text_there : (path : List Step → List ℕ) (front : List (List Step)) (p : List Step) (keys : List (List Step)) → nth_text (map path (front ++ p ∷ keys)) (length front) ≡ path p
text_there path [] p keys = refl
text_there path (q ∷ front) p keys = text_there path front p keys

key_term_written : (fs : Fields) (keys : List (List Step)) (n : ℕ) (p : List Step) → KeyFound fs p → slice_get keys n ≡ Some p → nth_text (map (path_text fs) keys) n ≡ path_text fs p → GroupTermWritten fs keys (key n)
key_term_written fs keys n p f s e rest k =
    subst (λ x. Reads (TermSaid fs (GivesGroupTerm keys (key n))) x rest) (sym (e ∙ ap (path_text fs) (sym f.4)))
    (expression_term_written fs (GivesGroupTerm keys (key n)) (path_value f.1.path) (kind_type f.1.kind)
    (λ ps. (record { expression = path_value f.1.path; gives = kind_type f.1.kind; paths = ps }, p, refl, ap path_value f.4, s)) (leaf_value_written fs f.0 f.1 f.2 f.3) rest k)

key_items_written : (fs : Fields) (front keys : List (List Step)) → Every (KeyFound fs) keys → GroupItemsWritten fs (front ++ keys) (key_items (length front) keys)
key_items_written fs front [] h = tt
key_items_written fs front (p ∷ keys) h =
    let more : (front ++ p ∷ []) ++ keys ≡ front ++ p ∷ keys = append_assoc front (p ∷ []) keys in
    let place : length (front ++ p ∷ []) ≡ suc (length front) = omega (arith, length-append front (p ∷ [])) in (
      group_item_written fs (front ++ p ∷ keys) (record { name = codes "k" ++ decimal (length front); term = key (length front) }) (key_term_written fs (front ++ p ∷ keys) (length front) p h.0 (there front p keys) (text_there (path_text fs) front p keys)),
      subst (λ ks. GroupItemsWritten fs ks (key_items (suc (length front)) keys)) more (subst (λ n. GroupItemsWritten fs ((front ++ p ∷ []) ++ keys) (key_items n keys)) place (key_items_written fs (front ++ p ∷ []) keys h.1)),
    )

-- each item of the leaf query over keys
pub leaf_items_written : (fs : Fields) (keys : List (List Step)) (terms : List GroupTerm) → Every (KeyFound fs) keys → Every (GroupTermWritten fs keys) terms → GroupItemsWritten fs keys (key_items 0 keys ++ aggregate_items 0 terms)
leaf_items_written fs keys terms h k = every_append _ (key_items 0 keys) (aggregate_items 0 terms) (key_items_written fs [] keys h) (aggregate_items_written fs keys 0 terms k)

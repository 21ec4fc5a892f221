-- The bare leaf line of a bound query is read as a tree that says the leaf query.
use Rattle.std.proofs.Common.{◌≡◌, ℕ, List, [], ◌∷◌, ◌++◌, map, Bool, true, false, Option, Some, None, refl, sym, ap, ◌∙◌, subst, append-nil}
use Rattle.std.specs.Prelude.{if◌then◌else◌, codes, option_map, bytes_eq}
use Rattle.std.specs.List.{filter_map, flat_map, cons_option}
use Rattle.std.proofs.lemmas.Slice.Eq.{bytes_eq-Decides}
use Rattle.dr_meaning.specs.Schema.{Schema, Fields, is_name}
use Rattle.dr_meaning.specs.Path.{Step}
use Rattle.dr_meaning.specs.Expression.{Expression, path_value}
use Rattle.dr_meaning.specs.Query.{RecordItem, GroupTerm, key, GroupItem, Selection, objects, groups, Query}
use Rattle.dr_meaning.specs.Tokens.{select_word, from_word, where_word, group_word, by_word, reserved, identifier, PlacedToken, query_tokens}
use Rattle.dr_meaning.specs.Syntax.{NameSyntax, PathSyntax, ItemSyntax, ConditionSyntax, QuerySyntax}
use Rattle.dr_meaning.specs.QueryGrammar.{word_at, name_at, SpellsPath, SpellsItem, SpellsWhere, no_where, where_expression, SpellsGroup, no_group, group_by, no_semicolon, SpellsQuery, a_query}
use Rattle.dr_meaning.specs.BoundExpression.{unknown_table, type_mismatch, BindFault, fault_at, Checked, passes, fails, checked_map, then_check, ValueType, truth_type, same_type, BoundPath, BoundExpression, bind_path, bind_expression, of_type}
use Rattle.dr_meaning.specs.Binding.{bind_condition, BoundTerm, plain, rows_counted, aggregated, BoundItem, key_of, group_term, bind_items, is_record_syntax, bind_parts, faults_in, passing, within_faults, grouping_faults, record_item, group_item, table_faults, condition_of, query_of}
use Rattle.dr_meaning.specs.BindingLaws.{faults_of, selection_names, names_from}
use Rattle.dr_meaning.proofs.SyntaxSpelled.{spelled_is_accepted}
use Rattle.dr_meaning.proofs.BindingFaultLemmas.{bound_is}
use Rattle.dr_meaning.proofs.BoundPartsLemmas.{both_empty, no_part_faults, no_faults_in, items_are_kept}
use Rattle.dr_partials.specs.PartialTypes.{aggregates_among}
use Rattle.dr_partials.specs.Rewriting.{key_items, aggregate_items, leaf_selection, leaf_query}
use Rattle.dr_partials.specs.RewritingText.{name_text, path_text, in_quotes, record_term_text, group_term_text, commas, where_text, group_by_text, select_text, named, leaf_text}
use Rattle.dr_query_laws.specs.ReadBack.{LeafPiece, leaf_pieces, key_paths, line_text, bare_leaf_text, LeafLineHasNames, SaysCondition, LeadsTo, SaysRecordItem, SaysGroupItem, OneByOne, SaysSelection, SaysQuery, IsReadAs, LeafLineIsReadBack}
use Rattle.dr_query_laws.proofs.Lexing.{Reads, Both, both, One, one, read_both, read_as, read_whole, read_after_blank, read_word, read_word_before_blank, read_word_between}
use Rattle.dr_query_laws.proofs.WrittenNames.{read_name}
use Rattle.dr_query_laws.proofs.Writable.{WritableCondition, Every, Some_of, WritableQuery, parsed_writable}
use Rattle.dr_query_laws.proofs.WrittenExpressions.{Ends, Said, BoundWritten, expression_of, expression_written}
use Rattle.dr_query_laws.proofs.WrittenItems.{primary_begins, AllSpelled, EachWritten, commas_written}
use Rattle.dr_query_laws.proofs.BoundItems.{of_type_same, then_passes, KeyFound, keys_found, keys_written, record_items_written, aggregates_written, GroupItemsWritten, leaf_items_written}

-- ---- the condition

-- tokens of a WHERE part, or none, which is bound to this
abbrev WhereSaid : Fields → Option Expression → List PlacedToken → Type 0
WhereSaid fs c ts = (w : Option ConditionSyntax) × SpellsWhere ts w × SaysCondition fs c w

abbrev WhereWritten : Fields → Option Expression → Type 0
WhereWritten fs c = (rest : List ℕ) → Ends rest → Reads (WhereSaid fs c) (where_text (path_text fs) c) rest

no_where_written : (fs : Fields) → WhereWritten fs None
no_where_written fs rest k i = (i, [], (λ us h. h), (None, no_where, (None, refl, refl)))

where_said : (fs : Fields) (e : BoundExpression) → same_type e.gives truth_type ≡ true → (ts : List PlacedToken) → Both (One (reserved where_word)) (Said fs e.expression e.gives) ts → WhereSaid fs (Some e.expression) ts
where_said fs e h _ (both _ ts (one i) s) =
    let b = primary_begins ts s.0 s.1 in
    let d : BoundExpression = record e { paths = s.2.0 } in (
      Some (record { place = b.0.place; expression = s.0 }),
      where_expression i b.0.place ts s.0 (b.0, b.1, b.2, refl) (expression_of ts s.0 s.1),
      (
        Some d,
        ap (λ c. checked_map (λ (x : BoundExpression). Some x) (then_check (of_type truth_type b.0.place) c)) s.2.1
            ∙ ap (λ t. checked_map (λ (x : BoundExpression). Some x) (if t then passes d else fails (record { place = b.0.place; problem = type_mismatch }) [])) h,
        refl,
      ),
    )

where_written : (fs : Fields) (e : BoundExpression) → same_type e.gives truth_type ≡ true → BoundWritten fs e → WhereWritten fs (Some e.expression)
where_written fs e h f rest k =
    read_as (Both (One (reserved where_word)) (Said fs e.expression e.gives)) (WhereSaid fs (Some e.expression)) (where_text (path_text fs) (Some e.expression)) rest (where_said fs e h)
    (read_both (One (reserved where_word)) (Said fs e.expression e.gives) (codes " WHERE ") _ rest (read_word_between where_word (codes "WHERE") _ refl refl) (f rest k))

type_is : (t : ValueType) (i : ℕ) (a b : BoundExpression) → of_type t i a ≡ passes b → same_type a.gives t ≡ true
type_is t i a b h = by_test (same_type a.gives t) h
  where
    by_test : (x : Bool) → (if x then passes a else fails (record { place = i; problem = type_mismatch }) []) ≡ passes b → x ≡ true
    by_test true k = refl
    by_test false k = absurd (cc)

-- the condition of a query without a fault
condition_written : (fs : Fields) (c : Option ConditionSyntax) → WritableCondition c → faults_in (bind_condition fs c) ≡ [] → WhereWritten fs (condition_of (bind_condition fs c))
condition_written fs None w f = no_where_written fs
condition_written fs (Some c) w f = by_checked (then_check (of_type truth_type c.place) (bind_expression fs c.expression)) passed f
  where
    passed : (b : BoundExpression) → then_check (of_type truth_type c.place) (bind_expression fs c.expression) ≡ passes b → (same_type b.gives truth_type ≡ true) × BoundWritten fs b
    passed b h =
        let r = then_passes (of_type truth_type c.place) (bind_expression fs c.expression) b h in
        subst (λ (x : BoundExpression). (same_type x.gives truth_type ≡ true) × BoundWritten fs x) (of_type_same truth_type c.place r.0 b r.2)
        (type_is truth_type c.place r.0 b r.2, expression_written fs c.expression w r.0 r.1)

    by_checked : (d : Checked BoundExpression) → ((b : BoundExpression) → d ≡ passes b → (same_type b.gives truth_type ≡ true) × BoundWritten fs b) → faults_in (checked_map (λ (e : BoundExpression). Some e) d) ≡ []
        → WhereWritten fs (condition_of (checked_map (λ (e : BoundExpression). Some e) d))
    by_checked (passes e) h g = where_written fs e (h e refl).0 (h e refl).1
    by_checked (fails e es) h g = absurd (cc)

-- ---- GROUP BY

abbrev GroupSaid : Fields → List (List Step) → List PlacedToken → Type 0
GroupSaid fs keys ts = (ks : List PathSyntax) × SpellsGroup ts ks × OneByOne (LeadsTo fs) keys ks

group_said : (fs : Fields) (keys : List (List Step)) (ts : List PlacedToken) → Both (Both (One (reserved group_word)) (One (reserved by_word))) (AllSpelled (List Step) PathSyntax SpellsPath (LeadsTo fs) keys) ts → GroupSaid fs keys ts
group_said fs keys _ (both _ ts (both _ _ (one i) (one j)) s) = (s.0, group_by i j ts s.0 s.1, s.2)

group_written : (fs : Fields) (keys : List (List Step)) → Every (KeyFound fs) keys → (rest : List ℕ) → Ends rest → Reads (GroupSaid fs keys) (group_by_text (map (path_text fs) keys)) rest
group_written fs [] h rest k = λ i. (i, [], (λ us a. a), ([], no_group, tt))
group_written fs (p ∷ keys) h rest k =
    let words = Both (One (reserved group_word)) (One (reserved by_word)) in
    let all = AllSpelled (List Step) PathSyntax SpellsPath (LeadsTo fs) (p ∷ keys) in
    let names : List ℕ = commas (map (path_text fs) (p ∷ keys)) in
    read_as (Both words all) (GroupSaid fs (p ∷ keys)) (group_by_text (map (path_text fs) (p ∷ keys))) rest (group_said fs (p ∷ keys))
    (read_both words all (codes " GROUP BY ") names rest
    (read_both (One (reserved group_word)) (One (reserved by_word)) (codes " GROUP") (codes " BY ") (names ++ rest)
    (read_after_blank (One (reserved group_word)) (codes "GROUP") (codes " BY " ++ (names ++ rest)) (read_word group_word (codes "GROUP") (codes " BY " ++ (names ++ rest)) refl refl refl))
    (read_word_between by_word (codes "BY") (names ++ rest) refl refl))
    (commas_written (List Step) PathSyntax SpellsPath (LeadsTo fs) (path_text fs) p keys (keys_written fs (p ∷ keys) h) rest k))

-- ---- the whole line

nothing_behind : Ends []
nothing_behind = record { word = refl; number = refl; text = refl }

before_keys : (path : List Step → List ℕ) (keys : List (List Step)) → Ends (group_by_text (map path keys) ++ [])
before_keys path [] = nothing_behind
before_keys path (p ∷ keys) = record { word = refl; number = refl; text = refl }

before_condition : (path : List Step → List ℕ) (c : Option Expression) (keys : List (List Step)) → Ends ((where_text path c ++ group_by_text (map path keys)) ++ [])
before_condition path None keys = before_keys path keys
before_condition path (Some e) keys = record { word = refl; number = refl; text = refl }

-- tokens that spell a query over this table, of these items, this condition, these keys
abbrev QuerySaid : (A : Type 0) → (A → ItemSyntax → Type 0) → Fields → List A → List ℕ → Option Expression → List (List Step) → List PlacedToken → Type 0
QuerySaid A Says fs items name c keys ts = (y : QuerySyntax) × SpellsQuery ts y × (y.table.name ≡ name) × SaysCondition fs c y.condition × OneByOne Says items y.items × OneByOne (LeadsTo fs) keys y.keys

abbrev Tail : Fields → Option Expression → List (List Step) → List PlacedToken → Type 0
Tail fs c keys = Both (WhereSaid fs c) (GroupSaid fs keys)

query_said : (A : Type 0) (Says : A → ItemSyntax → Type 0) (fs : Fields) (items : List A) (name : List ℕ) (c : Option Expression) (keys : List (List Step)) (ts : List PlacedToken)
    → Both (One (reserved select_word)) (Both (AllSpelled A ItemSyntax SpellsItem Says items) (Both (One (reserved from_word)) (Both (One (identifier name)) (Tail fs c keys)))) ts
    → QuerySaid A Says fs items name c keys ts
query_said A Says fs items name c keys _ (both _ _ (one h) (both ts _ s (both _ _ (one i) (both _ _ (one j) (both us vs w g))))) = (
  record { items = s.0; table = record { place = j; name = name }; condition = w.0; keys = g.0 },
  subst (λ x. SpellsQuery (word_at h select_word ∷ (ts ++ word_at i from_word ∷ name_at j name ∷ (us ++ x))) (record { items = s.0; table = record { place = j; name = name }; condition = w.0; keys = g.0 })) (append-nil vs)
      (a_query h i j name ts us vs [] s.0 w.0 g.0 s.1 w.1 g.1 no_semicolon),
  refl,
  w.2,
  s.2,
  g.2,
)

tail_written : (fs : Fields) (c : Option Expression) (keys : List (List Step)) → WhereWritten fs c → Every (KeyFound fs) keys
    → Reads (Tail fs c keys) (where_text (path_text fs) c ++ group_by_text (map (path_text fs) keys)) []
tail_written fs c keys w k =
    read_both (WhereSaid fs c) (GroupSaid fs keys) (where_text (path_text fs) c) (group_by_text (map (path_text fs) keys)) [] (w (group_by_text (map (path_text fs) keys) ++ []) (before_keys (path_text fs) keys))
    (group_written fs keys k [] nothing_behind)

-- the text of a query, from the texts of its items
select_written : (A : Type 0) (Says : A → ItemSyntax → Type 0) (fs : Fields) (words : A → List ℕ) (a : A) (list : List A) (name : List ℕ) (c : Option Expression) (keys : List (List Step)) → is_name name ≡ true
    → EachWritten A ItemSyntax SpellsItem Says words (a ∷ list) → WhereWritten fs c → Every (KeyFound fs) keys
    → Reads (QuerySaid A Says fs (a ∷ list) name c keys) (select_text (map words (a ∷ list)) (name_text name) (where_text (path_text fs) c) (map (path_text fs) keys)) []
select_written A Says fs words a list name c keys n h w k =
    let all = AllSpelled A ItemSyntax SpellsItem Says (a ∷ list) in
    let from_mark = One (reserved from_word) in
    let table = One (identifier name) in
    let behind : List ℕ = where_text (path_text fs) c ++ group_by_text (map (path_text fs) keys) in
    let from_table : List ℕ = codes " FROM " ++ (name_text name ++ behind) in
    let texts : List ℕ = commas (map words (a ∷ list)) in
    read_as (Both (One (reserved select_word)) (Both all (Both from_mark (Both table (Tail fs c keys))))) (QuerySaid A Says fs (a ∷ list) name c keys)
    (select_text (map words (a ∷ list)) (name_text name) (where_text (path_text fs) c) (map (path_text fs) keys)) [] (query_said A Says fs (a ∷ list) name c keys)
    (read_both (One (reserved select_word)) (Both all (Both from_mark (Both table (Tail fs c keys)))) (codes "SELECT ") (texts ++ from_table) [] (read_word_before_blank select_word (codes "SELECT") ((texts ++ from_table) ++ []) refl refl)
    (read_both all (Both from_mark (Both table (Tail fs c keys))) texts from_table [] (commas_written A ItemSyntax SpellsItem Says words a list h (from_table ++ []) (record { word = refl; number = refl; text = refl }))
    (read_both from_mark (Both table (Tail fs c keys)) (codes " FROM ") (name_text name ++ behind) [] (read_word_between from_word (codes "FROM") ((name_text name ++ behind) ++ []) refl refl)
    (read_both table (Tail fs c keys) (name_text name) behind [] (read_name name (behind ++ []) n (before_condition (path_text fs) c keys).word) (tail_written fs c keys w k)))))

-- ---- the pieces of the leaf line

piece_texts : (A : Type 0) (words : A → List ℕ) (names : A → List ℕ) (list : List A) → map (λ (p : LeafPiece). p.text) (map (λ a. record { text = words a; name = names a }) list) ≡ map words list
piece_texts A words names [] = refl
piece_texts A words names (a ∷ list) = ap (λ x. words a ∷ x) (piece_texts A words names list)

named_pieces : (A : Type 0) (words : A → List ℕ) (names : A → List ℕ) (list : List A)
    → map (λ a. named (words a) (names a)) list ≡ map (λ (p : LeafPiece). named p.text p.name) (map (λ a. record { text = words a; name = names a }) list)
named_pieces A words names [] = refl
named_pieces A words names (a ∷ list) = ap (λ x. named (words a) (names a) ∷ x) (named_pieces A words names list)

pub leaf_line_has_names : LeafLineHasNames
unfolding leaf_query
leaf_line_has_names fs q = by_selection q.selection
  where
    by_selection : (x : Selection) → leaf_text (path_text fs) q.condition x
        ≡ select_text (map (λ (p : LeafPiece). named p.text p.name) (leaf_pieces (path_text fs) (leaf_selection x))) (codes "tablet") (where_text (path_text fs) q.condition) (map (path_text fs) (key_paths (leaf_selection x)))
    by_selection (objects items) = ap (λ x. select_text x (codes "tablet") (where_text (path_text fs) q.condition) [])
        (named_pieces RecordItem (λ (i : RecordItem). record_term_text (path_text fs) i.term) (λ (i : RecordItem). in_quotes i.name) items)
    by_selection (groups keys items) = ap (λ x. select_text x (codes "tablet") (where_text (path_text fs) q.condition) (map (path_text fs) keys))
        (named_pieces GroupItem (λ (i : GroupItem). group_term_text (path_text fs) (map (path_text fs) keys) i.term) (λ (i : GroupItem). i.name) (key_items 0 keys ++ aggregate_items 0 (aggregates_among items)))

-- ---- what the line says

-- tokens that spell a query over this table, with this condition and selection
abbrev LineSaid : Fields → List ℕ → Option Expression → Selection → List PlacedToken → Type 0
LineSaid fs name c x ts = (y : QuerySyntax) × SpellsQuery ts y × (y.table.name ≡ name) × SaysCondition fs c y.condition × SaysSelection fs x y

abbrev bare_line : Fields → List ℕ → Option Expression → Selection → List ℕ
bare_line fs name c x = line_text (λ (p : LeafPiece). p.text) (name_text name) (path_text fs) (record { condition = c; selection = x })

no_keys_said : (fs : Fields) (ks : List PathSyntax) → OneByOne (LeadsTo fs) [] ks → ks ≡ []
no_keys_said fs [] h = refl
no_keys_said fs (k ∷ ks) h = absurd h

objects_said : (fs : Fields) (name : List ℕ) (c : Option Expression) (items : List RecordItem) (ts : List PlacedToken) → QuerySaid RecordItem (SaysRecordItem fs) fs items name c [] ts → LineSaid fs name c (objects items) ts
objects_said fs name c items ts s = (s.0, s.1, s.2, s.3, (s.4, no_keys_said fs s.0.keys s.5))

abbrev record_words : Fields → RecordItem → List ℕ
record_words fs i = record_term_text (path_text fs) i.term

abbrev group_words : Fields → List (List Step) → GroupItem → List ℕ
group_words fs keys i = group_term_text (path_text fs) (map (path_text fs) keys) i.term

objects_written : (fs : Fields) (name : List ℕ) (c : Option Expression) (items : List RecordItem) → is_name name ≡ true → Some_of items → WhereWritten fs c
    → EachWritten RecordItem ItemSyntax SpellsItem (SaysRecordItem fs) (record_words fs) items → Reads (LineSaid fs name c (objects items)) (bare_line fs name c (objects items)) []
objects_written fs name c [] n s w h = absurd s
objects_written fs name c (i ∷ items) n s w h =
    subst (λ x. Reads (LineSaid fs name c (objects (i ∷ items))) (select_text x (name_text name) (where_text (path_text fs) c) []) [])
    (sym (piece_texts RecordItem (record_words fs) (λ (i : RecordItem). in_quotes i.name) (i ∷ items)))
    (read_as (QuerySaid RecordItem (SaysRecordItem fs) fs (i ∷ items) name c []) (LineSaid fs name c (objects (i ∷ items))) (select_text (map (record_words fs) (i ∷ items)) (name_text name) (where_text (path_text fs) c) []) []
    (objects_said fs name c (i ∷ items)) (select_written RecordItem (SaysRecordItem fs) fs (record_words fs) i items name c [] n h w tt))

groups_said : (fs : Fields) (name : List ℕ) (c : Option Expression) (keys : List (List Step)) (items : List GroupItem) (ts : List PlacedToken)
    → QuerySaid GroupItem (SaysGroupItem fs keys) fs items name c keys ts → LineSaid fs name c (groups keys items) ts
groups_said fs name c keys items ts s = (s.0, s.1, s.2, s.3, (s.4, s.5))

groups_written : (fs : Fields) (name : List ℕ) (c : Option Expression) (keys : List (List Step)) (items : List GroupItem) → is_name name ≡ true → Some_of items → WhereWritten fs c → Every (KeyFound fs) keys
    → GroupItemsWritten fs keys items → Reads (LineSaid fs name c (groups keys items)) (bare_line fs name c (groups keys items)) []
groups_written fs name c keys [] n s w k h = absurd s
groups_written fs name c keys (i ∷ items) n s w k h =
    subst (λ x. Reads (LineSaid fs name c (groups keys (i ∷ items))) (select_text x (name_text name) (where_text (path_text fs) c) (map (path_text fs) keys)) [])
    (sym (piece_texts GroupItem (group_words fs keys) (λ (i : GroupItem). i.name) (i ∷ items)))
    (read_as (QuerySaid GroupItem (SaysGroupItem fs keys) fs (i ∷ items) name c keys) (LineSaid fs name c (groups keys (i ∷ items)))
    (select_text (map (group_words fs keys) (i ∷ items)) (name_text name) (where_text (path_text fs) c) (map (path_text fs) keys)) []
    (groups_said fs name c keys (i ∷ items)) (select_written GroupItem (SaysGroupItem fs keys) fs (group_words fs keys) i items name c keys n h w k))

-- ---- there is an item

-- without keys no expression is one
pub no_key : (e : Expression) → key_of [] e ≡ None
no_key (path_value p) = refl
no_key e = refl

-- without keys each item is an aggregate
aggregates_some : (vs : List BoundItem) → Some_of (filter_map (group_item []) vs) → Some_of (aggregates_among (filter_map (group_item []) vs))
aggregates_some [] h = absurd h
aggregates_some (v ∷ vs) h = by_term v.term h (aggregates_some vs)
  where
    by_key : (o : Option ℕ) → o ≡ None → Some_of (cons_option (option_map (λ (t : GroupTerm). record { name = v.name; term = t }) (option_map key o)) (filter_map (group_item []) vs))
        → (Some_of (filter_map (group_item []) vs) → Some_of (aggregates_among (filter_map (group_item []) vs)))
        → Some_of (aggregates_among (cons_option (option_map (λ (t : GroupTerm). record { name = v.name; term = t }) (option_map key o)) (filter_map (group_item []) vs)))
    by_key None e g f = f g
    by_key (Some n) e g f = absurd (cc)

    by_term : (t : BoundTerm) → Some_of (cons_option (option_map (λ (t : GroupTerm). record { name = v.name; term = t }) (group_term [] t)) (filter_map (group_item []) vs))
        → (Some_of (filter_map (group_item []) vs) → Some_of (aggregates_among (filter_map (group_item []) vs)))
        → Some_of (aggregates_among (cons_option (option_map (λ (t : GroupTerm). record { name = v.name; term = t }) (group_term [] t)) (filter_map (group_item []) vs)))
    by_term (plain e) g f = by_key (key_of [] e.expression) (no_key e.expression) g f
    by_term (rows_counted None) g f = tt
    by_term (rows_counted (Some w)) g f = f g
    by_term (aggregated a e None) g f = tt
    by_term (aggregated a e (Some w)) g f = f g

aggregate_items_some : (terms : List GroupTerm) → Some_of terms → Some_of (aggregate_items 0 terms)
aggregate_items_some [] h = absurd h
aggregate_items_some (t ∷ terms) h = tt

leaf_items_some : (bound : List BoundPath) (vs : List BoundItem) → Some_of (filter_map (group_item bound) vs)
    → Some_of (key_items 0 (map (λ (k : BoundPath). k.leaf.path) bound) ++ aggregate_items 0 (aggregates_among (filter_map (group_item bound) vs)))
leaf_items_some [] vs h = aggregate_items_some (aggregates_among (filter_map (group_item []) vs)) (aggregates_some vs h)
leaf_items_some (k ∷ bound) vs h = tt

some_mapped : {A B : Type 0} (f : A → B) (list : List A) → Some_of (map f list) → Some_of list
some_mapped f [] h = absurd h
some_mapped f (a ∷ list) h = tt

some_names : (is : List ItemSyntax) → Some_of is → Some_of (names_from 0 is)
some_names [] h = absurd h
some_names (i ∷ is) h = tt

-- ---- the law

-- the line of a query is read back
abbrev ReadBack : Schema → Query → Type 0
ReadBack s q = (y : QuerySyntax) × SpellsQuery (query_tokens (bare_leaf_text s q)) y × IsReadAs (bare_leaf_text s q) y × SaysQuery s (leaf_query q) y

line_read : (s : Schema) (q : Query) → Reads (LineSaid s.fields s.name q.condition (leaf_selection q.selection)) (bare_line s.fields s.name q.condition (leaf_selection q.selection)) [] → ReadBack s q
unfolding bare_leaf_text leaf_query
line_read s q f =
    let words : List ℕ = bare_line s.fields s.name q.condition (leaf_selection q.selection) in
    let r = read_whole (LineSaid s.fields s.name q.condition (leaf_selection q.selection)) words f in
    (r.0, r.1, spelled_is_accepted words r.0 r.1, (r.2, r.3, r.4))

table_is : (name : List ℕ) (t : NameSyntax) → table_faults name t ≡ [] → t.name ≡ name
table_is name t h = by_test (bytes_eq t.name name) refl h
  where
    by_test : (b : Bool) → bytes_eq t.name name ≡ b → (if b then [] else fault_at t.place unknown_table) ≡ [] → t.name ≡ name
    by_test true e k = (bytes_eq-Decides t.name name).0 e
    by_test false e k = absurd (cc)

table_passes : (s : Schema) (q : QuerySyntax) → faults_of s q ≡ [] → table_faults s.name q.table ≡ []
table_passes s q h = (both_empty _ _ (both_empty _ _ (both_empty _ _ (both_empty _ _ h).0).0).0).0

abbrev all_within_faults : List BoundItem → List BindFault
all_within_faults vs = flat_map (λ (i : BoundItem). within_faults i.term) vs

abbrev faults_of_kind : Bool → List BoundPath → List BoundItem → List BindFault
faults_of_kind b keys vs = all_within_faults vs ++ (if b then [] else flat_map (grouping_faults keys) vs)

abbrev pub selection_of_kind : Bool → List BoundPath → List BoundItem → Selection
selection_of_kind b keys vs = if b then objects (filter_map record_item vs) else groups (map (λ (k : BoundPath). k.leaf.path) keys) (filter_map (group_item keys) vs)

-- the line of what is bound by the parts of a query
parts_written : (fs : Fields) (name : List ℕ) (x : QuerySyntax) (b : Bool) → WritableQuery x → is_name name ≡ true → faults_in (bind_condition fs x.condition) ≡ [] → flat_map faults_in (bind_items fs 0 x.items) ≡ []
    → flat_map faults_in (map (bind_path fs) x.keys) ≡ [] → faults_of_kind b (passing (map (bind_path fs) x.keys)) (passing (bind_items fs 0 x.items)) ≡ []
    → Some_of (selection_names (selection_of_kind b (passing (map (bind_path fs) x.keys)) (passing (bind_items fs 0 x.items))))
    → Reads (LineSaid fs name (condition_of (bind_condition fs x.condition)) (leaf_selection (selection_of_kind b (passing (map (bind_path fs) x.keys)) (passing (bind_items fs 0 x.items)))))
    (bare_line fs name (condition_of (bind_condition fs x.condition)) (leaf_selection (selection_of_kind b (passing (map (bind_path fs) x.keys)) (passing (bind_items fs 0 x.items))))) []
parts_written fs name x true w n fc fi fk g s =
    let vs = passing (bind_items fs 0 x.items) in
    objects_written fs name (condition_of (bind_condition fs x.condition)) (filter_map record_item vs) n (some_mapped (λ (i : RecordItem). i.name) (filter_map record_item vs) s) (condition_written fs x.condition w.condition fc)
    (record_items_written fs 0 x.items w.items fi (both_empty (all_within_faults vs) [] g).0)
parts_written fs name x false w n fc fi fk g s =
    let bound = passing (map (bind_path fs) x.keys) in
    let vs = passing (bind_items fs 0 x.items) in
    let paths : List (List Step) = map (λ (k : BoundPath). k.leaf.path) bound in
    let found = keys_found fs x.keys w.keys fk in
    groups_written fs name (condition_of (bind_condition fs x.condition)) paths (key_items 0 paths ++ aggregate_items 0 (aggregates_among (filter_map (group_item bound) vs))) n
    (leaf_items_some bound vs (some_mapped (λ (i : GroupItem). i.name) (filter_map (group_item bound) vs) s)) (condition_written fs x.condition w.condition fc) found
    (leaf_items_written fs paths (aggregates_among (filter_map (group_item bound) vs)) found (aggregates_written fs paths bound 0 x.items w.items fi))

pub leaf_line_is_read_back : LeafLineIsReadBack
leaf_line_is_read_back s bytes x q h k =
    let w = parsed_writable bytes x h in
    let b = bound_is s x q k in
    let parts = bind_parts s.fields x in
    let n = no_part_faults s x b.0 in
    let f = no_faults_in parts n.0 in
    let table : x.table.name ≡ s.name = table_is s.name x.table (table_passes s x b.0) in
    let named_so : is_name s.name ≡ true = subst (λ y. is_name y ≡ true) table w.table in
    let kept : selection_names (query_of parts).selection ≡ names_from 0 x.items = ap (λ (y : Query). selection_names y.selection) b.1 ∙ items_are_kept s x q k in
    subst (ReadBack s) b.1 (line_read s (query_of parts) (parts_written s.fields s.name x (is_record_syntax x) w named_so f.0 f.1 f.2 n.1 (subst Some_of (sym kept) (some_names x.items w.some_item))))

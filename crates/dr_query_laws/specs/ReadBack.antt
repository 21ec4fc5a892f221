-- The leaf line of a rewriting, read back: without the names of its items, and over the message, it is a query's text, of the leaf query.
use Rattle.std.specs.Prelude.{◌≡◌, ℕ, List, [], ◌∷◌, map, Option, Some, None, option_map, Ok, Err, ◌⊎◌, codes}
use Rattle.std.specs.List.{slice_get}
use Rattle.dr_meaning.specs.Schema.{Schema, Fields}
use Rattle.dr_meaning.specs.Path.{Step}
use Rattle.dr_meaning.specs.Expression.{Expression, path_value}
use Rattle.dr_meaning.specs.Query.{RecordItem, GroupTerm, key, GroupItem, Selection, objects, groups, Query}
use Rattle.dr_meaning.specs.Tokens.{query_tokens}
use Rattle.dr_meaning.specs.Syntax.{PathSyntax, ItemSyntax, ConditionSyntax, QuerySyntax}
use Rattle.dr_meaning.specs.QueryGrammar.{SpellsQuery}
use Rattle.dr_meaning.specs.Parse.{QueryFault, parse_query}
use Rattle.dr_meaning.specs.SyntaxLaws.{IsLimit}
use Rattle.dr_meaning.specs.BoundExpression.{duplicate_name, BindFault, passes, BoundPath, BoundExpression, bind_path}
use Rattle.dr_meaning.specs.Binding.{BoundTerm, plain, bind_condition, bind_term, within_faults, group_term, record_term, bind}
use Rattle.dr_partials.specs.Rewriting.{leaf_query}
use Rattle.dr_partials.specs.RewritingText.{in_quotes, name_text, path_text, record_term_text, group_term_text, named, where_text, select_text, leaf_text}

-- ---- the leaf line without its names

-- an item of the leaf line: its text, and the name behind AS
pub record LeafPiece : Type 0 where
  pub text : List ℕ
  pub name : List ℕ

abbrev pub leaf_pieces : (List Step → List ℕ) → Selection → List LeafPiece
leaf_pieces path (objects items) = map (λ (i : RecordItem). record { text = record_term_text path i.term; name = in_quotes i.name }) items
leaf_pieces path (groups keys items) = map (λ (i : GroupItem). record { text = group_term_text path (map path keys) i.term; name = i.name }) items

abbrev pub key_paths : Selection → List (List Step)
key_paths (objects items) = []
key_paths (groups keys items) = keys

-- a query over a table, as text, where this tells its items
abbrev pub line_text : (LeafPiece → List ℕ) → List ℕ → (List Step → List ℕ) → Query → List ℕ
line_text item table path q = select_text (map item (leaf_pieces path q.selection)) table (where_text path q.condition) (map path (key_paths q.selection))

-- the leaf line of a query without its AS parts, over the message
unfoldable pub bare_leaf_text : Schema → Query → List ℕ
bare_leaf_text s q = line_text (λ (p : LeafPiece). p.text) (name_text s.name) (path_text s.fields) (leaf_query q)

-- with the AS parts, and over `tablet`, it is the leaf line
abbrev pub LeafLineHasNames : Type 0
LeafLineHasNames = (fs : Fields) (q : Query) → leaf_text (path_text fs) q.condition q.selection
    ≡ line_text (λ (p : LeafPiece). named p.text p.name) (codes "tablet") (path_text fs) (leaf_query q)

-- ---- what a syntax tree says, by what its parts are bound to

-- a WHERE part, or none, that is bound to this condition
abbrev pub SaysCondition : Fields → Option Expression → Option ConditionSyntax → Type 0
SaysCondition fs c x = (b : Option BoundExpression) × (bind_condition fs x ≡ passes b) × (option_map (λ (e : BoundExpression). e.expression) b ≡ c)

-- a path that leads to the leaf at these steps
abbrev pub LeadsTo : Fields → List Step → PathSyntax → Type 0
LeadsTo fs p x = (b : BoundPath) × (bind_path fs x ≡ passes b) × (b.leaf.path ≡ p)

-- an item without a name that gives a term of a record query
abbrev pub SaysRecordItem : Fields → RecordItem → ItemSyntax → Type 0
SaysRecordItem fs i x = (b : BoundTerm) × (bind_term fs x.place x.term ≡ passes b) × (within_faults b ≡ []) × (record_term b ≡ Some i.term) × (x.name ≡ None)

-- what is bound gives a term of an aggregate query; a key is its path
abbrev pub GivesGroupTerm : List (List Step) → GroupTerm → BoundTerm → Type 0
GivesGroupTerm keys (key n) b = (e : BoundExpression) × (p : List Step) × (b ≡ plain e) × (e.expression ≡ path_value p) × (slice_get keys n ≡ Some p)
GivesGroupTerm keys t b = group_term [] b ≡ Some t

-- an item without a name that gives a term of an aggregate query
abbrev pub SaysGroupItem : Fields → List (List Step) → GroupItem → ItemSyntax → Type 0
SaysGroupItem fs keys i x = (b : BoundTerm) × (bind_term fs x.place x.term ≡ passes b) × GivesGroupTerm keys i.term b × (x.name ≡ None)

-- as many of one list as of the other, each beside its own
abbrev pub OneByOne : {A B : Type 0} → (A → B → Type 0) → List A → List B → Type 0
OneByOne R [] [] = Unit {0}
OneByOne R (a ∷ xs) (b ∷ ys) = R a b × OneByOne R xs ys
OneByOne R xs ys = ⊥

abbrev pub SaysSelection : Fields → Selection → QuerySyntax → Type 0
SaysSelection fs (objects items) x = OneByOne (SaysRecordItem fs) items x.items × (x.keys ≡ [])
SaysSelection fs (groups keys items) x = OneByOne (SaysGroupItem fs keys) items x.items × OneByOne (LeadsTo fs) keys x.keys

-- the tree names the message, and says the query's condition, items and keys
abbrev pub SaysQuery : Schema → Query → QuerySyntax → Type 0
SaysQuery s q x = (x.table.name ≡ s.name) × SaysCondition s.fields q.condition x.condition × SaysSelection s.fields q.selection x

-- ---- the law

-- the text is accepted with this tree, or refused for a limit
abbrev pub IsReadAs : List ℕ → QuerySyntax → Type 0
IsReadAs bytes x = (parse_query bytes ≡ Ok x) ⊎ ((f : QueryFault) × (parse_query bytes ≡ Err f) × IsLimit f.problem)

-- the bare leaf line of a query that was parsed and bound spells a tree that says the leaf query, and is read as it; binding alone isn't
-- enough, since it takes trees with numbers that no text gives
abbrev pub LeafLineIsReadBack : Type 0
LeafLineIsReadBack = (s : Schema) (bytes : List ℕ) (x : QuerySyntax) (q : Query) → parse_query bytes ≡ Ok x → bind s x ≡ Ok q
    → (y : QuerySyntax) × SpellsQuery (query_tokens (bare_leaf_text s q)) y × IsReadAs (bare_leaf_text s q) y × SaysQuery s (leaf_query q) y

-- the schema refuses the tree for two items of one name, or not at all
abbrev pub BindsButForNames : Schema → QuerySyntax → Type 0
BindsButForNames s x = (f : BindFault) → bind s x ≡ Err f → f.problem ≡ duplicate_name

-- a tree that says the leaf query of a bound query binds, unless two of its items have one name, now that they lack their AS parts
abbrev pub LeafTreeBinds : Type 0
LeafTreeBinds = (s : Schema) (x y : QuerySyntax) (q : Query) → bind s x ≡ Ok q → SaysQuery s (leaf_query q) y → BindsButForNames s y

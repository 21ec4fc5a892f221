-- The grammar of queries over the results of others, with order and limit, as relations between tokens and syntax
-- trees.
use Rattle.std.specs.Prelude.{◌≡◌, ℕ, List, [], ◌∷◌, ◌++◌, Bool, true, false, Option, Some, None, Ok, Err, ◌⊎◌}
use Rattle.dr_meaning.specs.Tokens.{select_word, from_word, by_word, order_word, limit_word, asc_word, desc_word, open_parenthesis, close_parenthesis, number, PlacedToken, placed, query_tokens}
use Rattle.dr_meaning.specs.Syntax.{PathSyntax, ItemSyntax, ConditionSyntax}
use Rattle.dr_meaning.specs.Parse.{QueryFault, syntax}
use Rattle.dr_meaning.specs.SyntaxLaws.{IsLimit}
use Rattle.dr_meaning.specs.QueryGrammar.{word_at, sign_at, name_at, SpellsPath, SpellsItem, Separated, SpellsWhere, SpellsGroup, SpellsEnd}
use Rattle.dr_sub_meaning.specs.ResultRecords.{result_message}
use Rattle.dr_sub_meaning.specs.NestedParse.{OrderSyntax, NestedSyntax, FromSyntax, over_from, parse_nested}

-- [ASC|DESC]
pub data SpellsDirection : List PlacedToken → Bool → Type 0 where
  no_direction : SpellsDirection [] false
  ascending_word : (i : ℕ) → SpellsDirection (word_at i asc_word ∷ []) false
  descending_word : (i : ℕ) → SpellsDirection (word_at i desc_word ∷ []) true

-- [ORDER BY path [ASC|DESC]]
pub data SpellsOrder : List PlacedToken → Option OrderSyntax → Type 0 where
  no_order : SpellsOrder [] None
  order_by : (i j : ℕ) (ts us : List PlacedToken) (p : PathSyntax) (d : Bool) → SpellsPath ts p → SpellsDirection us d
      → SpellsOrder (word_at i order_word ∷ word_at j by_word ∷ (ts ++ us)) (Some (record { path = p; descending = d }))

-- [LIMIT number]
pub data SpellsLimit : List PlacedToken → Option ℕ → Type 0 where
  no_limit : SpellsLimit [] None
  a_limit : (i j n : ℕ) → SpellsLimit (word_at i limit_word ∷ placed j (number n) ∷ []) (Some n)

mutual
  -- name | "(" query ")"
  pub data SpellsFrom : List PlacedToken → FromSyntax → Type 0 where
    from_name : (i : ℕ) (n : List ℕ) → SpellsFrom (name_at i n ∷ []) (record { table = record { place = i; name = n }; inner = None })
    from_query : (i j : ℕ) (ts : List PlacedToken) (q : NestedSyntax) → SpellsSelect ts q
        → SpellsFrom (sign_at i open_parenthesis ∷ (ts ++ sign_at j close_parenthesis ∷ [])) (record { table = record { place = i; name = result_message }; inner = Some q })

  -- query = SELECT item {"," item} FROM ( name | "(" query ")" ) [WHERE expr] [GROUP BY path {"," path}] [ORDER BY path
  -- [ASC|DESC]] [LIMIT number]
  pub data SpellsSelect : List PlacedToken → NestedSyntax → Type 0 where
    a_select : (i j : ℕ) (ts us vs ws os ls : List PlacedToken) (xs : List ItemSyntax) (f : FromSyntax) (c : Option ConditionSyntax) (ks : List PathSyntax) (o : Option OrderSyntax) (l : Option ℕ)
        → Separated ItemSyntax SpellsItem ts xs → SpellsFrom us f → SpellsWhere vs c → SpellsGroup ws ks → SpellsOrder os o → SpellsLimit ls l
        → SpellsSelect (word_at i select_word ∷ (ts ++ word_at j from_word ∷ (us ++ (vs ++ (ws ++ (os ++ ls))))))
        (over_from (record { place = i; query = record { items = xs; table = f.table; condition = c; keys = ks }; order = o; limit = l }) f.inner)

-- query [";"]
pub data SpellsNested : List PlacedToken → NestedSyntax → Type 0 where
  a_nested : (ts us : List PlacedToken) (q : NestedSyntax) → SpellsSelect ts q → SpellsEnd us → SpellsNested (ts ++ us) q

-- ---- laws

-- the tokens of an accepted text spell its syntax tree
abbrev pub NestedAcceptedIsSpelled : Type 0
NestedAcceptedIsSpelled = (bytes : List ℕ) (q : NestedSyntax) → parse_nested bytes ≡ Ok q → SpellsNested (query_tokens bytes) q

-- and no other tree
abbrev pub NestedOneTree : Type 0
NestedOneTree = (bytes : List ℕ) (q r : NestedSyntax) → parse_nested bytes ≡ Ok q → SpellsNested (query_tokens bytes) r → r ≡ q

-- a text whose tokens spell a tree is accepted with it, or refused for a limit
abbrev pub NestedSpelledIsAccepted : Type 0
NestedSpelledIsAccepted = (bytes : List ℕ) (q : NestedSyntax) → SpellsNested (query_tokens bytes) q
    → (parse_nested bytes ≡ Ok q) ⊎ ((f : QueryFault) × (parse_nested bytes ≡ Err f) × IsLimit f.problem)

-- the tokens begin a query
abbrev pub BeginsNested : List PlacedToken → Type 0
BeginsNested ts = (us : List PlacedToken) × (q : NestedSyntax) × SpellsNested (ts ++ us) q

-- a text with a fault of syntax is spelled by no tree
abbrev pub NestedFaultIsNoQuery : Type 0
NestedFaultIsNoQuery = (bytes : List ℕ) (i : ℕ) (q : NestedSyntax) → parse_nested bytes ≡ Err (record { place = i; problem = syntax }) → SpellsNested (query_tokens bytes) q → ⊥

-- no query's tokens begin with those before a token that is a fault of syntax and with it
abbrev pub NestedFaultIsDeadEnd : Type 0
NestedFaultIsDeadEnd = (bytes : List ℕ) (before rest : List PlacedToken) (t : PlacedToken) → query_tokens bytes ≡ before ++ t ∷ rest
    → parse_nested bytes ≡ Err (record { place = t.place; problem = syntax }) → BeginsNested (before ++ t ∷ []) → ⊥

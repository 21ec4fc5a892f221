-- Items of SELECT as they are written in the leaf line, and what they are read as.
use Rattle.std.proofs.Common.{◌≡◌, ℕ, List, [], ◌∷◌, ◌++◌, map, Bool, true, false, ◌&&◌, Option, Some, None, refl, sym, ap, ap₂, ◌∙◌, subst, append_assoc}
use Rattle.std.specs.Prelude.{if◌then◌else◌, codes}
use Rattle.dr_meaning.specs.Schema.{Fields, group}
use Rattle.dr_meaning.specs.Path.{Step, Found, find_path, begins_with}
use Rattle.dr_meaning.specs.Expression.{Expression, expression_chain}
use Rattle.dr_meaning.specs.Query.{Aggregate, count, sum, least, greatest, RecordTerm, within}
use Rattle.dr_meaning.specs.Tokens.{Word, count_word, sum_word, min_word, max_word, within_word, record_word, comma, open_parenthesis, close_parenthesis, star, reserved, sign, PlacedToken}
use Rattle.dr_meaning.specs.Syntax.{PathSyntax, ExpressionSyntax, NodeSyntax, whole_record, node, WithinSyntax, TermSyntax, expression, count_rows, aggregate}
use Rattle.dr_meaning.specs.QueryGrammar.{sign_at, word_at, SpellsPrimary, a_number, a_text, a_true, a_false, a_path, in_parentheses as between_parentheses, SpellsWithin, no_within, within_the_record, within_a_path, IsAggregate, is_count, is_sum, is_least, is_greatest, SpellsTerm, counted_rows, aggregated as aggregate_spelled, an_expression, Separated, alone, and_one}
use Rattle.dr_meaning.specs.BoundExpression.{fault_at, bad_within, type_mismatch, Checked, passes, fails, checked_map, then_check, together, ValueType, number_type, same_type, BoundPath, BoundExpression, of_type}
use Rattle.dr_meaning.specs.Binding.{BoundWithin, is_repeated_group, found_node, bind_node, bind_within, BoundTerm, plain, rows_counted, aggregated, argument_of, bind_term, holds_rows, within_faults, record_term}
use Rattle.dr_partials.specs.RewritingText.{path_names, path_text, in_parentheses, aggregate_word, aggregate_text, node_text, record_term_text, commas}
use Rattle.dr_query_laws.specs.ReadBack.{OneByOne}
use Rattle.dr_query_laws.proofs.Lexing.{Reads, Both, both, One, one, read_both, read_as, read_token, read_before_blank, read_word, read_word_between}
use Rattle.dr_query_laws.proofs.WrittenNames.{path_has_names}
use Rattle.dr_query_laws.proofs.Writable.{WritableNames, WritableNode, Every}
use Rattle.dr_query_laws.proofs.WrittenExpressions.{Ends, Said, text_in, Written, BoundWritten, expression_of, Begun, names_begin, PathOf, path_written}

pub primary_begins : (ts : List PlacedToken) (x : ExpressionSyntax) → SpellsPrimary ts x → Begun ts
primary_begins _ _ (a_number i n) = (_, _, refl)
primary_begins _ _ (a_text i t) = (_, _, refl)
primary_begins _ _ (a_true i) = (_, _, refl)
primary_begins _ _ (a_false i) = (_, _, refl)
primary_begins _ _ (a_path ts p s) = names_begin ts p.names s.1
primary_begins _ _ (between_parentheses i j ts e s) = (_, _, refl)

-- ---- WITHIN

-- a WITHIN that is bound to this node
abbrev pub WithinSaid : Fields → BoundWithin → List PlacedToken → Type 0
WithinSaid fs v ts = (w : Option WithinSyntax) × SpellsWithin ts w × ((u : BoundWithin) × (bind_within fs w ≡ passes (Some u)) × (u.node ≡ v.node) × (u.is_whole ≡ v.is_whole))

abbrev pub WithinWritten : Fields → BoundWithin → Type 0
WithinWritten fs v = (rest : List ℕ) → Ends rest → Reads (WithinSaid fs v) (codes " WITHIN " ++ node_text (path_text fs) v.node) rest

same_node : (u v : BoundWithin) → ◌≡◌ {A = Checked (Option BoundWithin)} (passes (Some u)) (passes (Some v)) → u ≡ v
same_node u v h = cc

record_said : (fs : Fields) (i : ℕ) (ts : List PlacedToken) → Both (One (reserved within_word)) (One (reserved record_word)) ts → WithinSaid fs (record { place = i; node = []; is_whole = true }) ts
record_said fs i _ (both _ _ (one j) (one k)) = (Some (record { place = j; node = whole_record }), within_the_record j k, (record { place = j; node = []; is_whole = true }, refl, refl, refl))

record_written : (fs : Fields) (i : ℕ) → WithinWritten fs (record { place = i; node = []; is_whole = true })
record_written fs i rest k =
    read_as (Both (One (reserved within_word)) (One (reserved record_word))) (WithinSaid fs (record { place = i; node = []; is_whole = true })) (codes " WITHIN " ++ codes "RECORD") rest (record_said fs i)
    (read_both (One (reserved within_word)) (One (reserved record_word)) (codes " WITHIN ") (codes "RECORD") rest (read_word_between within_word (codes "WITHIN") _ refl refl) (read_word record_word (codes "RECORD") rest refl refl k.word))

-- a path of names isn't empty, and so it stands behind WITHIN
node_is_path : (fs : Fields) (ns : List (List ℕ)) (p : List Step) → WritableNames ns → path_names p (group fs) ≡ ns → node_text (path_text fs) p ≡ path_text fs p
node_is_path fs [] p w h = absurd w
node_is_path fs (n ∷ ns) [] w h = absurd (cc)
node_is_path fs (n ∷ ns) (t ∷ p) w h = refl

abbrev node_found : ℕ → Found → BoundWithin
node_found i f = record { place = i; node = f.path; is_whole = is_repeated_group f }

node_said : (fs : Fields) (i : ℕ) (ns : List (List ℕ)) (f : Found) → find_path ns fs ≡ Some f → (ts : List PlacedToken) → Both (One (reserved within_word)) (PathOf ns) ts → WithinSaid fs (node_found i f) ts
node_said fs i ns f h _ (both _ ts (one j) k) =
    (Some (record { place = j; node = node k.0 }), within_a_path j ts k.0 k.1, (node_found j f, ap (λ ms. found_node j k.0.place (find_path ms fs)) k.2 ∙ ap (found_node j k.0.place) h, refl, refl))

node_written : (fs : Fields) (i : ℕ) (ns : List (List ℕ)) (f : Found) → WritableNames ns → find_path ns fs ≡ Some f → WithinWritten fs (node_found i f)
node_written fs i ns f w h rest k =
    subst (λ x. Reads (WithinSaid fs (node_found i f)) (codes " WITHIN " ++ x) rest) (sym (node_is_path fs ns f.path w (path_has_names ns (group fs) f h)))
    (read_as (Both (One (reserved within_word)) (PathOf ns)) (WithinSaid fs (node_found i f)) (codes " WITHIN " ++ path_text fs f.path) rest (node_said fs i ns f h)
    (read_both (One (reserved within_word)) (PathOf ns) (codes " WITHIN ") (path_text fs f.path) rest (read_word_between within_word (codes "WITHIN") _ refl refl) (path_written fs ns f w h rest k)))

pub within_written : (fs : Fields) (w : WithinSyntax) → WritableNode w.node → (v : BoundWithin) → bind_within fs (Some w) ≡ passes (Some v) → WithinWritten fs v
within_written fs w k v h = by_node w.node k h
  where
    by_found : (p : PathSyntax) (o : Option Found) → WritableNames p.names → find_path p.names fs ≡ o → found_node w.place p.place o ≡ passes (Some v) → WithinWritten fs v
    by_found p None g e q = absurd (cc)
    by_found p (Some f) g e q = subst (WithinWritten fs) (same_node (node_found w.place f) v q) (node_written fs w.place p.names f g e)

    by_node : (n : NodeSyntax) → WritableNode n → bind_node fs w.place n ≡ passes (Some v) → WithinWritten fs v
    by_node whole_record g e = subst (WithinWritten fs) (same_node (record { place = w.place; node = []; is_whole = true }) v e) (record_written fs w.place)
    by_node (node p) g e = by_found p (find_path p.names fs) g refl e

-- ---- aggregates

abbrev aggregate_token : Aggregate → Word
aggregate_token count = count_word
aggregate_token sum = sum_word
aggregate_token least = min_word
aggregate_token greatest = max_word

is_aggregate_token : (a : Aggregate) → IsAggregate (aggregate_token a) a
is_aggregate_token count = is_count
is_aggregate_token sum = is_sum
is_aggregate_token least = is_least
is_aggregate_token greatest = is_greatest

read_aggregate_word : (a : Aggregate) (rest : List ℕ) → Reads (One (reserved (aggregate_token a))) (aggregate_word a) (40 ∷ rest)
read_aggregate_word count rest = read_word count_word (codes "COUNT") (40 ∷ rest) refl refl refl
read_aggregate_word sum rest = read_word sum_word (codes "SUM") (40 ∷ rest) refl refl refl
read_aggregate_word least rest = read_word min_word (codes "MIN") (40 ∷ rest) refl refl refl
read_aggregate_word greatest rest = read_word max_word (codes "MAX") (40 ∷ rest) refl refl refl

-- the tokens of an aggregate of an expression
abbrev AggregateSaid : Fields → Aggregate → BoundExpression → List PlacedToken → Type 0
AggregateSaid fs a e = Both (One (reserved (aggregate_token a))) (Both (One (sign open_parenthesis)) (Both (Said fs e.expression e.gives) (One (sign close_parenthesis))))

aggregate_written : (fs : Fields) (a : Aggregate) (e : BoundExpression) → BoundWritten fs e → (rest : List ℕ) → Reads (AggregateSaid fs a e) (aggregate_text (path_text fs) a e.expression) rest
aggregate_written fs a e f rest =
    let open_mark = One (sign open_parenthesis) in
    let close_mark = One (sign close_parenthesis) in
    let said = Said fs e.expression e.gives in
    let words = text_in fs e.expression in
    read_both (One (reserved (aggregate_token a))) (Both open_mark (Both said close_mark)) (aggregate_word a) (in_parentheses words) rest (read_aggregate_word a ((words ++ 41 ∷ []) ++ rest))
    (read_both open_mark (Both said close_mark) (40 ∷ []) (words ++ 41 ∷ []) rest (read_token (sign open_parenthesis) (40 ∷ []) ((words ++ 41 ∷ []) ++ rest) refl)
    (read_both said close_mark words (41 ∷ []) rest (f (41 ∷ rest) (record { word = refl; number = refl; text = refl })) (read_token (sign close_parenthesis) (41 ∷ []) rest refl)))

-- ---- terms

-- a term that is bound, at whatever place, to what is so
abbrev pub TermSaid : Fields → (BoundTerm → Type 0) → List PlacedToken → Type 0
TermSaid fs P ts = (y : TermSyntax) × SpellsTerm ts y × Begun ts × ((j : ℕ) → (c : BoundTerm) × (bind_term fs j y ≡ passes c) × P c)

abbrev pub IsRecordTerm : RecordTerm → BoundTerm → Type 0
IsRecordTerm r c = (within_faults c ≡ []) × (record_term c ≡ Some r)

-- an expression
expression_said : (fs : Fields) (P : BoundTerm → Type 0) (e : Expression) (t : ValueType) → ((ps : List BoundPath) → P (plain (record { expression = e; gives = t; paths = ps })))
    → (ts : List PlacedToken) → Said fs e t ts → TermSaid fs P ts
expression_said fs P e t p ts s = (
  expression s.0,
  an_expression ts s.0 (expression_of ts s.0 s.1),
  primary_begins ts s.0 s.1,
  λ j. (plain (record { expression = e; gives = t; paths = s.2.0 }), ap (checked_map plain) s.2.1, p s.2.0),
)

pub expression_term_written : (fs : Fields) (P : BoundTerm → Type 0) (e : Expression) (t : ValueType) → ((ps : List BoundPath) → P (plain (record { expression = e; gives = t; paths = ps }))) → Written fs e t
    → (rest : List ℕ) → Ends rest → Reads (TermSaid fs P) (text_in fs e) rest
expression_term_written fs P e t p f rest k = read_as (Said fs e t) (TermSaid fs P) (text_in fs e) rest (expression_said fs P e t p) (f rest k)

-- COUNT(*)
rows_said : (fs : Fields) (P : BoundTerm → Type 0) → P (rows_counted None) → (ts : List PlacedToken)
    → Both (One (reserved count_word)) (Both (One (sign open_parenthesis)) (Both (One (sign star)) (One (sign close_parenthesis)))) ts → TermSaid fs P ts
rows_said fs P p _ (both _ _ (one h) (both _ _ (one i) (both _ _ (one j) (one k)))) =
    (count_rows None, counted_rows h i j k [] None no_within, (_, _, refl), λ l. (rows_counted None, refl, p))

pub rows_written : (fs : Fields) (P : BoundTerm → Type 0) → P (rows_counted None) → (rest : List ℕ) → Ends rest → Reads (TermSaid fs P) (codes "COUNT(*)") rest
rows_written fs P p rest k =
    let open_mark = One (sign open_parenthesis) in
    let close_mark = One (sign close_parenthesis) in
    let star_mark = One (sign star) in
    read_as (Both (One (reserved count_word)) (Both open_mark (Both star_mark close_mark))) (TermSaid fs P) (codes "COUNT(*)") rest (rows_said fs P p)
    (read_both (One (reserved count_word)) (Both open_mark (Both star_mark close_mark)) (codes "COUNT") (codes "(*)") rest (read_word count_word (codes "COUNT") (codes "(*)" ++ rest) refl refl refl)
    (read_both open_mark (Both star_mark close_mark) (codes "(") (codes "*)") rest (read_token (sign open_parenthesis) (codes "(") (codes "*)" ++ rest) refl)
    (read_both star_mark close_mark (codes "*") (codes ")") rest (read_token (sign star) (codes "*") (codes ")" ++ rest) refl) (read_token (sign close_parenthesis) (codes ")") rest refl))))

-- an argument of the same type passes again
type_again : (t : ValueType) (i j : ℕ) (x y z : BoundExpression) → of_type t i x ≡ passes y → z.gives ≡ x.gives → of_type t j z ≡ passes z
type_again t i j x y z h e = ap (λ g. if same_type g t then passes z else fails (record { place = j; problem = type_mismatch }) []) e ∙ by_test (same_type x.gives t) h
  where
    by_test : (b : Bool) → (if b then passes x else fails (record { place = i; problem = type_mismatch }) []) ≡ passes y → (if b then passes z else fails (record { place = j; problem = type_mismatch }) []) ≡ passes z
    by_test true k = refl
    by_test false k = absurd (cc)

argument_again : (a : Aggregate) (i j : ℕ) (x y z : BoundExpression) → argument_of a i x ≡ passes y → z.gives ≡ x.gives → argument_of a j z ≡ passes z
argument_again count i j x y z h e = refl
argument_again sum i j x y z h e = type_again number_type i j x y z h e
argument_again least i j x y z h e = refl
argument_again greatest i j x y z h e = refl

-- an aggregate without WITHIN
lone_said : (fs : Fields) (a : Aggregate) (i : ℕ) (e y : BoundExpression) (P : BoundTerm → Type 0) → argument_of a i e ≡ passes y → ((ps : List BoundPath) → P (aggregated a (record e { paths = ps }) None))
    → (ts : List PlacedToken) → AggregateSaid fs a e ts → TermSaid fs P ts
lone_said fs a i e y P h p _ (both _ _ (one k) (both _ _ (one l) (both ts _ s (one m)))) = (
  aggregate a s.0 None,
  aggregate_spelled k l m (aggregate_token a) a ts [] s.0 None (is_aggregate_token a) (expression_of ts s.0 s.1) no_within,
  (_, _, refl),
  λ j. (
    aggregated a (record e { paths = s.2.0 }) None,
    ap (λ c. together (aggregated a) (then_check (argument_of a j) c) (passes None)) s.2.1 ∙ ap (λ c. together (aggregated a) c (passes None)) (argument_again a i j e y (record e { paths = s.2.0 }) h refl),
    p s.2.0,
  ),
)

pub lone_written : (fs : Fields) (a : Aggregate) (i : ℕ) (e y : BoundExpression) (P : BoundTerm → Type 0) → argument_of a i e ≡ passes y → ((ps : List BoundPath) → P (aggregated a (record e { paths = ps }) None)) → BoundWritten fs e
    → (rest : List ℕ) → Ends rest → Reads (TermSaid fs P) (aggregate_text (path_text fs) a e.expression) rest
lone_written fs a i e y P h p f rest k = read_as (AggregateSaid fs a e) (TermSaid fs P) (aggregate_text (path_text fs) a e.expression) rest (lone_said fs a i e y P h p) (aggregate_written fs a e f rest)

-- an aggregate WITHIN a node, which holds its rows again
held_again : (e d : BoundExpression) (u v : BoundWithin) (a : Aggregate) → within_faults (aggregated a e (Some v)) ≡ [] → d.expression ≡ e.expression → u.node ≡ v.node → u.is_whole ≡ v.is_whole → within_faults (aggregated a d (Some u)) ≡ []
held_again e d u v a h x n w = by_test (holds_rows e.expression v) (ap₂ (λ b c. b && c) w (ap₂ begins_with n (ap expression_chain x))) h
  where
    by_test : (b : Bool) → holds_rows d.expression u ≡ b → (if b then [] else fault_at v.place bad_within) ≡ [] → (if holds_rows d.expression u then [] else fault_at u.place bad_within) ≡ []
    by_test true q k = ap (λ b. if b then [] else fault_at u.place bad_within) q
    by_test false q k = absurd (cc)

within_said : (fs : Fields) (a : Aggregate) (i : ℕ) (e y : BoundExpression) (v : BoundWithin) → argument_of a i e ≡ passes y → within_faults (aggregated a e (Some v)) ≡ []
    → (ts : List PlacedToken) → Both (AggregateSaid fs a e) (WithinSaid fs v) ts → TermSaid fs (IsRecordTerm (within a e.expression v.node)) ts
within_said fs a i e y v h z _ (both _ us (both _ _ (one k) (both _ _ (one l) (both ts _ s (one m)))) w) =
    let u = w.2.0 in
    let d : BoundExpression = record e { paths = s.2.0 } in (
      aggregate a s.0 w.0,
      subst (λ x. SpellsTerm (word_at k (aggregate_token a) ∷ sign_at l open_parenthesis ∷ x) (aggregate a s.0 w.0)) (sym (append_assoc ts (sign_at m close_parenthesis ∷ []) us))
          (aggregate_spelled k l m (aggregate_token a) a ts us s.0 w.0 (is_aggregate_token a) (expression_of ts s.0 s.1) w.1),
      (_, _, refl),
      λ j. (
        aggregated a d (Some u),
        ap₂ (λ c o. together (aggregated a) (then_check (argument_of a j) c) o) s.2.1 w.2.1 ∙ ap (λ c. together (aggregated a) c (passes (Some u))) (argument_again a i j e y d h refl),
        (held_again e d u v a z refl w.2.2 w.2.3, ap (λ n. Some (within a e.expression n)) w.2.2),
      ),
    )

pub within_term_written : (fs : Fields) (a : Aggregate) (i : ℕ) (e y : BoundExpression) (v : BoundWithin) → argument_of a i e ≡ passes y → within_faults (aggregated a e (Some v)) ≡ [] → BoundWritten fs e → WithinWritten fs v
    → (rest : List ℕ) → Ends rest → Reads (TermSaid fs (IsRecordTerm (within a e.expression v.node))) (record_term_text (path_text fs) (within a e.expression v.node)) rest
within_term_written fs a i e y v h z f g rest k =
    read_as (Both (AggregateSaid fs a e) (WithinSaid fs v)) (TermSaid fs (IsRecordTerm (within a e.expression v.node))) (record_term_text (path_text fs) (within a e.expression v.node)) rest (within_said fs a i e y v h z)
    (read_both (AggregateSaid fs a e) (WithinSaid fs v) (aggregate_text (path_text fs) a e.expression) (codes " WITHIN " ++ node_text (path_text fs) v.node) rest (aggregate_written fs a e f _) (g rest k))

-- ---- one behind another, with commas between

separated_before : (X : Type 0) (Spells : List PlacedToken → X → Type 0) (i : ℕ) (us ts : List PlacedToken) (x : X) (xs : List X) → Spells us x → Separated X Spells ts xs → Separated X Spells (us ++ sign_at i comma ∷ ts) (x ∷ xs)
separated_before X Spells i us _ x _ h (alone ts y s) = and_one i us ts (x ∷ []) y (alone us x h) s
separated_before X Spells i us _ x _ h (and_one j ts vs ys y s r) =
    subst (λ k. Separated X Spells k (x ∷ (ys ++ y ∷ []))) (append_assoc us (sign_at i comma ∷ ts) (sign_at j comma ∷ vs))
    (and_one j (us ++ sign_at i comma ∷ ts) vs (x ∷ ys) y (separated_before X Spells i us ts x ys h s) r)

-- tokens that spell something that says a
abbrev pub Spelled : (A X : Type 0) (Spells : List PlacedToken → X → Type 0) (Says : A → X → Type 0) → A → List PlacedToken → Type 0
Spelled A X Spells Says a ts = (x : X) × Spells ts x × Says a x

abbrev pub AllSpelled : (A X : Type 0) (Spells : List PlacedToken → X → Type 0) (Says : A → X → Type 0) → List A → List PlacedToken → Type 0
AllSpelled A X Spells Says rest ts = (xs : List X) × Separated X Spells ts xs × OneByOne Says rest xs

-- each of these, as its text, is read so
abbrev pub EachWritten : (A X : Type 0) (Spells : List PlacedToken → X → Type 0) (Says : A → X → Type 0) → (A → List ℕ) → List A → Type 0
EachWritten A X Spells Says words list = Every (λ a. (rest : List ℕ) → Ends rest → Reads (Spelled A X Spells Says a) (words a) rest) list

alone_said : (A X : Type 0) (Spells : List PlacedToken → X → Type 0) (Says : A → X → Type 0) (a : A) (ts : List PlacedToken) → Spelled A X Spells Says a ts → AllSpelled A X Spells Says (a ∷ []) ts
alone_said A X Spells Says a ts s = (s.0 ∷ [], alone ts s.0 s.1, (s.2, tt))

comma_said : (A X : Type 0) (Spells : List PlacedToken → X → Type 0) (Says : A → X → Type 0) (a : A) (list : List A) (ts : List PlacedToken)
    → Both (Spelled A X Spells Says a) (Both (One (sign comma)) (AllSpelled A X Spells Says list)) ts → AllSpelled A X Spells Says (a ∷ list) ts
comma_said A X Spells Says a list _ (both us _ s (both _ ts (one i) r)) = (s.0 ∷ r.0, separated_before X Spells i us ts s.0 r.0 s.1 r.1, (s.2, r.2))

pub commas_written : (A X : Type 0) (Spells : List PlacedToken → X → Type 0) (Says : A → X → Type 0) (words : A → List ℕ) (a : A) (list : List A) → EachWritten A X Spells Says words (a ∷ list)
    → (rest : List ℕ) → Ends rest → Reads (AllSpelled A X Spells Says (a ∷ list)) (commas (map words (a ∷ list))) rest
commas_written A X Spells Says words a [] h rest k = read_as (Spelled A X Spells Says a) (AllSpelled A X Spells Says (a ∷ [])) (words a) rest (alone_said A X Spells Says a) (h.0 rest k)
commas_written A X Spells Says words a (b ∷ list) h rest k =
    let first = Spelled A X Spells Says a in
    let others = AllSpelled A X Spells Says (b ∷ list) in
    let behind : List ℕ = commas (map words (b ∷ list)) in
    read_as (Both first (Both (One (sign comma)) others)) (AllSpelled A X Spells Says (a ∷ b ∷ list)) (words a ++ (codes ", " ++ behind)) rest (comma_said A X Spells Says a (b ∷ list))
    (read_both first (Both (One (sign comma)) others) (words a) (codes ", " ++ behind) rest (h.0 ((codes ", " ++ behind) ++ rest) (record { word = refl; number = refl; text = refl }))
    (read_both (One (sign comma)) others (codes ", ") behind rest (read_before_blank (One (sign comma)) (codes ",") (behind ++ rest) (read_token (sign comma) (codes ",") (32 ∷ (behind ++ rest)) refl))
    (commas_written A X Spells Says words b list h.1 rest k)))

-- The rules of binding on small trees: a path that isn't nested with an earlier one, nodes that hold rows and that don't, keys, names of lists.
use Rattle.std.proofs.Common.{◌≡◌, inl, inr, ℕ, zero, suc, ◌<◌, List, [], ◌∷◌, true, Option, Some, None, refl, sym, ap, ◌∙◌, subst, arith, true≢false}
use Rattle.std.specs.Prelude.{codes}
use Rattle.std.specs.List.{slice_get}
use Rattle.dr_meaning.specs.Schema.{optional, repeated, Kind, int64_kind, Fields, no_fields, field, leaf, group}
use Rattle.dr_meaning.specs.Path.{Found, find_path, same_path}
use Rattle.dr_meaning.specs.Query.{count}
use Rattle.dr_meaning.specs.Syntax.{PathSyntax, number_literal, path, NodeSyntax, whole_record, node, WithinSyntax, expression, count_rows, aggregate, ItemSyntax, QuerySyntax}
use Rattle.dr_meaning.specs.BoundExpression.{BindProblem, unknown_table, unknown_field, not_a_leaf, type_mismatch, unrelated, bad_within, not_grouped, duplicate_name}
use Rattle.dr_query_laws.specs.BindingRules.{IsPathProblem}
use Rattle.dr_query_laws.specs.QueryRules.{steps_of, AreNested, IsStranger, IsFirstStranger, HoldsRows, HasBadWithin, IsOverGroup, IsAggregateQuery, IsKey, IsNotGrouped, IsDuplicate}

-- optional group g { repeated int64 b; } repeated group h { repeated int64 c; } repeated int64 a;
abbrev pairs : Fields
pairs = field (codes "g") optional (group (field (codes "b") repeated (leaf int64_kind) no_fields))
    (field (codes "h") repeated (group (field (codes "c") repeated (leaf int64_kind) no_fields)) (field (codes "a") repeated (leaf int64_kind) no_fields))

abbrev g_b : ℕ → PathSyntax
g_b i = record { place = i; names = codes "g" ∷ codes "b" ∷ [] }

abbrev h_c : ℕ → PathSyntax
h_c i = record { place = i; names = codes "h" ∷ codes "c" ∷ [] }

abbrev one_name : ℕ → List ℕ → PathSyntax
one_name i n = record { place = i; names = n ∷ [] }

-- ---- unrelated paths

not_nested : (i j : ℕ) → AreNested (steps_of pairs (h_c i)) (steps_of pairs (g_b j)) → ⊥
not_nested i j (inl h) = true≢false (sym h)
not_nested i j (inr h) = true≢false (sym h)

-- of g.b at 7, h.c at 13 and g.b at 19 the one at 13 is the first that isn't nested with an earlier one
pub first_stranger : IsFirstStranger pairs (g_b 7 ∷ h_c 13 ∷ g_b 19 ∷ []) 13
first_stranger = (1, h_c 13, refl, refl, (h_c 13, refl, (0, g_b 7, refl, omega arith, not_nested 13 7)), none)
  where
    none : (m : ℕ) → m < 1 → IsStranger pairs (g_b 7 ∷ h_c 13 ∷ g_b 19 ∷ []) m → ⊥
    none m l s = let k = s.2.3 in absurd (omega (arith, l, k))

-- h.c is nested with h.c, and what isn't repeated with anything
pub nested : AreNested (steps_of pairs (h_c 7)) (steps_of pairs (h_c 13))
nested = inl refl

-- ---- nodes of WITHIN

abbrev within_node : NodeSyntax → WithinSyntax
within_node n = record { place = 18; node = n }

abbrev node_h : NodeSyntax
node_h = node (one_name 25 (codes "h"))

-- COUNT(h.c) WITHIN h: the group h is repeated, and the chain of h.c begins with it
pub holds : HoldsRows pairs node_h (path (h_c 13))
holds = ((record { path = steps_of pairs (one_name 25 (codes "h")); shape = group (field (codes "c") repeated (leaf int64_kind) no_fields) }, refl, ((field (codes "c") repeated (leaf int64_kind) no_fields, refl), refl)), refl)

-- COUNT(g.b) WITHIN h: the chain of g.b doesn't
pub other_node : HasBadWithin pairs (aggregate count (path (g_b 13)) (Some (within_node node_h))) 18
other_node = (within_node node_h, refl, refl, λ k. true≢false (sym k.1))

-- COUNT(*) WITHIN RECORD
pub all_rows : HasBadWithin pairs (count_rows (Some (within_node whole_record))) 18
all_rows = (within_node whole_record, refl, refl)

-- ---- keys

-- a path that leads to a leaf has no problem
leads : (fs : Fields) (x : PathSyntax) (f : Found) (k : Kind) → find_path x.names fs ≡ Some f → f.shape ≡ leaf k → (p : BindProblem) → IsPathProblem fs x p → ⊥
leads fs x f k e s unknown_field m = none_some (sym m ∙ e)
  where
    none_some : ◌≡◌ {A = Option Found} None (Some f) → ⊥
    none_some h = absurd (cc)
leads fs x f k e s not_a_leaf m = no_group (sym s ∙ ap (λ (y : Found). y.shape) (same f m.0 (sym e ∙ m.2)) ∙ m.3)
  where
    same : (a b : Found) → ◌≡◌ {A = Option Found} (Some a) (Some b) → a ≡ b
    same a b h = cc

    no_group : leaf k ≡ group m.1 → ⊥
    no_group h = absurd (cc)
leads fs x f k e s unknown_table m = m
leads fs x f k e s type_mismatch m = m
leads fs x f k e s unrelated m = m
leads fs x f k e s bad_within m = m
leads fs x f k e s not_grouped m = m
leads fs x f k e s duplicate_name m = m

abbrev found_a : Found
found_a = record { path = steps_of pairs (one_name 0 (codes "a")); shape = leaf int64_kind }

-- a, where a is the key
pub a_key : IsKey pairs (one_name 40 (codes "a") ∷ []) (path (one_name 7 (codes "a")))
a_key = (0, one_name 40 (codes "a"), (refl, λ p i m. leads pairs (one_name 40 (codes "a")) found_a int64_kind refl refl p m.1), refl)

abbrev item_a : ItemSyntax
item_a = record { place = 7; term = expression (path (one_name 7 (codes "a"))); name = None }

-- SELECT a FROM T GROUP BY h.c
abbrev other_key : QuerySyntax
other_key = record { items = item_a ∷ []; table = record { place = 14; name = codes "T" }; condition = None; keys = h_c 25 ∷ [] }

some_keys : (k : PathSyntax) (ks : List PathSyntax) → (k ∷ ks) ≡ [] → ⊥
some_keys k ks h = absurd (cc)

same_key : (a b : PathSyntax) → ◌≡◌ {A = Option PathSyntax} (Some a) (Some b) → a ≡ b
same_key a b h = cc

no_key : (n : ℕ) (k : PathSyntax) → slice_get (h_c 25 ∷ []) n ≡ Some k → same_path (steps_of pairs k) (steps_of pairs (one_name 7 (codes "a"))) ≡ true → ⊥
no_key zero k e h = true≢false (sym h ∙ ap (λ (x : PathSyntax). same_path (steps_of pairs x) (steps_of pairs (one_name 7 (codes "a")))) (sym (same_key (h_c 25) k e)))
no_key (suc n) k e h = absurd (cc)

-- the item is no key
pub ungrouped : IsNotGrouped pairs other_key 7
ungrouped = (
  inl (some_keys (h_c 25) []),
  (0, item_a, (refl, λ p i m. leads pairs (one_name 7 (codes "a")) found_a int64_kind refl refl p m.1), refl, λ m. no_key m.0 m.1 m.2.0 m.3),
)

-- ---- names

abbrev numbered_item : ItemSyntax
numbered_item = record { place = 7; term = expression (number_literal 1); name = Some (codes "a") }

abbrev named_item : ItemSyntax
named_item = record { place = 15; term = expression (path (one_name 15 (codes "a"))); name = Some (codes "b") }

-- SELECT 1 AS a, a AS b FROM T
abbrev two_names : QuerySyntax
two_names = record { items = numbered_item ∷ named_item ∷ []; table = record { place = 27; name = codes "T" }; condition = None; keys = [] }

same : (a b : ItemSyntax) → ◌≡◌ {A = Option ItemSyntax} (Some a) (Some b) → a ≡ b
same a b h = cc

none_over : (n : ℕ) (x : ItemSyntax) → slice_get two_names.items n ≡ Some x → IsOverGroup x.term → ⊥
none_over zero x e o = subst (λ (y : ItemSyntax). IsOverGroup y.term) (sym (same numbered_item x e)) o
none_over (suc zero) x e o = subst (λ (y : ItemSyntax). IsOverGroup y.term) (sym (same named_item x e)) o
none_over (suc (suc n)) x e o = absurd (cc)

record_query : IsAggregateQuery two_names → ⊥
record_query (inl h) = h refl
record_query (inr (n, x, e, o)) = none_over n x e o

-- the first item has the name of the list that leads to the second
pub list_name : IsDuplicate pairs two_names 7
list_name = (0, numbered_item, (refl, λ p i m. m), refl, inr (1, named_item, (refl, λ p i m. leads pairs (one_name 15 (codes "a")) found_a int64_kind refl refl p m.1), (record_query, refl)))

abbrev second_item : ItemSyntax
second_item = record { place = 15; term = expression (number_literal 2); name = Some (codes "a") }

-- SELECT 1 AS a, 2 AS a FROM T
abbrev one_name_twice : QuerySyntax
one_name_twice = record { items = numbered_item ∷ second_item ∷ []; table = record { place = 27; name = codes "T" }; condition = None; keys = [] }

-- the second item has the name of the first
pub name_twice : IsDuplicate pairs one_name_twice 15
name_twice = (1, second_item, (refl, λ p i m. m), refl, inl (0, numbered_item, (refl, λ p i m. m), omega arith, inr refl, refl))

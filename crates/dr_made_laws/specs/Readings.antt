-- The readings of a group query, made of its keys and items: what is put of a row of each chain. Where each fires is free.
use Rattle.std.specs.Prelude.{◌≡◌, ℕ, suc, List, [], ◌∷◌, Option, None, Some}
use Rattle.dr_meaning.specs.Path.{Step, longer}
use Rattle.dr_meaning.specs.Record.{Value, Node}
use Rattle.dr_meaning.specs.Expression.{evaluate, expression_chain, longest_chain}
use Rattle.dr_meaning.specs.Query.{GroupTerm, key, count_rows, aggregate, GroupItem, groups, key_tuple}
use Rattle.dr_moves.specs.Context.{Context}
use Rattle.dr_kept_laws.specs.GroupFlow.{Reading}
use Rattle.dr_kept_laws.specs.GroupFlowLaws.{all_means}
use Rattle.dr_partials.specs.PartialTypes.{aggregates_among}
use Rattle.dr_partials.specs.Putting.{Put, puts_of_selection}

-- what is put of a row: its key tuple alone
abbrev pub keys_put : List (List Step) → Node → Put
keys_put keys row = record { keys = key_tuple keys row; taken = None }

-- with a value for the aggregate at this place
abbrev pub value_put : List (List Step) → ℕ → (Node → Option Value) → Node → Put
value_put keys i value row = record { keys = key_tuple keys row; taken = Some (record { aggregate = i; value = value row }) }

-- where a reading fires, at the triplets of a leaf, or without one where a record is left; and what it puts there
pub record Trigger : Type 0 where
  pub leaf : Option ℕ
  pub fires : Context → Put

-- a reading for the rows of a chain
abbrev pub reading_of : List Step → (Node → Put) → Trigger → Reading Put
reading_of level means t = record { leaf = t.leaf; fires = t.fires; level = level; means = means }

-- of aggregates of which the first is the ith: of each the values over its rows
abbrev pub term_readings : List (List Step) → ℕ → List GroupTerm → (ℕ → Trigger) → List (Reading Put)
term_readings keys i [] at = []
term_readings keys i (key j ∷ ts) at = term_readings keys (suc i) ts at
term_readings keys i (count_rows ∷ ts) at = reading_of (longest_chain keys) (value_put keys i (λ row. None)) (at i) ∷ term_readings keys (suc i) ts at
term_readings keys i (aggregate a e ∷ ts) at =
    reading_of (longer (longest_chain keys) (expression_chain e)) (value_put keys i (evaluate e)) (at i) ∷ term_readings keys (suc i) ts at

-- the first makes the groups of the rows of the keys' chain; then come the aggregates
abbrev pub group_readings : List (List Step) → List GroupItem → Trigger → (ℕ → Trigger) → List (Reading Put)
group_readings keys items first at = reading_of (longest_chain keys) (keys_put keys) first ∷ term_readings keys 0 (aggregates_among items) at

-- wherever they fire, together they mean in records what is put of these
abbrev pub ReadingsMeanPuts : Type 0
ReadingsMeanPuts = (keys : List (List Step)) (items : List GroupItem) (first : Trigger) (at : ℕ → Trigger) (S : List Node)
    → all_means (group_readings keys items first at) S ≡ puts_of_selection (groups keys items) S

-- What came of reading a production, against what the definitions say.
use Rattle.std.specs.Prelude.{◌≡◌, ℕ, MatchOption, Result, Ok, Err, ⊤, drop}
use Rattle.dr_meaning.specs.Parse as parse
use Rattle.dr_sql.specs.TokenViews.{placed_views}
use Rattle.dr_sql.specs.Faults.{fault_view}
use Rattle.dr_sql.specs.declared.fault.QueryFault.{QueryFault}
use Rattle.dr_sql.specs.declared.cursor.Cursor.{Cursor}

-- what a cursor has left of a text
abbrev pub unread : Cursor → parse.Unread
unread c = record { tokens = placed_views (drop c.read c.tokens.now); size = c.size; operators = c.operators }

-- the fault is that of reading; want of memory stands for any outcome
abbrev pub IsFaultOf : {A : Type 0} → QueryFault → parse.Parsed A → Type 0
IsFaultOf e meant = MatchOption (fault_view e) ⊤ (λ f. meant ≡ parse.refused f)

-- what was read, with what is left behind it, or the fault of reading
abbrev pub Reads : {A B : Type 0} → (A → B) → parse.Parsed B → parse.Unread → Result A QueryFault → Type 0
Reads see meant behind (Ok a) = meant ≡ parse.got (see a) behind
Reads see meant behind (Err e) = IsFaultOf e meant

-- a place, as it is
abbrev pub same : ℕ → ℕ
same i = i

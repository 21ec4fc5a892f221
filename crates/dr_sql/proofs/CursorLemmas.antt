-- What a cursor has left behind its next token.
use Rattle.std.specs.Prelude.{◌≡◌, ℕ, zero, suc, ◌+◌, List, [], ◌∷◌, drop}
use Rattle.std.proofs.Common.{refl, sym, ap₂, add-one}
use Rattle.dr_meaning.specs.Parse as parse
use Rattle.dr_sql.specs.TokenViews.{placed_views}
use Rattle.dr_sql.specs.declared.token.PlacedToken.{PlacedToken}

one_dropped : (ts : List PlacedToken) (i : ℕ) → parse.without_first (placed_views (drop i ts)) ≡ placed_views (drop (suc i) ts)
one_dropped [] zero = refl
one_dropped [] (suc i) = refl
one_dropped (t ∷ ts) zero = refl
one_dropped (t ∷ ts) (suc i) = one_dropped ts i

pub one_read : (ts : List PlacedToken) (i : ℕ) → parse.without_first (placed_views (drop i ts)) ≡ placed_views (drop (i + 1) ts)
one_read ts i = rw add-one (one_dropped ts i)

abbrev unread_at : List PlacedToken → ℕ → ℕ → ℕ → parse.Unread
unread_at ts i size count = record { tokens = placed_views (drop i ts); size = size; operators = count }

pub advanced : (ts : List PlacedToken) (i size count place : ℕ) → place ≡ parse.place_of (unread_at ts i size count)
    → parse.any_token (unread_at ts i size count) ≡ parse.got place (unread_at ts (i + 1) size count)
advanced ts i size count place e = ap₂ (λ (p : ℕ) (us : List _). parse.got p (record { tokens = us; size = size; operators = count })) (sym e) (one_read ts i)

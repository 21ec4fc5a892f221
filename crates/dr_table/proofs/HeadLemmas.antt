-- What a text's length and its form decide.
use Rattle.std.proofs.Common.{◌≡◌, ℕ, ◌<◌, ◌≤◌, List, length, Bool, true, false, refl, Err}
use Rattle.std.specs.Str.{is_utf8, IsUtf8}
use Rattle.std.proofs.lemmas.Bool.{lt-ltb, le-ltb}
use Rattle.std.proofs.lemmas.Str.{IsUtf8-from_is_utf8, is_utf8-from_IsUtf8}
use Rattle.dr_formats.specs.TableFile.{longest_table, table_too_long, bad_head, table_lines, outcome, parse_table}

pub text_is_too_long : (text : List ℕ) → longest_table < length text → parse_table text ≡ Err table_too_long
unfolding parse_table
text_is_too_long text h = rw (lt-ltb longest_table (length text) h) refl

pub text_is_read : (text : List ℕ) → length text ≤ longest_table → IsUtf8 text → parse_table text ≡ outcome (table_lines text)
unfolding parse_table
text_is_read text h u = rw (le-ltb longest_table (length text) h, is_utf8-from_IsUtf8 text u) refl

pub text_is_refused : (text : List ℕ) → length text ≤ longest_table → (IsUtf8 text → ⊥) → parse_table text ≡ Err bad_head
unfolding parse_table
text_is_refused text h u = by (is_utf8 text) refl
  where
    by : (b : Bool) → is_utf8 text ≡ b → parse_table text ≡ Err bad_head
    by true e = absurd (u (IsUtf8-from_is_utf8 text e))
    by false e = rw (le-ltb longest_table (length text) h, e) refl

use Rattle.std.proofs.Common.{◌∙◌, sym, ap, map, string_bytes}
use Rattle.std.proofs.lemmas.List.{take-map}
use Rattle.clap.specs.Words.{found_of, rows_of}
use Rattle.dr_words.proofs.LoadLemmas.{load_words_are, words_same}
use Rattle.dr_words.proofs.commands.load_words.load_of.Goals as goal

pub returns : goal.returns
returns c =
    let rows = rows_of (found_of c.args.matches.now) in
    load_words_are rows (string_bytes c.in_ok-schema.schema) (string_bytes c.in_ok-table.table) (map string_bytes c.in_ok-directories.directories.items) _
    c.in_ok-schema.ensures c.in_ok-table.ensures c.in_ok-directories.ensures
    (words_same _ _ _ _ _ _ _ _ _ _ (sym c.number_of-rows.ensures.number) (sym c.number_of-copies.ensures.number) (sym c.pages_of-pages.ensures) (take-map string_bytes 64 c.in_ok-directories.directories.items ∙ sym (ap (map string_bytes) c.truncate.ensures.items)))

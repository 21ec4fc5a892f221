-- Made records and their lines, by computation.
use Rattle.std.specs.Prelude.{◌≡◌, [], ◌∷◌, Ok, codes, refl}
use Rattle.std.specs.Str.{is_utf8, chars}
use Rattle.std.specs.Fmt.{digits}
use Rattle.json.specs.Print.{escape_byte}
use Rattle.serde_json.proofs.OnLiterals.{serde_json_on_literals}
use Rattle.dr_meaning.specs.SchemaText.{parse_schema}
use Rattle.dr_meaning.specs.JsonRecord.{record_of_line}
use Rattle.dr_meaning.specs.Lines.{records_of}
use Rattle.dr_meaning.specs.Print.{record_text}
use Rattle.dr_gen.specs.Document.{document_fields, document_text}
use Rattle.dr_gen.specs.Generator.{record_of, line_of, lines_from}

pub document_reads : parse_schema document_text ≡ Ok (record { name = codes "Document"; fields = document_fields })
unfolding parse_schema
document_reads = refl

pub no_lines : lines_from 7 0 ≡ codes ""
unfolding line_of record_of record_text escape_byte digits
no_lines = refl

-- the lines that the generator is told by
pub first_lines : lines_from 0 4 ≡ codes "{\"DocId\":0,\"Name\":[]}\n{\"DocId\":1,\"Links\":{\"Backward\":[2],\"Forward\":[10]},\"Name\":[{\"Language\":[{\"Code\":\"c1\"}],\"Url\":\"http://u/1\"}]}\n{\"DocId\":2,\"Links\":{\"Backward\":[3,4],\"Forward\":[20,21]},\"Name\":[{\"Language\":[{\"Code\":\"c2\",\"Country\":\"n2\"},{\"Code\":\"c3\"}]},{\"Language\":[],\"Url\":\"http://u/3\"}]}\n{\"DocId\":3,\"Name\":[{\"Language\":[],\"Url\":\"http://u/3\"},{\"Language\":[{\"Code\":\"c4\",\"Country\":\"n3\"}]},{\"Language\":[{\"Code\":\"c5\"},{\"Code\":\"c6\",\"Country\":\"n4\"}],\"Url\":\"http://u/5\"}]}\n"
unfolding line_of record_of record_text escape_byte digits
first_lines = refl

pub more_lines : lines_from 4 8 ≡ codes "{\"DocId\":4,\"Links\":{\"Backward\":[],\"Forward\":[40,41,42,43]},\"Name\":[]}\n{\"DocId\":5,\"Links\":{\"Backward\":[6],\"Forward\":[]},\"Name\":[{\"Language\":[{\"Code\":\"c5\"},{\"Code\":\"c6\",\"Country\":\"n6\"}],\"Url\":\"http://u/5\"}]}\n{\"DocId\":6,\"Name\":[{\"Language\":[]},{\"Language\":[{\"Code\":\"c7\"}],\"Url\":\"http://u/7\"}]}\n{\"DocId\":7,\"Links\":{\"Backward\":[8,9,10],\"Forward\":[70,71]},\"Name\":[{\"Language\":[{\"Code\":\"c7\"}],\"Url\":\"http://u/7\"},{\"Language\":[{\"Code\":\"c8\",\"Country\":\"n7\"},{\"Code\":\"c9\"}]},{\"Language\":[],\"Url\":\"http://u/9\"}]}\n{\"DocId\":8,\"Links\":{\"Backward\":[],\"Forward\":[80,81,82]},\"Name\":[]}\n{\"DocId\":9,\"Name\":[{\"Language\":[],\"Url\":\"http://u/9\"}]}\n{\"DocId\":10,\"Links\":{\"Backward\":[11,12],\"Forward\":[]},\"Name\":[{\"Language\":[{\"Code\":\"c10\",\"Country\":\"n0\"}]},{\"Language\":[{\"Code\":\"c11\"},{\"Code\":\"c12\",\"Country\":\"n1\"}],\"Url\":\"http://u/11\"}]}\n{\"DocId\":11,\"Links\":{\"Backward\":[12,13,14],\"Forward\":[110]},\"Name\":[{\"Language\":[{\"Code\":\"c11\"},{\"Code\":\"c12\",\"Country\":\"n2\"}],\"Url\":\"http://u/11\"},{\"Language\":[]},{\"Language\":[{\"Code\":\"c13\"}],\"Url\":\"http://u/13\"}]}\n"
unfolding line_of record_of record_text escape_byte digits
more_lines = refl

-- the numbers of codes begin anew at 100, those of countries at 10
pub past_one_hundred : lines_from 98 4 ≡ codes "{\"DocId\":98,\"Links\":{\"Backward\":[99,100],\"Forward\":[980,981,982]},\"Name\":[{\"Language\":[{\"Code\":\"c98\",\"Country\":\"n8\"},{\"Code\":\"c99\"}]},{\"Language\":[],\"Url\":\"http://u/99\"}]}\n{\"DocId\":99,\"Name\":[{\"Language\":[],\"Url\":\"http://u/99\"},{\"Language\":[{\"Code\":\"c0\",\"Country\":\"n9\"}]},{\"Language\":[{\"Code\":\"c1\"},{\"Code\":\"c2\",\"Country\":\"n0\"}],\"Url\":\"http://u/101\"}]}\n{\"DocId\":100,\"Links\":{\"Backward\":[],\"Forward\":[]},\"Name\":[]}\n{\"DocId\":101,\"Links\":{\"Backward\":[102],\"Forward\":[1010]},\"Name\":[{\"Language\":[{\"Code\":\"c1\"},{\"Code\":\"c2\",\"Country\":\"n2\"}],\"Url\":\"http://u/101\"}]}\n"
unfolding line_of record_of record_text escape_byte digits
past_one_hundred = refl

pub far_lines : lines_from 1000000003 2 ≡ codes "{\"DocId\":1000000003,\"Links\":{\"Backward\":[1000000004,1000000005,1000000006],\"Forward\":[10000000030,10000000031,10000000032]},\"Name\":[{\"Language\":[{\"Code\":\"c3\"}],\"Url\":\"http://u/1000000003\"},{\"Language\":[{\"Code\":\"c4\",\"Country\":\"n3\"},{\"Code\":\"c5\"}]},{\"Language\":[],\"Url\":\"http://u/1000000005\"}]}\n{\"DocId\":1000000004,\"Links\":{\"Backward\":[],\"Forward\":[10000000040,10000000041,10000000042,10000000043]},\"Name\":[]}\n"
unfolding line_of record_of record_text escape_byte digits
far_lines = refl

-- a line is read as the record that it was made of
pub a_line_reads : records_of document_fields 10 (lines_from 5 3) ≡ Ok (record_of 5 ∷ record_of 6 ∷ record_of 7 ∷ [])
unfolding records_of record_of_line is_utf8 chars serde_json_on_literals line_of record_of record_text escape_byte digits
a_line_reads = refl

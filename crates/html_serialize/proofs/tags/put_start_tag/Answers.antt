use Rattle.std.proofs.Common.{◌≡◌, ◌∙◌, List, ℕ, [], ◌++◌, ap, sym, encode_utf8_all}
use Rattle.std.specs.Prelude.{codes}
use Rattle.std.proofs.lemmas.List.{append-nil}
use Rattle.markup.specs.Escape.{start_tag, written_attributes}
use Rattle.html_serialize.specs.KnownTags.{bare_tag, front_of}
use Rattle.html_serialize.proofs.KnownTags.{bare-ends, bare-front}
use Rattle.html_serialize.proofs.TagBytes.{start_tag-bytes}
use Rattle.html_serialize.proofs.tags.put_start_tag.Goals as goal

pub put_known_start_tag-requires : goal.put_known_start_tag-requires
put_known_start_tag-requires g c =
    let name = c.args.name.now.local in
    bare-ends c.as_bytes.result.now name (c.as_bytes.ensures.value ∙ (c.start_tag.ensures name (rw c.in-Some.is at c.requires)).0)

pub returns-in-Some-clause-puts : goal.returns-in-Some-clause-puts
returns-in-Some-clause-puts g c =
    let name = c.args.name.now.local in
    let attributes = encode_utf8_all (written_attributes c.args.attrs.now) in
    let known = c.start_tag.ensures name (rw c.in-Some.is at c.requires) in
    let front = bare-front c.as_bytes.result.now name (c.as_bytes.ensures.value ∙ known.0) in
    let whole : encode_utf8_all (start_tag name c.args.attrs.now) ≡ front_of c.as_bytes.result.now ++ (attributes ++ codes ">") =
    start_tag-bytes name c.args.attrs.now name known.1
    ∙ ap (λ (xs : List ℕ). (codes "<" ++ xs) ++ (attributes ++ codes ">")) (append-nil name)
    ∙ ap (λ (xs : List ℕ). xs ++ (attributes ++ codes ">")) (sym front) in
    rw whole c.put_known_start_tag.ensures.puts

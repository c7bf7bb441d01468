use Rattle.std.proofs.Common.{◌≡◌, ◌∙◌, ℕ, ◌+◌, ◌<◌, List, [], ◌∷◌, ◌++◌, take, drop, length, get_or, ap, sym, encode_utf8_all}
use Rattle.std.proofs.lemmas.List.{append-nil, drop_more, take_more, take-append-drop}
use Rattle.std.proofs.lemmas.Str.{encodes-append}
use Rattle.markup.specs.Escape.{written_attribute, written_attributes}
use Rattle.markup.specs.declared.attributes.Attribute.{Attribute}
use Rattle.html_serialize.specs.Puts.{told_by, with_bytes}
use Rattle.html_serialize.proofs.Putting.{Puts-failed, with_bytes-then}
use Rattle.html_serialize.proofs.TagBytes.{attributes-append}
use Rattle.html_serialize.proofs.tags.put_attributes.Goals as goal

abbrev bytes_of : List Attribute → List ℕ
bytes_of attributes = encode_utf8_all (written_attributes attributes)

more : (attributes : List Attribute) (i : ℕ) (x : Attribute) → i < length attributes → x ≡ get_or attributes i x
    → bytes_of (take (i + 1) attributes) ≡ bytes_of (take i attributes) ++ encode_utf8_all (written_attribute x)
more attributes i x less is =
    ap bytes_of (take_more attributes i x less) ∙ attributes-append (take i attributes) (get_or attributes i x ∷ [])
    ∙ ap (λ (text : List ℕ). bytes_of (take i attributes) ++ encode_utf8_all text) (append-nil (written_attribute (get_or attributes i x)))
    ∙ ap (λ (y : Attribute). bytes_of (take i attributes) ++ encode_utf8_all (written_attribute y)) (sym is)

around : (attributes : List Attribute) (i : ℕ) (x : Attribute) → i < length attributes → x ≡ get_or attributes i x
    → bytes_of attributes ≡ bytes_of (take i attributes) ++ (encode_utf8_all (written_attribute x) ++ bytes_of (drop (i + 1) attributes))
around attributes i x less is =
    ap bytes_of (sym (take-append-drop i attributes)) ∙ attributes-append (take i attributes) (drop i attributes)
    ∙ ap (λ (rest : List Attribute). bytes_of (take i attributes) ++ bytes_of rest) (drop_more attributes i x less)
    ∙ ap (λ (y : Attribute). bytes_of (take i attributes) ++ bytes_of (y ∷ drop (i + 1) attributes)) (sym is)
    ∙ ap (λ (bytes : List ℕ). bytes_of (take i attributes) ++ bytes)
    (encodes-append (written_attribute x) (written_attributes (drop (i + 1) attributes)))

pub loop-attribute-preserved : goal.loop-attribute-preserved
loop-attribute-preserved g c =
    let attributes = c.args.attrs.now in
    let i = c.loop-attribute.attribute-index in
    record {
      so_far =
          with_bytes-then (told_by g.Wr.Target.written g.Wr.Target.failures c.args.writer.now) _ _
          (bytes_of (take i attributes)) (encode_utf8_all (written_attribute c.attribute-item.result))
          c.loop-attribute.invariant.so_far c.in_ok-put_attribute.ensures.puts
          ∙ ap (with_bytes (told_by g.Wr.Target.written g.Wr.Target.failures c.args.writer.now))
          (sym (more attributes i c.attribute-item.result c.loop-attribute-test.true c.attribute-item.is));
      same_references = c.in_ok-put_attribute.ensures.same_references ∙ c.loop-attribute.invariant.same_references;
    }

pub returns-in_err-put_attribute-clause-puts : goal.returns-in_err-put_attribute-clause-puts
returns-in_err-put_attribute-clause-puts g c =
    let attributes = c.args.attrs.now in
    let i = c.loop-attribute.attribute-index in
    Puts-failed _ _ _ (bytes_of (take i attributes)) (encode_utf8_all (written_attribute c.attribute-item.result))
    (bytes_of (drop (i + 1) attributes)) _ _ _ c.from_residual.ensures.1 c.loop-attribute.invariant.so_far
    c.in_err-put_attribute.ensures.puts
    (around attributes i c.attribute-item.result c.loop-attribute-test.true c.attribute-item.is)

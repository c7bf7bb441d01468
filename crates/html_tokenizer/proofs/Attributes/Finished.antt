-- An attribute that was read is added to the tag.
use Rattle.std.proofs.Common.{◌≡◌, ℕ, false, List, [], ◌∷◌, ◌++◌, None, Result, Ok, Err, refl}
use Rattle.std.specs.Prelude.{OnOk}
use Rattle.markup.specs.declared.attributes.Attribute.{Attribute}
use Rattle.markup.specs.declared.fault.ParseFault.{ParseFault}
use Rattle.markup.specs.declared.names.QualName.{QualName}
use Rattle.html_tokens.specs.Tags.{attribute, has_attribute, with_attribute}
use Rattle.html_tokenizer.specs.declared.tokenizer.Tokenizer.{Tokenizer}

-- an attribute without prefix and namespace
pub plain : (q : QualName) (ns local value name text : List ℕ) → q ≡ record {
  prefix = None;
  ns = ns;
  local = local;
} → ns ≡ [] → local ≡ name → value ≡ text → record { name = q; value = value } ≡ attribute name text
plain q ns local value name text is empty_ns is_name is_text = rw (is, empty_ns, is_name, is_text) refl

-- it is added where the tag has none of its name
pub added : {K : Type 0} (old : Tokenizer K) (r : Result (Unit {0}) ParseFault) (attrs : List Attribute)
    (more : Attribute) (name value : List ℕ) → has_attribute old.tag name ≡ false
    → OnOk r (attrs ≡ old.tag.attrs ++ more ∷ []) → more ≡ attribute name value
    → OnOk r (record old { tag = record old.tag { attrs = attrs } } ≡ record old { tag = with_attribute old.tag name value })
added old (Ok x) attrs more name value missing pushed is = rw (pushed, is, missing) refl
added old (Err fault) attrs more name value missing pushed is = tt

-- the one that was read was
pub finished : {K : Type 0} (old new : Tokenizer K) (name value no_name no_value : List ℕ)
    (r : Result (Unit {0}) ParseFault) → name ≡ old.attribute_name → value ≡ old.attribute_value → no_name ≡ [] → no_value ≡ []
    → OnOk r (new ≡ record old { tag = with_attribute old.tag name value; attribute_name = no_name; attribute_value = no_value })
    → OnOk r (new ≡ record old
    { tag = with_attribute old.tag old.attribute_name old.attribute_value; attribute_name = []; attribute_value = [] })
finished old new name value no_name no_value r e f n v h = rw (e, f, n, v) at h

-- The forms of which faithful trees are written.
use Rattle.std.specs.Prelude.{◌≡◌, true, map}
use Rattle.markup.specs.Trees.{Trees, Nothing, Text, Comment, ProcessingInstruction, Doctype, Element}
use Rattle.html_rules.specs.Conditions.{is_nonempty}
use Rattle.html_faithful.specs.Forms.{are_told, is_comment_text, is_kept, is_tag_name, lowered, told_attribute}

-- names, attributes, texts and comments that are read as they are written
abbrev pub AreForms : Trees → Type 0
AreForms Nothing = Unit {0}
AreForms (Text text rest) = (is_nonempty text ≡ true) × (is_kept text ≡ true) × AreForms rest
AreForms (Comment text rest) = (is_comment_text text ≡ true) × AreForms rest
AreForms (ProcessingInstruction target text rest) = ⊥
AreForms (Doctype name public_id system_id rest) = ⊥
AreForms (Element name attributes template kids rest) =
    (is_tag_name (lowered name.local) ≡ true) × (are_told (map told_attribute attributes) ≡ true) × AreForms kids × AreForms rest

use Rattle.std.proofs.Common.{◌≡◌, ◌∙◌, ℕ, List, Bool, Some, cond, ap, sym, encode_utf8_all}
use Rattle.std.specs.Option.{option_copied}
use Rattle.markup.specs.Forest.{data_of, element_name}
use Rattle.html_inner_text.specs.Styles as styles
use Rattle.html_inner_text.proofs.Spelled.{bytes_of}
use Rattle.html_inner_text.proofs.kinds.kind_of.Goals as goal

pub returns-then-is_known : goal.returns-then-is_known
returns-then-is_known c =
    let f = c.args.forest.now in
    let n = c.args.id in
    let local = encode_utf8_all c.in-Some.name.now.local in
    let named : Some c.in-Some.name.now ≡ element_name (data_of f n) = sym (ap option_copied c.in-Some.is) ∙ c.element_name.ensures in
    c.html_kind.ensures
    ∙ (ap (λ (l : List ℕ). styles.html_kind f n l) (bytes_of c.as_str.result.now _ c.as_str.utf8 c.as_str.ensures)
    ∙ (ap (λ (b : Bool). cond b (styles.html_kind f n local) (styles.foreign_kind local)) (sym c.if-is_known.true ∙ c.is_known.ensures)
    ∙ ap (styles.kind_by f n) named))

pub returns-else-is_known : goal.returns-else-is_known
returns-else-is_known c =
    let f = c.args.forest.now in
    let n = c.args.id in
    let local = encode_utf8_all c.in-Some.name.now.local in
    let named : Some c.in-Some.name.now ≡ element_name (data_of f n) = sym (ap option_copied c.in-Some.is) ∙ c.element_name.ensures in
    c.foreign_kind.ensures
    ∙ (ap (λ (l : List ℕ). styles.foreign_kind l)
    (bytes_of c.as_str-else-is_known.result.now _ c.as_str-else-is_known.utf8 c.as_str-else-is_known.ensures)
    ∙ (ap (λ (b : Bool). cond b (styles.html_kind f n local) (styles.foreign_kind local)) (sym c.if-is_known.false ∙ c.is_known.ensures)
    ∙ ap (styles.kind_by f n) named))

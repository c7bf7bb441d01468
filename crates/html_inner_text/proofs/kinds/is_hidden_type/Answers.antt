use Rattle.std.proofs.Common.{◌∙◌, ℕ, List, ap, sym, map, codes}
use Rattle.std.specs.Bool.{one_answer}
use Rattle.std.specs.Char.{to_ascii_lowercase}
use Rattle.std.specs.Str.{bytes_eq}
use Rattle.std.proofs.lemmas.Slice.Eq.{bytes_eq-Decides}
use Rattle.std.proofs.lemmas.Str.{encodes-chars}
use Rattle.html_inner_text.proofs.kinds.is_hidden_type.Goals as goal

pub returns : goal.returns
returns c =
    let value = c.args.value.now in
    one_answer c.eq_ignore_ascii_case.result (bytes_eq (map to_ascii_lowercase value) (codes "hidden"))
    c.eq_ignore_ascii_case.ensures.test (bytes_eq-Decides (map to_ascii_lowercase value) (codes "hidden"))
    ∙ ap (λ (bytes : List ℕ). bytes_eq (map to_ascii_lowercase bytes) (codes "hidden")) (sym (encodes-chars value c.utf8.value))

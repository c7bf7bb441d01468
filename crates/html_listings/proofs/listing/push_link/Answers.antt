use Rattle.std.proofs.Common.{◌≡◌, ◌∙◌, ◌++◌, Bool, List, ℕ, [], ap, append-nil, encode_utf8_all, false, refl, sym, true}
use Rattle.std.specs.Prelude.{if◌then◌else◌}
use Rattle.std.specs.String.{string_bytes}
use Rattle.html_extracts.proofs.Spelled.{bytes_of}
use Rattle.html_listings.specs.Listings.{absolute, is_left_out, line_of, text_or, url_line}
use Rattle.html_listings.proofs.listing.push_link.Goals as goal

when_out : (out : Bool) (line : List ℕ) → out ≡ true → [] ≡ (if out then [] else line)
when_out out line is = rw is refl

when_listed : (out : Bool) (line : List ℕ) → out ≡ false → line ≡ (if out then [] else line)
when_listed out line is = rw is refl

pub returns-then-is_left_out-clause-ok : goal.returns-then-is_left_out-clause-ok
unfolding line_of
returns-then-is_left_out-clause-ok c =
    let text = bytes_of c.as_str-text.result.now _ c.as_str-text.utf8 c.as_str-text.ensures in
    sym (append-nil (string_bytes c.args.line.now)) ∙ ap (λ more. string_bytes c.args.line.now ++ more)
    (when_out _ _ (ap (is_left_out c.args.listing.now) (sym text) ∙ (sym c.is_left_out.ensures ∙ c.if-is_left_out.true)))

pub returns-clause-ok : goal.returns-clause-ok
unfolding line_of
returns-clause-ok c =
    let page = c.args.page.now in
    let line : List ℕ → List ℕ = url_line c.args.listing.now page.forest.now page.name.now (string_bytes page.prefix) c.args.link.now in
    let text = bytes_of c.as_str-text.result.now _ c.as_str-text.utf8 c.as_str-text.ensures in
    let shown : c.text_or.result.now ≡ absolute page.base (encode_utf8_all c.args.link.now.url) =
    c.text_or.ensures ∙ (ap (λ url. text_or url c.as_str-text.result.now) c.in_ok-url.ensures.ok ∙ ap (absolute page.base) text) in
    c.in_ok-push_line.ensures ∙ (ap (λ url. string_bytes c.args.line.now ++ line url) shown
    ∙ ap (λ more. string_bytes c.args.line.now ++ more)
    (when_listed _ _ (ap (is_left_out c.args.listing.now) (sym text) ∙ (sym c.is_left_out.ensures ∙ c.if-is_left_out.false))))

use Rattle.std.proofs.Common.{◌≡◌, ◌∙◌, Bool, List, ℕ, [], Some, ap, encode_utf8_all, refl, sym, true}
use Rattle.std.specs.Prelude.{if◌then◌else◌}
use Rattle.std.specs.List.{flat_map}
use Rattle.std.specs.Option.{option_copied}
use Rattle.markup.specs.Forest.{data_of, element_name}
use Rattle.html_extracts.proofs.Spelled.{bytes_of}
use Rattle.html_listings.specs.Links.{kinds, links_at, links_named, links_of}
use Rattle.html_listings.specs.declared.links.Link.{Link}
use Rattle.html_listings.proofs.links.push_links.Goals as goal

if_html : (html : Bool) (links : List Link) → html ≡ true → links ≡ (if html then links else [])
if_html html links is = rw is refl

pub returns-clause-ok : goal.returns-clause-ok
unfolding links_at
returns-clause-ok c =
    let f = c.args.forest.now in
    let named : Some c.in-Some.name.now ≡ element_name (data_of f c.args.node) =
    sym (ap option_copied c.in-Some.is) ∙ c.element_name.ensures in
    let local = bytes_of c.as_str.result.now _ c.as_str.utf8 c.as_str.ensures in
    let all : flat_map (links_of f c.args.node c.as_str.result.now) kinds ≡ links_at f c.args.node =
    ap (λ (name : List ℕ). flat_map (links_of f c.args.node name) kinds) local
    ∙ (if_html _ (flat_map (links_of f c.args.node (encode_utf8_all c.in-Some.name.now.local)) kinds)
    (sym c.is_known.ensures ∙ c.if-not-is_known.false)
    ∙ ap (λ name. links_named f c.args.node name) named) in
    rw (sym all) c.push_kinds.ensures.ok

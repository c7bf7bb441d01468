use Rattle.std.proofs.Common.{◌≡◌, ◌∙◌, Err, List, ap, subst, ℕ}
use Rattle.std.proofs.lemmas.Result.{err_from_is_err_and}
use Rattle.std.specs.Prelude.{filter}
use Rattle.markup.specs.Forest.{Forest}
use Rattle.html_extracts.proofs.Listing.{Written}
use Rattle.html_serialize.specs.Puts.{told_by, with_bytes}
use Rattle.html_nodes.specs.Below.{below}
use Rattle.html_selector_matching.specs.Selects.{is_any, scope_of}
use Rattle.selectors.specs.declared.selector.Selectors.{Selectors}
use Rattle.html_listings.specs.Selected.{elements_text, selected_in}
use Rattle.html_listings.specs.declared.selected.Show.{Show}
use Rattle.html_listings.proofs.selected.write_selected.Goals as goal

-- the same prefix, and the same elements
same : (show : Show) (f : Forest) (file prefix prefix' : List ℕ) (found found' : List ℕ) → prefix ≡ prefix' → found ≡ found'
    → elements_text show f file prefix found ≡ elements_text show f file prefix' found'
same show f file prefix prefix' found found' p e = λ i. elements_text show f file (p i) (e i)

-- the elements that were found below the document
found_is : (selectors : Selectors) (f : Forest) (top : ℕ) (slice found : List ℕ) → slice ≡ found
    → found ≡ filter (is_any selectors f (scope_of f top)) (below f top) → top ≡ 0 → slice ≡ selected_in selectors f
found_is selectors f top slice found value is document =
    value ∙ (is ∙ ap (λ n. filter (is_any selectors f (scope_of f n)) (below f n)) document)

pub returns-in_err-put_all-clause-writes : goal.returns-in_err-put_all-clause-writes
returns-in_err-put_all-clause-writes g c =
    let p = err_from_is_err_and c.from_residual-in_err-put_all.result c.from_residual-in_err-put_all.ensures.1 in
    rw (p.1, p.2) (subst (λ (bytes : List ℕ). Written bytes (told_by g.W.Target.written g.W.Target.failures c.args.writer.now)
    (Err c.in_err-put_all.field-0.0) (told_by g.W.Target.written g.W.Target.failures c.put_all.new.writer))
    (same c.args.show.now c.args.forest.now c.args.file.now _ _ _ _ c.in_ok-prefix_of.ensures
    (found_is c.args.selectors.now c.args.forest.now _ _ _ c.as_slice.ensures.value c.in-Ok.ensures.ok c.document.ensures))
    c.in_err-put_all.ensures)

pub returns-clause-writes : goal.returns-clause-writes
returns-clause-writes g c =
    c.in_ok-put_all.ensures ∙ ap (with_bytes (told_by g.W.Target.written g.W.Target.failures c.args.writer.now))
    (same c.args.show.now c.args.forest.now c.args.file.now _ _ _ _ c.in_ok-prefix_of.ensures
    (found_is c.args.selectors.now c.args.forest.now _ _ _ c.as_slice.ensures.value c.in-Ok.ensures.ok c.document.ensures))

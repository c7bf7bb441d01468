-- What each command writes of a page, from what the calls answered.
use Rattle.std.proofs.Common.{◌≡◌, ◌∙◌, ◌+◌, ◌<◌, ℕ, true, List, [], ◌∷◌, ◌++◌, Err, ap}
use Rattle.std.proofs.Common.{append_assoc, drop, get_or, length, map, refl, sym, take}
use Rattle.std.proofs.lemmas.List.{append-nil, map-append, take-append-drop, take_more}
use Rattle.std.specs.Prelude.{None, cond, encode_utf8_all, false}
use Rattle.std.specs.Str.{chars}
use Rattle.figpliers.specs.Document.{document_bytes}
use Rattle.figpliers.specs.Forest.{Forest, children_of, data_of, template_of}
use Rattle.figpliers.specs.Forest.NodeData.{Document}
use Rattle.figpliers.specs.InnerText.{IsInnerText}
use Rattle.figpliers.specs.Lines.{tree_lines}
use Rattle.figpliers.specs.Pages.{IsFragment, html_name}
use Rattle.figpliers.specs.Puts.{WriterView, with_bytes}
use Rattle.figpliers.specs.Serializing.{bytes_in}
use Rattle.figpliers.specs.Table.{Row}
use Rattle.figpliers.specs.TraversalScope.TheVariants.{ChildrenOnly}
use Rattle.figpliers.specs.Trees.{default_entry, trees_of, written}
use Rattle.figpliers.specs.Walk.{walked}
use Rattle.html_serialize.specs.declared.opts.SerializeOpts.{SerializeOpts}
use Rattle.figpliers_program.specs.Pages.{FragmentText, RenderedText}
use Rattle.html_places.specs.declared.place.Place.{Place}
use Rattle.figpliers_program.specs.Pages.{ended, error_line, error_lines, top_of}
use Rattle.figpliers_program.specs.Printing.{IsCut}
use Rattle.figpliers_program.specs.declared.faults.PageFault.{PageFault}
use Rattle.figpliers_program.specs.declared.faults.Verdict.{Verdict}
use Rattle.figpliers_program.specs.declared.faults.Verdict.TheVariants.{Fine}
use Rattle.figpliers_program.proofs.Printing.{cut-longer, prints-behind}

pub rendered : (document : Forest) (node : ℕ) (text : List ℕ) → node ≡ 0 → IsInnerText document node (chars text)
    → RenderedText document (ended text) Fine
rendered document node text is text_is = record {
  rendered = text;
  is_rendered = rw is at text_is;
  written = refl;
  done = refl;
}

pub fragment_lines : (table : List Row) (element page : List ℕ) (document : Forest) (node : ℕ) → node ≡ top_of (children_of document 0)
    → IsFragment table (html_name (chars element)) (chars page) document → FragmentText table element page (tree_lines document node) Fine
fragment_lines table element page document node is fragment_is =
    record { document = document; is_fragment = fragment_is; written = ap (tree_lines document) is; done = refl }

-- what is written of a document, with default options
abbrev pub given : SerializeOpts → Forest → ℕ → List ℕ
given opts f id = bytes_in opts.scripting_enabled opts.traversal_scope (walked f id opts.traversal_scope)

-- is its normal text
pub document-given : (f : Forest) (id : ℕ) (opts : SerializeOpts) → data_of f 0 ≡ Document → id ≡ 0 → opts ≡ record {
  scripting_enabled = true;
  traversal_scope = ChildrenOnly None;
  create_missing_parent = false;
} → given opts f id ≡ document_bytes f
document-given f id opts top id_is opts_is =
    ap (λ (o : SerializeOpts). given o f id) opts_is
    ∙ ap (λ n. bytes_in true (ChildrenOnly None) (walked f n (ChildrenOnly None))) id_is
    ∙ ap (λ about. encode_utf8_all (written true default_entry (trees_of f (children_of f (cond (template_of about) 1 0))))) top

-- `errors`: the lines of several errors after those of others
lines-append : (name : List ℕ) (errors others : List (Place × List ℕ))
    → error_lines name (errors ++ others) ≡ error_lines name errors ++ error_lines name others
lines-append name [] others = refl
lines-append name (e ∷ errors) others = ap (λ rest. error_line name e ++ rest) (lines-append name errors others)
    ∙ sym (append_assoc (error_line name e) (error_lines name errors) (error_lines name others))

-- one line more
pub lines-next : {X : Type 0} (note : X → Place × List ℕ) (name : List ℕ) (items : List X) (i : ℕ) (d : X) (error : Place × List ℕ)
    → i < length items → error ≡ note (get_or items i d)
    → error_lines name (map note (take i items)) ++ error_line name error ≡ error_lines name (map note (take (i + 1) items))
lines-next note name items i d error inside is =
    ap (λ e. error_lines name (map note (take i items)) ++ error_line name e) is
    ∙ sym (ap (λ xs. error_lines name (map note xs)) (take_more items i d inside)
    ∙ ap (error_lines name) (map-append note (take i items) (get_or items i d ∷ []))
    ∙ lines-append name (map note (take i items)) (note (get_or items i d) ∷ [])
    ∙ ap (λ line. error_lines name (map note (take i items)) ++ line) (append-nil (error_line name (note (get_or items i d)))))

-- a line that was not all written
pub lines-cut : {X : Type 0} (note : X → Place × List ℕ) (name : List ℕ) (items : List X) (i : ℕ) (d : X) (error : Place × List ℕ)
    (old mid new : WriterView) (fault : PageFault) → i < length items → error ≡ note (get_or items i d)
    → mid ≡ with_bytes old (error_lines name (map note (take i items))) → IsCut (error_line name error) mid fault new
    → IsCut (error_lines name (map note items)) old fault new
lines-cut note name items i d error old mid new fault inside is put cut =
    let done = error_lines name (map note (take i items)) in
    let rest = error_lines name (map note (drop (i + 1) items)) in
    let whole : error_lines name (map note items) ≡ (done ++ error_line name error) ++ rest =
    ap (λ xs. error_lines name (map note xs)) (sym (take-append-drop (i + 1) items))
    ∙ ap (error_lines name) (map-append note (take (i + 1) items) (drop (i + 1) items))
    ∙ lines-append name (map note (take (i + 1) items)) (map note (drop (i + 1) items))
    ∙ ap (λ front. front ++ rest) (sym (lines-next note name items i d error inside is)) in
    rw whole (cut-longer old new (done ++ error_line name error) rest fault
    (prints-behind {R = Verdict} old mid new done (error_line name error) (Err fault) put cut))

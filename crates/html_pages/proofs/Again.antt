-- A document that is written and read again.
use Rattle.std.proofs.Common.{◌≡◌, ◌∙◌, Bool, true, false, List, [], ℕ, Option, Some, None, Result, Ok, Err, IsUtf8, sym, ap, subst}
use Rattle.std.specs.Bool.{Decides}
use Rattle.std.specs.Io.KnownBytes.{append_known}
use Rattle.markup.specs.Calls.{calls_of}
use Rattle.markup.specs.Forest.{Forest, data_of, empty_forest}
use Rattle.markup.specs.Forest.NodeData.{Document}
use Rattle.markup.specs.TreeLaws.{with_errors}
use Rattle.markup.specs.Trees.{inner_of}
use Rattle.markup.specs.declared.serializer.TraversalScope.TheVariants.{ChildrenOnly}
use Rattle.html_forest.specs.Walk.{walked}
use Rattle.html_rules.specs.State.{State}
use Rattle.html_serialize.specs.Puts.{WriterView, with_bytes}
use Rattle.html_serialize.specs.Serializing.{bytes_in}
use Rattle.html_serialize.specs.declared.opts.SerializeOpts.{SerializeOpts}
use Rattle.html_tokens.specs.Sink.{Refusal}
use Rattle.html_tokens.specs.Table.{Row}
use Rattle.html_normal.specs.Document.{IsDocument, document_bytes}
use Rattle.html_normal.proofs.Meanings.{bytes-walked}
use Rattle.html_normal.proofs.SameTrees.{trees_of-same}
use Rattle.html_pages.specs.Pages.{IsPage}
use Rattle.html_pages.specs.ReadBack.{IsReadBack, told_of}

forest_in : Result State Refusal → Forest
forest_in (Ok state) = state.forest
forest_in (Err refusal) = empty_forest

-- bytes have one document
one-document : (table : List Row) (bytes : List ℕ) (f g : Forest) → IsDocument table bytes f → IsDocument table bytes g → f ≡ g
unfolding forest_in
one-document table bytes f g a b = a.tree ∙ (ap forest_in (sym a.read ∙ b.read) ∙ sym b.tree)

told-same : (f : Forest) → told_of (with_errors 0 f) ≡ told_of f
told-same f = ap calls_of (trees_of-same 0 f (inner_of f 0))

-- what was read again is the document just where a serializer is told the same
pub read-back : (table : List Row) (f again : Forest) (bytes : List ℕ) (is : Bool) → bytes ≡ document_bytes f
    → IsPage table false bytes again → Decides is ((told_of f ≡ told_of again) × (f.quirks ≡ again.quirks))
    → Decides is (IsReadBack table f)
read-back table f again bytes is written page d =
    let input : IsDocument table (document_bytes f) (with_errors 0 again) =
    subst (λ (bs : List ℕ). IsDocument table bs (with_errors 0 again)) written page.document in (
      λ e. let h = d.0 e in record { document = with_errors 0 again; input = input; told = told-same again ∙ sym h.0; quirks = sym h.1 },
      λ p.
          let same : p.document ≡ with_errors 0 again = one-document table (document_bytes f) p.document
          (with_errors 0 again) p.input input in
          d.1 (sym p.told ∙ (ap told_of same ∙ told-same again), sym p.quirks ∙ ap (λ (g : Forest). g.quirks) same),
    )

-- what is written as no text is not read back
pub not-read-back : (table : List Row) (f : Forest) → ¬ IsUtf8 (document_bytes f) → Decides false (IsReadBack table f)
not-read-back table f not_text = (λ e. absurd (cc), λ p. absurd (not_text p.input.text))

abbrev given : SerializeOpts → Forest → ℕ → List ℕ
given opts f id = bytes_in opts.scripting_enabled opts.traversal_scope (walked f id opts.traversal_scope)

bytes_known : Option (List ℕ) → List ℕ
bytes_known None = []
bytes_known (Some bytes) = bytes

-- what was written of the document, with default options, to who had nothing
pub written-bytes : (f : Forest) (id : ℕ) (opts : SerializeOpts) (old new : WriterView) (bytes : List ℕ)
    → data_of f 0 ≡ Document → id ≡ 0 → opts ≡ record {
      scripting_enabled = true;
      traversal_scope = ChildrenOnly None;
      create_missing_parent = false;
    }
    → old.written ≡ Some [] → new ≡ with_bytes old (given opts f id) → new.written ≡ Some bytes → bytes ≡ document_bytes f
unfolding bytes_known
written-bytes f id opts old new bytes top id_is opts_is none wrote told =
    let all : given opts f id ≡ document_bytes f =
    ap (λ (o : SerializeOpts). given o f id) opts_is
    ∙ (ap (λ n. bytes_in true (ChildrenOnly None) (walked f n (ChildrenOnly None))) id_is ∙ bytes-walked f top) in
    ap bytes_known (sym told ∙ (ap (λ (t : WriterView). t.written) wrote
    ∙ ap (λ (o : Option (List ℕ)). append_known o (given opts f id)) none)) ∙ all
